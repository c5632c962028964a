use Rattle.std.proofs.Common.{◌∙◌, sym, arith}
use Rattle.rtc_sctp.proofs.RetryLemmas.{any_of, none_begins, none_goes, none_left}
use Rattle.rtc_sctp.proofs.timing.any_retrying.Goals as goal

pub streams-init : goal.streams-init
streams-init c = record { within = omega arith; none = none_begins c.args.entries.now }

pub returns-then-is_retried : goal.returns-then-is_retried
returns-then-is_retried c = sym (any_of c.in-Some.id c.args.entries.now (sym c.is_retried.ensures ∙ c.if-is_retried.true))

pub streams-preserved : goal.streams-preserved
streams-preserved c = record {
  within = omega arith;
  none =
      none_goes c.streams.from c.in-Some.id c.args.streams.now c.args.entries.now c.requires.noted c.streams.invariant.none c.in-Some.ensures.before
      (sym c.is_retried.ensures ∙ c.if-is_retried.false);
}

pub returns : goal.returns
returns c = sym (none_left c.streams.from c.args.streams.now c.args.entries.now c.requires.noted c.streams.invariant.none c.in_default.ensures)
