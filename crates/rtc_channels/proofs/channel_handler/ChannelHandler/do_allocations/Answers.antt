use Rattle.std.proofs.Common.{◌∙◌, ◌<◌, sym, ap, refl, arith, length, take}
use Rattle.std.specs.Prelude.{slice_get}
use Rattle.rtc_channels.specs.Ids.{parity_of}
use Rattle.rtc_channels.specs.Channels.{Channels}
use Rattle.rtc_channels.specs.Allocation.{is_given}
use Rattle.rtc_channels.proofs.GivingLemmas.{none_waiting, sought_not_given, step_none, step_some, ok_of, err_of}
use Rattle.rtc_channels.proofs.UnheldLemmas.{given_unheld}
use Rattle.rtc_channels.proofs.SettledLemmas.{settled_within, settled_allocated}
use Rattle.rtc_channels.proofs.channel_handler.ChannelHandler.do_allocations.Goals as goal
use Rattle.rtc_channels.proofs.channel_handler.ChannelHandler.do_allocations.Goals.{in-Some+else-is_err, in_default}

pub returns-then-not-is_waiting-clause-allocates : goal.returns-then-not-is_waiting-clause-allocates
returns-then-not-is_waiting-clause-allocates c = sym (none_waiting (parity_of c.args.client) c.args.self.now.rows c.args.self.now (grind (arith, c.is_waiting.ensures, c.if-not-is_waiting.true)))

pub places-init : goal.places-init
places-init c = record {
  within = omega (arith, settled_within c.first_unsettled-place.result c.args.self.now.rows c.first_unsettled-place.ensures, c.count-count.ensures);
  count = c.count-count.ensures;
  size = refl;
  done = sym (settled_allocated (parity_of c.args.client) c.first_unsettled-place.result c.args.self.now c.args.self.now.rows c.first_unsettled-place.ensures);
  rest = λ k more. refl;
}

pub give_at-requires-clause-free : goal.give_at-requires-clause-free
give_at-requires-clause-free c =
    sought_not_given (slice_get c.places.self.rows c.places.place) (parity_of c.args.client) c.in-Some.stream c.places.self (sym c.in-Some.is ∙ c.seek.ensures)

within_old : (c : goal.Joined-seek) → c.places.place < length c.args.self.now.rows
within_old c = omega (arith, c.places-test.true, c.places.invariant.count)

pub places-preserved : goal.places-preserved
places-preserved c = elim c.match-seek.branch [
  | in-Some+else-is_err w ↦
      let fine = sym w.is_err.ensures.value ∙ w.if-is_err.false in
      let found = sym w.in-Some.is ∙ c.seek.ensures in
      record {
        within = omega (arith, c.places-test.true);
        count = c.places.invariant.count;
        size = ap (λ (held : Channels). length held.rows) w.self-is ∙ (w.give_at.ensures.count ∙ c.places.invariant.size);
        done =
            step_some (parity_of c.args.client) c.places.place c.args.self.now c.places.self c.places.invariant.done (c.places.invariant.rest c.places.place (omega arith)) (within_old c)
            w.in-Some.stream c.match-seek.self found (w.self-is ∙ ok_of w.give_at.result fine w.give_at.ensures.given);
        rest = λ k more. ap (λ (held : Channels). slice_get held.rows k) w.self-is ∙ (w.give_at.ensures.behind k (omega (arith, more)) ∙ c.places.invariant.rest k (omega (arith, more)));
      }
  | in_default w ↦
      let missed = sym w.in_default.is ∙ c.seek.ensures in
      record {
        within = omega (arith, c.places-test.true);
        count = c.places.invariant.count;
        size = ap (λ (held : Channels). length held.rows) w.self-is ∙ c.places.invariant.size;
        done =
            w.self-is
            ∙ step_none (parity_of c.args.client) c.places.place c.args.self.now c.places.self c.places.invariant.done (c.places.invariant.rest c.places.place (omega arith)) (within_old c) missed;
        rest = λ k more. ap (λ (held : Channels). slice_get held.rows k) w.self-is ∙ c.places.invariant.rest k (omega (arith, more));
      }
]

pub returns-then-is_err-clause-unheld : goal.returns-then-is_err-clause-unheld
returns-then-is_err-clause-unheld c s none some =
    let refused = err_of c.give_at.result (sym c.is_err.ensures.value ∙ c.if-is_err.true) c.give_at.ensures.refused in
    given_unheld s (parity_of c.args.client) (take c.places.place c.args.self.now.rows) c.args.self.now none
    (ap (λ (held : Channels). is_given s held.rows) (sym (refused ∙ c.places.invariant.done)) ∙ some)

pub returns-clause-unheld : goal.returns-clause-unheld
returns-clause-unheld c s none some =
    given_unheld s (parity_of c.args.client) (take c.places.place c.args.self.now.rows) c.args.self.now none
    (ap (λ (held : Channels). is_given s held.rows) (sym c.places.invariant.done) ∙ some)
