use Rattle.std.proofs.Common.{◌≡◌, ◌∙◌, ◌∷◌, sym, ap, ℕ, List}
use Rattle.std.specs.Map.Iter.{deref}
use Rattle.std.proofs.lemmas.Map.Iter.{rest_more, rest_all}
use Rattle.rtc_channels.specs.Ids.{parity_of, all_ids}
use Rattle.rtc_channels.specs.Granted.{is_granted}
use Rattle.rtc_channels.proofs.AllocationLemmas.{ids_left, left_taken, left_kept, left_all, filter_all}
use Rattle.rtc_channels.proofs.pools.collect_free.Goals as goal

pub streams-preserved-then-is_granted : goal.streams-preserved-then-is_granted
streams-preserved-then-is_granted c =
    let rest : c.streams.stream-iterator ≡ c.in-Some.stream.now ∷ c.next.new.self = rest_more deref c.streams.stream-iterator c.next.new.self c.next.result c.in-Some.stream c.in-Some.is c.next.ensures.steps in
    record {
      parity = rw c.take.ensures.taken c.streams.invariant.parity;
      left =
          rw c.take.ensures.taken
          (left_taken (is_granted c.args.grants.now) c.in-Some.stream.now c.next.new.self c.streams.ids.free (sym c.is_granted.ensures ∙ c.if-is_granted.true)
          ∙ (ap (λ (list : List ℕ). ids_left (is_granted c.args.grants.now) list c.streams.ids.free) (sym rest) ∙ c.streams.invariant.left));
    }

pub streams-preserved : goal.streams-preserved
streams-preserved c =
    let rest : c.streams.stream-iterator ≡ c.in-Some.stream.now ∷ c.next.new.self = rest_more deref c.streams.stream-iterator c.next.new.self c.next.result c.in-Some.stream c.in-Some.is c.next.ensures.steps in
    record {
      parity = c.streams.invariant.parity;
      left =
          left_kept (is_granted c.args.grants.now) c.in-Some.stream.now c.next.new.self c.streams.ids.free (sym c.is_granted.ensures ∙ c.if-is_granted.false)
          ∙ (ap (λ (list : List ℕ). ids_left (is_granted c.args.grants.now) list c.streams.ids.free) (sym rest) ∙ c.streams.invariant.left);
    }

pub returns-clause-free : goal.returns-clause-free
returns-clause-free c =
    sym (filter_all c.streams.ids.free)
    ∙ (ap (λ (list : List ℕ). ids_left (is_granted c.args.grants.now) list c.streams.ids.free) (sym (rest_all deref c.streams.stream-iterator c.next.new.self c.next.result c.in-None.is c.next.ensures.steps))
    ∙ (c.streams.invariant.left ∙ left_all c.args.grants.now (all_ids (parity_of c.args.client))))
