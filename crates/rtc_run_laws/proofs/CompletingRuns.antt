-- Over calls in turn a stream that is reported as open is reported as closed before the completed reset of its generation.
use Rattle.std.proofs.Common.{◌≡◌, ℕ, ◌+◌, ◌<◌, ◌==◌, ◌&&◌, ◌||◌, Bool, true, false, true≢false, List, [], ◌∷◌, ◌++◌, Option, Some, None, Result, Ok, Err, refl, sym, ap, subst, ◌∙◌, arith, zero-add}
use Rattle.std.specs.Prelude.{if◌then◌else◌, nat_lt}
use Rattle.std.specs.declared.alloc.AllocError.{AllocError}
use Rattle.rtc_parts.specs.AssociationMeaning.{AssociationMeaning}
use Rattle.rtc_parts.specs.AssociationLaws.{AssociationLaws}
use Rattle.rtc_sctp_entries.specs.declared.sctp_event.SctpEvent.{SctpEvent}
use Rattle.rtc_sctp_entries.specs.declared.sctp_event.SctpEvent.TheVariants as event
use Rattle.rtc_sctp_entries.specs.declared.met.Met.TheVariants.{Output}
use Rattle.rtc_sctp_entries.specs.Entries.{entry_place}
use Rattle.rtc_sctp.specs.Streams.{SctpStreams}
use Rattle.rtc_sctp_values.specs.InitHalves.{InitHalves}
use Rattle.rtc_sctp_values.specs.declared.proto_error.ProtoError.TheVariants as proto
use Rattle.rtc_sctp_values.specs.declared.sctp_error.SctpError.{SctpError}
use Rattle.rtc_sctp_values.specs.declared.sctp_error.SctpError.TheVariants as sctp
use Rattle.rtc_sctp.specs.Calls.{Inits, ShutBy, can_write, is_current, is_ended}
use Rattle.rtc_sctp.specs.StreamCalls.{SetsThreshold}
use Rattle.rtc_sctp.specs.Polls.{PollsStreams}
use Rattle.rtc_sctp_laws.specs.StreamMessages.{StreamMessage, met_of, resets_met}
use Rattle.rtc_sctp_laws.specs.StreamActs.{CallDid}
use Rattle.rtc_sctp_laws.specs.StreamRuns.{event_of, CallsStreams, Inited, HalvesKept, ShutDown, Wrote, StreamOpened, StreamClosed, ThresholdSet, LimitSet, InputTaken, TimeoutTaken, PushedBack, Polled}
use Rattle.rtc_sctp_laws.specs.StreamRuns.{CallsInTurn, all_events}
use Rattle.rtc_sctp_laws.specs.StreamUses.{IsLive}
use Rattle.rtc_sctp_laws.proofs.ActLemmas.{did_same}
use Rattle.rtc_sctp_laws.proofs.CallActs.{inits_did, shuts_did, writes_did, input_did, timeout_did, opens_did, closes_did}
use Rattle.rtc_sctp_laws.proofs.ClosingPolls.{started_moved}
use Rattle.rtc_sctp_laws.proofs.LiveCalls.{writes_live, input_live, timeout_live, opens_live, closes_live, threshold_live, shuts_live}
use Rattle.rtc_sctp_laws.proofs.PollActs.{poll_did}
use Rattle.rtc_sctp_laws.proofs.RunningPolls.{StayEstablished, stay_same, input_stays, timed_stays, written_stays, opening_runs}
use Rattle.rtc_run_laws.specs.StreamCompletions.{AreBeginning, completed_resets, closes_before}
use Rattle.rtc_run_laws.proofs.CompletingPolls.{Closes, Counted, Goes, Holds, PollLeft, count_of, counted_more, none_more, poll_left}

-- the completed resets of events
reported_by : (s : ℕ) (r : Result (Option SctpEvent) AllocError) → count_of s (resets_met (met_of r)) ≡ completed_resets s (event_of r)
reported_by s (Ok None) = refl
reported_by s (Err x) = refl
reported_by s (Ok (Some (event.Transmit packets))) = refl
reported_by s (Ok (Some (event.Open id label))) = refl
reported_by s (Ok (Some (event.Close id pending))) = refl
reported_by s (Ok (Some (event.StreamResetComplete id))) = refl
reported_by s (Ok (Some (event.Data id binary bytes))) = refl
reported_by s (Ok (Some (event.BufferedAmountLow id))) = refl
reported_by s (Ok (Some event.AssociationLost)) = refl

completed_resets-append : (s : ℕ) (xs ys : List SctpEvent) → completed_resets s (xs ++ ys) ≡ completed_resets s xs + completed_resets s ys
completed_resets-append s [] ys = sym (zero-add (completed_resets s ys))
completed_resets-append s (event.Transmit packets ∷ xs) ys = completed_resets-append s xs ys
completed_resets-append s (event.Open id label ∷ xs) ys = completed_resets-append s xs ys
completed_resets-append s (event.Close id pending ∷ xs) ys = completed_resets-append s xs ys
completed_resets-append s (event.StreamResetComplete id ∷ xs) ys = omega (arith, completed_resets-append s xs ys)
completed_resets-append s (event.Data id binary bytes ∷ xs) ys = completed_resets-append s xs ys
completed_resets-append s (event.BufferedAmountLow id ∷ xs) ys = completed_resets-append s xs ys
completed_resets-append s (event.AssociationLost ∷ xs) ys = completed_resets-append s xs ys

module _ {S : Type 0} (m : AssociationMeaning S) (w : AssociationLaws m) where
  -- ---- how many completed resets were reported

  abbrev CountedOver : (s n : ℕ) → SctpStreams S → Type 0
  CountedOver s n p = Counted m w s n p.association p.completed

  call_counted : (s n : ℕ) (ins : List (List ℕ)) (wrote : List StreamMessage) (p q : SctpStreams S) → CallDid m ins wrote p q → CountedOver s n p → CountedOver s n q
  call_counted s n ins wrote p q d c =
      subst (λ (k : ℕ). CountedOver s k q) (none_more n)
      (counted_more m w s n p.association q.association ins [] [] wrote [] p.completed [] q.completed d.did (sym d.completed_is) c)

  same_counted : (s n : ℕ) (p q : SctpStreams S) → q.association ≡ p.association → q.completed ≡ p.completed → CountedOver s n p → CountedOver s n q
  same_counted s n p q a k c =
      subst (λ (i : ℕ). CountedOver s i q) (none_more n)
      (counted_more m w s n p.association q.association [] [] [] [] [] p.completed [] q.completed (did_same m p.association q.association a) (sym k) c)

  threshold_counted : (s n : ℕ) (o : Option ℕ) (k : ℕ) (p q : SctpStreams S) → SetsThreshold S k o p q → CountedOver s n p → CountedOver s n q
  threshold_counted s n None k p q h c = same_counted s n p q (ap (λ (x : SctpStreams S). x.association) h) (ap (λ (x : SctpStreams S). x.completed) h) c
  threshold_counted s n (Some place) k p q h c = same_counted s n p q (ap (λ (x : SctpStreams S). x.association) h.2) (ap (λ (x : SctpStreams S). x.completed) h.2) c

  poll_counted : (s n : ℕ) (p : SctpStreams S) (r : Result (Option SctpEvent) AllocError) (q : SctpStreams S) → PollsStreams m p r q → CountedOver s n p → CountedOver s (n + completed_resets s (event_of r)) q
  poll_counted s n p r q h c =
      let d = poll_did m w p r q h in
      subst (λ (k : ℕ). CountedOver s (n + k) q) (reported_by s r)
      (counted_more m w s n p.association q.association [] d.outs d.tells d.wrote d.heard p.completed (resets_met (met_of r)) q.completed d.did d.completed_is c)

  -- a call that returns no event
  silent : (s n : ℕ) (events : List SctpEvent) (q : SctpStreams S) → events ≡ [] → CountedOver s n q → CountedOver s (n + completed_resets s events) q
  silent s n events q e c =
      subst (λ (l : List SctpEvent). CountedOver s (n + completed_resets s l) q) (sym e) (subst (λ (k : ℕ). CountedOver s k q) (sym (none_more n)) c)

  one_counted : (s n : ℕ) (p : SctpStreams S) (events : List SctpEvent) (q : SctpStreams S) → CallsStreams m p events q → CountedOver s n p → CountedOver s (n + completed_resets s events) q
  one_counted s n p events q (Inited client now max snap r h e) c = silent s n events q e (call_counted s n [] [] p q (inits_did m client now max snap p r q h) c)
  one_counted s n p events q (HalvesKept h e) c = silent s n events q e (same_counted s n p q (ap (λ (x : SctpStreams S). x.association) h) (ap (λ (x : SctpStreams S). x.completed) h) c)
  one_counted s n p events q (ShutDown r h e) c = silent s n events q e (call_counted s n [] [] p q (shuts_did m p r q h) c)
  one_counted s n p events q (Wrote other binary bytes r h e) c = silent s n events q e (call_counted s n [] _ p q (writes_did m other binary bytes p r q h) c)
  one_counted s n p events q (StreamOpened other config r h e) c = silent s n events q e (call_counted s n [] [] p q (opens_did m other config p r q h) c)
  one_counted s n p events q (StreamClosed other r h e) c = silent s n events q e (call_counted s n [] [] p q (closes_did m other p r q h) c)
  one_counted s n p events q (ThresholdSet other k h e) c = silent s n events q e (threshold_counted s n (entry_place other p.entries) k p q h c)
  one_counted s n p events q (LimitSet k h e) c = silent s n events q e (same_counted s n p q (ap (λ (x : SctpStreams S). x.association) h) (ap (λ (x : SctpStreams S). x.completed) h) c)
  one_counted s n p events q (InputTaken now bytes r h e) c = silent s n events q e (call_counted s n _ [] p q (input_did m now bytes p r q h) c)
  one_counted s n p events q (TimeoutTaken now wake wake' r h e) c = silent s n events q e (call_counted s n [] [] p q (timeout_did m now p wake r q wake' h) c)
  one_counted s n p events q (PushedBack packets h e) c = silent s n events q e (same_counted s n p q (ap (λ (x : SctpStreams S). x.association) h) (ap (λ (x : SctpStreams S). x.completed) h) c)
  one_counted s n p events q (Polled r h e) c = subst (λ (l : List SctpEvent). CountedOver s (n + completed_resets s l) q) (sym e) (poll_counted s n p r q h c)

  all_counted : (s n : ℕ) (all : List (List SctpEvent)) (p q : SctpStreams S) → CallsInTurn m all p q → CountedOver s n p → CountedOver s (n + completed_resets s (all_events all)) q
  all_counted s n [] p q h c = subst (λ (k : ℕ). CountedOver s k q) (sym (none_more n)) (subst (λ (x : SctpStreams S). CountedOver s n x) (sym h) c)
  all_counted s n (events ∷ more) p q h c =
      let sum : n + completed_resets s events + completed_resets s (all_events more) ≡ n + completed_resets s (events ++ all_events more) =
      omega (arith, completed_resets-append s events (all_events more)) in
      subst (λ (k : ℕ). CountedOver s k q) sum (all_counted s (n + completed_resets s events) more h.0 q h.2 (one_counted s n p events h.0 h.1 c))

  beginning_counted : (s : ℕ) (p : SctpStreams S) → AreBeginning m p → CountedOver s 0 p
  beginning_counted s p b = record {
    start = p.association;
    acts = [];
    fresh = b.fresh;
    went = refl;
    bound = let none : count_of s p.completed ≡ 0 = ap (count_of s) b.completed in omega (arith, none);
  }

  -- ---- calls on streams one of which is open

  abbrev HoldsOver : (s g n : ℕ) → SctpStreams S → Type 0
  HoldsOver s g n p = Holds m w s g n p

  call_holds : (s g n : ℕ) (ins : List (List ℕ)) (wrote : List StreamMessage) (p q : SctpStreams S) → CallDid m ins wrote p q → StayEstablished p q → IsLive s g q.entries → HoldsOver s g n p → HoldsOver s g n q
  call_holds s g n ins wrote p q d st live k = record {
    established = st k.established;
    started = started_moved m w d.did.acts p.association q.association k.started d.did.went;
    counted = call_counted s n ins wrote p q d k.counted;
    live = live;
  }

  holds_is : (s g n : ℕ) (u q : SctpStreams S) → q ≡ u → HoldsOver s g n u → HoldsOver s g n q
  holds_is s g n u q e h = subst (λ (x : SctpStreams S). HoldsOver s g n x) (sym e) h

  inits_hold : (s g n : ℕ) (client : Bool) (now max : ℕ) (snap : Option InitHalves) (p : SctpStreams S) (r : Result (Unit {0}) SctpError) (q : SctpStreams S) → Inits m client now max snap p r q → HoldsOver s g n p → HoldsOver s g n q
  inits_hold s g n client now max snap p (Ok x) q h k = absurd (true≢false (sym k.started ∙ h.0))
  inits_hold s g n client now max snap p (Err (sctp.Proto proto.Started)) q h k = holds_is s g n p q h.1 k
  inits_hold s g n client now max snap p (Err (sctp.Proto proto.SnapHalf)) q h k = holds_is s g n p q h.2 k
  inits_hold s g n client now max snap p (Err (sctp.Proto proto.Fault)) q h k = absurd (true≢false (sym k.started ∙ h.0))
  inits_hold s g n client now max snap p (Err sctp.Alloc) q h k = absurd (true≢false (sym k.started ∙ h.0))
  inits_hold s g n client now max snap p (Err e) q h k = absurd h

  shut_state : (b : Bool) (p : SctpStreams S) (r : Result (Unit {0}) SctpError) (q : SctpStreams S) → ShutBy m b p r q → q.state ≡ p.state
  shut_state true p r q h = ap (λ (x : SctpStreams S). x.state) h.1
  shut_state false p (Ok x) q h = ap (λ (x : SctpStreams S). x.state) h.1
  shut_state false p (Err (sctp.Proto proto.Fault)) q h = ap (λ (x : SctpStreams S). x.state) h.1
  shut_state false p (Err sctp.Alloc) q h = ap (λ (x : SctpStreams S). x.state) h.1
  shut_state false p (Err e) q h = absurd h

  threshold_holds : (s g n : ℕ) (o : Option ℕ) (k : ℕ) (p q : SctpStreams S) → SetsThreshold S k o p q → HoldsOver s g n p → HoldsOver s g n q
  threshold_holds s g n None k p q h c = holds_is s g n p q h c
  threshold_holds s g n (Some place) k p q h c =
      holds_is s g n _ q h.2 (record {
        established = c.established;
        started = c.started;
        counted = c.counted;
        live = threshold_live m k (Some place) p _ s g (h.0, h.1, refl) c.live;
      })

  -- what a call leaves: it returned no event, or it is a poll
  data CallLeft (s g n : ℕ) (events : List SctpEvent) (q : SctpStreams S) : Type 0 where
    Silent : events ≡ [] → HoldsOver s g n q → CallLeft s g n events q
    Spoke : (r : Result (Option SctpEvent) AllocError) → events ≡ event_of r → PollLeft m w s g n (met_of r) q → CallLeft s g n events q

  call_left : (s g n : ℕ) (p : SctpStreams S) (events : List SctpEvent) (q : SctpStreams S) → CallsStreams m p events q → HoldsOver s g n p → CallLeft s g n events q
  call_left s g n p events q (Inited client now max snap r h e) k = Silent e (inits_hold s g n client now max snap p r q h k)
  call_left s g n p events q (HalvesKept h e) k = Silent e (holds_is s g n _ q h (record { established = k.established; started = k.started; counted = k.counted; live = k.live }))
  call_left s g n p events q (ShutDown r h e) k =
      Silent e (call_holds s g n [] [] p q (shuts_did m p r q h) (stay_same p q (shut_state (is_ended m p.association) p r q h)) (shuts_live m p r q s g h k.live) k)
  call_left s g n p events q (Wrote other binary bytes r h e) k =
      Silent e (call_holds s g n [] _ p q (writes_did m other binary bytes p r q h) (written_stays m (can_write m other p) (is_current m other p) other binary bytes p r q h)
      (writes_live m other binary bytes p r q s g h k.live) k)
  call_left s g n p events q (StreamOpened other config r h e) k =
      Silent e (call_holds s g n [] [] p q (opens_did m other config p r q h) (stay_same p q (ap (λ (x : SctpStreams S). x.state) h.1)) (opens_live m other config p r q s g h k.live) k)
  call_left s g n p events q (StreamClosed other r h e) k =
      Silent e (call_holds s g n [] [] p q (closes_did m other p r q h) (stay_same p q (ap (λ (x : SctpStreams S). x.state) h.1)) (closes_live m other p r q s g h k.live) k)
  call_left s g n p events q (ThresholdSet other i h e) k = Silent e (threshold_holds s g n (entry_place other p.entries) i p q h k)
  call_left s g n p events q (LimitSet i h e) k = Silent e (holds_is s g n _ q h (record { established = k.established; started = k.started; counted = k.counted; live = k.live }))
  call_left s g n p events q (InputTaken now bytes r h e) k =
      Silent e (call_holds s g n _ [] p q (input_did m now bytes p r q h) (input_stays m (m.started p.association) now bytes p r q h) (input_live m now bytes p r q s g h k.live) k)
  call_left s g n p events q (TimeoutTaken now wake wake' r h e) k =
      Silent e (call_holds s g n [] [] p q (timeout_did m now p wake r q wake' h) (timed_stays m p.state now p wake r q wake' h) (timeout_live m now p wake r q wake' s g h k.live) k)
  call_left s g n p events q (PushedBack packets h e) k = Silent e (holds_is s g n _ q h (record { established = k.established; started = k.started; counted = k.counted; live = k.live }))
  call_left s g n p events q (Polled r h e) k = Spoke r e (poll_left m w s g n p r q h k)

  -- ---- their events

  or_true : (a b : Bool) → b ≡ true → (a || b) ≡ true
  or_true true b h = refl
  or_true false b h = h

  both : (a b : Bool) → a ≡ true → b ≡ true → (a && b) ≡ true
  both a b h k = rw (h, k) refl

  close_now : (s g n : ℕ) (e : SctpEvent) (pending : Bool) (events : List SctpEvent) → Output e ≡ Output (event.Close s pending) → closes_before s g n (e ∷ events) ≡ true
  close_now s g n e pending events h =
      let is : e ≡ event.Close s pending = cc in
      let self : (s == s) ≡ true = grind arith in
      subst (λ (x : SctpEvent). closes_before s g n (x ∷ events) ≡ true) (sym is) (rw self refl)

  unchanged : (s g n : ℕ) (q : SctpStreams S) → HoldsOver s g (n + 0) q → HoldsOver s g n q
  unchanged s g n q k = subst (λ (i : ℕ). HoldsOver s g i q) (none_more n) k

  next_events : (s g n : ℕ) (e : SctpEvent) (q : SctpStreams S) (events : List SctpEvent) → ((id : ℕ) → Output e ≡ Output (event.StreamResetComplete id) → id ≡ s → n < g)
      → ((k : ℕ) → HoldsOver s g k q → closes_before s g k events ≡ true) → HoldsOver s g (n + count_of s (resets_met (Output e))) q → closes_before s g n (e ∷ events) ≡ true
  next_events s g n (event.Transmit packets) q events early rest k = rest n (unchanged s g n q k)
  next_events s g n (event.Open id label) q events early rest k = rest n (unchanged s g n q k)
  next_events s g n (event.Close id pending) q events early rest k = or_true (id == s) _ (rest n (unchanged s g n q k))
  next_events s g n (event.Data id binary bytes) q events early rest k = rest n (unchanged s g n q k)
  next_events s g n (event.BufferedAmountLow id) q events early rest k = rest n (unchanged s g n q k)
  next_events s g n event.AssociationLost q events early rest k = rest n (unchanged s g n q k)
  next_events s g n (event.StreamResetComplete id) q events early rest k = by (id == s) refl
    where
      one_if : Bool → ℕ
      one_if true = 1
      one_if false = 0

      own : n + count_of s (id ∷ []) ≡ n + one_if (id == s)
      own = one_of (id == s)
        where
          one_of : (b : Bool) → n + ((if b then 1 else 0) + 0) ≡ n + one_if b
          one_of true = omega arith
          one_of false = omega arith

      reset : (b : Bool) → (id == s) ≡ b → n + count_of s (id ∷ []) ≡ n + one_if b
      reset b c = own ∙ ap (λ (x : Bool). n + one_if x) c

      by : (b : Bool) → (id == s) ≡ b → closes_before s g n (event.StreamResetComplete id ∷ events) ≡ true
      by true c =
          let is : id ≡ s = grind (arith, c) in
          let early_is : n < g = early id refl is in
          let below : nat_lt n g ≡ true = grind (arith, early_is) in
          subst (λ (b : Bool). (if b then nat_lt n g && closes_before s g (n + 1) events else closes_before s g n events) ≡ true) (sym c)
          (both _ _ below (rest (n + 1) (subst (λ (i : ℕ). HoldsOver s g i q) (reset true c) k)))
      by false c =
          subst (λ (b : Bool). (if b then nat_lt n g && closes_before s g (n + 1) events else closes_before s g n events) ≡ true) (sym c)
          (rest n (unchanged s g n q (subst (λ (i : ℕ). HoldsOver s g i q) (reset false c) k)))

  poll_events : (s g n : ℕ) (r : Result (Option SctpEvent) AllocError) (q : SctpStreams S) (events : List SctpEvent)
      → ((k : ℕ) → HoldsOver s g k q → closes_before s g k events ≡ true) → PollLeft m w s g n (met_of r) q → closes_before s g n (event_of r ++ events) ≡ true
  poll_events s g n (Ok None) q events rest (Closes h) = absurd (no_close h.0 h.1)
    where
      no_close : (pending : Bool) → met_of (Ok None) ≡ Output (event.Close s pending) → ⊥
      no_close pending h = cc
  poll_events s g n (Ok None) q events rest (Goes early k) = rest n (unchanged s g n q k)
  poll_events s g n (Err x) q events rest (Closes h) = absurd (no_close h.0 h.1)
    where
      no_close : (pending : Bool) → met_of (Err x) ≡ Output (event.Close s pending) → ⊥
      no_close pending h = cc
  poll_events s g n (Err x) q events rest (Goes early k) = rest n (unchanged s g n q k)
  poll_events s g n (Ok (Some e)) q events rest (Closes h) = close_now s g n e h.0 events h.1
  poll_events s g n (Ok (Some e)) q events rest (Goes early k) = next_events s g n e q events early rest k

  closes_over : (s g n : ℕ) (all : List (List SctpEvent)) (p q : SctpStreams S) → CallsInTurn m all p q → HoldsOver s g n p → closes_before s g n (all_events all) ≡ true
  closes_over s g n [] p q h k = refl
  closes_over s g n (events ∷ more) p q h k = by (call_left s g n p events h.0 h.1 k) (λ i j. closes_over s g i more h.0 q h.2 j)
    where
      by : CallLeft s g n events h.0 → ((i : ℕ) → HoldsOver s g i h.0 → closes_before s g i (all_events more) ≡ true) → closes_before s g n (events ++ all_events more) ≡ true
      by (Silent e j) rest = subst (λ (l : List SctpEvent). closes_before s g n (l ++ all_events more) ≡ true) (sym e) (rest n j)
      by (Spoke r e j) rest = subst (λ (l : List SctpEvent). closes_before s g n (l ++ all_events more) ≡ true) (sym e) (poll_events s g n r h.0 (all_events more) rest j)

  -- from streams as they begin, behind a poll that reports the stream as open
  pub closes_from_beginning : (s g : ℕ) (label : List ℕ) (before later : List (List SctpEvent)) (p q r t : SctpStreams S) → AreBeginning m p → CallsInTurn m before p q
      → PollsStreams m q (Ok (Some (event.Open s label))) r → IsLive s g r.entries → CallsInTurn m later r t
      → closes_before s g (completed_resets s (all_events before)) (all_events later) ≡ true
  closes_from_beginning s g label before later p q r t b h polled live k =
      let runs = opening_runs m w q s label r polled in
      let zero_first : 0 + completed_resets s (all_events before) ≡ completed_resets s (all_events before) = zero-add (completed_resets s (all_events before)) in
      let counted = subst (λ (n : ℕ). CountedOver s n q) zero_first (all_counted s 0 before p q h (beginning_counted s p b)) in
      closes_over s g (completed_resets s (all_events before)) later r t k (record {
        established = runs.1;
        started = runs.0;
        counted =
            subst (λ (n : ℕ). CountedOver s n r) (none_more (completed_resets s (all_events before)))
            (poll_counted s (completed_resets s (all_events before)) q (Ok (Some (event.Open s label))) r polled counted);
        live = live;
      })
