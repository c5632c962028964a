-- Outputs lower the load of a peer, so that a row of polls that each put out something is shorter than its weight.
use Rattle.std.proofs.Common.{◌≡◌, inl, inr, ℕ, ◌+◌, ◌-◌, ◌^◌, ◌<◌, ◌≤◌, Bool, true, false, List, [], ◌∷◌, length, Result, Ok, Err, refl, ap, arith}
use Rattle.std.specs.List.{sum_by}
use Rattle.std.proofs.lemmas.List.Sums.{sum_by-cons}
use Rattle.rtc_sctp_entries.specs.declared.stream_entry_state.StreamEntryState.{StreamEntryState}
use Rattle.rtc_sctp_entries.specs.declared.stream_entry_state.StreamEntryState.TheVariants.{AwaitOpen, AwaitConfig, AwaitDcepAck, Open, Closed as EntryClosed}
use Rattle.rtc_sctp_entries.specs.declared.stream_entry.StreamEntry.{StreamEntry}
use Rattle.rtc_sctp_entries.specs.Entries.{entry_credit, mark_credit, state_credit, threshold_credit, unclosed}
use Rattle.rtc_sctp.specs.Polls.{credits}
use Rattle.rtc_peer_core.specs.declared.phase.Phase.{Phase}
use Rattle.rtc_peer_core.specs.declared.phase.Phase.TheVariants.{Alive, Closing, Closed}
use Rattle.rtc_peer_core.specs.Meanings.{Meanings, PartsLaws}
use Rattle.rtc_peer_core.specs.declared.rtc_error.RtcError.{RtcError}
use Rattle.rtc_peer_transport.specs.declared.output.Output.{Output}
use Rattle.rtc_peer_transport.specs.declared.output.Output.TheVariants.{Timeout, Transmit, Event}
use Rattle.rtc_peer_transport.specs.declared.polled_peer.PolledPeer.{PolledPeer}
use Rattle.rtc_peer_polling.specs.Walk.{PollsPeer, PollsPeerFrom}
use Rattle.rtc_peer_laws.specs.Weight.{FallsBy, HasNoThreshold, IsHandshakeTold, PutsOut, credits_in, credits_of, handshake_weight, load, puts_out, thresholds_asked, weight}
use Rattle.rtc_peer_laws.proofs.Measures.{whole, Fit}
use Rattle.rtc_peer_laws.proofs.WalkFalls.{polls_answered}

module _ {I D S M E X T W N : Type 0} (m : Meanings I D S M E X T W N) (laws : PartsLaws m) where
  pub fits : (p : PolledPeer I D S M N) → HasNoThreshold m p.core → Fit m laws p
  fits p h = ((h.stands, h.asked), h.moment)

  pub fitted : (p : PolledPeer I D S M N) → Fit m laws p → HasNoThreshold m p.core
  fitted p h = record { stands = h.0.0; asked = h.0.1; moment = h.1 }

  loads : (p : PolledPeer I D S M N) → load m p ≡ whole m laws p
  loads p = omega arith

  -- an output lowers the load
  pub output_falls : (p q : PolledPeer I D S M N) (output : Output E) → HasNoThreshold m p.core → PollsPeer m p (Ok output) q → FallsBy output (load m p) (load m q)
  output_falls p q (Timeout moment) h k = let less = (polls_answered m laws p (Ok (Timeout moment)) q (fits p h) k).1 in omega (arith, less, loads p, loads q)
  output_falls p q (Transmit transmit) h k = let less = (polls_answered m laws p (Ok (Transmit transmit)) q (fits p h) k).1 in omega (arith, less, loads p, loads q)
  output_falls p q (Event event) h k = let less = (polls_answered m laws p (Ok (Event event)) q (fits p h) k).1 in omega (arith, less, loads p, loads q)

  -- no poll sets a threshold
  pub poll_unset : (p q : PolledPeer I D S M N) (answer : Result (Output E) RtcError) → HasNoThreshold m p.core → PollsPeer m p answer q → HasNoThreshold m q.core
  poll_unset p q (Ok (Timeout moment)) h k = fitted q (polls_answered m laws p (Ok (Timeout moment)) q (fits p h) k).0
  poll_unset p q (Ok (Transmit transmit)) h k = fitted q (polls_answered m laws p (Ok (Transmit transmit)) q (fits p h) k).0
  poll_unset p q (Ok (Event event)) h k = fitted q (polls_answered m laws p (Ok (Event event)) q (fits p h) k).0
  poll_unset p q (Err error) h k = fitted q (polls_answered m laws p (Err error) q (fits p h) k)

  put_falls : (output : Output E) (old new : ℕ) → puts_out output ≡ true → FallsBy output old new → new < old
  put_falls (Timeout moment) old new is h = cc (is)
  put_falls (Transmit transmit) old new is h = h
  put_falls (Event event) old new is h = h

  pub puts_within : (outputs : List (Output E)) (p q : PolledPeer I D S M N) → HasNoThreshold m p.core → PutsOut m outputs p q → length outputs + load m q ≤ load m p
  puts_within [] p q h k = omega (arith, ap (load m) k)
  puts_within (output ∷ outputs) p q h k =
      let falls = put_falls output (load m p) (load m k.1) k.0 (output_falls p k.1 output h k.2) in
      let rest = puts_within outputs k.1 q (poll_unset p k.1 (Ok output) h k.2) k.3 in
      omega (arith, falls, rest)

  -- ---- the load is less than the weight

  mark_most : (b : Bool) → mark_credit b ≤ 1
  mark_most true = omega arith
  mark_most false = omega arith

  -- the credits of entries that ask for no threshold
  live_credits : (es : List StreamEntry) → thresholds_asked es ≡ 0 → credits (unclosed es) ≤ sum_by credits_of es
  live_credits [] h = omega arith
  live_credits (e ∷ es) h = by (live_credits es) e.state refl
    where
      asks : thresholds_asked (e ∷ es) ≡ thresholds_asked es + threshold_credit e.threshold
      asks = let sum = sum_by-cons (λ (x : StreamEntry). threshold_credit x.threshold) e es in omega (arith, sum)

      none : threshold_credit e.threshold ≡ 0
      none = omega (arith, asks, h)

      left : thresholds_asked es ≡ 0
      left = omega (arith, asks, h)

      kept : credits (unclosed es) ≤ sum_by credits_of es → unclosed (e ∷ es) ≡ e ∷ unclosed es → entry_credit e ≤ credits_of e → credits (unclosed (e ∷ es)) ≤ sum_by credits_of (e ∷ es)
      kept rest is less =
          let old = sum_by-cons credits_of e es in
          let new = sum_by-cons entry_credit e (unclosed es) in
          omega (arith, ap credits is, old, new, less, rest)

      fewer : (n k : ℕ) → state_credit e.state e.config ≡ n → credits_of e ≡ k → n + 1 ≤ k → entry_credit e ≤ credits_of e
      fewer n k is own less = omega (arith, is, own, less, none, mark_most e.marked)

      by : (thresholds_asked es ≡ 0 → credits (unclosed es) ≤ sum_by credits_of es) → (st : StreamEntryState) → e.state ≡ st → credits (unclosed (e ∷ es)) ≤ sum_by credits_of (e ∷ es)
      by go AwaitOpen is = kept (go left) (rw is refl) (fewer _ _ (ap (λ (x : StreamEntryState). state_credit x e.config) is) (ap (λ (x : StreamEntryState). credits_in x e.config) is) (omega arith))
      by go AwaitConfig is = kept (go left) (rw is refl) (fewer _ _ (ap (λ (x : StreamEntryState). state_credit x e.config) is) (ap (λ (x : StreamEntryState). credits_in x e.config) is) (omega arith))
      by go AwaitDcepAck is = kept (go left) (rw is refl) (fewer _ _ (ap (λ (x : StreamEntryState). state_credit x e.config) is) (ap (λ (x : StreamEntryState). credits_in x e.config) is) (omega arith))
      by go Open is = kept (go left) (rw is refl) (fewer _ _ (ap (λ (x : StreamEntryState). state_credit x e.config) is) (ap (λ (x : StreamEntryState). credits_in x e.config) is) (omega arith))
      by go EntryClosed is =
          let same : unclosed (e ∷ es) ≡ unclosed es = rw is refl in
          let old = sum_by-cons credits_of e es in
          omega (arith, ap credits same, old, go left)

  pub load_within : (p : PolledPeer I D S M N) → HasNoThreshold m p.core → handshake_weight p.transport.handshake ≡ 0 → load m p < weight m p
  load_within p h told = let less = live_credits p.core.sctp.entries h.asked in omega (arith, less, told)

  -- a closed peer puts out nothing
  pub closed_none : (phase : Phase) (output : Output E) (p q : PolledPeer I D S M N) → phase ≡ Closed → puts_out output ≡ true → PollsPeerFrom m phase p (Ok output) q → ⊥
  closed_none Alive output p q is puts h = cc (is)
  closed_none Closing output p q is puts h = cc (is)
  closed_none Closed output p q is puts h =
      let same : output ≡ Timeout (2 ^ 64 - 1) = cc (h.0) in
      cc (ap (λ (x : Output E). puts_out x) same, puts)

  pub puts_fewer : (outputs : List (Output E)) (p q : PolledPeer I D S M N) → HasNoThreshold m p.core → IsHandshakeTold p → PutsOut m outputs p q → length outputs < weight m p
  puts_fewer outputs p q h (inl told) k =
      let within = puts_within outputs p q h k in
      let less = load_within p h told in
      omega (arith, within, less)
  puts_fewer [] p q h (inr closed) k = omega arith
  puts_fewer (output ∷ outputs) p q h (inr closed) k = absurd (closed_none p.core.phase output p k.1 closed k.0 k.2)
