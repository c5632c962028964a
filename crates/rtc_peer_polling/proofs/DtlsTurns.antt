-- Outputs of the DTLS connection that a poll takes.
use Rattle.std.proofs.Common.{◌≡◌, ◌<◌, ◌≤◌, ◌-◌, ◌^◌, ℕ, Bool, true, false, List, [], ◌∷◌, Option, Some, None, Result, Ok, Err}
use Rattle.std.proofs.Common.{refl, sym, ap, subst, arith}
use Rattle.std.specs.declared.alloc.AllocError.{AllocError}
use Rattle.rtc_parts.specs.declared.dtls_output.DtlsOutput.{DtlsOutput}
use Rattle.rtc_parts.specs.declared.dtls_output.DtlsOutput.TheVariants as outputs
use Rattle.rtc_parts.specs.DtlsActs.{DtlsMoved}
use Rattle.rtc_parts.specs.DtlsDrawn.{DrewPacket, draws_output}
use Rattle.rtc_parts.specs.DtlsLaws.{DtlsLaws}
use Rattle.rtc_parts.specs.DtlsMeaning.{DtlsMeaning}
use Rattle.rtc_parts.specs.DtlsState.{DtlsState, PollsOutput, drawn_by}
use Rattle.rtc_parts.specs.DtlsWords.{takes}
use Rattle.rtc_peer_core.specs.Meanings.{Meanings}
use Rattle.rtc_peer_transport.specs.declared.met.Met.{Met}
use Rattle.rtc_peer_transport.specs.declared.met.Met.TheVariants.{Again}
use Rattle.rtc_peer_transport.specs.declared.polled_peer.PolledPeer.{PolledPeer}
use Rattle.rtc_peer_transport.specs.Connection.{with_dtls}
use Rattle.rtc_peer_polling.specs.DtlsStages.{ChecksCert, TakesKeys, TakesCloseNotify, HandsPacket, TakesDtlsOutput, TakesDtlsAnswer, PollsDtlsOutput, GivesDtlsTime, TimesDtlsIf}

module _ {D : Type 0} (m : DtlsMeaning D) (laws : DtlsLaws m) where
  -- packets that are taken lower what the part holds
  takes_held : (p q : D) (packets : List (List ℕ)) → DtlsMoved m p (takes packets) q → m.held q ≤ m.held p
  takes_held p q [] moved = subst (λ (x : D). m.held x ≤ m.held p) (sym moved) (omega arith)
  takes_held p q (packet ∷ packets) moved =
      let falls = laws.drawn_falls p moved.0 (DrewPacket packet) refl moved.1.0 in
      let rest = takes_held moved.0 q packets moved.1.1 in
      omega (arith, falls, rest)

module _ {I D S M E X T W N : Type 0} (m : Meanings I D S M E X T W N) where
  -- a moment that has come is given
  pub given_when_due : (due : Bool) (p : PolledPeer I D S M N) (r : Met E) (q : PolledPeer I D S M N) → due ≡ true → GivesDtlsTime m p r q
      → TimesDtlsIf m due p r q
  given_when_due true p r q is h = h
  given_when_due false p r q is h = cc (is)

  -- an output that is followed by the next is none of a moment, and leaves the instance
  pub taken_output : (output : DtlsOutput) (p q : PolledPeer I D S M N) → TakesDtlsOutput m output p Again q
      → (draws_output (drawn_by output) ≡ true)
      × ((q.core.dtls.instance ≡ p.core.dtls.instance) × (q.core.dtls.active ≡ p.core.dtls.active))
  unfolding ChecksCert TakesKeys TakesCloseNotify HandsPacket
  taken_output outputs.Connected p q taken =
      (refl, (ap (λ (x : PolledPeer I D S M N). x.core.dtls.instance) taken.1, ap (λ (x : PolledPeer I D S M N). x.core.dtls.active) taken.1))
  taken_output (outputs.KeyingMaterial key profile) p q taken =
      (refl, (ap (λ (x : PolledPeer I D S M N). x.core.dtls.instance) taken.1, ap (λ (x : PolledPeer I D S M N). x.core.dtls.active) taken.1))
  taken_output (outputs.PeerCert cert) p q taken =
      (refl, (ap (λ (x : PolledPeer I D S M N). x.core.dtls.instance) taken.3, ap (λ (x : PolledPeer I D S M N). x.core.dtls.active) taken.3))
  taken_output (outputs.ApplicationData bytes) p q taken =
      (refl, (ap (λ (x : PolledPeer I D S M N). x.core.dtls.instance) taken.1, ap (λ (x : PolledPeer I D S M N). x.core.dtls.active) taken.1))
  taken_output (outputs.Timeout moment) p q taken = cc (taken.0)
  taken_output outputs.CloseNotify p q taken = absurd taken

  module _ (laws : DtlsLaws m.dtls) where
    answer_falls : (active : Option Bool) (answer : Result DtlsOutput AllocError) (dtls : DtlsState D) (p q : PolledPeer I D S M N)
        → PollsOutput m.dtls p.core.dtls active answer dtls → TakesDtlsAnswer m answer (with_dtls dtls p) Again q
        → m.dtls.held q.core.dtls.instance < m.dtls.held p.core.dtls.instance
    answer_falls None (Ok output) dtls p q polled taken =
        let is : output ≡ outputs.Timeout (2 ^ 64 - 1) = cc (polled.0) in
        cc ((subst (λ (x : DtlsOutput). TakesDtlsOutput m x (with_dtls dtls p) Again q) is taken).0)
    answer_falls (Some active) (Ok output) dtls p q polled taken =
        let drains = polled.0 in
        let kept = taken_output output (with_dtls dtls p) q taken in
        let taking = takes_held m.dtls laws p.core.dtls.instance drains.1.0 drains.0 drains.1.1.0 in
        let falls = laws.drawn_falls drains.1.0 dtls.instance (drawn_by output) kept.0 drains.1.1.1 in
        subst (λ (x : D). m.dtls.held x < m.dtls.held p.core.dtls.instance) (sym kept.1.0) (omega (arith, taking, falls))
    answer_falls active (Err error) dtls p q polled taken = cc (taken.0)

    -- each output that is followed by the next lowers what the part holds
    pub dtls_turn_falls : (p q : PolledPeer I D S M N) → PollsDtlsOutput m p Again q
        → m.dtls.held q.core.dtls.instance < m.dtls.held p.core.dtls.instance
    dtls_turn_falls p q turn = answer_falls p.core.dtls.active turn.answer turn.dtls p q turn.by_poll turn.by_answer
