-- The moments by which a timer of DTLS is due, and what keeps them.
use Rattle.std.proofs.Common.{◌≡◌, ◌-◌, ◌^◌, ◌&&◌, ◌==◌, inl, inr, nat_le, not, ℕ, Bool, true, false}
use Rattle.std.proofs.Common.{Option, Some, None, refl, sym, ap, subst, ◌∙◌, arith}
use Rattle.rtc_parts.specs.declared.ice_event.IceEvent.{IceEvent}
use Rattle.rtc_parts.specs.declared.ice_event.IceEvent.TheVariants as events
use Rattle.rtc_parts.specs.DtlsLaws.{IsLater}
use Rattle.rtc_peer_core.specs.Meanings.{Meanings}
use Rattle.rtc_peer_transport.specs.declared.handshake.Handshake.{Handshake}
use Rattle.rtc_peer_transport.specs.declared.handshake.Handshake.TheVariants.{Pending, Finished, Told}
use Rattle.rtc_peer_transport.specs.declared.met.Met.{Met}
use Rattle.rtc_peer_transport.specs.declared.met.Met.TheVariants.{Nothing, Again}
use Rattle.rtc_peer_transport.specs.declared.polled_peer.PolledPeer.{PolledPeer}
use Rattle.rtc_peer_transport.specs.declared.send_addr.SendAddr.{SendAddr}
use Rattle.rtc_peer_transport.specs.declared.transport.Transport.{Transport}
use Rattle.rtc_peer_transport.specs.Connection.{with_ice}
use Rattle.rtc_peer_polling.specs.DtlsStages.{TellsConnectedFrom, has_come, is_dtls_due}
use Rattle.rtc_peer_polling.specs.IceStages.{PollsIceEvent, PollsIceEvents, TakesIceEvent, after_ice_event}
use Rattle.rtc_peer_polling.specs.MediaStages.{TellsMedia, TellsFallibleMedia}
use Rattle.rtc_peer_polling.specs.SendStages.{SendsChecks, SendsDtlsPacket, SendsMediaDatagram, SendsBy, SendsByPair}
use Rattle.rtc_peer_polling.specs.Walk.{TellsArrivals, SendsDatagrams}
use Rattle.rtc_peer_transport.specs.Statistics.{TellsStatistics}
use Rattle.rtc_peer_transport.proofs.StageLemmas.{over_carries, went_through}
use Rattle.rtc_peer_transport.proofs.StatisticsTurns.{statistics_told}

and_false : (b : Bool) → (b && false) ≡ false
and_false true = refl
and_false false = refl

-- a moment that is later has not come
pub later_is_to_come : (moment greatest : ℕ) → IsLater greatest moment → has_come moment greatest ≡ false
later_is_to_come moment greatest (inl later) =
    let earlier : nat_le moment greatest ≡ false = grind (arith, later) in
    rw earlier (and_false (not (moment == (2 ^ 64 - 1))))
later_is_to_come moment greatest (inr never) = rw never refl

-- the moments by which a timer of DTLS is due are the same
abbrev pub KeepsMoments : {I D S M N : Type 0} → PolledPeer I D S M N → PolledPeer I D S M N → Type 0
KeepsMoments p q = (q.transport.dtls_wake ≡ p.transport.dtls_wake) × (q.core.greatest ≡ p.core.greatest)

pub due_kept : {I D S M N : Type 0} (p q : PolledPeer I D S M N) → KeepsMoments p q → is_dtls_due q ≡ is_dtls_due p
due_kept p q kept = ap (λ (w : ℕ). has_come w q.core.greatest) kept.0 ∙ ap (λ (g : ℕ). has_come p.transport.dtls_wake g) kept.1

pub keeps_as : {I D S M N : Type 0} (p n q : PolledPeer I D S M N) → q ≡ n → KeepsMoments p n → KeepsMoments p q
keeps_as {I} {D} {S} {M} {N} p n q e kept = subst (λ (x : PolledPeer I D S M N). KeepsMoments p x) (sym e) kept

pub keeps_join : {I D S M N : Type 0} (p q r : PolledPeer I D S M N) → KeepsMoments p q → KeepsMoments q r → KeepsMoments p r
keeps_join p q r a b = (b.0 ∙ a.0, b.1 ∙ a.1)

after_ice_wake : (event : IceEvent) (t : Transport) → (after_ice_event event t).dtls_wake ≡ t.dtls_wake
after_ice_wake events.IceRestart t = refl
after_ice_wake (events.StateChange state) t = refl
after_ice_wake (events.DiscoveredRecv proto source) t = refl
after_ice_wake (events.NominatedSend proto source destination) t = refl

module _ {I D S M E X T W N : Type 0} (m : Meanings I D S M E X T W N) where
  ice_turn_keeps : (event : Option IceEvent) (ice : I) (p : PolledPeer I D S M N) (r : Met E) (q : PolledPeer I D S M N)
      → TakesIceEvent event (with_ice ice p) r q → KeepsMoments p q
  ice_turn_keeps None ice p r q taken = keeps_as p (with_ice ice p) q taken.1 (refl, refl)
  ice_turn_keeps (Some event) ice p r q taken =
      keeps_as p (record (with_ice ice p) { transport = after_ice_event event p.transport }) q taken.1 (after_ice_wake event p.transport, refl)

  pub ice_keeps : (p q : PolledPeer I D S M N) → PollsIceEvents m p Nothing q → KeepsMoments p q
  ice_keeps p q h =
      keeps_join p h.last q
      (over_carries (PollsIceEvent m) KeepsMoments (λ x. (refl, refl)) keeps_join
      (λ a b turn. ice_turn_keeps turn.event turn.ice a Again b turn.by_event) h.turns p h.last h.over)
      (ice_turn_keeps h.ends.event h.ends.ice h.last Nothing q h.ends.by_event)

  pub connected_keeps : (handshake : Handshake) (p q : PolledPeer I D S M N) → TellsConnectedFrom {E = E} handshake p Nothing q → KeepsMoments p q
  connected_keeps Pending p q told = keeps_as p p q told.1 (refl, refl)
  connected_keeps Finished p q told = cc (told.0)
  connected_keeps Told p q told = keeps_as p p q told.1 (refl, refl)

  pub arrivals_keep : (p q : PolledPeer I D S M N) → TellsArrivals m p Nothing q → KeepsMoments p q
  unfolding TellsArrivals TellsMedia TellsFallibleMedia
  arrivals_keep p q h =
      let met = went_through (TellsMedia m) _ p q h in
      let more = went_through (TellsFallibleMedia m) TellsStatistics met.0 q met.1.1 in
      keeps_join p met.0 q (keeps_as p _ met.0 met.1.0.1 (refl, refl))
      (keeps_join met.0 more.0 q (keeps_as met.0 _ more.0 more.1.0.1 (refl, refl))
      (keeps_as more.0 _ q (statistics_told more.0 Nothing q more.1.1) (refl, refl)))

  pair_keeps : (send_addr : Option SendAddr) (p q : PolledPeer I D S M N) → SendsBy m send_addr p Nothing q → KeepsMoments p q
  unfolding SendsDtlsPacket SendsMediaDatagram
  pair_keeps None p q sends = keeps_as p _ q sends.2 (refl, refl)
  pair_keeps (Some addr) p q sends =
      let met = went_through (SendsDtlsPacket m addr) (SendsMediaDatagram m addr) p q sends in
      keeps_join p met.0 q (keeps_as p _ met.0 met.1.0.1 (refl, refl)) (keeps_as met.0 _ q met.1.1.1 (refl, refl))

  pub datagrams_keep : (p q : PolledPeer I D S M N) → SendsDatagrams m p Nothing q → KeepsMoments p q
  unfolding SendsDatagrams SendsChecks
  datagrams_keep p q h =
      let met = went_through (SendsChecks m) (SendsByPair m) p q h in
      keeps_join p met.0 q (keeps_as p _ met.0 met.1.0.1 (refl, refl)) (pair_keeps met.0.transport.send_addr met.0 q met.1.1)
