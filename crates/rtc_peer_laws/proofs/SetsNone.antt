-- Calls that set no threshold, each by its relation.
use Rattle.std.proofs.Common.{ℕ, Bool, List, Option, Result, refl, ap, arith}
use Rattle.std.specs.declared.alloc.Global.{Global}
use Rattle.rtc_parts.specs.Why.{Other}
use Rattle.rtc_parts.specs.AssociationActs.{LimitsSet, Stirred}
use Rattle.rtc_config.specs.RtcConfig.{PeerConfig}
use Rattle.rtc_sctp.specs.Streams.{SctpStreams}
use Rattle.rtc_peer_core.specs.Built.{Builds}
use Rattle.std.specs.declared.alloc.AllocError.{AllocError}
use Rattle.rtc_sdp_values.specs.declared.sdp.Sdp.{Sdp}
use Rattle.rtc_change.specs.PendingOffer.{PendingOffer}
use Rattle.rtc_peer_core.specs.declared.peer.Peer.{Peer}
use Rattle.rtc_peer_core.specs.declared.rtc_error.RtcError.{RtcError}
use Rattle.rtc_peer_core.specs.Acceptances.{AcceptsAnswer, AcceptsOffer}
use Rattle.rtc_peer_core.specs.Calls.{Applies}
use Rattle.rtc_peer_core.specs.Meanings.{Meanings, PartsLaws}
use Rattle.rtc_peer_core.specs.RollingBack.{RollsBack}
use Rattle.rtc_peer_transport.specs.declared.input.Input.{Input}
use Rattle.rtc_peer_transport.specs.declared.polled_peer.PolledPeer.{PolledPeer}
use Rattle.rtc_peer_transport.specs.ChannelCalls.{ClosesDataChannel, WritesChannel}
use Rattle.rtc_peer_transport.specs.Closing.{ClosesPeer}
use Rattle.rtc_peer_polling.specs.Inputs.{HandlesInput}
use Rattle.rtc_peer_laws.specs.Weight.{HasNoThreshold, IsMoment, IsTimely, thresholds_asked}
use Rattle.rtc_peer_laws.proofs.ClosingFalls.{close_fits}
use Rattle.rtc_peer_laws.proofs.Drains.{fits, fitted}
use Rattle.rtc_peer_laws.proofs.UnsetCalls.{channel_close_fits, input_fits, write_fits}
use Rattle.rtc_peer_laws.proofs.UnsetNegotiation.{CoreFits, answer_fits, applies_fits, offer_fits, rollback_fits}

module _ {I D S M E X T W N : Type 0} (m : Meanings I D S M E X T W N) (laws : PartsLaws m) where
  pub inputs_set_none : (p q : PolledPeer I D S M N) (input : Input) (r : Result (Unit {0}) RtcError) → IsTimely input → HasNoThreshold m p.core → HandlesInput m input p r q → HasNoThreshold m q.core
  inputs_set_none p q input r is h k = fitted m laws q (input_fits m laws input is p r q k (fits m laws p h))

  pub closes_set_none : (p q : PolledPeer I D S M N) (r : Result (Unit {0}) RtcError) → HasNoThreshold m p.core → ClosesPeer m p r q → HasNoThreshold m q.core
  closes_set_none p q r h k = fitted m laws q (close_fits m laws p r q k (fits m laws p h))

  pub writes_set_none : (p q : PolledPeer I D S M N) (stream : ℕ) (binary : Bool) (bytes : List ℕ) (r : Result Bool RtcError) → HasNoThreshold m p.core
      → WritesChannel m stream binary bytes p r q → HasNoThreshold m q.core
  writes_set_none p q stream binary bytes r h k = fitted m laws q (write_fits m laws stream binary bytes p r q k (fits m laws p h))

  pub channel_closes_set_none : (p q : PolledPeer I D S M N) (id : ℕ) (r : Result (Unit {0}) AllocError) → HasNoThreshold m p.core → ClosesDataChannel m id p r q → HasNoThreshold m q.core
  channel_closes_set_none p q id r h k = fitted m laws q (channel_close_fits m laws id p r q k (fits m laws p h))

  core_fits : (p : Peer I D S M N) → HasNoThreshold m p → CoreFits m laws.association p
  core_fits p h = ((h.stands, h.asked), h.moment)

  core_fitted : (p : Peer I D S M N) → CoreFits m laws.association p → HasNoThreshold m p
  core_fitted p h = record { stands = h.0.0; asked = h.0.1; moment = h.1 }

  pub offers_set_none : (p q : Peer I D S M N) (offer : Sdp) (r : Result Sdp RtcError) → HasNoThreshold m p → AcceptsOffer m p offer r q → HasNoThreshold m q
  offers_set_none p q offer r h k = core_fitted q (offer_fits m laws.association p offer r q k (core_fits p h))

  pub answers_set_none : (p q : Peer I D S M N) (token : PendingOffer) (answer : Sdp) (r : Result (Unit {0}) RtcError) → HasNoThreshold m p → AcceptsAnswer m p token answer r q
      → HasNoThreshold m q
  answers_set_none p q token answer r h k = core_fitted q (answer_fits m laws.association p token answer r q k (core_fits p h))

  pub applies_set_none : (p q : Peer I D S M N) (r : Result (Option (Sdp × PendingOffer)) AllocError) → HasNoThreshold m p → Applies m p r q → HasNoThreshold m q
  applies_set_none p q r h k = core_fitted q (applies_fits m laws.association p r q k (core_fits p h))

  pub rollbacks_set_none : (p q : Peer I D S M N) (token : PendingOffer) (r : Result (Unit {0}) RtcError) → HasNoThreshold m p → RollsBack p token r q → HasNoThreshold m q
  rollbacks_set_none p q token r h k = core_fitted q (rollback_fits m laws.association p token r q k (core_fits p h))

  pub built_sets_none : (alloc : Global) (config : PeerConfig) (start : ℕ) (ice : I) (dtls : D) (association : S) (media : M) (ids : N) (p : Peer I D S M N) → IsMoment start
      → m.association.fresh association → Builds m alloc config start ice dtls association media ids p → HasNoThreshold m p
  built_sets_none alloc config start ice dtls association media ids p is fresh h = record {
    stands = laws.association.no_threshold association p.sctp.association (Stirred Other) (LimitsSet _ _ h.by_limits) refl (laws.association.fresh_no_threshold association fresh);
    asked = ap (λ (x : SctpStreams S). thresholds_asked x.entries) h.streams;
    moment = omega (arith, ap (λ (x : Peer I D S M N). x.greatest) h.rest, is);
  }
