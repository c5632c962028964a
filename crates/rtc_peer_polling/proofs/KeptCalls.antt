-- Closing changes nothing of what negotiation keeps beside the channels and their streams, and how this is followed through calls and
-- stages.
use Rattle.std.proofs.Common.{◌≡◌, Result, Ok, Err, refl, sym, ap, subst, ◌∙◌}
use Rattle.rtc_peer_core.specs.declared.peer.Peer.{Peer}
use Rattle.rtc_peer_core.specs.declared.phase.Phase.{Phase}
use Rattle.rtc_peer_core.specs.declared.phase.Phase.TheVariants.{Alive, Closing, Closed}
use Rattle.rtc_peer_core.specs.Meanings.{Meanings}
use Rattle.rtc_peer_transport.specs.declared.met.Met.{Met}
use Rattle.rtc_peer_transport.specs.declared.met.Met.TheVariants.{Nothing, Again}
use Rattle.rtc_peer_transport.specs.declared.polled_peer.PolledPeer.{PolledPeer}
use Rattle.rtc_peer_core.specs.declared.rtc_error.RtcError.{RtcError}
use Rattle.rtc_peer_core.specs.declared.rtc_error.RtcError.TheVariants.{Dtls, Sctp, Alloc}
use Rattle.rtc_peer_transport.specs.Closing.{ShutsMedia, ShutsStreams, ShutsDtls, BecomesClosing, BeginsClosing, ClosesPeer, ClosesPeerFrom}
use Rattle.rtc_peer_polling.specs.Kept.{KeepsNegotiation}
use Rattle.rtc_peer_transport.specs.Stages.{Call, InTurn, Failed, Passed, Stage, FollowedBy, Stopped, WentOn, RepeatsStage}
use Rattle.rtc_peer_transport.proofs.StageLemmas.{over_carries}

pub keeps_self : {I D S M N : Type 0} (p : PolledPeer I D S M N) → KeepsNegotiation p p
keeps_self p = refl

pub keeps_on : {I D S M N : Type 0} (p q r : PolledPeer I D S M N) → KeepsNegotiation p q → KeepsNegotiation q r → KeepsNegotiation p r
keeps_on {I} {D} {S} {M} {N} p q r a b =
    b ∙ ap (λ (x : Peer I D S M N). record x {
      phase = r.core.phase;
      greatest = r.core.greatest;
      ice = r.core.ice;
      dtls = r.core.dtls;
      media = r.core.media;
      channels = r.core.channels;
      sctp = r.core.sctp;
    }) a

-- where the peer afterwards is another that keeps it
pub keeps_by : {I D S M N : Type 0} (p n q : PolledPeer I D S M N) → q ≡ n → KeepsNegotiation p n → KeepsNegotiation p q
keeps_by {I} {D} {S} {M} {N} p n q is kept = subst (λ (x : PolledPeer I D S M N). KeepsNegotiation p x) (sym is) kept

-- a call keeps it, whatever it answers
abbrev pub CallKeeps : {I D S M N : Type 0} → Call (PolledPeer I D S M N) → Type 0
CallKeeps {I} {D} {S} {M} {N} call = (p : PolledPeer I D S M N) (r : Result (Unit {0}) RtcError) (q : PolledPeer I D S M N) → call p r q → KeepsNegotiation p q

pub turn_keeps : {I D S M N : Type 0} (first rest : Call (PolledPeer I D S M N)) → CallKeeps first → CallKeeps rest → CallKeeps (InTurn first rest)
turn_keeps first rest one other p r q (Failed error is h) = one p (Err error) q h
turn_keeps first rest one other p r q (Passed between h k) = keeps_on p between q (one p (Ok tt) between h) (other between r q k)

-- a stage keeps it, whatever is met
abbrev pub Keeps : {I D S M E N : Type 0} → Stage (PolledPeer I D S M N) E → Type 0
Keeps {I} {D} {S} {M} {E} {N} stage = (p : PolledPeer I D S M N) (r : Met E) (q : PolledPeer I D S M N) → stage p r q → KeepsNegotiation p q

pub else_keeps : {I D S M E N : Type 0} (first rest : Stage (PolledPeer I D S M N) E) → Keeps first → Keeps rest → Keeps (FollowedBy first rest)
else_keeps first rest one other p r q (Stopped met stage) = one p r q stage
else_keeps first rest one other p r q (WentOn between stage after) =
    keeps_on p between q (one p Nothing between stage) (other between r q after)

pub repeats_keeps : {I D S M E N : Type 0} (stage : Stage (PolledPeer I D S M N) E) → Keeps stage → Keeps (RepeatsStage stage)
repeats_keeps stage one p r q h =
    keeps_on p h.last q
    (over_carries stage KeepsNegotiation keeps_self keeps_on (λ a b turn. one a Again b turn) h.turns p h.last h.over)
    (one h.last r q h.ends)

module _ {I D S M E X T W N : Type 0} (m : Meanings I D S M E X T W N) where
  shut_media_keeps : CallKeeps (ShutsMedia m)
  unfolding ShutsMedia
  shut_media_keeps p (Ok done) q h = keeps_by p _ q h.1 refl
  shut_media_keeps p (Err Alloc) q h = keeps_by p _ q h.1 refl
  shut_media_keeps p (Err _) q h = absurd h

  shut_streams_keeps : CallKeeps (ShutsStreams m)
  unfolding ShutsStreams
  shut_streams_keeps p (Ok done) q h = keeps_by p _ q h.1 refl
  shut_streams_keeps p (Err (Sctp cause)) q h = keeps_by p _ q h.2 refl
  shut_streams_keeps p (Err Alloc) q h = keeps_by p _ q h.1 refl
  shut_streams_keeps p (Err _) q h = absurd h

  shut_dtls_keeps : CallKeeps (ShutsDtls m)
  unfolding ShutsDtls
  shut_dtls_keeps p (Ok done) q h = keeps_by p _ q h.1 refl
  shut_dtls_keeps p (Err (Dtls cause)) q h = keeps_by p _ q h.2 refl
  shut_dtls_keeps p (Err Alloc) q h = keeps_by p _ q h.1 refl
  shut_dtls_keeps p (Err _) q h = absurd h

  begins_keeps : CallKeeps (BeginsClosing m)
  begins_keeps =
      turn_keeps (ShutsMedia m) _ shut_media_keeps
      (turn_keeps (ShutsStreams m) _ shut_streams_keeps
      (turn_keeps (ShutsDtls m) BecomesClosing shut_dtls_keeps (λ p r q h. keeps_by p _ q h.1 refl)))

  closes_from_keeps : (phase : Phase) (p : PolledPeer I D S M N) (r : Result (Unit {0}) RtcError) (q : PolledPeer I D S M N)
      → ClosesPeerFrom m phase p r q → KeepsNegotiation p q
  closes_from_keeps Alive p r q h = begins_keeps p r q h
  closes_from_keeps Closing p r q h = keeps_by p p q h.1 refl
  closes_from_keeps Closed p r q h = keeps_by p p q h.1 refl

  -- closing keeps it
  pub close_keeps : (p : PolledPeer I D S M N) (r : Result (Unit {0}) RtcError) (q : PolledPeer I D S M N) → ClosesPeer m p r q → KeepsNegotiation p q
  close_keeps p r q h = closes_from_keeps p.core.phase p r q h
