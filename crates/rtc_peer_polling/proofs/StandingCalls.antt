-- Closing leaves what negotiation reads of the parts of a peer, and how this is followed through calls and stages.
use Rattle.std.proofs.Common.{◌≡◌, Result, Ok, Err, refl, sym, subst, ◌∙◌}
use Rattle.std.specs.Prelude.{alloc_error}
use Rattle.std.proofs.Math.Path.{fun_ext}
use Rattle.rtc_parts.specs.AssociationLaws.{AssociationLaws}
use Rattle.rtc_parts.specs.MediaActs.{KeepsLines, ByShut}
use Rattle.rtc_parts.specs.MediaLaws.{MediaLaws}
use Rattle.rtc_sctp_values.specs.declared.proto_error.ProtoError.TheVariants as proto
use Rattle.rtc_sctp_values.specs.declared.sctp_error.SctpError.TheVariants as sctp
use Rattle.rtc_peer_core.specs.declared.phase.Phase.{Phase}
use Rattle.rtc_peer_core.specs.declared.phase.Phase.TheVariants.{Alive, Closing, Closed}
use Rattle.rtc_peer_core.specs.Meanings.{Meanings}
use Rattle.rtc_peer_transport.specs.declared.met.Met.{Met}
use Rattle.rtc_peer_transport.specs.declared.met.Met.TheVariants.{Nothing, Again}
use Rattle.rtc_peer_transport.specs.declared.polled_peer.PolledPeer.{PolledPeer}
use Rattle.rtc_peer_core.specs.declared.rtc_error.RtcError.{RtcError}
use Rattle.rtc_peer_core.specs.declared.rtc_error.RtcError.TheVariants.{Dtls, Sctp, Alloc}
use Rattle.rtc_peer_transport.specs.Closing.{ShutsMedia, ShutsStreams, ShutsDtls, BecomesClosing, BeginsClosing, ClosesPeer, ClosesPeerFrom}
use Rattle.rtc_peer_transport.specs.Connection.{with_dtls}
use Rattle.rtc_peer_polling.specs.Kept.{KeepsParts}
use Rattle.rtc_peer_transport.specs.Stages.{Call, InTurn, Failed, Passed, Stage, FollowedBy, Stopped, WentOn, RepeatsStage}
use Rattle.rtc_peer_transport.proofs.StageLemmas.{over_carries}
use Rattle.rtc_peer_polling.proofs.DtlsRoles.{KeepsRole}
use Rattle.rtc_peer_polling.proofs.StreamSizes.{shut_size}
use Rattle.rtc_peer_polling.proofs.StreamStarts.{start_self, start_on, shut_start}

module _ {I D S M E X T W N : Type 0} (m : Meanings I D S M E X T W N) where
  pub stands_self : (p : PolledPeer I D S M N) → KeepsParts m p p
  stands_self p = (refl, refl, refl, refl, refl, start_self m.association p.core.sctp)

  pub stands_on : (p q r : PolledPeer I D S M N) → KeepsParts m p q → KeepsParts m q r → KeepsParts m p r
  stands_on p q r a b =
      (b.0 ∙ a.0, b.1 ∙ a.1, b.2 ∙ a.2, b.3 ∙ a.3, b.4 ∙ a.4, start_on m.association p.core.sctp q.core.sctp r.core.sctp a.5 b.5)

  -- where the peer afterwards is another whose parts stand
  pub stands_by : (p n q : PolledPeer I D S M N) → q ≡ n → KeepsParts m p n → KeepsParts m p q
  stands_by p n q is kept = subst (λ (x : PolledPeer I D S M N). KeepsParts m p x) (sym is) kept

  -- a call leaves the parts standing, whatever it answers
  abbrev pub CallStands : Call (PolledPeer I D S M N) → Type 0
  CallStands call = (p : PolledPeer I D S M N) (r : Result (Unit {0}) RtcError) (q : PolledPeer I D S M N) → call p r q → KeepsParts m p q

  pub turn_stands : (first rest : Call (PolledPeer I D S M N)) → CallStands first → CallStands rest → CallStands (InTurn first rest)
  turn_stands first rest one other p r q (Failed error is h) = one p (Err error) q h
  turn_stands first rest one other p r q (Passed between h k) = stands_on p between q (one p (Ok tt) between h) (other between r q k)

  -- a stage leaves the parts standing, whatever is met
  abbrev pub Stands : Stage (PolledPeer I D S M N) E → Type 0
  Stands stage = (p : PolledPeer I D S M N) (r : Met E) (q : PolledPeer I D S M N) → stage p r q → KeepsParts m p q

  pub else_stands : (first rest : Stage (PolledPeer I D S M N) E) → Stands first → Stands rest → Stands (FollowedBy first rest)
  else_stands first rest one other p r q (Stopped met stage) = one p r q stage
  else_stands first rest one other p r q (WentOn between stage after) =
      stands_on p between q (one p Nothing between stage) (other between r q after)

  pub repeats_stands : (stage : Stage (PolledPeer I D S M N) E) → Stands stage → Stands (RepeatsStage stage)
  repeats_stands stage one p r q h =
      stands_on p h.last q
      (over_carries stage (KeepsParts m) stands_self stands_on (λ a b turn. one a Again b turn) h.turns p h.last h.over)
      (one h.last r q h.ends)

  -- only the connection changed
  pub dtls_stand : (p q : PolledPeer I D S M N) → KeepsRole p.core.dtls q.core.dtls → KeepsParts m p (with_dtls q.core.dtls p)
  dtls_stand p q role = (refl, role.0, role.1, refl, refl, start_self m.association p.core.sctp)

module _ {I D S M E X T W N : Type 0} (m : Meanings I D S M E X T W N) (media : MediaLaws m.media) (streams : AssociationLaws m.association) where
  -- a call of the media part that keeps lines
  pub lines_same : (p q : M) → KeepsLines m.media p q → m.media.line q ≡ m.media.line p
  lines_same p q kept = fun_ext (λ mid. media.lines_stay p q mid kept)

  shut_media_stands : CallStands m (ShutsMedia m)
  unfolding ShutsMedia
  shut_media_stands p (Ok done) q h = stands_by m p _ q h.1 (refl, refl, refl, refl, lines_same p.core.media q.core.media (ByShut (Ok tt, h.0)), start_self m.association p.core.sctp)
  shut_media_stands p (Err Alloc) q h = stands_by m p _ q h.1 (refl, refl, refl, refl, lines_same p.core.media q.core.media (ByShut (Err alloc_error, h.0)), start_self m.association p.core.sctp)
  shut_media_stands p (Err _) q h = absurd h

  shut_streams_stand : CallStands m (ShutsStreams m)
  unfolding ShutsStreams
  shut_streams_stand p (Ok done) q h =
      stands_by m p _ q h.1 (refl, refl, refl, shut_size m.association p.core.sctp (Ok tt) q.core.sctp h.0, refl, shut_start m.association streams p.core.sctp (Ok tt) q.core.sctp h.0)
  shut_streams_stand p (Err (Sctp cause)) q h =
      stands_by m p _ q h.2 (refl, refl, refl, shut_size m.association p.core.sctp (Err (sctp.Proto proto.Fault)) q.core.sctp h.1, refl, shut_start m.association streams p.core.sctp (Err (sctp.Proto proto.Fault)) q.core.sctp h.1)
  shut_streams_stand p (Err Alloc) q h =
      stands_by m p _ q h.1 (refl, refl, refl, shut_size m.association p.core.sctp (Err sctp.Alloc) q.core.sctp h.0, refl, shut_start m.association streams p.core.sctp (Err sctp.Alloc) q.core.sctp h.0)
  shut_streams_stand p (Err _) q h = absurd h

  shut_dtls_stands : CallStands m (ShutsDtls m)
  unfolding ShutsDtls
  shut_dtls_stands p (Ok done) q h = stands_by m p _ q h.1 (refl, refl, refl, refl, refl, start_self m.association p.core.sctp)
  shut_dtls_stands p (Err (Dtls cause)) q h = stands_by m p _ q h.2 (refl, refl, refl, refl, refl, start_self m.association p.core.sctp)
  shut_dtls_stands p (Err Alloc) q h = stands_by m p _ q h.1 (refl, refl, refl, refl, refl, start_self m.association p.core.sctp)
  shut_dtls_stands p (Err _) q h = absurd h

  begins_stands : CallStands m (BeginsClosing m)
  begins_stands =
      turn_stands m (ShutsMedia m) _ shut_media_stands
      (turn_stands m (ShutsStreams m) _ shut_streams_stand
      (turn_stands m (ShutsDtls m) BecomesClosing shut_dtls_stands (λ p r q h. stands_by m p _ q h.1 (refl, refl, refl, refl, refl, start_self m.association p.core.sctp))))

  closes_from_stands : (phase : Phase) (p : PolledPeer I D S M N) (r : Result (Unit {0}) RtcError) (q : PolledPeer I D S M N)
      → ClosesPeerFrom m phase p r q → KeepsParts m p q
  closes_from_stands Alive p r q h = begins_stands p r q h
  closes_from_stands Closing p r q h = stands_by m p p q h.1 (refl, refl, refl, refl, refl, start_self m.association p.core.sctp)
  closes_from_stands Closed p r q h = stands_by m p p q h.1 (refl, refl, refl, refl, refl, start_self m.association p.core.sctp)

  -- closing leaves them
  pub close_stands : (p : PolledPeer I D S M N) (r : Result (Unit {0}) RtcError) (q : PolledPeer I D S M N) → ClosesPeer m p r q → KeepsParts m p q
  close_stands p r q h = closes_from_stands p.core.phase p r q h
