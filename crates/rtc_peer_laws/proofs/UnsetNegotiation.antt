-- Offers and answers that are accepted, refused or stopped, and a rollback, set no threshold; nor does it to apply what is staged.
use Rattle.std.proofs.Common.{◌≡◌, ℕ, Bool, true, false, not, List, [], ◌∷◌, Option, Some, None, Result, Ok, Err, sym, ap, subst, arith}
use Rattle.std.specs.declared.alloc.AllocError.{AllocError}
use Rattle.rtc_sdp_values.specs.declared.candidate.Candidate.{Candidate}
use Rattle.rtc_sdp_values.specs.declared.ice_creds.IceCreds.{IceCreds}
use Rattle.rtc_sdp_values.specs.declared.line_row.LineRow.{LineRow}
use Rattle.rtc_sdp_values.specs.declared.sdp.Sdp.{Sdp}
use Rattle.rtc_sdp_values.specs.Sdp.{sdp_setup, max_message_size_of, creds_of, candidates_of}
use Rattle.rtc_parts.specs.AssociationLaws.{AssociationLaws}
use Rattle.rtc_parts.specs.declared.dtls_error.DtlsError.TheVariants.{WouldBlock, Fault, Alloc as DtlsAlloc}
use Rattle.rtc_sctp_values.specs.InitHalves.{InitHalves}
use Rattle.rtc_sctp_values.specs.declared.proto_error.ProtoError.TheVariants.{Fault as AssociationFault}
use Rattle.rtc_sctp_values.specs.declared.sctp_error.SctpError.{SctpError}
use Rattle.rtc_sctp_values.specs.declared.sctp_error.SctpError.TheVariants.{Proto, Alloc as SctpAlloc}
use Rattle.rtc_sctp.specs.Streams.{SctpStreams}
use Rattle.rtc_peer_rows.specs.ParsedLines.{parsed_lines}
use Rattle.rtc_change.specs.declared.change.Change.{Change}
use Rattle.rtc_change.specs.Held.{Asked}
use Rattle.rtc_change.specs.PendingOffer.{PendingOffer, staged_restart}
use Rattle.rtc_change.specs.Plans.{asked_by, is_offer, may_take_init}
use Rattle.rtc_change.specs.TableAfter.{table_after}
use Rattle.rtc_peer_core.specs.declared.peer.Peer.{Peer}
use Rattle.rtc_peer_core.specs.declared.rtc_error.RtcError.{RtcError}
use Rattle.rtc_peer_core.specs.declared.rtc_error.RtcError.TheVariants.{RemoteSdp, Sdp as SdpRefused, Dtls, Sctp, Net, Media as MediaFailed, ChangesOutOfOrder, BadChannel, Alloc, Glare}
use Rattle.rtc_peer_core.specs.Acceptances.{AcceptsOffer, AcceptsAnswer}
use Rattle.rtc_peer_core.specs.Calls.{Applies, LacksOffer, after_channels_alone, control_for, raised}
use Rattle.rtc_peer_core.specs.MadeSdp.{role_for, role_after}
use Rattle.rtc_peer_core.specs.Meanings.{Meanings}
use Rattle.rtc_peer_core.specs.PartMoves.{StartsSctp, StopsMoving, AtAgent, AtRole, AtStart, needs_start, remote_limit}
use Rattle.rtc_peer_core.specs.RollingBack.{RollsBack}
use Rattle.rtc_peer_core.specs.SdpHalves.{draws_half}
use Rattle.rtc_peer_core.specs.SdpMoves.{StartsBySdp, answer_ids, followed_restart, halves_for}
use Rattle.rtc_peer_core.specs.Stance.{stance_of}
use Rattle.rtc_peer_core.specs.StoppedAcceptances.{StopsPreparing, BeforeSources, AmongDraws, AtUpdates, StopsAccepting, AtVerdict, AtPreparing, AtParts}
use Rattle.rtc_peer_laws.specs.Weight.{IsMoment}
use Rattle.rtc_peer_laws.proofs.PollsUnset.{AreUnset}
use Rattle.rtc_peer_laws.proofs.UnsetStreams.{starts_unset}

module _ {I D S M E X T W N : Type 0} (m : Meanings I D S M E X T W N) (w : AssociationLaws m.association) where
  -- no threshold stands or is asked for, and the greatest moment is one
  abbrev pub CoreFits : Peer I D S M N → Type 0
  CoreFits p = AreUnset m.association w p.sctp × IsMoment p.greatest

  pub core_as : (x q : Peer I D S M N) → q ≡ x → CoreFits x → CoreFits q
  core_as x q is h = subst (λ (y : Peer I D S M N). CoreFits y) (sym is) h

  -- the peer with other streams
  core_with : (p q : Peer I D S M N) → q.greatest ≡ p.greatest → AreUnset m.association w q.sctp → CoreFits p → CoreFits q
  core_with p q great unset k = (unset, omega (arith, great, k.1))

  starts : (p : Peer I D S M N) (rows : List LineRow) (client : Bool) (max : ℕ) (halves : Option InitHalves) (drops : Bool) (r : Result (Unit {0}) SctpError) (s : SctpStreams S)
      → StartsSctp m.association p.sctp rows client p.greatest max halves drops r s → AreUnset m.association w p.sctp → AreUnset m.association w s
  starts p rows client max halves drops r s h k =
      starts_unset m.association w (needs_start m.association rows p.sctp) client p.greatest max halves drops p.sctp r s h k

  starts_by : (p : Peer I D S M N) (offer : Bool) (sdp : Sdp) (halves : Option InitHalves) (r : Result (Unit {0}) SctpError) (s : SctpStreams S)
      → StartsBySdp m p offer sdp halves r s → AreUnset m.association w p.sctp → AreUnset m.association w s
  starts_by p offer sdp halves r s h k =
      starts p (table_after p.lines (parsed_lines sdp) offer) (role_after p.dtls.active (sdp_setup sdp)) (remote_limit (max_message_size_of sdp)) halves (not offer) r s h k

  -- ---- acceptances that stop

  preparing : (o : Peer I D S M N) (offer may : Bool) (changes : List Change) (sdp : Sdp) (drawn : N) (c : Peer I D S M N)
      → StopsPreparing m o offer may changes sdp drawn c → c.sctp ≡ o.sctp
  preparing o offer may changes sdp drawn c (BeforeSources is) = ap (λ (x : Peer I D S M N). x.sctp) is
  preparing o offer may changes sdp drawn c (AmongDraws later more is) = ap (λ (x : Peer I D S M N). x.sctp) is
  preparing o offer may changes sdp drawn c (AtUpdates error prepared is) = ap (λ (x : Peer I D S M N). x.sctp) is

  unset_as : (s t : SctpStreams S) → t ≡ s → AreUnset m.association w s → AreUnset m.association w t
  unset_as s t is k = subst (λ (x : SctpStreams S). AreUnset m.association w x) (sym is) k

  moving : (p c : Peer I D S M N) (restart : Option (IceCreds × Bool)) (creds : Option IceCreds) (candidates : List Candidate)
      (control : Option Bool) (active : Bool) (rows : List LineRow) (client : Bool) (max : ℕ) (halves : Option InitHalves) (drops : Bool)
      → StopsMoving m.ice m.dtls m.association p.ice p.dtls p.sctp restart creds candidates control active rows client p.greatest max halves drops c.ice c.dtls c.sctp
      → AreUnset m.association w p.sctp → AreUnset m.association w c.sctp
  moving p c restart creds candidates control active rows client max halves drops (AtAgent stops dtls sctp) k = unset_as p.sctp c.sctp sctp k
  moving p c restart creds candidates control active rows client max halves drops (AtRole follows begun sctp) k = unset_as p.sctp c.sctp sctp k
  moving p c restart creds candidates control active rows client max halves drops (AtStart follows begun started) k =
      starts p rows client max halves drops (Err SctpAlloc) c.sctp started k

  stops : (p : Peer I D S M N) (count : ℕ) (asked : Option Asked) (changes : List Change) (sdp : Sdp) (restart : Option (IceCreds × Bool))
      (control : Option Bool) (drawn : N) (c : Peer I D S M N) → StopsAccepting m (record p { counter = count; outstanding = false }) asked changes sdp restart control drawn c
      → AreUnset m.association w p.sctp → AreUnset m.association w c.sctp
  stops p count asked changes sdp restart control drawn c (AtVerdict is) k = unset_as p.sctp c.sctp (ap (λ (x : Peer I D S M N). x.sctp) is) k
  stops p count asked changes sdp restart control drawn c (AtPreparing passes at) k =
      unset_as p.sctp c.sctp
      (preparing (record p { counter = count; outstanding = false }) (is_offer asked) (may_take_init asked) changes sdp drawn c at) k
  stops p count asked changes sdp restart control drawn c (AtParts passes ids prepared at) k =
      moving p c restart (creds_of sdp) (candidates_of sdp) control (role_for (sdp_setup sdp)) (table_after p.lines (parsed_lines sdp) (is_offer asked))
      (role_after p.dtls.active (sdp_setup sdp)) (remote_limit (max_message_size_of sdp))
      (halves_for m (record p { counter = count; outstanding = false }) (is_offer asked) (may_take_init asked) changes sdp drawn) (not (is_offer asked)) at k

  -- ---- acceptances

  pub offer_fits : (p : Peer I D S M N) (offer : Sdp) (r : Result Sdp RtcError) (c : Peer I D S M N) → AcceptsOffer m p offer r c → CoreFits p → CoreFits c
  offer_fits p offer (Ok answer) c h k =
      core_with p c (ap (λ (x : Peer I D S M N). x.greatest) h.rest)
      (starts_by p true offer (halves_for m p true true [] offer (answer_ids m p offer)) (Ok tt) c.sctp h.sctp_starts k.0) k
  offer_fits p offer (Err (RemoteSdp why)) c h k = core_as _ c h.1.1 (k.0, k.1)
  offer_fits p offer (Err (SdpRefused error)) c h k = core_as _ c h.1.1 (k.0, k.1)
  offer_fits p offer (Err (Dtls Fault)) c h k = core_as _ c h.rest (k.0, k.1)
  offer_fits p offer (Err (Dtls WouldBlock)) c h k = absurd h
  offer_fits p offer (Err (Dtls DtlsAlloc)) c h k = absurd h
  offer_fits p offer (Err (Sctp error)) c h k =
      core_with p c (ap (λ (x : Peer I D S M N). x.greatest) h.1.rest)
      (starts_by p true offer (halves_for m p true true [] offer (answer_ids m p offer)) (Err (Proto AssociationFault)) c.sctp h.1.sctp_fails k.0) k
  offer_fits p offer (Err ChangesOutOfOrder) c h k = absurd h
  offer_fits p offer (Err (Net cause)) c h k = absurd h
  offer_fits p offer (Err (MediaFailed cause)) c h k = absurd h
  offer_fits p offer (Err BadChannel) c h k = absurd h
  offer_fits p offer (Err Glare) c h k = core_as p c h.1 k
  offer_fits p offer (Err Alloc) c h k =
      core_with p c (ap (λ (x : Peer I D S M N). x.greatest) h.rest)
      (stops p (raised p.counter) None [] offer (followed_restart m p offer) (control_for p.dtls.active offer.ice_lite) (answer_ids m p offer) c h.stops k.0) k

  pub answer_fits : (p : Peer I D S M N) (token : PendingOffer) (answer : Sdp) (r : Result (Unit {0}) RtcError) (c : Peer I D S M N)
      → AcceptsAnswer m p token answer r c → CoreFits p → CoreFits c
  answer_fits p token answer (Ok done) c h k =
      core_with p c (ap (λ (x : Peer I D S M N). x.greatest) h.rest)
      (starts_by p false answer (halves_for m p false token.says_init token.changes answer p.ids) (Ok tt) c.sctp h.sctp_starts k.0) k
  answer_fits p token answer (Err (Net cause)) c h k = absurd h
  answer_fits p token answer (Err (MediaFailed cause)) c h k = absurd h
  answer_fits p token answer (Err BadChannel) c h k = absurd h
  answer_fits p token answer (Err Glare) c h k = absurd h
  answer_fits p token answer (Err ChangesOutOfOrder) c h k = core_as p c h.1 k
  answer_fits p token answer (Err (RemoteSdp why)) c h k = core_as _ c h.1.1 (k.0, k.1)
  answer_fits p token answer (Err (SdpRefused error)) c h k = core_as _ c h.1.1 (k.0, k.1)
  answer_fits p token answer (Err (Dtls Fault)) c h k = core_as _ c h.rest (k.0, k.1)
  answer_fits p token answer (Err (Dtls WouldBlock)) c h k = absurd h
  answer_fits p token answer (Err (Dtls DtlsAlloc)) c h k = absurd h
  answer_fits p token answer (Err (Sctp error)) c h k =
      core_with p c (ap (λ (x : Peer I D S M N). x.greatest) h.1.rest)
      (starts_by p false answer (halves_for m p false token.says_init token.changes answer p.ids) (Err (Proto AssociationFault)) c.sctp h.1.sctp_fails k.0) k
  answer_fits p token answer (Err Alloc) c h k =
      core_with p c (ap (λ (x : Peer I D S M N). x.greatest) h.rest)
      (stops p p.counter (Some (asked_by p.lines token)) token.changes answer (staged_restart token.changes) None p.ids c h.stops k.0) k

  -- ---- what is staged, and what is rolled back

  alone : (changes : List Change) (p q : Peer I D S M N) → q ≡ after_channels_alone changes p → CoreFits p → CoreFits q
  alone [] p q h k = core_as p q h k
  alone (change ∷ changes) p q h k = core_as _ q h (k.0, k.1)

  lacking : (draws : Bool) (p q : Peer I D S M N) → LacksOffer m draws p q → CoreFits p → CoreFits q
  lacking true p q h k = core_as _ q h.1 (k.0, k.1)
  lacking false p q h k = core_as p q h k

  pub applies_fits : (p : Peer I D S M N) (r : Result (Option (Sdp × PendingOffer)) AllocError) (q : Peer I D S M N) → Applies m p r q → CoreFits p → CoreFits q
  applies_fits p (Ok None) q h k = alone p.staged p q h.1 k
  applies_fits p (Ok (Some made)) q h k = core_as _ q h.4 ((k.0.0, k.0.1), k.1)
  applies_fits p (Err error) q h k = lacking (draws_half (stance_of m p)) p q h k

  pub rollback_fits : (p : Peer I D S M N) (token : PendingOffer) (r : Result (Unit {0}) RtcError) (q : Peer I D S M N) → RollsBack p token r q → CoreFits p → CoreFits q
  rollback_fits p token (Ok done) q h k = core_as _ q h.1 (k.0, k.1)
  rollback_fits p token (Err ChangesOutOfOrder) q h k = core_as p q h.1 k
  rollback_fits p token (Err _) q h k = absurd h
