-- What a step leaves of the DTLS role of its side: the role that there is stays, and a start of the association takes it.
use Rattle.std.specs.Prelude.{is_some}
use Rattle.std.proofs.Common.{◌≡◌, ◌∙◌, ◌⊎◌, inl, inr, ℕ, Bool, true, false, true≢false, not, List, [], Option, Some, None, Result, Ok, Err, refl, sym, ap}
use Rattle.rtc_parts.specs.DtlsState.{DtlsState}
use Rattle.rtc_parts.specs.declared.dtls_error.DtlsError.{DtlsError}
use Rattle.rtc_parts.specs.declared.dtls_error.DtlsError.TheVariants.{WouldBlock, Fault, Alloc as DtlsAlloc}
use Rattle.rtc_sdp_values.specs.Sdp.{sdp_setup, max_message_size_of}
use Rattle.rtc_sdp_values.specs.declared.sdp.Sdp.{Sdp}
use Rattle.rtc_sdp_values.specs.declared.setup.Setup.{Setup}
use Rattle.rtc_sctp_entries.specs.declared.stream_entry.StreamEntry.{StreamEntry}
use Rattle.rtc_sctp_values.specs.InitHalves.{InitHalves}
use Rattle.rtc_sctp_values.specs.declared.proto_error.ProtoError.TheVariants as proto
use Rattle.rtc_sctp_values.specs.declared.sctp_error.SctpError.TheVariants as sctp
use Rattle.rtc_sctp.specs.Streams.{SctpStreams}
use Rattle.rtc_peer_rows.specs.ParsedLines.{parsed_lines}
use Rattle.rtc_change.specs.PendingOffer.{PendingOffer}
use Rattle.rtc_change.specs.TableAfter.{table_after}
use Rattle.rtc_peer_core.specs.declared.peer.Peer.{Peer}
use Rattle.rtc_peer_core.specs.declared.rtc_error.RtcError.{RtcError}
use Rattle.rtc_peer_core.specs.declared.rtc_error.RtcError.TheVariants.{Net, Media as MediaFailed, Glare}
use Rattle.rtc_peer_core.specs.declared.rtc_error.RtcError.TheVariants.{RemoteSdp, Sdp as SdpRefused, Dtls, Sctp, ChangesOutOfOrder, BadChannel, Alloc as PeerAlloc}
use Rattle.rtc_peer_core.specs.Acceptances.{AcceptsOffer, AcceptsAnswer}
use Rattle.rtc_peer_core.specs.Calls.{raised}
use Rattle.rtc_peer_core.specs.MadeSdp.{role_after, role_for}
use Rattle.rtc_peer_core.specs.Meanings.{Meanings, PartsLaws}
use Rattle.rtc_peer_core.specs.PartMoves.{remote_limit, needs_start, StartsDtls, StartsWhere}
use Rattle.rtc_peer_core.specs.SdpMoves.{StartsBySdp}
use Rattle.rtc_peer_core.specs.Stance.{Stance}
use Rattle.rtc_peer_core.proofs.PartMovesLemmas.{role_taken}
use Rattle.rtc_peer_core.proofs.StoppedPeers.{stopped_dtls, stopped_sctp}
use Rattle.rtc_peer_transport.specs.declared.polled_peer.PolledPeer.{PolledPeer}
use Rattle.rtc_peer_polling.proofs.StreamStarts.{started_same}
use Rattle.rtc_run_history.specs.declared.side.Side.{Side}
use Rattle.rtc_run_history.specs.Past.{Entry}
use Rattle.rtc_run_history.specs.Sides.{side_of, other_side}
use Rattle.rtc_run_history.specs.PairState.{addr_at, PairState, rtc_at, peer_at}
use Rattle.rtc_run_history.specs.Performs.{Enters}
use Rattle.rtc_run_history.proofs.BothSides.{both_sides}
use Rattle.rtc_run_laws.proofs.StepKinds.{PeerKind, KeptCore, StagedOps, TookOffer, TookAnswer, StepKind, Stayed, MovedBy, Described, acts_kind}
use Rattle.rtc_run_laws.proofs.UnusedStreams.{offer_halves, answer_halves, refused_same, stopped_started}

-- a role that is there stays, whatever the other side tells
role_stays : (role : Option Bool) (told : Option Setup) → is_some role ≡ true → Some (role_after role told) ≡ role
role_stays (Some role) told some = refl
role_stays None told some = absurd (true≢false (sym some))

module _ {I D S M E X T W N : Type 0} (m : Meanings I D S M E X T W N) (laws : PartsLaws m) where
  abbrev has_started : Peer I D S M N → Bool
  has_started p = m.association.started p.sctp.association

  -- the role stays where there is one, and where the association is started the side is its client by that role
  pub record KeepsRole (old new : Peer I D S M N) : Type 0 where
    pub stays : is_some old.dtls.active ≡ true → new.dtls.active ≡ old.dtls.active
    pub starts : m.association.started old.sctp.association ≡ false → m.association.started new.sctp.association ≡ true
        → new.dtls.active ≡ Some new.sctp.client

  -- nothing is started
  role_told : (p q : Peer I D S M N) → (is_some p.dtls.active ≡ true → q.dtls.active ≡ p.dtls.active) → has_started q ≡ has_started p → KeepsRole p q
  role_told p q stays started = record { stays = stays; starts = λ before after. absurd (true≢false (sym after ∙ started ∙ before)) }

  role_alike : (p q : Peer I D S M N) → q.dtls ≡ p.dtls → has_started q ≡ has_started p → KeepsRole p q
  role_alike p q same started = role_told p q (λ some. ap (λ (d : DtlsState D). d.active) same) started

  taken : (p : Peer I D S M N) (sdp : Sdp) (r : Result (Unit {0}) DtlsError) (d : DtlsState D)
      → StartsDtls m.dtls p.dtls p.dtls.active (role_for (sdp_setup sdp)) p.greatest r d → d.active ≡ Some (role_after p.dtls.active (sdp_setup sdp))
  taken p sdp r d h = role_taken m.dtls p.dtls d p.dtls.active (sdp_setup sdp) p.greatest r refl h

  role_taking : (p q : Peer I D S M N) (sdp : Sdp) (r : Result (Unit {0}) DtlsError)
      → StartsDtls m.dtls p.dtls p.dtls.active (role_for (sdp_setup sdp)) p.greatest r q.dtls → has_started q ≡ has_started p → KeepsRole p q
  role_taking p q sdp r h started =
      role_told p q (λ some. taken p sdp r q.dtls h ∙ role_stays p.dtls.active (sdp_setup sdp) some) started

  -- a start that was to be makes the side the client or the server
  began : (needed : Bool) (p : SctpStreams S) (client : Bool) (now max : ℕ) (halves : Option InitHalves) (drops : Bool) (q : SctpStreams S)
      → StartsWhere m.association needed p client now max halves drops (Ok tt) q → m.association.started p.association ≡ false
      → m.association.started q.association ≡ true → q.client ≡ client
  began false p client now max halves drops q h before after =
      absurd (true≢false (sym after ∙ ap (λ (s : SctpStreams S). m.association.started s.association) h.1 ∙ before))
  began true p client now max halves drops q h before after = ap (λ (s : SctpStreams S). s.client) h.2

  role_starting : (p q : Peer I D S M N) (offer : Bool) (sdp : Sdp) (halves : Option InitHalves)
      → StartsDtls m.dtls p.dtls p.dtls.active (role_for (sdp_setup sdp)) p.greatest (Ok tt) q.dtls → StartsBySdp m p offer sdp halves (Ok tt) q.sctp
      → KeepsRole p q
  role_starting p q offer sdp halves role starts = record {
    stays = λ some. taken p sdp (Ok tt) q.dtls role ∙ role_stays p.dtls.active (sdp_setup sdp) some;
    starts = λ before after.
        taken p sdp (Ok tt) q.dtls role
        ∙ ap (λ (b : Bool). Some b)
        (sym
        (began (needs_start m.association (table_after p.lines (parsed_lines sdp) offer) p.sctp) p.sctp
        (role_after p.dtls.active (sdp_setup sdp)) p.greatest (remote_limit (max_message_size_of sdp)) halves (not offer) q.sctp starts before after));
  }

  role_unstarted : (p q : Peer I D S M N) (offer : Bool) (sdp : Sdp) (halves : Option InitHalves)
      → StartsDtls m.dtls p.dtls p.dtls.active (role_for (sdp_setup sdp)) p.greatest (Ok tt) q.dtls
      → StartsBySdp m p offer sdp halves (Err (sctp.Proto proto.Fault)) q.sctp → KeepsRole p q
  role_unstarted p q offer sdp halves role starts =
      role_taking p q sdp (Ok tt) role
      (refused_same m.association laws.association (needs_start m.association (table_after p.lines (parsed_lines sdp) offer) p.sctp) p.sctp
      (role_after p.dtls.active (sdp_setup sdp)) p.greatest (remote_limit (max_message_size_of sdp)) halves (not offer) (sctp.Proto proto.Fault) q.sctp starts)

  role_stopped : (p q : Peer I D S M N) (sdp : Sdp) → has_started q ≡ has_started p
      → (q.dtls ≡ p.dtls) ⊎ ((r : Result (Unit {0}) DtlsError) × StartsDtls m.dtls p.dtls p.dtls.active (role_for (sdp_setup sdp)) p.greatest r q.dtls)
      → KeepsRole p q
  role_stopped p q sdp started (inl same) = role_alike p q same started
  role_stopped p q sdp started (inr starts) = role_taking p q sdp starts.0 starts.1 started

  same_role : (p n q : Peer I D S M N) → n.dtls ≡ p.dtls → n.sctp ≡ p.sctp → q ≡ n → KeepsRole p q
  same_role p n q role sctp same =
      role_alike p q (ap (λ (x : Peer I D S M N). x.dtls) same ∙ role)
      (ap (λ (x : Peer I D S M N). has_started x) same ∙ ap (λ (s : SctpStreams S). m.association.started s.association) sctp)

  -- ---- acceptances

  offer_role : (p : Peer I D S M N) (offer : Sdp) (r : Result Sdp RtcError) (q : Peer I D S M N) → AcceptsOffer m p offer r q → KeepsRole p q
  offer_role p offer (Ok answer) q h = role_starting p q true offer (offer_halves m p offer) h.dtls_starts h.sctp_starts
  offer_role p offer (Err (RemoteSdp why)) q h = same_role p _ q refl refl h.1.1
  offer_role p offer (Err (SdpRefused error)) q h = same_role p _ q refl refl h.1.1
  offer_role p offer (Err (Dtls Fault)) q h = role_taking p q offer (Err Fault) h.dtls_fails (ap (λ (x : Peer I D S M N). has_started x) h.rest)
  offer_role p offer (Err (Dtls WouldBlock)) q h = absurd h
  offer_role p offer (Err (Dtls DtlsAlloc)) q h = absurd h
  offer_role p offer (Err (Sctp error)) q h = role_unstarted p q true offer (offer_halves m p offer) h.1.dtls_starts h.1.sctp_fails
  offer_role p offer (Err ChangesOutOfOrder) q h = absurd h
  offer_role p offer (Err (Net cause)) q h = absurd h
  offer_role p offer (Err (MediaFailed cause)) q h = absurd h
  offer_role p offer (Err BadChannel) q h = absurd h
  offer_role p offer (Err Glare) q h = same_role p p q refl refl h.1
  offer_role p offer (Err PeerAlloc) q h =
      role_stopped p q offer
      (stopped_started m laws (record p { counter = raised p.counter; outstanding = false }) true offer (offer_halves m p offer) q.sctp
      (stopped_sctp m (record p { counter = raised p.counter; outstanding = false }) _ _ _ _ _ _ q h.stops))
      (stopped_dtls m (record p { counter = raised p.counter; outstanding = false }) _ _ _ _ _ _ q h.stops)

  answer_role : (p : Peer I D S M N) (token : PendingOffer) (answer : Sdp) (r : Result (Unit {0}) RtcError) (q : Peer I D S M N)
      → AcceptsAnswer m p token answer r q → KeepsRole p q
  answer_role p token answer (Ok done) q h = role_starting p q false answer (answer_halves m p token answer) h.dtls_starts h.sctp_starts
  answer_role p token answer (Err (RemoteSdp why)) q h = same_role p _ q refl refl h.1.1
  answer_role p token answer (Err (SdpRefused error)) q h = same_role p _ q refl refl h.1.1
  answer_role p token answer (Err (Dtls Fault)) q h = role_taking p q answer (Err Fault) h.dtls_fails (ap (λ (x : Peer I D S M N). has_started x) h.rest)
  answer_role p token answer (Err (Dtls WouldBlock)) q h = absurd h
  answer_role p token answer (Err (Dtls DtlsAlloc)) q h = absurd h
  answer_role p token answer (Err (Sctp error)) q h = role_unstarted p q false answer (answer_halves m p token answer) h.1.dtls_starts h.1.sctp_fails
  answer_role p token answer (Err ChangesOutOfOrder) q h = same_role p p q refl refl h.1
  answer_role p token answer (Err (Net cause)) q h = absurd h
  answer_role p token answer (Err (MediaFailed cause)) q h = absurd h
  answer_role p token answer (Err BadChannel) q h = absurd h
  answer_role p token answer (Err Glare) q h = absurd h
  answer_role p token answer (Err PeerAlloc) q h =
      role_stopped p q answer (stopped_started m laws p false answer (answer_halves m p token answer) q.sctp (stopped_sctp m (record p { outstanding = false }) _ _ _ _ _ _ q h.stops))
      (stopped_dtls m (record p { outstanding = false }) _ _ _ _ _ _ q h.stops)

  -- ---- steps

  unstaged : (old new : Peer I D S M N) → KeepsRole (record old { staged = []; undo = [] }) new → KeepsRole old new
  unstaged old new keeps = record { stays = keeps.stays; starts = keeps.starts }

  peer_role : (old new : Peer I D S M N) → PeerKind m laws old new → KeepsRole old new
  peer_role old new (KeptCore same) = same_role old old new refl refl same
  peer_role old new (StagedOps same) =
      role_alike old new (ap (λ (c : DtlsState D × (S × List StreamEntry) × M). c.0) same)
      (ap (λ (c : DtlsState D × (S × List StreamEntry) × M). m.association.started c.1.0) same)
  peer_role old new (TookOffer offer r h) = unstaged old new (offer_role (record old { staged = []; undo = [] }) offer r new h)
  peer_role old new (TookAnswer token answer r h) = unstaged old new (answer_role (record old { staged = []; undo = [] }) token answer r new h)

  -- What a step leaves of the role of the side that it is performed at.
  step_role : (old new : PolledPeer I D S M N) → StepKind m laws old new → KeepsRole old.core new.core
  step_role old new (Stayed same) = same_role old.core old.core new.core refl refl (ap (λ (x : PolledPeer I D S M N). x.core) same)
  step_role old new (MovedBy numbers moves) =
      role_told old.core new.core (λ some. ap (λ (x : Stance). x.role) moves.peer) (started_same m.association old.core.sctp new.core.sctp moves.start)
  step_role old new (Described kind) = peer_role old.core new.core kind

  -- Each side keeps its role through a step, and has it where the step starts its association.
  pub enters_role : (stun : List ℕ → Bool) (old : PairState I D S M N) (entry : Entry E) (new : PairState I D S M N) → Enters m stun old entry new
      → (at : Side) → KeepsRole (peer_at at old) (peer_at at new)
  enters_role stun old entry new enters =
      both_sides (λ at. KeepsRole (peer_at at old) (peer_at at new)) (side_of entry.step)
      (step_role (rtc_at (side_of entry.step) old) (rtc_at (side_of entry.step) new)
      (acts_kind m laws stun (addr_at (other_side (side_of entry.step)) old) (addr_at (side_of entry.step) old) entry.step (rtc_at (side_of entry.step) old) old.sdps old.packets entry.outcome entry.table (rtc_at (side_of entry.step) new)
      new.sdps new.packets enters.performs.acts))
      (step_role (rtc_at (other_side (side_of entry.step)) old) (rtc_at (other_side (side_of entry.step)) new) (Stayed enters.performs.other))
