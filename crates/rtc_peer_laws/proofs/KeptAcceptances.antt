-- Offers and answers that are accepted, refused or stopped keep the use of each stream, and live channels.
use Rattle.std.proofs.Common.{◌≡◌, inr, ◌&&◌, ℕ, Bool, true, false, true≢false, not, List, [], Option, Some, None, Result, Ok, Err, refl, sym, ap, subst, ◌∙◌}
use Rattle.std.specs.Prelude.{is_some}
use Rattle.rtc_parts.specs.AssociationLaws.{AssociationLaws}
use Rattle.rtc_parts.specs.declared.dtls_error.DtlsError.TheVariants.{WouldBlock, Fault, Alloc as DtlsAlloc}
use Rattle.rtc_sdp_values.specs.declared.candidate.Candidate.{Candidate}
use Rattle.rtc_sdp_values.specs.declared.ice_creds.IceCreds.{IceCreds}
use Rattle.rtc_sdp_values.specs.declared.line_row.LineRow.{LineRow}
use Rattle.rtc_sdp_values.specs.declared.sdp.Sdp.{Sdp}
use Rattle.rtc_sdp_values.specs.Sdp.{creds_of, candidates_of, sdp_setup, max_message_size_of}
use Rattle.rtc_peer_rows.specs.declared.why.Why.{Why}
use Rattle.rtc_peer_rows.specs.declared.why.Why.TheVariants.{
  NoLines,
  BothLite,
  NoCredentials,
  UnaskedRestart,
  NoFingerprint,
  SctpInitChanged,
  SctpInitMissing,
  MovedLine,
  PlaceTaken,
  AnswerRecycles,
  WrongNewLines,
  NoMatch,
  UnknownHash,
  NoneAnnounced,
}
use Rattle.rtc_peer_rows.specs.ParsedLines.{parsed_lines}
use Rattle.rtc_peer_rows.specs.Table.{app_of}
use Rattle.rtc_change.specs.TableAfter.{table_after}
use Rattle.rtc_change.specs.Plans.{is_offer, asked_by, may_take_init}
use Rattle.rtc_change.specs.declared.change.Change.{Change}
use Rattle.rtc_change.specs.Held.{Asked}
use Rattle.rtc_change.specs.PendingOffer.{PendingOffer, staged_restart}
use Rattle.rtc_sctp_values.specs.InitHalves.{InitHalves}
use Rattle.rtc_sctp_values.specs.declared.proto_error.ProtoError.TheVariants.{Fault as AssociationFault}
use Rattle.rtc_sctp_values.specs.declared.sctp_error.SctpError.{SctpError}
use Rattle.rtc_sctp_values.specs.declared.sctp_error.SctpError.TheVariants.{Proto, Alloc as SctpAlloc}
use Rattle.rtc_sctp.specs.Streams.{SctpStreams, is_established}
use Rattle.rtc_sctp_laws.specs.RunningStreams.{AreRunning}
use Rattle.rtc_channels.specs.Channels.{Channels}
use Rattle.rtc_peer_core.specs.declared.peer.Peer.{Peer}
use Rattle.rtc_peer_core.specs.declared.phase.Phase.{Phase}
use Rattle.rtc_peer_core.specs.declared.phase.Phase.TheVariants.{Closed}
use Rattle.rtc_peer_core.specs.declared.rtc_error.RtcError.{RtcError}
use Rattle.rtc_peer_core.specs.declared.rtc_error.RtcError.TheVariants.{RemoteSdp, Sdp as SdpRefused, Dtls, Sctp, Net, Media as MediaFailed, ChangesOutOfOrder, BadChannel, Alloc, Glare}
use Rattle.rtc_peer_core.specs.Meanings.{Meanings}
use Rattle.rtc_peer_core.specs.Calls.{raised, control_for, fitting_channels}
use Rattle.rtc_peer_core.specs.MadeSdp.{role_for, role_after}
use Rattle.rtc_peer_core.specs.SdpMoves.{followed_restart, answer_ids, halves_for}
use Rattle.rtc_peer_core.specs.PartMoves.{needs_start, StartsWhere, StartsSctp, remote_limit, StopsMoving, AtAgent, AtRole, AtStart}
use Rattle.rtc_peer_core.specs.StoppedAcceptances.{StopsPreparing, BeforeSources, AmongDraws, AtUpdates, StopsAccepting, AtVerdict, AtPreparing, AtParts}
use Rattle.rtc_peer_core.specs.Acceptances.{AcceptsOffer, AcceptsAnswer, phase_after}
use Rattle.rtc_peer_transport.specs.declared.polled_peer.PolledPeer.{PolledPeer}
use Rattle.rtc_peer_polling.specs.StreamStages.{channel_over}
use Rattle.rtc_peer_laws.specs.Acts.{NegotiationActs, with_core}
use Rattle.rtc_peer_laws.proofs.ActedAcceptances.{offer_did, answer_did}
use Rattle.rtc_peer_laws.specs.KeptChannels.{CallKeepsStreams}
use Rattle.rtc_peer_laws.specs.ChannelStreams.{AreNumberedChannels, IsGone}
use Rattle.rtc_peer_laws.proofs.GoneChannels.{all_confirmed_given, all_confirmed_gone}
use Rattle.rtc_peer_laws.proofs.ConfirmedChannels.{all_confirmed_over, all_confirmed_numbers}
use Rattle.rtc_peer_laws.specs.RowsChanged.{Confirmed, OnlyActs, RowsChange, Stayed}
use Rattle.rtc_peer_laws.proofs.ChangedRows.{no_acts, one_changed, same_rows}
use Rattle.rtc_peer_laws.proofs.StreamsJoin.{same_given}
use Rattle.rtc_peer_laws.proofs.KeptCalls.{kept_acts}
use Rattle.rtc_peer_laws.proofs.KeptStarts.{started_entries, started_only}

-- a closed peer that refuses a description stays closed
stays_closed : (why : Why) (phase : Phase) → phase ≡ Closed → phase_after why phase ≡ Closed
stays_closed NoFingerprint phase h = refl
stays_closed NoLines phase h = h
stays_closed BothLite phase h = h
stays_closed NoCredentials phase h = h
stays_closed (UnaskedRestart kept got) phase h = h
stays_closed (SctpInitChanged kept got) phase h = h
stays_closed (SctpInitMissing kept) phase h = h
stays_closed (MovedLine mid) phase h = h
stays_closed (PlaceTaken mid) phase h = h
stays_closed (AnswerRecycles mid) phase h = h
stays_closed (WrongNewLines wrong) phase h = h
stays_closed (NoMatch expected got) phase h = refl
stays_closed (UnknownHash name) phase h = refl
stays_closed NoneAnnounced phase h = refl

module _ {I D S M E X T W N : Type 0} (m : Meanings I D S M E X T W N) where
  -- entries stay, and what was established over an association that runs is
  abbrev pub LeavesEntries : SctpStreams S → SctpStreams S → Type 0
  LeavesEntries p q = (q.entries ≡ p.entries) × (AreRunning m.association p → is_established q.state ≡ true) × OnlyActs m.association p q

  pub leaves_same : (p q : SctpStreams S) → q ≡ p → LeavesEntries p q
  leaves_same p q is = (
    ap (λ (s : SctpStreams S). s.entries) is,
    λ k. ap (λ (s : SctpStreams S). is_established s.state) is ∙ k.1,
    no_acts m.association p p q is refl refl refl,
  )

  -- what runs needs no start
  unneeded : (a b : Bool) → b ≡ true → (a && not b) ≡ false
  unneeded true true e = refl
  unneeded false true e = refl
  unneeded a false e = absurd (true≢false (sym e))

  pub sctp_entries : AssociationLaws m.association → (rows : List LineRow) (client : Bool) (now max : ℕ) (halves : Option InitHalves) (drops : Bool) (p : SctpStreams S)
      (r : Result (Unit {0}) SctpError) (q : SctpStreams S) → StartsSctp m.association p rows client now max halves drops r q
      → LeavesEntries p q
  sctp_entries w rows client now max halves drops p r q h = (
    started_entries m (needs_start m.association rows p) client now max halves drops p r q h,
    λ k.
        ap (λ (s : SctpStreams S). is_established s.state)
        (subst (λ (b : Bool). StartsWhere m.association b p client now max halves drops r q)
        (unneeded (is_some (app_of rows)) (m.association.started p.association) k.0) h).1
        ∙ k.1,
    started_only m w (needs_start m.association rows p) client now max halves drops p r q h,
  )

  preparing_entries : (o : Peer I D S M N) (offer may : Bool) (changes : List Change) (sdp : Sdp) (drawn : N) (c : Peer I D S M N)
      → StopsPreparing m o offer may changes sdp drawn c → LeavesEntries o.sctp c.sctp
  preparing_entries o offer may changes sdp drawn c (BeforeSources is) = leaves_same o.sctp c.sctp (ap (λ (x : Peer I D S M N). x.sctp) is)
  preparing_entries o offer may changes sdp drawn c (AmongDraws later more is) = leaves_same o.sctp c.sctp (ap (λ (x : Peer I D S M N). x.sctp) is)
  preparing_entries o offer may changes sdp drawn c (AtUpdates error prepared is) = leaves_same o.sctp c.sctp (ap (λ (x : Peer I D S M N). x.sctp) is)

  moving_entries : AssociationLaws m.association → (p : Peer I D S M N) (c : Peer I D S M N) (restart : Option (IceCreds × Bool)) (creds : Option IceCreds) (candidates : List Candidate)
      (control : Option Bool) (active : Bool) (rows : List LineRow) (client : Bool) (max : ℕ) (halves : Option InitHalves) (drops : Bool)
      → StopsMoving m.ice m.dtls m.association p.ice p.dtls p.sctp restart creds candidates control active rows client p.greatest max halves drops c.ice
      c.dtls c.sctp
      → LeavesEntries p.sctp c.sctp
  moving_entries w p c restart creds candidates control active rows client max halves drops (AtAgent stops dtls sctp) = leaves_same p.sctp c.sctp sctp
  moving_entries w p c restart creds candidates control active rows client max halves drops (AtRole follows starts sctp) = leaves_same p.sctp c.sctp sctp
  moving_entries w p c restart creds candidates control active rows client max halves drops (AtStart follows starts started) =
      sctp_entries w rows client p.greatest max halves drops p.sctp (Err SctpAlloc) c.sctp started

  pub stops_entries : AssociationLaws m.association → (p : Peer I D S M N) (count : ℕ) (asked : Option Asked) (changes : List Change) (sdp : Sdp) (restart : Option (IceCreds × Bool))
      (control : Option Bool) (drawn : N) (c : Peer I D S M N) → StopsAccepting m (record p { counter = count; outstanding = false }) asked changes sdp restart control drawn c
      → LeavesEntries p.sctp c.sctp
  stops_entries w p count asked changes sdp restart control drawn c (AtVerdict is) = leaves_same p.sctp c.sctp (ap (λ (x : Peer I D S M N). x.sctp) is)
  stops_entries w p count asked changes sdp restart control drawn c (AtPreparing passes stops) =
      preparing_entries (record p { counter = count; outstanding = false }) (is_offer asked) (may_take_init asked) changes sdp drawn c stops
  stops_entries w p count asked changes sdp restart control drawn c (AtParts passes ids prepared moving) =
      moving_entries w p c restart (creds_of sdp) (candidates_of sdp) control (role_for (sdp_setup sdp)) (table_after p.lines (parsed_lines sdp) (is_offer asked))
      (role_after p.dtls.active (sdp_setup sdp)) (remote_limit (max_message_size_of sdp))
      (halves_for m (record p { counter = count; outstanding = false }) (is_offer asked) (may_take_init asked) changes sdp drawn) (not (is_offer asked)) moving

  -- acts on the association, where entries and channels stay
  acted_keeps : AssociationLaws m.association → (p : PolledPeer I D S M N) (c : Peer I D S M N) → NegotiationActs m p (with_core c p)
      → LeavesEntries p.core.sctp c.sctp
      → ((s k : ℕ) → channel_over s p.core.channels ≡ Some k → channel_over s c.channels ≡ Some k)
      → (AreNumberedChannels p.core.channels → AreNumberedChannels c.channels)
      → ((k : ℕ) → IsGone k p.core.channels → IsGone k c.channels) → c.channels.given ≡ p.core.channels.given
      → (p.core.phase ≡ Closed → c.phase ≡ Closed) → RowsChange m.association p.core.channels p.core.sctp c.channels c.sctp
      → CallKeepsStreams m p [] (with_core c p)
  acted_keeps w p c did entries over numbers gone given closed change =
      let kept = kept_acts m.association w p.core.sctp c.sctp did.acts.association did.went.association entries.0 entries.1 in
      record {
        uses = kept.uses;
        lives = λ k s g numbered h. (over s k h.0, kept.lives s g h.1);
        numbers = numbers;
        gone = gone;
        closed = closed;
        running = kept.running;
        given = same_given p.core.channels.given c.channels.given given;
        fresh = kept.fresh;
        holds = kept.holds;
        changed = inr (one_changed m.association p.core.channels p.core.sctp c.channels c.sctp change);
      }

  still_keeps : AssociationLaws m.association → (p : PolledPeer I D S M N) (c : Peer I D S M N) → NegotiationActs m p (with_core c p)
      → LeavesEntries p.core.sctp c.sctp → c.channels ≡ p.core.channels → (p.core.phase ≡ Closed → c.phase ≡ Closed)
      → CallKeepsStreams m p [] (with_core c p)
  still_keeps w p c did entries is closed =
      acted_keeps w p c did entries (λ s k h. ap (λ (x : Channels). channel_over s x) is ∙ h) (λ h. subst (λ (x : Channels). AreNumberedChannels x) (sym is) h)
      (λ k h. subst (λ (x : Channels). IsGone k x) (sym is) h) (ap (λ (x : Channels). x.given) is) closed
      (Stayed (same_rows p.core.channels c.channels is) entries.2)

  refused_keeps : AssociationLaws m.association → (p : PolledPeer I D S M N) (n c : Peer I D S M N) → NegotiationActs m p (with_core c p) → c ≡ n
      → n.sctp ≡ p.core.sctp → n.channels ≡ p.core.channels → (p.core.phase ≡ Closed → n.phase ≡ Closed)
      → CallKeepsStreams m p [] (with_core c p)
  refused_keeps w p n c did is sctp channels closed =
      still_keeps w p c did (leaves_same p.core.sctp c.sctp (ap (λ (x : Peer I D S M N). x.sctp) is ∙ sctp)) (ap (λ (x : Peer I D S M N). x.channels) is ∙ channels)
      (λ k. ap (λ (x : Peer I D S M N). x.phase) is ∙ closed k)

  offer_by : AssociationLaws m.association → (p : PolledPeer I D S M N) (offer : Sdp) (r : Result Sdp RtcError) (c : Peer I D S M N)
      → NegotiationActs m p (with_core c p) → AcceptsOffer m p.core offer r c → CallKeepsStreams m p [] (with_core c p)
  offer_by w p offer (Ok answer) c did h =
      still_keeps w p c did
      (sctp_entries w (table_after p.core.lines (parsed_lines offer) true) (role_after p.core.dtls.active (sdp_setup offer)) p.core.greatest
      (remote_limit (max_message_size_of offer)) (halves_for m p.core true true [] offer (answer_ids m p.core offer)) false p.core.sctp (Ok tt) c.sctp h.sctp_starts) (ap (λ (x : Peer I D S M N). x.channels) h.rest)
      (λ k. ap (λ (x : Peer I D S M N). x.phase) h.rest ∙ k)
  offer_by w p offer (Err (RemoteSdp why)) c did h = refused_keeps w p _ c did h.1.1 refl refl (λ k. stays_closed why p.core.phase k)
  offer_by w p offer (Err (SdpRefused error)) c did h = refused_keeps w p _ c did h.1.1 refl refl (λ k. k)
  offer_by w p offer (Err (Dtls Fault)) c did h = refused_keeps w p _ c did h.rest refl refl (λ k. k)
  offer_by w p offer (Err (Dtls WouldBlock)) c did h = absurd h
  offer_by w p offer (Err (Dtls DtlsAlloc)) c did h = absurd h
  offer_by w p offer (Err (Sctp error)) c did h =
      still_keeps w p c did
      (sctp_entries w (table_after p.core.lines (parsed_lines offer) true) (role_after p.core.dtls.active (sdp_setup offer)) p.core.greatest
      (remote_limit (max_message_size_of offer)) (halves_for m p.core true true [] offer (answer_ids m p.core offer)) false p.core.sctp (Err (Proto AssociationFault)) c.sctp h.1.sctp_fails)
      (ap (λ (x : Peer I D S M N). x.channels) h.1.rest)
      (λ k. ap (λ (x : Peer I D S M N). x.phase) h.1.rest ∙ k)
  offer_by w p offer (Err ChangesOutOfOrder) c did h = absurd h
  offer_by w p offer (Err (Net cause)) c did h = absurd h
  offer_by w p offer (Err (MediaFailed cause)) c did h = absurd h
  offer_by w p offer (Err BadChannel) c did h = absurd h
  offer_by w p offer (Err Glare) c did h = refused_keeps w p p.core c did h.1 refl refl (λ k. k)
  offer_by w p offer (Err Alloc) c did h =
      still_keeps w p c did
      (stops_entries w p.core (raised p.core.counter) None [] offer (followed_restart m p.core offer) (control_for p.core.dtls.active offer.ice_lite)
      (answer_ids m p.core offer) c h.stops) (ap (λ (x : Peer I D S M N). x.channels) h.rest)
      (λ k. ap (λ (x : Peer I D S M N). x.phase) h.rest ∙ k)

  pub offer_keeps : AssociationLaws m.association → (p : PolledPeer I D S M N) (offer : Sdp) (r : Result Sdp RtcError) (c : Peer I D S M N)
      → AcceptsOffer m p.core offer r c → CallKeepsStreams m p [] (with_core c p)
  offer_keeps w p offer r c h = offer_by w p offer r c (offer_did m p offer r c h) h

  answer_by : AssociationLaws m.association → (p : PolledPeer I D S M N) (token : PendingOffer) (answer : Sdp) (r : Result (Unit {0}) RtcError)
      (c : Peer I D S M N) → NegotiationActs m p (with_core c p) → AcceptsAnswer m p.core token answer r c → CallKeepsStreams m p [] (with_core c p)
  answer_by w p token answer (Ok done) c did h =
      let is = ap (λ (x : Peer I D S M N). x.channels) h.rest in
      let left =
      sctp_entries w (table_after p.core.lines (parsed_lines answer) false) (role_after p.core.dtls.active (sdp_setup answer)) p.core.greatest
      (remote_limit (max_message_size_of answer)) (halves_for m p.core false token.says_init token.changes answer p.core.ids) true p.core.sctp (Ok tt) c.sctp h.sctp_starts in
      acted_keeps w p c did left
      (λ s k e. ap (λ (x : Channels). channel_over s x) is ∙ (all_confirmed_over s (fitting_channels token.changes) p.core.channels ∙ e))
      (λ e. subst (λ (x : Channels). AreNumberedChannels x) (sym is) (all_confirmed_numbers (fitting_channels token.changes) p.core.channels e))
      (λ k e. subst (λ (x : Channels). IsGone k x) (sym is) (all_confirmed_gone k (fitting_channels token.changes) p.core.channels e))
      (ap (λ (x : Channels). x.given) is ∙ all_confirmed_given (fitting_channels token.changes) p.core.channels)
      (λ k. ap (λ (x : Peer I D S M N). x.phase) h.rest ∙ k) (Confirmed (fitting_channels token.changes) is left.2)
  answer_by w p token answer (Err (Net cause)) c did h = absurd h
  answer_by w p token answer (Err (MediaFailed cause)) c did h = absurd h
  answer_by w p token answer (Err BadChannel) c did h = absurd h
  answer_by w p token answer (Err Glare) c did h = absurd h
  answer_by w p token answer (Err ChangesOutOfOrder) c did h = refused_keeps w p p.core c did h.1 refl refl (λ k. k)
  answer_by w p token answer (Err (RemoteSdp why)) c did h = refused_keeps w p _ c did h.1.1 refl refl (λ k. stays_closed why p.core.phase k)
  answer_by w p token answer (Err (SdpRefused error)) c did h = refused_keeps w p _ c did h.1.1 refl refl (λ k. k)
  answer_by w p token answer (Err (Dtls Fault)) c did h = refused_keeps w p _ c did h.rest refl refl (λ k. k)
  answer_by w p token answer (Err (Dtls WouldBlock)) c did h = absurd h
  answer_by w p token answer (Err (Dtls DtlsAlloc)) c did h = absurd h
  answer_by w p token answer (Err (Sctp error)) c did h =
      still_keeps w p c did
      (sctp_entries w (table_after p.core.lines (parsed_lines answer) false) (role_after p.core.dtls.active (sdp_setup answer)) p.core.greatest
      (remote_limit (max_message_size_of answer)) (halves_for m p.core false token.says_init token.changes answer p.core.ids) true p.core.sctp (Err (Proto AssociationFault)) c.sctp h.1.sctp_fails)
      (ap (λ (x : Peer I D S M N). x.channels) h.1.rest)
      (λ k. ap (λ (x : Peer I D S M N). x.phase) h.1.rest ∙ k)
  answer_by w p token answer (Err Alloc) c did h =
      still_keeps w p c did
      (stops_entries w p.core p.core.counter (Some (asked_by p.core.lines token)) token.changes answer (staged_restart token.changes) None p.core.ids c h.stops)
      (ap (λ (x : Peer I D S M N). x.channels) h.rest)
      (λ k. ap (λ (x : Peer I D S M N). x.phase) h.rest ∙ k)

  pub answer_keeps : AssociationLaws m.association → (p : PolledPeer I D S M N) (token : PendingOffer) (answer : Sdp) (r : Result (Unit {0}) RtcError)
      (c : Peer I D S M N) → AcceptsAnswer m p.core token answer r c → CallKeepsStreams m p [] (with_core c p)
  answer_keeps w p token answer r c h = answer_by w p token answer r c (answer_did m p token answer r c h) h
