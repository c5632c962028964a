-- What accepting an offer or an answer does to the parts of a peer.
use Rattle.std.proofs.Common.{◌≡◌, ◌++◌, ◌∷◌, ℕ, Bool, true, false, not, List, [], Option, Some, None, Result, Ok, Err, refl, sym, ap, subst, ◌∙◌}
use Rattle.rtc_parts.specs.Among.{Among}
use Rattle.rtc_parts.proofs.AmongLemmas.{member-right, among_none}
use Rattle.rtc_parts.specs.AssociationWords.{given, taken}
use Rattle.rtc_parts.specs.declared.dtls_error.DtlsError.TheVariants.{WouldBlock, Fault, Alloc as DtlsAlloc}
use Rattle.rtc_sdp_values.specs.declared.candidate.Candidate.{Candidate}
use Rattle.rtc_sdp_values.specs.declared.ice_creds.IceCreds.{IceCreds}
use Rattle.rtc_sdp_values.specs.declared.line_row.LineRow.{LineRow}
use Rattle.rtc_sdp_values.specs.declared.sdp.Sdp.{Sdp}
use Rattle.rtc_sdp_values.specs.Sdp.{creds_of, candidates_of, sdp_setup, max_message_size_of}
use Rattle.rtc_peer_rows.specs.ParsedLines.{parsed_lines}
use Rattle.rtc_change.specs.TableAfter.{table_after}
use Rattle.rtc_change.specs.Plans.{is_offer, asked_by, may_take_init}
use Rattle.rtc_change.specs.declared.change.Change.{Change}
use Rattle.rtc_change.specs.Held.{Asked}
use Rattle.rtc_change.specs.PendingOffer.{PendingOffer, staged_restart}
use Rattle.rtc_sctp_values.specs.InitHalves.{InitHalves}
use Rattle.rtc_sctp_values.specs.declared.proto_error.ProtoError.TheVariants.{Fault as AssociationFault}
use Rattle.rtc_sctp_values.specs.declared.sctp_error.SctpError.{SctpError}
use Rattle.rtc_sctp_values.specs.declared.sctp_error.SctpError.TheVariants.{Proto, Alloc as SctpAlloc}
use Rattle.rtc_sctp.specs.Streams.{SctpStreams}
use Rattle.rtc_sctp_laws.specs.StreamActs.{CallDid}
use Rattle.rtc_sctp_laws.specs.StreamMessages.{pushed_packets}
use Rattle.rtc_peer_core.specs.declared.peer.Peer.{Peer}
use Rattle.rtc_peer_core.specs.declared.rtc_error.RtcError.{RtcError}
use Rattle.rtc_peer_core.specs.declared.rtc_error.RtcError.TheVariants.{RemoteSdp, Sdp as SdpRefused, Dtls, Sctp, Net, Media as MediaFailed, ChangesOutOfOrder, BadChannel, Alloc, Glare}
use Rattle.rtc_peer_core.specs.Meanings.{Meanings}
use Rattle.rtc_peer_core.specs.Calls.{raised, control_for}
use Rattle.rtc_peer_core.specs.MadeSdp.{role_for, role_after}
use Rattle.rtc_peer_core.specs.SdpMoves.{followed_restart, answer_ids, halves_for}
use Rattle.rtc_peer_core.specs.RollingBack.{RollsBack}
use Rattle.rtc_peer_core.specs.PartMoves.{needs_start, StartsSctp, remote_limit, StopsMoving, AtAgent, AtRole, AtStart}
use Rattle.rtc_peer_core.specs.StoppedAcceptances.{StopsPreparing, BeforeSources, AmongDraws, AtUpdates, StopsAccepting, AtVerdict, AtPreparing, AtParts}
use Rattle.rtc_peer_core.specs.Acceptances.{AcceptsOffer, AcceptsAnswer}
use Rattle.rtc_peer_transport.specs.declared.polled_peer.PolledPeer.{PolledPeer}
use Rattle.rtc_peer_laws.specs.PeerActs.{peer_acts, contents_taken}
use Rattle.rtc_peer_laws.specs.Acts.{NegotiationActs, with_core}
use Rattle.rtc_peer_laws.proofs.StreamCallActs.{call_none}
use Rattle.rtc_peer_laws.proofs.FollowedParts.{AgentTold, agent_none, follows_told, stops_told, ConnectionTold, connection_none, starts_told, started_told}
use Rattle.rtc_peer_laws.proofs.FollowedParts.{MediaTold, media_none, media_prepared, media_updated}

pub nil_among : {A : Type 0} (l k : List A) → l ≡ [] → Among l k
nil_among {A} l k is = subst (λ (x : List A). Among x k) (sym is) (among_none k)

module _ {I D S M E X T W N : Type 0} (m : Meanings I D S M E X T W N) where
  -- four parts that were told something
  pub parts_did : (p : PolledPeer I D S M N) (c : Peer I D S M N) → AgentTold m.ice p.core.ice c.ice → ConnectionTold m.dtls p.core.greatest p.core.dtls c.dtls
      → CallDid m.association [] [] p.core.sctp c.sctp → MediaTold m.media p.core.media c.media → NegotiationActs m p (with_core c p)
  parts_did p c agent connection streams media = record {
    acts = peer_acts agent.acts connection.acts streams.did.acts media.acts;
    went = record { ice = agent.went; dtls = connection.went; association = streams.did.went; media = media.went };
    given_ice = nil_among _ [] agent.given;
    given_dtls = connection.given;
    given_media = nil_among _ [] media.given;
    timed_ice = nil_among _ (p.core.greatest ∷ []) agent.timed;
    timed_dtls = connection.timed;
    timed_media = nil_among _ (p.core.greatest ∷ []) media.timed;
    role = connection.role;
    sent =
        subst (λ (l : List (List ℕ)). Among l (contents_taken (peer_acts agent.acts connection.acts streams.did.acts media.acts) ++ p.core.dtls.packets))
        (sym connection.packets)
        (record { each = λ x h. member-right x (contents_taken (peer_acts agent.acts connection.acts streams.did.acts media.acts)) p.core.dtls.packets h });
    handed = nil_among (given streams.did.acts) _ streams.did.given_is;
    all_handed = λ started. streams.did.given_is ∙ sym connection.got;
    relayed =
        subst (λ (l : List (List ℕ)). Among (l ++ pushed_packets c.sctp.pushed) (taken streams.did.acts ++ pushed_packets p.core.sctp.pushed)) (sym connection.sent)
        (subst (λ (l : List (List ℕ)). Among l (taken streams.did.acts ++ pushed_packets p.core.sctp.pushed)) (sym (ap pushed_packets streams.pushed_is))
        (record { each = λ x h. member-right x (taken streams.did.acts) (pushed_packets p.core.sctp.pushed) h }));
    wrote_is = streams.did.wrote_is;
    heard_is = streams.did.heard_is;
    named = streams.did.named;
  }

  -- all parts are as they were
  same_did : (p : PolledPeer I D S M N) (c : Peer I D S M N) → c.ice ≡ p.core.ice → c.dtls ≡ p.core.dtls → c.sctp ≡ p.core.sctp → c.media ≡ p.core.media
      → NegotiationActs m p (with_core c p)
  same_did p c ice dtls sctp media =
      parts_did p c (agent_none m.ice p.core.ice c.ice ice) (connection_none m.dtls p.core.greatest p.core.dtls c.dtls dtls)
      (call_none m.association p.core.sctp c.sctp sctp) (media_none m.media p.core.media c.media media)

  -- the core that is the same but for other fields than the parts
  core_did : (p : PolledPeer I D S M N) (n c : Peer I D S M N) → c ≡ n → n.ice ≡ p.core.ice → n.dtls ≡ p.core.dtls → n.sctp ≡ p.core.sctp
      → n.media ≡ p.core.media → NegotiationActs m p (with_core c p)
  core_did p n c is ice dtls sctp media =
      same_did p c (ap (λ (x : Peer I D S M N). x.ice) is ∙ ice) (ap (λ (x : Peer I D S M N). x.dtls) is ∙ dtls)
      (ap (λ (x : Peer I D S M N). x.sctp) is ∙ sctp) (ap (λ (x : Peer I D S M N). x.media) is ∙ media)

  -- memory ran out before another part than media was touched
  preparing_did : (p : PolledPeer I D S M N) (o : Peer I D S M N) (offer may : Bool) (changes : List Change) (sdp : Sdp) (drawn : N)
      (c : Peer I D S M N) → o.ice ≡ p.core.ice → o.dtls ≡ p.core.dtls → o.sctp ≡ p.core.sctp → o.media ≡ p.core.media → StopsPreparing m o offer may changes sdp drawn c
      → NegotiationActs m p (with_core c p)
  preparing_did p o offer may changes sdp drawn c ice dtls sctp media (BeforeSources is) = core_did p _ c is ice dtls sctp media
  preparing_did p o offer may changes sdp drawn c ice dtls sctp media (AmongDraws later more is) = core_did p _ c is ice dtls sctp media
  preparing_did p o offer may changes sdp drawn c ice dtls sctp media (AtUpdates error prepared is) =
      parts_did p c (agent_none m.ice p.core.ice c.ice (ap (λ (x : Peer I D S M N). x.ice) is ∙ ice))
      (connection_none m.dtls p.core.greatest p.core.dtls c.dtls (ap (λ (x : Peer I D S M N). x.dtls) is ∙ dtls))
      (call_none m.association p.core.sctp c.sctp (ap (λ (x : Peer I D S M N). x.sctp) is ∙ sctp))
      (subst (λ (a : M). MediaTold m.media a c.media) media (media_prepared m.media _ (Err error) o.media c.media prepared))

  -- the streams are started where they are to be
  sctp_did : (rows : List LineRow) (client : Bool) (now max : ℕ) (halves : Option InitHalves) (drops : Bool) (p : SctpStreams S)
      (r : Result (Unit {0}) SctpError) (q : SctpStreams S) → StartsSctp m.association p rows client now max halves drops r q
      → CallDid m.association [] [] p q
  sctp_did rows client now max halves drops p r q h =
      started_told m.association (needs_start m.association rows p) client now max halves drops p r q h

  -- the parts that follow, up to that at which memory ran out
  moving_did : (p : PolledPeer I D S M N) (c : Peer I D S M N) (restart : Option (IceCreds × Bool)) (creds : Option IceCreds) (candidates : List Candidate)
      (control : Option Bool) (active : Bool) (rows : List LineRow) (client : Bool) (max : ℕ) (halves : Option InitHalves) (drops : Bool)
      → MediaTold m.media p.core.media c.media
      → StopsMoving m.ice m.dtls m.association p.core.ice p.core.dtls p.core.sctp restart creds candidates control active rows client p.core.greatest max
      halves drops c.ice c.dtls c.sctp → NegotiationActs m p (with_core c p)
  moving_did p c restart creds candidates control active rows client max halves drops media (AtAgent stops dtls sctp) =
      parts_did p c (stops_told m.ice p.core.ice restart creds candidates c.ice stops)
      (connection_none m.dtls p.core.greatest p.core.dtls c.dtls dtls) (call_none m.association p.core.sctp c.sctp sctp) media
  moving_did p c restart creds candidates control active rows client max halves drops media (AtRole follows starts sctp) =
      parts_did p c (follows_told m.ice p.core.ice restart creds candidates control c.ice follows)
      (starts_told m.dtls p.core.dtls.active active p.core.greatest (Err DtlsAlloc) p.core.dtls c.dtls refl starts)
      (call_none m.association p.core.sctp c.sctp sctp) media
  moving_did p c restart creds candidates control active rows client max halves drops media (AtStart follows starts started) =
      parts_did p c (follows_told m.ice p.core.ice restart creds candidates control c.ice follows)
      (starts_told m.dtls p.core.dtls.active active p.core.greatest (Ok tt) p.core.dtls c.dtls refl starts)
      (sctp_did rows client p.core.greatest max halves drops p.core.sctp (Err SctpAlloc) c.sctp started) media

  stops_did : (p : PolledPeer I D S M N) (count : ℕ) (asked : Option Asked) (changes : List Change) (sdp : Sdp) (restart : Option (IceCreds × Bool))
      (control : Option Bool) (drawn : N) (c : Peer I D S M N)
      → StopsAccepting m (record p.core { counter = count; outstanding = false }) asked changes sdp restart control drawn c → NegotiationActs m p (with_core c p)
  stops_did p count asked changes sdp restart control drawn c (AtVerdict is) =
      core_did p (record p.core { counter = count; outstanding = false }) c is refl refl refl refl
  stops_did p count asked changes sdp restart control drawn c (AtPreparing passes stops) =
      preparing_did p (record p.core { counter = count; outstanding = false }) (is_offer asked) (may_take_init asked) changes sdp drawn c refl refl refl refl stops
  stops_did p count asked changes sdp restart control drawn c (AtParts passes ids prepared moving) =
      moving_did p c restart (creds_of sdp) (candidates_of sdp) control (role_for (sdp_setup sdp))
      (table_after p.core.lines (parsed_lines sdp) (is_offer asked)) (role_after p.core.dtls.active (sdp_setup sdp)) (remote_limit (max_message_size_of sdp))
      (halves_for m (record p.core { counter = count; outstanding = false }) (is_offer asked) (may_take_init asked) changes sdp drawn) (not (is_offer asked))
      (media_prepared m.media _ (Ok tt) p.core.media c.media prepared) moving

  pub offer_did : (p : PolledPeer I D S M N) (offer : Sdp) (r : Result Sdp RtcError) (c : Peer I D S M N) → AcceptsOffer m p.core offer r c
      → NegotiationActs m p (with_core c p)
  offer_did p offer (Ok answer) c h =
      parts_did p c (follows_told m.ice p.core.ice _ _ _ _ c.ice h.ice_follows)
      (starts_told m.dtls p.core.dtls.active (role_for (sdp_setup offer)) p.core.greatest (Ok tt) p.core.dtls c.dtls refl h.dtls_starts)
      (sctp_did (table_after p.core.lines (parsed_lines offer) true) (role_after p.core.dtls.active (sdp_setup offer)) p.core.greatest
      (remote_limit (max_message_size_of offer)) (halves_for m p.core true true [] offer (answer_ids m p.core offer)) false p.core.sctp (Ok tt) c.sctp h.sctp_starts)
      (media_updated m.media _ p.core.media h.media_updated.prepared c.media h.media_updated.by_prepare h.media_updated.by_commit)
  offer_did p offer (Err (RemoteSdp why)) c h = core_did p _ c h.1.1 refl refl refl refl
  offer_did p offer (Err (SdpRefused error)) c h = core_did p _ c h.1.1 refl refl refl refl
  offer_did p offer (Err (Dtls Fault)) c h =
      parts_did p c (follows_told m.ice p.core.ice _ _ _ _ c.ice h.ice_follows)
      (starts_told m.dtls p.core.dtls.active (role_for (sdp_setup offer)) p.core.greatest (Err Fault) p.core.dtls c.dtls refl h.dtls_fails)
      (call_none m.association p.core.sctp c.sctp (ap (λ (x : Peer I D S M N). x.sctp) h.rest))
      (media_prepared m.media _ (Ok tt) p.core.media c.media h.media_prepared)
  offer_did p offer (Err (Dtls WouldBlock)) c h = absurd h
  offer_did p offer (Err (Dtls DtlsAlloc)) c h = absurd h
  offer_did p offer (Err (Sctp error)) c h =
      parts_did p c (follows_told m.ice p.core.ice _ _ _ _ c.ice h.1.ice_follows)
      (starts_told m.dtls p.core.dtls.active (role_for (sdp_setup offer)) p.core.greatest (Ok tt) p.core.dtls c.dtls refl h.1.dtls_starts)
      (sctp_did (table_after p.core.lines (parsed_lines offer) true) (role_after p.core.dtls.active (sdp_setup offer)) p.core.greatest
      (remote_limit (max_message_size_of offer)) (halves_for m p.core true true [] offer (answer_ids m p.core offer)) false p.core.sctp (Err (Proto AssociationFault)) c.sctp h.1.sctp_fails)
      (media_prepared m.media _ (Ok tt) p.core.media c.media h.1.media_prepared)
  offer_did p offer (Err ChangesOutOfOrder) c h = absurd h
  offer_did p offer (Err (Net cause)) c h = absurd h
  offer_did p offer (Err (MediaFailed cause)) c h = absurd h
  offer_did p offer (Err BadChannel) c h = absurd h
  offer_did p offer (Err Glare) c h = core_did p p.core c h.1 refl refl refl refl
  offer_did p offer (Err Alloc) c h =
      stops_did p (raised p.core.counter) None [] offer (followed_restart m p.core offer) (control_for p.core.dtls.active offer.ice_lite)
      (answer_ids m p.core offer) c h.stops

  pub answer_did : (p : PolledPeer I D S M N) (token : PendingOffer) (answer : Sdp) (r : Result (Unit {0}) RtcError) (c : Peer I D S M N)
      → AcceptsAnswer m p.core token answer r c → NegotiationActs m p (with_core c p)
  answer_did p token answer (Ok done) c h =
      parts_did p c (follows_told m.ice p.core.ice _ _ _ _ c.ice h.ice_follows)
      (starts_told m.dtls p.core.dtls.active (role_for (sdp_setup answer)) p.core.greatest (Ok tt) p.core.dtls c.dtls refl h.dtls_starts)
      (sctp_did (table_after p.core.lines (parsed_lines answer) false) (role_after p.core.dtls.active (sdp_setup answer)) p.core.greatest
      (remote_limit (max_message_size_of answer)) (halves_for m p.core false token.says_init token.changes answer p.core.ids) true p.core.sctp (Ok tt) c.sctp h.sctp_starts)
      (media_updated m.media _ p.core.media h.media_updated.prepared c.media h.media_updated.by_prepare h.media_updated.by_commit)
  answer_did p token answer (Err (Net cause)) c h = absurd h
  answer_did p token answer (Err (MediaFailed cause)) c h = absurd h
  answer_did p token answer (Err BadChannel) c h = absurd h
  answer_did p token answer (Err Glare) c h = absurd h
  answer_did p token answer (Err ChangesOutOfOrder) c h = core_did p p.core c h.1 refl refl refl refl
  answer_did p token answer (Err (RemoteSdp why)) c h = core_did p _ c h.1.1 refl refl refl refl
  answer_did p token answer (Err (SdpRefused error)) c h = core_did p _ c h.1.1 refl refl refl refl
  answer_did p token answer (Err (Dtls Fault)) c h =
      parts_did p c (follows_told m.ice p.core.ice _ _ _ _ c.ice h.ice_follows)
      (starts_told m.dtls p.core.dtls.active (role_for (sdp_setup answer)) p.core.greatest (Err Fault) p.core.dtls c.dtls refl h.dtls_fails)
      (call_none m.association p.core.sctp c.sctp (ap (λ (x : Peer I D S M N). x.sctp) h.rest))
      (media_prepared m.media _ (Ok tt) p.core.media c.media h.media_prepared)
  answer_did p token answer (Err (Dtls WouldBlock)) c h = absurd h
  answer_did p token answer (Err (Dtls DtlsAlloc)) c h = absurd h
  answer_did p token answer (Err (Sctp error)) c h =
      parts_did p c (follows_told m.ice p.core.ice _ _ _ _ c.ice h.1.ice_follows)
      (starts_told m.dtls p.core.dtls.active (role_for (sdp_setup answer)) p.core.greatest (Ok tt) p.core.dtls c.dtls refl h.1.dtls_starts)
      (sctp_did (table_after p.core.lines (parsed_lines answer) false) (role_after p.core.dtls.active (sdp_setup answer)) p.core.greatest
      (remote_limit (max_message_size_of answer)) (halves_for m p.core false token.says_init token.changes answer p.core.ids) true p.core.sctp (Err (Proto AssociationFault)) c.sctp h.1.sctp_fails)
      (media_prepared m.media _ (Ok tt) p.core.media c.media h.1.media_prepared)
  answer_did p token answer (Err Alloc) c h =
      stops_did p p.core.counter (Some (asked_by p.core.lines token)) token.changes answer (staged_restart token.changes) None p.core.ids c h.stops

  -- an offer that is rolled back leaves the parts
  pub rollback_did : (p : PolledPeer I D S M N) (token : PendingOffer) (r : Result (Unit {0}) RtcError) (c : Peer I D S M N)
      → RollsBack p.core token r c → NegotiationActs m p (with_core c p)
  rollback_did p token (Ok done) c h = core_did p _ c h.1 refl refl refl refl
  rollback_did p token (Err ChangesOutOfOrder) c h = core_did p p.core c h.1 refl refl refl refl
  rollback_did p token (Err (RemoteSdp why)) c h = absurd h
  rollback_did p token (Err (SdpRefused error)) c h = absurd h
  rollback_did p token (Err (Dtls error)) c h = absurd h
  rollback_did p token (Err (Sctp error)) c h = absurd h
  rollback_did p token (Err (Net cause)) c h = absurd h
  rollback_did p token (Err (MediaFailed cause)) c h = absurd h
  rollback_did p token (Err BadChannel) c h = absurd h
  rollback_did p token (Err Alloc) c h = absurd h
  rollback_did p token (Err Glare) c h = absurd h
