-- Each acceptance by a peer is one by its stance, whatever its parts are.
use Rattle.std.proofs.Common.{◌≡◌, ◌∙◌, [], true, false, Option, Some, None, Result, Ok, Err, refl, ap}
use Rattle.rtc_sdp_values.specs.Sdp.{creds_of, sdp_setup}
use Rattle.rtc_sdp_values.specs.declared.sdp.Sdp.{Sdp}
use Rattle.rtc_sctp_values.specs.InitHalves.{InitHalves}
use Rattle.rtc_sctp_values.specs.declared.proto_error.ProtoError.TheVariants.{Fault as AssociationFault}
use Rattle.rtc_sctp_values.specs.declared.sctp_error.SctpError.TheVariants.{Proto}
use Rattle.rtc_channels.specs.Channels.{Channels, all_confirmed}
use Rattle.rtc_parts.specs.declared.dtls_error.DtlsError.TheVariants.{WouldBlock, Fault, Alloc as DtlsAlloc}
use Rattle.rtc_change.specs.declared.refusal.Refusal.TheVariants.{RemoteSdp as RefusedSdp, Sdp as RefusedText}
use Rattle.rtc_change.specs.PendingOffer.{PendingOffer, staged_restart}
use Rattle.rtc_change.specs.Plans.{no_credentials, asked_by, is_offer}
use Rattle.rtc_change.proofs.VerdictLemmas.{unrefused}
use Rattle.rtc_peer_core.specs.declared.peer.Peer.{Peer}
use Rattle.rtc_peer_core.specs.declared.rtc_error.RtcError.{RtcError}
use Rattle.rtc_peer_core.specs.declared.rtc_error.RtcError.TheVariants.{
  RemoteSdp,
  Sdp as SdpRefused,
  Dtls,
  Sctp,
  Net,
  Media as MediaFailed,
  ChangesOutOfOrder,
  BadChannel,
  Alloc,
  Glare,
}
use Rattle.rtc_peer_core.specs.Acceptances.{
  OfferAccepted,
  OfferFaulted,
  OfferUnstarted,
  OfferStopped,
  AcceptsOffer,
  AnswerAccepted,
  AnswerFaulted,
  AnswerUnstarted,
  AnswerStopped,
  AcceptsAnswer,
  followed_restart,
  answer_ids,
  updates_for,
  halves_for,
}
use Rattle.rtc_peer_core.specs.Calls.{raised, fitting_channels}
use Rattle.rtc_peer_core.specs.ChannelRows.{channel_rows}
use Rattle.rtc_peer_core.specs.Meanings.{Meanings, PartsLaws}
use Rattle.rtc_peer_core.specs.Stance.{Stance, stance_of, held_by}
use Rattle.rtc_peer_core.proofs.StanceLemmas.{parts_stand}
use Rattle.rtc_peer_core.proofs.PartMovesLemmas.{restarted_by, followed_settings, told_creds, left_after}
use Rattle.rtc_peer_core.proofs.PartMovesLemmas.{role_taken, start_keeps_local}
use Rattle.rtc_peer_core.proofs.StoppedPeers.{stopped_ice, stopped_local, stopped_sctp, stopped_media}
use Rattle.rtc_peer_core.proofs.ChannelRowLemmas.{IsShutBefore, confirmed_rows}
use Rattle.rtc_peer_core.proofs.SctpAcceptances.{by_sdp_rows, by_sdp_size, by_sdp_start, by_sdp_refused, stopped_rows, stopped_size, stopped_start}
use Rattle.rtc_peer_core.proofs.StanceTaken.{StanceAcceptsOffer, StanceAcceptsAnswer, StandsOffer, StandsAnswer}
use Rattle.rtc_peer_core.proofs.StanceTaken.{BreaksOffer, Breaks, followed_by}
use Rattle.rtc_peer_core.proofs.StanceMoves.{refuses_stands, followed_stands, joins_stand, breaks_by, tells_media, prepared_lines, same_lines}

accepted_offer_stands : {I D S M E X T W N : Type 0} (m : Meanings I D S M E X T W N) → PartsLaws m
    → (p : Peer I D S M N) (offer answer : Sdp)
    (q : Peer I D S M N) → IsShutBefore m.association p.sctp → OfferAccepted m p offer answer q
    → StandsOffer (stance_of m p) offer answer (stance_of m q)
accepted_offer_stands m laws p offer answer q shut h =
    let halves : Option InitHalves = halves_for m p true true [] offer (answer_ids m p offer) in
    let starts = by_sdp_start m laws p true offer halves q.sctp h.sctp_starts in
    let s : Stance = stance_of m p in
    let there : no_credentials (creds_of offer) ≡ None = (unrefused (held_by s) None offer h.passes).creds in
    record {
      no_glare = h.no_glare;
      passes = h.passes;
      restart = followed_restart m p offer;
      followed = followed_stands m p offer;
      told = updates_for m p true [] offer (answer_ids m p offer);
      tells = tells_media m laws p q true [] offer (answer_ids m p offer) h.media_updated;
      halves = halves;
      joins = joins_stand m p true true [] offer (answer_ids m p offer);
      answered = h.answered;
      rest = ap (stance_of m) h.rest
          ∙ parts_stand (record (followed_by s (followed_restart m p offer) offer true halves) {
            counter = raised p.counter;
            outstanding = false;
            line = m.media.line q.media;
          }) _ _ _ _ _ _ _ _ _ _ _ _ _ _
          (followed_settings m.ice laws.ice p.ice q.ice _ _ _ _ h.ice_follows
          ∙ told_creds (creds_of offer) (restarted_by (followed_restart m p offer) s.ice) there)
          (start_keeps_local m.dtls p.dtls q.dtls _ _ _ _ h.dtls_starts)
          (role_taken m.dtls p.dtls q.dtls p.dtls.active (sdp_setup offer) p.greatest (Ok tt) refl h.dtls_starts)
          (by_sdp_rows m laws p true offer halves (Ok tt) q.sctp p.channels shut h.sctp_starts)
          (by_sdp_size m p true offer halves (Ok tt) q.sctp h.sctp_starts) starts.inited starts.snap;
    }

faulted_offer_stands : {I D S M E X T W N : Type 0} (m : Meanings I D S M E X T W N) → PartsLaws m → (p : Peer I D S M N) (offer : Sdp)
    (q : Peer I D S M N) → OfferFaulted m p offer q → BreaksOffer (stance_of m p) offer (stance_of m q)
faulted_offer_stands m laws p offer q h = record {
  no_glare = h.no_glare;
  restart = followed_restart m p offer;
  followed = followed_stands m p offer;
  breaks = breaks_by (stance_of m p) (followed_restart m p offer) (raised p.counter) (m.ice.settings q.ice) q.dtls.local q.dtls.active
      (channel_rows m.association p.sctp p.channels) p.sctp.local_max (m.association.started p.sctp.association) p.sctp.snap
      (m.media.line q.media) (stance_of m q)
      (ap (stance_of m) h.rest) (start_keeps_local m.dtls p.dtls q.dtls _ _ _ _ h.dtls_fails) refl refl refl refl
      (prepared_lines m laws p.media q.media _ h.media_prepared)
      (left_after m.ice laws.ice p.ice q.ice _ _ _ _ h.ice_follows);
}

unstarted_offer_stands : {I D S M E X T W N : Type 0} (m : Meanings I D S M E X T W N) → PartsLaws m → (p : Peer I D S M N) (offer : Sdp)
    (q : Peer I D S M N) → IsShutBefore m.association p.sctp → OfferUnstarted m p offer q
    → BreaksOffer (stance_of m p) offer (stance_of m q)
unstarted_offer_stands m laws p offer q shut h =
    let halves : Option InitHalves = halves_for m p true true [] offer (answer_ids m p offer) in
    record {
      no_glare = h.no_glare;
      restart = followed_restart m p offer;
      followed = followed_stands m p offer;
      breaks = breaks_by (stance_of m p) (followed_restart m p offer) (raised p.counter) (m.ice.settings q.ice) q.dtls.local q.dtls.active
          (channel_rows m.association q.sctp p.channels) q.sctp.local_max (m.association.started q.sctp.association) q.sctp.snap
          (m.media.line q.media) (stance_of m q)
          (ap (stance_of m) h.rest) (start_keeps_local m.dtls p.dtls q.dtls _ _ _ _ h.dtls_starts)
          (by_sdp_rows m laws p true offer halves (Err (Proto AssociationFault)) q.sctp p.channels shut h.sctp_fails)
          (by_sdp_size m p true offer halves (Err (Proto AssociationFault)) q.sctp h.sctp_fails)
          (by_sdp_refused m laws p true offer halves (Proto AssociationFault) q.sctp h.sctp_fails).started
          (by_sdp_refused m laws p true offer halves (Proto AssociationFault) q.sctp h.sctp_fails).snap
          (prepared_lines m laws p.media q.media _ h.media_prepared)
          (left_after m.ice laws.ice p.ice q.ice _ _ _ _ h.ice_follows);
    }

stopped_offer_stands : {I D S M E X T W N : Type 0} (m : Meanings I D S M E X T W N) → PartsLaws m → (p : Peer I D S M N) (offer : Sdp)
    (q : Peer I D S M N) → IsShutBefore m.association p.sctp → OfferStopped m p offer q
    → BreaksOffer (stance_of m p) offer (stance_of m q)
stopped_offer_stands m laws p offer q shut h =
    let halves : Option InitHalves = halves_for m p true true [] offer (answer_ids m p offer) in
    record {
      no_glare = h.no_glare;
      restart = followed_restart m p offer;
      followed = followed_stands m p offer;
      breaks = breaks_by (stance_of m p) (followed_restart m p offer) (raised p.counter) (m.ice.settings q.ice) q.dtls.local q.dtls.active
          (channel_rows m.association q.sctp p.channels) q.sctp.local_max (m.association.started q.sctp.association) q.sctp.snap
          (m.media.line q.media) (stance_of m q)
          (ap (stance_of m) h.rest) (stopped_local m (record p { counter = raised p.counter; outstanding = false }) _ _ _ _ _ _ q h.stops)
          (stopped_rows m laws (record p { counter = raised p.counter; outstanding = false }) (is_offer None) offer halves q.sctp p.channels shut
          (stopped_sctp m (record p { counter = raised p.counter; outstanding = false }) _ _ _ _ _ _ q h.stops))
          (stopped_size m (record p { counter = raised p.counter; outstanding = false }) (is_offer None) offer halves q.sctp
          (stopped_sctp m (record p { counter = raised p.counter; outstanding = false }) _ _ _ _ _ _ q h.stops))
          (stopped_start m laws (record p { counter = raised p.counter; outstanding = false }) (is_offer None) offer halves q.sctp
          (stopped_sctp m (record p { counter = raised p.counter; outstanding = false }) _ _ _ _ _ _ q h.stops)).started
          (stopped_start m laws (record p { counter = raised p.counter; outstanding = false }) (is_offer None) offer halves q.sctp
          (stopped_sctp m (record p { counter = raised p.counter; outstanding = false }) _ _ _ _ _ _ q h.stops)).snap
          (same_lines m p.media q.media (stopped_media m laws.media (record p { counter = raised p.counter; outstanding = false }) _ _ _ _ _ _ q h.stops))
          (stopped_ice m laws.ice (record p { counter = raised p.counter; outstanding = false }) _ _ _ _ _ _ q h.stops);
    }

pub accepts_offer_stands : {I D S M E X T W N : Type 0} (m : Meanings I D S M E X T W N) → PartsLaws m → (p : Peer I D S M N) (offer : Sdp)
    (result : Result Sdp RtcError) (q : Peer I D S M N) → IsShutBefore m.association p.sctp → AcceptsOffer m p offer result q
    → StanceAcceptsOffer (stance_of m p) offer result (stance_of m q)
accepts_offer_stands m laws p offer (Ok answer) q shut h = accepted_offer_stands m laws p offer answer q shut h
accepts_offer_stands m laws p offer (Err (RemoteSdp why)) q shut h = (h.0, refuses_stands m p None offer (RefusedSdp why) q h.1)
accepts_offer_stands m laws p offer (Err (SdpRefused error)) q shut h = (h.0, refuses_stands m p None offer (RefusedText error) q h.1)
accepts_offer_stands m laws p offer (Err (Dtls Fault)) q shut h = (h.passes, faulted_offer_stands m laws p offer q h)
accepts_offer_stands m laws p offer (Err (Dtls WouldBlock)) q shut h = absurd h
accepts_offer_stands m laws p offer (Err (Dtls DtlsAlloc)) q shut h = absurd h
accepts_offer_stands m laws p offer (Err (Sctp error)) q shut h = (h.0, h.1.passes, unstarted_offer_stands m laws p offer q shut h.1)
accepts_offer_stands m laws p offer (Err ChangesOutOfOrder) q shut h = absurd h
accepts_offer_stands m laws p offer (Err (Net cause)) q shut h = absurd h
accepts_offer_stands m laws p offer (Err (MediaFailed cause)) q shut h = absurd h
accepts_offer_stands m laws p offer (Err BadChannel) q shut h = absurd h
accepts_offer_stands m laws p offer (Err Alloc) q shut h = stopped_offer_stands m laws p offer q shut h
accepts_offer_stands m laws p offer (Err Glare) q shut h = (h.0, ap (stance_of m) h.1)

accepted_answer_stands : {I D S M E X T W N : Type 0} (m : Meanings I D S M E X T W N) → PartsLaws m
    → (p : Peer I D S M N) (token : PendingOffer)
    (answer : Sdp) (q : Peer I D S M N) → IsShutBefore m.association p.sctp → AnswerAccepted m p token answer q
    → StandsAnswer (stance_of m p) token answer (stance_of m q)
accepted_answer_stands m laws p token answer q shut h =
    let halves : Option InitHalves = halves_for m p false token.says_init token.changes answer p.ids in
    let starts = by_sdp_start m laws p false answer halves q.sctp h.sctp_starts in
    let s : Stance = stance_of m p in
    let confirmed : Channels = all_confirmed (fitting_channels token.changes) p.channels in
    let there : no_credentials (creds_of answer) ≡ None = (unrefused (held_by s) (Some (asked_by s.lines token)) answer h.passes).creds in
    record {
      right = h.right;
      passes = h.passes;
      told = updates_for m p false token.changes answer p.ids;
      tells = tells_media m laws p q false token.changes answer p.ids h.media_updated;
      halves = halves;
      joins = joins_stand m p false token.says_init token.changes answer p.ids;
      rest = ap (stance_of m) h.rest
          ∙ parts_stand (record (followed_by s (staged_restart token.changes) answer false halves) {
            outstanding = false;
            channels = confirmed;
            line = m.media.line q.media;
          }) _ _ _ _ _ _ _ _ _ _ _ _ _ _
          (followed_settings m.ice laws.ice p.ice q.ice _ _ _ _ h.ice_follows
          ∙ told_creds (creds_of answer) (restarted_by (staged_restart token.changes) s.ice) there)
          (start_keeps_local m.dtls p.dtls q.dtls _ _ _ _ h.dtls_starts)
          (role_taken m.dtls p.dtls q.dtls p.dtls.active (sdp_setup answer) p.greatest (Ok tt) refl h.dtls_starts)
          (by_sdp_rows m laws p false answer halves (Ok tt) q.sctp confirmed shut h.sctp_starts
          ∙ confirmed_rows m.association p.sctp (fitting_channels token.changes) p.channels)
          (by_sdp_size m p false answer halves (Ok tt) q.sctp h.sctp_starts) starts.inited starts.snap;
    }

faulted_answer_stands : {I D S M E X T W N : Type 0} (m : Meanings I D S M E X T W N) → PartsLaws m
    → (p : Peer I D S M N) (token : PendingOffer)
    (answer : Sdp) (q : Peer I D S M N) → AnswerFaulted m p token answer q
    → Breaks (stance_of m p) (staged_restart token.changes) p.counter (stance_of m q)
faulted_answer_stands m laws p token answer q h =
    breaks_by (stance_of m p) (staged_restart token.changes) p.counter (m.ice.settings q.ice) q.dtls.local q.dtls.active
    (channel_rows m.association p.sctp p.channels) p.sctp.local_max (m.association.started p.sctp.association) p.sctp.snap
    (m.media.line q.media) (stance_of m q)
    (ap (stance_of m) h.rest) (start_keeps_local m.dtls p.dtls q.dtls _ _ _ _ h.dtls_fails) refl refl refl refl
    (prepared_lines m laws p.media q.media _ h.media_prepared)
    (left_after m.ice laws.ice p.ice q.ice _ _ _ _ h.ice_follows)

unstarted_answer_stands : {I D S M E X T W N : Type 0} (m : Meanings I D S M E X T W N) → PartsLaws m
    → (p : Peer I D S M N) (token : PendingOffer)
    (answer : Sdp) (q : Peer I D S M N) → IsShutBefore m.association p.sctp → AnswerUnstarted m p token answer q
    → Breaks (stance_of m p) (staged_restart token.changes) p.counter (stance_of m q)
unstarted_answer_stands m laws p token answer q shut h =
    let halves : Option InitHalves = halves_for m p false token.says_init token.changes answer p.ids in
    breaks_by (stance_of m p) (staged_restart token.changes) p.counter (m.ice.settings q.ice) q.dtls.local q.dtls.active
    (channel_rows m.association q.sctp p.channels) q.sctp.local_max (m.association.started q.sctp.association) q.sctp.snap
    (m.media.line q.media) (stance_of m q)
    (ap (stance_of m) h.rest) (start_keeps_local m.dtls p.dtls q.dtls _ _ _ _ h.dtls_starts)
    (by_sdp_rows m laws p false answer halves (Err (Proto AssociationFault)) q.sctp p.channels shut h.sctp_fails)
    (by_sdp_size m p false answer halves (Err (Proto AssociationFault)) q.sctp h.sctp_fails)
    (by_sdp_refused m laws p false answer halves (Proto AssociationFault) q.sctp h.sctp_fails).started
    (by_sdp_refused m laws p false answer halves (Proto AssociationFault) q.sctp h.sctp_fails).snap
    (prepared_lines m laws p.media q.media _ h.media_prepared)
    (left_after m.ice laws.ice p.ice q.ice _ _ _ _ h.ice_follows)

stopped_answer_stands : {I D S M E X T W N : Type 0} (m : Meanings I D S M E X T W N) → PartsLaws m
    → (p : Peer I D S M N) (token : PendingOffer)
    (answer : Sdp) (q : Peer I D S M N) → IsShutBefore m.association p.sctp → AnswerStopped m p token answer q
    → Breaks (stance_of m p) (staged_restart token.changes) p.counter (stance_of m q)
stopped_answer_stands m laws p token answer q shut h =
    let halves : Option InitHalves = halves_for m p false token.says_init token.changes answer p.ids in
    breaks_by (stance_of m p) (staged_restart token.changes) p.counter (m.ice.settings q.ice) q.dtls.local q.dtls.active
    (channel_rows m.association q.sctp p.channels) q.sctp.local_max (m.association.started q.sctp.association) q.sctp.snap
    (m.media.line q.media) (stance_of m q)
    (ap (stance_of m) h.rest) (stopped_local m (record p { outstanding = false }) _ _ _ _ _ _ q h.stops)
    (stopped_rows m laws (record p { outstanding = false }) false answer halves q.sctp p.channels shut (stopped_sctp m (record p { outstanding = false }) _ _ _ _ _ _ q h.stops))
    (stopped_size m (record p { outstanding = false }) false answer halves q.sctp (stopped_sctp m (record p { outstanding = false }) _ _ _ _ _ _ q h.stops))
    (stopped_start m laws (record p { outstanding = false }) false answer halves q.sctp (stopped_sctp m (record p { outstanding = false }) _ _ _ _ _ _ q h.stops)).started
    (stopped_start m laws (record p { outstanding = false }) false answer halves q.sctp (stopped_sctp m (record p { outstanding = false }) _ _ _ _ _ _ q h.stops)).snap
    (same_lines m p.media q.media (stopped_media m laws.media (record p { outstanding = false }) _ _ _ _ _ _ q h.stops))
    (stopped_ice m laws.ice (record p { outstanding = false }) _ _ _ _ _ _ q h.stops)

pub accepts_answer_stands : {I D S M E X T W N : Type 0} (m : Meanings I D S M E X T W N) → PartsLaws m
    → (p : Peer I D S M N) (token : PendingOffer)
    (answer : Sdp) (result : Result (Unit {0}) RtcError) (q : Peer I D S M N) → IsShutBefore m.association p.sctp
    → AcceptsAnswer m p token answer result q
    → StanceAcceptsAnswer (stance_of m p) token answer result (stance_of m q)
accepts_answer_stands m laws p token answer (Ok done) q shut h = accepted_answer_stands m laws p token answer q shut h
accepts_answer_stands m laws p token answer (Err (Net cause)) q shut h = absurd h
accepts_answer_stands m laws p token answer (Err (MediaFailed cause)) q shut h = absurd h
accepts_answer_stands m laws p token answer (Err BadChannel) q shut h = absurd h
accepts_answer_stands m laws p token answer (Err Glare) q shut h = absurd h
accepts_answer_stands m laws p token answer (Err ChangesOutOfOrder) q shut h = (h.0, ap (stance_of m) h.1)
accepts_answer_stands m laws p token answer (Err (RemoteSdp why)) q shut h =
    (h.0, refuses_stands m p (Some (asked_by p.lines token)) answer (RefusedSdp why) q h.1)
accepts_answer_stands m laws p token answer (Err (SdpRefused error)) q shut h =
    (h.0, refuses_stands m p (Some (asked_by p.lines token)) answer (RefusedText error) q h.1)
accepts_answer_stands m laws p token answer (Err (Dtls Fault)) q shut h = (h.right, h.passes, faulted_answer_stands m laws p token answer q h)
accepts_answer_stands m laws p token answer (Err (Dtls WouldBlock)) q shut h = absurd h
accepts_answer_stands m laws p token answer (Err (Dtls DtlsAlloc)) q shut h = absurd h
accepts_answer_stands m laws p token answer (Err (Sctp error)) q shut h =
    (h.1.right, h.0, h.1.passes, unstarted_answer_stands m laws p token answer q shut h.1)
accepts_answer_stands m laws p token answer (Err Alloc) q shut h = (h.right, stopped_answer_stands m laws p token answer q shut h)
