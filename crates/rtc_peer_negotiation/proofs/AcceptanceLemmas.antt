-- An offer that is accepted or refused, put together from the steps of the call.
use Rattle.std.proofs.Common.{◌≡◌, ◌∙◌, ℕ, Bool, false, true, List, [], Option, Some, None, Result, Ok, Err, refl, sym, ap, subst}
use Rattle.std.specs.Option.{option_or}
use Rattle.rtc_sdp_values.specs.Sdp.{sdp_fingerprint}
use Rattle.rtc_sdp_values.specs.declared.ice_creds.IceCreds.{IceCreds}
use Rattle.rtc_sdp_values.specs.declared.line_row.LineRow.{LineRow}
use Rattle.rtc_sdp_values.specs.declared.sdp.Sdp.{Sdp}
use Rattle.rtc_sdp_values.specs.declared.sdp_error.SdpError.TheVariants.{Alloc as SdpAlloc, Parse, Inconsistent}
use Rattle.rtc_peer_rows.specs.ParsedLines.{parsed_lines}
use Rattle.rtc_change.specs.Plans.{PlansSdp, verdict}
use Rattle.rtc_change.specs.TableAfter.{table_after}
use Rattle.rtc_change.specs.declared.refusal.Refusal.{Refusal}
use Rattle.rtc_change.specs.declared.refusal.Refusal.TheVariants.{RemoteSdp as RefusedSdp, Sdp as RefusedText, Alloc as NoMemory}
use Rattle.rtc_parts.specs.declared.dtls_error.DtlsError.TheVariants.{WouldBlock, Fault, Alloc as DtlsAlloc}
use Rattle.rtc_parts.specs.DtlsState.{DtlsState}
use Rattle.rtc_parts.specs.declared.media_update.MediaUpdate.{MediaUpdate}
use Rattle.rtc_sctp.specs.Streams.{SctpStreams}
use Rattle.rtc_peer_core.specs.declared.peer.Peer.{Peer}
use Rattle.rtc_peer_core.specs.declared.rtc_error.RtcError.{RtcError}
use Rattle.rtc_peer_core.specs.declared.rtc_error.RtcError.TheVariants.{
  RemoteSdp,
  Sdp as SdpRefused,
  Dtls,
  Sctp,
  Net,
  Media as MediaFailed,
  ChangesOutOfOrder,
  BadChannel,
  Alloc,
  Glare,
}
use Rattle.rtc_peer_core.specs.Acceptances.{AcceptsOffer, OfferAccepted, OfferStopped, refused_phase}
use Rattle.rtc_peer_core.specs.Acceptances.{followed_restart, answer_ids, updates_for, halves_for, ids_after_halves, init_answered}
use Rattle.rtc_peer_core.specs.Calls.{raised, control_for}
use Rattle.rtc_peer_core.specs.MadeSdp.{answer_sdp}
use Rattle.rtc_peer_core.specs.Glare.{meets_glare}
use Rattle.rtc_peer_core.specs.Meanings.{Meanings}
use Rattle.rtc_peer_core.specs.RtcErrors.{error_of_refusal}
use Rattle.rtc_peer_core.specs.Stance.{stance_of, held_by}
use Rattle.rtc_peer_core.specs.StoppedAcceptances.{StopsPreparing, StopsAccepting, AtVerdict, AtPreparing, AtParts}
use Rattle.rtc_peer_core.proofs.StoppedPeers.{preparing_rest}
use Rattle.rtc_peer_negotiation.specs.declared.following.Following.{Following}
use Rattle.rtc_peer_negotiation.specs.declared.growth.Growth.{Growth}
use Rattle.rtc_peer_negotiation.specs.declared.starting.Starting.{Starting}
use Rattle.rtc_peer_negotiation.specs.Growths.{following_of, GrowsOffer}
use Rattle.rtc_peer_negotiation.specs.Moves.{MovesParts}

module _ {I D S M E X T W N : Type 0} (m : Meanings I D S M E X T W N) where
  -- the peer whose counter is raised
  abbrev pub counted : Peer I D S M N → Peer I D S M N
  counted p = record p { counter = raised p.counter; outstanding = false }

  -- its offer awaits no answer, or it is not impolite
  abbrev pub IsCalm : Peer I D S M N → Type 0
  IsCalm p = meets_glare p.polite p.outstanding ≡ false

  -- the answer is not a matter of the counter
  same_answer : (p : Peer I D S M N) (restart : Option (IceCreds × Bool)) (updates : List MediaUpdate) (init : Option (List ℕ)) (offer : Sdp)
      → answer_sdp (stance_of m (counted p)) restart updates init offer ≡ answer_sdp (stance_of m p) restart updates init offer
  unfolding answer_sdp
  same_answer p restart updates init offer = refl

  -- memory lacked, which leaves rows, channels and fingerprint wherever it stopped
  stopped_at : (p q : Peer I D S M N) (offer : Sdp) → IsCalm p
      → StopsAccepting m (counted p) None [] offer (followed_restart m p offer) (control_for p.dtls.active offer.ice_lite) (answer_ids m p offer) q
      → q ≡ record (counted p) { ids = q.ids; ice = q.ice; dtls = q.dtls; sctp = q.sctp; media = q.media } → OfferStopped m p offer q
  stopped_at p q offer calm stops rest = record { no_glare = calm; stops = stops; rest = rest }

  -- it lacked as the offer was judged
  offer_unjudged : (p : Peer I D S M N) (offer : Sdp) → IsCalm p → OfferStopped m p offer (counted p)
  offer_unjudged p offer calm = stopped_at p (counted p) offer calm (AtVerdict refl) refl

  -- it lacked as what the acceptance needs was prepared
  pub offer_unprepared : (p q : Peer I D S M N) (offer : Sdp) → IsCalm p → verdict (held_by (stance_of m p)) None offer ≡ None
      → StopsPreparing m (counted p) true true [] offer (answer_ids m (counted p) offer) q → OfferStopped m p offer q
  offer_unprepared p q offer calm passes stops =
      stopped_at p q offer calm (AtPreparing passes stops)
      (ap (λ (x : Peer I D S M N). record x { ice = q.ice; dtls = q.dtls; sctp = q.sctp }) (preparing_rest m (counted p) true true [] offer (answer_ids m p offer) q stops))

  -- the offer is refused as it is judged
  judged : (p : Peer I D S M N) (offer : Sdp) (refusal : Refusal) → IsCalm p → PlansSdp (held_by (stance_of m p)) None offer (Err refusal)
      → AcceptsOffer m p offer (Err (error_of_refusal refusal)) (record p { counter = raised p.counter; outstanding = false; phase = refused_phase refusal p.phase })
  judged p offer (RefusedSdp why) calm plans = (calm, (plans, refl))
  judged p offer (RefusedText SdpAlloc) calm plans = offer_unjudged p offer calm
  judged p offer (RefusedText (Parse line)) calm plans = (calm, (plans, refl))
  judged p offer (RefusedText (Inconsistent cause)) calm plans = (calm, (plans, refl))
  judged p offer NoMemory calm plans = offer_unjudged p offer calm

  pub offer_refused : (p q : Peer I D S M N) (offer : Sdp) (refusal : Refusal) (error : RtcError) → IsCalm p → PlansSdp (held_by (stance_of m p)) None offer (Err refusal)
      → error ≡ error_of_refusal refusal → q ≡ record (counted p) { phase = refused_phase refusal p.phase } → AcceptsOffer m p offer (Err error) q
  offer_refused p q offer refusal error calm plans error_is rest =
      subst (λ (e : RtcError). AcceptsOffer m p offer (Err e) q) (sym error_is)
      (subst (λ (x : Peer I D S M N). AcceptsOffer m p offer (Err (error_of_refusal refusal)) x) (sym rest) (judged p offer refusal calm plans))

  abbrev pub offered : Peer I D S M N → Sdp → Following
  offered p offer = following_of (followed_restart m p offer) offer (control_for p.dtls.active offer.ice_lite)

  abbrev pub begun : Peer I D S M N → Sdp → Starting
  begun p offer = record { halves = halves_for m p true true [] offer (answer_ids m p offer); drops = false }

  -- the parts of a peer follow an offer
  abbrev pub OfferMoves : Peer I D S M N → Sdp → Result (Unit {0}) RtcError → I → DtlsState D → SctpStreams S → Type 0
  OfferMoves p offer r ice dtls sctp =
      MovesParts m.ice m.dtls m.association p.ice p.dtls p.sctp (offered p offer) (begun p offer) offer
      (table_after p.lines (parsed_lines offer) true) p.greatest r ice dtls sctp

  -- what is made ready leaves the parts that follow it
  pub offer_moves : (p q : Peer I D S M N) (offer : Sdp) (growth : Growth) (rows : List LineRow) (r : Result (Unit {0}) RtcError) (ice : I) (dtls : DtlsState D)
      (sctp : SctpStreams S) → GrowsOffer m (counted p) offer (Ok growth) q → rows ≡ table_after p.lines (parsed_lines offer) true
      → MovesParts m.ice m.dtls m.association q.ice q.dtls q.sctp growth.following growth.starting offer rows q.greatest r ice dtls sctp
      → OfferMoves p offer r ice dtls sctp
  offer_moves p q offer growth rows r ice dtls sctp grown rows_are moves =
      subst (λ (xs : List LineRow). MovesParts m.ice m.dtls m.association p.ice p.dtls p.sctp (offered p offer) (begun p offer) offer xs p.greatest r ice dtls sctp) rows_are
      (subst (λ (g : Growth). MovesParts m.ice m.dtls m.association p.ice p.dtls p.sctp g.following g.starting offer rows p.greatest r ice dtls sctp) grown.0
      (subst (λ (x : Peer I D S M N). MovesParts m.ice m.dtls m.association x.ice x.dtls x.sctp growth.following growth.starting offer rows x.greatest r ice dtls sctp) grown.2 moves))

  -- the peer once parts have moved
  moved : (p q : Peer I D S M N) (offer : Sdp) (growth : Growth) (ice : I) (dtls : DtlsState D) (sctp : SctpStreams S) → GrowsOffer m (counted p) offer (Ok growth) q
      → record q { ice = ice; dtls = dtls; sctp = sctp } ≡ record p {
        counter = raised p.counter;
        outstanding = false;
        ids = ids_after_halves m p true true [] offer (answer_ids m p offer);
        ice = ice;
        dtls = dtls;
        sctp = sctp;
        media = q.media;
      }
  moved p q offer growth ice dtls sctp grown = ap (λ (x : Peer I D S M N). record x { ice = ice; dtls = dtls; sctp = sctp }) grown.2

  -- a part failed, or memory lacked
  fails_by : (p q : Peer I D S M N) (offer : Sdp) (growth : Growth) (error : RtcError) (ice : I) (dtls : DtlsState D) (sctp : SctpStreams S)
      → IsCalm p → GrowsOffer m (counted p) offer (Ok growth) q → verdict (held_by (stance_of m p)) None offer ≡ None
      → OfferMoves p offer (Err error) ice dtls sctp → AcceptsOffer m p offer (Err error) (record q { ice = ice; dtls = dtls; sctp = sctp })
  fails_by p q offer growth (Dtls Fault) ice dtls sctp calm grown passes moves = record {
    no_glare = calm;
    passes = passes;
    ice_follows = moves.0;
    dtls_fails = moves.1;
    media_prepared = grown.1;
    rest = moved p q offer growth ice dtls sctp grown ∙ ap (λ (s : SctpStreams S). record p {
      counter = raised p.counter;
      outstanding = false;
      ids = ids_after_halves m p true true [] offer (answer_ids m p offer);
      ice = ice;
      dtls = dtls;
      sctp = s;
      media = q.media;
    }) moves.2;
  }
  fails_by p q offer growth (Sctp error) ice dtls sctp calm grown passes moves = (
    moves.0,
    record {
      no_glare = calm;
      passes = passes;
      ice_follows = moves.1;
      dtls_starts = moves.2;
      sctp_fails = moves.3;
      media_prepared = grown.1;
      rest = moved p q offer growth ice dtls sctp grown;
    },
  )
  fails_by p q offer growth Alloc ice dtls sctp calm grown passes moves =
      stopped_at p (record q { ice = ice; dtls = dtls; sctp = sctp }) offer calm (AtParts passes (ap (λ (x : Peer I D S M N). x.ids) grown.2) grown.1 moves)
      (ap (λ (x : Peer I D S M N). record x { ids = q.ids; ice = ice; dtls = dtls; sctp = sctp; media = q.media }) grown.2)
  fails_by p q offer growth (Dtls WouldBlock) ice dtls sctp calm grown passes moves = absurd moves
  fails_by p q offer growth (Dtls DtlsAlloc) ice dtls sctp calm grown passes moves = absurd moves
  fails_by p q offer growth (RemoteSdp why) ice dtls sctp calm grown passes moves = absurd moves
  fails_by p q offer growth (SdpRefused error) ice dtls sctp calm grown passes moves = absurd moves
  fails_by p q offer growth ChangesOutOfOrder ice dtls sctp calm grown passes moves = absurd moves
  fails_by p q offer growth (Net cause) ice dtls sctp calm grown passes moves = absurd moves
  fails_by p q offer growth (MediaFailed cause) ice dtls sctp calm grown passes moves = absurd moves
  fails_by p q offer growth BadChannel ice dtls sctp calm grown passes moves = absurd moves
  fails_by p q offer growth Glare ice dtls sctp calm grown passes moves = absurd moves

  pub offer_fails : (p q r : Peer I D S M N) (offer : Sdp) (growth : Growth) (error : RtcError) → IsCalm p → GrowsOffer m (counted p) offer (Ok growth) q
      → verdict (held_by (stance_of m p)) None offer ≡ None → OfferMoves p offer (Err error) r.ice r.dtls r.sctp
      → r ≡ record q { ice = r.ice; dtls = r.dtls; sctp = r.sctp } → AcceptsOffer m p offer (Err error) r
  offer_fails p q r offer growth error calm grown passes moves rest =
      subst (λ (x : Peer I D S M N). AcceptsOffer m p offer (Err error) x) (sym rest)
      (fails_by p q offer growth error r.ice r.dtls r.sctp calm grown passes moves)

  -- the offer is accepted
  accepted_by : (p q : Peer I D S M N) (offer answer : Sdp) (growth : Growth) (ice : I) (dtls : DtlsState D) (sctp : SctpStreams S) (media : M) (lines : List LineRow)
      → IsCalm p → GrowsOffer m (counted p) offer (Ok growth) q → growth.answer ≡ Some answer → verdict (held_by (stance_of m p)) None offer ≡ None
      → OfferMoves p offer (Ok tt) ice dtls sctp → m.media.committed q.media media → lines ≡ table_after p.lines (parsed_lines offer) true
      → OfferAccepted m p offer answer (record q { ice = ice; dtls = dtls; sctp = sctp; fingerprint = growth.fingerprint; media = media; lines = lines })
  accepted_by p q offer answer growth ice dtls sctp media lines calm grown made passes moves committed lines_are =
      let updates : List MediaUpdate = updates_for m p true [] offer (answer_ids m p offer) in
      let shown : Some answer ≡ Some (answer_sdp (stance_of m p) (followed_restart m p offer) updates (init_answered m p offer) offer) =
      sym made ∙ ap (λ (x : Growth). x.answer) grown.0
      ∙ ap Some (same_answer p (followed_restart m p offer) updates (init_answered m p offer) offer) in
      let told : growth.fingerprint ≡ option_or p.fingerprint (sdp_fingerprint offer) = ap (λ (x : Growth). x.fingerprint) grown.0 in
      record {
        no_glare = calm;
        passes = passes;
        answered = cc;
        ice_follows = moves.0;
        dtls_starts = moves.1;
        sctp_starts = moves.2;
        media_updated = record { prepared = q.media; by_prepare = grown.1; by_commit = committed };
        rest = rw (told, lines_are) (ap (λ (x : Peer I D S M N). record x {
          ice = ice;
          dtls = dtls;
          sctp = sctp;
          fingerprint = option_or p.fingerprint (sdp_fingerprint offer);
          media = media;
          lines = table_after p.lines (parsed_lines offer) true;
        }) grown.2);
      }

  pub offer_accepted : (p q r : Peer I D S M N) (offer answer : Sdp) (growth : Growth) (media : M) (lines : List LineRow)
      → IsCalm p → GrowsOffer m (counted p) offer (Ok growth) q → growth.answer ≡ Some answer → verdict (held_by (stance_of m p)) None offer ≡ None
      → OfferMoves p offer (Ok tt) r.ice r.dtls r.sctp → r ≡ record q { ice = r.ice; dtls = r.dtls; sctp = r.sctp }
      → m.media.committed r.media media → lines ≡ table_after p.lines (parsed_lines offer) true
      → OfferAccepted m p offer answer (record r { fingerprint = growth.fingerprint; media = media; lines = lines })
  offer_accepted p q r offer answer growth media lines calm grown made passes moves rest committed lines_are =
      subst (λ (x : Peer I D S M N). OfferAccepted m p offer answer (record x { fingerprint = growth.fingerprint; media = media; lines = lines }))
      (sym rest)
      (accepted_by p q offer answer growth r.ice r.dtls r.sctp media lines calm grown made passes moves
      (subst (λ (part : M). m.media.committed part media) (ap (λ (x : Peer I D S M N). x.media) rest) committed) lines_are)
