-- An answer that is accepted or refused, put together from the steps of the call.
use Rattle.std.proofs.Common.{◌≡◌, ◌==◌, ◌∙◌, ℕ, arith, Bool, true, false, List, Some, None, Result, Ok, Err, refl, sym, ap, subst}
use Rattle.std.specs.Option.{option_or}
use Rattle.rtc_sdp_values.specs.Sdp.{sdp_fingerprint}
use Rattle.rtc_sdp_values.specs.declared.line_row.LineRow.{LineRow}
use Rattle.rtc_sdp_values.specs.declared.sdp.Sdp.{Sdp}
use Rattle.rtc_sdp_values.specs.declared.sdp_error.SdpError.TheVariants.{Alloc as SdpAlloc, Parse, Inconsistent}
use Rattle.rtc_peer_rows.specs.ParsedLines.{parsed_lines}
use Rattle.rtc_channels.specs.Channels.{Channels, all_confirmed}
use Rattle.rtc_change.specs.declared.change.Change.{Change}
use Rattle.rtc_change.specs.declared.refusal.Refusal.{Refusal}
use Rattle.rtc_change.specs.declared.refusal.Refusal.TheVariants.{RemoteSdp as RefusedSdp, Sdp as RefusedText, Alloc as NoMemory}
use Rattle.rtc_change.specs.PendingOffer.{PendingOffer, staged_restart}
use Rattle.rtc_change.specs.Plans.{PlansSdp, verdict, asked_by}
use Rattle.rtc_change.specs.TableAfter.{table_after}
use Rattle.rtc_parts.specs.declared.dtls_error.DtlsError.TheVariants.{WouldBlock, Fault, Alloc as DtlsAlloc}
use Rattle.rtc_parts.specs.DtlsState.{DtlsState}
use Rattle.rtc_sctp.specs.Streams.{SctpStreams}
use Rattle.rtc_peer_core.specs.declared.peer.Peer.{Peer}
use Rattle.rtc_peer_core.specs.declared.rtc_error.RtcError.{RtcError}
use Rattle.rtc_peer_core.specs.declared.rtc_error.RtcError.TheVariants.{
  RemoteSdp,
  Sdp as SdpRefused,
  Dtls,
  Sctp,
  Net,
  Media as MediaFailed,
  ChangesOutOfOrder,
  BadChannel,
  Alloc,
  Glare,
}
use Rattle.rtc_peer_core.specs.Acceptances.{AcceptsAnswer, AnswerAccepted, AnswerStopped, refused_phase, halves_for, ids_after_halves}
use Rattle.rtc_peer_core.specs.Calls.{raised, fitting_channels}
use Rattle.rtc_peer_core.specs.Meanings.{Meanings}
use Rattle.rtc_peer_core.specs.RtcErrors.{error_of_refusal}
use Rattle.rtc_peer_core.specs.Stance.{stance_of, held_by}
use Rattle.rtc_peer_core.specs.StoppedAcceptances.{StopsPreparing, StopsAccepting, AtVerdict, AtPreparing, AtParts}
use Rattle.rtc_peer_core.proofs.StoppedPeers.{preparing_rest}
use Rattle.rtc_peer_negotiation.specs.declared.following.Following.{Following}
use Rattle.rtc_peer_negotiation.specs.declared.growth.Growth.{Growth}
use Rattle.rtc_peer_negotiation.specs.declared.starting.Starting.{Starting}
use Rattle.rtc_peer_negotiation.specs.Growths.{following_of, GrowsAnswer}
use Rattle.rtc_peer_negotiation.specs.Moves.{MovesParts}

-- the latest token has the number before the counter
pub latest_raised : (latest : Bool) (counter number : ℕ) → latest ≡ (counter == raised number) → latest ≡ true → counter ≡ raised number
latest_raised latest counter number is holds = grind (arith, is, holds)

module _ {I D S M E X T W N : Type 0} (m : Meanings I D S M E X T W N) where
  -- the peer whose token was handed in
  abbrev pub cleared : Peer I D S M N → Peer I D S M N
  cleared p = record p { outstanding = false }

  -- memory lacked, which leaves rows, channels and fingerprint wherever it stopped
  stopped_at : (p q : Peer I D S M N) (token : PendingOffer) (answer : Sdp) → p.counter ≡ raised token.id
      → StopsAccepting m (cleared p) (Some (asked_by p.lines token)) token.changes answer (staged_restart token.changes) None p.ids q
      → q ≡ record (cleared p) { ids = q.ids; ice = q.ice; dtls = q.dtls; sctp = q.sctp; media = q.media } → AnswerStopped m p token answer q
  stopped_at p q token answer right stops rest = record { right = right; stops = stops; rest = rest }

  -- it lacked as the answer was judged
  answer_unjudged : (p : Peer I D S M N) (token : PendingOffer) (answer : Sdp) → p.counter ≡ raised token.id → AnswerStopped m p token answer (cleared p)
  answer_unjudged p token answer right = stopped_at p (cleared p) token answer right (AtVerdict refl) refl

  -- it lacked as what the acceptance needs was prepared
  pub answer_unprepared : (p q : Peer I D S M N) (token : PendingOffer) (answer : Sdp) → p.counter ≡ raised token.id
      → verdict (held_by (stance_of m p)) (Some (asked_by p.lines token)) answer ≡ None → StopsPreparing m (cleared p) false token.says_init token.changes answer p.ids q
      → AnswerStopped m p token answer q
  answer_unprepared p q token answer right passes stops =
      stopped_at p q token answer right (AtPreparing passes stops)
      (ap (λ (x : Peer I D S M N). record x { ice = q.ice; dtls = q.dtls; sctp = q.sctp }) (preparing_rest m (cleared p) false token.says_init token.changes answer p.ids q stops))

  -- the answer is refused as it is judged
  judged : (p : Peer I D S M N) (token : PendingOffer) (answer : Sdp) (refusal : Refusal) → p.counter ≡ raised token.id
      → PlansSdp (held_by (stance_of m p)) (Some (asked_by p.lines token)) answer (Err refusal)
      → AcceptsAnswer m p token answer (Err (error_of_refusal refusal)) (record (cleared p) { phase = refused_phase refusal p.phase })
  judged p token answer (RefusedSdp why) right plans = (right, (plans, refl))
  judged p token answer (RefusedText SdpAlloc) right plans = answer_unjudged p token answer right
  judged p token answer (RefusedText (Parse line)) right plans = (right, (plans, refl))
  judged p token answer (RefusedText (Inconsistent cause)) right plans = (right, (plans, refl))
  judged p token answer NoMemory right plans = answer_unjudged p token answer right

  pub answer_refused : (p q : Peer I D S M N) (token : PendingOffer) (answer : Sdp) (refusal : Refusal) (error : RtcError) → p.counter ≡ raised token.id
      → PlansSdp (held_by (stance_of m p)) (Some (asked_by p.lines token)) answer (Err refusal) → error ≡ error_of_refusal refusal
      → q ≡ record (cleared p) { phase = refused_phase refusal p.phase } → AcceptsAnswer m p token answer (Err error) q
  answer_refused p q token answer refusal error right plans error_is rest =
      subst (λ (e : RtcError). AcceptsAnswer m p token answer (Err e) q) (sym error_is)
      (subst (λ (x : Peer I D S M N). AcceptsAnswer m p token answer (Err (error_of_refusal refusal)) x) (sym rest) (judged p token answer refusal right plans))

  abbrev pub answered : List Change → Sdp → Following
  answered changes answer = following_of (staged_restart changes) answer None

  abbrev pub begun : Peer I D S M N → (may : Bool) → List Change → Sdp → Starting
  begun p may changes answer = record { halves = halves_for m p false may changes answer p.ids; drops = true }

  -- the parts of a peer follow an answer
  abbrev pub AnswerMoves : Peer I D S M N → (may : Bool) → List Change → Sdp → Result (Unit {0}) RtcError → I → DtlsState D → SctpStreams S → Type 0
  AnswerMoves p may changes answer r ice dtls sctp =
      MovesParts m.ice m.dtls m.association p.ice p.dtls p.sctp (answered changes answer) (begun p may changes answer) answer
      (table_after p.lines (parsed_lines answer) false) p.greatest r ice dtls sctp

  -- what is made ready leaves the parts that follow it
  pub answer_moves : (p q : Peer I D S M N) (may : Bool) (changes : List Change) (answer : Sdp) (growth : Growth) (rows : List LineRow) (r : Result (Unit {0}) RtcError) (ice : I)
      (dtls : DtlsState D) (sctp : SctpStreams S) → GrowsAnswer m (cleared p) may changes answer (Ok growth) q → rows ≡ table_after p.lines (parsed_lines answer) false
      → MovesParts m.ice m.dtls m.association q.ice q.dtls q.sctp growth.following growth.starting answer rows q.greatest r ice dtls sctp
      → AnswerMoves p may changes answer r ice dtls sctp
  answer_moves p q may changes answer growth rows r ice dtls sctp grown rows_are moves =
      subst (λ (xs : List LineRow). MovesParts m.ice m.dtls m.association p.ice p.dtls p.sctp (answered changes answer) (begun p may changes answer) answer xs p.greatest r ice dtls sctp)
      rows_are
      (subst (λ (g : Growth). MovesParts m.ice m.dtls m.association p.ice p.dtls p.sctp g.following g.starting answer rows p.greatest r ice dtls sctp) grown.0
      (subst (λ (x : Peer I D S M N). MovesParts m.ice m.dtls m.association x.ice x.dtls x.sctp growth.following growth.starting answer rows x.greatest r ice dtls sctp) grown.2 moves))

  -- the peer once parts have moved
  moved : (p q : Peer I D S M N) (may : Bool) (changes : List Change) (answer : Sdp) (growth : Growth) (ice : I) (dtls : DtlsState D) (sctp : SctpStreams S)
      → GrowsAnswer m (cleared p) may changes answer (Ok growth) q → record q { ice = ice; dtls = dtls; sctp = sctp } ≡ record p {
        outstanding = false;
        ids = ids_after_halves m p false may changes answer p.ids;
        ice = ice;
        dtls = dtls;
        sctp = sctp;
        media = q.media;
      }
  moved p q may changes answer growth ice dtls sctp grown = ap (λ (x : Peer I D S M N). record x { ice = ice; dtls = dtls; sctp = sctp }) grown.2

  -- a part failed, or memory lacked
  fails_by : (p q : Peer I D S M N) (token : PendingOffer) (answer : Sdp) (growth : Growth) (error : RtcError) (ice : I) (dtls : DtlsState D)
      (sctp : SctpStreams S) → p.counter ≡ raised token.id → GrowsAnswer m (cleared p) token.says_init token.changes answer (Ok growth) q
      → verdict (held_by (stance_of m p)) (Some (asked_by p.lines token)) answer ≡ None → AnswerMoves p token.says_init token.changes answer (Err error) ice dtls sctp
      → AcceptsAnswer m p token answer (Err error) (record q { ice = ice; dtls = dtls; sctp = sctp })
  fails_by p q token answer growth (Dtls Fault) ice dtls sctp right grown passes moves = record {
    right = right;
    passes = passes;
    ice_follows = moves.0;
    dtls_fails = moves.1;
    media_prepared = grown.1;
    rest = moved p q token.says_init token.changes answer growth ice dtls sctp grown ∙ ap (λ (s : SctpStreams S). record p {
      outstanding = false;
      ids = ids_after_halves m p false token.says_init token.changes answer p.ids;
      ice = ice;
      dtls = dtls;
      sctp = s;
      media = q.media;
    }) moves.2;
  }
  fails_by p q token answer growth (Sctp error) ice dtls sctp right grown passes moves = (
    moves.0,
    record {
      right = right;
      passes = passes;
      ice_follows = moves.1;
      dtls_starts = moves.2;
      sctp_fails = moves.3;
      media_prepared = grown.1;
      rest = moved p q token.says_init token.changes answer growth ice dtls sctp grown;
    },
  )
  fails_by p q token answer growth Alloc ice dtls sctp right grown passes moves =
      stopped_at p (record q { ice = ice; dtls = dtls; sctp = sctp }) token answer right
      (AtParts passes (ap (λ (x : Peer I D S M N). x.ids) grown.2) grown.1 moves)
      (ap (λ (x : Peer I D S M N). record x { ids = q.ids; ice = ice; dtls = dtls; sctp = sctp; media = q.media }) grown.2)
  fails_by p q token answer growth (Dtls WouldBlock) ice dtls sctp right grown passes moves = absurd moves
  fails_by p q token answer growth (Dtls DtlsAlloc) ice dtls sctp right grown passes moves = absurd moves
  fails_by p q token answer growth (RemoteSdp why) ice dtls sctp right grown passes moves = absurd moves
  fails_by p q token answer growth (SdpRefused error) ice dtls sctp right grown passes moves = absurd moves
  fails_by p q token answer growth ChangesOutOfOrder ice dtls sctp right grown passes moves = absurd moves
  fails_by p q token answer growth (Net cause) ice dtls sctp right grown passes moves = absurd moves
  fails_by p q token answer growth (MediaFailed cause) ice dtls sctp right grown passes moves = absurd moves
  fails_by p q token answer growth BadChannel ice dtls sctp right grown passes moves = absurd moves
  fails_by p q token answer growth Glare ice dtls sctp right grown passes moves = absurd moves

  pub answer_fails : (p q r : Peer I D S M N) (token : PendingOffer) (answer : Sdp) (growth : Growth) (error : RtcError) → p.counter ≡ raised token.id
      → GrowsAnswer m (cleared p) token.says_init token.changes answer (Ok growth) q
      → verdict (held_by (stance_of m p)) (Some (asked_by p.lines token)) answer ≡ None
      → AnswerMoves p token.says_init token.changes answer (Err error) r.ice r.dtls r.sctp
      → r ≡ record q { ice = r.ice; dtls = r.dtls; sctp = r.sctp } → AcceptsAnswer m p token answer (Err error) r
  answer_fails p q r token answer growth error right grown passes moves rest =
      subst (λ (x : Peer I D S M N). AcceptsAnswer m p token answer (Err error) x) (sym rest)
      (fails_by p q token answer growth error r.ice r.dtls r.sctp right grown passes moves)

  -- the answer is accepted
  accepted_by : (p q : Peer I D S M N) (token : PendingOffer) (answer : Sdp) (growth : Growth) (ice : I) (dtls : DtlsState D) (sctp : SctpStreams S) (media : M)
      (lines : List LineRow) (channels : Channels) → p.counter ≡ raised token.id → GrowsAnswer m (cleared p) token.says_init token.changes answer (Ok growth) q
      → verdict (held_by (stance_of m p)) (Some (asked_by p.lines token)) answer ≡ None → AnswerMoves p token.says_init token.changes answer (Ok tt) ice dtls sctp
      → m.media.committed q.media media → lines ≡ table_after p.lines (parsed_lines answer) false → channels ≡ all_confirmed (fitting_channels token.changes) q.channels
      → AnswerAccepted m p token answer
      (record q { ice = ice; dtls = dtls; sctp = sctp; fingerprint = growth.fingerprint; media = media; lines = lines; channels = channels })
  accepted_by p q token answer growth ice dtls sctp media lines channels right grown passes moves committed lines_are confirmed =
      let told : growth.fingerprint ≡ option_or p.fingerprint (sdp_fingerprint answer) = ap (λ (x : Growth). x.fingerprint) grown.0 in
      let now : channels ≡ all_confirmed (fitting_channels token.changes) p.channels =
      confirmed ∙ ap (λ (x : Peer I D S M N). all_confirmed (fitting_channels token.changes) x.channels) grown.2 in
      record {
        right = right;
        passes = passes;
        ice_follows = moves.0;
        dtls_starts = moves.1;
        sctp_starts = moves.2;
        media_updated = record { prepared = q.media; by_prepare = grown.1; by_commit = committed };
        rest = rw (told, lines_are, now) (ap (λ (x : Peer I D S M N). record x {
          ice = ice;
          dtls = dtls;
          sctp = sctp;
          fingerprint = option_or p.fingerprint (sdp_fingerprint answer);
          media = media;
          lines = table_after p.lines (parsed_lines answer) false;
          channels = all_confirmed (fitting_channels token.changes) p.channels;
        }) grown.2);
      }

  pub answer_accepted : (p q r : Peer I D S M N) (token : PendingOffer) (answer : Sdp) (growth : Growth) (media : M) (lines : List LineRow) (channels : Channels)
      → p.counter ≡ raised token.id → GrowsAnswer m (cleared p) token.says_init token.changes answer (Ok growth) q
      → verdict (held_by (stance_of m p)) (Some (asked_by p.lines token)) answer ≡ None
      → AnswerMoves p token.says_init token.changes answer (Ok tt) r.ice r.dtls r.sctp → r ≡ record q { ice = r.ice; dtls = r.dtls; sctp = r.sctp }
      → m.media.committed r.media media → lines ≡ table_after p.lines (parsed_lines answer) false
      → channels ≡ all_confirmed (fitting_channels token.changes) r.channels
      → AnswerAccepted m p token answer (record r { fingerprint = growth.fingerprint; media = media; lines = lines; channels = channels })
  answer_accepted p q r token answer growth media lines channels right grown passes moves rest committed lines_are confirmed =
      subst (λ (x : Peer I D S M N).
      AnswerAccepted m p token answer (record x { fingerprint = growth.fingerprint; media = media; lines = lines; channels = channels })) (sym rest)
      (accepted_by p q token answer growth r.ice r.dtls r.sctp media lines channels right grown passes moves
      (subst (λ (part : M). m.media.committed part media) (ap (λ (x : Peer I D S M N). x.media) rest) committed) lines_are
      (confirmed ∙ ap (λ (x : Peer I D S M N). all_confirmed (fitting_channels token.changes) x.channels) rest))
