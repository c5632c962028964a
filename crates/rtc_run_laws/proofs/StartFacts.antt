-- Starts of associations by session descriptions (draft-hancke-tsvwg-snap), computed: what a side keeps, and what it refuses.
use Rattle.std.proofs.Common.{◌≡◌, ℕ, Bool, true, false, List, [], ◌∷◌, map, Option, Some, None, refl, ap}
use Rattle.std.specs.Prelude.{codes, IfSome}
use Rattle.base64.specs.Rfc4648.{encode_symbols}
use Rattle.rtc_sctp_values.specs.InitChunk.{chunk_text}
use Rattle.rtc_sctp_values.proofs.StandardFacts.{byte_texts, refused_texts}
use Rattle.rtc_sdp_values.specs.Sdp.{inconsistency}
use Rattle.rtc_sdp_values.specs.declared.line_row.LineRow.{LineRow}
use Rattle.rtc_sdp_values.specs.declared.line_row.LineRow.TheVariants.{App}
use Rattle.rtc_sdp_values.specs.declared.sdp.Sdp.{Sdp}
use Rattle.rtc_sdp_writer.proofs.Law.{written_reads_back}
use Rattle.rtc_peer_rows.specs.declared.why.Why.TheVariants.{SctpInitChanged, SctpInitMissing}
use Rattle.rtc_change.specs.Plans.{verdict, head_verdict, side_verdict}
use Rattle.rtc_peer_core.specs.declared.rtc_error.RtcError.TheVariants.{RemoteSdp}
use Rattle.rtc_peer_core.specs.declared.sdp_head.SdpHead.{SdpHead}
use Rattle.rtc_peer_core.specs.Formed.{HaveTokens}
use Rattle.rtc_peer_core.specs.MadeSdp.{sdp_of_rows}
use Rattle.rtc_peer_core.proofs.FormedHeads.{IsInitText, IsFormedHead}
use Rattle.rtc_run_history.specs.declared.side.Side.{Side}
use Rattle.rtc_run_history.specs.declared.side.Side.TheVariants.{Left, Right}
use Rattle.rtc_run_history.specs.declared.op_answer.OpAnswer.TheVariants.{Channel}
use Rattle.rtc_run_history.specs.declared.made.Made.TheVariants.{Offer}
use Rattle.rtc_run_history.specs.declared.step.Step.TheVariants.{AcceptOffer, AcceptAnswer}
use Rattle.rtc_run_history.specs.declared.outcome.Outcome.TheVariants.{Negotiated, Answered, Finished, Refused}
use Rattle.rtc_run_history.specs.Past.{Entry, MadeSdp}
use Rattle.rtc_run_history.specs.Signalled.{Readable, arrival, signalled}
use Rattle.rtc_run_history.specs.Sound.{IsSound}
use Rattle.rtc_run_history.specs.Views.{is_inited, init_said, init_kept, init_told_by}
use Rattle.rtc_run_history.proofs.WorkedEntries.{worked_head, worked_creds, told_bare, plain, entry}
use Rattle.rtc_run_history.proofs.ChannelFacts.{left_mid, offers_channel}
use Rattle.rtc_run_history.proofs.RestartFacts.{shows}
use Rattle.rtc_run_laws.proofs.PlainSdps.{sdp_legible}
use Rattle.rtc_run_laws.proofs.ReadFacts.{worked_words, head_formed, bare_formed, with_apart}

-- ---- session descriptions of one line of data channels

abbrev line : List LineRow
line = App 0 left_mid ∷ []

abbrev starting_head : Option (List ℕ) → SdpHead
starting_head init = record worked_head { sctp_init = init }

abbrev starting_sdp : Option (List ℕ) → Sdp
starting_sdp init = sdp_of_rows (starting_head init) (map told_bare line)

abbrev says_init : Side → Bool → Option (List ℕ) → List MadeSdp
says_init at offer init = record { at = at; offer = offer; sdp = starting_sdp init } ∷ []

starting_formed : (init : Option (List ℕ)) → IfSome init IsInitText → IsFormedHead (starting_head init)
starting_formed init text =
    let bare = head_formed worked_creds false worked_words in
    record {
      session = bare.session;
      creds = bare.creds;
      fingerprint = bare.fingerprint;
      candidates = bare.candidates;
      size = bare.size;
      init = text;
    }

-- they are read as they are
starting_read : (init : Option (List ℕ)) → IfSome init IsInitText → signalled (starting_sdp init) ≡ Readable (starting_sdp init)
unfolding signalled
starting_read init text =
    let tokens : HaveTokens line = (refl, tt) in
    let whole = sdp_legible (starting_head init) (map told_bare line) (starting_formed init text) tokens (bare_formed line) in
    ap arrival (written_reads_back (starting_sdp init) (record { legible = whole; apart = with_apart (starting_head init) line }))

-- the texts of the chunks of one byte, 1 and 2
one_text : chunk_text (1 ∷ []) ≡ codes "AQ=="
unfolding chunk_text encode_symbols
one_text = refl

two_text : chunk_text (2 ∷ []) ≡ codes "Ag=="
unfolding chunk_text encode_symbols
two_text = refl

no_init_read : signalled (starting_sdp None) ≡ Readable (starting_sdp None)
no_init_read = starting_read None tt

one_read : signalled (starting_sdp (Some (codes "AQ=="))) ≡ Readable (starting_sdp (Some (codes "AQ==")))
one_read = starting_read (Some (codes "AQ==")) (1 ∷ [], rw one_text refl)

two_read : signalled (starting_sdp (Some (codes "Ag=="))) ≡ Readable (starting_sdp (Some (codes "Ag==")))
two_read = starting_read (Some (codes "Ag==")) (2 ∷ [], rw two_text refl)

-- ---- both sides start by the chunks of both

abbrev offers : Option (List ℕ) → ℕ → Entry (Unit {0})
offers init k = entry (offers_channel Left) (Negotiated (Channel 0 ∷ []) (Offer k)) [] (0 ∷ []) (says_init Left true init)

abbrev answers : Option (List ℕ) → Entry (Unit {0})
answers init = entry (AcceptOffer Right 0) (Answered 1) line [] (says_init Right false init)

abbrev ends : Entry (Unit {0})
ends = entry (AcceptAnswer Left 0 1) Finished line (0 ∷ []) []

abbrev offered : List (Entry (Unit {0}))
offered = offers (Some (codes "AQ==")) 0 ∷ []

abbrev begun : List (Entry (Unit {0}))
begun = answers (Some (codes "Ag==")) ∷ offered

abbrev ended : List (Entry (Unit {0}))
ended = ends ∷ begun

-- what is offered starts nothing
not_yet : (is_inited Left offered ≡ false) × (is_inited Right offered ≡ false)
not_yet = (refl, refl)

-- who answers is started, and keeps the chunk of the offer; who offered is started by the answer, and keeps its chunk
answerer_inited : (is_inited Right begun ≡ true) × (is_inited Left begun ≡ false)
answerer_inited = (rw one_read refl, refl)

answerer_keeps : init_kept Right begun ≡ Some (codes "AQ==")
answerer_keeps = rw (one_read, byte_texts.0, one_text) refl

offerer_inited : is_inited Left ended ≡ true
offerer_inited = rw two_read refl

offerer_keeps : init_kept Left ended ≡ Some (codes "Ag==")
offerer_keeps = rw (two_read, byte_texts.1, two_text) refl

-- the answerer still keeps that of the first one
answerer_still : init_kept Right ended ≡ Some (codes "AQ==")
answerer_still = rw (one_read, byte_texts.0, one_text) refl

-- ---- later session descriptions

abbrev changed : List (Entry (Unit {0}))
changed = offers (Some (codes "Ag==")) 2 ∷ ended

changed_refused : (made : List MadeSdp)
    → IsSound {E = Unit {0}} plain changed plain (AcceptOffer Right 2) (Refused (RemoteSdp (SctpInitChanged (codes "AQ==") (codes "Ag=="))))
    (Some (shows line)) made
unfolding verdict head_verdict side_verdict inconsistency
changed_refused made = rw (two_read, one_read, byte_texts.0, one_text) ((refl, refl), refl)

abbrev missing : List (Entry (Unit {0}))
missing = offers None 2 ∷ ended

missing_refused : (made : List MadeSdp)
    → IsSound {E = Unit {0}} plain missing plain (AcceptOffer Right 2) (Refused (RemoteSdp (SctpInitMissing (codes "AQ=="))))
    (Some (shows line)) made
unfolding verdict head_verdict side_verdict inconsistency
missing_refused made = rw (no_init_read, one_read, byte_texts.0, one_text) ((refl, refl), refl)

abbrev same : List (Entry (Unit {0}))
same = offers (Some (codes "AQ==")) 2 ∷ ended

same_accepted : (made : List MadeSdp)
    → IsSound {E = Unit {0}} plain same plain (AcceptOffer Right 2) (Answered 3) (Some (shows line)) made
unfolding verdict head_verdict side_verdict inconsistency
same_accepted made = rw (one_read, byte_texts.0, one_text) ((refl, refl, refl), refl)

-- ---- an answer tells a chunk, and its offer told none

abbrev unasked : List (Entry (Unit {0}))
unasked = ends ∷ answers (Some (codes "Ag==")) ∷ offers None 0 ∷ []

nothing_told : init_told_by 0 unasked ≡ false
nothing_told = refl

-- the side that offered is started, and keeps none
unasked_ignored : (is_inited Left unasked ≡ true) × (init_kept Left unasked ≡ None)
unasked_ignored = (rw two_read refl, rw two_read refl)

-- ---- a text with bits that belong to no byte is none of a chunk

malformed_ignored : init_said (Some (codes "AR==")) ≡ None
malformed_ignored = rw refused_texts.4 refl
