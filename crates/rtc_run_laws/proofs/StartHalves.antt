-- The halves of a start by session descriptions, through a round: what its offer tells, what its answer tells, and what each side then keeps.
use Rattle.std.proofs.Common.{◌≡◌, ◌∙◌, ◌&&◌, ℕ, Bool, true, false, not, List, [], ◌∷◌, ◌++◌, map, Option, Some, None, refl, sym, ap, cond}
use Rattle.std.specs.Prelude.{is_some, option_and_then, option_map, IfSome}
use Rattle.std.proofs.lemmas.Slice.Eq.{bytes_eq-Decides}
use Rattle.rtc_sdp_values.specs.Sdp.{is_application, application_line, sdp_sctp_init}
use Rattle.rtc_sdp_values.specs.declared.candidate.Candidate.{Candidate}
use Rattle.rtc_sdp_values.specs.declared.line_row.LineRow.{LineRow}
use Rattle.rtc_sdp_values.specs.declared.line_row.LineRow.TheVariants.{Media, App}
use Rattle.rtc_sdp_values.specs.declared.media_kind.MediaKind.TheVariants.{Audio, Video}
use Rattle.rtc_sdp_values.specs.declared.media_line.MediaLine.{MediaLine}
use Rattle.rtc_sctp_values.specs.InitChunk.{chunk_text, chunk_of_text}
use Rattle.rtc_sctp_values.specs.InitHalves.{InitHalves, is_whole, local_text, remote_text}
use Rattle.rtc_sctp_values.specs.SnapHalves.{KeptHalves, halves_or_none, text_in}
use Rattle.rtc_change.specs.Plans.{init_refusal}
use Rattle.rtc_peer_core.specs.declared.sdp_head.SdpHead.{SdpHead}
use Rattle.rtc_peer_core.specs.declared.told_row.ToldRow.{ToldRow}
use Rattle.rtc_peer_core.specs.MadeSdp.{row_line, told_line, row_told, with_candidates, sdp_of_rows}
use Rattle.rtc_peer_core.specs.SdpHalves.{half_or, pending_halves, told_chunk, joined_by, init_told, kept_told}
use Rattle.rtc_peer_core.specs.Stance.{Stance}
use Rattle.rtc_peer_core.proofs.StanceCalls.{IsReadBack}
use Rattle.rtc_peer_core.proofs.StanceTaken.{begun_by}
use Rattle.rtc_run_history.specs.Answers.{has_app_row}
use Rattle.rtc_run_history.specs.Orderly.{AreJoined}

-- ---- what stands in the line of the data channels

init_in_lines : List MediaLine → Option (List ℕ)
init_in_lines lines = option_and_then (λ (line : MediaLine). line.sctp_init) (application_line lines)

init_with : (candidates : List Candidate) (lines : List MediaLine) → init_in_lines (with_candidates candidates lines) ≡ init_in_lines lines
unfolding init_in_lines
init_with candidates [] = refl
init_with candidates (line ∷ lines) = by (is_application line.kind) refl
  where
    by : (found : Bool) → is_application line.kind ≡ found → init_in_lines (with_candidates candidates (line ∷ lines)) ≡ init_in_lines (line ∷ lines)
    by true is = rw is refl
    by false is = rw is refl

init_told_lines : (head : SdpHead) (told : List ToldRow)
    → init_in_lines (map (told_line head) told) ≡ cond (has_app_row (map row_told told)) head.sctp_init None
unfolding init_in_lines
init_told_lines head [] = refl
init_told_lines head (one ∷ told) = by one.row (init_told_lines head told)
  where
    by : (row : LineRow) → init_in_lines (map (told_line head) told) ≡ cond (has_app_row (map row_told told)) head.sctp_init None
        → init_in_lines (row_line head one.media row ∷ map (told_line head) told) ≡ cond (has_app_row (row ∷ map row_told told)) head.sctp_init None
    by (Media place mid Audio dir stopped remote_created) rest = rest
    by (Media place mid Video dir stopped remote_created) rest = rest
    by (App place mid) rest = refl

-- a session description tells the text of its head where it has such a line
pub rows_init : (head : SdpHead) (told : List ToldRow) → sdp_sctp_init (sdp_of_rows head told) ≡ cond (has_app_row (map row_told told)) head.sctp_init None
unfolding init_in_lines
rows_init head told = init_with head.candidates (map (told_line head) told) ∙ init_told_lines head told

pub app_in_front : (rows more : List LineRow) → has_app_row rows ≡ true → has_app_row (rows ++ more) ≡ true
app_in_front [] more has = absurd (cc)
app_in_front (Media place mid kind dir stopped remote_created ∷ rows) more has = app_in_front rows more has
app_in_front (App place mid ∷ rows) more has = refl

-- ---- what is kept of a start

-- nothing of a start is kept but that of the halves that begin it
pub begun_none : (has inited drops : Bool) (halves : Option InitHalves) (snap : KeptHalves) → (has && not inited) ≡ false
    → (begun_by (has && not inited) halves drops snap).started ≡ snap.started
begun_none has inited drops halves snap none = by drops (has && not inited) none
  where
    by : (drops needed : Bool) → needed ≡ false → (begun_by needed halves drops snap).started ≡ snap.started
    by true false is = refl
    by false false is = refl
    by drops true is = absurd (cc)

pub begun_with : (needed drops : Bool) (halves : Option InitHalves) (snap : KeptHalves) → needed ≡ true → (begun_by needed halves drops snap).started ≡ halves
begun_with true drops halves snap is = refl
begun_with false drops halves snap is = absurd (cc)

pub never_twice : (has inited : Bool) → inited ≡ true → (has && not inited) ≡ false
never_twice true inited is = ap not is
never_twice false inited is = refl

-- ---- halves that are read back

-- this side's half among those that are pending, if it is there, is read back
abbrev pub HasReadHalf : Option InitHalves → Type 0
HasReadHalf pending = IfSome pending (λ halves. IfSome halves.local IsReadBack)

half_read : (half : List ℕ) (local : Option (List ℕ)) → IsReadBack half → IfSome local IsReadBack → IsReadBack (half_or half local)
half_read half None drawn reads = drawn
half_read half (Some own) drawn reads = reads

pending_read : (limit : ℕ) (pending : Option InitHalves) → HasReadHalf pending → IfSome (halves_or_none limit pending).local IsReadBack
pending_read limit None reads = tt
pending_read limit (Some halves) reads = reads

own_read : (s : Stance) (half : List ℕ) → IsReadBack half → HasReadHalf s.snap.pending → IsReadBack (half_or half (pending_halves s).local)
own_read s half drawn reads = half_read half (pending_halves s).local drawn (pending_read s.max_message_size s.snap.pending reads)

-- the halves that are pending behind an offer are read back too
pub told_read : (told : Bool) (s : Stance) (half : List ℕ) → IsReadBack half → HasReadHalf s.snap.pending → HasReadHalf (kept_told told s half).pending
told_read true s half drawn reads = own_read s half drawn reads
told_read false s half drawn reads = reads

pub begun_read : (needed drops : Bool) (halves : Option InitHalves) (snap : KeptHalves) → HasReadHalf snap.pending → HasReadHalf (begun_by needed halves drops snap).pending
begun_read true drops halves snap reads = tt
begun_read false true halves snap reads = tt
begun_read false false halves snap reads = reads

-- ---- what an offer tells

-- the text that is told, if any, is that of the half that is pending
abbrev pub IsPendingTold : Option InitHalves → Option (List ℕ) → Type 0
IsPendingTold pending None = Unit {0}
IsPendingTold None (Some text) = ⊥
IsPendingTold (Some halves) (Some text) = (half : List ℕ) × (halves.local ≡ Some half) × IsReadBack half × (text ≡ chunk_text half)

-- a side whose association is started tells its own half of that, another one the half that is pending
abbrev pub TellsHalf : (inited : Bool) → KeptHalves → Option (List ℕ) → Type 0
TellsHalf true snap told = told ≡ text_in local_text snap.started
TellsHalf false snap told = IsPendingTold snap.pending told

pending_told : (tells has : Bool) (s : Stance) (half : List ℕ) → IsReadBack half → HasReadHalf s.snap.pending → s.snap.started ≡ None
    → IsPendingTold (kept_told tells s half).pending (cond has (init_told tells s half) None)
pending_told true true s half drawn reads none = (half_or half (pending_halves s).local, refl, own_read s half drawn reads, refl)
pending_told true false s half drawn reads none = tt
pending_told false true s half drawn reads none = rw none tt
pending_told false false s half drawn reads none = tt

-- what an offer tells that may tell this side's half, by whether the association is started
pub offer_tells : (inited tells has : Bool) (s : Stance) (half : List ℕ) → (inited ≡ true → (tells ≡ false) × (has ≡ true)) → (inited ≡ false → s.snap.started ≡ None)
    → IsReadBack half → HasReadHalf s.snap.pending → TellsHalf inited (kept_told tells s half) (cond has (init_told tells s half) None)
offer_tells true tells has s half known none drawn reads = let both = known refl in rw (both.0, both.1) refl
offer_tells false tells has s half known none drawn reads = pending_told tells has s half drawn reads (none refl)

-- ---- what an answer tells

-- the chunk of the other side in these halves is the half that is pending
abbrev pub IsJoinedTo : Option InitHalves → InitHalves → Type 0
IsJoinedTo None halves = ⊥
IsJoinedTo (Some pending) halves = (half : List ℕ) × (pending.local ≡ Some half) × (halves.remote ≡ Some half)

-- the text that is told is that of this side's half among these
abbrev pub IsHalfTold : InitHalves → Option (List ℕ) → Type 0
IsHalfTold halves told = (half : List ℕ) × (halves.local ≡ Some half) × IsReadBack half × (told ≡ Some (chunk_text half))

-- The side that answered has these halves of a start, and tells its own; the side that offered has that which it told.
abbrev pub AnswersPending : Option InitHalves → Option InitHalves → (says : Bool) → Option (List ℕ) → Type 0
AnswersPending pending None says told = told ≡ None
AnswersPending pending (Some halves) says told = IsJoinedTo pending halves × (says ≡ true) × IsHalfTold halves told

abbrev pub AnswersHalf : (inited : Bool) → KeptHalves → Option InitHalves → (says : Bool) → Option (List ℕ) → Type 0
AnswersHalf true snap theirs says told = AreJoined snap.started theirs × (told ≡ text_in local_text theirs)
AnswersHalf false snap theirs says told = AnswersPending snap.pending theirs says told

pub joined_answer : (pending : Option InitHalves) (s : Stance) (half : List ℕ) (told : Option (List ℕ)) (says : Bool) → IsPendingTold pending told
    → IsReadBack half → HasReadHalf s.snap.pending → says ≡ is_some told
    → AnswersPending pending (joined_by s half (told_chunk false true told)) says (text_in local_text (joined_by s half (told_chunk false true told)))
joined_answer pending s half None says pended drawn reads same = refl
joined_answer None s half (Some text) says pended drawn reads same = absurd pended
joined_answer (Some halves) s half (Some text) says pended drawn reads same =
    let chunk : chunk_of_text text ≡ Some pended.0 = ap chunk_of_text pended.3 ∙ pended.2 in
    rw chunk (
      (pended.0, pended.1, refl),
      same,
      (half_or half (pending_halves s).local, refl, own_read s half drawn reads, refl),
    )

-- ---- what the side that offered then keeps

own_half : (limit : ℕ) (pending : Option InitHalves) (half : List ℕ) (halves : InitHalves) → IsJoinedTo pending halves
    → halves.remote ≡ Some (half_or half (halves_or_none limit pending).local)
own_half limit None half halves joined = absurd joined
own_half limit (Some own) half halves joined = joined.2 ∙ ap (λ (local : Option (List ℕ)). Some (half_or half local)) (sym joined.1)

-- it takes the half that the answer tells, and has the one that it told
pub joined_end : (s : Stance) (half : List ℕ) (halves : InitHalves) (says : Bool) (told : Option (List ℕ)) → IsJoinedTo s.snap.pending halves → says ≡ true → IsHalfTold halves told
    → AreJoined (joined_by s half (told_chunk false says told)) (Some halves)
joined_end s half halves says told joined may tells =
    let chunk : told_chunk false says told ≡ Some tells.0 =
    ap (λ b. told_chunk false b told) may ∙ ap (λ text. told_chunk false true text) tells.3 ∙ tells.2 in
    rw chunk (refl, sym tells.1, own_half s.max_message_size s.snap.pending half halves joined)

-- an answer that tells none joins nothing
pub none_end : (s : Stance) (half : List ℕ) (says : Bool) (told : Option (List ℕ)) → told ≡ None → joined_by s half (told_chunk false says told) ≡ None
none_end s half true told none = rw none refl
none_end s half false told none = refl

both_swapped : (a b : Bool) → (a && b) ≡ true → (b && a) ≡ true
both_swapped true true is = refl
both_swapped true false is = absurd (cc)
both_swapped false b is = absurd (cc)

pub joined_sym : (mine theirs : Option InitHalves) → AreJoined mine theirs → AreJoined theirs mine
joined_sym None None joined = tt
joined_sym (Some mine) (Some theirs) joined =
    let whole : is_whole theirs ≡ true =
    ap (λ half. is_some half && is_some theirs.remote) (sym joined.1) ∙ ap (λ half. is_some mine.remote && is_some half) joined.2
    ∙ both_swapped (is_some mine.local) (is_some mine.remote) joined.0 in
    (whole, joined.2, joined.1)
joined_sym None (Some theirs) joined = absurd joined
joined_sym (Some mine) None joined = absurd joined

-- ---- nothing that is told so is refused

same_init : (kept : Option (List ℕ)) → init_refusal true kept kept ≡ None
same_init None = refl
same_init (Some text) = rw ((bytes_eq-Decides text text).1 refl) refl

pub init_passes : (inited : Bool) (mine theirs : Option InitHalves) (told : Option (List ℕ))
    → (inited ≡ true → AreJoined mine theirs × (told ≡ text_in local_text theirs)) → init_refusal inited (text_in remote_text mine) told ≡ None
init_passes false mine theirs told known = refl
init_passes true None None told known = refl
init_passes true (Some mine) (Some theirs) told known =
    let both = known refl in
    let same : told ≡ option_map chunk_text mine.remote = both.1 ∙ ap (λ (half : Option (List ℕ)). option_map chunk_text half) (sym both.0.1) in
    rw same (same_init (option_map chunk_text mine.remote))
init_passes true None (Some theirs) told known = absurd (known refl).0
init_passes true (Some mine) None told known = absurd (known refl).0
