-- Which SNAP INIT chunks offers and answers carry, and what is taken of them (draft-hancke-tsvwg-snap).
use Rattle.std.specs.Prelude.{ℕ, ◌&&◌, ◌||◌, not, Bool, true, false, List, Option, Some, None, is_some}
use Rattle.rtc_peer_rows.specs.Table.{app_of}
use Rattle.rtc_change.specs.PendingOffer.{contains_add_app}
use Rattle.rtc_sctp_values.specs.InitChunk.{chunk_of_text}
use Rattle.rtc_sctp_values.specs.InitHalves.{InitHalves, with_remote, local_text}
use Rattle.rtc_sctp_values.specs.SnapHalves.{KeptHalves, halves_or_none, text_in}
use Rattle.rtc_peer_core.specs.Stance.{Stance}

-- this side's chunk that is there, or else a drawn one
abbrev pub half_or : List ℕ → Option (List ℕ) → List ℕ
half_or drawn None = drawn
half_or drawn (Some chunk) = chunk

abbrev pub with_own : List ℕ → InitHalves → InitHalves
with_own drawn halves = record halves { local = Some (half_or drawn halves.local) }

-- the pending chunks, or else empty ones
abbrev pub pending_halves : Stance → InitHalves
pending_halves s = halves_or_none s.max_message_size s.snap.pending

-- ---- offers
-- whether the offer of what is staged carries this side's SNAP INIT chunk: the association is not started, SNAP is enabled, and
-- there is an m-line of data channels, or one is staged
abbrev pub tells_half : Stance → Bool
tells_half s = not s.inited && (s.snap.enabled && (is_some (app_of s.lines) || contains_add_app s.staged))

-- whether the chunk that it carries is drawn
abbrev pub draws_half : Stance → Bool
draws_half s = tells_half s && not (is_some (pending_halves s).local)

-- the text that an offer carries: that of the chunk, or once the association was started by both chunks, that of the one that it was
-- started with
abbrev pub init_told : Bool → Stance → List ℕ → Option (List ℕ)
init_told true s drawn = local_text (with_own drawn (pending_halves s))
init_told false s drawn = text_in local_text s.snap.started

abbrev pub offer_init : Stance → List ℕ → Option (List ℕ)
offer_init s drawn = init_told (tells_half s) s drawn

-- what is kept once it was made: the chunk is pending
abbrev pub kept_told : Bool → Stance → List ℕ → KeptHalves
kept_told true s drawn = record s.snap { pending = Some (with_own drawn (pending_halves s)) }
kept_told false s drawn = s.snap

abbrev pub offered_snap : Stance → List ℕ → KeptHalves
offered_snap s drawn = kept_told (tells_half s) s drawn

-- ---- acceptances
-- the chunk that a session description carries for a start: in base64, before the association is started, and in an answer only if its
-- offer carried one too
abbrev pub told_chunk : (inited may : Bool) → Option (List ℕ) → Option (List ℕ)
told_chunk true may told = None
told_chunk false false told = None
told_chunk false true None = None
told_chunk false true (Some text) = chunk_of_text text

-- the chunks of a start with one of the other side
abbrev pub joined_by : Stance → List ℕ → Option (List ℕ) → Option InitHalves
joined_by s drawn None = None
joined_by s drawn (Some chunk) = Some (with_own drawn (with_remote chunk (pending_halves s)))

-- the text that an answer carries: that of a start with these chunks, or once the association is started, that of the chunk that it was
-- started with
abbrev pub answer_init : (inited : Bool) → KeptHalves → Option InitHalves → Option (List ℕ)
answer_init true kept halves = text_in local_text kept.started
answer_init false kept halves = text_in local_text halves
