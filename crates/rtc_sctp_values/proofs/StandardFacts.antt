-- The chunk of an end, its text and the texts that are refused, computed.
use Rattle.std.proofs.Common.{◌≡◌, ℕ, ◌+◌, ◌%◌, ◌^◌, true, false, [], ◌∷◌, Some, None, Ok, codes, refl}
use Rattle.base64.specs.Rfc4648.{encode_symbols}
use Rattle.base64.specs.Decode.{groups_error, groups_bytes, scan_steps}
use Rattle.base64.specs.GeneralPurpose.{decoded_of}
use Rattle.rtc_parts.specs.Draws.{Draws}
use Rattle.rtc_sctp_values.specs.InitChunk.{receive_budget, nonzero_tag, init_chunk, chunk_text, chunk_of_text, drawn_chunk}
use Rattle.rtc_sctp_values.specs.InitHalves.{no_halves, with_local, local_text}
use Rattle.rtc_sctp_values.specs.SnapHalves.{KeptHalves, nothing_kept, enabled_halves, shown_local, whole_halves, KeepsRemote, EnsuresLocal}

-- numbers that count up
abbrev counting : Draws ℕ
counting = record { drawn = λ n. n; after = λ n. (n + 1) % 2 ^ 64 }

-- the window is 1 MiB, or the longest message where that is more; 0 means any message
pub budgets : (receive_budget 262_144 ≡ 1_048_576) × (receive_budget 2_097_152 ≡ 2_097_152) × (receive_budget 0 ≡ 4_294_967_295)
budgets = (refl, refl, refl)

-- a tag of 0 is none
pub tags : (nonzero_tag 0 ≡ 1) × (nonzero_tag 7 ≡ 7)
tags = (refl, refl)

-- the chunk of an end whose source counts from 1, and its text
pub first_chunk : drawn_chunk counting 262_144 1 ≡ 1 ∷ 0 ∷ 0 ∷ 20 ∷ 0 ∷ 0 ∷ 0 ∷ 1 ∷ 0 ∷ 16 ∷ 0 ∷ 0 ∷ 255 ∷ 255 ∷ 255 ∷ 255 ∷ 0 ∷ 0 ∷ 0 ∷ 2 ∷ []
unfolding init_chunk
first_chunk = refl

pub first_text : local_text (with_local counting (no_halves 262_144) 1) ≡ Some (codes "AQAAFAAAAAEAEAAA/////wAAAAI=")
unfolding init_chunk chunk_text encode_symbols
first_text = refl

-- one of a source that counts from 4
pub fourth_text : local_text (with_local counting (no_halves 262_144) 4) ≡ Some (codes "AQAAFAAAAAQAEAAA/////wAAAAU=")
unfolding init_chunk chunk_text encode_symbols
fourth_text = refl

-- a source that wraps: the tag would be 0
pub wrapped : drawn_chunk counting 0 (2 ^ 32) ≡ 1 ∷ 0 ∷ 0 ∷ 20 ∷ 0 ∷ 0 ∷ 0 ∷ 1 ∷ 255 ∷ 255 ∷ 255 ∷ 255 ∷ 255 ∷ 255 ∷ 255 ∷ 255 ∷ 0 ∷ 0 ∷ 0 ∷ 1 ∷ []
unfolding init_chunk
wrapped = refl

-- the texts of one byte
pub byte_texts : (chunk_of_text (codes "AQ==") ≡ Some (1 ∷ [])) × (chunk_of_text (codes "Ag==") ≡ Some (2 ∷ [])) × (chunk_of_text [] ≡ Some [])
unfolding chunk_of_text groups_error groups_bytes scan_steps decoded_of
byte_texts = (refl, refl, refl)

-- letters outside the alphabet, a text without its padding or with too much, bits left over, and the other alphabet
pub refused_texts : (chunk_of_text (codes "!!!") ≡ None) × (chunk_of_text (codes "AQ") ≡ None) × (chunk_of_text (codes "AQ=") ≡ None)
    × (chunk_of_text (codes "AQ===") ≡ None) × (chunk_of_text (codes "AR==") ≡ None) × (chunk_of_text (codes "__8=") ≡ None)
unfolding chunk_of_text groups_error groups_bytes scan_steps decoded_of
refused_texts = (refl, refl, refl, refl, refl, refl)

-- an end that may be started so, and is not started
abbrev enabled : KeptHalves
enabled = enabled_halves false 262_144 nothing_kept

-- what it keeps where a text was refused
abbrev refused : KeptHalves
refused = record enabled { pending = None }

-- a text that is refused lets the pending halves go: the end may still be started so, and half of it is drawn anew
pub half_after_refusal : KeepsRemote (codes "!!!") 262_144 enabled (Ok false) refused
    × (refused.enabled ≡ true)
    × (shown_local refused ≡ None)
unfolding chunk_of_text groups_error groups_bytes scan_steps decoded_of
half_after_refusal = ((refl, refl), refl, refl)

pub half_drawn_anew : (kept : KeptHalves) (ids : ℕ) → EnsuresLocal counting 262_144 refused 1 (Ok tt) kept ids
    → (kept.enabled ≡ true) × (shown_local kept ≡ Some (codes "AQAAFAAAAAEAEAAA/////wAAAAI=")) × (whole_halves kept.pending ≡ None)
unfolding init_chunk chunk_text encode_symbols
half_drawn_anew kept ids h = rw h.0 (refl, refl, refl)
