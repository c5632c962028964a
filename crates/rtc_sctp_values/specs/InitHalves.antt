-- The SNAP INIT chunks of both ends, and what the calls on them do.
use Rattle.std.specs.Prelude.{ℕ, ◌≡◌, ◌&&◌, Bool, List, [], Option, Some, None, is_some, option_map, Result, Ok, Err, nat_eq}
use Rattle.std.specs.Cmp.{IsEquivalence, and_equiv, on_equiv, nat_eq_equiv}
use Rattle.std.specs.Cmp.Lexicographic.{pointwise, nat_list_eq_equiv, options_equiv}
use Rattle.std.specs.Option.{option_eq}
use Rattle.std.specs.Ordering.{on, eq_of_both}
use Rattle.std.specs.declared.alloc.AllocError.{AllocError}
use Rattle.rtc_parts.specs.Draws.{Draws}
use Rattle.rtc_sctp_values.specs.declared.sctp_error.SctpError.{SctpError}
use Rattle.rtc_sctp_values.specs.declared.sctp_error.SctpError.TheVariants as sctp
use Rattle.rtc_sctp_values.specs.InitChunk.{chunk_text, chunk_of_text, drawn_chunk, after_chunk}

pub record InitHalves : Type 0 where
  -- the chunk of this end, and that of the other one
  pub local : Option (List ℕ)
  pub remote : Option (List ℕ)
  -- the longest message that this end takes, in bytes
  pub limit : ℕ

-- equal halves have the same chunks and the same limit
abbrev pub same_halves : InitHalves → InitHalves → Bool
same_halves =
    eq_of_both (on (λ (h : InitHalves). h.local) (option_eq (pointwise nat_eq)))
    (eq_of_both (on (λ (h : InitHalves). h.remote) (option_eq (pointwise nat_eq))) (on (λ (h : InitHalves). h.limit) nat_eq))

pub same_halves_equiv : IsEquivalence same_halves
same_halves_equiv =
    and_equiv (on_equiv (λ (h : InitHalves). h.local) (options_equiv nat_list_eq_equiv))
    (and_equiv (on_equiv (λ (h : InitHalves). h.remote) (options_equiv nat_list_eq_equiv))
    (on_equiv (λ (h : InitHalves). h.limit) nat_eq_equiv))

abbrev pub no_halves : (limit : ℕ) → InitHalves
no_halves limit = record { local = None; remote = None; limit = limit }

-- both chunks are there
abbrev pub is_whole : InitHalves → Bool
is_whole halves = is_some halves.local && is_some halves.remote

abbrev pub with_remote : List ℕ → InitHalves → InitHalves
with_remote chunk halves = record halves { remote = Some chunk }

-- the bytes of a chunk, of which there are none if it is missing
abbrev pub half_bytes : Option (List ℕ) → List ℕ
half_bytes None = []
half_bytes (Some chunk) = chunk

-- the texts of the chunks that are there
abbrev pub local_text : InitHalves → Option (List ℕ)
local_text halves = option_map chunk_text halves.local

abbrev pub remote_text : InitHalves → Option (List ℕ)
remote_text halves = option_map chunk_text halves.remote

-- a text is set as the other end's chunk; one that is no base64 is refused, and then nothing changes
abbrev pub TakesText : Option (List ℕ) → InitHalves → Result (Unit {0}) SctpError → InitHalves → Type 0
TakesText chunk halves (Ok x) halves' = (bytes : List ℕ) × (chunk ≡ Some bytes) × (halves' ≡ with_remote bytes halves)
TakesText chunk halves (Err sctp.InvalidSnap) halves' = (chunk ≡ None) × (halves' ≡ halves)
TakesText chunk halves (Err sctp.Alloc) halves' = halves' ≡ halves
TakesText chunk halves (Err e) halves' = ⊥

abbrev pub SetsRemoteText : List ℕ → InitHalves → Result (Unit {0}) SctpError → InitHalves → Type 0
SetsRemoteText text halves r halves' = TakesText (chunk_of_text text) halves r halves'

module _ {N : Type 0} (draws : Draws N) where
  -- this end's chunk: the one that is there, or else a drawn one
  abbrev pub local_half : Option (List ℕ) → (limit : ℕ) → N → List ℕ
  local_half None limit ids = drawn_chunk draws limit ids
  local_half (Some chunk) limit ids = chunk

  abbrev pub after_half : Option (List ℕ) → N → N
  after_half None ids = after_chunk draws ids
  after_half (Some chunk) ids = ids

  abbrev pub with_local : InitHalves → N → InitHalves
  with_local halves ids = record halves { local = Some (local_half halves.local halves.limit ids) }

  -- this end's chunk is there afterwards; if memory runs out, nothing changes and nothing is drawn
  abbrev pub DrawsLocal : InitHalves → N → Result (Unit {0}) AllocError → InitHalves → N → Type 0
  DrawsLocal halves ids (Ok x) halves' ids' = (halves' ≡ with_local halves ids) × (ids' ≡ after_half halves.local ids)
  DrawsLocal halves ids (Err e) halves' ids' = (halves' ≡ halves) × (ids' ≡ ids)

  -- what is left if memory runs out while this end's chunk is asked for: it may be there
  abbrev pub MayDrawLocal : InitHalves → N → InitHalves → N → Type 0
  MayDrawLocal halves ids halves' ids' = (answer : Result (Unit {0}) AllocError) × DrawsLocal halves ids answer halves' ids'
