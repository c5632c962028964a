-- What an end keeps of SNAP: whether it is enabled, the pending INIT chunks, and those that the association was started with.
use Rattle.std.specs.Prelude.{ℕ, ◌≡◌, Bool, true, false, List, Option, Some, None, if◌then◌else◌, is_some, Result, Ok, Err}
use Rattle.std.specs.declared.alloc.AllocError.{AllocError}
use Rattle.rtc_parts.specs.Draws.{Draws}
use Rattle.rtc_sctp_values.specs.InitChunk.{chunk_of_text}
use Rattle.rtc_sctp_values.specs.InitHalves.{InitHalves, no_halves, is_whole, with_remote, local_text, remote_text, with_local, after_half}

pub record KeptHalves : Type 0 where
  pub enabled : Bool
  pub pending : Option InitHalves
  -- those of an Ok start that had them
  pub started : Option InitHalves

abbrev pub nothing_kept : KeptHalves
nothing_kept = record { enabled = false; pending = None; started = None }

-- the pending chunks, or else empty ones
abbrev pub halves_or_none : (limit : ℕ) → Option InitHalves → InitHalves
halves_or_none limit None = no_halves limit
halves_or_none limit (Some halves) = halves

-- if SNAP is enabled, there are pending chunks until the association is started
abbrev pub pending_once_enabled : (is_started : Bool) → (limit : ℕ) → Option InitHalves → Option InitHalves
pending_once_enabled true limit pending = pending
pending_once_enabled false limit pending = Some (halves_or_none limit pending)

abbrev pub enabled_halves : (is_started : Bool) → (limit : ℕ) → KeptHalves → KeptHalves
enabled_halves is_started limit kept = record kept { enabled = true; pending = pending_once_enabled is_started limit kept.pending }

-- the pending chunks are dropped; whether SNAP is enabled is unchanged
abbrev pub without_pending : KeptHalves → KeptHalves
without_pending kept = record kept { pending = None }

-- the association is started, with these chunks or with none
abbrev pub begun_halves : Option InitHalves → KeptHalves → KeptHalves
begun_halves halves kept = record kept { pending = None; started = halves }

-- the chunks that descriptions show: those of the start, or else the pending ones
abbrev pub shown_of : (started pending : Option InitHalves) → Option InitHalves
shown_of None pending = pending
shown_of (Some halves) pending = Some halves

abbrev pub text_in : (InitHalves → Option (List ℕ)) → Option InitHalves → Option (List ℕ)
text_in text None = None
text_in text (Some halves) = text halves

-- the texts of the chunks that are shown
abbrev pub shown_local : KeptHalves → Option (List ℕ)
shown_local kept = text_in local_text (shown_of kept.started kept.pending)

abbrev pub shown_remote : KeptHalves → Option (List ℕ)
shown_remote kept = text_in remote_text (shown_of kept.started kept.pending)

-- the pending chunks, if both are there
abbrev pub whole_halves : Option InitHalves → Option InitHalves
whole_halves None = None
whole_halves (Some halves) = if is_whole halves then Some halves else None

-- the text of the other end is received: if it is no base64, the pending chunks are dropped
abbrev pub TakesRemote : Option (List ℕ) → (limit : ℕ) → KeptHalves → Result Bool AllocError → KeptHalves → Type 0
TakesRemote chunk limit kept (Ok true) kept' =
    (bytes : List ℕ) × (chunk ≡ Some bytes)
    × (kept' ≡ record kept { pending = Some (with_remote bytes (halves_or_none limit kept.pending)) })
TakesRemote chunk limit kept (Ok false) kept' = (chunk ≡ None) × (kept' ≡ without_pending kept)
TakesRemote chunk limit kept (Err e) kept' = kept' ≡ kept

abbrev pub KeepsRemote : List ℕ → (limit : ℕ) → KeptHalves → Result Bool AllocError → KeptHalves → Type 0
KeepsRemote text limit kept r kept' = TakesRemote (chunk_of_text text) limit kept r kept'

module _ {N : Type 0} (draws : Draws N) where
  -- the pending chunk of this end is drawn if it is missing, in chunks that are made if none are pending; if memory runs out, nothing
  -- changes and nothing is drawn
  abbrev pub DrawsPending : (limit : ℕ) → KeptHalves → N → Result (Unit {0}) AllocError → KeptHalves → N → Type 0
  DrawsPending limit kept ids (Ok x) kept' ids' =
      (kept' ≡ record kept { pending = Some (with_local draws (halves_or_none limit kept.pending) ids) })
      × (ids' ≡ after_half draws (halves_or_none limit kept.pending).local ids)
  DrawsPending limit kept ids (Err e) kept' ids' = (kept' ≡ kept) × (ids' ≡ ids)

  -- this end's chunk is there afterwards: one that the association was started with, or else a pending one
  abbrev pub EnsuresBy : (is_begun : Bool) → (limit : ℕ) → KeptHalves → N → Result (Unit {0}) AllocError → KeptHalves → N → Type 0
  EnsuresBy true limit kept ids r kept' ids' = (r ≡ Ok tt) × (kept' ≡ kept) × (ids' ≡ ids)
  EnsuresBy false limit kept ids r kept' ids' = DrawsPending limit kept ids r kept' ids'

  abbrev pub EnsuresLocal : (limit : ℕ) → KeptHalves → N → Result (Unit {0}) AllocError → KeptHalves → N → Type 0
  EnsuresLocal limit kept ids r kept' ids' = EnsuresBy (is_some kept.started) limit kept ids r kept' ids'

  -- the chunks of a start with this one of the other end: the pending ones, or else empty ones; this end's is drawn if it is missing
  abbrev pub joined_halves : (limit : ℕ) → KeptHalves → List ℕ → N → InitHalves
  joined_halves limit kept chunk ids = with_local draws (with_remote chunk (halves_or_none limit kept.pending)) ids

  abbrev pub after_joined : (limit : ℕ) → KeptHalves → N → N
  after_joined limit kept ids = after_half draws (halves_or_none limit kept.pending).local ids

  -- the same if there is such a chunk
  abbrev pub halves_of : (limit : ℕ) → KeptHalves → Option (List ℕ) → N → Option InitHalves
  halves_of limit kept None ids = None
  halves_of limit kept (Some chunk) ids = Some (joined_halves limit kept chunk ids)

  abbrev pub after_halves_of : (limit : ℕ) → KeptHalves → Option (List ℕ) → N → N
  after_halves_of limit kept None ids = ids
  after_halves_of limit kept (Some chunk) ids = after_joined limit kept ids
