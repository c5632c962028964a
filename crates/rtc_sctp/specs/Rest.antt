-- Entries that have nothing to do. The type invariant of the streams cites this file, and no clause of a public call does.
use Rattle.std.specs.Prelude.{ℕ, ◌≡◌, ◌⊎◌, ◌==◌, ◌&&◌, ◌||◌, ◌+◌, nat_lt, not, if◌then◌else◌, Bool, true, false, List, [], ◌∷◌}
use Rattle.std.specs.List.{list_any}
use Rattle.rtc_parts.specs.Among.{Member}
use Rattle.rtc_parts.specs.declared.assoc_event.AssocEvent.{AssocEvent}
use Rattle.rtc_parts.specs.declared.assoc_event.AssocEvent.TheVariants as assoc
use Rattle.rtc_parts.specs.AssociationMeaning.{AssociationMeaning}
use Rattle.rtc_sctp_values.specs.StreamIds.{StreamIds, has_id}
use Rattle.rtc_sctp_entries.specs.declared.stream_entry_state.StreamEntryState.{StreamEntryState}
use Rattle.rtc_sctp_entries.specs.declared.stream_entry_state.StreamEntryState.TheVariants.{AwaitOpen, AwaitConfig}
use Rattle.rtc_sctp_entries.specs.declared.stream_entry_state.StreamEntryState.TheVariants.{AwaitDcepAck, Open, Closed}
use Rattle.rtc_sctp_entries.specs.declared.stream_entry.StreamEntry.{StreamEntry}
use Rattle.rtc_sctp_entries.specs.declared.met.Met.{Met}
use Rattle.rtc_sctp_entries.specs.Entries.{Ascend, is_entry_of, is_closed_state, is_desired, is_retrying}
use Rattle.rtc_sctp_entries.specs.StreamLaws.{is_nothing_met}
use Rattle.rtc_sctp_entries.specs.Visits.{is_entry_there}
use Rattle.rtc_sctp.specs.declared.agenda.Agenda.{Agenda}

-- an event of a stream after which its entry may have something to do
abbrev pub IsTouched : ℕ → AssocEvent → Type 0
IsTouched id assoc.Connected = ⊥
IsTouched id assoc.Lost = ⊥
IsTouched id (assoc.Readable own) = own ≡ id
IsTouched id (assoc.Writable own) = own ≡ id
IsTouched id (assoc.Finished own) = own ≡ id
IsTouched id (assoc.ResetComplete own) = own ≡ id
IsTouched id (assoc.BufferedAmountLow own) = ⊥

-- an event is due after which a stream may have a message to read, or be gone
abbrev pub IsWoken : ℕ → List AssocEvent → Type 0
IsWoken id due = Member (assoc.Readable id) due ⊎ Member (assoc.ResetComplete id) due

-- whether a visit that met this leaves nothing to do to an entry of this state
abbrev pub is_done : StreamEntryState → Met → Bool
is_done AwaitOpen met = false
is_done AwaitConfig met = is_nothing_met met
is_done AwaitDcepAck met = is_nothing_met met
is_done Open met = is_nothing_met met
is_done Closed met = true

abbrev pub is_retrying_of : ℕ → StreamEntry → Bool
is_retrying_of id entry = entry.id == id && is_retrying entry

-- each stream whose opening is tried again is in a set
abbrev pub AreNoted : StreamIds → List StreamEntry → Type 0
AreNoted ids [] = Unit {0}
AreNoted ids (entry ∷ entries) = (is_retrying entry ≡ true → has_id entry.id ids ≡ true) × AreNoted ids entries

-- no entry is closed
abbrev pub AreUnclosed : List StreamEntry → Type 0
AreUnclosed [] = Unit {0}
AreUnclosed (entry ∷ entries) = (is_closed_state entry.state ≡ false) × AreUnclosed entries

-- whether a stream has an entry
abbrev pub has_entry : ℕ → List StreamEntry → Bool
has_entry id entries = list_any (is_entry_of id) entries

module _ {S : Type 0} (m : AssociationMeaning S) where
  -- whether something may not be acknowledged of a stream: it is not there, or has a buffered amount
  abbrev pub may_buffer : S → ℕ → Bool
  may_buffer a id = not (m.has_stream a id) || nat_lt 0 (m.buffered a id)

  -- all of each stream is acknowledged that has an entry and is not in a set
  abbrev pub AreCounted : S → StreamIds → List StreamEntry → Type 0
  AreCounted a ids entries = (id : ℕ) → has_entry id entries ≡ true → has_id id ids ≡ false → m.unacknowledged a id ≡ 0

  -- the buffered amount of a stream, if it has an entry
  abbrev pub entry_amount : S → ℕ → List StreamEntry → ℕ
  entry_amount a id [] = 0
  entry_amount a id (entry ∷ entries) = (if entry.id == id then m.buffered a id else 0) + entry_amount a id entries

  -- An entry is not to be closed and has no threshold to hand over. Its stream is there, with nothing unread, unless an
  -- event is due that brings its id back.
  pub record Rests (a : S) (entry : StreamEntry) : Type 0 where
    pub unmarked : entry.marked ≡ false
    pub handed : is_desired entry.threshold ≡ false
    pub there : (is_entry_there m a entry ≡ true) ⊎ IsWoken entry.id (m.due a)
    pub read : m.has_unread a entry.id (m.generation a entry.id) ≡ true → IsWoken entry.id (m.due a)

  abbrev pub RestsIn : StreamEntryState → S → StreamEntry → Type 0
  RestsIn AwaitOpen a entry = ⊥
  RestsIn AwaitConfig a entry = Rests a entry
  RestsIn AwaitDcepAck a entry = Rests a entry
  RestsIn Open a entry = Rests a entry
  RestsIn Closed a entry = Unit {0}

  abbrev pub AtRest : S → StreamEntry → Type 0
  AtRest a entry = RestsIn entry.state a entry

  -- each entry whose id is not in a set is at rest
  abbrev pub OthersRest : S → StreamIds → List StreamEntry → Type 0
  OthersRest a ids [] = Unit {0}
  OthersRest a ids (entry ∷ entries) = (has_id entry.id ids ≡ false → AtRest a entry) × OthersRest a ids entries

  -- the entries stand in order, those left out are at rest, none is closed unless it is noted that one may be, and all of those is
  -- acknowledged of which nothing is noted
  pub record AreTended (a : S) (entries : List StreamEntry) (agenda : Agenda) : Type 0 where
    pub ascend : Ascend entries
    pub rest : OthersRest a agenda.streams entries
    pub unclosed_all : agenda.closed ≡ false → AreUnclosed entries
    pub counted : AreCounted a agenda.buffered entries
