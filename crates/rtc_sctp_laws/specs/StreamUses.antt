-- How a stream is used in the generation that it has: what was written and read of it, by the state of its entry.
use Rattle.std.specs.Prelude.{ℕ, ◌≡◌, ◌<◌, ◌++◌, ◌==◌, ◌&&◌, ◌||◌, ◌⊎◌, not, Bool, true, false, List, [], ◌∷◌}
use Rattle.std.specs.Prelude.{Option, Some, is_some, unwrap_or}
use Rattle.std.specs.List.{filter, list_all, list_any}
use Rattle.rtc_parts.specs.AssociationMeaning.{AssociationMeaning}
use Rattle.rtc_sctp_entries.specs.declared.stream_entry_state.StreamEntryState.{StreamEntryState}
use Rattle.rtc_sctp_entries.specs.declared.stream_entry_state.StreamEntryState.TheVariants.{AwaitOpen, AwaitConfig}
use Rattle.rtc_sctp_entries.specs.declared.stream_entry_state.StreamEntryState.TheVariants.{AwaitDcepAck, Open, Closed}
use Rattle.rtc_sctp_entries.specs.declared.stream_entry.StreamEntry.{StreamEntry}
use Rattle.rtc_sctp_entries.specs.declared.sctp_event.SctpEvent.TheVariants as event
use Rattle.rtc_sctp_entries.specs.declared.met.Met.{Met}
use Rattle.rtc_sctp_entries.specs.declared.met.Met.TheVariants.{Nothing, Again, Output, OutOfMemory}
use Rattle.rtc_sctp_entries.specs.Entries.{is_entry_of, is_out_of_band}
use Rattle.rtc_sctp_laws.specs.StreamMessages.{StreamMessage, is_dcep_message, are_dcep}

-- of some messages those of a generation of a stream, in order
abbrev pub is_of_generation : (stream generation : ℕ) → StreamMessage → Bool
is_of_generation s g x = (x.stream == s) && (x.generation == g)

abbrev pub messages_of : (stream generation : ℕ) → List StreamMessage → List StreamMessage
messages_of s g messages = filter (is_of_generation s g) messages

-- whether messages are all of one stream
abbrev pub are_of_stream : ℕ → List StreamMessage → Bool
are_of_stream s messages = list_all (λ (x : StreamMessage). x.stream == s) messages

-- whether the first message is one that opens a channel or acknowledges that (RFC 8832, section 8.1)
abbrev pub begins_with_dcep : List StreamMessage → Bool
begins_with_dcep [] = false
begins_with_dcep (x ∷ messages) = is_dcep_message x

-- whether any of them is
abbrev pub any_dcep : List StreamMessage → Bool
any_dcep messages = list_any is_dcep_message messages

-- the entries of a stream: one at most
abbrev pub entries_of : ℕ → List StreamEntry → List StreamEntry
entries_of s entries = filter (is_entry_of s) entries

-- a list has one entry at most, which is so; or it has none, and that is so
abbrev pub OneAtMost : (none : Type 0) → (one : StreamEntry → Type 0) → List StreamEntry → Type 0
OneAtMost none one [] = none
OneAtMost none one (entry ∷ []) = one entry
OneAtMost none one (entry ∷ other ∷ entries) = ⊥

-- Nothing was written, and no message that opens a channel was read.
abbrev pub IsUnopened : (written heard : List StreamMessage) → Type 0
IsUnopened written heard = (written ≡ []) × (any_dcep heard ≡ false)

-- An open message was written, with no data behind it, and its acknowledgement was not read.
abbrev pub IsAnnounced : (written heard : List StreamMessage) → Type 0
IsAnnounced written heard =
    (are_dcep written ≡ true) × (begins_with_dcep written ≡ true) × (any_dcep heard ≡ false)

-- A channel was opened in-band: a message that opens it, or acknowledges that, was written, and the one of the other end was read last.
-- No data was written yet, and no message that opens a channel was read before.
pub record IsOpened (written heard : List StreamMessage) : Type 0 where
  pub dcep : are_dcep written ≡ true
  pub begins : begins_with_dcep written ≡ true
  pub before : List StreamMessage
  pub last : StreamMessage
  pub last_dcep : is_dcep_message last ≡ true
  pub heard_is : heard ≡ before ++ last ∷ []
  pub none_before : any_dcep before ≡ false

-- an entry is open and keeps this generation
abbrev pub IsLiveIn : ℕ → StreamEntry → Type 0
IsLiveIn g entry = (entry.state ≡ Open) × (entry.generation ≡ Some g)

-- if a stream is reported as open in a generation, it was opened in-band, and its entry is open and keeps that generation; or it was
-- negotiated out-of-band
abbrev pub IsOpenedIn : StreamEntry → (generation : ℕ) → (written heard : List StreamMessage) → Type 0
IsOpenedIn entry g written heard = (is_out_of_band entry ≡ true) ⊎ (IsOpened written heard × IsLiveIn g entry)

abbrev pub WereOpened : List StreamEntry → (generation : ℕ) → (written heard : List StreamMessage) → Type 0
WereOpened [] g written heard = ⊥
WereOpened (entry ∷ entries) g written heard = IsOpenedIn entry g written heard

-- the generation that an entry speaks of: the one that it keeps, if it waits for an acknowledgement, and else the one that its stream has
abbrev pub spoken_generation : StreamEntryState → (own : Option ℕ) → ℕ → ℕ
spoken_generation AwaitOpen own g = g
spoken_generation AwaitConfig own g = g
spoken_generation AwaitDcepAck own g = unwrap_or own g
spoken_generation Open own g = g
spoken_generation Closed own g = g

-- a stream has one entry, which is so
abbrev pub IsLive : (stream generation : ℕ) → List StreamEntry → Type 0
IsLive s g entries = OneAtMost ⊥ (IsLiveIn g) (entries_of s entries)

-- a stream has no entry but one that is closed
abbrev pub IsShutDown : ℕ → List StreamEntry → Type 0
IsShutDown s entries = OneAtMost (Unit {0}) (λ entry. entry.state ≡ Closed) (entries_of s entries)

-- A step leaves a stream live unless it reports its close, and does not report it as open again; of one that ran out of memory nothing is
-- said.
abbrev pub LeavesLive : Met → (stream generation : ℕ) → List StreamEntry → Type 0
LeavesLive OutOfMemory s g entries = Unit {0}
LeavesLive Nothing s g entries = IsLive s g entries
LeavesLive Again s g entries = IsLive s g entries
LeavesLive (Output (event.Close id pending)) s g entries =
    ((id ≡ s → ⊥) × IsLive s g entries) ⊎ ((id ≡ s) × IsShutDown s entries)
LeavesLive (Output (event.Open id label)) s g entries = (id ≡ s → ⊥) × IsLive s g entries
LeavesLive (Output e) s g entries = IsLive s g entries

-- an entry is open for a channel that was not negotiated out-of-band, and keeps this generation, or none if `own` is None
abbrev pub IsOpenInBand : (own : Option ℕ) → StreamEntry → Type 0
IsOpenInBand own entry = (entry.state ≡ Open) × (entry.generation ≡ own) × (is_out_of_band entry ≡ false)

-- a stream has an entry that is so
abbrev pub HasOpenInBand : (stream : ℕ) → (own : Option ℕ) → List StreamEntry → Type 0
HasOpenInBand s own [] = ⊥
HasOpenInBand s own (entry ∷ entries) = ((entry.id ≡ s) × IsOpenInBand own entry) ⊎ HasOpenInBand s own entries

-- a step reports that a stream is open
abbrev pub TellsStreamOpen : Met → ℕ → Type 0
TellsStreamOpen (Output (event.Open id label)) s = id ≡ s
TellsStreamOpen met s = ⊥

-- whether those of some messages that are of a stream are of one generation
abbrev pub are_of_generation : (stream generation : ℕ) → List StreamMessage → Bool
are_of_generation s g messages = list_all (λ (x : StreamMessage). not (x.stream == s) || (x.generation == g)) messages

module _ {S : Type 0} (m : AssociationMeaning S) where
  -- a stream takes no message of its generation any more: this end closed it, or the association is closing or closed
  abbrev pub is_spent_stream : ℕ → S → Bool
  is_spent_stream s a = m.closed_here a s || (m.closing a || m.closed a)

  abbrev pub IsUnused : ℕ → S → (written heard : List StreamMessage) → Type 0
  IsUnused s a written heard = IsUnopened written heard ⊎ (is_spent_stream s a ≡ true)

  -- nothing was written or read, or the stream is spent
  abbrev pub IsIdleStream : ℕ → S → (written heard : List StreamMessage) → Type 0
  IsIdleStream s a written heard = ((written ≡ []) × (heard ≡ [])) ⊎ (is_spent_stream s a ≡ true)

  -- by the state of the entry: of one that is open, and of one that is past its opening and to be closed, nothing is said; one that waits
  -- for an acknowledgement keeps a generation
  abbrev pub IsUsedIn : StreamEntryState → (marked : Bool) → (own : Option ℕ) → ℕ → S → (written heard : List StreamMessage) → Type 0
  IsUsedIn AwaitOpen marked own s a written heard = IsIdleStream s a written heard
  IsUsedIn AwaitConfig true own s a written heard = Unit {0}
  IsUsedIn AwaitConfig false own s a written heard = IsUnused s a written heard
  IsUsedIn AwaitDcepAck true own s a written heard = Unit {0}
  IsUsedIn AwaitDcepAck false own s a written heard = (is_some own ≡ true) × IsAnnounced written heard
  IsUsedIn Open marked own s a written heard = Unit {0}
  IsUsedIn Closed marked own s a written heard = IsIdleStream s a written heard

  -- no message that opens a channel or acknowledges that was written, or the stream is spent
  abbrev pub IsWithoutDcep : ℕ → S → (written : List StreamMessage) → Type 0
  IsWithoutDcep s a written = (any_dcep written ≡ false) ⊎ (is_spent_stream s a ≡ true)

  -- Such messages are written in-band alone: an entry that is open out-of-band wrote none, nor did one that waits for its config. This one,
  -- and one that waits for an acknowledgement, is not out-of-band.
  abbrev pub IsDcepInBand : StreamEntryState → (out_of_band : Bool) → ℕ → S → (written : List StreamMessage) → Type 0
  IsDcepInBand AwaitOpen out s a written = Unit {0}
  IsDcepInBand AwaitConfig out s a written = (out ≡ false) × IsWithoutDcep s a written
  IsDcepInBand AwaitDcepAck out s a written = out ≡ false
  IsDcepInBand Open true s a written = IsWithoutDcep s a written
  IsDcepInBand Open false s a written = Unit {0}
  IsDcepInBand Closed out s a written = Unit {0}

  -- that of the messages of the generation that an entry speaks of
  abbrev pub messages_for : StreamEntryState → (own : Option ℕ) → ℕ → S → List StreamMessage → List StreamMessage
  messages_for state own s a messages = messages_of s (spoken_generation state own (m.generation a s)) messages

  abbrev pub IsUsedBy : StreamEntry → ℕ → S → (written heard : List StreamMessage) → Type 0
  IsUsedBy entry s a written heard =
      IsUsedIn entry.state entry.marked entry.generation s a (messages_for entry.state entry.generation s a written)
      (messages_for entry.state entry.generation s a heard)
      × IsDcepInBand entry.state (is_out_of_band entry) s a (messages_of s (m.generation a s) written)

  abbrev pub EntryUsed : ℕ → S → (written heard : List StreamMessage) → StreamEntry → Type 0
  EntryUsed s a written heard entry = IsUsedBy entry s a written heard

  -- a stream without an entry
  abbrev pub NoneUsed : ℕ → S → (written heard : List StreamMessage) → Type 0
  NoneUsed s a written heard = IsIdleStream s a (messages_of s (m.generation a s) written) (messages_of s (m.generation a s) heard)

  abbrev pub AreUsedIn : List StreamEntry → ℕ → S → (written heard : List StreamMessage) → Type 0
  AreUsedIn entries s a written heard = OneAtMost (NoneUsed s a written heard) (EntryUsed s a written heard) entries

  -- What was written and read of a stream until now. Nothing was of a generation that it does not have yet, nor of its own one if it is not
  -- there.
  pub record IsReached (s : ℕ) (written heard : List StreamMessage) (a : S) : Type 0 where
    pub ahead : (g : ℕ) → m.generation a s < g → (messages_of s g written ≡ []) × (messages_of s g heard ≡ [])
    pub absent : m.has_stream a s ≡ false
        → (messages_of s (m.generation a s) written ≡ []) × (messages_of s (m.generation a s) heard ≡ [])

  -- the use of a stream: that, and of the generation that it has, or that its entry keeps, what this says
  pub record IsUsed (s : ℕ) (written heard : List StreamMessage) (a : S) (entries : List StreamEntry) : Type 0 where
    pub reached : IsReached s written heard a
    pub used : AreUsedIn (entries_of s entries) s a written heard

  abbrev pub OpensRightly : Met → ℕ → S → List StreamEntry → (written heard : List StreamMessage) → Type 0
  OpensRightly (Output (event.Open id label)) s a entries written heard =
      id ≡ s
      → WereOpened (entries_of s entries) (m.generation a s) (messages_of s (m.generation a s) written)
      (messages_of s (m.generation a s) heard)
  OpensRightly met s a entries written heard = Unit {0}

  -- What a step leaves of the use of a stream; of one that found no memory nothing is said.
  pub record LeavesUsed (met : Met) (s : ℕ) (written heard : List StreamMessage) (a : S) (entries : List StreamEntry) : Type 0 where
    pub left : IsUsed s written heard a entries
    pub opens : OpensRightly met s a entries written heard

  abbrev pub LeavesUse : Met → ℕ → (written heard : List StreamMessage) → S → List StreamEntry → Type 0
  LeavesUse OutOfMemory s written heard a entries = Unit {0}
  LeavesUse Nothing s written heard a entries = LeavesUsed Nothing s written heard a entries
  LeavesUse Again s written heard a entries = LeavesUsed Again s written heard a entries
  LeavesUse (Output e) s written heard a entries = LeavesUsed (Output e) s written heard a entries
