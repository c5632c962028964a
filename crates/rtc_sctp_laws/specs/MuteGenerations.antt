-- Generations of a stream to which polls write nothing: the stream is past them, or its entry is open.
use Rattle.std.specs.Prelude.{ℕ, ◌≡◌, ◌⊎◌, true, List, []}
use Rattle.rtc_parts.specs.AssociationMeaning.{AssociationMeaning}
use Rattle.rtc_sctp_entries.specs.declared.stream_entry_state.StreamEntryState.TheVariants.{Open}
use Rattle.rtc_sctp_entries.specs.declared.stream_entry.StreamEntry.{StreamEntry}
use Rattle.rtc_sctp_laws.specs.StreamMessages.{StreamMessage}
use Rattle.rtc_sctp_laws.specs.StreamUses.{OneAtMost, entries_of, messages_of}
use Rattle.rtc_sctp_laws.specs.PastGenerations.{IsPast}

abbrev pub IsOpenEntry : StreamEntry → Type 0
IsOpenEntry entry = entry.state ≡ Open

-- a stream has one entry, which is open
abbrev pub HasOneOpen : ℕ → List StreamEntry → Type 0
HasOneOpen s entries = OneAtMost ⊥ IsOpenEntry (entries_of s entries)

-- a stream is there in a generation, and its one entry is open
abbrev pub IsOpenThere : {S : Type 0} → AssociationMeaning S → (stream generation : ℕ) → S → List StreamEntry → Type 0
IsOpenThere m s g a entries = (m.generation a s ≡ g) × (m.has_stream a s ≡ true) × HasOneOpen s entries

-- polls write nothing to the generation: messages that open channels, or acknowledge that, are written before an entry is open
abbrev pub IsMute : {S : Type 0} → AssociationMeaning S → (stream generation : ℕ) → S → List StreamEntry → Type 0
IsMute m s g a entries = IsPast m s g a ⊎ IsOpenThere m s g a entries

-- none of the messages that were written is of the generation, and it is mute behind them
pub record StaysMute {S : Type 0} (m : AssociationMeaning S) (s g : ℕ) (wrote : List StreamMessage) (a : S) (entries : List StreamEntry)
    : Type 0 where
  pub none : messages_of s g wrote ≡ []
  pub left : IsMute m s g a entries
