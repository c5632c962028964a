-- What opening and closing a stream from here does.
use Rattle.std.specs.Prelude.{ℕ, ◌≡◌, ◌&&◌, Bool, true, false, List, slice_get, slice_set, Option, Some, None, is_some, Result, Ok, Err}
use Rattle.std.specs.declared.alloc.AllocError.{AllocError}
use Rattle.rtc_wire.specs.declared.channel_config.ChannelConfig.{ChannelConfig}
use Rattle.rtc_parts.specs.AssociationMeaning.{AssociationMeaning}
use Rattle.rtc_sctp_entries.specs.declared.asked.Asked.{Asked}
use Rattle.rtc_sctp_entries.specs.declared.asked.Asked.TheVariants as did
use Rattle.rtc_sctp_entries.specs.declared.stream_entry_state.StreamEntryState.{StreamEntryState}
use Rattle.rtc_sctp_entries.specs.declared.stream_entry_state.StreamEntryState.TheVariants.{AwaitOpen, AwaitConfig}
use Rattle.rtc_sctp_entries.specs.declared.stream_entry_state.StreamEntryState.TheVariants.{AwaitDcepAck, Open, Closed}
use Rattle.rtc_sctp_entries.specs.declared.stream_entry.StreamEntry.{StreamEntry}
use Rattle.rtc_sctp_entries.specs.Part.{AsksEnd, AsksReliability}
use Rattle.rtc_sctp_entries.specs.Entries.{entry_place, with_entry, new_entry, marked_entry, with_reset, threshold_set}
use Rattle.rtc_sctp.specs.Streams.{SctpStreams}

-- by the result of the association, the entry of a stream that the other end opened is open with a config, or marked
abbrev pub ConfigBy : Asked → ChannelConfig → StreamEntry → Result (Unit {0}) AllocError → StreamEntry → Type 0
ConfigBy did.Done config e (Ok x) e' = e' ≡ record e { config = Some config; state = Open }
ConfigBy did.Done config e (Err x) e' = ⊥
ConfigBy did.Refused config e (Ok x) e' = e' ≡ marked_entry e
ConfigBy did.Refused config e (Err x) e' = ⊥
ConfigBy did.OutOfMemory config e (Ok x) e' = ⊥
ConfigBy did.OutOfMemory config e (Err x) e' = e' ≡ e

-- a close that is Ok notes a reset outstanding
abbrev pub EndedBy : Asked → ℕ → List ℕ → Result (Unit {0}) AllocError → List ℕ → Type 0
EndedBy did.Done id resets (Ok x) resets' = resets' ≡ with_reset id resets
EndedBy did.Done id resets (Err x) resets' = ⊥
EndedBy did.Refused id resets (Ok x) resets' = resets' ≡ resets
EndedBy did.Refused id resets (Err x) resets' = ⊥
EndedBy did.OutOfMemory id resets (Ok x) resets' = ⊥
EndedBy did.OutOfMemory id resets (Err x) resets' = resets' ≡ resets

abbrev pub is_err : Result (Unit {0}) AllocError → Bool
is_err (Ok x) = false
is_err (Err x) = true

-- the threshold of the entry at a place is asked for
abbrev pub SetsThresholdAt : (n place : ℕ) → List StreamEntry → List StreamEntry → Type 0
SetsThresholdAt n place es es' =
    (e : StreamEntry)
    × (slice_get es place ≡ Some e)
    × (es' ≡ slice_set es place (record e { threshold = threshold_set n e.threshold }))

-- the threshold of an entry is asked for
abbrev pub SetsThreshold : (S : Type 0) → ℕ → Option ℕ → SctpStreams S → SctpStreams S → Type 0
SetsThreshold S n None p q = q ≡ p
SetsThreshold S n (Some place) p q =
    (e : StreamEntry)
    × (slice_get p.entries place ≡ Some e)
    × (q ≡ record p { entries = slice_set p.entries place (record e { threshold = threshold_set n e.threshold }); rests = false })

-- the entry at a place is marked
abbrev pub MarksAt : ℕ → List StreamEntry → List StreamEntry → Type 0
MarksAt place es es' = (e : StreamEntry) × (slice_get es place ≡ Some e) × (es' ≡ slice_set es place (marked_entry e))

module _ {S : Type 0} (m : AssociationMeaning S) where
  -- whether a stream that the other end opened can be open by a config: out-of-band, if the stream is there
  abbrev pub can_take : S → ℕ → ChannelConfig → Bool
  can_take p id config = is_some config.negotiated && (m.started p && m.has_stream p id)

  pub data TakesConfig (config : ChannelConfig) (p : S) (e : StreamEntry) (r : Result (Unit {0}) AllocError) (q : S) (e' : StreamEntry)
      : Type 0 where
    Declined : can_take p e.id config ≡ false → r ≡ Ok tt → q ≡ p → e' ≡ marked_entry e → TakesConfig config p e r q e'
    Answered : (answer : Asked) → can_take p e.id config ≡ true → AsksReliability m p e.id config answer q
        → ConfigBy answer config e r e' → TakesConfig config p e r q e'

  -- a stream that waits for its config is opened: one that has a config, which its reliability was refused for, is marked
  abbrev pub OpensAwaiting : Bool → ChannelConfig → S → StreamEntry → Result (Unit {0}) AllocError → S → StreamEntry → Type 0
  OpensAwaiting true config p e r q e' = (r ≡ Ok tt) × (q ≡ p) × (e' ≡ marked_entry e)
  OpensAwaiting false config p e r q e' = TakesConfig config p e r q e'

  -- a stream that has an entry is opened: it is marked, but for one that waits for its config
  abbrev pub OpensOver : StreamEntryState → ChannelConfig → S → StreamEntry → Result (Unit {0}) AllocError → S → StreamEntry → Type 0
  OpensOver AwaitConfig config p e r q e' = OpensAwaiting (is_some e.config) config p e r q e'
  OpensOver AwaitOpen config p e r q e' = (r ≡ Ok tt) × (q ≡ p) × (e' ≡ marked_entry e)
  OpensOver AwaitDcepAck config p e r q e' = (r ≡ Ok tt) × (q ≡ p) × (e' ≡ marked_entry e)
  OpensOver Open config p e r q e' = (r ≡ Ok tt) × (q ≡ p) × (e' ≡ marked_entry e)
  OpensOver Closed config p e r q e' = (r ≡ Ok tt) × (q ≡ p) × (e' ≡ marked_entry e)

  abbrev pub OpensAt : Option ℕ → ℕ → ChannelConfig → S → List StreamEntry → Result (Unit {0}) AllocError → S → List StreamEntry → Type 0
  OpensAt None id config p es (Ok x) q es' = (q ≡ p) × (es' ≡ with_entry (new_entry id AwaitOpen (Some config)) es)
  OpensAt None id config p es (Err x) q es' = (q ≡ p) × (es' ≡ es)
  OpensAt (Some place) id config p es r q es' =
      (e : StreamEntry)
      × (e' : StreamEntry)
      × (slice_get es place ≡ Some e)
      × OpensOver e.state config p e r q e'
      × (es' ≡ slice_set es place e')

  -- a stream is opened with a config
  abbrev pub OpensStream : ℕ → ChannelConfig → SctpStreams S → Result (Unit {0}) AllocError → SctpStreams S → Type 0
  OpensStream id config p r q =
      OpensAt (entry_place id p.entries) id config p.association p.entries r q.association q.entries
      × (q ≡ record p { association = q.association; entries = q.entries; rests = false })

  -- a stream of the association is closed
  pub data EndsStream (id : ℕ) (p : S) (resets : List ℕ) (r : Result (Unit {0}) AllocError) (q : S) (resets' : List ℕ) : Type 0 where
    NoRoom : is_err r ≡ true → q ≡ p → resets' ≡ resets → EndsStream id p resets r q resets'
    Ended : (answer : Asked) → AsksEnd m p id answer q → EndedBy answer id resets r resets' → EndsStream id p resets r q resets'

  abbrev pub EndsIf : Bool → ℕ → S → List ℕ → Result (Unit {0}) AllocError → S → List ℕ → Type 0
  EndsIf false id p resets r q resets' = (r ≡ Ok tt) × (q ≡ p) × (resets' ≡ resets)
  EndsIf true id p resets r q resets' = EndsStream id p resets r q resets'

  abbrev pub ClosesAt : Option ℕ → ℕ → S → List StreamEntry → List ℕ → Result (Unit {0}) AllocError → S → List StreamEntry → List ℕ → Type 0
  ClosesAt None id p es resets r q es' resets' = (r ≡ Ok tt) × (q ≡ p) × (es' ≡ es) × (resets' ≡ resets)
  ClosesAt (Some place) id p es resets r q es' resets' = MarksAt place es es' × EndsIf (m.started p) id p resets r q resets'

  -- a stream that has an entry is closed: the entry is marked, and the stream of a started association ends
  abbrev pub ClosesDataStream : ℕ → SctpStreams S → Result (Unit {0}) AllocError → SctpStreams S → Type 0
  ClosesDataStream id p r q =
      ClosesAt (entry_place id p.entries) id p.association p.entries p.resets r q.association q.entries q.resets
      × (q ≡ record p { association = q.association; entries = q.entries; resets = q.resets; rests = false })
