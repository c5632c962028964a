-- What a poll does with one stream in use.
use Rattle.std.specs.Prelude.{ℕ, ◌≡◌, ◌≢◌, ◌+◌, ◌-◌, ◌^◌, ◌&&◌, not, min, nat_le, nat_lt, Bool, true, false}
use Rattle.std.specs.Prelude.{List, [], ◌∷◌, Option, Some, None}
use Rattle.rtc_wire.specs.ChannelConfig.{open_of, config_of}
use Rattle.rtc_wire.specs.DcepOpen.{open_bytes, message_in, refusal_of}
use Rattle.rtc_wire.specs.DcepAck.{IsAck}
use Rattle.rtc_parts.specs.declared.ppi.Ppi.{Ppi}
use Rattle.rtc_parts.specs.declared.ppi.Ppi.TheVariants as ppi
use Rattle.rtc_parts.specs.AssociationMeaning.{AssociationMeaning}
use Rattle.rtc_sctp_entries.specs.declared.asked.Asked.{Asked}
use Rattle.rtc_sctp_entries.specs.declared.asked.Asked.TheVariants as did
use Rattle.rtc_sctp_entries.specs.declared.opening.Opening.{Opening}
use Rattle.rtc_sctp_entries.specs.declared.opening.Opening.TheVariants as opened
use Rattle.rtc_sctp_entries.specs.declared.heard.Heard.{Heard}
use Rattle.rtc_sctp_entries.specs.declared.heard.Heard.TheVariants as heard
use Rattle.rtc_sctp_entries.specs.declared.buffered_threshold_config.BufferedThresholdConfig.{BufferedThresholdConfig}
use Rattle.rtc_sctp_entries.specs.declared.buffered_threshold_config.BufferedThresholdConfig.TheVariants.{Unconfigured, Desired, Configured}
use Rattle.rtc_sctp_entries.specs.declared.stream_entry_state.StreamEntryState.{StreamEntryState}
use Rattle.rtc_sctp_entries.specs.declared.stream_entry_state.StreamEntryState.TheVariants.{AwaitOpen, AwaitConfig}
use Rattle.rtc_sctp_entries.specs.declared.stream_entry_state.StreamEntryState.TheVariants.{AwaitDcepAck, Open, Closed}
use Rattle.rtc_sctp_entries.specs.declared.stream_entry.StreamEntry.{StreamEntry}
use Rattle.rtc_sctp_entries.specs.declared.sctp_event.SctpEvent.{SctpEvent}
use Rattle.rtc_sctp_entries.specs.declared.sctp_event.SctpEvent.TheVariants as event
use Rattle.rtc_sctp_entries.specs.declared.read_message.ReadMessage.{ReadMessage}
use Rattle.rtc_sctp_entries.specs.declared.read_message.ReadMessage.TheVariants as read
use Rattle.rtc_sctp_entries.specs.declared.met.Met.{Met}
use Rattle.rtc_sctp_entries.specs.declared.met.Met.TheVariants.{Nothing, Again, Output, OutOfMemory}
use Rattle.rtc_sctp_entries.specs.Part.{AsksOpen, AsksRead, AsksWrite, AsksEnd, AsksThreshold, AsksReliability}
use Rattle.rtc_sctp_entries.specs.Entries.{config_or_fresh, is_short_entry, is_out_of_band, closed_entry, open_entry}
use Rattle.rtc_sctp_entries.specs.Entries.{marked_entry, has_reset, with_reset, entry_in, fits_generation}
pub use Rattle.rtc_sctp_entries.specs.Entries.{given_config}

-- what a visit of a stream sees and changes: the association, the entry, and the streams whose reset is outstanding
pub record Turn (S : Type 0) : Type 0 where
  pub association : S
  pub entry : StreamEntry
  pub resets : List ℕ

abbrev pub turn : {S : Type 0} → S → StreamEntry → List ℕ → Turn S
turn association entry resets = record { association = association; entry = entry; resets = resets }

-- when an opening that was refused first at a moment is given up: ten seconds later, at most at the last moment of all
abbrev pub opening_ends : ℕ → ℕ
opening_ends first = min (first + 10_000_000_000) (2 ^ 64 - 1)

-- Whether an opening that was refused first at a moment is given up by now. It is not at the moment of that refusal itself, even if this is
-- the last moment of all.
abbrev pub is_opening_over : (first now : ℕ) → Bool
is_opening_over first now = nat_lt first now && nat_le (opening_ends first) now

-- the entry is marked, to be closed
abbrev pub Marks : {S : Type 0} → Turn S → Met → Turn S → Type 0
Marks t met t' = (met ≡ Again) × (t' ≡ record t { entry = marked_entry t.entry })

-- a message is returned
abbrev pub GivesEvent : {S : Type 0} → SctpEvent → Turn S → Met → Turn S → Type 0
GivesEvent e t met t' = (met ≡ Output e) × (t' ≡ t)

-- running out of memory
abbrev pub Starves : {S : Type 0} → Turn S → Met → Turn S → Type 0
Starves t met t' = (met ≡ OutOfMemory) × (t' ≡ t)

-- the entry is open, with a label
abbrev pub TellsOpen : {S : Type 0} → List ℕ → Turn S → Met → Turn S → Type 0
TellsOpen label t met t' = (met ≡ Output (event.Open t.entry.id label)) × (t' ≡ record t { entry = open_entry t.entry })

-- what is reported if an entry is closed
abbrev pub close_event : StreamEntry → List ℕ → SctpEvent
close_event entry resets = event.Close entry.id (has_reset entry.id resets)

-- the entry is closed
abbrev pub TellsClose : {S : Type 0} → Turn S → Met → Turn S → Type 0
TellsClose t met t' = (met ≡ Output (close_event t.entry t.resets)) × (t' ≡ record t { entry = closed_entry t.entry })

-- an entry is open with the label of its config
abbrev pub Settles : StreamEntry → Met → StreamEntry → Type 0
Settles e Nothing e' = ⊥
Settles e Again e' = ⊥
Settles e (Output o) e' = (o ≡ event.Open e.id (config_or_fresh e.config).label) × (e' ≡ open_entry e)
Settles e OutOfMemory e' = e' ≡ e

-- an acknowledgement is taken; another message marks the entry
abbrev pub TakesAck : List ℕ → StreamEntry → Met → StreamEntry → Type 0
TakesAck bytes e Nothing e' = ⊥
TakesAck bytes e Again e' = (IsAck bytes → ⊥) × (e' ≡ marked_entry e)
TakesAck bytes e (Output o) e' = IsAck bytes × Settles e (Output o) e'
TakesAck bytes e OutOfMemory e' = IsAck bytes × Settles e OutOfMemory e'

-- a message is read that may open a channel
abbrev pub ReadsOpen : List ℕ → ReadMessage → Type 0
ReadsOpen bytes (read.Open label config) =
    (refusal_of bytes ≡ None) × (label ≡ (message_in bytes).label) × (config ≡ config_of (message_in bytes))
ReadsOpen bytes read.Malformed = refusal_of bytes ≢ None
ReadsOpen bytes read.OutOfMemory = Unit {0}

-- what only an entry has to do with
abbrev pub ForEntry : {S : Type 0} → (StreamEntry → Met → StreamEntry → Type 0) → Turn S → Met → Turn S → Type 0
ForEntry R t met t' = R t.entry met t'.entry × (t' ≡ record t { entry = t'.entry })

module _ {S : Type 0} (m : AssociationMeaning S) where
  -- The stream of an entry is closed. A close that is Ok notes a reset outstanding, and the entry is Closed also if the association
  -- refuses.
  abbrev pub ClosedBy : Asked → Turn S → Met → Turn S → Type 0
  ClosedBy did.Done t met t' = TellsClose (record t { resets = with_reset t.entry.id t.resets }) met t'
  ClosedBy did.Refused t met t' = TellsClose t met t'
  ClosedBy did.OutOfMemory t met t' = Starves t met t'

  pub data Closes (t : Turn S) (met : Met) (t' : Turn S) : Type 0 where
    NoRoom : Starves t met t' → Closes t met t'
    Ended : (answer : Asked) (q : S) → AsksEnd m t.association t.entry.id answer q
        → ClosedBy answer (record t { association = q }) met t' → Closes t met t'

  -- the entry is of a channel in the generation that its stream has
  abbrev pub in_generation : Turn S → Turn S
  in_generation t = record t { entry = entry_in (m.generation t.association t.entry.id) t.entry }

  -- the open message of an entry is written
  abbrev pub AnnouncedBy : Asked → Turn S → Met → Turn S → Type 0
  AnnouncedBy did.Done t met t' = (met ≡ Again) × (t' ≡ record t { entry = record (in_generation t).entry { state = AwaitDcepAck } })
  AnnouncedBy did.Refused t met t' = Closes t met t'
  AnnouncedBy did.OutOfMemory t met t' = Starves t met t'

  pub data Announces (t : Turn S) (met : Met) (t' : Turn S) : Type 0 where
    NoMessage : Starves t met t' → Announces t met t'
    Written : (answer : Asked) (q : S)
        → AsksWrite m t.association t.entry.id ppi.Dcep (open_bytes (open_of (config_or_fresh t.entry.config))) answer q
        → AnnouncedBy answer (record t { association = q }) met t' → Announces t met t'

  -- an entry whose texts do not fit an open message is closed
  abbrev pub AnnouncesIf : Bool → Turn S → Met → Turn S → Type 0
  AnnouncesIf true t met t' = Announces t met t'
  AnnouncesIf false t met t' = Closes t met t'

  -- a stream that is there is begun: out-of-band it is open, in-band it is announced
  abbrev pub BegunAs : Bool → Turn S → Met → Turn S → Type 0
  BegunAs true t met t' = ForEntry Settles t met t'
  BegunAs false t met t' = AnnouncesIf (is_short_entry t.entry) t met t'

  abbrev pub BegunBy : Asked → Turn S → Met → Turn S → Type 0
  BegunBy did.Done t met t' = BegunAs (is_out_of_band t.entry) t met t'
  BegunBy did.Refused t met t' = Closes t met t'
  BegunBy did.OutOfMemory t met t' = Starves t met t'

  -- a stream that is there gets the reliability of its config, and is begun
  pub record Begins (t : Turn S) (met : Met) (t' : Turn S) : Type 0 where
    pub answer : Asked
    pub between : S
    pub asks : AsksReliability m t.association t.entry.id (config_or_fresh t.entry.config) answer between
    pub then : BegunBy answer (record t { association = between }) met t'

  -- An opening is refused for now: it is tried again until ten seconds after the first refusal.
  abbrev pub RetriedIf : Bool → Turn S → Met → Turn S → Type 0
  RetriedIf true t met t' = Closes t met t'
  RetriedIf false t met t' = (met ≡ Nothing) × (t' ≡ t)

  abbrev pub RetriedAt : ℕ → Option ℕ → Turn S → Met → Turn S → Type 0
  RetriedAt now None t met t' = (met ≡ Nothing) × (t' ≡ record t { entry = record t.entry { refused = Some now } })
  RetriedAt now (Some first) t met t' = RetriedIf (is_opening_over first now) t met t'

  abbrev pub Retries : ℕ → Turn S → Met → Turn S → Type 0
  Retries now t met t' = RetriedAt now t.entry.refused t met t'

  -- a stream that is there is adopted if it is out-of-band and live: not stale, and with no reset outstanding
  abbrev pub is_adopted : Turn S → Bool
  is_adopted t = is_out_of_band t.entry && (not (m.stale t.association t.entry.id) && not (has_reset t.entry.id t.resets))

  abbrev pub AdoptedIf : Bool → ℕ → Turn S → Met → Turn S → Type 0
  AdoptedIf true now t met t' = Begins t met t'
  AdoptedIf false now t met t' = Retries now t met t'

  abbrev pub OpenedBy : Opening → ℕ → Turn S → Met → Turn S → Type 0
  OpenedBy opened.Done now t met t' = Begins t met t'
  OpenedBy opened.Exists now t met t' = AdoptedIf (is_adopted t) now t met t'
  OpenedBy opened.Pending now t met t' = Retries now t met t'
  OpenedBy opened.Refused now t met t' = Closes t met t'
  OpenedBy opened.OutOfMemory now t met t' = Starves t met t'

  -- an entry is opened
  pub record OpensEntry (now : ℕ) (t : Turn S) (met : Met) (t' : Turn S) : Type 0 where
    pub answer : Opening
    pub between : S
    pub asks : AsksOpen m t.association t.entry.id answer between
    pub then : OpenedBy answer now (record t { association = between }) met t'

  -- the acknowledgement of an open message is written
  abbrev pub AcknowledgedBy : Asked → List ℕ → Turn S → Met → Turn S → Type 0
  AcknowledgedBy did.Done label t met t' = TellsOpen label (in_generation t) met t'
  AcknowledgedBy did.Refused label t met t' = Closes t met t'
  AcknowledgedBy did.OutOfMemory label t met t' = Starves t met t'

  pub record Acknowledges (label : List ℕ) (t : Turn S) (met : Met) (t' : Turn S) : Type 0 where
    pub answer : Asked
    pub between : S
    pub asks : AsksWrite m t.association t.entry.id ppi.Dcep (2 ∷ []) answer between
    pub then : AcknowledgedBy answer label (record t { association = between }) met t'

  -- a config that the other end gave is taken up: the stream gets its reliability, and the open message its acknowledgement
  abbrev pub TakenUpBy : Asked → List ℕ → Turn S → Met → Turn S → Type 0
  TakenUpBy did.Done label t met t' = Acknowledges label t met t'
  TakenUpBy did.Refused label t met t' = Marks t met t'
  TakenUpBy did.OutOfMemory label t met t' = Starves t met t'

  pub record TakesUp (label : List ℕ) (t : Turn S) (met : Met) (t' : Turn S) : Type 0 where
    pub answer : Asked
    pub between : S
    pub asks : AsksReliability m t.association t.entry.id (config_or_fresh t.entry.config) answer between
    pub then : TakenUpBy answer label (record t { association = between }) met t'

  -- an open message is taken: the config of the entry, given by it if there was none, is taken up; a malformed one marks the entry
  abbrev pub TakenAs : ReadMessage → Turn S → Met → Turn S → Type 0
  TakenAs (read.Open label config) t met t' =
      TakesUp label (record t { entry = record t.entry { config = given_config t.entry.config config } }) met t'
  TakenAs read.Malformed t met t' = Marks t met t'
  TakenAs read.OutOfMemory t met t' = Starves t met t'

  pub record TakesOpen (bytes : List ℕ) (t : Turn S) (met : Met) (t' : Turn S) : Type 0 where
    pub message : ReadMessage
    pub reads : ReadsOpen bytes message
    pub then : TakenAs message t met t'

  -- a message that opens a channel or acknowledges it is taken by the state of the entry; an unexpected one marks it
  abbrev pub TakesDcep : StreamEntryState → List ℕ → Turn S → Met → Turn S → Type 0
  TakesDcep AwaitConfig bytes t met t' = TakesOpen bytes t met t'
  TakesDcep AwaitDcepAck bytes t met t' = ForEntry (TakesAck bytes) t met t'
  TakesDcep AwaitOpen bytes t met t' = Marks t met t'
  TakesDcep Open bytes t met t' = Marks t met t'
  TakesDcep Closed bytes t met t' = Marks t met t'

  -- a message is taken by its identifier (RFC 8831, section 8); the empty ones give no bytes (section 6.6)
  abbrev pub TakesStreamMessage : Ppi → List ℕ → Turn S → Met → Turn S → Type 0
  TakesStreamMessage ppi.Dcep bytes t met t' = TakesDcep t.entry.state bytes t met t'
  TakesStreamMessage ppi.Text bytes t met t' = GivesEvent (event.Data t.entry.id false bytes) t met t'
  TakesStreamMessage ppi.Binary bytes t met t' = GivesEvent (event.Data t.entry.id true bytes) t met t'
  TakesStreamMessage ppi.EmptyText bytes t met t' = GivesEvent (event.Data t.entry.id false []) t met t'
  TakesStreamMessage ppi.EmptyBinary bytes t met t' = GivesEvent (event.Data t.entry.id true []) t met t'
  TakesStreamMessage (ppi.Other number) bytes t met t' = Marks t met t'

  abbrev pub ReadBy : Heard → Turn S → Met → Turn S → Type 0
  ReadBy heard.Nothing t met t' = (met ≡ Nothing) × (t' ≡ t)
  ReadBy (heard.Message identifier bytes) t met t' = TakesStreamMessage identifier bytes t met t'
  ReadBy heard.Refused t met t' = Marks t met t'
  ReadBy heard.OutOfMemory t met t' = Starves t met t'

  -- one message of an entry's stream is read
  pub record ReadsEntry (t : Turn S) (met : Met) (t' : Turn S) : Type 0 where
    pub answer : Heard
    pub between : S
    pub asks : AsksRead m t.association t.entry.id answer between
    pub then : ReadBy answer (record t { association = between }) met t'

  -- one message is read where one is unread: a stream with nothing unread of its generation may be left unread
  pub data MayRead (t : Turn S) (met : Met) (t' : Turn S) : Type 0 where
    IsRead : ReadsEntry t met t' → MayRead t met t'
    NothingUnread : m.has_unread t.association t.entry.id (m.generation t.association t.entry.id) ≡ false → met ≡ Nothing → t' ≡ t
        → MayRead t met t'

  -- a threshold that is asked for is passed on once, refused or not
  abbrev pub HandedBy : Asked → ℕ → Turn S → Met → Turn S → Type 0
  HandedBy did.Done n t met t' = (met ≡ Again) × (t' ≡ record t { entry = record t.entry { threshold = Configured n } })
  HandedBy did.Refused n t met t' = (met ≡ Again) × (t' ≡ record t { entry = record t.entry { threshold = Configured n } })
  HandedBy did.OutOfMemory n t met t' = Starves t met t'

  pub record HandsThreshold (n : ℕ) (t : Turn S) (met : Met) (t' : Turn S) : Type 0 where
    pub answer : Asked
    pub between : S
    pub asks : AsksThreshold m t.association t.entry.id n answer between
    pub then : HandedBy answer n (record t { association = between }) met t'

  abbrev pub AttendsBy : BufferedThresholdConfig → Turn S → Met → Turn S → Type 0
  AttendsBy (Desired n) t met t' = HandsThreshold n t met t'
  AttendsBy Unconfigured t met t' = MayRead t met t'
  AttendsBy (Configured n) t met t' = MayRead t met t'

  abbrev pub AttendsIf : (marked there : Bool) → Turn S → Met → Turn S → Type 0
  AttendsIf true there t met t' = Closes t met t'
  AttendsIf false false t met t' = Marks t met t'
  AttendsIf false true t met t' = AttendsBy t.entry.threshold t met t'

  -- whether the stream of an entry is there, in the generation that the entry keeps, if it keeps one
  abbrev pub is_entry_there : S → StreamEntry → Bool
  is_entry_there a entry = m.has_stream a entry.id && fits_generation entry.generation (m.generation a entry.id)

  -- an entry past its opening is closed if it is marked, marked if its stream is missing, and else has its threshold passed on or a message
  -- read
  abbrev pub Attends : Turn S → Met → Turn S → Type 0
  Attends t met t' = AttendsIf t.entry.marked (is_entry_there t.association t.entry) t met t'

  -- what a visit does, by the state of the entry
  abbrev pub VisitsIn : StreamEntryState → ℕ → Turn S → Met → Turn S → Type 0
  VisitsIn AwaitOpen now t met t' = OpensEntry now t met t'
  VisitsIn AwaitConfig now t met t' = Attends t met t'
  VisitsIn AwaitDcepAck now t met t' = Attends t met t'
  VisitsIn Open now t met t' = Attends t met t'
  VisitsIn Closed now t met t' = (met ≡ Nothing) × (t' ≡ t)

  abbrev pub Visits : ℕ → Turn S → Met → Turn S → Type 0
  Visits now t met t' = VisitsIn t.entry.state now t met t'
