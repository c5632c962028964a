-- What a poll of streams does: six steps in order, over again after a step that made work.
use Rattle.std.specs.Prelude.{ℕ, zero, suc, ◌≡◌, ◌+◌, ◌&&◌, Bool, true, false, List, [], ◌∷◌, ◌++◌, length, slice_get}
use Rattle.std.specs.Prelude.{slice_set, if◌then◌else◌, Option, Some, None, is_some, Result, Ok, Err}
use Rattle.std.specs.List.{sum_by}
use Rattle.std.specs.declared.alloc.AllocError.{AllocError}
use Rattle.rtc_parts.specs.declared.assoc_event.AssocEvent.{AssocEvent}
use Rattle.rtc_parts.specs.declared.assoc_event.AssocEvent.TheVariants as assoc
use Rattle.rtc_parts.specs.AssociationMeaning.{AssociationMeaning}
use Rattle.rtc_sctp.specs.declared.rtc_sctp_state.RtcSctpState.{RtcSctpState}
use Rattle.rtc_sctp.specs.declared.rtc_sctp_state.RtcSctpState.TheVariants.{Established}
use Rattle.rtc_sctp_entries.specs.declared.stream_entry_state.StreamEntryState.TheVariants.{AwaitConfig}
use Rattle.rtc_sctp_entries.specs.declared.stream_entry.StreamEntry.{StreamEntry}
use Rattle.rtc_sctp_entries.specs.declared.sctp_event.SctpEvent.{SctpEvent}
use Rattle.rtc_sctp_entries.specs.declared.sctp_event.SctpEvent.TheVariants as event
use Rattle.rtc_sctp_entries.specs.declared.met.Met.{Met}
use Rattle.rtc_sctp_entries.specs.declared.met.Met.TheVariants.{Nothing, Again, Output, OutOfMemory}
use Rattle.rtc_sctp_entries.specs.Entries.{entry_place, with_entry, new_entry, marked_entry, with_reset, without_reset, is_open_awaited}
use Rattle.rtc_sctp_entries.specs.Entries.{entry_credit, unclosed}
use Rattle.rtc_sctp.specs.Streams.{SctpStreams, is_established}
use Rattle.rtc_sctp_entries.specs.Visits.{Turn, turn, Visits}

-- a stream that the other end uses has an entry, which waits for its config
abbrev pub with_expected : ℕ → List StreamEntry → List StreamEntry
with_expected id entries =
    if is_some (entry_place id entries) then entries else with_entry (new_entry id AwaitConfig None) entries

-- an entry past its opening is marked if the other end closed its stream
abbrev pub finished_entry : StreamEntry → StreamEntry
finished_entry entry = if is_open_awaited entry.state then entry else marked_entry entry

abbrev pub FinishesAt : Option ℕ → List StreamEntry → List StreamEntry → Type 0
FinishesAt None entries entries' = entries' ≡ entries
FinishesAt (Some place) entries entries' =
    (e : StreamEntry) × (slice_get entries place ≡ Some e) × (entries' ≡ slice_set entries place (finished_entry e))

-- what is met if an event is taken
abbrev pub event_met : AssocEvent → Met
event_met assoc.Connected = Again
event_met assoc.Lost = Output event.AssociationLost
event_met (assoc.Readable id) = Again
event_met (assoc.Writable id) = Again
event_met (assoc.Finished id) = Again
event_met (assoc.ResetComplete id) = Again
event_met (assoc.BufferedAmountLow id) = Output (event.BufferedAmountLow id)

-- what an event can change beside the association
pub record Book : Type 0 where
  pub state : RtcSctpState
  pub entries : List StreamEntry
  pub resets : List ℕ
  pub completed : List ℕ

abbrev pub book : RtcSctpState → List StreamEntry → (resets completed : List ℕ) → Book
book state entries resets completed = record { state = state; entries = entries; resets = resets; completed = completed }

abbrev pub book_of : {S : Type 0} → SctpStreams S → Book
book_of p = book p.state p.entries p.resets p.completed

abbrev pub with_book : {S : Type 0} → Book → S → SctpStreams S → SctpStreams S
with_book b association p =
    record p { association = association; state = b.state; entries = b.entries; resets = b.resets; completed = b.completed }

-- what an event does
abbrev pub AfterEvent : AssocEvent → Book → Book → Type 0
AfterEvent assoc.Connected b b' = b' ≡ record b { state = Established }
AfterEvent assoc.Lost b b' = b' ≡ record b { resets = []; completed = [] }
AfterEvent (assoc.Readable id) b b' = b' ≡ record b { entries = with_expected id b.entries }
AfterEvent (assoc.Writable id) b b' = b' ≡ record b { entries = with_expected id b.entries }
AfterEvent (assoc.Finished id) b b' =
    FinishesAt (entry_place id b.entries) b.entries b'.entries
    × (b' ≡ record b { entries = b'.entries; resets = with_reset id b.resets })
AfterEvent (assoc.ResetComplete id) b b' =
    b' ≡ record b { resets = without_reset id b.resets; completed = b.completed ++ id ∷ [] }
AfterEvent (assoc.BufferedAmountLow id) b b' = b' ≡ b

-- what follows if nothing was met
abbrev pub ThenBy : {S : Type 0} → (SctpStreams S → Met → SctpStreams S → Type 0) → Met → SctpStreams S → Met → SctpStreams S → Type 0
ThenBy next Nothing p met q = next p met q
ThenBy next Again p met q = (met ≡ Again) × (q ≡ p)
ThenBy next (Output e) p met q = (met ≡ Output e) × (q ≡ p)
ThenBy next OutOfMemory p met q = (met ≡ OutOfMemory) × (q ≡ p)

-- one step, and if it meets nothing the next
abbrev pub Else : {S : Type 0} → (SctpStreams S → Met → SctpStreams S → Type 0) → (SctpStreams S → Met → SctpStreams S → Type 0)
    → SctpStreams S → Met → SctpStreams S → Type 0
Else {S} first next p met q = (own : Met) × ((between : SctpStreams S) × (first p own between × ThenBy next own between met q))

-- first step: closed entries are dropped
abbrev pub unclosed_streams : {S : Type 0} → SctpStreams S → SctpStreams S
unclosed_streams p = record p { entries = unclosed p.entries }

-- last step: streams rest unless a completion is left, which is returned
abbrev pub CompletionOf : {S : Type 0} → List ℕ → SctpStreams S → Met → SctpStreams S → Type 0
CompletionOf [] p met q = (met ≡ Nothing) × (q ≡ record p { rests = true })
CompletionOf (id ∷ rest) p met q = (met ≡ Output (event.StreamResetComplete id)) × (q ≡ record p { completed = rest })

abbrev pub GivesCompletion : {S : Type 0} → SctpStreams S → Met → SctpStreams S → Type 0
GivesCompletion p met q = CompletionOf p.completed p met q

-- streams at rest give packets that were pushed back, and nothing else
abbrev pub RestsBy : {S : Type 0} → Option (List (List ℕ)) → SctpStreams S → Met → SctpStreams S → Type 0
RestsBy None p met q = (met ≡ Nothing) × (q ≡ p)
RestsBy (Some packets) p met q = (met ≡ Output (event.Transmit packets)) × (q ≡ record p { pushed = None })

abbrev pub credits : List StreamEntry → ℕ
credits entries = sum_by entry_credit entries

abbrev pub pushed_count : Option (List (List ℕ)) → ℕ
pushed_count None = 0
pushed_count (Some packets) = 1

-- what a poll returns by the last pass
abbrev pub Answers : Result (Option SctpEvent) AllocError → Met → Type 0
Answers (Ok None) met = met ≡ Nothing
Answers (Ok (Some e)) met = met ≡ Output e
Answers (Err x) met = met ≡ OutOfMemory

module _ {S : Type 0} (m : AssociationMeaning S) where
  -- a packet of the association is returned
  abbrev pub TakesPacket : S → Met → S → Type 0
  TakesPacket p Nothing q = m.gave p None q
  TakesPacket p (Output (event.Transmit packets)) q = (packet : List ℕ) × m.gave p (Some packet) q × (packets ≡ packet ∷ [])
  TakesPacket p (Output e) q = ⊥
  TakesPacket p Again q = ⊥
  TakesPacket p OutOfMemory q = q ≡ p

  abbrev pub TransmitIf : Bool → SctpStreams S → Met → SctpStreams S → Type 0
  TransmitIf false p met q = (met ≡ Nothing) × (q ≡ p)
  TransmitIf true p met q = TakesPacket p.association met q.association × (q ≡ record p { association = q.association })

  -- second and third step: packets that were pushed back are returned, else one of an association that was started
  abbrev pub TransmitOf : Option (List (List ℕ)) → SctpStreams S → Met → SctpStreams S → Type 0
  TransmitOf (Some packets) p met q = (met ≡ Output (event.Transmit packets)) × (q ≡ record p { pushed = None })
  TransmitOf None p met q = TransmitIf (m.started p.association) p met q

  abbrev pub GivesTransmit : SctpStreams S → Met → SctpStreams S → Type 0
  GivesTransmit p met q = TransmitOf p.pushed p met q

  -- an event of an association that was started is taken
  pub data TakesEvent (a : S) (b : Book) (met : Met) (a' : S) (b' : Book) : Type 0 where
    NotStarted : m.started a ≡ false → met ≡ Nothing → a' ≡ a → b' ≡ b → TakesEvent a b met a' b'
    NoRoom : met ≡ OutOfMemory → a' ≡ a → b' ≡ b → TakesEvent a b met a' b'
    NoEvent : m.started a ≡ true → m.polled a None a' → met ≡ Nothing → b' ≡ b → TakesEvent a b met a' b'
    Event : (e : AssocEvent) → m.started a ≡ true → m.polled a (Some e) a' → met ≡ event_met e → AfterEvent e b b'
        → TakesEvent a b met a' b'

  -- fourth step: an event is taken
  abbrev pub HandlesEvent : SctpStreams S → Met → SctpStreams S → Type 0
  HandlesEvent p met q =
      TakesEvent p.association (book_of p) met q.association (book_of q)
      × (q ≡ with_book (book_of q) q.association p)

  -- the entries are visited in order, up to the first that gives something
  abbrev pub VisitedThen : (S → List ℕ → Met → S → List ℕ → List StreamEntry → Type 0) → Met → List StreamEntry → Turn S → Met → S
      → List ℕ → List StreamEntry → Type 0
  VisitedThen rest Nothing es b met a' resets' es' =
      (tail : List StreamEntry) × rest b.association b.resets met a' resets' tail × (es' ≡ b.entry ∷ tail)
  VisitedThen rest Again es b met a' resets' es' =
      (met ≡ Again) × (a' ≡ b.association) × (resets' ≡ b.resets) × (es' ≡ b.entry ∷ es)
  VisitedThen rest (Output e) es b met a' resets' es' =
      (met ≡ Output e) × (a' ≡ b.association) × (resets' ≡ b.resets) × (es' ≡ b.entry ∷ es)
  VisitedThen rest OutOfMemory es b met a' resets' es' =
      (met ≡ OutOfMemory) × (a' ≡ b.association) × (resets' ≡ b.resets) × (es' ≡ b.entry ∷ es)

  abbrev pub VisitsAll : ℕ → List StreamEntry → S → List ℕ → Met → S → List ℕ → List StreamEntry → Type 0
  VisitsAll now [] a resets met a' resets' es' = (met ≡ Nothing) × (a' ≡ a) × (resets' ≡ resets) × (es' ≡ [])
  VisitsAll now (e ∷ es) a resets met a' resets' es' =
      (own : Met)
      × (between : Turn S)
      × Visits m now (turn a e resets) own between
      × VisitedThen (VisitsAll now es) own es between met a' resets' es'

  abbrev pub VisitsIf : Bool → SctpStreams S → Met → SctpStreams S → Type 0
  VisitsIf false p met q = (met ≡ Nothing) × (q ≡ p)
  VisitsIf true p met q =
      VisitsAll p.last p.entries p.association p.resets met q.association q.resets q.entries
      × (q ≡ record p { association = q.association; resets = q.resets; entries = q.entries })

  -- fifth step: once established, the entries are visited
  abbrev pub VisitsEntries : SctpStreams S → Met → SctpStreams S → Type 0
  VisitsEntries p met q = VisitsIf (is_established p.state && m.started p.association) p met q

  -- the six steps once
  unfoldable pub TakesSteps : SctpStreams S → Met → SctpStreams S → Type 0
  TakesSteps p met q = Else GivesTransmit (Else HandlesEvent (Else VisitsEntries GivesCompletion)) (unclosed_streams p) met q

  -- the same without the last one
  unfoldable pub TakesFirstSteps : SctpStreams S → Met → SctpStreams S → Type 0
  TakesFirstSteps p met q = Else GivesTransmit (Else HandlesEvent VisitsEntries) (unclosed_streams p) met q

  -- streams at rest: steps that met nothing left them as they are
  pub record AreResting (association : S) (state : RtcSctpState) (last : ℕ) (entries : List StreamEntry) : Type 0 where
    pub before : SctpStreams S
    pub after : SctpStreams S
    pub steps : TakesFirstSteps before Nothing after
    pub association_left : association ≡ after.association
    pub state_left : state ≡ after.state
    pub last_left : last ≡ after.last
    pub entries_left : entries ≡ after.entries

  -- a pass: streams at rest stay so, and of others the steps are taken
  abbrev pub PassIf : Bool → SctpStreams S → Met → SctpStreams S → Type 0
  PassIf true p met q = RestsBy p.pushed p met q × AreResting p.association p.state p.last p.entries
  PassIf false p met q = TakesSteps p met q

  unfoldable pub MakesPass : SctpStreams S → Met → SctpStreams S → Type 0
  MakesPass p met q = PassIf p.rests p met q

  -- so many passes made work
  abbrev pub Over : ℕ → SctpStreams S → SctpStreams S → Type 0
  Over zero p q = q ≡ p
  Over (suc n) p q = (between : SctpStreams S) × Over n p between × MakesPass between Again q

  -- a poll
  pub record PollsStreams (p : SctpStreams S) (r : Result (Option SctpEvent) AllocError) (q : SctpStreams S) : Type 0 where
    pub passes : ℕ
    pub between : SctpStreams S
    pub met : Met
    pub over : Over passes p between
    pub last : MakesPass between met q
    pub answers : Answers r met

  -- the work that is left: each output takes some away, and so does each pass that made work
  abbrev pub streams_work : SctpStreams S → ℕ
  streams_work p = m.units p.association + credits p.entries + length p.completed + pushed_count p.pushed
