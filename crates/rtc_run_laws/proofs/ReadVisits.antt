-- A visit of an entry that tells data read it of an entry past its opening that is not marked, and that keeps no other generation than its
-- stream has; and the other end did not close that generation.
use Rattle.std.proofs.Common.{◌≡◌, ◌∙◌, ℕ, ◌&&◌, Bool, true, false, true≢false, List, [], ◌∷◌, Option, Some, None, Result, Ok, Err, refl, sym, ap, subst}
use Rattle.rtc_parts.specs.declared.assoc_error.AssocError.{AssocError}
use Rattle.rtc_parts.specs.declared.assoc_error.AssocError.TheVariants.{StreamExists, ResetPending, NoStream, TooLong, Closing, Fault, Alloc}
use Rattle.rtc_parts.specs.declared.ppi.Ppi.{Ppi}
use Rattle.rtc_parts.specs.declared.ppi.Ppi.TheVariants as ppi
use Rattle.rtc_parts.specs.AssociationActs.{AssociationAct, Acted, Moved}
use Rattle.rtc_parts.specs.AssociationLaws.{AssociationLaws}
use Rattle.rtc_parts.specs.AssociationMeaning.{AssociationMeaning}
use Rattle.rtc_sctp_entries.specs.declared.asked.Asked.{Asked}
use Rattle.rtc_sctp_entries.specs.declared.asked.Asked.TheVariants as did
use Rattle.rtc_sctp_entries.specs.declared.opening.Opening.{Opening}
use Rattle.rtc_sctp_entries.specs.declared.opening.Opening.TheVariants as opened
use Rattle.rtc_sctp_entries.specs.declared.heard.Heard.{Heard}
use Rattle.rtc_sctp_entries.specs.declared.heard.Heard.TheVariants as heard
use Rattle.rtc_sctp_entries.specs.declared.read_message.ReadMessage.{ReadMessage}
use Rattle.rtc_sctp_entries.specs.declared.read_message.ReadMessage.TheVariants as read
use Rattle.rtc_sctp_entries.specs.declared.buffered_threshold_config.BufferedThresholdConfig.{BufferedThresholdConfig}
use Rattle.rtc_sctp_entries.specs.declared.buffered_threshold_config.BufferedThresholdConfig.TheVariants.{Unconfigured, Desired, Configured}
use Rattle.rtc_sctp_entries.specs.declared.stream_entry_state.StreamEntryState.{StreamEntryState}
use Rattle.rtc_sctp_entries.specs.declared.stream_entry_state.StreamEntryState.TheVariants.{AwaitOpen, AwaitConfig, AwaitDcepAck, Open, Closed}
use Rattle.rtc_sctp_entries.specs.declared.stream_entry.StreamEntry.{StreamEntry}
use Rattle.rtc_sctp_entries.specs.declared.sctp_event.SctpEvent.{SctpEvent}
use Rattle.rtc_sctp_entries.specs.declared.sctp_event.SctpEvent.TheVariants as event
use Rattle.rtc_sctp_entries.specs.declared.met.Met.{Met}
use Rattle.rtc_sctp_entries.specs.declared.met.Met.TheVariants.{Nothing, Again, Output, OutOfMemory}
use Rattle.rtc_sctp_entries.specs.Answers.{heard_of}
use Rattle.rtc_sctp_entries.specs.Entries.{fits_generation, is_out_of_band, is_short_entry}
use Rattle.rtc_sctp_entries.specs.StreamLaws.{is_data_met}
use Rattle.rtc_sctp_entries.specs.Visits.{Turn, is_opening_over, Settles, TakesAck, ClosedBy, Closes, NoRoom, Ended, AnnouncedBy, Announces, NoMessage, Written, AnnouncesIf, BegunAs, BegunBy, Begins, RetriedIf, RetriedAt, is_adopted, AdoptedIf, OpenedBy, OpensEntry, AcknowledgedBy, Acknowledges, TakenUpBy, TakesUp, TakenAs, TakesDcep, TakesStreamMessage, ReadBy, MayRead, IsRead, NothingUnread, HandedBy, AttendsBy, AttendsIf, is_entry_there, VisitsIn}
use Rattle.rtc_sctp_laws.specs.GenerationLaws.{GenerationLaws}
use Rattle.rtc_sctp_laws.specs.StreamRuns.{is_past_opening}
use Rattle.rtc_sctp_laws.proofs.ActLemmas.{read_did}
use Rattle.rtc_sctp_laws.proofs.KeptUses.{did_keeps}

-- associations of which nothing is read of a generation that the other end closed, by what each act leaves
pub record ReadLaws {S : Type 0} (m : AssociationMeaning S) (sound : S → Type 0) : Type 0 where
  pub acts : (a b : S) (act : AssociationAct) → Acted m a act b → sound a → sound b
  pub reads : (a b : S) (s : ℕ) (message : Ppi × List ℕ) → sound a → m.read a s (Ok (Some message)) b → m.finished b s ≡ false

pub is_data : (met : Met) (id : ℕ) (binary : Bool) (bytes : List ℕ) → met ≡ Output (event.Data id binary bytes) → is_data_met met ≡ true
is_data met id binary bytes h = ap is_data_met h

data_id : (n id : ℕ) (b c : Bool) (xs ys : List ℕ) → Output (event.Data n b xs) ≡ Output (event.Data id c ys) → n ≡ id
data_id n id b c xs ys h = cc

no_message : (i : Ppi) (bytes : List ℕ) → heard.Nothing ≡ heard.Message i bytes → ⊥
no_message i bytes h = cc

no_refused : (i : Ppi) (bytes : List ℕ) → heard.Refused ≡ heard.Message i bytes → ⊥
no_refused i bytes h = cc

no_memory : (i : Ppi) (bytes : List ℕ) → heard.OutOfMemory ≡ heard.Message i bytes → ⊥
no_memory i bytes h = cc

-- a message was read
message_read : (r : Result (Option (Ppi × List ℕ)) AssocError) (i : Ppi) (bytes : List ℕ) → heard_of r ≡ heard.Message i bytes
    → (x : Ppi × List ℕ) × (r ≡ Ok (Some x))
message_read (Ok None) i bytes h = absurd (no_message i bytes h)
message_read (Ok (Some x)) i bytes h = (x, refl)
message_read (Err Alloc) i bytes h = absurd (no_memory i bytes h)
message_read (Err StreamExists) i bytes h = absurd (no_refused i bytes h)
message_read (Err ResetPending) i bytes h = absurd (no_refused i bytes h)
message_read (Err NoStream) i bytes h = absurd (no_refused i bytes h)
message_read (Err TooLong) i bytes h = absurd (no_refused i bytes h)
message_read (Err Closing) i bytes h = absurd (no_refused i bytes h)
message_read (Err Fault) i bytes h = absurd (no_refused i bytes h)

second_true : (a b : Bool) → (a && b) ≡ true → b ≡ true
second_true true b h = h
second_true false b h = absurd (true≢false (sym h))

module _ {S : Type 0} (m : AssociationMeaning S) where
  -- an entry of a stream that data was told of
  pub record IsTold (n : ℕ) (a : S) (e : StreamEntry) : Type 0 where
    pub unmarked : e.marked ≡ false
    pub past : is_past_opening e.state ≡ true
    pub fits : fits_generation e.generation (m.generation a n) ≡ true
    pub unended : m.finished a n ≡ false

  -- a visit that tells data tells it of the entry
  abbrev pub Reads : Met → Turn S → Type 0
  Reads met t' =
      (id : ℕ) (binary : Bool) (bytes : List ℕ) → met ≡ Output (event.Data id binary bytes)
      → (t'.entry.id ≡ id) × IsTold id t'.association t'.entry

  none : (met r : Met) (t' : Turn S) → met ≡ r → is_data_met r ≡ false → Reads met t'
  none met r t' is dumb = λ id binary bytes e. absurd (true≢false (sym (is_data met id binary bytes e) ∙ ap is_data_met is ∙ dumb))

  -- ---- what tells no data

  closed_by : (answer : Asked) (t : Turn S) (met : Met) (t' : Turn S) → ClosedBy m answer t met t' → Reads met t'
  closed_by did.Done t met t' h = none met _ t' h.0 refl
  closed_by did.Refused t met t' h = none met _ t' h.0 refl
  closed_by did.OutOfMemory t met t' h = none met OutOfMemory t' h.0 refl

  closes : (t : Turn S) (met : Met) (t' : Turn S) → Closes m t met t' → Reads met t'
  closes t met t' (NoRoom h) = none met OutOfMemory t' h.0 refl
  closes t met t' (Ended answer q asks h) = closed_by answer (record t { association = q }) met t' h

  announced_by : (answer : Asked) (t : Turn S) (met : Met) (t' : Turn S) → AnnouncedBy m answer t met t' → Reads met t'
  announced_by did.Done t met t' h = none met Again t' h.0 refl
  announced_by did.Refused t met t' h = closes t met t' h
  announced_by did.OutOfMemory t met t' h = none met OutOfMemory t' h.0 refl

  announces : (t : Turn S) (met : Met) (t' : Turn S) → Announces m t met t' → Reads met t'
  announces t met t' (NoMessage h) = none met OutOfMemory t' h.0 refl
  announces t met t' (Written answer q asks h) = announced_by answer (record t { association = q }) met t' h

  announces_if : (b : Bool) (t : Turn S) (met : Met) (t' : Turn S) → AnnouncesIf m b t met t' → Reads met t'
  announces_if true t met t' h = announces t met t' h
  announces_if false t met t' h = closes t met t' h

  settles : (e : StreamEntry) (met : Met) (t' : Turn S) → Settles e met t'.entry → Reads met t'
  settles e Nothing t' h = absurd h
  settles e Again t' h = absurd h
  settles e (Output o) t' h = none (Output o) _ t' (ap (λ (x : SctpEvent). Output x) h.0) refl
  settles e OutOfMemory t' h = none OutOfMemory OutOfMemory t' refl refl

  begun_as : (b : Bool) (t : Turn S) (met : Met) (t' : Turn S) → BegunAs m b t met t' → Reads met t'
  begun_as true t met t' h = settles t.entry met t' h.0
  begun_as false t met t' h = announces_if (is_short_entry t.entry) t met t' h

  begun_by : (answer : Asked) (t : Turn S) (met : Met) (t' : Turn S) → BegunBy m answer t met t' → Reads met t'
  begun_by did.Done t met t' h = begun_as (is_out_of_band t.entry) t met t' h
  begun_by did.Refused t met t' h = closes t met t' h
  begun_by did.OutOfMemory t met t' h = none met OutOfMemory t' h.0 refl

  begins : (t : Turn S) (met : Met) (t' : Turn S) → Begins m t met t' → Reads met t'
  begins t met t' h = begun_by h.answer (record t { association = h.between }) met t' h.then

  retried_if : (b : Bool) (t : Turn S) (met : Met) (t' : Turn S) → RetriedIf m b t met t' → Reads met t'
  retried_if true t met t' h = closes t met t' h
  retried_if false t met t' h = none met Nothing t' h.0 refl

  retried_at : (now : ℕ) (first : Option ℕ) (t : Turn S) (met : Met) (t' : Turn S) → RetriedAt m now first t met t' → Reads met t'
  retried_at now None t met t' h = none met Nothing t' h.0 refl
  retried_at now (Some first) t met t' h = retried_if (is_opening_over first now) t met t' h

  adopted_if : (b : Bool) (now : ℕ) (t : Turn S) (met : Met) (t' : Turn S) → AdoptedIf m b now t met t' → Reads met t'
  adopted_if true now t met t' h = begins t met t' h
  adopted_if false now t met t' h = retried_at now t.entry.refused t met t' h

  opened_by : (answer : Opening) (now : ℕ) (t : Turn S) (met : Met) (t' : Turn S) → OpenedBy m answer now t met t' → Reads met t'
  opened_by opened.Done now t met t' h = begins t met t' h
  opened_by opened.Exists now t met t' h = adopted_if (is_adopted m t) now t met t' h
  opened_by opened.Pending now t met t' h = retried_at now t.entry.refused t met t' h
  opened_by opened.Refused now t met t' h = closes t met t' h
  opened_by opened.OutOfMemory now t met t' h = none met OutOfMemory t' h.0 refl

  opens_entry : (now : ℕ) (t : Turn S) (met : Met) (t' : Turn S) → OpensEntry m now t met t' → Reads met t'
  opens_entry now t met t' h = opened_by h.answer now (record t { association = h.between }) met t' h.then

  acknowledged_by : (answer : Asked) (label : List ℕ) (t : Turn S) (met : Met) (t' : Turn S) → AcknowledgedBy m answer label t met t' → Reads met t'
  acknowledged_by did.Done label t met t' h = none met _ t' h.0 refl
  acknowledged_by did.Refused label t met t' h = closes t met t' h
  acknowledged_by did.OutOfMemory label t met t' h = none met OutOfMemory t' h.0 refl

  acknowledges : (label : List ℕ) (t : Turn S) (met : Met) (t' : Turn S) → Acknowledges m label t met t' → Reads met t'
  acknowledges label t met t' h = acknowledged_by h.answer label (record t { association = h.between }) met t' h.then

  taken_up_by : (answer : Asked) (label : List ℕ) (t : Turn S) (met : Met) (t' : Turn S) → TakenUpBy m answer label t met t' → Reads met t'
  taken_up_by did.Done label t met t' h = acknowledges label t met t' h
  taken_up_by did.Refused label t met t' h = none met Again t' h.0 refl
  taken_up_by did.OutOfMemory label t met t' h = none met OutOfMemory t' h.0 refl

  takes_up : (label : List ℕ) (t : Turn S) (met : Met) (t' : Turn S) → TakesUp m label t met t' → Reads met t'
  takes_up label t met t' h = taken_up_by h.answer label (record t { association = h.between }) met t' h.then

  taken_as : (message : ReadMessage) (t : Turn S) (met : Met) (t' : Turn S) → TakenAs m message t met t' → Reads met t'
  taken_as (read.Open label config) t met t' h = takes_up label _ met t' h
  taken_as read.Malformed t met t' h = none met Again t' h.0 refl
  taken_as read.OutOfMemory t met t' h = none met OutOfMemory t' h.0 refl

  takes_ack : (bytes : List ℕ) (e : StreamEntry) (met : Met) (t' : Turn S) → TakesAck bytes e met t'.entry → Reads met t'
  takes_ack bytes e Nothing t' h = absurd h
  takes_ack bytes e Again t' h = none Again Again t' refl refl
  takes_ack bytes e (Output told) t' h = settles e (Output told) t' h.1
  takes_ack bytes e OutOfMemory t' h = settles e OutOfMemory t' h.1

  takes_dcep : (st : StreamEntryState) (bytes : List ℕ) (t : Turn S) (met : Met) (t' : Turn S) → TakesDcep m st bytes t met t' → Reads met t'
  takes_dcep AwaitConfig bytes t met t' h = taken_as h.message t met t' h.then
  takes_dcep AwaitDcepAck bytes t met t' h = takes_ack bytes t.entry met t' h.0
  takes_dcep AwaitOpen bytes t met t' h = none met Again t' h.0 refl
  takes_dcep Open bytes t met t' h = none met Again t' h.0 refl
  takes_dcep Closed bytes t met t' h = none met Again t' h.0 refl

  -- ---- messages

  gives : (binary : Bool) (bytes : List ℕ) (t : Turn S) (met : Met) (t' : Turn S) → IsTold t.entry.id t.association t.entry
      → met ≡ Output (event.Data t.entry.id binary bytes) → t' ≡ t → Reads met t'
  gives binary bytes t met t' told is same = λ id b xs e.
      let number : t.entry.id ≡ id = data_id t.entry.id id binary b bytes xs (sym is ∙ e) in
      subst (λ (x : Turn S). (x.entry.id ≡ id) × IsTold id x.association x.entry) (sym same)
      (number, subst (λ (n : ℕ). IsTold n t.association t.entry) number told)

  message : (i : Ppi) (bytes : List ℕ) (t : Turn S) (met : Met) (t' : Turn S) → IsTold t.entry.id t.association t.entry
      → TakesStreamMessage m i bytes t met t' → Reads met t'
  message ppi.Dcep bytes t met t' told h = takes_dcep t.entry.state bytes t met t' h
  message ppi.Text bytes t met t' told h = gives false bytes t met t' told h.0 h.1
  message ppi.Binary bytes t met t' told h = gives true bytes t met t' told h.0 h.1
  message ppi.EmptyText bytes t met t' told h = gives false [] t met t' told h.0 h.1
  message ppi.EmptyBinary bytes t met t' told h = gives true [] t met t' told h.0 h.1
  message (ppi.Other n) bytes t met t' told h = none met Again t' h.0 refl

  read_by : (answer : Heard) (t : Turn S) (met : Met) (t' : Turn S)
      → ((i : Ppi) (bytes : List ℕ) → answer ≡ heard.Message i bytes → IsTold t.entry.id t.association t.entry) → ReadBy m answer t met t'
      → Reads met t'
  read_by heard.Nothing t met t' told h = none met Nothing t' h.0 refl
  read_by (heard.Message i bytes) t met t' told h = message i bytes t met t' (told i bytes refl) h
  read_by heard.Refused t met t' told h = none met Again t' h.0 refl
  read_by heard.OutOfMemory t met t' told h = none met OutOfMemory t' h.0 refl

  handed : (answer : Asked) (n : ℕ) (t : Turn S) (met : Met) (t' : Turn S) → HandedBy m answer n t met t' → Reads met t'
  handed did.Done n t met t' h = none met Again t' h.0 refl
  handed did.Refused n t met t' h = none met Again t' h.0 refl
  handed did.OutOfMemory n t met t' h = none met OutOfMemory t' h.0 refl

  module _ (w : AssociationLaws m) (v : GenerationLaws m) (sound : S → Type 0) (u : ReadLaws m sound) where
    pub sound_acts : (acts : List AssociationAct) (a b : S) → Moved m a acts b → sound a → sound b
    sound_acts [] a b h k = subst sound (sym h) k
    sound_acts (act ∷ acts) a b h k = sound_acts acts h.0 b h.1.1 (u.acts a h.0 act h.1.0 k)

    may_read : (t : Turn S) (met : Met) (t' : Turn S) → t.entry.marked ≡ false → is_past_opening t.entry.state ≡ true
        → is_entry_there m t.association t.entry ≡ true → sound t.association → MayRead m t met t' → Reads met t'
    may_read t met t' free past there k (IsRead h) =
        read_by h.answer (record t { association = h.between }) met t'
        (λ i bytes e.
        let one = message_read h.asks.result i bytes (h.asks.is ∙ e) in
        let found = subst (λ (r : Result (Option (Ppi × List ℕ)) AssocError). m.read t.association t.entry.id r h.between) one.1 h.asks.called in
        record {
          unmarked = free;
          past = past;
          fits =
              subst (λ (n : ℕ). fits_generation t.entry.generation n ≡ true)
              (sym (did_keeps m v t.entry.id [] [] [] _ t.association h.between (read_did m w t.association h.between t.entry.id h.asks.result h.asks.called)).generation_is)
              (second_true (m.has_stream t.association t.entry.id) (fits_generation t.entry.generation (m.generation t.association t.entry.id)) there);
          unended = u.reads t.association h.between t.entry.id one.0 k found;
        }) h.then
    may_read t met t' free past there k (NothingUnread unread e f) = none met Nothing t' e refl

    attends_by : (b : BufferedThresholdConfig) (t : Turn S) (met : Met) (t' : Turn S) → t.entry.marked ≡ false → is_past_opening t.entry.state ≡ true
        → is_entry_there m t.association t.entry ≡ true → sound t.association → AttendsBy m b t met t' → Reads met t'
    attends_by (Desired n) t met t' free past there k h = handed h.answer n (record t { association = h.between }) met t' h.then
    attends_by Unconfigured t met t' free past there k h = may_read t met t' free past there k h
    attends_by (Configured n) t met t' free past there k h = may_read t met t' free past there k h

    attends_if : (marked there : Bool) (t : Turn S) (met : Met) (t' : Turn S) → t.entry.marked ≡ marked → is_past_opening t.entry.state ≡ true
        → is_entry_there m t.association t.entry ≡ there → sound t.association → AttendsIf m marked there t met t' → Reads met t'
    attends_if true there t met t' is past found k h = closes t met t' h
    attends_if false false t met t' is past found k h = none met Again t' h.0 refl
    attends_if false true t met t' is past found k h = attends_by t.entry.threshold t met t' is past found k h

    pub visits_in : (st : StreamEntryState) (now : ℕ) (t : Turn S) (met : Met) (t' : Turn S) → t.entry.state ≡ st → sound t.association
        → VisitsIn m st now t met t' → Reads met t'
    visits_in AwaitOpen now t met t' is k h = opens_entry now t met t' h
    visits_in AwaitConfig now t met t' is k h =
        attends_if t.entry.marked (is_entry_there m t.association t.entry) t met t' refl (ap is_past_opening is) refl k h
    visits_in AwaitDcepAck now t met t' is k h =
        attends_if t.entry.marked (is_entry_there m t.association t.entry) t met t' refl (ap is_past_opening is) refl k h
    visits_in Open now t met t' is k h =
        attends_if t.entry.marked (is_entry_there m t.association t.entry) t met t' refl (ap is_past_opening is) refl k h
    visits_in Closed now t met t' is k h = none met Nothing t' h.0 refl
