-- An entry that is open in-band behind a visit was so before, or the visit tells that it is open.
use Rattle.std.proofs.Common.{◌≡◌, ◌⊎◌, inl, inr, ℕ, Bool, true, false, List, Option, Some, None, refl, sym, subst, ◌∙◌}
use Rattle.rtc_parts.specs.declared.ppi.Ppi.{Ppi}
use Rattle.rtc_parts.specs.declared.ppi.Ppi.TheVariants as ppi
use Rattle.rtc_parts.specs.AssociationMeaning.{AssociationMeaning}
use Rattle.rtc_sctp_entries.specs.declared.asked.Asked.{Asked}
use Rattle.rtc_sctp_entries.specs.declared.asked.Asked.TheVariants as did
use Rattle.rtc_sctp_entries.specs.declared.opening.Opening.{Opening}
use Rattle.rtc_sctp_entries.specs.declared.opening.Opening.TheVariants as opened
use Rattle.rtc_sctp_entries.specs.declared.heard.Heard.{Heard}
use Rattle.rtc_sctp_entries.specs.declared.heard.Heard.TheVariants as heard
use Rattle.rtc_sctp_entries.specs.declared.read_message.ReadMessage.{ReadMessage}
use Rattle.rtc_sctp_entries.specs.declared.read_message.ReadMessage.TheVariants as read
use Rattle.rtc_sctp_entries.specs.declared.buffered_threshold_config.BufferedThresholdConfig.{BufferedThresholdConfig}
use Rattle.rtc_sctp_entries.specs.declared.buffered_threshold_config.BufferedThresholdConfig.TheVariants.{Unconfigured, Desired, Configured}
use Rattle.rtc_sctp_entries.specs.declared.stream_entry_state.StreamEntryState.{StreamEntryState}
use Rattle.rtc_sctp_entries.specs.declared.stream_entry_state.StreamEntryState.TheVariants.{AwaitOpen, AwaitConfig, AwaitDcepAck, Open, Closed}
use Rattle.rtc_sctp_entries.specs.declared.stream_entry.StreamEntry.{StreamEntry}
use Rattle.rtc_sctp_entries.specs.declared.sctp_event.SctpEvent.{SctpEvent}
use Rattle.rtc_sctp_entries.specs.declared.sctp_event.SctpEvent.TheVariants as event
use Rattle.rtc_sctp_entries.specs.declared.met.Met.{Met}
use Rattle.rtc_sctp_entries.specs.declared.met.Met.TheVariants.{Nothing, Again, Output, OutOfMemory}
use Rattle.rtc_sctp_entries.specs.Entries.{is_short_entry, is_out_of_band}
use Rattle.rtc_sctp_entries.specs.Visits.{Turn, is_opening_over, Marks, Starves, Settles, TakesAck, ClosedBy, Closes, NoRoom, Ended, AnnouncedBy, Announces, NoMessage, Written, AnnouncesIf, BegunAs, BegunBy, Begins, RetriedIf, RetriedAt, is_adopted, AdoptedIf, OpenedBy, OpensEntry, AcknowledgedBy, Acknowledges, TakenUpBy, TakesUp, TakenAs, TakesDcep, TakesStreamMessage, ReadBy, MayRead, IsRead, NothingUnread, HandedBy, AttendsBy, AttendsIf, is_entry_there, VisitsIn, Visits}
use Rattle.rtc_sctp_laws.specs.StreamUses.{IsOpenInBand, TellsStreamOpen}

-- what a visit leaves open was open, or is told to be
abbrev pub OpensTold : Met → StreamEntry → StreamEntry → Type 0
OpensTold met e e' = (o : Option ℕ) → IsOpenInBand o e' → IsOpenInBand o e ⊎ TellsStreamOpen met e.id

-- an entry of the same stream is open only as this one is
pub record IsAsOpen (e f : StreamEntry) : Type 0 where
  pub id_is : f.id ≡ e.id
  pub opens : (o : Option ℕ) → IsOpenInBand o f → IsOpenInBand o e

closed_open : Closed ≡ Open → ⊥
closed_open h = cc

config_open : AwaitConfig ≡ Open → ⊥
config_open h = cc

ack_open : AwaitDcepAck ≡ Open → ⊥
ack_open h = cc

module _ {S : Type 0} (m : AssociationMeaning S) (e : StreamEntry) where
  by_turn : (r : Met) (u : Turn S) (met : Met) (t' : Turn S) → met ≡ r → t' ≡ u → OpensTold r e u.entry → OpensTold met e t'.entry
  by_turn r u met t' is same h =
      subst (λ (x : Met). OpensTold x e t'.entry) (sym is) (subst (λ (x : Turn S). OpensTold r e x.entry) (sym same) h)

  starves : (t : Turn S) (met : Met) (t' : Turn S) → IsAsOpen e t.entry → Starves t met t' → OpensTold met e t'.entry
  starves t met t' k h = by_turn OutOfMemory t met t' h.0 h.1 (λ o x. inl (k.opens o x))

  marks : (t : Turn S) (met : Met) (t' : Turn S) → IsAsOpen e t.entry → Marks t met t' → OpensTold met e t'.entry
  marks t met t' k h = by_turn Again _ met t' h.0 h.1 (λ o x. inl (k.opens o x))

  closed_by : (answer : Asked) (t : Turn S) (met : Met) (t' : Turn S) → IsAsOpen e t.entry → ClosedBy m answer t met t' → OpensTold met e t'.entry
  closed_by did.Done t met t' k h = by_turn _ _ met t' h.0 h.1 (λ o x. absurd (closed_open x.0))
  closed_by did.Refused t met t' k h = by_turn _ _ met t' h.0 h.1 (λ o x. absurd (closed_open x.0))
  closed_by did.OutOfMemory t met t' k h = starves t met t' k h

  closes : (t : Turn S) (met : Met) (t' : Turn S) → IsAsOpen e t.entry → Closes m t met t' → OpensTold met e t'.entry
  closes t met t' k (NoRoom h) = starves t met t' k h
  closes t met t' k (Ended answer q asks h) = closed_by answer (record t { association = q }) met t' k h

  settles : (f : StreamEntry) (met : Met) (f' : StreamEntry) → IsAsOpen e f → Settles f met f' → OpensTold met e f'
  settles f Nothing f' k h = absurd h
  settles f Again f' k h = absurd h
  settles f (Output told) f' k h = λ o x. inr (subst (λ (y : SctpEvent). TellsStreamOpen (Output y) e.id) (sym h.0) k.id_is)
  settles f OutOfMemory f' k h = λ o x. inl (k.opens o (subst (λ (y : StreamEntry). IsOpenInBand o y) h x))

  takes_ack : (bytes : List ℕ) (f : StreamEntry) (met : Met) (f' : StreamEntry) → IsAsOpen e f → TakesAck bytes f met f' → OpensTold met e f'
  takes_ack bytes f Nothing f' k h = absurd h
  takes_ack bytes f Again f' k h = λ o x. inl (k.opens o (subst (λ (y : StreamEntry). IsOpenInBand o y) h.1 x))
  takes_ack bytes f (Output told) f' k h = settles f (Output told) f' k h.1
  takes_ack bytes f OutOfMemory f' k h = settles f OutOfMemory f' k h.1

  -- an opening
  announced_by : (answer : Asked) (t : Turn S) (met : Met) (t' : Turn S) → IsAsOpen e t.entry → AnnouncedBy m answer t met t' → OpensTold met e t'.entry
  announced_by did.Done t met t' k h = by_turn _ _ met t' h.0 h.1 (λ o x. absurd (ack_open x.0))
  announced_by did.Refused t met t' k h = closes t met t' k h
  announced_by did.OutOfMemory t met t' k h = starves t met t' k h

  announces : (t : Turn S) (met : Met) (t' : Turn S) → IsAsOpen e t.entry → Announces m t met t' → OpensTold met e t'.entry
  announces t met t' k (NoMessage h) = starves t met t' k h
  announces t met t' k (Written answer q asks h) = announced_by answer (record t { association = q }) met t' k h

  announces_if : (b : Bool) (t : Turn S) (met : Met) (t' : Turn S) → IsAsOpen e t.entry → AnnouncesIf m b t met t' → OpensTold met e t'.entry
  announces_if true t met t' k h = announces t met t' k h
  announces_if false t met t' k h = closes t met t' k h

  begun_as : (b : Bool) (t : Turn S) (met : Met) (t' : Turn S) → IsAsOpen e t.entry → BegunAs m b t met t' → OpensTold met e t'.entry
  begun_as true t met t' k h = settles t.entry met t'.entry k h.0
  begun_as false t met t' k h = announces_if (is_short_entry t.entry) t met t' k h

  begun_by : (answer : Asked) (t : Turn S) (met : Met) (t' : Turn S) → IsAsOpen e t.entry → BegunBy m answer t met t' → OpensTold met e t'.entry
  begun_by did.Done t met t' k h = begun_as (is_out_of_band t.entry) t met t' k h
  begun_by did.Refused t met t' k h = closes t met t' k h
  begun_by did.OutOfMemory t met t' k h = starves t met t' k h

  begins : (t : Turn S) (met : Met) (t' : Turn S) → IsAsOpen e t.entry → Begins m t met t' → OpensTold met e t'.entry
  begins t met t' k h = begun_by h.answer (record t { association = h.between }) met t' k h.then

  retried_if : (b : Bool) (t : Turn S) (met : Met) (t' : Turn S) → IsAsOpen e t.entry → RetriedIf m b t met t' → OpensTold met e t'.entry
  retried_if true t met t' k h = closes t met t' k h
  retried_if false t met t' k h = by_turn Nothing t met t' h.0 h.1 (λ o x. inl (k.opens o x))

  retried_at : (now : ℕ) (first : Option ℕ) (t : Turn S) (met : Met) (t' : Turn S) → IsAsOpen e t.entry → RetriedAt m now first t met t'
      → OpensTold met e t'.entry
  retried_at now None t met t' k h = by_turn Nothing _ met t' h.0 h.1 (λ o x. inl (k.opens o x))
  retried_at now (Some first) t met t' k h = retried_if (is_opening_over first now) t met t' k h

  adopted_if : (b : Bool) (now : ℕ) (t : Turn S) (met : Met) (t' : Turn S) → IsAsOpen e t.entry → AdoptedIf m b now t met t' → OpensTold met e t'.entry
  adopted_if true now t met t' k h = begins t met t' k h
  adopted_if false now t met t' k h = retried_at now t.entry.refused t met t' k h

  opened_by : (answer : Opening) (now : ℕ) (t : Turn S) (met : Met) (t' : Turn S) → IsAsOpen e t.entry → OpenedBy m answer now t met t'
      → OpensTold met e t'.entry
  opened_by opened.Done now t met t' k h = begins t met t' k h
  opened_by opened.Exists now t met t' k h = adopted_if (is_adopted m t) now t met t' k h
  opened_by opened.Pending now t met t' k h = retried_at now t.entry.refused t met t' k h
  opened_by opened.Refused now t met t' k h = closes t met t' k h
  opened_by opened.OutOfMemory now t met t' k h = starves t met t' k h

  opens_entry : (now : ℕ) (t : Turn S) (met : Met) (t' : Turn S) → IsAsOpen e t.entry → OpensEntry m now t met t' → OpensTold met e t'.entry
  opens_entry now t met t' k h = opened_by h.answer now (record t { association = h.between }) met t' k h.then

  -- an open message
  acknowledged_by : (answer : Asked) (label : List ℕ) (t : Turn S) (met : Met) (t' : Turn S) → IsAsOpen e t.entry → AcknowledgedBy m answer label t met t'
      → OpensTold met e t'.entry
  acknowledged_by did.Done label t met t' k h = by_turn (Output (event.Open t.entry.id label)) _ met t' h.0 h.1 (λ o x. inr k.id_is)
  acknowledged_by did.Refused label t met t' k h = closes t met t' k h
  acknowledged_by did.OutOfMemory label t met t' k h = starves t met t' k h

  acknowledges : (label : List ℕ) (t : Turn S) (met : Met) (t' : Turn S) → IsAsOpen e t.entry → Acknowledges m label t met t' → OpensTold met e t'.entry
  acknowledges label t met t' k h = acknowledged_by h.answer label (record t { association = h.between }) met t' k h.then

  taken_up_by : (answer : Asked) (label : List ℕ) (t : Turn S) (met : Met) (t' : Turn S) → IsAsOpen e t.entry → TakenUpBy m answer label t met t'
      → OpensTold met e t'.entry
  taken_up_by did.Done label t met t' k h = acknowledges label t met t' k h
  taken_up_by did.Refused label t met t' k h = marks t met t' k h
  taken_up_by did.OutOfMemory label t met t' k h = starves t met t' k h

  takes_up : (label : List ℕ) (t : Turn S) (met : Met) (t' : Turn S) → IsAsOpen e t.entry → TakesUp m label t met t' → OpensTold met e t'.entry
  takes_up label t met t' k h = taken_up_by h.answer label (record t { association = h.between }) met t' k h.then

  taken_as : (message : ReadMessage) (t : Turn S) (met : Met) (t' : Turn S) → (t.entry.state ≡ Open → ⊥) → IsAsOpen e t.entry → TakenAs m message t met t'
      → OpensTold met e t'.entry
  taken_as (read.Open label config) t met t' none k h = takes_up label _ met t' (record { id_is = k.id_is; opens = λ o x. absurd (none x.0) }) h
  taken_as read.Malformed t met t' none k h = marks t met t' k h
  taken_as read.OutOfMemory t met t' none k h = starves t met t' k h

  takes_dcep : (st : StreamEntryState) (bytes : List ℕ) (t : Turn S) (met : Met) (t' : Turn S) → t.entry.state ≡ st → IsAsOpen e t.entry
      → TakesDcep m st bytes t met t' → OpensTold met e t'.entry
  takes_dcep AwaitConfig bytes t met t' is k h = taken_as h.message t met t' (λ f. config_open (sym is ∙ f)) k h.then
  takes_dcep AwaitDcepAck bytes t met t' is k h = takes_ack bytes t.entry met t'.entry k h.0
  takes_dcep AwaitOpen bytes t met t' is k h = marks t met t' k h
  takes_dcep Open bytes t met t' is k h = marks t met t' k h
  takes_dcep Closed bytes t met t' is k h = marks t met t' k h

  -- messages
  gives : (told : SctpEvent) (t : Turn S) (met : Met) (t' : Turn S) → IsAsOpen e t.entry → met ≡ Output told → t' ≡ t → OpensTold met e t'.entry
  gives told t met t' k is same = by_turn (Output told) t met t' is same (λ o x. inl (k.opens o x))

  message : (i : Ppi) (bytes : List ℕ) (t : Turn S) (met : Met) (t' : Turn S) → IsAsOpen e t.entry → TakesStreamMessage m i bytes t met t'
      → OpensTold met e t'.entry
  message ppi.Dcep bytes t met t' k h = takes_dcep t.entry.state bytes t met t' refl k h
  message ppi.Text bytes t met t' k h = gives _ t met t' k h.0 h.1
  message ppi.Binary bytes t met t' k h = gives _ t met t' k h.0 h.1
  message ppi.EmptyText bytes t met t' k h = gives _ t met t' k h.0 h.1
  message ppi.EmptyBinary bytes t met t' k h = gives _ t met t' k h.0 h.1
  message (ppi.Other n) bytes t met t' k h = marks t met t' k h

  read_by : (answer : Heard) (t : Turn S) (met : Met) (t' : Turn S) → IsAsOpen e t.entry → ReadBy m answer t met t' → OpensTold met e t'.entry
  read_by heard.Nothing t met t' k h = by_turn Nothing t met t' h.0 h.1 (λ o x. inl (k.opens o x))
  read_by (heard.Message i bytes) t met t' k h = message i bytes t met t' k h
  read_by heard.Refused t met t' k h = marks t met t' k h
  read_by heard.OutOfMemory t met t' k h = starves t met t' k h

  handed : (answer : Asked) (n : ℕ) (t : Turn S) (met : Met) (t' : Turn S) → IsAsOpen e t.entry → HandedBy m answer n t met t' → OpensTold met e t'.entry
  handed did.Done n t met t' k h = by_turn Again _ met t' h.0 h.1 (λ o x. inl (k.opens o x))
  handed did.Refused n t met t' k h = by_turn Again _ met t' h.0 h.1 (λ o x. inl (k.opens o x))
  handed did.OutOfMemory n t met t' k h = starves t met t' k h

  may_read : (t : Turn S) (met : Met) (t' : Turn S) → IsAsOpen e t.entry → MayRead m t met t' → OpensTold met e t'.entry
  may_read t met t' k (IsRead h) = read_by h.answer (record t { association = h.between }) met t' k h.then
  may_read t met t' k (NothingUnread unread same_met same) = by_turn Nothing t met t' same_met same (λ o x. inl (k.opens o x))

  attends_by : (b : BufferedThresholdConfig) (t : Turn S) (met : Met) (t' : Turn S) → IsAsOpen e t.entry → AttendsBy m b t met t' → OpensTold met e t'.entry
  attends_by (Desired n) t met t' k h = handed h.answer n (record t { association = h.between }) met t' k h.then
  attends_by Unconfigured t met t' k h = may_read t met t' k h
  attends_by (Configured n) t met t' k h = may_read t met t' k h

  attends_if : (b there : Bool) (t : Turn S) (met : Met) (t' : Turn S) → IsAsOpen e t.entry → AttendsIf m b there t met t' → OpensTold met e t'.entry
  attends_if true there t met t' k h = closes t met t' k h
  attends_if false false t met t' k h = marks t met t' k h
  attends_if false true t met t' k h = attends_by t.entry.threshold t met t' k h

  visits_in : (st : StreamEntryState) (now : ℕ) (t : Turn S) (met : Met) (t' : Turn S) → IsAsOpen e t.entry → VisitsIn m st now t met t'
      → OpensTold met e t'.entry
  visits_in AwaitOpen now t met t' k h = opens_entry now t met t' k h
  visits_in AwaitConfig now t met t' k h = attends_if t.entry.marked (is_entry_there m t.association t.entry) t met t' k h
  visits_in AwaitDcepAck now t met t' k h = attends_if t.entry.marked (is_entry_there m t.association t.entry) t met t' k h
  visits_in Open now t met t' k h = attends_if t.entry.marked (is_entry_there m t.association t.entry) t met t' k h
  visits_in Closed now t met t' k h = by_turn Nothing t met t' h.0 h.1 (λ o x. inl (k.opens o x))

module _ {S : Type 0} (m : AssociationMeaning S) where
  pub visit_opens : (now : ℕ) (t : Turn S) (met : Met) (t' : Turn S) → Visits m now t met t' → OpensTold met t.entry t'.entry
  visit_opens now t met t' h = visits_in m t.entry t.entry.state now t met t' (record { id_is = refl; opens = λ o x. x }) h
