-- A visit of an entry that waits to be opened over a stream that is there, or is shut besides, leaves it so.
use Rattle.std.proofs.Common.{◌≡◌, ◌∙◌, inl, inr, ℕ, ◌&&◌, Bool, true, false, true≢false, List, Option, Some, None, Result, Ok, Err, refl, sym, subst}
use Rattle.rtc_parts.specs.declared.assoc_error.AssocError.{AssocError}
use Rattle.rtc_parts.specs.declared.assoc_error.AssocError.TheVariants.{StreamExists, ResetPending, NoStream, TooLong, Closing, Fault, Alloc}
use Rattle.rtc_parts.specs.declared.ppi.Ppi.{Ppi}
use Rattle.rtc_parts.specs.declared.ppi.Ppi.TheVariants as ppi
use Rattle.rtc_parts.specs.AssociationMeaning.{AssociationMeaning}
use Rattle.rtc_sctp_entries.specs.declared.asked.Asked.{Asked}
use Rattle.rtc_sctp_entries.specs.declared.asked.Asked.TheVariants as did
use Rattle.rtc_sctp_entries.specs.declared.opening.Opening.{Opening}
use Rattle.rtc_sctp_entries.specs.declared.heard.Heard.{Heard}
use Rattle.rtc_sctp_entries.specs.declared.heard.Heard.TheVariants as heard
use Rattle.rtc_sctp_entries.specs.declared.buffered_threshold_config.BufferedThresholdConfig.{BufferedThresholdConfig}
use Rattle.rtc_sctp_entries.specs.declared.buffered_threshold_config.BufferedThresholdConfig.TheVariants.{Unconfigured, Desired, Configured}
use Rattle.rtc_sctp_entries.specs.declared.stream_entry_state.StreamEntryState.{StreamEntryState}
use Rattle.rtc_sctp_entries.specs.declared.stream_entry_state.StreamEntryState.TheVariants.{AwaitOpen, AwaitConfig, AwaitDcepAck, Open, Closed}
use Rattle.rtc_sctp_entries.specs.declared.stream_entry.StreamEntry.{StreamEntry}
use Rattle.rtc_sctp_entries.specs.declared.met.Met.{Met}
use Rattle.rtc_sctp_entries.specs.declared.met.Met.TheVariants.{Nothing, Again, Output, OutOfMemory}
use Rattle.rtc_sctp_entries.specs.Answers.{opening_of}
use Rattle.rtc_sctp_entries.specs.Entries.{is_out_of_band}
use Rattle.rtc_sctp_entries.specs.Visits.{Turn, is_opening_over, Settles, ClosedBy, Closes, NoRoom, Ended, BegunAs, BegunBy, Begins, RetriedIf, RetriedAt, is_adopted, AdoptedIf, OpenedBy, OpensEntry, TakesDcep, TakesStreamMessage, ReadBy, MayRead, IsRead, NothingUnread, HandedBy, AttendsBy, AttendsIf, is_entry_there, VisitsIn, Visits}
use Rattle.rtc_run_laws.proofs.ShutEntries.{IsShutEntry}

first_true : (a b : Bool) → (a && b) ≡ true → a ≡ true
first_true true b h = refl
first_true false b h = absurd (true≢false (sym h))

pub not_config : (e : StreamEntry) → e.state ≡ AwaitConfig → IsShutEntry e → ⊥
not_config e is (inl h) = let clash : AwaitConfig ≡ AwaitOpen = sym is ∙ h in cc
not_config e is (inr (inl h)) = let clash : AwaitConfig ≡ Closed = sym is ∙ h in cc
not_config e is (inr (inr h)) = let clash : AwaitConfig ≡ Open = sym is ∙ h.0 in cc

not_ack : (e : StreamEntry) → e.state ≡ AwaitDcepAck → IsShutEntry e → ⊥
not_ack e is (inl h) = let clash : AwaitDcepAck ≡ AwaitOpen = sym is ∙ h in cc
not_ack e is (inr (inl h)) = let clash : AwaitDcepAck ≡ Closed = sym is ∙ h in cc
not_ack e is (inr (inr h)) = let clash : AwaitDcepAck ≡ Open = sym is ∙ h.0 in cc

module _ {S : Type 0} (m : AssociationMeaning S) (exists : (a b : S) (s : ℕ) → m.has_stream a s ≡ true → m.opened a s (Ok tt) b → ⊥) where
  left_as : (x t : Turn S) → t ≡ x → IsShutEntry x.entry → IsShutEntry t.entry
  left_as x t is h = subst (λ (y : Turn S). IsShutEntry y.entry) (sym is) h

  closed_by : (answer : Asked) (t : Turn S) (met : Met) (t' : Turn S) → IsShutEntry t.entry → ClosedBy m answer t met t' → IsShutEntry t'.entry
  closed_by did.Done t met t' k h = left_as _ t' h.1 (inr (inl refl))
  closed_by did.Refused t met t' k h = left_as _ t' h.1 (inr (inl refl))
  closed_by did.OutOfMemory t met t' k h = left_as t t' h.1 k

  closes : (t : Turn S) (met : Met) (t' : Turn S) → IsShutEntry t.entry → Closes m t met t' → IsShutEntry t'.entry
  closes t met t' k (NoRoom h) = left_as t t' h.1 k
  closes t met t' k (Ended answer q asks h) = closed_by answer (record t { association = q }) met t' k h

  -- ---- an opening

  settles : (t : Turn S) (met : Met) (t' : Turn S) → IsShutEntry t.entry → is_out_of_band t.entry ≡ true → Settles t.entry met t'.entry
      → IsShutEntry t'.entry
  settles t Nothing t' k out h = absurd h
  settles t Again t' k out h = absurd h
  settles t (Output told) t' k out h = subst (λ (y : StreamEntry). IsShutEntry y) (sym h.1) (inr (inr (refl, out)))
  settles t OutOfMemory t' k out h = subst (λ (y : StreamEntry). IsShutEntry y) (sym h) k

  begun_as : (b : Bool) (t : Turn S) (met : Met) (t' : Turn S) → IsShutEntry t.entry → is_out_of_band t.entry ≡ true → is_out_of_band t.entry ≡ b
      → BegunAs m b t met t' → IsShutEntry t'.entry
  begun_as true t met t' k out is h = settles t met t' k out h.0
  begun_as false t met t' k out is h = absurd (true≢false (sym out ∙ is))

  begun_by : (answer : Asked) (t : Turn S) (met : Met) (t' : Turn S) → IsShutEntry t.entry → is_out_of_band t.entry ≡ true → BegunBy m answer t met t'
      → IsShutEntry t'.entry
  begun_by did.Done t met t' k out h = begun_as (is_out_of_band t.entry) t met t' k out refl h
  begun_by did.Refused t met t' k out h = closes t met t' k h
  begun_by did.OutOfMemory t met t' k out h = left_as t t' h.1 k

  begins : (t : Turn S) (met : Met) (t' : Turn S) → IsShutEntry t.entry → is_out_of_band t.entry ≡ true → Begins m t met t' → IsShutEntry t'.entry
  begins t met t' k out h = begun_by h.answer (record t { association = h.between }) met t' k out h.then

  retried_if : (b : Bool) (t : Turn S) (met : Met) (t' : Turn S) → IsShutEntry t.entry → RetriedIf m b t met t' → IsShutEntry t'.entry
  retried_if true t met t' k h = closes t met t' k h
  retried_if false t met t' k h = left_as t t' h.1 k

  retried_at : (now : ℕ) (first : Option ℕ) (t : Turn S) (met : Met) (t' : Turn S) → IsShutEntry t.entry → RetriedAt m now first t met t'
      → IsShutEntry t'.entry
  retried_at now None t met t' k h = left_as _ t' h.1 k
  retried_at now (Some first) t met t' k h = retried_if (is_opening_over first now) t met t' k h

  adopted_if : (b : Bool) (now : ℕ) (t : Turn S) (met : Met) (t' : Turn S) → IsShutEntry t.entry → is_adopted m t ≡ b → AdoptedIf m b now t met t'
      → IsShutEntry t'.entry
  adopted_if true now t met t' k is h = begins t met t' k (first_true (is_out_of_band t.entry) _ is) h
  adopted_if false now t met t' k is h = retried_at now t.entry.refused t met t' k h

  opened_by : (r : Result (Unit {0}) AssocError) (q : S) (now : ℕ) (t : Turn S) (met : Met) (t' : Turn S) → IsShutEntry t.entry
      → m.has_stream t.association t.entry.id ≡ true → m.opened t.association t.entry.id r q
      → OpenedBy m (opening_of r) now (record t { association = q }) met t' → IsShutEntry t'.entry
  opened_by (Ok x) q now t met t' k there called h = absurd (exists t.association q t.entry.id there called)
  opened_by (Err StreamExists) q now t met t' k there called h =
      adopted_if (is_adopted m (record t { association = q })) now (record t { association = q }) met t' k refl h
  opened_by (Err ResetPending) q now t met t' k there called h = retried_at now t.entry.refused (record t { association = q }) met t' k h
  opened_by (Err Alloc) q now t met t' k there called h = left_as _ t' h.1 k
  opened_by (Err NoStream) q now t met t' k there called h = closes (record t { association = q }) met t' k h
  opened_by (Err TooLong) q now t met t' k there called h = closes (record t { association = q }) met t' k h
  opened_by (Err Closing) q now t met t' k there called h = closes (record t { association = q }) met t' k h
  opened_by (Err Fault) q now t met t' k there called h = closes (record t { association = q }) met t' k h

  opens_entry : (now : ℕ) (t : Turn S) (met : Met) (t' : Turn S) → IsShutEntry t.entry → m.has_stream t.association t.entry.id ≡ true
      → OpensEntry m now t met t' → IsShutEntry t'.entry
  opens_entry now t met t' k there h =
      opened_by h.asks.result h.between now t met t' k there h.asks.called
      (subst (λ (x : Opening). OpenedBy m x now (record t { association = h.between }) met t') (sym h.asks.is) h.then)

  -- ---- an entry that is open

  takes_dcep : (st : StreamEntryState) (bytes : List ℕ) (t : Turn S) (met : Met) (t' : Turn S) → t.entry.state ≡ st → IsShutEntry t.entry
      → TakesDcep m st bytes t met t' → IsShutEntry t'.entry
  takes_dcep AwaitConfig bytes t met t' is k h = absurd (not_config t.entry is k)
  takes_dcep AwaitDcepAck bytes t met t' is k h = absurd (not_ack t.entry is k)
  takes_dcep AwaitOpen bytes t met t' is k h = left_as _ t' h.1 k
  takes_dcep Open bytes t met t' is k h = left_as _ t' h.1 k
  takes_dcep Closed bytes t met t' is k h = left_as _ t' h.1 k

  message : (i : Ppi) (bytes : List ℕ) (t : Turn S) (met : Met) (t' : Turn S) → IsShutEntry t.entry → TakesStreamMessage m i bytes t met t'
      → IsShutEntry t'.entry
  message ppi.Dcep bytes t met t' k h = takes_dcep t.entry.state bytes t met t' refl k h
  message ppi.Text bytes t met t' k h = left_as t t' h.1 k
  message ppi.Binary bytes t met t' k h = left_as t t' h.1 k
  message ppi.EmptyText bytes t met t' k h = left_as t t' h.1 k
  message ppi.EmptyBinary bytes t met t' k h = left_as t t' h.1 k
  message (ppi.Other n) bytes t met t' k h = left_as _ t' h.1 k

  read_by : (answer : Heard) (t : Turn S) (met : Met) (t' : Turn S) → IsShutEntry t.entry → ReadBy m answer t met t' → IsShutEntry t'.entry
  read_by heard.Nothing t met t' k h = left_as t t' h.1 k
  read_by (heard.Message i bytes) t met t' k h = message i bytes t met t' k h
  read_by heard.Refused t met t' k h = left_as _ t' h.1 k
  read_by heard.OutOfMemory t met t' k h = left_as t t' h.1 k

  handed : (answer : Asked) (n : ℕ) (t : Turn S) (met : Met) (t' : Turn S) → IsShutEntry t.entry → HandedBy m answer n t met t' → IsShutEntry t'.entry
  handed did.Done n t met t' k h = left_as _ t' h.1 k
  handed did.Refused n t met t' k h = left_as _ t' h.1 k
  handed did.OutOfMemory n t met t' k h = left_as t t' h.1 k

  may_read : (t : Turn S) (met : Met) (t' : Turn S) → IsShutEntry t.entry → MayRead m t met t' → IsShutEntry t'.entry
  may_read t met t' k (IsRead h) = read_by h.answer (record t { association = h.between }) met t' k h.then
  may_read t met t' k (NothingUnread unread e same) = left_as t t' same k

  attends_by : (b : BufferedThresholdConfig) (t : Turn S) (met : Met) (t' : Turn S) → IsShutEntry t.entry → AttendsBy m b t met t' → IsShutEntry t'.entry
  attends_by (Desired n) t met t' k h = handed h.answer n (record t { association = h.between }) met t' k h.then
  attends_by Unconfigured t met t' k h = may_read t met t' k h
  attends_by (Configured n) t met t' k h = may_read t met t' k h

  attends_if : (b there : Bool) (t : Turn S) (met : Met) (t' : Turn S) → IsShutEntry t.entry → AttendsIf m b there t met t' → IsShutEntry t'.entry
  attends_if true there t met t' k h = closes t met t' k h
  attends_if false false t met t' k h = left_as _ t' h.1 k
  attends_if false true t met t' k h = attends_by t.entry.threshold t met t' k h

  visits_in : (st : StreamEntryState) (now : ℕ) (t : Turn S) (met : Met) (t' : Turn S) → IsShutEntry t.entry
      → m.has_stream t.association t.entry.id ≡ true → VisitsIn m st now t met t' → IsShutEntry t'.entry
  visits_in AwaitOpen now t met t' k there h = opens_entry now t met t' k there h
  visits_in AwaitConfig now t met t' k there h = attends_if t.entry.marked (is_entry_there m t.association t.entry) t met t' k h
  visits_in AwaitDcepAck now t met t' k there h = attends_if t.entry.marked (is_entry_there m t.association t.entry) t met t' k h
  visits_in Open now t met t' k there h = attends_if t.entry.marked (is_entry_there m t.association t.entry) t met t' k h
  visits_in Closed now t met t' k there h = left_as t t' h.1 k

  pub visit_shut : (now : ℕ) (t : Turn S) (met : Met) (t' : Turn S) → Visits m now t met t' → IsShutEntry t.entry
      → m.has_stream t.association t.entry.id ≡ true → IsShutEntry t'.entry
  visit_shut now t met t' h k there = visits_in t.entry.state now t met t' k there h
