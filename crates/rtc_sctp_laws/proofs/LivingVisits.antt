-- An entry that is open in a generation stays so by a visit, unless it is told to be closed.
use Rattle.std.proofs.Common.{◌≡◌, ℕ, Bool, true, false, List, [], refl, sym, subst}
use Rattle.rtc_parts.specs.declared.ppi.Ppi.{Ppi}
use Rattle.rtc_parts.specs.declared.ppi.Ppi.TheVariants as ppi
use Rattle.rtc_parts.specs.AssociationMeaning.{AssociationMeaning}
use Rattle.rtc_sctp_entries.specs.declared.asked.Asked.{Asked}
use Rattle.rtc_sctp_entries.specs.declared.asked.Asked.TheVariants as did
use Rattle.rtc_sctp_entries.specs.declared.heard.Heard.{Heard}
use Rattle.rtc_sctp_entries.specs.declared.heard.Heard.TheVariants as heard
use Rattle.rtc_sctp_entries.specs.declared.buffered_threshold_config.BufferedThresholdConfig.{BufferedThresholdConfig}
use Rattle.rtc_sctp_entries.specs.declared.buffered_threshold_config.BufferedThresholdConfig.TheVariants.{Unconfigured, Desired, Configured}
use Rattle.rtc_sctp_entries.specs.declared.stream_entry_state.StreamEntryState.{StreamEntryState}
use Rattle.rtc_sctp_entries.specs.declared.sctp_event.SctpEvent.TheVariants as event
use Rattle.rtc_sctp_entries.specs.declared.met.Met.{Met}
use Rattle.rtc_sctp_entries.specs.declared.met.Met.TheVariants.{Nothing, Again, Output, OutOfMemory}
use Rattle.rtc_sctp_entries.specs.Visits.{
  Turn,
  Marks,
  ClosedBy,
  Closes,
  NoRoom,
  Ended,
  TakesDcep,
  TakesStreamMessage,
  ReadBy,
  MayRead,
  IsRead,
  NothingUnread,
  HandedBy,
  AttendsBy,
  AttendsIf,
  is_entry_there,
  VisitsIn,
  Visits,
}
use Rattle.rtc_sctp_laws.specs.StreamUses.{IsLiveIn}
use Rattle.rtc_sctp_laws.proofs.LivingEntries.{LeavesOpen, OpenLeft}

module _ {S : Type 0} (m : AssociationMeaning S) where
  stays : (r : Met) (u : Turn S) (met : Met) (t' : Turn S) (n g : ℕ) → met ≡ r → t' ≡ u → LeavesOpen r n g u.entry → LeavesOpen met n g t'.entry
  stays r u met t' n g e f h =
      subst (λ (x : Met). LeavesOpen x n g t'.entry) (sym e) (subst (λ (x : Turn S). LeavesOpen r n g x.entry) (sym f) h)

  closed_by : (answer : Asked) (t : Turn S) (met : Met) (t' : Turn S) (g : ℕ) → ClosedBy m answer t met t' → LeavesOpen met t.entry.id g t'.entry
  closed_by did.Done t met t' g h = stays _ _ met t' t.entry.id g h.0 h.1 (refl, refl)
  closed_by did.Refused t met t' g h = stays _ _ met t' t.entry.id g h.0 h.1 (refl, refl)
  closed_by did.OutOfMemory t met t' g h = stays OutOfMemory t met t' t.entry.id g h.0 h.1 tt

  closes : (t : Turn S) (met : Met) (t' : Turn S) (g : ℕ) → Closes m t met t' → LeavesOpen met t.entry.id g t'.entry
  closes t met t' g (NoRoom h) = stays OutOfMemory t met t' t.entry.id g h.0 h.1 tt
  closes t met t' g (Ended a q k h) = closed_by a (record t { association = q }) met t' g h

  marks : (t : Turn S) (met : Met) (t' : Turn S) (g : ℕ) → IsLiveIn g t.entry → Marks t met t' → LeavesOpen met t.entry.id g t'.entry
  marks t met t' g live h = stays Again _ met t' t.entry.id g h.0 h.1 live

  message : (i : Ppi) (bytes : List ℕ) (t : Turn S) (met : Met) (t' : Turn S) (g : ℕ) → IsLiveIn g t.entry → TakesStreamMessage m i bytes t met t' → LeavesOpen met t.entry.id g t'.entry
  message ppi.Dcep bytes t met t' g live h = marks t met t' g live (subst (λ (st : StreamEntryState). TakesDcep m st bytes t met t') live.0 h)
  message ppi.Text bytes t met t' g live h = stays (Output (event.Data t.entry.id false bytes)) t met t' t.entry.id g h.0 h.1 live
  message ppi.Binary bytes t met t' g live h = stays (Output (event.Data t.entry.id true bytes)) t met t' t.entry.id g h.0 h.1 live
  message ppi.EmptyText bytes t met t' g live h = stays (Output (event.Data t.entry.id false [])) t met t' t.entry.id g h.0 h.1 live
  message ppi.EmptyBinary bytes t met t' g live h = stays (Output (event.Data t.entry.id true [])) t met t' t.entry.id g h.0 h.1 live
  message (ppi.Other n) bytes t met t' g live h = marks t met t' g live h

  read_by : (answer : Heard) (t : Turn S) (met : Met) (t' : Turn S) (g : ℕ) → IsLiveIn g t.entry → ReadBy m answer t met t' → LeavesOpen met t.entry.id g t'.entry
  read_by heard.Nothing t met t' g live h = stays Nothing t met t' t.entry.id g h.0 h.1 live
  read_by (heard.Message i bytes) t met t' g live h = message i bytes t met t' g live h
  read_by heard.Refused t met t' g live h = marks t met t' g live h
  read_by heard.OutOfMemory t met t' g live h = stays OutOfMemory t met t' t.entry.id g h.0 h.1 tt

  handed : (answer : Asked) (n : ℕ) (t : Turn S) (met : Met) (t' : Turn S) (g : ℕ) → IsLiveIn g t.entry → HandedBy m answer n t met t' → LeavesOpen met t.entry.id g t'.entry
  handed did.Done n t met t' g live h = stays Again _ met t' t.entry.id g h.0 h.1 live
  handed did.Refused n t met t' g live h = stays Again _ met t' t.entry.id g h.0 h.1 live
  handed did.OutOfMemory n t met t' g live h = stays OutOfMemory t met t' t.entry.id g h.0 h.1 tt

  may_read : (t : Turn S) (met : Met) (t' : Turn S) (g : ℕ) → IsLiveIn g t.entry → MayRead m t met t' → LeavesOpen met t.entry.id g t'.entry
  may_read t met t' g live (IsRead h) = read_by h.answer (record t { association = h.between }) met t' g live h.then
  may_read t met t' g live (NothingUnread unread e f) = stays Nothing t met t' t.entry.id g e f live

  attends_by : (b : BufferedThresholdConfig) (t : Turn S) (met : Met) (t' : Turn S) (g : ℕ) → IsLiveIn g t.entry → AttendsBy m b t met t' → LeavesOpen met t.entry.id g t'.entry
  attends_by (Desired n) t met t' g live h = handed h.answer n (record t { association = h.between }) met t' g live h.then
  attends_by Unconfigured t met t' g live h = may_read t met t' g live h
  attends_by (Configured n) t met t' g live h = may_read t met t' g live h

  attends_if : (b there : Bool) (t : Turn S) (met : Met) (t' : Turn S) (g : ℕ) → IsLiveIn g t.entry → AttendsIf m b there t met t' → LeavesOpen met t.entry.id g t'.entry
  attends_if true there t met t' g live h = closes t met t' g h
  attends_if false false t met t' g live h = marks t met t' g live h
  attends_if false true t met t' g live h = attends_by t.entry.threshold t met t' g live h

  pub visit_lives : (now : ℕ) (t : Turn S) (met : Met) (t' : Turn S) → Visits m now t met t' → OpenLeft met t.entry t'.entry
  visit_lives now t met t' h = λ g live. attends_if t.entry.marked (is_entry_there m t.association t.entry) t met t' g live (subst (λ (st : StreamEntryState). VisitsIn m st now t met t') live.0 h)
