-- An entry that is open stays so by a visit, unless it is told to be closed.
use Rattle.std.proofs.Common.{◌≡◌, ◌⊎◌, inl, inr, ℕ, Bool, true, false, List, [], refl, sym, subst}
use Rattle.rtc_parts.specs.declared.ppi.Ppi.{Ppi}
use Rattle.rtc_parts.specs.declared.ppi.Ppi.TheVariants as ppi
use Rattle.rtc_parts.specs.AssociationMeaning.{AssociationMeaning}
use Rattle.rtc_sctp_entries.specs.declared.asked.Asked.{Asked}
use Rattle.rtc_sctp_entries.specs.declared.asked.Asked.TheVariants as did
use Rattle.rtc_sctp_entries.specs.declared.heard.Heard.{Heard}
use Rattle.rtc_sctp_entries.specs.declared.heard.Heard.TheVariants as heard
use Rattle.rtc_sctp_entries.specs.declared.buffered_threshold_config.BufferedThresholdConfig.{BufferedThresholdConfig}
use Rattle.rtc_sctp_entries.specs.declared.buffered_threshold_config.BufferedThresholdConfig.TheVariants.{Unconfigured, Desired, Configured}
use Rattle.rtc_sctp_entries.specs.declared.stream_entry_state.StreamEntryState.{StreamEntryState}
use Rattle.rtc_sctp_entries.specs.declared.stream_entry_state.StreamEntryState.TheVariants.{Open, Closed}
use Rattle.rtc_sctp_entries.specs.declared.sctp_event.SctpEvent.TheVariants as event
use Rattle.rtc_sctp_entries.specs.declared.met.Met.{Met}
use Rattle.rtc_sctp_entries.specs.declared.met.Met.TheVariants.{Nothing, Again, Output, OutOfMemory}
use Rattle.rtc_sctp_entries.specs.Visits.{
  Turn,
  Marks,
  ClosedBy,
  Closes,
  NoRoom,
  Ended,
  TakesDcep,
  TakesStreamMessage,
  ReadBy,
  MayRead,
  IsRead,
  NothingUnread,
  HandedBy,
  AttendsBy,
  AttendsIf,
  is_entry_there,
  VisitsIn,
  Visits,
}

-- what a visit leaves of an entry that is open
abbrev pub HoldsOpen : Met → StreamEntryState → Type 0
HoldsOpen Nothing st = st ≡ Open
HoldsOpen Again st = st ≡ Open
HoldsOpen OutOfMemory st = st ≡ Open
HoldsOpen (Output told) st = (st ≡ Open) ⊎ (st ≡ Closed)

module _ {S : Type 0} (m : AssociationMeaning S) where
  stays : (r : Met) (u : Turn S) (met : Met) (t' : Turn S) → met ≡ r → t' ≡ u → HoldsOpen r u.entry.state → HoldsOpen met t'.entry.state
  stays r u met t' e f h =
      subst (λ (x : Met). HoldsOpen x t'.entry.state) (sym e) (subst (λ (x : Turn S). HoldsOpen r x.entry.state) (sym f) h)

  closed_by : (answer : Asked) (t : Turn S) (met : Met) (t' : Turn S) → t.entry.state ≡ Open → ClosedBy m answer t met t' → HoldsOpen met t'.entry.state
  closed_by did.Done t met t' is h = stays _ _ met t' h.0 h.1 (inr refl)
  closed_by did.Refused t met t' is h = stays _ _ met t' h.0 h.1 (inr refl)
  closed_by did.OutOfMemory t met t' is h = stays OutOfMemory t met t' h.0 h.1 is

  closes : (t : Turn S) (met : Met) (t' : Turn S) → t.entry.state ≡ Open → Closes m t met t' → HoldsOpen met t'.entry.state
  closes t met t' is (NoRoom h) = stays OutOfMemory t met t' h.0 h.1 is
  closes t met t' is (Ended a q k h) = closed_by a (record t { association = q }) met t' is h

  marks : (t : Turn S) (met : Met) (t' : Turn S) → t.entry.state ≡ Open → Marks t met t' → HoldsOpen met t'.entry.state
  marks t met t' is h = stays Again _ met t' h.0 h.1 is

  message : (i : Ppi) (bytes : List ℕ) (t : Turn S) (met : Met) (t' : Turn S) → t.entry.state ≡ Open → TakesStreamMessage m i bytes t met t' → HoldsOpen met t'.entry.state
  message ppi.Dcep bytes t met t' is h = marks t met t' is (subst (λ (st : StreamEntryState). TakesDcep m st bytes t met t') is h)
  message ppi.Text bytes t met t' is h = stays (Output (event.Data t.entry.id false bytes)) t met t' h.0 h.1 (inl is)
  message ppi.Binary bytes t met t' is h = stays (Output (event.Data t.entry.id true bytes)) t met t' h.0 h.1 (inl is)
  message ppi.EmptyText bytes t met t' is h = stays (Output (event.Data t.entry.id false [])) t met t' h.0 h.1 (inl is)
  message ppi.EmptyBinary bytes t met t' is h = stays (Output (event.Data t.entry.id true [])) t met t' h.0 h.1 (inl is)
  message (ppi.Other n) bytes t met t' is h = marks t met t' is h

  read_by : (answer : Heard) (t : Turn S) (met : Met) (t' : Turn S) → t.entry.state ≡ Open → ReadBy m answer t met t' → HoldsOpen met t'.entry.state
  read_by heard.Nothing t met t' is h = stays Nothing t met t' h.0 h.1 is
  read_by (heard.Message i bytes) t met t' is h = message i bytes t met t' is h
  read_by heard.Refused t met t' is h = marks t met t' is h
  read_by heard.OutOfMemory t met t' is h = stays OutOfMemory t met t' h.0 h.1 is

  handed : (answer : Asked) (n : ℕ) (t : Turn S) (met : Met) (t' : Turn S) → t.entry.state ≡ Open → HandedBy m answer n t met t' → HoldsOpen met t'.entry.state
  handed did.Done n t met t' is h = stays Again _ met t' h.0 h.1 is
  handed did.Refused n t met t' is h = stays Again _ met t' h.0 h.1 is
  handed did.OutOfMemory n t met t' is h = stays OutOfMemory t met t' h.0 h.1 is

  may_read : (t : Turn S) (met : Met) (t' : Turn S) → t.entry.state ≡ Open → MayRead m t met t' → HoldsOpen met t'.entry.state
  may_read t met t' is (IsRead h) = read_by h.answer (record t { association = h.between }) met t' is h.then
  may_read t met t' is (NothingUnread unread e f) = stays Nothing t met t' e f is

  attends_by : (b : BufferedThresholdConfig) (t : Turn S) (met : Met) (t' : Turn S) → t.entry.state ≡ Open → AttendsBy m b t met t' → HoldsOpen met t'.entry.state
  attends_by (Desired n) t met t' is h = handed h.answer n (record t { association = h.between }) met t' is h.then
  attends_by Unconfigured t met t' is h = may_read t met t' is h
  attends_by (Configured n) t met t' is h = may_read t met t' is h

  attends_if : (b there : Bool) (t : Turn S) (met : Met) (t' : Turn S) → t.entry.state ≡ Open → AttendsIf m b there t met t' → HoldsOpen met t'.entry.state
  attends_if true there t met t' is h = closes t met t' is h
  attends_if false false t met t' is h = marks t met t' is h
  attends_if false true t met t' is h = attends_by t.entry.threshold t met t' is h

  pub visit_holds : (now : ℕ) (t : Turn S) (met : Met) (t' : Turn S) → Visits m now t met t' → t.entry.state ≡ Open → HoldsOpen met t'.entry.state
  visit_holds now t met t' h is = attends_if t.entry.marked (is_entry_there m t.association t.entry) t met t' is (subst (λ (st : StreamEntryState). VisitsIn m st now t met t') is h)
