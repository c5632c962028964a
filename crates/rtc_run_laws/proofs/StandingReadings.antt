-- The rest of a visit: an entry past its opening is attended, and a message that opens its channel is taken up.
use Rattle.std.proofs.Common.{◌≡◌, ◌∙◌, inl, ℕ, Bool, true, false, List, Option, Some, None, refl, ap}
use Rattle.std.specs.Prelude.{is_some}
use Rattle.rtc_wire.specs.declared.channel_config.ChannelConfig.{ChannelConfig}
use Rattle.rtc_parts.specs.declared.ppi.Ppi.{Ppi}
use Rattle.rtc_parts.specs.declared.ppi.Ppi.TheVariants as ppi
use Rattle.rtc_parts.specs.AssociationMeaning.{AssociationMeaning}
use Rattle.rtc_sctp_entries.specs.declared.asked.Asked.{Asked}
use Rattle.rtc_sctp_entries.specs.declared.asked.Asked.TheVariants as did
use Rattle.rtc_sctp_entries.specs.declared.heard.Heard.{Heard}
use Rattle.rtc_sctp_entries.specs.declared.heard.Heard.TheVariants as heard
use Rattle.rtc_sctp_entries.specs.declared.read_message.ReadMessage.{ReadMessage}
use Rattle.rtc_sctp_entries.specs.declared.read_message.ReadMessage.TheVariants as read
use Rattle.rtc_sctp_entries.specs.declared.buffered_threshold_config.BufferedThresholdConfig.{BufferedThresholdConfig}
use Rattle.rtc_sctp_entries.specs.declared.buffered_threshold_config.BufferedThresholdConfig.TheVariants.{Unconfigured, Desired, Configured}
use Rattle.rtc_sctp_entries.specs.declared.stream_entry_state.StreamEntryState.{StreamEntryState}
use Rattle.rtc_sctp_entries.specs.declared.stream_entry_state.StreamEntryState.TheVariants.{AwaitOpen, AwaitConfig, AwaitDcepAck, Open, Closed}
use Rattle.rtc_sctp_entries.specs.declared.stream_entry.StreamEntry.{StreamEntry}
use Rattle.rtc_sctp_entries.specs.declared.sctp_event.SctpEvent.{SctpEvent}
use Rattle.rtc_sctp_entries.specs.declared.sctp_event.SctpEvent.TheVariants as event
use Rattle.rtc_sctp_entries.specs.declared.met.Met.{Met}
use Rattle.rtc_sctp_entries.specs.declared.met.Met.TheVariants.{Nothing, Again, Output}
use Rattle.rtc_sctp_entries.specs.Entries.{config_or_fresh}
use Rattle.rtc_sctp_entries.specs.Visits.{Turn, given_config, ReadsOpen}
use Rattle.rtc_sctp_entries.specs.Visits.{AcknowledgedBy, Acknowledges}
use Rattle.rtc_sctp_entries.specs.Visits.{TakenUpBy, TakesUp, TakenAs, TakesDcep, TakesStreamMessage, ReadBy, MayRead, IsRead, NothingUnread, HandedBy, AttendsBy, AttendsIf, is_entry_there, VisitsIn, Visits}
use Rattle.rtc_run_laws.proofs.StandingVisits.{Goes, IsAs, IsSilent, as_is, by_turn, closes, marks, opens, opens_entry, resting, starves, takes_ack}

-- the config that an open message gives is of no other means
given_band : (own : Option ChannelConfig) (config : ChannelConfig) → is_some config.negotiated ≡ false
    → is_some (config_or_fresh (given_config own config)).negotiated ≡ is_some (config_or_fresh own).negotiated
given_band None config h = h
given_band (Some own) config h = refl

module _ {S : Type 0} (m : AssociationMeaning S) (e : StreamEntry) where
  -- an open message
  acknowledged_by : (answer : Asked) (label : List ℕ) (t : Turn S) (met : Met) (t' : Turn S) → IsAs e t.entry → AcknowledgedBy m answer label t met t'
      → Goes met e t'.entry
  acknowledged_by did.Done label t met t' k h =
      by_turn m e (Output (event.Open t.entry.id label)) _ met t' h.0 h.1 (opens m e label _ k.id_is refl k.band_is)
  acknowledged_by did.Refused label t met t' k h = closes m e t met t' k h
  acknowledged_by did.OutOfMemory label t met t' k h = starves m e t met t' k h

  acknowledges : (label : List ℕ) (t : Turn S) (met : Met) (t' : Turn S) → IsAs e t.entry → Acknowledges m label t met t' → Goes met e t'.entry
  acknowledges label t met t' k h = acknowledged_by h.answer label (record t { association = h.between }) met t' k h.then

  taken_up_by : (answer : Asked) (label : List ℕ) (t : Turn S) (met : Met) (t' : Turn S) → IsAs e t.entry → TakenUpBy m answer label t met t'
      → Goes met e t'.entry
  taken_up_by did.Done label t met t' k h = acknowledges label t met t' k h
  taken_up_by did.Refused label t met t' k h = marks m e t met t' k h
  taken_up_by did.OutOfMemory label t met t' k h = starves m e t met t' k h

  takes_up : (label : List ℕ) (t : Turn S) (met : Met) (t' : Turn S) → IsAs e t.entry → TakesUp m label t met t' → Goes met e t'.entry
  takes_up label t met t' k h = taken_up_by h.answer label (record t { association = h.between }) met t' k h.then

  taken_as : (bytes : List ℕ) (message : ReadMessage) (t : Turn S) (met : Met) (t' : Turn S) → IsAs e t.entry → ReadsOpen bytes message
      → TakenAs m message t met t' → Goes met e t'.entry
  taken_as bytes (read.Open label config) t met t' k reads h =
      takes_up label _ met t'
      (record {
        id_is = k.id_is;
        state_is = k.state_is;
        marked_is = k.marked_is;
        band_is = given_band t.entry.config config (ap (λ (c : ChannelConfig). is_some c.negotiated) reads.2) ∙ k.band_is;
      }) h
  taken_as bytes read.Malformed t met t' k reads h = marks m e t met t' k h
  taken_as bytes read.OutOfMemory t met t' k reads h = starves m e t met t' k h

  takes_dcep : (st : StreamEntryState) (bytes : List ℕ) (t : Turn S) (met : Met) (t' : Turn S) → IsAs e t.entry → TakesDcep m st bytes t met t'
      → Goes met e t'.entry
  takes_dcep AwaitConfig bytes t met t' k h = taken_as bytes h.message t met t' k h.reads h.then
  takes_dcep AwaitDcepAck bytes t met t' k h = takes_ack m e bytes t.entry met t'.entry k h.0
  takes_dcep AwaitOpen bytes t met t' k h = marks m e t met t' k h
  takes_dcep Open bytes t met t' k h = marks m e t met t' k h
  takes_dcep Closed bytes t met t' k h = marks m e t met t' k h

  -- messages
  gives : (told : SctpEvent) (t : Turn S) (met : Met) (t' : Turn S) → IsAs e t.entry → IsSilent (Output told) → met ≡ Output told → t' ≡ t
      → Goes met e t'.entry
  gives told t met t' k silent is same = by_turn m e (Output told) t met t' is same (as_is m e (Output told) t.entry silent k)

  message : (i : Ppi) (bytes : List ℕ) (t : Turn S) (met : Met) (t' : Turn S) → IsAs e t.entry → TakesStreamMessage m i bytes t met t'
      → Goes met e t'.entry
  message ppi.Dcep bytes t met t' k h = takes_dcep t.entry.state bytes t met t' k h
  message ppi.Text bytes t met t' k h = gives _ t met t' k (record { opens = λ s told. told; closes = λ s told. told }) h.0 h.1
  message ppi.Binary bytes t met t' k h = gives _ t met t' k (record { opens = λ s told. told; closes = λ s told. told }) h.0 h.1
  message ppi.EmptyText bytes t met t' k h = gives _ t met t' k (record { opens = λ s told. told; closes = λ s told. told }) h.0 h.1
  message ppi.EmptyBinary bytes t met t' k h = gives _ t met t' k (record { opens = λ s told. told; closes = λ s told. told }) h.0 h.1
  message (ppi.Other n) bytes t met t' k h = marks m e t met t' k h

  read_by : (answer : Heard) (t : Turn S) (met : Met) (t' : Turn S) → IsAs e t.entry → ReadBy m answer t met t' → Goes met e t'.entry
  read_by heard.Nothing t met t' k h = by_turn m e Nothing t met t' h.0 h.1 (as_is m e Nothing t.entry resting k)
  read_by (heard.Message i bytes) t met t' k h = message i bytes t met t' k h
  read_by heard.Refused t met t' k h = marks m e t met t' k h
  read_by heard.OutOfMemory t met t' k h = starves m e t met t' k h

  configured : (n : ℕ) (t : Turn S) (met : Met) (t' : Turn S) → IsAs e t.entry → met ≡ Again
      → t' ≡ record t { entry = record t.entry { threshold = Configured n } } → Goes met e t'.entry
  configured n t met t' k is same =
      by_turn m e Again _ met t' is same
      (as_is m e Again (record t.entry { threshold = Configured n }) (record { opens = λ s told. told; closes = λ s told. told })
      (record { id_is = k.id_is; state_is = k.state_is; marked_is = k.marked_is; band_is = k.band_is }))

  handed : (answer : Asked) (n : ℕ) (t : Turn S) (met : Met) (t' : Turn S) → IsAs e t.entry → HandedBy m answer n t met t' → Goes met e t'.entry
  handed did.Done n t met t' k h = configured n t met t' k h.0 h.1
  handed did.Refused n t met t' k h = configured n t met t' k h.0 h.1
  handed did.OutOfMemory n t met t' k h = starves m e t met t' k h

  may_read : (t : Turn S) (met : Met) (t' : Turn S) → IsAs e t.entry → MayRead m t met t' → Goes met e t'.entry
  may_read t met t' k (IsRead h) = read_by h.answer (record t { association = h.between }) met t' k h.then
  may_read t met t' k (NothingUnread unread same_met same) = by_turn m e Nothing t met t' same_met same (as_is m e Nothing t.entry resting k)

  attends_by : (b : BufferedThresholdConfig) (t : Turn S) (met : Met) (t' : Turn S) → IsAs e t.entry → AttendsBy m b t met t' → Goes met e t'.entry
  attends_by (Desired n) t met t' k h = handed h.answer n (record t { association = h.between }) met t' k h.then
  attends_by Unconfigured t met t' k h = may_read t met t' k h
  attends_by (Configured n) t met t' k h = may_read t met t' k h

  attends_if : (b there : Bool) (t : Turn S) (met : Met) (t' : Turn S) → IsAs e t.entry → AttendsIf m b there t met t' → Goes met e t'.entry
  attends_if true there t met t' k h = closes m e t met t' k h
  attends_if false false t met t' k h = marks m e t met t' k h
  attends_if false true t met t' k h = attends_by t.entry.threshold t met t' k h

  visits_in : (st : StreamEntryState) (now : ℕ) (t : Turn S) (met : Met) (t' : Turn S) → IsAs e t.entry → e.state ≡ st → VisitsIn m st now t met t'
      → Goes met e t'.entry
  visits_in AwaitOpen now t met t' k is h = opens_entry m e now t met t' k (inl is) h
  visits_in AwaitConfig now t met t' k is h = attends_if t.entry.marked (is_entry_there m t.association t.entry) t met t' k h
  visits_in AwaitDcepAck now t met t' k is h = attends_if t.entry.marked (is_entry_there m t.association t.entry) t met t' k h
  visits_in Open now t met t' k is h = attends_if t.entry.marked (is_entry_there m t.association t.entry) t met t' k h
  visits_in Closed now t met t' k is h = by_turn m e Nothing t met t' h.0 h.1 (as_is m e Nothing t.entry resting k)

module _ {S : Type 0} (m : AssociationMeaning S) where
  pub visit_goes : (now : ℕ) (t : Turn S) (met : Met) (t' : Turn S) → Visits m now t met t' → Goes met t.entry t'.entry
  visit_goes now t met t' h =
      visits_in m t.entry t.entry.state now t met t'
      (record { id_is = refl; state_is = refl; marked_is = refl; band_is = refl }) refl h
