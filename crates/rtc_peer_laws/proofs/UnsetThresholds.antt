-- Where no threshold is set and none is to be, a poll of the streams sets none.
use Rattle.std.proofs.Common.{◌≡◌, ◌∙◌, ℕ, Bool, true, false, List, Option, Some, None, Result, Ok, Err, refl, sym, ap, subst, arith}
use Rattle.std.specs.declared.alloc.AllocError.{AllocError}
use Rattle.rtc_parts.specs.declared.assoc_error.AssocError.{AssocError}
use Rattle.rtc_parts.specs.declared.assoc_event.AssocEvent.{AssocEvent}
use Rattle.rtc_parts.specs.declared.ppi.Ppi.{Ppi}
use Rattle.rtc_parts.specs.declared.ppi.Ppi.TheVariants as ppi
use Rattle.rtc_parts.specs.AssociationActs.{Started, ByConnect, ByAccept, BySnap, ConnectRefused, AcceptRefused, SnapRefused, Opened, Wrote, Ended as EndedAct, Given, Taken, Read, Told, Stirred, OpenRefused, WriteRefused, ReadRefused, EndRefused, ReliabilitySet}
use Rattle.rtc_parts.specs.AssociationLaws.{AssociationLaws}
use Rattle.rtc_parts.specs.AssociationMeaning.{AssociationMeaning}
use Rattle.rtc_parts.specs.Why.{Timed, Shut, Other}
use Rattle.rtc_wire.specs.declared.reliability_type.ReliabilityType.{ReliabilityType}
use Rattle.rtc_sctp_entries.specs.declared.asked.Asked.{Asked}
use Rattle.rtc_sctp_entries.specs.declared.asked.Asked.TheVariants as did
use Rattle.rtc_sctp_entries.specs.declared.opening.Opening.{Opening}
use Rattle.rtc_sctp_entries.specs.declared.opening.Opening.TheVariants as opened
use Rattle.rtc_sctp_entries.specs.declared.heard.Heard.{Heard}
use Rattle.rtc_sctp_entries.specs.declared.heard.Heard.TheVariants as heard
use Rattle.rtc_sctp_entries.specs.declared.read_message.ReadMessage.{ReadMessage}
use Rattle.rtc_sctp_entries.specs.declared.read_message.ReadMessage.TheVariants as read
use Rattle.rtc_sctp_entries.specs.declared.buffered_threshold_config.BufferedThresholdConfig.{BufferedThresholdConfig}
use Rattle.rtc_sctp_entries.specs.declared.buffered_threshold_config.BufferedThresholdConfig.TheVariants.{Unconfigured, Desired, Configured}
use Rattle.rtc_sctp_entries.specs.declared.stream_entry_state.StreamEntryState.{StreamEntryState}
use Rattle.rtc_sctp_entries.specs.declared.stream_entry_state.StreamEntryState.TheVariants.{AwaitOpen, AwaitConfig, AwaitDcepAck, Open, Closed}
use Rattle.rtc_sctp_entries.specs.declared.stream_entry.StreamEntry.{StreamEntry}
use Rattle.rtc_sctp_entries.specs.declared.met.Met.{Met}
use Rattle.rtc_sctp_entries.specs.declared.met.Met.TheVariants.{Nothing, Again, Output, OutOfMemory}
use Rattle.rtc_sctp_entries.specs.Entries.{is_short_entry, is_out_of_band, threshold_credit}
use Rattle.rtc_sctp_entries.specs.Visits.{Turn, given_config, Marks, Settles, TakesAck, ForEntry, ClosedBy, Closes, NoRoom, Ended, AnnouncedBy, Announces, NoMessage, Written, AnnouncesIf, BegunAs, BegunBy, Begins, RetriedIf, RetriedAt, is_adopted, AdoptedIf, OpenedBy, OpensEntry, AcknowledgedBy, Acknowledges, TakenUpBy, TakesUp, TakenAs, TakesDcep, TakesStreamMessage, ReadBy, ReadsEntry, MayRead, IsRead, NothingUnread, AttendsBy, AttendsIf, VisitsIn, Visits, is_opening_over}

module _ {S : Type 0} (m : AssociationMeaning S) (w : AssociationLaws m) where
  abbrev pub IsUnset : S → Type 0
  IsUnset a = m.has_threshold a ≡ false

  unset_same : (a b : S) → b ≡ a → IsUnset a → IsUnset b
  unset_same a b is h = ap m.has_threshold is ∙ h

  -- ---- calls

  pub end_unset : (a b : S) (id : ℕ) (r : Result (Unit {0}) AssocError) → m.ended a id r b → IsUnset a → IsUnset b
  end_unset a b id (Ok done) h k = w.no_threshold a b (EndedAct id (m.generation a id)) (h, refl) refl k
  end_unset a b id (Err e) h k = w.no_threshold a b (Stirred Other) (EndRefused id e h) refl k

  pub open_unset : (a b : S) (id : ℕ) (r : Result (Unit {0}) AssocError) → m.opened a id r b → IsUnset a → IsUnset b
  open_unset a b id (Ok done) h k = w.no_threshold a b (Opened id (m.generation a id)) (h, refl) refl k
  open_unset a b id (Err e) h k = w.no_threshold a b (Stirred Other) (OpenRefused id e h) refl k

  pub write_unset : (a b : S) (id : ℕ) (i : Ppi) (bytes : List ℕ) (r : Result ℕ AssocError) → m.wrote a id i bytes r b → IsUnset a → IsUnset b
  write_unset a b id i bytes (Ok n) h k = w.no_threshold a b (Wrote id (m.generation a id) _ bytes) (i, (n, (h, refl, refl))) refl k
  write_unset a b id i bytes (Err e) h k = w.no_threshold a b (Stirred Other) (WriteRefused id i bytes e h) refl k

  pub read_unset : (a b : S) (id : ℕ) (r : Result (Option (Ppi × List ℕ)) AssocError) → m.read a id r b → IsUnset a → IsUnset b
  read_unset a b id (Ok None) h k = unset_same a b (w.read_none a b id h) k
  read_unset a b id (Ok (Some message)) h k =
      w.no_threshold a b (Read id (m.generation a id) _ message.1) (message.0, (h, refl, refl)) refl k
  read_unset a b id (Err e) h k = w.no_threshold a b (Stirred Other) (ReadRefused id e h) refl k

  pub reliability_unset : (a b : S) (id : ℕ) (unordered : Bool) (t : ReliabilityType) (n : ℕ) (r : Result (Unit {0}) AssocError)
      → m.reliability_set a id unordered t n r b → IsUnset a → IsUnset b
  reliability_unset a b id unordered t n r h k = w.no_threshold a b (Stirred Other) (ReliabilitySet id unordered t n r h) refl k

  pub packet_unset : (a b : S) (packet : Option (List ℕ)) → m.gave a packet b → IsUnset a → IsUnset b
  packet_unset a b None h k = unset_same a b (w.packet_none a b h) k
  packet_unset a b (Some packet) h k = w.no_threshold a b (Taken packet) h refl k

  pub event_unset : (a b : S) (event : Option AssocEvent) → m.polled a event b → IsUnset a → IsUnset b
  event_unset a b None h k = unset_same a b (w.event_none a b h) k
  event_unset a b (Some event) h k = w.no_threshold a b (Told event) h refl k

  pub given_unset : (a b : S) (now : ℕ) (bytes : List ℕ) (r : Result (Unit {0}) AllocError) → m.given a now bytes r b → IsUnset a → IsUnset b
  given_unset a b now bytes r h k = w.no_threshold a b (Given bytes) (now, (r, h)) refl k

  pub shut_unset : (a b : S) (r : Result (Unit {0}) AssocError) → m.shut a r b → IsUnset a → IsUnset b
  shut_unset a b r h k = w.no_threshold a b (Stirred Shut) (r, h) refl k

  pub timed_unset : (a b : S) (now : ℕ) (r : Result (Unit {0}) AllocError) → m.timed a now r b → IsUnset a → IsUnset b
  timed_unset a b now r h k = w.no_threshold a b (Stirred (Timed now)) (r, h) refl k

  pub connect_unset : (a b : S) (now max : ℕ) (r : Result (Unit {0}) AssocError) → m.started a ≡ false → m.connected a now max r b → IsUnset a → IsUnset b
  connect_unset a b now max (Ok done) before h k = w.no_threshold a b Started (before, ByConnect now max h) refl k
  connect_unset a b now max (Err e) before h k = w.no_threshold a b (Stirred Other) (ConnectRefused now max e before h) refl k

  pub accept_unset : (a b : S) (now max : ℕ) (r : Result (Unit {0}) AssocError) → m.started a ≡ false → m.accepted a now max r b → IsUnset a → IsUnset b
  accept_unset a b now max (Ok done) before h k = w.no_threshold a b Started (before, ByAccept now max h) refl k
  accept_unset a b now max (Err e) before h k = w.no_threshold a b (Stirred Other) (AcceptRefused now max e before h) refl k

  pub snap_unset : (a b : S) (now max : ℕ) (local remote : List ℕ) (r : Result (Unit {0}) AssocError) → m.started a ≡ false
      → m.connected_snap a now max local remote r b → IsUnset a → IsUnset b
  snap_unset a b now max local remote (Ok done) before h k = w.no_threshold a b Started (before, BySnap now max local remote h) refl k
  snap_unset a b now max local remote (Err e) before h k = w.no_threshold a b (Stirred Other) (SnapRefused now max local remote e before h) refl k

  -- ---- visits

  -- no threshold stands, and none is asked for
  abbrev pub IsTurnUnset : Turn S → Type 0
  IsTurnUnset t = IsUnset t.association × (threshold_credit t.entry.threshold ≡ 0)

  to : (u t' : Turn S) → t' ≡ u → IsTurnUnset u → IsTurnUnset t'
  to u t' is h = subst IsTurnUnset (sym is) h

  closed_by : (a : Asked) (t : Turn S) (met : Met) (t' : Turn S) → ClosedBy m a t met t' → IsTurnUnset t → IsTurnUnset t'
  closed_by did.Done t met t' h k = to _ t' h.1 k
  closed_by did.Refused t met t' h k = to _ t' h.1 k
  closed_by did.OutOfMemory t met t' h k = to _ t' h.1 k

  closes : (t : Turn S) (met : Met) (t' : Turn S) → Closes m t met t' → IsTurnUnset t → IsTurnUnset t'
  closes t met t' (NoRoom h) k = to t t' h.1 k
  closes t met t' (Ended a q asks h) k =
      closed_by a (record t { association = q }) met t' h (end_unset t.association q t.entry.id asks.result asks.called k.0, k.1)

  announced : (a : Asked) (t : Turn S) (met : Met) (t' : Turn S) → AnnouncedBy m a t met t' → IsTurnUnset t → IsTurnUnset t'
  announced did.Done t met t' h k = to _ t' h.1 k
  announced did.Refused t met t' h k = closes t met t' h k
  announced did.OutOfMemory t met t' h k = to t t' h.1 k

  announces : (t : Turn S) (met : Met) (t' : Turn S) → Announces m t met t' → IsTurnUnset t → IsTurnUnset t'
  announces t met t' (NoMessage h) k = to t t' h.1 k
  announces t met t' (Written a q asks h) k =
      announced a (record t { association = q }) met t' h (write_unset t.association q t.entry.id ppi.Dcep _ asks.result asks.called k.0, k.1)

  announces_if : (b : Bool) (t : Turn S) (met : Met) (t' : Turn S) → AnnouncesIf m b t met t' → IsTurnUnset t → IsTurnUnset t'
  announces_if true t met t' h k = announces t met t' h k
  announces_if false t met t' h k = closes t met t' h k

  -- what only an entry has to do with
  settled : (t : Turn S) (met : Met) (t' : Turn S) → ForEntry Settles t met t' → IsTurnUnset t → IsTurnUnset t'
  settled t Nothing t' h k = absurd h.0
  settled t Again t' h k = absurd h.0
  settled t (Output o) t' h k = to _ t' h.1 (k.0, ap (λ (e : StreamEntry). threshold_credit e.threshold) h.0.1 ∙ k.1)
  settled t OutOfMemory t' h k = to _ t' h.1 (k.0, ap (λ (e : StreamEntry). threshold_credit e.threshold) h.0 ∙ k.1)

  begun_as : (b : Bool) (t : Turn S) (met : Met) (t' : Turn S) → BegunAs m b t met t' → IsTurnUnset t → IsTurnUnset t'
  begun_as true t met t' h k = settled t met t' h k
  begun_as false t met t' h k = announces_if (is_short_entry t.entry) t met t' h k

  begun : (a : Asked) (t : Turn S) (met : Met) (t' : Turn S) → BegunBy m a t met t' → IsTurnUnset t → IsTurnUnset t'
  begun did.Done t met t' h k = begun_as (is_out_of_band t.entry) t met t' h k
  begun did.Refused t met t' h k = closes t met t' h k
  begun did.OutOfMemory t met t' h k = to t t' h.1 k

  begins : (t : Turn S) (met : Met) (t' : Turn S) → Begins m t met t' → IsTurnUnset t → IsTurnUnset t'
  begins t met t' h k =
      begun h.answer (record t { association = h.between }) met t' h.then
      (reliability_unset t.association h.between t.entry.id _ _ _ h.asks.result h.asks.called k.0, k.1)

  retried_if : (b : Bool) (t : Turn S) (met : Met) (t' : Turn S) → RetriedIf m b t met t' → IsTurnUnset t → IsTurnUnset t'
  retried_if true t met t' h k = closes t met t' h k
  retried_if false t met t' h k = to t t' h.1 k

  retried : (now : ℕ) (o : Option ℕ) (t : Turn S) (met : Met) (t' : Turn S) → RetriedAt m now o t met t' → IsTurnUnset t → IsTurnUnset t'
  retried now None t met t' h k = to _ t' h.1 k
  retried now (Some first) t met t' h k = retried_if (is_opening_over first now) t met t' h k

  adopted : (b : Bool) (now : ℕ) (t : Turn S) (met : Met) (t' : Turn S) → AdoptedIf m b now t met t' → IsTurnUnset t → IsTurnUnset t'
  adopted true now t met t' h k = begins t met t' h k
  adopted false now t met t' h k = retried now t.entry.refused t met t' h k

  opened_by : (a : Opening) (now : ℕ) (t : Turn S) (met : Met) (t' : Turn S) → OpenedBy m a now t met t' → IsTurnUnset t → IsTurnUnset t'
  opened_by opened.Done now t met t' h k = begins t met t' h k
  opened_by opened.Exists now t met t' h k = adopted (is_adopted m t) now t met t' h k
  opened_by opened.Pending now t met t' h k = retried now t.entry.refused t met t' h k
  opened_by opened.Refused now t met t' h k = closes t met t' h k
  opened_by opened.OutOfMemory now t met t' h k = to t t' h.1 k

  opens : (now : ℕ) (t : Turn S) (met : Met) (t' : Turn S) → OpensEntry m now t met t' → IsTurnUnset t → IsTurnUnset t'
  opens now t met t' h k =
      opened_by h.answer now (record t { association = h.between }) met t' h.then
      (open_unset t.association h.between t.entry.id h.asks.result h.asks.called k.0, k.1)

  acknowledged : (a : Asked) (label : List ℕ) (t : Turn S) (met : Met) (t' : Turn S) → AcknowledgedBy m a label t met t' → IsTurnUnset t → IsTurnUnset t'
  acknowledged did.Done label t met t' h k = to _ t' h.1 k
  acknowledged did.Refused label t met t' h k = closes t met t' h k
  acknowledged did.OutOfMemory label t met t' h k = to t t' h.1 k

  acknowledges : (label : List ℕ) (t : Turn S) (met : Met) (t' : Turn S) → Acknowledges m label t met t' → IsTurnUnset t → IsTurnUnset t'
  acknowledges label t met t' h k =
      acknowledged h.answer label (record t { association = h.between }) met t' h.then
      (write_unset t.association h.between t.entry.id ppi.Dcep _ h.asks.result h.asks.called k.0, k.1)

  marks : (t : Turn S) (met : Met) (t' : Turn S) → Marks t met t' → IsTurnUnset t → IsTurnUnset t'
  marks t met t' h k = to _ t' h.1 k

  taken_up : (a : Asked) (label : List ℕ) (t : Turn S) (met : Met) (t' : Turn S) → TakenUpBy m a label t met t' → IsTurnUnset t → IsTurnUnset t'
  taken_up did.Done label t met t' h k = acknowledges label t met t' h k
  taken_up did.Refused label t met t' h k = marks t met t' h k
  taken_up did.OutOfMemory label t met t' h k = to t t' h.1 k

  takes_up : (label : List ℕ) (t : Turn S) (met : Met) (t' : Turn S) → TakesUp m label t met t' → IsTurnUnset t → IsTurnUnset t'
  takes_up label t met t' h k =
      taken_up h.answer label (record t { association = h.between }) met t' h.then
      (reliability_unset t.association h.between t.entry.id _ _ _ h.asks.result h.asks.called k.0, k.1)

  taken_as : (r : ReadMessage) (t : Turn S) (met : Met) (t' : Turn S) → TakenAs m r t met t' → IsTurnUnset t → IsTurnUnset t'
  taken_as (read.Open label config) t met t' h k =
      takes_up label (record t { entry = record t.entry { config = given_config t.entry.config config } }) met t' h k
  taken_as read.Malformed t met t' h k = marks t met t' h k
  taken_as read.OutOfMemory t met t' h k = to t t' h.1 k

  acked : (bytes : List ℕ) (t : Turn S) (met : Met) (t' : Turn S) → ForEntry (TakesAck bytes) t met t' → IsTurnUnset t → IsTurnUnset t'
  acked bytes t Nothing t' h k = absurd h.0
  acked bytes t Again t' h k = to _ t' h.1 (k.0, ap (λ (e : StreamEntry). threshold_credit e.threshold) h.0.1 ∙ k.1)
  acked bytes t (Output o) t' h k = settled t (Output o) t' (h.0.1, h.1) k
  acked bytes t OutOfMemory t' h k = settled t OutOfMemory t' (h.0.1, h.1) k

  dcep : (st : StreamEntryState) (bytes : List ℕ) (t : Turn S) (met : Met) (t' : Turn S) → TakesDcep m st bytes t met t' → IsTurnUnset t → IsTurnUnset t'
  dcep AwaitConfig bytes t met t' h k = taken_as h.message t met t' h.then k
  dcep AwaitDcepAck bytes t met t' h k = acked bytes t met t' h k
  dcep AwaitOpen bytes t met t' h k = marks t met t' h k
  dcep Open bytes t met t' h k = marks t met t' h k
  dcep Closed bytes t met t' h k = marks t met t' h k

  message : (i : Ppi) (bytes : List ℕ) (t : Turn S) (met : Met) (t' : Turn S) → TakesStreamMessage m i bytes t met t' → IsTurnUnset t → IsTurnUnset t'
  message ppi.Dcep bytes t met t' h k = dcep t.entry.state bytes t met t' h k
  message ppi.Text bytes t met t' h k = to t t' h.1 k
  message ppi.Binary bytes t met t' h k = to t t' h.1 k
  message ppi.EmptyText bytes t met t' h k = to t t' h.1 k
  message ppi.EmptyBinary bytes t met t' h k = to t t' h.1 k
  message (ppi.Other number) bytes t met t' h k = marks t met t' h k

  read_by : (a : Heard) (t : Turn S) (met : Met) (t' : Turn S) → ReadBy m a t met t' → IsTurnUnset t → IsTurnUnset t'
  read_by heard.Nothing t met t' h k = to t t' h.1 k
  read_by (heard.Message i bytes) t met t' h k = message i bytes t met t' h k
  read_by heard.Refused t met t' h k = marks t met t' h k
  read_by heard.OutOfMemory t met t' h k = to t t' h.1 k

  reads : (t : Turn S) (met : Met) (t' : Turn S) → ReadsEntry m t met t' → IsTurnUnset t → IsTurnUnset t'
  reads t met t' h k =
      read_by h.answer (record t { association = h.between }) met t' h.then
      (read_unset t.association h.between t.entry.id h.asks.result h.asks.called k.0, k.1)

  may_read : (t : Turn S) (met : Met) (t' : Turn S) → MayRead m t met t' → IsTurnUnset t → IsTurnUnset t'
  may_read t met t' (IsRead h) k = reads t met t' h k
  may_read t met t' (NothingUnread unread e f) k = subst IsTurnUnset (sym f) k

  asked_none : (n : ℕ) (b : BufferedThresholdConfig) → b ≡ Desired n → threshold_credit b ≡ 0 → ⊥
  asked_none n b is none = let one = ap threshold_credit is in absurd (omega (arith, one, none))

  attends_by : (b : BufferedThresholdConfig) (t : Turn S) (met : Met) (t' : Turn S) → t.entry.threshold ≡ b → AttendsBy m b t met t' → IsTurnUnset t → IsTurnUnset t'
  attends_by (Desired n) t met t' is h k = absurd (asked_none n t.entry.threshold is k.1)
  attends_by Unconfigured t met t' is h k = may_read t met t' h k
  attends_by (Configured n) t met t' is h k = may_read t met t' h k

  attends_if : (b there : Bool) (t : Turn S) (met : Met) (t' : Turn S) → AttendsIf m b there t met t' → IsTurnUnset t → IsTurnUnset t'
  attends_if true there t met t' h k = closes t met t' h k
  attends_if false false t met t' h k = marks t met t' h k
  attends_if false true t met t' h k = attends_by t.entry.threshold t met t' refl h k

  visits_in : (st : StreamEntryState) (now : ℕ) (t : Turn S) (met : Met) (t' : Turn S) → VisitsIn m st now t met t' → IsTurnUnset t → IsTurnUnset t'
  visits_in AwaitOpen now t met t' h k = opens now t met t' h k
  visits_in AwaitConfig now t met t' h k = attends_if t.entry.marked _ t met t' h k
  visits_in AwaitDcepAck now t met t' h k = attends_if t.entry.marked _ t met t' h k
  visits_in Open now t met t' h k = attends_if t.entry.marked _ t met t' h k
  visits_in Closed now t met t' h k = to t t' h.1 k

  -- a visit sets no threshold
  pub visits_unset : (now : ℕ) (t : Turn S) (met : Met) (t' : Turn S) → Visits m now t met t' → IsTurnUnset t → IsTurnUnset t'
  visits_unset now t met t' h k = visits_in t.entry.state now t met t' h k
