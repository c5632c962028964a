-- A visit of an entry closes it only where nothing of its stream stands unread, or the stream takes no message any more.
use Rattle.std.proofs.Common.{◌≡◌, ◌∙◌, ◌⊎◌, inl, inr, ℕ, Bool, true, false, true≢false, List, [], Option, Some, None, Result, Err, refl, sym, ap, subst, arith}
use Rattle.rtc_parts.specs.declared.assoc_error.AssocError.{AssocError}
use Rattle.rtc_parts.specs.declared.assoc_error.AssocError.TheVariants.{Alloc}
use Rattle.rtc_parts.specs.declared.assoc_event.AssocEvent.{AssocEvent}
use Rattle.rtc_parts.specs.declared.ppi.Ppi.{Ppi}
use Rattle.rtc_parts.specs.declared.ppi.Ppi.TheVariants as ppi
use Rattle.rtc_parts.specs.AssociationLaws.{AssociationLaws}
use Rattle.rtc_parts.specs.AssociationMeaning.{AssociationMeaning}
use Rattle.rtc_sctp_entries.specs.declared.asked.Asked.{Asked}
use Rattle.rtc_sctp_entries.specs.declared.asked.Asked.TheVariants as did
use Rattle.rtc_sctp_entries.specs.declared.opening.Opening.{Opening}
use Rattle.rtc_sctp_entries.specs.declared.opening.Opening.TheVariants as opened
use Rattle.rtc_sctp_entries.specs.declared.heard.Heard.{Heard}
use Rattle.rtc_sctp_entries.specs.declared.heard.Heard.TheVariants as heard
use Rattle.rtc_sctp_entries.specs.declared.read_message.ReadMessage.{ReadMessage}
use Rattle.rtc_sctp_entries.specs.declared.read_message.ReadMessage.TheVariants as read
use Rattle.rtc_sctp_entries.specs.declared.buffered_threshold_config.BufferedThresholdConfig.{BufferedThresholdConfig}
use Rattle.rtc_sctp_entries.specs.declared.buffered_threshold_config.BufferedThresholdConfig.TheVariants.{Unconfigured, Desired, Configured}
use Rattle.rtc_sctp_entries.specs.declared.stream_entry_state.StreamEntryState.{StreamEntryState}
use Rattle.rtc_sctp_entries.specs.declared.stream_entry_state.StreamEntryState.TheVariants.{AwaitOpen, AwaitConfig, AwaitDcepAck, Open, Closed}
use Rattle.rtc_sctp_entries.specs.declared.stream_entry.StreamEntry.{StreamEntry}
use Rattle.rtc_sctp_entries.specs.declared.met.Met.{Met}
use Rattle.rtc_sctp_entries.specs.declared.met.Met.TheVariants.{Nothing, Again, Output, OutOfMemory}
use Rattle.rtc_sctp_entries.specs.Entries.{is_closed_state, is_out_of_band, is_short_entry}
use Rattle.rtc_sctp_entries.specs.Visits.{Turn, is_opening_over, Marks, Starves, Settles, TakesAck, ClosedBy, Closes, NoRoom, Ended, AnnouncedBy, Announces, NoMessage, Written, AnnouncesIf, BegunAs, BegunBy, Begins, RetriedIf, RetriedAt, is_adopted, AdoptedIf, OpenedBy, OpensEntry, AcknowledgedBy, Acknowledges, TakenUpBy, TakesUp, TakenAs, TakesDcep, TakesStreamMessage, ReadBy, MayRead, IsRead, NothingUnread, HandedBy, AttendsBy, AttendsIf, is_entry_there, VisitsIn, Visits}
use Rattle.rtc_sctp_laws.specs.StreamActs.{AssociationDid}
use Rattle.rtc_sctp_laws.specs.StreamMessages.{StreamMessage}
use Rattle.rtc_sctp_laws.proofs.ActLemmas.{ended_did, opened_did, read_did, reliability_did, threshold_did, wrote_did}
use Rattle.rtc_sctp_laws.specs.GenerationLaws.{GenerationLaws}
use Rattle.rtc_sctp_laws.specs.StreamUses.{is_spent_stream}
use Rattle.rtc_sctp_laws.proofs.KeptUses.{did_keeps}
use Rattle.rtc_sctp_laws.proofs.KnownUses.{done_alloc, end_facts, not_alloc, refused_alloc}
use Rattle.rtc_sctp_laws.proofs.KnownStreams.{AreBacked, IsBackedBy, IsSilent, UnreadLaws, moved_backed, silent_on}

module _ {S : Type 0} (m : AssociationMeaning S) (sound : S → Type 0) (w : AssociationLaws m) (v : GenerationLaws m) (u : UnreadLaws m sound) (s : ℕ) where
  -- an entry of the stream that is not closed, before a visit
  pub record IsReady (t : Turn S) : Type 0 where
    pub id_is : t.entry.id ≡ s
    pub unclosed : is_closed_state t.entry.state ≡ false
    pub backed : AreBacked m sound t.association

  -- it is of the stream still, and is not closed, or the stream is silent
  abbrev pub IsLeft : Turn S → Type 0
  IsLeft t = (t.entry.id ≡ s) × ((is_closed_state t.entry.state ≡ false) ⊎ IsSilent m sound s t.association)

  left_by : (x t : Turn S) → t ≡ x → IsLeft x → IsLeft t
  left_by x t is h = subst (λ (y : Turn S). IsLeft y) (sym is) h

  still : (t : Turn S) → IsReady t → IsLeft t
  still t k = (k.id_is, inl k.unclosed)

  ready_on : (t : Turn S) (q : S) (outs : List (List ℕ)) (tells : List AssocEvent) (wrote heard : List StreamMessage)
      → AssociationDid m [] outs tells wrote heard t.association q → IsReady t → IsReady (record t { association = q })
  ready_on t q outs tells wrote heard d k = record {
    id_is = k.id_is;
    unclosed = k.unclosed;
    backed = moved_backed m sound w v u d.acts t.association q d.went k.backed;
  }

  starves : (t : Turn S) (met : Met) (t' : Turn S) → IsReady t → Starves t met t' → IsLeft t'
  starves t met t' k h = left_by t t' h.1 (still t k)

  marks : (t : Turn S) (met : Met) (t' : Turn S) → IsReady t → Marks t met t' → IsLeft t'
  marks t met t' k h = left_by _ t' h.1 (k.id_is, inl k.unclosed)

  -- ---- an entry that is closed

  -- of a stream that is not there nothing stands unread
  absent_quiet : (a : S) → AreBacked m sound a → sound a → m.has_stream a s ≡ false → m.has_unread a s (m.generation a s) ≡ false
  absent_quiet a backed ok absent = by (m.has_unread a s (m.generation a s)) refl
    where
      not_backed : IsBackedBy m sound a s (m.generation a s) → ⊥
      not_backed (inl lt) = omega (arith, lt)
      not_backed (inr here) = true≢false (sym here.1 ∙ absent)

      by : (b : Bool) → m.has_unread a s (m.generation a s) ≡ b → m.has_unread a s (m.generation a s) ≡ false
      by true e = absurd (not_backed (backed ok s (m.generation a s) e))
      by false e = e

  ended_silent : (t : Turn S) (q : S) (r : Result (Unit {0}) AssocError) → IsReady t → m.ended t.association t.entry.id r q → (r ≡ Err Alloc → ⊥)
      → IsSilent m sound s q
  ended_silent t q r k called found = by (end_facts m w v t.entry.id t.association q r (did_keeps m v t.entry.id [] [] [] [] t.association q d) called found)
    where
      d : AssociationDid m [] [] [] [] [] t.association q
      d = ended_did m t.association q t.entry.id r called

      by : (is_spent_stream m t.entry.id q ≡ true) ⊎ (m.has_stream t.association t.entry.id ≡ false) → IsSilent m sound s q
      by (inl spent) = λ ok. inr (ap (λ (n : ℕ). is_spent_stream m n q) (sym k.id_is) ∙ spent)
      by (inr absent) =
          silent_on m sound w v u d.acts t.association q s d.given_is d.went
          (λ ok. inl (absent_quiet t.association k.backed ok (ap (λ (n : ℕ). m.has_stream t.association n) (sym k.id_is) ∙ absent)))

  closed_by : (answer : Asked) (t : Turn S) (met : Met) (t' : Turn S) → IsReady t → ((did.OutOfMemory ≡ answer → ⊥) → IsSilent m sound s t.association)
      → ClosedBy m answer t met t' → IsLeft t'
  closed_by did.Done t met t' k silent h = left_by _ t' h.1 (k.id_is, inr (silent done_alloc))
  closed_by did.Refused t met t' k silent h = left_by _ t' h.1 (k.id_is, inr (silent refused_alloc))
  closed_by did.OutOfMemory t met t' k silent h = starves t met t' k h

  closes : (t : Turn S) (met : Met) (t' : Turn S) → IsReady t → Closes m t met t' → IsLeft t'
  closes t met t' k (NoRoom h) = starves t met t' k h
  closes t met t' k (Ended answer q asks h) =
      closed_by answer (record t { association = q }) met t' (ready_on t q [] [] [] [] (ended_did m t.association q t.entry.id asks.result asks.called) k)
      (λ ne. ended_silent t q asks.result k asks.called (not_alloc asks.result answer asks.is ne)) h

  -- ---- an opening

  settles : (e : StreamEntry) (met : Met) (e' : StreamEntry) → e.id ≡ s → is_closed_state e.state ≡ false → Settles e met e'
      → (e'.id ≡ s) × (is_closed_state e'.state ≡ false)
  settles e Nothing e' id free h = absurd h
  settles e Again e' id free h = absurd h
  settles e (Output told) e' id free h =
      (ap (λ (x : StreamEntry). x.id) h.1 ∙ id, ap (λ (x : StreamEntry). is_closed_state x.state) h.1)
  settles e OutOfMemory e' id free h =
      (ap (λ (x : StreamEntry). x.id) h ∙ id, ap (λ (x : StreamEntry). is_closed_state x.state) h ∙ free)

  takes_ack : (bytes : List ℕ) (e : StreamEntry) (met : Met) (e' : StreamEntry) → e.id ≡ s → is_closed_state e.state ≡ false → TakesAck bytes e met e'
      → (e'.id ≡ s) × (is_closed_state e'.state ≡ false)
  takes_ack bytes e Nothing e' id free h = absurd h
  takes_ack bytes e Again e' id free h =
      (ap (λ (x : StreamEntry). x.id) h.1 ∙ id, ap (λ (x : StreamEntry). is_closed_state x.state) h.1 ∙ free)
  takes_ack bytes e (Output told) e' id free h = settles e (Output told) e' id free h.1
  takes_ack bytes e OutOfMemory e' id free h = settles e OutOfMemory e' id free h.1

  of_entry : (t' : Turn S) → (t'.entry.id ≡ s) × (is_closed_state t'.entry.state ≡ false) → IsLeft t'
  of_entry t' h = (h.0, inl h.1)

  announced_by : (answer : Asked) (t : Turn S) (met : Met) (t' : Turn S) → IsReady t → AnnouncedBy m answer t met t' → IsLeft t'
  announced_by did.Done t met t' k h = left_by _ t' h.1 (k.id_is, inl refl)
  announced_by did.Refused t met t' k h = closes t met t' k h
  announced_by did.OutOfMemory t met t' k h = starves t met t' k h

  announces : (t : Turn S) (met : Met) (t' : Turn S) → IsReady t → Announces m t met t' → IsLeft t'
  announces t met t' k (NoMessage h) = starves t met t' k h
  announces t met t' k (Written answer q asks h) =
      announced_by answer (record t { association = q }) met t'
      (ready_on t q [] [] _ [] (wrote_did m t.association q t.entry.id ppi.Dcep _ asks.result asks.called) k) h

  announces_if : (b : Bool) (t : Turn S) (met : Met) (t' : Turn S) → IsReady t → AnnouncesIf m b t met t' → IsLeft t'
  announces_if true t met t' k h = announces t met t' k h
  announces_if false t met t' k h = closes t met t' k h

  begun_as : (b : Bool) (t : Turn S) (met : Met) (t' : Turn S) → IsReady t → BegunAs m b t met t' → IsLeft t'
  begun_as true t met t' k h = of_entry t' (settles t.entry met t'.entry k.id_is k.unclosed h.0)
  begun_as false t met t' k h = announces_if (is_short_entry t.entry) t met t' k h

  begun_by : (answer : Asked) (t : Turn S) (met : Met) (t' : Turn S) → IsReady t → BegunBy m answer t met t' → IsLeft t'
  begun_by did.Done t met t' k h = begun_as (is_out_of_band t.entry) t met t' k h
  begun_by did.Refused t met t' k h = closes t met t' k h
  begun_by did.OutOfMemory t met t' k h = starves t met t' k h

  begins : (t : Turn S) (met : Met) (t' : Turn S) → IsReady t → Begins m t met t' → IsLeft t'
  begins t met t' k h =
      begun_by h.answer (record t { association = h.between }) met t'
      (ready_on t h.between [] [] [] [] (reliability_did m t.association h.between t.entry.id _ _ _ h.asks.result h.asks.called) k) h.then

  retried_if : (b : Bool) (t : Turn S) (met : Met) (t' : Turn S) → IsReady t → RetriedIf m b t met t' → IsLeft t'
  retried_if true t met t' k h = closes t met t' k h
  retried_if false t met t' k h = left_by t t' h.1 (still t k)

  retried_at : (now : ℕ) (first : Option ℕ) (t : Turn S) (met : Met) (t' : Turn S) → IsReady t → RetriedAt m now first t met t' → IsLeft t'
  retried_at now None t met t' k h = left_by _ t' h.1 (k.id_is, inl k.unclosed)
  retried_at now (Some first) t met t' k h = retried_if (is_opening_over first now) t met t' k h

  adopted_if : (b : Bool) (now : ℕ) (t : Turn S) (met : Met) (t' : Turn S) → IsReady t → AdoptedIf m b now t met t' → IsLeft t'
  adopted_if true now t met t' k h = begins t met t' k h
  adopted_if false now t met t' k h = retried_at now t.entry.refused t met t' k h

  opened_by : (answer : Opening) (now : ℕ) (t : Turn S) (met : Met) (t' : Turn S) → IsReady t → OpenedBy m answer now t met t' → IsLeft t'
  opened_by opened.Done now t met t' k h = begins t met t' k h
  opened_by opened.Exists now t met t' k h = adopted_if (is_adopted m t) now t met t' k h
  opened_by opened.Pending now t met t' k h = retried_at now t.entry.refused t met t' k h
  opened_by opened.Refused now t met t' k h = closes t met t' k h
  opened_by opened.OutOfMemory now t met t' k h = starves t met t' k h

  opens_entry : (now : ℕ) (t : Turn S) (met : Met) (t' : Turn S) → IsReady t → OpensEntry m now t met t' → IsLeft t'
  opens_entry now t met t' k h =
      opened_by h.answer now (record t { association = h.between }) met t'
      (ready_on t h.between [] [] [] [] (opened_did m t.association h.between t.entry.id h.asks.result h.asks.called) k) h.then

  -- ---- messages

  acknowledged_by : (answer : Asked) (label : List ℕ) (t : Turn S) (met : Met) (t' : Turn S) → IsReady t → AcknowledgedBy m answer label t met t'
      → IsLeft t'
  acknowledged_by did.Done label t met t' k h = left_by _ t' h.1 (k.id_is, inl refl)
  acknowledged_by did.Refused label t met t' k h = closes t met t' k h
  acknowledged_by did.OutOfMemory label t met t' k h = starves t met t' k h

  acknowledges : (label : List ℕ) (t : Turn S) (met : Met) (t' : Turn S) → IsReady t → Acknowledges m label t met t' → IsLeft t'
  acknowledges label t met t' k h =
      acknowledged_by h.answer label (record t { association = h.between }) met t'
      (ready_on t h.between [] [] _ [] (wrote_did m t.association h.between t.entry.id ppi.Dcep _ h.asks.result h.asks.called) k) h.then

  taken_up_by : (answer : Asked) (label : List ℕ) (t : Turn S) (met : Met) (t' : Turn S) → IsReady t → TakenUpBy m answer label t met t' → IsLeft t'
  taken_up_by did.Done label t met t' k h = acknowledges label t met t' k h
  taken_up_by did.Refused label t met t' k h = marks t met t' k h
  taken_up_by did.OutOfMemory label t met t' k h = starves t met t' k h

  takes_up : (label : List ℕ) (t : Turn S) (met : Met) (t' : Turn S) → IsReady t → TakesUp m label t met t' → IsLeft t'
  takes_up label t met t' k h =
      taken_up_by h.answer label (record t { association = h.between }) met t'
      (ready_on t h.between [] [] [] [] (reliability_did m t.association h.between t.entry.id _ _ _ h.asks.result h.asks.called) k) h.then

  taken_as : (message : ReadMessage) (t : Turn S) (met : Met) (t' : Turn S) → IsReady t → TakenAs m message t met t' → IsLeft t'
  taken_as (read.Open label config) t met t' k h =
      takes_up label _ met t' (record { id_is = k.id_is; unclosed = k.unclosed; backed = k.backed }) h
  taken_as read.Malformed t met t' k h = marks t met t' k h
  taken_as read.OutOfMemory t met t' k h = starves t met t' k h

  takes_dcep : (st : StreamEntryState) (bytes : List ℕ) (t : Turn S) (met : Met) (t' : Turn S) → IsReady t → TakesDcep m st bytes t met t' → IsLeft t'
  takes_dcep AwaitConfig bytes t met t' k h = taken_as h.message t met t' k h.then
  takes_dcep AwaitDcepAck bytes t met t' k h = of_entry t' (takes_ack bytes t.entry met t'.entry k.id_is k.unclosed h.0)
  takes_dcep AwaitOpen bytes t met t' k h = marks t met t' k h
  takes_dcep Open bytes t met t' k h = marks t met t' k h
  takes_dcep Closed bytes t met t' k h = marks t met t' k h

  message : (i : Ppi) (bytes : List ℕ) (t : Turn S) (met : Met) (t' : Turn S) → IsReady t → TakesStreamMessage m i bytes t met t' → IsLeft t'
  message ppi.Dcep bytes t met t' k h = takes_dcep t.entry.state bytes t met t' k h
  message ppi.Text bytes t met t' k h = left_by t t' h.1 (still t k)
  message ppi.Binary bytes t met t' k h = left_by t t' h.1 (still t k)
  message ppi.EmptyText bytes t met t' k h = left_by t t' h.1 (still t k)
  message ppi.EmptyBinary bytes t met t' k h = left_by t t' h.1 (still t k)
  message (ppi.Other n) bytes t met t' k h = marks t met t' k h

  read_by : (answer : Heard) (t : Turn S) (met : Met) (t' : Turn S) → IsReady t → ReadBy m answer t met t' → IsLeft t'
  read_by heard.Nothing t met t' k h = left_by t t' h.1 (still t k)
  read_by (heard.Message i bytes) t met t' k h = message i bytes t met t' k h
  read_by heard.Refused t met t' k h = marks t met t' k h
  read_by heard.OutOfMemory t met t' k h = starves t met t' k h

  handed : (answer : Asked) (n : ℕ) (t : Turn S) (met : Met) (t' : Turn S) → IsReady t → HandedBy m answer n t met t' → IsLeft t'
  handed did.Done n t met t' k h = left_by _ t' h.1 (k.id_is, inl k.unclosed)
  handed did.Refused n t met t' k h = left_by _ t' h.1 (k.id_is, inl k.unclosed)
  handed did.OutOfMemory n t met t' k h = starves t met t' k h

  may_read : (t : Turn S) (met : Met) (t' : Turn S) → IsReady t → MayRead m t met t' → IsLeft t'
  may_read t met t' k (IsRead h) =
      read_by h.answer (record t { association = h.between }) met t'
      (ready_on t h.between [] [] [] _ (read_did m w t.association h.between t.entry.id h.asks.result h.asks.called) k) h.then
  may_read t met t' k (NothingUnread unread e f) = left_by t t' f (still t k)

  attends_by : (b : BufferedThresholdConfig) (t : Turn S) (met : Met) (t' : Turn S) → IsReady t → AttendsBy m b t met t' → IsLeft t'
  attends_by (Desired n) t met t' k h =
      handed h.answer n (record t { association = h.between }) met t'
      (ready_on t h.between [] [] [] [] (threshold_did m t.association h.between t.entry.id n h.asks.result h.asks.called) k) h.then
  attends_by Unconfigured t met t' k h = may_read t met t' k h
  attends_by (Configured n) t met t' k h = may_read t met t' k h

  attends_if : (b there : Bool) (t : Turn S) (met : Met) (t' : Turn S) → IsReady t → AttendsIf m b there t met t' → IsLeft t'
  attends_if true there t met t' k h = closes t met t' k h
  attends_if false false t met t' k h = marks t met t' k h
  attends_if false true t met t' k h = attends_by t.entry.threshold t met t' k h

  visits_in : (st : StreamEntryState) (now : ℕ) (t : Turn S) (met : Met) (t' : Turn S) → IsReady t → VisitsIn m st now t met t' → IsLeft t'
  visits_in AwaitOpen now t met t' k h = opens_entry now t met t' k h
  visits_in AwaitConfig now t met t' k h = attends_if t.entry.marked (is_entry_there m t.association t.entry) t met t' k h
  visits_in AwaitDcepAck now t met t' k h = attends_if t.entry.marked (is_entry_there m t.association t.entry) t met t' k h
  visits_in Open now t met t' k h = attends_if t.entry.marked (is_entry_there m t.association t.entry) t met t' k h
  visits_in Closed now t met t' k h = left_by t t' h.1 (still t k)

  pub visit_left : (now : ℕ) (t : Turn S) (met : Met) (t' : Turn S) → Visits m now t met t' → IsReady t → IsLeft t'
  visit_left now t met t' h k = visits_in t.entry.state now t met t' k h
