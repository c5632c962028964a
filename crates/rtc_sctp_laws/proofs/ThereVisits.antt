-- A visit of an entry that opens its stream, or closes the entry, leaves the stream begun; other streams go on as they were.
use Rattle.std.proofs.Common.{◌≡◌, ◌∙◌, ◌⊎◌, inl, inr, ℕ, Bool, true, false, true≢false, List, [], Option, Some, None, Result, Ok, Err, refl, sym, ap, subst}
use Rattle.rtc_parts.specs.declared.assoc_error.AssocError.{AssocError}
use Rattle.rtc_parts.specs.declared.assoc_error.AssocError.TheVariants.{StreamExists, ResetPending, NoStream, TooLong, Closing, Fault, Alloc}
use Rattle.rtc_parts.specs.declared.ppi.Ppi.{Ppi}
use Rattle.rtc_parts.specs.declared.ppi.Ppi.TheVariants as ppi
use Rattle.rtc_parts.specs.AssociationLaws.{AssociationLaws}
use Rattle.rtc_parts.specs.AssociationMeaning.{AssociationMeaning}
use Rattle.rtc_sctp_entries.specs.declared.asked.Asked.{Asked}
use Rattle.rtc_sctp_entries.specs.declared.asked.Asked.TheVariants as did
use Rattle.rtc_sctp_entries.specs.declared.opening.Opening.{Opening}
use Rattle.rtc_sctp_entries.specs.declared.heard.Heard.{Heard}
use Rattle.rtc_sctp_entries.specs.declared.heard.Heard.TheVariants as heard
use Rattle.rtc_sctp_entries.specs.declared.read_message.ReadMessage.{ReadMessage}
use Rattle.rtc_sctp_entries.specs.declared.read_message.ReadMessage.TheVariants as read
use Rattle.rtc_sctp_entries.specs.declared.buffered_threshold_config.BufferedThresholdConfig.{BufferedThresholdConfig}
use Rattle.rtc_sctp_entries.specs.declared.buffered_threshold_config.BufferedThresholdConfig.TheVariants.{Unconfigured, Desired, Configured}
use Rattle.rtc_sctp_entries.specs.declared.stream_entry_state.StreamEntryState.{StreamEntryState}
use Rattle.rtc_sctp_entries.specs.declared.stream_entry_state.StreamEntryState.TheVariants.{AwaitOpen, AwaitConfig, AwaitDcepAck, Open, Closed}
use Rattle.rtc_sctp_entries.specs.declared.stream_entry.StreamEntry.{StreamEntry}
use Rattle.rtc_sctp_entries.specs.declared.met.Met.{Met}
use Rattle.rtc_sctp_entries.specs.declared.met.Met.TheVariants.{Nothing, Again, Output, OutOfMemory}
use Rattle.rtc_sctp_entries.specs.Answers.{opening_of}
use Rattle.rtc_sctp_entries.specs.Entries.{is_out_of_band, is_short_entry}
use Rattle.rtc_sctp_entries.specs.Visits.{Turn, is_opening_over, Marks, Starves, Settles, TakesAck, ClosedBy, Closes, NoRoom, Ended, AnnouncedBy, Announces, NoMessage, Written, AnnouncesIf, BegunAs, BegunBy, Begins, RetriedIf, RetriedAt, is_adopted, AdoptedIf, OpenedBy, OpensEntry, AcknowledgedBy, Acknowledges, TakenUpBy, TakesUp, TakenAs, TakesDcep, TakesStreamMessage, ReadBy, MayRead, IsRead, NothingUnread, HandedBy, AttendsBy, AttendsIf, is_entry_there, VisitsIn, Visits}
use Rattle.rtc_sctp_laws.specs.StreamRuns.{is_past_opening}
use Rattle.rtc_sctp_laws.proofs.ActLemmas.{ended_did}
use Rattle.rtc_sctp_laws.specs.GenerationLaws.{GenerationLaws}
use Rattle.rtc_sctp_laws.specs.StreamUses.{is_spent_stream}
use Rattle.rtc_sctp_laws.proofs.KeptUses.{did_keeps}
use Rattle.rtc_sctp_laws.proofs.KnownUses.{done_alloc, end_facts, not_alloc, refused_alloc}
use Rattle.rtc_sctp_laws.proofs.ThereStreams.{Goes, IsFine, IsHeld, KeepingLaws, WasThere, ended_goes, goes_join, opened_goes, read_goes, reliability_goes, threshold_goes, wrote_goes}

module _ {S : Type 0} (m : AssociationMeaning S) (keeps : S → ℕ → Type 0) (w : AssociationLaws m) (v : GenerationLaws m) (u : KeepingLaws m keeps)
    (s : ℕ) (a : S) (id : ℕ) where
  -- in the course of a visit of an entry, from an association on: other streams went on
  pub record Midway (t : Turn S) : Type 0 where
    pub id_is : t.entry.id ≡ id
    pub other : (id ≡ s → ⊥) → Goes m keeps s a t.association

  -- and its own stream is begun
  pub record IsReady (t : Turn S) : Type 0 where
    pub midway : Midway t
    pub own : id ≡ s → (is_past_opening t.entry.state ≡ true) ⊎ IsFine m keeps s t.association

  -- unless memory was wanting
  abbrev pub LeavesReady : Met → Turn S → Type 0
  LeavesReady OutOfMemory t = Unit {0}
  LeavesReady Nothing t = IsReady t
  LeavesReady Again t = IsReady t
  LeavesReady (Output e) t = IsReady t

  left_as : (r : Met) (x : Turn S) (met : Met) (t : Turn S) → met ≡ r → t ≡ x → LeavesReady r x → LeavesReady met t
  left_as r x met t is same h =
      subst (λ (y : Met). LeavesReady y t) (sym is) (subst (λ (y : Turn S). LeavesReady r y) (sym same) h)

  starves : (t : Turn S) (met : Met) (t' : Turn S) → Starves t met t' → LeavesReady met t'
  starves t met t' h = left_as OutOfMemory t met t' h.0 h.1 tt

  midway_on : (t : Turn S) (q : S) → ((id ≡ s → ⊥) → Goes m keeps s t.association q) → Midway t → Midway (record t { association = q })
  midway_on t q g k = record { id_is = k.id_is; other = λ ne. goes_join m keeps s a t.association q (k.other ne) (g ne) }

  -- past the opening
  past : (x : Turn S) → Midway x → is_past_opening x.entry.state ≡ true → IsReady x
  past x k up = record { midway = k; own = λ e. inl up }

  marks : (t : Turn S) (met : Met) (t' : Turn S) → Midway t → is_past_opening t.entry.state ≡ true → Marks t met t' → LeavesReady met t'
  marks t met t' k up h = left_as Again _ met t' h.0 h.1 (past _ (record { id_is = k.id_is; other = k.other }) up)

  -- ---- an entry that is closed

  closed_by : (answer : Asked) (t : Turn S) (met : Met) (t' : Turn S) → Midway t
      → ((did.OutOfMemory ≡ answer → ⊥) → id ≡ s → IsFine m keeps s t.association) → ClosedBy m answer t met t' → LeavesReady met t'
  closed_by did.Done t met t' k fine h =
      left_as (Output _) _ met t' h.0 h.1
      (record { midway = record { id_is = k.id_is; other = k.other }; own = λ e. inr (fine done_alloc e) })
  closed_by did.Refused t met t' k fine h =
      left_as (Output _) _ met t' h.0 h.1
      (record { midway = record { id_is = k.id_is; other = k.other }; own = λ e. inr (fine refused_alloc e) })
  closed_by did.OutOfMemory t met t' k fine h = starves t met t' h

  ended_fine : (t : Turn S) (q : S) (r : Result (Unit {0}) AssocError) → Midway t → m.ended t.association t.entry.id r q → (r ≡ Err Alloc → ⊥) → id ≡ s
      → IsFine m keeps s q
  ended_fine t q r k called found e =
      λ there.
      by there (end_facts m w v t.entry.id t.association q r (did_keeps m v t.entry.id [] [] [] [] t.association q (ended_did m t.association q t.entry.id r called)) called found)
    where
      same : t.entry.id ≡ s
      same = k.id_is ∙ e

      before : WasThere m keeps s t.association q ⊎ IsHeld m keeps s q → m.has_stream t.association s ≡ false → IsHeld m keeps s q
      before (inl was) absent = absurd (true≢false (sym was.0 ∙ absent))
      before (inr held) absent = held

      by : m.has_stream q s ≡ true → (is_spent_stream m t.entry.id q ≡ true) ⊎ (m.has_stream t.association t.entry.id ≡ false)
          → IsHeld m keeps s q
      by there (inl spent) = inr (ap (λ (n : ℕ). is_spent_stream m n q) (sym same) ∙ spent)
      by there (inr absent) =
          before ((ended_goes m keeps w v u s t.entry.id t.association q r called).rises there)
          (ap (λ (n : ℕ). m.has_stream t.association n) (sym same) ∙ absent)

  closes : (t : Turn S) (met : Met) (t' : Turn S) → Midway t → Closes m t met t' → LeavesReady met t'
  closes t met t' k (NoRoom h) = starves t met t' h
  closes t met t' k (Ended answer q asks h) =
      closed_by answer (record t { association = q }) met t'
      (midway_on t q (λ ne. ended_goes m keeps w v u s t.entry.id t.association q asks.result asks.called) k)
      (λ ne e. ended_fine t q asks.result k asks.called (not_alloc asks.result answer asks.is ne) e) h

  -- ---- an opening

  settles : (e : StreamEntry) (t : Turn S) (met : Met) (t' : Turn S) → Midway t → e ≡ t.entry → Settles e met t'.entry
      → t' ≡ record t { entry = t'.entry } → LeavesReady met t'
  settles e t Nothing t' k of h is = absurd h
  settles e t Again t' k of h is = absurd h
  settles e t (Output told) t' k of h is =
      subst (λ (x : Turn S). IsReady x) (sym is)
      (past (record t { entry = t'.entry })
      (record { id_is = ap (λ (x : StreamEntry). x.id) h.1 ∙ ap (λ (x : StreamEntry). x.id) of ∙ k.id_is; other = k.other })
      (ap (λ (x : StreamEntry). is_past_opening x.state) h.1))
  settles e t OutOfMemory t' k of h is = tt

  takes_ack : (bytes : List ℕ) (t : Turn S) (met : Met) (t' : Turn S) → Midway t → is_past_opening t.entry.state ≡ true
      → TakesAck bytes t.entry met t'.entry → t' ≡ record t { entry = t'.entry } → LeavesReady met t'
  takes_ack bytes t Nothing t' k up h is = absurd h
  takes_ack bytes t Again t' k up h is =
      subst (λ (x : Turn S). IsReady x) (sym is)
      (past (record t { entry = t'.entry }) (record { id_is = ap (λ (x : StreamEntry). x.id) h.1 ∙ k.id_is; other = k.other })
      (ap (λ (x : StreamEntry). is_past_opening x.state) h.1 ∙ up))
  takes_ack bytes t (Output told) t' k up h is = settles t.entry t (Output told) t' k refl h.1 is
  takes_ack bytes t OutOfMemory t' k up h is = tt

  announced_by : (answer : Asked) (t : Turn S) (met : Met) (t' : Turn S) → Midway t → AnnouncedBy m answer t met t' → LeavesReady met t'
  announced_by did.Done t met t' k h = left_as Again _ met t' h.0 h.1 (past _ (record { id_is = k.id_is; other = k.other }) refl)
  announced_by did.Refused t met t' k h = closes t met t' k h
  announced_by did.OutOfMemory t met t' k h = starves t met t' h

  announces : (t : Turn S) (met : Met) (t' : Turn S) → Midway t → Announces m t met t' → LeavesReady met t'
  announces t met t' k (NoMessage h) = starves t met t' h
  announces t met t' k (Written answer q asks h) =
      announced_by answer (record t { association = q }) met t'
      (midway_on t q (λ ne. wrote_goes m keeps w v u s t.entry.id ppi.Dcep _ t.association q asks.result asks.called) k) h

  announces_if : (b : Bool) (t : Turn S) (met : Met) (t' : Turn S) → Midway t → AnnouncesIf m b t met t' → LeavesReady met t'
  announces_if true t met t' k h = announces t met t' k h
  announces_if false t met t' k h = closes t met t' k h

  begun_as : (b : Bool) (t : Turn S) (met : Met) (t' : Turn S) → Midway t → BegunAs m b t met t' → LeavesReady met t'
  begun_as true t met t' k h = settles t.entry t met t' k refl h.0 h.1
  begun_as false t met t' k h = announces_if (is_short_entry t.entry) t met t' k h

  begun_by : (answer : Asked) (t : Turn S) (met : Met) (t' : Turn S) → Midway t → BegunBy m answer t met t' → LeavesReady met t'
  begun_by did.Done t met t' k h = begun_as (is_out_of_band t.entry) t met t' k h
  begun_by did.Refused t met t' k h = closes t met t' k h
  begun_by did.OutOfMemory t met t' k h = starves t met t' h

  begins : (t : Turn S) (met : Met) (t' : Turn S) → Midway t → Begins m t met t' → LeavesReady met t'
  begins t met t' k h =
      begun_by h.answer (record t { association = h.between }) met t'
      (midway_on t h.between (λ ne. reliability_goes m keeps w v u s t.entry.id _ _ _ t.association h.between h.asks.result h.asks.called) k) h.then

  retried_if : (b : Bool) (t : Turn S) (met : Met) (t' : Turn S) → IsReady t → RetriedIf m b t met t' → LeavesReady met t'
  retried_if true t met t' k h = closes t met t' k.midway h
  retried_if false t met t' k h = left_as Nothing t met t' h.0 h.1 k

  retried_at : (now : ℕ) (first : Option ℕ) (t : Turn S) (met : Met) (t' : Turn S) → IsReady t → RetriedAt m now first t met t' → LeavesReady met t'
  retried_at now None t met t' k h =
      left_as Nothing _ met t' h.0 h.1 (record { midway = record { id_is = k.midway.id_is; other = k.midway.other }; own = k.own })
  retried_at now (Some first) t met t' k h = retried_if (is_opening_over first now) t met t' k h

  adopted_if : (b : Bool) (now : ℕ) (t : Turn S) (met : Met) (t' : Turn S) → IsReady t → AdoptedIf m b now t met t' → LeavesReady met t'
  adopted_if true now t met t' k h = begins t met t' k.midway h
  adopted_if false now t met t' k h = retried_at now t.entry.refused t met t' k h

  -- behind a refusal for now the association is as it was
  refused_ready : (t : Turn S) (q : S) → q ≡ t.association → IsReady t → IsReady (record t { association = q })
  refused_ready t q same k = subst (λ (x : S). IsReady (record t { association = x })) (sym same) (record { midway = record { id_is = k.midway.id_is; other = k.midway.other }; own = k.own })

  opened_by : (r : Result (Unit {0}) AssocError) (q : S) (now : ℕ) (t : Turn S) (met : Met) (t' : Turn S) → IsReady t
      → m.opened t.association t.entry.id r q → OpenedBy m (opening_of r) now (record t { association = q }) met t' → LeavesReady met t'
  opened_by r q now t met t' k called h = by r called h
    where
      on : (x : Result (Unit {0}) AssocError) → m.opened t.association t.entry.id x q → Midway (record t { association = q })
      on x did =
          midway_on t q (λ ne. opened_goes m keeps w v u s t.entry.id t.association q x (λ f. ne (sym k.midway.id_is ∙ f)) did) k.midway

      by : (x : Result (Unit {0}) AssocError) → m.opened t.association t.entry.id x q → OpenedBy m (opening_of x) now (record t { association = q }) met t'
          → LeavesReady met t'
      by (Ok x) did g = begins (record t { association = q }) met t' (on (Ok x) did) g
      by (Err StreamExists) did g =
          adopted_if (is_adopted m (record t { association = q })) now (record t { association = q }) met t'
          (refused_ready t q (w.open_refused t.association q t.entry.id StreamExists (inl refl) did) k) g
      by (Err ResetPending) did g =
          retried_at now t.entry.refused (record t { association = q }) met t'
          (refused_ready t q (w.open_refused t.association q t.entry.id ResetPending (inr refl) did) k) g
      by (Err Alloc) did g = starves (record t { association = q }) met t' g
      by (Err NoStream) did g = closes (record t { association = q }) met t' (on (Err NoStream) did) g
      by (Err TooLong) did g = closes (record t { association = q }) met t' (on (Err TooLong) did) g
      by (Err Closing) did g = closes (record t { association = q }) met t' (on (Err Closing) did) g
      by (Err Fault) did g = closes (record t { association = q }) met t' (on (Err Fault) did) g

  opens_entry : (now : ℕ) (t : Turn S) (met : Met) (t' : Turn S) → IsReady t → OpensEntry m now t met t' → LeavesReady met t'
  opens_entry now t met t' k h =
      opened_by h.asks.result h.between now t met t' k h.asks.called
      (subst (λ (x : Opening). OpenedBy m x now (record t { association = h.between }) met t') (sym h.asks.is) h.then)

  -- ---- messages

  acknowledged_by : (answer : Asked) (label : List ℕ) (t : Turn S) (met : Met) (t' : Turn S) → Midway t → AcknowledgedBy m answer label t met t'
      → LeavesReady met t'
  acknowledged_by did.Done label t met t' k h = left_as (Output _) _ met t' h.0 h.1 (past _ (record { id_is = k.id_is; other = k.other }) refl)
  acknowledged_by did.Refused label t met t' k h = closes t met t' k h
  acknowledged_by did.OutOfMemory label t met t' k h = starves t met t' h

  acknowledges : (label : List ℕ) (t : Turn S) (met : Met) (t' : Turn S) → Midway t → Acknowledges m label t met t' → LeavesReady met t'
  acknowledges label t met t' k h =
      acknowledged_by h.answer label (record t { association = h.between }) met t'
      (midway_on t h.between (λ ne. wrote_goes m keeps w v u s t.entry.id ppi.Dcep _ t.association h.between h.asks.result h.asks.called) k) h.then

  taken_up_by : (answer : Asked) (label : List ℕ) (t : Turn S) (met : Met) (t' : Turn S) → Midway t → is_past_opening t.entry.state ≡ true
      → TakenUpBy m answer label t met t' → LeavesReady met t'
  taken_up_by did.Done label t met t' k up h = acknowledges label t met t' k h
  taken_up_by did.Refused label t met t' k up h = marks t met t' k up h
  taken_up_by did.OutOfMemory label t met t' k up h = starves t met t' h

  takes_up : (label : List ℕ) (t : Turn S) (met : Met) (t' : Turn S) → Midway t → is_past_opening t.entry.state ≡ true → TakesUp m label t met t' → LeavesReady met t'
  takes_up label t met t' k up h =
      taken_up_by h.answer label (record t { association = h.between }) met t'
      (midway_on t h.between (λ ne. reliability_goes m keeps w v u s t.entry.id _ _ _ t.association h.between h.asks.result h.asks.called) k) up h.then

  taken_as : (message : ReadMessage) (t : Turn S) (met : Met) (t' : Turn S) → Midway t → is_past_opening t.entry.state ≡ true → TakenAs m message t met t' → LeavesReady met t'
  taken_as (read.Open label config) t met t' k up h = takes_up label _ met t' (record { id_is = k.id_is; other = k.other }) up h
  taken_as read.Malformed t met t' k up h = marks t met t' k up h
  taken_as read.OutOfMemory t met t' k up h = starves t met t' h

  takes_dcep : (st : StreamEntryState) (bytes : List ℕ) (t : Turn S) (met : Met) (t' : Turn S) → Midway t → is_past_opening t.entry.state ≡ true
      → TakesDcep m st bytes t met t' → LeavesReady met t'
  takes_dcep AwaitConfig bytes t met t' k up h = taken_as h.message t met t' k up h.then
  takes_dcep AwaitDcepAck bytes t met t' k up h = takes_ack bytes t met t' k up h.0 h.1
  takes_dcep AwaitOpen bytes t met t' k up h = marks t met t' k up h
  takes_dcep Open bytes t met t' k up h = marks t met t' k up h
  takes_dcep Closed bytes t met t' k up h = marks t met t' k up h

  message : (i : Ppi) (bytes : List ℕ) (t : Turn S) (met : Met) (t' : Turn S) → Midway t → is_past_opening t.entry.state ≡ true
      → TakesStreamMessage m i bytes t met t' → LeavesReady met t'
  message ppi.Dcep bytes t met t' k up h = takes_dcep t.entry.state bytes t met t' k up h
  message ppi.Text bytes t met t' k up h = left_as (Output _) t met t' h.0 h.1 (past t k up)
  message ppi.Binary bytes t met t' k up h = left_as (Output _) t met t' h.0 h.1 (past t k up)
  message ppi.EmptyText bytes t met t' k up h = left_as (Output _) t met t' h.0 h.1 (past t k up)
  message ppi.EmptyBinary bytes t met t' k up h = left_as (Output _) t met t' h.0 h.1 (past t k up)
  message (ppi.Other n) bytes t met t' k up h = marks t met t' k up h

  read_by : (answer : Heard) (t : Turn S) (met : Met) (t' : Turn S) → Midway t → is_past_opening t.entry.state ≡ true → ReadBy m answer t met t'
      → LeavesReady met t'
  read_by heard.Nothing t met t' k up h = left_as Nothing t met t' h.0 h.1 (past t k up)
  read_by (heard.Message i bytes) t met t' k up h = message i bytes t met t' k up h
  read_by heard.Refused t met t' k up h = marks t met t' k up h
  read_by heard.OutOfMemory t met t' k up h = starves t met t' h

  handed : (answer : Asked) (n : ℕ) (t : Turn S) (met : Met) (t' : Turn S) → Midway t → is_past_opening t.entry.state ≡ true → HandedBy m answer n t met t' → LeavesReady met t'
  handed did.Done n t met t' k up h = left_as Again _ met t' h.0 h.1 (past _ (record { id_is = k.id_is; other = k.other }) up)
  handed did.Refused n t met t' k up h = left_as Again _ met t' h.0 h.1 (past _ (record { id_is = k.id_is; other = k.other }) up)
  handed did.OutOfMemory n t met t' k up h = starves t met t' h

  reads_on : (t : Turn S) (q : S) (r : Result (Option (Ppi × List ℕ)) AssocError) → m.read t.association t.entry.id r q → Midway t
      → Midway (record t { association = q })
  reads_on t q r called k =
      midway_on t q (λ ne. read_goes m keeps w v u s t.entry.id t.association q r (λ f. ne (sym k.id_is ∙ f)) called) k

  may_read : (t : Turn S) (met : Met) (t' : Turn S) → Midway t → is_past_opening t.entry.state ≡ true → MayRead m t met t' → LeavesReady met t'
  may_read t met t' k up (IsRead h) =
      read_by h.answer (record t { association = h.between }) met t' (reads_on t h.between h.asks.result h.asks.called k) up h.then
  may_read t met t' k up (NothingUnread unread e f) = left_as Nothing t met t' e f (past t k up)

  attends_by : (b : BufferedThresholdConfig) (t : Turn S) (met : Met) (t' : Turn S) → Midway t → is_past_opening t.entry.state ≡ true
      → AttendsBy m b t met t' → LeavesReady met t'
  attends_by (Desired n) t met t' k up h =
      handed h.answer n (record t { association = h.between }) met t'
      (midway_on t h.between (λ ne. threshold_goes m keeps w v u s t.entry.id n t.association h.between h.asks.result h.asks.called) k) up h.then
  attends_by Unconfigured t met t' k up h = may_read t met t' k up h
  attends_by (Configured n) t met t' k up h = may_read t met t' k up h

  attends_if : (b there : Bool) (t : Turn S) (met : Met) (t' : Turn S) → Midway t → is_past_opening t.entry.state ≡ true → AttendsIf m b there t met t' → LeavesReady met t'
  attends_if true there t met t' k up h = closes t met t' k h
  attends_if false false t met t' k up h = marks t met t' k up h
  attends_if false true t met t' k up h = attends_by t.entry.threshold t met t' k up h

  visits_in : (st : StreamEntryState) (now : ℕ) (t : Turn S) (met : Met) (t' : Turn S) → t.entry.state ≡ st → IsReady t → VisitsIn m st now t met t'
      → LeavesReady met t'
  visits_in AwaitOpen now t met t' is k h = opens_entry now t met t' k h
  visits_in AwaitConfig now t met t' is k h =
      attends_if t.entry.marked (is_entry_there m t.association t.entry) t met t' k.midway (ap is_past_opening is) h
  visits_in AwaitDcepAck now t met t' is k h =
      attends_if t.entry.marked (is_entry_there m t.association t.entry) t met t' k.midway (ap is_past_opening is) h
  visits_in Open now t met t' is k h =
      attends_if t.entry.marked (is_entry_there m t.association t.entry) t met t' k.midway (ap is_past_opening is) h
  visits_in Closed now t met t' is k h = left_as Nothing t met t' h.0 h.1 k

  pub visit_ready : (now : ℕ) (t : Turn S) (met : Met) (t' : Turn S) → Visits m now t met t' → IsReady t → LeavesReady met t'
  visit_ready now t met t' h k = visits_in t.entry.state now t met t' refl k h
