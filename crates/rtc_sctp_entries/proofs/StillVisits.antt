-- A visit that meets nothing leaves the association, the resets and the state of the entry, and past its opening the whole entry.
use Rattle.std.proofs.Common.{◌≡◌, ℕ, Bool, true, false, List, Option, Some, None, Result, inl, inr, refl, ap, subst, ◌∙◌}
use Rattle.rtc_parts.specs.declared.assoc_error.AssocError.{AssocError}
use Rattle.rtc_parts.specs.declared.assoc_error.AssocError.TheVariants.{StreamExists, ResetPending}
use Rattle.rtc_parts.specs.declared.ppi.Ppi.{Ppi}
use Rattle.rtc_parts.specs.AssociationMeaning.{AssociationMeaning}
use Rattle.rtc_parts.specs.AssociationLaws.{AssociationLaws}
use Rattle.rtc_sctp_entries.specs.declared.buffered_threshold_config.BufferedThresholdConfig.{BufferedThresholdConfig}
use Rattle.rtc_sctp_entries.specs.declared.buffered_threshold_config.BufferedThresholdConfig.TheVariants.{Unconfigured, Desired, Configured}
use Rattle.rtc_sctp_entries.specs.declared.heard.Heard.{Heard}
use Rattle.rtc_sctp_entries.specs.declared.heard.Heard.TheVariants as heard
use Rattle.rtc_sctp_entries.specs.declared.opening.Opening.{Opening}
use Rattle.rtc_sctp_entries.specs.declared.opening.Opening.TheVariants as opened
use Rattle.rtc_sctp_entries.specs.declared.stream_entry_state.StreamEntryState.{StreamEntryState}
use Rattle.rtc_sctp_entries.specs.declared.stream_entry_state.StreamEntryState.TheVariants.{AwaitOpen, AwaitConfig, AwaitDcepAck, Open, Closed}
use Rattle.rtc_sctp_entries.specs.declared.met.Met.TheVariants.{Nothing}
use Rattle.rtc_sctp_entries.specs.Answers.{opening_of, heard_of}
use Rattle.rtc_sctp_entries.specs.Entries.{is_desired}
use Rattle.rtc_sctp_entries.specs.Visits.{Turn, is_opening_over, RetriedIf, RetriedAt, is_adopted, AdoptedIf, OpenedBy, ReadBy, MayRead, IsRead, NothingUnread, AttendsBy, AttendsIf, is_entry_there, Attends, VisitsIn, Visits}
use Rattle.rtc_sctp_entries.proofs.AnswerLemmas.{exists_is, pending_is, nothing_is}
use Rattle.rtc_sctp_entries.proofs.MeetingEntries.{closes_meet, begins_meet, message_taken, threshold_handed}

-- what a visit leaves as it was
pub record Still {S : Type 0} (t t' : Turn S) : Type 0 where
  pub association : t'.association ≡ t.association
  pub resets : t'.resets ≡ t.resets
  pub state : t'.entry.state ≡ t.entry.state

pub still_same : {S : Type 0} (t t' : Turn S) → t' ≡ t → Still t t'
still_same {S} t t' e = record { association = ap (λ (x : Turn S). x.association) e; resets = ap (λ (x : Turn S). x.resets) e; state = ap (λ (x : Turn S). x.entry.state) e }

-- an entry with nothing to do
pub record Idle {S : Type 0} (m : AssociationMeaning S) (t : Turn S) : Type 0 where
  pub unmarked : t.entry.marked ≡ false
  pub handed : is_desired t.entry.threshold ≡ false
  pub there : is_entry_there m t.association t.entry ≡ true
  pub unread : m.has_unread t.association t.entry.id (m.generation t.association t.entry.id) ≡ false

module _ {S : Type 0} (m : AssociationMeaning S) (w : AssociationLaws m) where
  -- openings
  retried_if : (b : Bool) (t t' : Turn S) → RetriedIf m b t Nothing t' → Still t t'
  retried_if true t t' h = absurd (closes_meet m t t' h)
  retried_if false t t' h = still_same t t' h.1

  retried : (now : ℕ) (refused : Option ℕ) (t t' : Turn S) → RetriedAt m now refused t Nothing t' → Still t t'
  retried now None t t' h = record {
    association = ap (λ (x : Turn S). x.association) h.1;
    resets = ap (λ (x : Turn S). x.resets) h.1;
    state = ap (λ (x : Turn S). x.entry.state) h.1;
  }
  retried now (Some first) t t' h = retried_if (is_opening_over first now) t t' h

  adopted : (b : Bool) (now : ℕ) (t t' : Turn S) → AdoptedIf m b now t Nothing t' → Still t t'
  adopted true now t t' h = absurd (begins_meet m t t' h)
  adopted false now t t' h = retried now t.entry.refused t t' h

  -- over the association as it was
  still_over : (t t' : Turn S) (q : S) → q ≡ t.association → Still (record t { association = q }) t' → Still t t'
  still_over t t' q e h = record { association = h.association ∙ e; resets = h.resets; state = h.state }

  opened_by : (o : Opening) (now : ℕ) (t t' : Turn S) (q : S) (r : Result (Unit {0}) AssocError) → m.opened t.association t.entry.id r q
      → opening_of r ≡ o → OpenedBy m o now (record t { association = q }) Nothing t' → Still t t'
  opened_by opened.Done now t t' q r was is h = absurd (begins_meet m (record t { association = q }) t' h)
  opened_by opened.Refused now t t' q r was is h = absurd (closes_meet m (record t { association = q }) t' h)
  opened_by opened.OutOfMemory now t t' q r was is h = cc (h.0)
  opened_by opened.Exists now t t' q r was is h =
      let called = subst (λ (x : Result (Unit {0}) AssocError). m.opened t.association t.entry.id x q) (exists_is r is) was in
      still_over t t' q (w.open_refused t.association q t.entry.id StreamExists (inl refl) called)
      (adopted (is_adopted m (record t { association = q })) now (record t { association = q }) t' h)
  opened_by opened.Pending now t t' q r was is h =
      let called = subst (λ (x : Result (Unit {0}) AssocError). m.opened t.association t.entry.id x q) (pending_is r is) was in
      still_over t t' q (w.open_refused t.association q t.entry.id ResetPending (inr refl) called)
      (retried now t.entry.refused (record t { association = q }) t' h)

  -- readings
  read_by : (answer : Heard) (t t' : Turn S) (q : S) (r : Result (Option (Ppi × List ℕ)) AssocError) → m.read t.association t.entry.id r q
      → heard_of r ≡ answer → ReadBy m answer (record t { association = q }) Nothing t'
      → (t' ≡ t) × (m.has_unread t.association t.entry.id (m.generation t.association t.entry.id) ≡ false)
  read_by heard.Nothing t t' q r was is h =
      let called = subst (λ (x : Result (Option (Ppi × List ℕ)) AssocError). m.read t.association t.entry.id x q) (nothing_is r is) was in
      (h.1 ∙ ap (λ (x : S). record t { association = x }) (w.read_none t.association q t.entry.id called), w.none_unread t.association q t.entry.id called)
  read_by (heard.Message identifier bytes) t t' q r was is h = absurd (message_taken m identifier bytes (record t { association = q }) t' h)
  read_by heard.Refused t t' q r was is h = cc (h.0)
  read_by heard.OutOfMemory t t' q r was is h = cc (h.0)

  may_read : (t t' : Turn S) → MayRead m t Nothing t'
      → (t' ≡ t) × (m.has_unread t.association t.entry.id (m.generation t.association t.entry.id) ≡ false)
  may_read t t' (IsRead h) = read_by h.answer t t' h.between h.asks.result h.asks.called h.asks.is h.then
  may_read t t' (NothingUnread unread met same) = (same, unread)

  attends_by : (b : BufferedThresholdConfig) (t t' : Turn S) → t.entry.threshold ≡ b → AttendsBy m b t Nothing t'
      → (t' ≡ t) × (m.has_unread t.association t.entry.id (m.generation t.association t.entry.id) ≡ false) × (is_desired t.entry.threshold ≡ false)
  attends_by (Desired n) t t' is h = absurd (threshold_handed m h.answer n (record t { association = h.between }) t' h.then)
  attends_by Unconfigured t t' is h = let k = may_read t t' h in (k.0, k.1, ap is_desired is)
  attends_by (Configured n) t t' is h = let k = may_read t t' h in (k.0, k.1, ap is_desired is)

  attends_if : (marked there : Bool) (t t' : Turn S) → t.entry.marked ≡ marked → is_entry_there m t.association t.entry ≡ there
      → AttendsIf m marked there t Nothing t' → (t' ≡ t) × Idle m t
  attends_if true there t t' e f h = absurd (closes_meet m t t' h)
  attends_if false false t t' e f h = cc (h.0)
  attends_if false true t t' e f h =
      let k = attends_by t.entry.threshold t t' refl h in
      (k.0, record { unmarked = e; handed = k.2; there = f; unread = k.1 })

  -- an entry past its opening
  pub attends_still : (t t' : Turn S) → Attends m t Nothing t' → (t' ≡ t) × Idle m t
  attends_still t t' h = attends_if t.entry.marked (is_entry_there m t.association t.entry) t t' refl refl h

  visits_in : (st : StreamEntryState) (now : ℕ) (t t' : Turn S) → VisitsIn m st now t Nothing t' → Still t t'
  visits_in AwaitOpen now t t' h = opened_by h.answer now t t' h.between h.asks.result h.asks.called h.asks.is h.then
  visits_in AwaitConfig now t t' h = still_same t t' (attends_still t t' h).0
  visits_in AwaitDcepAck now t t' h = still_same t t' (attends_still t t' h).0
  visits_in Open now t t' h = still_same t t' (attends_still t t' h).0
  visits_in Closed now t t' h = still_same t t' h.1

  pub visits_still : (now : ℕ) (t t' : Turn S) → Visits m now t Nothing t' → Still t t'
  visits_still now t t' h = visits_in t.entry.state now t t' h
