-- The one entry of a stream, where it is open: behind an event, and where closed entries are dropped.
use Rattle.std.proofs.Common.{◌≡◌, ℕ, not, Bool, true, false, true≢false, List, Option, Some, None, refl, sym, ap, ◌∙◌}
use Rattle.std.specs.Prelude.{is_some, insert, slice_set, if◌then◌else◌}
use Rattle.rtc_parts.specs.declared.assoc_event.AssocEvent.{AssocEvent}
use Rattle.rtc_parts.specs.declared.assoc_event.AssocEvent.TheVariants as assoc
use Rattle.rtc_sctp_entries.specs.declared.buffered_threshold_config.BufferedThresholdConfig.{BufferedThresholdConfig}
use Rattle.rtc_sctp_entries.specs.declared.stream_entry_state.StreamEntryState.{StreamEntryState}
use Rattle.rtc_sctp_entries.specs.declared.stream_entry_state.StreamEntryState.TheVariants.{AwaitConfig, Open}
use Rattle.rtc_sctp_entries.specs.declared.stream_entry.StreamEntry.{StreamEntry}
use Rattle.rtc_sctp_entries.specs.Entries.{entry_place, new_place, new_entry, is_open_awaited, is_closed_state, unclosed}
use Rattle.rtc_sctp.specs.Polls.{Book, AfterEvent, FinishesAt, finished_entry, with_expected}
use Rattle.rtc_sctp_laws.specs.StreamUses.{OneAtMost, entries_of, IsLiveIn}
use Rattle.rtc_sctp_laws.specs.MuteGenerations.{IsOpenEntry}
use Rattle.rtc_sctp_laws.proofs.EntriesOf.{none_placed}
use Rattle.rtc_sctp_laws.proofs.OneEntry.{one_is, one_set, one_insert, one_unclosed}

-- what is so of entries that are open, whether they are marked or not, and whatever their threshold is
pub record IsOfOpen (P : StreamEntry → Type 0) : Type 0 where
  pub is_open : (e : StreamEntry) → P e → e.state ≡ Open
  pub marked : (e : StreamEntry) → P e → P (record e { marked = true })
  pub threshold : (e : StreamEntry) (t : BufferedThresholdConfig) → P e → P (record e { threshold = t })

pub of_live : (g : ℕ) → IsOfOpen (IsLiveIn g)
of_live g = record { is_open = λ e h. h.0; marked = λ e h. h; threshold = λ e t h. h }

pub of_open : IsOfOpen IsOpenEntry
of_open = record { is_open = λ e h. h; marked = λ e h. h; threshold = λ e t h. h }

finished_id : (b : Bool) (e : StreamEntry) → (if b then e else record e { marked = true }).id ≡ e.id
finished_id true e = refl
finished_id false e = refl

module _ (P : StreamEntry → Type 0) (of : IsOfOpen P) (s : ℕ) where
  pub one_same : (es es' : List StreamEntry) → es' ≡ es → OneAtMost ⊥ P (entries_of s es) → OneAtMost ⊥ P (entries_of s es')
  one_same es es' e h = one_is ⊥ P (entries_of s es) (entries_of s es') (ap (entries_of s) e) h

  finished_one : (b : Bool) (e : StreamEntry) → P e → P (if b then e else record e { marked = true })
  finished_one true e h = h
  finished_one false e h = of.marked e h

  finishes_one : (o : Option ℕ) (es es' : List StreamEntry) → FinishesAt o es es' → OneAtMost ⊥ P (entries_of s es) → OneAtMost ⊥ P (entries_of s es')
  finishes_one None es es' h k = one_same es es' h k
  finishes_one (Some place) es es' h k =
      one_same (slice_set es place (finished_entry h.0)) es' h.2
      (one_set ⊥ P s es place h.0 (finished_entry h.0) h.1 (finished_id (is_open_awaited h.0.state) h.0) (finished_one (is_open_awaited h.0.state) h.0) k)

  expected_one : (o : Option ℕ) (id : ℕ) (es : List StreamEntry) → entry_place id es ≡ o → OneAtMost ⊥ P (entries_of s es)
      → OneAtMost ⊥ P (entries_of s (if is_some o then es else insert es (new_place id es) (new_entry id AwaitConfig None)))
  expected_one (Some place) id es e h = h
  expected_one None id es e h = one_insert ⊥ P s es (new_place id es) (new_entry id AwaitConfig None) (none_placed id es e) (λ same k. absurd k) h

  pub one_after : (e : AssocEvent) (b b' : Book) → AfterEvent e b b' → OneAtMost ⊥ P (entries_of s b.entries) → OneAtMost ⊥ P (entries_of s b'.entries)
  one_after assoc.Connected b b' h k = one_same b.entries b'.entries (ap (λ (x : Book). x.entries) h) k
  one_after assoc.Lost b b' h k = one_same b.entries b'.entries (ap (λ (x : Book). x.entries) h) k
  one_after (assoc.Readable id) b b' h k = one_same (with_expected id b.entries) b'.entries (ap (λ (x : Book). x.entries) h) (expected_one (entry_place id b.entries) id b.entries refl k)
  one_after (assoc.Writable id) b b' h k = one_same (with_expected id b.entries) b'.entries (ap (λ (x : Book). x.entries) h) (expected_one (entry_place id b.entries) id b.entries refl k)
  one_after (assoc.Finished id) b b' h k = finishes_one (entry_place id b.entries) b.entries b'.entries h.0 k
  one_after (assoc.ResetComplete id) b b' h k = one_same b.entries b'.entries (ap (λ (x : Book). x.entries) h) k
  one_after (assoc.BufferedAmountLow id) b b' h k = one_same b.entries b'.entries (ap (λ (x : Book). x.entries) h) k

  -- closed entries are dropped
  pub one_left : (es : List StreamEntry) → OneAtMost ⊥ P (entries_of s es) → OneAtMost ⊥ P (entries_of s (unclosed es))
  one_left es h = one_unclosed ⊥ P s es (λ e c k. true≢false (ap (λ (st : StreamEntryState). not (is_closed_state st)) (sym (of.is_open e k)) ∙ c)) h
