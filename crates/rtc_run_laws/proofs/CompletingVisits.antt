-- An entry that is open in a generation stays so by visits, unless its Close is told; and where they give nothing, the stream has that generation.
use Rattle.std.proofs.Common.{◌≡◌, ◌⊎◌, inl, inr, ◌≤◌, ℕ, ◌==◌, ◌&&◌, Bool, true, false, true≢false, List, [], ◌∷◌, Option, Some, refl, sym, ap, subst, ◌∙◌, arith}
use Rattle.std.proofs.lemmas.Bool.{eqb-true}
use Rattle.rtc_parts.specs.declared.ppi.Ppi.{Ppi}
use Rattle.rtc_parts.specs.declared.ppi.Ppi.TheVariants as ppi
use Rattle.rtc_parts.specs.AssociationActs.{AssociationAct, Moved}
use Rattle.rtc_parts.specs.AssociationMeaning.{AssociationMeaning}
use Rattle.rtc_parts.specs.AssociationLaws.{AssociationLaws}
use Rattle.rtc_parts.proofs.AssociationLemmas.{adds_all}
use Rattle.rtc_sctp_entries.specs.declared.asked.Asked.{Asked}
use Rattle.rtc_sctp_entries.specs.declared.asked.Asked.TheVariants as did
use Rattle.rtc_sctp_entries.specs.declared.heard.Heard.{Heard}
use Rattle.rtc_sctp_entries.specs.declared.heard.Heard.TheVariants as heard
use Rattle.rtc_sctp_entries.specs.declared.buffered_threshold_config.BufferedThresholdConfig.{BufferedThresholdConfig}
use Rattle.rtc_sctp_entries.specs.declared.buffered_threshold_config.BufferedThresholdConfig.TheVariants.{Unconfigured, Desired, Configured}
use Rattle.rtc_sctp_entries.specs.declared.stream_entry_state.StreamEntryState.{StreamEntryState}
use Rattle.rtc_sctp_entries.specs.declared.stream_entry.StreamEntry.{StreamEntry}
use Rattle.rtc_sctp_entries.specs.declared.sctp_event.SctpEvent.TheVariants as event
use Rattle.rtc_sctp_entries.specs.declared.met.Met.{Met}
use Rattle.rtc_sctp_entries.specs.declared.met.Met.TheVariants.{Nothing, Again, Output, OutOfMemory}
use Rattle.rtc_sctp_entries.specs.Entries.{fits_generation}
use Rattle.rtc_sctp_entries.specs.Visits.{Turn, turn, Marks, ClosedBy, Closes, NoRoom, Ended, TakesDcep, TakesStreamMessage, ReadBy, MayRead, IsRead, NothingUnread, HandedBy, AttendsBy, AttendsIf, is_entry_there, VisitsIn, Visits}
use Rattle.rtc_sctp.specs.Polls.{VisitedThen, VisitsAll}
use Rattle.rtc_sctp_laws.specs.StreamUses.{entries_of, IsLiveIn, IsLive}
use Rattle.rtc_sctp_laws.proofs.EntriesOf.{entries_own, entries_other, same_test}
use Rattle.rtc_sctp_laws.proofs.OneEntry.{one_is}
use Rattle.rtc_sctp_laws.proofs.LivingEntries.{first_live, others_live, live_is}
use Rattle.rtc_sctp_laws.proofs.UsedReadings.{visit_uses}
use Rattle.rtc_sctp_laws.proofs.UsedTours.{tour_uses}

-- the Close of a stream is told
abbrev pub TellsClose : ℕ → Met → Type 0
TellsClose s met = (pending : Bool) × (met ≡ Output (event.Close s pending))

-- the only entry of a stream stays so
first_stays : (s g : ℕ) (e : StreamEntry) (es : List StreamEntry) → (e.id == s) ≡ true → entries_of s es ≡ [] → IsLiveIn g e → IsLive s g (e ∷ es)
first_stays s g e es own none h =
    one_is ⊥ (IsLiveIn g) (e ∷ []) (entries_of s (e ∷ es)) (entries_own s e es own ∙ ap (λ (l : List StreamEntry). e ∷ l) none) h

other_stays : (s g : ℕ) (e : StreamEntry) (es : List StreamEntry) → (e.id == s) ≡ false → IsLive s g es → IsLive s g (e ∷ es)
other_stays s g e es other h = one_is ⊥ (IsLiveIn g) (entries_of s es) (entries_of s (e ∷ es)) (entries_other s e es other) h

module _ {S : Type 0} (m : AssociationMeaning S) where
  -- what a visit leaves of an entry that is open in a generation
  abbrev Leaves : (stream generation : ℕ) → Met → Turn S → Type 0
  Leaves n g met t' = TellsClose n met ⊎ IsLiveIn g t'.entry

  same : (g : ℕ) (n : ℕ) (met : Met) (u t' : Turn S) → t' ≡ u → IsLiveIn g u.entry → Leaves n g met t'
  same g n met u t' f h = inr (subst (λ (x : Turn S). IsLiveIn g x.entry) (sym f) h)

  closed_by : (answer : Asked) (g : ℕ) (t : Turn S) (met : Met) (t' : Turn S) → IsLiveIn g t.entry → ClosedBy m answer t met t' → Leaves t.entry.id g met t'
  closed_by did.Done g t met t' live h = inl (_, h.0)
  closed_by did.Refused g t met t' live h = inl (_, h.0)
  closed_by did.OutOfMemory g t met t' live h = same g t.entry.id met t t' h.1 live

  closes : (g : ℕ) (t : Turn S) (met : Met) (t' : Turn S) → IsLiveIn g t.entry → Closes m t met t' → Leaves t.entry.id g met t'
  closes g t met t' live (NoRoom h) = same g t.entry.id met t t' h.1 live
  closes g t met t' live (Ended answer q k h) = closed_by answer g (record t { association = q }) met t' live h

  marks : (g : ℕ) (t : Turn S) (met : Met) (t' : Turn S) → IsLiveIn g t.entry → Marks t met t' → Leaves t.entry.id g met t'
  marks g t met t' live h = same g t.entry.id met _ t' h.1 live

  message : (i : Ppi) (bytes : List ℕ) (g : ℕ) (t : Turn S) (met : Met) (t' : Turn S) → IsLiveIn g t.entry → TakesStreamMessage m i bytes t met t' → Leaves t.entry.id g met t'
  message ppi.Dcep bytes g t met t' live h = marks g t met t' live (subst (λ (st : StreamEntryState). TakesDcep m st bytes t met t') live.0 h)
  message ppi.Text bytes g t met t' live h = same g t.entry.id met t t' h.1 live
  message ppi.Binary bytes g t met t' live h = same g t.entry.id met t t' h.1 live
  message ppi.EmptyText bytes g t met t' live h = same g t.entry.id met t t' h.1 live
  message ppi.EmptyBinary bytes g t met t' live h = same g t.entry.id met t t' h.1 live
  message (ppi.Other n) bytes g t met t' live h = marks g t met t' live h

  read_by : (answer : Heard) (g : ℕ) (t : Turn S) (met : Met) (t' : Turn S) → IsLiveIn g t.entry → ReadBy m answer t met t' → Leaves t.entry.id g met t'
  read_by heard.Nothing g t met t' live h = same g t.entry.id met t t' h.1 live
  read_by (heard.Message i bytes) g t met t' live h = message i bytes g t met t' live h
  read_by heard.Refused g t met t' live h = marks g t met t' live h
  read_by heard.OutOfMemory g t met t' live h = same g t.entry.id met t t' h.1 live

  handed : (answer : Asked) (n g : ℕ) (t : Turn S) (met : Met) (t' : Turn S) → IsLiveIn g t.entry → HandedBy m answer n t met t' → Leaves t.entry.id g met t'
  handed did.Done n g t met t' live h = same g t.entry.id met _ t' h.1 live
  handed did.Refused n g t met t' live h = same g t.entry.id met _ t' h.1 live
  handed did.OutOfMemory n g t met t' live h = same g t.entry.id met t t' h.1 live

  may_read : (g : ℕ) (t : Turn S) (met : Met) (t' : Turn S) → IsLiveIn g t.entry → MayRead m t met t' → Leaves t.entry.id g met t'
  may_read g t met t' live (IsRead h) = read_by h.answer g (record t { association = h.between }) met t' live h.then
  may_read g t met t' live (NothingUnread unread e f) = same g t.entry.id met t t' f live

  attends_by : (b : BufferedThresholdConfig) (g : ℕ) (t : Turn S) (met : Met) (t' : Turn S) → IsLiveIn g t.entry → AttendsBy m b t met t' → Leaves t.entry.id g met t'
  attends_by (Desired n) g t met t' live h = handed h.answer n g (record t { association = h.between }) met t' live h.then
  attends_by Unconfigured g t met t' live h = may_read g t met t' live h
  attends_by (Configured n) g t met t' live h = may_read g t met t' live h

  -- where it gives nothing, the stream has the generation that the entry keeps
  abbrev FitsNow : (generation : ℕ) → Met → Turn S → Type 0
  FitsNow g met t = met ≡ Nothing → m.generation t.association t.entry.id ≡ g

  record LeavesLive (g : ℕ) (t : Turn S) (met : Met) (t' : Turn S) : Type 0 where
    left : Leaves t.entry.id g met t'
    fits : FitsNow g met t

  no_again : Again ≡ Nothing → ⊥
  no_again h = cc

  no_memory : OutOfMemory ≡ Nothing → ⊥
  no_memory h = cc

  no_output : (e : _) → Output e ≡ Nothing → ⊥
  no_output e h = cc

  ended_by : (answer : Asked) (t : Turn S) (met : Met) (t' : Turn S) → ClosedBy m answer t met t' → met ≡ Nothing → ⊥
  ended_by did.Done t met t' h e = no_output _ (sym h.0 ∙ e)
  ended_by did.Refused t met t' h e = no_output _ (sym h.0 ∙ e)
  ended_by did.OutOfMemory t met t' h e = no_memory (sym h.0 ∙ e)

  ends_so : (t : Turn S) (met : Met) (t' : Turn S) → Closes m t met t' → met ≡ Nothing → ⊥
  ends_so t met t' (NoRoom h) e = no_memory (sym h.0 ∙ e)
  ends_so t met t' (Ended answer q k h) e = ended_by answer (record t { association = q }) met t' h e

  there_so : (has : Bool) (own : Option ℕ) (now g : ℕ) → own ≡ Some g → (has && fits_generation own now) ≡ true → now ≡ g
  there_so false own now g is h = absurd (true≢false (sym h))
  there_so true own now g is h = sym (eqb-true g now (subst (λ (o : Option ℕ). fits_generation o now ≡ true) is h))

  attends_if : (marked there : Bool) (g : ℕ) (t : Turn S) (met : Met) (t' : Turn S) → is_entry_there m t.association t.entry ≡ there → IsLiveIn g t.entry → AttendsIf m marked there t met t' → LeavesLive g t met t'
  attends_if true there g t met t' is live h = record { left = closes g t met t' live h; fits = λ e. absurd (ends_so t met t' h e) }
  attends_if false false g t met t' is live h = record { left = marks g t met t' live h; fits = λ e. absurd (no_again (sym h.0 ∙ e)) }
  attends_if false true g t met t' is live h = record {
    left = attends_by t.entry.threshold g t met t' live h;
    fits = λ e. there_so (m.has_stream t.association t.entry.id) t.entry.generation (m.generation t.association t.entry.id) g live.1 is;
  }

  visit_leaves : (g now : ℕ) (t : Turn S) (met : Met) (t' : Turn S) → IsLiveIn g t.entry → Visits m now t met t' → LeavesLive g t met t'
  visit_leaves g now t met t' live h =
      attends_if t.entry.marked (is_entry_there m t.association t.entry) g t met t' refl live (subst (λ (st : StreamEntryState). VisitsIn m st now t met t') live.0 h)

  -- what a visit of all entries leaves of a live stream
  pub record TourLeaves (s g : ℕ) (a : S) (met : Met) (es' : List StreamEntry) : Type 0 where
    pub left : TellsClose s met ⊎ IsLive s g es'
    pub fits : met ≡ Nothing → m.generation a s ≤ g

  module _ (w : AssociationLaws m) where
    pub rises : (a b : S) (acts : List AssociationAct) (s : ℕ) → Moved m a acts b → m.generation a s ≤ m.generation b s
    rises a b acts s h = omega (arith, (adds_all m w a b acts h).rises s)

    abbrev Tours : ℕ → List StreamEntry → Type 0
    Tours now es =
        (s g : ℕ) (a : S) (rs : List ℕ) (met : Met) (a' : S) (rs' : List ℕ) (es' : List StreamEntry)
        → IsLive s g es
        → VisitsAll m now es a rs met a' rs' es'
        → TourLeaves s g a met es'

    -- the first entry is the one of the stream
    first_own : (now : ℕ) (es : List StreamEntry) (s g : ℕ) (a : S) (e : StreamEntry) (rs : List ℕ) (own : Met) (b : Turn S) (met : Met) (a' : S) (rs' : List ℕ) (es' : List StreamEntry)
        → (e.id == s) ≡ true → entries_of s es ≡ [] → b.entry.id ≡ e.id → LeavesLive g (turn a e rs) own b → VisitedThen m (VisitsAll m now es) own es b met a' rs' es' → TourLeaves s g a met es'
    first_own now es s g a e rs own b met a' rs' es' mine none kept leaves v = by own leaves v
      where
        told : (o : Met) → met ≡ o → TellsClose e.id o → TellsClose s met
        told o f h = (h.0, f ∙ h.1 ∙ ap (λ (n : ℕ). Output (event.Close n h.0)) (eqb-true e.id s mine))

        live : (tail : List StreamEntry) → es' ≡ b.entry ∷ tail → entries_of s tail ≡ [] → IsLiveIn g b.entry → IsLive s g es'
        live tail f gone h = live_is s g (b.entry ∷ tail) es' f (first_stays s g b.entry tail (same_test e.id b.entry.id s true kept mine) gone h)

        left_by : (o : Met) (tail : List StreamEntry) → met ≡ o → es' ≡ b.entry ∷ tail → entries_of s tail ≡ [] → Leaves e.id g o b → TellsClose s met ⊎ IsLive s g es'
        left_by o tail f k gone (inl h) = inl (told o f h)
        left_by o tail f k gone (inr h) = inr (live tail k gone h)

        none_told : Nothing ≡ Nothing → TellsClose e.id Nothing → ⊥
        none_told x h = no_output _ (sym h.1)

        left_on : (tail : List StreamEntry) → es' ≡ b.entry ∷ tail → entries_of s tail ≡ [] → Leaves e.id g Nothing b → TellsClose s met ⊎ IsLive s g es'
        left_on tail k gone (inl h) = absurd (none_told refl h)
        left_on tail k gone (inr h) = inr (live tail k gone h)

        by : (o : Met) → LeavesLive g (turn a e rs) o b → VisitedThen m (VisitsAll m now es) o es b met a' rs' es' → TourLeaves s g a met es'
        by Nothing l k = record {
          left = left_on k.0 k.2 ((tour_uses m w now es b.association b.resets met a' rs' k.0 k.1).none s none) l.left;
          fits = λ x. let is : m.generation a s ≡ g = ap (m.generation a) (sym (eqb-true e.id s mine)) ∙ l.fits refl in omega (arith, is);
        }
        by Again l k = record { left = left_by Again es k.0 k.3 none l.left; fits = λ x. absurd (no_again (sym k.0 ∙ x)) }
        by (Output o) l k = record { left = left_by (Output o) es k.0 k.3 none l.left; fits = λ x. absurd (no_output o (sym k.0 ∙ x)) }
        by OutOfMemory l k = record { left = left_by OutOfMemory es k.0 k.3 none l.left; fits = λ x. absurd (no_memory (sym k.0 ∙ x)) }

    -- or another one
    first_other : (now : ℕ) (es : List StreamEntry) → Tours now es → (s g : ℕ) (a : S) (e : StreamEntry) (rs : List ℕ) (own : Met) (b : Turn S) (met : Met) (a' : S) (rs' : List ℕ) (es' : List StreamEntry)
        → (b.entry.id == s) ≡ false → IsLive s g es → m.generation a s ≤ m.generation b.association s → VisitedThen m (VisitsAll m now es) own es b met a' rs' es' → TourLeaves s g a met es'
    first_other now es rest s g a e rs own b met a' rs' es' other live up v = by own v
      where
        stays : (tail : List StreamEntry) → es' ≡ b.entry ∷ tail → IsLive s g tail → IsLive s g es'
        stays tail f h = live_is s g (b.entry ∷ tail) es' f (other_stays s g b.entry tail other h)

        left_by : (tail : List StreamEntry) → es' ≡ b.entry ∷ tail → TellsClose s met ⊎ IsLive s g tail → TellsClose s met ⊎ IsLive s g es'
        left_by tail f (inl h) = inl h
        left_by tail f (inr h) = inr (stays tail f h)

        by : (o : Met) → VisitedThen m (VisitsAll m now es) o es b met a' rs' es' → TourLeaves s g a met es'
        by Nothing k =
            let next = rest s g b.association b.resets met a' rs' k.0 live k.1 in
            record { left = left_by k.0 k.2 next.left; fits = λ x. let n = next.fits x in omega (arith, n, up) }
        by Again k = record { left = inr (stays es k.3 live); fits = λ x. absurd (no_again (sym k.0 ∙ x)) }
        by (Output o) k = record { left = inr (stays es k.3 live); fits = λ x. absurd (no_output o (sym k.0 ∙ x)) }
        by OutOfMemory k = record { left = inr (stays es k.3 live); fits = λ x. absurd (no_memory (sym k.0 ∙ x)) }

    pub tour_leaves : (now : ℕ) (es : List StreamEntry) → Tours now es
    tour_leaves now [] s g a rs met a' rs' es' live h = absurd live
    tour_leaves now (e ∷ es) s g a rs met a' rs' es' live h = by (e.id == s) refl (tour_leaves now es)
      where
        by : (b : Bool) → (e.id == s) ≡ b → Tours now es → TourLeaves s g a met es'
        by true c rest =
            let one = first_live s g e es c live in
            let used = visit_uses m w now (turn a e rs) h.0 h.1 h.2 in
            first_own now es s g a e rs h.0 h.1 met a' rs' es' c one.0 used.id_is (visit_leaves g now (turn a e rs) h.0 h.1 one.1 h.2) h.3
        by false c rest =
            let used = visit_uses m w now (turn a e rs) h.0 h.1 h.2 in
            first_other now es rest s g a e rs h.0 h.1 met a' rs' es' (same_test e.id h.1.entry.id s false used.id_is c) (others_live s g e es c live)
            (rises a h.1.association used.did.did.acts s used.did.did.went) h.3
