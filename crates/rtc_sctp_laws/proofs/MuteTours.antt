-- What a visit of all entries writes to a stream whose entry is open: nothing, in the generation that the stream had.
use Rattle.std.proofs.Common.{◌≡◌, ◌⊎◌, inl, inr, ℕ, ◌==◌, Bool, true, false, true≢false, List, [], ◌∷◌, ◌++◌, refl, sym, ap, subst, ◌∙◌, arith}
use Rattle.std.proofs.lemmas.Bool.{eqb-true, eqb-false}
use Rattle.rtc_parts.specs.declared.ppi.Ppi.TheVariants as ppi
use Rattle.rtc_parts.specs.AssociationMeaning.{AssociationMeaning}
use Rattle.rtc_parts.specs.AssociationLaws.{AssociationLaws}
use Rattle.rtc_sctp_entries.specs.declared.stream_entry_state.StreamEntryState.{StreamEntryState}
use Rattle.rtc_sctp_entries.specs.declared.stream_entry_state.StreamEntryState.TheVariants.{Open}
use Rattle.rtc_sctp_entries.specs.declared.stream_entry.StreamEntry.{StreamEntry}
use Rattle.rtc_sctp_entries.specs.declared.sctp_event.SctpEvent.{SctpEvent}
use Rattle.rtc_sctp_entries.specs.declared.met.Met.{Met}
use Rattle.rtc_sctp_entries.specs.declared.met.Met.TheVariants.{Nothing, Again, Output, OutOfMemory}
use Rattle.rtc_sctp_entries.specs.Entries.{is_out_of_band}
use Rattle.rtc_sctp_entries.specs.Visits.{Turn, turn}
use Rattle.rtc_sctp_laws.specs.StreamMessages.{StreamMessage, stream_message}
use Rattle.rtc_sctp_laws.specs.StreamActs.{VisitDid}
use Rattle.rtc_sctp_laws.specs.GenerationLaws.{KeepsGeneration, GenerationLaws}
use Rattle.rtc_sctp_laws.specs.StreamUses.{any_dcep, entries_of, messages_of, messages_for, IsIdleStream, IsUsedIn, IsDcepInBand, IsUsedBy, IsReached}
use Rattle.rtc_sctp_laws.specs.PastGenerations.{IsPast}
use Rattle.rtc_sctp_laws.specs.MuteGenerations.{IsOpenEntry, HasOneOpen, IsOpenThere, IsMute, StaysMute}
use Rattle.rtc_sctp_laws.proofs.GenerationMessages.{messages-append, messages_one, messages_later, messages_other}
use Rattle.rtc_sctp_laws.proofs.KnownUses.{open_without}
use Rattle.rtc_sctp_laws.proofs.KeptUses.{did_keeps, keeps_join}
use Rattle.rtc_sctp_laws.proofs.EntriesOf.{entries_own, entries_other, same_test}
use Rattle.rtc_sctp_laws.proofs.OneEntry.{one_only, one_is}
use Rattle.rtc_sctp_laws.proofs.UsedReadings.{VisitUses}
use Rattle.rtc_sctp_laws.proofs.MuteVisits.{HoldsOpen}
use Rattle.rtc_sctp_laws.proofs.MuteActs.{kept_open, past_did, past_mute, none_more}

no_message : (x : StreamMessage) (l : List StreamMessage) → x ∷ l ≡ [] → ⊥
no_message x l h = cc

-- the entries of the stream, behind a visit of the first of all
one_first : (s : ℕ) (e e' : StreamEntry) (tail : List StreamEntry) → e'.id ≡ e.id → (e.id == s) ≡ true → entries_of s tail ≡ [] → e'.state ≡ Open → HasOneOpen s (e' ∷ tail)
one_first s e e' tail same c none is =
    one_is ⊥ IsOpenEntry (e' ∷ []) _ (entries_own s e' tail (same_test e.id e'.id s true same c) ∙ ap (λ (l : List StreamEntry). e' ∷ l) none) is

own_first : (s : ℕ) (e : StreamEntry) (es : List StreamEntry) → (e.id == s) ≡ true → HasOneOpen s (e ∷ es) → (entries_of s es ≡ []) × (e.state ≡ Open)
own_first s e es c h = one_only ⊥ IsOpenEntry e (entries_of s es) (one_is ⊥ IsOpenEntry _ _ (sym (entries_own s e es c)) h)

other_first : (s : ℕ) (e : StreamEntry) (es : List StreamEntry) → (e.id == s) ≡ false → HasOneOpen s (e ∷ es) → HasOneOpen s es
other_first s e es c h = one_is ⊥ IsOpenEntry _ _ (sym (entries_other s e es c)) h

other_put : (s : ℕ) (e : StreamEntry) (es : List StreamEntry) → (e.id == s) ≡ false → HasOneOpen s es → HasOneOpen s (e ∷ es)
other_put s e es c h = one_is ⊥ IsOpenEntry _ _ (entries_other s e es c) h

module _ {S : Type 0} (m : AssociationMeaning S) (w : AssociationLaws m) (v : GenerationLaws m) where
  visit_keeps : (s : ℕ) (a : S) (met : Met) (b : S) → VisitDid m a met b → KeepsGeneration m s a b
  visit_keeps s a met b d = did_keeps m v s [] [] d.wrote d.heard a b d.did

  -- the use of an open stream of which one message of data was written
  data_reached : (s : ℕ) (a : S) → m.has_stream a s ≡ true → IsReached m s (stream_message s (m.generation a s) ppi.Binary [] ∷ []) [] a
  data_reached s a there = record {
    ahead = λ g later. (messages_later s (m.generation a s) g ppi.Binary [] later, refl);
    absent = λ gone. absurd (true≢false (sym there ∙ gone));
  }

  data_used : (e : StreamEntry) (a : S) → e.state ≡ Open → IsUsedBy m e e.id a (stream_message e.id (m.generation a e.id) ppi.Binary [] ∷ []) []
  data_used e a is =
      let ws = stream_message e.id (m.generation a e.id) ppi.Binary [] ∷ [] in
      subst (λ (st : StreamEntryState).
      IsUsedIn m st e.marked e.generation e.id a (messages_for m st e.generation e.id a ws) (messages_for m st e.generation e.id a [])
      × IsDcepInBand m st (is_out_of_band e) e.id a (messages_of e.id (m.generation a e.id) ws)) (sym is)
      (tt, open_without m (is_out_of_band e) e.id a (messages_of e.id (m.generation a e.id) ws) (inl (ap any_dcep (messages_one e.id (m.generation a e.id) ppi.Binary []))))

  -- a close that is told leaves the stream past the generation: it is closed, and not idle
  idle_past : (s g : ℕ) (a b : S) (more hs : List StreamMessage) → m.generation a s ≡ g → m.generation b s ≡ m.generation a s
      → IsIdleStream m s b (messages_of s (m.generation b s) (stream_message s (m.generation a s) ppi.Binary [] ∷ more)) hs → IsPast m s g b
  idle_past s g a b more hs own same (inr spent) = inr (same ∙ own, spent)
  idle_past s g a b more hs own same (inl none) = absurd (no_message x (messages_of s (m.generation a s) more) (sym whole ∙ ap (λ (n : ℕ). messages_of s n (x ∷ more)) (sym same) ∙ none.0))
    where
      x : StreamMessage
      x = stream_message s (m.generation a s) ppi.Binary []

      whole : messages_of s (m.generation a s) (x ∷ more) ≡ x ∷ messages_of s (m.generation a s) more
      whole = messages-append s (m.generation a s) (x ∷ []) more ∙ ap (λ (l : List StreamMessage). l ++ messages_of s (m.generation a s) more) (messages_one s (m.generation a s) ppi.Binary [])

  module _ (a : S) (e : StreamEntry) (rs : List ℕ) (b : Turn S) (g : ℕ) where
    -- what a visit leaves of an open entry, whatever is met
    abbrev Held : Type 0
    Held = (b.entry.state ≡ Open) ⊎ IsPast m e.id g b.association

    told_held : (o : SctpEvent) → VisitUses m (turn a e rs) (Output o) b → e.state ≡ Open → m.generation a e.id ≡ g → m.has_stream a e.id ≡ true → HoldsOpen (Output o) b.entry.state → Held
    told_held o u is own there (inl h) = inl h
    told_held o u is own there (inr closed) =
        let ws = stream_message e.id (m.generation a e.id) ppi.Binary [] ∷ [] in
        let left = u.leaves v ws [] (data_reached e.id a there, data_used e a is) in
        let k = visit_keeps e.id a (Output o) b.association u.did in
        inr (idle_past e.id g a b.association u.did.wrote _ own k.generation_is
        (subst (λ (st : StreamEntryState).
        IsUsedIn m st b.entry.marked b.entry.generation e.id b.association (messages_for m st b.entry.generation e.id b.association (ws ++ u.did.wrote))
        (messages_for m st b.entry.generation e.id b.association ([] ++ u.did.heard))) closed left.used.0))

    visit_held : (met : Met) → VisitUses m (turn a e rs) met b → e.state ≡ Open → m.generation a e.id ≡ g → m.has_stream a e.id ≡ true → HoldsOpen met b.entry.state → Held
    visit_held Nothing u is own there h = inl h
    visit_held Again u is own there h = inl h
    visit_held OutOfMemory u is own there h = inl h
    visit_held (Output o) u is own there h = told_held o u is own there h

    -- the first entry gives something
    first_own : (met : Met) (es : List StreamEntry) (u : VisitUses m (turn a e rs) met b) → (e.state ≡ Open → HoldsOpen met b.entry.state) → IsOpenThere m e.id g a (e ∷ es) → StaysMute m e.id g u.did.wrote b.association (b.entry ∷ es)
    first_own met es u holds h = record { none = ap (messages_of e.id g) (u.idle one.1); left = by (visit_held met u one.1 h.0 h.1 (holds one.1)) }
      where
        self : (e.id == e.id) ≡ true
        self = grind arith

        one : (entries_of e.id es ≡ []) × (e.state ≡ Open)
        one = own_first e.id e es self h.2

        by : Held → IsMute m e.id g b.association (b.entry ∷ es)
        by (inr past) = inl past
        by (inl is) = inr (kept_open m e.id g a b.association (e ∷ es) (b.entry ∷ es) (visit_keeps e.id a met b.association u.did) (λ k. one_first e.id e b.entry es u.id_is self one.0 is) h)

    beside : (met : Met) (u : VisitUses m (turn a e rs) met b) (s : ℕ) → (e.id == s) ≡ false → messages_of s g u.did.wrote ≡ []
    beside met u s c = messages_other e.id s g u.did.wrote u.own_wrote (eqb-false e.id s c)

    pub first_mute : (met : Met) (es : List StreamEntry) (u : VisitUses m (turn a e rs) met b) → (e.state ≡ Open → HoldsOpen met b.entry.state) → (s : ℕ) → IsMute m s g a (e ∷ es) → StaysMute m s g u.did.wrote b.association (b.entry ∷ es)
    first_mute met es u holds s (inl past) = past_mute m w v s g [] [] u.did.wrote u.did.heard a b.association (b.entry ∷ es) u.did.did past
    first_mute met es u holds s (inr h) = by (e.id == s) refl
      where
        by : (c : Bool) → (e.id == s) ≡ c → StaysMute m s g u.did.wrote b.association (b.entry ∷ es)
        by true c =
            subst (λ (n : ℕ). IsOpenThere m n g a (e ∷ es) → StaysMute m n g u.did.wrote b.association (b.entry ∷ es)) (eqb-true e.id s c) (first_own met es u holds) h
        by false c = record {
          none = beside met u s c;
          left = inr (kept_open m s g a b.association (e ∷ es) (b.entry ∷ es) (visit_keeps s a met b.association u.did) (λ k. other_put s b.entry es (same_test e.id b.entry.id s false u.id_is c) (other_first s e es c k)) h);
        }

    -- the first entry gives nothing, and the others are visited
    pub next_mute : (met : Met) (a' : S) (es tail : List StreamEntry) (u : VisitUses m (turn a e rs) Nothing b) (z : VisitDid m b.association met a') → (e.state ≡ Open → b.entry.state ≡ Open) → (s : ℕ) → (entries_of s es ≡ [] → messages_of s g z.wrote ≡ []) → (entries_of s es ≡ [] → entries_of s tail ≡ [])
        → (IsMute m s g b.association es → StaysMute m s g z.wrote a' tail) → IsMute m s g a (e ∷ es) → StaysMute m s g (u.did.wrote ++ z.wrote) a' (b.entry ∷ tail)
    next_mute met a' es tail u z holds s others none rest (inl past) =
        let x = past_did m w v s g [] [] u.did.wrote u.did.heard a b.association u.did.did past in
        let y = past_did m w v s g [] [] z.wrote z.heard b.association a' z.did x.1 in
        record { none = none_more s g u.did.wrote z.wrote x.0 y.0; left = inl y.1 }
    next_mute met a' es tail u z holds s others none rest (inr h) = by (e.id == s) refl
      where
        put : (e.id == s) ≡ false → IsMute m s g a' tail → IsMute m s g a' (b.entry ∷ tail)
        put c (inl past) = inl past
        put c (inr k) = inr (k.0, k.1, other_put s b.entry tail (same_test e.id b.entry.id s false u.id_is c) k.2)

        by : (c : Bool) → (e.id == s) ≡ c → StaysMute m s g (u.did.wrote ++ z.wrote) a' (b.entry ∷ tail)
        by true c =
            let one = own_first s e es c h.2 in
            let keeps = keeps_join m s a b.association a' (visit_keeps s a Nothing b.association u.did) (visit_keeps s b.association met a' z) in
            record {
              none = none_more s g u.did.wrote z.wrote (ap (messages_of s g) (u.idle one.1)) (others one.0);
              left = inr (kept_open m s g a a' (e ∷ es) (b.entry ∷ tail) keeps (λ k. one_first s e b.entry tail u.id_is c (none one.0) (holds one.1)) h);
            }
        by false c =
            let after = rest (inr (kept_open m s g a b.association (e ∷ es) es (visit_keeps s a Nothing b.association u.did) (λ k. other_first s e es c k) h)) in
            record { none = none_more s g u.did.wrote z.wrote (beside Nothing u s c) after.none; left = put c after.left }
