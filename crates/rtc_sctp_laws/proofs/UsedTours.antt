-- What a visit of all entries leaves of the use of each stream.
use Rattle.std.proofs.Common.{◌≡◌, ◌⊎◌, ℕ, ◌==◌, Bool, true, false, Option, List, [], ◌∷◌, ◌++◌, append-nil, append_assoc, refl, sym, ap, subst, ◌∙◌, arith}
use Rattle.std.proofs.lemmas.Bool.{eqb-true, eqb-false}
use Rattle.rtc_parts.specs.AssociationMeaning.{AssociationMeaning}
use Rattle.rtc_parts.specs.AssociationLaws.{AssociationLaws}
use Rattle.rtc_sctp_entries.specs.declared.stream_entry_state.StreamEntryState.TheVariants.{Open}
use Rattle.rtc_sctp_entries.specs.declared.stream_entry.StreamEntry.{StreamEntry}
use Rattle.rtc_sctp_entries.specs.declared.sctp_event.SctpEvent.TheVariants as event
use Rattle.rtc_sctp_entries.specs.declared.met.Met.{Met}
use Rattle.rtc_sctp_entries.specs.declared.met.Met.TheVariants.{Nothing, Again, Output, OutOfMemory}
use Rattle.rtc_sctp_entries.specs.Entries.{is_out_of_band}
use Rattle.rtc_sctp_entries.specs.Visits.{Turn, turn}
use Rattle.rtc_sctp.specs.Polls.{VisitedThen, VisitsAll}
use Rattle.rtc_sctp_laws.specs.StreamMessages.{StreamMessage, shown_messages}
use Rattle.rtc_sctp_laws.specs.StreamActs.{VisitDid}
use Rattle.rtc_sctp_laws.proofs.ActLemmas.{did_none, did_join}
use Rattle.rtc_sctp_laws.proofs.MessageLemmas.{dcep_join, shown-append}
use Rattle.rtc_sctp_laws.specs.GenerationLaws.{KeepsGeneration, GenerationLaws}
use Rattle.rtc_sctp_laws.specs.StreamUses.{messages_of, entries_of, are_of_generation, spoken_generation, IsIdleStream, IsUsedIn, IsDcepInBand, IsUsedBy, EntryUsed, NoneUsed, AreUsedIn, IsReached, IsUsed, HasOpenInBand, IsLive, LeavesLive, TellsStreamOpen, WereOpened, OpensRightly, LeavesUse}
use Rattle.rtc_sctp_laws.proofs.GenerationMessages.{messages-append, messages_other}
use Rattle.rtc_sctp_laws.proofs.KnownUses.{now_of}
use Rattle.rtc_sctp_laws.proofs.KeptUses.{did_keeps, are_used_kept, reached_kept}
use Rattle.rtc_sctp_laws.proofs.OneEntry.{one_map}
use Rattle.rtc_sctp_laws.proofs.LivingEntries.{OpensOther, other_by, OpenLeft, first_lives, next_lives, first_heard, next_heard, are_join}
use Rattle.rtc_sctp_laws.proofs.LivingVisits.{visit_lives}
use Rattle.rtc_sctp_laws.proofs.OpeningEntries.{first_opens, next_opens}
use Rattle.rtc_sctp_laws.proofs.OpeningVisits.{OpensTold, visit_opens}
use Rattle.rtc_sctp_laws.proofs.EntriesOf.{entries_own, entries_other, same_test, none_head, none_more, only_used, used_is}
use Rattle.rtc_sctp_laws.proofs.VisitedTurns.{TurnOpens, TurnLeaves, UsedTurn}
use Rattle.rtc_sctp_laws.proofs.UsedReadings.{VisitUses, visit_uses}
use Rattle.rtc_sctp_laws.specs.MuteGenerations.{IsMute, StaysMute}
use Rattle.rtc_sctp_laws.proofs.MuteVisits.{HoldsOpen, visit_holds}
use Rattle.rtc_sctp_laws.proofs.MuteTours.{first_mute, next_mute}

module _ {S : Type 0} (m : AssociationMeaning S) where
  -- nothing is told of the stream
  opens_other : (met : Met) (s : ℕ) (a : S) (es : List StreamEntry) (ws hs : List StreamMessage) → OpensOther met s → OpensRightly m met s a es ws hs
  opens_other Nothing s a es ws hs h = tt
  opens_other Again s a es ws hs h = tt
  opens_other OutOfMemory s a es ws hs h = tt
  opens_other (Output (event.Transmit packets)) s a es ws hs h = tt
  opens_other (Output (event.Open id label)) s a es ws hs h = λ e. absurd (h e)
  opens_other (Output (event.Close id pending)) s a es ws hs h = tt
  opens_other (Output (event.StreamResetComplete id)) s a es ws hs h = tt
  opens_other (Output (event.Data id binary bytes)) s a es ws hs h = tt
  opens_other (Output (event.BufferedAmountLow id)) s a es ws hs h = tt
  opens_other (Output event.AssociationLost) s a es ws hs h = tt

  -- what is told of the entry that was visited, where it is the only one of the stream
  opens_turn : (met : Met) (s : ℕ) (a : S) (e : StreamEntry) (es : List StreamEntry) (ws hs : List StreamMessage) → entries_of s es ≡ e ∷ [] → TurnOpens met e (m.generation a s) (now_of m a s ws) (now_of m a s hs) → OpensRightly m met s a es ws hs
  opens_turn Nothing s a e es ws hs is h = tt
  opens_turn Again s a e es ws hs is h = tt
  opens_turn OutOfMemory s a e es ws hs is h = tt
  opens_turn (Output (event.Transmit packets)) s a e es ws hs is h = tt
  opens_turn (Output (event.Open id label)) s a e es ws hs is h = λ same. subst (λ (l : List StreamEntry). WereOpened l (m.generation a s) (now_of m a s ws) (now_of m a s hs)) (sym is) h
  opens_turn (Output (event.Close id pending)) s a e es ws hs is h = tt
  opens_turn (Output (event.StreamResetComplete id)) s a e es ws hs is h = tt
  opens_turn (Output (event.Data id binary bytes)) s a e es ws hs is h = tt
  opens_turn (Output (event.BufferedAmountLow id)) s a e es ws hs is h = tt
  opens_turn (Output event.AssociationLost) s a e es ws hs is h = tt

  pub leaves_by : (met : Met) (s : ℕ) (ws hs : List StreamMessage) (a : S) (es : List StreamEntry) → IsUsed m s ws hs a es → OpensRightly m met s a es ws hs → LeavesUse m met s ws hs a es
  leaves_by Nothing s ws hs a es h k = record { left = h; opens = k }
  leaves_by Again s ws hs a es h k = record { left = h; opens = k }
  leaves_by (Output e) s ws hs a es h k = record { left = h; opens = k }
  leaves_by OutOfMemory s ws hs a es h k = tt

  opens_entries : (met : Met) (s : ℕ) (a : S) (es es' : List StreamEntry) (ws hs : List StreamMessage) → entries_of s es' ≡ entries_of s es → OpensRightly m met s a es ws hs → OpensRightly m met s a es' ws hs
  opens_entries Nothing s a es es' ws hs is h = tt
  opens_entries Again s a es es' ws hs is h = tt
  opens_entries OutOfMemory s a es es' ws hs is h = tt
  opens_entries (Output (event.Transmit packets)) s a es es' ws hs is h = tt
  opens_entries (Output (event.Open id label)) s a es es' ws hs is h = λ same. subst (λ (l : List StreamEntry). WereOpened l (m.generation a s) (now_of m a s ws) (now_of m a s hs)) (sym is) (h same)
  opens_entries (Output (event.Close id pending)) s a es es' ws hs is h = tt
  opens_entries (Output (event.StreamResetComplete id)) s a es es' ws hs is h = tt
  opens_entries (Output (event.Data id binary bytes)) s a es es' ws hs is h = tt
  opens_entries (Output (event.BufferedAmountLow id)) s a es es' ws hs is h = tt
  opens_entries (Output event.AssociationLost) s a es es' ws hs is h = tt

  used_entries : (s : ℕ) (ws hs : List StreamMessage) (a : S) (es es' : List StreamEntry) → entries_of s es' ≡ entries_of s es → IsUsed m s ws hs a es → IsUsed m s ws hs a es'
  used_entries s ws hs a es es' is h = record { reached = h.reached; used = used_is m _ _ s a ws hs is h.used }

  leaves_entries : (met : Met) (s : ℕ) (ws hs : List StreamMessage) (a : S) (es es' : List StreamEntry) → entries_of s es' ≡ entries_of s es → LeavesUse m met s ws hs a es → LeavesUse m met s ws hs a es'
  leaves_entries Nothing s ws hs a es es' is h = record { left = used_entries s ws hs a es es' is h.left; opens = tt }
  leaves_entries Again s ws hs a es es' is h = record { left = used_entries s ws hs a es es' is h.left; opens = tt }
  leaves_entries (Output e) s ws hs a es es' is h = record { left = used_entries s ws hs a es es' is h.left; opens = opens_entries (Output e) s a es es' ws hs is h.opens }
  leaves_entries OutOfMemory s ws hs a es es' is h = tt

  -- steps that give no packet and write and read no message of the stream leave its use
  pub reached_beside : (s : ℕ) (ws hs wrote heard : List StreamMessage) (a b : S) → KeepsGeneration m s a b → ((g : ℕ) → (messages_of s g wrote ≡ []) × (messages_of s g heard ≡ [])) → IsReached m s ws hs a → IsReached m s (ws ++ wrote) (hs ++ heard) b
  reached_beside s ws hs wrote heard a b k none h =
      let kept = reached_kept m s ws hs a b k h in
      record {
        ahead = λ g lt. let was = kept.ahead g lt in (beside g ws wrote (none g).0 ∙ was.0, beside g hs heard (none g).1 ∙ was.1);
        absent = λ gone. let was = kept.absent gone in let g = m.generation b s in (beside g ws wrote (none g).0 ∙ was.0, beside g hs heard (none g).1 ∙ was.1);
      }
    where
      beside : (g : ℕ) (xs ys : List StreamMessage) → messages_of s g ys ≡ [] → messages_of s g (xs ++ ys) ≡ messages_of s g xs
      beside g xs ys e = messages-append s g xs ys ∙ ap (λ (l : List StreamMessage). messages_of s g xs ++ l) e ∙ append-nil (messages_of s g xs)

  beside_of : (s : ℕ) (xs ys : List StreamMessage) → ((g : ℕ) → messages_of s g ys ≡ []) → (g : ℕ) → messages_of s g (xs ++ ys) ≡ messages_of s g xs
  beside_of s xs ys none g = messages-append s g xs ys ∙ ap (λ (l : List StreamMessage). messages_of s g xs ++ l) (none g) ∙ append-nil (messages_of s g xs)

  used_by_beside : (e : StreamEntry) (s : ℕ) (b : S) (ws hs ws' hs' : List StreamMessage) → ((g : ℕ) → messages_of s g ws' ≡ messages_of s g ws) → ((g : ℕ) → messages_of s g hs' ≡ messages_of s g hs) → IsUsedBy m e s b ws hs → IsUsedBy m e s b ws' hs'
  used_by_beside e s b ws hs ws' hs' f g h =
      let n = spoken_generation e.state e.generation (m.generation b s) in (
        subst (λ (l : List StreamMessage). IsUsedIn m e.state e.marked e.generation s b l (messages_of s n hs')) (sym (f n))
            (subst (λ (l : List StreamMessage). IsUsedIn m e.state e.marked e.generation s b (messages_of s n ws) l) (sym (g n)) h.0),
        subst (λ (l : List StreamMessage). IsDcepInBand m e.state (is_out_of_band e) s b l) (sym (f (m.generation b s))) h.1,
      )

  idle_beside : (s : ℕ) (b : S) (ws hs ws' hs' : List StreamMessage) → ((g : ℕ) → messages_of s g ws' ≡ messages_of s g ws) → ((g : ℕ) → messages_of s g hs' ≡ messages_of s g hs) → IsIdleStream m s b (now_of m b s ws) (now_of m b s hs) → IsIdleStream m s b (now_of m b s ws') (now_of m b s hs')
  idle_beside s b ws hs ws' hs' f g h =
      subst (λ (l : List StreamMessage). IsIdleStream m s b l (now_of m b s hs')) (sym (f (m.generation b s)))
      (subst (λ (l : List StreamMessage). IsIdleStream m s b (now_of m b s ws) l) (sym (g (m.generation b s))) h)

  pub are_used_beside : (es : List StreamEntry) (s : ℕ) (b : S) (ws hs ws' hs' : List StreamMessage) → ((g : ℕ) → messages_of s g ws' ≡ messages_of s g ws) → ((g : ℕ) → messages_of s g hs' ≡ messages_of s g hs) → AreUsedIn m es s b ws hs → AreUsedIn m es s b ws' hs'
  are_used_beside es s b ws hs ws' hs' f g h = one_map (NoneUsed m s b ws hs) (NoneUsed m s b ws' hs') (EntryUsed m s b ws hs) (EntryUsed m s b ws' hs') es (idle_beside s b ws hs ws' hs' f g) (λ e. used_by_beside e s b ws hs ws' hs' f g) h

  pub used_beside : (s : ℕ) (ws hs wrote heard : List StreamMessage) (a b : S) (es : List StreamEntry) → KeepsGeneration m s a b → ((g : ℕ) → (messages_of s g wrote ≡ []) × (messages_of s g heard ≡ [])) → IsUsed m s ws hs a es → IsUsed m s (ws ++ wrote) (hs ++ heard) b es
  used_beside s ws hs wrote heard a b es k none h = record {
    reached = reached_beside s ws hs wrote heard a b k none h.reached;
    used = are_used_beside (entries_of s es) s b ws hs (ws ++ wrote) (hs ++ heard) (beside_of s ws wrote (λ g. (none g).0)) (beside_of s hs heard (λ g. (none g).1)) (are_used_kept m (entries_of s es) s a b ws hs k h.used);
  }

  -- what a visit of entries did and leaves
  pub record TourUses (a : S) (es : List StreamEntry) (met : Met) (a' : S) (es' : List StreamEntry) : Type 0 where
    pub did : VisitDid m a met a'
    pub leaves : GenerationLaws m → (s : ℕ) (ws hs : List StreamMessage) → IsUsed m s ws hs a es → LeavesUse m met s (ws ++ did.wrote) (hs ++ did.heard) a' es'
    pub others : (s : ℕ) → entries_of s es ≡ [] → (g : ℕ) → (messages_of s g did.wrote ≡ []) × (messages_of s g did.heard ≡ [])
    pub none : (s : ℕ) → entries_of s es ≡ [] → entries_of s es' ≡ []
    pub told : (s : ℕ) → entries_of s es ≡ [] → OpensOther met s
    pub lives : (s g : ℕ) → IsLive s g es → LeavesLive met s g es'
    pub live_heard : (s g : ℕ) → IsLive s g es → are_of_generation s g did.heard ≡ true
    pub fresh : (s : ℕ) (o : Option ℕ) → HasOpenInBand s o es' → HasOpenInBand s o es ⊎ TellsStreamOpen met s
    pub mute : GenerationLaws m → (s g : ℕ) → IsMute m s g a es → StaysMute m s g did.wrote a' es'

  self : (n : ℕ) → (n == n) ≡ true
  self n = grind arith

  -- what is known of the first entry of all
  first_used : (ws hs : List StreamMessage) (a : S) (e : StreamEntry) (es : List StreamEntry) (rs : List ℕ) → IsUsed m e.id ws hs a (e ∷ es) → (entries_of e.id es ≡ []) × UsedTurn m e.id (turn a e rs) ws hs
  first_used ws hs a e es rs h =
      let one = only_used m e.id a ws hs e (entries_of e.id es) (used_is m _ _ e.id a ws hs (sym (entries_own e.id e es (self e.id))) h.used) in
      (one.0, (h.reached, one.1))

  -- what the visit of the first leaves of its stream
  turn_whole : (met : Met) (s : ℕ) (ws hs : List StreamMessage) (b : Turn S) (es : List StreamEntry) → entries_of s (b.entry ∷ es) ≡ b.entry ∷ [] → TurnLeaves m met s ws hs b → LeavesUse m met s ws hs b.association (b.entry ∷ es)
  turn_whole Nothing s ws hs b es is h = record { left = record { reached = h.reached; used = used_is m (b.entry ∷ []) _ s b.association ws hs is h.used }; opens = tt }
  turn_whole Again s ws hs b es is h = record { left = record { reached = h.reached; used = used_is m (b.entry ∷ []) _ s b.association ws hs is h.used }; opens = tt }
  turn_whole (Output e) s ws hs b es is h = record {
    left = record { reached = h.reached; used = used_is m (b.entry ∷ []) _ s b.association ws hs is h.used };
    opens = opens_turn (Output e) s b.association b.entry (b.entry ∷ es) ws hs is h.opens;
  }
  turn_whole OutOfMemory s ws hs b es is h = tt

  own_one_left : (s : ℕ) (e e' : StreamEntry) (es : List StreamEntry) → e'.id ≡ e.id → (e.id == s) ≡ true → entries_of s es ≡ [] → entries_of s (e' ∷ es) ≡ e' ∷ []
  own_one_left s e e' es same c none = entries_own s e' es (same_test e.id e'.id s true same c) ∙ ap (λ (l : List StreamEntry). e' ∷ l) none

  module _ (w : AssociationLaws m) where
    visit_keeps : GenerationLaws m → (s : ℕ) (a : S) (met : Met) (b : S) → VisitDid m a met b → KeepsGeneration m s a b
    visit_keeps v s a met b d = did_keeps m v s [] [] d.wrote d.heard a b d.did

    -- the first entry gives something
    stopped : (a : S) (e : StreamEntry) (es : List StreamEntry) (rs : List ℕ) (met : Met) (b : Turn S) → (u : VisitUses m (turn a e rs) met b) → OpenLeft met e b.entry → OpensTold met e b.entry → (e.state ≡ Open → HoldsOpen met b.entry.state) → TourUses a (e ∷ es) met b.association (b.entry ∷ es)
    stopped a e es rs met b u goes opens holds = record {
      did = u.did;
      leaves = λ v s ws hs h. by v s ws hs h (e.id == s) refl;
      others = λ s none g. beside s (none_head s e es none).0 g;
      none = λ s none. let two = none_head s e es none in none_more s b.entry es (same_test e.id b.entry.id s false u.id_is two.0) two.1;
      told = λ s none. other_by met e.id s (eqb-false e.id s (none_head s e es none).0) u.opens_own;
      lives = λ s g live. first_lives met s g e b.entry es u.id_is goes u.opens_own live;
      live_heard = λ s g live. first_heard s g e es u.did.heard u.own_heard u.heard_own live;
      fresh = λ s o h. first_opens met s o e b.entry es u.id_is opens h;
      mute = λ v s g h. first_mute m w v a e rs b g met es u holds s h;
    }
      where
        beside : (s : ℕ) → (e.id == s) ≡ false → (g : ℕ) → (messages_of s g u.did.wrote ≡ []) × (messages_of s g u.did.heard ≡ [])
        beside s c g = (messages_other e.id s g u.did.wrote u.own_wrote (eqb-false e.id s c), messages_other e.id s g u.did.heard u.own_heard (eqb-false e.id s c))

        own : GenerationLaws m → (ws hs : List StreamMessage) → IsUsed m e.id ws hs a (e ∷ es) → LeavesUse m met e.id (ws ++ u.did.wrote) (hs ++ u.did.heard) b.association (b.entry ∷ es)
        own v ws hs h =
            let first = first_used ws hs a e es rs h in
            turn_whole met e.id (ws ++ u.did.wrote) (hs ++ u.did.heard) b es (own_one_left e.id e b.entry es u.id_is (self e.id) first.0) (u.leaves v ws hs first.1)

        by : GenerationLaws m → (s : ℕ) (ws hs : List StreamMessage) → IsUsed m s ws hs a (e ∷ es) → (c : Bool) → (e.id == s) ≡ c → LeavesUse m met s (ws ++ u.did.wrote) (hs ++ u.did.heard) b.association (b.entry ∷ es)
        by v s ws hs h true c =
            let same : e.id ≡ s = eqb-true e.id s c in
            subst (λ (n : ℕ). IsUsed m n ws hs a (e ∷ es) → LeavesUse m met n (ws ++ u.did.wrote) (hs ++ u.did.heard) b.association (b.entry ∷ es)) same (own v ws hs) h
        by v s ws hs h false c =
            let left = used_beside s ws hs u.did.wrote u.did.heard a b.association (e ∷ es) (visit_keeps v s a met b.association u.did) (beside s c) h in
            let is = entries_other s b.entry es (same_test e.id b.entry.id s false u.id_is c) ∙ sym (entries_other s e es c) in
            leaves_by met s (ws ++ u.did.wrote) (hs ++ u.did.heard) b.association (b.entry ∷ es) (used_entries s _ _ b.association (e ∷ es) (b.entry ∷ es) is left)
            (opens_other met s b.association (b.entry ∷ es) _ _ (other_by met e.id s (eqb-false e.id s c) u.opens_own))

    -- the first entry gives nothing, and the others are visited
    went_on : (a : S) (e : StreamEntry) (es : List StreamEntry) (rs : List ℕ) (b : Turn S) (met : Met) (a' : S) (tail : List StreamEntry) → (u : VisitUses m (turn a e rs) Nothing b) → OpenLeft Nothing e b.entry → OpensTold Nothing e b.entry → (e.state ≡ Open → b.entry.state ≡ Open) → TourUses b.association es met a' tail → TourUses a (e ∷ es) met a' (b.entry ∷ tail)
    went_on a e es rs b met a' tail u goes opens holds z = record {
      did = record {
        wrote = u.did.wrote ++ z.did.wrote;
        heard = u.did.heard ++ z.did.heard;
        did = did_join m [] [] [] [] [] [] u.did.wrote z.did.wrote u.did.heard z.did.heard a b.association a' u.did.did z.did.did;
        dcep = dcep_join u.did.wrote z.did.wrote u.did.dcep z.did.dcep;
        sent_is = z.did.sent_is;
        reset_is = z.did.reset_is;
        shown_is = z.did.shown_is ∙ ap (λ l. l ++ shown_messages z.did.heard) u.did.shown_is ∙ sym (shown-append u.did.heard z.did.heard);
      };
      leaves = λ v s ws hs h. by v s ws hs h (e.id == s) refl;
      others = λ s none g.
          let two = none_head s e es none in
          let first = beside s two.0 g in
          let rest = z.others s two.1 g in
          (both g s u.did.wrote z.did.wrote first.0 rest.0, both g s u.did.heard z.did.heard first.1 rest.1);
      none = λ s none. let two = none_head s e es none in none_more s b.entry tail (same_test e.id b.entry.id s false u.id_is two.0) (z.none s two.1);
      told = λ s none. z.told s (none_head s e es none).1;
      lives = λ s g live. next_lives met s g e b.entry es tail u.id_is goes (z.none s) (z.told s) (z.lives s g) live;
      live_heard = λ s g live.
          are_join s g u.did.heard z.did.heard (first_heard s g e es u.did.heard u.own_heard u.heard_own live)
          (next_heard s g e es z.did.heard (λ none k. (z.others s none k).1) (z.live_heard s g) live);
      fresh = λ s o h. next_opens met s o e b.entry es tail u.id_is opens (z.fresh s o) h;
      mute = λ v s g h. next_mute m w v a e rs b g met a' es tail u z.did holds s (λ none. (z.others s none g).0) (z.none s) (z.mute v s g) h;
    }
      where
        both : (g s : ℕ) (xs ys : List StreamMessage) → messages_of s g xs ≡ [] → messages_of s g ys ≡ [] → messages_of s g (xs ++ ys) ≡ []
        both g s xs ys h k = messages-append s g xs ys ∙ ap (λ (l : List StreamMessage). l ++ messages_of s g ys) h ∙ k

        beside : (s : ℕ) → (e.id == s) ≡ false → (g : ℕ) → (messages_of s g u.did.wrote ≡ []) × (messages_of s g u.did.heard ≡ [])
        beside s c g = (messages_other e.id s g u.did.wrote u.own_wrote (eqb-false e.id s c), messages_other e.id s g u.did.heard u.own_heard (eqb-false e.id s c))

        joins : (s : ℕ) (ws hs : List StreamMessage) → LeavesUse m met s ((ws ++ u.did.wrote) ++ z.did.wrote) ((hs ++ u.did.heard) ++ z.did.heard) a' (b.entry ∷ tail) → LeavesUse m met s (ws ++ (u.did.wrote ++ z.did.wrote)) (hs ++ (u.did.heard ++ z.did.heard)) a' (b.entry ∷ tail)
        joins s ws hs h =
            subst (λ (l : List StreamMessage). LeavesUse m met s l (hs ++ (u.did.heard ++ z.did.heard)) a' (b.entry ∷ tail)) (append_assoc ws u.did.wrote z.did.wrote)
            (subst (λ (l : List StreamMessage). LeavesUse m met s ((ws ++ u.did.wrote) ++ z.did.wrote) l a' (b.entry ∷ tail)) (append_assoc hs u.did.heard z.did.heard) h)

        own : GenerationLaws m → (ws hs : List StreamMessage) → IsUsed m e.id ws hs a (e ∷ es) → LeavesUse m met e.id ((ws ++ u.did.wrote) ++ z.did.wrote) ((hs ++ u.did.heard) ++ z.did.heard) a' (b.entry ∷ tail)
        own v ws hs h =
            let first = first_used ws hs a e es rs h in
            let left = turn_whole Nothing e.id (ws ++ u.did.wrote) (hs ++ u.did.heard) b tail (own_one_left e.id e b.entry tail u.id_is (self e.id) (z.none e.id first.0)) (u.leaves v ws hs first.1) in
            leaves_by met e.id _ _ a' (b.entry ∷ tail) (used_beside e.id (ws ++ u.did.wrote) (hs ++ u.did.heard) z.did.wrote z.did.heard b.association a' (b.entry ∷ tail) (visit_keeps v e.id b.association met a' z.did) (z.others e.id first.0) left.left)
            (opens_other met e.id a' (b.entry ∷ tail) _ _ (z.told e.id first.0))

        by : GenerationLaws m → (s : ℕ) (ws hs : List StreamMessage) → IsUsed m s ws hs a (e ∷ es) → (c : Bool) → (e.id == s) ≡ c → LeavesUse m met s (ws ++ (u.did.wrote ++ z.did.wrote)) (hs ++ (u.did.heard ++ z.did.heard)) a' (b.entry ∷ tail)
        by v s ws hs h true c =
            let same : e.id ≡ s = eqb-true e.id s c in
            joins s ws hs (subst (λ (n : ℕ). IsUsed m n ws hs a (e ∷ es) → LeavesUse m met n ((ws ++ u.did.wrote) ++ z.did.wrote) ((hs ++ u.did.heard) ++ z.did.heard) a' (b.entry ∷ tail)) same (own v ws hs) h)
        by v s ws hs h false c =
            let left = used_beside s ws hs u.did.wrote u.did.heard a b.association (e ∷ es) (visit_keeps v s a Nothing b.association u.did) (beside s c) h in
            let rest = z.leaves v s (ws ++ u.did.wrote) (hs ++ u.did.heard) (used_entries s _ _ b.association (e ∷ es) es (sym (entries_other s e es c)) left) in
            joins s ws hs (leaves_entries met s _ _ a' tail (b.entry ∷ tail) (entries_other s b.entry tail (same_test e.id b.entry.id s false u.id_is c)) rest)

    moved : (a : S) (es : List StreamEntry) (met : Met) (b a' : S) (l es' : List StreamEntry) → a' ≡ b → es' ≡ l → TourUses a es met b l → TourUses a es met a' es'
    moved a es met b a' l es' e f h = subst (λ (x : S). TourUses a es met x es') (sym e) (subst (λ (x : List StreamEntry). TourUses a es met b x) (sym f) h)

    nothing : (a : S) → TourUses a [] Nothing a []
    nothing a = record {
      did = record { wrote = []; heard = []; did = did_none m a; dcep = refl; sent_is = refl; reset_is = refl; shown_is = refl };
      leaves = λ v s ws hs h.
          leaves_by Nothing s (ws ++ []) (hs ++ []) a [] (subst (λ (l : List StreamMessage). IsUsed m s l (hs ++ []) a []) (sym (append-nil ws)) (subst (λ (l : List StreamMessage). IsUsed m s ws l a []) (sym (append-nil hs)) h)) tt;
      others = λ s none g. (refl, refl);
      none = λ s none. refl;
      told = λ s none. tt;
      lives = λ s g live. absurd live;
      live_heard = λ s g live. refl;
      fresh = λ s o h. absurd h;
      mute = λ v s g h. record { none = refl; left = h };
    }

    then_uses : (now : ℕ) (es : List StreamEntry) → ((a : S) (rs : List ℕ) (met : Met) (a' : S) (rs' : List ℕ) (es' : List StreamEntry) → VisitsAll m now es a rs met a' rs' es' → TourUses a es met a' es')
        → (own : Met) (a : S) (e : StreamEntry) (rs : List ℕ) (b : Turn S) (met : Met) (a' : S) (rs' : List ℕ) (es' : List StreamEntry) → VisitUses m (turn a e rs) own b → OpenLeft own e b.entry → OpensTold own e b.entry → (e.state ≡ Open → HoldsOpen own b.entry.state) → VisitedThen m (VisitsAll m now es) own es b met a' rs' es' → TourUses a (e ∷ es) met a' es'
    then_uses now es rest Nothing a e rs b met a' rs' es' u goes opens holds k = moved a (e ∷ es) met a' a' (b.entry ∷ k.0) es' refl k.2 (went_on a e es rs b met a' k.0 u goes opens holds (rest b.association b.resets met a' rs' k.0 k.1))
    then_uses now es rest Again a e rs b met a' rs' es' u goes opens holds k = subst (λ (x : Met). TourUses a (e ∷ es) x a' es') (sym k.0) (moved a (e ∷ es) Again b.association a' (b.entry ∷ es) es' k.1 k.3 (stopped a e es rs Again b u goes opens holds))
    then_uses now es rest (Output o) a e rs b met a' rs' es' u goes opens holds k = subst (λ (x : Met). TourUses a (e ∷ es) x a' es') (sym k.0) (moved a (e ∷ es) (Output o) b.association a' (b.entry ∷ es) es' k.1 k.3 (stopped a e es rs (Output o) b u goes opens holds))
    then_uses now es rest OutOfMemory a e rs b met a' rs' es' u goes opens holds k = subst (λ (x : Met). TourUses a (e ∷ es) x a' es') (sym k.0) (moved a (e ∷ es) OutOfMemory b.association a' (b.entry ∷ es) es' k.1 k.3 (stopped a e es rs OutOfMemory b u goes opens holds))

    pub tour_uses : (now : ℕ) (es : List StreamEntry) (a : S) (rs : List ℕ) (met : Met) (a' : S) (rs' : List ℕ) (es' : List StreamEntry) → VisitsAll m now es a rs met a' rs' es' → TourUses a es met a' es'
    tour_uses now [] a rs met a' rs' es' h = subst (λ (x : Met). TourUses a [] x a' es') (sym h.0) (moved a [] Nothing a a' [] es' h.1 h.3 (nothing a))
    tour_uses now (e ∷ es) a rs met a' rs' es' h = then_uses now es (tour_uses now es) h.0 a e rs h.1 met a' rs' es' (visit_uses m w now (turn a e rs) h.0 h.1 h.2) (visit_lives m now (turn a e rs) h.0 h.1 h.2) (visit_opens m now (turn a e rs) h.0 h.1 h.2) (visit_holds m now (turn a e rs) h.0 h.1 h.2) h.3
