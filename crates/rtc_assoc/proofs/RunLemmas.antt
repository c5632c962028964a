-- Runs of two ends.
use Rattle.std.proofs.Common.{ℕ, ◌≡◌, ◌+◌, ◌⊎◌, ◌==◌, ◌&&◌, ◌||◌, nat_lt, inl, inr, true, false, List, [], ◌∷◌, ◌++◌, refl, sym, ap, subst, ◌∙◌, append_assoc, append-nil, arith}
use Rattle.std.proofs.lemmas.Bool.Decides.{nat_tests}
use Rattle.rtc_parts.specs.Among.{Member, Among}
use Rattle.rtc_parts.specs.declared.assoc_event.AssocEvent.{AssocEvent}
use Rattle.rtc_parts.specs.declared.assoc_event.AssocEvent.TheVariants.{Readable}
use Rattle.rtc_parts.specs.AssociationEvents.{InOrder}
use Rattle.rtc_assoc_state.specs.Contents.{is_finished, has_unread}
use Rattle.rtc_parts.specs.AssociationActs.{AssociationAct, Given, Moved, moved-append}
use Rattle.rtc_parts.specs.AssociationWords.{given, taken, ended, told, completions}
use Rattle.rtc_parts.proofs.AssociationLemmas.{taken-append, completed, adds_all}
use Rattle.rtc_assoc_state.specs.declared.item.Item.{Item}
use Rattle.rtc_assoc_state.specs.Contents.{Contents, fresh_contents, generation_of}
use Rattle.rtc_assoc_state.specs.PlainMeaning.{plain_meaning}
use Rattle.rtc_assoc_state.proofs.PlainLaws.{plain_laws}
use Rattle.rtc_assoc.specs.Joined.{Ends, fresh_ends, Move, LeftMoves, RightMoves, Goes, Run, Joined}
use Rattle.rtc_assoc.proofs.UnreadLemmas.{prefix_none}
use Rattle.rtc_assoc.proofs.AliveLemmas.{alive}
use Rattle.rtc_assoc.proofs.CoreLemmas.{Step}
use Rattle.rtc_assoc.proofs.StepLemmas.{step_of}
use Rattle.rtc_assoc.proofs.DirectedLemmas.{Directed, sender_moves, receiver_moves, brings_of}

-- what one end told, by its own acts
pub resets_told : (p : Contents) (acts : List AssociationAct) (s : ℕ) → Moved plain_meaning fresh_contents acts p → completions s (told acts) + completions s p.events ≡ generation_of p s
resets_told p acts s h = omega (arith, completed plain_meaning plain_laws fresh_contents p acts s h)

-- the events that were told, with those that are due
pub record Events (events : List AssocEvent) (p : Contents) : Type 0 where
  pub in_order : (s : ℕ) → InOrder s false (events ++ p.events) (is_finished p s)
  pub readable : (s g : ℕ) → has_unread p s g ≡ true → Member (Readable s) (events ++ p.events)

pub events_by : (p : Contents) (acts : List AssociationAct) (events : List AssocEvent) → Moved plain_meaning fresh_contents acts p → told acts ≡ events → Events events p
events_by p acts events m e =
    let a = adds_all plain_meaning plain_laws fresh_contents p acts m in
    let all : a.more ≡ events ++ p.events = sym a.due_is ∙ ap (λ l. l ++ p.events) e in
    record {
      in_order = λ s. subst (λ (l : List AssocEvent). InOrder s false l (is_finished p s)) all (a.in_order s);
      readable = λ s g u. subst (λ (l : List AssocEvent). Member (Readable s) l) all (elim (a.readable s g u) [ inl n ↦ absurd (let k : false ≡ true = n in cc) | inr n ↦ n ]);
    }

-- two ends, each way
pub record Both (a b : Contents) (v u : List AssociationAct) : Type 0 where
  pub there : List Item
  pub back : List Item
  pub forth_is : Directed there a b v u
  pub back_is : Directed back b a u v

both_swap : (a b : Contents) (v u : List AssociationAct) → Both a b v u → Both b a u v
both_swap a b v u h = record { there = h.back; back = h.there; forth_is = h.back_is; back_is = h.forth_is }

both_step : (a c b : Contents) (act : AssociationAct) (v u : List AssociationAct) → Step a act c → Among (given (act ∷ [])) (taken u) → Both a b v u → Both c b (v ++ act ∷ []) u
both_step a c b act v u s m h = record {
  there = h.there ++ s.core.more;
  back = h.back;
  forth_is = sender_moves h.there a c b act v u s m (λ t g k. swapped t g (brings_of h.back b a c act u v s m h.back_is t g k)) h.forth_is;
  back_is = receiver_moves h.back b a c act u v s m h.back_is;
}
  where
    swapped : (t g : ℕ) → (ended t g u ≡ true) ⊎ (ended t g v ≡ true) → (ended t g v ≡ true) ⊎ (ended t g u ≡ true)
    swapped t g (inl e) = inr e
    swapped t g (inr e) = inl e

among_first : (act : AssociationAct) (acts : List AssociationAct) (packets : List (List ℕ)) → Among (given (act ∷ acts)) packets → Among (given (act ∷ [])) packets
among_first (Given b) acts packets m = record { each = λ x k. elim k [ inl e ↦ m.each x (inl e) | inr n ↦ absurd n ] }
among_first (_) acts packets m = record { each = λ x k. absurd k }

among_rest : (act : AssociationAct) (acts : List AssociationAct) (packets : List (List ℕ)) → Among (given (act ∷ acts)) packets → Among (given acts) packets
among_rest (Given b) acts packets m = record { each = λ x k. m.each x (inr k) }
among_rest (_) acts packets m = m

both_acts : (a c b : Contents) (acts v u : List AssociationAct) → Moved plain_meaning a acts c → Among (given acts) (taken u) → Both a b v u → Both c b (v ++ acts) u
both_acts a c b [] v u h m k = subst (λ (x : Contents). Both x b (v ++ []) u) (sym h) (subst (λ (l : List AssociationAct). Both a b l u) (sym (append-nil v)) k)
both_acts a c b (act ∷ acts) v u h m k =
    let first : Both h.0 b (v ++ act ∷ []) u = both_step a h.0 b act v u (step_of a h.0 act h.1.0) (among_first act acts (taken u) m) k in
    subst (λ (l : List AssociationAct). Both c b l u) (append_assoc v (act ∷ []) acts) (both_acts h.0 c b acts (v ++ act ∷ []) u h.1.1 (among_rest act acts (taken u) m) first)

both_goes : (d e : Ends) (move : Move) → Goes d move e → Both d.left d.right d.left_acts d.right_acts → Both e.left e.right e.left_acts e.right_acts
both_goes d e (LeftMoves acts) g h =
    let P : Ends → Type 0 = λ x. Both x.left x.right x.left_acts x.right_acts in
    subst P (sym g.2) (both_acts d.left e.left d.right acts d.left_acts d.right_acts g.0 g.1 h)
both_goes d e (RightMoves acts) g h =
    let P : Ends → Type 0 = λ x. Both x.left x.right x.left_acts x.right_acts in
    subst P (sym g.2) (both_swap e.right d.left (d.right_acts ++ acts) d.left_acts (both_acts d.right e.right d.left acts d.right_acts d.left_acts g.0 g.1 (both_swap d.left d.right d.left_acts d.right_acts h)))

alive_fresh : (s g : ℕ) → alive [] s g ≡ true
alive_fresh s g = takes_all g
  where
    takes_all : (n : ℕ) → (nat_lt 0 n || ((0 == n) && true)) ≡ true
    takes_all n = grind (arith, nat_tests)

directed_fresh : Directed [] fresh_contents fresh_contents [] []
directed_fresh = record {
  wrote = λ s g. refl;
  whole = λ s g. refl;
  sender = record { rest = refl; count = refl; behind = omega arith };
  receiver = record { within = omega arith; begins = λ s g. prefix_none []; exact = λ s g l. refl; front_is = λ s g l. refl };
  sent = λ packet m. elim m [ inl h ↦ absurd h | inr h ↦ absurd h ];
  acks = λ packet m. elim m [ inl h ↦ absurd h | inr h ↦ absurd h ];
  closes = λ s g c. absurd c;
  dead = λ s g d. absurd (let k : true ≡ false = sym (alive_fresh s g) ∙ d in cc);
}

pub both_run : (moves : List Move) (e : Ends) → Run moves e → Both e.left e.right e.left_acts e.right_acts
both_run [] e r = let P : Ends → Type 0 = λ x. Both x.left x.right x.left_acts x.right_acts in subst P (sym r) (record { there = []; back = []; forth_is = directed_fresh; back_is = directed_fresh })
both_run (move ∷ moves) e r = both_goes r.0 e move r.1.1 (both_run moves r.0 r.1.0)

-- each end was moved by its acts
pub record BothMoved (e : Ends) : Type 0 where
  pub left_moved : Moved plain_meaning fresh_contents e.left_acts e.left
  pub right_moved : Moved plain_meaning fresh_contents e.right_acts e.right

moved_goes : (d e : Ends) (move : Move) → Goes d move e → BothMoved d → BothMoved e
moved_goes d e (LeftMoves acts) g h = subst BothMoved (sym g.2) (record { left_moved = moved-append plain_meaning fresh_contents d.left e.left d.left_acts acts h.left_moved g.0; right_moved = h.right_moved })
moved_goes d e (RightMoves acts) g h = subst BothMoved (sym g.2) (record { left_moved = h.left_moved; right_moved = moved-append plain_meaning fresh_contents d.right e.right d.right_acts acts h.right_moved g.0 })

pub moved_run : (moves : List Move) (e : Ends) → Run moves e → BothMoved e
moved_run [] e r = subst BothMoved (sym r) (record { left_moved = refl; right_moved = refl })
moved_run (move ∷ moves) e r = moved_goes r.0 e move r.1.1 (moved_run moves r.0 r.1.0)

-- joined ends
pub joined_fresh : Joined fresh_contents fresh_contents [] []
joined_fresh = record { moves = []; ends = fresh_ends; run = refl; left_is = refl; right_is = refl; from_left_is = refl; from_right_is = refl }

pub joined_left : (p q r : Contents) (acts : List AssociationAct) (from_left from_right : List (List ℕ)) → Joined p r from_left from_right → Moved plain_meaning p acts q → Among (given acts) from_right → Joined q r (from_left ++ taken acts) from_right
joined_left p q r acts from_left from_right j h m = record {
  moves = LeftMoves acts ∷ j.moves;
  ends = record j.ends { left = q; left_acts = j.ends.left_acts ++ acts };
  run = (j.ends, (j.run, (subst (λ (x : Contents). Moved plain_meaning x acts q) (sym j.left_is) h, subst (λ (l : List (List ℕ)). Among (given acts) l) (sym j.from_right_is) m, refl)));
  left_is = refl;
  right_is = j.right_is;
  from_left_is = taken-append j.ends.left_acts acts ∙ ap (λ l. l ++ taken acts) j.from_left_is;
  from_right_is = j.from_right_is;
}

pub joined_right : (p q r : Contents) (acts : List AssociationAct) (from_left from_right : List (List ℕ)) → Joined r p from_left from_right → Moved plain_meaning p acts q → Among (given acts) from_left → Joined r q from_left (from_right ++ taken acts)
joined_right p q r acts from_left from_right j h m = record {
  moves = RightMoves acts ∷ j.moves;
  ends = record j.ends { right = q; right_acts = j.ends.right_acts ++ acts };
  run = (j.ends, (j.run, (subst (λ (x : Contents). Moved plain_meaning x acts q) (sym j.right_is) h, subst (λ (l : List (List ℕ)). Among (given acts) l) (sym j.from_left_is) m, refl)));
  left_is = j.left_is;
  right_is = refl;
  from_left_is = j.from_left_is;
  from_right_is = taken-append j.ends.right_acts acts ∙ ap (λ l. l ++ taken acts) j.from_right_is;
}
