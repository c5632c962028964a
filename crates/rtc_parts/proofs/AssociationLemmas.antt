-- What lists of acts gave, took, wrote, read and told, part by part.
use Rattle.std.proofs.Common.{◌≡◌, ℕ, ◌+◌, ◌≤◌, ◌==◌, ◌&&◌, ◌||◌, inl, inr, not, cond, Bool, true, false, true≢false, List, [], ◌∷◌, ◌++◌, refl, ap, sym, ◌∙◌, subst, arith, zero-add, append_assoc, append-nil}
use Rattle.std.specs.List.{list_any}
use Rattle.rtc_parts.specs.declared.assoc_event.AssocEvent.{AssocEvent}
use Rattle.rtc_parts.specs.declared.assoc_event.AssocEvent.TheVariants.{Readable, Finished, ResetComplete}
use Rattle.rtc_parts.specs.AssociationActs.{AssociationAct, Wrote, Ended, Given, Taken, Read, Told, writes_to, Acted, Moved}
use Rattle.rtc_parts.specs.AssociationWords.{given, taken, written, read, ended, told, completions}
use Rattle.rtc_parts.specs.AssociationEvents.{InOrder, AddsEvents}
use Rattle.rtc_parts.proofs.AmongLemmas.{member-left, member-right}
use Rattle.rtc_parts.specs.AssociationMeaning.{AssociationMeaning}
use Rattle.rtc_parts.specs.AssociationLaws.{AssociationLaws, IsSilent}

pub given-append : (xs ys : List AssociationAct) → given (xs ++ ys) ≡ given xs ++ given ys
given-append [] ys = refl
given-append (Given p ∷ xs) ys = ap (λ l. p ∷ l) (given-append xs ys)
given-append (_ ∷ xs) ys = given-append xs ys

pub taken-append : (xs ys : List AssociationAct) → taken (xs ++ ys) ≡ taken xs ++ taken ys
taken-append [] ys = refl
taken-append (Taken p ∷ xs) ys = ap (λ l. p ∷ l) (taken-append xs ys)
taken-append (_ ∷ xs) ys = taken-append xs ys

pub told-append : (xs ys : List AssociationAct) → told (xs ++ ys) ≡ told xs ++ told ys
told-append [] ys = refl
told-append (Told e ∷ xs) ys = ap (λ l. e ∷ l) (told-append xs ys)
told-append (_ ∷ xs) ys = told-append xs ys

-- a choice of an item goes before what follows
cond-append : {A : Type 0} (b : Bool) (x : A) (us vs ws : List A) → us ≡ vs ++ ws → cond b (x ∷ us) us ≡ cond b (x ∷ vs) vs ++ ws
cond-append true x us vs ws e = ap (λ l. x ∷ l) e
cond-append false x us vs ws e = e

pub written-append : (s g : ℕ) (xs ys : List AssociationAct) → written s g (xs ++ ys) ≡ written s g xs ++ written s g ys
written-append s g [] ys = refl
written-append s g (Wrote t h i b ∷ xs) ys = cond-append ((t == s) && (h == g)) _ _ _ _ (written-append s g xs ys)
written-append s g (_ ∷ xs) ys = written-append s g xs ys

pub read-append : (s g : ℕ) (xs ys : List AssociationAct) → read s g (xs ++ ys) ≡ read s g xs ++ read s g ys
read-append s g [] ys = refl
read-append s g (Read t h i b ∷ xs) ys = cond-append ((t == s) && (h == g)) _ _ _ _ (read-append s g xs ys)
read-append s g (_ ∷ xs) ys = read-append s g xs ys

or_assoc : (a b c : Bool) → a || (b || c) ≡ (a || b) || c
or_assoc true b c = refl
or_assoc false b c = refl

pub ended-append : (s g : ℕ) (xs ys : List AssociationAct) → ended s g (xs ++ ys) ≡ ended s g xs || ended s g ys
ended-append s g [] ys = refl
ended-append s g (Ended t h ∷ xs) ys = ap (λ b. ((t == s) && (h == g)) || b) (ended-append s g xs ys) ∙ or_assoc ((t == s) && (h == g)) (ended s g xs) (ended s g ys)
ended-append s g (_ ∷ xs) ys = ended-append s g xs ys

pub completions-append : (s : ℕ) (xs ys : List AssocEvent) → completions s (xs ++ ys) ≡ completions s xs + completions s ys
completions-append s [] ys = sym (zero-add (completions s ys))
completions-append s (ResetComplete t ∷ xs) ys = omega (arith, completions-append s xs ys)
completions-append s (_ ∷ xs) ys = completions-append s xs ys

pub in_order-append : (s : ℕ) (a b c : Bool) (xs ys : List AssocEvent) → InOrder s a xs b → InOrder s b ys c → InOrder s a (xs ++ ys) c
in_order-append s a b c [] ys h k = subst (λ (x : Bool). InOrder s x ys c) h k
in_order-append s a b c (Finished t ∷ xs) ys h k = in_order-append s ((t == s) || a) b c xs ys h k
in_order-append s a b c (ResetComplete t ∷ xs) ys h k = (h.0, in_order-append s (not (t == s) && a) b c xs ys h.1 k)
in_order-append s a b c (_ ∷ xs) ys h k = in_order-append s a b c xs ys h k

-- lists of acts add what each of them adds
pub adds_all : {S : Type 0} (m : AssociationMeaning S) → AssociationLaws m → (p q : S) (acts : List AssociationAct) → Moved m p acts q → AddsEvents m p acts q
adds_all {S} m w p q [] h = let P : S → Type 0 = λ x. AddsEvents m p [] x in subst P (sym h) (record {
  more = [];
  due_is = sym (append-nil (m.due p));
  rises = λ id. omega arith;
  in_order = λ id. refl;
  readable = λ id g u. inl u;
  gone = λ id t. inl t;
})
adds_all m w p q (act ∷ acts) h =
    let one = w.adds p h.0 act h.1.0 in
    let rest = adds_all m w h.0 q acts h.1.1 in
    record {
      more = one.more ++ rest.more;
      due_is = ap (λ l. l ++ m.due q) (told-append (act ∷ []) acts)
          ∙ append_assoc (told (act ∷ [])) (told acts) (m.due q)
          ∙ ap (λ l. told (act ∷ []) ++ l) rest.due_is
          ∙ sym (append_assoc (told (act ∷ [])) (m.due h.0) rest.more)
          ∙ ap (λ l. l ++ rest.more) one.due_is
          ∙ append_assoc (m.due p) one.more rest.more;
      rises = λ id. omega (arith, one.rises id, rest.rises id, completions-append id one.more rest.more);
      in_order = λ id. in_order-append id (m.finished p id) (m.finished h.0 id) (m.finished q id) one.more rest.more (one.in_order id) (rest.in_order id);
      readable = λ id g u. elim (rest.readable id g u) [
        | inl k ↦ elim (one.readable id g k) [ inl j ↦ inl j | inr j ↦ inr (member-left (Readable id) one.more rest.more j) ]
        | inr k ↦ inr (member-right (Readable id) one.more rest.more k)
      ];
      gone = λ id t. elim (one.gone id t) [
        | inl k ↦ elim (rest.gone id k) [ inl j ↦ inl j | inr j ↦ inr (member-right (ResetComplete id) one.more rest.more j) ]
        | inr k ↦ inr (member-left (ResetComplete id) one.more rest.more k)
      ];
    }

-- no act of a list gives a closed stream a message of its generation
pub silent_all : {S : Type 0} (m : AssociationMeaning S) → AssociationLaws m → (p q : S) (acts : List AssociationAct) → Moved m p acts q → IsSilent m p → IsSilent m q
silent_all {S} m w p q [] h k = subst (λ (x : S). IsSilent m x) (sym h) k
silent_all m w p q (act ∷ acts) h k = silent_all m w h.0 q acts h.1.1 (w.closed_silent p h.0 act h.1.0 k)

-- of a stream that no act of a list writes to no more is unacknowledged
pub unacknowledged_all : {S : Type 0} (m : AssociationMeaning S) → AssociationLaws m → (p q : S) (acts : List AssociationAct) (id : ℕ) → Moved m p acts q → list_any (writes_to id) acts ≡ false → m.unacknowledged q id ≤ m.unacknowledged p id
unacknowledged_all {S} m w p q [] id h k = omega (arith, ap (λ (x : S). m.unacknowledged x id) h)
unacknowledged_all m w p q (act ∷ acts) id h k =
    let two = neither (writes_to id act) (list_any (writes_to id) acts) k in
    omega (arith, w.unacknowledged_falls p h.0 act id two.0 h.1.0, unacknowledged_all m w h.0 q acts id h.1.1 two.1)
  where
    neither : (a b : Bool) → (a || b) ≡ false → (a ≡ false) × (b ≡ false)
    neither true b e = absurd (true≢false e)
    neither false b e = (refl, e)

-- a generation never falls
pub generation_rises : {S : Type 0} (m : AssociationMeaning S) → AssociationLaws m → (p q : S) (act : AssociationAct) (id : ℕ) → Acted m p act q → m.generation p id ≤ m.generation q id
generation_rises m w p q act id h = omega (arith, (w.adds p q act h).rises id)

-- over a list of acts the completed resets told are those by which a generation rose and that were due
pub completed : {S : Type 0} (m : AssociationMeaning S) → AssociationLaws m → (p q : S) (acts : List AssociationAct) (s : ℕ) → Moved m p acts q → completions s (told acts) + completions s (m.due q) + m.generation p s ≡ completions s (m.due p) + m.generation q s
completed m w p q acts s h =
    let all = adds_all m w p q acts h in
    omega (arith, all.rises s, ap (completions s) all.due_is, completions-append s (told acts) (m.due q), completions-append s (m.due p) all.more)

-- of a fresh part: the events that were told and those that are due
pub fresh_adds : {S : Type 0} (m : AssociationMeaning S) → AssociationLaws m → (p q : S) (acts : List AssociationAct) → m.fresh p → (a : AddsEvents m p acts q) → told acts ++ m.due q ≡ a.more
fresh_adds m w p q acts f a = a.due_is ∙ ap (λ l. l ++ a.more) (w.fresh_due p f)

-- a move of joined lists goes by a part between
pub moved-split : {S : Type 0} (m : AssociationMeaning S) (p q : S) (xs ys : List AssociationAct) → Moved m p (xs ++ ys) q → (r : S) × (Moved m p xs r × Moved m r ys q)
moved-split m p q [] ys h = (p, (refl, h))
moved-split m p q (x ∷ xs) ys h = let rest = moved-split m h.0 q xs ys h.1.1 in (rest.0, ((h.0, (h.1.0, rest.1.0)), rest.1.1))

-- where a message of a generation is read, at most so many completed resets were told
pub completions_before_read : {S : Type 0} (m : AssociationMeaning S) → AssociationLaws m → (p q : S) (before after : List AssociationAct) (s g i : ℕ) (bytes : List ℕ) → m.fresh p → Moved m p (before ++ Read s g i bytes ∷ after) q → completions s (told before) ≤ g
completions_before_read m w p q before after s g i bytes f h =
    let mid = moved-split m p q before (Read s g i bytes ∷ after) h in
    omega (arith, completed m w p mid.0 before s mid.1.0, w.fresh_generation p s f, ap (completions s) (w.fresh_due p f), mid.1.1.1.0.1.2)
