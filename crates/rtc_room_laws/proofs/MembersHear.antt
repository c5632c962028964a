-- A member of a room, behind a step in which the hub heard another one.
use Rattle.std.proofs.Common.{◌≡◌, ◌≢◌, ◌∙◌, ◌⊎◌, inl, inr, ◌==◌, ◌&&◌, ◌++◌, if◌then◌else◌, ℕ, zero, suc, Bool, true, false, true≢false, List, [], ◌∷◌, map, Option, Some, None, refl, sym, ap, subst, arith}
use Rattle.std.specs.Prelude.{not, slice_get, slice_set}
use Rattle.std.proofs.lemmas.Bool.{eqb-true}
use Rattle.rtc_room_laws.specs.ItemMessages.{LineMessage}
use Rattle.rtc_room_laws.specs.Members.{MemberState, hearing_member, hearing_members}
use Rattle.rtc_room_laws.specs.declared.item.Item.{Item}
use Rattle.rtc_room_laws.proofs.DueItems.{AreOf, IsDue, due_hears, hears_nothing, told_to}
use Rattle.rtc_room_laws.proofs.ItemTexts.{item_message}

-- ---- numbers

same_self : (n k : ℕ) → n ≡ k → (n == k) ≡ true
same_self n k is = grind (arith, is)

other_number : (n k : ℕ) → (n ≡ k → ⊥) → (n == k) ≡ false
other_number n k other = by (n == k) refl
  where
    by : (b : Bool) → (n == k) ≡ b → b ≡ false
    by true e = absurd (other (eqb-true n k e))
    by false e = refl

turned : (n k : ℕ) → (n == k) ≡ (k == n)
turned n k = by (n == k) refl
  where
    by : (b : Bool) → (n == k) ≡ b → b ≡ (k == n)
    by true e = sym (same_self k n (sym (eqb-true n k e)))
    by false e = sym (other_number k n (λ same. true≢false (sym (same_self n k (sym same)) ∙ e)))

-- ---- lists

pub some_is : {A : Type 0} (x y : A) → Some x ≡ Some y → x ≡ y
some_is x y e = cc

-- what is at a place behind a write
pub written_at : {A : Type 0} (xs : List A) (k : ℕ) (v : A) (m : ℕ) (x : A) → slice_get (slice_set xs k v) m ≡ Some x
    → ((m ≡ k) × (x ≡ v)) ⊎ ((m ≡ k → ⊥) × (slice_get xs m ≡ Some x))
written_at [] k v m x there = absurd (let bad : None ≡ Some x = there in cc)
written_at (y ∷ xs) zero v zero x there = inl (refl, sym (some_is v x there))
written_at (y ∷ xs) zero v (suc m) x there = inr (λ same. absurd (omega (arith, same)), there)
written_at (y ∷ xs) (suc k) v zero x there = inr (λ same. absurd (omega (arith, same)), there)
written_at (y ∷ xs) (suc k) v (suc m) x there =
    elim (written_at xs k v m x there)
    [ inl h ↦ inl (ap suc h.0, h.1) | inr h ↦ inr (λ same. h.0 (let one : m ≡ k = omega (arith, same) in one), h.1) ]

mapped_at : {A : Type 0} (f : A → A) (xs : List A) (m : ℕ) (x : A) → slice_get (map f xs) m ≡ Some x → (y : A) × (slice_get xs m ≡ Some y) × (x ≡ f y)
mapped_at f [] m x there = absurd (let bad : None ≡ Some x = there in cc)
mapped_at f (y ∷ xs) zero x there = (y, refl, sym (some_is (f y) x there))
mapped_at f (y ∷ xs) (suc m) x there = mapped_at f xs m x there

-- ---- what is told of a step

-- one speaker's messages, if this one speaks to a member of its room that has not left
abbrev pub told_of : (s k : ℕ) → (speaker listener : MemberState) → List Item → List LineMessage
told_of s k speaker listener items =
    if (k == s) && ((speaker.room == listener.room) && not listener.has_left) then map item_message items else []

told_same : (s m k room : ℕ) (items : List Item) (speaker listener : MemberState) → s ≢ m → listener.number ≡ m → speaker.room ≡ room
    → told_to s k room items listener ≡ told_of s k speaker listener items
told_same s m k room items speaker listener apart number is = by (k == s) refl
  where
    said : List LineMessage
    said = map item_message items

    nothing : (b : Bool) (empty : List LineMessage) → empty ≡ [] → (if b then empty else []) ≡ []
    nothing true empty e = e
    nothing false empty e = refl

    by : (b : Bool) → (k == s) ≡ b
        → (if not (listener.number == k) && ((listener.room == room) && not listener.has_left) then (if b then said else []) else [])
        ≡ (if b && ((speaker.room == listener.room) && not listener.has_left) then said else [])
    by false e = nothing (not (listener.number == k) && ((listener.room == room) && not listener.has_left)) [] refl
    by true e =
        let same : k ≡ s = eqb-true k s e in
        let other : (listener.number == k) ≡ false = other_number listener.number k (λ own. apart (sym (sym number ∙ own ∙ same))) in
        ap (λ (b : Bool). if not b && ((listener.room == room) && not listener.has_left) then said else []) other
        ∙ ap (λ (b : Bool). if b && not listener.has_left then said else [])
        (ap (λ (n : ℕ). listener.room == n) (sym is) ∙ turned listener.room speaker.room)

-- a listener with another line
with_line_due : (s : ℕ) (member : MemberState) (line : Option ℕ) (sent heard : List LineMessage) → IsDue s member sent heard
    → IsDue s (record member { line = line }) sent heard
with_line_due s member line sent heard due = record { prefix = due.prefix; whole = due.whole }

due_heard : (s m k room : ℕ) (items : List Item) (speaker listener listener' : MemberState) (members : List MemberState) (sent heard : List LineMessage)
    → s ≢ m → AreOf k items → speaker.room ≡ room → listener.number ≡ m → slice_get members m ≡ Some listener → IsDue s listener sent heard
    → slice_get (hearing_members k room items members) m ≡ Some listener'
    → IsDue s listener' sent (heard ++ told_of s k speaker listener items)
due_heard s m k room [] speaker listener listener' members sent heard apart are is number there due there' =
    let same : listener ≡ listener' = some_is listener listener' (sym there ∙ there') in
    subst (λ (l : MemberState). IsDue s l sent (heard ++ told_of s k speaker listener [])) same
    (subst (λ (l : List LineMessage). IsDue s listener sent (heard ++ l)) (sym (none ((k == s) && ((speaker.room == listener.room) && not listener.has_left))))
    (hears_nothing s listener sent heard due))
  where
    none : (b : Bool) → (if b then map item_message [] else []) ≡ []
    none true = refl
    none false = refl
due_heard s m k room (item ∷ items) speaker listener listener' members sent heard apart are is number there due there' =
    let found = mapped_at (hearing_member k room (item ∷ items)) members m listener' there' in
    let own : found.0 ≡ listener = some_is found.0 listener (sym found.1 ∙ there) in
    subst (λ (l : List LineMessage). IsDue s listener' sent (heard ++ l)) (told_same s m k room (item ∷ items) speaker listener apart number is)
    (subst (λ (l : MemberState). IsDue s l sent (heard ++ told_to s k room (item ∷ items) listener))
    (sym (found.2 ∙ ap (hearing_member k room (item ∷ items)) own))
    (due_hears s k room (item ∷ items) listener sent heard are due))

-- a listener behind a step in which a speaker was heard, whose line may be another one since
pub due_told : (s m k : ℕ) (line : Option ℕ) (items : List Item) (speaker listener listener' : MemberState) (members : List MemberState)
    (sent heard : List LineMessage) → s ≢ m → AreOf k items → slice_get members k ≡ Some speaker → slice_get members m ≡ Some listener → listener.number ≡ m
    → IsDue s listener sent heard
    → slice_get (hearing_members k speaker.room items (slice_set members k (record speaker { line = line }))) m ≡ Some listener'
    → IsDue s listener' sent (heard ++ told_of s k speaker listener items)
due_told s m k line items speaker listener listener' members sent heard apart are here there number due there' =
    by (behind (slice_set members k (record speaker { line = line })) there')
  where
    -- the one that hears
    behind : (ms : List MemberState) → slice_get (hearing_members k speaker.room items ms) m ≡ Some listener' → (l : MemberState) × (slice_get ms m ≡ Some l)
    behind ms found = at items found
      where
        at : (its : List Item) → slice_get (hearing_members k speaker.room its ms) m ≡ Some listener' → (l : MemberState) × (slice_get ms m ≡ Some l)
        at [] f = (listener', f)
        at (i ∷ is) f = let g = mapped_at (hearing_member k speaker.room (i ∷ is)) ms m listener' f in (g.0, g.1)

    on : (l : MemberState) → slice_get (slice_set members k (record speaker { line = line })) m ≡ Some l
        → ((m ≡ k) × (l ≡ record speaker { line = line })) ⊎ ((m ≡ k → ⊥) × (slice_get members m ≡ Some l))
        → IsDue s listener' sent (heard ++ told_of s k speaker listener items)
    on l at (inl own) =
        let same : speaker ≡ listener = some_is speaker listener (sym (ap (slice_get members) own.0 ∙ here) ∙ there) in
        let number' : l.number ≡ m = ap (λ (x : MemberState). x.number) (own.1) ∙ ap (λ (x : MemberState). x.number) same ∙ number in
        let due' : IsDue s l sent heard =
        subst (λ (x : MemberState). IsDue s x sent heard) (sym own.1)
        (with_line_due s speaker line sent heard (subst (λ (x : MemberState). IsDue s x sent heard) (sym same) due)) in
        let rooms : l.room ≡ listener.room = ap (λ (x : MemberState). x.room) own.1 ∙ ap (λ (x : MemberState). x.room) same in
        let lefts : l.has_left ≡ listener.has_left = ap (λ (x : MemberState). x.has_left) own.1 ∙ ap (λ (x : MemberState). x.has_left) same in
        subst (λ (room : ℕ). IsDue s listener' sent (heard ++ (if (k == s) && ((speaker.room == room) && not listener.has_left) then map item_message items else []))) rooms
        (subst (λ (left : Bool). IsDue s listener' sent (heard ++ (if (k == s) && ((speaker.room == l.room) && not left) then map item_message items else []))) lefts
        (due_heard s m k speaker.room items speaker l listener' (slice_set members k (record speaker { line = line })) sent heard apart are refl number' at due' there'))
    on l at (inr other) =
        let same : l ≡ listener = some_is l listener (sym other.1 ∙ there) in
        due_heard s m k speaker.room items speaker listener listener' (slice_set members k (record speaker { line = line })) sent heard apart are refl number
        (at ∙ ap Some same) due there'

    by : (l : MemberState) × (slice_get (slice_set members k (record speaker { line = line })) m ≡ Some l)
        → IsDue s listener' sent (heard ++ told_of s k speaker listener items)
    by found = on found.0 found.1 (written_at members k (record speaker { line = line }) m found.0 found.1)
