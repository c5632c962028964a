-- What was heard of a member for another one is a contiguous stretch of all that was heard of it, and nothing if their rooms differ.
use Rattle.std.proofs.Common.{◌≡◌, ◌≢◌, ◌∙◌, inl, inr, ◌==◌, ◌&&◌, ◌++◌, if◌then◌else◌, ℕ, Bool, true, false, true≢false, List, [], ◌∷◌, Option, Some, None, refl, sym, ap, arith, append-nil, append_assoc}
use Rattle.std.specs.Prelude.{not, slice_get}
use Rattle.std.specs.declared.alloc.Global.{Global}
use Rattle.std.proofs.lemmas.Bool.{eqb-true}
use Rattle.rtc_room_laws.specs.Members.{MemberState}
use Rattle.rtc_room_laws.specs.RoomRuns.{RoomWent}
use Rattle.rtc_room_laws.specs.RoomSteps.{RoomEntry, RoomState}
use Rattle.rtc_room_laws.specs.RoomHandsOn.{IsStretch, are_of_one_room, are_together, entry_told, heard_for}
use Rattle.rtc_room_laws.specs.ItemMessages.{LineMessage}
use Rattle.rtc_room_laws.proofs.AbsentMembers.{apart_if_absent, apart_if_unspoken, apart_told, unheard_by, unheard_of}
use Rattle.rtc_room_laws.proofs.MemberSteps.{ComesFrom}
use Rattle.rtc_room_laws.proofs.RoomsStand.{came, heard_of}

-- ---- two members in one room

record Together (x y : Option MemberState) : Type 0 where
  a : MemberState
  b : MemberState
  a_there : x ≡ Some a
  b_there : y ≡ Some b
  rooms : a.room ≡ b.room
  a_here : a.has_left ≡ false
  b_here : b.has_left ≡ false

both_true : (p q : Bool) → (p && q) ≡ true → (p ≡ true) × (q ≡ true)
both_true true q h = (refl, h)
both_true false q h = absurd (true≢false (sym h))

not_true : (p : Bool) → not p ≡ true → p ≡ false
not_true true h = absurd (true≢false (sym h))
not_true false h = refl

together : (x y : Option MemberState) → are_of_one_room x y ≡ true → Together x y
together None y h = absurd (true≢false (sym h))
together (Some a) None h = absurd (true≢false (sym h))
together (Some a) (Some b) h =
    let first = both_true (a.room == b.room) (not a.has_left && not b.has_left) h in
    let rest = both_true (not a.has_left) (not b.has_left) first.1 in
    record {
      a = a;
      b = b;
      a_there = refl;
      b_there = refl;
      rooms = eqb-true a.room b.room first.0;
      a_here = not_true a.has_left rest.0;
      b_here = not_true b.has_left rest.1;
    }

in_one_room : (a b : MemberState) → a.room ≡ b.room → a.has_left ≡ false → b.has_left ≡ false → are_of_one_room (Some a) (Some b) ≡ true
in_one_room a b rooms a_here b_here =
    ap (λ (p : Bool). (a.room == b.room) && (not p && not b.has_left)) a_here
    ∙ ap (λ (p : Bool). (a.room == b.room) && not p) b_here
    ∙ ap (λ (p : Bool). p && true) (let yes : (a.room == b.room) ≡ true = grind (arith, rooms) in yes)

in_two_rooms : (a b : MemberState) → a.room ≢ b.room → are_of_one_room (Some a) (Some b) ≡ false
in_two_rooms a b rooms = by (a.room == b.room) refl
  where
    by : (p : Bool) → (a.room == b.room) ≡ p → (p && (not a.has_left && not b.has_left)) ≡ false
    by true e = absurd (rooms (eqb-true a.room b.room e))
    by false e = refl

-- ---- the stretch

-- it goes to the end of all that was heard while both are in one room
pub record HeardSoFar (heard all : List LineMessage) (here : Bool) : Type 0 where
  pub stretch : IsStretch heard all
  pub last : here ≡ true → (before : List LineMessage) × (all ≡ before ++ heard)

-- two members that are in one room after a step were so before it, or one of them just joined
were_together : (alloc : Global) (s m : ℕ) (entry : RoomEntry) (past : List RoomEntry) (room : RoomState) (went : RoomWent alloc (entry ∷ past) room)
    → are_together s m room ≡ true → are_together s m went.0 ≡ false → heard_for alloc s m past went.0 went.1 ≡ []
were_together alloc s m entry past room went now before =
    let t = together (slice_get room.members s) (slice_get room.members m) now in
    by t (came alloc entry past room went s t.a t.a_there) (came alloc entry past room went m t.b t.b_there)
  where
    by : (t : Together (slice_get room.members s) (slice_get room.members m)) → ComesFrom went.0.members s t.a → ComesFrom went.0.members m t.b
        → heard_for alloc s m past went.0 went.1 ≡ []
    by t (inr n) g = unheard_of alloc past went.0 went.1 s m n.absent
    by t (inl f) (inr n) = unheard_by alloc past went.0 went.1 s m n.absent
    by t (inl f) (inl g) =
        let one : are_of_one_room (Some f.a) (Some g.a) ≡ true =
        in_one_room f.a g.a (sym f.kept.room_is ∙ t.rooms ∙ g.kept.room_is) (f.kept.left_before t.a_here) (g.kept.left_before t.b_here) in
        absurd
        (true≢false
        (sym one
        ∙ ap (λ (o : Option MemberState). are_of_one_room o (Some g.a)) (sym f.there)
        ∙ ap (λ (o : Option MemberState). are_of_one_room (slice_get went.0.members s) o) (sym g.there)
        ∙ before))

heard_more : (here : Bool) (heard all told : List LineMessage) (now : Bool) → HeardSoFar heard all here → (here ≡ false → now ≡ true → heard ≡ [])
    → HeardSoFar (heard ++ (if here then told else [])) (all ++ told) now
heard_more true heard all told now h none =
    let last = h.last refl in
    let is : all ++ told ≡ last.0 ++ (heard ++ told) =
    ap (λ (l : List LineMessage). l ++ told) last.1 ∙ append_assoc last.0 heard told in
    record {
      stretch = record {
        before = last.0;
        behind = [];
        is = is ∙ ap (λ (l : List LineMessage). last.0 ++ l) (sym (append-nil (heard ++ told)));
      };
      last = λ e. (last.0, is);
    }
heard_more false heard all told now h none = record {
  stretch = record {
    before = h.stretch.before;
    behind = h.stretch.behind ++ told;
    is =
        ap (λ (l : List LineMessage). l ++ told) h.stretch.is
        ∙ append_assoc h.stretch.before (heard ++ h.stretch.behind) told
        ∙ ap (λ (l : List LineMessage). h.stretch.before ++ l)
        (append_assoc heard h.stretch.behind told
        ∙ ap (λ (l : List LineMessage). l ++ (h.stretch.behind ++ told)) (sym (append-nil heard)));
  };
  last = λ e. (all ++ told, sym (ap (λ (l : List LineMessage). (all ++ told) ++ (l ++ [])) (none refl e) ∙ append-nil (all ++ told)));
}

pub room_stretch : (alloc : Global) (s m : ℕ) (past : List RoomEntry) (room : RoomState) (went : RoomWent alloc past room)
    → HeardSoFar (heard_for alloc s m past room went) (heard_of alloc s past room went) (are_together s m room)
room_stretch alloc s m [] room went = record {
  stretch = record { before = []; behind = []; is = refl };
  last = λ e. ([], refl);
}
room_stretch alloc s m (entry ∷ past) room went =
    heard_more (are_together s m went.0) (heard_for alloc s m past went.0 went.1) (heard_of alloc s past went.0 went.1)
    (entry_told s entry.step entry.reply went.0 room) (are_together s m room) (room_stretch alloc s m past went.0 went.1)
    (λ before now. were_together alloc s m entry past room went now before)

-- ---- two rooms

pub two_rooms : (alloc : Global) (s m : ℕ) (past : List RoomEntry) (room : RoomState) (went : RoomWent alloc past room) (a b : MemberState)
    → slice_get room.members s ≡ Some a → slice_get room.members m ≡ Some b → a.room ≢ b.room → heard_for alloc s m past room went ≡ []
two_rooms alloc s m [] room went a b a_there b_there apart = refl
two_rooms alloc s m (entry ∷ past) room went a b a_there b_there apart =
    by (came alloc entry past room went s a a_there) (came alloc entry past room went m b b_there)
    (λ x y x_there y_there other. two_rooms alloc s m past went.0 went.1 x y x_there y_there other)
  where
    heard : List LineMessage
    heard = heard_for alloc s m past went.0 went.1

    told : List LineMessage
    told = entry_told s entry.step entry.reply went.0 room

    by : ComesFrom went.0.members s a → ComesFrom went.0.members m b
        → ((x y : MemberState) → slice_get went.0.members s ≡ Some x → slice_get went.0.members m ≡ Some y → x.room ≢ y.room → heard ≡ [])
        → heard ++ (if are_together s m went.0 then told else []) ≡ []
    by (inr n) g earlier = apart_told (are_together s m went.0) heard told (apart_if_unspoken s m went.0 n.absent) (unheard_of alloc past went.0 went.1 s m n.absent)
    by (inl f) (inr n) earlier =
        apart_told (are_together s m went.0) heard told (apart_if_absent s m went.0 n.absent) (unheard_by alloc past went.0 went.1 s m n.absent)
    by (inl f) (inl g) earlier =
        let other : f.a.room ≢ g.a.room = λ same. apart (f.kept.room_is ∙ same ∙ sym g.kept.room_is) in
        apart_told (are_together s m went.0) heard told
        (ap (λ (o : Option MemberState). are_of_one_room o (slice_get went.0.members m)) f.there
        ∙ ap (λ (o : Option MemberState). are_of_one_room (Some f.a) o) g.there
        ∙ in_two_rooms f.a g.a other)
        (earlier f.a g.a f.there g.there other)
