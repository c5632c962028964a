-- A run of a room goes on by the next step.
use Rattle.std.proofs.Common.{◌≡◌, ◌∙◌, ◌⊎◌, inl, inr, ◌+◌, ◌≤◌, ◌<◌, ◌^◌, ◌==◌, ◌++◌, if◌then◌else◌, ℕ, zero, suc, Bool, true, false, List, [], ◌∷◌, length, take, get_or, Option, Some, None, refl, sym, ap, subst, arith, length-append, length-set}
use Rattle.std.specs.Prelude.{slice_get, slice_set}
use Rattle.std.specs.declared.alloc.Global.{Global}
use Rattle.std.proofs.lemmas.Bool.{eqb-true}
use Rattle.std.proofs.lemmas.List.{take_more}
use Rattle.std.proofs.Math.Seq.{take-length}
use Rattle.rtc_plain_media.specs.declared.plain_media_event.PlainMediaEvent.{PlainMediaEvent}
use Rattle.rtc_run_history.specs.Past.{Entry}
use Rattle.rtc_run_laws.proofs.PushedLists.{push_places, set_places}
use Rattle.rtc_run.specs.ProgramPair.{PlainPairState}
use Rattle.rtc_room_laws.specs.Members.{MemberState}
use Rattle.rtc_room_laws.specs.RoomRuns.{RoomRuns, RoomWent, is_step_of, performed_of, room_replies, room_steps}
use Rattle.rtc_room_laws.specs.RoomSizes.{AreWithin, HaveRoom, room_size, room_step_size}
use Rattle.rtc_room_laws.specs.RoomSteps.{IsNewPairOf, RoomEntry, RoomState, TakesStep}
use Rattle.rtc_room_laws.specs.declared.room_reply.RoomReply.{RoomReply}
use Rattle.rtc_room_laws.specs.declared.room_step.RoomStep.{RoomStep}
use Rattle.rtc_room_hub.proofs.RoomWithin.{have_room, size_append, within_append, within_at, within_more, within_set}
use Rattle.rtc_room_hub.proofs.HeardMembers.{place_inside, some_at}
use Rattle.rtc_room_hub.proofs.LinedRuns.{LinedRan, line_on, lined_as, lined_new, lined_on}
use Rattle.rtc_room_hub.proofs.RoomCounts.{takes_count}
use Rattle.rtc_room_hub.proofs.RoomMoves.{AddsPair, KeepsPairs, MovesPair, PairsGo, takes_go}

-- the room of members and their pairs
abbrev pub room_of : List MemberState → List PlainPairState → RoomState
room_of members pairs = record { members = members; pairs = pairs }

-- the run of a member's pair, with the line behind it, which is the member's
pub record RanSoFar (alloc : Global) (k : ℕ) (past : List RoomEntry) (members : List MemberState) (pair : PlainPairState) : Type 0 where
  pub line : Option ℕ
  pub lined : LinedRan alloc k past pair line
  pub own : (member : MemberState) → slice_get members k ≡ Some member → member.line ≡ line

-- A run so far.
pub record SoFar (alloc : Global) (steps : List RoomStep) (replies : List RoomReply) (members : List MemberState) (pairs : List PlainPairState)
    : Type 0 where
  pub past : List RoomEntry
  pub steps_are : room_steps past ≡ steps
  pub replies_are : room_replies past ≡ replies
  pub went : RoomWent alloc past (room_of members pairs)
  pub ran : (k : ℕ) (pair : PlainPairState) → slice_get pairs k ≡ Some pair → RanSoFar alloc k past members pair
  -- nothing was performed on a pair that is not there yet
  pub unjoined : (k : ℕ) → length pairs ≤ k → performed_of k past ≡ []
  pub same : length members ≡ length pairs
  pub few : length pairs ≤ 256
  pub within : AreWithin (room_size steps) pairs

pub so_far_none : (alloc : Global) → SoFar alloc [] [] [] []
so_far_none alloc = record {
  past = [];
  steps_are = refl;
  replies_are = refl;
  went = refl;
  ran = λ k pair there. nothing k pair there;
  unjoined = λ k past. refl;
  same = refl;
  few = omega arith;
  within = tt;
}
  where
    nothing : (k : ℕ) (pair : PlainPairState) → slice_get [] k ≡ Some pair → RanSoFar alloc k [] [] pair
    nothing k pair there = absurd (let bad : None ≡ Some pair = there in cc)

-- ---- what was performed on a pair

unperformed : (k : ℕ) (entry : RoomEntry) (past : List RoomEntry) → entry.performed ≡ [] → performed_of k (entry ∷ past) ≡ performed_of k past
unperformed k entry past none = by (is_step_of k entry.step)
  where
    by : (b : Bool) → (if b then entry.performed ++ performed_of k past else performed_of k past) ≡ performed_of k past
    by true = ap (λ (l : List (Entry PlainMediaEvent)). l ++ performed_of k past) none
    by false = refl

performed_others : (k : ℕ) (entry : RoomEntry) (past : List RoomEntry) → is_step_of k entry.step ≡ false → performed_of k (entry ∷ past) ≡ performed_of k past
performed_others k entry past other = ap (λ (b : Bool). if b then entry.performed ++ performed_of k past else performed_of k past) other

performed_own : (k : ℕ) (entry : RoomEntry) (past : List RoomEntry) → is_step_of k entry.step ≡ true → performed_of k (entry ∷ past) ≡ entry.performed ++ performed_of k past
performed_own k entry past own = ap (λ (b : Bool). if b then entry.performed ++ performed_of k past else performed_of k past) own

-- ---- the next step

module _ (alloc : Global) (steps : List RoomStep) (replies : List RoomReply) (members : List MemberState) (pairs : List PlainPairState)
    (so_far : SoFar alloc steps replies members pairs) (step : RoomStep) (reply : RoomReply) (performed : List (Entry PlainMediaEvent))
    (members' : List MemberState) (pairs' : List PlainPairState)
    (takes : TakesStep alloc step reply (room_of members pairs) performed (room_of members' pairs'))
    (small : room_size steps + room_step_size step < 2 ^ 32) where
  abbrev last : RoomEntry
  last = record { step = step; reply = reply; performed = performed }

  -- what the next pairs are, from what was performed
  record PairsNext : Type 0 where
    pub ran : (k : ℕ) (pair : PlainPairState) → slice_get pairs' k ≡ Some pair → RanSoFar alloc k (last ∷ so_far.past) members' pair
    pub unjoined : (k : ℕ) → length pairs' ≤ k → performed_of k (last ∷ so_far.past) ≡ []
    pub few : length pairs' ≤ 256
    pub within : AreWithin (room_size steps + room_step_size step) pairs'

  -- the member of a pair that was there
  member_of : (k : ℕ) (pair : PlainPairState) → slice_get pairs k ≡ Some pair → (member : MemberState) × (slice_get members k ≡ Some member)
  member_of k pair there =
      let within : k < length pairs = place_inside pairs k pair there in
      let same : length members ≡ length pairs = so_far.same in
      some_at members k (omega (arith, within, same))

  -- one whose pair and line stay
  stays_so : (k : ℕ) (pair : PlainPairState) → slice_get pairs k ≡ Some pair → performed_of k (last ∷ so_far.past) ≡ performed_of k so_far.past
      → ((member member' : MemberState) → slice_get members k ≡ Some member → slice_get members' k ≡ Some member' → member'.line ≡ member.line)
      → RanSoFar alloc k (last ∷ so_far.past) members' pair
  stays_so k pair there same kept =
      let before = so_far.ran k pair there in
      let member = member_of k pair there in
      record {
        line = before.line;
        lined = lined_as alloc k so_far.past (last ∷ so_far.past) pair before.line same before.lined;
        own = λ member' there'. kept member.0 member' member.1 there' ∙ before.own member.0 member.1;
      }

  kept_next : KeepsPairs performed (room_of members pairs) (room_of members' pairs') → PairsNext
  kept_next h = record {
    ran = λ k pair there.
        stays_so k pair (subst (λ (ps : List PlainPairState). slice_get ps k ≡ Some pair) h.pairs_are there)
        (unperformed k last so_far.past h.performed_is) (h.lines k);
    unjoined = λ k past. unperformed k last so_far.past h.performed_is ∙ so_far.unjoined k (subst (λ (ps : List PlainPairState). length ps ≤ k) h.pairs_are past);
    few = subst (λ (ps : List PlainPairState). length ps ≤ 256) (sym h.pairs_are) so_far.few;
    within = subst (λ (ps : List PlainPairState). AreWithin (room_size steps + room_step_size step) ps) (sym h.pairs_are)
        (within_more (room_size steps) (room_size steps + room_step_size step) pairs (omega arith) so_far.within);
  }

  added_ran : (h : AddsPair alloc performed (room_of members pairs) (room_of members' pairs')) (k : ℕ) (pair : PlainPairState)
      → slice_get (pairs ++ h.pair ∷ []) k ≡ Some pair → RanSoFar alloc k (last ∷ so_far.past) members' pair
  added_ran h k pair there = by (push_places pairs h.pair k)
    where
      none : performed_of k (last ∷ so_far.past) ≡ performed_of k so_far.past
      none = unperformed k last so_far.past h.performed_is

      by : (((length pairs == k) ≡ false) × (slice_get (pairs ++ h.pair ∷ []) k ≡ slice_get pairs k))
          ⊎ ((k ≡ length pairs) × ((length pairs == k) ≡ true) × (slice_get (pairs ++ h.pair ∷ []) k ≡ Some h.pair))
          → RanSoFar alloc k (last ∷ so_far.past) members' pair
      by (inl old) = stays_so k pair (sym old.1 ∙ there) none (h.lines k)
      by (inr new) =
          let one : Some h.pair ≡ Some pair = sym new.2 ∙ there in
          let same : h.pair ≡ pair = cc in
          let past : length pairs ≤ k = omega (arith, new.0) in
          subst (λ (p : PlainPairState). RanSoFar alloc k (last ∷ so_far.past) members' p) same
          (record {
            line = None;
            lined = lined_new alloc k (last ∷ so_far.past) h.pair (none ∙ so_far.unjoined k past)
                (subst (λ (n : ℕ). IsNewPairOf alloc n h.pair) (sym new.0) h.made);
            own = λ member here. h.unlined member (sym (ap (slice_get members') new.0) ∙ here);
          })

  added_next : AddsPair alloc performed (room_of members pairs) (room_of members' pairs') → PairsNext
  added_next h = record {
    ran = λ k pair there. added_ran h k pair (subst (λ (ps : List PlainPairState). slice_get ps k ≡ Some pair) h.pairs_are there);
    unjoined = λ k past.
        let count : length pairs' ≡ length pairs + 1 = ap length h.pairs_are ∙ length-append pairs (h.pair ∷ []) in
        unperformed k last so_far.past h.performed_is ∙ so_far.unjoined k (omega (arith, count, past));
    few =
        let count : length pairs' ≡ length pairs + 1 = ap length h.pairs_are ∙ length-append pairs (h.pair ∷ []) in
        let room : length pairs < 256 = h.few in
        omega (arith, count, room);
    within = subst (λ (ps : List PlainPairState). AreWithin (room_size steps + room_step_size step) ps) (sym h.pairs_are)
        (within_append (room_size steps + room_step_size step) pairs h.pair
        (within_more (room_size steps) (room_size steps + room_step_size step) pairs (omega arith) so_far.within)
        (let none : h.pair.size ≡ 0 = h.made.fresh.size in omega (arith, none)));
  }

  moved_small : (h : MovesPair step performed (room_of members pairs) (room_of members' pairs')) → h.after.size ≤ room_size steps + room_step_size step
  moved_small h =
      let old : h.before.size ≤ room_size steps = within_at (room_size steps) h.place pairs h.before so_far.within h.there in
      let grows : h.after.size ≤ h.before.size + room_step_size step = h.grows in
      omega (arith, old, grows)

  moved_ran : (h : MovesPair step performed (room_of members pairs) (room_of members' pairs')) (k : ℕ) (pair : PlainPairState)
      → slice_get (slice_set pairs h.place h.after) k ≡ Some pair → RanSoFar alloc k (last ∷ so_far.past) members' pair
  moved_ran h k pair there = by (set_places pairs h.place h.after h.before k h.there)
    where
      by : (((h.place == k) ≡ false) × (slice_get (slice_set pairs h.place h.after) k ≡ slice_get pairs k))
          ⊎ ((k ≡ h.place) × ((h.place == k) ≡ true) × (slice_get (slice_set pairs h.place h.after) k ≡ Some h.after))
          → RanSoFar alloc k (last ∷ so_far.past) members' pair
      by (inl other) =
          stays_so k pair (sym other.1 ∙ there) (performed_others k last so_far.past (h.of k ∙ other.0))
          (λ member member' here here'. h.others k member member' other.0 here here')
      by (inr own) =
          let one : Some h.after ≡ Some pair = sym own.2 ∙ there in
          let same : h.after ≡ pair = cc in
          let least : h.after.size ≤ room_size steps + room_step_size step = moved_small h in
          let before = so_far.ran k h.before (ap (slice_get pairs) own.0 ∙ h.there) in
          let member = member_of k h.before (ap (slice_get pairs) own.0 ∙ h.there) in
          subst (λ (p : PlainPairState). RanSoFar alloc k (last ∷ so_far.past) members' p) same
          (record {
            line = line_on performed h.before h.after h.went before.line;
            lined = lined_on alloc k so_far.past (last ∷ so_far.past) performed h.before h.after before.line
                (performed_own k last so_far.past (h.of k ∙ own.1)) before.lined h.went (omega (arith, least, small));
            own = λ member' here.
                h.line member.0 member' (sym (ap (slice_get members) own.0) ∙ member.1) (sym (ap (slice_get members') own.0) ∙ here)
                ∙ ap (line_on performed h.before h.after h.went) (before.own member.0 member.1);
          })

  apart : (n k : ℕ) → n < k → (n == k) ≡ false
  apart n k less = by (n == k) refl
    where
      by : (b : Bool) → (n == k) ≡ b → b ≡ false
      by true e = let same : n ≡ k = eqb-true n k e in absurd (omega (arith, same, less))
      by false e = refl

  moved_next : MovesPair step performed (room_of members pairs) (room_of members' pairs') → PairsNext
  moved_next h = record {
    ran = λ k pair there. moved_ran h k pair (subst (λ (ps : List PlainPairState). slice_get ps k ≡ Some pair) h.pairs_are there);
    unjoined = λ k past.
        let count : length pairs' ≡ length pairs = ap length h.pairs_are ∙ length-set pairs h.place h.after in
        let place : h.place < length pairs = place_inside pairs h.place h.before h.there in
        performed_others k last so_far.past (h.of k ∙ apart h.place k (omega (arith, count, past, place))) ∙ so_far.unjoined k (omega (arith, count, past));
    few =
        let count : length pairs' ≡ length pairs = ap length h.pairs_are ∙ length-set pairs h.place h.after in
        let most : length pairs ≤ 256 = so_far.few in
        omega (arith, count, most);
    within = subst (λ (ps : List PlainPairState). AreWithin (room_size steps + room_step_size step) ps) (sym h.pairs_are)
        (within_set (room_size steps + room_step_size step) h.place pairs h.after
        (within_more (room_size steps) (room_size steps + room_step_size step) pairs (omega arith) so_far.within) (moved_small h));
  }

  pairs_next : PairsGo alloc step performed (room_of members pairs) (room_of members' pairs') → PairsNext
  pairs_next (inl h) = added_next h
  pairs_next (inr (inl h)) = kept_next h
  pairs_next (inr (inr h)) = moved_next h

  pub so_far_more : SoFar alloc (steps ++ step ∷ []) (replies ++ reply ∷ []) members' pairs'
  so_far_more =
      let few : length members ≤ 256 = (let same = so_far.same in let most = so_far.few in omega (arith, same, most)) in
      let next : PairsNext = pairs_next (takes_go alloc step reply (room_of members pairs) (room_of members' pairs') performed so_far.same few takes) in
      record {
        past = last ∷ so_far.past;
        steps_are = ap (λ (l : List RoomStep). l ++ step ∷ []) so_far.steps_are;
        replies_are = ap (λ (l : List RoomReply). l ++ reply ∷ []) so_far.replies_are;
        went = (room_of members pairs, so_far.went, takes);
        ran = next.ran;
        unjoined = next.unjoined;
        same = takes_count alloc step reply (room_of members pairs) (room_of members' pairs') performed takes so_far.same;
        few = next.few;
        within = subst (λ (n : ℕ). AreWithin n pairs') (sym (size_append steps step)) next.within;
      }

-- ---- in a loop over all steps

sized : (steps : List RoomStep) (i : ℕ) (d : RoomStep) → i < length steps → room_size (take i steps) + room_step_size (get_or steps i d) ≤ room_size steps
sized [] i d h = absurd (omega arith)
sized (step ∷ steps) zero d h = omega arith
sized (step ∷ steps) (suc i) d h = omega (arith, sized steps i d (omega arith))

-- a run begins
pub so_far_begins : (alloc : Global) (steps : List RoomStep) (replies : List RoomReply) (members : List MemberState) (pairs : List PlainPairState) → steps ≡ [] → replies ≡ []
    → members ≡ [] → pairs ≡ [] → SoFar alloc steps replies members pairs
so_far_begins alloc steps replies members pairs no_steps no_replies no_members no_pairs = rw (no_steps, no_replies, no_members, no_pairs) (so_far_none alloc)

-- there is room for the next step
pub next_fits : (steps : List RoomStep) (i : ℕ) (step : RoomStep) → i < length steps → step ≡ get_or steps i step → room_size steps < 2 ^ 32
    → room_size (take i steps) + room_step_size step < 2 ^ 32
next_fits steps i step inside is small =
    let fits : room_size (take i steps) + room_step_size (get_or steps i step) ≤ room_size steps = sized steps i step inside in
    let same : room_step_size step ≡ room_step_size (get_or steps i step) = ap room_step_size is in
    omega (arith, fits, same, small)

pub next_has_room : (alloc : Global) (steps : List RoomStep) (i : ℕ) (step : RoomStep) (replies : List RoomReply) (members : List MemberState) (pairs : List PlainPairState)
    → i < length steps → step ≡ get_or steps i step → room_size steps < 2 ^ 32 → SoFar alloc (take i steps) replies members pairs → HaveRoom (room_step_size step) pairs
next_has_room alloc steps i step replies members pairs inside is small so_far =
    have_room (room_size (take i steps)) (room_step_size step) pairs so_far.within (next_fits steps i step inside is small)

pub so_far_next : (alloc : Global) (steps : List RoomStep) (i : ℕ) (step : RoomStep) (replies replies' : List RoomReply) (reply : RoomReply)
    (members members' : List MemberState) (pairs pairs' : List PlainPairState)
    → i < length steps → step ≡ get_or steps i step → room_size steps < 2 ^ 32 → SoFar alloc (take i steps) replies members pairs
    → (performed : List (Entry PlainMediaEvent)) × TakesStep alloc step reply (room_of members pairs) performed (room_of members' pairs')
    → replies' ≡ replies ++ reply ∷ [] → SoFar alloc (take (i + 1) steps) replies' members' pairs'
so_far_next alloc steps i step replies replies' reply members members' pairs pairs' inside is small so_far takes pushed =
    let more : SoFar alloc (take i steps ++ step ∷ []) (replies ++ reply ∷ []) members' pairs' =
    so_far_more alloc (take i steps) replies members pairs so_far step reply takes.0 members' pairs' takes.1 (next_fits steps i step inside is small) in
    let front : take (i + 1) steps ≡ take i steps ++ step ∷ [] = take_more steps i step inside ∙ ap (λ (s : RoomStep). take i steps ++ s ∷ []) (sym is) in
    subst (λ (rs : List RoomReply). SoFar alloc (take (i + 1) steps) rs members' pairs') (sym pushed)
    (subst (λ (ss : List RoomStep). SoFar alloc ss (replies ++ reply ∷ []) members' pairs') (sym front) more)

-- a run of all steps
pub room_runs : (alloc : Global) (steps : List RoomStep) (i : ℕ) (replies replies' : List RoomReply) (members : List MemberState) (pairs : List PlainPairState)
    → i ≡ length steps → replies' ≡ replies → SoFar alloc (take i steps) replies members pairs → RoomRuns alloc steps replies' pairs
room_runs alloc steps i replies replies' members pairs ended same so_far = record {
  past = so_far.past;
  steps_are = so_far.steps_are ∙ ap (λ (n : ℕ). take n steps) ended ∙ take-length steps;
  replies_are = so_far.replies_are ∙ sym same;
  room = room_of members pairs;
  went = so_far.went;
  pairs_are = refl;
  members = λ k pair there. (so_far.ran k pair there).lined.ran;
  lines = λ k pair there member here. (so_far.ran k pair there).own member here ∙ (so_far.ran k pair there).lined.along;
}
