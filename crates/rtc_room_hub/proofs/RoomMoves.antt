-- What a step of a room does to the pairs of its members, and to their lines.
use Rattle.std.proofs.Common.{◌≡◌, ◌∙◌, ◌⊎◌, inl, inr, ◌+◌, ◌≤◌, ◌<◌, ◌==◌, ◌++◌, if◌then◌else◌, ℕ, zero, suc, Bool, true, false, true≢false, List, [], ◌∷◌, length, Option, Some, None, refl, sym, ap, subst, arith}
use Rattle.std.specs.Prelude.{slice_get, slice_set}
use Rattle.std.specs.declared.alloc.Global.{Global}
use Rattle.rtc_plain_ice.specs.Messages.{is_ice_message}
use Rattle.rtc_plain_media.specs.declared.plain_media_event.PlainMediaEvent.{PlainMediaEvent}
use Rattle.rtc_run_history.specs.declared.reply.Reply.{Reply}
use Rattle.rtc_run_history.specs.declared.shown.Shown.{Shown}
use Rattle.rtc_run_history.specs.declared.side.Side.{Side}
use Rattle.rtc_run_history.specs.declared.side.Side.TheVariants.{Left, Right}
use Rattle.rtc_run_history.specs.declared.step.Step.{Step}
use Rattle.rtc_run_history.specs.declared.step.Step.TheVariants.{Datagram}
use Rattle.rtc_run_history.specs.Past.{Entry}
use Rattle.rtc_run_history.specs.Runs.{Reached}
use Rattle.rtc_run_history.specs.Sides.{same_side, side_of}
use Rattle.rtc_run_history.specs.Sizes.{step_size}
use Rattle.rtc_run_history.specs.PairState.{rtc_at}
use Rattle.rtc_run.specs.ProgramPair.{PlainPairState, plain_parts}
use Rattle.rtc_room_laws.specs.Hearing.{line_behind, outcome_outputs}
use Rattle.rtc_room_laws.specs.Members.{MemberState, gone_member, is_here, new_member}
use Rattle.rtc_room_laws.specs.RoomRuns.{is_step_of}
use Rattle.rtc_room_laws.specs.RoomSizes.{room_step_size}
use Rattle.rtc_room_laws.specs.RoomSteps.{IsNewPairOf, JoinsRoom, PerformsHere, RoomState, TakesHere, TakesOf, TakesStep}
use Rattle.rtc_room_laws.specs.declared.room_reply.RoomReply.{RoomReply}
use Rattle.rtc_room_laws.specs.declared.room_reply.RoomReply.TheVariants as replied
use Rattle.rtc_room_laws.specs.declared.room_step.RoomStep.{RoomStep}
use Rattle.rtc_room_laws.specs.declared.room_step.RoomStep.TheVariants.{Join, Leave, Perform, Arrive, Forward}
use Rattle.rtc_room_laws.proofs.LineMoves.{LineBehind, behind_line, same_room, set_line_same}
use Rattle.rtc_room_hub.proofs.HeardMembers.{place_inside}
use Rattle.rtc_room_hub.proofs.LinedRuns.{line_on}
use Rattle.rtc_room_hub.proofs.SentRuns.{Sends, forwards_line, forwards_sends}

-- ---- what a step does to the pairs and the lines of members

-- the lines of members that were there before
abbrev pub LinesKept : (old new : List MemberState) → Type 0
LinesKept old new =
    (k : ℕ) (member member' : MemberState) → slice_get old k ≡ Some member → slice_get new k ≡ Some member' → member'.line ≡ member.line

-- a pair more, of a member without a line
pub record AddsPair (alloc : Global) (performed : List (Entry PlainMediaEvent)) (old new : RoomState) : Type 0 where
  pub pair : PlainPairState
  pub made : IsNewPairOf alloc (length old.pairs) pair
  pub few : length old.pairs < 256
  pub pairs_are : new.pairs ≡ old.pairs ++ pair ∷ []
  pub performed_is : performed ≡ []
  pub lines : LinesKept old.members new.members
  pub unlined : (member : MemberState) → slice_get new.members (length old.pairs) ≡ Some member → member.line ≡ None

pub record KeepsPairs (performed : List (Entry PlainMediaEvent)) (old new : RoomState) : Type 0 where
  pub pairs_are : new.pairs ≡ old.pairs
  pub performed_is : performed ≡ []
  pub lines : LinesKept old.members new.members

-- one pair goes on, and the line of its member as its left peer announces channels
pub record MovesPair (step : RoomStep) (performed : List (Entry PlainMediaEvent)) (old new : RoomState) : Type 0 where
  pub place : ℕ
  pub before : PlainPairState
  pub after : PlainPairState
  pub there : slice_get old.pairs place ≡ Some before
  pub went : Reached plain_parts is_ice_message before performed after
  pub grows : after.size ≤ before.size + room_step_size step
  pub pairs_are : new.pairs ≡ slice_set old.pairs place after
  pub of : (j : ℕ) → is_step_of j step ≡ (place == j)
  pub line : (member member' : MemberState) → slice_get old.members place ≡ Some member → slice_get new.members place ≡ Some member'
      → member'.line ≡ line_on performed before after went member.line
  pub others : (k : ℕ) (member member' : MemberState) → (place == k) ≡ false → slice_get old.members k ≡ Some member
      → slice_get new.members k ≡ Some member' → member'.line ≡ member.line

abbrev pub PairsGo : Global → RoomStep → List (Entry PlainMediaEvent) → (old new : RoomState) → Type 0
PairsGo alloc step performed old new = AddsPair alloc performed old new ⊎ (KeepsPairs performed old new ⊎ MovesPair step performed old new)

kept_room : (alloc : Global) (step : RoomStep) (performed : List (Entry PlainMediaEvent)) (old new : RoomState) → new ≡ old → performed ≡ []
    → PairsGo alloc step performed old new
kept_room alloc step performed old new same none =
    inr
    (inl
    (record {
      pairs_are = ap (λ (r : RoomState). r.pairs) same;
      performed_is = none;
      lines = λ k member member' there there'. same_room k old new same member member' there there';
    }))

-- what one step performs, and the line behind it
pub record MovedBy (before after : PlainPairState) (performed : List (Entry PlainMediaEvent)) (moved : Option ℕ → Option ℕ) : Type 0 where
  pub went : Reached plain_parts is_ice_message before performed after
  pub behind : (line : Option ℕ) → line_on performed before after went line ≡ moved line

abbrev moved : Step → Reply PlainMediaEvent → PlainPairState → Option ℕ → Option ℕ
moved step reply after line = if same_side (side_of step) Left then line_behind after.left line (outcome_outputs reply.outcome) else line

some_is : {A : Type 0} (x y : A) → Some x ≡ Some y → x ≡ y
some_is x y e = cc

left_line : (side : Side) (after : PlainPairState) (line : Option ℕ) (outputs : List (Shown PlainMediaEvent))
    → (if same_side side Left then line_behind (rtc_at side after) line outputs else line)
    ≡ (if same_side side Left then line_behind after.left line outputs else line)
left_line Left after line outputs = refl
left_line Right after line outputs = refl

performs_moves : (alloc : Global) (room_step : RoomStep) (k : ℕ) (step : Step) (reply : Reply PlainMediaEvent) (performed : List (Entry PlainMediaEvent))
    (old new : RoomState) → length old.members ≤ 256 → ((j : ℕ) → is_step_of j room_step ≡ (k == j)) → room_step_size room_step ≡ step_size step
    → PerformsHere k step reply old performed new → PairsGo alloc room_step performed old new
performs_moves alloc room_step k step reply performed old new few of size h =
    let grows : h.pair.after.size ≡ h.pair.before.size + step_size step = h.pair.performs.size in
    inr
    (inr
    (record {
      place = k;
      before = h.pair.before;
      after = h.pair.after;
      there = h.pair.there;
      went = by.went;
      grows = omega (arith, grows, size);
      pairs_are = h.pair.pairs_are;
      of = of;
      line = λ member member' there there'. own member member' there (moves k member member' there there');
      others = λ j member member' apart there there'. other j member member' apart (moves j member member' there there');
    }))
  where
    by : MovedBy h.pair.before h.pair.after performed (moved step reply h.pair.after)
    by =
        subst (λ (l : List (Entry PlainMediaEvent)). MovedBy h.pair.before h.pair.after l (moved step reply h.pair.after)) (sym h.pair.performed_is)
        (record { went = (h.pair.before, refl, record { performs = h.pair.performs; made = refl }); behind = λ line. refl })

    moves : (j : ℕ) (member member' : MemberState) → slice_get old.members j ≡ Some member → slice_get new.members j ≡ Some member'
        → LineBehind k j reply.outcome h.member (rtc_at (side_of step) h.pair.after) (same_side (side_of step) Left) member member'
    moves j member member' there there' =
        behind_line k j (side_of step) reply.outcome h.member (rtc_at (side_of step) h.pair.after) old.members member member'
        (let inside : k < length old.members = place_inside old.members k h.member h.here in omega (arith, inside, few)) h.here there
        (sym (ap (λ (ms : List MemberState). slice_get ms j) h.members_are) ∙ there')

    own : (member member' : MemberState) → slice_get old.members k ≡ Some member
        → LineBehind k k reply.outcome h.member (rtc_at (side_of step) h.pair.after) (same_side (side_of step) Left) member member'
        → member'.line ≡ line_on performed h.pair.before h.pair.after by.went member.line
    own member member' there (inl is) =
        is.1
        ∙ left_line (side_of step) h.pair.after h.member.line (outcome_outputs reply.outcome)
        ∙ ap (λ (x : MemberState). moved step reply h.pair.after x.line) (some_is h.member member (sym h.here ∙ there))
        ∙ sym (by.behind member.line)
    own member member' there (inr not) = absurd (not.0 refl)

    other : (j : ℕ) (member member' : MemberState) → (k == j) ≡ false
        → LineBehind k j reply.outcome h.member (rtc_at (side_of step) h.pair.after) (same_side (side_of step) Left) member member'
        → member'.line ≡ member.line
    other j member member' apart (inl is) =
        absurd (true≢false (sym (let same : j ≡ k = is.0 in let yes : (k == j) ≡ true = grind (arith, same) in yes) ∙ apart))
    other j member member' apart (inr not) = not.1

takes_here_go : (alloc : Global) (step : RoomStep) (reply : RoomReply) (old new : RoomState) (performed : List (Entry PlainMediaEvent))
    → length old.members ≤ 256 → TakesHere step reply old performed new → PairsGo alloc step performed old new
takes_here_go alloc (Leave k) replied.Left old new performed few h =
    inr
    (inl
    (record {
      pairs_are = ap (λ (r : RoomState). r.pairs) h.room_is;
      performed_is = h.performed_is;
      lines = λ j member member' there there'.
          set_line_same j k old new h.member (gone_member h.member) h.here refl (ap (λ (r : RoomState). r.members) h.room_is) member member' there there';
    }))
takes_here_go alloc (Perform k step) replied.NotAllowed old new performed few h =
    kept_room alloc (Perform k step) performed old new h.1.room_is h.1.performed_is
takes_here_go alloc (Perform k step) (replied.Performed reply) old new performed few h =
    performs_moves alloc (Perform k step) k step reply performed old new few (λ j. refl) refl h.1
takes_here_go alloc (Arrive k packet now) replied.NoMember old new performed few h =
    kept_room alloc (Arrive k packet now) performed old new h.3.room_is h.3.performed_is
takes_here_go alloc (Arrive k packet now) (replied.Performed reply) old new performed few h =
    performs_moves alloc (Arrive k packet now) k (Datagram Left packet now) reply performed old new few (λ j. refl) refl h.1
takes_here_go alloc (Forward k) reply old new performed few h =
    let sends : Sends h.before performed h.after = forwards_sends h.member.is_put_out h.member.line h.member h.before reply performed h.member' h.after h.forwards in
    let grows : h.after.size ≡ h.before.size + length performed = sends.grows in
    let most : length performed ≤ 1024 = h.few in
    let kept : LinesKept old.members new.members =
    λ j member member' there there'.
    set_line_same j k old new h.member h.member' h.here
    (forwards_line h.member.is_put_out h.member.line h.member h.before reply performed h.member' h.after h.forwards) h.members_are member member' there there' in
    inr
    (inr
    (record {
      place = k;
      before = h.before;
      after = h.after;
      there = h.there;
      went = sends.went;
      grows = omega (arith, grows, most);
      pairs_are = h.pairs_are;
      of = λ j. refl;
      line = λ member member' there there'. kept k member member' there there' ∙ sym (sends.quiet member.line);
      others = λ j member member' apart there there'. kept j member member' there there';
    }))
takes_here_go alloc step reply old new performed few h = absurd h

takes_of_go : (alloc : Global) (here : Bool) (step : RoomStep) (reply : RoomReply) (old new : RoomState) (performed : List (Entry PlainMediaEvent))
    → length old.members ≤ 256 → TakesOf here step reply old performed new → PairsGo alloc step performed old new
takes_of_go alloc false step reply old new performed few h = kept_room alloc step performed old new h.1.room_is h.1.performed_is
takes_of_go alloc true step reply old new performed few h = takes_here_go alloc step reply old new performed few h

-- one more behind those that were there, and the last
more_kept : (members : List MemberState) (x : MemberState) (k : ℕ) (member member' : MemberState) → slice_get members k ≡ Some member
    → slice_get (members ++ x ∷ []) k ≡ Some member' → member'.line ≡ member.line
more_kept [] x k member member' there there' = absurd (let bad : None ≡ Some member = there in cc)
more_kept (y ∷ members) x zero member member' there there' =
    ap (λ (z : MemberState). z.line) (some_is member' member (sym there' ∙ there))
more_kept (y ∷ members) x (suc k) member member' there there' = more_kept members x k member member' there there'

last_is : (members : List MemberState) (x member : MemberState) → slice_get (members ++ x ∷ []) (length members) ≡ Some member → member ≡ x
last_is [] x member there = some_is member x (sym there)
last_is (y ∷ members) x member there = last_is members x member there

joins_go : (alloc : Global) (room : ℕ) (reply : RoomReply) (old new : RoomState) (performed : List (Entry PlainMediaEvent))
    → length old.members ≡ length old.pairs → JoinsRoom alloc room old reply new → performed ≡ [] → PairsGo alloc (Join room) performed old new
joins_go alloc room (replied.Joined k) old new performed same h none =
    let number : k ≡ length old.pairs = h.0 ∙ same in
    let members : new.members ≡ old.members ++ new_member k room ∷ [] = ap (λ (r : RoomState). r.members) h.4 in
    inl
    (record {
      pair = h.2;
      made = subst (λ (n : ℕ). IsNewPairOf alloc n h.2) number h.3;
      few = subst (λ (n : ℕ). n < 256) number h.1;
      pairs_are = ap (λ (r : RoomState). r.pairs) h.4;
      performed_is = none;
      lines = λ j member member' there there'.
          more_kept old.members (new_member k room) j member member' there (sym (ap (λ (ms : List MemberState). slice_get ms j) members) ∙ there');
      unlined = λ member there.
          ap (λ (x : MemberState). x.line)
          (last_is old.members (new_member k room) member
          (ap (slice_get (old.members ++ new_member k room ∷ [])) same
          ∙ sym (ap (λ (ms : List MemberState). slice_get ms (length old.pairs)) members) ∙ there));
    })
joins_go alloc room replied.Full old new performed same h none = kept_room alloc (Join room) performed old new h.1 none
joins_go alloc room reply old new performed same h none = absurd h

pub takes_go : (alloc : Global) (step : RoomStep) (reply : RoomReply) (old new : RoomState) (performed : List (Entry PlainMediaEvent))
    → length old.members ≡ length old.pairs → length old.members ≤ 256 → TakesStep alloc step reply old performed new
    → PairsGo alloc step performed old new
takes_go alloc (Join room) reply old new performed same few h = joins_go alloc room reply old new performed same h.0 h.1
takes_go alloc (Leave k) reply old new performed same few h = takes_of_go alloc (is_here k old.members) (Leave k) reply old new performed few h
takes_go alloc (Perform k step) reply old new performed same few h = takes_of_go alloc (is_here k old.members) (Perform k step) reply old new performed few h
takes_go alloc (Arrive k packet now) reply old new performed same few h =
    takes_of_go alloc (is_here k old.members) (Arrive k packet now) reply old new performed few h
takes_go alloc (Forward k) reply old new performed same few h = takes_of_go alloc (is_here k old.members) (Forward k) reply old new performed few h
