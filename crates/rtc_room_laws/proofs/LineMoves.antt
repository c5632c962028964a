-- What the line of a member stands for is kept by steps of pairs.
use Rattle.std.proofs.Common.{◌≡◌, ◌∙◌, ◌⊎◌, inl, inr, ◌<◌, ◌==◌, ◌&&◌, ◌++◌, if◌then◌else◌, ℕ, Bool, true, false, true≢false, List, [], ◌∷◌, map, Option, Some, refl, sym, ap, subst, arith, append-nil}
use Rattle.std.specs.Prelude.{slice_get, slice_set}
use Rattle.std.proofs.lemmas.Bool.{eqb-true}
use Rattle.rtc_plain_media.specs.declared.plain_media_event.PlainMediaEvent.{PlainMediaEvent}
use Rattle.rtc_run_history.specs.Past.{Entry}
use Rattle.rtc_run_history.specs.PairState.{rtc_at}
use Rattle.rtc_run_history.specs.Performs.{sdps_behind}
use Rattle.rtc_run_history.specs.Sides.{same_side, side_of}
use Rattle.rtc_run_history.specs.declared.outcome.Outcome.{Outcome}
use Rattle.rtc_run_history.specs.declared.outcome.Outcome.TheVariants.{Negotiated, Answered, Finished, Done, Wrote, Polled, Refused, NoSuch, Alloc}
use Rattle.rtc_run_history.specs.declared.reply.Reply.{Reply}
use Rattle.rtc_run_history.specs.declared.side.Side.{Side}
use Rattle.rtc_run_history.specs.declared.side.Side.TheVariants.{Left, Right}
use Rattle.rtc_run_history.specs.declared.step.Step.{Step}
use Rattle.rtc_run_laws.specs.ChannelUses.{ChannelUse}
use Rattle.rtc_run_laws.specs.PlainPairs.{PlainPolled}
use Rattle.rtc_run.specs.ProgramPair.{PlainPairState}
use Rattle.rtc_room_laws.specs.Hearing.{heard_in, line_behind, members_after, members_behind, outcome_outputs}
use Rattle.rtc_room_laws.specs.Members.{MemberState, hearing_members}
use Rattle.rtc_room_laws.specs.RoomRuns.{is_step_of}
use Rattle.rtc_room_laws.specs.RoomSteps.{PerformsHere, RoomState}
use Rattle.rtc_room_laws.specs.declared.item.Item.{Item}
use Rattle.rtc_room_laws.specs.declared.room_reply.RoomReply.{RoomReply}
use Rattle.rtc_room_laws.specs.declared.room_step.RoomStep.{RoomStep}
use Rattle.rtc_room_laws.specs.RoomHandsOn.{entry_told, messages_told}
use Rattle.rtc_room_laws.specs.ItemMessages.{LineMessage}
use Rattle.rtc_room_laws.proofs.DueRooms.{written_there}
use Rattle.rtc_room_laws.proofs.ItemTexts.{item_message}
use Rattle.rtc_room_laws.proofs.LineStands.{LineStands, outputs_stand, stands_untaken}
use Rattle.rtc_room_laws.proofs.DueItems.{AreWritable}
use Rattle.rtc_room_laws.proofs.MemberSteps.{ArePlaced, HeardMember, IsFrom, from_heard, heard_writable}
use Rattle.rtc_room_laws.proofs.MembersHear.{some_is, written_at}
use Rattle.rtc_room_laws.proofs.TakenMessages.{taken_by}
use Rattle.rtc_room_laws.proofs.Talks.{talks_acted, talks_behind, talks_on}

-- by what was performed on the pair of the member
abbrev pub Stands : Option ℕ → List (Entry PlainMediaEvent) → (heard : List LineMessage) → Type 0
Stands line past heard = LineStands line past heard (talks_on past [])

-- from one room to the next
abbrev pub KeepsLine : (k : ℕ) → RoomStep → RoomReply → (old : RoomState) → List (Entry PlainMediaEvent) → (new : RoomState) → Type 0
KeepsLine k step reply old performed new =
    (member member' : MemberState) (past : List (Entry PlainMediaEvent)) (heard : List LineMessage)
    → slice_get old.members k ≡ Some member
    → slice_get new.members k ≡ Some member'
    → Stands member.line past heard
    → Stands member'.line (if is_step_of k step then performed ++ past else past) (heard ++ entry_told k step reply old new)

-- ---- nothing is performed

pub stands_same : (line line' : Option ℕ) (past past' : List (Entry PlainMediaEvent)) (heard heard' : List LineMessage) → line' ≡ line → past' ≡ past → heard' ≡ heard
    → Stands line past heard → Stands line' past' heard'
stands_same line line' past past' heard heard' same p h stands =
    subst (λ (o : Option ℕ). Stands o past' heard') (sym same)
    (subst (λ (l : List (Entry PlainMediaEvent)). Stands line l heard') (sym p)
    (subst (λ (l : List LineMessage). Stands line past l) (sym h) stands))

past_if : (b : Bool) (performed past : List (Entry PlainMediaEvent)) → performed ≡ [] → (if b then performed ++ past else past) ≡ past
past_if true performed past none = ap (λ (l : List (Entry PlainMediaEvent)). l ++ past) none
past_if false performed past none = refl

-- nor is anything told
pub quiet_line : (k : ℕ) (step : RoomStep) (reply : RoomReply) (old new : RoomState) (performed : List (Entry PlainMediaEvent)) → performed ≡ []
    → entry_told k step reply old new ≡ [] → ((member member' : MemberState) → slice_get old.members k ≡ Some member
    → slice_get new.members k ≡ Some member' → member'.line ≡ member.line) → KeepsLine k step reply old performed new
quiet_line k step reply old new performed none nothing keeps = λ member member' past heard there there' stands.
    stands_same member.line member'.line past _ heard _ (keeps member member' there there') (past_if (is_step_of k step) performed past none)
    (ap (λ (l : List LineMessage). heard ++ l) nothing ∙ append-nil heard) stands

pub same_room : (k : ℕ) (old new : RoomState) → new ≡ old → (member member' : MemberState) → slice_get old.members k ≡ Some member
    → slice_get new.members k ≡ Some member' → member'.line ≡ member.line
same_room k old new same member member' there there' =
    ap (λ (x : MemberState). x.line) (some_is member' member (sym there' ∙ ap (λ (r : RoomState). slice_get r.members k) same ∙ there))

-- another member is written, or this one with the same line
pub set_line_same : (k j : ℕ) (old new : RoomState) (a v : MemberState) → slice_get old.members j ≡ Some a → v.line ≡ a.line → new.members ≡ slice_set old.members j v
    → (member member' : MemberState) → slice_get old.members k ≡ Some member → slice_get new.members k ≡ Some member' → member'.line ≡ member.line
set_line_same k j old new a v here same set member member' there there' =
    by (written_at old.members j v k member' (sym (ap (λ (ms : List MemberState). slice_get ms k) set) ∙ there'))
  where
    by : ((k ≡ j) × (member' ≡ v)) ⊎ ((k ≡ j → ⊥) × (slice_get old.members k ≡ Some member')) → member'.line ≡ member.line
    by (inl own) =
        ap (λ (x : MemberState). x.line) own.1
        ∙ same
        ∙ ap (λ (x : MemberState). x.line) (some_is a member (sym here ∙ sym (ap (slice_get old.members) own.0) ∙ there))
    by (inr other) = ap (λ (x : MemberState). x.line) (some_is member' member (sym other.1 ∙ there))

-- ---- a step of a pair

-- a member's line behind a step of a pair at the left peer: of this member, or of another one
told_line : (j k : ℕ) (speaker : MemberState) (p : PlainPolled ℕ) (items : List Item) (line : Option ℕ) (members : List MemberState) (member member' : MemberState)
    → AreWritable items → slice_get members j ≡ Some speaker → slice_get members k ≡ Some member
    → slice_get (hearing_members j speaker.room items (slice_set members j (record speaker { line = line }))) k ≡ Some member'
    → ((k ≡ j) × (member'.line ≡ line)) ⊎ ((k ≡ j → ⊥) × (member'.line ≡ member.line))
told_line j k speaker p items line members member member' w here there there' =
    by (written_at members j (record speaker { line = line }) k heard.a heard.there)
  where
    heard : IsFrom HeardMember (slice_set members j (record speaker { line = line })) k member'
    heard = from_heard j speaker.room items (slice_set members j (record speaker { line = line })) k member' w there'

    by : ((k ≡ j) × (heard.a ≡ record speaker { line = line })) ⊎ ((k ≡ j → ⊥) × (slice_get members k ≡ Some heard.a))
        → ((k ≡ j) × (member'.line ≡ line)) ⊎ ((k ≡ j → ⊥) × (member'.line ≡ member.line))
    by (inl own) = inl (own.0, heard.kept.line_is ∙ ap (λ (x : MemberState). x.line) own.1)
    by (inr other) = inr (other.0, heard.kept.line_is ∙ ap (λ (x : MemberState). x.line) (some_is heard.a member (sym other.1 ∙ there)))

abbrev pub LineBehind : (j k : ℕ) (outcome : Outcome PlainMediaEvent) (speaker : MemberState) (p : PlainPolled ℕ) (left : Bool) (member member' : MemberState) → Type 0
LineBehind j k outcome speaker p left member member' =
    ((k ≡ j) × (member'.line ≡ (if left then line_behind p speaker.line (outcome_outputs outcome) else speaker.line)))
    ⊎ ((k ≡ j → ⊥) × (member'.line ≡ member.line))

same_line : (j k : ℕ) (speaker : MemberState) (members : List MemberState) (member member' : MemberState)
    → slice_get members j ≡ Some speaker → slice_get members k ≡ Some member → slice_get members k ≡ Some member'
    → ((k ≡ j) × (member'.line ≡ speaker.line)) ⊎ ((k ≡ j → ⊥) × (member'.line ≡ member.line))
same_line j k speaker members member member' here there there' = by (k == j) refl
  where
    other : (k == j) ≡ false → k ≡ j → ⊥
    other e same = true≢false (sym (let yes : (k == j) ≡ true = grind (arith, same) in yes) ∙ e)

    by : (b : Bool) → (k == j) ≡ b → ((k ≡ j) × (member'.line ≡ speaker.line)) ⊎ ((k ≡ j → ⊥) × (member'.line ≡ member.line))
    by true e =
        let same : k ≡ j = eqb-true k j e in
        inl (same, ap (λ (x : MemberState). x.line) (some_is member' speaker (sym there' ∙ ap (slice_get members) same ∙ here)))
    by false e = inr (other e, ap (λ (x : MemberState). x.line) (some_is member' member (sym there' ∙ there)))

after_line : (j k : ℕ) (outcome : Outcome PlainMediaEvent) (speaker : MemberState) (p : PlainPolled ℕ) (members : List MemberState) (member member' : MemberState)
    → j < 256 → slice_get members j ≡ Some speaker → slice_get members k ≡ Some member → slice_get (members_after outcome j speaker p members) k ≡ Some member'
    → LineBehind j k outcome speaker p true member member'
after_line j k (Polled outputs end) speaker p members member member' few here there there' =
    told_line j k speaker p (heard_in j p speaker.line outputs) (line_behind p speaker.line outputs) members member member'
    (heard_writable j p speaker.line outputs few) here there there'
after_line j k (Negotiated answers made) speaker p members member member' few here there there' = same_line j k speaker members member member' here there there'
after_line j k (Answered text) speaker p members member member' few here there there' = same_line j k speaker members member member' here there there'
after_line j k Finished speaker p members member member' few here there there' = same_line j k speaker members member member' here there there'
after_line j k Done speaker p members member member' few here there there' = same_line j k speaker members member member' here there there'
after_line j k (Wrote taken) speaker p members member member' few here there there' = same_line j k speaker members member member' here there there'
after_line j k (Refused error) speaker p members member member' few here there there' = same_line j k speaker members member member' here there there'
after_line j k NoSuch speaker p members member member' few here there there' = same_line j k speaker members member member' here there there'
after_line j k Alloc speaker p members member member' few here there there' = same_line j k speaker members member member' here there there'

pub behind_line : (j k : ℕ) (side : Side) (outcome : Outcome PlainMediaEvent) (speaker : MemberState) (p : PlainPolled ℕ) (members : List MemberState) (member member' : MemberState)
    → j < 256 → slice_get members j ≡ Some speaker → slice_get members k ≡ Some member → slice_get (members_behind side outcome j speaker p members) k ≡ Some member'
    → LineBehind j k outcome speaker p (same_side side Left) member member'
behind_line j k Left outcome speaker p members member member' few here there there' = after_line j k outcome speaker p members member member' few here there there'
behind_line j k Right outcome speaker p members member member' few here there there' = same_line j k speaker members member member' here there there'

-- what a step of the left peer shows, by which nothing was taken
shown_line : (k : ℕ) (side : Side) (entry : Entry PlainMediaEvent) (p : PlainPolled ℕ) (line : Option ℕ) (past : List (Entry PlainMediaEvent)) (heard : List LineMessage)
    → taken_by entry.step entry.outcome ≡ []
    → (same_side side Left ≡ true → talks_acted entry.step entry.outcome (talks_on past []) ≡ talks_behind (outcome_outputs entry.outcome) (talks_on past []))
    → Stands line past heard
    → LineStands (if same_side side Left then line_behind p line (outcome_outputs entry.outcome) else line) (entry ∷ past)
    (heard ++ (if same_side side Left then map item_message (heard_in k p line (outcome_outputs entry.outcome)) else []))
    (if same_side side Left then talks_acted entry.step entry.outcome (talks_on past []) else talks_on past [])
shown_line k Left entry p line past heard untaken acted stands =
    subst (λ (l : List ChannelUse). LineStands (line_behind p line (outcome_outputs entry.outcome)) (entry ∷ past) (heard ++ map item_message (heard_in k p line (outcome_outputs entry.outcome))) l)
    (sym (acted refl))
    (stands_untaken (line_behind p line (outcome_outputs entry.outcome)) entry past (heard ++ map item_message (heard_in k p line (outcome_outputs entry.outcome)))
    (talks_behind (outcome_outputs entry.outcome) (talks_on past [])) untaken
    (outputs_stand k p (outcome_outputs entry.outcome) line past heard (talks_on past []) stands))
shown_line k Right entry p line past heard untaken acted stands =
    stands_untaken line entry past (heard ++ []) (talks_on past []) untaken
    (subst (λ (l : List LineMessage). LineStands line past l (talks_on past [])) (sym (append-nil heard)) stands)

pub performs_line : (j k : ℕ) (room_step : RoomStep) (room_reply : RoomReply) (step : Step) (reply : Reply PlainMediaEvent) (old new : RoomState)
    (performed : List (Entry PlainMediaEvent)) → ArePlaced old.members → is_step_of k room_step ≡ (j == k) → taken_by step reply.outcome ≡ []
    → ((talks : List ChannelUse) → same_side (side_of step) Left ≡ true → talks_acted step reply.outcome talks ≡ talks_behind (outcome_outputs reply.outcome) talks)
    → entry_told k room_step room_reply old new
    ≡ (if (j == k) && same_side (side_of step) Left then messages_told k (slice_get old.members k) (slice_get new.pairs k) reply else [])
    → PerformsHere j step reply old performed new → KeepsLine k room_step room_reply old performed new
performs_line j k room_step room_reply step reply old new performed few of untaken acted told h = λ member member' past heard there there' stands.
    by member member' past heard there stands
    (behind_line j k (side_of step) reply.outcome h.member (rtc_at (side_of step) h.pair.after) old.members member member' (few j h.member h.here) h.here there
    (sym (ap (λ (ms : List MemberState). slice_get ms k) h.members_are) ∙ there'))
  where
    left : Bool
    left = same_side (side_of step) Left

    peer : PlainPolled ℕ
    peer = rtc_at (side_of step) h.pair.after

    entry : Entry PlainMediaEvent
    entry = record { step = step; outcome = reply.outcome; table = reply.table; made = sdps_behind h.pair.before.sdps h.pair.after.sdps }

    after_there : slice_get new.pairs j ≡ Some h.pair.after
    after_there = ap (λ (ps : List PlainPairState). slice_get ps j) h.pair.pairs_are ∙ written_there old.pairs j h.pair.before h.pair.after h.pair.there

    left_peer : (side : Side) (line : Option ℕ)
        → (if same_side side Left then map item_message (heard_in k h.pair.after.left line (outcome_outputs reply.outcome)) else [])
        ≡ (if same_side side Left then map item_message (heard_in k (rtc_at side h.pair.after) line (outcome_outputs reply.outcome)) else [])
    left_peer Left line = refl
    left_peer Right line = refl

    not_own : (k ≡ j → ⊥) → (j == k) ≡ false
    not_own other = by_not (j == k) refl
      where
        by_not : (b : Bool) → (j == k) ≡ b → b ≡ false
        by_not true e = absurd (other (sym (eqb-true j k e)))
        by_not false e = refl

    by : (member member' : MemberState) (past : List (Entry PlainMediaEvent)) (heard : List LineMessage) → slice_get old.members k ≡ Some member
        → Stands member.line past heard → LineBehind j k reply.outcome h.member peer left member member'
        → Stands member'.line (if is_step_of k room_step then performed ++ past else past) (heard ++ entry_told k room_step room_reply old new)
    by member member' past heard there stands (inl own) =
        let mine : (j == k) ≡ true = (let same : k ≡ j = own.0 in grind (arith, same)) in
        let this : member ≡ h.member = some_is member h.member (sym there ∙ ap (slice_get old.members) own.0 ∙ h.here) in
        let told_is : entry_told k room_step room_reply old new
        ≡ (if left then map item_message (heard_in k peer member.line (outcome_outputs reply.outcome)) else []) =
        told
        ∙ ap (λ (b : Bool). if b && left then messages_told k (slice_get old.members k) (slice_get new.pairs k) reply else []) mine
        ∙ ap (λ (o : Option MemberState). if left then messages_told k o (slice_get new.pairs k) reply else []) there
        ∙ ap (λ (o : Option PlainPairState). if left then messages_told k (Some member) o reply else []) (ap (slice_get new.pairs) own.0 ∙ after_there)
        ∙ left_peer (side_of step) member.line in
        let entered : (if is_step_of k room_step then performed ++ past else past) ≡ entry ∷ past =
        ap (λ (b : Bool). if b then performed ++ past else past) (of ∙ mine)
        ∙ ap (λ (l : List (Entry PlainMediaEvent)). l ++ past) h.pair.performed_is in
        stands_same (if left then line_behind peer member.line (outcome_outputs reply.outcome) else member.line) member'.line (entry ∷ past) _
        (heard ++ (if left then map item_message (heard_in k peer member.line (outcome_outputs reply.outcome)) else [])) _
        (own.1 ∙ ap (λ (x : MemberState). if left then line_behind peer x.line (outcome_outputs reply.outcome) else x.line) (sym this))
        entered (ap (λ (l : List LineMessage). heard ++ l) told_is)
        (shown_line k (side_of step) entry peer member.line past heard untaken (acted (talks_on past [])) stands)
    by member member' past heard there stands (inr other) =
        stands_same member.line member'.line past _ heard _ other.1
        (ap (λ (b : Bool). if b then performed ++ past else past) (of ∙ not_own other.0))
        (ap (λ (l : List LineMessage). heard ++ l)
        (told ∙ ap (λ (b : Bool). if b && left then messages_told k (slice_get old.members k) (slice_get new.pairs k) reply else []) (not_own other.0))
        ∙ append-nil heard)
        stands
