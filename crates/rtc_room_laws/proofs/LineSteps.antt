-- What the line of a member stands for is kept by each step of a room.
use Rattle.std.proofs.Common.{◌≡◌, ◌∙◌, ◌⊎◌, inl, inr, ◌==◌, ◌++◌, if◌then◌else◌, ℕ, zero, suc, Bool, true, false, true≢false, List, [], ◌∷◌, take, drop, Option, Some, None, refl, sym, ap, subst, arith, append-nil}
use Rattle.std.specs.Prelude.{slice_get}
use Rattle.std.specs.declared.alloc.Global.{Global}
use Rattle.std.proofs.lemmas.Bool.{eqb-true}
use Rattle.rtc_plain_media.specs.declared.plain_media_event.PlainMediaEvent.{PlainMediaEvent}
use Rattle.rtc_run_history.specs.Past.{Entry}
use Rattle.rtc_run_history.specs.Sides.{same_side, side_of}
use Rattle.rtc_run_history.specs.declared.outcome.Outcome.{Outcome}
use Rattle.rtc_run_history.specs.declared.side.Side.TheVariants.{Left, Right}
use Rattle.rtc_run_history.specs.declared.step.Step.{Step}
use Rattle.rtc_run_history.specs.declared.step.Step.TheVariants.{Negotiate, AcceptOffer, AcceptAnswer, Time, Datagram, Poll, Drain}
use Rattle.rtc_run_history.specs.declared.step.Step.TheVariants.{Write, CloseChannel, Close, Rollback, ForeignOffer, ForeignAnswer, Raw}
use Rattle.rtc_run_laws.specs.ChannelUses.{ChannelUse}
use Rattle.rtc_run.specs.ProgramPair.{PlainPairState}
use Rattle.rtc_room_laws.specs.Forwarding.{AreTaken, AreWritten, Forwards, NotOpen, NotTaken, WriteEnd, WriteRefused, end_outcome, write_of}
use Rattle.rtc_room_laws.specs.Hearing.{outcome_outputs}
use Rattle.rtc_room_laws.specs.Members.{MemberState, gone_member, is_here, new_member}
use Rattle.rtc_room_laws.specs.RoomSteps.{ForwardsHere, JoinsRoom, RoomState, TakesHere, TakesOf, TakesStep, is_allowed}
use Rattle.rtc_room_laws.specs.declared.item.Item.{Item}
use Rattle.rtc_room_laws.specs.declared.room_reply.RoomReply.{RoomReply}
use Rattle.rtc_room_laws.specs.declared.room_reply.RoomReply.TheVariants as replied
use Rattle.rtc_room_laws.specs.declared.room_step.RoomStep.{RoomStep}
use Rattle.rtc_room_laws.specs.declared.room_step.RoomStep.TheVariants.{Join, Leave, Perform, Arrive, Forward}
use Rattle.rtc_room_laws.specs.RoomHandsOn.{entry_told, messages_told}
use Rattle.rtc_room_laws.specs.ItemMessages.{LineMessage}
use Rattle.rtc_room_laws.proofs.DueRooms.{and_true, no_member_told}
use Rattle.rtc_room_laws.proofs.LineStands.{HasFirst, stands_taken, stands_untaken}
use Rattle.rtc_room_laws.proofs.MemberSteps.{ArePlaced}
use Rattle.rtc_room_laws.proofs.MembersHear.{some_is, written_at}
use Rattle.rtc_room_laws.proofs.TakenMessages.{allowed_takes_none, taken_by}
use Rattle.rtc_room_laws.proofs.Talks.{talks_acted, talks_behind, talks_entered, talks_on}
use Rattle.rtc_room_laws.proofs.LineMoves.{KeepsLine, Stands, performs_line, quiet_line, same_room, set_line_same, stands_same}

-- ---- a forward

taken_line : (c : ℕ) (items : List Item) (performed past : List (Entry PlainMediaEvent)) (heard : List LineMessage) → AreTaken c items performed
    → HasFirst c past heard (talks_on past []) → HasFirst c (performed ++ past) heard (talks_on (performed ++ past) [])
taken_line c items [] past heard h first = first
taken_line c items (entry ∷ performed) past heard h first =
    stands_taken c h.1 entry (performed ++ past) heard h.3 h.4 (taken_line c h.0 performed past heard h.5 first)

end_talks : (end : WriteEnd) (c : ℕ) (item : Item) (talks : List ChannelUse) → talks_acted (write_of c item) (end_outcome end) talks ≡ talks
end_talks NotTaken c item talks = refl
end_talks NotOpen c item talks = refl
end_talks (WriteRefused error) c item talks = refl

end_takes : (end : WriteEnd) (c : ℕ) (item : Item) → taken_by (write_of c item) (end_outcome end) ≡ []
end_takes NotTaken c item = refl
end_takes NotOpen c item = refl
end_takes (WriteRefused error) c item = refl

written_line : (c : ℕ) (items : List Item) (end : Option WriteEnd) (left : List Item) (performed past : List (Entry PlainMediaEvent)) (heard : List LineMessage)
    → AreWritten c items end left performed → HasFirst c past heard (talks_on past []) → HasFirst c (performed ++ past) heard (talks_on (performed ++ past) [])
written_line c items None left performed past heard h first = taken_line c items performed past heard h.0 first
written_line c items (Some end) [] performed past heard h first = absurd h
written_line c items (Some end) (next ∷ left) [] past heard h first = absurd h
written_line c items (Some end) (next ∷ left) (entry ∷ performed) past heard h first =
    let none : taken_by entry.step entry.outcome ≡ [] =
    ap (λ (step : Step). taken_by step entry.outcome) h.1 ∙ ap (taken_by (write_of c next)) h.2 ∙ end_takes end c next in
    let acted : talks_entered entry (talks_on (performed ++ past) []) ≡ talks_on (performed ++ past) [] =
    ap (λ (step : Step). if same_side (side_of step) Left then talks_acted step entry.outcome (talks_on (performed ++ past) []) else talks_on (performed ++ past) []) h.1
    ∙ ap (λ (outcome : Outcome PlainMediaEvent). talks_acted (write_of c next) outcome (talks_on (performed ++ past) [])) h.2
    ∙ end_talks end c next (talks_on (performed ++ past) []) in
    subst (λ (l : List ChannelUse). HasFirst c (entry ∷ (performed ++ past)) heard l) (sym acted)
    (stands_untaken (Some c) entry (performed ++ past) heard (talks_on (performed ++ past) []) none (taken_line c items performed past heard h.0 first))

forwarded_line : (out : Bool) (line : Option ℕ) (member : MemberState) (before : PlainPairState) (reply : RoomReply) (performed : List (Entry PlainMediaEvent))
    (member' : MemberState) (after : PlainPairState) (past : List (Entry PlainMediaEvent)) (heard : List LineMessage) → member.line ≡ line
    → Forwards out line member before reply performed member' after → Stands line past heard → Stands member'.line (performed ++ past) heard
forwarded_line true line member before replied.PutOut performed member' after past heard is h stands =
    stands_same line member'.line past _ heard heard (ap (λ (x : MemberState). x.line) h.1 ∙ is)
    (ap (λ (l : List (Entry PlainMediaEvent)). l ++ past) h.0) refl stands
forwarded_line false None member before (replied.Forwarded taken) performed member' after past heard is h stands =
    stands_same None member'.line past _ heard heard (ap (λ (x : MemberState). x.line) h.1 ∙ is)
    (ap (λ (l : List (Entry PlainMediaEvent)). l ++ past) h.0) refl stands
forwarded_line false (Some c) member before (replied.Forwarded taken) performed member' after past heard is h stands =
    subst (λ (o : Option ℕ). Stands o (performed ++ past) heard) (sym (ap (λ (x : MemberState). x.line) h.3 ∙ is))
    (written_line c (take taken member.queue) h.0 (drop taken member.queue) performed past heard h.2.written stands)
forwarded_line false (Some c) member before replied.PutOut performed member' after past heard is h stands =
    subst (λ (o : Option ℕ). Stands o (performed ++ past) heard) (sym (ap (λ (x : MemberState). x.line) h.3 ∙ is))
    (written_line c (take h.0 member.queue) (Some (WriteRefused h.1)) (drop h.0 member.queue) performed past heard h.2.written stands)
forwarded_line out line member before reply performed member' after past heard is h stands = absurd h

forwards_line : (j k : ℕ) (reply : RoomReply) (old new : RoomState) (performed : List (Entry PlainMediaEvent)) → ForwardsHere j reply old performed new
    → KeepsLine k (Forward j) reply old performed new
forwards_line j k reply old new performed h = λ member member' past heard there there' stands.
    subst (λ (l : List LineMessage). Stands member'.line (if j == k then performed ++ past else past) l) (sym (append-nil heard))
    (by member member' past heard there stands
    (written_at old.members j h.member' k member' (sym (ap (λ (ms : List MemberState). slice_get ms k) h.members_are) ∙ there')) (j == k) refl)
  where
    by : (member member' : MemberState) (past : List (Entry PlainMediaEvent)) (heard : List LineMessage) → slice_get old.members k ≡ Some member
        → Stands member.line past heard → ((k ≡ j) × (member' ≡ h.member')) ⊎ ((k ≡ j → ⊥) × (slice_get old.members k ≡ Some member'))
        → (own : Bool) → (j == k) ≡ own → Stands member'.line (if own then performed ++ past else past) heard
    by member member' past heard there stands (inl own) true e =
        let this : member ≡ h.member = some_is member h.member (sym there ∙ ap (slice_get old.members) own.0 ∙ h.here) in
        subst (λ (x : MemberState). Stands x.line (performed ++ past) heard) (sym own.1)
        (forwarded_line h.member.is_put_out h.member.line h.member h.before reply performed h.member' h.after past heard refl h.forwards
        (subst (λ (x : MemberState). Stands x.line past heard) this stands))
    by member member' past heard there stands (inl own) false e =
        absurd (true≢false (sym (let same : k ≡ j = own.0 in let yes : (j == k) ≡ true = grind (arith, same) in yes) ∙ e))
    by member member' past heard there stands (inr other) true e = absurd (other.0 (sym (eqb-true j k e)))
    by member member' past heard there stands (inr other) false e =
        stands_same member.line member'.line past past heard heard (ap (λ (x : MemberState). x.line) (some_is member' member (sym other.1 ∙ there))) refl refl stands

-- ---- any step

-- a step that a member may perform at the left peer shows its outputs, and writes nothing
allowed_talks : (step : Step) (outcome : Outcome PlainMediaEvent) → is_allowed step ≡ true → (talks : List ChannelUse) → same_side (side_of step) Left ≡ true
    → talks_acted step outcome talks ≡ talks_behind (outcome_outputs outcome) talks
allowed_talks (Negotiate at ops apply) outcome h talks left = refl
allowed_talks (AcceptOffer at offer) outcome h talks left = refl
allowed_talks (AcceptAnswer at token answer) outcome h talks left = refl
allowed_talks (Time at now) outcome h talks left = refl
allowed_talks (Datagram at packet now) outcome h talks left = refl
allowed_talks (Poll at) outcome h talks left = refl
allowed_talks (Drain at) outcome h talks left = refl
allowed_talks (Write Left channel binary bytes) outcome h talks left = absurd (true≢false (sym h))
allowed_talks (Write Right channel binary bytes) outcome h talks left = absurd (true≢false (sym left))
allowed_talks (CloseChannel at channel) outcome h talks left = refl
allowed_talks (Close at) outcome h talks left = refl
allowed_talks (Rollback at token) outcome h talks left = refl
allowed_talks (ForeignOffer at text) outcome h talks left = refl
allowed_talks (ForeignAnswer at token text) outcome h talks left = refl
allowed_talks (Raw at bytes now) outcome h talks left = refl

takes_here_line : (k : ℕ) (step : RoomStep) (reply : RoomReply) (old new : RoomState) (performed : List (Entry PlainMediaEvent))
    → ArePlaced old.members → TakesHere step reply old performed new → KeepsLine k step reply old performed new
takes_here_line k (Leave j) replied.Left old new performed few h =
    quiet_line k (Leave j) replied.Left old new performed h.performed_is refl
    (set_line_same k j old new h.member (gone_member h.member) h.here refl (ap (λ (r : RoomState). r.members) h.room_is))
takes_here_line k (Perform j step) replied.NotAllowed old new performed few h =
    quiet_line k (Perform j step) replied.NotAllowed old new performed h.1.performed_is refl (same_room k old new h.1.room_is)
takes_here_line k (Perform j step) (replied.Performed reply) old new performed few h =
    performs_line j k (Perform j step) (replied.Performed reply) step reply old new performed few refl (allowed_takes_none step reply.outcome h.0)
    (allowed_talks step reply.outcome h.0) refl h.1
takes_here_line k (Arrive j packet now) replied.NoMember old new performed few h =
    quiet_line k (Arrive j packet now) replied.NoMember old new performed h.3.performed_is refl (same_room k old new h.3.room_is)
takes_here_line k (Arrive j packet now) (replied.Performed reply) old new performed few h =
    performs_line j k (Arrive j packet now) (replied.Performed reply) (Datagram Left packet now) reply old new performed few refl refl (λ talks left. refl)
    (ap (λ (b : Bool). if b then messages_told k (slice_get old.members k) (slice_get new.pairs k) reply else []) (sym (and_true (j == k)))) h.1
takes_here_line k (Forward j) reply old new performed few h = forwards_line j k reply old new performed h
takes_here_line k step reply old new performed few h = absurd h

takes_of_line : (k : ℕ) (here : Bool) (step : RoomStep) (reply : RoomReply) (old new : RoomState) (performed : List (Entry PlainMediaEvent))
    → ArePlaced old.members → TakesOf here step reply old performed new → KeepsLine k step reply old performed new
takes_of_line k false step reply old new performed few h =
    quiet_line k step reply old new performed h.1.performed_is
    (ap (λ (r : RoomReply). entry_told k step r old new) h.0 ∙ no_member_told k step old new) (same_room k old new h.1.room_is)
takes_of_line k true step reply old new performed few h = takes_here_line k step reply old new performed few h

joins_line : (k : ℕ) (alloc : Global) (room : ℕ) (reply : RoomReply) (old new : RoomState) (performed : List (Entry PlainMediaEvent))
    → JoinsRoom alloc room old reply new → performed ≡ [] → KeepsLine k (Join room) reply old performed new
joins_line k alloc room (replied.Joined j) old new performed h none =
    quiet_line k (Join room) (replied.Joined j) old new performed none refl (λ member member' there there'.
    ap (λ (x : MemberState). x.line)
    (some_is member' member (sym there' ∙ ap (λ (r : RoomState). slice_get r.members k) h.4 ∙ sym (kept_at old.members (new_member j room) k member there) ∙ there)))
  where
    kept_at : {A : Type 0} (xs : List A) (x : A) (i : ℕ) (y : A) → slice_get xs i ≡ Some y → slice_get xs i ≡ slice_get (xs ++ x ∷ []) i
    kept_at [] x i y there = absurd (let bad : None ≡ Some y = there in cc)
    kept_at (z ∷ xs) x zero y there = refl
    kept_at (z ∷ xs) x (suc i) y there = kept_at xs x i y there
joins_line k alloc room replied.Full old new performed h none =
    quiet_line k (Join room) replied.Full old new performed none refl (same_room k old new h.1)
joins_line k alloc room reply old new performed h none = absurd h

pub takes_line : (k : ℕ) (alloc : Global) (step : RoomStep) (reply : RoomReply) (old new : RoomState) (performed : List (Entry PlainMediaEvent))
    → ArePlaced old.members → TakesStep alloc step reply old performed new → KeepsLine k step reply old performed new
takes_line k alloc (Join room) reply old new performed few h = joins_line k alloc room reply old new performed h.0 h.1
takes_line k alloc (Leave j) reply old new performed few h = takes_of_line k (is_here j old.members) (Leave j) reply old new performed few h
takes_line k alloc (Perform j step) reply old new performed few h = takes_of_line k (is_here j old.members) (Perform j step) reply old new performed few h
takes_line k alloc (Arrive j packet now) reply old new performed few h =
    takes_of_line k (is_here j old.members) (Arrive j packet now) reply old new performed few h
takes_line k alloc (Forward j) reply old new performed few h = takes_of_line k (is_here j old.members) (Forward j) reply old new performed few h
