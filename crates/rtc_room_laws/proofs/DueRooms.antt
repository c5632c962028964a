-- In each run of a room, what was sent to a member and what waits for it are what was heard of each other one while both were in the room.
use Rattle.std.proofs.Common.{◌≡◌, ◌≢◌, ◌∙◌, ◌⊎◌, inl, inr, ◌==◌, ◌&&◌, ◌++◌, if◌then◌else◌, ℕ, zero, suc, Bool, true, false, List, [], ◌∷◌, map, take, drop, Option, Some, None, refl, sym, ap, subst, arith, append-nil}
use Rattle.std.specs.Prelude.{slice_get, slice_set}
use Rattle.std.specs.declared.alloc.Global.{Global}
use Rattle.std.proofs.lemmas.Bool.{eqb-true}
use Rattle.rtc_plain_media.specs.declared.plain_media_event.PlainMediaEvent.{PlainMediaEvent}
use Rattle.rtc_run_history.specs.declared.reply.Reply.{Reply}
use Rattle.rtc_run_history.specs.declared.side.Side.{Side}
use Rattle.rtc_run_history.specs.declared.side.Side.TheVariants.{Left, Right}
use Rattle.rtc_run_history.specs.declared.step.Step.{Step}
use Rattle.rtc_run_history.specs.declared.step.Step.TheVariants.{Datagram}
use Rattle.rtc_run_history.specs.Past.{Entry}
use Rattle.rtc_run_history.specs.PairState.{rtc_at}
use Rattle.rtc_run_history.specs.Sides.{same_side, side_of}
use Rattle.rtc_run.specs.ProgramPair.{PlainPairState}
use Rattle.rtc_room_laws.specs.Forwarding.{Forwards, WriteRefused}
use Rattle.rtc_run_laws.specs.PlainPairs.{PlainPolled}
use Rattle.rtc_room_laws.specs.RoomHandsOn.{are_together, entry_told, messages_told}
use Rattle.rtc_room_laws.specs.Hearing.{heard_in, outcome_outputs}
use Rattle.rtc_room_laws.specs.ItemMessages.{LineMessage}
use Rattle.rtc_room_laws.specs.Members.{MemberState, gone_member, is_here, new_member}
use Rattle.rtc_room_laws.specs.RoomRuns.{is_step_of}
use Rattle.rtc_room_laws.specs.RoomSteps.{ForwardsHere, JoinsRoom, PerformsHere, RoomState, TakesHere, TakesOf, TakesStep}
use Rattle.rtc_room_laws.specs.declared.item.Item.{Item}
use Rattle.rtc_room_laws.specs.declared.room_reply.RoomReply.{RoomReply}
use Rattle.rtc_room_laws.specs.declared.room_reply.RoomReply.TheVariants as replied
use Rattle.rtc_room_laws.specs.declared.room_step.RoomStep.{RoomStep}
use Rattle.rtc_room_laws.specs.declared.room_step.RoomStep.TheVariants.{Join, Leave, Perform, Arrive, Forward}
use Rattle.rtc_room_laws.proofs.DueItems.{AreWritable, IsDue, due_gone, due_refused, due_sent}
use Rattle.rtc_room_laws.proofs.ItemTexts.{written_message}
use Rattle.rtc_room_laws.proofs.HeardSteps.{behind_due, present_stays, told_together}
use Rattle.rtc_room_laws.proofs.MembersHear.{some_is, told_of, written_at}
use Rattle.rtc_room_laws.proofs.TakenMessages.{allowed_takes_none, are_written_messages, taken_by, taken_messages}

-- What is kept for one listener and one speaker from a room to the next, by what was performed on the pair of the listener and what the
-- entry tells of the speaker.
abbrev pub KeepsDue : (s m : ℕ) → RoomStep → RoomReply → (old : RoomState) → List (Entry PlainMediaEvent) → (new : RoomState) → Type 0
KeepsDue s m step reply old performed new =
    (listener listener' : MemberState) (sent heard : List LineMessage)
    → slice_get old.members m ≡ Some listener
    → slice_get new.members m ≡ Some listener'
    → listener.number ≡ m
    → AreWritable listener.queue
    → IsDue s listener sent heard
    → IsDue s listener' (sent ++ (if is_step_of m step then taken_messages performed else []))
    (heard ++ (if are_together s m old then entry_told s step reply old new else []))

-- ---- nothing is performed, and nothing told

pub empty_if : (b : Bool) (l : List LineMessage) → l ≡ [] → (if b then l else []) ≡ []
empty_if true l none = none
empty_if false l none = refl

still_due : (s : ℕ) (listener listener' : MemberState) (sent more heard told : List LineMessage) → IsDue s listener' sent heard → more ≡ [] → told ≡ []
    → IsDue s listener' (sent ++ more) (heard ++ told)
still_due s listener listener' sent more heard told due none nothing =
    subst (λ (l : List LineMessage). IsDue s listener' (sent ++ more) l) (sym (ap (λ (l : List LineMessage). heard ++ l) nothing ∙ append-nil heard))
    (subst (λ (l : List LineMessage). IsDue s listener' l heard) (sym (ap (λ (l : List LineMessage). sent ++ l) none ∙ append-nil sent)) due)

same_due : (s m : ℕ) (step : RoomStep) (reply : RoomReply) (old new : RoomState) (performed : List (Entry PlainMediaEvent))
    → new ≡ old → performed ≡ [] → entry_told s step reply old new ≡ [] → KeepsDue s m step reply old performed new
same_due s m step reply old new performed same none nothing = λ listener listener' sent heard there there' number small due.
    let own : listener ≡ listener' = some_is listener listener' (sym there ∙ sym (ap (λ (r : RoomState). slice_get r.members m) same) ∙ there') in
    still_due s listener listener' sent _ heard _ (subst (λ (l : MemberState). IsDue s l sent heard) own due)
    (empty_if (is_step_of m step) (taken_messages performed) (ap taken_messages none))
    (empty_if (are_together s m old) (entry_told s step reply old new) nothing)

-- ---- a member leaves

leaves_due : (s m k : ℕ) (reply : RoomReply) (member : MemberState) (old new : RoomState) (performed : List (Entry PlainMediaEvent))
    → slice_get old.members k ≡ Some member → new.members ≡ slice_set old.members k (gone_member member) → performed ≡ []
    → KeepsDue s m (Leave k) reply old performed new
leaves_due s m k reply member old new performed here left none = λ listener listener' sent heard there there' number small due.
    let wrote = written_at old.members k (gone_member member) m listener' (sym (ap (λ (ms : List MemberState). slice_get ms m) left) ∙ there') in
    still_due s listener listener' sent _ heard _ (by listener listener' sent heard there due wrote)
    (empty_if (is_step_of m (Leave k)) (taken_messages performed) (ap taken_messages none))
    (empty_if (are_together s m old) [] refl)
  where
    by : (listener listener' : MemberState) (sent heard : List LineMessage) → slice_get old.members m ≡ Some listener → IsDue s listener sent heard
        → ((m ≡ k) × (listener' ≡ gone_member member)) ⊎ ((m ≡ k → ⊥) × (slice_get old.members m ≡ Some listener')) → IsDue s listener' sent heard
    by listener listener' sent heard there due (inl own) =
        let same : listener ≡ member = some_is listener member (sym there ∙ ap (slice_get old.members) own.0 ∙ here) in
        subst (λ (l : MemberState). IsDue s l sent heard) (sym own.1)
        (due_gone s member sent heard (subst (λ (l : MemberState). IsDue s l sent heard) same due))
    by listener listener' sent heard there due (inr other) =
        subst (λ (l : MemberState). IsDue s l sent heard) (some_is listener listener' (sym there ∙ other.1)) due

-- ---- what waits is sent

writable_front : (n : ℕ) (items : List Item) → AreWritable items → AreWritable (take n items)
writable_front zero items small = tt
writable_front (suc n) [] small = tt
writable_front (suc n) (item ∷ items) small = (small.0, writable_front n items small.1)

-- the member that is sent what waits, by what was performed
forwarded_due : (s : ℕ) (out : Bool) (line : Option ℕ) (member : MemberState) (before : PlainPairState) (reply : RoomReply)
    (performed : List (Entry PlainMediaEvent)) (member' : MemberState) (after : PlainPairState) (sent heard : List LineMessage)
    → member.is_put_out ≡ out → member.has_left ≡ false → AreWritable member.queue → IsDue s member sent heard
    → Forwards out line member before reply performed member' after → IsDue s member' (sent ++ taken_messages performed) heard
forwarded_due s true line member before replied.PutOut performed member' after sent heard out here small due h =
    unsent s member member' performed sent heard h.0 h.1 due
  where
    unsent : (s : ℕ) (member member' : MemberState) (performed : List (Entry PlainMediaEvent)) (sent heard : List LineMessage) → performed ≡ [] → member' ≡ member
        → IsDue s member sent heard → IsDue s member' (sent ++ taken_messages performed) heard
    unsent s member member' performed sent heard none same due =
        subst (λ (l : List LineMessage). IsDue s member' l heard) (sym (ap (λ (l : List (Entry PlainMediaEvent)). sent ++ taken_messages l) none ∙ append-nil sent))
        (subst (λ (l : MemberState). IsDue s l sent heard) (sym same) due)
forwarded_due s false None member before (replied.Forwarded taken) performed member' after sent heard out here small due h =
    subst (λ (l : List LineMessage). IsDue s member' l heard) (sym (ap (λ (l : List (Entry PlainMediaEvent)). sent ++ taken_messages l) h.0 ∙ append-nil sent))
    (subst (λ (l : MemberState). IsDue s l sent heard) (sym h.1) due)
forwarded_due s false (Some line) member before (replied.Forwarded taken) performed member' after sent heard out here small due h =
    subst (λ (l : List LineMessage). IsDue s member' (sent ++ l) heard)
    (sym (are_written_messages line (take taken member.queue) h.0 (drop taken member.queue) performed h.2.written))
    (subst (λ (l : MemberState). IsDue s l (sent ++ map written_message (take taken member.queue)) heard) (sym h.3)
    (due_sent s taken member sent heard (writable_front taken member.queue small) out here due))
forwarded_due s false (Some line) member before replied.PutOut performed member' after sent heard out here small due h =
    subst (λ (l : List LineMessage). IsDue s member' (sent ++ l) heard)
    (sym (are_written_messages line (take h.0 member.queue) (Some (WriteRefused h.1)) (drop h.0 member.queue) performed h.2.written))
    (subst (λ (l : MemberState). IsDue s l (sent ++ map written_message (take h.0 member.queue)) heard) (sym h.3)
    (due_refused s h.0 member sent heard (writable_front h.0 member.queue small) out here due))
forwarded_due s out line member before reply performed member' after sent heard is_out here small due h = absurd h

-- ---- a step of a pair

pub written_there : {A : Type 0} (xs : List A) (k : ℕ) (x y : A) → slice_get xs k ≡ Some x → slice_get (slice_set xs k y) k ≡ Some y
written_there [] k x y there = absurd (let bad : None ≡ Some x = there in cc)
written_there (z ∷ xs) zero x y there = refl
written_there (z ∷ xs) (suc k) x y there = written_there xs k x y there

performs_due : (s m k : ℕ) (room_step : RoomStep) (room_reply : RoomReply) (step : Step) (reply : Reply PlainMediaEvent) (old new : RoomState)
    (performed : List (Entry PlainMediaEvent)) → s ≢ m → is_here k old.members ≡ true
    → taken_by step reply.outcome ≡ []
    → entry_told s room_step room_reply old new
    ≡ (if (k == s) && same_side (side_of step) Left then messages_told s (slice_get old.members s) (slice_get new.pairs s) reply else [])
    → PerformsHere k step reply old performed new → KeepsDue s m room_step room_reply old performed new
performs_due s m k room_step room_reply step reply old new performed apart is_here untaken told_is h = λ listener listener' sent heard there there' number small due.
    let peer : PlainPolled ℕ = rtc_at (side_of step) h.pair.after in
    let after_there : slice_get new.pairs k ≡ Some h.pair.after =
    ap (λ (ps : List PlainPairState). slice_get ps k) h.pair.pairs_are ∙ written_there old.pairs k h.pair.before h.pair.after h.pair.there in
    let present : h.member.has_left ≡ false = present_stays (slice_get old.members k) h.member is_here h.here in
    let behind = behind_due s m k h.member listener listener' old.members peer sent heard apart h.here there number due (side_of step) reply.outcome
    (ap (λ (ms : List MemberState). slice_get ms m) (sym h.members_are) ∙ there') in
    let none : (if is_step_of m room_step then taken_messages performed else []) ≡ [] =
    empty_if (is_step_of m room_step) (taken_messages performed)
    (ap taken_messages h.pair.performed_is ∙ untaken) in
    let sides : (if same_side (side_of step) Left then heard_in k peer h.member.line (outcome_outputs reply.outcome) else [])
    ≡ (if same_side (side_of step) Left then heard_in k h.pair.after.left h.member.line (outcome_outputs reply.outcome) else []) =
    left_peer (side_of step) h.pair.after in
    let told : (if are_together s m old then entry_told s room_step room_reply old new else [])
    ≡ told_of s k h.member listener (if same_side (side_of step) Left then heard_in k peer h.member.line (outcome_outputs reply.outcome) else []) =
    ap (λ (l : List LineMessage). if are_together s m old then l else []) told_is
    ∙ told_together s k (same_side (side_of step) Left) reply h.member listener old.members new.pairs h.pair.after m h.here there present after_there
    ∙ ap (told_of s k h.member listener) (sym sides) in
    subst (λ (l : List LineMessage). IsDue s listener' (sent ++ (if is_step_of m room_step then taken_messages performed else [])) (heard ++ l)) (sym told)
    (subst (λ (l : List LineMessage). IsDue s listener' l (heard ++ told_of s k h.member listener
    (if same_side (side_of step) Left then heard_in k peer h.member.line (outcome_outputs reply.outcome) else [])))
    (sym (ap (λ (l : List LineMessage). sent ++ l) none ∙ append-nil sent)) behind)
  where
    left_peer : (side : Side) (after : PlainPairState)
        → (if same_side side Left then heard_in k (rtc_at side after) h.member.line (outcome_outputs reply.outcome) else [])
        ≡ (if same_side side Left then heard_in k after.left h.member.line (outcome_outputs reply.outcome) else [])
    left_peer Left after = refl
    left_peer Right after = refl

-- ---- a forward

pub and_true : (b : Bool) → (b && true) ≡ b
and_true true = refl
and_true false = refl

forwards_due : (s m k : ℕ) (reply : RoomReply) (old new : RoomState) (performed : List (Entry PlainMediaEvent)) → is_here k old.members ≡ true
    → ForwardsHere k reply old performed new → KeepsDue s m (Forward k) reply old performed new
forwards_due s m k reply old new performed is_here h = λ listener listener' sent heard there there' number small due.
    subst (λ (l : List LineMessage). IsDue s listener' (sent ++ (if k == m then taken_messages performed else [])) l)
    (sym (ap (λ (l : List LineMessage). heard ++ l) (empty_if (are_together s m old) [] refl) ∙ append-nil heard))
    (by listener listener' sent heard there small due
    (written_at old.members k h.member' m listener' (sym (ap (λ (ms : List MemberState). slice_get ms m) h.members_are) ∙ there')) (k == m) refl)
  where
    present : h.member.has_left ≡ false
    present = present_stays (slice_get old.members k) h.member is_here h.here

    by : (listener listener' : MemberState) (sent heard : List LineMessage) → slice_get old.members m ≡ Some listener → AreWritable listener.queue
        → IsDue s listener sent heard → ((m ≡ k) × (listener' ≡ h.member')) ⊎ ((m ≡ k → ⊥) × (slice_get old.members m ≡ Some listener'))
        → (own : Bool) → (k == m) ≡ own → IsDue s listener' (sent ++ (if own then taken_messages performed else [])) heard
    by listener listener' sent heard there small due (inl own) true e =
        let same : listener ≡ h.member = some_is listener h.member (sym there ∙ ap (slice_get old.members) own.0 ∙ h.here) in
        subst (λ (l : MemberState). IsDue s l (sent ++ taken_messages performed) heard) (sym own.1)
        (forwarded_due s h.member.is_put_out h.member.line h.member h.before reply performed h.member' h.after sent heard refl present
        (subst (λ (l : MemberState). AreWritable l.queue) same small) (subst (λ (l : MemberState). IsDue s l sent heard) same due) h.forwards)
    by listener listener' sent heard there small due (inl own) false e =
        absurd (let yes : (k == m) ≡ true = grind (arith, own.0) in let bad : true ≡ false = sym yes ∙ e in cc)
    by listener listener' sent heard there small due (inr other) true e = absurd (other.0 (sym (eqb-true k m e)))
    by listener listener' sent heard there small due (inr other) false e =
        subst (λ (l : List LineMessage). IsDue s listener' l heard) (sym (append-nil sent))
        (subst (λ (l : MemberState). IsDue s l sent heard) (some_is listener listener' (sym there ∙ other.1)) due)

-- ---- any step

pub no_member_told : (s : ℕ) (step : RoomStep) (old new : RoomState) → entry_told s step replied.NoMember old new ≡ []
no_member_told s (Join room) old new = refl
no_member_told s (Leave k) old new = refl
no_member_told s (Perform k step) old new = refl
no_member_told s (Arrive k packet now) old new = refl
no_member_told s (Forward k) old new = refl

takes_here_due : (s m : ℕ) (step : RoomStep) (reply : RoomReply) (old new : RoomState) (performed : List (Entry PlainMediaEvent)) → s ≢ m
    → ((k : ℕ) → is_step_of k step ≡ true → is_here k old.members ≡ true) → TakesHere step reply old performed new → KeepsDue s m step reply old performed new
takes_here_due s m (Leave k) replied.Left old new performed apart here h =
    leaves_due s m k replied.Left h.member old new performed h.here (ap (λ (r : RoomState). r.members) h.room_is) h.performed_is
takes_here_due s m (Perform k step) replied.NotAllowed old new performed apart here h =
    same_due s m (Perform k step) replied.NotAllowed old new performed h.1.room_is h.1.performed_is refl
takes_here_due s m (Perform k step) (replied.Performed reply) old new performed apart here h =
    performs_due s m k (Perform k step) (replied.Performed reply) step reply old new performed apart (here k (grind arith)) (allowed_takes_none step reply.outcome h.0) refl h.1
takes_here_due s m (Arrive k packet now) replied.NoMember old new performed apart here h =
    same_due s m (Arrive k packet now) replied.NoMember old new performed h.3.room_is h.3.performed_is refl
takes_here_due s m (Arrive k packet now) (replied.Performed reply) old new performed apart here h =
    performs_due s m k (Arrive k packet now) (replied.Performed reply) (Datagram Left packet now) reply old new performed apart (here k (grind arith)) refl
    (ap (λ (b : Bool). if b then messages_told s (slice_get old.members s) (slice_get new.pairs s) reply else []) (sym (and_true (k == s)))) h.1
takes_here_due s m (Forward k) reply old new performed apart here h = forwards_due s m k reply old new performed (here k (grind arith)) h
takes_here_due s m step reply old new performed apart here h = absurd h

takes_of_due : (s m k : ℕ) (step : RoomStep) (reply : RoomReply) (old new : RoomState) (performed : List (Entry PlainMediaEvent)) → s ≢ m
    → ((j : ℕ) → is_step_of j step ≡ (k == j)) → (here : Bool) → is_here k old.members ≡ here → TakesOf here step reply old performed new
    → KeepsDue s m step reply old performed new
takes_of_due s m k step reply old new performed apart of false away h =
    same_due s m step reply old new performed h.1.room_is h.1.performed_is
    (ap (λ (r : RoomReply). entry_told s step r old new) h.0 ∙ no_member_told s step old new)
takes_of_due s m k step reply old new performed apart of true here h =
    takes_here_due s m step reply old new performed apart
    (λ j own. ap (λ (n : ℕ). is_here n old.members) (sym (eqb-true k j (sym (of j) ∙ own))) ∙ here) h

joins_due : (s m : ℕ) (alloc : Global) (room : ℕ) (reply : RoomReply) (old new : RoomState) (performed : List (Entry PlainMediaEvent))
    → JoinsRoom alloc room old reply new → performed ≡ [] → KeepsDue s m (Join room) reply old performed new
joins_due s m alloc room (replied.Joined k) old new performed h none = λ listener listener' sent heard there there' number small due.
    let pushed : slice_get (old.members ++ new_member k room ∷ []) m ≡ Some listener' =
    sym (ap (λ (r : RoomState). slice_get r.members m) h.4) ∙ there' in
    still_due s listener listener' sent _ heard _
    (subst (λ (l : MemberState). IsDue s l sent heard) (some_is listener listener' (sym there ∙ kept_at old.members (new_member k room) m listener there ∙ pushed)) due)
    refl (empty_if (are_together s m old) [] refl)
  where
    kept_at : {A : Type 0} (xs : List A) (x : A) (i : ℕ) (y : A) → slice_get xs i ≡ Some y → slice_get xs i ≡ slice_get (xs ++ x ∷ []) i
    kept_at [] x i y there = absurd (let bad : None ≡ Some y = there in cc)
    kept_at (z ∷ xs) x zero y there = refl
    kept_at (z ∷ xs) x (suc i) y there = kept_at xs x i y there
joins_due s m alloc room replied.Full old new performed h none = same_due s m (Join room) replied.Full old new performed h.1 none refl
joins_due s m alloc room reply old new performed h none = absurd h

pub takes_due : (s m : ℕ) (alloc : Global) (step : RoomStep) (reply : RoomReply) (old new : RoomState) (performed : List (Entry PlainMediaEvent)) → s ≢ m
    → TakesStep alloc step reply old performed new → KeepsDue s m step reply old performed new
takes_due s m alloc (Join room) reply old new performed apart h = joins_due s m alloc room reply old new performed h.0 h.1
takes_due s m alloc (Leave k) reply old new performed apart h =
    takes_of_due s m k (Leave k) reply old new performed apart (λ j. refl) (is_here k old.members) refl h
takes_due s m alloc (Perform k step) reply old new performed apart h =
    takes_of_due s m k (Perform k step) reply old new performed apart (λ j. refl) (is_here k old.members) refl h
takes_due s m alloc (Arrive k packet now) reply old new performed apart h =
    takes_of_due s m k (Arrive k packet now) reply old new performed apart (λ j. refl) (is_here k old.members) refl h
takes_due s m alloc (Forward k) reply old new performed apart h =
    takes_of_due s m k (Forward k) reply old new performed apart (λ j. refl) (is_here k old.members) refl h

-- next, by induction over RoomWent: numbers are places, queues are writable, IsDue for each speaker and listener by takes_due (due_new for who
-- joins), and nothing was performed on and heard for who has not joined.
