-- What holds of the members of a room after a whole run.
use Rattle.std.proofs.Common.{◌≡◌, ◌≢◌, ◌∙◌, inl, inr, ◌<◌, ◌++◌, if◌then◌else◌, ℕ, Bool, true, false, List, [], ◌∷◌, Some, None, refl, sym, ap, subst, append-nil}
use Rattle.std.specs.Prelude.{slice_get}
use Rattle.std.specs.declared.alloc.Global.{Global}
use Rattle.rtc_plain_media.specs.declared.plain_media_event.PlainMediaEvent.{PlainMediaEvent}
use Rattle.rtc_run_history.specs.Past.{Entry}
use Rattle.rtc_room_laws.specs.Members.{MemberState}
use Rattle.rtc_room_laws.specs.RoomRuns.{RoomWent, is_step_of, performed_of}
use Rattle.rtc_room_laws.specs.RoomSteps.{RoomEntry, RoomState}
use Rattle.rtc_room_laws.specs.RoomHandsOn.{are_together, entry_told, heard_for}
use Rattle.rtc_room_laws.specs.ItemMessages.{LineMessage}
use Rattle.rtc_room_laws.proofs.AbsentMembers.{absent_told, apart_if_absent, apart_told, none_before, unheard_by, unperformed, unperformed_with}
use Rattle.rtc_room_laws.proofs.DueItems.{AreWritable, IsDue, due_new}
use Rattle.rtc_room_laws.proofs.DueRooms.{takes_due}
use Rattle.rtc_room_laws.proofs.LineSteps.{takes_line}
use Rattle.rtc_room_laws.proofs.LineMoves.{Stands}
use Rattle.rtc_room_laws.proofs.MemberSteps.{ComesFrom, from_step}
use Rattle.rtc_room_laws.proofs.TakenMessages.{taken_messages, taken_messages-append}

-- ---- places

-- a member has the number of its place, and what waits for it can be written
pub record IsPlaced (j : ℕ) (member : MemberState) : Type 0 where
  pub number_is : member.number ≡ j
  pub few : j < 256
  pub small : AreWritable member.queue

none_there : (j : ℕ) (b : MemberState) → slice_get [] j ≡ Some b → ⊥
none_there j b h = let bad : None ≡ Some b = h in cc

pub room_placed : (alloc : Global) (past : List RoomEntry) (room : RoomState) → RoomWent alloc past room → (j : ℕ) (b : MemberState)
    → slice_get room.members j ≡ Some b → IsPlaced j b
room_placed alloc [] room went j b there = absurd (none_there j b (sym (ap (λ (r : RoomState). slice_get r.members j) went) ∙ there))
room_placed alloc (entry ∷ past) room went j b there =
    by (from_step alloc entry.step entry.reply went.0 entry.performed room (λ k a here. (room_placed alloc past went.0 went.1 k a here).few) went.2 j b there)
    (λ a here. room_placed alloc past went.0 went.1 j a here)
  where
    by : ComesFrom went.0.members j b → ((a : MemberState) → slice_get went.0.members j ≡ Some a → IsPlaced j a) → IsPlaced j b
    by (inl f) earlier =
        let p = earlier f.a f.there in record { number_is = f.kept.number_is ∙ p.number_is; few = p.few; small = f.kept.small p.small }
    by (inr n) earlier = record {
      number_is = ap (λ (x : MemberState). x.number) n.is;
      few = n.few;
      small = subst (λ (x : MemberState). AreWritable x.queue) (sym n.is) tt;
    }

-- where a member is from that a step left
pub came : (alloc : Global) (entry : RoomEntry) (past : List RoomEntry) (room : RoomState) (went : RoomWent alloc (entry ∷ past) room) (j : ℕ) (b : MemberState)
    → slice_get room.members j ≡ Some b → ComesFrom went.0.members j b
came alloc entry past room went j b there =
    from_step alloc entry.step entry.reply went.0 entry.performed room (λ k a here. (room_placed alloc past went.0 went.1 k a here).few) went.2 j b there

-- ---- what is due

taken_if : (b : Bool) (performed earlier : List (Entry PlainMediaEvent))
    → taken_messages (if b then performed ++ earlier else earlier) ≡ taken_messages earlier ++ (if b then taken_messages performed else [])
taken_if true performed earlier = taken_messages-append performed earlier
taken_if false performed earlier = sym (append-nil (taken_messages earlier))

pub room_due : (alloc : Global) (s m : ℕ) → s ≢ m → (past : List RoomEntry) (room : RoomState) (went : RoomWent alloc past room) (listener : MemberState)
    → slice_get room.members m ≡ Some listener → IsDue s listener (taken_messages (performed_of m past)) (heard_for alloc s m past room went)
room_due alloc s m apart [] room went listener there = absurd (none_there m listener (sym (ap (λ (r : RoomState). slice_get r.members m) went) ∙ there))
room_due alloc s m apart (entry ∷ past) room went listener there =
    by (came alloc entry past room went m listener there) (λ a here. room_due alloc s m apart past went.0 went.1 a here)
  where
    told : List LineMessage
    told = if are_together s m went.0 then entry_told s entry.step entry.reply went.0 room else []

    by : ComesFrom went.0.members m listener
        → ((a : MemberState) → slice_get went.0.members m ≡ Some a → IsDue s a (taken_messages (performed_of m past)) (heard_for alloc s m past went.0 went.1))
        → IsDue s listener (taken_messages (performed_of m (entry ∷ past))) (heard_for alloc s m past went.0 went.1 ++ told)
    by (inl f) earlier =
        let p = room_placed alloc past went.0 went.1 m f.a f.there in
        subst (λ (l : List LineMessage). IsDue s listener l (heard_for alloc s m past went.0 went.1 ++ told))
        (sym (taken_if (is_step_of m entry.step) entry.performed (performed_of m past)))
        (takes_due s m alloc entry.step entry.reply went.0 room entry.performed apart went.2 f.a listener (taken_messages (performed_of m past))
        (heard_for alloc s m past went.0 went.1) f.there there p.number_is p.small (earlier f.a f.there))
    by (inr n) earlier =
        let none : performed_of m (entry ∷ past) ≡ [] =
        unperformed_with alloc m entry past went.0 room went.2 n.absent (unperformed alloc past went.0 went.1 m n.absent) in
        let unheard : heard_for alloc s m past went.0 went.1 ++ told ≡ [] =
        apart_told (are_together s m went.0) (heard_for alloc s m past went.0 went.1) (entry_told s entry.step entry.reply went.0 room)
        (apart_if_absent s m went.0 n.absent) (unheard_by alloc past went.0 went.1 s m n.absent) in
        subst (λ (l : List (Entry PlainMediaEvent)). IsDue s listener (taken_messages l) (heard_for alloc s m past went.0 went.1 ++ told)) (sym none)
        (subst (λ (l : List LineMessage). IsDue s listener [] l) (sym unheard) (due_new s listener (ap (λ (x : MemberState). x.queue) n.is)))

-- ---- the line

-- all that the hub heard of a member on its line
abbrev pub heard_of : (alloc : Global) (s : ℕ) (past : List RoomEntry) (room : RoomState) → RoomWent alloc past room → List LineMessage
heard_of alloc s [] room went = []
heard_of alloc s (entry ∷ past) room went = heard_of alloc s past went.0 went.1 ++ entry_told s entry.step entry.reply went.0 room

unheard_all : (alloc : Global) (past : List RoomEntry) (room : RoomState) (went : RoomWent alloc past room) (s : ℕ) → slice_get room.members s ≡ None
    → heard_of alloc s past room went ≡ []
unheard_all alloc [] room went s none = refl
unheard_all alloc (entry ∷ past) room went s none =
    let before : slice_get went.0.members s ≡ None = none_before alloc entry.step entry.reply went.0 room entry.performed s went.2 none in
    ap (λ (l : List LineMessage). l ++ entry_told s entry.step entry.reply went.0 room) (unheard_all alloc past went.0 went.1 s before)
    ∙ absent_told s entry.step entry.reply went.0 room before

pub room_line : (alloc : Global) (k : ℕ) (past : List RoomEntry) (room : RoomState) (went : RoomWent alloc past room) (member : MemberState)
    → slice_get room.members k ≡ Some member → Stands member.line (performed_of k past) (heard_of alloc k past room went)
room_line alloc k [] room went member there = absurd (none_there k member (sym (ap (λ (r : RoomState). slice_get r.members k) went) ∙ there))
room_line alloc k (entry ∷ past) room went member there =
    by (came alloc entry past room went k member there) (λ a here. room_line alloc k past went.0 went.1 a here)
  where
    heard : List LineMessage
    heard = heard_of alloc k past went.0 went.1

    told : List LineMessage
    told = entry_told k entry.step entry.reply went.0 room

    by : ComesFrom went.0.members k member → ((a : MemberState) → slice_get went.0.members k ≡ Some a → Stands a.line (performed_of k past) heard)
        → Stands member.line (performed_of k (entry ∷ past)) (heard ++ told)
    by (inl f) earlier =
        takes_line k alloc entry.step entry.reply went.0 room entry.performed (λ i a here. (room_placed alloc past went.0 went.1 i a here).few) went.2 f.a member
        (performed_of k past) heard f.there there (earlier f.a f.there)
    by (inr n) earlier =
        let none : performed_of k (entry ∷ past) ≡ [] =
        unperformed_with alloc k entry past went.0 room went.2 n.absent (unperformed alloc past went.0 went.1 k n.absent) in
        let unheard : heard ++ told ≡ [] =
        ap (λ (l : List LineMessage). l ++ told) (unheard_all alloc past went.0 went.1 k n.absent) ∙ absent_told k entry.step entry.reply went.0 room n.absent in
        subst (λ (x : MemberState). Stands x.line (performed_of k (entry ∷ past)) (heard ++ told)) (sym n.is)
        (subst (λ (l : List (Entry PlainMediaEvent)). Stands None l (heard ++ told)) (sym none) (tt, unheard))
