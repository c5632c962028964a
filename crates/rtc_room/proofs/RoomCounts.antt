-- There is a reply for each step of a room.
use Rattle.std.proofs.Common.{◌≡◌, ◌∙◌, ◌+◌, ℕ, List, [], ◌∷◌, length, refl, sym, ap, length-append}
use Rattle.std.specs.declared.alloc.Global.{Global}
use Rattle.rtc_run.specs.ProgramPair.{PlainPairState}
use Rattle.rtc_room_laws.specs.RoomRuns.{RoomRuns, room_replies, room_steps}
use Rattle.rtc_room_laws.specs.RoomSteps.{RoomEntry}
use Rattle.rtc_room_laws.specs.declared.room_reply.RoomReply.{RoomReply}
use Rattle.rtc_room_laws.specs.declared.room_step.RoomStep.{RoomStep}

counts : (past : List RoomEntry) → length (room_replies past) ≡ length (room_steps past)
counts [] = refl
counts (entry ∷ past) =
    length-append (room_replies past) (entry.reply ∷ [])
    ∙ ap (λ (n : ℕ). n + 1) (counts past)
    ∙ sym (length-append (room_steps past) (entry.step ∷ []))

pub as_many : (alloc : Global) (steps : List RoomStep) (replies : List RoomReply) (pairs : List PlainPairState) → RoomRuns alloc steps replies pairs
    → length replies ≡ length steps
as_many alloc steps replies pairs run = sym (ap length run.replies_are) ∙ counts run.past ∙ ap length run.steps_are
