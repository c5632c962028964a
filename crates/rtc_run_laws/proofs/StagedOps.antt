-- What is staged once ops were performed.
use Rattle.std.proofs.Common.{◌≡◌, ◌≤◌, ◌+◌, ℕ, List, ◌++◌, length, false, ◌||◌, Option, None}
use Rattle.std.specs.Prelude.{is_some}
use Rattle.rtc_change.specs.PendingOffer.{added_mids, added_rows, do_offer, staged_restart}
use Rattle.rtc_peer_core.specs.Stance.{Stance}
use Rattle.rtc_run_history.specs.declared.op.Op.{Op}
use Rattle.rtc_run_history.specs.declared.op_answer.OpAnswer.{OpAnswer}
use Rattle.rtc_run_history.specs.Answers.{has_app_row, added, do_stage, do_restart, do_need_offer, numbers_answered, rows_waiting}
use Rattle.rtc_run_laws.proofs.NumberedChannels.{AreNumbered}
use Rattle.rtc_run_laws.proofs.StagedApps.{AppTold}
use Rattle.rtc_run_laws.proofs.StagedChanges.{are_some}
use Rattle.rtc_run_laws.proofs.StanceSteps.{needs_app}

-- What ops leave of a peer's channels.
pub record ChannelsStaged (p : Stance) (answers : List OpAnswer) (q : Stance) : Type 0 where
  pub numbered : AreNumbered (numbers_answered answers) p.channels q.channels
  pub shown : q.rows ≡ p.rows ++ rows_waiting answers

-- the rows that are staged are those that ops add, where the mid of a line of data channels is told that is still to be staged
abbrev pub AddsRows : Stance → List Op → List OpAnswer → Stance → Type 0
AddsRows p ops answers q =
    (app : Option (List ℕ)) → AppTold p app q → (app ≡ None → needs_app p ≡ false)
    → (place : ℕ) → added_rows place q.staged ≡ added_rows place p.staged ++ added app (place + length (added_mids p.staged)) ops answers

-- What ops leave of a peer: as many rows, and what is staged more.
pub record Stages (p : Stance) (ops : List Op) (answers : List OpAnswer) (q : Stance) : Type 0 where
  pub rows : length q.lines ≡ length p.lines
  pub app : has_app_row q.lines ≡ has_app_row p.lines
  pub counter : q.counter ≡ p.counter
  pub adds : AddsRows p ops answers q
  pub count : length (added_mids q.staged) ≤ length (added_mids p.staged) + length ops
  pub some : are_some q.staged ≡ (are_some p.staged || do_stage answers)
  pub restarts : is_some (staged_restart q.staged) ≡ (is_some (staged_restart p.staged) || do_restart answers)
  pub offers : do_offer q.staged ≡ (do_offer p.staged || do_need_offer (has_app_row p.lines) answers)
  pub channels : ChannelsStaged p answers q
