-- What the ops of a step stage.
use Rattle.std.proofs.Common.{◌≡◌, ◌≤◌, ◌+◌, ℕ, List, [], ◌∷◌, ◌++◌, length, Bool, false, ◌||◌, Option, Some, None, refl, sym, ◌∙◌, ap, subst, arith, append-nil}
use Rattle.std.specs.Prelude.{is_some, filter}
use Rattle.rtc_sdp_values.specs.declared.direction.Direction.{Direction}
use Rattle.rtc_sdp_values.specs.declared.direction.Direction.TheVariants.{Inactive}
use Rattle.rtc_sdp_values.specs.declared.media_kind.MediaKind.{MediaKind}
use Rattle.rtc_sdp_values.specs.declared.ice_creds.IceCreds.{IceCreds}
use Rattle.rtc_change.specs.declared.add_media.AddMedia.{AddMedia as Media}
use Rattle.rtc_peer_core.specs.Staging.{is_kept_by_restart, with_restart}
use Rattle.rtc_sdp_values.specs.declared.line_row.LineRow.{LineRow}
use Rattle.rtc_sdp_values.specs.declared.line_row.LineRow.TheVariants.{Media as MediaRow}
use Rattle.rtc_change.specs.declared.change.Change.{Change}
use Rattle.rtc_change.specs.declared.change.Change.TheVariants.{AddMedia as Adding, IceRestart as Restarting}
use Rattle.rtc_change.specs.PendingOffer.{added_mids, added_rows, do_offer, contains_add_app, staged_restart}
use Rattle.rtc_peer_rows.specs.RowChanges.{directed_row, stopped_row}
use Rattle.rtc_peer_rows.proofs.RowChangeLemmas.{directed_row_keeps, stopped_row_keeps}
use Rattle.rtc_peer_core.specs.Stance.{Stance}
use Rattle.rtc_run_history.specs.declared.op.Op.{Op}
use Rattle.rtc_run_history.specs.declared.op.Op.TheVariants.{AddMedia, SetDirection, StopMedia, AddChannel, IceRestart}
use Rattle.rtc_run_history.specs.declared.op_answer.OpAnswer.{OpAnswer}
use Rattle.rtc_run_history.specs.declared.op_answer.OpAnswer.TheVariants.{Mid, Changed, NoLine, Channel, BadChannel, Creds, Alloc as OpAlloc}
use Rattle.rtc_run_history.specs.Answers.{has_app_row, added, do_stage, do_restart, do_need_offer, numbers_answered, rows_waiting}
use Rattle.rtc_run_laws.proofs.RestartChanges.{mids-restart, rows-restart, lined-restart, offers-restart, restart-staged, restart-still}
use Rattle.rtc_run_laws.proofs.AddedRows.{added_none}
use Rattle.rtc_run_laws.proofs.NumberedChannels.{same_numbers, numbered_on}
use Rattle.rtc_run_laws.proofs.StagedApps.{contains-append, needs_same, told_same, channel_staged}
use Rattle.rtc_run_laws.proofs.StagedChanges.{are_some, some-push, or_nothing, or_something, or_three, adds_next, count_next, offer-append, StagesLine, line_staged, or_early}
use Rattle.rtc_run_laws.proofs.StanceSteps.{StancePerformsOps, needs_app}
use Rattle.rtc_run_laws.proofs.StagedOps.{ChannelsStaged, AddsRows, Stages}
use Rattle.rtc_run_laws.proofs.StagedChannelOps.{stages_channel}

-- an answer that tells no channel
record TellsNone (answer : OpAnswer) (answers : List OpAnswer) : Type 0 where
  numbers : numbers_answered (answer ∷ answers) ≡ numbers_answered answers
  rows : rows_waiting (answer ∷ answers) ≡ rows_waiting answers

same_channels : (p r q : Stance) (answer : OpAnswer) (answers : List OpAnswer) → r.channels ≡ p.channels → r.rows ≡ p.rows → TellsNone answer answers
    → ChannelsStaged r answers q → ChannelsStaged p (answer ∷ answers) q
same_channels p r q answer answers channels rows none rest = record {
  numbered = rw none.numbers (numbered_on [] (numbers_answered answers) p.channels r.channels q.channels (same_numbers p.channels r.channels channels) rest.numbered);
  shown = rest.shown ∙ ap (λ shown. shown ++ rows_waiting answers) rows ∙ ap (λ more. p.rows ++ more) (sym none.rows);
}

-- ---- a line that is changed

-- the ops after a change of a line
stages_line : (p r q : Stance) (op : Op) (ops : List Op) (changed : Bool) (answers : List OpAnswer)
    → ((app : Option (List ℕ)) (place : ℕ) → added app place (op ∷ ops) (Changed changed ∷ answers) ≡ added app place ops answers)
    → StagesLine p changed r → Stages r ops answers q → Stages p (op ∷ ops) (Changed changed ∷ answers) q
stages_line p r q op ops changed answers none line rest =
    let needs : needs_app r ≡ needs_app p = needs_same p r line.app line.lined in
    record {
      rows = rest.rows ∙ line.rows;
      app = rest.app ∙ line.app;
      counter = rest.counter ∙ line.counter;
      adds = λ app is unneeded place. rest.adds app (told_same p r app q needs is) (λ no. needs ∙ unneeded no) place
          ∙ ap (λ (front : List LineRow). front ++ added app (place + length (added_mids r.staged)) ops answers) (line.adds place)
          ∙ ap (λ n. added_rows place p.staged ++ added app (place + n) ops answers) line.count
          ∙ ap (λ (more : List LineRow). added_rows place p.staged ++ more) (sym (none app (place + length (added_mids p.staged))));
      count = let most : length (added_mids q.staged) ≤ length (added_mids r.staged) + length ops = rest.count in
          let same : length (added_mids r.staged) ≡ length (added_mids p.staged) = line.count in omega arith;
      some = rest.some ∙ ap (λ b. b || do_stage answers) line.some ∙ or_three (are_some p.staged) changed (do_stage answers);
      restarts = rest.restarts ∙ ap (λ found. is_some found || do_restart answers) line.restart;
      offers = rest.offers ∙ ap (λ b. do_offer r.staged || do_need_offer b answers) line.app
          ∙ ap (λ b. b || do_need_offer (has_app_row p.lines) answers) line.offers ∙ or_three (do_offer p.staged) changed (do_need_offer (has_app_row p.lines) answers);
      channels = same_channels p r q (Changed changed) answers line.channels line.channel_rows (record { numbers = refl; rows = refl }) rest.channels;
    }

-- ---- ops that leave a peer as it was

-- an op that is answered by no line, or no channel, and the ops after it
stages_none : (p r q : Stance) (op : Op) (ops : List Op) (answer : OpAnswer) (answers : List OpAnswer) → r ≡ p
    → ((app : Option (List ℕ)) (place : ℕ) → added app place (op ∷ ops) (answer ∷ answers) ≡ added app place ops answers)
    → do_stage (answer ∷ answers) ≡ do_stage answers → do_restart (answer ∷ answers) ≡ do_restart answers → ((has : Bool) → do_need_offer has (answer ∷ answers) ≡ do_need_offer has answers)
    → TellsNone answer answers → Stages r ops answers q → Stages p (op ∷ ops) (answer ∷ answers) q
stages_none p r q op ops answer answers same none unstaged unrestarted unoffered no_channel rest = record {
  rows = rest.rows ∙ ap (λ s. length s.lines) same;
  app = rest.app ∙ ap (λ s. has_app_row s.lines) same;
  counter = rest.counter ∙ ap (λ s. s.counter) same;
  adds = λ app is unneeded place. subst (λ (s : Stance). AddsRows s ops answers q) same rest.adds app is unneeded place ∙ ap (λ (more : List LineRow). added_rows place p.staged ++ more) (sym (none app (place + length (added_mids p.staged))));
  count = let most : length (added_mids q.staged) ≤ length (added_mids r.staged) + length ops = rest.count in
      let e : length (added_mids r.staged) ≡ length (added_mids p.staged) = ap (λ s. length (added_mids s.staged)) same in omega arith;
  some = rest.some ∙ ap (λ s. are_some s.staged || do_stage answers) same ∙ ap (λ b. are_some p.staged || b) (sym unstaged);
  restarts = rest.restarts ∙ ap (λ s. is_some (staged_restart s.staged) || do_restart answers) same ∙ ap (λ b. is_some (staged_restart p.staged) || b) (sym unrestarted);
  offers = rest.offers ∙ ap (λ s. do_offer s.staged || do_need_offer (has_app_row s.lines) answers) same ∙ ap (λ b. do_offer p.staged || b) (sym (unoffered (has_app_row p.lines)));
  channels = same_channels p r q answer answers (ap (λ s. s.channels) same) (ap (λ s. s.rows) same) no_channel rest.channels;
}

-- an op that lacked memory
stages_lacking : (p q : Stance) (op : Op) (ops : List Op) → ((app : Option (List ℕ)) (place : ℕ) → added app place (op ∷ ops) (OpAlloc ∷ []) ≡ [])
    → q ≡ p → Stages p (op ∷ ops) (OpAlloc ∷ []) q
stages_lacking p q op ops none same = record {
  rows = ap (λ r. length r.lines) same;
  app = ap (λ r. has_app_row r.lines) same;
  counter = ap (λ r. r.counter) same;
  adds = λ app is unneeded place. ap (λ r. added_rows place r.staged) same ∙ sym (append-nil (added_rows place p.staged)) ∙ ap (λ (more : List LineRow). added_rows place p.staged ++ more) (sym (none app (place + length (added_mids p.staged))));
  count = let e : length (added_mids q.staged) ≡ length (added_mids p.staged) = ap (λ r. length (added_mids r.staged)) same in omega arith;
  some = ap (λ r. are_some r.staged) same ∙ or_nothing (are_some p.staged);
  restarts = ap (λ r. is_some (staged_restart r.staged)) same ∙ or_nothing (is_some (staged_restart p.staged));
  offers = ap (λ r. do_offer r.staged) same ∙ or_nothing (do_offer p.staged);
  channels = record { numbered = same_numbers p.channels q.channels (ap (λ r. r.channels) same); shown = ap (λ r. r.rows) same ∙ sym (append-nil p.rows) };
}

-- ---- a restart that is staged

-- the row of a line that is staged
media_row : (place : ℕ) (media : Media) (mid : List ℕ) (kind : MediaKind) (dir : Direction) → media.mid ≡ mid → media.kind ≡ kind → media.dir ≡ dir
    → added_rows place (Adding media ∷ []) ≡ MediaRow place mid kind dir false false ∷ []
media_row place media mid kind dir its_mid its_kind its_dir = rw (its_mid, its_kind, its_dir) refl

stages_restart : (p r q : Stance) (keep : Bool) (creds : IceCreds) (ops : List Op) (answers : List OpAnswer) → r ≡ record p { staged = with_restart creds keep p.staged }
    → Stages r ops answers q → Stages p (IceRestart keep ∷ ops) (Creds creds ∷ answers) q
stages_restart p r q keep creds ops answers is rest =
    let staged : r.staged ≡ with_restart creds keep p.staged = ap (λ s. s.staged) is in
    let lines : r.lines ≡ p.lines = ap (λ s. s.lines) is in
    let count : length (added_mids r.staged) ≡ length (added_mids p.staged) = ap (λ s. length (added_mids s)) staged ∙ ap length (mids-restart creds keep p.staged) in
    let lined : contains_add_app r.staged ≡ contains_add_app p.staged = ap contains_add_app staged ∙ lined-restart creds keep p.staged in
    let needs : needs_app r ≡ needs_app p = needs_same p r (ap has_app_row lines) lined in
    record {
      rows = rest.rows ∙ ap length lines;
      app = rest.app ∙ ap has_app_row lines;
      counter = rest.counter ∙ ap (λ s. s.counter) is;
      adds = λ app told_app unneeded place. rest.adds app (told_same p r app q needs told_app) (λ no. needs ∙ unneeded no) place
          ∙ ap (λ (s : List Change). added_rows place s ++ added app (place + length (added_mids r.staged)) ops answers) staged
          ∙ ap (λ (front : List LineRow). front ++ added app (place + length (added_mids r.staged)) ops answers) (rows-restart creds keep place p.staged)
          ∙ ap (λ n. added_rows place p.staged ++ added app (place + n) ops answers) count;
      count = let most : length (added_mids q.staged) ≤ length (added_mids r.staged) + length ops = rest.count in omega arith;
      some = rest.some ∙ ap (λ b. b || do_stage answers) (ap are_some staged ∙ some-push (filter is_kept_by_restart p.staged) (Restarting creds keep)) ∙ or_early (are_some p.staged) (do_stage answers);
      restarts = rest.restarts ∙ ap (λ found. is_some found || do_restart answers) (ap staged_restart staged ∙ restart-staged creds keep p.staged) ∙ or_early (is_some (staged_restart p.staged)) (do_restart answers);
      offers = rest.offers ∙ ap (λ b. b || do_need_offer (has_app_row r.lines) answers) (ap do_offer staged ∙ offers-restart creds keep p.staged)
          ∙ or_early (do_offer p.staged) (do_need_offer (has_app_row p.lines) answers);
      channels = same_channels p r q (Creds creds) answers (ap (λ s. s.channels) is) (ap (λ s. s.rows) is) (record { numbers = refl; rows = refl }) rest.channels;
    }

-- ---- all ops

pub ops_stage : (p q : Stance) (ops : List Op) (answers : List OpAnswer) → StancePerformsOps p ops answers q → Stages p ops answers q
ops_stage p q [] [] h = record {
  rows = ap (λ r. length r.lines) h;
  app = ap (λ r. has_app_row r.lines) h;
  counter = ap (λ r. r.counter) h;
  adds = λ app is unneeded place. ap (λ r. added_rows place r.staged) h ∙ sym (append-nil (added_rows place p.staged));
  count = let e : length (added_mids q.staged) ≡ length (added_mids p.staged) = ap (λ r. length (added_mids r.staged)) h in omega arith;
  some = ap (λ r. are_some r.staged) h ∙ or_nothing (are_some p.staged);
  restarts = ap (λ r. is_some (staged_restart r.staged)) h ∙ or_nothing (is_some (staged_restart p.staged));
  offers = ap (λ r. do_offer r.staged) h ∙ or_nothing (do_offer p.staged);
  channels = record { numbered = same_numbers p.channels q.channels (ap (λ r. r.channels) h); shown = ap (λ r. r.rows) h ∙ sym (append-nil p.rows) };
}
ops_stage p q (AddMedia kind dir ∷ ops) (Mid mid ∷ answers) h =
    let change : Change = Adding h.1.media in
    let staged : h.0.staged ≡ p.staged ++ change ∷ [] = ap (λ r. r.staged) h.1.rest in
    let lines : h.0.lines ≡ p.lines = ap (λ r. r.lines) h.1.rest in
    let count : length (added_mids h.0.staged) ≡ length (added_mids p.staged) + 1 = count_next p.staged h.0.staged (change ∷ []) 1 staged refl in
    let lined : contains_add_app h.0.staged ≡ contains_add_app p.staged = ap contains_add_app staged ∙ contains-append p.staged (change ∷ []) ∙ sym (or_nothing (contains_add_app p.staged)) in
    let needs : needs_app h.0 ≡ needs_app p = needs_same p h.0 (ap has_app_row lines) lined in
    let rest : Stages h.0 ops answers q = ops_stage h.0 q ops answers h.2 in
    record {
      rows = rest.rows ∙ ap length lines;
      app = rest.app ∙ ap has_app_row lines;
      counter = rest.counter ∙ ap (λ r. r.counter) h.1.rest;
      adds = λ app is unneeded place.
          let n : ℕ = length (added_mids p.staged) in
          adds_next place p.staged h.0.staged (change ∷ []) (added_rows place q.staged) (MediaRow (place + n) mid kind dir false false) (added app (place + n + 1) ops answers) staged
          (media_row (place + n) h.1.media mid kind dir h.1.its_mid h.1.kind h.1.dir)
          (rest.adds app (told_same p h.0 app q needs is) (λ no. needs ∙ unneeded no) place
          ∙ ap (λ m. added_rows place h.0.staged ++ added app m ops answers) (let e : place + length (added_mids h.0.staged) ≡ place + n + 1 = omega (arith, count) in e));
      count = let most : length (added_mids q.staged) ≤ length (added_mids h.0.staged) + length ops = rest.count in omega arith;
      some = rest.some ∙ ap (λ b. b || do_stage answers) (ap are_some staged ∙ some-push p.staged change) ∙ or_early (are_some p.staged) (do_stage answers);
      restarts = rest.restarts ∙ ap (λ found. is_some found || do_restart answers) (restart-still p.staged h.0.staged (change ∷ []) staged refl);
      offers = rest.offers ∙ ap (λ b. b || do_need_offer (has_app_row h.0.lines) answers) (ap do_offer staged ∙ offer-append p.staged (change ∷ []) ∙ sym (or_something (do_offer p.staged)))
          ∙ or_early (do_offer p.staged) (do_need_offer (has_app_row p.lines) answers);
      channels = same_channels p h.0 q (Mid mid) answers (ap (λ r. r.channels) h.1.rest) (ap (λ r. r.rows) h.1.rest) (record { numbers = refl; rows = refl }) rest.channels;
    }
ops_stage p q (AddMedia kind dir ∷ ops) (OpAlloc ∷ []) h =
    stages_lacking p q (AddMedia kind dir) ops (λ app place. added_none app place ops) h
ops_stage p q (SetDirection at dir ∷ ops) (NoLine ∷ answers) h =
    stages_none p p q (SetDirection at dir) ops NoLine answers refl (λ app place. refl) refl refl (λ has. refl) (record { numbers = refl; rows = refl }) (ops_stage p q ops answers h.1)
ops_stage p q (SetDirection at dir ∷ ops) (Changed changed ∷ answers) h =
    stages_line p h.0 q (SetDirection at dir) ops changed answers (λ app place. refl) (line_staged (directed_row dir) dir p h.1.mid changed h.0 (directed_row_keeps dir) h.1.called) (ops_stage h.0 q ops answers h.2)
ops_stage p q (SetDirection at dir ∷ ops) (OpAlloc ∷ []) h =
    stages_lacking p q (SetDirection at dir) ops (λ app place. added_none app place ops) h.called
ops_stage p q (StopMedia at ∷ ops) (NoLine ∷ answers) h =
    stages_none p p q (StopMedia at) ops NoLine answers refl (λ app place. refl) refl refl (λ has. refl) (record { numbers = refl; rows = refl }) (ops_stage p q ops answers h.1)
ops_stage p q (StopMedia at ∷ ops) (Changed changed ∷ answers) h =
    stages_line p h.0 q (StopMedia at) ops changed answers (λ app place. refl) (line_staged stopped_row Inactive p h.1.mid changed h.0 stopped_row_keeps h.1.called) (ops_stage h.0 q ops answers h.2)
ops_stage p q (StopMedia at ∷ ops) (OpAlloc ∷ []) h =
    stages_lacking p q (StopMedia at) ops (λ app place. added_none app place ops) h.called
ops_stage p q (AddChannel config ∷ ops) (Channel id ∷ answers) h =
    stages_channel p h.0 q config id ops answers (channel_staged p config id h.0 h.1) h.2 (ops_stage h.0 q ops answers h.2)
ops_stage p q (AddChannel config ∷ ops) (BadChannel ∷ answers) h =
    stages_none p h.0 q (AddChannel config) ops BadChannel answers h.1.1 (λ app place. bad_adds app place) refl refl (λ has. refl) (record { numbers = refl; rows = refl }) (ops_stage h.0 q ops answers h.2)
  where
    bad_adds : (app : Option (List ℕ)) (place : ℕ) → added app place (AddChannel config ∷ ops) (BadChannel ∷ answers) ≡ added app place ops answers
    bad_adds None place = refl
    bad_adds (Some mid) place = refl
ops_stage p q (AddChannel config ∷ ops) (OpAlloc ∷ []) h =
    stages_lacking p q (AddChannel config) ops lacking_adds h
  where
    lacking_adds : (app : Option (List ℕ)) (place : ℕ) → added app place (AddChannel config ∷ ops) (OpAlloc ∷ []) ≡ []
    lacking_adds None place = added_none None place ops
    lacking_adds (Some mid) place = added_none (Some mid) place ops
ops_stage p q (IceRestart keep ∷ ops) (Creds creds ∷ answers) h = stages_restart p h.0 q keep creds ops answers h.1.1 (ops_stage h.0 q ops answers h.2)
ops_stage p q (IceRestart keep ∷ ops) (OpAlloc ∷ []) h =
    stages_lacking p q (IceRestart keep) ops (λ app place. restart_adds app place ops) h
  where
    restart_adds : (app : Option (List ℕ)) (place : ℕ) (ops : List Op) → added app place (IceRestart keep ∷ ops) (OpAlloc ∷ []) ≡ []
    restart_adds app place ops = added_none app place ops
ops_stage p q ops answers h = absurd h
