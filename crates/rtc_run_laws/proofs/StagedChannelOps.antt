-- What an op that stages a channel leaves.
use Rattle.std.proofs.Common.{◌≡◌, ◌≤◌, ◌+◌, ℕ, List, [], ◌∷◌, ◌++◌, length, Bool, true, false, not, ◌||◌, Option, Some, None, refl, sym, ◌∙◌, ap, arith, append-nil, append_assoc}
use Rattle.std.specs.Prelude.{is_some}
use Rattle.rtc_sdp_values.specs.declared.line_row.LineRow.{LineRow}
use Rattle.rtc_sdp_values.specs.declared.line_row.LineRow.TheVariants.{App}
use Rattle.rtc_change.specs.declared.change.Change.{Change}
use Rattle.rtc_change.specs.declared.change.Change.TheVariants.{AddApp, AddChannel as AddingChannel}
use Rattle.rtc_change.specs.PendingOffer.{added_mids, added_rows, do_offer, contains_add_app}
use Rattle.rtc_wire.specs.declared.channel_config.ChannelConfig.{ChannelConfig}
use Rattle.rtc_peer_core.specs.Stance.{Stance}
use Rattle.rtc_run_history.specs.declared.op.Op.{Op}
use Rattle.rtc_run_history.specs.declared.op.Op.TheVariants.{AddChannel}
use Rattle.rtc_run_history.specs.declared.op_answer.OpAnswer.{OpAnswer}
use Rattle.rtc_run_history.specs.declared.op_answer.OpAnswer.TheVariants.{Channel}
use Rattle.rtc_run_history.specs.Answers.{has_app_row, added, do_stage, do_restart, do_need_offer, numbers_answered, waiting_row, rows_waiting}
use Rattle.rtc_run_laws.proofs.RestartChanges.{restart-still}
use Rattle.rtc_run_laws.proofs.NumberedChannels.{numbered_on, channel_numbered}
use Rattle.rtc_run_laws.proofs.StagedApps.{AppTold, contains-append, needs_same, ChannelStaged, none_there, app_mid_is}
use Rattle.rtc_run_laws.proofs.StagedChanges.{are_some, some-push, some_two, or_nothing, or_something, added_rows-append, adds_next, count_next, offer-append, or_early, lined_offers}
use Rattle.rtc_run_laws.proofs.StanceSteps.{StancePerformsOps, needs_app}
use Rattle.rtc_run_laws.proofs.StagedOps.{ChannelsStaged, AddsRows, Stages}

with_channel_staged : (p r q : Stance) (config : ChannelConfig) (id : ℕ) (answers : List OpAnswer) → ChannelStaged p config id r → ChannelsStaged r answers q → ChannelsStaged p (Channel id ∷ answers) q
with_channel_staged p r q config id answers staged rest = record {
  numbered = numbered_on (id ∷ []) (numbers_answered answers) p.channels r.channels q.channels (channel_numbered config id p.channels r.channels staged.channels staged.numbered) rest.numbered;
  shown = rest.shown ∙ ap (λ rows. rows ++ rows_waiting answers) staged.rows ∙ append_assoc p.rows (waiting_row id ∷ []) (rows_waiting answers);
}

-- a channel that is staged alone
stages_alone : (p r q : Stance) (config : ChannelConfig) (id : ℕ) (ops : List Op) (answers : List OpAnswer) → ChannelStaged p config id r → needs_app p ≡ false
    → Stages r ops answers q → Stages p (AddChannel config ∷ ops) (Channel id ∷ answers) q
stages_alone p r q config id ops answers staged unneeded rest =
    let pushed : r.staged ≡ p.staged ++ AddingChannel id config ∷ [] = staged.alone unneeded in
    let count : length (added_mids r.staged) ≡ length (added_mids p.staged) + 0 = count_next p.staged r.staged (AddingChannel id config ∷ []) 0 pushed refl in
    let app : has_app_row r.lines ≡ has_app_row p.lines = ap has_app_row staged.lines in
    let lined : contains_add_app r.staged ≡ contains_add_app p.staged = ap contains_add_app pushed ∙ contains-append p.staged (AddingChannel id config ∷ []) ∙ sym (or_nothing (contains_add_app p.staged)) in
    let needs : needs_app r ≡ needs_app p = needs_same p r app lined in
    let offers : do_offer r.staged ≡ do_offer p.staged = ap do_offer pushed ∙ offer-append p.staged (AddingChannel id config ∷ []) ∙ sym (or_nothing (do_offer p.staged)) in
    record {
      rows = rest.rows ∙ ap length staged.lines;
      app = rest.app ∙ ap has_app_row staged.lines;
      counter = rest.counter ∙ staged.counter;
      adds = λ told_app is none place. by told_app is needs (rest.adds) pushed count place;
      count = let most : length (added_mids q.staged) ≤ length (added_mids r.staged) + length ops = rest.count in omega arith;
      some = rest.some ∙ ap (λ b. b || do_stage answers) (ap are_some pushed ∙ some-push p.staged (AddingChannel id config)) ∙ or_early (are_some p.staged) (do_stage answers);
      restarts = rest.restarts ∙ ap (λ found. is_some found || do_restart answers) (restart-still p.staged r.staged (AddingChannel id config ∷ []) pushed refl);
      offers = rest.offers ∙ ap (λ b. do_offer r.staged || do_need_offer b answers) app ∙ ap (λ b. b || do_need_offer (has_app_row p.lines) answers) offers ∙ kept_or (has_app_row p.lines) refl;
      channels = with_channel_staged p r q config id answers staged rest.channels;
    }
  where
    by : (app : Option (List ℕ)) → AppTold p app q → needs_app r ≡ needs_app p → AddsRows r ops answers q → r.staged ≡ p.staged ++ AddingChannel id config ∷ [] → length (added_mids r.staged) ≡ length (added_mids p.staged) + 0
        → (place : ℕ) → added_rows place q.staged ≡ added_rows place p.staged ++ added app (place + length (added_mids p.staged)) (AddChannel config ∷ ops) (Channel id ∷ answers)
    by (Some mid) is needs adds pushed count place = absurd (let e : true ≡ false = sym is.0 ∙ unneeded in cc)
    by None is needs adds pushed count place =
        adds None tt (λ no. needs ∙ unneeded) place
        ∙ ap (λ (s : List Change). added_rows place s ++ added None (place + length (added_mids r.staged)) ops answers) pushed
        ∙ ap (λ (front : List LineRow). front ++ added None (place + length (added_mids r.staged)) ops answers) (added_rows-append place p.staged (AddingChannel id config ∷ []) ∙ append-nil (added_rows place p.staged))
        ∙ ap (λ n. added_rows place p.staged ++ added None n ops answers) (let e : place + length (added_mids r.staged) ≡ place + length (added_mids p.staged) = omega (arith, count) in e)

    -- a channel without a line of its own is offered by what else is staged, or not at all
    kept_or : (has : Bool) → has_app_row p.lines ≡ has → (do_offer p.staged || do_need_offer (has_app_row p.lines) answers) ≡ (do_offer p.staged || (not (has_app_row p.lines) || do_need_offer (has_app_row p.lines) answers))
    kept_or true is = rw is refl
    kept_or false is = rw (is, lined_offers p.staged (rw is at unneeded)) refl

-- a channel that is staged with its line
stages_lined : (p r q : Stance) (config : ChannelConfig) (id : ℕ) (ops : List Op) (answers : List OpAnswer) → ChannelStaged p config id r → needs_app p ≡ true
    → StancePerformsOps r ops answers q → Stages r ops answers q → Stages p (AddChannel config ∷ ops) (Channel id ∷ answers) q
stages_lined p r q config id ops answers staged needed h rest =
    let more : List Change = AddApp staged.app_mid ∷ AddingChannel id config ∷ [] in
    let pushed : r.staged ≡ p.staged ++ more = staged.lined needed in
    let count : length (added_mids r.staged) ≡ length (added_mids p.staged) + 1 = count_next p.staged r.staged more 1 pushed refl in
    let none = none_there p needed in
    let app : has_app_row r.lines ≡ false = ap has_app_row staged.lines ∙ none.0 in
    let lined : contains_add_app r.staged ≡ true = ap contains_add_app pushed ∙ contains-append p.staged more ∙ sym (or_something (contains_add_app p.staged)) in
    let offers : do_offer r.staged ≡ true = ap do_offer pushed ∙ offer-append p.staged more ∙ sym (or_something (do_offer p.staged)) in
    record {
      rows = rest.rows ∙ ap length staged.lines;
      app = rest.app ∙ ap has_app_row staged.lines;
      counter = rest.counter ∙ staged.counter;
      adds = λ told_app is unneeded place. by told_app is unneeded (rw (app, lined) refl) rest.adds pushed count place;
      count = let most : length (added_mids q.staged) ≤ length (added_mids r.staged) + length ops = rest.count in omega arith;
      some = rest.some ∙ ap (λ b. b || do_stage answers) (ap are_some pushed ∙ some_two p.staged (AddApp staged.app_mid) (AddingChannel id config)) ∙ or_early (are_some p.staged) (do_stage answers);
      restarts = rest.restarts ∙ ap (λ found. is_some found || do_restart answers) (restart-still p.staged r.staged more pushed refl);
      offers = rest.offers ∙ ap (λ b. b || do_need_offer (has_app_row r.lines) answers) offers ∙ (rw none.0 (or_early (do_offer p.staged) (do_need_offer false answers)));
      channels = with_channel_staged p r q config id answers staged rest.channels;
    }
  where
    by : (app : Option (List ℕ)) → AppTold p app q → (app ≡ None → needs_app p ≡ false) → needs_app r ≡ false → AddsRows r ops answers q
        → r.staged ≡ p.staged ++ AddApp staged.app_mid ∷ AddingChannel id config ∷ [] → length (added_mids r.staged) ≡ length (added_mids p.staged) + 1
        → (place : ℕ) → added_rows place q.staged ≡ added_rows place p.staged ++ added app (place + length (added_mids p.staged)) (AddChannel config ∷ ops) (Channel id ∷ answers)
    by None is unneeded later adds pushed count place = absurd (let e : true ≡ false = sym needed ∙ unneeded refl in cc)
    by (Some mid) is unneeded later adds pushed count place =
        let same : staged.app_mid ≡ mid = is.1 staged.app_mid (app_mid_is p r q config id ops answers needed staged h) in
        let n : ℕ = length (added_mids p.staged) in
        let next : place + length (added_mids r.staged) ≡ place + n + 1 = omega (arith, count) in
        adds_next place p.staged r.staged (AddApp staged.app_mid ∷ AddingChannel id config ∷ []) (added_rows place q.staged) (App (place + n) mid) (added None (place + n + 1) ops answers)
        pushed (ap (λ m. App (place + n) m ∷ []) same) (adds None tt (λ no. later) place ∙ ap (λ m. added_rows place r.staged ++ added None m ops answers) next)

-- a channel that is staged, alone or with its line
pub stages_channel : (p r q : Stance) (config : ChannelConfig) (id : ℕ) (ops : List Op) (answers : List OpAnswer) → ChannelStaged p config id r
    → StancePerformsOps r ops answers q → Stages r ops answers q → Stages p (AddChannel config ∷ ops) (Channel id ∷ answers) q
stages_channel p r q config id ops answers staged h rest = by (needs_app p) refl
  where
    by : (needs : Bool) → needs_app p ≡ needs → Stages p (AddChannel config ∷ ops) (Channel id ∷ answers) q
    by true is = stages_lined p r q config id ops answers staged is h rest
    by false is = stages_alone p r q config id ops answers staged is rest
