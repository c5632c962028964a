-- Ops that are performed are answered by what they find, each on the rows that the one before left.
use Rattle.std.proofs.Common.{◌≡◌, ◌+◌, ◌<◌, ℕ, List, [], ◌∷◌, ◌++◌, Bool, true, false, ◌||◌, Option, Some, None, Ok, refl, sym, ◌∙◌, ap, subst, arith, append-nil}
use Rattle.std.specs.Prelude.{slice_get, is_some}
use Rattle.std.specs.Str.{bytes_eq}
use Rattle.std.proofs.lemmas.List.Elements.{All-cons}
use Rattle.std.proofs.lemmas.List.Folds.{list_any-append}
use Rattle.std.proofs.lemmas.Bool.{or_parts, or_from}
use Rattle.rtc_wire.specs.declared.channel_config.ChannelConfig.{ChannelConfig}
use Rattle.rtc_channels.specs.Channels.{Channels, is_bad_channel, with_channel}
use Rattle.rtc_sdp_values.specs.declared.direction.Direction.{Direction}
use Rattle.rtc_sdp_values.specs.declared.direction.Direction.TheVariants.{Inactive}
use Rattle.rtc_sdp_values.specs.declared.line_row.LineRow.{LineRow}
use Rattle.rtc_change.specs.declared.change.Change.{Change}
use Rattle.rtc_change.specs.declared.change.Change.TheVariants.{AddMedia as Adding, AddApp, AddChannel as AddingChannel, Direction as Setting}
use Rattle.rtc_sdp_values.specs.Mids.{is_among}
use Rattle.rtc_change.specs.PendingOffer.{added_mids, contains_add_app}
use Rattle.rtc_peer_rows.specs.RowChanges.{RowChange, directed_row, stopped_row, is_changed, changed_at, changed_of}
use Rattle.rtc_peer_rows.specs.Table.{IsTable, has_mid}
use Rattle.rtc_change.proofs.AddedLemmas.{added_mids-append}
use Rattle.rtc_peer_rows.proofs.RowChangeLemmas.{KeepsRow, directed_row_keeps, stopped_row_keeps, changed_of_alike, has_mid-alike, table_alike}
use Rattle.rtc_peer_core.specs.Stance.{Stance}
use Rattle.rtc_peer_core.specs.Names.{is_held}
use Rattle.rtc_peer_core.specs.Staging.{with_restart}
use Rattle.rtc_sdp_values.specs.declared.ice_creds.IceCreds.{IceCreds}
use Rattle.rtc_run_history.specs.declared.op.Op.{Op}
use Rattle.rtc_run_history.specs.declared.op.Op.TheVariants.{AddMedia, SetDirection, StopMedia, AddChannel, IceRestart}
use Rattle.rtc_run_history.specs.declared.op_answer.OpAnswer.{OpAnswer}
use Rattle.rtc_run_history.specs.declared.op_answer.OpAnswer.TheVariants.{Mid, Changed, NoLine, Channel, BadChannel, Creds, Alloc as OpAlloc}
use Rattle.rtc_run_history.specs.Sound.{Midway, IsUnheld, GivesNumber, TellsChange, OpsAnswered}
use Rattle.rtc_change.specs.TableAfter.{with_front}
use Rattle.rtc_run_history.specs.Answers.{has_app_row, with_numbered}
use Rattle.rtc_run_history.specs.Performs.{CallsLine}
use Rattle.rtc_run_laws.proofs.OpRows.{has_app-alike}
use Rattle.rtc_run_laws.proofs.NumberedChannels.{AreLess, less_weaker}
use Rattle.rtc_run_laws.proofs.StagedApps.{AppTold, contains-append, needs_same, told_same, ChannelStaged, channel_staged, app_mid_is}
use Rattle.rtc_run_laws.proofs.RestartChanges.{mids-restart, lined-restart}
use Rattle.rtc_run_laws.proofs.PlacedRows.{IsPlaced, placed, unchanged_at}
use Rattle.rtc_peer_core.proofs.StanceCalls.{StanceAddsChannel, StanceChangesLine}
use Rattle.rtc_run_laws.proofs.StanceSteps.{StancePerformsOps, needs_app}

-- a mid that neither a row nor a staged line of a peer has is not held
abbrev pub Holds : Stance → List (List ℕ) → Type 0
Holds p held = (mid : List ℕ) → is_held p.lines p.staged mid ≡ false → is_among held mid ≡ false

-- a mid that is not held with one more staged is another one, and was not held before
held_more : (rows : List LineRow) (staged more : List Change) (own mid : List ℕ) → added_mids more ≡ own ∷ [] → is_held rows (staged ++ more) mid ≡ false → (bytes_eq own mid ≡ false) × (is_held rows staged mid ≡ false)
held_more rows staged more own mid adds none =
    let both = or_parts (has_mid mid rows) _ none in
    let parts : (is_among (added_mids staged) mid || is_among (own ∷ []) mid) ≡ false =
    sym (list_any-append (λ other. bytes_eq other mid) (added_mids staged) (own ∷ [])) ∙ ap (λ (mids : List (List ℕ)). is_among mids mid) (sym (added_mids-append staged more ∙ ap (λ (mids : List (List ℕ)). added_mids staged ++ mids) adds)) ∙ both.1 in
    let two = or_parts (is_among (added_mids staged) mid) (is_among (own ∷ []) mid) parts in
    ((or_parts (bytes_eq own mid) false two.1).0, or_from (has_mid mid rows) (is_among (added_mids staged) mid) both.0 two.0)

-- with a line staged, its mid is held too
holds_more : (p r : Stance) (more : List Change) (own : List ℕ) (held : List (List ℕ)) → r.lines ≡ p.lines → r.staged ≡ p.staged ++ more → added_mids more ≡ own ∷ [] → Holds p held → Holds r (own ∷ held)
holds_more p r more own held lines staged adds holds mid none =
    let parts = held_more p.lines p.staged more own mid adds (rw (← lines) (rw (← staged) none)) in
    or_from (bytes_eq own mid) (is_among held mid) parts.0 (holds mid parts.1)

-- with changes staged that tell no mid of those held, they are held still
holds_still : (p r : Stance) (more : List Change) (held : List (List ℕ)) → r.lines ≡ p.lines → r.staged ≡ p.staged ++ more → Holds p held → Holds r held
holds_still p r more held lines staged holds mid none =
    let both = or_parts (has_mid mid p.lines) (is_among (added_mids (p.staged ++ more)) mid) (rw (← lines) (rw (← staged) none)) in
    let parts : (is_among (added_mids p.staged) mid || is_among (added_mids more) mid) ≡ false =
    sym (list_any-append (λ other. bytes_eq other mid) (added_mids p.staged) (added_mids more)) ∙ ap (λ (mids : List (List ℕ)). is_among mids mid) (sym (added_mids-append p.staged more)) ∙ both.1 in
    holds mid (or_from (has_mid mid p.lines) (is_among (added_mids p.staged) mid) both.0 (or_parts (is_among (added_mids p.staged) mid) (is_among (added_mids more) mid) parts).0)

or_nothing : (a : Bool) → (a || false) ≡ a
or_nothing true = refl
or_nothing false = refl

-- What a call leaves that changes the line at a place.
record AnswersLine (change : RowChange) (place : ℕ) (p : Stance) (changed : Bool) (held : List (List ℕ)) (r : Stance) : Type 0 where
  tells : TellsChange change place p.lines changed
  lines : r.lines ≡ changed_at change place p.lines
  table : IsTable r.lines
  holds : Holds r held
  needs : needs_app r ≡ needs_app p
  channels : r.channels ≡ p.channels

line_answered : (change : RowChange) (to : Direction) (place : ℕ) (p : Stance) (changed : Bool) (held : List (List ℕ)) (r : Stance) → KeepsRow change → IsTable p.lines → Holds p held
    → CallsLine p.lines place (λ mid. StanceChangesLine change to p mid (Ok changed) r) → AnswersLine change place p changed held r
line_answered change to place p true held r keeps table holds call =
    let here : IsPlaced change place call.mid p.lines = placed change place call.mid p.lines table.distinct call.there in
    let alike = changed_of_alike change keeps call.mid p.lines in
    let lines : r.lines ≡ changed_of change call.mid p.lines = ap (λ q. q.lines) call.called.1 in
    let staged : r.staged ≡ p.staged ++ Setting call.mid to ∷ [] = ap (λ q. q.staged) call.called.1 in
    let adds : added_mids r.staged ≡ added_mids p.staged = ap added_mids staged ∙ added_mids-append p.staged (Setting call.mid to ∷ []) ∙ append-nil (added_mids p.staged) in
    let lined : contains_add_app r.staged ≡ contains_add_app p.staged = ap contains_add_app staged ∙ contains-append p.staged (Setting call.mid to ∷ []) ∙ or_nothing (contains_add_app p.staged) in
    record {
      tells = (ap is_some call.there, sym (ap (is_changed change) (sym here.found) ∙ call.called.0));
      lines = lines ∙ here.changed;
      table = subst IsTable (sym lines) (table_alike p.lines (changed_of change call.mid p.lines) alike table);
      holds = λ mid none. holds mid (sym (ap (λ b. b || is_among (added_mids r.staged) mid) (ap (has_mid mid) lines ∙ has_mid-alike mid p.lines (changed_of change call.mid p.lines) alike)
          ∙ ap (λ mids. has_mid mid p.lines || is_among mids mid) adds) ∙ none);
      needs = needs_same p r (ap has_app_row lines ∙ has_app-alike p.lines (changed_of change call.mid p.lines) alike) lined;
      channels = ap (λ q. q.channels) call.called.1;
    }
line_answered change to place p false held r keeps table holds call =
    let here : IsPlaced change place call.mid p.lines = placed change place call.mid p.lines table.distinct call.there in
    let none : is_changed change (slice_get p.lines place) ≡ false = ap (is_changed change) (sym here.found) ∙ call.called.0 in
    let same : r ≡ p = call.called.1 in
    record {
      tells = (ap is_some call.there, sym none);
      lines = ap (λ q. q.lines) same ∙ sym (unchanged_at change place p.lines none);
      table = rw same table;
      holds = rw same holds;
      needs = ap needs_app same;
      channels = ap (λ q. q.channels) same;
    }

-- ---- each op

-- what a peer has midway through ops
abbrev pub midway : Stance → List (List ℕ) → Option (List ℕ) → List ℕ → Midway
midway p held app numbers = record { rows = p.lines; held = held; app = app; channels = p.channels; numbers = numbers }

-- the same with other rows and channels
midway_from : (rows rows' : List LineRow) (channels channels' : Channels) (held : List (List ℕ)) (app : Option (List ℕ)) (numbers : List ℕ) (ops : List Op) (answers : List OpAnswer) (after : List LineRow) → rows' ≡ rows → channels' ≡ channels
    → OpsAnswered (record { rows = rows'; held = held; app = app; channels = channels'; numbers = numbers }) ops answers after → OpsAnswered (record { rows = rows; held = held; app = app; channels = channels; numbers = numbers }) ops answers after
midway_from rows rows' channels channels' held app numbers ops answers after same_rows same_channels answered = rw (← same_rows) (rw (← same_channels) answered)

-- What is known of a peer that performs ops.
pub record MayAct (p : Stance) (held : List (List ℕ)) (app : Option (List ℕ)) (q : Stance) : Type 0 where
  pub table : IsTable p.lines
  pub holds : Holds p held
  pub app_is : AppTold p app q

-- a channel has a number above all that were told
gives_number : (p : Stance) (held : List (List ℕ)) (app : Option (List ℕ)) (numbers : List ℕ) (config : ChannelConfig) (id : ℕ) → is_bad_channel p.channels config ≡ false → id ≡ p.channels.given → AreLess p.channels.given numbers
    → GivesNumber (midway p held app numbers) config id
gives_number p held app numbers config id fine numbered less = (fine, rw numbered less)

-- with one more channel
channels_more : (p r : Stance) (config : ChannelConfig) (id : ℕ) → r.channels ≡ with_channel p.channels config → id ≡ p.channels.given → r.channels ≡ with_numbered id config p.channels
channels_more p r config id is numbered = is ∙ ap (λ (n : ℕ). with_numbered n config p.channels) (sym numbered)

-- its number is among those that were told
told_more : (p r : Stance) (config : ChannelConfig) (id : ℕ) (numbers : List ℕ) → r.channels ≡ with_channel p.channels config → id ≡ p.channels.given → AreLess p.channels.given numbers → AreLess r.channels.given (id ∷ numbers)
told_more p r config id numbers is numbered less =
    let given : r.channels.given ≡ p.channels.given + 1 = ap (λ (held : Channels). held.given) is in
    All-cons (λ number. number < r.channels.given) id numbers (omega (arith, given, numbered)) (less_weaker p.channels.given r.channels.given numbers (omega (arith, given)) less)

-- a channel is staged, alone or with its line
channel_acts : (p r q : Stance) (config : ChannelConfig) (id : ℕ) (ops : List Op) (answers : List OpAnswer) (held : List (List ℕ)) (app : Option (List ℕ))
    → StanceAddsChannel p config (Ok id) r → StancePerformsOps r ops answers q → MayAct p held app q
    → (IsUnheld app held) × MayAct r (with_front app held) None q
channel_acts p r q config id ops answers held app h rest may = by (needs_app p) app refl may.app_is
  where
    staged : ChannelStaged p config id r
    staged = channel_staged p config id r h

    table : IsTable r.lines
    table = subst IsTable (sym staged.lines) may.table

    by : (needs : Bool) (app : Option (List ℕ)) → needs_app p ≡ needs → AppTold p app q → (IsUnheld app held) × MayAct r (with_front app held) None q
    by false None is told_app =
        (tt, record { table = table; holds = holds_still p r (AddingChannel id config ∷ []) held staged.lines (staged.alone is) may.holds; app_is = tt })
    by false (Some mid) is told_app = absurd (let e : true ≡ false = sym told_app.0 ∙ is in cc)
    by true None is told_app =
        (tt, record { table = table; holds = holds_still p r (AddApp staged.app_mid ∷ AddingChannel id config ∷ []) held staged.lines (staged.lined is) may.holds; app_is = tt })
    by true (Some mid) is told_app =
        let same : staged.app_mid ≡ mid = told_app.1 staged.app_mid (app_mid_is p r q config id ops answers is staged rest) in (
          may.holds mid (subst (λ (own : List ℕ). is_held p.lines p.staged own ≡ false) same (staged.free is)),
          record {
            table = table;
            holds = holds_more p r (AddApp staged.app_mid ∷ AddingChannel id config ∷ []) mid held staged.lines (staged.lined is) (ap (λ (own : List ℕ). own ∷ []) same) may.holds;
            app_is = tt;
          },
        )

-- a line is changed
line_acts : (change : RowChange) (place : ℕ) (p r q : Stance) (changed : Bool) (held : List (List ℕ)) (app : Option (List ℕ)) → AnswersLine change place p changed held r → MayAct p held app q → MayAct r held app q
line_acts change place p r q changed held app line may =
    record { table = line.table; holds = line.holds; app_is = told_same p r app q line.needs may.app_is }

-- a restart is staged
restart_acts : (p r q : Stance) (keep : Bool) (creds : IceCreds) (held : List (List ℕ)) (app : Option (List ℕ)) → r ≡ record p { staged = with_restart creds keep p.staged } → MayAct p held app q → MayAct r held app q
restart_acts p r q keep creds held app is may =
    let lines : r.lines ≡ p.lines = ap (λ s. s.lines) is in
    let staged : r.staged ≡ with_restart creds keep p.staged = ap (λ s. s.staged) is in
    let mids : added_mids r.staged ≡ added_mids p.staged = ap added_mids staged ∙ mids-restart creds keep p.staged in
    record {
      table = subst IsTable (sym lines) may.table;
      holds = λ mid none. may.holds mid (sym (ap (λ (rows : List LineRow). has_mid mid rows || is_among (added_mids r.staged) mid) lines ∙ ap (λ mids. has_mid mid p.lines || is_among mids mid) mids) ∙ none);
      app_is = told_same p r app q (needs_same p r (ap has_app_row lines) (ap contains_add_app staged ∙ lined-restart creds keep p.staged)) may.app_is;
    }

-- Each op is answered by what it finds, up to the first that lacks memory.
pub ops_answered : (p q : Stance) (ops : List Op) (answers : List OpAnswer) (held : List (List ℕ)) (app : Option (List ℕ)) (numbers : List ℕ) → MayAct p held app q → AreLess p.channels.given numbers
    → StancePerformsOps p ops answers q → OpsAnswered (midway p held app numbers) ops answers q.lines
ops_answered p q [] [] held app numbers may less h = ap (λ r. r.lines) h
ops_answered p q (AddMedia kind dir ∷ ops) (Mid mid ∷ answers) held app numbers may less h =
    let change : Change = Adding h.1.media in
    let staged : h.0.staged ≡ p.staged ++ change ∷ [] = ap (λ r. r.staged) h.1.rest in
    let lines : h.0.lines ≡ p.lines = ap (λ r. r.lines) h.1.rest in
    let channels : h.0.channels ≡ p.channels = ap (λ r. r.channels) h.1.rest in
    let lined : contains_add_app h.0.staged ≡ contains_add_app p.staged = ap contains_add_app staged ∙ contains-append p.staged (change ∷ []) ∙ or_nothing (contains_add_app p.staged) in (
      may.holds mid h.1.free.0,
      midway_from p.lines h.0.lines p.channels h.0.channels (mid ∷ held) app numbers ops answers q.lines lines channels
          (ops_answered h.0 q ops answers (mid ∷ held) app numbers
          (record {
            table = subst IsTable (sym lines) may.table;
            holds = holds_more p h.0 (change ∷ []) mid held lines staged (ap (λ (own : List ℕ). own ∷ []) h.1.its_mid) may.holds;
            app_is = told_same p h.0 app q (needs_same p h.0 (ap has_app_row lines) lined) may.app_is;
          }) (rw channels less) h.2),
    )
ops_answered p q (AddMedia kind dir ∷ ops) (OpAlloc ∷ []) held app numbers may less h = ap (λ r. r.lines) h
ops_answered p q (SetDirection place dir ∷ ops) (NoLine ∷ answers) held app numbers may less h = (h.0, ops_answered p q ops answers held app numbers may less h.1)
ops_answered p q (SetDirection place dir ∷ ops) (Changed changed ∷ answers) held app numbers may less h =
    let line = line_answered (directed_row dir) dir place p changed held h.0 (directed_row_keeps dir) may.table may.holds h.1 in (
      line.tells,
      midway_from _ h.0.lines p.channels h.0.channels held app numbers ops answers q.lines line.lines line.channels
          (ops_answered h.0 q ops answers held app numbers (line_acts (directed_row dir) place p h.0 q changed held app line may) (rw line.channels less) h.2),
    )
ops_answered p q (SetDirection place dir ∷ ops) (OpAlloc ∷ []) held app numbers may less h = ap (λ r. r.lines) h.called
ops_answered p q (StopMedia place ∷ ops) (NoLine ∷ answers) held app numbers may less h = (h.0, ops_answered p q ops answers held app numbers may less h.1)
ops_answered p q (StopMedia place ∷ ops) (Changed changed ∷ answers) held app numbers may less h =
    let line = line_answered stopped_row Inactive place p changed held h.0 stopped_row_keeps may.table may.holds h.1 in (
      line.tells,
      midway_from _ h.0.lines p.channels h.0.channels held app numbers ops answers q.lines line.lines line.channels
          (ops_answered h.0 q ops answers held app numbers (line_acts stopped_row place p h.0 q changed held app line may) (rw line.channels less) h.2),
    )
ops_answered p q (StopMedia place ∷ ops) (OpAlloc ∷ []) held app numbers may less h = ap (λ r. r.lines) h.called
ops_answered p q (AddChannel config ∷ ops) (Channel id ∷ answers) held app numbers may less h =
    let acts = channel_acts p h.0 q config id ops answers held app h.1 h.2 may in
    let staged : ChannelStaged p config id h.0 = channel_staged p config id h.0 h.1 in (
      gives_number p held app numbers config id h.1.good h.1.number less,
      acts.0,
      midway_from p.lines h.0.lines (with_numbered id config p.channels) h.0.channels (with_front app held) None (id ∷ numbers) ops answers q.lines staged.lines (channels_more p h.0 config id staged.channels staged.numbered)
          (ops_answered h.0 q ops answers (with_front app held) None (id ∷ numbers) acts.1 (told_more p h.0 config id numbers staged.channels staged.numbered less) h.2),
    )
ops_answered p q (AddChannel config ∷ ops) (BadChannel ∷ answers) held app numbers may less h = (
  h.1.0,
  subst (λ (r : Stance). StancePerformsOps r ops answers q → OpsAnswered (midway p held app numbers) ops answers q.lines) (sym h.1.1) (λ rest. ops_answered p q ops answers held app numbers may less rest) h.2,
)
ops_answered p q (AddChannel config ∷ ops) (OpAlloc ∷ []) held app numbers may less h = ap (λ r. r.lines) h
ops_answered p q (IceRestart keep ∷ ops) (Creds creds ∷ answers) held app numbers may less h =
    midway_from p.lines h.0.lines p.channels h.0.channels held app numbers ops answers q.lines (ap (λ r. r.lines) h.1.1) (ap (λ r. r.channels) h.1.1)
    (ops_answered h.0 q ops answers held app numbers (restart_acts p h.0 q keep creds held app h.1.1 may) (let same : h.0.channels ≡ p.channels = ap (λ r. r.channels) h.1.1 in rw same less) h.2)
ops_answered p q (IceRestart keep ∷ ops) (OpAlloc ∷ []) held app numbers may less h = ap (λ r. r.lines) h
ops_answered p q ops answers held app numbers may less h = absurd h
