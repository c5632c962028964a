-- What a side shows once it rolled an offer back is what the past says.
use Rattle.std.proofs.Common.{◌≡◌, ℕ, List, Option, Some, None, Ok, ◌∙◌, ap}
use Rattle.rtc_sdp_values.specs.declared.line_row.LineRow.{LineRow}
use Rattle.rtc_channels.specs.declared.channel_row.ChannelRow.{ChannelRow}
use Rattle.rtc_change.specs.PendingOffer.{PendingOffer}
use Rattle.rtc_peer_core.specs.Stance.{Stance}
use Rattle.rtc_peer_core.proofs.StanceRollbacks.{StanceRollsBack}
use Rattle.rtc_peer_rows.proofs.RowChangeLemmas.{alike_self}
use Rattle.rtc_run_history.specs.declared.side.Side.{Side}
use Rattle.rtc_run_history.specs.declared.table.Table.{Table}
use Rattle.rtc_run_history.specs.PairState.{held_token}
use Rattle.rtc_run_history.specs.Past.{Entry, before}
use Rattle.rtc_run_history.specs.Rounds.{before_last, makes_offer}
use Rattle.rtc_run_history.specs.Undone.{channels_added_by, channels_but, places_changed_by, rows_undone, table_undone}
use Rattle.rtc_run_history.specs.Views.{Stances}
use Rattle.rtc_run_laws.proofs.Outstands.{Outstands, TokenUndoes}
use Rattle.rtc_run_laws.proofs.RollbackSteps.{IsUndone, same_tables}
use Rattle.rtc_run_laws.proofs.StanceSteps.{LeavesRows, PairStance, StanceShows, lent}
use Rattle.rtc_run_laws.proofs.Tells.{Tells}

undone_table : {E : Type 0} → (past : List (Entry E)) (at : Side) (t : ℕ) (token : PendingOffer) (old : PairStance) (new : Stance) (table : Table) → Tells past old
    → TokenUndoes past at t token (old.sides at) → StanceRollsBack (lent (old.sides at)) token (Ok tt) new → LeavesRows token (old.sides at) new → StanceShows table new
    → table ≡ table_undone at t past
undone_table past at t token old new table tells undoes rolls leaves shows =
    let s : Stance = old.sides at in
    let told = (tells.sides at).channels in
    same_tables table (table_undone at t past)
    (shows.lines ∙ ap (λ (q : Stance). q.lines) rolls.1 ∙ undoes.rows s.lines (alike_self s.lines)
    ∙ ap (λ (rows : List LineRow). rows_undone (places_changed_by t past) 0 (before at (before_last (makes_offer t) past)) rows) (tells.sides at).rows)
    (shows.channels ∙ leaves told.rising undoes.unconfirmed ∙ ap (λ (numbers : List ℕ). channels_but numbers s.rows) undoes.numbers
    ∙ ap (λ (rows : List ChannelRow). channels_but (channels_added_by t past) rows) told.shown)

pub undone_is : {E : Type 0} → (fresh : Stances) (past : List (Entry E)) (at : Side) (t : ℕ) (token : Option PendingOffer) (old : PairStance) → held_token old.sdps at t ≡ token → Tells past old
    → Outstands fresh past at (old.sides at) old.sdps → IsUndone past at t token (old.sides at)
undone_is fresh past at t None old is tells out = tt
undone_is fresh past at t (Some token) old is tells out =
    λ right new table rolls leaves shows. undone_table past at t token old new table tells (out.undoes t token is right) rolls leaves shows
