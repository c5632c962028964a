-- The answer to the impolite side's offer is accepted: what the round leaves.
use Rattle.std.proofs.Common.{◌≡◌, ◌+◌, ◌-◌, ◌==◌, ℕ, Bool, true, false, List, [], ◌∷◌, ◌++◌, map, max, length, Some, None, refl, sym, ◌∙◌, ap, subst, arith, zero, suc, length-append}
use Rattle.std.specs.Prelude.{slice_get}
use Rattle.std.proofs.lemmas.Bool.{eq-eqb}
use Rattle.std.proofs.lemmas.List.{length-map}
use Rattle.rtc_sdp_values.specs.LineRow.{row_mid}
use Rattle.rtc_sdp_values.specs.Sdp.{inconsistency}
use Rattle.rtc_sdp_values.specs.declared.line_row.LineRow.{LineRow}
use Rattle.rtc_sdp_values.specs.declared.sdp.Sdp.{Sdp}
use Rattle.rtc_change.specs.Held.{Held}
use Rattle.rtc_change.specs.Plans.{verdict, head_verdict}
use Rattle.rtc_change.specs.TableAfter.{new_places, rows_after, table_after}
use Rattle.rtc_peer_rows.specs.ParsedLines.{parsed_lines}
use Rattle.rtc_peer_rows.specs.Table.{IsTable, OneApp, row_of}
use Rattle.rtc_peer_rows.proofs.TableLemmas.{row_of_its_mid}
use Rattle.rtc_peer_core.specs.Stance.{held_by}
use Rattle.rtc_sdp_writer.specs.AsRead.{as_read}
use Rattle.rtc_run_history.specs.Past.{Entry, MadeSdp, added_by, before, holds_token, is_right, remote_sdp, sdp_for, sdps}
use Rattle.rtc_run_history.specs.SaidRows.{row_said}
use Rattle.rtc_run_history.specs.Sides.{other_side}
use Rattle.rtc_run_history.specs.Signalled.{Readable, signalled_if}
use Rattle.rtc_run_history.specs.Sound.{IsSound, asked_in}
use Rattle.rtc_run_history.specs.SoundEntry.{AreReadBack}
use Rattle.rtc_run_history.specs.Views.{Stances, init_told_by, view_in}
use Rattle.rtc_run_history.specs.declared.outcome.Outcome.TheVariants.{Finished}
use Rattle.rtc_run_history.specs.declared.side.Side.{Side}
use Rattle.rtc_run_history.specs.declared.step.Step.TheVariants.{AcceptAnswer}
use Rattle.rtc_run_history.specs.declared.table.Table.{Table}
use Rattle.rtc_run_laws.proofs.AddedRows.{added_distinct}
use Rattle.rtc_run_laws.proofs.AnswerCounts.{new_count}
use Rattle.rtc_run_laws.proofs.Around.{entry}
use Rattle.rtc_run_laws.proofs.AsReadSdps.{fits_as_read, lines_as_read}
use Rattle.rtc_run_laws.proofs.FinishedRounds.{answer_taken, remote_answer, taken_whole}
use Rattle.rtc_run_laws.proofs.PastTables.{past_table}
use Rattle.rtc_run_laws.proofs.ReadPasts.{read_at}
use Rattle.rtc_run_laws.proofs.RoundRows.{HeadPasses}
use Rattle.rtc_run_laws.proofs.RowNames.{Aligned, aligned_self, aligned_trans, length-aligned}
use Rattle.rtc_run_laws.proofs.RowsFollow.{FindsNew, Follows, SayApps, after_aligned, all_left, follows_allowed, follows_right, follows_say}
use Rattle.rtc_run_laws.proofs.SoundPasts.{Sound}
use Rattle.rtc_run_laws.proofs.Tells.{same_side-other, same_side-self}
use Rattle.rtc_run_laws.proofs.CrossedRounds.{CrossAnswer, CrossOffer, Replies, read_same}

-- ---- an answer is accepted

finds_each : (news rows : List LineRow) → ((k : ℕ) (row : LineRow) → slice_get rows k ≡ Some row → row_of news (row_mid row) ≡ Some row) → FindsNew news [] rows
finds_each news [] each = tt
finds_each news (row ∷ rows) each = (each zero row refl, finds_each news rows (λ k other there. each (suc k) other there))

finds_past : (news front rows : List LineRow) → Aligned front rows → FindsNew news [] news → FindsNew news rows (front ++ news)
finds_past news [] [] same finds = finds
finds_past news (row ∷ front) (other ∷ rows) same finds = finds_past news front rows same.1 finds
finds_past news front rows same finds = absurd same

cross_finds : (offer : CrossOffer) (rows : List LineRow) → Aligned offer.front rows → FindsNew offer.more rows (offer.front ++ offer.more)
cross_finds offer rows same =
    finds_past offer.more offer.front rows same
    (finds_each offer.more offer.more (λ k row there. row_of_its_mid offer.more k row (added_distinct offer.may (map row_mid offer.front) (length offer.front) offer.more offer.new) there))

reply_unrefused : (view : Held) (restarts says_init : Bool) (offer : CrossOffer) (more : List LineRow) (sdp : Sdp) → IsTable view.lines → Follows view.lines view.lines more → OneApp more → Aligned (offer.front ++ offer.more) more → Aligned offer.front view.lines
    → parsed_lines sdp ≡ map row_said more → inconsistency sdp ≡ None → HeadPasses view restarts sdp
    → verdict view (Some (record { added = offer.more; restarts = restarts; says_init = says_init })) sdp ≡ None
unfolding verdict head_verdict
reply_unrefused view restarts says_init offer more sdp table follows one same kept says fits head =
    let rows : List LineRow = view.lines in
    let allowed = follows_allowed rows false false 0 rows more table (all_left rows) follows one tt in
    let count : length (new_places rows 0 (map row_said more)) ≡ (0 + length (map row_said more)) - max 0 (length rows) = new_count rows false 0 (map row_said more) table.rising allowed in
    let lines : length (map row_said more) ≡ length more = length-map more row_said in
    let all : length more ≡ length (offer.front ++ offer.more) = length-aligned (offer.front ++ offer.more) more same in
    let both : length (offer.front ++ offer.more) ≡ length offer.front + length offer.more = length-append offer.front offer.more in
    let few : length rows ≡ length offer.front = length-aligned offer.front rows kept in
    let right : (length offer.more == length (new_places rows 0 (map row_said more))) ≡ true = eq-eqb (length offer.more) (length (new_places rows 0 (map row_said more))) (omega arith) in
    rw (says, head.side, head.init, fits, allowed, right, follows_right rows offer.more 0 rows (offer.front ++ offer.more) more table (all_left rows) follows same offer.whole.rising (cross_finds offer rows kept)) refl

-- The answer may be delivered to the side that offered, which does not refuse it for its rows.
pub record MayFinish {E : Type 0} (answer : CrossAnswer) (at : Side) (n m : ℕ) (past : List (Entry E)) : Type 0 where
  pub held : holds_token at n past ≡ true
  pub right : is_right at n past ≡ true
  pub remote_is : remote_sdp false at m past ≡ Readable (as_read answer.sdp)
  pub leaves : table_after (before at past) (parsed_lines (as_read answer.sdp)) false ≡ rows_after (before at past) false 0 (map row_said answer.rows)

pub may_finish : {E : Type 0} → (offer : CrossOffer) (answer : CrossAnswer) (at : Side) (n m : ℕ) (past : List (Entry E)) → AreReadBack (sdps past) → Replies offer answer at n m past → MayFinish answer at n m past
may_finish offer answer at n m past read it =
    let mine : List LineRow = before at past in
    let few : length mine ≡ length offer.front = length-aligned offer.front mine it.has.kept in
    let lines : length (map row_said answer.rows) ≡ length answer.rows = length-map answer.rows row_said in
    record {
      held = rw (it.has.there, it.has.unspent, same_side-self at) refl;
      right = it.has.right;
      remote_is = ap (λ said. signalled_if (sdp_for false at said)) it.replied.there ∙ ap signalled_if (remote_answer at answer.sdp)
          ∙ read_at past m _ read it.replied.there;
      leaves = ap (λ list. table_after mine list false) (lines_as_read answer.sdp ∙ answer.says)
          ∙ taken_whole mine (map row_said answer.rows) false (omega (arith, few, lines, length-aligned (offer.front ++ offer.more) answer.rows it.replied.offered, length-append offer.front offer.more));
    }

pub finish_passes : {E : Type 0} → (fresh : Stances) (offer : CrossOffer) (answer : CrossAnswer) (at : Side) (n m : ℕ) (past : List (Entry E)) (view : Held) → Sound fresh past → Replies offer answer at n m past → view.lines ≡ before at past
    → (restarts : Bool) → (asked_in at n past).restarts ≡ restarts → HeadPasses view restarts (as_read answer.sdp)
    → verdict view (Some (asked_in at n past)) (as_read answer.sdp) ≡ None
finish_passes fresh offer answer at n m past view sound it is restarts again head =
    let few : length (before at past) ≡ length offer.front = length-aligned offer.front (before at past) it.has.kept in
    let adds : added_by (length (before at past)) n past ≡ offer.more = ap (λ (k : ℕ). added_by k n past) few ∙ it.has.adds in
    rw (adds, again) (reply_unrefused view restarts (init_told_by n past) offer answer.rows (as_read answer.sdp) (subst IsTable (sym is) (past_table fresh past at sound))
    (rw is (it.replied.mine)) answer.table.one_app it.replied.offered (rw is it.has.kept) (lines_as_read answer.sdp ∙ answer.says)
    (fits_as_read answer.sdp ∙ answer.fits) head)

-- what both sides are left with: the names that the answer says
pub record Meets {E : Type 0} (offer : CrossOffer) (at : Side) (past : List (Entry E)) : Type 0 where
  pub mine : Aligned (offer.front ++ offer.more) (before at past)
  pub theirs : Aligned (offer.front ++ offer.more) (before (other_side at) past)

pub met_next : {E : Type 0} → (fresh between : Stances) (offer : CrossOffer) (answer : CrossAnswer) (at : Side) (n m : ℕ) (past : List (Entry E)) (table : Table) (made : List MadeSdp) → AreReadBack (sdps past) → Sound fresh past → Replies offer answer at n m past
    → IsSound fresh past between (AcceptAnswer at n m) Finished (Some table) made → Meets offer at (entry (AcceptAnswer at n m) Finished (Some table) made ∷ past)
met_next {E} fresh between offer answer at n m past table made read sound out replied =
    let may : MayFinish answer at n m past = may_finish offer answer at n m past read out in
    let it = answer_taken E (holds_token at n past) (is_right at n past) (asked_in at n past) (remote_sdp false at m past) (view_in fresh at past (held_by (between at))) table.lines replied.0 in
    let text_is : it.answer ≡ as_read answer.sdp = read_same _ _ (sym it.is ∙ may.remote_is) in
    let after : table.lines ≡ rows_after mine false 0 (map row_said rows) = it.leaves ∙ ap (λ sdp. table_after mine (parsed_lines sdp) false) text_is ∙ may.leaves in
    let apps : SayApps mine rows = follows_say mine 0 mine rows (past_table fresh past at sound) (all_left mine) out.replied.mine in
    let names : Aligned rows table.lines = rw after (after_aligned mine false 0 rows rows apps (aligned_self rows)) in
    record {
      mine = rw (same_side-self at) (aligned_trans (offer.front ++ offer.more) rows table.lines out.replied.offered names);
      theirs = rw (same_side-other at) (aligned_trans (offer.front ++ offer.more) rows (before (other_side at) past) out.replied.offered out.replied.theirs);
    }
  where
    mine : List LineRow
    mine = before at past

    rows : List LineRow
    rows = answer.rows
