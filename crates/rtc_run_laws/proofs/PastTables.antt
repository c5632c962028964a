-- The rows that a past says of a side are a table.
use Rattle.rtc_parts.specs.declared.dtls_error.DtlsError.TheVariants.{Fault}
use Rattle.std.proofs.Common.{◌≡◌, ℕ, Bool, true, false, List, [], ◌∷◌, Option, Some, None, refl, sym, ap, subst}
use Rattle.rtc_sdp_values.specs.declared.line_row.LineRow.{LineRow}
use Rattle.rtc_change.specs.Held.{Held, Asked}
use Rattle.rtc_peer_rows.specs.Table.{IsTable}
use Rattle.rtc_peer_rows.proofs.RowChangeLemmas.{table_alike}
use Rattle.rtc_change.proofs.VerdictLemmas.{unrefused_table}
use Rattle.rtc_peer_core.specs.declared.rtc_error.RtcError.TheVariants.{RemoteSdp, Sdp as SdpRefused, ChangesOutOfOrder, Alloc as PeerAlloc, Dtls, Sctp, Glare}
use Rattle.rtc_run_history.specs.Signalled.{Signalled, NotMade, Unreadable, Readable, foreign}
use Rattle.rtc_run_history.specs.declared.side.Side.{Side}
use Rattle.rtc_run_history.specs.declared.step.Step.{Step}
use Rattle.rtc_run_history.specs.declared.step.Step.TheVariants.{Negotiate, AcceptOffer, AcceptAnswer, Time, Datagram, Poll, Drain, Write, CloseChannel, Close, Rollback, ForeignOffer, ForeignAnswer, Raw}
use Rattle.rtc_run_history.specs.declared.outcome.Outcome.{Outcome}
use Rattle.rtc_run_history.specs.declared.outcome.Outcome.TheVariants.{Negotiated, Answered, Finished, Done, Refused, NoSuch, Alloc}
use Rattle.rtc_run_history.specs.declared.table.Table.{Table}
use Rattle.rtc_run_history.specs.Sides.{same_side, side_of}
use Rattle.rtc_run_history.specs.Past.{Entry, MadeSdp, new_app, before, rows_or, remote_sdp, holds_token, is_right}
use Rattle.rtc_run_history.specs.Rounds.{before_last, makes_offer}
use Rattle.rtc_run_history.specs.Sound.{RepliesToOffer, RepliesToAnswer, RepliesToRollback, IsSound, asked_in, at_first, is_glare_at}
use Rattle.rtc_run_history.specs.Undone.{places_changed_by, rows_undone, table_shown, table_undone}
use Rattle.rtc_run_laws.proofs.SoundPasts.{Sound}
use Rattle.rtc_run_laws.proofs.Tells.{same_side-true}
use Rattle.rtc_run_laws.proofs.OpRows.{ops_table}
use Rattle.rtc_run_laws.proofs.Takings.{offer_taking, answer_taking, foreign_offer_taking, foreign_answer_taking, rollback_taking}
use Rattle.rtc_run_laws.proofs.UndoneRows.{undone_alike}
use Rattle.rtc_run_history.specs.Views.{Stances, view_in}
use Rattle.rtc_peer_core.specs.Stance.{held_by}

same_table : (rows after : List LineRow) → after ≡ rows → IsTable rows → IsTable after
same_table rows after same table = subst IsTable (sym same) table

taken_table : {E : Type 0} → (glare : Bool) (sdp : Signalled) (view : Held) (next : ℕ) (outcome : Outcome E) (after : List LineRow) → RepliesToOffer glare sdp view next outcome after → IsTable view.lines → IsTable after
taken_table true NotMade view next NoSuch after takes table = same_table view.lines after takes table
taken_table false NotMade view next NoSuch after takes table = same_table view.lines after takes table
taken_table true (Unreadable line) view next (Refused error) after takes table = same_table view.lines after takes.1 table
taken_table false (Unreadable line) view next (Refused error) after takes table = same_table view.lines after takes.1 table
taken_table false (Readable sdp) view next (Answered k) after takes table = same_table _ after takes.1 (unrefused_table view None sdp table takes.0)
taken_table false (Readable sdp) view next (Refused (RemoteSdp why)) after takes table = same_table view.lines after takes.1 table
taken_table false (Readable sdp) view next (Refused (SdpRefused error)) after takes table = same_table view.lines after takes.1 table
taken_table false (Readable sdp) view next (Refused (Dtls Fault)) after takes table = same_table view.lines after takes.1 table
taken_table false (Readable sdp) view next (Refused (Sctp error)) after takes table = same_table view.lines after takes.2 table
taken_table false (Readable sdp) view next (Refused PeerAlloc) after takes table = same_table view.lines after takes table
taken_table true (Readable sdp) view next (Refused Glare) after takes table = same_table view.lines after takes table
taken_table glare sdp view next outcome after takes table = absurd takes

answer_table : {E : Type 0} → (held right : Bool) (asked : Asked) (sdp : Signalled) (view : Held) (outcome : Outcome E) (after : List LineRow)
    → RepliesToAnswer held right asked sdp view outcome after → IsTable view.lines → IsTable after
answer_table false right asked sdp view NoSuch after takes table = same_table view.lines after takes table
answer_table true right asked NotMade view NoSuch after takes table = same_table view.lines after takes table
answer_table true right asked (Unreadable line) view (Refused error) after takes table = same_table view.lines after takes.1 table
answer_table true false asked (Readable sdp) view (Refused ChangesOutOfOrder) after takes table = same_table view.lines after takes table
answer_table true true asked (Readable sdp) view Finished after takes table = same_table _ after takes.1 (unrefused_table view (Some asked) sdp table takes.0)
answer_table true true asked (Readable sdp) view (Refused (RemoteSdp why)) after takes table = same_table view.lines after takes.1 table
answer_table true true asked (Readable sdp) view (Refused (SdpRefused error)) after takes table = same_table view.lines after takes.1 table
answer_table true true asked (Readable sdp) view (Refused (Dtls Fault)) after takes table = same_table view.lines after takes.1 table
answer_table true true asked (Readable sdp) view (Refused (Sctp error)) after takes table = same_table view.lines after takes.2 table
answer_table true true asked (Readable sdp) view (Refused PeerAlloc) after takes table = same_table view.lines after takes table
answer_table held right asked sdp view outcome after takes table = absurd takes

-- rows that are undone are a table again
rollback_table : {E : Type 0} → (held right : Bool) (earlier undone : Table) (outcome : Outcome E) (table : Table) → RepliesToRollback held right earlier undone outcome table → IsTable earlier.lines → IsTable undone.lines → IsTable table.lines
rollback_table false right earlier undone NoSuch table replied before_it after_it = same_table earlier.lines table.lines (ap (λ (t : Table). t.lines) replied) before_it
rollback_table true false earlier undone (Refused ChangesOutOfOrder) table replied before_it after_it = same_table earlier.lines table.lines (ap (λ (t : Table). t.lines) replied) before_it
rollback_table true true earlier undone Done table replied before_it after_it = same_table undone.lines table.lines (ap (λ (t : Table). t.lines) replied) after_it
rollback_table held right earlier undone outcome table replied before_it after_it = absurd replied

undone_table : {E : Type 0} → (at : Side) (t : ℕ) (past : List (Entry E)) → IsTable (before at past) → IsTable (table_undone at t past).lines
undone_table at t past table =
    let earlier : List LineRow = before at (before_last (makes_offer t) past) in
    table_alike (before at past) (rows_undone (places_changed_by t past) 0 earlier (before at past)) (undone_alike (places_changed_by t past) 0 earlier (before at past)) table

-- a reply that is sound leaves a table of a table
pub reply_table : {E : Type 0} → (fresh between : Stances) (past : List (Entry E)) (step : Step) (outcome : Outcome E) (table : Option Table) (made : List MadeSdp) → IsSound fresh past between step outcome table made
    → IsTable (before (side_of step) past) → IsTable (rows_or true table (before (side_of step) past))
reply_table fresh between past step Alloc None made sound table = table
reply_table fresh between past (Negotiate at ops apply) (Negotiated answers what) (Some after) made sound table = ops_table (at_first (between at) at past (new_app after.lines made)) ops answers after.lines sound.0 table
reply_table fresh between past (AcceptOffer at offer) outcome (Some after) made sound table =
    taken_table (is_glare_at fresh at past) (remote_sdp true at offer past) (view_in fresh at past (held_by (between at))) _ outcome after.lines (offer_taking fresh between past at offer outcome after made sound) table
reply_table fresh between past (AcceptAnswer at token answer) outcome (Some after) made sound table =
    answer_table (holds_token at token past) (is_right at token past) (asked_in at token past) (remote_sdp false at answer past) (view_in fresh at past (held_by (between at))) outcome after.lines (answer_taking fresh between past at token answer outcome after made sound) table
reply_table fresh between past (Time at now) outcome (Some after) made sound table = same_table (before at past) after.lines sound.1 table
reply_table fresh between past (Datagram at packet now) outcome (Some after) made sound table = same_table (before at past) after.lines sound.1 table
reply_table fresh between past (Poll at) outcome (Some after) made sound table = same_table (before at past) after.lines sound.1 table
reply_table fresh between past (Drain at) outcome (Some after) made sound table = same_table (before at past) after.lines sound.1 table
reply_table fresh between past (Write at channel binary bytes) outcome (Some after) made sound table = same_table (before at past) after.lines sound.1 table
reply_table fresh between past (CloseChannel at channel) outcome (Some after) made sound table = same_table (before at past) after.lines sound.1 table
reply_table fresh between past (Close at) outcome (Some after) made sound table = same_table (before at past) after.lines sound.1 table
reply_table fresh between past (Raw at bytes now) outcome (Some after) made sound table = same_table (before at past) after.lines sound.1 table
reply_table fresh between past (Rollback at t) outcome (Some after) made sound table =
    rollback_table (holds_token at t past) (is_right at t past) (table_shown at past) (table_undone at t past) outcome after (rollback_taking fresh between past at t outcome after made sound) table (undone_table at t past table)
reply_table fresh between past (ForeignOffer at text) outcome (Some after) made sound table =
    taken_table (is_glare_at fresh at past) (foreign text) (view_in fresh at past (held_by (between at))) _ outcome after.lines (foreign_offer_taking fresh between past at text outcome after made sound) table
reply_table fresh between past (ForeignAnswer at t text) outcome (Some after) made sound table =
    answer_table (holds_token at t past) (is_right at t past) (asked_in at t past) (foreign text) (view_in fresh at past (held_by (between at))) outcome after.lines (foreign_answer_taking fresh between past at t text outcome after made sound) table
reply_table fresh between past step outcome after made sound table = absurd sound

-- The rows of a side are a table.
pub past_table : {E : Type 0} → (fresh : Stances) (past : List (Entry E)) (at : Side) → Sound fresh past → IsTable (before at past)
past_table fresh [] at sound = record { rising = tt; distinct = tt; one_app = tt }
past_table fresh (entry ∷ past) at sound = by (λ side. past_table fresh past side sound.1) (same_side (side_of entry.step) at) refl
  where
    by : ((side : Side) → IsTable (before side past)) → (mine : Bool) → same_side (side_of entry.step) at ≡ mine → IsTable (rows_or mine entry.table (before at past))
    by earlier true is =
        let here : side_of entry.step ≡ at = same_side-true (side_of entry.step) at is in
        subst (λ (side : Side). IsTable (rows_or true entry.table (before side past))) here
        (reply_table fresh sound.0.between past entry.step entry.outcome entry.table entry.made sound.0.sound.replied (earlier (side_of entry.step)))
    by earlier false is = earlier at
