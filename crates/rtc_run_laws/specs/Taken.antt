-- What the acceptance of a session description (SDP) leaves, by the rows that it says (RFC 8829, sections 5.10 and 5.11).
use Rattle.std.specs.Prelude.{◌≡◌, ◌==◌, ◌&&◌, ℕ, Bool, true, false, List, [], ◌∷◌, ◌++◌, map, length, if◌then◌else◌, Option, Some}
use Rattle.rtc_sdp_values.specs.declared.line_row.LineRow.{LineRow}
use Rattle.rtc_change.specs.TableAfter.{table_after}
use Rattle.rtc_peer_rows.specs.ParsedLines.{parsed_lines}
use Rattle.rtc_peer_core.specs.Meanings.{Meanings}
use Rattle.rtc_run_history.specs.declared.reply.Reply.{Reply}
use Rattle.rtc_run_history.specs.declared.step.Step.{Step}
use Rattle.rtc_run_history.specs.declared.step.Step.TheVariants.{AcceptOffer, AcceptAnswer, ForeignOffer, ForeignAnswer}
use Rattle.rtc_run_history.specs.declared.outcome.Outcome.{Outcome}
use Rattle.rtc_run_history.specs.declared.outcome.Outcome.TheVariants.{Answered, Finished}
use Rattle.rtc_run_history.specs.declared.table.Table.{Table}
use Rattle.rtc_run_history.specs.Fresh.{ArePeersFormed}
use Rattle.rtc_run_history.specs.PairState.{PairState}
use Rattle.rtc_run_history.specs.Past.{Entry, MadeSdp, before, sdps, added_in, table_rows}
use Rattle.rtc_run_history.specs.Runs.{Runs}
use Rattle.rtc_run_history.specs.SaidRows.{row_said}
use Rattle.rtc_run_history.specs.Signalled.{Signalled, NotMade, Unreadable, Readable, foreign}

-- whether a step made an SDP
abbrev pub made_one : List MadeSdp → Bool
made_one [] = false
made_one (said ∷ more) = true

-- the rows that the SDP of a number says: those of its side when it was made, then those that its step added
abbrev pub rows_said : {E : Type 0} → ℕ → List (Entry E) → List LineRow
rows_said k [] = []
rows_said k (entry ∷ past) =
    if made_one entry.made && (length (sdps past) == k)
    then table_rows entry.table ++ added_in (length (table_rows entry.table)) entry.step entry.outcome entry.table entry.made
    else rows_said k past

-- the table leaves what these rows say of the rows from before
abbrev pub TakesRows : (offer : Bool) → (earlier said after : List LineRow) → Type 0
TakesRows offer earlier said after = after ≡ table_after earlier (map row_said said) offer

-- the same of a text that anybody wrote
abbrev pub TakesForeign : (offer : Bool) → (earlier : List LineRow) → Signalled → (after : List LineRow) → Type 0
TakesForeign offer earlier NotMade after = ⊥
TakesForeign offer earlier (Unreadable line) after = ⊥
TakesForeign offer earlier (Readable sdp) after = after ≡ table_after earlier (parsed_lines sdp) offer

-- each SDP that a step had its side accept was taken so
abbrev pub TakesSaid : {E : Type 0} → List (Entry E) → Step → Outcome E → Option Table → Type 0
TakesSaid past (AcceptOffer at k) (Answered a) (Some table) = TakesRows true (before at past) (rows_said k past) table.lines
TakesSaid past (AcceptAnswer at t a) Finished (Some table) = TakesRows false (before at past) (rows_said a past) table.lines
TakesSaid past (ForeignOffer at text) (Answered a) (Some table) = TakesForeign true (before at past) (foreign text) table.lines
TakesSaid past (ForeignAnswer at t text) Finished (Some table) = TakesForeign false (before at past) (foreign text) table.lines
TakesSaid past step outcome table = Unit {0}

-- so it is with each step of a past
abbrev pub AllTaken : {E : Type 0} → List (Entry E) → Type 0
AllTaken [] = Unit {0}
AllTaken (entry ∷ past) = TakesSaid past entry.step entry.outcome entry.table × AllTaken past

-- so it is in each run of formed peers
abbrev pub RunsTakeTexts : {I D S M E X T W N : Type 0} → Meanings I D S M E X T W N → (stun : List ℕ → Bool) → Type 0
RunsTakeTexts {I} {D} {S} {M} {E} {X} {T} {W} {N} m stun =
    (start pair : PairState I D S M N) (steps : List Step) (replies : List (Reply E))
    → ArePeersFormed m start
    → (run : Runs m stun start steps replies pair)
    → AllTaken run.past
