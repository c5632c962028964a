-- An accepted answer that is its token's own ends the round: both ends are as was agreed.
use Rattle.rtc_peer_rows.specs.Verdict.{first_refusal}
use Rattle.std.proofs.Common.{◌≡◌, ◌≤◌, ◌+◌, ℕ, Bool, true, false, not, List, [], ◌∷◌, ◌++◌, map, length, Option, Some, None, refl, sym, ◌∙◌, ap, subst, arith, max, inl, inr, append-nil, length-append}
use Rattle.std.specs.Prelude.{slice_get}
use Rattle.std.specs.Str.{bytes_eq}
use Rattle.std.proofs.lemmas.Bool.{or_parts, and_parts, both_ways, not-true}
use Rattle.std.proofs.lemmas.List.{length-map, drop_all}
use Rattle.rtc_sdp_values.specs.LineRow.{row_mid}
use Rattle.rtc_sdp_values.specs.declared.line_row.LineRow.{LineRow}
use Rattle.rtc_sdp_values.specs.declared.line_row.LineRow.TheVariants.{Media, App}
use Rattle.rtc_sdp_values.specs.declared.sdp.Sdp.{Sdp}
use Rattle.rtc_peer_rows.specs.declared.parsed_line.ParsedLine.{ParsedLine}
use Rattle.rtc_sdp_values.specs.Mids.{is_among}
use Rattle.rtc_change.specs.Held.{Held, Asked}
use Rattle.rtc_change.specs.Plans.{verdict, wrong_news}
use Rattle.rtc_peer_rows.specs.ParsedLines.{parsed_lines}
use Rattle.rtc_peer_rows.specs.Table.{IsTable, Rising, has_mid, row_of}
use Rattle.rtc_change.specs.TableAfter.{table_after, rows_after}
use Rattle.rtc_peer_rows.proofs.TableLemmas.{row_of_its_mid, has_mid_row_of}
use Rattle.rtc_change.proofs.TableAfterLemmas.{length_table_after, length_rows_after}
use Rattle.rtc_change.proofs.VerdictLemmas.{unrefused}
use Rattle.rtc_run_history.specs.Signalled.{Signalled, NotMade, Unreadable, Readable, signalled_if}
use Rattle.rtc_run_history.specs.declared.side.Side.{Side}
use Rattle.rtc_run_history.specs.declared.side.Side.TheVariants.{Left, Right}
use Rattle.rtc_run_history.specs.declared.step.Step.{Step}
use Rattle.rtc_run_history.specs.declared.step.Step.TheVariants.{AcceptAnswer}
use Rattle.rtc_run_history.specs.declared.outcome.Outcome.{Outcome}
use Rattle.rtc_run_history.specs.declared.outcome.Outcome.TheVariants.{Finished}
use Rattle.rtc_run_history.specs.declared.table.Table.{Table}
use Rattle.rtc_run_history.specs.Sides.{other_side}
use Rattle.rtc_run_history.specs.Past.{Entry, MadeSdp, before, sdps, sdp_for, remote_sdp, is_offer_of, holds_token, is_spent, is_right, added_by}
use Rattle.rtc_run_history.specs.Sound.{RepliesToAnswer, IsSound, asked_in}
use Rattle.rtc_run_history.specs.SaidRows.{row_said}
use Rattle.rtc_run_history.specs.Finished.{FinishedRound}
use Rattle.rtc_run_history.specs.Rounds.{before_last, through_last, makes_answer, is_own, has_set, rows_at_offer, EndsRound, FinishesRound}
use Rattle.rtc_run_laws.proofs.SoundPasts.{Sound}
use Rattle.rtc_run_laws.proofs.AddedRows.{AreAdded, added_rising, among_mids, rising_append}
use Rattle.rtc_run_laws.proofs.FinishedRows.{IsKnown, AllKnown, known_each, rows_finished}
use Rattle.rtc_run_laws.proofs.AnswerCounts.{answer_count}
use Rattle.rtc_run_laws.proofs.PastTables.{past_table}
use Rattle.rtc_run_laws.proofs.PastOffers.{past_offer}
use Rattle.rtc_run_laws.proofs.PastAnswers.{TookOffer, past_answer}
use Rattle.rtc_run_laws.proofs.PastRows.{rows_since}
use Rattle.rtc_run_history.specs.Views.{Stances, AreFormed, view_in}
use Rattle.rtc_sdp_writer.specs.AsRead.{as_read}
use Rattle.rtc_run_laws.proofs.AsReadSdps.{lines_as_read}
use Rattle.rtc_run_laws.proofs.ReadPasts.{past_read, read_at}
use Rattle.rtc_peer_core.specs.Stance.{held_by}

-- ---- the rows of an offer

-- a row of a table is what it knows of the row's mid
row_known : (offerer : List LineRow) (row : LineRow) → row_of offerer (row_mid row) ≡ Some row → IsKnown offerer row
row_known offerer (Media place mid kind dir stopped remote_created) found = inl found
row_known offerer (App place mid) found = tt

pub none_of_mid : (rows : List LineRow) (mid : List ℕ) (found : Option LineRow) → row_of rows mid ≡ found → has_mid mid rows ≡ false → found ≡ None
none_of_mid rows mid None is none = refl
none_of_mid rows mid (Some row) is none = absurd (let e : has_mid mid rows ≡ true = rw (has_mid_row_of rows mid, is) refl in both_ways (has_mid mid rows) none e)

known_append : (offerer rows more : List LineRow) → AllKnown offerer rows → AllKnown offerer more → AllKnown offerer (rows ++ more)
known_append offerer [] more known other = other
known_append offerer (row ∷ rows) more known other = (known.0, known_append offerer rows more known.1 other)

-- added rows are new
added_known : (offerer : List LineRow) (may : Bool) (held : List (List ℕ)) (place : ℕ) (rows : List LineRow) → AreAdded may held place rows
    → ((mid : List ℕ) → is_among held mid ≡ false → has_mid mid offerer ≡ false) → AllKnown offerer rows
added_known offerer may held place [] new apart = tt
added_known offerer may held place (Media at mid kind dir stopped remote_created ∷ rows) new apart = (
  inr (none_of_mid offerer mid (row_of offerer mid) refl (apart mid new.0.free), new.0.live, new.0.own),
  added_known offerer may (mid ∷ held) (place + 1) rows new.1 (λ other apart_it. apart other (or_parts (bytes_eq mid other) (is_among held other) apart_it).1),
)
added_known offerer may held place (App at mid ∷ rows) new apart =
    (tt, added_known offerer false (mid ∷ held) (place + 1) rows new.1 (λ other apart_it. apart other (or_parts (bytes_eq mid other) (is_among held other) apart_it).1))

-- What is known of the rows of an offer at its side.
record OfferedRows (offerer added : List LineRow) : Type 0 where
  table : IsTable offerer
  known : AllKnown offerer (offerer ++ added)
  rising : Rising 0 (offerer ++ added)

offered_known : (offerer more : List LineRow) (may : Bool) → IsTable offerer → AreAdded may (map row_mid offerer) (length offerer) more → OfferedRows offerer more
offered_known offerer more may table new = record {
  table = table;
  known = known_append offerer offerer more
      (known_each offerer offerer (λ k row there. row_known offerer row (row_of_its_mid offerer k row table.distinct there)))
      (added_known offerer may (map row_mid offerer) (length offerer) more new (λ mid apart. sym (among_mids offerer mid) ∙ apart));
  rising = rising_append 0 offerer more table.rising
      (subst (λ (n : ℕ). Rising n more) (let e : length offerer ≡ 0 + length offerer = omega arith in e) (added_rising may (map row_mid offerer) (length offerer) more new));
}

-- ---- both ends

-- an SDP with at least as many lines as there are rows leaves a row for each line
pub taken_whole : (rows : List LineRow) (said : List ParsedLine) (offer : Bool) → length rows ≤ length said → table_after rows said offer ≡ rows_after rows offer 0 said
taken_whole rows said offer more = ap (λ rest. rows_after rows offer 0 said ++ rest) (drop_all (length said) rows more) ∙ append-nil (rows_after rows offer 0 said)

-- What an offer that is table_after and an answer that is table_after leave, where the answer has a line for each line of the offer.
round_finished : (offerer added before : List LineRow) → OfferedRows offerer added
    → length (table_after before (map row_said (offerer ++ added)) true) ≡ length (offerer ++ added)
    → FinishedRound offerer added before (table_after before (map row_said (offerer ++ added)) true) (table_after offerer (map row_said (table_after before (map row_said (offerer ++ added)) true)) false)
round_finished offerer added before rows count =
    let said : List ParsedLine = map row_said (offerer ++ added) in
    let lines : length said ≡ length (offerer ++ added) = length-map (offerer ++ added) row_said in
    let few : length before ≤ length said = omega (arith, length_table_after before said true) in
    let answer_is : table_after before said true ≡ rows_after before true 0 said = taken_whole before said true few in
    let answer_lines : length (map row_said (rows_after before true 0 said)) ≡ length said = length-map (rows_after before true 0 said) row_said ∙ length_rows_after before true 0 said in
    let left_is : table_after offerer (map row_said (rows_after before true 0 said)) false ≡ rows_after offerer false 0 (map row_said (rows_after before true 0 said)) =
    taken_whole offerer (map row_said (rows_after before true 0 said)) false (omega (arith, length-append offerer added)) in
    let finished = rows_finished offerer before 0 (offerer ++ added) rows.rising rows.known in
    rw (answer_is, left_is) (record { agreed = finished.agreed; equal = finished.equal; mirrored = finished.mirrored })

-- an answer that is not refused has a line for each line of its offer
answer_lines : (view : Held) (asked : Asked) (offerer added before : List LineRow) (sdp : Sdp) → view.lines ≡ offerer → asked.added ≡ added → OfferedRows offerer added
    → parsed_lines sdp ≡ map row_said (table_after before (map row_said (offerer ++ added)) true) → verdict view (Some asked) sdp ≡ None
    → length (table_after before (map row_said (offerer ++ added)) true) ≡ length (offerer ++ added)
answer_lines view asked offerer added before sdp lines_are adds rows says passes =
    let said : List ParsedLine = map row_said (offerer ++ added) in
    let answer : List LineRow = table_after before said true in
    let free = unrefused view (Some asked) sdp passes in
    let allowed : first_refusal offerer false false 0 (parsed_lines sdp) ≡ None = rw (← lines_are) free.allowed in
    let news : wrong_news offerer (Some asked) (parsed_lines sdp) ≡ None = rw (← lines_are) free.news in
    let lines : length said ≡ length (offerer ++ added) = length-map (offerer ++ added) row_said in
    let both : length (offerer ++ added) ≡ length offerer + length added = length-append offerer added in
    let most : length answer ≡ max (length before) (length said) = length_table_after before said true in
    let back : length (parsed_lines sdp) ≡ length answer = ap length says ∙ length-map answer row_said in
    omega (arith, answer_count offerer added asked (parsed_lines sdp) rows.table.rising allowed news adds (omega arith))

-- ---- the past

same_sdp : (one other : Sdp) → Readable one ≡ Readable other → one ≡ other
same_sdp one other same = cc

-- the answer of the other side is what is delivered
pub remote_answer : (at : Side) (sdp : Sdp) → sdp_for false at (Some (record { at = other_side at; offer = false; sdp = sdp })) ≡ Some sdp
remote_answer Left sdp = refl
remote_answer Right sdp = refl

-- the offer of a side is what the other one is delivered
pub remote_offer : (at : Side) (sdp : Sdp) → sdp_for true (other_side at) (Some (record { at = at; offer = true; sdp = sdp })) ≡ Some sdp
remote_offer Left sdp = refl
remote_offer Right sdp = refl

-- What an answer that is accepted came with.
pub record AnswerAccepted (held right : Bool) (asked : Asked) (sdp : Signalled) (view : Held) (after : List LineRow) : Type 0 where
  pub answer : Sdp
  pub held_is : held ≡ true
  pub right_is : right ≡ true
  pub is : sdp ≡ Readable answer
  pub passes : verdict view (Some asked) answer ≡ None
  pub leaves : after ≡ table_after view.lines (parsed_lines answer) false

pub answer_taken : (E : Type 0) (held right : Bool) (asked : Asked) (sdp : Signalled) (view : Held) (after : List LineRow) → RepliesToAnswer {E = E} held right asked sdp view Finished after → AnswerAccepted held right asked sdp view after
answer_taken E true true asked (Readable sdp) view after takes = record { answer = sdp; held_is = refl; right_is = refl; is = refl; passes = takes.0; leaves = takes.1 }
answer_taken E true true asked NotMade view after takes = absurd takes
answer_taken E true true asked (Unreadable line) view after takes = absurd takes
answer_taken E true false asked NotMade view after takes = absurd takes
answer_taken E true false asked (Unreadable line) view after takes = absurd takes
answer_taken E true false asked (Readable sdp) view after takes = absurd takes
answer_taken E false right asked sdp view after takes = absurd takes

-- the same of equal rows and SDPs
ends_alike : (view : Held) (asked : Asked) (offerer added before answerer after : List LineRow) (offer answer : Sdp) → view.lines ≡ offerer → asked.added ≡ added → OfferedRows offerer added
    → TookOffer before answerer offer answer → parsed_lines offer ≡ map row_said (offerer ++ added)
    → verdict view (Some asked) answer ≡ None → after ≡ table_after view.lines (parsed_lines answer) false
    → FinishedRound offerer added before answerer after
ends_alike view asked offerer added before answerer after offer answer lines_are adds rows took says passes leaves =
    let answerer_is : answerer ≡ table_after before (map row_said (offerer ++ added)) true = took.leaves ∙ ap (λ said. table_after before said true) says in
    let answer_says : parsed_lines answer ≡ map row_said (table_after before (map row_said (offerer ++ added)) true) = took.says ∙ ap (map row_said) answerer_is in
    let after_is : after ≡ table_after offerer (map row_said (table_after before (map row_said (offerer ++ added)) true)) false = leaves ∙ ap (λ list. table_after list (parsed_lines answer) false) lines_are ∙ ap (λ said. table_after offerer said false) answer_says in
    rw (answerer_is, after_is) (round_finished offerer added before rows (answer_lines view asked offerer added before answer lines_are adds rows answer_says passes))

ends_round : {E : Type 0} → (fresh : Stances) (past : List (Entry E)) (at : Side) (t a : ℕ) (view : Held) (after : List LineRow) → AreFormed fresh → Sound fresh past
    → AnswerAccepted (holds_token at t past) (is_right at t past) (asked_in at t past) (remote_sdp false at a past) view after → view.lines ≡ before at past
    → is_own at t a past ≡ true → has_set at t past ≡ false → EndsRound at t a past after
ends_round fresh past at t a view after formed sound accepts seen own unset =
    let read = past_read fresh past formed sound in
    let held = and_parts (is_offer_of at (slice_get (sdps past) t)) (not (is_spent t past)) accepts.held_is in
    let offer = past_offer fresh at t past sound accepts.right_is held.0 in
    let answer = past_answer fresh at t a past sound own in
    let rows : before at past ≡ rows_at_offer at t past = rows_since fresh past at t sound accepts.right_is held.0 (not-true (is_spent t past) held.1) unset in
    let table : IsTable (rows_at_offer at t past) = subst IsTable rows (past_table fresh past at sound) in
    let answer_is : accepts.answer ≡ as_read answer.sdp =
    same_sdp _ _ (sym accepts.is ∙ ap (λ said. signalled_if (sdp_for false at said)) answer.there ∙ ap signalled_if (remote_answer at answer.sdp)
    ∙ read_at past a _ read answer.there) in
    let offer_is : answer.offer ≡ as_read offer.sdp =
    same_sdp _ _ (sym answer.offered ∙ ap (λ said. signalled_if (sdp_for true (other_side at) said)) offer.there
    ∙ ap signalled_if (remote_offer at offer.sdp) ∙ read_at past t _ read offer.there) in
    let took : TookOffer (before (other_side at) (before_last (makes_answer at t a) past)) (before (other_side at) (through_last (makes_answer at t a) past)) answer.offer accepts.answer =
    record { leaves = answer.took.leaves; says = ap parsed_lines answer_is ∙ lines_as_read answer.sdp ∙ answer.took.says } in
    let adds : added_by (length (before at past)) t past ≡ offer.more = ap (λ (list : List LineRow). added_by (length list) t past) rows ∙ offer.adds in
    rw offer.adds (ends_alike view (asked_in at t past) (rows_at_offer at t past) offer.more _ _ after answer.offer accepts.answer (seen ∙ rows) adds
    (offered_known (rows_at_offer at t past) offer.more offer.may table offer.new) took (ap parsed_lines offer_is ∙ lines_as_read offer.sdp ∙ offer.says)
    accepts.passes accepts.leaves)

-- Each accepted answer that is its token's own ends the round.
pub finishes_round : {E : Type 0} → (fresh between : Stances) (past : List (Entry E)) (step : Step) (outcome : Outcome E) (table : Option Table) (made : List MadeSdp) → AreFormed fresh → Sound fresh past → IsSound fresh past between step outcome table made
    → FinishesRound past step outcome table
finishes_round {E} fresh between past (AcceptAnswer at t a) Finished (Some table) made formed sound replied =
    λ own unset. ends_round fresh past at t a (view_in fresh at past (held_by (between at))) table.lines formed sound
    (answer_taken E (holds_token at t past) (is_right at t past) (asked_in at t past) (remote_sdp false at a past) (view_in fresh at past (held_by (between at))) table.lines replied.0) refl own unset
finishes_round {E} fresh between past step outcome table made formed sound replied = tt
