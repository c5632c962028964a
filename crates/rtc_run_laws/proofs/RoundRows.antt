-- What the offer of a round and its answer say, and that neither is refused.
use Rattle.rtc_change.specs.Held.{Held}
use Rattle.std.proofs.Common.{◌≡◌, ◌+◌, ◌-◌, ◌==◌, ℕ, Bool, true, false, List, [], ◌∷◌, ◌++◌, map, length, Some, None, refl, arith, max, zero, suc, length-append}
use Rattle.std.specs.Prelude.{slice_get}
use Rattle.std.proofs.lemmas.Bool.{eq-eqb}
use Rattle.std.proofs.lemmas.List.{length-map}
use Rattle.rtc_sdp_values.specs.LineRow.{row_mid}
use Rattle.rtc_sdp_values.specs.Sdp.{inconsistency, sdp_sctp_init}
use Rattle.rtc_sdp_values.specs.declared.line_row.LineRow.{LineRow}
use Rattle.rtc_sdp_values.specs.declared.sdp.Sdp.{Sdp}
use Rattle.rtc_peer_rows.specs.ParsedLines.{parsed_lines}
use Rattle.rtc_peer_rows.specs.Table.{IsTable, OneApp, row_of}
use Rattle.rtc_change.specs.TableAfter.{new_places}
use Rattle.rtc_change.specs.Plans.{verdict, head_verdict, side_verdict, init_refusal}
use Rattle.rtc_peer_rows.proofs.TableLemmas.{row_of_its_mid}
use Rattle.rtc_run_history.specs.declared.side.Side.{Side}
use Rattle.rtc_run_history.specs.Sides.{other_side}
use Rattle.rtc_run_history.specs.Past.{Entry, before, sdps, is_spent, is_right, added_by}
use Rattle.rtc_run_history.specs.Answers.{has_app_row}
use Rattle.rtc_run_history.specs.SaidRows.{row_said}
use Rattle.rtc_run_history.specs.CourseRows.{unnamed}
use Rattle.rtc_run_laws.proofs.AddedRows.{AreAdded, added_distinct}
use Rattle.rtc_run_laws.proofs.AnswerCounts.{new_count}
use Rattle.rtc_run_laws.proofs.RowNames.{Aligned, length-aligned}
use Rattle.rtc_run_laws.proofs.RowsFollow.{Follows, FindsNew, follows_allowed, follows_right, all_left}
use Rattle.rtc_run_laws.proofs.LiveRows.{StartsLive}

-- ---- SDPs

-- What an offer says: the rows that its side had as it made it, then those that it added.
pub record OfferSaid : Type 0 where
  pub sdp : Sdp
  pub front : List LineRow
  pub more : List LineRow
  pub says : parsed_lines sdp ≡ map row_said (front ++ more)
  pub fits : inconsistency sdp ≡ None
  pub live : StartsLive (front ++ more)
  pub table : IsTable front
  pub whole : IsTable (front ++ more)
  pub may : Bool
  pub new : AreAdded may (map row_mid front) (length front) more
  pub first : may ≡ true → has_app_row front ≡ false

-- What an answer says: the rows that its side had as it made it.
pub record AnswerSaid : Type 0 where
  pub sdp : Sdp
  pub rows : List LineRow
  pub says : parsed_lines sdp ≡ map row_said rows
  pub fits : inconsistency sdp ≡ None
  pub live : StartsLive rows
  pub table : IsTable rows

-- A side made the offer of a number, has its token, which is right, and its rows still have the names that it offered.
pub record HasOffered {E : Type 0} (offer : OfferSaid) (at : Side) (n : ℕ) (past : List (Entry E)) : Type 0 where
  pub right : is_right at n past ≡ true
  pub unspent : is_spent n past ≡ false
  pub there : slice_get (sdps past) n ≡ Some (record { at = at; offer = true; sdp = offer.sdp })
  pub adds : added_by (length offer.front) n past ≡ offer.more
  pub kept : Aligned offer.front (before at past)

-- The other side made the answer of a number to an offer, and the rows of both sides have the names that it says.
pub record HasAnswered {E : Type 0} (offer : OfferSaid) (answer : AnswerSaid) (at : Side) (m : ℕ) (past : List (Entry E)) : Type 0 where
  pub there : slice_get (sdps past) m ≡ Some (record { at = other_side at; offer = false; sdp = answer.sdp })
  pub offered : Aligned (offer.front ++ offer.more) answer.rows
  pub mine : Follows (before at past) (before at past) answer.rows
  pub theirs : Aligned answer.rows (before (other_side at) past)

-- The offer of a number is outstanding, and says these rows.
pub record IsOffered {E : Type 0} (at : Side) (n : ℕ) (said : List LineRow) (past : List (Entry E)) : Type 0 where
  pub offer : OfferSaid
  pub are : map unnamed (offer.front ++ offer.more) ≡ said
  pub has : HasOffered offer at n past
  pub same : Aligned (before at past) (before (other_side at) past)

-- The answer of a number to the offer of a number is outstanding, and says these rows.
pub record IsAnswered {E : Type 0} (at : Side) (n m : ℕ) (said : List LineRow) (past : List (Entry E)) : Type 0 where
  pub offer : OfferSaid
  pub answer : AnswerSaid
  pub are : map unnamed answer.rows ≡ said
  pub has : HasOffered offer at n past
  pub answered : HasAnswered offer answer at m past

-- ---- the rows of an offer

-- each of the added rows is found among them
finds_each : (news rows : List LineRow) → ((k : ℕ) (row : LineRow) → slice_get rows k ≡ Some row → row_of news (row_mid row) ≡ Some row) → FindsNew news [] rows
finds_each news [] each = tt
finds_each news (row ∷ rows) each = (each zero row refl, finds_each news rows (λ k other there. each (suc k) other there))

finds_past : (news front rows : List LineRow) → Aligned front rows → FindsNew news [] news → FindsNew news rows (front ++ news)
finds_past news [] [] same finds = finds
finds_past news (row ∷ front) (other ∷ rows) same finds = finds_past news front rows same.1 finds
finds_past news front rows same finds = absurd same

-- past rows with the names of those that an offer says first, the rows that it says are found among the added ones
pub offer_finds : (offer : OfferSaid) (rows : List LineRow) → Aligned offer.front rows → FindsNew offer.more rows (offer.front ++ offer.more)
offer_finds offer rows same =
    finds_past offer.more offer.front rows same
    (finds_each offer.more offer.more (λ k row there. row_of_its_mid offer.more k row (added_distinct offer.may (map row_mid offer.front) (length offer.front) offer.more offer.new) there))

-- ---- no cause holds

-- a session description tells of its side what it has to, and of the start of the association nothing that it may not
pub record HeadPasses (view : Held) (may : Bool) (sdp : Sdp) : Type 0 where
  pub side : side_verdict view may sdp ≡ None
  pub init : init_refusal view.sctp_inited view.sctp_kept (sdp_sctp_init sdp) ≡ None

-- an offer whose rows go on from those of a table is not refused, where its head passes
pub offer_passes : (view : Held) (more : List LineRow) (sdp : Sdp) → IsTable view.lines → Follows view.lines view.lines more → OneApp more → parsed_lines sdp ≡ map row_said more → inconsistency sdp ≡ None → StartsLive more
    → HeadPasses view true sdp → verdict view None sdp ≡ None
unfolding verdict head_verdict
offer_passes view [] sdp table follows one says fits live head = absurd live
offer_passes view (row ∷ more) sdp table follows one says fits live head = rw (says, head.side, head.init, fits, follows_allowed view.lines true false 0 view.lines (row ∷ more) table (all_left view.lines) follows one tt) refl

-- an answer whose rows are those that were offered is not refused, where its head passes
pub answer_passes : (view : Held) (restarts says_init : Bool) (offer : OfferSaid) (more : List LineRow) (sdp : Sdp) → IsTable view.lines → Follows view.lines view.lines more → OneApp more → Aligned (offer.front ++ offer.more) more → Aligned offer.front view.lines
    → parsed_lines sdp ≡ map row_said more → inconsistency sdp ≡ None → HeadPasses view restarts sdp
    → verdict view (Some (record { added = offer.more; restarts = restarts; says_init = says_init })) sdp ≡ None
unfolding verdict head_verdict
answer_passes view restarts says_init offer more sdp table follows one same kept says fits head =
    let rows : List LineRow = view.lines in
    let allowed = follows_allowed rows false false 0 rows more table (all_left rows) follows one tt in
    let count : length (new_places rows 0 (map row_said more)) ≡ (0 + length (map row_said more)) - max 0 (length rows) = new_count rows false 0 (map row_said more) table.rising allowed in
    let lines : length (map row_said more) ≡ length more = length-map more row_said in
    let all : length more ≡ length (offer.front ++ offer.more) = length-aligned (offer.front ++ offer.more) more same in
    let both : length (offer.front ++ offer.more) ≡ length offer.front + length offer.more = length-append offer.front offer.more in
    let few : length rows ≡ length offer.front = length-aligned offer.front rows kept in
    let right : (length offer.more == length (new_places rows 0 (map row_said more))) ≡ true = eq-eqb (length offer.more) (length (new_places rows 0 (map row_said more))) (omega arith) in
    rw (says, head.side, head.init, fits, allowed, right, follows_right rows offer.more 0 rows (offer.front ++ offer.more) more table (all_left rows) follows same offer.whole.rising (offer_finds offer rows kept)) refl
