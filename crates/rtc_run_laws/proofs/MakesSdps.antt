-- The SDP that a step makes says the rows of its side.
use Rattle.std.proofs.Common.{◌≡◌, ◌+◌, ℕ, Bool, true, false, not, ◌&&◌, List, [], ◌++◌, map, length, Option, Some, None, refl, sym, ◌∙◌, ap, subst, arith, length-set}
use Rattle.std.specs.Prelude.{slice_get}
use Rattle.std.proofs.lemmas.List.{drop_all}
use Rattle.rtc_sdp_values.specs.Sdp.{inconsistency}
use Rattle.rtc_sdp_values.specs.declared.line_row.LineRow.{LineRow}
use Rattle.rtc_sdp_values.specs.declared.sdp.Sdp.{Sdp}
use Rattle.rtc_sdp_values.specs.declared.ice_creds.IceCreds.{IceCreds}
use Rattle.rtc_change.specs.PendingOffer.{PendingOffer, added_rows}
use Rattle.rtc_peer_rows.specs.ParsedLines.{parsed_lines}
use Rattle.rtc_peer_rows.specs.Table.{IsTable, Distinct}
use Rattle.rtc_change.specs.TableAfter.{table_after}
use Rattle.rtc_peer_core.specs.Stance.{Stance}
use Rattle.rtc_parts.specs.declared.media_update.MediaUpdate.{MediaUpdate}
use Rattle.rtc_peer_core.specs.MadeSdp.{offer_sdp, answer_sdp, row_told, offer_head, offered_told, answer_head, answered_told}
use Rattle.rtc_peer_core.specs.SdpHalves.{offer_init, answer_init}
use Rattle.rtc_peer_core.proofs.ToldRows.{rows_of_offered, rows_of_answered}
use Rattle.rtc_run_history.specs.Signalled.{Signalled, NotMade, Unreadable, Readable, foreign}
use Rattle.rtc_run_history.specs.declared.side.Side.{Side}
use Rattle.rtc_run_history.specs.declared.op.Op.{Op}
use Rattle.rtc_run_history.specs.declared.op_answer.OpAnswer.{OpAnswer}
use Rattle.rtc_run_history.specs.declared.made.Made.{Made}
use Rattle.rtc_run_history.specs.declared.made.Made.TheVariants.{NotAsked, Nothing, Offer, Alloc as MadeAlloc}
use Rattle.rtc_run_history.specs.declared.step.Step.{Step}
use Rattle.rtc_run_history.specs.declared.step.Step.TheVariants.{Negotiate, AcceptOffer, AcceptAnswer, Time, Datagram, Poll, Drain, Write, CloseChannel, Close, Rollback, ForeignOffer, ForeignAnswer, Raw}
use Rattle.rtc_run_history.specs.declared.outcome.Outcome.{Outcome}
use Rattle.rtc_run_history.specs.declared.outcome.Outcome.TheVariants.{Negotiated, Answered, Finished, Done, Wrote, Polled, Refused, NoSuch, Alloc}
use Rattle.rtc_run_history.specs.declared.table.Table.{Table}
use Rattle.rtc_run_history.specs.Memory.{answers_lack}
use Rattle.rtc_run_history.specs.Sides.{side_of}
use Rattle.rtc_run_history.specs.Answers.{added}
use Rattle.rtc_run_history.specs.Past.{Entry, MadeSdp, before, rows_or, new_app}
use Rattle.rtc_run_history.specs.Sound.{IsSound}
use Rattle.rtc_run_history.specs.SaidRows.{row_said, are_live, MakesSdp}
use Rattle.rtc_run_history.specs.declared.kept.Kept.{Kept}
use Rattle.rtc_run_history.specs.PairState.{made_sdp, kept_remote_sdp, held_token, spent}
use Rattle.rtc_run_history.specs.Performs.{kept_offer, kept_answer}
use Rattle.rtc_run_laws.proofs.StagedOps.{Stages}
use Rattle.rtc_run_laws.proofs.Staging.{ops_stage}
use Rattle.rtc_run_laws.proofs.NegotiateSteps.{made_lines}
use Rattle.rtc_run_laws.proofs.OfferApps.{behind, none_behind, one_behind, app_is_told}
use Rattle.rtc_run_laws.proofs.OfferTables.{offer_table}
use Rattle.rtc_run_laws.proofs.PastTables.{reply_table}
use Rattle.rtc_run_laws.proofs.SaidSdps.{sdp_says, sdp_fits}
use Rattle.rtc_run_laws.proofs.StanceSteps.{PairStance, StanceMakesOf, StanceNegotiates, StancePerforms, StanceStepAcceptsAnswer, StanceStepAcceptsOffer, StanceStepRollsBack, lent, made_by}
use Rattle.rtc_run_history.specs.Views.{Stances}

-- an offer says the rows of its side, then those that it adds
offer_says : (p : Stance) (init : Option (List ℕ)) (more : List LineRow) → Distinct (p.lines ++ more) → added_rows (length p.lines) p.staged ≡ more → parsed_lines (offer_sdp p init) ≡ map row_said (p.lines ++ more)
unfolding offer_sdp
offer_says p init more distinct adds =
    let rows : map row_told (offered_told p) ≡ p.lines ++ more = rows_of_offered p ∙ ap (λ (added : List LineRow). p.lines ++ added) adds in
    sdp_says (offer_head p init) (offered_told p) (subst Distinct (sym rows) distinct) ∙ ap (map row_said) rows

-- an offer fits together where one of its rows is live
offer_fits : (p : Stance) (init : Option (List ℕ)) (more : List LineRow) → Distinct (p.lines ++ more) → added_rows (length p.lines) p.staged ≡ more → are_live (p.lines ++ more) ≡ true → inconsistency (offer_sdp p init) ≡ None
unfolding offer_sdp
offer_fits p init more distinct adds live =
    let rows : map row_told (offered_told p) ≡ p.lines ++ more = rows_of_offered p ∙ ap (λ (added : List LineRow). p.lines ++ added) adds in
    sdp_fits (offer_head p init) (offered_told p) (subst Distinct (sym rows) distinct) (subst (λ (all : List LineRow). are_live all ≡ true) (sym rows) live)

answer_fits : (p : Stance) (restart : Option (IceCreds × Bool)) (told : List MediaUpdate) (init : Option (List ℕ)) (sdp : Sdp) (rows : List LineRow) → table_after p.lines (parsed_lines sdp) true ≡ rows → IsTable rows → are_live rows ≡ true
    → inconsistency (answer_sdp p restart told init sdp) ≡ None
unfolding answer_sdp
answer_fits p restart told init sdp rows is table live =
    let same : map row_told (answered_told p told sdp) ≡ rows = rows_of_answered p told sdp ∙ is in
    sdp_fits (answer_head p restart init sdp) (answered_told p told sdp) (subst Distinct (sym same) table.distinct) (subst (λ (all : List LineRow). are_live all ≡ true) (sym same) live)

-- an answer says the rows that it leaves
answer_says : (p : Stance) (restart : Option (IceCreds × Bool)) (told : List MediaUpdate) (init : Option (List ℕ)) (sdp : Sdp) (rows : List LineRow) → table_after p.lines (parsed_lines sdp) true ≡ rows → IsTable rows
    → parsed_lines (answer_sdp p restart told init sdp) ≡ map row_said rows
unfolding answer_sdp
answer_says p restart told init sdp rows is table =
    let same : map row_told (answered_told p told sdp) ≡ rows = rows_of_answered p told sdp ∙ is in
    sdp_says (answer_head p restart init sdp) (answered_told p told sdp) (subst Distinct (sym same) table.distinct) ∙ ap (map row_said) same

-- ---- each kind of step

makes_of : (E : Type 0) (at : Side) (asked : Bool) (p q : Stance) (ops : List Op) (answers : List OpAnswer) (apply : Bool) (kept kept' : List Kept) (made : Made) (table : Table)
    → StanceMakesOf asked at p kept made q kept' → table.lines ≡ p.lines
    → ((k : ℕ) → made ≡ Offer k → added_rows (length table.lines) p.staged ≡ added (new_app table.lines (behind kept kept')) (length table.lines) ops answers)
    → Distinct (table.lines ++ added (new_app table.lines (behind kept kept')) (length table.lines) ops answers)
    → MakesSdp {E = E} (Negotiate at ops apply) (Negotiated answers made) (Some table) (behind kept kept')
makes_of E at false p q ops answers apply kept kept' NotAsked table h rows adds distinct = none_behind kept kept' h.1
makes_of E at true p q ops answers apply kept kept' Nothing table h rows adds distinct = none_behind kept kept' h.1
makes_of E at true p q ops answers apply kept kept' MadeAlloc table h rows adds distinct = none_behind kept kept' h.1
makes_of E at true p q ops answers apply kept kept' (Offer k) table h rows adds distinct =
    let more : List LineRow = added (new_app table.lines (behind kept kept')) (length table.lines) ops answers in
    let apart : Distinct (p.lines ++ more) = subst (λ (list : List LineRow). Distinct (list ++ more)) rows distinct in
    let adds_more : added_rows (length p.lines) p.staged ≡ more = ap (λ (list : List LineRow). added_rows (length list) p.staged) (sym rows) ∙ adds k refl in
    record {
      sdp = h.0.0;
      one = one_behind kept kept' (kept_offer at h.0) h.2;
      says = ap (λ (o : Sdp). parsed_lines o) h.1.offered ∙ offer_says p (offer_init p h.1.half) more apart adds_more ∙ ap (λ (list : List LineRow). map row_said (list ++ more)) (sym rows);
      fits = λ live. ap (λ (o : Sdp). inconsistency o) h.1.offered ∙ offer_fits p (offer_init p h.1.half) more apart adds_more (subst (λ (list : List LineRow). are_live (list ++ more) ≡ true) rows live);
    }
makes_of E at asked p q ops answers apply kept kept' made table h rows adds distinct = absurd h

negotiate_makes : {E : Type 0} → (fresh between : Stances) (at : Side) (ops : List Op) (apply : Bool) (old new : Stance) (kept kept' : List Kept) (outcome : Outcome E) (table : Option Table) (past : List (Entry E))
    → StanceNegotiates at ops apply old kept outcome table new kept' → IsTable (before at past) → IsSound fresh past between (Negotiate at ops apply) outcome table (behind kept kept')
    → MakesSdp (Negotiate at ops apply) outcome table (behind kept kept')
negotiate_makes {E} fresh between at ops apply old new kept kept' Alloc None past h is sound = none_behind kept kept' h.sdps_kept
negotiate_makes {E} fresh between at ops apply old new kept kept' (Negotiated answers made) (Some table) past h is sound =
    let asked : Bool = apply && not (answers_lack answers) in
    let staged : Stages (lent old) ops answers h.0 = ops_stage (lent old) h.0 ops answers h.1 in
    let left : table.lines ≡ h.0.lines = h.3.lines ∙ made_lines asked at h.0 new kept kept' made h.2 in
    let app : Option (List ℕ) = new_app table.lines (behind kept kept') in
    let app_told = app_is_told asked at (lent old) h.0 new kept kept' made table.lines h.2 left staged.app refl in
    makes_of E at asked h.0 new ops answers apply kept kept' made table h.2 left
    (λ k is. staged.adds app app_told.told_app (app_told.offered k is) (length table.lines) ∙ ap (λ n. added app n ops answers) (let e : length table.lines + 0 ≡ length table.lines = omega arith in e))
    (offer_table (between at) past at ops answers table (behind kept kept') is sound.0).distinct
negotiate_makes {E} fresh between at ops apply old new kept kept' outcome table past h is sound = absurd h

offer_makes : {E : Type 0} → (at : Side) (k : ℕ) (offer : Signalled) (old new : Stance) (kept kept' : List Kept) (outcome : Outcome E) (table : Option Table)
    → StanceStepAcceptsOffer at offer old kept outcome table new kept' → IsTable (rows_or true table (old.lines)) → MakesSdp (AcceptOffer at k) outcome table (behind kept kept')
offer_makes at k NotMade old new kept kept' Alloc None h is = none_behind kept kept' h.sdps_kept
offer_makes at k (Unreadable line) old new kept kept' Alloc None h is = none_behind kept kept' h.sdps_kept
offer_makes at k (Readable sdp) old new kept kept' Alloc None h is = none_behind kept kept' h.sdps_kept
offer_makes at k NotMade old new kept kept' NoSuch (Some table) h is = none_behind kept kept' h.0.sdps_kept
offer_makes at k (Unreadable line) old new kept kept' (Refused error) (Some table) h is = none_behind kept kept' h.1.sdps_kept
offer_makes at k (Readable sdp) old new kept kept' (Answered n) (Some table) h is = record {
  sdp = h.0;
  one = one_behind kept kept' (kept_answer at h.0) h.2;
  says = ap (λ (a : Sdp). parsed_lines a) h.1.answered ∙ answer_says (lent old) h.1.restart h.1.told (answer_init old.inited old.snap h.1.halves) sdp table.lines (sym (h.4.lines ∙ ap (λ p. p.lines) h.1.rest)) is;
  fits = λ live. ap (λ (a : Sdp). inconsistency a) h.1.answered ∙ answer_fits (lent old) h.1.restart h.1.told (answer_init old.inited old.snap h.1.halves) sdp table.lines (sym (h.4.lines ∙ ap (λ p. p.lines) h.1.rest)) is live;
}
offer_makes at k (Readable sdp) old new kept kept' (Refused error) (Some table) h is = none_behind kept kept' h.1
offer_makes at k offer old new kept kept' outcome table h is = absurd h

-- an answer to what anybody offered says the same
foreign_makes : {E : Type 0} → (at : Side) (k : ℕ) (text : List ℕ) (outcome : Outcome E) (table : Option Table) (made : List MadeSdp) → MakesSdp (AcceptOffer at k) outcome table made → MakesSdp (ForeignOffer at text) outcome table made
foreign_makes at k text (Answered n) None made says = says
foreign_makes at k text (Answered n) (Some table) made says = says
foreign_makes at k text (Negotiated answers what) table made says = says
foreign_makes at k text Finished table made says = says
foreign_makes at k text Done table made says = says
foreign_makes at k text (Wrote taken) table made says = says
foreign_makes at k text (Polled outputs end) table made says = says
foreign_makes at k text (Refused error) table made says = says
foreign_makes at k text NoSuch table made says = says
foreign_makes at k text Alloc table made says = says

length-spent : (t : ℕ) (kept : List Kept) → length (spent t kept) ≡ length kept
length-spent t kept = by (slice_get kept t) refl
  where
    by : (found : Option Kept) → slice_get kept t ≡ found → length (spent t kept) ≡ length kept
    by None is = rw is refl
    by (Some one) is = rw is (length-set kept t (record one { token = None }))

spent_behind : (t : ℕ) (kept kept' : List Kept) → kept' ≡ spent t kept → behind kept kept' ≡ []
spent_behind t kept kept' same =
    let count : length kept' ≡ length kept = ap length same ∙ length-spent t kept in
    ap (map made_sdp) (drop_all (length kept) kept' (omega arith))

answer_makes : {E : Type 0} → (at : Side) (t a : ℕ) (token : Option PendingOffer) (answer : Signalled) (old new : Stance) (kept kept' : List Kept) (outcome : Outcome E) (table : Option Table)
    → StanceStepAcceptsAnswer t token answer old kept outcome table new kept' → MakesSdp (AcceptAnswer at t a) outcome table (behind kept kept')
answer_makes at t a None NotMade old new kept kept' Alloc None h = none_behind kept kept' h.sdps_kept
answer_makes at t a None (Unreadable line) old new kept kept' Alloc None h = none_behind kept kept' h.sdps_kept
answer_makes at t a None (Readable sdp) old new kept kept' Alloc None h = none_behind kept kept' h.sdps_kept
answer_makes at t a (Some token) NotMade old new kept kept' Alloc None h = none_behind kept kept' h.sdps_kept
answer_makes at t a (Some token) (Unreadable line) old new kept kept' Alloc None h = none_behind kept kept' h.sdps_kept
answer_makes at t a (Some token) (Readable sdp) old new kept kept' Alloc None h = none_behind kept kept' h.sdps_kept
answer_makes at t a None NotMade old new kept kept' NoSuch (Some table) h = none_behind kept kept' h.0.sdps_kept
answer_makes at t a None (Unreadable line) old new kept kept' NoSuch (Some table) h = none_behind kept kept' h.0.sdps_kept
answer_makes at t a None (Readable sdp) old new kept kept' NoSuch (Some table) h = none_behind kept kept' h.0.sdps_kept
answer_makes at t a (Some token) NotMade old new kept kept' NoSuch (Some table) h = none_behind kept kept' h.0.sdps_kept
answer_makes at t a (Some token) (Unreadable line) old new kept kept' (Refused error) (Some table) h = none_behind kept kept' h.1.sdps_kept
answer_makes at t a (Some token) (Readable sdp) old new kept kept' Finished (Some table) h = spent_behind t kept kept' h.1
answer_makes at t a (Some token) (Readable sdp) old new kept kept' (Refused error) (Some table) h = spent_behind t kept kept' h.1
answer_makes at t a token answer old new kept kept' outcome table h = absurd h

-- a rollback makes none
rollback_makes : {E : Type 0} → (t : ℕ) (token : Option PendingOffer) (old new : Stance) (kept kept' : List Kept) (outcome : Outcome E) (table : Option Table)
    → StanceStepRollsBack t token old kept outcome table new kept' → behind kept kept' ≡ []
rollback_makes t None old new kept kept' Alloc None h = none_behind kept kept' h.sdps_kept
rollback_makes t (Some token) old new kept kept' Alloc None h = none_behind kept kept' h.sdps_kept
rollback_makes t None old new kept kept' NoSuch (Some table) h = none_behind kept kept' h.0.sdps_kept
rollback_makes t (Some token) old new kept kept' Done (Some table) h = spent_behind t kept kept' h.2
rollback_makes t (Some token) old new kept kept' (Refused error) (Some table) h = spent_behind t kept kept' h.1
rollback_makes t token old new kept kept' outcome table h = absurd h

-- A step that is performed makes the SDP that says the rows of its side.
pub makes_sdp : {E : Type 0} → (fresh between : Stances) (past : List (Entry E)) (old new : PairStance) (step : Step) (outcome : Outcome E) (table : Option Table)
    → StancePerforms old step outcome table new → IsTable (before (side_of step) past) → IsSound fresh past between step outcome table (made_by old new)
    → before (side_of step) past ≡ (old.sides (side_of step)).lines → MakesSdp step outcome table (made_by old new)
makes_sdp fresh between past old new (Negotiate at ops apply) outcome table performs is sound rows =
    negotiate_makes fresh between at ops apply (old.sides at) (new.sides at) old.sdps new.sdps outcome table past performs.acts is sound
makes_sdp fresh between past old new (AcceptOffer at k) outcome table performs is sound rows =
    offer_makes at k (kept_remote_sdp true old.sdps at k) (old.sides at) (new.sides at) old.sdps new.sdps outcome table performs.acts
    (subst (λ (list : List LineRow). IsTable (rows_or true table list)) rows (reply_table fresh between past (AcceptOffer at k) outcome table (made_by old new) sound is))
makes_sdp fresh between past old new (AcceptAnswer at t a) outcome table performs is sound rows =
    answer_makes at t a (held_token old.sdps at t) (kept_remote_sdp false old.sdps at a) (old.sides at) (new.sides at) old.sdps new.sdps outcome table performs.acts
makes_sdp fresh between past old new (Time at now) outcome table performs is sound rows = none_behind old.sdps new.sdps performs.acts.sdps_kept
makes_sdp fresh between past old new (Datagram at packet now) outcome table performs is sound rows = none_behind old.sdps new.sdps performs.acts.sdps_kept
makes_sdp fresh between past old new (Poll at) outcome table performs is sound rows = none_behind old.sdps new.sdps performs.acts.sdps_kept
makes_sdp fresh between past old new (Drain at) outcome table performs is sound rows = none_behind old.sdps new.sdps performs.acts.sdps_kept
makes_sdp fresh between past old new (Write at channel binary bytes) outcome table performs is sound rows = none_behind old.sdps new.sdps performs.acts.sdps_kept
makes_sdp fresh between past old new (CloseChannel at channel) outcome table performs is sound rows = none_behind old.sdps new.sdps performs.acts.sdps_kept
makes_sdp fresh between past old new (Close at) outcome table performs is sound rows = none_behind old.sdps new.sdps performs.acts.sdps_kept
makes_sdp fresh between past old new (Raw at bytes now) outcome table performs is sound rows = none_behind old.sdps new.sdps performs.acts.sdps_kept
makes_sdp fresh between past old new (Rollback at t) outcome table performs is sound rows =
    rollback_makes t (held_token old.sdps at t) (old.sides at) (new.sides at) old.sdps new.sdps outcome table performs.acts
makes_sdp fresh between past old new (ForeignOffer at text) outcome table performs is sound rows =
    foreign_makes at 0 text outcome table (made_by old new)
    (offer_makes at 0 (foreign text) (old.sides at) (new.sides at) old.sdps new.sdps outcome table performs.acts
    (subst (λ (list : List LineRow). IsTable (rows_or true table list)) rows (reply_table fresh between past (ForeignOffer at text) outcome table (made_by old new) sound is)))
makes_sdp fresh between past old new (ForeignAnswer at t text) outcome table performs is sound rows =
    answer_makes at t 0 (held_token old.sdps at t) (foreign text) (old.sides at) (new.sides at) old.sdps new.sdps outcome table performs.acts
