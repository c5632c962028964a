-- A step that negotiates is sound, and its entry says what it leaves.
use Rattle.rtc_run_history.specs.Views.{Stances}
use Rattle.std.specs.Prelude.{is_some}
use Rattle.std.proofs.Common.{◌≡◌, ◌≤◌, ◌<◌, ◌+◌, ◌^◌, ◌==◌, ℕ, List, [], ◌∷◌, ◌++◌, map, length, Bool, true, false, not, ◌&&◌, cond, Option, Some, None, refl, sym, ◌∙◌, ap, subst, arith, append-nil}
use Rattle.std.proofs.lemmas.Bool.{and_left, and_right, or_parts}
use Rattle.rtc_sdp_values.specs.declared.line_row.LineRow.{LineRow}
use Rattle.rtc_sdp_values.specs.LineRow.{row_mid}
use Rattle.rtc_change.specs.declared.change.Change.{Change}
use Rattle.rtc_change.specs.PendingOffer.{added_rows, do_offer, staged_restart}
use Rattle.rtc_peer_rows.specs.Table.{IsTable, has_mid}
use Rattle.rtc_peer_core.specs.Stance.{Stance}
use Rattle.rtc_peer_core.specs.Calls.{raised, fitting_channels}
use Rattle.rtc_run_history.specs.declared.side.Side.{Side}
use Rattle.rtc_run_history.specs.declared.op.Op.{Op}
use Rattle.rtc_run_history.specs.declared.op_answer.OpAnswer.{OpAnswer}
use Rattle.rtc_run_history.specs.declared.made.Made.{Made}
use Rattle.rtc_run_history.specs.declared.made.Made.TheVariants.{NotAsked, Nothing, Offer, Alloc as MadeAlloc}
use Rattle.rtc_run_history.specs.declared.step.Step.TheVariants.{Negotiate}
use Rattle.rtc_run_history.specs.declared.outcome.Outcome.{Outcome}
use Rattle.rtc_run_history.specs.declared.outcome.Outcome.TheVariants.{Negotiated, Alloc}
use Rattle.rtc_run_history.specs.declared.table.Table.{Table}
use Rattle.rtc_run_history.specs.Memory.{answers_lack}
use Rattle.rtc_run_history.specs.Sides.{same_side, other_side}
use Rattle.rtc_run_history.specs.Answers.{has_app_row, do_stage, do_need_offer, added, numbers_answered, rows_waiting}
use Rattle.rtc_run_history.specs.Past.{Entry, MadeSdp, before, sdps, is_applied, is_offer_numbered, new_app, numbers_told}
use Rattle.rtc_run_history.specs.Sound.{OpsAnswered, MadeOf, IsSound, at_first}
use Rattle.rtc_run_history.specs.declared.kept.Kept.{Kept}
use Rattle.rtc_run_history.specs.Performs.{kept_offer}
use Rattle.rtc_channels.specs.Channels.{Channels}
use Rattle.rtc_run_laws.proofs.AddedRows.{among_mids}
use Rattle.rtc_run_laws.proofs.NumberedChannels.{AreNumbered, same_numbers, numbered_on, all_confirmed_numbered}
use Rattle.rtc_run_laws.proofs.OfferApps.{behind, app_is_told}
use Rattle.rtc_run_laws.proofs.AnsweredOps.{midway, ops_answered}
use Rattle.rtc_run_laws.proofs.StagedChanges.{are_some}
use Rattle.rtc_run_laws.proofs.StagedOps.{Stages}
use Rattle.rtc_run_laws.proofs.Staging.{ops_stage}
use Rattle.rtc_run_laws.proofs.Tells.{ChannelsTell, Tells, same_side-self, same_side-other, raised-small}
use Rattle.rtc_run_laws.proofs.TokenEntries.{offered_tells}
use Rattle.rtc_run_laws.proofs.Around.{Around, entry, goes_on, channels_next, quiet_tells}
use Rattle.rtc_peer_core.proofs.StanceCalls.{stance_alone}
use Rattle.rtc_run_laws.proofs.StanceSteps.{PairStance, StanceMakesOf, StanceNegotiates, StanceShows, lent}

-- an offer is made exactly where something that is staged has to be offered
made_of : (asked : Bool) (at : Side) (p q : Stance) (kept kept' : List Kept) (made : Made) (offers : Bool) (next : ℕ)
    → do_offer p.staged ≡ offers → next ≡ length kept → StanceMakesOf asked at p kept made q kept' → MadeOf asked offers made next
made_of false at p q kept kept' NotAsked offers next some count h = tt
made_of true at p q kept kept' Nothing false next some count h = tt
made_of true at p q kept kept' Nothing true next some count h = absurd (let e : true ≡ false = sym some ∙ h.0.0 in cc)
made_of true at p q kept kept' (Offer k) true next some count h = h.3 ∙ sym count
made_of true at p q kept kept' (Offer k) false next some count h = absurd (let e : false ≡ true = sym some ∙ h.1.offers in cc)
made_of true at p q kept kept' MadeAlloc true next some count h = tt
made_of true at p q kept kept' MadeAlloc false next some count h = tt
made_of asked at p q kept kept' made offers next some count h = absurd h

-- ---- channels alone that are applied

-- What applying channels alone leaves of a peer.
record AppliesAlone (p : Stance) (staged : List Change) : Type 0 where
  lines : (stance_alone staged p).lines ≡ p.lines
  counter : (stance_alone staged p).counter ≡ cond (are_some staged) (raised p.counter) p.counter
  numbered : AreNumbered [] p.channels (stance_alone staged p).channels
  rows : (stance_alone staged p).rows ≡ p.rows

applies_alone : (p : Stance) (staged : List Change) → AppliesAlone p staged
applies_alone p [] = record { lines = refl; counter = refl; numbered = same_numbers p.channels p.channels refl; rows = refl }
applies_alone p (change ∷ changes) = record { lines = refl; counter = refl; numbered = all_confirmed_numbered (fitting_channels (change ∷ changes)) p.channels; rows = refl }

-- rows stay where changes are applied
pub made_lines : (asked : Bool) (at : Side) (p q : Stance) (kept kept' : List Kept) (made : Made) → StanceMakesOf asked at p kept made q kept' → q.lines ≡ p.lines
made_lines false at p q kept kept' NotAsked h = ap (λ r. r.lines) h.0
made_lines true at p q kept kept' Nothing h = ap (λ r. r.lines) h.0.1 ∙ (applies_alone p p.staged).lines
made_lines true at p q kept kept' (Offer k) h = ap (λ r. r.lines) h.1.rest
made_lines true at p q kept kept' MadeAlloc h = ap (λ r. r.lines) h.0
made_lines asked at p q kept kept' made h = absurd h

-- and so do channels, but for what they are to be opened with
record LeavesChannels (p q : Stance) : Type 0 where
  numbered : AreNumbered [] p.channels q.channels
  rows : q.rows ≡ p.rows

same_channels : (p q : Stance) → q.channels ≡ p.channels → q.rows ≡ p.rows → LeavesChannels p q
same_channels p q channels rows = record { numbered = same_numbers p.channels q.channels channels; rows = rows }

made_channels : (asked : Bool) (at : Side) (p q : Stance) (kept kept' : List Kept) (made : Made) → StanceMakesOf asked at p kept made q kept' → LeavesChannels p q
made_channels false at p q kept kept' NotAsked h = same_channels p q (ap (λ r. r.channels) h.0) (ap (λ r. r.rows) h.0)
made_channels true at p q kept kept' Nothing h =
    let alone = applies_alone p p.staged in
    record { numbered = rw h.0.1 alone.numbered; rows = ap (λ r. r.rows) h.0.1 ∙ alone.rows }
made_channels true at p q kept kept' (Offer k) h = same_channels p q (ap (λ r. r.channels) h.1.rest) (ap (λ r. r.rows) h.1.rest)
made_channels true at p q kept kept' MadeAlloc h = same_channels p q (ap (λ r. r.channels) h.0) (ap (λ r. r.rows) h.0)
made_channels asked at p q kept kept' made h = absurd h

-- ---- the reply

-- what ops find on the rows of a past
answered_from : {E : Type 0} → (past : List (Entry E)) (at : Side) (s : Stance) (rows : List LineRow) (channels : Channels) (app : Option (List ℕ)) (ops : List Op) (answers : List OpAnswer) (after : List LineRow) → before at past ≡ rows
    → s.channels ≡ channels → OpsAnswered (record { rows = rows; held = map row_mid rows; app = app; channels = channels; numbers = numbers_told at past }) ops answers after → OpsAnswered (at_first s at past app) ops answers after
answered_from past at s rows channels app ops answers after same_rows same_channels answered = rw (same_rows, same_channels) answered

-- the reply to a step that negotiates
pub negotiate_reply : {E : Type 0} → (fresh between : Stances) (past : List (Entry E)) (at : Side) (ops : List Op) (apply : Bool) (old new : Stance) (kept kept' : List Kept) (outcome : Outcome E) (table : Option Table)
    → between at ≡ old → before at past ≡ old.lines → ChannelsTell past at old → IsTable (before at past) → length (sdps past) ≡ length kept
    → StanceNegotiates at ops apply old kept outcome table new kept' → IsSound fresh past between (Negotiate at ops apply) outcome table (behind kept kept')
negotiate_reply fresh between past at ops apply old new kept kept' Alloc None is rows tell table_before next h = tt
negotiate_reply fresh between past at ops apply old new kept kept' (Negotiated answers made) (Some table) is rows tell table_before next h =
    let asked : Bool = apply && not (answers_lack answers) in
    let staged : Stages (lent old) ops answers h.0 = ops_stage (lent old) h.0 ops answers h.1 in
    let left : table.lines ≡ h.0.lines = h.3.lines ∙ made_lines asked at h.0 new kept kept' made h.2 in
    let app : Option (List ℕ) = new_app table.lines (behind kept kept') in
    let app_told = app_is_told asked at (lent old) h.0 new kept kept' made table.lines h.2 left staged.app refl in
    let answered : OpsAnswered (midway (lent old) (map row_mid old.lines) app (numbers_told at past)) ops answers h.0.lines =
    ops_answered (lent old) h.0 ops answers (map row_mid old.lines) app (numbers_told at past)
    (record {
      table = subst IsTable rows table_before;
      holds = λ mid none. among_mids old.lines mid ∙ (or_parts (has_mid mid old.lines) false none).0;
      app_is = app_told.told_app;
    }) tell.told h.1 in (
      subst (λ (after : List LineRow). OpsAnswered (at_first (between at) at past app) ops answers after) (sym left)
          (answered_from past at (between at) old.lines old.channels app ops answers h.0.lines rows (ap (λ s. s.channels) is) answered),
      rw rows (made_of asked at h.0 new kept kept' made (do_need_offer (has_app_row old.lines) answers) (length (sdps past)) staged.offers next h.2),
      h.3.channels ∙ (made_channels asked at h.0 new kept kept' made h.2).rows ∙ staged.channels.shown ∙ ap (λ shown. shown ++ rows_waiting answers) tell.shown,
    )
negotiate_reply fresh between past at ops apply old new kept kept' outcome table is rows tell table_before next h = absurd h

-- ---- what the entry leaves

-- what a past says of channels after ops
ops_next : {E : Type 0} → (past : List (Entry E)) (at : Side) (ops : List Op) (apply : Bool) (answers : List OpAnswer) (what : Made) (table : Table) (made : List MadeSdp) (old p q : Stance)
    → Stages (lent old) ops answers p → LeavesChannels p q → StanceShows table q → ChannelsTell past at old → ChannelsTell (entry (Negotiate at ops apply) (Negotiated answers what) (Some table) made ∷ past) at q
ops_next past at ops apply answers what table made old p q staged leaves shows tell =
    channels_next past (Negotiate at ops apply) (Negotiated answers what) (Some table) made old q
    (rw (← append-nil (numbers_answered answers)) (numbered_on (numbers_answered answers) [] old.channels p.channels q.channels staged.channels.numbered leaves.numbered)) shows.channels tell

here_is : (at : Side) (b moved : Bool) → b ≡ moved → (same_side at at && b) ≡ moved
here_is at b moved is = rw (same_side-self at, is) refl

-- a step of ops that makes no offer, whether what is staged is applied or not
unoffered_tells : {E : Type 0} → (moved : Bool) (past : List (Entry E)) (at : Side) (ops : List Op) (apply : Bool) (answers : List OpAnswer) (what : Made) (table : Table) (made : List MadeSdp) (p : Stance) (old new : PairStance)
    → is_applied answers what ≡ moved → ((t : ℕ) → is_offer_numbered t what ≡ false) → (new.sides at).lines ≡ p.lines → (new.sides at).counter ≡ cond moved ((old.sides at).counter + 1) (old.sides at).counter
    → LeavesChannels p (new.sides at) → new.sdps ≡ old.sdps → Stages (lent (old.sides at)) ops answers p → StanceShows table (new.sides at)
    → Around (Negotiate at ops apply) made old new → Tells past old → Tells (entry (Negotiate at ops apply) (Negotiated answers what) (Some table) made ∷ past) new
unoffered_tells moved past at ops apply answers what table made p old new applied unnumbered lines counter leaves kept staged shows around tells =
    quiet_tells moved past (Negotiate at ops apply) (Negotiated answers what) (Some table) made old new kept (sym shows.lines)
    (ops_next past at ops apply answers what table made (old.sides at) p (new.sides at) staged leaves shows (tells.sides at).channels) counter
    (here_is at (is_applied answers what) moved applied) (and_left (same_side at (other_side at)) (is_applied answers what) (same_side-other at)) (λ t. refl) unnumbered around tells

-- the counter of a side whose changes were applied, or not
rises_where : (moved : Bool) (counter size : ℕ) → counter ≤ size → size < 2 ^ 32 → cond moved (raised counter) counter ≡ cond moved (counter + 1) counter
rises_where true counter size low small = raised-small counter size low small
rises_where false counter size low small = refl

applied_tells : {E : Type 0} → (past : List (Entry E)) (at : Side) (ops : List Op) (apply asked : Bool) (answers : List OpAnswer) (what : Made) (table : Table) (made : List MadeSdp) (p : Stance) (old new : PairStance)
    → Stages (lent (old.sides at)) ops answers p → StanceMakesOf asked at p old.sdps what (new.sides at) new.sdps → StanceShows table (new.sides at) → made ≡ behind old.sdps new.sdps
    → Around (Negotiate at ops apply) made old new → Tells past old → Tells (entry (Negotiate at ops apply) (Negotiated answers what) (Some table) made ∷ past) new
applied_tells past at ops apply false answers NotAsked table made p old new staged h shows made_is around tells =
    unoffered_tells false past at ops apply answers NotAsked table made p old new refl (λ t. refl) (ap (λ r. r.lines) h.0) (ap (λ r. r.counter) h.0 ∙ staged.counter)
    (made_channels false at p (new.sides at) old.sdps new.sdps NotAsked h) h.1 staged shows around tells
applied_tells past at ops apply true answers Nothing table made p old new staged h shows made_is around tells =
    let small : old.size < 2 ^ 32 = omega (arith, around.size, around.small) in
    let alone = applies_alone p p.staged in
    let counter : p.counter ≡ (old.sides at).counter = staged.counter in
    unoffered_tells (do_stage answers) past at ops apply answers Nothing table made p old new refl (λ t. refl) (ap (λ r. r.lines) h.0.1 ∙ alone.lines)
    (ap (λ r. r.counter) h.0.1 ∙ alone.counter ∙ ap (λ b. cond b (raised p.counter) p.counter) staged.some ∙ ap (λ c. cond (do_stage answers) (raised c) c) counter
    ∙ rises_where (do_stage answers) (old.sides at).counter old.size (tells.sides at).counts small)
    (made_channels true at p (new.sides at) old.sdps new.sdps Nothing h) h.1 staged shows around tells
applied_tells past at ops apply true answers MadeAlloc table made p old new staged h shows made_is around tells =
    unoffered_tells false past at ops apply answers MadeAlloc table made p old new refl (λ t. refl) (ap (λ r. r.lines) h.0) (ap (λ r. r.counter) h.0 ∙ staged.counter)
    (made_channels true at p (new.sides at) old.sdps new.sdps MadeAlloc h) h.1 staged shows around tells
applied_tells past at ops apply true answers (Offer k) table made p old new staged h shows made_is around tells =
    let small : old.size < 2 ^ 32 = omega (arith, around.size, around.small) in
    let left : table.lines ≡ p.lines = shows.lines ∙ ap (λ r. r.lines) h.1.rest in
    let app_told = app_is_told true at (lent (old.sides at)) p (new.sides at) old.sdps new.sdps (Offer k) table.lines h left staged.app refl in
    let app : Option (List ℕ) = new_app table.lines (behind old.sdps new.sdps) in
    let adds : (place : ℕ) → added_rows place p.staged ≡ added app place ops answers =
    λ place. staged.adds app app_told.told_app (app_told.offered k refl) place ∙ ap (λ n. added app n ops answers) (let e : place + 0 ≡ place = omega arith in e) in
    offered_tells past (entry (Negotiate at ops apply) (Negotiated answers (Offer k)) (Some table) made) old new (kept_offer at h.0) h.0.1
    (goes_on true past (Negotiate at ops apply) (Negotiated answers (Offer k)) (Some table) made old new (sym shows.lines)
    (ops_next past at ops apply answers (Offer k) table made (old.sides at) p (new.sides at) staged (made_channels true at p (new.sides at) old.sdps new.sdps (Offer k) h) shows (tells.sides at).channels)
    (ap (λ r. r.counter) h.1.rest ∙ ap raised staged.counter ∙ raised-small (old.sides at).counter old.size (tells.sides at).counts small)
    (ap (λ b. b && true) (same_side-self at)) (and_left (same_side at (other_side at)) true (same_side-other at)) around)
    refl refl refl (ap (λ token. token.id) h.1.token ∙ staged.counter)
    (λ place. ap (λ said. added (new_app table.lines said) place ops answers) made_is ∙ sym (ap (λ token. added_rows place token.changes) h.1.token ∙ adds place))
    (sym (ap (λ token. is_some (staged_restart token.changes)) h.1.token ∙ staged.restarts)) (ap (λ token. token.says_init) h.1.token)
    h.2 (λ t. refl) (λ t. ap (λ n. n == t) h.3) tells
applied_tells past at ops apply asked answers what table made p old new staged h shows made_is around tells = absurd h

-- A step that negotiates.
pub negotiate_tells : {E : Type 0} → (past : List (Entry E)) (at : Side) (ops : List Op) (apply : Bool) (old new : PairStance) (outcome : Outcome E) (table : Option Table) (made : List MadeSdp)
    → StanceNegotiates at ops apply (old.sides at) old.sdps outcome table (new.sides at) new.sdps
    → Around (Negotiate at ops apply) made old new → Tells past old → Tells (entry (Negotiate at ops apply) outcome table made ∷ past) new
negotiate_tells past at ops apply old new Alloc None made h around tells =
    quiet_tells false past (Negotiate at ops apply) Alloc None made old new h.sdps_kept (ap (λ p. p.lines) h.peer ∙ (tells.sides at).rows)
    (channels_next past (Negotiate at ops apply) Alloc None made (old.sides at) (new.sides at) (same_numbers (old.sides at).channels (new.sides at).channels (ap (λ p. p.channels) h.peer))
    (sym (tells.sides at).channels.shown ∙ ap (λ p. p.rows) (sym h.peer)) (tells.sides at).channels)
    (ap (λ p. p.counter) h.peer) (and_right (same_side at at) false refl) (and_right (same_side at (other_side at)) false refl) (λ t. refl) (λ t. refl) around tells
negotiate_tells past at ops apply old new (Negotiated answers what) (Some table) made h around tells =
    applied_tells past at ops apply (apply && not (answers_lack answers)) answers what table made h.0 old new (ops_stage (lent (old.sides at)) h.0 ops answers h.1) h.2 h.3 around.made_is around tells
negotiate_tells past at ops apply old new outcome table made h around tells = absurd h
