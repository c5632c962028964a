-- Ops in order, in their phase: rows change where they stand, and what is outstanding stays so; or an offer is made where nothing is.
use Rattle.std.proofs.Common.{◌≡◌, ◌<◌, ◌+◌, ◌-◌, ◌^◌, ◌==◌, cond, ℕ, Bool, true, false, not, ◌&&◌, List, [], ◌∷◌, ◌++◌, map, length, Option, Some, None, refl, sym, ◌∙◌, ap, subst, arith, length-append, append-nil, ◌≢◌}
use Rattle.std.proofs.lemmas.Bool.{eq-eqb, or_parts, and_right}
use Rattle.std.specs.Prelude.{is_some}
use Rattle.std.proofs.lemmas.List.{length-map}
use Rattle.rtc_peer_rows.specs.ParsedLines.{parsed_lines}
use Rattle.rtc_sdp_values.specs.LineRow.{row_mid}
use Rattle.rtc_sdp_values.specs.declared.line_row.LineRow.{LineRow}
use Rattle.rtc_run_history.specs.declared.side.Side.{Side}
use Rattle.rtc_run_history.specs.declared.side.Side.TheVariants.{Left, Right}
use Rattle.rtc_run_history.specs.declared.op.Op.{Op}
use Rattle.rtc_run_history.specs.declared.op_answer.OpAnswer.{OpAnswer}
use Rattle.rtc_run_history.specs.declared.made.Made.{Made}
use Rattle.rtc_run_history.specs.declared.made.Made.TheVariants.{NotAsked, Nothing, Offer, Alloc as MadeAlloc}
use Rattle.rtc_run_history.specs.declared.step.Step.TheVariants.{Negotiate}
use Rattle.rtc_run_history.specs.declared.outcome.Outcome.{Outcome}
use Rattle.rtc_run_history.specs.declared.outcome.Outcome.TheVariants.{Negotiated, Alloc}
use Rattle.rtc_run_history.specs.declared.table.Table.{Table}
use Rattle.rtc_run_history.specs.Memory.{answers_lack, outcome_lacks, fails}
use Rattle.rtc_run_history.specs.Sides.{same_side, other_side}
use Rattle.rtc_run_history.specs.Answers.{has_app_row, do_stage, do_need_offer, added}
use Rattle.rtc_run_history.specs.Past.{Entry, MadeSdp, before, rows_or, sdps, is_applied, is_offer_numbered, app_line_mid, app_mid_said, new_app, numbers_in, numbers_told}
use Rattle.rtc_run_history.specs.Sound.{OpsAnswered, MadeOf, IsSound, at_first}
use Rattle.rtc_run_history.specs.SaidRows.{MakesSdp}
use Rattle.rtc_run_history.specs.CourseRows.{unnamed, rows_after_ops, must_offer, adding_answer, rows_added, do_add_channel}
use Rattle.rtc_run_history.specs.Orderly.{Phase, Idle, AwaitsAnswer, AwaitsEnd, Course, course_rows, moved_on, is_offerer, do_supersede, after_ops}
use Rattle.rtc_run_laws.proofs.SoundPasts.{Sound}
use Rattle.rtc_run_laws.proofs.Tells.{same_side-self, same_side-true}
use Rattle.rtc_run_laws.proofs.Around.{entry}
use Rattle.rtc_run_laws.proofs.OpRows.{ops_table}
use Rattle.rtc_run_laws.proofs.PastTables.{past_table}
use Rattle.rtc_run_laws.proofs.OfferTables.{ops_new, offer_table}
use Rattle.rtc_run_laws.proofs.PastOffers.{stays_there, text_next}
use Rattle.rtc_run_laws.proofs.ChannelCounts.{ops_fine}
use Rattle.rtc_run_laws.proofs.UnspentTokens.{unspent_later}
use Rattle.rtc_run_laws.proofs.RowNames.{Aligned, aligned_sym, aligned_trans, aligned_self}
use Rattle.rtc_run_laws.proofs.RowsFollow.{follows_alike}
use Rattle.rtc_run_laws.proofs.LiveRows.{StartsLive, starts_are_live, ops_live, offer_live}
use Rattle.rtc_run_laws.proofs.CourseOps.{AreFine, AreSeen, seen_app, app_seen, ops_seen, ops_aligned}
use Rattle.rtc_run_laws.proofs.RoundRows.{OfferSaid, AnswerSaid, HasOffered, HasAnswered}
use Rattle.rtc_run_laws.proofs.Courses.{IsSideOf, InPhase, InCourse, aligned_at, moved_in}
use Rattle.rtc_run_laws.proofs.CourseSteps.{AreInOrder, in_order, quiet_course, offer_course}
use Rattle.rtc_run_history.specs.Views.{Stances}
use Rattle.rtc_peer_core.specs.Stance.{Stance}

abbrev ops_entry : {E : Type 0} → Side → List Op → Bool → List OpAnswer → Made → Table → List MadeSdp → Entry E
ops_entry at ops apply answers what table made = entry (Negotiate at ops apply) (Negotiated answers what) (Some table) made

-- Ops in order that are all answered, each channel by a number, after a past in its course.
record OpsDone {E : Type 0} (past : List (Entry E)) (at : Side) (ops : List Op) (apply : Bool) (answers : List OpAnswer) (table : Table) (made : List MadeSdp) (course : Course) : Type 0 where
  stance : Stance
  answered : OpsAnswered (at_first stance at past (new_app table.lines made)) ops answers table.lines
  seen : AreSeen (before at past) (new_app table.lines made) ops answers table.lines
  order : AreInOrder apply at ops course.phase
  is : InCourse course past

-- ---- rows

-- the rows of either side keep their names
names_go : {E : Type 0} → (past : List (Entry E)) (at : Side) (ops : List Op) (apply : Bool) (answers : List OpAnswer) (what : Made) (table : Table) (made : List MadeSdp) (course : Course) → OpsDone past at ops apply answers table made course
    → (side : Side) → Aligned (before side past) (before side (ops_entry at ops apply answers what table made ∷ past))
names_go past at ops apply answers what table made course ops_are side = by (same_side at side) refl
  where
    by : (here : Bool) → same_side at side ≡ here → Aligned (before side past) (rows_or here (Some table) (before side past))
    by true same =
        subst (λ (one : Side). Aligned (before one past) table.lines) (same_side-true at side same)
        (ops_aligned (at_first ops_are.stance at past (new_app table.lines made)) ops answers table.lines ops_are.answered)
    by false same = aligned_self (before side past)

-- the rows that the acting side has then
side_goes : {E : Type 0} → (past : List (Entry E)) (at : Side) (ops : List Op) (apply : Bool) (answers : List OpAnswer) (table : Table) (made : List MadeSdp) (course : Course) → OpsDone past at ops apply answers table made course
    → IsSideOf (rows_after_ops ops (course_rows at course)) table.lines
side_goes past at ops apply answers table made course ops_are =
    let mine = ops_are.is.sides at in
    record {
      are = ops_are.seen.left ∙ ap (rows_after_ops ops) mine.are;
      live = ops_live (at_first ops_are.stance at past (new_app table.lines made)) ops answers table.lines ops_are.answered ops_are.order.stays mine.live;
    }

-- ---- ops that offer nothing

-- a step of ops that makes no offer, and applies nothing where its side's own offer is outstanding
record OffersNothing (at : Side) (phase : Phase) (answers : List OpAnswer) (what : Made) : Type 0 where
  still : (side : Side) → is_offerer side phase ≡ true → (same_side at side && is_applied answers what) ≡ false
  unnumbered : (t : ℕ) → is_offer_numbered t what ≡ false

-- What is outstanding stays so, where rows keep their names.
offered_kept : {E : Type 0} → (past : List (Entry E)) (at : Side) (ops : List Op) (apply : Bool) (answers : List OpAnswer) (what : Made) (table : Table) (made : List MadeSdp) (offer : OfferSaid) (side : Side) (n : ℕ)
    → (same_side at side && is_applied answers what) ≡ false → is_offer_numbered n what ≡ false
    → Aligned (before side past) (before side (ops_entry at ops apply answers what table made ∷ past)) → HasOffered offer side n past → HasOffered offer side n (ops_entry at ops apply answers what table made ∷ past)
offered_kept past at ops apply answers what table made offer side n still unnumbered names has = record {
  right = rw (unnumbered, still) has.right;
  unspent = has.unspent;
  there = stays_there (sdps past) made n _ has.there;
  adds = rw unnumbered has.adds;
  kept = aligned_trans offer.front (before side past) _ has.kept names;
}

answered_kept : {E : Type 0} → (past : List (Entry E)) (last : Entry E) (offer : OfferSaid) (answer : AnswerSaid) (side : Side) (m : ℕ) → ((one : Side) → Aligned (before one past) (before one (last ∷ past)))
    → HasAnswered offer answer side m past → HasAnswered offer answer side m (last ∷ past)
answered_kept past last offer answer side m names has = record {
  there = stays_there (sdps past) last.made m _ has.there;
  offered = has.offered;
  mine = follows_alike (before side past) _ (before side past) _ answer.rows (names side) (names side) has.mine;
  theirs = aligned_trans answer.rows (before (other_side side) past) _ has.theirs (names (other_side side));
}

-- rows with the same names go on to rows with the same names
aligned_on : (mine mine' theirs theirs' : List LineRow) → Aligned mine mine' → Aligned theirs theirs' → Aligned mine theirs → Aligned mine' theirs'
aligned_on mine mine' theirs theirs' same_mine same_theirs same = aligned_trans mine' mine theirs' (aligned_sym mine mine' same_mine) (aligned_trans mine theirs theirs' same same_theirs)

phase_kept : {E : Type 0} → (past : List (Entry E)) (at : Side) (ops : List Op) (apply : Bool) (answers : List OpAnswer) (what : Made) (table : Table) (made : List MadeSdp) (phase : Phase) → OffersNothing at phase answers what
    → ((side : Side) → Aligned (before side past) (before side (ops_entry at ops apply answers what table made ∷ past))) → InPhase phase past → InPhase phase (ops_entry at ops apply answers what table made ∷ past)
phase_kept past at ops apply answers what table made Idle nothing names same = aligned_on (before Left past) _ (before Right past) _ (names Left) (names Right) same
phase_kept past at ops apply answers what table made (AwaitsAnswer side n said) nothing names out = record {
  offer = out.offer;
  are = out.are;
  has = offered_kept past at ops apply answers what table made out.offer side n (nothing.still side (same_side-self side)) (nothing.unnumbered n) (names side) out.has;
  same = aligned_on (before side past) _ (before (other_side side) past) _ (names side) (names (other_side side)) out.same;
}
phase_kept past at ops apply answers what table made (AwaitsEnd side n m said) nothing names out = record {
  offer = out.offer;
  answer = out.answer;
  are = out.are;
  has = offered_kept past at ops apply answers what table made out.offer side n (nothing.still side (same_side-self side)) (nothing.unnumbered n) (names side) out.has;
  answered = answered_kept past (ops_entry at ops apply answers what table made) out.offer out.answer side m names out.answered;
}

quiet_goes_on : {E : Type 0} → (past : List (Entry E)) (at : Side) (ops : List Op) (apply : Bool) (answers : List OpAnswer) (what : Made) (table : Table) (made : List MadeSdp) (course : Course) → OpsDone past at ops apply answers table made course
    → OffersNothing at course.phase answers what → made ≡ []
    → InCourse (moved_on at course (rows_after_ops ops (course_rows at course)) course.sdps course.phase) (ops_entry at ops apply answers what table made ∷ past)
quiet_goes_on past at ops apply answers what table made course ops_are nothing none =
    moved_in at course (rows_after_ops ops (course_rows at course)) course.sdps course.phase (Negotiate at ops apply) (Negotiated answers what) table made past refl
    (side_goes past at ops apply answers table made course ops_are) ops_are.is (ap (λ more. length (sdps past ++ more)) none ∙ ap length (append-nil (sdps past)) ∙ ops_are.is.count)
    (phase_kept past at ops apply answers what table made course.phase nothing (names_go past at ops apply answers what table made course ops_are) ops_are.is.phase)

-- ---- an offer

map-append : {A B : Type 0} (f : A → B) (xs ys : List A) → map f (xs ++ ys) ≡ map f xs ++ map f ys
map-append f [] ys = refl
map-append f (x ∷ xs) ys = ap (λ rest. f x ∷ rest) (map-append f xs ys)

-- the line of data channels that an offer adds, as a course sees it
app_added : (lines : List LineRow) (made : List MadeSdp) (mid : List ℕ) → app_mid_said made ≡ Some mid → seen_app (new_app lines made) ≡ cond (has_app_row (map unnamed lines)) None (Some [])
app_added lines made mid says = by (has_app_row lines) refl
  where
    by : (has : Bool) → has_app_row lines ≡ has → seen_app (new_app lines made) ≡ cond (has_app_row (map unnamed lines)) None (Some [])
    by true is = rw (app_seen lines, is) refl
    by false is = rw (app_seen lines, is, says) refl

-- what an offer says, as a course sees it
offer_seen : (rows lines : List LineRow) (ops : List Op) (app : Option (List ℕ)) (more : ℕ → List LineRow) → map unnamed lines ≡ rows → seen_app app ≡ cond (has_app_row (map unnamed lines)) None (Some [])
    → ((place : ℕ) → map unnamed (more place) ≡ added (seen_app app) place ops (map adding_answer ops)) → map unnamed (lines ++ more (length lines)) ≡ rows ++ rows_added rows ops
offer_seen rows lines ops app more are app_is adds =
    let few : length lines ≡ length (map unnamed lines) = sym (length-map lines unnamed) in
    map-append unnamed lines (more (length lines))
    ∙ ap (λ list. map unnamed lines ++ list) (adds (length lines) ∙ ap (λ (place : ℕ). added (seen_app app) place ops (map adding_answer ops)) few ∙ ap (λ (mid : Option (List ℕ)). added mid (length (map unnamed lines)) ops (map adding_answer ops)) app_is)
    ∙ ap (λ (list : List LineRow). list ++ rows_added list ops) are

none_where : (lines : List LineRow) (made : List MadeSdp) → is_some (new_app lines made) ≡ true → has_app_row lines ≡ false
none_where lines made tells = by (has_app_row lines) refl
  where
    by : (has : Bool) → has_app_row lines ≡ has → has_app_row lines ≡ false
    by false is = is
    by true is = absurd (let e : false ≡ true = rw is at tells in cc)

offer_goes_on : {E : Type 0} → (fresh : Stances) (past : List (Entry E)) (at : Side) (ops : List Op) (apply : Bool) (answers : List OpAnswer) (k : ℕ) (table : Table) (made : List MadeSdp) (course : Course) → Sound fresh past → OpsDone past at ops apply answers table made course
    → length (rows_after_ops ops (course_rows at course) ++ rows_added (rows_after_ops ops (course_rows at course)) ops) ≢ 0 → course.phase ≡ Idle → k ≡ length (sdps past) → MakesSdp {E = E} (Negotiate at ops apply) (Negotiated answers (Offer k)) (Some table) made
    → let rows : List LineRow = rows_after_ops ops (course_rows at course) in
    InCourse (moved_on at course rows (course.sdps + 1) (AwaitsAnswer at course.sdps (rows ++ rows_added rows ops))) (ops_entry at ops apply answers (Offer k) table made ∷ past)
offer_goes_on fresh past at ops apply answers k table made course sound ops_are some idle count says =
    let rows : List LineRow = rows_after_ops ops (course_rows at course) in
    let app : Option (List ℕ) = new_app table.lines made in
    let more : List LineRow = added app (length table.lines) ops answers in
    let mine : IsSideOf rows table.lines = side_goes past at ops apply answers table made course ops_are in
    let names = names_go past at ops apply answers (Offer k) table made course ops_are in
    let same : Aligned (before Left past) (before Right past) = subst (λ (phase : Phase). InPhase phase past) idle ops_are.is.phase in
    let numbered : (k == course.sdps) ≡ true = eq-eqb k course.sdps (count ∙ ops_are.is.count) in
    let says_mid : app_mid_said made ≡ Some (app_line_mid (parsed_lines says.sdp)) = ap app_mid_said says.one in
    let are : map unnamed (table.lines ++ more) ≡ rows ++ rows_added rows ops =
    offer_seen rows table.lines ops app (λ place. added app place ops answers) mine.are (app_added table.lines made _ says_mid) ops_are.seen.adds in
    let live : StartsLive (table.lines ++ more) =
    offer_live table.lines (is_some app) (map row_mid table.lines) (length table.lines) more mine.live (ops_new ops_are.stance past at app ops answers table.lines (length table.lines) ops_are.answered)
    (λ none. some (ap length (sym are) ∙ length-map (table.lines ++ more) unnamed ∙ none)) in
    moved_in at course rows (course.sdps + 1) (AwaitsAnswer at course.sdps (rows ++ rows_added rows ops)) (Negotiate at ops apply) (Negotiated answers (Offer k)) table made past refl mine ops_are.is
    (length-append (sdps past) made ∙ ap (λ (n : ℕ). length (sdps past) + n) (ap length says.one) ∙ ap (λ (n : ℕ). n + 1) ops_are.is.count)
    (record {
      offer = record {
        sdp = says.sdp;
        front = table.lines;
        more = more;
        says = says.says;
        fits = says.fits (starts_are_live (table.lines ++ more) live);
        live = live;
        table = ops_table (at_first ops_are.stance at past app) ops answers table.lines ops_are.answered (past_table fresh past at sound);
        whole = offer_table ops_are.stance past at ops answers table made (past_table fresh past at sound) ops_are.answered;
        may = is_some app;
        new = ops_new ops_are.stance past at app ops answers table.lines (length table.lines) ops_are.answered;
        first = none_where table.lines made;
      };
      are = are;
      has = record {
        right = rw numbered refl;
        unspent = unspent_later fresh past course.sdps sound (omega (arith, ops_are.is.count));
        there = text_next past (ops_entry at ops apply answers (Offer k) table made) _ course.sdps says.one (sym ops_are.is.count);
        adds = rw numbered refl;
        kept = rw (same_side-self at) (aligned_self table.lines);
      };
      same = aligned_on (before at past) _ (before (other_side at) past) _ (names at) (names (other_side at)) (aligned_at at past same);
    })

-- ---- where ops in order lead

-- ops that make no offer apply nothing where their side's own offer is outstanding
nothing_still : (at : Side) (ops : List Op) (phase : Phase) (applied : Bool) → do_supersede true at ops phase ≡ false → (do_add_channel ops ≡ false → applied ≡ false)
    → (side : Side) → is_offerer side phase ≡ true → (same_side at side && applied) ≡ false
nothing_still at ops phase applied right alone side offers = by (same_side at side) refl
  where
    unless : (offerer adds : Bool) → offerer ≡ true → (offerer && (true && adds)) ≡ false → adds ≡ false
    unless true adds is none = none
    unless false adds is none = absurd (cc)

    by : (here : Bool) → same_side at side ≡ here → (here && applied) ≡ false
    by false is = refl
    by true is = alone (unless (is_offerer at phase) (do_add_channel ops) (subst (λ (one : Side). is_offerer one phase ≡ true) (sym (same_side-true at side is)) offers) right)

ops_go_on : {E : Type 0} → (fresh : Stances) (past : List (Entry E)) (at : Side) (ops : List Op) (apply : Bool) (answers : List OpAnswer) (what : Made) (table : Table) (made : List MadeSdp) (course course' : Course) (lacked staged : Bool)
    → Sound fresh past → OpsDone past at ops apply answers table made course → MadeOf (apply && not lacked) staged what (length (sdps past)) → lacked ≡ false → do_need_offer (has_app_row (before at past)) answers ≡ staged
    → staged ≡ must_offer ops (course_rows at course) → fails {E = E} (Negotiated answers what) ≡ false → MakesSdp {E = E} (Negotiate at ops apply) (Negotiated answers what) (Some table) made
    → after_ops apply at ops course (rows_after_ops ops (course_rows at course)) ≡ Some course' → InCourse course' (ops_entry at ops apply answers what table made ∷ past)
ops_go_on fresh past at ops apply answers what table made course course' true staged sound ops_are makes unlacked stage_is staged_is enough says after = absurd (cc)
ops_go_on fresh past at ops false answers NotAsked table made course course' false staged sound ops_are makes unlacked stage_is staged_is enough says after =
    subst (λ (c : Course). InCourse c (ops_entry at ops false answers NotAsked table made ∷ past)) (quiet_course false at ops course course' _ after refl)
    (quiet_goes_on past at ops false answers NotAsked table made course ops_are (record { still = λ side offers. and_right (same_side at side) false refl; unnumbered = λ t. refl }) says)
ops_go_on fresh past at ops true answers Nothing table made course course' false false sound ops_are makes unlacked stage_is staged_is enough says after =
    subst (λ (c : Course). InCourse c (ops_entry at ops true answers Nothing table made ∷ past)) (quiet_course true at ops course course' _ after (sym staged_is))
    (quiet_goes_on past at ops true answers Nothing table made course ops_are
    (record { still = nothing_still at ops course.phase (do_stage answers) ops_are.order.right (λ none. ops_are.seen.alone none ∙ stage_is); unnumbered = λ t. refl }) says)
ops_go_on fresh past at ops true answers (Offer k) table made course course' false true sound ops_are makes unlacked stage_is staged_is enough says after =
    let leads = offer_course true at ops course course' _ after (sym staged_is) in
    subst (λ (c : Course). InCourse c (ops_entry at ops true answers (Offer k) table made ∷ past)) leads.course_is
    (offer_goes_on fresh past at ops true answers k table made course sound ops_are leads.some leads.idle makes says)
ops_go_on fresh past at ops apply answers MadeAlloc table made course course' false staged sound ops_are makes unlacked stage_is staged_is enough says after = absurd (cc)
ops_go_on fresh past at ops true answers NotAsked table made course course' false true sound ops_are makes unlacked stage_is staged_is enough says after = absurd makes
ops_go_on fresh past at ops true answers NotAsked table made course course' false false sound ops_are makes unlacked stage_is staged_is enough says after = absurd makes
ops_go_on fresh past at ops false answers Nothing table made course course' false staged sound ops_are makes unlacked stage_is staged_is enough says after = absurd makes
ops_go_on fresh past at ops false answers (Offer k) table made course course' false staged sound ops_are makes unlacked stage_is staged_is enough says after = absurd makes
ops_go_on fresh past at ops true answers Nothing table made course course' false true sound ops_are makes unlacked stage_is staged_is enough says after = absurd makes
ops_go_on fresh past at ops true answers (Offer k) table made course course' false false sound ops_are makes unlacked stage_is staged_is enough says after = absurd makes

pub negotiated_goes_on : {E : Type 0} → (fresh between : Stances) (past : List (Entry E)) (at : Side) (ops : List Op) (apply : Bool) (outcome : Outcome E) (table : Option Table) (made : List MadeSdp) (course course' : Course) → Sound fresh past → InCourse course past
    → (between at).channels.given + length (numbers_in outcome) < 2 ^ 64 - 1 → IsSound fresh past between (Negotiate at ops apply) outcome table made → MakesSdp (Negotiate at ops apply) outcome table made
    → after_ops apply at ops course (rows_after_ops ops (course_rows at course)) ≡ Some course' → fails outcome ≡ false
    → InCourse course' (entry (Negotiate at ops apply) outcome table made ∷ past)
negotiated_goes_on {E} fresh between past at ops apply Alloc None made course course' sound is few replied says after enough = absurd (cc)
negotiated_goes_on {E} fresh between past at ops apply (Negotiated answers what) (Some table) made course course' sound is few replied says after enough =
    let unlacked : answers_lack answers ≡ false = (or_parts _ (answers_lack answers) (or_parts (outcome_lacks {E = E} (Negotiated answers what)) false enough).0).1 in
    let order = in_order apply at ops course course' _ after in
    let app : Option (List ℕ) = new_app table.lines made in
    let fine : AreFine answers = ops_fine (at_first (between at) at past app) ops answers table.lines replied.0 order.plain few in
    let seen : AreSeen (before at past) app ops answers table.lines =
    ops_seen (before at past) (map row_mid (before at past)) app (between at).channels (numbers_told at past) ops answers table.lines replied.0 unlacked fine in
    ops_go_on fresh past at ops apply answers what table made course course' (answers_lack answers) (do_need_offer (has_app_row (before at past)) answers) sound
    (record { stance = between at; answered = replied.0; seen = seen; order = order; is = is }) replied.1 unlacked refl (seen.staged ∙ ap (must_offer ops) (is.sides at).are) enough says after
negotiated_goes_on {E} fresh between past at ops apply outcome table made course course' sound is few replied says after enough = absurd replied
