-- Crossed offers meet, as negotiation sees both sides.
use Rattle.std.proofs.Common.{◌≡◌, ◌<◌, ◌^◌, ◌&&◌, not, ◌++◌, ℕ, Bool, false, List, [], ◌∷◌, length, refl, sym, ◌∙◌, ap, subst}
use Rattle.std.proofs.lemmas.Bool.{or_parts}
use Rattle.rtc_sdp_values.specs.declared.line_row.LineRow.{LineRow}
use Rattle.rtc_peer_rows.specs.Table.{IsTable}
use Rattle.rtc_run_history.proofs.BothSides.{both_sides}
use Rattle.rtc_run_history.specs.Memory.{fails}
use Rattle.rtc_run_history.specs.Orderly.{has_failed}
use Rattle.rtc_run_history.specs.Past.{Entry, added_by, before, steps_of}
use Rattle.rtc_run_history.specs.Sides.{other_side}
use Rattle.rtc_run_history.specs.declared.op.Op.{Op}
use Rattle.rtc_run_history.specs.declared.side.Side.{Side}
use Rattle.rtc_run_history.specs.declared.side.Side.TheVariants.{Left, Right}
use Rattle.rtc_run_history.specs.declared.step.Step.{Step}
use Rattle.rtc_run_laws.specs.Crossed.{AreOffered, BeginsWith, CrossedNumbers, IsCourse, MayCross}
use Rattle.rtc_run_laws.proofs.CrossedRounds.{CrossOffer}
use Rattle.rtc_run_laws.proofs.CrossingActs.{Comes, Crossing, Fits}
use Rattle.rtc_run_laws.proofs.CrossingMeets.{StanceAllMeet, StanceGoes, StanceMet}
use Rattle.rtc_run_laws.proofs.CrossingOpens.{crossing_opens}
use Rattle.rtc_run_laws.proofs.CrossingPaths.{LedTo, begins_led, course_numbers, whole_led}
use Rattle.rtc_run_laws.proofs.CrossingPhases.{Polite, Quiet, Done, Impolite, Still, Over}
use Rattle.rtc_run_laws.proofs.CrossingRows.{met_equal, met_rows}
use Rattle.rtc_run_laws.proofs.CrossingStates.{Ended}
use Rattle.rtc_run_laws.proofs.CrossingSteps.{act}
use Rattle.rtc_run_laws.proofs.Knowns.{Known, known_next, known_outstands, known_sees, known_sound, known_tells, takes_of}
use Rattle.rtc_run_laws.proofs.Around.{length-told}
use Rattle.rtc_run_laws.proofs.PastTables.{past_table}
use Rattle.rtc_run_laws.proofs.Reaches.{small_before}
use Rattle.rtc_run_laws.proofs.RowNames.{Aligned, length-aligned}
use Rattle.rtc_run_laws.proofs.SideRoundSteps.{other_twice}
use Rattle.rtc_run_laws.proofs.Outstands.{Outstands}
use Rattle.rtc_run_laws.proofs.SeenSides.{SideSees}
use Rattle.rtc_run_laws.proofs.StanceSteps.{PairStance}
use Rattle.rtc_run_laws.proofs.Tells.{Tells}

-- ---- through the course

-- what holds where further entries led to phases
record Arrives {E : Type 0} (start : PairStance) (s : Side) (n : CrossedNumbers) (stood : List LineRow) (k : ℕ) (pp : Polite) (ip : Impolite) (earlier crossing : List (Entry E)) (from pair : PairStance) (went : StanceGoes from crossing pair) : Type 0 where
  known : Known start (crossing ++ earlier) pair
  state : Crossing start s n stood k pp ip (crossing ++ earlier) pair
  meets : StanceAllMeet s n stood from crossing pair went

-- what is known before the course
record Opens {E : Type 0} (start : PairStance) (s : Side) (n : CrossedNumbers) (stood : List LineRow) (first : ℕ) (earlier : List (Entry E)) (from : PairStance) : Type 0 where
  fits : Fits start s n
  known : Known start earlier from
  state : Crossing start s n stood first Quiet Still earlier from

arrives : {E : Type 0} → (start from : PairStance) (earlier : List (Entry E)) (s : Side) (ops others : List Op) (n : CrossedNumbers) (stood : List LineRow) (first : ℕ) → Opens start s n stood first earlier from
    → (crossing : List (Entry E)) (pair : PairStance) (went : StanceGoes from crossing pair) (k : ℕ) (pp : Polite) (ip : Impolite) → LedTo s ops others n first crossing k pp ip → pair.size < 2 ^ 32 → AreOffered s crossing → has_failed crossing ≡ false
    → Arrives start s n stood k pp ip earlier crossing from pair went
arrives start from earlier s ops others n stood first opens [] pair went k pp ip led small offered enough = record {
  known = subst (λ (p : PairStance). Known start earlier p) (sym went) opens.known;
  state = subst (λ (p : PairStance). Crossing start s n stood k pp ip earlier p) (sym went)
      (subst (λ (j : ℕ). Crossing start s n stood j pp ip earlier from) (sym led.0)
      (subst (λ (p : Polite). Crossing start s n stood first p ip earlier from) (sym led.1)
      (subst (λ (i : Impolite). Crossing start s n stood first Quiet i earlier from) (sym led.2) opens.state)));
  meets = tt;
}
arrives {E} start from earlier s ops others n stood first opens (last ∷ newer) pair went k pp ip led small offered enough =
    let parts : (fails last.outcome ≡ false) × (has_failed newer ≡ false) = or_parts (fails last.outcome) (has_failed newer) enough in
    let was = arrives start from earlier s ops others n stood first opens newer went.0 went.1 led.0 led.1 led.2 led.3 (small_before went.0 pair last went.2 small) offered.2 parts.1 in
    let comes : Comes start s (newer ++ earlier) went.0 pair last.step last.outcome last.table last.made = record {
      takes = takes_of start went.0 pair (newer ++ earlier) last was.known went.2 small;
      offer = offered.0;
      live = offered.1;
      enough = parts.0;
      after = known_next start went.0 pair (newer ++ earlier) last was.known went.2 small;
    } in
    let acted = act start s ops others n stood (newer ++ earlier) went.0 pair led.0 k led.1 pp led.2 ip last.step last.outcome last.table last.made opens.fits led.4 was.state comes in
    record {
      known = known_next start went.0 pair (newer ++ earlier) last was.known went.2 small;
      state = acted.next;
      meets = (was.meets, acted.meets);
    }

-- ---- the two laws

opens_of : {E : Type 0} → (start from : PairStance) (earlier : List (Entry E)) (s : Side) (ops others : List Op) (n : CrossedNumbers) (course : List Step) → Known start earlier from
    → MayCross s (before Left earlier) (before Right earlier) from.sides → IsCourse s (length from.sdps) ops others n course → Opens start s n (before s earlier) (length from.sdps) earlier from
opens_of start from earlier s ops others n course known may is =
    let out : (at : Side) → Outstands start.sides earlier at (from.sides at) from.sdps = known_outstands start earlier from known in
    let sees : (at : Side) → SideSees start.sides earlier at (from.sides at) = known_sees start earlier from known in
    let left = (sees Left).lite in
    let right = (sees Right).lite in
    record {
      fits = record {
        polite = sym (out s).polite ∙ may.polite;
        impolite = sym (out (other_side s)).polite ∙ may.impolite;
        connect = ap (λ (b : Bool). not (b && (start.sides Right).ice.lite)) (sym left) ∙ ap (λ (b : Bool). not ((from.sides Left).ice.lite && b)) (sym right) ∙ may.checks;
        apart = course_numbers s ops others n (length from.sdps) course is;
      };
      known = known;
      state = record {
        count = length-told earlier from (known_tells start earlier from known);
        polite = refl;
        impolite = crossing_opens s earlier from (past_table start.sides earlier Left (known_sound start earlier from known)) may;
      };
    }

pub stance_meets : {E : Type 0} → (start from pair : PairStance) (earlier crossing : List (Entry E)) (s : Side) (ops others : List Op) (n : CrossedNumbers) (course : List Step) → Known start earlier from → (went : StanceGoes from crossing pair) → pair.size < 2 ^ 32
    → MayCross s (before Left earlier) (before Right earlier) from.sides → IsCourse s (length from.sdps) ops others n course → BeginsWith (steps_of crossing) course → AreOffered s crossing → has_failed crossing ≡ false
    → StanceAllMeet s n (before s earlier) from crossing pair went
stance_meets start from pair earlier crossing s ops others n course known went small may is begins offered enough =
    let led = begins_led s ops others n (length from.sdps) crossing course is begins in
    Arrives.meets (arrives start from earlier s ops others n (before s earlier) (length from.sdps) (opens_of start from earlier s ops others n course known may is) crossing pair went led.count led.polite led.impolite led.led small offered enough)

pub stance_met : {E : Type 0} → (start from pair : PairStance) (earlier crossing : List (Entry E)) (s : Side) (ops others : List Op) (n : CrossedNumbers) → Known start earlier from → StanceGoes from crossing pair → pair.size < 2 ^ 32
    → MayCross s (before Left earlier) (before Right earlier) from.sides → IsCourse s (length from.sdps) ops others n (steps_of crossing) → AreOffered s crossing → has_failed crossing ≡ false
    → StanceMet s (before s earlier) (added_by (length (before (other_side s) earlier)) n.impolite (crossing ++ earlier)) pair
stance_met {E} start from pair earlier crossing s ops others n known went small may is offered enough =
    let led = whole_led s ops others n (length from.sdps) crossing is in
    let opens : Opens start s n stood (length from.sdps) earlier from = opens_of start from earlier s ops others n (steps_of crossing) known may is in
    let there = arrives start from earlier s ops others n stood (length from.sdps) opens crossing pair went led.0 Done Over led.1 small offered enough in
    let ended : Ended s n.impolite stood past pair = there.state.impolite in
    let offer : CrossOffer = ended.offer in
    let tells : Tells past pair = known_tells start past pair there.known in
    let table : (at : Side) → IsTable (before at past) = λ at. past_table start.sides past at (known_sound start past pair there.known) in
    let theirs : Aligned (offer.front ++ offer.more) (before s past) = subst (λ (side : Side). Aligned (offer.front ++ offer.more) (before side past)) (other_twice s) ended.meets.theirs in
    let few : length (before (other_side s) earlier) ≡ length offer.front =
    length-aligned stood (before (other_side s) earlier) opens.state.impolite.alike ∙ sym (length-aligned stood offer.front ended.same) in
    let adds : added_by (length (before (other_side s) earlier)) n.impolite past ≡ offer.more = ap (λ (j : ℕ). added_by j n.impolite past) few ∙ ended.adds in
    let names : (at : Side) → Aligned (offer.front ++ offer.more) (before at past) = both_sides (λ at. Aligned (offer.front ++ offer.more) (before at past)) s theirs ended.meets.mine in
    record {
      equal = let mine = (tells.sides s).rows in let others = (tells.sides (other_side s)).rows in rw (mine, others) (met_equal (offer.front ++ offer.more) (before s past) (before (other_side s) past) theirs ended.meets.mine);
      rows = λ at. let shown = (tells.sides at).rows in
          rw (adds, shown) (met_rows stood offer.front offer.more (before at past) (past_table start.sides earlier s (known_sound start earlier from known)) offer.whole (table at) ended.same (names at));
      parted = ended.parted;
    }
  where
    stood : List LineRow
    stood = before s earlier

    past : List (Entry E)
    past = crossing ++ earlier
