-- Lines of settings, and lines of steps behind them.
use Rattle.std.proofs.Common.{◌≡◌, ◌+◌, ◌<◌, ℕ, zero, suc, List, [], ◌∷◌, length, take, drop, get_or, refl, ap, sym, subst, ◌∙◌, codes, arith, Bor}
use Rattle.std.specs.List.{AllZip}
use Rattle.std.proofs.lemmas.List.{drop-map}
use Rattle.rtc_wire_text.specs.Words.{words}
use Rattle.rtc_script.specs.Lines.{IsLine, IsSetting, AreSettingWords, AreStepWords}
use Rattle.rtc_script.specs.Script.{HaveSteps, HaveBoth, HaveLines}
use Rattle.rtc_script.specs.Steps.{AreAllSettings, StepsFailAt, FailsAt}
use Rattle.rtc_script.specs.Words.{side_text}
use Rattle.rtc_script.specs.declared.script.Script.{Script}
use Rattle.rtc_script.specs.declared.setting.Setting.{Setting}
use Rattle.rtc_script.proofs.OpWords.{same_letter}
use Rattle.rtc_script.proofs.ZipLemmas.{texts, front_zip}
use Rattle.rtc_run_history.specs.Sides.{side_of}
use Rattle.rtc_run_history.specs.declared.side.Side.{Side}
use Rattle.rtc_run_history.specs.declared.side.Side.TheVariants.{Left, Right}
use Rattle.rtc_run_history.specs.declared.step.Step.{Step}

-- ---- fronts

-- the steps in so many lines, of which the first are those of settings
abbrev pub front_steps : ℕ → List (Side × Setting) → List Step → List Step
front_steps k [] steps = take k steps
front_steps zero (setting ∷ settings) steps = []
front_steps (suc k) (setting ∷ settings) steps = front_steps k settings steps

-- what so many lines say of a script
abbrev pub front_script : ℕ → Script → Script
front_script k script = record { settings = take k script.settings; steps = front_steps k script.settings script.steps }

front_both : (k : ℕ) (lines : List (List ℕ)) (settings : List (Side × Setting)) (steps : List Step) → HaveBoth lines settings steps → HaveBoth (take k lines) (take k settings) (front_steps k settings steps)
front_both zero lines [] steps have = tt
front_both (suc k) lines [] steps have = front_zip IsLine (suc k) lines steps have
front_both zero lines (setting ∷ settings) steps have = tt
front_both (suc k) [] (setting ∷ settings) steps have = absurd have
front_both (suc k) (line ∷ lines) (setting ∷ settings) steps have = (have.0, front_both k lines settings steps have.1)

pub front_lines : (k : ℕ) (lines : List (List ℕ)) (script : Script) → HaveLines lines script → HaveLines (take k lines) (front_script k script)
front_lines k lines script have = front_both k lines script.settings script.steps have

-- ---- a line of a setting is no line of a step

no_side : (side : Side) → codes "set" ≡ side_text side → ⊥
no_side Left same = absurd (omega (arith, same_letter 0 (codes "set") (codes "set") (codes "L") refl same))
no_side Right same = absurd (omega (arith, same_letter 0 (codes "set") (codes "set") (codes "R") refl same))

setting_no_step : (line : List ℕ) (setting : Side × Setting) (step : Step) → IsSetting line setting → IsLine line step → ⊥
setting_no_step line setting step is line_is = by (words line) is line_is
  where
    by : (found : List (List ℕ)) → AreSettingWords found setting → AreStepWords found step → ⊥
    by [] k l = k
    by (verb ∷ []) k l = k
    by (verb ∷ side ∷ value) k l = no_side (side_of step) (sym k.0 ∙ l.0)

-- ---- lines of settings, and then of steps

both_lines : (lines : List (List ℕ)) (settings : List (Side × Setting)) (steps : List Step) → AllZip IsSetting (take (length settings) lines) settings → HaveSteps (drop (length settings) lines) steps → HaveBoth lines settings steps
both_lines lines [] steps front have = have
both_lines [] (setting ∷ settings) steps front have = absurd front
both_lines (line ∷ lines) (setting ∷ settings) steps front have = (front.0, both_lines lines settings steps front.1 have)

pub have_lines : (lines : List (List ℕ)) (settings : List (Side × Setting)) (steps : List Step) → AreAllSettings lines settings → HaveSteps (drop (length settings) lines) steps → HaveLines lines (record { settings = settings; steps = steps })
have_lines lines settings steps first have = both_lines lines settings steps first.front have

-- no script has lines of which the first are settings and the next ones no steps
none_here : (lines : List (List ℕ)) (place : ℕ) → ((setting : Side × Setting) → IsSetting (get_or lines 0 []) setting → ⊥) → StepsFailAt lines place → (settings : List (Side × Setting)) (steps : List Step)
    → HaveBoth (take (suc place) lines) settings steps → ⊥
none_here lines place other fails [] steps have = fails.2 steps (subst (λ (n : ℕ). HaveSteps (take n lines) steps) (let e : suc place ≡ place + 1 = omega arith in e) have)
none_here [] place other fails (setting ∷ settings) steps have = absurd have
none_here (line ∷ lines) place other fails (setting ∷ settings) steps have = other setting have.0

-- lines behind settings fail where they are no steps
fails_from : (lines : List (List ℕ)) (settings : List (Side × Setting)) (place : ℕ) → AllZip IsSetting (take (length settings) lines) settings → (length settings < length lines → (setting : Side × Setting) → IsSetting (get_or lines (length settings) []) setting → ⊥)
    → StepsFailAt (drop (length settings) lines) place
    → (length settings + place < length lines) × ((other : List (Side × Setting)) (steps : List Step) → HaveBoth (take (suc (length settings + place)) lines) other steps → ⊥)
fails_from lines [] place front no_more fails =
    (let e : place < length lines = fails.0 in omega arith, λ other steps have. none_here lines place (no_more (let e : place < length lines = fails.0 in omega arith)) fails other steps (subst (λ (n : ℕ). HaveBoth (take (suc n) lines) other steps) (let e : 0 + place ≡ place = omega arith in e) have))
fails_from [] (setting ∷ settings) place front no_more fails = absurd front
fails_from (line ∷ lines) (setting ∷ settings) place front no_more fails =
    let rest = fails_from lines settings place front.1 (λ less. no_more (let e : length settings < length lines = less in omega arith)) fails in
    (let e : length settings + place < length lines = rest.0 in omega arith, λ other steps have. by rest.1 other steps (subst (λ (n : ℕ). HaveBoth (take (suc n) (line ∷ lines)) other steps) (let e : length (setting ∷ settings) + place ≡ suc (length settings + place) = omega arith in e) have))
  where
    by : ((other : List (Side × Setting)) (steps : List Step) → HaveBoth (take (suc (length settings + place)) lines) other steps → ⊥) → (other : List (Side × Setting)) (steps : List Step)
        → HaveBoth (line ∷ take (suc (length settings + place)) lines) other steps → ⊥
    by rest [] [] have = absurd have
    by rest [] (step ∷ steps) have = setting_no_step line setting step front.0 have.0
    by rest (first ∷ other) steps have = rest other steps have.1

-- the lines of settings, and those of steps up to the place that fails
have_front : (lines : List (List ℕ)) (settings : List (Side × Setting)) (steps : List Step) (place : ℕ) → AllZip IsSetting (take (length settings) lines) settings → HaveSteps (take place (drop (length settings) lines)) steps
    → HaveBoth (take (length settings + place) lines) settings steps
have_front lines [] steps place front have = subst (λ (n : ℕ). HaveSteps (take n lines) steps) (let e : place ≡ 0 + place = omega arith in e) have
have_front [] (setting ∷ settings) steps place front have = absurd front
have_front (line ∷ lines) (setting ∷ settings) steps place front have =
    subst (λ (n : ℕ). HaveBoth (take n (line ∷ lines)) (setting ∷ settings) steps) (let e : suc (length settings + place) ≡ length (setting ∷ settings) + place = omega arith in e)
    (front.0, have_front lines settings steps place front.1 have)

-- Lines fail behind their settings, where those that come then are no steps.
pub fails_behind : (lines : List (List ℕ)) (settings : List (Side × Setting)) (place : ℕ) → AreAllSettings lines settings → StepsFailAt (drop (length settings) lines) place → FailsAt lines (length settings + place)
fails_behind lines settings place first fails =
    let from = fails_from lines settings place first.front first.no_more fails in (
      from.0,
      (record { settings = settings; steps = fails.1.0 }, have_front lines settings fails.1.0 place first.front fails.1.1),
      λ script have. from.1 script.settings script.steps (subst (λ (n : ℕ). HaveBoth (take n lines) script.settings script.steps) (let e : length settings + place + 1 ≡ suc (length settings + place) = omega arith in e) have),
    )

-- ---- as they are read

behind_texts : (lines rest : List (Bor (List ℕ))) (n count : ℕ) → count ≡ n → rest ≡ drop count lines → texts rest ≡ drop n (texts lines)
behind_texts lines rest n count same is = ap texts (is ∙ ap (λ k. drop k lines) same) ∙ sym (drop-map (λ (line : Bor (List ℕ)). line.now) n lines)

pub lines_read : (lines rest : List (Bor (List ℕ))) (settings : List (Side × Setting)) (count : ℕ) (steps all : List Step) → AreAllSettings (texts lines) settings → count ≡ length settings → rest ≡ drop count lines
    → HaveSteps (texts rest) steps → all ≡ steps → HaveLines (texts lines) (record { settings = settings; steps = all })
lines_read lines rest settings count steps all first same is have these =
    rw these (have_lines (texts lines) settings steps first (subst (λ (found : List (List ℕ)). HaveSteps found steps) (behind_texts lines rest (length settings) count same is) have))

pub lines_failed : (lines rest : List (Bor (List ℕ))) (settings : List (Side × Setting)) (count place : ℕ) → AreAllSettings (texts lines) settings → count ≡ length settings → rest ≡ drop count lines
    → StepsFailAt (texts rest) place → FailsAt (texts lines) (count + place)
lines_failed lines rest settings count place first same is fails =
    rw same (fails_behind (texts lines) settings place first (subst (λ (found : List (List ℕ)). StepsFailAt found place) (behind_texts lines rest (length settings) count same is) fails))
