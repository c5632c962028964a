-- Each session description that a run of formed peers had accepted left the rows taken by what it said.
use Rattle.std.proofs.Common.{not, ◌≡◌, ◌==◌, ◌&&◌, ◌++◌, ◌∷◌, ℕ, Bool, true, false, cond, List, [], map, length, Option, Some, None, refl, sym, ◌∙◌, ap, subst, inl, inr, ◌⊎◌, append-nil}
use Rattle.std.specs.Prelude.{slice_get}
use Rattle.rtc_sdp_values.specs.declared.line_row.LineRow.{LineRow}
use Rattle.rtc_sdp_values.specs.declared.sdp.Sdp.{Sdp}
use Rattle.rtc_sdp_writer.specs.AsRead.{as_read}
use Rattle.rtc_change.specs.TableAfter.{table_after}
use Rattle.rtc_peer_core.specs.Meanings.{Meanings}
use Rattle.rtc_peer_rows.specs.ParsedLines.{parsed_lines}
use Rattle.rtc_run_history.specs.declared.made.Made.TheVariants.{Offer}
use Rattle.rtc_run_history.specs.declared.outcome.Outcome.{Outcome}
use Rattle.rtc_run_history.specs.declared.outcome.Outcome.TheVariants.{Negotiated, Answered, Finished}
use Rattle.rtc_run_history.specs.declared.side.Side.{Side}
use Rattle.rtc_run_history.specs.declared.step.Step.{Step}
use Rattle.rtc_run_history.specs.declared.step.Step.TheVariants.{Negotiate, AcceptOffer, AcceptAnswer, ForeignOffer, ForeignAnswer}
use Rattle.rtc_run_history.specs.declared.table.Table.{Table}
use Rattle.rtc_run_history.specs.PairState.{PairState, stances_of}
use Rattle.rtc_run_history.specs.Past.{Entry, MadeSdp, added_in, before, remote_sdp, sdp_for, sdps, table_rows}
use Rattle.rtc_run_history.specs.Runs.{EntersSoundly, Went}
use Rattle.rtc_run_history.specs.SaidRows.{MakesSdp, row_said}
use Rattle.rtc_run_history.specs.Sides.{same_side}
use Rattle.rtc_run_history.specs.Signalled.{NotMade, Readable, Signalled, signalled_if}
use Rattle.rtc_run_history.specs.Sound.{IsSound}
use Rattle.rtc_run_history.specs.SoundEntry.{AreReadBack}
use Rattle.rtc_run_history.specs.Views.{AreFormed, Stances}
use Rattle.rtc_run_laws.proofs.AsReadSdps.{lines_as_read}
use Rattle.rtc_run_laws.proofs.FinishedRounds.{answer_taken}
use Rattle.rtc_run_laws.proofs.PastAnswers.{answered}
use Rattle.rtc_run_laws.proofs.PushedLists.{push_places}
use Rattle.rtc_run_laws.proofs.ReadPasts.{past_read, read_at}
use Rattle.rtc_run_laws.proofs.SoundPasts.{Sound}
use Rattle.rtc_run_laws.proofs.Takings.{answer_taking, foreign_answer_taking, foreign_offer_taking, offer_taking}
use Rattle.rtc_run_laws.specs.Taken.{AllTaken, RunsTakeTexts, TakesForeign, TakesSaid, made_one, rows_said}

-- ---- what each session description says

-- a step that makes a session description tells its rows
abbrev MadeRows : {E : Type 0} → Step → Outcome E → Option Table → List MadeSdp → Type 0
MadeRows step outcome table made =
    (said : MadeSdp) × (made ≡ said ∷ []) × (parsed_lines said.sdp ≡ map row_said (table_rows table ++ added_in (length (table_rows table)) step outcome table made))

no_more : (sdp : Sdp) (rows : List LineRow) → parsed_lines sdp ≡ map row_said rows → parsed_lines sdp ≡ map row_said (rows ++ [])
no_more sdp rows says = says ∙ ap (map row_said) (sym (append-nil rows))

made_rows : {E : Type 0} → (step : Step) (outcome : Outcome E) (table : Option Table) (made : List MadeSdp) → MakesSdp step outcome table made → (made ≡ []) ⊎ MadeRows step outcome table made
made_rows (Negotiate at ops apply) (Negotiated answers (Offer k)) (Some table) made h = inr (record { at = at; offer = true; sdp = h.sdp }, h.one, h.says)
made_rows (AcceptOffer at k) (Answered n) (Some table) made h = inr (record { at = at; offer = false; sdp = h.sdp }, h.one, no_more h.sdp table.lines h.says)
made_rows (ForeignOffer at text) (Answered n) (Some table) made h = inr (record { at = at; offer = false; sdp = h.sdp }, h.one, no_more h.sdp table.lines h.says)
made_rows step outcome table made h = inl h

some_said : (one other : MadeSdp) → Some one ≡ Some other → one ≡ other
some_said one other same = cc

-- the rows that a session description says are those of the step that made it
said_rows : {E : Type 0} → (fresh : Stances) (past : List (Entry E)) → Sound fresh past → (k : ℕ) (said : MadeSdp) → slice_get (sdps past) k ≡ Some said
    → parsed_lines said.sdp ≡ map row_said (rows_said k past)
said_rows fresh [] sound k said there = absurd (let e : ◌≡◌ {A = Option MadeSdp} None (Some said) = there in cc)
said_rows fresh (e ∷ past) sound k said there = by (made_rows e.step e.outcome e.table e.made sound.0.sound.made) (λ before_it. said_rows fresh past sound.1 k said before_it)
  where
    earlier : List LineRow
    earlier = rows_said k past

    news : List LineRow
    news = table_rows e.table ++ added_in (length (table_rows e.table)) e.step e.outcome e.table e.made

    by : (e.made ≡ []) ⊎ MadeRows e.step e.outcome e.table e.made → (slice_get (sdps past) k ≡ Some said → parsed_lines said.sdp ≡ map row_said (rows_said k past))
        → parsed_lines said.sdp ≡ map row_said (rows_said k (e ∷ past))
    by (inl none) rest =
        let was : slice_get (sdps past) k ≡ Some said = ap (λ (l : List MadeSdp). slice_get l k) (sym (ap (λ (more : List MadeSdp). sdps past ++ more) none ∙ append-nil (sdps past))) ∙ there in
        rest was ∙ ap (λ (made : List MadeSdp). map row_said (cond (made_one made && (length (sdps past) == k)) news earlier)) (sym none)
    by (inr one) rest = elim (push_places (sdps past) one.0 k) [
      | inl h ↦ (
          let was : slice_get (sdps past) k ≡ Some said = sym h.1 ∙ ap (λ (more : List MadeSdp). slice_get (sdps past ++ more) k) (sym one.1) ∙ there in
          rest was ∙ ap (λ (b : Bool). map row_said (cond b news earlier)) (sym (ap (λ (made : List MadeSdp). made_one made && (length (sdps past) == k)) one.1 ∙ h.0))
          )
      | inr h ↦ (
          let same : one.0 ≡ said = some_said one.0 said (sym h.2 ∙ ap (λ (more : List MadeSdp). slice_get (sdps past ++ more) k) (sym one.1) ∙ there) in
          ap (λ (made : MadeSdp). parsed_lines made.sdp) (sym same) ∙ one.2
          ∙ ap (λ (b : Bool). map row_said (cond b news earlier)) (sym (ap (λ (made : List MadeSdp). made_one made && (length (sdps past) == k)) one.1 ∙ h.1))
          )
    ]

-- ---- what is delivered

read_same : (one other : Sdp) → Readable one ≡ Readable other → one ≡ other
read_same one other same = cc

-- what is read of a session description of the other side says the rows of the step that made it
remote_rows : {E : Type 0} → (fresh : Stances) (past : List (Entry E)) (offer : Bool) (at : Side) (k : ℕ) (sdp : Sdp) → AreReadBack (sdps past) → Sound fresh past → remote_sdp offer at k past ≡ Readable sdp
    → parsed_lines sdp ≡ map row_said (rows_said k past)
remote_rows fresh past offer at k sdp read sound is = by (slice_get (sdps past) k) refl is
  where
    here : (said : MadeSdp) (b : Bool) → slice_get (sdps past) k ≡ Some said → signalled_if (cond b (Some said.sdp) None) ≡ Readable sdp → parsed_lines sdp ≡ map row_said (rows_said k past)
    here said true there is =
        let same : as_read said.sdp ≡ sdp = read_same (as_read said.sdp) sdp (sym (read_at past k said read there) ∙ is) in
        ap parsed_lines (sym same) ∙ lines_as_read said.sdp ∙ said_rows fresh past sound k said there
    here said false there is = absurd (let e : NotMade ≡ Readable sdp = is in cc)

    by : (found : Option MadeSdp) → slice_get (sdps past) k ≡ found → signalled_if (sdp_for offer at found) ≡ Readable sdp → parsed_lines sdp ≡ map row_said (rows_said k past)
    by None there is = absurd (let e : NotMade ≡ Readable sdp = is in cc)
    by (Some said) there is = here said (cond offer said.offer (not said.offer) && not (same_side said.at at)) there is

-- ---- each step

takes_said : {E : Type 0} → (fresh between : Stances) (past : List (Entry E)) (step : Step) (outcome : Outcome E) (table : Option Table) (made : List MadeSdp) → AreReadBack (sdps past) → Sound fresh past
    → IsSound fresh past between step outcome table made → TakesSaid past step outcome table
takes_said {E} fresh between past (AcceptOffer at k) (Answered n) (Some table) made read sound replied =
    let it = answered E _ _ _ _ n table.lines (offer_taking fresh between past at k (Answered n) table made replied) in
    it.leaves ∙ ap (λ said. table_after (before at past) said true) (remote_rows fresh past true at k it.offer read sound it.is)
takes_said {E} fresh between past (AcceptAnswer at t a) Finished (Some table) made read sound replied =
    let it = answer_taken E _ _ _ _ _ table.lines (answer_taking fresh between past at t a Finished table made replied) in
    it.leaves ∙ ap (λ said. table_after (before at past) said false) (remote_rows fresh past false at a it.answer read sound it.is)
takes_said {E} fresh between past (ForeignOffer at text) (Answered n) (Some table) made read sound replied =
    let it = answered E _ _ _ _ n table.lines (foreign_offer_taking fresh between past at text (Answered n) table made replied) in
    subst (λ (read : Signalled). TakesForeign true (before at past) read table.lines) (sym it.is) it.leaves
takes_said {E} fresh between past (ForeignAnswer at t text) Finished (Some table) made read sound replied =
    let it = answer_taken E _ _ _ _ _ table.lines (foreign_answer_taking fresh between past at t text Finished table made replied) in
    subst (λ (read : Signalled). TakesForeign false (before at past) read table.lines) (sym it.is) it.leaves
takes_said fresh between past step outcome table made read sound replied = tt

all_taken : {E : Type 0} → (fresh : Stances) (past : List (Entry E)) → AreFormed fresh → Sound fresh past → AllTaken past
all_taken fresh [] formed sound = tt
all_taken fresh (e ∷ past) formed sound = (
  takes_said fresh sound.0.between past e.step e.outcome e.table e.made (past_read fresh past formed sound.1) sound.1 sound.0.sound.replied,
  all_taken fresh past formed sound.1,
)

module _ {I D S M E X T W N : Type 0} (m : Meanings I D S M E X T W N) (stun : List ℕ → Bool) where
  went_sound : (start pair : PairState I D S M N) (past : List (Entry E)) → Went (EntersSoundly m stun start) (λ first. first ≡ start) past pair → Sound (stances_of m start) past
  went_sound start pair [] went = tt
  went_sound start pair (last ∷ past) went =
      (record { between = stances_of m went.0; after = stances_of m pair; sound = went.2.1 }, went_sound start went.0 past went.1)

  -- In each run of formed peers what was accepted was taken.
  pub runs_take_texts : RunsTakeTexts m stun
  runs_take_texts = λ start pair steps replies formed run. all_taken (stances_of m start) run.past formed (went_sound start pair run.past run.went)
