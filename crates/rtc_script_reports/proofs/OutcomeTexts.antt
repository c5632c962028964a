-- The words of outcomes: each is in one line, and tells what it shows of its outcome.
use Rattle.std.specs.Prelude.{codes}
use Rattle.std.specs.Fmt.{decimal}
use Rattle.std.proofs.Common.{◌≡◌, ◌≢◌, ◌==◌, ◌++◌, ◌∷◌, ◌⊎◌, ℕ, true, false, cond, List, [], map, length, inl, inr, refl, sym, ◌∙◌, ap, arith}
use Rattle.std.proofs.lemmas.Fmt.{decimal_injective}
use Rattle.std.proofs.lemmas.List.{append_cancel_left}
use Rattle.rtc_peer_core.specs.declared.rtc_error.RtcError.{RtcError}
use Rattle.rtc_peer_core.specs.declared.rtc_error.RtcError.TheVariants.{RemoteSdp, Sdp, Net, Dtls, Sctp, Media as MediaFailed, ChangesOutOfOrder, BadChannel, Alloc as PeerAlloc, Glare}
use Rattle.rtc_plain_media.specs.declared.plain_media_event.PlainMediaEvent.{PlainMediaEvent}
use Rattle.rtc_run_history.specs.declared.made.Made.{Made}
use Rattle.rtc_run_history.specs.declared.op_answer.OpAnswer.{OpAnswer}
use Rattle.rtc_run_history.specs.declared.outcome.Outcome.{Outcome}
use Rattle.rtc_run_history.specs.declared.outcome.Outcome.TheVariants.{Negotiated, Answered, Finished, Done, Wrote, Polled, Refused, NoSuch, Alloc}
use Rattle.rtc_run_history.specs.declared.step.Step.{Step}
use Rattle.rtc_script_reports.specs.Alike.{AreAlikeOutcomes}
use Rattle.rtc_script_reports.specs.Fits.{AnswersOps, AnswersStep, FitsPolled, FitsWords, breaks, ops_of}
use Rattle.rtc_script_reports.specs.Outcomes.{answers_text, made_text, outcome_text, truth_text}
use Rattle.rtc_script_reports.specs.Outputs.{output_line}
use Rattle.rtc_script_reports.proofs.AnswerTexts.{answers_spaceless, answers_whole, made_whole, same_answers, same_made, same_truth}
use Rattle.rtc_script_reports.proofs.Cuts.{cut_front, cut_nothing, cut_space, none_append, none_put, text_of}
use Rattle.rtc_script_reports.proofs.ErrorTexts.{PrintsInLine}
use Rattle.rtc_script_reports.proofs.OutputTexts.{refusal_whole, same_end, same_outputs, same_refusal}
use Rattle.rtc_script_reports.proofs.ReplyLines.{outcome_ends, outputs_of}
use Rattle.rtc_script_reports.proofs.WordTexts.{decimal_gap}

-- the kind of an outcome, by the first letter of its words; where two begin with one letter, by the third
kind_by : (a c : ℕ) → ℕ
kind_by a c = cond (a == 110) (cond (c == 115) 7 8) a

kind_told : List ℕ → ℕ
kind_told (a ∷ b ∷ c ∷ text) = kind_by a c
kind_told text = 0

error_kind : RtcError → ℕ
error_kind PeerAlloc = 8
error_kind error = 114

kind : Outcome PlainMediaEvent → ℕ
kind (Negotiated answers made) = 111
kind (Answered k) = 97
kind Finished = 102
kind Done = 100
kind (Wrote taken) = 119
kind (Polled outputs end) = 112
kind (Refused error) = error_kind error
kind NoSuch = 7
kind Alloc = 8

kind_is : (outcome : Outcome PlainMediaEvent) → kind_told (outcome_text outcome) ≡ kind outcome
unfolding kind_by kind_told error_kind kind
kind_is (Negotiated answers made) = refl
kind_is (Answered k) = refl
kind_is Finished = refl
kind_is Done = refl
kind_is (Wrote taken) = refl
kind_is (Polled outputs end) = refl
kind_is (Refused (RemoteSdp why)) = refl
kind_is (Refused (Sdp error)) = refl
kind_is (Refused (Net error)) = refl
kind_is (Refused (Dtls error)) = refl
kind_is (Refused (Sctp error)) = refl
kind_is (Refused (MediaFailed error)) = refl
kind_is (Refused ChangesOutOfOrder) = refl
kind_is (Refused BadChannel) = refl
kind_is (Refused PeerAlloc) = refl
kind_is (Refused Glare) = refl
kind_is NoSuch = refl
kind_is Alloc = refl

-- a refusal has one of two kinds
refused_kind : (error : RtcError) → (error_kind error ≡ 114) ⊎ ((error_kind error ≡ 8) × (error ≡ PeerAlloc))
unfolding error_kind
refused_kind (RemoteSdp why) = inl refl
refused_kind (Sdp error) = inl refl
refused_kind (Net error) = inl refl
refused_kind (Dtls error) = inl refl
refused_kind (Sctp error) = inl refl
refused_kind (MediaFailed error) = inl refl
refused_kind ChangesOutOfOrder = inl refl
refused_kind BadChannel = inl refl
refused_kind PeerAlloc = inr (refl, refl)
refused_kind Glare = inl refl

lacking : (error : RtcError) → error_kind error ≡ 8 → error ≡ PeerAlloc
lacking error is = elim (refused_kind error) [
  | inl other ↦ absurd (let e : 114 ≡ 8 = sym other ∙ is in omega (arith, e))
  | inr same ↦ same.1
]

unrefused : (error : RtcError) (n : ℕ) → error_kind error ≡ n → n ≢ 114 → n ≢ 8 → ⊥
unrefused error n is one other = elim (refused_kind error) [
  | inl same ↦ one (sym is ∙ same)
  | inr same ↦ other (sym is ∙ same.0)
]

-- the answers and what was made
same_negotiated : (step : Step) (answers answers' : List OpAnswer) (made made' : Made) → FitsWords {E = PlainMediaEvent} (Negotiated answers made) → FitsWords {E = PlainMediaEvent} (Negotiated answers' made')
    → AnswersOps (ops_of step) answers → AnswersOps (ops_of step) answers'
    → outcome_text {E = PlainMediaEvent} (Negotiated answers made) ≡ outcome_text {E = PlainMediaEvent} (Negotiated answers' made')
    → AreAlikeOutcomes (Negotiated answers made) (Negotiated answers' made')
same_negotiated step answers answers' made made' fit fit' one other words =
    let text = cut_front (codes "ops ") (answers_text answers ∷ codes " text " ∷ made_text made ∷ []) (answers_text answers' ∷ codes " text " ∷ made_text made' ∷ []) words in
    let first = cut_space (answers_text answers) (answers_text answers') (text_of (codes "text " ∷ made_text made ∷ [])) (text_of (codes "text " ∷ made_text made' ∷ []))
    (answers_spaceless (ops_of step) answers one) (answers_spaceless (ops_of step) answers' other) text in
    let rest = append_cancel_left (codes "text ") (made_text made ++ []) (made_text made' ++ []) first.1 in
    (same_answers (ops_of step) answers answers' one other fit.0 fit'.0 first.0, same_made made made' fit.1 fit'.1 (cut_nothing (made_text made) (made_text made') rest))

alike_of : (step : Step) (outcome other : Outcome PlainMediaEvent) → FitsWords outcome → FitsWords other → FitsPolled outcome → FitsPolled other → AnswersStep step outcome → AnswersStep step other → PrintsInLine outcome → PrintsInLine other
    → outcome_text outcome ≡ outcome_text other → map output_line (outputs_of outcome) ≡ map output_line (outputs_of other) → outcome_ends outcome ≡ outcome_ends other
    → kind outcome ≡ kind other → AreAlikeOutcomes outcome other
unfolding kind
alike_of step (Negotiated answers made) (Negotiated answers' made') fit fit' out out' one another line line' words lines ends same = same_negotiated step answers answers' made made' fit fit' one another words
alike_of step (Answered k) (Answered j) fit fit' out out' one another line line' words lines ends same = decimal_injective k j fit fit' (append_cancel_left (codes "answered ") (decimal k) (decimal j) words)
alike_of step Finished Finished fit fit' out out' one another line line' words lines ends same = tt
alike_of step Done Done fit fit' out out' one another line line' words lines ends same = tt
alike_of step (Wrote taken) (Wrote taken') fit fit' out out' one another line line' words lines ends same = same_truth taken taken' (append_cancel_left (codes "wrote ") (truth_text taken) (truth_text taken') words)
alike_of step (Polled outputs end) (Polled outputs' end') fit fit' out out' one another line line' words lines ends same = (same_outputs outputs outputs' out.0 out'.0 lines, same_end end end' line line' ends)
alike_of step (Refused error) (Refused error') fit fit' out out' one another line line' words lines ends same = same_refusal error error' words
alike_of step NoSuch NoSuch fit fit' out out' one another line line' words lines ends same = tt
alike_of step Alloc Alloc fit fit' out out' one another line line' words lines ends same = tt
alike_of step Alloc (Refused error) fit fit' out out' one another line line' words lines ends same = lacking error (sym same)
alike_of step (Refused error) Alloc fit fit' out out' one another line line' words lines ends same = lacking error same
alike_of step (Refused error) (Negotiated answers made) fit fit' out out' one another line line' words lines ends same = absurd (unrefused error 111 same (λ e. omega (arith, e)) (λ e. omega (arith, e)))
alike_of step (Refused error) (Answered k) fit fit' out out' one another line line' words lines ends same = absurd (unrefused error 97 same (λ e. omega (arith, e)) (λ e. omega (arith, e)))
alike_of step (Refused error) Finished fit fit' out out' one another line line' words lines ends same = absurd (unrefused error 102 same (λ e. omega (arith, e)) (λ e. omega (arith, e)))
alike_of step (Refused error) Done fit fit' out out' one another line line' words lines ends same = absurd (unrefused error 100 same (λ e. omega (arith, e)) (λ e. omega (arith, e)))
alike_of step (Refused error) (Wrote taken) fit fit' out out' one another line line' words lines ends same = absurd (unrefused error 119 same (λ e. omega (arith, e)) (λ e. omega (arith, e)))
alike_of step (Refused error) (Polled outputs end) fit fit' out out' one another line line' words lines ends same = absurd (unrefused error 112 same (λ e. omega (arith, e)) (λ e. omega (arith, e)))
alike_of step (Refused error) NoSuch fit fit' out out' one another line line' words lines ends same = absurd (unrefused error 7 same (λ e. omega (arith, e)) (λ e. omega (arith, e)))
alike_of step (Negotiated answers made) (Refused error) fit fit' out out' one another line line' words lines ends same = absurd (unrefused error 111 (sym same) (λ e. omega (arith, e)) (λ e. omega (arith, e)))
alike_of step (Answered k) (Refused error) fit fit' out out' one another line line' words lines ends same = absurd (unrefused error 97 (sym same) (λ e. omega (arith, e)) (λ e. omega (arith, e)))
alike_of step Finished (Refused error) fit fit' out out' one another line line' words lines ends same = absurd (unrefused error 102 (sym same) (λ e. omega (arith, e)) (λ e. omega (arith, e)))
alike_of step Done (Refused error) fit fit' out out' one another line line' words lines ends same = absurd (unrefused error 100 (sym same) (λ e. omega (arith, e)) (λ e. omega (arith, e)))
alike_of step (Wrote taken) (Refused error) fit fit' out out' one another line line' words lines ends same = absurd (unrefused error 119 (sym same) (λ e. omega (arith, e)) (λ e. omega (arith, e)))
alike_of step (Polled outputs end) (Refused error) fit fit' out out' one another line line' words lines ends same = absurd (unrefused error 112 (sym same) (λ e. omega (arith, e)) (λ e. omega (arith, e)))
alike_of step NoSuch (Refused error) fit fit' out out' one another line line' words lines ends same = absurd (unrefused error 7 (sym same) (λ e. omega (arith, e)) (λ e. omega (arith, e)))
alike_of step outcome other fit fit' out out' one another line line' words lines ends same = absurd (let e : kind outcome ≡ kind other = same in omega (arith, e))

-- outcomes of the same words and lines agree
pub same_outcome : (step : Step) (outcome other : Outcome PlainMediaEvent) → FitsWords outcome → FitsWords other → FitsPolled outcome → FitsPolled other → AnswersStep step outcome → AnswersStep step other → PrintsInLine outcome → PrintsInLine other
    → outcome_text outcome ≡ outcome_text other → map output_line (outputs_of outcome) ≡ map output_line (outputs_of other) → outcome_ends outcome ≡ outcome_ends other
    → AreAlikeOutcomes outcome other
same_outcome step outcome other fit fit' out out' one another line line' words lines ends =
    alike_of step outcome other fit fit' out out' one another line line' words lines ends (sym (kind_is outcome) ∙ ap kind_told words ∙ kind_is other)

-- the words of an outcome are in one line
pub outcome_whole : (step : Step) (outcome : Outcome PlainMediaEvent) → AnswersStep step outcome → PrintsInLine outcome → breaks (outcome_text outcome) ≡ false
outcome_whole step (Negotiated answers made) one line =
    none_put 10 (codes "ops ") (answers_text answers ∷ codes " text " ∷ made_text made ∷ []) refl (answers_whole (ops_of step) answers one, (refl, (made_whole made, tt)))
outcome_whole step (Answered k) one line = none_append 10 (codes "answered ") (decimal k) refl (decimal_gap 1 k)
outcome_whole step Finished one line = refl
outcome_whole step Done one line = refl
outcome_whole step (Wrote true) one line = refl
outcome_whole step (Wrote false) one line = refl
outcome_whole step (Polled outputs end) one line = none_append 10 (codes "polled ") (decimal (length outputs)) refl (decimal_gap 1 (length outputs))
outcome_whole step (Refused error) one line = refusal_whole error line
outcome_whole step NoSuch one line = refl
outcome_whole step Alloc one line = refl
