-- The words of answers: each has no space, no comma and no end of line, and tells its answer, given the operation.
use Rattle.std.specs.Prelude.{codes}
use Rattle.std.specs.Fmt.{decimal}
use Rattle.std.specs.List.{AllByRecursion, AllZip}
use Rattle.std.proofs.Common.{◌≡◌, ◌++◌, ◌∷◌, ℕ, zero, suc, Bool, true, false, true≢false, List, [], inr, refl, sym, ◌∙◌, ap, arith}
use Rattle.std.proofs.lemmas.Fmt.{decimal_injective}
use Rattle.std.proofs.lemmas.List.{append_cancel_left}
use Rattle.rtc_wire.specs.declared.channel_config.ChannelConfig.{ChannelConfig}
use Rattle.rtc_sdp_values.specs.declared.direction.Direction.{Direction}
use Rattle.rtc_sdp_values.specs.declared.media_kind.MediaKind.{MediaKind}
use Rattle.rtc_run_history.specs.declared.made.Made.{Made}
use Rattle.rtc_run_history.specs.declared.made.Made.TheVariants.{NotAsked, Nothing, Offer, Alloc as MadeAlloc}
use Rattle.rtc_run_history.specs.declared.op.Op.{Op}
use Rattle.rtc_run_history.specs.declared.op.Op.TheVariants.{AddMedia, SetDirection, StopMedia, AddChannel, IceRestart}
use Rattle.rtc_run_history.specs.declared.op_answer.OpAnswer.{OpAnswer}
use Rattle.rtc_run_history.specs.declared.op_answer.OpAnswer.TheVariants.{Mid, Changed, NoLine, Channel, Creds, BadChannel as NoChannel, Alloc as OpAlloc}
use Rattle.rtc_script_reports.specs.Alike.{AreAlikeAnswers, AreAlikeMade}
use Rattle.rtc_script_reports.specs.Fits.{AnswersMore, AnswersOp, AnswersOps, FitsAnswer, FitsMade, has_byte}
use Rattle.rtc_script_reports.specs.Outcomes.{answers_text, made_text, more_answers, op_answer_text, truth_text}
use Rattle.rtc_script_reports.proofs.Cuts.{Begins, cut_word, none_append}
use Rattle.rtc_script_reports.proofs.WordTexts.{dashed, decimal_gap, decimal_none, gap, letter, token_gap}

pub same_truth : (taken taken' : Bool) → truth_text taken ≡ truth_text taken' → taken ≡ taken'
same_truth true true e = refl
same_truth false false e = refl
same_truth true false e = absurd (let f : 116 ≡ 102 = ap (letter 0) e in omega (arith, f))
same_truth false true e = absurd (let f : 102 ≡ 116 = ap (letter 0) e in omega (arith, f))

-- ---- one answer

same_media : (kind : MediaKind) (dir : Direction) (a b : OpAnswer) → AnswersOp (AddMedia kind dir) a → AnswersOp (AddMedia kind dir) b → op_answer_text a ≡ op_answer_text b → AreAlikeAnswers a b
same_media kind dir (Mid mid) (Mid mid') one other e = e
same_media kind dir (Mid mid) OpAlloc one other e = absurd (one.1 e)
same_media kind dir OpAlloc (Mid mid) one other e = absurd (other.1 (sym e))
same_media kind dir OpAlloc OpAlloc one other e = tt
same_media kind dir (Mid mid) b one other e = absurd other
same_media kind dir OpAlloc b one other e = absurd other
same_media kind dir a b one other e = absurd one

-- whether a line changed, that there is none, or that memory ran out
IsOfLine : OpAnswer → Type 0
IsOfLine (Changed changed) = Unit {0}
IsOfLine NoLine = Unit {0}
IsOfLine OpAlloc = Unit {0}
IsOfLine answer = ⊥

same_line : (a b : OpAnswer) → IsOfLine a → IsOfLine b → op_answer_text a ≡ op_answer_text b → AreAlikeAnswers a b
unfolding IsOfLine
same_line (Changed changed) (Changed changed') one other e = same_truth changed changed' e
same_line NoLine NoLine one other e = tt
same_line OpAlloc OpAlloc one other e = tt
same_line (Changed true) NoLine one other e = absurd (let f : 116 ≡ 110 = ap (letter 0) e in omega (arith, f))
same_line (Changed false) NoLine one other e = absurd (let f : 102 ≡ 110 = ap (letter 0) e in omega (arith, f))
same_line (Changed true) OpAlloc one other e = absurd (let f : 116 ≡ 110 = ap (letter 0) e in omega (arith, f))
same_line (Changed false) OpAlloc one other e = absurd (let f : 102 ≡ 110 = ap (letter 0) e in omega (arith, f))
same_line NoLine (Changed true) one other e = absurd (let f : 110 ≡ 116 = ap (letter 0) e in omega (arith, f))
same_line NoLine (Changed false) one other e = absurd (let f : 110 ≡ 102 = ap (letter 0) e in omega (arith, f))
same_line NoLine OpAlloc one other e = absurd (let f : 110 ≡ 109 = ap (letter 2) e in omega (arith, f))
same_line OpAlloc (Changed true) one other e = absurd (let f : 110 ≡ 116 = ap (letter 0) e in omega (arith, f))
same_line OpAlloc (Changed false) one other e = absurd (let f : 110 ≡ 102 = ap (letter 0) e in omega (arith, f))
same_line OpAlloc NoLine one other e = absurd (let f : 109 ≡ 110 = ap (letter 2) e in omega (arith, f))
same_line (Changed changed) b one other e = absurd other
same_line NoLine b one other e = absurd other
same_line OpAlloc b one other e = absurd other
same_line a b one other e = absurd one

of_direction : (place : ℕ) (dir : Direction) (a : OpAnswer) → AnswersOp (SetDirection place dir) a → IsOfLine a
unfolding IsOfLine
of_direction place dir (Changed changed) h = tt
of_direction place dir NoLine h = tt
of_direction place dir OpAlloc h = tt
of_direction place dir a h = absurd h

of_stop : (place : ℕ) (a : OpAnswer) → AnswersOp (StopMedia place) a → IsOfLine a
unfolding IsOfLine
of_stop place (Changed changed) h = tt
of_stop place NoLine h = tt
of_stop place OpAlloc h = tt
of_stop place a h = absurd h

same_added : (config : ChannelConfig) (a b : OpAnswer) → AnswersOp (AddChannel config) a → AnswersOp (AddChannel config) b → FitsAnswer a → FitsAnswer b
    → op_answer_text a ≡ op_answer_text b → AreAlikeAnswers a b
same_added config (Channel id) (Channel id') one other fit fit' e = decimal_injective id id' fit fit' (append_cancel_left (codes "c") (decimal id) (decimal id') e)
same_added config NoChannel NoChannel one other fit fit' e = tt
same_added config OpAlloc OpAlloc one other fit fit' e = tt
same_added config (Channel id) NoChannel one other fit fit' e = absurd (let f : 99 ≡ 98 = ap (letter 0) e in omega (arith, f))
same_added config (Channel id) OpAlloc one other fit fit' e = absurd (let f : 99 ≡ 110 = ap (letter 0) e in omega (arith, f))
same_added config NoChannel (Channel id) one other fit fit' e = absurd (let f : 98 ≡ 99 = ap (letter 0) e in omega (arith, f))
same_added config NoChannel OpAlloc one other fit fit' e = absurd (let f : 98 ≡ 110 = ap (letter 0) e in omega (arith, f))
same_added config OpAlloc (Channel id) one other fit fit' e = absurd (let f : 110 ≡ 99 = ap (letter 0) e in omega (arith, f))
same_added config OpAlloc NoChannel one other fit fit' e = absurd (let f : 110 ≡ 98 = ap (letter 0) e in omega (arith, f))
same_added config (Channel id) b one other fit fit' e = absurd other
same_added config NoChannel b one other fit fit' e = absurd other
same_added config OpAlloc b one other fit fit' e = absurd other
same_added config a b one other fit fit' e = absurd one

same_creds : (keep : Bool) (a b : OpAnswer) → AnswersOp (IceRestart keep) a → AnswersOp (IceRestart keep) b → op_answer_text a ≡ op_answer_text b → AreAlikeAnswers a b
same_creds keep (Creds creds) (Creds creds') one other e = e
same_creds keep (Creds creds) OpAlloc one other e = absurd (one.1 e)
same_creds keep OpAlloc (Creds creds) one other e = absurd (other.1 (sym e))
same_creds keep OpAlloc OpAlloc one other e = tt
same_creds keep (Creds creds) b one other e = absurd other
same_creds keep OpAlloc b one other e = absurd other
same_creds keep a b one other e = absurd one

same_answer : (op : Op) (a b : OpAnswer) → AnswersOp op a → AnswersOp op b → FitsAnswer a → FitsAnswer b → op_answer_text a ≡ op_answer_text b → AreAlikeAnswers a b
same_answer (AddMedia kind dir) a b one other fit fit' e = same_media kind dir a b one other e
same_answer (SetDirection place dir) a b one other fit fit' e = same_line a b (of_direction place dir a one) (of_direction place dir b other) e
same_answer (StopMedia place) a b one other fit fit' e = same_line a b (of_stop place a one) (of_stop place b other) e
same_answer (AddChannel config) a b one other fit fit' e = same_added config a b one other fit fit' e
same_answer (IceRestart keep) a b one other fit fit' e = same_creds keep a b one other e

-- the words of an answer have no space, no end of line and no comma
truth_gap : (g : ℕ) (changed : Bool) → has_byte (gap g) (truth_text changed) ≡ false
truth_gap zero true = refl
truth_gap zero false = refl
truth_gap (suc zero) true = refl
truth_gap (suc zero) false = refl
truth_gap (suc (suc g)) true = refl
truth_gap (suc (suc g)) false = refl

none_gap : (g : ℕ) → has_byte (gap g) (op_answer_text NoLine) ≡ false
none_gap zero = refl
none_gap (suc zero) = refl
none_gap (suc (suc g)) = refl

bad_gap : (g : ℕ) → has_byte (gap g) (op_answer_text NoChannel) ≡ false
bad_gap zero = refl
bad_gap (suc zero) = refl
bad_gap (suc (suc g)) = refl

lack_gap : (g : ℕ) → has_byte (gap g) (op_answer_text OpAlloc) ≡ false
lack_gap zero = refl
lack_gap (suc zero) = refl
lack_gap (suc (suc g)) = refl

number_gap : (g id : ℕ) → has_byte (gap g) (op_answer_text (Channel id)) ≡ false
number_gap zero id = none_append 32 (codes "c") (decimal id) refl (decimal_gap 0 id)
number_gap (suc zero) id = none_append 10 (codes "c") (decimal id) refl (decimal_gap 1 id)
number_gap (suc (suc g)) id = none_append 44 (codes "c") (decimal id) refl (decimal_gap 2 id)

answer_gap : (g : ℕ) (op : Op) (a : OpAnswer) → AnswersOp op a → has_byte (gap g) (op_answer_text a) ≡ false
answer_gap g op (Changed changed) h = truth_gap g changed
answer_gap g op NoLine h = none_gap g
answer_gap g op (Channel id) h = number_gap g id
answer_gap g op NoChannel h = bad_gap g
answer_gap g op OpAlloc h = lack_gap g
answer_gap g (AddMedia kind dir) (Mid mid) h = token_gap g mid h.0
answer_gap g (SetDirection place dir) (Mid mid) h = absurd h
answer_gap g (StopMedia place) (Mid mid) h = absurd h
answer_gap g (AddChannel config) (Mid mid) h = absurd h
answer_gap g (IceRestart keep) (Mid mid) h = absurd h
answer_gap g (IceRestart keep) (Creds creds) h = token_gap g creds.ufrag h.0
answer_gap g (AddMedia kind dir) (Creds creds) h = absurd h
answer_gap g (SetDirection place dir) (Creds creds) h = absurd h
answer_gap g (StopMedia place) (Creds creds) h = absurd h
answer_gap g (AddChannel config) (Creds creds) h = absurd h

-- ---- all answers

more_begin : (answers : List OpAnswer) → Begins 44 (more_answers answers)
more_begin [] = tt
more_begin (answer ∷ answers) = refl

comma_cut : (text other : List ℕ) → ◌≡◌ {A = List ℕ} (44 ∷ text) (44 ∷ other) → text ≡ other
comma_cut text other e = cc

-- the words of the answers behind the first, with their commas put in front
more_text : (answer : OpAnswer) (answers : List OpAnswer) → more_answers (answer ∷ answers) ≡ 44 ∷ (op_answer_text answer ++ more_answers answers)
more_text answer answers = refl

same_more : (ops : List Op) (answers others : List OpAnswer) → AnswersMore ops answers → AnswersMore ops others → AllByRecursion FitsAnswer answers → AllByRecursion FitsAnswer others
    → more_answers answers ≡ more_answers others → AllZip AreAlikeAnswers answers others
same_more ops [] [] one other fit fit' e = tt
same_more ops [] (b ∷ others) one other fit fit' e = absurd (let f : ◌≡◌ {A = List ℕ} [] (44 ∷ (op_answer_text b ++ more_answers others)) = e in cc)
same_more ops (a ∷ answers) [] one other fit fit' e = absurd (let f : ◌≡◌ {A = List ℕ} (44 ∷ (op_answer_text a ++ more_answers answers)) [] = e in cc)
same_more [] (a ∷ answers) (b ∷ others) one other fit fit' e = absurd one
same_more (op ∷ ops) (a ∷ answers) (b ∷ others) one other fit fit' e =
    let text = comma_cut (op_answer_text a ++ more_answers answers) (op_answer_text b ++ more_answers others) e in
    let first = cut_word 44 (op_answer_text a) (op_answer_text b) (more_answers answers) (more_answers others) (answer_gap 2 op a one.0) (answer_gap 2 op b other.0) (more_begin answers) (more_begin others) text in
    (same_answer op a b one.0 other.0 fit.0 fit'.0 first.0, same_more ops answers others one.1 other.1 fit.1 fit'.1 first.1)

-- equal words are of answers that agree
pub same_answers : (ops : List Op) (answers others : List OpAnswer) → AnswersOps ops answers → AnswersOps ops others → AllByRecursion FitsAnswer answers → AllByRecursion FitsAnswer others
    → answers_text answers ≡ answers_text others → AllZip AreAlikeAnswers answers others
same_answers [] [] [] one other fit fit' e = tt
same_answers [] (a ∷ answers) others one other fit fit' e = absurd one
same_answers [] [] (b ∷ others) one other fit fit' e = absurd other
same_answers (op ∷ ops) [] others one other fit fit' e = absurd one
same_answers (op ∷ ops) (a ∷ answers) [] one other fit fit' e = absurd other
same_answers (op ∷ ops) (a ∷ answers) (b ∷ others) one other fit fit' e =
    let first = cut_word 44 (op_answer_text a) (op_answer_text b) (more_answers answers) (more_answers others) (answer_gap 2 op a one.0) (answer_gap 2 op b other.0) (more_begin answers) (more_begin others) e in
    (same_answer op a b one.0 other.0 fit.0 fit'.0 first.0, same_more ops answers others one.1 other.1 fit.1 fit'.1 first.1)

more_none : (byte : ℕ) (ops : List Op) (answers : List OpAnswer) → ((op : Op) (a : OpAnswer) → AnswersOp op a → has_byte byte (op_answer_text a) ≡ false)
    → has_byte byte (codes ",") ≡ false → AnswersMore ops answers → has_byte byte (more_answers answers) ≡ false
more_none byte ops [] each comma h = refl
more_none byte [] (a ∷ answers) each comma h = absurd h
more_none byte (op ∷ ops) (a ∷ answers) each comma h =
    none_append byte (codes "," ++ op_answer_text a) (more_answers answers)
    (none_append byte (codes ",") (op_answer_text a) comma (each op a h.0)) (more_none byte ops answers each comma h.1)

answers_none : (byte : ℕ) (ops : List Op) (answers : List OpAnswer) → ((op : Op) (a : OpAnswer) → AnswersOp op a → has_byte byte (op_answer_text a) ≡ false)
    → has_byte byte (codes ",") ≡ false → has_byte byte (codes "-") ≡ false → AnswersOps ops answers → has_byte byte (answers_text answers) ≡ false
answers_none byte [] [] each comma dash h = dash
answers_none byte [] (a ∷ answers) each comma dash h = absurd h
answers_none byte (op ∷ ops) [] each comma dash h = absurd h
answers_none byte (op ∷ ops) (a ∷ answers) each comma dash h = none_append byte (op_answer_text a) (more_answers answers) (each op a h.0) (more_none byte ops answers each comma h.1)

-- no answer has a space or an end of line
pub answers_spaceless : (ops : List Op) (answers : List OpAnswer) → AnswersOps ops answers → has_byte 32 (answers_text answers) ≡ false
answers_spaceless ops answers h = answers_none 32 ops answers (λ op a is. answer_gap 0 op a is) refl refl h

pub answers_whole : (ops : List Op) (answers : List OpAnswer) → AnswersOps ops answers → has_byte 10 (answers_text answers) ≡ false
answers_whole ops answers h = answers_none 10 ops answers (λ op a is. answer_gap 1 op a is) refl refl h

-- ---- what was made

dash_or_number : (n : ℕ) → decimal n ≡ codes "nomemory" → ⊥
dash_or_number n e = true≢false (sym (ap (has_byte 110) e) ∙ decimal_none 110 n (inr (omega arith)))

-- equal words are of what was made alike
pub same_made : (made other : Made) → FitsMade made → FitsMade other → made_text made ≡ made_text other → AreAlikeMade made other
same_made (Offer n) (Offer n') fit fit' e = decimal_injective n n' fit fit' e
same_made NotAsked NotAsked fit fit' e = tt
same_made NotAsked Nothing fit fit' e = tt
same_made Nothing NotAsked fit fit' e = tt
same_made Nothing Nothing fit fit' e = tt
same_made MadeAlloc MadeAlloc fit fit' e = tt
same_made (Offer n) NotAsked fit fit' e = absurd (dashed n (sym e))
same_made (Offer n) Nothing fit fit' e = absurd (dashed n (sym e))
same_made NotAsked (Offer n) fit fit' e = absurd (dashed n e)
same_made Nothing (Offer n) fit fit' e = absurd (dashed n e)
same_made (Offer n) MadeAlloc fit fit' e = absurd (dash_or_number n e)
same_made MadeAlloc (Offer n) fit fit' e = absurd (dash_or_number n (sym e))
same_made NotAsked MadeAlloc fit fit' e = absurd (let f : 45 ≡ 110 = ap (letter 0) e in omega (arith, f))
same_made Nothing MadeAlloc fit fit' e = absurd (let f : 45 ≡ 110 = ap (letter 0) e in omega (arith, f))
same_made MadeAlloc NotAsked fit fit' e = absurd (let f : 110 ≡ 45 = ap (letter 0) e in omega (arith, f))
same_made MadeAlloc Nothing fit fit' e = absurd (let f : 110 ≡ 45 = ap (letter 0) e in omega (arith, f))

pub made_whole : (made : Made) → has_byte 10 (made_text made) ≡ false
made_whole NotAsked = refl
made_whole Nothing = refl
made_whole (Offer n) = decimal_gap 1 n
made_whole MadeAlloc = refl
