-- What the line of a step determines.
use Rattle.std.proofs.Common.{◌≡◌, ◌<◌, ◌^◌, ◌∙◌, ℕ, Bool, true, false, List, [], ◌∷◌, refl, ap, sym, cond, eqb, get_or, lit<, arith}
use Rattle.std.specs.Fmt.{decimal}
use Rattle.std.specs.List.{AllZip}
use Rattle.std.specs.Str.Parse.{digits_value}
use Rattle.std.proofs.lemmas.Fmt.{decimal_is_IsNumeral}
use Rattle.rtc_wire_text.specs.Words.{words}
use Rattle.rtc_script.specs.Lines.{IsOp, IsAct, AreStepWords, IsLine}
use Rattle.rtc_script.proofs.MessageWords.{bytes_of, carries, is_binary_at, is_binary_again, same_bytes}
use Rattle.rtc_script.proofs.OpWords.{one_op, one_side}
use Rattle.rtc_script.proofs.ZipLemmas.{one_zip}
use Rattle.rtc_run_history.specs.Sides.{side_of}
use Rattle.rtc_run_history.specs.declared.op.Op.{Op}
use Rattle.rtc_run_history.specs.declared.side.Side.{Side}
use Rattle.rtc_run_history.specs.declared.step.Step.{Step}
use Rattle.rtc_run_history.specs.declared.step.Step.TheVariants.{Negotiate, AcceptOffer, AcceptAnswer, Time, Datagram, Poll, Drain}
use Rattle.rtc_run_history.specs.declared.step.Step.TheVariants.{Write, CloseChannel, Close, Rollback, ForeignOffer, ForeignAnswer, Raw}

-- the number that a word writes
unfoldable number_at : ℕ → List (List ℕ) → ℕ
number_at place found = digits_value 10 (get_or found place [])

number_again : (place : ℕ) (found : List (List ℕ)) (n : ℕ) → n < 2 ^ 64 → get_or found place [] ≡ decimal n → number_at place found ≡ n
unfolding number_at
number_again place found n small is = ap (digits_value 10) is ∙ (decimal_is_IsNumeral n small).1

-- whether a verb begins as those of ops do
negotiates : List ℕ → Bool
negotiates verb = cond (eqb (get_or verb 0 0) 111) true (eqb (get_or verb 0 0) 115)

-- the ops of a step
ops_of : Step → List Op
ops_of (Negotiate at ops apply) = ops
ops_of (AcceptOffer at offer) = []
ops_of (AcceptAnswer at token answer) = []
ops_of (Time at now) = []
ops_of (Datagram at packet now) = []
ops_of (Poll at) = []
ops_of (Drain at) = []
ops_of (Write at channel binary bytes) = []
ops_of (CloseChannel at channel) = []
ops_of (Close at) = []
ops_of (Rollback at token) = []
ops_of (ForeignOffer at text) = []
ops_of (ForeignAnswer at token text) = []
ops_of (Raw at bytes now) = []

-- the step of a verb of what anybody wrote, or of a rollback
foreign_from : Side → List ℕ → List (List ℕ) → List ℕ → Step
foreign_from at verb rest bytes =
    cond (eqb (get_or verb 0 0) 102) (cond (eqb (get_or verb 7 0) 111) (ForeignOffer at bytes) (ForeignAnswer at (number_at 0 rest) bytes))
    (cond (eqb (get_or verb 1 0) 97) (Raw at bytes (number_at 0 rest)) (Rollback at (number_at 0 rest)))

-- whether a verb begins as those do
is_foreign_verb : List ℕ → Bool
is_foreign_verb verb = cond (eqb (get_or verb 0 0) 102) true (eqb (get_or verb 0 0) 114)

-- the step of a verb, the words behind it, and the ops or the bytes among them
step_from : Side → List ℕ → List (List ℕ) → List Op → List ℕ → Step
step_from at verb rest ops bytes =
    cond (eqb (get_or verb 0 0) 111) (Negotiate at ops true)
    (cond (eqb (get_or verb 0 0) 115) (Negotiate at ops false)
    (cond (eqb (get_or verb 0 0) 116) (Time at (number_at 0 rest))
    (cond (eqb (get_or verb 0 0) 112) (Poll at)
    (cond (is_foreign_verb verb) (foreign_from at verb rest bytes)
    (cond (eqb (get_or verb 0 0) 119) (Write at (number_at 0 rest) (is_binary_at 1 rest) bytes)
    (cond (eqb (get_or verb 5 0) 99) (CloseChannel at (number_at 0 rest))
    (cond (eqb (get_or verb 1 0) 97) (Datagram at (number_at 0 rest) (number_at 1 rest))
    (cond (eqb (get_or verb 1 0) 114) (Drain at)
    (cond (eqb (get_or verb 1 0) 108) (Close at)
    (cond (eqb (get_or verb 1 0) 99) (AcceptOffer at (number_at 0 rest)) (AcceptAnswer at (number_at 0 rest) (number_at 1 rest))))))))))))

step_again : (verb : List ℕ) (rest : List (List ℕ)) (s : Step) → IsAct verb rest s → step_from (side_of s) verb rest (ops_of s) (bytes_of s) ≡ s
unfolding step_from foreign_from is_foreign_verb ops_of bytes_of
step_again verb rest (Negotiate at ops true) is = rw is.0 refl
step_again verb rest (Negotiate at ops false) is = rw is.0 refl
step_again verb rest (AcceptOffer at offer) is =
    let n = number_again 0 rest offer (let small : offer < 2 ^ 32 = is.1.1 0 0 (lit< tt) in omega arith) (ap (λ found. get_or found 0 []) is.1.0) in
    rw (is.0, n) refl
step_again verb rest (AcceptAnswer at token answer) is =
    let m = number_again 0 rest token (let small : token < 2 ^ 32 = is.1.1 0 0 (lit< tt) in omega arith) (ap (λ found. get_or found 0 []) is.1.0) in
    let n = number_again 1 rest answer (let small : answer < 2 ^ 32 = is.1.1 1 0 (lit< tt) in omega arith) (ap (λ found. get_or found 1 []) is.1.0) in
    rw (is.0, m, n) refl
step_again verb rest (Time at now) is =
    let n = number_again 0 rest now (is.1.1 0 0 (lit< tt)) (ap (λ found. get_or found 0 []) is.1.0) in
    rw (is.0, n) refl
step_again verb rest (Datagram at packet now) is =
    let m = number_again 0 rest packet (is.1.1 0 0 (lit< tt)) (ap (λ found. get_or found 0 []) is.1.0) in
    let n = number_again 1 rest now (is.1.1 1 0 (lit< tt)) (ap (λ found. get_or found 1 []) is.1.0) in
    rw (is.0, m, n) refl
step_again verb rest (Poll at) is = rw is.0 refl
step_again verb rest (Drain at) is = rw is.0 refl
step_again verb rest (Write at channel binary bytes) is =
    let n = number_again 0 rest channel is.1.1 (ap (λ found. get_or found 0 []) is.1.0) in
    let kind = is_binary_again 1 rest binary (ap (λ found. get_or found 1 []) is.1.0) in
    rw (is.0, n, kind) refl
step_again verb rest (CloseChannel at channel) is =
    let n = number_again 0 rest channel (is.1.1 0 0 (lit< tt)) (ap (λ found. get_or found 0 []) is.1.0) in
    rw (is.0, n) refl
step_again verb rest (Close at) is = rw is.0 refl
step_again verb rest (Rollback at token) is =
    let n = number_again 0 rest token (let small : token < 2 ^ 32 = is.1.1 0 0 (lit< tt) in omega arith) (ap (λ found. get_or found 0 []) is.1.0) in
    rw (is.0, n) refl
step_again verb rest (ForeignOffer at text) is = rw is.0 refl
step_again verb rest (ForeignAnswer at token text) is =
    let n = number_again 0 rest token (let small : token < 2 ^ 32 = is.1.1 in omega arith) (ap (λ found. get_or found 0 []) is.1.0) in
    rw (is.0, n) refl
step_again verb rest (Raw at bytes now) is =
    let n = number_again 0 rest now is.1.1 (ap (λ found. get_or found 0 []) is.1.0) in
    rw (is.0, n) refl

-- the words behind a verb of ops are those of the ops
ops_zip : (verb : List ℕ) (rest : List (List ℕ)) (s : Step) → IsAct verb rest s → negotiates verb ≡ true → AllZip IsOp rest (ops_of s)
unfolding negotiates ops_of
ops_zip verb rest (Negotiate at ops apply) is yes_ops = is.1
ops_zip verb rest (AcceptOffer at offer) is yes_ops = absurd (let bad : false ≡ true = rw is.0 at yes_ops in cc)
ops_zip verb rest (AcceptAnswer at token answer) is yes_ops = absurd (let bad : false ≡ true = rw is.0 at yes_ops in cc)
ops_zip verb rest (Time at now) is yes_ops = absurd (let bad : false ≡ true = rw is.0 at yes_ops in cc)
ops_zip verb rest (Datagram at packet now) is yes_ops = absurd (let bad : false ≡ true = rw is.0 at yes_ops in cc)
ops_zip verb rest (Poll at) is yes_ops = absurd (let bad : false ≡ true = rw is.0 at yes_ops in cc)
ops_zip verb rest (Drain at) is yes_ops = absurd (let bad : false ≡ true = rw is.0 at yes_ops in cc)
ops_zip verb rest (Write at channel binary bytes) is yes_ops = absurd (let bad : false ≡ true = rw is.0 at yes_ops in cc)
ops_zip verb rest (CloseChannel at channel) is yes_ops = absurd (let bad : false ≡ true = rw is.0 at yes_ops in cc)
ops_zip verb rest (Close at) is yes_ops = absurd (let bad : false ≡ true = rw is.0 at yes_ops in cc)
ops_zip verb rest (Rollback at token) is yes_ops = absurd (let bad : false ≡ true = rw is.0 at yes_ops in cc)
ops_zip verb rest (ForeignOffer at text) is yes_ops = absurd (let bad : false ≡ true = rw is.0 at yes_ops in cc)
ops_zip verb rest (ForeignAnswer at token text) is yes_ops = absurd (let bad : false ≡ true = rw is.0 at yes_ops in cc)
ops_zip verb rest (Raw at bytes now) is yes_ops = absurd (let bad : false ≡ true = rw is.0 at yes_ops in cc)

-- behind another verb there are none
no_ops : (verb : List ℕ) (rest : List (List ℕ)) (s : Step) → IsAct verb rest s → negotiates verb ≡ false → ops_of s ≡ []
unfolding negotiates ops_of
no_ops verb rest (Negotiate at ops true) is other = absurd (let bad : true ≡ false = rw is.0 at other in cc)
no_ops verb rest (Negotiate at ops false) is other = absurd (let bad : true ≡ false = rw is.0 at other in cc)
no_ops verb rest (AcceptOffer at offer) is other = refl
no_ops verb rest (AcceptAnswer at token answer) is other = refl
no_ops verb rest (Time at now) is other = refl
no_ops verb rest (Datagram at packet now) is other = refl
no_ops verb rest (Poll at) is other = refl
no_ops verb rest (Drain at) is other = refl
no_ops verb rest (Write at channel binary bytes) is other = refl
no_ops verb rest (CloseChannel at channel) is other = refl
no_ops verb rest (Close at) is other = refl
no_ops verb rest (Rollback at token) is other = refl
no_ops verb rest (ForeignOffer at text) is other = refl
no_ops verb rest (ForeignAnswer at token text) is other = refl
no_ops verb rest (Raw at bytes now) is other = refl

same_ops : (negotiating : Bool) (verb : List ℕ) (rest : List (List ℕ)) (a b : Step) → negotiates verb ≡ negotiating → IsAct verb rest a → IsAct verb rest b → ops_of a ≡ ops_of b
same_ops true verb rest a b e is is' = one_zip IsOp one_op rest (ops_of a) (ops_of b) (ops_zip verb rest a is e) (ops_zip verb rest b is' e)
same_ops false verb rest a b e is is' = no_ops verb rest a is e ∙ sym (no_ops verb rest b is' e)

-- a verb and the words behind it are those of one step of a side
one_act : (verb : List ℕ) (rest : List (List ℕ)) (a b : Step) → side_of a ≡ side_of b → IsAct verb rest a → IsAct verb rest b → a ≡ b
one_act verb rest a b same is is' =
    let ops = same_ops (negotiates verb) verb rest a b refl is is' in
    sym (step_again verb rest a is)
    ∙ ap (λ at. step_from at verb rest (ops_of a) (bytes_of a)) same
    ∙ ap (λ ops. step_from (side_of b) verb rest ops (bytes_of a)) ops
    ∙ ap (λ bytes. step_from (side_of b) verb rest (ops_of b) bytes) (same_bytes (carries verb) verb rest a b refl is is')
    ∙ step_again verb rest b is'

one_step : (found : List (List ℕ)) (a b : Step) → AreStepWords found a → AreStepWords found b → a ≡ b
one_step [] a b are are' = absurd are
one_step (side ∷ []) a b are are' = absurd are
one_step (side ∷ verb ∷ rest) a b are are' = one_act verb rest a b (one_side (side_of a) (side_of b) (sym are.0 ∙ are'.0)) are.1 are'.1

-- a line is that of one step
pub step_of_line : (line : List ℕ) (a b : Step) → IsLine line a → IsLine line b → a ≡ b
step_of_line line a b is is' = one_step (words line) a b is is'
