use Rattle.std.proofs.Common.{◌≡◌, ◌≢◌, [], ap, length, codes, rules, arith}
use Rattle.std.proofs.lemmas.Bool.Decides.{nat_tests}
use Rattle.std.proofs.lemmas.List.{nil_from_length}
use Rattle.rtc_script.proofs.LabelLemmas.{no_bytes, no_word_read, word_read}
use Rattle.rtc_script.proofs.labels.read_bytes.Goals as goal

pub returns-then-is_empty-clause-none : goal.returns-then-is_empty-clause-none
returns-then-is_empty-clause-none c =
    let none : c.args.word.now ≡ [] = nil_from_length _ (grind (arith, nat_tests, c.is_empty.ensures, c.if-is_empty.true)) in
    λ bytes are. no_bytes c.args.word.now bytes none

pub returns-clause-some : goal.returns-clause-some
returns-clause-some c =
    let some : c.args.word.now ≢ [] = λ none. let e : length c.args.word.now ≡ 0 = ap length none in grind (arith, nat_tests, c.is_empty.ensures, c.if-is_empty.false) in
    word_read (λ bytes. bytes.items) c.args.word.now c.read_digits.result some c.read_digits.ensures.some

pub returns-clause-none : goal.returns-clause-none
returns-clause-none c =
    let other : c.args.word.now ≢ codes "-" = search rules in
    no_word_read c.args.word.now c.read_digits.result other c.read_digits.ensures.none
