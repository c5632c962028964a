use Rattle.std.proofs.Common.{◌≡◌, true, false, sym, ap, subst, ◌∙◌}
use Rattle.std.specs.Str.{IsUtf8}
use Rattle.std.proofs.lemmas.Str.{IsUtf8-string_bytes}
use Rattle.rtc_script.proofs.LabelLemmas.{bytes_of_text, one_word}
use Rattle.rtc_script.proofs.labels.read_label.Goals as goal

pub returns-in_default-clause-none : goal.returns-in_default-clause-none
returns-in_default-clause-none c = λ label text. (rw c.in_default.is at c.in_ok-bytes.ensures.none) label (bytes_of_text label text)

pub returns-in-Ok-clause-some : goal.returns-in-Ok-clause-some
returns-in-Ok-clause-some c =
    let read = rw c.in-Some.is at c.in_ok-bytes.ensures.some in
    let same : c.new.result ≡ c.in-Some.bytes.items = c.new.ensures ∙ ap (λ v. v.items) c.in-Ok.ensures.ok in
    (rw same read.0, subst IsUtf8 (sym c.new.ensures) (IsUtf8-string_bytes c.in-Ok.label))

pub returns-clause-none : goal.returns-clause-none
returns-clause-none c = λ label text is.
    let read = rw c.in-Some.is at c.in_ok-bytes.ensures.some in
    let one : label ≡ c.in-Some.bytes.items = one_word label c.in-Some.bytes.items (bytes_of_text label text) read.1 (sym is ∙ read.0) in
    absurd (let bad : false ≡ true = c.in-Err.ensures.succeeds (subst IsUtf8 one text) in cc)
