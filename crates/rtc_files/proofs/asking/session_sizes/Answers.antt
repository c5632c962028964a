use Rattle.std.proofs.Common.{rules, arith, ◌≡◌, ◌∙◌, ◌∷◌, ◌<◌, ◌≤◌, ap, map, codes, string_bytes, ℕ, List, length}
use Rattle.std.proofs.lemmas.List.{length-map}
use Rattle.rtc_files.proofs.SizeWords.{asked_sizes, asked_lacking}
use Rattle.rtc_files.proofs.asking.session_sizes.Goals as goal

pub returns-clause-sizes : goal.returns-clause-sizes
returns-clause-sizes c =
    let run : string_bytes c.in-Some.word.now ≡ codes "run" = search rules in
    let rest = map (λ word. string_bytes word) c.in-Some.rest.now in
    let split : map (λ word. string_bytes word) c.args.words.now ≡ codes "run" ∷ rest = ap (map (λ word. string_bytes word)) c.in-Some.ensures.cases.0 ∙ ap (λ (b : List ℕ). b ∷ rest) run in
    let some : 0 < length c.in-Some.rest.now = search rules in
    let most : length c.in-Some.rest.now ≤ 1000 = search rules in
    let size : length rest ≡ length c.in-Some.rest.now = length-map c.in-Some.rest.now (λ word. string_bytes word) in
    asked_sizes (λ sizes. sizes.items) _ rest split (omega arith) (omega arith) c.sizes_of.result c.sizes_of.ensures.sizes

pub returns-clause-lacking : goal.returns-clause-lacking
returns-clause-lacking c =
    let run : string_bytes c.in-Some.word.now ≡ codes "run" = search rules in
    let rest = map (λ word. string_bytes word) c.in-Some.rest.now in
    let split : map (λ word. string_bytes word) c.args.words.now ≡ codes "run" ∷ rest = ap (map (λ word. string_bytes word)) c.in-Some.ensures.cases.0 ∙ ap (λ (b : List ℕ). b ∷ rest) run in
    let some : 0 < length c.in-Some.rest.now = search rules in
    let most : length c.in-Some.rest.now ≤ 1000 = search rules in
    let size : length rest ≡ length c.in-Some.rest.now = length-map c.in-Some.rest.now (λ word. string_bytes word) in
    asked_lacking _ rest split (omega arith) (omega arith) c.sizes_of.result c.sizes_of.ensures.lacking
