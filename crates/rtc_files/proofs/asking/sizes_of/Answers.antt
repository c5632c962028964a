use Rattle.std.proofs.Common.{rules, ◌∷◌, [], ◌++◌, string_bytes}
use Rattle.rtc_files.proofs.SizeWords.{word_here, has_here, size_more, not_sizes}
use Rattle.rtc_files.proofs.asking.sizes_of.Goals as goal
use Rattle.rtc_files.proofs.asking.sizes_of.Goals.{then-is_err, else-is_err}

pub returns-in_default-clause-sizes : goal.returns-in_default-clause-sizes
returns-in_default-clause-sizes c =
    let here = has_here _ _ _ _ c.loop-word.invariant.1 (word_here (λ word. string_bytes word) c.args.words.now c.loop-word.word-index c.word-item.result (search rules) (search rules)) in
    λ found. not_sizes _ _ (string_bytes c.word-item.result) c.loop-word.invariant.0 here (search rules) found.0 found.1

pub loop-word-preserved : goal.loop-word-preserved
loop-word-preserved c =
    let here = has_here _ _ _ _ c.loop-word.invariant.1 (word_here (λ word. string_bytes word) c.args.words.now c.loop-word.word-index c.word-item.result (search rules) (search rules)) in (
      c.loop-word.invariant.0 ++ c.in-Some.size ∷ [],
      size_more _ _ (string_bytes c.word-item.result) c.loop-word.invariant.0 c.in-Some.size here (search rules) (search rules),
      λ kept. elim c.if-is_err.branch [ then-is_err w ↦ search rules | else-is_err w ↦ search rules ],
    )
