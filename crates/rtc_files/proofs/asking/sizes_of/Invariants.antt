use Rattle.std.proofs.Common.{ℕ, ◌≡◌, List, false, map, drop, string_bytes}
use Rattle.rtc_files.proofs.SizeWords.{HasSizes}
use Rattle.rtc_files.proofs.asking.sizes_of.Given as goal

-- the words so far are sizes, and they are kept as far as there is memory
abbrev pub invariant-loop-word : goal.invariant-loop-word
invariant-loop-word l = (sizes : List ℕ)
    × HasSizes (map (λ word. string_bytes word) l.words) sizes (map (λ word. string_bytes word) (drop l.word-index l.words))
    × (l.lacking ≡ false → l.sizes.items ≡ sizes)
