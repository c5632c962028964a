use Rattle.std.proofs.Common.{◌≡◌, codes, string_bytes, rules}
use Rattle.rtc_demo.proofs.AskedWords.{asks_for_demo}
use Rattle.rtc_demo.proofs.asked.read_demo.Goals as goal

pub returns-then-is_demo-clause-some : goal.returns-then-is_demo-clause-some
returns-then-is_demo-clause-some c =
    let verb : string_bytes c.word-item.result ≡ codes "demo" = search rules in
    asks_for_demo (λ word. string_bytes word) c.args.words.now c.word-item.result c.rounds-item.result c.seed-item.result _ _ c.read_numbers.result c.in-len3.len_at_least c.in-len3.len_below
    c.word-item.is c.rounds-item.is c.seed-item.is verb (search rules) (search rules) c.read_numbers.ensures.some
