use Rattle.std.proofs.Common.{◌==◌, nat_eq, ℕ, rules, ◌∙◌}
use Rattle.indexmap.specs.IndexSet as set
use Rattle.rtc_plain_media.proofs.PlaceLemmas.{puts_no_number, puts_number, on_ok}
use Rattle.rtc_plain_media.proofs.stream_index.put_number.Goals as goal

pub returns-then-contains-clause-put : goal.returns-then-contains-clause-put
returns-then-contains-clause-put c = λ n. puts_no_number (λ (k : ℕ). set.contains nat_eq c.args.numbers.now k) c.args.number (search rules) n

pub returns-clause-put : goal.returns-clause-put
returns-clause-put c = λ n.
    (on_ok _ _ (c.insert.ensures.succeeds c.requires) c.insert.ensures.updates).0 n ∙ puts_number (c.args.number == n) (set.contains nat_eq c.args.numbers.now n)
