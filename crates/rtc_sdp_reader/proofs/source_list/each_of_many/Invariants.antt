use Rattle.std.proofs.Common.{◌≡◌, ℕ, take, eqb}
use Rattle.std.specs.Ordering.{nat_cmp}
use Rattle.std.specs.BTreeSet as set
use Rattle.rtc_wire_text.specs.Once.{each_once}
use Rattle.rtc_wire_text.proofs.OnceLemmas.{among}
use Rattle.rtc_sdp_reader.proofs.source_list.each_of_many.Given as goal

abbrev pub invariant-loop-number : goal.invariant-loop-number
invariant-loop-number l = record {
  once : l.once.items ≡ each_once eqb (take l.number-index l.numbers);
  seen : (n : ℕ) → set.contains nat_cmp l.seen n ≡ among eqb n l.once.items;
}
