use Rattle.std.proofs.Common.{◌≡◌, ℕ, List, take}
use Rattle.std.specs.Str.{bytes_eq}
use Rattle.std.specs.Ordering.{nat_cmp}
use Rattle.std.specs.Cmp.Lexicographic.{slice_cmp}
use Rattle.std.specs.BTreeSet as set
use Rattle.rtc_wire_text.specs.Once.{each_once}
use Rattle.rtc_wire_text.proofs.OnceLemmas.{among}
use Rattle.rtc_sdp_attributes.proofs.simulcast_value.each_once.Given as goal

abbrev pub invariant-loop-rid : goal.invariant-loop-rid
invariant-loop-rid l = record {
  once : l.once.items ≡ each_once bytes_eq (take l.rid-index l.rids);
  seen : (rid : List ℕ) → set.contains (slice_cmp nat_cmp) l.seen rid ≡ among bytes_eq rid l.once.items;
}
