use Rattle.std.proofs.Common.{◌≡◌, ℕ, take}
use Rattle.std.specs.Ordering.{nat_cmp}
use Rattle.std.specs.BTreeSet as set
use Rattle.rtc_sdp_reader.specs.Sources.{is_rtx}
use Rattle.rtc_sdp_reader.proofs.source_list.rtx_numbers.Given as goal

abbrev pub invariant-loop-i : goal.invariant-loop-i
invariant-loop-i l = (ssrc : ℕ) → set.contains nat_cmp l.found ssrc ≡ is_rtx (take l.i l.pairs) ssrc
