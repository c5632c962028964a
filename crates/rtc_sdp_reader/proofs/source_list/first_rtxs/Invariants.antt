use Rattle.std.proofs.Common.{◌≡◌, ℕ, take}
use Rattle.std.specs.Ordering.{nat_cmp}
use Rattle.std.specs.BTreeMap as map
use Rattle.rtc_sdp_reader.specs.Sources.{rtx_of}
use Rattle.rtc_sdp_reader.proofs.source_list.first_rtxs.Given as goal

abbrev pub invariant-loop-i : goal.invariant-loop-i
invariant-loop-i l = (ssrc : ℕ) → map.get nat_cmp l.found ssrc ≡ rtx_of (take l.i l.pairs) ssrc
