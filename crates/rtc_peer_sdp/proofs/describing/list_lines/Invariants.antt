use Rattle.std.proofs.Common.{◌≡◌, map}
use Rattle.rtc_peer_core.specs.MadeSdp.{told_line}
use Rattle.rtc_peer_sdp.proofs.describing.list_lines.Given as goal

abbrev pub invariant-loop-told : goal.invariant-loop-told
invariant-loop-told l = l.lines.items ≡ map (told_line l.head) l.yielded
