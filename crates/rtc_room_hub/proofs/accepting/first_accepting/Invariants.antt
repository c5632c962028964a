use Rattle.std.proofs.Common.{◌≡◌}
use Rattle.rtc_room_hub.proofs.Addressed.{from_place}
use Rattle.rtc_room_hub.proofs.accepting.first_accepting.Given as goal

-- the first from here on is the first of all
abbrev pub invariant-loop-k : goal.invariant-loop-k
invariant-loop-k l = from_place l.input l.members l.pairs l.k ≡ from_place l.input l.members l.pairs 0
