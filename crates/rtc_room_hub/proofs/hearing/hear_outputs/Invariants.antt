use Rattle.std.proofs.Common.{◌≡◌, ◌++◌, drop}
use Rattle.rtc_peer.specs.CachedPeer.{polled_of}
use Rattle.rtc_room_laws.specs.Hearing.{heard_in, line_behind}
use Rattle.rtc_room_hub.proofs.hearing.hear_outputs.Given as goal

-- the line behind all outputs, and what is heard in them, by those to come
abbrev pub invariant-loop-shown : goal.invariant-loop-shown
invariant-loop-shown l =
    record {
      line : line_behind (polled_of l.peer) l.told.line (drop l.shown-index l.outputs) ≡ line_behind (polled_of l.peer) l.fn.line l.outputs;
      heard : l.told.heard.items ++ heard_in l.sender (polled_of l.peer) l.told.line (drop l.shown-index l.outputs) ≡ heard_in l.sender (polled_of l.peer) l.fn.line l.outputs;
    }
