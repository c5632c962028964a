-- The contents of the datagrams that a side of a pair sent.
use Rattle.std.specs.Prelude.{ℕ, Bool, true, false, List, [], ◌∷◌}
use Rattle.rtc_run_history.specs.declared.sent_packet.SentPacket.{SentPacket}
use Rattle.rtc_run_history.specs.declared.side.Side.{Side}
use Rattle.rtc_run_history.specs.Sides.{same_side}

-- contents before others, if the datagram is one of the side
abbrev pub contents_with : Bool → List ℕ → List (List ℕ) → List (List ℕ)
contents_with true contents more = contents ∷ more
contents_with false contents more = more

-- of the datagrams that a pair keeps, the contents of those that a side sent, in order
abbrev pub contents_sent : Side → List SentPacket → List (List ℕ)
contents_sent at [] = []
contents_sent at (sent ∷ packets) = contents_with (same_side sent.at at) sent.transmit.contents (contents_sent at packets)
