-- The statistics of a peer: when they are due, and the order in which they are reported.
use Rattle.std.specs.Prelude.{ℕ, ◌+◌, ◌-◌, ◌^◌, min, nat_le, Bool, false, List, ◌∷◌, ◌++◌, map, Option, Some, None, option_map}
use Rattle.std.specs.BTreeMap.{values}
use Rattle.rtc_parts.specs.declared.peer_stats.PeerStats.{PeerStats}
use Rattle.rtc_parts.specs.declared.stats_event.StatsEvent.{StatsEvent}
use Rattle.rtc_parts.specs.declared.stats_event.StatsEvent.TheVariants.{Peer, MediaIngress, MediaEgress}
use Rattle.rtc_parts.specs.declared.stats_snapshot.StatsSnapshot.{StatsSnapshot}

-- the time between two rounds, the moment of the last round, and the reports that are not yet polled
pub record Reporting : Type 0 where
  pub interval : ℕ
  pub last : Option ℕ
  pub events : List StatsEvent

-- the moment of the round after one: an interval later, at most the last of all moments
abbrev pub round_after : ℕ → ℕ → ℕ
round_after interval last = min (last + interval) (2 ^ 64 - 1)

-- whether a round is due at a moment: an interval after the last one
abbrev pub is_round_due : ℕ → Option ℕ → ℕ → Bool
is_round_due interval None now = false
is_round_due interval (Some last) now = nat_le (round_after interval last) now

-- the last moment, or this one if there was none
abbrev pub since : Option ℕ → ℕ → ℕ
since None now = now
since (Some last) now = last

-- the next round's moment, once a moment is known
abbrev pub next_round : Reporting → Option ℕ
next_round stats = option_map (round_after stats.interval) stats.last

-- the report on the peer itself
abbrev pub peer_report : StatsSnapshot → PeerStats
peer_report snapshot = record {
  peer_bytes_rx = snapshot.peer_rx;
  peer_bytes_tx = snapshot.peer_tx;
  bytes_rx = snapshot.rx;
  bytes_tx = snapshot.tx;
  timestamp = snapshot.timestamp;
  rtt = snapshot.rtt;
  selected_candidate_pair = snapshot.selected_candidate_pair;
}

-- the reports of a snapshot: on the peer, then on what is received, then on what is sent, each in the order of its keys
abbrev pub reports_of : StatsSnapshot → List StatsEvent
reports_of snapshot =
    Peer (peer_report snapshot) ∷ map MediaIngress (values snapshot.ingress) ++ map MediaEgress (values snapshot.egress)

-- a round was reported at the moment of its snapshot
abbrev pub reported : Reporting → StatsSnapshot → Reporting
reported stats snapshot = record stats { last = Some snapshot.timestamp; events = stats.events ++ reports_of snapshot }
