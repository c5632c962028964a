-- Two reports on one stream that is received, put together.
use Rattle.std.specs.Prelude.{ℕ, ◌+◌, ◌-◌, ◌^◌, min, nat_le, if◌then◌else◌, Bool, Option, Some, None}
use Rattle.rtc_parts.specs.declared.remote_egress_stats.RemoteEgressStats.{RemoteEgressStats}
use Rattle.rtc_parts.specs.declared.media_ingress_stats.MediaIngressStats.{MediaIngressStats}

-- a count of both, at most the greatest number of 64 bits
abbrev pub counted_both : ℕ → ℕ → ℕ
counted_both a b = min (a + b) (2 ^ 64 - 1)

abbrev pub merged_remote : Option RemoteEgressStats → Option RemoteEgressStats → Option RemoteEgressStats
merged_remote None b = b
merged_remote (Some a) None = Some a
merged_remote (Some a) (Some b) = Some (record { bytes = counted_both a.bytes b.bytes; packets = counted_both a.packets b.packets })

-- whether the second report is the later one, or of the same moment
abbrev pub is_later : MediaIngressStats → MediaIngressStats → Bool
is_later a b = nat_le a.timestamp b.timestamp

-- counts are added; jitter, round-trip time and moment are those of the later report
abbrev pub merged : MediaIngressStats → MediaIngressStats → MediaIngressStats
merged a b = record a {
  bytes = counted_both a.bytes b.bytes;
  packets = counted_both a.packets b.packets;
  firs = counted_both a.firs b.firs;
  plis = counted_both a.plis b.plis;
  nacks = counted_both a.nacks b.nacks;
  remote = merged_remote a.remote b.remote;
  timestamp = if is_later a b then b.timestamp else a.timestamp;
  jitter = if is_later a b then b.jitter else a.jitter;
  rtt = if is_later a b then b.rtt else a.rtt;
}
