-- Peers over the parts in memory.
use Rattle.std.specs.Prelude.{◌≡◌, ◌+◌, ◌%◌, ◌^◌, ℕ, true, Ok, codes}
use Rattle.std.specs.declared.alloc.Global.{Global}
use Rattle.rtc_wire.specs.declared.addr.Addr.{Addr}
use Rattle.rtc_wire.specs.declared.protocol.Protocol.TheVariants.{Udp}
use Rattle.rtc_sdp_values.specs.declared.candidate.Candidate.{Candidate}
use Rattle.rtc_sdp_values.specs.declared.candidate_kind.CandidateKind.TheVariants.{Host}
use Rattle.rtc_plain_ice.specs.Contents.{IceContents, fresh_ice}
use Rattle.rtc_plain_ice.specs.PlainMeaning.{plain_ice}
use Rattle.rtc_plain_dtls.specs.Contents.{DtlsContents, fresh_dtls}
use Rattle.rtc_plain_dtls.specs.PlainMeaning.{plain_dtls}
use Rattle.rtc_assoc_state.specs.Contents.{Contents, fresh_contents}
use Rattle.rtc_assoc_state.specs.PlainMeaning.{plain_meaning}
use Rattle.rtc_plain_media.specs.MediaContents.{MediaContents, fresh_media}
use Rattle.rtc_plain_media.specs.PlainMediaMeaning.{plain_media_meaning}
use Rattle.rtc_plain_media.specs.declared.plain_media_event.PlainMediaEvent.{PlainMediaEvent}
use Rattle.rtc_plain_media.specs.declared.plain_mark.PlainMark.{PlainMark}
use Rattle.rtc_config.specs.RtcConfig.{PeerConfig}
use Rattle.rtc_peer_core.specs.declared.peer.Peer.{Peer}
use Rattle.rtc_peer_core.specs.Built.{Builds}
use Rattle.rtc_peer_core.specs.Meanings.{Meanings, meanings}

-- the five parts in memory; the source of numbers counts up by one, and wraps
abbrev pub memory_parts : Meanings IceContents DtlsContents Contents MediaContents PlainMediaEvent PlainMark PlainMark PlainMark ℕ
memory_parts = meanings plain_ice plain_dtls plain_meaning plain_media_meaning (record { drawn = λ n. n; after = λ n. (n + 1) % 2 ^ 64 })

-- the host candidate of an address over UDP
abbrev pub host_candidate : Addr → Candidate
host_candidate addr = record {
  foundation = codes "1";
  component = 1;
  proto = Udp;
  priority = 2130706431;
  addr = addr;
  kind = Host;
}

-- A peer that is built of a config at moment 0 over fresh parts, draws numbers that count up from one, and was given its address.
pub record IsPlainPeer (alloc : Global) (config : PeerConfig) (first : ℕ) (addr : Addr)
    (p : Peer IceContents DtlsContents Contents MediaContents ℕ) : Type 0 where
  pub built : Peer IceContents DtlsContents Contents MediaContents ℕ
  pub by_build : Builds memory_parts alloc config 0 fresh_ice fresh_dtls fresh_contents fresh_media first built
  pub by_address : plain_ice.local_added built.ice (host_candidate addr) (Ok true) p.ice
  pub rest : p ≡ record built { ice = p.ice }
