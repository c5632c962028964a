-- The pair that scripts are performed on.
use Rattle.std.specs.Prelude.{◌≡◌, ◌+◌, ◌%◌, ◌^◌, ℕ, true, false, List, [], ◌∷◌, Some, Ok, codes}
use Rattle.std.specs.declared.alloc.Global.{Global}
use Rattle.rtc_wire.specs.declared.addr.Addr.{Addr}
use Rattle.rtc_wire.specs.declared.protocol.Protocol.TheVariants.{Udp}
use Rattle.rtc_sdp_values.specs.declared.candidate.Candidate.{Candidate}
use Rattle.rtc_sdp_values.specs.declared.candidate_kind.CandidateKind.TheVariants.{Host}
use Rattle.rtc_parts.specs.Draws.{Draws}
use Rattle.rtc_plain_ice.specs.Contents.{IceContents, fresh_ice}
use Rattle.rtc_plain_ice.specs.PlainMeaning.{plain_ice}
use Rattle.rtc_plain_dtls.specs.Contents.{DtlsContents, fresh_dtls}
use Rattle.rtc_plain_dtls.specs.PlainMeaning.{plain_dtls}
use Rattle.rtc_assoc_state.specs.Contents.{Contents, fresh_contents}
use Rattle.rtc_assoc_state.specs.PlainMeaning.{plain_meaning}
use Rattle.rtc_plain_media.specs.MediaContents.{MediaContents, fresh_media}
use Rattle.rtc_plain_media.specs.PlainMediaMeaning.{plain_media_meaning}
use Rattle.rtc_plain_media.specs.declared.plain_media_event.PlainMediaEvent.{PlainMediaEvent}
use Rattle.rtc_plain_media.specs.declared.plain_mark.PlainMark.{PlainMark}
use Rattle.rtc_config.specs.RtcConfig.{PeerConfig, default_config, default_ice, default_dtls}
use Rattle.rtc_peer_core.specs.declared.peer.Peer.{Peer}
use Rattle.rtc_peer_core.specs.Built.{Builds}
use Rattle.rtc_peer_core.specs.Meanings.{Meanings, meanings}
use Rattle.rtc_peer_transport.specs.Connection.{no_transport}
use Rattle.rtc_run_history.specs.PairState.{PairState}
use Rattle.rtc_run.specs.declared.peer_settings.PeerSettings.{PeerSettings}

-- numbers that count up by one, and wrap
abbrev pub counting : Draws ℕ
counting = record { drawn = λ n. n; after = λ n. (n + 1) % 2 ^ 64 }

-- the five parts in memory
abbrev pub plain_parts : Meanings IceContents DtlsContents Contents MediaContents PlainMediaEvent PlainMark PlainMark PlainMark ℕ
plain_parts = meanings plain_ice plain_dtls plain_meaning plain_media_meaning counting

abbrev pub PlainPeer : Type 0
PlainPeer = Peer IceContents DtlsContents Contents MediaContents ℕ

abbrev pub PlainPairState : Type 0
PlainPairState = PairState IceContents DtlsContents Contents MediaContents ℕ

-- the host candidate of an address over UDP
abbrev pub host_at : Addr → Candidate
host_at addr = record {
  foundation = codes "1";
  component = 1;
  proto = Udp;
  priority = 2130706431;
  addr = addr;
  kind = Host;
}

-- what a peer of the program is built from: the default with its certificate and its settings
abbrev pub program_config : PeerSettings → (cert : List ℕ) → PeerConfig
program_config settings cert = record default_config {
  ice = record default_ice { lite = settings.lite };
  dtls = record default_dtls { cert = Some cert };
  stats_interval = settings.stats_interval;
  polite = settings.polite;
  sctp = record {
    max_buffered_amount = settings.max_buffered;
    max_message_size = settings.max_message_size;
    snap_enabled = settings.snap;
  };
}

-- A peer of the program: built at moment 0 over fresh parts with a certificate, drawing numbers that count up from one, and then
-- given its address.
pub record IsProgramPeer (alloc : Global) (settings : PeerSettings) (cert : List ℕ) (first : ℕ) (addr : Addr) (p : PlainPeer) : Type 0 where
  pub built : PlainPeer
  pub by_build : Builds plain_parts alloc (program_config settings cert) 0
      fresh_ice fresh_dtls fresh_contents fresh_media first built
  pub by_address : plain_ice.local_added built.ice (host_at addr) (Ok true) p.ice
  pub rest : p ≡ record built { ice = p.ice }

abbrev pub left_address : Addr
left_address = record { ip = 1 ∷ 1 ∷ 1 ∷ 1 ∷ []; port = 1000 }

abbrev pub right_address : Addr
right_address = record { ip = 2 ∷ 2 ∷ 2 ∷ 2 ∷ []; port = 2000 }

-- The pair of the program, if each peer is set to this: the left peer draws from 1 and has the certificate abc, the right one from 1000001
-- and def. Neither has met the other side, and each checks its certificate.
pub record IsProgramPair (alloc : Global) (left_settings right_settings : PeerSettings) (pair : PlainPairState) : Type 0 where
  pub left : IsProgramPeer alloc left_settings (codes "abc") 1 left_address pair.left.core
  pub right : IsProgramPeer alloc right_settings (codes "def") 1000001 right_address pair.right.core
  pub left_transport : pair.left.transport ≡ no_transport true false left_settings.stats_interval
  pub right_transport : pair.right.transport ≡ no_transport true false right_settings.stats_interval
  pub left_addr : pair.left_addr ≡ left_address
  pub right_addr : pair.right_addr ≡ right_address
  pub sdps : pair.sdps ≡ []
  pub packets : pair.packets ≡ []
  pub size : pair.size ≡ 0
