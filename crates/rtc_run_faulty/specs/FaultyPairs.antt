-- The pair that is run over parts that fail.
use Rattle.std.specs.Prelude.{◌≡◌, ℕ, true, false, List, [], Ok, codes}
use Rattle.std.specs.declared.alloc.Global.{Global}
use Rattle.rtc_peer_core.specs.Built.{Builds}
use Rattle.rtc_peer_transport.specs.Connection.{no_transport}
use Rattle.rtc_plain_ice.specs.Contents.{fresh_ice}
use Rattle.rtc_plain_ice.specs.PlainMeaning.{plain_ice}
use Rattle.rtc_run.specs.ProgramPair.{host_at, left_address, program_config, right_address}
use Rattle.rtc_run.specs.declared.peer_settings.PeerSettings.{PeerSettings}
use Rattle.rtc_wire.specs.declared.addr.Addr.{Addr}
use Rattle.rtc_run_faulty.specs.declared.failing_calls.FailingCalls.{FailingCalls}
use Rattle.rtc_run_faulty.specs.FaultyParts.{
  FaultyCore,
  FaultyPairState,
  faulty_parts,
  fresh_faulty_dtls,
  fresh_faulty_association,
  fresh_faulty_media,
}

-- A peer over parts that fail at these calls: built at moment 0 over fresh parts with a certificate and these settings, drawing numbers
-- that count up from one, and then given its address.
pub record IsFaultyPeer (alloc : Global) (settings : PeerSettings) (cert : List ℕ) (first : ℕ) (addr : Addr) (failing : FailingCalls)
    (p : FaultyCore) : Type 0 where
  pub built : FaultyCore
  pub by_build : Builds faulty_parts alloc (program_config settings cert) 0 fresh_ice (fresh_faulty_dtls failing.dtls)
      (fresh_faulty_association failing.association) (fresh_faulty_media failing.media) first built
  pub by_address : plain_ice.local_added built.ice (host_at addr) (Ok true) p.ice
  pub rest : p ≡ record built { ice = p.ice }

-- The pair, if each peer is set to this: the left peer draws from 1 and has the certificate abc, the right one from 1000001 and def, as in
-- the pair of scripts. Neither has met the other side, and each checks its certificate.
pub record IsFaultyPair (alloc : Global) (left_settings right_settings : PeerSettings) (left_failing right_failing : FailingCalls)
    (pair : FaultyPairState) : Type 0 where
  pub left : IsFaultyPeer alloc left_settings (codes "abc") 1 left_address left_failing pair.left.core
  pub right : IsFaultyPeer alloc right_settings (codes "def") 1000001 right_address right_failing pair.right.core
  pub left_transport : pair.left.transport ≡ no_transport true false left_settings.stats_interval
  pub right_transport : pair.right.transport ≡ no_transport true false right_settings.stats_interval
  pub left_addr : pair.left_addr ≡ left_address
  pub right_addr : pair.right_addr ≡ right_address
  pub sdps : pair.sdps ≡ []
  pub packets : pair.packets ≡ []
  pub size : pair.size ≡ 0
