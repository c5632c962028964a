-- One pair of many over parts in memory.
use Rattle.std.specs.Prelude.{◌≡◌, ◌+◌, ◌*◌, ℕ, true, false, [], ◌∷◌, None, codes}
use Rattle.std.specs.declared.alloc.Global.{Global}
use Rattle.rtc_wire.specs.declared.addr.Addr.{Addr}
use Rattle.rtc_peer_transport.specs.Connection.{no_transport}
use Rattle.rtc_run.specs.ProgramPair.{IsProgramPeer, PlainPairState, left_address}
use Rattle.rtc_run.specs.declared.peer_settings.PeerSettings.{PeerSettings}

-- no setting of a peer was changed
abbrev pub default_settings : PeerSettings
default_settings = record {
  lite = false;
  snap = false;
  max_buffered = 131072;
  max_message_size = 262144;
  stats_interval = None;
  polite = None;
}

-- the address of the right peer of a number
abbrev pub numbered_address : ℕ → Addr
numbered_address number = record { ip = 2 ∷ 2 ∷ 0 ∷ number ∷ []; port = 2000 }

-- The pair of a number: the left peer has the certificate abc, the right one def, and each draws from a number of its own. Neither has met
-- the other side, and each checks its certificate.
pub record IsNumberedPair (alloc : Global) (number : ℕ) (pair : PlainPairState) : Type 0 where
  pub left : IsProgramPeer alloc default_settings (codes "abc") (2000000 * number + 1) left_address pair.left.core
  pub right : IsProgramPeer alloc default_settings (codes "def") (2000000 * number + 1000001) (numbered_address number) pair.right.core
  pub left_transport : pair.left.transport ≡ no_transport true false None
  pub right_transport : pair.right.transport ≡ no_transport true false None
  pub left_addr : pair.left_addr ≡ left_address
  pub right_addr : pair.right_addr ≡ numbered_address number
  pub sdps : pair.sdps ≡ []
  pub packets : pair.packets ≡ []
  pub size : pair.size ≡ 0
