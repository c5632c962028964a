-- The reply if the peer is not called: there is no such thing, or what was written of it cannot be read. The table is shown, or there is no
-- memory.
use Rattle.std.specs.Prelude.{◌≡◌, ℕ, Option, Some, None}
use Rattle.rtc_sdp_values.specs.declared.sdp_error.SdpError.TheVariants.{Parse}
use Rattle.rtc_peer_core.specs.declared.peer.Peer.{Peer}
use Rattle.rtc_peer_core.specs.declared.rtc_error.RtcError.TheVariants.{Sdp as SdpRefused}
use Rattle.rtc_peer_core.specs.Meanings.{Meanings}
use Rattle.rtc_run_history.specs.declared.outcome.Outcome.{Outcome}
use Rattle.rtc_run_history.specs.declared.outcome.Outcome.TheVariants.{Refused, NoSuch, Alloc}
use Rattle.rtc_run_history.specs.declared.table.Table.{Table}
use Rattle.rtc_run_history.specs.CallReplies.{Shows}

module _ {I D S M E X T W N : Type 0} (m : Meanings I D S M E X T W N) where
  abbrev pub IsNoSuch : Peer I D S M N → Outcome E → Option Table → Type 0
  IsNoSuch p NoSuch (Some table) = Shows m table p
  IsNoSuch p Alloc None = Unit {0}
  IsNoSuch p outcome table = ⊥

  abbrev pub IsUnread : ℕ → Peer I D S M N → Outcome E → Option Table → Type 0
  IsUnread line p (Refused error) (Some table) = (error ≡ SdpRefused (Parse line)) × Shows m table p
  IsUnread line p Alloc None = Unit {0}
  IsUnread line p outcome table = ⊥
