-- The SNAP INIT chunk that an offer carries (draft-hancke-tsvwg-snap).
use Rattle.std.specs.Prelude.{ℕ, Bool, true, false, List, Option, Some, None}
use Rattle.rtc_sctp_values.specs.InitHalves.{InitHalves, local_text, with_local}
use Rattle.rtc_sctp_values.specs.SnapHalves.{KeptHalves, text_in}
use Rattle.rtc_peer_core.specs.declared.peer.Peer.{Peer}
use Rattle.rtc_peer_core.specs.Calls.{halves_pending}
use Rattle.rtc_peer_core.specs.Meanings.{Meanings}
use Rattle.rtc_peer_core.specs.SdpHalves.{tells_half}
use Rattle.rtc_peer_core.specs.Stance.{stance_of}

module _ {I D S M E X T W N : Type 0} (m : Meanings I D S M E X T W N) where
  -- the chunks of which it carries this side's, which is drawn if it is missing
  abbrev pub halves_where : Bool → Peer I D S M N → Option InitHalves
  halves_where true p = Some (with_local m.ids (halves_pending m p) p.ids)
  halves_where false p = None

  abbrev pub halves_told : Peer I D S M N → Option InitHalves
  halves_told p = halves_where (tells_half (stance_of m p)) p

-- the text that is carried: that of these chunks, or else that of the start
abbrev pub init_of_told : KeptHalves → Option InitHalves → Option (List ℕ)
init_of_told kept None = text_in local_text kept.started
init_of_told kept (Some halves) = local_text halves

-- what is kept once it was carried
abbrev pub snap_of_told : KeptHalves → Option InitHalves → KeptHalves
snap_of_told kept None = kept
snap_of_told kept (Some halves) = record kept { pending = Some halves }
