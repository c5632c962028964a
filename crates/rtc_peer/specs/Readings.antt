-- What a peer returns of itself.
use Rattle.std.specs.Prelude.{◌≡◌, ℕ, Bool, true, false, List, Option, Some, None, option_and_then, Result, Ok, Err}
use Rattle.std.specs.declared.alloc.AllocError.{AllocError}
use Rattle.rtc_sdp_values.specs.declared.candidate.Candidate.{Candidate}
use Rattle.rtc_sdp_values.specs.declared.line_row.LineRow.{LineRow}
use Rattle.rtc_sdp_values.specs.declared.line_row.LineRow.TheVariants.{Media, App}
use Rattle.rtc_peer_rows.specs.Table.{row_of}
use Rattle.rtc_parts.specs.IceMeaning.{IceMeaning}
use Rattle.rtc_peer_core.specs.declared.phase.Phase.{Phase}
use Rattle.rtc_peer_core.specs.declared.phase.Phase.TheVariants.{Alive, Closing, Closed}
use Rattle.rtc_peer_transport.specs.declared.polled_peer.PolledPeer.{PolledPeer}

abbrev pub if_of_media : LineRow → Option LineRow
if_of_media (Media place mid kind dir stopped remote_created) = Some (Media place mid kind dir stopped remote_created)
if_of_media (App place mid) = None

-- the row of a mid, if it is of media
abbrev pub media_row_of : List LineRow → List ℕ → Option LineRow
media_row_of rows mid = option_and_then if_of_media (row_of rows mid)

-- whether a peer is not closed
abbrev pub is_alive_phase : Phase → Bool
is_alive_phase Alive = true
is_alive_phase Closing = true
is_alive_phase Closed = false

-- what is lent of a candidate that is given to the agent, by what this returned: the candidate, if it was taken
abbrev pub LendsTaken : Candidate → Result Bool AllocError → Result (Option Candidate) AllocError → Type 0
LendsTaken candidate (Ok true) lent = lent ≡ Ok (Some candidate)
LendsTaken candidate (Ok false) lent = lent ≡ Ok None
LendsTaken candidate (Err error) lent = lent ≡ Err error

-- a candidate of this side is given to the agent, and nothing else of the peer changes
pub record AddsLocal {I D S M N : Type 0} (ice : IceMeaning I) (p : PolledPeer I D S M N) (candidate : Candidate)
    (lent : Result (Option Candidate) AllocError) (q : PolledPeer I D S M N) : Type 0 where
  pub taken : Result Bool AllocError
  pub added : ice.local_added p.core.ice candidate taken q.core.ice
  pub lends : LendsTaken candidate taken lent
  pub others : q.core ≡ record p.core { ice = q.core.ice }
  pub connection : q.transport ≡ p.transport

-- A candidate of the other side is given to the agent, which may take it or not.
abbrev pub AddsRemote : {I : Type 0} → IceMeaning I → I → Candidate → Result (Unit {0}) AllocError → I → Type 0
AddsRemote ice p candidate (Ok done) q = (taken : Bool) × ice.remote_added p candidate (Ok taken) q
AddsRemote ice p candidate (Err error) q = ice.remote_added p candidate (Err error) q
