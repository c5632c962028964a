-- Pairs of peers whose associations wait for nothing more.
use Rattle.std.specs.Prelude.{◌≡◌, None}
use Rattle.rtc_assoc_state.specs.PlainMeaning.{plain_meaning}
use Rattle.rtc_sctp.specs.Calls.{streams_wake}
use Rattle.rtc_channels.specs.Openings.{channels_wake}
use Rattle.rtc_run_history.specs.declared.side.Side.{Side}
use Rattle.rtc_run_history.specs.PairState.{rtc_at}
use Rattle.rtc_run_laws.specs.PlainPairs.{PlainPair, PlainPolled}

-- Neither the association of a peer with its streams nor the channels over them want a moment, so that no opening is to be tried again
-- or is still to be begun.
pub record IsStillPeer {N : Type 0} (p : PlainPolled N) : Type 0 where
  pub idle : channels_wake plain_meaning p.core.channels p.core.sctp ≡ None
  pub waits : streams_wake plain_meaning p.core.sctp ≡ None

-- so it is at both sides
abbrev pub IsStillPair : {N : Type 0} → PlainPair N → Type 0
IsStillPair pair = (at : Side) → IsStillPeer (rtc_at at pair)
