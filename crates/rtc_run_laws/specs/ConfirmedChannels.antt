-- The channels of a side that were confirmed in a run: those whose stream is to be opened (RFC 8832, section 6).
use Rattle.std.specs.Prelude.{ℕ, ◌≡◌, ◌⊎◌, Bool, true, List, [], ◌∷◌, is_some}
use Rattle.rtc_channels.specs.Channels.{Channel}
use Rattle.rtc_peer_core.specs.Meanings.{Meanings}
use Rattle.rtc_run_history.specs.declared.side.Side.{Side}
use Rattle.rtc_run_history.specs.PairState.{PairState, rtc_at}
use Rattle.rtc_run_history.specs.Past.{Entry}
use Rattle.rtc_run_history.specs.Runs.{Reached}

-- the row of a channel has a config: the channel is confirmed, and its stream is still to be opened
abbrev pub HasConfig : (channel : ℕ) → List Channel → Type 0
HasConfig c [] = ⊥
HasConfig c (row ∷ rows) = ((row.id ≡ c) × (is_some row.config ≡ true)) ⊎ HasConfig c rows

module _ {I D S M E X T W N : Type 0} (m : Meanings I D S M E X T W N) where
  -- A channel of a side was confirmed in a run: at the start or behind a step its row had a config.
  abbrev pub WasConfirmed : (stun : List ℕ → Bool) (start : PairState I D S M N) (at : Side) (channel : ℕ) (past : List (Entry E))
      (pair : PairState I D S M N) → Reached m stun start past pair → Type 0
  WasConfirmed stun start at c [] pair ran = HasConfig c (rtc_at at pair).core.channels.rows
  WasConfirmed stun start at c (entry ∷ past) pair ran =
      HasConfig c (rtc_at at pair).core.channels.rows ⊎ WasConfirmed stun start at c past ran.0 ran.1
