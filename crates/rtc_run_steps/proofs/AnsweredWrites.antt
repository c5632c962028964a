-- Writes to channels that are open, or not, as steps reply to them.
use Rattle.std.proofs.Common.{◌≡◌, ℕ, Bool, List, Option, Some, None, Result, Ok, Err, refl, ap}
use Rattle.rtc_peer_core.specs.declared.rtc_error.RtcError.{RtcError}
use Rattle.rtc_peer_core.specs.ChannelRows.{channel_rows}
use Rattle.rtc_peer_core.specs.Meanings.{Meanings}
use Rattle.rtc_peer_transport.specs.declared.polled_peer.PolledPeer.{PolledPeer}
use Rattle.rtc_run_history.specs.declared.outcome.Outcome.{Outcome}
use Rattle.rtc_run_history.specs.declared.outcome.Outcome.TheVariants.{Alloc}
use Rattle.rtc_run_history.specs.declared.table.Table.{Table}
use Rattle.rtc_run_history.specs.CallReplies.{StepWrites}
use Rattle.rtc_run_steps.specs.ShownTable.{shown_table}
use Rattle.rtc_run_steps.specs.Written.{WritesIfOpen, written_outcome}

module _ {I D S M E X T W N : Type 0} (m : Meanings I D S M E X T W N) where
  -- without memory for the table there is no call
  pub no_room_to_write : (stream : Option ℕ) (binary : Bool) (bytes : List ℕ) (p : PolledPeer I D S M N) (outcome : Outcome E) (table : Option Table) → outcome ≡ Alloc → table ≡ None
      → StepWrites m stream binary bytes p outcome table p
  no_room_to_write None binary bytes p outcome table told shown = rw (told, shown) refl
  no_room_to_write (Some stream) binary bytes p outcome table told shown = rw (told, shown) refl

  -- a write, as a step replies to it
  pub answered_write : (stream : Option ℕ) (binary : Bool) (bytes : List ℕ) (old : PolledPeer I D S M N) (answer : Option (Result Bool RtcError)) (outcome : Outcome E) (table : Option Table)
      (new : PolledPeer I D S M N) → WritesIfOpen m stream binary bytes old answer new → outcome ≡ written_outcome answer → table ≡ Some (shown_table m.association new.core)
      → StepWrites m stream binary bytes old outcome table new
  answered_write None binary bytes old None outcome table new called told shown =
      rw (told, shown) (
        called,
        record {
          lines = ap (λ (x : PolledPeer I D S M N). x.core.lines) called;
          channels = ap (λ (x : PolledPeer I D S M N). channel_rows m.association x.core.sctp x.core.channels) called;
        },
      )
  answered_write None binary bytes old (Some answer) outcome table new called told shown = absurd called
  answered_write (Some stream) binary bytes old None outcome table new called told shown = absurd called
  answered_write (Some stream) binary bytes old (Some (Ok taken)) outcome table new called told shown = rw (told, shown) (called, record { lines = refl; channels = refl })
  answered_write (Some stream) binary bytes old (Some (Err error)) outcome table new called told shown = rw (told, shown) (called, record { lines = refl; channels = refl })
