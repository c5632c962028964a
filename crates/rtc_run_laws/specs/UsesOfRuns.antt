-- The channels that a side announced in a run, and what it sent and got over each.
use Rattle.std.specs.Prelude.{ℕ, ◌≡◌, Bool, true, if◌then◌else◌, List, [], ◌∷◌, Option}
use Rattle.rtc_wire.specs.declared.addr.Addr.{Addr}
use Rattle.rtc_peer_core.specs.Meanings.{Meanings}
use Rattle.rtc_peer_transport.specs.declared.polled_peer.PolledPeer.{PolledPeer}
use Rattle.rtc_run_history.specs.declared.kept.Kept.{Kept}
use Rattle.rtc_run_history.specs.declared.outcome.Outcome.{Outcome}
use Rattle.rtc_run_history.specs.declared.outcome.Outcome.TheVariants.{Wrote}
use Rattle.rtc_run_history.specs.declared.sent_packet.SentPacket.{SentPacket}
use Rattle.rtc_run_history.specs.declared.reply.Reply.{Reply}
use Rattle.rtc_run_history.specs.declared.side.Side.{Side}
use Rattle.rtc_run_history.specs.declared.step.Step.{Step}
use Rattle.rtc_run_history.specs.declared.step.Step.TheVariants.{Write, Rollback}
use Rattle.rtc_run_history.specs.declared.table.Table.{Table}
use Rattle.rtc_run_history.specs.PairState.{PairState, addr_at, rtc_at}
use Rattle.rtc_run_history.specs.Past.{Entry}
use Rattle.rtc_run_history.specs.Performs.{Acts}
use Rattle.rtc_run_history.specs.Runs.{EntersSoundly, Reached, Runs, Went}
use Rattle.rtc_run_history.specs.Sides.{same_side, side_of, other_side}
use Rattle.rtc_run_laws.specs.ChannelUses.{ChannelUse, uses_shown, with_rolled_back, with_sent_message}
use Rattle.rtc_run_laws.specs.PollsOfRuns.{by_step}

-- after a step that writes to a channel: its message was sent if it was taken
abbrev pub uses_written : {E : Type 0} → (channel : ℕ) → (binary : Bool) → List ℕ → Outcome E → List ChannelUse → List ChannelUse
uses_written channel binary bytes (Wrote true) uses = with_sent_message channel (binary, bytes) uses
uses_written channel binary bytes outcome uses = uses

module _ {I D S M E X T W N : Type 0} (m : Meanings I D S M E X T W N) where
  -- behind a step of the side: what was announced, sent and got, and what was rolled back
  abbrev pub uses_acted : (stun : List ℕ → Bool) (other own : Addr) (step : Step) (old : PolledPeer I D S M N) (sdps : List Kept)
      (packets : List SentPacket) (outcome : Outcome E) (table : Option Table) (new : PolledPeer I D S M N) (sdps' : List Kept)
      (packets' : List SentPacket)
      → Acts m stun other own step old sdps packets outcome table new sdps' packets' → List ChannelUse → List ChannelUse
  uses_acted stun other own (Write at channel binary bytes) old sdps packets outcome table new sdps' packets' h uses =
      uses_written channel binary bytes outcome uses
  uses_acted stun other own (Rollback at token) old sdps packets outcome table new sdps' packets' h uses =
      with_rolled_back old.core.channels.rows new.core.channels.rows uses
  uses_acted stun other own step old sdps packets outcome table new sdps' packets' h uses =
      by_step m (uses_shown m) stun other own step old sdps packets outcome table new sdps' packets' h uses

  -- The channels that a side announced in a run, in order, by the peers of the run.
  abbrev pub uses_of : (stun : List ℕ → Bool) (start : PairState I D S M N) (at : Side) (past : List (Entry E)) (pair : PairState I D S M N)
      → Reached m stun start past pair → List ChannelUse
  uses_of stun start at [] pair ran = []
  uses_of stun start at (entry ∷ past) pair ran =
      if same_side (side_of entry.step) at
      then uses_acted stun (addr_at (other_side (side_of entry.step)) ran.0) (addr_at (side_of entry.step) ran.0) entry.step
      (rtc_at (side_of entry.step) ran.0) ran.0.sdps ran.0.packets entry.outcome entry.table
      (rtc_at (side_of entry.step) pair) pair.sdps pair.packets ran.2.performs.acts (uses_of stun start at past ran.0 ran.1)
      else uses_of stun start at past ran.0 ran.1

  -- a run, by the calls of its steps alone
  abbrev pub reached_by : (stun : List ℕ → Bool) (start : PairState I D S M N) (past : List (Entry E)) (pair : PairState I D S M N)
      → Went (EntersSoundly m stun start) (λ fresh. fresh ≡ start) past pair → Reached m stun start past pair
  reached_by stun start [] pair went = went
  reached_by stun start (entry ∷ past) pair went = (went.0, reached_by stun start past went.0 went.1, went.2.0)

  -- the channels that a side announced in a run by steps with replies
  abbrev pub uses_in_run : (stun : List ℕ → Bool) (start : PairState I D S M N) (steps : List Step) (replies : List (Reply E))
      (pair : PairState I D S M N) → Runs m stun start steps replies pair → Side → List ChannelUse
  uses_in_run stun start steps replies pair run at = uses_of stun start at run.past pair (reached_by stun start run.past pair run.went)
