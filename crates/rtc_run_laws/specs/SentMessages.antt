-- What a side sent to each generation of each stream in a run.
use Rattle.std.specs.Prelude.{ℕ, ◌==◌, ◌&&◌, ◌++◌, if◌then◌else◌, Bool, true, List, [], ◌∷◌, Option, Some}
use Rattle.rtc_peer_core.specs.Meanings.{Meanings}
use Rattle.rtc_peer_transport.specs.ChannelCalls.{open_stream_under}
use Rattle.rtc_peer_transport.specs.declared.polled_peer.PolledPeer.{PolledPeer}
use Rattle.rtc_run_history.specs.declared.outcome.Outcome.{Outcome}
use Rattle.rtc_run_history.specs.declared.outcome.Outcome.TheVariants.{Wrote}
use Rattle.rtc_run_history.specs.declared.side.Side.{Side}
use Rattle.rtc_run_history.specs.declared.step.Step.{Step}
use Rattle.rtc_run_history.specs.declared.step.Step.TheVariants.{Write}
use Rattle.rtc_run_history.specs.PairState.{PairState, rtc_at}
use Rattle.rtc_run_history.specs.Past.{Entry}
use Rattle.rtc_run_history.specs.Runs.{Reached}
use Rattle.rtc_run_history.specs.Sides.{same_side, side_of}

module _ {I D S M E X T W N : Type 0} (m : Meanings I D S M E X T W N) where
  -- after a write to a stream, of a peer in this state: its message was sent to the generation that the stream had, if it was taken
  abbrev pub sent_by_write : Option ℕ → (binary : Bool) → List ℕ → Outcome E → PolledPeer I D S M N → (stream generation : ℕ)
      → List (Bool × List ℕ) → List (Bool × List ℕ)
  sent_by_write (Some t) binary bytes (Wrote true) old s g sent =
      if (t == s) && (m.association.generation old.core.sctp.association t == g) then sent ++ (binary, bytes) ∷ [] else sent
  sent_by_write stream binary bytes outcome old s g sent = sent

  abbrev pub sent_acted : Step → Outcome E → PolledPeer I D S M N → (stream generation : ℕ) → List (Bool × List ℕ) → List (Bool × List ℕ)
  sent_acted (Write at channel binary bytes) outcome old s g sent =
      sent_by_write (open_stream_under channel old) binary bytes outcome old s g sent
  sent_acted step outcome old s g sent = sent

  -- The messages of the writes of a side that were taken and went to a generation of a stream, over the whole run.
  abbrev pub sent_over : (stun : List ℕ → Bool) (start : PairState I D S M N) (at : Side) (past : List (Entry E))
      (pair : PairState I D S M N) → Reached m stun start past pair → (stream generation : ℕ) → List (Bool × List ℕ)
  sent_over stun start at [] pair ran s g = []
  sent_over stun start at (entry ∷ past) pair ran s g =
      if same_side (side_of entry.step) at
      then sent_acted entry.step entry.outcome (rtc_at (side_of entry.step) ran.0) s g (sent_over stun start at past ran.0 ran.1 s g)
      else sent_over stun start at past ran.0 ran.1 s g
