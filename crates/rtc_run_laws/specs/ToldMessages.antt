-- The messages that were reported to a side of its channels in a run, by the stream that the channel had and the generation of this.
use Rattle.std.specs.Prelude.{ℕ, ◌==◌, ◌&&◌, ◌++◌, if◌then◌else◌, Bool, List, [], ◌∷◌}
use Rattle.rtc_channels.specs.Channels.{is_of_stream}
use Rattle.rtc_peer_core.specs.Meanings.{Meanings}
use Rattle.rtc_peer_transport.specs.ChannelCalls.{stream_under}
use Rattle.rtc_peer_transport.specs.declared.channel_data.ChannelData.{ChannelData as ChannelMessage}
use Rattle.rtc_peer_transport.specs.declared.event.Event.{Event}
use Rattle.rtc_peer_transport.specs.declared.event.Event.TheVariants.{ChannelData}
use Rattle.rtc_peer_transport.specs.declared.polled_peer.PolledPeer.{PolledPeer}
use Rattle.rtc_run_history.specs.declared.shown.Shown.{Shown}
use Rattle.rtc_run_history.specs.declared.shown.Shown.TheVariants as shows
use Rattle.rtc_run_history.specs.declared.side.Side.{Side}
use Rattle.rtc_run_history.specs.PairState.{PairState, addr_at, rtc_at}
use Rattle.rtc_run_history.specs.Past.{Entry}
use Rattle.rtc_run_history.specs.Runs.{Reached}
use Rattle.rtc_run_history.specs.Sides.{same_side, side_of, other_side}
use Rattle.rtc_run_laws.specs.PollsOfRuns.{by_step}

-- messages, each with whether it is binary, by the channel, its stream and the generation of this
abbrev pub MessagesTold : Type 0
MessagesTold = (channel stream generation : ℕ) → List (Bool × List ℕ)

module _ {I D S M E X T W N : Type 0} (m : Meanings I D S M E X T W N) where
  -- whether a message is of a channel, which at the peer as the poll left it has the stream, in the generation
  abbrev pub is_told_of : ChannelMessage → PolledPeer I D S M N → (channel stream generation : ℕ) → Bool
  is_told_of message q c s g =
      (c == message.id)
      && (is_of_stream s (stream_under c q.core.channels) && (m.association.generation q.core.sctp.association s == g))

  -- one message more was reported
  abbrev pub told_event : Event E → PolledPeer I D S M N → MessagesTold → MessagesTold
  told_event (ChannelData message) q told =
      λ c s g. if is_told_of message q c s g then told c s g ++ (message.binary, message.bytes) ∷ [] else told c s g
  told_event event q told = told

  abbrev pub told_shown : Shown E → PolledPeer I D S M N → MessagesTold → MessagesTold
  told_shown (shows.Event event) q told = told_event event q told
  told_shown (shows.Timeout moment reason) q told = told
  told_shown (shows.Packet number len) q told = told

  -- The messages that polls of a side reported of a channel over the whole run, while it had a stream and this a generation.
  abbrev pub told_over : (stun : List ℕ → Bool) (start : PairState I D S M N) (at : Side) (past : List (Entry E))
      (pair : PairState I D S M N) → Reached m stun start past pair → MessagesTold
  told_over stun start at [] pair ran = λ c s g. []
  told_over stun start at (entry ∷ past) pair ran =
      if same_side (side_of entry.step) at
      then by_step m told_shown stun (addr_at (other_side (side_of entry.step)) ran.0) (addr_at (side_of entry.step) ran.0) entry.step
      (rtc_at (side_of entry.step) ran.0) ran.0.sdps ran.0.packets entry.outcome entry.table
      (rtc_at (side_of entry.step) pair) pair.sdps pair.packets ran.2.performs.acts (told_over stun start at past ran.0 ran.1)
      else told_over stun start at past ran.0 ran.1
