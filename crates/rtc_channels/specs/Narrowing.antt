-- What a call leaves that cleared a mark of its wake.
use Rattle.std.specs.Prelude.{◌≡◌}
use Rattle.rtc_parts.specs.AssociationMeaning.{AssociationMeaning}
use Rattle.rtc_sctp.specs.Streams.{SctpStreams}
use Rattle.rtc_sctp.specs.Calls.{streams_wake}
use Rattle.rtc_sctp.specs.Polls.{PollsStreams}
use Rattle.rtc_channels.specs.Channels.{Channels}
use Rattle.rtc_channels.specs.Openings.{channels_wake}

module _ {S : Type 0} (m : AssociationMeaning S) where
  -- a poll of the streams after the call gives and leaves what one before it does
  pub record LeavesPolls (p p' : SctpStreams S) : Type 0 where
    pub after : (r : _) (q : SctpStreams S) → PollsStreams m p' r q → PollsStreams m p r q
    pub before : (r : _) (q : SctpStreams S) → PollsStreams m p r q → PollsStreams m p' r q

  -- the moments that streams and channels want are as they were
  pub record LeavesDeadlines (held : Channels) (p : SctpStreams S) (held' : Channels) (p' : SctpStreams S) : Type 0 where
    pub streams : streams_wake m p' ≡ streams_wake m p
    pub channels : channels_wake m held' p' ≡ channels_wake m held p
