-- What the calls of a peer beside polls leave of the streams of its channels.
use Rattle.std.specs.Prelude.{ℕ, ◌≡◌, ◌≤◌, ◌⊎◌, ◌++◌, true, List, [], ◌∷◌, Option}
use Rattle.rtc_sctp_entries.specs.declared.stream_entry.StreamEntry.{StreamEntry}
use Rattle.rtc_sctp_entries.specs.Entries.{is_out_of_band}
use Rattle.rtc_sctp_laws.specs.StreamMessages.{StreamMessage}
use Rattle.rtc_sctp_laws.specs.GenerationLaws.{GenerationLaws}
use Rattle.rtc_sctp_laws.specs.MuteGenerations.{HasOneOpen}
use Rattle.rtc_sctp_laws.specs.StreamUses.{HasOpenInBand}
use Rattle.rtc_sctp_laws.specs.RunningStreams.{AreRunning}
use Rattle.rtc_peer_core.specs.declared.phase.Phase.TheVariants.{Closed}
use Rattle.rtc_peer_core.specs.Meanings.{Meanings}
use Rattle.rtc_peer_transport.specs.declared.polled_peer.PolledPeer.{PolledPeer}
use Rattle.rtc_peer_laws.specs.RowsChanged.{RowsChanged}
use Rattle.rtc_peer_laws.specs.ChannelStreams.{AreNumberedChannels, IsGone, IsLiveChannel, IsUsedStream}

-- the one entry that a stream has is of a channel that is negotiated out-of-band
abbrev pub IsSettledStream : List StreamEntry → Type 0
IsSettledStream [] = ⊥
IsSettledStream (entry ∷ entries) = is_out_of_band entry ≡ true

-- A call that wrote these messages and read none: it keeps the use of each stream, each live channel, each that is gone, each open entry,
-- a closed peer, and an association that runs. It opens no stream in-band, and takes back no number that a channel was given. Unless it
-- closes the peer, the changes of channels and of the entries of streams are listed one by one.
pub record CallKeepsStreams {I D S M E X T W N : Type 0} (m : Meanings I D S M E X T W N) (p : PolledPeer I D S M N)
    (wrote : List StreamMessage) (q : PolledPeer I D S M N) : Type 0 where
  pub uses : GenerationLaws m.association → (s : ℕ) (written read : List StreamMessage) → IsUsedStream m s written read p
      → IsUsedStream m s (written ++ wrote) read q
  pub lives : (c s g : ℕ) → AreNumberedChannels p.core.channels → IsLiveChannel c s g p → IsLiveChannel c s g q
  pub numbers : AreNumberedChannels p.core.channels → AreNumberedChannels q.core.channels
  pub gone : (c : ℕ) → IsGone c p.core.channels → IsGone c q.core.channels
  pub closed : p.core.phase ≡ Closed → q.core.phase ≡ Closed
  pub running : AreRunning m.association p.core.sctp → AreRunning m.association q.core.sctp
  pub given : p.core.channels.given ≤ q.core.channels.given
  pub fresh : (s : ℕ) (own : Option ℕ) → HasOpenInBand s own q.core.sctp.entries → HasOpenInBand s own p.core.sctp.entries
  pub holds : (s : ℕ) → HasOneOpen s p.core.sctp.entries → HasOneOpen s q.core.sctp.entries
  pub changed : (q.core.phase ≡ Closed) ⊎ RowsChanged m.association p.core.channels p.core.sctp q.core.channels q.core.sctp

-- A call that wrote these messages and read none: it keeps the use of each stream, each open entry, a closed peer and an association that
-- runs, and takes back no number that a channel was given. A channel that was live is so, or has gone with its row.
pub record CallLeavesStreams {I D S M E X T W N : Type 0} (m : Meanings I D S M E X T W N) (p : PolledPeer I D S M N)
    (wrote : List StreamMessage) (q : PolledPeer I D S M N) : Type 0 where
  pub uses : GenerationLaws m.association → (s : ℕ) (written read : List StreamMessage) → IsUsedStream m s written read p
      → IsUsedStream m s (written ++ wrote) read q
  pub lives : (c s g : ℕ) → AreNumberedChannels p.core.channels → IsLiveChannel c s g p
      → IsLiveChannel c s g q ⊎ IsGone c q.core.channels
  pub numbers : AreNumberedChannels p.core.channels → AreNumberedChannels q.core.channels
  pub gone : (c : ℕ) → IsGone c p.core.channels → IsGone c q.core.channels
  pub closed : p.core.phase ≡ Closed → q.core.phase ≡ Closed
  pub running : AreRunning m.association p.core.sctp → AreRunning m.association q.core.sctp
  pub given : p.core.channels.given ≤ q.core.channels.given
  pub fresh : (s : ℕ) (own : Option ℕ) → HasOpenInBand s own q.core.sctp.entries → HasOpenInBand s own p.core.sctp.entries
  pub holds : (s : ℕ) → HasOneOpen s p.core.sctp.entries → HasOneOpen s q.core.sctp.entries
