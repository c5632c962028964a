-- What a poll of streams did, and what it leaves of the use of each stream.
use Rattle.std.specs.Prelude.{ℕ, ◌≡◌, ◌++◌, ◌⊎◌, true, List, [], Option}
use Rattle.rtc_parts.specs.declared.assoc_event.AssocEvent.{AssocEvent}
use Rattle.rtc_parts.specs.AssociationMeaning.{AssociationMeaning}
use Rattle.rtc_sctp_entries.specs.declared.met.Met.{Met}
use Rattle.rtc_sctp.specs.Streams.{SctpStreams}
use Rattle.rtc_sctp_laws.specs.StreamMessages.{StreamMessage, are_dcep, shown_messages, data_met, packets_met, pushed_packets}
use Rattle.rtc_sctp_laws.specs.StreamActs.{AssociationDid}
use Rattle.rtc_sctp_laws.specs.GenerationLaws.{GenerationLaws}
use Rattle.rtc_sctp_laws.specs.MuteGenerations.{IsMute, StaysMute}
use Rattle.rtc_sctp_laws.specs.StreamUses.{HasOpenInBand, IsLive, LeavesLive, TellsStreamOpen, are_of_generation, IsUsed, LeavesUse}

-- the use of a stream by what was written and read until now
abbrev pub IsUsedOver : {S : Type 0} → AssociationMeaning S → ℕ → (written heard : List StreamMessage) → SctpStreams S → Type 0
IsUsedOver m s written heard p = IsUsed m s written heard p.association p.entries

-- A poll, or a step of one: it gave no packet, took these and polled these events, and wrote only messages that open channels. The data
-- that it returned is what it read. What it sent, with what is pushed back afterwards, is what was pushed back before and what it took.
-- Each use continues by what it wrote and read, and a stream that it reported as open was opened. A live stream stays so unless its close
-- is reported, and what was read of it is of its generation. A stream that is open in-band was so before, or is reported as open. To a
-- stream that is open nothing was written, in the generation that it had.
pub record PollUses {S : Type 0} (m : AssociationMeaning S) (p : SctpStreams S) (met : Met) (q : SctpStreams S) : Type 0 where
  pub outs : List (List ℕ)
  pub tells : List AssocEvent
  pub wrote : List StreamMessage
  pub heard : List StreamMessage
  pub did : AssociationDid m [] outs tells wrote heard p.association q.association
  pub dcep : are_dcep wrote ≡ true
  pub sent_is : packets_met met ++ pushed_packets q.pushed ≡ pushed_packets p.pushed ++ outs
  pub shown_is : data_met met ≡ shown_messages heard
  pub leaves : GenerationLaws m → (s : ℕ) (written read : List StreamMessage) → IsUsedOver m s written read p
      → LeavesUse m met s (written ++ wrote) (read ++ heard) q.association q.entries
  pub lives : (s g : ℕ) → IsLive s g p.entries → LeavesLive met s g q.entries
  pub live_heard : (s g : ℕ) → IsLive s g p.entries → are_of_generation s g heard ≡ true
  pub fresh : (s : ℕ) (own : Option ℕ) → HasOpenInBand s own q.entries → HasOpenInBand s own p.entries ⊎ TellsStreamOpen met s
  pub mute : GenerationLaws m → (s g : ℕ) → IsMute m s g p.association p.entries → StaysMute m s g wrote q.association q.entries
