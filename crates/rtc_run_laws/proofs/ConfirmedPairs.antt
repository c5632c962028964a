-- In a settled pair each confirmed channel is open at both sides, if its stream was not negotiated out-of-band.
use Rattle.std.proofs.Common.{◌≡◌, ◌⊎◌, inl, inr, ℕ, Bool, true, List, [], None}
use Rattle.rtc_parts.specs.AssociationWords.{written}
use Rattle.rtc_assoc_state.specs.PlainMeaning.{plain_meaning}
use Rattle.rtc_parts.specs.Draws.{Draws}
use Rattle.rtc_plain_media.specs.declared.plain_media_event.PlainMediaEvent.{PlainMediaEvent}
use Rattle.rtc_sctp_laws.proofs.HeldActs.{IsKeptIf, plain_keeping}
use Rattle.rtc_sctp_laws.proofs.KeptLists.{HasPart}
use Rattle.rtc_sctp_laws.proofs.PlainGenerations.{plain_generations}
use Rattle.rtc_sctp_laws.proofs.ThereStreams.{AreBegunStreams}
use Rattle.rtc_run_history.specs.declared.side.Side.{Side}
use Rattle.rtc_run_history.specs.declared.side.Side.TheVariants.{Left, Right}
use Rattle.rtc_run_history.specs.Native.{are_native}
use Rattle.rtc_run_history.specs.PairState.{rtc_at}
use Rattle.rtc_run_history.specs.Past.{Entry, steps_of}
use Rattle.rtc_run_history.specs.Runs.{Reached}
use Rattle.rtc_run_history.specs.Sides.{other_side}
use Rattle.rtc_run_laws.proofs.KeptStreams.{pair_sound}
use Rattle.rtc_peer_laws.specs.Exchanging.{parts_past}
use Rattle.rtc_peer_laws.specs.JoinedPeers.{ends_of, packet_parts}
use Rattle.rtc_run_laws.specs.NewPairs.{IsNewPair}
use Rattle.rtc_run_laws.specs.PlainPairs.{PairActs, PairExchanges, PlainPair, acts_at, plain_over}
use Rattle.rtc_run_laws.proofs.RunsExchange.{side_all}
use Rattle.rtc_run_laws.proofs.StepsExchange.{plain_over_laws}
use Rattle.rtc_channels.specs.Openings.{channels_wake}
use Rattle.rtc_run_laws.specs.ConfirmedChannels.{WasConfirmed}
use Rattle.rtc_run_laws.specs.SettledPairs.{AreConfirmedInBand, AreInBandChannels, AreInBandStreams, HasNothingDue, IsOpenAtBoth, IsRefusedAlone, IsSettledPair, WaitsForAnswer}
use Rattle.rtc_run_laws.specs.UsesOfRuns.{uses_of}
use Rattle.rtc_run_laws.proofs.AloneSides.{alone_waits}
use Rattle.rtc_run_laws.proofs.OpenSides.{not_closed}
use Rattle.rtc_run_laws.proofs.OwnSides.{refused_here, settled_alone, settled_parted, waits_opening}
use Rattle.rtc_run_laws.proofs.PiecePairs.{left_written, right_written}
use Rattle.rtc_run_laws.proofs.SettledRuns.{heard, kept_streams, settled_idle, told, uses}
use Rattle.rtc_run_laws.proofs.ThereRuns.{SideThere, new_pair_there, run_there}

-- a side wrote to each generation of a stream of which the other one holds a part of a message
side_parts : {N : Type 0} (acts : PairActs) (pair : PlainPair N) → PairExchanges acts pair → (at : Side) (s g : ℕ)
    → HasPart s g (rtc_at at pair).core.sctp.association.inbox.parts → written s g (acts_at (other_side at) acts).association ≡ [] → ⊥
side_parts acts pair x Left s g h none =
    right_written x.joined.moves (ends_of (parts_past acts.left) (packet_parts pair.left) (parts_past acts.right) (packet_parts pair.right))
    x.joined.run s g h none
side_parts acts pair x Right s g h none =
    left_written x.joined.moves (ends_of (parts_past acts.left) (packet_parts pair.left) (parts_past acts.right) (packet_parts pair.right))
    x.joined.run s g h none

module _ {N : Type 0} (draws : Draws N) (stun : List ℕ → Bool) (start : PlainPair N) (past : List (Entry PlainMediaEvent)) (pair : PlainPair N)
    (go : are_native (steps_of past) ≡ true) (ran : Reached (plain_over draws) stun start past pair) (new : IsNewPair draws start)
    (settled : IsSettledPair past pair) where
  there_by : (at : Side) → SideThere (plain_over draws) (plain_over_laws draws) plain_generations IsKeptIf plain_keeping (rtc_at at pair)
      → AreBegunStreams plain_meaning IsKeptIf (rtc_at at pair).core.sctp
  there_by at (inl closed) = absurd (not_closed draws (rtc_at at pair) (settled.peers at).alive closed)
  there_by at (inr begun) = begun

  begun_at : (at : Side) → AreBegunStreams plain_meaning IsKeptIf (rtc_at at pair).core.sctp
  begun_at at =
      there_by at
      (run_there (plain_over draws) (plain_over_laws draws) plain_generations IsKeptIf plain_keeping stun start past pair go ran
      (new_pair_there draws start new) at)

  -- the other side opened a stream whose opening is refused alone
  waits_there : (at : Side) (s : ℕ) → AreInBandStreams s (rtc_at at pair) (rtc_at (other_side at) pair)
      → IsRefusedAlone s (rtc_at at pair) (rtc_at (other_side at) pair)
      → WaitsForAnswer s (rtc_at (other_side at) pair).core.sctp.entries
  waits_there Left s band alone =
      let k = told draws stun start past pair go ran new settled in
      alone_waits draws k.acts.left k.acts.right (uses draws stun start past pair go ran new settled Left)
      (uses draws stun start past pair go ran new settled Right) pair.left pair.right k.left.side k.right.side (settled.peers Left)
      (settled.peers Right) (heard draws stun start past pair go ran new settled Right) (begun_at Left) (pair_sound k.acts pair k.exchange Left)
      (λ t g. side_all k.acts pair Right t g k.exchange) (side_parts k.acts pair k.exchange Left) s
      (kept_streams draws stun start past pair go ran new settled Left s band) alone
  waits_there Right s band alone =
      let k = told draws stun start past pair go ran new settled in
      alone_waits draws k.acts.right k.acts.left (uses draws stun start past pair go ran new settled Right)
      (uses draws stun start past pair go ran new settled Left) pair.right pair.left k.right.side k.left.side (settled.peers Right)
      (settled.peers Left) (heard draws stun start past pair go ran new settled Left) (begun_at Right) (pair_sound k.acts pair k.exchange Right)
      (λ t g. side_all k.acts pair Left t g k.exchange) (side_parts k.acts pair k.exchange Right) s
      (kept_streams draws stun start past pair go ran new settled Right s band) alone

  pub settled_wants_none : (at : Side) → channels_wake plain_meaning (rtc_at at pair).core.channels (rtc_at at pair).core.sctp ≡ None
      → AreConfirmedInBand draws (λ c. WasConfirmed (plain_over draws) stun start at c past pair ran)
      (uses_of (plain_over draws) stun start at past pair ran) (rtc_at at pair)
      (uses_of (plain_over draws) stun start (other_side at) past pair ran) (rtc_at (other_side at) pair)
  settled_wants_none at idle = λ c s confirmed under band channels stand.
      by c s band channels (settled_alone draws stun start past pair go ran new settled at idle c s confirmed under band channels stand)
    where
      by : (c s : ℕ) → AreInBandStreams s (rtc_at at pair) (rtc_at (other_side at) pair)
          → AreInBandChannels s (rtc_at at pair) (rtc_at (other_side at) pair)
          → IsOpenAtBoth draws c (uses_of (plain_over draws) stun start at past pair ran) (rtc_at at pair)
          (uses_of (plain_over draws) stun start (other_side at) past pair ran) (rtc_at (other_side at) pair)
          ⊎ IsRefusedAlone s (rtc_at at pair) (rtc_at (other_side at) pair)
          → IsOpenAtBoth draws c (uses_of (plain_over draws) stun start at past pair ran) (rtc_at at pair)
          (uses_of (plain_over draws) stun start (other_side at) past pair ran) (rtc_at (other_side at) pair)
      by c s band channels (inl opened) = opened
      by c s band channels (inr alone) =
          absurd
          (settled_parted draws stun start past pair go ran new settled at s channels (refused_here s (rtc_at at pair) alone.0)
          (waits_opening s (rtc_at (other_side at) pair).core.sctp.entries (waits_there at s band alone)))

  -- so it is if nothing is due for the channels of the side
  pub settled_due_none : (at : Side) → HasNothingDue at past pair
      → AreConfirmedInBand draws (λ c. WasConfirmed (plain_over draws) stun start at c past pair ran)
      (uses_of (plain_over draws) stun start at past pair ran) (rtc_at at pair)
      (uses_of (plain_over draws) stun start (other_side at) past pair ran) (rtc_at (other_side at) pair)
  settled_due_none at later = λ c s confirmed under band channels stand.
      settled_wants_none at (settled_idle draws stun start past pair go ran new settled at later) c s confirmed under band channels stand
