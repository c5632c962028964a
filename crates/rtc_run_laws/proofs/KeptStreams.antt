-- In a settled pair both associations have each stream in one generation, and neither closed it.
use Rattle.std.proofs.Common.{◌≡◌, ℕ, false, sym}
use Rattle.rtc_assoc_state.specs.Contents.{closed_here, generation_of}
use Rattle.rtc_peer_laws.specs.Exchanging.{parts_past}
use Rattle.rtc_peer_laws.specs.JoinedPeers.{ends_of, packet_parts}
use Rattle.rtc_run_history.specs.declared.side.Side.{Side}
use Rattle.rtc_run_history.specs.declared.side.Side.TheVariants.{Left, Right}
use Rattle.rtc_run_history.specs.PairState.{rtc_at}
use Rattle.rtc_run_history.specs.Sides.{other_side}
use Rattle.rtc_run_laws.specs.PlainPairs.{PairActs, PairExchanges, PlainPair, PlainPolled}
use Rattle.rtc_run_laws.specs.SettledPairs.{AreInBandStreams, IsInBandStream, IsSettledPeer}
use Rattle.rtc_sctp_laws.proofs.BackedRows.{plain_sound}
use Rattle.rtc_run_laws.proofs.ClosingLevels.{Level}
use Rattle.rtc_run_laws.proofs.ClosingMoves.{level_run}
use Rattle.rtc_run_laws.proofs.ClosingPairs.{LevelStream, level_rest}

-- a stream that both sides settled by messages alone, if at all, with what holds of its ends besides
pub record AreKeptStreams {N : Type 0} (stream : ℕ) (p q : PlainPolled N) : Type 0 where
  pub generation_is : generation_of q.core.sctp.association stream ≡ generation_of p.core.sctp.association stream
  pub unclosed_here : closed_here p.core.sctp.association stream ≡ false
  pub unclosed_there : closed_here q.core.sctp.association stream ≡ false
  pub in_band_here : IsInBandStream stream p.core.sctp.entries
  pub in_band_there : IsInBandStream stream q.core.sctp.entries

abbrev pub AreLevelStreams : {N : Type 0} → (p q : PlainPolled N) → Type 0
AreLevelStreams p q = (s : ℕ) → LevelStream p.core.sctp.association q.core.sctp.association s

pub kept_by : {N : Type 0} (s : ℕ) (p q : PlainPolled N) → AreLevelStreams p q → AreInBandStreams s p q → AreKeptStreams s p q
kept_by s p q level band = record {
  generation_is = (level s).generation_is;
  unclosed_here = (level s).here;
  unclosed_there = (level s).there;
  in_band_here = band.here;
  in_band_there = band.there;
}

level_left : {N : Type 0} (acts : PairActs) (pair : PlainPair N) → PairExchanges acts pair → IsSettledPeer pair.left → IsSettledPeer pair.right
    → AreLevelStreams pair.left pair.right
level_left acts pair x here there = λ s.
    level_rest pair.left.core.sctp.association pair.right.core.sctp.association acts.left.association acts.right.association
    (level_run x.joined.moves (ends_of (parts_past acts.left) (packet_parts pair.left) (parts_past acts.right) (packet_parts pair.right)) x.joined.run)
    here.acknowledged there.acknowledged here.lasting there.lasting s

-- no end took an item of another generation than its stream had
pub pair_sound : {N : Type 0} (acts : PairActs) (pair : PlainPair N) → PairExchanges acts pair → (at : Side) → plain_sound (rtc_at at pair).core.sctp.association
pair_sound acts pair x Left =
    Level.left_sound
    (level_run x.joined.moves (ends_of (parts_past acts.left) (packet_parts pair.left) (parts_past acts.right) (packet_parts pair.right)) x.joined.run)
pair_sound acts pair x Right =
    Level.right_sound
    (level_run x.joined.moves (ends_of (parts_past acts.left) (packet_parts pair.left) (parts_past acts.right) (packet_parts pair.right)) x.joined.run)

pub pair_level : {N : Type 0} (acts : PairActs) (pair : PlainPair N) → PairExchanges acts pair → ((at : Side) → IsSettledPeer (rtc_at at pair))
    → (at : Side) → AreLevelStreams (rtc_at at pair) (rtc_at (other_side at) pair)
pair_level acts pair x settled Left = level_left acts pair x (settled Left) (settled Right)
pair_level acts pair x settled Right = λ s.
    let k = level_left acts pair x (settled Left) (settled Right) s in
    record { generation_is = sym k.generation_is; here = k.there; there = k.here }
