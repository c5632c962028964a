-- A channel that is open at one side of a settled pair is open at both.
use Rattle.std.proofs.Common.{◌≡◌, ◌∙◌, ◌++◌, ℕ, false, List, Some, sym, ap, subst}
use Rattle.rtc_parts.specs.AssociationWords.{ended, read, written}
use Rattle.rtc_assoc.specs.Unread.{IsPrefix, unread}
use Rattle.rtc_assoc_state.specs.Contents.{closed_here, generation_of}
use Rattle.rtc_assoc_state.specs.Outbox.{has_unacknowledged}
use Rattle.rtc_assoc_state.specs.PlainMeaning.{plain_meaning}
use Rattle.rtc_peer_laws.specs.Drained.{AreHeard}
use Rattle.rtc_peer_laws.specs.PeerActs.{PeerActs}
use Rattle.rtc_parts.specs.Draws.{Draws}
use Rattle.rtc_run_laws.specs.PlainPairs.{PlainPolled, plain_over}
use Rattle.rtc_run_laws.specs.ChannelUses.{ChannelUse}
use Rattle.rtc_run_laws.specs.HandedOut.{AreAllHandedOut}
use Rattle.rtc_run_laws.specs.OpenUses.{AreJoinedUses}
use Rattle.rtc_run_laws.specs.SettledPairs.{AreOpenAtBoth, IsInBandStream, NoneRolledBack}
use Rattle.rtc_run_laws.specs.SettledPairs.{IsSettledPeer}
use Rattle.rtc_run_laws.proofs.HeardOpenings.{none_has}
use Rattle.rtc_run_laws.proofs.OpenSides.{own_use}
use Rattle.rtc_run_laws.proofs.KeptStreams.{AreKeptStreams, AreLevelStreams, kept_by}
use Rattle.rtc_run_laws.proofs.SettledSides.{other_use}
use Rattle.rtc_run_laws.proofs.StandingSides.{SideStood}

module _ {N : Type 0} (draws : Draws N) where
  -- the same channels, seen from the other side
  abbrev joined_back : (x : ChannelUse) (p : PlainPolled N) (y : ChannelUse) (q : PlainPolled N) → AreJoinedUses (plain_over draws) x p y q
      → AreJoinedUses (plain_over draws) y q x p
  joined_back x p y q h = record {
    reader_in_band = h.writer_in_band;
    writer_in_band = h.reader_in_band;
    reader = h.writer;
    writer = h.reader;
    stream_is = sym h.stream_is;
    generation_is = sym h.generation_is;
  }

  pub side_open : (a b : PeerActs) (us vs : List ChannelUse) (p q : PlainPolled N) → SideStood draws a us p → SideStood draws b vs q
      → IsSettledPeer p → IsSettledPeer q → AreHeard plain_meaning p.core.sctp.association p.core.sctp.entries
      → AreHeard plain_meaning q.core.sctp.association q.core.sctp.entries → AreAllHandedOut draws (Unit {0}) us p vs q → AreAllHandedOut draws (Unit {0}) vs q us p
      → ((s g : ℕ) → IsPrefix (read s g a.association) (written s g b.association))
      → ((s g : ℕ) → ended s g a.association ≡ false → ended s g b.association ≡ false
      → has_unacknowledged s p.core.sctp.association.outbox.items ≡ false
      → read s g b.association ++ unread s g q.core.sctp.association.inbox.unread ≡ written s g a.association)
      → AreLevelStreams p q
      → AreOpenAtBoth draws us p vs q
  side_open a b us vs p q x y here there heard others_heard got sent reads all level = λ c s shown band stand.
      let kept : AreKeptStreams s p q = kept_by s p q level band in
      let mine = own_use draws a us p x here heard c s kept.in_band_here shown kept.unclosed_here stand.here in
      let same : s ≡ mine.stays.stream = some_is s mine.stays.stream (sym mine.stream_is ∙ mine.stays.of) in
      let it =
      other_use draws a b us vs p q x y here there others_heard reads all mine.use_of mine.member mine.in_band mine.stays
      (subst (λ (n : ℕ). IsInBandStream n q.core.sctp.entries) same kept.in_band_there)
      (ap (λ (n : ℕ). generation_of q.core.sctp.association n) (sym same) ∙ kept.generation_is ∙ sym mine.generation_is)
      (ap (λ (n : ℕ). closed_here q.core.sctp.association n) (sym same) ∙ kept.unclosed_there)
      (subst (λ (n : ℕ). NoneRolledBack n vs q) same stand.there) in
      record {
        own = mine.use_of;
        member = mine.member;
        channel_is = mine.channel_is;
        other = it.other;
        other_member = it.member;
        joined = it.joined;
        got =
            got mine.use_of it.other mine.member it.member tt it.joined
            (none_has it.joined.writer.stream q.core.sctp.association.outbox.items there.acknowledged);
        sent =
            sent it.other mine.use_of it.member mine.member tt (joined_back mine.use_of p it.other q it.joined)
            (none_has it.joined.reader.stream p.core.sctp.association.outbox.items here.acknowledged);
      }
    where
      some_is : (n k : ℕ) → Some n ≡ Some k → n ≡ k
      some_is n k h = cc
