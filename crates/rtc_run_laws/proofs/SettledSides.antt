-- The other end of a channel that was announced and stays open, where nothing is under way any more.
use Rattle.std.proofs.Common.{◌≡◌, ◌∙◌, ◌⊎◌, ◌++◌, ◌∷◌, ◌||◌, ℕ, Bool, true, false, List, [], append-nil, map, Option, Some, inl, inr, refl, sym, ap, subst, arith}
use Rattle.std.proofs.lemmas.Bool.{eqb-true}
use Rattle.rtc_parts.specs.AssociationWords.{AssociationMessage, ended, read, written}
use Rattle.rtc_parts.specs.Among.{Member}
use Rattle.rtc_assoc.specs.Unread.{IsPrefix, unread}
use Rattle.rtc_assoc_state.proofs.PlainLaws.{plain_laws}
use Rattle.rtc_assoc_state.specs.Contents.{closed_here, fresh_contents, generation_of, has_unread, is_ending}
use Rattle.rtc_assoc_state.specs.Outbox.{has_unacknowledged}
use Rattle.rtc_assoc_state.specs.PlainMeaning.{plain_meaning}
use Rattle.rtc_parts.specs.Draws.{Draws}
use Rattle.rtc_sctp_entries.specs.declared.stream_entry.StreamEntry.{StreamEntry}
use Rattle.rtc_sctp_entries.specs.Entries.{fits_generation}
use Rattle.rtc_sctp_laws.specs.StreamUses.{AreUsedIn, HasOpenInBand, any_dcep, begins_with_dcep, entries_of, is_spent_stream, messages_of}
use Rattle.rtc_sctp_laws.specs.Contents.{numbered_message}
use Rattle.rtc_sctp_laws.proofs.ContentLemmas.{read_are, written_are}
use Rattle.rtc_sctp_laws.proofs.PlainGenerations.{plain_generations}
use Rattle.rtc_peer_laws.specs.ChannelStreams.{AreNumbersGiven}
use Rattle.rtc_peer_laws.specs.Drained.{AreHeard}
use Rattle.rtc_peer_laws.specs.PeerActs.{PeerActs}
use Rattle.rtc_run_laws.specs.PlainPairs.{PlainPolled, plain_over}
use Rattle.rtc_run_laws.specs.ChannelUses.{ChannelUse}
use Rattle.rtc_run_laws.specs.OpenUses.{AreJoinedUses, StaysOpen}
use Rattle.rtc_run_laws.specs.SettledPairs.{IsInBandStream, IsSettledPeer, NoneRolledBack}
use Rattle.rtc_run_laws.proofs.AllHanded.{none_unread, not_ended, side_unended}
use Rattle.rtc_run_laws.proofs.AnnouncedStreams.{AnnouncedUnlessClosed, HasUseOver, found}
use Rattle.rtc_run_laws.proofs.StandingSides.{SideStood}
use Rattle.rtc_run_laws.proofs.UseLists.{all_member, named_kept, none_numbered}
use Rattle.rtc_run_laws.proofs.UsesTold.{InBandTold, StandsSo, UseOpened, UsedUnlessClosed, use_opened}
use Rattle.rtc_run_laws.proofs.HeardOpenings.{entry_among, no_messages, none_has, not_idle, nothing_first, open_heard, reads_dcep}
use Rattle.rtc_run_laws.proofs.OpenSides.{not_closed, use_stays}

some_is : (a b : ℕ) → Some a ≡ Some b → a ≡ b
some_is a b h = cc

module _ {N : Type 0} (draws : Draws N) where
  -- one that the other side announced over the same generation of the same stream, and that stays open
  pub record OtherUse (k : ChannelUse) (p : PlainPolled N) (vs : List ChannelUse) (q : PlainPolled N) : Type 0 where
    pub other : ChannelUse
    pub member : Member other vs
    pub joined : AreJoinedUses (plain_over draws) k p other q

  module _ (a b : PeerActs) (us vs : List ChannelUse) (p q : PlainPolled N) (x : SideStood draws a us p) (y : SideStood draws b vs q)
      (here : IsSettledPeer p) (there : IsSettledPeer q)
      (heard : AreHeard plain_meaning q.core.sctp.association q.core.sctp.entries)
      (reads : (s g : ℕ) → IsPrefix (read s g a.association) (written s g b.association))
      (all : (s g : ℕ) → ended s g a.association ≡ false → ended s g b.association ≡ false
      → has_unacknowledged s p.core.sctp.association.outbox.items ≡ false
      → read s g b.association ++ unread s g q.core.sctp.association.inbox.unread ≡ written s g a.association) where
    module _ (k : ChannelUse) (mine : Member k us) (in_band : k.in_band ≡ true) (h : StaysOpen (plain_over draws) k p)
        (band : IsInBandStream h.stream q.core.sctp.entries)
        (generation_is : generation_of q.core.sctp.association h.stream ≡ k.generation) (unclosed : closed_here q.core.sctp.association h.stream ≡ false)
        (stand : NoneRolledBack h.stream vs q) where
      told : UseOpened x.written x.read k.stream k.generation k.got
      told =
          use_opened (plain_over draws) x.written x.read p k
          (all_member (InBandTold (plain_over draws) x.written x.read p) us k x.told.each mine in_band)

      same : told.stream ≡ h.stream
      same = some_is told.stream h.stream (sym told.stream_is ∙ h.of)

      free : is_spent_stream plain_meaning h.stream q.core.sctp.association ≡ false
      free = ap (λ (c : Bool). c || is_ending q.core.sctp.association) unclosed ∙ there.lasting

      wrote_some : messages_of h.stream k.generation y.written ≡ [] → ⊥
      wrote_some none =
          no_messages told.before told.last told.rest
          (none_numbered ((told.before ++ told.last ∷ []) ++ told.rest)
          (ap (map numbered_message) (sym told.read_is)
          ∙ ap (λ (n : ℕ). map numbered_message (messages_of n k.generation x.read)) same
          ∙ sym (read_are h.stream k.generation a.association x.read x.read_is)
          ∙ nothing_first (read h.stream k.generation a.association) (reads h.stream k.generation).rest
          ((reads h.stream k.generation).is
          ∙ written_are h.stream k.generation b.association y.written y.wrote_is
          ∙ ap (map numbered_message) none)))

      all_read : has_unread q.core.sctp.association h.stream k.generation ≡ false
          → read h.stream k.generation b.association ≡ written h.stream k.generation a.association
      all_read none =
          sym (append-nil (read h.stream k.generation b.association))
          ∙ ap (λ (r : List AssociationMessage). read h.stream k.generation b.association ++ r)
          (sym (none_unread h.stream k.generation q.core.sctp.association.inbox.unread none))
          ∙ all h.stream k.generation (side_unended draws a us p k x h)
          (not_ended plain_meaning plain_laws plain_generations h.stream k.generation b.association fresh_contents q.core.sctp.association y.went
          generation_is free)
          (none_has h.stream p.core.sctp.association.outbox.items here.acknowledged)

      read_opening : has_unread q.core.sctp.association h.stream k.generation ≡ false → any_dcep (messages_of h.stream k.generation y.read) ≡ true
      read_opening none =
          reads_dcep (messages_of h.stream k.generation y.read) (messages_of h.stream k.generation x.written)
          (named_kept h.stream k.generation y.read y.told.named_read) (named_kept h.stream k.generation x.written x.told.named_written)
          (sym (read_are h.stream k.generation b.association y.read y.read_is)
          ∙ all_read none
          ∙ written_are h.stream k.generation a.association x.written x.wrote_is)
          (ap (λ (n : ℕ). begins_with_dcep (messages_of n k.generation x.written)) (sym same) ∙ told.begins)

      -- by the one entry of the stream
      by_use : (l : ChannelUse) → Member l vs → l.in_band ≡ true → l.stream ≡ Some h.stream → l.generation ≡ k.generation → OtherUse k p vs q
      by_use l theirs banded of g =
          let t =
          (all_member (InBandTold (plain_over draws) y.written y.read q) vs l y.told.each theirs banded).kept
          (stand l theirs of (g ∙ sym generation_is)) in
          record {
            other = l;
            member = theirs;
            joined = record {
              reader_in_band = in_band;
              writer_in_band = banded;
              reader = h;
              writer =
                  (use_stays draws q l t.rest h.stream of there y.told.numbers (generation_is ∙ sym g) free
                  (subst (λ (n : ℕ). StandsSo (plain_over draws) l.channel n l.generation l.got t.rest q) (some_is t.stream h.stream (sym t.stream_is ∙ of)) t.stands)).stays;
              stream_is = h.of ∙ sym of;
              generation_is = sym g;
            };
          }

      by_announced : (e : StreamEntry) → fits_generation e.generation (generation_of q.core.sctp.association h.stream) ≡ true
          → HasOpenInBand h.stream e.generation q.core.sctp.entries → AnnouncedUnlessClosed (plain_over draws) vs q → OtherUse k p vs q
      by_announced e fits opened (inl closed) = absurd (not_closed draws q there.alive closed)
      by_announced e fits opened (inr announced) = by (announced h.stream e.generation opened)
        where
          by : HasUseOver h.stream e.generation vs ⊎ AreNumbersGiven q.core.channels → OtherUse k p vs q
          by (inr full) = let left = there.numbers in absurd (omega (arith, left, full))
          by (inl over) =
              let it = found h.stream e.generation vs over in
              by_use it.use_over it.member it.is_over.0 it.is_over.1
              (eqb-true it.use_over.generation (generation_of q.core.sctp.association h.stream)
              (ap (λ (o : Option ℕ). fits_generation o (generation_of q.core.sctp.association h.stream)) (sym it.is_over.2) ∙ fits)
              ∙ generation_is)

      by_entries : (l : List StreamEntry) → entries_of h.stream q.core.sctp.entries ≡ l
          → AreUsedIn plain_meaning l h.stream q.core.sctp.association y.written y.read → OtherUse k p vs q
      by_entries [] is used =
          absurd
          (not_idle plain_meaning h.stream q.core.sctp.association y.written y.read
          (subst (λ (n : ℕ). messages_of h.stream n y.written ≡ [] → ⊥) (sym generation_is) wrote_some) free _ used)
      by_entries (e ∷ []) is used =
          let among = entry_among plain_meaning q.core.sctp.association h.stream q.core.sctp.entries e [] is heard band in
          let open_now =
          open_heard plain_meaning h.stream q.core.sctp.association y.written y.read
          (subst (λ (n : ℕ). messages_of h.stream n y.written ≡ [] → ⊥) (sym generation_is) wrote_some) free e among.id_is
          (subst (λ (n : ℕ). has_unread q.core.sctp.association h.stream n ≡ false → any_dcep (messages_of h.stream n y.read) ≡ true)
          (sym generation_is) read_opening)
          used among.heard in
          by_announced e open_now.1 (among.in_band e.generation refl open_now.0) y.told.announced
      by_entries (e ∷ f ∷ l) is used = absurd used

      by_side : UsedUnlessClosed (plain_over draws) y.written y.read q → OtherUse k p vs q
      by_side (inl closed) = absurd (not_closed draws q there.alive closed)
      by_side (inr uses) = by_entries (entries_of h.stream q.core.sctp.entries) refl (uses h.stream).used

      pub other_use : OtherUse k p vs q
      other_use = by_side y.told.used
