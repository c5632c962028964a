-- Behind runs, a buffered amount of 0 says that nothing that a side sent over a channel is unacknowledged, if its last message is not empty:
-- so a reader that was drained has all of it.
use Rattle.std.proofs.Common.{◌≡◌, ◌∙◌, ◌++◌, ℕ, cond, Bool, true, false, List, [], sym, ap}
use Rattle.rtc_parts.specs.AssociationWords.{ended, read, written}
use Rattle.rtc_assoc.specs.Unread.{IsPrefix, unread}
use Rattle.rtc_assoc_state.specs.Contents.{buffered_of, fresh_contents, generation_of, has_unread}
use Rattle.rtc_assoc_state.specs.PlainMeaning.{plain_meaning}
use Rattle.rtc_parts.specs.Among.{Member}
use Rattle.rtc_parts.specs.Draws.{Draws}
use Rattle.rtc_plain_media.specs.declared.plain_media_event.PlainMediaEvent.{PlainMediaEvent}
use Rattle.rtc_sctp_laws.specs.Contents.{contents_by}
use Rattle.rtc_sctp_laws.specs.RunningStreams.{AreRunning}
use Rattle.rtc_sctp_laws.proofs.ContentLemmas.{written_contents}
use Rattle.rtc_peer_transport.specs.ChannelCalls.{bytes_buffered}
use Rattle.rtc_peer_laws.specs.PeerActs.{PeerActs}
use Rattle.rtc_run_history.specs.declared.reply.Reply.{Reply}
use Rattle.rtc_run_history.specs.declared.side.Side.{Side}
use Rattle.rtc_run_history.specs.declared.side.Side.TheVariants.{Left, Right}
use Rattle.rtc_run_history.specs.declared.step.Step.{Step}
use Rattle.rtc_run_history.specs.Native.{are_native}
use Rattle.rtc_run_history.specs.PairState.{rtc_at}
use Rattle.rtc_run_history.specs.Past.{Entry, steps_of}
use Rattle.rtc_run_history.specs.Runs.{Reached, Runs}
use Rattle.rtc_run_history.specs.Sides.{other_side}
use Rattle.rtc_run_laws.specs.AcknowledgedData.{AcknowledgesData, AreAcknowledged, AreAllByAmount, AreDeliveredByAmount, AreDeliveredOverByAmount, ends_with_bytes, has_unacknowledged_data}
use Rattle.rtc_run_laws.specs.ChannelUses.{ChannelUse}
use Rattle.rtc_run_laws.specs.Delivered.{AreDelivering}
use Rattle.rtc_run_laws.specs.SideDrains.{IsSideDrained}
use Rattle.rtc_run_laws.specs.Unannounced.{HaveNumbersLeft}
use Rattle.rtc_run_laws.specs.NewPairs.{IsNewPair}
use Rattle.rtc_run_laws.specs.PlainPairs.{PlainPair, PlainPolled, plain_over}
use Rattle.rtc_run_laws.specs.SentMessages.{sent_over}
use Rattle.rtc_run_laws.specs.ToldMessages.{MessagesTold, told_over}
use Rattle.rtc_run_laws.specs.UsesOfRuns.{reached_by, uses_of}
use Rattle.rtc_run_laws.proofs.KeptInBand.{run_wrote}
use Rattle.rtc_run_laws.proofs.AcknowledgedPairs.{side_data}
use Rattle.rtc_run_laws.proofs.Delivered.{TellsHeard, delivered, stream_same, wrote_sent}
use Rattle.rtc_run_laws.proofs.GotAndSent.{writes_carry}
use Rattle.rtc_run_laws.proofs.LastMessagesHeld.{amount_zero}
use Rattle.rtc_run_laws.proofs.RestedRuns.{run_heard}
use Rattle.rtc_run_laws.proofs.RunsExchange.{side_reads}
use Rattle.rtc_run_laws.proofs.RunsTold.{PairTold, new_pair_told, reached_told}
use Rattle.rtc_run_laws.proofs.StandingSides.{Sent, SideSent, SideStood}
use Rattle.rtc_run_laws.proofs.UseLists.{all_member}

module _ {N : Type 0} (draws : Draws N) where
  -- by what was written to the generation
  written_acknowledged : (acts : PeerActs) (uses : List ChannelUse) (sent : Sent) (told : MessagesTold) (p : PlainPolled N) (x : ChannelUse) (s g : ℕ)
      → SideSent draws acts uses sent told p → Member x uses → generation_of p.core.sctp.association s ≡ g
      → ends_with_bytes (contents_by (written s g acts.association)) ≡ true → bytes_buffered (plain_over draws) s p ≡ 0
      → has_unacknowledged_data s g p.core.sctp.association.outbox.items ≡ false
  written_acknowledged acts uses sent told p x s g h member own ends none =
      let runs : AreRunning plain_meaning p.core.sctp = all_member (λ y. AreRunning plain_meaning p.core.sctp) uses x h.running member in
      let amount : buffered_of p.core.sctp.association s ≡ 0 = sym (ap (λ (b : Bool). cond b (buffered_of p.core.sctp.association s) 0) runs.0) ∙ none in
      amount_zero fresh_contents p.core.sctp.association acts.association s g h.side.went own ends amount

  side_acknowledged : (acts : PeerActs) (uses : List ChannelUse) (sent : Sent) (told : MessagesTold) (p : PlainPolled N) → SideSent draws acts uses sent told p
      → AreAcknowledged draws uses sent p
  side_acknowledged acts uses sent told p h = λ x s member stream own ends none.
      let carries : contents_by (written s x.generation acts.association) ≡ sent s x.generation =
      written_contents s x.generation acts.association h.side.written h.side.wrote_is h.side.told.named_written ∙ h.sent_is s x.generation in
      written_acknowledged acts uses sent told p x s x.generation h member own (ap ends_with_bytes carries ∙ ends) none

  pair_acknowledged : (pair : PlainPair N) (uses : Side → List ChannelUse) (sent : Side → Sent) (told : Side → MessagesTold) (at : Side)
      → PairTold draws pair uses sent told → AreAcknowledged draws (uses at) (sent at) (rtc_at at pair)
  pair_acknowledged pair uses sent told Left h = side_acknowledged h.acts.left (uses Left) (sent Left) (told Left) pair.left h.left
  pair_acknowledged pair uses sent told Right h = side_acknowledged h.acts.right (uses Right) (sent Right) (told Right) pair.right h.right

  pub run_acknowledged : (stun : List ℕ → Bool) (start : PlainPair N) → IsNewPair draws start → (past : List (Entry PlainMediaEvent)) (pair : PlainPair N)
      → are_native (steps_of past) ≡ true → (ran : Reached (plain_over draws) stun start past pair) → (at : Side)
      → AreAcknowledged draws (uses_of (plain_over draws) stun start at past pair ran) (sent_over (plain_over draws) stun start at past pair ran) (rtc_at at pair)
  run_acknowledged stun start new past pair go ran at =
      pair_acknowledged pair (λ z. uses_of (plain_over draws) stun start z past pair ran) (λ z. sent_over (plain_over draws) stun start z past pair ran)
      (λ z. told_over (plain_over draws) stun start z past pair ran) at (reached_told draws stun start past pair go ran (new_pair_told draws start new))

  -- what a reader has of it is all that was written
  amount_delivered : (a b : PeerActs) (us vs : List ChannelUse) (p q : PlainPolled N) (sent : Sent) (told : MessagesTold) (x : SideStood draws a us p)
      (y : SideSent draws b vs sent told q) (k l : ChannelUse) (h : AreDelivering k p l q) → Member k us → Member l vs
      → IsPrefix (read h.reader.stream k.generation a.association) (written h.reader.stream k.generation b.association)
      → (has_unacknowledged_data h.reader.stream k.generation q.core.sctp.association.outbox.items ≡ false
      → ended h.reader.stream k.generation b.association ≡ false → ended h.reader.stream k.generation a.association ≡ false
      → contents_by (read h.reader.stream k.generation a.association ++ unread h.reader.stream k.generation p.core.sctp.association.inbox.unread)
      ≡ contents_by (written h.reader.stream k.generation b.association))
      → has_unread p.core.sctp.association h.reader.stream k.generation ≡ false
      → ends_with_bytes (contents_by (written h.reader.stream k.generation b.association)) ≡ true
      → bytes_buffered (plain_over draws) h.writer.stream q ≡ 0 → k.got ≡ contents_by (written h.reader.stream k.generation b.association)
  amount_delivered a b us vs p q sent told x y k l h mine theirs reads all heard ends amount =
      let same : h.writer.stream ≡ h.reader.stream = stream_same draws k l p q h in
      let none : has_unacknowledged_data h.reader.stream k.generation q.core.sctp.association.outbox.items ≡ false =
      written_acknowledged b vs sent told q l h.reader.stream k.generation y theirs
      (ap (λ (n : ℕ). generation_of q.core.sctp.association n) (sym same) ∙ h.writer.generation ∙ sym h.generation_is)
      ends
      (ap (λ (n : ℕ). bytes_buffered (plain_over draws) n q) (sym same) ∙ amount) in
      delivered draws a b us vs p q x y.side k l h mine theirs reads (all none) heard

  -- of both sides, by what tells of an open channel that nothing of its generation stands unread
  module _ (pair : PlainPair N) (uses : Side → List ChannelUse) (sent : Side → Sent) (told : Side → MessagesTold) (h : PairTold draws pair uses sent told)
      (drained : Type 0) where
    left_amount : TellsHeard draws pair uses sent told h Left drained → (x y : ChannelUse) → Member x (uses Left) → Member y (uses Right) → drained
        → (d : AreDelivering x pair.left y pair.right)
        → ends_with_bytes (contents_by (written d.reader.stream x.generation h.acts.right.association)) ≡ true
        → bytes_buffered (plain_over draws) d.writer.stream pair.right ≡ 0
        → x.got ≡ contents_by (written d.reader.stream x.generation h.acts.right.association)
    left_amount heard x y mine theirs rested d =
        amount_delivered h.acts.left h.acts.right (uses Left) (uses Right) pair.left pair.right (sent Right) (told Right) h.left.side h.right x y d mine theirs
        (side_reads h.acts pair Right d.reader.stream x.generation h.exchange)
        (side_data h.acts pair Right d.reader.stream x.generation h.exchange)
        (heard x mine rested d.reader_in_band d.reader.stream d.reader.of d.there d.reader.generation)

    right_amount : TellsHeard draws pair uses sent told h Right drained → (x y : ChannelUse) → Member x (uses Right) → Member y (uses Left) → drained
        → (d : AreDelivering x pair.right y pair.left)
        → ends_with_bytes (contents_by (written d.reader.stream x.generation h.acts.left.association)) ≡ true
        → bytes_buffered (plain_over draws) d.writer.stream pair.left ≡ 0
        → x.got ≡ contents_by (written d.reader.stream x.generation h.acts.left.association)
    right_amount heard x y mine theirs rested d =
        amount_delivered h.acts.right h.acts.left (uses Right) (uses Left) pair.right pair.left (sent Left) (told Left) h.right.side h.left x y d mine theirs
        (side_reads h.acts pair Left d.reader.stream x.generation h.exchange)
        (side_data h.acts pair Left d.reader.stream x.generation h.exchange)
        (heard x mine rested d.reader_in_band d.reader.stream d.reader.of d.there d.reader.generation)

    pair_delivered : (at : Side) → TellsHeard draws pair uses sent told h at drained
        → AreDeliveredByAmount draws drained (uses at) (rtc_at at pair) (uses (other_side at)) (rtc_at (other_side at) pair)
    pair_delivered Left heard = λ x y mine theirs rested d ends amount.
        let carries : contents_by (written d.over.reader.stream x.generation h.acts.right.association) ≡ y.sent =
        wrote_sent draws h.acts.left h.acts.right (uses Left) (uses Right) pair.left pair.right h.left.side h.right.side x y d.over mine theirs
        (side_reads h.acts pair Right d.over.reader.stream x.generation h.exchange) d.kept in
        left_amount heard x y mine theirs rested d.over (ap ends_with_bytes carries ∙ ends) amount ∙ carries
    pair_delivered Right heard = λ x y mine theirs rested d ends amount.
        let carries : contents_by (written d.over.reader.stream x.generation h.acts.left.association) ≡ y.sent =
        wrote_sent draws h.acts.right h.acts.left (uses Right) (uses Left) pair.right pair.left h.right.side h.left.side x y d.over mine theirs
        (side_reads h.acts pair Left d.over.reader.stream x.generation h.exchange) d.kept in
        right_amount heard x y mine theirs rested d.over (ap ends_with_bytes carries ∙ ends) amount ∙ carries

    pair_delivered_over : (at : Side) → TellsHeard draws pair uses sent told h at drained
        → AreDeliveredOverByAmount draws drained (uses at) (rtc_at at pair) (uses (other_side at)) (rtc_at (other_side at) pair) (sent (other_side at))
    pair_delivered_over Left heard = λ x y mine theirs rested d ends amount.
        let carries : contents_by (written d.reader.stream x.generation h.acts.right.association) ≡ sent Right d.reader.stream x.generation =
        writes_carry draws d.reader.stream x.generation h.acts.right (uses Right) pair.right h.right.side ∙ h.right.sent_is d.reader.stream x.generation in
        left_amount heard x y mine theirs rested d (ap ends_with_bytes carries ∙ ends) amount ∙ carries
    pair_delivered_over Right heard = λ x y mine theirs rested d ends amount.
        let carries : contents_by (written d.reader.stream x.generation h.acts.left.association) ≡ sent Left d.reader.stream x.generation =
        writes_carry draws d.reader.stream x.generation h.acts.left (uses Left) pair.left h.left.side ∙ h.left.sent_is d.reader.stream x.generation in
        right_amount heard x y mine theirs rested d (ap ends_with_bytes carries ∙ ends) amount ∙ carries

  pub run_amounts : (stun : List ℕ → Bool) (start : PlainPair N) → IsNewPair draws start → (past : List (Entry PlainMediaEvent)) (pair : PlainPair N)
      → are_native (steps_of past) ≡ true → (ran : Reached (plain_over draws) stun start past pair) → (at : Side)
      → AreDeliveredByAmount draws (IsSideDrained at past) (uses_of (plain_over draws) stun start at past pair ran) (rtc_at at pair)
      (uses_of (plain_over draws) stun start (other_side at) past pair ran) (rtc_at (other_side at) pair)
  run_amounts stun start new past pair go ran at =
      pair_delivered pair (λ z. uses_of (plain_over draws) stun start z past pair ran) (λ z. sent_over (plain_over draws) stun start z past pair ran)
      (λ z. told_over (plain_over draws) stun start z past pair ran) (reached_told draws stun start past pair go ran (new_pair_told draws start new))
      (IsSideDrained at past) at
      (λ x mine drained band stream of there own. run_heard draws stun start new past pair go ran at x mine drained band stream of there own)

  pub run_amounts_over : (stun : List ℕ → Bool) (start : PlainPair N) → IsNewPair draws start → (past : List (Entry PlainMediaEvent)) (pair : PlainPair N)
      → are_native (steps_of past) ≡ true → (ran : Reached (plain_over draws) stun start past pair) → (at : Side)
      → AreDeliveredOverByAmount draws (IsSideDrained at past) (uses_of (plain_over draws) stun start at past pair ran) (rtc_at at pair)
      (uses_of (plain_over draws) stun start (other_side at) past pair ran) (rtc_at (other_side at) pair)
      (sent_over (plain_over draws) stun start (other_side at) past pair ran)
  run_amounts_over stun start new past pair go ran at =
      pair_delivered_over pair (λ z. uses_of (plain_over draws) stun start z past pair ran) (λ z. sent_over (plain_over draws) stun start z past pair ran)
      (λ z. told_over (plain_over draws) stun start z past pair ran) (reached_told draws stun start past pair go ran (new_pair_told draws start new))
      (IsSideDrained at past) at
      (λ x mine drained band stream of there own. run_heard draws stun start new past pair go ran at x mine drained band stream of there own)

  -- where neither channel was negotiated out-of-band that is what was sent over the writer's
  pub run_all_by_amount : (stun : List ℕ → Bool) (start : PlainPair N) → IsNewPair draws start → (past : List (Entry PlainMediaEvent)) (pair : PlainPair N)
      → are_native (steps_of past) ≡ true → (ran : Reached (plain_over draws) stun start past pair) → start.sdps ≡ []
      → HaveNumbersLeft pair → (at : Side)
      → AreAllByAmount draws (IsSideDrained at past) (uses_of (plain_over draws) stun start at past pair ran) (rtc_at at pair)
      (uses_of (plain_over draws) stun start (other_side at) past pair ran) (rtc_at (other_side at) pair)
  run_all_by_amount stun start new past pair go ran none numbers at = λ x y mine theirs drained h kind their_kind ends empty.
      let is =
      run_wrote draws stun start new past pair go ran none numbers at x y mine theirs h.reader_in_band h.writer_in_band kind their_kind
      h.reader.stream h.reader.of (sym h.stream_is ∙ h.reader.of) h.generation_is in
      run_amounts_over stun start new past pair go ran at x y mine theirs drained h (ap ends_with_bytes is ∙ ends) empty ∙ is

  pub run_acknowledges : (stun : List ℕ → Bool) (start pair : PlainPair N) (steps : List Step) (replies : List (Reply PlainMediaEvent)) → IsNewPair draws start
      → are_native steps ≡ true → (run : Runs (plain_over draws) stun start steps replies pair) → AcknowledgesData draws stun start steps replies pair run
  run_acknowledges stun start pair steps replies new native run =
      let go : are_native (steps_of run.past) ≡ true = ap are_native run.steps_are ∙ native in
      let ran : Reached (plain_over draws) stun start run.past pair = reached_by (plain_over draws) stun start run.past pair run.went in
      record {
        acknowledged = λ at. run_acknowledged stun start new run.past pair go ran at;
        delivered = λ at. run_amounts stun start new run.past pair go ran at;
        delivered_over = λ at. run_amounts_over stun start new run.past pair go ran at;
        all_got = λ none numbers at. run_all_by_amount stun start new run.past pair go ran none numbers at;
      }
