-- All that was sent is got where neither end closed the generation, also where the writer is closed.
use Rattle.std.proofs.Common.{◌≡◌, ◌≢◌, ◌≤◌, ◌<◌, ◌∙◌, ◌⊎◌, ◌++◌, ◌∷◌, ◌==◌, ◌&&◌, ◌||◌, ℕ, Bool, true, false, true≢false, List, [], append-nil, Some, None, inl, inr, refl, sym, ap, subst, arith}
use Rattle.std.proofs.lemmas.Bool.{eqb-true, eqb-false}
use Rattle.rtc_parts.specs.AssociationActs.{AssociationAct, Acted, Ended, Given, Moved}
use Rattle.rtc_parts.specs.AssociationLaws.{AssociationLaws}
use Rattle.rtc_parts.specs.AssociationMeaning.{AssociationMeaning}
use Rattle.rtc_parts.specs.AssociationWords.{AssociationMessage, ended, read, written}
use Rattle.rtc_parts.proofs.AssociationLemmas.{generation_rises}
use Rattle.rtc_parts.specs.Among.{Member}
use Rattle.rtc_parts.specs.Draws.{Draws}
use Rattle.rtc_assoc.specs.Unread.{IsPrefix, unread}
use Rattle.rtc_assoc_state.proofs.PlainLaws.{plain_laws}
use Rattle.rtc_assoc_state.specs.Contents.{closed_here, fresh_contents, generation_of, has_unread}
use Rattle.rtc_assoc_state.specs.Outbox.{has_unacknowledged}
use Rattle.rtc_assoc_state.specs.PlainMeaning.{plain_meaning}
use Rattle.rtc_sctp_laws.specs.Contents.{contents_by, contents_of}
use Rattle.rtc_sctp_laws.specs.GenerationLaws.{GenerationLaws, KeepsGeneration}
use Rattle.rtc_sctp_laws.specs.StreamMessages.{StreamMessage}
use Rattle.rtc_sctp_laws.specs.StreamUses.{begins_with_dcep, messages_of}
use Rattle.rtc_sctp_laws.proofs.PlainGenerations.{plain_generations}
use Rattle.rtc_peer_transport.specs.ChannelCalls.{open_stream_under}
use Rattle.rtc_peer_laws.specs.PeerActs.{PeerActs}
use Rattle.rtc_peer_laws.proofs.ChannelsOver.{none_under}
use Rattle.rtc_run_history.specs.PairState.{rtc_at}
use Rattle.rtc_run_history.specs.Sides.{other_side}
use Rattle.rtc_run_history.specs.declared.side.Side.{Side}
use Rattle.rtc_run_history.specs.declared.side.Side.TheVariants.{Left, Right}
use Rattle.rtc_run_laws.specs.ChannelUses.{ChannelUse}
use Rattle.rtc_run_laws.specs.Delivered.{AreAllDelivered, AreAllDeliveredOver, AreDelivering}
use Rattle.rtc_run_laws.specs.PlainPairs.{PlainPair, PlainPolled, plain_over}
use Rattle.rtc_run_laws.specs.ToldMessages.{MessagesTold}
use Rattle.rtc_run_laws.proofs.AllHanded.{none_unread, open_told}
use Rattle.rtc_run_laws.proofs.GotAndSent.{opens_first, reads_carry, writes_carry}
use Rattle.rtc_run_laws.proofs.OpenStreams.{open_free, open_placed}
use Rattle.rtc_run_laws.proofs.RunsExchange.{side_all, side_reads}
use Rattle.rtc_run_laws.proofs.RunsTold.{PairTold}
use Rattle.rtc_run_laws.proofs.StandingSides.{Sent, SideStood}
use Rattle.rtc_run_laws.proofs.UseLists.{all_member}
use Rattle.rtc_run_laws.proofs.UsesTold.{HasGone, InBandTold, IsOver, Lives, StandsSo, UseOpened, UseStands, UseTold, opened_of, use_opened}

-- ---- generations that this end closed

both_true : (c d : Bool) → (c && d) ≡ true → (c ≡ true) × (d ≡ true)
both_true true true f = (refl, refl)
both_true true false f = absurd (true≢false (sym f))
both_true false d f = absurd (true≢false (sym f))

module _ {S : Type 0} (m : AssociationMeaning S) (w : AssociationLaws m) (v : GenerationLaws m) where
  -- a stream came to a later generation, or this end closed it in this one
  abbrev IsShut : (s g : ℕ) → S → Type 0
  IsShut s g a = (g < m.generation a s) ⊎ ((m.generation a s ≡ g) × (m.closed_here a s ≡ true))

  kept_shut : (s g : ℕ) (a b : S) → KeepsGeneration m s a b → m.generation a s ≡ g → m.closed_here a s ≡ true → IsShut s g b
  kept_shut s g a b k e h = inr (k.generation_is ∙ e, k.closed h)

  act_shut : (s g : ℕ) (a b : S) (act : AssociationAct) → Acted m a act b → IsShut s g a → IsShut s g b
  act_shut s g a b act h (inl k) = let up = generation_rises m w a b act s h in inl (omega (arith, up, k))
  act_shut s g a b (Given bytes) h (inr k) = by (m.generation b s == m.generation a s) refl
    where
      by : (c : Bool) → (m.generation b s == m.generation a s) ≡ c → IsShut s g b
      by true c = kept_shut s g a b (v.packets_keep s h.0 bytes a b h.1.0 h.1.1 (eqb-true (m.generation b s) (m.generation a s) c)) k.0 k.1
      by false c =
          let other : m.generation b s ≢ m.generation a s = eqb-false (m.generation b s) (m.generation a s) c in
          let up : m.generation a s ≤ m.generation b s = generation_rises m w a b (Given bytes) s h in
          let own : m.generation a s ≡ g = k.0 in
          inl (omega (arith, up, other, own))
  act_shut s g a b act h (inr k) = kept_shut s g a b (v.acts_keep s a b act refl h) k.0 k.1

  acts_shut : (s g : ℕ) (acts : List AssociationAct) (a b : S) → Moved m a acts b → IsShut s g a → IsShut s g b
  acts_shut s g [] a b h k = subst (λ (x : S). IsShut s g x) (sym h) k
  acts_shut s g (act ∷ acts) a b h k = acts_shut s g acts h.0 b h.1.1 (act_shut s g a h.0 act h.1.0 k)

  ended_shut : (s g : ℕ) (acts : List AssociationAct) (a b : S) → Moved m a acts b → ended s g acts ≡ true → IsShut s g b
  ended_shut s g [] a b h e = absurd (true≢false (sym e))
  ended_shut s g (Ended t k ∷ acts) a b h e = by ((t == s) && (k == g)) refl e (ended_shut s g acts h.0 b h.1.1)
    where
      here : t ≡ s → k ≡ g → IsShut s g h.0
      here same own =
          let closed : m.closed_here h.0 s ≡ true = ap (m.closed_here h.0) (sym same) ∙ v.ends t a h.0 h.1.0.0 in
          let kept : m.generation h.0 s ≡ m.generation a s = (v.acts_keep s a h.0 (Ended t k) refl h.1.0).generation_is in
          inr (kept ∙ ap (m.generation a) (sym same) ∙ sym h.1.0.1 ∙ own, closed)

      by : (c : Bool) → ((t == s) && (k == g)) ≡ c → (c || ended s g acts) ≡ true → (ended s g acts ≡ true → IsShut s g b) → IsShut s g b
      by true f l rest = let same = both_true (t == s) (k == g) f in acts_shut s g acts h.0 b h.1.1 (here (eqb-true t s same.0) (eqb-true k g same.1))
      by false f l rest = rest l
  ended_shut s g (act ∷ acts) a b h e = ended_shut s g acts h.0 b h.1.1 e

  not_shut : (s g : ℕ) (a : S) → m.generation a s ≡ g → m.closed_here a s ≡ false → IsShut s g a → ⊥
  not_shut s g a own unclosed (inl later) = omega (arith, own, later)
  not_shut s g a own unclosed (inr shut) = true≢false (sym shut.1 ∙ unclosed)

  never_ended : (s g : ℕ) (acts : List AssociationAct) (a b : S) → Moved m a acts b → m.generation b s ≡ g → m.closed_here b s ≡ false
      → ended s g acts ≡ false
  never_ended s g acts a b h own unclosed = by (ended s g acts) refl
    where
      by : (c : Bool) → ended s g acts ≡ c → c ≡ false
      by true e = absurd (not_shut s g b own unclosed (ended_shut s g acts a b h e))
      by false e = refl

no_some : (n : ℕ) → None ≡ Some n → ⊥
no_some n h = cc

some_is : (n k : ℕ) → Some n ≡ Some k → n ≡ k
some_is n k h = cc

-- ---- what was delivered

module _ {N : Type 0} (draws : Draws N) where
  all_told : (p : PlainPolled N) (c s g stream : ℕ) (got : List (Bool × List ℕ)) (rest : List StreamMessage)
      → open_stream_under c p ≡ Some stream → StandsSo (plain_over draws) c s g got rest p → got ≡ contents_of rest
  all_told p c s g stream got rest there (Lives live is) = is
  all_told p c s g stream got rest there (HasGone gone past k) =
      absurd (no_some stream (sym (none_under c p.core.channels.rows gone.1) ∙ open_placed c stream p there))
  all_told p c s g stream got rest there (IsOver closed k) = absurd (open_free c stream p there closed)

  pub stream_same : (k l : ChannelUse) (p q : PlainPolled N) (h : AreDelivering k p l q) → h.writer.stream ≡ h.reader.stream
  stream_same k l p q h = some_is h.writer.stream h.reader.stream (sym h.writer.of ∙ sym h.stream_is ∙ h.reader.of)

  module _ (a b : PeerActs) (us vs : List ChannelUse) (p q : PlainPolled N) (x : SideStood draws a us p) (y : SideStood draws b vs q) (k l : ChannelUse)
      (h : AreDelivering k p l q) (mine : Member k us) (theirs : Member l vs)
      (reads : IsPrefix (read h.reader.stream k.generation a.association) (written h.reader.stream k.generation b.association)) where
    abbrev s : ℕ
    s = h.reader.stream

    there_open : ended s k.generation b.association ≡ false
    there_open =
        never_ended plain_meaning plain_laws plain_generations s k.generation b.association fresh_contents q.core.sctp.association y.went
        (ap (λ (n : ℕ). generation_of q.core.sctp.association n) (sym (stream_same k l p q h)) ∙ h.writer.generation ∙ sym h.generation_is)
        (ap (λ (n : ℕ). closed_here q.core.sctp.association n) (sym (stream_same k l p q h)) ∙ h.writer.unclosed)

    here_open : ended s k.generation a.association ≡ false
    here_open =
        never_ended plain_meaning plain_laws plain_generations s k.generation a.association fresh_contents p.core.sctp.association x.went h.reader.generation
        h.reader.unclosed

    here_told : UseTold (plain_over draws) x.written x.read p k.channel k.stream k.generation k.sent k.got
    here_told =
        open_told draws x.written x.read p k s h.there
        (all_member (InBandTold (plain_over draws) x.written x.read p) us k x.told.each mine h.reader_in_band)

    there_stands : UseStands (plain_over draws) y.written y.read q l
    there_stands = all_member (InBandTold (plain_over draws) y.written y.read q) vs l y.told.each theirs h.writer_in_band

    -- what was written to the generation carries what was sent, if the channel was not rolled back
    pub wrote_sent : l.rolled_back ≡ false → contents_by (written s k.generation b.association) ≡ l.sent
    wrote_sent left = by (there_stands.kept left)
      where
        by : UseTold (plain_over draws) y.written y.read q l.channel l.stream l.generation l.sent l.got
            → contents_by (written s k.generation b.association) ≡ l.sent
        by u =
            writes_carry draws s k.generation b vs q y
            ∙ ap (λ (n : ℕ). contents_of (messages_of s n y.written)) h.generation_is
            ∙ ap (λ (n : ℕ). contents_of (messages_of n l.generation y.written)) (sym (some_is u.stream s (sym u.stream_is ∙ sym h.stream_is ∙ h.reader.of)))
            ∙ u.sent_is

    -- the first message that was written opens the channel
    opening : begins_with_dcep (messages_of s k.generation y.written) ≡ true
    opening = by (use_opened (plain_over draws) y.written y.read q l there_stands)
      where
        by : UseOpened y.written y.read l.stream l.generation l.got → begins_with_dcep (messages_of s k.generation y.written) ≡ true
        by u = opens_first draws s k.generation b vs q y l u (some_is u.stream s (sym u.stream_is ∙ sym h.stream_is ∙ h.reader.of)) (sym h.generation_is)

    -- if all that was written is read or stands unread, and nothing stands unread
    pub delivered : (ended s k.generation b.association ≡ false → ended s k.generation a.association ≡ false
        → contents_by (read s k.generation a.association ++ unread s k.generation p.core.sctp.association.inbox.unread)
        ≡ contents_by (written s k.generation b.association))
        → has_unread p.core.sctp.association s k.generation ≡ false → k.got ≡ contents_by (written s k.generation b.association)
    delivered all heard = got_is here_told
      where
        got_is : UseTold (plain_over draws) x.written x.read p k.channel k.stream k.generation k.sent k.got
            → k.got ≡ contents_by (written s k.generation b.association)
        got_is t =
            all_told p k.channel t.stream k.generation s k.got t.rest h.there t.stands
            ∙ sym (reads_carry draws s k.generation a b us vs p q x y k.stream k.got
            (opened_of (plain_over draws) x.written x.read p k.channel k.stream k.generation k.sent k.got t)
            (some_is t.stream s (sym t.stream_is ∙ h.reader.of)) opening reads)
            ∙ ap contents_by
            (sym (append-nil (read s k.generation a.association))
            ∙ ap (λ (r : List AssociationMessage). read s k.generation a.association ++ r)
            (sym (none_unread s k.generation p.core.sctp.association.inbox.unread heard)))
            ∙ all there_open here_open

  none_of : (k l : ChannelUse) (p q : PlainPolled N) (h : AreDelivering k p l q)
      → has_unacknowledged h.writer.stream q.core.sctp.association.outbox.items ≡ false
      → has_unacknowledged h.reader.stream q.core.sctp.association.outbox.items ≡ false
  none_of k l p q h none = ap (λ (n : ℕ). has_unacknowledged n q.core.sctp.association.outbox.items) (sym (stream_same k l p q h)) ∙ none

  module _ (pair : PlainPair N) (uses : Side → List ChannelUse) (sent : Side → Sent) (told : Side → MessagesTold) (h : PairTold draws pair uses sent told) where
    -- by what tells of an open channel that nothing of its generation stands unread
    abbrev pub TellsHeard : (at : Side) (drained : Type 0) → Type 0
    TellsHeard at drained =
        (x : ChannelUse) → Member x (uses at) → drained → x.in_band ≡ true → (stream : ℕ) → x.stream ≡ Some stream
        → open_stream_under x.channel (rtc_at at pair) ≡ Some stream → generation_of (rtc_at at pair).core.sctp.association stream ≡ x.generation
        → has_unread (rtc_at at pair).core.sctp.association stream x.generation ≡ false

    left_delivered : (drained : Type 0) → TellsHeard Left drained → (x y : ChannelUse) → Member x (uses Left) → Member y (uses Right) → drained
        → (d : AreDelivering x pair.left y pair.right) → has_unacknowledged d.writer.stream pair.right.core.sctp.association.outbox.items ≡ false
        → x.got ≡ contents_by (written d.reader.stream x.generation h.acts.right.association)
    left_delivered drained heard x y mine theirs rested d acknowledged =
        delivered h.acts.left h.acts.right (uses Left) (uses Right) pair.left pair.right h.left.side h.right.side x y d mine theirs
        (side_reads h.acts pair Right d.reader.stream x.generation h.exchange)
        (λ there here. ap contents_by (side_all h.acts pair Right d.reader.stream x.generation h.exchange there here
        (none_of x y pair.left pair.right d acknowledged)))
        (heard x mine rested d.reader_in_band d.reader.stream d.reader.of d.there d.reader.generation)

    right_delivered : (drained : Type 0) → TellsHeard Right drained → (x y : ChannelUse) → Member x (uses Right) → Member y (uses Left) → drained
        → (d : AreDelivering x pair.right y pair.left) → has_unacknowledged d.writer.stream pair.left.core.sctp.association.outbox.items ≡ false
        → x.got ≡ contents_by (written d.reader.stream x.generation h.acts.left.association)
    right_delivered drained heard x y mine theirs rested d acknowledged =
        delivered h.acts.right h.acts.left (uses Right) (uses Left) pair.right pair.left h.right.side h.left.side x y d mine theirs
        (side_reads h.acts pair Left d.reader.stream x.generation h.exchange)
        (λ there here. ap contents_by (side_all h.acts pair Left d.reader.stream x.generation h.exchange there here
        (none_of x y pair.right pair.left d acknowledged)))
        (heard x mine rested d.reader_in_band d.reader.stream d.reader.of d.there d.reader.generation)

    pub pair_delivered : (at : Side) (drained : Type 0) → TellsHeard at drained
        → AreAllDelivered drained (uses at) (rtc_at at pair) (uses (other_side at)) (rtc_at (other_side at) pair)
    pair_delivered Left drained heard = λ x y mine theirs rested d acknowledged.
        left_delivered drained heard x y mine theirs rested d.over acknowledged
        ∙ wrote_sent h.acts.left h.acts.right (uses Left) (uses Right) pair.left pair.right h.left.side h.right.side x y d.over mine theirs
        (side_reads h.acts pair Right d.over.reader.stream x.generation h.exchange) d.kept
    pair_delivered Right drained heard = λ x y mine theirs rested d acknowledged.
        right_delivered drained heard x y mine theirs rested d.over acknowledged
        ∙ wrote_sent h.acts.right h.acts.left (uses Right) (uses Left) pair.right pair.left h.right.side h.left.side x y d.over mine theirs
        (side_reads h.acts pair Left d.over.reader.stream x.generation h.exchange) d.kept

    -- all that was ever sent to the generation, whether or not the channel was rolled back
    pub pair_delivered_over : (at : Side) (drained : Type 0) → TellsHeard at drained
        → AreAllDeliveredOver drained (uses at) (rtc_at at pair) (uses (other_side at)) (rtc_at (other_side at) pair) (sent (other_side at))
    pair_delivered_over Left drained heard = λ x y mine theirs rested d acknowledged.
        left_delivered drained heard x y mine theirs rested d acknowledged
        ∙ writes_carry draws d.reader.stream x.generation h.acts.right (uses Right) pair.right h.right.side
        ∙ h.right.sent_is d.reader.stream x.generation
    pair_delivered_over Right drained heard = λ x y mine theirs rested d acknowledged.
        right_delivered drained heard x y mine theirs rested d acknowledged
        ∙ writes_carry draws d.reader.stream x.generation h.acts.left (uses Left) pair.left h.left.side
        ∙ h.left.sent_is d.reader.stream x.generation
