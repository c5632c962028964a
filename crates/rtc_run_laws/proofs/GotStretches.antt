-- What a channel got is a contiguous stretch of what the other side sent to the generation of its stream, whatever that side announced.
use Rattle.std.proofs.Common.{◌≡◌, ◌∙◌, ◌++◌, ◌∷◌, ℕ, Bool, true, List, [], append_assoc, Option, Some, sym, ap, subst}
use Rattle.rtc_assoc.specs.Unread.{IsPrefix}
use Rattle.rtc_parts.specs.Among.{Member}
use Rattle.rtc_parts.specs.AssociationWords.{read, written}
use Rattle.rtc_parts.specs.Draws.{Draws}
use Rattle.rtc_peer_laws.specs.PeerActs.{PeerActs}
use Rattle.rtc_run_history.specs.Sides.{other_side}
use Rattle.rtc_run_history.specs.declared.side.Side.{Side}
use Rattle.rtc_run_history.specs.declared.side.Side.TheVariants.{Left, Right}
use Rattle.rtc_sctp_laws.specs.Contents.{contents_by, contents_of}
use Rattle.rtc_sctp_laws.specs.StreamUses.{messages_of}
use Rattle.rtc_sctp_laws.proofs.ContentLemmas.{contents-append, named_contents, read_are, written_are}
use Rattle.rtc_run_laws.specs.ChannelUses.{ChannelUse}
use Rattle.rtc_run_laws.specs.PlainPairs.{PlainPair, PlainPolled, plain_over}
use Rattle.rtc_run_laws.specs.ToldMessages.{MessagesTold}
use Rattle.rtc_run_laws.proofs.RunsExchange.{side_reads}
use Rattle.rtc_run_laws.proofs.RunsTold.{PairTold}
use Rattle.rtc_run_laws.proofs.StandingSides.{Sent, SideSent}
use Rattle.rtc_run_laws.proofs.UseLists.{all_member, named_kept, prefix_contents}
use Rattle.rtc_run_laws.proofs.UsesTold.{InBandTold, UseOpened, use_opened}

-- messages that were sent one after the other
pub record GotStretch (got sent : List (Bool × List ℕ)) : Type 0 where
  pub before : List (Bool × List ℕ)
  pub behind : List (Bool × List ℕ)
  pub is : sent ≡ before ++ (got ++ behind)

some_is : (n k : ℕ) → Some n ≡ Some k → n ≡ k
some_is n k h = cc

-- what begins the end of a list that begins another one
stretch_of : (front got last all sent : List (Bool × List ℕ)) → all ≡ front ++ last → IsPrefix got last → IsPrefix all sent → GotStretch got sent
stretch_of front got last all sent is h k = record {
  before = front;
  behind = h.rest ++ k.rest;
  is =
      sym k.is
      ∙ ap (λ (l : List (Bool × List ℕ)). l ++ k.rest) (is ∙ ap (λ (l : List (Bool × List ℕ)). front ++ l) (sym h.is))
      ∙ append_assoc front (got ++ h.rest) k.rest
      ∙ ap (λ (l : List (Bool × List ℕ)). front ++ l) (append_assoc got h.rest k.rest);
}

module _ {N : Type 0} (draws : Draws N) where
  module _ (a b : PeerActs) (us vs : List ChannelUse) (p q : PlainPolled N) (sent sent' : Sent) (told told' : MessagesTold) (x : SideSent draws a us sent told p)
      (y : SideSent draws b vs sent' told' q) (reads : (s g : ℕ) → IsPrefix (read s g a.association) (written s g b.association)) where
    -- what was read of a generation carries the first of what was sent to it
    read_sent : (s g : ℕ) → IsPrefix (contents_of (messages_of s g x.side.read)) (sent' s g)
    read_sent s g =
        subst (λ (l : List (Bool × List ℕ)). IsPrefix l (sent' s g))
        (ap contents_by (read_are s g a.association x.side.read x.side.read_is)
        ∙ named_contents (messages_of s g x.side.read) (named_kept s g x.side.read x.side.told.named_read))
        (subst (λ (l : List (Bool × List ℕ)). IsPrefix (contents_by (read s g a.association)) l)
        (ap contents_by (written_are s g b.association y.side.written y.side.wrote_is)
        ∙ named_contents (messages_of s g y.side.written) (named_kept s g y.side.written y.side.told.named_written)
        ∙ y.sent_is s g)
        (prefix_contents (read s g a.association) (written s g b.association) (reads s g)))

    opened_stretch : (of : ℕ) (g : ℕ) (got : List (Bool × List ℕ)) (t : UseOpened x.side.written x.side.read (Some of) g got) → GotStretch got (sent' of g)
    opened_stretch of g got t =
        stretch_of (contents_of (t.before ++ t.last ∷ [])) got (contents_of t.rest) (contents_of (messages_of of g x.side.read)) (sent' of g)
        (ap (λ (n : ℕ). contents_of (messages_of n g x.side.read)) (some_is of t.stream t.stream_is)
        ∙ ap contents_of t.read_is
        ∙ contents-append (t.before ++ t.last ∷ []) t.rest)
        t.prefix (read_sent of g)

    side_stretch : (k : ChannelUse) → Member k us → k.in_band ≡ true → (s : ℕ) → k.stream ≡ Some s → GotStretch k.got (sent' s k.generation)
    side_stretch k mine band s of =
        opened_stretch s k.generation k.got
        (subst (λ (o : Option ℕ). UseOpened x.side.written x.side.read o k.generation k.got) of
        (use_opened (plain_over draws) x.side.written x.side.read p k
        (all_member (InBandTold (plain_over draws) x.side.written x.side.read p) us k x.side.told.each mine band)))

  module _ (pair : PlainPair N) (uses : Side → List ChannelUse) (sent : Side → Sent) (told : Side → MessagesTold) (h : PairTold draws pair uses sent told) where
    pub pair_stretch : (at : Side) (k : ChannelUse) → Member k (uses at) → k.in_band ≡ true → (s : ℕ) → k.stream ≡ Some s
        → GotStretch k.got (sent (other_side at) s k.generation)
    pair_stretch Left =
        side_stretch h.acts.left h.acts.right (uses Left) (uses Right) pair.left pair.right (sent Left) (sent Right) (told Left) (told Right) h.left h.right
        (λ s g. side_reads h.acts pair Right s g h.exchange)
    pair_stretch Right =
        side_stretch h.acts.right h.acts.left (uses Right) (uses Left) pair.right pair.left (sent Right) (sent Left) (told Right) (told Left) h.right h.left
        (λ s g. side_reads h.acts pair Left s g h.exchange)
