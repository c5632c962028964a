-- Nothing is told of what was not sent.
use Rattle.std.proofs.Common.{◌≡◌, ◌∙◌, ◌⊎◌, ◌<◌, ◌-◌, ◌^◌, ◌++◌, ◌∷◌, ℕ, Bool, true, List, [], Some, inl, inr, refl, sym, ap, subst, arith}
use Rattle.rtc_assoc.specs.Unread.{IsPrefix}
use Rattle.rtc_parts.specs.AssociationWords.{AssociationMessage, read, written}
use Rattle.rtc_parts.specs.Among.{Member}
use Rattle.rtc_parts.specs.Draws.{Draws}
use Rattle.rtc_peer_laws.specs.PeerActs.{PeerActs}
use Rattle.rtc_run_history.specs.PairState.{rtc_at}
use Rattle.rtc_run_history.specs.Sides.{other_side}
use Rattle.rtc_run_history.specs.declared.side.Side.{Side}
use Rattle.rtc_run_history.specs.declared.side.Side.TheVariants.{Left, Right}
use Rattle.rtc_sctp_laws.specs.Contents.{contents_by, contents_of}
use Rattle.rtc_sctp_laws.specs.StreamUses.{messages_of}
use Rattle.rtc_sctp_laws.proofs.ContentLemmas.{contents-append, named_contents, read_are, written_are}
use Rattle.rtc_run_laws.specs.ChannelUses.{ChannelUse}
use Rattle.rtc_run_laws.specs.PlainPairs.{PlainPair, PlainPolled, plain_over}
use Rattle.rtc_run_laws.specs.ToldMessages.{MessagesTold}
use Rattle.rtc_run_laws.proofs.AnnouncedStreams.{HasUseOver}
use Rattle.rtc_run_laws.proofs.BehindOpenings.{behind_dcep, behind_first, behind_numbered, behind_prefix, numbered_behind}
use Rattle.rtc_run_laws.proofs.BehindSides.{IsBehind}
use Rattle.rtc_run_laws.proofs.RunsExchange.{side_reads}
use Rattle.rtc_run_laws.proofs.RunsTold.{PairTold}
use Rattle.rtc_run_laws.proofs.StandingSides.{Sent, SideSent}
use Rattle.rtc_run_laws.proofs.UseLists.{all_member, named_kept, prefix_contents}
use Rattle.rtc_run_laws.proofs.UsesTold.{InBandTold, UseOpened, use_opened}
use Rattle.rtc_run_laws.proofs.WholeUses.{none_last}
use Rattle.rtc_run_laws.specs.Unannounced.{AreGotOfSent, AreToldOfSent}

none_first : {A : Type 0} (xs ys : List A) → xs ++ ys ≡ [] → xs ≡ []
none_first [] ys h = refl
none_first (x ∷ xs) ys h = absurd (let e : ◌≡◌ {A = List _} (x ∷ (xs ++ ys)) [] = h in cc)

prefix_none : {A : Type 0} (xs : List A) → IsPrefix xs [] → xs ≡ []
prefix_none xs h = none_first xs h.rest h.is

some_is : (n k : ℕ) → Some n ≡ Some k → n ≡ k
some_is n k h = cc

module _ {N : Type 0} (draws : Draws N) where
  module _ (a b : PeerActs) (us vs : List ChannelUse) (p q : PlainPolled N) (sent sent' : Sent) (told told' : MessagesTold) (x : SideSent draws a us sent told p)
      (y : SideSent draws b vs sent' told' q) (reads : (s g : ℕ) → IsPrefix (read s g a.association) (written s g b.association)) where
    -- what is read carries nothing, where what was written did not
    nothing_read : (s g : ℕ) → sent' s g ≡ [] → contents_of (messages_of s g x.side.read) ≡ []
    nothing_read s g none =
        sym (named_contents (messages_of s g x.side.read) (named_kept s g x.side.read x.side.told.named_read))
        ∙ ap contents_by (sym (read_are s g a.association x.side.read x.side.read_is))
        ∙ prefix_none (contents_by (read s g a.association))
        (subst (λ (l : List (Bool × List ℕ)). IsPrefix (contents_by (read s g a.association)) l) nothing
        (prefix_contents (read s g a.association) (written s g b.association) (reads s g)))
      where
        nothing : contents_by (written s g b.association) ≡ []
        nothing =
            ap contents_by (written_are s g b.association y.side.written y.side.wrote_is)
            ∙ named_contents (messages_of s g y.side.written) (named_kept s g y.side.written y.side.told.named_written)
            ∙ y.sent_is s g
            ∙ none

    side_told : AreToldOfSent sent' told
    side_told = λ c s g none. x.whole.silent c s g (nothing_read s g none)

    side_got : AreGotOfSent sent' us
    side_got = λ k mine band s of none.
        let t =
        use_opened (plain_over draws) x.side.written x.side.read p k
        (all_member (InBandTold (plain_over draws) x.side.written x.side.read p) us k x.side.told.each mine band) in
        let unsent : sent' t.stream k.generation ≡ [] =
        ap (λ (n : ℕ). sent' n k.generation) (some_is t.stream s (sym t.stream_is ∙ of)) ∙ none in
        let silent : contents_of t.rest ≡ [] =
        none_last (contents_of (t.before ++ t.last ∷ [])) (contents_of t.rest)
        (sym (contents-append (t.before ++ t.last ∷ []) t.rest) ∙ ap contents_of (sym t.read_is) ∙ nothing_read t.stream k.generation unsent) in
        prefix_none k.got
        (subst (λ (l : List (Bool × List ℕ)). IsPrefix k.got l) silent t.prefix)

    -- Behind the message that opened the channel nothing is read, where behind such messages nothing was written that carries anything.
    nothing_behind : (s g : ℕ) → contents_of (behind_dcep (messages_of s g y.side.written)) ≡ [] → contents_of (behind_dcep (messages_of s g x.side.read)) ≡ []
    nothing_behind s g none =
        sym (numbered_behind (messages_of s g x.side.read) (named_kept s g x.side.read x.side.told.named_read))
        ∙ ap (λ (l : List AssociationMessage). contents_by (behind_numbered l)) (sym (read_are s g a.association x.side.read x.side.read_is))
        ∙ prefix_none (contents_by (behind_numbered (read s g a.association)))
        (subst (λ (l : List (Bool × List ℕ)). IsPrefix (contents_by (behind_numbered (read s g a.association))) l) nothing
        (prefix_contents (behind_numbered (read s g a.association)) (behind_numbered (written s g b.association))
        (behind_prefix (read s g a.association) (written s g b.association) (reads s g))))
      where
        nothing : contents_by (behind_numbered (written s g b.association)) ≡ []
        nothing =
            ap (λ (l : List AssociationMessage). contents_by (behind_numbered l)) (written_are s g b.association y.side.written y.side.wrote_is)
            ∙ numbered_behind (messages_of s g y.side.written) (named_kept s g y.side.written y.side.told.named_written)
            ∙ none

    side_got_over : q.core.channels.given < 2 ^ 64 - 1 → (k : ChannelUse) → Member k us → k.in_band ≡ true → (s : ℕ) → k.stream ≡ Some s
        → (k.got ≡ []) ⊎ HasUseOver s (Some k.generation) vs
    side_got_over left k mine band s of =
        by
        (use_opened (plain_over draws) x.side.written x.side.read p k
        (all_member (InBandTold (plain_over draws) x.side.written x.side.read p) us k x.side.told.each mine band))
      where
        by_behind : (t : UseOpened x.side.written x.side.read k.stream k.generation k.got) → IsBehind (plain_over draws) t.stream k.generation y.side.written vs q
            → (k.got ≡ []) ⊎ HasUseOver s (Some k.generation) vs
        by_behind t (inl none) =
            let silent : contents_of t.rest ≡ [] =
            ap contents_of (sym (behind_first t.before t.last t.rest t.none_before t.last_dcep))
            ∙ ap (λ l. contents_of (behind_dcep l)) (sym t.read_is)
            ∙ nothing_behind t.stream k.generation none in
            inl (prefix_none k.got (subst (λ (l : List (Bool × List ℕ)). IsPrefix k.got l) silent t.prefix))
        by_behind t (inr (inl over)) =
            inr (subst (λ (n : ℕ). HasUseOver n (Some k.generation) vs) (some_is t.stream s (sym t.stream_is ∙ of)) over)
        by_behind t (inr (inr full)) = absurd (omega (arith, left, full))

        by : UseOpened x.side.written x.side.read k.stream k.generation k.got → (k.got ≡ []) ⊎ HasUseOver s (Some k.generation) vs
        by t = by_behind t (y.side.told.behind t.stream k.generation)

  module _ (pair : PlainPair N) (uses : Side → List ChannelUse) (sent : Side → Sent) (told : Side → MessagesTold) (h : PairTold draws pair uses sent told) where
    pub pair_told_sent : (at : Side) → AreToldOfSent (sent (other_side at)) (told at)
    pair_told_sent Left =
        side_told h.acts.left h.acts.right (uses Left) (uses Right) pair.left pair.right (sent Left) (sent Right) (told Left) (told Right) h.left h.right
        (λ s g. side_reads h.acts pair Right s g h.exchange)
    pair_told_sent Right =
        side_told h.acts.right h.acts.left (uses Right) (uses Left) pair.right pair.left (sent Right) (sent Left) (told Right) (told Left) h.right h.left
        (λ s g. side_reads h.acts pair Left s g h.exchange)

    pub pair_got_sent : (at : Side) → AreGotOfSent (sent (other_side at)) (uses at)
    pair_got_sent Left =
        side_got h.acts.left h.acts.right (uses Left) (uses Right) pair.left pair.right (sent Left) (sent Right) (told Left) (told Right) h.left h.right
        (λ s g. side_reads h.acts pair Right s g h.exchange)
    pair_got_sent Right =
        side_got h.acts.right h.acts.left (uses Right) (uses Left) pair.right pair.left (sent Right) (sent Left) (told Right) (told Left) h.right h.left
        (λ s g. side_reads h.acts pair Left s g h.exchange)

    pub pair_got_over : (at : Side) → (rtc_at (other_side at) pair).core.channels.given < 2 ^ 64 - 1 → (k : ChannelUse) → Member k (uses at)
        → k.in_band ≡ true → (s : ℕ) → k.stream ≡ Some s → (k.got ≡ []) ⊎ HasUseOver s (Some k.generation) (uses (other_side at))
    pair_got_over Left left =
        side_got_over h.acts.left h.acts.right (uses Left) (uses Right) pair.left pair.right (sent Left) (sent Right) (told Left) (told Right) h.left h.right
        (λ s g. side_reads h.acts pair Right s g h.exchange) left
    pair_got_over Right left =
        side_got_over h.acts.right h.acts.left (uses Right) (uses Left) pair.right pair.left (sent Right) (sent Left) (told Right) (told Left) h.right h.left
        (λ s g. side_reads h.acts pair Left s g h.exchange) left
