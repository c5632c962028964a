-- Of two channels over one stream and generation, one at each side, one was opened in-band and the other was not: the stream of the other one
-- is past the generation.
use Rattle.std.proofs.Common.{◌≡◌, ◌∙◌, inl, inr, ◌||◌, ◌++◌, ◌∷◌, ℕ, Bool, true, false, true≢false, List, [], map, Option, Some, refl, sym, ap, subst}
use Rattle.std.specs.List.{list_any}
use Rattle.rtc_assoc.specs.Unread.{IsPrefix}
use Rattle.rtc_assoc_state.specs.PlainMeaning.{plain_meaning}
use Rattle.rtc_parts.specs.Among.{Member}
use Rattle.rtc_parts.specs.AssociationWords.{AssociationMessage, read, written}
use Rattle.rtc_parts.specs.Draws.{Draws}
use Rattle.rtc_parts.specs.Ppi.{ppi_of}
use Rattle.rtc_parts.specs.declared.ppi.Ppi.{Ppi}
use Rattle.rtc_peer_laws.specs.PeerActs.{PeerActs}
use Rattle.rtc_run_history.specs.PairState.{rtc_at}
use Rattle.rtc_run_history.specs.Sides.{other_side}
use Rattle.rtc_run_history.specs.declared.side.Side.{Side}
use Rattle.rtc_run_history.specs.declared.side.Side.TheVariants.{Left, Right}
use Rattle.rtc_sctp_laws.specs.Contents.{numbered_message}
use Rattle.rtc_sctp_laws.specs.PastGenerations.{IsPast}
use Rattle.rtc_sctp_laws.specs.StreamMessages.{HaveNamedPpis, StreamMessage, is_dcep, is_dcep_message}
use Rattle.rtc_sctp_laws.specs.StreamUses.{any_dcep, messages_of}
use Rattle.rtc_sctp_laws.proofs.ContentLemmas.{read_are, written_are}
use Rattle.rtc_run_laws.specs.ChannelUses.{ChannelUse}
use Rattle.rtc_run_laws.specs.PastUses.{IsPastUse}
use Rattle.rtc_run_laws.specs.PlainPairs.{PlainPair, PlainPolled, plain_over}
use Rattle.rtc_run_laws.specs.ToldMessages.{MessagesTold}
use Rattle.rtc_run_laws.proofs.OutSides.{IsOutIn, OutTold}
use Rattle.rtc_run_laws.proofs.RunsExchange.{side_reads}
use Rattle.rtc_run_laws.proofs.RunsTold.{PairTold}
use Rattle.rtc_run_laws.proofs.StandingSides.{Sent, SideSent}
use Rattle.rtc_run_laws.proofs.UseLists.{all_member, named_kept}
use Rattle.rtc_run_laws.proofs.UsesTold.{InBandTold, UseOpened, use_opened}

-- ---- messages that open channels, by the numbers of their identifiers

abbrev opens_by : AssociationMessage → Bool
opens_by x = is_dcep (ppi_of x.identifier)

any_numbered : (l : List StreamMessage) → HaveNamedPpis l → list_any opens_by (map numbered_message l) ≡ any_dcep l
any_numbered [] h = refl
any_numbered (x ∷ l) h =
    ap (λ (i : Ppi). is_dcep i || list_any opens_by (map numbered_message l)) h.0
    ∙ ap (λ (b : Bool). is_dcep x.ppi || b) (any_numbered l h.1)

any_begun : (xs ys : List AssociationMessage) → list_any opens_by xs ≡ true → list_any opens_by (xs ++ ys) ≡ true
any_begun [] ys h = absurd (true≢false (sym h))
any_begun (x ∷ xs) ys h = by (opens_by x) h (any_begun xs ys)
  where
    by : (b : Bool) → (b || list_any opens_by xs) ≡ true → (list_any opens_by xs ≡ true → list_any opens_by (xs ++ ys) ≡ true)
        → (b || list_any opens_by (xs ++ ys)) ≡ true
    by true k rest = refl
    by false k rest = rest k

any_within : (xs : List StreamMessage) (x : StreamMessage) (ys : List StreamMessage) → is_dcep_message x ≡ true → any_dcep ((xs ++ x ∷ []) ++ ys) ≡ true
any_within [] x ys h = ap (λ (b : Bool). b || any_dcep ys) h
any_within (y ∷ xs) x ys h = by (is_dcep_message y) (any_within xs x ys h)
  where
    by : (b : Bool) → any_dcep ((xs ++ x ∷ []) ++ ys) ≡ true → (b || any_dcep ((xs ++ x ∷ []) ++ ys)) ≡ true
    by true k = refl
    by false k = k

some_is : (n k : ℕ) → Some n ≡ Some k → n ≡ k
some_is n k h = cc

module _ {N : Type 0} (draws : Draws N) where
  module _ (a b : PeerActs) (us vs : List ChannelUse) (p q : PlainPolled N) (sent sent' : Sent) (told told' : MessagesTold) (x : SideSent draws a us sent told p)
      (y : SideSent draws b vs sent' told' q) (reads : (s g : ℕ) → IsPrefix (read s g a.association) (written s g b.association)) where
    -- a channel that was opened in-band read a message that opens it, which the other side wrote
    wrote_dcep : (s g : ℕ) (got : List (Bool × List ℕ)) → UseOpened x.side.written x.side.read (Some s) g got → any_dcep (messages_of s g y.side.written) ≡ true
    wrote_dcep s g got t =
        sym (any_numbered (messages_of s g y.side.written) (named_kept s g y.side.written y.side.told.named_written))
        ∙ ap (list_any opens_by) (sym (written_are s g b.association y.side.written y.side.wrote_is) ∙ sym (reads s g).is)
        ∙ any_begun (read s g a.association) (reads s g).rest
        (ap (list_any opens_by) (read_are s g a.association x.side.read x.side.read_is)
        ∙ any_numbered (messages_of s g x.side.read) (named_kept s g x.side.read x.side.told.named_read)
        ∙ ap (λ (n : ℕ). any_dcep (messages_of n g x.side.read)) (some_is s t.stream t.stream_is)
        ∙ ap any_dcep t.read_is
        ∙ any_within t.before t.last t.rest t.last_dcep)

    side_out : (k l : ChannelUse) → Member k us → k.in_band ≡ true → Member l vs → l.in_band ≡ false → (s : ℕ) → k.stream ≡ Some s → l.stream ≡ Some s
        → l.generation ≡ k.generation → IsPastUse l q
    side_out k l mine band theirs out s of other same =
        (s, other, by (all_member (OutTold (plain_over draws) y.side.written q) vs l y.side.told.out theirs out s other))
      where
        wrote : any_dcep (messages_of s l.generation y.side.written) ≡ true
        wrote =
            ap (λ (n : ℕ). any_dcep (messages_of s n y.side.written)) same
            ∙ wrote_dcep s k.generation k.got
            (subst (λ (o : Option ℕ). UseOpened x.side.written x.side.read o k.generation k.got) of
            (use_opened (plain_over draws) x.side.written x.side.read p k
            (all_member (InBandTold (plain_over draws) x.side.written x.side.read p) us k x.side.told.each mine band)))

        by : IsOutIn (plain_over draws) s l.generation y.side.written q → IsPast plain_meaning s l.generation q.core.sctp.association
        by (inl past) = past
        by (inr none) = absurd (true≢false (sym wrote ∙ none.0))

  module _ (pair : PlainPair N) (uses : Side → List ChannelUse) (sent : Side → Sent) (told : Side → MessagesTold) (h : PairTold draws pair uses sent told) where
    pub pair_out : (at : Side) (k l : ChannelUse) → Member k (uses at) → k.in_band ≡ true → Member l (uses (other_side at)) → l.in_band ≡ false → (s : ℕ)
        → k.stream ≡ Some s → l.stream ≡ Some s → l.generation ≡ k.generation → IsPastUse l (rtc_at (other_side at) pair)
    pair_out Left =
        side_out h.acts.left h.acts.right (uses Left) (uses Right) pair.left pair.right (sent Left) (sent Right) (told Left) (told Right) h.left h.right
        (λ s g. side_reads h.acts pair Right s g h.exchange)
    pair_out Right =
        side_out h.acts.right h.acts.left (uses Right) (uses Left) pair.right pair.left (sent Right) (sent Left) (told Right) (told Left) h.right h.left
        (λ s g. side_reads h.acts pair Left s g h.exchange)
