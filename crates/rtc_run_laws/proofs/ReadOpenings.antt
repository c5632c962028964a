-- What one side read in a generation that it announced a channel over, the other one wrote.
use Rattle.std.proofs.Common.{◌≡◌, ◌∙◌, ◌≤◌, ◌-◌, ◌^◌, ◌++◌, ◌∷◌, ◌||◌, ℕ, Bool, true, false, true≢false, List, [], map, Some, refl, sym, ap, subst}
use Rattle.rtc_assoc.specs.Unread.{IsPrefix}
use Rattle.rtc_parts.specs.AssociationWords.{AssociationMessage, read, written}
use Rattle.rtc_parts.specs.Draws.{Draws}
use Rattle.rtc_sctp_laws.specs.Contents.{numbered_message}
use Rattle.rtc_sctp_laws.specs.StreamMessages.{StreamMessage, HaveNamedPpis, is_dcep_message}
use Rattle.rtc_sctp_laws.specs.StreamUses.{any_dcep, messages_of}
use Rattle.rtc_sctp_laws.proofs.ContentLemmas.{read_are, written_are}
use Rattle.rtc_peer_laws.specs.ChannelStreams.{AreNumbersGiven}
use Rattle.rtc_peer_laws.specs.PeerActs.{PeerActs}
use Rattle.rtc_peer_laws.proofs.ExchangeLemmas.{left_reads, right_reads}
use Rattle.rtc_peer_laws.proofs.StreamsJoin.{given_on}
use Rattle.rtc_run_history.specs.declared.sent_packet.SentPacket.{SentPacket}
use Rattle.rtc_run_history.specs.declared.side.Side.{Side}
use Rattle.rtc_run_history.specs.declared.side.Side.TheVariants.{Left, Right}
use Rattle.rtc_run_history.specs.Sides.{other_side}
use Rattle.rtc_run_laws.specs.ChannelUses.{ChannelUse}
use Rattle.rtc_run_laws.specs.PlainPairs.{PlainPolled, plain_over}
use Rattle.rtc_run_laws.specs.SentContents.{contents_sent}
use Rattle.rtc_run_laws.specs.ToldMessages.{MessagesTold}
use Rattle.rtc_run_laws.proofs.AnnouncedStreams.{HasUseOver, found}
use Rattle.rtc_run_laws.proofs.GotAndSent.{begins_too}
use Rattle.rtc_run_laws.proofs.OpenedAnew.{any_at}
use Rattle.rtc_run_laws.proofs.StandingExchange.{ExchangeBy}
use Rattle.rtc_run_laws.proofs.StandingSides.{Sent, SideStood, Stood}
use Rattle.rtc_run_laws.proofs.UseLists.{all_member, named_kept}
use Rattle.rtc_run_laws.proofs.UsesTold.{InBandTold, use_opened}

some_is : (a b : ℕ) → Some a ≡ Some b → a ≡ b
some_is a b h = cc

-- ---- messages

prefix_rest : (x y : AssociationMessage) (xs ys : List AssociationMessage) → IsPrefix (x ∷ xs) (y ∷ ys) → IsPrefix xs ys
prefix_rest x y xs ys h = record { rest = h.rest; is = let e : x ∷ (xs ++ h.rest) ≡ y ∷ ys = h.is in cc }

no_prefix : (x : AssociationMessage) (xs : List AssociationMessage) → IsPrefix (x ∷ xs) [] → ⊥
no_prefix x xs h = let e : x ∷ (xs ++ h.rest) ≡ [] = h.is in cc

first_same : (x y : AssociationMessage) (xs ys : List AssociationMessage) → IsPrefix (x ∷ xs) (y ∷ ys) → IsPrefix (y ∷ []) (x ∷ [])
first_same x y xs ys h = record { rest = []; is = let e : x ∷ (xs ++ h.rest) ≡ y ∷ ys = h.is in cc }

or_true : (b : Bool) → (b || true) ≡ true
or_true true = refl
or_true false = refl

-- if any of the first messages opens a channel, any of all does
any_carries : (zs ws : List StreamMessage) → HaveNamedPpis zs → HaveNamedPpis ws → IsPrefix (map numbered_message zs) (map numbered_message ws)
    → any_dcep zs ≡ true → any_dcep ws ≡ true
any_carries [] ws named others h any = absurd (true≢false (sym any))
any_carries (z ∷ zs) [] named others h any = absurd (no_prefix (numbered_message z) (map numbered_message zs) h)
any_carries (z ∷ zs) (y ∷ ws) named others h any =
    by (is_dcep_message z) refl any
    (any_carries zs ws named.1 others.1 (prefix_rest (numbered_message z) (numbered_message y) (map numbered_message zs) (map numbered_message ws) h))
  where
    own : is_dcep_message z ≡ true → is_dcep_message y ≡ true
    own e =
        begins_too y [] (z ∷ []) others.0 (named.0, tt)
        (first_same (numbered_message z) (numbered_message y) (map numbered_message zs) (map numbered_message ws) h) e

    by : (b : Bool) → is_dcep_message z ≡ b → (b || any_dcep zs) ≡ true → (any_dcep zs ≡ true → any_dcep ws ≡ true)
        → (is_dcep_message y || any_dcep ws) ≡ true
    by true e k rest = ap (λ (d : Bool). d || any_dcep ws) (own e)
    by false e k rest = ap (λ (d : Bool). is_dcep_message y || d) (rest k) ∙ or_true (is_dcep_message y)

-- ---- numbers

module _ {N : Type 0} (draws : Draws N) (s : ℕ) where
  abbrev pub NotFull : PlainPolled N → Type 0
  NotFull p = AreNumbersGiven p.core.channels → ⊥

  pub full_before : (p q : PlainPolled N) → p.core.channels.given ≤ q.core.channels.given → NotFull q → NotFull p
  full_before p q up h full = h (given_on (2 ^ 64 - 1) p.core.channels.given q.core.channels.given full up)

-- ---- what was read of a generation over which a channel was announced

module _ {N : Type 0} (draws : Draws N) (s g : ℕ) where
  pub use_read : (acts : PeerActs) (uses : List ChannelUse) (p : PlainPolled N) (x : SideStood draws acts uses p) → HasUseOver s (Some g) uses
      → any_dcep (messages_of s g x.read) ≡ true
  use_read acts uses p x h =
      let it = found s (Some g) uses h in
      let t =
      use_opened (plain_over draws) x.written x.read p it.use_over
      (all_member (InBandTold (plain_over draws) x.written x.read p) uses it.use_over x.told.each it.member it.is_over.0) in
      ap (λ (n : ℕ). any_dcep (messages_of n g x.read)) (some_is s t.stream (sym it.is_over.1 ∙ t.stream_is))
      ∙ ap (λ (n : ℕ). any_dcep (messages_of t.stream n x.read)) (some_is g it.use_over.generation it.is_over.2)
      ∙ ap any_dcep t.read_is
      ∙ any_at t.before t.last t.rest t.last_dcep

  exchange_reads : (at : Side) (a b : PeerActs) (packets : List SentPacket) (p q : PlainPolled N)
      → ExchangeBy at a (contents_sent at packets) p b (contents_sent (other_side at) packets) q
      → IsPrefix (read s g b.association) (written s g a.association)
  exchange_reads Left a b packets p q x = right_reads a b (contents_sent Left packets) (contents_sent Right packets) p q s g x
  exchange_reads Right a b packets p q x = left_reads b a (contents_sent Left packets) (contents_sent Right packets) q p s g x

  -- the other side wrote it
  pub reads_written : (at : Side) (packets : List SentPacket) (b : PeerActs) (q : PlainPolled N) (us vs : List ChannelUse) (sent : Sent) (told : MessagesTold)
      (p : PlainPolled N) (stood : Stood draws at packets b q us sent told p) (x : SideStood draws b vs q) → any_dcep (messages_of s g x.read) ≡ true
      → any_dcep (messages_of s g stood.side.written) ≡ true
  reads_written at packets b q us vs sent told p stood x any =
      any_carries (messages_of s g x.read) (messages_of s g stood.side.written) (named_kept s g x.read x.told.named_read)
      (named_kept s g stood.side.written stood.side.told.named_written)
      (subst (λ (l : List AssociationMessage). IsPrefix l (map numbered_message (messages_of s g stood.side.written))) (read_are s g b.association x.read x.read_is)
      (subst (λ (l : List AssociationMessage). IsPrefix (read s g b.association) l)
      (written_are s g stood.acts.association stood.side.written stood.side.wrote_is)
      (exchange_reads at stood.acts b packets p q stood.exchange)))
      any
