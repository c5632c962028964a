-- Where no data of a generation of a stream is unacknowledged, what is read and unread of it carries all that was written to it.
use Rattle.std.proofs.Common.{◌≡◌, ◌∙◌, ◌-◌, ◌++◌, ◌∷◌, ◌==◌, ◌&&◌, ◌||◌, zero, suc, ℕ, cond, Bool, true, false, true≢false, List, [], take, drop, append-nil, inl, inr, refl, sym, ap, arith}
use Rattle.std.proofs.lemmas.Bool.{cases_Bool}
use Rattle.std.proofs.lemmas.List.{take-append-drop}
use Rattle.std.proofs.Math.Seq.{drop-drop}
use Rattle.rtc_parts.specs.declared.ppi.Ppi.{Ppi}
use Rattle.rtc_parts.specs.declared.ppi.Ppi.TheVariants as ppi
use Rattle.rtc_parts.specs.AssociationActs.{AssociationAct}
use Rattle.rtc_parts.specs.AssociationWords.{ended, read, written}
use Rattle.rtc_parts.specs.Ppi.{ppi_of}
use Rattle.rtc_assoc_state.specs.declared.item.Item.{Item}
use Rattle.rtc_assoc_state.specs.declared.item_part.ItemPart.{ItemPart}
use Rattle.rtc_assoc_state.specs.declared.item_part.ItemPart.TheVariants.{Close, Last, More}
use Rattle.rtc_assoc_state.specs.Contents.{Contents}
use Rattle.rtc_assoc.specs.Unread.{unread}
use Rattle.rtc_assoc.proofs.AliveLemmas.{alive}
use Rattle.rtc_assoc.proofs.DirectedLemmas.{Directed, EitherEnded}
use Rattle.rtc_assoc.proofs.MessageLemmas.{completed_by, kept, left, messages, messages-append, shown}
use Rattle.rtc_assoc.proofs.RunLemmas.{both_run}
use Rattle.rtc_sctp_laws.specs.Contents.{content_of, contents_by}
use Rattle.rtc_sctp_laws.proofs.ContentLemmas.{contents_by-append}
use Rattle.rtc_peer_laws.specs.Exchanging.{parts_past}
use Rattle.rtc_peer_laws.specs.JoinedPeers.{ends_of, packet_parts}
use Rattle.rtc_run_history.specs.declared.side.Side.{Side}
use Rattle.rtc_run_history.specs.declared.side.Side.TheVariants.{Left, Right}
use Rattle.rtc_run_history.specs.PairState.{rtc_at}
use Rattle.rtc_run_history.specs.Sides.{other_side}
use Rattle.rtc_run_laws.specs.AcknowledgedData.{carries_data, has_unacknowledged_data, is_data_item}
use Rattle.rtc_run_laws.specs.PlainPairs.{PairActs, PairExchanges, PlainPair, acts_at}

both_false : (a b : Bool) → (a || b) ≡ false → (a ≡ false) × (b ≡ false)
both_false true b h = absurd (true≢false h)
both_false false b h = (refl, h)

nothing_carried : (p : Ppi) (bytes : List ℕ) → carries_data p ≡ false → content_of p bytes ≡ []
nothing_carried ppi.Dcep bytes h = refl
nothing_carried ppi.Text bytes h = absurd (true≢false h)
nothing_carried ppi.Binary bytes h = absurd (true≢false h)
nothing_carried ppi.EmptyText bytes h = absurd (true≢false h)
nothing_carried ppi.EmptyBinary bytes h = absurd (true≢false h)
nothing_carried (ppi.Other n) bytes h = refl

module _ (s g : ℕ) where
  data_dropped : (n : ℕ) (items : List Item) → has_unacknowledged_data s g items ≡ false → has_unacknowledged_data s g (drop n items) ≡ false
  data_dropped zero items h = h
  data_dropped (suc n) [] h = refl
  data_dropped (suc n) (x ∷ items) h =
      let two : (is_data_item s g x ≡ false) × (has_unacknowledged_data s g items ≡ false) = both_false _ _ h in data_dropped n items two.1

  -- an item without data completes no message for users
  shown_nothing : (front : List ℕ) (x : Item) → is_data_item s g x ≡ false → contents_by (shown s g front x) ≡ []
  shown_nothing front x h = by ((x.stream == s) && (x.generation == g)) x.part h
    where
      by : (own : Bool) (part : ItemPart) → (own && carries_data (ppi_of x.identifier)) ≡ false
          → contents_by (cond own (completed_by part x.identifier x.bytes front) []) ≡ []
      by true More k = refl
      by true Last k = ap (λ (l : List (Bool × List ℕ)). l ++ []) (nothing_carried (ppi_of x.identifier) (front ++ x.bytes) k)
      by true Close k = refl
      by false part k = refl

  data_none : (front : List ℕ) (items : List Item) → has_unacknowledged_data s g items ≡ false → contents_by (messages s g front items) ≡ []
  data_none front [] h = refl
  data_none front (x ∷ items) h =
      let two : (is_data_item s g x ≡ false) × (has_unacknowledged_data s g items ≡ false) = both_false _ _ h in
      contents_by-append (shown s g front x) (messages s g (kept s g front x) items)
      ∙ ap (λ (l : List (Bool × List ℕ)). l ++ contents_by (messages s g (kept s g front x) items)) (shown_nothing front x two.0)
      ∙ data_none (kept s g front x) items two.1

  data_open : (w : List Item) (a b : Contents) (v u : List AssociationAct) → Directed w a b v u → alive b.streams s g ≡ true
      → has_unacknowledged_data s g a.outbox.items ≡ false → contents_by (read s g u ++ unread s g b.inbox.unread) ≡ contents_by (written s g v)
  data_open w a b v u h l e =
      let n = b.inbox.received in
      let k = n - a.outbox.acked in
      let behind : drop n w ≡ drop k a.outbox.items =
      ap (λ (m : ℕ). drop m w) (omega (arith, h.sender.behind)) ∙ sym (drop-drop k a.outbox.acked w) ∙ ap (drop k) (sym h.sender.rest) in
      let none : has_unacknowledged_data s g (drop n w) ≡ false = ap (has_unacknowledged_data s g) behind ∙ data_dropped k a.outbox.items e in
      let all : contents_by (messages s g [] w) ≡ contents_by (messages s g [] (take n w)) =
      ap (λ (x : List Item). contents_by (messages s g [] x)) (sym (take-append-drop n w))
      ∙ ap contents_by (messages-append s g [] (take n w) (drop n w))
      ∙ contents_by-append (messages s g [] (take n w)) (messages s g (left s g [] (take n w)) (drop n w))
      ∙ ap (λ (x : List (Bool × List ℕ)). contents_by (messages s g [] (take n w)) ++ x) (data_none (left s g [] (take n w)) (drop n w) none)
      ∙ append-nil (contents_by (messages s g [] (take n w))) in
      ap contents_by (h.receiver.exact s g l) ∙ sym all ∙ ap contents_by (h.wrote s g)

  -- messages of the generation are taken where neither end closed it
  data_all : (w : List Item) (a b : Contents) (v u : List AssociationAct) → Directed w a b v u → ended s g v ≡ false → ended s g u ≡ false
      → has_unacknowledged_data s g a.outbox.items ≡ false → contents_by (read s g u ++ unread s g b.inbox.unread) ≡ contents_by (written s g v)
  data_all w a b v u h here there e =
      data_open w a b v u h (elim (cases_Bool (alive b.streams s g)) [ inl l ↦ l | inr l ↦ absurd (neither (h.dead s g l)) ]) e
    where
      neither : EitherEnded s g v u → ⊥
      neither (inl k) = true≢false (sym k ∙ here)
      neither (inr k) = true≢false (sym k ∙ there)

-- what one side has of the generation carries all that the other one wrote
pub side_data : {N : Type 0} (acts : PairActs) (pair : PlainPair N) (at : Side) (s g : ℕ) → PairExchanges acts pair
    → has_unacknowledged_data s g (rtc_at at pair).core.sctp.association.outbox.items ≡ false
    → ended s g (acts_at at acts).association ≡ false → ended s g (acts_at (other_side at) acts).association ≡ false
    → contents_by
    (read s g (acts_at (other_side at) acts).association ++ unread s g (rtc_at (other_side at) pair).core.sctp.association.inbox.unread)
    ≡ contents_by (written s g (acts_at at acts).association)
side_data acts pair Left s g x none here there =
    let h = both_run x.joined.moves (ends_of (parts_past acts.left) (packet_parts pair.left) (parts_past acts.right) (packet_parts pair.right)) x.joined.run in
    data_all s g h.there pair.left.core.sctp.association pair.right.core.sctp.association acts.left.association acts.right.association h.forth_is here
    there none
side_data acts pair Right s g x none here there =
    let h = both_run x.joined.moves (ends_of (parts_past acts.left) (packet_parts pair.left) (parts_past acts.right) (packet_parts pair.right)) x.joined.run in
    data_all s g h.back pair.right.core.sctp.association pair.left.core.sctp.association acts.right.association acts.left.association h.back_is here
    there none
