-- The exchange of a pair as the side sees it that acts.
use Rattle.std.proofs.Common.{◌≡◌, ◌∙◌, ◌++◌, ◌∷◌, inl, inr, ℕ, Bool, List, [], Option, None, sym, ap, subst, arith}
use Rattle.rtc_parts.specs.Among.{Member}
use Rattle.rtc_parts.proofs.AmongLemmas.{member-append, member-left}
use Rattle.rtc_parts.specs.DtlsWords.{dtls_given, dtls_taken}
use Rattle.rtc_parts.proofs.DtlsLemmas.{dtls_given-append, dtls_taken-append}
use Rattle.rtc_parts.specs.Draws.{Draws}
use Rattle.rtc_sctp_laws.specs.StreamMessages.{StreamMessage}
use Rattle.rtc_peer_laws.specs.Acts.{PeerDid, NegotiationActs}
use Rattle.rtc_peer_laws.specs.PeerActs.{Came, PeerActs, acts_with, dtls_roles, roles_after}
use Rattle.rtc_peer_laws.proofs.ActWords.{dtls_roles-append, roles_after-append}
use Rattle.rtc_peer_laws.specs.Exchanging.{PeersExchange}
use Rattle.rtc_peer_laws.specs.JoinedPeers.{CarriesData}
use Rattle.rtc_peer_laws.proofs.ExchangeLemmas.{left_exchanges, right_exchanges}
use Rattle.rtc_peer_laws.proofs.ShownLemmas.{shown_kind}
use Rattle.rtc_run_history.specs.declared.sent_packet.SentPacket.{SentPacket}
use Rattle.rtc_run_history.specs.declared.side.Side.{Side}
use Rattle.rtc_run_history.specs.declared.side.Side.TheVariants.{Left, Right}
use Rattle.rtc_run_history.specs.PairState.{rtc_at}
use Rattle.rtc_run_history.specs.Sides.{other_side}
use Rattle.rtc_run_laws.specs.PlainPairs.{HasExchanged, PlainPair, PlainPolled, ShookHands, plain_over}
use Rattle.rtc_run_laws.specs.SentContents.{contents_sent}
use Rattle.rtc_run_laws.proofs.ContentsLemmas.{Carries, CarriesHands, Shows, begun_comes, shows_none}

-- the exchange with the acting peer first
abbrev pub ExchangeBy : {N : Type 0} → Side → PeerActs → List (List ℕ) → PlainPolled N → PeerActs → List (List ℕ) → PlainPolled N → Type 0
ExchangeBy Left a sent p b others q = PeersExchange a sent p b others q
ExchangeBy Right a sent p b others q = PeersExchange b others q a sent p

-- the acting peer stands in an exchange with the other one, to which these acts were done
pub record Stands {N : Type 0} (at : Side) (packets : List SentPacket) (b : PeerActs) (q p : PlainPolled N) : Type 0 where
  pub acts : PeerActs
  pub exchange : ExchangeBy at acts (contents_sent at packets) p b (contents_sent (other_side at) packets) q
  pub own : ShookHands acts p b
  pub others : ShookHands b q acts

-- what the other one shows of the handshake its DTLS part gave
shown_hands : {N : Type 0} (at : Side) (a b : PeerActs) (sent others : List (List ℕ)) (p q : PlainPolled N) → ExchangeBy at a sent p b others q
    → (bytes : List ℕ) → Member (22 ∷ bytes) others → Member (22 ∷ bytes) (dtls_taken b.dtls)
shown_hands Left a b sent others p q x bytes m =
    shown_kind 22 (omega arith) (omega arith) b others q.core.dtls.packets q.core.ice q.core.media x.right bytes m
shown_hands Right a b sent others p q x bytes m =
    shown_kind 22 (omega arith) (omega arith) b others q.core.dtls.packets q.core.ice q.core.media x.left bytes m

module _ {N : Type 0} (draws : Draws N) where
  exchange_on : (at : Side) (a b : PeerActs) (before after others : List (List ℕ)) (p next q : PlainPolled N) (came : Came) (moments : List ℕ)
      (wrote heard : List StreamMessage) → ExchangeBy at a before p b others q → CarriesData came.dtls others
      → (did : PeerDid (plain_over draws) came moments after wrote heard p next)
      → ExchangeBy at (acts_with a did.acts) (before ++ after) next b others q
  exchange_on Left a b before after others p next q came moments wrote heard x carried did =
      left_exchanges draws a b before after others p next q came moments wrote heard x carried did
  exchange_on Right a b before after others p next q came moments wrote heard x carried did =
      right_exchanges draws b a before after others q p next came moments wrote heard x carried did

  hands_on : (at : Side) (a b : PeerActs) (sent others after : List (List ℕ)) (p next q : PlainPolled N) (came : Came) (moments : List ℕ)
      (wrote heard : List StreamMessage) → ExchangeBy at a sent p b others q → CarriesHands came.dtls others → ShookHands a p b
      → (did : PeerDid (plain_over draws) came moments after wrote heard p next) → ShookHands (acts_with a did.acts) next b
  hands_on at a b sent others after p next q came moments wrote heard x carried h did = record {
    role =
        did.role
        ∙ ap (λ (o : Option Bool). roles_after o (dtls_roles did.acts.dtls)) h.role
        ∙ sym (roles_after-append None (dtls_roles a.dtls) (dtls_roles did.acts.dtls))
        ∙ ap (roles_after None) (sym (dtls_roles-append a.dtls did.acts.dtls));
    crosses = λ bytes m. elim (member-append (22 ∷ bytes) (dtls_given a.dtls) (dtls_given did.acts.dtls)
        (subst (λ (l : List (List ℕ)). Member (22 ∷ bytes) l) (dtls_given-append a.dtls did.acts.dtls) m)) [
          | inl k ↦ h.crosses bytes k
          | inr k ↦ shown_hands at a b sent others p q x bytes (carried.each bytes (did.given_dtls.each (22 ∷ bytes) k))
        ];
  }

  hands_kept : (a b more : PeerActs) (q : PlainPolled N) → ShookHands b q a → ShookHands b q (acts_with a more)
  hands_kept a b more q h = record {
    role = h.role;
    crosses = λ bytes m. subst (λ (l : List (List ℕ)). Member (22 ∷ bytes) l) (sym (dtls_taken-append a.dtls more.dtls))
        (member-left (22 ∷ bytes) (dtls_taken a.dtls) (dtls_taken more.dtls) (h.crosses bytes m));
  }

  -- a call of the acting peer
  pub call_stands : (at : Side) (packets packets' : List SentPacket) (b : PeerActs) (q p next : PlainPolled N) (came : Came) (moments : List ℕ)
      (shown : List (List ℕ)) (wrote heard : List StreamMessage) → Carries came.dtls (contents_sent (other_side at) packets)
      → Shows at packets packets' shown → PeerDid (plain_over draws) came moments shown wrote heard p next → Stands at packets b q p
      → Stands at packets' b q next
  call_stands at packets packets' b q p next came moments shown wrote heard carried shows did h = record {
    acts = acts_with h.acts did.acts;
    exchange =
        subst (λ (l : List (List ℕ)). ExchangeBy at (acts_with h.acts did.acts) (contents_sent at packets') next b l q) (sym shows.other)
        (subst (λ (l : List (List ℕ)). ExchangeBy at (acts_with h.acts did.acts) l next b (contents_sent (other_side at) packets) q) (sym shows.own)
        (exchange_on at h.acts b (contents_sent at packets) shown (contents_sent (other_side at) packets) p next q came moments wrote heard
        h.exchange carried.data_packets did));
    own =
        hands_on at h.acts b (contents_sent at packets) (contents_sent (other_side at) packets) shown p next q came moments wrote heard h.exchange
        carried.hands h.own did;
    others = hands_kept h.acts b did.acts q h.others;
  }

  pub negotiation_stands : (at : Side) (packets packets' : List SentPacket) (b : PeerActs) (q p next : PlainPolled N) → packets' ≡ packets
      → NegotiationActs (plain_over draws) p next → Stands at packets b q p → Stands at packets' b q next
  negotiation_stands at packets packets' b q p next kept did h =
      call_stands at packets packets' b q p next _ _ [] [] [] (begun_comes (contents_sent (other_side at) packets))
      (shows_none at packets packets' kept) did h

-- the same peer, and the same datagrams
pub same_stands : {N : Type 0} (at : Side) (packets packets' : List SentPacket) (b : PeerActs) (q p next : PlainPolled N) → next ≡ p → packets' ≡ packets
    → Stands at packets b q p → Stands at packets' b q next
same_stands {N} at packets packets' b q p next same kept h =
    subst (λ (l : List SentPacket). Stands at l b q next) (sym kept) (subst (λ (x : PlainPolled N). Stands at packets b q x) (sym same) h)

-- a pair, and the side that acts
pub record StandsIn {N : Type 0} (at : Side) (pair : PlainPair N) : Type 0 where
  pub other : PeerActs
  pub stands : Stands at pair.packets other (rtc_at (other_side at) pair) (rtc_at at pair)

pub pair_stands : {N : Type 0} (at : Side) (pair : PlainPair N) → HasExchanged pair → StandsIn at pair
pair_stands Left pair h = record {
  other = h.acts.right;
  stands = record { acts = h.acts.left; exchange = h.exchange; own = h.hands.left; others = h.hands.right };
}
pair_stands Right pair h = record {
  other = h.acts.left;
  stands = record { acts = h.acts.right; exchange = h.exchange; own = h.hands.right; others = h.hands.left };
}

pub stands_pair : {N : Type 0} (at : Side) (pair : PlainPair N) → StandsIn at pair → HasExchanged pair
stands_pair Left pair h = record {
  acts = record { left = h.stands.acts; right = h.other };
  exchange = h.stands.exchange;
  hands = record { left = h.stands.own; right = h.stands.others };
}
stands_pair Right pair h = record {
  acts = record { left = h.other; right = h.stands.acts };
  exchange = h.stands.exchange;
  hands = record { left = h.stands.others; right = h.stands.own };
}
