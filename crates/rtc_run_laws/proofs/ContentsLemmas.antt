-- The contents of the datagrams that a pair keeps.
use Rattle.std.proofs.Common.{◌≡◌, ◌∙◌, ◌++◌, ◌∷◌, ℕ, zero, suc, Bool, true, false, List, [], Some, None, refl, sym, ap, subst, inl, inr, append-nil}
use Rattle.rtc_wire.specs.DatagramRecv.{bytes_lent}
use Rattle.rtc_wire.specs.declared.datagram_recv.DatagramRecv.{DatagramRecv}
use Rattle.rtc_wire.specs.declared.datagram_recv.DatagramRecv.TheVariants as datagrams
use Rattle.rtc_wire.specs.declared.transmit.Transmit.{Transmit}
use Rattle.rtc_parts.specs.Among.{Member}
use Rattle.rtc_peer_laws.specs.PeerActs.{came_of_datagram}
use Rattle.rtc_peer_laws.specs.JoinedPeers.{CarriesData}
use Rattle.rtc_peer_laws.proofs.JoinedLemmas.{begun_carries}
use Rattle.rtc_run_history.specs.declared.sent_packet.SentPacket.{SentPacket}
use Rattle.rtc_run_history.specs.declared.side.Side.{Side}
use Rattle.rtc_run_history.specs.declared.side.Side.TheVariants.{Left, Right}
use Rattle.rtc_run_history.specs.PairState.{packet_for, remote_packet}
use Rattle.rtc_run_history.specs.Performs.{sent_packet}
use Rattle.rtc_run_history.specs.Sides.{same_side, other_side}
use Rattle.rtc_run_laws.specs.SentContents.{contents_with, contents_sent}

same_itself : (at : Side) → same_side at at ≡ true
same_itself Left = refl
same_itself Right = refl

other_differs : (at : Side) → same_side at (other_side at) ≡ false
other_differs Left = refl
other_differs Right = refl

with_append : (own : Bool) (contents : List ℕ) (l k : List (List ℕ)) → contents_with own contents (l ++ k) ≡ contents_with own contents l ++ k
with_append true contents l k = refl
with_append false contents l k = refl

-- one more datagram of a side, and of the other one
more_own : (at : Side) (packets : List SentPacket) (transmit : Transmit)
    → contents_sent at (packets ++ sent_packet at transmit ∷ []) ≡ contents_sent at packets ++ transmit.contents ∷ []
more_own at [] transmit = ap (λ (own : Bool). contents_with own transmit.contents []) (same_itself at)
more_own at (sent ∷ packets) transmit =
    ap (λ (l : List (List ℕ)). contents_with (same_side sent.at at) sent.transmit.contents l) (more_own at packets transmit)
    ∙ with_append (same_side sent.at at) sent.transmit.contents (contents_sent at packets) (transmit.contents ∷ [])

more_other : (at : Side) (packets : List SentPacket) (transmit : Transmit)
    → contents_sent (other_side at) (packets ++ sent_packet at transmit ∷ []) ≡ contents_sent (other_side at) packets
more_other at [] transmit = ap (λ (own : Bool). contents_with own transmit.contents []) (other_differs at)
more_other at (sent ∷ packets) transmit =
    ap (λ (l : List (List ℕ)). contents_with (same_side sent.at (other_side at)) sent.transmit.contents l) (more_other at packets transmit)

-- What a side shows goes to its contents, and those of the other side stay.
pub record Shows (at : Side) (packets packets' : List SentPacket) (shown : List (List ℕ)) : Type 0 where
  pub own : contents_sent at packets' ≡ contents_sent at packets ++ shown
  pub other : contents_sent (other_side at) packets' ≡ contents_sent (other_side at) packets

pub shows_one : (at : Side) (packets packets' : List SentPacket) (transmit : Transmit) → packets' ≡ packets ++ sent_packet at transmit ∷ []
    → Shows at packets packets' (transmit.contents ∷ [])
shows_one at packets packets' transmit is = record {
  own = ap (contents_sent at) is ∙ more_own at packets transmit;
  other = ap (contents_sent (other_side at)) is ∙ more_other at packets transmit;
}

pub shows_none : (at : Side) (packets packets' : List SentPacket) → packets' ≡ packets → Shows at packets packets' []
shows_none at packets packets' is = record {
  own = ap (contents_sent at) is ∙ sym (append-nil (contents_sent at packets));
  other = ap (contents_sent (other_side at)) is;
}

-- a datagram of the other side is among its contents
here_sent : (by at : Side) (sent transmit : Transmit) (more : List (List ℕ)) → packet_for at (Some (record { at = by; transmit = sent })) ≡ Some transmit
    → Member transmit.contents (contents_with (same_side by (other_side at)) sent.contents more)
here_sent Left Left sent transmit more is = absurd (let e : None ≡ Some transmit = is in cc)
here_sent Left Right sent transmit more is = let e : Some sent ≡ Some transmit = is in let g : transmit ≡ sent = cc in inl (ap (λ (t : Transmit). t.contents) g)
here_sent Right Left sent transmit more is = let e : Some sent ≡ Some transmit = is in let g : transmit ≡ sent = cc in inl (ap (λ (t : Transmit). t.contents) g)
here_sent Right Right sent transmit more is = absurd (let e : None ≡ Some transmit = is in cc)

later_sent : (own : Bool) (x contents : List ℕ) (more : List (List ℕ)) → Member x more → Member x (contents_with own contents more)
later_sent true x contents more m = inr m
later_sent false x contents more m = m

pub sent_among : (at : Side) (packets : List SentPacket) (k : ℕ) (transmit : Transmit) → remote_packet packets at k ≡ Some transmit
    → Member transmit.contents (contents_sent (other_side at) packets)
sent_among at [] k transmit is = absurd (let e : None ≡ Some transmit = is in cc)
sent_among at (sent ∷ packets) zero transmit is = here_sent sent.at at sent.transmit transmit (contents_sent (other_side at) packets) is
sent_among at (sent ∷ packets) (suc k) transmit is =
    later_sent (same_side sent.at (other_side at)) transmit.contents sent.transmit.contents (contents_sent (other_side at) packets)
    (sent_among at packets k transmit is)

-- a datagram that comes carries application data in its own bytes alone
one_carries : (bytes : List ℕ) (others : List (List ℕ)) → Member bytes others → CarriesData (bytes ∷ []) others
one_carries bytes others there = record {
  each = λ payload m. elim m [ inl e ↦ subst (λ (x : List ℕ). Member x others) (sym e) there | inr n ↦ absurd n ];
}

no_data : (others : List (List ℕ)) → CarriesData [] others
no_data others = record { each = λ payload m. absurd m }

pub datagram_carries : (datagram : DatagramRecv) (bytes : List ℕ) (others : List (List ℕ)) → bytes_lent datagram ≡ bytes → Member bytes others
    → CarriesData (came_of_datagram datagram).dtls others
datagram_carries (datagrams.Stun view) bytes others is there = no_data others
datagram_carries (datagrams.Dtls lent) bytes others is there = one_carries lent.now others (subst (λ (x : List ℕ). Member x others) (sym is) there)
datagram_carries (datagrams.Rtp lent) bytes others is there = no_data others
datagram_carries (datagrams.Rtcp lent) bytes others is there = no_data others

-- ---- packets of the handshake

-- each packet of the handshake among these is among those
pub record CarriesHands (given_packets taken_packets : List (List ℕ)) : Type 0 where
  pub each : (bytes : List ℕ) → Member (22 ∷ bytes) given_packets → Member (22 ∷ bytes) taken_packets

-- and so is each packet of application data
pub record Carries (given_packets taken_packets : List (List ℕ)) : Type 0 where
  pub data_packets : CarriesData given_packets taken_packets
  pub hands : CarriesHands given_packets taken_packets

one_hands : (bytes : List ℕ) (others : List (List ℕ)) → Member bytes others → CarriesHands (bytes ∷ []) others
one_hands bytes others there = record {
  each = λ rest m. elim m [ inl e ↦ subst (λ (x : List ℕ). Member x others) (sym e) there | inr n ↦ absurd n ];
}

no_hands : (others : List (List ℕ)) → CarriesHands [] others
no_hands others = record { each = λ rest m. absurd m }

pub nothing_comes : (others : List (List ℕ)) → Carries [] others
nothing_comes others = record { data_packets = no_data others; hands = no_hands others }

empty_hand : (bytes : List ℕ) → Member (22 ∷ bytes) ([] ∷ []) → ⊥
empty_hand bytes (inl e) = cc (e)
empty_hand bytes (inr m) = absurd m

pub begun_comes : (others : List (List ℕ)) → Carries ([] ∷ []) others
begun_comes others = record { data_packets = begun_carries others; hands = record { each = λ bytes m. absurd (empty_hand bytes m) } }

datagram_hands : (datagram : DatagramRecv) (bytes : List ℕ) (others : List (List ℕ)) → bytes_lent datagram ≡ bytes → Member bytes others
    → CarriesHands (came_of_datagram datagram).dtls others
datagram_hands (datagrams.Stun view) bytes others is there = no_hands others
datagram_hands (datagrams.Dtls lent) bytes others is there = one_hands lent.now others (subst (λ (x : List ℕ). Member x others) (sym is) there)
datagram_hands (datagrams.Rtp lent) bytes others is there = no_hands others
datagram_hands (datagrams.Rtcp lent) bytes others is there = no_hands others

pub datagram_comes : (datagram : DatagramRecv) (bytes : List ℕ) (others : List (List ℕ)) → bytes_lent datagram ≡ bytes → Member bytes others
    → Carries (came_of_datagram datagram).dtls others
datagram_comes datagram bytes others is there =
    record { data_packets = datagram_carries datagram bytes others is there; hands = datagram_hands datagram bytes others is there }
