-- Calls that relay, one after the other; what each call does is seen in its acts.
use Rattle.std.proofs.Common.{◌++◌, ℕ, List, [], refl, sym, subst}
use Rattle.rtc_parts.specs.Among.{Member, Among}
use Rattle.rtc_parts.proofs.AmongLemmas.{member-left, member-right, among_none, among_self}
use Rattle.rtc_parts.specs.AssociationActs.{moved-append}
use Rattle.rtc_parts.specs.AssociationWords.{given, taken}
use Rattle.rtc_parts.proofs.AssociationLemmas.{given-append, taken-append}
use Rattle.rtc_parts.specs.DtlsActs.{dtls_moved-append}
use Rattle.rtc_parts.specs.DtlsWords.{dtls_sent, dtls_got}
use Rattle.rtc_parts.proofs.DtlsLemmas.{dtls_sent-append, dtls_got-append}
use Rattle.rtc_sctp_laws.specs.StreamMessages.{StreamMessage, pushed_packets}
use Rattle.rtc_peer_core.specs.Meanings.{Meanings}
use Rattle.rtc_peer_transport.specs.declared.polled_peer.PolledPeer.{PolledPeer}
use Rattle.rtc_peer_laws.specs.PeerActs.{Came}
use Rattle.rtc_peer_laws.specs.Acts.{PeerDid}
use Rattle.rtc_peer_laws.specs.Relay.{Relays}
use Rattle.rtc_peer_laws.proofs.ActWords.{among_pair, through}

module _ {I D S M E X T W N : Type 0} (m : Meanings I D S M E X T W N) where
  pub relays_none : (p : PolledPeer I D S M N) → Relays m p p
  relays_none p = record {
    dtls_acts = [];
    association_acts = [];
    dtls_went = refl;
    association_went = refl;
    handed = among_none [];
    relayed = among_self (pushed_packets p.core.sctp.pushed);
  }

  pub relays_on : (p q r : PolledPeer I D S M N) → Relays m p q → Relays m q r → Relays m p r
  relays_on p q r a b = record {
    dtls_acts = a.dtls_acts ++ b.dtls_acts;
    association_acts = a.association_acts ++ b.association_acts;
    dtls_went = dtls_moved-append m.dtls _ q.core.dtls.instance _ a.dtls_acts b.dtls_acts a.dtls_went b.dtls_went;
    association_went = moved-append m.association _ q.core.sctp.association _ a.association_acts b.association_acts a.association_went b.association_went;
    handed =
        among_pair _ _ (given a.association_acts) (given b.association_acts) (dtls_got a.dtls_acts) (dtls_got b.dtls_acts)
        (given-append a.association_acts b.association_acts) (dtls_got-append a.dtls_acts b.dtls_acts) a.handed b.handed;
    relayed =
        subst (λ (l : List (List ℕ)). Among (l ++ pushed_packets r.core.sctp.pushed) (taken (a.association_acts ++ b.association_acts) ++ pushed_packets p.core.sctp.pushed))
        (sym (dtls_sent-append a.dtls_acts b.dtls_acts))
        (through (dtls_sent a.dtls_acts) (dtls_sent b.dtls_acts) (pushed_packets q.core.sctp.pushed) (pushed_packets r.core.sctp.pushed)
        (taken (a.association_acts ++ b.association_acts)) (taken a.association_acts) (taken b.association_acts) (pushed_packets p.core.sctp.pushed)
        (λ x n. subst (λ (l : List (List ℕ)). Member x l) (sym (taken-append a.association_acts b.association_acts))
        (member-left x (taken a.association_acts) (taken b.association_acts) n))
        (λ x n. subst (λ (l : List (List ℕ)). Member x l) (sym (taken-append a.association_acts b.association_acts))
        (member-right x (taken a.association_acts) (taken b.association_acts) n))
        a.relayed b.relayed);
  }

  -- acts by which packets were relayed
  pub did_relay : (came : Came) (moments : List ℕ) (shown : List (List ℕ)) (wrote heard : List StreamMessage) (p q : PolledPeer I D S M N)
      → PeerDid m came moments shown wrote heard p q → Relays m p q
  did_relay came moments shown wrote heard p q h = record {
    dtls_acts = h.acts.dtls;
    association_acts = h.acts.association;
    dtls_went = h.went.dtls;
    association_went = h.went.association;
    handed = h.handed;
    relayed = h.relayed;
  }
