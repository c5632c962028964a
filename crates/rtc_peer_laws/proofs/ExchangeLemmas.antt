-- Two peers over plain parts that exchange datagrams stay joined.
use Rattle.std.proofs.Common.{◌++◌, ℕ, List}
use Rattle.rtc_parts.specs.DtlsWords.{dtls_taken}
use Rattle.rtc_plain_ice.specs.Contents.{IceContents}
use Rattle.rtc_plain_ice.specs.PlainMeaning.{plain_ice}
use Rattle.rtc_plain_dtls.specs.Contents.{DtlsContents}
use Rattle.rtc_plain_dtls.specs.PlainMeaning.{plain_dtls}
use Rattle.rtc_assoc_state.specs.Contents.{Contents}
use Rattle.rtc_assoc_state.specs.PlainMeaning.{plain_meaning}
use Rattle.rtc_assoc.specs.Unread.{IsPrefix}
use Rattle.rtc_assoc.proofs.DirectedLemmas.{directed_prefix}
use Rattle.rtc_assoc.proofs.RunLemmas.{both_run}
use Rattle.rtc_parts.specs.AssociationWords.{written, read}
use Rattle.rtc_plain_media.specs.MediaContents.{MediaContents}
use Rattle.rtc_plain_media.specs.PlainMediaMeaning.{plain_media_meaning}
use Rattle.rtc_parts.specs.Draws.{Draws}
use Rattle.rtc_sctp_laws.specs.StreamMessages.{StreamMessage}
use Rattle.rtc_peer_core.specs.Meanings.{meanings}
use Rattle.rtc_peer_transport.specs.declared.polled_peer.PolledPeer.{PolledPeer}
use Rattle.rtc_peer_laws.specs.Acts.{PeerDid}
use Rattle.rtc_peer_laws.specs.PeerActs.{Came, PeerActs, acts_with}
use Rattle.rtc_peer_laws.specs.Exchanging.{PeersExchange, parts_past}
use Rattle.rtc_peer_laws.specs.JoinedPeers.{CarriesData, ends_of, packet_parts}
use Rattle.rtc_peer_laws.proofs.JoinedLemmas.{left_stays, right_stays}
use Rattle.rtc_peer_laws.proofs.ShownLemmas.{shown_data, shown_on}

data_through : (came shown packets : List (List ℕ)) → CarriesData came shown → CarriesData shown packets → CarriesData came packets
data_through came shown packets h k = record { each = λ bytes n. k.each bytes (h.each bytes n) }

module _ {N : Type 0} (ids : Draws N) where
  pub left_exchanges : (a b : PeerActs) (before after others : List (List ℕ)) (p next q : PolledPeer IceContents DtlsContents Contents MediaContents N)
      (came : Came) (moments : List ℕ) (wrote heard : List StreamMessage) → PeersExchange a before p b others q → CarriesData came.dtls others
      → (did : PeerDid (meanings plain_ice plain_dtls plain_meaning plain_media_meaning ids) came moments after wrote heard p next)
      → PeersExchange (acts_with a did.acts) (before ++ after) next b others q
  left_exchanges a b before after others p next q came moments wrote heard x more did =
      let carried = data_through came.dtls others (dtls_taken b.dtls) more
      (shown_data b others q.core.dtls.packets q.core.ice q.core.media x.right) in
      record {
        joined =
            left_stays (parts_past a) (parts_past b) (packet_parts p) (packet_parts next) (packet_parts q) did.acts came.dtls did.went.dtls
            did.went.association did.given_dtls carried did.handed did.relayed x.joined;
        left =
            shown_on a did.acts before after p.core.ice next.core.ice p.core.media next.core.media p.core.dtls.packets next.core.dtls.packets x.left
            did.went.ice did.went.media did.sent;
        right = x.right;
      }

  pub right_exchanges : (a b : PeerActs) (before after others : List (List ℕ)) (p q next : PolledPeer IceContents DtlsContents Contents MediaContents N)
      (came : Came) (moments : List ℕ) (wrote heard : List StreamMessage) → PeersExchange a others p b before q → CarriesData came.dtls others
      → (did : PeerDid (meanings plain_ice plain_dtls plain_meaning plain_media_meaning ids) came moments after wrote heard q next)
      → PeersExchange a others p (acts_with b did.acts) (before ++ after) next
  right_exchanges a b before after others p q next came moments wrote heard x more did =
      let carried = data_through came.dtls others (dtls_taken a.dtls) more
      (shown_data a others p.core.dtls.packets p.core.ice p.core.media x.left) in
      record {
        joined =
            right_stays (parts_past a) (parts_past b) (packet_parts p) (packet_parts q) (packet_parts next) did.acts came.dtls did.went.dtls
            did.went.association did.given_dtls carried did.handed did.relayed x.joined;
        left = x.left;
        right =
            shown_on b did.acts before after q.core.ice next.core.ice q.core.media next.core.media q.core.dtls.packets next.core.dtls.packets x.right
            did.went.ice did.went.media did.sent;
      }

module _ {N : Type 0} (a b : PeerActs) (left right : List (List ℕ)) (p q : PolledPeer IceContents DtlsContents Contents MediaContents N) (s g : ℕ) where
  pub right_reads : PeersExchange a left p b right q → IsPrefix (read s g b.association) (written s g a.association)
  right_reads x =
      let h = both_run x.joined.moves (ends_of (parts_past a) (packet_parts p) (parts_past b) (packet_parts q)) x.joined.run in
      directed_prefix h.there p.core.sctp.association q.core.sctp.association a.association b.association s g h.forth_is

  pub left_reads : PeersExchange a left p b right q → IsPrefix (read s g a.association) (written s g b.association)
  left_reads x =
      let h = both_run x.joined.moves (ends_of (parts_past a) (packet_parts p) (parts_past b) (packet_parts q)) x.joined.run in
      directed_prefix h.back q.core.sctp.association p.core.sctp.association b.association a.association s g h.back_is
