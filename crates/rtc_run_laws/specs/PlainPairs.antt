-- Pairs of peers over plain parts, and what was done to these since they were fresh.
use Rattle.std.specs.Prelude.{ℕ, ◌≡◌, List, ◌∷◌, None}
use Rattle.rtc_parts.specs.Among.{Member}
use Rattle.rtc_parts.specs.DtlsWords.{dtls_given, dtls_taken}
use Rattle.rtc_plain_ice.specs.Contents.{IceContents}
use Rattle.rtc_plain_ice.specs.PlainMeaning.{plain_ice}
use Rattle.rtc_plain_dtls.specs.Contents.{DtlsContents}
use Rattle.rtc_plain_dtls.specs.PlainMeaning.{plain_dtls}
use Rattle.rtc_assoc_state.specs.Contents.{Contents}
use Rattle.rtc_assoc_state.specs.PlainMeaning.{plain_meaning}
use Rattle.rtc_plain_media.specs.MediaContents.{MediaContents}
use Rattle.rtc_plain_media.specs.PlainMediaMeaning.{plain_media_meaning}
use Rattle.rtc_plain_media.specs.declared.plain_media_event.PlainMediaEvent.{PlainMediaEvent}
use Rattle.rtc_plain_media.specs.declared.plain_mark.PlainMark.{PlainMark}
use Rattle.rtc_parts.specs.Draws.{Draws}
use Rattle.rtc_peer_core.specs.Meanings.{Meanings, meanings}
use Rattle.rtc_peer_transport.specs.declared.polled_peer.PolledPeer.{PolledPeer}
use Rattle.rtc_peer_laws.specs.PeerActs.{PeerActs, dtls_roles, roles_after}
use Rattle.rtc_peer_laws.specs.Exchanging.{PeersExchange}
use Rattle.rtc_run_history.specs.declared.side.Side.{Side}
use Rattle.rtc_run_history.specs.declared.side.Side.TheVariants.{Left, Right}
use Rattle.rtc_run_history.specs.PairState.{PairState}
use Rattle.rtc_run_laws.specs.SentContents.{contents_sent}

-- plain parts with a source of numbers
abbrev pub plain_over : {N : Type 0} → Draws N
    → Meanings IceContents DtlsContents Contents MediaContents PlainMediaEvent PlainMark PlainMark PlainMark N
plain_over draws = meanings plain_ice plain_dtls plain_meaning plain_media_meaning draws

abbrev pub PlainPolled : Type 0 → Type 0
PlainPolled N = PolledPeer IceContents DtlsContents Contents MediaContents N

abbrev pub PlainPair : Type 0 → Type 0
PlainPair N = PairState IceContents DtlsContents Contents MediaContents N

-- what was done to the parts of both peers since they were fresh
pub record PairActs : Type 0 where
  pub left : PeerActs
  pub right : PeerActs

abbrev pub acts_at : Side → PairActs → PeerActs
acts_at Left acts = acts.left
acts_at Right acts = acts.right

-- Since their parts were fresh, these acts were done to the peers of a pair, and what each showed are the datagrams that the pair keeps as
-- sent by it. The two are joined.
abbrev pub PairExchanges : {N : Type 0} → PairActs → PlainPair N → Type 0
PairExchanges acts pair =
    PeersExchange acts.left (contents_sent Left pair.packets) pair.left acts.right (contents_sent Right pair.packets) pair.right

-- The DTLS role of a peer is the first that its part was given in these acts. The packets of the handshake (content type 22, RFC 6347,
-- section 4.1) that it received were taken from the other part.
pub record ShookHands {N : Type 0} (a : PeerActs) (p : PlainPolled N) (b : PeerActs) : Type 0 where
  pub role : p.core.dtls.active ≡ roles_after None (dtls_roles a.dtls)
  pub crosses : (bytes : List ℕ) → Member (22 ∷ bytes) (dtls_given a.dtls) → Member (22 ∷ bytes) (dtls_taken b.dtls)

pub record PairShookHands {N : Type 0} (acts : PairActs) (pair : PlainPair N) : Type 0 where
  pub left : ShookHands acts.left pair.left acts.right
  pub right : ShookHands acts.right pair.right acts.left

-- there are such acts
pub record HasExchanged {N : Type 0} (pair : PlainPair N) : Type 0 where
  pub acts : PairActs
  pub exchange : PairExchanges acts pair
  pub hands : PairShookHands acts pair
