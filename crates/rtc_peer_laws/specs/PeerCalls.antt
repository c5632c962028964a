-- The public calls of a peer, by family. Each case is one call: its arguments, its result, and what its contract says of the peer before
-- and after it.
use Rattle.std.specs.Prelude.{◌≡◌, ℕ, Bool, List, [], ◌∷◌, Option, Result}
use Rattle.std.specs.declared.alloc.AllocError.{AllocError}
use Rattle.rtc_wire.specs.declared.channel_config.ChannelConfig.{ChannelConfig}
use Rattle.rtc_sdp_values.specs.declared.candidate.Candidate.{Candidate}
use Rattle.rtc_sdp_values.specs.declared.direction.Direction.{Direction}
use Rattle.rtc_sdp_values.specs.declared.fingerprint.Fingerprint.{Fingerprint}
use Rattle.rtc_sdp_values.specs.declared.ice_creds.IceCreds.{IceCreds}
use Rattle.rtc_sdp_values.specs.declared.media_kind.MediaKind.{MediaKind}
use Rattle.rtc_sdp_values.specs.declared.sdp.Sdp.{Sdp}
use Rattle.rtc_sdp_values.specs.declared.ssrc.Ssrc.{Ssrc}
use Rattle.rtc_sctp_values.specs.InitHalves.{InitHalves}
use Rattle.rtc_change.specs.PendingOffer.{PendingOffer}
use Rattle.rtc_peer_core.specs.declared.peer.Peer.{Peer}
use Rattle.rtc_peer_core.specs.declared.phase.Phase.TheVariants.{Closed}
use Rattle.rtc_peer_core.specs.declared.rtc_error.RtcError.{RtcError}
use Rattle.rtc_peer_core.specs.Acceptances.{AcceptsAnswer, AcceptsOffer}
use Rattle.rtc_peer_core.specs.Calls.{AddsChannel, AddsMedia, Applies, SetsDirection, StagesRestart, StopsMedia, Wanted}
use Rattle.rtc_peer_core.specs.Meanings.{Meanings}
use Rattle.rtc_peer_core.specs.RollingBack.{RollsBack}
use Rattle.rtc_peer_transport.specs.declared.input.Input.{Input}
use Rattle.rtc_peer_transport.specs.declared.output.Output.{Output}
use Rattle.rtc_peer_transport.specs.declared.polled_peer.PolledPeer.{PolledPeer}
use Rattle.rtc_peer_transport.specs.ChannelCalls.{ClosesDataChannel, SetsChannelThreshold, WritesChannel}
use Rattle.rtc_peer_transport.specs.Closing.{ClosesPeer}
use Rattle.rtc_peer_polling.specs.Inputs.{HandlesInput}
use Rattle.rtc_peer_polling.specs.Walk.{PollsPeer}
use Rattle.rtc_peer_direct.specs.ChannelMaking.{CreatesChannel, StartsStreams}
use Rattle.rtc_peer_direct.specs.DeclaredRows.{DeclaresMedia, RemovesMedia}
use Rattle.rtc_peer_direct.specs.DtlsCalls.{TakesDtlsRole, with_fingerprint}
use Rattle.rtc_peer_direct.specs.IceCalls.{InvalidatesCandidate, SetsControlling, SetsLite, SetsLocalCreds, SetsRemoteCreds}
use Rattle.rtc_peer_direct.specs.SourcesAndFeedback.{DrawsSource, EnablesTwcc, SendsAppFeedback, SendsPli, SetsRed}
use Rattle.rtc_peer_direct.specs.Streams.{DeclaresTx, ExpectsRx, LendsNamedRx, LendsNamedTx, LendsRx, LendsTx, LendsWriter}
use Rattle.rtc_peer_direct.specs.Streams.{RemovesRx, RemovesTx, ResetsTx}

module _ {I D S M E X T W N : Type 0} (m : Meanings I D S M E X T W N) where
  -- polls and inputs, and what closes a peer
  pub data TransportCalled (p q : PolledPeer I D S M N) : Type 0 where
    ByPoll : (answer : Result (Output E) RtcError) → PollsPeer m p answer q → TransportCalled p q
    ByInput : (input : Input) (answer : Result (Unit {0}) RtcError) → HandlesInput m input p answer q → TransportCalled p q
    ByClose : (answer : Result (Unit {0}) RtcError) → ClosesPeer m p answer q → TransportCalled p q
    ByDisconnect : q.core ≡ record p.core { phase = Closed } → q.transport ≡ p.transport → TransportCalled p q

  -- calls on data channels
  pub data ChannelCalled (p q : PolledPeer I D S M N) : Type 0 where
    ByWrite : (stream : ℕ) (binary : Bool) (bytes : List ℕ) (answer : Result Bool RtcError)
        → WritesChannel m stream binary bytes p answer q → ChannelCalled p q
    ByThreshold : (stream n : ℕ) → SetsChannelThreshold stream n p q → ChannelCalled p q
    ByChannelClose : (id : ℕ) (answer : Result (Unit {0}) AllocError) → ClosesDataChannel m id p answer q → ChannelCalled p q

  -- Calls that negotiate, and candidates that are signalled apart. They change the core alone. A handle on the negotiation that is taken
  -- drops what was staged.
  pub data NegotiationCalled (p q : Peer I D S M N) : Type 0 where
    ByHandle : q ≡ record p { staged = []; undo = [] } → NegotiationCalled p q
    ByOffer : (offer : Sdp) (answer : Result Sdp RtcError) → AcceptsOffer m p offer answer q → NegotiationCalled p q
    ByAnswer : (token : PendingOffer) (description : Sdp) (answer : Result (Unit {0}) RtcError)
        → AcceptsAnswer m p token description answer q → NegotiationCalled p q
    ByRollback : (token : PendingOffer) (answer : Result (Unit {0}) RtcError) → RollsBack p token answer q → NegotiationCalled p q
    ByMedia : (wanted : Wanted) (answer : Result (List ℕ) AllocError) → AddsMedia m p wanted answer q → NegotiationCalled p q
    ByNewChannel : (config : ChannelConfig) (answer : Result ℕ RtcError) → AddsChannel m p config answer q → NegotiationCalled p q
    ByDirection : (mid : List ℕ) (dir : Direction) (answer : Result Bool AllocError) → SetsDirection p mid dir answer q
        → NegotiationCalled p q
    ByStop : (mid : List ℕ) (answer : Result Bool AllocError) → StopsMedia p mid answer q → NegotiationCalled p q
    ByRestart : (keeps : Bool) (answer : Result IceCreds AllocError) → StagesRestart m p keeps answer q → NegotiationCalled p q
    ByApply : (answer : Result (Option (Sdp × PendingOffer)) AllocError) → Applies m p answer q → NegotiationCalled p q
    ByOwnCandidate : (candidate : Candidate) (answer : Result Bool AllocError) → m.ice.local_added p.ice candidate answer q.ice
        → q ≡ record p { ice = q.ice } → NegotiationCalled p q
    ByOtherCandidate : (candidate : Candidate) (answer : Result Bool AllocError) → m.ice.remote_added p.ice candidate answer q.ice
        → q ≡ record p { ice = q.ice } → NegotiationCalled p q

  -- calls without session descriptions on the agent, the DTLS part, the association and the channels
  pub data DirectlyCalled (p q : PolledPeer I D S M N) : Type 0 where
    ByControlling : (on : Bool) → SetsControlling m.ice on p q → DirectlyCalled p q
    ByLite : (on : Bool) → SetsLite m.ice on p q → DirectlyCalled p q
    ByLocalCreds : (creds : IceCreds) → SetsLocalCreds m.ice creds p q → DirectlyCalled p q
    ByRemoteCreds : (creds : IceCreds) → SetsRemoteCreds m.ice creds p q → DirectlyCalled p q
    ByInvalidation : (candidate : Candidate) (found : Bool) → InvalidatesCandidate m.ice candidate found p q → DirectlyCalled p q
    ByFingerprint : (fingerprint : Fingerprint) → q ≡ with_fingerprint fingerprint p → DirectlyCalled p q
    ByRole : (active : Bool) (answer : Result (Unit {0}) RtcError) → TakesDtlsRole m.dtls active p answer q → DirectlyCalled p q
    ByStart : (client : Bool) (halves : Option InitHalves) (answer : Result (Unit {0}) RtcError)
        → StartsStreams m.association client halves p answer q → DirectlyCalled p q
    ByCreation : (config : ChannelConfig) (answer : Result ℕ RtcError) → CreatesChannel config p answer q → DirectlyCalled p q

  -- calls without session descriptions on media lines, SSRCs, feedback and streams
  pub data MediaCalled (p q : PolledPeer I D S M N) : Type 0 where
    ByDeclaration : (mid : List ℕ) (kind : MediaKind) (answer : Result Bool AllocError) → DeclaresMedia mid kind p answer q
        → MediaCalled p q
    ByRemoval : (mid : List ℕ) (answer : Bool) → RemovesMedia m.media mid p answer q → MediaCalled p q
    BySource : (ssrc : Ssrc) → DrawsSource m.media m.ids p ssrc q → MediaCalled p q
    ByRed : (mid : List ℕ) (on answer : Bool) → SetsRed m.media mid on p answer q → MediaCalled p q
    ByTwcc : EnablesTwcc m.media p q → MediaCalled p q
    ByAppFeedback : (sender source : Ssrc) (payload : List ℕ) (answer : Result (Unit {0}) AllocError)
        → SendsAppFeedback m.media sender source payload p answer q → MediaCalled p q
    ByPli : (sender source : Ssrc) (answer : Result (Unit {0}) AllocError) → SendsPli m.media sender source p answer q → MediaCalled p q
    ByRxRemoval : (ssrc : Ssrc) (answer : Bool) → RemovesRx m.media ssrc p answer q → MediaCalled p q
    ByTxRemoval : (ssrc : Ssrc) (answer : Bool) → RemovesTx m.media ssrc p answer q → MediaCalled p q

  -- loans of streams and writers, from before the call to the end of the loan, whatever is written there
  pub data LoanCalled (p q : PolledPeer I D S M N) : Type 0 where
    ByExpectedRx : (ssrc : Ssrc) (rtx : Option Ssrc) (mid : List ℕ) (rid : Option (List ℕ)) (lent left : X)
        → ExpectsRx m.media ssrc rtx mid rid p lent left q → LoanCalled p q
    ByDeclaredTx : (ssrc : Ssrc) (rtx : Option Ssrc) (mid : List ℕ) (rid : Option (List ℕ)) (lent left : T)
        → DeclaresTx m.media ssrc rtx mid rid p lent left q → LoanCalled p q
    ByRx : (ssrc : Ssrc) (lent left : X) → LendsRx m.media ssrc p lent left q → LoanCalled p q
    ByTx : (ssrc : Ssrc) (lent left : T) → LendsTx m.media ssrc p lent left q → LoanCalled p q
    ByNamedRx : (mid : List ℕ) (rid : Option (List ℕ)) (lent left : X) → LendsNamedRx m.media mid rid p lent left q → LoanCalled p q
    ByNamedTx : (mid : List ℕ) (rid : Option (List ℕ)) (lent left : T) → LendsNamedTx m.media mid rid p lent left q → LoanCalled p q
    ByResetTx : (mid : List ℕ) (rid : Option (List ℕ)) (ssrc : Ssrc) (rtx : Option Ssrc) (lent left : T)
        → ResetsTx m.media mid rid ssrc rtx p lent left q → LoanCalled p q
    ByWriter : (mid : List ℕ) (lent left : W) → LendsWriter m.media mid p lent left q → LoanCalled p q

  -- any public call; a handle that is taken or dropped, a loan that is not given and a call that only reads leave the peer as it was
  pub data PeerCalled (p q : PolledPeer I D S M N) : Type 0 where
    OnTransport : TransportCalled p q → PeerCalled p q
    OnChannel : ChannelCalled p q → PeerCalled p q
    OnNegotiation : NegotiationCalled p.core q.core → q.transport ≡ p.transport → PeerCalled p q
    OnParts : DirectlyCalled p q → PeerCalled p q
    OnMedia : MediaCalled p q → PeerCalled p q
    OnLoan : LoanCalled p q → PeerCalled p q
    Unchanged : q ≡ p → PeerCalled p q

  -- any number of public calls, one after the other, and the peers in between
  abbrev pub CalledInTurn : PolledPeer I D S M N → List (PolledPeer I D S M N) → PolledPeer I D S M N → Type 0
  CalledInTurn p [] q = q ≡ p
  CalledInTurn p (next ∷ more) q = PeerCalled p next × CalledInTurn next more q
