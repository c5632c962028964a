-- No call makes a closed peer alive.
use Rattle.std.proofs.Common.{◌≡◌, ◌∷◌, ℕ, Bool, true, false, List, [], Result, Ok, Err, refl, ap, ◌∙◌}
use Rattle.rtc_wire.specs.declared.channel_config.ChannelConfig.{ChannelConfig}
use Rattle.rtc_sdp_values.specs.declared.direction.Direction.TheVariants.{Inactive}
use Rattle.rtc_parts.specs.AssociationLaws.{AssociationLaws}
use Rattle.rtc_peer_rows.specs.RowChanges.{directed_row, stopped_row}
use Rattle.rtc_peer_core.specs.declared.peer.Peer.{Peer}
use Rattle.rtc_peer_core.specs.declared.phase.Phase.TheVariants.{Closed}
use Rattle.rtc_peer_core.specs.declared.rtc_error.RtcError.{RtcError}
use Rattle.rtc_peer_core.specs.declared.rtc_error.RtcError.TheVariants.{RemoteSdp, Sdp as SdpRefused, Dtls, Sctp, Net, Media as MediaFailed, ChangesOutOfOrder, BadChannel, Alloc, Glare}
use Rattle.rtc_peer_core.specs.Meanings.{Meanings}
use Rattle.rtc_peer_transport.specs.declared.polled_peer.PolledPeer.{PolledPeer}
use Rattle.rtc_peer_direct.specs.ChannelMaking.{CreatesChannel}
use Rattle.rtc_peer_direct.specs.DeclaredRows.{RemovesMedia}
use Rattle.rtc_peer_laws.specs.PeerCalls.{CalledInTurn, ChannelCalled, DirectlyCalled, LoanCalled, MediaCalled, NegotiationCalled, PeerCalled, TransportCalled}
use Rattle.rtc_peer_laws.specs.PeerCalls.{ByPoll, ByInput, ByClose, ByDisconnect, ByWrite, ByThreshold, ByChannelClose}
use Rattle.rtc_peer_laws.specs.PeerCalls.{ByHandle, ByOffer, ByAnswer, ByRollback, ByMedia, ByNewChannel, ByDirection, ByStop, ByRestart, ByApply, ByOwnCandidate, ByOtherCandidate}
use Rattle.rtc_peer_laws.specs.PeerCalls.{ByControlling, ByLite, ByLocalCreds, ByRemoteCreds, ByInvalidation, ByFingerprint, ByRole, ByStart, ByCreation}
use Rattle.rtc_peer_laws.specs.PeerCalls.{ByDeclaration, ByRemoval, BySource, ByRed, ByTwcc, ByAppFeedback, ByPli, ByRxRemoval, ByTxRemoval}
use Rattle.rtc_peer_laws.specs.PeerCalls.{ByExpectedRx, ByDeclaredTx, ByRx, ByTx, ByNamedRx, ByNamedTx, ByResetTx, ByWriter}
use Rattle.rtc_peer_laws.specs.PeerCalls.{OnTransport, OnChannel, OnNegotiation, OnParts, OnMedia, OnLoan, Unchanged}
use Rattle.rtc_peer_laws.proofs.ClosedPeers.{line_closed, media_closed, poll_closed, restart_closed}
use Rattle.rtc_peer_laws.proofs.KeptAcceptances.{answer_keeps, offer_keeps}
use Rattle.rtc_peer_laws.proofs.KeptInputs.{input_keeps}
use Rattle.rtc_peer_laws.proofs.KeptPeers.{StaysClosed, channel_close_keeps, channel_write_keeps, close_keeps, threshold_keeps}
use Rattle.rtc_peer_laws.proofs.KeptRollbacks.{rolled_back}
use Rattle.rtc_peer_laws.proofs.KeptStaging.{applied, channel_added}

-- what is another peer of this phase
like_closed : {I D S M N : Type 0} (p n q : PolledPeer I D S M N) → q ≡ n → n.core.phase ≡ p.core.phase → StaysClosed p q
like_closed {I} {D} {S} {M} {N} p n q is same closed = ap (λ (x : PolledPeer I D S M N). x.core.phase) is ∙ same ∙ closed

-- a core that is another one of this phase
core_closed : {I D S M N : Type 0} (p n q : Peer I D S M N) → q ≡ n → n.phase ≡ p.phase → p.phase ≡ Closed → q.phase ≡ Closed
core_closed {I} {D} {S} {M} {N} p n q is same closed = ap (λ (x : Peer I D S M N). x.phase) is ∙ same ∙ closed

-- a channel that is made
created_closed : {I D S M N : Type 0} (config : ChannelConfig) (p : PolledPeer I D S M N) (r : Result ℕ RtcError) (q : PolledPeer I D S M N)
    → CreatesChannel config p r q → StaysClosed p q
created_closed config p (Ok id) q h = like_closed p _ q h.2 refl
created_closed config p (Err BadChannel) q h = like_closed p p q h.1 refl
created_closed config p (Err Alloc) q h = like_closed p p q h refl
created_closed config p (Err (RemoteSdp why)) q h = absurd h
created_closed config p (Err (SdpRefused error)) q h = absurd h
created_closed config p (Err (Dtls error)) q h = absurd h
created_closed config p (Err (Sctp error)) q h = absurd h
created_closed config p (Err (Net cause)) q h = absurd h
created_closed config p (Err (MediaFailed cause)) q h = absurd h
created_closed config p (Err ChangesOutOfOrder) q h = absurd h
created_closed config p (Err Glare) q h = absurd h

module _ {I D S M E X T W N : Type 0} (m : Meanings I D S M E X T W N) where
  -- a line that is removed
  removed_closed : (mid : List ℕ) (p : PolledPeer I D S M N) (r : Bool) (q : PolledPeer I D S M N) → RemovesMedia m.media mid p r q
      → StaysClosed p q
  removed_closed mid p true q h = like_closed p _ q h.2 refl
  removed_closed mid p false q h = like_closed p p q h.1 refl

  pub direct_closed : (p q : PolledPeer I D S M N) → DirectlyCalled m p q → StaysClosed p q
  direct_closed p q (ByControlling on h) = like_closed p _ q h.1 refl
  direct_closed p q (ByLite on h) = like_closed p _ q h.1 refl
  direct_closed p q (ByLocalCreds creds h) = like_closed p _ q h.1 refl
  direct_closed p q (ByRemoteCreds creds h) = like_closed p _ q h.1 refl
  direct_closed p q (ByInvalidation candidate found h) = like_closed p _ q h.1 refl
  direct_closed p q (ByFingerprint fingerprint h) = like_closed p _ q h refl
  direct_closed p q (ByRole active answer h) = like_closed p _ q h.4 refl
  direct_closed p q (ByStart client halves answer h) = like_closed p _ q h.3 refl
  direct_closed p q (ByCreation config answer h) = created_closed config p answer q h

  pub lines_closed : (p q : PolledPeer I D S M N) → MediaCalled m p q → StaysClosed p q
  lines_closed p q (ByDeclaration mid kind answer h) = like_closed p _ q h.1 refl
  lines_closed p q (ByRemoval mid answer h) = removed_closed mid p answer q h
  lines_closed p q (BySource ssrc h) = like_closed p _ q h.1 refl
  lines_closed p q (ByRed mid on answer h) = like_closed p _ q h.1 refl
  lines_closed p q (ByTwcc h) = like_closed p _ q h.1 refl
  lines_closed p q (ByAppFeedback sender source payload answer h) = like_closed p _ q h.1 refl
  lines_closed p q (ByPli sender source answer h) = like_closed p _ q h.1 refl
  lines_closed p q (ByRxRemoval ssrc answer h) = like_closed p _ q h.1 refl
  lines_closed p q (ByTxRemoval ssrc answer h) = like_closed p _ q h.1 refl

  pub loan_closed : (p q : PolledPeer I D S M N) → LoanCalled m p q → StaysClosed p q
  loan_closed p q (ByExpectedRx ssrc rtx mid rid lent left h) = like_closed p _ q h.1 refl
  loan_closed p q (ByDeclaredTx ssrc rtx mid rid lent left h) = like_closed p _ q h.1 refl
  loan_closed p q (ByRx ssrc lent left h) = like_closed p _ q h.1 refl
  loan_closed p q (ByTx ssrc lent left h) = like_closed p _ q h.1 refl
  loan_closed p q (ByNamedRx mid rid lent left h) = like_closed p _ q h.1 refl
  loan_closed p q (ByNamedTx mid rid lent left h) = like_closed p _ q h.1 refl
  loan_closed p q (ByResetTx mid rid ssrc rtx lent left h) = like_closed p _ q h.1 refl
  loan_closed p q (ByWriter mid lent left h) = like_closed p _ q h.1 refl

  module _ (laws : AssociationLaws m.association) where
    pub transport_closed : (p q : PolledPeer I D S M N) → TransportCalled m p q → StaysClosed p q
    transport_closed p q (ByPoll answer h) = poll_closed m p q answer h
    transport_closed p q (ByInput input answer h) = (input_keeps m laws input p answer q h).closed
    transport_closed p q (ByClose answer h) = (close_keeps m laws p answer q h).closed
    transport_closed p q (ByDisconnect is same) = λ closed. ap (λ (x : Peer I D S M N). x.phase) is

    pub channel_closed : (p q : PolledPeer I D S M N) → ChannelCalled m p q → StaysClosed p q
    channel_closed p q (ByWrite stream binary bytes answer h) = (channel_write_keeps m laws stream binary bytes p answer q h).closed
    channel_closed p q (ByThreshold stream n h) = (threshold_keeps m stream n p q h).closed
    channel_closed p q (ByChannelClose id answer h) = (channel_close_keeps m laws id p answer q h).closed

    pub negotiation_closed : (p q : PolledPeer I D S M N) → NegotiationCalled m p.core q.core → StaysClosed p q
    negotiation_closed p q (ByHandle is) = core_closed p.core _ q.core is refl
    negotiation_closed p q (ByOffer offer answer h) = (offer_keeps m laws p offer answer q.core h).closed
    negotiation_closed p q (ByAnswer token description answer h) = (answer_keeps m laws p token description answer q.core h).closed
    negotiation_closed p q (ByRollback token answer h) = (rolled_back m p token answer q.core h).closed
    negotiation_closed p q (ByMedia wanted answer h) = media_closed m p.core q.core wanted answer h
    negotiation_closed p q (ByNewChannel config answer h) = (channel_added m p config answer q.core h).closed
    negotiation_closed p q (ByDirection mid dir answer h) = line_closed (directed_row dir) dir p.core q.core mid answer h
    negotiation_closed p q (ByStop mid answer h) = line_closed stopped_row Inactive p.core q.core mid answer h
    negotiation_closed p q (ByRestart keeps answer h) = restart_closed m p.core q.core keeps answer h
    negotiation_closed p q (ByApply answer h) = (applied m p answer q.core h).closed
    negotiation_closed p q (ByOwnCandidate candidate answer h is) = core_closed p.core _ q.core is refl
    negotiation_closed p q (ByOtherCandidate candidate answer h is) = core_closed p.core _ q.core is refl

    pub call_closed : (p q : PolledPeer I D S M N) → PeerCalled m p q → StaysClosed p q
    call_closed p q (OnTransport h) = transport_closed p q h
    call_closed p q (OnChannel h) = channel_closed p q h
    call_closed p q (OnNegotiation h same) = negotiation_closed p q h
    call_closed p q (OnParts h) = direct_closed p q h
    call_closed p q (OnMedia h) = lines_closed p q h
    call_closed p q (OnLoan h) = loan_closed p q h
    call_closed p q (Unchanged is) = like_closed p p q is refl

    pub turns_closed : (p q : PolledPeer I D S M N) (between : List (PolledPeer I D S M N)) → CalledInTurn m p between q → StaysClosed p q
    turns_closed p q [] is = like_closed p p q is refl
    turns_closed p q (next ∷ more) h = λ closed. turns_closed next q more h.1 (call_closed p next h.0 closed)
