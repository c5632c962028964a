-- Every call of a peer relays packets.
use Rattle.std.proofs.Common.{◌≡◌, ◌∷◌, List, [], refl, ap}
use Rattle.rtc_parts.specs.IceActs.{IceCall, IceCalled, Stirred as IceStirred, ControllingSet, Invalidated, LiteSet, LocalAdded, LocalSet, RemoteAdded, RemoteSet}
use Rattle.rtc_parts.specs.MediaActs.{AppFed, LendsMedia, PliFed, RedSet, RxExpected, RxLent, RxNamedLent, RxRemoved, StirsMedia}
use Rattle.rtc_parts.specs.MediaActs.{TwccEnabled, TxDeclared, TxLent, TxNamedLent, TxRemoved, TxReset, WriterLent}
use Rattle.rtc_sdp_values.specs.declared.direction.Direction.TheVariants.{Inactive}
use Rattle.rtc_peer_rows.specs.RowChanges.{directed_row, stopped_row}
use Rattle.rtc_peer_core.specs.declared.peer.Peer.{Peer}
use Rattle.rtc_peer_core.specs.Meanings.{Meanings, PartsLaws}
use Rattle.rtc_peer_transport.specs.declared.polled_peer.PolledPeer.{PolledPeer}
use Rattle.rtc_peer_transport.specs.Connection.{with_media}
use Rattle.rtc_peer_laws.specs.Acts.{CallActs, NegotiationActs, begun_here, with_core}
use Rattle.rtc_peer_laws.specs.PeerActs.{ice_moments, nothing_came}
use Rattle.rtc_peer_laws.specs.PeerCalls.{CalledInTurn, ChannelCalled, DirectlyCalled, LoanCalled, MediaCalled, NegotiationCalled, PeerCalled, TransportCalled}
use Rattle.rtc_peer_laws.specs.PeerCalls.{ByPoll, ByInput, ByClose, ByDisconnect, ByWrite, ByThreshold, ByChannelClose}
use Rattle.rtc_peer_laws.specs.PeerCalls.{ByHandle, ByOffer, ByAnswer, ByRollback, ByMedia, ByNewChannel, ByDirection, ByStop, ByRestart, ByApply, ByOwnCandidate, ByOtherCandidate}
use Rattle.rtc_peer_laws.specs.PeerCalls.{ByControlling, ByLite, ByLocalCreds, ByRemoteCreds, ByInvalidation, ByFingerprint, ByRole, ByStart, ByCreation}
use Rattle.rtc_peer_laws.specs.PeerCalls.{ByDeclaration, ByRemoval, BySource, ByRed, ByTwcc, ByAppFeedback, ByPli, ByRxRemoval, ByTxRemoval}
use Rattle.rtc_peer_laws.specs.PeerCalls.{ByExpectedRx, ByDeclaredTx, ByRx, ByTx, ByNamedRx, ByNamedTx, ByResetTx, ByWriter}
use Rattle.rtc_peer_laws.specs.PeerCalls.{OnTransport, OnChannel, OnNegotiation, OnParts, OnMedia, OnLoan, Unchanged}
use Rattle.rtc_peer_laws.specs.Relay.{Relays}
use Rattle.rtc_peer_laws.proofs.ActedAcceptances.{answer_did, offer_did, rollback_did}
use Rattle.rtc_peer_laws.proofs.ActedChanges.{applied_called, channel_called, core_called, line_called, media_staged, restart_staged}
use Rattle.rtc_peer_laws.proofs.ActedClosing.{close_acts}
use Rattle.rtc_peer_laws.proofs.ActedDirectCalls.{agent_called, creates_called, lent_told, like_called, media_called, removes_called, role_did, starts_called, stirred_told}
use Rattle.rtc_peer_laws.proofs.ActedInputs.{channel_close_acts, input_acts, threshold_acts, write_acts}
use Rattle.rtc_peer_laws.proofs.ActedPolls.{poll_acts}
use Rattle.rtc_peer_laws.proofs.FollowedParts.{agent_call}
use Rattle.rtc_peer_laws.proofs.RelayedCalls.{did_relay, relays_on}

module _ {I D S M E X T W N : Type 0} (m : Meanings I D S M E X T W N) where
  -- a call to which nothing came
  called_relay : (p q : PolledPeer I D S M N) → CallActs m [] p q → Relays m p q
  called_relay p q h = did_relay m nothing_came [] [] [] [] p q h

  -- what a call leaves of the parts is in the core
  core_relays : (p q : PolledPeer I D S M N) → Relays m p (with_core q.core p) → Relays m p q
  core_relays p q h = record {
    dtls_acts = h.dtls_acts;
    association_acts = h.association_acts;
    dtls_went = h.dtls_went;
    association_went = h.association_went;
    handed = h.handed;
    relayed = h.relayed;
  }

  staged_relays : (p q : PolledPeer I D S M N) → CallActs m [] p (with_core q.core p) → Relays m p q
  staged_relays p q h = core_relays p q (called_relay p (with_core q.core p) h)

  negotiated_relays : (p q : PolledPeer I D S M N) → NegotiationActs m p (with_core q.core p) → Relays m p q
  negotiated_relays p q h = core_relays p q (did_relay m begun_here (p.core.greatest ∷ []) [] [] [] p (with_core q.core p) h)

  stirred_relays : (p q : PolledPeer I D S M N) → StirsMedia m.media p.core.media q.core.media → q ≡ with_media q.core.media p
      → Relays m p q
  stirred_relays p q h is = called_relay p q (media_called m p q (stirred_told m.media p.core.media q.core.media h) is)

  lent_relays : (p q : PolledPeer I D S M N) → LendsMedia m.media p.core.media q.core.media → q ≡ with_media q.core.media p → Relays m p q
  lent_relays p q h is = called_relay p q (media_called m p q (lent_told m.media p.core.media q.core.media h) is)

  told_relays : (p q : PolledPeer I D S M N) (call : IceCall) → IceCalled m.ice p.core.ice call q.core.ice
      → ice_moments (IceStirred call ∷ []) ≡ [] → q.core ≡ record p.core { ice = q.core.ice } → Relays m p q
  told_relays p q call h timed is =
      staged_relays p q (agent_called m p (with_core q.core p) (agent_call m.ice p.core.ice q.core.ice call h timed)
      (ap (λ (x : Peer I D S M N). with_core x p) is))

  pub direct_relays : (p q : PolledPeer I D S M N) → DirectlyCalled m p q → Relays m p q
  direct_relays p q (ByControlling on h) =
      called_relay p q (agent_called m p q (agent_call m.ice p.core.ice q.core.ice (ControllingSet on) h.0 refl) h.1)
  direct_relays p q (ByLite on h) =
      called_relay p q (agent_called m p q (agent_call m.ice p.core.ice q.core.ice (LiteSet on) h.0 refl) h.1)
  direct_relays p q (ByLocalCreds creds h) =
      called_relay p q (agent_called m p q (agent_call m.ice p.core.ice q.core.ice (LocalSet creds) h.0 refl) h.1)
  direct_relays p q (ByRemoteCreds creds h) =
      called_relay p q (agent_called m p q (agent_call m.ice p.core.ice q.core.ice (RemoteSet creds) h.0 refl) h.1)
  direct_relays p q (ByInvalidation candidate found h) =
      called_relay p q (agent_called m p q (agent_call m.ice p.core.ice q.core.ice (Invalidated candidate found) h.0 refl) h.1)
  direct_relays p q (ByFingerprint fingerprint h) = called_relay p q (like_called m p _ q h refl refl refl refl)
  direct_relays p q (ByRole active answer h) =
      did_relay m begun_here (p.core.greatest ∷ []) [] [] [] p q (role_did m active p answer q h)
  direct_relays p q (ByStart client halves answer h) = called_relay p q (starts_called m client halves p answer q h)
  direct_relays p q (ByCreation config answer h) = called_relay p q (creates_called m config p answer q h)

  pub lines_relay : (p q : PolledPeer I D S M N) → MediaCalled m p q → Relays m p q
  lines_relay p q (ByDeclaration mid kind answer h) = called_relay p q (like_called m p _ q h.1 refl refl refl refl)
  lines_relay p q (ByRemoval mid answer h) = called_relay p q (removes_called m mid p answer q h)
  lines_relay p q (BySource ssrc h) = called_relay p q (like_called m p _ q h.1 refl refl refl refl)
  lines_relay p q (ByRed mid on answer h) = stirred_relays p q (RedSet mid on answer h.0) h.1
  lines_relay p q (ByTwcc h) = stirred_relays p q (TwccEnabled h.0) h.1
  lines_relay p q (ByAppFeedback sender source payload answer h) = stirred_relays p q (AppFed sender source payload answer h.0) h.1
  lines_relay p q (ByPli sender source answer h) = stirred_relays p q (PliFed sender source answer h.0) h.1
  lines_relay p q (ByRxRemoval ssrc answer h) = stirred_relays p q (RxRemoved ssrc answer h.0) h.1
  lines_relay p q (ByTxRemoval ssrc answer h) = stirred_relays p q (TxRemoved ssrc answer h.0) h.1

  pub loan_relays : (p q : PolledPeer I D S M N) → LoanCalled m p q → Relays m p q
  loan_relays p q (ByExpectedRx ssrc rtx mid rid lent left h) = lent_relays p q (RxExpected ssrc rtx mid rid lent left h.0) h.1
  loan_relays p q (ByDeclaredTx ssrc rtx mid rid lent left h) = lent_relays p q (TxDeclared ssrc rtx mid rid lent left h.0) h.1
  loan_relays p q (ByRx ssrc lent left h) = lent_relays p q (RxLent ssrc lent left h.0) h.1
  loan_relays p q (ByTx ssrc lent left h) = lent_relays p q (TxLent ssrc lent left h.0) h.1
  loan_relays p q (ByNamedRx mid rid lent left h) = lent_relays p q (RxNamedLent mid rid lent left h.0) h.1
  loan_relays p q (ByNamedTx mid rid lent left h) = lent_relays p q (TxNamedLent mid rid lent left h.0) h.1
  loan_relays p q (ByResetTx mid rid ssrc rtx lent left h) = lent_relays p q (TxReset mid rid ssrc rtx lent left h.0) h.1
  loan_relays p q (ByWriter mid lent left h) = lent_relays p q (WriterLent mid lent left h.0) h.1

  channel_relays : (p q : PolledPeer I D S M N) → ChannelCalled m p q → Relays m p q
  channel_relays p q (ByWrite stream binary bytes answer h) = did_relay m _ _ _ _ _ p q (write_acts m stream binary bytes p answer q h)
  channel_relays p q (ByThreshold stream n h) = called_relay p q (threshold_acts m stream n p q h)
  channel_relays p q (ByChannelClose id answer h) = called_relay p q (channel_close_acts m id p answer q h)

  pub negotiation_relays : (p q : PolledPeer I D S M N) → NegotiationCalled m p.core q.core → Relays m p q
  negotiation_relays p q (ByHandle is) = staged_relays p q (core_called m p _ q.core is refl refl refl refl)
  negotiation_relays p q (ByOffer offer answer h) = negotiated_relays p q (offer_did m p offer answer q.core h)
  negotiation_relays p q (ByAnswer token description answer h) = negotiated_relays p q (answer_did m p token description answer q.core h)
  negotiation_relays p q (ByRollback token answer h) = negotiated_relays p q (rollback_did m p token answer q.core h)
  negotiation_relays p q (ByMedia wanted answer h) = staged_relays p q (media_staged m p q.core wanted answer h)
  negotiation_relays p q (ByNewChannel config answer h) = staged_relays p q (channel_called m p q.core config answer h)
  negotiation_relays p q (ByDirection mid dir answer h) = staged_relays p q (line_called m (directed_row dir) dir p q.core mid answer h)
  negotiation_relays p q (ByStop mid answer h) = staged_relays p q (line_called m stopped_row Inactive p q.core mid answer h)
  negotiation_relays p q (ByRestart keeps answer h) = staged_relays p q (restart_staged m p q.core keeps answer h)
  negotiation_relays p q (ByApply answer h) = staged_relays p q (applied_called m p q.core answer h)
  negotiation_relays p q (ByOwnCandidate candidate answer h is) = told_relays p q (LocalAdded candidate answer) h refl is
  negotiation_relays p q (ByOtherCandidate candidate answer h is) = told_relays p q (RemoteAdded candidate answer) h refl is

  module _ (laws : PartsLaws m) where
    transport_relays : (p q : PolledPeer I D S M N) → TransportCalled m p q → Relays m p q
    transport_relays p q (ByPoll answer h) = did_relay m _ _ _ _ _ p q (poll_acts m laws p answer q h).did
    transport_relays p q (ByInput input answer h) = did_relay m _ _ _ _ _ p q (input_acts m laws.association input p answer q h)
    transport_relays p q (ByClose answer h) = called_relay p q (close_acts m nothing_came [] laws.association p answer q h)
    transport_relays p q (ByDisconnect is same) = staged_relays p q (core_called m p _ q.core is refl refl refl refl)

    pub call_relays : (p q : PolledPeer I D S M N) → PeerCalled m p q → Relays m p q
    call_relays p q (OnTransport h) = transport_relays p q h
    call_relays p q (OnChannel h) = channel_relays p q h
    call_relays p q (OnNegotiation h same) = negotiation_relays p q h
    call_relays p q (OnParts h) = direct_relays p q h
    call_relays p q (OnMedia h) = lines_relay p q h
    call_relays p q (OnLoan h) = loan_relays p q h
    call_relays p q (Unchanged is) = called_relay p q (like_called m p p q is refl refl refl refl)

    pub turns_relay : (p q : PolledPeer I D S M N) (between : List (PolledPeer I D S M N)) → CalledInTurn m p between q → Relays m p q
    turns_relay p q [] is = called_relay p q (like_called m p p q is refl refl refl refl)
    turns_relay p q (next ∷ more) h = relays_on m p next q (call_relays p next h.0) (turns_relay next q more h.1)
