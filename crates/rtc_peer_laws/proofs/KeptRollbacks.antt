-- An offer that is rolled back leaves the use of each stream, and each channel that does not go.
use Rattle.std.proofs.Common.{◌≡◌, ◌≤◌, ◌⊎◌, inl, inr, ℕ, List, [], Some, Result, Ok, Err, sym, ap, subst, ◌∙◌}
use Rattle.rtc_wire.specs.declared.channel_config.ChannelConfig.{ChannelConfig}
use Rattle.rtc_change.specs.PendingOffer.{PendingOffer, new_channels}
use Rattle.rtc_channels.specs.Channels.{Channels}
use Rattle.rtc_channels.specs.Holds.{all_cancelled}
use Rattle.rtc_peer_core.specs.declared.peer.Peer.{Peer}
use Rattle.rtc_peer_core.specs.declared.rtc_error.RtcError.{RtcError}
use Rattle.rtc_peer_core.specs.declared.rtc_error.RtcError.TheVariants.{RemoteSdp, Sdp as SdpRefused, Dtls, Sctp, Net, Media as MediaFailed, ChangesOutOfOrder, BadChannel, Alloc, Glare}
use Rattle.rtc_peer_core.specs.Meanings.{Meanings}
use Rattle.rtc_peer_core.specs.RollingBack.{RollsBack}
use Rattle.rtc_peer_polling.specs.StreamStages.{channel_over}
use Rattle.rtc_peer_transport.specs.declared.polled_peer.PolledPeer.{PolledPeer}
use Rattle.rtc_sctp.specs.Streams.{SctpStreams}
use Rattle.rtc_sctp_laws.specs.StreamMessages.{StreamMessage}
use Rattle.rtc_sctp_laws.specs.StreamUses.{IsLive}
use Rattle.rtc_peer_laws.specs.Acts.{with_core}
use Rattle.rtc_peer_laws.specs.ChannelStreams.{AreNumberedChannels, IsGone, IsLiveChannel}
use Rattle.rtc_peer_laws.specs.KeptChannels.{CallKeepsStreams, CallLeavesStreams}
use Rattle.rtc_peer_laws.proofs.CancelledChannels.{cancelled_given, cancelled_gone, cancelled_numbers, cancelled_over}
use Rattle.rtc_peer_laws.proofs.KeptCalls.{kept_same}
use Rattle.rtc_peer_laws.proofs.KeptPeers.{same_kept}
use Rattle.rtc_peer_laws.proofs.StreamsJoin.{same_given}

module _ {I D S M E X T W N : Type 0} (m : Meanings I D S M E X T W N) where
  -- a call that keeps live channels leaves them
  pub leaves_of : (p q : PolledPeer I D S M N) (wrote : List StreamMessage) → CallKeepsStreams m p wrote q → CallLeavesStreams m p wrote q
  leaves_of p q wrote h = record {
    uses = h.uses;
    lives = λ c s g numbered live. inl (h.lives c s g numbered live);
    numbers = h.numbers;
    gone = h.gone;
    closed = h.closed;
    running = h.running;
    given = h.given;
    fresh = h.fresh;
    holds = h.holds;
  }

  -- a live channel stays over its stream, or goes
  live_or_gone : (p : PolledPeer I D S M N) (core : Peer I D S M N) (channels : List (ℕ × ChannelConfig)) → core.sctp ≡ p.core.sctp
      → core.channels ≡ all_cancelled channels p.core.channels → (c s g : ℕ) → AreNumberedChannels p.core.channels → IsLiveChannel c s g p
      → IsLiveChannel c s g (with_core core p) ⊎ IsGone c core.channels
  live_or_gone p core channels sctp is c s g numbered live = by (cancelled_over s c channels p.core.channels numbered live.0)
    where
      by : (channel_over s (all_cancelled channels p.core.channels) ≡ Some c) ⊎ IsGone c (all_cancelled channels p.core.channels)
          → IsLiveChannel c s g (with_core core p) ⊎ IsGone c core.channels
      by (inl over) =
          inl (
            ap (λ (x : Channels). channel_over s x) is ∙ over,
            subst (λ (x : SctpStreams S). IsLive s g x.entries) (sym sctp) live.1,
          )
      by (inr gone) = inr (subst (λ (x : Channels). IsGone c x) (sym is) gone)

  cancelled_leave : (p : PolledPeer I D S M N) (core : Peer I D S M N) (channels : List (ℕ × ChannelConfig)) → core.sctp ≡ p.core.sctp
      → core.channels ≡ all_cancelled channels p.core.channels → core.phase ≡ p.core.phase → CallLeavesStreams m p [] (with_core core p)
  cancelled_leave p core channels sctp is phase =
      let kept = kept_same m.association p.core.sctp core.sctp sctp in
      record {
        uses = kept.uses;
        lives = λ c s g numbered live. live_or_gone p core channels sctp is c s g numbered live;
        numbers = λ numbered. subst (λ (x : Channels). AreNumberedChannels x) (sym is) (cancelled_numbers channels p.core.channels numbered);
        gone = λ c k. subst (λ (x : Channels). IsGone c x) (sym is) (cancelled_gone c channels p.core.channels k);
        closed = λ k. phase ∙ k;
        running = kept.running;
        given =
            subst (λ (x : Channels). p.core.channels.given ≤ x.given) (sym is)
            (same_given p.core.channels.given (all_cancelled channels p.core.channels).given (cancelled_given channels p.core.channels));
        fresh = kept.fresh;
        holds = kept.holds;
      }

  pub rolled_back : (p : PolledPeer I D S M N) (token : PendingOffer) (r : Result (Unit {0}) RtcError) (core : Peer I D S M N)
      → RollsBack p.core token r core → CallLeavesStreams m p [] (with_core core p)
  rolled_back p token (Ok done) core h =
      cancelled_leave p core (new_channels token.changes) (ap (λ (x : Peer I D S M N). x.sctp) h.1) (ap (λ (x : Peer I D S M N). x.channels) h.1)
      (ap (λ (x : Peer I D S M N). x.phase) h.1)
  rolled_back p token (Err ChangesOutOfOrder) core h =
      leaves_of p (with_core core p) []
      (same_kept m p (with_core core p) (
        ap (λ (x : Peer I D S M N). x.sctp) h.1,
        ap (λ (x : Peer I D S M N). x.channels) h.1,
        λ k. ap (λ (x : Peer I D S M N). x.phase) h.1 ∙ k,
      ))
  rolled_back p token (Err (RemoteSdp why)) core h = absurd h
  rolled_back p token (Err (SdpRefused error)) core h = absurd h
  rolled_back p token (Err (Dtls error)) core h = absurd h
  rolled_back p token (Err (Sctp error)) core h = absurd h
  rolled_back p token (Err (Net cause)) core h = absurd h
  rolled_back p token (Err (MediaFailed cause)) core h = absurd h
  rolled_back p token (Err BadChannel) core h = absurd h
  rolled_back p token (Err Alloc) core h = absurd h
  rolled_back p token (Err Glare) core h = absurd h
