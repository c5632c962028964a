-- What is staged and applied keeps the use of each stream, and live channels.
use Rattle.std.proofs.Common.{◌≡◌, inr, ◌≤◌, ◌∷◌, ℕ, Bool, true, false, List, [], Option, Some, None, Result, Ok, Err, refl, sym, ap, subst, ◌∙◌}
use Rattle.std.specs.declared.alloc.AllocError.{AllocError}
use Rattle.rtc_wire.specs.declared.channel_config.ChannelConfig.{ChannelConfig}
use Rattle.rtc_sdp_values.specs.declared.sdp.Sdp.{Sdp}
use Rattle.rtc_change.specs.PendingOffer.{PendingOffer}
use Rattle.rtc_change.specs.declared.change.Change.{Change}
use Rattle.rtc_channels.specs.Channels.{Channels, all_confirmed}
use Rattle.rtc_peer_core.specs.declared.peer.Peer.{Peer}
use Rattle.rtc_peer_core.specs.declared.rtc_error.RtcError.{RtcError}
use Rattle.rtc_peer_core.specs.declared.rtc_error.RtcError.TheVariants.{RemoteSdp, Sdp as SdpRefused, Dtls, Sctp, Net, Media as MediaFailed, ChangesOutOfOrder, BadChannel, Alloc, Glare}
use Rattle.rtc_peer_core.specs.Calls.{AddsChannel, Applies, LacksOffer, after_channels_alone, fitting_channels, half_drawn}
use Rattle.rtc_peer_core.specs.Meanings.{Meanings}
use Rattle.rtc_peer_core.specs.SdpHalves.{draws_half, offered_snap}
use Rattle.rtc_peer_core.specs.Stance.{stance_of}
use Rattle.rtc_sctp_values.specs.SnapHalves.{KeptHalves}
use Rattle.rtc_peer_transport.specs.declared.polled_peer.PolledPeer.{PolledPeer}
use Rattle.rtc_peer_polling.specs.StreamStages.{channel_over}
use Rattle.rtc_peer_laws.specs.Acts.{with_core}
use Rattle.rtc_peer_laws.specs.RowsChanged.{Confirmed, Made, RowsChange}
use Rattle.rtc_peer_laws.proofs.ChangedRows.{no_acts, one_changed}
use Rattle.rtc_peer_laws.specs.ChannelStreams.{AreNumberedChannels, IsGone}
use Rattle.rtc_peer_laws.specs.KeptChannels.{CallKeepsStreams}
use Rattle.rtc_peer_laws.proofs.ConfirmedChannels.{all_confirmed_over, all_confirmed_numbers, made_over, made_numbers, up_to_next}
use Rattle.rtc_peer_laws.proofs.GoneChannels.{all_confirmed_given, all_confirmed_gone, made_gone}
use Rattle.rtc_peer_laws.proofs.StreamsJoin.{same_given}
use Rattle.rtc_peer_laws.proofs.KeptCalls.{kept_same, kept_snap}
use Rattle.rtc_peer_laws.proofs.KeptPeers.{changes_none, same_kept, over_streams, over_channels}

module _ {I D S M E X T W N : Type 0} (m : Meanings I D S M E X T W N) where
  -- streams and channels are those of another peer
  core_kept : (p : PolledPeer I D S M N) (n c : Peer I D S M N) → c ≡ n → n.sctp ≡ p.core.sctp → n.channels ≡ p.core.channels
      → n.phase ≡ p.core.phase → CallKeepsStreams m p [] (with_core c p)
  core_kept p n c is sctp channels phase =
      same_kept m p (with_core c p) (ap (λ (x : Peer I D S M N). x.sctp) is ∙ sctp, ap (λ (x : Peer I D S M N). x.channels) is ∙ channels, λ k. ap (λ (x : Peer I D S M N). x.phase) is ∙ phase ∙ k)

  -- the streams too, but for what is kept of starts by session descriptions
  snap_kept : (p : PolledPeer I D S M N) (kept : KeptHalves) (n c : Peer I D S M N) → c ≡ n → n.sctp ≡ record p.core.sctp { snap = kept }
      → n.channels ≡ p.core.channels → n.phase ≡ p.core.phase → CallKeepsStreams m p [] (with_core c p)
  snap_kept p kept n c is sctp channels phase =
      over_streams m p (with_core c p) []
      (kept_snap m.association kept p.core.sctp c.sctp (ap (λ (x : Peer I D S M N). x.sctp) is ∙ sctp))
      (ap (λ (x : Peer I D S M N). x.channels) is ∙ channels) (λ k. ap (λ (x : Peer I D S M N). x.phase) is ∙ phase ∙ k)
      (changes_none m p (with_core c p) (ap (λ (x : Peer I D S M N). x.channels) is ∙ channels)
      (no_acts m.association p.core.sctp (record p.core.sctp { snap = kept }) c.sctp (ap (λ (x : Peer I D S M N). x.sctp) is ∙ sctp) refl refl refl))

  -- and these channels, over the streams as they were
  held_kept : (p : PolledPeer I D S M N) (c : Peer I D S M N) (held : Channels) → c.sctp ≡ p.core.sctp → c.channels ≡ held
      → ((s k : ℕ) → channel_over s p.core.channels ≡ Some k → channel_over s held ≡ Some k)
      → (AreNumberedChannels p.core.channels → AreNumberedChannels held) → ((k : ℕ) → IsGone k p.core.channels → IsGone k held)
      → p.core.channels.given ≤ held.given → c.phase ≡ p.core.phase
      → RowsChange m.association p.core.channels p.core.sctp c.channels c.sctp → CallKeepsStreams m p [] (with_core c p)
  held_kept p c held sctp is over numbers gone given phase change = over_channels m p (with_core c p) (record {
    streams = kept_same m.association p.core.sctp c.sctp sctp;
    over = λ s k numbered e. subst (λ (x : Channels). channel_over s x ≡ Some k) (sym is) (over s k e);
    numbers = λ numbered. subst (λ (x : Channels). AreNumberedChannels x) (sym is) (numbers numbered);
    gone = λ k h. subst (λ (x : Channels). IsGone k x) (sym is) (gone k h);
    given = subst (λ (x : Channels). p.core.channels.given ≤ x.given) (sym is) given;
  }) (λ k. phase ∙ k) (inr (one_changed m.association p.core.channels p.core.sctp c.channels c.sctp change))

  pub channel_added : (p : PolledPeer I D S M N) (config : ChannelConfig) (r : Result ℕ RtcError) (c : Peer I D S M N)
      → AddsChannel m p.core config r c → CallKeepsStreams m p [] (with_core c p)
  channel_added p config (Ok id) c h =
      held_kept p c _ (ap (λ (x : Peer I D S M N). x.sctp) h.2) (ap (λ (x : Peer I D S M N). x.channels) h.2)
      (λ s k e. made_over s k p.core.channels config e) (λ numbered. made_numbers p.core.channels config numbered)
      (λ k x. made_gone k p.core.channels config x) (up_to_next p.core.channels.given) (ap (λ (x : Peer I D S M N). x.phase) h.2)
      (Made config (ap (λ (x : Peer I D S M N). x.channels) h.2)
      (no_acts m.association p.core.sctp p.core.sctp c.sctp (ap (λ (x : Peer I D S M N). x.sctp) h.2) refl refl refl))
  channel_added p config (Err BadChannel) c h = core_kept p p.core c h.1 refl refl refl
  channel_added p config (Err Alloc) c h = core_kept p _ c h.1 refl refl refl
  channel_added p config (Err (RemoteSdp why)) c h = absurd h
  channel_added p config (Err (SdpRefused error)) c h = absurd h
  channel_added p config (Err (Dtls error)) c h = absurd h
  channel_added p config (Err (Sctp error)) c h = absurd h
  channel_added p config (Err (Net cause)) c h = absurd h
  channel_added p config (Err (MediaFailed cause)) c h = absurd h
  channel_added p config (Err ChangesOutOfOrder) c h = absurd h
  channel_added p config (Err Glare) c h = absurd h

  alone_kept : (changes : List Change) (p : PolledPeer I D S M N) (c : Peer I D S M N) → c ≡ after_channels_alone changes p.core
      → CallKeepsStreams m p [] (with_core c p)
  alone_kept [] p c h = core_kept p p.core c h refl refl refl
  alone_kept (change ∷ changes) p c h =
      held_kept p c _ (ap (λ (x : Peer I D S M N). x.sctp) h) (ap (λ (x : Peer I D S M N). x.channels) h)
      (λ s k e. all_confirmed_over s (fitting_channels (change ∷ changes)) p.core.channels ∙ e)
      (λ numbered. all_confirmed_numbers (fitting_channels (change ∷ changes)) p.core.channels numbered)
      (λ k x. all_confirmed_gone k (fitting_channels (change ∷ changes)) p.core.channels x)
      (same_given p.core.channels.given (all_confirmed (fitting_channels (change ∷ changes)) p.core.channels).given
      (all_confirmed_given (fitting_channels (change ∷ changes)) p.core.channels)) (ap (λ (x : Peer I D S M N). x.phase) h)
      (Confirmed (fitting_channels (change ∷ changes)) (ap (λ (x : Peer I D S M N). x.channels) h)
      (no_acts m.association p.core.sctp p.core.sctp c.sctp (ap (λ (x : Peer I D S M N). x.sctp) h) refl refl refl))

  -- memory ran out as an offer was made
  lacking_kept : (draws : Bool) (p : PolledPeer I D S M N) (c : Peer I D S M N) → LacksOffer m draws p.core c
      → CallKeepsStreams m p [] (with_core c p)
  lacking_kept true p c h = core_kept p _ c h.1 refl refl refl
  lacking_kept false p c h = core_kept p p.core c h refl refl refl

  pub applied : (p : PolledPeer I D S M N) (r : Result (Option (Sdp × PendingOffer)) AllocError) (c : Peer I D S M N) → Applies m p.core r c
      → CallKeepsStreams m p [] (with_core c p)
  applied p (Ok None) c h = alone_kept p.core.staged p c h.1
  applied p (Ok (Some made)) c h = snap_kept p (offered_snap (stance_of m p.core) (half_drawn m p.core)) _ c h.4 refl refl refl
  applied p (Err error) c h = lacking_kept (draws_half (stance_of m p.core)) p c h
