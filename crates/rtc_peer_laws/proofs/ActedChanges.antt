-- What staging and applying changes does to the parts of a peer.
use Rattle.std.proofs.Common.{◌≡◌, ◌++◌, ◌∷◌, ℕ, Bool, true, false, not, List, [], Option, Some, None, Result, Ok, Err, refl, sym, ap, subst, ◌∙◌}
use Rattle.std.specs.declared.alloc.AllocError.{AllocError}
use Rattle.rtc_wire.specs.declared.channel_config.ChannelConfig.{ChannelConfig}
use Rattle.rtc_parts.specs.Among.{Among}
use Rattle.rtc_parts.proofs.AmongLemmas.{member-right, among_none}
use Rattle.rtc_parts.specs.AssociationWords.{given, taken}
use Rattle.rtc_parts.specs.DtlsState.{DtlsState}
use Rattle.rtc_sdp_values.specs.declared.direction.Direction.{Direction}
use Rattle.rtc_sdp_values.specs.declared.ice_creds.IceCreds.{IceCreds}
use Rattle.rtc_sdp_values.specs.declared.sdp.Sdp.{Sdp}
use Rattle.rtc_change.specs.declared.change.Change.{Change}
use Rattle.rtc_change.specs.PendingOffer.{PendingOffer}
use Rattle.rtc_peer_rows.specs.RowChanges.{RowChange}
use Rattle.rtc_sctp_laws.specs.StreamActs.{CallDid}
use Rattle.rtc_sctp_laws.specs.StreamMessages.{pushed_packets}
use Rattle.rtc_peer_core.specs.declared.peer.Peer.{Peer}
use Rattle.rtc_peer_core.specs.declared.rtc_error.RtcError.{RtcError}
use Rattle.rtc_peer_core.specs.declared.rtc_error.RtcError.TheVariants.{RemoteSdp, Sdp as SdpRefused, Dtls, Sctp, Net, Media as MediaFailed, ChangesOutOfOrder, BadChannel, Alloc, Glare}
use Rattle.rtc_peer_core.specs.Calls.{AddsChannel, AddsMedia, Applies, ChangesLine, LacksOffer, StagesRestart, Wanted, after_channels_alone, control_for, half_drawn}
use Rattle.rtc_peer_core.specs.Meanings.{Meanings}
use Rattle.rtc_peer_core.specs.SdpHalves.{draws_half, offered_snap}
use Rattle.rtc_peer_core.specs.Stance.{stance_of}
use Rattle.rtc_peer_transport.specs.declared.polled_peer.PolledPeer.{PolledPeer}
use Rattle.rtc_peer_laws.specs.PeerActs.{peer_acts, contents_taken}
use Rattle.rtc_peer_laws.specs.Acts.{CallActs, with_core}
use Rattle.rtc_peer_laws.proofs.ActedAcceptances.{nil_among}
use Rattle.rtc_peer_laws.proofs.FollowedParts.{AgentTold, MediaTold, agent_none, control_told, media_none}
use Rattle.rtc_peer_laws.proofs.StreamCallActs.{call_none, snap_did}

module _ {I D S M E X T W N : Type 0} (m : Meanings I D S M E X T W N) where
  -- the agent, the streams and the media part were told something, and the DTLS part nothing
  pub parts_called : (p q : PolledPeer I D S M N) → AgentTold m.ice p.core.ice q.core.ice → q.core.dtls ≡ p.core.dtls
      → CallDid m.association [] [] p.core.sctp q.core.sctp → MediaTold m.media p.core.media q.core.media → CallActs m [] p q
  parts_called p q agent dtls streams media = record {
    acts = peer_acts agent.acts [] streams.did.acts media.acts;
    went = record { ice = agent.went; dtls = ap (λ (x : DtlsState D). x.instance) dtls; association = streams.did.went; media = media.went };
    given_ice = nil_among _ [] agent.given;
    given_dtls = among_none [];
    given_media = nil_among _ [] media.given;
    timed_ice = nil_among _ [] agent.timed;
    timed_dtls = among_none [];
    timed_media = nil_among _ [] media.timed;
    role = ap (λ (x : DtlsState D). x.active) dtls;
    sent =
        subst (λ (x : DtlsState D). Among x.packets (contents_taken (peer_acts agent.acts [] streams.did.acts media.acts) ++ p.core.dtls.packets))
        (sym dtls)
        (record { each = λ x h. member-right x (contents_taken (peer_acts agent.acts [] streams.did.acts media.acts)) p.core.dtls.packets h });
    handed = nil_among (given streams.did.acts) _ streams.did.given_is;
    all_handed = λ started. streams.did.given_is;
    relayed =
        subst (λ (l : List (List ℕ)). Among l (taken streams.did.acts ++ pushed_packets p.core.sctp.pushed))
        (sym (ap pushed_packets streams.pushed_is))
        (record { each = λ x h. member-right x (taken streams.did.acts) (pushed_packets p.core.sctp.pushed) h });
    wrote_is = streams.did.wrote_is;
    heard_is = streams.did.heard_is;
    named = streams.did.named;
  }

  -- no part was told anything
  pub same_called : (p q : PolledPeer I D S M N) → q.core.ice ≡ p.core.ice → q.core.dtls ≡ p.core.dtls → q.core.sctp ≡ p.core.sctp
      → q.core.media ≡ p.core.media → CallActs m [] p q
  same_called p q ice dtls sctp media =
      parts_called p q (agent_none m.ice p.core.ice q.core.ice ice) dtls (call_none m.association p.core.sctp q.core.sctp sctp)
      (media_none m.media p.core.media q.core.media media)

  -- another core whose parts are these
  pub core_called : (p : PolledPeer I D S M N) (n c : Peer I D S M N) → c ≡ n → n.ice ≡ p.core.ice → n.dtls ≡ p.core.dtls
      → n.sctp ≡ p.core.sctp → n.media ≡ p.core.media → CallActs m [] p (with_core c p)
  core_called p n c is ice dtls sctp media =
      same_called p (with_core c p) (ap (λ (x : Peer I D S M N). x.ice) is ∙ ice) (ap (λ (x : Peer I D S M N). x.dtls) is ∙ dtls)
      (ap (λ (x : Peer I D S M N). x.sctp) is ∙ sctp) (ap (λ (x : Peer I D S M N). x.media) is ∙ media)

  -- a channel that is staged
  pub channel_called : (p : PolledPeer I D S M N) (c : Peer I D S M N) (config : ChannelConfig) (r : Result ℕ RtcError)
      → AddsChannel m p.core config r c → CallActs m [] p (with_core c p)
  channel_called p c config (Ok id) h = core_called p _ c h.2 refl refl refl refl
  channel_called p c config (Err BadChannel) h = core_called p p.core c h.1 refl refl refl refl
  channel_called p c config (Err Alloc) h = core_called p _ c h.1 refl refl refl refl
  channel_called p c config (Err (RemoteSdp why)) h = absurd h
  channel_called p c config (Err (SdpRefused error)) h = absurd h
  channel_called p c config (Err (Dtls error)) h = absurd h
  channel_called p c config (Err (Sctp error)) h = absurd h
  channel_called p c config (Err (Net cause)) h = absurd h
  channel_called p c config (Err (MediaFailed cause)) h = absurd h
  channel_called p c config (Err ChangesOutOfOrder) h = absurd h
  channel_called p c config (Err Glare) h = absurd h

  -- a line that is staged
  pub media_staged : (p : PolledPeer I D S M N) (c : Peer I D S M N) (wanted : Wanted) (r : Result (List ℕ) AllocError)
      → AddsMedia m p.core wanted r c → CallActs m [] p (with_core c p)
  media_staged p c wanted (Ok mid) h = core_called p _ c h.1 refl refl refl refl
  media_staged p c wanted (Err error) h = core_called p _ c h.1 refl refl refl refl

  -- a row that is set or stopped
  pub line_called : (change : RowChange) (to : Direction) (p : PolledPeer I D S M N) (c : Peer I D S M N) (mid : List ℕ)
      (r : Result Bool AllocError) → ChangesLine change to p.core mid r c → CallActs m [] p (with_core c p)
  line_called change to p c mid (Ok true) h = core_called p _ c h.1 refl refl refl refl
  line_called change to p c mid (Ok false) h = core_called p p.core c h.1 refl refl refl refl
  line_called change to p c mid (Err error) h = core_called p p.core c h refl refl refl refl

  -- a restart that is staged
  pub restart_staged : (p : PolledPeer I D S M N) (c : Peer I D S M N) (keeps : Bool) (r : Result IceCreds AllocError)
      → StagesRestart m p.core keeps r c → CallActs m [] p (with_core c p)
  restart_staged p c keeps (Ok creds) h = core_called p _ c h.1 refl refl refl refl
  restart_staged p c keeps (Err error) h = core_called p _ c h.1 refl refl refl refl

  -- channels alone, and what else is applied
  alone_called : (changes : List Change) (p : PolledPeer I D S M N) (c : Peer I D S M N) → c ≡ after_channels_alone changes p.core
      → CallActs m [] p (with_core c p)
  alone_called [] p c is = core_called p p.core c is refl refl refl refl
  alone_called (change ∷ changes) p c is = core_called p _ c is refl refl refl refl

  lacking_called : (draws : Bool) (p : PolledPeer I D S M N) (c : Peer I D S M N) → LacksOffer m draws p.core c
      → CallActs m [] p (with_core c p)
  lacking_called true p c h = core_called p _ c h.1 refl refl refl refl
  lacking_called false p c h = core_called p p.core c h refl refl refl refl

  pub applied_called : (p : PolledPeer I D S M N) (c : Peer I D S M N) (r : Result (Option (Sdp × PendingOffer)) AllocError)
      → Applies m p.core r c → CallActs m [] p (with_core c p)
  applied_called p c (Ok None) h = alone_called p.core.staged p c h.1
  applied_called p c (Ok (Some made)) h =
      parts_called p (with_core c p)
      (control_told m.ice p.core.ice (control_for p.core.dtls.active (not (m.ice.settings p.core.ice).lite)) c.ice h.3)
      (ap (λ (x : Peer I D S M N). x.dtls) h.4)
      (snap_did m.association (offered_snap (stance_of m p.core) (half_drawn m p.core)) p.core.sctp c.sctp (ap (λ (x : Peer I D S M N). x.sctp) h.4))
      (media_none m.media p.core.media c.media (ap (λ (x : Peer I D S M N). x.media) h.4))
  applied_called p c (Err error) h = lacking_called (draws_half (stance_of m p.core)) p c h
