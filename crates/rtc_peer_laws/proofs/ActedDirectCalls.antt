-- What calls without session descriptions do to the parts of a peer.
use Rattle.std.proofs.Common.{◌≡◌, ◌∷◌, inl, inr, ℕ, Bool, true, false, not, List, [], Option, None, Result, Ok, Err, refl, sym, ap, subst, ◌∙◌}
use Rattle.rtc_wire.specs.declared.channel_config.ChannelConfig.{ChannelConfig}
use Rattle.rtc_parts.specs.Why.{Other}
use Rattle.rtc_parts.specs.MediaActs.{ChangesLines, LendsMedia, LineRemoved, MediaStirred, StirsMedia, media_moved-one}
use Rattle.rtc_parts.specs.MediaMeaning.{MediaMeaning}
use Rattle.rtc_sctp_values.specs.InitHalves.{InitHalves}
use Rattle.rtc_peer_core.specs.declared.rtc_error.RtcError.{RtcError}
use Rattle.rtc_peer_core.specs.declared.rtc_error.RtcError.TheVariants.{RemoteSdp, Sdp as SdpRefused, Dtls, Sctp, Net, Media as MediaFailed, ChangesOutOfOrder, BadChannel, Alloc, Glare}
use Rattle.rtc_peer_core.specs.Meanings.{Meanings}
use Rattle.rtc_peer_core.specs.PartMoves.{remote_limit}
use Rattle.rtc_peer_transport.specs.Connection.{with_ice, with_media}
use Rattle.rtc_peer_transport.specs.declared.polled_peer.PolledPeer.{PolledPeer}
use Rattle.rtc_peer_direct.specs.ChannelMaking.{CreatesChannel, StartsStreams}
use Rattle.rtc_peer_direct.specs.DeclaredRows.{RemovesMedia}
use Rattle.rtc_peer_direct.specs.DtlsCalls.{TakesDtlsRole}
use Rattle.rtc_peer_laws.specs.Acts.{CallActs, NegotiationActs}
use Rattle.rtc_peer_laws.proofs.ActedAcceptances.{parts_did}
use Rattle.rtc_peer_laws.proofs.ActedChanges.{parts_called, same_called}
use Rattle.rtc_peer_laws.proofs.FollowedParts.{AgentTold, MediaTold, agent_none, media_none, started_told, starts_told}
use Rattle.rtc_peer_laws.proofs.StreamCallActs.{call_none}

module _ {M E X T W : Type 0} (m : MediaMeaning M E X T W) where
  pub stirred_told : (a b : M) → StirsMedia m a b → MediaTold m a b
  stirred_told a b h = record {
    acts = MediaStirred Other ∷ [];
    went = media_moved-one m a b (MediaStirred Other) (inr (inr h));
    given = refl;
    taken = refl;
    timed = refl;
  }

  pub lent_told : (a b : M) → LendsMedia m a b → MediaTold m a b
  lent_told a b h = record {
    acts = MediaStirred Other ∷ [];
    went = media_moved-one m a b (MediaStirred Other) (inr (inl h));
    given = refl;
    taken = refl;
    timed = refl;
  }

  lines_told : (a b : M) → ChangesLines m a b → MediaTold m a b
  lines_told a b h = record {
    acts = MediaStirred Other ∷ [];
    went = media_moved-one m a b (MediaStirred Other) (inl h);
    given = refl;
    taken = refl;
    timed = refl;
  }

module _ {I D S M E X T W N : Type 0} (m : Meanings I D S M E X T W N) where
  -- a peer whose parts are those of another one
  pub like_called : (p n q : PolledPeer I D S M N) → q ≡ n → n.core.ice ≡ p.core.ice → n.core.dtls ≡ p.core.dtls
      → n.core.sctp ≡ p.core.sctp → n.core.media ≡ p.core.media → CallActs m [] p q
  like_called p n q is ice dtls sctp media =
      same_called m p q (ap (λ (x : PolledPeer I D S M N). x.core.ice) is ∙ ice) (ap (λ (x : PolledPeer I D S M N). x.core.dtls) is ∙ dtls)
      (ap (λ (x : PolledPeer I D S M N). x.core.sctp) is ∙ sctp) (ap (λ (x : PolledPeer I D S M N). x.core.media) is ∙ media)

  -- a call on the agent
  pub agent_called : (p q : PolledPeer I D S M N) → AgentTold m.ice p.core.ice q.core.ice → q ≡ with_ice q.core.ice p
      → CallActs m [] p q
  agent_called p q told is =
      parts_called m p q told (ap (λ (x : PolledPeer I D S M N). x.core.dtls) is)
      (call_none m.association p.core.sctp q.core.sctp (ap (λ (x : PolledPeer I D S M N). x.core.sctp) is))
      (media_none m.media p.core.media q.core.media (ap (λ (x : PolledPeer I D S M N). x.core.media) is))

  -- a call on the media part
  pub media_called : (p q : PolledPeer I D S M N) → MediaTold m.media p.core.media q.core.media → q ≡ with_media q.core.media p
      → CallActs m [] p q
  media_called p q told is =
      parts_called m p q (agent_none m.ice p.core.ice q.core.ice (ap (λ (x : PolledPeer I D S M N). x.core.ice) is))
      (ap (λ (x : PolledPeer I D S M N). x.core.dtls) is)
      (call_none m.association p.core.sctp q.core.sctp (ap (λ (x : PolledPeer I D S M N). x.core.sctp) is)) told

  -- a line is removed
  pub removes_called : (mid : List ℕ) (p : PolledPeer I D S M N) (r : Bool) (q : PolledPeer I D S M N) → RemovesMedia m.media mid p r q
      → CallActs m [] p q
  removes_called mid p true q h =
      parts_called m p q (agent_none m.ice p.core.ice q.core.ice (ap (λ (x : PolledPeer I D S M N). x.core.ice) h.2))
      (ap (λ (x : PolledPeer I D S M N). x.core.dtls) h.2)
      (call_none m.association p.core.sctp q.core.sctp (ap (λ (x : PolledPeer I D S M N). x.core.sctp) h.2))
      (lines_told m.media p.core.media q.core.media (LineRemoved mid h.1))
  removes_called mid p false q h = like_called p p q h.1 refl refl refl refl

  -- the role of the DTLS part
  pub role_did : (active : Bool) (p : PolledPeer I D S M N) (r : Result (Unit {0}) RtcError) (q : PolledPeer I D S M N)
      → TakesDtlsRole m.dtls active p r q → NegotiationActs m p q
  role_did active p r q h = subst (λ (x : PolledPeer I D S M N). NegotiationActs m p x) (sym h.4)
      (parts_did m p (record p.core { dtls = q.core.dtls }) (agent_none m.ice p.core.ice p.core.ice refl)
      (starts_told m.dtls p.core.dtls.active active p.core.greatest h.0 p.core.dtls q.core.dtls refl h.1)
      (call_none m.association p.core.sctp p.core.sctp refl) (media_none m.media p.core.media p.core.media refl))

  -- the association is started
  pub starts_called : (client : Bool) (halves : Option InitHalves) (p : PolledPeer I D S M N) (r : Result (Unit {0}) RtcError)
      (q : PolledPeer I D S M N) → StartsStreams m.association client halves p r q → CallActs m [] p q
  starts_called client halves p r q h =
      parts_called m p q (agent_none m.ice p.core.ice q.core.ice (ap (λ (x : PolledPeer I D S M N). x.core.ice) h.3))
      (ap (λ (x : PolledPeer I D S M N). x.core.dtls) h.3)
      (started_told m.association (not (m.association.started p.core.sctp.association)) client p.core.greatest (remote_limit None) halves
      false p.core.sctp h.0 q.core.sctp h.1)
      (media_none m.media p.core.media q.core.media (ap (λ (x : PolledPeer I D S M N). x.core.media) h.3))

  -- a channel is made
  pub creates_called : (config : ChannelConfig) (p : PolledPeer I D S M N) (r : Result ℕ RtcError) (q : PolledPeer I D S M N)
      → CreatesChannel config p r q → CallActs m [] p q
  creates_called config p (Ok id) q h = like_called p _ q h.2 refl refl refl refl
  creates_called config p (Err BadChannel) q h = like_called p p q h.1 refl refl refl refl
  creates_called config p (Err Alloc) q h = like_called p p q h refl refl refl refl
  creates_called config p (Err (RemoteSdp why)) q h = absurd h
  creates_called config p (Err (SdpRefused error)) q h = absurd h
  creates_called config p (Err (Dtls error)) q h = absurd h
  creates_called config p (Err (Sctp error)) q h = absurd h
  creates_called config p (Err (Net cause)) q h = absurd h
  creates_called config p (Err (MediaFailed cause)) q h = absurd h
  creates_called config p (Err ChangesOutOfOrder) q h = absurd h
  creates_called config p (Err Glare) q h = absurd h
