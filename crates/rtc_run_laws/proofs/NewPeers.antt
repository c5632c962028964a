-- What building a peer over fresh plain parts does to these.
use Rattle.std.proofs.Common.{◌≡◌, ◌∙◌, ◌∷◌, inr, ℕ, Bool, List, [], None, Result, Ok, refl, sym, ap, subst}
use Rattle.std.specs.declared.alloc.AllocError.{AllocError}
use Rattle.rtc_sdp_values.specs.declared.candidate.Candidate.{Candidate}
use Rattle.rtc_parts.specs.Among.{Among, Member}
use Rattle.rtc_parts.specs.Why.{Other}
use Rattle.rtc_parts.specs.AssociationActs.{LimitsSet, Stirred as AssociationStirred}
use Rattle.rtc_parts.proofs.AmongLemmas.{among_none}
use Rattle.rtc_parts.specs.IceMeaning.{IceMeaning}
use Rattle.rtc_parts.specs.IceActs.{RtoSet, LiteSet, LocalSet, LocalAdded, Stirred as IceStirred}
use Rattle.rtc_parts.specs.DtlsActs.{VersionSet, CertificateSet, Stirred as DtlsStirred}
use Rattle.rtc_parts.specs.DtlsState.{DtlsState}
use Rattle.rtc_parts.specs.DtlsWords.{dtls_given}
use Rattle.rtc_parts.specs.MediaActs.{Configured, MediaStirred}
use Rattle.rtc_sctp.specs.Streams.{SctpStreams}
use Rattle.rtc_channels.specs.Channels.{no_channels}
use Rattle.rtc_plain_ice.specs.Contents.{IceContents}
use Rattle.rtc_plain_ice.specs.PlainMeaning.{plain_ice}
use Rattle.rtc_plain_dtls.specs.Contents.{DtlsContents}
use Rattle.rtc_assoc_state.specs.Contents.{Contents}
use Rattle.rtc_plain_media.specs.MediaContents.{MediaContents}
use Rattle.rtc_parts.specs.Draws.{Draws}
use Rattle.rtc_sctp_laws.specs.StreamMessages.{pushed_packets, reads_of, writes_of}
use Rattle.rtc_peer_core.specs.declared.peer.Peer.{Peer}
use Rattle.rtc_peer_core.specs.Built.{payload_of_mtu, creds_or, cert_or, session_drawn, creds_drawn}
use Rattle.rtc_peer_laws.specs.PeerActs.{PeerActs, peer_acts, contents_taken, dtls_roles, roles_after}
use Rattle.rtc_peer_laws.specs.Exchanging.{parts_past}
use Rattle.rtc_peer_laws.specs.JoinedPeers.{AreUnused, packet_parts}
use Rattle.rtc_peer_laws.specs.ShownData.{HasShown}
use Rattle.rtc_peer_laws.proofs.JoinedLemmas.{unused_joined}
use Rattle.rtc_run_history.specs.declared.sent_packet.SentPacket.{SentPacket}
use Rattle.rtc_run_history.specs.declared.side.Side.{Side}
use Rattle.rtc_run_history.specs.declared.side.Side.TheVariants.{Left, Right}
use Rattle.rtc_run_laws.specs.NewPairs.{GivenCandidates, IsNewPeer, IsNewPair}
use Rattle.rtc_run_laws.specs.PlainPairs.{HasExchanged, PlainPair, PlainPolled}
use Rattle.rtc_run_laws.specs.SentContents.{contents_sent}
use Rattle.rtc_peer_laws.proofs.FollowedParts.{AgentTold, agent_none}

-- candidates are calls by which nothing was given or taken
told_before : {I : Type 0} (m : IceMeaning I) (p q : I) (candidate : Candidate) (answer : Result Bool AllocError) (r : I)
    → m.local_added p candidate answer r → AgentTold m r q → AgentTold m p q
told_before m p q candidate answer r h rest = record {
  acts = IceStirred (LocalAdded candidate answer) ∷ rest.acts;
  went = (r, (h, rest.went));
  given = rest.given;
  taken = rest.taken;
  timed = rest.timed;
}

candidates_told : {I : Type 0} (m : IceMeaning I) (p : I) (candidates : List Candidate) (q : I) → GivenCandidates m p candidates q → AgentTold m p q
candidates_told m p [] q h = agent_none m p q h
candidates_told m p (candidate ∷ candidates) q h =
    told_before m p q candidate h.1.0 h.0 h.1.1.0 (candidates_told m h.0 candidates q h.1.1.1)

none_member : (x : List ℕ) (l : List (List ℕ)) → l ≡ [] → Member x l → ⊥
none_member x l is m = subst (λ (k : List (List ℕ)). Member x k) is m

-- acts on the parts of a peer that was built, and then given candidates
pub record WasBuilt {N : Type 0} (p : PlainPolled N) : Type 0 where
  pub acts : PeerActs
  pub unused : AreUnused (parts_past acts) (packet_parts p)
  pub shown : HasShown acts [] p
  pub wrote_none : writes_of acts.association ≡ []
  pub read_none : reads_of acts.association ≡ []
  pub role : p.core.dtls.active ≡ roles_after None (dtls_roles acts.dtls)
  pub none_given : dtls_given acts.dtls ≡ []

module _ {N : Type 0} (draws : Draws N) where
  -- there is no channel, and no stream has an entry
  pub new_channels : (p : PlainPolled N) → IsNewPeer draws p.core → p.core.channels ≡ no_channels
  new_channels p h =
      ap (λ (x : Peer IceContents DtlsContents Contents MediaContents N). x.channels) h.rest
      ∙ ap (λ (x : Peer IceContents DtlsContents Contents MediaContents N). x.channels) h.by_build.rest

  pub new_entries : (p : PlainPolled N) → IsNewPeer draws p.core → p.core.sctp.entries ≡ []
  new_entries p h =
      ap (λ (x : SctpStreams Contents). x.entries) (ap (λ (x : Peer IceContents DtlsContents Contents MediaContents N). x.sctp) h.rest)
      ∙ ap (λ (x : SctpStreams Contents). x.entries) h.by_build.streams

  built_acts : (p : Peer IceContents DtlsContents Contents MediaContents N) → IsNewPeer draws p → PeerActs
  built_acts p h =
      peer_acts
      (IceStirred (RtoSet h.config.ice.initial_stun_rto h.config.ice.max_stun_rto h.config.ice.max_stun_retransmits)
      ∷ IceStirred (LiteSet h.config.ice.lite)
      ∷ IceStirred (LocalSet (creds_or draws h.config.ice.credentials (session_drawn draws h.first)))
      ∷ (candidates_told plain_ice h.built.ice h.candidates p.ice h.by_candidates).acts)
      (DtlsStirred (VersionSet h.config.dtls.version)
      ∷ DtlsStirred (CertificateSet (cert_or draws h.config.dtls.cert (creds_drawn draws h.config h.first)) (Ok tt)) ∷ [])
      (AssociationStirred Other ∷ []) (MediaStirred Other ∷ [])

  pub new_built : (p : PlainPolled N) → IsNewPeer draws p.core → WasBuilt p
  unfolding built_acts
  new_built p h =
      let dtls : p.core.dtls ≡ h.built.dtls = ap (λ (x : Peer IceContents DtlsContents Contents MediaContents N). x.dtls) h.rest in
      let sctp : p.core.sctp ≡ h.built.sctp = ap (λ (x : Peer IceContents DtlsContents Contents MediaContents N). x.sctp) h.rest in
      let media : p.core.media ≡ h.built.media = ap (λ (x : Peer IceContents DtlsContents Contents MediaContents N). x.media) h.rest in
      let packets : p.core.dtls.packets ≡ [] = ap (λ (x : DtlsState DtlsContents). x.packets) (dtls ∙ h.by_build.by_cert.others) in
      let told : AgentTold plain_ice h.built.ice p.core.ice = candidates_told plain_ice h.built.ice h.candidates p.core.ice h.by_candidates in
      record {
        acts = built_acts p.core h;
        unused = record {
          dtls = (
            h.by_build.versioned,
            (
              h.by_build.by_version,
              (h.built.dtls.instance, (h.by_build.by_cert.certificate, ap (λ (x : DtlsState DtlsContents). x.instance) dtls)),
            ),
          );
          association = (
            h.built.sctp.association,
            (LimitsSet (payload_of_mtu h.config.mtu.0) h.config.sctp.max_message_size h.by_build.by_limits, ap (λ (x : SctpStreams Contents). x.association) sctp),
          );
          none_given = λ bytes given. absurd given;
          none_sent = refl;
          none_handed = refl;
          none_pushed = ap (λ (x : SctpStreams Contents). pushed_packets x.pushed) (sctp ∙ h.by_build.streams);
        };
        shown = record {
          ice_went = (
            h.by_build.timed,
            (
              h.by_build.by_rto,
              (h.by_build.lite_set, (h.by_build.by_lite, (h.built.ice, (h.by_build.by_creds, told.went)))),
            ),
          );
          media_went = (h.built.media, (inr (inr (Configured h.config.media h.by_build.by_settings)), media));
          sent = subst (λ (l : List (List ℕ)). Among l (contents_taken (built_acts p.core h))) (sym packets) (among_none (contents_taken (built_acts p.core h)));
        };
        wrote_none = refl;
        read_none = refl;
        role = ap (λ (x : DtlsState DtlsContents). x.active) (dtls ∙ h.by_build.by_cert.others);
        none_given = refl;
      }

  pub nothing_sent : (at : Side) (packets : List SentPacket) (acts : PeerActs) (p : PlainPolled N) → packets ≡ [] → HasShown acts [] p
      → HasShown acts (contents_sent at packets) p
  nothing_sent at packets acts p none h = subst (λ (l : List SentPacket). HasShown acts (contents_sent at l) p) (sym none) h

  pub new_exchanged : (pair : PlainPair N) → IsNewPair draws pair → HasExchanged pair
  new_exchanged pair h =
      let a = new_built pair.left h.left in
      let b = new_built pair.right h.right in
      record {
        acts = record { left = a.acts; right = b.acts };
        exchange = record {
          joined = unused_joined (parts_past a.acts) (parts_past b.acts) (packet_parts pair.left) (packet_parts pair.right) a.unused b.unused;
          left = nothing_sent Left pair.packets a.acts pair.left h.packets a.shown;
          right = nothing_sent Right pair.packets b.acts pair.right h.packets b.shown;
        };
        hands = record {
          left = record { role = a.role; crosses = λ bytes m. absurd (none_member (22 ∷ bytes) (dtls_given a.acts.dtls) a.none_given m) };
          right = record { role = b.role; crosses = λ bytes m. absurd (none_member (22 ∷ bytes) (dtls_given b.acts.dtls) b.none_given m) };
        };
      }
