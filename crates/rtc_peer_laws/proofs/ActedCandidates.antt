-- What adding a candidate does to the parts of a peer.
use Rattle.std.proofs.Common.{[], ◌∷◌, Bool, Result, refl}
use Rattle.std.specs.declared.alloc.AllocError.{AllocError}
use Rattle.rtc_parts.proofs.AmongLemmas.{among_none, among_self, member-right}
use Rattle.rtc_sdp_values.specs.declared.candidate.Candidate.{Candidate}
use Rattle.rtc_parts.specs.IceActs.{Stirred as IceStirred, LocalAdded, RemoteAdded, ice_moved-one}
use Rattle.rtc_sctp_laws.specs.StreamMessages.{pushed_packets}
use Rattle.rtc_peer_core.specs.Meanings.{Meanings}
use Rattle.rtc_peer_transport.specs.declared.polled_peer.PolledPeer.{PolledPeer}
use Rattle.rtc_peer_laws.specs.PeerActs.{peer_acts, contents_taken}
use Rattle.rtc_peer_laws.specs.Acts.{CallActs, with_agent}
use Rattle.rtc_peer_laws.proofs.FollowedParts.{AgentTold}
use Rattle.rtc_peer_laws.proofs.ActedAcceptances.{nil_among}

module _ {I D S M E X T W N : Type 0} (m : Meanings I D S M E X T W N) where
  -- the agent alone was told something
  agent_did : (p : PolledPeer I D S M N) (ice : I) → AgentTold m.ice p.core.ice ice → CallActs m [] p (with_agent ice p)
  agent_did p ice agent = record {
    acts = peer_acts agent.acts [] [] [];
    went = record { ice = agent.went; dtls = refl; association = refl; media = refl };
    given_ice = nil_among _ [] agent.given;
    given_dtls = among_none [];
    given_media = among_none [];
    timed_ice = nil_among _ [] agent.timed;
    timed_dtls = among_none [];
    timed_media = among_none [];
    role = refl;
    sent = record { each = λ x h. member-right x (contents_taken (peer_acts agent.acts [] [] [])) p.core.dtls.packets h };
    handed = among_none [];
    all_handed = λ started. refl;
    relayed = among_self (pushed_packets p.core.sctp.pushed);
    wrote_is = refl;
    heard_is = refl;
    named = λ n. tt;
  }

  pub local_did : (p : PolledPeer I D S M N) (ice : I) (candidate : Candidate) (answer : Result Bool AllocError)
      → m.ice.local_added p.core.ice candidate answer ice → CallActs m [] p (with_agent ice p)
  local_did p ice candidate answer h = agent_did p ice (record {
    acts = IceStirred (LocalAdded candidate answer) ∷ [];
    went = ice_moved-one m.ice p.core.ice ice (IceStirred (LocalAdded candidate answer)) h;
    given = refl;
    taken = refl;
    timed = refl;
  })

  pub remote_did : (p : PolledPeer I D S M N) (ice : I) (candidate : Candidate) (answer : Result Bool AllocError)
      → m.ice.remote_added p.core.ice candidate answer ice → CallActs m [] p (with_agent ice p)
  remote_did p ice candidate answer h = agent_did p ice (record {
    acts = IceStirred (RemoteAdded candidate answer) ∷ [];
    went = ice_moved-one m.ice p.core.ice ice (IceStirred (RemoteAdded candidate answer)) h;
    given = refl;
    taken = refl;
    timed = refl;
  })
