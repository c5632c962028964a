-- What a user does to the ICE agent of a peer without session descriptions: the agent does it, and nothing else changes.
use Rattle.std.specs.Prelude.{◌≡◌, Bool}
use Rattle.rtc_sdp_values.specs.declared.candidate.Candidate.{Candidate}
use Rattle.rtc_sdp_values.specs.declared.ice_creds.IceCreds.{IceCreds}
use Rattle.rtc_parts.specs.IceMeaning.{IceMeaning}
use Rattle.rtc_peer_transport.specs.declared.polled_peer.PolledPeer.{PolledPeer}
use Rattle.rtc_peer_transport.specs.Connection.{with_ice}

module _ {I D S M N : Type 0} (ice : IceMeaning I) where
  -- whether this side is controlling is set (RFC 8445, section 6.1.1)
  abbrev pub SetsControlling : (on : Bool) → PolledPeer I D S M N → PolledPeer I D S M N → Type 0
  SetsControlling on p q = ice.controlling_set p.core.ice on q.core.ice × (q ≡ with_ice q.core.ice p)

  -- whether this side only answers checks is set (RFC 8445, section 2.5)
  abbrev pub SetsLite : (on : Bool) → PolledPeer I D S M N → PolledPeer I D S M N → Type 0
  SetsLite on p q = ice.lite_set p.core.ice on q.core.ice × (q ≡ with_ice q.core.ice p)

  -- the credentials of this side are set
  abbrev pub SetsLocalCreds : IceCreds → PolledPeer I D S M N → PolledPeer I D S M N → Type 0
  SetsLocalCreds creds p q = ice.local_set p.core.ice creds q.core.ice × (q ≡ with_ice q.core.ice p)

  -- the credentials of the other side are set
  abbrev pub SetsRemoteCreds : IceCreds → PolledPeer I D S M N → PolledPeer I D S M N → Type 0
  SetsRemoteCreds creds p q = ice.remote_set p.core.ice creds q.core.ice × (q ≡ with_ice q.core.ice p)

  -- a candidate is used no longer; the call returns whether it was there
  abbrev pub InvalidatesCandidate : Candidate → (found : Bool) → PolledPeer I D S M N → PolledPeer I D S M N → Type 0
  InvalidatesCandidate candidate found p q = ice.invalidated p.core.ice candidate found q.core.ice × (q ≡ with_ice q.core.ice p)
