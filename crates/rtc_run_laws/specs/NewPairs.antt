-- Pairs of peers that were just built over fresh plain parts.
use Rattle.std.specs.Prelude.{◌≡◌, ℕ, Bool, List, [], ◌∷◌, Result}
use Rattle.std.specs.declared.alloc.AllocError.{AllocError}
use Rattle.std.specs.declared.alloc.Global.{Global}
use Rattle.rtc_sdp_values.specs.declared.candidate.Candidate.{Candidate}
use Rattle.rtc_parts.specs.IceMeaning.{IceMeaning}
use Rattle.rtc_plain_ice.specs.Contents.{IceContents, fresh_ice}
use Rattle.rtc_plain_ice.specs.PlainMeaning.{plain_ice}
use Rattle.rtc_plain_dtls.specs.Contents.{DtlsContents, fresh_dtls}
use Rattle.rtc_assoc_state.specs.Contents.{Contents, fresh_contents}
use Rattle.rtc_plain_media.specs.MediaContents.{MediaContents, fresh_media}
use Rattle.rtc_parts.specs.Draws.{Draws}
use Rattle.rtc_config.specs.RtcConfig.{PeerConfig}
use Rattle.rtc_peer_core.specs.declared.peer.Peer.{Peer}
use Rattle.rtc_peer_core.specs.Built.{Builds}
use Rattle.rtc_peer_transport.specs.declared.handshake.Handshake.TheVariants.{Pending}
use Rattle.rtc_run_history.specs.declared.side.Side.{Side}
use Rattle.rtc_run_history.specs.PairState.{rtc_at}
use Rattle.rtc_run_laws.specs.PlainPairs.{PlainPair, plain_over}

-- an agent was given local candidates, one after the other, whatever it returned
abbrev pub GivenCandidates : {I : Type 0} → IceMeaning I → I → List Candidate → I → Type 0
GivenCandidates m p [] q = q ≡ p
GivenCandidates {I} m p (candidate ∷ candidates) q =
    (r : I) × ((answer : Result Bool AllocError) × (m.local_added p candidate answer r × GivenCandidates m r candidates q))

-- a peer that was built over fresh plain parts, and was then given local candidates
pub record IsNewPeer {N : Type 0} (draws : Draws N) (p : Peer IceContents DtlsContents Contents MediaContents N) : Type 0 where
  pub alloc : Global
  pub config : PeerConfig
  pub start : ℕ
  pub first : N
  pub built : Peer IceContents DtlsContents Contents MediaContents N
  pub by_build : Builds (plain_over draws) alloc config start fresh_ice fresh_dtls fresh_contents fresh_media first built
  pub candidates : List Candidate
  pub by_candidates : GivenCandidates plain_ice built.ice candidates p.ice
  pub rest : p ≡ record built { ice = p.ice }

-- both peers are new, no handshake is finished, and no datagram was sent yet
pub record IsNewPair {N : Type 0} (draws : Draws N) (pair : PlainPair N) : Type 0 where
  pub left : IsNewPeer draws pair.left.core
  pub right : IsNewPeer draws pair.right.core
  pub pending : (at : Side) → (rtc_at at pair).transport.handshake ≡ Pending
  pub packets : pair.packets ≡ []
