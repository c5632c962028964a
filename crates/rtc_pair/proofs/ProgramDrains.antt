-- Drains of runs on the pair of the program show at most as many outputs as their peer weighs: no threshold is set at the start.
use Rattle.std.proofs.Common.{◌≡◌, inl, true, false, ℕ, List, Option, refl, sym, ap, subst, arith}
use Rattle.std.specs.declared.alloc.Global.{Global}
use Rattle.rtc_wire.specs.declared.addr.Addr.{Addr}
use Rattle.rtc_plain_ice.specs.Contents.{fresh_ice}
use Rattle.rtc_plain_dtls.specs.Contents.{fresh_dtls}
use Rattle.rtc_assoc_state.specs.Contents.{fresh_contents}
use Rattle.rtc_plain_media.specs.MediaContents.{fresh_media}
use Rattle.rtc_peer_transport.specs.declared.transport.Transport.{Transport}
use Rattle.rtc_peer_transport.specs.Connection.{no_transport}
use Rattle.rtc_peer_laws.specs.Weight.{HasNoThreshold, handshake_weight}
use Rattle.rtc_peer_laws.proofs.SetsNone.{built_sets_none}
use Rattle.rtc_run_history.specs.declared.side.Side.TheVariants.{Left, Right}
use Rattle.rtc_run_laws.specs.Drains.{AreUndriven}
use Rattle.rtc_run_laws.proofs.StepsExchange.{plain_over_laws}
use Rattle.rtc_run.specs.ProgramPair.{IsProgramPair, IsProgramPeer, PlainPairState, PlainPeer, counting, plain_parts, program_config}
use Rattle.rtc_run.specs.declared.peer_settings.PeerSettings.{PeerSettings}

-- no threshold is set at a peer of the program
peer_unset : (alloc : Global) (settings : PeerSettings) (cert : List ℕ) (first : ℕ) (addr : Addr) (p : PlainPeer)
    → IsProgramPeer alloc settings cert first addr p → HasNoThreshold plain_parts p
peer_unset alloc settings cert first addr p h =
    let built = built_sets_none plain_parts (plain_over_laws counting) alloc (program_config settings cert) 0 fresh_ice fresh_dtls fresh_contents fresh_media first h.built
    (omega arith) refl h.by_build in
    subst (λ (x : PlainPeer). HasNoThreshold plain_parts x) (sym h.rest)
    (record { stands = built.stands; asked = built.asked; moment = built.moment })

-- nothing is to be told of its handshake
not_begun : (t : Transport) (interval : Option ℕ) → t ≡ no_transport true false interval → handshake_weight t.handshake ≡ 0
not_begun t interval is = ap (λ (x : Transport). handshake_weight x.handshake) is

pub program_undriven : (alloc : Global) (left right : PeerSettings) (pair : PlainPairState) → IsProgramPair alloc left right pair → AreUndriven plain_parts pair
program_undriven alloc left right pair h Left =
    (peer_unset alloc left _ _ _ pair.left.core h.left, inl (not_begun pair.left.transport left.stats_interval h.left_transport))
program_undriven alloc left right pair h Right =
    (peer_unset alloc right _ _ _ pair.right.core h.right, inl (not_begun pair.right.transport right.stats_interval h.right_transport))
