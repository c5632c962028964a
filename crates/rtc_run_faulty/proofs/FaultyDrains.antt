-- No threshold is set at the peers of a new pair, and no handshake of theirs is finished.
use Rattle.std.proofs.Common.{◌≡◌, inl, true, false, ℕ, List, Option, refl, sym, ap, subst, arith}
use Rattle.std.specs.declared.alloc.Global.{Global}
use Rattle.rtc_peer_laws.proofs.SetsNone.{built_sets_none}
use Rattle.rtc_peer_laws.specs.Weight.{HasNoThreshold, handshake_weight}
use Rattle.rtc_peer_transport.specs.Connection.{no_transport}
use Rattle.rtc_peer_transport.specs.declared.transport.Transport.{Transport}
use Rattle.rtc_plain_ice.specs.Contents.{fresh_ice}
use Rattle.rtc_run_history.specs.declared.side.Side.TheVariants.{Left, Right}
use Rattle.rtc_run_laws.specs.Drains.{AreUndriven, IsUndriven}
use Rattle.rtc_run.specs.declared.peer_settings.PeerSettings.{PeerSettings}
use Rattle.rtc_run.specs.ProgramPair.{program_config}
use Rattle.rtc_wire.specs.declared.addr.Addr.{Addr}
use Rattle.rtc_run_faulty.proofs.ListedCauses.{faulty_laws}
use Rattle.rtc_run_faulty.specs.declared.failing_calls.FailingCalls.{FailingCalls}
use Rattle.rtc_run_faulty.specs.FaultyPairs.{IsFaultyPeer}
use Rattle.rtc_run_faulty.specs.FaultyParts.{
  FaultyCore,
  FaultyPolled,
  FaultyPairState,
  faulty_parts,
  fresh_faulty_dtls,
  fresh_faulty_association,
  fresh_faulty_media,
}

peer_unset : (alloc : Global) (settings : PeerSettings) (cert : List ℕ) (first : ℕ) (addr : Addr) (failing : FailingCalls) (p : FaultyCore)
    → IsFaultyPeer alloc settings cert first addr failing p → HasNoThreshold faulty_parts p
peer_unset alloc settings cert first addr failing p h =
    let built = built_sets_none faulty_parts faulty_laws alloc (program_config settings cert) 0 fresh_ice (fresh_faulty_dtls failing.dtls)
    (fresh_faulty_association failing.association) (fresh_faulty_media failing.media) first h.built (omega arith)
    (record { inner = refl; unused = refl; faultless = refl }) h.by_build in
    subst (λ (x : FaultyCore). HasNoThreshold faulty_parts x) (sym h.rest)
    (record { stands = built.stands; asked = built.asked; moment = built.moment })

not_begun : (t : Transport) (interval : Option ℕ) → t ≡ no_transport true false interval → handshake_weight t.handshake ≡ 0
not_begun t interval is = ap (λ (x : Transport). handshake_weight x.handshake) is

-- so it is with one of them
pub peer_undriven : (alloc : Global) (settings : PeerSettings) (cert : List ℕ) (first : ℕ) (addr : Addr) (failing : FailingCalls) (interval : Option ℕ)
    (p : FaultyPolled) → IsFaultyPeer alloc settings cert first addr failing p.core → p.transport ≡ no_transport true false interval → IsUndriven faulty_parts p
peer_undriven alloc settings cert first addr failing interval p h is =
    (peer_unset alloc settings cert first addr failing p.core h, inl (not_begun p.transport interval is))

pub faulty_undriven : (pair : FaultyPairState) → IsUndriven faulty_parts pair.left → IsUndriven faulty_parts pair.right → AreUndriven faulty_parts pair
faulty_undriven pair left right Left = left
faulty_undriven pair left right Right = right
