-- The pair of the program is new: its peers were built over fresh plain parts, and given their addresses.
use Rattle.std.proofs.Common.{◌≡◌, ◌∷◌, ◌∙◌, ℕ, List, [], true, false, None, Ok, refl, sym, ap, subst}
use Rattle.std.specs.declared.alloc.Global.{Global}
use Rattle.rtc_wire.specs.declared.addr.Addr.{Addr}
use Rattle.rtc_plain_media.specs.MediaContents.{MediaContents, fresh_media, update_of}
use Rattle.rtc_peer_transport.specs.declared.handshake.Handshake.TheVariants.{Pending}
use Rattle.rtc_peer_transport.specs.declared.transport.Transport.{Transport}
use Rattle.rtc_run_history.specs.declared.side.Side.{Side}
use Rattle.rtc_run_history.specs.declared.side.Side.TheVariants.{Left, Right}
use Rattle.rtc_run_history.specs.PairState.{rtc_at}
use Rattle.rtc_run_history.specs.DrawnInRuns.{HaveNoLines}
use Rattle.rtc_run_laws.specs.NewPairs.{IsNewPair, IsNewPeer}
use Rattle.rtc_run.specs.ProgramPair.{IsProgramPair, IsProgramPeer, PlainPairState, PlainPeer, counting, plain_parts, host_at, program_config}
use Rattle.rtc_run.specs.declared.peer_settings.PeerSettings.{PeerSettings}

peer_new : (alloc : Global) (settings : PeerSettings) (cert : List ℕ) (first : ℕ) (addr : Addr) (p : PlainPeer)
    → IsProgramPeer alloc settings cert first addr p → IsNewPeer counting p
peer_new alloc settings cert first addr p h = record {
  alloc = alloc;
  config = program_config settings cert;
  start = 0;
  first = first;
  built = h.built;
  by_build = h.by_build;
  candidates = host_at addr ∷ [];
  by_candidates = (p.ice, (Ok true, (h.by_address, refl)));
  rest = h.rest;
}

program_pending : (alloc : Global) (left right : PeerSettings) (pair : PlainPairState) → IsProgramPair alloc left right pair → (at : Side)
    → (rtc_at at pair).transport.handshake ≡ Pending
program_pending alloc left right pair h Left = ap (λ (t : Transport). t.handshake) h.left_transport
program_pending alloc left right pair h Right = ap (λ (t : Transport). t.handshake) h.right_transport

pub program_new : (alloc : Global) (left right : PeerSettings) (pair : PlainPairState) → IsProgramPair alloc left right pair → IsNewPair counting pair
program_new alloc left right pair h = record {
  left = peer_new alloc left _ _ _ pair.left.core h.left;
  right = peer_new alloc right _ _ _ pair.right.core h.right;
  pending = λ at. program_pending alloc left right pair h at;
  packets = h.packets;
}

-- its media parts have no line
peer_no_lines : (alloc : Global) (settings : PeerSettings) (cert : List ℕ) (first : ℕ) (addr : Addr) (p : PlainPeer)
    → IsProgramPeer alloc settings cert first addr p → (mid : List ℕ) → update_of p.media mid ≡ None
peer_no_lines alloc settings cert first addr p h mid =
    let same : p.media ≡ record fresh_media { raw_packets = false } = ap (λ (q : PlainPeer). q.media) h.rest ∙ h.by_build.by_settings in
    subst (λ (media : MediaContents). update_of media mid ≡ None) (sym same) refl

pub program_no_lines : (alloc : Global) (left right : PeerSettings) (pair : PlainPairState) → IsProgramPair alloc left right pair
    → HaveNoLines plain_parts pair
program_no_lines alloc left right pair h Left mid = peer_no_lines alloc left _ _ _ pair.left.core h.left mid
program_no_lines alloc left right pair h Right mid = peer_no_lines alloc right _ _ _ pair.right.core h.right mid
