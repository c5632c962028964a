-- What the acceptance of an offer or an answer makes of what negotiation reads of a peer, whatever its parts are.
use Rattle.std.specs.Prelude.{◌≡◌, ◌≢◌, ◌⊎◌, ℕ, Bool, true, false, List, [], ◌&&◌, ◌||◌, not, is_some, Option, Some, None, Result, Ok, Err, IfSome}
use Rattle.std.specs.Option.{option_or}
use Rattle.std.specs.List.{AllByRecursion}
use Rattle.rtc_sdp_values.specs.Sdp.{creds_of, sdp_fingerprint, sdp_setup, sdp_sctp_init}
use Rattle.rtc_sdp_values.specs.declared.line_row.LineRow.{LineRow}
use Rattle.rtc_sdp_values.specs.declared.ice_creds.IceCreds.{IceCreds}
use Rattle.rtc_sdp_values.specs.declared.sdp.Sdp.{Sdp}
use Rattle.rtc_channels.specs.Channels.{all_confirmed}
use Rattle.rtc_parts.specs.declared.dtls_error.DtlsError.TheVariants.{WouldBlock, Fault, Alloc as DtlsAlloc}
use Rattle.rtc_parts.specs.declared.media_update.MediaUpdate.{MediaUpdate}
use Rattle.rtc_parts.specs.MediaUpdates.{line_after}
use Rattle.rtc_sctp_values.specs.declared.proto_error.ProtoError.TheVariants.{Fault as AssociationFault}
use Rattle.rtc_sctp_values.specs.declared.sctp_error.SctpError.TheVariants.{Proto}
use Rattle.rtc_sctp_values.specs.InitHalves.{InitHalves}
use Rattle.rtc_sctp_values.specs.SnapHalves.{KeptHalves, begun_halves}
use Rattle.rtc_change.specs.declared.change.Change.{Change}
use Rattle.rtc_change.specs.declared.refusal.Refusal.{Refusal}
use Rattle.rtc_change.specs.declared.refusal.Refusal.TheVariants.{RemoteSdp as RefusedSdp, Sdp as RefusedText}
use Rattle.rtc_change.specs.Held.{Asked}
use Rattle.rtc_peer_rows.specs.ParsedLines.{parsed_lines}
use Rattle.rtc_change.specs.PendingOffer.{PendingOffer, staged_restart}
use Rattle.rtc_change.specs.Plans.{verdict, asked_by, is_restart}
use Rattle.rtc_peer_rows.specs.Table.{app_of}
use Rattle.rtc_change.specs.TableAfter.{table_after}
use Rattle.rtc_peer_core.specs.declared.rtc_error.RtcError.{RtcError}
use Rattle.rtc_peer_core.specs.declared.rtc_error.RtcError.TheVariants.{RemoteSdp, Sdp as SdpRefused, Dtls, Sctp, Net, Media as MediaFailed, ChangesOutOfOrder, BadChannel, Alloc, Glare}
use Rattle.rtc_peer_core.specs.Acceptances.{counter_after}
use Rattle.rtc_peer_core.specs.Calls.{raised, fitting_channels}
use Rattle.rtc_peer_core.specs.Formed.{AreSdpCreds, IsFormedUpdate, AreFormedChanges, IsTakenLine, IsFormed}
use Rattle.rtc_peer_core.specs.Glare.{meets_glare}
use Rattle.rtc_peer_core.specs.MadeSdp.{creds_in_use, candidates_in_use, answer_sdp, role_after}
use Rattle.rtc_peer_core.specs.PartMoves.{dropped_halves}
use Rattle.rtc_peer_core.specs.SdpHalves.{told_chunk, joined_by, answer_init}
use Rattle.rtc_peer_core.specs.Stance.{Stance, held_by}
use Rattle.rtc_peer_core.proofs.TokenTables.{NameTokens}
use Rattle.rtc_peer_core.proofs.StanceCalls.{IsReadBack}

abbrev pub StanceRefuses : Stance → Option Asked → Sdp → Refusal → Stance → Type 0
StanceRefuses s asked sdp why t =
    (verdict (held_by s) asked sdp ≡ Some why) × (t ≡ record s { counter = counter_after asked s.counter; outstanding = false })

-- an offer that does not collide with one of this side is refused
abbrev pub StanceRefusesOffer : Stance → Sdp → Refusal → Stance → Type 0
StanceRefusesOffer s offer why t = (meets_glare s.polite s.outstanding ≡ false) × StanceRefuses s None offer why t

-- the restart by which an offer is followed is there exactly where the offer restarts, and keeps the candidates
pub record IsFollowed (s : Stance) (offer : Sdp) (restart : Option (IceCreds × Bool)) : Type 0 where
  pub there : is_some restart ≡ is_restart s.ice.remote (creds_of offer)
  pub keeps : IfSome restart (λ r. r.1 ≡ true)
  pub tokens : IfSome restart (λ r. AreSdpCreds r.0)

-- whether the association is started once rows are there
abbrev pub inited_after : (inited : Bool) → List LineRow → Bool
inited_after inited rows = inited || is_some (app_of rows)

-- what is then kept of starts by session descriptions, where the association was started or was not
abbrev pub begun_by : (needed : Bool) → Option InitHalves → (drops : Bool) → KeptHalves → KeptHalves
begun_by true halves drops kept = begun_halves halves kept
begun_by false halves drops kept = dropped_halves drops kept

abbrev pub snap_after : Stance → List LineRow → Option InitHalves → (drops : Bool) → KeptHalves
snap_after s rows halves drops = begun_by (is_some (app_of rows) && not s.inited) halves drops s.snap

-- what is left once an offer or an answer was followed
abbrev pub followed_by : Stance → Option (IceCreds × Bool) → Sdp → Bool → Option InitHalves → Stance
followed_by s restart sdp offer halves = record s {
  lines = table_after s.lines (parsed_lines sdp) offer;
  ice = record s.ice {
    local = creds_in_use restart s.ice;
    remote = creds_of sdp;
    candidates = candidates_in_use restart s.ice;
  };
  fingerprint = option_or s.fingerprint (sdp_fingerprint sdp);
  role = Some (role_after s.role (sdp_setup sdp));
  inited = inited_after s.inited (table_after s.lines (parsed_lines sdp) offer);
  snap = snap_after s (table_after s.lines (parsed_lines sdp) offer) halves (not offer);
}

-- the halves of a start by session descriptions that a description gives, for which this side's half may be drawn
pub record Joins (s : Stance) (may : Bool) (sdp : Sdp) (halves : Option InitHalves) : Type 0 where
  pub half : List ℕ
  pub reads : IsReadBack half
  pub joined : halves ≡ joined_by s half (told_chunk s.inited may (sdp_sctp_init sdp))

-- what the media part is told of a description, and what it then has of lines: what is told is formed, where the lines can be taken
pub record TellsMedia (s : Stance) (changes : List Change) (sdp : Sdp) (told : List MediaUpdate) (t : Stance) : Type 0 where
  pub lines : (mid : List ℕ) → t.line mid ≡ line_after told mid (s.line mid)
  pub formed : IsFormed s → AreFormedChanges changes → NameTokens (parsed_lines sdp) → AllByRecursion IsTakenLine sdp.lines
      → AllByRecursion IsFormedUpdate told

-- a part failed or memory lacked on the way: what ICE and DTLS have may have changed, but whether the agent is lite
pub record Breaks (s : Stance) (restart : Option (IceCreds × Bool)) (counter : ℕ) (t : Stance) : Type 0 where
  pub lite : t.ice.lite ≡ s.ice.lite
  pub local : (t.ice.local ≡ s.ice.local) ⊎ (t.ice.local ≡ creds_in_use restart s.ice)
  pub candidates : (t.ice.candidates ≡ s.ice.candidates) ⊎ (t.ice.candidates ≡ candidates_in_use restart s.ice)
  pub rest : t ≡ record s { counter = counter; outstanding = false; ice = t.ice; role = t.role }

pub record StandsOffer (s : Stance) (offer answer : Sdp) (t : Stance) : Type 0 where
  pub no_glare : meets_glare s.polite s.outstanding ≡ false
  pub passes : verdict (held_by s) None offer ≡ None
  pub restart : Option (IceCreds × Bool)
  pub followed : IsFollowed s offer restart
  pub told : List MediaUpdate
  pub tells : TellsMedia s [] offer told t
  pub halves : Option InitHalves
  pub joins : Joins s true offer halves
  pub answered : answer ≡ answer_sdp s restart told (answer_init s.inited s.snap halves) offer
  pub rest : t
      ≡ record (followed_by s restart offer true halves) { counter = raised s.counter; outstanding = false; line = t.line }

pub record BreaksOffer (s : Stance) (offer : Sdp) (t : Stance) : Type 0 where
  pub no_glare : meets_glare s.polite s.outstanding ≡ false
  pub restart : Option (IceCreds × Bool)
  pub followed : IsFollowed s offer restart
  pub breaks : Breaks s restart (raised s.counter) t

abbrev pub StanceAcceptsOffer : Stance → Sdp → Result Sdp RtcError → Stance → Type 0
StanceAcceptsOffer s offer (Ok answer) t = StandsOffer s offer answer t
StanceAcceptsOffer s offer (Err (RemoteSdp why)) t = StanceRefusesOffer s offer (RefusedSdp why) t
StanceAcceptsOffer s offer (Err (SdpRefused error)) t = StanceRefusesOffer s offer (RefusedText error) t
StanceAcceptsOffer s offer (Err (Dtls Fault)) t = (verdict (held_by s) None offer ≡ None) × BreaksOffer s offer t
StanceAcceptsOffer s offer (Err (Dtls WouldBlock)) t = ⊥
StanceAcceptsOffer s offer (Err (Dtls DtlsAlloc)) t = ⊥
StanceAcceptsOffer s offer (Err (Sctp error)) t =
    (error ≡ Proto AssociationFault) × (verdict (held_by s) None offer ≡ None) × BreaksOffer s offer t
StanceAcceptsOffer s offer (Err ChangesOutOfOrder) t = ⊥
StanceAcceptsOffer s offer (Err (Net cause)) t = ⊥
StanceAcceptsOffer s offer (Err (MediaFailed cause)) t = ⊥
StanceAcceptsOffer s offer (Err BadChannel) t = ⊥
StanceAcceptsOffer s offer (Err Alloc) t = BreaksOffer s offer t
StanceAcceptsOffer s offer (Err Glare) t = (meets_glare s.polite s.outstanding ≡ true) × (t ≡ s)

pub record StandsAnswer (s : Stance) (token : PendingOffer) (answer : Sdp) (t : Stance) : Type 0 where
  pub right : s.counter ≡ raised token.id
  pub passes : verdict (held_by s) (Some (asked_by s.lines token)) answer ≡ None
  pub told : List MediaUpdate
  pub tells : TellsMedia s token.changes answer told t
  pub halves : Option InitHalves
  pub joins : Joins s token.says_init answer halves
  pub rest : t ≡ record (followed_by s (staged_restart token.changes) answer false halves) {
    outstanding = false;
    channels = all_confirmed (fitting_channels token.changes) s.channels;
    line = t.line;
  }

abbrev pub StanceAcceptsAnswer : Stance → PendingOffer → Sdp → Result (Unit {0}) RtcError → Stance → Type 0
StanceAcceptsAnswer s token answer (Ok done) t = StandsAnswer s token answer t
StanceAcceptsAnswer s token answer (Err (Net cause)) t = ⊥
StanceAcceptsAnswer s token answer (Err (MediaFailed cause)) t = ⊥
StanceAcceptsAnswer s token answer (Err BadChannel) t = ⊥
StanceAcceptsAnswer s token answer (Err Glare) t = ⊥
StanceAcceptsAnswer s token answer (Err ChangesOutOfOrder) t = (s.counter ≢ raised token.id) × (t ≡ s)
StanceAcceptsAnswer s token answer (Err (RemoteSdp why)) t =
    (s.counter ≡ raised token.id) × StanceRefuses s (Some (asked_by s.lines token)) answer (RefusedSdp why) t
StanceAcceptsAnswer s token answer (Err (SdpRefused error)) t =
    (s.counter ≡ raised token.id) × StanceRefuses s (Some (asked_by s.lines token)) answer (RefusedText error) t
StanceAcceptsAnswer s token answer (Err (Dtls Fault)) t =
    (s.counter ≡ raised token.id)
    × (verdict (held_by s) (Some (asked_by s.lines token)) answer ≡ None)
    × Breaks s (staged_restart token.changes) s.counter t
StanceAcceptsAnswer s token answer (Err (Dtls WouldBlock)) t = ⊥
StanceAcceptsAnswer s token answer (Err (Dtls DtlsAlloc)) t = ⊥
StanceAcceptsAnswer s token answer (Err (Sctp error)) t =
    (s.counter ≡ raised token.id)
    × (error ≡ Proto AssociationFault)
    × (verdict (held_by s) (Some (asked_by s.lines token)) answer ≡ None)
    × Breaks s (staged_restart token.changes) s.counter t
StanceAcceptsAnswer s token answer (Err Alloc) t = (s.counter ≡ raised token.id) × Breaks s (staged_restart token.changes) s.counter t
