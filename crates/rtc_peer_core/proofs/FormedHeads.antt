-- What formed peers tell in their offers and answers: heads and rows of which each text is read back.
use Rattle.std.proofs.Common.{◌≡◌, ◌<◌, ◌≤◌, ◌^◌, Bool, true, false, List, [], ◌∷◌, length, Option, Some, None, refl, arith}
use Rattle.std.specs.Prelude.{ℕ, IfSome, if◌then◌else◌, codes, option_map}
use Rattle.std.specs.List.{AllByRecursion}
use Rattle.rtc_wire_text.specs.Tokens.{is_short_token}
use Rattle.rtc_wire.specs.declared.addr.Addr.{Addr}
use Rattle.rtc_wire.specs.declared.protocol.Protocol.TheVariants.{Udp}
use Rattle.rtc_sdp_values.specs.LineRow.{row_mid}
use Rattle.rtc_sdp_values.specs.declared.candidate.Candidate.{Candidate}
use Rattle.rtc_sdp_values.specs.declared.candidate_kind.CandidateKind.TheVariants.{Host}
use Rattle.rtc_sdp_values.specs.declared.ice_creds.IceCreds.{IceCreds}
use Rattle.rtc_sdp_values.specs.declared.sdp.Sdp.{Sdp}
use Rattle.rtc_parts.specs.IceMeaning.{IceSettings}
use Rattle.rtc_sctp_values.specs.InitChunk.{chunk_text}
use Rattle.rtc_sctp_values.specs.InitHalves.{InitHalves, local_text}
use Rattle.rtc_sctp_values.specs.SnapHalves.{KeptHalves, text_in}
use Rattle.rtc_change.specs.declared.change.Change.{Change}
use Rattle.rtc_change.specs.declared.change.Change.TheVariants.{AddMedia, AddApp, AddChannel, Direction as SetDirection, IceRestart}
use Rattle.rtc_change.specs.PendingOffer.{added_rows, staged_restart}
use Rattle.rtc_peer_core.specs.declared.sdp_head.SdpHead.{SdpHead}
use Rattle.rtc_peer_core.specs.Formed.{AreSdpCreds, IsSha256, HaveTokens, IsHostCandidate, AreFormedChanges, IsFormed}
use Rattle.rtc_peer_core.specs.MadeSdp.{creds_in_use, candidates_in_use, offer_head, answer_head, offered_rows}
use Rattle.rtc_peer_core.specs.SdpHalves.{half_or, pending_halves, tells_half, init_told, offer_init, answer_init}
use Rattle.rtc_peer_core.specs.Stance.{Stance}
use Rattle.rtc_peer_core.proofs.Alls.{all-append}
use Rattle.rtc_peer_core.proofs.TokenTables.{added_tokens}

-- ---- what is in use after a restart

pub restart_words : (changes : List Change) → AreFormedChanges changes → IfSome (staged_restart changes) (λ restart. AreSdpCreds restart.0)
restart_words [] tokens = tt
restart_words (AddMedia media ∷ changes) tokens = restart_words changes tokens.1
restart_words (AddApp mid ∷ changes) tokens = restart_words changes tokens.1
restart_words (AddChannel id config ∷ changes) tokens = restart_words changes tokens.1
restart_words (SetDirection mid dir ∷ changes) tokens = restart_words changes tokens.1
restart_words (IceRestart creds keeps ∷ changes) tokens = tokens.0.restart

pub creds_in_use_words : (restart : Option (IceCreds × Bool)) (settings : IceSettings) → IfSome restart (λ r. AreSdpCreds r.0)
    → AreSdpCreds settings.local → AreSdpCreds (creds_in_use restart settings)
creds_in_use_words None settings tokens local = local
creds_in_use_words (Some restart) settings tokens local = tokens

if_kept : (keeps : Bool) (candidates : List Candidate) → AllByRecursion IsHostCandidate candidates
    → AllByRecursion IsHostCandidate (if keeps then candidates else [])
if_kept true candidates hosts = hosts
if_kept false candidates hosts = tt

pub candidates_in_use_hosts : (restart : Option (IceCreds × Bool)) (settings : IceSettings)
    → AllByRecursion IsHostCandidate settings.candidates
    → AllByRecursion IsHostCandidate (candidates_in_use restart settings)
candidates_in_use_hosts None settings hosts = hosts
candidates_in_use_hosts (Some restart) settings hosts = if_kept restart.1 settings.candidates hosts

-- ---- heads and rows

-- the text of a chunk
abbrev pub IsInitText : List ℕ → Type 0
IsInitText text = (chunk : List ℕ) × (text ≡ chunk_text chunk)

texts_of : (half : Option (List ℕ)) → IfSome (option_map chunk_text half) IsInitText
texts_of None = tt
texts_of (Some chunk) = (chunk, refl)

text_in_halves : (halves : Option InitHalves) → IfSome (text_in local_text halves) IsInitText
text_in_halves None = tt
text_in_halves (Some halves) = texts_of halves.local

told_text : (told : Bool) (s : Stance) (half : List ℕ) → IfSome (init_told told s half) IsInitText
told_text true s half = (half_or half (pending_halves s).local, refl)
told_text false s half = text_in_halves s.snap.started

pub answer_init_text : (inited : Bool) (kept : KeptHalves) (halves : Option InitHalves) → IfSome (answer_init inited kept halves) IsInitText
answer_init_text true kept halves = text_in_halves kept.started
answer_init_text false kept halves = text_in_halves halves

-- a head whose session number, credentials, fingerprint, candidates and longest message are those of a formed peer, and whose text of a
-- chunk is that of one
pub record IsFormedHead (head : SdpHead) : Type 0 where
  pub session : head.session < 2 ^ 64
  pub creds : AreSdpCreds head.creds
  pub fingerprint : IsSha256 head.fingerprint
  pub candidates : AllByRecursion IsHostCandidate head.candidates
  pub size : head.max_message_size < 2 ^ 32
  pub init : IfSome head.sctp_init IsInitText

pub offer_head_formed : (s : Stance) (half : List ℕ) → IsFormed s → IsFormedHead (offer_head s (offer_init s half))
offer_head_formed s half formed = record {
  session = formed.session;
  creds = creds_in_use_words (staged_restart s.staged) s.ice (restart_words s.staged formed.changes) formed.creds;
  fingerprint = formed.fingerprint;
  candidates = candidates_in_use_hosts (staged_restart s.staged) s.ice formed.candidates;
  size = formed.size;
  init = told_text (tells_half s) s half;
}

pub answer_head_formed : (s : Stance) (restart : Option (IceCreds × Bool)) (init : Option (List ℕ)) (offer : Sdp)
    → IfSome restart (λ r. AreSdpCreds r.0) → IfSome init IsInitText → IsFormed s → IsFormedHead (answer_head s restart init offer)
answer_head_formed s restart init offer tokens text formed = record {
  session = formed.session;
  creds = creds_in_use_words restart s.ice tokens formed.creds;
  fingerprint = formed.fingerprint;
  candidates = candidates_in_use_hosts restart s.ice formed.candidates;
  size = formed.size;
  init = text;
}

pub offered_rows_tokens : (s : Stance) → IsFormed s → HaveTokens (offered_rows s)
offered_rows_tokens s formed =
    all-append (λ row. is_short_token (row_mid row) ≡ true) s.lines (added_rows (length s.lines) s.staged) formed.rows
    (added_tokens (length s.lines) s.staged formed.staged)

-- a host candidate over UDP, as each of an address is
pub host_formed : (addr : Addr) → length addr.ip ≡ 4 → AllByRecursion (λ byte. byte ≤ 255) addr.ip → addr.port ≤ 65535
    → IsHostCandidate (record { foundation = codes "1"; component = 1; proto = Udp; priority = 2130706431; addr = addr; kind = Host })
host_formed addr four bytes port = record {
  foundation = refl;
  component = omega arith;
  proto = refl;
  priority = omega arith;
  four = four;
  bytes = bytes;
  port = port;
  kind = refl;
}
