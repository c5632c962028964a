-- Each acceptance keeps a peer formed, by what negotiation reads of it.
use Rattle.std.proofs.Common.{◌≡◌, ◌⊎◌, inl, inr, ◌<◌, ◌^◌, ℕ, Bool, true, false, List, [], Option, None, Result, Ok, Err, sym, ap, subst}
use Rattle.std.specs.Prelude.{IfSome}
use Rattle.std.specs.List.{AllByRecursion}
use Rattle.rtc_sdp_values.specs.declared.ice_creds.IceCreds.{IceCreds}
use Rattle.rtc_sdp_values.specs.declared.sdp.Sdp.{Sdp}
use Rattle.rtc_parts.specs.declared.dtls_error.DtlsError.TheVariants.{WouldBlock, Fault, Alloc as DtlsAlloc}
use Rattle.rtc_parts.specs.declared.media_update.MediaUpdate.{MediaUpdate}
use Rattle.rtc_change.specs.declared.change.Change.{Change}
use Rattle.rtc_change.specs.declared.refusal.Refusal.{Refusal}
use Rattle.rtc_change.specs.declared.refusal.Refusal.TheVariants.{RemoteSdp as RefusedSdp, Sdp as RefusedText}
use Rattle.rtc_change.specs.Held.{Asked}
use Rattle.rtc_sctp_values.specs.InitHalves.{InitHalves}
use Rattle.rtc_channels.specs.Channels.{all_confirmed}
use Rattle.rtc_change.specs.PendingOffer.{PendingOffer, staged_restart}
use Rattle.rtc_peer_rows.specs.ParsedLines.{parsed_lines}
use Rattle.rtc_peer_core.specs.declared.rtc_error.RtcError.{RtcError}
use Rattle.rtc_peer_core.specs.declared.rtc_error.RtcError.TheVariants.{RemoteSdp, Sdp as SdpRefused, Dtls, Sctp, Net, Media as MediaFailed, ChangesOutOfOrder, BadChannel, Alloc, Glare}
use Rattle.rtc_peer_core.specs.Acceptances.{counter_after}
use Rattle.rtc_peer_core.specs.Calls.{raised, fitting_channels}
use Rattle.rtc_peer_core.specs.Formed.{AreSdpCreds, IsSha256, HaveTokens, AddTokens, IsHostCandidate, AreFormedChanges, IsFormedUpdate, IsTakenLine, IsFormed}
use Rattle.rtc_peer_core.specs.MadeSdp.{creds_in_use, candidates_in_use}
use Rattle.rtc_peer_core.specs.Formats.{AreFormedFormats}
use Rattle.rtc_peer_core.specs.Stance.{Stance}
use Rattle.rtc_peer_core.proofs.FormedHeads.{restart_words, creds_in_use_words, candidates_in_use_hosts}
use Rattle.rtc_peer_core.proofs.FormedUpdates.{line_after_formed}
use Rattle.rtc_peer_core.proofs.StanceTaken.{TellsMedia, StanceRefuses, StanceAcceptsOffer, StanceAcceptsAnswer, Breaks, followed_by}
use Rattle.rtc_peer_core.proofs.TokenTables.{NameTokens, table_after_tokens}
use Rattle.rtc_peer_core.proofs.FormedStances.{counted_formed}

-- what the media part has once it was told of a description
told_formed : (s : Stance) (changes : List Change) (sdp : Sdp) (told : List MediaUpdate) (t : Stance) → TellsMedia s changes sdp told t
    → AreFormedChanges changes → NameTokens (parsed_lines sdp) → AllByRecursion IsTakenLine sdp.lines → IsFormed s
    → (mid : List ℕ) → IfSome (t.line mid) IsFormedUpdate
told_formed s changes sdp told t tells staged names taken formed = λ mid.
    rw (tells.lines mid) (line_after_formed told mid (s.line mid) (tells.formed formed staged names taken) (formed.media mid))

followed_formed : (s : Stance) (restart : Option (IceCreds × Bool)) (sdp : Sdp) (offer : Bool) (halves : Option InitHalves)
    (line : List ℕ → Option MediaUpdate)
    → IfSome restart (λ r. AreSdpCreds r.0) → NameTokens (parsed_lines sdp) → ((mid : List ℕ) → IfSome (line mid) IsFormedUpdate) → IsFormed s
    → IsFormed (record (followed_by s restart sdp offer halves) { line = line })
followed_formed s restart sdp offer halves line tokens names media formed = record {
  session = formed.session;
  creds = creds_in_use_words restart s.ice tokens formed.creds;
  candidates = candidates_in_use_hosts restart s.ice formed.candidates;
  fingerprint = formed.fingerprint;
  rows = table_after_tokens s.lines (parsed_lines sdp) offer formed.rows names;
  staged = formed.staged;
  size = formed.size;
  changes = formed.changes;
  formats = formed.formats;
  media = media;
}

-- what holds of two values holds of one that is either
either : {A : Type 0} (P : A → Type 0) (new one other : A) → (new ≡ one) ⊎ (new ≡ other) → P one → P other → P new
either P new one other (inl same) p q = subst P (sym same) p
either P new one other (inr same) p q = subst P (sym same) q

broken_formed : (s : Stance) (restart : Option (IceCreds × Bool)) (counter : ℕ) (t : Stance) → Breaks s restart counter t
    → IfSome restart (λ r. AreSdpCreds r.0) → IsFormed s → IsFormed t
broken_formed s restart counter t breaks tokens formed = record {
  session = subst (λ (n : ℕ). n < 2 ^ 64) (sym (ap (λ r. r.session) breaks.rest)) formed.session;
  creds = either AreSdpCreds t.ice.local s.ice.local (creds_in_use restart s.ice) breaks.local formed.creds
      (creds_in_use_words restart s.ice tokens formed.creds);
  candidates = either (λ hosts. AllByRecursion IsHostCandidate hosts) t.ice.candidates s.ice.candidates
      (candidates_in_use restart s.ice) breaks.candidates
      formed.candidates (candidates_in_use_hosts restart s.ice formed.candidates);
  fingerprint = subst IsSha256 (sym (ap (λ r. r.own_fingerprint) breaks.rest)) formed.fingerprint;
  rows = subst HaveTokens (sym (ap (λ r. r.lines) breaks.rest)) formed.rows;
  staged = subst AddTokens (sym (ap (λ r. r.staged) breaks.rest)) formed.staged;
  size = subst (λ (n : ℕ). n < 2 ^ 32) (sym (ap (λ r. r.max_message_size) breaks.rest)) formed.size;
  changes = subst AreFormedChanges (sym (ap (λ r. r.staged) breaks.rest)) formed.changes;
  formats = subst AreFormedFormats (sym (ap (λ r. r.formats) breaks.rest)) formed.formats;
  media = subst (λ (line : List ℕ → Option MediaUpdate). (mid : List ℕ) → IfSome (line mid) IsFormedUpdate)
      (sym (ap (λ r. r.line) breaks.rest)) formed.media;
}

refused_formed : (s : Stance) (asked : Option Asked) (sdp : Sdp) (why : Refusal) (t : Stance) → StanceRefuses s asked sdp why t
    → IsFormed s → IsFormed t
refused_formed s asked sdp why t refuses formed = rw refuses.1 (counted_formed s (counter_after asked s.counter) false s.undo s.channels s.rows formed)

-- An offer whose mids are short tokens and whose lines can be taken is accepted or refused.
pub offered_formed : (s : Stance) (offer : Sdp) (result : Result Sdp RtcError) (t : Stance) → StanceAcceptsOffer s offer result t
    → NameTokens (parsed_lines offer) → AllByRecursion IsTakenLine offer.lines → IsFormed s → IsFormed t
offered_formed s offer (Ok answer) t accepts names taken formed =
    let media = told_formed s [] offer accepts.told t accepts.tells tt names taken formed in
    rw accepts.rest (counted_formed (record (followed_by s accepts.restart offer true accepts.halves) { line = t.line }) (raised s.counter) false s.undo
    s.channels s.rows (followed_formed s accepts.restart offer true accepts.halves t.line accepts.followed.tokens names media formed))
offered_formed s offer (Err (RemoteSdp why)) t accepts names taken formed = refused_formed s None offer (RefusedSdp why) t accepts.1 formed
offered_formed s offer (Err (SdpRefused error)) t accepts names taken formed = refused_formed s None offer (RefusedText error) t accepts.1 formed
offered_formed s offer (Err (Dtls Fault)) t accepts names taken formed =
    broken_formed s accepts.1.restart (raised s.counter) t accepts.1.breaks accepts.1.followed.tokens formed
offered_formed s offer (Err (Dtls WouldBlock)) t accepts names taken formed = absurd accepts
offered_formed s offer (Err (Dtls DtlsAlloc)) t accepts names taken formed = absurd accepts
offered_formed s offer (Err (Sctp error)) t accepts names taken formed =
    broken_formed s accepts.2.restart (raised s.counter) t accepts.2.breaks accepts.2.followed.tokens formed
offered_formed s offer (Err ChangesOutOfOrder) t accepts names taken formed = absurd accepts
offered_formed s offer (Err (Net cause)) t accepts names taken formed = absurd accepts
offered_formed s offer (Err (MediaFailed cause)) t accepts names taken formed = absurd accepts
offered_formed s offer (Err BadChannel) t accepts names taken formed = absurd accepts
offered_formed s offer (Err Glare) t accepts names taken formed = rw accepts.1 formed
offered_formed s offer (Err Alloc) t accepts names taken formed =
    broken_formed s accepts.restart (raised s.counter) t accepts.breaks accepts.followed.tokens formed

-- An answer whose mids are short tokens and whose lines can be taken is accepted or refused, with a token whose changes are formed.
pub answered_formed : (s : Stance) (token : PendingOffer) (answer : Sdp) (result : Result (Unit {0}) RtcError) (t : Stance)
    → StanceAcceptsAnswer s token answer result t → AreFormedChanges token.changes → NameTokens (parsed_lines answer)
    → AllByRecursion IsTakenLine answer.lines → IsFormed s → IsFormed t
answered_formed s token answer (Ok done) t accepts changes names taken formed =
    let media = told_formed s token.changes answer accepts.told t accepts.tells changes names taken formed in
    rw accepts.rest (counted_formed (record (followed_by s (staged_restart token.changes) answer false accepts.halves) { line = t.line })
    s.counter false s.undo
    (all_confirmed (fitting_channels token.changes) s.channels) s.rows
    (followed_formed s (staged_restart token.changes) answer false accepts.halves t.line (restart_words token.changes changes) names media
    formed))
answered_formed s token answer (Err (Net cause)) t accepts changes names taken formed = absurd accepts
answered_formed s token answer (Err (MediaFailed cause)) t accepts changes names taken formed = absurd accepts
answered_formed s token answer (Err BadChannel) t accepts changes names taken formed = absurd accepts
answered_formed s token answer (Err Glare) t accepts changes names taken formed = absurd accepts
answered_formed s token answer (Err ChangesOutOfOrder) t accepts changes names taken formed = rw accepts.1 formed
answered_formed s token answer (Err (RemoteSdp why)) t accepts changes names taken formed =
    refused_formed s _ answer (RefusedSdp why) t accepts.1 formed
answered_formed s token answer (Err (SdpRefused error)) t accepts changes names taken formed =
    refused_formed s _ answer (RefusedText error) t accepts.1 formed
answered_formed s token answer (Err (Dtls Fault)) t accepts changes names taken formed =
    broken_formed s (staged_restart token.changes) s.counter t accepts.2 (restart_words token.changes changes) formed
answered_formed s token answer (Err (Dtls WouldBlock)) t accepts changes names taken formed = absurd accepts
answered_formed s token answer (Err (Dtls DtlsAlloc)) t accepts changes names taken formed = absurd accepts
answered_formed s token answer (Err (Sctp error)) t accepts changes names taken formed =
    broken_formed s (staged_restart token.changes) s.counter t accepts.3 (restart_words token.changes changes) formed
answered_formed s token answer (Err Alloc) t accepts changes names taken formed =
    broken_formed s (staged_restart token.changes) s.counter t accepts.1 (restart_words token.changes changes) formed
