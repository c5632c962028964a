-- What cannot be read is refused before its peer is called; a peer refuses nothing for that.
use Rattle.std.proofs.Common.{◌≡◌, ℕ, Bool, true, false, not, ◌&&◌, ◌||◌, List, [], ◌∷◌, Option, Some, None, refl, subst, cond}
use Rattle.std.specs.Prelude.{option_map}
use Rattle.std.specs.List.{AllByRecursion}
use Rattle.std.specs.Option.{option_or}
use Rattle.std.specs.Str.{bytes_eq}
use Rattle.rtc_sdp_values.specs.Sdp.{inconsistency, creds_of, sdp_fingerprint, sdp_sctp_init}
use Rattle.rtc_sdp_values.specs.declared.fingerprint.Fingerprint.{Fingerprint}
use Rattle.rtc_sdp_values.specs.declared.ice_creds.IceCreds.{IceCreds}
use Rattle.rtc_sdp_values.specs.declared.inconsistent.Inconsistent.{Inconsistent}
use Rattle.rtc_sdp_values.specs.declared.line_row.LineRow.{LineRow}
use Rattle.rtc_sdp_values.specs.declared.sdp.Sdp.{Sdp}
use Rattle.rtc_sdp_values.specs.declared.sdp_error.SdpError.{SdpError}
use Rattle.rtc_sdp_values.specs.declared.sdp_error.SdpError.TheVariants.{Parse, Inconsistent as NotConsistent}
use Rattle.rtc_peer_rows.specs.declared.parsed_line.ParsedLine.{ParsedLine}
use Rattle.rtc_peer_rows.specs.declared.why.Why.{Why}
use Rattle.rtc_peer_rows.specs.declared.why.Why.TheVariants.{BothLite, UnaskedRestart, SctpInitChanged, WrongNewLines}
use Rattle.rtc_peer_rows.specs.ParsedLines.{parsed_lines}
use Rattle.rtc_peer_rows.specs.Verdict.{first_of, first_refusal}
use Rattle.rtc_change.specs.declared.refusal.Refusal.{Refusal}
use Rattle.rtc_change.specs.declared.refusal.Refusal.TheVariants.{RemoteSdp as RefusedSdp, Sdp as RefusedAsSdp, Alloc as NoMemory}
use Rattle.rtc_change.specs.Held.{Held, Asked}
use Rattle.rtc_change.specs.WrongLines.{wrong_lines}
use Rattle.rtc_change.specs.Plans.{
  is_offer,
  no_lines,
  inconsistent,
  wrong_news,
  both_lite,
  no_credentials,
  same_creds,
  unasked_restart,
  no_fingerprint,
  init_refusal,
  may_restart,
  remote_refusal,
  side_verdict,
  head_verdict,
  verdict,
}
use Rattle.rtc_peer_core.specs.declared.rtc_error.RtcError.{RtcError}
use Rattle.rtc_peer_core.specs.declared.rtc_error.RtcError.TheVariants.{Sdp as SdpRefused}
use Rattle.rtc_run_history.specs.Past.{is_unread_for, is_unread, is_glare}

-- it is no refusal of a text that cannot be read
abbrev IsRead : Option Refusal → Type 0
IsRead None = Unit {0}
IsRead (Some (RefusedSdp why)) = Unit {0}
IsRead (Some (RefusedAsSdp error)) = is_unread_for error ≡ false
IsRead (Some NoMemory) = Unit {0}

one_read : (one rest : Option Refusal) → IsRead one → IsRead rest → IsRead (option_or one rest)
one_read None rest here behind = behind
one_read (Some refusal) rest here behind = here

first_read : (causes : List (Option Refusal)) → AllByRecursion IsRead causes → IsRead (first_of causes)
first_read [] read = tt
first_read (one ∷ rest) read = one_read one (first_of rest) read.0 (first_read rest read.1)

remote_read : (why : Option Why) → IsRead (remote_refusal why)
remote_read None = tt
remote_read (Some why) = tt

lines_read : (asked : Option Asked) (lines : List ParsedLine) → IsRead (no_lines asked lines)
lines_read None [] = tt
lines_read None (line ∷ lines) = tt
lines_read (Some asked) lines = tt

consistent_read : (cause : Option Inconsistent) → IsRead (option_map (λ why. RefusedAsSdp (NotConsistent why)) cause)
consistent_read None = tt
consistent_read (Some why) = refl

news_read : (rows : List LineRow) (asked : Option Asked) (parsed : List ParsedLine) → IsRead (wrong_news rows asked parsed)
news_read rows None parsed = tt
news_read rows (Some asked) parsed = remote_read (option_map WrongNewLines (wrong_lines rows asked.added parsed))

chosen_read : (b : Bool) (refusal : Option Refusal) → IsRead refusal → IsRead (cond b refusal None)
chosen_read true refusal read = read
chosen_read false refusal read = tt

other_read : (b : Bool) (refusal : Option Refusal) → IsRead refusal → IsRead (cond b None refusal)
other_read true refusal read = tt
other_read false refusal read = read

creds_read : (creds : Option IceCreds) → IsRead (no_credentials creds)
creds_read None = tt
creds_read (Some creds) = tt

restart_read : (may : Bool) (known got : Option IceCreds) → IsRead (unasked_restart may known got)
restart_read may (Some known) (Some got) = other_read (same_creds known got || may) (Some (RefusedSdp (UnaskedRestart known got))) tt
restart_read may (Some known) None = tt
restart_read may None got = tt

fingerprint_read : (known : Bool) (told : Option Fingerprint) → IsRead (no_fingerprint known told)
fingerprint_read false None = tt
fingerprint_read false (Some fingerprint) = tt
fingerprint_read true told = tt

init_read : (inited : Bool) (kept told : Option (List ℕ)) → IsRead (init_refusal inited kept told)
init_read true (Some kept) (Some got) = other_read (bytes_eq kept got) (Some (RefusedSdp (SctpInitChanged kept got))) tt
init_read true (Some kept) None = tt
init_read true None told = tt
init_read false kept told = tt

side_read : (held : Held) (may : Bool) (sdp : Sdp) → IsRead (side_verdict held may sdp)
unfolding side_verdict
side_read held may sdp =
    first_read (
    both_lite held.lite sdp.ice_lite
    ∷ no_credentials (creds_of sdp)
    ∷ unasked_restart may held.remote_creds (creds_of sdp)
    ∷ no_fingerprint held.has_fingerprint (sdp_fingerprint sdp)
    ∷ []
    ) (
      chosen_read (held.lite && sdp.ice_lite) (Some (RefusedSdp BothLite)) tt,
      (creds_read (creds_of sdp), (restart_read may held.remote_creds (creds_of sdp), (fingerprint_read held.has_fingerprint (sdp_fingerprint sdp), tt))),
    )

head_read : (held : Held) (asked : Option Asked) (sdp : Sdp) → IsRead (head_verdict held asked sdp)
unfolding head_verdict
head_read held asked sdp =
    first_read (
    no_lines asked (parsed_lines sdp)
    ∷ side_verdict held (may_restart asked) sdp
    ∷ init_refusal held.sctp_inited held.sctp_kept (sdp_sctp_init sdp)
    ∷ inconsistent sdp
    ∷ []
    ) (
      lines_read asked (parsed_lines sdp),
      (
        side_read held (may_restart asked) sdp,
        (init_read held.sctp_inited held.sctp_kept (sdp_sctp_init sdp), (consistent_read (inconsistency sdp), tt)),
      ),
    )

verdict_read : (held : Held) (asked : Option Asked) (sdp : Sdp) → IsRead (verdict held asked sdp)
unfolding verdict
verdict_read held asked sdp =
    let refused : Option Why = first_refusal held.lines (is_offer asked) false 0 (parsed_lines sdp) in
    first_read (head_verdict held asked sdp ∷ remote_refusal refused ∷ wrong_news held.lines asked (parsed_lines sdp) ∷ [])
    (head_read held asked sdp, (remote_read refused, (news_read held.lines asked (parsed_lines sdp), tt)))

-- a peer has read what it refuses
pub peer_reads : (held : Held) (asked : Option Asked) (sdp : Sdp) (error : SdpError) → verdict held asked sdp ≡ Some (RefusedAsSdp error)
    → is_unread_for error ≡ false
peer_reads held asked sdp error is = subst IsRead is (verdict_read held asked sdp)

-- no peer was called with what could not be read
pub uncalled_unread : (line : ℕ) (error : RtcError) → error ≡ SdpRefused (Parse line) → not (is_unread error) ≡ false
uncalled_unread line error is = rw is refl

pub uncalled_offer : (line : ℕ) (error : RtcError) → error ≡ SdpRefused (Parse line) → not (is_unread error || is_glare error) ≡ false
uncalled_offer line error is = rw is refl
