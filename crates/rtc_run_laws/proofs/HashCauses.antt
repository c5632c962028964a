-- No session description is refused for the name of a hash function. A certificate is, by the name that was announced.
use Rattle.std.proofs.Common.{◌≡◌, ◌&&◌, ◌||◌, not, ℕ, Bool, true, false, cond, List, [], ◌∷◌, Option, Some, None, refl, subst}
use Rattle.std.specs.Prelude.{◌+◌, ◌==◌, nat_lt, length, option_map, slice_get, IfSome}
use Rattle.std.specs.List.{AllByRecursion}
use Rattle.std.specs.Option.{option_or}
use Rattle.std.specs.Str.{bytes_eq}
use Rattle.rtc_wire_text.specs.Cuts.{Lacks}
use Rattle.rtc_sdp_values.specs.LineRow.{row_place}
use Rattle.rtc_sdp_values.specs.MediaKind.{same_kind}
use Rattle.rtc_sdp_values.specs.Sdp.{creds_of, inconsistency, is_application, sdp_fingerprint, sdp_sctp_init}
use Rattle.rtc_sdp_values.specs.declared.direction.Direction.{Direction}
use Rattle.rtc_sdp_values.specs.declared.fingerprint.Fingerprint.{Fingerprint}
use Rattle.rtc_sdp_values.specs.declared.ice_creds.IceCreds.{IceCreds}
use Rattle.rtc_sdp_values.specs.declared.inconsistent.Inconsistent.{Inconsistent}
use Rattle.rtc_sdp_values.specs.declared.line_kind.LineKind.{LineKind}
use Rattle.rtc_sdp_values.specs.declared.line_kind.LineKind.TheVariants.{Audio, Video, Application, Unknown}
use Rattle.rtc_sdp_values.specs.declared.line_row.LineRow.{LineRow}
use Rattle.rtc_sdp_values.specs.declared.line_row.LineRow.TheVariants.{Media, App}
use Rattle.rtc_sdp_values.specs.declared.media_kind.MediaKind.{MediaKind}
use Rattle.rtc_sdp_values.specs.declared.media_kind.MediaKind.TheVariants.{Audio as AudioMedia, Video as VideoMedia}
use Rattle.rtc_sdp_values.specs.declared.sdp.Sdp.{Sdp}
use Rattle.rtc_sdp_values.specs.declared.sdp_error.SdpError.TheVariants.{Inconsistent as NotConsistent}
use Rattle.rtc_peer_rows.specs.declared.new_line.NewLine.{NewLine}
use Rattle.rtc_peer_rows.specs.declared.parsed_line.ParsedLine.{ParsedLine}
use Rattle.rtc_peer_rows.specs.declared.why.Why.{Why}
use Rattle.rtc_peer_rows.specs.declared.why.Why.TheVariants.{BothLite, UnaskedRestart, SctpInitChanged, MovedLine, WrongNewLines, NoMatch, UnknownHash}
use Rattle.rtc_peer_rows.specs.ParsedLines.{parsed_lines}
use Rattle.rtc_peer_rows.specs.Table.{app_of, has_mid, row_of}
use Rattle.rtc_peer_rows.specs.Verdict.{app_refusal, first_of, first_refusal, known_refusal, line_refusal, media_refusal, place_refusal}
use Rattle.rtc_change.specs.declared.refusal.Refusal.{Refusal}
use Rattle.rtc_change.specs.declared.refusal.Refusal.TheVariants.{RemoteSdp as RefusedSdp, Sdp as RefusedAsSdp}
use Rattle.rtc_change.specs.Held.{Asked, Held}
use Rattle.rtc_change.specs.WrongLines.{wrong_lines}
use Rattle.rtc_change.specs.Plans.{both_lite, head_verdict, inconsistent, init_refusal, is_offer, may_restart, no_credentials, no_fingerprint, no_lines, remote_refusal, same_creds, side_verdict, unasked_restart, verdict, wrong_news}
use Rattle.rtc_peer_polling.specs.Certificates.{cert_mismatch, cert_refusal, is_checked_hash}
use Rattle.rtc_run_laws.proofs.ReadHashes.{HasLineName}

-- the name of a hash function that a cause prints is in one line
abbrev pub WhyNames : Why → Type 0
WhyNames (UnknownHash name) = Lacks 10 name
WhyNames _ = Unit {0}

-- ---- certificates
taken_or_not : (b : Bool) (why : Why) → WhyNames why → IfSome (cond b None (Some why)) WhyNames
taken_or_not true why h = tt
taken_or_not false why h = h

mismatch_names : (announced got : Fingerprint) → HasLineName announced → IfSome (cert_mismatch announced got) WhyNames
mismatch_names announced got h = by (is_checked_hash announced.hash_func)
  where
    by : (b : Bool)
        → IfSome (cond b (cond (bytes_eq announced.bytes got.bytes) None (Some (NoMatch announced got))) (Some (UnknownHash announced.hash_func))) WhyNames
    by true = taken_or_not (bytes_eq announced.bytes got.bytes) (NoMatch announced got) tt
    by false = h

-- why a certificate is refused, if the fingerprint that was announced names its hash function in one line
pub refusal_names : (known : Option Fingerprint) (verifies : Bool) (got : Fingerprint) → IfSome known HasLineName → IfSome (cert_refusal known verifies got) WhyNames
refusal_names None verifies got h = tt
refusal_names (Some announced) true got h = mismatch_names announced got h
refusal_names (Some announced) false got h = tt

-- ---- lines of a session description
place_names : (offer : Bool) (mid : List ℕ) (found : Option LineRow) → IfSome (place_refusal offer mid found) WhyNames
place_names offer mid None = tt
place_names offer mid (Some (App p m)) = tt
place_names false mid (Some (Media p m k dir stopped remote_created)) = tt
place_names true mid (Some (Media p m k dir true remote_created)) = tt
place_names true mid (Some (Media p m k dir false remote_created)) = tt

known_names : (place : ℕ) (kind : MediaKind) (mid : List ℕ) (row : LineRow) → IfSome (known_refusal place kind mid row) WhyNames
known_names place kind mid (Media p m k dir stopped remote_created) = taken_or_not ((p == place) && same_kind k kind) (MovedLine mid) tt
known_names place kind mid (App p m) = tt

media_names : (rows : List LineRow) (offer : Bool) (place : ℕ) (kind : MediaKind) (mid : List ℕ) (found : Option LineRow) → row_of rows mid ≡ found
    → IfSome (media_refusal rows offer place kind mid) WhyNames
media_names rows offer place kind mid None is = rw is (place_names offer mid (slice_get rows place))
media_names rows offer place kind mid (Some row) is = rw is (known_names place kind mid row)

moved_or_not : (b : Bool) (mid : List ℕ) → IfSome (cond b (Some (MovedLine mid)) None) WhyNames
moved_or_not true mid = tt
moved_or_not false mid = tt

app_names : (rows : List LineRow) (came : Bool) (place : ℕ) (mid : List ℕ) (found : Option LineRow) → app_of rows ≡ found
    → IfSome (app_refusal rows came place mid) WhyNames
app_names rows came place mid None is = rw is (moved_or_not (came || (nat_lt place (length rows) || has_mid mid rows)) mid)
app_names rows came place mid (Some row) is = rw is (taken_or_not ((row_place row == place) && not came) (MovedLine mid) tt)

line_names : (rows : List LineRow) (offer came : Bool) (place : ℕ) (line : ParsedLine) → IfSome (line_refusal rows offer came place line) WhyNames
line_names rows offer came place line = by line.kind line.mid line.dir line.rejected
  where
    by : (kind : LineKind) (mid : List ℕ) (dir : Direction) (rejected : Bool)
        → let line : ParsedLine = record { kind = kind; mid = mid; dir = dir; rejected = rejected } in
        IfSome (line_refusal rows offer came place line) WhyNames
    by Audio mid dir rejected = media_names rows offer place AudioMedia mid (row_of rows mid) refl
    by Video mid dir rejected = media_names rows offer place VideoMedia mid (row_of rows mid) refl
    by Application mid dir rejected = app_names rows came place mid (app_of rows) refl
    by Unknown mid dir rejected = tt

either_why : (one other : Option Why) → IfSome one WhyNames → IfSome other WhyNames → IfSome (option_or one other) WhyNames
either_why None other h k = k
either_why (Some why) other h k = h

all_names : (rows : List LineRow) (offer came : Bool) (place : ℕ) (lines : List ParsedLine) → IfSome (first_refusal rows offer came place lines) WhyNames
all_names rows offer came place [] = tt
all_names rows offer came place (line ∷ lines) =
    either_why (line_refusal rows offer came place line) _ (line_names rows offer came place line)
    (all_names rows offer (came || is_application line.kind) (place + 1) lines)

-- ---- whole session descriptions
abbrev RefusalNames : Option Refusal → Type 0
RefusalNames (Some (RefusedSdp why)) = WhyNames why
RefusalNames _ = Unit {0}

one_names : (one rest : Option Refusal) → RefusalNames one → RefusalNames rest → RefusalNames (option_or one rest)
one_names None rest here behind = behind
one_names (Some refusal) rest here behind = here

first_names : (causes : List (Option Refusal)) → AllByRecursion RefusalNames causes → RefusalNames (first_of causes)
first_names [] names = tt
first_names (one ∷ rest) names = one_names one (first_of rest) names.0 (first_names rest names.1)

remote_names : (why : Option Why) → IfSome why WhyNames → RefusalNames (remote_refusal why)
remote_names None h = tt
remote_names (Some why) h = h

no_lines_names : (asked : Option Asked) (lines : List ParsedLine) → RefusalNames (no_lines asked lines)
no_lines_names None [] = tt
no_lines_names None (line ∷ lines) = tt
no_lines_names (Some asked) lines = tt

consistent_names : (cause : Option Inconsistent) → RefusalNames (option_map (λ why. RefusedAsSdp (NotConsistent why)) cause)
consistent_names None = tt
consistent_names (Some why) = tt

wrong_names : (wrong : Option NewLine) → IfSome (option_map WrongNewLines wrong) WhyNames
wrong_names None = tt
wrong_names (Some wrong) = tt

news_names : (rows : List LineRow) (asked : Option Asked) (parsed : List ParsedLine) → RefusalNames (wrong_news rows asked parsed)
news_names rows None parsed = tt
news_names rows (Some asked) parsed = remote_names (option_map WrongNewLines (wrong_lines rows asked.added parsed)) (wrong_names (wrong_lines rows asked.added parsed))

lite_names : (b : Bool) → RefusalNames (cond b (Some (RefusedSdp BothLite)) None)
lite_names true = tt
lite_names false = tt

other_names : (b : Bool) (why : Why) → WhyNames why → RefusalNames (cond b None (Some (RefusedSdp why)))
other_names true why h = tt
other_names false why h = h

creds_names : (creds : Option IceCreds) → RefusalNames (no_credentials creds)
creds_names None = tt
creds_names (Some creds) = tt

restart_names : (may : Bool) (known got : Option IceCreds) → RefusalNames (unasked_restart may known got)
restart_names may (Some known) (Some got) = other_names (same_creds known got || may) (UnaskedRestart known got) tt
restart_names may (Some known) None = tt
restart_names may None got = tt

no_fingerprint_names : (known : Bool) (told : Option Fingerprint) → RefusalNames (no_fingerprint known told)
no_fingerprint_names false None = tt
no_fingerprint_names false (Some fingerprint) = tt
no_fingerprint_names true told = tt

init_names : (inited : Bool) (kept told : Option (List ℕ)) → RefusalNames (init_refusal inited kept told)
init_names true (Some kept) (Some got) = other_names (bytes_eq kept got) (SctpInitChanged kept got) tt
init_names true (Some kept) None = tt
init_names true None told = tt
init_names false kept told = tt

side_names : (held : Held) (may : Bool) (sdp : Sdp) → RefusalNames (side_verdict held may sdp)
unfolding side_verdict
side_names held may sdp =
    first_names (
    both_lite held.lite sdp.ice_lite
    ∷ no_credentials (creds_of sdp)
    ∷ unasked_restart may held.remote_creds (creds_of sdp)
    ∷ no_fingerprint held.has_fingerprint (sdp_fingerprint sdp)
    ∷ []
    ) (
      lite_names (held.lite && sdp.ice_lite),
      (creds_names (creds_of sdp), (restart_names may held.remote_creds (creds_of sdp), (no_fingerprint_names held.has_fingerprint (sdp_fingerprint sdp), tt))),
    )

head_names : (held : Held) (asked : Option Asked) (sdp : Sdp) → RefusalNames (head_verdict held asked sdp)
unfolding head_verdict
head_names held asked sdp =
    first_names (
    no_lines asked (parsed_lines sdp)
    ∷ side_verdict held (may_restart asked) sdp
    ∷ init_refusal held.sctp_inited held.sctp_kept (sdp_sctp_init sdp)
    ∷ inconsistent sdp
    ∷ []
    ) (
      no_lines_names asked (parsed_lines sdp),
      (
        side_names held (may_restart asked) sdp,
        (init_names held.sctp_inited held.sctp_kept (sdp_sctp_init sdp), (consistent_names (inconsistency sdp), tt)),
      ),
    )

verdict_names : (held : Held) (asked : Option Asked) (sdp : Sdp) → RefusalNames (verdict held asked sdp)
unfolding verdict
verdict_names held asked sdp =
    let refused : Option Why = first_refusal held.lines (is_offer asked) false 0 (parsed_lines sdp) in
    first_names (head_verdict held asked sdp ∷ remote_refusal refused ∷ wrong_news held.lines asked (parsed_lines sdp) ∷ [])
    (head_names held asked sdp, (remote_names refused (all_names held.lines (is_offer asked) false 0 (parsed_lines sdp)), (news_names held.lines asked (parsed_lines sdp), tt)))

-- what a session description is refused for
pub refused_names : (held : Held) (asked : Option Asked) (sdp : Sdp) (why : Why) → verdict held asked sdp ≡ Some (RefusedSdp why) → WhyNames why
refused_names held asked sdp why is = subst RefusalNames is (verdict_names held asked sdp)
