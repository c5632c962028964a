-- What formed peers make is legible: it is read again as it is written, but for sources that stand twice.
use Rattle.std.proofs.Common.{◌≡◌, ℕ, Bool, true, false, List, [], ◌∷◌, map, length, Option, refl, sym, ◌∙◌, ap, subst}
use Rattle.std.specs.Prelude.{IfSome}
use Rattle.std.specs.List.{AllByRecursion}
use Rattle.rtc_wire_text.specs.Tokens.{is_short_token}
use Rattle.rtc_sdp_values.specs.LineRow.{row_mid}
use Rattle.rtc_sdp_values.specs.declared.ice_creds.IceCreds.{IceCreds}
use Rattle.rtc_sdp_values.specs.declared.line_kind.LineKind.{LineKind}
use Rattle.rtc_sdp_values.specs.declared.line_kind.LineKind.TheVariants.{Audio as AudioLine, Video as VideoLine, Application, Unknown}
use Rattle.rtc_sdp_values.specs.declared.media_line.MediaLine.{MediaLine}
use Rattle.rtc_sdp_values.specs.declared.sdp.Sdp.{Sdp}
use Rattle.rtc_sdp_values.specs.declared.candidate.Candidate.{Candidate}
use Rattle.rtc_sdp_values.specs.declared.ssrc.Ssrc.{Ssrc}
use Rattle.rtc_sdp_writer.specs.Plain.{IsLegible, IsHost, IsLegibleLine, AreNamed, SuitsKind, StandFirst}
use Rattle.rtc_sdp_writer.specs.SessionRows.{enabled_mids as named_mids}
use Rattle.rtc_parts.specs.declared.media_update.MediaUpdate.{MediaUpdate}
use Rattle.rtc_change.specs.PendingOffer.{added_rows}
use Rattle.rtc_peer_rows.specs.ParsedLines.{parsed_line, parsed_lines}
use Rattle.rtc_peer_core.specs.declared.sdp_head.SdpHead.{SdpHead}
use Rattle.rtc_peer_core.proofs.FormedHeads.{IsInitText, IsFormedHead, offer_head_formed, answer_head_formed}
use Rattle.rtc_peer_core.specs.Stance.{Stance}
use Rattle.rtc_peer_core.specs.Formed.{AreSdpCreds, HaveTokens, IsFormedUpdate, IsFormed}
use Rattle.rtc_peer_core.specs.declared.told_row.ToldRow.{ToldRow}
use Rattle.rtc_peer_core.specs.MadeSdp.{told_line, row_told, with_candidates, sdp_of_rows}
use Rattle.rtc_peer_core.specs.MadeSdp.{offer_head, offered_told, answer_head, answered_told, offer_sdp, answer_sdp}
use Rattle.rtc_peer_core.specs.SdpHalves.{offer_init}
use Rattle.rtc_peer_core.proofs.ToldRows.{IsToldFormed, rows_of_offered, rows_of_answered, offered_media_formed, answered_media_formed}
use Rattle.rtc_peer_core.proofs.Alls.{all-append, all-map}
use Rattle.rtc_peer_core.proofs.TokenTables.{NameTokens, added_tokens, table_after_tokens}
use Rattle.rtc_run_laws.proofs.RowLines.{hosts_plain, live_mids-same, bare_rows, lines_legible}

-- ---- candidates at the first line

named_with : (candidates : List Candidate) (line : MediaLine) (sources : List (Ssrc × Option Ssrc)) → AreNamed sources line → AreNamed sources (record line { candidates = candidates })
named_with candidates line [] named = named
named_with candidates line (source ∷ sources) named = named

suits_with : (candidates : List Candidate) (kind : LineKind) (line : MediaLine) → SuitsKind kind line → SuitsKind kind (record line { candidates = candidates })
suits_with candidates AudioLine line suits =
    record { limit = suits.limit; chunk = suits.chunk; named = named_with candidates line line.ssrcs suits.named; quiet = λ off. let quiet = suits.quiet off in record { msid = quiet.msid; cname = quiet.cname; ssrcs = quiet.ssrcs } }
suits_with candidates VideoLine line suits =
    record { limit = suits.limit; chunk = suits.chunk; named = named_with candidates line line.ssrcs suits.named; quiet = λ off. let quiet = suits.quiet off in record { msid = quiet.msid; cname = quiet.cname; ssrcs = quiet.ssrcs } }
suits_with candidates Application line suits = record {
  dir = suits.dir;
  live = suits.live;
  limit = suits.limit;
  payloads = suits.payloads;
  exts = suits.exts;
  simulcast = suits.simulcast;
  msid = suits.msid;
  cname = suits.cname;
  ssrcs = suits.ssrcs;
}
suits_with candidates Unknown line suits = suits

line_with : (candidates : List Candidate) (line : MediaLine) → AllByRecursion IsHost candidates → IsLegibleLine line → IsLegibleLine (record line { candidates = candidates })
line_with candidates line hosts is = record {
  kind = suits_with candidates line.kind line is.kind;
  mid = is.mid;
  candidates = hosts;
  creds = is.creds;
  creds_form = is.creds_form;
  fingerprint = is.fingerprint;
  fingerprint_form = is.fingerprint_form;
  setup = is.setup;
  payloads = is.payloads;
  payloads_apart = is.payloads_apart;
  exts = is.exts;
  simulcast = is.simulcast;
  msid = is.msid;
  cname = is.cname;
  ssrcs = is.ssrcs;
  max_message_size = is.max_message_size;
  sctp_init = is.sctp_init;
}

lines_with : (candidates : List Candidate) (lines : List MediaLine) → AllByRecursion IsHost candidates → AllByRecursion IsLegibleLine lines → AllByRecursion IsLegibleLine (with_candidates candidates lines)
lines_with candidates [] hosts legible = tt
lines_with candidates (line ∷ lines) hosts legible = (line_with candidates line hosts legible.0, legible.1)

mids_with : (candidates : List Candidate) (lines : List MediaLine) → named_mids (with_candidates candidates lines) ≡ named_mids lines
mids_with candidates [] = refl
mids_with candidates (line ∷ lines) = by line.disabled refl
  where
    by : (off : Bool) → line.disabled ≡ off → named_mids (with_candidates candidates (line ∷ lines)) ≡ named_mids (line ∷ lines)
    by true is = rw is refl
    by false is = rw is refl

-- the session description of rows is read again, each row as it is told but for sources that stand twice
pub sdp_legible : (head : SdpHead) (told : List ToldRow) → IsFormedHead head → HaveTokens (map row_told told) → AllByRecursion IsToldFormed told
    → IsLegible (sdp_of_rows head told)
sdp_legible head told plain tokens formed = record {
  id = plain.session;
  groups = ap (λ mids. mids ∷ []) (live_mids-same head told ∙ sym (mids_with head.candidates (map (told_line head) told)));
  creds = refl;
  fingerprint = refl;
  setup = refl;
  lines = lines_with head.candidates (map (told_line head) told) (hosts_plain head.candidates plain.candidates)
      (lines_legible head told plain tokens formed);
  candidates = first told;
}
  where
    first : (some : List ToldRow) → StandFirst (with_candidates head.candidates (map (told_line head) some))
    first [] = tt
    first (one ∷ rest) = bare_rows head rest

-- ---- mids of lines

-- the mids of the lines of a legible session description are short tokens
pub legible_names_tokens : (sdp : Sdp) → IsLegible sdp → NameTokens (parsed_lines sdp)
legible_names_tokens sdp legible =
    all-map IsLegibleLine (λ line. is_short_token line.mid ≡ true) (parsed_line sdp.groups) (λ line is. is.mid) sdp.lines legible.lines

-- ---- what a peer makes

-- The offer of a formed peer is legible.
pub offer_legible : (s : Stance) (half : List ℕ) → IsFormed s → IsLegible (offer_sdp s (offer_init s half))
unfolding offer_sdp
offer_legible s half formed =
    sdp_legible (offer_head s (offer_init s half)) (offered_told s) (offer_head_formed s half formed)
    (subst HaveTokens (sym (rows_of_offered s))
    (all-append (λ row. is_short_token (row_mid row) ≡ true) s.lines (added_rows (length s.lines) s.staged) formed.rows
    (added_tokens (length s.lines) s.staged formed.staged)))
    (offered_media_formed s formed)

-- The answer of a formed peer to an offer of mids that are short tokens is legible, also where it follows a restart, where what the media
-- part is told is formed.
pub answer_legible : (s : Stance) (restart : Option (IceCreds × Bool)) (told : List MediaUpdate) (init : Option (List ℕ)) (offer : Sdp)
    → IfSome restart (λ r. AreSdpCreds r.0) → IfSome init IsInitText → IsFormed s → NameTokens (parsed_lines offer)
    → AllByRecursion IsFormedUpdate told → IsLegible (answer_sdp s restart told init offer)
unfolding answer_sdp
answer_legible s restart told init offer tokens text formed names updates =
    sdp_legible (answer_head s restart init offer) (answered_told s told offer) (answer_head_formed s restart init offer tokens text formed)
    (subst HaveTokens (sym (rows_of_answered s told offer)) (table_after_tokens s.lines (parsed_lines offer) true formed.rows names))
    (answered_media_formed s told offer formed (table_after_tokens s.lines (parsed_lines offer) true formed.rows names) updates)
