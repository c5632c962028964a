-- Lines whose formats are those that were offered.
use Rattle.std.proofs.Common.{◌≡◌, ◌∙◌, ◌&&◌, ℕ, Bool, true, false, not, cond, List, [], ◌∷◌, map, drop, Option, refl, sym, ap}
use Rattle.std.specs.Prelude.{filter}
use Rattle.std.specs.List.{AllByRecursion}
use Rattle.rtc_sdp_values.specs.declared.line_kind.LineKind.{LineKind}
use Rattle.rtc_sdp_values.specs.declared.line_kind.LineKind.TheVariants.{Audio, Video, Application, Unknown}
use Rattle.rtc_sdp_values.specs.declared.media_line.MediaLine.{MediaLine}
use Rattle.rtc_sdp_values.specs.declared.payload_row.PayloadRow.{PayloadRow}
use Rattle.rtc_sdp_values.specs.declared.sdp.Sdp.{Sdp}
use Rattle.rtc_sdp_values.specs.declared.ssrc.Ssrc.{Ssrc}
use Rattle.rtc_sdp_reader.specs.PlainPayloads.{AreApart}
use Rattle.rtc_sdp_reader.specs.PlainSources.{AreNumbersApart}
use Rattle.rtc_sdp_writer.specs.Plain.{
  IsPlainRow,
  AreNamed,
  IsMediumLine,
  SuitsKind,
  IsLegibleLine,
  StandFirst,
  IsLegible,
  IsPlain,
}
use Rattle.rtc_sdp_writer.specs.SessionRows.{enabled_mids}
use Rattle.rtc_lines.specs.Rejecting.{is_none}
use Rattle.rtc_lines.specs.OfferedFormats.{
  lacks_formats,
  line_with_formats,
  first_formats,
  lines_with_offered,
  answer_with_offered,
  HasPlainFormats,
}
use Rattle.rtc_peer_rows.specs.ParsedLines.{parsed_line, parsed_lines}

-- ---- a line with other formats
abbrev with_rows : MediaLine → List PayloadRow → MediaLine
with_rows line rows = record line { payloads = rows }

left_of_both : (a b : Bool) → (a && b) ≡ true → a ≡ true
left_of_both true b h = refl
left_of_both false b h = h

named_still : (ssrcs : List (Ssrc × Option Ssrc)) (line : MediaLine) (rows : List PayloadRow) → AreNamed ssrcs line
    → AreNamed ssrcs (with_rows line rows)
named_still [] line rows h = h
named_still (ssrc ∷ rest) line rows h = h

medium_still : (line : MediaLine) (rows : List PayloadRow) → IsMediumLine line → IsMediumLine (with_rows line rows)
medium_still line rows h = record {
  limit = h.limit;
  chunk = h.chunk;
  named = named_still line.ssrcs line rows h.named;
  quiet = λ off. let quiet = h.quiet off in record { msid = quiet.msid; cname = quiet.cname; ssrcs = quiet.ssrcs };
}

-- a line of data channels is never rejected
suits_still : (kind : LineKind) (line : MediaLine) (rows : List PayloadRow) → line.disabled ≡ true → SuitsKind kind line
    → SuitsKind kind (with_rows line rows)
suits_still Audio line rows off h = medium_still line rows h
suits_still Video line rows off h = medium_still line rows h
suits_still Application line rows off h = let bad : true ≡ false = sym off ∙ h.live in cc
suits_still Unknown line rows off h = h

legible_line : (line : MediaLine) (rows : List PayloadRow) → line.disabled ≡ true → IsLegibleLine line → AllByRecursion IsPlainRow rows
    → AreApart rows → IsLegibleLine (with_rows line rows)
legible_line line rows off h plain apart = record {
  kind = suits_still line.kind line rows off h.kind;
  mid = h.mid;
  candidates = h.candidates;
  creds = h.creds;
  creds_form = h.creds_form;
  fingerprint = h.fingerprint;
  fingerprint_form = h.fingerprint_form;
  setup = h.setup;
  payloads = plain;
  payloads_apart = apart;
  exts = h.exts;
  simulcast = h.simulcast;
  msid = h.msid;
  cname = h.cname;
  ssrcs = h.ssrcs;
  max_message_size = h.max_message_size;
  sctp_init = h.sctp_init;
}

legible_if : (lacks : Bool) (line : MediaLine) (rows : List PayloadRow) → (lacks ≡ true → line.disabled ≡ true) → IsLegibleLine line
    → AllByRecursion IsPlainRow rows → AreApart rows → IsLegibleLine (cond lacks (with_rows line rows) line)
legible_if true line rows off h plain apart = legible_line line rows (off refl) h plain apart
legible_if false line rows off h plain apart = h

-- ---- the lines that are left of an offer
first_plain : (offered : List MediaLine) → AllByRecursion HasPlainFormats offered
    → AllByRecursion IsPlainRow (first_formats offered) × AreApart (first_formats offered)
first_plain [] h = (tt, tt)
first_plain (line ∷ rest) h = h.0

rest_plain : (offered : List MediaLine) → AllByRecursion HasPlainFormats offered → AllByRecursion HasPlainFormats (drop 1 offered)
rest_plain [] h = tt
rest_plain (line ∷ rest) h = h.1

all_legible : (lines offered : List MediaLine) → AllByRecursion IsLegibleLine lines → AllByRecursion HasPlainFormats offered
    → AllByRecursion IsLegibleLine (lines_with_offered lines offered)
all_legible [] offered h plain = tt
all_legible (line ∷ rest) offered h plain =
    let first = first_plain offered plain in (
      legible_if (lacks_formats line) line (first_formats offered) (left_of_both line.disabled (is_none line.payloads)) h.0 first.0 first.1,
      all_legible rest (drop 1 offered) h.1 (rest_plain offered plain),
    )

-- ---- what does not depend on formats
module _ (P : MediaLine → Type 0) (still : (line : MediaLine) (rows : List PayloadRow) → P line → P (with_rows line rows)) where
  still_if : (lacks : Bool) (line : MediaLine) (rows : List PayloadRow) → P line → P (cond lacks (with_rows line rows) line)
  still_if true line rows h = still line rows h
  still_if false line rows h = h

  all_still : (lines offered : List MediaLine) → AllByRecursion P lines → AllByRecursion P (lines_with_offered lines offered)
  all_still [] offered h = tt
  all_still (line ∷ rest) offered h =
      (still_if (lacks_formats line) line (first_formats offered) h.0, all_still rest (drop 1 offered) h.1)

module _ {A : Type 0} (f : MediaLine → A) (same : (line : MediaLine) (rows : List PayloadRow) → f (with_rows line rows) ≡ f line) where
  same_if : (lacks : Bool) (line : MediaLine) (rows : List PayloadRow) → f (cond lacks (with_rows line rows) line) ≡ f line
  same_if true line rows = same line rows
  same_if false line rows = refl

  same_map : (lines offered : List MediaLine) → map f (lines_with_offered lines offered) ≡ map f lines
  same_map [] offered = refl
  same_map (line ∷ rest) offered =
      ap (λ (x : A). x ∷ map f (lines_with_offered rest (drop 1 offered))) (same_if (lacks_formats line) line (first_formats offered))
      ∙ ap (λ (xs : List A). f line ∷ xs) (same_map rest (drop 1 offered))

-- ---- mids of lines with a port
mid_if : (on other : Bool) (one two : MediaLine) (rest more : List MediaLine) → on ≡ other → one.mid ≡ two.mid
    → map (λ line. line.mid) rest ≡ map (λ line. line.mid) more
    → map (λ line. line.mid) (cond on (one ∷ rest) rest) ≡ map (λ line. line.mid) (cond other (two ∷ more) more)
mid_if true true one two rest more e same h =
    ap (λ (m : List ℕ). m ∷ map (λ (line : MediaLine). line.mid) rest) same ∙ ap (λ (ms : List (List ℕ)). two.mid ∷ ms) h
mid_if true false one two rest more e same h = let bad : true ≡ false = e in cc
mid_if false true one two rest more e same h = let bad : false ≡ true = e in cc
mid_if false false one two rest more e same h = h

enabled_still : (lines offered : List MediaLine) → enabled_mids (lines_with_offered lines offered) ≡ enabled_mids lines
enabled_still [] offered = refl
enabled_still (line ∷ rest) offered =
    let made = line_with_formats line (first_formats offered) in
    mid_if (not made.disabled) (not line.disabled) made line
    (filter (λ (it : MediaLine). not it.disabled) (lines_with_offered rest (drop 1 offered))) (filter (λ (it : MediaLine). not it.disabled) rest)
    (same_if (λ (it : MediaLine). not it.disabled) (λ it rows. refl) (lacks_formats line) line (first_formats offered))
    (same_if (λ (it : MediaLine). it.mid) (λ it rows. refl) (lacks_formats line) line (first_formats offered))
    (enabled_still rest (drop 1 offered))

-- ---- candidates on the first line alone
first_still : (lines offered : List MediaLine) → StandFirst lines → StandFirst (lines_with_offered lines offered)
first_still [] offered h = tt
first_still (line ∷ rest) offered h = all_still (λ (it : MediaLine). it.candidates ≡ []) (λ it rows h. h) rest (drop 1 offered) h

-- ---- answers
pub legible_still : (answer offer : Sdp) → IsLegible answer → AllByRecursion HasPlainFormats offer.lines
    → IsLegible (answer_with_offered answer offer)
legible_still answer offer h plain = record {
  id = h.id;
  groups = h.groups ∙ ap (λ (mids : List (List ℕ)). mids ∷ []) (sym (enabled_still answer.lines offer.lines));
  creds = h.creds;
  fingerprint = h.fingerprint;
  setup = h.setup;
  lines = all_legible answer.lines offer.lines h.lines plain;
  candidates = first_still answer.lines offer.lines h.candidates;
}

pub plain_still : (answer offer : Sdp) → IsPlain answer → AllByRecursion HasPlainFormats offer.lines
    → IsPlain (answer_with_offered answer offer)
plain_still answer offer h plain = record {
  legible = legible_still answer offer h.legible plain;
  apart = all_still (λ (it : MediaLine). AreNumbersApart it.ssrcs) (λ it rows h. h) answer.lines offer.lines h.apart;
}

pub parsed_still : (answer offer : Sdp) → parsed_lines (answer_with_offered answer offer) ≡ parsed_lines answer
parsed_still answer offer = same_map (parsed_line answer.groups) (λ line rows. refl) answer.lines offer.lines
