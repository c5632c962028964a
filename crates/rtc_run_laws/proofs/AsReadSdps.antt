-- A session description that is read again differs in its sources alone.
use Rattle.std.proofs.Common.{◌≡◌, ℕ, Bool, true, false, not, List, [], ◌∷◌, map, Option, refl, ap, ◌∙◌}
use Rattle.std.specs.List.{list_all}
use Rattle.std.specs.Option.{option_or}
use Rattle.std.specs.Prelude.{option_and_then}
use Rattle.rtc_wire_text.specs.Fields.{first}
use Rattle.rtc_sdp_values.specs.Mids.{is_among, are_distinct}
use Rattle.rtc_sdp_values.specs.Sdp.{
  creds_of,
  sdp_fingerprint,
  application_line,
  sdp_sctp_init,
  is_application,
  inconsistency,
  mids_of,
  are_grouped,
  is_none_of,
  group_causes,
  first_cause,
  judge,
}
use Rattle.rtc_sdp_values.specs.declared.fingerprint.Fingerprint.{Fingerprint}
use Rattle.rtc_sdp_values.specs.declared.ice_creds.IceCreds.{IceCreds}
use Rattle.rtc_sdp_values.specs.declared.inconsistent.Inconsistent.{Inconsistent}
use Rattle.rtc_sdp_values.specs.declared.inconsistent.Inconsistent.TheVariants.{EmptyGroup, UnknownMid, LineNotInGroup, RepeatedMid}
use Rattle.rtc_sdp_values.specs.declared.media_line.MediaLine.{MediaLine}
use Rattle.rtc_sdp_values.specs.declared.sdp.Sdp.{Sdp}
use Rattle.rtc_sdp_writer.specs.AsRead.{line_as_read, as_read}
use Rattle.rtc_peer_rows.specs.ParsedLines.{parsed_line, parsed_lines}

-- what reads no source of a line is the same
map_as_read : {A : Type 0} (f : MediaLine → A) → ((line : MediaLine) → f (line_as_read line) ≡ f line) → (lines : List MediaLine)
    → map f (map line_as_read lines) ≡ map f lines
map_as_read f same [] = refl
map_as_read f same (line ∷ lines) = rw (same line, map_as_read f same lines) refl

first_as_read : {A : Type 0} (f : MediaLine → Option A) → ((line : MediaLine) → f (line_as_read line) ≡ f line) → (lines : List MediaLine)
    → first f (map line_as_read lines) ≡ first f lines
first_as_read f same [] = refl
first_as_read f same (line ∷ lines) = rw (same line, first_as_read f same lines) refl

pub lines_as_read : (sdp : Sdp) → parsed_lines (as_read sdp) ≡ parsed_lines sdp
lines_as_read sdp = map_as_read (parsed_line sdp.groups) (λ line. refl) sdp.lines

pub creds_as_read : (sdp : Sdp) → creds_of (as_read sdp) ≡ creds_of sdp
creds_as_read sdp = ap (λ (found : Option IceCreds). option_or sdp.creds found) (first_as_read (λ line. line.creds) (λ line. refl) sdp.lines)

pub fingerprint_as_read : (sdp : Sdp) → sdp_fingerprint (as_read sdp) ≡ sdp_fingerprint sdp
fingerprint_as_read sdp =
    ap (λ (found : Option Fingerprint). option_or sdp.fingerprint found) (first_as_read (λ line. line.fingerprint) (λ line. refl) sdp.lines)

pub init_as_read : (sdp : Sdp) → sdp_sctp_init (as_read sdp) ≡ sdp_sctp_init sdp
init_as_read sdp = by sdp.lines
  where
    by : (lines : List MediaLine)
        → option_and_then (λ (line : MediaLine). line.sctp_init) (application_line (map line_as_read lines))
        ≡ option_and_then (λ (line : MediaLine). line.sctp_init) (application_line lines)
    by [] = refl
    by (line ∷ lines) = here (is_application line.kind) refl (by lines)
      where
        here : (found : Bool) → is_application line.kind ≡ found
            → option_and_then (λ (one : MediaLine). one.sctp_init) (application_line (map line_as_read lines))
            ≡ option_and_then (λ (one : MediaLine). one.sctp_init) (application_line lines)
            → option_and_then (λ (one : MediaLine). one.sctp_init) (application_line (map line_as_read (line ∷ lines)))
            ≡ option_and_then (λ (one : MediaLine). one.sctp_init) (application_line (line ∷ lines))
        here true is rest = rw is refl
        here false is rest = rw is rest

mids_as_read : (lines : List MediaLine) → mids_of (map line_as_read lines) ≡ mids_of lines
mids_as_read lines = map_as_read (λ line. line.mid) (λ line. refl) lines

grouped_as_read : (group : List (List ℕ)) (lines : List MediaLine) → are_grouped group (map line_as_read lines) ≡ are_grouped group lines
grouped_as_read group [] = refl
grouped_as_read group (line ∷ lines) = rw (grouped_as_read group lines) refl

-- the causes by the mids of the lines, and by whether those with a port are in the group
abbrev causes_of : List (List ℕ) → List (List ℕ) → Bool → List (Bool × Inconsistent)
causes_of group mids grouped =
    (is_none_of group, EmptyGroup)
    ∷ (not (list_all (λ mid. is_among mids mid) group), UnknownMid)
    ∷ (not grouped, LineNotInGroup)
    ∷ (not (are_distinct mids), RepeatedMid)
    ∷ []

causes_as_read : (group : List (List ℕ)) (lines : List MediaLine) → group_causes group (map line_as_read lines) ≡ group_causes group lines
causes_as_read group lines =
    ap (λ (mids : List (List ℕ)). causes_of group mids (are_grouped group (map line_as_read lines))) (mids_as_read lines)
    ∙ ap (λ (grouped : Bool). causes_of group (mids_of lines) grouped) (grouped_as_read group lines)

judge_as_read : (groups : List (List (List ℕ))) (lines : List MediaLine) → judge groups (map line_as_read lines) ≡ judge groups lines
judge_as_read [] lines = refl
judge_as_read (group ∷ []) lines = ap first_cause (causes_as_read group lines)
judge_as_read (group ∷ other ∷ rest) lines = refl

pub fits_as_read : (sdp : Sdp) → inconsistency (as_read sdp) ≡ inconsistency sdp
unfolding inconsistency
fits_as_read sdp = judge_as_read sdp.groups sdp.lines
