-- What is left of an offer of which lines are rejected (RFC 3264, section 6).
use Rattle.std.specs.Prelude.{◌≡◌, ℕ, true, not, List, map, filter}
use Rattle.std.specs.List.{AllByRecursion}
use Rattle.rtc_sdp_values.specs.Sdp.{mids_of}
use Rattle.rtc_sdp_values.specs.declared.sdp.Sdp.{Sdp}
use Rattle.rtc_lines.specs.Rejecting.{names_mid, has_live}
use Rattle.rtc_peer_rows.specs.ParsedLines.{parsed_lines}
use Rattle.rtc_peer_rows.specs.declared.parsed_line.ParsedLine.{ParsedLine}

-- the lines of these mids, as negotiation reads them
abbrev pub lines_of_mids : (mids : List (List ℕ)) → List ParsedLine → List ParsedLine
lines_of_mids mids lines = filter (λ line. names_mid mids line.mid) lines

-- the lines of other mids
abbrev pub lines_of_others : (mids : List (List ℕ)) → List ParsedLine → List ParsedLine
lines_of_others mids lines = filter (λ line. not (names_mid mids line.mid)) lines

-- Negotiation reads the lines of these mids as rejected, and each other line as in the offer. Each line has its place, its mid and its
-- kind, and one is live.
pub record IsLeftOf (mids : List (List ℕ)) (offer left : Sdp) : Type 0 where
  pub rejected : AllByRecursion (λ line. line.rejected ≡ true) (lines_of_mids mids (parsed_lines left))
  pub others : lines_of_others mids (parsed_lines left) ≡ lines_of_others mids (parsed_lines offer)
  pub places : mids_of left.lines ≡ mids_of offer.lines
  pub kinds : map (λ line. line.kind) left.lines ≡ map (λ line. line.kind) offer.lines
  pub live : has_live left.groups left.lines ≡ true
