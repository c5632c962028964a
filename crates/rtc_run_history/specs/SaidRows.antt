-- What the SDPs that steps make say: the rows of the side that makes them.
use Rattle.std.specs.Prelude.{◌≡◌, Bool, true, false, not, List, [], ◌∷◌, ◌++◌, map, length, Option, Some, None}
use Rattle.std.specs.List.{list_any}
use Rattle.rtc_sdp_values.specs.Sdp.{inconsistency}
use Rattle.rtc_sdp_values.specs.declared.direction.Direction.TheVariants.{SendRecv}
use Rattle.rtc_sdp_values.specs.declared.line_kind.LineKind.TheVariants.{Application}
use Rattle.rtc_sdp_values.specs.declared.line_row.LineRow.{LineRow}
use Rattle.rtc_sdp_values.specs.declared.line_row.LineRow.TheVariants.{Media, App}
use Rattle.rtc_sdp_values.specs.declared.sdp.Sdp.{Sdp}
use Rattle.rtc_peer_rows.specs.declared.parsed_line.ParsedLine.{ParsedLine}
use Rattle.rtc_peer_rows.specs.ParsedLines.{parsed_lines}
use Rattle.rtc_peer_core.specs.MadeSdp.{is_stopped, line_kind}
use Rattle.rtc_run_history.specs.declared.side.Side.{Side}
use Rattle.rtc_run_history.specs.declared.step.Step.{Step}
use Rattle.rtc_run_history.specs.declared.step.Step.TheVariants.{Negotiate, AcceptOffer, ForeignOffer}
use Rattle.rtc_run_history.specs.declared.made.Made.TheVariants.{Offer}
use Rattle.rtc_run_history.specs.declared.outcome.Outcome.{Outcome}
use Rattle.rtc_run_history.specs.declared.outcome.Outcome.TheVariants.{Negotiated, Answered}
use Rattle.rtc_run_history.specs.declared.table.Table.{Table}
use Rattle.rtc_run_history.specs.Answers.{added}
use Rattle.rtc_run_history.specs.Past.{MadeSdp, new_app}

-- the line that says a row: a stopped one is rejected (RFC 8843, section 7)
abbrev pub row_said : LineRow → ParsedLine
row_said (Media place mid kind dir stopped remote_created) = record { kind = line_kind kind; mid = mid; dir = dir; rejected = stopped }
row_said (App place mid) = record { kind = Application; mid = mid; dir = SendRecv; rejected = false }

-- whether one of the rows is live
abbrev pub are_live : List LineRow → Bool
are_live rows = list_any (λ row. not (is_stopped row)) rows

-- One SDP was made, by this side. Its lines say these rows, and it is consistent if one of them is live (RFC 8843, section 7.1).
pub record SaysRows (at : Side) (offer : Bool) (rows : List LineRow) (made : List MadeSdp) : Type 0 where
  pub sdp : Sdp
  pub one : made ≡ record { at = at; offer = offer; sdp = sdp } ∷ []
  pub says : parsed_lines sdp ≡ map row_said rows
  pub fits : are_live rows ≡ true → inconsistency sdp ≡ None

-- An offer says the rows of its side, then those that it adds; an answer says those that it leaves; no other SDP is made.
abbrev pub MakesSdp : {E : Type 0} → Step → Outcome E → Option Table → List MadeSdp → Type 0
MakesSdp (Negotiate at ops apply) (Negotiated answers (Offer k)) (Some table) made =
    SaysRows at true (table.lines ++ added (new_app table.lines made) (length table.lines) ops answers) made
MakesSdp (AcceptOffer at offer) (Answered k) (Some table) made = SaysRows at false table.lines made
MakesSdp (ForeignOffer at text) (Answered k) (Some table) made = SaysRows at false table.lines made
MakesSdp step outcome table made = made ≡ []
