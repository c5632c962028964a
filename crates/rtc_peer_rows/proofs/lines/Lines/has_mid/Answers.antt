use Rattle.std.proofs.Common.{◌≡◌, ◌∙◌, sym, ap, refl, Bor, Option, Some, None}
use Rattle.std.specs.Prelude.{is_some}
use Rattle.std.specs.Option.{option_copied}
use Rattle.rtc_sdp_values.specs.declared.line_row.LineRow.{LineRow}
use Rattle.rtc_peer_rows.proofs.TableLemmas.{has_mid_row_of}
use Rattle.rtc_peer_rows.proofs.lines.Lines.has_mid.Goals as goal

copied : (found : Option (Bor LineRow)) → is_some found ≡ is_some (option_copied found)
copied None = refl
copied (Some row) = refl

pub returns : goal.returns
returns c =
    c.is_some.ensures
    ∙ (copied c.find.result ∙ (ap (λ (found : Option LineRow). is_some found) c.find.ensures ∙ sym (has_mid_row_of c.args.self.now c.args.mid)))
