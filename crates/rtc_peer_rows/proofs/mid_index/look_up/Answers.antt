use Rattle.std.proofs.Common.{◌∙◌, sym, ap}
use Rattle.std.specs.Option.{option_copied}
use Rattle.rtc_peer_rows.proofs.MidIndexLemmas.{at_first, no_position}
use Rattle.rtc_peer_rows.proofs.mid_index.look_up.Goals as goal

pub returns : goal.returns
returns c =
    let found = sym (c.requires c.args.mid) ∙ (sym c.get.ensures.value ∙ ap option_copied c.in-Some.is) in
    let stands = at_first c.args.rows.now c.args.mid c.in-Some.at.now found in
    c.row_at.ensures ∙ stands.found

pub returns-in_default : goal.returns-in_default
returns-in_default c = sym (no_position 0 c.args.rows.now c.args.mid (sym (c.requires c.args.mid) ∙ (sym c.get.ensures.value ∙ ap option_copied c.in_default.is)))
