use Rattle.std.proofs.Common.{◌++◌, map, ap, ◌∙◌}
use Rattle.std.proofs.lemmas.Iterator.{items_from_drains}
use Rattle.std.proofs.lemmas.Iterator.Consumers.{YieldsList-at}
use Rattle.std.proofs.lemmas.Iterator.Splits.{YieldsList-from_str_split}
use Rattle.rtc_wire_text.proofs.word.parts.Goals as goal

pub returns-in-Ok : goal.returns-in-Ok
returns-in-Ok c =
    let added = c.in-Ok.ensures.ran in
    let road = YieldsList-at added.2 (YieldsList-from_str_split c.args.at c.args.text.now c.requires c.split.ensures.text c.split.ensures.has_more c.split.ensures.pattern) in
    let drained = added.4.1 in
    ap (map (λ part. part.now)) (added.3.0 ∙ ap (λ before. before ++ added.1) c.in_ok-found.ensures.items)
    ∙ items_from_drains added.1 (drained.0, drained.1, λ _. (added.4.0, drained.2)) road
