use Rattle.std.proofs.Common.{◌≡◌, ◌<◌, ◌∙◌, List, length, ap, arith}
use Rattle.rtc_change.specs.PendingOffer.{added_mids}
use Rattle.rtc_sdp_values.specs.declared.line_row.LineRow.{LineRow}
use Rattle.rtc_peer.specs.Previews.{has_live_row}
use Rattle.rtc_peer.proofs.LiveOffers.{live_added, live_held}
use Rattle.rtc_peer.proofs.previews.offers_live.Goals as goal

pub returns-then-count_added-gt0 : goal.returns-then-count_added-gt0
returns-then-count_added-gt0 c =
    let some : 0 < length (added_mids c.args.staged.now) = omega (arith, c.if-count_added-gt0.true, c.count_added.ensures) in
    live_added c.args.lines.now c.args.staged.now some

pub returns : goal.returns
returns c =
    let none : length (added_mids c.args.staged.now) ≡ 0 = omega (arith, c.if-count_added-gt0.false, c.count_added.ensures) in
    c.has_live_row.ensures
    ∙ ap (λ (rows : List LineRow). has_live_row rows) c.rows.ensures.value
    ∙ live_held c.args.lines.now c.args.staged.now none
