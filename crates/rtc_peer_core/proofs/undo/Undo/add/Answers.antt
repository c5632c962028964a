use Rattle.std.proofs.Common.{◌∙◌, ap, List}
use Rattle.rtc_sdp_values.specs.Mids.{is_among}
use Rattle.rtc_peer_core.specs.Undo.{RowBefore, undo_mids}
use Rattle.rtc_peer_core.proofs.UndoLemmas.{one_noted}
use Rattle.rtc_peer_core.proofs.undo.Undo.add.Goals as goal

pub invariant_of-self-2 : goal.invariant_of-self-2
invariant_of-self-2 c =
    rw (c.push_reserved.ensures.items, c.reserve.ensures.items)
    (one_noted c.self.inside.rows.items c.self.inside.mids c.insert.new.self (c.args.mid, c.args.dir, c.args.stopped) c.self.invariant
    (ap (λ (undo : List RowBefore). is_among (undo_mids undo) c.args.mid) c.self.view_is ∙ c.requires) c.in_ok-insert.ensures.updates.0)
