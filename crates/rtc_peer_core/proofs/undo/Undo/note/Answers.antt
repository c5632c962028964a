use Rattle.std.proofs.Common.{◌∙◌, List, sym, ap}
use Rattle.rtc_sdp_values.specs.Mids.{is_among}
use Rattle.rtc_peer_core.specs.Undo.{RowBefore, undo_mids}
use Rattle.rtc_peer_core.proofs.UndoLemmas.{noted_already}
use Rattle.rtc_peer_core.proofs.undo.Undo.note.Goals as goal

pub returns-then-contains-clause-rows : goal.returns-then-contains-clause-rows
returns-then-contains-clause-rows c =
    noted_already c.args.row.now c.args.self.now c.in-Media.place c.in-Media.mid c.in-Media.kind c.in-Media.dir c.in-Media.stopped c.in-Media.remote_created
    c.in-Media.is
    (ap (λ (undo : List RowBefore). is_among (undo_mids undo) c.in-Media.mid) (sym c.self.view_is)
    ∙ (sym (c.self.invariant.held c.in-Media.mid) ∙ (sym c.contains.ensures ∙ c.if-contains.true)))
