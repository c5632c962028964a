use Rattle.rtc_assoc_state.specs.Headers.{item_with}
use Rattle.rtc_assoc_state.specs.Calls.{answered, item_came}
use Rattle.rtc_assoc_end.proofs.SendsLemmas.{on_ok, sends_data}
use Rattle.rtc_assoc_end.proofs.association.PlainAssociation.take_data.Goals as goal

pub returns-clause-ok : goal.returns-clause-ok
returns-clause-ok c =
    on_ok c.take_numbered.result _ _
    (sends_data c.args.heard c.args.self.now _ _ (λ p. answered (item_came c.args.now c.args.number (item_with c.args.item c.args.bytes.now) p)) c.in_ok-hear_data.ensures.ok)
    c.take_numbered.ensures.ok
