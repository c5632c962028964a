use Rattle.std.proofs.Common.{◌∙◌, sym}
use Rattle.rtc_sctp.proofs.StepLemmas.{stays, stirs}
use Rattle.rtc_sctp.proofs.streams.RtcSctp.pass.Goals as goal

pub returns-then-is_resting : goal.returns-then-is_resting
returns-then-is_resting g c =
    let rests = sym c.is_resting.ensures.rests ∙ c.if-is_resting.true in
    stays g.S.Association.association c.args.self.now _ _ rests c.give_pushed.ensures (c.is_resting.ensures.left rests)

pub take_steps-requires : goal.take_steps-requires
take_steps-requires g c = sym c.is_resting.ensures.rests ∙ c.if-is_resting.false

pub returns : goal.returns
returns g c = stirs g.S.Association.association c.args.self.now _ _ (sym c.is_resting.ensures.rests ∙ c.if-is_resting.false) c.take_steps.ensures
