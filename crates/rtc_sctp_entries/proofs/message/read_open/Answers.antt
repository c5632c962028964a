use Rattle.std.proofs.Common.{◌∙◌, ap}
use Rattle.rtc_wire.specs.declared.dcep_open.DcepOpen.{DcepOpen}
use Rattle.rtc_wire.specs.ChannelConfig.{config_of}
use Rattle.rtc_sctp_entries.proofs.VisitLemmas.{read_case}
use Rattle.rtc_sctp_entries.proofs.message.read_open.Goals as goal

pub returns-in-Ok-from_open : goal.returns-in-Ok-from_open
returns-in-Ok-from_open c =
    let is = read_case _ c.in-Ok.message _ c.in-Ok.ensures.refused c.in-Ok.ensures.read in
    (is.0, ap (λ (d : DcepOpen). d.label) is.1, c.in-Ok-from_open.ensures ∙ ap config_of is.1)
