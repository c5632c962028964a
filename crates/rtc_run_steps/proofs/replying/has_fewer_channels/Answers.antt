use Rattle.rtc_run_steps.proofs.ShownRows.{fewer_channels}
use Rattle.rtc_run_steps.proofs.replying.has_fewer_channels.Goals as goal

pub returns : goal.returns
returns g c = fewer_channels g.S.Association.association c.args.rtc.now.core.sctp c.args.rtc.now.core.channels c.args.most c.channel_row.result c.is_none.result c.if-most-eq0.false c.channel_row.ensures c.is_none.ensures
