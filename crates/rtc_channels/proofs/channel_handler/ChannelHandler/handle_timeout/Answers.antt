use Rattle.std.proofs.Common.{subst}
use Rattle.rtc_channels.specs.Channels.{Channels}
use Rattle.rtc_channels.specs.Openings.{MeetsMoment, is_progress_due}
use Rattle.rtc_channels.proofs.channel_handler.ChannelHandler.handle_timeout.Goals as goal

pub returns : goal.returns
returns g c =
    subst (λ (held : Channels). MeetsMoment g.S.Association.association (is_progress_due g.S.Association.association held c.args.sctp.now) held c.args.sctp.now c.args.wake.now c.progress.result c.progress.new.self c.progress.new.sctp c.progress.new.wake)
    c.settle.ensures c.progress.ensures
