use Rattle.std.proofs.Common.{◌∙◌, sym}
use Rattle.rtc_channels.proofs.OpeningLemmas.{meets_ok, meets_err}
use Rattle.rtc_channels.proofs.channel_handler.ChannelHandler.progress.Goals as goal

pub returns-in-Ok : goal.returns-in-Ok
returns-in-Ok g c =
    meets_ok g.S.Association.association c.args.self.now c.args.sctp.now c.args.wake.now _ c.is_client.result (sym c.is_due.ensures ∙ c.if-not-is_due.false) c.is_client.ensures
    c.do_allocations.new.self c.open_channels.new.self c.open_channels.result c.open_channels.new.sctp c.narrow.new.wake c.in-Ok.ensures.allocates c.open_channels.ensures
    c.narrow.ensures

pub returns-in-Err : goal.returns-in-Err
returns-in-Err g c =
    meets_err g.S.Association.association c.args.self.now c.args.sctp.now c.args.wake.now _ c.is_client.result (sym c.is_due.ensures ∙ c.if-not-is_due.false) c.is_client.ensures
    c.do_allocations.new.self c.in-Err.error c.no_events-in-Err.new.self c.in-Err.ensures.allocates c.no_events-in-Err.ensures
