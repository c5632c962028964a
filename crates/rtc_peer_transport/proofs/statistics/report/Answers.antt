use Rattle.std.proofs.Common.{sym, ◌∙◌}
use Rattle.rtc_peer_transport.proofs.StatisticsTurns.{due_reports}
use Rattle.rtc_peer_transport.proofs.statistics.report.Goals as goal

pub returns-then-wants_timeout : goal.returns-then-wants_timeout
returns-then-wants_timeout g c =
    due_reports g.M.MediaSession.media c.args.now c.args.snapshot.now c.args.stats.now _ c.args.media.now c.report_round.result c.report_round.new.stats
    c.report_round.new.media (sym c.wants_timeout.ensures.answer ∙ c.if-wants_timeout.true) c.wants_timeout.ensures.state c.report_round.ensures
