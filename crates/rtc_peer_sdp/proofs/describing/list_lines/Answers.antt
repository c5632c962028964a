use Rattle.rtc_peer_core.specs.MadeSdp.{told_line}
use Rattle.rtc_peer_sdp.proofs.ToldLemmas.{one_line}
use Rattle.rtc_peer_sdp.proofs.describing.list_lines.Goals as goal

pub loop-told-preserved : goal.loop-told-preserved
loop-told-preserved c =
    one_line (told_line c.args.head.now) c.loop-told.yielded c.in-Some.told c.loop-told.lines.items _ c.in_ok-line.line c.loop-told.invariant
    c.in_ok-line.ensures c.in_ok-push.ensures.items
