use Rattle.std.proofs.Common.{◌≢◌, codes, rules}
use Rattle.rtc_script.proofs.ChannelPartLemmas.{no_reliability}
use Rattle.rtc_script.proofs.channel_parts.read_reliability.Goals as goal

pub returns-in_err-lifetime-clause-none : goal.returns-in_err-lifetime-clause-none
returns-in_err-lifetime-clause-none c =
    let other : c.args.word.now ≢ codes "reliable" = search rules in
    no_reliability c.from_residual.result c.args.word.now other c.in_default.ensures.none c.in_err-lifetime.ensures.none
