use Rattle.rtc_script.proofs.ChannelPartLemmas.{no_number_behind}
use Rattle.rtc_script.proofs.channel_parts.read_behind.Goals as goal

pub returns-in_err-n-clause-none : goal.returns-in_err-n-clause-none
returns-in_err-n-clause-none c =
    no_number_behind c.from_residual-in_err-n.result c.args.word.now c.args.prefix.now c.in_ok-rest.rest.now c.in_ok-rest.ensures
    c.in_err-n.ensures.none
