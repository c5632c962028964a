use Rattle.std.proofs.Common.{◌≡◌, codes, rules}
use Rattle.rtc_room.proofs.JoinWords.{no_join}
use Rattle.rtc_room.proofs.step_words.read_words.Goals as goal

pub returns-in-None-clause-none : goal.returns-in-None-clause-none
returns-in-None-clause-none c =
    let is : c.args.first.now ≡ codes "join" = search rules in
    no_join c.args.first.now _ is c.in-None.ensures.none
