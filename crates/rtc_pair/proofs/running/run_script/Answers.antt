use Rattle.rtc_pair.proofs.Performances.{drains_of, known_of, ran_joined}
use Rattle.rtc_pair.proofs.running.run_script.Goals as goal

pub returns : goal.returns
returns c =
    ran_joined _ _ c.in_ok-pair.pair _ _ _ c.join_replies.ensures (rw (c.settings_of-left_settings.ensures, c.settings_of-right_settings.ensures) at c.in_ok-pair.ensures.state) c.in_ok-pair.ensures.fresh c.in_ok-pair.ensures.formed
    (rw c.as_slice.ensures at c.run_pair-replies.ensures.runs) (c.run_pair-replies.ensures.read_back c.in_ok-pair.ensures.formed)
    (known_of _ _ _ _ _ c.as_slice.ensures (c.run_pair-replies.ensures.plain c.in_ok-pair.ensures.formed))
    (c.run_pair-replies.ensures.crossed c.in_ok-pair.ensures.formed)
    (drains_of _ _ _ _ _ c.as_slice.ensures c.run_pair-replies.ensures.drains)
