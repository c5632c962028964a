use Rattle.rtc_run_laws.specs.PlainPairs.{plain_over}
use Rattle.rtc_run_laws.specs.SentMessages.{sent_over}
use Rattle.rtc_run_laws.specs.ToldMessages.{told_over}
use Rattle.rtc_run_laws.specs.UsesOfRuns.{uses_of}
use Rattle.rtc_run_laws.proofs.HandsRuns.{run_hands_out}
use Rattle.rtc_run_laws.proofs.KeptInBand.{run_all_got, run_prefixes}
use Rattle.rtc_run_laws.proofs.RestedRuns.{run_delivered, run_delivered_over, run_drained}
use Rattle.rtc_run_laws.proofs.RunsTold.{new_pair_told, pair_first, pair_handed, pair_handed_over, pair_once, pair_only, pair_told_whole, pair_whole, pair_wholly, reached_told}
use Rattle.rtc_run_laws.proofs.handing.channels_hand_out_prefixes.Goals as goal

pub returns-clause-reached : goal.returns-clause-reached
returns-clause-reached g c = λ stun start pair past new go ran at.
    pair_handed g.N.Ids.ids pair (λ x. uses_of (plain_over g.N.Ids.ids) stun start x past pair ran)
    (λ x. sent_over (plain_over g.N.Ids.ids) stun start x past pair ran)
    (λ x. told_over (plain_over g.N.Ids.ids) stun start x past pair ran) at
    (reached_told g.N.Ids.ids stun start past pair go ran (new_pair_told g.N.Ids.ids start new))

pub returns-clause-over : goal.returns-clause-over
returns-clause-over g c = λ stun start pair past new go ran at.
    pair_handed_over g.N.Ids.ids pair (λ x. uses_of (plain_over g.N.Ids.ids) stun start x past pair ran)
    (λ x. sent_over (plain_over g.N.Ids.ids) stun start x past pair ran)
    (λ x. told_over (plain_over g.N.Ids.ids) stun start x past pair ran) at
    (reached_told g.N.Ids.ids stun start past pair go ran (new_pair_told g.N.Ids.ids start new))

pub returns-clause-once : goal.returns-clause-once
returns-clause-once g c = λ stun start pair past new go ran at.
    pair_once g.N.Ids.ids pair (λ x. uses_of (plain_over g.N.Ids.ids) stun start x past pair ran)
    (λ x. sent_over (plain_over g.N.Ids.ids) stun start x past pair ran)
    (λ x. told_over (plain_over g.N.Ids.ids) stun start x past pair ran) at
    (reached_told g.N.Ids.ids stun start past pair go ran (new_pair_told g.N.Ids.ids start new))

pub returns-clause-whole : goal.returns-clause-whole
returns-clause-whole g c = λ stun start pair past new go ran at.
    pair_whole g.N.Ids.ids pair (λ x. uses_of (plain_over g.N.Ids.ids) stun start x past pair ran)
    (λ x. sent_over (plain_over g.N.Ids.ids) stun start x past pair ran)
    (λ x. told_over (plain_over g.N.Ids.ids) stun start x past pair ran) at
    (reached_told g.N.Ids.ids stun start past pair go ran (new_pair_told g.N.Ids.ids start new))

pub returns-clause-first : goal.returns-clause-first
returns-clause-first g c = λ stun start pair past new go ran at.
    pair_first g.N.Ids.ids pair (λ x. uses_of (plain_over g.N.Ids.ids) stun start x past pair ran)
    (λ x. sent_over (plain_over g.N.Ids.ids) stun start x past pair ran)
    (λ x. told_over (plain_over g.N.Ids.ids) stun start x past pair ran) at
    (reached_told g.N.Ids.ids stun start past pair go ran (new_pair_told g.N.Ids.ids start new))

pub returns-clause-told : goal.returns-clause-told
returns-clause-told g c = λ stun start pair past new go ran at.
    pair_told_whole g.N.Ids.ids pair (λ x. uses_of (plain_over g.N.Ids.ids) stun start x past pair ran)
    (λ x. sent_over (plain_over g.N.Ids.ids) stun start x past pair ran)
    (λ x. told_over (plain_over g.N.Ids.ids) stun start x past pair ran) at
    (reached_told g.N.Ids.ids stun start past pair go ran (new_pair_told g.N.Ids.ids start new))

pub returns-clause-only : goal.returns-clause-only
returns-clause-only g c = λ stun start pair past new go ran at.
    pair_only g.N.Ids.ids pair (λ x. uses_of (plain_over g.N.Ids.ids) stun start x past pair ran)
    (λ x. sent_over (plain_over g.N.Ids.ids) stun start x past pair ran)
    (λ x. told_over (plain_over g.N.Ids.ids) stun start x past pair ran) at
    (reached_told g.N.Ids.ids stun start past pair go ran (new_pair_told g.N.Ids.ids start new))

pub returns-clause-all : goal.returns-clause-all
returns-clause-all g c = λ stun start pair past new go ran at.
    pair_wholly g.N.Ids.ids pair (λ x. uses_of (plain_over g.N.Ids.ids) stun start x past pair ran)
    (λ x. sent_over (plain_over g.N.Ids.ids) stun start x past pair ran)
    (λ x. told_over (plain_over g.N.Ids.ids) stun start x past pair ran) at
    (reached_told g.N.Ids.ids stun start past pair go ran (new_pair_told g.N.Ids.ids start new))

pub returns-clause-drained : goal.returns-clause-drained
returns-clause-drained g c = λ stun start pair past new go ran at.
    run_drained g.N.Ids.ids stun start new past pair go ran at

pub returns-clause-delivered : goal.returns-clause-delivered
returns-clause-delivered g c = λ stun start pair past new go ran at. run_delivered g.N.Ids.ids stun start new past pair go ran at

pub returns-clause-delivered_over : goal.returns-clause-delivered_over
returns-clause-delivered_over g c = λ stun start pair past new go ran at.
    run_delivered_over g.N.Ids.ids stun start new past pair go ran at

pub returns-clause-prefixes : goal.returns-clause-prefixes
returns-clause-prefixes g c = λ stun start pair past new go none ran numbers at.
    run_prefixes g.N.Ids.ids stun start new past pair go ran none numbers at

pub returns-clause-all_got : goal.returns-clause-all_got
returns-clause-all_got g c = λ stun start pair past new go none ran numbers at.
    run_all_got g.N.Ids.ids stun start new past pair go ran none numbers at

pub returns-clause-ran : goal.returns-clause-ran
returns-clause-ran g c = λ stun start pair steps replies new go run. run_hands_out g.N.Ids.ids stun start pair steps replies new go run
