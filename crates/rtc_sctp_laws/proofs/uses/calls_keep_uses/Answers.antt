use Rattle.std.proofs.Common.{inl, refl}
use Rattle.rtc_sctp_laws.proofs.UsedPolls.{poll_uses}
use Rattle.rtc_sctp_laws.proofs.CallUses.{inits_use, shuts_use, timeout_use, opens_use, closes_use, threshold_use, writes_use, input_use}
use Rattle.rtc_sctp_laws.proofs.uses.calls_keep_uses.Goals as goal

pub returns-clause-begins : goal.returns-clause-begins
returns-clause-begins g c = λ s a. record { reached = record { ahead = λ h lt. (refl, refl); absent = λ gone. (refl, refl) }; used = inl (refl, refl) }

pub returns-clause-polls : goal.returns-clause-polls
returns-clause-polls g c = λ p q r h. poll_uses g.S.Association.association g.met.S.Association.laws p r q h

pub returns-clause-writes : goal.returns-clause-writes
returns-clause-writes g c = λ v p q id binary bytes r s written heard h k. writes_use g.S.Association.association v g.met.S.Association.laws id binary bytes p r q s written heard h k

pub returns-clause-input : goal.returns-clause-input
returns-clause-input g c = λ v p q now bytes r s written heard h k. input_use g.S.Association.association v g.met.S.Association.laws now bytes p r q s written heard h k

pub returns-clause-timeout : goal.returns-clause-timeout
returns-clause-timeout g c = λ v p q now wake wake' r s written heard h k. timeout_use g.S.Association.association v now p wake r q wake' s written heard h k

pub returns-clause-opens : goal.returns-clause-opens
returns-clause-opens g c = λ v p q id config r s written heard h k. opens_use g.S.Association.association v id config p r q s written heard h k

pub returns-clause-closes : goal.returns-clause-closes
returns-clause-closes g c = λ v p q id r s written heard h k. closes_use g.S.Association.association v id p r q s written heard h k

pub returns-clause-threshold : goal.returns-clause-threshold
returns-clause-threshold g c = λ v p q id n s written heard h k. threshold_use g.S.Association.association v n _ p q s written heard h k

pub returns-clause-starts : goal.returns-clause-starts
returns-clause-starts g c = λ v p q client now max snap r s written heard h k. inits_use g.S.Association.association v client now max snap p r q s written heard h k

pub returns-clause-shuts : goal.returns-clause-shuts
returns-clause-shuts g c = λ v p q r s written heard h k. shuts_use g.S.Association.association v p r q s written heard h k
