use Rattle.rtc_sctp_laws.proofs.ContentLemmas.{contents-append, dcep_contents, shown_contents}
use Rattle.rtc_sctp_laws.proofs.PastLemmas.{acts_past, shut_past}
use Rattle.rtc_sctp_laws.proofs.LiveCalls.{writes_own, writes_live, input_live, timeout_live, opens_live, closes_live, threshold_live, starts_live, shuts_live}
use Rattle.rtc_sctp_laws.proofs.contents.live_streams_carry.Goals as goal

pub returns-clause-writes_own : goal.returns-clause-writes_own
returns-clause-writes_own g c = λ p q id n k binary bytes h live. writes_own g.S.Association.association id binary bytes p n q k h live

pub returns-clause-writes : goal.returns-clause-writes
returns-clause-writes g c = λ p q id s k binary bytes r h live. writes_live g.S.Association.association id binary bytes p r q s k h live

pub returns-clause-input : goal.returns-clause-input
returns-clause-input g c = λ p q now s k bytes r h live. input_live g.S.Association.association now bytes p r q s k h live

pub returns-clause-timeout : goal.returns-clause-timeout
returns-clause-timeout g c = λ p q now s k wake wake' r h live. timeout_live g.S.Association.association now p wake r q wake' s k h live

pub returns-clause-opens : goal.returns-clause-opens
returns-clause-opens g c = λ p q id s k config r h live. opens_live g.S.Association.association id config p r q s k h live

pub returns-clause-closes : goal.returns-clause-closes
returns-clause-closes g c = λ p q id s k r h live. closes_live g.S.Association.association id p r q s k h live

pub returns-clause-threshold : goal.returns-clause-threshold
returns-clause-threshold g c = λ p q id n s k h live. threshold_live g.S.Association.association n _ p q s k h live

pub returns-clause-starts : goal.returns-clause-starts
returns-clause-starts g c = λ p q client now max s k snap r h live. starts_live g.S.Association.association client now max snap p r q s k h live

pub returns-clause-shuts : goal.returns-clause-shuts
returns-clause-shuts g c = λ p q s k r h live. shuts_live g.S.Association.association p r q s k h live

pub returns-clause-shows : goal.returns-clause-shows
returns-clause-shows g c = λ s k heard h. shown_contents s k heard h

pub returns-clause-opening : goal.returns-clause-opening
returns-clause-opening g c = λ s k messages h. dcep_contents s k messages h

pub returns-clause-joins : goal.returns-clause-joins
returns-clause-joins g c = λ xs ys. contents-append xs ys

pub returns-clause-past : goal.returns-clause-past
returns-clause-past g c = λ v s k acts a b h past. acts_past g.S.Association.association g.met.S.Association.laws v s k acts a b h past

pub returns-clause-shut : goal.returns-clause-shut
returns-clause-shut g c = λ s k written heard a entries used shut begun. shut_past g.S.Association.association s k written heard a entries used shut begun
