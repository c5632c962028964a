use Rattle.rtc_sctp_laws.proofs.ContentLemmas.{written_contents, read_contents, contents_by-append, dcep_are_named, write_named}
use Rattle.rtc_sctp_laws.proofs.numbers.numbers_carry_the_same.Goals as goal

pub returns-clause-writes : goal.returns-clause-writes
returns-clause-writes c = λ s g acts wrote h named. written_contents s g acts wrote h named

pub returns-clause-reads : goal.returns-clause-reads
returns-clause-reads c = λ s g acts heard h named. read_contents s g acts heard h named

pub returns-clause-joins : goal.returns-clause-joins
returns-clause-joins c = λ xs ys. contents_by-append xs ys

pub returns-clause-opening : goal.returns-clause-opening
returns-clause-opening c = λ messages h. dcep_are_named messages h

pub returns-clause-written : goal.returns-clause-written
returns-clause-written c = λ stream generation binary bytes r. write_named stream generation binary bytes r
