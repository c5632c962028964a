use Rattle.rtc_sctp_laws.proofs.PlainGenerations.{plain_generations}
use Rattle.rtc_sctp_laws.proofs.PlainReadings.{plain_named}
use Rattle.rtc_sctp_laws.proofs.plain.plain_streams_keep_laws.Goals as goal

pub returns-clause-generations : goal.returns-clause-generations
returns-clause-generations c = plain_generations

pub returns-clause-named : goal.returns-clause-named
returns-clause-named c = plain_named
