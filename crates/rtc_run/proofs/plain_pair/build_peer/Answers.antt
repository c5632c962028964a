use Rattle.rtc_peer_core.specs.Formats.{config_formats, AreFormedFormats}
use Rattle.rtc_peer_core.specs.Formed.{IsFormed}
use Rattle.rtc_peer_core.specs.Stance.{stance_of}
use Rattle.rtc_run.specs.ProgramPair.{plain_parts}
use Rattle.rtc_run.proofs.PlainPeers.{formed_without_creds}
use Rattle.rtc_run.proofs.plain_pair.build_peer.Goals as goal

pub returns-clause-formed : goal.returns-clause-formed
returns-clause-formed c = formed_without_creds c.args.config.ice.credentials c.build.result (λ rtc. AreFormedFormats (config_formats c.args.config) → IsFormed (stance_of plain_parts rtc.core)) c.build.ensures.formed
