use Rattle.rtc_peer_core.specs.Formats.{config_formats, AreFormedFormats}
use Rattle.rtc_peer_core.specs.Formed.{IsFormed}
use Rattle.rtc_peer_core.specs.Stance.{stance_of}
use Rattle.rtc_run_faulty.specs.FaultyParts.{faulty_parts}
use Rattle.rtc_run_faulty.proofs.FaultyPeers.{formed_if_drawn}
use Rattle.rtc_run_faulty.proofs.faulty_pair.build_peer.Goals as goal

pub returns-clause-formed : goal.returns-clause-formed
returns-clause-formed c =
    formed_if_drawn c.args.config.ice.credentials c.build.result (λ rtc. AreFormedFormats (config_formats c.args.config) → IsFormed (stance_of faulty_parts rtc.core)) c.build.ensures.formed
