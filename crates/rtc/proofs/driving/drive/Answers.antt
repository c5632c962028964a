use Rattle.std.proofs.Common.{refl}
use Rattle.rtc_peer.specs.CachedPeer.{polled_of}
use Rattle.rtc.specs.Drives.{TimeFails, TimeTaken}
use Rattle.rtc.proofs.driving.drive.Goals as goal

pub returns-in-Ok : goal.returns-in-Ok
returns-in-Ok g c = TimeTaken (polled_of c.handle_input.new.self) c.in-Ok.ensures c.drain.ensures

pub returns-in-Err : goal.returns-in-Err
returns-in-Err g c = TimeFails c.in-Err.error refl c.in-Err.ensures refl
