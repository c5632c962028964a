use Rattle.rtc_peer_polling.proofs.timing.time_handler.Goals as goal

pub returns : goal.returns
returns g c = (c.handle_timeout-timed.new.wake, rw c.wake-wake.ensures at c.handle_timeout-timed.ensures)
