use Rattle.std.proofs.Common.{sym, arith}
use Rattle.rtc_channels.specs.Ids.{parity_of}
use Rattle.rtc_channels.proofs.OpeningLemmas.{none_given}
use Rattle.rtc_channels.proofs.channel_handler.ChannelHandler.can_allocate.Goals as goal

pub returns-then-not-is_waiting : goal.returns-then-not-is_waiting
returns-then-not-is_waiting c = sym (none_given (parity_of c.args.client) c.args.self.now c.args.self.now.rows (grind (arith, c.is_waiting.ensures, c.if-not-is_waiting.true)))
