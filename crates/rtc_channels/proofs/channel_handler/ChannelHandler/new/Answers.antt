use Rattle.std.proofs.Common.{refl}
use Rattle.rtc_channels.proofs.HandledLemmas.{handled_empty, empty_list, empty_granted}
use Rattle.rtc_channels.proofs.PoolLemmas.{pools_full}
use Rattle.rtc_channels.proofs.channel_handler.ChannelHandler.new.Goals as goal

pub invariant_of-result : goal.invariant_of-result
invariant_of-result c =
    rw (c.new.ensures.items, c.new-2.ensures.items) (record { handled = handled_empty c.new-3.result c.new-3.ensures.empty; settled_first = tt; pools_are = pools_full c.new-3.result c.new-4.result (λ q. empty_granted c.new-3.result q c.new-3.ensures.empty) c.new-4.ensures.client c.new-4.ensures.server })

pub returns : goal.returns
returns c = rw (c.new.ensures.items, empty_list c.new-3.result c.new-3.ensures.empty) refl
