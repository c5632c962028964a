use Rattle.rtc_channels.proofs.channel_handler.ChannelHandler.settle.Goals as goal

pub count_settled-self-inside-requires-clause-same : goal.count_settled-self-inside-requires-clause-same
count_settled-self-inside-requires-clause-same c = rw (c.as_slice.ensures.value, c.as_slice-2.ensures.value) c.self.invariant.handled.paired.same

pub count_settled-self-inside-requires-clause-settled : goal.count_settled-self-inside-requires-clause-settled
count_settled-self-inside-requires-clause-settled c = rw (c.as_slice.ensures.value, c.as_slice-2.ensures.value) c.self.invariant.settled_first

pub invariant_of-self : goal.invariant_of-self
invariant_of-self c = record {
  handled = c.self.invariant.handled;
  pools_are = c.self.invariant.pools_are;
  settled_first = rw (← c.as_slice.ensures.value, ← c.as_slice-2.ensures.value) c.count_settled-self-inside.ensures;
}

pub returns : goal.returns
returns c = c.self.view_is
