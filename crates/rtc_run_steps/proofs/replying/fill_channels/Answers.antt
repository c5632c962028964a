use Rattle.std.proofs.Common.{rules}
use Rattle.rtc_run_steps.proofs.ShownRows.{row_pushed, rows_told}
use Rattle.rtc_run_steps.proofs.replying.fill_channels.Goals as goal

pub loop-k-preserved : goal.loop-k-preserved
loop-k-preserved g c =
    record {
      filled = row_pushed _ c.loop-k.k _ _ c.channel_row.result c.in-Some.row c.channel_row.ensures c.in-Some.is c.loop-k.invariant.filled c.push_reserved.ensures.items;
      count = search rules;
      room = search rules;
    }

pub returns-in_default : goal.returns-in_default
returns-in_default g c = rows_told _ c.loop-k.k c.loop-k.room.items _ c.channel_row.result c.channel_row.ensures (search rules) c.loop-k.invariant.filled c.new.ensures
