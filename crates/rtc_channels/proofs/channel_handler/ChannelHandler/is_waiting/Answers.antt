use Rattle.std.proofs.Common.{◌∙◌, sym, ap, not, drop, ℕ, List, Option}
use Rattle.std.specs.Prelude.{is_some}
use Rattle.std.specs.List.{list_any}
use Rattle.rtc_channels.specs.Channels.{Channels}
use Rattle.rtc_channels.specs.Allocation.{is_waiting}
use Rattle.rtc_channels.proofs.GivingLemmas.{waiting_rows}
use Rattle.rtc_channels.proofs.SettledLemmas.{bare_settled}
use Rattle.rtc_channels.proofs.channel_handler.ChannelHandler.is_waiting.Goals as goal

pub returns : goal.returns
returns c =
    c.any_bare.ensures
    ∙ (ap (λ (rows : List (ℕ × Option ℕ)). list_any (λ row. not (is_some row.1)) (drop c.self.inside.settled rows)) c.as_slice.ensures.value
    ∙ (bare_settled c.self.inside.settled c.self.inside.rows.items c.self.inside.kept.items c.self.invariant.handled.paired.same c.self.invariant.settled_first
    ∙ (sym (waiting_rows c.self.inside.rows.items c.self.inside.kept.items c.self.invariant.handled.paired.same) ∙ ap (λ (held : Channels). is_waiting held.rows) c.self.view_is)))
