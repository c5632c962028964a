use Rattle.std.proofs.Common.{◌∙◌, [], ◌∷◌, sym, ap}
use Rattle.rtc_channels.specs.Channels.{Channels, all_confirmed}
use Rattle.rtc_peer_core.specs.Calls.{fitting_channels}
use Rattle.rtc_peer_negotiation.proofs.ConfirmLemmas.{confirmed_more}
use Rattle.rtc_peer_negotiation.proofs.confirming.confirm_channels.Goals as goal

pub loop-change-preserved : goal.loop-change-preserved
loop-change-preserved c =
    c.confirm_change.ensures
    ∙ ap (λ (held : Channels). all_confirmed (fitting_channels (c.in-Some.change ∷ [])) held) c.loop-change.invariant
    ∙ sym (confirmed_more c.loop-change.yielded (c.in-Some.change ∷ []) c.args.channels.now)
