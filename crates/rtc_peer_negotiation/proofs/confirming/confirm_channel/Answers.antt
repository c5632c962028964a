use Rattle.std.proofs.Common.{◌∙◌, sym}
use Rattle.rtc_wire.proofs.ChannelConfigLemmas.{label_fits, protocol_fits}
use Rattle.rtc_peer_negotiation.proofs.ConfirmLemmas.{missed, fitting, unfitting}
use Rattle.rtc_peer_negotiation.proofs.confirming.confirm_channel.Goals as goal

pub returns-then-not-fits_open_message : goal.returns-then-not-fits_open_message
returns-then-not-fits_open_message c = sym (unfitting c.args.id c.args.config c.args.channels.now (sym c.fits_open_message.ensures ∙ c.if-not-fits_open_message.true))

pub returns-then-not-has_channel : goal.returns-then-not-has_channel
returns-then-not-has_channel c =
    sym (fitting c.args.id c.args.config c.args.channels.now (sym c.fits_open_message.ensures ∙ c.if-not-fits_open_message.false)
    ∙ missed c.args.id c.args.config c.args.channels.now (sym c.has_channel.ensures ∙ c.if-not-has_channel.true))

pub confirm-requires-clause-label : goal.confirm-requires-clause-label
confirm-requires-clause-label c = label_fits c.args.config (sym c.fits_open_message.ensures ∙ c.if-not-fits_open_message.false)

pub confirm-requires-clause-protocol : goal.confirm-requires-clause-protocol
confirm-requires-clause-protocol c = protocol_fits c.args.config (sym c.fits_open_message.ensures ∙ c.if-not-fits_open_message.false)

pub returns : goal.returns
returns c = c.confirm.ensures ∙ sym (fitting c.args.id c.args.config c.args.channels.now (sym c.fits_open_message.ensures ∙ c.if-not-fits_open_message.false))
