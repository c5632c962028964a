use Rattle.rtc_peer_direct.proofs.MadeChannels.{made_channel_is_there, label_of_made_fits, protocol_of_made_fits}
use Rattle.rtc_peer_direct.proofs.channel_making.create_data_channel.Goals as goal

pub confirm-requires-clause-channel : goal.confirm-requires-clause-channel
confirm-requires-clause-channel g c =
    made_channel_is_there c.args.peer.now.core.channels c.new_channel.new.self c.args.config c.in-Ok.id c.in-Ok.ensures.1 c.in-Ok.ensures.2

pub confirm-requires-clause-label : goal.confirm-requires-clause-label
confirm-requires-clause-label g c = label_of_made_fits c.args.peer.now.core.channels c.args.config c.in-Ok.ensures.0

pub confirm-requires-clause-protocol : goal.confirm-requires-clause-protocol
confirm-requires-clause-protocol g c = protocol_of_made_fits c.args.peer.now.core.channels c.args.config c.in-Ok.ensures.0
