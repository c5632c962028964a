use Rattle.rtc.proofs.Bare.{built_bare}
use Rattle.rtc.proofs.plain_peers.build_plain_peer.Goals as goal

pub add_address-requires : goal.add_address-requires
add_address-requires c = built_bare c.args.alloc c.args.config c.args.first c.in_ok-rtc.rtc.core c.in_ok-rtc.ensures.built
