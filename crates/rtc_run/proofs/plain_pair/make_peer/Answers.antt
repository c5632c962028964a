use Rattle.std.proofs.Common.{◌∙◌, ap}
use Rattle.rtc_config.specs.RtcConfig.{PeerConfig}
use Rattle.rtc_peer_transport.specs.Connection.{no_transport}
use Rattle.rtc_run.proofs.PlainPeers.{built_bare, program_fresh, program_formed, program_unused}
use Rattle.rtc_run.proofs.plain_pair.make_peer.Goals as goal

pub add_address-requires : goal.add_address-requires
add_address-requires c = built_bare c.args.alloc c.in_ok-config.config c.args.first c.in_ok-rtc.rtc.core c.in_ok-rtc.ensures.built

pub returns-clause-fresh : goal.returns-clause-fresh
returns-clause-fresh c =
    program_fresh c.args.alloc c.args.settings c.args.name.now c.args.first c.args.addr c.in_ok-config.config c.in_ok-rtc.rtc.core c.add_address.new.rtc.core
    (record { config_is = c.in_ok-config.ensures.value; builds = c.in_ok-rtc.ensures.built; added = c.in_ok-add_address.ensures.added; rest = c.in_ok-add_address.ensures.others })

pub returns-clause-unused : goal.returns-clause-unused
returns-clause-unused c =
    program_unused c.args.alloc c.args.settings c.args.name.now c.args.first c.args.addr c.in_ok-config.config c.in_ok-rtc.rtc.core c.add_address.new.rtc.core
    (record { config_is = c.in_ok-config.ensures.value; builds = c.in_ok-rtc.ensures.built; added = c.in_ok-add_address.ensures.added; rest = c.in_ok-add_address.ensures.others })

pub returns-clause-formed : goal.returns-clause-formed
returns-clause-formed c =
    program_formed c.args.alloc c.args.settings c.args.name.now c.args.first c.args.addr c.in_ok-config.config c.in_ok-rtc.rtc.core c.add_address.new.rtc.core
    (record { config_is = c.in_ok-config.ensures.value; builds = c.in_ok-rtc.ensures.built; added = c.in_ok-add_address.ensures.added; rest = c.in_ok-add_address.ensures.others }) c.in_ok-rtc.ensures.formed c.in_ok-config.ensures.formed

pub returns-clause-unconnected : goal.returns-clause-unconnected
returns-clause-unconnected c =
    c.in_ok-add_address.ensures.connection
    ∙ c.in_ok-rtc.ensures.unconnected
    ∙ ap (λ (config : PeerConfig). no_transport config.dtls.fingerprint_verification config.media.rtp_mode config.stats_interval) c.in_ok-config.ensures.value
