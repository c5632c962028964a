use Rattle.std.proofs.Common.{rules, ◌<◌, ◌^◌, ap}
use Rattle.rtc_peer_core.specs.Meanings.{meanings}
use Rattle.rtc_peer_core.proofs.BuiltPeers.{built_formed}
use Rattle.rtc_peer.proofs.rtc.Rtc.build.Goals as goal

pub returns-clause-formed : goal.returns-clause-formed
returns-clause-formed g c = λ tokens formats.
    let small : c.in_ok-core.core.session_id < 2 ^ 64 = search rules in
    let most : c.local_max_message_size-most.result < 2 ^ 32 = search rules in
    built_formed (meanings g.I.IceAgent.ice g.D.DtlsInstance.dtls g.S.Association.association g.M.MediaSession.media g.N.Ids.ids)
    (record { ice = g.met.I.IceAgent.laws; dtls = g.met.D.DtlsInstance.laws; association = g.met.S.Association.laws; media = g.met.M.MediaSession.laws })
    c.args.alloc c.args.config c.args.start c.args.ice c.args.dtls c.args.association c.args.media c.args.ids c.in_ok-core.core c.requires.fresh tokens formats
    (rw (ap (λ q. q.session_id) c.in_ok-core.ensures.rest) at small) (rw c.local_max_message_size-most.ensures at most) c.in_ok-core.ensures
