use Rattle.rtc_peer_core.specs.Meanings.{meanings}
use Rattle.rtc_peer_staging.proofs.BuildLemmas.{peer_built}
use Rattle.rtc_peer_staging.proofs.building.build_peer.Goals as goal

pub returns : goal.returns
returns g c =
    let is = rw (c.take_formats-formats.ensures, c.polite-polite.ensures, c.draw-session_id.ensures.value, c.in-Ok.ensures.after, c.draw-session_id.ensures.after) at c.empty_peer.ensures in
    let version = rw c.dtls_version.ensures at c.set_version.ensures in
    let lite = rw c.ice_lite.ensures at c.set_ice_lite.ensures in
    let creds = rw (c.in-Ok.ensures.creds, c.draw-session_id.ensures.after) at c.set_local_credentials.ensures in
    let cert = rw c.draw-session_id.ensures.after at c.in-Ok.ensures.dtls in
    let settings = rw c.media_settings.ensures.value at c.configure.ensures in
    peer_built (meanings g.I.IceAgent.ice g.D.DtlsInstance.dtls g.S.Association.association g.M.MediaSession.media g.N.Ids.ids) c.args.alloc c.args.config c.args.start c.args.ice c.args.dtls c.args.association c.args.media c.args.ids
    c.set_times.new.ice c.set_ice_lite.new.self c.set_local_credentials.new.self c.set_version.new.self c.in-Ok.own.dtls c.make_streams-sctp.result c.configure.new.self c.empty_peer.result is
    (record {
      rto = c.set_times.ensures;
      lite = lite;
      creds = creds;
      version = version;
      cert = cert;
      limits = c.make_streams-sctp.ensures.limits;
      settings = settings;
      streams = c.make_streams-sctp.ensures.made;
    })
