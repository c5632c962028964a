use Rattle.std.proofs.Common.{rules, ◌≡◌, ◌≢◌, Ok, Err, refl}
use Rattle.rtc_peer_core.specs.Meanings.{meanings}
use Rattle.rtc_peer_core.specs.declared.phase.Phase.TheVariants.{Closed}
use Rattle.rtc_peer_transport.specs.declared.met.Met.TheVariants.{Transmit, Event, Error}
use Rattle.rtc_peer_transport.specs.declared.output.Output.TheVariants as out
use Rattle.rtc_peer.proofs.SignalLemmas.{gives, waits, ends}
use Rattle.rtc_peer.proofs.rtc.Rtc.poll_output.Goals as goal

pub returns-in-Transmit : goal.returns-in-Transmit
returns-in-Transmit g c =
    let live : c.args.self.now.core.phase ≢ Closed = search rules in
    let h = gives (meanings g.I.IceAgent.ice g.D.DtlsInstance.dtls g.S.Association.association g.M.MediaSession.media g.N.Ids.ids) c.args.self.now c.meet.new.self (Transmit c.in-Transmit.transmit) (Ok (out.Transmit c.in-Transmit.transmit)) live
    c.in-Transmit.ensures.walked (λ e. cc (e)) (refl, refl) c.in-Transmit.ensures.passed (λ moment e. cc (e)) in
    record { polls = h.polls; answers_kept = h.answers_kept; keeps = h.keeps }

pub returns-in-Event : goal.returns-in-Event
returns-in-Event g c =
    let live : c.args.self.now.core.phase ≢ Closed = search rules in
    let h = gives (meanings g.I.IceAgent.ice g.D.DtlsInstance.dtls g.S.Association.association g.M.MediaSession.media g.N.Ids.ids) c.args.self.now c.meet.new.self (Event c.in-Event.event) (Ok (out.Event c.in-Event.event)) live
    c.in-Event.ensures.walked (λ e. cc (e)) (refl, refl) c.in-Event.ensures.passed (λ moment e. cc (e)) in
    record { polls = h.polls; answers_kept = h.answers_kept; keeps = h.keeps }

pub returns-in-Error : goal.returns-in-Error
returns-in-Error g c =
    let live : c.args.self.now.core.phase ≢ Closed = search rules in
    let h = gives (meanings g.I.IceAgent.ice g.D.DtlsInstance.dtls g.S.Association.association g.M.MediaSession.media g.N.Ids.ids) c.args.self.now c.meet.new.self (Error c.in-Error.error) (Err c.in-Error.error) live
    c.in-Error.ensures.walked (λ e. cc (e)) (refl, refl) c.in-Error.ensures.passed (λ moment e. cc (e)) in
    record { polls = h.polls; answers_kept = h.answers_kept; keeps = h.keeps }

pub returns-in-Alive-phase : goal.returns-in-Alive-phase
returns-in-Alive-phase g c =
    let live : c.args.self.now.core.phase ≢ Closed = search rules in
    let alive : c.meet.new.self.core.phase ≢ Closed = search rules in
    let h = waits (meanings g.I.IceAgent.ice g.D.DtlsInstance.dtls g.S.Association.association g.M.MediaSession.media g.N.Ids.ids) c.args.self.now c.meet.new.self c.wait.new.self c.wait.result live c.in-Nothing.ensures.walked alive c.in-Nothing.ensures.quiet
    c.in-Nothing.ensures.passed c.wait.ensures.moment c.wait.ensures.reason c.wait.ensures.signals c.wait.ensures.kept c.wait.ensures.passed in
    record { polls = h.polls; answers_kept = h.answers_kept; keeps = h.keeps }

pub returns-in-Closed-phase : goal.returns-in-Closed-phase
returns-in-Closed-phase g c =
    let live : c.args.self.now.core.phase ≢ Closed = search rules in
    let closed : c.meet.new.self.core.phase ≡ Closed = search rules in
    let h = ends (meanings g.I.IceAgent.ice g.D.DtlsInstance.dtls g.S.Association.association g.M.MediaSession.media g.N.Ids.ids) c.args.self.now c.meet.new.self c.rest_closed-in-Closed-phase.new.self c.rest_closed-in-Closed-phase.result live c.in-Nothing.ensures.walked closed
    c.in-Nothing.ensures.passed c.rest_closed-in-Closed-phase.ensures.rests in
    record { polls = h.polls; answers_kept = h.answers_kept; keeps = h.keeps }
