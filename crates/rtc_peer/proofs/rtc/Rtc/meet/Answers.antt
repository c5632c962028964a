use Rattle.std.proofs.Common.{rules, ◌≡◌, true, false, ap, refl, sym, subst, ◌∙◌}
use Rattle.rtc_peer_core.specs.Meanings.{meanings}
use Rattle.rtc_peer_transport.specs.declared.polled_peer.PolledPeer.{PolledPeer}
use Rattle.rtc_peer_transport.specs.declared.met.Met.TheVariants.{Nothing}
use Rattle.rtc_peer.specs.CachedPeer.{CachedPeer, polled_of}
use Rattle.rtc_peer.specs.PeerSignals.{MeetsParts}
use Rattle.rtc_peer.proofs.SignalLemmas.{quiet_met, meets_nothing, meets_other, signals_walked}
use Rattle.rtc_peer.proofs.rtc.Rtc.meet.Goals as goal

pub returns-then-not-wants_events-clause-walked : goal.returns-then-not-wants_events-clause-walked
returns-then-not-wants_events-clause-walked g c =
    let off : c.self.inside.readiness.events ≡ false = search rules in
    subst (λ (p : PolledPeer g.row.I.Denot g.row.D.Denot g.row.S.Denot g.row.M.Denot g.row.N.Denot). MeetsParts (meanings g.I.IceAgent.ice g.D.DtlsInstance.dtls g.S.Association.association g.M.MediaSession.media g.N.Ids.ids) p Nothing p) (ap (λ (x : CachedPeer g.row.I.Denot g.row.D.Denot g.row.S.Denot g.row.M.Denot g.row.N.Denot). polled_of x) c.self.view_is)
    (quiet_met (meanings g.I.IceAgent.ice g.D.DtlsInstance.dtls g.S.Association.association g.M.MediaSession.media g.N.Ids.ids) (record { ice = g.met.I.IceAgent.laws; dtls = g.met.D.DtlsInstance.laws; association = g.met.S.Association.laws; media = g.met.M.MediaSession.laws }) c.self.inside.polled (c.self.invariant.events off))

pub returns-then-is_closing_done-clause-walked : goal.returns-then-is_closing_done-clause-walked
returns-then-is_closing_done-clause-walked g c =
    meets_nothing (meanings g.I.IceAgent.ice g.D.DtlsInstance.dtls g.S.Association.association g.M.MediaSession.media g.N.Ids.ids) true c.self.inside.polled (polled_of c.args.self.now) c.visit.new.peer _
    (ap (λ (x : CachedPeer g.row.I.Denot g.row.D.Denot g.row.S.Denot g.row.M.Denot g.row.N.Denot). polled_of x) c.self.view_is) c.in-Nothing.ensures (sym c.is_closing_done.ensures ∙ c.if-is_closing_done.true) refl

pub invariant_of-self-in-Nothing : goal.invariant_of-self-in-Nothing
invariant_of-self-in-Nothing g c =
    signals_walked (meanings g.I.IceAgent.ice g.D.DtlsInstance.dtls g.S.Association.association g.M.MediaSession.media g.N.Ids.ids) (record { ice = g.met.I.IceAgent.laws; dtls = g.met.D.DtlsInstance.laws; association = g.met.S.Association.laws; media = g.met.M.MediaSession.laws })
    c.self.inside.polled c.visit.new.peer c.wake_all.new.readiness c.clear_events.new.self c.self.inside.kept
    c.in-Nothing.ensures (sym c.is_closing_done.ensures ∙ c.if-is_closing_done.false) c.wake_all.ensures c.clear_events.ensures

pub returns-else-is_closing_done-clause-walked : goal.returns-else-is_closing_done-clause-walked
returns-else-is_closing_done-clause-walked g c =
    meets_nothing (meanings g.I.IceAgent.ice g.D.DtlsInstance.dtls g.S.Association.association g.M.MediaSession.media g.N.Ids.ids) false c.self.inside.polled (polled_of c.args.self.now) c.visit.new.peer _
    (ap (λ (x : CachedPeer g.row.I.Denot g.row.D.Denot g.row.S.Denot g.row.M.Denot g.row.N.Denot). polled_of x) c.self.view_is) c.in-Nothing.ensures (sym c.is_closing_done.ensures ∙ c.if-is_closing_done.false) refl

pub returns-in_default : goal.returns-in_default
returns-in_default g c =
    let on : c.self.inside.readiness.events ≡ true = search rules in
    record {
      walked = meets_other (meanings g.I.IceAgent.ice g.D.DtlsInstance.dtls g.S.Association.association g.M.MediaSession.media g.N.Ids.ids) c.visit.result c.self.inside.polled (polled_of c.args.self.now) c.visit.new.peer
          (ap (λ (x : CachedPeer g.row.I.Denot g.row.D.Denot g.row.S.Denot g.row.M.Denot g.row.N.Denot). polled_of x) c.self.view_is) c.in_default.not-Nothing c.visit.ensures;
      quiet = λ none. absurd (c.in_default.not-Nothing none);
      passed = λ off.
          let clash : true ≡ false = sym on ∙ ap (λ (x : CachedPeer g.row.I.Denot g.row.D.Denot g.row.S.Denot g.row.M.Denot g.row.N.Denot). x.signals.events) c.self.view_is ∙ off in
          absurd (cc);
    }
