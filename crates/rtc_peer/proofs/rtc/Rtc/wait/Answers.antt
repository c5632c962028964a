use Rattle.std.specs.Prelude.{max}
use Rattle.std.proofs.Common.{ℕ, ap, ◌∙◌}
use Rattle.rtc_peer_core.specs.Meanings.{meanings}
use Rattle.rtc_peer.proofs.SignalLemmas.{signals_waiting}
use Rattle.rtc_peer.proofs.rtc.Rtc.wait.Goals as goal

pub invariant_of-self : goal.invariant_of-self
invariant_of-self g c =
    signals_waiting (meanings g.I.IceAgent.ice g.D.DtlsInstance.dtls g.S.Association.association g.M.MediaSession.media g.N.Ids.ids) (record { ice = g.met.I.IceAgent.laws; dtls = g.met.D.DtlsInstance.laws; association = g.met.S.Association.laws; media = g.met.M.MediaSession.laws })
    c.self.inside.polled c.self.inside.readiness c.clear_timeout.new.self c.self.inside.kept c.from_nanos-self-inside.result c.least_deadline-moment.result
    c.self.invariant c.clear_timeout.ensures c.least_deadline-moment.ensures (c.from_nanos-self-inside.ensures ∙ c.max.ensures ∙ ap (λ (n : ℕ). max n c.nanos-2.result) c.nanos.ensures
    ∙ ap (λ (n : ℕ). max c.self.inside.polled.core.greatest n) c.nanos-2.ensures)
