use Rattle.std.proofs.Common.{Ok, Err, refl, alloc_error}
use Rattle.rtc_peer_core.specs.Meanings.{meanings}
use Rattle.rtc_peer_polling.specs.DtlsStages.{PollsDtlsOutput}
use Rattle.rtc_peer_polling.proofs.DtlsTurns.{dtls_turn_falls}
use Rattle.rtc_peer_transport.proofs.StageLemmas.{over_more, repeats_end}
use Rattle.rtc_peer_polling.proofs.polling_dtls.poll_dtls_outputs.Goals as goal

pub outputs-preserved : goal.outputs-preserved
outputs-preserved g c =
    over_more (PollsDtlsOutput (meanings g.I.IceAgent.ice g.D.DtlsInstance.dtls g.S.Association.association g.M.MediaSession.media g.N.Ids.ids)) _ _ _ c.outputs.invariant
    (record { answer = Ok c.in-Ok.output; dtls = c.poll_output.new.self; by_poll = c.in-Ok.ensures; by_answer = c.in-Again.ensures })

pub outputs-smaller : goal.outputs-smaller
outputs-smaller g c =
    dtls_turn_falls (meanings g.I.IceAgent.ice g.D.DtlsInstance.dtls g.S.Association.association g.M.MediaSession.media g.N.Ids.ids) g.met.D.DtlsInstance.laws _ _
    (record { answer = Ok c.in-Ok.output; dtls = c.poll_output.new.self; by_poll = c.in-Ok.ensures; by_answer = c.in-Again.ensures })

pub returns-in_default : goal.returns-in_default
returns-in_default g c =
    repeats_end _ _ _ _ _ c.outputs.invariant
    (record { answer = Ok c.in-Ok.output; dtls = c.poll_output.new.self; by_poll = c.in-Ok.ensures; by_answer = c.take_dtls_output.ensures })
    c.in_default.not-Again

pub returns-in-Err : goal.returns-in-Err
returns-in-Err g c =
    rw (c.close_out_of_memory.ensures.told, c.close_out_of_memory.ensures.closed)
    (repeats_end _ _ _ _ _ c.outputs.invariant
    (record { answer = Err alloc_error; dtls = c.poll_output.new.self; by_poll = c.in-Err.ensures; by_answer = (refl, refl) })
    (λ is. cc (is)))
