use Rattle.rtc_peer_core.specs.Meanings.{meanings}
use Rattle.rtc_peer_laws.proofs.ActedChanges.{applied_called, channel_called, line_called, media_staged, restart_staged}
use Rattle.rtc_peer_rows.specs.RowChanges.{directed_row, stopped_row}
use Rattle.rtc_sdp_values.specs.declared.direction.Direction.TheVariants.{Inactive}
use Rattle.rtc_peer_laws.proofs.changes.changes_act.Goals as goal

pub returns-clause-channels : goal.returns-clause-channels
returns-clause-channels g c = λ p core config answer h. channel_called (meanings g.I.IceAgent.ice g.D.DtlsInstance.dtls g.S.Association.association g.M.MediaSession.media g.N.Ids.ids) p core config answer h

pub returns-clause-lines : goal.returns-clause-lines
returns-clause-lines g c = λ p core wanted answer h. media_staged (meanings g.I.IceAgent.ice g.D.DtlsInstance.dtls g.S.Association.association g.M.MediaSession.media g.N.Ids.ids) p core wanted answer h

pub returns-clause-directions : goal.returns-clause-directions
returns-clause-directions g c = λ p core mid dir answer h. line_called (meanings g.I.IceAgent.ice g.D.DtlsInstance.dtls g.S.Association.association g.M.MediaSession.media g.N.Ids.ids) (directed_row dir) dir p core mid answer h

pub returns-clause-stops : goal.returns-clause-stops
returns-clause-stops g c = λ p core mid answer h. line_called (meanings g.I.IceAgent.ice g.D.DtlsInstance.dtls g.S.Association.association g.M.MediaSession.media g.N.Ids.ids) stopped_row Inactive p core mid answer h

pub returns-clause-restarts : goal.returns-clause-restarts
returns-clause-restarts g c = λ p core keeps answer h. restart_staged (meanings g.I.IceAgent.ice g.D.DtlsInstance.dtls g.S.Association.association g.M.MediaSession.media g.N.Ids.ids) p core keeps answer h

pub returns-clause-applies : goal.returns-clause-applies
returns-clause-applies g c = λ p core answer h. applied_called (meanings g.I.IceAgent.ice g.D.DtlsInstance.dtls g.S.Association.association g.M.MediaSession.media g.N.Ids.ids) p core answer h
