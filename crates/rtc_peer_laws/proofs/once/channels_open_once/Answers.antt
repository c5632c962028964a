use Rattle.rtc_peer_core.specs.Meanings.{meanings}
use Rattle.rtc_peer_laws.proofs.ChannelsOver.{none_over, none_under}
use Rattle.rtc_peer_laws.proofs.OpenedOnce.{opened_once, opening_read, opening_live, not_again, restarted}
use Rattle.rtc_peer_laws.proofs.once.channels_open_once.Goals as goal

pub returns-clause-once : goal.returns-clause-once
returns-clause-once g c = λ v p q id wrote heard written read opens used h. opened_once (meanings g.I.IceAgent.ice g.D.DtlsInstance.dtls g.S.Association.association g.M.MediaSession.media g.N.Ids.ids) g.met.S.Association.laws v id p q wrote heard written read opens used h

pub returns-clause-opened : goal.returns-clause-opened
returns-clause-opened g c = λ v p q id wrote heard written read opens used. opening_read (meanings g.I.IceAgent.ice g.D.DtlsInstance.dtls g.S.Association.association g.M.MediaSession.media g.N.Ids.ids) g.met.S.Association.laws v id p q wrote heard written read opens used

pub returns-clause-begins : goal.returns-clause-begins
returns-clause-begins g c = λ v p q id wrote heard written read after later opens used now. opening_live (meanings g.I.IceAgent.ice g.D.DtlsInstance.dtls g.S.Association.association g.M.MediaSession.media g.N.Ids.ids) g.met.S.Association.laws v id p q wrote heard written read after later opens used now

pub returns-clause-live : goal.returns-clause-live
returns-clause-live g c = λ p q id k s n wrote heard opens before after live stays e. not_again (meanings g.I.IceAgent.ice g.D.DtlsInstance.dtls g.S.Association.association g.M.MediaSession.media g.N.Ids.ids) id k s n p q wrote heard opens before after live stays e

pub returns-clause-restarts : goal.returns-clause-restarts
returns-clause-restarts g c = λ s k a entries h. restarted g.S.Association.association s k a entries h

pub returns-clause-gone : goal.returns-clause-gone
returns-clause-gone g c = λ id s held h k. none_over s id held.rows h.1 k

pub returns-clause-unplaced : goal.returns-clause-unplaced
returns-clause-unplaced g c = λ id held h. none_under id held.rows h.1
