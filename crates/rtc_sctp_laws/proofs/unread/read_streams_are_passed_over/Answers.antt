use Rattle.rtc_sctp_laws.proofs.PassedReads.{passes_over}
use Rattle.rtc_sctp_laws.proofs.unread.read_streams_are_passed_over.Goals as goal

pub returns : goal.returns
returns g c = λ t t' met there none h. passes_over g.S.Association.association g.met.S.Association.laws t t' met there none h
