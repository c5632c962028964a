use Rattle.rtc_sctp.proofs.RefusalLemmas.{shuts_refused}
use Rattle.rtc_sctp.proofs.streams.RtcSctp.close.Goals as goal

pub returns-clause-refused : goal.returns-clause-refused
returns-clause-refused g c =
    shuts_refused g.S.Association.association g.met.S.Association.laws c.args.self.now c.shut.new.self c.shut.result c.shut.ensures
