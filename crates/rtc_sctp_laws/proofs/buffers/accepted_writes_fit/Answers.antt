use Rattle.rtc_sctp_laws.proofs.BufferedSums.{write_fits}
use Rattle.rtc_sctp_laws.proofs.buffers.accepted_writes_fit.Goals as goal

pub returns : goal.returns
returns g c = record {
  fits = λ id binary bytes p answer q ascend h some fits. write_fits g.S.Association.association g.met.S.Association.laws id binary bytes p answer q ascend h some fits;
}
