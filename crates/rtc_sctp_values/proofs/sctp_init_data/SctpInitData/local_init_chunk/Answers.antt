use Rattle.rtc_sctp_values.proofs.HalfLemmas.{may_draw}
use Rattle.rtc_sctp_values.proofs.sctp_init_data.SctpInitData.local_init_chunk.Goals as goal

pub returns-in_err-ensure_local_init_chunk-clause-refused : goal.returns-in_err-ensure_local_init_chunk-clause-refused
returns-in_err-ensure_local_init_chunk-clause-refused g c =
    may_draw g.N.Ids.ids c.args.self.now c.args.ids.now c.ensure_local_init_chunk.result c.ensure_local_init_chunk.new.self
    c.ensure_local_init_chunk.new.ids c.from_residual.result c.ensure_local_init_chunk.ensures

pub returns-in_err-chunk-clause-refused : goal.returns-in_err-chunk-clause-refused
returns-in_err-chunk-clause-refused g c =
    may_draw g.N.Ids.ids c.args.self.now c.args.ids.now c.ensure_local_init_chunk.result c.ensure_local_init_chunk.new.self
    c.ensure_local_init_chunk.new.ids c.from_residual-in_err-chunk.result c.ensure_local_init_chunk.ensures
