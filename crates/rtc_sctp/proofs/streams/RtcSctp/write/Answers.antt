use Rattle.std.proofs.Common.{◌∙◌, subst}
use Rattle.rtc_sctp.specs.Calls.{WritesStream}
use Rattle.rtc_sctp.specs.Streams.{SctpStreams}
use Rattle.rtc_sctp.proofs.RefusalLemmas.{writes_refused}
use Rattle.rtc_sctp.proofs.streams.RtcSctp.write.Goals as goal

pub returns-clause-refused : goal.returns-clause-refused
returns-clause-refused g c =
    let m = g.S.Association.association in
    writes_refused m g.met.S.Association.laws c.args.self.now c.write_message.new.self c.args.id c.args.binary c.args.buf.now c.write_message.result
    (subst (λ (p : SctpStreams _). WritesStream m c.args.id c.args.binary c.args.buf.now p c.write_message.result c.write_message.new.self)
    (c.sift-2.ensures ∙ c.sift.ensures) c.write_message.ensures)
