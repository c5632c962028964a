use Rattle.std.proofs.Common.{◌≡◌, ◌+◌, ◌-◌, length, ap, arith}
use Rattle.std.proofs.lemmas.Slice.{drop-put_mid}
use Rattle.rtc_wire.proofs.dcep_open.put.Goals as goal

pub returns-clause-rest : goal.returns-clause-rest
returns-clause-rest c = λ n past.
    let count : length c.copy_from_slice.new.self ≡ c.args.at + length c.args.bytes.now - c.args.at = omega (arith, ap length c.copy_from_slice.ensures.after) in
    drop-put_mid c.args.at (c.args.at + length c.args.bytes.now - c.args.at) c.args.buf.now c.copy_from_slice.new.self n (omega arith) (omega arith) count
