use Rattle.std.proofs.Common.{arith}
use Rattle.rtc_file_records.specs.Records.{record_bytes}
use Rattle.rtc_file_records.proofs.ByteFields.{kind_and_number_alone}
use Rattle.rtc_file_records.proofs.record_view.read_resume.Goals as goal

pub returns-clause-is : goal.returns-clause-is
unfolding record_bytes
returns-clause-is c = record {
  written = kind_and_number_alone c.args.bytes.now 4 c.u64_at.result (λ i. omega (arith, c.type_inv.bytes i)) c.if-bytes-ne9.false c.requires c.u64_at.ensures;
  sent = tt;
  fields = omega (arith, c.u64_at.type_inv);
}
