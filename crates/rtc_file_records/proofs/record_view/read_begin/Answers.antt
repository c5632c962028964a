use Rattle.std.proofs.Common.{arith, ap, ◌∙◌, drop, take, ◌+◌, ◌-◌, ◌≡◌}
use Rattle.std.specs.Int.{w64, from_be_bytes}
use Rattle.rtc_file_records.proofs.ByteFields.{begin_is}
use Rattle.rtc_file_records.proofs.record_view.read_begin.Goals as goal

pub returns-clause-is : goal.returns-clause-is
returns-clause-is c =
    let bytes = c.args.bytes.now in
    let count = c.u16_at.result in
    let name = c.in-Some.name.now in
    let size : 3 + count - 3 ≡ count = omega arith in
    let name_is : name ≡ take count (drop 3 bytes) = c.in-Some.ensures.1 ∙ ap (λ k. take k (drop 3 bytes)) size in
    let last : 3 + count + 8 - (3 + count) ≡ 8 = omega arith in
    let number : c.u64_at.result ≡ from_be_bytes w64 (take 8 (drop (3 + count) bytes)) = c.u64_at.ensures ∙ ap (λ k. from_be_bytes w64 (take k (drop (3 + count) bytes))) last in
    begin_is bytes name count c.u64_at.result (λ i. omega (arith, c.type_inv.bytes i)) c.if-bytes-name_end.false c.requires c.u16_at.ensures number
    (omega (arith, c.u16_at.type_inv)) (omega (arith, c.u64_at.type_inv)) name_is (rw c.in-Some.ensures.1 c.in-Some.ensures.0)
