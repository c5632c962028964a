use Rattle.std.proofs.Common.{arith, length-drop, ap, ◌∙◌, sym, length, drop, ◌++◌, ◌∷◌, take, ◌-◌, ◌≡◌}
use Rattle.std.specs.Int.{w64, to_be_bytes}
use Rattle.std.proofs.lemmas.List.{take_all}
use Rattle.rtc_file_records.specs.Records.{record_bytes}
use Rattle.rtc_file_records.proofs.ByteFields.{kind_and_number}
use Rattle.rtc_file_records.proofs.record_view.read_piece.Goals as goal

pub returns-clause-is : goal.returns-clause-is
unfolding record_bytes
returns-clause-is c =
    let bytes = c.args.bytes.now in
    let all : take (length bytes - 9) (drop 9 bytes) ≡ drop 9 bytes = take_all (length bytes - 9) (drop 9 bytes) (omega (arith, length-drop 9 bytes)) in
    record {
      written = kind_and_number bytes 2 c.u64_at.result (λ i. omega (arith, c.type_inv.bytes i)) (omega (arith, c.if-bytes-lt10.false)) c.requires c.u64_at.ensures ∙ ap (λ rest. 2 ∷ (to_be_bytes w64 c.u64_at.result ++ rest)) (sym all);
      sent = rw all (omega (arith, length-drop 9 bytes, c.if-bytes-lt10.false), omega (arith, length-drop 9 bytes, c.if-bytes.false));
      fields = omega (arith, c.u64_at.type_inv);
    }
