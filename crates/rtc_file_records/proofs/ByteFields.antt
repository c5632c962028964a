-- Bytes as the fields that they are cut into.
use Rattle.std.proofs.Common.{ℕ, suc, ◌≡◌, ◌+◌, ◌≤◌, ◌<◌, ◌^◌, inl, inr, true, List, [], ◌∷◌, ◌++◌, length, get_or, take, drop, ◌∙◌, ap, sym, arith, append-nil}
use Rattle.std.specs.Int.{w16, w64, from_be_bytes, to_be_bytes}
use Rattle.std.specs.Str.{is_utf8}
use Rattle.std.proofs.lemmas.Bool.Decides.{leb_tells}
use Rattle.std.proofs.lemmas.List.{get_or-take, get_or-drop, get_or_past, length-take, length-drop, take-append-drop, take_all, drop-drop}
use Rattle.std.proofs.lemmas.Nat.{be_bytes_2, be_bytes_8}
use Rattle.std.proofs.Math.Seq.{drop-cons}
use Rattle.std.proofs.Math.ListN.{drop_of_length-le}
use Rattle.rtc_file_records.specs.declared.file_record.FileRecord.TheVariants.{Begin}
use Rattle.rtc_file_records.specs.Records.{IsRecord, record_bytes}

-- each number is that of a byte
abbrev pub AreSmall : List ℕ → Type 0
AreSmall bytes = (i : ℕ) → get_or bytes i 0 < 256

part_small : (bytes : List ℕ) (at count : ℕ) → AreSmall bytes → AreSmall (take count (drop at bytes))
part_small bytes at count small i =
    elim (leb_tells (suc i) count) [
      | inl before ↦ rw (get_or-take count (drop at bytes) i 0 (omega (arith, before.1)), get_or-drop at bytes i 0) (small (at + i))
      | inr past ↦ let over : length (take count (drop at bytes)) ≤ i = omega (arith, past.1, length-take count (drop at bytes)) in
          rw (get_or_past (take count (drop at bytes)) i 0 over) (omega arith)
    ]

-- so many bytes, and what is behind them
parted : (bytes : List ℕ) (at count : ℕ) → drop at bytes ≡ take count (drop at bytes) ++ drop (at + count) bytes
parted bytes at count = sym (ap (λ rest. take count (drop at bytes) ++ rest) (sym (drop-drop count at bytes)) ∙ take-append-drop count (drop at bytes))

number_8 : (bytes : List ℕ) (at n : ℕ) → AreSmall bytes → at + 8 ≤ length bytes → n ≡ from_be_bytes w64 (take 8 (drop at bytes)) → to_be_bytes w64 n ≡ take 8 (drop at bytes)
number_8 bytes at n small within is =
    be_bytes_8 (take 8 (drop at bytes)) n (omega (arith, length-take 8 (drop at bytes), length-drop at bytes)) (part_small bytes at 8 small) is

number_2 : (bytes : List ℕ) (at n : ℕ) → AreSmall bytes → at + 2 ≤ length bytes → n ≡ from_be_bytes w16 (take 2 (drop at bytes)) → to_be_bytes w16 n ≡ take 2 (drop at bytes)
number_2 bytes at n small within is =
    be_bytes_2 (take 2 (drop at bytes)) n (omega (arith, length-take 2 (drop at bytes), length-drop at bytes)) (part_small bytes at 2 small) is

-- a kind, a number of 8 bytes, and the rest
pub kind_and_number : (bytes : List ℕ) (kind n : ℕ) → AreSmall bytes → 9 ≤ length bytes → get_or bytes 0 0 ≡ kind → n ≡ from_be_bytes w64 (take 8 (drop 1 bytes)) → bytes ≡ kind ∷ (to_be_bytes w64 n ++ drop 9 bytes)
kind_and_number bytes kind n small long first is =
    drop-cons bytes 0 0 (omega arith)
    ∙ ap (λ k. k ∷ drop 1 bytes) first
    ∙ ap (λ rest. kind ∷ rest) (parted bytes 1 8 ∙ ap (λ field. field ++ drop 9 bytes) (sym (number_8 bytes 1 n small (omega arith) is)))

-- a kind and a number of 8 bytes
pub kind_and_number_alone : (bytes : List ℕ) (kind n : ℕ) → AreSmall bytes → length bytes ≡ 9 → get_or bytes 0 0 ≡ kind → n ≡ from_be_bytes w64 (take 8 (drop 1 bytes)) → bytes ≡ kind ∷ to_be_bytes w64 n
kind_and_number_alone bytes kind n small long first is =
    let none : drop 9 bytes ≡ [] = drop_of_length-le bytes {i = 9} (omega arith) in
    kind_and_number bytes kind n small (omega arith) first is ∙ ap (λ rest. kind ∷ (to_be_bytes w64 n ++ rest)) none ∙ ap (λ rest. kind ∷ rest) (append-nil (to_be_bytes w64 n))

-- a kind, a length, so many bytes, and a number of 8 bytes
pub kind_name_and_number : (bytes : List ℕ) (kind count n : ℕ) → AreSmall bytes → length bytes ≡ 3 + count + 8 → get_or bytes 0 0 ≡ kind
    → count ≡ from_be_bytes w16 (take 2 (drop 1 bytes)) → n ≡ from_be_bytes w64 (take 8 (drop (3 + count) bytes))
    → bytes ≡ kind ∷ (to_be_bytes w16 count ++ (take count (drop 3 bytes) ++ to_be_bytes w64 n))
kind_name_and_number bytes kind count n small long first count_is is =
    let last_all : drop (3 + count) bytes ≡ take 8 (drop (3 + count) bytes) = sym (take_all 8 (drop (3 + count) bytes) (omega (arith, length-drop (3 + count) bytes))) in
    let last : drop (3 + count) bytes ≡ to_be_bytes w64 n = last_all ∙ sym (number_8 bytes (3 + count) n small (omega arith) is) in
    let rest : drop 3 bytes ≡ take count (drop 3 bytes) ++ to_be_bytes w64 n = parted bytes 3 count ∙ ap (λ back. take count (drop 3 bytes) ++ back) last in
    let behind : drop 1 bytes ≡ to_be_bytes w16 count ++ drop 3 bytes = parted bytes 1 2 ∙ ap (λ field. field ++ drop 3 bytes) (sym (number_2 bytes 1 count small (omega arith) count_is)) in
    drop-cons bytes 0 0 (omega arith)
    ∙ ap (λ k. k ∷ drop 1 bytes) first
    ∙ ap (λ back. kind ∷ back) (behind ∙ ap (λ back. to_be_bytes w16 count ++ back) rest)

-- bytes that are cut so are a Begin
pub begin_is : (bytes name : List ℕ) (count n : ℕ) → AreSmall bytes → length bytes ≡ 3 + count + 8 → get_or bytes 0 0 ≡ 1
    → count ≡ from_be_bytes w16 (take 2 (drop 1 bytes)) → n ≡ from_be_bytes w64 (take 8 (drop (3 + count) bytes)) → count < 2 ^ 16 → n < 2 ^ 64
    → name ≡ take count (drop 3 bytes) → is_utf8 name ≡ true → IsRecord bytes (Begin name n)
unfolding record_bytes
begin_is bytes name count n small long first count_is is few fits name_is text =
    let size : length name ≡ count = ap length name_is ∙ omega (arith, length-take count (drop 3 bytes), length-drop 3 bytes) in
    let cut : bytes ≡ 1 ∷ (to_be_bytes w16 count ++ (take count (drop 3 bytes) ++ to_be_bytes w64 n)) = kind_name_and_number bytes 1 count n small long first count_is is in
    record {
      written = cut ∙ ap (λ front. 1 ∷ (to_be_bytes w16 count ++ (front ++ to_be_bytes w64 n))) (sym name_is) ∙ ap (λ k. 1 ∷ (to_be_bytes w16 k ++ (name ++ to_be_bytes w64 n))) (sym size);
      sent = omega arith;
      fields = (text, fits);
    }
