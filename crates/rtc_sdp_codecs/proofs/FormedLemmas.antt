-- Formed rows stay formed where a line takes some of them, or those that the other side has.
use Rattle.std.proofs.Common.{◌≡◌, ℕ, ◌≤◌, eqb, Bool, true, false, cond, List, [], ◌∷◌}
use Rattle.std.specs.Prelude.{filter}
use Rattle.std.specs.List.{AllByRecursion}
use Rattle.rtc_wire_text.specs.Once.{IsApart}
use Rattle.rtc_sdp_values.specs.MediaKind.{same_kind}
use Rattle.rtc_sdp_values.specs.declared.extension.Extension.{Extension}
use Rattle.rtc_sdp_values.specs.declared.media_kind.MediaKind.{MediaKind}
use Rattle.rtc_sdp_values.specs.declared.payload_row.PayloadRow.{PayloadRow}
use Rattle.rtc_sdp_codecs.specs.LineFormats.{is_same_format, payload_kind, rows_of_kind, matched_rows, suits_kind, extensions_of_kind}
use Rattle.rtc_sdp_codecs.specs.LineFormats.{shared_extensions, is_shared}
use Rattle.rtc_sdp_codecs.specs.FormedCodecs.{
  payload_numbers,
  all_payload_numbers,
  AreDistinctNumbers,
  IsFormedRow,
  AreFormedRows,
  IsFormedExtension,
  AreFormedExtensions,
}
use Rattle.rtc_sdp_codecs.proofs.AllLemmas.{all_left, all_right, all_joined, all_weaker, all_kept, apart_kept, ArePartsApart, parts_apart, apart_joined}
use Rattle.rtc_sdp_codecs.proofs.MatchedLemmas.{all_matched_numbers, matched_apart, matched_all, matched_formats, renumbered_formed}

numbers_kept : (Q : ℕ → Type 0) (test : PayloadRow → Bool) (rows : List PayloadRow) → AllByRecursion Q (all_payload_numbers rows) → AllByRecursion Q (all_payload_numbers (filter test rows))
numbers_kept Q test [] h = tt
numbers_kept Q test (row ∷ rest) h = by (test row) (numbers_kept Q test rest (all_right Q (payload_numbers row) (all_payload_numbers rest) h))
  where
    by : (b : Bool) → AllByRecursion Q (all_payload_numbers (filter test rest)) → AllByRecursion Q (all_payload_numbers (cond b (row ∷ filter test rest) (filter test rest)))
    by true later = all_joined Q (payload_numbers row) (all_payload_numbers (filter test rest)) (all_left Q (payload_numbers row) (all_payload_numbers rest) h) later
    by false later = later

numbers_apart : (test : PayloadRow → Bool) (rows : List PayloadRow) → IsApart eqb (all_payload_numbers rows) → IsApart eqb (all_payload_numbers (filter test rows))
numbers_apart test [] h = tt
numbers_apart test (row ∷ rest) h =
    let parts = parts_apart (payload_numbers row) (all_payload_numbers rest) h in
    by (test row) parts (numbers_apart test rest parts.right)
  where
    by : (b : Bool) → ArePartsApart (payload_numbers row) (all_payload_numbers rest) → IsApart eqb (all_payload_numbers (filter test rest)) → IsApart eqb (all_payload_numbers (cond b (row ∷ filter test rest) (filter test rest)))
    by true parts later =
        let P : ℕ → Type 0 = λ (x : ℕ). AllByRecursion (λ y. eqb y x ≡ false) (all_payload_numbers rest) in
        let Q : ℕ → Type 0 = λ (x : ℕ). AllByRecursion (λ y. eqb y x ≡ false) (all_payload_numbers (filter test rest)) in
        apart_joined (payload_numbers row) (all_payload_numbers (filter test rest)) (record {
          left = parts.left;
          others = all_weaker P Q (λ x k. numbers_kept (λ (y : ℕ). eqb y x ≡ false) test rest k) (payload_numbers row) parts.others;
          right = later;
        })
    by false parts later = later

filtered_formed : (test : PayloadRow → Bool) (rows : List PayloadRow) → AreFormedRows rows → AreFormedRows (filter test rows)
filtered_formed test rows h = record {
  each = all_kept IsFormedRow test rows h.each;
  numbers = record {
    small = numbers_kept (λ (n : ℕ). n ≤ 127) test rows h.numbers.small;
    apart = numbers_apart test rows h.numbers.apart;
  };
  formats = apart_kept is_same_format test rows h.formats;
}

pub kind_formed : (kind : MediaKind) (rows : List PayloadRow) → AreFormedRows rows → AreFormedRows (rows_of_kind kind rows)
kind_formed kind rows h = filtered_formed (λ row. same_kind (payload_kind row) kind) rows h

pub matched_formed : (kind : MediaKind) (rows remote : List PayloadRow) → AreFormedRows rows → AreDistinctNumbers remote → AreFormedRows (matched_rows kind rows remote)
matched_formed kind rows remote h theirs =
    let own = kind_formed kind rows h in
    record {
      each = matched_all IsFormedRow renumbered_formed remote (rows_of_kind kind rows) own.each;
      numbers = record {
        small = all_matched_numbers (λ (n : ℕ). n ≤ 127) remote (rows_of_kind kind rows) theirs.small;
        apart = matched_apart remote (rows_of_kind kind rows) own.formats theirs.apart;
      };
      formats = matched_formats remote (rows_of_kind kind rows) own.formats;
    }

pub extensions_formed : (kind : MediaKind) (rows : List (ℕ × Extension)) → AreFormedExtensions rows → AreFormedExtensions (extensions_of_kind kind rows)
extensions_formed kind rows h = all_kept IsFormedExtension (λ row. suits_kind kind row.1) rows h

pub shared_formed : (rows remote : List (ℕ × Extension)) → AreFormedExtensions remote → AreFormedExtensions (shared_extensions rows remote)
shared_formed rows remote h = all_kept IsFormedExtension (is_shared rows) remote h
