-- Messages of two lists, one behind the other.
use Rattle.std.proofs.Common.{◌≡◌, true, List, [], ◌∷◌, ◌++◌, append_assoc, refl, sym, ap, ◌∙◌}
use Rattle.std.proofs.lemmas.List.Folds.{list_all-append}
use Rattle.rtc_sctp_laws.specs.StreamMessages.{StreamMessage, is_dcep_message, are_dcep, shown_message, shown_messages}

pub dcep_join : (xs ys : List StreamMessage) → are_dcep xs ≡ true → are_dcep ys ≡ true → are_dcep (xs ++ ys) ≡ true
dcep_join xs ys h k = rw (list_all-append is_dcep_message xs ys, h, k) refl

pub shown-append : (xs ys : List StreamMessage) → shown_messages (xs ++ ys) ≡ shown_messages xs ++ shown_messages ys
shown-append [] ys = refl
shown-append (x ∷ xs) ys = ap (λ l. shown_message x.stream x.ppi x.bytes ++ l) (shown-append xs ys) ∙ sym (append_assoc (shown_message x.stream x.ppi x.bytes) (shown_messages xs) (shown_messages ys))
