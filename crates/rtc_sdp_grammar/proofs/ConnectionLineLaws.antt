-- Each line of a connection's attribute that is written is one line, and is read again.
use Rattle.std.proofs.Common.{◌≡◌, ℕ, ◌<◌, ◌^◌, true, List, Option, Some, refl, ap, rules, arith}
use Rattle.std.specs.Prelude.{codes}
use Rattle.std.specs.Fmt.{decimal}
use Rattle.rtc_wire_text.specs.Cuts.{Lacks}
use Rattle.rtc_wire_text.proofs.CutLemmas.{lacks-append}
use Rattle.rtc_wire_text.proofs.NumberLemmas.{number-decimal, decimal_lacks}
use Rattle.rtc_sdp_values.specs.declared.candidate.Candidate.{Candidate}
use Rattle.rtc_sdp_values.specs.declared.fingerprint.Fingerprint.{Fingerprint}
use Rattle.rtc_sdp_attributes.specs.Forms.{is_word_up_to, is_spaceless, word_up_to, spaceless}
use Rattle.rtc_sdp_attributes.specs.AttributeForms.{candidate as candidate_form}
use Rattle.rtc_sdp_grammar.specs.declared.attribute.Attribute.{Attribute}
use Rattle.rtc_sdp_attributes.specs.AttributeTexts.{candidate_text, fingerprint_text}
use Rattle.rtc_sdp_attributes.specs.PlainValues.{IsPlainCandidate, IsPlainFingerprint}
use Rattle.rtc_sdp_attributes.proofs.WordLemmas.{word_again, spaceless_again}
use Rattle.rtc_sdp_attributes.proofs.CandidateLemmas.{candidate_again, candidate_lacks}
use Rattle.rtc_sdp_attributes.proofs.FingerprintLemmas.{fingerprint_again, fingerprint_lacks}
use Rattle.rtc_sdp_grammar.specs.declared.attribute.Attribute.TheVariants.{UfragLine, PasswordLine, LiteLine, FingerprintLine, CandidateLine, MessageSizeLine, SctpInitLine}
use Rattle.rtc_sdp_grammar.specs.declared.item.Item.TheVariants.{Says, Skipped}
use Rattle.std.specs.Prelude.{option_map}
use Rattle.rtc_sdp_grammar.specs.Table.{attribute_item, row_item, Refuses, IsSkipped}
use Rattle.rtc_sdp_grammar.specs.declared.strict.Strict.TheVariants.{Fingerprint as StrictFingerprint, MessageSize}
use Rattle.rtc_sdp_grammar.specs.declared.level.Level.{Level}
use Rattle.rtc_sdp_grammar.specs.declared.level.Level.TheVariants.{SessionLevel, MediaLevel, AnyLevel}
use Rattle.rtc_sdp_grammar.specs.ItemForm.{item_of}
use Rattle.rtc_sdp_grammar.specs.ConnectionTexts.{ufrag_line, password_line, fingerprint_line, candidate_line, message_size_line, sctp_init_line}
use Rattle.rtc_sdp_grammar.proofs.LineLaws.{IsLineOf}

-- what a row gives of a value that has its form
pub read_skipping : {A : Type 0} (level : Level) (says : A → Attribute) (read : Option A) (value : A) → read ≡ Some value → row_item level IsSkipped (option_map says read) ≡ Says level (says value)
read_skipping level says read value e = rw e refl

pub ufrag_line_is : (ufrag : List ℕ) → is_word_up_to 255 ufrag ≡ true → Lacks 10 ufrag → IsLineOf (ufrag_line ufrag) (Says AnyLevel (UfragLine ufrag))
unfolding item_of attribute_item ufrag_line
ufrag_line_is ufrag h k = record { again = read_skipping AnyLevel UfragLine (word_up_to 255 ufrag) ufrag (word_again 255 ufrag h); one = lacks-append 10 (codes "a=ice-ufrag:") ufrag (search rules) k }

pub password_line_is : (password : List ℕ) → is_word_up_to 256 password ≡ true → Lacks 10 password → IsLineOf (password_line password) (Says AnyLevel (PasswordLine password))
unfolding item_of attribute_item password_line
password_line_is password h k = record { again = read_skipping AnyLevel PasswordLine (word_up_to 256 password) password (word_again 256 password h); one = lacks-append 10 (codes "a=ice-pwd:") password (search rules) k }

pub lite_line_is : IsLineOf (codes "a=ice-lite") (Says SessionLevel LiteLine)
unfolding item_of attribute_item
lite_line_is = record { again = refl; one = search rules }

pub trickle_line_is : IsLineOf (codes "a=ice-options:trickle") Skipped
unfolding item_of attribute_item
trickle_line_is = record { again = refl; one = search rules }

pub sctp_port_line_is : IsLineOf (codes "a=sctp-port:5000") Skipped
unfolding item_of attribute_item
sctp_port_line_is = record { again = refl; one = search rules }

pub fingerprint_line_is : (fingerprint : Fingerprint) → IsPlainFingerprint fingerprint → IsLineOf (fingerprint_line fingerprint) (Says AnyLevel (FingerprintLine fingerprint))
unfolding item_of attribute_item fingerprint_line
fingerprint_line_is fingerprint h = record {
  again = ap (λ read. row_item AnyLevel (Refuses StrictFingerprint) (option_map FingerprintLine read)) (fingerprint_again fingerprint h);
  one = lacks-append 10 (codes "a=fingerprint:") (fingerprint_text fingerprint) (search rules) (fingerprint_lacks 10 (omega arith) fingerprint h);
}

pub candidate_line_is : (candidate : Candidate) → IsPlainCandidate candidate → IsLineOf (candidate_line candidate) (Says MediaLevel (CandidateLine candidate))
unfolding item_of attribute_item candidate_line
candidate_line_is candidate h = record {
  again = read_skipping MediaLevel CandidateLine (candidate_form (candidate_text candidate)) candidate (candidate_again candidate h);
  one = lacks-append 10 (codes "a=candidate:") (candidate_text candidate) (search rules) (candidate_lacks 10 (omega arith) candidate h);
}

pub message_size_line_is : (size : ℕ) → size < 2 ^ 64 → IsLineOf (message_size_line size) (Says MediaLevel (MessageSizeLine size))
unfolding item_of attribute_item message_size_line
message_size_line_is size small = record {
  again = ap (λ read. row_item MediaLevel (Refuses MessageSize) (option_map MessageSizeLine read)) (number-decimal size small);
  one = lacks-append 10 (codes "a=max-message-size:") (decimal size) (search rules) (decimal_lacks 10 refl size small);
}

pub sctp_init_line_is : (chunk : List ℕ) → is_spaceless chunk ≡ true → Lacks 10 chunk → IsLineOf (sctp_init_line chunk) (Says MediaLevel (SctpInitLine chunk))
unfolding item_of attribute_item sctp_init_line
sctp_init_line_is chunk h k = record { again = read_skipping MediaLevel SctpInitLine (spaceless chunk) chunk (spaceless_again chunk h); one = lacks-append 10 (codes "a=sctp-init:") chunk (search rules) k }
