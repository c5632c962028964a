-- Forms of values (RFC 8866, section 9): a form reads bytes, and gives what they say, or None if they are malformed.
use Rattle.std.specs.Prelude.{ℕ, ◌==◌, Bool, not, ◌&&◌, is_none, nat_lt, nat_le, List, [], ◌∷◌, length, Option, Some, None}
use Rattle.std.specs.Prelude.{option_map, if◌then◌else◌}
use Rattle.std.specs.List.{list_all}
use Rattle.std.specs.Str.{bytes_eq}
use Rattle.rtc_wire_text.specs.Cuts.{cut}
use Rattle.rtc_wire_text.specs.Fields.{each}
use Rattle.rtc_wire_text.specs.LetterCase.{lower}
use Rattle.rtc_wire_text.specs.Numbers.{number_up_to}
use Rattle.rtc_wire_text.specs.Tokens.{is_token, is_short_token}
use Rattle.rtc_wire_text.specs.Words.{parts}

abbrev pub Form : Type 0 → Type 0
Form A = List ℕ → Option A

-- ---- the bytes that part fields
abbrev pub SPACE : ℕ
SPACE = 32

abbrev pub COMMA : ℕ
COMMA = 44

abbrev pub DOT : ℕ
DOT = 46

abbrev pub SLASH : ℕ
SLASH = 47

abbrev pub COLON : ℕ
COLON = 58

abbrev pub SEMICOLON : ℕ
SEMICOLON = 59

abbrev pub EQUALS : ℕ
EQUALS = 61

abbrev pub TILDE : ℕ
TILDE = 126

-- ---- one field
-- all bytes that pass a test
abbrev pub passing : (List ℕ → Bool) → Form (List ℕ)
passing test value = if test value then Some value else None

-- a token of any length, and one of 1 to 32 bytes
abbrev pub token : Form (List ℕ)
token = passing is_token

abbrev pub short_token : Form (List ℕ)
short_token = passing is_short_token

-- at least one byte
abbrev pub is_filled : List ℕ → Bool
is_filled text = nat_lt 0 (length text)

abbrev pub filled : Form (List ℕ)
filled = passing is_filled

-- no space among them
abbrev pub is_spaceless : List ℕ → Bool
is_spaceless text = list_all (λ byte. not (byte == SPACE)) text

abbrev pub spaceless : Form (List ℕ)
spaceless = passing is_spaceless

-- 1 to `most` bytes, none of them a space
abbrev pub is_word_up_to : ℕ → List ℕ → Bool
is_word_up_to most text = is_filled text && nat_le (length text) most && is_spaceless text

abbrev pub word_up_to : ℕ → Form (List ℕ)
word_up_to most = passing (is_word_up_to most)

-- any bytes but this one
abbrev pub bytes_but : ℕ → Form (List ℕ)
bytes_but byte = passing (λ text. is_none (cut byte text))

-- one of these words, each with what it says
abbrev pub one_of : {A : Type 0} → List (List ℕ × A) → Form A
one_of [] value = None
one_of (choice ∷ rest) value = if bytes_eq value choice.0 then Some choice.1 else one_of rest value

-- a number from 1 on
abbrev pub above_zero : Option ℕ → Option ℕ
above_zero None = None
above_zero (Some n) = if nat_lt 0 n then Some n else None

abbrev pub positive_up_to : ℕ → Form ℕ
positive_up_to most value = above_zero (number_up_to most value)

-- ---- a form changed
-- what is said, made from what the form gives
abbrev pub saying : {A B : Type 0} → (A → B) → Form A → Form B
saying says form value = option_map says (form value)

-- letters of either case
abbrev pub in_lower : {A : Type 0} → Form A → Form A
in_lower form value = form (lower value)

-- ---- fields round a byte
abbrev pub fields_together : {A B : Type 0} → Option A → Option B → Option (A × B)
fields_together None b = None
fields_together (Some a) b = option_map (λ b. (a, b)) b

abbrev pub halves_together : {A B : Type 0} → Form A → Form B → Option (List ℕ × List ℕ) → Option (A × B)
halves_together front back None = None
halves_together front back (Some halves) = fields_together (front halves.0) (back halves.1)

-- one form in front of the first such byte, another behind it
abbrev pub split_fields : {A B : Type 0} → ℕ → Form A → Form B → Form (A × B)
split_fields byte front back value = halves_together front back (cut byte value)

abbrev pub behind_label : {A : Type 0} → List ℕ → Form A → Option (List ℕ × List ℕ) → Option A
behind_label label form None = None
behind_label label form (Some halves) = if bytes_eq halves.0 label then form halves.1 else None

-- this word in front of the first such byte, a form behind it
abbrev pub labelled : {A : Type 0} → List ℕ → ℕ → Form A → Form A
labelled label byte form value = behind_label label form (cut byte value)

abbrev pub with_default : {A B : Type 0} → Form A → B → Form B → List ℕ → Option (List ℕ × List ℕ) → Option (A × B)
with_default front default back value None = fields_together (front value) (Some default)
with_default front default back value (Some halves) = fields_together (front halves.0) (back halves.1)

-- one form, and maybe such a byte and another form behind it; a default replaces what is missing
abbrev pub tailed : {A B : Type 0} → ℕ → Form A → B → Form B → Form (A × B)
tailed byte front default back value = with_default front default back value (cut byte value)

abbrev pub front_of : List ℕ → Option (List ℕ × List ℕ) → List ℕ
front_of value None = value
front_of value (Some halves) = halves.0

-- a form of what is in front of the first such byte, or else of all; the rest does not count
abbrev pub up_to : {A : Type 0} → ℕ → Form A → Form A
up_to byte form value = form (front_of value (cut byte value))

-- each of the fields that such bytes part
abbrev pub each_part : {A : Type 0} → ℕ → Form A → Form (List A)
each_part byte form value = each form (parts byte value)

-- ---- with or without a value
-- a=NAME:VALUE, of which the value has this form
abbrev pub valued : {A : Type 0} → Form A → Option (List ℕ) → Option A
valued form None = None
valued form (Some value) = form value

-- a=NAME, which says this
abbrev pub bare : {A : Type 0} → A → Option (List ℕ) → Option A
bare says None = Some says
bare says (Some value) = None
