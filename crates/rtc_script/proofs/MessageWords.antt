-- What the words of a message, of a text that anybody wrote and of the bytes of a datagram determine.
use Rattle.std.proofs.Common.{◌≡◌, ◌∙◌, ℕ, Bool, true, false, List, [], refl, ap, sym, cond, eqb, get_or}
use Rattle.hex.specs.Hex.{IsBytes}
use Rattle.rtc_run_history.specs.declared.step.Step.{Step}
use Rattle.rtc_run_history.specs.declared.step.Step.TheVariants.{Negotiate, AcceptOffer, AcceptAnswer, Time, Datagram, Poll, Drain}
use Rattle.rtc_run_history.specs.declared.step.Step.TheVariants.{Write, CloseChannel, Close, Rollback, ForeignOffer, ForeignAnswer, Raw}
use Rattle.rtc_script.specs.Lines.{IsAct}
use Rattle.rtc_script.specs.Words.{hex_word, message_kind_text}
use Rattle.rtc_script.proofs.LabelLemmas.{bytes_of_text, one_word}

-- whether the word at a place is that of binary messages
unfoldable pub is_binary_at : ℕ → List (List ℕ) → Bool
is_binary_at place found = eqb (get_or (get_or found place []) 0 0) 98

pub is_binary_again : (place : ℕ) (found : List (List ℕ)) (binary : Bool) → get_or found place [] ≡ message_kind_text binary → is_binary_at place found ≡ binary
unfolding is_binary_at
is_binary_again place found true is = rw is refl
is_binary_again place found false is = rw is refl

-- whether a verb begins as that of a write, of a foreign text or of a raw datagram does
pub carries : List ℕ → Bool
carries verb =
    cond (eqb (get_or verb 0 0) 119) true
    (cond (eqb (get_or verb 0 0) 102) true (cond (eqb (get_or verb 0 0) 114) (eqb (get_or verb 1 0) 97) false))

-- the place of the word of its bytes, behind such a verb
bytes_place : List ℕ → ℕ
bytes_place verb = cond (eqb (get_or verb 0 0) 119) 2 (cond (eqb (get_or verb 7 0) 111) 0 1)

-- the bytes of a step: of its message, of its text or of its datagram
unfoldable pub bytes_of : Step → List ℕ
bytes_of (Negotiate at ops apply) = []
bytes_of (AcceptOffer at offer) = []
bytes_of (AcceptAnswer at token answer) = []
bytes_of (Time at now) = []
bytes_of (Datagram at packet now) = []
bytes_of (Poll at) = []
bytes_of (Drain at) = []
bytes_of (Write at channel binary bytes) = bytes
bytes_of (CloseChannel at channel) = []
bytes_of (Close at) = []
bytes_of (Rollback at token) = []
bytes_of (ForeignOffer at text) = text
bytes_of (ForeignAnswer at token text) = text
bytes_of (Raw at bytes now) = bytes

-- the word at this place behind such a verb is that of its bytes
bytes_word : (verb : List ℕ) (rest : List (List ℕ)) (s : Step) → IsAct verb rest s → carries verb ≡ true
    → (get_or rest (bytes_place verb) [] ≡ hex_word (bytes_of s)) × IsBytes (bytes_of s)
unfolding carries bytes_place bytes_of
bytes_word verb rest (Negotiate at ops true) is carries_it = absurd (let bad : false ≡ true = rw is.0 at carries_it in cc)
bytes_word verb rest (Negotiate at ops false) is carries_it = absurd (let bad : false ≡ true = rw is.0 at carries_it in cc)
bytes_word verb rest (AcceptOffer at offer) is carries_it = absurd (let bad : false ≡ true = rw is.0 at carries_it in cc)
bytes_word verb rest (AcceptAnswer at token answer) is carries_it = absurd (let bad : false ≡ true = rw is.0 at carries_it in cc)
bytes_word verb rest (Time at now) is carries_it = absurd (let bad : false ≡ true = rw is.0 at carries_it in cc)
bytes_word verb rest (Datagram at packet now) is carries_it = absurd (let bad : false ≡ true = rw is.0 at carries_it in cc)
bytes_word verb rest (Poll at) is carries_it = absurd (let bad : false ≡ true = rw is.0 at carries_it in cc)
bytes_word verb rest (Drain at) is carries_it = absurd (let bad : false ≡ true = rw is.0 at carries_it in cc)
bytes_word verb rest (Write at channel binary bytes) is carries_it = rw is.0 (ap (λ found. get_or found 2 []) is.1.0, is.1.2)
bytes_word verb rest (CloseChannel at channel) is carries_it = absurd (let bad : false ≡ true = rw is.0 at carries_it in cc)
bytes_word verb rest (Close at) is carries_it = absurd (let bad : false ≡ true = rw is.0 at carries_it in cc)
bytes_word verb rest (Rollback at token) is carries_it = absurd (let bad : false ≡ true = rw is.0 at carries_it in cc)
bytes_word verb rest (ForeignOffer at text) is carries_it = rw is.0 (ap (λ found. get_or found 0 []) is.1.0, bytes_of_text text is.1.1)
bytes_word verb rest (ForeignAnswer at token text) is carries_it = rw is.0 (ap (λ found. get_or found 1 []) is.1.0, bytes_of_text text is.1.2)
bytes_word verb rest (Raw at bytes now) is carries_it = rw is.0 (ap (λ found. get_or found 1 []) is.1.0, is.1.2)

-- behind another verb there are no bytes
no_bytes : (verb : List ℕ) (rest : List (List ℕ)) (s : Step) → IsAct verb rest s → carries verb ≡ false → bytes_of s ≡ []
unfolding carries bytes_of
no_bytes verb rest (Negotiate at ops apply) is other = refl
no_bytes verb rest (AcceptOffer at offer) is other = refl
no_bytes verb rest (AcceptAnswer at token answer) is other = refl
no_bytes verb rest (Time at now) is other = refl
no_bytes verb rest (Datagram at packet now) is other = refl
no_bytes verb rest (Poll at) is other = refl
no_bytes verb rest (Drain at) is other = refl
no_bytes verb rest (Write at channel binary bytes) is other = absurd (let bad : true ≡ false = rw is.0 at other in cc)
no_bytes verb rest (CloseChannel at channel) is other = refl
no_bytes verb rest (Close at) is other = refl
no_bytes verb rest (Rollback at token) is other = refl
no_bytes verb rest (ForeignOffer at text) is other = absurd (let bad : true ≡ false = rw is.0 at other in cc)
no_bytes verb rest (ForeignAnswer at token text) is other = absurd (let bad : true ≡ false = rw is.0 at other in cc)
no_bytes verb rest (Raw at bytes now) is other = absurd (let bad : true ≡ false = rw is.0 at other in cc)

pub same_bytes : (carrying : Bool) (verb : List ℕ) (rest : List (List ℕ)) (a b : Step) → carries verb ≡ carrying → IsAct verb rest a → IsAct verb rest b → bytes_of a ≡ bytes_of b
same_bytes true verb rest a b e is is' =
    let one = bytes_word verb rest a is e in
    let other = bytes_word verb rest b is' e in
    one_word (bytes_of a) (bytes_of b) one.1 other.1 (sym one.0 ∙ other.0)
same_bytes false verb rest a b e is is' = no_bytes verb rest a is e ∙ sym (no_bytes verb rest b is' e)
