-- The plain association reads identifiers by their names.
use Rattle.std.proofs.Common.{◌≡◌, ◌==◌, cond, ℕ, Bool, true, false, List, Option, Some, None, refl, sym, ap, ◌∙◌}
use Rattle.std.proofs.lemmas.Bool.{eqb-true}
use Rattle.rtc_parts.specs.declared.ppi.Ppi.{Ppi}
use Rattle.rtc_parts.specs.declared.ppi.Ppi.TheVariants as ppi
use Rattle.rtc_parts.specs.Ppi.{ppi_number, ppi_of}
use Rattle.rtc_assoc_state.specs.declared.message.Message.{Message}
use Rattle.rtc_assoc_state.specs.Calls.{next_message}
use Rattle.rtc_assoc_state.specs.Contents.{Contents}
use Rattle.rtc_assoc_state.specs.PlainMeaning.{plain_meaning, Reads}
use Rattle.rtc_sctp_laws.specs.StreamMessages.{IsNamedPpi, NamesReadings}

-- the identifier of a number has this number
number_of_ppi : (n : ℕ) → ppi_number (ppi_of n) ≡ n
number_of_ppi n =
    first ppi.Dcep _ (n == 50) refl
    (first ppi.Text _ (n == 51) refl
    (first ppi.Binary _ (n == 53) refl (first ppi.EmptyText _ (n == 56) refl (first ppi.EmptyBinary (ppi.Other n) (n == 57) refl refl))))
  where
    first : (k i : Ppi) (b : Bool) → (n == ppi_number k) ≡ b → ppi_number i ≡ n → ppi_number (cond b k i) ≡ n
    first k i true e rest = sym (eqb-true n (ppi_number k) e)
    first k i false e rest = rest

named_of : (n : ℕ) → IsNamedPpi (ppi_of n)
named_of n = ap ppi_of (number_of_ppi n)

shown_named : (o : Option Message) (id : ℕ) (p : Contents) (i : Ppi) (bytes : List ℕ) (q : Contents) → Reads o id p (Some (i, bytes)) q → IsNamedPpi i
shown_named None id p i bytes q h = absurd h
shown_named (Some message) id p i bytes q h =
    let is : i ≡ ppi_of message.identifier = ap (λ (x : Ppi × List ℕ). x.0) h.0 in
    ap (λ (x : Ppi). ppi_of (ppi_number x)) is ∙ named_of message.identifier ∙ sym is

pub plain_named : NamesReadings plain_meaning
plain_named a b id i bytes h = shown_named (next_message id a) id a i bytes b h.1
