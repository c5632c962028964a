-- What is kept of a name is token bytes.
use Rattle.std.proofs.Common.{◌≡◌, ℕ, zero, suc, Bool, true, false, List, [], ◌∷◌, take, refl}
use Rattle.std.specs.List.{list_all, filter}
use Rattle.rtc_wire_text.specs.Tokens.{is_token_byte}
use Rattle.rtc_wire_text.proofs.TokenLemmas.{both}
use Rattle.rtc_peer_core.specs.Names.{kept_token_bytes}

filter_passes : (p : ℕ → Bool) (bs : List ℕ) → list_all p (filter p bs) ≡ true
filter_passes p [] = refl
filter_passes p (b ∷ bs) = by (p b) refl (filter_passes p bs)
  where
    by : (t : Bool) → p b ≡ t → list_all p (filter p bs) ≡ true → list_all p (filter p (b ∷ bs)) ≡ true
    by true e rest = rw e (rw e rest)
    by false e rest = rw e rest

take_passes : (p : ℕ → Bool) (n : ℕ) (bs : List ℕ) → list_all p bs ≡ true → list_all p (take n bs) ≡ true
take_passes p zero bs h = refl
take_passes p (suc n) [] h = refl
take_passes p (suc n) (b ∷ bs) h =
    let q = both (p b) (list_all p bs) h in
    rw q.0 (take_passes p n bs q.1)

-- what is kept of a name is token bytes
pub kept_bytes_pass : (name : List ℕ) → list_all is_token_byte (kept_token_bytes name) ≡ true
kept_bytes_pass name = take_passes is_token_byte 64 (filter is_token_byte name) (filter_passes is_token_byte name)
