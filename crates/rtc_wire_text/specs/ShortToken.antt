-- How a short token lies in its array: its bytes, then zeros.
use Rattle.std.specs.Prelude.{◌≡◌, ℕ, ◌≤◌, ◌-◌, ◌++◌, List, length, take, replicate, true}
use Rattle.std.proofs.Common.{sym, ap, ◌∙◌}
use Rattle.rtc_wire_text.specs.Tokens.{is_short_token}
use Rattle.rtc_wire_text.specs.declared.short_token.ShortToken.TheInside.{Inside}

abbrev pub token_of : Inside → List ℕ
token_of inside = take inside.len inside.bytes

-- a token, and zeros behind it
abbrev pub padded : List ℕ → ℕ → List ℕ
padded token len = token ++ replicate (32 - len) 0

pub record IsPadded (inside : Inside) : Type 0 where
  pub most : inside.len ≤ 32
  pub count : length (token_of inside) ≡ inside.len
  pub zeros : inside.bytes ≡ padded (token_of inside) inside.len
  pub token : is_short_token (token_of inside) ≡ true

abbrev pub fields_of : List ℕ → Inside
fields_of token = record { len = length token; bytes = padded token (length token) }

pub fields_again : (inside : Inside) → IsPadded inside → fields_of (token_of inside) ≡ inside
fields_again inside h =
    let made : ℕ → List ℕ → Inside = λ n b. record { len = n; bytes = b } in
    ap (λ (n : ℕ). made n (padded (token_of inside) n)) h.count ∙ ap (made inside.len) (sym h.zeros)
