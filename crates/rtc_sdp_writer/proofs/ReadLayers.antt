-- What lists of layers give.
use Rattle.std.proofs.Common.{◌≡◌, ◌≢◌, ℕ, Bool, true, false, not, cond, List, [], ◌∷◌, ◌++◌, Option, Some, None, refl, inl, inr}
use Rattle.std.specs.Prelude.{filter, IfSome}
use Rattle.std.specs.List.{AllByRecursion}
use Rattle.std.specs.Str.{bytes_eq}
use Rattle.std.proofs.lemmas.Bool.Decides.{eqb_tells}
use Rattle.rtc_wire_text.specs.Cuts.{cut}
use Rattle.rtc_wire_text.specs.Fields.{each}
use Rattle.rtc_wire_text.specs.Fronts.{from_first, is_byte}
use Rattle.rtc_wire_text.specs.Once.{each_once, IsApart}
use Rattle.rtc_wire_text.specs.Tokens.{is_short_token}
use Rattle.rtc_wire_text.specs.Words.{parts, words}
use Rattle.rtc_sdp_attributes.specs.declared.rid_direction.RidDirection.{RidDirection}
use Rattle.rtc_sdp_attributes.specs.declared.rid_direction.RidDirection.TheVariants.{Send, Recv}
use Rattle.rtc_sdp_attributes.specs.declared.simulcast_line.SimulcastLine.{SimulcastLine}
use Rattle.rtc_sdp_attributes.specs.AttributeForms.{rid_direction_words, layer_name, layer_names, one_way, both_ways, simulcast, simulcast_words}
use Rattle.rtc_sdp_attributes.specs.Forms.{short_token, one_of, front_of, each_part}
use Rattle.rtc_sdp_attributes.specs.PlainValues.{IsPlainList, is_listed}
use Rattle.rtc_sdp_writer.proofs.Lacking.{IsFilled, parts_filled}
use Rattle.rtc_sdp_writer.proofs.ReadForms.{Gives, if_some, each_gives, each_filled, all_units}

listed_front : (text : List ℕ) → is_short_token (from_first (is_byte 126) text) ≡ true → is_listed (from_first (is_byte 126) text) ≡ true
listed_front [] h = absurd cc
listed_front (x ∷ xs) h = elim (eqb_tells x 126) [
  | inl (t, e) ↦ let h' : is_short_token (from_first (is_byte 126) xs) ≡ true = rw t at h in rw t (listed_front xs h')
  | inr (f, _) ↦ let h' : is_short_token (x ∷ xs) ≡ true = rw f at h in rw (f, f) h'
]

name_listed : (text : List ℕ) → Unit {0} → IfSome (layer_name text) (λ name. is_listed name ≡ true)
name_listed text u = by (from_first (is_byte 126) (front_of text (cut 44 text))) (listed_front (front_of text (cut 44 text)))
  where
    by : (name : List ℕ) → (is_short_token name ≡ true → is_listed name ≡ true) → IfSome (short_token name) (λ given. is_listed given ≡ true)
    by name listed = on (is_short_token name) refl
      where
        on : (b : Bool) → is_short_token name ≡ b → IfSome (cond b (Some name) None) (λ given. is_listed given ≡ true)
        on true is = listed is
        on false is = tt

others_all : {A : Type 0} (P : A → Type 0) (test : A → Bool) (xs : List A) → AllByRecursion P xs → AllByRecursion P (filter test xs)
others_all P test [] h = tt
others_all P test (x ∷ xs) h = by (others_all P test xs h.1) (test x)
  where
    by : AllByRecursion P (filter test xs) → (b : Bool) → AllByRecursion P (cond b (x ∷ filter test xs) (filter test xs))
    by rest true = (h.0, rest)
    by rest false = rest

pub once_all : {A : Type 0} (same : A → A → Bool) (P : A → Type 0) (xs : List A) → AllByRecursion P xs → AllByRecursion P (each_once same xs)
once_all same P [] h = tt
once_all same P (x ∷ xs) h = (h.0, others_all P (λ y. not (same y x)) (each_once same xs) (once_all same P xs h.1))

others_differ : {A : Type 0} (same : A → A → Bool) (x : A) (xs : List A) → AllByRecursion (λ y. same y x ≡ false) (filter (λ y. not (same y x)) xs)
others_differ same x [] = tt
others_differ same x (y ∷ ys) = by (others_differ same x ys) (same y x) refl
  where
    by : AllByRecursion (λ z. same z x ≡ false) (filter (λ z. not (same z x)) ys) → (b : Bool) → same y x ≡ b
        → AllByRecursion (λ z. same z x ≡ false) (cond (not b) (y ∷ filter (λ z. not (same z x)) ys) (filter (λ z. not (same z x)) ys))
    by rest true is = rest
    by rest false is = (is, rest)

others_apart : {A : Type 0} (same : A → A → Bool) (test : A → Bool) (xs : List A) → IsApart same xs → IsApart same (filter test xs)
others_apart same test [] h = tt
others_apart same test (x ∷ xs) h = by (others_apart same test xs h.1) (test x)
  where
    by : IsApart same (filter test xs) → (b : Bool) → IsApart same (cond b (x ∷ filter test xs) (filter test xs))
    by rest true = (others_all (λ y. same y x ≡ false) test xs h.0, rest)
    by rest false = rest

-- none stands twice in a list of each once
pub once_apart : {A : Type 0} (same : A → A → Bool) (xs : List A) → IsApart same (each_once same xs)
once_apart same [] = tt
once_apart same (x ∷ xs) = (others_differ same x (each_once same xs), others_apart same (λ y. not (same y x)) (each_once same xs) (once_apart same xs))

abbrev pub IsReadList : List (List ℕ) → Type 0
IsReadList rids = IsPlainList rids × IsFilled rids

once_read : (rids : List (List ℕ)) → (AllByRecursion (λ name. is_listed name ≡ true) rids × IsFilled rids) → IsReadList (each_once bytes_eq rids)
once_read [] h = absurd h.1
once_read (x ∷ xs) h = (
  record {
    listed = once_all bytes_eq (λ name. is_listed name ≡ true) (x ∷ xs) h.0;
    apart = once_apart bytes_eq (x ∷ xs);
  },
  tt,
)

names_read : (text : List ℕ) → IfSome (layer_names text) IsReadList
names_read text =
    if_some (each_once bytes_eq) (λ rids. AllByRecursion (λ name. is_listed name ≡ true) rids × IsFilled rids) IsReadList once_read (each_part 59 layer_name text)
    (both (each layer_name (parts 59 text)) (each_gives layer_name (λ w. Unit {0}) (λ name. is_listed name ≡ true) name_listed (parts 59 text) (all_units (parts 59 text)))
    (each_filled layer_name (parts 59 text) (parts_filled 59 text)))
  where
    both : (found : Option (List (List ℕ))) → IfSome found (AllByRecursion (λ name. is_listed name ≡ true)) → IfSome found (λ given. IsFilled given)
        → IfSome found (λ rids. AllByRecursion (λ name. is_listed name ≡ true) rids × IsFilled rids)
    both None p q = tt
    both (Some rids) p q = (p, q)

no_names : IsPlainList []
no_names = record { listed = tt; apart = tt }

-- names of layers that stand as themselves, each once in its direction, and one at least
pub record IsReadLayers (line : SimulcastLine) : Type 0 where
  pub send : IsPlainList line.send
  pub recv : IsPlainList line.recv
  pub some : line.send ++ line.recv ≢ []

filled_front : (xs ys : List (List ℕ)) → IsFilled xs → xs ++ ys ≢ []
filled_front [] ys h = absurd h
filled_front (x ∷ xs) ys h = λ e. absurd cc

one_way_read : (direction : Option RidDirection) (names : Option (List (List ℕ))) → IfSome names IsReadList → IfSome (one_way direction names) IsReadLayers
one_way_read None names h = tt
one_way_read (Some Send) None h = tt
one_way_read (Some Recv) None h = tt
one_way_read (Some Send) (Some rids) h = record { send = h.0; recv = no_names; some = filled_front rids [] h.1 }
one_way_read (Some Recv) (Some rids) h = record { send = no_names; recv = h.0; some = filled_front_alone rids h.1 }
  where
    filled_front_alone : (xs : List (List ℕ)) → IsFilled xs → xs ≢ []
    filled_front_alone [] h = absurd h
    filled_front_alone (x ∷ xs) h = λ e. absurd cc

both_ways_read : (a : Option RidDirection) (first : Option (List (List ℕ))) (b : Option RidDirection) (second : Option (List (List ℕ)))
    → IfSome first IsReadList → IfSome second IsReadList → IfSome (both_ways a first b second) IsReadLayers
both_ways_read None first b second p q = tt
both_ways_read (Some Send) None b second p q = tt
both_ways_read (Some Recv) None b second p q = tt
both_ways_read (Some Send) (Some xs) None second p q = tt
both_ways_read (Some Recv) (Some xs) None second p q = tt
both_ways_read (Some Send) (Some xs) (Some Send) second p q = tt
both_ways_read (Some Recv) (Some xs) (Some Recv) second p q = tt
both_ways_read (Some Send) (Some xs) (Some Recv) None p q = tt
both_ways_read (Some Recv) (Some xs) (Some Send) None p q = tt
both_ways_read (Some Send) (Some xs) (Some Recv) (Some ys) p q = record { send = p.0; recv = q.0; some = filled_front xs ys p.1 }
both_ways_read (Some Recv) (Some xs) (Some Send) (Some ys) p q = record { send = q.0; recv = p.0; some = filled_front ys xs q.1 }

pub layer_lists_read : Gives simulcast IsReadLayers
layer_lists_read text lacks = by (words text)
  where
    by : (fields : List (List ℕ)) → IfSome (simulcast_words fields) IsReadLayers
    by [] = tt
    by (a ∷ []) = tt
    by (a ∷ b ∷ []) = one_way_read (one_of rid_direction_words a) (layer_names b) (names_read b)
    by (a ∷ b ∷ c ∷ []) = tt
    by (a ∷ b ∷ c ∷ d ∷ []) =
        both_ways_read (one_of rid_direction_words a) (layer_names b) (one_of rid_direction_words c) (layer_names d) (names_read b) (names_read d)
    by (a ∷ b ∷ c ∷ d ∷ e ∷ more) = tt
