-- Header extensions by the numbers of a session: where the numbers come from, that none is repeated, and that each keeps its meaning.
use Rattle.std.proofs.Common.{◌≡◌, ◌≤◌, ◌⊎◌, ◌&&◌, ◌||◌, ◌==◌, ℕ, Bool, true, false, not, cond, List, [], ◌∷◌, ◌++◌, Option, Some, None, inl, inr, refl, sym, ap, subst, ◌∙◌, rules}
use Rattle.std.specs.Prelude.{if◌then◌else◌}
use Rattle.std.specs.List.{AllByRecursion}
use Rattle.std.specs.Option.{option_or}
use Rattle.std.proofs.lemmas.Bool.Decides.{Decides-eqb}
use Rattle.std.proofs.lemmas.List.{append_assoc}
use Rattle.std.proofs.lemmas.Slice.Eq.{bytes_eq-Decides}
use Rattle.rtc_wire_text.specs.Fields.{first}
use Rattle.rtc_wire_text.specs.Once.{IsApart}
use Rattle.rtc_wire_text.proofs.TokenLemmas.{both}
use Rattle.rtc_parts.specs.Among.{Member}
use Rattle.rtc_parts.proofs.AmongLemmas.{member-append}
use Rattle.rtc_sdp_values.specs.Extension.{uri_of, of_uri, same_extension}
use Rattle.rtc_sdp_values.specs.declared.extension.Extension.{Extension}
use Rattle.rtc_sdp_values.proofs.ExtensionLemmas.{of_uri-uri_of}
use Rattle.rtc_sdp_codecs.specs.FormedCodecs.{IsFormedExtension, AreFormedExtensions}
use Rattle.rtc_peer_core.specs.SessionExtensions.{
  has_number_of,
  HaveNumbersApart,
  HaveOneMeaning,
  is_number_taken,
  session_id,
  short_ids,
  free_id,
  number_for,
  has_extension,
  with_number,
  with_extension,
  numbered_extensions,
}
use Rattle.rtc_peer_core.proofs.Alls.{all-append}

-- ---- tests
neither : (a b : Bool) → (a || b) ≡ false → (a ≡ false) × (b ≡ false)
neither true b h = let bad : true ≡ false = h in cc
neither false b h = (refl, h)

not_so : (b : Bool) → not b ≡ true → b ≡ false
not_so true h = let bad : false ≡ true = h in cc
not_so false h = refl

-- two extensions with one URI are one
pub same_is : (a b : Extension) → same_extension a b ≡ true → a ≡ b
same_is a b h =
    let uri : uri_of a ≡ uri_of b = (bytes_eq-Decides (uri_of a) (uri_of b)).0 h in
    let named : Some a ≡ Some b = sym (of_uri-uri_of a) ∙ ap of_uri uri ∙ of_uri-uri_of b in
    cc

-- ---- the first of rows that pass a test
record Picked {A B : Type 0} (test : A → Bool) (gives : A → B) (xs : List A) (b : B) : Type 0 where
  pub one : A
  pub among : Member one xs
  pub passes : test one ≡ true
  pub is : gives one ≡ b

picked : {A B : Type 0} (test : A → Bool) (gives : A → B) (xs : List A) (b : B)
    → first (λ x. if test x then Some (gives x) else None) xs ≡ Some b → Picked test gives xs b
picked test gives [] b h = let bad : None ≡ Some b = h in cc
picked {A} {B} test gives (x ∷ xs) b h = by (test x) refl h (λ rest. picked test gives xs b rest)
  where
    by : (t : Bool) → test x ≡ t
        → option_or (cond t (Some (gives x)) None) (first (λ y. if test y then Some (gives y) else None) xs) ≡ Some b
        → (first (λ y. if test y then Some (gives y) else None) xs ≡ Some b → Picked test gives xs b) → Picked test gives (x ∷ xs) b
    by true e h rest = let is : Some (gives x) ≡ Some b = h in record { one = x; among = inl refl; passes = e; is = cc }
    by false e h rest = let found = rest h in record { one = found.one; among = inr found.among; passes = found.passes; is = found.is }

-- ---- where a number comes from: the session has it for this very extension, or nobody has it; no row that was made has it
data Origin (used made : List (ℕ × Extension)) (row : ℕ × Extension) (id : ℕ) : Type 0 where
  OfSession : (theirs : ℕ × Extension) → Member theirs used → theirs.1 ≡ row.1 → theirs.0 ≡ id → is_number_taken made id ≡ false
      → Origin used made row id
  Free : Member id (row.0 ∷ short_ids) → is_number_taken used id ≡ false → is_number_taken made id ≡ false → Origin used made row id

origin : (used made : List (ℕ × Extension)) (row : ℕ × Extension) (id : ℕ) → number_for used made row ≡ Some id → Origin used made row id
origin used made row id h = by (session_id used made row.1) refl h
  where
    by : (o : Option ℕ) → session_id used made row.1 ≡ o → option_or o (free_id used made (row.0 ∷ short_ids)) ≡ Some id
        → Origin used made row id
    by (Some n) e h =
        let found = picked (λ (theirs : ℕ × Extension). same_extension theirs.1 row.1 && not (is_number_taken made theirs.0)) (λ theirs. theirs.0) used n e in
        let passes = both (same_extension found.one.1 row.1) (not (is_number_taken made found.one.0)) found.passes in
        let same : Some n ≡ Some id = h in
        let at : found.one.0 ≡ id = found.is ∙ (let it : n ≡ id = cc in it) in
        OfSession found.one found.among (same_is found.one.1 row.1 passes.0) at
        (subst (λ (m : ℕ). is_number_taken made m ≡ false) at (not_so (is_number_taken made found.one.0) passes.1))
    by None e h =
        let found = picked (λ (n : ℕ). not (is_number_taken used n) && not (is_number_taken made n)) (λ n. n) (row.0 ∷ short_ids) id h in
        let passes = both (not (is_number_taken used found.one)) (not (is_number_taken made found.one)) found.passes in
        Free (subst (λ (m : ℕ). Member m (row.0 ∷ short_ids)) found.is found.among)
        (subst (λ (m : ℕ). is_number_taken used m ≡ false) found.is (not_so (is_number_taken used found.one) passes.0))
        (subst (λ (m : ℕ). is_number_taken made m ≡ false) found.is (not_so (is_number_taken made found.one) passes.1))

untaken : (used made : List (ℕ × Extension)) (row : ℕ × Extension) (id : ℕ) → Origin used made row id → is_number_taken made id ≡ false
untaken used made row id (OfSession theirs among same at free) = free
untaken used made row id (Free among apart free) = free

-- ---- formed rows
all_member : {A : Type 0} (P : A → Type 0) (xs : List A) → AllByRecursion P xs → (x : A) → Member x xs → P x
all_member P [] all x m = absurd m
all_member P (y ∷ ys) all x (inl e) = subst P (sym e) all.0
all_member P (y ∷ ys) all x (inr m) = all_member P ys all.1 x m

abbrev IsByte : ℕ → Type 0
IsByte id = (1 ≤ id) × (id ≤ 255)

short_formed : AllByRecursion IsByte short_ids
short_formed = search rules

number_formed : (used made : List (ℕ × Extension)) (row : ℕ × Extension) (id : ℕ) → AreFormedExtensions used → IsFormedExtension row
    → Origin used made row id → IsByte id
number_formed used made row id theirs own (OfSession from among same at free) =
    subst IsByte at (all_member IsFormedExtension used theirs from among)
number_formed used made row id theirs own (Free among apart free) = all_member IsByte (row.0 ∷ short_ids) (own, short_formed) id among

-- ---- one more row
module _ (P : List (ℕ × Extension) → Type 0) (used made : List (ℕ × Extension)) (row : ℕ × Extension)
    (more : (id : ℕ) → Origin used made row id → P (made ++ (id, row.1) ∷ [])) where
  with_number_keeps : P made → (o : Option ℕ) → number_for used made row ≡ o → P (with_number made row.1 o)
  with_number_keeps held None e = held
  with_number_keeps held (Some id) e = more id (origin used made row id e)

  with_extension_keeps : P made → P (with_extension used made row)
  with_extension_keeps held = by (has_extension made row.1) (with_number_keeps held (number_for used made row) refl)
    where
      by : (b : Bool) → P (with_number made row.1 (number_for used made row)) → P (cond b made (with_number made row.1 (number_for used made row)))
      by true put = held
      by false put = put

pub numbered_formed : (used made rows : List (ℕ × Extension)) → AreFormedExtensions used → AreFormedExtensions made → AreFormedExtensions rows
    → AreFormedExtensions (numbered_extensions used made rows)
numbered_formed used made [] theirs held own = held
numbered_formed used made (row ∷ rows) theirs held own =
    numbered_formed used (with_extension used made row) rows theirs
    (with_extension_keeps AreFormedExtensions used made row
    (λ id from. all-append IsFormedExtension made ((id, row.1) ∷ []) held (number_formed used made row id theirs own.0 from, tt)) held) own.1

-- ---- no number is repeated
apart_pushed : {A : Type 0} (same : A → A → Bool) (xs : List A) (y : A) → IsApart same xs → AllByRecursion (λ x. same y x ≡ false) xs
    → IsApart same (xs ++ y ∷ [])
apart_pushed same [] y h new = (tt, tt)
apart_pushed same (x ∷ xs) y h new =
    (all-append (λ z. same z x ≡ false) xs (y ∷ []) h.0 (new.0, tt), apart_pushed same xs y h.1 new.1)

others_of : (rows : List (ℕ × Extension)) (id : ℕ) → is_number_taken rows id ≡ false → AllByRecursion (λ row. (row.0 == id) ≡ false) rows
others_of [] id h = tt
others_of (row ∷ rows) id h =
    let parts = neither (row.0 == id) (is_number_taken rows id) h in
    (parts.0, others_of rows id parts.1)

pub numbered_apart : (used made rows : List (ℕ × Extension)) → HaveNumbersApart made → HaveNumbersApart (numbered_extensions used made rows)
numbered_apart used made [] held = held
numbered_apart used made (row ∷ rows) held =
    numbered_apart used (with_extension used made row) rows
    (with_extension_keeps HaveNumbersApart used made row
    (λ id from. apart_pushed has_number_of made (id, row.1) held (others_of made id (untaken used made row id from))) held)

-- ---- each number keeps its meaning
not_among : (rows : List (ℕ × Extension)) (id : ℕ) → is_number_taken rows id ≡ false → (x : ℕ × Extension) → Member x rows → x.0 ≡ id → ⊥
not_among rows id free x among at =
    let other : (x.0 == id) ≡ false = all_member (λ (row : ℕ × Extension). (row.0 == id) ≡ false) rows (others_of rows id free) x among in
    let one : (x.0 == id) ≡ true = (Decides-eqb x.0 id).1 at in
    let bad : true ≡ false = sym one ∙ other in
    cc

-- what the new row has to agree with
abbrev AgreesWith : List (ℕ × Extension) → ℕ × Extension → Type 0
AgreesWith rows new = (x : ℕ × Extension) → Member x rows → x.0 ≡ new.0 → x.1 ≡ new.1

at_new : {P : Type 0} (new x : ℕ × Extension) → Member x (new ∷ []) → (x ≡ new → P) → P
at_new new x (inl e) gives = gives e
at_new new x (inr m) gives = absurd m

meaning_pushed : (rows : List (ℕ × Extension)) (new : ℕ × Extension) → HaveOneMeaning rows → AgreesWith rows new
    → HaveOneMeaning (rows ++ new ∷ [])
meaning_pushed rows new held agrees x y mx my at = by (member-append x rows (new ∷ []) mx) (member-append y rows (new ∷ []) my)
  where
    by : Member x rows ⊎ Member x (new ∷ []) → Member y rows ⊎ Member y (new ∷ []) → x.1 ≡ y.1
    by (inl a) (inl b) = held x y a b at
    by (inl a) (inr b) = at_new new y b (λ is. agrees x a (at ∙ ap (λ (row : ℕ × Extension). row.0) is) ∙ sym (ap (λ (row : ℕ × Extension). row.1) is))
    by (inr a) (inl b) = at_new new x a (λ is. ap (λ (row : ℕ × Extension). row.1) is ∙ sym (agrees y b (sym at ∙ ap (λ (row : ℕ × Extension). row.0) is)))
    by (inr a) (inr b) = at_new new x a (λ is. at_new new y b (λ other. ap (λ (row : ℕ × Extension). row.1) (is ∙ sym other)))

agrees_joined : (used made : List (ℕ × Extension)) (new : ℕ × Extension) → AgreesWith used new → AgreesWith made new → AgreesWith (used ++ made) new
agrees_joined used made new a b x among at = elim (member-append x used made among) [ inl m ↦ a x m at | inr m ↦ b x m at ]

agrees_used : (used made : List (ℕ × Extension)) (row : ℕ × Extension) (id : ℕ) → HaveOneMeaning used → Origin used made row id
    → AgreesWith used (id, row.1)
agrees_used used made row id held (OfSession theirs m same at free) x among is = held x theirs among m (is ∙ sym at) ∙ same
agrees_used used made row id held (Free m apart free) x among is = absurd (not_among used id apart x among is)

pub numbered_meaning : (used made rows : List (ℕ × Extension)) → HaveOneMeaning used → HaveOneMeaning (used ++ made)
    → HaveOneMeaning (used ++ numbered_extensions used made rows)
numbered_meaning used made [] theirs held = held
numbered_meaning used made (row ∷ rows) theirs held =
    numbered_meaning used (with_extension used made row) rows theirs
    (with_extension_keeps (λ (rows : List (ℕ × Extension)). HaveOneMeaning (used ++ rows)) used made row
    (λ id from. subst HaveOneMeaning (append_assoc used made ((id, row.1) ∷ []))
    (meaning_pushed (used ++ made) (id, row.1) held
    (agrees_joined used made (id, row.1) (agrees_used used made row id theirs from)
    (λ x among at. absurd (not_among made id (untaken used made row id from) x among at))))) held)

-- rows among rows of one meaning
pub meaning_among : (rows more : List (ℕ × Extension)) → HaveOneMeaning more → ((x : ℕ × Extension) → Member x rows → Member x more) → HaveOneMeaning rows
meaning_among rows more held among x y mx my at = held x y (among x mx) (among y my) at
