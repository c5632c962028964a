-- What the forms give of texts that are put together as they part them.
use Rattle.std.proofs.Common.{◌≡◌, ℕ, true, List, ◌∷◌, ◌++◌, Option, Some, refl, ap, ◌∙◌, Bool}
use Rattle.rtc_wire_text.specs.Cuts.{Lacks}
use Rattle.rtc_wire_text.proofs.CutLemmas.{cut-append, cut_none}
use Rattle.rtc_sdp_attributes.specs.Forms.{Form, passing, fields_together, halves_together, split_fields, with_default, tailed, up_to, front_of}

pub passing_again : (test : List ℕ → Bool) (text : List ℕ) → test text ≡ true → passing test text ≡ Some text
passing_again test text h = rw h refl

both_some : {A B : Type 0} (x : Option A) (y : Option B) (a : A) (b : B) → x ≡ Some a → y ≡ Some b → fields_together x y ≡ Some (a, b)
both_some x y a b h k = rw (h, k) refl

pub parted_again : {A B : Type 0} (byte : ℕ) (front : Form A) (back : Form B) (before behind : List ℕ) (a : A) (b : B)
    → Lacks byte before → front before ≡ Some a → back behind ≡ Some b → split_fields byte front back (before ++ (byte ∷ behind)) ≡ Some (a, b)
parted_again byte front back before behind a b lacks h k =
    ap (halves_together front back) (cut-append byte before behind lacks) ∙ both_some (front before) (back behind) a b h k

pub tailed_bare : {A B : Type 0} (byte : ℕ) (front : Form A) (default : B) (back : Form B) (text : List ℕ) (a : A)
    → Lacks byte text → front text ≡ Some a → tailed byte front default back text ≡ Some (a, default)
tailed_bare byte front default back text a lacks h =
    ap (with_default front default back text) (cut_none byte text lacks) ∙ both_some (front text) (Some default) a default h refl

pub tailed_again : {A B : Type 0} (byte : ℕ) (front : Form A) (default : B) (back : Form B) (before behind : List ℕ) (a : A) (b : B)
    → Lacks byte before → front before ≡ Some a → back behind ≡ Some b → tailed byte front default back (before ++ (byte ∷ behind)) ≡ Some (a, b)
tailed_again byte front default back before behind a b lacks h k =
    ap (with_default front default back (before ++ (byte ∷ behind))) (cut-append byte before behind lacks) ∙ both_some (front before) (back behind) a b h k

pub up_to_again : {A : Type 0} (byte : ℕ) (form : Form A) (text : List ℕ) → Lacks byte text → up_to byte form text ≡ form text
up_to_again byte form text lacks = ap (λ (halves : Option (List ℕ × List ℕ)). form (front_of text halves)) (cut_none byte text lacks)
