-- The names of the lines in front, as a map keeps them.
use Rattle.std.proofs.Common.{◌≡◌, ◌<◌, ℕ, ◌+◌, Bool, true, false, ◌||◌, cond, List, [], ◌∷◌, ◌++◌, length, take, get_or, Option, Some, None, refl, sym, ap, ◌∙◌}
use Rattle.std.specs.Prelude.{option_map, is_some}
use Rattle.std.specs.List.{list_any}
use Rattle.std.specs.Str.{bytes_eq}
use Rattle.std.specs.Map.{update}
use denote.Ref.{Bor}
use Rattle.std.specs.BTreeMap as tree
use Rattle.std.specs.BTreeMap.{BTreeMap}
use Rattle.std.specs.Cmp.Lexicographic.{slice_cmp}
use Rattle.std.specs.Ordering.{nat_cmp}
use Rattle.std.proofs.lemmas.Map.Text.{btree_map_updates_str}
use Rattle.std.proofs.lemmas.Slice.Eq.{bytes_eq-Decides}
use Rattle.std.proofs.lemmas.List.{take_more}
use Rattle.rtc_sdp_values.specs.declared.media_line.MediaLine.{MediaLine}
use Rattle.rtc_sdp_values.specs.declared.msid.Msid.{Msid}
use Rattle.rtc_sdp_writer.specs.MediaRows.{shown_stream}
use Rattle.rtc_sdp_writer.specs.SessionRows.{is_stream, new_name}
use Rattle.rtc_sdp_writer.specs.StreamNames.{is_found, new_to}

or_false : (b : Bool) → (b || false) ≡ b
or_false true = refl
or_false false = refl

or_true : (b : Bool) → (b || true) ≡ true
or_true true = refl
or_true false = refl

-- a map has the names of the streams of these lines and no others
abbrev pub FoundIn : BTreeMap (Bor (List ℕ)) ℕ → List MediaLine → Type 0
FoundIn found front = (name : List ℕ) → is_found found name ≡ list_any (λ line. is_stream name (shown_stream line)) front

pub new_same : (found : BTreeMap (Bor (List ℕ)) ℕ) (front : List MediaLine) (msid : Option Msid) → FoundIn found front → new_to found msid ≡ new_name front msid
new_same found front None h = refl
new_same found front (Some msid) h = ap (λ (known : Bool). cond known [] (msid.stream_id ∷ [])) (h msid.stream_id)

any_more : (test : MediaLine → Bool) (front : List MediaLine) (line : MediaLine) → list_any test (front ++ line ∷ []) ≡ (list_any test front || test line)
any_more test [] line = or_false (test line)
any_more test (x ∷ front) line = go (test x) (any_more test front line)
  where
    go : (b : Bool) → list_any test (front ++ line ∷ []) ≡ (list_any test front || test line) → (b || list_any test (front ++ line ∷ [])) ≡ ((b || list_any test front) || test line)
    go true ih = refl
    go false ih = ih

-- the lines up to the next
pub found_more : (found found' : BTreeMap (Bor (List ℕ)) ℕ) (lines : List MediaLine) (i : ℕ) (line : MediaLine) → i < length lines → line ≡ get_or lines i line → FoundIn found (take i lines)
    → ((name : List ℕ) → is_found found' name ≡ (is_found found name || is_stream name (shown_stream line))) → FoundIn found' (take (i + 1) lines)
found_more found found' lines i line lt is h more = λ name.
    let test : MediaLine → Bool = λ (other : MediaLine). is_stream name (shown_stream other) in
    let taken : take (i + 1) lines ≡ take i lines ++ line ∷ [] = take_more lines i line lt ∙ ap (λ (y : MediaLine). take i lines ++ y ∷ []) (sym is) in
    more name ∙ ap (λ (b : Bool). b || test line) (h name) ∙ sym (any_more test (take i lines) line) ∙ ap (list_any test) (sym taken)

-- ---- one line
-- without a name
pub unnamed : (found : BTreeMap (Bor (List ℕ)) ℕ) (msid : Option Msid) → None ≡ option_map (λ m. m.stream_id) msid → (q : List ℕ) → is_found found q ≡ (is_found found q || is_stream q msid)
unnamed found None e = λ q. sym (or_false (is_found found q))
unnamed found (Some msid) e = absurd cc

pub none_new : (found : BTreeMap (Bor (List ℕ)) ℕ) (msid : Option Msid) → None ≡ option_map (λ m. m.stream_id) msid → new_to found msid ≡ []
none_new found None e = refl
none_new found (Some msid) e = absurd cc

-- with a name that was found
pub kept : (found : BTreeMap (Bor (List ℕ)) ℕ) (name : List ℕ) (msid : Option Msid) → Some name ≡ option_map (λ m. m.stream_id) msid → is_found found name ≡ true → (q : List ℕ) → is_found found q ≡ (is_found found q || is_stream q msid)
kept found name None e known = absurd cc
kept found name (Some msid) e known = λ q. go q (bytes_eq msid.stream_id q) refl
  where
    go : (q : List ℕ) (b : Bool) → bytes_eq msid.stream_id q ≡ b → is_found found q ≡ (is_found found q || b)
    go q true t =
        let same : msid.stream_id ≡ q = (bytes_eq-Decides msid.stream_id q).0 t in
        let own : name ≡ msid.stream_id = cc in
        let here : is_found found q ≡ true = ap (is_found found) (sym same) ∙ ap (is_found found) (sym own) ∙ known in
        here ∙ sym (or_true (is_found found q))
    go q false t = sym (or_false (is_found found q))

pub known_new : (found : BTreeMap (Bor (List ℕ)) ℕ) (name : List ℕ) (msid : Option Msid) (known : Bool) → Some name ≡ option_map (λ m. m.stream_id) msid → is_found found name ≡ known → new_to found msid ≡ cond known [] (name ∷ [])
known_new found name None known e k = absurd cc
known_new found name (Some msid) known e k =
    let own : name ≡ msid.stream_id = cc in
    let here : is_found found msid.stream_id ≡ known = ap (is_found found) (sym own) ∙ k in
    ap (λ (b : Bool). cond b [] (msid.stream_id ∷ [])) here ∙ ap (λ (n : List ℕ). cond known [] (n ∷ [])) (sym own)

-- with a new name
pub put_in : (found found' : BTreeMap (Bor (List ℕ)) ℕ) (name : List ℕ) (place : ℕ) (msid : Option Msid) → Some name ≡ option_map (λ m. m.stream_id) msid
    → tree.UpdatesBy (λ x y. slice_cmp nat_cmp x.now y.now) (λ k. slice_cmp nat_cmp name k.now) found found' (Some place) → (q : List ℕ) → is_found found' q ≡ (is_found found q || is_stream q msid)
put_in found found' name place None e h = absurd cc
put_in found found' name place (Some msid) e h = λ q.
    let own : name ≡ msid.stream_id = cc in
    ap is_some (btree_map_updates_str name found found' (Some place) h q)
    ∙ go q (bytes_eq name q) refl
    ∙ ap (λ (n : List ℕ). is_found found q || bytes_eq n q) own
  where
    go : (q : List ℕ) (b : Bool) → bytes_eq name q ≡ b → is_some (update bytes_eq (λ ds. tree.get_by (λ (k : Bor (List ℕ)). slice_cmp nat_cmp ds k.now) found) name (Some place) q) ≡ (is_found found q || bytes_eq name q)
    go q true t = rw t (sym (or_true (is_found found q)))
    go q false t = rw t (sym (or_false (is_found found q)))
