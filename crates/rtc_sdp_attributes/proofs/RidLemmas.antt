-- A restricted layer that is written is read back.
use Rattle.rtc_wire_text.specs.Tokens.{is_short_token}
use Rattle.std.proofs.Common.{◌≡◌, ℕ, ◌<◌, List, [], ◌∷◌, ◌++◌, map, Some, refl, ap, ◌∙◌, arith, rules}
use Rattle.std.specs.Prelude.{codes, filter, option_map}
use Rattle.std.specs.List.{AllByRecursion}
use Rattle.std.proofs.lemmas.Bool.{ne_eqb}
use Rattle.std.proofs.lemmas.List.{append-nil}
use Rattle.rtc_wire_text.specs.Cuts.{Lacks}
use Rattle.rtc_wire_text.specs.Fields.{each}
use Rattle.rtc_wire_text.specs.Words.{joined}
use Rattle.rtc_wire_text.proofs.CutLemmas.{cut-append, cut_none, parts-after_each, short_token_lacks, no_token_byte, lacks-append, lacks-joined, printable_lacks}
use Rattle.rtc_sdp_attributes.specs.declared.rid_direction.RidDirection.{RidDirection}
use Rattle.rtc_sdp_attributes.specs.declared.rid_direction.RidDirection.TheVariants.{Send, Recv}
use Rattle.rtc_sdp_attributes.specs.Forms.{Form, short_token, one_of, tailed}
use Rattle.rtc_sdp_attributes.specs.AttributeForms.{rid_direction_words, is_kept, rid_pair, rid_pairs, rid as rid_form, rid_made}
use Rattle.rtc_sdp_attributes.specs.AttributeTexts.{rid_direction_word, pair_text, pairs_text, rid_text}
use Rattle.rtc_sdp_attributes.specs.PlainValues.{IsPlainPair, IsPlainRid}
use Rattle.rtc_sdp_attributes.proofs.FormLemmas.{passing_again, parted_again, tailed_bare, tailed_again}

abbrev Pairs : Type 0
Pairs = List (List ℕ × List ℕ)

pub direction_again : (direction : RidDirection) → one_of rid_direction_words (rid_direction_word direction) ≡ Some direction
direction_again Send = refl
direction_again Recv = refl

pub direction_lacks_space : (direction : RidDirection) → Lacks 32 (rid_direction_word direction)
direction_lacks_space Send = search rules
direction_lacks_space Recv = search rules

direction_lacks : (byte : ℕ) → byte < 32 → (direction : RidDirection) → Lacks byte (rid_direction_word direction)
direction_lacks byte low Send = printable_lacks byte low (codes "send") refl
direction_lacks byte low Recv = printable_lacks byte low (codes "recv") refl

pair_again : (p : List ℕ × List ℕ) → IsPlainPair p → rid_pair (pair_text p) ≡ Some p
pair_again p h = rw (cut-append 61 p.0 p.1 h.key_equals, cut_none 61 p.1 h.value_equals) refl

pairs_each : (ps : Pairs) → AllByRecursion IsPlainPair ps → each rid_pair (map pair_text ps) ≡ Some ps
pairs_each [] h = refl
pairs_each (p ∷ ps) h = rw (pair_again p h.0, pairs_each ps h.1) refl

all_kept : (ps : Pairs) → AllByRecursion IsPlainPair ps → filter is_kept ps ≡ ps
all_kept [] h = refl
all_kept (p ∷ ps) h = rw (h.0.kept, all_kept ps h.1) refl

pair_lacks_semicolon : (p : List ℕ × List ℕ) → IsPlainPair p → Lacks 59 (pair_text p)
pair_lacks_semicolon p h = lacks-append 59 p.0 (61 ∷ p.1) h.key_semicolon (refl, h.value_semicolon)

pairs_lack_semicolon : (ps : Pairs) → AllByRecursion IsPlainPair ps → AllByRecursion (λ w. Lacks 59 w) (map pair_text ps)
pairs_lack_semicolon [] h = tt
pairs_lack_semicolon (p ∷ ps) h = (pair_lacks_semicolon p h.0, pairs_lack_semicolon ps h.1)

pairs_again : (p : List ℕ × List ℕ) (ps : Pairs) → AllByRecursion IsPlainPair (p ∷ ps) → rid_pairs (joined 59 (map pair_text (p ∷ ps))) ≡ Some (p ∷ ps)
pairs_again p ps h =
    ap (λ (l : List (List ℕ)). option_map (filter is_kept) (each rid_pair l)) (parts-after_each 59 (pair_text p) (map pair_text ps) (pair_lacks_semicolon p h.0) (pairs_lack_semicolon ps h.1))
    ∙ ap (option_map (filter is_kept)) (pairs_each (p ∷ ps) h)
    ∙ ap Some (all_kept (p ∷ ps) h)

abbrev rest_form : Form (RidDirection × Pairs)
rest_form = tailed 32 (one_of rid_direction_words) [] rid_pairs

rest_again : (direction : RidDirection) (ps : Pairs) → AllByRecursion IsPlainPair ps → rest_form (rid_direction_word direction ++ pairs_text ps) ≡ Some (direction, ps)
rest_again direction [] h =
    ap rest_form (append-nil (rid_direction_word direction))
    ∙ tailed_bare 32 (one_of rid_direction_words) [] rid_pairs (rid_direction_word direction) direction (direction_lacks_space direction) (direction_again direction)
rest_again direction (p ∷ ps) h =
    tailed_again 32 (one_of rid_direction_words) [] rid_pairs (rid_direction_word direction) (joined 59 (map pair_text (p ∷ ps))) direction (p ∷ ps) (direction_lacks_space direction) (direction_again direction) (pairs_again p ps h)

pub rid_again : (rid : List ℕ) (direction : RidDirection) (attributes : Pairs) → IsPlainRid rid attributes
    → rid_form (rid_text rid direction attributes) ≡ Some (record { rid = rid; direction = direction; attributes = attributes })
unfolding rid_text
rid_again rid direction ps h =
    ap (option_map rid_made) (parted_again 32 short_token rest_form rid (rid_direction_word direction ++ pairs_text ps) rid (direction, ps) (short_token_lacks 32 refl rid h.token) (passing_again is_short_token rid h.token) (rest_again direction ps h.pairs))

-- no pair ends a line
abbrev pub ArePairsFree : ℕ → Pairs → Type 0
ArePairsFree byte ps = AllByRecursion (λ p. Lacks byte p.0 × Lacks byte p.1) ps

pair_texts_lack : (byte : ℕ) → byte < 32 → (ps : Pairs) → ArePairsFree byte ps → AllByRecursion (λ w. Lacks byte w) (map pair_text ps)
pair_texts_lack byte low [] h = tt
pair_texts_lack byte low (p ∷ ps) h = (lacks-append byte p.0 (61 ∷ p.1) h.0.0 (ne_eqb 61 byte (λ e. omega arith), h.0.1), pair_texts_lack byte low ps h.1)

pairs_lack : (byte : ℕ) → byte < 32 → (ps : Pairs) → ArePairsFree byte ps → Lacks byte (pairs_text ps)
pairs_lack byte low [] h = tt
pairs_lack byte low (p ∷ ps) h = (ne_eqb 32 byte (λ e. omega arith), lacks-joined byte 59 (ne_eqb 59 byte (λ e. omega arith)) (map pair_text (p ∷ ps)) (pair_texts_lack byte low (p ∷ ps) h))

pub rid_lacks : (byte : ℕ) → byte < 32 → (rid : List ℕ) (direction : RidDirection) (attributes : Pairs) → IsPlainRid rid attributes → ArePairsFree byte attributes → Lacks byte (rid_text rid direction attributes)
unfolding rid_text
rid_lacks byte low rid direction ps h free =
    lacks-append byte rid (32 ∷ (rid_direction_word direction ++ pairs_text ps)) (short_token_lacks byte (no_token_byte byte (omega arith)) rid h.token)
    (ne_eqb 32 byte (λ e. omega arith), lacks-append byte (rid_direction_word direction) (pairs_text ps) (direction_lacks byte low direction) (pairs_lack byte low ps free))
