-- Words that are lent, and lines with no byte.
use Rattle.std.proofs.Common.{◌≡◌, ◌∙◌, ℕ, false, eqb, List, [], ◌∷◌, length, map, Some, None, refl, sym, ap, subst, arith}
use Rattle.std.specs.List.{list_all}
use denote.Ref.{Bor}
use Rattle.std.proofs.lemmas.List.Folds.{list_all-map}
use Rattle.rtc_wire_text.specs.Cuts.{cut}
use Rattle.rtc_wire_text.specs.Tokens.{is_token}
use Rattle.rtc_wire_text.specs.Words.{words}
use Rattle.rtc_sdp_grammar.specs.declared.item.Item.TheVariants.{Blank, BadMedia}
use Rattle.rtc_sdp_attributes.specs.Forms.{is_filled}
use Rattle.rtc_sdp_attributes.proofs.PlaceLemmas.{parts_none, parts_some}
use Rattle.rtc_sdp_grammar.specs.ItemForm.{item_of, line_parts, attribute}
use Rattle.rtc_sdp_grammar.specs.MediaForm.{media, media_words, at_port, port_of}

pub tokens_shown : (words : List (Bor (List ℕ))) → list_all is_token (map (λ word. word.now) words) ≡ list_all (λ word. is_token word.now) words
tokens_shown words = list_all-map is_token (λ (word : Bor (List ℕ)). word.now) words

pub filled_shown : (words : List (Bor (List ℕ))) → list_all is_filled (map (λ word. word.now) words) ≡ list_all (λ word. is_filled word.now) words
filled_shown words = list_all-map is_filled (λ (word : Bor (List ℕ)). word.now) words

pub blank_line : (line : List ℕ) → length line ≡ 0 → Blank ≡ item_of line
unfolding item_of
blank_line [] h = refl
blank_line (byte ∷ rest) h = absurd (omega arith)

pub other_line : (line : List ℕ) → eqb (length line) 0 ≡ false → item_of line ≡ line_parts (cut 61 line)
unfolding item_of
other_line [] h = absurd cc
other_line (byte ∷ rest) h = refl

-- a line that begins with `a=`
pub a_line : (line value : List ℕ) → line ≡ 97 ∷ 61 ∷ value → attribute value ≡ item_of line
unfolding item_of
a_line line value h = subst (λ (l : List ℕ). attribute value ≡ item_of l) (sym h) refl

-- ---- an `m=` line whose words are cut off one by one
pub one_word : (value : List ℕ) → None ≡ cut 32 value → BadMedia ≡ media value
one_word value h = ap media_words (sym (parts_none 32 value h))

pub two_words : (value kind rest : List ℕ) → Some (kind, rest) ≡ cut 32 value → None ≡ cut 32 rest → BadMedia ≡ media value
two_words value kind rest h none = ap media_words (sym (parts_some 32 value kind rest h ∙ ap (λ (ws : List (List ℕ)). kind ∷ ws) (parts_none 32 rest none)))

pub more_words : (value kind behind port rest : List ℕ) → Some (kind, behind) ≡ cut 32 value → Some (port, rest) ≡ cut 32 behind → media_words (kind ∷ port ∷ words rest) ≡ media value
more_words value kind behind port rest h k = ap media_words (sym (parts_some 32 value kind behind h ∙ ap (λ (ws : List (List ℕ)). kind ∷ ws) (parts_some 32 behind port rest k)))

pub no_formats : (kind port rest : List ℕ) → None ≡ cut 32 rest → at_port kind (port_of port) rest [] ≡ media_words (kind ∷ port ∷ words rest)
no_formats kind port rest none = ap (λ (ws : List (List ℕ)). media_words (kind ∷ port ∷ ws)) (sym (parts_none 32 rest none))

pub some_formats : (kind port rest protocol formats : List ℕ) → Some (protocol, formats) ≡ cut 32 rest → at_port kind (port_of port) protocol (words formats) ≡ media_words (kind ∷ port ∷ words rest)
some_formats kind port rest protocol formats some = ap (λ (ws : List (List ℕ)). media_words (kind ∷ port ∷ ws)) (sym (parts_some 32 rest protocol formats some))
