-- The attributes of a line part, as its blocks give them.
use Rattle.std.proofs.Common.{◌≡◌, Bool, true, false, List, [], ◌∷◌, Option, None, ℕ, sym, ap, ◌∙◌, refl}
use Rattle.std.specs.List.{AllByRecursion, filter_map, cons_option}
use Rattle.std.specs.Option.{option_or}
use Rattle.rtc_wire_text.specs.Fields.{first}
use Rattle.rtc_sdp_grammar.specs.declared.attribute.Attribute.{Attribute}
use Rattle.rtc_sdp_grammar.specs.declared.attribute.Attribute.TheVariants.{GroupLine, OtherGroup, LiteLine}
use Rattle.rtc_sdp_grammar.specs.declared.item.Item.{Item}
use Rattle.rtc_sdp_grammar.specs.declared.item.Item.TheVariants.{Skipped, Says, Malformed, Blank, Bad, BadMedia, Version, Origin, Media}
use Rattle.rtc_sdp_grammar.specs.declared.level.Level.{Level}
use Rattle.rtc_sdp_reader.specs.Parting.{counts, attribute_here}
use Rattle.rtc_sdp_writer.proofs.Blocks.{is_for_lines, IsSaid, said}

-- what gives nothing of the attributes of the session part
abbrev pub Ignores : {B : Type 0} → (Attribute → Option B) → Type 0
Ignores gives = ((mids : List (List ℕ)) → gives (GroupLine mids) ≡ None) × ((gives OtherGroup ≡ None) × (gives LiteLine ≡ None))

module _ {B : Type 0} (gives : Attribute → Option B) (ignores : Ignores gives) where
  ignored : (attribute : Attribute) → is_for_lines attribute ≡ false → gives attribute ≡ None
  ignored (GroupLine mids) e = ignores.0 mids
  ignored OtherGroup e = ignores.1.0
  ignored LiteLine e = ignores.1.1
  ignored _ e = absurd cc

  not_for_lines : (level : Level) (attribute : Attribute) (for_lines : Bool) → is_for_lines attribute ≡ for_lines → counts level for_lines ≡ true → counts level true ≡ false → gives attribute ≡ None
  not_for_lines level attribute true e h k = absurd (let bad : true ≡ false = sym h ∙ k in cc)
  not_for_lines level attribute false e h k = ignored attribute e

  pub first_here : (items : List Item) → AllByRecursion IsSaid items → first gives (filter_map (attribute_here true) items) ≡ first (said gives) items
  first_here [] h = refl
  first_here (Skipped ∷ rest) h = first_here rest h.1
  first_here (Says level attribute ∷ rest) h = go (counts level true) refl (first_here rest h.1)
    where
      go : (b : Bool) → counts level true ≡ b → first gives (filter_map (attribute_here true) rest) ≡ first (said gives) rest → first gives (filter_map (attribute_here true) (Says level attribute ∷ rest)) ≡ option_or (gives attribute) (first (said gives) rest)
      go true e ih = rw e (ap (option_or (gives attribute)) ih)
      go false e ih = rw (e, not_for_lines level attribute (is_for_lines attribute) refl h.0 e) ih
  first_here (Blank ∷ rest) h = absurd h.0
  first_here (Bad ∷ rest) h = absurd h.0
  first_here (BadMedia ∷ rest) h = absurd h.0
  first_here (Version ∷ rest) h = absurd h.0
  first_here (Origin id ∷ rest) h = absurd h.0
  first_here (Media head ∷ rest) h = absurd h.0
  first_here (Malformed level what ∷ rest) h = absurd h.0

  pub all_here : (items : List Item) → AllByRecursion IsSaid items → filter_map gives (filter_map (attribute_here true) items) ≡ filter_map (said gives) items
  all_here [] h = refl
  all_here (Skipped ∷ rest) h = all_here rest h.1
  all_here (Says level attribute ∷ rest) h = go (counts level true) refl (all_here rest h.1)
    where
      go : (b : Bool) → counts level true ≡ b → filter_map gives (filter_map (attribute_here true) rest) ≡ filter_map (said gives) rest → filter_map gives (filter_map (attribute_here true) (Says level attribute ∷ rest)) ≡ cons_option (gives attribute) (filter_map (said gives) rest)
      go true e ih = rw e (ap (cons_option (gives attribute)) ih)
      go false e ih = rw (e, not_for_lines level attribute (is_for_lines attribute) refl h.0 e) ih
  all_here (Blank ∷ rest) h = absurd h.0
  all_here (Bad ∷ rest) h = absurd h.0
  all_here (BadMedia ∷ rest) h = absurd h.0
  all_here (Version ∷ rest) h = absurd h.0
  all_here (Origin id ∷ rest) h = absurd h.0
  all_here (Media head ∷ rest) h = absurd h.0
  all_here (Malformed level what ∷ rest) h = absurd h.0
