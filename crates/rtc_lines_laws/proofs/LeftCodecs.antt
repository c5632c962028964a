-- Once the lines without a codec are rejected, no line that is left live lacks one.
use Rattle.std.proofs.Common.{◌≡◌, ◌∙◌, ◌&&◌, ◌||◌, ℕ, Bool, true, false, not, cond, List, [], ◌∷◌, map, Some, refl, sym, ap, subst}
use Rattle.std.specs.Prelude.{filter}
use Rattle.std.specs.List.{AllByRecursion}
use Rattle.std.specs.Str.{bytes_eq}
use Rattle.std.proofs.lemmas.Slice.Eq.{bytes_eq-Decides}
use Rattle.rtc_sdp_values.specs.declared.media_line.MediaLine.{MediaLine}
use Rattle.rtc_sdp_values.specs.declared.payload_row.PayloadRow.{PayloadRow}
use Rattle.rtc_sdp_values.specs.declared.sdp.Sdp.{Sdp}
use Rattle.rtc_lines.specs.Rejecting.{
  shares_none,
  lacks_codec,
  mids_without_codec,
  names_mid,
  line_rejecting,
  group_rejecting,
  offer_rejecting,
}
use Rattle.rtc_lines_laws.proofs.LeftLines.{bundles_none, bundles_others, rejected_line, other_line, left_is}

-- ---- tests
either_left : (a b : Bool) → a ≡ true → (a || b) ≡ true
either_left true b h = refl
either_left false b h = let bad : false ≡ true = h in cc

either_right : (a b : Bool) → b ≡ true → (a || b) ≡ true
either_right true b h = refl
either_right false b h = h

unless : (b n : Bool) → (b ≡ true → n ≡ true) → n ≡ false → b ≡ false
unless true n h e = let bad : true ≡ false = sym (h refl) ∙ e in cc
unless false n h e = refl

left_out : {A : Type 0} (b : Bool) (one : A) (rest : List A) → b ≡ false → rest ≡ [] → cond b (one ∷ rest) rest ≡ []
left_out true one rest h none = let bad : true ≡ false = h in cc
left_out false one rest h none = none

module _ (rows : List PayloadRow) (groups : List (List (List ℕ))) where
  -- mids name each of these lines that lacks a codec
  abbrev NamesLacking : (mids : List (List ℕ)) → List MediaLine → Type 0
  NamesLacking mids lines = AllByRecursion (λ line. lacks_codec rows groups line ≡ true → names_mid mids line.mid ≡ true) lines

  more_names : (mids more : List (List ℕ)) → ((mid : List ℕ) → names_mid mids mid ≡ true → names_mid more mid ≡ true)
      → (lines : List MediaLine) → NamesLacking mids lines → NamesLacking more lines
  more_names mids more grows [] h = tt
  more_names mids more grows (line ∷ lines) h =
      ((λ lacks. grows line.mid (h.0 lacks)), more_names mids more grows lines h.1)

  names_own : (line : MediaLine) (rest : List MediaLine) → lacks_codec rows groups line ≡ true
      → names_mid (map (λ it. it.mid) (cond (lacks_codec rows groups line) (line ∷ rest) rest)) line.mid ≡ true
  names_own line rest lacks =
      ap (λ (b : Bool). names_mid (map (λ it. it.mid) (cond b (line ∷ rest) rest)) line.mid) lacks
      ∙ either_left (bytes_eq line.mid line.mid) (names_mid (map (λ it. it.mid) rest) line.mid) ((bytes_eq-Decides line.mid line.mid).1 refl)

  names_rest : (b : Bool) (line : MediaLine) (rest : List MediaLine) (mid : List ℕ) → names_mid (map (λ it. it.mid) rest) mid ≡ true
      → names_mid (map (λ it. it.mid) (cond b (line ∷ rest) rest)) mid ≡ true
  names_rest true line rest mid h = either_right (bytes_eq line.mid mid) (names_mid (map (λ it. it.mid) rest) mid) h
  names_rest false line rest mid h = h

  all_named : (lines : List MediaLine) → NamesLacking (mids_without_codec rows groups lines) lines
  all_named [] = tt
  all_named (line ∷ lines) =
      let rest = filter (lacks_codec rows groups) lines in (
        names_own line rest,
        more_names (mids_without_codec rows groups lines) (mids_without_codec rows groups (line ∷ lines))
            (names_rest (lacks_codec rows groups line) line rest) lines (all_named lines),
      )

  -- ---- a line of what is left
  rejected_lacks_none : (mids : List (List ℕ)) (line : MediaLine) → names_mid mids line.mid ≡ true
      → lacks_codec rows (map (group_rejecting mids) groups) (line_rejecting mids line) ≡ false
  rejected_lacks_none mids line named =
      ap (λ (it : MediaLine). lacks_codec rows (map (group_rejecting mids) groups) it) (rejected_line mids line named)
      ∙ ap (λ (b : Bool). b && shares_none line.kind rows line.payloads) (bundles_none mids groups line.mid named)

  other_lacks_none : (mids : List (List ℕ)) (line : MediaLine) → (lacks_codec rows groups line ≡ true → names_mid mids line.mid ≡ true)
      → names_mid mids line.mid ≡ false → lacks_codec rows (map (group_rejecting mids) groups) (line_rejecting mids line) ≡ false
  other_lacks_none mids line names other =
      ap (λ (it : MediaLine). lacks_codec rows (map (group_rejecting mids) groups) it) (other_line mids line other)
      ∙ ap (λ (b : Bool). (not line.disabled || b) && shares_none line.kind rows line.payloads) (bundles_others mids groups line.mid other)
      ∙ unless (lacks_codec rows groups line) (names_mid mids line.mid) names other

  lacks_none : (mids : List (List ℕ)) (line : MediaLine) → (lacks_codec rows groups line ≡ true → names_mid mids line.mid ≡ true)
      → lacks_codec rows (map (group_rejecting mids) groups) (line_rejecting mids line) ≡ false
  lacks_none mids line names = by (names_mid mids line.mid) refl
    where
      by : (b : Bool) → names_mid mids line.mid ≡ b → lacks_codec rows (map (group_rejecting mids) groups) (line_rejecting mids line) ≡ false
      by true = rejected_lacks_none mids line
      by false = other_lacks_none mids line names

  none_left : (mids : List (List ℕ)) (lines : List MediaLine) → NamesLacking mids lines
      → filter (lacks_codec rows (map (group_rejecting mids) groups)) (map (line_rejecting mids) lines) ≡ []
  none_left mids [] h = refl
  none_left mids (line ∷ lines) h =
      left_out (lacks_codec rows (map (group_rejecting mids) groups) (line_rejecting mids line)) (line_rejecting mids line)
      (filter (lacks_codec rows (map (group_rejecting mids) groups)) (map (line_rejecting mids) lines))
      (lacks_none mids line h.0) (none_left mids lines h.1)

pub none_lacks : (rows : List PayloadRow) (offer left : Sdp) → offer_rejecting (mids_without_codec rows offer.groups offer.lines) offer ≡ Some left
    → mids_without_codec rows left.groups left.lines ≡ []
none_lacks rows offer left e =
    let mids = mids_without_codec rows offer.groups offer.lines in
    let none = none_left rows offer.groups mids offer.lines (all_named rows offer.groups offer.lines) in
    subst (λ (it : Sdp). mids_without_codec rows it.groups it.lines ≡ []) (left_is mids offer left e).1
    (ap (λ (lines : List MediaLine). map (λ line. line.mid) lines) none)
