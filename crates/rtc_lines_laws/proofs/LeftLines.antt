-- How negotiation reads what is left of an offer of which lines are rejected.
use Rattle.std.proofs.Common.{◌≡◌, ◌∙◌, ◌&&◌, ◌||◌, ℕ, Bool, true, false, not, cond, List, [], ◌∷◌, map, Some, refl, sym, ap, subst}
use Rattle.std.specs.Prelude.{if◌then◌else◌}
use Rattle.std.specs.List.{AllByRecursion}
use Rattle.std.specs.Str.{bytes_eq}
use Rattle.std.proofs.lemmas.Map.Views.{any-filter_same}
use Rattle.std.proofs.lemmas.Option.{cond_some}
use Rattle.std.proofs.lemmas.Slice.Eq.{bytes_eq-Decides}
use Rattle.rtc_sdp_values.specs.Mids.{is_among, is_bundled}
use Rattle.rtc_sdp_values.specs.Sdp.{mids_of}
use Rattle.rtc_sdp_values.specs.declared.line_kind.LineKind.{LineKind}
use Rattle.rtc_sdp_values.specs.declared.media_line.MediaLine.{MediaLine}
use Rattle.rtc_sdp_values.specs.declared.sdp.Sdp.{Sdp}
use Rattle.rtc_lines.specs.Rejecting.{
  names_mid,
  line_at_port_0,
  line_rejecting,
  group_rejecting,
  sdp_rejecting,
  has_live,
  offer_rejecting,
}
use Rattle.rtc_peer_rows.specs.ParsedLines.{parsed_line}
use Rattle.rtc_peer_rows.specs.declared.parsed_line.ParsedLine.{ParsedLine}
use Rattle.rtc_lines_laws.specs.RejectedLines.{lines_of_mids, lines_of_others, IsLeftOf}

-- ---- tests
nothing_of : (n : Bool) → false ≡ (n && false)
nothing_of true = refl
nothing_of false = refl

shared : (n a b : Bool) → ((n && a) || (n && b)) ≡ (n && (a || b))
shared true a b = refl
shared false a b = refl

not_so : (b : Bool) → not b ≡ true → b ≡ false
not_so true h = let bad : false ≡ true = h in cc
not_so false h = refl

-- ---- groups without the mids of rejected lines
named_alike : (mids : List (List ℕ)) (mid other : List ℕ) → bytes_eq other mid ≡ true → not (names_mid mids other) ≡ not (names_mid mids mid)
named_alike mids mid other h = ap (λ (it : List ℕ). not (names_mid mids it)) ((bytes_eq-Decides other mid).0 h)

group_left : (mids group : List (List ℕ)) (mid : List ℕ) → is_among (group_rejecting mids group) mid ≡ (not (names_mid mids mid) && is_among group mid)
group_left mids group mid =
    any-filter_same (λ other. bytes_eq other mid) (λ other. not (names_mid mids other)) (not (names_mid mids mid)) (named_alike mids mid) group

pub groups_left : (mids : List (List ℕ)) (groups : List (List (List ℕ))) (mid : List ℕ)
    → is_bundled (map (group_rejecting mids) groups) mid ≡ (not (names_mid mids mid) && is_bundled groups mid)
groups_left mids [] mid = nothing_of (not (names_mid mids mid))
groups_left mids (group ∷ groups) mid =
    let n = not (names_mid mids mid) in
    ap (λ (b : Bool). b || is_bundled (map (group_rejecting mids) groups) mid) (group_left mids group mid)
    ∙ ap (λ (b : Bool). (n && is_among group mid) || b) (groups_left mids groups mid)
    ∙ shared n (is_among group mid) (is_bundled groups mid)

pub bundles_none : (mids : List (List ℕ)) (groups : List (List (List ℕ))) (mid : List ℕ) → names_mid mids mid ≡ true
    → is_bundled (map (group_rejecting mids) groups) mid ≡ false
bundles_none mids groups mid h = groups_left mids groups mid ∙ ap (λ (b : Bool). not b && is_bundled groups mid) h

pub bundles_others : (mids : List (List ℕ)) (groups : List (List (List ℕ))) (mid : List ℕ) → names_mid mids mid ≡ false
    → is_bundled (map (group_rejecting mids) groups) mid ≡ is_bundled groups mid
bundles_others mids groups mid h = groups_left mids groups mid ∙ ap (λ (b : Bool). not b && is_bundled groups mid) h

-- ---- a line, rejected or not
pub rejected_line : (mids : List (List ℕ)) (line : MediaLine) → names_mid mids line.mid ≡ true → line_rejecting mids line ≡ line_at_port_0 line
rejected_line mids line h = ap (λ (b : Bool). if b then line_at_port_0 line else line) h

pub other_line : (mids : List (List ℕ)) (line : MediaLine) → names_mid mids line.mid ≡ false → line_rejecting mids line ≡ line
other_line mids line h = ap (λ (b : Bool). if b then line_at_port_0 line else line) h

mid_of_either : (b : Bool) (line : MediaLine) → (if b then line_at_port_0 line else line).mid ≡ line.mid
mid_of_either true line = refl
mid_of_either false line = refl

kind_of_either : (b : Bool) (line : MediaLine) → (if b then line_at_port_0 line else line).kind ≡ line.kind
kind_of_either true line = refl
kind_of_either false line = refl

mid_left : (mids : List (List ℕ)) (line : MediaLine) → (line_rejecting mids line).mid ≡ line.mid
mid_left mids line = mid_of_either (names_mid mids line.mid) line

named_left : (mids : List (List ℕ)) (line : MediaLine) → names_mid mids (line_rejecting mids line).mid ≡ names_mid mids line.mid
named_left mids line = ap (λ (mid : List ℕ). names_mid mids mid) (mid_left mids line)

module _ (mids : List (List ℕ)) (groups : List (List (List ℕ))) where
  read_as_rejected : (line : MediaLine) → names_mid mids (line_rejecting mids line).mid ≡ true
      → (parsed_line (map (group_rejecting mids) groups) (line_rejecting mids line)).rejected ≡ true
  read_as_rejected line h =
      let named : names_mid mids line.mid ≡ true = sym (named_left mids line) ∙ h in
      ap (λ (it : MediaLine). (parsed_line (map (group_rejecting mids) groups) it).rejected) (rejected_line mids line named)
      ∙ ap (λ (b : Bool). not b) (bundles_none mids groups line.mid named)

  read_as_before : (line : MediaLine) → names_mid mids line.mid ≡ false
      → parsed_line (map (group_rejecting mids) groups) (line_rejecting mids line) ≡ parsed_line groups line
  read_as_before line h =
      ap (λ (it : MediaLine). parsed_line (map (group_rejecting mids) groups) it) (other_line mids line h)
      ∙ ap (read_with line) (bundles_others mids groups line.mid h)
    where
      read_with : MediaLine → Bool → ParsedLine
      read_with it b = record { kind = it.kind; mid = it.mid; dir = it.dir; rejected = it.disabled && not b }

  -- ---- all lines
  kept_if : (b : Bool) (one : ParsedLine) (rest : List ParsedLine) → (b ≡ true → one.rejected ≡ true)
      → AllByRecursion (λ line. line.rejected ≡ true) rest → AllByRecursion (λ line. line.rejected ≡ true) (cond b (one ∷ rest) rest)
  kept_if true one rest h all = (h refl, all)
  kept_if false one rest h all = all

  all_rejected : (lines : List MediaLine)
      → AllByRecursion (λ line. line.rejected ≡ true) (lines_of_mids mids (map (parsed_line (map (group_rejecting mids) groups)) (map (line_rejecting mids) lines)))
  all_rejected [] = tt
  all_rejected (line ∷ lines) =
      kept_if (names_mid mids (line_rejecting mids line).mid) (parsed_line (map (group_rejecting mids) groups) (line_rejecting mids line))
      (lines_of_mids mids (map (parsed_line (map (group_rejecting mids) groups)) (map (line_rejecting mids) lines)))
      (read_as_rejected line) (all_rejected lines)

  same_if : (b : Bool) (one other : ParsedLine) (rest more : List ParsedLine) → (b ≡ true → one ≡ other) → rest ≡ more
      → cond b (one ∷ rest) rest ≡ cond b (other ∷ more) more
  same_if true one other rest more h same = ap (λ (it : ParsedLine). it ∷ rest) (h refl) ∙ ap (λ (its : List ParsedLine). other ∷ its) same
  same_if false one other rest more h same = same

  all_others : (lines : List MediaLine)
      → lines_of_others mids (map (parsed_line (map (group_rejecting mids) groups)) (map (line_rejecting mids) lines))
      ≡ lines_of_others mids (map (parsed_line groups) lines)
  all_others [] = refl
  all_others (line ∷ lines) =
      let one = parsed_line (map (group_rejecting mids) groups) (line_rejecting mids line) in
      let rest = lines_of_others mids (map (parsed_line (map (group_rejecting mids) groups)) (map (line_rejecting mids) lines)) in
      ap (λ (b : Bool). cond (not b) (one ∷ rest) rest) (named_left mids line)
      ∙ same_if (not (names_mid mids line.mid)) one (parsed_line groups line) rest (lines_of_others mids (map (parsed_line groups) lines))
      (λ h. read_as_before line (not_so (names_mid mids line.mid) h)) (all_others lines)

mids_left : (mids : List (List ℕ)) (lines : List MediaLine) → mids_of (map (line_rejecting mids) lines) ≡ mids_of lines
mids_left mids [] = refl
mids_left mids (line ∷ lines) =
    ap (λ (mid : List ℕ). mid ∷ mids_of (map (line_rejecting mids) lines)) (mid_left mids line)
    ∙ ap (λ (rest : List (List ℕ)). line.mid ∷ rest) (mids_left mids lines)

kinds_left : (mids : List (List ℕ)) (lines : List MediaLine)
    → map (λ line. line.kind) (map (line_rejecting mids) lines) ≡ map (λ line. line.kind) lines
kinds_left mids [] = refl
kinds_left mids (line ∷ lines) =
    ap (λ (kind : LineKind). kind ∷ map (λ it. it.kind) (map (line_rejecting mids) lines)) (kind_of_either (names_mid mids line.mid) line)
    ∙ ap (λ (rest : List LineKind). line.kind ∷ rest) (kinds_left mids lines)

-- ---- what is left of an offer
pub left_is : (mids : List (List ℕ)) (offer left : Sdp) → offer_rejecting mids offer ≡ Some left
    → (has_live (map (group_rejecting mids) offer.groups) (map (line_rejecting mids) offer.lines) ≡ true) × (sdp_rejecting mids offer ≡ left)
left_is mids offer left e =
    cond_some (has_live (map (group_rejecting mids) offer.groups) (map (line_rejecting mids) offer.lines)) (sdp_rejecting mids offer) left e

pub left_of : (mids : List (List ℕ)) (offer left : Sdp) → offer_rejecting mids offer ≡ Some left → IsLeftOf mids offer left
left_of mids offer left e =
    let parts = left_is mids offer left e in
    subst (λ (it : Sdp). IsLeftOf mids offer it) parts.1
    (record {
      rejected = all_rejected mids offer.groups offer.lines;
      others = all_others mids offer.groups offer.lines;
      places = mids_left mids offer.lines;
      kinds = kinds_left mids offer.lines;
      live = parts.0;
    })
