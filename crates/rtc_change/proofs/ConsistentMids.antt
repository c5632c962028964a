-- The mids of a consistent session description are distinct.
use Rattle.std.proofs.Common.{◌≡◌, ℕ, true, List, [], ◌∷◌, map, Option, Some, None, refl, ap, arith}
use Rattle.std.specs.Prelude.{option_map}
use Rattle.rtc_sdp_values.specs.Sdp.{inconsistency, judge, mids_of, first_cause, group_causes}
use Rattle.rtc_sdp_values.specs.declared.media_line.MediaLine.{MediaLine}
use Rattle.rtc_sdp_values.specs.declared.sdp.Sdp.{Sdp}
use Rattle.rtc_sdp_values.specs.Mids.{AreDistinct, are_distinct}
use Rattle.rtc_sdp_values.proofs.MidLemmas.{distinct_by_test}
use Rattle.rtc_peer_rows.specs.ParsedLines.{parsed_line, parsed_lines}
use Rattle.rtc_change.specs.Plans.{inconsistent}

no_cause : (group : List (List ℕ)) (lines : List MediaLine) → first_cause (group_causes group lines) ≡ None → are_distinct (mids_of lines) ≡ true
no_cause group lines none = grind arith

judged : (groups : List (List (List ℕ))) (lines : List MediaLine) → judge groups lines ≡ None → are_distinct (mids_of lines) ≡ true
judged [] lines none = absurd (cc)
judged (group ∷ []) lines none = no_cause group lines none
judged (group ∷ other ∷ rest) lines none = absurd (cc)

-- a text says of its lines the mids that they have
pub parsed_mids : (text : Sdp) → map (λ line. line.mid) (parsed_lines text) ≡ mids_of text.lines
parsed_mids text = by text.lines
  where
    by : (lines : List MediaLine) → map (λ line. line.mid) (map (parsed_line text.groups) lines) ≡ mids_of lines
    by [] = refl
    by (line ∷ lines) = ap (λ mids. line.mid ∷ mids) (by lines)

no_image : {A B : Type 0} (f : A → B) (found : Option A) → option_map f found ≡ None → found ≡ None
no_image f None none = refl
no_image f (Some cause) none = absurd (cc)

-- the lines of a text that fits together have distinct mids
pub distinct_parsed : (text : Sdp) → inconsistent text ≡ None → AreDistinct (map (λ line. line.mid) (parsed_lines text))
unfolding inconsistency
distinct_parsed text none =
    rw (parsed_mids text) (distinct_by_test (mids_of text.lines) (judged text.groups text.lines (no_image _ (judge text.groups text.lines) none)))
