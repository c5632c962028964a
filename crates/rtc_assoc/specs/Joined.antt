-- Two ends, each of which was given packets that the other one had transmitted.
use Rattle.std.specs.Prelude.{ℕ, ◌≡◌, List, [], ◌∷◌, ◌++◌}
use Rattle.rtc_parts.specs.Among.{Among}
use Rattle.rtc_parts.specs.AssociationActs.{AssociationAct, Moved}
use Rattle.rtc_parts.specs.AssociationWords.{given, taken}
use Rattle.rtc_assoc_state.specs.Contents.{Contents, fresh_contents}
use Rattle.rtc_assoc_state.specs.PlainMeaning.{plain_meaning}

-- two ends, and what was done to each since it was fresh
pub record Ends : Type 0 where
  pub left : Contents
  pub right : Contents
  pub left_acts : List AssociationAct
  pub right_acts : List AssociationAct

abbrev pub fresh_ends : Ends
fresh_ends = record { left = fresh_contents; right = fresh_contents; left_acts = []; right_acts = [] }

-- one end does some acts
pub data Move : Type 0 where
  LeftMoves : (acts : List AssociationAct) → Move
  RightMoves : (acts : List AssociationAct) → Move

-- the acts took that end from one state to the next, and each packet that they gave it is one that the other end
-- transmitted before: whatever is lost, repeated or reordered between
abbrev pub Goes : Ends → Move → Ends → Type 0
Goes d (LeftMoves acts) e =
    Moved plain_meaning d.left acts e.left × Among (given acts) (taken d.right_acts)
    × (e ≡ record d { left = e.left; left_acts = d.left_acts ++ acts })
Goes d (RightMoves acts) e =
    Moved plain_meaning d.right acts e.right × Among (given acts) (taken d.left_acts)
    × (e ≡ record d { right = e.right; right_acts = d.right_acts ++ acts })

-- moves, the last one first, took two fresh ends to these
abbrev pub Run : List Move → Ends → Type 0
Run [] e = e ≡ fresh_ends
Run (move ∷ moves) e = (d : Ends) × (Run moves d × Goes d move e)

-- some moves took two fresh ends to these, and each has transmitted these packets
pub record Joined (left right : Contents) (from_left from_right : List (List ℕ)) : Type 0 where
  pub moves : List Move
  pub ends : Ends
  pub run : Run moves ends
  pub left_is : ends.left ≡ left
  pub right_is : ends.right ≡ right
  pub from_left_is : taken ends.left_acts ≡ from_left
  pub from_right_is : taken ends.right_acts ≡ from_right
