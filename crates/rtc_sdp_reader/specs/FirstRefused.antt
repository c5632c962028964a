-- The law above the reading: the number that it returns is that of the first refused line.
use Rattle.std.specs.Prelude.{◌≡◌, ℕ, ◌+◌, ◌-◌, ◌^◌, min, true, false, List, [], ◌∷◌, ◌++◌, length}
use Rattle.rtc_sdp_grammar.specs.declared.item.Item.{Item}
use Rattle.rtc_sdp_reader.specs.declared.place.Place.{Place}
use Rattle.rtc_sdp_reader.specs.declared.place.Place.TheVariants.{First}
use Rattle.rtc_sdp_reader.specs.Refusal.{is_refused, next, is_short}

-- none of the lines in front is refused at its place, with the lines `rest` behind them
abbrev pub Passes : Place → List Item → List Item → Type 0
Passes place [] rest = Unit {0}
Passes place (item ∷ front) rest = (is_refused place item (front ++ rest) ≡ false) × Passes (next place item) front rest

-- the place of the line behind them
abbrev pub place_after : Place → List Item → Place
place_after place [] = place
place_after place (item ∷ front) = place_after (next place item) front

-- the next line is refused at its place, or the text ends too early
abbrev pub IsRefusedNext : Place → List Item → Type 0
IsRefusedNext place [] = is_short place ≡ true
IsRefusedNext place (item ∷ rest) = is_refused place item rest ≡ true

-- the line of this number is refused, and none in front of it
pub record IsFirstRefused (items : List Item) (number : ℕ) : Type 0 where
  pub front : List Item
  pub rest : List Item
  pub parts : items ≡ front ++ rest
  pub number_is : number ≡ min (length front + 1) (2 ^ 32 - 1)
  pub before : Passes First front rest
  pub here : IsRefusedNext (place_after First front) rest

-- no line is refused, and the text does not end too early
pub record IsUnrefused (items : List Item) : Type 0 where
  pub passes : Passes First items []
  pub whole : is_short (place_after First items) ≡ false
