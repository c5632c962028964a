-- The settings of a side, taken one after the other.
use Rattle.std.proofs.Common.{◌≡◌, ◌∙◌, ◌+◌, ◌≤◌, ◌<◌, ◌||◌, ℕ, Bool, true, false, List, [], ◌∷◌, length, drop, get_or, refl, ap, sym}
use Rattle.std.proofs.lemmas.List.{drop_more, drop_all}
use Rattle.rtc_run_history.specs.declared.side.Side.{Side}
use Rattle.rtc_script.specs.Settings.{makes_lite, sets_lite, allows_snap, sets_snap, buffer_by, max_message_by}
use Rattle.rtc_script.specs.Settings.{number_after, number_from, interval_after, interval_from, polite_after, polite_from}
use Rattle.rtc_script.specs.declared.setting.Setting.{Setting}
use Rattle.rtc_script.specs.declared.side_settings.SideSettings.{SideSettings}

-- what a side is set to behind a further setting, which may be of the other side
abbrev pub side_after : Side → Side × Setting → SideSettings → SideSettings
side_after at setting side = record {
  lite = makes_lite at setting || side.lite;
  snap = allows_snap at setting || side.snap;
  max_buffered = number_after buffer_by at setting side.max_buffered;
  max_message_size = number_after max_message_by at setting side.max_message_size;
  stats_interval = interval_after at setting side.stats_interval;
  polite = polite_after at setting side.polite;
}

-- and behind the settings that are left
unfoldable pub side_from : Side → List (Side × Setting) → SideSettings → SideSettings
side_from at rest side = record {
  lite = side.lite || sets_lite at rest;
  snap = side.snap || sets_snap at rest;
  max_buffered = number_from buffer_by at rest side.max_buffered;
  max_message_size = number_from max_message_by at rest side.max_message_size;
  stats_interval = interval_from at rest side.stats_interval;
  polite = polite_from at rest side.polite;
}

moved : (a b c : Bool) → (b || a) || c ≡ a || (b || c)
moved true true c = refl
moved true false c = refl
moved false true c = refl
moved false false c = refl

step : (at : Side) (setting : Side × Setting) (rest : List (Side × Setting)) (side : SideSettings)
    → side_from at rest (side_after at setting side) ≡ side_from at (setting ∷ rest) side
unfolding side_from
step at setting rest side =
    rw (moved side.lite (makes_lite at setting) (sets_lite at rest), moved side.snap (allows_snap at setting) (sets_snap at rest)) refl

-- the next setting is taken
pub side_more : (at : Side) (settings : List (Side × Setting)) (i : ℕ) (d : Side × Setting) (side next whole : SideSettings) → i < length settings
    → next ≡ side_after at (get_or settings i d) side → side_from at (drop i settings) side ≡ whole → side_from at (drop (i + 1) settings) next ≡ whole
side_more at settings i d side next whole within is so_far =
    ap (λ (other : SideSettings). side_from at (drop (i + 1) settings) other) is
    ∙ step at (get_or settings i d) (drop (i + 1) settings) side
    ∙ ap (λ (rest : List (Side × Setting)). side_from at rest side) (sym (drop_more settings i d within))
    ∙ so_far

or_false : (a : Bool) → a || false ≡ a
or_false true = refl
or_false false = refl

end : (at : Side) (side : SideSettings) → side_from at [] side ≡ side
unfolding side_from
end at side = rw (or_false side.lite, or_false side.snap) refl

-- none is left
pub side_done : (at : Side) (settings : List (Side × Setting)) (i : ℕ) (side whole : SideSettings) → length settings ≤ i
    → side_from at (drop i settings) side ≡ whole → side ≡ whole
side_done at settings i side whole over so_far =
    sym (end at side) ∙ ap (λ (rest : List (Side × Setting)). side_from at rest side) (sym (drop_all i settings over)) ∙ so_far
