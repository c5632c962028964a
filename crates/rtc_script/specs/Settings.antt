-- What the settings of a script say of each side.
use Rattle.std.specs.Prelude.{◌&&◌, ◌*◌, ◌^◌, ◌-◌, if◌then◌else◌, min, ℕ, Bool, true, false, List, [], ◌∷◌, Option, Some, None}
use Rattle.std.specs.List.{list_any}
use Rattle.rtc_run_history.specs.declared.side.Side.{Side}
use Rattle.rtc_run_history.specs.Sides.{same_side}
use Rattle.rtc_script.specs.declared.setting.Setting.{Setting}
use Rattle.rtc_script.specs.declared.setting.Setting.TheVariants.{Lite, Snap, Buffer, MaxMessage, Stats, Polite}
use Rattle.rtc_script.specs.declared.side_settings.SideSettings.{SideSettings}

abbrev pub is_lite_setting : Setting → Bool
is_lite_setting Lite = true
is_lite_setting Snap = false
is_lite_setting (Buffer size) = false
is_lite_setting (MaxMessage size) = false
is_lite_setting (Stats millis) = false
is_lite_setting (Polite polite) = false

abbrev pub makes_lite : Side → Side × Setting → Bool
makes_lite at setting = same_side setting.0 at && is_lite_setting setting.1

-- whether settings make the agent of a side lite
abbrev pub sets_lite : Side → List (Side × Setting) → Bool
sets_lite at settings = list_any (makes_lite at) settings

abbrev pub is_snap_setting : Setting → Bool
is_snap_setting Lite = false
is_snap_setting Snap = true
is_snap_setting (Buffer size) = false
is_snap_setting (MaxMessage size) = false
is_snap_setting (Stats millis) = false
is_snap_setting (Polite polite) = false

abbrev pub allows_snap : Side → Side × Setting → Bool
allows_snap at setting = same_side setting.0 at && is_snap_setting setting.1

-- whether settings let the association of a side be started by session descriptions
abbrev pub sets_snap : Side → List (Side × Setting) → Bool
sets_snap at settings = list_any (allows_snap at) settings

-- a number of a side behind a setting, by what settings make of it, and behind all settings: the last one of the side counts
abbrev pub number_after : (Setting → ℕ → ℕ) → Side → Side × Setting → ℕ → ℕ
number_after by at setting n = if same_side setting.0 at then by setting.1 n else n

abbrev pub number_from : (Setting → ℕ → ℕ) → Side → List (Side × Setting) → ℕ → ℕ
number_from by at [] n = n
number_from by at (setting ∷ settings) n = number_from by at settings (number_after by at setting n)

-- how many bytes may be buffered by a setting, or else as before
abbrev pub buffer_by : Setting → ℕ → ℕ
buffer_by Lite size = size
buffer_by Snap size = size
buffer_by (Buffer set) size = set
buffer_by (MaxMessage set) size = size
buffer_by (Stats millis) size = size
buffer_by (Polite polite) size = size

-- how many bytes a side may buffer by the settings, 131072 if none says so
abbrev pub buffer_set : Side → List (Side × Setting) → ℕ
buffer_set at settings = number_from buffer_by at settings 131072

-- the longest message that is taken by a setting, or else as before
abbrev pub max_message_by : Setting → ℕ → ℕ
max_message_by Lite size = size
max_message_by Snap size = size
max_message_by (Buffer set) size = size
max_message_by (MaxMessage set) size = set
max_message_by (Stats millis) size = size
max_message_by (Polite polite) size = size

-- the longest message that a side takes by the settings, 262144 bytes if none says so
abbrev pub max_message_set : Side → List (Side × Setting) → ℕ
max_message_set at settings = number_from max_message_by at settings 262144

-- the nanoseconds between two rounds of statistics by a setting, at most 2^64 - 1, or else as before
abbrev pub interval_by : Setting → Option ℕ → Option ℕ
interval_by Lite interval = interval
interval_by Snap interval = interval
interval_by (Buffer size) interval = interval
interval_by (MaxMessage size) interval = interval
interval_by (Stats millis) interval = Some (min (millis * 1000000) (2 ^ 64 - 1))
interval_by (Polite polite) interval = interval

abbrev pub interval_after : Side → Side × Setting → Option ℕ → Option ℕ
interval_after at setting interval = if same_side setting.0 at then interval_by setting.1 interval else interval

abbrev pub interval_from : Side → List (Side × Setting) → Option ℕ → Option ℕ
interval_from at [] interval = interval
interval_from at (setting ∷ settings) interval = interval_from at settings (interval_after at setting interval)

-- the nanoseconds between two rounds of statistics of a side by the settings; none are reported if none says so
abbrev pub interval_set : Side → List (Side × Setting) → Option ℕ
interval_set at settings = interval_from at settings None

-- the role on glare by a setting, or else as before
abbrev pub polite_by : Setting → Option Bool → Option Bool
polite_by Lite role = role
polite_by Snap role = role
polite_by (Buffer size) role = role
polite_by (MaxMessage size) role = role
polite_by (Stats millis) role = role
polite_by (Polite polite) role = Some polite

abbrev pub polite_after : Side → Side × Setting → Option Bool → Option Bool
polite_after at setting role = if same_side setting.0 at then polite_by setting.1 role else role

abbrev pub polite_from : Side → List (Side × Setting) → Option Bool → Option Bool
polite_from at [] role = role
polite_from at (setting ∷ settings) role = polite_from at settings (polite_after at setting role)

-- the role of a side on glare by the settings; it has none if none says so
abbrev pub polite_set : Side → List (Side × Setting) → Option Bool
polite_set at settings = polite_from at settings None

-- what a side is set to by the settings
abbrev pub side_settings : Side → List (Side × Setting) → SideSettings
side_settings at settings = record {
  lite = sets_lite at settings;
  snap = sets_snap at settings;
  max_buffered = buffer_set at settings;
  max_message_size = max_message_set at settings;
  stats_interval = interval_set at settings;
  polite = polite_set at settings;
}
