-- Slots by whether they are full.
use Rattle.std.proofs.Common.{◌≡◌, true, false, true≢false, Option, Some, None, is_some, refl, sym}
use Rattle.std.specs.declared.alloc.Global.{Global}
use Rattle.rtc_c_handle.specs.Calls.{PutsPeer, HasOne}
use Rattle.rtc_c_handle.specs.declared.held.Held.{Held}
use Rattle.rtc_c_handle.specs.declared.settings.Settings.{Settings}
use Rattle.rtc_c_handle.specs.declared.status.Status.TheVariants.{HasPeer}

pub is_none : (slot : Option Held) → is_some slot ≡ false → slot ≡ None
is_none None empty = refl
is_none (Some held) empty = absurd (true≢false empty)

pub has_one : (alloc : Global) (settings : Settings) (slot after : Option Held) → is_some slot ≡ true → after ≡ slot
    → PutsPeer alloc settings slot HasPeer after
has_one alloc settings (Some held) after full same = HasOne held refl refl same
has_one alloc settings None after full same = absurd (true≢false (sym full))
