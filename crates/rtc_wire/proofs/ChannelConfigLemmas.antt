-- The texts of a config that fits an open message.
use Rattle.std.proofs.Common.{◌≡◌, ◌≤◌, ◌&&◌, not, ℕ, Bool, true, false, length, refl, arith}
use Rattle.std.specs.Prelude.{nat_lt}
use Rattle.std.proofs.lemmas.Bool.Decides.{nat_tests}
use Rattle.rtc_wire.specs.declared.channel_config.ChannelConfig.{ChannelConfig}
use Rattle.rtc_wire.specs.ChannelConfig.{is_overlong, fits_open_message}

no_longer : (n : ℕ) → nat_lt 65535 n ≡ false → n ≤ 65535
no_longer n h = grind (arith, nat_tests)

no_shorter : (n : ℕ) → n ≤ 65535 → nat_lt 65535 n ≡ false
no_shorter n h = grind (arith, nat_tests)

neither : (a b : Bool) → not a && not b ≡ true → (a ≡ false) × (b ≡ false)
neither true b h = absurd (let e : false ≡ true = h in cc)
neither false true h = absurd (let e : false ≡ true = h in cc)
neither false false h = (refl, refl)

pub label_fits : (config : ChannelConfig) → fits_open_message config ≡ true → length config.label ≤ 65535
label_fits config fits = no_longer (length config.label) (neither (is_overlong config.label) (is_overlong config.protocol) fits).0

pub protocol_fits : (config : ChannelConfig) → fits_open_message config ≡ true → length config.protocol ≤ 65535
protocol_fits config fits = no_longer (length config.protocol) (neither (is_overlong config.label) (is_overlong config.protocol) fits).1

pub both_fit : (config : ChannelConfig) → length config.label ≤ 65535 → length config.protocol ≤ 65535 → fits_open_message config ≡ true
both_fit config label protocol = rw (no_shorter (length config.label) label) (rw (no_shorter (length config.protocol) protocol) refl)
