-- A channel that was made of a config is among the channels, and an open message has room for its label and its protocol.
use Rattle.std.proofs.Common.{◌≡◌, ◌≤◌, ◌==◌, ◌||◌, ℕ, Bool, true, false, [], ◌∷◌, length, refl, arith}
use Rattle.std.specs.Prelude.{nat_lt}
use Rattle.std.proofs.lemmas.Bool.Decides.{nat_tests}
use Rattle.std.proofs.lemmas.List.Folds.{list_any-append}
use Rattle.rtc_wire.specs.declared.channel_config.ChannelConfig.{ChannelConfig}
use Rattle.rtc_wire.specs.ChannelConfig.{is_overlong}
use Rattle.rtc_channels.specs.Channels.{Channels, has_channel_id, has_channel, is_bad_channel, unconfirmed, with_channel}

last_is_there : (b : Bool) (id : ℕ) → (b || ((id == id) || false)) ≡ true
last_is_there true id = refl
last_is_there false id = let same : (id == id) ≡ true = grind (arith, nat_tests) in rw same refl

-- the channel that was made is there
pub made_channel_is_there : (held made : Channels) (config : ChannelConfig) (id : ℕ) → id ≡ held.given → made ≡ with_channel held config
    → has_channel id made.rows ≡ true
made_channel_is_there held made config id id_is made_is =
    let last : (has_channel held.given held.rows || ((held.given == held.given) || false)) ≡ true =
    last_is_there (has_channel held.given held.rows) held.given in
    rw (id_is, made_is, list_any-append (has_channel_id held.given) held.rows (unconfirmed held.given config ∷ [])) last

no_longer : (n : ℕ) → nat_lt 65535 n ≡ false → n ≤ 65535
no_longer n h = grind (arith, nat_tests)

or_parts : (a b : Bool) → (a || b) ≡ false → (a ≡ false) × (b ≡ false)
or_parts true b e = absurd cc
or_parts false b e = (refl, e)

pub label_of_made_fits : (held : Channels) (config : ChannelConfig) → is_bad_channel held config ≡ false → length config.label ≤ 65535
label_of_made_fits held config fits = no_longer (length config.label) (or_parts (is_overlong config.label) _ fits).0

pub protocol_of_made_fits : (held : Channels) (config : ChannelConfig) → is_bad_channel held config ≡ false → length config.protocol ≤ 65535
protocol_of_made_fits held config fits =
    no_longer (length config.protocol) (or_parts (is_overlong config.protocol) _ (or_parts (is_overlong config.label) _ fits).1).0
