-- Channels that are confirmed one after another.
use Rattle.std.proofs.Common.{◌≡◌, ◌∙◌, ℕ, Bool, true, false, List, [], ◌∷◌, ◌++◌, refl, ap}
use Rattle.std.specs.Prelude.{filter}
use Rattle.std.proofs.lemmas.List.Elements.{filter-append}
use Rattle.rtc_wire.specs.declared.channel_config.ChannelConfig.{ChannelConfig}
use Rattle.rtc_wire.specs.ChannelConfig.{fits_open_message}
use Rattle.rtc_change.specs.declared.change.Change.{Change}
use Rattle.rtc_change.specs.declared.change.Change.TheVariants.{AddMedia, AddApp, AddChannel, Direction, IceRestart}
use Rattle.rtc_change.specs.PendingOffer.{new_channels}
use Rattle.rtc_channels.specs.Channels.{Channel, Channels, has_channel_id, has_channel, confirmed, all_confirmed, rows_confirmed}
use Rattle.rtc_peer_core.specs.Calls.{fitting_channels}

-- where a number is no row's, nothing is confirmed
rows_missed : (id : ℕ) (config : ChannelConfig) (rows : List Channel) → has_channel id rows ≡ false → rows_confirmed id config rows ≡ rows
rows_missed id config [] none = refl
rows_missed id config (row ∷ rows) none = by (rows_missed id config rows) (has_channel_id id row) refl none
  where
    by : (has_channel id rows ≡ false → rows_confirmed id config rows ≡ rows) → (b : Bool) → has_channel_id id row ≡ b → has_channel id (row ∷ rows) ≡ false → rows_confirmed id config (row ∷ rows) ≡ row ∷ rows
    by rest true is none = absurd (let e : true ≡ false = rw is at none in cc)
    by rest false is none = rw is (ap (λ (more : List Channel). row ∷ more) (rest (rw is at none)))

pub missed : (id : ℕ) (config : ChannelConfig) (held : Channels) → has_channel id held.rows ≡ false → confirmed id config held ≡ held
missed id config held none = ap (λ (rows : List Channel). record held { rows = rows }) (rows_missed id config held.rows none)

all_confirmed-append : (first rest : List (ℕ × ChannelConfig)) (held : Channels) → all_confirmed (first ++ rest) held ≡ all_confirmed rest (all_confirmed first held)
all_confirmed-append [] rest held = refl
all_confirmed-append (channel ∷ first) rest held = all_confirmed-append first rest (confirmed channel.0 channel.1 held)

new_channels-append : (first rest : List Change) → new_channels (first ++ rest) ≡ new_channels first ++ new_channels rest
new_channels-append [] rest = refl
new_channels-append (AddMedia media ∷ first) rest = new_channels-append first rest
new_channels-append (AddApp mid ∷ first) rest = new_channels-append first rest
new_channels-append (AddChannel id config ∷ first) rest = ap (λ (channels : List (ℕ × ChannelConfig)). (id, config) ∷ channels) (new_channels-append first rest)
new_channels-append (Direction mid dir ∷ first) rest = new_channels-append first rest
new_channels-append (IceRestart creds keeps ∷ first) rest = new_channels-append first rest

-- those of changes, then those of more changes
pub confirmed_more : (first rest : List Change) (held : Channels) → all_confirmed (fitting_channels (first ++ rest)) held ≡ all_confirmed (fitting_channels rest) (all_confirmed (fitting_channels first) held)
confirmed_more first rest held =
    ap (λ (channels : List (ℕ × ChannelConfig)). all_confirmed channels held)
    (ap (filter (λ channel. fits_open_message channel.1)) (new_channels-append first rest) ∙ filter-append (λ channel. fits_open_message channel.1) (new_channels first) (new_channels rest))
    ∙ all_confirmed-append (fitting_channels first) (fitting_channels rest) held

-- a channel that no open message has room for
pub unfitting : (id : ℕ) (config : ChannelConfig) (held : Channels) → fits_open_message config ≡ false → all_confirmed (fitting_channels (AddChannel id config ∷ [])) held ≡ held
unfitting id config held overlong = rw overlong refl

-- a channel that there is room for
pub fitting : (id : ℕ) (config : ChannelConfig) (held : Channels) → fits_open_message config ≡ true → all_confirmed (fitting_channels (AddChannel id config ∷ [])) held ≡ confirmed id config held
fitting id config held room = rw room refl
