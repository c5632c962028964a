-- How channels and restarts are staged: a channel with the m-line of data channels, if there is none yet (RFC 8831, section 6.4).
use Rattle.std.specs.Prelude.{◌≡◌, ℕ, Bool, true, false, List, [], ◌∷◌, ◌++◌, ◌||◌, not, filter, is_some, Result, Ok, Err}
use Rattle.rtc_wire.specs.declared.channel_config.ChannelConfig.{ChannelConfig}
use Rattle.rtc_sdp_values.specs.declared.ice_creds.IceCreds.{IceCreds}
use Rattle.rtc_sdp_values.specs.declared.line_row.LineRow.{LineRow}
use Rattle.rtc_channels.specs.Channels.{Channels, is_bad_channel, with_channel}
use Rattle.rtc_channels.specs.declared.channel_error.ChannelError.{ChannelError}
use Rattle.rtc_channels.specs.declared.channel_error.ChannelError.TheVariants.{BadChannel, Alloc}
use Rattle.rtc_peer_rows.specs.Table.{app_of}
use Rattle.rtc_change.specs.declared.change.Change.{Change}
use Rattle.rtc_change.specs.declared.change.Change.TheVariants.{AddApp, AddChannel, IceRestart}
use Rattle.rtc_change.specs.PendingOffer.{contains_add_app, restart_of}
use Rattle.rtc_parts.specs.Draws.{Draws}
use Rattle.rtc_peer_core.specs.Names.{is_held, next_mid}

-- whether neither a row nor a staged line is one of data channels
abbrev pub lacks_app : List LineRow → List Change → Bool
lacks_app rows staged = not (is_some (app_of rows) || contains_add_app staged)

module _ {N : Type 0} (draws : Draws N) where
  -- the m-line of data channels, if it is missing
  abbrev pub lacking_app : List LineRow → List Change → N → Bool → List Change
  lacking_app rows staged ids true = AddApp (next_mid draws rows staged ids) ∷ []
  lacking_app rows staged ids false = []

  -- its mid is drawn
  abbrev pub after_app : N → Bool → N
  after_app ids true = draws.after ids
  after_app ids false = ids

  -- A channel is made and staged, or refused; if memory runs out, nothing has changed.
  abbrev pub StagesChannel : List LineRow → N → List Change → Channels → ChannelConfig → Result ℕ ChannelError → N → List Change
      → Channels → Type 0
  StagesChannel rows ids staged held config (Ok id) ids' staged' held' =
      (is_bad_channel held config ≡ false)
      × (id ≡ held.given)
      × (held' ≡ with_channel held config)
      × (staged' ≡ staged ++ (lacking_app rows staged ids (lacks_app rows staged) ++ AddChannel id config ∷ []))
      × (ids' ≡ after_app ids (lacks_app rows staged))
      × (lacks_app rows staged ≡ true → is_held rows staged (next_mid draws rows staged ids) ≡ false)
  StagesChannel rows ids staged held config (Err BadChannel) ids' staged' held' =
      (is_bad_channel held config ≡ true) × (held' ≡ held) × (staged' ≡ staged) × (ids' ≡ ids)
  StagesChannel rows ids staged held config (Err Alloc) ids' staged' held' = (held' ≡ held) × (staged' ≡ staged) × (ids' ≡ ids)

abbrev pub is_kept_by_restart : Change → Bool
is_kept_by_restart change = not (is_some (restart_of change))

-- the changes with a restart of ICE, in place of one that was staged
abbrev pub with_restart : IceCreds → Bool → List Change → List Change
with_restart creds keeps staged = filter is_kept_by_restart staged ++ IceRestart creds keeps ∷ []
