-- What staged changes add: their lines one by one, in order.
use Rattle.std.proofs.Common.{◌≡◌, ◌+◌, ℕ, List, [], ◌∷◌, ◌++◌, length, refl, ap, suc, reverse, append_assoc, Option, Some, None}
use Rattle.std.specs.Option.{option_to_list}
use Rattle.std.proofs.lemmas.List.{reverse-append}
use Rattle.std.proofs.lemmas.List.Elements.{filter-append}
use Rattle.rtc_wire.specs.declared.channel_config.ChannelConfig.{ChannelConfig}
use Rattle.rtc_change.specs.declared.change.Change.{Change}
use Rattle.rtc_change.specs.declared.change.Change.TheVariants.{AddMedia, AddApp, AddChannel, Direction, IceRestart}
use Rattle.rtc_change.specs.PendingOffer.{added_mids, added_rows, new_channel, new_channels, is_offered, without_channels}

pub added_mids-append : (changes more : List Change) → added_mids (changes ++ more) ≡ added_mids changes ++ added_mids more
added_mids-append [] more = refl
added_mids-append (AddMedia media ∷ changes) more = ap (λ mids. media.mid ∷ mids) (added_mids-append changes more)
added_mids-append (AddApp mid ∷ changes) more = ap (λ mids. mid ∷ mids) (added_mids-append changes more)
added_mids-append (AddChannel id config ∷ changes) more = added_mids-append changes more
added_mids-append (Direction mid dir ∷ changes) more = added_mids-append changes more
added_mids-append (IceRestart creds keeps ∷ changes) more = added_mids-append changes more

-- a row for each mid
pub length-added_rows : (place : ℕ) (changes : List Change) → length (added_rows place changes) ≡ length (added_mids changes)
length-added_rows place [] = refl
length-added_rows place (AddMedia media ∷ changes) = ap suc (length-added_rows (place + 1) changes)
length-added_rows place (AddApp mid ∷ changes) = ap suc (length-added_rows (place + 1) changes)
length-added_rows place (AddChannel id config ∷ changes) = length-added_rows place changes
length-added_rows place (Direction mid dir ∷ changes) = length-added_rows place changes
length-added_rows place (IceRestart creds keeps ∷ changes) = length-added_rows place changes

pub new_channels-append : (changes more : List Change) → new_channels (changes ++ more) ≡ new_channels changes ++ new_channels more
new_channels-append [] more = refl
new_channels-append (AddMedia media ∷ changes) more = new_channels-append changes more
new_channels-append (AddApp mid ∷ changes) more = new_channels-append changes more
new_channels-append (AddChannel id config ∷ changes) more = ap (λ (channels : List (ℕ × ChannelConfig)). (id, config) ∷ channels) (new_channels-append changes more)
new_channels-append (Direction mid dir ∷ changes) more = new_channels-append changes more
new_channels-append (IceRestart creds keeps ∷ changes) more = new_channels-append changes more

new_channels-one : (change : Change) → new_channels (change ∷ []) ≡ option_to_list (new_channel change)
new_channels-one (AddMedia media) = refl
new_channels-one (AddApp mid) = refl
new_channels-one (AddChannel id config) = refl
new_channels-one (Direction mid dir) = refl
new_channels-one (IceRestart creds keeps) = refl

reverse_option : {A : Type 0} (found : Option A) → reverse (option_to_list found) ≡ option_to_list found
reverse_option None = refl
reverse_option (Some one) = refl

-- the channels of the last change come first
pub channels_step : (channels channels' all : List (ℕ × ChannelConfig)) (staged staged' : List Change) (change : Change) → staged ≡ staged' ++ change ∷ []
    → channels' ≡ channels ++ option_to_list (new_channel change) → channels ++ reverse (new_channels staged) ≡ all → channels' ++ reverse (new_channels staged') ≡ all
channels_step channels channels' all staged staged' change parted more held =
    let last : reverse (new_channels staged) ≡ option_to_list (new_channel change) ++ reverse (new_channels staged') =
    rw (parted, new_channels-append staged' (change ∷ []), new_channels-one change, reverse-append (new_channels staged') (option_to_list (new_channel change)), reverse_option (new_channel change)) refl in
    rw (more, append_assoc channels (option_to_list (new_channel change)) (reverse (new_channels staged')), ← last) held

-- the others stay in order
pub others_step : (others others' all staged staged' : List Change) (change : Change) → staged ≡ staged' ++ change ∷ []
    → others' ≡ others ++ without_channels (change ∷ []) → without_channels staged ++ reverse others ≡ all → without_channels staged' ++ reverse others' ≡ all
others_step others others' all staged staged' change parted more held =
    let both : reverse others' ≡ without_channels (change ∷ []) ++ reverse others =
    rw (more, reverse-append others (without_channels (change ∷ [])), reverse_one change) refl in
    let last : without_channels staged ≡ without_channels staged' ++ without_channels (change ∷ []) = rw (parted, filter-append is_offered staged' (change ∷ [])) refl in
    rw (both, ← append_assoc (without_channels staged') (without_channels (change ∷ [])) (reverse others), ← last) held
  where
    reverse_one : (change : Change) → reverse (without_channels (change ∷ [])) ≡ without_channels (change ∷ [])
    reverse_one (AddMedia media) = refl
    reverse_one (AddApp mid) = refl
    reverse_one (AddChannel id config) = refl
    reverse_one (Direction mid dir) = refl
    reverse_one (IceRestart creds keeps) = refl
