-- What an offerer keeps until it accepts the answer, or rolls the offer back (RFC 8829, section 5.7).
use Rattle.std.specs.Prelude.{ℕ, ◌+◌, List, [], ◌∷◌, Bool, true, false, not, Option, Some, None, filter, is_some}
use Rattle.std.specs.List.{list_any}
use Rattle.rtc_wire_text.specs.Fields.{first}
use Rattle.rtc_wire.specs.declared.channel_config.ChannelConfig.{ChannelConfig}
use Rattle.rtc_sdp_values.specs.declared.direction.Direction.{Direction as LineDirection}
use Rattle.rtc_sdp_values.specs.declared.ice_creds.IceCreds.{IceCreds}
use Rattle.rtc_sdp_values.specs.declared.line_row.LineRow.{LineRow}
use Rattle.rtc_sdp_values.specs.declared.line_row.LineRow.TheVariants.{Media, App}
use Rattle.rtc_sdp_values.specs.Mids.{is_among}
use Rattle.rtc_change.specs.declared.change.Change.{Change}
use Rattle.rtc_change.specs.declared.change.Change.TheVariants.{AddMedia, AddApp, AddChannel, Direction, IceRestart}

-- the counter as the offer was applied, what the offer changed, whether it had an `a=sctp-init`, and each row that was set or stopped for
-- it, by its mid, with its direction and whether it was stopped before
pub record PendingOffer : Type 0 where
  pub id : ℕ
  pub changes : List Change
  pub says_init : Bool
  pub undo : List (List ℕ × LineDirection × Bool)

-- the mid of the line that a change adds, if it adds one
abbrev pub new_mid : Change → Option (List ℕ)
new_mid (AddMedia media) = Some media.mid
new_mid (AddApp mid) = Some mid
new_mid (AddChannel id config) = None
new_mid (Direction mid dir) = None
new_mid (IceRestart creds keeps) = None

-- the mids of the lines that changes add
abbrev pub added_mids : List Change → List (List ℕ)
added_mids [] = []
added_mids (change ∷ changes) = elim (new_mid change) [
  | None ↦ added_mids changes
  | Some mid ↦ mid ∷ added_mids changes
]

abbrev pub adds_mid : List ℕ → List Change → Bool
adds_mid mid changes = is_among (added_mids changes) mid

-- the row of the line that a change adds at a place, if it adds one: live, and created here
abbrev pub new_row : ℕ → Change → Option LineRow
new_row place (AddMedia media) = Some (Media place media.mid media.kind media.dir false false)
new_row place (AddApp mid) = Some (App place mid)
new_row place (AddChannel id config) = None
new_row place (Direction mid dir) = None
new_row place (IceRestart creds keeps) = None

-- the rows of the lines that changes add, at places from this one on
abbrev pub added_rows : ℕ → List Change → List LineRow
added_rows place [] = []
added_rows place (change ∷ changes) = elim (new_row place change) [
  | None ↦ added_rows place changes
  | Some row ↦ row ∷ added_rows (place + 1) changes
]

-- the channel that a change adds, by its number, with what it is to be opened with
abbrev pub new_channel : Change → Option (ℕ × ChannelConfig)
new_channel (AddMedia media) = None
new_channel (AddApp mid) = None
new_channel (AddChannel id config) = Some (id, config)
new_channel (Direction mid dir) = None
new_channel (IceRestart creds keeps) = None

-- the channels that changes add, in order
abbrev pub new_channels : List Change → List (ℕ × ChannelConfig)
new_channels [] = []
new_channels (change ∷ changes) = elim (new_channel change) [
  | None ↦ new_channels changes
  | Some channel ↦ channel ∷ new_channels changes
]

-- whether a change adds no channel: what no offer says is channels alone
abbrev pub is_offered : Change → Bool
is_offered change = not (is_some (new_channel change))

-- whether changes make an offer
abbrev pub do_offer : List Change → Bool
do_offer changes = list_any is_offered changes

-- the changes without the channels that they add
abbrev pub without_channels : List Change → List Change
without_channels changes = filter is_offered changes

abbrev pub is_add_app : Change → Bool
is_add_app (AddMedia media) = false
is_add_app (AddApp mid) = true
is_add_app (AddChannel id config) = false
is_add_app (Direction mid dir) = false
is_add_app (IceRestart creds keeps) = false

-- whether changes add the m-line of data channels
abbrev pub contains_add_app : List Change → Bool
contains_add_app changes = list_any is_add_app changes

-- the restart that a change asks for: new credentials, and whether the local candidates are kept
abbrev pub restart_of : Change → Option (IceCreds × Bool)
restart_of (AddMedia media) = None
restart_of (AddApp mid) = None
restart_of (AddChannel id config) = None
restart_of (Direction mid dir) = None
restart_of (IceRestart creds keeps) = Some (creds, keeps)

-- the restart among changes; at most one is staged
abbrev pub staged_restart : List Change → Option (IceCreds × Bool)
staged_restart changes = first restart_of changes
