-- What each call makes of what negotiation reads of a peer, whatever its parts are.
use Rattle.std.specs.Prelude.{◌≡◌, ℕ, Bool, true, false, List, [], ◌∷◌, ◌++◌, is_some, Option, Some, None, Result, Ok, Err, IfSome}
use Rattle.std.specs.declared.alloc.AllocError.{AllocError}
use Rattle.rtc_wire.specs.declared.channel_config.ChannelConfig.{ChannelConfig}
use Rattle.rtc_wire_text.specs.Tokens.{is_short_token}
use Rattle.rtc_sdp_values.specs.Sdp.{sdp_sctp_init}
use Rattle.rtc_sdp_values.specs.declared.direction.Direction.{Direction}
use Rattle.rtc_sdp_values.specs.declared.direction.Direction.TheVariants.{Inactive}
use Rattle.rtc_sdp_values.specs.declared.ice_creds.IceCreds.{IceCreds}
use Rattle.rtc_sdp_values.specs.declared.sdp.Sdp.{Sdp}
use Rattle.rtc_sctp_values.specs.InitChunk.{chunk_text, chunk_of_text}
use Rattle.rtc_channels.specs.Channels.{is_bad_channel, with_channel, all_confirmed}
use Rattle.rtc_change.specs.declared.add_media.AddMedia.{AddMedia as Media}
use Rattle.rtc_change.specs.declared.change.Change.{Change}
use Rattle.rtc_change.specs.declared.change.Change.TheVariants.{AddMedia, AddApp, AddChannel, Direction as SetDirection}
use Rattle.rtc_change.specs.PendingOffer.{PendingOffer, do_offer}
use Rattle.rtc_peer_rows.specs.RowChanges.{RowChange, directed_row, stopped_row, is_changed, changed_of}
use Rattle.rtc_peer_rows.specs.Table.{row_of}
use Rattle.rtc_peer_core.specs.declared.rtc_error.RtcError.{RtcError}
use Rattle.rtc_peer_core.specs.declared.rtc_error.RtcError.TheVariants.{RemoteSdp, Sdp as SdpRefused, Dtls, Sctp, Net, Media as MediaFailed, ChangesOutOfOrder, BadChannel, Alloc, Glare}
use Rattle.rtc_peer_core.specs.Calls.{Wanted, raised, fitting_channels, noted_of}
use Rattle.rtc_peer_core.specs.Formed.{AreSdpCreds, IsFormedSimulcast, IsFormedAdded}
use Rattle.rtc_peer_core.specs.MadeSdp.{offer_sdp}
use Rattle.rtc_peer_core.specs.Names.{is_held}
use Rattle.rtc_peer_core.specs.SdpHalves.{offer_init, offered_snap}
use Rattle.rtc_peer_core.specs.Staging.{lacks_app, with_restart}
use Rattle.rtc_peer_core.specs.Stance.{Stance}

-- a mid that may be given to a staged line
abbrev pub IsFreeMid : Stance → List ℕ → Type 0
IsFreeMid s mid = (is_held s.lines s.staged mid ≡ false) × (is_short_token mid ≡ true)

-- a media line of this mid is staged
pub record StandsMedia (s : Stance) (wanted : Wanted) (mid : List ℕ) (t : Stance) : Type 0 where
  pub media : Media
  pub its_mid : media.mid ≡ mid
  pub kind : media.kind ≡ wanted.kind
  pub dir : media.dir ≡ wanted.dir
  pub free : IsFreeMid s mid
  pub formed : IfSome wanted.simulcast IsFormedSimulcast → IsFormedAdded media
  pub rest : t ≡ record s { staged = s.staged ++ AddMedia media ∷ [] }

abbrev pub StanceAddsMedia : Stance → Wanted → Result (List ℕ) AllocError → Stance → Type 0
StanceAddsMedia s wanted (Ok mid) t = StandsMedia s wanted mid t
StanceAddsMedia s wanted (Err error) t = t ≡ s

abbrev pub StanceChangesLine : RowChange → Direction → Stance → List ℕ → Result Bool AllocError → Stance → Type 0
StanceChangesLine change to s mid (Ok true) t =
    (is_changed change (row_of s.lines mid) ≡ true)
    × (t ≡ record s {
      lines = changed_of change mid s.lines;
      staged = s.staged ++ SetDirection mid to ∷ [];
      undo = noted_of (row_of s.lines mid) s.undo;
    })
StanceChangesLine change to s mid (Ok false) t = (is_changed change (row_of s.lines mid) ≡ false) × (t ≡ s)
StanceChangesLine change to s mid (Err error) t = t ≡ s

abbrev pub StanceSetsDirection : Stance → List ℕ → Direction → Result Bool AllocError → Stance → Type 0
StanceSetsDirection s mid dir result t = StanceChangesLine (directed_row dir) dir s mid result t

abbrev pub StanceStopsMedia : Stance → List ℕ → Result Bool AllocError → Stance → Type 0
StanceStopsMedia s mid result t = StanceChangesLine stopped_row Inactive s mid result t

-- the line of the data channels that is staged with a channel: one where it is needed, and none else
abbrev pub IsAppFor : Stance → Bool → List Change → Type 0
IsAppFor s true app = (mid : List ℕ) × (app ≡ AddApp mid ∷ []) × IsFreeMid s mid
IsAppFor s false app = app ≡ []

-- a channel of this number is staged, and waits for a stream
pub record StandsChannel (s : Stance) (config : ChannelConfig) (id : ℕ) (t : Stance) : Type 0 where
  pub good : is_bad_channel s.channels config ≡ false
  pub number : id ≡ s.channels.given
  pub app : List Change
  pub app_for : IsAppFor s (lacks_app s.lines s.staged) app
  pub rest : t ≡ record s {
    channels = with_channel s.channels config;
    rows = s.rows ++ record { id = id; stream = None; generation = 0; is_open = false } ∷ [];
    staged = s.staged ++ (app ++ AddChannel id config ∷ []);
  }

abbrev pub StanceAddsChannel : Stance → ChannelConfig → Result ℕ RtcError → Stance → Type 0
StanceAddsChannel s config (Ok id) t = StandsChannel s config id t
StanceAddsChannel s config (Err BadChannel) t = (is_bad_channel s.channels config ≡ true) × (t ≡ s)
StanceAddsChannel s config (Err Alloc) t = t ≡ s
StanceAddsChannel s config (Err (RemoteSdp why)) t = ⊥
StanceAddsChannel s config (Err (SdpRefused error)) t = ⊥
StanceAddsChannel s config (Err (Dtls error)) t = ⊥
StanceAddsChannel s config (Err (Sctp error)) t = ⊥
StanceAddsChannel s config (Err (Net cause)) t = ⊥
StanceAddsChannel s config (Err (MediaFailed cause)) t = ⊥
StanceAddsChannel s config (Err ChangesOutOfOrder) t = ⊥
StanceAddsChannel s config (Err Glare) t = ⊥

abbrev pub StanceStagesRestart : Stance → Bool → Result IceCreds AllocError → Stance → Type 0
StanceStagesRestart s keeps (Ok creds) t = AreSdpCreds creds × (t ≡ record s { staged = with_restart creds keeps s.staged })
StanceStagesRestart s keeps (Err error) t = t ≡ s

abbrev pub stance_alone : List Change → Stance → Stance
stance_alone [] s = s
stance_alone (change ∷ changes) s = record s {
  staged = [];
  counter = raised s.counter;
  outstanding = false;
  channels = all_confirmed (fitting_channels (change ∷ changes)) s.channels;
}

-- the text of a chunk gives this chunk to who reads it
abbrev pub IsReadBack : List ℕ → Type 0
IsReadBack chunk = chunk_of_text (chunk_text chunk) ≡ Some chunk

-- what is staged is offered; a half of a start by session descriptions that the offer tells may be drawn for it
pub record StandsApplied (s : Stance) (made : Sdp × PendingOffer) (t : Stance) : Type 0 where
  pub offers : do_offer s.staged ≡ true
  pub half : List ℕ
  pub reads : IsReadBack half
  pub offered : made.0 ≡ offer_sdp s (offer_init s half)
  pub token : made.1 ≡ record { id = s.counter; changes = s.staged; says_init = is_some (sdp_sctp_init made.0); undo = s.undo }
  pub rest : t ≡ record s { staged = []; undo = []; counter = raised s.counter; outstanding = true; snap = offered_snap s half }

abbrev pub StanceApplies : Stance → Result (Option (Sdp × PendingOffer)) AllocError → Stance → Type 0
StanceApplies s (Ok None) t = (do_offer s.staged ≡ false) × (t ≡ stance_alone s.staged s)
StanceApplies s (Ok (Some made)) t = StandsApplied s made t
StanceApplies s (Err error) t = t ≡ s
