-- How the changes that wait for the next offer of a peer are staged, and offered.
use Rattle.std.specs.Prelude.{◌≡◌, ℕ, Bool, List, [], ◌∷◌, Some, None, Result, Ok, Err, alloc_error}
use Rattle.rtc_wire.specs.declared.channel_config.ChannelConfig.{ChannelConfig}
use Rattle.rtc_sdp_values.specs.declared.direction.Direction.{Direction as Way}
use Rattle.rtc_sdp_values.specs.declared.ice_creds.IceCreds.{IceCreds}
use Rattle.rtc_sdp_values.specs.declared.media_kind.MediaKind.{MediaKind}
use Rattle.rtc_peer_core.specs.Calls.{Wanted, AddsMedia, AddsChannel, SetsDirection, StopsMedia, StagesRestart, Applies}
use Rattle.rtc_peer_core.specs.declared.rtc_error.RtcError.{RtcError}
use Rattle.rtc_peer_core.specs.declared.rtc_error.RtcError.TheVariants as errors
use Rattle.rtc.specs.PlainPeers.{memory_parts}
use Rattle.rtc_c_handle.specs.HeldPeer.{HeldPeer}
use Rattle.rtc_c_handle.specs.declared.made.Made.{Made}
use Rattle.rtc_c_handle.specs.declared.made.Made.TheVariants.{Offer, Nothing, Failed}
use Rattle.rtc_c_handle.specs.declared.wanted_change.WantedChange.{WantedChange}
use Rattle.rtc_c_handle.specs.declared.wanted_change.WantedChange.TheVariants.{Media, Channel, Direction, Stop, Restart}

-- a media line whose names of stream and track are drawn
abbrev pub unnamed_line : MediaKind → Way → Wanted
unnamed_line kind dir = record { kind = kind; dir = dir; stream = None; track = None; simulcast = None }

-- A media line is added.
abbrev pub AddsUnnamed : MediaKind → Way → HeldPeer → Result (Unit {0}) RtcError → HeldPeer → Type 0
AddsUnnamed kind dir p (Ok done) q = (mid : List ℕ) × AddsMedia memory_parts p (unnamed_line kind dir) (Ok mid) q
AddsUnnamed kind dir p (Err error) q = (error ≡ errors.Alloc) × AddsMedia memory_parts p (unnamed_line kind dir) (Err alloc_error) q

-- A channel is not added: the peer refuses it, or there is no memory for its names.
pub data AddsNoChannel (config : ChannelConfig) (p : HeldPeer) (error : RtcError) (q : HeldPeer) : Type 0 where
  IsRefused : AddsChannel memory_parts p config (Err error) q → AddsNoChannel config p error q
  IsNotCopied : error ≡ errors.Alloc → q ≡ p → AddsNoChannel config p error q

-- A channel is added.
abbrev pub AddsConfigured : ChannelConfig → HeldPeer → Result (Unit {0}) RtcError → HeldPeer → Type 0
AddsConfigured config p (Ok done) q = (id : ℕ) × AddsChannel memory_parts p config (Ok id) q
AddsConfigured config p (Err error) q = AddsNoChannel config p error q

-- The direction of a line is set, if it is live and has another.
abbrev pub TurnsLine : List ℕ → Way → HeldPeer → Result (Unit {0}) RtcError → HeldPeer → Type 0
TurnsLine mid dir p (Ok done) q = (changed : Bool) × SetsDirection p mid dir (Ok changed) q
TurnsLine mid dir p (Err error) q = (error ≡ errors.Alloc) × SetsDirection p mid dir (Err alloc_error) q

-- A line is stopped for good, if it is live.
abbrev pub EndsLine : List ℕ → HeldPeer → Result (Unit {0}) RtcError → HeldPeer → Type 0
EndsLine mid p (Ok done) q = (changed : Bool) × StopsMedia p mid (Ok changed) q
EndsLine mid p (Err error) q = (error ≡ errors.Alloc) × StopsMedia p mid (Err alloc_error) q

-- ICE is restarted.
abbrev pub StagesIceRestart : Bool → HeldPeer → Result (Unit {0}) RtcError → HeldPeer → Type 0
StagesIceRestart keep p (Ok done) q = (creds : IceCreds) × StagesRestart memory_parts p keep (Ok creds) q
StagesIceRestart keep p (Err error) q = (error ≡ errors.Alloc) × StagesRestart memory_parts p keep (Err alloc_error) q

-- One change is staged.
abbrev pub StagesChange : WantedChange → HeldPeer → Result (Unit {0}) RtcError → HeldPeer → Type 0
StagesChange (Media kind dir) p r q = AddsUnnamed kind dir p r q
StagesChange (Channel config) p r q = AddsConfigured config p r q
StagesChange (Direction mid dir) p r q = TurnsLine mid dir p r q
StagesChange (Stop mid) p r q = EndsLine mid p r q
StagesChange (Restart keep) p r q = StagesIceRestart keep p r q

-- A change is staged, and then the others; or it fails, and the others are left out.
pub data StagesNext (first : Result (Unit {0}) RtcError → HeldPeer → Type 0) (others : HeldPeer → Type 0)
    (r : Result (Unit {0}) RtcError) (q : HeldPeer) : Type 0 where
  IsLast : (error : RtcError) → first (Err error) q → r ≡ Err error → StagesNext first others r q
  HasNext : (between : HeldPeer) → first (Ok tt) between → others between → StagesNext first others r q

-- Changes are staged in order, up to the first that fails.
abbrev pub StagesChanges : List WantedChange → HeldPeer → Result (Unit {0}) RtcError → HeldPeer → Type 0
StagesChanges [] p r q = (r ≡ Ok tt) × (q ≡ p)
StagesChanges (change ∷ changes) p r q =
    StagesNext (λ returned b. StagesChange change p returned b) (λ b. StagesChanges changes b r q) r q

-- a peer at which nothing is staged
abbrev pub unstaged : HeldPeer → HeldPeer
unstaged p = record p { staged = []; undo = [] }

-- No offer is made: a change fails, or there is no memory for the offer.
pub data MakesNoOffer (changes : List WantedChange) (p : HeldPeer) (error : RtcError) (q : HeldPeer) : Type 0 where
  IsNotStaged : StagesChanges changes (unstaged p) (Err error) q → MakesNoOffer changes p error q
  IsNotApplied : (between : HeldPeer) → StagesChanges changes (unstaged p) (Ok tt) between → error ≡ errors.Alloc
      → Applies memory_parts between (Err alloc_error) q → MakesNoOffer changes p error q

-- Changes are staged at a peer at which nothing is, and applied.
abbrev pub MakesOffer : List WantedChange → HeldPeer → Made → HeldPeer → Type 0
MakesOffer changes p (Offer offer token) q =
    (between : HeldPeer)
    × StagesChanges changes (unstaged p) (Ok tt) between
    × Applies memory_parts between (Ok (Some (offer.0, token))) q
MakesOffer changes p Nothing q =
    (between : HeldPeer) × StagesChanges changes (unstaged p) (Ok tt) between × Applies memory_parts between (Ok None) q
MakesOffer changes p (Failed error) q = MakesNoOffer changes p error q
