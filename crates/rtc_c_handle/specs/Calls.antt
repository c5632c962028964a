-- What calls from C do with the peer of a slot.
use Rattle.std.specs.Prelude.{◌≡◌, ◌<◌, ℕ, List, [], ◌∷◌, ◌++◌, drop, length, slice_get, Bool, true, false}
use Rattle.std.specs.Prelude.{Option, Some, None, Result, Ok, Err}
use Rattle.std.specs.Str.{IsUtf8}
use Rattle.std.specs.declared.alloc.Global.{Global}
use Rattle.rtc_sdp_values.specs.LineRow.{row_mid}
use Rattle.rtc_sdp_values.specs.declared.line_row.LineRow.{LineRow}
use Rattle.rtc_assoc_state.specs.PlainMeaning.{plain_meaning}
use Rattle.rtc_channels.specs.declared.channel_row.ChannelRow.{ChannelRow}
use Rattle.rtc_peer_core.specs.ChannelRows.{channel_rows}
use Rattle.rtc_peer_core.specs.declared.rtc_error.RtcError.{RtcError}
use Rattle.rtc_peer_transport.specs.Connection.{no_transport}
use Rattle.rtc_sdp_reader.specs.Reading.{reading}
use Rattle.rtc.specs.PlainPeers.{IsPlainPeer}
use Rattle.rtc_c_handle.specs.Negotiation.{TakesOffer, TakesAnswer, RollsOfferBack}
use Rattle.rtc_c_handle.specs.Rows.{channel_entry, line_entry}
use Rattle.rtc_c_handle.specs.Settings.{addr_of, config_of_settings, role_of_number}
use Rattle.rtc_c_handle.specs.Statuses.{status_of_call, status_of_token}
use Rattle.rtc_c_handle.specs.declared.channel_entry.ChannelEntry.{ChannelEntry}
use Rattle.rtc_c_handle.specs.declared.held.Held.{Held}
use Rattle.rtc_c_handle.specs.declared.line_entry.LineEntry.{LineEntry}
use Rattle.rtc_c_handle.specs.declared.output_bytes.OutputBytes.TheVariants.{Nothing}
use Rattle.rtc_c_handle.specs.declared.settings.Settings.{Settings}
use Rattle.rtc_c_handle.specs.declared.status.Status.{Status}
use Rattle.rtc_c_handle.specs.declared.status.Status.TheVariants.{Done, NoMemory, NoPeer, HasPeer, NotUtf8, SmallBuffer, BadNumber, NoRow}
use Rattle.rtc_c_handle.specs.declared.wanted_change.WantedChange.{WantedChange}

-- A new peer of a role, of which nothing was asked yet; or there is no memory, and the slot is empty.
pub data PutsNew (alloc : Global) (settings : Settings) (role : Option Bool) (status : Status) (after : Option Held) : Type 0 where
  IsPut : (held : Held) → status ≡ Done → after ≡ Some held
      → IsPlainPeer alloc (config_of_settings settings role) settings.first (addr_of settings.address) held.rtc.core
      → held.rtc.transport ≡ no_transport true false None → held.token ≡ None → held.text ≡ [] → held.wanted ≡ [] → held.output ≡ Nothing
      → PutsNew alloc settings role status after
  LacksMemory : status ≡ NoMemory → after ≡ None → PutsNew alloc settings role status after

-- A new peer is put into an empty slot; or the slot is unchanged.
pub data PutsPeer (alloc : Global) (settings : Settings) (slot : Option Held) (status : Status) (after : Option Held) : Type 0 where
  HasOne : (held : Held) → slot ≡ Some held → status ≡ HasPeer → after ≡ slot → PutsPeer alloc settings slot status after
  HasNoRole : slot ≡ None → role_of_number settings.role ≡ None → status ≡ BadNumber → after ≡ None
      → PutsPeer alloc settings slot status after
  IsEmptied : (role : Option Bool) → slot ≡ None → role_of_number settings.role ≡ Some role
      → PutsNew alloc settings role status after → PutsPeer alloc settings slot status after

-- A call on the peer of a slot. An empty slot is unchanged.
pub data OnPeer (calls : Held → Status → Held → Type 0) (slot : Option Held) (status : Status) (after : Option Held) : Type 0 where
  IsEmpty : slot ≡ None → status ≡ NoPeer → after ≡ None → OnPeer calls slot status after
  IsCalled : (h g : Held) → slot ≡ Some h → after ≡ Some g → calls h status g → OnPeer calls slot status after

-- The same with a text, whose bytes have to be UTF-8.
pub data OnPeerWithText (text : List ℕ) (calls : Held → Status → Held → Type 0) (slot : Option Held) (status : Status) (after : Option Held)
    : Type 0 where
  IsNoText : ¬ (IsUtf8 text) → status ≡ NotUtf8 → after ≡ slot → OnPeerWithText text calls slot status after
  IsText : IsUtf8 text → OnPeer calls slot status after → OnPeerWithText text calls slot status after

-- The same of a call that fills a row, which is unchanged if the slot is empty.
pub data OnPeerWithRow (R : Type 0) (row : R) (calls : Held → Status → Held → R → Type 0) (slot : Option Held) (status : Status)
    (after : Option Held) (row' : R) : Type 0 where
  HasNoPeer : slot ≡ None → status ≡ NoPeer → after ≡ None → row' ≡ row → OnPeerWithRow R row calls slot status after row'
  FillsRow : (h g : Held) → slot ≡ Some h → after ≡ Some g → calls h status g row' → OnPeerWithRow R row calls slot status after row'

-- An offer is accepted or refused.
pub record OfferGiven (text : List ℕ) (h : Held) (status : Status) (g : Held) : Type 0 where
  pub returned : Result (Unit {0}) RtcError
  pub is_returned : status ≡ status_of_call returned
  pub answers : TakesOffer (reading text) h returned g
  pub token : g.token ≡ h.token
  pub connection : g.rtc.transport ≡ h.rtc.transport
  pub wanted : g.wanted ≡ h.wanted
  pub output : g.output ≡ h.output

-- An answer is given.
pub record AnswerGiven (text : List ℕ) (h : Held) (status : Status) (g : Held) : Type 0 where
  pub returned : Result Bool RtcError
  pub is_returned : status ≡ status_of_token returned
  pub takes : TakesAnswer (reading text) h returned g

-- The offer of this side is rolled back.
pub record OfferTakenBack (h : Held) (status : Status) (g : Held) : Type 0 where
  pub returned : Result Bool RtcError
  pub is_returned : status ≡ status_of_token returned
  pub takes_back : RollsOfferBack h returned g

-- A change is kept for the next offer, or there is no memory for it.
pub data WantsChange (change : WantedChange) (h : Held) (status : Status) (g : Held) : Type 0 where
  IsWanted : status ≡ Done → g ≡ record h { wanted = h.wanted ++ change ∷ [] } → WantsChange change h status g
  IsNotWanted : status ≡ NoMemory → g ≡ h → WantsChange change h status g

-- The changes that wait for the next offer are dropped.
abbrev pub DiscardsChanges : Held → Status → Held → Type 0
DiscardsChanges h status g = (status ≡ Done) × (g ≡ record h { wanted = [] })

-- The change that arguments stand for is kept; arguments that stand for none are refused, and nothing changes.
abbrev pub WantsRead : Result WantedChange Status → Option Held → Status → Option Held → Type 0
WantsRead (Err refusal) slot status after = (status ≡ refusal) × (after ≡ slot)
WantsRead (Ok change) slot status after = OnPeer (λ h returned g. WantsChange change h returned g) slot status after

-- Bytes are copied to the start of a buffer, whose rest is unchanged; or it is too small for them, and unchanged.
abbrev pub Puts : List ℕ → List ℕ → Status → List ℕ → Type 0
Puts bytes out Done after = after ≡ bytes ++ drop (length bytes) out
Puts bytes out SmallBuffer after = (length out < length bytes) × (after ≡ out)
Puts bytes out status after = ⊥

-- Bytes of a peer are copied into a buffer, and counted. Of an empty slot nothing is copied.
abbrev pub CopiesBytes : (Held → List ℕ) → Option Held → Status → List ℕ → ℕ → List ℕ → ℕ → Type 0
CopiesBytes bytes None status out size after returned = (status ≡ NoPeer) × (after ≡ out) × (returned ≡ size)
CopiesBytes bytes (Some held) status out size after returned = (returned ≡ length (bytes held)) × Puts (bytes held) out status after

-- The row of an m-line is copied, with its mid, if there is one.
abbrev pub CopiesLine : Option LineRow → Status → (row row' : LineEntry) (out out' : List ℕ) (size size' : ℕ) → Type 0
CopiesLine None status row row' out out' size size' = (status ≡ NoRow) × (row' ≡ row) × (out' ≡ out) × (size' ≡ size)
CopiesLine (Some line) status row row' out out' size size' =
    (row' ≡ line_entry line) × (size' ≡ length (row_mid line)) × Puts (row_mid line) out status out'

-- The row of a channel is copied, if there is one.
abbrev pub CopiesChannel : Option ChannelRow → Status → (row row' : ChannelEntry) → Type 0
CopiesChannel None status row row' = (status ≡ NoRow) × (row' ≡ row)
CopiesChannel (Some channel) status row row' = (status ≡ Done) × (row' ≡ channel_entry channel)

-- The row of the m-line of a number is copied. Of an empty slot nothing is.
abbrev pub CopiesLineOf : ℕ → Option Held → Status → (row row' : LineEntry) (out out' : List ℕ) (size size' : ℕ) → Type 0
CopiesLineOf number None status row row' out out' size size' = (status ≡ NoPeer) × (row' ≡ row) × (out' ≡ out) × (size' ≡ size)
CopiesLineOf number (Some held) status row row' out out' size size' =
    CopiesLine (slice_get held.rtc.core.lines number) status row row' out out' size size'

-- The row of the channel of a number is copied, in order of their ids. Of an empty slot nothing is.
abbrev pub CopiesChannelOf : ℕ → Option Held → Status → (row row' : ChannelEntry) → Type 0
CopiesChannelOf number None status row row' = (status ≡ NoPeer) × (row' ≡ row)
CopiesChannelOf number (Some held) status row row' =
    CopiesChannel (slice_get (channel_rows plain_meaning held.rtc.core.sctp held.rtc.core.channels) number) status row row'

-- A text about the status of a number is copied, if there is one.
abbrev pub CopiesStatus : (Status → List ℕ) → Option Status → Status → (out out' : List ℕ) (size size' : ℕ) → Type 0
CopiesStatus text None status out out' size size' = (status ≡ BadNumber) × (out' ≡ out) × (size' ≡ size)
CopiesStatus text (Some about) status out out' size size' = (size' ≡ length (text about)) × Puts (text about) out status out'
