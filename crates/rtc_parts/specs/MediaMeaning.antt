-- What a media part is: what each of its calls does, and what it holds.
use Rattle.std.specs.Prelude.{ℕ, ◌+◌, Bool, List, Option, Result}
use Rattle.std.specs.declared.alloc.AllocError.{AllocError}
use Rattle.rtc_sdp_values.specs.declared.ssrc.Ssrc.{Ssrc}
use Rattle.rtc_parts.specs.declared.reason.Reason.{Reason}
use Rattle.rtc_parts.specs.declared.srtp_profile.SrtpProfile.{SrtpProfile}
use Rattle.rtc_parts.specs.declared.media_error.MediaError.{MediaError}
use Rattle.rtc_parts.specs.declared.media_settings.MediaSettings.{MediaSettings}
use Rattle.rtc_parts.specs.declared.media_update.MediaUpdate.{MediaUpdate}
use Rattle.rtc_parts.specs.declared.stats_snapshot.StatsSnapshot.{StatsSnapshot}

-- E are its events; X, T and W are behind the received streams, the sent streams and the writers that it lends. A mid and a rid are lists
-- of bytes
pub record MediaMeaning (M E X T W : Type 0) : Type 1 where
  -- a part that is as it was made
  pub fresh : M → Type 0
  -- what each call does: the part before, the arguments, the result, the part after
  pub configured : M → MediaSettings → M → Type 0
  pub prepared : M → List MediaUpdate → Result (Unit {0}) AllocError → M → Type 0
  pub committed : M → M → Type 0
  pub line_removed : M → (mid : List ℕ) → M → Type 0
  pub keyed : M → (key : List ℕ) → SrtpProfile → (active : Bool) → Result (Unit {0}) AllocError → M → Type 0
  pub rtp_given : M → (now : ℕ) → (packet : List ℕ) → Result (Unit {0}) AllocError → M → Type 0
  pub rtcp_given : M → (now : ℕ) → (packet : List ℕ) → Result (Unit {0}) AllocError → M → Type 0
  pub timed : M → (now : ℕ) → Result (Unit {0}) MediaError → M → Type 0
  pub told : M → Option E → M → Type 0
  pub told_fallible : M → (now : ℕ) → Result (Option E) MediaError → M → Type 0
  pub gave : M → (now : ℕ) → Option (List ℕ) → M → Type 0
  pub cleared : M → M → Type 0
  pub rtp_shut : M → Result (Unit {0}) AllocError → M → Type 0
  pub stats_visited : M → (now : ℕ) → StatsSnapshot → Result (Unit {0}) AllocError → StatsSnapshot → M → Type 0
  pub red_set : M → (mid : List ℕ) → (on : Bool) → Bool → M → Type 0
  pub twcc_enabled : M → M → Type 0
  pub app_fed : M → (sender media : Ssrc) → (payload : List ℕ) → Result (Unit {0}) AllocError → M → Type 0
  pub pli_fed : M → (sender media : Ssrc) → Result (Unit {0}) AllocError → M → Type 0
  pub rx_removed : M → Ssrc → Bool → M → Type 0
  pub tx_removed : M → Ssrc → Bool → M → Type 0
  -- what each call that lends leaves: what stood behind the reference as it was lent, what was left there, and the part after
  pub writer_lent : M → (mid : List ℕ) → (lent left : W) → M → Type 0
  pub rx_expected : M → Ssrc → (rtx : Option Ssrc) → (mid : List ℕ) → (rid : Option (List ℕ)) → (lent left : X) → M → Type 0
  pub tx_declared : M → Ssrc → (rtx : Option Ssrc) → (mid : List ℕ) → (rid : Option (List ℕ)) → (lent left : T) → M → Type 0
  pub rx_lent : M → Ssrc → (lent left : X) → M → Type 0
  pub tx_lent : M → Ssrc → (lent left : T) → M → Type 0
  pub rx_named_lent : M → (mid : List ℕ) → (rid : Option (List ℕ)) → (lent left : X) → M → Type 0
  pub tx_named_lent : M → (mid : List ℕ) → (rid : Option (List ℕ)) → (lent left : T) → M → Type 0
  pub tx_reset : M → (mid : List ℕ) → (rid : Option (List ℕ)) → Ssrc → (rtx : Option Ssrc) → (lent left : T) → M → Type 0
  -- what the readings return
  pub line : M → (mid : List ℕ) → Option MediaUpdate
  pub used : M → Ssrc → Bool
  pub connected : M → Bool
  pub rtp_closed : M → Bool
  pub wake : M → Option (ℕ × Reason)
  -- whether a call that lends has something to lend
  pub has_writer : M → (mid : List ℕ) → Bool
  pub declines_rx : M → Ssrc → (rtx : Option Ssrc) → (mid : List ℕ) → (rid : Option (List ℕ)) → Bool
  pub declines_tx : M → Ssrc → (rtx : Option Ssrc) → (mid : List ℕ) → (rid : Option (List ℕ)) → Bool
  pub has_rx : M → Ssrc → Bool
  pub has_tx : M → Ssrc → Bool
  pub has_rx_named : M → (mid : List ℕ) → (rid : Option (List ℕ)) → Bool
  pub has_tx_named : M → (mid : List ℕ) → (rid : Option (List ℕ)) → Bool
  pub resets_tx : M → (mid : List ℕ) → (rid : Option (List ℕ)) → Ssrc → (rtx : Option Ssrc) → Bool
  -- whether a stream of either direction is of a line
  pub has_streams : M → (mid : List ℕ) → Bool
  -- what was prepared and is not yet applied
  pub pending : M → List MediaUpdate
  -- how many events and how many datagrams polling still gives, and how often the part failed
  pub held_events : M → ℕ
  pub held_datagrams : M → ℕ
  pub faults : M → ℕ

-- how many outputs polling still gives; a part that holds none is quiet
abbrev pub held_media : {M E X T W : Type 0} → MediaMeaning M E X T W → M → ℕ
held_media m p = m.held_events p + m.held_datagrams p
