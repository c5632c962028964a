-- The numbers of the channels that staged changes and the tokens of a side add.
use Rattle.std.proofs.Common.{◌≡◌, ◌++◌, ◌∷◌, cond, ℕ, zero, suc, Bool, true, false, List, [], Option, Some, None, refl, subst, sym}
use Rattle.std.specs.Prelude.{slice_get, slice_set}
use Rattle.std.specs.List.{filter}
use Rattle.rtc_wire.specs.declared.channel_config.ChannelConfig.{ChannelConfig}
use Rattle.rtc_sdp_values.specs.declared.ice_creds.IceCreds.{IceCreds}
use Rattle.rtc_change.specs.declared.change.Change.{Change}
use Rattle.rtc_change.specs.declared.change.Change.TheVariants.{AddMedia, AddApp, AddChannel, Direction, IceRestart}
use Rattle.rtc_change.specs.PendingOffer.{PendingOffer, new_channels}
use Rattle.rtc_wire.specs.ChannelConfig.{fits_open_message}
use Rattle.rtc_peer_core.specs.Calls.{fitting_channels}
use Rattle.rtc_peer_core.specs.Staging.{is_kept_by_restart, with_restart}
use Rattle.rtc_run_history.specs.declared.kept.Kept.{Kept}
use Rattle.rtc_run_history.specs.declared.side.Side.{Side}
use Rattle.rtc_run_history.specs.PairState.{held_token, spent, token_for}
use Rattle.rtc_run_history.specs.Sides.{same_side}

abbrev pub IsChangeWith : (is_so : ℕ → ChannelConfig → Type 0) → Change → Type 0
IsChangeWith P (AddChannel id config) = P id config
IsChangeWith P change = Unit {0}

abbrev pub AreChangesWith : (is_so : ℕ → ChannelConfig → Type 0) → List Change → Type 0
AreChangesWith P [] = Unit {0}
AreChangesWith P (change ∷ changes) = IsChangeWith P change × AreChangesWith P changes

abbrev pub AreChannelsWith : (is_so : ℕ → ChannelConfig → Type 0) → List (ℕ × ChannelConfig) → Type 0
AreChannelsWith P [] = Unit {0}
AreChannelsWith P (channel ∷ channels) = P channel.0 channel.1 × AreChannelsWith P channels

module _ (P : ℕ → ChannelConfig → Type 0) where
  pub numbers_more : (changes more : List Change) → AreChangesWith P changes → AreChangesWith P more → AreChangesWith P (changes ++ more)
  numbers_more [] more h k = k
  numbers_more (change ∷ changes) more h k = (h.0, numbers_more changes more h.1 k)

  -- a restart is staged
  unrestarted : (changes : List Change) → AreChangesWith P changes → AreChangesWith P (filter is_kept_by_restart changes)
  unrestarted [] h = tt
  unrestarted (change ∷ changes) h = by (is_kept_by_restart change) (unrestarted changes h.1)
    where
      by : (b : Bool) → AreChangesWith P (filter is_kept_by_restart changes)
          → AreChangesWith P (cond b (change ∷ filter is_kept_by_restart changes) (filter is_kept_by_restart changes))
      by true rest = (h.0, rest)
      by false rest = rest

  pub numbers_restarted : (creds : IceCreds) (keeps : Bool) (changes : List Change) → AreChangesWith P changes
      → AreChangesWith P (with_restart creds keeps changes)
  numbers_restarted creds keeps changes h =
      numbers_more (filter is_kept_by_restart changes) (IceRestart creds keeps ∷ []) (unrestarted changes h) (tt, tt)

  -- the channels that they add
  pub new_with : (changes : List Change) → AreChangesWith P changes → AreChannelsWith P (new_channels changes)
  new_with [] h = tt
  new_with (AddMedia media ∷ changes) h = new_with changes h.1
  new_with (AddApp mid ∷ changes) h = new_with changes h.1
  new_with (AddChannel id config ∷ changes) h = (h.0, new_with changes h.1)
  new_with (Direction mid dir ∷ changes) h = new_with changes h.1
  new_with (IceRestart creds keeps ∷ changes) h = new_with changes h.1

fitting_of : (P : ℕ → ChannelConfig → Type 0) (channels : List (ℕ × ChannelConfig)) → AreChannelsWith P channels
    → AreChannelsWith P (filter (λ channel. fits_open_message channel.1) channels)
fitting_of P [] h = tt
fitting_of P (channel ∷ channels) h = by (fits_open_message channel.1) (fitting_of P channels h.1)
  where
    by : (b : Bool) → AreChannelsWith P (filter (λ own. fits_open_message own.1) channels)
        → AreChannelsWith P (cond b (channel ∷ filter (λ own. fits_open_message own.1) channels) (filter (λ own. fits_open_message own.1) channels))
    by true rest = (h.0, rest)
    by false rest = rest

-- and those of them that are confirmed
pub fitting_with : (P : ℕ → ChannelConfig → Type 0) (changes : List Change) → AreChangesWith P changes → AreChannelsWith P (fitting_channels changes)
fitting_with P changes h = fitting_of P (new_channels changes) (new_with P changes h)

pub channels_map : (P Q : ℕ → ChannelConfig → Type 0) (channels : List (ℕ × ChannelConfig))
    → ((n : ℕ) (config : ChannelConfig) → P n config → Q n config) → AreChannelsWith P channels → AreChannelsWith Q channels
channels_map P Q [] f h = tt
channels_map P Q (channel ∷ channels) f h = (f channel.0 channel.1 h.0, channels_map P Q channels f h.1)

pub numbers_map : (P Q : ℕ → ChannelConfig → Type 0) (changes : List Change) → ((n : ℕ) (config : ChannelConfig) → P n config → Q n config) → AreChangesWith P changes → AreChangesWith Q changes
numbers_map P Q [] f h = tt
numbers_map P Q (AddMedia media ∷ changes) f h = (tt, numbers_map P Q changes f h.1)
numbers_map P Q (AddApp mid ∷ changes) f h = (tt, numbers_map P Q changes f h.1)
numbers_map P Q (AddChannel id config ∷ changes) f h = (f id config h.0, numbers_map P Q changes f h.1)
numbers_map P Q (Direction mid dir ∷ changes) f h = (tt, numbers_map P Q changes f h.1)
numbers_map P Q (IceRestart creds keeps ∷ changes) f h = (tt, numbers_map P Q changes f h.1)

pub numbers_both : (P Q : ℕ → ChannelConfig → Type 0) (changes : List Change) → AreChangesWith P changes → AreChangesWith Q changes → AreChangesWith (λ n config. P n config × Q n config) changes
numbers_both P Q [] h k = tt
numbers_both P Q (AddMedia media ∷ changes) h k = (tt, numbers_both P Q changes h.1 k.1)
numbers_both P Q (AddApp mid ∷ changes) h k = (tt, numbers_both P Q changes h.1 k.1)
numbers_both P Q (AddChannel id config ∷ changes) h k = ((h.0, k.0), numbers_both P Q changes h.1 k.1)
numbers_both P Q (Direction mid dir ∷ changes) h k = (tt, numbers_both P Q changes h.1 k.1)
numbers_both P Q (IceRestart creds keeps ∷ changes) h k = (tt, numbers_both P Q changes h.1 k.1)

-- ---- tokens

abbrev pub IsTokenWith : (is_so : ℕ → ChannelConfig → Type 0) → Option PendingOffer → Type 0
IsTokenWith P None = Unit {0}
IsTokenWith P (Some token) = AreChangesWith P token.changes

-- the tokens of a side that are kept
abbrev pub AreKeptWith : (at : Side) → (is_so : ℕ → ChannelConfig → Type 0) → List Kept → Type 0
AreKeptWith at P [] = Unit {0}
AreKeptWith at P (kept ∷ sdps) = (same_side kept.at at ≡ true → IsTokenWith P kept.token) × AreKeptWith at P sdps

token_map : (P Q : ℕ → ChannelConfig → Type 0) (token : Option PendingOffer) → ((n : ℕ) (config : ChannelConfig) → P n config → Q n config) → IsTokenWith P token → IsTokenWith Q token
token_map P Q None f h = tt
token_map P Q (Some token) f h = numbers_map P Q token.changes f h

pub kept_with_map : (at : Side) (P Q : ℕ → ChannelConfig → Type 0) (sdps : List Kept) → ((n : ℕ) (config : ChannelConfig) → P n config → Q n config) → AreKeptWith at P sdps → AreKeptWith at Q sdps
kept_with_map at P Q [] f h = tt
kept_with_map at P Q (kept ∷ sdps) f h = ((λ e. token_map P Q kept.token f (h.0 e)), kept_with_map at P Q sdps f h.1)

module _ (at : Side) (P : ℕ → ChannelConfig → Type 0) where
  pub kept_more : (sdps : List Kept) (kept : Kept) → AreKeptWith at P sdps → (same_side kept.at at ≡ true → IsTokenWith P kept.token)
      → AreKeptWith at P (sdps ++ kept ∷ [])
  kept_more [] kept h k = (k, tt)
  kept_more (first ∷ sdps) kept h k = (h.0, kept_more sdps kept h.1 k)

  token_at : (sdps : List Kept) (t : ℕ) (kept : Kept) → slice_get sdps t ≡ Some kept → AreKeptWith at P sdps → same_side kept.at at ≡ true
      → IsTokenWith P kept.token
  token_at [] t kept there h = absurd (let clash : None ≡ Some kept = there in cc)
  token_at (first ∷ sdps) zero kept there h =
      let same : first ≡ kept = let e : Some first ≡ Some kept = there in cc in
      subst (λ (x : Kept). same_side x.at at ≡ true → IsTokenWith P x.token) same h.0
  token_at (first ∷ sdps) (suc t) kept there h = token_at sdps t kept there h.1

  -- the one that the side holds
  pub held_with : (sdps : List Kept) (t : ℕ) → AreKeptWith at P sdps → IsTokenWith P (held_token sdps at t)
  held_with sdps t h = by (slice_get sdps t) refl
    where
      picked : (b : Bool) (kept : Kept) → (b ≡ true → IsTokenWith P kept.token) → IsTokenWith P (cond b kept.token None)
      picked true kept k = k refl
      picked false kept k = tt

      by : (found : Option Kept) → slice_get sdps t ≡ found → IsTokenWith P (token_for at found)
      by None there = tt
      by (Some kept) there = picked (same_side kept.at at) kept (token_at sdps t kept there h)

  set_so : (sdps : List Kept) (t : ℕ) (kept : Kept) → kept.token ≡ None → AreKeptWith at P sdps → AreKeptWith at P (slice_set sdps t kept)
  set_so [] t kept none h = tt
  set_so (first ∷ sdps) zero kept none h = ((λ e. subst (λ (x : Option PendingOffer). IsTokenWith P x) (sym none) tt), h.1)
  set_so (first ∷ sdps) (suc t) kept none h = (h.0, set_so sdps t kept none h.1)

  -- one is spent
  pub spent_so : (t : ℕ) (sdps : List Kept) → AreKeptWith at P sdps → AreKeptWith at P (spent t sdps)
  spent_so t sdps h = by (slice_get sdps t) refl
    where
      by : (found : Option Kept) → slice_get sdps t ≡ found → AreKeptWith at P (spent t sdps)
      by None is = rw is h
      by (Some kept) is = rw is (set_so sdps t (record kept { token = None }) refl h)

-- ---- of numbers alone

abbrev pub AreNumbersSo : (is_so : ℕ → Type 0) → List Change → Type 0
AreNumbersSo P changes = AreChangesWith (λ n config. P n) changes

abbrev pub AreChannelsSo : (is_so : ℕ → Type 0) → List (ℕ × ChannelConfig) → Type 0
AreChannelsSo P channels = AreChannelsWith (λ n config. P n) channels

abbrev pub IsTokenSo : (is_so : ℕ → Type 0) → Option PendingOffer → Type 0
IsTokenSo P token = IsTokenWith (λ n config. P n) token

abbrev pub AreKeptSo : (at : Side) → (is_so : ℕ → Type 0) → List Kept → Type 0
AreKeptSo at P sdps = AreKeptWith at (λ n config. P n) sdps

pub new_so : (P : ℕ → Type 0) (changes : List Change) → AreNumbersSo P changes → AreChannelsSo P (new_channels changes)
new_so P changes h = new_with (λ n config. P n) changes h

pub kept_map : (at : Side) (P Q : ℕ → Type 0) (sdps : List Kept) → ((n : ℕ) → P n → Q n) → AreKeptSo at P sdps → AreKeptSo at Q sdps
kept_map at P Q sdps f h = kept_with_map at (λ n config. P n) (λ n config. Q n) sdps (λ n config k. f n k) h

pub held_so : (at : Side) (P : ℕ → Type 0) (sdps : List Kept) (t : ℕ) → AreKeptSo at P sdps → IsTokenSo P (held_token sdps at t)
held_so at P sdps t h = held_with at (λ n config. P n) sdps t h
