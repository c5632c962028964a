-- The channels that a rollback removes are among those of its token.
use Rattle.std.proofs.Common.{◌≡◌, ◌∙◌, ◌==◌, ◌||◌, ◌&&◌, not, if◌then◌else◌, ℕ, Bool, true, false, true≢false, List, [], ◌∷◌, Option, Some, None, Result, Ok, Err, refl, sym, ap, subst}
use Rattle.std.proofs.lemmas.Bool.{eqb-true, eqb-false}
use Rattle.rtc_wire.specs.declared.channel_config.ChannelConfig.{ChannelConfig}
use Rattle.rtc_channels.specs.Channels.{Channel, Channels, has_channel}
use Rattle.rtc_channels.specs.Holds.{all_cancelled, cancelled_if, channels_without, is_unconfirmed}
use Rattle.rtc_change.specs.PendingOffer.{PendingOffer, new_channels}
use Rattle.rtc_peer_core.specs.declared.peer.Peer.{Peer}
use Rattle.rtc_peer_core.specs.declared.rtc_error.RtcError.{RtcError}
use Rattle.rtc_peer_core.specs.declared.rtc_error.RtcError.TheVariants.{RemoteSdp, Sdp as SdpRefused, Dtls, Sctp, Net, Media as MediaFailed, ChangesOutOfOrder, BadChannel, Alloc as PeerAlloc, Glare}
use Rattle.rtc_peer_core.specs.Meanings.{Meanings}
use Rattle.rtc_peer_core.specs.RollingBack.{RollsBack}
use Rattle.rtc_peer_transport.specs.declared.polled_peer.PolledPeer.{PolledPeer}
use Rattle.rtc_run_history.specs.declared.kept.Kept.{Kept}
use Rattle.rtc_run_history.specs.declared.outcome.Outcome.{Outcome}
use Rattle.rtc_run_history.specs.declared.outcome.Outcome.TheVariants.{Done, Refused, NoSuch, Alloc}
use Rattle.rtc_run_history.specs.declared.table.Table.{Table}
use Rattle.rtc_run_history.specs.Performs.{StepRollsBack, lent}
use Rattle.rtc_run_laws.specs.ChannelUses.{loses_channel}
use Rattle.rtc_run_laws.proofs.NumberedTokens.{AreChannelsSo, AreNumbersSo, IsTokenSo, new_so}

both_parts : (a b : Bool) → (a && b) ≡ true → (a ≡ true) × (b ≡ true)
both_parts true b h = (refl, h)
both_parts false b h = absurd (true≢false (sym h))

not_true : (b : Bool) → not b ≡ true → b ≡ false
not_true true h = absurd (true≢false (sym h))
not_true false h = refl

-- ---- rows

pub has_without : (n id : ℕ) (rows : List Channel) → (id ≡ n → ⊥) → has_channel n rows ≡ true → has_channel n (channels_without id rows) ≡ true
has_without n id [] ne h = h
has_without n id (row ∷ rows) ne h = by (row.id == id) refl (row.id == n) refl h (has_without n id rows ne)
  where
    by : (a : Bool) → (row.id == id) ≡ a → (b : Bool) → (row.id == n) ≡ b → (b || has_channel n rows) ≡ true
        → (has_channel n rows ≡ true → has_channel n (channels_without id rows) ≡ true)
        → has_channel n (if a then rows else row ∷ channels_without id rows) ≡ true
    by true e true f k rest = absurd (ne (sym (eqb-true row.id id e) ∙ eqb-true row.id n f))
    by true e false f k rest = k
    by false e true f k rest = rw f refl
    by false e false f k rest = rw f (rest k)

-- a channel that goes as some are cancelled is one of these
pub cancelled_so : (P : ℕ → Type 0) (n : ℕ) (channels : List (ℕ × ChannelConfig)) (held : Channels) → AreChannelsSo P channels
    → has_channel n held.rows ≡ true → has_channel n (all_cancelled channels held).rows ≡ false → P n
cancelled_so P n [] held so here gone = absurd (true≢false (sym here ∙ gone))
cancelled_so P n (channel ∷ rest) held so here gone =
    by (λ k. cancelled_so P n rest (cancelled_if (is_unconfirmed channel.0 held.rows) channel.0 held) so.1 k gone) (channel.0 == n) refl
  where
    stays : (b : Bool) → (channel.0 ≡ n → ⊥) → has_channel n (cancelled_if b channel.0 held).rows ≡ true
    stays true ne = has_without n channel.0 held.rows ne here
    stays false ne = here

    by : (has_channel n (cancelled_if (is_unconfirmed channel.0 held.rows) channel.0 held).rows ≡ true → P n) → (b : Bool) → (channel.0 == n) ≡ b → P n
    by others true e = subst P (eqb-true channel.0 n e) so.0
    by others false e = others (stays (is_unconfirmed channel.0 held.rows) (eqb-false channel.0 n e))

module _ {I D S M E X T W N : Type 0} (m : Meanings I D S M E X T W N) where
  -- ---- rollbacks

  -- channels of which this holds are cancelled
  pub record CancelsSo (P : ℕ → Type 0) (p q : PolledPeer I D S M N) : Type 0 where
    pub channels : List (ℕ × ChannelConfig)
    pub cancelled : q.core.channels ≡ all_cancelled channels p.core.channels
    pub so : AreChannelsSo P channels

  none_cancelled : (P : ℕ → Type 0) (p q : PolledPeer I D S M N) → q.core ≡ p.core → CancelsSo P p q
  none_cancelled P p q is = record { channels = []; cancelled = ap (λ (x : Peer I D S M N). x.channels) is; so = tt }

  token_cancels : (P : ℕ → Type 0) (p q : PolledPeer I D S M N) (token : PendingOffer) (r : Result (Unit {0}) RtcError) → RollsBack (lent p.core) token r q.core
      → AreNumbersSo P token.changes → CancelsSo P p q
  token_cancels P p q token (Ok done) h so =
      record { channels = new_channels token.changes; cancelled = ap (λ (x : Peer I D S M N). x.channels) h.1; so = new_so P token.changes so }
  token_cancels P p q token (Err ChangesOutOfOrder) h so =
      record { channels = []; cancelled = ap (λ (x : Peer I D S M N). x.channels) h.1; so = tt }
  token_cancels P p q token (Err (RemoteSdp why)) h so = absurd h
  token_cancels P p q token (Err (SdpRefused error)) h so = absurd h
  token_cancels P p q token (Err (Dtls error)) h so = absurd h
  token_cancels P p q token (Err (Sctp error)) h so = absurd h
  token_cancels P p q token (Err (Net cause)) h so = absurd h
  token_cancels P p q token (Err (MediaFailed cause)) h so = absurd h
  token_cancels P p q token (Err BadChannel) h so = absurd h
  token_cancels P p q token (Err PeerAlloc) h so = absurd h
  token_cancels P p q token (Err Glare) h so = absurd h

  pub rollback_cancels : (P : ℕ → Type 0) (t : ℕ) (token : Option PendingOffer) (old : PolledPeer I D S M N) (sdps : List Kept) (outcome : Outcome E)
      (table : Option Table) (new : PolledPeer I D S M N) (sdps' : List Kept) → StepRollsBack m t token old.core sdps outcome table new.core sdps'
      → IsTokenSo P token → CancelsSo P old new
  rollback_cancels P t None old sdps Alloc None new sdps' h so = none_cancelled P old new h.peer
  rollback_cancels P t (Some token) old sdps Alloc None new sdps' h so = none_cancelled P old new h.peer
  rollback_cancels P t None old sdps NoSuch (Some table) new sdps' h so = none_cancelled P old new h.0.peer
  rollback_cancels P t (Some token) old sdps Done (Some table) new sdps' h so = token_cancels P old new token (Ok tt) h.0 so
  rollback_cancels P t (Some token) old sdps (Refused error) (Some table) new sdps' h so = token_cancels P old new token (Err error) h.0 so
  rollback_cancels P t token old sdps outcome table new sdps' h so = absurd h

  -- a channel that it removes is one of these
  pub lost_so : (P : ℕ → Type 0) (n : ℕ) (p q : PolledPeer I D S M N) → CancelsSo P p q → loses_channel n p.core.channels.rows q.core.channels.rows ≡ true
      → P n
  lost_so P n p q h lost =
      let two = both_parts (has_channel n p.core.channels.rows) (not (has_channel n q.core.channels.rows)) lost in
      cancelled_so P n h.channels p.core.channels h.so two.0
      (ap (λ (x : Channels). has_channel n x.rows) (sym h.cancelled) ∙ not_true (has_channel n q.core.channels.rows) two.1)
