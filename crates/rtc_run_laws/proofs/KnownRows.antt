-- Each stream of which a message stands unread has an entry, or is to be told of: by each change of channels and of their entries.
use Rattle.std.proofs.Common.{◌≡◌, ◌∙◌, ◌⊎◌, inl, inr, ℕ, zero, suc, Bool, true, false, List, [], ◌∷◌, Option, Some, None, Result, Ok, Err, refl, sym, ap, subst}
use Rattle.std.specs.declared.alloc.AllocError.{AllocError}
use Rattle.rtc_ready.specs.Signals.{Signals}
use Rattle.rtc_wire.specs.declared.channel_config.ChannelConfig.{ChannelConfig}
use Rattle.rtc_parts.specs.AssociationLaws.{AssociationLaws}
use Rattle.rtc_parts.specs.AssociationMeaning.{AssociationMeaning}
use Rattle.rtc_sctp.specs.Streams.{SctpStreams, is_established}
use Rattle.rtc_channels.specs.Channels.{Channel, Channels}
use Rattle.rtc_channels.specs.Openings.{Following, OpensChannel, OpensAll, MeetsMoment}
use Rattle.rtc_peer_laws.specs.RowsChanged.{ChangeRows, OnlyActs, RowsChange, RowsChanged, Stayed, Polled, Timed, Progressed, ThresholdSet, StreamClosed, Confirmed, Made}
use Rattle.rtc_sctp_laws.specs.GenerationLaws.{GenerationLaws}
use Rattle.rtc_sctp_laws.proofs.KnownStreams.{AreKnown, UnreadLaws}
use Rattle.rtc_sctp_laws.proofs.KnownCalls.{acts_known, closes_known, opens_known, threshold_known, timeout_known}
use Rattle.rtc_sctp_laws.proofs.KnownPolls.{poll_known}

module _ {S : Type 0} (m : AssociationMeaning S) (sound : S → Type 0) (w : AssociationLaws m) (v : GenerationLaws m) (u : UnreadLaws m sound) where
  known_same : (p q : SctpStreams S) → q ≡ p → AreKnown m sound p → AreKnown m sound q
  known_same p q is k = subst (λ (x : SctpStreams S). AreKnown m sound x) (sym is) k

  -- ---- moments

  opens_one : (stream : Option ℕ) (config : Option ChannelConfig) (id : ℕ) (held : Channels) (p : SctpStreams S) (r : Result (Unit {0}) AllocError)
      (held' : Channels) (q : SctpStreams S) → OpensChannel m stream config id held p r held' q → AreKnown m sound p → AreKnown m sound q
  opens_one (Some s) (Some config) id held p r held' q h k = opens_known m sound w v u s config p r q h.0 k
  opens_one (Some s) None id held p r held' q h k = known_same p q h.2 k
  opens_one None config id held p r held' q h k = known_same p q h.2 k

  all_known : (rows : List Channel) (held : Channels) (p : SctpStreams S) (r : Result (Unit {0}) AllocError) (held' : Channels) (q : SctpStreams S)
      → OpensAll m rows held p r held' q → AreKnown m sound p → AreKnown m sound q
  all_known [] held p r held' q h k = known_same p q h.2 k
  all_known (row ∷ rows) held p r held' q h k =
      by h.0 (opens_one row.stream row.config row.id held p h.0 h.1 h.2 h.3 k) (λ after x. all_known rows h.1 h.2 r held' q after x) h.4
    where
      by : (did : Result (Unit {0}) AllocError) → AreKnown m sound h.2 → (OpensAll m rows h.1 h.2 r held' q → AreKnown m sound h.2 → AreKnown m sound q)
          → Following did (OpensAll m rows h.1 h.2 r held' q) ((r ≡ did) × (held' ≡ h.1) × (q ≡ h.2)) → AreKnown m sound q
      by (Ok done) x rest after = rest after x
      by (Err error) x rest after = known_same h.2 q after.2 x

  progress_known : (p : SctpStreams S) (r : Result (Unit {0}) AllocError) (held' : Channels) (q : SctpStreams S) (did : Result (Unit {0}) AllocError)
      (between : Channels) → Following did (OpensAll m between.rows between p r held' q) ((r ≡ did) × (held' ≡ between) × (q ≡ p)) → AreKnown m sound p
      → AreKnown m sound q
  progress_known p r held' q (Ok done) between h k = all_known between.rows between p r held' q h k
  progress_known p r held' q (Err error) between h k = known_same p q h.2 k

  moment_known : (due : Bool) (held : Channels) (p : SctpStreams S) (wake : Signals) (r : Result (Unit {0}) AllocError) (held' : Channels)
      (q : SctpStreams S) (wake' : Signals) → MeetsMoment m due held p wake r held' q wake' → AreKnown m sound p → AreKnown m sound q
  moment_known false held p wake r held' q wake' h k = known_same p q h.2 k
  moment_known true held p wake r held' q wake' h k = progress_known p r held' q h.0.0 h.0.1 h.0.3 k

  -- ---- changes

  only_known : (a b : SctpStreams S) → OnlyActs m a b → AreKnown m sound a → AreKnown m sound b
  only_known a b h k = acts_known m sound w v u h.acts a b h.went h.untold h.entries (λ e. started (h.lasts e)) k
    where
      started : (is_established a.state ≡ true) ⊎ ((m.started a.association ≡ false) × (m.started b.association ≡ true))
          → (is_established a.state ≡ true) ⊎ (m.started b.association ≡ true)
      started (inl e) = inl e
      started (inr now) = inr now.1

  change_known : (held : Channels) (a : SctpStreams S) (held' : Channels) (b : SctpStreams S) → RowsChange m held a held' b → AreKnown m sound a
      → AreKnown m sound b
  change_known held a held' b (Stayed rows h) k = only_known a b h k
  change_known held a held' b (Polled answer streams h rows association entries state client) k =
      acts_known m sound w v u [] streams b association refl entries (λ e. inl (ap is_established (sym state) ∙ e)) (poll_known m sound w v u a answer streams h k)
  change_known held a held' b (Timed now wake wake' r h is) k = timeout_known m sound w v u now a wake r b wake' h k
  change_known held a held' b (Progressed now wake wake' between h due started signals signals' t) k =
      moment_known due held between signals (Ok tt) held' b signals' t (timeout_known m sound w v u now a wake (Ok tt) between wake' h k)
  change_known held a held' b (ThresholdSet n place h is) k = threshold_known m sound w v u n place a b h k
  change_known held a held' b (StreamClosed stream r h is) k = closes_known m sound w v u stream a r b h k
  change_known held a held' b (Confirmed channels is h) k = only_known a b h k
  change_known held a held' b (Made config is h) k = only_known a b h k

  changes_known : (n : ℕ) (held : Channels) (a : SctpStreams S) (held' : Channels) (b : SctpStreams S) → ChangeRows m n held a held' b → AreKnown m sound a
      → AreKnown m sound b
  changes_known zero held a held' b h k = known_same a b h.1 k
  changes_known (suc n) held a held' b h k = change_known h.0 h.1.0 held' b h.1.1.1 (changes_known n held a h.0 h.1.0 h.1.1.0 k)

  pub rows_known : (held : Channels) (a : SctpStreams S) (held' : Channels) (b : SctpStreams S) → RowsChanged m held a held' b → AreKnown m sound a
      → AreKnown m sound b
  rows_known held a held' b h k = changes_known h.changes held a held' b h.changed k
