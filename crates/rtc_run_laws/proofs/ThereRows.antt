-- Each stream that is there has an entry past its opening, or is held: by each change of channels and of their
-- entries.
use Rattle.std.proofs.Common.{◌≡◌, ℕ, zero, suc, Bool, true, false, List, [], ◌∷◌, Option, Some, None, Result, Ok, Err, sym, subst}
use Rattle.std.specs.declared.alloc.AllocError.{AllocError}
use Rattle.rtc_ready.specs.Signals.{Signals}
use Rattle.rtc_wire.specs.declared.channel_config.ChannelConfig.{ChannelConfig}
use Rattle.rtc_parts.specs.AssociationLaws.{AssociationLaws}
use Rattle.rtc_parts.specs.AssociationMeaning.{AssociationMeaning}
use Rattle.rtc_sctp.specs.Streams.{SctpStreams}
use Rattle.rtc_channels.specs.Channels.{Channel, Channels}
use Rattle.rtc_channels.specs.Openings.{Following, OpensChannel, OpensAll, MeetsMoment}
use Rattle.rtc_peer_laws.specs.RowsChanged.{ChangeRows, OnlyActs, RowsChange, RowsChanged, Stayed, Polled, Timed, Progressed, ThresholdSet, StreamClosed, Confirmed, Made}
use Rattle.rtc_sctp_laws.specs.GenerationLaws.{GenerationLaws}
use Rattle.rtc_sctp_laws.proofs.ThereStreams.{AreBegunStreams, KeepingLaws}
use Rattle.rtc_sctp_laws.proofs.ThereCalls.{acts_begun, closes_begun, opens_begun, threshold_begun, timeout_begun}
use Rattle.rtc_sctp_laws.proofs.TherePolls.{poll_begun}

module _ {S : Type 0} (m : AssociationMeaning S) (w : AssociationLaws m) (v : GenerationLaws m) (keeps : S → ℕ → Type 0)
    (u : KeepingLaws m keeps) where
  there_same : (p q : SctpStreams S) → q ≡ p → AreBegunStreams m keeps p → AreBegunStreams m keeps q
  there_same p q is k = subst (λ (x : SctpStreams S). AreBegunStreams m keeps x) (sym is) k

  -- ---- moments

  opens_one : (stream : Option ℕ) (config : Option ChannelConfig) (id : ℕ) (held : Channels) (p : SctpStreams S) (r : Result (Unit {0}) AllocError)
      (held' : Channels) (q : SctpStreams S) → OpensChannel m stream config id held p r held' q → AreBegunStreams m keeps p → AreBegunStreams m keeps q
  opens_one (Some s) (Some config) id held p r held' q h k = opens_begun m keeps w v u s config p r q h.0 k
  opens_one (Some s) None id held p r held' q h k = there_same p q h.2 k
  opens_one None config id held p r held' q h k = there_same p q h.2 k

  all_there : (rows : List Channel) (held : Channels) (p : SctpStreams S) (r : Result (Unit {0}) AllocError) (held' : Channels) (q : SctpStreams S)
      → OpensAll m rows held p r held' q → AreBegunStreams m keeps p → AreBegunStreams m keeps q
  all_there [] held p r held' q h k = there_same p q h.2 k
  all_there (row ∷ rows) held p r held' q h k =
      by h.0 (opens_one row.stream row.config row.id held p h.0 h.1 h.2 h.3 k) (λ after x. all_there rows h.1 h.2 r held' q after x) h.4
    where
      by : (did : Result (Unit {0}) AllocError) → AreBegunStreams m keeps h.2 → (OpensAll m rows h.1 h.2 r held' q → AreBegunStreams m keeps h.2 → AreBegunStreams m keeps q)
          → Following did (OpensAll m rows h.1 h.2 r held' q) ((r ≡ did) × (held' ≡ h.1) × (q ≡ h.2)) → AreBegunStreams m keeps q
      by (Ok done) x rest after = rest after x
      by (Err error) x rest after = there_same h.2 q after.2 x

  progress_there : (p : SctpStreams S) (r : Result (Unit {0}) AllocError) (held' : Channels) (q : SctpStreams S) (did : Result (Unit {0}) AllocError)
      (between : Channels) → Following did (OpensAll m between.rows between p r held' q) ((r ≡ did) × (held' ≡ between) × (q ≡ p)) → AreBegunStreams m keeps p
      → AreBegunStreams m keeps q
  progress_there p r held' q (Ok done) between h k = all_there between.rows between p r held' q h k
  progress_there p r held' q (Err error) between h k = there_same p q h.2 k

  moment_there : (due : Bool) (held : Channels) (p : SctpStreams S) (wake : Signals) (r : Result (Unit {0}) AllocError) (held' : Channels)
      (q : SctpStreams S) (wake' : Signals) → MeetsMoment m due held p wake r held' q wake' → AreBegunStreams m keeps p → AreBegunStreams m keeps q
  moment_there false held p wake r held' q wake' h k = there_same p q h.2 k
  moment_there true held p wake r held' q wake' h k = progress_there p r held' q h.0.0 h.0.1 h.0.3 k

  -- ---- changes

  only_there : (a b : SctpStreams S) → OnlyActs m a b → AreBegunStreams m keeps a → AreBegunStreams m keeps b
  only_there a b h k = acts_begun m keeps w v u h.acts a b h.went h.aside h.entries k

  change_there : (held : Channels) (a : SctpStreams S) (held' : Channels) (b : SctpStreams S) → RowsChange m held a held' b → AreBegunStreams m keeps a
      → AreBegunStreams m keeps b
  change_there held a held' b (Stayed rows h) k = only_there a b h k
  change_there held a held' b (Polled (Ok answer) streams h rows association entries state client) k =
      acts_begun m keeps w v u [] streams b association tt entries (poll_begun m keeps w v u a answer streams h k)
  change_there held a held' b (Polled (Err error) streams h rows association entries state client) k = absurd rows
  change_there held a held' b (Timed now wake wake' r h is) k = timeout_begun m keeps w v u now a wake r b wake' h k
  change_there held a held' b (Progressed now wake wake' between h due started signals signals' t) k =
      moment_there due held between signals (Ok tt) held' b signals' t (timeout_begun m keeps w v u now a wake (Ok tt) between wake' h k)
  change_there held a held' b (ThresholdSet n place h is) k = threshold_begun m keeps w v u n place a b h k
  change_there held a held' b (StreamClosed stream r h is) k = closes_begun m keeps w v u stream a r b h k
  change_there held a held' b (Confirmed channels is h) k = only_there a b h k
  change_there held a held' b (Made config is h) k = only_there a b h k

  changes_there : (n : ℕ) (held : Channels) (a : SctpStreams S) (held' : Channels) (b : SctpStreams S) → ChangeRows m n held a held' b → AreBegunStreams m keeps a
      → AreBegunStreams m keeps b
  changes_there zero held a held' b h k = there_same a b h.1 k
  changes_there (suc n) held a held' b h k = change_there h.0 h.1.0 held' b h.1.1.1 (changes_there n held a h.0 h.1.0 h.1.1.0 k)

  pub rows_there : (held : Channels) (a : SctpStreams S) (held' : Channels) (b : SctpStreams S) → RowsChanged m held a held' b → AreBegunStreams m keeps a
      → AreBegunStreams m keeps b
  rows_there held a held' b h k = changes_there h.changes held a held' b h.changed k
