-- A channel that was confirmed is opened, or its row goes: where a moment comes, and by each change of channels and of their entries.
use Rattle.std.proofs.Common.{◌≡◌, ◌∙◌, ◌⊎◌, inl, inr, ℕ, zero, suc, Bool, true, false, List, [], ◌∷◌, Option, Some, None, Result, Ok, Err, refl, sym, ap, subst}
use Rattle.std.specs.declared.alloc.AllocError.{AllocError}
use Rattle.rtc_ready.specs.Signals.{Signals}
use Rattle.rtc_wire.specs.declared.channel_config.ChannelConfig.{ChannelConfig}
use Rattle.rtc_parts.specs.AssociationLaws.{AssociationLaws}
use Rattle.rtc_parts.specs.AssociationMeaning.{AssociationMeaning}
use Rattle.rtc_sctp_entries.specs.declared.met.Met.{Met}
use Rattle.rtc_sctp_entries.specs.declared.stream_entry.StreamEntry.{StreamEntry}
use Rattle.rtc_sctp.specs.declared.rtc_sctp_state.RtcSctpState.TheVariants.{Uninited}
use Rattle.rtc_sctp.specs.Streams.{SctpStreams}
use Rattle.rtc_sctp_laws.specs.StreamMessages.{met_of}
use Rattle.rtc_channels.specs.Allocation.{Allocates, all_allocated}
use Rattle.rtc_channels.specs.Channels.{Channel, Channels, all_confirmed, with_channel}
use Rattle.rtc_channels.specs.Openings.{Following, MeetsMoment, OpensAll, OpensChannel, config_handed}
use Rattle.rtc_peer_polling.specs.StreamStages.{channel_over}
use Rattle.rtc_peer_laws.specs.ChannelStreams.{AreNumberedChannels}
use Rattle.rtc_peer_laws.specs.RowsChanged.{ChangeRows, RowsChange, RowsChanged}
use Rattle.rtc_peer_laws.specs.RowsChanged.{Stayed, Polled, Timed, Progressed, ThresholdSet, StreamClosed, Confirmed, Made}
use Rattle.rtc_peer_laws.proofs.ChangedRows.{same_rows}
use Rattle.rtc_peer_laws.proofs.AllocatedChannels.{all_over, allocated_numbers, handed_numbers, handed_over}
use Rattle.rtc_peer_laws.proofs.ConfirmedChannels.{all_confirmed_numbers, all_confirmed_over, made_numbers, made_over}
use Rattle.rtc_peer_laws.proofs.GoneChannels.{all_confirmed_gone, allocated_gone, handed_gone, made_gone}
use Rattle.rtc_run_laws.specs.ConfirmedChannels.{HasConfig}
use Rattle.rtc_run_laws.proofs.ConfigRows.{AreFound, config_allocated, config_confirmed, config_made, config_opened, found_all, found_on}
use Rattle.rtc_run_laws.proofs.StandingVisits.{TellsStreamClosed}
use Rattle.rtc_run_laws.proofs.StandingEntries.{HasStanding, Kept, NoneClosed, kept_is}
use Rattle.rtc_run_laws.proofs.StreamPolls.{IsShutBefore, poll_goes}
use Rattle.rtc_run_laws.proofs.StandingCalls.{closes_kept, opens_stand, threshold_kept, threshold_state, timeout_kept, timeout_shut}
use Rattle.rtc_run_laws.proofs.BegunRows.{AreSound, IsBegun, HasGone, Awaits, Stands, answer_begun, answer_numbers, kept_begun, same_numbers}

some_is : (a b : ℕ) → Some a ≡ Some b → a ≡ b
some_is a b h = cc

not_lacking : (error : AllocError) → ◌≡◌ {A = Result (Unit {0}) AllocError} (Ok tt) (Err error) → ⊥
not_lacking error h = cc

module _ {S : Type 0} (m : AssociationMeaning S) where
  -- channels over entries of which none is closed go on so
  record GoOn (held : Channels) (a : SctpStreams S) (held' : Channels) (b : SctpStreams S) : Type 0 where
    numbers : AreNumberedChannels held'
    shut : NoneClosed b.entries
    over : (s c : ℕ) → channel_over s held ≡ Some c → channel_over s held' ≡ Some c
    begun : (c : ℕ) → IsBegun c held a → IsBegun c held' b

  same_on : (held : Channels) (a : SctpStreams S) (held' : Channels) (b : SctpStreams S) → held' ≡ held → b ≡ a → AreNumberedChannels held
      → NoneClosed a.entries → GoOn held a held' b
  same_on held a held' b is same numbers shut =
      subst (λ (x : Channels). GoOn held a x b) (sym is)
      (subst (λ (y : SctpStreams S). GoOn held a held y) (sym same)
      (record { numbers = numbers; shut = shut; over = λ s c e. e; begun = λ c k. k }))

  -- the stream of a channel is opened
  handed_begun : (c s id : ℕ) (held : Channels) (p q : SctpStreams S) → channel_over s held ≡ Some id → HasStanding s q.entries
      → ((t : ℕ) → HasStanding t p.entries → HasStanding t q.entries) → IsBegun c held p → IsBegun c (config_handed id held) q
  handed_begun c s id held p q over own others (HasGone k) = HasGone (handed_gone c id held k)
  handed_begun c s id held p q over own others (Stands t e k) = Stands t (handed_over t id c held e) (others t k)
  handed_begun c s id held p q over own others (Awaits k) = by (config_opened c id held k)
    where
      by : HasConfig c (config_handed id held).rows ⊎ (id ≡ c) → IsBegun c (config_handed id held) q
      by (inl h) = Awaits h
      by (inr same) = Stands s (handed_over s id c held (over ∙ ap (λ (n : ℕ). Some n) same)) own

  opens_one : (stream : Option ℕ) (config : Option ChannelConfig) (id : ℕ) (held : Channels) (p : SctpStreams S) (held' : Channels) (q : SctpStreams S)
      → ((s : ℕ) → stream ≡ Some s → channel_over s held ≡ Some id) → AreNumberedChannels held → NoneClosed p.entries
      → OpensChannel m stream config id held p (Ok tt) held' q → GoOn held p held' q
  opens_one (Some s) (Some config) id held p held' q found numbers shut h =
      let opened = opens_stand m s config p q shut h.0 in
      subst (λ (x : Channels). GoOn held p x q) (sym h.1)
      (record {
        numbers = handed_numbers id held numbers;
        shut = opened.shut;
        over = λ t c e. handed_over t id c held e;
        begun = λ c k. handed_begun c s id held p q (found s refl) opened.own opened.others k;
      })
  opens_one (Some s) None id held p held' q found numbers shut h = same_on held p held' q h.1 h.2 numbers shut
  opens_one None config id held p held' q found numbers shut h = same_on held p held' q h.1 h.2 numbers shut

  both_on : (held : Channels) (a : SctpStreams S) (x : Channels) (c : SctpStreams S) (held' : Channels) (b : SctpStreams S) → GoOn held a x c
      → GoOn x c held' b → GoOn held a held' b
  both_on held a x c held' b h k = record {
    numbers = k.numbers;
    shut = k.shut;
    over = λ s id e. k.over s id (h.over s id e);
    begun = λ id e. k.begun id (h.begun id e);
  }

  all_opened : (rows : List Channel) (held : Channels) (p : SctpStreams S) (held' : Channels) (q : SctpStreams S) → AreFound rows held
      → AreNumberedChannels held → NoneClosed p.entries → OpensAll m rows held p (Ok tt) held' q → GoOn held p held' q
  all_opened [] held p held' q found numbers shut h = same_on held p held' q h.1 h.2 numbers shut
  all_opened (row ∷ rows) held p held' q found numbers shut h =
      by h.0 h.3 (λ f n s k. all_opened rows h.1 h.2 held' q f n s k) h.4
    where
      by : (did : Result (Unit {0}) AllocError) → OpensChannel m row.stream row.config row.id held p did h.1 h.2
          → (AreFound rows h.1 → AreNumberedChannels h.1 → NoneClosed h.2.entries → OpensAll m rows h.1 h.2 (Ok tt) held' q → GoOn h.1 h.2 held' q)
          → Following did (OpensAll m rows h.1 h.2 (Ok tt) held' q) ((Ok tt ≡ did) × (held' ≡ h.1) × (q ≡ h.2)) → GoOn held p held' q
      by (Ok done) one rest k =
          let first = opens_one row.stream row.config row.id held p h.1 h.2 found.0 numbers shut one in
          both_on held p h.1 h.2 held' q first
          (rest (found_on rows held h.1 first.over found.1) first.numbers first.shut k)
      by (Err error) one rest k = absurd (not_lacking error k.0)

  allocated_begun : (c parity : ℕ) (held : Channels) (p : SctpStreams S) → AreNumberedChannels held → IsBegun c held p
      → IsBegun c (all_allocated parity held.rows held) p
  allocated_begun c parity held p numbers (HasGone k) = HasGone (allocated_gone parity c held.rows held k)
  allocated_begun c parity held p numbers (Awaits k) = Awaits (config_allocated parity c held.rows held k)
  allocated_begun c parity held p numbers (Stands s over k) = Stands s (all_over parity s c held numbers over) k

  allocated_on : (parity : ℕ) (held : Channels) (p : SctpStreams S) (between : Channels) → AreNumberedChannels held → NoneClosed p.entries
      → between ≡ all_allocated parity held.rows held → GoOn held p between p
  allocated_on parity held p between numbers shut is =
      subst (λ (x : Channels). GoOn held p x p) (sym is)
      (record {
        numbers = allocated_numbers parity held.rows held numbers;
        shut = shut;
        over = λ s c e. all_over parity s c held numbers e;
        begun = λ c k. allocated_begun c parity held p numbers k;
      })

  progress_on : (parity : ℕ) (held : Channels) (p : SctpStreams S) (held' : Channels) (q : SctpStreams S) (did : Result (Unit {0}) AllocError)
      (between : Channels) → AreNumberedChannels held → NoneClosed p.entries → Allocates parity held did between
      → Following did (OpensAll m between.rows between p (Ok tt) held' q) ((Ok tt ≡ did) × (held' ≡ between) × (q ≡ p)) → GoOn held p held' q
  progress_on parity held p held' q (Ok done) between numbers shut h k =
      let first = allocated_on parity held p between numbers shut h in
      both_on held p between p held' q first
      (all_opened between.rows between p held' q (found_all between first.numbers.2) first.numbers first.shut k)
  progress_on parity held p held' q (Err error) between numbers shut h k = absurd (not_lacking error k.0)

  moment_on : (due : Bool) (held : Channels) (p : SctpStreams S) (wake : Signals) (held' : Channels) (q : SctpStreams S) (wake' : Signals)
      → AreNumberedChannels held → NoneClosed p.entries → MeetsMoment m due held p wake (Ok tt) held' q wake' → GoOn held p held' q
  moment_on false held p wake held' q wake' numbers shut h = same_on held p held' q h.1 h.2 numbers shut
  moment_on true held p wake held' q wake' numbers shut h = progress_on _ held p held' q h.0.0 h.0.1 numbers shut h.0.2 h.0.3

  -- ---- changes

  entries_before : (a b : SctpStreams S) → Kept a.entries b.entries → (b.state ≡ Uninited → a.state ≡ Uninited) → IsShutBefore a → IsShutBefore b
  entries_before a b kept begun h = λ e. kept.shut (h (begun e))

  module _ (w : AssociationLaws m) where
    pub change_sound : (held : Channels) (a : SctpStreams S) (held' : Channels) (b : SctpStreams S) → RowsChange m held a held' b → AreSound held a
        → AreSound held' b
    change_sound held a held' b (Stayed rows h) sound = record {
      numbers = same_numbers held held' rows sound.numbers;
      before = entries_before a b (kept_is a.entries b.entries h.entries) h.begun sound.before;
    }
    change_sound held a held' b (Polled answer streams h rows association entries state client) sound = record {
      numbers = answer_numbers answer held held' rows sound.numbers;
      before = λ e.
          subst (λ (l : List StreamEntry). NoneClosed l) (sym entries)
          ((poll_goes m w a answer streams h).before sound.before (sym state ∙ e));
    }
    change_sound held a held' b (Timed now wake wake' r h is) sound = record {
      numbers = subst (λ (x : Channels). AreNumberedChannels x) (sym is) sound.numbers;
      before = λ e. timeout_shut m now a wake r b wake' sound.before h;
    }
    change_sound held a held' b (Progressed now wake wake' between h due started signals signals' k) sound =
        let on = moment_on due held between signals held' b signals' sound.numbers (timeout_shut m now a wake (Ok tt) between wake' sound.before h) k in
        record { numbers = on.numbers; before = λ e. on.shut }
    change_sound held a held' b (ThresholdSet n place h is) sound = record {
      numbers = subst (λ (x : Channels). AreNumberedChannels x) (sym is) sound.numbers;
      before = entries_before a b (threshold_kept m n place a b h) (λ e. sym (threshold_state m n place a b h) ∙ e) sound.before;
    }
    change_sound held a held' b (StreamClosed stream r h is) sound = record {
      numbers = subst (λ (x : Channels). AreNumberedChannels x) (sym is) sound.numbers;
      before = entries_before a b (closes_kept m stream a r b h) (λ e. sym (ap (λ (y : SctpStreams S). y.state) h.1) ∙ e) sound.before;
    }
    change_sound held a held' b (Confirmed channels is h) sound = record {
      numbers = subst (λ (x : Channels). AreNumberedChannels x) (sym is) (all_confirmed_numbers channels held sound.numbers);
      before = entries_before a b (kept_is a.entries b.entries h.entries) h.begun sound.before;
    }
    change_sound held a held' b (Made config is h) sound = record {
      numbers = subst (λ (x : Channels). AreNumberedChannels x) (sym is) (made_numbers held config sound.numbers);
      before = entries_before a b (kept_is a.entries b.entries h.entries) h.begun sound.before;
    }

    -- entries alone
    entries_begun : (c : ℕ) (held held' : Channels) (a b : SctpStreams S) → held' ≡ held → Kept a.entries b.entries → IsBegun c held a → IsBegun c held' b
    entries_begun c held held' a b is kept h = kept_begun c held held' a b (same_rows held held' is) kept.stands h

    confirmed_begun : (c : ℕ) (channels : List (ℕ × ChannelConfig)) (held : Channels) (a b : SctpStreams S) → b.entries ≡ a.entries → IsBegun c held a
        → IsBegun c (all_confirmed channels held) b
    confirmed_begun c channels held a b same (HasGone k) = HasGone (all_confirmed_gone c channels held k)
    confirmed_begun c channels held a b same (Awaits k) = Awaits (config_confirmed c channels held k)
    confirmed_begun c channels held a b same (Stands s over k) =
        Stands s (all_confirmed_over s channels held ∙ over) (subst (λ (l : List StreamEntry). HasStanding s l) (sym same) k)

    made_begun : (c : ℕ) (config : ChannelConfig) (held : Channels) (a b : SctpStreams S) → b.entries ≡ a.entries → IsBegun c held a
        → IsBegun c (with_channel held config) b
    made_begun c config held a b same (HasGone k) = HasGone (made_gone c held config k)
    made_begun c config held a b same (Awaits k) = Awaits (config_made c held config k)
    made_begun c config held a b same (Stands s over k) =
        Stands s (made_over s c held config over) (subst (λ (l : List StreamEntry). HasStanding s l) (sym same) k)

    after_poll : (met : Met) (s : ℕ) (es fs : List StreamEntry) → fs ≡ es → HasStanding s es ⊎ TellsStreamClosed met s
        → HasStanding s fs ⊎ TellsStreamClosed met s
    after_poll met s es fs is h = subst (λ (l : List StreamEntry). HasStanding s l ⊎ TellsStreamClosed met s) (sym is) h

    pub change_begun : (c : ℕ) (held : Channels) (a : SctpStreams S) (held' : Channels) (b : SctpStreams S) → RowsChange m held a held' b
        → AreSound held a → IsBegun c held a → IsBegun c held' b
    change_begun c held a held' b (Stayed rows h) sound begun =
        kept_begun c held held' a b rows (kept_is a.entries b.entries h.entries).stands begun
    change_begun c held a held' b (Polled answer streams h rows association entries state client) sound begun =
        answer_begun c answer held held' a b sound.numbers
        (λ s k. after_poll (met_of answer) s streams.entries b.entries entries ((poll_goes m w a answer streams h).stands s k)) rows begun
    change_begun c held a held' b (Timed now wake wake' r h is) sound begun =
        entries_begun c held held' a b is (timeout_kept m now a wake r b wake' h) begun
    change_begun c held a held' b (Progressed now wake wake' between h due started signals signals' k) sound begun =
        (moment_on due held between signals held' b signals' sound.numbers (timeout_shut m now a wake (Ok tt) between wake' sound.before h) k).begun c
        (entries_begun c held held a between refl (timeout_kept m now a wake (Ok tt) between wake' h) begun)
    change_begun c held a held' b (ThresholdSet n place h is) sound begun =
        entries_begun c held held' a b is (threshold_kept m n place a b h) begun
    change_begun c held a held' b (StreamClosed stream r h is) sound begun = entries_begun c held held' a b is (closes_kept m stream a r b h) begun
    change_begun c held a held' b (Confirmed channels is h) sound begun =
        subst (λ (x : Channels). IsBegun c x b) (sym is) (confirmed_begun c channels held a b h.entries begun)
    change_begun c held a held' b (Made config is h) sound begun =
        subst (λ (x : Channels). IsBegun c x b) (sym is) (made_begun c config held a b h.entries begun)

    -- one after the other
    pub record BegunOn (c : ℕ) (held : Channels) (a : SctpStreams S) (held' : Channels) (b : SctpStreams S) : Type 0 where
      pub sound : AreSound held a → AreSound held' b
      pub begun : AreSound held a → IsBegun c held a → IsBegun c held' b

    changes_on : (c n : ℕ) (held : Channels) (a : SctpStreams S) (held' : Channels) (b : SctpStreams S) → ChangeRows m n held a held' b
        → BegunOn c held a held' b
    changes_on c zero held a held' b h =
        subst (λ (x : Channels). BegunOn c held a x b) (sym h.0)
        (subst (λ (y : SctpStreams S). BegunOn c held a held y) (sym h.1) (record { sound = λ s. s; begun = λ s k. k }))
    changes_on c (suc n) held a held' b h =
        let first = changes_on c n held a h.0 h.1.0 h.1.1.0 in
        record {
          sound = λ s. change_sound h.0 h.1.0 held' b h.1.1.1 (first.sound s);
          begun = λ s k. change_begun c h.0 h.1.0 held' b h.1.1.1 (first.sound s) (first.begun s k);
        }

    pub changed_begun : (c : ℕ) (held : Channels) (a : SctpStreams S) (held' : Channels) (b : SctpStreams S) → RowsChanged m held a held' b
        → BegunOn c held a held' b
    changed_begun c held a held' b h = changes_on c h.changes held a held' b h.changed
