-- A channel of which data was told in a generation of its stream, before it was announced: it has gone, or the entry of its stream says so. It
-- stays so by each change of channels and of the entries of their streams.
use Rattle.std.proofs.Common.{◌≡◌, ◌∙◌, ◌⊎◌, ◌==◌, inl, inr, ℕ, zero, suc, Bool, true, false, List, [], ◌∷◌, Option, Some, None, Result, Ok, Err, refl, sym, ap, subst}
use Rattle.std.specs.declared.alloc.AllocError.{AllocError}
use Rattle.std.proofs.lemmas.Bool.{eqb-true, eqb-false}
use Rattle.rtc_ready.specs.Signals.{Signals}
use Rattle.rtc_wire.specs.declared.channel_config.ChannelConfig.{ChannelConfig}
use Rattle.rtc_parts.specs.AssociationLaws.{AssociationLaws}
use Rattle.rtc_parts.specs.AssociationMeaning.{AssociationMeaning}
use Rattle.rtc_sctp_entries.specs.declared.met.Met.{Met}
use Rattle.rtc_sctp_entries.specs.declared.met.Met.TheVariants.{Nothing, Output}
use Rattle.rtc_sctp_entries.specs.declared.sctp_event.SctpEvent.{SctpEvent}
use Rattle.rtc_sctp_entries.specs.declared.sctp_event.SctpEvent.TheVariants as event
use Rattle.rtc_sctp.specs.Streams.{SctpStreams}
use Rattle.rtc_sctp_laws.specs.GenerationLaws.{GenerationLaws}
use Rattle.rtc_sctp_laws.specs.StreamMessages.{met_of}
use Rattle.rtc_channels.specs.Allocation.{Allocates, all_allocated, channel_ensured}
use Rattle.rtc_channels.specs.Channels.{Channel, Channels, all_confirmed, with_channel}
use Rattle.rtc_channels.specs.Holds.{removed_channel}
use Rattle.rtc_channels.specs.Ids.{parity_of}
use Rattle.rtc_channels.specs.Openings.{Following, MeetsMoment, OpensAll, OpensChannel, config_handed}
use Rattle.rtc_peer_polling.specs.StreamStages.{channel_over}
use Rattle.rtc_peer_laws.specs.ChannelStreams.{AreNumberedChannels, IsGone}
use Rattle.rtc_peer_laws.specs.RowsChanged.{ChangeRows, ClosesRow, RowsAnswered, RowsChange, RowsChanged, RowsPolled, RowsTold, SameRows}
use Rattle.rtc_peer_laws.specs.RowsChanged.{Stayed, Polled, Timed, Progressed, ThresholdSet, StreamClosed, Confirmed, Made}
use Rattle.rtc_peer_laws.proofs.AllocatedChannels.{all_over, allocated_numbers, handed_numbers, handed_over}
use Rattle.rtc_peer_laws.proofs.ChangedRows.{same_rows}
use Rattle.rtc_peer_laws.proofs.ChannelsOver.{ensured_gone, ensured_over, removed_gone, without_over}
use Rattle.rtc_peer_laws.proofs.ConfirmedChannels.{all_confirmed_numbers, all_confirmed_over, made_numbers, made_over}
use Rattle.rtc_peer_laws.proofs.GoneChannels.{all_confirmed_gone, allocated_gone, handed_gone, made_gone}
use Rattle.rtc_peer_laws.proofs.PolledRows.{polled_changes}
use Rattle.rtc_run_laws.proofs.BegunRows.{answer_numbers, gone_removed, same_numbers}
use Rattle.rtc_run_laws.proofs.CompletingVisits.{TellsClose}
use Rattle.rtc_run_laws.proofs.UnendedTours.{HasSaid, said_is}
use Rattle.rtc_run_laws.proofs.UnendedPolls.{LeavesSaid, poll_says}
use Rattle.rtc_run_laws.proofs.UnendedCalls.{acts_said, closes_said, opens_said, threshold_said, timeout_said}

no_some : (c : ℕ) → None ≡ Some c → ⊥
no_some c h = cc

some_is : (a b : ℕ) → Some a ≡ Some b → a ≡ b
some_is a b h = cc

not_lacking : (error : AllocError) → ◌≡◌ {A = Result (Unit {0}) AllocError} (Ok tt) (Err error) → ⊥
not_lacking error h = cc

close_is : (n s : ℕ) (b c : Bool) → Output (event.Close n b) ≡ Output (event.Close s c) → n ≡ s
close_is n s b c h = cc

module _ {S : Type 0} (m : AssociationMeaning S) (g : ℕ) where
  -- it has gone, or it has the stream, whose entry says so
  pub data StandsIn (c s : ℕ) (held : Channels) (a : SctpStreams S) : Type 0 where
    Went : IsGone c held → StandsIn c s held a
    Waits : channel_over s held ≡ Some c → HasSaid m g s a.association a.entries → StandsIn c s held a

  stands_at : (c s : ℕ) (held held' : Channels) (a : SctpStreams S) → held' ≡ held → StandsIn c s held a → StandsIn c s held' a
  stands_at c s held held' a is h = subst (λ (x : Channels). StandsIn c s x a) (sym is) h

  same_over : (s c : ℕ) (held held' : Channels) → SameRows held held' → channel_over s held ≡ Some c → channel_over s held' ≡ Some c
  same_over s c held held' is over = subst (λ (rows : List Channel). channel_over s (record held' { rows = rows }) ≡ Some c) (sym is.0) over

  same_gone : (c : ℕ) (held held' : Channels) → SameRows held held' → IsGone c held → IsGone c held'
  same_gone c held held' is h =
      subst (λ (rows : List Channel). IsGone c (record held' { rows = rows })) (sym is.0)
      (subst (λ (n : ℕ). IsGone c (record held' { given = n; rows = held.rows })) (sym is.1) h)

  -- rows stay
  same_stands : (c s : ℕ) (held held' : Channels) (a b : SctpStreams S) → SameRows held held'
      → (HasSaid m g s a.association a.entries → HasSaid m g s b.association b.entries) → StandsIn c s held a → StandsIn c s held' b
  same_stands c s held held' a b is f (Went h) = Went (same_gone c held held' is h)
  same_stands c s held held' a b is f (Waits over h) = Waits (same_over s c held held' is over) (f h)

  -- ---- polls

  abbrev Left : ℕ → Met → SctpStreams S → Type 0
  Left s met b = TellsClose s met ⊎ HasSaid m g s b.association b.entries

  quiet_left : (s : ℕ) (e : SctpEvent) (b : SctpStreams S) → ((pending : Bool) → Output e ≡ Output (event.Close s pending) → ⊥) → Left s (Output e) b
      → HasSaid m g s b.association b.entries
  quiet_left s e b none (inl h) = absurd (none h.0 h.1)
  quiet_left s e b none (inr h) = h

  quiet_told : (c s : ℕ) (e : SctpEvent) (held held' : Channels) (a b : SctpStreams S)
      → ((pending : Bool) → Output e ≡ Output (event.Close s pending) → ⊥) → (HasSaid m g s a.association a.entries → Left s (Output e) b)
      → SameRows held held' → StandsIn c s held a → StandsIn c s held' b
  quiet_told c s e held held' a b none f is h = same_stands c s held held' a b is (λ x. quiet_left s e b none (f x)) h

  closes_told : (c s stream : ℕ) (pending : Bool) (found : Option ℕ) (held held' : Channels) (a b : SctpStreams S) → channel_over stream held ≡ found
      → AreNumberedChannels held → (HasSaid m g s a.association a.entries → Left s (Output (event.Close stream pending)) b)
      → ClosesRow found pending held held' → StandsIn c s held a → StandsIn c s held' b
  closes_told c s stream pending (Some id) held held' a b is numbers f h (Went k) =
      stands_at c s (removed_channel id pending held) held' b h (Went (removed_gone c id pending held k))
  closes_told c s stream pending (Some id) held held' a b is numbers f h (Waits over k) =
      stands_at c s (removed_channel id pending held) held' b h (by (id == c) refl (f k))
    where
      by : (e : Bool) → (id == c) ≡ e → Left s (Output (event.Close stream pending)) b → StandsIn c s (removed_channel id pending held) b
      by true e x = Went (gone_removed c id stream pending held numbers is (eqb-true id c e))
      by false e (inl x) =
          absurd
          (eqb-false id c e
          (some_is id c (sym is ∙ ap (λ (n : ℕ). channel_over n held) (close_is stream s pending x.0 x.1) ∙ over)))
      by false e (inr x) = Waits (without_over s c id held.rows (eqb-false id c e) over) x
  closes_told c s stream pending None held held' a b is numbers f h (Went k) = Went (same_gone c held held' h k)
  closes_told c s stream pending None held held' a b is numbers f h (Waits over k) = by (f k)
    where
      by : Left s (Output (event.Close stream pending)) b → StandsIn c s held' b
      by (inl x) =
          absurd (no_some c (sym is ∙ ap (λ (n : ℕ). channel_over n held) (close_is stream s pending x.0 x.1) ∙ over))
      by (inr x) = Waits (same_over s c held held' h over) x

  opens_told : (c s stream : ℕ) (label : List ℕ) (held : Channels) (a b : SctpStreams S)
      → (HasSaid m g s a.association a.entries → Left s (Output (event.Open stream label)) b) → StandsIn c s held a
      → StandsIn c s (channel_ensured stream held) b
  opens_told c s stream label held a b f (Went h) = Went (ensured_gone stream c held h)
  opens_told c s stream label held a b f (Waits over h) =
      Waits (ensured_over stream s c held over) (quiet_left s (event.Open stream label) b (λ pending e. cc) (f h))

  event_stands : (c s : ℕ) (e : SctpEvent) (held held' : Channels) (a b : SctpStreams S) → AreNumberedChannels held
      → (HasSaid m g s a.association a.entries → Left s (Output e) b) → RowsTold e held held' → StandsIn c s held a → StandsIn c s held' b
  event_stands c s (event.Open stream label) held held' a b numbers f h k =
      stands_at c s (channel_ensured stream held) held' b h (opens_told c s stream label held a b f k)
  event_stands c s (event.Close stream pending) held held' a b numbers f h k =
      closes_told c s stream pending (channel_over stream held) held held' a b refl numbers f h k
  event_stands c s (event.Transmit packets) held held' a b numbers f h k =
      quiet_told c s (event.Transmit packets) held held' a b (λ pending e. cc) f h k
  event_stands c s (event.StreamResetComplete id) held held' a b numbers f h k =
      quiet_told c s (event.StreamResetComplete id) held held' a b (λ pending e. cc) f h k
  event_stands c s (event.Data id binary bytes) held held' a b numbers f h k =
      quiet_told c s (event.Data id binary bytes) held held' a b (λ pending e. cc) f h k
  event_stands c s (event.BufferedAmountLow id) held held' a b numbers f h k =
      quiet_told c s (event.BufferedAmountLow id) held held' a b (λ pending e. cc) f h k
  event_stands c s event.AssociationLost held held' a b numbers f h k =
      quiet_told c s event.AssociationLost held held' a b (λ pending e. cc) f h k

  nothing_left : (s : ℕ) (b : SctpStreams S) → Left s Nothing b → HasSaid m g s b.association b.entries
  nothing_left s b (inl h) = absurd (let c : Nothing ≡ Output (event.Close s h.0) = h.1 in cc)
  nothing_left s b (inr h) = h

  answer_stands : (c s : ℕ) (answer : Result (Option SctpEvent) AllocError) (held held' : Channels) (a b : SctpStreams S) → AreNumberedChannels held
      → (HasSaid m g s a.association a.entries → Left s (met_of answer) b) → RowsAnswered answer held held' → StandsIn c s held a
      → StandsIn c s held' b
  answer_stands c s (Ok (Some e)) held held' a b numbers f h k = event_stands c s e held held' a b numbers f h k
  answer_stands c s (Ok None) held held' a b numbers f h k = same_stands c s held held' a b h (λ x. nothing_left s b (f x)) k
  answer_stands c s (Err error) held held' a b numbers f h k = absurd h

  module _ (w : AssociationLaws m) (v : GenerationLaws m) (c s : ℕ) where
    -- what goes on so: the numbers of channels rise, and the channel stands so
    pub record GoesOn (held : Channels) (a : SctpStreams S) (held' : Channels) (b : SctpStreams S) : Type 0 where
      pub numbers : AreNumberedChannels held → AreNumberedChannels held'
      pub stands : AreNumberedChannels held → StandsIn c s held a → StandsIn c s held' b

    goes_none : (held : Channels) (a : SctpStreams S) (held' : Channels) (b : SctpStreams S) → held' ≡ held → b ≡ a → GoesOn held a held' b
    goes_none held a held' b is same =
        subst (λ (x : Channels). GoesOn held a x b) (sym is)
        (subst (λ (y : SctpStreams S). GoesOn held a held y) (sym same) (record { numbers = λ n. n; stands = λ n k. k }))

    goes_then : (held : Channels) (a : SctpStreams S) (x : Channels) (y : SctpStreams S) (held' : Channels) (b : SctpStreams S) → GoesOn held a x y
        → GoesOn x y held' b → GoesOn held a held' b
    goes_then held a x y held' b h k = record {
      numbers = λ n. k.numbers (h.numbers n);
      stands = λ n z. k.stands (h.numbers n) (h.stands n z);
    }

    -- the same channels
    goes_over : (held held' : Channels) (a b : SctpStreams S) → held' ≡ held
        → (HasSaid m g s a.association a.entries → HasSaid m g s b.association b.entries) → GoesOn held a held' b
    goes_over held held' a b is f = record {
      numbers = λ n. subst AreNumberedChannels (sym is) n;
      stands = λ n k. same_stands c s held held' a b (same_rows held held' is) f k;
    }

    -- ---- moments

    opens_one : (stream : Option ℕ) (config : Option ChannelConfig) (id : ℕ) (held : Channels) (p : SctpStreams S) (r : Result (Unit {0}) AllocError)
        (held' : Channels) (q : SctpStreams S) → OpensChannel m stream config id held p r held' q → GoesOn held p held' q
    opens_one (Some t) (Some config) id held p r held' q h =
        subst (λ (x : Channels). GoesOn held p x q) (sym h.1)
        (record { numbers = λ n. handed_numbers id held n; stands = λ n k. by k })
      where
        by : StandsIn c s held p → StandsIn c s (config_handed id held) q
        by (Went k) = Went (handed_gone c id held k)
        by (Waits over k) = Waits (handed_over s id c held over) (opens_said m g w s t config p r q h.0 k)
    opens_one (Some t) None id held p r held' q h = goes_none held p held' q h.1 h.2
    opens_one None config id held p r held' q h = goes_none held p held' q h.1 h.2

    all_opened : (rows : List Channel) (held : Channels) (p : SctpStreams S) (held' : Channels) (q : SctpStreams S)
        → OpensAll m rows held p (Ok tt) held' q → GoesOn held p held' q
    all_opened [] held p held' q h = goes_none held p held' q h.1 h.2
    all_opened (row ∷ rows) held p held' q h = by h.0 h.3 (λ k. all_opened rows h.1 h.2 held' q k) h.4
      where
        by : (did : Result (Unit {0}) AllocError) → OpensChannel m row.stream row.config row.id held p did h.1 h.2
            → (OpensAll m rows h.1 h.2 (Ok tt) held' q → GoesOn h.1 h.2 held' q)
            → Following did (OpensAll m rows h.1 h.2 (Ok tt) held' q) ((Ok tt ≡ did) × (held' ≡ h.1) × (q ≡ h.2)) → GoesOn held p held' q
        by (Ok done) one rest k =
            goes_then held p h.1 h.2 held' q (opens_one row.stream row.config row.id held p (Ok done) h.1 h.2 one) (rest k)
        by (Err error) one rest k = absurd (not_lacking error k.0)

    allocated : (parity : ℕ) (held : Channels) (p : SctpStreams S) (between : Channels) → between ≡ all_allocated parity held.rows held
        → GoesOn held p between p
    allocated parity held p between is =
        subst (λ (x : Channels). GoesOn held p x p) (sym is)
        (record { numbers = λ n. allocated_numbers parity held.rows held n; stands = λ n k. by n k })
      where
        by : AreNumberedChannels held → StandsIn c s held p → StandsIn c s (all_allocated parity held.rows held) p
        by n (Went k) = Went (allocated_gone parity c held.rows held k)
        by n (Waits over k) = Waits (all_over parity s c held n over) k

    progress_goes : (parity : ℕ) (did : Result (Unit {0}) AllocError) (held : Channels) (p : SctpStreams S) (between held' : Channels)
        (q : SctpStreams S) → Allocates parity held did between
        → Following did (OpensAll m between.rows between p (Ok tt) held' q) ((Ok tt ≡ did) × (held' ≡ between) × (q ≡ p))
        → GoesOn held p held' q
    progress_goes parity (Ok done) held p between held' q is k =
        goes_then held p between p held' q (allocated parity held p between is) (all_opened between.rows between p held' q k)
    progress_goes parity (Err error) held p between held' q is k = absurd (not_lacking error k.0)

    moment_goes : (due : Bool) (held : Channels) (p : SctpStreams S) (wake : Signals) (held' : Channels) (q : SctpStreams S) (wake' : Signals)
        → MeetsMoment m due held p wake (Ok tt) held' q wake' → GoesOn held p held' q
    moment_goes false held p wake held' q wake' h = goes_none held p held' q h.1 h.2
    moment_goes true held p wake held' q wake' h =
        progress_goes (parity_of p.client) h.0.0 held p h.0.1 held' q h.0.2 h.0.3

    -- ---- changes

    change_goes : (held : Channels) (a : SctpStreams S) (held' : Channels) (b : SctpStreams S) → RowsChange m held a held' b → GoesOn held a held' b
    change_goes held a held' b (Stayed rows h) = record {
      numbers = λ n. same_numbers held held' rows n;
      stands = λ n k.
          same_stands c s held held' a b rows
          (λ x. acts_said m g w s h.acts a.association b.association a.entries b.entries h.untold h.went h.entries x) k;
    }
    change_goes held a held' b (Polled answer streams h rows association entries state client) = record {
      numbers = λ n. answer_numbers answer held held' rows n;
      stands = λ n k. answer_stands c s answer held held' a b n (λ x. left (poll_says m g w v s a answer streams h x)) rows k;
    }
      where
        left : LeavesSaid m g w v s (met_of answer) streams → Left s (met_of answer) b
        left k = by k.left
          where
            by : TellsClose s (met_of answer) ⊎ HasSaid m g s streams.association streams.entries → Left s (met_of answer) b
            by (inl x) = inl x
            by (inr x) =
                inr
                (said_is m g s b.association streams.entries b.entries entries
                (subst (λ (y : S). HasSaid m g s y streams.entries) (sym association) x))
    change_goes held a held' b (Timed now wake wake' r h is) = goes_over held held' a b is (λ x. timeout_said m g w s now a wake r b wake' h x)
    change_goes held a held' b (Progressed now wake wake' between h due started signals signals' k) =
        goes_then held a held between held' b (goes_over held held a between refl (λ x. timeout_said m g w s now a wake (Ok tt) between wake' h x))
        (moment_goes due held between signals held' b signals' k)
    change_goes held a held' b (ThresholdSet n place h is) = goes_over held held' a b is (λ x. threshold_said m g w s n place a b h x)
    change_goes held a held' b (StreamClosed stream r h is) = goes_over held held' a b is (λ x. closes_said m g w s stream a r b h x)
    change_goes held a held' b (Confirmed channels is h) =
        subst (λ (x : Channels). GoesOn held a x b) (sym is)
        (record { numbers = λ n. all_confirmed_numbers channels held n; stands = λ n k. by k })
      where
        by : StandsIn c s held a → StandsIn c s (all_confirmed channels held) b
        by (Went k) = Went (all_confirmed_gone c channels held k)
        by (Waits over k) =
            Waits (all_confirmed_over s channels held ∙ over)
            (acts_said m g w s h.acts a.association b.association a.entries b.entries h.untold h.went h.entries k)
    change_goes held a held' b (Made config is h) =
        subst (λ (x : Channels). GoesOn held a x b) (sym is)
        (record { numbers = λ n. made_numbers held config n; stands = λ n k. by k })
      where
        by : StandsIn c s held a → StandsIn c s (with_channel held config) b
        by (Went k) = Went (made_gone c held config k)
        by (Waits over k) =
            Waits (made_over s c held config over)
            (acts_said m g w s h.acts a.association b.association a.entries b.entries h.untold h.went h.entries k)

    changes_go : (n : ℕ) (held : Channels) (a : SctpStreams S) (held' : Channels) (b : SctpStreams S) → ChangeRows m n held a held' b
        → GoesOn held a held' b
    changes_go zero held a held' b h = goes_none held a held' b h.0 h.1
    changes_go (suc n) held a held' b h =
        goes_then held a h.0 h.1.0 held' b (changes_go n held a h.0 h.1.0 h.1.1.0) (change_goes h.0 h.1.0 held' b h.1.1.1)

    pub rows_go : (held : Channels) (a : SctpStreams S) (held' : Channels) (b : SctpStreams S) → RowsChanged m held a held' b → GoesOn held a held' b
    rows_go held a held' b h = changes_go h.changes held a held' b h.changed

    pub polled_go : (held : Channels) (a : SctpStreams S) (held' : Channels) (b : SctpStreams S) → RowsPolled m held a held' b → GoesOn held a held' b
    polled_go held a held' b h = rows_go held a held' b (polled_changes m held a held' b h)
