-- Channels, and entries of streams, of which none was settled for one stream by other means than messages: as polls and moments change them.
use Rattle.std.proofs.Common.{◌≡◌, ◌∙◌, ◌∷◌, ℕ, zero, suc, Bool, true, false, List, [], Option, Some, None, Result, Ok, Err, refl, sym, ap, subst}
use Rattle.std.specs.Prelude.{is_some, slice_get, slice_set}
use Rattle.std.proofs.lemmas.Option.{same_Some}
use Rattle.std.specs.declared.alloc.AllocError.{AllocError}
use Rattle.rtc_ready.specs.Signals.{Signals}
use Rattle.rtc_wire.specs.declared.channel_config.ChannelConfig.{ChannelConfig}
use Rattle.rtc_parts.specs.AssociationLaws.{AssociationLaws}
use Rattle.rtc_parts.specs.AssociationMeaning.{AssociationMeaning}
use Rattle.rtc_sctp_entries.specs.declared.asked.Asked.{Asked}
use Rattle.rtc_sctp_entries.specs.declared.asked.Asked.TheVariants as did
use Rattle.rtc_sctp_entries.specs.declared.sctp_event.SctpEvent.{SctpEvent}
use Rattle.rtc_sctp_entries.specs.declared.sctp_event.SctpEvent.TheVariants as event
use Rattle.rtc_sctp_entries.specs.declared.stream_entry_state.StreamEntryState.{StreamEntryState}
use Rattle.rtc_sctp_entries.specs.declared.stream_entry_state.StreamEntryState.TheVariants.{AwaitOpen, AwaitConfig, AwaitDcepAck, Open, Closed}
use Rattle.rtc_sctp_entries.specs.declared.stream_entry.StreamEntry.{StreamEntry}
use Rattle.rtc_sctp_entries.specs.Entries.{entry_place, is_out_of_band, marked_entry, new_entry, new_place}
use Rattle.rtc_sctp.specs.Calls.{TakesTimeout}
use Rattle.rtc_sctp.specs.StreamCalls.{ConfigBy, Declined, Answered, OpensAt, OpensAwaiting, OpensOver, TakesConfig}
use Rattle.rtc_sctp.specs.Streams.{SctpStreams}
use Rattle.rtc_channels.specs.Allocation.{Allocates}
use Rattle.rtc_channels.specs.Channels.{Channel, Channels}
use Rattle.rtc_channels.specs.Openings.{Following, MeetsMoment, OpensAll, OpensChannel}
use Rattle.rtc_peer_polling.specs.StreamStages.{channel_over}
use Rattle.rtc_peer_laws.specs.RowsChanged.{ClosesRow, ConfirmsNone, PollRows, RowsAnswered, RowsChange, RowsPolled, RowsTold, SameRows}
use Rattle.rtc_peer_laws.specs.RowsChanged.{Stayed, Polled, Timed, Progressed, ThresholdSet, StreamClosed, Confirmed, Made}
use Rattle.rtc_peer_laws.specs.ChannelStreams.{AreNumberedChannels}
use Rattle.rtc_peer_laws.proofs.AllocatedChannels.{allocated_numbers, handed_numbers}
use Rattle.rtc_run_laws.proofs.BegunRows.{answer_numbers, same_numbers}
use Rattle.rtc_run_laws.proofs.BandedRows.{AreBandedRows, allocated_banded, banded_opening, ensured_banded, opened_banded, without_banded}
use Rattle.rtc_run_laws.proofs.PlacedEntries.{place_number}
use Rattle.rtc_run_laws.proofs.StandingCalls.{closes_kept, over_id, threshold_kept, timeout_kept}
use Rattle.rtc_run_laws.proofs.StandingEntries.{AreBanded, banded_insert}
use Rattle.rtc_run_laws.proofs.StreamPolls.{poll_goes}

no_entry : (e : StreamEntry) → None ≡ Some e → ⊥
no_entry e h = cc

not_lacking : (error : AllocError) → ◌≡◌ {A = Result (Unit {0}) AllocError} (Ok tt) (Err error) → ⊥
not_lacking error h = cc

module _ (the : ℕ) where
  -- neither a channel nor an entry was settled for the stream by other means than messages, and the numbers of channels rise
  pub record IsBanded (held : Channels) (es : List StreamEntry) : Type 0 where
    pub rows : AreBandedRows the held.rows
    pub entries : AreBanded the es
    pub numbers : AreNumberedChannels held

  pub banded_same : (held held' : Channels) (es es' : List StreamEntry) → SameRows held held' → es' ≡ es → IsBanded held es → IsBanded held' es'
  banded_same held held' es es' is same h = record {
    rows = subst (λ (l : List Channel). AreBandedRows the l) (sym is.0) h.rows;
    entries = subst (λ (l : List StreamEntry). AreBanded the l) (sym same) h.entries;
    numbers = same_numbers held held' is h.numbers;
  }

  pub same_rows : (held held' : Channels) → held' ≡ held → SameRows held held'
  same_rows held held' is = (ap (λ (x : Channels). x.rows) is, ap (λ (x : Channels). x.given) is)

  -- ---- events

  told_banded : (e : SctpEvent) (held held' : Channels) → RowsTold e held held' → AreBandedRows the held.rows → AreBandedRows the held'.rows
  told_banded (event.Open stream label) held held' h k =
      subst (λ (x : Channels). AreBandedRows the x.rows) (sym h) (ensured_banded the stream held k)
  told_banded (event.Close stream pending) held held' h k = by (channel_over stream held) h
    where
      by : (found : Option ℕ) → ClosesRow found pending held held' → AreBandedRows the held'.rows
      by (Some id) closed = subst (λ (x : Channels). AreBandedRows the x.rows) (sym closed) (without_banded the id held.rows k)
      by None closed = subst (λ (l : List Channel). AreBandedRows the l) (sym closed.0) k
  told_banded (event.Transmit packets) held held' h k = subst (λ (l : List Channel). AreBandedRows the l) (sym h.0) k
  told_banded (event.StreamResetComplete id) held held' h k = subst (λ (l : List Channel). AreBandedRows the l) (sym h.0) k
  told_banded (event.Data id binary bytes) held held' h k = subst (λ (l : List Channel). AreBandedRows the l) (sym h.0) k
  told_banded (event.BufferedAmountLow id) held held' h k = subst (λ (l : List Channel). AreBandedRows the l) (sym h.0) k
  told_banded event.AssociationLost held held' h k = subst (λ (l : List Channel). AreBandedRows the l) (sym h.0) k

  answered_banded : (answer : Result (Option SctpEvent) AllocError) (held held' : Channels) → RowsAnswered answer held held' → AreBandedRows the held.rows
      → AreBandedRows the held'.rows
  answered_banded (Ok (Some e)) held held' h k = told_banded e held held' h k
  answered_banded (Ok None) held held' h k = subst (λ (l : List Channel). AreBandedRows the l) (sym h.0) k
  answered_banded (Err error) held held' h k = absurd h

  -- ---- entries that are set

  set_banded : (l : List StreamEntry) (i : ℕ) (e e' : StreamEntry) → slice_get l i ≡ Some e → ((e.id ≡ the → is_out_of_band e ≡ false) → e'.id ≡ the → is_out_of_band e' ≡ false)
      → AreBanded the l → AreBanded the (slice_set l i e')
  set_banded [] i e e' at keeps h = absurd (no_entry e at)
  set_banded (x ∷ xs) zero e e' at keeps h = (keeps (subst (λ (y : StreamEntry). y.id ≡ the → is_out_of_band y ≡ false) (same_Some x e at) h.0), h.1)
  set_banded (x ∷ xs) (suc i) e e' at keeps h = (h.0, set_banded xs i e e' at keeps h.1)

  module _ {S : Type 0} (m : AssociationMeaning S) where
    -- ---- openings

    abbrev KeepsBanded : StreamEntry → StreamEntry → Type 0
    KeepsBanded e e' = is_out_of_band e ≡ false → is_out_of_band e' ≡ false

    marked_banded : (e e' : StreamEntry) → e' ≡ marked_entry e → KeepsBanded e e'
    marked_banded e e' is h = ap (λ (x : StreamEntry). is_out_of_band x) is ∙ h

    by_config : (answer : Asked) (config : ChannelConfig) (e e' : StreamEntry) → config.negotiated ≡ None → ConfigBy answer config e (Ok tt) e' → KeepsBanded e e'
    by_config did.Done config e e' none h k =
        ap (λ (x : StreamEntry). is_out_of_band x) h ∙ ap (λ (o : Option ℕ). is_some o) none
    by_config did.Refused config e e' none h k = marked_banded e e' h k
    by_config did.OutOfMemory config e e' none h k = absurd h

    takes_config : (config : ChannelConfig) (p : S) (e : StreamEntry) (q : S) (e' : StreamEntry) → config.negotiated ≡ None
        → TakesConfig m config p e (Ok tt) q e' → KeepsBanded e e'
    takes_config config p e q e' none (Declined c f g h) k = marked_banded e e' h k
    takes_config config p e q e' none (Answered answer c f h) k = by_config answer config e e' none h k

    awaiting : (set : Bool) (config : ChannelConfig) (p : S) (e : StreamEntry) (q : S) (e' : StreamEntry) → config.negotiated ≡ None
        → OpensAwaiting m set config p e (Ok tt) q e' → KeepsBanded e e'
    awaiting true config p e q e' none h k = marked_banded e e' h.2 k
    awaiting false config p e q e' none h k = takes_config config p e q e' none h k

    over_banded : (st : StreamEntryState) (config : ChannelConfig) (p : S) (e : StreamEntry) (q : S) (e' : StreamEntry) → config.negotiated ≡ None
        → OpensOver m st config p e (Ok tt) q e' → KeepsBanded e e'
    over_banded AwaitConfig config p e q e' none h k = awaiting (is_some e.config) config p e q e' none h k
    over_banded AwaitOpen config p e q e' none h k = marked_banded e e' h.2 k
    over_banded AwaitDcepAck config p e q e' none h k = marked_banded e e' h.2 k
    over_banded Open config p e q e' none h k = marked_banded e e' h.2 k
    over_banded Closed config p e q e' none h k = marked_banded e e' h.2 k

    opens_at : (place : Option ℕ) (id : ℕ) (config : ChannelConfig) (p : S) (es : List StreamEntry) (q : S) (es' : List StreamEntry)
        → entry_place id es ≡ place → (id ≡ the → config.negotiated ≡ None) → OpensAt m place id config p es (Ok tt) q es' → AreBanded the es
        → AreBanded the es'
    opens_at None id config p es q es' at none h k =
        subst (λ (l : List StreamEntry). AreBanded the l) (sym h.1)
        (banded_insert the es (new_place id es) (new_entry id AwaitOpen (Some config)) (λ is. ap (λ (o : Option ℕ). is_some o) (none is)) k)
    opens_at (Some place) id config p es q es' at none h k =
        subst (λ (l : List StreamEntry). AreBanded the l) (sym h.4)
        (set_banded es place h.0 h.1 h.2
        (λ was is.
        let own : h.0.id ≡ the = sym (over_id m h.0.state config p h.0 q h.1 h.3) ∙ is in
        over_banded h.0.state config p h.0 q h.1 (none (sym (place_number id place es h.0 at h.2) ∙ own)) h.3 (was own))
        k)

    opens_one : (stream : Option ℕ) (config : Option ChannelConfig) (id : ℕ) (held : Channels) (p : SctpStreams S) (held' : Channels) (q : SctpStreams S)
        → ((s : ℕ) → stream ≡ Some s → s ≡ the → (own : ChannelConfig) → config ≡ Some own → own.negotiated ≡ None) → OpensChannel m stream config id held p (Ok tt) held' q → IsBanded held p.entries → IsBanded held' q.entries
    opens_one (Some s) (Some config) id held p held' q none h k =
        subst (λ (x : Channels). IsBanded x q.entries) (sym h.1)
        (record {
          rows = opened_banded the id held.rows k.rows;
          entries =
              opens_at (entry_place s p.entries) s config p.association p.entries q.association q.entries refl (λ is. none s refl is config refl) h.0.0 k.entries;
          numbers = handed_numbers id held k.numbers;
        })
    opens_one (Some s) None id held p held' q none h k =
        banded_same held held' p.entries q.entries (same_rows held held' h.1) (ap (λ (x : SctpStreams S). x.entries) h.2) k
    opens_one None config id held p held' q none h k =
        banded_same held held' p.entries q.entries (same_rows held held' h.1) (ap (λ (x : SctpStreams S). x.entries) h.2) k

    all_banded : (rows : List Channel) (held : Channels) (p : SctpStreams S) (held' : Channels) (q : SctpStreams S) → AreBandedRows the rows
        → OpensAll m rows held p (Ok tt) held' q → IsBanded held p.entries → IsBanded held' q.entries
    all_banded [] held p held' q none h k =
        banded_same held held' p.entries q.entries (same_rows held held' h.1) (ap (λ (x : SctpStreams S). x.entries) h.2) k
    all_banded (row ∷ rows) held p held' q none h k = by h.0 h.3 (λ a b. all_banded rows h.1 h.2 held' q none.1 a b) h.4
      where
        by : (did : Result (Unit {0}) AllocError) → OpensChannel m row.stream row.config row.id held p did h.1 h.2
            → (OpensAll m rows h.1 h.2 (Ok tt) held' q → IsBanded h.1 h.2.entries → IsBanded held' q.entries)
            → Following did (OpensAll m rows h.1 h.2 (Ok tt) held' q) ((Ok tt ≡ did) × (held' ≡ h.1) × (q ≡ h.2)) → IsBanded held' q.entries
        by (Ok done) one rest after = rest after
            (opens_one row.stream row.config row.id held p h.1 h.2
            (λ s is same own found. banded_opening the row none.0 (is ∙ ap (λ (n : ℕ). Some n) same) own found) one k)
        by (Err error) one rest after = absurd (not_lacking error after.0)

    progress_banded : (parity : ℕ) (held : Channels) (p : SctpStreams S) (held' : Channels) (q : SctpStreams S) (did : Result (Unit {0}) AllocError)
        (between : Channels) → Allocates parity held did between
        → Following did (OpensAll m between.rows between p (Ok tt) held' q) ((Ok tt ≡ did) × (held' ≡ between) × (q ≡ p)) → IsBanded held p.entries
        → IsBanded held' q.entries
    progress_banded parity held p held' q (Ok done) between h after k =
        let given : IsBanded between p.entries = record {
          rows = subst (λ (x : Channels). AreBandedRows the x.rows) (sym h) (allocated_banded the parity held k.numbers.0 k.rows);
          entries = k.entries;
          numbers = subst (λ (x : Channels). AreNumberedChannels x) (sym h) (allocated_numbers parity held.rows held k.numbers);
        } in
        all_banded between.rows between p held' q given.rows after given
    progress_banded parity held p held' q (Err error) between h after k = absurd (not_lacking error after.0)

    pub moment_banded : (due : Bool) (held : Channels) (p : SctpStreams S) (wake : Signals) (held' : Channels) (q : SctpStreams S) (wake' : Signals)
        → MeetsMoment m due held p wake (Ok tt) held' q wake' → IsBanded held p.entries → IsBanded held' q.entries
    moment_banded false held p wake held' q wake' h k =
        banded_same held held' p.entries q.entries (same_rows held held' h.1) (ap (λ (x : SctpStreams S). x.entries) h.2) k
    moment_banded true held p wake held' q wake' h k = progress_banded _ held p held' q h.0.0 h.0.1 h.0.2 h.0.3 k

    pub timeout_banded : (now : ℕ) (held held' : Channels) (a : SctpStreams S) (wake : Signals) (r : Result (Unit {0}) AllocError) (b : SctpStreams S)
        (wake' : Signals) → TakesTimeout m now a wake r b wake' → held' ≡ held → IsBanded held a.entries → IsBanded held' b.entries
    timeout_banded now held held' a wake r b wake' h is k = record {
      rows = subst (λ (x : Channels). AreBandedRows the x.rows) (sym is) k.rows;
      entries = (timeout_kept m now a wake r b wake' h).banded the k.entries;
      numbers = subst (λ (x : Channels). AreNumberedChannels x) (sym is) k.numbers;
    }

    -- ---- polls

    module _ (w : AssociationLaws m) where
      change_banded : (held : Channels) (a : SctpStreams S) (held' : Channels) (b : SctpStreams S) (change : RowsChange m held a held' b)
          → ConfirmsNone m held a held' b change → IsBanded held a.entries → IsBanded held' b.entries
      change_banded held a held' b (Stayed rows h) none k = banded_same held held' a.entries b.entries rows h.entries k
      change_banded held a held' b (Polled answer streams h rows association entries state client) none k = record {
        rows = answered_banded answer held held' rows k.rows;
        entries = subst (λ (l : List StreamEntry). AreBanded the l) (sym entries) ((poll_goes m w a answer streams h).banded the k.entries);
        numbers = answer_numbers answer held held' rows k.numbers;
      }
      change_banded held a held' b (Timed now wake wake' r h is) none k = timeout_banded now held held' a wake r b wake' h is k
      change_banded held a held' b (Progressed now wake wake' between h due started signals signals' t) none k =
          moment_banded due held between signals held' b signals' t (timeout_banded now held held a wake (Ok tt) between wake' h refl k)
      change_banded held a held' b (ThresholdSet n place h is) none k = record {
        rows = subst (λ (x : Channels). AreBandedRows the x.rows) (sym is) k.rows;
        entries = (threshold_kept m n place a b h).banded the k.entries;
        numbers = subst (λ (x : Channels). AreNumberedChannels x) (sym is) k.numbers;
      }
      change_banded held a held' b (StreamClosed stream r h is) none k = record {
        rows = subst (λ (x : Channels). AreBandedRows the x.rows) (sym is) k.rows;
        entries = (closes_kept m stream a r b h).banded the k.entries;
        numbers = subst (λ (x : Channels). AreNumberedChannels x) (sym is) k.numbers;
      }
      change_banded held a held' b (Confirmed channels is h) none k = absurd none
      change_banded held a held' b (Made config is h) none k = absurd none

      changes_banded : (n : ℕ) (held : Channels) (a : SctpStreams S) (held' : Channels) (b : SctpStreams S) → PollRows m n held a held' b
          → IsBanded held a.entries → IsBanded held' b.entries
      changes_banded zero held a held' b h k =
          banded_same held held' a.entries b.entries (same_rows held held' h.0) (ap (λ (x : SctpStreams S). x.entries) h.1) k
      changes_banded (suc n) held a held' b h k = change_banded h.0 h.1 held' b h.3 h.4 (changes_banded n held a h.0 h.1 h.2 k)

      pub polled_banded : (held : Channels) (a : SctpStreams S) (held' : Channels) (b : SctpStreams S) → RowsPolled m held a held' b
          → IsBanded held a.entries → IsBanded held' b.entries
      polled_banded held a held' b h k = changes_banded h.changes held a held' b h.changed k
