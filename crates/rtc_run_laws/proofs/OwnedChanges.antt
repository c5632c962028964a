-- Openings from here are over streams of this side, unless a channel was settled for them by other means: as polls and moments change channels
-- and the entries of their streams.
use Rattle.std.proofs.Common.{◌≡◌, ◌∙◌, ◌⊎◌, inl, inr, ℕ, Bool, true, false, List, [], ◌∷◌, Option, Some, None, Result, Ok, Err, refl, sym, ap, subst}
use Rattle.std.specs.Prelude.{is_some}
use Rattle.std.specs.declared.alloc.AllocError.{AllocError}
use Rattle.rtc_ready.specs.Signals.{Signals}
use Rattle.rtc_wire.specs.declared.channel_config.ChannelConfig.{ChannelConfig}
use Rattle.rtc_channels.specs.Ids.{parity_of}
use Rattle.rtc_parts.specs.AssociationMeaning.{AssociationMeaning}
use Rattle.rtc_sctp_entries.specs.declared.met.Met.TheVariants.{Output}
use Rattle.rtc_sctp_entries.specs.declared.sctp_event.SctpEvent.{SctpEvent}
use Rattle.rtc_sctp_entries.specs.declared.sctp_event.SctpEvent.TheVariants as event
use Rattle.rtc_sctp_entries.specs.declared.stream_entry.StreamEntry.{StreamEntry}
use Rattle.rtc_sctp_entries.specs.Entries.{Ascend}
use Rattle.rtc_sctp.specs.Streams.{SctpStreams}
use Rattle.rtc_sctp_laws.specs.StreamMessages.{met_of}
use Rattle.rtc_channels.specs.Allocation.{Allocates, all_allocated}
use Rattle.rtc_channels.specs.Channels.{Channel, Channels}
use Rattle.rtc_channels.specs.Holds.{channels_without}
use Rattle.rtc_channels.specs.Openings.{Following, MeetsMoment, OpensAll, OpensChannel, config_handed}
use Rattle.rtc_peer_polling.specs.StreamStages.{channel_over}
use Rattle.rtc_peer_laws.specs.ChannelStreams.{AreNumberedChannels}
use Rattle.rtc_peer_laws.specs.RowsChanged.{ClosesRow, RowsAnswered, RowsTold, SameRows}
use Rattle.rtc_peer_laws.proofs.ChannelsOver.{under_over, under_rows}
use Rattle.rtc_run_laws.specs.OwnOpenings.{HasOpening, IsOfSide}
use Rattle.rtc_run_laws.proofs.StandingEntries.{HasStanding, Kept, NoneClosed}
use Rattle.rtc_run_laws.proofs.StreamPolls.{StreamsGo}
use Rattle.rtc_run_laws.proofs.StandingCalls.{Opened, opens_ordered, opens_stand}
use Rattle.rtc_run_laws.proofs.OwnedRows.{AreAmongRows, AreOwnRows, HasOver, HasOwner, IsLike, IsOwner, among_all, among_opened, apart_own, ensured_has, ensured_own, none_without, opened_has, opened_own, over_map, own_map, without_has, without_own}
use Rattle.rtc_run_laws.proofs.OwnedAllocation.{allocated_has, allocated_own}
use Rattle.rtc_run_laws.proofs.SureRows.{AreSureRows, allocated_sure, ensured_sure, opened_sure, without_sure}

not_lacking : (error : AllocError) → ◌≡◌ {A = Result (Unit {0}) AllocError} (Ok tt) (Err error) → ⊥
not_lacking error h = cc

-- by what is told
only : (s : ℕ) (es : List StreamEntry) → HasStanding s es ⊎ ⊥ → HasStanding s es
only s es (inl h) = h
only s es (inr k) = absurd k

module _ (c : Bool) where
  -- Entries are in order. A row that has a stream has one of this side, or was settled by other means, or the stream has an entry past its
  -- opening. An opening from here has the row of its channel.
  pub record IsOwned (held : Channels) (es : List StreamEntry) : Type 0 where
    pub ordered : Ascend es
    pub rows : AreOwnRows c (λ s. HasStanding s es) held.rows
    pub openings : (s : ℕ) → HasOpening s es → HasOwner c s held.rows
    pub sure : AreSureRows held.rows

  owned_on : (held held' : Channels) (es es' : List StreamEntry) → held'.rows ≡ held.rows → ((s : ℕ) → HasStanding s es → HasStanding s es')
      → ((s : ℕ) → HasOpening s es' → HasOpening s es) → (Ascend es → Ascend es') → IsOwned held es → IsOwned held' es'
  owned_on held held' es es' is stands openings ordered h = record {
    ordered = ordered h.ordered;
    rows =
        subst (λ (l : List Channel). AreOwnRows c (λ s. HasStanding s es') l) (sym is)
        (own_map c (λ s. HasStanding s es) (λ s. HasStanding s es') held.rows stands h.rows);
    openings = λ s o. subst (λ (l : List Channel). HasOwner c s l) (sym is) (h.openings s (openings s o));
    sure = subst (λ (l : List Channel). AreSureRows l) (sym is) h.sure;
  }

  pub owned_kept : (held held' : Channels) (es es' : List StreamEntry) → held'.rows ≡ held.rows → Kept es es' → IsOwned held es → IsOwned held' es'
  owned_kept held held' es es' is kept h = owned_on held held' es es' is kept.stands kept.openings kept.ordered h

  -- ---- polls

  module _ {S : Type 0} where
    closed_owned : (stream : ℕ) (pending : Bool) (found : Option ℕ) (held held' : Channels) (a b : SctpStreams S) → channel_over stream held ≡ found
        → AreNumberedChannels held → StreamsGo (Output (event.Close stream pending)) a b → ClosesRow found pending held held'
        → IsOwned held a.entries → IsOwned held' b.entries
    closed_owned stream pending (Some id) held held' a b is numbers goes h owned =
        subst (λ (x : Channels). IsOwned x b.entries) (sym h)
        (record {
          ordered = goes.ordered owned.ordered;
          rows =
              apart_own c (λ s. HasStanding s a.entries) (λ s. HasStanding s b.entries) stream (channels_without id held.rows)
              (none_without stream id held.rows numbers.2 under)
              (λ s k. goes.stands s k) (without_own c (λ s. HasStanding s a.entries) id held.rows owned.rows);
          openings = λ s o. left s o (without_has (IsOwner c s) s stream id held.rows under (owned.openings s (goes.openings s o)));
          sure = without_sure id held.rows owned.sure;
        })
      where
        under : under_rows id held.rows ≡ Some stream
        under = under_over stream id held numbers.0 is

        left : (s : ℕ) → HasOpening s b.entries → HasOwner c s (channels_without id held.rows) ⊎ (stream ≡ s)
            → HasOwner c s (channels_without id held.rows)
        left s o (inl k) = k
        left s o (inr same) = absurd (goes.shut s same owned.ordered o)
    closed_owned stream pending None held held' a b is numbers goes h owned = record {
      ordered = goes.ordered owned.ordered;
      rows =
          subst (λ (l : List Channel). AreOwnRows c (λ s. HasStanding s b.entries) l) (sym h.0)
          (apart_own c (λ s. HasStanding s a.entries) (λ s. HasStanding s b.entries) stream held.rows is (λ s k. goes.stands s k) owned.rows);
      openings = λ s o. subst (λ (l : List Channel). HasOwner c s l) (sym h.0) (owned.openings s (goes.openings s o));
      sure = subst (λ (l : List Channel). AreSureRows l) (sym h.0) owned.sure;
    }

    -- rows stay, and no stream is told to be closed
    quiet_owned : (e : SctpEvent) (held held' : Channels) (a b : SctpStreams S) → StreamsGo (Output e) a b
        → ((s : ℕ) → HasStanding s a.entries → HasStanding s b.entries) → SameRows held held' → IsOwned held a.entries → IsOwned held' b.entries
    quiet_owned e held held' a b goes stands h owned = owned_on held held' a.entries b.entries h.0 stands goes.openings goes.ordered owned

    event_owned : (e : SctpEvent) (held held' : Channels) (a b : SctpStreams S) → AreNumberedChannels held → StreamsGo (Output e) a b
        → RowsTold e held held' → IsOwned held a.entries → IsOwned held' b.entries
    event_owned (event.Open stream label) held held' a b numbers goes h owned =
        subst (λ (x : Channels). IsOwned x b.entries) (sym h)
        (record {
          ordered = goes.ordered owned.ordered;
          rows =
              ensured_own c (λ s. HasStanding s b.entries) stream held (goes.tells_open stream refl)
              (own_map c (λ s. HasStanding s a.entries) (λ s. HasStanding s b.entries) held.rows (λ s k. only s b.entries (goes.stands s k)) owned.rows);
          openings = λ s o. ensured_has (IsOwner c s) s stream held (owned.openings s (goes.openings s o));
          sure = ensured_sure stream held owned.sure;
        })
    event_owned (event.Close stream pending) held held' a b numbers goes h owned =
        closed_owned stream pending (channel_over stream held) held held' a b refl numbers goes h owned
    event_owned (event.Transmit packets) held held' a b numbers goes h owned =
        quiet_owned (event.Transmit packets) held held' a b goes (λ s k. only s b.entries (goes.stands s k)) h owned
    event_owned (event.StreamResetComplete id) held held' a b numbers goes h owned =
        quiet_owned (event.StreamResetComplete id) held held' a b goes (λ s k. only s b.entries (goes.stands s k)) h owned
    event_owned (event.Data id binary bytes) held held' a b numbers goes h owned =
        quiet_owned (event.Data id binary bytes) held held' a b goes (λ s k. only s b.entries (goes.stands s k)) h owned
    event_owned (event.BufferedAmountLow id) held held' a b numbers goes h owned =
        quiet_owned (event.BufferedAmountLow id) held held' a b goes (λ s k. only s b.entries (goes.stands s k)) h owned
    event_owned event.AssociationLost held held' a b numbers goes h owned =
        quiet_owned event.AssociationLost held held' a b goes (λ s k. only s b.entries (goes.stands s k)) h owned

    pub answer_owned : (answer : Result (Option SctpEvent) AllocError) (held held' : Channels) (a b : SctpStreams S) → AreNumberedChannels held
        → StreamsGo (met_of answer) a b → RowsAnswered answer held held' → IsOwned held a.entries → IsOwned held' b.entries
    answer_owned (Ok (Some e)) held held' a b numbers goes h owned = event_owned e held held' a b numbers goes h owned
    answer_owned (Ok None) held held' a b numbers goes h owned =
        owned_on held held' a.entries b.entries h.0 (λ s k. only s b.entries (goes.stands s k)) goes.openings goes.ordered owned
    answer_owned (Err error) held held' a b numbers goes h owned = absurd h

  -- ---- moments

  module _ {S : Type 0} (m : AssociationMeaning S) where
    -- what the opening of a channel leaves
    record OwnedOn (held : Channels) (p : SctpStreams S) (held' : Channels) (q : SctpStreams S) : Type 0 where
      owned : IsOwned held' q.entries
      shut : NoneClosed q.entries
      stands : (s : ℕ) → HasStanding s p.entries → HasStanding s q.entries
      among : (channels : List Channel) → AreAmongRows channels held.rows → AreAmongRows channels held'.rows

    same_on : (held : Channels) (p : SctpStreams S) (held' : Channels) (q : SctpStreams S) → held' ≡ held → q ≡ p → NoneClosed p.entries
        → IsOwned held p.entries → OwnedOn held p held' q
    same_on held p held' q is same shut owned =
        subst (λ (x : Channels). OwnedOn held p x q) (sym is)
        (subst (λ (y : SctpStreams S). OwnedOn held p held y) (sym same)
        (record { owned = owned; shut = shut; stands = λ s k. k; among = λ channels k. k }))

    opens_own : (s id : ℕ) (settled : Option ℕ) (held : Channels) (p q : SctpStreams S) → HasOver (λ own sure. (own ≡ settled) × (sure ≡ true)) s held.rows
        → (settled ≡ None → IsOfSide c s ⊎ HasStanding s p.entries) → Opened m s p.entries q.entries → (Ascend p.entries → Ascend q.entries)
        → IsOwned held p.entries → OwnedOn held p (config_handed id held) q
    opens_own s id settled held p q over own opened ordered owned = record {
      owned = record {
        ordered = ordered owned.ordered;
        rows =
            opened_own c (λ t. HasStanding t q.entries) id held.rows
            (own_map c (λ t. HasStanding t p.entries) (λ t. HasStanding t q.entries) held.rows opened.others owned.rows);
        openings = λ t o. opened_has (IsOwner c t) t id held.rows (by t (opened.openings t o));
        sure = opened_sure id held.rows owned.sure;
      };
      shut = opened.shut;
      stands = opened.others;
      among = λ channels k. among_opened id channels held.rows k;
    }
      where
        new : (HasStanding s p.entries → ⊥) → IsOfSide c s ⊎ HasStanding s p.entries → IsOfSide c s
        new none (inl k) = k
        new none (inr k) = absurd (none k)

        by : (t : ℕ) → HasOpening t p.entries ⊎ ((s ≡ t) × (HasStanding s p.entries → ⊥)) → HasOwner c t held.rows
        by t (inl o) = owned.openings t o
        by t (inr k) =
            subst (λ (n : ℕ). HasOwner c n held.rows) k.0
            (over_map (λ n b. (n ≡ settled) × (b ≡ true)) (IsOwner c s) s held.rows
            (λ n b is. ((λ none. new k.1 (own (sym is.0 ∙ none))), is.1)) over)

    opens_one : (row : Channel) (stream : Option ℕ) (config : Option ChannelConfig) (id : ℕ) (held : Channels) (p : SctpStreams S) (held' : Channels)
        (q : SctpStreams S) → row.stream ≡ stream → row.config ≡ config → (is_some row.config ≡ true → row.confirmed ≡ true)
        → ((s : ℕ) → row.stream ≡ Some s → HasOver (IsLike row) s held.rows)
        → ((s : ℕ) → row.stream ≡ Some s → row.negotiated ≡ None → IsOfSide c s ⊎ HasStanding s p.entries) → NoneClosed p.entries
        → OpensChannel m stream config id held p (Ok tt) held' q → IsOwned held p.entries → OwnedOn held p held' q
    opens_one row (Some s) (Some config) id held p held' q is found sure over own shut h owned =
        subst (λ (x : Channels). OwnedOn held p x q) (sym h.1)
        (opens_own s id row.negotiated held p q
        (over_map (IsLike row) (λ n b. (n ≡ row.negotiated) × (b ≡ true)) s held.rows
        (λ n b like. (like.0, like.1 ∙ sure (ap (λ (o : Option ChannelConfig). is_some o) found))) (over s is)) (own s is) (opens_stand m s config p q shut h.0) (opens_ordered m s config p q h.0) owned)
    opens_one row (Some s) None id held p held' q is found sure over own shut h owned = same_on held p held' q h.1 h.2 shut owned
    opens_one row None config id held p held' q is found sure over own shut h owned = same_on held p held' q h.1 h.2 shut owned

    all_owned : (rows : List Channel) (held : Channels) (p : SctpStreams S) (held' : Channels) (q : SctpStreams S) → AreAmongRows rows held.rows
        → AreSureRows rows → AreOwnRows c (λ s. HasStanding s p.entries) rows → NoneClosed p.entries → OpensAll m rows held p (Ok tt) held' q
        → IsOwned held p.entries → IsOwned held' q.entries
    all_owned [] held p held' q among sure own shut h owned = (same_on held p held' q h.1 h.2 shut owned).owned
    all_owned (row ∷ rows) held p held' q among sure own shut h owned =
        by h.0 h.3 (λ a o n k w. all_owned rows h.1 h.2 held' q a sure.1 o n k w) h.4
      where
        by : (did : Result (Unit {0}) AllocError) → OpensChannel m row.stream row.config row.id held p did h.1 h.2
            → (AreAmongRows rows h.1.rows → AreOwnRows c (λ s. HasStanding s h.2.entries) rows → NoneClosed h.2.entries
            → OpensAll m rows h.1 h.2 (Ok tt) held' q → IsOwned h.1 h.2.entries → IsOwned held' q.entries)
            → Following did (OpensAll m rows h.1 h.2 (Ok tt) held' q) ((Ok tt ≡ did) × (held' ≡ h.1) × (q ≡ h.2)) → IsOwned held' q.entries
        by (Ok done) one rest k =
            let first = opens_one row row.stream row.config row.id held p h.1 h.2 refl refl sure.0 among.0 own.0 shut one owned in
            rest (first.among rows among.1)
            (own_map c (λ s. HasStanding s p.entries) (λ s. HasStanding s h.2.entries) rows first.stands own.1) first.shut k first.owned
        by (Err error) one rest k = absurd (not_lacking error k.0)

    progress_owned : (client : Bool) (held : Channels) (p : SctpStreams S) (held' : Channels) (q : SctpStreams S) (did : Result (Unit {0}) AllocError)
        (between : Channels) → client ≡ c → AreNumberedChannels held → NoneClosed p.entries → Allocates (parity_of client) held did between
        → Following did (OpensAll m between.rows between p (Ok tt) held' q) ((Ok tt ≡ did) × (held' ≡ between) × (q ≡ p)) → IsOwned held p.entries
        → IsOwned held' q.entries
    progress_owned client held p held' q (Ok done) between is numbers shut h k owned =
        let given : IsOwned between p.entries =
        subst (λ (x : Channels). IsOwned x p.entries) (sym (h ∙ ap (λ (b : Bool). all_allocated (parity_of b) held.rows held) is))
        (record {
          ordered = owned.ordered;
          rows = allocated_own c (λ s. HasStanding s p.entries) held numbers.0 owned.rows;
          openings = λ s o. allocated_has (IsOwner c s) (parity_of c) s held numbers.0 (owned.openings s o);
          sure = allocated_sure (parity_of c) held.rows held owned.sure;
        }) in
        all_owned between.rows between p held' q (among_all between.rows) given.sure given.rows shut k given
    progress_owned client held p held' q (Err error) between is numbers shut h k owned = absurd (not_lacking error k.0)

    pub moment_owned : (due : Bool) (held : Channels) (p : SctpStreams S) (wake : Signals) (held' : Channels) (q : SctpStreams S) (wake' : Signals)
        → (due ≡ true → p.client ≡ c) → AreNumberedChannels held → NoneClosed p.entries → MeetsMoment m due held p wake (Ok tt) held' q wake'
        → IsOwned held p.entries → IsOwned held' q.entries
    moment_owned false held p wake held' q wake' is numbers shut h owned = (same_on held p held' q h.1 h.2 shut owned).owned
    moment_owned true held p wake held' q wake' is numbers shut h owned =
        progress_owned p.client held p held' q h.0.0 h.0.1 (is refl) numbers shut h.0.2 h.0.3 owned
