-- What is so of each row of a number stays so as channels and the entries of their streams change, if it does as a row is opened, confirmed and given a
-- stream.
use Rattle.std.proofs.Common.{◌≡◌, ◌∙◌, ◌+◌, ◌<◌, ◌++◌, ◌∷◌, ◌==◌, if◌then◌else◌, ℕ, zero, suc, Bool, true, false, List, [], Option, Some, None, Result, Ok, Err, refl, sym, subst, arith}
use Rattle.std.specs.declared.alloc.AllocError.{AllocError}
use Rattle.std.proofs.lemmas.Bool.{eqb-true}
use Rattle.rtc_ready.specs.Signals.{Signals}
use Rattle.rtc_wire.specs.declared.channel_config.ChannelConfig.{ChannelConfig}
use Rattle.rtc_parts.specs.AssociationMeaning.{AssociationMeaning}
use Rattle.rtc_sctp_entries.specs.declared.sctp_event.SctpEvent.{SctpEvent}
use Rattle.rtc_sctp_entries.specs.declared.sctp_event.SctpEvent.TheVariants as event
use Rattle.rtc_sctp.specs.Streams.{SctpStreams}
use Rattle.rtc_sctp.specs.Calls.{TakesTimeout}
use Rattle.rtc_channels.specs.Ids.{parity_of}
use Rattle.rtc_channels.specs.Allocation.{Allocates, all_allocated, channel_ensured, is_ensured, opened_by_other, rows_given, sought_by, stream_given}
use Rattle.rtc_channels.specs.Channels.{Channel, Channels, all_confirmed, has_channel_id, rows_confirmed, unconfirmed, with_channel}
use Rattle.rtc_channels.specs.Holds.{all_cancelled, cancelled_if, channels_without, is_unconfirmed, removed_channel}
use Rattle.rtc_channels.specs.Openings.{Following, MeetsMoment, OpensAll, OpensChannel, config_handed, rows_opened}
use Rattle.rtc_peer_polling.specs.StreamStages.{channel_over}
use Rattle.rtc_peer_laws.specs.RowsChanged.{ChangeRows, ClosesRow, RowsAnswered, RowsChange, RowsChanged, RowsTold, SameRows}
use Rattle.rtc_peer_laws.specs.RowsChanged.{Stayed, Polled, Timed, Progressed, ThresholdSet, StreamClosed, Confirmed, Made}

not_lacking : (error : AllocError) → ◌≡◌ {A = Result (Unit {0}) AllocError} (Ok tt) (Err error) → ⊥
not_lacking error h = cc

-- each row of a number is so
abbrev pub AreRowsOf : (is_so : Channel → Type 0) → (number : ℕ) → List Channel → Type 0
AreRowsOf P n [] = Unit {0}
AreRowsOf P n (row ∷ rows) = (row.id ≡ n → P row) × AreRowsOf P n rows

-- a number that was given, and its rows
pub record IsNumberSo (P : Channel → Type 0) (n : ℕ) (held : Channels) : Type 0 where
  pub below : n < held.given
  pub rows : AreRowsOf P n held.rows

-- What is so of a row stays so as its stream is opened, as it is confirmed, and as it is given a stream by a side of this kind.
pub record Lasts (P : Channel → Type 0) (may : Bool → Type 0) : Type 0 where
  pub opened : (row : Channel) → P row → P (record row { config = None })
  pub confirmed : (row : Channel) (config : ChannelConfig) → P row → P (record row { config = Some config; confirmed = true })
  pub given : (client : Bool) (t : ℕ) (held : Channels) (channel row : Channel) → may client → sought_by (parity_of client) held channel ≡ Some t
      → P channel → P row → P (record row { stream = Some t })

-- What is known of an association behind a change was so before, and one that is started then is of this kind.
pub record KnowsSide {S : Type 0} (m : AssociationMeaning S) (may : Bool → Type 0) (known : SctpStreams S → Type 0) : Type 0 where
  pub before : (held : Channels) (a : SctpStreams S) (held' : Channels) (b : SctpStreams S) → RowsChange m held a held' b → known b → known a
  pub starts : (now : ℕ) (a : SctpStreams S) (wake : Signals) (b : SctpStreams S) (wake' : Signals) → TakesTimeout m now a wake (Ok tt) b wake'
      → m.started b.association ≡ true → known a → may b.client

module _ (P : Channel → Type 0) (n : ℕ) where
  pub more_rows : (rows : List Channel) (row : Channel) → (row.id ≡ n → P row) → AreRowsOf P n rows → AreRowsOf P n (rows ++ row ∷ [])
  more_rows [] row own h = (own, tt)
  more_rows (first ∷ rows) row own h = (h.0, more_rows rows row own h.1)

  without_rows : (id : ℕ) (rows : List Channel) → AreRowsOf P n rows → AreRowsOf P n (channels_without id rows)
  without_rows id [] h = tt
  without_rows id (row ∷ rows) h = by (has_channel_id id row) (without_rows id rows h.1)
    where
      by : (b : Bool) → AreRowsOf P n (channels_without id rows) → AreRowsOf P n (if b then rows else row ∷ channels_without id rows)
      by true rest = h.1
      by false rest = (h.0, rest)

  -- a number that is given is another one
  pub more_so : (held : Channels) (row : Channel) → row.id ≡ held.given → IsNumberSo P n held
      → IsNumberSo P n (record held { given = held.given + 1; rows = held.rows ++ row ∷ [] })
  more_so held row is h = record {
    below = let less = h.below in omega (arith, less);
    rows = more_rows held.rows row (λ same. let less = h.below in absurd (omega (arith, less, same, is))) h.rows;
  }

  ensured_so : (stream : ℕ) (held : Channels) → IsNumberSo P n held → IsNumberSo P n (channel_ensured stream held)
  ensured_so stream held h = by (is_ensured stream held)
    where
      by : (b : Bool)
          → IsNumberSo P n (if b then held else record held { given = held.given + 1; rows = held.rows ++ opened_by_other held.given stream ∷ [] })
      by true = h
      by false = more_so held (opened_by_other held.given stream) refl h

  removed_so : (id : ℕ) (pending : Bool) (held : Channels) → IsNumberSo P n held → IsNumberSo P n (removed_channel id pending held)
  removed_so id pending held h = record { below = h.below; rows = without_rows id held.rows h.rows }

  pub cancelled_one : (b : Bool) (id : ℕ) (held : Channels) → IsNumberSo P n held → IsNumberSo P n (cancelled_if b id held)
  cancelled_one true id held h = removed_so id false held h
  cancelled_one false id held h = h

  pub cancelled_so : (channels : List (ℕ × ChannelConfig)) (held : Channels) → IsNumberSo P n held → IsNumberSo P n (all_cancelled channels held)
  cancelled_so [] held h = h
  cancelled_so (channel ∷ rest) held h =
      cancelled_so rest (cancelled_if (is_unconfirmed channel.0 held.rows) channel.0 held)
      (cancelled_one (is_unconfirmed channel.0 held.rows) channel.0 held h)

  same_so : (held held' : Channels) → SameRows held held' → IsNumberSo P n held → IsNumberSo P n held'
  same_so held held' is h = record {
    below = let less = h.below in let given = is.1 in omega (arith, less, given);
    rows = subst (λ (l : List Channel). AreRowsOf P n l) (sym is.0) h.rows;
  }

  so_by : (held held' : Channels) → held' ≡ held → IsNumberSo P n held → IsNumberSo P n held'
  so_by held held' is h = subst (λ (x : Channels). IsNumberSo P n x) (sym is) h

  -- ---- polls

  closed_so : (found : Option ℕ) (pending : Bool) (held held' : Channels) → ClosesRow found pending held held' → IsNumberSo P n held
      → IsNumberSo P n held'
  closed_so (Some id) pending held held' is h = so_by (removed_channel id pending held) held' is (removed_so id pending held h)
  closed_so None pending held held' is h = same_so held held' is h

  event_so : (e : SctpEvent) (held held' : Channels) → RowsTold e held held' → IsNumberSo P n held → IsNumberSo P n held'
  event_so (event.Open stream label) held held' is h = so_by (channel_ensured stream held) held' is (ensured_so stream held h)
  event_so (event.Close stream pending) held held' is h = closed_so (channel_over stream held) pending held held' is h
  event_so (event.Transmit packets) held held' is h = same_so held held' is h
  event_so (event.StreamResetComplete id) held held' is h = same_so held held' is h
  event_so (event.Data id binary bytes) held held' is h = same_so held held' is h
  event_so (event.BufferedAmountLow id) held held' is h = same_so held held' is h
  event_so event.AssociationLost held held' is h = same_so held held' is h

  answer_so : (answer : Result (Option SctpEvent) AllocError) (held held' : Channels) → RowsAnswered answer held held' → IsNumberSo P n held
      → IsNumberSo P n held'
  answer_so (Ok (Some e)) held held' is h = event_so e held held' is h
  answer_so (Ok None) held held' is h = same_so held held' is h
  answer_so (Err error) held held' is h = absurd is

  module _ (may : Bool → Type 0) (lasts : Lasts P may) where
    opened_rows : (id : ℕ) (rows : List Channel) → AreRowsOf P n rows → AreRowsOf P n (rows_opened id rows)
    opened_rows id [] h = tt
    opened_rows id (row ∷ rows) h = by (has_channel_id id row) (opened_rows id rows h.1)
      where
        by : (b : Bool) → AreRowsOf P n (rows_opened id rows)
            → AreRowsOf P n (if b then record row { config = None } ∷ rows else row ∷ rows_opened id rows)
        by true rest = ((λ is. lasts.opened row (h.0 is)), h.1)
        by false rest = (h.0, rest)

    confirmed_rows : (id : ℕ) (config : ChannelConfig) (rows : List Channel) → AreRowsOf P n rows → AreRowsOf P n (rows_confirmed id config rows)
    confirmed_rows id config [] h = tt
    confirmed_rows id config (row ∷ rows) h = by (has_channel_id id row) (confirmed_rows id config rows h.1)
      where
        by : (b : Bool) → AreRowsOf P n (rows_confirmed id config rows)
            → AreRowsOf P n (if b then record row { config = Some config; confirmed = true } ∷ rows else row ∷ rows_confirmed id config rows)
        by true rest = ((λ is. lasts.confirmed row config (h.0 is)), h.1)
        by false rest = (h.0, rest)

    pub confirmed_so : (channels : List (ℕ × ChannelConfig)) (held : Channels) → IsNumberSo P n held → IsNumberSo P n (all_confirmed channels held)
    confirmed_so [] held h = h
    confirmed_so (channel ∷ rest) held h =
        confirmed_so rest (record held { rows = rows_confirmed channel.0 channel.1 held.rows })
        (record { below = h.below; rows = confirmed_rows channel.0 channel.1 held.rows h.rows })

    given_rows : (id t : ℕ) (rows : List Channel) → (id ≡ n → (row : Channel) → P row → P (record row { stream = Some t })) → AreRowsOf P n rows
        → AreRowsOf P n (rows_given id t rows)
    given_rows id t [] gives h = tt
    given_rows id t (row ∷ rows) gives h = by (row.id == id) refl (given_rows id t rows gives h.1)
      where
        by : (b : Bool) → (row.id == id) ≡ b → AreRowsOf P n (rows_given id t rows)
            → AreRowsOf P n (if b then record row { stream = Some t } ∷ rows else row ∷ rows_given id t rows)
        by true e rest = ((λ is. gives (sym (eqb-true row.id id e) ∙ is) row (h.0 is)), h.1)
        by false e rest = (h.0, rest)

    allocated_so : (client : Bool) → may client → (channels : List Channel) (held : Channels) → AreRowsOf P n channels → IsNumberSo P n held
        → IsNumberSo P n (all_allocated (parity_of client) channels held)
    allocated_so client own [] held each h = h
    allocated_so client own (channel ∷ rest) held each h =
        by (sought_by (parity_of client) held channel) refl (λ other k. allocated_so client own rest other each.1 k)
      where
        by : (o : Option ℕ) → sought_by (parity_of client) held channel ≡ o
            → ((other : Channels) → IsNumberSo P n other → IsNumberSo P n (all_allocated (parity_of client) rest other))
            → IsNumberSo P n (all_allocated (parity_of client) rest (stream_given channel.id o held))
        by None e go = go held h
        by (Some t) e go =
            go (record held { rows = rows_given channel.id t held.rows })
            (record {
              below = h.below;
              rows = given_rows channel.id t held.rows (λ is row k. lasts.given client t held channel row own e (each.0 is) k) h.rows;
            })

    module _ {S : Type 0} (m : AssociationMeaning S) where
      -- ---- moments

      opens_so : (stream : Option ℕ) (config : Option ChannelConfig) (id : ℕ) (held : Channels) (p : SctpStreams S) (held' : Channels) (q : SctpStreams S)
          → OpensChannel m stream config id held p (Ok tt) held' q → IsNumberSo P n held → IsNumberSo P n held'
      opens_so (Some s) (Some config) id held p held' q h k =
          so_by (config_handed id held) held' h.1 (record { below = k.below; rows = opened_rows id held.rows k.rows })
      opens_so (Some s) None id held p held' q h k = so_by held held' h.1 k
      opens_so None config id held p held' q h k = so_by held held' h.1 k

      all_open_so : (rows : List Channel) (held : Channels) (p : SctpStreams S) (held' : Channels) (q : SctpStreams S)
          → OpensAll m rows held p (Ok tt) held' q → IsNumberSo P n held → IsNumberSo P n held'
      all_open_so [] held p held' q h k = so_by held held' h.1 k
      all_open_so (row ∷ rows) held p held' q h k = by h.0 h.3 (λ o w. all_open_so rows h.1 h.2 held' q o w) h.4
        where
          by : (did : Result (Unit {0}) AllocError) → OpensChannel m row.stream row.config row.id held p did h.1 h.2
              → (OpensAll m rows h.1 h.2 (Ok tt) held' q → IsNumberSo P n h.1 → IsNumberSo P n held')
              → Following did (OpensAll m rows h.1 h.2 (Ok tt) held' q) ((Ok tt ≡ did) × (held' ≡ h.1) × (q ≡ h.2)) → IsNumberSo P n held'
          by (Ok done) one rest o = rest o (opens_so row.stream row.config row.id held p h.1 h.2 one k)
          by (Err error) one rest o = absurd (not_lacking error o.0)

      progress_so : (held : Channels) (p : SctpStreams S) (held' : Channels) (q : SctpStreams S) (did : Result (Unit {0}) AllocError) (between : Channels)
          → may p.client → Allocates (parity_of p.client) held did between
          → Following did (OpensAll m between.rows between p (Ok tt) held' q) ((Ok tt ≡ did) × (held' ≡ between) × (q ≡ p)) → IsNumberSo P n held
          → IsNumberSo P n held'
      progress_so held p held' q (Ok done) between own h k so =
          all_open_so between.rows between p held' q k
          (so_by (all_allocated (parity_of p.client) held.rows held) between h (allocated_so p.client own held.rows held so.rows so))
      progress_so held p held' q (Err error) between own h k so = absurd (not_lacking error k.0)

      moment_so : (due : Bool) (held : Channels) (p : SctpStreams S) (wake : Signals) (held' : Channels) (q : SctpStreams S) (wake' : Signals)
          → (due ≡ true → may p.client) → MeetsMoment m due held p wake (Ok tt) held' q wake' → IsNumberSo P n held → IsNumberSo P n held'
      moment_so false held p wake held' q wake' own h so = so_by held held' h.1 so
      moment_so true held p wake held' q wake' own h so = progress_so held p held' q h.0.0 h.0.1 (own refl) h.0.2 h.0.3 so

      -- ---- changes

      module _ (known : SctpStreams S → Type 0) (side : KnowsSide m may known) where
        change_so : (held : Channels) (a : SctpStreams S) (held' : Channels) (b : SctpStreams S) → RowsChange m held a held' b → known a
            → IsNumberSo P n held → IsNumberSo P n held'
        change_so held a held' b (Stayed rows h) at so = same_so held held' rows so
        change_so held a held' b (Polled answer streams h rows association entries state client) at so = answer_so answer held held' rows so
        change_so held a held' b (Timed now wake wake' r h is) at so = so_by held held' is so
        change_so held a held' b (Progressed now wake wake' between h due started signals signals' k) at so =
            moment_so due held between signals held' b signals' (λ e. side.starts now a wake between wake' h (started e) at) k so
        change_so held a held' b (ThresholdSet count place h is) at so = so_by held held' is so
        change_so held a held' b (StreamClosed stream r h is) at so = so_by held held' is so
        change_so held a held' b (Confirmed channels is h) at so = so_by (all_confirmed channels held) held' is (confirmed_so channels held so)
        change_so held a held' b (Made config is h) at so =
            so_by (with_channel held config) held' is (more_so held (unconfirmed held.given config) refl so)

        changes_so : (count : ℕ) (held : Channels) (a : SctpStreams S) (held' : Channels) (b : SctpStreams S) → ChangeRows m count held a held' b
            → known b → IsNumberSo P n held → IsNumberSo P n held'
        changes_so zero held a held' b h at so = so_by held held' h.0 so
        changes_so (suc count) held a held' b h at so =
            let before = side.before h.0 h.1.0 held' b h.1.1.1 at in
            change_so h.0 h.1.0 held' b h.1.1.1 before (changes_so count held a h.0 h.1.0 h.1.1.0 before so)

        pub changed_so : (held : Channels) (a : SctpStreams S) (held' : Channels) (b : SctpStreams S) → RowsChanged m held a held' b → known b
            → IsNumberSo P n held → IsNumberSo P n held'
        changed_so held a held' b h at so = changes_so h.changes held a held' b h.changed at so
