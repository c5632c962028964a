-- The rows of channels over a stream, and those over streams of this side, where rows are put behind others, go, are opened and confirmed.
use Rattle.std.proofs.Common.{◌≡◌, ◌∙◌, ◌⊎◌, inl, inr, ◌+◌, ◌++◌, ◌∷◌, ◌==◌, if◌then◌else◌, ℕ, Bool, true, false, true≢false, List, [], map, Option, Some, None, refl, sym, ap, subst}
use Rattle.std.proofs.lemmas.Bool.{eqb-true}
use Rattle.rtc_wire.specs.declared.channel_config.ChannelConfig.{ChannelConfig}
use Rattle.rtc_channels.specs.Allocation.{AreUnshared, IsUnshared, channel_ensured, is_ensured, opened_by_other}
use Rattle.rtc_channels.specs.Channels.{Channel, Channels, all_confirmed, has_channel_id, is_of_stream, numbered_stream, rows_confirmed, unconfirmed, with_channel}
use Rattle.rtc_channels.specs.Holds.{channels_without}
use Rattle.rtc_channels.specs.Openings.{rows_opened}
use Rattle.rtc_peer_laws.proofs.ChannelsOver.{over_rows, under_rows}
use Rattle.rtc_run_laws.specs.OwnOpenings.{IsInBandChannel, IsOfSide}
use Rattle.rtc_run_laws.proofs.RowLemmas.{own_stream, placed_over}

some_is : (a b : ℕ) → Some a ≡ Some b → a ≡ b
some_is a b h = cc

no_some : (s : ℕ) → None ≡ Some s → ⊥
no_some s h = cc

-- a channel has a stream, and what was settled for it by other means, and whether it was confirmed, is so
abbrev pub HasOver : (is_so : Option ℕ → Bool → Type 0) → (stream : ℕ) → List Channel → Type 0
HasOver f s [] = ⊥
HasOver f s (row ∷ rows) = ((row.stream ≡ Some s) × f row.negotiated row.confirmed) ⊎ HasOver f s rows

-- a channel was confirmed, and its stream is of this side, unless it was settled by other means
abbrev pub IsOwner : (client : Bool) → (stream : ℕ) → (settled : Option ℕ) → (confirmed : Bool) → Type 0
IsOwner c s settled confirmed = (settled ≡ None → IsOfSide c s) × (confirmed ≡ true)

abbrev pub HasOwner : (client : Bool) → (stream : ℕ) → List Channel → Type 0
HasOwner c s rows = HasOver (IsOwner c s) s rows

-- the same is so for a channel as for another
abbrev pub IsLike : Channel → (settled : Option ℕ) → (confirmed : Bool) → Type 0
IsLike channel settled confirmed = (settled ≡ channel.negotiated) × (confirmed ≡ channel.confirmed)

-- so it is for each row whose stream is not so otherwise
abbrev pub AreOwnRows : (client : Bool) → (otherwise : ℕ → Type 0) → List Channel → Type 0
AreOwnRows c x [] = Unit {0}
AreOwnRows c x (row ∷ rows) = ((s : ℕ) → row.stream ≡ Some s → row.negotiated ≡ None → IsOfSide c s ⊎ x s) × AreOwnRows c x rows

-- each channel that has a stream has its like among rows
abbrev pub AreAmongRows : List Channel → List Channel → Type 0
AreAmongRows [] rows = Unit {0}
AreAmongRows (channel ∷ channels) rows =
    ((s : ℕ) → channel.stream ≡ Some s → HasOver (IsLike channel) s rows) × AreAmongRows channels rows

-- ---- a row over a stream

pub over_map : (f g : Option ℕ → Bool → Type 0) (s : ℕ) (rows : List Channel) → ((n : Option ℕ) (b : Bool) → f n b → g n b) → HasOver f s rows → HasOver g s rows
over_map f g s [] k h = absurd h
over_map f g s (row ∷ rows) k (inl h) = inl (h.0, k row.negotiated row.confirmed h.1)
over_map f g s (row ∷ rows) k (inr h) = inr (over_map f g s rows k h)

pub over_ahead : (f : Option ℕ → Bool → Type 0) (s : ℕ) (rows more : List Channel) → HasOver f s rows → HasOver f s (rows ++ more)
over_ahead f s [] more h = absurd h
over_ahead f s (row ∷ rows) more (inl h) = inl h
over_ahead f s (row ∷ rows) more (inr h) = inr (over_ahead f s rows more h)

pub ensured_has : (f : Option ℕ → Bool → Type 0) (s stream : ℕ) (held : Channels) → HasOver f s held.rows → HasOver f s (channel_ensured stream held).rows
ensured_has f s stream held h = by (is_ensured stream held)
  where
    by : (b : Bool)
        → HasOver f s (if b then held else record held { given = held.given + 1; rows = held.rows ++ opened_by_other held.given stream ∷ [] }).rows
    by true = h
    by false = over_ahead f s held.rows (opened_by_other held.given stream ∷ []) h

-- the row of a channel that has a stream goes
pub without_has : (f : Option ℕ → Bool → Type 0) (s t id : ℕ) (rows : List Channel) → under_rows id rows ≡ Some t → HasOver f s rows
    → HasOver f s (channels_without id rows) ⊎ (t ≡ s)
without_has f s t id [] under h = absurd h
without_has f s t id (row ∷ rows) under h = by (row.id == id) under h (λ e k. without_has f s t id rows e k)
  where
    later : HasOver f s (channels_without id rows) ⊎ (t ≡ s) → HasOver f s (row ∷ channels_without id rows) ⊎ (t ≡ s)
    later (inl k) = inl (inr k)
    later (inr k) = inr k

    by : (b : Bool) → (if b then row.stream else under_rows id rows) ≡ Some t → HasOver f s (row ∷ rows)
        → (under_rows id rows ≡ Some t → HasOver f s rows → HasOver f s (channels_without id rows) ⊎ (t ≡ s))
        → HasOver f s (if b then rows else row ∷ channels_without id rows) ⊎ (t ≡ s)
    by true e (inl k) rest = inr (some_is t s (sym e ∙ k.0))
    by true e (inr k) rest = inl k
    by false e (inl k) rest = inl (inl k)
    by false e (inr k) rest = later (rest e k)

pub opened_has : (f : Option ℕ → Bool → Type 0) (s id : ℕ) (rows : List Channel) → HasOver f s rows → HasOver f s (rows_opened id rows)
opened_has f s id [] h = absurd h
opened_has f s id (row ∷ rows) h = by (has_channel_id id row) h (λ k. opened_has f s id rows k)
  where
    by : (b : Bool) → HasOver f s (row ∷ rows) → (HasOver f s rows → HasOver f s (rows_opened id rows))
        → HasOver f s (if b then record row { config = None } ∷ rows else row ∷ rows_opened id rows)
    by true (inl k) rest = inl k
    by true (inr k) rest = inr k
    by false (inl k) rest = inl k
    by false (inr k) rest = inr (rest k)

confirmed_row : (f : Option ℕ → Bool → Type 0) (s id : ℕ) (config : ChannelConfig) (rows : List Channel)
    → ((n : Option ℕ) (b : Bool) → f n b → f n true) → HasOver f s rows → HasOver f s (rows_confirmed id config rows)
confirmed_row f s id config [] sure h = absurd h
confirmed_row f s id config (row ∷ rows) sure h = by (has_channel_id id row) h (λ k. confirmed_row f s id config rows sure k)
  where
    by : (b : Bool) → HasOver f s (row ∷ rows) → (HasOver f s rows → HasOver f s (rows_confirmed id config rows))
        → HasOver f s (if b then record row { config = Some config; confirmed = true } ∷ rows else row ∷ rows_confirmed id config rows)
    by true (inl k) rest = inl (k.0, sure row.negotiated row.confirmed k.1)
    by true (inr k) rest = inr k
    by false (inl k) rest = inl k
    by false (inr k) rest = inr (rest k)

pub confirmed_has : (f : Option ℕ → Bool → Type 0) (s : ℕ) (channels : List (ℕ × ChannelConfig)) (held : Channels)
    → ((n : Option ℕ) (b : Bool) → f n b → f n true) → HasOver f s held.rows → HasOver f s (all_confirmed channels held).rows
confirmed_has f s [] held sure h = h
confirmed_has f s (channel ∷ rest) held sure h =
    confirmed_has f s rest (record held { rows = rows_confirmed channel.0 channel.1 held.rows }) sure
    (confirmed_row f s channel.0 channel.1 held.rows sure h)

-- where no channel over a stream was settled by other means, the stream is of this side
pub owner_side : (c : Bool) (s : ℕ) (rows : List Channel) → IsInBandChannel s rows → HasOwner c s rows → IsOfSide c s
owner_side c s [] band h = absurd h
owner_side c s (row ∷ rows) band (inl h) = h.1.0 (band.0 h.0)
owner_side c s (row ∷ rows) band (inr h) = owner_side c s rows band.1 h

-- ---- rows over streams of this side

module _ (c : Bool) where
  pub own_map : (x y : ℕ → Type 0) (rows : List Channel) → ((s : ℕ) → x s → y s) → AreOwnRows c x rows → AreOwnRows c y rows
  own_map x y [] f h = tt
  own_map x y (row ∷ rows) f h = ((λ s is none. by s (h.0 s is none)), own_map x y rows f h.1)
    where
      by : (s : ℕ) → IsOfSide c s ⊎ x s → IsOfSide c s ⊎ y s
      by s (inl k) = inl k
      by s (inr k) = inr (f s k)

  own_more : (x : ℕ → Type 0) (rows : List Channel) (row : Channel)
      → ((s : ℕ) → row.stream ≡ Some s → row.negotiated ≡ None → IsOfSide c s ⊎ x s) → AreOwnRows c x rows → AreOwnRows c x (rows ++ row ∷ [])
  own_more x [] row own h = (own, tt)
  own_more x (first ∷ rows) row own h = (h.0, own_more x rows row own h.1)

  pub ensured_own : (x : ℕ → Type 0) (stream : ℕ) (held : Channels) → x stream → AreOwnRows c x held.rows
      → AreOwnRows c x (channel_ensured stream held).rows
  ensured_own x stream held own h = by (is_ensured stream held)
    where
      by : (b : Bool)
          → AreOwnRows c x (if b then held else record held { given = held.given + 1; rows = held.rows ++ opened_by_other held.given stream ∷ [] }).rows
      by true = h
      by false =
          own_more x held.rows (opened_by_other held.given stream) (λ s is none. inr (subst (λ (n : ℕ). x n) (some_is stream s is) own)) h

  pub made_own : (x : ℕ → Type 0) (held : Channels) (config : ChannelConfig) → AreOwnRows c x held.rows → AreOwnRows c x (with_channel held config).rows
  made_own x held config h = own_more x held.rows (unconfirmed held.given config) (λ s is none. absurd (no_some s is)) h

  pub without_own : (x : ℕ → Type 0) (id : ℕ) (rows : List Channel) → AreOwnRows c x rows → AreOwnRows c x (channels_without id rows)
  without_own x id [] h = tt
  without_own x id (row ∷ rows) h = by (has_channel_id id row) (without_own x id rows h.1)
    where
      by : (b : Bool) → AreOwnRows c x (channels_without id rows) → AreOwnRows c x (if b then rows else row ∷ channels_without id rows)
      by true rest = h.1
      by false rest = (h.0, rest)

  -- no row is over a stream of which it may not hold otherwise any more
  pub apart_own : (x y : ℕ → Type 0) (t : ℕ) (rows : List Channel) → over_rows t rows ≡ None → ((s : ℕ) → x s → y s ⊎ (t ≡ s)) → AreOwnRows c x rows
      → AreOwnRows c y rows
  apart_own x y t [] none f h = tt
  apart_own x y t (row ∷ rows) none f h = by (is_of_stream t row.stream) refl none (λ e. apart_own x y t rows e f h.1)
    where
      other : is_of_stream t row.stream ≡ false → (s : ℕ) → row.stream ≡ Some s → IsOfSide c s ⊎ x s → IsOfSide c s ⊎ y s
      other e s is (inl k) = inl k
      other e s is (inr k) = last (f s k)
        where
          last : y s ⊎ (t ≡ s) → IsOfSide c s ⊎ y s
          last (inl l) = inr l
          last (inr l) = absurd (true≢false (sym (own_stream t row.stream (is ∙ ap (λ (n : ℕ). Some n) (sym l))) ∙ e))

      some_none : (n : ℕ) → Some n ≡ None → ⊥
      some_none n e = cc

      by : (b : Bool) → is_of_stream t row.stream ≡ b → (if b then Some row.id else over_rows t rows) ≡ None
          → (over_rows t rows ≡ None → AreOwnRows c y rows) → AreOwnRows c y (row ∷ rows)
      by true e k rest = absurd (some_none row.id k)
      by false e k rest = ((λ s is none. other e s is (h.0 s is none)), rest k)

  pub opened_own : (x : ℕ → Type 0) (id : ℕ) (rows : List Channel) → AreOwnRows c x rows → AreOwnRows c x (rows_opened id rows)
  opened_own x id [] h = tt
  opened_own x id (row ∷ rows) h = by (has_channel_id id row) (opened_own x id rows h.1)
    where
      by : (b : Bool) → AreOwnRows c x (rows_opened id rows)
          → AreOwnRows c x (if b then record row { config = None } ∷ rows else row ∷ rows_opened id rows)
      by true rest = h
      by false rest = (h.0, rest)

  confirmed_one : (x : ℕ → Type 0) (id : ℕ) (config : ChannelConfig) (rows : List Channel) → AreOwnRows c x rows
      → AreOwnRows c x (rows_confirmed id config rows)
  confirmed_one x id config [] h = tt
  confirmed_one x id config (row ∷ rows) h = by (has_channel_id id row) (confirmed_one x id config rows h.1)
    where
      by : (b : Bool) → AreOwnRows c x (rows_confirmed id config rows)
          → AreOwnRows c x (if b then record row { config = Some config; confirmed = true } ∷ rows else row ∷ rows_confirmed id config rows)
      by true rest = h
      by false rest = (h.0, rest)

  pub confirmed_own : (x : ℕ → Type 0) (channels : List (ℕ × ChannelConfig)) (held : Channels) → AreOwnRows c x held.rows
      → AreOwnRows c x (all_confirmed channels held).rows
  confirmed_own x [] held h = h
  confirmed_own x (channel ∷ rest) held h =
      confirmed_own x rest (record held { rows = rows_confirmed channel.0 channel.1 held.rows }) (confirmed_one x channel.0 channel.1 held.rows h)

-- the row over a stream was the only one
pub none_without : (t id : ℕ) (rows : List Channel) → AreUnshared (map numbered_stream rows) → under_rows id rows ≡ Some t
    → over_rows t (channels_without id rows) ≡ None
none_without t id [] apart under = absurd (no_some t under)
none_without t id (row ∷ rows) apart under = by (row.id == id) under (λ e. none_without t id rows apart.1 e)
  where
    shared : (o : Option ℕ) → row.stream ≡ o → o ≡ Some t → over_rows t rows ≡ None
    shared None e f = absurd (no_some t f)
    shared (Some own) e f =
        subst (λ (n : ℕ). over_rows n rows ≡ None) (some_is own t f)
        (subst (λ (p : Option ℕ). IsUnshared p (map numbered_stream rows)) e apart.0)

    passed : (b : Bool) → is_of_stream t row.stream ≡ b → under_rows id rows ≡ Some t → over_rows t (channels_without id rows) ≡ None
        → (if b then Some row.id else over_rows t (channels_without id rows)) ≡ None
    passed false e f rest = rest
    passed true e f rest = absurd (placed_over t id rows f (shared row.stream refl (of_is row.stream e)))
      where
        of_is : (o : Option ℕ) → is_of_stream t o ≡ true → o ≡ Some t
        of_is None k = absurd (true≢false (sym k))
        of_is (Some own) k = ap (λ (n : ℕ). Some n) (eqb-true own t k)

    by : (b : Bool) → (if b then row.stream else under_rows id rows) ≡ Some t → (under_rows id rows ≡ Some t → over_rows t (channels_without id rows) ≡ None)
        → over_rows t (if b then rows else row ∷ channels_without id rows) ≡ None
    by true e rest = shared row.stream refl e
    by false e rest = passed (is_of_stream t row.stream) refl e (rest e)

-- ---- channels among rows

among_more : (row : Channel) (channels rows : List Channel) → AreAmongRows channels rows → AreAmongRows channels (row ∷ rows)
among_more row [] rows h = tt
among_more row (channel ∷ channels) rows h = ((λ s is. inr (h.0 s is)), among_more row channels rows h.1)

pub among_all : (rows : List Channel) → AreAmongRows rows rows
among_all [] = tt
among_all (row ∷ rows) = ((λ s is. inl (is, (refl, refl))), among_more row rows rows (among_all rows))

pub among_opened : (id : ℕ) (channels rows : List Channel) → AreAmongRows channels rows → AreAmongRows channels (rows_opened id rows)
among_opened id [] rows h = tt
among_opened id (channel ∷ channels) rows h =
    ((λ s is. opened_has (IsLike channel) s id rows (h.0 s is)), among_opened id channels rows h.1)
