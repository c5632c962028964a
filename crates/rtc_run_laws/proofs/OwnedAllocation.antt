-- A channel whose stream was not settled by other means is given one of this side.
use Rattle.std.proofs.Common.{◌≡◌, ◌∙◌, inl, inr, ◌+◌, ◌<◌, ◌≤◌, ◌∷◌, ◌==◌, if◌then◌else◌, ℕ, Bool, true, false, true≢false, List, [], map, All, Option, Some, None, refl, sym, ap, subst, arith}
use Rattle.std.specs.Prelude.{not, slice_get}
use Rattle.std.proofs.lemmas.Bool.{ne_eqb}
use Rattle.std.proofs.lemmas.List.Elements.{All-filter}
use Rattle.std.proofs.lemmas.Option.{same_Some}
use Rattle.rtc_channels.specs.Ids.{IsIdOf, all_ids, parity_of}
use Rattle.rtc_channels.proofs.IdLemmas.{ids-every_second}
use Rattle.rtc_channels.specs.Allocation.{all_allocated, free_streams, is_taken, rows_given, sought_by, stream_for, stream_given, stream_sought}
use Rattle.rtc_channels.specs.Channels.{AreRising, Channel, Channels, has_channel_id, stream_of_channel}
use Rattle.rtc_channels.proofs.GivingLemmas.{sought_is_bare}
use Rattle.rtc_peer_laws.proofs.ChannelsOver.{under_rows}
use Rattle.rtc_peer_laws.proofs.AllocatedChannels.{AreListed, listed_all, listed_given}
use Rattle.rtc_run_laws.specs.OwnOpenings.{IsOfSide}
use Rattle.rtc_run_laws.proofs.OwnedRows.{AreOwnRows, HasOver}

no_some : (s : ℕ) → None ≡ Some s → ⊥
no_some s h = cc

some_is : (a b : ℕ) → Some a ≡ Some b → a ≡ b
some_is a b h = cc

-- ---- streams of a side

first_all : (q : ℕ → Type 0) (l : List ℕ) (t : ℕ) → All q l → slice_get l 0 ≡ Some t → q t
first_all q [] t h is = absurd (no_some t is)
first_all q (x ∷ l) t h is = subst q (same_Some x t is) (h 0 x (omega arith))

two : (c : Bool) → parity_of c < 2
two true = omega arith
two false = omega arith

each_id : (parity : ℕ) → parity < 2 → All (IsIdOf parity) (all_ids parity)
unfolding all_ids
each_id parity less = ids-every_second parity 32768 less (omega arith)

free_side : (c : Bool) (t : ℕ) (held : Channels) → slice_get (free_streams (parity_of c) held) 0 ≡ Some t → IsOfSide c t
free_side c t held is =
    (first_all (IsIdOf (parity_of c)) (free_streams (parity_of c) held) t
    (All-filter (λ stream. not (is_taken stream held)) (IsIdOf (parity_of c)) (all_ids (parity_of c)) (each_id (parity_of c) (two c))) is).0

pub sought_side : (c : Bool) (t : ℕ) (held : Channels) (channel : Channel) → sought_by (parity_of c) held channel ≡ Some t → channel.negotiated ≡ None
    → IsOfSide c t
sought_side c t held channel is none = by channel.stream is
  where
    by : (stream : Option ℕ) → stream_sought stream channel.negotiated (parity_of c) held ≡ Some t → IsOfSide c t
    by None e =
        free_side c t held (subst (λ (o : Option ℕ). stream_for o (parity_of c) held ≡ Some t) none e)
    by (Some own) e = absurd (no_some t e)

-- ---- what was settled for a channel

abbrev settled_row : Channel → ℕ × Option ℕ
settled_row row = (row.id, row.negotiated)

abbrev pub settled_under : ℕ → List Channel → Option ℕ
settled_under id rows = stream_of_channel id (map settled_row rows)

-- channels for which is settled what rows tell of them
abbrev pub AreSettledAs : List Channel → List Channel → Type 0
AreSettledAs [] rows = Unit {0}
AreSettledAs (channel ∷ rest) rows = (settled_under channel.id rows ≡ channel.negotiated) × AreSettledAs rest rows

settled_more : (row : Channel) (channels rows : List Channel) (least : ℕ) → row.id + 1 ≤ least → AreRising least channels → AreSettledAs channels rows
    → AreSettledAs channels (row ∷ rows)
settled_more row [] rows least le h k = tt
settled_more row (channel ∷ rest) rows least le h k = (
  passed (row.id == channel.id) (ne_eqb row.id channel.id (λ e. omega (arith, le, h.0, e))),
  settled_more row rest rows (channel.id + 1) (omega (arith, le, h.0)) h.1 k.1,
)
  where
    passed : (b : Bool) → b ≡ false → (if b then row.negotiated else settled_under channel.id rows) ≡ channel.negotiated
    passed true e = absurd (true≢false e)
    passed false e = k.0

pub settled_all : (least : ℕ) (rows : List Channel) → AreRising least rows → AreSettledAs rows rows
settled_all least [] h = tt
settled_all least (row ∷ rows) h =
    (own (row.id == row.id) (grind arith), settled_more row rows rows (row.id + 1) (omega arith) h.1 (settled_all (row.id + 1) rows h.1))
  where
    own : (b : Bool) → b ≡ true → (if b then row.negotiated else settled_under row.id rows) ≡ row.negotiated
    own true e = refl
    own false e = absurd (true≢false (sym e))

settled_same : (id t other : ℕ) (rows : List Channel) → settled_under other (rows_given id t rows) ≡ settled_under other rows
settled_same id t other [] = refl
settled_same id t other (row ∷ rows) = by (has_channel_id id row) (settled_same id t other rows)
  where
    by : (b : Bool) → settled_under other (rows_given id t rows) ≡ settled_under other rows
        → settled_under other (if b then record row { stream = Some t } ∷ rows else row ∷ rows_given id t rows) ≡ settled_under other (row ∷ rows)
    by true rest = refl
    by false rest = ap (λ (o : Option ℕ). if row.id == other then row.negotiated else o) rest

pub settled_given : (id t : ℕ) (channels rows : List Channel) → AreSettledAs channels rows → AreSettledAs channels (rows_given id t rows)
settled_given id t [] rows k = tt
settled_given id t (channel ∷ rest) rows k = (settled_same id t channel.id rows ∙ k.0, settled_given id t rest rows k.1)

-- ---- rows that are given streams

given_has : (f : Option ℕ → Bool → Type 0) (s id t : ℕ) (rows : List Channel) → under_rows id rows ≡ None → HasOver f s rows → HasOver f s (rows_given id t rows)
given_has f s id t [] bare h = absurd h
given_has f s id t (row ∷ rows) bare h = by (row.id == id) bare h (λ e k. given_has f s id t rows e k)
  where
    by : (b : Bool) → (if b then row.stream else under_rows id rows) ≡ None → HasOver f s (row ∷ rows)
        → (under_rows id rows ≡ None → HasOver f s rows → HasOver f s (rows_given id t rows))
        → HasOver f s (if b then record row { stream = Some t } ∷ rows else row ∷ rows_given id t rows)
    by true e (inl k) rest = absurd (no_some s (sym e ∙ k.0))
    by true e (inr k) rest = inr k
    by false e (inl k) rest = inl k
    by false e (inr k) rest = inr (rest e k)

allocated_from : (f : Option ℕ → Bool → Type 0) (parity least s : ℕ) (channels : List Channel) (held : Channels) → AreRising least channels
    → AreListed channels held.rows → HasOver f s held.rows → HasOver f s (all_allocated parity channels held).rows
allocated_from f parity least s [] held rising listed h = h
allocated_from f parity least s (channel ∷ rest) held rising listed h =
    by (sought_by parity held channel) refl (λ other k o. allocated_from f parity (channel.id + 1) s rest other rising.1 k o)
  where
    by : (o : Option ℕ) → sought_by parity held channel ≡ o
        → ((other : Channels) → AreListed rest other.rows → HasOver f s other.rows → HasOver f s (all_allocated parity rest other).rows)
        → HasOver f s (all_allocated parity rest (stream_given channel.id o held)).rows
    by None e go = go held listed.1 h
    by (Some t) e go =
        let bare : channel.stream ≡ None = sought_is_bare (Some channel) parity t held (sym e) in
        go (record held { rows = rows_given channel.id t held.rows })
        (listed_given channel.id t (channel.id + 1) rest held.rows (omega arith) rising.1 listed.1)
        (given_has f s channel.id t held.rows (listed.0 ∙ bare) h)

pub allocated_has : (f : Option ℕ → Bool → Type 0) (parity s : ℕ) (held : Channels) → AreRising 0 held.rows → HasOver f s held.rows
    → HasOver f s (all_allocated parity held.rows held).rows
allocated_has f parity s held rising h = allocated_from f parity 0 s held.rows held rising (listed_all 0 held.rows rising) h

module _ (c : Bool) (x : ℕ → Type 0) where
  given_own : (id t : ℕ) (rows : List Channel) → (settled_under id rows ≡ None → IsOfSide c t) → AreOwnRows c x rows
      → AreOwnRows c x (rows_given id t rows)
  given_own id t [] own h = tt
  given_own id t (row ∷ rows) own h = by (row.id == id) own (λ f. given_own id t rows f h.1)
    where
      by : (b : Bool) → ((if b then row.negotiated else settled_under id rows) ≡ None → IsOfSide c t)
          → ((settled_under id rows ≡ None → IsOfSide c t) → AreOwnRows c x (rows_given id t rows))
          → AreOwnRows c x (if b then record row { stream = Some t } ∷ rows else row ∷ rows_given id t rows)
      by true f rest = ((λ s is none. inl (subst (λ (n : ℕ). IsOfSide c n) (some_is t s is) (f none))), h.1)
      by false f rest = (h.0, rest f)

  own_from : (least : ℕ) (channels : List Channel) (held : Channels) → AreSettledAs channels held.rows → AreOwnRows c x held.rows
      → AreOwnRows c x (all_allocated (parity_of c) channels held).rows
  own_from least [] held settled h = h
  own_from least (channel ∷ rest) held settled h =
      by (sought_by (parity_of c) held channel) refl (λ other k o. own_from (channel.id + 1) rest other k o)
    where
      by : (o : Option ℕ) → sought_by (parity_of c) held channel ≡ o
          → ((other : Channels) → AreSettledAs rest other.rows → AreOwnRows c x other.rows → AreOwnRows c x (all_allocated (parity_of c) rest other).rows)
          → AreOwnRows c x (all_allocated (parity_of c) rest (stream_given channel.id o held)).rows
      by None e go = go held settled.1 h
      by (Some t) e go =
          go (record held { rows = rows_given channel.id t held.rows }) (settled_given channel.id t rest held.rows settled.1)
          (given_own channel.id t held.rows (λ none. sought_side c t held channel e (sym settled.0 ∙ none)) h)

  pub allocated_own : (held : Channels) → AreRising 0 held.rows → AreOwnRows c x held.rows
      → AreOwnRows c x (all_allocated (parity_of c) held.rows held).rows
  allocated_own held rising h = own_from 0 held.rows held (settled_all 0 held.rows rising) h
