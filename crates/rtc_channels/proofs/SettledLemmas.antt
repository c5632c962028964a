-- Settled channels, which a walk over the channels may leave out.
use Rattle.std.proofs.Common.{◌≡◌, ◌+◌, ◌<◌, ◌≤◌, ◌&&◌, ◌||◌, not, ℕ, suc, zero, Bool, true, false, List, [], ◌∷◌, ◌++◌, length, take, drop, get_or, refl, ap, sym, ◌∙◌, arith, Option, Some, None}
use Rattle.std.specs.Prelude.{is_some, nat_lt, slice_get, slice_set, remove, Result, Ok}
use Rattle.std.specs.List.{list_any}
use Rattle.std.proofs.lemmas.Bool.Decides.{nat_tests}
use Rattle.std.specs.declared.alloc.AllocError.{AllocError}
use Rattle.rtc_parts.specs.AssociationMeaning.{AssociationMeaning}
use Rattle.rtc_sctp.specs.Streams.{SctpStreams}
use Rattle.rtc_channels.specs.declared.kept.Kept.{Kept}
use Rattle.rtc_channels.specs.Channels.{Channel, Channels}
use Rattle.rtc_channels.specs.Kept.{channels_of}
use Rattle.rtc_channels.specs.Allocation.{can_be_given, all_allocated, stream_given, is_waiting}
use Rattle.rtc_channels.specs.Openings.{can_be_opened, can_open, OpensAll}
use Rattle.rtc_channels.specs.Settled.{is_settled, AreSettled}
use Rattle.rtc_channels.proofs.KeptLemmas.{one_more}
use Rattle.rtc_channels.proofs.GivenLemmas.{channel_of}
use Rattle.rtc_channels.proofs.GivingLemmas.{channel_at, sought_has}
use Rattle.rtc_channels.proofs.OpeningLemmas.{opens_unconfirmed}

-- ---- one settled channel

left_of : (a b : Bool) → (a && b) ≡ true → a ≡ true
left_of true b is = refl
left_of false b is = absurd cc

right_of : (a b : Bool) → (a && b) ≡ true → b ≡ true
right_of true b is = is
right_of false b is = absurd cc

not_true : (b : Bool) → not b ≡ true → b ≡ false
not_true true is = absurd cc
not_true false is = refl

none_of : {X : Type 0} (found : Option X) → is_some found ≡ false → found ≡ None
none_of None is = refl
none_of (Some x) is = absurd cc

stream_there : (channel : Channel) → is_settled channel ≡ true → is_some channel.stream ≡ true
stream_there channel is = left_of (is_some channel.stream) (not (is_some channel.config)) is

config_gone : (channel : Channel) → is_settled channel ≡ true → is_some channel.config ≡ false
config_gone channel is = not_true (is_some channel.config) (right_of (is_some channel.stream) (not (is_some channel.config)) is)

-- ---- what is left out by a walk from the first on that is not settled

pub settled_waiting : (n : ℕ) (channels : List Channel) → AreSettled n channels → is_waiting (drop n channels) ≡ is_waiting channels
settled_waiting zero channels settled = refl
settled_waiting (suc n) [] settled = absurd settled
settled_waiting (suc n) (channel ∷ channels) settled = rw (stream_there channel settled.0) (settled_waiting n channels settled.1)

pub settled_open : (n : ℕ) (channels : List Channel) → AreSettled n channels → can_open (drop n channels) ≡ can_open channels
settled_open zero channels settled = refl
settled_open (suc n) [] settled = absurd settled
settled_open (suc n) (channel ∷ channels) settled = rw (stream_there channel settled.0, config_gone channel settled.0) (settled_open n channels settled.1)

pub settled_sought : (parity n : ℕ) (held : Channels) (channels : List Channel) → AreSettled n channels
    → list_any (can_be_given parity held) (drop n channels) ≡ list_any (can_be_given parity held) channels
settled_sought parity zero held channels settled = refl
settled_sought parity (suc n) held [] settled = absurd settled
settled_sought parity (suc n) held (channel ∷ channels) settled =
    rw (sought_has channel.stream channel.negotiated parity held (stream_there channel settled.0)) (settled_sought parity n held channels settled.1)

pub settled_allocated : (parity n : ℕ) (held : Channels) (channels : List Channel) → AreSettled n channels → all_allocated parity (take n channels) held ≡ held
settled_allocated parity zero held [] settled = refl
settled_allocated parity zero held (channel ∷ channels) settled = refl
settled_allocated parity (suc n) held [] settled = absurd settled
settled_allocated parity (suc n) held (channel ∷ channels) settled =
    ap (λ (found : Option ℕ). all_allocated parity (take n channels) (stream_given channel.id found held))
    (sought_has channel.stream channel.negotiated parity held (stream_there channel settled.0))
    ∙ settled_allocated parity n held channels settled.1

module _ {S : Type 0} (m : AssociationMeaning S) (held : Channels) (p : SctpStreams S) (r : Result (Unit {0}) AllocError) (held' : Channels) (p' : SctpStreams S) where
  pub settled_opens : (n : ℕ) (channels : List Channel) → AreSettled n channels → OpensAll m (drop n channels) held p r held' p' → OpensAll m channels held p r held' p'
  settled_opens zero channels settled opens = opens
  settled_opens (suc n) [] settled opens = absurd settled
  settled_opens (suc n) (channel ∷ channels) settled opens = (
    Ok tt,
    held,
    p,
    opens_unconfirmed m held p channel.id channel.stream channel.config held (none_of channel.config (config_gone channel settled.0)) refl,
    settled_opens n channels settled.1 opens,
  )

-- ---- a walk from a place on

pub any_got : {X : Type 0} (p : X → Bool) (xs : List X) (i : ℕ) (x : X) → slice_get xs i ≡ Some x → list_any p (drop i xs) ≡ (p x || list_any p (drop (i + 1) xs))
any_got p [] i x at = absurd cc
any_got p (y ∷ ys) zero x at = let same : y ≡ x = cc in ap (λ z. p z || list_any p ys) same
any_got p (y ∷ ys) (suc i) x at = let one : suc i + 1 ≡ suc (i + 1) = omega arith in rw one (any_got p ys i x at)

pub any_past : {X : Type 0} (p : X → Bool) (xs : List X) (n : ℕ) → length xs ≤ n → list_any p (drop n xs) ≡ false
any_past p [] zero past = refl
any_past p [] (suc n) past = refl
any_past p (x ∷ xs) zero past = absurd (omega (arith, past))
any_past p (x ∷ xs) (suc n) past = any_past p xs n (omega (arith, past))

pub row_there : (rows : List (ℕ × Option ℕ)) (i : ℕ) (d : ℕ × Option ℕ) → i < length rows → slice_get rows i ≡ Some (get_or rows i d)
row_there [] i d within = absurd (omega arith)
row_there (row ∷ rows) zero d within = refl
row_there (row ∷ rows) (suc i) d within = row_there rows i d (omega (arith, within))

pub bare_step : (rows : List (ℕ × Option ℕ)) (i : ℕ) (row : ℕ × Option ℕ) → i < length rows → row ≡ get_or rows i row
    → list_any (λ row. not (is_some row.1)) (drop i rows) ≡ (not (is_some row.1) || list_any (λ row. not (is_some row.1)) (drop (i + 1) rows))
bare_step rows i row within at = any_got (λ row. not (is_some row.1)) rows i row (row_there rows i row within ∙ ap (λ (r : ℕ × Option ℕ). Some r) (sym at))

module _ (rows : List (ℕ × Option ℕ)) (kept : List Kept) (i : ℕ) (row : ℕ × Option ℕ) (own : Kept) (same : length rows ≡ length kept) (within : i < length rows)
    (at : row ≡ get_or rows i row) (own_at : own ≡ get_or kept i own) where
  there : slice_get (channels_of rows kept) i ≡ Some (channel_of row own)
  there =
      channel_at rows kept i row own same within
      ∙ (ap (λ (r : ℕ × Option ℕ). Some (channel_of r (get_or kept i own))) (sym at) ∙ ap (λ (k : Kept). Some (channel_of row k)) (sym own_at))

  pub ready_step : can_open (drop i (channels_of rows kept)) ≡ ((is_some row.1 && is_some own.config) || can_open (drop (i + 1) (channels_of rows kept)))
  ready_step = any_got can_be_opened (channels_of rows kept) i (channel_of row own) there

-- no row is bare where no channel waits
pub bare_settled : (n : ℕ) (rows : List (ℕ × Option ℕ)) (kept : List Kept) → length rows ≡ length kept → AreSettled n (channels_of rows kept)
    → list_any (λ row. not (is_some row.1)) (drop n rows) ≡ list_any (λ row. not (is_some row.1)) rows
bare_settled zero rows kept same settled = refl
bare_settled (suc n) [] kept same settled = absurd settled
bare_settled (suc n) (row ∷ rows) [] same settled = absurd settled
bare_settled (suc n) (row ∷ rows) (own ∷ kept) same settled = rw (stream_there (channel_of row own) settled.0) (bare_settled n rows kept (omega (arith, same)) settled.1)

-- ---- how many are settled

pub settled_less : (n k : ℕ) (channels : List Channel) → k ≤ n → AreSettled n channels → AreSettled k channels
settled_less n zero channels less settled = tt
settled_less zero (suc k) channels less settled = absurd (omega (arith, less))
settled_less (suc n) (suc k) [] less settled = settled
settled_less (suc n) (suc k) (channel ∷ channels) less settled = (settled.0, settled_less n k channels (omega (arith, less)) settled.1)

pub settled_push : (n : ℕ) (channels more : List Channel) → AreSettled n channels → AreSettled n (channels ++ more)
settled_push zero channels more settled = tt
settled_push (suc n) [] more settled = absurd settled
settled_push (suc n) (channel ∷ channels) more settled = (settled.0, settled_push n channels more settled.1)

pub settled_more : (n : ℕ) (rows : List (ℕ × Option ℕ)) (kept : List Kept) (row : ℕ × Option ℕ) (own : Kept) → length rows ≡ length kept → AreSettled n (channels_of rows kept)
    → AreSettled n (channels_of (rows ++ row ∷ []) (kept ++ own ∷ []))
settled_more n rows kept row own same settled = rw (one_more rows kept row own same) (settled_push n (channels_of rows kept) _ settled)

pub settled_within : (n : ℕ) (channels : List Channel) → AreSettled n channels → n ≤ length channels
settled_within zero channels settled = omega arith
settled_within (suc n) [] settled = absurd settled
settled_within (suc n) (channel ∷ channels) settled = let rest = settled_within n channels settled.1 in omega (arith, rest)

-- a channel that is given a stream
pub settled_given : (n : ℕ) (rows : List (ℕ × Option ℕ)) (kept : List Kept) (i id s : ℕ) → AreSettled n (channels_of rows kept)
    → AreSettled n (channels_of (slice_set rows i (id, Some s)) kept)
settled_given zero rows kept i id s settled = tt
settled_given (suc n) [] kept i id s settled = settled
settled_given (suc n) (row ∷ rows) [] i id s settled = absurd settled
settled_given (suc n) (row ∷ rows) (own ∷ kept) zero id s settled = (right_of (is_some row.1) (not (is_some own.config)) settled.0, settled.1)
settled_given (suc n) (row ∷ rows) (own ∷ kept) (suc i) id s settled = (settled.0, settled_given n rows kept i id s settled.1)

-- a config that is taken
pub settled_taken : (n : ℕ) (rows : List (ℕ × Option ℕ)) (kept : List Kept) (i : ℕ) (own : Kept) → own.config ≡ None → AreSettled n (channels_of rows kept)
    → AreSettled n (channels_of rows (slice_set kept i own))
settled_taken zero rows kept i own none settled = tt
settled_taken (suc n) [] kept i own none settled = settled
settled_taken (suc n) (row ∷ rows) [] i own none settled = settled
settled_taken (suc n) (row ∷ rows) (first ∷ kept) zero own none settled = (rw (stream_there (channel_of row first) settled.0, none) refl, settled.1)
settled_taken (suc n) (row ∷ rows) (first ∷ kept) (suc i) own none settled = (settled.0, settled_taken n rows kept i own none settled.1)

-- what is kept of a channel behind them changes
pub settled_behind : (n : ℕ) (rows : List (ℕ × Option ℕ)) (kept : List Kept) (i : ℕ) (own : Kept) → n ≤ i → AreSettled n (channels_of rows kept)
    → AreSettled n (channels_of rows (slice_set kept i own))
settled_behind zero rows kept i own behind settled = tt
settled_behind (suc n) [] kept i own behind settled = settled
settled_behind (suc n) (row ∷ rows) [] i own behind settled = settled
settled_behind (suc n) (row ∷ rows) (first ∷ kept) zero own behind settled = absurd (omega (arith, behind))
settled_behind (suc n) (row ∷ rows) (first ∷ kept) (suc i) own behind settled = (settled.0, settled_behind n rows kept i own (omega (arith, behind)) settled.1)

-- a channel goes
gone_behind : (n : ℕ) (rows : List (ℕ × Option ℕ)) (kept : List Kept) (i : ℕ) → n ≤ i → AreSettled n (channels_of rows kept) → AreSettled n (channels_of (remove rows i) (remove kept i))
gone_behind zero rows kept i behind settled = tt
gone_behind (suc n) [] kept i behind settled = absurd settled
gone_behind (suc n) (row ∷ rows) [] i behind settled = absurd settled
gone_behind (suc n) (row ∷ rows) (own ∷ kept) zero behind settled = absurd (omega (arith, behind))
gone_behind (suc n) (row ∷ rows) (own ∷ kept) (suc i) behind settled = (settled.0, gone_behind n rows kept i (omega (arith, behind)) settled.1)

gone_within : (n : ℕ) (rows : List (ℕ × Option ℕ)) (kept : List Kept) (i : ℕ) → i ≤ n → AreSettled (suc n) (channels_of rows kept) → AreSettled n (channels_of (remove rows i) (remove kept i))
gone_within n [] kept i within settled = absurd settled
gone_within n (row ∷ rows) [] i within settled = absurd settled
gone_within n (row ∷ rows) (own ∷ kept) zero within settled = settled.1
gone_within zero (row ∷ rows) (own ∷ kept) (suc i) within settled = absurd (omega (arith, within))
gone_within (suc n) (row ∷ rows) (own ∷ kept) (suc i) within settled = (settled.0, gone_within n rows kept i (omega (arith, within)) settled.1)

pub settled_gone : (n k : ℕ) (rows : List (ℕ × Option ℕ)) (kept : List Kept) (i : ℕ) → (i < n → k + 1 ≡ n) → (n ≤ i → k ≡ n) → AreSettled n (channels_of rows kept)
    → AreSettled k (channels_of (remove rows i) (remove kept i))
settled_gone zero k rows kept i less same settled = let none : k ≡ 0 = same (omega arith) in rw none tt
settled_gone (suc n) k rows kept i less same settled = by (nat_lt i (suc n)) refl
  where
    by : (b : Bool) → nat_lt i (suc n) ≡ b → AreSettled k (channels_of (remove rows i) (remove kept i))
    by true is =
        let below : i < suc n = grind (arith, nat_tests, is) in
        let within : i ≤ n = omega (arith, below) in
        let own : k ≡ n = omega (arith, less below) in
        rw own (gone_within n rows kept i within settled)
    by false is =
        let behind : suc n ≤ i = grind (arith, nat_tests, is) in
        let own : k ≡ suc n = same behind in
        rw own (gone_behind (suc n) rows kept i behind settled)

-- one more is settled
pub settled_next : (n : ℕ) (rows : List (ℕ × Option ℕ)) (kept : List Kept) (row : ℕ × Option ℕ) (own : Kept) → length rows ≡ length kept → n < length rows
    → row ≡ get_or rows n row → own ≡ get_or kept n own → (is_some row.1 && not (is_some own.config)) ≡ true → AreSettled n (channels_of rows kept)
    → AreSettled (n + 1) (channels_of rows kept)
settled_next n [] kept row own same within at own_at is settled = absurd (omega (arith, within))
settled_next n (first ∷ rows) [] row own same within at own_at is settled = absurd (omega (arith, same))
settled_next zero (first ∷ rows) (next ∷ kept) row own same within at own_at is settled = (rw (← at, ← own_at) is, tt)
settled_next (suc n) (first ∷ rows) (next ∷ kept) row own same within at own_at is settled =
    let one : suc n + 1 ≡ suc (n + 1) = omega arith in
    rw one (settled.0, settled_next n rows kept row own (omega (arith, same)) (omega (arith, within)) at own_at is settled.1)
