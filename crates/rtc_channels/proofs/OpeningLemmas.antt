-- Channels that are opened one after another.
use Rattle.std.proofs.Common.{
  ◌≡◌,
  ◌+◌,
  ◌<◌,
  ◌≤◌,
  ◌==◌,
  ℕ,
  suc,
  zero,
  Bool,
  true,
  false,
  not,
  ◌||◌,
  List,
  [],
  ◌∷◌,
  length,
  drop,
  get_or,
  refl,
  ap,
  sym,
  subst,
  ◌∙◌,
  arith,
  Option,
  Some,
  None,
}
use Rattle.std.specs.Prelude.{slice_get, slice_set, is_some, Result, Ok, Err}
use Rattle.std.specs.List.{list_any}
use Rattle.std.specs.declared.alloc.AllocError.{AllocError}
use Rattle.std.specs.BTreeMap.{BTreeMap}
use Rattle.rtc_wire.specs.declared.channel_config.ChannelConfig.{ChannelConfig}
use Rattle.rtc_wire.proofs.ChannelConfigLemmas.{label_fits, protocol_fits}
use Rattle.rtc_parts.specs.AssociationMeaning.{AssociationMeaning}
use Rattle.rtc_ready.specs.Signals.{Signals}
use Rattle.rtc_channels.specs.Ids.{parity_of}
use Rattle.rtc_sctp.specs.Streams.{SctpStreams}
use Rattle.rtc_sctp.specs.StreamCalls.{OpensStream}
use Rattle.rtc_channels.specs.declared.kept.Kept.{Kept}
use Rattle.rtc_channels.specs.declared.grants.Grant.{Grant}
use Rattle.rtc_channels.specs.Channels.{Channel, Channels, AreRising, AreBelow}
use Rattle.rtc_channels.specs.Kept.{channels_of, place_of_channel, config_taken}
use Rattle.rtc_channels.specs.Granted.{holds_of, FitsOpenMessage, FitOpenMessages, AreHandled}
use Rattle.rtc_channels.specs.Allocation.{Allocates, sought_at, can_be_given, is_waiting}
use Rattle.rtc_channels.specs.Openings.{rows_opened, config_handed, OpensChannel, OpensChannelAt, OpensAll, MeetsMoment, can_open, opening_wake}
use Rattle.rtc_channels.proofs.KeptLemmas.{place_behind, some_same}
use Rattle.rtc_channels.proofs.PlaceLemmas.{handled_ascending, place_own}
use Rattle.rtc_channels.proofs.HoldLemmas.{handler_view}
use Rattle.rtc_channels.proofs.RowLemmas.{short_at}
use Rattle.rtc_channels.proofs.GivenLemmas.{channel_of}
use Rattle.rtc_channels.proofs.GivingLemmas.{channel_at, length-channels_of}
use Rattle.rtc_channels.proofs.HandledLemmas.{short_taken}

-- ---- whether a channel can be given a stream

pub given_step : (parity : ℕ) (held : Channels) (channels : List Channel) (i : ℕ) → i < length channels
    → list_any (can_be_given parity held) (drop i channels) ≡ (is_some (sought_at (slice_get channels i) parity held) || list_any (can_be_given parity held) (drop (i + 1) channels))
given_step parity held [] i within = absurd (omega arith)
given_step parity held (channel ∷ channels) zero within = refl
given_step parity held (channel ∷ channels) (suc i) within =
    let one : suc i + 1 ≡ suc (i + 1) = omega arith in
    rw one (given_step parity held channels i (omega (arith, within)))

pub drop_past : (channels : List Channel) (n : ℕ) → length channels ≤ n → drop n channels ≡ []
drop_past [] zero least = refl
drop_past [] (suc n) least = refl
drop_past (channel ∷ channels) zero least = absurd (omega (arith, least))
drop_past (channel ∷ channels) (suc n) least = drop_past channels n (omega (arith, least))

pub none_given : (parity : ℕ) (held : Channels) (channels : List Channel) → is_waiting channels ≡ false → list_any (can_be_given parity held) channels ≡ false
none_given parity held [] none = refl
none_given parity held (channel ∷ channels) none = by (λ rest. none_given parity held channels rest) channel.stream refl none
  where
    by : (is_waiting channels ≡ false → list_any (can_be_given parity held) channels ≡ false) → (stream : Option ℕ) → channel.stream ≡ stream
        → (not (is_some channel.stream) || is_waiting channels) ≡ false → list_any (can_be_given parity held) (channel ∷ channels) ≡ false
    by rest None is none = let wrong : true ≡ false = sym (rw is refl) ∙ none in absurd cc
    by rest (Some own) is none = rw is (rest (sym (rw is refl) ∙ none))

-- ---- a config that is handed on

pub opened_at : (place id : ℕ) (rows : List (ℕ × Option ℕ)) (kept : List Kept) (own : Kept) (i : ℕ) → length rows ≡ length kept → place_of_channel place id rows ≡ Some (place + i) → own ≡ get_or kept i own
    → channels_of rows (slice_set kept i (config_taken own)) ≡ rows_opened id (channels_of rows kept)
opened_at place id [] kept own i same found at = absurd cc
opened_at place id (row ∷ rows) [] own i same found at = absurd (omega (arith, same))
opened_at place id (row ∷ rows) (first ∷ kept) own i same found at = by (λ j. opened_at (place + 1) id rows kept own j (omega (arith, same))) (row.0 == id) refl i found at
  where
    by : ((j : ℕ) → place_of_channel (place + 1) id rows ≡ Some (place + 1 + j) → own ≡ get_or kept j own → channels_of rows (slice_set kept j (config_taken own)) ≡ rows_opened id (channels_of rows kept))
        → (here : Bool) → (row.0 == id) ≡ here → (i : ℕ) → place_of_channel place id (row ∷ rows) ≡ Some (place + i) → own ≡ get_or (first ∷ kept) i own
        → channels_of (row ∷ rows) (slice_set (first ∷ kept) i (config_taken own)) ≡ rows_opened id (channels_of (row ∷ rows) (first ∷ kept))
    by rest true is zero found at = rw (is, at) refl
    by rest true is (suc i) found at = absurd (omega (arith, some_same place (place + suc i) (sym (rw is refl) ∙ found)))
    by rest false is zero found at = absurd (omega (arith, place_behind (place + 1) id rows (place + 0) (sym (rw is refl) ∙ found)))
    by rest false is (suc i) found at = rw is (ap (λ (list : List Channel). channel_of row first ∷ list) (rest i ((sym (rw is refl) ∙ found) ∙ ap (λ n. Some n) (omega arith)) at))

rising_opened : (least id : ℕ) (channels : List Channel) → AreRising least channels → AreRising least (rows_opened id channels)
rising_opened least id [] rising = tt
rising_opened least id (channel ∷ channels) rising = grind (arith, rising_opened (channel.id + 1) id channels rising.1)

pub below_opened : (bound id : ℕ) (channels : List Channel) → AreBelow bound channels → AreBelow bound (rows_opened id channels)
below_opened bound id [] below = tt
below_opened bound id (channel ∷ channels) below = grind (arith, below_opened bound id channels below.1)

length-put : {X : Type 0} (xs : List X) (i : ℕ) (x : X) → length (slice_set xs i x) ≡ length xs
length-put [] i x = refl
length-put (y ∷ xs) zero x = refl
length-put (y ∷ xs) (suc i) x = ap suc (length-put xs i x)

set_same : (kept : List Kept) (i : ℕ) (own : Kept) → own ≡ get_or kept i own → slice_set kept i own ≡ kept
set_same [] i own at = refl
set_same (first ∷ kept) zero own at = ap (λ (k : Kept). k ∷ kept) at
set_same (first ∷ kept) (suc i) own at = ap (λ (list : List Kept). first ∷ list) (set_same kept i own at)

pub kept_behind : (rows : List (ℕ × Option ℕ)) (kept : List Kept) (i : ℕ) (own : Kept) → drop (i + 1) (channels_of rows (slice_set kept i own)) ≡ drop (i + 1) (channels_of rows kept)
kept_behind [] kept i own = refl
kept_behind (row ∷ rows) [] i own = refl
kept_behind (row ∷ rows) (first ∷ kept) zero own = refl
kept_behind (row ∷ rows) (first ∷ kept) (suc i) own = let one : suc i + 1 ≡ suc (i + 1) = omega arith in rw one (kept_behind rows kept i own)

module _ {S : Type 0} (m : AssociationMeaning S) (held : Channels) (p : SctpStreams S) (id : ℕ) where
  opens_bare : (stream : Option ℕ) (config : Option ChannelConfig) → stream ≡ None → OpensChannel m stream config id held p (Ok tt) held p
  opens_bare None config is = (refl, refl, refl)
  opens_bare (Some s) config is = absurd cc

  pub opens_unconfirmed : (stream : Option ℕ) (config : Option ChannelConfig) (held' : Channels) → config ≡ None → held' ≡ held → OpensChannel m stream config id held p (Ok tt) held' p
  opens_unconfirmed None config held' is same = (refl, same, refl)
  opens_unconfirmed (Some s) None held' is same = (refl, same, refl)
  opens_unconfirmed (Some s) (Some own) held' is same = absurd cc

  opens_both : (stream : Option ℕ) (config : Option ChannelConfig) (s : ℕ) (own : ChannelConfig) (r : Result (Unit {0}) AllocError) (held' : Channels) (q : SctpStreams S) → stream ≡ Some s → config ≡ Some own
      → OpensStream m s own p r q → held' ≡ config_handed id held → OpensChannel m stream config id held p r held' q
  opens_both stream config s own r held' q is has opens handed =
      subst (λ (o : Option ℕ). OpensChannel m o config id held p r held' q) (sym is)
      (subst (λ (c : Option ChannelConfig). OpensChannel m (Some s) c id held p r held' q) (sym has) (opens, handed))

module _ (given : ℕ) (rows : List (ℕ × Option ℕ)) (kept : List Kept) (grants : BTreeMap ℕ Grant) (handled : AreHandled given rows kept grants) (held : Channels)
    (is : handler_view given rows kept (holds_of grants) ≡ held) (i : ℕ) (row : ℕ × Option ℕ) (own : Kept) (within : i < length rows) where
  there : slice_get held.rows i ≡ Some (channel_of (get_or rows i row) (get_or kept i own))
  there = ap (λ (h : Channels). slice_get h.rows i) (sym is) ∙ channel_at rows kept i row own handled.paired.same within

  pub open_bare : {S : Type 0} (m : AssociationMeaning S) (p : SctpStreams S) → (get_or rows i row).1 ≡ None → OpensChannelAt m (slice_get held.rows i) held p (Ok tt) held p
  open_bare {S} m p bare =
      subst (λ (channel : Option Channel). OpensChannelAt m channel held p (Ok tt) held p) (sym there)
      (opens_bare m held p (get_or rows i row).0 (get_or rows i row).1 (get_or kept i own).config bare)

  module _ (own_at : own ≡ get_or kept i own) where
    own_place : place_of_channel 0 (get_or rows i row).0 rows ≡ Some i
    own_place = place_own rows i row (handled_ascending rows kept handled.paired) within

    taken_rows : channels_of rows (slice_set kept i (config_taken own)) ≡ rows_opened (get_or rows i row).0 (channels_of rows kept)
    taken_rows = opened_at 0 (get_or rows i row).0 rows kept own i handled.paired.same (own_place ∙ ap (λ n. Some n) (omega arith)) own_at

    pub handled_taken : AreHandled given rows (slice_set kept i (config_taken own)) grants
    handled_taken = record {
      paired = record {
        same = handled.paired.same ∙ sym (length-put kept i (config_taken own));
        rising = rw taken_rows (rising_opened 0 (get_or rows i row).0 (channels_of rows kept) handled.paired.rising);
        below = rw taken_rows (below_opened given (get_or rows i row).0 (channels_of rows kept) handled.paired.below);
      };
      owners = handled.owners;
      unshared = handled.unshared;
      count = handled.count;
      short = short_taken given rows kept grants handled (config_taken own) i refl;
    }

    pub open_unconfirmed : {S : Type 0} (m : AssociationMeaning S) (p : SctpStreams S) → own.config ≡ None
        → OpensChannelAt m (slice_get held.rows i) held p (Ok tt) (handler_view given rows (slice_set kept i (config_taken own)) (holds_of grants)) p
    open_unconfirmed {S} m p none =
        subst (λ (channel : Option Channel). OpensChannelAt m channel held p (Ok tt) (handler_view given rows (slice_set kept i (config_taken own)) (holds_of grants)) p) (sym there)
        (opens_unconfirmed m held p (get_or rows i row).0 (get_or rows i row).1 (get_or kept i own).config (handler_view given rows (slice_set kept i (config_taken own)) (holds_of grants))
        (ap (λ (k : Kept). k.config) (sym own_at) ∙ none) unchanged)
      where
        same_own : config_taken own ≡ own
        same_own = ap (λ (config : Option ChannelConfig). record own { config = config }) (sym none)

        unchanged : handler_view given rows (slice_set kept i (config_taken own)) (holds_of grants) ≡ held
        unchanged = ap (λ (list : List Kept). handler_view given rows list (holds_of grants)) (ap (λ (k : Kept). slice_set kept i k) same_own ∙ set_same kept i own own_at) ∙ is

    pub open_both : {S : Type 0} (m : AssociationMeaning S) (p q : SctpStreams S) (s : ℕ) (config : ChannelConfig) (r : Result (Unit {0}) AllocError)
        → (get_or rows i row).1 ≡ Some s → own.config ≡ Some config → OpensStream m s config p r q
        → OpensChannelAt m (slice_get held.rows i) held p r (handler_view given rows (slice_set kept i (config_taken own)) (holds_of grants)) q
    open_both {S} m p q s config r own_stream has opens =
        subst (λ (channel : Option Channel). OpensChannelAt m channel held p r (handler_view given rows (slice_set kept i (config_taken own)) (holds_of grants)) q) (sym there)
        (opens_both m held p (get_or rows i row).0 (get_or rows i row).1 (get_or kept i own).config s config r (handler_view given rows (slice_set kept i (config_taken own)) (holds_of grants)) q
        own_stream (ap (λ (k : Kept). k.config) (sym own_at) ∙ has) opens handed)
      where
        handed : handler_view given rows (slice_set kept i (config_taken own)) (holds_of grants) ≡ config_handed (get_or rows i row).0 held
        handed =
            ap (λ (list : List Channel). record { given = given; rows = list; holds = holds_of grants }) taken_rows
            ∙ ap (λ (h : Channels). config_handed (get_or rows i row).0 h) is

    pub taken_count : length (channels_of rows (slice_set kept i (config_taken own))) ≡ length held.rows
    taken_count =
        length-channels_of rows (slice_set kept i (config_taken own)) (handled.paired.same ∙ sym (length-put kept i (config_taken own)))
        ∙ (sym (length-channels_of rows kept handled.paired.same) ∙ ap (λ (h : Channels). length h.rows) is)

-- ---- one channel after another

channel_there : (channels : List Channel) (i : ℕ) → i < length channels → (channel : Channel) × (slice_get channels i ≡ Some channel) × (drop i channels ≡ channel ∷ drop (i + 1) channels)
channel_there [] i within = absurd (omega arith)
channel_there (first ∷ channels) zero within = (first, refl, refl)
channel_there (first ∷ channels) (suc i) within =
    let rest = channel_there channels i (omega (arith, within)) in
    let one : suc i + 1 ≡ suc (i + 1) = omega arith in
    (rest.0, rest.1, rest.2 ∙ sym (rw one refl))

module _ {S : Type 0} (m : AssociationMeaning S) (start : Channels) (first : SctpStreams S) where
  -- what is opened from a place on makes the whole
  abbrev pub OpensLeft : ℕ → Channels → SctpStreams S → Type 0
  OpensLeft i now p = (r : Result (Unit {0}) AllocError) (held' : Channels) (p' : SctpStreams S) → OpensAll m (drop i now.rows) now p r held' p' → OpensAll m start.rows start first r held' p'

  pub opens_begin : OpensLeft 0 start first
  opens_begin r held' p' h = h

  pub opens_more : (i : ℕ) (now new : Channels) (p q : SctpStreams S) → OpensLeft i now p → i < length now.rows → OpensChannelAt m (slice_get now.rows i) now p (Ok tt) new q
      → drop (i + 1) new.rows ≡ drop (i + 1) now.rows → OpensLeft (i + 1) new q
  opens_more i now new p q left within opened behind r held' p' h =
      let at = channel_there now.rows i within in
      left r held' p'
      (subst (λ (list : List Channel). OpensAll m list now p r held' p') (sym at.2)
      (Ok tt, new, q, subst (λ (channel : Option Channel). OpensChannelAt m channel now p (Ok tt) new q) at.1 opened, subst (λ (list : List Channel). OpensAll m list new q r held' p') behind h))

  pub opens_stop : (i : ℕ) (now new : Channels) (p q : SctpStreams S) (error : AllocError) → OpensLeft i now p → i < length now.rows → OpensChannelAt m (slice_get now.rows i) now p (Err error) new q
      → OpensAll m start.rows start first (Err error) new q
  opens_stop i now new p q error left within opened =
      let at = channel_there now.rows i within in
      left (Err error) new q
      (subst (λ (list : List Channel). OpensAll m list now p (Err error) new q) (sym at.2)
      (Err error, new, q, subst (λ (channel : Option Channel). OpensChannelAt m channel now p (Err error) new q) at.1 opened, (refl, refl, refl)))

  pub opens_done : (i : ℕ) (now : Channels) (p : SctpStreams S) → OpensLeft i now p → length now.rows ≤ i → OpensAll m start.rows start first (Ok tt) now p
  opens_done i now p left past = left (Ok tt) now p (subst (λ (list : List Channel). OpensAll m list now p (Ok tt) now p) (sym (drop_past now.rows i past)) (refl, refl, refl))

-- ---- a moment

module _ {S : Type 0} (m : AssociationMeaning S) (held : Channels) (p : SctpStreams S) (wake : Signals) (due client : Bool) (is : due ≡ true) (own : client ≡ p.client) where
  pub meets_ok : (between held' : Channels) (r : Result (Unit {0}) AllocError) (p' : SctpStreams S) (wake' : Signals)
      → Allocates (parity_of client) held (Ok tt) between → OpensAll m between.rows between p r held' p'
      → wake' ≡ opening_wake (can_open between.rows) wake → MeetsMoment m due held p wake r held' p' wake'
  meets_ok between held' r p' wake' allocates opens woken =
      subst (λ (b : Bool). MeetsMoment m b held p wake r held' p' wake') (sym is)
      ((Ok tt, between, subst (λ (c : Bool). Allocates (parity_of c) held (Ok tt) between) own allocates, opens), woken)

  pub meets_err : (between : Channels) (error : AllocError) (wake' : Signals) → Allocates (parity_of client) held (Err error) between
      → wake' ≡ record wake { events = false } → MeetsMoment m due held p wake (Err error) between p wake'
  meets_err between error wake' allocates woken =
      subst (λ (b : Bool). MeetsMoment m b held p wake (Err error) between p wake') (sym is)
      ((Err error, between, subst (λ (c : Bool). Allocates (parity_of c) held (Err error) between) own allocates, (refl, refl, refl)), woken)

pub short_config : (kept : List Kept) (i : ℕ) (own : Kept) (config : ChannelConfig) → own ≡ get_or kept i own → i < length kept → FitOpenMessages kept → own.config ≡ Some config
    → (length config.label ≤ 65535) × (length config.protocol ≤ 65535)
short_config kept i own config at within short has =
    let fits = subst (λ (c : Option ChannelConfig). FitsOpenMessage c) has (subst (λ (k : Kept). FitsOpenMessage k.config) (sym at) (short_at kept i own within short)) in
    (label_fits config fits, protocol_fits config fits)
