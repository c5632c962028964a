-- The channels after a removal, by what a handler keeps.
use Rattle.std.proofs.Common.{◌≡◌, ◌+◌, ◌<◌, ◌≤◌, ◌==◌, ℕ, suc, Bool, true, false, cond, List, length, get_or, map, refl, ap, sym, ◌∙◌, arith, Option, Some, None}
use Rattle.std.specs.Prelude.{remove, ◌&&◌, IsSome}
use Rattle.std.specs.BTreeMap.{BTreeMap}
use Rattle.rtc_channels.specs.declared.kept.Kept.{Kept}
use Rattle.rtc_channels.specs.declared.grants.Grant.{Grant}
use Rattle.rtc_channels.specs.Channels.{Channels, numbered_stream, channel_of_stream, stream_of_channel}
use Rattle.rtc_channels.specs.Kept.{channels_of, place_of_channel}
use Rattle.rtc_channels.specs.Granted.{owner_at, holds_at, holds_of, AreHandled}
use Rattle.rtc_channels.specs.Holds.{channels_without, held_pending, removed_channel}
use Rattle.rtc_channels.proofs.KeptLemmas.{streams_of_channels}
use Rattle.rtc_channels.proofs.PlaceLemmas.{stream_at, stream_missed}
use Rattle.rtc_channels.proofs.GrantLemmas.{hold_count-holds_of, hold_count-le, holds_same, holds_more, length-with_hold}
use Rattle.rtc_channels.proofs.RowLemmas.{behind_first}
use Rattle.rtc_channels.proofs.GivenLemmas.{gone_at, gone_none}
use Rattle.rtc_channels.proofs.HandledLemmas.{handled_released}

-- the value that contracts see
abbrev pub handler_view : ℕ → List (ℕ × Option ℕ) → List Kept → List ℕ → Channels
handler_view given rows kept holds = record { given = given; rows = channels_of rows kept; holds = holds }

-- a row's stream is owned
pub owned_at : (grants : BTreeMap ℕ Grant) (rows : List (ℕ × Option ℕ)) (s i : ℕ) (d : ℕ × Option ℕ) → ((q : ℕ) → owner_at grants q ≡ channel_of_stream q rows)
    → i < length rows → (get_or rows i d).1 ≡ Some s → IsSome (owner_at grants s)
owned_at grants rows s i d owners within own = by (owner_at grants s) (λ none. behind_first s s rows i d within own (sym (owners s) ∙ none) refl)
  where
    by : (found : Option ℕ) → (found ≡ None → ⊥) → IsSome found
    by None never = absurd (never refl)
    by (Some id) never = refl

-- a hold of a stream is one of all
pub times_within : (grants : BTreeMap ℕ Grant) (stream : ℕ) → stream < 65536 → holds_at grants stream ≤ length (holds_of grants)
times_within grants stream below = let own = hold_count-holds_of grants stream below in omega (arith, own, hold_count-le stream (holds_of grants))

-- the holds of a map after a release
pub released_holds : (old new : BTreeMap ℕ Grant) (stream : ℕ) (pending : Bool) → stream < 65536
    → ((q : ℕ) → holds_at new q ≡ cond (pending && (q == stream)) (holds_at old q + 1) (holds_at old q)) → holds_of new ≡ held_pending pending (Some stream) (holds_of old)
released_holds old new stream true below put = holds_more old new stream below put
released_holds old new stream false below put = holds_same old new put

pub length-held_pending : (pending : Bool) (stream : ℕ) (holds : List ℕ) → length (held_pending pending (Some stream) holds) ≤ suc (length holds)
length-held_pending true stream holds = omega (arith, length-with_hold stream holds)
length-held_pending false stream holds = omega arith

module _ (given id : ℕ) (rows : List (ℕ × Option ℕ)) (kept : List Kept) (grants : BTreeMap ℕ Grant) (handled : AreHandled given rows kept grants) (pending : Bool) where
  -- there is no such channel
  pub removed_none : (held : Channels) → handler_view given rows kept (holds_of grants) ≡ held → place_of_channel 0 id rows ≡ None → held ≡ removed_channel id pending held
  removed_none held is missed = rw (← is) (by pending)
    where
      none : stream_of_channel id (map numbered_stream (channels_of rows kept)) ≡ None
      none = rw (streams_of_channels rows kept handled.paired.same) (stream_missed 0 id rows missed)

      by : (pending : Bool) → handler_view given rows kept (holds_of grants) ≡ removed_channel id pending (handler_view given rows kept (holds_of grants))
      by true = rw (gone_none 0 id rows kept handled.paired.same missed, none) refl
      by false = rw (gone_none 0 id rows kept handled.paired.same missed) refl

  module _ (i : ℕ) (d : ℕ × Option ℕ) (within : i < length rows) (found : place_of_channel 0 id rows ≡ Some i) where
    -- a channel without a stream goes
    pub removed_bare : (held : Channels) → handler_view given rows kept (holds_of grants) ≡ held → (get_or rows i d).1 ≡ None
        → handler_view given (remove rows i) (remove kept i) (holds_of grants) ≡ removed_channel id pending held
    removed_bare held is none = rw (← is) (by pending)
      where
        bare : stream_of_channel id (map numbered_stream (channels_of rows kept)) ≡ None
        bare = rw (streams_of_channels rows kept handled.paired.same) (stream_at 0 id rows i d (found ∙ ap (λ n. Some n) (omega arith)) ∙ none)

        gone : channels_of (remove rows i) (remove kept i) ≡ channels_without id (channels_of rows kept)
        gone = gone_at 0 id rows kept i handled.paired.same (found ∙ ap (λ n. Some n) (omega arith))

        by : (pending : Bool) → handler_view given (remove rows i) (remove kept i) (holds_of grants) ≡ removed_channel id pending (handler_view given rows kept (holds_of grants))
        by true = rw (gone, bare) refl
        by false = rw gone refl

    -- a channel with a stream goes
    pub removed_owner : (held : Channels) (grants' : BTreeMap ℕ Grant) (s : ℕ) → handler_view given rows kept (holds_of grants) ≡ held → (get_or rows i d).1 ≡ Some s → s < 65536
        → ((q : ℕ) → holds_at grants' q ≡ cond (pending && (q == s)) (holds_at grants q + 1) (holds_at grants q))
        → handler_view given (remove rows i) (remove kept i) (holds_of grants') ≡ removed_channel id pending held
    removed_owner held grants' s is own below put =
        rw (← is, gone_at 0 id rows kept i handled.paired.same (found ∙ ap (λ n. Some n) (omega arith)), released_holds grants grants' s pending below put, streams_of_channels rows kept handled.paired.same)
        (rw (stream_at 0 id rows i d (found ∙ ap (λ n. Some n) (omega arith)) ∙ own) refl)

    pub handled_owner : (grants' : BTreeMap ℕ Grant) (s : ℕ) → (get_or rows i d).1 ≡ Some s → s < 65536
        → ((q : ℕ) → owner_at grants' q ≡ cond (q == s) None (owner_at grants q))
        → ((q : ℕ) → holds_at grants' q ≡ cond (pending && (q == s)) (holds_at grants q + 1) (holds_at grants q))
        → AreHandled given (remove rows i) (remove kept i) grants'
    handled_owner grants' s own below owners put =
        handled_released given rows kept grants handled grants' id i s d within found own owners
        (omega (arith, length-held_pending pending s (holds_of grants), ap (λ (list : List ℕ). length list) (released_holds grants grants' s pending below put)))
