-- Holds and allocations, computed.
use Rattle.std.proofs.Common.{◌≡◌, ◌<◌, ℕ, suc, Bool, true, false, not, List, [], ◌∷◌, map, length, get_or, refl, ap, arith, Some, None}
use Rattle.std.specs.Prelude.{slice_get}
use Rattle.std.specs.List.{filter}
use Rattle.rtc_channels.specs.Ids.{all_ids, IsIdOf}
use Rattle.rtc_channels.proofs.IdLemmas.{ids-every_second}
use Rattle.rtc_wire.specs.ChannelConfig.{fresh}
use Rattle.rtc_channels.specs.Channels.{Channel, Channels, no_channels, with_channel}
use Rattle.rtc_channels.specs.Holds.{with_hold, without_hold, hold_count, is_stream_held, removed_channel, reset_completed, holds_lost}
use Rattle.rtc_channels.specs.Allocation.{is_taken, stream_for, channel_ensured}

-- a stream that is held twice: one completed reset leaves one hold, the second none, and a third changes nothing
abbrev held_twice : List ℕ
held_twice = with_hold 4 (with_hold 4 [])

twice : hold_count 4 held_twice ≡ 2
twice = refl

once : hold_count 4 (without_hold 4 held_twice) ≡ 1
once = refl

never : without_hold 4 (without_hold 4 held_twice) ≡ []
never = refl

still_never : without_hold 4 [] ≡ []
still_never = refl

-- two channels, of which the first goes, and two more: their numbers are 0, 1, 2, 3
abbrev two_more : Channels
two_more = with_channel (with_channel (removed_channel 0 false (with_channel (with_channel no_channels fresh) fresh)) fresh) fresh

numbers : map (λ (channel : Channel). channel.id) two_more.rows ≡ 1 ∷ 2 ∷ 3 ∷ []
numbers = refl

given : two_more.given ≡ 4
given = refl

-- a removal while a reset is pending leaves one hold of the channel's stream, another none, and a lost association leaves none
abbrev with_stream : Channels
with_stream = channel_ensured 4 no_channels

pending : (removed_channel 0 true with_stream).holds ≡ 4 ∷ []
pending = refl

not_pending : (removed_channel 0 false with_stream).holds ≡ []
not_pending = refl

lost : (holds_lost (removed_channel 0 true with_stream)).holds ≡ []
lost = refl

-- a stream that is held is not given where it was settled, and is after its reset completed
held_settled : stream_for (Some 4) 0 (removed_channel 0 true with_stream) ≡ None
held_settled = refl

completed_settled : stream_for (Some 4) 0 (reset_completed 4 (removed_channel 0 true with_stream)) ≡ Some 4
completed_settled = refl

-- where every stream of a side is held, none is given

held_is_taken : (s : ℕ) (held : Channels) → is_stream_held s held.holds ≡ true → not (is_taken s held) ≡ false
held_is_taken s held is = grind (arith, is)

none_of : (p : ℕ → Bool) (xs : List ℕ) → ((i d : ℕ) → i < length xs → p (get_or xs i d) ≡ false) → filter p xs ≡ []
none_of p [] fails = refl
none_of p (x ∷ xs) fails = rw (fails 0 x (omega arith)) (none_of p xs (λ i d within. fails (suc i) d (omega (arith, within))))

pub all_held : (parity : ℕ) (held : Channels) → parity < 2 → ((s : ℕ) → IsIdOf parity s → is_stream_held s held.holds ≡ true) → stream_for None parity held ≡ None
unfolding all_ids
all_held parity held two each =
    ap (λ (free : List ℕ). slice_get free 0)
    (none_of (λ stream. not (is_taken stream held)) (all_ids parity)
    (λ i d within. held_is_taken (get_or (all_ids parity) i d) held (each (get_or (all_ids parity) i d) (ids-every_second parity 32768 two (omega arith) i d within))))
