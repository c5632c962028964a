-- Where a stream that is open is given a channel: the rows, and how many numbers were given.
use Rattle.std.proofs.Common.{if◌then◌else◌, ◌≡◌, ◌≤◌, ◌++◌, ◌∷◌, ◌==◌, ◌+◌, ◌-◌, ◌^◌, ◌||◌, ℕ, Bool, true, false, true≢false, List, [], map, Option, Some, None, refl, sym, arith}
use Rattle.std.proofs.lemmas.Bool.{eqb-true}
use Rattle.rtc_channels.specs.Channels.{Channel, Channels, channel_of_stream, is_of_stream, numbered_stream}
use Rattle.rtc_channels.specs.Allocation.{channel_ensured, is_ensured, is_given, opened_by_other}
use Rattle.rtc_peer_polling.specs.StreamStages.{channel_over}
use Rattle.rtc_peer_laws.specs.ChannelStreams.{AreNumbersGiven}
use Rattle.rtc_peer_laws.proofs.StreamsJoin.{same_given}

-- a channel that was made for a stream is found by it
found_last : (stream id : ℕ) (rows : List Channel) → channel_of_stream stream (map numbered_stream (rows ++ opened_by_other id stream ∷ [])) ≡ None → ⊥
found_last stream id [] h = by (stream == stream) refl h
  where
    by : (b : Bool) → (stream == stream) ≡ b → ◌≡◌ {A = Option ℕ} (if b then Some id else None) None → ⊥
    by true e k = cc (k)
    by false e k = grind (arith, e)
found_last stream id (row ∷ rows) h = by (is_of_stream stream row.stream) (found_last stream id rows) h
  where
    by : (b : Bool) → (channel_of_stream stream (map numbered_stream (rows ++ opened_by_other id stream ∷ [])) ≡ None → ⊥)
        → ◌≡◌ {A = Option ℕ} (if b then Some row.id else channel_of_stream stream (map numbered_stream (rows ++ opened_by_other id stream ∷ []))) None → ⊥
    by true rest k = cc (k)
    by false rest k = rest k

-- a stream that some channel has is found
given_over : (stream : ℕ) (rows : List Channel) → is_given stream rows ≡ true → channel_of_stream stream (map numbered_stream rows) ≡ None → ⊥
given_over stream [] h k = true≢false (sym h)
given_over stream (row ∷ rows) h k = by (is_of_stream stream row.stream) h k (λ e f. given_over stream rows e f)
  where
    by : (b : Bool) → (b || is_given stream rows) ≡ true
        → ◌≡◌ {A = Option ℕ} (if b then Some row.id else channel_of_stream stream (map numbered_stream rows)) None
        → (is_given stream rows ≡ true → channel_of_stream stream (map numbered_stream rows) ≡ None → ⊥) → ⊥
    by true e f rest = cc (f)
    by false e f rest = rest e f

-- where no number was left for a channel, no row is new
pub ensured_rows : (stream : ℕ) (held : Channels) → channel_over stream (channel_ensured stream held) ≡ None → (channel_ensured stream held).rows ≡ held.rows
ensured_rows stream held h = by (is_ensured stream held) h
  where
    by : (b : Bool)
        → channel_over stream (if b then held else record held { given = held.given + 1; rows = held.rows ++ opened_by_other held.given stream ∷ [] }) ≡ None
        → (if b then held else record held { given = held.given + 1; rows = held.rows ++ opened_by_other held.given stream ∷ [] }).rows ≡ held.rows
    by true k = refl
    by false k = absurd (found_last stream held.given held.rows k)

-- a number more is given at most
pub ensured_given : (stream : ℕ) (held : Channels) → held.given ≤ (channel_ensured stream held).given
ensured_given stream held = by (is_ensured stream held)
  where
    by : (b : Bool) → held.given ≤ (if b then held else record held { given = held.given + 1; rows = held.rows ++ opened_by_other held.given stream ∷ [] }).given
    by true = same_given held.given held.given refl
    by false = omega arith

-- and where the stream then has no channel, all were
pub ensured_full : (stream : ℕ) (held : Channels) → channel_over stream (channel_ensured stream held) ≡ None → AreNumbersGiven (channel_ensured stream held)
ensured_full stream held h = by (is_given stream held.rows) (held.given == 2 ^ 64 - 1) refl refl h
  where
    full : held.given ≡ 2 ^ 64 - 1 → AreNumbersGiven held
    full e = omega (arith, e)

    by : (a b : Bool) → is_given stream held.rows ≡ a → (held.given == 2 ^ 64 - 1) ≡ b
        → channel_over stream (if a || b then held else record held { given = held.given + 1; rows = held.rows ++ opened_by_other held.given stream ∷ [] }) ≡ None
        → AreNumbersGiven (if a || b then held else record held { given = held.given + 1; rows = held.rows ++ opened_by_other held.given stream ∷ [] })
    by true b e f k = absurd (given_over stream held.rows e k)
    by false true e f k = full (eqb-true held.given (2 ^ 64 - 1) f)
    by false false e f k = absurd (found_last stream held.given held.rows k)
