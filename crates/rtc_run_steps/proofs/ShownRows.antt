-- The rows of channels, as a table is filled with them.
use Rattle.std.proofs.Common.{◌≡◌, ◌+◌, ℕ, zero, suc, Bool, List, [], ◌∷◌, ◌++◌, length, take, get_or, Option, Some, None, refl, sym, subst, ap, ◌∙◌, arith}
use Rattle.std.specs.Prelude.{◌-◌, not, is_some, nat_lt, slice_get}
use Rattle.std.proofs.lemmas.List.{length-map, take_more}
use Rattle.std.proofs.lemmas.Option.{slice_get_within, get_or_from_slice_get}
use Rattle.rtc_parts.specs.AssociationMeaning.{AssociationMeaning}
use Rattle.rtc_sctp.specs.Streams.{SctpStreams}
use Rattle.rtc_channels.specs.declared.channel_row.ChannelRow.{ChannelRow}
use Rattle.rtc_channels.specs.Channels.{Channels}
use Rattle.rtc_peer_core.specs.ChannelRows.{channel_row, channel_rows}

-- rows up to a place behind them are all rows
all_taken : (rows : List ChannelRow) (k : ℕ) → slice_get rows k ≡ None → take k rows ≡ rows
all_taken [] zero none = refl
all_taken [] (suc k) none = refl
all_taken (row ∷ rows) zero none = absurd cc
all_taken (row ∷ rows) (suc k) none = ap (λ rest. row ∷ rest) (all_taken rows k none)

pub rows_told : (rows : List ChannelRow) (k : ℕ) (room told : List ChannelRow) (found : Option ChannelRow) → found ≡ slice_get rows k → found ≡ None → room ≡ take k rows → told ≡ room → told ≡ rows
rows_told rows k room told found at none filled is = is ∙ (filled ∙ all_taken rows k (sym at ∙ none))

-- one more row is put behind those before it
pub row_pushed : (rows : List ChannelRow) (k : ℕ) (room room' : List ChannelRow) (found : Option ChannelRow) (row : ChannelRow)
    → found ≡ slice_get rows k → found ≡ Some row → room ≡ take k rows → room' ≡ room ++ row ∷ [] → room' ≡ take (k + 1) rows
row_pushed rows k room room' found row at is filled pushed =
    let there : slice_get rows k ≡ Some row = sym at ∙ is in
    let more : take (k + 1) rows ≡ take k rows ++ get_or rows k row ∷ [] = take_more rows k row (slice_get_within rows k row there) in
    let same : get_or rows k row ≡ row = get_or_from_slice_get rows k row row there in
    pushed ∙ (ap (λ (shown : List ChannelRow). shown ++ row ∷ []) filled ∙ sym (more ∙ ap (λ (one : ChannelRow). take k rows ++ one ∷ []) same))

-- no row stands at a place exactly where there are no more rows than that
fewer_rows : (rows : List ChannelRow) (k : ℕ) (none : Bool) → is_some (slice_get rows k) ≡ not none → none ≡ nat_lt (length rows) (k + 1)
fewer_rows [] k none is = grind (arith, is)
fewer_rows (row ∷ rows) zero none is = grind (arith, is)
fewer_rows (row ∷ rows) (suc k) none is = grind (arith, fewer_rows rows k none is)

pub fewer_channels : {S : Type 0} (association : AssociationMeaning S) (p : SctpStreams S) (held : Channels) (most : ℕ) (found : Option ChannelRow) (none : Bool)
    → (most ≡ 0 → ⊥) → found ≡ slice_get (channel_rows association p held) (most - 1) → is_some found ≡ not none → none ≡ nat_lt (length held.rows) most
fewer_channels association p held most found none some at is =
    let shown : List ChannelRow = channel_rows association p held in
    let last : (most - 1) + 1 ≡ most = omega (arith, some) in
    let rows : length shown ≡ length held.rows = length-map held.rows (channel_row association p) in
    let F : ℕ → ℕ → Type 0 = λ (count bound : ℕ). none ≡ nat_lt count bound in
    subst (F (length held.rows)) last (subst (λ (count : ℕ). F count ((most - 1) + 1)) rows (fewer_rows shown (most - 1) none (ap is_some (sym at) ∙ is)))

-- a list of the rows is as long as there are channels
pub rows_are_channels : {S : Type 0} (association : AssociationMeaning S) (p : SctpStreams S) (held : Channels) (rows : List ChannelRow)
    → rows ≡ channel_rows association p held → length rows ≡ length held.rows
rows_are_channels association p held rows is = ap length is ∙ length-map held.rows (channel_row association p)
