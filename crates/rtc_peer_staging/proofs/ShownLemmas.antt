-- The rows that tell of channels, from their numbers with their streams.
use Rattle.std.proofs.Common.{◌≡◌, ◌∙◌, ◌<◌, ◌+◌, ℕ, suc, zero, List, [], ◌∷◌, ◌++◌, length, drop, slice_index_or, map, refl, ap, subst, append_assoc, arith, Option, option_map}
use Rattle.std.specs.List.{slice_get}
use Rattle.std.proofs.lemmas.Option.{slice_get-map}
use Rattle.rtc_parts.specs.AssociationMeaning.{AssociationMeaning}
use Rattle.rtc_sctp.specs.Streams.{SctpStreams}
use Rattle.rtc_channels.specs.declared.channel_row.ChannelRow.{ChannelRow}
use Rattle.rtc_channels.specs.Channels.{Channel, numbered_stream}
use Rattle.rtc_peer_core.specs.ChannelRows.{channel_row}
use Rattle.rtc_peer_staging.specs.ShownChannels.{numbered_row}

pub shown_rows : {S : Type 0} (m : AssociationMeaning S) (p : SctpStreams S) (rows : List Channel) → map (numbered_row m p) (map numbered_stream rows) ≡ map (channel_row m p) rows
shown_rows m p [] = refl
shown_rows m p (row ∷ rows) = ap (λ (more : List ChannelRow). channel_row m p row ∷ more) (shown_rows m p rows)

pub shown_at : {S : Type 0} (m : AssociationMeaning S) (p : SctpStreams S) (rows : List Channel) (k : ℕ) → slice_get (map (channel_row m p) rows) k ≡ option_map (numbered_row m p) (slice_get (map numbered_stream rows) k)
shown_at m p rows k =
    let both : slice_get (map (numbered_row m p) (map numbered_stream rows)) k ≡ option_map (numbered_row m p) (slice_get (map numbered_stream rows) k) = slice_get-map (numbered_row m p) (map numbered_stream rows) k in
    rw (shown_rows m p rows) at both

pub shown_here : {S : Type 0} (m : AssociationMeaning S) (p : SctpStreams S) (rows : List Channel) (pairs : List (ℕ × Option ℕ)) (k : ℕ) (shown : Option ChannelRow) → pairs ≡ map numbered_stream rows → shown ≡ option_map (numbered_row m p) (slice_get pairs k) → shown ≡ slice_get (map (channel_row m p) rows) k
shown_here m p rows pairs k shown pairs_are is =
    let at_k : slice_get (map (channel_row m p) rows) k ≡ option_map (numbered_row m p) (slice_get (map numbered_stream rows) k) = shown_at m p rows k in
    let own : shown ≡ option_map (numbered_row m p) (slice_get (map numbered_stream rows) k) = rw pairs_are at is in
    rw (own, at_k) refl

-- what is at a place stands before the rest
here_from : {A : Type 0} (k : ℕ) (xs : List A) (x other : A) → k < length xs → x ≡ slice_index_or xs k other → drop k xs ≡ x ∷ drop (suc k) xs
here_from k [] x other within is = absurd (omega arith)
here_from zero (y ∷ ys) x other within is = rw is refl
here_from (suc k) (y ∷ ys) x other within is = here_from k ys x other (omega arith) is

-- one row more
pub one_shown : {A B : Type 0} (f : A → B) (k : ℕ) (xs : List A) (x other : A) (done more all : List B) → k < length xs → x ≡ slice_index_or xs k other
    → more ≡ done ++ f x ∷ [] → done ++ map f (drop k xs) ≡ all → more ++ map f (drop (k + 1) xs) ≡ all
one_shown {A} {B} f k xs x other done more all within is more_is h =
    let next : suc k ≡ k + 1 = omega arith in
    let here : drop k xs ≡ x ∷ drop (k + 1) xs = subst (λ (n : ℕ). drop k xs ≡ x ∷ drop n xs) next (here_from k xs x other within is) in
    let inv : done ++ map f (x ∷ drop (k + 1) xs) ≡ all = subst (λ (left : List A). done ++ map f left ≡ all) here h in
    rw (more_is, append_assoc) inv

pub shown_all : {S : Type 0} (m : AssociationMeaning S) (p : SctpStreams S) (rows : List Channel) (pairs : List (ℕ × Option ℕ)) (shown : List ChannelRow)
    → pairs ≡ map numbered_stream rows → shown ≡ map (numbered_row m p) pairs → shown ≡ map (channel_row m p) rows
shown_all m p rows pairs shown pairs_are is =
    is ∙ ap (λ (these : List (ℕ × Option ℕ)). map (numbered_row m p) these) pairs_are ∙ shown_rows m p rows
