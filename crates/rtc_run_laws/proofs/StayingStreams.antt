-- The stream of a channel that a poll announces and that was there before: the channel had it then.
use Rattle.std.proofs.Common.{◌≡◌, ◌<◌, ◌+◌, ◌++◌, ℕ, Bool, true, false, List, [], ◌∷◌, Some, Ok, refl, subst, if◌then◌else◌, arith, ◌⊎◌, inl, inr}
use Rattle.rtc_channels.specs.Allocation.{channel_ensured, is_ensured, opened_by_other}
use Rattle.rtc_channels.specs.Channels.{Channel, Channels}
use Rattle.rtc_peer_core.specs.Meanings.{Meanings, PartsLaws}
use Rattle.rtc_peer_transport.specs.declared.event.Event.TheVariants.{ChannelOpen}
use Rattle.rtc_peer_transport.specs.declared.output.Output.TheVariants as outputs
use Rattle.rtc_peer_transport.specs.declared.polled_peer.PolledPeer.{PolledPeer}
use Rattle.rtc_peer_polling.specs.Walk.{PollsPeer}
use Rattle.rtc_run_laws.proofs.ToldEvents.{open_told}
use Rattle.rtc_run_laws.proofs.TracedPolls.{poll_traced}

-- a row of a number has a stream
abbrev pub HasRowOf : (number stream : ℕ) → List Channel → Type 0
HasRowOf n s [] = ⊥
HasRowOf n s (row ∷ rows) = ((row.id ≡ n) × (row.stream ≡ Some s)) ⊎ HasRowOf n s rows

row_more : (n s : ℕ) (rows : List Channel) (row : Channel) → (row.id ≡ n → ⊥) → HasRowOf n s (rows ++ row ∷ []) → HasRowOf n s rows
row_more n s [] row ne (inl h) = absurd (ne h.0)
row_more n s [] row ne (inr h) = h
row_more n s (first ∷ rows) row ne (inl h) = inl h
row_more n s (first ∷ rows) row ne (inr h) = inr (row_more n s rows row ne h)

-- a row that is new has another number
row_ensured : (n s stream : ℕ) (held : Channels) → n < held.given → HasRowOf n s (channel_ensured stream held).rows → HasRowOf n s held.rows
row_ensured n s stream held less = by (is_ensured stream held)
  where
    by : (b : Bool)
        → HasRowOf n s (if b then held else record held { given = held.given + 1; rows = held.rows ++ opened_by_other held.given stream ∷ [] }).rows
        → HasRowOf n s held.rows
    by true k = k
    by false k = row_more n s held.rows (opened_by_other held.given stream) (λ is. omega (arith, less, is)) k

-- a poll that announces a channel gives no stream to one that was there
pub announced_stays : {I D S M E X T W N : Type 0} (m : Meanings I D S M E X T W N) → PartsLaws m → (p : PolledPeer I D S M N) (id : ℕ) (label : List ℕ)
    (q : PolledPeer I D S M N) → PollsPeer m p (Ok (outputs.Event (ChannelOpen id label))) q → (n s : ℕ) → n < p.core.channels.given
    → HasRowOf n s q.core.channels.rows → HasRowOf n s p.core.channels.rows
announced_stays {I} {D} {S} {M} {E} {X} {T} {W} {N} m laws p id label q h n s less k =
    let last = poll_traced m laws (ChannelOpen id label) p q h refl in
    let told = open_told m last.told id label last.between last.streams q last.polled last.taken in
    let up = last.before.given in
    subst (λ (l : List Channel). HasRowOf n s l) last.before.kept
    (row_ensured n s told.stream last.between.core.channels (omega (arith, less, up))
    (subst (λ (x : PolledPeer I D S M N). HasRowOf n s x.core.channels.rows) told.left k))
