-- The row of a channel that was confirmed, by its number: it stays confirmed until it goes, as channels and the entries of their streams change.
use Rattle.std.proofs.Common.{◌&&◌, ◌||◌, not, map, true≢false, ◌≡◌, ◌∙◌, inl, inr, ◌+◌, ◌<◌, ◌≤◌, ◌∷◌, ◌==◌, if◌then◌else◌, ℕ, Bool, true, false, List, [], Option, Some, None, refl, sym, ap, subst, arith}
use Rattle.std.proofs.lemmas.Bool.{eqb-true, eqb-false}
use Rattle.rtc_wire.specs.declared.channel_config.ChannelConfig.{ChannelConfig}
use Rattle.rtc_parts.specs.AssociationMeaning.{AssociationMeaning}
use Rattle.rtc_sctp.specs.Streams.{SctpStreams}
use Rattle.rtc_channels.specs.Allocation.{AreUnshared, IsUnshared}
use Rattle.rtc_channels.specs.Channels.{AreRising, has_channel, is_of_stream, numbered_stream, Channel, Channels}
use Rattle.rtc_channels.specs.Holds.{all_cancelled, cancelled_if, is_unconfirmed}
use Rattle.rtc_peer_laws.specs.RowsChanged.{RowsChanged}
use Rattle.rtc_peer_laws.proofs.ChannelsOver.{over_rows}
use Rattle.rtc_run_laws.proofs.LostChannels.{has_without}
use Rattle.rtc_run_laws.proofs.NumberedRows.{AreRowsOf, IsNumberSo, KnowsSide, Lasts, cancelled_one, cancelled_so, changed_so}
use Rattle.rtc_run_laws.proofs.OwnedRows.{HasOver}
use Rattle.rtc_run_laws.proofs.RowLemmas.{own_stream}
use Rattle.rtc_run_laws.proofs.StayingStreams.{HasRowOf}

abbrev pub IsSureRow : Channel → Type 0
IsSureRow row = row.confirmed ≡ true

-- each row of a number was confirmed
abbrev pub AreSureOf : (number : ℕ) → List Channel → Type 0
AreSureOf n rows = AreRowsOf IsSureRow n rows

abbrev pub IsSureNumber : (number : ℕ) → Channels → Type 0
IsSureNumber n held = IsNumberSo IsSureRow n held

sure_lasts : Lasts IsSureRow (λ client. Unit {0})
sure_lasts = record {
  opened = λ row sure. sure;
  confirmed = λ row config sure. refl;
  given = λ client t held channel row may is of sure. sure;
}

any_side : {S : Type 0} (m : AssociationMeaning S) → KnowsSide m (λ client. Unit {0}) (λ a. Unit {0})
any_side m = record { before = λ held a held' b change known. tt; starts = λ now a wake b wake' h started known. tt }

module _ (n : ℕ) where
  pub cancelled_sure : (channels : List (ℕ × ChannelConfig)) (held : Channels) → IsSureNumber n held → IsSureNumber n (all_cancelled channels held)
  cancelled_sure channels held h = cancelled_so IsSureRow n channels held h

  pub changed_sure : {S : Type 0} (m : AssociationMeaning S) (held : Channels) (a : SctpStreams S) (held' : Channels) (b : SctpStreams S)
      → RowsChanged m held a held' b → IsSureNumber n held → IsSureNumber n held'
  changed_sure m held a held' b h sure =
      changed_so IsSureRow n (λ client. Unit {0}) sure_lasts m (λ a. Unit {0}) (any_side m) held a held' b h tt sure

  -- ---- a channel that was confirmed is not cancelled

  unsure_own : (id : ℕ) (rows : List Channel) → id ≡ n → AreSureOf n rows → is_unconfirmed id rows ≡ false
  unsure_own id [] is h = refl
  unsure_own id (row ∷ rows) is h = by (row.id == id) refl (unsure_own id rows is h.1)
    where
      sure : (b : Bool) → b ≡ true → (not b || is_unconfirmed id rows) ≡ is_unconfirmed id rows
      sure true e = refl
      sure false e = absurd (true≢false (sym e))

      by : (b : Bool) → (row.id == id) ≡ b → is_unconfirmed id rows ≡ false → ((b && not row.confirmed) || is_unconfirmed id rows) ≡ false
      by true e rest = sure row.confirmed (h.0 (eqb-true row.id id e ∙ is)) ∙ rest
      by false e rest = rest

  kept_one : (id : ℕ) (held : Channels) → IsSureNumber n held → has_channel n held.rows ≡ true
      → has_channel n (cancelled_if (is_unconfirmed id held.rows) id held).rows ≡ true
  kept_one id held h here = by (id == n) refl (is_unconfirmed id held.rows) refl
    where
      by : (a : Bool) → (id == n) ≡ a → (b : Bool) → is_unconfirmed id held.rows ≡ b → has_channel n (cancelled_if b id held).rows ≡ true
      by a e false f = here
      by true e true f = absurd (true≢false (sym f ∙ unsure_own id held.rows (eqb-true id n e) h.rows))
      by false e true f = has_without n id held.rows (eqb-false id n e) here

  pub sure_stays : (channels : List (ℕ × ChannelConfig)) (held : Channels) → IsSureNumber n held → has_channel n held.rows ≡ true
      → has_channel n (all_cancelled channels held).rows ≡ true
  sure_stays [] held h here = here
  sure_stays (channel ∷ rest) held h here =
      sure_stays rest (cancelled_if (is_unconfirmed channel.0 held.rows) channel.0 held)
      (cancelled_one IsSureRow n (is_unconfirmed channel.0 held.rows) channel.0 held h) (kept_one channel.0 held h here)

some_none : (n : ℕ) → Some n ≡ None → ⊥
some_none n h = cc

above_sure : (n least : ℕ) (rows : List Channel) → AreRising least rows → n < least → AreSureOf n rows
above_sure n least [] rising less = tt
above_sure n least (row ∷ rows) rising less =
    ((λ is. absurd (omega (arith, rising.0, less, is))), above_sure n (row.id + 1) rows rising.1 (omega (arith, rising.0, less)))

row_least : (n s least : ℕ) (rows : List Channel) → AreRising least rows → HasRowOf n s rows → least ≤ n
row_least n s least [] rising h = absurd h
row_least n s least (row ∷ rows) rising (inl h) = let same = h.0 in omega (arith, rising.0, same)
row_least n s least (row ∷ rows) rising (inr h) = let rest = row_least n s (row.id + 1) rows rising.1 h in omega (arith, rising.0, rest)

-- no row is over a stream that has none
pub over_none : (s : ℕ) (rows : List Channel) → over_rows s rows ≡ None → (n : ℕ) → HasRowOf n s rows → ⊥
over_none s [] none n h = h
over_none s (row ∷ rows) none n h = by (is_of_stream s row.stream) refl none h (λ e k. over_none s rows e n k)
  where
    by : (b : Bool) → is_of_stream s row.stream ≡ b → (if b then Some row.id else over_rows s rows) ≡ None → HasRowOf n s (row ∷ rows)
        → (over_rows s rows ≡ None → HasRowOf n s rows → ⊥) → ⊥
    by true e k here rest = some_none row.id k
    by false e k (inl here) rest = true≢false (sym (own_stream s row.stream here.1) ∙ e)
    by false e k (inr here) rest = rest k here

pub has_none : (f : Option ℕ → Bool → Type 0) (s : ℕ) (rows : List Channel) → over_rows s rows ≡ None → HasOver f s rows → ⊥
has_none f s [] none h = h
has_none f s (row ∷ rows) none h = by (is_of_stream s row.stream) refl none h (λ e k. has_none f s rows e k)
  where
    by : (b : Bool) → is_of_stream s row.stream ≡ b → (if b then Some row.id else over_rows s rows) ≡ None → HasOver f s (row ∷ rows)
        → (over_rows s rows ≡ None → HasOver f s rows → ⊥) → ⊥
    by true e k here rest = some_none row.id k
    by false e k (inl here) rest = true≢false (sym (own_stream s row.stream here.0) ∙ e)
    by false e k (inr here) rest = rest k here

pub shared : (s : ℕ) (row : Channel) (rows : List Channel) → row.stream ≡ Some s → IsUnshared row.stream (map numbered_stream rows) → over_rows s rows ≡ None
shared s row rows is apart = subst (λ (o : Option ℕ). IsUnshared o (map numbered_stream rows)) is apart

-- the row of a channel that is found over a stream
pub row_over : (n s : ℕ) (rows : List Channel) → over_rows s rows ≡ Some n → HasRowOf n s rows
row_over n s [] h = absurd (let e : None ≡ Some n = h in cc)
row_over n s (row ∷ rows) h = by (is_of_stream s row.stream) refl h (row_over n s rows)
  where
    placed : (o : Option ℕ) → row.stream ≡ o → is_of_stream s o ≡ true → row.stream ≡ Some s
    placed None is e = absurd (true≢false (sym e))
    placed (Some t) is e = is ∙ ap (λ (k : ℕ). Some k) (eqb-true t s e)

    by : (b : Bool) → is_of_stream s row.stream ≡ b → (if b then Some row.id else over_rows s rows) ≡ Some n
        → (over_rows s rows ≡ Some n → HasRowOf n s rows) → HasRowOf n s (row ∷ rows)
    by true e k rest = inl ((let f : Some row.id ≡ Some n = k in cc), placed row.stream refl e)
    by false e k rest = inr (rest k)

-- a confirmed row over a stream is that of its number
pub sure_over : (f : Option ℕ → Bool → Type 0) (n s least : ℕ) (rows : List Channel) → ((o : Option ℕ) (b : Bool) → f o b → b ≡ true) → AreRising least rows
    → AreUnshared (map numbered_stream rows) → HasOver f s rows → HasRowOf n s rows → AreSureOf n rows
sure_over f n s least [] sure rising apart over here = tt
sure_over f n s least (row ∷ rows) sure rising apart (inl over) (inl here) =
    ((λ is. sure row.negotiated row.confirmed over.1), above_sure n (row.id + 1) rows rising.1 (let same = here.0 in omega (arith, same)))
sure_over f n s least (row ∷ rows) sure rising apart (inl over) (inr here) = absurd (over_none s rows (shared s row rows over.0 apart.0) n here)
sure_over f n s least (row ∷ rows) sure rising apart (inr over) (inl here) = absurd (has_none f s rows (shared s row rows here.1 apart.0) over)
sure_over f n s least (row ∷ rows) sure rising apart (inr over) (inr here) =
    let up = row_least n s (row.id + 1) rows rising.1 here in
    ((λ is. absurd (omega (arith, up, is))), sure_over f n s (row.id + 1) rows sure rising.1 apart.1 over here)
