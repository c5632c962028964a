-- The row of a channel for which no stream was negotiated out-of-band, over a stream: it is of this side, if it is that of an opening from here, or of a token.
use Rattle.std.proofs.Common.{◌≡◌, ◌&&◌, ◌||◌, ◌==◌, inl, inr, ℕ, Bool, true, false, true≢false, List, [], ◌∷◌, map, Option, Some, None, refl, sym, arith}
use Rattle.std.specs.Prelude.{is_some}
use Rattle.rtc_channels.specs.Allocation.{AreUnshared}
use Rattle.rtc_channels.specs.Channels.{Channel, numbered_stream}
use Rattle.rtc_run_laws.specs.ChannelUses.{is_negotiated}
use Rattle.rtc_run_laws.specs.OwnOpenings.{IsOfSide}
use Rattle.rtc_run_laws.proofs.OwnedRows.{HasOwner, IsOwner}
use Rattle.rtc_run_laws.proofs.OwnNumbers.{AreOwnOf}
use Rattle.rtc_run_laws.proofs.StayingStreams.{HasRowOf}
use Rattle.rtc_run_laws.proofs.SureNumbers.{has_none, over_none, shared}

own_number : (n k : ℕ) → n ≡ k → (n == k) ≡ true
own_number n k h = grind (arith, h)

-- no row of a number has a stream that was negotiated
none_own : (n : ℕ) (row : Channel) (rows : List Channel) → row.id ≡ n → is_negotiated n (row ∷ rows) ≡ false → row.negotiated ≡ None
none_own n row rows is none = by (row.id == n) (own_number row.id n is) row.negotiated refl none
  where
    by : (b : Bool) → b ≡ true → (o : Option ℕ) → row.negotiated ≡ o → ((b && is_some o) || is_negotiated n rows) ≡ false → row.negotiated ≡ None
    by false e o f k = absurd (true≢false (sym e))
    by true e None f k = f
    by true e (Some t) f k = absurd (true≢false k)

none_rest : (n : ℕ) (row : Channel) (rows : List Channel) → is_negotiated n (row ∷ rows) ≡ false → is_negotiated n rows ≡ false
none_rest n row rows none = by ((row.id == n) && is_some row.negotiated) none
  where
    by : (b : Bool) → (b || is_negotiated n rows) ≡ false → is_negotiated n rows ≡ false
    by true k = absurd (true≢false k)
    by false k = k

-- the row of an opening from here
pub owner_unsettled : (c : Bool) (n s : ℕ) (rows : List Channel) → AreUnshared (map numbered_stream rows) → HasOwner c s rows → HasRowOf n s rows
    → is_negotiated n rows ≡ false → IsOfSide c s
owner_unsettled c n s [] apart over here none = absurd over
owner_unsettled c n s (row ∷ rows) apart (inl over) (inl here) none = over.1.0 (none_own n row rows here.0 none)
owner_unsettled c n s (row ∷ rows) apart (inl over) (inr here) none = absurd (over_none s rows (shared s row rows over.0 apart.0) n here)
owner_unsettled c n s (row ∷ rows) apart (inr over) (inl here) none =
    absurd (has_none (IsOwner c s) s rows (shared s row rows here.1 apart.0) over)
owner_unsettled c n s (row ∷ rows) apart (inr over) (inr here) none =
    owner_unsettled c n s rows apart.1 over here (none_rest n row rows none)

-- the row of a number of a token
pub token_unsettled : (c : Bool) (n s : ℕ) (rows : List Channel) → AreOwnOf c n rows → HasRowOf n s rows → is_negotiated n rows ≡ false → IsOfSide c s
token_unsettled c n s [] own here none = absurd here
token_unsettled c n s (row ∷ rows) own (inl here) none = own.0 here.0 s here.1 (none_own n row rows here.0 none)
token_unsettled c n s (row ∷ rows) own (inr here) none = token_unsettled c n s rows own.1 here (none_rest n row rows none)
