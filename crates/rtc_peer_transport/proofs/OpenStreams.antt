-- A stream that is open has an entry.
use Rattle.std.proofs.Common.{◌≡◌, ◌<◌, ◌==◌, ◌&&◌, ◌||◌, ℕ, suc, Bool, true, false, List, [], ◌∷◌, length, get_or, Option, Some, None, refl, sym, ◌∙◌, arith}
use Rattle.std.specs.Prelude.{is_some, IsSome}
use Rattle.rtc_sctp_entries.specs.declared.stream_entry.StreamEntry.{StreamEntry}
use Rattle.rtc_sctp_entries.specs.Entries.{entry_place, has_open, is_open_state}
use Rattle.rtc_sctp_entries.proofs.OrderLemmas.{none_missing}
use Rattle.rtc_sctp.specs.Streams.{SctpStreams, is_established}
use Rattle.rtc_sctp.specs.Calls.{is_open_stream}

none_open : (id : ℕ) (es : List StreamEntry) → ((k : ℕ) (d : StreamEntry) → k < length es → (get_or es k d).id ≡ id → ⊥) → has_open id es ≡ false
none_open id [] none = refl
none_open id (x ∷ es) none = by (none_open id es (λ k d lt at. none (suc k) d (omega (arith, lt)) at)) (x.id == id) refl
  where
    by : has_open id es ≡ false → (here : Bool) → (x.id == id) ≡ here → ((here && is_open_state x.state) || has_open id es) ≡ false
    by rest true e = absurd (none 0 x (omega arith) (grind (arith, e)))
    by rest false e = rest

place_of : (id : ℕ) (es : List StreamEntry) (place : Option ℕ) → entry_place id es ≡ place → has_open id es ≡ true → is_some place ≡ true
place_of id es (Some place) e h = refl
place_of id es None e h = absurd (let no : true ≡ false = sym h ∙ none_open id es (none_missing id es e) in cc)

established_and : (a b : Bool) → (a && b) ≡ true → b ≡ true
established_and true b h = h
established_and false b h = cc (h)

pub open_has_entry : {S : Type 0} (id : ℕ) (p : SctpStreams S) → is_open_stream id p ≡ true → IsSome (entry_place id p.entries)
open_has_entry id p h = place_of id p.entries (entry_place id p.entries) refl (established_and (is_established p.state) (has_open id p.entries) h)
