-- A side of which all entries of streams were heard has no whole message unread of an announced channel.
use Rattle.std.proofs.Common.{◌≡◌, ◌∙◌, ◌⊎◌, ◌∷◌, ◌==◌, ◌&&◌, ◌||◌, if◌then◌else◌, ℕ, Bool, true, false, true≢false, List, [], Some, None, inl, inr, refl, sym, ap, subst}
use Rattle.std.proofs.lemmas.Bool.{eqb-true}
use Rattle.rtc_parts.specs.AssociationMeaning.{AssociationMeaning}
use Rattle.rtc_parts.specs.DtlsState.{DtlsState, can_send}
use Rattle.rtc_plain_dtls.specs.Contents.{DtlsContents}
use Rattle.rtc_plain_dtls.specs.PlainMeaning.{plain_dtls}
use Rattle.rtc_assoc_state.specs.Contents.{Contents, generation_of, has_unread}
use Rattle.rtc_assoc_state.specs.PlainMeaning.{plain_meaning}
use Rattle.rtc_parts.specs.Draws.{Draws}
use Rattle.rtc_sctp_entries.specs.declared.stream_entry.StreamEntry.{StreamEntry}
use Rattle.rtc_sctp_entries.specs.Entries.{has_open, is_open_state}
use Rattle.rtc_sctp.specs.Streams.{SctpStreams}
use Rattle.rtc_sctp_laws.specs.StreamMessages.{StreamMessage}
use Rattle.rtc_sctp_laws.specs.StreamUses.{IsLive, IsLiveIn, OneAtMost, entries_of}
use Rattle.rtc_peer_core.specs.declared.phase.Phase.TheVariants.{Closed}
use Rattle.rtc_peer_laws.specs.ChannelStreams.{IsGone}
use Rattle.rtc_peer_laws.specs.Drained.{AreHeard, IsHeard}
use Rattle.rtc_peer_polling.proofs.RestingStages.{WaitsOver}
use Rattle.rtc_run_laws.specs.PlainPairs.{PlainPolled, plain_over}
use Rattle.rtc_run_laws.proofs.StepsExchange.{plain_over_laws}
use Rattle.rtc_run_laws.specs.ChannelUses.{ChannelUse}
use Rattle.rtc_run_laws.proofs.UsesTold.{HasGone, IsOver, Lives, StandsSo, UseStands}
use Rattle.rtc_run_laws.proofs.HeardSides.{some_is}

-- ---- entries

both_true : (a b : Bool) → (a && b) ≡ true → (a ≡ true) × (b ≡ true)
both_true true true h = (refl, refl)
both_true true false h = absurd (true≢false (sym h))
both_true false b h = absurd (true≢false (sym h))

heard_open : {S : Type 0} (m : AssociationMeaning S) (a : S) (s : ℕ) (entries : List StreamEntry) → AreHeard m a entries → has_open s entries ≡ true
    → m.has_unread a s (m.generation a s) ≡ false
heard_open m a s [] h e = absurd (true≢false (sym e))
heard_open m a s (entry ∷ entries) h e = by ((entry.id == s) && is_open_state entry.state) refl e (heard_open m a s entries h.1)
  where
    own : entry.id ≡ s → is_open_state entry.state ≡ true → IsHeard m a entry → m.has_unread a s (m.generation a s) ≡ false
    own same opened (inl waits) = absurd (true≢false (sym opened ∙ ap is_open_state waits.0))
    own same opened (inr heard) = ap (λ (n : ℕ). m.has_unread a n (m.generation a n)) (sym same) ∙ heard.2

    by : (b : Bool) → ((entry.id == s) && is_open_state entry.state) ≡ b → (b || has_open s entries) ≡ true
        → (has_open s entries ≡ true → m.has_unread a s (m.generation a s) ≡ false) → m.has_unread a s (m.generation a s) ≡ false
    by true f k rest = let two = both_true (entry.id == s) (is_open_state entry.state) f in own (eqb-true entry.id s two.0) two.1 h.0
    by false f k rest = rest k

-- a live stream is open
pub live_open : (s g : ℕ) (entries : List StreamEntry) → IsLive s g entries → has_open s entries ≡ true
live_open s g [] h = absurd h
live_open s g (entry ∷ entries) h = by (entry.id == s) h (live_open s g entries)
  where
    first : (l : List StreamEntry) → OneAtMost ⊥ (IsLiveIn g) (entry ∷ l) → is_open_state entry.state ≡ true
    first [] k = ap is_open_state k.0
    first (other ∷ l) k = absurd k

    or_left : (a b : Bool) → a ≡ true → (a || b) ≡ true
    or_left true b e = refl
    or_left false b e = absurd (true≢false (sym e))

    or_right : (a b : Bool) → b ≡ true → (a || b) ≡ true
    or_right true b e = refl
    or_right false b e = e

    by : (b : Bool) → OneAtMost ⊥ (IsLiveIn g) (if b then entry ∷ entries_of s entries else entries_of s entries)
        → (IsLive s g entries → has_open s entries ≡ true) → ((b && is_open_state entry.state) || has_open s entries) ≡ true
    by true k rest = or_left (is_open_state entry.state) (has_open s entries) (first (entries_of s entries) k)
    by false k rest = rest k

-- ---- sides

module _ {N : Type 0} (draws : Draws N) where
  pub waits_none : (s : SctpStreams Contents) (d : DtlsState DtlsContents) → WaitsOver (plain_over draws) (plain_over_laws draws) s d
      → can_send plain_dtls d ≡ true → s.pushed ≡ None
  waits_none s d (inl h) e = h.1
  waits_none s d (inr h) e = absurd (true≢false (sym e ∙ h.4))

  stands_heard : (q : PlainPolled N) (c s t g : ℕ) (got : List (Bool × List ℕ)) (rest : List StreamMessage) → s ≡ t
      → AreHeard plain_meaning q.core.sctp.association q.core.sctp.entries → (q.core.phase ≡ Closed → ⊥) → StandsSo (plain_over draws) c s g got rest q
      → IsGone c q.core.channels ⊎ (has_unread q.core.sctp.association t (generation_of q.core.sctp.association t) ≡ false)
  stands_heard q c s t g got rest same are live (Lives lives is) =
      inr
      (heard_open plain_meaning q.core.sctp.association t q.core.sctp.entries are
      (live_open t g q.core.sctp.entries (subst (λ (n : ℕ). IsLive n g q.core.sctp.entries) same lives.1)))
  stands_heard q c s t g got rest same are live (HasGone gone past k) = inl gone
  stands_heard q c s t g got rest same are live (IsOver closed k) = absurd (live closed)

  pub use_heard : (written read : List StreamMessage) (q : PlainPolled N) (x : ChannelUse) (s : ℕ) → x.stream ≡ Some s
      → AreHeard plain_meaning q.core.sctp.association q.core.sctp.entries → (q.core.phase ≡ Closed → ⊥) → UseStands (plain_over draws) written read q x
      → IsGone x.channel q.core.channels ⊎ (has_unread q.core.sctp.association s (generation_of q.core.sctp.association s) ≡ false)
  use_heard written read q x s of are live u = by x.rolled_back refl
    where
      by : (b : Bool) → x.rolled_back ≡ b
          → IsGone x.channel q.core.channels ⊎ (has_unread q.core.sctp.association s (generation_of q.core.sctp.association s) ≡ false)
      by true e = inl (u.undone e).gone
      by false e =
          let k = u.kept e in
          stands_heard q x.channel k.stream s x.generation x.got k.rest (some_is k.stream s (sym k.stream_is ∙ of)) are live k.stands
