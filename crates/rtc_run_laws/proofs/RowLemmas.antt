-- The one row of a stream, and what a peer without memory or one that is closed is.
use Rattle.std.proofs.Common.{◌≡◌, ◌∙◌, ◌<◌, ◌-◌, ◌^◌, ◌==◌, ◌∷◌, if◌then◌else◌, ℕ, Bool, true, false, true≢false, List, [], map, Option, Some, None, Result, Ok, refl, sym, ap, subst, arith}
use Rattle.std.specs.Prelude.{is_some}
use Rattle.std.proofs.lemmas.Bool.{eqb-true}
use Rattle.rtc_sctp_entries.specs.declared.stream_entry.StreamEntry.{StreamEntry}
use Rattle.rtc_sctp_entries.specs.Entries.{config_or_fresh, stream_config}
use Rattle.rtc_sctp_laws.specs.StreamUses.{entries_of}
use Rattle.rtc_channels.specs.Allocation.{AreUnshared, IsUnshared}
use Rattle.rtc_channels.specs.Channels.{AreBelow, Channel, is_of_stream, numbered_stream}
use Rattle.rtc_peer_core.specs.declared.phase.Phase.{Phase}
use Rattle.rtc_peer_core.specs.declared.phase.Phase.TheVariants.{Closed}
use Rattle.rtc_peer_core.specs.declared.rtc_error.RtcError.{RtcError}
use Rattle.rtc_peer_core.specs.Meanings.{Meanings}
use Rattle.rtc_peer_transport.specs.declared.output.Output.{Output}
use Rattle.rtc_peer_transport.specs.declared.output.Output.TheVariants as outputs
use Rattle.rtc_peer_transport.specs.declared.polled_peer.PolledPeer.{PolledPeer}
use Rattle.rtc_peer_polling.specs.Walk.{PollsPeer, PollsPeerFrom}
use Rattle.rtc_peer_laws.proofs.ChannelsOver.{over_rows, under_rows}
use Rattle.rtc_peer_laws.specs.KeptChannels.{IsSettledStream}

no_some : (c : ℕ) → None ≡ Some c → ⊥
no_some c h = cc

some_is : (a b : ℕ) → Some a ≡ Some b → a ≡ b
some_is a b h = cc

pub own_stream : (s : ℕ) (o : Option ℕ) → o ≡ Some s → is_of_stream s o ≡ true
own_stream s None h = absurd (no_some s h)
own_stream s (Some t) h = let same = some_is t s h in grind (arith, same)

-- a channel's stream is found over it
pub placed_over : (s c : ℕ) (rows : List Channel) → under_rows c rows ≡ Some s → over_rows s rows ≡ None → ⊥
placed_over s c [] h k = no_some s h
placed_over s c (row ∷ rows) h k = by (row.id == c) h (is_of_stream s row.stream) refl k (placed_over s c rows)
  where
    some_none : (n : ℕ) → Some n ≡ None → ⊥
    some_none n e = cc

    by : (a : Bool) → (if a then row.stream else under_rows c rows) ≡ Some s → (b : Bool) → is_of_stream s row.stream ≡ b
        → (if b then Some row.id else over_rows s rows) ≡ None → (under_rows c rows ≡ Some s → over_rows s rows ≡ None → ⊥) → ⊥
    by a e true f l rest = some_none row.id l
    by true e false f l rest = true≢false (sym (own_stream s row.stream e) ∙ f)
    by false e false f l rest = rest e l

-- no two channels have one stream
pub one_over : (s c d : ℕ) (rows : List Channel) → AreUnshared (map numbered_stream rows) → under_rows c rows ≡ Some s
    → over_rows s rows ≡ Some d → d ≡ c
one_over s c d [] apart h k = absurd (no_some s h)
one_over s c d (row ∷ rows) apart h k = by (row.id == c) refl h (is_of_stream s row.stream) refl k (one_over s c d rows apart.1)
  where
    by : (a : Bool) → (row.id == c) ≡ a → (if a then row.stream else under_rows c rows) ≡ Some s → (b : Bool) → is_of_stream s row.stream ≡ b
        → (if b then Some row.id else over_rows s rows) ≡ Some d → (under_rows c rows ≡ Some s → over_rows s rows ≡ Some d → d ≡ c) → d ≡ c
    by true i e true f l rest = sym (some_is row.id d l) ∙ eqb-true row.id c i
    by true i e false f l rest = absurd (true≢false (sym (own_stream s row.stream e) ∙ f))
    by false i e false f l rest = rest e l
    by false i e true f l rest = absurd (shared row.stream refl f apart.0)
      where
        shared : (o : Option ℕ) → row.stream ≡ o → is_of_stream s o ≡ true → IsUnshared o (map numbered_stream rows) → ⊥
        shared None j f u = true≢false (sym f)
        shared (Some t) j f u =
            placed_over s c rows e (subst (λ (n : ℕ). over_rows n rows ≡ None) (eqb-true t s f) u)

-- the number of a channel that is found was given
pub over_below : (bound s c : ℕ) (rows : List Channel) → AreBelow bound rows → over_rows s rows ≡ Some c → c < bound
over_below bound s c [] below h = absurd (no_some c h)
over_below bound s c (row ∷ rows) below h = by (is_of_stream s row.stream) h (over_below bound s c rows below.1)
  where
    by : (b : Bool) → (if b then Some row.id else over_rows s rows) ≡ Some c → (over_rows s rows ≡ Some c → c < bound) → c < bound
    by true k rest = let same = some_is row.id c k in let low = below.0 in omega (arith, same, low)
    by false k rest = rest k

-- what the config of a stream tells that both ends settled
pub settled_config : (s : ℕ) (entries : List StreamEntry) → IsSettledStream (entries_of s entries)
    → is_some (config_or_fresh (stream_config s entries)).negotiated ≡ true
settled_config s [] h = absurd h
settled_config s (entry ∷ entries) h = by (entry.id == s) refl h (settled_config s entries)
  where
    first : (b : Bool) → b ≡ true → is_some (config_or_fresh entry.config).negotiated ≡ true
        → is_some (config_or_fresh (if b then entry.config else stream_config s entries)).negotiated ≡ true
    first true e k = k
    first false e k = absurd (true≢false (sym e))

    by : (b : Bool) → (entry.id == s) ≡ b → IsSettledStream (if b then entry ∷ entries_of s entries else entries_of s entries)
        → (IsSettledStream (entries_of s entries) → is_some (config_or_fresh (stream_config s entries)).negotiated ≡ true)
        → is_some (config_or_fresh (if b then entry.config else stream_config s entries)).negotiated ≡ true
    by true e k rest = k
    by false e k rest = rest k

module _ {I D S M E X T W N : Type 0} (m : Meanings I D S M E X T W N) where
  -- a closed peer that is polled answers a timeout, and stays closed
  pub closed_stays : (p : PolledPeer I D S M N) (answer : Result (Output E) RtcError) (q : PolledPeer I D S M N) → p.core.phase ≡ Closed
      → PollsPeer m p answer q → (answer ≡ Ok (outputs.Timeout (2 ^ 64 - 1))) × (q.core.phase ≡ Closed)
  closed_stays p answer q closed h =
      let rests = subst (λ (phase : Phase). PollsPeerFrom m phase p answer q) closed h in
      (rests.0, ap (λ (x : PolledPeer I D S M N). x.core.phase) rests.1 ∙ closed)
