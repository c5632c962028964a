-- In a settled pair that waits for nothing a channel that was confirmed and has a stream is open, or waits to be.
use Rattle.std.proofs.Common.{◌≡◌, ◌∙◌, ◌+◌, ◌≤◌, ◌==◌, ◌&&◌, ◌||◌, ◌∷◌, if◌then◌else◌, inl, inr, ℕ, Bool, true, false, true≢false, List, [], Option, Some, None, refl, sym, ap, subst, arith}
use Rattle.std.specs.Prelude.{is_some}
use Rattle.std.proofs.lemmas.Bool.{eqb-true}
use Rattle.rtc_assoc_state.specs.Contents.{Contents, is_started}
use Rattle.rtc_assoc_state.specs.PlainMeaning.{plain_meaning}
use Rattle.rtc_parts.specs.Draws.{Draws}
use Rattle.rtc_sctp_entries.specs.declared.stream_entry_state.StreamEntryState.{StreamEntryState}
use Rattle.rtc_sctp_entries.specs.declared.stream_entry_state.StreamEntryState.TheVariants.{AwaitOpen, AwaitConfig, AwaitDcepAck, Open, Closed}
use Rattle.rtc_sctp_entries.specs.declared.stream_entry.StreamEntry.{StreamEntry}
use Rattle.rtc_sctp_entries.specs.Entries.{has_open, is_open_awaited, is_open_state}
use Rattle.rtc_sctp.specs.Streams.{SctpStreams}
use Rattle.rtc_channels.specs.Channels.{AreRising, Channel, Channels}
use Rattle.rtc_channels.specs.Openings.{can_be_opened, can_open, channels_wake, is_progress_due}
use Rattle.rtc_peer_transport.specs.ChannelCalls.{stream_under}
use Rattle.rtc_peer_laws.specs.ChannelStreams.{AreNumberedChannels}
use Rattle.rtc_peer_laws.specs.Drained.{AreHeard, IsHeard}
use Rattle.rtc_peer_laws.proofs.ChannelsOver.{none_under, under_over, under_rows}
use Rattle.rtc_run_laws.specs.NewPairs.{IsNewPeer}
use Rattle.rtc_run_laws.specs.PlainPairs.{PlainPolled}
use Rattle.rtc_run_laws.specs.ConfirmedChannels.{HasConfig}
use Rattle.rtc_run_laws.specs.OwnOpenings.{HasEntryOf}
use Rattle.rtc_run_laws.specs.SettledPairs.{WaitsForAnswer}
use Rattle.rtc_run_laws.proofs.BegunRows.{AreSound, Awaits, HasGone, IsBegun, Stands}
use Rattle.rtc_run_laws.proofs.StandingVisits.{IsStanding}
use Rattle.rtc_run_laws.proofs.StandingEntries.{HasStanding, NoneClosed}
use Rattle.rtc_run_laws.proofs.NewPeers.{new_channels, new_entries}

no_some : (s : ℕ) → None ≡ Some s → ⊥
no_some s h = cc

some_is : (a b : ℕ) → Some a ≡ Some b → a ≡ b
some_is a b h = cc

-- ---- entries

-- the stream waits to be opened, or for the answer to its opening, or is open
pub data StandsAs (s : ℕ) (es : List StreamEntry) : Type 0 where
  Opening : HasEntryOf (λ entry. entry.state ≡ AwaitOpen) s es → StandsAs s es
  Unanswered : WaitsForAnswer s es → StandsAs s es
  IsOpen : has_open s es ≡ true → StandsAs s es

own_test : (n s : ℕ) → n ≡ s → (n == s) ≡ true
own_test n s h = grind (arith, h)

open_first : (n s : ℕ) (b c : Bool) → n ≡ s → b ≡ true → (((n == s) && b) || c) ≡ true
open_first n s b c same h = by (n == s) b (own_test n s same) h
  where
    by : (x y : Bool) → x ≡ true → y ≡ true → ((x && y) || c) ≡ true
    by true true e f = refl
    by true false e f = absurd (true≢false (sym f))
    by false y e f = absurd (true≢false (sym e))

open_later : (a c : Bool) → c ≡ true → (a || c) ≡ true
open_later true c h = refl
open_later false c h = h

later : (s : ℕ) (e : StreamEntry) (es : List StreamEntry) → StandsAs s es → StandsAs s (e ∷ es)
later s e es (Opening h) = Opening (inr h)
later s e es (Unanswered h) = Unanswered (inr h)
later s e es (IsOpen h) = IsOpen (open_later ((e.id == s) && is_open_state e.state) (has_open s es) h)

-- an entry whose opening is begun, of a stream that was heard
first : (a : Contents) (s : ℕ) (e : StreamEntry) (es : List StreamEntry) → e.id ≡ s → IsStanding e → IsHeard plain_meaning a e → StandsAs s (e ∷ es)
first a s e es same stands (inl opening) = Opening (inl (same, opening.0))
first a s e es same stands (inr it) = by e.state refl
  where
    by : (st : StreamEntryState) → e.state ≡ st → StandsAs s (e ∷ es)
    by AwaitOpen is = absurd (true≢false (sym (ap is_open_awaited is) ∙ it.4))
    by AwaitConfig is = absurd (true≢false (sym (stands.1 is) ∙ it.0))
    by AwaitDcepAck is = Unanswered (inl (same, is))
    by Open is = IsOpen (open_first e.id s (is_open_state e.state) (has_open s es) same (ap is_open_state is))
    by Closed is = absurd (stands.0 is)

pub stands_as : (a : Contents) (s : ℕ) (es : List StreamEntry) → AreHeard plain_meaning a es → HasStanding s es → StandsAs s es
stands_as a s [] heard h = absurd h
stands_as a s (e ∷ es) heard (inl h) = first a s e es h.0 h.1 heard.0
stands_as a s (e ∷ es) heard (inr h) = later s e es (stands_as a s es heard.1 h)

-- ---- rows

-- the row of a channel that has a config, and a stream, can be opened
config_least : (c least : ℕ) (rows : List Channel) → AreRising least rows → HasConfig c rows → least ≤ c
config_least c least [] h k = absurd k
config_least c least (row ∷ rows) h (inl k) = omega (arith, h.0, k.0)
config_least c least (row ∷ rows) h (inr k) = let up = config_least c (row.id + 1) rows h.1 k in omega (arith, h.0, up)

both_some : (s : ℕ) (o : Option ℕ) (b : Bool) → o ≡ Some s → b ≡ true → (is_some o && b) ≡ true
both_some s None b h k = absurd (no_some s h)
both_some s (Some t) b h k = k

or_first : (a b : Bool) → a ≡ true → (a || b) ≡ true
or_first true b h = refl
or_first false b h = absurd (true≢false (sym h))

opens_soon : (c s least : ℕ) (rows : List Channel) → AreRising least rows → HasConfig c rows → under_rows c rows ≡ Some s → can_open rows ≡ true
opens_soon c s least [] h k under = absurd k
opens_soon c s least (row ∷ rows) h (inl k) under =
    or_first (can_be_opened row) (can_open rows) (both_some s row.stream (is_some row.config) (own (row.id == c) (own_test row.id c k.0) under) k.1)
  where
    own : (b : Bool) → b ≡ true → (if b then row.stream else under_rows c rows) ≡ Some s → row.stream ≡ Some s
    own true e f = f
    own false e f = absurd (true≢false (sym e))
opens_soon c s least (row ∷ rows) h (inr k) under =
    open_later (can_be_opened row) (can_open rows) (opens_soon c s (row.id + 1) rows h.1 k (other (row.id == c) refl under))
  where
    other : (b : Bool) → (row.id == c) ≡ b → (if b then row.stream else under_rows c rows) ≡ Some s → under_rows c rows ≡ Some s
    other true e f = let up = config_least c (row.id + 1) rows h.1 k in let same = eqb-true row.id c e in absurd (omega (arith, up, same))
    other false e f = f

none_due : (b : Bool) → ◌≡◌ {A = Option ℕ} (if b then Some 0 else None) None → b ≡ true → ⊥
none_due true h k = let clash : ◌≡◌ {A = Option ℕ} (Some 0) None = h in cc
none_due false h k = true≢false (sym k)

both : (a b c : Bool) → a ≡ true → b ≡ true → (a && (b || c)) ≡ true
both true true c e f = refl
both true false c e f = absurd (true≢false (sym f))
both false b c e f = absurd (true≢false (sym e))

-- ---- a channel

-- where nothing is due for channels, the stream of one that was confirmed has an entry
pub confirmed_stands : (c s : ℕ) (held : Channels) (p : SctpStreams Contents) → AreNumberedChannels held → is_started p.association ≡ true
    → channels_wake plain_meaning held p ≡ None → IsBegun c held p → stream_under c held ≡ Some s → HasStanding s p.entries
confirmed_stands c s held p numbers started idle (HasGone gone) under = absurd (no_some s (sym (none_under c held.rows gone.1) ∙ under))
confirmed_stands c s held p numbers started idle (Awaits h) under =
    absurd
    (none_due (is_progress_due plain_meaning held p) idle
    (both (is_started p.association) (can_open held.rows) _ started (opens_soon c s 0 held.rows numbers.0 h under)))
confirmed_stands c s held p numbers started idle (Stands t over h) under =
    subst (λ (n : ℕ). HasStanding n p.entries) (some_is t s (sym (under_over t c held numbers.0 over) ∙ under)) h

-- ---- new peers

module _ {N : Type 0} (draws : Draws N) where
  pub new_sound : (p : PlainPolled N) → IsNewPeer draws p.core → AreSound p.core.channels p.core.sctp
  new_sound p h = record {
    numbers = subst (λ (x : Channels). AreNumberedChannels x) (sym (new_channels draws p h)) (tt, tt, tt);
    before = λ e. subst (λ (l : List StreamEntry). NoneClosed l) (sym (new_entries draws p h)) tt;
  }
