-- A live stream stays so by every call but the polls, and what is written to it is of its generation.
use Rattle.std.proofs.Common.{◌≡◌, ℕ, ◌==◌, Bool, true, false, List, [], ◌∷◌, Option, Some, None, Result, Ok, refl, sym, ap, ◌∙◌}
use Rattle.std.specs.Prelude.{if◌then◌else◌}
use Rattle.std.specs.declared.alloc.AllocError.{AllocError}
use Rattle.std.proofs.lemmas.Bool.{eqb-true}
use Rattle.rtc_ready.specs.Signals.{Signals}
use Rattle.rtc_wire.specs.declared.channel_config.ChannelConfig.{ChannelConfig}
use Rattle.rtc_parts.specs.AssociationMeaning.{AssociationMeaning}
use Rattle.rtc_sctp_entries.specs.declared.stream_entry_state.StreamEntryState.{StreamEntryState}
use Rattle.rtc_sctp_entries.specs.declared.stream_entry.StreamEntry.{StreamEntry}
use Rattle.rtc_sctp_entries.specs.Entries.{stream_generation, fits_generation}
use Rattle.rtc_sctp_values.specs.declared.sctp_error.SctpError.{SctpError}
use Rattle.rtc_sctp_values.specs.InitHalves.{InitHalves}
use Rattle.rtc_sctp.specs.Streams.{SctpStreams}
use Rattle.rtc_sctp.specs.Calls.{Inits, Shuts, is_ended, WrittenIf, WritesStream, can_write, is_current, InputIf, TakesInput, TakesTimeout}
use Rattle.rtc_sctp.specs.StreamCalls.{OpensOver, OpensStream, ClosesDataStream, SetsThreshold}
use Rattle.rtc_sctp_laws.specs.StreamUses.{IsLiveIn, IsLive}
use Rattle.rtc_sctp_laws.proofs.LivingEntries.{live_is, first_live, others_live}
use Rattle.rtc_sctp_laws.proofs.OneOpen.{of_live}
use Rattle.rtc_sctp_laws.proofs.OneCalls.{writes_one, timeout_one, over_one, opens_one, closes_one, threshold_one}
use Rattle.rtc_sctp_laws.proofs.CallUses.{inits_entries, shut_entries}

-- the generation that its entry keeps
live_generation : (s g : ℕ) (es : List StreamEntry) → IsLive s g es → stream_generation s es ≡ Some g
live_generation s g [] h = absurd h
live_generation s g (x ∷ es) h = by (x.id == s) refl (live_generation s g es)
  where
    by : (b : Bool) → (x.id == s) ≡ b → (IsLive s g es → stream_generation s es ≡ Some g) → (if b then x.generation else stream_generation s es) ≡ Some g
    by true c rest = (first_live s g x es c h).1.1
    by false c rest = rest (others_live s g x es c h)

number_of : (o : Option ℕ) (n g : ℕ) → fits_generation o n ≡ true → o ≡ Some g → n ≡ g
number_of None n g h e = absurd (none_some e)
  where
    none_some : None ≡ Some g → ⊥
    none_some f = cc
number_of (Some k) n g h e = sym (eqb-true k n h) ∙ own e
  where
    own : Some k ≡ Some g → k ≡ g
    own f = cc

module _ {S : Type 0} (m : AssociationMeaning S) where
  written_to : (b c : Bool) (id : ℕ) (binary : Bool) (bytes : List ℕ) (p : SctpStreams S) (n : ℕ) (q : SctpStreams S) → WrittenIf m b c id binary bytes p (Ok n) q → c ≡ true
  written_to false c id binary bytes p n q h = absurd (let e = h.0 in cc)
  written_to true false id binary bytes p n q h = absurd (let e = h.0 in cc)
  written_to true true id binary bytes p n q h = refl

  pub writes_own : (id : ℕ) (binary : Bool) (bytes : List ℕ) (p : SctpStreams S) (n : ℕ) (q : SctpStreams S) (g : ℕ) → WritesStream m id binary bytes p (Ok n) q → IsLive id g p.entries → m.generation p.association id ≡ g
  writes_own id binary bytes p n q g h live =
      number_of (stream_generation id p.entries) (m.generation p.association id) g (written_to (can_write m id p) (is_current m id p) id binary bytes p n q h) (live_generation id g p.entries live)

  pub writes_live : (id : ℕ) (binary : Bool) (bytes : List ℕ) (p : SctpStreams S) (r : Result ℕ SctpError) (q : SctpStreams S) (s g : ℕ) → WritesStream m id binary bytes p r q → IsLive s g p.entries → IsLive s g q.entries
  writes_live id binary bytes p r q s g h k = writes_one m (IsLiveIn g) (of_live g) s id binary bytes p r q h k

  pub input_entries : (b : Bool) (now : ℕ) (bytes : List ℕ) (p : SctpStreams S) (r : Result (Unit {0}) AllocError) (q : SctpStreams S) → InputIf m b now bytes p r q → q.entries ≡ p.entries
  input_entries false now bytes p r q h = ap (λ (y : SctpStreams S). y.entries) h.1
  input_entries true now bytes p r q h = ap (λ (y : SctpStreams S). y.entries) h.1

  pub input_live : (now : ℕ) (bytes : List ℕ) (p : SctpStreams S) (r : Result (Unit {0}) AllocError) (q : SctpStreams S) (s g : ℕ) → TakesInput m now bytes p r q → IsLive s g p.entries → IsLive s g q.entries
  input_live now bytes p r q s g h k = live_is s g p.entries q.entries (input_entries (m.started p.association) now bytes p r q h) k

  pub timeout_live : (now : ℕ) (p : SctpStreams S) (wake : Signals) (r : Result (Unit {0}) AllocError) (q : SctpStreams S) (wake' : Signals) (s g : ℕ) → TakesTimeout m now p wake r q wake' → IsLive s g p.entries → IsLive s g q.entries
  timeout_live now p wake r q wake' s g h k = timeout_one m (IsLiveIn g) (of_live g) s now p wake r q wake' h k

  -- streams that are opened
  pub over_live : (st : StreamEntryState) (config : ChannelConfig) (p : S) (e : StreamEntry) (r : Result (Unit {0}) AllocError) (q : S) (e' : StreamEntry) (g : ℕ) → e.state ≡ st → OpensOver m st config p e r q e' → (e'.id ≡ e.id) × (IsLiveIn g e → IsLiveIn g e')
  over_live st config p e r q e' g is h = over_one m (IsLiveIn g) (of_live g) st config p e r q e' is h

  pub opens_live : (id : ℕ) (config : ChannelConfig) (p : SctpStreams S) (r : Result (Unit {0}) AllocError) (q : SctpStreams S) (s g : ℕ) → OpensStream m id config p r q → IsLive s g p.entries → IsLive s g q.entries
  opens_live id config p r q s g h k = opens_one m (IsLiveIn g) (of_live g) s id config p r q h k

  -- streams that are closed
  pub closes_live : (id : ℕ) (p : SctpStreams S) (r : Result (Unit {0}) AllocError) (q : SctpStreams S) (s g : ℕ) → ClosesDataStream m id p r q → IsLive s g p.entries → IsLive s g q.entries
  closes_live id p r q s g h k = closes_one m (IsLiveIn g) (of_live g) s id p r q h k

  pub threshold_live : (n : ℕ) (o : Option ℕ) (p q : SctpStreams S) (s g : ℕ) → SetsThreshold S n o p q → IsLive s g p.entries → IsLive s g q.entries
  threshold_live n o p q s g h k = threshold_one m (IsLiveIn g) (of_live g) s n o p q h k

  -- starts and ends
  pub starts_live : (client : Bool) (now max : ℕ) (snap : Option InitHalves) (p : SctpStreams S) (r : Result (Unit {0}) SctpError) (q : SctpStreams S) (s g : ℕ) → Inits m client now max snap p r q → IsLive s g p.entries → IsLive s g q.entries
  starts_live client now max snap p r q s g h k = live_is s g p.entries q.entries (inits_entries m client now max snap p r q h) k

  pub shuts_live : (p : SctpStreams S) (r : Result (Unit {0}) SctpError) (q : SctpStreams S) (s g : ℕ) → Shuts m p r q → IsLive s g p.entries → IsLive s g q.entries
  shuts_live p r q s g h k = live_is s g p.entries q.entries (shut_entries m (is_ended m p.association) p r q h) k
