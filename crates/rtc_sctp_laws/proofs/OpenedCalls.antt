-- A stream that a call other than a poll leaves open in-band was so before.
use Rattle.std.proofs.Common.{◌≡◌, ◌&&◌, ℕ, Bool, true, false, true≢false, List, Option, Some, None, Result, Ok, Err, refl, sym, ap, subst, ◌∙◌}
use Rattle.std.specs.Prelude.{slice_set, is_some}
use Rattle.std.specs.declared.alloc.AllocError.{AllocError}
use Rattle.rtc_ready.specs.Signals.{Signals}
use Rattle.rtc_wire.specs.declared.channel_config.ChannelConfig.{ChannelConfig}
use Rattle.rtc_parts.specs.AssociationMeaning.{AssociationMeaning}
use Rattle.rtc_sctp_entries.specs.declared.asked.Asked.{Asked}
use Rattle.rtc_sctp_entries.specs.declared.asked.Asked.TheVariants as did
use Rattle.rtc_sctp_entries.specs.declared.stream_entry_state.StreamEntryState.{StreamEntryState}
use Rattle.rtc_sctp_entries.specs.declared.stream_entry_state.StreamEntryState.TheVariants.{AwaitOpen, AwaitConfig, AwaitDcepAck, Open, Closed}
use Rattle.rtc_sctp_entries.specs.declared.stream_entry.StreamEntry.{StreamEntry}
use Rattle.rtc_sctp_entries.specs.Entries.{entry_place, is_out_of_band, marked_entry, new_entry, new_place, unclosed}
use Rattle.rtc_sctp.specs.declared.rtc_sctp_state.RtcSctpState.{RtcSctpState}
use Rattle.rtc_sctp.specs.declared.rtc_sctp_state.RtcSctpState.TheVariants.{Uninited, AwaitRemoteAssociation, AwaitAssociationEstablished, Established}
use Rattle.rtc_sctp_values.specs.declared.sctp_error.SctpError.{SctpError}
use Rattle.rtc_sctp.specs.Streams.{SctpStreams}
use Rattle.rtc_sctp.specs.Calls.{WritesStream, can_write, is_current, TimedBy, TakesTimeout}
use Rattle.rtc_sctp.specs.StreamCalls.{ConfigBy, TakesConfig, Declined, Answered, OpensAwaiting, OpensOver, OpensAt, OpensStream, ClosesAt, ClosesDataStream, SetsThreshold}
use Rattle.rtc_sctp_laws.specs.StreamUses.{HasOpenInBand, IsOpenInBand}
use Rattle.rtc_sctp_laws.proofs.OpeningEntries.{open_insert, open_is, open_set, open_unclosed}
use Rattle.rtc_sctp_laws.proofs.LiveCalls.{over_live}
use Rattle.rtc_sctp_laws.proofs.OneCalls.{written_entries}

marked_opened : (o : Option ℕ) (e e' : StreamEntry) → e' ≡ marked_entry e → IsOpenInBand o e' → IsOpenInBand o e
marked_opened o e e' h k = subst (λ (y : StreamEntry). IsOpenInBand o y) h k

awaiting_open : AwaitOpen ≡ Open → ⊥
awaiting_open h = cc

first_true : (a b : Bool) → (a && b) ≡ true → a ≡ true
first_true true b h = refl
first_true false b h = absurd (true≢false (sym h))

-- a config that both ends settled opens no stream in-band
config_opened : (answer : Asked) (config : ChannelConfig) (e : StreamEntry) (r : Result (Unit {0}) AllocError) (e' : StreamEntry) (o : Option ℕ)
    → is_some config.negotiated ≡ true → ConfigBy answer config e r e' → IsOpenInBand o e' → IsOpenInBand o e
config_opened did.Done config e (Ok x) e' o out h k = absurd (true≢false (sym out ∙ subst (λ (y : StreamEntry). is_out_of_band y ≡ false) h k.2))
config_opened did.Done config e (Err x) e' o out h k = absurd h
config_opened did.Refused config e (Ok x) e' o out h k = marked_opened o e e' h k
config_opened did.Refused config e (Err x) e' o out h k = absurd h
config_opened did.OutOfMemory config e (Ok x) e' o out h k = absurd h
config_opened did.OutOfMemory config e (Err x) e' o out h k = subst (λ (y : StreamEntry). IsOpenInBand o y) h k

module _ {S : Type 0} (m : AssociationMeaning S) where
  pub writes_opened : (id : ℕ) (binary : Bool) (bytes : List ℕ) (p : SctpStreams S) (r : Result ℕ SctpError) (q : SctpStreams S) (s : ℕ) (o : Option ℕ)
      → WritesStream m id binary bytes p r q → HasOpenInBand s o q.entries → HasOpenInBand s o p.entries
  writes_opened id binary bytes p r q s o h k =
      open_is s o p.entries q.entries (written_entries m (can_write m id p) (is_current m id p) id binary bytes p r q h) k

  timed_opened : (st : RtcSctpState) (now : ℕ) (p : SctpStreams S) (wake : Signals) (r : Result (Unit {0}) AllocError) (q : SctpStreams S) (wake' : Signals)
      (s : ℕ) (o : Option ℕ) → TimedBy m st now p wake r q wake' → HasOpenInBand s o q.entries → HasOpenInBand s o p.entries
  timed_opened Uninited now p wake r q wake' s o h k = open_is s o p.entries q.entries (ap (λ (y : SctpStreams S). y.entries) h.1) k
  timed_opened AwaitRemoteAssociation now p wake r q wake' s o h k =
      open_unclosed s o p.entries (open_is s o (unclosed p.entries) q.entries (ap (λ (y : SctpStreams S). y.entries) h.1) k)
  timed_opened AwaitAssociationEstablished now p wake r q wake' s o h k =
      open_unclosed s o p.entries (open_is s o (unclosed p.entries) q.entries (ap (λ (y : SctpStreams S). y.entries) h.1) k)
  timed_opened Established now p wake r q wake' s o h k =
      open_unclosed s o p.entries (open_is s o (unclosed p.entries) q.entries (ap (λ (y : SctpStreams S). y.entries) h.1) k)

  pub timeout_opened : (now : ℕ) (p : SctpStreams S) (wake : Signals) (r : Result (Unit {0}) AllocError) (q : SctpStreams S) (wake' : Signals) (s : ℕ)
      (o : Option ℕ) → TakesTimeout m now p wake r q wake' → HasOpenInBand s o q.entries → HasOpenInBand s o p.entries
  timeout_opened now p wake r q wake' s o h k = timed_opened p.state now p wake r q wake' s o h k

  -- streams that are opened
  takes_opened : (config : ChannelConfig) (p : S) (e : StreamEntry) (r : Result (Unit {0}) AllocError) (q : S) (e' : StreamEntry) (o : Option ℕ)
      → TakesConfig m config p e r q e' → IsOpenInBand o e' → IsOpenInBand o e
  takes_opened config p e r q e' o (Declined c f g h) k = marked_opened o e e' h k
  takes_opened config p e r q e' o (Answered answer c f h) k = config_opened answer config e r e' o (first_true (is_some config.negotiated) _ c) h k

  awaiting_opened : (set : Bool) (config : ChannelConfig) (p : S) (e : StreamEntry) (r : Result (Unit {0}) AllocError) (q : S) (e' : StreamEntry)
      (o : Option ℕ) → OpensAwaiting m set config p e r q e' → IsOpenInBand o e' → IsOpenInBand o e
  awaiting_opened true config p e r q e' o h k = marked_opened o e e' h.2 k
  awaiting_opened false config p e r q e' o h k = takes_opened config p e r q e' o h k

  over_opened : (st : StreamEntryState) (config : ChannelConfig) (p : S) (e : StreamEntry) (r : Result (Unit {0}) AllocError) (q : S) (e' : StreamEntry)
      (o : Option ℕ) → OpensOver m st config p e r q e' → IsOpenInBand o e' → IsOpenInBand o e
  over_opened AwaitConfig config p e r q e' o h k = awaiting_opened (is_some e.config) config p e r q e' o h k
  over_opened AwaitOpen config p e r q e' o h k = marked_opened o e e' h.2 k
  over_opened AwaitDcepAck config p e r q e' o h k = marked_opened o e e' h.2 k
  over_opened Open config p e r q e' o h k = marked_opened o e e' h.2 k
  over_opened Closed config p e r q e' o h k = marked_opened o e e' h.2 k

  opens_at : (place : Option ℕ) (id : ℕ) (config : ChannelConfig) (p : S) (es : List StreamEntry) (r : Result (Unit {0}) AllocError) (q : S)
      (es' : List StreamEntry) (s : ℕ) (o : Option ℕ) → OpensAt m place id config p es r q es' → HasOpenInBand s o es' → HasOpenInBand s o es
  opens_at None id config p es (Ok x) q es' s o h k =
      open_insert s o es (new_place id es) (new_entry id AwaitOpen (Some config)) (λ z. awaiting_open z.0) (open_is s o _ es' h.1 k)
  opens_at None id config p es (Err x) q es' s o h k = open_is s o es es' h.1 k
  opens_at (Some place) id config p es r q es' s o h k =
      open_set s o es place h.0 h.1 h.2 (over_live m h.0.state config p h.0 r q h.1 0 refl h.3).0 (λ z. over_opened h.0.state config p h.0 r q h.1 o h.3 z)
      (open_is s o (slice_set es place h.1) es' h.4 k)

  pub opens_opened : (id : ℕ) (config : ChannelConfig) (p : SctpStreams S) (r : Result (Unit {0}) AllocError) (q : SctpStreams S) (s : ℕ) (o : Option ℕ)
      → OpensStream m id config p r q → HasOpenInBand s o q.entries → HasOpenInBand s o p.entries
  opens_opened id config p r q s o h k = opens_at (entry_place id p.entries) id config p.association p.entries r q.association q.entries s o h.0 k

  -- streams that are closed
  closes_at : (place : Option ℕ) (id : ℕ) (p : S) (es : List StreamEntry) (resets : List ℕ) (r : Result (Unit {0}) AllocError) (q : S)
      (es' : List StreamEntry) (resets' : List ℕ) (s : ℕ) (o : Option ℕ) → ClosesAt m place id p es resets r q es' resets' → HasOpenInBand s o es'
      → HasOpenInBand s o es
  closes_at None id p es resets r q es' resets' s o h k = open_is s o es es' h.2 k
  closes_at (Some place) id p es resets r q es' resets' s o h k =
      open_set s o es place h.0.0 (marked_entry h.0.0) h.0.1 refl (λ z. z) (open_is s o (slice_set es place (marked_entry h.0.0)) es' h.0.2 k)

  pub closes_opened : (id : ℕ) (p : SctpStreams S) (r : Result (Unit {0}) AllocError) (q : SctpStreams S) (s : ℕ) (o : Option ℕ)
      → ClosesDataStream m id p r q → HasOpenInBand s o q.entries → HasOpenInBand s o p.entries
  closes_opened id p r q s o h k =
      closes_at (entry_place id p.entries) id p.association p.entries p.resets r q.association q.entries q.resets s o h.0 k

  pub threshold_opened : (n : ℕ) (place : Option ℕ) (p q : SctpStreams S) (s : ℕ) (o : Option ℕ) → SetsThreshold S n place p q
      → HasOpenInBand s o q.entries → HasOpenInBand s o p.entries
  threshold_opened n None p q s o h k = open_is s o p.entries q.entries (ap (λ (y : SctpStreams S). y.entries) h) k
  threshold_opened n (Some place) p q s o h k =
      open_set s o p.entries place h.0 (record h.0 { threshold = _ }) h.1 refl (λ z. z)
      (open_is s o _ q.entries (ap (λ (y : SctpStreams S). y.entries) h.2) k)
