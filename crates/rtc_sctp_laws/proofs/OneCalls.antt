-- The one entry of a stream, where it is open, behind the calls of streams but the polls.
use Rattle.std.proofs.Common.{◌≡◌, ℕ, Bool, true, false, List, Option, Some, None, Result, Ok, Err, refl, sym, ap, subst, ◌∙◌}
use Rattle.std.specs.Prelude.{slice_set, is_some}
use Rattle.std.specs.declared.alloc.AllocError.{AllocError}
use Rattle.rtc_ready.specs.Signals.{Signals}
use Rattle.rtc_wire.specs.declared.channel_config.ChannelConfig.{ChannelConfig}
use Rattle.rtc_parts.specs.AssociationMeaning.{AssociationMeaning}
use Rattle.rtc_sctp_entries.specs.declared.asked.Asked.{Asked}
use Rattle.rtc_sctp_entries.specs.declared.asked.Asked.TheVariants as did
use Rattle.rtc_sctp_entries.specs.declared.stream_entry_state.StreamEntryState.{StreamEntryState}
use Rattle.rtc_sctp_entries.specs.declared.stream_entry_state.StreamEntryState.TheVariants.{AwaitOpen, AwaitConfig, AwaitDcepAck, Open, Closed}
use Rattle.rtc_sctp_entries.specs.declared.stream_entry.StreamEntry.{StreamEntry}
use Rattle.rtc_sctp_entries.specs.Entries.{entry_place, new_place, new_entry, marked_entry, threshold_set}
use Rattle.rtc_sctp.specs.declared.rtc_sctp_state.RtcSctpState.{RtcSctpState}
use Rattle.rtc_sctp.specs.declared.rtc_sctp_state.RtcSctpState.TheVariants.{Uninited, AwaitRemoteAssociation, AwaitAssociationEstablished, Established}
use Rattle.rtc_sctp_values.specs.declared.sctp_error.SctpError.{SctpError}
use Rattle.rtc_sctp.specs.Streams.{SctpStreams}
use Rattle.rtc_sctp.specs.Calls.{WrittenIf, WritesStream, can_write, is_current, TimedBy, TakesTimeout}
use Rattle.rtc_sctp.specs.StreamCalls.{ConfigBy, TakesConfig, Declined, Answered, OpensAwaiting, OpensOver, OpensAt, OpensStream, ClosesAt, ClosesDataStream, SetsThreshold}
use Rattle.rtc_sctp_laws.specs.StreamUses.{OneAtMost, entries_of}
use Rattle.rtc_sctp_laws.proofs.OneEntry.{one_set, one_insert}
use Rattle.rtc_sctp_laws.proofs.OneOpen.{IsOfOpen, one_same, one_left}
use Rattle.rtc_sctp_laws.proofs.EntriesOf.{none_placed}

config_is_other : AwaitConfig ≡ Open → ⊥
config_is_other h = cc

module _ {S : Type 0} (m : AssociationMeaning S) where
  pub written_entries : (b c : Bool) (id : ℕ) (binary : Bool) (bytes : List ℕ) (p : SctpStreams S) (r : Result ℕ SctpError) (q : SctpStreams S) → WrittenIf m b c id binary bytes p r q → q.entries ≡ p.entries
  written_entries false c id binary bytes p r q h = ap (λ (y : SctpStreams S). y.entries) h.1
  written_entries true false id binary bytes p r q h = ap (λ (y : SctpStreams S). y.entries) h.1
  written_entries true true id binary bytes p r q h = ap (λ (y : SctpStreams S). y.entries) h.3

  -- an entry that is marked, or that an opening from here came over
  marked_id : (e e' : StreamEntry) → e' ≡ marked_entry e → e'.id ≡ e.id
  marked_id e e' h = ap (λ (y : StreamEntry). y.id) h

  config_id : (o : Asked) (config : ChannelConfig) (e : StreamEntry) (r : Result (Unit {0}) AllocError) (e' : StreamEntry) → ConfigBy o config e r e' → e'.id ≡ e.id
  config_id did.Done config e (Ok x) e' h = ap (λ (y : StreamEntry). y.id) h
  config_id did.Done config e (Err x) e' h = absurd h
  config_id did.Refused config e (Ok x) e' h = marked_id e e' h
  config_id did.Refused config e (Err x) e' h = absurd h
  config_id did.OutOfMemory config e (Ok x) e' h = absurd h
  config_id did.OutOfMemory config e (Err x) e' h = ap (λ (y : StreamEntry). y.id) h

  takes_id : (config : ChannelConfig) (p : S) (e : StreamEntry) (r : Result (Unit {0}) AllocError) (q : S) (e' : StreamEntry) → TakesConfig m config p e r q e' → e'.id ≡ e.id
  takes_id config p e r q e' (Declined c f g h) = marked_id e e' h
  takes_id config p e r q e' (Answered answer c f h) = config_id answer config e r e' h

  awaiting_id : (set : Bool) (config : ChannelConfig) (p : S) (e : StreamEntry) (r : Result (Unit {0}) AllocError) (q : S) (e' : StreamEntry) → OpensAwaiting m set config p e r q e' → e'.id ≡ e.id
  awaiting_id true config p e r q e' h = marked_id e e' h.2
  awaiting_id false config p e r q e' h = takes_id config p e r q e' h

  module _ (P : StreamEntry → Type 0) (of : IsOfOpen P) where
    one_marked : (e e' : StreamEntry) → e' ≡ marked_entry e → (e'.id ≡ e.id) × (P e → P e')
    one_marked e e' h = (marked_id e e' h, λ k. subst P (sym h) (of.marked e k))

    pub over_one : (st : StreamEntryState) (config : ChannelConfig) (p : S) (e : StreamEntry) (r : Result (Unit {0}) AllocError) (q : S) (e' : StreamEntry) → e.state ≡ st → OpensOver m st config p e r q e' → (e'.id ≡ e.id) × (P e → P e')
    over_one AwaitConfig config p e r q e' is h = (awaiting_id (is_some e.config) config p e r q e' h, λ k. absurd (config_is_other (sym is ∙ of.is_open e k)))
    over_one AwaitOpen config p e r q e' is h = one_marked e e' h.2
    over_one AwaitDcepAck config p e r q e' is h = one_marked e e' h.2
    over_one Open config p e r q e' is h = one_marked e e' h.2
    over_one Closed config p e r q e' is h = one_marked e e' h.2

    module _ (s : ℕ) where
      abbrev HasOne : List StreamEntry → Type 0
      HasOne es = OneAtMost ⊥ P (entries_of s es)

      pub writes_one : (id : ℕ) (binary : Bool) (bytes : List ℕ) (p : SctpStreams S) (r : Result ℕ SctpError) (q : SctpStreams S) → WritesStream m id binary bytes p r q → HasOne p.entries → HasOne q.entries
      writes_one id binary bytes p r q h k = one_same P of s p.entries q.entries (written_entries (can_write m id p) (is_current m id p) id binary bytes p r q h) k

      timed_one : (st : RtcSctpState) (now : ℕ) (p : SctpStreams S) (wake : Signals) (r : Result (Unit {0}) AllocError) (q : SctpStreams S) (wake' : Signals) → TimedBy m st now p wake r q wake' → HasOne p.entries → HasOne q.entries
      timed_one Uninited now p wake r q wake' h k = one_same P of s p.entries q.entries (ap (λ (y : SctpStreams S). y.entries) h.1) k
      timed_one AwaitRemoteAssociation now p wake r q wake' h k = one_same P of s _ q.entries (ap (λ (y : SctpStreams S). y.entries) h.1) (one_left P of s p.entries k)
      timed_one AwaitAssociationEstablished now p wake r q wake' h k = one_same P of s _ q.entries (ap (λ (y : SctpStreams S). y.entries) h.1) (one_left P of s p.entries k)
      timed_one Established now p wake r q wake' h k = one_same P of s _ q.entries (ap (λ (y : SctpStreams S). y.entries) h.1) (one_left P of s p.entries k)

      pub timeout_one : (now : ℕ) (p : SctpStreams S) (wake : Signals) (r : Result (Unit {0}) AllocError) (q : SctpStreams S) (wake' : Signals) → TakesTimeout m now p wake r q wake' → HasOne p.entries → HasOne q.entries
      timeout_one now p wake r q wake' h k = timed_one p.state now p wake r q wake' h k

      -- streams that are opened
      opens_at : (o : Option ℕ) (id : ℕ) (config : ChannelConfig) (p : S) (es : List StreamEntry) (r : Result (Unit {0}) AllocError) (q : S) (es' : List StreamEntry) → entry_place id es ≡ o → OpensAt m o id config p es r q es' → HasOne es → HasOne es'
      opens_at None id config p es (Ok x) q es' e h k =
          one_same P of s _ es' h.1 (one_insert ⊥ P s es (new_place id es) (new_entry id AwaitOpen (Some config)) (none_placed id es e) (λ same z. absurd z) k)
      opens_at None id config p es (Err x) q es' e h k = one_same P of s es es' h.1 k
      opens_at (Some place) id config p es r q es' e h k =
          let over = over_one h.0.state config p h.0 r q h.1 refl h.3 in
          one_same P of s (slice_set es place h.1) es' h.4 (one_set ⊥ P s es place h.0 h.1 h.2 over.0 over.1 k)

      pub opens_one : (id : ℕ) (config : ChannelConfig) (p : SctpStreams S) (r : Result (Unit {0}) AllocError) (q : SctpStreams S) → OpensStream m id config p r q → HasOne p.entries → HasOne q.entries
      opens_one id config p r q h k = opens_at (entry_place id p.entries) id config p.association p.entries r q.association q.entries refl h.0 k

      -- streams that are closed
      closes_at : (o : Option ℕ) (id : ℕ) (p : S) (es : List StreamEntry) (resets : List ℕ) (r : Result (Unit {0}) AllocError) (q : S) (es' : List StreamEntry) (resets' : List ℕ) → ClosesAt m o id p es resets r q es' resets' → HasOne es → HasOne es'
      closes_at None id p es resets r q es' resets' h k = one_same P of s es es' h.2 k
      closes_at (Some place) id p es resets r q es' resets' h k =
          one_same P of s (slice_set es place (marked_entry h.0.0)) es' h.0.2 (one_set ⊥ P s es place h.0.0 (marked_entry h.0.0) h.0.1 refl (λ z. of.marked h.0.0 z) k)

      pub closes_one : (id : ℕ) (p : SctpStreams S) (r : Result (Unit {0}) AllocError) (q : SctpStreams S) → ClosesDataStream m id p r q → HasOne p.entries → HasOne q.entries
      closes_one id p r q h k = closes_at (entry_place id p.entries) id p.association p.entries p.resets r q.association q.entries q.resets h.0 k

      pub threshold_one : (n : ℕ) (o : Option ℕ) (p q : SctpStreams S) → SetsThreshold S n o p q → HasOne p.entries → HasOne q.entries
      threshold_one n None p q h k = one_same P of s p.entries q.entries (ap (λ (y : SctpStreams S). y.entries) h) k
      threshold_one n (Some place) p q h k =
          one_same P of s _ q.entries (ap (λ (y : SctpStreams S). y.entries) h.2) (one_set ⊥ P s p.entries place h.0 (record h.0 { threshold = threshold_set n h.0.threshold }) h.1 refl (λ z. of.threshold h.0 (threshold_set n h.0.threshold) z) k)
