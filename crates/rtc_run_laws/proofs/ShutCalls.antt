-- Calls of streams leave a stream shut that is there.
use Rattle.std.proofs.Common.{◌≡◌, inl, ℕ, List, Option, Some, None, Result, Ok, Err, [], refl, sym, ap, subst}
use Rattle.std.specs.Prelude.{slice_set}
use Rattle.std.specs.declared.alloc.AllocError.{AllocError}
use Rattle.rtc_ready.specs.Signals.{Signals}
use Rattle.rtc_wire.specs.declared.channel_config.ChannelConfig.{ChannelConfig}
use Rattle.rtc_parts.specs.AssociationLaws.{AssociationLaws}
use Rattle.rtc_parts.specs.AssociationMeaning.{AssociationMeaning}
use Rattle.rtc_sctp_entries.specs.declared.stream_entry_state.StreamEntryState.{StreamEntryState}
use Rattle.rtc_sctp_entries.specs.declared.stream_entry_state.StreamEntryState.TheVariants.{AwaitOpen, AwaitConfig, AwaitDcepAck, Open, Closed}
use Rattle.rtc_sctp_entries.specs.declared.stream_entry.StreamEntry.{StreamEntry}
use Rattle.rtc_sctp_entries.specs.Entries.{entry_place, marked_entry, new_entry, new_place, threshold_set, unclosed}
use Rattle.rtc_sctp.specs.declared.rtc_sctp_state.RtcSctpState.{RtcSctpState}
use Rattle.rtc_sctp.specs.declared.rtc_sctp_state.RtcSctpState.TheVariants.{Uninited, AwaitRemoteAssociation, AwaitAssociationEstablished, Established}
use Rattle.rtc_sctp.specs.Streams.{SctpStreams}
use Rattle.rtc_sctp.specs.Calls.{TimedBy, TakesTimeout}
use Rattle.rtc_sctp.specs.StreamCalls.{OpensOver, OpensAt, OpensStream, ClosesAt, ClosesDataStream, SetsThreshold}
use Rattle.rtc_sctp_laws.specs.GenerationLaws.{GenerationLaws}
use Rattle.rtc_sctp_laws.proofs.CallActs.{closes_did, opens_did, timeout_did}
use Rattle.rtc_sctp_laws.proofs.LiveCalls.{over_live}
use Rattle.rtc_run_laws.proofs.ShutEntries.{AreShut, IsShutEntry, shut_insert, shut_is, shut_set, shut_unclosed}
use Rattle.rtc_run_laws.proofs.ShutPolls.{IsShutStream, ShutLaws, shut_over}
use Rattle.rtc_run_laws.proofs.ShutVisits.{not_config}

module _ {S : Type 0} (m : AssociationMeaning S) where
  -- ---- what becomes of entries

  marked_shut : (e e' : StreamEntry) → e' ≡ marked_entry e → IsShutEntry e → IsShutEntry e'
  marked_shut e e' is h = subst (λ (y : StreamEntry). IsShutEntry y) (sym is) h

  over_shut : (st : StreamEntryState) (config : ChannelConfig) (p : S) (e : StreamEntry) (r : Result (Unit {0}) AllocError) (q : S) (e' : StreamEntry)
      → e.state ≡ st → OpensOver m st config p e r q e' → IsShutEntry e → IsShutEntry e'
  over_shut AwaitConfig config p e r q e' is h k = absurd (not_config e is k)
  over_shut AwaitOpen config p e r q e' is h k = marked_shut e e' h.2 k
  over_shut AwaitDcepAck config p e r q e' is h k = marked_shut e e' h.2 k
  over_shut Open config p e r q e' is h k = marked_shut e e' h.2 k
  over_shut Closed config p e r q e' is h k = marked_shut e e' h.2 k

  opens_at : (s : ℕ) (place : Option ℕ) (id : ℕ) (config : ChannelConfig) (p : S) (es : List StreamEntry) (r : Result (Unit {0}) AllocError) (q : S)
      (es' : List StreamEntry) → OpensAt m place id config p es r q es' → AreShut s es → AreShut s es'
  opens_at s None id config p es (Ok x) q es' h k =
      shut_is s _ es' h.1 (shut_insert s es (new_place id es) (new_entry id AwaitOpen (Some config)) (λ own. inl refl) k)
  opens_at s None id config p es (Err x) q es' h k = shut_is s es es' h.1 k
  opens_at s (Some place) id config p es r q es' h k =
      shut_is s (slice_set es place h.1) es' h.4
      (shut_set s es place h.0 h.1 h.2 (over_live m h.0.state config p h.0 r q h.1 0 refl h.3).0
      (λ own x. over_shut h.0.state config p h.0 r q h.1 refl h.3 x) k)

  closes_at : (s : ℕ) (place : Option ℕ) (id : ℕ) (p : S) (es : List StreamEntry) (resets : List ℕ) (r : Result (Unit {0}) AllocError) (q : S)
      (es' : List StreamEntry) (resets' : List ℕ) → ClosesAt m place id p es resets r q es' resets' → AreShut s es → AreShut s es'
  closes_at s None id p es resets r q es' resets' h k = shut_is s es es' h.2 k
  closes_at s (Some place) id p es resets r q es' resets' h k =
      shut_is s (slice_set es place (marked_entry h.0.0)) es' h.0.2
      (shut_set s es place h.0.0 (marked_entry h.0.0) h.0.1 refl (λ own x. x) k)

  threshold_at : (s n : ℕ) (place : Option ℕ) (p q : SctpStreams S) → SetsThreshold S n place p q → AreShut s p.entries → AreShut s q.entries
  threshold_at s n None p q h k = shut_is s p.entries q.entries (ap (λ (y : SctpStreams S). y.entries) h) k
  threshold_at s n (Some place) p q h k =
      shut_is s (slice_set p.entries place (record h.0 { threshold = threshold_set n h.0.threshold })) q.entries
      (ap (λ (y : SctpStreams S). y.entries) h.2)
      (shut_set s p.entries place h.0 (record h.0 { threshold = threshold_set n h.0.threshold }) h.1 refl (λ own x. x) k)

  timed_at : (s : ℕ) (st : RtcSctpState) (now : ℕ) (p : SctpStreams S) (wake : Signals) (r : Result (Unit {0}) AllocError) (q : SctpStreams S)
      (wake' : Signals) → TimedBy m st now p wake r q wake' → AreShut s p.entries → AreShut s q.entries
  timed_at s Uninited now p wake r q wake' h k = shut_is s p.entries q.entries (ap (λ (y : SctpStreams S). y.entries) h.1) k
  timed_at s AwaitRemoteAssociation now p wake r q wake' h k =
      shut_is s (unclosed p.entries) q.entries (ap (λ (y : SctpStreams S). y.entries) h.1) (shut_unclosed s p.entries k)
  timed_at s AwaitAssociationEstablished now p wake r q wake' h k =
      shut_is s (unclosed p.entries) q.entries (ap (λ (y : SctpStreams S). y.entries) h.1) (shut_unclosed s p.entries k)
  timed_at s Established now p wake r q wake' h k =
      shut_is s (unclosed p.entries) q.entries (ap (λ (y : SctpStreams S). y.entries) h.1) (shut_unclosed s p.entries k)

  -- ---- calls

  module _ (quiet : S → Type 0) (w : AssociationLaws m) (v : GenerationLaws m) (u : ShutLaws m quiet) (s : ℕ) where
    pub opens_shut : (id : ℕ) (config : ChannelConfig) (p : SctpStreams S) (r : Result (Unit {0}) AllocError) (q : SctpStreams S)
        → OpensStream m id config p r q → IsShutStream m quiet w v u s p → IsShutStream m quiet w v u s q
    opens_shut id config p r q h k =
        let d = opens_did m id config p r q h in
        shut_over m quiet w v u s d.did.acts p q d.did.given_is d.did.went
        (opens_at s (entry_place id p.entries) id config p.association p.entries r q.association q.entries h.0) k

    pub closes_shut : (id : ℕ) (p : SctpStreams S) (r : Result (Unit {0}) AllocError) (q : SctpStreams S) → ClosesDataStream m id p r q
        → IsShutStream m quiet w v u s p → IsShutStream m quiet w v u s q
    closes_shut id p r q h k =
        let d = closes_did m id p r q h in
        shut_over m quiet w v u s d.did.acts p q d.did.given_is d.did.went
        (closes_at s (entry_place id p.entries) id p.association p.entries p.resets r q.association q.entries q.resets h.0) k

    pub threshold_shut : (n : ℕ) (place : Option ℕ) (p q : SctpStreams S) → SetsThreshold S n place p q → IsShutStream m quiet w v u s p
        → IsShutStream m quiet w v u s q
    threshold_shut n place p q h k = shut_over m quiet w v u s [] p q refl (same place h) (threshold_at s n place p q h) k
      where
        same : (o : Option ℕ) → SetsThreshold S n o p q → q.association ≡ p.association
        same None h = ap (λ (y : SctpStreams S). y.association) h
        same (Some place) h = ap (λ (y : SctpStreams S). y.association) h.2

    pub timeout_shut : (now : ℕ) (p : SctpStreams S) (wake : Signals) (r : Result (Unit {0}) AllocError) (q : SctpStreams S) (wake' : Signals)
        → TakesTimeout m now p wake r q wake' → IsShutStream m quiet w v u s p → IsShutStream m quiet w v u s q
    timeout_shut now p wake r q wake' h k =
        let d = timeout_did m now p wake r q wake' h in
        shut_over m quiet w v u s d.did.acts p q d.did.given_is d.did.went (timed_at s p.state now p wake r q wake' h) k
