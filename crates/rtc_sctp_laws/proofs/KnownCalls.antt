-- Calls of streams keep that each stream of which a message stands unread has an entry, or is to be told of.
use Rattle.std.proofs.Common.{◌≡◌, ◌∙◌, ◌⊎◌, inl, inr, ℕ, Bool, true, false, List, [], Option, Some, None, Result, Ok, Err, refl, sym, ap, subst}
use Rattle.std.specs.Prelude.{is_some, slice_set}
use Rattle.std.specs.declared.alloc.AllocError.{AllocError}
use Rattle.rtc_ready.specs.Signals.{Signals}
use Rattle.rtc_wire.specs.declared.channel_config.ChannelConfig.{ChannelConfig}
use Rattle.rtc_parts.specs.AssociationActs.{AssociationAct, Moved}
use Rattle.rtc_parts.specs.AssociationLaws.{AssociationLaws}
use Rattle.rtc_parts.specs.AssociationMeaning.{AssociationMeaning}
use Rattle.rtc_parts.specs.AssociationWords.{told}
use Rattle.rtc_sctp_entries.specs.declared.asked.Asked.{Asked}
use Rattle.rtc_sctp_entries.specs.declared.asked.Asked.TheVariants as did
use Rattle.rtc_sctp_entries.specs.declared.stream_entry_state.StreamEntryState.{StreamEntryState}
use Rattle.rtc_sctp_entries.specs.declared.stream_entry_state.StreamEntryState.TheVariants.{AwaitOpen, AwaitConfig, AwaitDcepAck, Open, Closed}
use Rattle.rtc_sctp_entries.specs.declared.stream_entry.StreamEntry.{StreamEntry}
use Rattle.rtc_sctp_entries.specs.Entries.{entry_place, is_closed_state, marked_entry, new_entry, new_place, threshold_set, unclosed}
use Rattle.rtc_sctp.specs.declared.rtc_sctp_state.RtcSctpState.{RtcSctpState}
use Rattle.rtc_sctp.specs.declared.rtc_sctp_state.RtcSctpState.TheVariants.{Uninited, AwaitRemoteAssociation, AwaitAssociationEstablished, Established}
use Rattle.rtc_sctp.specs.Streams.{SctpStreams, is_established}
use Rattle.rtc_sctp.specs.Calls.{TimedBy, TakesTimeout}
use Rattle.rtc_sctp.specs.StreamCalls.{ConfigBy, TakesConfig, Declined, Answered, OpensAwaiting, OpensOver, OpensAt, OpensStream, ClosesAt, ClosesDataStream, SetsThreshold}
use Rattle.rtc_sctp_laws.specs.StreamActs.{CallDid}
use Rattle.rtc_sctp_laws.proofs.ActLemmas.{did_same}
use Rattle.rtc_sctp_laws.proofs.CallActs.{closes_did, opens_did, timeout_did}
use Rattle.rtc_sctp_laws.proofs.ClosingPolls.{started_moved}
use Rattle.rtc_sctp_laws.specs.GenerationLaws.{GenerationLaws}
use Rattle.rtc_sctp_laws.proofs.KnownStreams.{AreKnown, HasEntry, IsKnown, UnreadLaws, known_acts, moved_backed}
use Rattle.rtc_sctp_laws.proofs.KnownEntries.{StaysFree, has_insert, has_is, has_set, has_unclosed}
use Rattle.rtc_sctp_laws.proofs.KnownPolls.{quiet_by, quiet_known}

module _ {S : Type 0} (m : AssociationMeaning S) where
  -- ---- what stays of entries

  abbrev Has : List StreamEntry → List StreamEntry → Type 0
  Has es es' = (s : ℕ) → HasEntry s es → HasEntry s es'

  marked_free : (e e' : StreamEntry) → e' ≡ marked_entry e → StaysFree e e'
  marked_free e e' is = (ap (λ (x : StreamEntry). x.id) is, λ h. ap (λ (x : StreamEntry). is_closed_state x.state) is ∙ h)

  config_free : (answer : Asked) (config : ChannelConfig) (e : StreamEntry) (r : Result (Unit {0}) AllocError) (e' : StreamEntry)
      → ConfigBy answer config e r e' → StaysFree e e'
  config_free did.Done config e (Ok x) e' is =
      (ap (λ (y : StreamEntry). y.id) is, λ h. ap (λ (y : StreamEntry). is_closed_state y.state) is)
  config_free did.Done config e (Err x) e' is = absurd is
  config_free did.Refused config e (Ok x) e' is = marked_free e e' is
  config_free did.Refused config e (Err x) e' is = absurd is
  config_free did.OutOfMemory config e (Ok x) e' is = absurd is
  config_free did.OutOfMemory config e (Err x) e' is =
      (ap (λ (y : StreamEntry). y.id) is, λ h. ap (λ (y : StreamEntry). is_closed_state y.state) is ∙ h)

  takes_free : (config : ChannelConfig) (p : S) (e : StreamEntry) (r : Result (Unit {0}) AllocError) (q : S) (e' : StreamEntry)
      → TakesConfig m config p e r q e' → StaysFree e e'
  takes_free config p e r q e' (Declined c f g is) = marked_free e e' is
  takes_free config p e r q e' (Answered answer c f by) = config_free answer config e r e' by

  awaiting_free : (set : Bool) (config : ChannelConfig) (p : S) (e : StreamEntry) (r : Result (Unit {0}) AllocError) (q : S) (e' : StreamEntry)
      → OpensAwaiting m set config p e r q e' → StaysFree e e'
  awaiting_free true config p e r q e' h = marked_free e e' h.2
  awaiting_free false config p e r q e' h = takes_free config p e r q e' h

  over_free : (st : StreamEntryState) (config : ChannelConfig) (p : S) (e : StreamEntry) (r : Result (Unit {0}) AllocError) (q : S) (e' : StreamEntry)
      → OpensOver m st config p e r q e' → StaysFree e e'
  over_free AwaitConfig config p e r q e' h = awaiting_free (is_some e.config) config p e r q e' h
  over_free AwaitOpen config p e r q e' h = marked_free e e' h.2
  over_free AwaitDcepAck config p e r q e' h = marked_free e e' h.2
  over_free Open config p e r q e' h = marked_free e e' h.2
  over_free Closed config p e r q e' h = marked_free e e' h.2

  opens_at : (place : Option ℕ) (id : ℕ) (config : ChannelConfig) (p : S) (es : List StreamEntry) (r : Result (Unit {0}) AllocError) (q : S)
      (es' : List StreamEntry) → OpensAt m place id config p es r q es' → Has es es'
  opens_at None id config p es (Ok x) q es' h =
      λ s k. has_is s _ es' h.1 (has_insert s es (new_place id es) (new_entry id AwaitOpen (Some config)) k)
  opens_at None id config p es (Err x) q es' h = λ s k. has_is s es es' h.1 k
  opens_at (Some place) id config p es r q es' h =
      λ s k. has_is s (slice_set es place h.1) es' h.4 (has_set s es place h.0 h.1 h.2 (over_free h.0.state config p h.0 r q h.1 h.3) k)

  closes_at : (place : Option ℕ) (id : ℕ) (p : S) (es : List StreamEntry) (resets : List ℕ) (r : Result (Unit {0}) AllocError) (q : S)
      (es' : List StreamEntry) (resets' : List ℕ) → ClosesAt m place id p es resets r q es' resets' → Has es es'
  closes_at None id p es resets r q es' resets' h = λ s k. has_is s es es' h.2 k
  closes_at (Some place) id p es resets r q es' resets' h =
      λ s k.
      has_is s (slice_set es place (marked_entry h.0.0)) es' h.0.2
      (has_set s es place h.0.0 (marked_entry h.0.0) h.0.1 (refl, λ free. free) k)

  timed_at : (st : RtcSctpState) (now : ℕ) (p : SctpStreams S) (wake : Signals) (r : Result (Unit {0}) AllocError) (q : SctpStreams S) (wake' : Signals)
      → TimedBy m st now p wake r q wake' → Has p.entries q.entries × (q.state ≡ p.state)
  timed_at Uninited now p wake r q wake' h =
      (λ s k. has_is s p.entries q.entries (ap (λ (y : SctpStreams S). y.entries) h.1) k, ap (λ (y : SctpStreams S). y.state) h.1)
  timed_at AwaitRemoteAssociation now p wake r q wake' h = (
    λ s k. has_is s (unclosed p.entries) q.entries (ap (λ (y : SctpStreams S). y.entries) h.1) (has_unclosed s p.entries k),
    ap (λ (y : SctpStreams S). y.state) h.1,
  )
  timed_at AwaitAssociationEstablished now p wake r q wake' h = (
    λ s k. has_is s (unclosed p.entries) q.entries (ap (λ (y : SctpStreams S). y.entries) h.1) (has_unclosed s p.entries k),
    ap (λ (y : SctpStreams S). y.state) h.1,
  )
  timed_at Established now p wake r q wake' h = (
    λ s k. has_is s (unclosed p.entries) q.entries (ap (λ (y : SctpStreams S). y.entries) h.1) (has_unclosed s p.entries k),
    ap (λ (y : SctpStreams S). y.state) h.1,
  )

  module _ (sound : S → Type 0) (w : AssociationLaws m) (v : GenerationLaws m) (u : UnreadLaws m sound) where
    -- ---- calls

    call_known : (p q : SctpStreams S) → CallDid m [] [] p q → Has p.entries q.entries → q.state ≡ p.state → AreKnown m sound p → AreKnown m sound q
    call_known p q d has state k = quiet_known m sound w v u p q (quiet_by m sound w v u [] p q d.did has (λ e. ap is_established (sym state) ∙ e)) k

    pub timeout_known : (now : ℕ) (p : SctpStreams S) (wake : Signals) (r : Result (Unit {0}) AllocError) (q : SctpStreams S) (wake' : Signals)
        → TakesTimeout m now p wake r q wake' → AreKnown m sound p → AreKnown m sound q
    timeout_known now p wake r q wake' h k =
        let at = timed_at p.state now p wake r q wake' h in
        call_known p q (timeout_did m now p wake r q wake' h) at.0 at.1 k

    pub opens_known : (id : ℕ) (config : ChannelConfig) (p : SctpStreams S) (r : Result (Unit {0}) AllocError) (q : SctpStreams S)
        → OpensStream m id config p r q → AreKnown m sound p → AreKnown m sound q
    opens_known id config p r q h k =
        call_known p q (opens_did m id config p r q h)
        (opens_at (entry_place id p.entries) id config p.association p.entries r q.association q.entries h.0) (ap (λ (y : SctpStreams S). y.state) h.1) k

    pub closes_known : (id : ℕ) (p : SctpStreams S) (r : Result (Unit {0}) AllocError) (q : SctpStreams S) → ClosesDataStream m id p r q → AreKnown m sound p
        → AreKnown m sound q
    closes_known id p r q h k =
        call_known p q (closes_did m id p r q h)
        (closes_at (entry_place id p.entries) id p.association p.entries p.resets r q.association q.entries q.resets h.0)
        (ap (λ (y : SctpStreams S). y.state) h.1) k

    pub threshold_known : (n : ℕ) (place : Option ℕ) (p q : SctpStreams S) → SetsThreshold S n place p q → AreKnown m sound p → AreKnown m sound q
    threshold_known n None p q h k = subst (λ (x : SctpStreams S). AreKnown m sound x) (sym h) k
    threshold_known n (Some place) p q h k =
        quiet_known m sound w v u p q
        (quiet_by m sound w v u [] p q (did_same m p.association q.association (ap (λ (y : SctpStreams S). y.association) h.2))
        (λ s x.
        has_is s (slice_set p.entries place (record h.0 { threshold = threshold_set n h.0.threshold })) q.entries
        (ap (λ (y : SctpStreams S). y.entries) h.2)
        (has_set s p.entries place h.0 (record h.0 { threshold = threshold_set n h.0.threshold }) h.1 (refl, λ free. free) x))
        (λ e. ap is_established (sym (ap (λ (y : SctpStreams S). y.state) h.2)) ∙ e))
        k

    -- acts that told nothing, over the same entries
    pub acts_known : (acts : List AssociationAct) (p q : SctpStreams S) → Moved m p.association acts q.association → told acts ≡ [] → q.entries ≡ p.entries
        → (is_established q.state ≡ true → (is_established p.state ≡ true) ⊎ (m.started q.association ≡ true)) → AreKnown m sound p → AreKnown m sound q
    acts_known acts p q went untold entries lasts k = record {
      backed = moved_backed m sound w v u acts p.association q.association went k.backed;
      known = λ s.
          subst (λ (l : List StreamEntry). IsKnown m sound s q.association l) (sym entries)
          (known_acts m sound w v u acts p.association q.association p.entries s untold went k.backed (k.known s));
      begun = λ e. by (lasts e);
    }
      where
        by : (is_established p.state ≡ true) ⊎ (m.started q.association ≡ true) → m.started q.association ≡ true
        by (inl e) = started_moved m w acts p.association q.association (k.begun e) went
        by (inr s) = s
