-- Calls of streams keep that each stream which is there has an entry past its opening, or is held.
use Rattle.std.proofs.Common.{◌≡◌, ◌∙◌, ℕ, Bool, true, false, List, Option, Some, None, Result, Ok, Err, refl, ap}
use Rattle.std.specs.Prelude.{is_some, slice_set}
use Rattle.std.specs.declared.alloc.AllocError.{AllocError}
use Rattle.rtc_ready.specs.Signals.{Signals}
use Rattle.rtc_wire.specs.declared.channel_config.ChannelConfig.{ChannelConfig}
use Rattle.rtc_parts.specs.AssociationActs.{AssociationAct, Moved, Stirred}
use Rattle.rtc_parts.specs.AssociationLaws.{AssociationLaws}
use Rattle.rtc_parts.specs.AssociationMeaning.{AssociationMeaning}
use Rattle.rtc_parts.specs.Why.{Timed}
use Rattle.rtc_sctp_entries.specs.declared.asked.Asked.{Asked}
use Rattle.rtc_sctp_entries.specs.declared.asked.Asked.TheVariants as did
use Rattle.rtc_sctp_entries.specs.declared.stream_entry_state.StreamEntryState.{StreamEntryState}
use Rattle.rtc_sctp_entries.specs.declared.stream_entry_state.StreamEntryState.TheVariants.{AwaitOpen, AwaitConfig, AwaitDcepAck, Open, Closed}
use Rattle.rtc_sctp_entries.specs.declared.stream_entry.StreamEntry.{StreamEntry}
use Rattle.rtc_sctp_entries.specs.Entries.{entry_place, marked_entry, new_entry, new_place, threshold_set, unclosed}
use Rattle.rtc_sctp.specs.declared.rtc_sctp_state.RtcSctpState.{RtcSctpState}
use Rattle.rtc_sctp.specs.declared.rtc_sctp_state.RtcSctpState.TheVariants.{Uninited, AwaitRemoteAssociation, AwaitAssociationEstablished, Established}
use Rattle.rtc_sctp.specs.Streams.{SctpStreams}
use Rattle.rtc_sctp.specs.Calls.{TimedBy, TakesTimeout}
use Rattle.rtc_sctp.specs.StreamCalls.{ConfigBy, TakesConfig, Declined, Answered, OpensAwaiting, OpensOver, OpensAt, OpensStream, NoRoom, Ended, EndsIf, ClosesAt, ClosesDataStream, SetsThreshold}
use Rattle.rtc_sctp_laws.specs.StreamRuns.{is_past_opening}
use Rattle.rtc_sctp_laws.specs.GenerationLaws.{GenerationLaws, OpenAndReadNone}
use Rattle.rtc_sctp_laws.proofs.ThereStreams.{AreBegunStreams, Goes, HasPast, KeepingLaws, ended_goes, goes_act, goes_acts, goes_same, reliability_goes}
use Rattle.rtc_sctp_laws.proofs.ThereEntries.{StaysPastOpening, past_insert, past_is, past_set, past_unclosed}
use Rattle.rtc_sctp_laws.proofs.TherePolls.{begun_over, begun_same}

module _ {S : Type 0} (m : AssociationMeaning S) where
  -- ---- what stays of entries

  marked_past : (e e' : StreamEntry) → e' ≡ marked_entry e → StaysPastOpening e e'
  marked_past e e' is = (ap (λ (x : StreamEntry). x.id) is, λ h. ap (λ (x : StreamEntry). is_past_opening x.state) is ∙ h)

  config_past : (answer : Asked) (config : ChannelConfig) (e : StreamEntry) (r : Result (Unit {0}) AllocError) (e' : StreamEntry)
      → ConfigBy answer config e r e' → StaysPastOpening e e'
  config_past did.Done config e (Ok x) e' is =
      (ap (λ (y : StreamEntry). y.id) is, λ h. ap (λ (y : StreamEntry). is_past_opening y.state) is)
  config_past did.Done config e (Err x) e' is = absurd is
  config_past did.Refused config e (Ok x) e' is = marked_past e e' is
  config_past did.Refused config e (Err x) e' is = absurd is
  config_past did.OutOfMemory config e (Ok x) e' is = absurd is
  config_past did.OutOfMemory config e (Err x) e' is =
      (ap (λ (y : StreamEntry). y.id) is, λ h. ap (λ (y : StreamEntry). is_past_opening y.state) is ∙ h)

  takes_past : (config : ChannelConfig) (p : S) (e : StreamEntry) (r : Result (Unit {0}) AllocError) (q : S) (e' : StreamEntry)
      → TakesConfig m config p e r q e' → StaysPastOpening e e'
  takes_past config p e r q e' (Declined c f g is) = marked_past e e' is
  takes_past config p e r q e' (Answered answer c f by) = config_past answer config e r e' by

  awaiting_past : (set : Bool) (config : ChannelConfig) (p : S) (e : StreamEntry) (r : Result (Unit {0}) AllocError) (q : S) (e' : StreamEntry)
      → OpensAwaiting m set config p e r q e' → StaysPastOpening e e'
  awaiting_past true config p e r q e' h = marked_past e e' h.2
  awaiting_past false config p e r q e' h = takes_past config p e r q e' h

  over_past : (st : StreamEntryState) (config : ChannelConfig) (p : S) (e : StreamEntry) (r : Result (Unit {0}) AllocError) (q : S) (e' : StreamEntry)
      → OpensOver m st config p e r q e' → StaysPastOpening e e'
  over_past AwaitConfig config p e r q e' h = awaiting_past (is_some e.config) config p e r q e' h
  over_past AwaitOpen config p e r q e' h = marked_past e e' h.2
  over_past AwaitDcepAck config p e r q e' h = marked_past e e' h.2
  over_past Open config p e r q e' h = marked_past e e' h.2
  over_past Closed config p e r q e' h = marked_past e e' h.2

  opens_past : (place : Option ℕ) (id : ℕ) (config : ChannelConfig) (p : S) (es : List StreamEntry) (r : Result (Unit {0}) AllocError) (q : S)
      (es' : List StreamEntry) → OpensAt m place id config p es r q es' → (s : ℕ) → HasPast s es → HasPast s es'
  opens_past None id config p es (Ok x) q es' h =
      λ s k. past_is s _ es' h.1 (past_insert s es (new_place id es) (new_entry id AwaitOpen (Some config)) k)
  opens_past None id config p es (Err x) q es' h = λ s k. past_is s es es' h.1 k
  opens_past (Some place) id config p es r q es' h =
      λ s k. past_is s (slice_set es place h.1) es' h.4 (past_set s es place h.0 h.1 h.2 (over_past h.0.state config p h.0 r q h.1 h.3) k)

  closes_past : (place : Option ℕ) (id : ℕ) (p : S) (es : List StreamEntry) (resets : List ℕ) (r : Result (Unit {0}) AllocError) (q : S)
      (es' : List StreamEntry) (resets' : List ℕ) → ClosesAt m place id p es resets r q es' resets' → (s : ℕ) → HasPast s es → HasPast s es'
  closes_past None id p es resets r q es' resets' h = λ s k. past_is s es es' h.2 k
  closes_past (Some place) id p es resets r q es' resets' h =
      λ s k.
      past_is s (slice_set es place (marked_entry h.0.0)) es' h.0.2
      (past_set s es place h.0.0 (marked_entry h.0.0) h.0.1 (refl, λ x. x) k)

  module _ (keeps : S → ℕ → Type 0) (w : AssociationLaws m) (v : GenerationLaws m) (u : KeepingLaws m keeps) where
    -- ---- what becomes of the association

    takes_goes : (config : ChannelConfig) (p : S) (e : StreamEntry) (r : Result (Unit {0}) AllocError) (q : S) (e' : StreamEntry)
        → TakesConfig m config p e r q e' → (s : ℕ) → Goes m keeps s p q
    takes_goes config p e r q e' (Declined c f same is) = λ s. goes_same m keeps s p q same
    takes_goes config p e r q e' (Answered answer c asks by) = λ s. reliability_goes m keeps w v u s e.id _ _ _ p q asks.result asks.called

    awaiting_goes : (set : Bool) (config : ChannelConfig) (p : S) (e : StreamEntry) (r : Result (Unit {0}) AllocError) (q : S) (e' : StreamEntry)
        → OpensAwaiting m set config p e r q e' → (s : ℕ) → Goes m keeps s p q
    awaiting_goes true config p e r q e' h = λ s. goes_same m keeps s p q h.1
    awaiting_goes false config p e r q e' h = takes_goes config p e r q e' h

    over_goes : (st : StreamEntryState) (config : ChannelConfig) (p : S) (e : StreamEntry) (r : Result (Unit {0}) AllocError) (q : S) (e' : StreamEntry)
        → OpensOver m st config p e r q e' → (s : ℕ) → Goes m keeps s p q
    over_goes AwaitConfig config p e r q e' h = awaiting_goes (is_some e.config) config p e r q e' h
    over_goes AwaitOpen config p e r q e' h = λ s. goes_same m keeps s p q h.1
    over_goes AwaitDcepAck config p e r q e' h = λ s. goes_same m keeps s p q h.1
    over_goes Open config p e r q e' h = λ s. goes_same m keeps s p q h.1
    over_goes Closed config p e r q e' h = λ s. goes_same m keeps s p q h.1

    opens_goes : (place : Option ℕ) (id : ℕ) (config : ChannelConfig) (p : S) (es : List StreamEntry) (r : Result (Unit {0}) AllocError) (q : S)
        (es' : List StreamEntry) → OpensAt m place id config p es r q es' → (s : ℕ) → Goes m keeps s p q
    opens_goes None id config p es (Ok x) q es' h = λ s. goes_same m keeps s p q h.0
    opens_goes None id config p es (Err x) q es' h = λ s. goes_same m keeps s p q h.0
    opens_goes (Some place) id config p es r q es' h = over_goes h.0.state config p h.0 r q h.1 h.3

    ends_goes : (started : Bool) (id : ℕ) (p : S) (resets : List ℕ) (r : Result (Unit {0}) AllocError) (q : S) (resets' : List ℕ)
        → EndsIf m started id p resets r q resets' → (s : ℕ) → Goes m keeps s p q
    ends_goes false id p resets r q resets' h = λ s. goes_same m keeps s p q h.1
    ends_goes true id p resets r q resets' (NoRoom e same rs) = λ s. goes_same m keeps s p q same
    ends_goes true id p resets r q resets' (Ended answer asks by) = λ s. ended_goes m keeps w v u s id p q asks.result asks.called

    closes_goes : (place : Option ℕ) (id : ℕ) (p : S) (es : List StreamEntry) (resets : List ℕ) (r : Result (Unit {0}) AllocError) (q : S)
        (es' : List StreamEntry) (resets' : List ℕ) → ClosesAt m place id p es resets r q es' resets' → (s : ℕ) → Goes m keeps s p q
    closes_goes None id p es resets r q es' resets' h = λ s. goes_same m keeps s p q h.1
    closes_goes (Some place) id p es resets r q es' resets' h = ends_goes (m.started p) id p resets r q resets' h.1

    -- ---- calls

    pub opens_begun : (id : ℕ) (config : ChannelConfig) (p : SctpStreams S) (r : Result (Unit {0}) AllocError) (q : SctpStreams S)
        → OpensStream m id config p r q → AreBegunStreams m keeps p → AreBegunStreams m keeps q
    opens_begun id config p r q h k =
        begun_over m keeps w v u p q (opens_goes (entry_place id p.entries) id config p.association p.entries r q.association q.entries h.0)
        (opens_past (entry_place id p.entries) id config p.association p.entries r q.association q.entries h.0) k

    pub closes_begun : (id : ℕ) (p : SctpStreams S) (r : Result (Unit {0}) AllocError) (q : SctpStreams S) → ClosesDataStream m id p r q
        → AreBegunStreams m keeps p → AreBegunStreams m keeps q
    closes_begun id p r q h k =
        begun_over m keeps w v u p q
        (closes_goes (entry_place id p.entries) id p.association p.entries p.resets r q.association q.entries q.resets h.0)
        (closes_past (entry_place id p.entries) id p.association p.entries p.resets r q.association q.entries q.resets h.0) k

    pub threshold_begun : (n : ℕ) (place : Option ℕ) (p q : SctpStreams S) → SetsThreshold S n place p q → AreBegunStreams m keeps p
        → AreBegunStreams m keeps q
    threshold_begun n None p q h k = begun_same m keeps w v u p q h k
    threshold_begun n (Some place) p q h k =
        begun_over m keeps w v u p q
        (λ s. goes_same m keeps s p.association q.association (ap (λ (y : SctpStreams S). y.association) h.2))
        (λ s x.
        past_is s (slice_set p.entries place (record h.0 { threshold = threshold_set n h.0.threshold })) q.entries
        (ap (λ (y : SctpStreams S). y.entries) h.2)
        (past_set s p.entries place h.0 (record h.0 { threshold = threshold_set n h.0.threshold }) h.1 (refl, λ y. y) x))
        k

    timed_begun : (p n q : SctpStreams S) (now : ℕ) (r : Result (Unit {0}) AllocError) → q ≡ n → n.entries ≡ unclosed p.entries
        → m.timed p.association now r q.association → AreBegunStreams m keeps p → AreBegunStreams m keeps q
    timed_begun p n q now r is entries h k =
        begun_over m keeps w v u p q (λ s. goes_act m keeps w v u s p.association q.association (Stirred (Timed now)) (r, h) refl)
        (λ s x. past_is s (unclosed p.entries) q.entries (ap (λ (y : SctpStreams S). y.entries) is ∙ entries) (past_unclosed s p.entries x)) k

    timed_at : (st : RtcSctpState) (now : ℕ) (p : SctpStreams S) (wake : Signals) (r : Result (Unit {0}) AllocError) (q : SctpStreams S) (wake' : Signals)
        → TimedBy m st now p wake r q wake' → AreBegunStreams m keeps p → AreBegunStreams m keeps q
    timed_at Uninited now p wake r q wake' h k = begun_same m keeps w v u p q h.1 k
    timed_at AwaitRemoteAssociation now p wake r q wake' h k =
        begun_over m keeps w v u p q
        (λ s. goes_same m keeps s p.association q.association (ap (λ (y : SctpStreams S). y.association) h.1))
        (λ s x. past_is s (unclosed p.entries) q.entries (ap (λ (y : SctpStreams S). y.entries) h.1) (past_unclosed s p.entries x)) k
    timed_at AwaitAssociationEstablished now p wake r q wake' h k = timed_begun p _ q now r h.1 refl h.0 k
    timed_at Established now p wake r q wake' h k = timed_begun p _ q now r h.1 refl h.0 k

    pub timeout_begun : (now : ℕ) (p : SctpStreams S) (wake : Signals) (r : Result (Unit {0}) AllocError) (q : SctpStreams S) (wake' : Signals)
        → TakesTimeout m now p wake r q wake' → AreBegunStreams m keeps p → AreBegunStreams m keeps q
    timeout_begun now p wake r q wake' h k = timed_at p.state now p wake r q wake' h k

    -- acts that open and read no stream, over the same entries
    pub acts_begun : (acts : List AssociationAct) (p q : SctpStreams S) → Moved m p.association acts q.association
        → OpenAndReadNone acts → q.entries ≡ p.entries → AreBegunStreams m keeps p → AreBegunStreams m keeps q
    acts_begun acts p q went none entries k =
        begun_over m keeps w v u p q (λ s. goes_acts m keeps w v u s acts p.association q.association went none)
        (λ s x. past_is s p.entries q.entries entries x) k
