-- What moments, openings, closes and thresholds of streams leave of one whose entry says of a generation that data of it was told.
use Rattle.std.proofs.Common.{◌≡◌, ℕ, Bool, true, false, List, [], Option, Some, None, Result, Ok, Err, refl, sym, ap, subst}
use Rattle.std.specs.Prelude.{is_some, slice_set}
use Rattle.std.specs.declared.alloc.AllocError.{AllocError}
use Rattle.rtc_ready.specs.Signals.{Signals}
use Rattle.rtc_wire.specs.declared.channel_config.ChannelConfig.{ChannelConfig}
use Rattle.rtc_parts.specs.AssociationActs.{AssociationAct, Moved}
use Rattle.rtc_parts.specs.AssociationLaws.{AssociationLaws}
use Rattle.rtc_parts.specs.AssociationMeaning.{AssociationMeaning}
use Rattle.rtc_parts.specs.AssociationWords.{told}
use Rattle.rtc_sctp_entries.specs.declared.asked.Asked.{Asked}
use Rattle.rtc_sctp_entries.specs.declared.asked.Asked.TheVariants as did
use Rattle.rtc_sctp_entries.specs.declared.stream_entry_state.StreamEntryState.{StreamEntryState}
use Rattle.rtc_sctp_entries.specs.declared.stream_entry_state.StreamEntryState.TheVariants.{AwaitOpen, AwaitConfig, AwaitDcepAck, Open, Closed}
use Rattle.rtc_sctp_entries.specs.declared.stream_entry.StreamEntry.{StreamEntry}
use Rattle.rtc_sctp_entries.specs.Entries.{entry_place, marked_entry, new_entry, new_place, threshold_set, unclosed}
use Rattle.rtc_sctp.specs.declared.rtc_sctp_state.RtcSctpState.{RtcSctpState}
use Rattle.rtc_sctp.specs.declared.rtc_sctp_state.RtcSctpState.TheVariants.{Uninited, AwaitRemoteAssociation, AwaitAssociationEstablished, Established}
use Rattle.rtc_sctp.specs.Streams.{SctpStreams}
use Rattle.rtc_sctp.specs.Calls.{TimedBy, TakesTimeout}
use Rattle.rtc_sctp.specs.StreamCalls.{ConfigBy, TakesConfig, Declined, Answered, OpensAwaiting, OpensOver, OpensAt, OpensStream, ClosesAt, ClosesDataStream, SetsThreshold}
use Rattle.rtc_sctp_laws.specs.StreamActs.{CallDid}
use Rattle.rtc_sctp_laws.proofs.CallActs.{closes_did, opens_did, timeout_did}
use Rattle.rtc_sctp_laws.proofs.EntriesOf.{none_placed}
use Rattle.rtc_sctp_laws.proofs.LiveCalls.{over_live}
use Rattle.rtc_sctp_laws.proofs.OneEntry.{one_insert, one_set}
use Rattle.rtc_run_laws.proofs.UnendedStreams.{unended_acts, unended_did}
use Rattle.rtc_run_laws.proofs.UnendedEntries.{Says, says_marked}
use Rattle.rtc_run_laws.proofs.UnendedTours.{HasSaid, said_is, said_on}
use Rattle.rtc_run_laws.proofs.UnendedEvents.{said_unclosed}

module _ {S : Type 0} (m : AssociationMeaning S) (g : ℕ) (w : AssociationLaws m) (s : ℕ) where
  -- acts that report nothing, over the same entries
  pub acts_said : (acts : List AssociationAct) (a b : S) (es es' : List StreamEntry) → told acts ≡ [] → Moved m a acts b → es' ≡ es
      → HasSaid m g s a es → HasSaid m g s b es'
  acts_said acts a b es es' none went is h = said_is m g s b es es' is (said_on m g s a b es (unended_acts m w s g acts a b none went) h)

  call_said : (ins : List (List ℕ)) (p q : SctpStreams S) (es : List StreamEntry) → CallDid m ins [] p q → HasSaid m g s p.association es
      → HasSaid m g s q.association es
  call_said ins p q es d h =
      said_on m g s p.association q.association es (unended_did m w s g ins [] [] [] p.association q.association d.did) h

  -- ---- moments

  timed_said : (st : RtcSctpState) (now : ℕ) (p : SctpStreams S) (wake : Signals) (r : Result (Unit {0}) AllocError) (q : SctpStreams S) (wake' : Signals)
      → TimedBy m st now p wake r q wake' → HasSaid m g s q.association p.entries → HasSaid m g s q.association q.entries
  timed_said Uninited now p wake r q wake' h k = said_is m g s q.association p.entries q.entries (ap (λ (y : SctpStreams S). y.entries) h.1) k
  timed_said AwaitRemoteAssociation now p wake r q wake' h k =
      said_is m g s q.association (unclosed p.entries) q.entries (ap (λ (y : SctpStreams S). y.entries) h.1)
      (said_unclosed m g s q.association p.entries k)
  timed_said AwaitAssociationEstablished now p wake r q wake' h k =
      said_is m g s q.association (unclosed p.entries) q.entries (ap (λ (y : SctpStreams S). y.entries) h.1)
      (said_unclosed m g s q.association p.entries k)
  timed_said Established now p wake r q wake' h k =
      said_is m g s q.association (unclosed p.entries) q.entries (ap (λ (y : SctpStreams S). y.entries) h.1)
      (said_unclosed m g s q.association p.entries k)

  pub timeout_said : (now : ℕ) (p : SctpStreams S) (wake : Signals) (r : Result (Unit {0}) AllocError) (q : SctpStreams S) (wake' : Signals)
      → TakesTimeout m now p wake r q wake' → HasSaid m g s p.association p.entries → HasSaid m g s q.association q.entries
  timeout_said now p wake r q wake' h k =
      timed_said p.state now p wake r q wake' h (call_said [] p q p.entries (timeout_did m now p wake r q wake' h) k)

  -- ---- openings

  marked_says : (b : S) (e e' : StreamEntry) → e' ≡ marked_entry e → Says m g s b e → Says m g s b e'
  marked_says b e e' is h = subst (λ (x : StreamEntry). Says m g s b x) (sym is) (says_marked m g s b b e h)

  config_says : (answer : Asked) (config : ChannelConfig) (b : S) (e : StreamEntry) (r : Result (Unit {0}) AllocError) (e' : StreamEntry)
      → ConfigBy answer config e r e' → Says m g s b e → Says m g s b e'
  config_says did.Done config b e (Ok x) e' h k = subst (λ (y : StreamEntry). Says m g s b y) (sym h) tt
  config_says did.Done config b e (Err x) e' h k = absurd h
  config_says did.Refused config b e (Ok x) e' h k = marked_says b e e' h k
  config_says did.Refused config b e (Err x) e' h k = absurd h
  config_says did.OutOfMemory config b e (Ok x) e' h k = absurd h
  config_says did.OutOfMemory config b e (Err x) e' h k = subst (λ (y : StreamEntry). Says m g s b y) (sym h) k

  takes_says : (config : ChannelConfig) (a b : S) (e : StreamEntry) (r : Result (Unit {0}) AllocError) (e' : StreamEntry)
      → TakesConfig m config a e r b e' → Says m g s b e → Says m g s b e'
  takes_says config a b e r e' (Declined c f i h) k = marked_says b e e' h k
  takes_says config a b e r e' (Answered answer c f h) k = config_says answer config b e r e' h k

  awaiting_says : (set : Bool) (config : ChannelConfig) (a b : S) (e : StreamEntry) (r : Result (Unit {0}) AllocError) (e' : StreamEntry)
      → OpensAwaiting m set config a e r b e' → Says m g s b e → Says m g s b e'
  awaiting_says true config a b e r e' h k = marked_says b e e' h.2 k
  awaiting_says false config a b e r e' h k = takes_says config a b e r e' h k

  over_says : (st : StreamEntryState) (config : ChannelConfig) (a b : S) (e : StreamEntry) (r : Result (Unit {0}) AllocError) (e' : StreamEntry)
      → OpensOver m st config a e r b e' → Says m g s b e → Says m g s b e'
  over_says AwaitConfig config a b e r e' h k = awaiting_says (is_some e.config) config a b e r e' h k
  over_says AwaitOpen config a b e r e' h k = marked_says b e e' h.2 k
  over_says AwaitDcepAck config a b e r e' h k = marked_says b e e' h.2 k
  over_says Open config a b e r e' h k = marked_says b e e' h.2 k
  over_says Closed config a b e r e' h k = marked_says b e e' h.2 k

  opens_at : (place : Option ℕ) (id : ℕ) (config : ChannelConfig) (a : S) (es : List StreamEntry) (r : Result (Unit {0}) AllocError) (b : S)
      (es' : List StreamEntry) → entry_place id es ≡ place → OpensAt m place id config a es r b es' → HasSaid m g s b es → HasSaid m g s b es'
  opens_at None id config a es (Ok x) b es' at h k =
      said_is m g s b _ es' h.1
      (one_insert ⊥ (Says m g s b) s es (new_place id es) (new_entry id AwaitOpen (Some config)) (none_placed id es at) (λ same z. absurd z) k)
  opens_at None id config a es (Err x) b es' at h k = said_is m g s b es es' h.1 k
  opens_at (Some place) id config a es r b es' at h k =
      said_is m g s b (slice_set es place h.1) es' h.4
      (one_set ⊥ (Says m g s b) s es place h.0 h.1 h.2 (over_live m h.0.state config a h.0 r b h.1 g refl h.3).0
      (λ x. over_says h.0.state config a b h.0 r h.1 h.3 x) k)

  pub opens_said : (id : ℕ) (config : ChannelConfig) (p : SctpStreams S) (r : Result (Unit {0}) AllocError) (q : SctpStreams S)
      → OpensStream m id config p r q → HasSaid m g s p.association p.entries → HasSaid m g s q.association q.entries
  opens_said id config p r q h k =
      opens_at (entry_place id p.entries) id config p.association p.entries r q.association q.entries refl h.0
      (call_said [] p q p.entries (opens_did m id config p r q h) k)

  -- ---- closes

  closes_at : (place : Option ℕ) (id : ℕ) (a : S) (es : List StreamEntry) (resets : List ℕ) (r : Result (Unit {0}) AllocError) (b : S)
      (es' : List StreamEntry) (resets' : List ℕ) → ClosesAt m place id a es resets r b es' resets' → HasSaid m g s b es → HasSaid m g s b es'
  closes_at None id a es resets r b es' resets' h k = said_is m g s b es es' h.2 k
  closes_at (Some place) id a es resets r b es' resets' h k =
      said_is m g s b (slice_set es place (marked_entry h.0.0)) es' h.0.2
      (one_set ⊥ (Says m g s b) s es place h.0.0 (marked_entry h.0.0) h.0.1 refl (λ x. says_marked m g s b b h.0.0 x) k)

  pub closes_said : (id : ℕ) (p : SctpStreams S) (r : Result (Unit {0}) AllocError) (q : SctpStreams S) → ClosesDataStream m id p r q
      → HasSaid m g s p.association p.entries → HasSaid m g s q.association q.entries
  closes_said id p r q h k =
      closes_at (entry_place id p.entries) id p.association p.entries p.resets r q.association q.entries q.resets h.0
      (call_said [] p q p.entries (closes_did m id p r q h) k)

  pub threshold_said : (n : ℕ) (place : Option ℕ) (p q : SctpStreams S) → SetsThreshold S n place p q → HasSaid m g s p.association p.entries
      → HasSaid m g s q.association q.entries
  threshold_said n None p q h k = subst (λ (x : SctpStreams S). HasSaid m g s x.association x.entries) (sym h) k
  threshold_said n (Some place) p q h k =
      subst (λ (x : SctpStreams S). HasSaid m g s x.association x.entries) (sym h.2)
      (one_set ⊥ (Says m g s p.association) s p.entries place h.0 (record h.0 { threshold = threshold_set n h.0.threshold }) h.1 refl (λ x. x) k)
