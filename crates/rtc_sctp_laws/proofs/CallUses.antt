-- What the other calls of streams leave of the use of each stream.
use Rattle.std.proofs.Common.{◌≡◌, ◌≢◌, ◌∙◌, inl, inr, ℕ, ◌<◌, ◌≤◌, ◌==◌, ◌&&◌, not, Bool, true, false, true≢false, List, [], ◌∷◌, ◌++◌, append-nil, length, Option, Some, None, Result, Ok, Err, refl, sym, ap, subst, arith}
use Rattle.std.specs.Prelude.{is_some, slice_set}
use Rattle.std.specs.declared.alloc.AllocError.{AllocError}
use Rattle.std.proofs.lemmas.Bool.{eqb-true, eqb-false}
use Rattle.rtc_ready.specs.Signals.{Signals}
use Rattle.rtc_wire.specs.declared.channel_config.ChannelConfig.{ChannelConfig}
use Rattle.rtc_parts.specs.declared.assoc_error.AssocError.{AssocError}
use Rattle.rtc_parts.specs.declared.ppi.Ppi.{Ppi}
use Rattle.rtc_parts.specs.AssociationMeaning.{AssociationMeaning}
use Rattle.rtc_parts.specs.AssociationActs.{AssociationAct, Given, Acted, Moved}
use Rattle.rtc_parts.specs.AssociationLaws.{AssociationLaws}
use Rattle.rtc_parts.proofs.AssociationLemmas.{generation_rises}
use Rattle.rtc_sctp_entries.specs.declared.asked.Asked.{Asked}
use Rattle.rtc_sctp_entries.specs.declared.asked.Asked.TheVariants as did
use Rattle.rtc_sctp_entries.specs.declared.stream_entry_state.StreamEntryState.{StreamEntryState}
use Rattle.rtc_sctp_entries.specs.declared.stream_entry_state.StreamEntryState.TheVariants.{AwaitOpen, AwaitConfig, AwaitDcepAck, Open, Closed}
use Rattle.rtc_sctp_entries.specs.declared.stream_entry.StreamEntry.{StreamEntry}
use Rattle.rtc_sctp_entries.specs.Entries.{entry_place, new_place, new_entry, marked_entry, has_open, is_out_of_band}
use Rattle.rtc_sctp.specs.declared.rtc_sctp_state.RtcSctpState.{RtcSctpState}
use Rattle.rtc_sctp.specs.declared.rtc_sctp_state.RtcSctpState.TheVariants.{Uninited, AwaitRemoteAssociation, AwaitAssociationEstablished, Established}
use Rattle.rtc_sctp_values.specs.declared.proto_error.ProtoError.TheVariants as proto
use Rattle.rtc_sctp_values.specs.declared.sctp_error.SctpError.{SctpError}
use Rattle.rtc_sctp_values.specs.declared.sctp_error.SctpError.TheVariants as sctp
use Rattle.rtc_sctp_values.specs.InitHalves.{InitHalves}
use Rattle.rtc_sctp.specs.Streams.{SctpStreams, is_established}
use Rattle.rtc_sctp.specs.Calls.{Inits, ShutBy, Shuts, is_ended, WrittenIf, WritesStream, can_write, is_current, written_ppi, is_nil, write_answer, InputIf, TakesInput, TimedBy, TakesTimeout}
use Rattle.rtc_sctp.specs.StreamCalls.{ConfigBy, TakesConfig, Declined, Answered, OpensAwaiting, OpensOver, OpensAt, OpensStream, ClosesAt, ClosesDataStream, SetsThreshold}
use Rattle.rtc_sctp_laws.specs.StreamMessages.{StreamMessage, is_dcep, stream_message}
use Rattle.rtc_sctp_laws.specs.StreamActs.{AssociationDid, CallDid, written_message}
use Rattle.rtc_sctp_laws.proofs.ActLemmas.{wrote_did}
use Rattle.rtc_sctp_laws.proofs.CallActs.{inits_did, shuts_did, timeout_did, opens_did, closes_did}
use Rattle.rtc_sctp_laws.specs.GenerationLaws.{KeepsGeneration, GenerationLaws}
use Rattle.rtc_sctp_laws.specs.StreamUses.{any_dcep, messages_of, entries_of, IsUsedIn, IsDcepInBand, IsWithoutDcep, IsUsedBy, EntryUsed, NoneUsed, AreUsedIn, IsUsed}
use Rattle.rtc_sctp_laws.specs.UsedCalls.{IsUsedOver}
use Rattle.rtc_sctp_laws.proofs.GenerationMessages.{messages_other, none_data, own_one}
use Rattle.rtc_sctp_laws.proofs.KnownUses.{now_more, now_of, open_without, write_facts}
use Rattle.rtc_sctp_laws.proofs.KeptUses.{did_keeps, are_used_kept, risen_used, spent_kept, unclosed_used, reached_kept, reached_wrote}
use Rattle.rtc_sctp_laws.proofs.OneEntry.{one_set, one_insert}
use Rattle.rtc_sctp_laws.proofs.EntriesOf.{used_is, none_placed, open_used}
use Rattle.rtc_sctp_laws.proofs.UsedTours.{used_beside}

module _ {S : Type 0} (m : AssociationMeaning S) where
  -- steps that keep the generation
  pub kept_use : (s : ℕ) (ws hs : List StreamMessage) (a b : S) (es : List StreamEntry) → KeepsGeneration m s a b → IsUsed m s ws hs a es → IsUsed m s ws hs b es
  kept_use s ws hs a b es k h = record {
    reached = reached_kept m s ws hs a b k h.reached;
    used = are_used_kept m (entries_of s es) s a b ws hs k h.used;
  }

  -- an entry is marked
  used_mark_in : (s : ℕ) (a : S) (ws hs : List StreamMessage) (st : StreamEntryState) (marked : Bool) (own : Option ℕ) → IsUsedIn m st marked own s a ws hs → IsUsedIn m st true own s a ws hs
  used_mark_in s a ws hs AwaitOpen marked own k = k
  used_mark_in s a ws hs AwaitConfig marked own k = tt
  used_mark_in s a ws hs AwaitDcepAck marked own k = tt
  used_mark_in s a ws hs Open marked own k = tt
  used_mark_in s a ws hs Closed marked own k = k

  used_mark : (s : ℕ) (a : S) (ws hs : List StreamMessage) (e : StreamEntry) → IsUsedBy m e s a ws hs → IsUsedBy m (marked_entry e) s a ws hs
  used_mark s a ws hs e k = (used_mark_in s a _ _ e.state e.marked e.generation k.0, k.1)

  -- starts and ends
  pub inits_entries : (client : Bool) (now max : ℕ) (snap : Option InitHalves) (p : SctpStreams S) (r : Result (Unit {0}) SctpError) (q : SctpStreams S) → Inits m client now max snap p r q → q.entries ≡ p.entries
  inits_entries client now max snap p (Ok x) q h = ap (λ (y : SctpStreams S). y.entries) h.2
  inits_entries client now max snap p (Err (sctp.Proto proto.Started)) q h = ap (λ (y : SctpStreams S). y.entries) h.1
  inits_entries client now max snap p (Err (sctp.Proto proto.SnapHalf)) q h = ap (λ (y : SctpStreams S). y.entries) h.2
  inits_entries client now max snap p (Err (sctp.Proto proto.Fault)) q h = ap (λ (y : SctpStreams S). y.entries) h.2
  inits_entries client now max snap p (Err sctp.Alloc) q h = ap (λ (y : SctpStreams S). y.entries) h.2
  inits_entries client now max snap p (Err e) q h = absurd h

  pub shut_entries : (b : Bool) (p : SctpStreams S) (r : Result (Unit {0}) SctpError) (q : SctpStreams S) → ShutBy m b p r q → q.entries ≡ p.entries
  shut_entries true p r q h = ap (λ (y : SctpStreams S). y.entries) h.1
  shut_entries false p (Ok x) q h = ap (λ (y : SctpStreams S). y.entries) h.1
  shut_entries false p (Err (sctp.Proto proto.Fault)) q h = ap (λ (y : SctpStreams S). y.entries) h.1
  shut_entries false p (Err sctp.Alloc) q h = ap (λ (y : SctpStreams S). y.entries) h.1
  shut_entries false p (Err e) q h = absurd h

  module _ (v : GenerationLaws m) where
    -- a call that wrote nothing, and what it did to the entries
    call_use : (s : ℕ) (ws hs : List StreamMessage) (p q : SctpStreams S) → CallDid m [] [] p q
        → (AreUsedIn m (entries_of s p.entries) s q.association ws hs → AreUsedIn m (entries_of s q.entries) s q.association ws hs)
        → IsUsedOver m s ws hs p → IsUsedOver m s ws hs q
    call_use s ws hs p q d keeps h =
        let left = kept_use s ws hs p.association q.association p.entries (did_keeps m v s [] [] [] [] p.association q.association d.did) h in
        record { reached = left.reached; used = keeps left.used }

    same_use : (s : ℕ) (ws hs : List StreamMessage) (p q : SctpStreams S) → CallDid m [] [] p q → q.entries ≡ p.entries → IsUsedOver m s ws hs p → IsUsedOver m s ws hs q
    same_use s ws hs p q d e h = call_use s ws hs p q d (λ k. used_is m _ _ s q.association ws hs (ap (entries_of s) e) k) h

    pub inits_use : (client : Bool) (now max : ℕ) (snap : Option InitHalves) (p : SctpStreams S) (r : Result (Unit {0}) SctpError) (q : SctpStreams S) (s : ℕ) (ws hs : List StreamMessage) → Inits m client now max snap p r q → IsUsedOver m s ws hs p → IsUsedOver m s ws hs q
    inits_use client now max snap p r q s ws hs h k = same_use s ws hs p q (inits_did m client now max snap p r q h) (inits_entries client now max snap p r q h) k

    pub shuts_use : (p : SctpStreams S) (r : Result (Unit {0}) SctpError) (q : SctpStreams S) (s : ℕ) (ws hs : List StreamMessage) → Shuts m p r q → IsUsedOver m s ws hs p → IsUsedOver m s ws hs q
    shuts_use p r q s ws hs h k = same_use s ws hs p q (shuts_did m p r q h) (shut_entries (is_ended m p.association) p r q h) k

    -- moments
    timed_entries : (st : RtcSctpState) (now : ℕ) (p : SctpStreams S) (wake : Signals) (r : Result (Unit {0}) AllocError) (q : SctpStreams S) (wake' : Signals) (s : ℕ) (a : S) (ws hs : List StreamMessage) → TimedBy m st now p wake r q wake' → AreUsedIn m (entries_of s p.entries) s a ws hs → AreUsedIn m (entries_of s q.entries) s a ws hs
    timed_entries Uninited now p wake r q wake' s a ws hs h k = used_is m _ _ s a ws hs (ap (λ (y : SctpStreams S). entries_of s y.entries) h.1) k
    timed_entries AwaitRemoteAssociation now p wake r q wake' s a ws hs h k = used_is m _ _ s a ws hs (ap (λ (y : SctpStreams S). entries_of s y.entries) h.1) (unclosed_used m s a ws hs p.entries k)
    timed_entries AwaitAssociationEstablished now p wake r q wake' s a ws hs h k = used_is m _ _ s a ws hs (ap (λ (y : SctpStreams S). entries_of s y.entries) h.1) (unclosed_used m s a ws hs p.entries k)
    timed_entries Established now p wake r q wake' s a ws hs h k = used_is m _ _ s a ws hs (ap (λ (y : SctpStreams S). entries_of s y.entries) h.1) (unclosed_used m s a ws hs p.entries k)

    pub timeout_use : (now : ℕ) (p : SctpStreams S) (wake : Signals) (r : Result (Unit {0}) AllocError) (q : SctpStreams S) (wake' : Signals) (s : ℕ) (ws hs : List StreamMessage) → TakesTimeout m now p wake r q wake' → IsUsedOver m s ws hs p → IsUsedOver m s ws hs q
    timeout_use now p wake r q wake' s ws hs h k = call_use s ws hs p q (timeout_did m now p wake r q wake' h) (λ u. timed_entries p.state now p wake r q wake' s q.association ws hs h u) k

    -- streams that are opened
    config_used : (o : Asked) (config : ChannelConfig) (e : StreamEntry) (r : Result (Unit {0}) AllocError) (e' : StreamEntry) (s : ℕ) (a : S) (ws hs : List StreamMessage) → e.state ≡ AwaitConfig → ConfigBy o config e r e' → (e'.id ≡ e.id) × (IsUsedBy m e s a ws hs → IsUsedBy m e' s a ws hs)
    config_used did.Done config e (Ok x) e' s a ws hs st h =
        (ap (λ (y : StreamEntry). y.id) h, λ k. subst (λ (y : StreamEntry). IsUsedBy m y s a ws hs) (sym h) (tt, open_without m (is_some config.negotiated) s a _ (waiting k.1).1))
      where
        waiting : IsDcepInBand m e.state (is_out_of_band e) s a (messages_of s (m.generation a s) ws) → IsDcepInBand m AwaitConfig (is_out_of_band e) s a (messages_of s (m.generation a s) ws)
        waiting k = subst (λ (y : StreamEntryState). IsDcepInBand m y (is_out_of_band e) s a (messages_of s (m.generation a s) ws)) st k
    config_used did.Done config e (Err x) e' s a ws hs st h = absurd h
    config_used did.Refused config e (Ok x) e' s a ws hs st h = (ap (λ (y : StreamEntry). y.id) h, λ k. subst (λ (y : StreamEntry). IsUsedBy m y s a ws hs) (sym h) (used_mark s a ws hs e k))
    config_used did.Refused config e (Err x) e' s a ws hs st h = absurd h
    config_used did.OutOfMemory config e (Ok x) e' s a ws hs st h = absurd h
    config_used did.OutOfMemory config e (Err x) e' s a ws hs st h = (ap (λ (y : StreamEntry). y.id) h, λ k. subst (λ (y : StreamEntry). IsUsedBy m y s a ws hs) (sym h) k)

    mark_used : (e e' : StreamEntry) (s : ℕ) (a : S) (ws hs : List StreamMessage) → e' ≡ marked_entry e → (e'.id ≡ e.id) × (IsUsedBy m e s a ws hs → IsUsedBy m e' s a ws hs)
    mark_used e e' s a ws hs h = (ap (λ (y : StreamEntry). y.id) h, λ k. subst (λ (y : StreamEntry). IsUsedBy m y s a ws hs) (sym h) (used_mark s a ws hs e k))

    takes_used : (config : ChannelConfig) (p : S) (e : StreamEntry) (r : Result (Unit {0}) AllocError) (q : S) (e' : StreamEntry) (s : ℕ) (a : S) (ws hs : List StreamMessage) → e.state ≡ AwaitConfig → TakesConfig m config p e r q e' → (e'.id ≡ e.id) × (IsUsedBy m e s a ws hs → IsUsedBy m e' s a ws hs)
    takes_used config p e r q e' s a ws hs st (Declined c f g h) = mark_used e e' s a ws hs h
    takes_used config p e r q e' s a ws hs st (Answered answer c f h) = config_used answer config e r e' s a ws hs st h

    awaiting_used : (set : Bool) (config : ChannelConfig) (p : S) (e : StreamEntry) (r : Result (Unit {0}) AllocError) (q : S) (e' : StreamEntry) (s : ℕ) (a : S) (ws hs : List StreamMessage) → e.state ≡ AwaitConfig → OpensAwaiting m set config p e r q e' → (e'.id ≡ e.id) × (IsUsedBy m e s a ws hs → IsUsedBy m e' s a ws hs)
    awaiting_used true config p e r q e' s a ws hs st h = mark_used e e' s a ws hs h.2
    awaiting_used false config p e r q e' s a ws hs st h = takes_used config p e r q e' s a ws hs st h

    over_used : (st : StreamEntryState) (config : ChannelConfig) (p : S) (e : StreamEntry) (r : Result (Unit {0}) AllocError) (q : S) (e' : StreamEntry) (s : ℕ) (a : S) (ws hs : List StreamMessage) → e.state ≡ st → OpensOver m st config p e r q e' → (e'.id ≡ e.id) × (IsUsedBy m e s a ws hs → IsUsedBy m e' s a ws hs)
    over_used AwaitConfig config p e r q e' s a ws hs is h = awaiting_used _ config p e r q e' s a ws hs is h
    over_used AwaitOpen config p e r q e' s a ws hs is h = mark_used e e' s a ws hs h.2
    over_used AwaitDcepAck config p e r q e' s a ws hs is h = mark_used e e' s a ws hs h.2
    over_used Open config p e r q e' s a ws hs is h = mark_used e e' s a ws hs h.2
    over_used Closed config p e r q e' s a ws hs is h = mark_used e e' s a ws hs h.2

    open_entries : (o : Option ℕ) (id : ℕ) (config : ChannelConfig) (p : S) (es : List StreamEntry) (r : Result (Unit {0}) AllocError) (q : S) (es' : List StreamEntry) (s : ℕ) (a : S) (ws hs : List StreamMessage) → entry_place id es ≡ o → OpensAt m o id config p es r q es'
        → AreUsedIn m (entries_of s es) s a ws hs → AreUsedIn m (entries_of s es') s a ws hs
    open_entries None id config p es (Ok x) q es' s a ws hs e h k =
        used_is m _ _ s a ws hs (ap (entries_of s) h.1) (one_insert (NoneUsed m s a ws hs) (EntryUsed m s a ws hs) s es (new_place id es) (new_entry id AwaitOpen (Some config)) (none_placed id es e) (λ same u. (u, tt)) k)
    open_entries None id config p es (Err x) q es' s a ws hs e h k = used_is m _ _ s a ws hs (ap (entries_of s) h.1) k
    open_entries (Some place) id config p es r q es' s a ws hs e h k =
        let over = over_used h.0.state config p h.0 r q h.1 s a ws hs refl h.3 in
        used_is m _ _ s a ws hs (ap (entries_of s) h.4) (one_set (NoneUsed m s a ws hs) (EntryUsed m s a ws hs) s es place h.0 h.1 h.2 over.0 over.1 k)

    pub opens_use : (id : ℕ) (config : ChannelConfig) (p : SctpStreams S) (r : Result (Unit {0}) AllocError) (q : SctpStreams S) (s : ℕ) (ws hs : List StreamMessage) → OpensStream m id config p r q → IsUsedOver m s ws hs p → IsUsedOver m s ws hs q
    opens_use id config p r q s ws hs h k = call_use s ws hs p q (opens_did m id config p r q h) (λ u. open_entries (entry_place id p.entries) id config p.association p.entries r q.association q.entries s q.association ws hs refl h.0 u) k

    -- streams that are closed
    close_entries : (o : Option ℕ) (id : ℕ) (p : S) (es : List StreamEntry) (resets : List ℕ) (r : Result (Unit {0}) AllocError) (q : S) (es' : List StreamEntry) (resets' : List ℕ) (s : ℕ) (a : S) (ws hs : List StreamMessage) → ClosesAt m o id p es resets r q es' resets'
        → AreUsedIn m (entries_of s es) s a ws hs → AreUsedIn m (entries_of s es') s a ws hs
    close_entries None id p es resets r q es' resets' s a ws hs h k = used_is m _ _ s a ws hs (ap (entries_of s) h.2) k
    close_entries (Some place) id p es resets r q es' resets' s a ws hs h k =
        used_is m _ _ s a ws hs (ap (entries_of s) h.0.2) (one_set (NoneUsed m s a ws hs) (EntryUsed m s a ws hs) s es place h.0.0 (marked_entry h.0.0) h.0.1 refl (λ u. used_mark s a ws hs h.0.0 u) k)

    pub closes_use : (id : ℕ) (p : SctpStreams S) (r : Result (Unit {0}) AllocError) (q : SctpStreams S) (s : ℕ) (ws hs : List StreamMessage) → ClosesDataStream m id p r q → IsUsedOver m s ws hs p → IsUsedOver m s ws hs q
    closes_use id p r q s ws hs h k = call_use s ws hs p q (closes_did m id p r q h) (λ u. close_entries (entry_place id p.entries) id p.association p.entries p.resets r q.association q.entries q.resets s q.association ws hs h.0 u) k

    -- thresholds, and what leaves the association and the entries
    pub over_same : (p q : SctpStreams S) (s : ℕ) (ws hs : List StreamMessage) → q.association ≡ p.association → q.entries ≡ p.entries → IsUsedOver m s ws hs p → IsUsedOver m s ws hs q
    over_same p q s ws hs e f h = subst (λ (x : S). IsUsed m s ws hs x q.entries) (sym e) (subst (λ (x : List StreamEntry). IsUsed m s ws hs p.association x) (sym f) h)

    pub threshold_use : (n : ℕ) (o : Option ℕ) (p q : SctpStreams S) (s : ℕ) (ws hs : List StreamMessage) → SetsThreshold S n o p q → IsUsedOver m s ws hs p → IsUsedOver m s ws hs q
    threshold_use n None p q s ws hs h k = over_same p q s ws hs (ap (λ (y : SctpStreams S). y.association) h) (ap (λ (y : SctpStreams S). y.entries) h) k
    threshold_use n (Some place) p q s ws hs h k =
        over_same (record p { entries = slice_set p.entries place (record h.0 { threshold = _ }); rests = false }) q s ws hs (ap (λ (y : SctpStreams S). y.association) h.2) (ap (λ (y : SctpStreams S). y.entries) h.2)
        (record { reached = k.reached; used = one_set (NoneUsed m s p.association ws hs) (EntryUsed m s p.association ws hs) s p.entries place h.0 (record h.0 { threshold = _ }) h.1 refl (λ u. u) k.used })

    module _ (w : AssociationLaws m) where
      -- writes
      with_none : (s : ℕ) (ws hs : List StreamMessage) (q : SctpStreams S) → IsUsedOver m s ws hs q → IsUsedOver m s (ws ++ []) hs q
      with_none s ws hs q h = subst (λ (l : List StreamMessage). IsUsedOver m s l hs q) (sym (append-nil ws)) h

      open_of_write : (a b c : Bool) → ((a && b) && c) ≡ true → b ≡ true
      open_of_write true true c h = refl
      open_of_write true false c h = h
      open_of_write false b c h = absurd (true≢false (sym h))

      -- one that the association took
      took_use : (id : ℕ) (i : Ppi) (bytes : List ℕ) (n : ℕ) (p q : SctpStreams S) (s : ℕ) (ws hs : List StreamMessage) → is_dcep i ≡ false → has_open id p.entries ≡ true → q.entries ≡ p.entries → m.wrote p.association id i bytes (Ok n) q.association → IsUsedOver m s ws hs p
          → IsUsedOver m s (ws ++ stream_message id (m.generation p.association id) i bytes ∷ []) hs q
      took_use id i bytes n p q s ws hs data_is there e h k = by (id == s) refl
        where
          did_is : AssociationDid m [] [] [] (stream_message id (m.generation p.association id) i bytes ∷ []) [] p.association q.association
          did_is = wrote_did m p.association q.association id i bytes (Ok n) h

          keeps : (o : ℕ) → KeepsGeneration m o p.association q.association
          keeps o = did_keeps m v o [] [] (stream_message id (m.generation p.association id) i bytes ∷ []) [] p.association q.association did_is

          without : IsWithoutDcep m id p.association (now_of m p.association id ws)
              → IsWithoutDcep m id q.association (now_of m q.association id (ws ++ stream_message id (m.generation p.association id) i bytes ∷ []))
          without (inl u) =
              inl
              (ap any_dcep (now_more m id p.association q.association ws i bytes (keeps id))
              ∙ none_data (now_of m p.association id ws) (stream_message id (m.generation p.association id) i bytes) u data_is)
          without (inr u) = inr (spent_kept m id p.association q.association (keeps id) u)

          own : IsUsedOver m id ws hs p → IsUsedOver m id (ws ++ stream_message id (m.generation p.association id) i bytes ∷ []) hs q
          own u = record {
            reached = reached_wrote m id ws hs p.association q.association i bytes (keeps id) (write_facts m w v id p.association q.association i bytes n h).0 u.reached;
            used = used_is m _ _ id q.association (ws ++ stream_message id (m.generation p.association id) i bytes ∷ []) hs (ap (entries_of id) e)
                (open_used m id p.association q.association ws hs (ws ++ stream_message id (m.generation p.association id) i bytes ∷ []) hs p.entries without there u.used);
          }

          by : (c : Bool) → (id == s) ≡ c → IsUsedOver m s (ws ++ stream_message id (m.generation p.association id) i bytes ∷ []) hs q
          by true c = subst (λ (o : ℕ). IsUsedOver m o ws hs p → IsUsedOver m o (ws ++ stream_message id (m.generation p.association id) i bytes ∷ []) hs q) (eqb-true id s c) own k
          by false c =
              let beside : (g : ℕ) → (messages_of s g (stream_message id (m.generation p.association id) i bytes ∷ []) ≡ []) × (messages_of s g [] ≡ []) =
              λ g. (messages_other id s g (stream_message id (m.generation p.association id) i bytes ∷ []) (own_one id (m.generation p.association id) i bytes) (eqb-false id s c), refl) in
              let left = used_beside m s ws hs (stream_message id (m.generation p.association id) i bytes ∷ []) [] p.association q.association p.entries (keeps s) beside k in
              subst (λ (l : List StreamMessage). IsUsedOver m s (ws ++ stream_message id (m.generation p.association id) i bytes ∷ []) l q) (append-nil hs)
              (subst (λ (l : List StreamEntry). IsUsed m s (ws ++ stream_message id (m.generation p.association id) i bytes ∷ []) (hs ++ []) q.association l) (sym e) left)

      written_data : (binary empty : Bool) → is_dcep (written_ppi binary empty) ≡ false
      written_data true true = refl
      written_data true false = refl
      written_data false true = refl
      written_data false false = refl

      answered_use : (answer : Result ℕ AssocError) (id : ℕ) (binary : Bool) (bytes : List ℕ) (p q : SctpStreams S) (s : ℕ) (ws hs : List StreamMessage) → has_open id p.entries ≡ true → q.entries ≡ p.entries
          → m.wrote p.association id (written_ppi binary (is_nil bytes)) bytes answer q.association → IsUsedOver m s ws hs p
          → IsUsedOver m s (ws ++ written_message id (m.generation p.association id) binary bytes (write_answer id (length bytes) p.remote_max answer)) hs q
      answered_use (Ok n) id binary bytes p q s ws hs there e h k = took_use id (written_ppi binary (is_nil bytes)) bytes n p q s ws hs (written_data binary (is_nil bytes)) there e h k
      answered_use (Err f) id binary bytes p q s ws hs there e h k =
          let d = wrote_did m p.association q.association id (written_ppi binary (is_nil bytes)) bytes (Err f) h in
          with_none s ws hs q (subst (λ (l : List StreamEntry). IsUsed m s ws hs q.association l) (sym e) (kept_use s ws hs p.association q.association p.entries (did_keeps m v s [] [] [] [] p.association q.association d) k))

      written_use : (b c : Bool) (id : ℕ) (binary : Bool) (bytes : List ℕ) (p : SctpStreams S) (r : Result ℕ SctpError) (q : SctpStreams S) (s : ℕ) (ws hs : List StreamMessage) → (b ≡ true → has_open id p.entries ≡ true) → WrittenIf m b c id binary bytes p r q → IsUsedOver m s ws hs p
          → IsUsedOver m s (ws ++ written_message id (m.generation p.association id) binary bytes r) hs q
      written_use false c id binary bytes p r q s ws hs there h k =
          subst (λ (y : Result ℕ SctpError). IsUsedOver m s (ws ++ written_message id (m.generation p.association id) binary bytes y) hs q) (sym h.0)
          (with_none s ws hs q (over_same p q s ws hs (ap (λ (y : SctpStreams S). y.association) h.1) (ap (λ (y : SctpStreams S). y.entries) h.1) k))
      written_use true false id binary bytes p r q s ws hs there h k =
          subst (λ (y : Result ℕ SctpError). IsUsedOver m s (ws ++ written_message id (m.generation p.association id) binary bytes y) hs q) (sym h.0)
          (with_none s ws hs q (over_same p q s ws hs (ap (λ (y : SctpStreams S). y.association) h.1) (ap (λ (y : SctpStreams S). y.entries) h.1) k))
      written_use true true id binary bytes p r q s ws hs there h k =
          subst (λ (y : Result ℕ SctpError). IsUsedOver m s (ws ++ written_message id (m.generation p.association id) binary bytes y) hs q) (sym h.2)
          (answered_use h.0 id binary bytes p q s ws hs (there refl) (ap (λ (y : SctpStreams S). y.entries) h.3) h.1 k)

      pub writes_use : (id : ℕ) (binary : Bool) (bytes : List ℕ) (p : SctpStreams S) (r : Result ℕ SctpError) (q : SctpStreams S) (s : ℕ) (ws hs : List StreamMessage) → WritesStream m id binary bytes p r q → IsUsedOver m s ws hs p
          → IsUsedOver m s (ws ++ written_message id (m.generation p.association id) binary bytes r) hs q
      writes_use id binary bytes p r q s ws hs h k =
          written_use (can_write m id p) (is_current m id p) id binary bytes p r q s ws hs (λ e. open_of_write (is_established p.state) (has_open id p.entries) (not (is_ended m p.association)) e) h k

      -- packets
      given_kept : (now : ℕ) (bytes : List ℕ) (a b : S) (r : Result (Unit {0}) AllocError) (es : List StreamEntry) (s : ℕ) (ws hs : List StreamMessage) → m.given a now bytes r b → IsUsed m s ws hs a es → IsUsed m s ws hs b es
      given_kept now bytes a b r es s ws hs h k = by (m.generation b s == m.generation a s) refl
        where
          risen : m.generation a s < m.generation b s → IsUsed m s ws hs b es
          risen lt =
              let now_none = k.reached.ahead (m.generation b s) lt in
              record {
                reached = record { ahead = λ g more. k.reached.ahead g (omega (arith, lt, more)); absent = λ gone. now_none };
                used = risen_used m s a b ws hs (entries_of s es) now_none.0 now_none.1 k.used;
              }

          by : (c : Bool) → (m.generation b s == m.generation a s) ≡ c → IsUsed m s ws hs b es
          by true c = kept_use s ws hs a b es (v.packets_keep s now bytes a b r h (eqb-true _ _ c)) k
          by false c =
              let ne = eqb-false (m.generation b s) (m.generation a s) c in
              let up : m.generation a s ≤ m.generation b s = generation_rises m w a b (Given bytes) s (now, (r, h)) in
              risen (let other : m.generation b s ≢ m.generation a s = ne in omega (arith, up, other))

      given_use : (now : ℕ) (bytes : List ℕ) (p : SctpStreams S) (r : Result (Unit {0}) AllocError) (q : SctpStreams S) (s : ℕ) (ws hs : List StreamMessage) → m.given p.association now bytes r q.association → q.entries ≡ p.entries → IsUsedOver m s ws hs p → IsUsedOver m s ws hs q
      given_use now bytes p r q s ws hs h e k =
          subst (λ (l : List StreamEntry). IsUsed m s ws hs q.association l) (sym e) (given_kept now bytes p.association q.association r p.entries s ws hs h k)

      -- acts of any kind, where no message is told of them
      act_use : (act : AssociationAct) (a b : S) (es : List StreamEntry) (s : ℕ) (ws hs : List StreamMessage) → Acted m a act b → IsUsed m s ws hs a es → IsUsed m s ws hs b es
      act_use (Given bytes) a b es s ws hs h k = given_kept h.0 bytes a b h.1.0 es s ws hs h.1.1 k
      act_use act a b es s ws hs h k = kept_use s ws hs a b es (v.acts_keep s a b act refl h) k

      pub acts_use : (acts : List AssociationAct) (a b : S) (es : List StreamEntry) (s : ℕ) (ws hs : List StreamMessage) → Moved m a acts b → IsUsed m s ws hs a es → IsUsed m s ws hs b es
      acts_use [] a b es s ws hs h k = subst (λ (x : S). IsUsed m s ws hs x es) (sym h) k
      acts_use (act ∷ acts) a b es s ws hs h k = acts_use acts h.0 b es s ws hs h.1.1 (act_use act a h.0 es s ws hs h.1.0 k)

      input_if : (b : Bool) (now : ℕ) (bytes : List ℕ) (p : SctpStreams S) (r : Result (Unit {0}) AllocError) (q : SctpStreams S) (s : ℕ) (ws hs : List StreamMessage) → InputIf m b now bytes p r q → IsUsedOver m s ws hs p → IsUsedOver m s ws hs q
      input_if false now bytes p r q s ws hs h k = over_same p q s ws hs (ap (λ (y : SctpStreams S). y.association) h.1) (ap (λ (y : SctpStreams S). y.entries) h.1) k
      input_if true now bytes p r q s ws hs h k = given_use now bytes p r q s ws hs h.0 (ap (λ (y : SctpStreams S). y.entries) h.1) k

      pub input_use : (now : ℕ) (bytes : List ℕ) (p : SctpStreams S) (r : Result (Unit {0}) AllocError) (q : SctpStreams S) (s : ℕ) (ws hs : List StreamMessage) → TakesInput m now bytes p r q → IsUsedOver m s ws hs p → IsUsedOver m s ws hs q
      input_use now bytes p r q s ws hs h k = input_if (m.started p.association) now bytes p r q s ws hs h k
