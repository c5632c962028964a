-- What is left of the use of a stream where a message is read that opens its channel, or acknowledges that.
use Rattle.std.proofs.Common.{◌≡◌, inr, ℕ, Bool, true, false, true≢false, List, [], ◌∷◌, ◌++◌, Option, Some, Result, Ok, Err, refl, sym, ap, subst, ◌∙◌}
use Rattle.std.specs.Prelude.{is_some}
use Rattle.rtc_wire.specs.declared.channel_config.ChannelConfig.{ChannelConfig}
use Rattle.rtc_parts.specs.declared.assoc_error.AssocError.{AssocError}
use Rattle.rtc_parts.specs.declared.assoc_error.AssocError.TheVariants.{StreamExists, ResetPending, NoStream, TooLong, Closing, Fault, Alloc}
use Rattle.rtc_parts.specs.declared.ppi.Ppi.TheVariants as ppi
use Rattle.rtc_parts.specs.AssociationMeaning.{AssociationMeaning}
use Rattle.rtc_parts.specs.AssociationLaws.{AssociationLaws}
use Rattle.rtc_sctp_entries.specs.declared.asked.Asked.{Asked}
use Rattle.rtc_sctp_entries.specs.declared.asked.Asked.TheVariants as did
use Rattle.rtc_sctp_entries.specs.declared.read_message.ReadMessage.{ReadMessage}
use Rattle.rtc_sctp_entries.specs.declared.read_message.ReadMessage.TheVariants as read
use Rattle.rtc_sctp_entries.specs.declared.stream_entry_state.StreamEntryState.{StreamEntryState}
use Rattle.rtc_sctp_entries.specs.declared.stream_entry_state.StreamEntryState.TheVariants.{AwaitOpen, AwaitConfig, AwaitDcepAck, Open, Closed}
use Rattle.rtc_sctp_entries.specs.declared.stream_entry.StreamEntry.{StreamEntry}
use Rattle.rtc_sctp_entries.specs.declared.met.Met.{Met}
use Rattle.rtc_sctp_entries.specs.declared.met.Met.TheVariants.{Nothing, Again, Output, OutOfMemory}
use Rattle.rtc_sctp_entries.specs.Answers.{asked_of}
use Rattle.rtc_sctp_entries.specs.Entries.{is_out_of_band}
use Rattle.rtc_sctp_entries.specs.Visits.{Turn, given_config, ReadsOpen, TakesAck, ForEntry, AcknowledgedBy, Acknowledges, TakenUpBy, TakesUp, TakenAs, TakesDcep}
use Rattle.rtc_sctp_laws.specs.StreamMessages.{StreamMessage, stream_message, is_dcep_message}
use Rattle.rtc_sctp_laws.specs.StreamRuns.{is_past_opening}
use Rattle.rtc_sctp_laws.proofs.ActLemmas.{reliability_did, wrote_did}
use Rattle.rtc_sctp_laws.specs.GenerationLaws.{KeepsGeneration, GenerationLaws}
use Rattle.rtc_sctp_laws.specs.StreamUses.{IsDcepInBand, IsOpened, IsUsedIn, IsReached}
use Rattle.rtc_sctp_laws.proofs.GenerationMessages.{own_one}
use Rattle.rtc_sctp_laws.proofs.KnownUses.{opened_by_ack, opened_by_answer, now_of, now_kept, now_more, write_facts, not_spent, given_in_band, open_in_band}
use Rattle.rtc_sctp_laws.proofs.KeptUses.{did_keeps, in_band_now, used_in_kept, reached_kept, reached_wrote}
use Rattle.rtc_sctp_laws.proofs.VisitedTurns.{Arm, still, behind, known, plainly}
use Rattle.rtc_sctp_laws.proofs.UsedVisits.{marks, closes, starves, settles}

module _ {S : Type 0} (m : AssociationMeaning S) where
  -- a message was read, last of those of its generation
  pub record HeardLast (st : StreamEntryState) (own : Option ℕ) (out : Bool) (x : StreamMessage) (s : ℕ) (a : S) (ws hs : List StreamMessage) : Type 0 where
    pub reached : IsReached m s ws hs a
    pub own_is : is_some own ≡ true → own ≡ Some (m.generation a s)
    pub before : List StreamMessage
    pub used : IsUsedIn m st false own s a (now_of m a s ws) before
    pub heard_is : now_of m a s hs ≡ before ++ x ∷ []
    pub in_band : IsDcepInBand m st out s a (now_of m a s ws)

  heard_kept : (st : StreamEntryState) (own : Option ℕ) (out : Bool) (x : StreamMessage) (s : ℕ) (a b : S) (ws hs : List StreamMessage) → KeepsGeneration m s a b → HeardLast st own out x s a ws hs → HeardLast st own out x s b ws hs
  heard_kept st own out x s a b ws hs k h = record {
    reached = reached_kept m s ws hs a b k h.reached;
    own_is = λ e. h.own_is e ∙ ap (λ (g : ℕ). Some g) (sym k.generation_is);
    before = h.before;
    used = subst (λ (l : List StreamMessage). IsUsedIn m st false own s b l h.before) (sym (now_kept m s a b ws k)) (used_in_kept m st false own s a b _ _ k h.used);
    heard_is = now_kept m s a b hs k ∙ h.heard_is;
    in_band = in_band_now m st out s a b ws k h.in_band;
  }

  -- that of the state of an entry
  in_band_at : (st : StreamEntryState) (t : Turn S) (ws : List StreamMessage) → t.entry.state ≡ st → IsDcepInBand m st (is_out_of_band t.entry) t.entry.id t.association (now_of m t.association t.entry.id ws)
      → IsDcepInBand m t.entry.state (is_out_of_band t.entry) t.entry.id t.association (now_of m t.association t.entry.id ws)
  in_band_at st t ws is h = subst (λ (y : StreamEntryState). IsDcepInBand m y (is_out_of_band t.entry) t.entry.id t.association (now_of m t.association t.entry.id ws)) (sym is) h

  module _ (w : AssociationLaws m) where
    -- an open message was read, and its acknowledgement is written
    acknowledged : (label : List ℕ) (t : Turn S) (met : Met) (t' : Turn S) → AcknowledgedBy m did.Done label t met t'
        → Arm m t.entry.state t.entry.id (λ ws hs.
        IsReached m t.entry.id ws hs t.association × IsOpened (now_of m t.association t.entry.id ws) (now_of m t.association t.entry.id hs)
        × (is_out_of_band t.entry ≡ false)) [] t.association met t'
    acknowledged label t met t' h = still m t.entry.state t.entry.id _ [] _ _ met t' h.0 h.1 refl refl refl (refl, refl) (λ ws hs k. record { reached = k.0; used = (tt, open_in_band m (is_out_of_band t.entry) t.entry.id t.association _ k.2); opens = inr (k.1, (refl, refl)) })

    unanswered : (x : StreamMessage) (t : Turn S) (q : S) (bytes : List ℕ) (e : AssocError) (met : Met) (t' : Turn S) → m.wrote t.association t.entry.id ppi.Dcep bytes (Err e) q
        → Arm m t.entry.state t.entry.id (λ ws hs. IsReached m t.entry.id ws hs q) [] q met t' → Arm m t.entry.state t.entry.id (HeardLast AwaitConfig t.entry.generation (is_out_of_band t.entry) x t.entry.id t.association) [] t.association met t'
    unanswered x t q bytes e met t' h z =
        let d = wrote_did m t.association q t.entry.id ppi.Dcep bytes (Err e) h in
        behind m t.entry.state t.entry.id _ _ [] [] t.association q met t' d refl refl (λ e. refl)
        (λ v ws hs k. plainly m (λ us vs. IsReached m t.entry.id us vs q) ws hs (reached_kept m t.entry.id ws hs t.association q (did_keeps m v t.entry.id [] [] [] [] t.association q d) k.reached)) z

    await_config : AwaitConfig ≡ Open → ⊥
    await_config e = cc

    acknowledged_by : (x : StreamMessage) (label : List ℕ) (t : Turn S) (q : S) (r : Result ℕ AssocError) (met : Met) (t' : Turn S) → t.entry.state ≡ AwaitConfig → is_dcep_message x ≡ true → m.wrote t.association t.entry.id ppi.Dcep (2 ∷ []) r q
        → AcknowledgedBy m (asked_of r) label (record t { association = q }) met t' → Arm m t.entry.state t.entry.id (HeardLast AwaitConfig t.entry.generation (is_out_of_band t.entry) x t.entry.id t.association) [] t.association met t'
    acknowledged_by x label t q (Ok n) met t' st c h k =
        let d = wrote_did m t.association q t.entry.id ppi.Dcep (2 ∷ []) (Ok n) h in
        let y = stream_message t.entry.id (m.generation t.association t.entry.id) ppi.Dcep (2 ∷ []) in
        let kept : GenerationLaws m → KeepsGeneration m t.entry.id t.association q = λ v. did_keeps m v t.entry.id [] [] (y ∷ []) [] t.association q d in
        let facts = λ (v : GenerationLaws m). write_facts m w v t.entry.id t.association q ppi.Dcep (2 ∷ []) n h in
        behind m t.entry.state t.entry.id _ _ [] (y ∷ []) t.association q met t' d refl (own_one t.entry.id (m.generation t.association t.entry.id) ppi.Dcep (2 ∷ [])) (λ e. absurd (await_config (sym st ∙ e)))
        (λ v ws hs b. (
          reached_wrote m t.entry.id ws hs t.association q ppi.Dcep (2 ∷ []) (kept v) (facts v).0 b.reached,
          subst (λ (l : List StreamMessage). IsOpened l (now_of m q t.entry.id hs)) (sym (now_more m t.entry.id t.association q ws ppi.Dcep (2 ∷ []) (kept v)))
              (opened_by_ack (now_of m t.association t.entry.id ws) (now_of m q t.entry.id hs) b.before y x (not_spent m w v t.entry.id t.association (now_of m t.association t.entry.id ws) b.before (facts v).1 b.used) refl c (now_kept m t.entry.id t.association q hs (kept v) ∙ b.heard_is)),
          b.in_band.0,
        ))
        (acknowledged label (record t { association = q }) met t' k)
    acknowledged_by x label t q (Err StreamExists) met t' st c h k = unanswered x t q _ StreamExists met t' h (closes m w (record t { association = q }) met t' k)
    acknowledged_by x label t q (Err ResetPending) met t' st c h k = unanswered x t q _ ResetPending met t' h (closes m w (record t { association = q }) met t' k)
    acknowledged_by x label t q (Err NoStream) met t' st c h k = unanswered x t q _ NoStream met t' h (closes m w (record t { association = q }) met t' k)
    acknowledged_by x label t q (Err TooLong) met t' st c h k = unanswered x t q _ TooLong met t' h (closes m w (record t { association = q }) met t' k)
    acknowledged_by x label t q (Err Closing) met t' st c h k = unanswered x t q _ Closing met t' h (closes m w (record t { association = q }) met t' k)
    acknowledged_by x label t q (Err Fault) met t' st c h k = unanswered x t q _ Fault met t' h (closes m w (record t { association = q }) met t' k)
    acknowledged_by x label t q (Err Alloc) met t' st c h k = unanswered x t q _ Alloc met t' h (starves m w _ (record t { association = q }) met t' k.0 k.1)

    acknowledges : (x : StreamMessage) (label : List ℕ) (t : Turn S) (met : Met) (t' : Turn S) → t.entry.state ≡ AwaitConfig → is_dcep_message x ≡ true → Acknowledges m label t met t' → Arm m t.entry.state t.entry.id (HeardLast AwaitConfig t.entry.generation (is_out_of_band t.entry) x t.entry.id t.association) [] t.association met t'
    acknowledges x label t met t' st c h =
        acknowledged_by x label t h.between h.asks.result met t' st c h.asks.called
        (subst (λ (o : Asked). AcknowledgedBy m o label (record t { association = h.between }) met t') (sym h.asks.is) h.then)

    -- its config is taken up
    past_config : (st : StreamEntryState) → st ≡ AwaitConfig → is_past_opening st ≡ true
    past_config st e = ap is_past_opening e

    taken_up : (x : StreamMessage) (o : Asked) (label : List ℕ) (t : Turn S) (met : Met) (t' : Turn S) → t.entry.state ≡ AwaitConfig → is_dcep_message x ≡ true → TakenUpBy m o label t met t' → Arm m t.entry.state t.entry.id (HeardLast AwaitConfig t.entry.generation (is_out_of_band t.entry) x t.entry.id t.association) [] t.association met t'
    taken_up x did.Done label t met t' st c h = acknowledges x label t met t' st c h
    taken_up x did.Refused label t met t' st c h = known m t.entry.state t.entry.id _ _ [] t.association met t' (λ ws hs k. (k.reached, in_band_at AwaitConfig t ws st k.in_band)) (marks m w t met t' (past_config t.entry.state st) h.0 h.1)
    taken_up x did.OutOfMemory label t met t' st c h = starves m w _ t met t' h.0 h.1

    takes_up : (x : StreamMessage) (label : List ℕ) (t : Turn S) (met : Met) (t' : Turn S) → t.entry.state ≡ AwaitConfig → is_dcep_message x ≡ true → TakesUp m label t met t' → Arm m t.entry.state t.entry.id (HeardLast AwaitConfig t.entry.generation (is_out_of_band t.entry) x t.entry.id t.association) [] t.association met t'
    takes_up x label t met t' st c h =
        let d = reliability_did m t.association h.between t.entry.id _ _ _ h.asks.result h.asks.called in
        let kept : GenerationLaws m → KeepsGeneration m t.entry.id t.association h.between = λ v. did_keeps m v t.entry.id [] [] [] [] t.association h.between d in
        behind m t.entry.state t.entry.id _ _ [] [] t.association h.between met t' d refl refl (λ e. refl)
        (λ v ws hs k. plainly m (HeardLast AwaitConfig t.entry.generation (is_out_of_band t.entry) x t.entry.id h.between) ws hs (heard_kept AwaitConfig t.entry.generation (is_out_of_band t.entry) x t.entry.id t.association h.between ws hs (kept v) k))
        (taken_up x h.answer label (record t { association = h.between }) met t' st c h.then)

    taken_as : (x : StreamMessage) (bytes : List ℕ) (r : ReadMessage) (t : Turn S) (met : Met) (t' : Turn S) → t.entry.state ≡ AwaitConfig → is_dcep_message x ≡ true → ReadsOpen bytes r → TakenAs m r t met t' → Arm m t.entry.state t.entry.id (HeardLast AwaitConfig t.entry.generation (is_out_of_band t.entry) x t.entry.id t.association) [] t.association met t'
    taken_as x bytes (read.Open label config) t met t' st c reads h =
        known m t.entry.state t.entry.id _ _ [] t.association met t'
        (λ ws hs k. record {
          reached = k.reached;
          own_is = k.own_is;
          before = k.before;
          used = k.used;
          heard_is = k.heard_is;
          in_band = (given_in_band t.entry.config config (ap (λ (y : ChannelConfig). is_some y.negotiated) reads.2) k.in_band.0, k.in_band.1);
        })
        (takes_up x label (record t { entry = record t.entry { config = given_config t.entry.config config } }) met t' st c h)
    taken_as x bytes read.Malformed t met t' st c reads h = known m t.entry.state t.entry.id _ _ [] t.association met t' (λ ws hs k. (k.reached, in_band_at AwaitConfig t ws st k.in_band)) (marks m w t met t' (past_config t.entry.state st) h.0 h.1)
    taken_as x bytes read.OutOfMemory t met t' st c reads h = starves m w _ t met t' h.0 h.1

    -- an acknowledgement is taken
    acked : (x : StreamMessage) (bytes : List ℕ) (t : Turn S) (met : Met) (t' : Turn S) → t.entry.state ≡ AwaitDcepAck → is_dcep_message x ≡ true → ForEntry (TakesAck bytes) t met t' → Arm m t.entry.state t.entry.id (HeardLast AwaitDcepAck t.entry.generation (is_out_of_band t.entry) x t.entry.id t.association) [] t.association met t'
    acked x bytes t Nothing t' st c h = absurd h.0
    acked x bytes t Again t' st c h =
        known m t.entry.state t.entry.id _ _ [] t.association Again t' (λ ws hs k. (k.reached, in_band_at AwaitDcepAck t ws st k.in_band))
        (marks m w t Again t' (ap is_past_opening st) refl (h.1 ∙ ap (λ (e : StreamEntry). record t { entry = e }) h.0.1))
    acked x bytes t (Output o) t' st c h =
        known m t.entry.state t.entry.id _ _ [] t.association (Output o) t'
        (λ ws hs k. (k.reached, inr (opened_by_answer (now_of m t.association t.entry.id ws) (now_of m t.association t.entry.id hs) k.before x k.used.1 c k.heard_is, k.own_is k.used.0), open_in_band m (is_out_of_band t.entry) t.entry.id t.association _ k.in_band))
        (settles m w t (Output o) t' (h.0.1, h.1))
    acked x bytes t OutOfMemory t' st c h =
        known m t.entry.state t.entry.id _ _ [] t.association OutOfMemory t'
        (λ ws hs k. (k.reached, inr (opened_by_answer (now_of m t.association t.entry.id ws) (now_of m t.association t.entry.id hs) k.before x k.used.1 c k.heard_is, k.own_is k.used.0), open_in_band m (is_out_of_band t.entry) t.entry.id t.association _ k.in_band))
        (settles m w t OutOfMemory t' (h.0.1, h.1))

    not_past : (st st' : StreamEntryState) → st ≡ st' → is_past_opening st' ≡ false → is_past_opening st ≡ true → ⊥
    not_past st st' e h k = true≢false (sym k ∙ ap is_past_opening e ∙ h)

    pub dcep : (x : StreamMessage) (st : StreamEntryState) (bytes : List ℕ) (t : Turn S) (met : Met) (t' : Turn S) → t.entry.state ≡ st → is_past_opening t.entry.state ≡ true → is_dcep_message x ≡ true → TakesDcep m st bytes t met t' → Arm m t.entry.state t.entry.id (HeardLast st t.entry.generation (is_out_of_band t.entry) x t.entry.id t.association) [] t.association met t'
    dcep x AwaitConfig bytes t met t' st past c h = taken_as x bytes h.message t met t' st c h.reads h.then
    dcep x AwaitDcepAck bytes t met t' st past c h = acked x bytes t met t' st c h
    dcep x AwaitOpen bytes t met t' st past c h = absurd (not_past t.entry.state AwaitOpen st refl past)
    dcep x Open bytes t met t' st past c h = known m t.entry.state t.entry.id _ _ [] t.association met t' (λ ws hs k. (k.reached, in_band_at Open t ws st k.in_band)) (marks m w t met t' past h.0 h.1)
    dcep x Closed bytes t met t' st past c h = absurd (not_past t.entry.state Closed st refl past)
