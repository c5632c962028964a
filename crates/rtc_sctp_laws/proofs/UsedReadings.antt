-- What a visit that reads a message leaves of the use of its stream.
use Rattle.std.proofs.Common.{◌≡◌, ℕ, ◌==◌, ◌&&◌, arith, Bool, true, false, true≢false, List, [], ◌∷◌, ◌++◌, append-nil, Option, Some, None, Result, Ok, Err, refl, sym, ap, subst, ◌∙◌}
use Rattle.std.specs.Prelude.{is_some}
use Rattle.std.specs.List.{list_all}
use Rattle.rtc_parts.specs.declared.assoc_error.AssocError.{AssocError}
use Rattle.rtc_parts.specs.declared.assoc_error.AssocError.TheVariants.{StreamExists, ResetPending, NoStream, TooLong, Closing, Fault, Alloc}
use Rattle.rtc_parts.specs.declared.ppi.Ppi.{Ppi}
use Rattle.rtc_parts.specs.declared.ppi.Ppi.TheVariants as ppi
use Rattle.rtc_parts.specs.AssociationMeaning.{AssociationMeaning}
use Rattle.rtc_parts.specs.AssociationLaws.{AssociationLaws}
use Rattle.rtc_sctp_entries.specs.declared.asked.Asked.{Asked}
use Rattle.rtc_sctp_entries.specs.declared.asked.Asked.TheVariants as did
use Rattle.rtc_sctp_entries.specs.declared.heard.Heard.{Heard}
use Rattle.rtc_sctp_entries.specs.declared.buffered_threshold_config.BufferedThresholdConfig.{BufferedThresholdConfig}
use Rattle.rtc_sctp_entries.specs.declared.buffered_threshold_config.BufferedThresholdConfig.TheVariants.{Unconfigured, Desired, Configured}
use Rattle.rtc_sctp_entries.specs.declared.stream_entry_state.StreamEntryState.{StreamEntryState}
use Rattle.rtc_sctp_entries.specs.declared.stream_entry_state.StreamEntryState.TheVariants.{AwaitOpen, AwaitConfig, AwaitDcepAck, Open, Closed}
use Rattle.rtc_sctp_entries.specs.declared.sctp_event.SctpEvent.{SctpEvent}
use Rattle.rtc_sctp_entries.specs.declared.sctp_event.SctpEvent.TheVariants as event
use Rattle.rtc_sctp_entries.specs.declared.met.Met.{Met}
use Rattle.rtc_sctp_entries.specs.declared.met.Met.TheVariants.{Nothing, Again, Output}
use Rattle.rtc_sctp_entries.specs.Answers.{heard_of}
use Rattle.rtc_sctp_entries.specs.Entries.{is_out_of_band}
use Rattle.rtc_sctp_entries.specs.Visits.{Turn, TakesStreamMessage, ReadBy, MayRead, IsRead, NothingUnread, ReadsEntry, is_entry_there, HandedBy, HandsThreshold, AttendsBy, AttendsIf, VisitsIn, Visits}
use Rattle.rtc_sctp_laws.specs.StreamMessages.{StreamMessage, stream_message, is_dcep_message, shown_message}
use Rattle.rtc_sctp_laws.specs.StreamActs.{AssociationDid, VisitDid}
use Rattle.rtc_sctp_laws.specs.StreamRuns.{is_past_opening}
use Rattle.rtc_sctp_laws.proofs.ActLemmas.{did_join, threshold_did, read_did}
use Rattle.rtc_sctp_laws.specs.GenerationLaws.{KeepsGeneration, GenerationLaws}
use Rattle.rtc_sctp_laws.specs.StreamUses.{messages_of, are_of_stream, IsDcepInBand, IsUsedIn, IsUsedBy}
use Rattle.rtc_sctp_laws.proofs.GenerationMessages.{own_one}
use Rattle.rtc_sctp_laws.proofs.KnownUses.{used_data, fits_own, spoken_now, now_of, now_kept, now_more, read_there}
use Rattle.rtc_sctp_laws.proofs.KeptUses.{did_keeps, in_band_now, used_in_kept, used_by_kept, reached_kept, reached_read}
use Rattle.rtc_sctp_laws.proofs.UsedOpenings.{HeardLast, dcep}
use Rattle.rtc_sctp_laws.proofs.VisitedTurns.{OpensOwn, Arm, UsedTurn, TurnLeaves, still, behind, known, plainly}
use Rattle.rtc_sctp_laws.proofs.UsedVisits.{marks, closes, starves, opens}

-- a message of the generation that an entry keeps
same_own : (own : Option ℕ) (now g : ℕ) → (is_some own ≡ true → own ≡ Some now) → own ≡ Some g → ((now == g) && true) ≡ true
same_own None now g h e = absurd (none_some e)
  where
    none_some : None ≡ Some g → ⊥
    none_some f = cc
same_own (Some n) now g h e = let same : now ≡ g = number_of (sym (h refl) ∙ e) in grind (arith, same)
  where
    number_of : Some now ≡ Some g → now ≡ g
    number_of f = cc

and_right : (a b : Bool) → (a && b) ≡ true → b ≡ true
and_right true b h = h
and_right false b h = absurd (true≢false (sym h))

module _ {S : Type 0} (m : AssociationMeaning S) where
  -- What a visit did and leaves of the use of its stream. To one whose entry is open it wrote nothing.
  pub record VisitUses (t : Turn S) (met : Met) (t' : Turn S) : Type 0 where
    pub did : VisitDid m t.association met t'.association
    pub own_wrote : are_of_stream t.entry.id did.wrote ≡ true
    pub own_heard : are_of_stream t.entry.id did.heard ≡ true
    pub idle : t.entry.state ≡ Open → did.wrote ≡ []
    pub id_is : t'.entry.id ≡ t.entry.id
    pub opens_own : OpensOwn met t.entry.id
    pub heard_own : (g : ℕ) → t.entry.generation ≡ Some g → list_all (λ (x : StreamMessage). x.generation == g) did.heard ≡ true
    pub leaves : GenerationLaws m → (ws hs : List StreamMessage) → UsedTurn m t.entry.id t ws hs → TurnLeaves m met t.entry.id (ws ++ did.wrote) (hs ++ did.heard) t'

  module _ (w : AssociationLaws m) where
    -- of an entry whose stream has the generation that it keeps, messages of the one are messages of the other
    by_own : (t : Turn S) (ws hs : List StreamMessage) → (is_some t.entry.generation ≡ true → t.entry.generation ≡ Some (m.generation t.association t.entry.id))
        → IsUsedIn m t.entry.state t.entry.marked t.entry.generation t.entry.id t.association (now_of m t.association t.entry.id ws) (now_of m t.association t.entry.id hs)
        → IsDcepInBand m t.entry.state (is_out_of_band t.entry) t.entry.id t.association (now_of m t.association t.entry.id ws) → IsUsedBy m t.entry t.entry.id t.association ws hs
    by_own t ws hs own k band = (
      subst (λ (g : ℕ). IsUsedIn m t.entry.state t.entry.marked t.entry.generation t.entry.id t.association (messages_of t.entry.id g ws) (messages_of t.entry.id g hs))
          (sym (spoken_now t.entry.state t.entry.generation (m.generation t.association t.entry.id) own)) k,
      band,
    )

    of_own : (t : Turn S) (ws hs : List StreamMessage) → (is_some t.entry.generation ≡ true → t.entry.generation ≡ Some (m.generation t.association t.entry.id))
        → IsUsedBy m t.entry t.entry.id t.association ws hs → IsUsedIn m t.entry.state t.entry.marked t.entry.generation t.entry.id t.association (now_of m t.association t.entry.id ws) (now_of m t.association t.entry.id hs)
    of_own t ws hs own k =
        subst (λ (g : ℕ). IsUsedIn m t.entry.state t.entry.marked t.entry.generation t.entry.id t.association (messages_of t.entry.id g ws) (messages_of t.entry.id g hs))
        (spoken_now t.entry.state t.entry.generation (m.generation t.association t.entry.id) own) k.0

    -- data is answered, and the entry is as it was
    tells : (x : StreamMessage) (e : SctpEvent) (shows : List SctpEvent) (t : Turn S) (met : Met) (t' : Turn S) (binary : Bool) (bytes : List ℕ) → is_past_opening t.entry.state ≡ true → e ≡ event.Data t.entry.id binary bytes → shows ≡ event.Data t.entry.id binary bytes ∷ [] → t.entry.marked ≡ false → is_dcep_message x ≡ false → met ≡ Output e → t' ≡ t
        → Arm m t.entry.state t.entry.id (HeardLast m t.entry.state t.entry.generation (is_out_of_band t.entry) x t.entry.id t.association) shows t.association met t'
    tells x e shows t met t' binary bytes past is shown unmarked c f g =
        still m t.entry.state t.entry.id _ shows (Output (event.Data t.entry.id binary bytes)) t met t' (f ∙ ap (λ (o : SctpEvent). Output o) is) g refl refl (sym shown) (refl, tt)
        (λ ws hs k. record {
          reached = k.reached;
          used = by_own t ws hs k.own_is
              (subst (λ (b : Bool). IsUsedIn m t.entry.state b t.entry.generation t.entry.id t.association (now_of m t.association t.entry.id ws) (now_of m t.association t.entry.id hs)) (sym unmarked)
              (subst (λ (l : List StreamMessage). IsUsedIn m t.entry.state false t.entry.generation t.entry.id t.association (now_of m t.association t.entry.id ws) l) (sym k.heard_is)
              (used_data m t.entry.state t.entry.generation t.entry.id t.association _ k.before x past c k.used)))
              k.in_band;
          opens = tt;
        })

    message : (x : StreamMessage) (i : Ppi) (bytes : List ℕ) (t : Turn S) (met : Met) (t' : Turn S) → x.ppi ≡ i → is_past_opening t.entry.state ≡ true → t.entry.marked ≡ false → TakesStreamMessage m i bytes t met t'
        → Arm m t.entry.state t.entry.id (HeardLast m t.entry.state t.entry.generation (is_out_of_band t.entry) x t.entry.id t.association) (shown_message t.entry.id i bytes) t.association met t'
    message x ppi.Dcep bytes t met t' i past unmarked h = dcep m w x t.entry.state bytes t met t' refl past (dcep_is i) h
      where
        dcep_is : x.ppi ≡ ppi.Dcep → is_dcep_message x ≡ true
        dcep_is e = rw e refl
    message x ppi.Text bytes t met t' i past unmarked h = tells x _ _ t met t' false bytes past refl refl unmarked (rw i refl) h.0 h.1
    message x ppi.Binary bytes t met t' i past unmarked h = tells x _ _ t met t' true bytes past refl refl unmarked (rw i refl) h.0 h.1
    message x ppi.EmptyText bytes t met t' i past unmarked h = tells x _ _ t met t' false [] past refl refl unmarked (rw i refl) h.0 h.1
    message x ppi.EmptyBinary bytes t met t' i past unmarked h = tells x _ _ t met t' true [] past refl refl unmarked (rw i refl) h.0 h.1
    message x (ppi.Other n) bytes t met t' i past unmarked h = known m t.entry.state t.entry.id _ _ [] t.association met t' (λ ws hs k. (k.reached, k.in_band)) (marks m w t met t' past h.0 h.1)

    -- nothing is read
    unheard : (t : Turn S) (met : Met) (t' : Turn S) → Arm m t.entry.state t.entry.id (UsedTurn m t.entry.id t) [] t.association met t' → VisitUses t met t'
    unheard t met t' z = record {
      did = record { wrote = z.wrote; heard = []; did = z.did; dcep = z.dcep; sent_is = z.sent_is; reset_is = z.reset_is; shown_is = z.shown_is };
      own_wrote = z.own;
      own_heard = refl;
      idle = z.idle;
      heard_own = λ g e. refl;
      id_is = z.id_is;
      opens_own = z.opens_own;
      leaves = λ v ws hs k. subst (λ (l : List StreamMessage). TurnLeaves m met t.entry.id (ws ++ z.wrote) l t') (sym (append-nil hs)) (z.leaves v ws hs k);
    }

    -- a message is read, and what is done with it
    hears : (t : Turn S) (q : S) (i : Ppi) (bytes : List ℕ) (met : Met) (t' : Turn S) → (is_some t.entry.generation ≡ true → t.entry.generation ≡ Some (m.generation t.association t.entry.id)) → t.entry.marked ≡ false → m.read t.association t.entry.id (Ok (Some (i, bytes))) q
        → Arm m t.entry.state t.entry.id (HeardLast m t.entry.state t.entry.generation (is_out_of_band t.entry) (stream_message t.entry.id (m.generation t.association t.entry.id) i bytes) t.entry.id q) (shown_message t.entry.id i bytes) q met t' → VisitUses t met t'
    hears t q i bytes met t' own unmarked h z =
        let x = stream_message t.entry.id (m.generation t.association t.entry.id) i bytes in
        let d = read_did m w t.association q t.entry.id (Ok (Some (i, bytes))) h in
        let kept : GenerationLaws m → KeepsGeneration m t.entry.id t.association q = λ v. did_keeps m v t.entry.id [] [] [] (x ∷ []) t.association q d in
        record {
          did = record {
            wrote = z.wrote;
            heard = x ∷ [];
            did = did_join m [] [] [] [] [] [] [] z.wrote (x ∷ []) [] t.association q t'.association d z.did;
            dcep = z.dcep;
            sent_is = z.sent_is;
            reset_is = z.reset_is;
            shown_is = z.shown_is ∙ sym (append-nil (shown_message t.entry.id i bytes));
          };
          own_wrote = z.own;
          own_heard = own_one t.entry.id (m.generation t.association t.entry.id) i bytes;
          idle = z.idle;
          heard_own = λ g e. same_own t.entry.generation (m.generation t.association t.entry.id) g own e;
          id_is = z.id_is;
          opens_own = z.opens_own;
          leaves = λ v ws hs k. z.leaves v ws (hs ++ x ∷ []) (record {
            reached = reached_read m t.entry.id ws hs t.association q i bytes (kept v) (read_there m w v t.entry.id t.association q (Some (i, bytes)) h) k.0;
            own_is = λ e. own e ∙ ap (λ (g : ℕ). Some g) (sym (kept v).generation_is);
            before = now_of m t.association t.entry.id hs;
            used =
                subst (λ (l : List StreamMessage). IsUsedIn m t.entry.state false t.entry.generation t.entry.id q l (now_of m t.association t.entry.id hs)) (sym (now_kept m t.entry.id t.association q ws (kept v)))
                (used_in_kept m t.entry.state false t.entry.generation t.entry.id t.association q _ _ (kept v)
                (subst (λ (b : Bool). IsUsedIn m t.entry.state b t.entry.generation t.entry.id t.association (now_of m t.association t.entry.id ws) (now_of m t.association t.entry.id hs)) unmarked (of_own t ws hs own k.1)));
            heard_is = now_more m t.entry.id t.association q hs i bytes (kept v);
            in_band = in_band_now m t.entry.state (is_out_of_band t.entry) t.entry.id t.association q ws (kept v) k.1.1;
          });
        }

    -- nothing came of the reading, and what is done then
    silent : (t : Turn S) (q : S) (r : Result (Option (Ppi × List ℕ)) AssocError) (met : Met) (t' : Turn S) → AssociationDid m [] [] [] [] [] t.association q
        → Arm m t.entry.state t.entry.id (UsedTurn m t.entry.id (record t { association = q })) [] q met t' → VisitUses t met t'
    silent t q r met t' d z =
        let kept : GenerationLaws m → KeepsGeneration m t.entry.id t.association q = λ v. did_keeps m v t.entry.id [] [] [] [] t.association q d in
        unheard t met t'
        (behind m t.entry.state t.entry.id _ _ [] [] t.association q met t' d refl refl (λ e. refl)
        (λ v ws hs k. plainly m (UsedTurn m t.entry.id (record t { association = q })) ws hs (reached_kept m t.entry.id ws hs t.association q (kept v) k.0, used_by_kept m t.entry t.entry.id t.association q ws hs (kept v) k.1)) z)

    -- a step that leaves the use as it is
    stays : (t u : Turn S) (r : Met) (met : Met) (t' : Turn S) → met ≡ Nothing → t' ≡ t → Arm m t.entry.state t.entry.id (UsedTurn m t.entry.id t) [] t.association met t'
    stays t u r met t' e f = still m t.entry.state t.entry.id _ [] Nothing t met t' e f refl refl refl (refl, tt) (λ ws hs k. record { reached = k.0; used = k.1; opens = tt })

    marks_turn : (t : Turn S) (met : Met) (t' : Turn S) → is_past_opening t.entry.state ≡ true → (met ≡ Again) → (t' ≡ record t { entry = record t.entry { marked = true } }) → Arm m t.entry.state t.entry.id (UsedTurn m t.entry.id t) [] t.association met t'
    marks_turn t met t' past e f = known m t.entry.state t.entry.id _ _ [] t.association met t' (λ ws hs k. (k.0, k.1.1)) (marks m w t met t' past e f)

    read_by : (r : Result (Option (Ppi × List ℕ)) AssocError) (t : Turn S) (q : S) (met : Met) (t' : Turn S) → (is_some t.entry.generation ≡ true → t.entry.generation ≡ Some (m.generation t.association t.entry.id)) → is_past_opening t.entry.state ≡ true → t.entry.marked ≡ false → m.read t.association t.entry.id r q → ReadBy m (heard_of r) (record t { association = q }) met t' → VisitUses t met t'
    read_by (Ok None) t q met t' own past un k h = silent t q (Ok None) met t' (read_did m w t.association q t.entry.id (Ok None) k) (stays (record t { association = q }) t Nothing met t' h.0 h.1)
    read_by (Ok (Some x)) t q met t' own past un k h =
        hears t q x.0 x.1 met t' own un k (message (stream_message t.entry.id (m.generation t.association t.entry.id) x.0 x.1) x.0 x.1 (record t { association = q }) met t' refl past un h)
    read_by (Err StreamExists) t q met t' own past un k h = silent t q (Err StreamExists) met t' (read_did m w t.association q t.entry.id (Err StreamExists) k) (marks_turn (record t { association = q }) met t' past h.0 h.1)
    read_by (Err ResetPending) t q met t' own past un k h = silent t q (Err ResetPending) met t' (read_did m w t.association q t.entry.id (Err ResetPending) k) (marks_turn (record t { association = q }) met t' past h.0 h.1)
    read_by (Err NoStream) t q met t' own past un k h = silent t q (Err NoStream) met t' (read_did m w t.association q t.entry.id (Err NoStream) k) (marks_turn (record t { association = q }) met t' past h.0 h.1)
    read_by (Err TooLong) t q met t' own past un k h = silent t q (Err TooLong) met t' (read_did m w t.association q t.entry.id (Err TooLong) k) (marks_turn (record t { association = q }) met t' past h.0 h.1)
    read_by (Err Closing) t q met t' own past un k h = silent t q (Err Closing) met t' (read_did m w t.association q t.entry.id (Err Closing) k) (marks_turn (record t { association = q }) met t' past h.0 h.1)
    read_by (Err Fault) t q met t' own past un k h = silent t q (Err Fault) met t' (read_did m w t.association q t.entry.id (Err Fault) k) (marks_turn (record t { association = q }) met t' past h.0 h.1)
    read_by (Err Alloc) t q met t' own past un k h = silent t q (Err Alloc) met t' (read_did m w t.association q t.entry.id (Err Alloc) k) (starves m w _ (record t { association = q }) met t' h.0 h.1)

    reads : (t : Turn S) (met : Met) (t' : Turn S) → (is_some t.entry.generation ≡ true → t.entry.generation ≡ Some (m.generation t.association t.entry.id)) → is_past_opening t.entry.state ≡ true → t.entry.marked ≡ false → ReadsEntry m t met t' → VisitUses t met t'
    reads t met t' own past un h =
        read_by h.asks.result t h.between met t' own past un h.asks.called
        (subst (λ (x : Heard). ReadBy m x (record t { association = h.between }) met t') (sym h.asks.is) h.then)

    may_read : (t : Turn S) (met : Met) (t' : Turn S) → (is_some t.entry.generation ≡ true → t.entry.generation ≡ Some (m.generation t.association t.entry.id)) → is_past_opening t.entry.state ≡ true → t.entry.marked ≡ false → MayRead m t met t' → VisitUses t met t'
    may_read t met t' own past un (IsRead h) = reads t met t' own past un h
    may_read t met t' own past un (NothingUnread unread e f) = unheard t met t' (stays t t Nothing met t' e f)

    -- a threshold is handed over
    handed : (o : Asked) (n : ℕ) (t : Turn S) (met : Met) (t' : Turn S) → HandedBy m o n t met t' → Arm m t.entry.state t.entry.id (UsedTurn m t.entry.id t) [] t.association met t'
    handed did.Done n t met t' h = still m t.entry.state t.entry.id _ [] Again (record t { entry = record t.entry { threshold = Configured n } }) met t' h.0 h.1 refl refl refl (refl, tt) (λ ws hs k. record { reached = k.0; used = k.1; opens = tt })
    handed did.Refused n t met t' h = still m t.entry.state t.entry.id _ [] Again (record t { entry = record t.entry { threshold = Configured n } }) met t' h.0 h.1 refl refl refl (refl, tt) (λ ws hs k. record { reached = k.0; used = k.1; opens = tt })
    handed did.OutOfMemory n t met t' h = starves m w _ t met t' h.0 h.1

    hands : (n : ℕ) (t : Turn S) (met : Met) (t' : Turn S) → HandsThreshold m n t met t' → VisitUses t met t'
    hands n t met t' h =
        silent t h.between (Ok None) met t' (threshold_did m t.association h.between t.entry.id n h.asks.result h.asks.called) (handed h.answer n (record t { association = h.between }) met t' h.then)

    attends_by : (b : BufferedThresholdConfig) (t : Turn S) (met : Met) (t' : Turn S) → (is_some t.entry.generation ≡ true → t.entry.generation ≡ Some (m.generation t.association t.entry.id)) → is_past_opening t.entry.state ≡ true → t.entry.marked ≡ false → AttendsBy m b t met t' → VisitUses t met t'
    attends_by (Desired n) t met t' own past un h = hands n t met t' h
    attends_by Unconfigured t met t' own past un h = may_read t met t' own past un h
    attends_by (Configured n) t met t' own past un h = may_read t met t' own past un h

    attends_if : (b c : Bool) (t : Turn S) (met : Met) (t' : Turn S) → is_past_opening t.entry.state ≡ true → t.entry.marked ≡ b → is_entry_there m t.association t.entry ≡ c → AttendsIf m b c t met t' → VisitUses t met t'
    attends_if true c t met t' past un there h = unheard t met t' (known m t.entry.state t.entry.id _ _ [] t.association met t' (λ ws hs k. k.0) (closes m w t met t' h))
    attends_if false false t met t' past un there h = unheard t met t' (marks_turn t met t' past h.0 h.1)
    attends_if false true t met t' past un there h =
        attends_by t.entry.threshold t met t' (fits_own t.entry.generation (m.generation t.association t.entry.id) (and_right (m.has_stream t.association t.entry.id) _ there)) past un h

    visits_in : (st : StreamEntryState) (now : ℕ) (t : Turn S) (met : Met) (t' : Turn S) → t.entry.state ≡ st → VisitsIn m st now t met t' → VisitUses t met t'
    visits_in AwaitOpen now t met t' st h = unheard t met t' (opens m w now t met t' st h)
    visits_in AwaitConfig now t met t' st h = attends_if t.entry.marked (is_entry_there m t.association t.entry) t met t' (ap is_past_opening st) refl refl h
    visits_in AwaitDcepAck now t met t' st h = attends_if t.entry.marked (is_entry_there m t.association t.entry) t met t' (ap is_past_opening st) refl refl h
    visits_in Open now t met t' st h = attends_if t.entry.marked (is_entry_there m t.association t.entry) t met t' (ap is_past_opening st) refl refl h
    visits_in Closed now t met t' st h = unheard t met t' (stays t t Nothing met t' h.0 h.1)

    pub visit_uses : (now : ℕ) (t : Turn S) (met : Met) (t' : Turn S) → Visits m now t met t' → VisitUses t met t'
    visit_uses now t met t' h = visits_in t.entry.state now t met t' refl h
