-- What a visit of a stream leaves of its use.
use Rattle.std.proofs.Common.{◌≡◌, ◌⊎◌, inl, inr, ℕ, ◌&&◌, Bool, true, false, true≢false, List, [], ◌∷◌, ◌++◌, append-nil, Option, Some, None, Result, Ok, Err, refl, sym, ap, subst, ◌∙◌}
use Rattle.rtc_parts.specs.declared.assoc_error.AssocError.{AssocError}
use Rattle.rtc_parts.specs.declared.assoc_error.AssocError.TheVariants.{StreamExists, ResetPending, NoStream, TooLong, Closing, Fault, Alloc}
use Rattle.rtc_parts.specs.declared.ppi.Ppi.TheVariants as ppi
use Rattle.rtc_parts.specs.AssociationMeaning.{AssociationMeaning}
use Rattle.rtc_parts.specs.AssociationLaws.{AssociationLaws}
use Rattle.rtc_sctp_entries.specs.declared.asked.Asked.{Asked}
use Rattle.rtc_sctp_entries.specs.declared.asked.Asked.TheVariants as did
use Rattle.rtc_sctp_entries.specs.declared.opening.Opening.{Opening}
use Rattle.rtc_sctp_entries.specs.declared.stream_entry_state.StreamEntryState.{StreamEntryState}
use Rattle.rtc_sctp_entries.specs.declared.stream_entry_state.StreamEntryState.TheVariants.{AwaitOpen, Open}
use Rattle.rtc_sctp_entries.specs.declared.stream_entry.StreamEntry.{StreamEntry}
use Rattle.rtc_sctp_entries.specs.declared.sctp_event.SctpEvent.{SctpEvent}
use Rattle.rtc_sctp_entries.specs.declared.sctp_event.SctpEvent.TheVariants as event
use Rattle.rtc_sctp_entries.specs.declared.met.Met.{Met}
use Rattle.rtc_sctp_entries.specs.declared.met.Met.TheVariants.{Nothing, Again, Output, OutOfMemory}
use Rattle.rtc_sctp_entries.specs.Answers.{asked_of, opening_of}
use Rattle.rtc_sctp_entries.specs.Entries.{is_short_entry, is_out_of_band}
use Rattle.rtc_sctp_entries.specs.Visits.{Turn, Settles, ForEntry, ClosedBy, Closes, NoRoom, Ended, AnnouncedBy, Announces, NoMessage, Written, AnnouncesIf, BegunAs, BegunBy, Begins, RetriedIf, RetriedAt, is_adopted, AdoptedIf, OpenedBy, OpensEntry, is_opening_over}
use Rattle.rtc_sctp_laws.specs.StreamMessages.{StreamMessage, stream_message, are_dcep}
use Rattle.rtc_sctp_laws.specs.StreamRuns.{is_past_opening}
use Rattle.rtc_sctp_laws.proofs.ActLemmas.{opened_did, ended_did, reliability_did, wrote_did}
use Rattle.rtc_sctp_laws.specs.GenerationLaws.{KeepsGeneration, GenerationLaws}
use Rattle.rtc_sctp_laws.specs.StreamUses.{any_dcep, begins_with_dcep, messages_for, IsAnnounced, IsIdleStream, IsUsedIn, IsWithoutDcep, IsDcepInBand, IsReached}
use Rattle.rtc_sctp_laws.proofs.GenerationMessages.{own_one}
use Rattle.rtc_sctp_laws.proofs.KnownUses.{MayOpenIn, open_now, not_alloc, done_alloc, refused_alloc, used_marked, used_announced, now_of, now_kept, now_more, write_facts, open_absent, end_idle, idle_without, open_without}
use Rattle.rtc_sctp_laws.proofs.KeptUses.{did_keeps, used_by_kept, reached_kept, reached_wrote, without_now}
use Rattle.rtc_sctp_laws.proofs.VisitedTurns.{Arm, UsedTurn, WrittenInBand, BlankTurn, still, behind, known, plainly}

module _ {S : Type 0} (m : AssociationMeaning S) where
  module _ (w : AssociationLaws m) where
    -- how the association is reached
    abbrev pub Reached : ℕ → S → List StreamMessage → List StreamMessage → Type 0
    Reached s a ws hs = IsReached m s ws hs a

    done_of : {T : Type 0} (r : Result T AssocError) → asked_of r ≡ did.Done → r ≡ Err Alloc → ⊥
    done_of r is e = not_alloc r did.Done is done_alloc e

    -- the entry is closed
    pub closed_by : (answer : Asked) (t : Turn S) (met : Met) (t' : Turn S) → ClosedBy m answer t met t'
        → Arm m t.entry.state t.entry.id (λ ws hs. IsReached m t.entry.id ws hs t.association × ((did.OutOfMemory ≡ answer → ⊥) → IsIdleStream m t.entry.id t.association (now_of m t.association t.entry.id ws) (now_of m t.association t.entry.id hs))) [] t.association met t'
    closed_by did.Done t met t' h = still m t.entry.state t.entry.id _ [] _ _ met t' h.0 h.1 refl refl refl (refl, refl) (λ ws hs k. record { reached = k.0; used = (k.1 done_alloc, tt); opens = tt })
    closed_by did.Refused t met t' h = still m t.entry.state t.entry.id _ [] _ _ met t' h.0 h.1 refl refl refl (refl, refl) (λ ws hs k. record { reached = k.0; used = (k.1 refused_alloc, tt); opens = tt })
    closed_by did.OutOfMemory t met t' h = still m t.entry.state t.entry.id _ [] _ _ met t' h.0 h.1 refl refl refl (refl, tt) (λ ws hs k. tt)

    pub closes : (t : Turn S) (met : Met) (t' : Turn S) → Closes m t met t' → Arm m t.entry.state t.entry.id (Reached t.entry.id t.association) [] t.association met t'
    closes t met t' (NoRoom h) = still m t.entry.state t.entry.id _ [] _ _ met t' h.0 h.1 refl refl refl (refl, tt) (λ ws hs k. tt)
    closes t met t' (Ended a q k h) =
        let d = ended_did m t.association q t.entry.id k.result k.called in
        let kept : GenerationLaws m → KeepsGeneration m t.entry.id t.association q = λ v. did_keeps m v t.entry.id [] [] [] [] t.association q d in
        behind m t.entry.state t.entry.id _ _ [] [] t.association q met t' d refl refl (λ e. refl)
        (λ v ws hs reached.
        subst (λ (l : List StreamMessage). IsReached m t.entry.id l hs q × ((did.OutOfMemory ≡ a → ⊥) → IsIdleStream m t.entry.id q (now_of m q t.entry.id l) (now_of m q t.entry.id hs))) (sym (append-nil ws))
        (reached_kept m t.entry.id ws hs t.association q (kept v) reached, λ ne. end_idle m w v t.entry.id t.association q k.result ws hs (kept v) k.called (not_alloc k.result a k.is ne) reached))
        (closed_by a (record t { association = q }) met t' h)

    -- an entry is to be closed
    pub marks : (t : Turn S) (met : Met) (t' : Turn S) → is_past_opening t.entry.state ≡ true → (met ≡ Again) → (t' ≡ record t { entry = record t.entry { marked = true } }) → Arm m t.entry.state t.entry.id (WrittenInBand m t) [] t.association met t'
    marks t met t' past e f =
        still m t.entry.state t.entry.id _ [] Again (record t { entry = record t.entry { marked = true } }) met t' e f refl refl refl (refl, tt)
        (λ ws hs k. record { reached = k.0; used = (used_marked m t.entry.state t.entry.generation t.entry.id t.association _ _ past, k.1); opens = tt })

    -- the open message is written
    announced : (t : Turn S) (met : Met) (t' : Turn S) → is_out_of_band t.entry ≡ false → AnnouncedBy m did.Done t met t' → Arm m t.entry.state t.entry.id (λ ws hs. IsReached m t.entry.id ws hs t.association × IsAnnounced (now_of m t.association t.entry.id ws) (now_of m t.association t.entry.id hs)) [] t.association met t'
    announced t met t' band h = still m t.entry.state t.entry.id _ [] _ _ met t' h.0 h.1 refl refl refl (refl, tt) (λ ws hs k. record { reached = k.0; used = (used_announced m t.entry.marked (m.generation t.association t.entry.id) t.entry.id t.association _ _ k.1, band); opens = tt })

    -- after a write that was refused, or found no memory
    unwritten : (t : Turn S) (q : S) (bytes : List ℕ) (e : AssocError) (Known : List StreamMessage → List StreamMessage → Type 0) (met : Met) (t' : Turn S)
        → ((ws hs : List StreamMessage) → Known ws hs → IsReached m t.entry.id ws hs t.association) → m.wrote t.association t.entry.id ppi.Dcep bytes (Err e) q
        → Arm m t.entry.state t.entry.id (Reached t.entry.id q) [] q met t' → Arm m t.entry.state t.entry.id Known [] t.association met t'
    unwritten t q bytes e Known met t' reached h z =
        let d = wrote_did m t.association q t.entry.id ppi.Dcep bytes (Err e) h in
        behind m t.entry.state t.entry.id Known _ [] [] t.association q met t' d refl refl (λ e. refl)
        (λ v ws hs k. plainly m (Reached t.entry.id q) ws hs (reached_kept m t.entry.id ws hs t.association q (did_keeps m v t.entry.id [] [] [] [] t.association q d) (reached ws hs k))) z

    pub starves : (Known : List StreamMessage → List StreamMessage → Type 0) (t : Turn S) (met : Met) (t' : Turn S) → met ≡ OutOfMemory → t' ≡ t → Arm m t.entry.state t.entry.id Known [] t.association met t'
    starves Known t met t' e f = still m t.entry.state t.entry.id Known [] OutOfMemory t met t' e f refl refl refl (refl, tt) (λ ws hs k. tt)

    await_open : AwaitOpen ≡ Open → ⊥
    await_open e = cc

    announced_by : (t : Turn S) (q : S) (bytes : List ℕ) (r : Result ℕ AssocError) (met : Met) (t' : Turn S) → t.entry.state ≡ AwaitOpen → is_out_of_band t.entry ≡ false → m.wrote t.association t.entry.id ppi.Dcep bytes r q → AnnouncedBy m (asked_of r) (record t { association = q }) met t'
        → Arm m t.entry.state t.entry.id (BlankTurn m t.entry.id t.association) [] t.association met t'
    announced_by t q bytes (Ok n) met t' st band h k =
        let d = wrote_did m t.association q t.entry.id ppi.Dcep bytes (Ok n) h in
        let x = stream_message t.entry.id (m.generation t.association t.entry.id) ppi.Dcep bytes in
        let kept : GenerationLaws m → KeepsGeneration m t.entry.id t.association q = λ v. did_keeps m v t.entry.id [] [] (x ∷ []) [] t.association q d in
        behind m t.entry.state t.entry.id _ _ [] (x ∷ []) t.association q met t' d refl (own_one t.entry.id (m.generation t.association t.entry.id) ppi.Dcep bytes) (λ e. absurd (await_open (sym st ∙ e)))
        (λ v ws hs b.
        let wrote_is = now_more m t.entry.id t.association q ws ppi.Dcep bytes (kept v) ∙ ap (λ (l : List StreamMessage). l ++ x ∷ []) b.1 in
        let heard_is = now_kept m t.entry.id t.association q hs (kept v) ∙ b.2 in
        (reached_wrote m t.entry.id ws hs t.association q ppi.Dcep bytes (kept v) (write_facts m w v t.entry.id t.association q ppi.Dcep bytes n h).0 b.0, (ap are_dcep wrote_is, ap begins_with_dcep wrote_is, ap any_dcep heard_is)))
        (announced (record t { association = q }) met t' band k)
    announced_by t q bytes (Err StreamExists) met t' st band h k = unwritten t q bytes StreamExists _ met t' (λ ws hs b. b.0) h (closes (record t { association = q }) met t' k)
    announced_by t q bytes (Err ResetPending) met t' st band h k = unwritten t q bytes ResetPending _ met t' (λ ws hs b. b.0) h (closes (record t { association = q }) met t' k)
    announced_by t q bytes (Err NoStream) met t' st band h k = unwritten t q bytes NoStream _ met t' (λ ws hs b. b.0) h (closes (record t { association = q }) met t' k)
    announced_by t q bytes (Err TooLong) met t' st band h k = unwritten t q bytes TooLong _ met t' (λ ws hs b. b.0) h (closes (record t { association = q }) met t' k)
    announced_by t q bytes (Err Closing) met t' st band h k = unwritten t q bytes Closing _ met t' (λ ws hs b. b.0) h (closes (record t { association = q }) met t' k)
    announced_by t q bytes (Err Fault) met t' st band h k = unwritten t q bytes Fault _ met t' (λ ws hs b. b.0) h (closes (record t { association = q }) met t' k)
    announced_by t q bytes (Err Alloc) met t' st band h k = unwritten t q bytes Alloc _ met t' (λ ws hs b. b.0) h (starves (Reached t.entry.id q) (record t { association = q }) met t' k.0 k.1)

    announces : (t : Turn S) (met : Met) (t' : Turn S) → t.entry.state ≡ AwaitOpen → is_out_of_band t.entry ≡ false → Announces m t met t' → Arm m t.entry.state t.entry.id (BlankTurn m t.entry.id t.association) [] t.association met t'
    announces t met t' st band (NoMessage h) = starves _ t met t' h.0 h.1
    announces t met t' st band (Written a q k h) = announced_by t q _ k.result met t' st band k.called (subst (λ (x : Asked). AnnouncedBy m x (record t { association = q }) met t') (sym k.is) h)

    announces_if : (b : Bool) (t : Turn S) (met : Met) (t' : Turn S) → t.entry.state ≡ AwaitOpen → is_out_of_band t.entry ≡ false → AnnouncesIf m b t met t' → Arm m t.entry.state t.entry.id (BlankTurn m t.entry.id t.association) [] t.association met t'
    announces_if true t met t' st band h = announces t met t' st band h
    announces_if false t met t' st band h = known m t.entry.state t.entry.id _ _ [] t.association met t' (λ ws hs b. b.0) (closes t met t' h)

    -- an entry is open, with the label of its config
    pub settles : (t : Turn S) (met : Met) (t' : Turn S) → ForEntry Settles t met t'
        → Arm m t.entry.state t.entry.id (λ ws hs.
        IsReached m t.entry.id ws hs t.association
        × MayOpenIn t.entry (m.generation t.association t.entry.id) (now_of m t.association t.entry.id ws) (now_of m t.association t.entry.id hs)
        × IsDcepInBand m Open (is_out_of_band t.entry) t.entry.id t.association (now_of m t.association t.entry.id ws)) [] t.association met t'
    settles t Nothing t' h = absurd h.0
    settles t Again t' h = absurd h.0
    settles t (Output o) t' h =
        let left : t' ≡ record t { entry = record t.entry { state = Open } } = h.1 ∙ ap (λ (e : StreamEntry). record t { entry = e }) h.0.1 in
        still m t.entry.state t.entry.id _ [] (Output (event.Open t.entry.id _)) (record t { entry = record t.entry { state = Open } }) (Output o) t' (ap (λ (x : SctpEvent). Output x) h.0.0) left refl refl refl (refl, refl)
        (λ ws hs k. record { reached = k.0; used = (tt, k.2); opens = open_now t.entry (m.generation t.association t.entry.id) _ _ k.1 })
    settles t OutOfMemory t' h = starves _ t OutOfMemory t' refl (h.1 ∙ ap (λ (e : StreamEntry). record t { entry = e }) h.0)

    -- a stream that is there is begun
    abbrev Begun : StreamEntry → S → List StreamMessage → List StreamMessage → Type 0
    Begun e a ws hs =
        IsReached m e.id ws hs a
        × (((now_of m a e.id ws ≡ []) × (now_of m a e.id hs ≡ [])) ⊎ (is_out_of_band e ≡ true))
        × IsWithoutDcep m e.id a (now_of m a e.id ws)

    begun_as : (b : Bool) (t : Turn S) (met : Met) (t' : Turn S) → t.entry.state ≡ AwaitOpen → is_out_of_band t.entry ≡ b → BegunAs m b t met t' → Arm m t.entry.state t.entry.id (Begun t.entry t.association) [] t.association met t'
    begun_as true t met t' st e h = known m t.entry.state t.entry.id _ _ [] t.association met t' (λ ws hs k. (k.0, inl e, open_without m (is_out_of_band t.entry) t.entry.id t.association _ k.2)) (settles t met t' h)
    begun_as false t met t' st e h = known m t.entry.state t.entry.id _ _ [] t.association met t' (λ ws hs k. let none = blank ws hs k.1 in (k.0, none.0, none.1)) (announces_if (is_short_entry t.entry) t met t' st e h)
      where
        blank : (ws hs : List StreamMessage) → ((now_of m t.association t.entry.id ws ≡ []) × (now_of m t.association t.entry.id hs ≡ [])) ⊎ (is_out_of_band t.entry ≡ true) → (now_of m t.association t.entry.id ws ≡ []) × (now_of m t.association t.entry.id hs ≡ [])
        blank ws hs (inl k) = k
        blank ws hs (inr k) = absurd (true≢false (sym k ∙ e))

    begun : (a : Asked) (t : Turn S) (met : Met) (t' : Turn S) → t.entry.state ≡ AwaitOpen → BegunBy m a t met t' → Arm m t.entry.state t.entry.id (Begun t.entry t.association) [] t.association met t'
    begun did.Done t met t' st h = begun_as (is_out_of_band t.entry) t met t' st refl h
    begun did.Refused t met t' st h = known m t.entry.state t.entry.id _ _ [] t.association met t' (λ ws hs k. k.0) (closes t met t' h)
    begun did.OutOfMemory t met t' st h = starves _ t met t' h.0 h.1

    begins : (t : Turn S) (met : Met) (t' : Turn S) → t.entry.state ≡ AwaitOpen → Begins m t met t' → Arm m t.entry.state t.entry.id (Begun t.entry t.association) [] t.association met t'
    begins t met t' st h =
        let d = reliability_did m t.association h.between t.entry.id _ _ _ h.asks.result h.asks.called in
        let kept : GenerationLaws m → KeepsGeneration m t.entry.id t.association h.between = λ v. did_keeps m v t.entry.id [] [] [] [] t.association h.between d in
        behind m t.entry.state t.entry.id _ _ [] [] t.association h.between met t' d refl refl (λ e. refl)
        (λ v ws hs k. plainly m (Begun t.entry h.between) ws hs (
          reached_kept m t.entry.id ws hs t.association h.between (kept v) k.0,
          blank (kept v) ws hs k.1,
          without_now m t.entry.id t.association h.between ws (kept v) k.2,
        ))
        (begun h.answer (record t { association = h.between }) met t' st h.then)
      where
        blank : KeepsGeneration m t.entry.id t.association h.between → (ws hs : List StreamMessage) → ((now_of m t.association t.entry.id ws ≡ []) × (now_of m t.association t.entry.id hs ≡ [])) ⊎ (is_out_of_band t.entry ≡ true)
            → ((now_of m h.between t.entry.id ws ≡ []) × (now_of m h.between t.entry.id hs ≡ [])) ⊎ (is_out_of_band t.entry ≡ true)
        blank kept ws hs (inl k) = inl (now_kept m t.entry.id t.association h.between ws kept ∙ k.0, now_kept m t.entry.id t.association h.between hs kept ∙ k.1)
        blank kept ws hs (inr k) = inr k

    -- an opening that is refused for now
    abbrev Turned : Turn S → List StreamMessage → List StreamMessage → Type 0
    Turned t ws hs = UsedTurn m t.entry.id t ws hs

    retried_if : (b : Bool) (t : Turn S) (met : Met) (t' : Turn S) → RetriedIf m b t met t' → Arm m t.entry.state t.entry.id (Turned t) [] t.association met t'
    retried_if true t met t' h = known m t.entry.state t.entry.id _ _ [] t.association met t' (λ ws hs k. k.0) (closes t met t' h)
    retried_if false t met t' h = still m t.entry.state t.entry.id _ [] Nothing t met t' h.0 h.1 refl refl refl (refl, tt) (λ ws hs k. record { reached = k.0; used = k.1; opens = tt })

    retried : (now : ℕ) (o : Option ℕ) (t : Turn S) (met : Met) (t' : Turn S) → RetriedAt m now o t met t' → Arm m t.entry.state t.entry.id (Turned t) [] t.association met t'
    retried now None t met t' h = still m t.entry.state t.entry.id _ [] Nothing (record t { entry = record t.entry { refused = Some now } }) met t' h.0 h.1 refl refl refl (refl, tt) (λ ws hs k. record { reached = k.0; used = k.1; opens = tt })
    retried now (Some first) t met t' h = retried_if (is_opening_over first now) t met t' h

    and_left : (a b : Bool) → (a && b) ≡ true → a ≡ true
    and_left true b h = refl
    and_left false b h = h

    adopted : (b : Bool) (now : ℕ) (t : Turn S) (met : Met) (t' : Turn S) → t.entry.state ≡ AwaitOpen → is_adopted m t ≡ b → AdoptedIf m b now t met t' → Arm m t.entry.state t.entry.id (Turned t) [] t.association met t'
    adopted true now t met t' st e h =
        known m t.entry.state t.entry.id _ _ [] t.association met t'
        (λ ws hs k. (k.0, inr (and_left (is_out_of_band t.entry) _ e), idle_without m t.entry.id t.association _ (now_of m t.association t.entry.id hs) (idle ws hs k.1.0)))
        (begins t met t' st h)
      where
        idle : (ws hs : List StreamMessage) → IsUsedIn m t.entry.state t.entry.marked t.entry.generation t.entry.id t.association (messages_for m t.entry.state t.entry.generation t.entry.id t.association ws)
            (messages_for m t.entry.state t.entry.generation t.entry.id t.association hs) → IsIdleStream m t.entry.id t.association (now_of m t.association t.entry.id ws) (now_of m t.association t.entry.id hs)
        idle ws hs k =
            subst (λ (x : StreamEntryState). IsUsedIn m x t.entry.marked t.entry.generation t.entry.id t.association (messages_for m x t.entry.generation t.entry.id t.association ws)
            (messages_for m x t.entry.generation t.entry.id t.association hs)) st k
    adopted false now t met t' st e h = retried now t.entry.refused t met t' h

    -- after an opening that was refused
    unopened : (t : Turn S) (q : S) (e : AssocError) (met : Met) (t' : Turn S) → m.opened t.association t.entry.id (Err e) q → Arm m t.entry.state t.entry.id (Turned (record t { association = q })) [] q met t' → Arm m t.entry.state t.entry.id (Turned t) [] t.association met t'
    unopened t q e met t' h z =
        let d = opened_did m t.association q t.entry.id (Err e) h in
        let kept : GenerationLaws m → KeepsGeneration m t.entry.id t.association q = λ v. did_keeps m v t.entry.id [] [] [] [] t.association q d in
        behind m t.entry.state t.entry.id _ _ [] [] t.association q met t' d refl refl (λ e. refl)
        (λ v ws hs k. plainly m (Turned (record t { association = q })) ws hs (reached_kept m t.entry.id ws hs t.association q (kept v) k.0, used_by_kept m t.entry t.entry.id t.association q ws hs (kept v) k.1)) z

    shut : (t : Turn S) (met : Met) (t' : Turn S) → Closes m t met t' → Arm m t.entry.state t.entry.id (Turned t) [] t.association met t'
    shut t met t' h = known m t.entry.state t.entry.id _ _ [] t.association met t' (λ ws hs k. k.0) (closes t met t' h)

    opened_by : (now : ℕ) (t : Turn S) (q : S) (r : Result (Unit {0}) AssocError) (met : Met) (t' : Turn S) → t.entry.state ≡ AwaitOpen → m.opened t.association t.entry.id r q → OpenedBy m (opening_of r) now (record t { association = q }) met t' → Arm m t.entry.state t.entry.id (Turned t) [] t.association met t'
    opened_by now t q (Ok x) met t' st h k =
        let d = opened_did m t.association q t.entry.id (Ok x) h in
        let kept : GenerationLaws m → KeepsGeneration m t.entry.id t.association q = λ v. did_keeps m v t.entry.id [] [] [] [] t.association q d in
        behind m t.entry.state t.entry.id _ _ [] [] t.association q met t' d refl refl (λ e. refl)
        (λ v ws hs b.
        let none = b.0.absent (open_absent m w v t.entry.id t.association q h) in
        plainly m (Begun t.entry q) ws hs (
          reached_kept m t.entry.id ws hs t.association q (kept v) b.0,
          inl (now_kept m t.entry.id t.association q ws (kept v) ∙ none.0, now_kept m t.entry.id t.association q hs (kept v) ∙ none.1),
          inl (ap any_dcep (now_kept m t.entry.id t.association q ws (kept v) ∙ none.0)),
        ))
        (begins (record t { association = q }) met t' st k)
    opened_by now t q (Err StreamExists) met t' st h k = unopened t q StreamExists met t' h (adopted (is_adopted m (record t { association = q })) now (record t { association = q }) met t' st refl k)
    opened_by now t q (Err ResetPending) met t' st h k = unopened t q ResetPending met t' h (retried now t.entry.refused (record t { association = q }) met t' k)
    opened_by now t q (Err NoStream) met t' st h k = unopened t q NoStream met t' h (shut (record t { association = q }) met t' k)
    opened_by now t q (Err TooLong) met t' st h k = unopened t q TooLong met t' h (shut (record t { association = q }) met t' k)
    opened_by now t q (Err Closing) met t' st h k = unopened t q Closing met t' h (shut (record t { association = q }) met t' k)
    opened_by now t q (Err Fault) met t' st h k = unopened t q Fault met t' h (shut (record t { association = q }) met t' k)
    opened_by now t q (Err Alloc) met t' st h k = unopened t q Alloc met t' h (starves _ (record t { association = q }) met t' k.0 k.1)

    pub opens : (now : ℕ) (t : Turn S) (met : Met) (t' : Turn S) → t.entry.state ≡ AwaitOpen → OpensEntry m now t met t' → Arm m t.entry.state t.entry.id (Turned t) [] t.association met t'
    opens now t met t' st h = opened_by now t h.between h.asks.result met t' st h.asks.called (subst (λ (x : Opening). OpenedBy m x now (record t { association = h.between }) met t') (sym h.asks.is) h.then)
