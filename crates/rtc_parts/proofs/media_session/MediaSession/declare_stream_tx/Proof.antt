-- The answer of `make_stream_tx` is handed on by `answer_of`: a walk of the two calls.
use Rattle.rtc_parts.proofs.StreamLoans.{◌≡◌, refl, List, [], ◌∷◌, Ura, Fml, ftrue, flft, SProp, sep, emp, id⊢, ex_e, snd∗, ◌⊑◌, fact_i, fact_use, Lfts, Fun, fact, tables, yes, no, Is, shows, bounded, layouts, param, param_laws, RattleType, MutBor, mut_vals, mut_Tells, plain, mut_ref_to, nothing, heard, peeks, calls_at, Clauses, Ended, on_entry, ensured, lasts, triple_of, Contract, Triple, framed, Stays, stay_dropped, walk_of, ends_at, Goes-spent_ref, Goes-dropped, inst_fn, Args, Dict, a_type, dcons, dnil, method, named, Memory, Routine, alloc_all, pass_all, free_all, look_at, get, through, sets, lands_as, rewrite, ‵, raw, ◌⊛◌, some, later, ◌$◌, ◌∵◌, !, qed, move, keep, drop, use0, use1, split, split3, join, pick, fjoin, suffices, await, done, Logic, sem, stop, addr, and_then, no_more, returns, enter, proved, LendsSoOk, handed_on, none_came, beside, fourth, Rtx, Rid, rtx_told, rid_told, Flat, flat_laws, Nested, nested_laws}
use Rattle.std.specs.Prelude.{ℕ, ◌↔◌, Option, Result, IfOk, IsNone, IsTrue}
use Rattle.std.proofs.option.Option.TheLaws as option
use Rattle.rtc_sdp_values.specs.declared.ssrc.Ssrc.{Ssrc}
use Rattle.rtc_sdp_values.specs.contracts.ssrc.Ssrc as S-type
use Rattle.rtc_sdp_values.specs.contracts.mid.Mid as M-type
use Rattle.rtc_sdp_values.specs.contracts.rid.Rid as I-type
use Rattle.rtc_sdp_values.proofs.ssrc.Ssrc.TheLaws as ssrcs
use Rattle.rtc_sdp_values.proofs.mid.Mid.TheLaws as mids
use Rattle.rtc_sdp_values.proofs.rid.Rid.TheLaws as rids
use Rattle.rtc_parts.specs.NoStream.{StreamAnswers, none_where_declined}
use Rattle.rtc_parts.specs.StreamLends.{IfLent, LendsStream}
use Rattle.rtc_parts.specs.declared.no_stream.NoStream.{NoStream}
use Rattle.rtc_parts.specs.declared.media_event.MediaEvent.{Ghosts as EventGhosts}
use Rattle.rtc_parts.specs.declared.media_session.MediaSession.{Ghosts}
use Rattle.rtc_parts.specs.contracts.answers.answer_of as S
use Rattle.rtc_parts.specs.contracts.media_session.MediaSession.make_stream_tx as F
use Rattle.rtc_parts.specs.contracts.media_session.MediaSession.declare_stream_tx as T
use Rattle.rtc_parts.specs.contracts.media_session.MediaSession.declare_stream_tx.Key.{name as #self}
use Rattle.rtc_parts.proofs.answers.answer_of.Met as second
use Rattle.rtc_parts.proofs.answers.answer_of.Symbol.{name as #second}
use Rattle.rtc_parts.proofs.media_session.MediaSession.declare_stream_tx.Statement as stated
use Rattle.rtc_parts.proofs.media_session.MediaSession.declare_stream_tx.Code as code

module _ (Y E X U W : RattleType) (g : Ghosts Y.Denot E.Denot X.Denot U.Denot W.Denot) (d : Dict) (h : EventGhosts E.Denot) (d' : Dict) where
  abbrev args : Args
  args = bounded (a_type ∷ a_type ∷ a_type ∷ a_type ∷ a_type ∷ []) (Y, (E, (X, (U, (W, tt))))) (dcons d (dcons d' dnil))

  abbrev end : Ended
  end = T.ended Y E X U W g d h d'

  abbrev stayed : Stays end.signature.params end.kept
  stayed = (
    stay_dropped (mut_ref_to (0 ∷ []) tt (plain (λ _. param 0 Y))) no,
    (stay_dropped (plain (λ _. S-type.the_row)) yes, (stay_dropped (plain (λ _. Rtx)) yes, (stay_dropped (plain (λ _. M-type.the_row)) yes, (stay_dropped (plain (λ _. Rid)) yes, tt)))),
  )

  module _ {M : Type 1} {𝓤 : Ura M} (𝓛 : Logic 𝓤) (at_mem : Memory → SProp 𝓤) (run : Routine → Fun 𝓤) where
    abbrev spec : Clauses 𝓤 end
    spec = T.clauses Y E X U W g d h d' 𝓛 at_mem run

    abbrev One : Contract 𝓤
    One = triple_of 𝓛 (F.signature Y E X U W) (F.spec Y E X U W g d h d' 𝓛 at_mem run)

    abbrev Two : Contract 𝓤
    Two = triple_of 𝓛 (S.signature U) (S.spec U 𝓛 at_mem run)

  module _ (part : MutBor Y.Denot) (ssrc : Ssrc) (rtx : Option Ssrc) (mid : List ℕ) (rid : Option (List ℕ)) where
    -- what the part ends as where a stream was lent, and where none was
    abbrev Holds : MutBor U.Denot → Y.Denot → U.Denot → Type 0
    Holds lent n x = g.media.tx_declared part.now ssrc rtx mid rid lent.now x n

    abbrev Kept : Y.Denot → Type 0
    Kept n = n ≡ part.now

    -- what the first call says of its answer
    abbrev Owed : Result (MutBor U.Denot) NoStream → Fml
    Owed r = LendsSoOk (param 0 Y) (param 3 U) part r (λ n x. IfOk r (λ lent. Holds lent n x)) Kept

    abbrev Known : Result (MutBor U.Denot) NoStream → Type 0
    Known r = StreamAnswers (g.media.declines_tx part.now ssrc rtx mid rid) r

pub declare_stream_tx_spec : {M : Type 1} → stated.statement M
declare_stream_tx_spec 𝓤 𝓛 𝓜 𝓡 wired Y E X U W LY LE LX LU LW g d h d' met met' =
    let 𝓣 = tables 𝓤 𝓛.H 𝓜 𝓡 𝓡.env in
    let T' = end Y E X U W g d h d' in
    let stays = stayed Y E X U W g d h d' in
    let c = spec Y E X U W g d h d' 𝓛 𝓜.mem 𝓡.returns in
    let A = One Y E X U W g d h d' 𝓛 𝓜.mem 𝓡.returns in
    let B = Two Y E X U W g d h d' 𝓛 𝓜.mem 𝓡.returns in
    let met₁ : Triple 𝓤 (𝓣.C (method d 25 (layouts [] tt))) A = met.make_stream_tx in
    let met₂ : Triple 𝓤 (𝓣.C (#second (bounded (a_type ∷ []) (U, tt) dnil))) B = second.met 𝓤 𝓛 𝓜 𝓡 (code.calls-rtc_parts::answers::answer_of 𝓡.env wired) U LU in
    proved 𝓛 T' stays c 𝓜 𝓡
    (Goes-spent_ref 𝓛 6 (0 ∷ []) tt (plain (λ _. param 0 Y)), (Goes-dropped 𝓛 6 (plain (λ _. S-type.the_row)) yes (λ κs x f. refl), (Goes-dropped 𝓛 6 (plain (λ _. Rtx)) yes (λ κs x f. refl), (Goes-dropped 𝓛 6 (plain (λ _. M-type.the_row)) yes (λ κs x f. refl), (Goes-dropped 𝓛 6 (plain (λ _. Rid)) yes (λ κs x f. refl), tt)))))
    (#self (args Y E X U W g d h d')) (inst_fn (args Y E X U W g d h d') code.function) (code.unfolded 𝓤 𝓛.H 𝓜 𝓡 wired (Y, (E, (X, (U, (W, tt))))) d d')
    (λ κs. (mut_vals, ((λ x. ssrcs.the_told.val x ∷ []), ((λ x. rtx_told.val x ∷ []), ((λ x. mids.the_told.val x ∷ []), ((λ x. rid_told.val x ∷ []), tt))))))
    (λ κs. (mut_Tells (named 0) κs.0 (param 0 Y), (ssrcs.the_told.tells, (rtx_told.tells, (mids.the_told.tells, (rid_told.tells, tt))))))
    (λ κs qs bounds a g' are.
    let part = a.0 in let ssrc = a.1.0 in let rtx = a.1.1.0 in let mid = a.1.1.1.0 in let rid = a.1.1.1.1.0 in
    let y : A.Ghost = ((κs, qs, bounds, a, (mut_vals part, (ssrcs.the_told.val ssrc ∷ [], (rtx_told.val rtx ∷ [], (mids.the_told.val mid ∷ [], (rid_told.val rid ∷ [], tt)))))), tt) in
    let y' : (walk_of 𝓛 T' stays c).Ghost = ((κs, qs, bounds, a, (mut_vals part, (ssrcs.the_told.val ssrc ∷ [], (rtx_told.val rtx ∷ [], (mids.the_told.val mid ∷ [], (rid_told.val rid ∷ [], tt)))))), tt) in
    let short : Lfts 2 = (κs.0, (κs.1.1.1.1.0, tt)) in
    let First = Flat κs.0 (param 3 U) in
    let Second = Nested κs.0 (param 3 U) in
    fact_use 𝓤 (κs.1.1.1.1.0 ⊑ U.lives) (fourth 𝓤 (on_entry 𝓛 T'.signature κs qs a (mut_vals part, (ssrcs.the_told.val ssrc ∷ [], (rtx_told.val rtx ∷ [], (mids.the_told.val mid ∷ [], (rid_told.val rid ∷ [], tt)))))) (fact 𝓤 (κs.1.0 ⊑ Y.lives)) (fact 𝓤 (κs.1.1.0 ⊑ E.lives)) (fact 𝓤 (κs.1.1.1.0 ⊑ X.lives)) (fact 𝓤 (κs.1.1.1.1.0 ⊑ U.lives)) (sep 𝓤 (fact 𝓤 (κs.1.1.1.1.1.0 ⊑ W.lives)) (emp 𝓤))) (λ lives.
    qed 𝓛 (raw (A.pre y) ∷ []) ∵
    enter ! _ _ _ _ _ $ alloc_all ! (λ l. pass_all ! refl ((tt, tt), (((ssrcs.the_row_laws.lawful 𝓛).typed ssrc _ are.1.0).0, ((((option.the_row_laws S-type.the_row ssrcs.the_row_laws).lawful 𝓛).typed rtx _ are.1.1.0).0, (((mids.the_row_laws.lawful 𝓛).typed mid _ are.1.1.1.0).0, ((((option.the_row_laws I-type.the_row rids.the_row_laws).lawful 𝓛).typed rid _ are.1.1.1.1.0).0, tt))))) $
    sets ! (addr ! (through ! refl (stop !))) refl (tt, tt) $
    -- self.make_stream_tx(..)
    calls_at ! (framed 𝓤 𝓛.H 𝓜 𝓣) A met₁ y (and_then ! (get ! refl) (and_then ! (get ! refl) (and_then ! (get ! refl) (and_then ! (get ! refl) (and_then ! (get ! refl) (no_more !)))))) (λ v.
    use1 𝓛 (later (some (λ (r : First.Denot). ((‵ (flft κs.0 qs.0) ⊛ ‵ (flft κs.1.0 qs.1.0) ⊛ ‵ (flft κs.1.1.0 qs.1.1.0) ⊛ ‵ (flft κs.1.1.1.0 qs.1.1.1.0) ⊛ ‵ (flft κs.1.1.1.1.0 qs.1.1.1.1.0) ⊛ ‵ (flft κs.1.1.1.1.1.0 qs.1.1.1.1.1.0) ⊛ ‵ ftrue) ⊛ ‵ (First.own_val r (v ∷ [])))
    ⊛ raw (ensured 𝓛 (F.ended Y E X U W g d h d') (F.clauses Y E X U W g d h d' 𝓛 𝓜.mem 𝓡.returns) κs a tt r)))) (id⊢ 𝓤 _) $ await ! tt $ pick ! (λ r.
    let owed = Owed Y E X U W g d h d' part ssrc rtx mid rid r in
    let known = Known Y E X U W g d h d' part ssrc rtx mid rid r in
    split ! $ split ! $ split ! $ move ! (1 ∷ []) $ split3 ! $ move ! (2 ∷ []) $ split3 ! $
    move ! (7 ∷ []) $ use1 𝓛 (‵ owed ⊛ raw (fact 𝓤 known)) (ex_e 𝓤 _ (λ ws. snd∗ 𝓤 (sem 𝓛 (lasts (F.ended Y E X U W g d h d') κs a ws)) (sep 𝓤 (sem 𝓛 owed) (fact 𝓤 known)))) $
    split ! $ move ! (1 ∷ []) $ heard ! known (λ told. move ! (7 ∷ []) $
    peeks ! First (Is First) (shows 𝓛 First) r (v ∷ []) (λ is.
    lands_as ! refl refl (((flat_laws κs.0 (param 3 U) tt (param_laws 3 U LU)).lawful 𝓛).typed r (v ∷ []) is).0 $
    -- answer_of(..); [the answer; the loan's promise; tokens]
    let z : B.Ghost = ((short, (qs.0, (qs.1.1.1.1.0, tt)), (bounds.1.0, tt), (r, tt), (v ∷ [], tt)), tt) in
    nothing ! $ move ! (1 ∷ 0 ∷ []) $ fjoin ! $ nothing ! $ move ! (4 ∷ 0 ∷ []) $ join ! $ move ! (7 ∷ 0 ∷ []) $ join ! $ join ! $
    use1 𝓛 (raw (B.pre z)) (beside 𝓛 (κs.1.1.1.1.0 ⊑ U.lives) lives _) $
    calls_at ! (framed 𝓤 𝓛.H 𝓜 𝓣) B met₂ z (and_then ! (get ! refl) (no_more !)) (λ v'.
    use1 𝓛 (later (some (λ (r' : Second.Denot). ((‵ (flft κs.0 qs.0) ⊛ ‵ (flft κs.1.1.1.1.0 qs.1.1.1.1.0) ⊛ ‵ ftrue) ⊛ ‵ (Second.own_val r' (v' ∷ [])))
    ⊛ raw (ensured 𝓛 (S.ended U) (S.clauses U 𝓛 𝓜.mem 𝓡.returns) short (r, tt) tt r')))) (id⊢ 𝓤 _) $ await ! tt $ pick ! (λ r'.
    split ! $ move ! (1 ∷ []) $ use1 𝓛 (raw (fact 𝓤 (r' ≡ none_where_declined r))) (ex_e 𝓤 _ (λ ws. snd∗ 𝓤 (sem 𝓛 (lasts (S.ended U) short (r, tt) ws)) (fact 𝓤 (r' ≡ none_where_declined r)))) $
    heard ! (r' ≡ none_where_declined r) (λ e. split ! $ move ! (1 ∷ []) $ rewrite ! 0 (λ (o : Second.Denot). ‵ (Second.own_val o (v' ∷ []))) e refl $
    peeks ! Second (Is Second) (shows 𝓛 Second) (none_where_declined r) (v' ∷ []) (λ is'.
    lands_as ! refl refl (((nested_laws κs.0 (param 3 U) tt (param_laws 3 U LU)).lawful 𝓛).typed (none_where_declined r) (v' ∷ []) is').0 $
    returns ! (look_at ! 0 refl) $ free_all ! refl $ keep ! (2 ∷ 0 ∷ 1 ∷ 3 ∷ 4 ∷ 5 ∷ 6 ∷ []) $
    -- [the loan's promise; the answer; two tokens; the others]
    use1 𝓛 (‵ (LendsStream (param 0 Y) (param 3 U) part (none_where_declined r) (λ n x. IfLent (none_where_declined r) (λ lent. Holds Y E X U W g d h d' part ssrc rtx mid rid lent n x)) (Kept Y E X U W g d h d' part ssrc rtx mid rid)))
    (handed_on 𝓛 (param 0 Y) (param 3 U) part r (Holds Y E X U W g d h d' part ssrc rtx mid rid) (Kept Y E X U W g d h d' part ssrc rtx mid rid)) $
    suffices ! _ (ends_at 𝓛 T' stays c y' v' (none_where_declined r) (tt, (tt, (tt, (tt, (tt, tt))))) (tt, (tt, (tt, (tt, (tt, tt)))))) $
    use0 𝓛 (raw (fact 𝓤 (IfOk (none_where_declined r) (λ lent. IsNone lent ↔ IsTrue (g.media.declines_tx part.now ssrc rtx mid rid))))) (fact_i 𝓤 _ (emp 𝓤) (none_came _ r told)) $
    move ! (1 ∷ 0 ∷ []) $ join ! $ nothing ! $ nothing ! $ fjoin ! $ nothing ! $ fjoin ! $ nothing ! $ fjoin ! $ nothing ! $ fjoin ! $ nothing ! $ fjoin ! $ move ! (0 ∷ 2 ∷ []) $ join ! $
    move ! (2 ∷ []) $ split3 ! $ move ! (2 ∷ []) $ drop ! $ move ! (1 ∷ 5 ∷ []) $ join ! $ move ! (4 ∷ 0 ∷ []) $ join ! $ move ! (5 ∷ 0 ∷ []) $ join ! $ move ! (4 ∷ 0 ∷ []) $ join ! $ move ! (1 ∷ 0 ∷ []) $ join ! $ join ! $ join ! $ done !)))))))))))
