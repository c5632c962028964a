-- The answer of `make_stream_rx` is handed on by `answer_of`: a walk of the two calls.
use Rattle.rtc_peer.proofs.NestedLoans.{◌≡◌, refl, List, [], ◌∷◌, Ura, Fml, ftrue, flft, SProp, sep, emp, via, id⊢, ex_e, fst∗, snd∗, ◌⊑◌, fact_i, fact_use, Lfts, Fun, fact, tables, yes, no, Is, shows, bounded, param, param_laws, RattleType, MutBor, mut_vals, mut_Tells, plain, mut_ref_to, named_lft, nothing, heard, peeks, calls_at, Clauses, Ended, on_entry, ensured, lasts, triple_of, Contract, Triple, framed, Stays, stay_dropped, walk_of, ends_at, Goes-spent_ref, Goes-dropped, inst_fn, Args, Dict, a_type, dcons, dnil, named, Memory, Routine, alloc_all, pass_all, free_all, look_at, get, through, sets, lands_as, rewrite, ‵, raw, ◌⊛◌, some, later, ◌$◌, ◌∵◌, !, qed, move, keep, drop, use0, use1, split, split3, join, pick, fjoin, suffices, await, done, Logic, sem, stop, addr, and_then, no_more, returns, enter, proved, LendsSoOk, lent_without_reason, none_without_reason, with_fact, Rtx, Rid, rtx_told, rid_told, Reasoned, reasoned_laws, Nested, nested_laws}
use Rattle.std.specs.Prelude.{ℕ, ◌↔◌, Option, Result, IfOk, IsNone, IsTrue}
use Rattle.std.proofs.option.Option.TheLaws as option
use Rattle.rtc_sdp_values.specs.declared.ssrc.Ssrc.{Ssrc}
use Rattle.rtc_sdp_values.specs.contracts.ssrc.Ssrc as S-type
use Rattle.rtc_sdp_values.specs.contracts.mid.Mid as M-type
use Rattle.rtc_sdp_values.specs.contracts.rid.Rid as I-type
use Rattle.rtc_sdp_values.proofs.ssrc.Ssrc.TheLaws as ssrcs
use Rattle.rtc_sdp_values.proofs.mid.Mid.TheLaws as mids
use Rattle.rtc_sdp_values.proofs.rid.Rid.TheLaws as rids
use Rattle.rtc_parts.specs.NoStream.{StreamAnswers, none_where_declined}
use Rattle.rtc_parts.specs.StreamLends.{IfLent, LendsStream}
use Rattle.rtc_parts.specs.declared.no_stream.NoStream.{NoStream}
use Rattle.rtc_parts.specs.contracts.answer_of as S
use Rattle.rtc_parts.proofs.answer_of.Met as second
use Rattle.rtc_parts.proofs.answer_of.Symbol.{name as #second}
use Rattle.rtc_wire.specs.declared.stun_reader.StunReader.{Ghosts as StunGhosts}
use Rattle.rtc_parts.specs.declared.ice_agent.IceAgent.{Ghosts as IceGhosts}
use Rattle.rtc_parts.specs.declared.dtls_instance.DtlsInstance.{Ghosts as DtlsGhosts}
use Rattle.rtc_parts.specs.declared.association.Association.{Ghosts as AssociationGhosts}
use Rattle.rtc_parts.specs.declared.media_event.MediaEvent.{Ghosts as EventGhosts}
use Rattle.rtc_parts.specs.declared.media_session.MediaSession.{Ghosts}
use Rattle.rtc_parts.specs.declared.ids.Ids.{Ghosts as IdsGhosts}
use Rattle.rtc_peer_direct.specs.Streams.{ExpectsRx, gives_no_rx}
use Rattle.rtc_peer.specs.CachedPeer.{polled_of}
use Rattle.rtc_peer.specs.contracts.direct_api.DirectApi as D-type
use Rattle.rtc_peer.specs.contracts.direct_api.DirectApi.make_stream_rx as F
use Rattle.rtc_peer.specs.contracts.direct_api.DirectApi.expect_stream_rx as T
use Rattle.rtc_peer.specs.contracts.direct_api.DirectApi.expect_stream_rx.Key.{name as #self}
use Rattle.rtc_peer.proofs.direct_api.DirectApi.make_stream_rx.Met as first
use Rattle.rtc_peer.proofs.direct_api.DirectApi.make_stream_rx.Symbol.{name as #first}
use Rattle.rtc_peer.proofs.direct_api.DirectApi.expect_stream_rx.Statement as stated
use Rattle.rtc_peer.proofs.direct_api.DirectApi.expect_stream_rx.Code as code

module _ (Y D C V N E X U W : RattleType) (gi : IceGhosts Y.Denot) (di : Dict) (gr : StunGhosts Y.Denot) (dr : Dict) (gd : DtlsGhosts D.Denot) (dd : Dict) (ga : AssociationGhosts C.Denot) (da : Dict) (gm : Ghosts V.Denot E.Denot X.Denot U.Denot W.Denot) (dm : Dict) (ge : EventGhosts E.Denot) (de : Dict) (gn : IdsGhosts N.Denot) (dn : Dict) where
  abbrev args : Args
  args = bounded (a_type ∷ a_type ∷ a_type ∷ a_type ∷ a_type ∷ a_type ∷ a_type ∷ a_type ∷ a_type ∷ []) (Y, (D, (C, (V, (N, (E, (X, (U, (W, tt))))))))) (dcons di (dcons dr (dcons dd (dcons da (dcons dm (dcons de (dcons dn dnil)))))))

  abbrev end : Ended
  end = T.ended Y D C V N E X U W gi di gr dr gd dd ga da gm dm ge de gn dn

  abbrev Handle : Lfts 11 → RattleType
  Handle κs = D-type.the_row (named_lft 11 1 tt κs) (param 0 Y) (param 1 D) (param 2 C) (param 3 V) (param 4 N) (param 5 E) (param 6 X) (param 7 U) (param 8 W) gi gr gd ga gm ge gn

  abbrev Row : RattleType
  Row = D-type.the_row (record { mir = named 1; lft = [] }) (param 0 Y) (param 1 D) (param 2 C) (param 3 V) (param 4 N) (param 5 E) (param 6 X) (param 7 U) (param 8 W) gi gr gd ga gm ge gn

  abbrev Stream : RattleType
  Stream = param 6 X

  abbrev stayed : Stays end.signature.params end.kept
  stayed = (
    stay_dropped (mut_ref_to (0 ∷ []) tt (plain Handle)) no,
    (stay_dropped (plain (λ _. S-type.the_row)) yes, (stay_dropped (plain (λ _. Rtx)) yes, (stay_dropped (plain (λ _. M-type.the_row)) yes, (stay_dropped (plain (λ _. Rid)) yes, tt)))),
  )

  module _ {M : Type 1} {𝓤 : Ura M} (𝓛 : Logic 𝓤) (at_mem : Memory → SProp 𝓤) (run : Routine → Fun 𝓤) where
    abbrev spec : Clauses 𝓤 end
    spec = T.clauses Y D C V N E X U W gi di gr dr gd dd ga da gm dm ge de gn dn 𝓛 at_mem run

    abbrev One : Contract 𝓤
    One = triple_of 𝓛 (F.signature Y D C V N E X U W gi di gr dr gd dd ga da gm dm ge de gn dn) (F.spec Y D C V N E X U W gi di gr dr gd dd ga da gm dm ge de gn dn 𝓛 at_mem run)

    abbrev Two : Contract 𝓤
    Two = triple_of 𝓛 (S.signature X) (S.spec X 𝓛 at_mem run)

  module _ (self : MutBor Row.Denot) (ssrc : Ssrc) (rtx : Option Ssrc) (mid : List ℕ) (rid : Option (List ℕ)) where
    -- what the handle holds if a stream was lent, and if none was
    abbrev Holds : MutBor X.Denot → Row.Denot → X.Denot → Type 0
    Holds lent n x = (n.rtc.ghost_name ≡ self.now.rtc.ghost_name) × ExpectsRx gm.media ssrc rtx mid rid (polled_of self.now.rtc.now) lent.now x (polled_of n.rtc.now)

    abbrev Kept : Row.Denot → Type 0
    Kept n = (n.rtc.ghost_name ≡ self.now.rtc.ghost_name) × (polled_of n.rtc.now ≡ polled_of self.now.rtc.now)

    -- what the first call says of its answer
    abbrev Owed : Result (MutBor X.Denot) NoStream → Fml
    Owed r = LendsSoOk Row Stream self r (λ n x. IfOk r (λ lent. Holds lent n x)) Kept

    abbrev Known : Result (MutBor X.Denot) NoStream → Type 0
    Known r = StreamAnswers (gives_no_rx gm.media ssrc rtx mid rid (polled_of self.now.rtc.now)) r

pub expect_stream_rx_spec : {M : Type 1} → stated.statement M
expect_stream_rx_spec 𝓤 𝓛 𝓜 𝓡 wired Y D C V N E X U W LY LD LC LV LN LE LX LU LW gi di gr dr gd dd ga da gm dm ge de gn dn ice stun dtls association media event ids =
    let 𝓣 = tables 𝓤 𝓛.H 𝓜 𝓡 𝓡.env in
    let T' = end Y D C V N E X U W gi di gr dr gd dd ga da gm dm ge de gn dn in
    let stays = stayed Y D C V N E X U W gi di gr dr gd dd ga da gm dm ge de gn dn in
    let c = spec Y D C V N E X U W gi di gr dr gd dd ga da gm dm ge de gn dn 𝓛 𝓜.mem 𝓡.returns in
    let A = One Y D C V N E X U W gi di gr dr gd dd ga da gm dm ge de gn dn 𝓛 𝓜.mem 𝓡.returns in
    let B = Two Y D C V N E X U W gi di gr dr gd dd ga da gm dm ge de gn dn 𝓛 𝓜.mem 𝓡.returns in
    let met₁ : Triple 𝓤 (𝓣.C (#first (args Y D C V N E X U W gi di gr dr gd dd ga da gm dm ge de gn dn))) A = first.met 𝓤 𝓛 𝓜 𝓡 (code.calls-rtc_peer::direct_api::DirectApi::make_stream_rx 𝓡.env wired) Y D C V N E X U W LY LD LC LV LN LE LX LU LW gi di gr dr gd dd ga da gm dm ge de gn dn ice stun dtls association media event ids in
    let met₂ : Triple 𝓤 (𝓣.C (#second (bounded (a_type ∷ []) (X, tt) dnil))) B = second.met 𝓤 𝓛 𝓜 𝓡 (code.calls-rtc_parts::answer_of 𝓡.env wired) X LX in
    proved 𝓛 T' stays c 𝓜 𝓡
    (Goes-spent_ref 𝓛 11 (0 ∷ []) tt (plain (Handle Y D C V N E X U W gi di gr dr gd dd ga da gm dm ge de gn dn)), (Goes-dropped 𝓛 11 (plain (λ _. S-type.the_row)) yes (λ κs x f. refl), (Goes-dropped 𝓛 11 (plain (λ _. Rtx)) yes (λ κs x f. refl), (Goes-dropped 𝓛 11 (plain (λ _. M-type.the_row)) yes (λ κs x f. refl), (Goes-dropped 𝓛 11 (plain (λ _. Rid)) yes (λ κs x f. refl), tt)))))
    (#self (args Y D C V N E X U W gi di gr dr gd dd ga da gm dm ge de gn dn)) (inst_fn (args Y D C V N E X U W gi di gr dr gd dd ga da gm dm ge de gn dn) code.function) (code.unfolded 𝓤 𝓛.H 𝓜 𝓡 wired (Y, (D, (C, (V, (N, (E, (X, (U, (W, tt))))))))) di dr dd da dm de dn)
    (λ κs. (mut_vals, ((λ x. ssrcs.the_told.val x ∷ []), ((λ x. rtx_told.val x ∷ []), ((λ x. mids.the_told.val x ∷ []), ((λ x. rid_told.val x ∷ []), tt))))))
    (λ κs. (mut_Tells (named 0) κs.0 (Handle Y D C V N E X U W gi di gr dr gd dd ga da gm dm ge de gn dn κs), (ssrcs.the_told.tells, (rtx_told.tells, (mids.the_told.tells, (rid_told.tells, tt))))))
    (λ κs qs bounds a g' are.
    let self = a.0 in let ssrc = a.1.0 in let rtx = a.1.1.0 in let mid = a.1.1.1.0 in let rid = a.1.1.1.1.0 in
    let y : A.Ghost = ((κs, qs, bounds, a, (mut_vals self, (ssrcs.the_told.val ssrc ∷ [], (rtx_told.val rtx ∷ [], (mids.the_told.val mid ∷ [], (rid_told.val rid ∷ [], tt)))))), tt) in
    let y' : (walk_of 𝓛 T' stays c).Ghost = ((κs, qs, bounds, a, (mut_vals self, (ssrcs.the_told.val ssrc ∷ [], (rtx_told.val rtx ∷ [], (mids.the_told.val mid ∷ [], (rid_told.val rid ∷ [], tt)))))), tt) in
    let short : Lfts 2 = (κs.0, (κs.1.1.1.1.1.1.1.1.0, tt)) in
    let First = Reasoned κs.0 (param 6 X) in
    let Second = Nested κs.0 (param 6 X) in
    fact_use 𝓤 (κs.1.1.1.1.1.1.1.1.0 ⊑ X.lives) (via 𝓤 (sep 𝓤 (fact 𝓤 (κs.1.1.0 ⊑ Y.lives)) (sep 𝓤 (fact 𝓤 (κs.1.1.1.0 ⊑ D.lives)) (sep 𝓤 (fact 𝓤 (κs.1.1.1.1.0 ⊑ C.lives)) (sep 𝓤 (fact 𝓤 (κs.1.1.1.1.1.0 ⊑ V.lives)) (sep 𝓤 (fact 𝓤 (κs.1.1.1.1.1.1.0 ⊑ N.lives)) (sep 𝓤 (fact 𝓤 (κs.1.1.1.1.1.1.1.0 ⊑ E.lives)) (sep 𝓤 (fact 𝓤 (κs.1.1.1.1.1.1.1.1.0 ⊑ X.lives)) (sep 𝓤 (fact 𝓤 (κs.1.1.1.1.1.1.1.1.1.0 ⊑ U.lives)) (sep 𝓤 (fact 𝓤 (κs.1.1.1.1.1.1.1.1.1.1.0 ⊑ W.lives)) (emp 𝓤)))))))))) (snd∗ 𝓤 (on_entry 𝓛 T'.signature κs qs a (mut_vals self, (ssrcs.the_told.val ssrc ∷ [], (rtx_told.val rtx ∷ [], (mids.the_told.val mid ∷ [], (rid_told.val rid ∷ [], tt)))))) (sep 𝓤 (fact 𝓤 (κs.1.1.0 ⊑ Y.lives)) (sep 𝓤 (fact 𝓤 (κs.1.1.1.0 ⊑ D.lives)) (sep 𝓤 (fact 𝓤 (κs.1.1.1.1.0 ⊑ C.lives)) (sep 𝓤 (fact 𝓤 (κs.1.1.1.1.1.0 ⊑ V.lives)) (sep 𝓤 (fact 𝓤 (κs.1.1.1.1.1.1.0 ⊑ N.lives)) (sep 𝓤 (fact 𝓤 (κs.1.1.1.1.1.1.1.0 ⊑ E.lives)) (sep 𝓤 (fact 𝓤 (κs.1.1.1.1.1.1.1.1.0 ⊑ X.lives)) (sep 𝓤 (fact 𝓤 (κs.1.1.1.1.1.1.1.1.1.0 ⊑ U.lives)) (sep 𝓤 (fact 𝓤 (κs.1.1.1.1.1.1.1.1.1.1.0 ⊑ W.lives)) (emp 𝓤)))))))))))
    (via 𝓤 (sep 𝓤 (fact 𝓤 (κs.1.1.1.0 ⊑ D.lives)) (sep 𝓤 (fact 𝓤 (κs.1.1.1.1.0 ⊑ C.lives)) (sep 𝓤 (fact 𝓤 (κs.1.1.1.1.1.0 ⊑ V.lives)) (sep 𝓤 (fact 𝓤 (κs.1.1.1.1.1.1.0 ⊑ N.lives)) (sep 𝓤 (fact 𝓤 (κs.1.1.1.1.1.1.1.0 ⊑ E.lives)) (sep 𝓤 (fact 𝓤 (κs.1.1.1.1.1.1.1.1.0 ⊑ X.lives)) (sep 𝓤 (fact 𝓤 (κs.1.1.1.1.1.1.1.1.1.0 ⊑ U.lives)) (sep 𝓤 (fact 𝓤 (κs.1.1.1.1.1.1.1.1.1.1.0 ⊑ W.lives)) (emp 𝓤))))))))) (snd∗ 𝓤 (fact 𝓤 (κs.1.1.0 ⊑ Y.lives)) (sep 𝓤 (fact 𝓤 (κs.1.1.1.0 ⊑ D.lives)) (sep 𝓤 (fact 𝓤 (κs.1.1.1.1.0 ⊑ C.lives)) (sep 𝓤 (fact 𝓤 (κs.1.1.1.1.1.0 ⊑ V.lives)) (sep 𝓤 (fact 𝓤 (κs.1.1.1.1.1.1.0 ⊑ N.lives)) (sep 𝓤 (fact 𝓤 (κs.1.1.1.1.1.1.1.0 ⊑ E.lives)) (sep 𝓤 (fact 𝓤 (κs.1.1.1.1.1.1.1.1.0 ⊑ X.lives)) (sep 𝓤 (fact 𝓤 (κs.1.1.1.1.1.1.1.1.1.0 ⊑ U.lives)) (sep 𝓤 (fact 𝓤 (κs.1.1.1.1.1.1.1.1.1.1.0 ⊑ W.lives)) (emp 𝓤))))))))))
    (via 𝓤 (sep 𝓤 (fact 𝓤 (κs.1.1.1.1.0 ⊑ C.lives)) (sep 𝓤 (fact 𝓤 (κs.1.1.1.1.1.0 ⊑ V.lives)) (sep 𝓤 (fact 𝓤 (κs.1.1.1.1.1.1.0 ⊑ N.lives)) (sep 𝓤 (fact 𝓤 (κs.1.1.1.1.1.1.1.0 ⊑ E.lives)) (sep 𝓤 (fact 𝓤 (κs.1.1.1.1.1.1.1.1.0 ⊑ X.lives)) (sep 𝓤 (fact 𝓤 (κs.1.1.1.1.1.1.1.1.1.0 ⊑ U.lives)) (sep 𝓤 (fact 𝓤 (κs.1.1.1.1.1.1.1.1.1.1.0 ⊑ W.lives)) (emp 𝓤)))))))) (snd∗ 𝓤 (fact 𝓤 (κs.1.1.1.0 ⊑ D.lives)) (sep 𝓤 (fact 𝓤 (κs.1.1.1.1.0 ⊑ C.lives)) (sep 𝓤 (fact 𝓤 (κs.1.1.1.1.1.0 ⊑ V.lives)) (sep 𝓤 (fact 𝓤 (κs.1.1.1.1.1.1.0 ⊑ N.lives)) (sep 𝓤 (fact 𝓤 (κs.1.1.1.1.1.1.1.0 ⊑ E.lives)) (sep 𝓤 (fact 𝓤 (κs.1.1.1.1.1.1.1.1.0 ⊑ X.lives)) (sep 𝓤 (fact 𝓤 (κs.1.1.1.1.1.1.1.1.1.0 ⊑ U.lives)) (sep 𝓤 (fact 𝓤 (κs.1.1.1.1.1.1.1.1.1.1.0 ⊑ W.lives)) (emp 𝓤)))))))))
    (via 𝓤 (sep 𝓤 (fact 𝓤 (κs.1.1.1.1.1.0 ⊑ V.lives)) (sep 𝓤 (fact 𝓤 (κs.1.1.1.1.1.1.0 ⊑ N.lives)) (sep 𝓤 (fact 𝓤 (κs.1.1.1.1.1.1.1.0 ⊑ E.lives)) (sep 𝓤 (fact 𝓤 (κs.1.1.1.1.1.1.1.1.0 ⊑ X.lives)) (sep 𝓤 (fact 𝓤 (κs.1.1.1.1.1.1.1.1.1.0 ⊑ U.lives)) (sep 𝓤 (fact 𝓤 (κs.1.1.1.1.1.1.1.1.1.1.0 ⊑ W.lives)) (emp 𝓤))))))) (snd∗ 𝓤 (fact 𝓤 (κs.1.1.1.1.0 ⊑ C.lives)) (sep 𝓤 (fact 𝓤 (κs.1.1.1.1.1.0 ⊑ V.lives)) (sep 𝓤 (fact 𝓤 (κs.1.1.1.1.1.1.0 ⊑ N.lives)) (sep 𝓤 (fact 𝓤 (κs.1.1.1.1.1.1.1.0 ⊑ E.lives)) (sep 𝓤 (fact 𝓤 (κs.1.1.1.1.1.1.1.1.0 ⊑ X.lives)) (sep 𝓤 (fact 𝓤 (κs.1.1.1.1.1.1.1.1.1.0 ⊑ U.lives)) (sep 𝓤 (fact 𝓤 (κs.1.1.1.1.1.1.1.1.1.1.0 ⊑ W.lives)) (emp 𝓤))))))))
    (via 𝓤 (sep 𝓤 (fact 𝓤 (κs.1.1.1.1.1.1.0 ⊑ N.lives)) (sep 𝓤 (fact 𝓤 (κs.1.1.1.1.1.1.1.0 ⊑ E.lives)) (sep 𝓤 (fact 𝓤 (κs.1.1.1.1.1.1.1.1.0 ⊑ X.lives)) (sep 𝓤 (fact 𝓤 (κs.1.1.1.1.1.1.1.1.1.0 ⊑ U.lives)) (sep 𝓤 (fact 𝓤 (κs.1.1.1.1.1.1.1.1.1.1.0 ⊑ W.lives)) (emp 𝓤)))))) (snd∗ 𝓤 (fact 𝓤 (κs.1.1.1.1.1.0 ⊑ V.lives)) (sep 𝓤 (fact 𝓤 (κs.1.1.1.1.1.1.0 ⊑ N.lives)) (sep 𝓤 (fact 𝓤 (κs.1.1.1.1.1.1.1.0 ⊑ E.lives)) (sep 𝓤 (fact 𝓤 (κs.1.1.1.1.1.1.1.1.0 ⊑ X.lives)) (sep 𝓤 (fact 𝓤 (κs.1.1.1.1.1.1.1.1.1.0 ⊑ U.lives)) (sep 𝓤 (fact 𝓤 (κs.1.1.1.1.1.1.1.1.1.1.0 ⊑ W.lives)) (emp 𝓤)))))))
    (via 𝓤 (sep 𝓤 (fact 𝓤 (κs.1.1.1.1.1.1.1.0 ⊑ E.lives)) (sep 𝓤 (fact 𝓤 (κs.1.1.1.1.1.1.1.1.0 ⊑ X.lives)) (sep 𝓤 (fact 𝓤 (κs.1.1.1.1.1.1.1.1.1.0 ⊑ U.lives)) (sep 𝓤 (fact 𝓤 (κs.1.1.1.1.1.1.1.1.1.1.0 ⊑ W.lives)) (emp 𝓤))))) (snd∗ 𝓤 (fact 𝓤 (κs.1.1.1.1.1.1.0 ⊑ N.lives)) (sep 𝓤 (fact 𝓤 (κs.1.1.1.1.1.1.1.0 ⊑ E.lives)) (sep 𝓤 (fact 𝓤 (κs.1.1.1.1.1.1.1.1.0 ⊑ X.lives)) (sep 𝓤 (fact 𝓤 (κs.1.1.1.1.1.1.1.1.1.0 ⊑ U.lives)) (sep 𝓤 (fact 𝓤 (κs.1.1.1.1.1.1.1.1.1.1.0 ⊑ W.lives)) (emp 𝓤))))))
    (via 𝓤 (sep 𝓤 (fact 𝓤 (κs.1.1.1.1.1.1.1.1.0 ⊑ X.lives)) (sep 𝓤 (fact 𝓤 (κs.1.1.1.1.1.1.1.1.1.0 ⊑ U.lives)) (sep 𝓤 (fact 𝓤 (κs.1.1.1.1.1.1.1.1.1.1.0 ⊑ W.lives)) (emp 𝓤)))) (snd∗ 𝓤 (fact 𝓤 (κs.1.1.1.1.1.1.1.0 ⊑ E.lives)) (sep 𝓤 (fact 𝓤 (κs.1.1.1.1.1.1.1.1.0 ⊑ X.lives)) (sep 𝓤 (fact 𝓤 (κs.1.1.1.1.1.1.1.1.1.0 ⊑ U.lives)) (sep 𝓤 (fact 𝓤 (κs.1.1.1.1.1.1.1.1.1.1.0 ⊑ W.lives)) (emp 𝓤)))))
    (fst∗ 𝓤 (fact 𝓤 (κs.1.1.1.1.1.1.1.1.0 ⊑ X.lives)) (sep 𝓤 (fact 𝓤 (κs.1.1.1.1.1.1.1.1.1.0 ⊑ U.lives)) (sep 𝓤 (fact 𝓤 (κs.1.1.1.1.1.1.1.1.1.1.0 ⊑ W.lives)) (emp 𝓤))))))))))) (λ lives.
    qed 𝓛 (raw (A.pre y) ∷ []) ∵
    enter ! _ _ _ _ _ $ alloc_all ! (λ l. pass_all ! refl ((tt, tt), (((ssrcs.the_row_laws.lawful 𝓛).typed ssrc _ are.1.0).0, ((((option.the_row_laws S-type.the_row ssrcs.the_row_laws).lawful 𝓛).typed rtx _ are.1.1.0).0, (((mids.the_row_laws.lawful 𝓛).typed mid _ are.1.1.1.0).0, ((((option.the_row_laws I-type.the_row rids.the_row_laws).lawful 𝓛).typed rid _ are.1.1.1.1.0).0, tt))))) $
    sets ! (addr ! (through ! refl (stop !))) refl (tt, tt) $
    -- self.make_stream_rx(..)
    calls_at ! (framed 𝓤 𝓛.H 𝓜 𝓣) A met₁ y (and_then ! (get ! refl) (and_then ! (get ! refl) (and_then ! (get ! refl) (and_then ! (get ! refl) (and_then ! (get ! refl) (no_more !)))))) (λ v.
    use1 𝓛 (later (some (λ (r : First.Denot). ((‵ (flft κs.0 qs.0) ⊛ ‵ (flft κs.1.0 qs.1.0) ⊛ ‵ (flft κs.1.1.0 qs.1.1.0) ⊛ ‵ (flft κs.1.1.1.0 qs.1.1.1.0) ⊛ ‵ (flft κs.1.1.1.1.0 qs.1.1.1.1.0) ⊛ ‵ (flft κs.1.1.1.1.1.0 qs.1.1.1.1.1.0) ⊛ ‵ (flft κs.1.1.1.1.1.1.0 qs.1.1.1.1.1.1.0) ⊛ ‵ (flft κs.1.1.1.1.1.1.1.0 qs.1.1.1.1.1.1.1.0) ⊛ ‵ (flft κs.1.1.1.1.1.1.1.1.0 qs.1.1.1.1.1.1.1.1.0) ⊛ ‵ (flft κs.1.1.1.1.1.1.1.1.1.0 qs.1.1.1.1.1.1.1.1.1.0) ⊛ ‵ (flft κs.1.1.1.1.1.1.1.1.1.1.0 qs.1.1.1.1.1.1.1.1.1.1.0) ⊛ ‵ ftrue) ⊛ ‵ (First.own_val r (v ∷ [])))
    ⊛ raw (ensured 𝓛 (F.ended Y D C V N E X U W gi di gr dr gd dd ga da gm dm ge de gn dn) (F.clauses Y D C V N E X U W gi di gr dr gd dd ga da gm dm ge de gn dn 𝓛 𝓜.mem 𝓡.returns) κs a tt r)))) (id⊢ 𝓤 _) $ await ! tt $ pick ! (λ r.
    let owed = Owed Y D C V N E X U W gi di gr dr gd dd ga da gm dm ge de gn dn self ssrc rtx mid rid r in
    let known = Known Y D C V N E X U W gi di gr dr gd dd ga da gm dm ge de gn dn self ssrc rtx mid rid r in
    split ! $ split ! $ split ! $ move ! (1 ∷ []) $ split ! $ move ! (1 ∷ []) $ split ! $ move ! (1 ∷ []) $ split ! $ move ! (1 ∷ []) $ split ! $ move ! (1 ∷ []) $ split ! $ move ! (1 ∷ []) $ split ! $ move ! (1 ∷ []) $ split ! $ move ! (1 ∷ []) $ split ! $
    move ! (11 ∷ []) $ use1 𝓛 (‵ owed ⊛ raw (fact 𝓤 known)) (ex_e 𝓤 _ (λ ws. snd∗ 𝓤 (sem 𝓛 (lasts (F.ended Y D C V N E X U W gi di gr dr gd dd ga da gm dm ge de gn dn) κs a ws)) (sep 𝓤 (sem 𝓛 owed) (fact 𝓤 known)))) $
    split ! $ move ! (1 ∷ []) $ heard ! known (λ told. move ! (11 ∷ []) $
    peeks ! First (Is First) (shows 𝓛 First) r (v ∷ []) (λ is.
    lands_as ! refl refl (((reasoned_laws κs.0 (param 6 X) tt (param_laws 6 X LX)).lawful 𝓛).typed r (v ∷ []) is).0 $
    -- answer_of(..); [the answer; the loan's promise; tokens]
    let z : B.Ghost = ((short, (qs.0, (qs.1.1.1.1.1.1.1.1.0, tt)), (bounds.1.1.1.1.1.1.1.1.1.1.1.0, tt), (r, tt), (v ∷ [], tt)), tt) in
    nothing ! $ move ! (1 ∷ 0 ∷ []) $ fjoin ! $ nothing ! $ move ! (3 ∷ 0 ∷ []) $ join ! $ move ! (11 ∷ 0 ∷ []) $ join ! $ join ! $
    use1 𝓛 (raw (B.pre z)) (with_fact 𝓛 (κs.1.1.1.1.1.1.1.1.0 ⊑ X.lives) lives _) $
    calls_at ! (framed 𝓤 𝓛.H 𝓜 𝓣) B met₂ z (and_then ! (get ! refl) (no_more !)) (λ v'.
    use1 𝓛 (later (some (λ (r' : Second.Denot). ((‵ (flft κs.0 qs.0) ⊛ ‵ (flft κs.1.1.1.1.1.1.1.1.0 qs.1.1.1.1.1.1.1.1.0) ⊛ ‵ ftrue) ⊛ ‵ (Second.own_val r' (v' ∷ [])))
    ⊛ raw (ensured 𝓛 (S.ended X) (S.clauses X 𝓛 𝓜.mem 𝓡.returns) short (r, tt) tt r')))) (id⊢ 𝓤 _) $ await ! tt $ pick ! (λ r'.
    split ! $ move ! (1 ∷ []) $ use1 𝓛 (raw (fact 𝓤 (r' ≡ none_where_declined r))) (ex_e 𝓤 _ (λ ws. snd∗ 𝓤 (sem 𝓛 (lasts (S.ended X) short (r, tt) ws)) (fact 𝓤 (r' ≡ none_where_declined r)))) $
    heard ! (r' ≡ none_where_declined r) (λ e. split ! $ move ! (1 ∷ []) $ rewrite ! 0 (λ (o : Second.Denot). ‵ (Second.own_val o (v' ∷ []))) e refl $
    peeks ! Second (Is Second) (shows 𝓛 Second) (none_where_declined r) (v' ∷ []) (λ is'.
    lands_as ! refl refl (((nested_laws κs.0 (param 6 X) tt (param_laws 6 X LX)).lawful 𝓛).typed (none_where_declined r) (v' ∷ []) is').0 $
    returns ! (look_at ! 0 refl) $ free_all ! refl $ keep ! (2 ∷ 0 ∷ 1 ∷ 3 ∷ 4 ∷ 5 ∷ 6 ∷ 7 ∷ 8 ∷ 9 ∷ 10 ∷ []) $
    -- [the loan's promise; the answer; two tokens; the others]
    use1 𝓛 (‵ (LendsStream (Row Y D C V N E X U W gi di gr dr gd dd ga da gm dm ge de gn dn) (Stream Y D C V N E X U W gi di gr dr gd dd ga da gm dm ge de gn dn) self (none_where_declined r) (λ n x. IfLent (none_where_declined r) (λ lent. Holds Y D C V N E X U W gi di gr dr gd dd ga da gm dm ge de gn dn self ssrc rtx mid rid lent n x)) (Kept Y D C V N E X U W gi di gr dr gd dd ga da gm dm ge de gn dn self ssrc rtx mid rid)))
    (lent_without_reason 𝓛 (Row Y D C V N E X U W gi di gr dr gd dd ga da gm dm ge de gn dn) (Stream Y D C V N E X U W gi di gr dr gd dd ga da gm dm ge de gn dn) self r (Holds Y D C V N E X U W gi di gr dr gd dd ga da gm dm ge de gn dn self ssrc rtx mid rid) (Kept Y D C V N E X U W gi di gr dr gd dd ga da gm dm ge de gn dn self ssrc rtx mid rid)) $
    suffices ! _ (ends_at 𝓛 T' stays c y' v' (none_where_declined r) (tt, (tt, (tt, (tt, (tt, tt))))) (tt, (tt, (tt, (tt, (tt, tt)))))) $
    use0 𝓛 (raw (fact 𝓤 (IfOk (none_where_declined r) (λ lent. IsNone lent ↔ IsTrue (gives_no_rx gm.media ssrc rtx mid rid (polled_of self.now.rtc.now)))))) (fact_i 𝓤 _ (emp 𝓤) (none_without_reason _ r told)) $
    move ! (1 ∷ 0 ∷ []) $ join ! $ nothing ! $ nothing ! $ fjoin ! $ nothing ! $ fjoin ! $ nothing ! $ fjoin ! $ nothing ! $ fjoin ! $ nothing ! $ fjoin ! $ move ! (0 ∷ 2 ∷ []) $ join ! $
    move ! (2 ∷ []) $ split3 ! $ move ! (2 ∷ []) $ drop ! $ move ! (1 ∷ 4 ∷ []) $ join ! $ move ! (4 ∷ 0 ∷ []) $ join ! $ move ! (4 ∷ 0 ∷ []) $ join ! $ move ! (4 ∷ 0 ∷ []) $ join ! $ move ! (4 ∷ 0 ∷ []) $ join ! $ move ! (4 ∷ 0 ∷ []) $ join ! $ move ! (4 ∷ 0 ∷ []) $ join ! $ move ! (4 ∷ 0 ∷ []) $ join ! $ move ! (1 ∷ 0 ∷ []) $ join ! $ join ! $ join ! $ done !)))))))))))
