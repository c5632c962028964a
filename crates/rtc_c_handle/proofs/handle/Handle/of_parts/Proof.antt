-- Two fields are moved, and what they own goes with them.
use Rattle.rtc_c_handle.proofs.Names.{refl, sym, subst, List, [], ◌∷◌, ◌++◌, Ura, Val, SProp, ent, emp, id⊢, ftrue, fsep, Memory, Routine, WpFn, Tables, Logic, Fun, tables, WpFn-mono, Item, ‵, raw, ◌⊛◌, ◌$◌, ◌∵◌, !, qed, by, move, drop, use1, join, split, fsplit, fjoin, suffices, done, whole, sub, agg, stop, fld, no_more, and_then, of_opd, returns, enter, alloc_all, pass_all, free_all, look_at, get, get_in, sets, yes, type_at, nothing, triple_of, entered, says, Stays, stay_dropped, walk_of, ends_at, Goes-dropped, walk_Meets, D, B, word, box_typed, box_out, box_in}
use contract.Running.{tables_of}
use Rattle.std.specs.Prelude.{Some}
use Rattle.rtc_c_handle.proofs.Kept.{Kept, parts_slot}
use Rattle.rtc_c_handle.specs.contracts.handle.Handle.of_parts as F
use Rattle.rtc_c_handle.specs.contracts.handle.Handle.of_parts.Key.{name as own_name}
use Rattle.rtc_c_handle.proofs.handle.Handle.of_parts.Statement.{statement}
use Rattle.rtc_c_handle.proofs.handle.Handle.of_parts.Code as code

abbrev stayed : Stays (F.ended).signature.params (F.ended).kept
stayed = (stay_dropped parts_slot yes, tt)

module _ {M : Type 1} {𝓤 : Ura M} (𝓛 : Logic 𝓤) (at_mem : Memory → SProp 𝓤) (run : Routine → Fun 𝓤) (𝓣 : Tables 𝓤 𝓛.H) where
  open 𝓛 use {H}

  walk : (z : (walk_of 𝓛 F.ended stayed (F.clauses 𝓛 at_mem run)).Ghost)
      → ent 𝓤 ((walk_of 𝓛 F.ended stayed (F.clauses 𝓛 at_mem run)).pre z)
      (WpFn 𝓤 H 𝓣.C 𝓣.Λ code.function (z.0.4.0 ++ []) ((walk_of 𝓛 F.ended stayed (F.clauses 𝓛 at_mem run)).post z))
  walk z =
      let Post = (walk_of 𝓛 F.ended stayed (F.clauses 𝓛 at_mem run)).post z in
      let box : D Kept = record { ptr = z.0.3.0.place; alloc = z.0.3.0.alloc; value = z.0.3.0.value } in
      let Made = type_at (F.signature).result tt in
      let made : Made.Denot = record { place = box.ptr; alloc = box.alloc; value = Some box.value } in
      qed 𝓛 ((‵ ftrue ⊛ ‵ (fsep ((B Kept).own_val box z.0.4.0) ftrue)) ∷ raw (emp 𝓤) ∷ []) ∵ split ! $ drop ! $ fsplit ! $
      box_out Kept ! box z.0.4.0 (λ b o hv is_block is_word fits. box_in Kept ! box b o box.value is_block refl $
      let stored = word Kept hv b o in
      use1 𝓛 (‵ (Made.own_val made (stored ∷ []))) (id⊢ 𝓤 _) $ move ! (1 ∷ 2 ∷ []) $ drop ! $ drop ! $
      let Γ : List (Item 𝓤) = ‵ (Made.own_val made (stored ∷ [])) ∷ [] in
      by ! (subst (λ (us : List Val). ent 𝓤 (types.Kit.⋆ 𝓛 Γ) (WpFn 𝓤 H 𝓣.C 𝓣.Λ code.function (us ++ []) Post)) (sym is_word)
      (qed 𝓛 Γ ∵ enter ! 𝓣.C 𝓣.Λ code.function (stored ∷ []) _ $ alloc_all ! (λ ls. pass_all ! refl (box_typed Kept hv b o fits, tt) $
      sets ! (of_opd ! (get_in ! (fld ! refl (stop !)) (sub ! 0 refl (whole !)))) refl (tt, tt) $
      sets ! (of_opd ! (get_in ! (fld ! refl (stop !)) (sub ! 1 refl (whole !)))) refl fits $
      sets ! (of_opd ! (get ! refl)) refl (tt, tt) $
      sets ! (agg ! (and_then ! (get ! refl) (and_then ! (get ! refl) (no_more !)))) refl (box_typed Kept hv b o fits) $
      returns ! (look_at ! 0 refl) $ free_all ! refl $
      suffices ! _ (ends_at 𝓛 F.ended stayed (F.clauses 𝓛 at_mem run) z stored made (tt, tt) (tt, tt)) $ says ! refl $
      nothing ! $ nothing ! $ fjoin ! $ join ! $ nothing ! $ join ! $ done !))))

pub of_parts_spec : {M : Type 1} → statement M
unfolding tables_of
of_parts_spec 𝓤 𝓛 𝓜 𝓡 wired =
    let 𝓣 : Tables 𝓤 𝓛.H = tables_of 𝓤 𝓛.H 𝓜 (tables 𝓤 𝓛.H 𝓜 𝓡 𝓡.env) in
    entered 𝓤 𝓛.H (triple_of 𝓛 F.signature (F.spec 𝓛 𝓜.mem 𝓡.returns)) 𝓣.C 𝓣.Λ own_name code.function (code.unfolded 𝓤 𝓛.H 𝓜 𝓡 wired)
    (walk_Meets 𝓛 F.ended stayed (Goes-dropped 𝓛 0 parts_slot yes (λ κs x f. refl), tt) (F.clauses 𝓛 𝓜.mem 𝓡.returns)
    (WpFn 𝓤 𝓛.H 𝓣.C 𝓣.Λ code.function) (WpFn-mono 𝓤 𝓛.H 𝓛.laws 𝓣 code.function)
    (walk 𝓛 𝓜.mem 𝓡.returns 𝓣))
