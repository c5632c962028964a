-- A handle that has no box owns its allocator alone.
use Rattle.rtc_c_handle.proofs.Names.{refl, sym, subst, List, [], ◌∷◌, ◌++◌, T, lit<, Ura, Val, vnull, vstruct, vcons, vnil, has_ty, WT, SProp, ent, emp, id⊢, ftrue, fsep, Memory, Routine, WpFn, Tables, Logic, Fun, tables, WpFn-mono, Item, ‵, raw, ◌⊛◌, ◌$◌, ◌∵◌, !, qed, by, move, drop, use1, join, split, fsplit, fjoin, fpack, feq_i, suffices, done, agg, no_more, and_then, lit, returns, enter, alloc_all, pass_all, free_all, look_at, get, sets, Valss, yes, RawPtr, null_ptr, ptr_val, type_at, nothing, shape, within, triple_of, entered, says, Stays, stay_dropped, walk_of, ends_at, Goes-dropped, walk_Meets, α, handle_tells, P, owning, box_ty, and_tt}
use contract.Running.{tables_of}
use Rattle.std.specs.Prelude.{None}
use Rattle.rtc_c_handle.proofs.Kept.{Kept, alloc_slot}
use Rattle.rtc_c_handle.specs.contracts.handle.Handle.none as F
use Rattle.rtc_c_handle.specs.contracts.handle.Handle.none.Key.{name as own_name}
use Rattle.rtc_c_handle.proofs.handle.Handle.none.Statement.{statement}
use Rattle.rtc_c_handle.proofs.handle.Handle.none.Code as code

abbrev stayed : Stays (F.ended).signature.params (F.ended).kept
stayed = (stay_dropped alloc_slot yes, tt)

-- the machine's value of a handle whose pointer is null
abbrev stored : Val → Val
stored hv = vstruct (vcons vnull (vcons hv vnil))

module _ {M : Type 1} {𝓤 : Ura M} (𝓛 : Logic 𝓤) (at_mem : Memory → SProp 𝓤) (run : Routine → Fun 𝓤) (𝓣 : Tables 𝓤 𝓛.H) where
  open 𝓛 use {H}

  walk : (z : (walk_of 𝓛 F.ended stayed (F.clauses 𝓛 at_mem run)).Ghost)
      → ent 𝓤 ((walk_of 𝓛 F.ended stayed (F.clauses 𝓛 at_mem run)).pre z)
      (WpFn 𝓤 H 𝓣.C 𝓣.Λ code.function (z.0.4.0 ++ []) ((walk_of 𝓛 F.ended stayed (F.clauses 𝓛 at_mem run)).post z))
  walk z =
      let Post = (walk_of 𝓛 F.ended stayed (F.clauses 𝓛 at_mem run)).post z in
      let a = z.0.3.0 in
      let Made = type_at (F.signature).result tt in
      let made : Made.Denot = record { place = null_ptr; alloc = a; value = None } in
      qed 𝓛 ((‵ ftrue ⊛ ‵ (fsep ((Kept.al.row).own_val a z.0.4.0) ftrue)) ∷ raw (emp 𝓤) ∷ []) ∵ split ! $ drop ! $ fsplit ! $
      handle_tells Kept.al ! a z.0.4.0 (λ hv is_word fits. move ! (1 ∷ 2 ∷ []) $ drop ! $ drop ! $
      let typed : T (has_ty (box_ty Kept) (stored hv)) × WT (stored hv) =
      (and_tt (has_ty (α Kept.al) hv) fits.0, (record { fits = lit< tt }, (fits.1, tt))) in
      let Γ : List (Item 𝓤) = ‵ ((P Kept).own_val a (hv ∷ [])) ∷ [] in
      by ! (subst (λ (us : List Val). ent 𝓤 (types.Kit.⋆ 𝓛 Γ) (WpFn 𝓤 H 𝓣.C 𝓣.Λ code.function (us ++ []) Post)) (sym is_word)
      (qed 𝓛 Γ ∵ enter ! 𝓣.C 𝓣.Λ code.function (hv ∷ []) _ $ alloc_all ! (λ ls. pass_all ! refl (fits, tt) $
      sets ! (agg ! (and_then ! (lit ! tt) (and_then ! (get ! refl) (no_more !)))) refl typed $
      returns ! (look_at ! 0 refl) $ free_all ! refl $
      nothing ! $ nothing ! $ move ! (2 ∷ 0 ∷ []) $ fjoin ! $
      feq_i ! (List Val) (vnull ∷ []) (ptr_val null_ptr ∷ []) refl $ fjoin ! $
      feq_i ! (List Val) (stored hv ∷ []) (stored hv ∷ []) refl $ fjoin ! $
      fpack ! (Valss (RawPtr ∷ P Kept ∷ [])) (within (shape (owning Kept)) (null_ptr, (a, tt)) (stored hv ∷ [])) (vnull ∷ [], (hv ∷ [], tt)) $ fjoin ! $
      use1 𝓛 (‵ (Made.own_val made (stored hv ∷ []))) (id⊢ 𝓤 _) $
      suffices ! _ (ends_at 𝓛 F.ended stayed (F.clauses 𝓛 at_mem run) z (stored hv) made (tt, tt) (tt, tt)) $ says ! refl $
      nothing ! $ nothing ! $ fjoin ! $ join ! $ nothing ! $ join ! $ done !))))

pub none_spec : {M : Type 1} → statement M
unfolding tables_of
none_spec 𝓤 𝓛 𝓜 𝓡 wired =
    let 𝓣 : Tables 𝓤 𝓛.H = tables_of 𝓤 𝓛.H 𝓜 (tables 𝓤 𝓛.H 𝓜 𝓡 𝓡.env) in
    entered 𝓤 𝓛.H (triple_of 𝓛 F.signature (F.spec 𝓛 𝓜.mem 𝓡.returns)) 𝓣.C 𝓣.Λ own_name code.function (code.unfolded 𝓤 𝓛.H 𝓜 𝓡 wired)
    (walk_Meets 𝓛 F.ended stayed (Goes-dropped 𝓛 0 alloc_slot yes (λ κs x f. refl), tt) (F.clauses 𝓛 𝓜.mem 𝓡.returns)
    (WpFn 𝓤 𝓛.H 𝓣.C 𝓣.Λ code.function) (WpFn-mono 𝓤 𝓛.H 𝓛.laws 𝓣 code.function)
    (walk 𝓛 𝓜.mem 𝓡.returns 𝓣))
