-- An answer that lends a stream is handed on with None in place of `Declined`: what its loan promises, and the rows of both answers.
pub use mathlib.Core.Path.{◌≡◌, refl}
pub use mathlib.Core.List.{List, [], ◌∷◌, ◌++◌}
pub use seplogic.Ra.Ura.{Ura}
pub use base.Fml.{Lft, Fml, ftrue, flft}
pub use base.Logic.{SProp, ent, sep, emp, via, id⊢, ex_e, fst∗, snd∗}
pub use contract.BorrowLft.{◌⊑◌}
pub use contract.Fact.{fact_i, fact_use}
pub use contract.Lifetimes.{Lfts, Shares, AllOutlive}
pub use contract.Monad.{Fun, fact}
pub use contract.Running.{tables}
pub use denote.Exit.{yes, no}
pub use denote.Laws.{Is, shows}
pub use denote.Param.{bounded, layouts, param}
pub use denote.Param.Laws.{Laws, param_laws}
pub use denote.RattleType.{RattleType}
pub use denote.Ref.{MutBor, mut_vals, mut_Tells}
pub use denote.Signature.{plain, mut_ref_to}
pub use denote.Steps.{nothing, heard, peeks}
pub use denote.Triple.Call.{calls_at}
pub use denote.Triple.Clauses.{Clauses, Ended, ensured, lasts}
pub use denote.Triple.Entry.{on_entry}
pub use denote.Triple.Spec.{triple_of}
pub use denote.Triple.Statement.{Contract, Triple}
pub use denote.Triple.Table.{framed}
pub use denote.Triple.Walked.{Stays, stay_dropped, walk_of, ends_at, Goes-spent_ref, Goes-dropped}
pub use mir.MapTy.{inst_fn}
pub use mir.Syntax.{Fn, Args, Dict, a_type, dcons, dnil, method, named}
pub use mir.Val.{Val}
pub use prog.Memory.{Memory}
pub use prog.Routine.{Routine}
pub use prog.Wp.{WpFn}
pub use types.ByLocal.{alloc_all, pass_all, free_all, look_at, get, through, sets, lands_as}
pub use types.Kit.{rewrite, ‵, raw, ◌⊛◌, some, later, ◌$◌, ◌∵◌, !, qed, move, keep, drop, use0, use1, split, split3, join, pick, fjoin, suffices, await, done}
pub use types.Logic.{Logic, sem}
pub use types.Run.{stop, addr, and_then, no_more, returns, enter}
pub use Rattle.std.proofs.raw_atomic.Walks.{proved}
pub use Rattle.std.specs.Borrow.{LendsSoOk}
use denote.Builtin.{One}
use denote.Follow.{such_by, follows_if, follows_so}
use denote.Param.Laws.{Told, enum_told, row_shared, of_field}
use denote.Param.Shared.{mut_ref_shared}
use denote.Ref.{MutRef, NamedLft}
use denote.Struct.Field.{mut_ref_field}
use denote.Struct.Laws.{mut_ref_laws}
use base.Fml.{GName}
use base.Logic.{ex_i}
use mathlib.Core.Option as maybe
use Rattle.std.proofs.Common.{arith}
use Rattle.std.proofs.lemmas.Grind.{common_steps}
use Rattle.std.proofs.alloc.AllocError.TheLaws.{the_row_laws as alloc_error_laws}
use Rattle.std.proofs.option.Option.TheLaws as option
use Rattle.std.proofs.option.Option.TheLaws.{the_row_laws as option_laws}
use Rattle.std.proofs.result.Result.TheLaws.{the_row_laws as result_laws}
use Rattle.std.specs.Prelude.{◌↔◌, Bool, Result, Ok, Err, IfOk, IsNone, IsTrue}
use Rattle.std.specs.contracts.alloc.AllocError as E-type
use Rattle.std.specs.contracts.option.Option as O-type
use Rattle.std.specs.contracts.result.Result as R-type
use Rattle.rtc_sdp_values.proofs.rid.Rid.TheLaws as rids
use Rattle.rtc_sdp_values.proofs.ssrc.Ssrc.TheLaws as ssrcs
use Rattle.rtc_sdp_values.specs.contracts.rid.Rid as I-type
use Rattle.rtc_sdp_values.specs.contracts.ssrc.Ssrc as S-type
use Rattle.rtc_parts.proofs.no_stream.NoStream.TheLaws.{the_row_laws as no_stream_laws}
use Rattle.rtc_parts.specs.NoStream.{StreamAnswers, none_where_declined}
use Rattle.rtc_parts.specs.StreamLends.{IfLent, LendsStream}
use Rattle.rtc_parts.specs.contracts.no_stream.NoStream as N-type
use Rattle.rtc_parts.specs.declared.no_stream.NoStream.{NoStream}
use Rattle.rtc_parts.specs.declared.no_stream.NoStream.TheVariants.{Declined, Alloc}

-- both relations of a loan may be weakened
weaker : {M : Type 1} {𝓤 : Ura M} (𝓛 : Logic 𝓤) (R T : RattleType) (γ : GName) (m : maybe.Option GName)
    (P P' : T.Denot → R.Denot → Type 0) (Q Q' : R.Denot → Type 0)
    → ((w : T.Denot) (n : R.Denot) → P w n → P' w n) → ((n : R.Denot) → Q n → Q' n)
    → ent 𝓤 (sem 𝓛 (follows_so R T γ m P Q)) (sem 𝓛 (follows_so R T γ m P' Q'))
unfolding such_by
weaker {𝓤 = 𝓤} 𝓛 R T γ m P P' Q Q' f g =
    ex_e 𝓤 _ (λ y. ex_i 𝓤 (λ (z : (p : (T.Denot → R.Denot) × R.Denot) × ((w : T.Denot) → P' w (p.0 w)) × Q' p.1). sem 𝓛 (follows_if R T γ m z.0.0 z.0.1))
    (y.0, (λ w. f w (y.0.0 w) (y.1 w)), g y.0.1 y.2))

-- a loan goes on under the answer with None in place of `Declined`
pub handed_on : {M : Type 1} {𝓤 : Ura M} (𝓛 : Logic 𝓤) (R T : RattleType) (s : MutBor R.Denot) (r : Result (MutBor T.Denot) NoStream)
    (P : MutBor T.Denot → R.Denot → T.Denot → Type 0) (Q : R.Denot → Type 0)
    → ent 𝓤 (sem 𝓛 (LendsSoOk R T s r (λ n x. IfOk r (λ lent. P lent n x)) Q))
    (sem 𝓛 (LendsStream R T s (none_where_declined r) (λ n x. IfLent (none_where_declined r) (λ lent. P lent n x)) Q))
handed_on 𝓛 R T s (Ok x) P Q = weaker 𝓛 R T s.ghost_name (maybe.some x.ghost_name) _ _ _ _ (λ w n h. h refl) (λ n h. tt)
handed_on 𝓛 R T s (Err Declined) P Q = weaker 𝓛 R T s.ghost_name maybe.none _ _ _ _ (λ w n h. tt) (λ n h. h)
handed_on 𝓛 R T s (Err Alloc) P Q = weaker 𝓛 R T s.ghost_name maybe.none _ _ _ _ (λ w n h. tt) (λ n h. h)

-- None comes exactly where `Declined` did
pub none_came : {X : Type 0} (none : Bool) (r : Result X NoStream) → StreamAnswers none r
    → IfOk (none_where_declined r) (λ x. IsNone x ↔ IsTrue none)
none_came none (Ok x) h = grind (arith, common_steps)
none_came none (Err Declined) h = grind (arith, common_steps)
none_came none (Err Alloc) h = grind (arith, common_steps)

-- a fact put behind what is had
pub beside : {M : Type 1} {𝓤 : Ura M} (𝓛 : Logic 𝓤) (φ : Type 0) → φ → (P : SProp 𝓤) → ent 𝓤 P (sep 𝓤 P (sep 𝓤 (fact 𝓤 φ) (emp 𝓤)))
beside {𝓤 = 𝓤} 𝓛 φ holds P =
    qed 𝓛 (raw P ∷ []) ∵ nothing ! $ use0 𝓛 (raw (fact 𝓤 φ)) (fact_i 𝓤 φ (emp 𝓤) holds) $ join ! $ move ! (1 ∷ 0 ∷ []) $ join ! $ done !

-- the third and the fourth of the facts that a call requires
pub third : {M : Type 1} (𝓤 : Ura M) (P A B C R : SProp 𝓤) → ent 𝓤 (sep 𝓤 P (sep 𝓤 A (sep 𝓤 B (sep 𝓤 C R)))) C
third 𝓤 P A B C R =
    via 𝓤 (sep 𝓤 A (sep 𝓤 B (sep 𝓤 C R))) (snd∗ 𝓤 P (sep 𝓤 A (sep 𝓤 B (sep 𝓤 C R))))
    (via 𝓤 (sep 𝓤 B (sep 𝓤 C R)) (snd∗ 𝓤 A (sep 𝓤 B (sep 𝓤 C R))) (via 𝓤 (sep 𝓤 C R) (snd∗ 𝓤 B (sep 𝓤 C R)) (fst∗ 𝓤 C R)))

pub fourth : {M : Type 1} (𝓤 : Ura M) (P A B C D R : SProp 𝓤) → ent 𝓤 (sep 𝓤 P (sep 𝓤 A (sep 𝓤 B (sep 𝓤 C (sep 𝓤 D R))))) D
fourth 𝓤 P A B C D R =
    via 𝓤 (sep 𝓤 A (sep 𝓤 B (sep 𝓤 C (sep 𝓤 D R)))) (snd∗ 𝓤 P (sep 𝓤 A (sep 𝓤 B (sep 𝓤 C (sep 𝓤 D R))))) (third 𝓤 A B C D R)

-- the rows of an ssrc of retransmissions and of a layer, and how the machine stores them
abbrev pub Rtx : RattleType
Rtx = O-type.the_row S-type.the_row

abbrev pub Rid : RattleType
Rid = O-type.the_row I-type.the_row

abbrev pub rtx_told : Told Rtx
rtx_told = enum_told (O-type.the_type S-type.the_row) (option.the_laws S-type.the_row ssrcs.the_row_laws ssrcs.the_told)

abbrev pub rid_told : Told Rid
rid_told = enum_told (O-type.the_type I-type.the_row) (option.the_laws I-type.the_row rids.the_row_laws rids.the_told)

-- the rows of the two answers, at the lifetime of the loan, and their laws
abbrev Lent : Lft → RattleType → RattleType
Lent κ R = MutRef (named 0) κ R

lent_laws : (κ : Lft) (R : RattleType) (one : One R.mir) → Laws R → Laws (Lent κ R)
lent_laws κ R one laws =
    let at : NamedLft = record { mir = named 0; lft = κ } in
    of_field (mut_ref_field at R one) (mut_ref_laws at R one) refl (mut_ref_shared at R one (row_shared R laws))

abbrev pub Flat : Lft → RattleType → RattleType
Flat κ R = R-type.the_row (Lent κ R) N-type.the_row

pub flat_laws : (κ : Lft) (R : RattleType) (one : One R.mir) → Laws R → Laws (Flat κ R)
flat_laws κ R one laws = result_laws (Lent κ R) N-type.the_row (lent_laws κ R one laws) no_stream_laws

abbrev pub Nested : Lft → RattleType → RattleType
Nested κ R = R-type.the_row (O-type.the_row (Lent κ R)) E-type.the_row

pub nested_laws : (κ : Lft) (R : RattleType) (one : One R.mir) → Laws R → Laws (Nested κ R)
nested_laws κ R one laws = result_laws (O-type.the_row (Lent κ R)) E-type.the_row (option_laws (Lent κ R) (lent_laws κ R one laws)) alloc_error_laws
