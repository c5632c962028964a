use Rattle.std.proofs.Common.{◌≡◌, ◌∙◌, sym, subst, ℕ, List, true}
use Rattle.std.specs.List.{list_all}
use Rattle.std.proofs.lemmas.Slice.Eq.{bytes_eq-Decides, slice_eq-Decides}
use Rattle.rtc_sdp_values.specs.Mids.{is_among}
use Rattle.rtc_sdp_values.proofs.MidSetLemmas.{all_among_all, all_grouped}
use Rattle.rtc_sdp_values.proofs.consistency.are_grouped_among.Goals as goal

pub returns-then-eq : goal.returns-then-eq
returns-then-eq c =
    let same = (slice_eq-Decides bytes_eq-Decides c.args.group.now c.args.mids.now c.eq.result c.eq.ensures).0 c.if-eq.true in
    sym (all_grouped c.args.group.now c.args.lines.now
    (subst (λ (mids : List (List ℕ)). list_all (λ mid. is_among c.args.group.now mid) mids ≡ true) (same ∙ c.requires) (all_among_all c.args.group.now)))
