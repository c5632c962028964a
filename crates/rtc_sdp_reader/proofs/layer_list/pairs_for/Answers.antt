use Rattle.std.proofs.Common.{◌≡◌, ℕ, Option, IfOk, ap, ◌∙◌, subst}
use Rattle.rtc_sdp_reader.specs.Layers.{Pairs, or_no_pairs, pairs_for}
use Rattle.rtc_sdp_reader.specs.Places.{pairs_at}
use Rattle.rtc_sdp_reader.proofs.PlaceLemmas.{pairs_found}
use Rattle.rtc_sdp_reader.proofs.layer_list.pairs_for.Goals as goal

pub returns : goal.returns
returns c =
    let e : or_no_pairs (pairs_at c.args.lines.now c.copied-place.result) ≡ pairs_for c.args.lines.now c.args.direction c.args.rid.now =
    ap (λ (place : Option ℕ). or_no_pairs (pairs_at c.args.lines.now place)) (c.copied-place.ensures ∙ c.get.ensures.value)
    ∙ pairs_found c.args.lines.now c.args.direction c.args.found.now c.args.rid.now c.requires in
    let P : Pairs → Type 0 = λ p. IfOk c.pairs_at.result (λ pairs. pairs ≡ p) in
    subst P e c.pairs_at.ensures
