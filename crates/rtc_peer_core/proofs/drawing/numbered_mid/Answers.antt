use Rattle.std.proofs.Common.{◌≡◌, ◌∙◌, ◌++◌, ℕ, List, [], ◌∷◌, ap, arith}
use Rattle.rtc_peer_core.specs.Names.{drawn_mid}
use Rattle.rtc_peer_core.proofs.DrawnMids.{drawn_mid_token}
use Rattle.rtc_peer_core.proofs.drawing.numbered_mid.Goals as goal

pub of-requires : goal.of-requires
of-requires c =
    let letter : c.push.new.self.bytes ≡ 109 ∷ [] = c.push.ensures.ascii (omega arith) ∙ ap (λ (bytes : List ℕ). bytes ++ 109 ∷ []) c.new-name.ensures in
    let name : c.as_str.result.now ≡ drawn_mid c.args.n =
    c.as_str.ensures.value ∙ c.push_str.ensures.bytes ∙ ap (λ (bytes : List ℕ). bytes ++ c.format.result.now) letter
    ∙ ap (λ (digits : List ℕ). 109 ∷ digits) c.format.ensures.text in
    rw name (drawn_mid_token c.args.n (omega arith))
