use Rattle.std.proofs.Common.{◌≡◌, ◌+◌, ◌-◌, ◌++◌, ◌∷◌, [], ℕ, take, length, sym, subst, arith}
use Rattle.std.proofs.lemmas.Grind.{common_steps}
use Rattle.rtc_plain_media.specs.Streams.{Streams}
use Rattle.rtc_plain_media.specs.StreamIndex.{FindsStreams}
use Rattle.rtc_plain_media.proofs.PlaceLemmas.{has_less}
use Rattle.rtc_plain_media.proofs.stream_index.StreamIndex.rebuild.Goals as goal

pub loop-at-init : goal.loop-at-init
loop-at-init c = record {
  found = c.clear.ensures.found;
  spare = λ left is. has_less c.clear.new.self (length c.args.rows.now) left (omega (arith, is)) (c.clear.ensures.spare (length c.args.rows.now) c.requires);
  fits = c.clear.ensures.room (length c.args.rows.now) c.requires;
}

pub add-requires : goal.add-requires
add-requires c =
    let rows = c.args.rows.now in
    let left : ℕ = length rows - c.loop-at.at in
    let whole : c.loop-at.at + left ≡ length rows = grind (arith, common_steps) in
    has_less c.loop-at.self left 1 (grind (arith, common_steps)) (c.loop-at.invariant.spare left whole)

pub loop-at-preserved : goal.loop-at-preserved
loop-at-preserved c =
    let rows = c.args.rows.now in
    let at = c.loop-at.at in
    let before : at ≡ length (take at rows) = grind (arith, common_steps) in
    let more : take (at + 1) rows ≡ take at rows ++ c.index-rows-at.result ∷ [] = grind (arith, common_steps, c.index-rows-at.is) in
    record {
      found = subst (λ (l : Streams). FindsStreams c.add.new.self l) (sym more) (c.add.ensures.found (take at rows) before c.loop-at.invariant.found);
      spare = λ left is. c.add.ensures.room.spare left (c.loop-at.invariant.spare (left + 1) (omega (arith, is)));
      fits = c.add.ensures.room.fits (length rows) c.loop-at.invariant.fits;
    }
