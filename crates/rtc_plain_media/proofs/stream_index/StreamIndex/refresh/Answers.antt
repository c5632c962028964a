use Rattle.std.proofs.Common.{ℕ, subst, arith}
use Rattle.rtc_plain_media.specs.StreamIndex.{FitsStreams}
use Rattle.rtc_plain_media.proofs.PlaceLemmas.{indexes_kept, fits_less}
use Rattle.rtc_plain_media.proofs.stream_index.StreamIndex.refresh.Goals as goal

pub rebuild-requires : goal.rebuild-requires
rebuild-requires c = fits_less c.args.self.now c.args.count _ c.requires.fewer c.requires.fits

pub returns-then-rows-count : goal.returns-then-rows-count
returns-then-rows-count c = λ before keeps is count held. c.rebuild.ensures

pub returns-else-rows-count : goal.returns-else-rows-count
returns-else-rows-count c = λ before keeps is count held.
    indexes_kept c.args.self.now keeps before c.args.rows.now is (omega (arith, c.if-rows-count.false, count))
    (held, subst (λ (n : ℕ). FitsStreams c.args.self.now n) count c.requires.fits)
