use Rattle.std.proofs.Common.{List, Option, length, ap, arith}
use Rattle.rtc_sdp_values.specs.declared.ssrc.Ssrc.{Ssrc}
use Rattle.rtc_plain_media.proofs.CountLemmas.{sources_most}
use Rattle.rtc_plain_media.proofs.source_counts.add_line.Goals as goal

pub add_sources-requires-2-clause-fits : goal.add_sources-requires-2-clause-fits
add_sources-requires-2-clause-fits c = λ n.
    omega (
      arith,
      c.requires.fits n,
      c.add_sources.ensures.counts n,
      sources_most n c.as_slice.result.now,
      ap (λ (l : List (Ssrc × Option Ssrc)). length l) c.as_slice.ensures,
      ap (λ (l : List (Ssrc × Option Ssrc)). length l) c.as_slice-2.ensures,
    )
