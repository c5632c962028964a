-- What is read of a written value: the value, with the SSRCs that its written lines give. A repeated number counts once, and an RTX SSRC is
-- no SSRC of its own.
use Rattle.std.specs.Prelude.{List, map, Option}
use Rattle.std.specs.List.{AllByRecursion}
use Rattle.rtc_sdp_values.specs.declared.media_line.MediaLine.{MediaLine}
use Rattle.rtc_sdp_values.specs.declared.sdp.Sdp.{Sdp}
use Rattle.rtc_sdp_values.specs.declared.ssrc.Ssrc.{Ssrc}
use Rattle.rtc_sdp_reader.specs.PlainSources.{numbers_of, source_pairs, AreNumbersApart}
use Rattle.rtc_sdp_reader.specs.Sources.{sources}

abbrev pub sources_as_read : List (Ssrc × Option Ssrc) → List (Ssrc × Option Ssrc)
sources_as_read rows = sources (numbers_of rows) (source_pairs rows)

abbrev pub line_as_read : MediaLine → MediaLine
line_as_read line = record line { ssrcs = sources_as_read line.ssrcs }

abbrev pub as_read : Sdp → Sdp
as_read sdp = record sdp { lines = map line_as_read sdp.lines }

-- in no line an SSRC is repeated
abbrev pub AreSourcesApart : List MediaLine → Type 0
AreSourcesApart lines = AllByRecursion (λ line. AreNumbersApart line.ssrcs) lines
