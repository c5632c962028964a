-- What the reader will answer with the lines that are left is the answer for the whole text.
use Rattle.std.proofs.Common.{◌≡◌, length}
use denote.Shadow.{shadow}
use denote.Text.{Utf8}
use Rattle.rtc_sdp_grammar.specs.ItemForm.{items_of}
use Rattle.rtc_sdp_reader.specs.Reading.{reading}
use Rattle.rtc_sdp_reader.proofs.Resume.{resume}
use Rattle.rtc_sdp_reader.proofs.answers.read_by.Given as goal

abbrev pub invariant-line : goal.invariant-line
invariant-line l = (resume l.reader (items_of l.rest) ≡ reading l.fn.text) × shadow (Utf8 l.rest)

abbrev pub decreases-line : goal.decreases-line
decreases-line l = length l.rest
