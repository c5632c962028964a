-- What the lines of sources say, and the names, numbers and pairs that they give.
use Rattle.std.proofs.Common.{◌≡◌, ℕ, ◌≤◌, true, false, List, [], ◌∷◌, ◌++◌, Option, Some, None, refl, sym, ap, ◌∙◌, append_assoc}
use Rattle.std.specs.Prelude.{IfSome, IsSome}
use Rattle.std.specs.List.{AllByRecursion, filter_map}
use Rattle.rtc_wire_text.specs.Fields.{first}
use Rattle.rtc_sdp_values.specs.declared.msid.Msid.{Msid}
use Rattle.rtc_sdp_values.specs.declared.ssrc.Ssrc.{Ssrc}
use Rattle.rtc_sdp_attributes.specs.PlainValues.{IsPlainMsid}
use Rattle.rtc_sdp_reader.specs.PlainSources.{numbers_of, source_pairs}
use Rattle.rtc_sdp_values.specs.declared.media_line.MediaLine.{MediaLine}
use Rattle.rtc_sdp_grammar.specs.declared.level.Level.TheVariants.{MediaLevel}
use Rattle.rtc_sdp_grammar.specs.declared.attribute.Attribute.TheVariants.{SourceLine}
use Rattle.rtc_sdp_grammar.specs.declared.item.Item.{Item}
use Rattle.rtc_sdp_grammar.specs.declared.item.Item.TheVariants.{Skipped, Says}
use Rattle.rtc_sdp_grammar.specs.MediaTexts.{source_line, source_stream_line}
use Rattle.rtc_sdp_grammar.proofs.MediaLineLaws.{IsPlainSource, source_line_is, source_stream_line_is, IsPlainPair}
use Rattle.rtc_sdp_reader.specs.Said.{cname_of, said_source}
use Rattle.rtc_sdp_writer.specs.MediaRows.{named, number_lines, all_source_lines}
use Rattle.rtc_sdp_writer.specs.Plain.{IsPlainName, AreNamed}
use Rattle.rtc_sdp_writer.proofs.Blocks.{said, Block, AllTagged, optional_block, items_if, all_if, rows_in, items_in, has_tag, tag_of}

abbrev pub AreNumbers : List ℕ → Type 0
AreNumbers numbers = AllByRecursion (λ ssrc. ssrc ≤ 4294967295) numbers

pub name_plain : (ssrc : ℕ) → ssrc ≤ 4294967295 → (cname : List ℕ) → IsPlainName cname → IsPlainSource (named ssrc cname)
name_plain ssrc small cname h = record { ssrc = small; some = h.some; line = h.line }

abbrev says_name : ℕ → List ℕ → Item
says_name ssrc cname = Says MediaLevel (SourceLine (named ssrc cname))

-- ---- the blocks of numbers
module _ (cname : Option (List ℕ)) (name : IfSome cname IsPlainName) (msid : Option Msid) (stream : IfSome msid IsPlainMsid) where
  abbrev pub number_blocks : (numbers : List ℕ) → AreNumbers numbers → List Block
  number_blocks [] h = []
  number_blocks (n ∷ ns) h =
      optional_block 18 (λ (c : List ℕ). source_line (named n c)) (says_name n) IsPlainName (λ c k. source_line_is (named n c) (name_plain n h.0 c k)) (λ c. refl) (λ c. refl) cname name
      ∷ (optional_block 0 (source_stream_line n) (λ m. Skipped) IsPlainMsid (λ m k. source_stream_line_is n m h.0 k) (λ m. tt) (λ m. refl) msid stream
      ∷ number_blocks ns h.1)

  abbrev lines_of : List ℕ → List (List ℕ)
  lines_of [] = []
  lines_of (n ∷ ns) = number_lines cname msid n ++ lines_of ns

  numbers_as_written : (numbers : List ℕ) (h : AreNumbers numbers) → rows_in (number_blocks numbers h) ≡ lines_of numbers
  numbers_as_written [] h = refl
  numbers_as_written (n ∷ ns) h = rw (numbers_as_written ns h.1) (simp append_assoc)

  lines_of_sources : (sources : List (Ssrc × Option Ssrc)) → lines_of (numbers_of sources) ≡ all_source_lines cname msid sources
  lines_of_sources [] = refl
  lines_of_sources ((s, None) ∷ rest) = rw (lines_of_sources rest) (simp append_assoc)
  lines_of_sources ((s, Some r) ∷ rest) = rw (lines_of_sources rest) (simp append_assoc)

  pub sources_as_written : (sources : List (Ssrc × Option Ssrc)) (h : AreNumbers (numbers_of sources)) → rows_in (number_blocks (numbers_of sources) h) ≡ all_source_lines cname msid sources
  sources_as_written sources h = numbers_as_written (numbers_of sources) h ∙ lines_of_sources sources

  pub numbers_tagged : (numbers : List ℕ) (h : AreNumbers numbers) → AllByRecursion (λ block. AllTagged (18 ∷ (0 ∷ [])) block.items) (number_blocks numbers h)
  numbers_tagged [] h = tt
  numbers_tagged (n ∷ ns) h =
      let P : Item → Type 0 = λ item. has_tag (tag_of item) (18 ∷ (0 ∷ [])) ≡ true in
      (all_if (says_name n) P (λ c. refl) cname, (all_if (λ (m : Msid). Skipped) P (λ m. refl) msid, numbers_tagged ns h.1))

-- ---- what they give
over_stream : {B : Type 0} (gives : Item → Option B) → gives Skipped ≡ None → (msid : Option Msid) (rest : List Item) → filter_map gives (items_if (λ m. Skipped) msid ++ rest) ≡ filter_map gives rest
over_stream gives h None rest = refl
over_stream gives h (Some m) rest = rw h refl

numbers_given : (cname : List ℕ) (name : IsPlainName cname) (msid : Option Msid) (stream : IfSome msid IsPlainMsid) (numbers : List ℕ) (h : AreNumbers numbers) → filter_map (said said_source) (items_in (number_blocks (Some cname) name msid stream numbers h)) ≡ numbers
numbers_given cname name msid stream [] h = refl
numbers_given cname name msid stream (n ∷ ns) h = ap (λ (l : List ℕ). n ∷ l) (over_stream (said said_source) refl msid (items_in (number_blocks (Some cname) name msid stream ns h.1)) ∙ numbers_given cname name msid stream ns h.1)

some_is : (x y : Option (List ℕ)) → x ≡ y → IsSome y → IsSome x
some_is x y e h = rw e h

-- the numbers of sources, which have a name
pub sources_found : (line : MediaLine) (cname : Option (List ℕ)) (name : IfSome cname IsPlainName) (msid : Option Msid) (stream : IfSome msid IsPlainMsid) (sources : List (Ssrc × Option Ssrc)) (h : AreNumbers (numbers_of sources)) → cname ≡ line.cname → AreNamed sources line
    → filter_map (said said_source) (items_in (number_blocks cname name msid stream (numbers_of sources) h)) ≡ numbers_of sources
sources_found line cname name msid stream [] h e k = refl
sources_found line None name msid stream (s ∷ rest) h e k = absurd (let bad : false ≡ true = some_is None line.cname e k.0 in cc)
sources_found line (Some c) name msid stream (s ∷ rest) h e k = numbers_given c name msid stream (numbers_of (s ∷ rest)) h

-- the name is that of the line
pub cname_found : (line : MediaLine) (cname : Option (List ℕ)) (name : IfSome cname IsPlainName) (msid : Option Msid) (stream : IfSome msid IsPlainMsid) (sources : List (Ssrc × Option Ssrc)) (h : AreNumbers (numbers_of sources)) → cname ≡ line.cname → AreNamed sources line
    → first (said cname_of) (items_in (number_blocks cname name msid stream (numbers_of sources) h)) ≡ cname
cname_found line cname name msid stream [] h e k = sym (e ∙ k)
cname_found line None name msid stream (s ∷ rest) h e k = absurd (let bad : false ≡ true = some_is None line.cname e k.0 in cc)
cname_found line (Some c) name msid stream (s ∷ rest) h e k = refl

pub pairs_plain : (sources : List (Ssrc × Option Ssrc)) → AreNumbers (numbers_of sources) → AllByRecursion IsPlainPair (source_pairs sources)
pairs_plain [] h = tt
pairs_plain ((s, None) ∷ rest) h = pairs_plain rest h.1
pairs_plain ((s, Some r) ∷ rest) h = ((h.0, h.1.0), pairs_plain rest h.1.1)
