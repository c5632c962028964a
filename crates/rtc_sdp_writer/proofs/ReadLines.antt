-- Each line of a text that is read is one that can be written.
use Rattle.std.proofs.Common.{◌≡◌, ℕ, Bool, true, false, cond, List, [], ◌∷◌, Option, Some, None, Ok, refl, ap, subst}
use Rattle.std.specs.Prelude.{IfSome}
use Rattle.std.specs.List.{AllByRecursion, filter_map, cons_option}
use Rattle.rtc_wire_text.specs.Fields.{first}
use Rattle.rtc_wire_text.specs.Tokens.{is_short_token}
use Rattle.rtc_sdp_values.specs.declared.media_line.MediaLine.{MediaLine}
use Rattle.rtc_sdp_values.specs.declared.sdp.Sdp.{Sdp}
use Rattle.rtc_sdp_attributes.specs.AttributeTexts.{rids_in}
use Rattle.rtc_sdp_attributes.specs.declared.rid_direction.RidDirection.{RidDirection}
use Rattle.rtc_sdp_attributes.specs.declared.rid_direction.RidDirection.TheVariants.{Send, Recv}
use Rattle.rtc_sdp_attributes.specs.declared.rid_line.RidLine.{RidLine}
use Rattle.rtc_sdp_attributes.specs.declared.simulcast_line.SimulcastLine.{SimulcastLine}
use Rattle.rtc_sdp_grammar.specs.declared.attribute.Attribute.{Attribute}
use Rattle.rtc_sdp_grammar.specs.declared.item.Item.{Item}
use Rattle.rtc_sdp_grammar.specs.declared.item.Item.TheVariants.{Blank, Bad, BadMedia, Skipped, Version, Origin, Media, Says, Malformed}
use Rattle.rtc_sdp_grammar.specs.declared.media_head.MediaHead.{MediaHead}
use Rattle.rtc_sdp_grammar.specs.ItemForm.{items_of}
use Rattle.rtc_sdp_reader.specs.Layers.{Pairs, is_rid_for, pairs_in, or_no_pairs, layer, layers, simulcast_value}
use Rattle.rtc_sdp_reader.specs.LineValue.{line_named, line_of, lines_of}
use Rattle.rtc_sdp_reader.specs.Parting.{attributes}
use Rattle.rtc_sdp_reader.specs.Reading.{judged, reading}
use Rattle.rtc_sdp_reader.specs.Refusal.{refused}
use Rattle.rtc_sdp_reader.specs.Said.{said_mid, codec_of, parameters_of, layer_of, layer_list_of, part_said}
use Rattle.rtc_sdp_reader.specs.SessionValue.{sdp_of}
use Rattle.rtc_sdp_reader.proofs.GivenLemmas.{first_gives}
use Rattle.rtc_sdp_reader.proofs.ReadPayloads.{payloads_read}
use Rattle.rtc_sdp_writer.specs.Plain.{IsPairOfLine, IsPlainLayer, IsPlainSimulcast}
use Rattle.rtc_sdp_writer.specs.ReadLines.{IsReadLine}
use Rattle.rtc_sdp_writer.proofs.ReadForms.{if_some}
use Rattle.rtc_sdp_writer.proofs.ReadLayers.{IsReadLayers}
use Rattle.rtc_sdp_writer.proofs.ReadTable.{IsAttributeRead, AreFormatsRead, IsItemRead}
use Rattle.rtc_sdp_writer.proofs.ReadItems.{items_read}
use Rattle.rtc_sdp_writer.proofs.ReadAttributes.{attributes_read, mid_read, extensions_read, layers_read, list_read}

-- ---- layers
abbrev ArePairsOfLine : RidLine → Type 0
ArePairsOfLine line = AllByRecursion IsPairOfLine line.attributes

pairs_given : (direction : RidDirection) (rid : List ℕ) (line : RidLine) → ArePairsOfLine line → IfSome (pairs_in direction rid line) (AllByRecursion IsPairOfLine)
pairs_given direction rid line h = by (is_rid_for direction rid line)
  where
    by : (b : Bool) → IfSome (cond b (Some line.attributes) None) (AllByRecursion IsPairOfLine)
    by true = h
    by false = tt

layer_read : (direction : RidDirection) (rid : List ℕ) (lines : List RidLine) → AllByRecursion ArePairsOfLine lines → IsPlainLayer (layer lines direction rid)
layer_read direction rid lines h =
    by (first (pairs_in direction rid) lines) (first_gives (pairs_in direction rid) ArePairsOfLine (AllByRecursion IsPairOfLine) (pairs_given direction rid) lines h)
  where
    by : (found : Option Pairs) → IfSome found (AllByRecursion IsPairOfLine) → AllByRecursion IsPairOfLine (or_no_pairs found)
    by None h = tt
    by (Some pairs) h = h

all_layers_read : (direction : RidDirection) (lines : List RidLine) → AllByRecursion ArePairsOfLine lines → (rids : List (List ℕ))
    → AllByRecursion IsPlainLayer (layers lines direction rids)
all_layers_read direction lines h [] = tt
all_layers_read direction lines h (rid ∷ rids) = (layer_read direction rid lines h, all_layers_read direction lines h rids)

names_again : (direction : RidDirection) (lines : List RidLine) (rids : List (List ℕ)) → rids_in (layers lines direction rids) ≡ rids
names_again direction lines [] = refl
names_again direction lines (rid ∷ rids) = ap (λ (rest : List (List ℕ)). rid ∷ rest) (names_again direction lines rids)

simulcast_read : (lines : List RidLine) → AllByRecursion ArePairsOfLine lines → (list : SimulcastLine) → IsReadLayers list
    → IsPlainSimulcast (simulcast_value lines list)
unfolding simulcast_value
simulcast_read lines h list read = record {
  send = rw (names_again Send lines list.send) read.send;
  recv = rw (names_again Recv lines list.recv) read.recv;
  some = rw (names_again Send lines list.send, names_again Recv lines list.recv) read.some;
  sent = all_layers_read Send lines h list.send;
  received = all_layers_read Recv lines h list.recv;
}

-- ---- lines
named_read : (head : MediaHead) (said : List Attribute) → AreFormatsRead head.formats → AllByRecursion IsAttributeRead said → (mid : List ℕ)
    → is_short_token mid ≡ true → IsReadLine (line_named head (part_said said) mid)
named_read head said formats h mid token =
    let payloads = payloads_read head.formats (filter_map codec_of said) (filter_map parameters_of said) formats.0 formats.1 in
    record {
      mid = token;
      payloads = payloads.0;
      numbers = payloads.1;
      exts = extensions_read said h;
      simulcast =
          if_some (simulcast_value (filter_map layer_of said)) IsReadLayers IsPlainSimulcast (simulcast_read (filter_map layer_of said) (layers_read said h))
          (first layer_list_of said) (list_read said h);
    }

line_read : (head : MediaHead) (said : List Attribute) → AreFormatsRead head.formats → AllByRecursion IsAttributeRead said
    → IfSome (line_of head (part_said said)) IsReadLine
line_read head said formats h =
    if_some (line_named head (part_said said)) (λ mid. is_short_token mid ≡ true) IsReadLine (named_read head said formats h) (first said_mid said) (mid_read said h)

all_lines_read : (items : List Item) → AllByRecursion IsItemRead items → AllByRecursion IsReadLine (lines_of items)
all_lines_read [] h = tt
all_lines_read (Blank ∷ rest) h = all_lines_read rest h.1
all_lines_read (Bad ∷ rest) h = all_lines_read rest h.1
all_lines_read (BadMedia ∷ rest) h = all_lines_read rest h.1
all_lines_read (Skipped ∷ rest) h = all_lines_read rest h.1
all_lines_read (Version ∷ rest) h = all_lines_read rest h.1
all_lines_read ((Origin id) ∷ rest) h = all_lines_read rest h.1
all_lines_read (Media head ∷ rest) h =
    by (line_of head (part_said (attributes true rest))) (line_read head (attributes true rest) h.0 (attributes_read true rest h.1)) (all_lines_read rest h.1)
  where
    by : (found : Option MediaLine) → IfSome found IsReadLine → AllByRecursion IsReadLine (lines_of rest)
        → AllByRecursion IsReadLine (cons_option found (lines_of rest))
    by None own more = more
    by (Some line) own more = (own, more)
all_lines_read ((Says level attribute) ∷ rest) h = all_lines_read rest h.1
all_lines_read ((Malformed level what) ∷ rest) h = all_lines_read rest h.1

pub lines_of_texts : (text : List ℕ) (sdp : Sdp) → reading text ≡ Ok sdp → AllByRecursion IsReadLine sdp.lines
unfolding sdp_of
lines_of_texts text sdp h = by (refused (items_of text)) h
  where
    by : (found : Option ℕ) → judged found (sdp_of (items_of text)) ≡ Ok sdp → AllByRecursion IsReadLine sdp.lines
    by (Some n) e = absurd cc
    by None e =
        let same : sdp_of (items_of text) ≡ sdp = cc in
        subst (λ (s : Sdp). AllByRecursion IsReadLine s.lines) same (all_lines_read (items_of text) (items_read text))
