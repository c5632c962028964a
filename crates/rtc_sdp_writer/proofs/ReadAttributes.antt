-- What the attributes of a part say.
use Rattle.std.proofs.Common.{◌≡◌, Bool, true, false, cond, List, [], ◌∷◌, Some, None}
use Rattle.std.specs.Prelude.{IfSome}
use Rattle.std.specs.List.{AllByRecursion, filter_map}
use Rattle.rtc_wire_text.specs.Fields.{first}
use Rattle.rtc_wire_text.specs.Tokens.{is_short_token}
use Rattle.rtc_sdp_grammar.specs.declared.attribute.Attribute.{Attribute}
use Rattle.rtc_sdp_grammar.specs.declared.attribute.Attribute.TheVariants.{MidLine, GroupLine, OtherGroup, SetupLine, DirectionLine, UfragLine, PasswordLine, LiteLine, FingerprintLine, CandidateLine, MessageSizeLine, SctpInitLine, CodecLine, ParametersLine, ExtensionLine, StreamLine, LayerLine, LayerListLine, SourceLine, SourcePairLine}
use Rattle.rtc_sdp_grammar.specs.declared.item.Item.{Item}
use Rattle.rtc_sdp_grammar.specs.declared.item.Item.TheVariants.{Blank, Bad, BadMedia, Skipped, Version, Origin, Media, Says, Malformed}
use Rattle.rtc_sdp_reader.specs.Parting.{inner, counts, attribute_here, attributes}
use Rattle.rtc_sdp_reader.specs.Said.{said_mid, extension_of, layer_of, layer_list_of}
use Rattle.rtc_sdp_reader.proofs.GivenLemmas.{filter_map_gives, first_gives}
use Rattle.rtc_sdp_writer.specs.Plain.{IsPlainExtension, IsPairOfLine}
use Rattle.rtc_sdp_writer.proofs.ReadLayers.{IsReadLayers}
use Rattle.rtc_sdp_writer.proofs.ReadTable.{IsAttributeRead, IsItemRead}

-- ---- the attributes of a part
inner_read : (items : List Item) → AllByRecursion IsItemRead items → AllByRecursion IsItemRead (inner items)
inner_read [] h = tt
inner_read (Blank ∷ rest) h = (h.0, inner_read rest h.1)
inner_read (Bad ∷ rest) h = (h.0, inner_read rest h.1)
inner_read (BadMedia ∷ rest) h = tt
inner_read (Skipped ∷ rest) h = (h.0, inner_read rest h.1)
inner_read (Version ∷ rest) h = (h.0, inner_read rest h.1)
inner_read ((Origin id) ∷ rest) h = (h.0, inner_read rest h.1)
inner_read ((Media head) ∷ rest) h = tt
inner_read ((Says level attribute) ∷ rest) h = (h.0, inner_read rest h.1)
inner_read ((Malformed level what) ∷ rest) h = (h.0, inner_read rest h.1)

here_read : (in_line : Bool) (item : Item) → IsItemRead item → IfSome (attribute_here in_line item) IsAttributeRead
here_read in_line Blank h = tt
here_read in_line Bad h = tt
here_read in_line BadMedia h = tt
here_read in_line Skipped h = tt
here_read in_line Version h = tt
here_read in_line (Origin id) h = tt
here_read in_line (Media head) h = tt
here_read in_line (Says level attribute) h = by (counts level in_line)
  where
    by : (b : Bool) → IfSome (cond b (Some attribute) None) IsAttributeRead
    by true = h
    by false = tt
here_read in_line (Malformed level what) h = tt

pub attributes_read : (in_line : Bool) (items : List Item) → AllByRecursion IsItemRead items → AllByRecursion IsAttributeRead (attributes in_line items)
attributes_read in_line items h = filter_map_gives (attribute_here in_line) IsItemRead IsAttributeRead (here_read in_line) (inner items) (inner_read items h)

mid_said : (said : Attribute) → IsAttributeRead said → IfSome (said_mid said) (λ mid. is_short_token mid ≡ true)
mid_said (MidLine mid) h = h
mid_said (GroupLine mids) h = tt
mid_said OtherGroup h = tt
mid_said (SetupLine setup) h = tt
mid_said (DirectionLine dir) h = tt
mid_said (UfragLine ufrag) h = tt
mid_said (PasswordLine password) h = tt
mid_said LiteLine h = tt
mid_said (FingerprintLine said) h = tt
mid_said (CandidateLine said) h = tt
mid_said (MessageSizeLine size) h = tt
mid_said (SctpInitLine chunk) h = tt
mid_said (CodecLine codec) h = tt
mid_said (ParametersLine said) h = tt
mid_said (ExtensionLine row) h = tt
mid_said (StreamLine said) h = tt
mid_said (LayerLine layer) h = tt
mid_said (LayerListLine list) h = tt
mid_said (SourceLine said) h = tt
mid_said (SourcePairLine pair) h = tt

extension_said : (said : Attribute) → IsAttributeRead said → IfSome (extension_of said) IsPlainExtension
extension_said (MidLine mid) h = tt
extension_said (GroupLine mids) h = tt
extension_said OtherGroup h = tt
extension_said (SetupLine setup) h = tt
extension_said (DirectionLine dir) h = tt
extension_said (UfragLine ufrag) h = tt
extension_said (PasswordLine password) h = tt
extension_said LiteLine h = tt
extension_said (FingerprintLine said) h = tt
extension_said (CandidateLine said) h = tt
extension_said (MessageSizeLine size) h = tt
extension_said (SctpInitLine chunk) h = tt
extension_said (CodecLine codec) h = tt
extension_said (ParametersLine said) h = tt
extension_said (ExtensionLine row) h = h
extension_said (StreamLine said) h = tt
extension_said (LayerLine layer) h = tt
extension_said (LayerListLine list) h = tt
extension_said (SourceLine said) h = tt
extension_said (SourcePairLine pair) h = tt

layer_said : (said : Attribute) → IsAttributeRead said → IfSome (layer_of said) (λ line. AllByRecursion IsPairOfLine line.attributes)
layer_said (MidLine mid) h = tt
layer_said (GroupLine mids) h = tt
layer_said OtherGroup h = tt
layer_said (SetupLine setup) h = tt
layer_said (DirectionLine dir) h = tt
layer_said (UfragLine ufrag) h = tt
layer_said (PasswordLine password) h = tt
layer_said LiteLine h = tt
layer_said (FingerprintLine said) h = tt
layer_said (CandidateLine said) h = tt
layer_said (MessageSizeLine size) h = tt
layer_said (SctpInitLine chunk) h = tt
layer_said (CodecLine codec) h = tt
layer_said (ParametersLine said) h = tt
layer_said (ExtensionLine row) h = tt
layer_said (StreamLine said) h = tt
layer_said (LayerLine layer) h = h
layer_said (LayerListLine list) h = tt
layer_said (SourceLine said) h = tt
layer_said (SourcePairLine pair) h = tt

list_said : (said : Attribute) → IsAttributeRead said → IfSome (layer_list_of said) IsReadLayers
list_said (MidLine mid) h = tt
list_said (GroupLine mids) h = tt
list_said OtherGroup h = tt
list_said (SetupLine setup) h = tt
list_said (DirectionLine dir) h = tt
list_said (UfragLine ufrag) h = tt
list_said (PasswordLine password) h = tt
list_said LiteLine h = tt
list_said (FingerprintLine said) h = tt
list_said (CandidateLine said) h = tt
list_said (MessageSizeLine size) h = tt
list_said (SctpInitLine chunk) h = tt
list_said (CodecLine codec) h = tt
list_said (ParametersLine said) h = tt
list_said (ExtensionLine row) h = tt
list_said (StreamLine said) h = tt
list_said (LayerLine layer) h = tt
list_said (LayerListLine list) h = h
list_said (SourceLine said) h = tt
list_said (SourcePairLine pair) h = tt

pub mid_read : (said : List Attribute) → AllByRecursion IsAttributeRead said → IfSome (first said_mid said) (λ mid. is_short_token mid ≡ true)
mid_read said h = first_gives said_mid IsAttributeRead (λ mid. is_short_token mid ≡ true) mid_said said h

pub extensions_read : (said : List Attribute) → AllByRecursion IsAttributeRead said → AllByRecursion IsPlainExtension (filter_map extension_of said)
extensions_read said h = filter_map_gives extension_of IsAttributeRead IsPlainExtension extension_said said h

pub layers_read : (said : List Attribute) → AllByRecursion IsAttributeRead said
    → AllByRecursion (λ line. AllByRecursion IsPairOfLine line.attributes) (filter_map layer_of said)
layers_read said h = filter_map_gives layer_of IsAttributeRead (λ line. AllByRecursion IsPairOfLine line.attributes) layer_said said h

pub list_read : (said : List Attribute) → AllByRecursion IsAttributeRead said → IfSome (first layer_list_of said) IsReadLayers
list_read said h = first_gives layer_list_of IsAttributeRead IsReadLayers list_said said h
