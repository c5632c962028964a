-- Each attribute is looked at by one number, and is found among the items of its block.
use Rattle.std.proofs.Common.{◌≡◌, Bool, true, false, eqb, List, [], ◌∷◌, ◌++◌, map, Option, Some, None, refl, sym, ap, ◌∙◌}
use Rattle.std.specs.Prelude.{option_map}
use Rattle.std.specs.List.{filter_map}
use Rattle.rtc_wire_text.specs.Fields.{first}
use Rattle.rtc_sdp_grammar.specs.declared.attribute.Attribute.TheVariants.{MidLine, SetupLine, DirectionLine, UfragLine, PasswordLine, FingerprintLine, CandidateLine, MessageSizeLine, SctpInitLine}
use Rattle.rtc_sdp_grammar.specs.declared.attribute.Attribute.TheVariants.{CodecLine, ParametersLine, ExtensionLine, StreamLine, LayerLine, LayerListLine, SourceLine, SourcePairLine}
use Rattle.rtc_sdp_grammar.specs.declared.item.Item.{Item}
use Rattle.rtc_sdp_grammar.specs.declared.item.Item.TheVariants.{Says}
use Rattle.rtc_sdp_reader.specs.Said.{said_mid, said_setup, said_direction, said_ufrag, said_password, said_fingerprint, said_candidate, message_size_of, said_sctp_init, codec_of, parameters_of, extension_of, said_stream, layer_of, layer_list_of, cname_of, said_source, source_pair_of}
use Rattle.rtc_sdp_writer.proofs.Blocks.{said, tag_of, items_if, if_kept}

-- ---- each attribute is looked at by one number
pub mid_looks : (item : Item) → eqb (tag_of item) 1 ≡ false → said said_mid item ≡ None
mid_looks (Says level (MidLine mid)) ne = absurd cc
mid_looks _ ne = refl

pub setup_looks : (item : Item) → eqb (tag_of item) 3 ≡ false → said said_setup item ≡ None
setup_looks (Says level (SetupLine setup)) ne = absurd cc
setup_looks _ ne = refl

pub direction_looks : (item : Item) → eqb (tag_of item) 4 ≡ false → said said_direction item ≡ None
direction_looks (Says level (DirectionLine dir)) ne = absurd cc
direction_looks _ ne = refl

pub ufrag_looks : (item : Item) → eqb (tag_of item) 5 ≡ false → said said_ufrag item ≡ None
ufrag_looks (Says level (UfragLine ufrag)) ne = absurd cc
ufrag_looks _ ne = refl

pub password_looks : (item : Item) → eqb (tag_of item) 6 ≡ false → said said_password item ≡ None
password_looks (Says level (PasswordLine password)) ne = absurd cc
password_looks _ ne = refl

pub fingerprint_looks : (item : Item) → eqb (tag_of item) 8 ≡ false → said said_fingerprint item ≡ None
fingerprint_looks (Says level (FingerprintLine fingerprint)) ne = absurd cc
fingerprint_looks _ ne = refl

pub candidate_looks : (item : Item) → eqb (tag_of item) 9 ≡ false → said said_candidate item ≡ None
candidate_looks (Says level (CandidateLine candidate)) ne = absurd cc
candidate_looks _ ne = refl

pub message_size_looks : (item : Item) → eqb (tag_of item) 10 ≡ false → said message_size_of item ≡ None
message_size_looks (Says level (MessageSizeLine size)) ne = absurd cc
message_size_looks _ ne = refl

pub sctp_init_looks : (item : Item) → eqb (tag_of item) 11 ≡ false → said said_sctp_init item ≡ None
sctp_init_looks (Says level (SctpInitLine chunk)) ne = absurd cc
sctp_init_looks _ ne = refl

pub codec_looks : (item : Item) → eqb (tag_of item) 12 ≡ false → said codec_of item ≡ None
codec_looks (Says level (CodecLine codec)) ne = absurd cc
codec_looks _ ne = refl

pub parameters_looks : (item : Item) → eqb (tag_of item) 13 ≡ false → said parameters_of item ≡ None
parameters_looks (Says level (ParametersLine fmtp)) ne = absurd cc
parameters_looks _ ne = refl

pub extension_looks : (item : Item) → eqb (tag_of item) 14 ≡ false → said extension_of item ≡ None
extension_looks (Says level (ExtensionLine row)) ne = absurd cc
extension_looks _ ne = refl

pub stream_looks : (item : Item) → eqb (tag_of item) 15 ≡ false → said said_stream item ≡ None
stream_looks (Says level (StreamLine msid)) ne = absurd cc
stream_looks _ ne = refl

pub layer_looks : (item : Item) → eqb (tag_of item) 16 ≡ false → said layer_of item ≡ None
layer_looks (Says level (LayerLine layer)) ne = absurd cc
layer_looks _ ne = refl

pub layer_list_looks : (item : Item) → eqb (tag_of item) 17 ≡ false → said layer_list_of item ≡ None
layer_list_looks (Says level (LayerListLine list)) ne = absurd cc
layer_list_looks _ ne = refl

pub cname_looks : (item : Item) → eqb (tag_of item) 18 ≡ false → said cname_of item ≡ None
cname_looks (Says level (SourceLine source)) ne = absurd cc
cname_looks _ ne = refl

pub source_looks : (item : Item) → eqb (tag_of item) 18 ≡ false → said said_source item ≡ None
source_looks (Says level (SourceLine source)) ne = absurd cc
source_looks _ ne = refl

pub source_pair_looks : (item : Item) → eqb (tag_of item) 19 ≡ false → said source_pair_of item ≡ None
source_pair_looks (Says level (SourcePairLine pair)) ne = absurd cc
source_pair_looks _ ne = refl

-- ---- what blocks of one attribute give
pub optional_found : {A B : Type 0} (gives : Item → Option B) (item : A → Item) (made : A → B) → ((x : A) → gives (item x) ≡ Some (made x)) → (value : Option A) → first gives (items_if item value ++ []) ≡ option_map made value
optional_found gives item made h None = refl
optional_found gives item made h (Some x) = rw (h x) refl

pub list_found : {A : Type 0} (gives : Item → Option A) (item : A → Item) → ((x : A) → gives (item x) ≡ Some x) → (values : List A) → filter_map gives (map item values ++ []) ≡ values
list_found gives item h [] = refl
list_found {A = A} gives item h (x ∷ xs) = rw (h x) (ap (λ (l : List A). x ∷ l) (list_found gives item h xs))

map_same : {A : Type 0} (value : Option A) → option_map (λ x. x) value ≡ value
map_same None = refl
map_same (Some x) = refl

pub same_found : {A : Type 0} (gives : Item → Option A) (item : A → Item) → ((x : A) → gives (item x) ≡ Some x) → (value : Option A) → first gives (items_if item value ++ []) ≡ value
same_found {A = A} gives item h value = optional_found gives item (λ (x : A). x) h value ∙ map_same value

pub kept_first : {B : Type 0} (gives : Item → Option B) (b : Bool) (items : List Item) (value : Option B) → (b ≡ true → first gives (items ++ []) ≡ value) → (b ≡ false → value ≡ None) → first gives (if_kept b items ++ []) ≡ value
kept_first gives true items value h k = h refl
kept_first gives false items value h k = sym (k refl)

pub kept_all : {B : Type 0} (gives : Item → Option B) (b : Bool) (items : List Item) (values : List B) → (b ≡ true → filter_map gives (items ++ []) ≡ values) → (b ≡ false → values ≡ []) → filter_map gives (if_kept b items ++ []) ≡ values
kept_all gives true items values h k = h refl
kept_all gives false items values h k = sym (k refl)
