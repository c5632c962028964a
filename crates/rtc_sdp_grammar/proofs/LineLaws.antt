-- Each line that is written is one line, and is read again.
use Rattle.std.proofs.Common.{◌≡◌, ℕ, ◌^◌, ◌<◌, ◌≤◌, Bool, true, false, List, [], ◌∷◌, ◌++◌, map, Some, refl, ap, ◌∙◌, arith, rules, eqb}
use Rattle.std.specs.Prelude.{codes}
use Rattle.std.specs.List.{AllByRecursion}
use Rattle.std.specs.Char.{is_ascii_digit}
use Rattle.std.specs.Fmt.{decimal}
use Rattle.std.proofs.lemmas.Bool.Decides.{eqb_tells}
use Rattle.rtc_wire_text.specs.Cuts.{Lacks}
use Rattle.rtc_wire_text.specs.Fields.{each}
use Rattle.rtc_wire_text.specs.Numbers.{number, number_up_to}
use Rattle.rtc_wire_text.specs.Tokens.{is_token_byte, is_short_token}
use Rattle.rtc_wire_text.specs.Words.{words, spaced}
use Rattle.rtc_wire_text.proofs.CutLemmas.{lacks-append, lacks-after_each, words-spaced, short_token_lacks}
use Rattle.rtc_wire_text.proofs.NumberLemmas.{number-decimal, number_up_to-decimal, decimal_lacks}
use Rattle.rtc_sdp_values.specs.declared.direction.Direction.{Direction}
use Rattle.rtc_sdp_values.specs.declared.direction.Direction.TheVariants.{SendRecv, SendOnly, RecvOnly, Inactive}
use Rattle.rtc_sdp_values.specs.declared.line_kind.LineKind.{LineKind}
use Rattle.rtc_sdp_values.specs.declared.line_kind.LineKind.TheVariants.{Audio, Video, Application, Unknown}
use Rattle.rtc_sdp_values.specs.declared.setup.Setup.{Setup}
use Rattle.rtc_sdp_values.specs.declared.setup.Setup.TheVariants.{ActPass, Active, Passive}
use Rattle.rtc_sdp_grammar.specs.declared.attribute.Attribute.TheVariants.{MidLine, GroupLine, SetupLine, DirectionLine}
use Rattle.rtc_sdp_grammar.specs.declared.item.Item.{Item}
use Rattle.rtc_sdp_grammar.specs.declared.item.Item.TheVariants.{Origin, Media, Says, Skipped}
use Rattle.rtc_wire_text.specs.Once.{IsApart}
use Rattle.rtc_sdp_grammar.specs.MediaForm.{media_words, with_numbers}
use Rattle.rtc_sdp_attributes.specs.Forms.{short_token}
use Rattle.rtc_sdp_grammar.specs.Table.{attribute_item, group_words, row_item}
use Rattle.rtc_sdp_grammar.specs.Table.{Refuses}
use Rattle.rtc_sdp_grammar.specs.declared.strict.Strict.TheVariants.{Group}
use Rattle.rtc_sdp_grammar.specs.declared.level.Level.TheVariants.{SessionLevel, MediaLevel, AnyLevel}
use Rattle.rtc_sdp_grammar.specs.ItemForm.{item_of, origin_words}
use Rattle.rtc_sdp_grammar.specs.LineTexts.{origin_line, group_line, mid_line, setup_line, direction_line, port_word, transport_words, media_line}
use Rattle.rtc_wire_text.proofs.OnceLemmas.{each_once_apart}

-- a text is one line, and says the item
pub record IsLineOf (line : List ℕ) (item : Item) : Type 0 where
  pub again : item_of line ≡ item
  pub one : Lacks 10 line

-- ---- lines of words
words_again : (first : List ℕ) (rest : List (List ℕ)) → Lacks 32 first → AllByRecursion (Lacks 32) rest → words (first ++ spaced rest) ≡ first ∷ rest
words_again = words-spaced

lacks_spaced : (byte : ℕ) (first : List ℕ) (rest : List (List ℕ)) → eqb 32 byte ≡ false → Lacks byte first → AllByRecursion (Lacks byte) rest → Lacks byte (first ++ spaced rest)
lacks_spaced byte first rest other h k = lacks-append byte first (spaced rest) h (lacks-after_each byte 32 other rest k)

-- ---- o=
pub origin_line_is : (id : ℕ) → id < 2 ^ 64 → IsLineOf (origin_line id) (Origin id)
unfolding item_of origin_line
origin_line_is id small =
    let rest : List (List ℕ) = decimal id ∷ codes "2" ∷ codes "IN" ∷ codes "IP4" ∷ codes "0.0.0.0" ∷ [] in
    record {
      again = ap origin_words (words_again (codes "str0m") rest (search rules) (decimal_lacks 32 refl id small, search rules)) ∙ rw (number-decimal id small) refl;
      one = lacks_spaced 10 (codes "o=str0m") rest refl (search rules) (decimal_lacks 10 refl id small, search rules);
    }

-- ---- group
-- mids as they stand in a value
abbrev pub AreMids : List (List ℕ) → Type 0
AreMids mids = AllByRecursion (λ mid. is_short_token mid ≡ true) mids

mids_lack : (byte : ℕ) → is_token_byte byte ≡ false → (mids : List (List ℕ)) → AreMids mids → AllByRecursion (Lacks byte) mids
mids_lack byte out [] h = tt
mids_lack byte out (mid ∷ rest) h = (short_token_lacks byte out mid h.0, mids_lack byte out rest h.1)

each_mid : (mids : List (List ℕ)) → AreMids mids → each short_token mids ≡ Some mids
each_mid [] h = refl
each_mid (mid ∷ rest) h = rw (h.0, each_mid rest h.1) refl

pub group_line_is : (mids : List (List ℕ)) → AreMids mids → IsLineOf (group_line mids) (Says SessionLevel (GroupLine mids))
unfolding item_of attribute_item group_line
group_line_is mids h = record {
  again = ap (λ ws. row_item SessionLevel (Refuses Group) (group_words ws)) (words_again (codes "BUNDLE") mids (search rules) (mids_lack 32 refl mids h)) ∙ rw (each_mid mids h) refl;
  one = lacks_spaced 10 (codes "a=group:BUNDLE") mids refl (search rules) (mids_lack 10 refl mids h);
}

-- ---- attributes of one word
pub mid_line_is : (mid : List ℕ) → is_short_token mid ≡ true → IsLineOf (mid_line mid) (Says MediaLevel (MidLine mid))
unfolding item_of attribute_item mid_line
mid_line_is mid h = record { again = rw h refl; one = lacks-append 10 (codes "a=mid:") mid (search rules) (short_token_lacks 10 refl mid h) }

pub setup_line_is : (setup : Setup) → IsLineOf (setup_line setup) (Says AnyLevel (SetupLine setup))
unfolding item_of attribute_item setup_line
setup_line_is ActPass = record { again = refl; one = search rules }
setup_line_is Active = record { again = refl; one = search rules }
setup_line_is Passive = record { again = refl; one = search rules }

pub direction_line_is : (dir : Direction) → IsLineOf (direction_line dir) (Says MediaLevel (DirectionLine dir))
unfolding item_of attribute_item direction_line
direction_line_is SendRecv = record { again = refl; one = search rules }
direction_line_is SendOnly = record { again = refl; one = search rules }
direction_line_is RecvOnly = record { again = refl; one = search rules }
direction_line_is Inactive = record { again = refl; one = search rules }

-- ---- m=
-- payload types as they stand in a value
abbrev pub ArePayloadTypes : List ℕ → Type 0
ArePayloadTypes numbers = AllByRecursion (λ n. n ≤ 127) numbers

formats_lack : (byte : ℕ) → is_ascii_digit byte ≡ false → (numbers : List ℕ) → ArePayloadTypes numbers → AllByRecursion (Lacks byte) (map decimal numbers)
formats_lack byte out [] h = tt
formats_lack byte out (n ∷ rest) h = let small : n < 2 ^ 64 = omega (arith, h.0) in (decimal_lacks byte out n small, formats_lack byte out rest h.1)

each_format : (numbers : List ℕ) → ArePayloadTypes numbers → each (number_up_to 127) (map decimal numbers) ≡ Some numbers
each_format [] h = refl
each_format (n ∷ rest) h = let small : n < 2 ^ 64 = omega (arith, h.0) in rw (number_up_to-decimal 127 n h.0 small, each_format rest h.1) refl

port_lacks : (disabled : Bool) → Lacks 32 (port_word disabled) × Lacks 10 (port_word disabled)
port_lacks true = search rules
port_lacks false = search rules

audio_words : (disabled : Bool) (formats : List (List ℕ)) → media_words (codes "audio" ∷ port_word disabled ∷ codes "UDP/TLS/RTP/SAVPF" ∷ formats) ≡ with_numbers Audio disabled (each (number_up_to 127) formats)
unfolding number
audio_words true formats = refl
audio_words false formats = refl

video_words : (disabled : Bool) (formats : List (List ℕ)) → media_words (codes "video" ∷ port_word disabled ∷ codes "UDP/TLS/RTP/SAVPF" ∷ formats) ≡ with_numbers Video disabled (each (number_up_to 127) formats)
unfolding number
video_words true formats = refl
video_words false formats = refl

-- the payload types that the line of a kind says
abbrev pub formats_of : LineKind → List ℕ → List ℕ
formats_of Audio formats = formats
formats_of Video formats = formats
formats_of Application formats = []
formats_of Unknown formats = []

abbrev pub head_of : LineKind → Bool → List ℕ → Item
head_of kind disabled formats = Media (record { kind = kind; disabled = disabled; formats = formats_of kind formats })

pub media_line_is : (kind : LineKind) (disabled : Bool) (formats : List ℕ) → ArePayloadTypes formats → IsApart eqb formats → IsLineOf (media_line kind disabled formats) (head_of kind disabled formats)
unfolding item_of number media_line
media_line_is Audio disabled formats h apart =
    let rest : List (List ℕ) = port_word disabled ∷ transport_words Audio formats in
    record {
      again = ap media_words (words_again (codes "audio") rest (search rules) ((port_lacks disabled).0, (search rules, formats_lack 32 refl formats h)))
          ∙ audio_words disabled (map decimal formats) ∙ rw (each_format formats h, each_once_apart eqb eqb_tells formats apart) refl;
      one = lacks_spaced 10 (codes "m=audio") rest refl (search rules) ((port_lacks disabled).1, (search rules, formats_lack 10 refl formats h));
    }
media_line_is Video disabled formats h apart =
    let rest : List (List ℕ) = port_word disabled ∷ transport_words Video formats in
    record {
      again = ap media_words (words_again (codes "video") rest (search rules) ((port_lacks disabled).0, (search rules, formats_lack 32 refl formats h)))
          ∙ video_words disabled (map decimal formats) ∙ rw (each_format formats h, each_once_apart eqb eqb_tells formats apart) refl;
      one = lacks_spaced 10 (codes "m=video") rest refl (search rules) ((port_lacks disabled).1, (search rules, formats_lack 10 refl formats h));
    }
media_line_is Application true formats h apart = record { again = refl; one = search rules }
media_line_is Application false formats h apart = record { again = refl; one = search rules }
media_line_is Unknown true formats h apart = record { again = refl; one = search rules }
media_line_is Unknown false formats h apart = record { again = refl; one = search rules }

-- ---- lines that are written for others and say nothing here
pub skipped_line_is : IsLineOf (codes "c=IN IP4 0.0.0.0") Skipped
unfolding item_of
skipped_line_is = record { again = refl; one = search rules }
