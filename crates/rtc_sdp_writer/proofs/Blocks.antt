-- Groups of written lines, each with what its lines say.
use Rattle.std.proofs.Common.{◌≡◌, ℕ, Bool, true, false, cond, eqb, List, [], ◌∷◌, ◌++◌, map, Option, Some, None, refl, sym, ap, subst, ◌∙◌, inl, inr}
use Rattle.std.specs.Prelude.{filter, IfSome}
use Rattle.std.specs.List.{AllByRecursion, filter_map, list_any}
use Rattle.std.proofs.lemmas.Bool.Decides.{eqb_tells}
use Rattle.std.proofs.lemmas.List.{map-append}
use Rattle.std.proofs.lemmas.List.Elements.{filter_map-append, filter-append}
use Rattle.std.specs.Option.{option_or}
use Rattle.rtc_wire_text.specs.Fields.{first}
use Rattle.rtc_wire_text.specs.Lines.{AreLines}
use Rattle.rtc_wire_text.proofs.LineLemmas.{AreLines-append}
use Rattle.rtc_sdp_grammar.specs.declared.attribute.Attribute.{Attribute}
use Rattle.rtc_sdp_grammar.specs.declared.attribute.Attribute.TheVariants.{MidLine, GroupLine, OtherGroup, SetupLine, DirectionLine, UfragLine, PasswordLine, LiteLine, FingerprintLine, CandidateLine, MessageSizeLine, SctpInitLine}
use Rattle.rtc_sdp_grammar.specs.declared.attribute.Attribute.TheVariants.{CodecLine, ParametersLine, ExtensionLine, StreamLine, LayerLine, LayerListLine, SourceLine, SourcePairLine}
use Rattle.rtc_sdp_grammar.specs.declared.item.Item.{Item}
use Rattle.rtc_sdp_grammar.specs.declared.item.Item.TheVariants.{Skipped, Says, Malformed}
use Rattle.rtc_sdp_grammar.specs.ItemForm.{item_of}
use Rattle.rtc_sdp_grammar.proofs.LineLaws.{IsLineOf}
use Rattle.rtc_sdp_reader.specs.Parting.{counts}
use Rattle.rtc_sdp_writer.specs.Rows.{single, optional}

-- ---- the table of attributes: a number for each
abbrev pub attribute_tag : Attribute → ℕ
attribute_tag (MidLine mid) = 1
attribute_tag (GroupLine mids) = 2
attribute_tag OtherGroup = 2
attribute_tag (SetupLine setup) = 3
attribute_tag (DirectionLine dir) = 4
attribute_tag (UfragLine ufrag) = 5
attribute_tag (PasswordLine password) = 6
attribute_tag LiteLine = 7
attribute_tag (FingerprintLine fingerprint) = 8
attribute_tag (CandidateLine candidate) = 9
attribute_tag (MessageSizeLine size) = 10
attribute_tag (SctpInitLine chunk) = 11
attribute_tag (CodecLine codec) = 12
attribute_tag (ParametersLine fmtp) = 13
attribute_tag (ExtensionLine row) = 14
attribute_tag (StreamLine msid) = 15
attribute_tag (LayerLine layer) = 16
attribute_tag (LayerListLine list) = 17
attribute_tag (SourceLine source) = 18
attribute_tag (SourcePairLine pair) = 19

-- that of the attribute that a line says
abbrev pub tag_of : Item → ℕ
tag_of (Says level attribute) = attribute_tag attribute
tag_of (Malformed level what) = 1
tag_of _ = 0

-- attributes of line parts
abbrev pub is_for_lines : Attribute → Bool
is_for_lines (GroupLine mids) = false
is_for_lines OtherGroup = false
is_for_lines LiteLine = false
is_for_lines _ = true

-- a line inside of a part that counts there
abbrev pub IsSaid : Item → Type 0
IsSaid Skipped = Unit {0}
IsSaid (Says level attribute) = counts level (is_for_lines attribute) ≡ true
IsSaid _ = ⊥

-- what a line gives, where it says an attribute
abbrev pub said : {B : Type 0} → (Attribute → Option B) → Item → Option B
said gives (Says level attribute) = gives attribute
said gives _ = None

-- a number among these
abbrev pub has_tag : ℕ → List ℕ → Bool
has_tag tag tags = list_any (λ t. eqb t tag) tags

abbrev pub AllTagged : List ℕ → List Item → Type 0
AllTagged tags items = AllByRecursion (λ item. has_tag (tag_of item) tags ≡ true) items

itself : (n : ℕ) → eqb n n ≡ true
itself n = elim (eqb_tells n n) [ inl (t, e) ↦ t | inr (f, ne) ↦ absurd (ne refl) ]

pub own_tag : (tag : ℕ) (item : Item) → tag_of item ≡ tag → has_tag (tag_of item) (tag ∷ []) ≡ true
own_tag tag item e = rw (e, itself tag) refl

-- ---- lines that say some of the attributes
pub record Block : Type 0 where
  pub rows : List (List ℕ)
  pub tags : List ℕ
  pub items : List Item
  pub again : map item_of rows ≡ items
  pub one : AreLines rows
  pub said : AllByRecursion IsSaid items
  pub tagged : AllTagged tags items

-- ---- kinds of blocks
-- a line that is always there
abbrev pub single_block : (tag : ℕ) (line : List ℕ) (item : Item) → IsLineOf line item → IsSaid item → tag_of item ≡ tag → Block
single_block tag line item h said tagged = record {
  rows = single line;
  tags = tag ∷ [];
  items = item ∷ [];
  again = ap (λ (i : Item). i ∷ []) h.again;
  one = (h.one, tt);
  said = (said, tt);
  tagged = (own_tag tag item tagged, tt);
}

abbrev pub items_if : {A : Type 0} → (A → Item) → Option A → List Item
items_if item None = []
items_if item (Some value) = item value ∷ []

pub again_if : {A : Type 0} (line : A → List ℕ) (item : A → Item) (P : A → Type 0) → ((x : A) → P x → IsLineOf (line x) (item x)) → (value : Option A) → IfSome value P → map item_of (optional line value) ≡ items_if item value
again_if line item P is None h = refl
again_if line item P is (Some x) h = ap (λ (i : Item). i ∷ []) (is x h).again

pub one_if : {A : Type 0} (line : A → List ℕ) (item : A → Item) (P : A → Type 0) → ((x : A) → P x → IsLineOf (line x) (item x)) → (value : Option A) → IfSome value P → AreLines (optional line value)
one_if line item P is None h = tt
one_if line item P is (Some x) h = ((is x h).one, tt)

pub all_if : {A : Type 0} (item : A → Item) (Q : Item → Type 0) → ((x : A) → Q (item x)) → (value : Option A) → AllByRecursion Q (items_if item value)
all_if item Q h None = tt
all_if item Q h (Some x) = (h x, tt)

-- a line where there is a value for it
abbrev pub optional_block : {A : Type 0} (tag : ℕ) (line : A → List ℕ) (item : A → Item) (P : A → Type 0) → ((x : A) → P x → IsLineOf (line x) (item x)) → ((x : A) → IsSaid (item x)) → ((x : A) → tag_of (item x) ≡ tag) → (value : Option A) → IfSome value P → Block
optional_block tag line item P is said tagged value h = record {
  rows = optional line value;
  tags = tag ∷ [];
  items = items_if item value;
  again = again_if line item P is value h;
  one = one_if line item P is value h;
  said = all_if item IsSaid said value;
  tagged = all_if item (λ i. has_tag (tag_of i) (tag ∷ []) ≡ true) (λ x. own_tag tag (item x) (tagged x)) value;
}

pub again_each : {A : Type 0} (line : A → List ℕ) (item : A → Item) (P : A → Type 0) → ((x : A) → P x → IsLineOf (line x) (item x)) → (values : List A) → AllByRecursion P values → map item_of (map line values) ≡ map item values
again_each line item P is [] h = refl
again_each line item P is (x ∷ xs) h = rw ((is x h.0).again, again_each line item P is xs h.1) refl

pub one_each : {A : Type 0} (line : A → List ℕ) (item : A → Item) (P : A → Type 0) → ((x : A) → P x → IsLineOf (line x) (item x)) → (values : List A) → AllByRecursion P values → AreLines (map line values)
one_each line item P is [] h = tt
one_each line item P is (x ∷ xs) h = ((is x h.0).one, one_each line item P is xs h.1)

pub all_each : {A : Type 0} (item : A → Item) (Q : Item → Type 0) → ((x : A) → Q (item x)) → (values : List A) → AllByRecursion Q (map item values)
all_each item Q h [] = tt
all_each item Q h (x ∷ xs) = (h x, all_each item Q h xs)

-- a line for each value
abbrev pub list_block : {A : Type 0} (tag : ℕ) (line : A → List ℕ) (item : A → Item) (P : A → Type 0) → ((x : A) → P x → IsLineOf (line x) (item x)) → ((x : A) → IsSaid (item x)) → ((x : A) → tag_of (item x) ≡ tag) → (values : List A) → AllByRecursion P values → Block
list_block tag line item P is said tagged values h = record {
  rows = map line values;
  tags = tag ∷ [];
  items = map item values;
  again = again_each line item P is values h;
  one = one_each line item P is values h;
  said = all_each item IsSaid said values;
  tagged = all_each item (λ i. has_tag (tag_of i) (tag ∷ []) ≡ true) (λ x. own_tag tag (item x) (tagged x)) values;
}

-- ---- all blocks of a part
abbrev pub rows_in : List Block → List (List ℕ)
rows_in [] = []
rows_in (block ∷ rest) = block.rows ++ rows_in rest

abbrev pub items_in : List Block → List Item
items_in [] = []
items_in (block ∷ rest) = block.items ++ items_in rest

pub rows_again : (blocks : List Block) → map item_of (rows_in blocks) ≡ items_in blocks
rows_again [] = refl
rows_again (block ∷ rest) = map-append item_of block.rows (rows_in rest) ∙ ap (λ (l : List Item). l ++ map item_of (rows_in rest)) block.again ∙ ap (λ (l : List Item). block.items ++ l) (rows_again rest)

pub rows_one : (blocks : List Block) → AreLines (rows_in blocks)
rows_one [] = tt
rows_one (block ∷ rest) = AreLines-append block.rows (rows_in rest) block.one (rows_one rest)

said_append : (xs ys : List Item) → AllByRecursion IsSaid xs → AllByRecursion IsSaid ys → AllByRecursion IsSaid (xs ++ ys)
said_append [] ys h k = k
said_append (x ∷ xs) ys h k = (h.0, said_append xs ys h.1 k)

pub all_said : (blocks : List Block) → AllByRecursion IsSaid (items_in blocks)
all_said [] = tt
all_said (block ∷ rest) = said_append block.items (items_in rest) block.said (all_said rest)

tagged_append : (tags : List ℕ) (xs ys : List Item) → AllTagged tags xs → AllTagged tags ys → AllTagged tags (xs ++ ys)
tagged_append tags [] ys h k = k
tagged_append tags (x ∷ xs) ys h k = (h.0, tagged_append tags xs ys h.1 k)

pub all_tagged : (tags : List ℕ) (blocks : List Block) → AllByRecursion (λ block. AllTagged tags block.items) blocks → AllTagged tags (items_in blocks)
all_tagged tags [] h = tt
all_tagged tags (block ∷ rest) h = tagged_append tags block.items (items_in rest) h.0 (all_tagged tags rest h.1)

-- blocks as one
abbrev pub joined_block : (tags : List ℕ) (blocks : List Block) (rows : List (List ℕ)) → rows_in blocks ≡ rows → AllByRecursion (λ block. AllTagged tags block.items) blocks → Block
joined_block tags blocks rows e h = record {
  rows = rows;
  tags = tags;
  items = items_in blocks;
  again = ap (map item_of) (sym e) ∙ rows_again blocks;
  one = subst AreLines e (rows_one blocks);
  said = all_said blocks;
  tagged = all_tagged tags blocks h;
}

-- ---- a block that is there for some kinds of lines
abbrev pub if_kept : {A : Type 0} → Bool → List A → List A
if_kept true xs = xs
if_kept false xs = []

pub again_kept : (b : Bool) (rows : List (List ℕ)) (items : List Item) → map item_of rows ≡ items → map item_of (if_kept b rows) ≡ if_kept b items
again_kept true rows items h = h
again_kept false rows items h = refl

pub one_kept : (b : Bool) (rows : List (List ℕ)) → AreLines rows → AreLines (if_kept b rows)
one_kept true rows h = h
one_kept false rows h = tt

pub all_kept : (P : Item → Type 0) (b : Bool) (items : List Item) → AllByRecursion P items → AllByRecursion P (if_kept b items)
all_kept P true items h = h
all_kept P false items h = tt

abbrev pub kept_block : Bool → Block → Block
kept_block b block = record {
  rows = if_kept b block.rows;
  tags = block.tags;
  items = if_kept b block.items;
  again = again_kept b block.rows block.items block.again;
  one = one_kept b block.rows block.one;
  said = all_kept IsSaid b block.items block.said;
  tagged = all_kept (λ item. has_tag (tag_of item) block.tags ≡ true) b block.items block.tagged;
}

-- ---- looking for one attribute
option_or_assoc : {B : Type 0} (a b c : Option B) → option_or a (option_or b c) ≡ option_or (option_or a b) c
option_or_assoc None b c = refl
option_or_assoc (Some x) b c = refl

first-append : {B : Type 0} (gives : Item → Option B) (xs ys : List Item) → first gives (xs ++ ys) ≡ option_or (first gives xs) (first gives ys)
first-append gives [] ys = refl
first-append gives (x ∷ xs) ys = ap (option_or (gives x)) (first-append gives xs ys) ∙ option_or_assoc (gives x) (first gives xs) (first gives ys)

-- the blocks of one attribute
abbrev pub of_tag : ℕ → List Block → List Block
of_tag tag blocks = filter (λ block. has_tag tag block.tags) blocks

apart : (tags : List ℕ) (tag other : ℕ) → has_tag tag tags ≡ false → has_tag other tags ≡ true → eqb other tag ≡ false
apart tags tag other not_here here = elim (eqb_tells other tag) [
  | inl (t, e) ↦ absurd (let bad : true ≡ false = sym here ∙ ap (λ (x : ℕ). has_tag x tags) e ∙ not_here in cc)
  | inr (f, _) ↦ f
]

-- what looks at one attribute alone
abbrev pub LooksAt : {B : Type 0} → ℕ → (Item → Option B) → Type 0
LooksAt tag gives = (item : Item) → eqb (tag_of item) tag ≡ false → gives item ≡ None

module _ {B : Type 0} (tag : ℕ) (gives : Item → Option B) (looks : LooksAt tag gives) where
  silent : (tags : List ℕ) → has_tag tag tags ≡ false → (xs : List Item) → AllTagged tags xs → first gives xs ≡ None
  silent tags ne [] h = refl
  silent tags ne (x ∷ xs) h = rw (looks x (apart tags tag (tag_of x) ne h.0), silent tags ne xs h.1) refl

  silent_all : (tags : List ℕ) → has_tag tag tags ≡ false → (xs : List Item) → AllTagged tags xs → filter_map gives xs ≡ []
  silent_all tags ne [] h = refl
  silent_all tags ne (x ∷ xs) h = rw (looks x (apart tags tag (tag_of x) ne h.0), silent_all tags ne xs h.1) refl

  -- the first is that of the blocks of the attribute
  pub first_in : (blocks : List Block) → first gives (items_in blocks) ≡ first gives (items_in (of_tag tag blocks))
  first_in [] = refl
  first_in (block ∷ rest) = go (has_tag tag block.tags) refl (first_in rest)
    where
      go : (test : Bool) → has_tag tag block.tags ≡ test → first gives (items_in rest) ≡ first gives (items_in (of_tag tag rest)) → first gives (block.items ++ items_in rest) ≡ first gives (items_in (cond test (block ∷ of_tag tag rest) (of_tag tag rest)))
      go true t ih = first-append gives block.items (items_in rest) ∙ ap (option_or (first gives block.items)) ih ∙ sym (first-append gives block.items (items_in (of_tag tag rest)))
      go false t ih = first-append gives block.items (items_in rest) ∙ rw (silent block.tags t block.items block.tagged) ih

  -- all are those of the blocks of the attribute
  pub all_in : (blocks : List Block) → filter_map gives (items_in blocks) ≡ filter_map gives (items_in (of_tag tag blocks))
  all_in [] = refl
  all_in (block ∷ rest) = go (has_tag tag block.tags) refl (all_in rest)
    where
      go : (test : Bool) → has_tag tag block.tags ≡ test → filter_map gives (items_in rest) ≡ filter_map gives (items_in (of_tag tag rest)) → filter_map gives (block.items ++ items_in rest) ≡ filter_map gives (items_in (cond test (block ∷ of_tag tag rest) (of_tag tag rest)))
      go true t ih = filter_map-append gives block.items (items_in rest) ∙ ap (λ (l : List B). filter_map gives block.items ++ l) ih ∙ sym (filter_map-append gives block.items (items_in (of_tag tag rest)))
      go false t ih = filter_map-append gives block.items (items_in rest) ∙ rw (silent_all block.tags t block.items block.tagged) ih

-- what tests one attribute alone
abbrev pub TestsOnly : ℕ → (Item → Bool) → Type 0
TestsOnly tag test = (item : Item) → eqb (tag_of item) tag ≡ false → test item ≡ false

module _ (tag : ℕ) (test : Item → Bool) (tests : TestsOnly tag test) where
  none_kept : (tags : List ℕ) → has_tag tag tags ≡ false → (xs : List Item) → AllTagged tags xs → filter test xs ≡ []
  none_kept tags ne [] h = refl
  none_kept tags ne (x ∷ xs) h = rw (tests x (apart tags tag (tag_of x) ne h.0), none_kept tags ne xs h.1) refl

  -- those that pass are those of the blocks of the attribute
  pub kept_in : (blocks : List Block) → filter test (items_in blocks) ≡ filter test (items_in (of_tag tag blocks))
  kept_in [] = refl
  kept_in (block ∷ rest) = go (has_tag tag block.tags) refl (kept_in rest)
    where
      go : (b : Bool) → has_tag tag block.tags ≡ b → filter test (items_in rest) ≡ filter test (items_in (of_tag tag rest)) → filter test (block.items ++ items_in rest) ≡ filter test (items_in (cond b (block ∷ of_tag tag rest) (of_tag tag rest)))
      go true t ih = filter-append test block.items (items_in rest) ∙ ap (λ (l : List Item). filter test block.items ++ l) ih ∙ sym (filter-append test block.items (items_in (of_tag tag rest)))
      go false t ih = filter-append test block.items (items_in rest) ∙ rw (none_kept block.tags t block.items block.tagged) ih
