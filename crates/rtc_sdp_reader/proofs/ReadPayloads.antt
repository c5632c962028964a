-- Payload rows that are read have numbers of seven bits, and none stands twice.
use Rattle.std.proofs.Common.{◌≡◌, ◌≢◌, ◌≤◌, ◌⊎◌, ◌∙◌, ℕ, Bool, true, false, cond, eqb, List, [], ◌∷◌, ◌++◌, map, Option, Some, None, refl, sym, ap, inl, inr}
use Rattle.std.specs.Prelude.{IfSome}
use Rattle.std.specs.List.{AllByRecursion, filter_map, cons_option}
use Rattle.std.specs.Option.{option_or}
use Rattle.std.proofs.lemmas.Bool.Decides.{eqb_tells}
use Rattle.rtc_wire_text.specs.Once.{IsApart}
use Rattle.rtc_sdp_values.specs.declared.pt.Pt.{Pt}
use Rattle.rtc_sdp_values.specs.declared.payload_row.PayloadRow.{PayloadRow}
use Rattle.rtc_sdp_attributes.specs.declared.fmtp.Fmtp.{Fmtp}
use Rattle.rtc_sdp_attributes.specs.declared.rtpmap.Rtpmap.{Rtpmap}
use Rattle.rtc_sdp_reader.specs.declared.link.Link.{Link}
use Rattle.rtc_sdp_reader.specs.Payloads.{PayloadEntry, entries, is_rtx_codec, is_red, link_of, serves, served_by, rtx_among, red_among, is_primary, row_made, payload_row_of, payload_rows}
use Rattle.rtc_sdp_reader.specs.PlainPayloads.{optional_number, itself, row_formats, formats_of, IsPlainPayload, IsPayloadType, AreApart}
use Rattle.rtc_sdp_reader.proofs.PayloadKeys.{entries_keep, AreEntriesApart, entries_apart, key_by, key_of, key_among, own_keys, link_number, ServesOne, neither, primary_key, links_apart, links_serve_one, links_small}

-- the links that keys are looked up among, and what holds of each of them
record AreLinks (keys : ℕ → Option (ℕ × ℕ)) (links : List Link) : Type 0 where
  own : AllByRecursion (λ x. keys x.pt ≡ Some (key_of x)) links
  one : AllByRecursion ServesOne links
  small : AllByRecursion (λ l. l.pt ≤ 127) links

-- ---- what serves a number
rtx_served : (keys : ℕ → Option (ℕ × ℕ)) (p n : ℕ) (rtx red : Option ℕ) → keys n ≡ Some (key_by rtx red n) → n ≤ 127 → (rest : Option Pt)
    → IfSome rest (λ m. (keys m.0 ≡ Some (1, p)) × (m.0 ≤ 127)) → IfSome (option_or (served_by (serves p rtx) n) rest) (λ m. (keys m.0 ≡ Some (1, p)) × (m.0 ≤ 127))
rtx_served keys p n None red is small rest h = h
rtx_served keys p n (Some primary) red is small rest h = elim (eqb_tells primary p) [
  | inl (t, e) ↦ rw t (is ∙ rw e refl, small)
  | inr (f, _) ↦ rw f h
]

rtx_key : (keys : ℕ → Option (ℕ × ℕ)) (p : ℕ) (links : List Link) → AreLinks keys links
    → IfSome (rtx_among p links) (λ m. (keys m.0 ≡ Some (1, p)) × (m.0 ≤ 127))
rtx_key keys p [] h = tt
rtx_key keys p (l ∷ links) h =
    rtx_served keys p l.pt l.rtx_of l.red_of h.own.0 h.small.0 (rtx_among p links)
    (rtx_key keys p links (record { own = h.own.1; one = h.one.1; small = h.small.1 }))

red_served : (keys : ℕ → Option (ℕ × ℕ)) (p n : ℕ) (rtx red : Option ℕ) → ((rtx ≡ None) ⊎ (red ≡ None)) → keys n ≡ Some (key_by rtx red n) → n ≤ 127
    → (rest : Option Pt) → IfSome rest (λ m. (keys m.0 ≡ Some (2, p)) × (m.0 ≤ 127))
    → IfSome (option_or (served_by (serves p red) n) rest) (λ m. (keys m.0 ≡ Some (2, p)) × (m.0 ≤ 127))
red_served keys p n rtx None one is small rest h = h
red_served keys p n None (Some primary) one is small rest h = elim (eqb_tells primary p) [
  | inl (t, e) ↦ rw t (is ∙ rw e refl, small)
  | inr (f, _) ↦ rw f h
]
red_served keys p n (Some other) (Some primary) (inl none) is small rest h = absurd cc
red_served keys p n (Some other) (Some primary) (inr none) is small rest h = absurd cc

red_key : (keys : ℕ → Option (ℕ × ℕ)) (p : ℕ) (links : List Link) → AreLinks keys links
    → IfSome (red_among p links) (λ m. (keys m.0 ≡ Some (2, p)) × (m.0 ≤ 127))
red_key keys p [] h = tt
red_key keys p (l ∷ links) h =
    red_served keys p l.pt l.rtx_of l.red_of h.one.0 h.own.0 h.small.0 (red_among p links)
    (red_key keys p links (record { own = h.own.1; one = h.one.1; small = h.small.1 }))

-- ---- the numbers of a row
differ : (keys : ℕ → Option (ℕ × ℕ)) (n m : ℕ) (a b : ℕ × ℕ) → keys n ≡ Some a → keys m ≡ Some b → a ≢ b → eqb n m ≡ false
differ keys n m a b left right ne = elim (eqb_tells n m) [
  | inl (t, e) ↦ absurd (ne (by (sym left ∙ ap keys e ∙ right)))
  | inr (f, _) ↦ f
]
  where
    by : {x y : ℕ × ℕ} → Some x ≡ Some y → x ≡ y
    by e = cc

-- a number with its kind, which serves this one
abbrev IsOf : (ℕ → Option (ℕ × ℕ)) → ℕ → ℕ → Type 0
IsOf keys p n = (kind : ℕ) × (keys n ≡ Some (kind, p))

kinds_differ : (keys : ℕ → Option (ℕ × ℕ)) (a b p n m : ℕ) → a ≢ b → keys n ≡ Some (a, p) → keys m ≡ Some (b, p) → eqb n m ≡ false
kinds_differ keys a b p n m ne left right = differ keys n m (a, p) (b, p) left right (λ e. ne (ap (λ (x : ℕ × ℕ). x.0) e))

row_apart : (keys : ℕ → Option (ℕ × ℕ)) (p : ℕ) → keys p ≡ Some (0, p) → (red rtx : Option Pt)
    → IfSome red (λ m. (keys m.0 ≡ Some (2, p)) × (m.0 ≤ 127)) → IfSome rtx (λ m. (keys m.0 ≡ Some (1, p)) × (m.0 ≤ 127))
    → IsApart eqb (optional_number itself red ++ (p ∷ optional_number itself rtx)) × AllByRecursion (IsOf keys p) (optional_number itself red ++ (p ∷ optional_number itself rtx))
row_apart keys p own None None a b = ((tt, tt), ((0, own), tt))
row_apart keys p own None (Some rtx) a b =
    (((kinds_differ keys 1 0 p rtx.0 p (λ e. absurd cc) b.0 own, tt), (tt, tt)), ((0, own), ((1, b.0), tt)))
row_apart keys p own (Some red) None a b =
    (((kinds_differ keys 0 2 p p red.0 (λ e. absurd cc) own a.0, tt), (tt, tt)), ((2, a.0), ((0, own), tt)))
row_apart keys p own (Some red) (Some rtx) a b = (
  (
    (kinds_differ keys 0 2 p p red.0 (λ e. absurd cc) own a.0, (kinds_differ keys 1 2 p rtx.0 red.0 (λ e. absurd cc) b.0 a.0, tt)),
    ((kinds_differ keys 1 0 p rtx.0 p (λ e. absurd cc) b.0 own, tt), (tt, tt)),
  ),
  ((2, a.0), ((0, own), ((1, b.0), tt))),
)

-- ---- the numbers of all rows
apart_append : (xs ys : List ℕ) → IsApart eqb xs → IsApart eqb ys → AllByRecursion (λ x. AllByRecursion (λ y. eqb y x ≡ false) ys) xs → IsApart eqb (xs ++ ys)
apart_append [] ys a b c = b
apart_append (x ∷ xs) ys a b c = (joined xs a.0, apart_append xs ys a.1 b c.1)
  where
    joined : (zs : List ℕ) → AllByRecursion (λ y. eqb y x ≡ false) zs → AllByRecursion (λ y. eqb y x ≡ false) (zs ++ ys)
    joined [] h = c.0
    joined (z ∷ zs) h = (h.0, joined zs h.1)

all_append : {A : Type 0} (P : A → Type 0) (xs ys : List A) → AllByRecursion P xs → AllByRecursion P ys → AllByRecursion P (xs ++ ys)
all_append P [] ys a b = b
all_append P (x ∷ xs) ys a b = (a.0, all_append P xs ys a.1 b)

-- a number that serves another one than p
abbrev IsOfOther : (ℕ → Option (ℕ × ℕ)) → ℕ → ℕ → Type 0
IsOfOther keys p n = (q : ℕ) × (IsOf keys q n × (eqb q p ≡ false))

others_differ : (keys : ℕ → Option (ℕ × ℕ)) (p x : ℕ) → IsOf keys p x → (ys : List ℕ) → AllByRecursion (IsOfOther keys p) ys
    → AllByRecursion (λ y. eqb y x ≡ false) ys
others_differ keys p x of [] h = tt
others_differ keys p x of (y ∷ ys) h =
    (differ keys y x (h.0.1.0.0, h.0.0) (of.0, p) h.0.1.0.1 of.1 (λ e. unequal h.0.0 p h.0.1.1 (ap (λ (z : ℕ × ℕ). z.1) e)), others_differ keys p x of ys h.1)
  where
    unequal : (q p : ℕ) → eqb q p ≡ false → q ≡ p → ⊥
    unequal q p f e = elim (eqb_tells q p) [ inl (t, _) ↦ absurd cc | inr (_, ne) ↦ ne e ]

all_differ : (keys : ℕ → Option (ℕ × ℕ)) (p : ℕ) (ys : List ℕ) → AllByRecursion (IsOfOther keys p) ys → (xs : List ℕ) → AllByRecursion (IsOf keys p) xs
    → AllByRecursion (λ x. AllByRecursion (λ y. eqb y x ≡ false) ys) xs
all_differ keys p ys others [] h = tt
all_differ keys p ys others (x ∷ xs) h = (others_differ keys p x h.0 ys others, all_differ keys p ys others xs h.1)

-- what holds of an entry among all
abbrev IsEntryRead : (ℕ → Option (ℕ × ℕ)) → PayloadEntry → Type 0
IsEntryRead keys entry = (keys (link_of entry).pt ≡ Some (key_of (link_of entry))) × (entry.codec.pt.0 ≤ 127)

entries_read : (keys : ℕ → Option (ℕ × ℕ)) (all : List PayloadEntry) → AllByRecursion (λ x. keys x.pt ≡ Some (key_of x)) (map link_of all)
    → AllByRecursion (λ entry. entry.codec.pt.0 ≤ 127) all → AllByRecursion (IsEntryRead keys) all
entries_read keys [] a b = tt
entries_read keys (entry ∷ all) a b = ((a.0, b.0), entries_read keys all a.1 b.1)

primary_is : (keys : ℕ → Option (ℕ × ℕ)) (entry : PayloadEntry) → is_primary entry.codec.codec ≡ true → IsEntryRead keys entry
    → keys entry.codec.pt.0 ≡ Some (0, entry.codec.pt.0)
primary_is keys entry primary read =
    let own : keys (link_of entry).pt ≡ Some (key_of (link_of entry)) = read.0 in
    ap keys (sym (link_number entry)) ∙ own ∙ ap (λ (k : ℕ × ℕ). Some k) (primary_key entry primary)

small_of : (keys : ℕ → Option (ℕ × ℕ)) (kind p : ℕ) (found : Option Pt) → IfSome found (λ m. (keys m.0 ≡ Some (kind, p)) × (m.0 ≤ 127)) → IfSome found IsPayloadType
small_of keys kind p None h = tt
small_of keys kind p (Some m) h = h.1

module _ (keys : ℕ → Option (ℕ × ℕ)) (links : List Link) (known : AreLinks keys links) where
  -- what the row of a primary is
  abbrev IsRowRead : PayloadEntry → Type 0
  IsRowRead entry =
      IsPlainPayload (row_made links entry.codec entry.fmtp)
      × IsApart eqb (row_formats (row_made links entry.codec entry.fmtp))
      × AllByRecursion (IsOf keys entry.codec.pt.0) (row_formats (row_made links entry.codec entry.fmtp))

  row_read : (entry : PayloadEntry) → is_primary entry.codec.codec ≡ true → IsEntryRead keys entry → IsRowRead entry
  row_read entry primary read =
      let p = entry.codec.pt.0 in
      let own : keys p ≡ Some (0, p) = primary_is keys entry primary read in
      let red = red_key keys p links known in
      let rtx = rtx_key keys p links known in
      let no = neither (is_rtx_codec entry.codec.codec) (is_red entry.codec.codec) primary in
      let numbers = row_apart keys p own (red_among p links) (rtx_among p links) red rtx in (
        record {
          pt = read.1;
          rtx = small_of keys 1 p (rtx_among p links) rtx;
          red = small_of keys 2 p (red_among p links) red;
          not_rtx = no.0;
          not_red = no.1;
        },
        numbers.0,
        numbers.1,
      )

  -- the numbers of later rows serve others
  of_others : (p : ℕ) (es : List PayloadEntry) → AllByRecursion (IsEntryRead keys) es → AllByRecursion (λ e. eqb e.codec.pt.0 p ≡ false) es
      → AllByRecursion (IsOfOther keys p) (formats_of (filter_map (payload_row_of links) es))
  of_others p [] read apart = tt
  of_others p (e ∷ es) read apart = by (of_others p es read.1 apart.1) (is_primary e.codec.codec) refl
    where
      widen : (xs : List ℕ) → AllByRecursion (IsOf keys e.codec.pt.0) xs → AllByRecursion (IsOfOther keys p) xs
      widen [] h = tt
      widen (x ∷ xs) h = ((e.codec.pt.0, (h.0, apart.0)), widen xs h.1)

      by : AllByRecursion (IsOfOther keys p) (formats_of (filter_map (payload_row_of links) es)) → (b : Bool) → is_primary e.codec.codec ≡ b
          → AllByRecursion (IsOfOther keys p) (formats_of (cons_option (cond b (Some (row_made links e.codec e.fmtp)) None) (filter_map (payload_row_of links) es)))
      by rest true is =
          let row = row_read e is read.0 in
          all_append (IsOfOther keys p) (row_formats (row_made links e.codec e.fmtp)) (formats_of (filter_map (payload_row_of links) es))
          (widen (row_formats (row_made links e.codec e.fmtp)) row.2) rest
      by rest false is = rest

  abbrev AreRowsRead : List PayloadRow → Type 0
  AreRowsRead rows = AllByRecursion IsPlainPayload rows × IsApart eqb (formats_of rows)

  rows_read : (es : List PayloadEntry) → AllByRecursion (IsEntryRead keys) es → AreEntriesApart es → AreRowsRead (filter_map (payload_row_of links) es)
  rows_read [] read apart = (tt, tt)
  rows_read (e ∷ es) read apart = by (rows_read es read.1 apart.1) (is_primary e.codec.codec) refl
    where
      by : AreRowsRead (filter_map (payload_row_of links) es) → (b : Bool) → is_primary e.codec.codec ≡ b
          → AreRowsRead (cons_option (cond b (Some (row_made links e.codec e.fmtp)) None) (filter_map (payload_row_of links) es))
      by rest true is =
          let row = row_read e is read.0 in
          let own = row_formats (row_made links e.codec e.fmtp) in
          let more = formats_of (filter_map (payload_row_of links) es) in (
            (row.0, rest.0),
            apart_append own more row.1 rest.1 (all_differ keys e.codec.pt.0 more (of_others e.codec.pt.0 es read.1 apart.0) own row.2),
          )
      by rest false is = rest

-- the rows of a line that is read
pub payloads_read : (formats : List ℕ) (codecs : List Rtpmap) (fmtps : List Fmtp) → AllByRecursion (λ n. n ≤ 127) formats → IsApart eqb formats
    → AllByRecursion IsPlainPayload (payload_rows formats codecs fmtps) × AreApart (payload_rows formats codecs fmtps)
unfolding payload_rows
payloads_read formats codecs fmtps small apart =
    let all = entries formats codecs fmtps in
    let distinct : AreEntriesApart all = entries_apart codecs fmtps formats apart in
    let numbers : AllByRecursion (λ entry. entry.codec.pt.0 ≤ 127) all = entries_keep codecs fmtps (λ n. n ≤ 127) formats small in
    let links = map link_of all in
    let keys = key_among links in
    let own : AllByRecursion (λ x. keys x.pt ≡ Some (key_of x)) links = own_keys links (links_apart all distinct) in
    rows_read keys links (record { own = own; one = links_serve_one all; small = links_small all numbers }) all (entries_read keys all own numbers) distinct
