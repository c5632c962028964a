-- The numbers of entries of payloads, and the key of each: what it serves.
use Rattle.std.proofs.Common.{◌≡◌, ◌≤◌, ◌⊎◌, ℕ, Bool, true, false, not, ◌||◌, cond, eqb, List, [], ◌∷◌, map, Option, Some, None, refl, inl, inr}
use Rattle.std.specs.Prelude.{IfSome, option_map}
use Rattle.std.specs.List.{AllByRecursion, cons_option}
use Rattle.std.proofs.lemmas.Bool.Decides.{eqb_tells}
use Rattle.rtc_wire_text.specs.Fields.{first}
use Rattle.rtc_wire_text.specs.Once.{IsApart}
use Rattle.rtc_sdp_attributes.specs.AttributeForms.{apt, red_primary}
use Rattle.rtc_sdp_attributes.specs.declared.fmtp.Fmtp.{Fmtp}
use Rattle.rtc_sdp_attributes.specs.declared.rtpmap.Rtpmap.{Rtpmap}
use Rattle.rtc_sdp_reader.specs.declared.link.Link.{Link}
use Rattle.rtc_sdp_reader.specs.Payloads.{PayloadEntry, codec_for, fmtp_for, entry_of, entries, is_rtx_codec, is_red, link, link_of, is_primary}
use Rattle.rtc_sdp_reader.proofs.GivenLemmas.{filter_map_gives}
use Rattle.rtc_sdp_reader.proofs.PayloadLookups.{flip}

-- ---- entries have the numbers of their formats
found_number : (pt : ℕ) (codecs : List Rtpmap) → IfSome (first (codec_for pt) codecs) (λ codec. codec.pt.0 ≡ pt)
found_number pt [] = tt
found_number pt (codec ∷ codecs) = elim (eqb_tells codec.pt.0 pt) [
  | inl (t, e) ↦ rw t e
  | inr (f, _) ↦ rw f (found_number pt codecs)
]

entry_number : (codecs : List Rtpmap) (fmtps : List Fmtp) (pt : ℕ) → IfSome (entry_of codecs fmtps pt) (λ entry. entry.codec.pt.0 ≡ pt)
entry_number codecs fmtps pt = by (first (codec_for pt) codecs) (found_number pt codecs)
  where
    by : (found : Option Rtpmap) → IfSome found (λ codec. codec.pt.0 ≡ pt)
        → IfSome {T = PayloadEntry} (option_map (λ codec. record { codec = codec; fmtp = fmtp_for fmtps pt }) found) (λ entry. entry.codec.pt.0 ≡ pt)
    by None h = tt
    by (Some codec) h = h

entry_keeps : (codecs : List Rtpmap) (fmtps : List Fmtp) (P : ℕ → Type 0) (pt : ℕ) → P pt → IfSome (entry_of codecs fmtps pt) (λ entry. P entry.codec.pt.0)
entry_keeps codecs fmtps P pt p = by (entry_of codecs fmtps pt) (entry_number codecs fmtps pt)
  where
    by : (found : Option PayloadEntry) → IfSome found (λ entry. entry.codec.pt.0 ≡ pt) → IfSome found (λ entry. P entry.codec.pt.0)
    by None h = tt
    by (Some entry) h = rw h p

pub entries_keep : (codecs : List Rtpmap) (fmtps : List Fmtp) (P : ℕ → Type 0) (formats : List ℕ) → AllByRecursion P formats
    → AllByRecursion (λ entry. P entry.codec.pt.0) (entries formats codecs fmtps)
entries_keep codecs fmtps P formats h = filter_map_gives (entry_of codecs fmtps) P (λ entry. P entry.codec.pt.0) (entry_keeps codecs fmtps P) formats h

-- the entries have apart numbers
abbrev pub AreEntriesApart : List PayloadEntry → Type 0
AreEntriesApart all = IsApart (λ (a b : PayloadEntry). eqb a.codec.pt.0 b.codec.pt.0) all

pub entries_apart : (codecs : List Rtpmap) (fmtps : List Fmtp) (formats : List ℕ) → IsApart eqb formats → AreEntriesApart (entries formats codecs fmtps)
entries_apart codecs fmtps [] h = tt
entries_apart codecs fmtps (pt ∷ formats) h =
    by (entry_of codecs fmtps pt) (entry_number codecs fmtps pt) (entries_keep codecs fmtps (λ n. eqb n pt ≡ false) formats h.0) (entries_apart codecs fmtps formats h.1)
  where
    by : (found : Option PayloadEntry) → IfSome found (λ entry. entry.codec.pt.0 ≡ pt)
        → AllByRecursion (λ entry. eqb entry.codec.pt.0 pt ≡ false) (entries formats codecs fmtps) → AreEntriesApart (entries formats codecs fmtps)
        → AreEntriesApart (cons_option found (entries formats codecs fmtps))
    by None e others rest = rest
    by (Some entry) e others rest = (rw e others, rest)

-- ---- what a number serves: 0 and itself, 1 and the primary of a retransmission, 2 and that of redundant packets
abbrev pub key_by : Option ℕ → Option ℕ → ℕ → ℕ × ℕ
key_by (Some primary) red pt = (1, primary)
key_by None (Some primary) pt = (2, primary)
key_by None None pt = (0, pt)

abbrev pub key_of : Link → ℕ × ℕ
key_of l = key_by l.rtx_of l.red_of l.pt

abbrev key_for : ℕ → Link → Option (ℕ × ℕ)
key_for n l = cond (eqb l.pt n) (Some (key_of l)) None

abbrev pub key_among : List Link → ℕ → Option (ℕ × ℕ)
key_among links n = first (key_for n) links

abbrev AreLinksApart : List Link → Type 0
AreLinksApart links = IsApart (λ (a b : Link). eqb a.pt b.pt) links

own_key : (l : Link) (links : List Link) → key_among (l ∷ links) l.pt ≡ Some (key_of l)
own_key l links = elim (eqb_tells l.pt l.pt) [
  | inl (t, e) ↦ rw t refl
  | inr (f, ne) ↦ absurd (ne refl)
]

over_one : (l : Link) (links rest : List Link) → AllByRecursion (λ y. eqb y.pt l.pt ≡ false) rest
    → AllByRecursion (λ x. key_among links x.pt ≡ Some (key_of x)) rest → AllByRecursion (λ x. key_among (l ∷ links) x.pt ≡ Some (key_of x)) rest
over_one l links [] a b = tt
over_one l links (x ∷ rest) a b = (rw (flip x.pt l.pt a.0) b.0, over_one l links rest a.1 b.1)

pub own_keys : (links : List Link) → AreLinksApart links → AllByRecursion (λ x. key_among links x.pt ≡ Some (key_of x)) links
own_keys [] h = tt
own_keys (l ∷ links) h = (own_key l links, over_one l links links h.0 (own_keys links h.1))

-- ---- the link of an entry
pub link_number : (entry : PayloadEntry) → (link_of entry).pt ≡ entry.codec.pt.0
link_number entry = by (is_rtx_codec entry.codec.codec) (is_red entry.codec.codec)
  where
    by : (a b : Bool) → (cond a (link entry.codec.pt.0 (apt entry.fmtp) None) (cond b (link entry.codec.pt.0 None (red_primary entry.fmtp)) (link entry.codec.pt.0 None None))).pt ≡ entry.codec.pt.0
    by true b = refl
    by false true = refl
    by false false = refl

abbrev pub ServesOne : Link → Type 0
ServesOne l = (l.rtx_of ≡ None) ⊎ (l.red_of ≡ None)

serves_one : (entry : PayloadEntry) → ServesOne (link_of entry)
serves_one entry = by (is_rtx_codec entry.codec.codec) (is_red entry.codec.codec)
  where
    by : (a b : Bool) → ServesOne (cond a (link entry.codec.pt.0 (apt entry.fmtp) None) (cond b (link entry.codec.pt.0 None (red_primary entry.fmtp)) (link entry.codec.pt.0 None None)))
    by true b = inr refl
    by false true = inl refl
    by false false = inl refl

pub neither : (a b : Bool) → not (a || b) ≡ true → (a ≡ false) × (b ≡ false)
neither true b h = absurd cc
neither false true h = absurd cc
neither false false h = (refl, refl)

pub primary_key : (entry : PayloadEntry) → is_primary entry.codec.codec ≡ true → key_of (link_of entry) ≡ (0, entry.codec.pt.0)
primary_key entry h =
    let no = neither (is_rtx_codec entry.codec.codec) (is_red entry.codec.codec) h in
    rw (no.0, no.1) refl

pub links_apart : (all : List PayloadEntry) → AreEntriesApart all → AreLinksApart (map link_of all)
links_apart [] h = tt
links_apart (entry ∷ all) h = (by all h.0, links_apart all h.1)
  where
    by : (rest : List PayloadEntry) → AllByRecursion (λ y. eqb y.codec.pt.0 entry.codec.pt.0 ≡ false) rest
        → AllByRecursion (λ y. eqb y.pt (link_of entry).pt ≡ false) (map link_of rest)
    by [] h = tt
    by (y ∷ rest) h = (rw (link_number y, link_number entry) h.0, by rest h.1)

pub links_serve_one : (all : List PayloadEntry) → AllByRecursion ServesOne (map link_of all)
links_serve_one [] = tt
links_serve_one (entry ∷ all) = (serves_one entry, links_serve_one all)

pub links_small : (all : List PayloadEntry) → AllByRecursion (λ entry. entry.codec.pt.0 ≤ 127) all → AllByRecursion (λ l. l.pt ≤ 127) (map link_of all)
links_small [] h = tt
links_small (entry ∷ all) h = (rw (link_number entry) h.0, links_small all h.1)
