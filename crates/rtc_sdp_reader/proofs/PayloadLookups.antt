-- What a look among the codecs and parameters of payload rows finds.
use Rattle.std.proofs.Common.{◌≡◌, ℕ, false, eqb, eq-eqb, List, [], ◌∷◌, ◌++◌, Option, Some, None, refl, sym, ap, ◌∙◌, append_assoc}
use Rattle.std.specs.Prelude.{codes}
use Rattle.std.specs.List.{AllByRecursion}
use Rattle.std.proofs.lemmas.Bool.{ne_eqb, eqb-false}
use Rattle.rtc_wire_text.specs.Fields.{first}
use Rattle.rtc_wire_text.specs.Once.{IsApart}
use Rattle.rtc_sdp_values.specs.declared.pt.Pt.{Pt}
use Rattle.rtc_sdp_values.specs.declared.payload_row.PayloadRow.{PayloadRow}
use Rattle.rtc_sdp_attributes.specs.declared.fmtp.Fmtp.{Fmtp}
use Rattle.rtc_sdp_attributes.specs.declared.rtpmap.Rtpmap.{Rtpmap}
use Rattle.rtc_sdp_attributes.specs.AttributeTexts.{apt_text, red_text}
use Rattle.rtc_sdp_reader.specs.Payloads.{codec_for, fmtp_text_for, or_empty, fmtp_for}
use Rattle.rtc_sdp_reader.specs.PlainPayloads.{optional_number, itself, codec_row, rtx_row, fmtp_row, own_fmtp, row_formats, formats_of, fmtps_of}

-- a number that is none of these
abbrev pub IsNone : ℕ → List ℕ → Type 0
IsNone pt numbers = AllByRecursion (λ n. eqb n pt ≡ false) numbers

pub flip : (n pt : ℕ) → eqb n pt ≡ false → eqb pt n ≡ false
flip n pt h = ne_eqb pt n (λ e. eqb-false n pt h (sym e))

pub none_front : (pt : ℕ) (xs ys : List ℕ) → IsNone pt (xs ++ ys) → IsNone pt xs
none_front pt [] ys h = tt
none_front pt (x ∷ xs) ys h = (h.0, none_front pt xs ys h.1)

pub none_back : (pt : ℕ) (xs ys : List ℕ) → IsNone pt (xs ++ ys) → IsNone pt ys
none_back pt [] ys h = h
none_back pt (x ∷ xs) ys h = none_back pt xs ys h.1

-- ---- the numbers of one row

-- a number that is none of a row's
pub record Differs (pt : ℕ) (red : Option Pt) (own : ℕ) (rtx : Option Pt) : Type 0 where
  pub not_own : eqb own pt ≡ false
  pub not_red : IsNone pt (optional_number itself red)
  pub not_rtx : IsNone pt (optional_number itself rtx)

pub differs : (pt : ℕ) (row : PayloadRow) → IsNone pt (row_formats row) → Differs pt row.red row.pt.0 row.rtx
differs pt row h =
    let behind = none_back pt (optional_number itself row.red) (row.pt.0 ∷ optional_number itself row.rtx) h in
    record { not_own = behind.0; not_red = none_front pt (optional_number itself row.red) (row.pt.0 ∷ optional_number itself row.rtx) h; not_rtx = behind.1 }

-- the numbers of a row differ from each other, and from the rest
pub record OwnApart (red : Option Pt) (own : ℕ) (rtx : Option Pt) (rest : List ℕ) : Type 0 where
  pub own_not_red : AllByRecursion (λ n. eqb own n ≡ false) (optional_number itself red)
  pub own_not_rtx : AllByRecursion (λ n. eqb own n ≡ false) (optional_number itself rtx)
  pub red_not_rtx : AllByRecursion (λ n. IsNone n (optional_number itself red)) (optional_number itself rtx)
  pub own_rest : IsNone own rest
  pub red_rest : AllByRecursion (λ n. IsNone n rest) (optional_number itself red)
  pub rtx_rest : AllByRecursion (λ n. IsNone n rest) (optional_number itself rtx)
  pub rest_apart : IsApart eqb rest

pub own_apart : (red : Option Pt) (own : ℕ) (rtx : Option Pt) (rest : List ℕ) → IsApart eqb ((optional_number itself red ++ (own ∷ optional_number itself rtx)) ++ rest) → OwnApart red own rtx rest
own_apart None own None rest h = record {
  own_not_red = tt;
  own_not_rtx = tt;
  red_not_rtx = tt;
  own_rest = h.0;
  red_rest = tt;
  rtx_rest = tt;
  rest_apart = h.1;
}
own_apart None own (Some b) rest h = record {
  own_not_red = tt;
  own_not_rtx = (flip b.0 own h.0.0, tt);
  red_not_rtx = (tt, tt);
  own_rest = h.0.1;
  red_rest = tt;
  rtx_rest = (h.1.0, tt);
  rest_apart = h.1.1;
}
own_apart (Some a) own None rest h = record {
  own_not_red = (h.0.0, tt);
  own_not_rtx = tt;
  red_not_rtx = tt;
  own_rest = h.1.0;
  red_rest = (h.0.1, tt);
  rtx_rest = tt;
  rest_apart = h.1.1;
}
own_apart (Some a) own (Some b) rest h = record {
  own_not_red = (h.0.0, tt);
  own_not_rtx = (flip b.0 own h.1.0.0, tt);
  red_not_rtx = ((flip b.0 a.0 h.0.1.0, tt), tt);
  own_rest = h.1.0.1;
  red_rest = (h.0.1.1, tt);
  rtx_rest = (h.1.1.0, tt);
  rest_apart = h.1.1.1;
}

abbrev AllNone : Option Pt → List ℕ → Type 0
AllNone o rest = AllByRecursion (λ n. IsNone n rest) (optional_number itself o)

heads : (o : Option Pt) (y : ℕ) (ys : List ℕ) → AllNone o (y ∷ ys) → IsNone y (optional_number itself o)
heads None y ys h = tt
heads (Some n) y ys h = (flip y n.0 h.0.0, tt)

tails : (o : Option Pt) (y : ℕ) (ys : List ℕ) → AllNone o (y ∷ ys) → AllNone o ys
tails None y ys h = tt
tails (Some n) y ys h = (h.0.1, tt)

-- so each of the rest differs
pub rest_differs : (red : Option Pt) (own : ℕ) (rtx : Option Pt) (ys : List ℕ) → IsNone own ys → AllNone red ys → AllNone rtx ys → AllByRecursion (λ y. Differs y red own rtx) ys
rest_differs red own rtx [] h r x = tt
rest_differs red own rtx (y ∷ ys) h r x =
    (record { not_own = flip y own h.0; not_red = heads red y ys r; not_rtx = heads rtx y ys x }, rest_differs red own rtx ys h.1 (tails red y ys r) (tails rtx y ys x))

-- ---- a look passes over what has another number

pub over_optional : {A B : Type 0} (gives : A → Option B) (made : ℕ → A) (o : Option Pt) (rest : List A) → AllByRecursion (λ n. gives (made n) ≡ None) (optional_number itself o) → first gives (optional_number made o ++ rest) ≡ first gives rest
over_optional gives made None rest h = refl
over_optional gives made (Some pt) rest h = rw h.0 refl

codecs_differ : (made : ℕ → Rtpmap) → ((n : ℕ) → (made n).pt.0 ≡ n) → (pt : ℕ) (o : Option Pt) → IsNone pt (optional_number itself o) → AllByRecursion (λ n. codec_for pt (made n) ≡ None) (optional_number itself o)
codecs_differ made same pt None h = tt
codecs_differ made same pt (Some n) h = (rw (same n.0, h.0) refl, tt)

texts_differ : (text : List ℕ) (pt : ℕ) (o : Option Pt) → IsNone pt (optional_number itself o) → AllByRecursion (λ n. fmtp_text_for pt (fmtp_row text n) ≡ None) (optional_number itself o)
texts_differ text pt None h = tt
texts_differ text pt (Some n) h = (rw h.0 refl, tt)

-- the codecs and the parameters of a row behind its own
abbrev more_codecs : PayloadRow → Option Pt → Option Pt → List Rtpmap
more_codecs row red rtx = optional_number (codec_row row (codes "red")) red ++ optional_number (rtx_row row) rtx

abbrev more_fmtps : PayloadRow → Option Pt → Option Pt → List Fmtp
more_fmtps row red rtx = optional_number (fmtp_row (red_text row.pt.0)) red ++ optional_number (fmtp_row (apt_text row.pt.0)) rtx

abbrev pub codecs_by : PayloadRow → Option Pt → Option Pt → List Rtpmap
codecs_by row red rtx = codec_row row row.codec row.pt.0 ∷ more_codecs row red rtx

abbrev pub fmtps_by : PayloadRow → Option Pt → Option Pt → List Fmtp
fmtps_by row red rtx = own_fmtp row.pt.0 row.fmtp ++ more_fmtps row red rtx

pub over_codecs : (pt : ℕ) (row : PayloadRow) (red rtx : Option Pt) (rest : List Rtpmap) → Differs pt red row.pt.0 rtx → first (codec_for pt) (codecs_by row red rtx ++ rest) ≡ first (codec_for pt) rest
over_codecs pt row red rtx rest h =
    rw h.not_own (
    ap (first (codec_for pt)) (append_assoc (optional_number (codec_row row (codes "red")) red) (optional_number (rtx_row row) rtx) rest)
    ∙ over_optional (codec_for pt) (codec_row row (codes "red")) red (optional_number (rtx_row row) rtx ++ rest) (codecs_differ (codec_row row (codes "red")) (λ n. refl) pt red h.not_red)
    ∙ over_optional (codec_for pt) (rtx_row row) rtx rest (codecs_differ (rtx_row row) (λ n. refl) pt rtx h.not_rtx))

over_own : (pt own : ℕ) (text : List ℕ) (rest : List Fmtp) → eqb own pt ≡ false → first (fmtp_text_for pt) (own_fmtp own text ++ rest) ≡ first (fmtp_text_for pt) rest
over_own pt own [] rest h = refl
over_own pt own (b ∷ bs) rest h = rw h refl

over_more : (pt : ℕ) (row : PayloadRow) (red rtx : Option Pt) (rest : List Fmtp) → IsNone pt (optional_number itself red) → IsNone pt (optional_number itself rtx) → first (fmtp_text_for pt) (more_fmtps row red rtx ++ rest) ≡ first (fmtp_text_for pt) rest
over_more pt row red rtx rest h k =
    ap (first (fmtp_text_for pt)) (append_assoc (optional_number (fmtp_row (red_text row.pt.0)) red) (optional_number (fmtp_row (apt_text row.pt.0)) rtx) rest)
    ∙ over_optional (fmtp_text_for pt) (fmtp_row (red_text row.pt.0)) red (optional_number (fmtp_row (apt_text row.pt.0)) rtx ++ rest) (texts_differ (red_text row.pt.0) pt red h)
    ∙ over_optional (fmtp_text_for pt) (fmtp_row (apt_text row.pt.0)) rtx rest (texts_differ (apt_text row.pt.0) pt rtx k)

pub over_fmtps : (pt : ℕ) (row : PayloadRow) (red rtx : Option Pt) (rest : List Fmtp) → Differs pt red row.pt.0 rtx → first (fmtp_text_for pt) (fmtps_by row red rtx ++ rest) ≡ first (fmtp_text_for pt) rest
over_fmtps pt row red rtx rest h =
    ap (first (fmtp_text_for pt)) (append_assoc (own_fmtp row.pt.0 row.fmtp) (more_fmtps row red rtx) rest)
    ∙ over_own pt row.pt.0 row.fmtp (more_fmtps row red rtx ++ rest) h.not_own
    ∙ over_more pt row red rtx rest h.not_red h.not_rtx

-- a number of no row has no parameters
pub no_fmtp : (pt : ℕ) (rows : List PayloadRow) → IsNone pt (formats_of rows) → first (fmtp_text_for pt) (fmtps_of rows) ≡ None
no_fmtp pt [] h = refl
no_fmtp pt (row ∷ rows) h =
    over_fmtps pt row row.red row.rtx (fmtps_of rows) (differs pt row (none_front pt (row_formats row) (formats_of rows) h))
    ∙ no_fmtp pt rows (none_back pt (row_formats row) (formats_of rows) h)

-- ---- a look finds what has the number

pub own_codec : (row : PayloadRow) (red rtx : Option Pt) (rest : List Rtpmap) → first (codec_for row.pt.0) (codecs_by row red rtx ++ rest) ≡ Some (codec_row row row.codec row.pt.0)
own_codec row red rtx rest = rw (eq-eqb row.pt.0 row.pt.0 refl) refl

pub red_codec : (row : PayloadRow) (n : Pt) (rtx : Option Pt) (rest : List Rtpmap) → eqb row.pt.0 n.0 ≡ false → first (codec_for n.0) (codecs_by row (Some n) rtx ++ rest) ≡ Some (codec_row row (codes "red") n.0)
red_codec row n rtx rest h = rw (h, eq-eqb n.0 n.0 refl) refl

pub rtx_codec : (row : PayloadRow) (red : Option Pt) (n : Pt) (rest : List Rtpmap) → eqb row.pt.0 n.0 ≡ false → IsNone n.0 (optional_number itself red) → first (codec_for n.0) (codecs_by row red (Some n) ++ rest) ≡ Some (rtx_row row n.0)
rtx_codec row red n rest h k =
    rw h (
    ap (first (codec_for n.0)) (append_assoc (optional_number (codec_row row (codes "red")) red) (rtx_row row n.0 ∷ []) rest)
    ∙ over_optional (codec_for n.0) (codec_row row (codes "red")) red (rtx_row row n.0 ∷ rest) (codecs_differ (codec_row row (codes "red")) (λ n. refl) n.0 red k)
    ∙ rw (eq-eqb n.0 n.0 refl) refl)

found_own : (own : ℕ) (text : List ℕ) (rest : List Fmtp) → first (fmtp_text_for own) rest ≡ None → or_empty (first (fmtp_text_for own) (own_fmtp own text ++ rest)) ≡ text
found_own own [] rest h = ap or_empty h
found_own own (b ∷ bs) rest h = rw (eq-eqb own own refl) refl

-- a row's own number is neither its red nor its rtx
unlike : (own : ℕ) (o : Option Pt) → AllByRecursion (λ n. eqb own n ≡ false) (optional_number itself o) → IsNone own (optional_number itself o)
unlike own None h = tt
unlike own (Some n) h = (flip own n.0 h.0, tt)

pub own_text : (row : PayloadRow) (red rtx : Option Pt) (others : List ℕ) (rest : List Fmtp) → OwnApart red row.pt.0 rtx others → first (fmtp_text_for row.pt.0) rest ≡ None → fmtp_for (fmtps_by row red rtx ++ rest) row.pt.0 ≡ row.fmtp
own_text row red rtx others rest h none =
    ap (λ (fmtps : List Fmtp). or_empty (first (fmtp_text_for row.pt.0) fmtps)) (append_assoc (own_fmtp row.pt.0 row.fmtp) (more_fmtps row red rtx) rest)
    ∙ found_own row.pt.0 row.fmtp (more_fmtps row red rtx ++ rest) (over_more row.pt.0 row red rtx rest (unlike row.pt.0 red h.own_not_red) (unlike row.pt.0 rtx h.own_not_rtx) ∙ none)

pub red_fmtp : (row : PayloadRow) (n : Pt) (rtx : Option Pt) (rest : List Fmtp) → eqb row.pt.0 n.0 ≡ false → fmtp_for (fmtps_by row (Some n) rtx ++ rest) n.0 ≡ red_text row.pt.0
red_fmtp row n rtx rest h =
    let here : first (fmtp_text_for n.0) (more_fmtps row (Some n) rtx ++ rest) ≡ Some (red_text row.pt.0) = rw (eq-eqb n.0 n.0 refl) refl in
    ap or_empty (
    ap (first (fmtp_text_for n.0)) (append_assoc (own_fmtp row.pt.0 row.fmtp) (more_fmtps row (Some n) rtx) rest)
    ∙ over_own n.0 row.pt.0 row.fmtp (more_fmtps row (Some n) rtx ++ rest) h
    ∙ here)

pub rtx_fmtp : (row : PayloadRow) (red : Option Pt) (n : Pt) (rest : List Fmtp) → eqb row.pt.0 n.0 ≡ false → IsNone n.0 (optional_number itself red) → fmtp_for (fmtps_by row red (Some n) ++ rest) n.0 ≡ apt_text row.pt.0
rtx_fmtp row red n rest h k =
    let here : first (fmtp_text_for n.0) (fmtp_row (apt_text row.pt.0) n.0 ∷ rest) ≡ Some (apt_text row.pt.0) = rw (eq-eqb n.0 n.0 refl) refl in
    ap or_empty (
    ap (first (fmtp_text_for n.0)) (append_assoc (own_fmtp row.pt.0 row.fmtp) (more_fmtps row red (Some n)) rest)
    ∙ over_own n.0 row.pt.0 row.fmtp (more_fmtps row red (Some n) ++ rest) h
    ∙ ap (first (fmtp_text_for n.0)) (append_assoc (optional_number (fmtp_row (red_text row.pt.0)) red) (fmtp_row (apt_text row.pt.0) n.0 ∷ []) rest)
    ∙ over_optional (fmtp_text_for n.0) (fmtp_row (red_text row.pt.0)) red (fmtp_row (apt_text row.pt.0) n.0 ∷ rest) (texts_differ (red_text row.pt.0) n.0 red k)
    ∙ here)
