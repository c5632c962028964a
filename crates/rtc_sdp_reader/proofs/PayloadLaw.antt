-- Payload rows whose codecs and parameters are written are read back.
use Rattle.std.proofs.Common.{◌≡◌, ℕ, ◌≤◌, false, eqb, eq-eqb, List, [], ◌∷◌, ◌++◌, map, Option, Some, None, refl, ap, ◌∙◌, append_assoc}
use Rattle.std.specs.Prelude.{codes}
use Rattle.std.specs.List.{AllByRecursion, filter_map}
use Rattle.std.proofs.lemmas.List.{map-append}
use Rattle.std.proofs.lemmas.List.Elements.{filter_map-append}
use Rattle.rtc_wire_text.specs.Fields.{first}
use Rattle.rtc_sdp_values.specs.declared.pt.Pt.{Pt}
use Rattle.rtc_sdp_values.specs.declared.payload_row.PayloadRow.{PayloadRow}
use Rattle.rtc_sdp_attributes.specs.declared.fmtp.Fmtp.{Fmtp}
use Rattle.rtc_sdp_attributes.specs.declared.rtpmap.Rtpmap.{Rtpmap}
use Rattle.rtc_sdp_attributes.specs.AttributeTexts.{apt_text, red_text}
use Rattle.rtc_sdp_attributes.proofs.FmtpLemmas.{apt_again, red_again}
use Rattle.rtc_sdp_reader.specs.declared.link.Link.{Link}
use Rattle.rtc_sdp_reader.specs.Payloads.{PayloadEntry, codec_for, fmtp_text_for, fmtp_for, entry_of, entries, link, link_of, rtx_among, red_among, payload_row_of, rows_of, payload_rows}
use Rattle.rtc_sdp_reader.specs.PlainPayloads.{optional_number, itself, codec_row, rtx_row, row_formats, formats_of, codecs_of, fmtps_of, IsPlainPayload, AreApart}
use Rattle.rtc_sdp_reader.proofs.PayloadLookups.{IsNone, flip, none_front, none_back, Differs, differs, OwnApart, own_apart, rest_differs, codecs_by, fmtps_by, over_codecs, over_fmtps, no_fmtp, own_codec, red_codec, rtx_codec, own_text, red_fmtp, rtx_fmtp}

-- ---- the entries that are written

abbrev own_entry : PayloadRow → PayloadEntry
own_entry row = record { codec = codec_row row row.codec row.pt.0; fmtp = row.fmtp }

abbrev red_entry : PayloadRow → ℕ → PayloadEntry
red_entry row n = record { codec = codec_row row (codes "red") n; fmtp = red_text row.pt.0 }

abbrev rtx_entry : PayloadRow → ℕ → PayloadEntry
rtx_entry row n = record { codec = rtx_row row n; fmtp = apt_text row.pt.0 }

abbrev entries_by : PayloadRow → Option Pt → Option Pt → List PayloadEntry
entries_by row red rtx = optional_number (red_entry row) red ++ (own_entry row ∷ optional_number (rtx_entry row) rtx)

abbrev entries_of : List PayloadRow → List PayloadEntry
entries_of [] = []
entries_of (row ∷ rest) = entries_by row row.red row.rtx ++ entries_of rest

abbrev entry_in : PayloadRow → Option Pt → Option Pt → List Rtpmap → List Fmtp → ℕ → Option PayloadEntry
entry_in row red rtx codecs fmtps = entry_of (codecs_by row red rtx ++ codecs) (fmtps_by row red rtx ++ fmtps)

-- an entry by its codec and its text
entry_is : (codecs : List Rtpmap) (fmtps : List Fmtp) (pt : ℕ) (codec : Rtpmap) (text : List ℕ) → first (codec_for pt) codecs ≡ Some codec → fmtp_for fmtps pt ≡ text → entry_of codecs fmtps pt ≡ Some (record { codec = codec; fmtp = text })
entry_is codecs fmtps pt codec text h k = rw (h, k) refl

red_found : (row : PayloadRow) (red rtx : Option Pt) (codecs : List Rtpmap) (fmtps : List Fmtp) → AllByRecursion (λ n. eqb row.pt.0 n ≡ false) (optional_number itself red)
    → AllByRecursion (λ n. entry_in row red rtx codecs fmtps n ≡ Some (red_entry row n)) (optional_number itself red)
red_found row None rtx codecs fmtps h = tt
red_found row (Some n) rtx codecs fmtps h = (entry_is (codecs_by row (Some n) rtx ++ codecs) (fmtps_by row (Some n) rtx ++ fmtps) n.0 (codec_row row (codes "red") n.0) (red_text row.pt.0) (red_codec row n rtx codecs h.0) (red_fmtp row n rtx fmtps h.0), tt)

rtx_found : (row : PayloadRow) (red rtx : Option Pt) (codecs : List Rtpmap) (fmtps : List Fmtp) → AllByRecursion (λ n. eqb row.pt.0 n ≡ false) (optional_number itself rtx) → AllByRecursion (λ n. IsNone n (optional_number itself red)) (optional_number itself rtx)
    → AllByRecursion (λ n. entry_in row red rtx codecs fmtps n ≡ Some (rtx_entry row n)) (optional_number itself rtx)
rtx_found row red None codecs fmtps h k = tt
rtx_found row red (Some n) codecs fmtps h k = (entry_is (codecs_by row red (Some n) ++ codecs) (fmtps_by row red (Some n) ++ fmtps) n.0 (rtx_row row n.0) (apt_text row.pt.0) (rtx_codec row red n codecs h.0 k.0) (rtx_fmtp row red n fmtps h.0 k.0), tt)

-- what optional_number numbers give
filter_optional : {B : Type 0} (gives : ℕ → Option B) (made : ℕ → B) (o : Option Pt) (rest : List ℕ) → AllByRecursion (λ n. gives n ≡ Some (made n)) (optional_number itself o) → filter_map gives (optional_number itself o ++ rest) ≡ optional_number made o ++ filter_map gives rest
filter_optional gives made None rest h = refl
filter_optional gives made (Some n) rest h = rw h.0 refl

filter_last : {B : Type 0} (gives : ℕ → Option B) (made : ℕ → B) (o : Option Pt) → AllByRecursion (λ n. gives n ≡ Some (made n)) (optional_number itself o) → filter_map gives (optional_number itself o) ≡ optional_number made o
filter_last gives made None h = refl
filter_last gives made (Some n) h = rw h.0 refl

row_entries_again : (row : PayloadRow) (others : List ℕ) (codecs : List Rtpmap) (fmtps : List Fmtp) → OwnApart row.red row.pt.0 row.rtx others → first (fmtp_text_for row.pt.0) fmtps ≡ None
    → filter_map (entry_in row row.red row.rtx codecs fmtps) (row_formats row) ≡ entries_by row row.red row.rtx
row_entries_again row others codecs fmtps h none =
    let gives = entry_in row row.red row.rtx codecs fmtps in
    let own : gives row.pt.0 ≡ Some (own_entry row) = entry_is (codecs_by row row.red row.rtx ++ codecs) (fmtps_by row row.red row.rtx ++ fmtps) row.pt.0 (codec_row row row.codec row.pt.0) row.fmtp (own_codec row row.red row.rtx codecs) (own_text row row.red row.rtx others fmtps h none) in
    filter_optional gives (red_entry row) row.red (row.pt.0 ∷ optional_number itself row.rtx) (red_found row row.red row.rtx codecs fmtps h.own_not_red)
    ∙ ap (λ (l : List PayloadEntry). optional_number (red_entry row) row.red ++ l) (rw own (ap (λ (l : List PayloadEntry). own_entry row ∷ l) (filter_last gives (rtx_entry row) row.rtx (rtx_found row row.red row.rtx codecs fmtps h.own_not_rtx h.red_not_rtx))))

same_filter : {B : Type 0} (f g : ℕ → Option B) (xs : List ℕ) → AllByRecursion (λ x. f x ≡ g x) xs → filter_map f xs ≡ filter_map g xs
same_filter f g [] h = refl
same_filter f g (x ∷ xs) h = rw (h.0, same_filter f g xs h.1) refl

-- other numbers are looked for in the rest
past : (row : PayloadRow) (codecs : List Rtpmap) (fmtps : List Fmtp) (ys : List ℕ) → AllByRecursion (λ y. Differs y row.red row.pt.0 row.rtx) ys → AllByRecursion (λ y. entry_in row row.red row.rtx codecs fmtps y ≡ entry_of codecs fmtps y) ys
past row codecs fmtps [] h = tt
past row codecs fmtps (y ∷ ys) h =
    (rw (over_codecs y row row.red row.rtx codecs h.0, over_fmtps y row row.red row.rtx fmtps h.0) refl, past row codecs fmtps ys h.1)

entries_again : (rows : List PayloadRow) → AreApart rows → entries (formats_of rows) (codecs_of rows) (fmtps_of rows) ≡ entries_of rows
entries_again [] h = refl
entries_again (row ∷ rows) h =
    let own = own_apart row.red row.pt.0 row.rtx (formats_of rows) h in
    let gives = entry_in row row.red row.rtx (codecs_of rows) (fmtps_of rows) in
    filter_map-append gives (row_formats row) (formats_of rows)
    ∙ ap (λ (l : List PayloadEntry). l ++ filter_map gives (formats_of rows)) (row_entries_again row (formats_of rows) (codecs_of rows) (fmtps_of rows) own (no_fmtp row.pt.0 rows own.own_rest))
    ∙ ap (λ (l : List PayloadEntry). entries_by row row.red row.rtx ++ l) (
    same_filter gives (entry_of (codecs_of rows) (fmtps_of rows)) (formats_of rows) (past row (codecs_of rows) (fmtps_of rows) (formats_of rows) (rest_differs row.red row.pt.0 row.rtx (formats_of rows) own.own_rest own.red_rest own.rtx_rest))
    ∙ entries_again rows own.rest_apart)

-- ---- what they serve

abbrev red_link : ℕ → ℕ → Link
red_link own n = link n None (Some own)

abbrev rtx_link : ℕ → ℕ → Link
rtx_link own n = link n (Some own) None

abbrev links_by : ℕ → Option Pt → Option Pt → List Link
links_by own red rtx = optional_number (red_link own) red ++ (link own None None ∷ optional_number (rtx_link own) rtx)

abbrev links_of : List PayloadRow → List Link
links_of [] = []
links_of (row ∷ rest) = links_by row.pt.0 row.red row.rtx ++ links_of rest

red_linked : (row : PayloadRow) (o : Option Pt) → row.pt.0 ≤ 127 → map link_of (optional_number (red_entry row) o) ≡ optional_number (red_link row.pt.0) o
red_linked row None h = refl
red_linked row (Some n) h = rw (red_again row.pt.0 h) refl

rtx_linked : (row : PayloadRow) (o : Option Pt) → row.pt.0 ≤ 127 → map link_of (optional_number (rtx_entry row) o) ≡ optional_number (rtx_link row.pt.0) o
rtx_linked row None h = refl
rtx_linked row (Some n) h = rw (apt_again row.pt.0 h) refl

own_linked : (row : PayloadRow) → IsPlainPayload row → link_of (own_entry row) ≡ link row.pt.0 None None
own_linked row h = rw (h.not_rtx, h.not_red) refl

row_linked : (row : PayloadRow) → IsPlainPayload row → map link_of (entries_by row row.red row.rtx) ≡ links_by row.pt.0 row.red row.rtx
row_linked row h =
    map-append link_of (optional_number (red_entry row) row.red) (own_entry row ∷ optional_number (rtx_entry row) row.rtx)
    ∙ rw (red_linked row row.red h.pt, own_linked row h, rtx_linked row row.rtx h.pt) refl

all_linked : (rows : List PayloadRow) → AllByRecursion IsPlainPayload rows → map link_of (entries_of rows) ≡ links_of rows
all_linked [] h = refl
all_linked (row ∷ rows) h =
    map-append link_of (entries_by row row.red row.rtx) (entries_of rows)
    ∙ rw (row_linked row h.0, all_linked rows h.1) refl

-- another row's links serve none
rtx_over : (pt own : ℕ) (red rtx : Option Pt) (rest : List Link) → eqb own pt ≡ false → rtx_among pt (links_by own red rtx ++ rest) ≡ rtx_among pt rest
rtx_over pt own None None rest h = refl
rtx_over pt own None (Some b) rest h = rw h refl
rtx_over pt own (Some a) None rest h = refl
rtx_over pt own (Some a) (Some b) rest h = rw h refl

red_over : (pt own : ℕ) (red rtx : Option Pt) (rest : List Link) → eqb own pt ≡ false → red_among pt (links_by own red rtx ++ rest) ≡ red_among pt rest
red_over pt own None None rest h = refl
red_over pt own None (Some b) rest h = refl
red_over pt own (Some a) None rest h = rw h refl
red_over pt own (Some a) (Some b) rest h = rw h refl

-- a row's own links serve it
rtx_own : (own : ℕ) (red rtx : Option Pt) (rest : List Link) → rtx_among own rest ≡ None → rtx_among own (links_by own red rtx ++ rest) ≡ rtx
rtx_own own None None rest h = h
rtx_own own None (Some b) rest h = rw (eq-eqb own own refl) refl
rtx_own own (Some a) None rest h = h
rtx_own own (Some a) (Some b) rest h = rw (eq-eqb own own refl) refl

red_own : (own : ℕ) (red rtx : Option Pt) (rest : List Link) → red_among own rest ≡ None → red_among own (links_by own red rtx ++ rest) ≡ red
red_own own None None rest h = h
red_own own None (Some b) rest h = h
red_own own (Some a) None rest h = rw (eq-eqb own own refl) refl
red_own own (Some a) (Some b) rest h = rw (eq-eqb own own refl) refl

abbrev OwnsDiffer : ℕ → List PayloadRow → Type 0
OwnsDiffer pt rows = AllByRecursion (λ row. eqb row.pt.0 pt ≡ false) rows

rtx_none : (pt : ℕ) (rows : List PayloadRow) → OwnsDiffer pt rows → rtx_among pt (links_of rows) ≡ None
rtx_none pt [] h = refl
rtx_none pt (row ∷ rows) h = rtx_over pt row.pt.0 row.red row.rtx (links_of rows) h.0 ∙ rtx_none pt rows h.1

red_none : (pt : ℕ) (rows : List PayloadRow) → OwnsDiffer pt rows → red_among pt (links_of rows) ≡ None
red_none pt [] h = refl
red_none pt (row ∷ rows) h = red_over pt row.pt.0 row.red row.rtx (links_of rows) h.0 ∙ red_none pt rows h.1

owns_differ : (pt : ℕ) (rows : List PayloadRow) → IsNone pt (formats_of rows) → OwnsDiffer pt rows
owns_differ pt [] h = tt
owns_differ pt (row ∷ rows) h =
    ((differs pt row (none_front pt (row_formats row) (formats_of rows) h)).not_own, owns_differ pt rows (none_back pt (row_formats row) (formats_of rows) h))

-- ---- the rows

record IsServed (links : List Link) (row : PayloadRow) : Type 0 where
  rtx : rtx_among row.pt.0 links ≡ row.rtx
  red : red_among row.pt.0 links ≡ row.red

served_past : (row : PayloadRow) (links : List Link) (rows : List PayloadRow) → OwnsDiffer row.pt.0 rows → AllByRecursion (IsServed links) rows → AllByRecursion (IsServed (links_by row.pt.0 row.red row.rtx ++ links)) rows
served_past row links [] h k = tt
served_past row links (s ∷ ss) h k =
    let other : eqb row.pt.0 s.pt.0 ≡ false = flip s.pt.0 row.pt.0 h.0 in (
      record {
        rtx = rtx_over s.pt.0 row.pt.0 row.red row.rtx links other ∙ k.0.rtx;
        red = red_over s.pt.0 row.pt.0 row.red row.rtx links other ∙ k.0.red;
      },
      served_past row links ss h.1 k.1,
    )

all_served : (rows : List PayloadRow) → AreApart rows → AllByRecursion (IsServed (links_of rows)) rows
all_served [] h = tt
all_served (row ∷ rows) h =
    let own = own_apart row.red row.pt.0 row.rtx (formats_of rows) h in
    let others = owns_differ row.pt.0 rows own.own_rest in (
      record {
        rtx = rtx_own row.pt.0 row.red row.rtx (links_of rows) (rtx_none row.pt.0 rows others);
        red = red_own row.pt.0 row.red row.rtx (links_of rows) (red_none row.pt.0 rows others);
      },
      served_past row (links_of rows) rows others (all_served rows own.rest_apart),
    )

-- red and rtx have no row of their own
no_row : (links : List Link) (made : ℕ → PayloadEntry) (o : Option Pt) (rest : List PayloadEntry) → ((n : ℕ) → payload_row_of links (made n) ≡ None) → filter_map (payload_row_of links) (optional_number made o ++ rest) ≡ filter_map (payload_row_of links) rest
no_row links made None rest h = refl
no_row links made (Some n) rest h = rw (h n.0) refl

row_again : (links : List Link) (row : PayloadRow) → IsPlainPayload row → IsServed links row → payload_row_of links (own_entry row) ≡ Some row
row_again links row h k = rw (h.not_rtx, h.not_red, k.rtx, k.red) refl

one_row : (links : List Link) (row : PayloadRow) (rest : List PayloadEntry) → IsPlainPayload row → IsServed links row → filter_map (payload_row_of links) (entries_by row row.red row.rtx ++ rest) ≡ row ∷ filter_map (payload_row_of links) rest
one_row links row rest h k =
    ap (filter_map (payload_row_of links)) (append_assoc (optional_number (red_entry row) row.red) (own_entry row ∷ optional_number (rtx_entry row) row.rtx) rest)
    ∙ no_row links (red_entry row) row.red ((own_entry row ∷ optional_number (rtx_entry row) row.rtx) ++ rest) (λ n. refl)
    ∙ rw (row_again links row h k) (ap (λ (l : List PayloadRow). row ∷ l) (no_row links (rtx_entry row) row.rtx rest (λ n. refl)))

rows_again : (links : List Link) (rows : List PayloadRow) → AllByRecursion IsPlainPayload rows → AllByRecursion (IsServed links) rows → filter_map (payload_row_of links) (entries_of rows) ≡ rows
rows_again links [] h k = refl
rows_again links (row ∷ rows) h k = one_row links row (entries_of rows) h.0 k.0 ∙ ap (λ (l : List PayloadRow). row ∷ l) (rows_again links rows h.1 k.1)

pub payload_rows_again : (rows : List PayloadRow) → AllByRecursion IsPlainPayload rows → AreApart rows → payload_rows (formats_of rows) (codecs_of rows) (fmtps_of rows) ≡ rows
unfolding payload_rows
payload_rows_again rows h apart =
    ap rows_of (entries_again rows apart)
    ∙ ap (λ (links : List Link). filter_map (payload_row_of links) (entries_of rows)) (all_linked rows h)
    ∙ rows_again (links_of rows) rows h (all_served rows apart)
