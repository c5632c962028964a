-- What looks among codecs and parameters find, where one of them has lost its text.
use Rattle.std.proofs.Common.{◌≡◌, ◌<◌, ◌&&◌, ◌||◌, not, ℕ, zero, suc, false, true, Bool, eqb, eq-eqb, List, [], ◌∷◌, ◌++◌, length, drop, get_or, slice_set, Option, Some, None, option_map, option_and_then, refl, sym, ap, ◌∙◌, ◌+◌, arith, append_assoc, add-one, drop-cons, if◌then◌else◌}
use Rattle.std.specs.List.{filter_map, list_any, cons_option}
use Rattle.std.specs.Option.{option_or, unwrap_or}
use Rattle.std.proofs.lemmas.Bool.{eqb-true, eqb-false, ne_eqb}
use Rattle.std.proofs.lemmas.List.{set-get_or}
use Rattle.rtc_wire_text.specs.Fields.{first}
use Rattle.rtc_sdp_attributes.specs.declared.fmtp.Fmtp.{Fmtp}
use Rattle.rtc_sdp_attributes.specs.declared.rtpmap.Rtpmap.{Rtpmap}
use Rattle.rtc_sdp_values.specs.declared.payload_row.PayloadRow.{PayloadRow}
use Rattle.rtc_sdp_reader.specs.Payloads as spec
use Rattle.rtc_sdp_reader.specs.declared.link.Link.{Link}

-- a value by its number
abbrev pub keyed : {A : Type 0} → (A → ℕ) → ℕ → A → Option A
keyed key number x = if eqb (key x) number then Some x else None

hit : {A : Type 0} (b : Bool) (x : A) (rest : Option A) → b ≡ true → option_or (if b then Some x else None) rest ≡ Some x
hit b x rest e = rw e refl

missed : {A : Type 0} (b : Bool) (x : A) (rest : Option A) → b ≡ false → option_or (if b then Some x else None) rest ≡ rest
missed b x rest e = rw e refl

-- the value at a place is found by its number, from there on
pub there : {A : Type 0} (key : A → ℕ) (xs : List A) (i number : ℕ) (x : A) → i < length xs → x ≡ get_or xs i x → key x ≡ number
    → first (keyed key number) (drop i xs) ≡ Some x
there key [] i number x below is same = absurd (omega (arith, below))
there key (y ∷ ys) zero number x below is same = rw (sym is) (hit (eqb (key x) number) x (first (keyed key number) ys) (eq-eqb (key x) number same))
there key (y ∷ ys) (suc i) number x below is same = there key ys i number x (omega (arith, below)) is same

-- what is found by a number has it
pub found : {A : Type 0} (key : A → ℕ) (xs : List A) (number : ℕ) (x : A) → first (keyed key number) xs ≡ Some x → key x ≡ number
found key [] number x e = sym (ap (λ o. unwrap_or (option_map key o) number) e)
found key (y ∷ ys) number x e = either (eqb (key y) number) refl (λ rest. found key ys number x rest) e
  where
    either : (b : Bool) → eqb (key y) number ≡ b → (first (keyed key number) ys ≡ Some x → key x ≡ number)
        → option_or (if b then Some y else None) (first (keyed key number) ys) ≡ Some x → key x ≡ number
    either true h rest e = ap key (sym (ap (λ o. unwrap_or o y) e)) ∙ eqb-true (key y) number h
    either false h rest e = rest e

-- a value that keeps its number changes no look for another
pub stays : {A : Type 0} (key : A → ℕ) (xs : List A) (i other : ℕ) (x d : A) → i < length xs → key x ≡ key (get_or xs i d) → eqb (key x) other ≡ false
    → first (keyed key other) (slice_set xs i x) ≡ first (keyed key other) xs
stays key [] i other x d below same differs = refl
stays key (y ∷ ys) zero other x d below same differs =
    missed (eqb (key x) other) x (first (keyed key other) ys) differs
    ∙ sym (missed (eqb (key y) other) y (first (keyed key other) ys) (ap (λ n. eqb n other) (sym same) ∙ differs))
stays key (y ∷ ys) (suc i) other x d below same differs =
    ap (option_or (keyed key other y)) (stays key ys i other x d (omega (arith, below)) same differs)

flip : (n m : ℕ) → eqb n m ≡ false → eqb m n ≡ false
flip n m h = ne_eqb m n (λ e. eqb-false n m h (sym e))

-- nor does one that is written again as it was
pub kept : {A : Type 0} (key : A → ℕ) (xs : List A) (place number other : ℕ) (item new : A) (goes : Bool) → place < length xs
    → item ≡ get_or xs place item → first (keyed key number) xs ≡ Some item → key new ≡ key item → (goes ≡ false → new ≡ item)
    → goes && eqb other number ≡ false → first (keyed key other) (slice_set xs place new) ≡ first (keyed key other) xs
kept key xs place number other item new false below is e same again differs =
    ap (λ ys. first (keyed key other) ys) (ap (slice_set xs place) (again refl ∙ is) ∙ set-get_or xs place item)
kept key xs place number other item new true below is e same again differs =
    stays key xs place other new item below (same ∙ ap key is)
    (ap (λ n. eqb n other) (same ∙ found key xs number item e) ∙ flip other number differs)

-- ---- parameters

pub fmtp_texts : (fmtps : List Fmtp) (pt : ℕ) → first (spec.fmtp_text_for pt) fmtps ≡ option_map (λ fmtp. fmtp.text) (first (spec.parameters_for pt) fmtps)
fmtp_texts [] pt = refl
fmtp_texts (f ∷ fs) pt = either (eqb f.pt.0 pt) (fmtp_texts fs pt)
  where
    either : (b : Bool) → first (spec.fmtp_text_for pt) fs ≡ option_map (λ fmtp. fmtp.text) (first (spec.parameters_for pt) fs)
        → option_or (if b then Some f.text else None) (first (spec.fmtp_text_for pt) fs)
        ≡ option_map (λ fmtp. fmtp.text) (option_or (if b then Some f else None) (first (spec.parameters_for pt) fs))
    either true rest = refl
    either false rest = rest

pub fmtp_found : (fmtps : List Fmtp) (pt : ℕ) (found : Option Fmtp) → found ≡ first (spec.parameters_for pt) fmtps
    → spec.or_empty (option_map (λ fmtp. fmtp.text) found) ≡ spec.fmtp_for fmtps pt
fmtp_found fmtps pt found e = ap (λ o. spec.or_empty (option_map (λ fmtp. fmtp.text) o)) e ∙ sym (ap spec.or_empty (fmtp_texts fmtps pt))

pub fmtp_kept : (fmtps : List Fmtp) (place pt other : ℕ) (item : Fmtp) (text : List ℕ) (goes : Bool) → place < length fmtps
    → item ≡ get_or fmtps place item → first (spec.parameters_for pt) fmtps ≡ Some item → (goes ≡ false → text ≡ item.text)
    → goes && eqb other pt ≡ false → spec.fmtp_for (slice_set fmtps place (record { pt = item.pt; text = text })) other ≡ spec.fmtp_for fmtps other
fmtp_kept fmtps place pt other item text goes below is e again differs =
    let new : Fmtp = record { pt = item.pt; text = text } in
    let same : first (spec.parameters_for other) (slice_set fmtps place new) ≡ first (spec.parameters_for other) fmtps =
    kept (λ f. f.pt.0) fmtps place pt other item new goes below is e refl (λ h. ap (λ t. record { pt = item.pt; text = t }) (again h)) differs in
    sym (fmtp_found (slice_set fmtps place new) other (first (spec.parameters_for other) (slice_set fmtps place new)) refl)
    ∙ fmtp_found fmtps other (first (spec.parameters_for other) (slice_set fmtps place new)) same

-- ---- entries

abbrev entry_with : List ℕ → Rtpmap → spec.PayloadEntry
entry_with text codec = record { codec = codec; fmtp = text }

pub entry_row : (links : List Link) (codecs : List Rtpmap) (fmtps : List Fmtp) (format : ℕ) (item : Rtpmap)
    → first (spec.codec_for format) codecs ≡ Some item
    → spec.payload_row_of links (record { codec = item; fmtp = spec.fmtp_for fmtps item.pt.0 })
    ≡ option_and_then (spec.payload_row_of links) (spec.entry_of codecs fmtps format)
entry_row links codecs fmtps format item e =
    ap (λ pt. spec.payload_row_of links (entry_with (spec.fmtp_for fmtps pt) item)) (found (λ c. c.pt.0) codecs format item e)
    ∙ sym (ap (λ o. option_and_then (spec.payload_row_of links) (option_map (entry_with (spec.fmtp_for fmtps format)) o)) e)

pub entry_kept : (codecs : List Rtpmap) (fmtps others : List Fmtp) (place format other : ℕ) (item new : Rtpmap) (goes : Bool) → place < length codecs
    → item ≡ get_or codecs place item → first (spec.codec_for format) codecs ≡ Some item → new.pt ≡ item.pt → (goes ≡ false → new ≡ item)
    → ((n : ℕ) → goes && eqb n item.pt.0 ≡ false → spec.fmtp_for others n ≡ spec.fmtp_for fmtps n)
    → goes && eqb other format ≡ false → spec.entry_of (slice_set codecs place new) others other ≡ spec.entry_of codecs fmtps other
entry_kept codecs fmtps others place format other item new goes below is e same again texts differs =
    ap (option_map (entry_with (spec.fmtp_for others other)))
    (kept (λ c. c.pt.0) codecs place format other item new goes below is e (ap (λ pt. pt.0) same) again differs)
    ∙ ap (λ text. option_map (entry_with text) (first (spec.codec_for other) codecs))
    (texts other (ap (λ n. goes && eqb other n) (found (λ c. c.pt.0) codecs format item e) ∙ differs))

front_apart : (goes test rest : Bool) → goes && (test || rest) ≡ false → goes && test ≡ false
front_apart false test rest h = refl
front_apart true true rest h = h
front_apart true false rest h = refl

rest_apart : (goes test rest : Bool) → goes && (test || rest) ≡ false → goes && rest ≡ false
rest_apart false test rest h = refl
rest_apart true true true h = h
rest_apart true true false h = refl
rest_apart true false rest h = h

never_both : (b : Bool) → not b && b ≡ false
never_both true = refl
never_both false = refl

all_kept : (formats : List ℕ) (entry before : ℕ → Option spec.PayloadEntry) (format : ℕ) (goes : Bool)
    → goes && list_any (λ n. eqb n format) formats ≡ false → ((n : ℕ) → goes && eqb n format ≡ false → entry n ≡ before n)
    → filter_map entry formats ≡ filter_map before formats
all_kept [] entry before format goes apart same = refl
all_kept (n ∷ ns) entry before format goes apart same =
    let any : Bool = list_any (λ m. eqb m format) ns in
    ap (λ o. cons_option o (filter_map entry ns)) (same n (front_apart goes (eqb n format) any apart))
    ∙ ap (cons_option (before n)) (all_kept ns entry before format goes (rest_apart goes (eqb n format) any apart) same)

-- the entries of the formats to come, where what one of them took is not read again
pub entries_kept : (formats : List ℕ) (codecs lasting : List Rtpmap) (fmtps others : List Fmtp) (format : ℕ) (among : Bool)
    → among ≡ list_any (λ n. eqb n format) formats
    → ((n : ℕ) → not among && eqb n format ≡ false → spec.entry_of lasting others n ≡ spec.entry_of codecs fmtps n)
    → spec.entries formats lasting others ≡ spec.entries formats codecs fmtps
entries_kept formats codecs lasting fmtps others format among is same =
    all_kept formats (spec.entry_of lasting others) (spec.entry_of codecs fmtps) format (not among)
    (ap (λ b. not among && b) (sym is) ∙ never_both among) same

rows_of_one : (R : spec.PayloadEntry → Option PayloadRow) (entry : Option spec.PayloadEntry) (rest : List spec.PayloadEntry)
    → filter_map R (cons_option entry rest) ≡ cons_option (option_and_then R entry) (filter_map R rest)
rows_of_one R None rest = refl
rows_of_one R (Some entry) rest = refl

joined : (rows : List PayloadRow) (row : Option PayloadRow) (rest : List PayloadRow) → (rows ++ cons_option row []) ++ rest ≡ rows ++ cons_option row rest
joined rows None rest = append_assoc rows [] rest
joined rows (Some row) rest = append_assoc rows (row ∷ []) rest

-- the rows so far and those to come, one format on
pub rows_step : (R : spec.PayloadEntry → Option PayloadRow) (formats : List ℕ) (i format : ℕ) (codecs lasting : List Rtpmap) (fmtps others : List Fmtp)
    (rows : List PayloadRow) (row : Option PayloadRow) (whole : List PayloadRow)
    → i < length formats → format ≡ get_or formats i 0 → row ≡ option_and_then R (spec.entry_of codecs fmtps format)
    → spec.entries (drop (i + 1) formats) lasting others ≡ spec.entries (drop (i + 1) formats) codecs fmtps
    → rows ++ filter_map R (spec.entries (drop i formats) codecs fmtps) ≡ whole
    → (rows ++ cons_option row []) ++ filter_map R (spec.entries (drop (i + 1) formats) lasting others) ≡ whole
rows_step R formats i format codecs lasting fmtps others rows row whole below at made same before =
    let rest = filter_map R (spec.entries (drop (i + 1) formats) codecs fmtps) in
    let cons : drop i formats ≡ get_or formats i 0 ∷ drop (i + 1) formats = rw add-one (drop-cons formats i 0 below) in
    let here : filter_map R (spec.entries (drop i formats) codecs fmtps) ≡ cons_option row rest =
    ap (λ ns. filter_map R (spec.entries ns codecs fmtps)) cons
    ∙ rows_of_one R (spec.entry_of codecs fmtps (get_or formats i 0)) (spec.entries (drop (i + 1) formats) codecs fmtps)
    ∙ ap (λ n. cons_option (option_and_then R (spec.entry_of codecs fmtps n)) rest) (sym at)
    ∙ ap (λ o. cons_option o rest) (sym made) in
    ap (λ es. (rows ++ cons_option row []) ++ filter_map R es) same ∙ joined rows row rest ∙ ap (λ xs. rows ++ xs) (sym here) ∙ before
