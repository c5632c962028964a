-- The lines of rows and of channels: each is one line, and tells its row or its channel.
use Rattle.std.specs.Prelude.{codes}
use Rattle.std.specs.Fmt.{decimal}
use Rattle.std.proofs.Common.{◌≡◌, ◌<◌, ◌^◌, ◌++◌, ◌∷◌, ℕ, zero, suc, Bool, true, false, cond, List, [], Option, Some, None, refl, sym, ◌∙◌, ap, append_assoc, arith}
use Rattle.std.proofs.lemmas.Fmt.{decimal_injective}
use Rattle.rtc_sdp_values.specs.declared.direction.Direction.{Direction}
use Rattle.rtc_sdp_values.specs.declared.direction.Direction.TheVariants.{SendRecv, SendOnly, RecvOnly, Inactive}
use Rattle.rtc_sdp_values.specs.declared.media_kind.MediaKind.{MediaKind}
use Rattle.rtc_sdp_values.specs.declared.media_kind.MediaKind.TheVariants.{Audio, Video}
use Rattle.rtc_sdp_values.specs.declared.line_row.LineRow.{LineRow}
use Rattle.rtc_sdp_values.specs.declared.line_row.LineRow.TheVariants.{Media, App}
use Rattle.rtc_channels.specs.declared.channel_row.ChannelRow.{ChannelRow}
use Rattle.rtc_script.specs.Words.{direction_text, kind_text}
use Rattle.rtc_script_reports.specs.Fits.{FitsChannel, FitsRow, FitsStream, IsName, has_byte}
use Rattle.rtc_script_reports.specs.Rows.{channel_report_line, row_report_line, stream_text}
use Rattle.rtc_script_reports.proofs.Cuts.{Begins, cut_front, cut_space, cut_word, none_append, none_put, put_behind, text_of}
use Rattle.rtc_script_reports.proofs.LineTexts.{IsOneLine}
use Rattle.rtc_script_reports.proofs.WordTexts.{dashed, decimal_gap, gap, letter, name_gap, stream_gap}

-- ---- words of kinds and directions

pub kind_gap : (g : ℕ) (kind : MediaKind) → has_byte (gap g) (kind_text kind) ≡ false
kind_gap zero Audio = refl
kind_gap zero Video = refl
kind_gap (suc zero) Audio = refl
kind_gap (suc zero) Video = refl
kind_gap (suc (suc g)) Audio = refl
kind_gap (suc (suc g)) Video = refl

pub direction_gap : (g : ℕ) (dir : Direction) → has_byte (gap g) (direction_text dir) ≡ false
direction_gap zero SendRecv = refl
direction_gap zero SendOnly = refl
direction_gap zero RecvOnly = refl
direction_gap zero Inactive = refl
direction_gap (suc zero) SendRecv = refl
direction_gap (suc zero) SendOnly = refl
direction_gap (suc zero) RecvOnly = refl
direction_gap (suc zero) Inactive = refl
direction_gap (suc (suc g)) SendRecv = refl
direction_gap (suc (suc g)) SendOnly = refl
direction_gap (suc (suc g)) RecvOnly = refl
direction_gap (suc (suc g)) Inactive = refl

pub same_kind : (kind other : MediaKind) → kind_text kind ≡ kind_text other → kind ≡ other
same_kind Audio Audio e = refl
same_kind Video Video e = refl
same_kind Audio Video e = absurd (let f : 97 ≡ 118 = ap (letter 0) e in omega (arith, f))
same_kind Video Audio e = absurd (let f : 118 ≡ 97 = ap (letter 0) e in omega (arith, f))

pub same_direction : (dir other : Direction) → direction_text dir ≡ direction_text other → dir ≡ other
same_direction SendRecv SendRecv e = refl
same_direction SendOnly SendOnly e = refl
same_direction RecvOnly RecvOnly e = refl
same_direction Inactive Inactive e = refl
same_direction SendRecv SendOnly e = absurd (let f : 114 ≡ 111 = ap (letter 4) e in omega (arith, f))
same_direction SendOnly SendRecv e = absurd (let f : 111 ≡ 114 = ap (letter 4) e in omega (arith, f))
same_direction SendRecv RecvOnly e = absurd (let f : 115 ≡ 114 = ap (letter 0) e in omega (arith, f))
same_direction SendRecv Inactive e = absurd (let f : 115 ≡ 105 = ap (letter 0) e in omega (arith, f))
same_direction SendOnly RecvOnly e = absurd (let f : 115 ≡ 114 = ap (letter 0) e in omega (arith, f))
same_direction SendOnly Inactive e = absurd (let f : 115 ≡ 105 = ap (letter 0) e in omega (arith, f))
same_direction RecvOnly SendRecv e = absurd (let f : 114 ≡ 115 = ap (letter 0) e in omega (arith, f))
same_direction RecvOnly SendOnly e = absurd (let f : 114 ≡ 115 = ap (letter 0) e in omega (arith, f))
same_direction RecvOnly Inactive e = absurd (let f : 114 ≡ 105 = ap (letter 0) e in omega (arith, f))
same_direction Inactive SendRecv e = absurd (let f : 105 ≡ 115 = ap (letter 0) e in omega (arith, f))
same_direction Inactive SendOnly e = absurd (let f : 105 ≡ 115 = ap (letter 0) e in omega (arith, f))
same_direction Inactive RecvOnly e = absurd (let f : 105 ≡ 114 = ap (letter 0) e in omega (arith, f))

-- ---- rows

abbrev marks : Bool → Bool → List (List ℕ)
marks stopped created = cond stopped (codes " stopped") (codes " live") ∷ cond created (codes " remote\n") (codes " local\n") ∷ []

abbrev behind_kind : Direction → Bool → Bool → List (List ℕ)
behind_kind dir stopped created = direction_text dir ∷ marks stopped created

abbrev behind_mid : MediaKind → Direction → Bool → Bool → List (List ℕ)
behind_mid kind dir stopped created = kind_text kind ∷ codes " " ∷ behind_kind dir stopped created

abbrev behind_place : List ℕ → MediaKind → Direction → Bool → Bool → List (List ℕ)
behind_place mid kind dir stopped created = mid ∷ codes " " ∷ behind_mid kind dir stopped created

marks_begin : (stopped created : Bool) → Begins 32 (text_of (marks stopped created))
marks_begin true created = refl
marks_begin false created = refl

same_marks : (s c s' c' : Bool) → text_of (marks s c) ≡ text_of (marks s' c') → (s ≡ s') × (c ≡ c')
same_marks true true true true e = (refl, refl)
same_marks true false true false e = (refl, refl)
same_marks false true false true e = (refl, refl)
same_marks false false false false e = (refl, refl)
same_marks true c false c' e = absurd (let f : 115 ≡ 108 = ap (letter 1) e in omega (arith, f))
same_marks false c true c' e = absurd (let f : 108 ≡ 115 = ap (letter 1) e in omega (arith, f))
same_marks true true true false e = absurd (let f : 114 ≡ 108 = ap (letter 9) e in omega (arith, f))
same_marks true false true true e = absurd (let f : 108 ≡ 114 = ap (letter 9) e in omega (arith, f))
same_marks false true false false e = absurd (let f : 114 ≡ 108 = ap (letter 6) e in omega (arith, f))
same_marks false false false true e = absurd (let f : 108 ≡ 114 = ap (letter 6) e in omega (arith, f))

same_media : (p p' : ℕ) (m m' : List ℕ) (k k' : MediaKind) (d d' : Direction) (s s' c c' : Bool)
    → p ≡ p' → m ≡ m' → k ≡ k' → d ≡ d' → s ≡ s' → c ≡ c' → ◌≡◌ {A = LineRow} (Media p m k d s c) (Media p' m' k' d' s' c')
same_media p p' m m' k k' d d' s s' c c' ep em ek ed es ec = cc

same_app : (p p' : ℕ) (m m' : List ℕ) → p ≡ p' → m ≡ m' → ◌≡◌ {A = LineRow} (App p m) (App p' m')
same_app p p' m m' ep em = cc

-- the words of a media line are not the word for data channels
unlike : (kind : MediaKind) (dir : Direction) (s c : Bool) → text_of (behind_mid kind dir s c) ≡ codes "app\n" → ⊥
unlike Audio dir s c e = let f : 117 ≡ 112 = ap (letter 1) e in omega (arith, f)
unlike Video dir s c e = let f : 118 ≡ 97 = ap (letter 0) e in omega (arith, f)

-- the place and the mid, and what is behind them
heads : (p p' : ℕ) (m m' r r' : List ℕ) → p < 2 ^ 64 → p' < 2 ^ 64 → IsName m → IsName m'
    → decimal p ++ 32 ∷ (m ++ 32 ∷ r) ≡ decimal p' ++ 32 ∷ (m' ++ 32 ∷ r') → (p ≡ p') × (m ≡ m') × (r ≡ r')
heads p p' m m' r r' small small' name name' e =
    let place = cut_space (decimal p) (decimal p') (m ++ 32 ∷ r) (m' ++ 32 ∷ r') (decimal_gap 0 p) (decimal_gap 0 p') e in
    let mid = cut_space m m' r r' (name_gap 0 m name) (name_gap 0 m' name') place.1 in
    (decimal_injective p p' small small' place.0, mid.0, mid.1)

-- equal lines are of equal rows
pub same_row : (row other : LineRow) → FitsRow row → FitsRow other → row_report_line row ≡ row_report_line other → row ≡ other
same_row (Media p m k d s c) (Media p' m' k' d' s' c') fit fit' e =
    let text = cut_front (codes "line ") (decimal p ∷ codes " " ∷ behind_place m k d s c) (decimal p' ∷ codes " " ∷ behind_place m' k' d' s' c') e in
    let head = heads p p' m m' (text_of (behind_mid k d s c)) (text_of (behind_mid k' d' s' c')) fit.0 fit'.0 fit.1 fit'.1 text in
    let kind = cut_space (kind_text k) (kind_text k') (text_of (behind_kind d s c)) (text_of (behind_kind d' s' c')) (kind_gap 0 k) (kind_gap 0 k') head.2 in
    let dir = cut_word 32 (direction_text d) (direction_text d') (text_of (marks s c)) (text_of (marks s' c')) (direction_gap 0 d) (direction_gap 0 d') (marks_begin s c) (marks_begin s' c') kind.1 in
    let mark = same_marks s c s' c' dir.1 in
    same_media p p' m m' k k' d d' s s' c c' head.0 head.1 (same_kind k k' kind.0) (same_direction d d' dir.0) mark.0 mark.1
same_row (App p m) (App p' m') fit fit' e =
    let text = cut_front (codes "line ") (decimal p ∷ codes " " ∷ m ∷ codes " app\n" ∷ []) (decimal p' ∷ codes " " ∷ m' ∷ codes " app\n" ∷ []) e in
    let head = heads p p' m m' (codes "app\n") (codes "app\n") fit.0 fit'.0 fit.1 fit'.1 text in
    same_app p p' m m' head.0 head.1
same_row (Media p m k d s c) (App p' m') fit fit' e =
    let text = cut_front (codes "line ") (decimal p ∷ codes " " ∷ behind_place m k d s c) (decimal p' ∷ codes " " ∷ m' ∷ codes " app\n" ∷ []) e in
    let head = heads p p' m m' (text_of (behind_mid k d s c)) (codes "app\n") fit.0 fit'.0 fit.1 fit'.1 text in
    absurd (unlike k d s c head.2)
same_row (App p m) (Media p' m' k' d' s' c') fit fit' e =
    let text = cut_front (codes "line ") (decimal p ∷ codes " " ∷ m ∷ codes " app\n" ∷ []) (decimal p' ∷ codes " " ∷ behind_place m' k' d' s' c') e in
    let head = heads p p' m m' (codes "app\n") (text_of (behind_mid k' d' s' c')) fit.0 fit'.0 fit.1 fit'.1 text in
    absurd (unlike k' d' s' c' (sym head.2))

-- the line without its end
abbrev front_of : ℕ → List ℕ → MediaKind → Direction → Bool → List ℕ
front_of place mid kind dir stopped =
    put_behind (codes "line ") (decimal place ∷ codes " " ∷ mid ∷ codes " " ∷ kind_text kind ∷ codes " " ∷ direction_text dir ∷ cond stopped (codes " stopped") (codes " live") ∷ [])

front_whole : (place : ℕ) (mid : List ℕ) (kind : MediaKind) (dir : Direction) (stopped : Bool) → IsName mid → has_byte 10 (front_of place mid kind dir stopped) ≡ false
front_whole place mid kind dir stopped name =
    none_put
    10 (codes "line ")
    (decimal place ∷ codes " " ∷ mid ∷ codes " " ∷ kind_text kind ∷ codes " " ∷ direction_text dir ∷ cond stopped (codes " stopped") (codes " live") ∷ [])
    refl (decimal_gap 1 place, (refl, (name_gap 1 mid name, (refl, (kind_gap 1 kind, (refl, (direction_gap 1 dir, (is_stopped stopped, tt))))))))
  where
    is_stopped : (b : Bool) → has_byte 10 (cond b (codes " stopped") (codes " live")) ≡ false
    is_stopped true = refl
    is_stopped false = refl

pub row_whole : (row : LineRow) → FitsRow row → IsOneLine (row_report_line row)
row_whole (Media p m k d s true) fit = record {
  content = front_of p m k d s ++ codes " remote";
  is = sym (append_assoc (front_of p m k d s) (codes " remote") (codes "\n"));
  whole = none_append 10 (front_of p m k d s) (codes " remote") (front_whole p m k d s fit.1) refl;
}
row_whole (Media p m k d s false) fit = record {
  content = front_of p m k d s ++ codes " local";
  is = sym (append_assoc (front_of p m k d s) (codes " local") (codes "\n"));
  whole = none_append 10 (front_of p m k d s) (codes " local") (front_whole p m k d s fit.1) refl;
}
row_whole (App p m) fit = record {
  content = put_behind (codes "line ") (decimal p ∷ codes " " ∷ m ∷ codes " app" ∷ []);
  is = sym (append_assoc (put_behind (codes "line ") (decimal p ∷ codes " " ∷ m ∷ [])) (codes " app") (codes "\n"));
  whole = none_put 10 (codes "line ") (decimal p ∷ codes " " ∷ m ∷ codes " app" ∷ []) refl (decimal_gap 1 p, (refl, (name_gap 1 m fit.1, (refl, tt))));
}

-- ---- channels

abbrev opening : Bool → List (List ℕ)
opening is_open = cond is_open (codes " open\n") (codes " waiting\n") ∷ []

opening_begins : (is_open : Bool) → Begins 32 (text_of (opening is_open))
opening_begins true = refl
opening_begins false = refl

same_opening : (is_open other : Bool) → text_of (opening is_open) ≡ text_of (opening other) → is_open ≡ other
same_opening true true e = refl
same_opening false false e = refl
same_opening true false e = absurd (let f : 111 ≡ 119 = ap (letter 1) e in omega (arith, f))
same_opening false true e = absurd (let f : 119 ≡ 111 = ap (letter 1) e in omega (arith, f))

same_stream : (stream other : Option ℕ) → FitsStream stream → FitsStream other → stream_text stream ≡ stream_text other → stream ≡ other
same_stream None None fit fit' e = refl
same_stream None (Some n) fit fit' e = absurd (dashed n e)
same_stream (Some n) None fit fit' e = absurd (dashed n (sym e))
same_stream (Some n) (Some n') fit fit' e = ap (λ (k : ℕ). Some k) (decimal_injective n n' fit fit' e)

abbrev row_of : ℕ → Option ℕ → ℕ → Bool → ChannelRow
row_of id stream generation is_open = record { id = id; stream = stream; generation = generation; is_open = is_open }

abbrev behind_id : Option ℕ → ℕ → Bool → List (List ℕ)
behind_id stream generation is_open = stream_text stream ∷ codes " " ∷ decimal generation ∷ opening is_open

-- equal lines are of equal channels
pub same_channel : (row other : ChannelRow) → FitsChannel row → FitsChannel other → channel_report_line row ≡ channel_report_line other → row ≡ other
same_channel row other fit fit' e =
    let text = cut_front (codes "channel ") (decimal row.id ∷ codes " " ∷ behind_id row.stream row.generation row.is_open) (decimal other.id ∷ codes " " ∷ behind_id other.stream other.generation other.is_open) e in
    let id = cut_space (decimal row.id) (decimal other.id) (text_of (behind_id row.stream row.generation row.is_open)) (text_of (behind_id other.stream other.generation other.is_open)) (decimal_gap 0 row.id) (decimal_gap 0 other.id) text in
    let stream = cut_space (stream_text row.stream) (stream_text other.stream) (text_of (decimal row.generation ∷ opening row.is_open)) (text_of (decimal other.generation ∷ opening other.is_open)) (stream_gap 0 row.stream) (stream_gap 0 other.stream) id.1 in
    let generation = cut_word 32 (decimal row.generation) (decimal other.generation) (text_of (opening row.is_open)) (text_of (opening other.is_open)) (decimal_gap 0 row.generation) (decimal_gap 0 other.generation) (opening_begins row.is_open) (opening_begins other.is_open) stream.1 in
    ap (λ (n : ℕ). row_of n row.stream row.generation row.is_open) (decimal_injective row.id other.id fit.0 fit'.0 id.0)
    ∙ ap (λ (s : Option ℕ). row_of other.id s row.generation row.is_open) (same_stream row.stream other.stream fit.1 fit'.1 stream.0)
    ∙ ap (λ (g : ℕ). row_of other.id other.stream g row.is_open) (decimal_injective row.generation other.generation fit.2 fit'.2 generation.0)
    ∙ ap (λ (b : Bool). row_of other.id other.stream other.generation b) (same_opening row.is_open other.is_open generation.1)

-- the line without its end
abbrev channel_front : ChannelRow → List ℕ
channel_front row = put_behind (codes "channel ") (decimal row.id ∷ codes " " ∷ stream_text row.stream ∷ codes " " ∷ decimal row.generation ∷ [])

channel_front_whole : (row : ChannelRow) → has_byte 10 (channel_front row) ≡ false
channel_front_whole row =
    none_put
    10 (codes "channel ") (decimal row.id ∷ codes " " ∷ stream_text row.stream ∷ codes " " ∷ decimal row.generation ∷ []) refl
    (decimal_gap 1 row.id, (refl, (stream_gap 1 row.stream, (refl, (decimal_gap 1 row.generation, tt)))))

pub channel_whole : (row : ChannelRow) → IsOneLine (channel_report_line row)
channel_whole row = by row.is_open
  where
    by : (b : Bool) → IsOneLine (channel_front row ++ cond b (codes " open\n") (codes " waiting\n"))
    by true = record {
      content = channel_front row ++ codes " open";
      is = sym (append_assoc (channel_front row) (codes " open") (codes "\n"));
      whole = none_append 10 (channel_front row) (codes " open") (channel_front_whole row) refl;
    }
    by false = record {
      content = channel_front row ++ codes " waiting";
      is = sym (append_assoc (channel_front row) (codes " waiting") (codes "\n"));
      whole = none_append 10 (channel_front row) (codes " waiting") (channel_front_whole row) refl;
    }
