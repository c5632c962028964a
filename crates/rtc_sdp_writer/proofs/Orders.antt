-- Lines in order, and loops that write them.
use Rattle.std.proofs.Common.{◌≡◌, ℕ, ◌+◌, ◌<◌, Bool, true, false, List, [], ◌∷◌, ◌++◌, length, get_or, take, drop, map, Option, refl, sym, ap, ◌∙◌, append_assoc, add-one, drop-cons}
use Rattle.std.specs.Prelude.{codes}
use Rattle.std.specs.Fmt.{decimal}
use Rattle.std.proofs.lemmas.List.{map-append, append-nil, take_more}
use Rattle.rtc_wire_text.specs.Lines.{text_of, crlf}
use Rattle.rtc_wire_text.specs.Words.{spaced}
use Rattle.rtc_sdp_values.specs.declared.payload_row.PayloadRow.{PayloadRow}
use Rattle.rtc_sdp_values.specs.declared.ssrc.Ssrc.{Ssrc}
use Rattle.rtc_sdp_values.specs.declared.simulcast.Simulcast.{Simulcast}
use Rattle.rtc_sdp_attributes.specs.declared.rid_direction.RidDirection.TheVariants.{Send, Recv}
use Rattle.rtc_sdp_reader.specs.PlainLayers.{rid_line, rid_lines}
use Rattle.rtc_sdp_reader.specs.PlainPayloads.{formats_of, row_formats}
use Rattle.rtc_sdp_reader.specs.PlainSources.{source_pair, source_pairs}
use Rattle.rtc_sdp_writer.specs.MediaRows.{shown_stream}
use Rattle.rtc_wire_text.proofs.LineLemmas.{text_of-append}
use Rattle.rtc_sdp_values.specs.declared.media_line.MediaLine.{MediaLine}
use Rattle.rtc_sdp_values.specs.declared.sdp.Sdp.{Sdp}
use Rattle.rtc_sdp_grammar.specs.LineTexts.{origin_line, group_line}
use Rattle.rtc_sdp_grammar.specs.MediaTexts.{semantic_line, layer_line, source_pair_line}
use Rattle.rtc_sdp_writer.specs.Rows.{in_order}
use Rattle.rtc_sdp_writer.specs.SessionRows.{enabled_mids, new_name, names_behind, stream_names, lite_lines, session_groups, session_rows}

pub in_order-append : (xs ys : List (List (List ℕ))) → in_order (xs ++ ys) ≡ in_order xs ++ in_order ys
in_order-append [] ys = refl
in_order-append (x ∷ xs) ys = ap (λ (l : List (List ℕ)). x ++ l) (in_order-append xs ys) ∙ sym (append_assoc x (in_order xs) (in_order ys))

-- a loop writes the part of one more element
pub more_put : {A : Type 0} (all : List A → List ℕ) (part : A → List ℕ) → ((x : A) (xs : List A) → all (x ∷ xs) ≡ part x ++ all xs) → (out new total : List ℕ) (xs : List A) (i : ℕ) (d x : A) → i < length xs → x ≡ get_or xs i d
    → new ≡ out ++ part x → out ++ all (drop i xs) ≡ total → new ++ all (drop (i + 1) xs) ≡ total
more_put {A = A} all part parts out new total xs i d x lt is e h =
    let rest : List A = drop (i + 1) xs in
    let cons : drop i xs ≡ x ∷ rest = rw add-one (drop-cons xs i d lt) ∙ ap (λ (y : A). y ∷ rest) (sym is) in
    let step : new ++ all rest ≡ out ++ all (x ∷ rest) = ap (λ (t : List ℕ). t ++ all rest) e ∙ append_assoc out (part x) (all rest) ∙ ap (λ (t : List ℕ). out ++ t) (sym (parts x rest)) in
    step ∙ ap (λ (l : List A). out ++ all l) (sym cons) ∙ h

pub spaced-append : (xs ys : List (List ℕ)) → spaced (xs ++ ys) ≡ spaced xs ++ spaced ys
spaced-append [] ys = refl
spaced-append (x ∷ xs) ys = ap (λ (t : List ℕ). 32 ∷ (x ++ t)) (spaced-append xs ys) ∙ ap (λ (t : List ℕ). 32 ∷ t) (sym (append_assoc x (spaced xs) (spaced ys)))

-- the numbers of one more payload row
pub numbers_behind : (row : PayloadRow) (rest : List PayloadRow) → spaced (map decimal (formats_of (row ∷ rest))) ≡ spaced (map decimal (row_formats row)) ++ spaced (map decimal (formats_of rest))
numbers_behind row rest = ap spaced (map-append decimal (row_formats row) (formats_of rest)) ∙ spaced-append (map decimal (row_formats row)) (map decimal (formats_of rest))

-- the lines of the pair of one more source
pub pairs_behind : (source : Ssrc × Option Ssrc) (rest : List (Ssrc × Option Ssrc)) →
    text_of (map source_pair_line (source_pairs (source ∷ rest))) ≡ text_of (map source_pair_line (source_pair source.0 source.1)) ++ text_of (map source_pair_line (source_pairs rest))
pairs_behind source rest =
    ap text_of (map-append source_pair_line (source_pair source.0 source.1) (source_pairs rest)) ∙ text_of-append (map source_pair_line (source_pair source.0 source.1)) (map source_pair_line (source_pairs rest))

-- the lines of layers, those that are received first
pub layers_written : (out : List ℕ) (simulcast : Simulcast) →
    (out ++ text_of (map layer_line (map (rid_line Recv) simulcast.recv))) ++ text_of (map layer_line (map (rid_line Send) simulcast.send)) ≡ out ++ text_of (map layer_line (rid_lines simulcast))
layers_written out simulcast =
    append_assoc out (text_of (map layer_line (map (rid_line Recv) simulcast.recv))) (text_of (map layer_line (map (rid_line Send) simulcast.send)))
    ∙ ap (λ (t : List ℕ). out ++ t)
    (sym (text_of-append (map layer_line (map (rid_line Recv) simulcast.recv)) (map layer_line (map (rid_line Send) simulcast.send)))
    ∙ ap text_of (sym (map-append layer_line (map (rid_line Recv) simulcast.recv) (map (rid_line Send) simulcast.send))))

-- the lines of every line part, one after the other
pub transport_written : (out address trickle mid : List ℕ) (candidates ufrag pass fingerprint setup : List (List ℕ)) →
    ((((((out ++ crlf address) ++ text_of candidates) ++ text_of (ufrag ++ pass)) ++ crlf trickle) ++ text_of fingerprint) ++ text_of setup) ++ crlf mid ≡ out ++ text_of (address ∷ (candidates ++ (ufrag ++ (pass ++ (trickle ∷ (fingerprint ++ (setup ++ (mid ∷ []))))))))
transport_written out address trickle mid candidates ufrag pass fingerprint setup = simp (text_of-append, append_assoc)

-- those of data channels
pub channel_written : (out port : List ℕ) (size chunk : List (List ℕ)) → ((out ++ crlf port) ++ text_of size) ++ text_of chunk ≡ out ++ text_of (port ∷ (size ++ (chunk ++ [])))
channel_written out port size chunk = simp (text_of-append, append_assoc, append-nil)

-- the name of one more line
pub name_put : (out new total : List ℕ) (lines : List MediaLine) (i : ℕ) (line : MediaLine) → i < length lines → line ≡ get_or lines i line → new ≡ out ++ spaced (new_name (take i lines) (shown_stream line))
    → out ++ spaced (names_behind (take i lines) (drop i lines)) ≡ total → new ++ spaced (names_behind (take (i + 1) lines) (drop (i + 1) lines)) ≡ total
name_put out new total lines i line lt is e h =
    let rest : List MediaLine = drop (i + 1) lines in
    let front : List MediaLine = take i lines in
    let cons : drop i lines ≡ line ∷ rest = rw add-one (drop-cons lines i line lt) ∙ ap (λ (y : MediaLine). y ∷ rest) (sym is) in
    let more : take (i + 1) lines ≡ front ++ line ∷ [] = take_more lines i line lt ∙ ap (λ (y : MediaLine). front ++ y ∷ []) (sym is) in
    let behind : List (List ℕ) = names_behind (front ++ line ∷ []) rest in
    let own : List (List ℕ) = new_name front (shown_stream line) in
    ap (λ (l : List MediaLine). new ++ spaced (names_behind l rest)) more
    ∙ ap (λ (t : List ℕ). t ++ spaced behind) e
    ∙ append_assoc out (spaced own) (spaced behind)
    ∙ ap (λ (t : List ℕ). out ++ t) (sym (spaced-append own behind))
    ∙ ap (λ (l : List MediaLine). out ++ spaced (names_behind front l)) (sym cons)
    ∙ h

regroup : (out head o fixed g mixed semantic lite : List ℕ) →
    ((((((out ++ head) ++ (o ++ 13 ∷ 10 ∷ [])) ++ fixed) ++ (g ++ 13 ∷ 10 ∷ [])) ++ mixed) ++ (semantic ++ 13 ∷ 10 ∷ [])) ++ lite ≡ out ++ (head ++ ((o ++ 13 ∷ 10 ∷ []) ++ (fixed ++ ((g ++ 13 ∷ 10 ∷ []) ++ (mixed ++ ((semantic ++ 13 ∷ 10 ∷ []) ++ lite))))))
regroup out head o fixed g mixed semantic lite = simp append_assoc

lite_last : (lite : Bool) → text_of (lite_lines lite ++ []) ≡ text_of (lite_lines lite)
lite_last true = refl
lite_last false = refl

-- the parts of the session part that the writer puts are the session part
pub session_written : (out : List ℕ) (sdp : Sdp) →
    ((((((out ++ codes "v=0\r\n") ++ crlf (origin_line sdp.id)) ++ codes "s=-\r\nt=0 0\r\n") ++ crlf (group_line (enabled_mids sdp.lines))) ++ codes "a=extmap-allow-mixed\r\n") ++ crlf (semantic_line (stream_names sdp.lines))) ++ text_of (lite_lines sdp.ice_lite) ≡ out ++ text_of (session_rows sdp)
unfolding session_groups
session_written out sdp =
    regroup out (codes "v=0\r\n") (origin_line sdp.id) (codes "s=-\r\nt=0 0\r\n") (group_line (enabled_mids sdp.lines)) (codes "a=extmap-allow-mixed\r\n") (semantic_line (stream_names sdp.lines)) (text_of (lite_lines sdp.ice_lite))
    ∙ ap (λ (t : List ℕ). out ++ (codes "v=0\r\n" ++ (crlf (origin_line sdp.id) ++ (codes "s=-\r\nt=0 0\r\n" ++ (crlf (group_line (enabled_mids sdp.lines)) ++ (codes "a=extmap-allow-mixed\r\n" ++ (crlf (semantic_line (stream_names sdp.lines)) ++ t))))))) (sym (lite_last sdp.ice_lite))
