-- Streams that are found by their line and layer, and by their SSRC.
use Rattle.std.proofs.Common.{◌≡◌, ◌⊎◌, inl, inr, ℕ, ◌||◌, ◌&&◌, Bool, true, false, Option, Some, None}
use Rattle.std.proofs.Common.{List, [], ◌∷◌, refl, sym, ap, ◌∙◌, true≢false}
use Rattle.std.specs.List.{list_any}
use Rattle.std.proofs.lemmas.Bool.Decides.{Decides-eqb}
use Rattle.rtc_sdp_values.specs.declared.ssrc.Ssrc.{Ssrc}
use Rattle.rtc_parts.specs.MediaUpdates.{same_mid}
use Rattle.rtc_plain_media.specs.declared.plain_mark.PlainMark.{PlainMark}
use Rattle.rtc_plain_media.specs.declared.stream_row.StreamRow.{StreamRow}
use Rattle.rtc_plain_media.specs.Streams.{Streams, has_ssrc, has_name, same_rid, is_of_line, made_stream_row, put_row}
use Rattle.rtc_plain_media.specs.MediaContents.{MediaContents, has_streams_of}
use Rattle.rtc_plain_media.specs.UpdateLemmas.{is_same}
use Rattle.rtc_plain_media.specs.UsedLemmas.{or_left, or_right, or_case, any-put_own}

-- both of two tests
and_both : (a b : Bool) → a ≡ true → b ≡ true → a && b ≡ true
and_both a b h k = ap (λ (t : Bool). t && b) h ∙ k

and_first : (a b : Bool) → a && b ≡ true → a ≡ true
and_first true b h = refl
and_first false b h = absurd (true≢false (sym h))

-- layers are the same as themselves
rid_same : (rid : Option (List ℕ)) → same_rid rid rid ≡ true
rid_same None = refl
rid_same (Some a) = is_same a a refl

own_name : (row : StreamRow) → has_name row.mid row.rid row ≡ true
own_name row = and_both (same_mid row.mid row.mid) (same_rid row.rid row.rid) (is_same row.mid row.mid refl) (rid_same row.rid)

-- a stream of a layer is one of its line
pub layer_of_line : (mid : List ℕ) (rid : Option (List ℕ)) (rows : Streams) → list_any (has_name mid rid) rows ≡ true
    → list_any (is_of_line mid) rows ≡ true
layer_of_line mid rid [] h = h
layer_of_line mid rid (x ∷ xs) h = by (or_case (has_name mid rid x) (list_any (has_name mid rid) xs) h) (layer_of_line mid rid xs)
  where
    by : (has_name mid rid x ≡ true) ⊎ (list_any (has_name mid rid) xs ≡ true)
        → (list_any (has_name mid rid) xs ≡ true → list_any (is_of_line mid) xs ≡ true) → list_any (is_of_line mid) (x ∷ xs) ≡ true
    by (inl a) more = or_left (is_of_line mid x) (list_any (is_of_line mid) xs) (and_first (same_mid x.mid mid) (same_rid x.rid rid) a)
    by (inr a) more = or_right (is_of_line mid x) (list_any (is_of_line mid) xs) (more a)

pub some_streams : (p : MediaContents) (mid : List ℕ) → (list_any (is_of_line mid) p.rx ≡ true) ⊎ (list_any (is_of_line mid) p.tx ≡ true)
    → has_streams_of p mid ≡ true
some_streams p mid (inl h) = or_left (list_any (is_of_line mid) p.rx) (list_any (is_of_line mid) p.tx) h
some_streams p mid (inr h) = or_right (list_any (is_of_line mid) p.rx) (list_any (is_of_line mid) p.tx) h

-- a stream of a line is one of some layer of it
layer_there : (mid : List ℕ) (rows : Streams) → list_any (is_of_line mid) rows ≡ true
    → (rid : Option (List ℕ)) × (list_any (has_name mid rid) rows ≡ true)
layer_there mid [] h = absurd (true≢false (sym h))
layer_there mid (x ∷ xs) h = by (or_case (is_of_line mid x) (list_any (is_of_line mid) xs) h) (layer_there mid xs)
  where
    by : (is_of_line mid x ≡ true) ⊎ (list_any (is_of_line mid) xs ≡ true)
        → (list_any (is_of_line mid) xs ≡ true → (rid : Option (List ℕ)) × (list_any (has_name mid rid) xs ≡ true))
        → (rid : Option (List ℕ)) × (list_any (has_name mid rid) (x ∷ xs) ≡ true)
    by (inl a) more = (
      x.rid,
      or_left (has_name mid x.rid x) (list_any (has_name mid x.rid) xs)
          (and_both (same_mid x.mid mid) (same_rid x.rid x.rid) a (rid_same x.rid)),
    )
    by (inr a) more =
        let there = more a in (there.0, or_right (has_name mid there.0 x) (list_any (has_name mid there.0) xs) there.1)

pub found_layer : (rx tx : Streams) (mid : List ℕ) → list_any (is_of_line mid) rx || list_any (is_of_line mid) tx ≡ true
    → (rid : Option (List ℕ)) × ((list_any (has_name mid rid) rx ≡ true) ⊎ (list_any (has_name mid rid) tx ≡ true))
found_layer rx tx mid h = by (or_case (list_any (is_of_line mid) rx) (list_any (is_of_line mid) tx) h)
  where
    by : (list_any (is_of_line mid) rx ≡ true) ⊎ (list_any (is_of_line mid) tx ≡ true)
        → (rid : Option (List ℕ)) × ((list_any (has_name mid rid) rx ≡ true) ⊎ (list_any (has_name mid rid) tx ≡ true))
    by (inl a) = let there = layer_there mid rx a in (there.0, inl there.1)
    by (inr a) = let there = layer_there mid tx a in (there.0, inr there.1)

-- if a stream has an SSRC, the first one is found by its line and layer
pub named_stream : (ssrc : Ssrc) (rows : Streams) → list_any (has_ssrc ssrc) rows ≡ true
    → (mid : List ℕ) × ((rid : Option (List ℕ)) × (list_any (has_name mid rid) rows ≡ true))
named_stream ssrc [] h = absurd (true≢false (sym h))
named_stream ssrc (x ∷ xs) h =
    (x.mid, (x.rid, or_left (has_name x.mid x.rid x) (list_any (has_name x.mid x.rid) xs) (own_name x)))

-- a stream is found by its SSRC, and by its line and layer
abbrev pub Finds : Streams → Ssrc → List ℕ → Option (List ℕ) → Type 0
Finds rows ssrc mid rid = (list_any (has_ssrc ssrc) rows ≡ true) × (list_any (has_name mid rid) rows ≡ true)

pub finds_made : (ssrc : Ssrc) (rtx : Option Ssrc) (mid : List ℕ) (rid : Option (List ℕ)) (mark : PlainMark) (rows : Streams)
    → Finds (put_row (record (made_stream_row ssrc rtx mid rid) { mark = mark }) rows) ssrc mid rid
finds_made ssrc rtx mid rid mark rows =
    let row : StreamRow = record (made_stream_row ssrc rtx mid rid) { mark = mark } in (
      any-put_own (has_ssrc ssrc) row rows ((Decides-eqb ssrc.0 ssrc.0).1 refl),
      any-put_own (has_name mid rid) row rows (own_name row),
    )
