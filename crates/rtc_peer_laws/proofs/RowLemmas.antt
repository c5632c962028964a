-- The updates of rows, and what a media part makes of them.
use Rattle.std.proofs.Common.{
  ◌≡◌,
  ◌≤◌,
  ◌||◌,
  ℕ,
  zero,
  suc,
  Bool,
  true,
  false,
  cond,
  inl,
  inr,
  List,
  [],
  ◌∷◌,
  ◌++◌,
  length,
  take,
  Option,
  Some,
  refl,
  sym,
  ap,
  subst,
  ◌∙◌,
  true≢false,
  arith,
}
use Rattle.std.specs.Prelude.{option_map}
use Rattle.std.specs.List.{flat_map}
use Rattle.std.specs.Cmp.Lexicographic.{bytes_decides}
use Rattle.std.specs.Str.{bytes_eq}
use Rattle.rtc_sdp_values.specs.LineRow.{row_mid}
use Rattle.rtc_sdp_values.specs.declared.line_row.LineRow.{LineRow}
use Rattle.rtc_sdp_values.specs.declared.line_row.LineRow.TheVariants.{Media, App}
use Rattle.rtc_sdp_values.specs.declared.media_line.MediaLine.{MediaLine}
use Rattle.rtc_sdp_values.specs.declared.sdp.Sdp.{Sdp}
use Rattle.rtc_parts.specs.Among.{Member}
use Rattle.rtc_parts.specs.Draws.{Draws}
use Rattle.rtc_parts.specs.declared.media_update.MediaUpdate.{MediaUpdate}
use Rattle.rtc_parts.specs.MediaLaws.{MediaLaws}
use Rattle.rtc_parts.specs.MediaUpdates.{same_mid, update_mid, latest, line_after}
use Rattle.rtc_peer_rows.specs.Table.{IsTable, Distinct, has_mid, is_app}
use Rattle.rtc_peer_rows.proofs.DeclaredLemmas.{table_take}
use Rattle.rtc_peer_rows.specs.ParsedLines.{parsed_lines}
use Rattle.rtc_change.specs.declared.change.Change.{Change}
use Rattle.rtc_change.specs.TableAfter.{table_after}
use Rattle.rtc_peer_core.specs.declared.peer.Peer.{Peer}
use Rattle.rtc_peer_core.specs.declared.formats.Formats.{Formats}
use Rattle.rtc_peer_core.specs.declared.sending.Sending.{Sending}
use Rattle.rtc_peer_core.specs.Calls.{uses_source}
use Rattle.rtc_peer_core.specs.LineUpdates.{layered, row_updates, row_update, row_pairs, after_row, first_row, rows_behind}
use Rattle.rtc_peer_core.specs.Sources.{pair_numbers}
use Rattle.rtc_peer_core.specs.Meanings.{Meanings}
use Rattle.rtc_peer_core.specs.SdpMoves.{rows_of_sdp, sends_on, updates_for, answer_ids, UpdatesMedia}
use Rattle.rtc_peer_laws.specs.MediaRows.{update_row, HoldsRows, OffersLeaveRows, AnswersLeaveRows}

or_falses : (a b : Bool) → a || b ≡ false → (a ≡ false) × (b ≡ false)
or_falses true b none = absurd (true≢false none)
or_falses false b none = (refl, none)

-- mids that differ do so both ways
differ_back : (a b : List ℕ) → bytes_eq a b ≡ false → bytes_eq b a ≡ false
differ_back a b none = by (bytes_eq b a) refl
  where
    by : (t : Bool) → bytes_eq b a ≡ t → bytes_eq b a ≡ false
    by true is = absurd (true≢false (sym ((bytes_decides a b).1 (sym ((bytes_decides b a).0 is))) ∙ none))
    by false is = is

few_taken : {A : Type 0} (n : ℕ) (xs : List A) → length (take n xs) ≤ n
few_taken zero xs = omega arith
few_taken (suc n) [] = omega arith
few_taken (suc n) (x ∷ xs) = omega (arith, few_taken n xs)

-- an update of another mid, and one of this mid behind which none of this mid stands
passes_by : (mid : List ℕ) (u : MediaUpdate) (us : List MediaUpdate) (held : Option MediaUpdate) → same_mid mid (update_mid u) ≡ false
    → latest mid us held ≡ held → latest mid (u ∷ us) held ≡ held
passes_by mid u us held other rest = ap (λ (t : Bool). latest mid us (cond t (Some u) held)) other ∙ rest

stands_last : (mid : List ℕ) (u : MediaUpdate) (us : List MediaUpdate) (held : Option MediaUpdate) → same_mid mid (update_mid u) ≡ true
    → latest mid us (Some u) ≡ Some u → latest mid (u ∷ us) held ≡ Some u
stands_last mid u us held is rest = ap (λ (t : Bool). latest mid us (cond t (Some u) held)) is ∙ rest

module _ {N : Type 0} (draws : Draws N) (used : ℕ → Bool) (sends : List ℕ → Sending) (formats : Formats) (offer : Bool) where
  -- the update of a row, and what is drawn and told behind it
  abbrev update_at : List LineRow → LineRow → MediaLine → List ℕ → N → MediaUpdate
  update_at before row line earlier ids =
      row_update formats offer (first_row before) row line (layered line (sends (row_mid row)))
      (row_pairs draws used (layered line (sends (row_mid row))) earlier row ids)

  abbrev earlier_behind : LineRow → MediaLine → List ℕ → N → List ℕ
  earlier_behind row line earlier ids =
      earlier ++ flat_map pair_numbers (row_pairs draws used (layered line (sends (row_mid row))) earlier row ids)

  abbrev ids_behind : LineRow → MediaLine → N → N
  ids_behind row line ids = after_row draws used (layered line (sends (row_mid row))) row ids

  abbrev updates_behind : List LineRow → LineRow → List LineRow → MediaLine → List MediaLine → List ℕ → N → List MediaUpdate
  updates_behind before row rows line lines earlier ids =
      row_updates draws used sends formats offer (rows_behind before) rows lines (earlier_behind row line earlier ids) (ids_behind row line ids)

  -- the updates of rows without a mid leave its line
  lacks : (mid : List ℕ) (before rows : List LineRow) (lines : List MediaLine) (earlier : List ℕ) (ids : N) (held : Option MediaUpdate)
      → has_mid mid rows ≡ false → latest mid (row_updates draws used sends formats offer before rows lines earlier ids) held ≡ held
  lacks mid before [] lines earlier ids held none = refl
  lacks mid before (row ∷ rows) [] earlier ids held none = refl
  lacks mid before (App place other ∷ rows) (line ∷ lines) earlier ids held none =
      lacks mid (rows_behind before) rows lines (earlier_behind (App place other) line earlier ids) (ids_behind (App place other) line ids) held
      (or_falses (bytes_eq other mid) (has_mid mid rows) none).1
  lacks mid before (Media place other kind dir stopped remote_created ∷ rows) (line ∷ lines) earlier ids held none =
      let row : LineRow = Media place other kind dir stopped remote_created in
      let both = or_falses (bytes_eq other mid) (has_mid mid rows) none in
      passes_by mid (update_at before row line earlier ids) (updates_behind before row rows line lines earlier ids) held
      (differ_back other mid both.0)
      (lacks mid (rows_behind before) rows lines (earlier_behind row line earlier ids) (ids_behind row line ids) held both.1)

  -- those of a table leave each media row at the line of its mid
  finds : (row : LineRow) (before rows : List LineRow) (lines : List MediaLine) (earlier : List ℕ) (ids : N) (held : Option MediaUpdate)
      → Distinct rows → Member row rows → is_app row ≡ false → length rows ≤ length lines
      → option_map update_row (latest (row_mid row) (row_updates draws used sends formats offer before rows lines earlier ids) held) ≡ Some row
  finds row before [] lines earlier ids held distinct among media short = absurd among
  finds row before (x ∷ rows) [] earlier ids held distinct among media short = absurd (omega (arith, short))
  finds row before (App place other ∷ rows) (line ∷ lines) earlier ids held distinct (inl same) media short =
      absurd (true≢false (sym (ap is_app same) ∙ media))
  finds row before (App place other ∷ rows) (line ∷ lines) earlier ids held distinct (inr rest) media short =
      finds row (rows_behind before) rows lines (earlier_behind (App place other) line earlier ids) (ids_behind (App place other) line ids) held
      distinct.1 rest media (omega (arith, short))
  finds row before (Media place other kind dir stopped remote_created ∷ rows) (line ∷ lines) earlier ids held distinct (inl same) media short =
      let x : LineRow = Media place other kind dir stopped remote_created in
      let u = update_at before x line earlier ids in
      let us = updates_behind before x rows line lines earlier ids in
      subst (λ (r : LineRow). option_map update_row (latest (row_mid r) (u ∷ us) held) ≡ Some r) (sym same)
      (ap (λ (o : Option MediaUpdate). option_map update_row o)
      (stands_last other u us held ((bytes_decides other other).1 refl)
      (lacks other (rows_behind before) rows lines (earlier_behind x line earlier ids) (ids_behind x line ids) (Some u) distinct.0)))
  finds row before (Media place other kind dir stopped remote_created ∷ rows) (line ∷ lines) earlier ids held distinct (inr rest) media short =
      let x : LineRow = Media place other kind dir stopped remote_created in
      finds row (rows_behind before) rows lines (earlier_behind x line earlier ids) (ids_behind x line ids)
      (cond (same_mid (row_mid row) other) (Some (update_at before x line earlier ids)) held) distinct.1 rest media (omega (arith, short))

module _ {I D S M E X T W N : Type 0} (m : Meanings I D S M E X T W N) (laws : MediaLaws m.media) where
  line_left : (part q : M) (updates : List MediaUpdate) (mid : List ℕ) (w : UpdatesMedia m part updates q) → m.media.line q mid
      ≡ line_after updates mid (m.media.line w.prepared mid)
  line_left part q updates mid w =
      laws.commit_lines w.prepared q mid w.by_commit
      ∙ ap (λ (us : List MediaUpdate). line_after us mid (m.media.line w.prepared mid)) (laws.prepare_pending part w.prepared updates w.by_prepare)

  leaves_rows : (p q : Peer I D S M N) (offer : Bool) (changes : List Change) (sdp : Sdp) (ids : N) → IsTable q.lines
      → q.lines ≡ table_after p.lines (parsed_lines sdp) offer → UpdatesMedia m p.media (updates_for m p offer changes sdp ids) q.media
      → HoldsRows m.media q.media (take (length sdp.lines) q.lines)
  leaves_rows p q offer changes sdp ids table lines w = λ row among media.
      let same : take (length sdp.lines) q.lines ≡ rows_of_sdp m p offer sdp = ap (take (length sdp.lines)) lines in
      ap (option_map update_row) (line_left p.media q.media (updates_for m p offer changes sdp ids) (row_mid row) w)
      ∙ finds m.ids (uses_source m p) (sends_on m p changes) p.formats offer row p.lines (rows_of_sdp m p offer sdp) sdp.lines [] ids _
      (subst Distinct same (table_take (length sdp.lines) q.lines table).distinct)
      (subst (Member row) same among) media (few_taken (length sdp.lines) (table_after p.lines (parsed_lines sdp) offer))

  pub offers_leave_rows : OffersLeaveRows m
  offers_leave_rows p q offer answer table accepted =
      leaves_rows p q true [] offer (answer_ids m p offer) table (ap (λ (x : Peer I D S M N). x.lines) accepted.rest) accepted.media_updated

  pub answers_leave_rows : AnswersLeaveRows m
  answers_leave_rows p q token answer table accepted =
      leaves_rows p q false token.changes answer p.ids table (ap (λ (x : Peer I D S M N). x.lines) accepted.rest) accepted.media_updated
