-- Sources that were unused when they were drawn stand once in the line that they were drawn for.
use Rattle.std.proofs.Common.{◌≡◌, ◌+◌, eqb, ℕ, Bool, true, false, cond, List, [], ◌∷◌, ◌++◌, length, Option, Some, None, refl, sym, subst, append_assoc, append-nil, arith}
use Rattle.std.specs.Prelude.{◌==◌, IfSome}
use Rattle.std.specs.List.{AllByRecursion}
use Rattle.std.specs.Str.{bytes_eq}
use Rattle.std.proofs.lemmas.Bool.{or_parts}
use Rattle.std.proofs.lemmas.Bool.Decides.{nat_tests}
use Rattle.rtc_wire_text.specs.Once.{IsApart}
use Rattle.rtc_wire_text.proofs.TokenLemmas.{both}
use Rattle.rtc_sdp_values.specs.Direction.{does_send}
use Rattle.rtc_sdp_values.specs.LineRow.{row_mid}
use Rattle.rtc_sdp_values.specs.declared.line_row.LineRow.{LineRow}
use Rattle.rtc_sdp_values.specs.declared.line_row.LineRow.TheVariants.{Media, App}
use Rattle.rtc_sdp_values.specs.declared.media_kind.MediaKind.{MediaKind}
use Rattle.rtc_sdp_values.specs.declared.media_line.MediaLine.{MediaLine}
use Rattle.rtc_sdp_values.specs.declared.sdp.Sdp.{Sdp}
use Rattle.rtc_sdp_codecs.proofs.AllLemmas.{AreOthers, all_left, all_right, others_none, others_joined}
use Rattle.rtc_parts.specs.Draws.{Draws}
use Rattle.rtc_parts.specs.declared.media_update.MediaUpdate.{MediaUpdate}
use Rattle.rtc_parts.specs.MediaUpdates.{same_mid, update_mid, latest, removed_by, line_after}
use Rattle.rtc_change.specs.declared.add_media.AddMedia.{AddMedia as AddedMedia}
use Rattle.rtc_change.specs.declared.change.Change.{Change}
use Rattle.rtc_change.specs.declared.change.Change.TheVariants.{AddMedia, AddApp, AddChannel, Direction as SetDirection, IceRestart}
use Rattle.rtc_peer_core.specs.declared.formats.Formats.{Formats}
use Rattle.rtc_peer_core.specs.declared.line_media.LineMedia.{LineMedia}
use Rattle.rtc_peer_core.specs.declared.peer.Peer.{Peer}
use Rattle.rtc_peer_core.specs.declared.sending.Sending.{Sending}
use Rattle.rtc_peer_core.specs.declared.told_row.ToldRow.{ToldRow}
use Rattle.rtc_peer_core.specs.Calls.{uses_source}
use Rattle.rtc_peer_core.specs.DrawnSources.{AreDrawnUnused, drawn_numbers, AreStagedUnused, row_draws, numbers_for}
use Rattle.rtc_peer_core.specs.LineUpdates.{
  media_of_change,
  added_media,
  sending_of,
  layered,
  has_none,
  wants_sources,
  row_kind,
  first_row,
  rows_behind,
  row_update,
  if_media,
  row_pairs,
  after_row,
  row_updates,
}
use Rattle.rtc_peer_core.specs.MadeSdp.{media_of_declared, media_held, media_told, newest, updates_behind, told_rows, added_told, held_told, offered_formats, offered_told, answered_told}
use Rattle.rtc_peer_core.specs.Meanings.{Meanings}
use Rattle.rtc_peer_core.specs.SdpMoves.{rows_of_sdp, sends_on, updates_for}
use Rattle.rtc_peer_core.specs.Sources.{Pair, pair_count, next_pairs, is_number}
use Rattle.rtc_peer_core.specs.Stance.{Stance}
use Rattle.rtc_peer_core.proofs.Alls.{all-append}

-- ---- numbers that are drawn in one call

differs : (x n : ℕ) → (x == n) ≡ false → eqb n x ≡ false
differs x n h = grind (arith, nat_tests)

not_among : (n : ℕ) (xs : List ℕ) → is_number n xs ≡ false → AreOthers xs (n ∷ [])
not_among n [] h = tt
not_among n (x ∷ xs) h = let parts = or_parts (x == n) (is_number n xs) h in ((differs x n parts.0, tt), not_among n xs parts.1)

-- each differs from those drawn earlier, and from each other
pub unused_apart : (used : ℕ → Bool) (earlier numbers : List ℕ) → AreDrawnUnused used earlier numbers → AreOthers earlier numbers × IsApart eqb numbers
unused_apart used earlier [] h = (others_none earlier, tt)
unused_apart used earlier (n ∷ numbers) h =
    let rest = unused_apart used (earlier ++ n ∷ []) numbers h.1 in
    let differ : ℕ → Type 0 = λ (x : ℕ). AllByRecursion (λ y. eqb y x ≡ false) numbers in
    let parts = or_parts (used n) (is_number n earlier) h.0 in (
      others_joined earlier (n ∷ []) numbers (not_among n earlier parts.1) (all_left differ earlier (n ∷ []) rest.0),
      ((all_right differ earlier (n ∷ []) rest.0).0, rest.1),
    )

-- those that are drawn first, and those behind them
pub unused_parts : (used : ℕ → Bool) (earlier xs ys : List ℕ) → AreDrawnUnused used earlier (xs ++ ys)
    → AreDrawnUnused used earlier xs × AreDrawnUnused used (earlier ++ xs) ys
unused_parts used earlier [] ys h = (tt, subst (λ (before : List ℕ). AreDrawnUnused used before ys) (sym (append-nil earlier)) h)
unused_parts used earlier (x ∷ xs) ys h =
    let rest = unused_parts used (earlier ++ x ∷ []) xs ys h.1 in
    ((h.0, rest.0), subst (λ (before : List ℕ). AreDrawnUnused used before ys) (append_assoc earlier (x ∷ []) xs) rest.1)

-- ---- sources of lines

-- no number of these sources stands twice
abbrev pub AreSingle : List Pair → Type 0
AreSingle pairs = IsApart eqb (drawn_numbers pairs)

abbrev pub IsSingleUpdate : MediaUpdate → Type 0
IsSingleUpdate update = AreSingle update.ssrcs_tx

abbrev pub IsSingleTold : ToldRow → Type 0
IsSingleTold told = AreSingle told.media.ssrcs

-- of each line that changes add
abbrev pub AreStagedSingle : List Change → Type 0
AreStagedSingle changes = AllByRecursion (λ change. IfSome (media_of_change change) (λ media. AreSingle media.ssrcs)) changes

-- of each line that a media part has
abbrev pub AreLinesSingle : (List ℕ → Option MediaUpdate) → Type 0
AreLinesSingle line = (mid : List ℕ) → IfSome (line mid) IsSingleUpdate

-- those that were staged
pub staged_single : (used : ℕ → Bool) (changes : List Change) → AreStagedUnused used changes → AreStagedSingle changes
staged_single used [] h = tt
staged_single used (AddMedia media ∷ changes) h = ((unused_apart used [] (drawn_numbers media.ssrcs) h.0).1, staged_single used changes h.1)
staged_single used (AddApp mid ∷ changes) h = (tt, staged_single used changes h.1)
staged_single used (AddChannel id config ∷ changes) h = (tt, staged_single used changes h.1)
staged_single used (SetDirection mid dir ∷ changes) h = (tt, staged_single used changes h.1)
staged_single used (IceRestart creds keeps ∷ changes) h = (tt, staged_single used changes h.1)

added_single : (changes : List Change) (mid : List ℕ) → AreStagedSingle changes → IfSome (added_media changes mid) (λ media. AreSingle media.ssrcs)
added_single [] mid single = tt
added_single (AddMedia media ∷ changes) mid single = by (bytes_eq media.mid mid) refl (added_single changes mid single.1)
  where
    by : (b : Bool) → bytes_eq media.mid mid ≡ b → IfSome (added_media changes mid) (λ one. AreSingle one.ssrcs)
        → IfSome (added_media (AddMedia media ∷ changes) mid) (λ one. AreSingle one.ssrcs)
    by true is rest = rw is single.0
    by false is rest = rw is rest
added_single (AddApp other ∷ changes) mid single = added_single changes mid single.1
added_single (AddChannel id config ∷ changes) mid single = added_single changes mid single.1
added_single (SetDirection other dir ∷ changes) mid single = added_single changes mid single.1
added_single (IceRestart creds keeps ∷ changes) mid single = added_single changes mid single.1

sending_single : (held : Option MediaUpdate) (added : Option AddedMedia) (mid : List ℕ) → IfSome held IsSingleUpdate
    → IfSome added (λ media. AreSingle media.ssrcs) → AreSingle (sending_of held added mid).ssrcs
sending_single (Some update) added mid held staged = held
sending_single None (Some media) mid held staged = staged
sending_single None None mid held staged = tt

-- ---- sources are drawn for a line that has none

none_there : (pairs : List Pair) → has_none pairs ≡ true → pairs ≡ []
none_there [] h = refl
none_there (pair ∷ pairs) h = absurd (let bad : false ≡ true = h in cc)

bare_where_wanted : (row : LineRow) (sending : Sending) → wants_sources row sending ≡ true → sending.ssrcs ≡ []
bare_where_wanted (Media place mid kind dir stopped remote_created) sending h =
    none_there sending.ssrcs (both (does_send dir) (has_none sending.ssrcs) h).1
bare_where_wanted (App place mid) sending h = absurd (let bad : false ≡ true = h in cc)

if_media_single : (row : LineRow) (update : MediaUpdate) → IsSingleUpdate update → AllByRecursion IsSingleUpdate (if_media row update)
if_media_single (Media place mid kind dir stopped remote_created) update single = (single, tt)
if_media_single (App place mid) update single = tt

module _ {N : Type 0} (draws : Draws N) (used : ℕ → Bool) where
  grown_single : (sending : Sending) (earlier : List ℕ) (row : LineRow) (ids : N) → AreSingle sending.ssrcs
      → AreDrawnUnused used earlier (drawn_numbers (row_pairs draws used sending earlier row ids))
      → AreSingle (sending.ssrcs ++ row_pairs draws used sending earlier row ids)
  grown_single sending earlier row ids own unused = by (wants_sources row sending) (bare_where_wanted row sending) unused
    where
      by : (wants : Bool) → (wants ≡ true → sending.ssrcs ≡ [])
          → AreDrawnUnused used earlier (drawn_numbers (elim wants [
            | true ↦ next_pairs draws used (row_kind row) earlier (pair_count sending.simulcast) ids
            | false ↦ []
          ]))
          → AreSingle (sending.ssrcs ++ elim wants [
            | true ↦ next_pairs draws used (row_kind row) earlier (pair_count sending.simulcast) ids
            | false ↦ []
          ])
      by true bare new =
          let drawn : List Pair = next_pairs draws used (row_kind row) earlier (pair_count sending.simulcast) ids in
          subst (λ (held : List Pair). AreSingle (held ++ drawn)) (sym (bare refl)) (unused_apart used earlier (drawn_numbers drawn) new).1
      by false bare new = subst AreSingle (sym (append-nil sending.ssrcs)) own

  updates_single : (sends : List ℕ → Sending) (formats : Formats) (offer : Bool) (before rows : List LineRow) (lines : List MediaLine)
      (earlier : List ℕ) (ids : N) → ((mid : List ℕ) → AreSingle (sends mid).ssrcs)
      → AreDrawnUnused used earlier (row_draws draws used sends rows lines earlier ids)
      → AllByRecursion IsSingleUpdate (row_updates draws used sends formats offer before rows lines earlier ids)
  updates_single sends formats offer before [] lines earlier ids sent unused = tt
  updates_single sends formats offer before (row ∷ rows) [] earlier ids sent unused = tt
  updates_single sends formats offer before (row ∷ rows) (line ∷ lines) earlier ids sent unused =
      let sending : Sending = layered line (sends (row_mid row)) in
      let pairs : List Pair = row_pairs draws used sending earlier row ids in
      let parts = unused_parts used earlier (drawn_numbers pairs) _ unused in
      all-append IsSingleUpdate (if_media row (row_update formats offer (first_row before) row line sending pairs)) _
      (if_media_single row (row_update formats offer (first_row before) row line sending pairs)
      (grown_single sending earlier row ids (sent (row_mid row)) parts.0))
      (updates_single sends formats offer (rows_behind before) rows lines (earlier ++ drawn_numbers pairs)
      (after_row draws used sending row ids) sent parts.1)

-- What the media part is told of a description repeats no source of a line, where each that was drawn was unused.
pub told_updates_single : {I D S M E X T W N : Type 0} (m : Meanings I D S M E X T W N) (p : Peer I D S M N) (offer : Bool)
    (changes : List Change) (sdp : Sdp) (ids : N) → AreLinesSingle (m.media.line p.media) → AreStagedSingle changes
    → AreDrawnUnused (uses_source m p) [] (numbers_for m p offer changes sdp ids)
    → AllByRecursion IsSingleUpdate (updates_for m p offer changes sdp ids)
told_updates_single m p offer changes sdp ids held staged unused =
    updates_single m.ids (uses_source m p) (sends_on m p changes) p.formats offer p.lines (rows_of_sdp m p offer sdp) sdp.lines [] ids
    (λ mid. sending_single (m.media.line p.media mid) (added_media changes mid) mid (held mid) (added_single changes mid staged))
    unused

-- ---- what the media part then has

latest_single : (mid : List ℕ) (updates : List MediaUpdate) (held : Option MediaUpdate) → AllByRecursion IsSingleUpdate updates
    → IfSome held IsSingleUpdate → IfSome (latest mid updates held) IsSingleUpdate
latest_single mid [] held all single = single
latest_single mid (update ∷ updates) held all single =
    latest_single mid updates (cond (same_mid mid (update_mid update)) (Some update) held) all.1 (by (same_mid mid (update_mid update)))
  where
    by : (b : Bool) → IfSome (cond b (Some update) held) IsSingleUpdate
    by true = all.0
    by false = single

pub line_after_single : (updates : List MediaUpdate) (mid : List ℕ) (before : Option MediaUpdate) → AllByRecursion IsSingleUpdate updates
    → IfSome before IsSingleUpdate → IfSome (line_after updates mid before) IsSingleUpdate
line_after_single updates mid before all single = latest_single mid updates _ all (by (removed_by updates mid))
  where
    by : (b : Bool) → IfSome (cond b None before) IsSingleUpdate
    by true = tt
    by false = single

-- ---- rows as they are told

declared_single : (formats : Formats) (stopped : Bool) (kind : MediaKind) (mid : List ℕ)
    → AreSingle (media_of_declared formats stopped kind mid).ssrcs
declared_single formats true kind mid = tt
declared_single formats false kind mid = tt

newest_single : (declared : LineMedia) (updates : List MediaUpdate) (held : Option MediaUpdate) → AreSingle declared.ssrcs
    → AllByRecursion IsSingleUpdate updates → IfSome held IsSingleUpdate → AreSingle (media_held declared (newest updates held)).ssrcs
newest_single declared [] None own all single = own
newest_single declared [] (Some update) own all single = single
newest_single declared (update ∷ updates) held own all single = all.0

media_told_single : (formats : Formats) (line : List ℕ → Option MediaUpdate) (updates : List MediaUpdate) (row : LineRow)
    → AreLinesSingle line → AllByRecursion IsSingleUpdate updates → AreSingle (media_told formats line updates row).ssrcs
media_told_single formats line updates (Media place mid kind dir stopped remote_created) held all =
    newest_single (media_of_declared formats stopped kind mid) updates (line mid) (declared_single formats stopped kind mid) all (held mid)
media_told_single formats line updates (App place mid) held all = tt

behind_single : (row : LineRow) (updates : List MediaUpdate) → AllByRecursion IsSingleUpdate updates
    → AllByRecursion IsSingleUpdate (updates_behind row updates)
behind_single (Media place mid kind dir stopped remote_created) [] all = tt
behind_single (Media place mid kind dir stopped remote_created) (update ∷ updates) all = all.1
behind_single (App place mid) updates all = all

told_single : (formats : Formats) (line : List ℕ → Option MediaUpdate) (updates : List MediaUpdate) (rows : List LineRow)
    → AreLinesSingle line → AllByRecursion IsSingleUpdate updates → AllByRecursion IsSingleTold (told_rows formats line updates rows)
told_single formats line updates [] held all = tt
told_single formats line updates (row ∷ rows) held all = (
  media_told_single formats line updates row held all,
  told_single formats line (updates_behind row updates) rows held (behind_single row updates all),
)

added_told_single : (formats : Formats) (place : ℕ) (changes : List Change) → AreStagedSingle changes
    → AllByRecursion IsSingleTold (added_told formats place changes)
added_told_single formats place [] all = tt
added_told_single formats place (AddMedia media ∷ changes) all = (all.0, added_told_single formats (place + 1) changes all.1)
added_told_single formats place (AddApp mid ∷ changes) all = (tt, added_told_single formats (place + 1) changes all.1)
added_told_single formats place (AddChannel id config ∷ changes) all = added_told_single formats place changes all.1
added_told_single formats place (SetDirection mid dir ∷ changes) all = added_told_single formats place changes all.1
added_told_single formats place (IceRestart creds keeps ∷ changes) all = added_told_single formats place changes all.1

-- what an offer tells, and what an answer does
pub offered_single : (s : Stance) → AreLinesSingle s.line → AreStagedSingle s.staged → AllByRecursion IsSingleTold (offered_told s)
offered_single s held staged =
    all-append IsSingleTold (held_told s) (added_told (offered_formats s) (length s.lines) s.staged)
    (told_single s.formats s.line [] s.lines held tt) (added_told_single (offered_formats s) (length s.lines) s.staged staged)

pub answered_single : (s : Stance) (updates : List MediaUpdate) (offer : Sdp) → AreLinesSingle s.line
    → AllByRecursion IsSingleUpdate updates → AllByRecursion IsSingleTold (answered_told s updates offer)
answered_single s updates offer held all = told_single s.formats s.line updates _ held all
