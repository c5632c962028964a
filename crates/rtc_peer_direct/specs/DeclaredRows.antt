-- Media lines that a user declares and removes without session descriptions.
use Rattle.std.specs.Prelude.{◌≡◌, ℕ, Bool, true, false, List, is_some, Result}
use Rattle.std.specs.declared.alloc.AllocError.{AllocError}
use Rattle.rtc_sdp_values.specs.declared.line_row.LineRow.{LineRow}
use Rattle.rtc_sdp_values.specs.declared.media_kind.MediaKind.{MediaKind}
use Rattle.rtc_peer_rows.specs.DeclaredMedia.{Declares, media_place, rows_without}
use Rattle.rtc_peer_rows.specs.Table.{row_of}
use Rattle.rtc_parts.specs.MediaMeaning.{MediaMeaning}
use Rattle.rtc_peer_transport.specs.declared.polled_peer.PolledPeer.{PolledPeer}

-- whether a row of media has a mid
abbrev pub has_media_row : List ℕ → List LineRow → Bool
has_media_row mid rows = is_some (media_place (row_of rows mid))

-- the peer with other rows
abbrev pub with_lines : {I D S M N : Type 0} → List LineRow → PolledPeer I D S M N → PolledPeer I D S M N
with_lines rows p = record p { core = record p.core { lines = rows } }

-- A media line is declared behind the others, sendrecv and created here. If a row has the mid, nothing changes.
abbrev pub DeclaresMedia : {I D S M N : Type 0} → List ℕ → MediaKind → PolledPeer I D S M N → Result Bool AllocError → PolledPeer I D S M N
    → Type 0
DeclaresMedia mid kind p r q = Declares p.core.lines mid kind r q.core.lines × (q ≡ with_lines q.core.lines p)

-- A media line is removed: the last row is dropped, another one is stopped; the media part drops the line with its streams. If no media row
-- has the mid, nothing changes.
abbrev pub RemovesMedia : {I D S M E X T W N : Type 0} → MediaMeaning M E X T W → List ℕ → PolledPeer I D S M N → Bool
    → PolledPeer I D S M N → Type 0
RemovesMedia media mid p true q =
    (has_media_row mid p.core.lines ≡ true)
    × media.line_removed p.core.media mid q.core.media
    × (q ≡ record p { core = record p.core { lines = rows_without mid p.core.lines; media = q.core.media } })
RemovesMedia media mid p false q = (has_media_row mid p.core.lines ≡ false) × (q ≡ p)
