-- A media line that is staged step by step is one that is staged.
use Rattle.std.proofs.Common.{◌≡◌, Bool, false, ℕ, List, [], ◌∷◌, ◌++◌, Result, Ok, Err, refl}
use Rattle.std.specs.Result.{IsErr}
use Rattle.std.specs.declared.alloc.AllocError.{AllocError}
use Rattle.rtc_parts.specs.Draws.{Later}
use Rattle.rtc_parts.proofs.LaterLemmas.{later_once}
use Rattle.rtc_sdp_values.specs.declared.ice_creds.IceCreds.{IceCreds}
use Rattle.rtc_sdp_values.specs.declared.line_row.LineRow.{LineRow}
use Rattle.rtc_change.specs.declared.add_media.AddMedia.{AddMedia as Media}
use Rattle.rtc_change.specs.declared.change.Change.{Change}
use Rattle.rtc_change.specs.declared.change.Change.TheVariants.{AddMedia}
use Rattle.rtc_peer_core.specs.declared.peer.Peer.{Peer}
use Rattle.rtc_peer_core.specs.Calls.{AddsMedia, StagesRestart, Wanted, uses_source}
use Rattle.rtc_peer_core.specs.Meanings.{Meanings}
use Rattle.rtc_peer_core.specs.Names.{is_held, next_mid}
use Rattle.rtc_peer_core.specs.Sources.{next_pairs, after_pairs, pair_count}
use Rattle.rtc_peer_staging.specs.StagedNames.{drawn_stream, drawn_track, after_names}

pub staged_stands : {I D S M E X T W N : Type 0} (m : Meanings I D S M E X T W N) (p : Peer I D S M N) (wanted : Wanted) (lines : List LineRow) (staged : List Change)
    (drawn last : N) (mid : List ℕ) (media : Media) → lines ≡ p.lines → mid ≡ next_mid m.ids lines p.staged p.ids → is_held lines p.staged mid ≡ false
    → drawn ≡ m.ids.after p.ids
    → media ≡ (let made : Media = record {
      mid = mid;
      cname = drawn_track m.ids wanted.stream wanted.track drawn;
      msid = record { stream_id = drawn_stream m.ids wanted.stream drawn; track_id = drawn_track m.ids wanted.stream wanted.track drawn };
      kind = wanted.kind;
      dir = wanted.dir;
      ssrcs = next_pairs m.ids (uses_source m p) wanted.kind [] (pair_count wanted.simulcast) (after_names m.ids wanted.stream wanted.track drawn);
      simulcast = wanted.simulcast;
    } in made)
    → last ≡ after_pairs m.ids (uses_source m p) wanted.kind (pair_count wanted.simulcast) (after_names m.ids wanted.stream wanted.track drawn)
    → staged ≡ p.staged ++ AddMedia media ∷ [] → AddsMedia m p wanted (Ok mid) (record p { lines = lines; staged = staged; ids = last })
staged_stands m p wanted lines staged drawn last mid media lines_is mid_is free drawn_is media_is last_is staged_is =
    let named = rw lines_is at mid_is in
    let unheld = rw lines_is at free in
    (named, rw (lines_is, staged_is, media_is, last_is, drawn_is, named) refl, unheld)

-- where memory lacks, only numbers were drawn
pub unstaged : {I D S M E X T W N : Type 0} (m : Meanings I D S M E X T W N) (p : Peer I D S M N) (wanted : Wanted) (result : Result (List ℕ) AllocError)
    (lines : List LineRow) (staged : List Change) (ids : N) → IsErr result → lines ≡ p.lines → staged ≡ p.staged → Later m.ids p.ids ids
    → AddsMedia m p wanted result (record p { lines = lines; staged = staged; ids = ids })
unstaged m p wanted (Ok mid) lines staged ids failed lines_is staged_is later = absurd (cc)
unstaged m p wanted (Err error) lines staged ids failed lines_is staged_is later = (later, rw (lines_is, staged_is) refl)

-- a restart that is not staged leaves the draw of its credentials
pub restart_unstaged : {I D S M E X T W N : Type 0} (m : Meanings I D S M E X T W N) (p : Peer I D S M N) (keeps : Bool) (result : Result IceCreds AllocError)
    (ids : N) → IsErr result → ids ≡ m.ids.after p.ids → StagesRestart m p keeps result (record p { ids = ids })
restart_unstaged m p keeps (Ok creds) ids failed is = absurd (cc)
restart_unstaged m p keeps (Err error) ids failed is = (rw is (later_once m.ids p.ids), refl)
