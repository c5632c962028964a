-- What lines carry, computed: the answer to a video offer, a line with layers, and a line that is stopped.
use Rattle.std.proofs.Common.{◌≡◌, ℕ, zero, suc, Bool, true, false, List, [], ◌∷◌, ◌++◌, length, Option, Some, None, codes, refl, ap}
use Rattle.std.specs.Prelude.{IsSome}
use Rattle.std.specs.List.{AllByRecursion}
use Rattle.rtc_sdp_values.specs.ExtensionMap.{standard_rows}
use Rattle.rtc_sdp_values.specs.MediaLine.{bare_line}
use Rattle.rtc_sdp_values.specs.declared.direction.Direction.TheVariants.{SendRecv}
use Rattle.rtc_sdp_values.specs.declared.extension.Extension.TheVariants.{VideoOrientation}
use Rattle.rtc_sdp_values.specs.declared.line_kind.LineKind.TheVariants.{Video as VideoLine}
use Rattle.rtc_sdp_values.specs.declared.line_row.LineRow.{LineRow}
use Rattle.rtc_sdp_values.specs.declared.line_row.LineRow.TheVariants.{Media}
use Rattle.rtc_sdp_values.specs.declared.media_kind.MediaKind.TheVariants.{Video}
use Rattle.rtc_sdp_values.specs.declared.media_line.MediaLine.{MediaLine}
use Rattle.rtc_sdp_values.specs.declared.simulcast.Simulcast.{Simulcast}
use Rattle.rtc_sdp_values.specs.declared.simulcast_layer.SimulcastLayer.{SimulcastLayer}
use Rattle.rtc_sdp_values.specs.declared.ssrc.Ssrc.{Ssrc}
use Rattle.rtc_sdp_codecs.specs.Codec.{table_row, full_row}
use Rattle.rtc_sdp_codecs.specs.declared.codec.Codec.TheVariants.{Vp8, H264, Vp9}
use Rattle.rtc_parts.specs.Draws.{Draws}
use Rattle.rtc_parts.specs.declared.media_update.MediaUpdate.{MediaUpdate}
use Rattle.rtc_change.specs.declared.add_media.AddMedia.{AddMedia as AddedMedia}
use Rattle.rtc_peer_core.specs.declared.formats.Formats.{Formats}
use Rattle.rtc_peer_core.specs.LineUpdates.{bare_sending, sending_of, layered, row_update}
use Rattle.rtc_peer_core.specs.MadeSdp.{bare_row_line, media_of_update}
use Rattle.rtc_peer_core.specs.Sources.{next_pair, after_pair, next_pairs, pair_numbers, pair_count}

-- a peer with VP8 before H264, and with all header extensions
own_formats : Formats
own_formats = record {
  codecs = record { rows = full_row Vp8 ∷ full_row H264 ∷ []; red_distances = 1 ∷ [] };
  extensions = record { rows = standard_rows };
  session_ids = false;
}

-- the row of a video line at the first place
video_row : Bool → LineRow
video_row stopped = Media 0 (codes "0") Video SendRecv stopped true

layer : List ℕ → SimulcastLayer
layer rid = record { rid = rid; attributes = [] }

-- a video line with H264, VP8 and VP9 by numbers of its own, an extension by another number, and two layers that are sent
offered_line : MediaLine
offered_line = record (bare_line VideoLine (codes "0") SendRecv) {
  payloads = table_row (codes "H264") 120 (Some 121) None 90000 1 [] ∷ table_row (codes "VP8") 100 None None 90000 1 [] ∷ full_row Vp9 ∷ [];
  exts = (5, VideoOrientation) ∷ [];
  simulcast = Some (record { send = layer (codes "h") ∷ layer (codes "l") ∷ []; recv = [] });
}

-- what the media part is told of it, where one source is drawn
told : Bool → MediaUpdate
told stopped =
    row_update own_formats true None (video_row stopped) offered_line (layered offered_line (bare_sending (codes "0")))
    ((record { 0 = 7 }, Some (record { 0 = 8 })) ∷ [])

answered_line : Bool → MediaLine
answered_line stopped = bare_row_line 262144 (media_of_update (told stopped)) (video_row stopped)

-- the answer has this side's order and the other side's numbers, and no VP9
answered_rows : (answered_line false).payloads ≡
    table_row (codes "VP8") 100 None None 90000 1 []
    ∷ table_row (codes "H264") 120 (Some 121) None 90000 1 (codes "packetization-mode=1")
    ∷ []
unfolding answered_line told own_formats offered_line layer video_row
answered_rows = refl

answered_extensions : (answered_line false).exts ≡ (5, VideoOrientation) ∷ []
unfolding answered_line told own_formats offered_line layer video_row
answered_extensions = refl

-- what the other side sends is received
answered_layers : (answered_line false).simulcast ≡ Some (record { send = []; recv = layer (codes "h") ∷ layer (codes "l") ∷ [] })
unfolding answered_line told own_formats offered_line layer video_row
answered_layers = refl

answered_names : (answered_line false).msid ≡ Some (record { stream_id = codes "0"; track_id = codes "0" })
unfolding answered_line told own_formats offered_line layer video_row
answered_names = refl

answered_sources : (answered_line false).ssrcs ≡ (record { 0 = 7 }, Some (record { 0 = 8 })) ∷ []
unfolding answered_line told own_formats offered_line layer video_row
answered_sources = refl

-- a stopped line keeps its rows, and tells no stream and no source
stopped_rows : (answered_line true).payloads ≡ (answered_line false).payloads
unfolding answered_line told own_formats offered_line layer video_row
stopped_rows = refl

stopped_names : (answered_line true).msid ≡ None
unfolding answered_line told own_formats offered_line layer video_row
stopped_names = refl

stopped_cname : (answered_line true).cname ≡ None
unfolding answered_line told own_formats offered_line layer video_row
stopped_cname = refl

stopped_sources : (answered_line true).ssrcs ≡ []
unfolding answered_line told own_formats offered_line layer video_row
stopped_sources = refl

-- ---- the layers of a line are the first ones that the other side tells
-- an answer that receives these layers
receiving : List SimulcastLayer → MediaLine
receiving layers = record (bare_line VideoLine (codes "0") SendRecv) { simulcast = Some (record { send = []; recv = layers }) }

-- an answer without layers
without_layers : MediaLine
without_layers = bare_line VideoLine (codes "0") SendRecv

-- a line that was staged with two layers to send
staged_line : AddedMedia
staged_line = record {
  mid = codes "0";
  cname = codes "t";
  msid = record { stream_id = codes "s"; track_id = codes "t" };
  kind = Video;
  dir = SendRecv;
  ssrcs = (record { 0 = 7 }, None) ∷ (record { 0 = 8 }, None) ∷ [];
  simulcast = Some (record { send = layer (codes "h") ∷ layer (codes "l") ∷ []; recv = [] });
}

-- where the answer takes one of them, the line has this one
narrowed_layers : (layered (receiving (layer (codes "l") ∷ [])) (sending_of None (Some staged_line) (codes "0"))).simulcast
    ≡ Some (record { send = layer (codes "l") ∷ []; recv = [] })
unfolding receiving staged_line layer
narrowed_layers = refl

-- where it takes none, the line has no layers
refused_layers : (layered without_layers (sending_of None (Some staged_line) (codes "0"))).simulcast ≡ None
unfolding without_layers staged_line layer
refused_layers = refl

-- its sources stay
kept_sources : (layered (receiving (layer (codes "l") ∷ [])) (sending_of None (Some staged_line) (codes "0"))).ssrcs
    ≡ (record { 0 = 7 }, None) ∷ (record { 0 = 8 }, None) ∷ []
unfolding receiving staged_line layer
kept_sources = refl

-- a later description with other layers changes none
later_layers : (layered (receiving (layer (codes "l") ∷ [])) (sending_of (Some (told false)) None (codes "0"))).simulcast
    ≡ (told false).simulcast
unfolding receiving told own_formats offered_line layer video_row
later_layers = refl

-- ---- a line with layers has a source for each that is sent, and where it is one of video, each with one of retransmissions
module _ {N : Type 0} (draws : Draws N) (used : ℕ → Bool) where
  length-next_pairs : (count : ℕ) (earlier : List ℕ) (ids : N) → length (next_pairs draws used Video earlier count ids) ≡ count
  length-next_pairs zero earlier ids = refl
  length-next_pairs (suc count) earlier ids =
      ap (λ (n : ℕ). suc n)
      (length-next_pairs count (earlier ++ pair_numbers (next_pair draws used Video earlier ids)) (after_pair draws used Video ids))

  each_is_repaired : (count : ℕ) (earlier : List ℕ) (ids : N)
      → AllByRecursion (λ (pair : Ssrc × Option Ssrc). IsSome pair.1) (next_pairs draws used Video earlier count ids)
  each_is_repaired zero earlier ids = tt
  each_is_repaired (suc count) earlier ids =
      (refl, each_is_repaired count (earlier ++ pair_numbers (next_pair draws used Video earlier ids)) (after_pair draws used Video ids))

three_layers : Simulcast
three_layers = record { send = layer (codes "h") ∷ layer (codes "m") ∷ layer (codes "l") ∷ []; recv = [] }

three_sources : pair_count (Some three_layers) ≡ 3
unfolding three_layers
three_sources = refl
