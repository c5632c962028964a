-- Kinds of media.
use Rattle.std.specs.Prelude.{Bool, true, false}
use Rattle.rtc_sdp_values.specs.declared.media_kind.MediaKind.{MediaKind}
use Rattle.rtc_sdp_values.specs.declared.media_kind.MediaKind.TheVariants.{Audio, Video}

abbrev pub is_audio : MediaKind → Bool
is_audio Audio = true
is_audio Video = false

abbrev pub is_video : MediaKind → Bool
is_video Audio = false
is_video Video = true

abbrev pub same_kind : MediaKind → MediaKind → Bool
same_kind Audio Audio = true
same_kind Audio Video = false
same_kind Video Audio = false
same_kind Video Video = true
