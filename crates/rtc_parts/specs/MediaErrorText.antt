-- The texts of faults of media.
use Rattle.std.specs.Prelude.{ℕ, List, ◌++◌, codes}
use Rattle.std.specs.Fmt.{decimal}
use Rattle.rtc_parts.specs.declared.media_error.MediaError.{MediaError}
use Rattle.rtc_parts.specs.declared.media_error.MediaError.TheVariants.{
  Rtp,
  Packet,
  UnknownPt,
  UnknownRid,
  NoSenderSource,
  ResendRequiresRtxPt,
  NotSendingDirection,
  NotReceivingDirection,
  NoReceiverSource,
  FeedbackNotEnabled,
  WriteWithoutPoll,
  Alloc,
}

-- why a media part fails
unfoldable pub media_error_text : MediaError → List ℕ
media_error_text (UnknownPt pt) = codes "PT is unknown " ++ decimal pt.0
media_error_text (UnknownRid rid) = codes "RID is unknown " ++ rid
media_error_text NoSenderSource = codes "No sender source"
media_error_text NotReceivingDirection = codes "Direction does not allow receiving"
media_error_text Alloc = codes "out of memory"
media_error_text Rtp = codes "media error"
media_error_text (Packet mid pt) = codes "media error"
media_error_text ResendRequiresRtxPt = codes "media error"
media_error_text (NotSendingDirection dir) = codes "media error"
media_error_text (NoReceiverSource rid) = codes "media error"
media_error_text FeedbackNotEnabled = codes "media error"
media_error_text WriteWithoutPoll = codes "media error"
