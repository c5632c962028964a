-- The result of an operation that adds a channel if the peer makes none: it refuses the config, or memory ran out.
use Rattle.rtc_peer_core.specs.declared.rtc_error.RtcError.{RtcError}
use Rattle.rtc_peer_core.specs.declared.rtc_error.RtcError.TheVariants.{Net, Media as MediaFailed, Glare}
use Rattle.rtc_peer_core.specs.declared.rtc_error.RtcError.TheVariants.{RemoteSdp, Sdp, Dtls, Sctp, ChangesOutOfOrder, BadChannel, Alloc}
use Rattle.rtc_run_history.specs.declared.op_answer.OpAnswer.{OpAnswer}
use Rattle.rtc_run_history.specs.declared.op_answer.OpAnswer.TheVariants.{BadChannel as NoChannel, Alloc as OpAlloc}

abbrev pub refused_channel : RtcError → OpAnswer
refused_channel (RemoteSdp why) = OpAlloc
refused_channel (Sdp error) = OpAlloc
refused_channel (Dtls error) = OpAlloc
refused_channel (Sctp error) = OpAlloc
refused_channel (Net cause) = OpAlloc
refused_channel (MediaFailed cause) = OpAlloc
refused_channel ChangesOutOfOrder = OpAlloc
refused_channel BadChannel = NoChannel
refused_channel Alloc = OpAlloc
refused_channel Glare = OpAlloc
