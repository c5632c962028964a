-- Which outcomes the steps have that do not negotiate.
use Rattle.std.specs.Prelude.{Bool, true, false}
use Rattle.rtc_peer_core.specs.declared.rtc_error.RtcError.{RtcError}
use Rattle.rtc_peer_core.specs.declared.rtc_error.RtcError.TheVariants.{RemoteSdp, Sdp as SdpRefused, Dtls, Sctp, Net, Media}
use Rattle.rtc_peer_core.specs.declared.rtc_error.RtcError.TheVariants.{ChangesOutOfOrder, BadChannel as NoChannel}
use Rattle.rtc_peer_core.specs.declared.rtc_error.RtcError.TheVariants.{Alloc as PeerAlloc, Glare}
use Rattle.rtc_run_history.specs.declared.outcome.Outcome.{Outcome}
use Rattle.rtc_run_history.specs.declared.outcome.Outcome.TheVariants.{Negotiated, Answered, Finished, Done, Wrote, Polled, Refused}
use Rattle.rtc_run_history.specs.declared.outcome.Outcome.TheVariants.{NoSuch, Alloc}
use Rattle.rtc_run_history.specs.Memory.{error_lacks}

-- an input was taken, or a close begun, or either was refused
abbrev pub is_handled : {E : Type 0} → Outcome E → Bool
is_handled (Negotiated answers made) = false
is_handled (Answered k) = false
is_handled Finished = false
is_handled Done = true
is_handled (Wrote taken) = false
is_handled (Polled outputs end) = false
is_handled (Refused error) = true
is_handled NoSuch = false
is_handled Alloc = false

-- a datagram was taken or refused, or is not there
abbrev pub is_heard : {E : Type 0} → Outcome E → Bool
is_heard (Negotiated answers made) = false
is_heard (Answered k) = false
is_heard Finished = false
is_heard Done = true
is_heard (Wrote taken) = false
is_heard (Polled outputs end) = false
is_heard (Refused error) = true
is_heard NoSuch = true
is_heard Alloc = false

-- polls gave outputs, and something ended them
abbrev pub is_polled : {E : Type 0} → Outcome E → Bool
is_polled (Negotiated answers made) = false
is_polled (Answered k) = false
is_polled Finished = false
is_polled Done = false
is_polled (Wrote taken) = false
is_polled (Polled outputs end) = true
is_polled (Refused error) = false
is_polled NoSuch = false
is_polled Alloc = false

-- whether an error is of the streams, or reports that memory ran out
abbrev pub is_of_streams : RtcError → Bool
is_of_streams (RemoteSdp why) = false
is_of_streams (SdpRefused error) = false
is_of_streams (Dtls error) = false
is_of_streams (Sctp error) = true
is_of_streams ChangesOutOfOrder = false
is_of_streams (Net cause) = false
is_of_streams (Media cause) = false
is_of_streams NoChannel = false
is_of_streams PeerAlloc = true
is_of_streams Glare = false

-- a message was taken or not, or its write refused, or the channel is not open
abbrev pub is_written : {E : Type 0} → Outcome E → Bool
is_written (Negotiated answers made) = false
is_written (Answered k) = false
is_written Finished = false
is_written Done = false
is_written (Wrote taken) = true
is_written (Polled outputs end) = false
is_written (Refused error) = is_of_streams error
is_written NoSuch = true
is_written Alloc = false

-- a channel was closed, or memory ran out in its close, or it is not open
abbrev pub is_channel_closed : {E : Type 0} → Outcome E → Bool
is_channel_closed (Negotiated answers made) = false
is_channel_closed (Answered k) = false
is_channel_closed Finished = false
is_channel_closed Done = true
is_channel_closed (Wrote taken) = false
is_channel_closed (Polled outputs end) = false
is_channel_closed (Refused error) = error_lacks error
is_channel_closed NoSuch = true
is_channel_closed Alloc = false
