-- The lines of what polls gave.
use Rattle.std.specs.Prelude.{◌-◌, ◌^◌, ◌==◌, ℕ, List, [], ◌++◌, flat_map, codes, if◌then◌else◌}
use Rattle.std.specs.Fmt.{decimal}
use Rattle.rtc_parts.specs.declared.reason.Reason.{Reason}
use Rattle.rtc_parts.specs.declared.reason.Reason.TheVariants as reasons
use Rattle.rtc_plain_media.specs.declared.plain_media_event.PlainMediaEvent.{PlainMediaEvent}
use Rattle.rtc_peer_core.specs.RtcErrorText.{rtc_error_text}
use Rattle.rtc_peer_core.specs.declared.rtc_error.RtcError.{RtcError}
use Rattle.rtc_peer_core.specs.declared.rtc_error.RtcError.TheVariants.{RemoteSdp, Sdp, Net, Dtls, Sctp, Media}
use Rattle.rtc_peer_core.specs.declared.rtc_error.RtcError.TheVariants.{ChangesOutOfOrder, BadChannel, Alloc as PeerAlloc, Glare}
use Rattle.rtc_run_history.specs.declared.outcome.Outcome.{Outcome}
use Rattle.rtc_run_history.specs.declared.outcome.Outcome.TheVariants.{Negotiated, Answered, Finished, Done, Wrote, Polled}
use Rattle.rtc_run_history.specs.declared.outcome.Outcome.TheVariants.{Refused, NoSuch, Alloc}
use Rattle.rtc_run_history.specs.declared.poll_end.PollEnd.{PollEnd}
use Rattle.rtc_run_history.specs.declared.poll_end.PollEnd.TheVariants.{Ended, Refused as EndRefused, NoRoom}
use Rattle.rtc_run_history.specs.declared.shown.Shown.{Shown}
use Rattle.rtc_run_history.specs.declared.shown.Shown.TheVariants.{Timeout, Packet, Event}
use Rattle.rtc_script_reports.specs.Events.{event_text}
use Rattle.rtc_script_reports.specs.Outcomes.{no_memory}

-- a moment in nanoseconds; a word for that of what is not to happen
abbrev pub moment_text : ℕ → List ℕ
moment_text moment = if moment == 2 ^ 64 - 1 then codes "never" else decimal moment

-- what a timeout is wanted for
abbrev pub reason_text : Reason → List ℕ
reason_text reasons.NotHappening = codes "NotHappening"
reason_text reasons.DTLS = codes "DTLS"
reason_text reasons.Ice = codes "Ice"
reason_text reasons.Sctp = codes "Sctp"
reason_text reasons.Channel = codes "Channel"
reason_text reasons.Stats = codes "Stats"
reason_text reasons.Feedback = codes "Feedback"
reason_text reasons.Nack = codes "Nack"
reason_text reasons.Twcc = codes "Twcc"
reason_text reasons.PauseCheck = codes "PauseCheck"
reason_text reasons.SendStream = codes "SendStream"
reason_text reasons.Packetize = codes "Packetize"
reason_text reasons.ReceiveReorder = codes "ReceiveReorder"

-- the line of an output
abbrev pub output_line : Shown PlainMediaEvent → List ℕ
output_line (Timeout moment reason) = codes "out timeout " ++ moment_text moment ++ codes " " ++ reason_text reason ++ codes "\n"
output_line (Packet number len) = codes "out packet " ++ decimal number ++ codes " " ++ decimal len ++ codes "\n"
output_line (Event event) = codes "out event " ++ event_text event ++ codes "\n"

-- the lines of outputs, in order
abbrev pub outputs_lines : List (Shown PlainMediaEvent) → List ℕ
outputs_lines outputs = flat_map output_line outputs

-- an error that a poll returned: its number, and what it prints
abbrev pub error_line : RtcError → List ℕ
error_line (RemoteSdp why) = codes "error 1 " ++ rtc_error_text (RemoteSdp why) ++ codes "\n"
error_line (Sdp error) = codes "error 2 " ++ rtc_error_text (Sdp error) ++ codes "\n"
error_line (Net error) = codes "error 3 " ++ rtc_error_text (Net error) ++ codes "\n"
error_line (Dtls error) = codes "error 4 " ++ rtc_error_text (Dtls error) ++ codes "\n"
error_line (Sctp error) = codes "error 5 " ++ rtc_error_text (Sctp error) ++ codes "\n"
error_line (Media error) = codes "error 6 " ++ rtc_error_text (Media error) ++ codes "\n"
error_line ChangesOutOfOrder = codes "error 7 " ++ rtc_error_text ChangesOutOfOrder ++ codes "\n"
error_line BadChannel = codes "error 8 " ++ rtc_error_text BadChannel ++ codes "\n"
error_line PeerAlloc = no_memory ++ codes "\n"
error_line Glare = codes "error 10 " ++ rtc_error_text Glare ++ codes "\n"

-- the line of what ended polls; none if that was the last output
abbrev pub end_line : PollEnd → List ℕ
end_line Ended = []
end_line (EndRefused error) = error_line error
end_line NoRoom = no_memory ++ codes "\n"

-- what follows the line of an outcome: the outputs of polls, and what ended them
abbrev pub polled_lines : Outcome PlainMediaEvent → List ℕ
polled_lines (Negotiated answers made) = []
polled_lines (Answered text) = []
polled_lines Finished = []
polled_lines Done = []
polled_lines (Wrote taken) = []
polled_lines (Polled outputs end) = outputs_lines outputs ++ end_line end
polled_lines (Refused error) = []
polled_lines NoSuch = []
polled_lines Alloc = []
