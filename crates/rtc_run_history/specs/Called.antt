-- Which replies say that a call of a peer on a session description (SDP) was reached.
use Rattle.std.specs.Prelude.{Bool, true, false, not, ◌||◌}
use Rattle.rtc_sdp_values.specs.declared.sdp_error.SdpError.{SdpError}
use Rattle.rtc_sdp_values.specs.declared.sdp_error.SdpError.TheVariants.{Parse, Inconsistent, Alloc as TextAlloc}
use Rattle.rtc_peer_core.specs.declared.rtc_error.RtcError.{RtcError}
use Rattle.rtc_peer_core.specs.declared.rtc_error.RtcError.TheVariants.{RemoteSdp, Sdp as SdpRefused, Dtls, Sctp, Net, Media}
use Rattle.rtc_peer_core.specs.declared.rtc_error.RtcError.TheVariants.{ChangesOutOfOrder, BadChannel, Alloc as PeerAlloc, Glare}
use Rattle.rtc_run_history.specs.declared.outcome.Outcome.{Outcome}
use Rattle.rtc_run_history.specs.declared.outcome.Outcome.TheVariants.{Negotiated, Answered, Finished, Done, Wrote, Polled, Refused}
use Rattle.rtc_run_history.specs.declared.outcome.Outcome.TheVariants.{NoSuch, Alloc}

abbrev pub is_unread_for : SdpError → Bool
is_unread_for (Parse line) = true
is_unread_for (Inconsistent why) = false
is_unread_for TextAlloc = false

-- whether an error reports that what was written of an SDP could not be read
abbrev pub is_unread : RtcError → Bool
is_unread (RemoteSdp why) = false
is_unread (SdpRefused error) = is_unread_for error
is_unread (Dtls error) = false
is_unread (Sctp error) = false
is_unread ChangesOutOfOrder = false
is_unread (Net cause) = false
is_unread (Media cause) = false
is_unread BadChannel = false
is_unread PeerAlloc = false
is_unread Glare = false

-- whether an error reports glare
abbrev pub is_glare : RtcError → Bool
is_glare (RemoteSdp why) = false
is_glare (SdpRefused error) = false
is_glare (Dtls error) = false
is_glare (Sctp error) = false
is_glare ChangesOutOfOrder = false
is_glare (Net cause) = false
is_glare (Media cause) = false
is_glare BadChannel = false
is_glare PeerAlloc = false
is_glare Glare = true

-- whether a reply says that the peer's accept call was reached: what could not be read was refused before it
abbrev pub was_called : {E : Type 0} → Outcome E → Bool
was_called (Negotiated answers made) = false
was_called (Answered k) = true
was_called Finished = true
was_called Done = false
was_called (Wrote taken) = false
was_called (Polled outputs end) = false
was_called (Refused error) = not (is_unread error)
was_called NoSuch = false
was_called Alloc = false

-- whether a reply says that the peer's accept call was reached, and did not refuse the offer as glare, which invalidates nothing
abbrev pub supersedes : {E : Type 0} → Outcome E → Bool
supersedes (Negotiated answers made) = false
supersedes (Answered k) = true
supersedes Finished = true
supersedes Done = false
supersedes (Wrote taken) = false
supersedes (Polled outputs end) = false
supersedes (Refused error) = not (is_unread error || is_glare error)
supersedes NoSuch = false
supersedes Alloc = false

-- whether a reply says that the peer's call to roll an offer back was reached
abbrev pub was_rolled_back : {E : Type 0} → Outcome E → Bool
was_rolled_back (Negotiated answers made) = false
was_rolled_back (Answered k) = false
was_rolled_back Finished = false
was_rolled_back Done = true
was_rolled_back (Wrote taken) = false
was_rolled_back (Polled outputs end) = false
was_rolled_back (Refused error) = true
was_rolled_back NoSuch = false
was_rolled_back Alloc = false
