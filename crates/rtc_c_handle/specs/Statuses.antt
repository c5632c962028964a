-- The numbers of statuses, and the statuses of what the calls of a peer return.
use Rattle.std.specs.Prelude.{ℕ, ◌==◌, if◌then◌else◌, Bool, true, false, Option, Some, None, Result, Ok, Err}
use Rattle.std.specs.declared.alloc.AllocError.{AllocError}
use Rattle.rtc_peer_core.specs.declared.rtc_error.RtcError.{RtcError}
use Rattle.rtc_peer_core.specs.declared.rtc_error.RtcError.TheVariants as errors
use Rattle.rtc_c_handle.specs.declared.status.Status.{Status}
use Rattle.rtc_c_handle.specs.declared.status.Status.TheVariants.{
  Done,
  NoMemory,
  NoPeer,
  HasPeer,
  NotUtf8,
  NoOffer,
  SmallBuffer,
  RemoteSdp,
  BadSdp,
  BadDatagram,
  DtlsFailed,
  SctpFailed,
  MediaFailed,
  OutOfOrder,
  BadChannel,
  Glare,
  NothingToOffer,
  BadNumber,
  BadMid,
  NoRow,
  NoChannel,
  BufferFull,
}

abbrev pub code_of : Status → ℕ
code_of Done = 0
code_of NoMemory = 1
code_of NoPeer = 2
code_of HasPeer = 3
code_of NotUtf8 = 4
code_of NoOffer = 5
code_of SmallBuffer = 6
code_of RemoteSdp = 7
code_of BadSdp = 8
code_of BadDatagram = 9
code_of DtlsFailed = 10
code_of SctpFailed = 11
code_of MediaFailed = 12
code_of OutOfOrder = 13
code_of BadChannel = 14
code_of Glare = 15
code_of NothingToOffer = 16
code_of BadNumber = 17
code_of BadMid = 18
code_of NoRow = 19
code_of NoChannel = 20
code_of BufferFull = 21

-- the status of a number
unfoldable pub status_of_number : ℕ → Option Status
status_of_number n =
    if n == 0 then Some Done
    else if n == 1 then Some NoMemory
    else if n == 2 then Some NoPeer
    else if n == 3 then Some HasPeer
    else if n == 4 then Some NotUtf8
    else if n == 5 then Some NoOffer
    else if n == 6 then Some SmallBuffer
    else if n == 7 then Some RemoteSdp
    else if n == 8 then Some BadSdp
    else if n == 9 then Some BadDatagram
    else if n == 10 then Some DtlsFailed
    else if n == 11 then Some SctpFailed
    else if n == 12 then Some MediaFailed
    else if n == 13 then Some OutOfOrder
    else if n == 14 then Some BadChannel
    else if n == 15 then Some Glare
    else if n == 16 then Some NothingToOffer
    else if n == 17 then Some BadNumber
    else if n == 18 then Some BadMid
    else if n == 19 then Some NoRow
    else if n == 20 then Some NoChannel
    else if n == 21 then Some BufferFull
    else None

abbrev pub status_of_error : RtcError → Status
status_of_error (errors.RemoteSdp why) = RemoteSdp
status_of_error (errors.Sdp cause) = BadSdp
status_of_error (errors.Net cause) = BadDatagram
status_of_error (errors.Dtls cause) = DtlsFailed
status_of_error (errors.Sctp cause) = SctpFailed
status_of_error (errors.Media cause) = MediaFailed
status_of_error errors.ChangesOutOfOrder = OutOfOrder
status_of_error errors.BadChannel = BadChannel
status_of_error errors.Alloc = NoMemory
status_of_error errors.Glare = Glare

abbrev pub status_of_call : Result (Unit {0}) RtcError → Status
status_of_call (Ok done) = Done
status_of_call (Err error) = status_of_error error

-- the same of a call that needs a token
abbrev pub status_of_token : Result Bool RtcError → Status
status_of_token (Ok true) = Done
status_of_token (Ok false) = NoOffer
status_of_token (Err error) = status_of_error error

-- the same of a write, which is not taken if too much is buffered
abbrev pub status_of_write : Result Bool RtcError → Status
status_of_write (Ok true) = Done
status_of_write (Ok false) = BufferFull
status_of_write (Err error) = status_of_error error

-- the same of a call that fails only if there is no memory
abbrev pub status_of_memory : Result (Unit {0}) AllocError → Status
status_of_memory (Ok done) = Done
status_of_memory (Err error) = NoMemory
