-- The names and the texts of statuses.
use Rattle.std.specs.Prelude.{ℕ, List, codes}
use Rattle.rtc_c_handle.specs.declared.status.Status.{Status}
use Rattle.rtc_c_handle.specs.declared.status.Status.TheVariants.{
  Done,
  NoMemory,
  NoPeer,
  HasPeer,
  NotUtf8,
  NoOffer,
  SmallBuffer,
  RemoteSdp,
  BadSdp,
  BadDatagram,
  DtlsFailed,
  SctpFailed,
  MediaFailed,
  OutOfOrder,
  BadChannel,
  Glare,
  NothingToOffer,
  BadNumber,
  BadMid,
  NoRow,
  NoChannel,
  BufferFull,
}

-- the name of a status, as the header has it, in lower case
abbrev pub status_name : Status → List ℕ
status_name Done = codes "done"
status_name NoMemory = codes "no_memory"
status_name NoPeer = codes "no_peer"
status_name HasPeer = codes "has_peer"
status_name NotUtf8 = codes "not_utf8"
status_name NoOffer = codes "no_offer"
status_name SmallBuffer = codes "small_buffer"
status_name RemoteSdp = codes "remote_sdp"
status_name BadSdp = codes "bad_sdp"
status_name BadDatagram = codes "bad_datagram"
status_name DtlsFailed = codes "dtls_failed"
status_name SctpFailed = codes "sctp_failed"
status_name MediaFailed = codes "media_failed"
status_name OutOfOrder = codes "out_of_order"
status_name BadChannel = codes "bad_channel"
status_name Glare = codes "glare"
status_name NothingToOffer = codes "nothing_to_offer"
status_name BadNumber = codes "bad_number"
status_name BadMid = codes "bad_mid"
status_name NoRow = codes "no_row"
status_name NoChannel = codes "no_channel"
status_name BufferFull = codes "buffer_full"

-- what a status says to a person
abbrev pub status_text : Status → List ℕ
status_text Done = codes "done"
status_text NoMemory = codes "out of memory"
status_text NoPeer = codes "the slot has no peer"
status_text HasPeer = codes "the slot has a peer already"
status_text NotUtf8 = codes "the text is not UTF-8"
status_text NoOffer = codes "no offer of this side is pending"
status_text SmallBuffer = codes "the buffer is too small"
status_text RemoteSdp = codes "the offer or answer of the other side cannot be accepted"
status_text BadSdp = codes "the session description is malformed or inconsistent"
status_text BadDatagram = codes "the datagram is of no kind, or malformed"
status_text DtlsFailed = codes "DTLS failed"
status_text SctpFailed = codes "SCTP failed"
status_text MediaFailed = codes "media failed"
status_text OutOfOrder = codes "an offer was made or accepted since"
status_text BadChannel = codes "no channel can be made of the settings"
status_text Glare = codes "both sides offered, and this one does not give way"
status_text NothingToOffer = codes "nothing is to be sent to the other side"
status_text BadNumber = codes "a number has no meaning"
status_text BadMid = codes "the name of a line is no token of 1 to 32 bytes"
status_text NoRow = codes "there is no such row"
status_text NoChannel = codes "the channel is not open"
status_text BufferFull = codes "too many bytes are buffered"
