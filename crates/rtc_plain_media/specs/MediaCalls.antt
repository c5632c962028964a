-- What each call leaves of the contents.
use Rattle.std.specs.Prelude.{ℕ, Bool, true, false, not, filter, List, [], ◌∷◌, ◌++◌, length, Option, Some, None, if◌then◌else◌}
use Rattle.rtc_sdp_values.specs.declared.ssrc.Ssrc.{Ssrc}
use Rattle.rtc_parts.specs.declared.raw_packet.RawPacket.{RawPacket}
use Rattle.rtc_parts.specs.declared.raw_packet.RawPacket.TheVariants.{RtpRx, RtcpRx}
use Rattle.rtc_parts.specs.MediaUpdates.{same_mid, removed_by}
use Rattle.rtc_plain_media.specs.declared.plain_mark.PlainMark.{PlainMark}
use Rattle.rtc_plain_media.specs.declared.plain_media_event.PlainMediaEvent.{PlainMediaEvent}
use Rattle.rtc_plain_media.specs.declared.plain_media_event.PlainMediaEvent.TheVariants.{Rtp, Rtcp}
use Rattle.rtc_plain_media.specs.PlainMediaEvent.{raw_event}
use Rattle.rtc_plain_media.specs.Feedback.{goodbye}
use Rattle.rtc_plain_media.specs.Lines.{Lines, lines_after, events_after, without_lines, same_key, key_of}
use Rattle.rtc_plain_media.specs.Streams.{Streams, has_ssrc, without_streams}
use Rattle.rtc_plain_media.specs.MediaContents.{MediaContents}

-- lines that are gone, and their streams, are dropped
abbrev pub dropped : (List ℕ → Bool) → MediaContents → MediaContents
dropped gone p = record p { lines = without_lines gone p.lines; rx = without_streams gone p.rx; tx = without_streams gone p.tx }

-- what is removed and in no row is dropped, and then the updates take their places in turn
abbrev pub applied : MediaContents → MediaContents
applied p =
    let kept = without_lines (removed_by p.pending) p.lines in
    record (dropped (removed_by p.pending) p) {
      lines = lines_after p.pending kept;
      events = p.events
          ++ events_after p.pending kept;
      pending = [];
    }

abbrev pub line_dropped : List ℕ → MediaContents → MediaContents
line_dropped mid p = dropped (λ other. same_mid other mid) p

-- a packet, if raw packets are reported
abbrev pub if_raw : Bool → RawPacket → Option RawPacket
if_raw true packet = Some packet
if_raw false packet = None

-- events are queued: that of a packet behind those that show it
abbrev pub told_more : List PlainMediaEvent → PlainMediaEvent → MediaContents → MediaContents
told_more raw event p = record p { events = p.events ++ raw ++ event ∷ [] }

abbrev pub rtp_taken : List ℕ → MediaContents → MediaContents
rtp_taken packet p = told_more (raw_event (if_raw p.raw_packets (RtpRx packet))) (Rtp (length packet)) p

abbrev pub rtcp_taken : List ℕ → MediaContents → MediaContents
rtcp_taken packet p = told_more (raw_event (if_raw p.raw_packets (RtcpRx packet))) (Rtcp (length packet)) p

abbrev pub sent_more : List ℕ → MediaContents → MediaContents
sent_more datagram p = record p { datagrams = p.datagrams ++ datagram ∷ [] }

-- goodbye is said once
abbrev pub said_goodbye : MediaContents → MediaContents
said_goodbye p = if p.is_shut then p else record p { is_shut = true; datagrams = p.datagrams ++ goodbye ∷ [] }

abbrev pub without_ssrc : Ssrc → Streams → Streams
without_ssrc ssrc rows = filter (λ row. not (has_ssrc ssrc row)) rows

-- the writer of a line has a mark
abbrev pub writer_marked : List ℕ → PlainMark → Lines → Lines
writer_marked mid mark [] = []
writer_marked mid mark (e ∷ es) = if same_key (key_of mid) e.0 then (e.0, record e.1 { mark = mark }) ∷ es else e
    ∷ writer_marked mid mark es
