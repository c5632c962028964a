-- The plain media part as a part: what each call does, exactly.
use Rattle.std.specs.Prelude.{ℕ, ◌≡◌, true, false, List, [], ◌∷◌, length, Option, Some, None, Result, Ok, Err}
use Rattle.std.specs.Option.{is_some}
use Rattle.std.specs.List.{list_any}
use Rattle.rtc_parts.specs.MediaMeaning.{MediaMeaning}
use Rattle.rtc_plain_media.specs.declared.plain_mark.PlainMark.{PlainMark}
use Rattle.rtc_plain_media.specs.declared.plain_media_event.PlainMediaEvent.{PlainMediaEvent}
use Rattle.rtc_plain_media.specs.Feedback.{app_feedback, picture_asked}
use Rattle.rtc_plain_media.specs.Lines.{held_line, writer_mark}
use Rattle.rtc_plain_media.specs.Streams.{
  has_ssrc,
  has_name,
  new_mark,
  made_stream_row,
  put_row,
  marked,
  held_mark,
  can_renumber,
  renumbered,
}
use Rattle.rtc_plain_media.specs.MediaContents.{
  MediaContents,
  fresh_media,
  update_of,
  media_uses,
  is_media_closed,
  line_has_red,
  has_streams_of,
}
use Rattle.rtc_plain_media.specs.MediaCalls.{
  applied,
  line_dropped,
  rtp_taken,
  rtcp_taken,
  sent_more,
  said_goodbye,
  without_ssrc,
  writer_marked,
}

-- a call that takes memory: Ok leaves this, and running out of memory leaves the part as it was
abbrev pub MediaLeaves : {E : Type 0} → MediaContents → MediaContents → Result (Unit {0}) E → MediaContents → Type 0
MediaLeaves p left (Ok _) q = q ≡ left
MediaLeaves p left (Err _) q = q ≡ p

-- a call that never refuses and changes nothing
abbrev pub MediaStays : {T E : Type 0} → T → MediaContents → Result T E → MediaContents → Type 0
MediaStays answer p (Ok x) q = (x ≡ answer) × (q ≡ p)
MediaStays answer p (Err e) q = ⊥

-- the oldest event is reported
abbrev pub TellsNext : List PlainMediaEvent → MediaContents → Option PlainMediaEvent → MediaContents → Type 0
TellsNext [] p None q = q ≡ p
TellsNext [] p (Some event) q = ⊥
TellsNext (e ∷ events) p None q = ⊥
TellsNext (e ∷ events) p (Some event) q = (event ≡ e) × (q ≡ record p { events = events })

-- the oldest datagram is given
abbrev pub GivesNext : List (List ℕ) → MediaContents → Option (List ℕ) → MediaContents → Type 0
GivesNext [] p None q = q ≡ p
GivesNext [] p (Some datagram) q = ⊥
GivesNext (d ∷ datagrams) p None q = ⊥
GivesNext (d ∷ datagrams) p (Some datagram) q = (datagram ≡ d) × (q ≡ record p { datagrams = datagrams })

abbrev pub plain_media_meaning : MediaMeaning MediaContents PlainMediaEvent PlainMark PlainMark PlainMark
plain_media_meaning = record {
  fresh = λ p. p ≡ fresh_media;
  configured = λ p settings q. q ≡ record p { raw_packets = settings.raw_packets };
  prepared = λ p updates r q. MediaLeaves p (record p { pending = updates }) r q;
  committed = λ p q. q ≡ applied p;
  line_removed = λ p mid q. q ≡ line_dropped mid p;
  keyed = λ p key profile active r q. MediaLeaves p (record p { is_keyed = true }) r q;
  rtp_given = λ p now packet r q. MediaLeaves p (rtp_taken packet p) r q;
  rtcp_given = λ p now packet r q. MediaLeaves p (rtcp_taken packet p) r q;
  timed = λ p now r q. MediaStays tt p r q;
  told = λ p r q. TellsNext p.events p r q;
  told_fallible = λ p now r q. MediaStays None p r q;
  gave = λ p now r q. GivesNext p.datagrams p r q;
  cleared = λ p q. q ≡ record p { datagrams = [] };
  rtp_shut = λ p r q. MediaLeaves p (said_goodbye p) r q;
  stats_visited = λ p now s r t q. MediaStays tt p r q × (t ≡ s);
  red_set = λ p mid on b q. (b ≡ line_has_red (held_line mid p.lines)) × (q ≡ p);
  twcc_enabled = λ p q. q ≡ p;
  app_fed = λ p sender media payload r q. MediaLeaves p (sent_more (app_feedback payload) p) r q;
  pli_fed = λ p sender media r q. MediaLeaves p (sent_more picture_asked p) r q;
  rx_removed = λ p ssrc b q. (b ≡ list_any (has_ssrc ssrc) p.rx) × (q ≡ record p { rx = without_ssrc ssrc p.rx });
  tx_removed = λ p ssrc b q. (b ≡ list_any (has_ssrc ssrc) p.tx) × (q ≡ record p { tx = without_ssrc ssrc p.tx });
  writer_lent = λ p mid lent left q.
      (lent ≡ writer_mark (held_line mid p.lines)) × (q ≡ record p { lines = writer_marked mid left p.lines });
  rx_expected = λ p ssrc rtx mid rid lent left q.
      (lent ≡ new_mark) × (q ≡ record p { rx = put_row (record (made_stream_row ssrc rtx mid rid) { mark = left }) p.rx });
  tx_declared = λ p ssrc rtx mid rid lent left q.
      (lent ≡ new_mark) × (q ≡ record p { tx = put_row (record (made_stream_row ssrc rtx mid rid) { mark = left }) p.tx });
  rx_lent = λ p ssrc lent left q.
      (Some lent ≡ held_mark (has_ssrc ssrc) p.rx) × (q ≡ record p { rx = marked (has_ssrc ssrc) left p.rx });
  tx_lent = λ p ssrc lent left q.
      (Some lent ≡ held_mark (has_ssrc ssrc) p.tx) × (q ≡ record p { tx = marked (has_ssrc ssrc) left p.tx });
  rx_named_lent = λ p mid rid lent left q.
      (Some lent ≡ held_mark (has_name mid rid) p.rx) × (q ≡ record p { rx = marked (has_name mid rid) left p.rx });
  tx_named_lent = λ p mid rid lent left q.
      (Some lent ≡ held_mark (has_name mid rid) p.tx) × (q ≡ record p { tx = marked (has_name mid rid) left p.tx });
  tx_reset = λ p mid rid ssrc rtx lent left q.
      (lent ≡ new_mark) × (q ≡ record p { tx = renumbered mid rid ssrc rtx left p.tx });
  line = update_of;
  used = media_uses;
  connected = λ p. p.is_keyed;
  rtp_closed = is_media_closed;
  wake = λ p. None;
  has_writer = λ p mid. is_some (held_line mid p.lines);
  declines_rx = λ p ssrc rtx mid rid. false;
  declines_tx = λ p ssrc rtx mid rid. false;
  has_rx = λ p ssrc. list_any (has_ssrc ssrc) p.rx;
  has_tx = λ p ssrc. list_any (has_ssrc ssrc) p.tx;
  has_rx_named = λ p mid rid. list_any (has_name mid rid) p.rx;
  has_tx_named = λ p mid rid. list_any (has_name mid rid) p.tx;
  resets_tx = λ p mid rid ssrc rtx. can_renumber mid rid ssrc rtx p.tx;
  has_streams = has_streams_of;
  pending = λ p. p.pending;
  held_events = λ p. length p.events;
  held_datagrams = λ p. length p.datagrams;
  faults = λ p. 0;
}
