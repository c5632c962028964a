-- The words of events: each is in one line, and tells what it shows of its event.
use Rattle.std.specs.Prelude.{codes}
use Rattle.std.specs.Fmt.{decimal}
use Rattle.std.proofs.Common.{◌≡◌, ◌==◌, ◌<◌, ◌^◌, ◌+◌, ◌*◌, ◌∷◌, ℕ, zero, suc, Bool, true, false, cond, List, [], length, refl, sym, ◌∙◌, ap, arith}
use Rattle.std.proofs.lemmas.Fmt.{decimal_injective}
use Rattle.std.proofs.lemmas.List.{append_cancel_left}
use Rattle.rtc_parts.specs.declared.ice_connection_state.IceConnectionState.{IceConnectionState}
use Rattle.rtc_parts.specs.declared.ice_connection_state.IceConnectionState.TheVariants.{New, Checking, Connected, Completed, Disconnected}
use Rattle.rtc_parts.specs.declared.raw_packet.RawPacket.{RawPacket}
use Rattle.rtc_parts.specs.declared.raw_packet.RawPacket.TheVariants.{RtcpTx, RtcpRx, RtpTx, RtpRx}
use Rattle.rtc_plain_media.specs.declared.plain_media_event.PlainMediaEvent.{PlainMediaEvent}
use Rattle.rtc_plain_media.specs.declared.plain_media_event.PlainMediaEvent.TheVariants.{Added, Changed, Rtp, Rtcp, Raw}
use Rattle.rtc_peer_transport.specs.declared.channel_data.ChannelData.{ChannelData}
use Rattle.rtc_peer_transport.specs.declared.event.Event.{Event}
use Rattle.rtc_peer_transport.specs.declared.event.Event.TheVariants as events
use Rattle.rtc_script.specs.Words.{direction_text, hex_word, kind_text, message_kind_text}
use Rattle.rtc_script_reports.specs.Alike.{AreAlikeEvents, AreAlikeMediaEvents, AreAlikePackets}
use Rattle.rtc_script_reports.specs.Events.{event_text, line_bytes_text, media_event_text, raw_packet_text, state_text}
use Rattle.rtc_script_reports.specs.Fits.{FitsEvent, FitsMediaEvent, FitsPacket, IsName, has_byte}
use Rattle.rtc_script_reports.proofs.Cuts.{cut_front, cut_nothing, cut_space, none_append, none_put, put_behind, put_is, text_of}
use Rattle.rtc_script_reports.proofs.TableTexts.{direction_gap, kind_gap, same_direction, same_kind}
use Rattle.rtc_script_reports.proofs.WordTexts.{decimal_gap, gap, hex_gap, letter, name_gap, same_hex}

-- ---- states of ICE

state_mark : IceConnectionState → ℕ
state_mark New = 110119
state_mark Checking = 99101
state_mark Connected = 99110
state_mark Completed = 99109
state_mark Disconnected = 100115

state_is : (state : IceConnectionState) → letter 0 (state_text state) * 1000 + letter 2 (state_text state) ≡ state_mark state
unfolding state_mark
state_is New = refl
state_is Checking = refl
state_is Connected = refl
state_is Completed = refl
state_is Disconnected = refl

marked_state : (state other : IceConnectionState) → state_mark state ≡ state_mark other → state ≡ other
unfolding state_mark
marked_state New New e = refl
marked_state Checking Checking e = refl
marked_state Connected Connected e = refl
marked_state Completed Completed e = refl
marked_state Disconnected Disconnected e = refl
marked_state state other e = absurd (let f : state_mark state ≡ state_mark other = e in omega (arith, f))

same_state : (state other : IceConnectionState) → state_text state ≡ state_text other → state ≡ other
same_state state other e = marked_state state other (sym (state_is state) ∙ ap (λ (t : List ℕ). letter 0 t * 1000 + letter 2 t) e ∙ state_is other)

state_whole : (state : IceConnectionState) → has_byte 10 (state_text state) ≡ false
state_whole New = refl
state_whole Checking = refl
state_whole Connected = refl
state_whole Completed = refl
state_whole Disconnected = refl

-- ---- events of media

packet_mark : RawPacket → ℕ
packet_mark (RtcpTx bytes) = 99112116
packet_mark (RtcpRx bytes) = 99112114
packet_mark (RtpTx bytes) = 112116120
packet_mark (RtpRx bytes) = 112114120

packet_mark_told : List ℕ → ℕ
packet_mark_told text = letter 2 text * 1000000 + (letter 3 text * 1000 + letter 4 text)

packet_is : (packet : RawPacket) → packet_mark_told (raw_packet_text packet) ≡ packet_mark packet
unfolding packet_mark packet_mark_told
packet_is (RtcpTx bytes) = refl
packet_is (RtcpRx bytes) = refl
packet_is (RtpTx bytes) = refl
packet_is (RtpRx bytes) = refl

marked_packet : (packet other : RawPacket) → FitsPacket packet → FitsPacket other → raw_packet_text packet ≡ raw_packet_text other → packet_mark packet ≡ packet_mark other → AreAlikePackets packet other
unfolding packet_mark
marked_packet (RtcpTx bytes) (RtcpTx bytes') fit fit' e m = decimal_injective (length bytes) (length bytes') fit fit' (append_cancel_left (codes "rtcptx ") (decimal (length bytes)) (decimal (length bytes')) e)
marked_packet (RtcpRx bytes) (RtcpRx bytes') fit fit' e m = decimal_injective (length bytes) (length bytes') fit fit' (append_cancel_left (codes "rtcprx ") (decimal (length bytes)) (decimal (length bytes')) e)
marked_packet (RtpTx bytes) (RtpTx bytes') fit fit' e m = decimal_injective (length bytes) (length bytes') fit fit' (append_cancel_left (codes "rtptx ") (decimal (length bytes)) (decimal (length bytes')) e)
marked_packet (RtpRx bytes) (RtpRx bytes') fit fit' e m = decimal_injective (length bytes) (length bytes') fit fit' (append_cancel_left (codes "rtprx ") (decimal (length bytes)) (decimal (length bytes')) e)
marked_packet packet other fit fit' e m = absurd (let f : packet_mark packet ≡ packet_mark other = m in omega (arith, f))

same_packet : (packet other : RawPacket) → FitsPacket packet → FitsPacket other → raw_packet_text packet ≡ raw_packet_text other → AreAlikePackets packet other
same_packet packet other fit fit' e = marked_packet packet other fit fit' e (sym (packet_is packet) ∙ ap packet_mark_told e ∙ packet_is other)

packet_whole : (packet : RawPacket) → has_byte 10 (raw_packet_text packet) ≡ false
packet_whole (RtcpTx bytes) = none_append 10 (codes "rtcptx ") (decimal (length bytes)) refl (decimal_gap 1 (length bytes))
packet_whole (RtcpRx bytes) = none_append 10 (codes "rtcprx ") (decimal (length bytes)) refl (decimal_gap 1 (length bytes))
packet_whole (RtpTx bytes) = none_append 10 (codes "rtptx ") (decimal (length bytes)) refl (decimal_gap 1 (length bytes))
packet_whole (RtpRx bytes) = none_append 10 (codes "rtprx ") (decimal (length bytes)) refl (decimal_gap 1 (length bytes))

media_mark : PlainMediaEvent → ℕ
media_mark (Added mid kind dir) = 100
media_mark (Changed mid dir) = 97
media_mark (Rtp len) = 112
media_mark (Rtcp len) = 99
media_mark (Raw packet) = 119

media_is : (event : PlainMediaEvent) → letter 2 (media_event_text event) ≡ media_mark event
unfolding media_mark
media_is (Added mid kind dir) = refl
media_is (Changed mid dir) = refl
media_is (Rtp len) = refl
media_is (Rtcp len) = refl
media_is (Raw packet) = refl

marked_media : (event other : PlainMediaEvent) → FitsMediaEvent event → FitsMediaEvent other → media_event_text event ≡ media_event_text other → media_mark event ≡ media_mark other → AreAlikeMediaEvents event other
unfolding media_mark
marked_media (Added m k d) (Added m' k' d') fit fit' e same =
    let text = cut_front (codes "added ") (m ∷ codes " " ∷ kind_text k ∷ codes " " ∷ direction_text d ∷ []) (m' ∷ codes " " ∷ kind_text k' ∷ codes " " ∷ direction_text d' ∷ []) e in
    let mid = cut_space m m' (text_of (kind_text k ∷ codes " " ∷ direction_text d ∷ [])) (text_of (kind_text k' ∷ codes " " ∷ direction_text d' ∷ [])) (name_gap 0 m fit) (name_gap 0 m' fit') text in
    let kind = cut_space (kind_text k) (kind_text k') (text_of (direction_text d ∷ [])) (text_of (direction_text d' ∷ [])) (kind_gap 0 k) (kind_gap 0 k') mid.1 in
    (mid.0, same_kind k k' kind.0, same_direction d d' (cut_nothing (direction_text d) (direction_text d') kind.1))
marked_media (Changed m d) (Changed m' d') fit fit' e same =
    let text = cut_front (codes "changed ") (m ∷ codes " " ∷ direction_text d ∷ []) (m' ∷ codes " " ∷ direction_text d' ∷ []) e in
    let mid = cut_space m m' (text_of (direction_text d ∷ [])) (text_of (direction_text d' ∷ [])) (name_gap 0 m fit) (name_gap 0 m' fit') text in
    (mid.0, same_direction d d' (cut_nothing (direction_text d) (direction_text d') mid.1))
marked_media (Rtp len) (Rtp len') fit fit' e same = decimal_injective len len' fit fit' (append_cancel_left (codes "rtp ") (decimal len) (decimal len') e)
marked_media (Rtcp len) (Rtcp len') fit fit' e same = decimal_injective len len' fit fit' (append_cancel_left (codes "rtcp ") (decimal len) (decimal len') e)
marked_media (Raw packet) (Raw packet') fit fit' e same = same_packet packet packet' fit fit' (append_cancel_left (codes "raw ") (raw_packet_text packet) (raw_packet_text packet') e)
marked_media event other fit fit' e same = absurd (let f : media_mark event ≡ media_mark other = same in omega (arith, f))

same_media_event : (event other : PlainMediaEvent) → FitsMediaEvent event → FitsMediaEvent other → media_event_text event ≡ media_event_text other → AreAlikeMediaEvents event other
same_media_event event other fit fit' e = marked_media event other fit fit' e (sym (media_is event) ∙ ap (letter 2) e ∙ media_is other)

media_whole : (event : PlainMediaEvent) → FitsMediaEvent event → has_byte 10 (media_event_text event) ≡ false
media_whole (Added m k d) fit = none_put 10 (codes "added ") (m ∷ codes " " ∷ kind_text k ∷ codes " " ∷ direction_text d ∷ []) refl (name_gap 1 m fit, (refl, (kind_gap 1 k, (refl, (direction_gap 1 d, tt)))))
media_whole (Changed m d) fit = none_put 10 (codes "changed ") (m ∷ codes " " ∷ direction_text d ∷ []) refl (name_gap 1 m fit, (refl, (direction_gap 1 d, tt)))
media_whole (Rtp len) fit = none_append 10 (codes "rtp ") (decimal len) refl (decimal_gap 1 len)
media_whole (Rtcp len) fit = none_append 10 (codes "rtcp ") (decimal len) refl (decimal_gap 1 len)
media_whole (Raw packet) fit = none_append 10 (codes "raw ") (raw_packet_text packet) refl (packet_whole packet)

-- ---- messages and counts

message_of : ℕ → Bool → List ℕ → ChannelData
message_of id binary bytes = record { id = id; binary = binary; bytes = bytes }

message_kind_gap : (g : ℕ) (binary : Bool) → has_byte (gap g) (message_kind_text binary) ≡ false
message_kind_gap zero true = refl
message_kind_gap zero false = refl
message_kind_gap (suc zero) true = refl
message_kind_gap (suc zero) false = refl
message_kind_gap (suc (suc g)) true = refl
message_kind_gap (suc (suc g)) false = refl

same_message_kind : (binary other : Bool) → message_kind_text binary ≡ message_kind_text other → binary ≡ other
same_message_kind true true e = refl
same_message_kind false false e = refl
same_message_kind true false e = absurd (let f : 98 ≡ 116 = ap (letter 0) e in omega (arith, f))
same_message_kind false true e = absurd (let f : 116 ≡ 98 = ap (letter 0) e in omega (arith, f))

same_message : (message other : ChannelData) → FitsEvent (events.ChannelData message) → FitsEvent (events.ChannelData other)
    → event_text (events.ChannelData message) ≡ event_text (events.ChannelData other) → message ≡ other
unfolding message_of
same_message message other fit fit' e =
    let kind : List ℕ = message_kind_text message.binary in
    let kind' : List ℕ = message_kind_text other.binary in
    let text = cut_front (codes "data ") (decimal message.id ∷ codes " " ∷ kind ∷ codes " " ∷ hex_word message.bytes ∷ []) (decimal other.id ∷ codes " " ∷ kind' ∷ codes " " ∷ hex_word other.bytes ∷ []) e in
    let id = cut_space (decimal message.id) (decimal other.id) (text_of (kind ∷ codes " " ∷ hex_word message.bytes ∷ [])) (text_of (kind' ∷ codes " " ∷ hex_word other.bytes ∷ [])) (decimal_gap 0 message.id) (decimal_gap 0 other.id) text in
    let word = cut_space kind kind' (text_of (hex_word message.bytes ∷ [])) (text_of (hex_word other.bytes ∷ [])) (message_kind_gap 0 message.binary) (message_kind_gap 0 other.binary) id.1 in
    ap (λ (n : ℕ). message_of n message.binary message.bytes) (decimal_injective message.id other.id fit.0 fit'.0 id.0)
    ∙ ap (λ (b : Bool). message_of other.id b message.bytes) (same_message_kind message.binary other.binary word.0)
    ∙ ap (λ (t : List ℕ). message_of other.id other.binary t) (same_hex message.bytes other.bytes fit.1 fit'.1 (cut_nothing (hex_word message.bytes) (hex_word other.bytes) word.1))

-- a number, a space and another number
same_counts : (front : List ℕ) (n m n' m' : ℕ) → n < 2 ^ 64 → m < 2 ^ 64 → n' < 2 ^ 64 → m' < 2 ^ 64
    → put_behind front (decimal n ∷ codes " " ∷ decimal m ∷ []) ≡ put_behind front (decimal n' ∷ codes " " ∷ decimal m' ∷ []) → (n ≡ n') × (m ≡ m')
same_counts front n m n' m' a b a' b' e =
    let text = cut_front front (decimal n ∷ codes " " ∷ decimal m ∷ []) (decimal n' ∷ codes " " ∷ decimal m' ∷ []) e in
    let first = cut_space (decimal n) (decimal n') (text_of (decimal m ∷ [])) (text_of (decimal m' ∷ [])) (decimal_gap 0 n) (decimal_gap 0 n') text in
    (decimal_injective n n' a a' first.0, decimal_injective m m' b b' (cut_nothing (decimal m) (decimal m') first.1))

-- the bytes of a line
same_line_bytes : (mid other : List ℕ) (n n' : ℕ) → IsName mid → IsName other → n < 2 ^ 64 → n' < 2 ^ 64
    → line_bytes_text mid n ≡ line_bytes_text other n' → (mid ≡ other) × (n ≡ n')
same_line_bytes mid other n n' name name' small small' e =
    let text = sym (put_is mid (codes " " ∷ decimal n ∷ [])) ∙ e ∙ put_is other (codes " " ∷ decimal n' ∷ []) in
    let first = cut_space mid other (text_of (decimal n ∷ [])) (text_of (decimal n' ∷ [])) (name_gap 0 mid name) (name_gap 0 other name') text in
    (first.0, decimal_injective n n' small small' (cut_nothing (decimal n) (decimal n') first.1))

line_bytes_whole : (mid : List ℕ) (n : ℕ) → IsName mid → has_byte 10 (line_bytes_text mid n) ≡ false
line_bytes_whole mid n name = none_put 10 mid (codes " " ∷ decimal n ∷ []) (name_gap 1 mid name) (refl, (decimal_gap 1 n, tt))

-- ---- events

event_mark_told : List ℕ → ℕ
event_mark_told (a ∷ b ∷ text) = a * 1000000 + (b * 1000 + cond (b == 108) (letter 3 text) 0)
event_mark_told text = 0

event_mark : Event PlainMediaEvent → ℕ
event_mark events.Connected = 99111000
event_mark (events.IceConnectionStateChange state) = 105099000
event_mark (events.ChannelOpen id label) = 111112000
event_mark (events.ChannelData message) = 100097000
event_mark (events.ChannelClose id) = 99108032
event_mark (events.ChannelBufferedAmountLow id) = 108111000
event_mark (events.PeerStats stats) = 115116000
event_mark (events.MediaIngressStats stats) = 105110000
event_mark (events.MediaEgressStats stats) = 101103000
event_mark (events.Media event) = 109101000
event_mark events.Closed = 99108100

event_is : (event : Event PlainMediaEvent) → event_mark_told (event_text event) ≡ event_mark event
unfolding event_mark event_mark_told
event_is events.Connected = refl
event_is (events.IceConnectionStateChange state) = refl
event_is (events.ChannelOpen id label) = refl
event_is (events.ChannelData message) = refl
event_is (events.ChannelClose id) = refl
event_is (events.ChannelBufferedAmountLow id) = refl
event_is (events.PeerStats stats) = refl
event_is (events.MediaIngressStats stats) = refl
event_is (events.MediaEgressStats stats) = refl
event_is (events.Media event) = refl
event_is events.Closed = refl

marked_event : (event other : Event PlainMediaEvent) → FitsEvent event → FitsEvent other → event_text event ≡ event_text other → event_mark event ≡ event_mark other → AreAlikeEvents event other
unfolding event_mark
marked_event events.Connected events.Connected fit fit' e m = tt
marked_event (events.IceConnectionStateChange state) (events.IceConnectionStateChange state') fit fit' e m =
    same_state state state' (append_cancel_left (codes "ice ") (state_text state) (state_text state') e)
marked_event (events.ChannelOpen id label) (events.ChannelOpen id' label') fit fit' e m =
    let text = cut_front (codes "open ") (decimal id ∷ codes " " ∷ hex_word label ∷ []) (decimal id' ∷ codes " " ∷ hex_word label' ∷ []) e in
    let first = cut_space (decimal id) (decimal id') (text_of (hex_word label ∷ [])) (text_of (hex_word label' ∷ [])) (decimal_gap 0 id) (decimal_gap 0 id') text in
    (decimal_injective id id' fit.0 fit'.0 first.0, same_hex label label' fit.1 fit'.1 (cut_nothing (hex_word label) (hex_word label') first.1))
marked_event (events.ChannelData message) (events.ChannelData message') fit fit' e m = same_message message message' fit fit' e
marked_event (events.ChannelClose id) (events.ChannelClose id') fit fit' e m = decimal_injective id id' fit fit' (append_cancel_left (codes "close ") (decimal id) (decimal id') e)
marked_event (events.ChannelBufferedAmountLow id) (events.ChannelBufferedAmountLow id') fit fit' e m = decimal_injective id id' fit fit' (append_cancel_left (codes "low ") (decimal id) (decimal id') e)
marked_event (events.PeerStats stats) (events.PeerStats stats') fit fit' e m =
    same_counts (codes "stats ") stats.peer_bytes_rx stats.peer_bytes_tx stats'.peer_bytes_rx stats'.peer_bytes_tx fit.0 fit.1 fit'.0 fit'.1 e
marked_event (events.MediaIngressStats stats) (events.MediaIngressStats stats') fit fit' e m =
    same_line_bytes stats.mid stats'.mid stats.bytes stats'.bytes fit.0 fit'.0 fit.1 fit'.1
    (append_cancel_left (codes "ingress ") (line_bytes_text stats.mid stats.bytes) (line_bytes_text stats'.mid stats'.bytes) e)
marked_event (events.MediaEgressStats stats) (events.MediaEgressStats stats') fit fit' e m =
    same_line_bytes stats.mid stats'.mid stats.bytes stats'.bytes fit.0 fit'.0 fit.1 fit'.1
    (append_cancel_left (codes "egress ") (line_bytes_text stats.mid stats.bytes) (line_bytes_text stats'.mid stats'.bytes) e)
marked_event (events.Media event) (events.Media event') fit fit' e m = same_media_event event event' fit fit' (append_cancel_left (codes "media ") (media_event_text event) (media_event_text event') e)
marked_event events.Closed events.Closed fit fit' e m = tt
marked_event event other fit fit' e m = absurd (let f : event_mark event ≡ event_mark other = m in omega (arith, f))

-- equal words are of events that agree
pub same_event : (event other : Event PlainMediaEvent) → FitsEvent event → FitsEvent other → event_text event ≡ event_text other → AreAlikeEvents event other
same_event event other fit fit' e = marked_event event other fit fit' e (sym (event_is event) ∙ ap event_mark_told e ∙ event_is other)

-- the words are in one line
pub event_whole : (event : Event PlainMediaEvent) → FitsEvent event → has_byte 10 (event_text event) ≡ false
event_whole events.Connected fit = refl
event_whole (events.IceConnectionStateChange state) fit = none_append 10 (codes "ice ") (state_text state) refl (state_whole state)
event_whole (events.ChannelOpen id label) fit = none_put 10 (codes "open ") (decimal id ∷ codes " " ∷ hex_word label ∷ []) refl (decimal_gap 1 id, (refl, (hex_gap 1 label, tt)))
event_whole (events.ChannelData message) fit =
    none_put
    10 (codes "data ") (decimal message.id ∷ codes " " ∷ message_kind_text message.binary ∷ codes " " ∷ hex_word message.bytes ∷ []) refl
    (decimal_gap 1 message.id, (refl, (message_kind_gap 1 message.binary, (refl, (hex_gap 1 message.bytes, tt)))))
event_whole (events.ChannelClose id) fit = none_append 10 (codes "close ") (decimal id) refl (decimal_gap 1 id)
event_whole (events.ChannelBufferedAmountLow id) fit = none_append 10 (codes "low ") (decimal id) refl (decimal_gap 1 id)
event_whole (events.PeerStats stats) fit =
    none_put 10 (codes "stats ") (decimal stats.peer_bytes_rx ∷ codes " " ∷ decimal stats.peer_bytes_tx ∷ []) refl (decimal_gap 1 stats.peer_bytes_rx, (refl, (decimal_gap 1 stats.peer_bytes_tx, tt)))
event_whole (events.MediaIngressStats stats) fit = none_append 10 (codes "ingress ") (line_bytes_text stats.mid stats.bytes) refl (line_bytes_whole stats.mid stats.bytes fit.0)
event_whole (events.MediaEgressStats stats) fit = none_append 10 (codes "egress ") (line_bytes_text stats.mid stats.bytes) refl (line_bytes_whole stats.mid stats.bytes fit.0)
event_whole (events.Media event) fit = none_append 10 (codes "media ") (media_event_text event) refl (media_whole event fit)
event_whole events.Closed fit = refl
