-- Lines of the attributes of a media line, as they are written.
use Rattle.std.specs.Prelude.{ℕ, List, ◌∷◌, ◌++◌, codes}
use Rattle.std.specs.Fmt.{decimal}
use Rattle.rtc_wire_text.specs.Words.{spaced}
use Rattle.rtc_sdp_values.specs.declared.extension.Extension.{Extension}
use Rattle.rtc_sdp_values.specs.declared.msid.Msid.{Msid}
use Rattle.rtc_sdp_values.specs.declared.simulcast.Simulcast.{Simulcast}
use Rattle.rtc_sdp_values.specs.declared.ssrc.Ssrc.{Ssrc}
use Rattle.rtc_sdp_attributes.specs.declared.fmtp.Fmtp.{Fmtp}
use Rattle.rtc_sdp_attributes.specs.declared.rid_line.RidLine.{RidLine}
use Rattle.rtc_sdp_attributes.specs.declared.rtpmap.Rtpmap.{Rtpmap}
use Rattle.rtc_sdp_attributes.specs.declared.ssrc_name.SsrcName.{SsrcName}
use Rattle.rtc_sdp_attributes.specs.AttributeTexts.{extmap_text}
use Rattle.rtc_sdp_attributes.specs.AttributeTexts.{fmtp_text}
use Rattle.rtc_sdp_attributes.specs.AttributeTexts.{msid_text}
use Rattle.rtc_sdp_attributes.specs.AttributeTexts.{rid_text}
use Rattle.rtc_sdp_attributes.specs.AttributeTexts.{rtpmap_text}
use Rattle.rtc_sdp_attributes.specs.AttributeTexts.{simulcast_text}
use Rattle.rtc_sdp_attributes.specs.AttributeTexts.{ssrc_name_text, ssrc_msid_text, ssrc_pair_text}

-- a=msid-semantic: WMS S S (the names of streams; no standard has it any more)
unfoldable pub semantic_line : List (List ℕ) → List ℕ
semantic_line names = codes "a=msid-semantic: WMS" ++ spaced names

-- a=rtpmap:PT NAME/CLOCK (RFC 8866, section 6.6)
unfoldable pub codec_line : Rtpmap → List ℕ
codec_line codec = codes "a=rtpmap:" ++ rtpmap_text codec.pt.0 codec.codec codec.clock codec.channels

-- a=fmtp:PT TEXT (RFC 8866, section 6.15)
unfoldable pub parameters_line : Fmtp → List ℕ
parameters_line fmtp = codes "a=fmtp:" ++ fmtp_text fmtp.pt.0 fmtp.text

-- a=rtcp-fb:PT KIND (RFC 4585, section 4.2)
unfoldable pub feedback_line : ℕ → List ℕ → List ℕ
feedback_line pt kind = codes "a=rtcp-fb:" ++ (decimal pt ++ (32 ∷ kind))

-- a=extmap:N URI (RFC 8285, section 8)
unfoldable pub extension_line : ℕ × Extension → List ℕ
extension_line row = codes "a=extmap:" ++ extmap_text row.0 row.1

-- a=msid:S T (RFC 8830, section 2)
unfoldable pub stream_line : Msid → List ℕ
stream_line msid = codes "a=msid:" ++ msid_text msid

-- a=rid:R send and a=rid:R recv, and the pairs (RFC 8851, section 4)
unfoldable pub layer_line : RidLine → List ℕ
layer_line layer = codes "a=rid:" ++ rid_text layer.rid layer.direction layer.attributes

-- a=simulcast:DIR LIST (RFC 8853, section 5.1)
unfoldable pub layer_list_line : Simulcast → List ℕ
layer_list_line simulcast = codes "a=simulcast:" ++ simulcast_text simulcast

-- a=ssrc:N cname:C (RFC 5576, section 6.1)
unfoldable pub source_line : SsrcName → List ℕ
source_line source = codes "a=ssrc:" ++ ssrc_name_text source.ssrc.0 source.cname

-- a=ssrc:N msid:S T (the stream of an SSRC, for ends that read it there)
unfoldable pub source_stream_line : ℕ → Msid → List ℕ
source_stream_line ssrc msid = codes "a=ssrc:" ++ ssrc_msid_text ssrc msid.stream_id msid.track_id

-- a=ssrc-group:FID N M (RFC 5576, section 4.2)
unfoldable pub source_pair_line : Ssrc × Ssrc → List ℕ
source_pair_line pair = codes "a=ssrc-group:" ++ ssrc_pair_text pair.0.0 pair.1.0
