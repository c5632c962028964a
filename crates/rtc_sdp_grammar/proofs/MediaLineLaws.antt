-- Each line of a media line's attribute that is written is one line, and is read again.
use Rattle.std.proofs.Common.{◌≡◌, ◌≢◌, ℕ, ◌<◌, ◌≤◌, ◌^◌, true, List, [], ◌∷◌, ◌++◌, length, refl, ap, rules, arith}
use Rattle.std.specs.Prelude.{codes}
use Rattle.std.specs.Fmt.{decimal}
use Rattle.std.specs.List.{AllByRecursion}
use Rattle.rtc_wire_text.specs.Cuts.{Lacks}
use Rattle.rtc_wire_text.specs.Tokens.{is_token}
use Rattle.rtc_wire_text.specs.Words.{spaced}
use Rattle.rtc_wire_text.proofs.CutLemmas.{lacks-append, lacks-after_each, token_lacks}
use Rattle.rtc_wire_text.proofs.NumberLemmas.{decimal_lacks}
use Rattle.rtc_sdp_values.specs.declared.extension.Extension.{Extension}
use Rattle.rtc_sdp_values.specs.declared.msid.Msid.{Msid}
use Rattle.rtc_sdp_values.specs.declared.simulcast.Simulcast.{Simulcast}
use Rattle.rtc_sdp_values.specs.declared.ssrc.Ssrc.{Ssrc}
use Rattle.rtc_sdp_attributes.specs.declared.fmtp.Fmtp.{Fmtp}
use Rattle.rtc_sdp_attributes.specs.declared.rid_line.RidLine.{RidLine}
use Rattle.rtc_sdp_attributes.specs.declared.rtpmap.Rtpmap.{Rtpmap}
use Rattle.rtc_sdp_attributes.specs.declared.ssrc_name.SsrcName.{SsrcName}
use Rattle.std.specs.Prelude.{option_map}
use Rattle.rtc_sdp_attributes.specs.AttributeForms.{rtpmap, fmtp as fmtp_form, extmap, msid as msid_form, rid, simulcast as simulcast_form, source as source_form, source_pair_form}
use Rattle.rtc_sdp_attributes.specs.AttributeTexts.{extmap_text, fmtp_text, msid_text, rid_text, rtpmap_text, simulcast_text, rids_in, ssrc_name_text, ssrc_msid_text, ssrc_pair_text}
use Rattle.rtc_sdp_attributes.specs.PlainValues.{IsPlainMsid, IsPlainRid, IsPlainRtpmap, IsPlainList}
use Rattle.rtc_sdp_attributes.proofs.ExtmapLemmas.{extmap_again, extmap_lacks}
use Rattle.rtc_sdp_attributes.proofs.FmtpLemmas.{fmtp_again, fmtp_lacks}
use Rattle.rtc_sdp_attributes.proofs.MsidLemmas.{msid_again, msid_lacks}
use Rattle.rtc_sdp_attributes.proofs.RidLemmas.{rid_again, rid_lacks, ArePairsFree}
use Rattle.rtc_sdp_attributes.proofs.RtpmapLemmas.{rtpmap_again, rtpmap_lacks}
use Rattle.rtc_sdp_attributes.proofs.SimulcastLemmas.{simulcast_again, simulcast_lacks}
use Rattle.rtc_sdp_attributes.proofs.SsrcLemmas.{ssrc_name_again, ssrc_name_lacks, ssrc_msid_none, ssrc_msid_lacks, ssrc_pair_again, ssrc_pair_lacks}
use Rattle.rtc_sdp_grammar.specs.declared.attribute.Attribute.TheVariants.{CodecLine, ParametersLine, ExtensionLine, StreamLine, LayerLine, LayerListLine, SourceLine, SourcePairLine}
use Rattle.rtc_sdp_grammar.specs.declared.item.Item.TheVariants.{Says, Skipped}
use Rattle.rtc_sdp_grammar.specs.Table.{attribute_item, row_item, IsSkipped}
use Rattle.rtc_sdp_grammar.specs.declared.level.Level.TheVariants.{MediaLevel}
use Rattle.rtc_sdp_grammar.proofs.ConnectionLineLaws.{read_skipping}
use Rattle.rtc_sdp_grammar.specs.ItemForm.{item_of}
use Rattle.rtc_sdp_grammar.specs.MediaTexts.{semantic_line, codec_line, parameters_line, feedback_line, extension_line, stream_line, layer_line, layer_list_line, source_line, source_stream_line, source_pair_line}
use Rattle.rtc_sdp_grammar.proofs.LineLaws.{IsLineOf}

-- ---- the session part
names_lack : (names : List (List ℕ)) → AllByRecursion (λ name. is_token name ≡ true) names → AllByRecursion (Lacks 10) names
names_lack [] h = tt
names_lack (name ∷ rest) h = (token_lacks 10 refl name h.0, names_lack rest h.1)

pub semantic_line_is : (names : List (List ℕ)) → AllByRecursion (λ name. is_token name ≡ true) names → IsLineOf (semantic_line names) Skipped
unfolding item_of attribute_item semantic_line
semantic_line_is names h = record {
  again = refl;
  one = lacks-append 10 (codes "a=msid-semantic: WMS") (spaced names) (search rules) (lacks-after_each 10 32 refl names (names_lack names h));
}

-- ---- formats
abbrev pub IsPlainCodec : Rtpmap → Type 0
IsPlainCodec codec = IsPlainRtpmap codec.pt.0 codec.codec codec.clock codec.channels

pub codec_line_is : (codec : Rtpmap) → IsPlainCodec codec → IsLineOf (codec_line codec) (Says MediaLevel (CodecLine codec))
unfolding item_of attribute_item codec_line
codec_line_is codec h = record {
  again = read_skipping MediaLevel CodecLine (rtpmap (rtpmap_text codec.pt.0 codec.codec codec.clock codec.channels)) codec (rtpmap_again codec.pt.0 codec.codec codec.clock codec.channels h);
  one = lacks-append 10 (codes "a=rtpmap:") (rtpmap_text codec.pt.0 codec.codec codec.clock codec.channels) (search rules) (rtpmap_lacks 10 (omega arith) codec.pt.0 codec.codec codec.clock codec.channels h);
}

pub record IsPlainFmtp (fmtp : Fmtp) : Type 0 where
  pub pt : fmtp.pt.0 ≤ 127
  pub some : 0 < length fmtp.text
  pub line : Lacks 10 fmtp.text

pub parameters_line_is : (fmtp : Fmtp) → IsPlainFmtp fmtp → IsLineOf (parameters_line fmtp) (Says MediaLevel (ParametersLine fmtp))
unfolding item_of attribute_item parameters_line
parameters_line_is fmtp h = record {
  again = read_skipping MediaLevel ParametersLine (fmtp_form (fmtp_text fmtp.pt.0 fmtp.text)) fmtp (fmtp_again fmtp.pt.0 fmtp.text h.pt h.some);
  one = lacks-append 10 (codes "a=fmtp:") (fmtp_text fmtp.pt.0 fmtp.text) (search rules) (fmtp_lacks 10 (omega arith) fmtp.pt.0 fmtp.text h.pt h.line);
}

pub feedback_line_is : (pt : ℕ) (kind : List ℕ) → pt ≤ 127 → Lacks 10 kind → IsLineOf (feedback_line pt kind) Skipped
unfolding item_of attribute_item feedback_line
feedback_line_is pt kind small k =
    let below : pt < 2 ^ 64 = omega arith in
    record {
      again = refl;
      one = lacks-append 10 (codes "a=rtcp-fb:") (decimal pt ++ (32 ∷ kind)) (search rules) (lacks-append 10 (decimal pt) (32 ∷ kind) (decimal_lacks 10 refl pt below) (refl, k));
    }

abbrev pub IsPlainExtension : ℕ × Extension → Type 0
IsPlainExtension row = (0 < row.0) × (row.0 ≤ 255)

pub extension_line_is : (row : ℕ × Extension) → IsPlainExtension row → IsLineOf (extension_line row) (Says MediaLevel (ExtensionLine row))
unfolding item_of attribute_item extension_line
extension_line_is row h = record {
  again = read_skipping MediaLevel ExtensionLine (extmap (extmap_text row.0 row.1)) row (extmap_again row.0 row.1 h.0 h.1);
  one = lacks-append 10 (codes "a=extmap:") (extmap_text row.0 row.1) (search rules) (extmap_lacks 10 (omega arith) row.0 row.1 h.1);
}

-- ---- streams and layers
pub stream_line_is : (msid : Msid) → IsPlainMsid msid → IsLineOf (stream_line msid) (Says MediaLevel (StreamLine msid))
unfolding item_of attribute_item stream_line
stream_line_is msid h = record {
  again = read_skipping MediaLevel StreamLine (msid_form (msid_text msid)) msid (msid_again msid h);
  one = lacks-append 10 (codes "a=msid:") (msid_text msid) (search rules) (msid_lacks 10 (omega arith) msid h);
}

pub record IsPlainLayer (layer : RidLine) : Type 0 where
  pub form : IsPlainRid layer.rid layer.attributes
  pub line : ArePairsFree 10 layer.attributes

pub layer_line_is : (layer : RidLine) → IsPlainLayer layer → IsLineOf (layer_line layer) (Says MediaLevel (LayerLine layer))
unfolding item_of attribute_item layer_line
layer_line_is layer h = record {
  again = read_skipping MediaLevel LayerLine (rid (rid_text layer.rid layer.direction layer.attributes)) layer (rid_again layer.rid layer.direction layer.attributes h.form);
  one = lacks-append 10 (codes "a=rid:") (rid_text layer.rid layer.direction layer.attributes) (search rules) (rid_lacks 10 (omega arith) layer.rid layer.direction layer.attributes h.form h.line);
}

pub record IsPlainLayerList (simulcast : Simulcast) : Type 0 where
  pub send : IsPlainList (rids_in simulcast.send)
  pub recv : IsPlainList (rids_in simulcast.recv)
  pub some : rids_in simulcast.send ++ rids_in simulcast.recv ≢ []

pub layer_list_line_is : (simulcast : Simulcast) → IsPlainLayerList simulcast → IsLineOf (layer_list_line simulcast) (Says MediaLevel (LayerListLine (record { send = rids_in simulcast.send; recv = rids_in simulcast.recv })))
unfolding item_of attribute_item layer_list_line
layer_list_line_is simulcast h = record {
  again = read_skipping MediaLevel LayerListLine (simulcast_form (simulcast_text simulcast)) (record { send = rids_in simulcast.send; recv = rids_in simulcast.recv }) (simulcast_again simulcast h.send h.recv h.some);
  one = lacks-append 10 (codes "a=simulcast:") (simulcast_text simulcast) (search rules) (simulcast_lacks 10 (omega arith) simulcast h.send h.recv);
}

-- ---- sources
pub record IsPlainSource (source : SsrcName) : Type 0 where
  pub ssrc : source.ssrc.0 ≤ 4294967295
  pub some : 0 < length source.cname
  pub line : Lacks 10 source.cname

pub source_line_is : (source : SsrcName) → IsPlainSource source → IsLineOf (source_line source) (Says MediaLevel (SourceLine source))
unfolding item_of attribute_item source_line
source_line_is source h = record {
  again = read_skipping MediaLevel SourceLine (source_form (ssrc_name_text source.ssrc.0 source.cname)) source (ssrc_name_again source.ssrc.0 source.cname h.ssrc h.some);
  one = lacks-append 10 (codes "a=ssrc:") (ssrc_name_text source.ssrc.0 source.cname) (search rules) (ssrc_name_lacks 10 (omega arith) source.ssrc.0 source.cname h.ssrc h.line);
}

pub source_stream_line_is : (ssrc : ℕ) (msid : Msid) → ssrc ≤ 4294967295 → IsPlainMsid msid → IsLineOf (source_stream_line ssrc msid) Skipped
unfolding item_of attribute_item source_stream_line
source_stream_line_is ssrc msid small h = record {
  again = ap (λ read. row_item MediaLevel IsSkipped (option_map SourceLine read)) (ssrc_msid_none ssrc msid.stream_id msid.track_id small);
  one = lacks-append 10 (codes "a=ssrc:") (ssrc_msid_text ssrc msid.stream_id msid.track_id) (search rules) (ssrc_msid_lacks 10 (omega arith) ssrc msid.stream_id msid.track_id small (token_lacks 10 refl msid.stream_id h.stream) (token_lacks 10 refl msid.track_id h.track));
}

abbrev pub IsPlainPair : Ssrc × Ssrc → Type 0
IsPlainPair pair = (pair.0.0 ≤ 4294967295) × (pair.1.0 ≤ 4294967295)

pub source_pair_line_is : (pair : Ssrc × Ssrc) → IsPlainPair pair → IsLineOf (source_pair_line pair) (Says MediaLevel (SourcePairLine pair))
unfolding item_of attribute_item source_pair_line
source_pair_line_is pair h = record {
  again = read_skipping MediaLevel SourcePairLine (source_pair_form (ssrc_pair_text pair.0.0 pair.1.0)) pair (ssrc_pair_again pair.0.0 pair.1.0 h.0 h.1);
  one = lacks-append 10 (codes "a=ssrc-group:") (ssrc_pair_text pair.0.0 pair.1.0) (search rules) (ssrc_pair_lacks 10 (omega arith) pair.0.0 pair.1.0 h.0 h.1);
}
