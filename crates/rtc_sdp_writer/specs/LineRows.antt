-- The lines of a line part, as they are written.
use Rattle.std.specs.Prelude.{ℕ, List, [], ◌∷◌, ◌++◌, map, option_map, codes}
use Rattle.rtc_sdp_values.specs.declared.line_kind.LineKind.{LineKind}
use Rattle.rtc_sdp_values.specs.declared.line_kind.LineKind.TheVariants.{Audio, Video, Application, Unknown}
use Rattle.rtc_sdp_values.specs.declared.media_line.MediaLine.{MediaLine}
use Rattle.rtc_sdp_reader.specs.PlainPayloads.{formats_of}
use Rattle.rtc_sdp_reader.specs.PlainSources.{source_pairs}
use Rattle.rtc_sdp_grammar.specs.ConnectionTexts.{
  ufrag_line,
  password_line,
  fingerprint_line,
  candidate_line,
  message_size_line,
  sctp_init_line,
}
use Rattle.rtc_sdp_grammar.specs.LineTexts.{mid_line, setup_line, direction_line, media_line}
use Rattle.rtc_sdp_grammar.specs.MediaTexts.{extension_line, stream_line, layer_line, layer_list_line, source_pair_line}
use Rattle.rtc_sdp_writer.specs.MediaRows.{shown_stream, shown_sources, all_payload_lines, layers_in, all_source_lines}
use Rattle.rtc_sdp_writer.specs.Rows.{in_order, single, optional}

-- what every line part has
unfoldable pub transport_groups : MediaLine → List (List (List ℕ))
transport_groups line =
    single (codes "c=IN IP4 0.0.0.0")
    ∷ (map candidate_line line.candidates
    ∷ (optional ufrag_line (option_map (λ creds. creds.ufrag) line.creds)
    ∷ (optional password_line (option_map (λ creds. creds.pass) line.creds)
    ∷ (single (codes "a=ice-options:trickle")
    ∷ (optional fingerprint_line line.fingerprint
    ∷ (optional setup_line line.setup
    ∷ (single (mid_line line.mid)
    ∷ [])))))))

-- what the line part of a medium has besides
unfoldable pub media_groups : LineKind → MediaLine → List (List (List ℕ))
media_groups kind line =
    map extension_line line.exts
    ∷ (single (direction_line line.dir)
    ∷ (optional stream_line (shown_stream line)
    ∷ (single (codes "a=rtcp-mux")
    ∷ (all_payload_lines kind line.payloads
    ∷ (map layer_line (layers_in line.simulcast)
    ∷ (optional layer_list_line line.simulcast
    ∷ (all_source_lines line.cname line.msid (shown_sources line)
    ∷ (map source_pair_line (source_pairs (shown_sources line))
    ∷ []))))))))

-- what that of the data channels has besides (RFC 8841, sections 5 and 6)
unfoldable pub channel_groups : MediaLine → List (List (List ℕ))
channel_groups line =
    single (codes "a=sctp-port:5000")
    ∷ (optional message_size_line line.max_message_size
    ∷ (optional sctp_init_line line.sctp_init
    ∷ []))

abbrev pub kind_groups : LineKind → MediaLine → List (List (List ℕ))
kind_groups Audio = media_groups Audio
kind_groups Video = media_groups Video
kind_groups Application = channel_groups
kind_groups Unknown = media_groups Unknown

-- the lines behind the `m=` line
abbrev pub inner_rows : MediaLine → List (List ℕ)
inner_rows line = in_order (transport_groups line ++ kind_groups line.kind line)

-- the lines of a line part
unfoldable pub line_rows : MediaLine → List (List ℕ)
line_rows line = media_line line.kind line.disabled (formats_of line.payloads) ∷ inner_rows line

-- those of all line parts
abbrev pub all_line_rows : List MediaLine → List (List ℕ)
all_line_rows [] = []
all_line_rows (line ∷ rest) = line_rows line ++ all_line_rows rest
