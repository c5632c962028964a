-- Whole descriptions, computed from the definitions.
use Rattle.std.proofs.Common.{◌≡◌, false, [], ◌∷◌, Some, None, Ok, Err, refl}
use Rattle.std.specs.Prelude.{codes}
use Rattle.rtc_wire_text.specs.Numbers.{number}
use Rattle.rtc_sdp_values.specs.declared.direction.Direction.TheVariants.{SendOnly}
use Rattle.rtc_sdp_values.specs.declared.line_kind.LineKind.TheVariants.{Audio}
use Rattle.rtc_sdp_values.specs.declared.setup.Setup.TheVariants.{ActPass}
use Rattle.rtc_sdp_grammar.specs.ItemForm.{item_of}
use Rattle.rtc_sdp_grammar.specs.Table.{attribute_item}
use Rattle.rtc_sdp_reader.specs.Payloads.{payload_rows}
use Rattle.rtc_sdp_reader.specs.Sources.{sources}
use Rattle.rtc_sdp_reader.specs.SessionValue.{sdp_of}
use Rattle.rtc_sdp_reader.specs.Reading.{reading}

-- the example of RFC 8866, section 5, is refused where its first media line stands, which is no line of the profile
no_line_of_the_profile : reading (codes "v=0\r\no=jdoe 3724394400 3724394405 IN IP4 198.51.100.1\r\ns=Call to John Smith\r\nt=0 0\r\nm=audio 49170 RTP/AVP 0\r\nm=video 51372 RTP/AVP 99\r\na=rtpmap:99 h263-1998/90000\r\n") ≡ Err 5
unfolding item_of attribute_item number
no_line_of_the_profile = refl

-- that of RFC 8829, section 7.1, with fewer lines
one_line : reading (codes "v=0\r\no=- 4962303333179871722 1 IN IP4 0.0.0.0\r\ns=-\r\nt=0 0\r\na=group:BUNDLE a1\r\nm=audio 9 UDP/TLS/RTP/SAVPF 96 0\r\na=mid:a1\r\na=setup:actpass\r\na=sendonly\r\na=sendrecv\r\na=rtpmap:96 opus/48000/2\r\n")
    ≡ Ok (record {
      id = 4962303333179871722;
      groups = (codes "a1" ∷ []) ∷ [];
      ice_lite = false;
      creds = None;
      fingerprint = None;
      setup = None;
      lines = record {
        kind = Audio;
        disabled = false;
        mid = codes "a1";
        dir = SendOnly;
        candidates = [];
        creds = None;
        fingerprint = None;
        setup = Some ActPass;
        payloads = record { pt = record { 0 = 96 }; rtx = None; red = None; codec = codes "opus"; clock = 48000; channels = 2; fmtp = [] } ∷ [];
        exts = [];
        simulcast = None;
        msid = None;
        cname = None;
        ssrcs = [];
        max_message_size = None;
        sctp_init = None;
      }
          ∷ [];
    })
unfolding item_of attribute_item number payload_rows sources sdp_of
one_line = refl

-- a line part without a `mid` is refused at its `m=` line, also where a line behind it is malformed
refused_at_its_head : reading (codes "v=0\no=- 1 1 IN IP4 0.0.0.0\nm=audio 9 UDP/TLS/RTP/SAVPF 0\na=setup:holdconn\n") ≡ Err 3
unfolding item_of attribute_item number
refused_at_its_head = refl
