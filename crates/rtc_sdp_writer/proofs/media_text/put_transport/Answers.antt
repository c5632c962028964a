use Rattle.std.proofs.Common.{map}
use Rattle.std.specs.Prelude.{string_bytes, codes, option_map}
use Rattle.rtc_sdp_grammar.specs.ConnectionTexts.{ufrag_line, password_line, fingerprint_line, candidate_line}
use Rattle.rtc_sdp_grammar.specs.LineTexts.{mid_line, setup_line}
use Rattle.rtc_sdp_writer.specs.LineRows.{transport_groups}
use Rattle.rtc_sdp_writer.specs.Rows.{optional}
use Rattle.rtc_sdp_writer.proofs.Orders.{transport_written}
use Rattle.rtc_sdp_writer.proofs.media_text.put_transport.Goals as goal

pub returns : goal.returns
unfolding transport_groups
returns c =
    let line = c.args.line.now in
    rw (
      c.in_ok-put_mid.ensures,
      c.in_ok-put_setup_if_any.ensures,
      c.in_ok-put_fingerprint_if_any.ensures,
      c.in_ok-push_str-2.ensures.bytes,
      c.in_ok-put_creds_if_any.ensures,
      c.in_ok-put_candidates.ensures,
      c.in_ok-push_str.ensures.bytes,
      c.as_slice.ensures,
    )
    (transport_written (string_bytes c.args.out.now) (codes "c=IN IP4 0.0.0.0") (codes "a=ice-options:trickle") (mid_line line.mid) (map candidate_line line.candidates)
    (optional ufrag_line (option_map (λ creds. creds.ufrag) line.creds)) (optional password_line (option_map (λ creds. creds.pass) line.creds)) (optional fingerprint_line line.fingerprint) (optional setup_line line.setup))
