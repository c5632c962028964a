use Rattle.std.proofs.Common.{map, refl}
use Rattle.std.specs.Prelude.{string_bytes}
use Rattle.rtc_wire_text.specs.Lines.{text_of, crlf}
use Rattle.rtc_sdp_grammar.specs.ConnectionTexts.{candidate_line}
use Rattle.rtc_sdp_writer.proofs.Orders.{more_put}
use Rattle.rtc_sdp_writer.proofs.connection_text.put_candidates.Goals as goal

pub loop-candidate-preserved : goal.loop-candidate-preserved
loop-candidate-preserved c =
    more_put (λ xs. text_of (map candidate_line xs)) (λ x. crlf (candidate_line x)) (λ x xs. refl) (string_bytes c.loop-candidate.out) (string_bytes c.put_candidate_line.new.out) _ c.args.candidates.now c.loop-candidate.candidate-index c.candidate-item.result c.candidate-item.result c.loop-candidate-test.true c.candidate-item.is c.in_ok-put_candidate_line.ensures c.loop-candidate.invariant
