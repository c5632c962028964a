use Rattle.std.proofs.Common.{map, refl, get_or}
use Rattle.std.specs.Prelude.{string_bytes}
use Rattle.rtc_wire_text.specs.Lines.{text_of, crlf}
use Rattle.rtc_sdp_grammar.specs.MediaTexts.{extension_line}
use Rattle.rtc_sdp_values.specs.declared.extension.Extension.TheVariants.{AudioLevel}
use Rattle.rtc_sdp_writer.proofs.Orders.{more_put}
use Rattle.rtc_sdp_writer.proofs.layer_text.put_extensions.Goals as goal

pub loop-row-preserved : goal.loop-row-preserved
loop-row-preserved c =
    more_put (λ xs. text_of (map extension_line xs)) (λ x. crlf (extension_line x)) (λ x xs. refl) (string_bytes c.loop-row.out) (string_bytes c.put_extension.new.out) _ c.args.exts.now c.loop-row.row-index (0, AudioLevel) (get_or c.args.exts.now c.loop-row.row-index (0, AudioLevel)) c.loop-row-test.true refl c.in_ok-put_extension.ensures c.loop-row.invariant
