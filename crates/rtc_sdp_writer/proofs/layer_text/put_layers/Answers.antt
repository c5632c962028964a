use Rattle.std.specs.Prelude.{string_bytes}
use Rattle.rtc_sdp_writer.proofs.Orders.{layers_written}
use Rattle.rtc_sdp_writer.proofs.layer_text.put_layers.Goals as goal

pub returns : goal.returns
returns c = rw (c.in_ok-put_layers_one_way-2.ensures, c.in_ok-put_layers_one_way.ensures, c.as_slice-2.ensures, c.as_slice.ensures) (layers_written (string_bytes c.args.out.now) c.args.simulcast.now)
