use Rattle.std.proofs.Common.{refl, ap}
use Rattle.rtc_c_handle.specs.Transport.{IsPolled, IsNotPolled}
use Rattle.rtc_c_handle.specs.declared.output_bytes.OutputBytes.{OutputBytes}
use Rattle.rtc_c_handle.proofs.held.Held.poll_output.Goals as goal

pub returns-in-Ok : goal.returns-in-Ok
returns-in-Ok c = IsPolled c.in-Ok.output c.in-Ok.ensures.polls refl
    (ap (λ (kept : OutputBytes). record {
      rtc = c.poll_output.new.self;
      token = c.args.self.now.token;
      text = c.args.self.now.text;
      wanted = c.args.self.now.wanted;
      output = kept;
    }) c.of_output.ensures)
    c.output_row.ensures

pub returns-in-Err : goal.returns-in-Err
returns-in-Err c = IsNotPolled c.in-Err.error c.in-Err.ensures.polls c.of_error.ensures refl refl
