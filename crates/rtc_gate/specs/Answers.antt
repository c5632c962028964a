-- What the program does and returns.
use Rattle.std.specs.Prelude.{◌≡◌, ℕ, List, codes, Option}
use Rattle.std.specs.Io.KnownBytes.{Appends}
use Rattle.rtc_io.specs.Programs.{Program, ReadsInput}
use Rattle.rtc_gate_calls.specs.GateState.{GateState}
use Rattle.rtc_gate_calls.specs.Histories.{RunsCalls}
use Rattle.rtc_gate_calls.specs.declared.gate_call.GateCall.{GateCall}
use Rattle.rtc_gate_calls.specs.declared.gate_reply.GateReply.{GateReply}
use Rattle.rtc_gate.specs.GateScript.{IsGateScript, IsRefusedScript}
use Rattle.rtc_gate.specs.ReplyLines.{reply_lines}
use Rattle.rtc_gate.specs.declared.script_error.ScriptError.TheVariants.{Line}

-- This text is the replies of a gateway that was empty to these calls.
pub record AreRepliesTo (calls : List GateCall) (text : List ℕ) : Type 0 where
  pub replies : List GateReply
  pub gate : GateState
  pub runs : RunsCalls calls replies gate
  pub is : text ≡ reply_lines replies

-- the texts of the program: it reads scripts, and prints for each the replies to its calls
abbrev pub gate_program : Program (List GateCall)
gate_program = record {
  usage = codes "usage: rtc_gate run\n";
  subject = codes "script";
  IsRead = IsGateScript;
  IsRefusedAt = λ bytes line. IsRefusedScript bytes (Line line);
  IsAnswer = AreRepliesTo;
}

-- A gateway that was empty performed these calls, and its replies were written.
pub record WritesReplies (calls : List GateCall) (written written' : Option (List ℕ)) : Type 0 where
  pub replies : List GateReply
  pub gate : GateState
  pub runs : RunsCalls calls replies gate
  pub told : Appends written written' (reply_lines replies)

-- A script was read to the end of the input, and its calls were performed.
pub record RunsGateScript (left left' written written' : Option (List ℕ)) : Type 0 where
  pub calls : List GateCall
  pub read : ReadsInput left left' (λ bytes. IsGateScript bytes calls)
  pub writes : WritesReplies calls written written'
