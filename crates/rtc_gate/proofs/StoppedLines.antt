-- The lines of calls, one line at a time.
use Rattle.std.proofs.Common.{◌<◌, ℕ, List, length, take, get_or, Bor}
use Rattle.std.proofs.lemmas.List.{length-map}
use Rattle.rtc_gate.specs.CallLines.{IsCallLine}
use Rattle.rtc_gate.specs.GateScript.{HaveCallLines}
use Rattle.rtc_gate.specs.GateScript.{StopsAt}
use Rattle.rtc_gate.proofs.ZipLemmas.{texts, no_zip_at}
use Rattle.rtc_gate_calls.specs.declared.gate_call.GateCall.{GateCall}

-- lines stop being lines of calls at the first that no call has
pub stops_at_no_call : (lines : List (Bor (List ℕ))) (i : ℕ) (d : Bor (List ℕ)) (calls : List GateCall) → i < length lines → HaveCallLines (take i (texts lines)) calls → ((call : GateCall) → IsCallLine (get_or lines i d).now call → ⊥) → StopsAt (texts lines) i
stops_at_no_call lines i d calls within are none = (rw length-map within, (calls, are), no_zip_at IsCallLine lines i d within none)
