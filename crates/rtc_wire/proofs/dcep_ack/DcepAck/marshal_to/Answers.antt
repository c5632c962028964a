use Rattle.std.proofs.Common.{ℕ, ◌<◌, List, [], ◌∷◌, length, slice_set, refl, arith}
use Rattle.rtc_wire.specs.DcepAck.{IsAck}
use Rattle.rtc_wire.proofs.dcep_ack.DcepAck.marshal_to.Goals as goal

-- a buffer with an acknowledgement's type in front begins with it
begins : (buf : List ℕ) → 0 < length buf → IsAck (slice_set buf 0 2)
begins [] room = absurd (omega arith)
begins (first ∷ rest) room = refl

pub returns-clause-again : goal.returns-clause-again
returns-clause-again c = begins c.args.buf.now c.requires
