-- The plain part as a part: what each call does, exactly.
use Rattle.std.specs.Prelude.{ℕ, ◌≡◌, ◌+◌, ◌≤◌, Bool, true, false, List, [], ◌∷◌, length, Result, Ok, Err}
use Rattle.std.specs.declared.alloc.AllocError.{AllocError}
use Rattle.rtc_parts.specs.declared.dtls_error.DtlsError.{DtlsError}
use Rattle.rtc_parts.specs.declared.dtls_error.DtlsError.TheVariants.{WouldBlock, Fault, Alloc}
use Rattle.rtc_parts.specs.DtlsDrawn.{DtlsDrawn, DrewPacket, DrewTimeout, drawn_bytes}
use Rattle.rtc_parts.specs.DtlsMeaning.{DtlsMeaning}
use Rattle.rtc_plain_dtls.specs.declared.output.Output.{Output}
use Rattle.rtc_plain_dtls.specs.Held.{output_drawn, outputs_units}
use Rattle.rtc_plain_dtls.specs.Contents.{DtlsContents, fresh_dtls, phase_is_finished, phase_version, asks_of}
use Rattle.rtc_plain_dtls.specs.Calls.{
  certificate_kept,
  role_set,
  packet_came,
  data_queued,
  dtls_time_passed,
  dtls_shut_down,
  dtls_packet_given,
  dtls_output_given,
}

-- a certificate is kept, or nothing changes if memory runs out
abbrev pub KeepsCert : DtlsContents → DtlsContents → Result (Unit {0}) AllocError → DtlsContents → Type 0
KeepsCert p done (Ok _) q = q ≡ done
KeepsCert p done (Err _) q = q ≡ p

-- a call that leaves these contents, or changes nothing if memory runs out. A plain part has no faults
abbrev pub LeavesDtls : DtlsContents → DtlsContents → Result (Unit {0}) DtlsError → DtlsContents → Type 0
LeavesDtls p done (Ok _) q = q ≡ done
LeavesDtls p done (Err WouldBlock) q = ⊥
LeavesDtls p done (Err Fault) q = ⊥
LeavesDtls p done (Err Alloc) q = q ≡ p

-- application data has to wait exactly if the handshake is not finished
abbrev pub SendsDtls : Bool → DtlsContents → DtlsContents → Result (Unit {0}) DtlsError → DtlsContents → Type 0
SendsDtls true p done r q = LeavesDtls p done r q
SendsDtls false p done r q = (r ≡ Err WouldBlock) × (q ≡ p)

-- a poll gives the oldest packet, then the oldest other output, and if there is none the moment that is asked for
abbrev pub PollsDtls : List (List ℕ) → List Output → DtlsContents → DtlsDrawn → DtlsContents → Type 0
PollsDtls (packet ∷ packets) outputs p drawn q = (drawn ≡ DrewPacket packet) × (length packet ≤ 2000) × (q ≡ dtls_packet_given packets p)
PollsDtls [] (output ∷ outputs) p drawn q = (drawn ≡ output_drawn output) × (length (drawn_bytes (output_drawn output)) ≤ 2000)
    × (q ≡ dtls_output_given outputs p)
PollsDtls [] [] p drawn q = (drawn ≡ DrewTimeout (asks_of p)) × (q ≡ p)

abbrev pub plain_dtls : DtlsMeaning DtlsContents
plain_dtls = record {
  fresh = λ p. p ≡ fresh_dtls;
  certificate_set = λ p cert r q. KeepsCert p (certificate_kept cert p) r q;
  activated = λ p active q. q ≡ role_set active p;
  version_set = λ p version q. q ≡ p;
  given = λ p packet r q. LeavesDtls p (packet_came packet p) r q;
  sent = λ p bytes r q. SendsDtls (phase_is_finished p.phase) p (data_queued bytes p) r q;
  timed = λ p now r q. LeavesDtls p (dtls_time_passed now p) r q;
  shut = λ p r q. LeavesDtls p (dtls_shut_down p) r q;
  polled = λ p drawn q. PollsDtls p.packets p.outputs p drawn q;
  closed = λ p. p.closed;
  finished = λ p. phase_is_finished p.phase;
  version = λ p. phase_version p.phase;
  held = λ p. length p.packets + length p.outputs;
  units = λ p. outputs_units p.outputs;
  packets = λ p. length p.packets;
  asks = asks_of;
  faults = λ p. 0;
}
