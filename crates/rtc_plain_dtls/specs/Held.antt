-- Outputs that are no packets, and what a poll gives for them.
use Rattle.std.specs.Prelude.{ℕ, ◌+◌, List, [], ◌∷◌, replicate}
use Rattle.rtc_parts.specs.declared.srtp_profile.SrtpProfile.TheVariants.{AeadAes128Gcm}
use Rattle.rtc_parts.specs.DtlsDrawn.{DtlsDrawn, DrewConnected, DrewKeying, DrewCert, DrewData, DrewClose, drawn_units}
use Rattle.rtc_plain_dtls.specs.declared.output.Output.{Output}
use Rattle.rtc_plain_dtls.specs.declared.output.Output.TheVariants.{PeerCert, Keying, Connected, Data, Close}

-- the keys of media: 56 zero bytes
abbrev pub key_bytes : List ℕ
key_bytes = replicate 56 0

abbrev pub output_drawn : Output → DtlsDrawn
output_drawn (PeerCert cert) = DrewCert cert
output_drawn Keying = DrewKeying key_bytes AeadAes128Gcm
output_drawn Connected = DrewConnected
output_drawn (Data bytes) = DrewData bytes
output_drawn Close = DrewClose

-- the units of input that outputs are: one for each, and for application data its length besides
abbrev pub outputs_units : List Output → ℕ
outputs_units [] = 0
outputs_units (output ∷ outputs) = drawn_units (output_drawn output) + outputs_units outputs
