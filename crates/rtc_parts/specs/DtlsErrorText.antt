-- What errors of a DTLS part print.
use Rattle.std.specs.Prelude.{ℕ, List, codes}
use Rattle.rtc_parts.specs.declared.dtls_error.DtlsError.{DtlsError}
use Rattle.rtc_parts.specs.declared.dtls_error.DtlsError.TheVariants.{WouldBlock, Fault, Alloc}

unfoldable pub dtls_error_text : DtlsError → List ℕ
dtls_error_text WouldBlock = codes "DTLS handshake pending"
dtls_error_text Fault = codes "DTLS error"
dtls_error_text Alloc = codes "out of memory"
