-- The packets of the plain part, and what packets say. The first byte is the content type of a DTLS record (RFC 6347,
-- section 4.1): 21 for an alert, 22 for the handshake, 23 for application data.
use Rattle.std.specs.Prelude.{ℕ, ◌==◌, nat_le, if◌then◌else◌, List, [], ◌∷◌, length}
use Rattle.rtc_plain_dtls.specs.declared.frame.Frame as code
use Rattle.rtc_plain_dtls.specs.declared.frame.Frame.TheVariants as code_of

pub data DtlsFrame : Type 0 where
  Start : DtlsFrame
  Hello : (cert : List ℕ) → DtlsFrame
  Certificate : (cert : List ℕ) → DtlsFrame
  Finish : DtlsFrame
  Data : (bytes : List ℕ) → DtlsFrame
  Close : DtlsFrame
  Unknown : DtlsFrame

-- the packet with these bytes behind its marks
abbrev pub hello_packet : List ℕ → List ℕ
hello_packet cert = 22 ∷ 1 ∷ cert

abbrev pub certificate_packet : List ℕ → List ℕ
certificate_packet cert = 22 ∷ 2 ∷ cert

abbrev pub finish_packet : List ℕ
finish_packet = 22 ∷ 3 ∷ []

abbrev pub data_packet : List ℕ → List ℕ
data_packet bytes = 23 ∷ bytes

abbrev pub close_packet : List ℕ
close_packet = 21 ∷ 1 ∷ []

-- a finish and a close have nothing behind their marks
abbrev pub alone : DtlsFrame → List ℕ → DtlsFrame
alone frame [] = frame
alone frame (b ∷ bytes) = Unknown

-- what the bytes behind the content type of the handshake say
abbrev pub handshake_in : List ℕ → DtlsFrame
handshake_in [] = Unknown
handshake_in (mark ∷ bytes) =
    if nat_le (length bytes) 1900
    then (if mark == 1 then Hello bytes else if mark == 2 then Certificate bytes else if mark == 3 then alone Finish bytes else Unknown)
    else Unknown

-- and behind that of an alert
abbrev pub alert_in : List ℕ → DtlsFrame
alert_in [] = Unknown
alert_in (mark ∷ bytes) = if mark == 1 then alone Close bytes else Unknown

-- what a packet says. More than 1900 bytes behind the marks say nothing
abbrev pub dtls_frame_in : List ℕ → DtlsFrame
dtls_frame_in [] = Start
dtls_frame_in (kind ∷ bytes) =
    if kind == 23 then (if nat_le (length bytes) 1900 then Data bytes else Unknown)
    else if kind == 22 then handshake_in bytes
    else if kind == 21 then alert_in bytes
    else Unknown

-- what a borrowed frame shows
abbrev pub frame_shown : code.Frame → DtlsFrame
frame_shown code_of.Start = Start
frame_shown (code_of.Hello cert) = Hello cert.now
frame_shown (code_of.Certificate cert) = Certificate cert.now
frame_shown code_of.Finish = Finish
frame_shown (code_of.Data bytes) = Data bytes.now
frame_shown code_of.Close = Close
frame_shown code_of.Unknown = Unknown

-- the bytes in a frame
abbrev pub frame_bytes : DtlsFrame → List ℕ
frame_bytes (Hello cert) = cert
frame_bytes (Certificate cert) = cert
frame_bytes (Data bytes) = bytes
frame_bytes _ = []
