-- What each call leaves of what a plain part held.
use Rattle.std.specs.Prelude.{ℕ, nat_le, max, if◌then◌else◌, Bool, true, false, List, [], ◌∷◌, ◌++◌}
use Rattle.rtc_plain_dtls.specs.declared.output.Output.{Output}
use Rattle.rtc_plain_dtls.specs.declared.output.Output.TheVariants.{PeerCert, Keying, Connected, Data, Close}
use Rattle.rtc_plain_dtls.specs.declared.phase.Phase.{Phase}
use Rattle.rtc_plain_dtls.specs.declared.phase.Phase.TheVariants.{
  NoRole,
  AwaitStart,
  AwaitCert,
  AwaitHello,
  AwaitFinish,
  FinishedActive,
  FinishedPassive,
}
use Rattle.rtc_plain_dtls.specs.Frames as said
use Rattle.rtc_plain_dtls.specs.Frames.{
  DtlsFrame,
  hello_packet,
  certificate_packet,
  finish_packet,
  data_packet,
  close_packet,
  dtls_frame_in,
}
use Rattle.rtc_plain_dtls.specs.Contents.{DtlsContents, asks_of}

-- outputs and packets are put at the ends of their queues, and the handshake continues
unfoldable pub went_on : Phase → List Output → List (List ℕ) → DtlsContents → DtlsContents
went_on phase outputs packets p = record p { phase = phase; outputs = p.outputs ++ outputs; packets = p.packets ++ packets }

unfoldable pub certificate_kept : List ℕ → DtlsContents → DtlsContents
certificate_kept cert p = record p { cert = cert }

-- the first role is kept
abbrev pub role_taken : Bool → Phase → Phase
role_taken true NoRole = AwaitStart
role_taken false NoRole = AwaitHello
role_taken active AwaitStart = AwaitStart
role_taken active AwaitCert = AwaitCert
role_taken active AwaitHello = AwaitHello
role_taken active AwaitFinish = AwaitFinish
role_taken active FinishedActive = FinishedActive
role_taken active FinishedPassive = FinishedPassive

unfoldable pub role_set : Bool → DtlsContents → DtlsContents
role_set active p = record p { phase = role_taken active p.phase }

-- the active side begins
abbrev pub start_came : Phase → DtlsContents → DtlsContents
start_came NoRole p = p
start_came AwaitStart p = went_on AwaitCert [] (hello_packet p.cert ∷ []) p
start_came AwaitCert p = p
start_came AwaitHello p = p
start_came AwaitFinish p = p
start_came FinishedActive p = p
start_came FinishedPassive p = p

-- a hello is answered by the certificate, and that of the other side is reported once
abbrev pub hello_came : Phase → List ℕ → DtlsContents → DtlsContents
hello_came NoRole cert p = p
hello_came AwaitStart cert p = p
hello_came AwaitCert cert p = p
hello_came AwaitHello cert p = went_on AwaitFinish (PeerCert cert ∷ []) (certificate_packet p.cert ∷ []) p
hello_came AwaitFinish cert p = went_on AwaitFinish [] (certificate_packet p.cert ∷ []) p
hello_came FinishedActive cert p = p
hello_came FinishedPassive cert p = p

-- the active side is finished by the other side's certificate, which it answers each time
abbrev pub certificate_came : Phase → List ℕ → DtlsContents → DtlsContents
certificate_came NoRole cert p = p
certificate_came AwaitStart cert p = went_on FinishedActive (PeerCert cert ∷ Keying ∷ Connected ∷ []) (finish_packet ∷ []) p
certificate_came AwaitCert cert p = went_on FinishedActive (PeerCert cert ∷ Keying ∷ Connected ∷ []) (finish_packet ∷ []) p
certificate_came AwaitHello cert p = p
certificate_came AwaitFinish cert p = p
certificate_came FinishedActive cert p = went_on FinishedActive [] (finish_packet ∷ []) p
certificate_came FinishedPassive cert p = p

-- the passive side is finished by a finish
abbrev pub finish_came : Phase → DtlsContents → DtlsContents
finish_came NoRole p = p
finish_came AwaitStart p = p
finish_came AwaitCert p = p
finish_came AwaitHello p = p
finish_came AwaitFinish p = went_on FinishedPassive (Keying ∷ Connected ∷ []) [] p
finish_came FinishedActive p = p
finish_came FinishedPassive p = p

-- and by application data. Data that is received before the other side's certificate is ignored
abbrev pub data_came : Phase → List ℕ → DtlsContents → DtlsContents
data_came NoRole bytes p = p
data_came AwaitStart bytes p = p
data_came AwaitCert bytes p = p
data_came AwaitHello bytes p = p
data_came AwaitFinish bytes p = went_on FinishedPassive (Keying ∷ Connected ∷ Data bytes ∷ []) [] p
data_came FinishedActive bytes p = went_on FinishedActive (Data bytes ∷ []) [] p
data_came FinishedPassive bytes p = went_on FinishedPassive (Data bytes ∷ []) [] p

-- the other side's close is reported once
unfoldable pub close_told : DtlsContents → DtlsContents
close_told p = record p { notified = true; outputs = p.outputs ++ Close ∷ [] }

abbrev pub dtls_close_came : Bool → DtlsContents → DtlsContents
dtls_close_came true p = p
dtls_close_came false p = close_told p

abbrev pub frame_came : DtlsFrame → DtlsContents → DtlsContents
frame_came said.Start p = start_came p.phase p
frame_came (said.Hello cert) p = hello_came p.phase cert p
frame_came (said.Certificate cert) p = certificate_came p.phase cert p
frame_came said.Finish p = finish_came p.phase p
frame_came (said.Data bytes) p = data_came p.phase bytes p
frame_came said.Close p = dtls_close_came p.notified p
frame_came said.Unknown p = p

abbrev pub packet_came : List ℕ → DtlsContents → DtlsContents
packet_came packet p = frame_came (dtls_frame_in packet) p

-- application data is queued
abbrev pub data_queued : List ℕ → DtlsContents → DtlsContents
data_queued bytes p = went_on p.phase [] (data_packet bytes ∷ []) p

-- a due timer sends again what the other side has not answered
abbrev pub sent_again : Phase → DtlsContents → DtlsContents
sent_again NoRole p = p
sent_again AwaitStart p = went_on AwaitCert [] (hello_packet p.cert ∷ []) p
sent_again AwaitCert p = went_on AwaitCert [] (hello_packet p.cert ∷ []) p
sent_again AwaitHello p = p
sent_again AwaitFinish p = went_on AwaitFinish [] (certificate_packet p.cert ∷ []) p
sent_again FinishedActive p = p
sent_again FinishedPassive p = p

unfoldable pub moment_taken : ℕ → DtlsContents → DtlsContents
moment_taken now p = record p { greatest = max p.greatest now }

-- time passes: a timer is due once its moment is reached
abbrev pub dtls_time_passed : ℕ → DtlsContents → DtlsContents
dtls_time_passed now p = moment_taken now (if nat_le (asks_of p) now then sent_again p.phase p else p)

-- a close is sent if there is a role
abbrev pub close_packets : Phase → List (List ℕ)
close_packets NoRole = []
close_packets AwaitStart = close_packet ∷ []
close_packets AwaitCert = close_packet ∷ []
close_packets AwaitHello = close_packet ∷ []
close_packets AwaitFinish = close_packet ∷ []
close_packets FinishedActive = close_packet ∷ []
close_packets FinishedPassive = close_packet ∷ []

unfoldable pub dtls_shut_down : DtlsContents → DtlsContents
dtls_shut_down p = record p { closed = true; packets = p.packets ++ close_packets p.phase }

abbrev pub dtls_packet_given : List (List ℕ) → DtlsContents → DtlsContents
dtls_packet_given packets p = record p { packets = packets }

abbrev pub dtls_output_given : List Output → DtlsContents → DtlsContents
dtls_output_given outputs p = record p { outputs = outputs }
