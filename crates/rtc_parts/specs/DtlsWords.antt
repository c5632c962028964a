-- What a list of acts of a DTLS part gave, took, sent and got.
use Rattle.std.specs.Prelude.{ℕ, List, [], ◌∷◌}
use Rattle.rtc_parts.specs.DtlsActs.{DtlsAct, Given, Taken, Sent, Got}

-- the packets given, in order
abbrev pub dtls_given : List DtlsAct → List (List ℕ)
dtls_given [] = []
dtls_given (Given packet ∷ acts) = packet ∷ dtls_given acts
dtls_given (_ ∷ acts) = dtls_given acts

-- the packets taken, in order
abbrev pub dtls_taken : List DtlsAct → List (List ℕ)
dtls_taken [] = []
dtls_taken (Taken packet ∷ acts) = packet ∷ dtls_taken acts
dtls_taken (_ ∷ acts) = dtls_taken acts

-- the application data sent, in order
abbrev pub dtls_sent : List DtlsAct → List (List ℕ)
dtls_sent [] = []
dtls_sent (Sent bytes ∷ acts) = bytes ∷ dtls_sent acts
dtls_sent (_ ∷ acts) = dtls_sent acts

-- the application data that was received, in order
abbrev pub dtls_got : List DtlsAct → List (List ℕ)
dtls_got [] = []
dtls_got (Got bytes ∷ acts) = bytes ∷ dtls_got acts
dtls_got (_ ∷ acts) = dtls_got acts

-- the acts by which packets were taken
abbrev pub takes : List (List ℕ) → List DtlsAct
takes [] = []
takes (packet ∷ packets) = Taken packet ∷ takes packets
