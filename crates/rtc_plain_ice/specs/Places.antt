-- When two candidates or addresses are the same, and lists of them.
use Rattle.std.specs.Prelude.{ℕ, ◌==◌, ◌&&◌, not, if◌then◌else◌, Bool, List, [], ◌∷◌, ◌++◌}
use Rattle.std.specs.List.{list_any, filter}
use Rattle.std.specs.Str.{bytes_eq}
use Rattle.rtc_wire.specs.declared.addr.Addr.{Addr}
use Rattle.rtc_wire.specs.declared.protocol.Protocol.{Protocol}
use Rattle.rtc_wire.specs.declared.protocol.Protocol.TheVariants.{Udp, Tcp, SslTcp, Tls}
use Rattle.rtc_sdp_values.specs.declared.candidate.Candidate.{Candidate}

-- protocols, distinguished by a number
abbrev pub protocol_number : Protocol → ℕ
protocol_number Udp = 0
protocol_number Tcp = 1
protocol_number SslTcp = 2
protocol_number Tls = 3

abbrev pub is_same_addr : Addr → Addr → Bool
is_same_addr a b = (a.port == b.port) && bytes_eq a.ip b.ip

-- candidates are the same if their addresses and protocols are
abbrev pub is_same_place : Candidate → Candidate → Bool
is_same_place a b = (protocol_number a.proto == protocol_number b.proto) && is_same_addr a.addr b.addr

-- whether a candidate is in a list
abbrev pub has_place : Candidate → List Candidate → Bool
has_place c candidates = list_any (λ x. is_same_place x c) candidates

-- a list without a candidate
abbrev pub without_place : Candidate → List Candidate → List Candidate
without_place c candidates = filter (λ x. not (is_same_place x c)) candidates

-- whether an address is that of a candidate
abbrev pub has_viable : Addr → List Candidate → Bool
has_viable a candidates = list_any (λ x. is_same_addr x.addr a) candidates

-- whether an address is in a list
abbrev pub has_addr : Addr → List Addr → Bool
has_addr a addresses = list_any (λ x. is_same_addr x a) addresses

-- a list of addresses with one more, if it is not there
abbrev pub with_addr : Addr → List Addr → List Addr
with_addr a addresses = if has_addr a addresses then addresses else addresses ++ a ∷ []
