-- Candidates and addresses that are found without a walk over them.
use Rattle.std.specs.Prelude.{◌≡◌, ◌==◌, ◌&&◌, ℕ, Bool, List, map}
use Rattle.std.specs.List.{list_any}
use Rattle.std.specs.Str.{bytes_eq}
use Rattle.indexmap.specs.IndexSet.{IndexSet, contains}
use Rattle.rtc_wire.specs.declared.addr.Addr.{Addr}
use Rattle.rtc_sdp_values.specs.declared.candidate.Candidate.{Candidate}
use Rattle.rtc_plain_ice.specs.declared.addr_key.AddrKey.{AddrKey}
use Rattle.rtc_plain_ice.specs.declared.place_key.PlaceKey.{PlaceKey}
use Rattle.rtc_plain_ice.specs.Places.{protocol_number}

abbrev pub addr_key : Addr → AddrKey
addr_key a = record { port = a.port; ip = a.ip }

abbrev pub place_key : Candidate → PlaceKey
place_key c = record { proto = protocol_number c.proto; addr = addr_key c.addr }

abbrev pub same_addr_key : AddrKey → AddrKey → Bool
same_addr_key a b = (a.port == b.port) && bytes_eq a.ip b.ip

abbrev pub same_place_key : PlaceKey → PlaceKey → Bool
same_place_key a b = (a.proto == b.proto) && same_addr_key a.addr b.addr

abbrev pub key_with : ℕ → AddrKey → PlaceKey
key_with proto addr = record { proto = proto; addr = addr }

-- whether a candidate has a key
abbrev pub has_key : PlaceKey → Candidate → Bool
has_key key c = same_place_key (place_key c) key

-- the addresses of keys
abbrev pub addrs_of : List AddrKey → List Addr
addrs_of keys = map (λ key. record { port = key.port; ip = key.ip }) keys

-- the places of the candidates are in the table, and no others
abbrev pub FindsPlaces : {S : Type 0} → IndexSet PlaceKey S → List Candidate → Type 0
FindsPlaces places candidates = (key : PlaceKey) → contains same_place_key places key ≡ list_any (has_key key) candidates
