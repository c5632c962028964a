-- What each call leaves of what a plain agent held.
use Rattle.std.specs.Prelude.{
  ℕ,
  ◌+◌,
  ◌-◌,
  ◌%◌,
  ◌^◌,
  ◌==◌,
  ◌&&◌,
  not,
  nat_le,
  min,
  if◌then◌else◌,
  Bool,
  true,
  List,
  [],
  ◌∷◌,
  ◌++◌,
  Option,
  Some,
  None,
}
use Rattle.std.specs.Str.{bytes_eq}
use Rattle.rtc_wire.specs.declared.addr.Addr.{Addr}
use Rattle.rtc_wire.specs.declared.protocol.Protocol.{Protocol}
use Rattle.rtc_wire.specs.declared.transmit.Transmit.{Transmit}
use Rattle.rtc_sdp_values.specs.declared.candidate.Candidate.{Candidate}
use Rattle.rtc_sdp_values.specs.declared.ice_creds.IceCreds.{IceCreds}
use Rattle.rtc_parts.specs.declared.ice_connection_state.IceConnectionState.{IceConnectionState}
use Rattle.rtc_parts.specs.declared.ice_connection_state.IceConnectionState.TheVariants.{New, Checking, Connected, Completed}
use Rattle.rtc_parts.specs.declared.ice_connection_state.IceConnectionState.TheVariants.{Disconnected}
use Rattle.rtc_parts.specs.declared.ice_event.IceEvent.{IceEvent}
use Rattle.rtc_parts.specs.declared.ice_event.IceEvent.TheVariants.{IceRestart, StateChange, DiscoveredRecv, NominatedSend}
use Rattle.rtc_plain_ice.specs.declared.check.Ends.{Ends}
use Rattle.rtc_plain_ice.specs.declared.check.Check.{Check}
use Rattle.rtc_plain_ice.specs.Messages.{IceMessage, CHECK, RESPONSE, check_number, message_bytes, ice_message_in}
use Rattle.rtc_plain_ice.specs.Places.{without_place, with_addr}
use Rattle.rtc_plain_ice.specs.Contents.{IceContents, next_ends}

unfoldable pub lite_set : Bool → IceContents → IceContents
lite_set on p = record p { settings = record p.settings { lite = on } }

unfoldable pub controlling_set : Bool → IceContents → IceContents
controlling_set on p = record p { controlling = on }

unfoldable pub local_set : IceCreds → IceContents → IceContents
local_set creds p = record p { settings = record p.settings { local = creds } }

unfoldable pub remote_set : IceCreds → IceContents → IceContents
remote_set creds p = record p { settings = record p.settings { remote = Some creds } }

unfoldable pub rto_set : ℕ → IceContents → IceContents
rto_set initial p = record p { rto = initial }

-- a restart gives local credentials, drops the outstanding check, and clears the local candidates unless they are kept. The pair in use is
-- kept
unfoldable pub restarted : IceCreds → Bool → IceContents → IceContents
restarted creds keeps p = record p {
  settings = record p.settings { local = creds; candidates = if keeps then p.settings.candidates else [] };
  check = None;
  events = p.events ++ IceRestart ∷ [];
}

unfoldable pub local_added : Candidate → IceContents → IceContents
local_added c p = record p { settings = record p.settings { candidates = p.settings.candidates ++ c ∷ [] } }

unfoldable pub remote_added : Candidate → IceContents → IceContents
remote_added c p = record p { remote_candidates = p.remote_candidates ++ c ∷ [] }

-- a candidate is used no more, on neither side
unfoldable pub withdrawn : Candidate → IceContents → IceContents
withdrawn c p = record p {
  settings = record p.settings { candidates = without_place c p.settings.candidates };
  remote_candidates = without_place c p.remote_candidates;
}

-- a pair is nominated: no check is outstanding any more, and it is reported
unfoldable pub nominated_with : Ends → IceContents → IceContents
nominated_with ends p = record p {
  nominated = true;
  check = None;
  state = Connected;
  events = p.events ++ StateChange Connected ∷ NominatedSend ends.proto ends.source ends.destination ∷ [];
}

-- a check of the other side is reported and answered, with its fragments exchanged
unfoldable pub heard_check : Protocol → (source destination : Addr) → IceMessage → IceContents → IceContents
heard_check proto source destination message p = record p {
  discovered = with_addr source p.discovered;
  events = p.events ++ DiscoveredRecv proto source ∷ [];
  transmits = p.transmits ++ record {
    proto = proto;
    source = destination;
    destination = source;
    contents = message_bytes 1 message.number message.sender message.receiver;
  } ∷ [];
}

-- and a lite agent that has no pair takes the pair by which it was received
abbrev pub check_came : Protocol → (source destination : Addr) → IceMessage → IceContents → IceContents
check_came proto source destination message p =
    if p.settings.lite && not p.nominated
    then nominated_with (record {
      proto = proto;
      source = destination;
      destination = source;
    }) (heard_check proto source destination message p)
    else heard_check proto source destination message p

unfoldable pub timed_response : ℕ → Check → IceContents → IceContents
timed_response now c p = record p { rtt = Some (now - c.made) }

-- a response with the number of the outstanding check nominates its pair
abbrev pub response_came : Option Check → ℕ → List ℕ → IceContents → IceContents
response_came None now number p = p
response_came (Some c) now number p =
    if bytes_eq (check_number c.number) number then nominated_with c.ends (timed_response now c p) else p

-- what a message does; others than checks for this agent and responses do nothing
abbrev pub message_came : Option IceMessage → ℕ → Protocol → (source destination : Addr) → IceContents → IceContents
message_came None now proto source destination p = p
message_came (Some m) now proto source destination p =
    if m.kind == CHECK
    then (if bytes_eq m.receiver p.settings.local.ufrag then check_came proto source destination m p else p)
    else if m.kind == RESPONSE then response_came p.check now m.number p else p

abbrev pub ice_input_taken : ℕ → Protocol → (source destination : Addr) → List ℕ → IceContents → IceContents
ice_input_taken now proto source destination bytes p = message_came (ice_message_in bytes) now proto source destination p

-- the first check makes the state Checking, which is reported
abbrev pub state_checked : IceConnectionState → IceConnectionState
state_checked New = Checking
state_checked Checking = Checking
state_checked Connected = Connected
state_checked Completed = Completed
state_checked Disconnected = Disconnected

abbrev pub checking_told : IceConnectionState → List IceEvent
checking_told New = StateChange Checking ∷ []
checking_told Checking = []
checking_told Connected = []
checking_told Completed = []
checking_told Disconnected = []

abbrev pub remote_ufrag : Option IceCreds → List ℕ
remote_ufrag None = []
remote_ufrag (Some creds) = creds.ufrag

-- a check is made of a pair. Checks are numbered from 1, modulo 2^64
unfoldable pub checked : ℕ → Ends → IceContents → IceContents
checked now ends p =
    let number = (p.checks + 1) % 2 ^ 64 in
    record p {
      state = state_checked p.state;
      checks = number;
      check = Some (record { number = number; ends = ends; made = now; due = min (now + p.rto) (2 ^ 64 - 1) });
      events = p.events ++ checking_told p.state;
      transmits = p.transmits ++ record {
        proto = ends.proto;
        source = ends.source;
        destination = ends.destination;
        contents = message_bytes 0 (check_number number) (remote_ufrag p.settings.remote) p.settings.local.ufrag;
      } ∷ [];
    }

-- whether a check is due: none is outstanding, or it was made long enough ago
abbrev pub is_due : ℕ → Option Check → Bool
is_due now None = true
is_due now (Some c) = nat_le c.due now

abbrev pub timed_with : Option Ends → ℕ → IceContents → IceContents
timed_with None now p = p
timed_with (Some ends) now p = if is_due now p.check then checked now ends p else p

abbrev pub ice_time_passed : ℕ → IceContents → IceContents
ice_time_passed now p = timed_with (next_ends p) now p

abbrev pub ice_event_given : List IceEvent → IceContents → IceContents
ice_event_given events p = record p { events = events }

abbrev pub ice_transmit_given : List Transmit → IceContents → IceContents
ice_transmit_given transmits p = record p { transmits = transmits }
