-- What a plain agent holds, and what it returns of itself.
use Rattle.std.specs.Prelude.{
  ℕ,
  ◌&&◌,
  ◌||◌,
  not,
  nat_le,
  if◌then◌else◌,
  Bool,
  true,
  false,
  List,
  [],
  ◌∷◌,
  length,
  Option,
  Some,
  None,
  is_some,
}
use Rattle.std.specs.Str.{bytes_eq}
use Rattle.rtc_wire.specs.declared.addr.Addr.{Addr}
use Rattle.rtc_wire.specs.declared.transmit.Transmit.{Transmit}
use Rattle.rtc_sdp_values.specs.declared.candidate.Candidate.{Candidate}
use Rattle.rtc_sdp_values.specs.declared.ice_creds.IceCreds.{IceCreds}
use Rattle.rtc_parts.specs.declared.ice_connection_state.IceConnectionState.{IceConnectionState}
use Rattle.rtc_parts.specs.declared.ice_connection_state.IceConnectionState.TheVariants.{New}
use Rattle.rtc_parts.specs.declared.ice_event.IceEvent.{IceEvent}
use Rattle.rtc_parts.specs.IceMeaning.{IceSettings}
use Rattle.rtc_plain_ice.specs.declared.check.Ends.{Ends}
use Rattle.rtc_plain_ice.specs.declared.check.Check.{Check}
use Rattle.rtc_plain_ice.specs.Messages.{IceMessage, ice_message_in}
use Rattle.rtc_plain_ice.specs.Places.{has_viable, has_addr}

pub record IceContents : Type 0 where
  pub settings : IceSettings
  pub controlling : Bool
  pub remote_candidates : List Candidate
  -- the addresses from which checks were received, each once
  pub discovered : List Addr
  pub state : IceConnectionState
  -- the span from a check to the next, in nanoseconds
  pub rto : ℕ
  -- the number of the last check, 0 before the first
  pub checks : ℕ
  -- the check without a response so far
  pub check : Option Check
  pub nominated : Bool
  -- from the last check to its response
  pub rtt : Option ℕ
  pub events : List IceEvent
  pub transmits : List Transmit

-- an agent as it is made
abbrev pub fresh_ice : IceContents
fresh_ice = record {
  settings = record { lite = false; local = record { ufrag = []; pass = [] }; remote = None; candidates = [] };
  controlling = false;
  remote_candidates = [];
  discovered = [];
  state = New;
  rto = 250_000_000;
  checks = 0;
  check = None;
  nominated = false;
  rtt = None;
  events = [];
  transmits = [];
}

-- whether the fragments of both sides are known and fit a message
abbrev pub ufrags_fit : Option IceCreds → List ℕ → Bool
ufrags_fit None local = false
ufrags_fit (Some remote) local = nat_le (length remote.ufrag) 255 && nat_le (length local) 255

-- the pair of the first candidates, with the protocol of the local one
abbrev pub first_ends : List Candidate → List Candidate → Option Ends
first_ends [] remote = None
first_ends (c ∷ local) [] = None
first_ends (c ∷ local) (d ∷ remote) = Some (record { proto = c.proto; source = c.addr; destination = d.addr })

-- whether the agent makes checks at all: a lite one makes none, and after the nomination none is made
abbrev pub makes_checks : IceContents → Bool
makes_checks p = not p.settings.lite && not p.nominated && ufrags_fit p.settings.remote p.settings.local.ufrag

-- the pair that it can check
abbrev pub next_ends : IceContents → Option Ends
next_ends p = if makes_checks p then first_ends p.settings.candidates p.remote_candidates else None

-- when the next check is wanted: when the last one is due; at once if one can be made and none is outstanding
abbrev pub wake_with : Option Check → Bool → Option ℕ
wake_with (Some c) can_check = Some c.due
wake_with None true = Some 0
wake_with None false = None

abbrev pub ice_wake : IceContents → Option ℕ
ice_wake p = wake_with p.check (is_some (next_ends p))

-- whether an address is that of a remote candidate, or one from which a check was received
abbrev pub is_viable : IceContents → Addr → Bool
is_viable p a = has_viable a p.remote_candidates || has_addr a p.discovered

-- whether the first fragment of a message is the local one
abbrev pub is_message_for : List ℕ → Option IceMessage → Bool
is_message_for ufrag None = false
is_message_for ufrag (Some m) = bytes_eq m.receiver ufrag

abbrev pub accepts_bytes : IceContents → List ℕ → Bool
accepts_bytes p bytes = is_message_for p.settings.local.ufrag (ice_message_in bytes)

-- at most one response is received before the nomination and none after it, so that the sum is of one span
abbrev pub rtt_sum : Option ℕ → ℕ
rtt_sum None = 0
rtt_sum (Some span) = span

abbrev pub rtt_count : Option ℕ → ℕ
rtt_count None = 0
rtt_count (Some span) = 1
