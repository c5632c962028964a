-- What an ICE agent is: what each of its calls does, and what it holds.
use Rattle.std.specs.Prelude.{ℕ, Bool, List, Option, Result}
use Rattle.std.specs.declared.alloc.AllocError.{AllocError}
use Rattle.rtc_wire.specs.declared.addr.Addr.{Addr}
use Rattle.rtc_wire.specs.declared.protocol.Protocol.{Protocol}
use Rattle.rtc_wire.specs.declared.transmit.Transmit.{Transmit}
use Rattle.rtc_sdp_values.specs.declared.candidate.Candidate.{Candidate}
use Rattle.rtc_sdp_values.specs.declared.ice_creds.IceCreds.{IceCreds}
use Rattle.rtc_parts.specs.declared.ice_connection_state.IceConnectionState.{IceConnectionState}
use Rattle.rtc_parts.specs.declared.ice_event.IceEvent.{IceEvent}

-- what an agent is set to. The calls that do not set any of it keep all of it
pub record IceSettings : Type 0 where
  pub lite : Bool
  pub local : IceCreds
  pub remote : Option IceCreds
  -- the local candidates, in the order in which they were added
  pub candidates : List Candidate

pub record IceMeaning (I : Type 0) : Type 1 where
  -- an agent that is as it was made
  pub fresh : I → Type 0
  -- what each call does: the agent before, the arguments, the result, the agent after
  pub lite_set : I → (on : Bool) → I → Type 0
  pub controlling_set : I → (on : Bool) → I → Type 0
  pub local_set : I → IceCreds → I → Type 0
  pub remote_set : I → IceCreds → I → Type 0
  pub restarted : I → IceCreds → (keeps : Bool) → Result (Unit {0}) AllocError → I → Type 0
  pub local_added : I → Candidate → Result Bool AllocError → I → Type 0
  pub remote_added : I → Candidate → Result Bool AllocError → I → Type 0
  pub invalidated : I → Candidate → (found : Bool) → I → Type 0
  pub given : I → (now : ℕ) → Protocol → (source destination : Addr) → (message : List ℕ) → Result (Unit {0}) AllocError → I → Type 0
  pub timed : I → (now : ℕ) → Result (Unit {0}) AllocError → I → Type 0
  pub polled : I → Option IceEvent → I → Type 0
  pub gave : I → Option Transmit → I → Type 0
  pub rto_set : I → (initial max retransmits : ℕ) → I → Type 0
  -- what the readings return
  pub settings : I → IceSettings
  pub controlling : I → Bool
  pub viable : I → Addr → Bool
  pub accepts : I → (message : List ℕ) → Bool
  pub wake : I → Option ℕ
  pub state : I → IceConnectionState
  pub pair_rtt : I → Option ℕ
  pub pair_total_rtt : I → ℕ
  pub pair_responses : I → ℕ
  -- how many outputs polling still gives, and how often the device failed
  pub held : I → ℕ
  pub faults : I → ℕ
