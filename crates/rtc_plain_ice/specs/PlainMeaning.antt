-- The plain agent as a part: what each call does, exactly.
use Rattle.std.specs.Prelude.{◌≡◌, ◌+◌, ◌||◌, Bool, true, false, List, [], ◌∷◌, length, Option, Some, None, Result, Ok, Err}
use Rattle.std.specs.declared.alloc.AllocError.{AllocError}
use Rattle.rtc_wire.specs.declared.transmit.Transmit.{Transmit}
use Rattle.rtc_sdp_values.specs.declared.candidate.Candidate.{Candidate}
use Rattle.rtc_parts.specs.declared.ice_event.IceEvent.{IceEvent}
use Rattle.rtc_parts.specs.IceMeaning.{IceMeaning}
use Rattle.rtc_plain_ice.specs.Places.{has_place}
use Rattle.rtc_plain_ice.specs.Contents.{IceContents, fresh_ice, ice_wake, is_viable, accepts_bytes, rtt_sum, rtt_count}
use Rattle.rtc_plain_ice.specs.Calls as call

-- a call that leaves these contents, or changes nothing if memory runs out
abbrev pub LeavesIce : IceContents → IceContents → Result (Unit {0}) AllocError → IceContents → Type 0
LeavesIce p done (Ok _) q = q ≡ done
LeavesIce p done (Err _) q = q ≡ p

-- a candidate is taken exactly if the list does not hold its address and protocol
abbrev pub AddsTo : List Candidate → Candidate → IceContents → IceContents → Result Bool AllocError → IceContents → Type 0
AddsTo list c p done (Ok true) q = (has_place c list ≡ false) × (q ≡ done)
AddsTo list c p done (Ok false) q = (has_place c list ≡ true) × (q ≡ p)
AddsTo list c p done (Err _) q = q ≡ p

-- a candidate is found exactly if a list holds its address and protocol
abbrev pub Invalidates : IceContents → Candidate → Bool → IceContents → Type 0
Invalidates p c true q = (has_place c p.settings.candidates || has_place c p.remote_candidates ≡ true) × (q ≡ call.withdrawn c p)
Invalidates p c false q = (has_place c p.settings.candidates || has_place c p.remote_candidates ≡ false) × (q ≡ p)

-- a poll gives the oldest event, and nothing exactly if there is none
abbrev pub PollsEvent : List IceEvent → IceContents → Option IceEvent → IceContents → Type 0
PollsEvent [] p None q = q ≡ p
PollsEvent [] p (Some event) q = ⊥
PollsEvent (e ∷ events) p None q = ⊥
PollsEvent (e ∷ events) p (Some event) q = (event ≡ e) × (q ≡ call.ice_event_given events p)

-- and so with datagrams
abbrev pub PollsTransmit : List Transmit → IceContents → Option Transmit → IceContents → Type 0
PollsTransmit [] p None q = q ≡ p
PollsTransmit [] p (Some transmit) q = ⊥
PollsTransmit (t ∷ transmits) p None q = ⊥
PollsTransmit (t ∷ transmits) p (Some transmit) q = (transmit ≡ t) × (q ≡ call.ice_transmit_given transmits p)

abbrev pub plain_ice : IceMeaning IceContents
plain_ice = record {
  fresh = λ p. p ≡ fresh_ice;
  lite_set = λ p on q. q ≡ call.lite_set on p;
  controlling_set = λ p on q. q ≡ call.controlling_set on p;
  local_set = λ p creds q. q ≡ call.local_set creds p;
  remote_set = λ p creds q. q ≡ call.remote_set creds p;
  restarted = λ p creds keeps r q. LeavesIce p (call.restarted creds keeps p) r q;
  local_added = λ p c r q. AddsTo p.settings.candidates c p (call.local_added c p) r q;
  remote_added = λ p c r q. AddsTo p.remote_candidates c p (call.remote_added c p) r q;
  invalidated = Invalidates;
  given = λ p now proto source destination message r q. LeavesIce p (call.ice_input_taken now proto source destination message p) r q;
  timed = λ p now r q. LeavesIce p (call.ice_time_passed now p) r q;
  polled = λ p r q. PollsEvent p.events p r q;
  gave = λ p r q. PollsTransmit p.transmits p r q;
  rto_set = λ p initial max retransmits q. q ≡ call.rto_set initial p;
  settings = λ p. p.settings;
  controlling = λ p. p.controlling;
  viable = is_viable;
  accepts = accepts_bytes;
  wake = ice_wake;
  state = λ p. p.state;
  pair_rtt = λ p. p.rtt;
  pair_total_rtt = λ p. rtt_sum p.rtt;
  pair_responses = λ p. rtt_count p.rtt;
  held = λ p. length p.events + length p.transmits;
  faults = λ p. 0;
}
