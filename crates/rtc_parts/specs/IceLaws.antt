-- What holds of every ICE agent.
use Rattle.std.specs.Prelude.{ℕ, ◌≡◌, ◌<◌, ◌≤◌, if◌then◌else◌, Bool, true, false, List, [], ◌∷◌, ◌++◌, Some, None, Result, Ok, Err}
use Rattle.std.specs.declared.alloc.AllocError.{AllocError}
use Rattle.rtc_wire.specs.declared.addr.Addr.{Addr}
use Rattle.rtc_wire.specs.declared.protocol.Protocol.{Protocol}
use Rattle.rtc_wire.specs.declared.transmit.Transmit.{Transmit}
use Rattle.rtc_sdp_values.specs.declared.candidate.Candidate.{Candidate}
use Rattle.rtc_sdp_values.specs.declared.ice_creds.IceCreds.{IceCreds}
use Rattle.rtc_parts.specs.Among.{Among}
use Rattle.rtc_parts.specs.declared.ice_event.IceEvent.{IceEvent}
use Rattle.rtc_parts.specs.IceMeaning.{IceMeaning, IceSettings}
use Rattle.rtc_parts.specs.IceActs.{IceAct, IceActed}

-- candidates went, and nothing else of the settings changed
pub record Withdraws (s t : IceSettings) : Type 0 where
  pub others : t ≡ record s { candidates = t.candidates }
  pub candidates : Among t.candidates s.candidates

pub record IceLaws {I : Type 0} (m : IceMeaning I) : Type 0 where
  -- a fresh agent is not lite, knows no remote credentials, and has no candidate
  pub fresh_lite : (p : I) → m.fresh p → (m.settings p).lite ≡ false
  pub fresh_remote : (p : I) → m.fresh p → (m.settings p).remote ≡ None
  pub fresh_candidates : (p : I) → m.fresh p → (m.settings p).candidates ≡ []
  -- what each call makes of the settings, result by result
  pub lite_settings : (p q : I) (on : Bool) → m.lite_set p on q → m.settings q ≡ record (m.settings p) { lite = on }
  pub controlling_settings : (p q : I) (on : Bool) → m.controlling_set p on q → m.settings q ≡ m.settings p
  pub local_settings : (p q : I) (creds : IceCreds) → m.local_set p creds q → m.settings q ≡ record (m.settings p) { local = creds }
  pub remote_settings : (p q : I) (creds : IceCreds) → m.remote_set p creds q → m.settings q ≡ record (m.settings p) { remote = Some creds }
  pub restart_settings : (p q : I) (creds : IceCreds) (keeps : Bool) → m.restarted p creds keeps (Ok tt) q → m.settings q
      ≡ record (m.settings p) { local = creds; candidates = if keeps then (m.settings p).candidates else [] }
  pub restart_refused : (p q : I) (creds : IceCreds) (keeps : Bool) (e : AllocError) → m.restarted p creds keeps (Err e) q
      → m.settings q ≡ m.settings p
  pub added_settings : (p q : I) (c : Candidate) → m.local_added p c (Ok true) q → m.settings q
      ≡ record (m.settings p) { candidates = (m.settings p).candidates ++ c ∷ [] }
  pub known_settings : (p q : I) (c : Candidate) → m.local_added p c (Ok false) q → m.settings q ≡ m.settings p
  pub add_refused : (p q : I) (c : Candidate) (e : AllocError) → m.local_added p c (Err e) q → m.settings q ≡ m.settings p
  pub remote_added_settings : (p q : I) (c : Candidate) (r : Result Bool AllocError) → m.remote_added p c r q → m.settings q ≡ m.settings p
  pub invalidated_settings : (p q : I) (c : Candidate) → m.invalidated p c true q → Withdraws (m.settings p) (m.settings q)
  pub not_found_settings : (p q : I) (c : Candidate) → m.invalidated p c false q → m.settings q ≡ m.settings p
  pub given_settings : (p q : I) (now : ℕ) (proto : Protocol) (source destination : Addr) (message : List ℕ) (r : Result
      (Unit {0}) AllocError) → m.given p now proto source destination message r q → m.settings q ≡ m.settings p
  pub timed_settings : (p q : I) (now : ℕ) (r : Result (Unit {0}) AllocError) → m.timed p now r q → m.settings q ≡ m.settings p
  pub polled_settings : (p q : I) (event : IceEvent) → m.polled p (Some event) q → m.settings q ≡ m.settings p
  pub gave_settings : (p q : I) (transmit : Transmit) → m.gave p (Some transmit) q → m.settings q ≡ m.settings p
  pub rto_settings : (p q : I) (initial max retransmits : ℕ) → m.rto_set p initial max retransmits q → m.settings q ≡ m.settings p
  -- the role is what was set
  pub controlling_sets : (p q : I) (on : Bool) → m.controlling_set p on q → m.controlling q ≡ on
  -- the count of faults never falls
  pub faults_rise : (p q : I) (act : IceAct) → IceActed m p act q → m.faults p ≤ m.faults q
  -- a poll that gives nothing changes nothing, each that gives something lowers what is held, and all polls give nothing exactly if nothing
  -- is held
  pub event_none : (p q : I) → m.polled p None q → q ≡ p
  pub transmit_none : (p q : I) → m.gave p None q → q ≡ p
  pub event_falls : (p q : I) (event : IceEvent) → m.polled p (Some event) q → m.held q < m.held p
  pub transmit_falls : (p q : I) (transmit : Transmit) → m.gave p (Some transmit) q → m.held q < m.held p
  pub quiet_event : (p : I) → m.held p ≡ 0 → m.polled p None p
  pub quiet_transmit : (p : I) → m.held p ≡ 0 → m.gave p None p
  pub silent : (p q o : I) → m.polled p None q → m.gave p None o → m.held p ≡ 0
