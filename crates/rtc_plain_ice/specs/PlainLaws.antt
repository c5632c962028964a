-- The plain agent keeps the laws of every ICE agent.
use Rattle.std.proofs.Common.{
  ℕ,
  ◌≡◌,
  ◌+◌,
  ◌==◌,
  ◌&&◌,
  not,
  Bool,
  true,
  false,
  cond,
  inl,
  inr,
  List,
  [],
  ◌∷◌,
  ◌++◌,
  length,
  Option,
  Some,
  None,
  Result,
  Ok,
  Err,
  refl,
  sym,
  ap,
  subst,
  ◌∙◌,
  arith,
}
use Rattle.std.specs.Prelude.{if◌then◌else◌}
use Rattle.std.specs.List.{filter}
use Rattle.std.specs.Str.{bytes_eq}
use Rattle.std.specs.declared.alloc.AllocError.{AllocError}
use Rattle.rtc_wire.specs.declared.addr.Addr.{Addr}
use Rattle.rtc_wire.specs.declared.protocol.Protocol.{Protocol}
use Rattle.rtc_wire.specs.declared.transmit.Transmit.{Transmit}
use Rattle.rtc_sdp_values.specs.declared.candidate.Candidate.{Candidate}
use Rattle.rtc_sdp_values.specs.declared.ice_creds.IceCreds.{IceCreds}
use Rattle.rtc_parts.specs.Among.{Member}
use Rattle.rtc_parts.specs.declared.ice_event.IceEvent.{IceEvent}
use Rattle.rtc_parts.specs.IceMeaning.{IceSettings}
use Rattle.rtc_parts.specs.IceLaws.{IceLaws, Withdraws}
use Rattle.rtc_plain_ice.specs.declared.check.Ends.{Ends}
use Rattle.rtc_plain_ice.specs.declared.check.Check.{Check}
use Rattle.rtc_plain_ice.specs.Messages.{IceMessage, CHECK, RESPONSE, check_number, ice_message_in}
use Rattle.rtc_plain_ice.specs.Places.{is_same_place}
use Rattle.rtc_plain_ice.specs.Contents.{IceContents, next_ends}
use Rattle.rtc_plain_ice.specs.Calls.{
  lite_set,
  controlling_set,
  local_set,
  remote_set,
  rto_set,
  restarted,
  local_added,
  remote_added,
  withdrawn,
  nominated_with,
  heard_check,
  check_came,
  timed_response,
  response_came,
  message_came,
  ice_input_taken,
  checked,
  is_due,
  timed_with,
  ice_time_passed,
  ice_event_given,
  ice_transmit_given,
}
use Rattle.rtc_plain_ice.specs.PlainMeaning.{plain_ice, LeavesIce, AddsTo, PollsEvent, PollsTransmit}

-- what is set, as the functions leave it
settings-lite_set : (on : Bool) (p : IceContents) → (lite_set on p).settings ≡ record p.settings { lite = on }
unfolding lite_set
settings-lite_set on p = refl

settings-controlling_set : (on : Bool) (p : IceContents) → ((controlling_set on p).settings ≡ p.settings)
    × ((controlling_set on p).controlling ≡ on)
unfolding controlling_set
settings-controlling_set on p = (refl, refl)

settings-local_set : (c : IceCreds) (p : IceContents) → (local_set c p).settings ≡ record p.settings { local = c }
unfolding local_set
settings-local_set c p = refl

settings-remote_set : (c : IceCreds) (p : IceContents) → (remote_set c p).settings ≡ record p.settings { remote = Some c }
unfolding remote_set
settings-remote_set c p = refl

settings-rto_set : (n : ℕ) (p : IceContents) → (rto_set n p).settings ≡ p.settings
unfolding rto_set
settings-rto_set n p = refl

settings-restarted : (c : IceCreds) (keeps : Bool) (p : IceContents) → (restarted c keeps p).settings
    ≡ record p.settings { local = c; candidates = if keeps then p.settings.candidates else [] }
unfolding restarted
settings-restarted c keeps p = refl

settings-local_added : (c : Candidate) (p : IceContents) → (local_added c p).settings
    ≡ record p.settings { candidates = p.settings.candidates ++ c ∷ [] }
unfolding local_added
settings-local_added c p = refl

settings-remote_added : (c : Candidate) (p : IceContents) → (remote_added c p).settings ≡ p.settings
unfolding remote_added
settings-remote_added c p = refl

filtered_member : {A : Type 0} (x y : A) (kept ys : List A) (b : Bool) → (Member x kept → Member x ys)
    → Member x (cond b (y ∷ kept) kept) → Member x (y ∷ ys)
filtered_member x y kept ys true rest (inl h) = inl h
filtered_member x y kept ys true rest (inr h) = inr (rest h)
filtered_member x y kept ys false rest h = inr (rest h)

member_filter : {A : Type 0} (test : A → Bool) (x : A) (xs : List A) → Member x (filter test xs) → Member x xs
member_filter test x [] m = m
member_filter test x (y ∷ ys) m = filtered_member x y (filter test ys) ys (test y) (member_filter test x ys) m

withdraws : (c : Candidate) (p : IceContents) → Withdraws p.settings (withdrawn c p).settings
unfolding withdrawn
withdraws c p = record {
  others = refl;
  candidates = record { each = λ x m. member_filter (λ y. not (is_same_place y c)) x p.settings.candidates m };
}

-- messages and time keep the settings
settings-nominated : (ends : Ends) (p : IceContents) → (nominated_with ends p).settings ≡ p.settings
unfolding nominated_with
settings-nominated ends p = refl

settings-heard : (proto : Protocol) (source destination : Addr) (message : IceMessage) (p : IceContents)
    → (heard_check proto source destination message p).settings ≡ p.settings
unfolding heard_check
settings-heard proto source destination message p = refl

settings-response : (now : ℕ) (c : Check) (p : IceContents) → (timed_response now c p).settings ≡ p.settings
unfolding timed_response
settings-response now c p = refl

settings-checked : (now : ℕ) (ends : Ends) (p : IceContents) → (checked now ends p).settings ≡ p.settings
unfolding checked
settings-checked now ends p = refl

-- a choice of two contents with the same settings
settings-cond : (b : Bool) (s : IceSettings) (p q : IceContents) → p.settings ≡ s → q.settings ≡ s → (cond b p q).settings ≡ s
settings-cond true s p q h k = h
settings-cond false s p q h k = k

settings-check_came : (proto : Protocol) (source destination : Addr) (message : IceMessage) (p : IceContents)
    → (check_came proto source destination message p).settings ≡ p.settings
settings-check_came proto source destination message p =
    let heard = heard_check proto source destination message p in
    let ends : Ends = record { proto = proto; source = destination; destination = source } in
    settings-cond (p.settings.lite && not p.nominated) p.settings (nominated_with ends heard) heard
    (settings-nominated ends heard ∙ settings-heard proto source destination message p)
    (settings-heard proto source destination message p)

settings-response_came : (c : Option Check) (now : ℕ) (number : List ℕ) (p : IceContents)
    → (response_came c now number p).settings ≡ p.settings
settings-response_came None now number p = refl
settings-response_came (Some c) now number p =
    settings-cond (bytes_eq (check_number c.number) number) p.settings (nominated_with c.ends (timed_response now c p)) p
    (settings-nominated c.ends (timed_response now c p) ∙ settings-response now c p) refl

settings-message : (m : Option IceMessage) (now : ℕ) (proto : Protocol) (source destination : Addr) (p : IceContents)
    → (message_came m now proto source destination p).settings ≡ p.settings
settings-message None now proto source destination p = refl
settings-message (Some m) now proto source destination p =
    settings-cond (m.kind == CHECK) p.settings
    (cond (bytes_eq m.receiver p.settings.local.ufrag) (check_came proto source destination m p) p)
    (cond (m.kind == RESPONSE) (response_came p.check now m.number p) p)
    (settings-cond (bytes_eq m.receiver p.settings.local.ufrag) p.settings
    (check_came proto source destination m p) p (settings-check_came proto source destination m p) refl)
    (settings-cond (m.kind == RESPONSE) p.settings
    (response_came p.check now m.number p) p (settings-response_came p.check now m.number p) refl)

settings-timed : (ends : Option Ends) (now : ℕ) (p : IceContents) → (timed_with ends now p).settings ≡ p.settings
settings-timed None now p = refl
settings-timed (Some ends) now p = settings-cond (is_due now p.check) p.settings (checked now ends p) p (settings-checked now ends p) refl

leaves_settings : (p done q : IceContents) (r : Result (Unit {0}) AllocError) → done.settings ≡ p.settings → LeavesIce p done r q
    → q.settings ≡ p.settings
leaves_settings p done q (Ok x) e h = ap (λ (c : IceContents). c.settings) h ∙ e
leaves_settings p done q (Err x) e h = ap (λ (c : IceContents). c.settings) h

adds_settings : (list : List Candidate) (c : Candidate) (p done q : IceContents) (r : Result Bool AllocError) → done.settings
    ≡ p.settings → AddsTo list c p done r q → q.settings ≡ p.settings
adds_settings list c p done q (Ok true) e h = ap (λ (c : IceContents). c.settings) h.1 ∙ e
adds_settings list c p done q (Ok false) e h = ap (λ (c : IceContents). c.settings) h.1
adds_settings list c p done q (Err x) e h = ap (λ (c : IceContents). c.settings) h

-- polls
pub record PoppedFrom {A : Type 0} (xs : List A) (x : A) : Type 0 where
  pub rest : List A
  pub is : xs ≡ x ∷ rest

pub event_some : (events : List IceEvent) (p q : IceContents) (e : IceEvent) → PollsEvent events p (Some e) q
    → (w : PoppedFrom events e) × (q ≡ ice_event_given w.rest p)
event_some [] p q e h = absurd h
event_some (x ∷ events) p q e h = (record { rest = events; is = ap (λ y. y ∷ events) (sym h.0) }, h.1)

event_nothing : (events : List IceEvent) (p q : IceContents) → PollsEvent events p None q → (events ≡ []) × (q ≡ p)
event_nothing [] p q h = (refl, h)
event_nothing (x ∷ events) p q h = absurd h

pub transmit_some : (transmits : List Transmit) (p q : IceContents) (t : Transmit) → PollsTransmit transmits p (Some t) q
    → (w : PoppedFrom transmits t) × (q ≡ ice_transmit_given w.rest p)
transmit_some [] p q t h = absurd h
transmit_some (x ∷ transmits) p q t h = (record { rest = transmits; is = ap (λ y. y ∷ transmits) (sym h.0) }, h.1)

transmit_nothing : (transmits : List Transmit) (p q : IceContents) → PollsTransmit transmits p None q → (transmits ≡ []) × (q ≡ p)
transmit_nothing [] p q h = (refl, h)
transmit_nothing (x ∷ transmits) p q h = absurd h

length-none : {A : Type 0} (xs : List A) → length xs ≡ 0 → xs ≡ []
length-none [] e = refl
length-none (x ∷ xs) e = absurd (omega (arith, e))

abbrev held_by : IceContents → ℕ
held_by p = length p.events + length p.transmits

quiet_event : (p : IceContents) → held_by p ≡ 0 → PollsEvent p.events p None p
quiet_event p e = let none : p.events
    ≡ [] = length-none p.events (omega (arith, e)) in subst (λ (l : List IceEvent). PollsEvent l p None p) (sym none) refl

quiet_transmit : (p : IceContents) → held_by p ≡ 0 → PollsTransmit p.transmits p None p
quiet_transmit p e = let none : p.transmits
    ≡ [] = length-none p.transmits (omega (arith, e)) in subst (λ (l : List Transmit). PollsTransmit l p None p) (sym none) refl

abbrev set_of : IceContents → IceSettings
set_of p = p.settings

pub plain_ice_laws : IceLaws plain_ice
plain_ice_laws = record {
  fresh_lite = λ p f. ap (λ (c : IceContents). c.settings.lite) f;
  fresh_remote = λ p f. ap (λ (c : IceContents). c.settings.remote) f;
  fresh_candidates = λ p f. ap (λ (c : IceContents). c.settings.candidates) f;
  lite_settings = λ p q on h. ap set_of h ∙ settings-lite_set on p;
  controlling_settings = λ p q on h. ap set_of h ∙ (settings-controlling_set on p).0;
  local_settings = λ p q c h. ap set_of h ∙ settings-local_set c p;
  remote_settings = λ p q c h. ap set_of h ∙ settings-remote_set c p;
  restart_settings = λ p q c k h. ap set_of h ∙ settings-restarted c k p;
  restart_refused = λ p q c k e h. ap set_of h;
  added_settings = λ p q c h. ap set_of h.1 ∙ settings-local_added c p;
  known_settings = λ p q c h. ap set_of h.1;
  add_refused = λ p q c e h. ap set_of h;
  remote_added_settings = λ p q c r h. adds_settings p.remote_candidates c p (remote_added c p) q r (settings-remote_added c p) h;
  invalidated_settings = λ p q c h. subst (λ (x : IceContents). Withdraws p.settings x.settings) (sym h.1) (withdraws c p);
  not_found_settings = λ p q c h. ap set_of h.1;
  given_settings = λ p q now proto source destination message r h.
      leaves_settings p (ice_input_taken now proto source destination message p) q r
      (settings-message (ice_message_in message) now proto source destination p) h;
  timed_settings = λ p q now r h. leaves_settings p (ice_time_passed now p) q r (settings-timed (next_ends p) now p) h;
  polled_settings = λ p q e h. let w = event_some p.events p q e h in ap set_of w.1;
  gave_settings = λ p q t h. let w = transmit_some p.transmits p q t h in ap set_of w.1;
  rto_settings = λ p q i x n h. ap set_of h ∙ settings-rto_set i p;
  controlling_sets = λ p q on h. ap (λ (c : IceContents). c.controlling) h ∙ (settings-controlling_set on p).1;
  faults_rise = λ p q act h. omega arith;
  event_none = λ p q h. (event_nothing p.events p q h).1;
  transmit_none = λ p q h. (transmit_nothing p.transmits p q h).1;
  event_falls = λ p q e h. let w = event_some p.events p q e h in omega (arith, ap length w.0.is, ap held_by w.1);
  transmit_falls = λ p q t h. let w = transmit_some p.transmits p q t h in omega (arith, ap length w.0.is, ap held_by w.1);
  quiet_event = λ p e. quiet_event p e;
  quiet_transmit = λ p e. quiet_transmit p e;
  silent = λ p q o h k. omega (arith, ap length (event_nothing p.events p q h).0, ap length (transmit_nothing p.transmits p o k).0);
}
