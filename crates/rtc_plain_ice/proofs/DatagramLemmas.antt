-- Each datagram that a plain agent sends begins with a byte below 2.
use Rattle.std.proofs.Common.{ℕ, ◌≡◌, ◌<◌, ◌==◌, ◌&&◌, not, inl, inr, Bool, true, false, cond, List, [], ◌∷◌, ◌++◌, Option, Some, None, Result, Ok, Err, refl, sym, ap, subst, ◌∙◌, arith}
use Rattle.std.specs.Str.{bytes_eq}
use Rattle.std.specs.declared.alloc.AllocError.{AllocError}
use Rattle.rtc_wire.specs.declared.addr.Addr.{Addr}
use Rattle.rtc_wire.specs.declared.protocol.Protocol.{Protocol}
use Rattle.rtc_wire.specs.declared.transmit.Transmit.{Transmit}
use Rattle.rtc_sdp_values.specs.declared.candidate.Candidate.{Candidate}
use Rattle.rtc_sdp_values.specs.declared.ice_creds.IceCreds.{IceCreds}
use Rattle.rtc_parts.specs.Among.{Member}
use Rattle.rtc_parts.specs.IceActs.{IceAct, IceCall, LiteSet, ControllingSet, LocalSet, RemoteSet, Restarted, LocalAdded, RemoteAdded, Invalidated, TimedAt, Told, RtoSet, Given, Taken, Stirred, IceActed, IceGiven, ByPacket, IceMoved}
use Rattle.rtc_parts.specs.IceWords.{ice_taken}
use Rattle.rtc_plain_ice.specs.declared.check.Ends.{Ends}
use Rattle.rtc_plain_ice.specs.declared.check.Check.{Check}
use Rattle.rtc_plain_ice.specs.Datagrams.{BeginsBelowTwo}
use Rattle.rtc_plain_ice.specs.Messages.{IceMessage, CHECK, RESPONSE, check_number, message_bytes, ice_message_in}
use Rattle.rtc_plain_ice.specs.Contents.{IceContents, fresh_ice, next_ends}
use Rattle.rtc_plain_ice.specs.Calls.{lite_set, controlling_set, local_set, remote_set, rto_set, restarted, local_added, remote_added, withdrawn, nominated_with, heard_check, check_came, timed_response, response_came, message_came, ice_input_taken, checked, is_due, timed_with, ice_time_passed}
use Rattle.rtc_plain_ice.specs.PlainMeaning.{plain_ice, LeavesIce, AddsTo}
use Rattle.rtc_plain_ice.specs.PlainLaws.{event_some, transmit_some}

-- a message begins as its type does
message_begins : (first : ℕ) (number receiver sender : List ℕ) → first < 2 → BeginsBelowTwo (message_bytes first number receiver sender)
unfolding message_bytes
message_begins first number receiver sender l = l

-- all that is queued begins below two
abbrev AllBegin : List Transmit → Type 0
AllBegin transmits = (t : Transmit) → Member t transmits → BeginsBelowTwo t.contents

begin_append : (transmits : List Transmit) (t : Transmit) → AllBegin transmits → BeginsBelowTwo t.contents → AllBegin (transmits ++ t ∷ [])
begin_append [] t all b x (inl e) = subst (λ (y : Transmit). BeginsBelowTwo y.contents) (sym e) b
begin_append [] t all b x (inr m) = absurd m
begin_append (y ∷ transmits) t all b x (inl e) = all x (inl e)
begin_append (y ∷ transmits) t all b x (inr m) = begin_append transmits t (λ z n. all z (inr n)) b x m

abbrev Begins : IceContents → Type 0
Begins p = AllBegin p.transmits

same_begins : (p q : IceContents) → q.transmits ≡ p.transmits → Begins p → Begins q
same_begins p q e b = subst (λ (l : List Transmit). AllBegin l) (sym e) b

begins_cond : (b : Bool) (p q : IceContents) → Begins p → Begins q → Begins (cond b p q)
begins_cond true p q h k = h
begins_cond false p q h k = k

-- what messages and time do
begins_nominated : (ends : Ends) (p : IceContents) → Begins p → Begins (nominated_with ends p)
unfolding nominated_with
begins_nominated ends p b = b

begins_heard : (proto : Protocol) (source destination : Addr) (m : IceMessage) (p : IceContents) → Begins p → Begins (heard_check proto source destination m p)
unfolding heard_check
begins_heard proto source destination m p b =
    begin_append p.transmits (record { proto = proto; source = destination; destination = source; contents = message_bytes 1 m.number m.sender m.receiver }) b
    (message_begins 1 m.number m.sender m.receiver (omega arith))

begins_response : (now : ℕ) (c : Check) (p : IceContents) → Begins p → Begins (timed_response now c p)
unfolding timed_response
begins_response now c p b = b

begins_checked : (now : ℕ) (ends : Ends) (p : IceContents) → Begins p → Begins (checked now ends p)
unfolding checked
begins_checked now ends p b = begin_append p.transmits _ b (message_begins 0 _ _ _ (omega arith))

begins_check_came : (proto : Protocol) (source destination : Addr) (m : IceMessage) (p : IceContents) → Begins p → Begins (check_came proto source destination m p)
begins_check_came proto source destination m p b =
    let heard = heard_check proto source destination m p in
    let ends : Ends = record { proto = proto; source = destination; destination = source } in
    begins_cond (p.settings.lite && not p.nominated) (nominated_with ends heard) heard (begins_nominated ends heard (begins_heard proto source destination m p b)) (begins_heard proto source destination m p b)

begins_response_came : (c : Option Check) (now : ℕ) (number : List ℕ) (p : IceContents) → Begins p → Begins (response_came c now number p)
begins_response_came None now number p b = b
begins_response_came (Some c) now number p b = begins_cond (bytes_eq (check_number c.number) number) (nominated_with c.ends (timed_response now c p)) p (begins_nominated c.ends (timed_response now c p) (begins_response now c p b)) b

begins_message : (m : Option IceMessage) (now : ℕ) (proto : Protocol) (source destination : Addr) (p : IceContents) → Begins p → Begins (message_came m now proto source destination p)
begins_message None now proto source destination p b = b
begins_message (Some m) now proto source destination p b =
    begins_cond (m.kind == CHECK)
    (cond (bytes_eq m.receiver p.settings.local.ufrag) (check_came proto source destination m p) p)
    (cond (m.kind == RESPONSE) (response_came p.check now m.number p) p)
    (begins_cond (bytes_eq m.receiver p.settings.local.ufrag) (check_came proto source destination m p) p (begins_check_came proto source destination m p b) b)
    (begins_cond (m.kind == RESPONSE) (response_came p.check now m.number p) p (begins_response_came p.check now m.number p b) b)

begins_timed : (ends : Option Ends) (now : ℕ) (p : IceContents) → Begins p → Begins (timed_with ends now p)
begins_timed None now p b = b
begins_timed (Some ends) now p b = begins_cond (is_due now p.check) (checked now ends p) p (begins_checked now ends p b) b

-- what the other calls keep
same-lite : (on : Bool) (p : IceContents) → (lite_set on p).transmits ≡ p.transmits
unfolding lite_set
same-lite on p = refl

same-controlling : (on : Bool) (p : IceContents) → (controlling_set on p).transmits ≡ p.transmits
unfolding controlling_set
same-controlling on p = refl

same-local : (c : IceCreds) (p : IceContents) → (local_set c p).transmits ≡ p.transmits
unfolding local_set
same-local c p = refl

same-remote : (c : IceCreds) (p : IceContents) → (remote_set c p).transmits ≡ p.transmits
unfolding remote_set
same-remote c p = refl

same-rto : (n : ℕ) (p : IceContents) → (rto_set n p).transmits ≡ p.transmits
unfolding rto_set
same-rto n p = refl

same-restarted : (c : IceCreds) (k : Bool) (p : IceContents) → (restarted c k p).transmits ≡ p.transmits
unfolding restarted
same-restarted c k p = refl

same-local_added : (c : Candidate) (p : IceContents) → (local_added c p).transmits ≡ p.transmits
unfolding local_added
same-local_added c p = refl

same-remote_added : (c : Candidate) (p : IceContents) → (remote_added c p).transmits ≡ p.transmits
unfolding remote_added
same-remote_added c p = refl

same-withdrawn : (c : Candidate) (p : IceContents) → (withdrawn c p).transmits ≡ p.transmits
unfolding withdrawn
same-withdrawn c p = refl

abbrev queue_of : IceContents → List Transmit
queue_of p = p.transmits

leaves_begins : (p done q : IceContents) (r : Result (Unit {0}) AllocError) → Begins p → Begins done → LeavesIce p done r q → Begins q
leaves_begins p done q (Ok x) b d h = same_begins done q (ap queue_of h) d
leaves_begins p done q (Err x) b d h = same_begins p q (ap queue_of h) b

adds_begins : (list : List Candidate) (c : Candidate) (p done q : IceContents) (r : Result Bool AllocError) → Begins p → Begins done → AddsTo list c p done r q → Begins q
adds_begins list c p done q (Ok true) b d h = same_begins done q (ap queue_of h.1) d
adds_begins list c p done q (Ok false) b d h = same_begins p q (ap queue_of h.1) b
adds_begins list c p done q (Err x) b d h = same_begins p q (ap queue_of h) b

call_begins : (p q : IceContents) (call : IceCall) → IceActed plain_ice p (Stirred call) q → Begins p → Begins q
call_begins p q (LiteSet on) h b = same_begins p q (ap queue_of h ∙ same-lite on p) b
call_begins p q (ControllingSet on) h b = same_begins p q (ap queue_of h ∙ same-controlling on p) b
call_begins p q (LocalSet c) h b = same_begins p q (ap queue_of h ∙ same-local c p) b
call_begins p q (RemoteSet c) h b = same_begins p q (ap queue_of h ∙ same-remote c p) b
call_begins p q (Restarted c k r) h b = leaves_begins p (restarted c k p) q r b (same_begins p (restarted c k p) (same-restarted c k p) b) h
call_begins p q (LocalAdded c r) h b = adds_begins p.settings.candidates c p (local_added c p) q r b (same_begins p (local_added c p) (same-local_added c p) b) h
call_begins p q (RemoteAdded c r) h b = adds_begins p.remote_candidates c p (remote_added c p) q r b (same_begins p (remote_added c p) (same-remote_added c p) b) h
call_begins p q (Invalidated c true) h b = same_begins p q (ap queue_of h.1 ∙ same-withdrawn c p) b
call_begins p q (Invalidated c false) h b = same_begins p q (ap queue_of h.1) b
call_begins p q (TimedAt now r) h b = leaves_begins p (ice_time_passed now p) q r b (begins_timed (next_ends p) now p b) h
call_begins p q (Told e) h b = let w = event_some p.events p q e h in same_begins p q (ap queue_of w.1) b
call_begins p q (RtoSet i x n) h b = same_begins p q (ap queue_of h ∙ same-rto i p) b

given_begins : (p q : IceContents) (message : List ℕ) → IceGiven plain_ice p message q → Begins p → Begins q
given_begins p q message (ByPacket now proto source destination r h) b = leaves_begins p (ice_input_taken now proto source destination message p) q r b (begins_message (ice_message_in message) now proto source destination p b) h

-- a datagram that is taken stood in the queue
taken_stood : (p q : IceContents) (t : Transmit) → IceActed plain_ice p (Taken t) q → Begins p → BeginsBelowTwo t.contents × Begins q
taken_stood p q t h b =
    let w = transmit_some p.transmits p q t h in
    let front : AllBegin (t ∷ w.0.rest) = subst (λ (l : List Transmit). AllBegin l) w.0.is b in
    (front t (inl refl), subst (λ (c : IceContents). Begins c) (sym w.1) (λ x m. front x (inr m)))

begins_moved : (acts : List IceAct) (p q : IceContents) (t : Transmit) → Begins p → IceMoved plain_ice p acts q → Member t (ice_taken acts) → BeginsBelowTwo t.contents
begins_moved [] p q t b h m = absurd m
begins_moved (Given message ∷ acts) p q t b h m = begins_moved acts h.0 q t (given_begins p h.0 message h.1.0 b) h.1.1 m
begins_moved (Taken u ∷ acts) p q t b h (inl e) = subst (λ (x : Transmit). BeginsBelowTwo x.contents) (sym e) (taken_stood p h.0 u h.1.0 b).0
begins_moved (Taken u ∷ acts) p q t b h (inr m) = begins_moved acts h.0 q t (taken_stood p h.0 u h.1.0 b).1 h.1.1 m
begins_moved (Stirred call ∷ acts) p q t b h m = begins_moved acts h.0 q t (call_begins p h.0 call h.1.0 b) h.1.1 m

pub taken_begins : (p q : IceContents) (acts : List IceAct) (t : Transmit) → p ≡ fresh_ice → IceMoved plain_ice p acts q → Member t (ice_taken acts) → BeginsBelowTwo t.contents
taken_begins p q acts t f h m = begins_moved acts p q t (λ x n. absurd (subst (λ (c : IceContents). Member x c.transmits) f n)) h m
