-- What is due is delivered.
use Rattle.std.proofs.Common.{◌≡◌, ℕ, Bool, true, false, List, [], ◌∷◌, length, Option, Some, None, refl, sym, subst, cond, arith}
use Rattle.std.specs.Prelude.{Result, Ok, Err, nat_le}
use Rattle.rtc_wire_text.specs.Tokens.{is_short_token}
use Rattle.rtc_gate_calls.specs.Signal.{Signal}
use Rattle.rtc_gate_calls.specs.Routing.{join_answer, admission, number_named}
use Rattle.rtc_gate_calls.specs.GateState.{ConnectionState, GateState, Incoming, roster_of, connection_numbered, resumed, arriving, after_admission, after_leave, after_take, fed_connections, fed_answer, feed_answer, leave_answer, take_answer}
use Rattle.rtc_gate_calls.specs.Replies.{joined_reply, left_reply, fed_reply, took_reply, reply_to, is_alloc, ran_out, gate_behind, IsReplyTo}
use Rattle.rtc_gate_calls.specs.History.{GateEvent, came_in}
use Rattle.rtc_gate_calls.specs.Histories.{gate_after, WereAnswered, DeliversDue}
use Rattle.rtc_gate_calls.specs.declared.gate_error.GateError.{GateError}
use Rattle.rtc_gate_calls.specs.declared.gate_error.GateError.TheVariants.{BadName, NameTaken, Full, NoSuch, BadFrame, Alloc}
use Rattle.rtc_gate_calls.specs.declared.gate_call.GateCall.{GateCall}
use Rattle.rtc_gate_calls.specs.declared.gate_call.GateCall.TheVariants.{Join, Leave, Feed, Take}
use Rattle.rtc_gate_calls.specs.declared.gate_reply.GateReply.{GateReply}
use Rattle.rtc_gate_calls.specs.declared.gate_reply.GateReply.TheVariants.{Joined, Left, Fed, Took, Refused}
use Rattle.rtc_gate_calls.proofs.GateLemmas.{nobody_left, nobody_filtered}
use Rattle.rtc_gate_calls.proofs.DueSteps.{Accounts, event_of, quiet, joins, leaves, takes}
use Rattle.rtc_gate_calls.proofs.FedStep.{feeds}

lacked : (reply : GateReply) → ran_out reply ≡ true → reply ≡ Refused Alloc
lacked (Joined number) is = absurd (cc)
lacked Left is = absurd (cc)
lacked (Fed count) is = absurd (cc)
lacked (Took frame) is = absurd (cc)
lacked (Refused BadName) is = absurd (cc)
lacked (Refused NameTaken) is = absurd (cc)
lacked (Refused Full) is = absurd (cc)
lacked (Refused NoSuch) is = absurd (cc)
lacked (Refused (BadFrame at)) is = absurd (cc)
lacked (Refused Alloc) is = refl

-- a call in which memory ran out
lacking : (past : List GateEvent) (gate : GateState) (call : GateCall) → Accounts past gate → Accounts (event_of call (Refused Alloc) ∷ past) gate
lacking past gate (Join name) a = quiet past gate (event_of (Join name) (Refused Alloc)) refl (λ n. refl) (λ n. refl) refl a
lacking past gate (Leave m) a = quiet past gate (event_of (Leave m) (Refused Alloc)) refl (λ n. refl) (λ n. refl) refl a
lacking past gate (Feed m piece) a = quiet past gate (event_of (Feed m piece) (Refused Alloc)) refl (λ n. refl) (λ n. refl) refl a
lacking past gate (Take m) a = quiet past gate (event_of (Take m) (Refused Alloc)) refl (λ n. refl) (λ n. refl) refl a

-- a connection that joins gets the next number
next_number : (next : ℕ) (roster : List (ℕ × List ℕ)) (name : List ℕ) (number : ℕ) → join_answer next roster name ≡ Ok number → number ≡ next
next_number next roster name number is = go (is_short_token name) refl (number_named roster name) refl
  where
    full : (b : Bool) → (let r : Result ℕ GateError = cond b (Err Full) (Ok next) in r) ≡ Ok number → number ≡ next
    full true at = absurd (cc)
    full false at = cc

    go : (token : Bool) → is_short_token name ≡ token → (o : Option ℕ) → number_named roster name ≡ o → number ≡ next
    go false bad o at = absurd (let e : Err BadName ≡ Ok number = subst (λ (b : Bool). cond b (admission next roster (number_named roster name)) (Err BadName) ≡ Ok number) bad is in cc)
    go true good (Some k) at =
        absurd (let e : Err NameTaken ≡ Ok number = subst (λ (o : Option ℕ). admission next roster o ≡ Ok number) at (subst (λ (b : Bool). cond b (admission next roster (number_named roster name)) (Err BadName) ≡ Ok number) good is) in cc)
    go true good None at =
        full (nat_le 1024 (length roster)) (subst (λ (o : Option ℕ). admission next roster o ≡ Ok number) at (subst (λ (b : Bool). cond b (admission next roster (number_named roster name)) (Err BadName) ≡ Ok number) good is))

either : (b : Bool) (gate : GateState) → gate ≡ cond b gate gate
either true gate = refl
either false gate = refl

join_step : (past : List GateEvent) (gate : GateState) (name : List ℕ) → Accounts past gate → (r : Result ℕ GateError) → join_answer gate.joined (roster_of gate.connections) name ≡ r → Accounts (event_of (Join name) (joined_reply r) ∷ past) (cond (ran_out (joined_reply r)) gate (after_admission r gate name))
join_step past gate name a (Ok number) is =
    let same : gate.joined ≡ number = sym (next_number gate.joined (roster_of gate.connections) name number is) in
    subst (λ (k : ℕ). Accounts (event_of (Join name) (Joined k) ∷ past) (after_admission (Ok k) gate name)) same (joins past gate name a)
join_step past gate name a (Err error) is =
    subst (λ (g : GateState). Accounts (event_of (Join name) (Refused error) ∷ past) g) (either (is_alloc error) gate) (quiet past gate (event_of (Join name) (Refused error)) refl (λ n. refl) (λ n. refl) refl a)

leave_step : (past : List GateEvent) (gate : GateState) (m : ℕ) → Accounts past gate → (o : Option ConnectionState) → connection_numbered gate.connections m ≡ o → Accounts (event_of (Leave m) (left_reply (leave_answer o)) ∷ past) (cond (ran_out (left_reply (leave_answer o))) gate (after_leave gate m))
leave_step past gate m a None is =
    subst (λ (cs : List ConnectionState). Accounts (event_of (Leave m) (Refused NoSuch) ∷ past) (record { joined = gate.joined; connections = cs })) (sym (nobody_filtered m gate.connections is)) (quiet past gate (event_of (Leave m) (Refused NoSuch)) refl (λ n. refl) (λ n. refl) refl a)
leave_step past gate m a (Some c) is = leaves past gate m a

take_step : (past : List GateEvent) (gate : GateState) (m : ℕ) → Accounts past gate → (o : Option ConnectionState) → connection_numbered gate.connections m ≡ o → Accounts (event_of (Take m) (took_reply (take_answer o)) ∷ past) (cond (ran_out (took_reply (take_answer o))) gate (after_take gate m))
take_step past gate m a None is =
    subst (λ (cs : List ConnectionState). Accounts (event_of (Take m) (Refused NoSuch) ∷ past) (record { joined = gate.joined; connections = cs })) (sym (nobody_left m gate.connections is)) (quiet past gate (event_of (Take m) (Refused NoSuch)) refl (λ n. refl) (λ n. refl) refl a)
take_step past gate m a (Some c) is = takes past gate m c is a

fed_came : (i : Incoming) (signals : List Signal) → came_in (fed_reply (fed_answer i signals)) ≡ true
fed_came i signals = go i.stuck
  where
    go : (b : Bool) → came_in (fed_reply (let r : Result ℕ GateError = cond b (Err (BadFrame i.done)) (Ok (length signals)) in r)) ≡ true
    go true = refl
    go false = refl

fed_had_room : (i : Incoming) (signals : List Signal) → ran_out (fed_reply (fed_answer i signals)) ≡ false
fed_had_room i signals = go i.stuck
  where
    go : (b : Bool) → ran_out (fed_reply (let r : Result ℕ GateError = cond b (Err (BadFrame i.done)) (Ok (length signals)) in r)) ≡ false
    go true = refl
    go false = refl

feed_step : (past : List GateEvent) (gate : GateState) (m : ℕ) (piece : List ℕ) → Accounts past gate → (o : Option ConnectionState) → connection_numbered gate.connections m ≡ o → Accounts (event_of (Feed m piece) (fed_reply (feed_answer o piece)) ∷ past) (cond (ran_out (fed_reply (feed_answer o piece))) gate (record { joined = gate.joined; connections = fed_connections o gate.connections piece }))
feed_step past gate m piece a None is = quiet past gate (event_of (Feed m piece) (Refused NoSuch)) refl (λ n. refl) (λ n. refl) refl a
feed_step past gate m piece a (Some s) is =
    let i : Incoming = resumed s.incoming piece in
    let signals : List Signal = arriving s.incoming piece in
    let after : GateState = record { joined = gate.joined; connections = fed_connections (Some s) gate.connections piece } in
    subst (λ (b : Bool). Accounts (event_of (Feed m piece) (fed_reply (fed_answer i signals)) ∷ past) (cond b gate after)) (sym (fed_had_room i signals)) (feeds past gate m piece (fed_reply (fed_answer i signals)) s is (fed_came i signals) a)

by_call : (past : List GateEvent) (gate : GateState) (call : GateCall) → Accounts past gate → Accounts (event_of call (reply_to gate call) ∷ past) (gate_behind gate call (reply_to gate call))
by_call past gate (Join name) a = join_step past gate name a (join_answer gate.joined (roster_of gate.connections) name) refl
by_call past gate (Leave m) a = leave_step past gate m a (connection_numbered gate.connections m) refl
by_call past gate (Feed m piece) a = feed_step past gate m piece a (connection_numbered gate.connections m) refl
by_call past gate (Take m) a = take_step past gate m a (connection_numbered gate.connections m) refl

-- one call more
step : (past : List GateEvent) (gate : GateState) (call : GateCall) (reply : GateReply) → IsReplyTo gate call reply → Accounts past gate → Accounts (event_of call reply ∷ past) (gate_behind gate call reply)
step past gate call reply answered a = go (ran_out reply) refl
  where
    go : (out : Bool) → ran_out reply ≡ out → Accounts (event_of call reply ∷ past) (gate_behind gate call reply)
    go true is = subst (λ (r : GateReply). Accounts (event_of call r ∷ past) (gate_behind gate call r)) (sym (lacked reply is)) (lacking past gate call a)
    go false is = subst (λ (r : GateReply). Accounts (event_of call r ∷ past) (gate_behind gate call r)) (sym (answered is)) (by_call past gate call a)

pub accounts : (past : List GateEvent) → WereAnswered past → Accounts past (gate_after past)
accounts [] answered = record {
  numbered = omega arith;
  roster = refl;
  streams = λ n c is. absurd (cc);
  queues = λ n c is. absurd (cc);
  fronts = λ n. ([], refl);
  absent = λ n later. (refl, refl, refl);
}
accounts (event ∷ past) answered = step past (gate_after past) event.call event.reply answered.0 (accounts past answered.1)

pub delivered : (past : List GateEvent) → WereAnswered past → DeliversDue past
delivered past answered = let a = accounts past answered in record { here = a.queues; left = a.fronts; streams = a.streams }
