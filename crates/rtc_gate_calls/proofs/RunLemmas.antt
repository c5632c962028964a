-- Calls that are performed one after another.
use Rattle.std.proofs.Common.{◌≡◌, ℕ, ◌+◌, ◌<◌, ◌≤◌, ◌^◌, ◌∙◌, zero, suc, false, List, [], ◌∷◌, ◌++◌, length, drop, get_or, refl, ap, sym, subst, arith, append_assoc, append-nil}
use Rattle.rtc_gate_calls.specs.GateState.{GateState}
use Rattle.rtc_gate_calls.specs.Replies.{IsPossible, IsReplyTo, gate_behind, ran_out}
use Rattle.rtc_gate_calls.specs.Sizes.{call_size, calls_size}
use Rattle.rtc_gate_calls.specs.History.{GateEvent, calls_made, replies_given}
use Rattle.rtc_gate_calls.specs.Histories.{empty_gate, gate_after, WereAnswered, NeverRanOut, RunsCalls}
use Rattle.rtc_gate_calls.specs.declared.gate_call.GateCall.{GateCall}
use Rattle.rtc_gate_calls.specs.declared.gate_reply.GateReply.{GateReply}
use Rattle.rtc_gate_calls.proofs.DueLaw.{delivered}
use Rattle.rtc_gate_calls.proofs.SizeLemmas.{calls_size-append, few_are_possible}

-- the calls so far, and those that are left
pub record RunsSoFar (calls left : List GateCall) (replies : List GateReply) (gate : GateState) : Type 0 where
  pub past : List GateEvent
  pub calls_are : calls_made past ++ left ≡ calls
  pub replies_are : replies_given past ≡ replies
  pub answered : WereAnswered past
  pub enough : NeverRanOut past
  pub leaves : gate ≡ gate_after past

pub run_begins : (calls : List GateCall) (gate : GateState) → gate ≡ empty_gate → RunsSoFar calls (drop 0 calls) [] gate
run_begins calls gate empty = record { past = []; calls_are = refl; replies_are = refl; answered = tt; enough = tt; leaves = empty }

drop_more : (calls : List GateCall) (i : ℕ) (d : GateCall) → i < length calls → drop i calls ≡ get_or calls i d ∷ drop (suc i) calls
drop_more [] i d below = absurd (omega arith)
drop_more (c ∷ calls) zero d below = refl
drop_more (c ∷ calls) (suc i) d below = drop_more calls i d (omega (arith, below))

drop_here : (calls : List GateCall) (i : ℕ) (d : GateCall) → i < length calls → drop i calls ≡ get_or calls i d ∷ drop (i + 1) calls
drop_here calls i d below = drop_more calls i d below ∙ ap (λ (n : ℕ). get_or calls i d ∷ drop n calls) (let same : suc i ≡ i + 1 = omega arith in same)

drop_over : (calls : List GateCall) (i : ℕ) → length calls ≤ i → drop i calls ≡ []
drop_over [] zero over = refl
drop_over [] (suc i) over = refl
drop_over (c ∷ calls) zero over = absurd (omega arith)
drop_over (c ∷ calls) (suc i) over = drop_over calls i (omega (arith, over))

-- the next call is possible
pub run_has_room : (calls : List GateCall) (i : ℕ) (d : GateCall) (call : GateCall) (replies : List GateReply) (gate : GateState) → i < length calls → call ≡ get_or calls i d → calls_size calls < 2 ^ 32 → RunsSoFar calls (drop i calls) replies gate → IsPossible gate call
run_has_room calls i d call replies gate below is few so_far =
    let left : drop i calls ≡ call ∷ drop (i + 1) calls = drop_here calls i d below ∙ ap (λ (c : GateCall). c ∷ drop (i + 1) calls) (sym is) in
    let whole : calls_made so_far.past ++ call ∷ drop (i + 1) calls ≡ calls = ap (λ (cs : List GateCall). calls_made so_far.past ++ cs) (sym left) ∙ so_far.calls_are in
    let sizes : calls_size (calls_made so_far.past ++ call ∷ drop (i + 1) calls) ≡ calls_size calls = ap calls_size whole in
    let small : calls_size (calls_made so_far.past) + call_size call < 2 ^ 32 = omega (arith, calls_size-append (calls_made so_far.past) (call ∷ drop (i + 1) calls)) in
    subst (λ (g : GateState). IsPossible g call) (sym so_far.leaves) (few_are_possible so_far.past call so_far.answered small)

pub run_goes_on : (calls : List GateCall) (i : ℕ) (d : GateCall) (call : GateCall) (replies replies' : List GateReply) (reply : GateReply) (gate gate' : GateState) → i < length calls → call ≡ get_or calls i d → ran_out reply ≡ false → IsReplyTo gate call reply → gate' ≡ gate_behind gate call reply → replies' ≡ replies ++ reply ∷ [] → RunsSoFar calls (drop i calls) replies gate → RunsSoFar calls (drop (i + 1) calls) replies' gate'
run_goes_on calls i d call replies replies' reply gate gate' below is had answered left grown so_far = record {
  past = record { call = call; reply = reply } ∷ so_far.past;
  calls_are = append_assoc (calls_made so_far.past) (call ∷ []) (drop (i + 1) calls)
      ∙ ap (λ (c : GateCall). calls_made so_far.past ++ c ∷ drop (i + 1) calls) is
      ∙ ap (λ (cs : List GateCall). calls_made so_far.past ++ cs) (sym (drop_here calls i d below))
      ∙ so_far.calls_are;
  replies_are = ap (λ (rs : List GateReply). rs ++ reply ∷ []) so_far.replies_are ∙ sym grown;
  answered = (subst (λ (g : GateState). IsReplyTo g call reply) so_far.leaves answered, so_far.answered);
  enough = (had, so_far.enough);
  leaves = left ∙ ap (λ (g : GateState). gate_behind g call reply) so_far.leaves;
}

pub run_ends : (calls : List GateCall) (i : ℕ) (replies : List GateReply) (gate : GateState) → length calls ≤ i → RunsSoFar calls (drop i calls) replies gate → RunsCalls calls replies gate
run_ends calls i replies gate over so_far = record {
  past = so_far.past;
  calls_are = sym (append-nil (calls_made so_far.past)) ∙ ap (λ (cs : List GateCall). calls_made so_far.past ++ cs) (sym (drop_over calls i over)) ∙ so_far.calls_are;
  replies_are = so_far.replies_are;
  answered = so_far.answered;
  enough = so_far.enough;
  leaves = so_far.leaves;
  delivers = delivered so_far.past so_far.answered;
}
