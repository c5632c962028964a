use Rattle.std.proofs.Common.{◌≡◌, ℕ, ◌≤◌, List, length, refl, subst, arith}
use Rattle.rtc_gate_calls.specs.Signal.{signal_of}
use Rattle.rtc_gate_calls.specs.SignalStream.{Unfinished, Malformed, Arrived, signal_front}
use Rattle.rtc_gate_calls.proofs.SortLemmas.{to_end, sorted_all, sorts_more}
use Rattle.rtc_gate_calls.proofs.sorting.sort.Goals as goal

pub returns-in-Unfinished : goal.returns-in-Unfinished
returns-in-Unfinished c = sorted_all _ _ _ (record { deliveries = c.frames.deliveries; size = c.frames.at; stuck = _ }) Unfinished c.frames.invariant (subst (λ (z : List ℕ). signal_front z ≡ Unfinished) (to_end c.args.bytes.now c.frames.at) c.in-Unfinished.ensures) refl refl

pub returns-in-Malformed : goal.returns-in-Malformed
returns-in-Malformed c = sorted_all _ _ _ (record { deliveries = c.frames.deliveries; size = c.frames.at; stuck = _ }) Malformed c.frames.invariant (subst (λ (z : List ℕ). signal_front z ≡ Malformed) (to_end c.args.bytes.now c.frames.at) c.in-Malformed.ensures) refl refl

pub frames-preserved : goal.frames-preserved
frames-preserved c = sorts_more c.args.connections.now c.args.sender.now c.args.bytes.now _ _ c.frames.at c.in_ok-delivery-in-Arrived.delivery _ c.in-Arrived.size c.frames.invariant (subst (λ (z : List ℕ). signal_front z ≡ Arrived (signal_of c.in-Arrived.frame) c.in-Arrived.size) (to_end c.args.bytes.now c.frames.at) c.in-Arrived.ensures.0) (subst (λ (z : List ℕ). c.in-Arrived.size ≤ length z) (to_end c.args.bytes.now c.frames.at) c.in-Arrived.ensures.1) (omega arith) c.in_ok-push_back-in-Arrived.ensures.items c.in_ok-delivery-in-Arrived.ensures.parcel c.in_ok-delivery-in-Arrived.ensures.placed
