-- A call that answers nothing but whether it is refused, as a step replies to it.
use Rattle.std.proofs.Common.{◌≡◌, ℕ, Bool, List, Option, Some, None, Result, Ok, Err, refl}
use Rattle.rtc_wire.specs.DatagramRecv.{kind_by}
use Rattle.rtc_wire.specs.declared.transmit.Transmit.{Transmit}
use Rattle.rtc_run_history.specs.CallReplies.{StepCalls}
use Rattle.rtc_run_history.specs.declared.outcome.Outcome.{Outcome}
use Rattle.rtc_run_history.specs.declared.outcome.Outcome.TheVariants.{Alloc}
use Rattle.rtc_run_history.specs.declared.table.Table.{Table}
use Rattle.rtc_run_history.specs.Performs.{HandlesRead, StepTakesDatagram}
use Rattle.rtc_peer_core.specs.declared.rtc_error.RtcError.{RtcError}
use Rattle.rtc_peer_core.specs.Meanings.{Meanings}
use Rattle.rtc_peer_transport.specs.declared.polled_peer.PolledPeer.{PolledPeer}
use Rattle.rtc_run_steps.specs.OutcomeOf.{outcome_of}
use Rattle.rtc_run_steps.specs.ShownTable.{shown_table}

pub answered_call : {I D S M E X T W N : Type 0} (m : Meanings I D S M E X T W N)
    (call : PolledPeer I D S M N → Result (Unit {0}) RtcError → PolledPeer I D S M N → Type 0) (old : PolledPeer I D S M N)
    (answer : Result (Unit {0}) RtcError) (outcome : Outcome E) (table : Option Table) (new : PolledPeer I D S M N) → call old answer new
    → outcome ≡ outcome_of answer → table ≡ Some (shown_table m.association new.core) → StepCalls m call old outcome table new
answered_call m call old (Ok done) outcome table new called told shown = rw (told, shown) (called, record { lines = refl; channels = refl })
answered_call m call old (Err error) outcome table new called told shown = rw (told, shown) (called, record { lines = refl; channels = refl })

-- a datagram that the other side sent, and no call without memory for the table
pub heard : {I D S M E X T W N : Type 0} (m : Meanings I D S M E X T W N) (stun : List ℕ → Bool) (found : Option Transmit) (transmit : Transmit) (now : ℕ) (old : PolledPeer I D S M N)
    (answer : Result (Unit {0}) RtcError) (outcome : Outcome E) (table : Option Table) (new : PolledPeer I D S M N) → found ≡ Some transmit
    → HandlesRead m (kind_by stun transmit.contents) transmit now old answer new → outcome ≡ outcome_of answer → table ≡ Some (shown_table m.association new.core)
    → StepTakesDatagram m stun found now old outcome table new
heard m stun found transmit now old answer outcome table new is handled told shown =
    rw is (answered_call m (HandlesRead m (kind_by stun transmit.contents) transmit now) old answer outcome table new handled told shown)

pub unheard : {I D S M E X T W N : Type 0} (m : Meanings I D S M E X T W N) (stun : List ℕ → Bool) (found : Option Transmit) (now : ℕ) (p : PolledPeer I D S M N) (outcome : Outcome E)
    (table : Option Table) → outcome ≡ Alloc → table ≡ None → StepTakesDatagram m stun found now p outcome table p
unheard m stun None now p outcome table told shown = rw (told, shown) refl
unheard m stun (Some transmit) now p outcome table told shown = rw (told, shown) refl
