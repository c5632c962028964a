-- Only a step that polls has outputs.
use Rattle.std.proofs.Common.{◌≡◌, ℕ, Bool, List, [], Option, Some, None, Result, refl}
use Rattle.rtc_wire.specs.DatagramRecv.{kind_by}
use Rattle.rtc_wire.specs.declared.transmit.Transmit.{Transmit}
use Rattle.rtc_change.specs.PendingOffer.{PendingOffer}
use Rattle.rtc_plain_ice.specs.Messages.{is_ice_message}
use Rattle.rtc_plain_media.specs.declared.plain_media_event.PlainMediaEvent.{PlainMediaEvent}
use Rattle.rtc_peer_core.specs.declared.rtc_error.RtcError.{RtcError}
use Rattle.rtc_run_history.specs.CallReplies.{ClosesOpenChannel, FindsNone, StepCalls, StepClosesChannel, StepWrites}
use Rattle.rtc_run_history.specs.Performs.{HandlesRead, Negotiates, StepAcceptsAnswer, StepAcceptsOffer, StepRollsBack, StepTakesDatagram}
use Rattle.rtc_run_history.specs.Signalled.{Signalled, NotMade, Readable, Unreadable}
use Rattle.rtc_run_history.specs.declared.kept.Kept.{Kept}
use Rattle.rtc_run_history.specs.declared.op.Op.{Op}
use Rattle.rtc_run_history.specs.declared.outcome.Outcome.{Outcome}
use Rattle.rtc_run_history.specs.declared.outcome.Outcome.TheVariants.{Negotiated, Answered, Finished, Done, Wrote, Refused, NoSuch, Alloc}
use Rattle.rtc_run_history.specs.declared.side.Side.{Side}
use Rattle.rtc_run_history.specs.declared.table.Table.{Table}
use Rattle.rtc_run_laws.specs.PlainPairs.{PlainPolled}
use Rattle.rtc_run.specs.ProgramPair.{PlainPeer, plain_parts}
use Rattle.rtc_room_laws.specs.Hearing.{outcome_outputs}

pub calls_untold : (call : PlainPolled ℕ → Result (Unit {0}) RtcError → PlainPolled ℕ → Type 0) (old : PlainPolled ℕ) (outcome : Outcome PlainMediaEvent)
    (table : Option Table) (new : PlainPolled ℕ) → StepCalls plain_parts call old outcome table new → outcome_outputs outcome ≡ []
calls_untold call old Alloc None new h = refl
calls_untold call old Done (Some table) new h = refl
calls_untold call old (Refused error) (Some table) new h = refl
calls_untold call old outcome table new h = absurd h

finds_untold : (old : PlainPolled ℕ) (outcome : Outcome PlainMediaEvent) (table : Option Table) (new : PlainPolled ℕ)
    → FindsNone plain_parts old outcome table new → outcome_outputs outcome ≡ []
finds_untold old Alloc None new h = refl
finds_untold old NoSuch (Some table) new h = refl
finds_untold old outcome table new h = absurd h

pub writes_untold : (found : Option ℕ) (binary : Bool) (bytes : List ℕ) (old : PlainPolled ℕ) (outcome : Outcome PlainMediaEvent) (table : Option Table)
    (new : PlainPolled ℕ) → StepWrites plain_parts found binary bytes old outcome table new → outcome_outputs outcome ≡ []
writes_untold None binary bytes old outcome table new h = finds_untold old outcome table new h
writes_untold (Some stream) binary bytes old Alloc None new h = refl
writes_untold (Some stream) binary bytes old (Wrote taken) (Some table) new h = refl
writes_untold (Some stream) binary bytes old (Refused error) (Some table) new h = refl
writes_untold (Some stream) binary bytes old outcome table new h = absurd h

pub closes_untold : (found : Option ℕ) (id : ℕ) (old : PlainPolled ℕ) (outcome : Outcome PlainMediaEvent) (table : Option Table) (new : PlainPolled ℕ)
    → StepClosesChannel plain_parts found id old outcome table new → outcome_outputs outcome ≡ []
closes_untold None id old outcome table new h = finds_untold old outcome table new h
closes_untold (Some stream) id old outcome table new h = calls_untold (ClosesOpenChannel plain_parts id) old outcome table new h

pub takes_untold : (transmit : Option Transmit) (now : ℕ) (old : PlainPolled ℕ) (outcome : Outcome PlainMediaEvent) (table : Option Table) (new : PlainPolled ℕ)
    → StepTakesDatagram plain_parts is_ice_message transmit now old outcome table new → outcome_outputs outcome ≡ []
takes_untold None now old Alloc None new h = refl
takes_untold None now old NoSuch (Some table) new h = refl
takes_untold None now old outcome table new h = absurd h
takes_untold (Some transmit) now old outcome table new h =
    calls_untold (HandlesRead plain_parts (kind_by is_ice_message transmit.contents) transmit now) old outcome table new h

pub negotiates_untold : (at : Side) (ops : List Op) (apply : Bool) (old : PlainPeer) (sdps : List Kept) (outcome : Outcome PlainMediaEvent) (table : Option Table)
    (new : PlainPeer) (sdps' : List Kept) → Negotiates plain_parts at ops apply old sdps outcome table new sdps' → outcome_outputs outcome ≡ []
negotiates_untold at ops apply old sdps Alloc None new sdps' h = refl
negotiates_untold at ops apply old sdps (Negotiated answers made) (Some table) new sdps' h = refl
negotiates_untold at ops apply old sdps outcome table new sdps' h = absurd h

pub offer_untold : (at : Side) (offer : Signalled) (old : PlainPeer) (sdps : List Kept) (outcome : Outcome PlainMediaEvent) (table : Option Table) (new : PlainPeer)
    (sdps' : List Kept) → StepAcceptsOffer plain_parts at offer old sdps outcome table new sdps' → outcome_outputs outcome ≡ []
offer_untold at NotMade old sdps Alloc None new sdps' h = refl
offer_untold at (Unreadable line) old sdps Alloc None new sdps' h = refl
offer_untold at (Readable sdp) old sdps Alloc None new sdps' h = refl
offer_untold at NotMade old sdps NoSuch (Some table) new sdps' h = refl
offer_untold at (Unreadable line) old sdps (Refused error) (Some table) new sdps' h = refl
offer_untold at (Readable sdp) old sdps (Answered k) (Some table) new sdps' h = refl
offer_untold at (Readable sdp) old sdps (Refused error) (Some table) new sdps' h = refl
offer_untold at offer old sdps outcome table new sdps' h = absurd h

pub answer_untold : (t : ℕ) (token : Option PendingOffer) (answer : Signalled) (old : PlainPeer) (sdps : List Kept) (outcome : Outcome PlainMediaEvent)
    (table : Option Table) (new : PlainPeer) (sdps' : List Kept) → StepAcceptsAnswer plain_parts t token answer old sdps outcome table new sdps'
    → outcome_outputs outcome ≡ []
answer_untold t None NotMade old sdps Alloc None new sdps' h = refl
answer_untold t None (Unreadable line) old sdps Alloc None new sdps' h = refl
answer_untold t None (Readable sdp) old sdps Alloc None new sdps' h = refl
answer_untold t (Some token) NotMade old sdps Alloc None new sdps' h = refl
answer_untold t (Some token) (Unreadable line) old sdps Alloc None new sdps' h = refl
answer_untold t (Some token) (Readable sdp) old sdps Alloc None new sdps' h = refl
answer_untold t None NotMade old sdps NoSuch (Some table) new sdps' h = refl
answer_untold t None (Unreadable line) old sdps NoSuch (Some table) new sdps' h = refl
answer_untold t None (Readable sdp) old sdps NoSuch (Some table) new sdps' h = refl
answer_untold t (Some token) NotMade old sdps NoSuch (Some table) new sdps' h = refl
answer_untold t (Some token) (Unreadable line) old sdps (Refused error) (Some table) new sdps' h = refl
answer_untold t (Some token) (Readable sdp) old sdps Finished (Some table) new sdps' h = refl
answer_untold t (Some token) (Readable sdp) old sdps (Refused error) (Some table) new sdps' h = refl
answer_untold t token answer old sdps outcome table new sdps' h = absurd h

pub rollback_untold : (t : ℕ) (token : Option PendingOffer) (old : PlainPeer) (sdps : List Kept) (outcome : Outcome PlainMediaEvent) (table : Option Table)
    (new : PlainPeer) (sdps' : List Kept) → StepRollsBack plain_parts t token old sdps outcome table new sdps' → outcome_outputs outcome ≡ []
rollback_untold t None old sdps Alloc None new sdps' h = refl
rollback_untold t (Some token) old sdps Alloc None new sdps' h = refl
rollback_untold t None old sdps NoSuch (Some table) new sdps' h = refl
rollback_untold t (Some token) old sdps Done (Some table) new sdps' h = refl
rollback_untold t (Some token) old sdps (Refused error) (Some table) new sdps' h = refl
rollback_untold t token old sdps outcome table new sdps' h = absurd h
