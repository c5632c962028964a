-- Ends of the plain association that are to report no message, and no room: by acts without packets, and by packets that bring no item.
use Rattle.std.proofs.Common.{◌≡◌, ◌∷◌, inl, ℕ, false, List, Result}
use Rattle.std.specs.declared.alloc.AllocError.{AllocError}
use Rattle.rtc_parts.specs.declared.assoc_event.AssocEvent.{AssocEvent}
use Rattle.rtc_parts.specs.AssociationActs.{AssociationAct, Acted}
use Rattle.rtc_assoc_state.specs.Contents.{Contents}
use Rattle.rtc_assoc_state.specs.PlainMeaning.{plain_meaning, Gives}
use Rattle.rtc_sctp_laws.specs.GenerationLaws.{gives_packet}
use Rattle.rtc_run_laws.proofs.EndReports.{act_reports}
use Rattle.rtc_run_laws.proofs.EventEnds.{AreEvents, events_on, events_rest, given_events}
use Rattle.rtc_run_laws.proofs.ShutEntries.{ReadsNothing}

-- no event reports a message, or room
abbrev pub AreSilent : List AssocEvent → Type 0
AreSilent events = AreEvents ReadsNothing events

abbrev pub IsSilentEnd : Contents → Type 0
IsSilentEnd p = AreSilent p.events

pub silent_rest : (e : AssocEvent) (events rest : List AssocEvent) → events ≡ e ∷ rest → AreSilent events → ReadsNothing e × AreSilent rest
silent_rest e events rest is h = events_rest ReadsNothing e events rest is h

pub silent_act : (p q : Contents) (act : AssociationAct) → gives_packet act ≡ false → Acted plain_meaning p act q → IsSilentEnd p → IsSilentEnd q
silent_act p q act g h k = events_on ReadsNothing p q (act_reports p q act g h) k

pub silent_given : (p q : Contents) (now : ℕ) (bytes : List ℕ) (r : Result (Unit {0}) AllocError) → Gives p now bytes r q
    → q.inbox.received ≡ p.inbox.received → IsSilentEnd p → IsSilentEnd q
silent_given p q now bytes r h same k = given_events ReadsNothing tt (λ n. tt) (λ n. tt) p q now bytes r h same (inl tt) k
