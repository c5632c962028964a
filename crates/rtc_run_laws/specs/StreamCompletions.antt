-- The order of the Close of a stream and its completed resets, each of which ends a generation.
use Rattle.std.specs.Prelude.{ℕ, ◌≡◌, ◌+◌, ◌==◌, ◌&&◌, ◌||◌, if◌then◌else◌, nat_lt, Bool, true, false, List, [], ◌∷◌, Err}
use Rattle.rtc_parts.specs.AssociationMeaning.{AssociationMeaning}
use Rattle.rtc_sctp_entries.specs.declared.sctp_event.SctpEvent.{SctpEvent}
use Rattle.rtc_sctp_entries.specs.declared.sctp_event.SctpEvent.TheVariants as event
use Rattle.rtc_sctp.specs.Streams.{SctpStreams}
use Rattle.rtc_sctp_laws.specs.StreamRuns.{CallsInTurn, CallsStreams, Polled}

-- streams as they begin: over an association as it was made, none is in use, and no completed reset is to be reported
pub record AreBeginning {S : Type 0} (m : AssociationMeaning S) (p : SctpStreams S) : Type 0 where
  pub fresh : m.fresh p.association
  pub entries : p.entries ≡ []
  pub completed : p.completed ≡ []

-- whether a call is no poll that ran out of memory, and whether none of some calls in turn is
abbrev pub had_memory : {S : Type 0} (m : AssociationMeaning S) (p : SctpStreams S) (events : List SctpEvent) (q : SctpStreams S)
    → CallsStreams m p events q → Bool
had_memory m p events q (Polled (Err x) h e) = false
had_memory m p events q _ = true

abbrev pub all_had_memory : {S : Type 0} (m : AssociationMeaning S) (all : List (List SctpEvent)) (p q : SctpStreams S)
    → CallsInTurn m all p q → Bool
all_had_memory m [] p q h = true
all_had_memory m (events ∷ more) p q h = had_memory m p events h.0 h.1 && all_had_memory m more h.0 q h.2

-- how many of some events are completed resets of a stream
abbrev pub completed_resets : ℕ → List SctpEvent → ℕ
completed_resets id [] = 0
completed_resets id (event.StreamResetComplete other ∷ events) = (if other == id then 1 else 0) + completed_resets id events
completed_resets id (_ ∷ events) = completed_resets id events

-- Of these events, behind so many completed resets of a stream, its Close comes before the completed reset of a generation: each completed
-- reset that comes before the Close is that of an earlier generation.
abbrev pub closes_before : (stream generation completed : ℕ) → List SctpEvent → Bool
closes_before id g n [] = true
closes_before id g n (event.Close other pending ∷ events) = (other == id) || closes_before id g n events
closes_before id g n (event.StreamResetComplete other ∷ events) =
    if other == id then nat_lt n g && closes_before id g (n + 1) events else closes_before id g n events
closes_before id g n (_ ∷ events) = closes_before id g n events
