-- What steps that negotiate nothing may reply.
use Rattle.std.proofs.Common.{◌≡◌, ◌∙◌, ℕ, Bool, List, Option, Some, None, sym, ap}
use Rattle.rtc_peer_core.specs.Stance.{Stance}
use Rattle.rtc_run_history.specs.declared.side.Side.{Side}
use Rattle.rtc_run_history.specs.declared.step.Step.TheVariants.{Time, Datagram, Poll, Drain, Write, CloseChannel, Close, Raw}
use Rattle.rtc_run_history.specs.declared.outcome.Outcome.{Outcome}
use Rattle.rtc_run_history.specs.declared.table.Table.{Table}
use Rattle.rtc_run_history.specs.Past.{Entry, MadeSdp, before}
use Rattle.rtc_run_history.specs.Sound.{IsSound, is_handled, is_heard, is_polled, is_written, is_channel_closed}
use Rattle.rtc_run_history.specs.Views.{Stances}
use Rattle.rtc_run_laws.proofs.StanceSteps.{RestTold}

-- the lines of such a step are those from before
pub lines_stay : (old new : Stance) → new ≡ record old { channels = new.channels; rows = new.rows } → new.lines ≡ old.lines
lines_stay old new peer = ap (λ (p : Stance). p.lines) peer

pub time_reply : {E : Type 0} → (fresh between : Stances) (past : List (Entry E)) (at : Side) (now : ℕ) (old new : Stance) (outcome : Outcome E) (table : Option Table) (made : List MadeSdp)
    → before at past ≡ old.lines → new.lines ≡ old.lines → RestTold is_handled old outcome table new → IsSound fresh past between (Time at now) outcome table made
time_reply fresh between past at now old new outcome None made rows stay told = rw told.0 tt
time_reply fresh between past at now old new outcome (Some table) made rows stay told = (told.0, told.1.lines ∙ stay ∙ sym rows)

pub datagram_reply : {E : Type 0} → (fresh between : Stances) (past : List (Entry E)) (at : Side) (packet now : ℕ) (old new : Stance) (outcome : Outcome E) (table : Option Table) (made : List MadeSdp)
    → before at past ≡ old.lines → new.lines ≡ old.lines → RestTold is_heard old outcome table new → IsSound fresh past between (Datagram at packet now) outcome table made
datagram_reply fresh between past at packet now old new outcome None made rows stay told = rw told.0 tt
datagram_reply fresh between past at packet now old new outcome (Some table) made rows stay told = (told.0, told.1.lines ∙ stay ∙ sym rows)

pub poll_reply : {E : Type 0} → (fresh between : Stances) (past : List (Entry E)) (at : Side) (old new : Stance) (outcome : Outcome E) (table : Option Table) (made : List MadeSdp)
    → before at past ≡ old.lines → new.lines ≡ old.lines → RestTold is_polled old outcome table new → IsSound fresh past between (Poll at) outcome table made
poll_reply fresh between past at old new outcome None made rows stay told = rw told.0 tt
poll_reply fresh between past at old new outcome (Some table) made rows stay told = (told.0, told.1.lines ∙ stay ∙ sym rows)

pub drain_reply : {E : Type 0} → (fresh between : Stances) (past : List (Entry E)) (at : Side) (old new : Stance) (outcome : Outcome E) (table : Option Table) (made : List MadeSdp)
    → before at past ≡ old.lines → new.lines ≡ old.lines → RestTold is_polled old outcome table new → IsSound fresh past between (Drain at) outcome table made
drain_reply fresh between past at old new outcome None made rows stay told = rw told.0 tt
drain_reply fresh between past at old new outcome (Some table) made rows stay told = (told.0, told.1.lines ∙ stay ∙ sym rows)

pub write_reply : {E : Type 0} → (fresh between : Stances) (past : List (Entry E)) (at : Side) (channel : ℕ) (binary : Bool) (bytes : List ℕ) (old new : Stance) (outcome : Outcome E) (table : Option Table)
    (made : List MadeSdp) → before at past ≡ old.lines → new.lines ≡ old.lines → RestTold is_written old outcome table new
    → IsSound fresh past between (Write at channel binary bytes) outcome table made
write_reply fresh between past at channel binary bytes old new outcome None made rows stay told = rw told.0 tt
write_reply fresh between past at channel binary bytes old new outcome (Some table) made rows stay told = (told.0, told.1.lines ∙ stay ∙ sym rows)

pub close_channel_reply : {E : Type 0} → (fresh between : Stances) (past : List (Entry E)) (at : Side) (channel : ℕ) (old new : Stance) (outcome : Outcome E) (table : Option Table) (made : List MadeSdp)
    → before at past ≡ old.lines → new.lines ≡ old.lines → RestTold is_channel_closed old outcome table new → IsSound fresh past between (CloseChannel at channel) outcome table made
close_channel_reply fresh between past at channel old new outcome None made rows stay told = rw told.0 tt
close_channel_reply fresh between past at channel old new outcome (Some table) made rows stay told = (told.0, told.1.lines ∙ stay ∙ sym rows)

pub close_reply : {E : Type 0} → (fresh between : Stances) (past : List (Entry E)) (at : Side) (old new : Stance) (outcome : Outcome E) (table : Option Table) (made : List MadeSdp)
    → before at past ≡ old.lines → new.lines ≡ old.lines → RestTold is_handled old outcome table new → IsSound fresh past between (Close at) outcome table made
close_reply fresh between past at old new outcome None made rows stay told = rw told.0 tt
close_reply fresh between past at old new outcome (Some table) made rows stay told = (told.0, told.1.lines ∙ stay ∙ sym rows)

pub raw_reply : {E : Type 0} → (fresh between : Stances) (past : List (Entry E)) (at : Side) (bytes : List ℕ) (now : ℕ) (old new : Stance) (outcome : Outcome E) (table : Option Table) (made : List MadeSdp)
    → before at past ≡ old.lines → new.lines ≡ old.lines → RestTold is_handled old outcome table new → IsSound fresh past between (Raw at bytes now) outcome table made
raw_reply fresh between past at bytes now old new outcome None made rows stay told = rw told.0 tt
raw_reply fresh between past at bytes now old new outcome (Some table) made rows stay told = (told.0, told.1.lines ∙ stay ∙ sym rows)
