-- The line of a member behind the steps of its pair.
use Rattle.std.proofs.Common.{◌≡◌, ◌+◌, ◌<◌, ◌^◌, ◌++◌, if◌then◌else◌, ℕ, Bool, true, false, List, [], ◌∷◌, Option, None, refl, sym, ap, subst, arith}
use Rattle.std.specs.declared.alloc.Global.{Global}
use Rattle.rtc_plain_ice.specs.Messages.{is_ice_message}
use Rattle.rtc_plain_media.specs.declared.plain_media_event.PlainMediaEvent.{PlainMediaEvent}
use Rattle.rtc_run_history.specs.Past.{Entry}
use Rattle.rtc_run_history.specs.Performs.{Enters}
use Rattle.rtc_run_history.specs.Runs.{EntersSoundly, Reached, Went}
use Rattle.rtc_run_history.specs.Sides.{same_side, side_of}
use Rattle.rtc_run_history.specs.Sizes.{step_size}
use Rattle.rtc_run_history.specs.declared.shown.Shown.{Shown}
use Rattle.rtc_run_history.specs.declared.side.Side.TheVariants.{Left}
use Rattle.rtc_run_history.specs.Fresh.{IsFresh}
use Rattle.rtc_run_laws.proofs.SoundSteps.{enters_soundly}
use Rattle.rtc_run_laws.proofs.StepsExchange.{plain_over_laws}
use Rattle.rtc_run.specs.ProgramPair.{PlainPairState, counting, plain_parts}
use Rattle.rtc_room_laws.specs.Hearing.{line_behind, outcome_outputs}
use Rattle.rtc_room_laws.specs.RoomRuns.{MemberRan, line_along, line_entered, performed_of}
use Rattle.rtc_room_laws.specs.RoomSteps.{IsNewPairOf, RoomEntry}

-- the line behind more steps, which reached a pair from another one
abbrev pub line_on : (performed : List (Entry PlainMediaEvent)) (before after : PlainPairState)
    → Reached plain_parts is_ice_message before performed after → Option ℕ → Option ℕ
line_on [] before after reached line = line
line_on (entry ∷ performed) before after reached line = line_entered entry after (line_on performed before reached.0 reached.1 line)

-- an entry without outputs leaves a line
pub entered_untold : (entry : Entry PlainMediaEvent) (pair : PlainPairState) (line : Option ℕ) → outcome_outputs entry.outcome ≡ []
    → line_entered entry pair line ≡ line
entered_untold entry pair line none = by (same_side (side_of entry.step) Left)
  where
    by : (b : Bool) → (if b then line_behind pair.left line (outcome_outputs entry.outcome) else line) ≡ line
    by true = ap (λ (l : List (Shown PlainMediaEvent)). line_behind pair.left line l) none
    by false = refl

-- a run to a pair, with the line behind it
abbrev pub LinedWent : (start : PlainPairState) → List (Entry PlainMediaEvent) → PlainPairState → Option ℕ → Type 0
LinedWent start past pair line =
    (went : Went (EntersSoundly plain_parts is_ice_message start) (λ fresh. fresh ≡ start) past pair) × (line_along start past pair went ≡ line)

lined_more : (start old new : PlainPairState) (past : List (Entry PlainMediaEvent)) (entry : Entry PlainMediaEvent) (line : Option ℕ)
    → IsFresh plain_parts start → LinedWent start past old line → Enters plain_parts is_ice_message old entry new → new.size < 2 ^ 32
    → LinedWent start (entry ∷ past) new (line_entered entry new line)
lined_more start old new past entry line fresh lined enters small = (
  (
    old,
    lined.0,
    enters_soundly plain_parts is_ice_message (plain_over_laws counting) start old new past entry fresh lined.0 enters small,
  ),
  ap (line_entered entry new) lined.1,
)

grown : (old new : PlainPairState) (entry : Entry PlainMediaEvent) → Enters plain_parts is_ice_message old entry new → new.size < 2 ^ 32 → old.size < 2 ^ 32
grown old new entry enters small =
    let grows : new.size ≡ old.size + step_size entry.step = enters.performs.size in omega (arith, grows, small)

lined_along : (start old new : PlainPairState) (past more : List (Entry PlainMediaEvent)) (line : Option ℕ) → IsFresh plain_parts start
    → LinedWent start past old line → (reached : Reached plain_parts is_ice_message old more new) → new.size < 2 ^ 32
    → LinedWent start (more ++ past) new (line_on more old new reached line)
lined_along start old new past [] line fresh lined reached small =
    subst (λ (pair : PlainPairState). LinedWent start past pair line) (sym reached) lined
lined_along start old new past (entry ∷ more) line fresh lined reached small =
    lined_more start reached.0 new (more ++ past) entry (line_on more old reached.0 reached.1 line) fresh
    (lined_along start old reached.0 past more line fresh lined reached.1 (grown reached.0 new entry reached.2 small)) reached.2 small

-- ---- the runs of members

-- the run of the pair of a member, with the line behind it
pub record LinedRan (alloc : Global) (k : ℕ) (past : List RoomEntry) (pair : PlainPairState) (line : Option ℕ) : Type 0 where
  pub ran : MemberRan alloc k past pair
  pub along : line ≡ line_along ran.start (performed_of k past) pair ran.went

lined_of : (alloc : Global) (k : ℕ) (past : List RoomEntry) (pair start : PlainPairState) (line : Option ℕ) → IsNewPairOf alloc k start
    → LinedWent start (performed_of k past) pair line → LinedRan alloc k past pair line
lined_of alloc k past pair start line made lined =
    record { ran = record { start = start; made = made; went = lined.0 }; along = sym lined.1 }

pub lined_as : (alloc : Global) (k : ℕ) (past past' : List RoomEntry) (pair : PlainPairState) (line : Option ℕ) → performed_of k past' ≡ performed_of k past
    → LinedRan alloc k past pair line → LinedRan alloc k past' pair line
lined_as alloc k past past' pair line same lined =
    lined_of alloc k past' pair lined.ran.start line lined.ran.made
    (subst (λ (l : List (Entry PlainMediaEvent)). LinedWent lined.ran.start l pair line) (sym same) (lined.ran.went, sym lined.along))

-- a member that just joined
pub lined_new : (alloc : Global) (k : ℕ) (past : List RoomEntry) (pair : PlainPairState) → performed_of k past ≡ [] → IsNewPairOf alloc k pair
    → LinedRan alloc k past pair None
lined_new alloc k past pair none made =
    lined_of alloc k past pair pair None made
    (subst (λ (l : List (Entry PlainMediaEvent)). LinedWent pair l pair None) (sym none) (refl, refl))

-- a member whose pair goes on
pub lined_on : (alloc : Global) (k : ℕ) (past past' : List RoomEntry) (performed : List (Entry PlainMediaEvent)) (before after : PlainPairState)
    (line : Option ℕ) → performed_of k past' ≡ performed ++ performed_of k past → LinedRan alloc k past before line
    → (reached : Reached plain_parts is_ice_message before performed after) → after.size < 2 ^ 32
    → LinedRan alloc k past' after (line_on performed before after reached line)
lined_on alloc k past past' performed before after line same lined reached small =
    lined_of alloc k past' after lined.ran.start (line_on performed before after reached line) lined.ran.made
    (subst (λ (l : List (Entry PlainMediaEvent)). LinedWent lined.ran.start l after (line_on performed before after reached line)) (sym same)
    (lined_along lined.ran.start before after (performed_of k past) performed line lined.ran.made.fresh (lined.ran.went, sym lined.along) reached small))
