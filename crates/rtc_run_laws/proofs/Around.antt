-- What surrounds what the acting peer of a step does, and steps that add no row and no SDP.
use Rattle.std.proofs.Common.{◌≡◌, ◌≤◌, ◌<◌, ◌+◌, ◌^◌, ℕ, List, ◌∷◌, ◌++◌, length, length-append, Bool, true, false, cond, Option, sym, ◌∙◌, ap, arith}
use Rattle.std.specs.Prelude.{slice_get}
use Rattle.std.proofs.lemmas.List.{length-map}
use Rattle.std.proofs.lemmas.Option.{slice_get-map}
use Rattle.rtc_run_history.specs.declared.side.Side.{Side}
use Rattle.rtc_run_history.specs.declared.step.Step.{Step}
use Rattle.rtc_run_history.specs.declared.step.Step.TheVariants.{Negotiate, AcceptOffer, AcceptAnswer, Time, Datagram, Poll, Drain, Write, CloseChannel, Close, Rollback, ForeignOffer, ForeignAnswer, Raw}
use Rattle.rtc_run_history.specs.declared.outcome.Outcome.{Outcome}
use Rattle.rtc_run_history.specs.declared.table.Table.{Table}
use Rattle.rtc_run_history.specs.Sides.{other_side, side_of}
use Rattle.rtc_run_history.specs.Sizes.{step_size}
use Rattle.rtc_run_history.specs.Past.{Entry, MadeSdp, before, channels_shown, channel_rows_or, numbers_in, numbers_told, numbers_or, rows_or, sdps, sdp_for, remote_sdp, spends, moves, makes}
use Rattle.rtc_run_history.specs.Signalled.{signalled_if}
use Rattle.rtc_run_history.specs.PairState.{made_sdp, kept_remote_sdp}
use Rattle.rtc_peer_core.specs.Stance.{Stance}
use Rattle.rtc_run_laws.proofs.NumberedChannels.{AreNumbered, less_weaker, less_append}
use Rattle.rtc_run_laws.proofs.Tells.{ChannelsTell, Tells, same_side-self}
use Rattle.rtc_run_laws.proofs.Entries.{Goes, unmade_tells}
use Rattle.rtc_run_laws.proofs.StanceSteps.{PairStance, made_by}

abbrev pub entry : {E : Type 0} → Step → Outcome E → Option Table → List MadeSdp → Entry E
entry step outcome table made = record { step = step; outcome = outcome; table = table; made = made }

-- what is known of a step besides what its peer does
pub record Around (step : Step) (made : List MadeSdp) (old new : PairStance) : Type 0 where
  pub other : new.sides (other_side (side_of step)) ≡ old.sides (other_side (side_of step))
  pub size : new.size ≡ old.size + step_size step
  pub small : new.size < 2 ^ 32
  pub made_is : made ≡ made_by old new

pub one_at_least : (step : Step) → 1 ≤ step_size step
one_at_least (Negotiate at ops apply) = omega arith
one_at_least (AcceptOffer at offer) = omega arith
one_at_least (AcceptAnswer at token answer) = omega arith
one_at_least (Time at now) = omega arith
one_at_least (Datagram at packet now) = omega arith
one_at_least (Poll at) = omega arith
one_at_least (Drain at) = omega arith
one_at_least (Write at channel binary bytes) = omega arith
one_at_least (CloseChannel at channel) = omega arith
one_at_least (Close at) = omega arith
one_at_least (Rollback at token) = omega arith
one_at_least (ForeignOffer at text) = omega arith
one_at_least (ForeignAnswer at token text) = omega arith
one_at_least (Raw at bytes now) = omega arith

pub size_grows : (step : Step) (made : List MadeSdp) (old new : PairStance) → Around step made old new → old.size + 1 ≤ new.size
size_grows step made old new around = omega (arith, one_at_least step, around.size)

pub goes_on : {E : Type 0} → (moved : Bool) (past : List (Entry E)) (step : Step) (outcome : Outcome E) (table : Option Table) (made : List MadeSdp) (old new : PairStance)
    → (new.sides (side_of step)).lines ≡ rows_or true table (before (side_of step) past)
    → ChannelsTell (entry step outcome table made ∷ past) (side_of step) (new.sides (side_of step))
    → (new.sides (side_of step)).counter ≡ cond moved ((old.sides (side_of step)).counter + 1) (old.sides (side_of step)).counter
    → moves (side_of step) step outcome ≡ moved → moves (other_side (side_of step)) step outcome ≡ false
    → Around step made old new → Goes moved past (entry step outcome table made) old new
goes_on moved past step outcome table made old new rows channels counter mine theirs around = record {
  rows = rows;
  channels = channels;
  counter = counter;
  other = around.other;
  mine = mine;
  theirs = theirs;
  grows = size_grows step made old new around;
  small = around.small;
  made = around.made_is;
}

-- the channels of a side after a step that tells the numbers that it gives
pub channels_next : {E : Type 0} → (past : List (Entry E)) (step : Step) (outcome : Outcome E) (table : Option Table) (made : List MadeSdp) (s t : Stance)
    → AreNumbered (numbers_in outcome) s.channels t.channels → channel_rows_or true table (channels_shown (side_of step) past) ≡ t.rows
    → ChannelsTell past (side_of step) s → ChannelsTell (entry step outcome table made ∷ past) (side_of step) t
channels_next past step outcome table made s t numbered shown tell =
    let earlier : List ℕ = numbers_told (side_of step) past in
    let all : numbers_told (side_of step) (entry step outcome table made ∷ past) ≡ numbers_in outcome ++ earlier = ap (λ b. numbers_or b outcome earlier) (same_side-self (side_of step)) in
    record {
      shown = sym shown ∙ sym (ap (λ b. channel_rows_or b table (channels_shown (side_of step) past)) (same_side-self (side_of step)));
      few = rw all (omega (arith, numbered.few, tell.few, length-append (numbers_in outcome) earlier));
      below = numbered.below tell.below;
      rising = numbered.rising tell.below tell.rising;
      told = rw all (less_append t.channels.given (numbers_in outcome) earlier (numbered.told tell.below) (less_weaker s.channels.given t.channels.given earlier numbered.rises tell.told));
    }

-- A step that leaves SDPs as they were.
pub quiet_tells : {E : Type 0} → (moved : Bool) (past : List (Entry E)) (step : Step) (outcome : Outcome E) (table : Option Table) (made : List MadeSdp) (old new : PairStance)
    → new.sdps ≡ old.sdps
    → (new.sides (side_of step)).lines ≡ rows_or true table (before (side_of step) past)
    → ChannelsTell (entry step outcome table made ∷ past) (side_of step) (new.sides (side_of step))
    → (new.sides (side_of step)).counter ≡ cond moved ((old.sides (side_of step)).counter + 1) (old.sides (side_of step)).counter
    → moves (side_of step) step outcome ≡ moved → moves (other_side (side_of step)) step outcome ≡ false
    → ((t : ℕ) → spends t step outcome ≡ false) → ((t : ℕ) → makes t outcome ≡ false)
    → Around step made old new → Tells past old → Tells (entry step outcome table made ∷ past) new
quiet_tells moved past step outcome table made old new kept rows channels counter mine theirs unspent unmade around tells =
    unmade_tells moved past (entry step outcome table made) old new (goes_on moved past step outcome table made old new rows channels counter mine theirs around) kept unspent unmade tells

-- ---- SDPs that are delivered

-- what the past says of an SDP is what is kept of it
pub remote_sdp-told : {E : Type 0} → (past : List (Entry E)) (pair : PairStance) (offer : Bool) (at : Side) (k : ℕ) → Tells past pair → remote_sdp offer at k past ≡ kept_remote_sdp offer pair.sdps at k
remote_sdp-told past pair offer at k tells =
    ap signalled_if (ap (λ said. sdp_for offer at (slice_get said k)) (sym tells.says) ∙ ap (sdp_for offer at) (slice_get-map made_sdp pair.sdps k))

-- how many SDPs there are
pub length-told : {E : Type 0} → (past : List (Entry E)) (pair : PairStance) → Tells past pair → length (sdps past) ≡ length pair.sdps
length-told past pair tells = ap length (sym tells.says) ∙ length-map pair.sdps made_sdp
