-- A step of a side in a run: what it leaves of the channels that the side announced over a generation of a stream, also if the peer is closed before it or
-- behind it.
use Rattle.std.proofs.Common.{◌≡◌, ◌∙◌, ◌⊎◌, inl, inr, ℕ, Bool, true, false, List, [], ◌∷◌, Some, sym, ap}
use Rattle.rtc_parts.specs.Among.{Member}
use Rattle.rtc_parts.specs.Draws.{Draws}
use Rattle.rtc_plain_media.specs.declared.plain_media_event.PlainMediaEvent.{PlainMediaEvent}
use Rattle.rtc_peer_core.specs.declared.phase.Phase.TheVariants.{Closed}
use Rattle.rtc_run_history.specs.declared.side.Side.{Side}
use Rattle.rtc_run_history.specs.Native.{are_native}
use Rattle.rtc_run_history.specs.PairState.{addr_at, rtc_at}
use Rattle.rtc_run_history.specs.Past.{Entry, steps_of}
use Rattle.rtc_run_history.specs.Runs.{Reached}
use Rattle.rtc_run_history.specs.Sides.{other_side, side_of}
use Rattle.rtc_run_laws.specs.ChannelUses.{ChannelUse}
use Rattle.rtc_run_laws.specs.NewPairs.{IsNewPair}
use Rattle.rtc_run_laws.specs.OwnOpenings.{IsOfSide}
use Rattle.rtc_run_laws.specs.PlainPairs.{PlainPair, plain_over}
use Rattle.rtc_run_laws.specs.SentMessages.{sent_acted, sent_over}
use Rattle.rtc_run_laws.specs.ToldMessages.{told_over}
use Rattle.rtc_run_laws.specs.UsesOfRuns.{uses_acted, uses_of}
use Rattle.rtc_run_laws.proofs.AnnouncedStreams.{HasUseOver}
use Rattle.rtc_run_laws.proofs.ClosedUses.{IsUnrolled, IsWhole, closed_or_open, closed_uses, closing_uses, over_acted}
use Rattle.rtc_run_laws.proofs.ConfirmedRuns.{last_rows}
use Rattle.rtc_run_laws.proofs.NativeSteps.{native_entry}
use Rattle.rtc_run_laws.proofs.OwnedRuns.{LivesOnSide}
use Rattle.rtc_run_laws.proofs.NoneAnnounced.{AreNoneOver, GoesOrEnded, acts_none}
use Rattle.rtc_run_laws.proofs.OwnerSteps.{owner_acted}
use Rattle.rtc_run_laws.proofs.ReadOpenings.{NotFull, full_before}
use Rattle.rtc_run_laws.proofs.RolesApart.{HasAtMost, lives_by, role_before}
use Rattle.rtc_run_laws.proofs.RunsTold.{StoodIn, new_pair_told, pair_whole, reached_told}
use Rattle.rtc_run_laws.proofs.StepRows.{StepChanges, changes_closed, changes_given}
use Rattle.rtc_run_laws.proofs.StepsExchange.{plain_over_laws}
use Rattle.rtc_run_laws.proofs.UseLists.{AllUses, all_kept}
use Rattle.rtc_run_laws.proofs.OwnerSides.{HeldAt, SafeAt, good_at, told_at, tokens_at}

module _ {N : Type 0} (draws : Draws N) (stun : List ℕ → Bool) (start : PlainPair N) (new : IsNewPair draws start) (none : start.sdps ≡ []) (s g : ℕ) where
  module _ (entry : Entry PlainMediaEvent) (past : List (Entry PlainMediaEvent)) (pair : PlainPair N) (go : are_native (steps_of (entry ∷ past)) ≡ true)
      (ran : Reached (plain_over draws) stun start (entry ∷ past) pair)
      (free : (x : Side) → NotFull draws s (rtc_at x pair)) where
    abbrev pub acting : Side
    acting = side_of entry.step

    abbrev earlier : are_native (steps_of past) ≡ true
    earlier = (native_entry entry past go).0

    abbrev before : Side → List ChannelUse
    before x = uses_of (plain_over draws) stun start x past ran.0 ran.1

    abbrev was_sent : Side → List (Bool × List ℕ)
    was_sent x = sent_over (plain_over draws) stun start x past ran.0 ran.1 s g

    abbrev acted : List ChannelUse → List ChannelUse
    acted l =
        uses_acted (plain_over draws) stun (addr_at (other_side acting) ran.0) (addr_at acting ran.0) entry.step (rtc_at acting ran.0) ran.0.sdps
        ran.0.packets entry.outcome entry.table (rtc_at acting pair) pair.sdps pair.packets ran.2.performs.acts l

    abbrev sends : List (Bool × List ℕ) → List (Bool × List ℕ)
    sends l = sent_acted (plain_over draws) entry.step entry.outcome (rtc_at acting ran.0) s g l

    rows_of : (x : Side) → StepChanges (plain_over draws) (rtc_at x ran.0) (rtc_at x pair)
    rows_of x = last_rows (plain_over draws) (plain_over_laws draws) stun start entry past pair go ran x

    pub free_before : (x : Side) → NotFull draws s (rtc_at x ran.0)
    free_before x = full_before draws s (rtc_at x ran.0) (rtc_at x pair) (changes_given (plain_over draws) (rtc_at x ran.0) (rtc_at x pair) (rows_of x)) (free x)

    closed_after : (x : Side) → (rtc_at x ran.0).core.phase ≡ Closed → (rtc_at x pair).core.phase ≡ Closed
    closed_after x closed = changes_closed (plain_over draws) (rtc_at x ran.0) (rtc_at x pair) (rows_of x) closed

    abbrev told_by : StoodIn draws acting ran.0 (λ x. uses_of (plain_over draws) stun start x past ran.0 ran.1)
        (λ x. sent_over (plain_over draws) stun start x past ran.0 ran.1) (λ x. told_over (plain_over draws) stun start x past ran.0 ran.1)
    told_by = told_at draws stun start new none past ran.0 earlier ran.1 acting

    -- a side as it acts, with its role behind the step
    lives_after : (e : Bool) → HasAtMost e (rtc_at acting pair) → ((rtc_at acting pair).core.phase ≡ Closed → ⊥) → LivesOnSide (plain_over draws) (plain_over_laws draws) e (rtc_at acting pair)
    lives_after e own live = lives_by draws stun start new e (entry ∷ past) pair go ran acting live own

    lives_then : (e : Bool) → HasAtMost e (rtc_at acting pair) → ((rtc_at acting ran.0).core.phase ≡ Closed → ⊥) → LivesOnSide (plain_over draws) (plain_over_laws draws) e (rtc_at acting ran.0)
    lives_then e own live = lives_by draws stun start new e past ran.0 earlier ran.1 acting live (role_before draws stun start e entry past pair ran acting own)

    -- if it has the stream
    whole_by : (x : ChannelUse) → Member x (before acting) → x.in_band ≡ true → x.rolled_back ≡ false → x.stream ≡ Some s → x.generation ≡ g
        → was_sent acting ≡ x.sent
    whole_by x mine band left of own =
        ap (λ (n : ℕ). sent_over (plain_over draws) stun start acting past ran.0 ran.1 s n) (sym own)
        ∙ pair_whole draws ran.0 (λ y. uses_of (plain_over draws) stun start y past ran.0 ran.1)
        (λ y. sent_over (plain_over draws) stun start y past ran.0 ran.1) (λ y. told_over (plain_over draws) stun start y past ran.0 ran.1) acting
        (reached_told draws stun start past ran.0 earlier ran.1 (new_pair_told draws start new)) x mine band left s of

    pub acting_held : (c : Bool) → HasAtMost c (rtc_at acting pair) → HeldAt s g c acting ran.0.sdps (rtc_at acting ran.0) (before acting) (before (other_side acting)) (was_sent acting)
        → HeldAt s g c acting pair.sdps (rtc_at acting pair) (acted (before acting)) (before (other_side acting)) (sends (was_sent acting))
    acting_held c own was = by (closed_or_open (rtc_at acting pair).core.phase) was
      where
        result : ((rtc_at acting pair).core.phase ≡ Closed → ⊥)
            → AllUses (SafeAt s g c acting pair.sdps (rtc_at acting pair)) (acted (before acting))
            ⊎ (IsOfSide c s × HasUseOver s (Some g) (acted (before acting)) × AreNoneOver s g (before (other_side acting)))
            → HeldAt s g c acting pair.sdps (rtc_at acting pair) (acted (before acting)) (before (other_side acting)) (sends (was_sent acting))
        result live (inl safe) = inl (live, safe)
        result live (inr alone) = inr (inr alone)

        open_step : ((rtc_at acting pair).core.phase ≡ Closed → ⊥)
            → AllUses (SafeAt s g c acting ran.0.sdps (rtc_at acting ran.0)) (before acting)
            ⊎ (IsOfSide c s × HasUseOver s (Some g) (before acting) × AreNoneOver s g (before (other_side acting)))
            → HeldAt s g c acting pair.sdps (rtc_at acting pair) (acted (before acting)) (before (other_side acting)) (sends (was_sent acting))
        open_step live held =
            let lived = lives_then c own (λ closed. live (closed_after acting closed)) in
            result live
            (owner_acted draws s g told_by.other (rtc_at (other_side acting) ran.0) (sent_over (plain_over draws) stun start acting past ran.0 ran.1) c stun
            (addr_at (other_side acting) ran.0) (addr_at acting ran.0) entry.step (rtc_at acting ran.0) ran.0.sdps ran.0.packets entry.outcome entry.table
            (rtc_at acting pair) pair.sdps pair.packets (native_entry entry past go).1
            ran.2.performs.acts (lives_after c own live) (good_at draws stun start new none past ran.0 earlier ran.1 acting c lived) (before acting)
            (told_over (plain_over draws) stun start acting past ran.0 ran.1) told_by.stood (tokens_at draws stun start new none past ran.0 earlier ran.1 acting c lived)
            (before (other_side acting)) told_by.rest.side (free acting) (rows_of acting) held)

        by : ((rtc_at acting pair).core.phase ≡ Closed) ⊎ ((rtc_at acting pair).core.phase ≡ Closed → ⊥)
            → HeldAt s g c acting ran.0.sdps (rtc_at acting ran.0) (before acting) (before (other_side acting)) (was_sent acting)
            → HeldAt s g c acting pair.sdps (rtc_at acting pair) (acted (before acting)) (before (other_side acting)) (sends (was_sent acting))
        by (inr live) (inl safe) = open_step live (inl safe.1)
        by (inr live) (inr (inl over)) = absurd (live (closed_after acting over.0))
        by (inr live) (inr (inr alone)) = open_step live (inr alone)
        by (inl closed) (inl safe) =
            inr
            (inl (
              closed,
              all_kept (IsUnrolled s g c) (IsWhole s g c (sends (was_sent acting))) (acted (before acting)) (λ x k. λ band of own kind. inl (k band of own kind))
                  (closing_uses draws s g c stun (addr_at (other_side acting) ran.0) (addr_at acting ran.0) entry.step (rtc_at acting ran.0) ran.0.sdps
                  ran.0.packets entry.outcome entry.table (rtc_at acting pair) pair.sdps pair.packets ran.2.performs.acts safe.0 closed (before acting)
                  (all_kept (SafeAt s g c acting ran.0.sdps (rtc_at acting ran.0)) (IsUnrolled s g c) (before acting) (λ x k. λ band of own kind. (k band of own kind).0)
                  safe.1)),
            ))
        by (inl closed) (inr (inl over)) =
            inr
            (inl (
              closed,
              closed_uses draws s g c stun (addr_at (other_side acting) ran.0) (addr_at acting ran.0) entry.step (rtc_at acting ran.0) ran.0.sdps
                  ran.0.packets entry.outcome entry.table (rtc_at acting pair) pair.sdps pair.packets ran.2.performs.acts over.0 (before acting)
                  (was_sent acting) whole_by over.1,
            ))
        by (inl closed) (inr (inr alone)) =
            inr
            (inr (
              alone.0,
              over_acted draws s g c stun (addr_at (other_side acting) ran.0) (addr_at acting ran.0) entry.step (rtc_at acting ran.0) ran.0.sdps
                  ran.0.packets entry.outcome entry.table (rtc_at acting pair) pair.sdps pair.packets ran.2.performs.acts (before acting) alone.1,
              alone.2,
            ))

    -- if the other side has it
    pub acting_none : (d : Bool) → (IsOfSide d s → ⊥) → HasAtMost d (rtc_at acting pair) → HasUseOver s (Some g) (before (other_side acting))
        → AreNoneOver s g (before acting) → AreNoneOver s g (acted (before acting))
    acting_none d foreign own bad nothing =
        acts_none draws s g told_by.other (rtc_at (other_side acting) ran.0) (sent_over (plain_over draws) stun start acting past ran.0 ran.1) d foreign
        (before (other_side acting)) bad told_by.rest.side stun (addr_at (other_side acting) ran.0) (addr_at acting ran.0) entry.step
        (rtc_at acting ran.0) ran.0.sdps ran.0.packets entry.outcome entry.table (rtc_at acting pair) pair.sdps pair.packets ran.2.performs.acts
        (before acting) (told_over (plain_over draws) stun start acting past ran.0 ran.1) (free_before acting) (free acting) told_by.stood
        (goes (closed_or_open (rtc_at acting ran.0).core.phase)) nothing
      where
        goes : ((rtc_at acting ran.0).core.phase ≡ Closed) ⊎ ((rtc_at acting ran.0).core.phase ≡ Closed → ⊥)
            → GoesOrEnded draws s g acting told_by.other (rtc_at (other_side acting) ran.0) (sent_over (plain_over draws) stun start acting past ran.0 ran.1)
            d (rtc_at acting ran.0)
        goes (inl closed) = inl closed
        goes (inr live) =
            let lived = lives_then d own live in
            inr (record { lives = lived; good = good_at draws stun start new none past ran.0 earlier ran.1 acting d lived })
