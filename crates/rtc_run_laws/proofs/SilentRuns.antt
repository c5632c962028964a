-- What is told in runs of channels that the other side has not announced.
use Rattle.std.proofs.Common.{◌≡◌, ◌⊎◌, ◌≤◌, ◌<◌, ◌-◌, ◌^◌, ◌++◌, ◌∷◌, if◌then◌else◌, ℕ, Bool, true, false, true≢false, List, [], Some, inl, inr, refl, sym, subst, arith}
use Rattle.rtc_parts.specs.Draws.{Draws}
use Rattle.rtc_plain_media.specs.declared.plain_media_event.PlainMediaEvent.{PlainMediaEvent}
use Rattle.rtc_peer_core.specs.declared.phase.Phase.TheVariants.{Closed}
use Rattle.rtc_peer_laws.specs.PeerActs.{PeerActs}
use Rattle.rtc_run_history.specs.Native.{are_native, is_native}
use Rattle.rtc_run_history.specs.PairState.{addr_at, rtc_at}
use Rattle.rtc_run_history.specs.Past.{Entry, steps_of}
use Rattle.rtc_run_history.specs.Runs.{Reached}
use Rattle.rtc_run_history.specs.Sides.{other_side, same_side, side_of}
use Rattle.rtc_run_history.specs.declared.side.Side.{Side}
use Rattle.rtc_run_history.specs.declared.side.Side.TheVariants.{Left, Right}
use Rattle.rtc_run_history.specs.declared.step.Step.{Step}
use Rattle.rtc_run_laws.specs.ChannelUses.{ChannelUse}
use Rattle.rtc_run_laws.specs.InBandSteps.{AreInBandSteps, IsInBandStep}
use Rattle.rtc_run_laws.specs.NewPairs.{IsNewPair}
use Rattle.rtc_run_laws.specs.PlainPairs.{PlainPair, PlainPolled, plain_over}
use Rattle.rtc_run_laws.specs.SentMessages.{sent_acted, sent_over}
use Rattle.rtc_run_laws.specs.ToldMessages.{told_over}
use Rattle.rtc_run_laws.specs.UsesOfRuns.{uses_acted, uses_of}
use Rattle.rtc_run_laws.proofs.AnnouncedStreams.{HasUseOver, found}
use Rattle.rtc_run_laws.proofs.BandedInputs.{SideBanded}
use Rattle.rtc_run_laws.proofs.BandedRuns.{side_banded, steps_of_stream}
use Rattle.rtc_run_laws.proofs.ConfirmedRuns.{last_rows}
use Rattle.rtc_run_laws.proofs.NativeSteps.{native_entry}
use Rattle.rtc_run_laws.proofs.RunsTold.{PairTold, new_pair_told, reached_told}
use Rattle.rtc_run_laws.proofs.StandingEntries.{AreBanded}
use Rattle.rtc_run_laws.proofs.StandingSides.{Sent, SideSent}
use Rattle.rtc_run_laws.proofs.StepRows.{changes_given}
use Rattle.rtc_run_laws.proofs.StepsExchange.{plain_over_laws}
use Rattle.rtc_run_laws.specs.Unannounced.{AreGotOfAnnounced, AreGotOfSent, AreSentOfAnnounced, AreToldOfAnnounced, AreToldOfSent, HaveNumbersLeft, IsAnnouncedOver}
use Rattle.rtc_run_laws.proofs.Silence.{pair_got_over, pair_got_sent, pair_told_sent}
use Rattle.rtc_run_laws.proofs.SentUses.{IsSentOver, after_step}

-- the last of the steps, and those before
first_steps : (steps : List Step) (step : Step) → AreInBandSteps (steps ++ step ∷ []) → AreInBandSteps steps × IsInBandStep step
first_steps [] step h = (tt, h.0)
first_steps (first ∷ steps) step h = let rest = first_steps steps step h.1 in ((h.0, rest.0), rest.1)

same_is : (a b : Side) → same_side a b ≡ true → a ≡ b
same_is Left Left h = refl
same_is Right Right h = refl
same_is Left Right h = absurd (true≢false (sym h))
same_is Right Left h = absurd (true≢false (sym h))

some_is : (n k : ℕ) → Some n ≡ Some k → n ≡ k
some_is n k h = cc

announced_is : (s g : ℕ) (uses : List ChannelUse) → HasUseOver s (Some g) uses → IsAnnouncedOver s g uses
announced_is s g uses h =
    let use_found = found s (Some g) uses h in
    record {
      use_of = use_found.use_over;
      member = use_found.member;
      in_band = use_found.is_over.0;
      stream_is = use_found.is_over.1;
      generation_is = some_is use_found.use_over.generation g (sym use_found.is_over.2);
    }

sent_is : (s g : ℕ) (sent : List (Bool × List ℕ)) (uses : List ChannelUse) → (sent ≡ []) ⊎ HasUseOver s (Some g) uses → (sent ≡ []) ⊎ IsAnnouncedOver s g uses
sent_is s g sent uses (inl none) = inl none
sent_is s g sent uses (inr over) = inr (announced_is s g uses over)

told_is : (s g : ℕ) (sent told : List (Bool × List ℕ)) (others : List ChannelUse) → (sent ≡ [] → told ≡ []) → (sent ≡ []) ⊎ IsAnnouncedOver s g others
    → (told ≡ []) ⊎ IsAnnouncedOver s g others
told_is s g sent told others silent (inl none) = inl (silent none)
told_is s g sent told others silent (inr over) = inr over

less_before : (n k : ℕ) → n ≤ k → k < 2 ^ 64 - 1 → n < 2 ^ 64 - 1
less_before n k up left = omega (arith, up, left)

module _ {N : Type 0} (draws : Draws N) where
  entries_band : (s : ℕ) (p : PlainPolled N) → SideBanded s (plain_over draws) p → (p.core.phase ≡ Closed) ⊎ AreBanded s p.core.sctp.entries
  entries_band s p (inl closed) = inl closed
  entries_band s p (inr band) = inr band.entries

  -- ---- runs

  module _ (stun : List ℕ → Bool) (start : PlainPair N) (new : IsNewPair draws start) (none : start.sdps ≡ []) where
    -- a number was left before the last step, if one is behind it
    numbers_before : (entry : Entry PlainMediaEvent) (past : List (Entry PlainMediaEvent)) (pair : PlainPair N)
        → are_native (steps_of (entry ∷ past)) ≡ true → (ran : Reached (plain_over draws) stun start (entry ∷ past) pair) → HaveNumbersLeft pair
        → HaveNumbersLeft ran.0
    numbers_before entry past pair go ran numbers = λ at.
        let up =
        changes_given (plain_over draws) (rtc_at at ran.0) (rtc_at at pair)
        (last_rows (plain_over draws) (plain_over_laws draws) stun start entry past pair go ran at)
        in
        less_before (rtc_at at ran.0).core.channels.given (rtc_at at pair).core.channels.given up (numbers at)

    sent_uses : (past : List (Entry PlainMediaEvent)) (pair : PlainPair N) → are_native (steps_of past) ≡ true → AreInBandSteps (steps_of past)
        → (ran : Reached (plain_over draws) stun start past pair) → HaveNumbersLeft pair → (at : Side) (s g : ℕ)
        → IsSentOver draws s g (sent_over (plain_over draws) stun start at past pair ran s g) (uses_of (plain_over draws) stun start at past pair ran)
    sent_uses [] pair go steps ran numbers at s g = inl refl
    sent_uses (entry ∷ past) pair go steps ran numbers at s g =
        by (same_side (side_of entry.step) at) refl (sent_uses past ran.0 native.0 both.0 ran.1 (numbers_before entry past pair go ran numbers) at s g)
      where
        native : (are_native (steps_of past) ≡ true) × (is_native entry.step ≡ true)
        native = native_entry entry past go

        both : AreInBandSteps (steps_of past) × IsInBandStep entry.step
        both = first_steps (steps_of past) entry.step steps

        uses : Side → List ChannelUse
        uses x = uses_of (plain_over draws) stun start x past ran.0 ran.1

        sent : Side → Sent
        sent x = sent_over (plain_over draws) stun start x past ran.0 ran.1

        told : PairTold draws ran.0 uses sent (λ x. told_over (plain_over draws) stun start x past ran.0 ran.1)
        told = reached_told draws stun start past ran.0 native.0 ran.1 (new_pair_told draws start new)

        band : (t : ℕ) → SideBanded t (plain_over draws) (rtc_at (side_of entry.step) ran.0)
        band t = side_banded draws stun start new none past ran.0 native.0 ran.1 t (side_of entry.step) (steps_of_stream t (steps_of past) both.0)

        side : (x : Side) → (acts : PeerActs)
            × SideSent draws acts (uses x) (sent x) (told_over (plain_over draws) stun start x past ran.0 ran.1) (rtc_at x ran.0)
        side Left = (told.acts.left, told.left)
        side Right = (told.acts.right, told.right)

        sends : List (Bool × List ℕ) → List (Bool × List ℕ)
        sends l = sent_acted (plain_over draws) entry.step entry.outcome (rtc_at (side_of entry.step) ran.0) s g l

        acts_on : List ChannelUse → List ChannelUse
        acts_on l =
            uses_acted (plain_over draws) stun (addr_at (other_side (side_of entry.step)) ran.0) (addr_at (side_of entry.step) ran.0) entry.step (rtc_at (side_of entry.step) ran.0) ran.0.sdps ran.0.packets entry.outcome entry.table
            (rtc_at (side_of entry.step) pair) pair.sdps pair.packets ran.2.performs.acts l

        acted : IsSentOver draws s g (sent (side_of entry.step) s g) (uses (side_of entry.step))
            → IsSentOver draws s g (sends (sent (side_of entry.step) s g)) (acts_on (uses (side_of entry.step)))
        acted h =
            let here = side (side_of entry.step) in
            after_step draws here.1.side.written here.1.side.read (uses (side_of entry.step)) (rtc_at (side_of entry.step) ran.0) here.1.side.told
            (λ t. entries_band t (rtc_at (side_of entry.step) ran.0) (band t)) (numbers_before entry past pair go ran numbers (side_of entry.step)) s g
            (sent (side_of entry.step) s g) h
            stun (addr_at (other_side (side_of entry.step)) ran.0) (addr_at (side_of entry.step) ran.0) entry.step ran.0.sdps ran.0.packets entry.outcome entry.table
            (rtc_at (side_of entry.step) pair) pair.sdps pair.packets ran.2.performs.acts

        by : (b : Bool) → same_side (side_of entry.step) at ≡ b → IsSentOver draws s g (sent at s g) (uses at)
            → IsSentOver draws s g (if b then sends (sent at s g) else sent at s g) (if b then acts_on (uses at) else uses at)
        by true e h =
            let is = same_is (side_of entry.step) at e in
            subst (λ (x : Side). IsSentOver draws s g (sends (sent x s g)) (acts_on (uses x))) is
            (acted (subst (λ (x : Side). IsSentOver draws s g (sent x s g) (uses x)) (sym is) h))
        by false e h = h

    pub run_sent : (past : List (Entry PlainMediaEvent)) (pair : PlainPair N) → are_native (steps_of past) ≡ true → AreInBandSteps (steps_of past)
        → (ran : Reached (plain_over draws) stun start past pair) → HaveNumbersLeft pair → (at : Side)
        → AreSentOfAnnounced (uses_of (plain_over draws) stun start at past pair ran) (sent_over (plain_over draws) stun start at past pair ran)
    run_sent past pair go steps ran numbers at = λ s g.
        sent_is s g (sent_over (plain_over draws) stun start at past pair ran s g) (uses_of (plain_over draws) stun start at past pair ran)
        (sent_uses past pair go steps ran numbers at s g)

  module _ (stun : List ℕ → Bool) (start : PlainPair N) (new : IsNewPair draws start) (past : List (Entry PlainMediaEvent)) (pair : PlainPair N)
      (go : are_native (steps_of past) ≡ true) (ran : Reached (plain_over draws) stun start past pair) where
    pub run_told_sent : (at : Side)
        → AreToldOfSent (sent_over (plain_over draws) stun start (other_side at) past pair ran) (told_over (plain_over draws) stun start at past pair ran)
    run_told_sent at =
        pair_told_sent draws pair (λ x. uses_of (plain_over draws) stun start x past pair ran) (λ x. sent_over (plain_over draws) stun start x past pair ran)
        (λ x. told_over (plain_over draws) stun start x past pair ran)
        (reached_told draws stun start past pair go ran (new_pair_told draws start new)) at

    pub run_got_sent : (at : Side)
        → AreGotOfSent (sent_over (plain_over draws) stun start (other_side at) past pair ran) (uses_of (plain_over draws) stun start at past pair ran)
    run_got_sent at =
        pair_got_sent draws pair (λ x. uses_of (plain_over draws) stun start x past pair ran) (λ x. sent_over (plain_over draws) stun start x past pair ran)
        (λ x. told_over (plain_over draws) stun start x past pair ran)
        (reached_told draws stun start past pair go ran (new_pair_told draws start new)) at

    pub run_got : HaveNumbersLeft pair → (at : Side)
        → AreGotOfAnnounced (uses_of (plain_over draws) stun start (other_side at) past pair ran) (uses_of (plain_over draws) stun start at past pair ran)
    run_got numbers at = λ x mine band s of.
        sent_is s x.generation x.got (uses_of (plain_over draws) stun start (other_side at) past pair ran)
        (pair_got_over draws pair (λ y. uses_of (plain_over draws) stun start y past pair ran) (λ y. sent_over (plain_over draws) stun start y past pair ran)
        (λ y. told_over (plain_over draws) stun start y past pair ran)
        (reached_told draws stun start past pair go ran (new_pair_told draws start new)) at (numbers (other_side at)) x mine band s of)

    module _ (none : start.sdps ≡ []) (steps : AreInBandSteps (steps_of past)) (numbers : HaveNumbersLeft pair) (at : Side) where
      pub run_told : AreToldOfAnnounced (uses_of (plain_over draws) stun start (other_side at) past pair ran)
          (told_over (plain_over draws) stun start at past pair ran)
      run_told = λ c s g.
          told_is s g (sent_over (plain_over draws) stun start (other_side at) past pair ran s g) (told_over (plain_over draws) stun start at past pair ran c s g)
          (uses_of (plain_over draws) stun start (other_side at) past pair ran) (run_told_sent at c s g)
          (run_sent stun start new none past pair go steps ran numbers (other_side at) s g)
