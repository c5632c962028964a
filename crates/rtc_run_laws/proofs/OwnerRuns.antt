-- In a run no channel is rolled back that a side announced and that is not negotiated out-of-band while the side is not closed, or the side of the stream alone
-- announced one over a generation.
use Rattle.std.proofs.Common.{◌≡◌, ◌∙◌, ◌⊎◌, inl, inr, ◌<◌, if◌then◌else◌, ℕ, Bool, true, false, true≢false, List, [], ◌∷◌, Some, refl, sym, ap, subst}
use Rattle.rtc_parts.specs.Draws.{Draws}
use Rattle.rtc_plain_media.specs.declared.plain_media_event.PlainMediaEvent.{PlainMediaEvent}
use Rattle.rtc_peer_core.specs.declared.phase.Phase.TheVariants.{Closed}
use Rattle.rtc_run_history.specs.declared.side.Side.{Side}
use Rattle.rtc_run_history.specs.Native.{are_native}
use Rattle.rtc_run_history.specs.PairState.{addr_at, rtc_at}
use Rattle.rtc_run_history.specs.Past.{Entry, steps_of}
use Rattle.rtc_run_history.specs.Runs.{Reached}
use Rattle.rtc_run_history.specs.Sides.{other_side, same_side, side_of}
use Rattle.rtc_run_laws.specs.ChannelUses.{ChannelUse}
use Rattle.rtc_run_laws.specs.NewPairs.{IsNewPair}
use Rattle.rtc_run_laws.specs.OwnOpenings.{IsOfSide}
use Rattle.rtc_run_laws.specs.PlainPairs.{PlainPair, PlainPolled, plain_over}
use Rattle.rtc_run_laws.specs.SentMessages.{sent_acted, sent_over}
use Rattle.rtc_run_laws.specs.UsesOfRuns.{uses_acted, uses_of}
use Rattle.rtc_run_laws.proofs.AnnouncedStreams.{HasUseOver}
use Rattle.rtc_run_laws.proofs.ClosedUses.{closed_or_open}
use Rattle.rtc_run_laws.proofs.NativeSteps.{native_entry}
use Rattle.rtc_run_laws.proofs.NumberedTokens.{AreKeptSo}
use Rattle.rtc_run_laws.proofs.NoneAnnounced.{AreNoneOver}
use Rattle.rtc_run_laws.proofs.OwnerSteps.{apart_step}
use Rattle.rtc_run_laws.proofs.ReadOpenings.{NotFull}
use Rattle.rtc_run_laws.proofs.RolesApart.{HasAtMost, role_before}
use Rattle.rtc_run_laws.proofs.SureNumbers.{IsSureNumber}
use Rattle.rtc_run_laws.proofs.UseLists.{all_kept}
use Rattle.rtc_run_laws.proofs.OwnerActs.{acting_held, acting_none, free_before}
use Rattle.rtc_run_laws.proofs.OwnerSides.{HeldAt, SafeAt, apart_other, meets_self, sides_meet, sides_part, told_at, twice}

module _ {N : Type 0} (draws : Draws N) (stun : List ℕ → Bool) (start : PlainPair N) (new : IsNewPair draws start) (none : start.sdps ≡ []) (s g : ℕ) where
  module _ (at : Side) (c d : Bool) (foreign : IsOfSide c s → IsOfSide d s → ⊥) where
    abbrev pub Stands : (pair : PlainPair N) (uses vs : List ChannelUse) (sent : List (Bool × List ℕ)) → Type 0
    Stands pair uses vs sent = HeldAt s g c at pair.sdps (rtc_at at pair) uses vs sent

    module _ (entry : Entry PlainMediaEvent) (past : List (Entry PlainMediaEvent)) (pair : PlainPair N) (go : are_native (steps_of (entry ∷ past)) ≡ true)
        (ran : Reached (plain_over draws) stun start (entry ∷ past) pair)
        (role : HasAtMost c (rtc_at at pair)) (roles : HasAtMost d (rtc_at (other_side at) pair)) (free : (x : Side) → NotFull draws s (rtc_at x pair)) where
      abbrev pub acting : Side
      acting = side_of entry.step

      abbrev earlier : are_native (steps_of past) ≡ true
      earlier = (native_entry entry past go).0

      abbrev before : Side → List ChannelUse
      before x = uses_of (plain_over draws) stun start x past ran.0 ran.1

      abbrev was_sent : Side → List (Bool × List ℕ)
      was_sent x = sent_over (plain_over draws) stun start x past ran.0 ran.1 s g

      abbrev acted : List ChannelUse → List ChannelUse
      acted l =
          uses_acted (plain_over draws) stun (addr_at (other_side acting) ran.0) (addr_at acting ran.0) entry.step (rtc_at acting ran.0) ran.0.sdps
          ran.0.packets entry.outcome entry.table (rtc_at acting pair) pair.sdps pair.packets ran.2.performs.acts l

      abbrev sends : List (Bool × List ℕ) → List (Bool × List ℕ)
      sends l = sent_acted (plain_over draws) entry.step entry.outcome (rtc_at acting ran.0) s g l

      owner_step : acting ≡ at → HeldAt s g c at ran.0.sdps (rtc_at at ran.0) (before at) (before (other_side at)) (was_sent at)
          → HeldAt s g c at pair.sdps (rtc_at at pair) (acted (before at)) (before (other_side at)) (sends (was_sent at))
      owner_step e held =
          subst (λ (x : Side). HeldAt s g c x pair.sdps (rtc_at x pair) (acted (before x)) (before (other_side x)) (sends (was_sent x))) e
          (acting_held draws stun start new none s g entry past pair go ran free c (subst (λ (x : Side). HasAtMost c (rtc_at x pair)) (sym e) role)
          (subst (λ (x : Side). HeldAt s g c x ran.0.sdps (rtc_at x ran.0) (before x) (before (other_side x)) (was_sent x)) (sym e) held))

      -- the other one acts
      other_role : acting ≡ other_side at → HasAtMost d (rtc_at acting pair)
      other_role e = subst (λ (x : Side). HasAtMost d (rtc_at x pair)) (sym e) roles

      none_step : acting ≡ other_side at → IsOfSide c s → HasUseOver s (Some g) (before at) → AreNoneOver s g (before (other_side at))
          → AreNoneOver s g (acted (before (other_side at)))
      none_step e mine bad nothing =
          subst (λ (x : Side). AreNoneOver s g (acted (before x))) e
          (acting_none draws stun start new none s g entry past pair go ran free d (foreign mine) (other_role e)
          (subst (λ (x : Side). HasUseOver s (Some g) (before x)) (sym (ap other_side e ∙ twice at)) bad)
          (subst (λ (x : Side). AreNoneOver s g (before x)) (sym e) nothing))

      safe_still : acting ≡ other_side at → same_side acting at ≡ false → rtc_at at pair ≡ rtc_at at ran.0 → (x : ChannelUse)
          → SafeAt s g c at ran.0.sdps (rtc_at at ran.0) x → SafeAt s g c at pair.sdps (rtc_at at pair) x
      safe_still e part is x safe = λ in_band stream generation kind.
          subst
          (λ (p : PlainPolled N).
          (x.rolled_back ≡ false)
          × (IsSureNumber x.channel p.core.channels ⊎ ((x.channel < p.core.channels.given) × AreKeptSo at (λ k. k ≡ x.channel → ⊥) pair.sdps)))
          (sym is) ((safe in_band stream generation kind).0, by (safe in_band stream generation kind).1)
        where
          by : IsSureNumber x.channel (rtc_at at ran.0).core.channels
              ⊎ ((x.channel < (rtc_at at ran.0).core.channels.given) × AreKeptSo at (λ k. k ≡ x.channel → ⊥) ran.0.sdps)
              → IsSureNumber x.channel (rtc_at at ran.0).core.channels
              ⊎ ((x.channel < (rtc_at at ran.0).core.channels.given) × AreKeptSo at (λ k. k ≡ x.channel → ⊥) pair.sdps)
          by (inl sure) = inl sure
          by (inr apart) =
              inr (
                apart.0,
                apart_step draws s g (told_at draws stun start new none past ran.0 earlier ran.1 acting).other (rtc_at (other_side acting) ran.0)
                    (sent_over (plain_over draws) stun start acting past ran.0 ran.1) d stun (addr_at (other_side acting) ran.0) (addr_at acting ran.0) entry.step
                    (rtc_at acting ran.0) ran.0.sdps ran.0.packets entry.outcome entry.table (rtc_at acting pair) pair.sdps pair.packets
                    (native_entry entry past go).1 ran.2.performs.acts at x.channel
                    (λ f. absurd (true≢false (sym f ∙ part))) (λ f. absurd (true≢false (sym f ∙ part))) apart.1,
              )

      step_by : Stands ran.0 (before at) (before (other_side at)) (was_sent at) → (f k : Bool) → same_side acting at ≡ f → same_side acting (other_side at) ≡ k
          → Stands pair (if f then acted (before at) else before at) (if k then acted (before (other_side at)) else before (other_side at))
          (if f then sends (was_sent at) else was_sent at)
      step_by was true false f k = owner_step (sides_meet acting at f) was
      step_by was false true f k =
          let e = sides_part acting at f in
          held e (subst (λ (x : Side). rtc_at x pair ≡ rtc_at x ran.0) (ap other_side e ∙ twice at) ran.2.performs.other) was
        where
          held : acting ≡ other_side at → rtc_at at pair ≡ rtc_at at ran.0
              → HeldAt s g c at ran.0.sdps (rtc_at at ran.0) (before at) (before (other_side at)) (was_sent at)
              → HeldAt s g c at pair.sdps (rtc_at at pair) (before at) (acted (before (other_side at))) (was_sent at)
          held e is (inl safe) =
              inl (
                λ closed. safe.0 (ap (λ (p : PlainPolled N). p.core.phase) (sym is) ∙ closed),
                all_kept (SafeAt s g c at ran.0.sdps (rtc_at at ran.0)) (SafeAt s g c at pair.sdps (rtc_at at pair)) (before at) (λ x y. safe_still e f is x y) safe.1,
              )
          held e is (inr (inl over)) = inr (inl (ap (λ (p : PlainPolled N). p.core.phase) is ∙ over.0, over.1))
          held e is (inr (inr alone)) = inr (inr (alone.0, alone.1, none_step e alone.0 alone.1 alone.2))
      step_by was true true f k =
          absurd
          (true≢false
          (sym k ∙ ap (λ (x : Side). same_side x (other_side at)) (sides_meet acting at f) ∙ apart_other at))
      step_by was false false f k =
          absurd
          (true≢false
          (sym (meets_self (other_side at)) ∙ ap (λ (x : Side). same_side x (other_side at)) (sym (sides_part acting at f)) ∙ k))

      pub stands_on : Stands ran.0 (before at) (before (other_side at)) (was_sent at)
          → Stands pair (uses_of (plain_over draws) stun start at (entry ∷ past) pair ran)
          (uses_of (plain_over draws) stun start (other_side at) (entry ∷ past) pair ran)
          (sent_over (plain_over draws) stun start at (entry ∷ past) pair ran s g)
      stands_on was = step_by was (same_side acting at) (same_side acting (other_side at)) refl refl

    pub run_held : (past : List (Entry PlainMediaEvent)) (pair : PlainPair N) (go : are_native (steps_of past) ≡ true)
        (ran : Reached (plain_over draws) stun start past pair) (role : HasAtMost c (rtc_at at pair))
        (roles : HasAtMost d (rtc_at (other_side at) pair)) (free : (x : Side) → NotFull draws s (rtc_at x pair))
        → Stands pair (uses_of (plain_over draws) stun start at past pair ran) (uses_of (plain_over draws) stun start (other_side at) past pair ran)
        (sent_over (plain_over draws) stun start at past pair ran s g)
    run_held [] pair go ran role roles free = by (closed_or_open (rtc_at at pair).core.phase)
      where
        by : ((rtc_at at pair).core.phase ≡ Closed) ⊎ ((rtc_at at pair).core.phase ≡ Closed → ⊥) → HeldAt s g c at pair.sdps (rtc_at at pair) [] [] []
        by (inl closed) = inr (inl (closed, tt))
        by (inr live) = inl (live, tt)
    run_held (entry ∷ past) pair go ran role roles free =
        stands_on entry past pair go ran role roles free
        (run_held past ran.0 (native_entry entry past go).0 ran.1
        (role_before draws stun start c entry past pair ran at role) (role_before draws stun start d entry past pair ran (other_side at) roles)
        (λ x. free_before draws stun start new none s g entry past pair go ran free x))
