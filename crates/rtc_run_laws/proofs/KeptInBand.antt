-- In a run, where both sides announced a channel over a generation that is not negotiated out-of-band, what was sent over each is all that its side ever sent to
-- the generation, whether or not a rollback removed channels. So the other one got a prefix of it, and all of it once it was delivered.
use Rattle.std.proofs.Common.{◌≡◌, ◌∙◌, ◌⊎◌, inl, inr, ℕ, Bool, true, false, List, [], ◌∷◌, Option, Some, refl, sym, ap, subst, arith}
use Rattle.rtc_parts.specs.Among.{Member}
use Rattle.rtc_parts.specs.Draws.{Draws}
use Rattle.rtc_plain_media.specs.declared.plain_media_event.PlainMediaEvent.{PlainMediaEvent}
use Rattle.rtc_assoc.specs.Unread.{IsPrefix}
use Rattle.rtc_run_history.specs.declared.side.Side.{Side}
use Rattle.rtc_run_history.specs.Native.{are_native}
use Rattle.rtc_run_history.specs.PairState.{rtc_at}
use Rattle.rtc_run_history.specs.Past.{Entry, steps_of}
use Rattle.rtc_run_history.specs.Runs.{Reached}
use Rattle.rtc_run_history.specs.Sides.{other_side}
use Rattle.rtc_run_laws.specs.ChannelUses.{ChannelUse}
use Rattle.rtc_run_laws.specs.Delivered.{AreAllGot}
use Rattle.rtc_run_laws.specs.HandedOut.{ArePrefixes}
use Rattle.rtc_run_laws.specs.NewPairs.{IsNewPair}
use Rattle.rtc_run_laws.specs.PlainPairs.{PlainPair, plain_over}
use Rattle.rtc_run_laws.specs.SentMessages.{sent_over}
use Rattle.rtc_run_laws.specs.SideDrains.{IsSideDrained}
use Rattle.rtc_run_laws.specs.ToldMessages.{told_over}
use Rattle.rtc_run_laws.specs.Unannounced.{HaveNumbersLeft}
use Rattle.rtc_run_laws.specs.UsesOfRuns.{uses_of}
use Rattle.rtc_run_laws.proofs.AnnouncedStreams.{HasUseOver, IsUseOver}
use Rattle.rtc_run_laws.proofs.ClosedUses.{IsWhole}
use Rattle.rtc_run_laws.proofs.NewPeers.{new_exchanged}
use Rattle.rtc_run_laws.proofs.OwnerRuns.{run_held}
use Rattle.rtc_run_laws.proofs.OwnerSettled.{one_side}
use Rattle.rtc_run_laws.proofs.NoneAnnounced.{IsNoneOver}
use Rattle.rtc_run_laws.proofs.OwnerSides.{HeldAt, SafeAt, twice}
use Rattle.rtc_run_laws.proofs.RestedRuns.{run_delivered_over}
use Rattle.rtc_run_laws.proofs.RolesApart.{Roles, pair_roles, use_finished}
use Rattle.rtc_run_laws.proofs.ReadOpenings.{NotFull}
use Rattle.rtc_run_laws.proofs.RunsExchange.{reached_exchanged}
use Rattle.rtc_run_laws.proofs.RunsTold.{PairTold, StoodIn, new_pair_told, pair_handed_over, pair_whole, reached_told, stood_in}
use Rattle.rtc_run_laws.proofs.UseLists.{all_member}
use Rattle.rtc_run_laws.proofs.UsesTold.{InBandTold, use_opened}

over_member : (s : ℕ) (own : Option ℕ) (x : ChannelUse) (uses : List ChannelUse) → Member x uses → IsUseOver s own x → HasUseOver s own uses
over_member s own x [] mine h = absurd mine
over_member s own x (y ∷ uses) (inl same) h = inl (subst (λ (z : ChannelUse). IsUseOver s own z) same h)
over_member s own x (y ∷ uses) (inr mine) h = inr (over_member s own x uses mine h)

module _ {N : Type 0} (draws : Draws N) (stun : List ℕ → Bool) (start : PlainPair N) (new : IsNewPair draws start) (past : List (Entry PlainMediaEvent))
    (pair : PlainPair N) (go : are_native (steps_of past) ≡ true) (ran : Reached (plain_over draws) stun start past pair) (none : start.sdps ≡ [])
    (numbers : HaveNumbersLeft pair) where
  abbrev uses : Side → List ChannelUse
  uses x = uses_of (plain_over draws) stun start x past pair ran

  abbrev sent : Side → ℕ → ℕ → List (Bool × List ℕ)
  sent x = sent_over (plain_over draws) stun start x past pair ran

  told : PairTold draws pair uses sent (λ x. told_over (plain_over draws) stun start x past pair ran)
  told = reached_told draws stun start past pair go ran (new_pair_told draws start new)

  stood : (x : Side) → StoodIn draws x pair uses sent (λ y. told_over (plain_over draws) stun start y past pair ran)
  stood x = stood_in draws x pair uses sent (λ y. told_over (plain_over draws) stun start y past pair ran) told

  free_at : (s : ℕ) (x : Side) → NotFull draws s (rtc_at x pair)
  free_at s x full = let few = numbers x in omega (arith, few, full)

  -- over each generation that both sides announced a channel over
  module _ (at : Side) (x y : ChannelUse) (theirs : Member x (uses (other_side at))) (mine : Member y (uses at)) (their_band : x.in_band ≡ true)
      (band : y.in_band ≡ true) (their_kind : x.negotiated ≡ false) (kind : y.negotiated ≡ false) (s : ℕ) (their_of : x.stream ≡ Some s)
      (of : y.stream ≡ Some s) (same : x.generation ≡ y.generation) where
    here : HasUseOver s (Some y.generation) (uses at)
    here = over_member s (Some y.generation) y (uses at) mine (band, of, refl)

    roles : Roles (rtc_at at pair) (rtc_at (other_side at) pair)
    roles =
        pair_roles pair (reached_exchanged draws stun start past pair go ran (new_exchanged draws start new)) at
        (use_finished draws (stood at).stood.acts (uses at) (rtc_at at pair) (stood at).stood.side s y.generation here)

    whole : (y.rolled_back ≡ false) ⊎ (sent at s y.generation ≡ y.sent) → sent at s y.generation ≡ y.sent
    whole (inl left) = pair_whole draws pair uses sent (λ z. told_over (plain_over draws) stun start z past pair ran) at told y mine band left s of
    whole (inr is) = is

    held : HeldAt s y.generation roles.own at pair.sdps (rtc_at at pair) (uses at) (uses (other_side at)) (sent at s y.generation)
        → sent at s y.generation ≡ y.sent
    held (inl safe) =
        whole (inl (all_member (SafeAt s y.generation roles.own at pair.sdps (rtc_at at pair)) (uses at) y safe.1 mine band of refl (inr kind)).0)
    held (inr (inl over)) =
        whole (all_member (IsWhole s y.generation roles.own (sent at s y.generation)) (uses at) y over.1 mine band of refl (inr kind))
    held (inr (inr alone)) =
        absurd
        (all_member (IsNoneOver s y.generation) (uses (other_side at)) x alone.2 theirs
        (their_band, their_of, ap (λ (n : ℕ). Some n) (sym same)) their_kind)

    pub sent_whole : sent at s y.generation ≡ y.sent
    sent_whole =
        held
        (run_held draws stun start new none s y.generation at roles.own roles.other
        (λ own other. roles.apart (one_side roles.own roles.other (sym own ∙ other))) past pair go ran
        roles.own_is roles.other_is (λ z. free_at s z))

  -- as the reader sees it
  module _ (at : Side) where
    pub run_wrote : (x y : ChannelUse) → Member x (uses at) → Member y (uses (other_side at)) → x.in_band ≡ true → y.in_band ≡ true
        → x.negotiated ≡ false → y.negotiated ≡ false → (s : ℕ) → x.stream ≡ Some s → y.stream ≡ Some s → x.generation ≡ y.generation
        → sent (other_side at) s x.generation ≡ y.sent
    run_wrote x y mine theirs band their_band kind their_kind s of their_of same =
        ap (λ (n : ℕ). sent (other_side at) s n) same
        ∙ sent_whole (other_side at) x y (subst (λ (z : Side). Member x (uses z)) (sym (twice at)) mine) theirs band their_band kind their_kind s of their_of
        same

    pub run_prefixes : ArePrefixes (uses at) (uses (other_side at))
    run_prefixes = λ x y mine theirs band their_band kind their_kind one same.
        let t =
        use_opened (plain_over draws) (stood at).stood.side.written (stood at).stood.side.read (rtc_at at pair) x
        (all_member (InBandTold (plain_over draws) (stood at).stood.side.written (stood at).stood.side.read (rtc_at at pair)) (uses at) x
        (stood at).stood.side.told.each mine band) in
        subst (λ (l : List (Bool × List ℕ)). IsPrefix x.got l)
        (run_wrote x y mine theirs band their_band kind their_kind t.stream t.stream_is (sym one ∙ t.stream_is) same)
        (pair_handed_over draws pair uses sent (λ z. told_over (plain_over draws) stun start z past pair ran) at told x y mine theirs band their_band
        t.stream t.stream_is (sym one ∙ t.stream_is) same)

    pub run_all_got : AreAllGot (IsSideDrained at past) (uses at) (rtc_at at pair) (uses (other_side at)) (rtc_at (other_side at) pair)
    run_all_got = λ x y mine theirs drained h kind their_kind acknowledged.
        run_delivered_over draws stun start new past pair go ran at x y mine theirs drained h acknowledged
        ∙ run_wrote x y mine theirs h.reader_in_band h.writer_in_band kind their_kind h.reader.stream h.reader.of (sym h.stream_is ∙ h.reader.of)
        h.generation_is
