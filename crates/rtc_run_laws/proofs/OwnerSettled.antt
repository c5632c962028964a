-- In a settled pair no channel that was announced over a stream, in the generation that it has, was rolled back, where no step settled one by other means
-- than messages.
use Rattle.std.proofs.Common.{◌≡◌, ◌∙◌, ◌⊎◌, inl, inr, ◌||◌, ◌∷◌, ℕ, Bool, true, false, true≢false, List, [], Option, Some, None, refl, sym, ap, subst, arith}
use Rattle.std.proofs.lemmas.Bool.{eqb-true}
use Rattle.rtc_parts.specs.Draws.{Draws}
use Rattle.rtc_plain_media.specs.declared.plain_media_event.PlainMediaEvent.{PlainMediaEvent}
use Rattle.rtc_assoc_state.specs.Contents.{generation_of, is_ending}
use Rattle.rtc_assoc_state.specs.PlainMeaning.{plain_meaning}
use Rattle.rtc_channels.specs.Ids.{parity_of}
use Rattle.rtc_sctp_entries.specs.declared.stream_entry.StreamEntry.{StreamEntry}
use Rattle.rtc_sctp_entries.specs.declared.stream_entry_state.StreamEntryState.{StreamEntryState}
use Rattle.rtc_sctp_entries.specs.declared.stream_entry_state.StreamEntryState.TheVariants.{AwaitOpen, AwaitConfig, AwaitDcepAck, Open, Closed as EntryClosed}
use Rattle.rtc_sctp_entries.specs.Entries.{fits_generation, is_out_of_band}
use Rattle.rtc_sctp_laws.specs.StreamMessages.{StreamMessage}
use Rattle.rtc_sctp_laws.specs.StreamUses.{AreUsedIn, EntryUsed, HasOpenInBand, IsDcepInBand, IsIdleStream, IsUsedIn, any_dcep, entries_of, is_spent_stream, messages_for, messages_of}
use Rattle.rtc_peer_laws.specs.ChannelStreams.{AreNumbersGiven, IsUsedStream}
use Rattle.rtc_peer_laws.specs.Drained.{IsHeard}
use Rattle.rtc_run_history.specs.declared.side.Side.{Side}
use Rattle.rtc_run_history.specs.declared.side.Side.TheVariants.{Left, Right}
use Rattle.rtc_run_history.specs.Native.{are_native}
use Rattle.rtc_run_history.specs.PairState.{rtc_at}
use Rattle.rtc_run_history.specs.Past.{Entry, steps_of}
use Rattle.rtc_run_history.specs.Runs.{Reached}
use Rattle.rtc_run_history.specs.Sides.{other_side}
use Rattle.rtc_run_laws.specs.ChannelUses.{ChannelUse}
use Rattle.rtc_run_laws.specs.InBandSteps.{AreInBandSteps}
use Rattle.rtc_run_laws.specs.NewPairs.{IsNewPair}
use Rattle.rtc_run_laws.specs.OwnOpenings.{HasOpening, IsOfSide, IsOpeningState}
use Rattle.rtc_run_laws.specs.PlainPairs.{PlainPair, plain_over}
use Rattle.rtc_run_laws.specs.SentMessages.{sent_over}
use Rattle.rtc_run_laws.specs.SettledPairs.{IsSettledPair, NoneRolledBack}
use Rattle.rtc_run_laws.specs.ToldMessages.{told_over}
use Rattle.rtc_run_laws.specs.UsesOfRuns.{uses_of}
use Rattle.rtc_run_laws.proofs.AnnouncedStreams.{AnnouncedUnlessClosed, HasUseOver, found}
use Rattle.rtc_run_laws.proofs.BandedRuns.{settled_in_band}
use Rattle.rtc_run_laws.proofs.BandedUses.{IsPlainUse, run_in_band}
use Rattle.rtc_run_laws.proofs.NoneAnnounced.{AreNoneOver, IsNoneOver}
use Rattle.rtc_run_laws.proofs.LastOpenings.{has_entry}
use Rattle.rtc_run_laws.proofs.HeardOpenings.{EntryAmong, entry_among}
use Rattle.rtc_run_laws.proofs.OpenSides.{not_closed}
use Rattle.rtc_run_laws.proofs.OwnSides.{settled_own}
use Rattle.rtc_run_laws.proofs.OwnerRuns.{run_held}
use Rattle.rtc_run_laws.proofs.OwnerSides.{HeldAt, SafeAt}
use Rattle.rtc_run_laws.proofs.RoleSides.{role_at, settled_sides}
use Rattle.rtc_run_laws.proofs.RolesApart.{HasAtMost}
use Rattle.rtc_run_laws.proofs.ReadOpenings.{NotFull, reads_written, use_read}
use Rattle.rtc_run_laws.proofs.RunsTold.{StoodIn, new_pair_told, reached_told, stood_in}
use Rattle.rtc_run_laws.proofs.SettledRuns.{heard, settled_level}
use Rattle.rtc_run_laws.proofs.UseLists.{AllUses, all_member}
use Rattle.rtc_run_laws.proofs.UsesTold.{UsedUnlessClosed}

pub one_side : (a b : Bool) → parity_of a ≡ parity_of b → a ≡ b
one_side true true h = refl
one_side true false h = absurd (omega (arith, h))
one_side false true h = absurd (omega (arith, h))
one_side false false h = refl

no_opening : (st : StreamEntryState) → st ≡ Open → st ≡ AwaitOpen → ⊥
no_opening st h k = let e : Open ≡ AwaitOpen = sym h ∙ k in cc

module _ {N : Type 0} (draws : Draws N) (stun : List ℕ → Bool) (start : PlainPair N) (past : List (Entry PlainMediaEvent)) (pair : PlainPair N)
    (go : are_native (steps_of past) ≡ true) (ran : Reached (plain_over draws) stun start past pair) (new : IsNewPair draws start) (none : start.sdps ≡ [])
    (steps : AreInBandSteps (steps_of past)) (settled : IsSettledPair past pair) where
  abbrev uses : Side → List ChannelUse
  uses x = uses_of (plain_over draws) stun start x past pair ran

  free_at : (s : ℕ) (x : Side) → NotFull draws s (rtc_at x pair)
  free_at s x full = let few = (settled.peers x).numbers in omega (arith, few, full)

  -- the other side announced a channel over the generation too, if it wrote what opens one
  module _ (at : Side) (s g : ℕ) (own : generation_of (rtc_at (other_side at) pair).core.sctp.association s ≡ g)
      (foreign : IsOfSide (rtc_at (other_side at) pair).core.sctp.client s → ⊥) (bad : HasUseOver s (Some g) (uses (other_side (other_side at)))) where
    abbrev far : Side
    far = other_side at

    told : StoodIn draws far pair uses (λ y. sent_over (plain_over draws) stun start y past pair ran)
        (λ y. told_over (plain_over draws) stun start y past pair ran)
    told =
        stood_in draws far pair uses (λ y. sent_over (plain_over draws) stun start y past pair ran)
        (λ y. told_over (plain_over draws) stun start y past pair ran) (reached_told draws stun start past pair go ran (new_pair_told draws start new))

    wrote : any_dcep (messages_of s (generation_of (rtc_at far pair).core.sctp.association s) told.stood.side.written) ≡ true
    wrote =
        ap (λ (n : ℕ). any_dcep (messages_of s n told.stood.side.written)) own
        ∙ reads_written draws s g far pair.packets told.other (rtc_at (other_side far) pair) (uses far) (uses (other_side far))
        (sent_over (plain_over draws) stun start far past pair ran) (told_over (plain_over draws) stun start far past pair ran) (rtc_at far pair) told.stood
        told.rest.side (use_read draws s g told.other (uses (other_side far)) (rtc_at (other_side far) pair) told.rest.side bad)

    unspent : is_spent_stream plain_meaning s (rtc_at far pair).core.sctp.association ≡ true → ⊥
    unspent spent =
        true≢false
        (sym spent
        ∙ ap (λ (d : Bool). d || is_ending (rtc_at far pair).core.sctp.association) (settled_level draws stun start past pair go ran new settled at s).unclosed_there
        ∙ (settled.peers far).lasting)

    idle : (l : List StreamMessage) → IsIdleStream plain_meaning s (rtc_at far pair).core.sctp.association
        (messages_of s (generation_of (rtc_at far pair).core.sctp.association s) told.stood.side.written) l → ⊥
    idle l (inl k) = true≢false (sym wrote ∙ ap any_dcep k.0)
    idle l (inr spent) = unspent spent

    no_dcep : (any_dcep (messages_of s (generation_of (rtc_at far pair).core.sctp.association s) told.stood.side.written) ≡ false)
        ⊎ (is_spent_stream plain_meaning s (rtc_at far pair).core.sctp.association ≡ true) → ⊥
    no_dcep (inl k) = true≢false (sym wrote ∙ k)
    no_dcep (inr spent) = unspent spent

    opening : HasOpening s (rtc_at far pair).core.sctp.entries → ⊥
    opening k =
        foreign
        (settled_own draws stun start past pair go ran new settled far s
        (settled_in_band draws stun start past pair go ran new none steps settled far s).1.here k)

    fits : (o : Option ℕ) (n : ℕ) → o ≡ Some n → fits_generation o (generation_of (rtc_at far pair).core.sctp.association s) ≡ true → o ≡ Some g
    fits None n is h = absurd (let e : None ≡ Some n = is in cc)
    fits (Some k) n is h = ap (λ (i : ℕ). Some i) (eqb-true k (generation_of (rtc_at far pair).core.sctp.association s) h ∙ own)

    announced : AnnouncedUnlessClosed (plain_over draws) (uses far) (rtc_at far pair) → (o : Option ℕ) → HasOpenInBand s o (rtc_at far pair).core.sctp.entries
        → fits_generation o (generation_of (rtc_at far pair).core.sctp.association s) ≡ true → HasUseOver s (Some g) (uses far)
    announced (inl closed) o k h = absurd (not_closed draws (rtc_at far pair) (settled.peers far).alive closed)
    announced (inr all) o k h = by (all s o k)
      where
        by : HasUseOver s o (uses far) ⊎ AreNumbersGiven (rtc_at far pair).core.channels → HasUseOver s (Some g) (uses far)
        by (inl over) =
            let it = found s o (uses far) over in
            subst (λ (i : Option ℕ). HasUseOver s i (uses far)) (fits o it.use_over.generation it.is_over.2 h) over
        by (inr full) = absurd (free_at s far full)

    by_state : (e : StreamEntry) → entries_of s (rtc_at far pair).core.sctp.entries ≡ e ∷ []
        → EntryAmong plain_meaning (rtc_at far pair).core.sctp.association s (rtc_at far pair).core.sctp.entries e
        → EntryUsed plain_meaning s (rtc_at far pair).core.sctp.association told.stood.side.written told.stood.side.read e
        → (st : StreamEntryState) → e.state ≡ st → HasUseOver s (Some g) (uses far)
    by_state e is among h AwaitOpen k =
        absurd (opening (has_entry (λ (x : StreamEntry). IsOpeningState x.state) s (rtc_at far pair).core.sctp.entries e [] is (inl k)))
    by_state e is among h AwaitDcepAck k =
        absurd (opening (has_entry (λ (x : StreamEntry). IsOpeningState x.state) s (rtc_at far pair).core.sctp.entries e [] is (inr k)))
    by_state e is among h AwaitConfig k =
        absurd
        (no_dcep
        (subst
        (λ (st : StreamEntryState).
        IsDcepInBand plain_meaning st (is_out_of_band e) s (rtc_at far pair).core.sctp.association
        (messages_of s (generation_of (rtc_at far pair).core.sctp.association s) told.stood.side.written))
        k h.1).1)
    by_state e is among h EntryClosed k =
        absurd
        (idle _
        (subst
        (λ (st : StreamEntryState).
        IsUsedIn plain_meaning st e.marked e.generation s (rtc_at far pair).core.sctp.association
        (messages_for plain_meaning st e.generation s (rtc_at far pair).core.sctp.association told.stood.side.written)
        (messages_for plain_meaning st e.generation s (rtc_at far pair).core.sctp.association told.stood.side.read))
        k h.0))
    by_state e is among h Open k = by among.heard
      where
        by : IsHeard plain_meaning (rtc_at far pair).core.sctp.association e → HasUseOver s (Some g) (uses far)
        by (inl waits) = absurd (no_opening e.state k waits.0)
        by (inr it) =
            announced told.stood.side.told.announced e.generation
            (among.in_band e.generation refl k)
            (ap (λ (n : ℕ). fits_generation e.generation (generation_of (rtc_at far pair).core.sctp.association n)) (sym among.id_is) ∙ it.3)

    used : UsedUnlessClosed (plain_over draws) told.stood.side.written told.stood.side.read (rtc_at far pair)
        → IsUsedStream (plain_over draws) s told.stood.side.written told.stood.side.read (rtc_at far pair)
    used (inl closed) = absurd (not_closed draws (rtc_at far pair) (settled.peers far).alive closed)
    used (inr all) = all s

    pub announced_too : HasUseOver s (Some g) (uses far)
    announced_too = by (entries_of s (rtc_at far pair).core.sctp.entries) refl (used told.stood.side.told.used).used
      where
        by : (l : List StreamEntry) → entries_of s (rtc_at far pair).core.sctp.entries ≡ l
            → AreUsedIn plain_meaning l s (rtc_at far pair).core.sctp.association told.stood.side.written told.stood.side.read
            → HasUseOver s (Some g) (uses far)
        by [] is h = absurd (idle _ h)
        by (e ∷ []) is h =
            by_state e is
            (entry_among plain_meaning (rtc_at far pair).core.sctp.association s (rtc_at far pair).core.sctp.entries e [] is
            (heard draws stun start past pair go ran new settled far)
            (settled_in_band draws stun start past pair go ran new none steps settled far s).0.here)
            h e.state refl
        by (e ∷ i ∷ l) is h = absurd h

  -- so that none was rolled back
  module _ (at : Side) (s : ℕ) where
    abbrev own : Bool
    own = (rtc_at at pair).core.sctp.client

    abbrev theirs : Bool
    theirs = (rtc_at (other_side at) pair).core.sctp.client

    abbrev g : ℕ
    g = generation_of (rtc_at at pair).core.sctp.association s

    plain : (x : Side) → AllUses IsPlainUse (uses x)
    plain x = run_in_band draws stun start new none past pair go ran steps x

    apart : IsOfSide own s → IsOfSide theirs s → ⊥
    apart here there = settled_sides draws stun start past pair go ran new settled at (one_side theirs own (sym there ∙ here))

    some_is : (a b : Bool) → Some a ≡ Some b → a ≡ b
    some_is a b e = cc

    role : (x : Side) → HasAtMost (rtc_at x pair).core.sctp.client (rtc_at x pair)
    role x = λ k is. some_is k (rtc_at x pair).core.sctp.client (sym is ∙ role_at draws stun start past pair go ran new x (settled.peers x))

    back : (x : Side) → HasUseOver s (Some g) (uses x) → HasUseOver s (Some g) (uses (other_side (other_side x)))
    back Left k = k
    back Right k = k

    both : HasUseOver s (Some g) (uses (other_side at)) → AreNoneOver s g (uses (other_side at)) → ⊥
    both over nothing =
        let it = found s (Some g) (uses (other_side at)) over in
        all_member (IsNoneOver s g) (uses (other_side at)) it.use_over nothing it.member it.is_over
        (all_member IsPlainUse (uses (other_side at)) it.use_over (plain (other_side at)) it.member).1

    held : HeldAt s g own at pair.sdps (rtc_at at pair) (uses at) (uses (other_side at)) (sent_over (plain_over draws) stun start at past pair ran s g)
        → NoneRolledBack s (uses at) (rtc_at at pair)
    held (inl safe) = λ x mine of generation.
        let kind = all_member IsPlainUse (uses at) x (plain at) mine in
        (all_member (SafeAt s g own at pair.sdps (rtc_at at pair)) (uses at) x safe.1 mine kind.0 of generation (inr kind.1)).0
    held (inr (inl over)) = absurd (not_closed draws (rtc_at at pair) (settled.peers at).alive over.0)
    held (inr (inr bad)) =
        absurd
        (both
        (announced_too at s g (settled_level draws stun start past pair go ran new settled at s).generation_is (apart bad.0) (back at bad.1))
        bad.2)

    pub none_rolled : NoneRolledBack s (uses at) (rtc_at at pair)
    none_rolled =
        held
        (run_held draws stun start new none s g at own theirs apart past pair go ran (role at) (role (other_side at)) (λ y. free_at s y))
