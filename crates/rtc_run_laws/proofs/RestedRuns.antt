-- Where a side was drained since its last input, all was got that was sent over a channel that both announced.
use Rattle.std.proofs.Common.{◌≡◌, ◌∙◌, ◌∷◌, ◌&&◌, if◌then◌else◌, ℕ, Bool, true, false, true≢false, List, [], Some, inl, inr, refl, sym, subst}
use Rattle.rtc_assoc_state.specs.Contents.{generation_of, has_unread}
use Rattle.rtc_assoc_state.specs.PlainMeaning.{plain_meaning}
use Rattle.rtc_parts.specs.Among.{Member}
use Rattle.rtc_peer_transport.specs.ChannelCalls.{open_stream_under}
use Rattle.rtc_plain_media.specs.declared.plain_media_event.PlainMediaEvent.{PlainMediaEvent}
use Rattle.rtc_parts.specs.Draws.{Draws}
use Rattle.rtc_sctp_laws.specs.RunningStreams.{AreRunning}
use Rattle.rtc_run_history.specs.declared.outcome.Outcome.{Outcome}
use Rattle.rtc_run_history.specs.declared.side.Side.{Side}
use Rattle.rtc_run_history.specs.declared.side.Side.TheVariants.{Left, Right}
use Rattle.rtc_run_history.specs.declared.step.Step.{Step}
use Rattle.rtc_run_history.specs.Native.{are_native}
use Rattle.rtc_run_history.specs.PairState.{addr_at, rtc_at}
use Rattle.rtc_run_history.specs.Past.{Entry, steps_of}
use Rattle.rtc_run_history.specs.Runs.{Reached}
use Rattle.rtc_run_history.specs.Sides.{other_side, same_side, side_of}
use Rattle.rtc_run_laws.specs.CalledSteps.{calls_peer}
use Rattle.rtc_run_laws.specs.ChannelUses.{ChannelUse}
use Rattle.rtc_run_laws.specs.Delivered.{AreAllDelivered, AreAllDeliveredOver}
use Rattle.rtc_run_laws.specs.HandedOut.{AreAllHandedOut}
use Rattle.rtc_run_laws.specs.NewPairs.{IsNewPair}
use Rattle.rtc_run_laws.specs.PlainPairs.{PlainPair, PlainPolled, plain_over}
use Rattle.rtc_run_laws.specs.SideDrains.{IsSideDrained, SideDrainedByEntry, SideDrainedByStep}
use Rattle.rtc_run_laws.specs.SentMessages.{sent_over}
use Rattle.rtc_run_laws.specs.ToldMessages.{MessagesTold, told_over}
use Rattle.rtc_run_laws.specs.UsesOfRuns.{uses_acted, uses_of}
use Rattle.rtc_run_laws.proofs.Delivered.{pair_delivered, pair_delivered_over}
use Rattle.rtc_run_laws.proofs.FreshSides.{run_ready}
use Rattle.rtc_run_laws.proofs.NativeSteps.{native_entry}
use Rattle.rtc_run_laws.proofs.RestedSides.{IsWaiting, RestsSide, rests_open}
use Rattle.rtc_run_laws.proofs.RestedSteps.{acts_rests}
use Rattle.rtc_run_laws.proofs.RestedTimeouts.{unfinished_unread}
use Rattle.rtc_run_laws.proofs.RunsTold.{PairTold, StoodIn, new_pair_told, pair_wholly, reached_told, stood_in}
use Rattle.rtc_run_laws.proofs.StandingSides.{Sent}
use Rattle.rtc_run_laws.proofs.UncalledSteps.{uncalled_same, uncalled_uses}
use Rattle.rtc_run_laws.proofs.UseLists.{all_member}

module _ {N : Type 0} (draws : Draws N) where
  -- a step of this side called its peer, or left it and what was announced
  rests_here : (called : Bool) (step : Step) (outcome : Outcome PlainMediaEvent) (earlier : Type 0) (old new : PlainPolled N) (uses acted : List ChannelUse)
      → ((earlier → RestsSide uses old) → SideDrainedByStep step outcome earlier → RestsSide acted new)
      → (called ≡ false → (new ≡ old) × (acted ≡ uses)) → (earlier → RestsSide uses old) → SideDrainedByEntry called step outcome earlier → RestsSide acted new
  rests_here true step outcome earlier old new uses acted acts same before d = acts before d
  rests_here false step outcome earlier old new uses acted acts same before d =
      subst (λ (l : List ChannelUse). RestsSide l new) (sym (same refl).1) (subst (λ (p : PlainPolled N). RestsSide uses p) (sym (same refl).0) (before d))

  -- a step of one side, as either of them sees it
  rests_after : (at x : Side) (between pair : PlainPair N) (uses : Side → List ChannelUse) (acted : List ChannelUse → List ChannelUse) (step : Step)
      (outcome : Outcome PlainMediaEvent) (earlier : Side → Type 0) → rtc_at (other_side at) pair ≡ rtc_at (other_side at) between
      → ((earlier at → RestsSide (uses at) (rtc_at at between)) → SideDrainedByStep step outcome (earlier at)
      → RestsSide (acted (uses at)) (rtc_at at pair))
      → (calls_peer outcome ≡ false → (rtc_at at pair ≡ rtc_at at between) × (acted (uses at) ≡ uses at))
      → (earlier x → RestsSide (uses x) (rtc_at x between))
      → SideDrainedByEntry (same_side at x && calls_peer outcome) step outcome (earlier x)
      → RestsSide (if same_side at x then acted (uses x) else uses x) (rtc_at x pair)
  rests_after Left Left between pair uses acted step outcome earlier other acts same before d =
      rests_here (calls_peer outcome) step outcome (earlier Left) (rtc_at Left between) (rtc_at Left pair) (uses Left)
      (acted (uses Left)) acts same before d
  rests_after Left Right between pair uses acted step outcome earlier other acts same before d =
      subst (λ (p : PlainPolled N). RestsSide (uses Right) p) (sym other) (before d)
  rests_after Right Left between pair uses acted step outcome earlier other acts same before d =
      subst (λ (p : PlainPolled N). RestsSide (uses Left) p) (sym other) (before d)
  rests_after Right Right between pair uses acted step outcome earlier other acts same before d =
      rests_here (calls_peer outcome) step outcome (earlier Right) (rtc_at Right between) (rtc_at Right pair) (uses Right)
      (acted (uses Right)) acts same before d

  pub rests_reached : (stun : List ℕ → Bool) (start : PlainPair N) (past : List (Entry PlainMediaEvent)) (pair : PlainPair N)
      → are_native (steps_of past) ≡ true → (ran : Reached (plain_over draws) stun start past pair) → PairTold draws start (λ x. []) (λ x s g. []) (λ x c s g. [])
      → IsNewPair draws start → (at : Side) → IsSideDrained at past
      → RestsSide (uses_of (plain_over draws) stun start at past pair ran) (rtc_at at pair)
  rests_reached stun start [] pair go ran h new at d = absurd d
  rests_reached stun start (entry ∷ past) pair go ran h new at d =
      rests_after (side_of entry.step) at ran.0 pair uses acted entry.step entry.outcome
      (λ x. IsSideDrained x past) ran.2.performs.other
      (λ before e.
      acts_rests draws there.other (rtc_at (other_side (side_of entry.step)) ran.0) (sent (side_of entry.step)) stun (addr_at (other_side (side_of entry.step)) ran.0) (addr_at (side_of entry.step) ran.0) entry.step (rtc_at (side_of entry.step) ran.0) ran.0.sdps
      ran.0.packets entry.outcome entry.table (rtc_at (side_of entry.step) pair) pair.sdps pair.packets (uses (side_of entry.step))
      (told (side_of entry.step)) (native_entry entry past go).1 ran.2.performs.acts there.stood
      (IsSideDrained (side_of entry.step) past) before e
      (run_ready draws stun start new (entry ∷ past) pair go ran (side_of entry.step)))
      (λ none. (
        uncalled_same (plain_over draws) stun (addr_at (other_side (side_of entry.step)) ran.0) (addr_at (side_of entry.step) ran.0) entry.step (rtc_at (side_of entry.step) ran.0) ran.0.sdps
            ran.0.packets entry.outcome entry.table (rtc_at (side_of entry.step) pair) pair.sdps pair.packets ran.2.performs.acts none,
        uncalled_uses (plain_over draws) stun (addr_at (other_side (side_of entry.step)) ran.0) (addr_at (side_of entry.step) ran.0) entry.step (rtc_at (side_of entry.step) ran.0) ran.0.sdps
            ran.0.packets entry.outcome entry.table (rtc_at (side_of entry.step) pair) pair.sdps pair.packets ran.2.performs.acts (uses (side_of entry.step)) none,
      ))
      (λ e. rests_reached stun start past ran.0 (native_entry entry past go).0 ran.1 h new at e) d
    where
      uses : Side → List ChannelUse
      uses x = uses_of (plain_over draws) stun start x past ran.0 ran.1

      sent : Side → Sent
      sent x = sent_over (plain_over draws) stun start x past ran.0 ran.1

      told : Side → MessagesTold
      told x = told_over (plain_over draws) stun start x past ran.0 ran.1

      acted : List ChannelUse → List ChannelUse
      acted l =
          uses_acted (plain_over draws) stun (addr_at (other_side (side_of entry.step)) ran.0) (addr_at (side_of entry.step) ran.0) entry.step (rtc_at (side_of entry.step) ran.0) ran.0.sdps ran.0.packets entry.outcome entry.table
          (rtc_at (side_of entry.step) pair) pair.sdps pair.packets ran.2.performs.acts l

      there : StoodIn draws (side_of entry.step) ran.0 uses sent told
      there = stood_in draws (side_of entry.step) ran.0 uses sent told (reached_told draws stun start past ran.0 (native_entry entry past go).0 ran.1 h)

  -- at a side that waits nothing stands unread: it announced no channel, or nothing came
  waited_unread : (at : Side) (pair : PlainPair N) (uses : Side → List ChannelUse) (sent : Side → Sent) (told : Side → MessagesTold) (x : ChannelUse)
      → StoodIn draws at pair uses sent told → Member x (uses at) → IsWaiting (rtc_at at pair) → (s g : ℕ)
      → has_unread (rtc_at at pair).core.sctp.association s g ≡ false
  waited_unread at pair uses sent told x there mine (inl unfinished) s g =
      unfinished_unread draws there.stood.acts (uses at) (rtc_at at pair) there.stood.side unfinished s g
  waited_unread at pair uses sent told x there mine (inr waits) s g =
      absurd
      (true≢false (sym (all_member (λ y. AreRunning plain_meaning (rtc_at at pair).core.sctp) (uses at) x there.stood.running mine).1 ∙ waits.waits.0))

  -- nothing stands unread of a channel that is open
  pub run_heard : (stun : List ℕ → Bool) (start : PlainPair N) → IsNewPair draws start → (past : List (Entry PlainMediaEvent)) (pair : PlainPair N)
      → are_native (steps_of past) ≡ true → (ran : Reached (plain_over draws) stun start past pair) → (at : Side) (x : ChannelUse)
      → Member x (uses_of (plain_over draws) stun start at past pair ran) → IsSideDrained at past → x.in_band ≡ true → (stream : ℕ)
      → x.stream ≡ Some stream → open_stream_under x.channel (rtc_at at pair) ≡ Some stream
      → generation_of (rtc_at at pair).core.sctp.association stream ≡ x.generation
      → has_unread (rtc_at at pair).core.sctp.association stream x.generation ≡ false
  run_heard stun start new past pair go ran at x mine drained band stream of there own =
      rests_open draws (uses at) (rtc_at at pair) x (rests_reached stun start past pair go ran (new_pair_told draws start new) new at drained)
      (waited_unread at pair uses sent told x
      (stood_in draws at pair uses sent told (reached_told draws stun start past pair go ran (new_pair_told draws start new))) mine) mine band stream of
      there own
    where
      uses : Side → List ChannelUse
      uses y = uses_of (plain_over draws) stun start y past pair ran

      sent : Side → Sent
      sent y = sent_over (plain_over draws) stun start y past pair ran

      told : Side → MessagesTold
      told y = told_over (plain_over draws) stun start y past pair ran

  -- all was got that was sent
  pub run_delivered : (stun : List ℕ → Bool) (start : PlainPair N) → IsNewPair draws start → (past : List (Entry PlainMediaEvent)) (pair : PlainPair N)
      → are_native (steps_of past) ≡ true → (ran : Reached (plain_over draws) stun start past pair) → (at : Side)
      → AreAllDelivered (IsSideDrained at past)
      (uses_of (plain_over draws) stun start at past pair ran) (rtc_at at pair)
      (uses_of (plain_over draws) stun start (other_side at) past pair ran) (rtc_at (other_side at) pair)
  run_delivered stun start new past pair go ran at =
      pair_delivered draws pair (λ x. uses_of (plain_over draws) stun start x past pair ran) (λ x. sent_over (plain_over draws) stun start x past pair ran)
      (λ x. told_over (plain_over draws) stun start x past pair ran)
      (reached_told draws stun start past pair go ran (new_pair_told draws start new)) at
      (IsSideDrained at past) (λ x mine drained band stream of there own. run_heard stun start new past pair go ran at x mine drained band stream of there own)

  -- all was got that was ever sent to the generation
  pub run_delivered_over : (stun : List ℕ → Bool) (start : PlainPair N) → IsNewPair draws start → (past : List (Entry PlainMediaEvent)) (pair : PlainPair N)
      → are_native (steps_of past) ≡ true → (ran : Reached (plain_over draws) stun start past pair) → (at : Side)
      → AreAllDeliveredOver (IsSideDrained at past)
      (uses_of (plain_over draws) stun start at past pair ran) (rtc_at at pair)
      (uses_of (plain_over draws) stun start (other_side at) past pair ran) (rtc_at (other_side at) pair)
      (sent_over (plain_over draws) stun start (other_side at) past pair ran)
  run_delivered_over stun start new past pair go ran at =
      pair_delivered_over draws pair (λ x. uses_of (plain_over draws) stun start x past pair ran) (λ x. sent_over (plain_over draws) stun start x past pair ran)
      (λ x. told_over (plain_over draws) stun start x past pair ran)
      (reached_told draws stun start past pair go ran (new_pair_told draws start new)) at
      (IsSideDrained at past) (λ x mine drained band stream of there own. run_heard stun start new past pair go ran at x mine drained band stream of there own)

  -- so it is where both channels stay open
  pub run_drained : (stun : List ℕ → Bool) (start : PlainPair N) → IsNewPair draws start → (past : List (Entry PlainMediaEvent)) (pair : PlainPair N)
      → are_native (steps_of past) ≡ true → (ran : Reached (plain_over draws) stun start past pair) → (at : Side)
      → AreAllHandedOut draws (IsSideDrained at past) (uses_of (plain_over draws) stun start at past pair ran) (rtc_at at pair)
      (uses_of (plain_over draws) stun start (other_side at) past pair ran) (rtc_at (other_side at) pair)
  run_drained stun start new past pair go ran at = λ x y mine theirs drained joined acknowledged.
      pair_wholly draws pair (λ z. uses_of (plain_over draws) stun start z past pair ran) (λ z. sent_over (plain_over draws) stun start z past pair ran)
      (λ z. told_over (plain_over draws) stun start z past pair ran) at (reached_told draws stun start past pair go ran (new_pair_told draws start new)) x
      y mine theirs joined acknowledged
      (run_heard stun start new past pair go ran at x mine drained joined.reader_in_band joined.reader.stream joined.reader.of joined.reader.there
      joined.reader.generation)
