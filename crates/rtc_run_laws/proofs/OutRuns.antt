-- In a run of new pairs that finds memory: a channel that a step announced, and whose config as this step ended was in-band, was opened in-band.
use Rattle.std.proofs.Common.{◌≡◌, ◌∙◌, inl, inr, ◌∷◌, if◌then◌else◌, ℕ, Bool, true, false, true≢false, List, [], Option, refl, sym, ap, subst}
use Rattle.rtc_wire.specs.declared.addr.Addr.{Addr}
use Rattle.rtc_parts.specs.Draws.{Draws}
use Rattle.rtc_plain_dtls.specs.Contents.{DtlsContents}
use Rattle.rtc_plain_ice.specs.Contents.{IceContents}
use Rattle.rtc_plain_media.specs.MediaContents.{MediaContents}
use Rattle.rtc_plain_media.specs.declared.plain_media_event.PlainMediaEvent.{PlainMediaEvent}
use Rattle.rtc_assoc_state.specs.Contents.{Contents}
use Rattle.rtc_sctp_entries.specs.declared.stream_entry.StreamEntry.{StreamEntry}
use Rattle.rtc_sctp_entries.specs.Entries.{Ascend}
use Rattle.rtc_sctp.specs.Streams.{SctpStreams}
use Rattle.rtc_peer_core.specs.declared.peer.Peer.{Peer}
use Rattle.rtc_peer_core.specs.Meanings.{Meanings, PartsLaws}
use Rattle.rtc_peer_transport.specs.ChannelCalls.{config_under, stream_under}
use Rattle.rtc_peer_transport.specs.declared.polled_peer.PolledPeer.{PolledPeer}
use Rattle.rtc_run_history.specs.declared.kept.Kept.{Kept}
use Rattle.rtc_run_history.specs.declared.outcome.Outcome.{Outcome}
use Rattle.rtc_run_history.specs.declared.sent_packet.SentPacket.{SentPacket}
use Rattle.rtc_run_history.specs.declared.side.Side.{Side}
use Rattle.rtc_run_history.specs.declared.side.Side.TheVariants.{Left, Right}
use Rattle.rtc_run_history.specs.declared.step.Step.{Step}
use Rattle.rtc_run_history.specs.declared.step.Step.TheVariants.{Poll, Drain}
use Rattle.rtc_run_history.specs.declared.table.Table.{Table}
use Rattle.rtc_run_history.specs.Memory.{outcome_lacks}
use Rattle.rtc_run_history.specs.Native.{are_native, is_native}
use Rattle.rtc_run_history.specs.PairState.{addr_at, rtc_at}
use Rattle.rtc_run_history.specs.Past.{Entry, steps_of}
use Rattle.rtc_run_history.specs.Performs.{Acts, Enters}
use Rattle.rtc_run_history.specs.Runs.{Reached}
use Rattle.rtc_run_history.specs.Sides.{other_side, same_side, side_of}
use Rattle.rtc_run_laws.specs.ChannelUses.{ChannelUse}
use Rattle.rtc_run_laws.specs.NewPairs.{IsNewPair, IsNewPeer}
use Rattle.rtc_run_laws.specs.PlainPairs.{PlainPair, PlainPolled, plain_over}
use Rattle.rtc_run_laws.specs.UsesOfRuns.{uses_acted, uses_of}
use Rattle.rtc_run_laws.proofs.AnnouncedBands.{IsBandConfig, OutcomeAnnounces, drain_first, poll_first}
use Rattle.rtc_run_laws.proofs.ConfirmedSides.{new_sound}
use Rattle.rtc_run_laws.proofs.FirstBands.{IsFirstBanded, acted_first}
use Rattle.rtc_run_laws.proofs.NativeSteps.{native_entry}
use Rattle.rtc_run_laws.proofs.OutUses.{OutSound, SideOut, acted_on}
use Rattle.rtc_run_laws.proofs.StepRows.{acts_rows, changes_closed}
use Rattle.rtc_run_laws.proofs.StepsExchange.{plain_over_laws}

-- no entry reports that memory ran out
abbrev pub AreLasting : {E : Type 0} → List (Entry E) → Type 0
AreLasting [] = Unit {0}
AreLasting (entry ∷ past) = (outcome_lacks entry.outcome ≡ false) × AreLasting past

-- a step that polls
abbrev pub IsPollStep : Step → Type 0
IsPollStep (Poll at) = Unit {0}
IsPollStep (Drain at) = Unit {0}
IsPollStep step = ⊥

sides_meet : (at x : Side) → same_side at x ≡ true → at ≡ x
sides_meet Left Left e = refl
sides_meet Left Right e = absurd (true≢false (sym e))
sides_meet Right Left e = absurd (true≢false (sym e))
sides_meet Right Right e = refl

module _ {I D S M E X T W N : Type 0} (m : Meanings I D S M E X T W N) (laws : PartsLaws m) where
  acted_banded : (c : ℕ) (stun : List ℕ → Bool) (other own : Addr) (step : Step) (old : PolledPeer I D S M N) (sdps : List Kept) (packets : List SentPacket)
      (outcome : Outcome E) (table : Option Table) (new : PolledPeer I D S M N) (sdps' : List Kept) (packets' : List SentPacket)
      (h : Acts m stun other own step old sdps packets outcome table new sdps' packets') (uses : List ChannelUse) → IsPollStep step
      → outcome_lacks outcome ≡ false → SideOut m old uses → OutcomeAnnounces c outcome
      → IsBandConfig (config_under (stream_under c new.core.channels) new.core.sctp)
      → IsFirstBanded c (uses_acted m stun other own step old sdps packets outcome table new sdps' packets' h uses)
  acted_banded c stun other own (Poll at) old sdps packets outcome table new sdps' packets' h uses polls lasts side announced fits =
      poll_first m c laws at old packets outcome table new packets' uses h.0 lasts side announced fits
  acted_banded c stun other own (Drain at) old sdps packets outcome table new sdps' packets' h uses polls lasts side announced fits =
      drain_first m c laws at old packets outcome table new packets' uses h.0 lasts side announced fits
  acted_banded c stun other own step old sdps packets outcome table new sdps' packets' h uses polls lasts side announced fits = absurd polls

module _ {N : Type 0} (draws : Draws N) (stun : List ℕ → Bool) (start : PlainPair N) (new : IsNewPair draws start) where
  new_out : (p : PlainPolled N) → IsNewPeer draws p.core → OutSound (plain_over draws) p []
  new_out p h = record {
    sound = new_sound draws p h;
    ordered = subst (λ (l : List StreamEntry). Ascend l) (sym entries) tt;
    each = tt;
  }
    where
      sctp : p.core.sctp ≡ h.built.sctp
      sctp = ap (λ (x : Peer IceContents DtlsContents Contents MediaContents N). x.sctp) h.rest

      entries : p.core.sctp.entries ≡ []
      entries = ap (λ (x : SctpStreams Contents). x.entries) sctp ∙ ap (λ (x : SctpStreams Contents). x.entries) h.by_build.streams

  start_out : (at : Side) → SideOut (plain_over draws) (rtc_at at start) []
  start_out Left = inr (new_out start.left new.left)
  start_out Right = inr (new_out start.right new.right)

  -- the side that acts, and the other one
  side_at : (own at : Side) (between pair : PlainPair N) (acted before : List ChannelUse)
      → (own ≡ at → SideOut (plain_over draws) (rtc_at own pair) acted) → rtc_at (other_side own) pair ≡ rtc_at (other_side own) between
      → SideOut (plain_over draws) (rtc_at at between) before → SideOut (plain_over draws) (rtc_at at pair) (if same_side own at then acted else before)
  side_at Left Left between pair acted before own same k = own refl
  side_at Left Right between pair acted before own same k = subst (λ (x : PlainPolled N). SideOut (plain_over draws) x before) (sym same) k
  side_at Right Left between pair acted before own same k = subst (λ (x : PlainPolled N). SideOut (plain_over draws) x before) (sym same) k
  side_at Right Right between pair acted before own same k = own refl

  -- the uses behind the step of an entry, of the side that acts
  abbrev acted_by : (entry : Entry PlainMediaEvent) (between pair : PlainPair N) → Enters (plain_over draws) stun between entry pair → List ChannelUse
      → List ChannelUse
  acted_by entry between pair enters before =
      uses_acted (plain_over draws) stun (addr_at (other_side (side_of entry.step)) between) (addr_at (side_of entry.step) between) entry.step
      (rtc_at (side_of entry.step) between) between.sdps between.packets entry.outcome entry.table
      (rtc_at (side_of entry.step) pair) pair.sdps pair.packets enters.performs.acts before

  own_out : (entry : Entry PlainMediaEvent) (between pair : PlainPair N) (enters : Enters (plain_over draws) stun between entry pair)
      (before : List ChannelUse) → is_native entry.step ≡ true → outcome_lacks entry.outcome ≡ false
      → SideOut (plain_over draws) (rtc_at (side_of entry.step) between) before
      → SideOut (plain_over draws) (rtc_at (side_of entry.step) pair) (acted_by entry between pair enters before)
  own_out entry between pair enters before native lasts (inl closed) =
      inl
      (changes_closed (plain_over draws) (rtc_at (side_of entry.step) between) (rtc_at (side_of entry.step) pair)
      (acts_rows (plain_over draws) (plain_over_laws draws) stun (addr_at (other_side (side_of entry.step)) between) (addr_at (side_of entry.step) between)
      entry.step (rtc_at (side_of entry.step) between) between.sdps between.packets entry.outcome entry.table
      (rtc_at (side_of entry.step) pair) pair.sdps pair.packets native enters.performs.acts)
      closed)
  own_out entry between pair enters before native lasts (inr out) =
      acted_on (plain_over draws) (plain_over_laws draws) stun (addr_at (other_side (side_of entry.step)) between) (addr_at (side_of entry.step) between)
      entry.step (rtc_at (side_of entry.step) between) between.sdps between.packets entry.outcome entry.table
      (rtc_at (side_of entry.step) pair) pair.sdps pair.packets enters.performs.acts before native lasts out

  entered_out : (entry : Entry PlainMediaEvent) (between pair : PlainPair N) (enters : Enters (plain_over draws) stun between entry pair)
      (before : List ChannelUse) (at : Side) → is_native entry.step ≡ true → outcome_lacks entry.outcome ≡ false
      → SideOut (plain_over draws) (rtc_at at between) before
      → SideOut (plain_over draws) (rtc_at at pair) (if same_side (side_of entry.step) at then acted_by entry between pair enters before else before)
  entered_out entry between pair enters before at native lasts k =
      side_at (side_of entry.step) at between pair (acted_by entry between pair enters before) before
      (λ same.
      own_out entry between pair enters before native lasts
      (subst (λ (x : Side). SideOut (plain_over draws) (rtc_at x between) before) (sym same) k))
      enters.performs.other k

  pub run_out : (past : List (Entry PlainMediaEvent)) (pair : PlainPair N) → are_native (steps_of past) ≡ true → AreLasting past
      → (ran : Reached (plain_over draws) stun start past pair) → (at : Side)
      → SideOut (plain_over draws) (rtc_at at pair) (uses_of (plain_over draws) stun start at past pair ran)
  run_out [] pair go lasts ran at = subst (λ (x : PlainPair N). SideOut (plain_over draws) (rtc_at at x) []) (sym ran) (start_out at)
  run_out (entry ∷ past) pair go lasts ran at =
      let native = native_entry entry past go in
      entered_out entry ran.0 pair ran.2 (uses_of (plain_over draws) stun start at past ran.0 ran.1) at native.1 lasts.0
      (run_out past ran.0 native.0 lasts.1 ran.1 at)

  -- ---- lines of such runs

  module _ (c : ℕ) (entry : Entry PlainMediaEvent) (past : List (Entry PlainMediaEvent)) (pair : PlainPair N)
      (ran : Reached (plain_over draws) stun start (entry ∷ past) pair) (at : Side) where
    -- the first channel of a number stays as it was opened
    pub entry_stays : IsFirstBanded c (uses_of (plain_over draws) stun start at past ran.0 ran.1)
        → IsFirstBanded c (uses_of (plain_over draws) stun start at (entry ∷ past) pair ran)
    entry_stays h = by (same_side (side_of entry.step) at)
      where
        by : (b : Bool)
            → IsFirstBanded c (if b then acted_by entry ran.0 pair ran.2 (uses_of (plain_over draws) stun start at past ran.0 ran.1) else uses_of (plain_over draws) stun start at past ran.0 ran.1)
        by true =
            acted_first (plain_over draws) c stun (addr_at (other_side (side_of entry.step)) ran.0) (addr_at (side_of entry.step) ran.0) entry.step
            (rtc_at (side_of entry.step) ran.0) ran.0.sdps ran.0.packets entry.outcome entry.table
            (rtc_at (side_of entry.step) pair) pair.sdps pair.packets ran.2.performs.acts _ h
        by false = h

    -- that of a channel which the step announces, with a config that is in-band as it ends
    pub entry_first : are_native (steps_of (entry ∷ past)) ≡ true → AreLasting (entry ∷ past) → same_side (side_of entry.step) at ≡ true
        → IsPollStep entry.step → OutcomeAnnounces c entry.outcome
        → IsBandConfig (config_under (stream_under c (rtc_at at pair).core.channels) (rtc_at at pair).core.sctp)
        → IsFirstBanded c (uses_of (plain_over draws) stun start at (entry ∷ past) pair ran)
    entry_first go lasts own polls announced fits =
        subst
        (λ (b : Bool).
        IsFirstBanded c (if b then acted_by entry ran.0 pair ran.2 (uses_of (plain_over draws) stun start at past ran.0 ran.1) else uses_of (plain_over draws) stun start at past ran.0 ran.1))
        (sym own)
        (acted_banded (plain_over draws) (plain_over_laws draws) c stun (addr_at (other_side (side_of entry.step)) ran.0) (addr_at (side_of entry.step) ran.0)
        entry.step (rtc_at (side_of entry.step) ran.0) ran.0.sdps ran.0.packets entry.outcome entry.table
        (rtc_at (side_of entry.step) pair) pair.sdps pair.packets ran.2.performs.acts
        (uses_of (plain_over draws) stun start at past ran.0 ran.1) polls lasts.0
        (subst (λ (x : Side). SideOut (plain_over draws) (rtc_at x ran.0) (uses_of (plain_over draws) stun start at past ran.0 ran.1)) (sym same)
        (run_out past ran.0 (native_entry entry past go).0 lasts.1 ran.1 at))
        announced
        (subst (λ (x : Side). IsBandConfig (config_under (stream_under c (rtc_at x pair).core.channels) (rtc_at x pair).core.sctp)) (sym same) fits))
      where
        same : side_of entry.step ≡ at
        same = sides_meet (side_of entry.step) at own
