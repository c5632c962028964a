-- In a run each opening from here is over a stream of the side that its association has at the end, unless a channel was settled for it by other
-- means.
use Rattle.std.proofs.Common.{◌≡◌, ◌∙◌, ◌⊎◌, inl, inr, ℕ, zero, suc, Bool, true, List, [], ◌∷◌, Ok, refl, sym, ap, subst}
use Rattle.rtc_parts.specs.AssociationLaws.{AssociationLaws}
use Rattle.rtc_parts.specs.AssociationMeaning.{AssociationMeaning}
use Rattle.rtc_parts.specs.Draws.{Draws}
use Rattle.rtc_sctp_entries.specs.declared.stream_entry.StreamEntry.{StreamEntry}
use Rattle.rtc_sctp.specs.Streams.{SctpStreams}
use Rattle.rtc_channels.specs.Channels.{Channels, all_confirmed, no_channels, unconfirmed, with_channel}
use Rattle.rtc_channels.specs.Holds.{all_cancelled}
use Rattle.rtc_peer_core.specs.declared.phase.Phase.TheVariants.{Closed}
use Rattle.rtc_peer_core.specs.Meanings.{Meanings, PartsLaws}
use Rattle.rtc_peer_transport.specs.declared.polled_peer.PolledPeer.{PolledPeer}
use Rattle.rtc_peer_polling.proofs.StreamStarts.{started_same, timed_start}
use Rattle.rtc_peer_laws.specs.RowsChanged.{ChangeRows, OnlyActs, RowsChange, RowsChanged}
use Rattle.rtc_peer_laws.specs.RowsChanged.{Stayed, Polled, Timed, Progressed, ThresholdSet, StreamClosed, Confirmed, Made}
use Rattle.rtc_run_history.specs.declared.side.Side.{Side}
use Rattle.rtc_run_history.specs.declared.side.Side.TheVariants.{Left, Right}
use Rattle.rtc_run_history.specs.Native.{are_native}
use Rattle.rtc_run_history.specs.PairState.{PairState, rtc_at}
use Rattle.rtc_run_history.specs.Past.{Entry, steps_of}
use Rattle.rtc_run_history.specs.Runs.{Reached}
use Rattle.rtc_run_laws.specs.NewPairs.{IsNewPair, IsNewPeer}
use Rattle.rtc_run_laws.specs.PlainPairs.{PlainPair, PlainPolled}
use Rattle.rtc_run_laws.proofs.BegunRows.{AreSound}
use Rattle.rtc_run_laws.proofs.CancelledSides.{owned_cancelled}
use Rattle.rtc_run_laws.proofs.ConfirmedRuns.{SideSound, last_rows, run_sound}
use Rattle.rtc_run_laws.proofs.OpenedRows.{change_sound}
use Rattle.rtc_run_laws.proofs.OwnedChanges.{IsOwned, answer_owned, moment_owned, owned_kept}
use Rattle.rtc_run_laws.proofs.OwnedRows.{IsOwner, confirmed_has, confirmed_own, made_own, over_ahead}
use Rattle.rtc_run_laws.proofs.SideChanges.{change_side, changed_side, timed_side}
use Rattle.rtc_run_laws.proofs.StandingCalls.{closes_kept, threshold_kept, timeout_kept, timeout_shut}
use Rattle.rtc_run_laws.proofs.StandingEntries.{HasStanding, kept_is}
use Rattle.rtc_run_laws.proofs.StreamPolls.{poll_goes}
use Rattle.rtc_run_laws.proofs.StepRows.{StepChanges}
use Rattle.rtc_run_laws.proofs.SureRows.{confirmed_sure, made_sure}
use Rattle.rtc_run_laws.proofs.NativeSteps.{native_entry}
use Rattle.rtc_run_laws.proofs.NewPeers.{new_channels, new_entries}

module _ {S : Type 0} (m : AssociationMeaning S) (w : AssociationLaws m) (c : Bool) where
  -- an association that is started has this side
  abbrev pub HasSide : SctpStreams S → Type 0
  HasSide a = m.started a.association ≡ true → a.client ≡ c

  -- rows and entries stay
  only_owned : (held held' : Channels) (a b : SctpStreams S) → held'.rows ≡ held.rows → OnlyActs m a b → IsOwned c held a.entries
      → IsOwned c held' b.entries
  only_owned held held' a b is h owned = owned_kept c held held' a.entries b.entries is (kept_is a.entries b.entries h.entries) owned

  same_rows : (held held' : Channels) → held' ≡ held → held'.rows ≡ held.rows
  same_rows held held' is = ap (λ (x : Channels). x.rows) is

  change_owned : (held : Channels) (a : SctpStreams S) (held' : Channels) (b : SctpStreams S) → RowsChange m held a held' b → AreSound held a
      → HasSide a → IsOwned c held a.entries → IsOwned c held' b.entries
  change_owned held a held' b (Stayed rows h) sound side owned = only_owned held held' a b rows.0 h owned
  change_owned held a held' b (Polled answer streams h rows association entries state client) sound side owned =
      subst (λ (l : List StreamEntry). IsOwned c held' l) (sym entries)
      (answer_owned c answer held held' a streams sound.numbers (poll_goes m w a answer streams h) rows owned)
  change_owned held a held' b (Timed now wake wake' r h is) sound side owned =
      owned_kept c held held' a.entries b.entries (same_rows held held' is) (timeout_kept m now a wake r b wake' h) owned
  change_owned held a held' b (Progressed now wake wake' between h due started signals signals' k) sound side owned =
      moment_owned c m due held between signals held' b signals'
      (λ e.
      timed_side m a.state now a wake (Ok tt) between wake' h
      ∙ side (sym (started_same m a between (timed_start m w a.state now a wake (Ok tt) between wake' h)) ∙ started e))
      sound.numbers (timeout_shut m now a wake (Ok tt) between wake' sound.before h) k
      (owned_kept c held held a.entries between.entries refl (timeout_kept m now a wake (Ok tt) between wake' h) owned)
  change_owned held a held' b (ThresholdSet n place h is) sound side owned =
      owned_kept c held held' a.entries b.entries (same_rows held held' is) (threshold_kept m n place a b h) owned
  change_owned held a held' b (StreamClosed stream r h is) sound side owned =
      owned_kept c held held' a.entries b.entries (same_rows held held' is) (closes_kept m stream a r b h) owned
  change_owned held a held' b (Confirmed channels is h) sound side owned =
      subst (λ (x : Channels). IsOwned c x b.entries) (sym is)
      (subst (λ (l : List StreamEntry). IsOwned c (all_confirmed channels held) l) (sym h.entries)
      (record {
        ordered = owned.ordered;
        rows = confirmed_own c (λ s. HasStanding s a.entries) channels held owned.rows;
        openings = λ s o. confirmed_has (IsOwner c s) s channels held (λ n b k. (k.0, refl)) (owned.openings s o);
        sure = confirmed_sure channels held owned.sure;
      }))
  change_owned held a held' b (Made config is h) sound side owned =
      subst (λ (x : Channels). IsOwned c x b.entries) (sym is)
      (subst (λ (l : List StreamEntry). IsOwned c (with_channel held config) l) (sym h.entries)
      (record {
        ordered = owned.ordered;
        rows = made_own c (λ s. HasStanding s a.entries) held config owned.rows;
        openings = λ s o. over_ahead (IsOwner c s) s held.rows (unconfirmed held.given config ∷ []) (owned.openings s o);
        sure = made_sure held config owned.sure;
      }))

  -- one after the other
  record OwnedBoth (held : Channels) (a : SctpStreams S) : Type 0 where
    sound : AreSound held a
    owned : IsOwned c held a.entries

  changes_owned : (n : ℕ) (held : Channels) (a : SctpStreams S) (held' : Channels) (b : SctpStreams S) → ChangeRows m n held a held' b → HasSide b
      → AreSound held a → IsOwned c held a.entries → OwnedBoth held' b
  changes_owned zero held a held' b h side sound owned =
      subst (λ (x : Channels). OwnedBoth x b) (sym h.0) (subst (λ (y : SctpStreams S). OwnedBoth held y) (sym h.1) (record { sound = sound; owned = owned }))
  changes_owned (suc n) held a held' b h side sound owned =
      let stays = change_side m w h.0 h.1.0 held' b h.1.1.1 in
      let before : HasSide h.1.0 = λ e. sym (stays.side e) ∙ side (stays.started e) in
      let first = changes_owned n held a h.0 h.1.0 h.1.1.0 before sound owned in
      record {
        sound = change_sound m w h.0 h.1.0 held' b h.1.1.1 first.sound;
        owned = change_owned h.0 h.1.0 held' b h.1.1.1 first.sound before first.owned;
      }

  pub changed_owned : (held : Channels) (a : SctpStreams S) (held' : Channels) (b : SctpStreams S) → RowsChanged m held a held' b → HasSide b
      → AreSound held a → IsOwned c held a.entries → IsOwned c held' b.entries
  changed_owned held a held' b h side sound owned = (changes_owned h.changes held a held' b h.changed side sound owned).owned

module _ {I D S M E X T W N : Type 0} (m : Meanings I D S M E X T W N) (laws : PartsLaws m) (c : Bool) where
  -- a peer that is not closed, whose association has this side once it is started
  pub record LivesOnSide (p : PolledPeer I D S M N) : Type 0 where
    pub lives : p.core.phase ≡ Closed → ⊥
    pub side : HasSide m.association laws.association c p.core.sctp

  abbrev pub SideOwned : PolledPeer I D S M N → Type 0
  SideOwned p = IsOwned c p.core.channels p.core.sctp.entries

  -- so it was before
  pub lived_before : (p q : PolledPeer I D S M N) → StepChanges m p q → LivesOnSide q → LivesOnSide p
  lived_before p q (inr h) after = record {
    lives = λ e. after.lives (h.phase ∙ e);
    side = λ e.
        ap (λ (x : SctpStreams S). x.client) (sym h.sctp)
        ∙ after.side (ap (λ (x : SctpStreams S). m.association.started x.association) h.sctp ∙ e);
  }
  lived_before p q (inl h) after = record { lives = λ e. after.lives (h.closed e); side = λ e. by h.changed e }
    where
      by : (q.core.phase ≡ Closed) ⊎ RowsChanged m.association p.core.channels p.core.sctp q.core.channels q.core.sctp
          → m.association.started p.core.sctp.association ≡ true → p.core.sctp.client ≡ c
      by (inl closed) e = absurd (after.lives closed)
      by (inr changed) e =
          let stays = changed_side m.association laws.association p.core.channels p.core.sctp q.core.channels q.core.sctp changed in
          sym (stays.side e) ∙ after.side (stays.started e)

  side_sound : (p : PolledPeer I D S M N) → (p.core.phase ≡ Closed → ⊥) → SideSound m laws p → AreSound p.core.channels p.core.sctp
  side_sound p lives (inl closed) = absurd (lives closed)
  side_sound p lives (inr sound) = sound

  step_owned : (p q : PolledPeer I D S M N) → StepChanges m p q → LivesOnSide q → AreSound p.core.channels p.core.sctp → SideOwned p → SideOwned q
  step_owned p q (inr h) after sound owned =
      subst (λ (x : Channels). IsOwned c x q.core.sctp.entries) (sym h.cancelled)
      (subst (λ (x : SctpStreams S). IsOwned c (all_cancelled h.channels p.core.channels) x.entries) (sym h.sctp)
      (owned_cancelled c h.channels p.core.channels p.core.sctp.entries sound.numbers owned))
  step_owned p q (inl h) after sound owned = by h.changed
    where
      by : (q.core.phase ≡ Closed) ⊎ RowsChanged m.association p.core.channels p.core.sctp q.core.channels q.core.sctp → SideOwned q
      by (inl closed) = absurd (after.lives closed)
      by (inr changed) =
          changed_owned m.association laws.association c p.core.channels p.core.sctp q.core.channels q.core.sctp changed after.side sound owned

  pub run_owned : (stun : List ℕ → Bool) (start : PairState I D S M N) (past : List (Entry E)) (pair : PairState I D S M N)
      → are_native (steps_of past) ≡ true → Reached m stun start past pair → ((at : Side) → SideSound m laws (rtc_at at start)) → ((at : Side) → SideOwned (rtc_at at start))
      → (at : Side) → LivesOnSide (rtc_at at pair) → SideOwned (rtc_at at pair)
  run_owned stun start [] pair go ran sound owned at lives = subst (λ (x : PairState I D S M N). SideOwned (rtc_at at x)) (sym ran) (owned at)
  run_owned stun start (entry ∷ past) pair go ran sound owned at lives =
      let earlier = (native_entry entry past go).0 in
      let rows = last_rows m laws stun start entry past pair go ran at in
      let before = lived_before (rtc_at at ran.0) (rtc_at at pair) rows lives in
      step_owned (rtc_at at ran.0) (rtc_at at pair) rows lives
      (side_sound (rtc_at at ran.0) before.lives (run_sound m laws stun start past ran.0 earlier ran.1 sound at))
      (run_owned stun start past ran.0 earlier ran.1 sound owned at before)

-- ---- new peers

module _ {N : Type 0} (draws : Draws N) (c : Bool) where
  new_owned : (p : PlainPolled N) → IsNewPeer draws p.core → IsOwned c p.core.channels p.core.sctp.entries
  new_owned p h =
      subst (λ (x : Channels). IsOwned c x p.core.sctp.entries) (sym (new_channels draws p h))
      (subst (λ (l : List StreamEntry). IsOwned c no_channels l) (sym (new_entries draws p h))
      (record { ordered = tt; rows = tt; openings = λ s o. absurd o; sure = tt }))

  pub new_pair_owned : (pair : PlainPair N) → IsNewPair draws pair → (at : Side)
      → IsOwned c (rtc_at at pair).core.channels (rtc_at at pair).core.sctp.entries
  new_pair_owned pair h Left = new_owned pair.left h.left
  new_pair_owned pair h Right = new_owned pair.right h.right
