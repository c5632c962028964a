-- In a settled pair one side started its association as the client, and the other one as the server: each has the side that its DTLS role gives,
-- and a handshake that is finished is one of both roles.
use Rattle.std.proofs.Common.{◌≡◌, ◌∙◌, ◌⊎◌, inl, inr, ℕ, Bool, true, false, true≢false, List, [], ◌∷◌, Some, None, refl, sym, ap, subst}
use Rattle.std.specs.Prelude.{is_some, ◌&&◌}
use Rattle.rtc_parts.specs.DtlsActs.{DtlsMoved}
use Rattle.rtc_parts.specs.DtlsState.{can_send}
use Rattle.rtc_parts.specs.DtlsWords.{dtls_given}
use Rattle.rtc_plain_dtls.specs.Contents.{fresh_dtls, phase_is_finished}
use Rattle.rtc_plain_dtls.specs.PlainMeaning.{plain_dtls}
use Rattle.rtc_assoc_state.specs.PlainMeaning.{plain_meaning}
use Rattle.rtc_parts.specs.Draws.{Draws}
use Rattle.rtc_plain_media.specs.declared.plain_media_event.PlainMediaEvent.{PlainMediaEvent}
use Rattle.rtc_sctp.specs.Streams.{SctpStreams}
use Rattle.rtc_peer_core.specs.declared.phase.Phase.TheVariants.{Closed}
use Rattle.rtc_peer_core.specs.Meanings.{Meanings, PartsLaws}
use Rattle.rtc_peer_transport.specs.declared.polled_peer.PolledPeer.{PolledPeer}
use Rattle.rtc_peer_laws.specs.PeerActs.{PeerActs, dtls_roles, roles_after}
use Rattle.rtc_peer_laws.specs.RowsChanged.{RowsChanged}
use Rattle.rtc_run_history.specs.declared.side.Side.{Side}
use Rattle.rtc_run_history.specs.declared.side.Side.TheVariants.{Left, Right}
use Rattle.rtc_run_history.specs.Native.{are_native}
use Rattle.rtc_run_history.specs.PairState.{PairState, rtc_at}
use Rattle.rtc_run_history.specs.Past.{Entry, steps_of}
use Rattle.rtc_run_history.specs.Performs.{Enters}
use Rattle.rtc_run_history.specs.Runs.{Reached}
use Rattle.rtc_run_history.specs.Sides.{other_side}
use Rattle.rtc_run_laws.proofs.EmptyStreams.{AreUnused, went_unused}
use Rattle.rtc_run_laws.proofs.RoleStarts.{KeepsRole, enters_role}
use Rattle.rtc_peer_laws.proofs.HandshakeRoles.{moved_role, roles_differ}
use Rattle.rtc_run_laws.specs.NewPairs.{IsNewPair}
use Rattle.rtc_run_laws.specs.PlainPairs.{HasExchanged, PlainPair, PlainPolled, ShookHands, plain_over}
use Rattle.rtc_run_laws.proofs.NewPeers.{new_exchanged}
use Rattle.rtc_run_laws.proofs.RunsExchange.{reached_exchanged}
use Rattle.rtc_run_laws.proofs.StepsExchange.{plain_over_laws}
use Rattle.rtc_sctp_laws.proofs.BackedRows.{plain_sound, plain_unread}
use Rattle.rtc_sctp_laws.proofs.KnownStreams.{AreKnown}
use Rattle.rtc_sctp_laws.proofs.PlainGenerations.{plain_generations}
use Rattle.rtc_run_laws.specs.SettledPairs.{AreOnSides, IsSettledPair, IsSettledPeer}
use Rattle.rtc_run_laws.proofs.ConfirmedRuns.{last_rows}
use Rattle.rtc_run_laws.proofs.UnusedPairs.{new_unstarted, new_unused}
use Rattle.rtc_run_laws.proofs.KnownRuns.{SideKnown, new_pair_known, run_known}
use Rattle.rtc_run_laws.proofs.OpenSides.{not_closed}
use Rattle.rtc_run_laws.proofs.SideChanges.{changed_side}
use Rattle.rtc_run_laws.proofs.StepRows.{StepChanges, changes_closed}
use Rattle.rtc_run_laws.proofs.NativeSteps.{native_entry}

module _ {I D S M E X T W N : Type 0} (m : Meanings I D S M E X T W N) (laws : PartsLaws m) where
  -- an association that is started has the side of the DTLS role
  abbrev pub HasRole : PolledPeer I D S M N → Type 0
  HasRole p = m.association.started p.core.sctp.association ≡ true → p.core.dtls.active ≡ Some p.core.sctp.client

  step_role : (p q : PolledPeer I D S M N) → KeepsRole m laws p.core q.core → StepChanges m p q → (q.core.phase ≡ Closed → ⊥)
      → (m.association.started p.core.sctp.association ≡ true → is_some p.core.dtls.active ≡ true) → HasRole p → HasRole q
  step_role p q keeps rows lives some has after = by (m.association.started p.core.sctp.association) refl
    where
      changed : m.association.started p.core.sctp.association ≡ true
          → (q.core.phase ≡ Closed) ⊎ RowsChanged m.association p.core.channels p.core.sctp q.core.channels q.core.sctp
          → q.core.sctp.client ≡ p.core.sctp.client
      changed is (inl closed) = absurd (lives closed)
      changed is (inr change) =
          (changed_side m.association laws.association p.core.channels p.core.sctp q.core.channels q.core.sctp change).side is

      stays : m.association.started p.core.sctp.association ≡ true → StepChanges m p q → q.core.sctp.client ≡ p.core.sctp.client
      stays is (inl rows) = changed is rows.changed
      stays is (inr rows) = ap (λ (x : SctpStreams S). x.client) rows.sctp

      by : (started : Bool) → m.association.started p.core.sctp.association ≡ started → q.core.dtls.active ≡ Some q.core.sctp.client
      by true is = keeps.stays (some is) ∙ has is ∙ ap (λ (b : Bool). Some b) (sym (stays is rows))
      by false is = keeps.starts is after

  pub run_role : (stun : List ℕ → Bool) (start : PairState I D S M N) (past : List (Entry E)) (pair : PairState I D S M N)
      → are_native (steps_of past) ≡ true → Reached m stun start past pair → AreUnused m laws start → ((at : Side) → HasRole (rtc_at at start))
      → (at : Side) → ((rtc_at at pair).core.phase ≡ Closed → ⊥) → HasRole (rtc_at at pair)
  run_role stun start [] pair go ran unused has at lives = subst (λ (x : PairState I D S M N). HasRole (rtc_at at x)) (sym ran) (has at)
  run_role stun start (entry ∷ past) pair go ran unused has at lives =
      let rows = last_rows m laws stun start entry past pair go ran at in
      step_role (rtc_at at ran.0) (rtc_at at pair) (enters_role m laws stun ran.0 entry pair ran.2 at) rows lives
      (went_unused m laws (λ earlier between one after. Enters m stun between one after) (λ earlier between one after enters. (stun, enters)) start past
      ran.0 unused ran.1 at).role
      (run_role stun start past ran.0 (native_entry entry past go).0 ran.1 unused has at (λ closed. lives (changes_closed m (rtc_at at ran.0) (rtc_at at pair) rows closed)))

-- ---- the exchange of a pair

-- a part that can send has finished its handshake
finished_sends : (some finished : Bool) → (some && finished) ≡ true → finished ≡ true
finished_sends true finished is = is
finished_sends false finished is = absurd (true≢false (sym is))

-- so the roles of both are not the same
sides_part : {N : Type 0} (a b : PeerActs) (p q : PlainPolled N) → DtlsMoved plain_dtls fresh_dtls a.dtls p.core.dtls.instance
    → DtlsMoved plain_dtls fresh_dtls b.dtls q.core.dtls.instance → ShookHands a p b → q.core.dtls.active ≡ roles_after None (dtls_roles b.dtls)
    → can_send plain_dtls p.core.dtls ≡ true → p.core.dtls.active ≡ Some p.core.sctp.client → q.core.dtls.active ≡ Some q.core.sctp.client
    → q.core.sctp.client ≡ p.core.sctp.client → ⊥
sides_part a b p q here there hands role sends own other same =
    roles_differ a.dtls b.dtls p.core.dtls.instance q.core.dtls.instance here there hands.crosses
    (finished_sends (is_some p.core.dtls.active) (phase_is_finished p.core.dtls.instance.phase) sends)
    (moved_role (dtls_given b.dtls) b.dtls fresh_dtls q.core.dtls.instance there (λ x m. m)
    ∙ sym role ∙ other ∙ ap (λ (c : Bool). Some c) same ∙ sym own ∙ hands.role
    ∙ sym (moved_role (dtls_given a.dtls) a.dtls fresh_dtls p.core.dtls.instance here (λ x m. m)))

module _ {N : Type 0} (draws : Draws N) (stun : List ℕ → Bool) (start : PlainPair N) (past : List (Entry PlainMediaEvent)) (pair : PlainPair N)
    (go : are_native (steps_of past) ≡ true) (ran : Reached (plain_over draws) stun start past pair) (new : IsNewPair draws start) where
  new_role : (at : Side) → HasRole (plain_over draws) (plain_over_laws draws) (rtc_at at start)
  new_role Left = λ started. absurd (true≢false (sym started ∙ new_unstarted draws start.left new.left))
  new_role Right = λ started. absurd (true≢false (sym started ∙ new_unstarted draws start.right new.right))

  -- an association that is established was started
  known_at : (at : Side) → IsSettledPeer (rtc_at at pair) → AreKnown plain_meaning plain_sound (rtc_at at pair).core.sctp
  known_at at settled =
      by (run_known (plain_over draws) (plain_over_laws draws) plain_sound plain_generations plain_unread stun start past pair go ran (new_pair_known draws start new) at)
    where
      by : SideKnown (plain_over draws) (plain_over_laws draws) plain_sound plain_generations plain_unread (rtc_at at pair)
          → AreKnown plain_meaning plain_sound (rtc_at at pair).core.sctp
      by (inl closed) = absurd (not_closed draws (rtc_at at pair) settled.alive closed)
      by (inr known) = known

  pub role_at : (at : Side) → IsSettledPeer (rtc_at at pair) → (rtc_at at pair).core.dtls.active ≡ Some (rtc_at at pair).core.sctp.client
  role_at at settled =
      run_role (plain_over draws) (plain_over_laws draws) stun start past pair go ran (new_unused draws start new) new_role at
      (λ closed. not_closed draws (rtc_at at pair) settled.alive closed)
      ((known_at at settled).begun settled.established)

  -- One side of a settled pair is the client, and the other one the server.
  pub settled_sides : IsSettledPair past pair → (at : Side) → AreOnSides (rtc_at at pair) (rtc_at (other_side at) pair)
  settled_sides settled = by
    where
      exchanged : HasExchanged pair
      exchanged = reached_exchanged draws stun start past pair go ran (new_exchanged draws start new)

      by : (at : Side) → AreOnSides (rtc_at at pair) (rtc_at (other_side at) pair)
      by Left = λ same.
          sides_part exchanged.acts.left exchanged.acts.right pair.left pair.right exchanged.exchange.joined.left_dtls
          exchanged.exchange.joined.right_dtls exchanged.hands.left exchanged.hands.right.role (settled.peers Left).sends
          (role_at Left (settled.peers Left)) (role_at Right (settled.peers Right)) same
      by Right = λ same.
          sides_part exchanged.acts.right exchanged.acts.left pair.right pair.left exchanged.exchange.joined.right_dtls
          exchanged.exchange.joined.left_dtls exchanged.hands.right exchanged.hands.left.role (settled.peers Right).sends
          (role_at Right (settled.peers Right)) (role_at Left (settled.peers Left)) same
