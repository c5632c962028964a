-- In runs of new pairs nothing stands unread at a side before its association is started, and a handshake that is finished has its role.
use Rattle.std.proofs.Common.{◌≡◌, ◌∙◌, ◌⊎◌, inl, inr, ℕ, Bool, true, false, true≢false, List, [], ◌∷◌, refl, sym, ap, subst}
use Rattle.std.specs.Prelude.{is_some}
use Rattle.rtc_parts.specs.AssociationActs.{Stirred, LimitsSet}
use Rattle.rtc_parts.specs.Draws.{Draws}
use Rattle.rtc_parts.specs.Why.{Other}
use Rattle.rtc_assoc_state.specs.Contents.{Contents, fresh_contents, has_unread, is_started}
use Rattle.rtc_plain_dtls.specs.Contents.{DtlsContents, phase_is_finished}
use Rattle.rtc_plain_ice.specs.Contents.{IceContents}
use Rattle.rtc_plain_media.specs.MediaContents.{MediaContents}
use Rattle.rtc_plain_media.specs.declared.plain_media_event.PlainMediaEvent.{PlainMediaEvent}
use Rattle.rtc_sctp.specs.Streams.{SctpStreams}
use Rattle.rtc_sctp_laws.proofs.BackedRows.{plain_unread}
use Rattle.rtc_peer_core.specs.Built.{payload_of_mtu}
use Rattle.rtc_peer_core.specs.declared.peer.Peer.{Peer}
use Rattle.rtc_peer_core.specs.declared.phase.Phase.TheVariants.{Closed}
use Rattle.rtc_assoc_state.specs.PlainMeaning.{plain_meaning}
use Rattle.rtc_peer_laws.specs.RowsChanged.{RowsChanged}
use Rattle.rtc_run_history.specs.declared.side.Side.{Side}
use Rattle.rtc_run_history.specs.declared.side.Side.TheVariants.{Left, Right}
use Rattle.rtc_run_history.specs.Native.{are_native}
use Rattle.rtc_run_history.specs.PairState.{rtc_at}
use Rattle.rtc_run_history.specs.Past.{Entry, steps_of}
use Rattle.rtc_run_history.specs.Runs.{Reached}
use Rattle.rtc_run_laws.specs.NewPairs.{IsNewPair, IsNewPeer}
use Rattle.rtc_run_laws.specs.PlainPairs.{PlainPair, PlainPolled, plain_over}
use Rattle.rtc_run_laws.proofs.ConfirmedRuns.{last_rows}
use Rattle.rtc_run_laws.proofs.ConnectedRuns.{exchanged_active}
use Rattle.rtc_run_laws.proofs.NativeSteps.{native_entry}
use Rattle.rtc_run_laws.proofs.NewPeers.{new_exchanged}
use Rattle.rtc_run_laws.proofs.QuietActs.{Unraised}
use Rattle.rtc_run_laws.proofs.RunsExchange.{reached_exchanged}
use Rattle.rtc_run_laws.proofs.StepRows.{StepChanges, changes_closed}
use Rattle.rtc_run_laws.proofs.StepsExchange.{plain_over_laws}
use Rattle.rtc_run_laws.proofs.UnestablishedRows.{Unestablishes, rows_unestablish, unstarted_first}

-- nothing stands unread before a start
abbrev pub IsFresh : SctpStreams Contents → Type 0
IsFresh p = is_started p.association ≡ false → (s g : ℕ) → has_unread p.association s g ≡ false

none_raised : (a b : Contents) (s g : ℕ) → Unraised a b → has_unread a s g ≡ false → has_unread b s g ≡ false
none_raised a b s g raised none = by (has_unread b s g) refl
  where
    by : (x : Bool) → has_unread b s g ≡ x → x ≡ false
    by true e = absurd (true≢false (sym (raised s g e) ∙ none))
    by false e = refl

fresh_on : (p q : SctpStreams Contents) → Unestablishes p q → IsFresh p → IsFresh q
fresh_on p q h k = λ e s g. none_raised p.association q.association s g (h.fresh e) (k (unstarted_first p q h.started e) s g)

-- unless the peer is closed
abbrev pub SideFresh : {N : Type 0} → PlainPolled N → Type 0
SideFresh p = (p.core.phase ≡ Closed) ⊎ IsFresh p.core.sctp

-- and a finished handshake has its role
pub record IsReady {N : Type 0} (p : PlainPolled N) : Type 0 where
  pub fresh : SideFresh p
  pub active : phase_is_finished p.core.dtls.instance.phase ≡ true → is_some p.core.dtls.active ≡ true

module _ {N : Type 0} (draws : Draws N) where
  side_on : (p q : PlainPolled N) → StepChanges (plain_over draws) p q → SideFresh p → SideFresh q
  side_on p q h (inl closed) = inl (changes_closed (plain_over draws) p q h closed)
  side_on p q (inr h) (inr fresh) = inr (subst (λ (x : SctpStreams Contents). IsFresh x) (sym h.sctp) fresh)
  side_on p q (inl h) (inr fresh) = by h.changed
    where
      by : (q.core.phase ≡ Closed) ⊎ RowsChanged plain_meaning p.core.channels p.core.sctp q.core.channels q.core.sctp → SideFresh q
      by (inl closed) = inl closed
      by (inr changed) =
          inr (fresh_on p.core.sctp q.core.sctp (rows_unestablish p.core.channels p.core.sctp q.core.channels q.core.sctp changed) fresh)

  new_fresh : (p : PlainPolled N) → IsNewPeer draws p.core → IsFresh p.core.sctp
  new_fresh p h = λ e s g. by s g (has_unread p.core.sctp.association s g) refl
    where
      sctp : p.core.sctp ≡ h.built.sctp
      sctp = ap (λ (x : Peer IceContents DtlsContents Contents MediaContents N). x.sctp) h.rest

      none : (s g : ℕ) → has_unread p.core.sctp.association s g ≡ true → ⊥
      none s g stands =
          true≢false
          (sym
          (plain_unread.fewer fresh_contents h.built.sctp.association (Stirred Other) refl (LimitsSet (payload_of_mtu h.config.mtu.0) h.config.sctp.max_message_size h.by_build.by_limits)
          s g (ap (λ (x : SctpStreams Contents). has_unread x.association s g) (sym sctp) ∙ stands)))

      by : (s g : ℕ) (x : Bool) → has_unread p.core.sctp.association s g ≡ x → x ≡ false
      by s g true stands = absurd (none s g stands)
      by s g false stands = refl

  new_side : (pair : PlainPair N) → IsNewPair draws pair → (at : Side) → SideFresh (rtc_at at pair)
  new_side pair h Left = inr (new_fresh pair.left h.left)
  new_side pair h Right = inr (new_fresh pair.right h.right)

  module _ (stun : List ℕ → Bool) (start : PlainPair N) (new : IsNewPair draws start) where
    run_fresh : (past : List (Entry PlainMediaEvent)) (pair : PlainPair N) → are_native (steps_of past) ≡ true
        → Reached (plain_over draws) stun start past pair → (at : Side) → SideFresh (rtc_at at pair)
    run_fresh [] pair go ran at = subst (λ (x : PlainPair N). SideFresh (rtc_at at x)) (sym ran) (new_side start new at)
    run_fresh (entry ∷ past) pair go ran at =
        side_on (rtc_at at ran.0) (rtc_at at pair) (last_rows (plain_over draws) (plain_over_laws draws) stun start entry past pair go ran at)
        (run_fresh past ran.0 (native_entry entry past go).0 ran.1 at)

    pub run_ready : (past : List (Entry PlainMediaEvent)) (pair : PlainPair N) → are_native (steps_of past) ≡ true
        → Reached (plain_over draws) stun start past pair → (at : Side) → IsReady (rtc_at at pair)
    run_ready past pair go ran at = record {
      fresh = run_fresh past pair go ran at;
      active = λ finished. exchanged_active draws pair (reached_exchanged draws stun start past pair go ran (new_exchanged draws start new)) at finished;
    }
