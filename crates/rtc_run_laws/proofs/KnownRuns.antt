-- In runs of new pairs each stream of which a message stands unread has an entry, or is to be told of; and what is established is started.
use Rattle.std.proofs.Common.{◌≡◌, ◌∙◌, ◌⊎◌, inl, inr, ℕ, Bool, true, false, true≢false, List, [], ◌∷◌, refl, sym, ap, subst}
use Rattle.rtc_parts.specs.AssociationActs.{Stirred, LimitsSet}
use Rattle.rtc_parts.specs.Why.{Other}
use Rattle.rtc_assoc_state.specs.Contents.{Contents, fresh_contents}
use Rattle.rtc_assoc_state.specs.PlainMeaning.{plain_meaning}
use Rattle.rtc_parts.specs.Draws.{Draws}
use Rattle.rtc_plain_dtls.specs.Contents.{DtlsContents}
use Rattle.rtc_plain_ice.specs.Contents.{IceContents}
use Rattle.rtc_plain_media.specs.MediaContents.{MediaContents}
use Rattle.rtc_sctp_laws.proofs.BackedRows.{plain_sound, plain_unread}
use Rattle.rtc_sctp_laws.proofs.KnownStreams.{AreKnown, UnreadLaws}
use Rattle.rtc_sctp_laws.proofs.PlainGenerations.{plain_generations}
use Rattle.rtc_peer_core.specs.Built.{payload_of_mtu}
use Rattle.rtc_peer_core.specs.declared.peer.Peer.{Peer}
use Rattle.rtc_peer_core.specs.declared.phase.Phase.TheVariants.{Closed}
use Rattle.rtc_peer_core.specs.Meanings.{Meanings, PartsLaws}
use Rattle.rtc_peer_transport.specs.declared.polled_peer.PolledPeer.{PolledPeer}
use Rattle.rtc_peer_laws.specs.RowsChanged.{RowsChanged}
use Rattle.rtc_sctp.specs.Streams.{SctpStreams, is_established}
use Rattle.rtc_sctp_laws.specs.GenerationLaws.{GenerationLaws}
use Rattle.rtc_run_history.specs.declared.side.Side.{Side}
use Rattle.rtc_run_history.specs.declared.side.Side.TheVariants.{Left, Right}
use Rattle.rtc_run_history.specs.Native.{are_native}
use Rattle.rtc_run_history.specs.PairState.{PairState, rtc_at}
use Rattle.rtc_run_history.specs.Past.{Entry, steps_of}
use Rattle.rtc_run_history.specs.Runs.{Reached}
use Rattle.rtc_run_laws.specs.NewPairs.{IsNewPair, IsNewPeer}
use Rattle.rtc_run_laws.specs.PlainPairs.{PlainPair, PlainPolled, plain_over}
use Rattle.rtc_run_laws.proofs.StepsExchange.{plain_over_laws}
use Rattle.rtc_run_laws.proofs.ConfirmedRuns.{last_rows}
use Rattle.rtc_run_laws.proofs.KnownRows.{rows_known}
use Rattle.rtc_run_laws.proofs.StepRows.{StepChanges, changes_closed}
use Rattle.rtc_run_laws.proofs.NativeSteps.{native_entry}

module _ {I D S M E X T W N : Type 0} (m : Meanings I D S M E X T W N) (laws : PartsLaws m) (sound : S → Type 0) (v : GenerationLaws m.association)
    (u : UnreadLaws m.association sound) where
  -- unless the peer is closed
  abbrev pub SideKnown : PolledPeer I D S M N → Type 0
  SideKnown p = (p.core.phase ≡ Closed) ⊎ AreKnown m.association sound p.core.sctp

  known_on : (p q : PolledPeer I D S M N) → StepChanges m p q → SideKnown p → SideKnown q
  known_on p q h (inl closed) = inl (changes_closed m p q h closed)
  known_on p q (inr h) (inr known) = inr (subst (λ (x : SctpStreams S). AreKnown m.association sound x) (sym h.sctp) known)
  known_on p q (inl h) (inr known) = by h.changed
    where
      by : (q.core.phase ≡ Closed) ⊎ RowsChanged m.association p.core.channels p.core.sctp q.core.channels q.core.sctp → SideKnown q
      by (inl closed) = inl closed
      by (inr changed) = inr (rows_known m.association sound laws.association v u p.core.channels p.core.sctp q.core.channels q.core.sctp changed known)

  pub run_known : (stun : List ℕ → Bool) (start : PairState I D S M N) (past : List (Entry E)) (pair : PairState I D S M N)
      → are_native (steps_of past) ≡ true → Reached m stun start past pair → ((at : Side) → SideKnown (rtc_at at start)) → (at : Side) → SideKnown (rtc_at at pair)
  run_known stun start [] pair go ran h at = subst (λ (x : PairState I D S M N). SideKnown (rtc_at at x)) (sym ran) (h at)
  run_known stun start (entry ∷ past) pair go ran h at =
      known_on (rtc_at at ran.0) (rtc_at at pair) (last_rows m laws stun start entry past pair go ran at) (run_known stun start past ran.0 (native_entry entry past go).0 ran.1 h at)

-- ---- new peers

module _ {N : Type 0} (draws : Draws N) where
  pub new_known : (p : PlainPolled N) → IsNewPeer draws p.core → AreKnown plain_meaning plain_sound p.core.sctp
  new_known p h = subst (λ (x : SctpStreams Contents). AreKnown plain_meaning plain_sound x) (sym sctp) built
    where
      sctp : p.core.sctp ≡ h.built.sctp
      sctp = ap (λ (x : Peer IceContents DtlsContents Contents MediaContents N). x.sctp) h.rest

      none : (s g : ℕ) → plain_meaning.has_unread h.built.sctp.association s g ≡ true → ⊥
      none s g stands =
          true≢false
          (sym
          (plain_unread.fewer fresh_contents h.built.sctp.association (Stirred Other) refl (LimitsSet (payload_of_mtu h.config.mtu.0) h.config.sctp.max_message_size h.by_build.by_limits)
          s g stands))

      unestablished : is_established h.built.sctp.state ≡ false
      unestablished = ap (λ (x : SctpStreams Contents). is_established x.state) h.by_build.streams

      built : AreKnown plain_meaning plain_sound h.built.sctp
      built = record {
        backed = λ ok s g stands. absurd (none s g stands);
        known = λ s ok stands. absurd (none s (plain_meaning.generation h.built.sctp.association s) stands);
        begun = λ e. absurd (true≢false (sym e ∙ unestablished));
      }

  pub new_pair_known : (pair : PlainPair N) → IsNewPair draws pair → (at : Side)
      → SideKnown (plain_over draws) (plain_over_laws draws) plain_sound plain_generations plain_unread (rtc_at at pair)
  new_pair_known pair h Left = inr (new_known pair.left h.left)
  new_pair_known pair h Right = inr (new_known pair.right h.right)
