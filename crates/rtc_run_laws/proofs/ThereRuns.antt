-- In runs of new pairs each stream that is there has an entry past its opening, or is held.
use Rattle.std.proofs.Common.{◌≡◌, ◌⊎◌, inl, inr, ℕ, Bool, true, true≢false, List, [], ◌∷◌, refl, sym, ap, subst}
use Rattle.rtc_parts.specs.AssociationActs.{Stirred, LimitsSet}
use Rattle.rtc_parts.specs.Why.{Other}
use Rattle.rtc_assoc_state.specs.Contents.{Contents, fresh_contents}
use Rattle.rtc_assoc_state.specs.PlainMeaning.{plain_meaning}
use Rattle.rtc_assoc_state.proofs.PlainLaws.{plain_laws}
use Rattle.rtc_parts.specs.Draws.{Draws}
use Rattle.rtc_plain_dtls.specs.Contents.{DtlsContents}
use Rattle.rtc_plain_ice.specs.Contents.{IceContents}
use Rattle.rtc_plain_media.specs.MediaContents.{MediaContents}
use Rattle.rtc_sctp_laws.proofs.HeldActs.{IsKeptIf, plain_keeping}
use Rattle.rtc_sctp_laws.proofs.ThereStreams.{AreBegunStreams, KeepingLaws, fine_on, goes_act}
use Rattle.rtc_sctp_laws.proofs.PlainGenerations.{plain_generations}
use Rattle.rtc_peer_core.specs.Built.{payload_of_mtu}
use Rattle.rtc_peer_core.specs.declared.peer.Peer.{Peer}
use Rattle.rtc_peer_core.specs.declared.phase.Phase.TheVariants.{Closed}
use Rattle.rtc_peer_core.specs.Meanings.{Meanings, PartsLaws}
use Rattle.rtc_peer_transport.specs.declared.polled_peer.PolledPeer.{PolledPeer}
use Rattle.rtc_peer_laws.specs.RowsChanged.{RowsChanged}
use Rattle.rtc_sctp.specs.Streams.{SctpStreams}
use Rattle.rtc_sctp_laws.specs.GenerationLaws.{GenerationLaws}
use Rattle.rtc_run_history.specs.declared.side.Side.{Side}
use Rattle.rtc_run_history.specs.declared.side.Side.TheVariants.{Left, Right}
use Rattle.rtc_run_history.specs.Native.{are_native}
use Rattle.rtc_run_history.specs.PairState.{PairState, rtc_at}
use Rattle.rtc_run_history.specs.Past.{Entry, steps_of}
use Rattle.rtc_run_history.specs.Runs.{Reached}
use Rattle.rtc_run_laws.specs.NewPairs.{IsNewPair, IsNewPeer}
use Rattle.rtc_run_laws.specs.PlainPairs.{PlainPair, PlainPolled, plain_over}
use Rattle.rtc_run_laws.proofs.StepsExchange.{plain_over_laws}
use Rattle.rtc_run_laws.proofs.ConfirmedRuns.{last_rows}
use Rattle.rtc_run_laws.proofs.ThereRows.{rows_there}
use Rattle.rtc_run_laws.proofs.StepRows.{StepChanges, changes_closed}
use Rattle.rtc_run_laws.proofs.NativeSteps.{native_entry}

module _ {I D S M E X T W N : Type 0} (m : Meanings I D S M E X T W N) (laws : PartsLaws m) (v : GenerationLaws m.association)
    (keeps : S → ℕ → Type 0) (u : KeepingLaws m.association keeps) where
  -- unless the peer is closed
  abbrev pub SideThere : PolledPeer I D S M N → Type 0
  SideThere p = (p.core.phase ≡ Closed) ⊎ AreBegunStreams m.association keeps p.core.sctp

  there_on : (p q : PolledPeer I D S M N) → StepChanges m p q → SideThere p → SideThere q
  there_on p q h (inl closed) = inl (changes_closed m p q h closed)
  there_on p q (inr h) (inr begun) = inr (subst (λ (x : SctpStreams S). AreBegunStreams m.association keeps x) (sym h.sctp) begun)
  there_on p q (inl h) (inr begun) = by h.changed
    where
      by : (q.core.phase ≡ Closed) ⊎ RowsChanged m.association p.core.channels p.core.sctp q.core.channels q.core.sctp → SideThere q
      by (inl closed) = inl closed
      by (inr changed) = inr (rows_there m.association laws.association v keeps u p.core.channels p.core.sctp q.core.channels q.core.sctp changed begun)

  pub run_there : (stun : List ℕ → Bool) (start : PairState I D S M N) (past : List (Entry E)) (pair : PairState I D S M N)
      → are_native (steps_of past) ≡ true → Reached m stun start past pair → ((at : Side) → SideThere (rtc_at at start)) → (at : Side) → SideThere (rtc_at at pair)
  run_there stun start [] pair go ran h at = subst (λ (x : PairState I D S M N). SideThere (rtc_at at x)) (sym ran) (h at)
  run_there stun start (entry ∷ past) pair go ran h at =
      there_on (rtc_at at ran.0) (rtc_at at pair) (last_rows m laws stun start entry past pair go ran at) (run_there stun start past ran.0 (native_entry entry past go).0 ran.1 h at)

-- ---- new peers

module _ {N : Type 0} (draws : Draws N) where
  pub new_there : (p : PlainPolled N) → IsNewPeer draws p.core → AreBegunStreams plain_meaning IsKeptIf p.core.sctp
  new_there p h = subst (λ (x : SctpStreams Contents). AreBegunStreams plain_meaning IsKeptIf x) (sym sctp) built
    where
      sctp : p.core.sctp ≡ h.built.sctp
      sctp = ap (λ (x : Peer IceContents DtlsContents Contents MediaContents N). x.sctp) h.rest

      built : AreBegunStreams plain_meaning IsKeptIf h.built.sctp
      built s =
          inr
          (fine_on plain_meaning IsKeptIf s fresh_contents h.built.sctp.association
          (goes_act plain_meaning IsKeptIf plain_laws plain_generations plain_keeping s fresh_contents h.built.sctp.association (Stirred Other)
          (LimitsSet (payload_of_mtu h.config.mtu.0) h.config.sctp.max_message_size h.by_build.by_limits) refl)
          (λ there. absurd (true≢false (sym there))))

  pub new_pair_there : (pair : PlainPair N) → IsNewPair draws pair → (at : Side)
      → SideThere (plain_over draws) (plain_over_laws draws) plain_generations IsKeptIf plain_keeping (rtc_at at pair)
  new_pair_there pair h Left = inr (new_there pair.left h.left)
  new_pair_there pair h Right = inr (new_there pair.right h.right)
