-- A new pair has no stream in use, and has started no association.
use Rattle.std.proofs.Common.{◌≡◌, ◌∙◌, ap, false, true≢false, refl, sym}
use Rattle.rtc_parts.specs.AssociationActs.{LimitsSet, Stirred}
use Rattle.rtc_parts.specs.Why.{Other}
use Rattle.rtc_assoc_state.proofs.PlainLaws.{plain_laws}
use Rattle.rtc_assoc_state.specs.Contents.{Contents, fresh_contents, is_started}
use Rattle.rtc_plain_dtls.specs.Contents.{DtlsContents}
use Rattle.rtc_plain_ice.specs.Contents.{IceContents}
use Rattle.rtc_plain_media.specs.MediaContents.{MediaContents}
use Rattle.rtc_parts.specs.Draws.{Draws}
use Rattle.rtc_sctp.specs.Streams.{SctpStreams}
use Rattle.rtc_peer_core.specs.Built.{payload_of_mtu}
use Rattle.rtc_peer_core.specs.declared.peer.Peer.{Peer}
use Rattle.rtc_run_history.specs.declared.side.Side.TheVariants.{Left, Right}
use Rattle.rtc_run_laws.proofs.EmptyStreams.{AreUnused}
use Rattle.rtc_run_laws.proofs.UnusedStreams.{IsUnused}
use Rattle.rtc_run_laws.specs.NewPairs.{IsNewPair, IsNewPeer}
use Rattle.rtc_run_laws.specs.PlainPairs.{PlainPair, PlainPolled, plain_over}
use Rattle.rtc_run_laws.proofs.StepsExchange.{plain_over_laws}
use Rattle.rtc_run_laws.proofs.NewPeers.{new_entries}

module _ {N : Type 0} (draws : Draws N) where
  new_streams : (p : PlainPolled N) (h : IsNewPeer draws p.core) → p.core.sctp ≡ h.built.sctp
  new_streams p h = ap (λ (x : Peer IceContents DtlsContents Contents MediaContents N). x.sctp) h.rest

  pub new_unstarted : (p : PlainPolled N) → IsNewPeer draws p.core → is_started p.core.sctp.association ≡ false
  new_unstarted p h =
      ap (λ (x : SctpStreams Contents). is_started x.association) (new_streams p h)
      ∙ (plain_laws.same_start fresh_contents h.built.sctp.association (Stirred Other) refl
      (LimitsSet (payload_of_mtu h.config.mtu.0) h.config.sctp.max_message_size h.by_build.by_limits)).0

  new_empty : (p : PlainPolled N) → IsNewPeer draws p.core → IsUnused (plain_over draws) (plain_over_laws draws) p.core
  new_empty p h = record {
    empty = λ unstarted. new_entries draws p h;
    role = λ started. absurd (true≢false (sym started ∙ new_unstarted p h));
  }

  pub new_unused : (pair : PlainPair N) → IsNewPair draws pair → AreUnused (plain_over draws) (plain_over_laws draws) pair
  new_unused pair h Left = new_empty pair.left h.left
  new_unused pair h Right = new_empty pair.right h.right
