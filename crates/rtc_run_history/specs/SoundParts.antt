-- What an entry of a run says of the parts of its pair.
use Rattle.std.specs.Prelude.{◌≡◌, ◌≤◌, ℕ, Bool, true, false}
use Rattle.rtc_io.specs.Faults.{Rose}
use Rattle.rtc_parts.specs.MediaLaws.{SameLines}
use Rattle.rtc_peer_core.specs.declared.peer.Peer.{Peer}
use Rattle.rtc_peer_core.specs.Meanings.{Meanings}
use Rattle.rtc_run_history.specs.declared.side.Side.{Side}
use Rattle.rtc_run_history.specs.declared.step.Step.{Step}
use Rattle.rtc_run_history.specs.declared.step.Step.TheVariants.{Negotiate, AcceptOffer, AcceptAnswer, Time, Datagram, Poll, Drain}
use Rattle.rtc_run_history.specs.declared.step.Step.TheVariants.{Write, CloseChannel, Close, Rollback, ForeignOffer, ForeignAnswer, Raw}
use Rattle.rtc_run_history.specs.declared.outcome.Outcome.{Outcome}
use Rattle.rtc_run_history.specs.declared.outcome.Outcome.TheVariants.{Negotiated, Answered, Finished, Done, Wrote, Polled, Refused}
use Rattle.rtc_run_history.specs.declared.outcome.Outcome.TheVariants.{NoSuch, Alloc}
use Rattle.rtc_run_history.specs.Memory.{CountedPart, DtlsPart, AssociationPart, MediaPart, tells_fault_of}
use Rattle.rtc_run_history.specs.Past.{Entry}
use Rattle.rtc_run_history.specs.PairState.{PairState, peer_at}
use Rattle.rtc_run_history.specs.Sides.{side_of}

-- whether an outcome reports that a peer refused
abbrev pub tells_refusal : {E : Type 0} → Outcome E → Bool
tells_refusal (Negotiated answers made) = false
tells_refusal (Answered k) = false
tells_refusal Finished = false
tells_refusal Done = false
tells_refusal (Wrote taken) = false
tells_refusal (Polled outputs end) = false
tells_refusal (Refused error) = true
tells_refusal NoSuch = false
tells_refusal Alloc = false

-- whether a step reports that a peer refused an offer, an answer or a token
abbrev pub refuses_sdp : {E : Type 0} → Step → Outcome E → Bool
refuses_sdp (Negotiate at ops apply) outcome = false
refuses_sdp (AcceptOffer at offer) outcome = tells_refusal outcome
refuses_sdp (AcceptAnswer at token answer) outcome = tells_refusal outcome
refuses_sdp (Time at now) outcome = false
refuses_sdp (Datagram at packet now) outcome = false
refuses_sdp (Poll at) outcome = false
refuses_sdp (Drain at) outcome = false
refuses_sdp (Write at channel binary bytes) outcome = false
refuses_sdp (CloseChannel at channel) outcome = false
refuses_sdp (Close at) outcome = false
refuses_sdp (Rollback at token) outcome = tells_refusal outcome
refuses_sdp (ForeignOffer at text) outcome = tells_refusal outcome
refuses_sdp (ForeignAnswer at token text) outcome = tells_refusal outcome
refuses_sdp (Raw at bytes now) outcome = false

module _ {I D S M E X T W N : Type 0} (m : Meanings I D S M E X T W N) where
  -- how often this part of a peer failed
  abbrev pub faults_of : CountedPart → Peer I D S M N → ℕ
  faults_of DtlsPart p = m.dtls.faults p.dtls.instance
  faults_of AssociationPart p = m.association.faults p.sctp.association
  faults_of MediaPart p = m.media.faults p.media

  abbrev pub faults_at : CountedPart → Side → PairState I D S M N → ℕ
  faults_at part at pair = faults_of part (peer_at at pair)

  -- this part of a side failed between two pairs
  abbrev pub CountsFault : CountedPart → Side → PairState I D S M N → PairState I D S M N → Type 0
  CountsFault part at before after = Rose (faults_at part at before) (faults_at part at after)

  -- No count of faults falls, and a reply reports a fault only if that part of the acting side failed in this step. A side that refuses an
  -- offer, an answer or a token, for whatever cause, leaves the lines of its media part, and the SSRCs that are in use.
  pub record IsSoundOfParts (between : PairState I D S M N) (entry : Entry E) (after : PairState I D S M N) : Type 0 where
    pub later : (part : CountedPart) (at : Side) → faults_at part at between ≤ faults_at part at after
    pub fault : (part : CountedPart) → tells_fault_of entry.outcome part ≡ true → CountsFault part (side_of entry.step) between after
    pub media : refuses_sdp entry.step entry.outcome ≡ true
        → SameLines m.media (peer_at (side_of entry.step) between).media (peer_at (side_of entry.step) after).media
