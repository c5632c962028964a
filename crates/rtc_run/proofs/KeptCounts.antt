-- A step makes one session description (SDP) at most.
use Rattle.std.proofs.Common.{◌≡◌, ◌+◌, ◌≤◌, ◌++◌, ◌∷◌, [], ℕ, Bool, true, false, not, ◌&&◌, List, Option, Some, None, length, refl, ap, arith, length-append, length-set}
use Rattle.std.specs.Prelude.{slice_get}
use Rattle.rtc_change.specs.PendingOffer.{PendingOffer}
use Rattle.rtc_wire.specs.declared.addr.Addr.{Addr}
use Rattle.rtc_peer_core.specs.declared.peer.Peer.{Peer}
use Rattle.rtc_peer_core.specs.Meanings.{Meanings}
use Rattle.rtc_peer_transport.specs.declared.polled_peer.PolledPeer.{PolledPeer}
use Rattle.rtc_run_history.specs.declared.kept.Kept.{Kept}
use Rattle.rtc_run_history.specs.declared.made.Made.{Made}
use Rattle.rtc_run_history.specs.declared.made.Made.TheVariants.{NotAsked, Nothing, Offer, Alloc as MadeAlloc}
use Rattle.rtc_run_history.specs.declared.op.Op.{Op}
use Rattle.rtc_run_history.specs.declared.outcome.Outcome.{Outcome}
use Rattle.rtc_run_history.specs.declared.outcome.Outcome.TheVariants.{Negotiated, Answered, Finished, Done, Refused, NoSuch, Alloc}
use Rattle.rtc_run_history.specs.declared.sent_packet.SentPacket.{SentPacket}
use Rattle.rtc_run_history.specs.declared.side.Side.{Side}
use Rattle.rtc_run_history.specs.declared.step.Step.{Step}
use Rattle.rtc_run_history.specs.declared.step.Step.TheVariants.{Negotiate, AcceptOffer, AcceptAnswer, Time, Datagram, Poll, Drain}
use Rattle.rtc_run_history.specs.declared.step.Step.TheVariants.{Write, CloseChannel, Close, Rollback, ForeignOffer, ForeignAnswer, Raw}
use Rattle.rtc_run_history.specs.declared.table.Table.{Table}
use Rattle.rtc_run_history.specs.Memory.{answers_lack}
use Rattle.rtc_run_history.specs.PairState.{held_token, kept_remote_sdp, spent}
use Rattle.rtc_run_history.specs.Performs.{Acts, MakesOf, Negotiates, kept_offer}
use Rattle.rtc_run_history.specs.Sizes.{step_size}
use Rattle.rtc_run_history.specs.Signalled.{Signalled, NotMade, Unreadable, Readable, foreign}
use Rattle.rtc_run_history.specs.StepAcceptances.{StepAcceptsAnswer, StepAcceptsOffer, StepRollsBack, kept_answer}

abbrev IsOneMore : List Kept → List Kept → Type 0
IsOneMore sdps sdps' = length sdps' ≤ length sdps + 1

same_count : (sdps sdps' : List Kept) → sdps' ≡ sdps → IsOneMore sdps sdps'
same_count sdps sdps' is = omega (arith, ap length is)

one_more : (sdps sdps' : List Kept) (kept : Kept) → sdps' ≡ sdps ++ kept ∷ [] → IsOneMore sdps sdps'
one_more sdps sdps' kept is = omega (arith, ap length is, length-append sdps (kept ∷ []))

length-spent : (t : ℕ) (kept : List Kept) → length (spent t kept) ≡ length kept
length-spent t kept = by (slice_get kept t) refl
  where
    by : (found : Option Kept) → slice_get kept t ≡ found → length (spent t kept) ≡ length kept
    by None is = rw is refl
    by (Some one) is = rw is (length-set kept t (record one { token = None }))

spent_count : (t : ℕ) (sdps sdps' : List Kept) → sdps' ≡ spent t sdps → IsOneMore sdps sdps'
spent_count t sdps sdps' is = omega (arith, ap length is, length-spent t sdps)

module _ {I D S M E X T W N : Type 0} (m : Meanings I D S M E X T W N) where
  makes_count : (asked : Bool) (at : Side) (p q : Peer I D S M N) (sdps sdps' : List Kept) (made : Made) → MakesOf m asked at p sdps made q sdps' → IsOneMore sdps sdps'
  makes_count false at p q sdps sdps' NotAsked h = same_count sdps sdps' h.1
  makes_count true at p q sdps sdps' Nothing h = same_count sdps sdps' h.1
  makes_count true at p q sdps sdps' MadeAlloc h = same_count sdps sdps' h.1
  makes_count true at p q sdps sdps' (Offer k) h = one_more sdps sdps' (kept_offer at h.0) h.2
  makes_count asked at p q sdps sdps' made h = absurd h

  negotiates_count : (at : Side) (ops : List Op) (apply : Bool) (old new : Peer I D S M N) (sdps sdps' : List Kept) (outcome : Outcome E) (table : Option Table)
      → Negotiates m at ops apply old sdps outcome table new sdps' → IsOneMore sdps sdps'
  negotiates_count at ops apply old new sdps sdps' Alloc None h = same_count sdps sdps' h.sdps_kept
  negotiates_count at ops apply old new sdps sdps' (Negotiated answers made) (Some table) h =
      makes_count (apply && not (answers_lack answers)) at h.0 new sdps sdps' made h.2
  negotiates_count at ops apply old new sdps sdps' outcome table h = absurd h

  offer_count : (at : Side) (offer : Signalled) (old new : Peer I D S M N) (sdps sdps' : List Kept) (outcome : Outcome E) (table : Option Table)
      → StepAcceptsOffer m at offer old sdps outcome table new sdps' → IsOneMore sdps sdps'
  offer_count at NotMade old new sdps sdps' Alloc None h = same_count sdps sdps' h.sdps_kept
  offer_count at (Unreadable line) old new sdps sdps' Alloc None h = same_count sdps sdps' h.sdps_kept
  offer_count at (Readable sdp) old new sdps sdps' Alloc None h = same_count sdps sdps' h.sdps_kept
  offer_count at NotMade old new sdps sdps' NoSuch (Some table) h = same_count sdps sdps' h.0.sdps_kept
  offer_count at (Unreadable line) old new sdps sdps' (Refused error) (Some table) h = same_count sdps sdps' h.1.sdps_kept
  offer_count at (Readable sdp) old new sdps sdps' (Answered n) (Some table) h = one_more sdps sdps' (kept_answer at h.0) h.2
  offer_count at (Readable sdp) old new sdps sdps' (Refused error) (Some table) h = same_count sdps sdps' h.1
  offer_count at offer old new sdps sdps' outcome table h = absurd h

  answer_count : (t : ℕ) (token : Option PendingOffer) (answer : Signalled) (old new : Peer I D S M N) (sdps sdps' : List Kept) (outcome : Outcome E) (table : Option Table)
      → StepAcceptsAnswer m t token answer old sdps outcome table new sdps' → IsOneMore sdps sdps'
  answer_count t None NotMade old new sdps sdps' Alloc None h = same_count sdps sdps' h.sdps_kept
  answer_count t None (Unreadable line) old new sdps sdps' Alloc None h = same_count sdps sdps' h.sdps_kept
  answer_count t None (Readable sdp) old new sdps sdps' Alloc None h = same_count sdps sdps' h.sdps_kept
  answer_count t (Some token) NotMade old new sdps sdps' Alloc None h = same_count sdps sdps' h.sdps_kept
  answer_count t (Some token) (Unreadable line) old new sdps sdps' Alloc None h = same_count sdps sdps' h.sdps_kept
  answer_count t (Some token) (Readable sdp) old new sdps sdps' Alloc None h = same_count sdps sdps' h.sdps_kept
  answer_count t None NotMade old new sdps sdps' NoSuch (Some table) h = same_count sdps sdps' h.0.sdps_kept
  answer_count t None (Unreadable line) old new sdps sdps' NoSuch (Some table) h = same_count sdps sdps' h.0.sdps_kept
  answer_count t None (Readable sdp) old new sdps sdps' NoSuch (Some table) h = same_count sdps sdps' h.0.sdps_kept
  answer_count t (Some token) NotMade old new sdps sdps' NoSuch (Some table) h = same_count sdps sdps' h.0.sdps_kept
  answer_count t (Some token) (Unreadable line) old new sdps sdps' (Refused error) (Some table) h = same_count sdps sdps' h.1.sdps_kept
  answer_count t (Some token) (Readable sdp) old new sdps sdps' Finished (Some table) h = spent_count t sdps sdps' h.1
  answer_count t (Some token) (Readable sdp) old new sdps sdps' (Refused error) (Some table) h = spent_count t sdps sdps' h.1
  answer_count t token answer old new sdps sdps' outcome table h = absurd h

  rollback_count : (t : ℕ) (token : Option PendingOffer) (old new : Peer I D S M N) (sdps sdps' : List Kept) (outcome : Outcome E) (table : Option Table)
      → StepRollsBack m t token old sdps outcome table new sdps' → IsOneMore sdps sdps'
  rollback_count t None old new sdps sdps' Alloc None h = same_count sdps sdps' h.sdps_kept
  rollback_count t (Some token) old new sdps sdps' Alloc None h = same_count sdps sdps' h.sdps_kept
  rollback_count t None old new sdps sdps' NoSuch (Some table) h = same_count sdps sdps' h.0.sdps_kept
  rollback_count t (Some token) old new sdps sdps' Done (Some table) h = spent_count t sdps sdps' h.1
  rollback_count t (Some token) old new sdps sdps' (Refused error) (Some table) h = spent_count t sdps sdps' h.1
  rollback_count t token old new sdps sdps' outcome table h = absurd h

  pub acts_count : (stun : List ℕ → Bool) (other own : Addr) (step : Step) (old : PolledPeer I D S M N) (sdps : List Kept) (packets : List SentPacket)
      (outcome : Outcome E) (table : Option Table) (new : PolledPeer I D S M N) (sdps' : List Kept) (packets' : List SentPacket)
      → Acts m stun other own step old sdps packets outcome table new sdps' packets' → IsOneMore sdps sdps'
  acts_count stun other own (Negotiate at ops apply) old sdps packets outcome table new sdps' packets' h = negotiates_count at ops apply old.core new.core sdps sdps' outcome table h.0
  acts_count stun other own (AcceptOffer at k) old sdps packets outcome table new sdps' packets' h =
      offer_count at (kept_remote_sdp true sdps at k) old.core new.core sdps sdps' outcome table h.0
  acts_count stun other own (AcceptAnswer at t a) old sdps packets outcome table new sdps' packets' h =
      answer_count t (held_token sdps at t) (kept_remote_sdp false sdps at a) old.core new.core sdps sdps' outcome table h.0
  acts_count stun other own (Time at now) old sdps packets outcome table new sdps' packets' h = same_count sdps sdps' h.1
  acts_count stun other own (Datagram at packet now) old sdps packets outcome table new sdps' packets' h = same_count sdps sdps' h.1
  acts_count stun other own (Poll at) old sdps packets outcome table new sdps' packets' h = same_count sdps sdps' h.1
  acts_count stun other own (Drain at) old sdps packets outcome table new sdps' packets' h = same_count sdps sdps' h.1
  acts_count stun other own (Write at channel binary bytes) old sdps packets outcome table new sdps' packets' h = same_count sdps sdps' h.1
  acts_count stun other own (CloseChannel at channel) old sdps packets outcome table new sdps' packets' h = same_count sdps sdps' h.1
  acts_count stun other own (Close at) old sdps packets outcome table new sdps' packets' h = same_count sdps sdps' h.1
  acts_count stun other own (Rollback at t) old sdps packets outcome table new sdps' packets' h =
      rollback_count t (held_token sdps at t) old.core new.core sdps sdps' outcome table h.0
  acts_count stun other own (ForeignOffer at text) old sdps packets outcome table new sdps' packets' h =
      offer_count at (foreign text) old.core new.core sdps sdps' outcome table h.0
  acts_count stun other own (ForeignAnswer at t text) old sdps packets outcome table new sdps' packets' h =
      answer_count t (held_token sdps at t) (foreign text) old.core new.core sdps sdps' outcome table h.0
  acts_count stun other own (Raw at bytes now) old sdps packets outcome table new sdps' packets' h = same_count sdps sdps' h.1

pub size_of_one : (step : Step) → 1 ≤ step_size step
size_of_one (Negotiate at ops apply) = omega arith
size_of_one (AcceptOffer at offer) = omega arith
size_of_one (AcceptAnswer at token answer) = omega arith
size_of_one (Time at now) = omega arith
size_of_one (Datagram at packet now) = omega arith
size_of_one (Poll at) = omega arith
size_of_one (Drain at) = omega arith
size_of_one (Write at channel binary bytes) = omega arith
size_of_one (CloseChannel at channel) = omega arith
size_of_one (Close at) = omega arith
size_of_one (Rollback at token) = omega arith
size_of_one (ForeignOffer at text) = omega arith
size_of_one (ForeignAnswer at token text) = omega arith
size_of_one (Raw at bytes now) = omega arith

-- the session descriptions of a pair are not more than its size
pub kept_few : {I D S M E X T W N : Type 0} (m : Meanings I D S M E X T W N) (stun : List ℕ → Bool) (other own : Addr) (step : Step) (old : PolledPeer I D S M N)
    (sdps : List Kept) (packets : List SentPacket) (outcome : Outcome E) (table : Option Table) (new : PolledPeer I D S M N) (sdps' : List Kept)
    (packets' : List SentPacket) (size more : ℕ) → Acts m stun other own step old sdps packets outcome table new sdps' packets' → length sdps ≤ size
    → more ≡ step_size step → length sdps' ≤ size + more
kept_few m stun other own step old sdps packets outcome table new sdps' packets' size more acts few is =
    let one : length sdps' ≤ length sdps + 1 = acts_count m stun other own step old sdps packets outcome table new sdps' packets' acts in
    let least : 1 ≤ step_size step = size_of_one step in
    omega (arith, one, least, few, is)
