-- What a step does that gives a peer an offer, an answer or a token: by the calls of the peer, with the session descriptions (SDPs) before
-- and after.
use Rattle.std.specs.Prelude.{◌≡◌, ℕ, false, List, [], ◌∷◌, ◌++◌, Option, Some, None, Ok, Err, length}
use Rattle.rtc_sdp_values.specs.declared.sdp.Sdp.{Sdp}
use Rattle.rtc_sdp_values.specs.declared.sdp_error.SdpError.TheVariants.{Parse}
use Rattle.rtc_change.specs.PendingOffer.{PendingOffer}
use Rattle.rtc_peer_core.specs.declared.peer.Peer.{Peer}
use Rattle.rtc_peer_core.specs.declared.rtc_error.RtcError.TheVariants.{Sdp as SdpRefused}
use Rattle.rtc_peer_core.specs.Acceptances.{AcceptsOffer, AcceptsAnswer}
use Rattle.rtc_peer_core.specs.Meanings.{Meanings}
use Rattle.rtc_peer_core.specs.RollingBack.{RollsBack}
use Rattle.rtc_run_history.specs.declared.kept.Kept.{Kept}
use Rattle.rtc_run_history.specs.declared.outcome.Outcome.{Outcome}
use Rattle.rtc_run_history.specs.declared.outcome.Outcome.TheVariants.{Answered, Finished, Done, Refused, NoSuch, Alloc}
use Rattle.rtc_run_history.specs.declared.side.Side.{Side}
use Rattle.rtc_run_history.specs.declared.table.Table.{Table}
use Rattle.rtc_run_history.specs.CallReplies.{Shows}
use Rattle.rtc_run_history.specs.PairState.{spent}
use Rattle.rtc_run_history.specs.Signalled.{Signalled, NotMade, Unreadable, Readable}

-- the peer as `sdp_api` lends it: earlier staged changes are dropped
abbrev pub lent : {I D S M N : Type 0} → Peer I D S M N → Peer I D S M N
lent peer = record peer { staged = []; undo = [] }

abbrev pub kept_answer : Side → Sdp → Kept
kept_answer at answer = record { at = at; offer = false; sdp = answer; token = None }

-- the peer and the SDPs are unchanged
pub record Stays {I D S M N : Type 0} (old : Peer I D S M N) (sdps : List Kept) (new : Peer I D S M N) (sdps' : List Kept) : Type 0 where
  pub peer : new ≡ old
  pub sdps_kept : sdps' ≡ sdps

module _ {I D S M E X T W N : Type 0} (m : Meanings I D S M E X T W N) where
  -- A peer accepts or refuses an offer that the other side made or anybody wrote, as it is read. One that cannot be read does not reach the
  -- peer.
  abbrev pub StepAcceptsOffer : Side → Signalled → Peer I D S M N → List Kept → Outcome E → Option Table → Peer I D S M N → List Kept
      → Type 0
  StepAcceptsOffer at offer old sdps Alloc None new sdps' = Stays old sdps new sdps'
  StepAcceptsOffer at NotMade old sdps NoSuch (Some table) new sdps' = Stays old sdps new sdps' × Shows m table old
  StepAcceptsOffer at (Unreadable line) old sdps (Refused error) (Some table) new sdps' =
      (error ≡ SdpRefused (Parse line)) × Stays old sdps new sdps' × Shows m table old
  StepAcceptsOffer at (Readable sdp) old sdps (Answered k) (Some table) new sdps' =
      (answer : Sdp)
      × AcceptsOffer m (lent old) sdp (Ok answer) new
      × (sdps' ≡ sdps ++ kept_answer at answer ∷ [])
      × (k ≡ length sdps)
      × Shows m table new
  StepAcceptsOffer at (Readable sdp) old sdps (Refused error) (Some table) new sdps' =
      AcceptsOffer m (lent old) sdp (Err error) new
      × (sdps' ≡ sdps)
      × Shows m table new
  StepAcceptsOffer at offer old sdps outcome table new sdps' = ⊥

  -- A peer accepts or refuses an answer that the other side made or anybody wrote, as it is read; the token of its own offer is consumed.
  -- One that cannot be read does not reach the peer, and consumes no token.
  abbrev pub StepAcceptsAnswer : ℕ → Option PendingOffer → Signalled → Peer I D S M N → List Kept → Outcome E → Option Table
      → Peer I D S M N → List Kept → Type 0
  StepAcceptsAnswer t token answer old sdps Alloc None new sdps' = Stays old sdps new sdps'
  StepAcceptsAnswer t None answer old sdps NoSuch (Some table) new sdps' = Stays old sdps new sdps' × Shows m table old
  StepAcceptsAnswer t (Some token) NotMade old sdps NoSuch (Some table) new sdps' = Stays old sdps new sdps' × Shows m table old
  StepAcceptsAnswer t (Some token) (Unreadable line) old sdps (Refused error) (Some table) new sdps' =
      (error ≡ SdpRefused (Parse line)) × Stays old sdps new sdps' × Shows m table old
  StepAcceptsAnswer t (Some token) (Readable sdp) old sdps Finished (Some table) new sdps' =
      AcceptsAnswer m (lent old) token sdp (Ok tt) new
      × (sdps' ≡ spent t sdps)
      × Shows m table new
  StepAcceptsAnswer t (Some token) (Readable sdp) old sdps (Refused error) (Some table) new sdps' =
      AcceptsAnswer m (lent old) token sdp (Err error) new
      × (sdps' ≡ spent t sdps)
      × Shows m table new
  StepAcceptsAnswer t token answer old sdps outcome table new sdps' = ⊥

  -- A peer rolls its own offer back, or refuses to; the token is spent.
  abbrev pub StepRollsBack : ℕ → Option PendingOffer → Peer I D S M N → List Kept → Outcome E → Option Table → Peer I D S M N → List Kept
      → Type 0
  StepRollsBack t token old sdps Alloc None new sdps' = Stays old sdps new sdps'
  StepRollsBack t None old sdps NoSuch (Some table) new sdps' = Stays old sdps new sdps' × Shows m table old
  StepRollsBack t (Some token) old sdps Done (Some table) new sdps' =
      RollsBack (lent old) token (Ok tt) new
      × (sdps' ≡ spent t sdps)
      × Shows m table new
  StepRollsBack t (Some token) old sdps (Refused error) (Some table) new sdps' =
      RollsBack (lent old) token (Err error) new
      × (sdps' ≡ spent t sdps)
      × Shows m table new
  StepRollsBack t token old sdps outcome table new sdps' = ⊥
