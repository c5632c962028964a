-- What a step stages at a peer, and what becomes of it.
use Rattle.std.specs.Prelude.{◌≡◌, ◌≤◌, ◌+◌, List, length, Bool, true, false, not, ◌&&◌, Some, None, Ok, Err, alloc_error}
use Rattle.rtc_peer_core.specs.declared.peer.Peer.{Peer}
use Rattle.rtc_peer_core.specs.Calls.{Applies}
use Rattle.rtc_peer_core.specs.Meanings.{Meanings}
use Rattle.rtc_run_history.specs.declared.op.Op.{Op}
use Rattle.rtc_run_history.specs.declared.op_answer.OpAnswer.{OpAnswer}
use Rattle.rtc_run_history.specs.Memory.{answers_lack}
use Rattle.rtc_run_history.specs.Performs.{PerformsOps, lent}
use Rattle.rtc_run_steps.specs.declared.applied.Applied.{Applied}
use Rattle.rtc_run_steps.specs.declared.applied.Applied.TheVariants.{NotAsked, Nothing, Offer, Alloc}

module _ {I D S M E X T W N : Type 0} (m : Meanings I D S M E X T W N) where
  -- what is staged is applied if that is asked
  abbrev pub Becomes : Bool → Peer I D S M N → Applied → Peer I D S M N → Type 0
  Becomes false p NotAsked q = q ≡ p
  Becomes true p Nothing q = Applies m p (Ok None) q
  Becomes true p (Offer offer token) q = Applies m p (Ok (Some (offer.0, token))) q
  Becomes true p Alloc q = Applies m p (Err alloc_error) q
  Becomes asked p applied q = ⊥

  pub record Stages (old : Peer I D S M N) (ops : List Op) (apply : Bool) (answers : List OpAnswer) (applied : Applied)
      (new : Peer I D S M N) : Type 0 where
    pub between : Peer I D S M N
    pub performs : PerformsOps m (lent old) ops answers between
    pub becomes : Becomes (apply && not (answers_lack answers)) between applied new
    pub rows : length new.lines ≡ length old.lines
    pub channels : length new.channels.rows ≤ length old.channels.rows + length ops
