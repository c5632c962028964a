-- Runs in which each SSRC was unused when it was drawn, and session descriptions (SDPs) that are read back as they were written.
use Rattle.std.specs.Prelude.{◌≡◌, ℕ, Bool, true, false, List, [], ◌∷◌, drop, length, All, Option, Some, None, IfSome}
use Rattle.std.specs.List.{AllByRecursion}
use Rattle.rtc_sdp_writer.specs.Plain.{IsPlain}
use Rattle.rtc_change.specs.PendingOffer.{PendingOffer}
use Rattle.rtc_peer_core.specs.declared.peer.Peer.{Peer}
use Rattle.rtc_peer_core.specs.Calls.{uses_source}
use Rattle.rtc_peer_core.specs.DrawnSources.{AreStagedUnused, OfferDrawsUnused, AnswerDrawsUnused}
use Rattle.rtc_peer_core.specs.Meanings.{Meanings}
use Rattle.rtc_run_history.specs.declared.kept.Kept.{Kept}
use Rattle.rtc_run_history.specs.declared.outcome.Outcome.{Outcome}
use Rattle.rtc_run_history.specs.declared.outcome.Outcome.TheVariants.{Answered, Finished}
use Rattle.rtc_run_history.specs.declared.reply.Reply.{Reply}
use Rattle.rtc_run_history.specs.declared.side.Side.{Side}
use Rattle.rtc_run_history.specs.declared.step.Step.{Step}
use Rattle.rtc_run_history.specs.declared.step.Step.TheVariants.{Negotiate, AcceptOffer, AcceptAnswer, ForeignOffer, ForeignAnswer}
use Rattle.rtc_run_history.specs.Past.{Entry}
use Rattle.rtc_run_history.specs.PairState.{PairState, peer_at, kept_remote_sdp, held_token}
use Rattle.rtc_run_history.specs.Performs.{lent}
use Rattle.rtc_run_history.specs.Runs.{Went, EntersSoundly, Runs}
use Rattle.rtc_run_history.specs.Signalled.{Signalled, NotMade, Unreadable, Readable, foreign}

-- each SDP that is kept is read back as it was written, its SSRCs too
abbrev pub AllPlain : List Kept → Type 0
AllPlain sdps = All (λ kept. IsPlain kept.sdp) sdps

-- something holds of each entry of a past, and of the pairs before and after it
abbrev pub AllWent : {E P : Type 0} (enters : List (Entry E) → P → Entry E → P → Type 0) (fresh : P → Type 0)
    → (P → Entry E → P → Type 0) → (past : List (Entry E)) (pair : P) → Went enters fresh past pair → Type 0
AllWent enters fresh holds [] pair went = Unit {0}
AllWent enters fresh holds (entry ∷ past) pair went = AllWent enters fresh holds past went.0 went.1 × holds went.0 entry pair

-- the SSRCs of the lines that an offer adds were unused
abbrev pub IsOfferedUnused : (ℕ → Bool) → Kept → Type 0
IsOfferedUnused used kept = IfSome kept.token (λ token. AreStagedUnused used token.changes)

module _ {I D S M E X T W N : Type 0} (m : Meanings I D S M E X T W N) where
  -- no media part has a line, as it is built
  abbrev pub HaveNoLines : PairState I D S M N → Type 0
  HaveNoLines pair = (at : Side) (mid : List ℕ) → m.media.line (peer_at at pair).media mid ≡ None

  -- the SSRCs that the acceptance of an offer draws are unused
  abbrev pub AnswersByUnused : Peer I D S M N → Signalled → Type 0
  AnswersByUnused p NotMade = Unit {0}
  AnswersByUnused p (Unreadable line) = Unit {0}
  AnswersByUnused p (Readable sdp) = OfferDrawsUnused m (lent p) sdp

  -- the same of an answer
  abbrev pub FinishesByUnused : Peer I D S M N → Option PendingOffer → Signalled → Type 0
  FinishesByUnused p None answer = Unit {0}
  FinishesByUnused p (Some token) NotMade = Unit {0}
  FinishesByUnused p (Some token) (Unreadable line) = Unit {0}
  FinishesByUnused p (Some token) (Readable sdp) = AnswerDrawsUnused m (lent p) token sdp

  -- Each SSRC that a step drew, for an offer that it made or for a line that it accepted, was unused when it was drawn: no stream of its
  -- peer had it, and it was not drawn earlier in the same call.
  abbrev pub DrawsByStep : Step → Outcome E → PairState I D S M N → PairState I D S M N → Type 0
  DrawsByStep (Negotiate at ops apply) outcome old new =
      AllByRecursion (IsOfferedUnused (uses_source m (peer_at at old))) (drop (length old.sdps) new.sdps)
  DrawsByStep (AcceptOffer at k) (Answered n) old new = AnswersByUnused (peer_at at old) (kept_remote_sdp true old.sdps at k)
  DrawsByStep (AcceptAnswer at t a) Finished old new =
      FinishesByUnused (peer_at at old) (held_token old.sdps at t) (kept_remote_sdp false old.sdps at a)
  DrawsByStep (ForeignOffer at text) (Answered n) old new = AnswersByUnused (peer_at at old) (foreign text)
  DrawsByStep (ForeignAnswer at t text) Finished old new = FinishesByUnused (peer_at at old) (held_token old.sdps at t) (foreign text)
  DrawsByStep step outcome old new = Unit {0}

  -- so was each SSRC that a run drew
  abbrev pub DrawsUnused : (stun : List ℕ → Bool) (start : PairState I D S M N) (steps : List Step) (replies : List (Reply E))
      (pair : PairState I D S M N) → Runs m stun start steps replies pair → Type 0
  DrawsUnused stun start steps replies pair run =
      AllWent (EntersSoundly m stun start) (λ fresh. fresh ≡ start)
      (λ old entry new. DrawsByStep entry.step entry.outcome old new) run.past pair run.went
