-- An entry that leads on from a run of a fresh pair does so soundly.
use Rattle.std.proofs.Common.{◌≡◌, ◌<◌, ◌^◌, ℕ, Bool, List, refl, sym, ap, subst}
use Rattle.rtc_peer_core.specs.Meanings.{Meanings, PartsLaws}
use Rattle.rtc_run_history.specs.Past.{Entry, MadeSdp}
use Rattle.rtc_run_history.specs.PairState.{PairState}
use Rattle.rtc_run_history.specs.Performs.{Enters, sdps_behind}
use Rattle.rtc_run_history.specs.Runs.{EntersSoundly, Went}
use Rattle.rtc_run_history.specs.Fresh.{IsFresh}
use Rattle.rtc_run_laws.proofs.StanceSteps.{pair_stance}
use Rattle.rtc_run_laws.proofs.StandingSteps.{performs_stands}
use Rattle.rtc_run_laws.proofs.EmptyStreams.{AreUnused}
use Rattle.rtc_run_laws.proofs.StanceRuns.{StanceRan, fresh_stands, fresh_unused, ran_unused, ran_stands}
use Rattle.rtc_run_laws.proofs.PartsSound.{parts_sound}
use Rattle.rtc_run_laws.proofs.OrderlySounds.{sound_next}

module _ {I D S M E X T W N : Type 0} (m : Meanings I D S M E X T W N) (stun : List ℕ → Bool) (laws : PartsLaws m) where
  entry_is : (entry : Entry E) (made : List MadeSdp) → entry.made ≡ made
      → record { step = entry.step; outcome = entry.outcome; table = entry.table; made = made } ≡ entry
  entry_is entry made is = ap (λ (l : List MadeSdp). record { step = entry.step; outcome = entry.outcome; table = entry.table; made = l }) (sym is)

  pub enters_soundly : (start old new : PairState I D S M N) (past : List (Entry E)) (entry : Entry E) → IsFresh m start
      → Went (EntersSoundly m stun start) (λ fresh. fresh ≡ start) past old → Enters m stun old entry new → new.size < 2 ^ 32
      → EntersSoundly m stun start past old entry new
  enters_soundly start old new past entry fresh went enters small =
      let last : Entry E = record { step = entry.step; outcome = entry.outcome; table = entry.table; made = sdps_behind old.sdps new.sdps } in
      let unused : AreUnused m laws start = fresh_unused m laws start fresh in
      let ran : StanceRan (pair_stance m start) past (pair_stance m old) = ran_stands m stun laws start past old unused went in
      let again : Enters m stun old last new = record { performs = enters.performs; made = refl } in
      subst (λ (e : Entry E). EntersSoundly m stun start past old e new) (entry_is entry (sdps_behind old.sdps new.sdps) enters.made) (
        again,
        sound_next (pair_stance m start) (pair_stance m old) (pair_stance m new) past entry.step entry.outcome entry.table (fresh_stands m start fresh) ran
            (performs_stands m laws old entry.step entry.outcome entry.table new (ran_unused m stun laws start past old unused went) enters.performs) small,
        parts_sound m stun laws old last new again,
      )
