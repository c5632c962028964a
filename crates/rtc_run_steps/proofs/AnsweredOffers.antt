-- The reply to an offer that was accepted.
use Rattle.std.proofs.Common.{◌≡◌, ℕ, List, [], ◌∷◌, ◌++◌, length, Option, Some, Ok, refl}
use Rattle.rtc_sdp_values.specs.declared.sdp.Sdp.{Sdp}
use Rattle.rtc_peer_core.specs.declared.peer.Peer.{Peer}
use Rattle.rtc_peer_core.specs.Acceptances.{AcceptsOffer}
use Rattle.rtc_peer_core.specs.Meanings.{Meanings}
use Rattle.rtc_run_history.specs.declared.side.Side.{Side}
use Rattle.rtc_run_history.specs.declared.kept.Kept.{Kept}
use Rattle.rtc_run_history.specs.declared.outcome.Outcome.{Outcome}
use Rattle.rtc_run_history.specs.declared.outcome.Outcome.TheVariants.{Answered}
use Rattle.rtc_run_history.specs.declared.table.Table.{Table}
use Rattle.rtc_run_history.specs.Performs.{StepAcceptsOffer, kept_answer, lent}
use Rattle.rtc_run_history.specs.Signalled.{Signalled, Readable}
use Rattle.rtc_run_steps.specs.ShownTable.{shown_table}

module _ {I D S M E X T W N : Type 0} (m : Meanings I D S M E X T W N) where
  -- what was read of the offer was accepted, and the answer is kept behind the others
  pub answered_offer : (at : Side) (given : Signalled) (delivered answer : Sdp) (old new : Peer I D S M N) (sdps sdps' : List Kept) (k : ℕ) (outcome : Outcome E) (table : Option Table)
      → given ≡ Readable delivered → AcceptsOffer m (lent old) delivered (Ok answer) new → sdps' ≡ sdps ++ kept_answer at answer ∷ [] → k ≡ length sdps → outcome ≡ Answered k
      → table ≡ Some (shown_table m.association new) → StepAcceptsOffer m at given old sdps outcome table new sdps'
  answered_offer at given delivered answer old new sdps sdps' k outcome table given_is accepts sdps_are k_is outcome_is table_is =
      rw (given_is, outcome_is, table_is, sdps_are, k_is) (answer, accepts, refl, refl, record { lines = refl; channels = refl })
