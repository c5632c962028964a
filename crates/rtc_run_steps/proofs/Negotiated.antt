-- What a reply to a step of ops tells.
use Rattle.std.proofs.Common.{◌≡◌, List, Bool, true, false, not, ◌&&◌, Option, Some, refl, subst}
use Rattle.rtc_peer_core.specs.declared.peer.Peer.{Peer}
use Rattle.rtc_run_history.specs.declared.side.Side.{Side}
use Rattle.rtc_run_history.specs.declared.op.Op.{Op}
use Rattle.rtc_run_history.specs.declared.op_answer.OpAnswer.{OpAnswer}
use Rattle.rtc_run_history.specs.declared.made.Made.{Made}
use Rattle.rtc_run_history.specs.declared.made.Made.TheVariants.{NotAsked as MadeNotAsked, Nothing as MadeNothing, Offer as MadeOffer, Alloc as MadeAlloc}
use Rattle.rtc_run_history.specs.declared.outcome.Outcome.{Outcome}
use Rattle.rtc_run_history.specs.declared.outcome.Outcome.TheVariants.{Negotiated}
use Rattle.rtc_run_history.specs.declared.table.Table.{Table}
use Rattle.rtc_run_history.specs.Memory.{answers_lack}
use Rattle.rtc_run_history.specs.declared.kept.Kept.{Kept}
use Rattle.rtc_run_history.specs.Performs.{Negotiates, MakesOf}
use Rattle.rtc_run_steps.specs.declared.applied.Applied.{Applied}
use Rattle.rtc_run_steps.specs.declared.applied.Applied.TheVariants.{NotAsked, Nothing, Offer, Alloc}
use Rattle.rtc_run_steps.specs.Keeping.{KeepsMade}
use Rattle.rtc_run_steps.specs.ShownTable.{shown_table}
use Rattle.rtc_run_steps.specs.Stages.{Stages, Becomes}
use Rattle.rtc_peer_core.specs.Meanings.{Meanings}

module _ {I D S M E X T W N : Type 0} (m : Meanings I D S M E X T W N) where
  -- what is kept of what was made
  makes : (asked : Bool) (at : Side) (p q : Peer I D S M N) (sdps sdps' : List Kept) (applied : Applied) (made : Made) → KeepsMade at applied sdps made sdps' → Becomes m asked p applied q → MakesOf m asked at p sdps made q sdps'
  makes true at p q sdps sdps' NotAsked MadeNotAsked kept h = absurd h
  makes true at p q sdps sdps' Nothing MadeNothing kept h = (h, kept)
  makes true at p q sdps sdps' Alloc MadeAlloc kept h = (h, kept)
  makes true at p q sdps sdps' (Offer offer token) (MadeOffer k) kept h = ((offer.0, token), h, kept.1, kept.0)
  makes false at p q sdps sdps' NotAsked MadeNotAsked kept h = (h, kept)
  makes false at p q sdps sdps' Nothing MadeNothing kept h = absurd h
  makes false at p q sdps sdps' Alloc MadeAlloc kept h = absurd h
  makes false at p q sdps sdps' (Offer offer token) (MadeOffer k) kept h = absurd h
  makes asked at p q sdps sdps' applied made kept h = absurd kept

  pub negotiated : (at : Side) (ops : List Op) (apply : Bool) (old q : Peer I D S M N) (sdps same sdps' : List Kept) (answers : List OpAnswer) (applied : Applied) (made : Made) (outcome : Outcome E) (table : Option Table) → Stages m old ops apply answers applied q → same ≡ sdps → KeepsMade at applied same made sdps' → outcome ≡ Negotiated answers made → table ≡ Some (shown_table m.association q) → Negotiates m at ops apply old sdps outcome table q sdps'
  negotiated at ops apply old q sdps same sdps' answers applied made outcome table stages same_is keeps outcome_is table_is =
      let kept : KeepsMade at applied sdps made sdps' = subst (λ (list : List Kept). KeepsMade at applied list made sdps') same_is keeps in
      rw (outcome_is, table_is) (stages.between, stages.performs, makes (apply && not (answers_lack answers)) at stages.between q sdps sdps' applied made kept stages.becomes, record { lines = refl; channels = refl })
