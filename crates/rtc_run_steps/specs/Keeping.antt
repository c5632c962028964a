-- What a pair keeps of what a step of ops made: an offer with its token, behind the others.
use Rattle.std.specs.Prelude.{◌≡◌, List, [], ◌∷◌, ◌++◌, length}
use Rattle.rtc_run_history.specs.declared.kept.Kept.{Kept}
use Rattle.rtc_run_history.specs.declared.made.Made.{Made}
use Rattle.rtc_run_history.specs.declared.made.Made.TheVariants.{NotAsked as MadeNotAsked, Nothing as MadeNothing}
use Rattle.rtc_run_history.specs.declared.made.Made.TheVariants.{Offer as MadeOffer, Alloc as MadeAlloc}
use Rattle.rtc_run_history.specs.declared.side.Side.{Side}
use Rattle.rtc_run_history.specs.Performs.{kept_offer}
use Rattle.rtc_run_steps.specs.declared.applied.Applied.{Applied}
use Rattle.rtc_run_steps.specs.declared.applied.Applied.TheVariants.{NotAsked, Nothing, Offer, Alloc}

abbrev pub KeepsMade : Side → Applied → List Kept → Made → List Kept → Type 0
KeepsMade at NotAsked sdps MadeNotAsked sdps' = sdps' ≡ sdps
KeepsMade at Nothing sdps MadeNothing sdps' = sdps' ≡ sdps
KeepsMade at Alloc sdps MadeAlloc sdps' = sdps' ≡ sdps
KeepsMade at (Offer offer token) sdps (MadeOffer k) sdps' =
    (k ≡ length sdps) × (sdps' ≡ sdps ++ kept_offer at (offer.0, token) ∷ [])
KeepsMade at applied sdps made sdps' = ⊥
