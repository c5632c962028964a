use Rattle.std.proofs.Common.{List, ap, ◌∙◌}
use Rattle.indexmap.specs.IndexSet.{contains}
use Rattle.rtc_sdp_values.specs.declared.candidate.Candidate.{Candidate}
use Rattle.rtc_plain_ice.specs.declared.place_key.PlaceKey.{PlaceKey}
use Rattle.rtc_plain_ice.specs.Places.{has_place}
use Rattle.rtc_plain_ice.specs.PlaceTables.{place_key, same_place_key}
use Rattle.rtc_plain_ice.proofs.candidate_table.CandidateTable.holds.Goals as goal

pub returns : goal.returns
returns c =
    c.contains.ensures
    ∙ ap (λ (key : PlaceKey). contains same_place_key c.self.inside.places key) c.of_candidate-key.ensures
    ∙ c.self.invariant (place_key c.args.c.now)
    ∙ ap (λ (l : List Candidate). has_place c.args.c.now l) c.self.view_is
