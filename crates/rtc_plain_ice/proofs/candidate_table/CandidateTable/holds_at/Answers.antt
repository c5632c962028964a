use Rattle.std.proofs.Common.{List, ap, ◌∙◌}
use Rattle.std.specs.List.{list_any}
use Rattle.rtc_sdp_values.specs.declared.candidate.Candidate.{Candidate}
use Rattle.rtc_plain_ice.specs.PlaceTables.{key_with, has_key}
use Rattle.rtc_plain_ice.proofs.candidate_table.CandidateTable.holds_at.Goals as goal

pub returns : goal.returns
returns c =
    let key = key_with c.args.proto c.args.addr in
    c.contains.ensures ∙ c.self.invariant key ∙ ap (λ (l : List Candidate). list_any (has_key key) l) c.self.view_is
