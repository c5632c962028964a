-- Each turn is one line further on in the text; what the step at that line leads to is `stepped`.
use Rattle.std.proofs.Common.{◌≡◌, ◌∙◌, ap, subst, ℕ, List, Result, length, arith, rules}
use Rattle.std.proofs.lemmas.Grind.{common_steps}
use Rattle.rtc_sdp_grammar.specs.ItemForm.{items_of}
use Rattle.rtc_sdp_values.specs.declared.sdp.Sdp.{Sdp}
use Rattle.rtc_sdp_values.specs.declared.sdp_error.SdpError.{SdpError}
use Rattle.rtc_sdp_reader.specs.Reading.{GivesReading, reading}
use Rattle.rtc_sdp_reader.proofs.Resume.{resume, start_law, stepped, goes_on, stops, handed, done}
use Rattle.rtc_sdp_reader.proofs.answers.read_by.Goals as goal

pub line-init : goal.line-init
line-init c = (ap (λ r. resume r (items_of c.args.text.now)) c.requires ∙ start_law (items_of c.args.text.now), search rules)

pub returns-in_err-take : goal.returns-in_err-take
returns-in_err-take c =
    let total : Result Sdp ℕ = reading c.args.text.now in
    let behind : List ℕ = c.first_line.result.1.now in
    let come = stepped c.line.reader c.in_ok-item.item c.line.rest.now c.first_line.result.0.now behind total c.first_line.ensures.lines c.in_ok-item.ensures c.line.invariant.0 in
    let error : SdpError = c.in_err-take.field-0.0 in
    handed c.from_residual-in_err-take.result error total c.from_residual-in_err-take.ensures.1
    (stops c.line.reader c.take.new.self c.in_ok-item.item error (items_of behind) total c.in_err-take.ensures come)

pub line-preserved : goal.line-preserved
line-preserved c =
    let total : Result Sdp ℕ = reading c.args.text.now in
    let behind : List ℕ = c.first_line.result.1.now in
    let come = stepped c.line.reader c.in_ok-item.item c.line.rest.now c.first_line.result.0.now behind total c.first_line.ensures.lines c.in_ok-item.ensures c.line.invariant.0 in
    (goes_on c.line.reader c.in_ok-item.item c.take.new.self (items_of behind) total c.in_ok-take.ensures come, search rules)

pub returns : goal.returns
returns c =
    let empty : length c.line.rest.now ≡ 0 = grind (arith, common_steps) in
    subst (λ total. GivesReading c.finish.result total) (done c.line.reader c.line.rest.now (reading c.args.text.now) empty c.line.invariant.0) c.finish.ensures
