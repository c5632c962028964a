use Rattle.rtc_run.proofs.FaultlessSdps.{faultless_offers, faultless_answers, foreign_offers, foreign_answers}
use Rattle.rtc_run.proofs.laws.faultless_descriptions_pass.Goals as goal

pub returns : goal.returns
returns g c = record {
  offers = faultless_offers;
  answers = faultless_answers;
  foreign_offers = foreign_offers;
  foreign_answers = foreign_answers;
}
