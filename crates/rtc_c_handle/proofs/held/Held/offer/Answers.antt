use Rattle.rtc_c_handle.proofs.Offering.{keeps_offer, keeps_nothing, keeps_wanted}
use Rattle.rtc_c_handle.proofs.held.Held.offer.Goals as goal

pub returns-in-Offer : goal.returns-in-Offer
returns-in-Offer c = keeps_offer c.args.self.now c.write_offer.new.self c.make_offer.new.rtc c.as_slice.result.now c.clear.new.self c.in-Offer.offer c.in-Offer.token c.write_offer.result c.as_slice.ensures c.in-Offer.ensures.makes c.make_offer.ensures.connection c.clear.ensures c.write_offer.ensures.written c.write_offer.ensures.others

pub returns-in-Nothing : goal.returns-in-Nothing
returns-in-Nothing c = keeps_nothing c.args.self.now c.make_offer.new.rtc c.as_slice.result.now c.clear-in-Nothing.new.self c.as_slice.ensures c.in-Nothing.ensures.makes c.make_offer.ensures.connection c.clear-in-Nothing.ensures

pub returns-in-Failed : goal.returns-in-Failed
returns-in-Failed c = keeps_wanted c.args.self.now c.make_offer.new.rtc c.as_slice.result.now c.in-Failed.error c.of_error.result c.as_slice.ensures c.in-Failed.ensures.makes c.make_offer.ensures.connection c.of_error.ensures
