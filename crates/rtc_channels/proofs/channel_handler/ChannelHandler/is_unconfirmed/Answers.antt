use Rattle.std.proofs.Common.{◌∙◌, sym, ap, arith, ℕ, List, Option, Some}
use Rattle.std.proofs.lemmas.Grind.{common_steps}
use Rattle.rtc_channels.specs.Channels.{Channels}
use Rattle.rtc_channels.specs.Holds.{is_unconfirmed}
use Rattle.rtc_channels.specs.Kept.{place_of_channel}
use Rattle.rtc_channels.proofs.KeptLemmas.{place_below, unconfirmed_missed, unconfirmed_found}
use Rattle.rtc_channels.proofs.PlaceLemmas.{handled_ascending}
use Rattle.rtc_channels.proofs.channel_handler.ChannelHandler.is_unconfirmed.Goals as goal

pub find_place-requires : goal.find_place-requires
find_place-requires c = rw c.as_slice.ensures.value (handled_ascending c.self.inside.rows.items c.self.inside.kept.items c.self.invariant.handled.paired)

pub returns-in_default : goal.returns-in_default
returns-in_default c =
    sym (ap (λ (held : Channels). is_unconfirmed c.args.id held.rows) (sym c.self.view_is)
    ∙ unconfirmed_missed 0 c.args.id c.self.inside.rows.items c.self.inside.kept.items
    (ap (λ (rows : List (ℕ × Option ℕ)). place_of_channel 0 c.args.id rows) (sym c.as_slice.ensures.value) ∙ (sym c.find_place.ensures.place ∙ c.in_default.is)))

pub index-requires : goal.index-requires
index-requires c =
    let found = ap (λ (rows : List (ℕ × Option ℕ)). place_of_channel 0 c.args.id rows) (sym c.as_slice.ensures.value) ∙ (sym c.find_place.ensures.place ∙ c.in-Some.is) in
    grind (arith, common_steps, place_below 0 c.args.id c.self.inside.rows.items c.in-Some.place found, c.self.invariant.handled.paired.same)

pub returns : goal.returns
returns c =
    let found = ap (λ (rows : List (ℕ × Option ℕ)). place_of_channel 0 c.args.id rows) (sym c.as_slice.ensures.value) ∙ (sym c.find_place.ensures.place ∙ c.in-Some.is) in
    sym (ap (λ (held : Channels). is_unconfirmed c.args.id held.rows) (sym c.self.view_is)
    ∙ unconfirmed_found 0 c.args.id 0 c.self.inside.rows.items c.self.inside.kept.items c.index.result.now c.in-Some.place c.self.invariant.handled.paired.same c.self.invariant.handled.paired.rising
    (found ∙ ap (λ (n : ℕ). Some n) (omega arith)) c.index.ensures)
