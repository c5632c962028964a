use Rattle.std.proofs.Common.{◌≡◌, ◌∙◌, sym, ap, refl, arith, true, false, ℕ, List, Option}
use Rattle.std.specs.Prelude.{is_some, slice_get}
use Rattle.std.specs.List.{list_any}
use Rattle.rtc_channels.specs.Ids.{parity_of}
use Rattle.rtc_channels.specs.Channels.{Channel}
use Rattle.rtc_channels.specs.Allocation.{sought_at, can_be_given}
use Rattle.rtc_channels.proofs.OpeningLemmas.{given_step, drop_past}
use Rattle.rtc_channels.proofs.SettledLemmas.{settled_within, settled_sought}
use Rattle.rtc_channels.proofs.channel_handler.ChannelHandler.can_give.Goals as goal

pub places-init : goal.places-init
places-init c = record {
  within = omega (arith, settled_within c.first_unsettled-place.result c.args.self.now.rows c.first_unsettled-place.ensures, c.count-count.ensures);
  left = settled_sought (parity_of c.args.client) c.first_unsettled-place.result c.args.self.now c.args.self.now.rows c.first_unsettled-place.ensures;
}

pub returns-then-is_some : goal.returns-then-is_some
returns-then-is_some c =
    let found : is_some (sought_at (slice_get c.args.self.now.rows c.places.place) (parity_of c.args.client) c.args.self.now) ≡ true =
    ap (λ (stream : Option ℕ). is_some stream) (sym c.seek.ensures)
    ∙ (sym c.is_some.ensures ∙ c.if-is_some.true) in
    sym (sym c.places.invariant.left ∙ (given_step (parity_of c.args.client) c.args.self.now c.args.self.now.rows c.places.place (omega (arith, c.places-test.true, c.count-count.ensures)) ∙ rw found refl))

pub places-preserved : goal.places-preserved
places-preserved c =
    let missed : is_some (sought_at (slice_get c.args.self.now.rows c.places.place) (parity_of c.args.client) c.args.self.now) ≡ false =
    ap (λ (stream : Option ℕ). is_some stream) (sym c.seek.ensures)
    ∙ (sym c.is_some.ensures ∙ c.if-is_some.false) in
    record {
      within = omega (arith, c.places-test.true);
      left = sym (given_step (parity_of c.args.client) c.args.self.now c.args.self.now.rows c.places.place (omega (arith, c.places-test.true, c.count-count.ensures)) ∙ rw missed refl) ∙ c.places.invariant.left;
    }

pub returns : goal.returns
returns c =
    sym (sym c.places.invariant.left
    ∙ ap (λ (channels : List Channel). list_any (can_be_given (parity_of c.args.client) c.args.self.now) channels)
    (drop_past c.args.self.now.rows c.places.place (omega (arith, c.places-test.false, c.count-count.ensures))))
