use Rattle.std.proofs.Common.{◌≡◌, ◌∙◌, sym, ap, arith, ℕ, List, Option, false}
use Rattle.std.specs.Prelude.{is_some}
use Rattle.rtc_channels.specs.Channels.{Channel, Channels, has_channel}
use Rattle.rtc_channels.specs.Kept.{channels_of, place_of_channel, kept_config}
use Rattle.rtc_channels.specs.Granted.{holds_of}
use Rattle.std.proofs.lemmas.Grind.{common_steps}
use Rattle.rtc_channels.proofs.KeptLemmas.{place_below, IsConfirmed, is_confirmed, has_channel_place}
use Rattle.rtc_channels.proofs.PlaceLemmas.{handled_ascending}
use Rattle.rtc_channels.proofs.HandledLemmas.{handled_confirmed}
use Rattle.rtc_channels.proofs.SettledLemmas.{settled_less, settled_behind}
use Rattle.rtc_channels.proofs.channel_handler.ChannelHandler.confirm.Goals as goal

pub find_place-requires : goal.find_place-requires
find_place-requires c = rw c.as_slice.ensures.value (handled_ascending c.self.inside.rows.items c.self.inside.kept.items c.self.invariant.handled.paired)

replaced : (c : goal.After-self-2-1) → IsConfirmed c.self.inside.given c.args.id c.args.config c.self.inside.rows.items c.self.inside.kept.items c.index_mut.result.now c.in-Some.place
replaced c =
    is_confirmed c.self.inside.given c.args.id c.args.config c.self.inside.rows.items c.self.inside.kept.items c.index_mut.result.now c.in-Some.place c.self.invariant.handled.paired
    (ap (λ (rows : List (ℕ × Option ℕ)). place_of_channel 0 c.args.id rows) (sym c.as_slice.ensures.value) ∙ (sym c.find_place.ensures.place ∙ c.in-Some.is)) c.index_mut.ensures.value

pub index_mut-requires : goal.index_mut-requires
index_mut-requires c =
    let found = ap (λ (rows : List (ℕ × Option ℕ)). place_of_channel 0 c.args.id rows) (sym c.as_slice.ensures.value) ∙ (sym c.find_place.ensures.place ∙ c.in-Some.is) in
    grind (arith, common_steps, place_below 0 c.args.id c.self.inside.rows.items c.in-Some.place found, c.self.invariant.handled.paired.same)

pub invariant_of-self : goal.invariant_of-self
invariant_of-self c =
    rw c.keep_config.ensures
    (record {
      handled = handled_confirmed c.self.inside.given c.self.inside.rows.items c.self.inside.kept.items c.self.inside.grants c.self.invariant.handled c.args.id c.args.config c.index_mut.result.now c.in-Some.place c.requires.label c.requires.protocol (replaced c);
      settled_first =
          settled_behind c.settled_before-self-inside.result c.self.inside.rows.items c.self.inside.kept.items c.in-Some.place (kept_config c.args.config c.index_mut.result.now) c.settled_before-self-inside.ensures.before
          (settled_less c.self.inside.settled c.settled_before-self-inside.result (channels_of c.self.inside.rows.items c.self.inside.kept.items) c.settled_before-self-inside.ensures.less c.self.invariant.settled_first);
      pools_are = c.self.invariant.pools_are;
    })

pub returns : goal.returns
returns c = rw (sym c.self.view_is, c.keep_config.ensures) (ap (λ (rows : List Channel). handler c.self.inside.given rows (holds_of c.self.inside.grants)) (replaced c).set)
  where
    handler : ℕ → List Channel → List ℕ → Channels
    handler given rows holds = record { given = given; rows = rows; holds = holds }

pub returns-in_default : goal.returns-in_default
returns-in_default c =
    let missed : has_channel c.args.id c.args.self.now.rows ≡ false =
    ap (λ (held : Channels). has_channel c.args.id held.rows) (sym c.self.view_is)
    ∙ (sym (has_channel_place 0 c.args.id c.self.inside.rows.items c.self.inside.kept.items c.self.invariant.handled.paired.same)
    ∙ (ap (λ (rows : List (ℕ × Option ℕ)). is_some (place_of_channel 0 c.args.id rows)) (sym c.as_slice.ensures.value)
    ∙ (ap (λ (found : Option ℕ). is_some found) (sym c.find_place.ensures.place ∙ c.in_default.is)))) in
    absurd (cc (sym missed ∙ c.requires.channel))
