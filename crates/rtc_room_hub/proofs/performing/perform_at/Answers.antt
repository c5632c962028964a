use Rattle.std.proofs.Common.{[], ◌∷◌, get_or, refl, rules}
use Rattle.rtc_run.specs.ExtendsRun.{entry_between}
use Rattle.rtc_room_hub.proofs.HeardMembers.{got_there}
use Rattle.rtc_room_hub.proofs.PerformedHere.{room_at}
use Rattle.rtc_room_hub.proofs.performing.perform_at.Goals as goal

pub perform-reply-requires : goal.perform-reply-requires
perform-reply-requires c = room_at _ c.args.k c.args.pairs.now c.index-pairs-k.result c.requires.size c.requires.place

pub returns : goal.returns
returns c = (
  entry_between (get_or c.args.pairs.now c.args.k c.index-pairs-k.result) c.args.step.now c.perform-reply.result.outcome c.perform-reply.result.table c.perform-reply.new.self ∷ [],
  record {
    before = get_or c.args.pairs.now c.args.k c.index-pairs-k.result;
    after = c.perform-reply.new.self;
    there = got_there c.args.pairs.now c.args.k c.index-pairs-k.result c.requires.place;
    performs = c.perform-reply.ensures.performs;
    lasts = (search rules);
    pairs_are = refl;
    performed_is = refl;
  },
)
