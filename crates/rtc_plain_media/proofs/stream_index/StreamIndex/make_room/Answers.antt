use Rattle.std.proofs.Common.{refl, arith}
use Rattle.rtc_plain_media.proofs.PlaceLemmas.{indexes_same}
use Rattle.rtc_plain_media.proofs.stream_index.StreamIndex.make_room.Goals as goal

pub returns-in_err-reserve_places-clause-kept : goal.returns-in_err-reserve_places-clause-kept
returns-in_err-reserve_places-clause-kept c = λ rows held.
    indexes_same c.args.self.now _ rows c.reserve_places.ensures.kept (refl, omega arith) refl (omega arith) held

pub returns-in_err-reserve_names-clause-kept : goal.returns-in_err-reserve_names-clause-kept
returns-in_err-reserve_names-clause-kept c = λ rows held.
    indexes_same c.args.self.now _ rows c.reserve_places.ensures.kept c.reserve_names.ensures.kept refl (omega arith) held

pub returns-clause-kept : goal.returns-clause-kept
returns-clause-kept c = λ rows held.
    indexes_same c.args.self.now _ rows c.reserve_places.ensures.kept c.reserve_names.ensures.kept c.reserve_numbers.ensures.keys c.reserve_numbers.ensures.kept held
