use Rattle.std.proofs.Common.{nat_eq, rules}
use Rattle.rtc_plain_media.proofs.PlaceLemmas.{same_number, puts_none, puts_new, on_ok}
use Rattle.rtc_plain_media.proofs.stream_index.put_place.Goals as goal

pub returns-then-contains_key-clause-put : goal.returns-then-contains_key-clause-put
returns-then-contains_key-clause-put c = puts_none nat_eq same_number c.args.places.now c.args.places.now c.args.number c.args.at (search rules)

pub returns-clause-put : goal.returns-clause-put
returns-clause-put c = puts_new nat_eq same_number c.args.places.now c.insert.new.self c.args.number c.args.at (search rules) (on_ok _ _ (c.insert.ensures.succeeds c.requires) c.insert.ensures.updates)
