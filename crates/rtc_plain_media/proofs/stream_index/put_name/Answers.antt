use Rattle.std.proofs.Common.{rules}
use Rattle.rtc_plain_media.specs.StreamIndex.{same_name}
use Rattle.rtc_plain_media.proofs.PlaceLemmas.{same_stream, puts_none, puts_new, on_ok}
use Rattle.rtc_plain_media.proofs.stream_index.put_name.Goals as goal

pub returns-then-contains_key-clause-put : goal.returns-then-contains_key-clause-put
returns-then-contains_key-clause-put c = puts_none same_name same_stream c.args.names.now c.args.names.now (record { line = c.args.line; layer = c.args.layer }) c.args.at (search rules)

pub returns-clause-put : goal.returns-clause-put
returns-clause-put c = puts_new same_name same_stream c.args.names.now c.insert.new.self (record { line = c.args.line; layer = c.args.layer }) c.args.at (search rules) (on_ok _ _ (c.insert.ensures.succeeds c.requires) c.insert.ensures.updates)
