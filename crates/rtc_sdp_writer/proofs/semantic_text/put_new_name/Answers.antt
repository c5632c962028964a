use Rattle.std.proofs.Common.{◌≡◌, Some}
use Rattle.std.specs.Prelude.{option_map}
use Rattle.rtc_sdp_writer.specs.MediaRows.{shown_stream}
use Rattle.rtc_sdp_writer.proofs.StreamLemmas.{put_in}
use Rattle.rtc_sdp_writer.proofs.semantic_text.put_new_name.Goals as goal

pub returns-clause-found : goal.returns-clause-found
returns-clause-found c =
    let named : Some c.in-Some.name.now ≡ option_map (λ m. m.stream_id) (shown_stream c.args.line.now) = cc c.in-Some.ensures in
    put_in c.args.found.now c.insert.new.self c.in-Some.name.now c.args.place (shown_stream c.args.line.now) named c.in_ok-insert.ensures.updates
