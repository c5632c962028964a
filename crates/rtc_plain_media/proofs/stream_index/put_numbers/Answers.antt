use Rattle.std.proofs.Common.{◌==◌, ◌||◌, nat_eq, ap, ◌∙◌, sym, Option}
use Rattle.indexmap.specs.IndexSet as set
use Rattle.rtc_sdp_values.specs.declared.ssrc.Ssrc.{Ssrc}
use Rattle.rtc_plain_media.specs.Streams.{is_ssrc}
use Rattle.rtc_plain_media.proofs.PlaceLemmas.{numbers_both}
use Rattle.rtc_plain_media.proofs.stream_index.put_numbers.Goals as goal

pub returns-in-Some-clause-put : goal.returns-in-Some-clause-put
returns-in-Some-clause-put c = λ n.
    let number : Ssrc = record { 0 = n } in
    numbers_both (set.contains nat_eq c.args.numbers.now n) _ _ (c.args.row.now.ssrc.0 == n) (c.in-Some.rtx.0 == n) (c.put_number.ensures.put n) (c.put_number-in-Some.ensures.put n)
    ∙ ap (λ (rtx : Option Ssrc). set.contains nat_eq c.args.numbers.now n || ((c.args.row.now.ssrc.0 == n) || is_ssrc rtx number)) (sym c.in-Some.is)
