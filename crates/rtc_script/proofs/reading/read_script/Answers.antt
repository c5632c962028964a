use Rattle.rtc_script.proofs.SmallScripts.{cut_pieces, read_small}
use Rattle.rtc_script.proofs.reading.read_script.Goals as goal

pub returns-clause-few : goal.returns-clause-few
returns-clause-few c = λ short.
    let ends = rw c.unwrap.ensures at c.split_last.ensures.cases in
    let cut = cut_pieces c.args.bytes.now _ _ _ _ c.in_ok-pieces.ensures.pieces c.as_slice.ensures.value ends.0 in
    read_small c.args.bytes.now _ _ cut c.read_pieces.ensures.some short
