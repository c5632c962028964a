use Rattle.std.proofs.Common.{◌≡◌, ◌-◌, ◌++◌, ◌∙◌, ap, sym, drop, take, length, min, arith}
use Rattle.rtc_io.specs.Feed.{Feed}
use Rattle.rtc_io.proofs.Pieces.{piece_taken, nothing_left, rest_is}
use Rattle.rtc_io.proofs.mem_source.MemSourceSource.read.Goals as goal

pub returns-clause-bytes : goal.returns-clause-bytes
returns-clause-bytes c =
    let bytes = c.self.inside.bytes in
    let taken = c.self.inside.taken in
    let room = length c.args.buf.now in
    let result = c.fill-count.result in
    let left : c.args.self.now.left ≡ drop taken bytes = ap (λ (feed : Feed). feed.left) (sym c.self.view_is) in
    let lent : take (length c.as_slice-2.result.now - taken) (drop taken c.as_slice-2.result.now) ≡ drop taken bytes =
    rw c.as_slice-2.ensures (rest_is bytes taken) in
    let count : result ≡ min (min c.self.inside.piece room) (length (drop taken bytes)) = rw lent at c.fill-count.ensures.count in
    let filled : c.fill-count.new.buf ≡ take result (drop taken bytes) ++ drop result c.args.buf.now = rw lent at c.fill-count.ensures.filled in (
      left ∙ piece_taken bytes c.args.buf.now c.fill-count.new.buf taken result (omega (arith, count)) filled,
      λ none some. nothing_left bytes taken result c.self.inside.piece room count c.self.invariant.some c.requires none,
    )
