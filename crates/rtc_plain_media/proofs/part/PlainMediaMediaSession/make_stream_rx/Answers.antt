use Rattle.std.proofs.Common.{refl, rules}
use Rattle.rtc_plain_media.specs.Streams.{Streams, made_stream_row, put_row}
use Rattle.rtc_plain_media.proofs.LendLemmas.{rx_made_left, rx_made_none}
use Rattle.rtc_plain_media.proofs.part.PlainMediaMediaSession.make_stream_rx.Goals as goal

pub returns : goal.returns
returns c =
    let a = c.args in
    ((refl, (λ w. rx_made_left c.make.result (λ (rows : Streams). put_row (record (made_stream_row a.ssrc a.rtx a.mid a.rid) { mark = w }) rows) _ _ _ c.self.view_is (c.make.follows.holds w)), rx_made_none c.make.result _ _ _ c.self.view_is c.make.follows.holds-at-none), search rules)
