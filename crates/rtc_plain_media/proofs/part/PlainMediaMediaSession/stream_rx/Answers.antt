use Rattle.std.specs.Borrow.{MutBor}
use Rattle.std.proofs.Common.{◌≡◌, Some, refl, ap, ◌∙◌, rules}
use Rattle.std.specs.List.{list_any}
use Rattle.rtc_plain_media.specs.declared.plain_mark.PlainMark.{PlainMark}
use Rattle.rtc_plain_media.specs.Streams.{Streams, has_ssrc, marked, held_mark}
use Rattle.rtc_plain_media.specs.MediaContents.{MediaContents}
use Rattle.rtc_plain_media.proofs.LendLemmas.{rx_left, rx_stayed}
use Rattle.rtc_plain_media.proofs.part.PlainMediaMediaSession.stream_rx.Goals as goal

pub returns : goal.returns
returns c =
    let found = c.mark.ensures.found ∙ ap (λ (p : MediaContents). list_any (has_ssrc c.args.ssrc) p.rx) c.self.view_is in
    ((refl, (λ w. rx_left _ (λ (lent : MutBor PlainMark) (rows : Streams). Some lent.now ≡ held_mark (has_ssrc c.args.ssrc) rows) (marked (has_ssrc c.args.ssrc) w) _ _ _ c.self.view_is (c.mark.follows.holds w)), rx_stayed _ _ _ c.mark.follows.holds-at-none c.self.view_is), search (rules, found))
