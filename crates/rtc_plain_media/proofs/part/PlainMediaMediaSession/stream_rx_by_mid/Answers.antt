use Rattle.std.specs.Borrow.{MutBor}
use Rattle.std.proofs.Common.{◌≡◌, Some, refl, ap, ◌∙◌, rules}
use Rattle.std.specs.List.{list_any}
use Rattle.rtc_plain_media.specs.declared.plain_mark.PlainMark.{PlainMark}
use Rattle.rtc_plain_media.specs.Streams.{Streams, has_name, marked, held_mark}
use Rattle.rtc_plain_media.specs.MediaContents.{MediaContents}
use Rattle.rtc_plain_media.proofs.LendLemmas.{rx_left, rx_stayed}
use Rattle.rtc_plain_media.proofs.part.PlainMediaMediaSession.stream_rx_by_mid.Goals as goal

pub returns : goal.returns
returns c =
    let found = c.named_mark.ensures.found ∙ ap (λ (p : MediaContents). list_any (has_name c.args.mid c.args.rid) p.rx) c.self.view_is in
    ((refl, (λ w. rx_left _ (λ (lent : MutBor PlainMark) (rows : Streams). Some lent.now ≡ held_mark (has_name c.args.mid c.args.rid) rows) (marked (has_name c.args.mid c.args.rid) w) _ _ _ c.self.view_is (c.named_mark.follows.holds w)), rx_stayed _ _ _ c.named_mark.follows.holds-at-none c.self.view_is), search (rules, found))
