use Rattle.std.specs.Borrow.{MutBor}
use Rattle.std.proofs.Common.{◌≡◌, refl, ap, ◌∙◌, rules}
use Rattle.rtc_plain_media.specs.declared.plain_mark.PlainMark.{PlainMark}
use Rattle.rtc_plain_media.specs.Streams.{Streams, can_renumber, renumbered, new_mark}
use Rattle.rtc_plain_media.specs.MediaContents.{MediaContents}
use Rattle.rtc_plain_media.proofs.LendLemmas.{tx_left, tx_stayed}
use Rattle.rtc_plain_media.proofs.part.PlainMediaMediaSession.reset_stream_tx.Goals as goal

pub returns : goal.returns
returns c =
    let found = c.reset.ensures.found ∙ ap (λ (p : MediaContents). can_renumber c.args.mid c.args.rid c.args.new_ssrc c.args.new_rtx p.tx) c.self.view_is in
    ((refl, (λ w. tx_left _ (λ (lent : MutBor PlainMark) (rows : Streams). lent.now ≡ new_mark) (renumbered c.args.mid c.args.rid c.args.new_ssrc c.args.new_rtx w) _ _ _ c.self.view_is (c.reset.follows.holds w)), tx_stayed _ _ _ c.reset.follows.holds-at-none c.self.view_is), search (rules, found))
