use Rattle.std.proofs.Common.{sym, subst}
use Rattle.rtc_plain_media.specs.Feedback.{EachBegins}
use Rattle.rtc_plain_media.specs.MediaContents.{MediaContents}
use Rattle.rtc_plain_media.specs.Sendings.{taken_begin}
use Rattle.rtc_plain_media.proofs.sendings.datagrams_begin_with_80.Goals as goal

pub returns : goal.returns
returns c = λ p q acts fresh moved. taken_begin p q acts (subst (λ (m : MediaContents). EachBegins m.datagrams) (sym fresh) tt) moved
