use Rattle.rtc_wire_text.proofs.TokenLemmas.{token_bytes_utf8, short_token_bytes}
use Rattle.rtc_wire_text.proofs.short_token.ShortToken.as_str.Goals as goal

pub unreachable-requires : goal.unreachable-requires
unreachable-requires c = c.in-Err.ensures.cases.0 (rw c.as_bytes.ensures.value (token_bytes_utf8 c.args.self.now (short_token_bytes c.args.self.now c.as_bytes.ensures.token)))
