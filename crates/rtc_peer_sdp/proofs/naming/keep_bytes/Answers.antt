use Rattle.std.proofs.Common.{◌≡◌, true, false, sym, subst, List, ℕ}
use Rattle.std.specs.Str.{IsUtf8}
use Rattle.rtc_wire_text.proofs.TokenLemmas.{token_bytes_utf8}
use Rattle.rtc_peer_core.specs.Names.{kept_token_bytes}
use Rattle.rtc_peer_sdp.proofs.Tokens.{kept_bytes_pass}
use Rattle.rtc_peer_sdp.proofs.naming.keep_bytes.Goals as goal

pub unreachable-requires : goal.unreachable-requires
unreachable-requires c =
    let utf8 : IsUtf8 (kept_token_bytes c.args.name.now) = token_bytes_utf8 (kept_token_bytes c.args.name.now) (kept_bytes_pass c.args.name.now) in
    let P : List ℕ → Type 0 = λ (bs : List ℕ). IsUtf8 bs in
    let no : false ≡ true = c.in-Err.ensures.succeeds (subst P (sym c.in_ok-kept.ensures) utf8) in
    cc
