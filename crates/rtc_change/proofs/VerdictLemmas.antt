-- What holds of a text that is not refused.
use Rattle.std.proofs.Common.{◌≡◌, false, map, Option, Some, None, refl}
use Rattle.rtc_sdp_values.specs.declared.sdp.Sdp.{Sdp}
use Rattle.rtc_peer_rows.specs.declared.why.Why.{Why}
use Rattle.rtc_sdp_values.specs.Mids.{AreDistinct}
use Rattle.rtc_change.specs.Held.{Held, Asked}
use Rattle.rtc_peer_rows.specs.ParsedLines.{parsed_lines}
use Rattle.rtc_peer_rows.specs.Table.{IsTable}
use Rattle.rtc_change.specs.TableAfter.{table_after}
use Rattle.std.specs.Option.{option_or}
use Rattle.rtc_peer_rows.specs.Verdict.{first_refusal}
use Rattle.rtc_change.specs.Plans.{
  is_offer,
  may_restart,
  no_lines,
  both_lite,
  no_credentials,
  unasked_restart,
  no_fingerprint,
  init_refusal,
  inconsistent,
  wrong_news,
  remote_refusal,
  side_verdict,
  head_verdict,
  verdict,
}
use Rattle.rtc_sdp_values.specs.Sdp.{creds_of, sdp_fingerprint, sdp_sctp_init}
use Rattle.rtc_change.proofs.ConsistentMids.{distinct_parsed}
use Rattle.rtc_change.proofs.TableAfterLemmas.{table_after_is_table}

-- none of the causes holds
pub record Unrefused (held : Held) (asked : Option Asked) (text : Sdp) : Type 0 where
  pub lines : no_lines asked (parsed_lines text) ≡ None
  pub lite : both_lite held.lite text.ice_lite ≡ None
  pub creds : no_credentials (creds_of text) ≡ None
  pub restart : unasked_restart (may_restart asked) held.remote_creds (creds_of text) ≡ None
  pub known : no_fingerprint held.has_fingerprint (sdp_fingerprint text) ≡ None
  pub init : init_refusal held.sctp_inited held.sctp_kept (sdp_sctp_init text) ≡ None
  pub fits : inconsistent text ≡ None
  pub allowed : first_refusal held.lines (is_offer asked) false 0 (parsed_lines text) ≡ None
  pub news : wrong_news held.lines asked (parsed_lines text) ≡ None

neither : {A : Type 0} (one next : Option A) → option_or one next ≡ None → (one ≡ None) × (next ≡ None)
neither None next none = (refl, none)
neither (Some first) next none = absurd (cc)

untold : (why : Option Why) → remote_refusal why ≡ None → why ≡ None
untold None none = refl
untold (Some why) none = absurd (cc)

pub unrefused : (held : Held) (asked : Option Asked) (text : Sdp) → verdict held asked text ≡ None → Unrefused held asked text
unfolding verdict head_verdict side_verdict
unrefused held asked text none =
    let all = neither _ _ none in
    let head = neither _ _ all.0 in
    let body = neither _ _ all.1 in
    let behind = neither _ _ head.1 in
    let kept = neither _ _ behind.1 in
    let lite = neither _ _ behind.0 in
    let creds = neither _ _ lite.1 in
    let restart = neither _ _ creds.1 in
    record {
      lines = head.0;
      lite = lite.0;
      creds = creds.0;
      restart = restart.0;
      known = (neither _ _ restart.1).0;
      init = kept.0;
      fits = (neither _ _ kept.1).0;
      allowed = untold _ body.0;
      news = (neither _ _ body.1).0;
    }

-- a text that is not refused has distinct mids
pub unrefused_distinct : (held : Held) (asked : Option Asked) (text : Sdp) → verdict held asked text ≡ None → AreDistinct (map (λ line. line.mid) (parsed_lines text))
unrefused_distinct held asked text none = distinct_parsed text (unrefused held asked text none).fits

-- a text that is not refused leaves a table of a table
pub unrefused_table : (held : Held) (asked : Option Asked) (text : Sdp)
    → IsTable held.lines → verdict held asked text ≡ None → IsTable (table_after held.lines (parsed_lines text) (is_offer asked))
unrefused_table held asked text table none =
    table_after_is_table held.lines (is_offer asked) (parsed_lines text) table (unrefused held asked text none).allowed (unrefused_distinct held asked text none)
