-- Rows whose mids are short tokens.
use Rattle.std.proofs.Common.{◌≡◌, ◌+◌, ℕ, Bool, true, List, [], ◌∷◌, length, drop, Option, Some, None, refl}
use Rattle.std.specs.Prelude.{IfSome}
use Rattle.std.specs.List.{AllByRecursion}
use Rattle.rtc_wire_text.specs.Tokens.{is_short_token}
use Rattle.rtc_sdp_values.specs.LineRow.{row_mid}
use Rattle.rtc_sdp_values.specs.declared.line_kind.LineKind.{LineKind}
use Rattle.rtc_sdp_values.specs.declared.line_kind.LineKind.TheVariants.{Audio as AudioLine, Video as VideoLine, Application}
use Rattle.rtc_sdp_values.specs.declared.line_row.LineRow.{LineRow}
use Rattle.rtc_change.specs.declared.change.Change.{Change}
use Rattle.rtc_change.specs.declared.change.Change.TheVariants.{AddMedia, AddApp, AddChannel, Direction as SetDirection, IceRestart}
use Rattle.rtc_peer_rows.specs.declared.parsed_line.ParsedLine.{ParsedLine}
use Rattle.rtc_change.specs.PendingOffer.{added_rows}
use Rattle.rtc_peer_rows.specs.Table.{is_app, app_of}
use Rattle.rtc_change.specs.TableAfter.{table_after, rows_after, row_after, app_mid}
use Rattle.rtc_peer_core.specs.Formed.{HaveTokens, AddTokens}
use Rattle.rtc_peer_core.proofs.Alls.{all-append, all-drop, all-find}

pub added_tokens : (place : ℕ) (changes : List Change) → AddTokens changes → HaveTokens (added_rows place changes)
added_tokens place [] h = tt
added_tokens place (AddMedia media ∷ changes) h = (h.0, added_tokens (place + 1) changes h.1)
added_tokens place (AddApp mid ∷ changes) h = (h.0, added_tokens (place + 1) changes h.1)
added_tokens place (AddChannel id config ∷ changes) h = added_tokens place changes h
added_tokens place (SetDirection mid dir ∷ changes) h = added_tokens place changes h
added_tokens place (IceRestart creds keeps ∷ changes) h = added_tokens place changes h

-- the mid of each line is a short token
abbrev pub NameTokens : List ParsedLine → Type 0
NameTokens said = AllByRecursion (λ line. is_short_token line.mid ≡ true) said

app_token : (rows : List LineRow) (mid : List ℕ) → HaveTokens rows → is_short_token mid ≡ true → is_short_token (app_mid mid (app_of rows)) ≡ true
app_token rows mid tokens token = by (app_of rows) (all-find (λ row. is_short_token (row_mid row) ≡ true) is_app rows tokens)
  where
    by : (row : Option LineRow) → IfSome row (λ r. is_short_token (row_mid r) ≡ true) → is_short_token (app_mid mid row) ≡ true
    by None h = token
    by (Some row) h = h

after_token : (rows : List LineRow) (offer : Bool) (place : ℕ) (said : ParsedLine) → HaveTokens rows → is_short_token said.mid ≡ true → is_short_token (row_mid (row_after rows offer place said)) ≡ true
after_token rows offer place said tokens token = by said.kind refl
  where
    by : (kind : LineKind) → said.kind ≡ kind → is_short_token (row_mid (row_after rows offer place said)) ≡ true
    by AudioLine is = rw is token
    by VideoLine is = rw is token
    by Application is = rw is (app_token rows said.mid tokens token)
    by _ is = rw is token

after_tokens : (rows : List LineRow) (offer : Bool) (place : ℕ) (said : List ParsedLine) → HaveTokens rows → NameTokens said → HaveTokens (rows_after rows offer place said)
after_tokens rows offer place [] tokens says = tt
after_tokens rows offer place (line ∷ said) tokens says = (after_token rows offer place line tokens says.0, after_tokens rows offer (place + 1) said tokens says.1)

-- the rows that a text leaves
pub table_after_tokens : (rows : List LineRow) (said : List ParsedLine) (offer : Bool) → HaveTokens rows → NameTokens said → HaveTokens (table_after rows said offer)
table_after_tokens rows said offer tokens says =
    all-append (λ row. is_short_token (row_mid row) ≡ true) (rows_after rows offer 0 said) (drop (length said) rows) (after_tokens rows offer 0 said tokens says) (all-drop (λ row. is_short_token (row_mid row) ≡ true) (length said) rows tokens)
