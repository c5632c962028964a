-- What a peer holds that an offer or an answer is judged by.
use Rattle.std.specs.Prelude.{ℕ, Bool, List, Option, nat_eq}
use Rattle.std.specs.Bool.{beq}
use Rattle.std.specs.Cmp.{IsEquivalence, and_equiv, bool_eq_equiv, on_equiv}
use Rattle.std.specs.Cmp.Lexicographic.{pointwise, lists_equiv, nat_list_eq_equiv, options_equiv}
use Rattle.std.specs.Option.{option_eq}
use Rattle.std.specs.Ordering.{on, eq_of_both}
use Rattle.rtc_sdp_values.specs.contracts.ice_creds.IceCredsPartialEq.TheImpl as creds_eq
use Rattle.rtc_sdp_values.specs.contracts.ice_creds.IceCredsEq.TheImpl.Laws as creds_laws
use Rattle.rtc_sdp_values.specs.contracts.line_row.LineRowPartialEq.TheImpl as row_eq
use Rattle.rtc_sdp_values.specs.contracts.line_row.LineRowEq.TheImpl.Laws as row_laws
use Rattle.rtc_sdp_values.specs.declared.ice_creds.IceCreds.{IceCreds}
use Rattle.rtc_sdp_values.specs.declared.line_row.LineRow.{LineRow}

pub record Held : Type 0 where
  pub lines : List LineRow
  -- whether this side's ICE agent is lite
  pub lite : Bool
  -- the credentials of the other side, once known
  pub remote_creds : Option IceCreds
  -- whether a fingerprint of the other side is known
  pub has_fingerprint : Bool
  -- whether the association is started, and the other side's SNAP INIT chunk as text, if it was started by both chunks
  -- (draft-hancke-tsvwg-snap)
  pub sctp_inited : Bool
  pub sctp_kept : Option (List ℕ)

-- equal credentials, if there are any, and equal texts
abbrev pub same_known_creds : Option IceCreds → Option IceCreds → Bool
same_known_creds = option_eq (creds_eq.ghosts).eq

abbrev pub same_text : Option (List ℕ) → Option (List ℕ) → Bool
same_text = option_eq (pointwise nat_eq)

-- two peers hold the same
abbrev pub same_held : Held → Held → Bool
same_held =
    eq_of_both (on (λ (h : Held). h.lines) (pointwise (row_eq.ghosts).eq))
    (eq_of_both (on (λ (h : Held). h.lite) beq)
    (eq_of_both (on (λ (h : Held). h.remote_creds) same_known_creds)
    (eq_of_both (on (λ (h : Held). h.has_fingerprint) beq)
    (eq_of_both (on (λ (h : Held). h.sctp_inited) beq) (on (λ (h : Held). h.sctp_kept) same_text)))))

pub same_held_equiv : IsEquivalence same_held
same_held_equiv =
    and_equiv (on_equiv (λ (h : Held). h.lines) (lists_equiv row_laws.laws-law))
    (and_equiv (on_equiv (λ (h : Held). h.lite) bool_eq_equiv)
    (and_equiv (on_equiv (λ (h : Held). h.remote_creds) (options_equiv creds_laws.laws-law))
    (and_equiv (on_equiv (λ (h : Held). h.has_fingerprint) bool_eq_equiv)
    (and_equiv (on_equiv (λ (h : Held). h.sctp_inited) bool_eq_equiv)
    (on_equiv (λ (h : Held). h.sctp_kept) (options_equiv nat_list_eq_equiv))))))

-- what an answer is judged with: the rows that its offer added, whether its offer restarted ICE, and whether it had an `a=sctp-init`
pub record Asked : Type 0 where
  pub added : List LineRow
  pub restarts : Bool
  pub says_init : Bool
