-- SSRCs that a peer draws.
use Rattle.std.specs.Prelude.{
  ◌+◌,
  ◌%◌,
  ◌^◌,
  ◌==◌,
  ◌||◌,
  zero,
  suc,
  ℕ,
  Bool,
  List,
  [],
  ◌∷◌,
  ◌++◌,
  length,
  if◌then◌else◌,
  Option,
  Some,
  None,
}
use Rattle.std.specs.List.{list_any}
use Rattle.rtc_sdp_values.specs.declared.media_kind.MediaKind.{MediaKind}
use Rattle.rtc_sdp_values.specs.declared.media_kind.MediaKind.TheVariants.{Audio, Video}
use Rattle.rtc_sdp_values.specs.declared.ssrc.Ssrc.{Ssrc}
use Rattle.rtc_sdp_values.specs.declared.simulcast.Simulcast.{Simulcast}
use Rattle.rtc_parts.specs.MediaMeaning.{MediaMeaning}
use Rattle.rtc_parts.specs.Draws.{Draws}

-- an SSRC, with its RTX SSRC
abbrev pub Pair : Type 0
Pair = Ssrc × Option Ssrc

abbrev pub rtx_numbers : Option Ssrc → List ℕ
rtx_numbers None = []
rtx_numbers (Some rtx) = rtx.0 ∷ []

-- the numbers of a pair, in the order in which they are drawn
abbrev pub pair_numbers : Pair → List ℕ
pair_numbers pair = rtx_numbers pair.1 ++ pair.0.0 ∷ []

abbrev pub is_number : ℕ → List ℕ → Bool
is_number n numbers = list_any (λ m. m == n) numbers

-- the first number counted on that is not used, trying so many; if all are used, the first of them
unfoldable pub unused : (ℕ → Bool) → ℕ → ℕ → ℕ → ℕ
unused used first zero n = first
unused used first (suc tries) n = if used n then unused used first tries ((n + 1) % 2 ^ 32) else n

-- the SSRC of a draw, given those drawn earlier in the call
abbrev pub drawn_source : (ℕ → Bool) → List ℕ → ℕ → ℕ
drawn_source used earlier n = unused (λ m. used m || is_number m earlier) n (2 ^ 32) n

module _ {N : Type 0} (draws : Draws N) (used : ℕ → Bool) where
  abbrev pub next_source : List ℕ → N → ℕ
  next_source earlier ids = drawn_source used earlier (draws.drawn ids % 2 ^ 32)

  -- for video the RTX SSRC is drawn first
  abbrev pub next_pair : MediaKind → List ℕ → N → Pair
  next_pair Audio earlier ids = (record { 0 = next_source earlier ids }, None)
  next_pair Video earlier ids = (
    record { 0 = next_source (earlier ++ next_source earlier ids ∷ []) (draws.after ids) },
    Some (record { 0 = next_source earlier ids }),
  )

  abbrev pub after_pair : MediaKind → N → N
  after_pair Audio ids = draws.after ids
  after_pair Video ids = draws.after (draws.after ids)

  -- so many pairs, one after another
  abbrev pub next_pairs : MediaKind → List ℕ → ℕ → N → List Pair
  next_pairs kind earlier zero ids = []
  next_pairs kind earlier (suc count) ids =
      next_pair kind earlier ids ∷ next_pairs kind (earlier ++ pair_numbers (next_pair kind earlier ids)) count (after_pair kind ids)

  abbrev pub after_pairs : MediaKind → ℕ → N → N
  after_pairs kind zero ids = ids
  after_pairs kind (suc count) ids = after_pairs kind count (after_pair kind ids)

-- a pair for each layer that is sent, and one if there are no layers
abbrev pub pair_count : Option Simulcast → ℕ
pair_count None = 1
pair_count (Some simulcast) = length simulcast.send

-- whether a stream of a media part has an SSRC
abbrev pub has_source : {M E X T W : Type 0} → MediaMeaning M E X T W → M → ℕ → Bool
has_source m p n = m.used p (record { 0 = n })
