-- The ids of one parity as three levels of bits. No public clause cites this file.
use Rattle.std.specs.Prelude.{◌≡◌, ◌/◌, ◌<◌, ℕ, List, length}
use Rattle.std.specs.List.{filter}
use Rattle.rtc_sctp_values.specs.Words.{has_bit, IsSummary}
use Rattle.rtc_channels.specs.Ids.{all_ids}

-- the ids of a parity whose bits are set
unfoldable pub ids_of : ℕ → List ℕ → List ℕ
ids_of parity words = filter (λ id. has_bit words (id / 2)) (all_ids parity)

-- three lists, each of which sums up the one before
pub record AreLevels (parity : ℕ) (words groups top : List ℕ) : Type 0 where
  pub bit : parity < 2
  pub word_count : length words ≡ 512
  pub group_count : length groups ≡ 8
  pub top_count : length top ≡ 1
  pub lower : IsSummary groups words
  pub upper : IsSummary top groups
