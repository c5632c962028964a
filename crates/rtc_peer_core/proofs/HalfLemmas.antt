-- This side's half of a start by session descriptions: the one that is there, or else a drawn one.
use Rattle.std.proofs.Common.{◌≡◌, ◌<◌, ◌++◌, ℕ, zero, suc, List, [], ◌∷◌, Option, Some, None, refl, ap, arith}
use Rattle.std.specs.Int.{w32, to_be_bytes}
use Rattle.std.specs.List.{AllByRecursion}
use Rattle.base64.specs.GeneralPurpose.{IsBytes}
use Rattle.rtc_parts.specs.Draws.{Draws}
use Rattle.rtc_sctp_values.specs.InitChunk.{init_chunk, nonzero_tag, receive_budget, drawn_word, drawn_chunk}
use Rattle.rtc_sctp_values.specs.InitHalves.{InitHalves, with_remote, with_local, local_half}
use Rattle.rtc_sctp_values.specs.SnapHalves.{halves_of}
use Rattle.rtc_sctp_values.proofs.ChunkLemmas.{chunk_of_text-chunk_text}
use Rattle.rtc_peer_core.specs.SdpHalves.{half_or, with_own, pending_halves, joined_by}
use Rattle.rtc_peer_core.specs.Stance.{Stance}
use Rattle.rtc_peer_core.proofs.Alls.{all-append}
use Rattle.rtc_peer_core.proofs.BuiltPeers.{high_first_small}
use Rattle.rtc_peer_core.proofs.StanceCalls.{IsReadBack}

-- ---- a chunk that is drawn is one of bytes

-- what is below 256 each is below 256 at each place
all_bytes : (bytes : List ℕ) → AllByRecursion (λ byte. byte < 256) bytes → IsBytes bytes
all_bytes [] h i = omega arith
all_bytes (byte ∷ bytes) h zero = h.0
all_bytes (byte ∷ bytes) h (suc i) = all_bytes bytes h.1 i

chunk_small : (tag budget first : ℕ) → AllByRecursion (λ byte. byte < 256) (init_chunk tag budget first)
unfolding init_chunk
chunk_small tag budget first = (
  omega arith,
  (
    omega arith,
    (
      omega arith,
      (
        omega arith,
        all-append (λ byte. byte < 256) (to_be_bytes w32 tag) (to_be_bytes w32 budget ++ 255 ∷ 255 ∷ 255 ∷ 255 ∷ to_be_bytes w32 first)
            (high_first_small 4 tag)
            (all-append (λ byte. byte < 256) (to_be_bytes w32 budget) (255 ∷ 255 ∷ 255 ∷ 255 ∷ to_be_bytes w32 first) (high_first_small 4 budget)
            (omega arith, (omega arith, (omega arith, (omega arith, high_first_small 4 first))))),
      ),
    ),
  ),
)

module _ {N : Type 0} (draws : Draws N) where
  -- so its text gives it back
  pub drawn_read_back : (limit : ℕ) (ids : N) → IsReadBack (drawn_chunk draws limit ids)
  drawn_read_back limit ids =
      chunk_of_text-chunk_text (drawn_chunk draws limit ids)
      (all_bytes (drawn_chunk draws limit ids)
      (chunk_small (nonzero_tag (drawn_word draws ids)) (receive_budget limit) (drawn_word draws (draws.after ids))))

  half_same : (local : Option (List ℕ)) (limit : ℕ) (ids : N) → local_half draws local limit ids ≡ half_or (drawn_chunk draws limit ids) local
  half_same None limit ids = refl
  half_same (Some chunk) limit ids = refl

  pub with_local_own : (halves : InitHalves) (ids : N) → with_local draws halves ids ≡ with_own (drawn_chunk draws halves.limit ids) halves
  with_local_own halves ids =
      ap (λ (own : List ℕ). record halves { local = Some own }) (half_same halves.local halves.limit ids)

  -- so it is in the halves of a start
  pub joined_same : (s : Stance) (chunk : Option (List ℕ)) (ids : N)
      → halves_of draws s.max_message_size s.snap chunk ids ≡ joined_by s (drawn_chunk draws (pending_halves s).limit ids) chunk
  joined_same s None ids = refl
  joined_same s (Some chunk) ids =
      ap (λ (own : List ℕ). Some (record (with_remote chunk (pending_halves s)) { local = Some own }))
      (half_same (pending_halves s).local (pending_halves s).limit ids)
