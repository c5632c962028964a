-- Names and sources that are drawn have the form of what lines carry whole.
use Rattle.std.proofs.Common.{◌≡◌, ◌+◌, ◌/◌, ◌%◌, ◌<◌, ◌^◌, ◌||◌, ltb, eqb, ℕ, zero, suc, Bool, true, false, cond, List, [], ◌∷◌, ◌++◌, length, take, Option, Some, None, refl, arith}
use Rattle.std.specs.Prelude.{IfSome, filter}
use Rattle.std.specs.List.{AllByRecursion, list_all}
use Rattle.std.specs.Fmt.{decimal, digits, digits_onto, digit_glyph}
use Rattle.std.proofs.lemmas.Bool.{lt-ltb}
use Rattle.std.proofs.lemmas.Bool.Decides.{nat_tests}
use Rattle.rtc_wire_text.specs.Tokens.{is_token_byte, is_token}
use Rattle.rtc_wire_text.proofs.TokenLemmas.{both}
use Rattle.rtc_sdp_values.specs.declared.media_kind.MediaKind.{MediaKind}
use Rattle.rtc_sdp_values.specs.declared.media_kind.MediaKind.TheVariants.{Audio, Video}
use Rattle.rtc_parts.specs.Draws.{Draws}
use Rattle.rtc_peer_core.specs.declared.peer.Peer.{Peer}
use Rattle.rtc_peer_core.specs.Calls.{Wanted, staged_media, uses_source, mid_drawn, stream_drawn, track_drawn}
use Rattle.rtc_peer_core.specs.Formed.{IsFormedSimulcast, IsFormedSource, IsFormedAdded}
use Rattle.rtc_peer_core.specs.Meanings.{Meanings}
use Rattle.rtc_peer_core.specs.Names.{kept_token_bytes, some_bytes, kept_name, name_of}
use Rattle.rtc_peer_core.specs.Sources.{is_number, unused, next_source, next_pair, after_pair, next_pairs, pair_numbers, pair_count}

-- ---- names

bytes_make_token : (byte : ℕ) (bytes : List ℕ) → list_all is_token_byte (byte ∷ bytes) ≡ true → is_token (byte ∷ bytes) ≡ true
bytes_make_token byte bytes h =
    let some : ltb 0 (length (byte ∷ bytes)) ≡ true = lt-ltb 0 (length (byte ∷ bytes)) (omega arith) in
    rw (some, h) refl

filtered_token : (name : List ℕ) → list_all is_token_byte (filter is_token_byte name) ≡ true
filtered_token [] = refl
filtered_token (byte ∷ name) = by (is_token_byte byte) refl (filtered_token name)
  where
    by : (b : Bool) → is_token_byte byte ≡ b → list_all is_token_byte (filter is_token_byte name) ≡ true
        → list_all is_token_byte (cond b (byte ∷ filter is_token_byte name) (filter is_token_byte name)) ≡ true
    by true is rest = rw is rest
    by false is rest = rest

taken_token : (count : ℕ) (bytes : List ℕ) → list_all is_token_byte bytes ≡ true → list_all is_token_byte (take count bytes) ≡ true
taken_token zero bytes h = refl
taken_token (suc count) [] h = refl
taken_token (suc count) (byte ∷ bytes) h =
    let parts = both (is_token_byte byte) (list_all is_token_byte bytes) h in
    rw parts.0 (taken_token count bytes parts.1)

some_token : (bytes : List ℕ) → list_all is_token_byte bytes ≡ true → IfSome (some_bytes bytes) (λ name. is_token name ≡ true)
some_token [] h = tt
some_token (byte ∷ bytes) h = bytes_make_token byte bytes h

kept_token : (name : Option (List ℕ)) → IfSome (kept_name name) (λ kept. is_token kept ≡ true)
kept_token None = tt
kept_token (Some name) = some_token (kept_token_bytes name) (taken_token 64 (filter is_token_byte name) (filtered_token name))

-- the digits of a number
glyph_token : (n : ℕ) → is_token_byte (digit_glyph false (n % 10)) ≡ true
glyph_token n = let small : n % 10 < 10 = omega arith in grind (arith, nat_tests)

onto_token : (count n : ℕ) (bytes : List ℕ) → list_all is_token_byte bytes ≡ true
    → list_all is_token_byte (digits_onto count 10 false n bytes) ≡ true
onto_token zero n bytes h = h
onto_token (suc count) n bytes h =
    let more : list_all is_token_byte (digit_glyph false (n % 10) ∷ bytes) ≡ true = rw (glyph_token n) h in
    either (eqb (n / 10) 0) _ _ more (onto_token count (n / 10) (digit_glyph false (n % 10) ∷ bytes) more)
  where
    either : (b : Bool) (xs ys : List ℕ) → list_all is_token_byte xs ≡ true → list_all is_token_byte ys ≡ true
        → list_all is_token_byte (cond b xs ys) ≡ true
    either true xs ys p q = p
    either false xs ys p q = q

decimal_token : (n : ℕ) → list_all is_token_byte (decimal n) ≡ true
unfolding digits
decimal_token n = onto_token 64 n [] refl

-- a name that is given is a token, and so is one that is drawn behind a letter
name_token : {N : Type 0} (draws : Draws N) (letter : ℕ) (name : Option (List ℕ)) (ids : N) → is_token_byte letter ≡ true
    → IfSome name (λ kept. is_token kept ≡ true) → is_token (name_of draws (letter ∷ []) name ids) ≡ true
name_token draws letter (Some name) ids h kept = kept
name_token draws letter None ids h kept = bytes_make_token letter (decimal (draws.drawn ids)) (rw h (decimal_token (draws.drawn ids)))

-- ---- sources

unused_small : (used : ℕ → Bool) (first tries n : ℕ) → first < 2 ^ 32 → n < 2 ^ 32 → unused used first tries n < 2 ^ 32
unfolding unused
unused_small used first zero n small here = small
unused_small used first (suc tries) n small here = by (used n) (unused_small used first tries ((n + 1) % 2 ^ 32) small (omega arith))
  where
    by : (b : Bool) → unused used first tries ((n + 1) % 2 ^ 32) < 2 ^ 32
        → cond b (unused used first tries ((n + 1) % 2 ^ 32)) n < 2 ^ 32
    by true later = later
    by false later = here

module _ {N : Type 0} (draws : Draws N) (used : ℕ → Bool) where
  source_small : (earlier : List ℕ) (ids : N) → next_source draws used earlier ids < 2 ^ 32
  source_small earlier ids =
      let first : draws.drawn ids % 2 ^ 32 < 2 ^ 32 = omega arith in
      unused_small (λ m. used m || is_number m earlier) (draws.drawn ids % 2 ^ 32) (2 ^ 32) (draws.drawn ids % 2 ^ 32) first first

  pair_formed : (kind : MediaKind) (earlier : List ℕ) (ids : N) → IsFormedSource (next_pair draws used kind earlier ids)
  pair_formed Audio earlier ids = record { own = source_small earlier ids; rtx = tt }
  pair_formed Video earlier ids = record {
    own = source_small (earlier ++ next_source draws used earlier ids ∷ []) (draws.after ids);
    rtx = source_small earlier ids;
  }

  -- drawn sources have 32 bits
  pub pairs_formed : (kind : MediaKind) (earlier : List ℕ) (count : ℕ) (ids : N)
      → AllByRecursion IsFormedSource (next_pairs draws used kind earlier count ids)
  pairs_formed kind earlier zero ids = tt
  pairs_formed kind earlier (suc count) ids = (
    pair_formed kind earlier ids,
    pairs_formed kind (earlier ++ pair_numbers (next_pair draws used kind earlier ids)) count (after_pair draws used kind ids),
  )

-- A line that is staged carries what is formed, where its layers are.
pub staged_media_formed : {I D S M E X T W N : Type 0} (m : Meanings I D S M E X T W N) (p : Peer I D S M N) (wanted : Wanted)
    → IfSome wanted.simulcast IsFormedSimulcast → IsFormedAdded (staged_media m p wanted)
staged_media_formed m p wanted layers =
    let stream = name_token m.ids 115 (kept_name wanted.stream) (mid_drawn m p.ids) refl (kept_token wanted.stream) in
    let track = name_token m.ids 116 (kept_name wanted.track) (stream_drawn m p.ids wanted) refl (kept_token wanted.track) in
    record {
      simulcast = layers;
      msid = record { stream = stream; track = track };
      cname = track;
      ssrcs = pairs_formed m.ids (uses_source m p) wanted.kind [] (pair_count wanted.simulcast) (track_drawn m p.ids wanted);
    }
