-- The peer that is built is formed.
use Rattle.std.proofs.Common.{◌≡◌, ◌/◌, ◌%◌, ◌<◌, ◌≤◌, ◌^◌, ltb, ℕ, zero, suc, true, List, [], ◌∷◌, ◌++◌, length, refl, subst, arith, length-append}
use Rattle.std.specs.List.{AllByRecursion, list_all}
use Rattle.std.specs.Int.{to_be_bytes, bytes_high_first, byte_at, w32}
use Rattle.std.specs.Prelude.{slice_index}
use Rattle.std.specs.declared.alloc.Global.{Global}
use Rattle.std.proofs.lemmas.Bool.{lt-ltb}
use Rattle.sha2.specs.Sha256.{sha256, digest_bytes, final_hash, initial_hash_256}
use Rattle.sha2.proofs.Facts256.{length-sha256}
use Rattle.std.proofs.lemmas.Bool.Decides.{nat_tests}
use Rattle.rtc_wire_text.specs.Tokens.{is_token_byte, is_token}
use Rattle.rtc_wire_text.proofs.CutLemmas.{token_lacks, no_token_byte}
use Rattle.rtc_peer_core.specs.declared.peer.Peer.{Peer}
use Rattle.std.specs.Prelude.{codes, IfSome, Option, None, Some}
use Rattle.rtc_sdp_values.specs.Fingerprint.{certificate_fingerprint}
use Rattle.rtc_sdp_values.specs.declared.fingerprint.Fingerprint.{Fingerprint}
use Rattle.rtc_sdp_values.specs.declared.ice_creds.IceCreds.{IceCreds}
use Rattle.rtc_peer_core.specs.Built.{AreFresh, Builds, creds_or, session_drawn}
use Rattle.rtc_peer_core.specs.Creds.{lower_hex_digit, hex_digits, drawn_creds}
use Rattle.rtc_peer_core.specs.Meanings.{Meanings, PartsLaws}
use Rattle.rtc_peer_core.specs.Stance.{stance_of}
use Rattle.rtc_sdp_codecs.specs.FormedCodecs.{AreFormedRows, AreFormedExtensions}
use Rattle.rtc_config.specs.RtcConfig.{PeerConfig}
use Rattle.rtc_parts.specs.Draws.{Draws}
use Rattle.rtc_parts.specs.MediaActs.{ByOther, Configured}
use Rattle.rtc_peer_core.specs.Formats.{config_formats, AreFormedFormats}
use Rattle.rtc_peer_core.specs.Formed.{IsSdpWord, AreSdpCreds, IsSha256, IsFormed}
use Rattle.rtc_peer_core.proofs.Alls.{all-append, all_token}

-- ---- credentials: letters and digits

hex_digit_is_token : (n : ℕ) → n < 16 → is_token_byte (lower_hex_digit n) ≡ true
hex_digit_is_token n small = grind (arith, nat_tests)

hex_digits_are_token : (count n : ℕ) → list_all is_token_byte (hex_digits count n) ≡ true
hex_digits_are_token zero n = refl
hex_digits_are_token (suc count) n =
    all_token (hex_digits count (n / 16)) (lower_hex_digit (n % 16) ∷ []) (hex_digits_are_token count (n / 16)) (rw (hex_digit_is_token (n % 16) (omega arith)) refl)

length-hex_digits : (count n : ℕ) → length (hex_digits count n) ≡ count
length-hex_digits zero n = refl
length-hex_digits (suc count) n = omega (arith, length-append (hex_digits count (n / 16)) (lower_hex_digit (n % 16) ∷ []), length-hex_digits count (n / 16))

-- token bytes make a word
token_word : (most : ℕ) (text : List ℕ) → 0 < length text → length text ≤ most → list_all is_token_byte text ≡ true → IsSdpWord most text
token_word most text some size bytes =
    let a : ltb 0 (length text) ≡ true = lt-ltb 0 (length text) some in
    let token : is_token text ≡ true = rw (a, bytes) refl in
    record {
      some = some;
      size = size;
      space = token_lacks 32 (no_token_byte 32 (omega arith)) text token;
      line = token_lacks 10 (no_token_byte 10 (omega arith)) text token;
    }

-- the credentials of a draw
pub drawn_creds_words : (n : ℕ) → AreSdpCreds (drawn_creds n)
unfolding drawn_creds
drawn_creds_words n =
    let digits : List ℕ = hex_digits 16 n in
    let bytes : list_all is_token_byte digits ≡ true = hex_digits_are_token 16 n in
    let count : length digits ≡ 16 = length-hex_digits 16 n in
    let twice : length (digits ++ digits) ≡ 32 = omega (arith, length-append digits digits) in
    record {
      ufrag = token_word 255 (117 ∷ digits) (omega arith) (omega arith) bytes;
      pass = token_word 256 (digits ++ digits) (omega arith) (omega arith) (all_token digits digits bytes bytes);
    }

-- ---- fingerprints: bytes of a digest

byte_at_small : (k n : ℕ) → byte_at k n < 256
byte_at_small zero n = omega arith
byte_at_small (suc k) n = omega arith

pub high_first_small : (k n : ℕ) → AllByRecursion (λ byte. byte < 256) (bytes_high_first k n)
high_first_small zero n = tt
high_first_small (suc k) n = (byte_at_small k n, high_first_small k n)

digest_small : (h : List ℕ) (n : ℕ) → AllByRecursion (λ byte. byte < 256) (digest_bytes h n)
unfolding digest_bytes
digest_small h zero = tt
digest_small h (suc n) = all-append (λ byte. byte < 256) (digest_bytes h n) (to_be_bytes w32 (slice_index h n)) (digest_small h n) (high_first_small 4 (slice_index h n))

sha256_small : (m : List ℕ) → AllByRecursion (λ byte. byte < 256) (sha256 m)
unfolding sha256
sha256_small m = digest_small (final_hash initial_hash_256 m) 8

-- the fingerprint of a certificate
fingerprint_by_sha256 : (cert : List ℕ) (made : Fingerprint) → certificate_fingerprint (codes "sha-256") cert ≡ Some made → IsSha256 made
fingerprint_by_sha256 cert made is =
    let same : (let by : Fingerprint = record { hash_func = codes "sha-256"; bytes = sha256 cert } in by) ≡ made = cc in
    subst IsSha256 same (record { name = refl; size = length-sha256 cert; bytes = sha256_small cert })

-- the codecs and header extensions of a config are formed where both are
pub formats_formed : (config : PeerConfig) → AreFormedRows config.codecs.rows → AreFormedExtensions config.extensions.rows
    → AreFormedFormats (config_formats config)
formats_formed config codecs extensions = record { codecs = codecs; extensions = extensions }

-- credentials that are set are words, and so are drawn ones
creds_are_words : {N : Type 0} (draws : Draws N) (set : Option IceCreds) (ids : N) → IfSome set AreSdpCreds → AreSdpCreds (creds_or draws set ids)
creds_are_words draws None ids h = drawn_creds_words (draws.drawn ids)
creds_are_words draws (Some creds) ids h = h

-- The peer that is built is formed, where the credentials of its config are words, its codecs and header extensions are formed, numbers
-- that are drawn have 64 bits, and the longest message that its streams take is told in 32.
pub built_formed : {I D S M E X T W N : Type 0} (m : Meanings I D S M E X T W N) → PartsLaws m → (alloc : Global) (config : PeerConfig)
    (start : ℕ) (ice : I) (dtls : D) (association : S) (media : M) (ids : N) (p : Peer I D S M N) → AreFresh m ice dtls association media
    → IfSome config.ice.credentials AreSdpCreds → AreFormedFormats (config_formats config) → m.ids.drawn ids < 2 ^ 64 → p.sctp.local_max < 2 ^ 32
    → Builds m alloc config start ice dtls association media ids p → IsFormed (stance_of m p)
built_formed m laws alloc config start ice dtls association media ids p fresh tokens formats small size built =
    let none : (m.ice.settings ice).candidates ≡ [] = laws.ice.fresh_candidates ice fresh.fresh_ice in
    let timed = laws.ice.rto_settings ice built.timed _ _ _ built.by_rto in
    let lite = laws.ice.lite_settings built.timed built.lite_set config.ice.lite built.by_lite in
    let local = laws.ice.local_settings built.lite_set p.ice _ built.by_creds in
    record {
      session = rw built.rest small;
      creds = rw local (creds_are_words m.ids config.ice.credentials (session_drawn m.ids ids) tokens);
      candidates = rw (local, lite, timed, none) tt;
      fingerprint = fingerprint_by_sha256 _ p.dtls.local built.by_cert.fingerprint;
      rows = rw built.rest tt;
      staged = rw built.rest tt;
      size = size;
      changes = rw built.rest tt;
      formats = rw built.rest formats;
      media = λ mid. rw (laws.media.lines_stay media p.media mid (ByOther (Configured config.media built.by_settings)), laws.media.fresh_line media mid fresh.fresh_media) tt;
    }
