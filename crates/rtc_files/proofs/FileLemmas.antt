-- What several sessions leave.
use Rattle.std.proofs.Common.{ℕ, suc, ◌≡◌, ◌+◌, ◌-◌, ◌*◌, ◌≤◌, ◌<◌, ◌⊎◌, inl, inr, true, false, List, [], ◌∷◌, length, take, min, get_or, ◌∙◌, ap, sym, arith, below_more}
use Rattle.std.proofs.lemmas.Bool.Decides.{leb_tells}
use Rattle.std.proofs.lemmas.List.{take_all, length-take}
use Rattle.std.proofs.lemmas.List.Sums.{sum_by-append}
use Rattle.std.proofs.lemmas.Bool.{true≢false}
use Rattle.std.proofs.Math.Seq.{take-suc}
use Rattle.rtc_file_records.specs.Receiving.{ReceivedFile}
use Rattle.rtc_file_records.specs.Sending.{piece_count}
use Rattle.rtc_files.specs.Sessions.{pieces_taken, front_sent, pieces_left, EndIsTaken, HoldsSession}

-- the session at a place takes the End
abbrev pub EndsAt : List ℕ → List ℕ → ℕ → Type 0
EndsAt file sizes k = 2 + pieces_left file (take k sizes) ≤ get_or sizes k 0

-- what the first sessions leave
pub record SentIn (file sizes : List ℕ) (count : ℕ) (r : ReceivedFile) : Type 0 where
  pub held : r.held ≡ front_sent file (take count sizes)
  pub ended : ((r.whole ≡ true) × (r.held ≡ file) × ((k : ℕ) × (k < count) × EndsAt file sizes k))
      ⊎ ((r.whole ≡ false) × ((k : ℕ) → k < count → EndsAt file sizes k → ⊥))

-- one session more takes its pieces
one_size_more : (sizes : List ℕ) (i : ℕ) → i < length sizes → pieces_taken (take (suc i) sizes) ≡ pieces_taken (take i sizes) + (get_or sizes i 0 - 1)
one_size_more sizes i below =
    omega (arith, ap pieces_taken (take-suc sizes i 0 below), sum_by-append (λ size. size - 1) (take i sizes) (get_or sizes i 0 ∷ []))

-- nothing is sent before the first session
pub none_sent_yet : (file sizes : List ℕ) (r : ReceivedFile) → r.held ≡ [] → r.whole ≡ false → SentIn file sizes 0 r
none_sent_yet file sizes r none whole = record { held = none; ended = inr (whole, λ k below ends. omega arith) }

-- the front of a file does not grow past it
same_front : (file : List ℕ) (start more less : ℕ) → start ≡ min less (length file) → take (start + more) file ≡ take (less + more) file
same_front file start more less is =
    elim (leb_tells less (length file)) [
      | inl within ↦ let same : start + more ≡ less + more = omega (arith, within.1, is) in ap (λ k. take k file) same
      | inr past ↦ take_all (start + more) file (omega (arith, past.1, is)) ∙ sym (take_all (less + more) file (omega (arith, past.1)))
    ]

-- whether one of the sessions took the End, with one session more
sent_ends : (file sizes : List ℕ) (i size pieces : ℕ) (r r' : ReceivedFile) → get_or sizes i 0 ≡ size → pieces ≡ pieces_left file (take i sizes) → r.whole ≡ false
    → ((r.whole ≡ true) × (r.held ≡ file) × ((k : ℕ) × (k < i) × EndsAt file sizes k)) ⊎ ((r.whole ≡ false) × ((k : ℕ) → k < i → EndsAt file sizes k → ⊥))
    → ((r'.whole ≡ true) × (2 + pieces ≤ size) × (r'.held ≡ file)) ⊎ ((r'.whole ≡ false) × (size < 2 + pieces))
    → ((r'.whole ≡ true) × (r'.held ≡ file) × ((k : ℕ) × (k < i + 1) × EndsAt file sizes k)) ⊎ ((r'.whole ≡ false) × ((k : ℕ) → k < i + 1 → EndsAt file sizes k → ⊥))
sent_ends file sizes i size pieces r r' here left unended (inl before) now = absurd (true≢false (sym before.0 ∙ unended))
sent_ends file sizes i size pieces r r' here left unended (inr before) (inl now) = inl (now.0, now.2, (i, omega arith, omega (arith, here, left, now.1)))
sent_ends file sizes i size pieces r r' here left unended (inr before) (inr now) =
    inr (now.0, below_more (λ k. EndsAt file sizes k → ⊥) i before.1 (λ ends. omega (arith, here, left, now.1, ends)))

-- a session is held
pub sent_more : (file sizes : List ℕ) (i start size : ℕ) (r r' : ReceivedFile) → i < length sizes → get_or sizes i 0 ≡ size → start ≡ length r.held → r.whole ≡ false
    → SentIn file sizes i r → HoldsSession file start size r' → SentIn file sizes (i + 1) r'
sent_more file sizes i start size r r' below here place unended sent holds =
    let less : ℕ = 16384 * pieces_taken (take i sizes) in
    let start_is : start ≡ min less (length file) = omega (arith, place, ap length sent.held, length-take less file) in
    let next : i + 1 ≡ suc i = omega arith in
    let taken : less + 16384 * (size - 1) ≡ 16384 * pieces_taken (take (i + 1) sizes) = omega (arith, here, ap (λ k. pieces_taken (take k sizes)) next, one_size_more sizes i below) in
    let left : piece_count (length file - start) ≡ pieces_left file (take i sizes) = ap piece_count (omega (arith, start_is)) in
    record {
      held = holds.held ∙ same_front file start (16384 * (size - 1)) less start_is ∙ ap (λ k. take k file) taken;
      ended = sent_ends file sizes i size (piece_count (length file - start)) r r' here left unended sent.ended holds.ended;
    }

-- none is held once the file is whole
all_ends : (file sizes : List ℕ) (i : ℕ) (r : ReceivedFile) → r.whole ≡ true
    → ((r.whole ≡ true) × (r.held ≡ file) × ((k : ℕ) × (k < i) × EndsAt file sizes k)) ⊎ ((r.whole ≡ false) × ((k : ℕ) → k < i → EndsAt file sizes k → ⊥))
    → (r.held ≡ file) × ((k : ℕ) × (k < i) × EndsAt file sizes k)
all_ends file sizes i r whole (inl ended) = (ended.1, ended.2)
all_ends file sizes i r whole (inr unended) = absurd (true≢false (sym whole ∙ unended.0))

pub sent_all : (file sizes : List ℕ) (i : ℕ) (r : ReceivedFile) → i < length sizes → r.whole ≡ true → SentIn file sizes i r → SentIn file sizes (i + 1) r
sent_all file sizes i r below whole sent =
    let ended = all_ends file sizes i r whole sent.ended in
    let next : i + 1 ≡ suc i = omega arith in
    let less : ℕ = 16384 * pieces_taken (take i sizes) in
    let cover : length file ≤ less = omega (arith, length-take less file, ap length ended.0, ap length sent.held) in
    let more : length file ≤ 16384 * pieces_taken (take (i + 1) sizes) = omega (arith, cover, ap (λ k. pieces_taken (take k sizes)) next, one_size_more sizes i below) in
    record {
      held = ended.0 ∙ sym (take_all (16384 * pieces_taken (take (i + 1) sizes)) file more);
      ended = inl (whole, ended.0, (ended.1.0, omega (arith, ended.1.1), ended.1.2));
    }

ends_whole : (file sizes : List ℕ) (i : ℕ) (r : ReceivedFile) → i ≡ length sizes → EndIsTaken file sizes
    → ((r.whole ≡ true) × (r.held ≡ file) × ((k : ℕ) × (k < i) × EndsAt file sizes k)) ⊎ ((r.whole ≡ false) × ((k : ℕ) → k < i → EndsAt file sizes k → ⊥)) → r.whole ≡ true
ends_whole file sizes i r all ends (inl ended) = ended.0
ends_whole file sizes i r all ends (inr unended) = absurd (unended.1 ends.0 (omega (arith, all, ends.1)) ends.2)

-- all sessions
pub sent_held : (file sizes : List ℕ) (i : ℕ) (r : ReceivedFile) → length sizes ≤ i → SentIn file sizes i r → r.held ≡ front_sent file sizes
sent_held file sizes i r all sent = sent.held ∙ ap (front_sent file) (take_all i sizes all)

pub sent_whole : (file sizes : List ℕ) (i : ℕ) (r : ReceivedFile) → i ≡ length sizes → SentIn file sizes i r → (r.whole ≡ true → EndIsTaken file sizes) × (EndIsTaken file sizes → r.whole ≡ true)
sent_whole file sizes i r all sent =
    (λ whole. let ended = all_ends file sizes i r whole sent.ended in (ended.1.0, omega (arith, all, ended.1.1), ended.1.2), λ ends. ends_whole file sizes i r all ends sent.ended)

pub sent_file : (file sizes : List ℕ) (i : ℕ) (r : ReceivedFile) → SentIn file sizes i r → r.whole ≡ true → r.held ≡ file
sent_file file sizes i r sent whole = (all_ends file sizes i r whole sent.ended).0
