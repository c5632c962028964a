-- A piece that is taken from the front, and what is left after it.
use Rattle.std.proofs.Common.{◌≡◌, ◌+◌, ◌-◌, ◌≤◌, ◌<◌, ℕ, List, [], ◌++◌, Option, Some, None, length, take, drop, min, ap, sym, ◌∙◌, append_assoc, length-drop, arith}
use Rattle.std.proofs.Math.Seq.{take-add, take-length, drop-nil}
use Rattle.std.proofs.lemmas.List.{take-append-drop, take_at, drop-drop, nil_from_length, length-take}
use Rattle.std.specs.Io.KnownBytes.{Appends, Consumes}

-- what is left is the front of the filled buffer, and what is left later
pub piece_taken : (bytes buf filled : List ℕ) (taken count : ℕ) → count ≤ length (drop taken bytes) → filled ≡ take count (drop taken bytes) ++ drop count buf → drop taken bytes ≡ take count filled ++ drop (taken + count) bytes
piece_taken bytes buf filled taken count fits is =
    let front : take count filled ≡ take count (drop taken bytes) = rw is (take_at (take count (drop taken bytes)) (drop count buf) count (omega (arith, length-take {A = ℕ}))) in
    let rest : drop count (drop taken bytes) ≡ drop (taken + count) bytes = drop-drop count taken bytes in
    sym (rw (front, ← rest) (take-append-drop count (drop taken bytes)))

-- the whole rest of a list, as a slice of it is written
pub rest_is : (text : List ℕ) (done : ℕ) → take (length text - done) (drop done text) ≡ drop done text
rest_is text done = let e : length text - done ≡ length (drop done text) = sym (length-drop done text) in rw e (take-length (drop done text))

-- the front that was written, and a front of the rest, are a front
pub appends_more : (old mid new : Option (List ℕ)) (text : List ℕ) (done count : ℕ) → Appends old mid (take done text) → Appends mid new (take count (take (length text - done) (drop done text))) → Appends old new (take (done + count) text)
appends_more None mid new text done count first then = tt
appends_more (Some xs) None new text done count first then = absurd first
appends_more (Some xs) (Some ys) None text done count first then = absurd then
appends_more (Some xs) (Some ys) (Some zs) text done count first then =
    then ∙ ap (λ front. front ++ take count (take (length text - done) (drop done text))) first
    ∙ append_assoc xs (take done text) (take count (take (length text - done) (drop done text)))
    ∙ ap (λ more. xs ++ (take done text ++ take count more)) (rest_is text done)
    ∙ ap (λ front. xs ++ front) (sym (take-add done count text))

-- a call gives nothing only where nothing is left
pub nothing_left : (bytes : List ℕ) (taken count piece room : ℕ) → count ≡ min (min piece room) (length (drop taken bytes)) → 0 < piece → 0 < room → count ≡ 0 → drop (taken + count) bytes ≡ []
nothing_left bytes taken count piece room is some more none =
    let nothing : drop taken bytes ≡ [] = nil_from_length (drop taken bytes) (omega arith) in
    sym (drop-drop count taken bytes) ∙ ap (drop count) nothing ∙ drop-nil count

-- what was read so far, and the piece that is read next, are what was read
pub consumes_more : (old mid new : Option (List ℕ)) (front more : List ℕ) → Consumes old mid front → Consumes mid new more → Consumes old new (front ++ more)
consumes_more None mid new front more first then = tt
consumes_more (Some xs) None new front more first then = absurd first
consumes_more (Some xs) (Some ys) None front more first then = absurd then
consumes_more (Some xs) (Some ys) (Some zs) front more first then = first ∙ ap (λ rest. front ++ rest) then ∙ sym (append_assoc front more zs)
