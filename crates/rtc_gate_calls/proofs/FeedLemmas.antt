-- A feed, put together from its steps.
use Rattle.std.proofs.Common.{◌≡◌, ℕ, zero, suc, ◌+◌, ◌<◌, ◌≤◌, ◌^◌, ◌==◌, ◌∙◌, Bool, true, false, List, [], ◌∷◌, ◌++◌, length, map, take, drop, Option, Some, None, refl, ap, sym, subst, cond, arith, length-drop}
use Rattle.std.specs.Prelude.{slice_get, IsSomeAnd}
use Rattle.std.proofs.lemmas.Bool.Decides.{nat_tests}
use Rattle.std.proofs.lemmas.List.{take_at}
use Rattle.rtc_gate_calls.specs.SignalStream.{signals_in, tail_of, is_malformed}
use Rattle.rtc_gate_calls.specs.GateState.{Incoming, ConnectionState, roster_entry, roster_of, whole_size, incoming_behind, resumed, arriving, fed_answer, letters_of, after_mail}
use Rattle.rtc_gate_calls.specs.declared.gate_error.GateError.{GateError}
use Rattle.rtc_gate_calls.specs.declared.gate_error.GateError.TheVariants.{BadFrame}
use Rattle.std.specs.Prelude.{Result, Ok, Err}
use Rattle.rtc_gate_calls.specs.Gate.{AreNumbered, IsIndex}
use Rattle.rtc_gate_calls.specs.Routing.{Letter, letter_of, mail_for}
use Rattle.rtc_gate_calls.specs.Delivering.{IsAt, connection_changed_at, with_piece, cut_to, advanced, parcel_of, parcel_with, frames_for, after_parcels, EachPlaced, CanRoute, Sorts}
use Rattle.rtc_gate_calls.specs.declared.delivering.Delivery.{Delivery}
use Rattle.rtc_gate_calls.specs.declared.posting.Sender.{Sender}
use Rattle.rtc_gate_calls.specs.declared.sorting.Sorted.{Sorted}
use Rattle.rtc_gate_calls.proofs.ConnectionLemmas.{numbered_map, map_alike, map_twice, map_same, get_map, changes_alike}

-- the parcels of letters are the mail
pub mail_is : (number : ℕ) (letters : List Letter) → frames_for number (map parcel_with letters) ≡ mail_for number letters
mail_is number [] = refl
mail_is number (letter ∷ letters) =
    let rest = mail_is number letters in
    ap (λ (frames : List (List ℕ)). cond (letter.to == number) (letter.frame ∷ frames) frames) rest

kept_number : (number : ℕ) (piece : List ℕ) (c : ConnectionState) (test : Bool) → (cond test (with_piece piece c) c).number ≡ c.number
kept_number number piece c true = refl
kept_number number piece c false = refl

kept_entry : (piece : List ℕ) (c : ConnectionState) (test : Bool) → roster_entry (cond test (with_piece piece c) c) ≡ roster_entry c
kept_entry piece c true = refl
kept_entry piece c false = refl

kept_queue : (piece : List ℕ) (c : ConnectionState) (test : Bool) → (cond test (with_piece piece c) c).queue ≡ c.queue
kept_queue piece c true = refl
kept_queue piece c false = refl

-- a piece that is kept changes nothing that routes look at
pub roster_kept : (number : ℕ) (piece : List ℕ) (cs : List ConnectionState) → roster_of (map (connection_changed_at number (with_piece piece)) cs) ≡ roster_of cs
roster_kept number piece cs =
    map_twice roster_entry (connection_changed_at number (with_piece piece)) cs
    ∙ map_alike (λ c. roster_entry (connection_changed_at number (with_piece piece) c)) roster_entry (λ c. kept_entry piece c (number == c.number)) cs

pub can_still : (cs cs' : List ConnectionState) (names : _) (sender : Sender) (number : ℕ) (piece : List ℕ) → cs' ≡ map (connection_changed_at number (with_piece piece)) cs → CanRoute cs names sender → CanRoute cs' names sender
can_still cs cs' names sender number piece is can = record {
  numbered = subst (λ (ds : List ConnectionState). AreNumbered 0 ds (2 ^ 32)) (sym is) (numbered_map (connection_changed_at number (with_piece piece)) (λ c. kept_number number piece c (number == c.number)) 0 (2 ^ 32) cs can.numbered);
  index = subst (λ (r : List (ℕ × List ℕ)). IsIndex names r) (sym (ap roster_of is ∙ roster_kept number piece cs)) can.index;
  there = go (slice_get cs sender.place) refl can.there;
}
  where
    go : (o : Option ConnectionState) → slice_get cs sender.place ≡ o → IsSomeAnd o (λ c. c.number ≡ sender.number) → IsSomeAnd (slice_get cs' sender.place) (λ c. c.number ≡ sender.number)
    go None at has = absurd has
    go (Some c) at has =
        let there : slice_get cs' sender.place ≡ Some (connection_changed_at number (with_piece piece) c) =
        ap (λ (ds : List ConnectionState). slice_get ds sender.place) is ∙ get_map (connection_changed_at number (with_piece piece)) cs sender.place c at in
        let P : Option ConnectionState → Type 0 = λ (o : Option ConnectionState). IsSomeAnd o (λ d. d.number ≡ sender.number) in
        subst P (sym there) (kept_number number piece c (number == c.number) ∙ has)

-- deliveries that found much room find enough
pub few_placed : (cs : List ConnectionState) (more less : ℕ) (ds : List Delivery) → less ≤ more → EachPlaced cs more ds → EachPlaced cs less ds
few_placed cs more less [] below each = tt
few_placed cs more less (d ∷ ds) below each = (record { one = each.0.one; there = go (slice_get cs d.place) each.0.there }, few_placed cs more less ds below each.1)
  where
    go : (o : Option ConnectionState) → IsSomeAnd o (λ c. (c.number ≡ d.to) × (length c.queue + more < 2 ^ 63)) → IsSomeAnd o (λ c. (c.number ≡ d.to) × (length c.queue + less < 2 ^ 63))
    go None has = absurd has
    go (Some c) has = (has.0, omega (arith, has.1))

-- a piece that is forgotten leaves what was
pub forgotten : (cs : List ConnectionState) (place number : ℕ) (c : ConnectionState) (piece : List ℕ) → AreNumbered 0 cs (2 ^ 32) → slice_get cs place ≡ Some c → c.number ≡ number → map (connection_changed_at number (cut_to (length c.incoming.kept))) (map (connection_changed_at number (with_piece piece)) cs) ≡ cs
forgotten cs place number c piece numbered at its =
    let back : ConnectionState → ConnectionState = λ (d : ConnectionState). connection_changed_at number (cut_to (length c.incoming.kept)) (connection_changed_at number (with_piece piece) d) in
    let front : take (length c.incoming.kept) (c.incoming.kept ++ piece) ≡ c.incoming.kept = take_at c.incoming.kept piece (length c.incoming.kept) refl in
    let test : (number == c.number) ≡ true = grind (arith, nat_tests) in
    let here : back c ≡ c =
    ap (λ (b : Bool). connection_changed_at number (cut_to (length c.incoming.kept)) (cond b (with_piece piece c) c)) test
    ∙ ap (λ (b : Bool). cond b (cut_to (length c.incoming.kept) (with_piece piece c)) (with_piece piece c)) test
    ∙ ap (λ (bytes : List ℕ). record c { incoming = record c.incoming { kept = bytes } }) front in
    map_twice (connection_changed_at number (cut_to (length c.incoming.kept))) (connection_changed_at number (with_piece piece)) cs
    ∙ changes_alike back (λ d. d) number c 0 (2 ^ 32) cs place numbered at its here (λ d differ. let other : (number == d.number) ≡ false = grind (arith, nat_tests) in
    ap (λ (b : Bool). connection_changed_at number (cut_to (length c.incoming.kept)) (cond b (with_piece piece d) d)) other
    ∙ ap (λ (b : Bool). cond b (cut_to (length c.incoming.kept) d) d) other)
    ∙ map_same (λ d. d) (λ d. refl) cs

-- the changes of a feed are those of its mail
pub fed_all : (cs : List ConnectionState) (sender : Sender) (c : ConnectionState) (piece : List ℕ) (sorted : Sorted) → AreNumbered 0 cs (2 ^ 32) → slice_get cs sender.place ≡ Some c → c.number ≡ sender.number → c.name ≡ sender.name → c.incoming.stuck ≡ false → Sorts (map (connection_changed_at sender.number (with_piece piece)) cs) sender (c.incoming.kept ++ piece) sorted
    → map (connection_changed_at sender.number (advanced sorted.size sorted.stuck)) (map (after_parcels (map parcel_of sorted.deliveries.items)) (map (connection_changed_at sender.number (with_piece piece)) cs)) ≡ map (after_mail c.number piece (letters_of (roster_of cs) c piece)) cs
fed_all cs sender c piece sorted numbered at its called flows sorts =
    let bytes : List ℕ = c.incoming.kept ++ piece in
    let letters : List Letter = letters_of (roster_of cs) c piece in
    let parcels : List (ℕ × List (List ℕ)) = map parcel_of sorted.deliveries.items in
    let step : ConnectionState → ConnectionState = λ (d : ConnectionState). connection_changed_at sender.number (advanced sorted.size sorted.stuck) (after_parcels parcels (connection_changed_at sender.number (with_piece piece) d)) in
    let arrived : arriving c.incoming piece ≡ signals_in bytes = ap (λ (b : Bool). cond b [] (signals_in bytes)) flows in
    let letters_are : letters ≡ map (letter_of (roster_of cs) sender.number sender.name) (signals_in bytes) =
    ap (λ (n : ℕ). map (letter_of (roster_of cs) n c.name) (arriving c.incoming piece)) its
    ∙ ap (λ (n : List ℕ). map (letter_of (roster_of cs) sender.number n) (arriving c.incoming piece)) called
    ∙ ap (map (letter_of (roster_of cs) sender.number sender.name)) arrived in
    let sent : parcels ≡ map parcel_with letters =
    sorts.parcels
    ∙ ap (λ (r : List (ℕ × List ℕ)). map parcel_with (map (letter_of r sender.number sender.name) (signals_in bytes))) (roster_kept sender.number piece cs)
    ∙ ap (map parcel_with) (sym letters_are) in
    let mail : (n : ℕ) → frames_for n parcels ≡ mail_for n letters = λ n. ap (frames_for n) sent ∙ mail_is n letters in
    let size : sorted.size ≡ whole_size bytes = omega (arith, sorts.within, ap length sorts.left, length-drop sorted.size bytes) in
    let test : (sender.number == c.number) ≡ true = grind (arith, nat_tests) in
    let mine : (c.number == c.number) ≡ true = grind (arith, nat_tests) in
    let goes : resumed c.incoming piece ≡ incoming_behind c.incoming.done bytes = ap (λ (b : Bool). cond b c.incoming (incoming_behind c.incoming.done bytes)) flows in
    let incoming : record { done = c.incoming.done + sorted.size; kept = cond sorted.stuck [] (drop sorted.size bytes); stuck = sorted.stuck } ≡ incoming_behind c.incoming.done bytes =
    ap (λ (n : ℕ). let i : Incoming = record { done = c.incoming.done + n; kept = cond sorted.stuck [] (drop sorted.size bytes); stuck = sorted.stuck } in i) size
    ∙ ap (λ (left : List ℕ). let i : Incoming = record { done = c.incoming.done + whole_size bytes; kept = cond sorted.stuck [] left; stuck = sorted.stuck } in i) sorts.left
    ∙ ap (λ (b : Bool). let i : Incoming = record { done = c.incoming.done + whole_size bytes; kept = cond b [] (tail_of bytes); stuck = b } in i) sorts.stuck in
    let here : step c ≡ after_mail c.number piece letters c =
    ap (λ (b : Bool). connection_changed_at sender.number (advanced sorted.size sorted.stuck) (after_parcels parcels (cond b (with_piece piece c) c))) test
    ∙ ap (λ (b : Bool). cond b (advanced sorted.size sorted.stuck (after_parcels parcels (with_piece piece c))) (after_parcels parcels (with_piece piece c))) test
    ∙ ap (λ (i : Incoming). let d : ConnectionState = record { number = c.number; name = c.name; incoming = i; queue = c.queue ++ frames_for c.number parcels } in d) (incoming ∙ sym goes)
    ∙ ap (λ (q : List (List ℕ)). let d : ConnectionState = record { number = c.number; name = c.name; incoming = resumed c.incoming piece; queue = c.queue ++ q } in d) (mail c.number)
    ∙ ap (λ (b : Bool). let d : ConnectionState = record { number = c.number; name = c.name; incoming = cond b (resumed c.incoming piece) c.incoming; queue = c.queue ++ mail_for c.number letters } in d) (sym mine) in
    map_twice (connection_changed_at sender.number (advanced sorted.size sorted.stuck)) (after_parcels parcels) (map (connection_changed_at sender.number (with_piece piece)) cs)
    ∙ map_twice (λ d. connection_changed_at sender.number (advanced sorted.size sorted.stuck) (after_parcels parcels d)) (connection_changed_at sender.number (with_piece piece)) cs
    ∙ changes_alike step (after_mail c.number piece letters) sender.number c 0 (2 ^ 32) cs sender.place numbered at its here (λ d differ.
    let other : (sender.number == d.number) ≡ false = grind (arith, nat_tests) in
    let not_its : (d.number == c.number) ≡ false = grind (arith, nat_tests) in
    ap (λ (b : Bool). connection_changed_at sender.number (advanced sorted.size sorted.stuck) (after_parcels parcels (cond b (with_piece piece d) d))) other
    ∙ ap (λ (b : Bool). cond b (advanced sorted.size sorted.stuck (after_parcels parcels d)) (after_parcels parcels d)) other
    ∙ ap (λ (q : List (List ℕ)). let e : ConnectionState = record { number = d.number; name = d.name; incoming = d.incoming; queue = d.queue ++ q } in e) (mail d.number)
    ∙ ap (λ (b : Bool). let e : ConnectionState = record { number = d.number; name = d.name; incoming = cond b (resumed d.incoming piece) d.incoming; queue = d.queue ++ mail_for d.number letters } in e) (sym not_its))

-- the one that stands at a place
pub standing : (cs : List ConnectionState) (place : ℕ) (P : ConnectionState → Type 0) → IsSomeAnd (slice_get cs place) P → (c : ConnectionState) × (slice_get cs place ≡ Some c) × P c
standing [] place P has = absurd has
standing (c ∷ cs) zero P has = (c, refl, has)
standing (c ∷ cs) (suc place) P has = standing cs place P has

-- behind the piece that is kept
pub kept_there : (cs cs' : List ConnectionState) (place number : ℕ) (c : ConnectionState) (piece : List ℕ) → cs' ≡ map (connection_changed_at number (with_piece piece)) cs → slice_get cs place ≡ Some c → c.number ≡ number → slice_get cs' place ≡ Some (with_piece piece c)
kept_there cs cs' place number c piece is at its =
    let test : (number == c.number) ≡ true = grind (arith, nat_tests) in
    ap (λ (ds : List ConnectionState). slice_get ds place) is
    ∙ get_map (connection_changed_at number (with_piece piece)) cs place c at
    ∙ ap (λ (b : Bool). Some (cond b (with_piece piece c) c)) test

pub delivered_at : (cs cs' : List ConnectionState) (place number : ℕ) (parcels : List (ℕ × List (List ℕ))) → cs' ≡ map (after_parcels parcels) cs → IsAt cs place number → IsAt cs' place number
delivered_at cs cs' place number parcels is at =
    let s = standing cs place (λ c. c.number ≡ number) at.there in
    let there : slice_get cs' place ≡ Some (after_parcels parcels s.0) = ap (λ (ds : List ConnectionState). slice_get ds place) is ∙ get_map (after_parcels parcels) cs place s.0 s.1 in
    let P : Option ConnectionState → Type 0 = λ (o : Option ConnectionState). IsSomeAnd o (λ d. d.number ≡ number) in
    record {
      numbered = subst (λ (ds : List ConnectionState). AreNumbered 0 ds (2 ^ 32)) (sym is) (numbered_map (after_parcels parcels) (λ c. refl) 0 (2 ^ 32) cs at.numbered);
      there = subst P (sym there) s.2;
    }

pub can_advance : (cs cs' : List ConnectionState) (place : ℕ) (parcels : List (ℕ × List (List ℕ))) (c : ConnectionState) (size : ℕ) → cs' ≡ map (after_parcels parcels) cs → slice_get cs place ≡ Some c → size ≤ length c.incoming.kept → c.incoming.done + size < 2 ^ 64 → IsSomeAnd (slice_get cs' place) (λ d. (size ≤ length d.incoming.kept) × (d.incoming.done + size < 2 ^ 64))
can_advance cs cs' place parcels c size is at within fits =
    let there : slice_get cs' place ≡ Some (after_parcels parcels c) = ap (λ (ds : List ConnectionState). slice_get ds place) is ∙ get_map (after_parcels parcels) cs place c at in
    let P : Option ConnectionState → Type 0 = λ (o : Option ConnectionState). IsSomeAnd o (λ d. (size ≤ length d.incoming.kept) × (d.incoming.done + size < 2 ^ 64)) in
    subst P (sym there) (within, fits)

pub count_map : {A B : Type 0} (f : A → B) (xs : List A) → length (map f xs) ≡ length xs
count_map f [] = refl
count_map f (x ∷ xs) = ap suc (count_map f xs)

-- what a feed answers
pub answers_stuck : (c : ConnectionState) (cs : List ConnectionState) (sender : Sender) (piece : List ℕ) (sorted : Sorted) → c.incoming.stuck ≡ false → Sorts cs sender (c.incoming.kept ++ piece) sorted → sorted.stuck ≡ true → fed_answer (resumed c.incoming piece) (arriving c.incoming piece) ≡ Err (BadFrame (c.incoming.done + sorted.size))
answers_stuck c cs sender piece sorted flows sorts stuck =
    let bytes : List ℕ = c.incoming.kept ++ piece in
    let goes : resumed c.incoming piece ≡ incoming_behind c.incoming.done bytes = ap (λ (b : Bool). cond b c.incoming (incoming_behind c.incoming.done bytes)) flows in
    let size : whole_size bytes ≡ sorted.size = omega (arith, sorts.within, ap length sorts.left, length-drop sorted.size bytes) in
    let malformed : is_malformed bytes ≡ true = sym sorts.stuck ∙ stuck in
    ap (λ (i : Incoming). fed_answer i (arriving c.incoming piece)) goes
    ∙ ap (λ (b : Bool). let r : Result ℕ GateError = cond b (Err (BadFrame (c.incoming.done + whole_size bytes))) (Ok (length (arriving c.incoming piece))) in r) malformed
    ∙ ap (λ (n : ℕ). let r : Result ℕ GateError = Err (BadFrame (c.incoming.done + n)) in r) size

pub answers_count : (c : ConnectionState) (cs : List ConnectionState) (sender : Sender) (piece : List ℕ) (sorted : Sorted) → c.incoming.stuck ≡ false → Sorts cs sender (c.incoming.kept ++ piece) sorted → sorted.stuck ≡ false → fed_answer (resumed c.incoming piece) (arriving c.incoming piece) ≡ Ok (length sorted.deliveries.items)
answers_count c cs sender piece sorted flows sorts stuck =
    let bytes : List ℕ = c.incoming.kept ++ piece in
    let goes : resumed c.incoming piece ≡ incoming_behind c.incoming.done bytes = ap (λ (b : Bool). cond b c.incoming (incoming_behind c.incoming.done bytes)) flows in
    let fine : is_malformed bytes ≡ false = sym sorts.stuck ∙ stuck in
    let arrived : arriving c.incoming piece ≡ signals_in bytes = ap (λ (b : Bool). cond b [] (signals_in bytes)) flows in
    let letters : List Letter = map (letter_of (roster_of cs) sender.number sender.name) (signals_in bytes) in
    let count : length (signals_in bytes) ≡ length sorted.deliveries.items =
    sym (count_map (letter_of (roster_of cs) sender.number sender.name) (signals_in bytes)) ∙ sym (count_map parcel_with letters) ∙ sym (ap length sorts.parcels) ∙ count_map parcel_of sorted.deliveries.items in
    ap (λ (i : Incoming). fed_answer i (arriving c.incoming piece)) goes
    ∙ ap (λ (b : Bool). let r : Result ℕ GateError = cond b (Err (BadFrame (c.incoming.done + whole_size bytes))) (Ok (length (arriving c.incoming piece))) in r) fine
    ∙ ap (λ (n : ℕ). let r : Result ℕ GateError = Ok n in r) (ap length arrived ∙ count)
