-- Parcels that are put into queues one by one.
use Rattle.std.proofs.Common.{◌≡◌, ℕ, suc, ◌+◌, ◌<◌, ◌≤◌, ◌^◌, ◌==◌, ◌∙◌, Bool, true, false, List, [], ◌∷◌, ◌++◌, length, map, get_or, set, Option, Some, None, refl, ap, sym, subst, cond, arith, length-append, append_assoc, append-nil}
use Rattle.std.specs.Prelude.{slice_get, IsSomeAnd}
use Rattle.rtc_gate_calls.specs.GateState.{ConnectionState}
use Rattle.rtc_gate_calls.specs.Gate.{AreNumbered}
use Rattle.rtc_gate_calls.specs.Delivering.{connection_changed_at, parcel_of, frames_for, after_parcels, IsPlaced, EachPlaced, ArePlaced}
use Rattle.rtc_gate_calls.specs.declared.delivering.Delivery.{Delivery}
use Rattle.rtc_gate_calls.proofs.ConnectionLemmas.{got, set_is_change, numbered_map, map_alike, map_twice, map_same, get_map}

-- one with frames behind its queue
abbrev pub with_frames : List (List ℕ) → ConnectionState → ConnectionState
with_frames frames connection = record connection { queue = connection.queue ++ frames }

pub nothing_left : (cs : List ConnectionState) → map (after_parcels []) cs ≡ cs
nothing_left cs = map_same (after_parcels []) (λ c. ap (λ (q : List (List ℕ)). record c { queue = q }) (append-nil c.queue)) cs

-- the first parcel, and then the others, are all
one_more : (to : ℕ) (frames : List (List ℕ)) (parcels : List (ℕ × List (List ℕ))) (c : ConnectionState) (test : Bool) → (to == c.number) ≡ test → after_parcels parcels (connection_changed_at to (with_frames frames) c) ≡ after_parcels ((to, frames) ∷ parcels) c
one_more to frames parcels c true is = rw is (ap (λ (q : List (List ℕ)). record c { queue = q }) (append_assoc c.queue frames (frames_for c.number parcels)))
one_more to frames parcels c false is = rw is refl

pub first_parcel : (to : ℕ) (frames : List (List ℕ)) (parcels : List (ℕ × List (List ℕ))) (cs : List ConnectionState) → map (after_parcels parcels) (map (connection_changed_at to (with_frames frames)) cs) ≡ map (after_parcels ((to, frames) ∷ parcels)) cs
first_parcel to frames parcels cs =
    map_twice (after_parcels parcels) (connection_changed_at to (with_frames frames)) cs
    ∙ map_alike (λ c. after_parcels parcels (connection_changed_at to (with_frames frames) c)) (after_parcels ((to, frames) ∷ parcels)) (λ c. one_more to frames parcels c (to == c.number) refl) cs

keeps_number : (to : ℕ) (frames : List (List ℕ)) (c : ConnectionState) (test : Bool) → (cond test (with_frames frames c) c).number ≡ c.number
keeps_number to frames c true = refl
keeps_number to frames c false = refl

longer_by : (frames : List (List ℕ)) (c : ConnectionState) (test : Bool) → length (cond test (with_frames frames c) c).queue ≤ length c.queue + length frames
longer_by frames c true = simp length-append (omega arith)
longer_by frames c false = omega arith

room_left : (to more : ℕ) (frames : List (List ℕ)) (cs : List ConnectionState) (e : Delivery) → length frames ≡ 1 → IsPlaced cs (suc more) e → IsPlaced (map (connection_changed_at to (with_frames frames)) cs) more e
room_left to more frames cs e one placed = record { one = placed.one; there = go (slice_get cs e.place) refl placed.there }
  where
    go : (o : Option ConnectionState) → slice_get cs e.place ≡ o → IsSomeAnd o (λ c. (c.number ≡ e.to) × (length c.queue + suc more < 2 ^ 63)) → IsSomeAnd (slice_get (map (connection_changed_at to (with_frames frames)) cs) e.place) (λ c. (c.number ≡ e.to) × (length c.queue + more < 2 ^ 63))
    go None is has = absurd has
    go (Some c) is has =
        let there : slice_get (map (connection_changed_at to (with_frames frames)) cs) e.place ≡ Some (connection_changed_at to (with_frames frames) c) = get_map (connection_changed_at to (with_frames frames)) cs e.place c is in
        let number : (connection_changed_at to (with_frames frames) c).number ≡ c.number = keeps_number to frames c (to == c.number) in
        let count : length (connection_changed_at to (with_frames frames) c).queue ≤ length c.queue + length frames = longer_by frames c (to == c.number) in
        let P : Option ConnectionState → Type 0 = λ (o : Option ConnectionState). IsSomeAnd o (λ d. (d.number ≡ e.to) × (length d.queue + more < 2 ^ 63)) in
        subst P (sym there) (number ∙ has.0, omega (arith, has.1))

pub each_left : (to more : ℕ) (frames : List (List ℕ)) (cs : List ConnectionState) (es : List Delivery) → length frames ≡ 1 → EachPlaced cs (suc more) es → EachPlaced (map (connection_changed_at to (with_frames frames)) cs) more es
each_left to more frames cs [] one each = tt
each_left to more frames cs (e ∷ es) one each = (room_left to more frames cs e one each.0, each_left to more frames cs es one each.1)

pub numbered_left : (to : ℕ) (frames : List (List ℕ)) (high : ℕ) (cs : List ConnectionState) → AreNumbered 0 cs high → AreNumbered 0 (map (connection_changed_at to (with_frames frames)) cs) high
numbered_left to frames high cs all = numbered_map (connection_changed_at to (with_frames frames)) (λ c. keeps_number to frames c (to == c.number)) 0 high cs all

-- one delivery is put into its queue
pub deliver_one : (cs whole : List ConnectionState) (ds rest : List Delivery) (d : Delivery) (x new : ConnectionState) → ds ≡ d ∷ rest → ArePlaced cs ds → map (after_parcels (map parcel_of ds)) cs ≡ whole → new ≡ with_frames d.frames (get_or cs d.place x) → (map (after_parcels (map parcel_of rest)) (set cs d.place new) ≡ whole) × ArePlaced (set cs d.place new) rest
deliver_one cs whole ds rest d x new split placed all made =
    let placed' : ArePlaced cs (d ∷ rest) = subst (λ (es : List Delivery). ArePlaced cs es) split placed in
    let change : set cs d.place new ≡ map (connection_changed_at d.to (with_frames d.frames)) cs = go placed'.numbered (slice_get cs d.place) refl placed'.each.0.there in
    let first = first_parcel d.to d.frames (map parcel_of rest) cs in
    let whole' : map (after_parcels (map parcel_of (d ∷ rest))) cs ≡ whole = subst (λ (es : List Delivery). map (after_parcels (map parcel_of es)) cs ≡ whole) split all in (
      ap (map (after_parcels (map parcel_of rest))) change ∙ first ∙ whole',
      record {
        numbered = subst (λ (ds : List ConnectionState). AreNumbered 0 ds (2 ^ 32)) (sym change) (numbered_left d.to d.frames (2 ^ 32) cs placed'.numbered);
        each = subst (λ (ds : List ConnectionState). EachPlaced ds (length rest) rest) (sym change) (each_left d.to (length rest) d.frames cs rest placed'.each.0.one placed'.each.1);
      },
    )
  where
    go : AreNumbered 0 cs (2 ^ 32) → (o : Option ConnectionState) → slice_get cs d.place ≡ o → IsSomeAnd o (λ c. (c.number ≡ d.to) × (length c.queue + suc (length rest) < 2 ^ 63)) → set cs d.place new ≡ map (connection_changed_at d.to (with_frames d.frames)) cs
    go numbered None there known = absurd known
    go numbered (Some c) there known =
        let here : new ≡ with_frames d.frames c = made ∙ ap (with_frames d.frames) (got cs d.place c x there) in
        ap (set cs d.place) here ∙ set_is_change (with_frames d.frames) 0 (2 ^ 32) cs d.place c numbered there ∙ ap (λ (n : ℕ). map (connection_changed_at n (with_frames d.frames)) cs) known.0

pub all_delivered : (cs whole : List ConnectionState) (ds : List Delivery) → length ds ≡ 0 → map (after_parcels (map parcel_of ds)) cs ≡ whole → cs ≡ whole
all_delivered cs whole [] none all = sym (nothing_left cs) ∙ all
all_delivered cs whole (d ∷ ds) none all = absurd (omega arith)
