-- Changes that a loop stages one after another.
use Rattle.std.proofs.Common.{◌≡◌, ◌<◌, ◌≤◌, ◌+◌, ℕ, List, ◌∷◌, length, drop, get_or, Result, Ok, Err, refl, sym, subst, ap, ◌∙◌}
use Rattle.std.proofs.Math.ListN.{drop_of_length-le}
use Rattle.std.proofs.lemmas.List.{drop_more}
use Rattle.rtc_peer_core.specs.declared.rtc_error.RtcError.{RtcError}
use Rattle.rtc_c_handle.specs.HeldPeer.{HeldPeer}
use Rattle.rtc_c_handle.specs.WantedChanges.{StagesChange, StagesChanges, IsLast, HasNext}
use Rattle.rtc_c_handle.specs.declared.wanted_change.WantedChange.{WantedChange}

-- how the changes that are left go on, all of them do
abbrev pub GoesOn : List WantedChange → (start : HeldPeer) → ℕ → (now : HeldPeer) → Type 0
GoesOn changes start index now =
    (r : Result (Unit {0}) RtcError) (q : HeldPeer) → StagesChanges (drop index changes) now r q → StagesChanges changes start r q

first_left : (changes : List WantedChange) (index : ℕ) (change : WantedChange) → index < length changes → change ≡ get_or changes index change
    → drop index changes ≡ change ∷ drop (index + 1) changes
first_left changes index change within at =
    drop_more changes index change within ∙ ap (λ (c : WantedChange). c ∷ drop (index + 1) changes) (sym at)

pub staged_one : (changes : List WantedChange) (start p q : HeldPeer) (index : ℕ) (change : WantedChange) → index < length changes
    → change ≡ get_or changes index change → StagesChange change p (Ok tt) q → GoesOn changes start index p
    → GoesOn changes start (index + 1) q
staged_one changes start p q index change within at staged before r last rest =
    before r last (subst (λ (left : List WantedChange). StagesChanges left p r last) (sym (first_left changes index change within at))
    (HasNext q staged rest))

pub staged_last : (changes : List WantedChange) (start p q : HeldPeer) (index : ℕ) (change : WantedChange) (error : RtcError)
    → index < length changes → change ≡ get_or changes index change → StagesChange change p (Err error) q → GoesOn changes start index p
    → StagesChanges changes start (Err error) q
staged_last changes start p q index change error within at failed before =
    before (Err error) q (subst (λ (left : List WantedChange). StagesChanges left p (Err error) q)
    (sym (first_left changes index change within at)) (IsLast error failed refl))

pub staged_all : (changes : List WantedChange) (start p : HeldPeer) (index : ℕ) → length changes ≤ index → GoesOn changes start index p
    → StagesChanges changes start (Ok tt) p
staged_all changes start p index past before =
    before (Ok tt) p (subst (λ (left : List WantedChange). StagesChanges left p (Ok tt) p) (sym (drop_of_length-le changes past)) (refl, refl))
