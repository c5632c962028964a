-- A visit moves the association by acts that tell no event and write to its own stream alone.
use Rattle.std.proofs.Common.{◌≡◌, ◌≢◌, ◌≤◌, ◌==◌, ◌||◌, ℕ, Bool, true, false, true≢false, List, [], ◌∷◌, ◌++◌, Option, Some, None, Result, Ok, Err, refl, sym, ap, subst, ◌∙◌}
use Rattle.std.specs.List.{list_any}
use Rattle.std.proofs.lemmas.List.Folds.{list_any-append}
use Rattle.std.proofs.lemmas.Bool.{ne_eqb}
use Rattle.rtc_wire.specs.declared.reliability_type.ReliabilityType.{ReliabilityType}
use Rattle.rtc_parts.specs.declared.assoc_error.AssocError.{AssocError}
use Rattle.rtc_parts.specs.declared.ppi.Ppi.{Ppi}
use Rattle.rtc_parts.specs.Ppi.{ppi_number}
use Rattle.rtc_parts.specs.AssociationMeaning.{AssociationMeaning}
use Rattle.rtc_parts.specs.AssociationLaws.{AssociationLaws}
use Rattle.rtc_parts.specs.AssociationActs.{AssociationAct, Started, Opened, Wrote, Ended, Given, Taken, Read, Told, Stirred, writes_to, Acted, Moved, moved-append, moved-one}
use Rattle.rtc_parts.specs.AssociationActs.{OpenRefused, WriteRefused, ReadRefused, EndRefused, ThresholdSet, ReliabilitySet}
use Rattle.rtc_parts.specs.AssociationWords.{told}
use Rattle.rtc_parts.proofs.AssociationLemmas.{told-append, unacknowledged_all}
use Rattle.rtc_parts.specs.Why.{Other}
use Rattle.rtc_sctp_entries.specs.declared.met.Met.{Met}
use Rattle.rtc_sctp_entries.specs.Visits.{Turn, Visits}
use Rattle.rtc_sctp_entries.proofs.KeptVisits.{KeepsCalls, visits_keep}

-- acts that tell and write nothing took an association from one state to another
pub record Untold {S : Type 0} (m : AssociationMeaning S) (a b : S) : Type 0 where
  pub acts : List AssociationAct
  pub moved : Moved m a acts b
  pub untold : told acts ≡ []
  pub unwritten : (id : ℕ) → list_any (writes_to id) acts ≡ false

-- acts that tell nothing, and write to one stream alone, did
pub record UntoldBut {S : Type 0} (m : AssociationMeaning S) (own : ℕ) (a b : S) : Type 0 where
  pub acts : List AssociationAct
  pub moved : Moved m a acts b
  pub untold : told acts ≡ []
  pub unwritten : (id : ℕ) → id ≢ own → list_any (writes_to id) acts ≡ false

-- whether an act neither tells nor writes
abbrev pub is_silent : AssociationAct → Bool
is_silent (Told e) = false
is_silent (Wrote s g i b) = false
is_silent _ = true

silent_tells : (act : AssociationAct) → is_silent act ≡ true → told (act ∷ []) ≡ []
silent_tells Started h = refl
silent_tells (Opened s g) h = refl
silent_tells (Wrote s g i b) h = refl
silent_tells (Ended s g) h = refl
silent_tells (Given b) h = refl
silent_tells (Taken b) h = refl
silent_tells (Read s g i b) h = refl
silent_tells (Told e) h = absurd (true≢false (sym h))
silent_tells (Stirred why) h = refl

silent_writes : (act : AssociationAct) (id : ℕ) → is_silent act ≡ true → list_any (writes_to id) (act ∷ []) ≡ false
silent_writes Started id h = refl
silent_writes (Opened s g) id h = refl
silent_writes (Wrote s g i b) id h = absurd (true≢false (sym h))
silent_writes (Ended s g) id h = refl
silent_writes (Given b) id h = refl
silent_writes (Taken b) id h = refl
silent_writes (Read s g i b) id h = refl
silent_writes (Told e) id h = refl
silent_writes (Stirred why) id h = refl

or_false : (a : Bool) → a ≡ false → (a || false) ≡ false
or_false a h = rw h refl

neither_writes : (id : ℕ) (xs ys : List AssociationAct) → list_any (writes_to id) xs ≡ false → list_any (writes_to id) ys ≡ false → list_any (writes_to id) (xs ++ ys) ≡ false
neither_writes id xs ys h k = list_any-append (writes_to id) xs ys ∙ rw (h, k) refl

module _ {S : Type 0} (m : AssociationMeaning S) where
  pub untold_none : (a : S) → Untold m a a
  untold_none a = record { acts = []; moved = refl; untold = refl; unwritten = λ id. refl }

  pub untold_act : (a b : S) (act : AssociationAct) → Acted m a act b → is_silent act ≡ true → Untold m a b
  untold_act a b act k e = record {
    acts = act ∷ [];
    moved = moved-one m a b act k;
    untold = silent_tells act e;
    unwritten = λ id. silent_writes act id e;
  }

  pub but_none : (own : ℕ) (a : S) → UntoldBut m own a a
  but_none own a = record { acts = []; moved = refl; untold = refl; unwritten = λ id apart. refl }

  pub but_all : (own : ℕ) (a b : S) → Untold m a b → UntoldBut m own a b
  but_all own a b u = record { acts = u.acts; moved = u.moved; untold = u.untold; unwritten = λ id apart. u.unwritten id }

  pub but_join : (own : ℕ) (a b c : S) → UntoldBut m own a b → UntoldBut m own b c → UntoldBut m own a c
  but_join own a b c h k = record {
    acts = h.acts ++ k.acts;
    moved = moved-append m a b c h.acts k.acts h.moved k.moved;
    untold = told-append h.acts k.acts ∙ ap (λ l. l ++ told k.acts) h.untold ∙ k.untold;
    unwritten = λ id apart. neither_writes id h.acts k.acts (h.unwritten id apart) (k.unwritten id apart);
  }

  -- each call, Ok or refused
  pub untold_opened : (p q : S) (id : ℕ) (r : Result (Unit {0}) AssocError) → m.opened p id r q → Untold m p q
  untold_opened p q id (Ok x) k = untold_act p q (Opened id (m.generation p id)) (k, refl) refl
  untold_opened p q id (Err e) k = untold_act p q (Stirred Other) (OpenRefused id e k) refl

  pub untold_ended : (p q : S) (id : ℕ) (r : Result (Unit {0}) AssocError) → m.ended p id r q → Untold m p q
  untold_ended p q id (Ok x) k = untold_act p q (Ended id (m.generation p id)) (k, refl) refl
  untold_ended p q id (Err e) k = untold_act p q (Stirred Other) (EndRefused id e k) refl

  pub untold_threshold : (p q : S) (id n : ℕ) (r : Result (Unit {0}) AssocError) → m.threshold_set p id n r q → Untold m p q
  untold_threshold p q id n r k = untold_act p q (Stirred Other) (ThresholdSet id n r k) refl

  pub untold_reliability : (p q : S) (id : ℕ) (u : Bool) (t : ReliabilityType) (n : ℕ) (r : Result (Unit {0}) AssocError)
      → m.reliability_set p id u t n r q → Untold m p q
  untold_reliability p q id u t n r k = untold_act p q (Stirred Other) (ReliabilitySet id u t n r k) refl

  pub untold_wrote : (p q : S) (id : ℕ) (ppi : Ppi) (b : List ℕ) (r : Result ℕ AssocError) → m.wrote p id ppi b r q → UntoldBut m id p q
  untold_wrote p q id ppi b (Ok n) k = record {
    acts = Wrote id (m.generation p id) (ppi_number ppi) b ∷ [];
    moved = moved-one m p q (Wrote id (m.generation p id) (ppi_number ppi) b) (ppi, (n, (k, refl, refl)));
    untold = refl;
    unwritten = λ other apart. or_false (id == other) (ne_eqb id other (λ e. apart (sym e)));
  }
  untold_wrote p q id ppi b (Err e) k = but_all id p q (untold_act p q (Stirred Other) (WriteRefused id ppi b e k) refl)

module _ {S : Type 0} (m : AssociationMeaning S) (w : AssociationLaws m) where
  untold_read : (p q : S) (id : ℕ) (r : Result (Option (Ppi × List ℕ)) AssocError) → m.read p id r q → Untold m p q
  untold_read p q id (Ok None) k = subst (λ (x : S). Untold m p x) (sym (w.read_none p q id k)) (untold_none m p)
  untold_read p q id (Ok (Some x)) k = untold_act m p q (Read id (m.generation p id) (ppi_number x.0) x.1) (x.0, (k, refl, refl)) refl
  untold_read p q id (Err e) k = untold_act m p q (Stirred Other) (ReadRefused id e k) refl

  calls_untold : (own : ℕ) (a : S) → KeepsCalls m own (λ (p : S). UntoldBut m own a p)
  calls_untold own a = record {
    opened = λ p q id r h k. but_join m own a p q h (but_all m own p q (untold_opened m p q id r k));
    wrote = λ p q id ppi b r is h k. but_join m own a p q h (subst (λ (n : ℕ). UntoldBut m n p q) is (untold_wrote m p q id ppi b r k));
    read = λ p q id r h k. but_join m own a p q h (but_all m own p q (untold_read p q id r k));
    ended = λ p q id r h k. but_join m own a p q h (but_all m own p q (untold_ended m p q id r k));
    threshold = λ p q id n r h k. but_join m own a p q h (but_all m own p q (untold_threshold m p q id n r k));
    reliability = λ p q id u t n r h k. but_join m own a p q h (but_all m own p q (untold_reliability m p q id u t n r k));
  }

  pub visits_untold : (now : ℕ) (t : Turn S) (met : Met) (t' : Turn S) → Visits m now t met t' → UntoldBut m t.entry.id t.association t'.association
  visits_untold now t met t' h =
      visits_keep m t.entry.id (λ (p : S). UntoldBut m t.entry.id t.association p) (calls_untold t.entry.id t.association) now t met t' refl
      (but_none m t.entry.id t.association) h

  -- what is not acknowledged of a stream that was not written to
  pub untold_falls : (a b : S) (id : ℕ) → Untold m a b → m.unacknowledged b id ≤ m.unacknowledged a id
  untold_falls a b id u = unacknowledged_all m w a b u.acts id u.moved (u.unwritten id)

  pub others_fall : (own : ℕ) (a b : S) (id : ℕ) → UntoldBut m own a b → id ≢ own → m.unacknowledged b id ≤ m.unacknowledged a id
  others_fall own a b id u apart = unacknowledged_all m w a b u.acts id u.moved (u.unwritten id apart)
