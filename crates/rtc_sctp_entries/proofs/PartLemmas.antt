-- The calls of an association leave it started, and what they add to its work.
use Rattle.std.proofs.Common.{◌≡◌, ℕ, Bool, true, List, Option, Some, None, Result, Ok, Err, refl, ◌∙◌, ap, arith}
use Rattle.rtc_wire.specs.declared.reliability_type.ReliabilityType.{ReliabilityType}
use Rattle.rtc_parts.specs.declared.assoc_error.AssocError.{AssocError}
use Rattle.rtc_parts.specs.declared.assoc_error.AssocError.TheVariants.{StreamExists, ResetPending, NoStream, TooLong, Closing, Fault, Alloc}
use Rattle.rtc_parts.specs.declared.ppi.Ppi.{Ppi}
use Rattle.rtc_parts.specs.Ppi.{ppi_number}
use Rattle.rtc_parts.specs.AssociationMeaning.{AssociationMeaning}
use Rattle.rtc_parts.specs.AssociationLaws.{AssociationLaws}
use Rattle.rtc_parts.specs.AssociationActs.{Opened, Wrote, Ended, Read, Stirred}
use Rattle.rtc_parts.specs.AssociationActs.{OpenRefused, WriteRefused, ReadRefused, EndRefused, ThresholdSet, ReliabilitySet}
use Rattle.rtc_parts.specs.Why.{Other}
use Rattle.rtc_sctp_entries.specs.Answers.{heard_of}
use Rattle.rtc_sctp_entries.specs.Part.{ReadUnits}

module _ {S : Type 0} (m : AssociationMeaning S) (w : AssociationLaws m) where
  pub started_opened : (p q : S) (id : ℕ) (r : Result (Unit {0}) AssocError) → m.started p ≡ true → m.opened p id r q → m.started q ≡ true
  started_opened p q id (Ok x) s h = (w.same_start p q (Opened id (m.generation p id)) refl (h, refl)).0 ∙ s
  started_opened p q id (Err e) s h = (w.same_start p q (Stirred Other) refl (OpenRefused id e h)).0 ∙ s

  pub started_wrote : (p q : S) (id : ℕ) (ppi : Ppi) (b : List ℕ) (r : Result ℕ AssocError) → m.started p ≡ true → m.wrote p id ppi b r q → m.started q ≡ true
  started_wrote p q id ppi b (Ok n) s h = (w.same_start p q (Wrote id (m.generation p id) (ppi_number ppi) b) refl (ppi, (n, (h, refl, refl)))).0 ∙ s
  started_wrote p q id ppi b (Err e) s h = (w.same_start p q (Stirred Other) refl (WriteRefused id ppi b e h)).0 ∙ s

  pub started_read : (p q : S) (id : ℕ) (r : Result (Option (Ppi × List ℕ)) AssocError) → m.started p ≡ true → m.read p id r q → m.started q ≡ true
  started_read p q id (Ok None) s h = ap m.started (w.read_none p q id h) ∙ s
  started_read p q id (Ok (Some x)) s h = (w.same_start p q (Read id (m.generation p id) (ppi_number x.0) x.1) refl (x.0, (h, refl, refl))).0 ∙ s
  started_read p q id (Err e) s h = (w.same_start p q (Stirred Other) refl (ReadRefused id e h)).0 ∙ s

  pub started_ended : (p q : S) (id : ℕ) (r : Result (Unit {0}) AssocError) → m.started p ≡ true → m.ended p id r q → m.started q ≡ true
  started_ended p q id (Ok x) s h = (w.same_start p q (Ended id (m.generation p id)) refl (h, refl)).0 ∙ s
  started_ended p q id (Err e) s h = (w.same_start p q (Stirred Other) refl (EndRefused id e h)).0 ∙ s

  pub started_threshold : (p q : S) (id n : ℕ) (r : Result (Unit {0}) AssocError) → m.started p ≡ true → m.threshold_set p id n r q → m.started q ≡ true
  started_threshold p q id n r s h = (w.same_start p q (Stirred Other) refl (ThresholdSet id n r h)).0 ∙ s

  pub started_reliability : (p q : S) (id : ℕ) (u : Bool) (t : ReliabilityType) (n : ℕ) (r : Result (Unit {0}) AssocError) → m.started p ≡ true → m.reliability_set p id u t n r q → m.started q ≡ true
  started_reliability p q id u t n r s h = (w.same_start p q (Stirred Other) refl (ReliabilitySet id u t n r h)).0 ∙ s

  pub units_read : (p q : S) (id : ℕ) (r : Result (Option (Ppi × List ℕ)) AssocError) → m.read p id r q → ReadUnits (heard_of r) (m.units p) (m.units q)
  units_read p q id (Ok None) h = let e = ap m.units (w.read_none p q id h) in omega (arith, e)
  units_read p q id (Ok (Some x)) h = w.read_units p q id x h
  units_read p q id (Err StreamExists) h = w.read_refused_units p q id StreamExists h
  units_read p q id (Err ResetPending) h = w.read_refused_units p q id ResetPending h
  units_read p q id (Err NoStream) h = w.read_refused_units p q id NoStream h
  units_read p q id (Err TooLong) h = w.read_refused_units p q id TooLong h
  units_read p q id (Err Closing) h = w.read_refused_units p q id Closing h
  units_read p q id (Err Fault) h = w.read_refused_units p q id Fault h
  units_read p q id (Err Alloc) h = w.read_refused_units p q id Alloc h
