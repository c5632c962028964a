-- Steps of a visit, by what was tested before them.
use Rattle.std.proofs.Common.{◌≡◌, ◌<◌, ◌+◌, ◌-◌, ◌^◌, ℕ, Bool, true, false, Option, Some, None, Ok, Err, refl, arith}
use Rattle.std.specs.Prelude.{◌&&◌, IfSome, IfNone, IsErrOf, nat_le, nat_lt}
use Rattle.rtc_wire.specs.declared.dcep_error.DcepError.{DcepError}
use Rattle.rtc_wire.specs.declared.dcep_open.DcepOpen.{DcepOpen}
use Rattle.rtc_parts.specs.AssociationMeaning.{AssociationMeaning}
use Rattle.rtc_sctp_entries.specs.declared.met.Met.{Met}
use Rattle.rtc_sctp_entries.specs.Visits.{Turn, Closes, Announces, AnnouncesIf, BegunAs, RetriedIf, RetriedAt, AttendsIf, opening_ends, is_opening_over}

module _ {S : Type 0} (m : AssociationMeaning S) where
  pub begun_in_band : (b : Bool) (short : Bool) (t : Turn S) (met : Met) (t' : Turn S) → b ≡ false → BegunAs m false t met t' → BegunAs m b t met t'
  begun_in_band b short t met t' e h = rw e h

  pub announces_short : (b : Bool) (t : Turn S) (met : Met) (t' : Turn S) → b ≡ true → Announces m t met t' → AnnouncesIf m b t met t'
  announces_short b t met t' e h = rw e h

  pub announces_long : (b : Bool) (t : Turn S) (met : Met) (t' : Turn S) → b ≡ false → Closes m t met t' → AnnouncesIf m b t met t'
  announces_long b t met t' e h = rw e h

  pub retried_end : (now first : ℕ) (o : Option ℕ) (b : Bool) (t : Turn S) (met : Met) (t' : Turn S) → o ≡ Some first → is_opening_over first now ≡ true → Closes m t met t' → RetriedAt m now o t met t'
  retried_end now first o b t met t' e f h = rw e (retried_late (is_opening_over first now) t met t' f h)
    where
      retried_late : (b : Bool) (t : Turn S) (met : Met) (t' : Turn S) → b ≡ true → Closes m t met t' → RetriedIf m b t met t'
      retried_late b t met t' f h = rw f h

  pub attends_marked : (b there : Bool) (t : Turn S) (met : Met) (t' : Turn S) → b ≡ true → Closes m t met t' → AttendsIf m b there t met t'
  attends_marked b there t met t' e h = rw e h

-- an answer is not both
ok_or_err : (message : DcepOpen) (why : DcepError) → Ok message ≡ Err why → ⊥
ok_or_err message why h = cc

-- a message that was read is one that is not refused
pub read_case : (o : Option DcepError) (message made : DcepOpen) → IfSome o (λ why. IsErrOf (Ok message) why) → IfNone o (message ≡ made) → (o ≡ None) × (message ≡ made)
read_case None message made h k = (refl, k)
read_case (Some why) message made h k = absurd (ok_or_err message why h)

-- a conjunction is false where its second part is
over_false : (a b : Bool) → b ≡ false → (a && b) ≡ false
over_false true b e = e
over_false false b e = refl

-- before the last moment of all, an opening is given up exactly once ten seconds went by
pub over_after_ten_seconds : (first now : ℕ) → now < 2 ^ 64 - 1 → is_opening_over first now ≡ nat_le (first + 10_000_000_000) now
over_after_ten_seconds first now early = by (nat_le (first + 10_000_000_000) now) refl
  where
    by : (b : Bool) → nat_le (first + 10_000_000_000) now ≡ b → is_opening_over first now ≡ b
    by true late =
        let after : nat_lt first now ≡ true = grind (arith, late) in
        let past : nat_le (opening_ends first) now ≡ true = grind (arith, late) in
        rw (after, past) refl
    by false soon =
        let before : nat_le (opening_ends first) now ≡ false = grind (arith, soon, early) in
        over_false (nat_lt first now) (nat_le (opening_ends first) now) before

-- an opening is not given up at the moment of its first refusal, also at the last moment of all
pub not_over : (now : ℕ) → is_opening_over now now ≡ false
not_over now = let same : nat_lt now now ≡ false = grind arith in rw same refl
