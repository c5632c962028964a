-- Calls on the DTLS connection that leave its role and the fingerprint of this side.
use Rattle.std.proofs.Common.{◌≡◌, Bool, true, false, ℕ, List, [], ◌∷◌, Option, Some, None, Result, refl, sym, subst}
use Rattle.std.specs.declared.alloc.AllocError.{AllocError}
use Rattle.rtc_parts.specs.declared.dtls_error.DtlsError.{DtlsError}
use Rattle.rtc_parts.specs.declared.dtls_output.DtlsOutput.{DtlsOutput}
use Rattle.rtc_parts.specs.DtlsMeaning.{DtlsMeaning}
use Rattle.rtc_parts.specs.DtlsState.{DtlsState, HandsOn, PollsOutput, GivesPacket, SendsData}

-- a connection with the same role and fingerprint of this side
abbrev pub KeepsRole : {D : Type 0} → DtlsState D → DtlsState D → Type 0
KeepsRole d e = (e.active ≡ d.active) × (e.local ≡ d.local)

role_by : {D : Type 0} (d n e : DtlsState D) → e ≡ n → KeepsRole d n → KeepsRole d e
role_by {D} d n e is kept = subst (λ (x : DtlsState D). KeepsRole d x) (sym is) kept

module _ {D : Type 0} (m : DtlsMeaning D) where
  pub hands_on_role : (d : DtlsState D) (active : Option Bool) (done : D → Result (Unit {0}) DtlsError → D → Type 0) (r : Result (Unit {0}) DtlsError)
      (e : DtlsState D) → HandsOn m d active done r e → KeepsRole d e
  hands_on_role d None done r e h = role_by d d e h.1 (refl, refl)
  hands_on_role d (Some active) done r e h = role_by d _ e h.1 (refl, refl)

  pub polls_role : (d : DtlsState D) (active : Option Bool) (r : Result DtlsOutput AllocError) (e : DtlsState D) → PollsOutput m d active r e → KeepsRole d e
  polls_role d None r e h = role_by d d e h.1 (refl, refl)
  polls_role d (Some active) r e h = role_by d _ e h.1 (refl, refl)

  pub gives_role : (d : DtlsState D) (packets : List (List ℕ)) (packet : Option (List ℕ)) (e : DtlsState D) → GivesPacket m d packets packet e → KeepsRole d e
  gives_role d [] None e h = role_by d d e h (refl, refl)
  gives_role d [] (Some packet) e h = absurd h
  gives_role d (b ∷ packets) None e h = absurd h
  gives_role d (b ∷ packets) (Some packet) e h = role_by d _ e h.1 (refl, refl)

  pub sends_role : (d : DtlsState D) (can : Bool) (bytes : List ℕ) (r : Result (Unit {0}) DtlsError) (e : DtlsState D) → SendsData m d can bytes r e → KeepsRole d e
  sends_role d true bytes r e h = role_by d _ e h.1 (refl, refl)
  sends_role d false bytes r e h = role_by d d e h.1 (refl, refl)
