-- The stages of a poll and the calls of parts that may fail, and how they are joined.
use Rattle.std.specs.Prelude.{◌≡◌, ◌≢◌, ℕ, zero, suc, Result, Ok, Err}
use Rattle.rtc_peer_core.specs.declared.rtc_error.RtcError.{RtcError}
use Rattle.rtc_peer_transport.specs.declared.met.Met.{Met}
use Rattle.rtc_peer_transport.specs.declared.met.Met.TheVariants.{Nothing, Again}

-- a stage: the peer before, what was met, the peer after
abbrev pub Stage : Type 0 → Type 0 → Type 1
Stage P E = P → Met E → P → Type 0

-- a call that may fail: the peer before, the result, the peer after
abbrev pub Call : Type 0 → Type 1
Call P = P → Result (Unit {0}) RtcError → P → Type 0

-- the rest follows if the first call did not fail
pub data InTurn {P : Type 0} (first rest : Call P) (p : P) (r : Result (Unit {0}) RtcError) (q : P) : Type 0 where
  Failed : (error : RtcError) → r ≡ Err error → first p (Err error) q → InTurn first rest p r q
  Passed : (between : P) → first p (Ok tt) between → rest between r q → InTurn first rest p r q

-- the rest follows if the first stage met nothing
pub data FollowedBy {P E : Type 0} (first rest : Stage P E) (p : P) (r : Met E) (q : P) : Type 0 where
  Stopped : r ≢ Nothing → first p r q → FollowedBy first rest p r q
  WentOn : (between : P) → first p Nothing between → rest between r q → FollowedBy first rest p r q

-- so many turns of a stage, after each of which it starts over
abbrev pub StartsOver : {P E : Type 0} → Stage P E → ℕ → P → P → Type 0
StartsOver stage zero p q = q ≡ p
StartsOver {P} stage (suc turns) p q = (between : P) × (StartsOver stage turns p between × stage between Again q)

-- a stage is repeated until it does not start over
pub record RepeatsStage {P E : Type 0} (stage : Stage P E) (p : P) (r : Met E) (q : P) : Type 0 where
  pub turns : ℕ
  pub last : P
  pub over : StartsOver stage turns p last
  pub ends : stage last r q
  pub stops : r ≢ Again
