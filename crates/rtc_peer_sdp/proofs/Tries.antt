-- The search for a free number, one try at a time.
use Rattle.std.proofs.Common.{◌≡◌, ◌+◌, ◌%◌, ◌^◌, suc, ℕ, Bool, true, false, refl}
use Rattle.rtc_peer_core.specs.Sources.{unused}

pub unused-used : (used : ℕ → Bool) (first tries more n : ℕ) → tries ≡ suc more → used n ≡ true → unused used first tries n ≡ unused used first more ((n + 1) % 2 ^ 32)
unfolding unused
unused-used used first tries more n e taken = rw e (rw taken refl)

pub unused-free : (used : ℕ → Bool) (first tries more n : ℕ) → tries ≡ suc more → used n ≡ false → unused used first tries n ≡ n
unfolding unused
unused-free used first tries more n e free = rw e (rw free refl)

pub unused-none : (used : ℕ → Bool) (first n : ℕ) → unused used first 0 n ≡ first
unfolding unused
unused-none used first n = refl
