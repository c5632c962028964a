-- The stream ids of one parity that are free (RFC 8832, section 6).
use Rattle.std.specs.Prelude.{◌≡◌, ◌+◌, ◌%◌, ◌<◌, ◌^◌, ◌==◌, ◌&&◌, nat_lt, not, if◌then◌else◌}
use Rattle.std.specs.Prelude.{ℕ, suc, zero, Bool, true, false, List, [], ◌∷◌}
use Rattle.std.specs.List.{filter, list_any}

pub record IdPool : Type 0 where
  -- what each id leaves when it is divided by two
  pub parity : ℕ
  -- the ids that can be taken, in ascending order
  pub free : List ℕ

-- a client takes even ids, a server odd ones
abbrev pub parity_of : Bool → ℕ
parity_of true = 0
parity_of false = 1

-- so many ids from the first on, two apart
abbrev pub every_second : ℕ → ℕ → List ℕ
every_second first zero = []
every_second first (suc count) = first ∷ every_second (first + 2) count

-- 0, 2, .. 65534, or 1, 3, .. 65535
unfoldable pub all_ids : ℕ → List ℕ
all_ids parity = every_second parity 32768

-- an id of 16 bits has this parity
abbrev pub IsIdOf : ℕ → ℕ → Type 0
IsIdOf parity id = (id % 2 ≡ parity) × (id < 2 ^ 16)

-- every id of a side
abbrev pub full_pool : Bool → IdPool
full_pool client = record { parity = parity_of client; free = all_ids (parity_of client) }

abbrev pub contains_id : ℕ → List ℕ → Bool
contains_id id ids = list_any (λ own. own == id) ids

-- whether an id can be taken
abbrev pub is_free : ℕ → IdPool → Bool
is_free id pool = contains_id id pool.free

abbrev pub is_of_parity : ℕ → ℕ → Bool
is_of_parity parity id = (id % 2) == parity

-- whether an id is of the pool, and cannot be taken
abbrev pub is_missing : ℕ → IdPool → Bool
is_missing id pool = is_of_parity pool.parity id && not (is_free id pool)

abbrev pub ids_without : ℕ → List ℕ → List ℕ
ids_without id ids = filter (λ own. not (own == id)) ids

-- the pool without an id
abbrev pub without_id : ℕ → IdPool → IdPool
without_id id pool = record pool { free = ids_without id pool.free }

-- an ascending list with an id in its place
abbrev pub ids_with : ℕ → List ℕ → List ℕ
ids_with id [] = id ∷ []
ids_with id (own ∷ ids) = if nat_lt own id then own ∷ ids_with id ids else (if own == id then own ∷ ids else id ∷ own ∷ ids)

-- the pool with an id, if it is of this parity
abbrev pub with_id : ℕ → IdPool → IdPool
with_id id pool = if is_of_parity pool.parity id then record pool { free = ids_with id pool.free } else pool

-- the pool with an id or without it
abbrev pub pool_marked : ℕ → Bool → IdPool → IdPool
pool_marked id true pool = with_id id pool
pool_marked id false pool = without_id id pool
