-- What the fields of a gate keep.
use Rattle.std.specs.Prelude.{◌≡◌, ℕ, ◌+◌, ◌≤◌, ◌^◌, List, [], ◌∷◌, None}
use Rattle.std.specs.Ordering.{nat_cmp}
use Rattle.std.specs.Cmp.Lexicographic.{slice_cmp}
use Rattle.std.specs.BTreeMap.{BTreeMap, get}
use Rattle.rtc_gate_calls.specs.GateState.{ConnectionState, roster_of}
use Rattle.rtc_gate_calls.specs.Routing.{number_named}

-- the numbers rise, from the least one on, and are below that of the next connection
abbrev pub AreNumbered : ℕ → List ConnectionState → ℕ → Type 0
AreNumbered least [] next = least ≤ next
AreNumbered least (connection ∷ connections) next = (least ≤ connection.number) × AreNumbered (connection.number + 1) connections next

-- no two have one name
abbrev pub HaveOwnNames : List (ℕ × List ℕ) → Type 0
HaveOwnNames [] = Unit {0}
HaveOwnNames (entry ∷ roster) = (number_named roster entry.1 ≡ None) × HaveOwnNames roster

-- the map finds the place that a name has in the roster
abbrev pub IsIndex : BTreeMap (List ℕ) ℕ → List (ℕ × List ℕ) → Type 0
IsIndex names roster = (name : List ℕ) → get (slice_cmp nat_cmp) names name ≡ number_named roster name

pub record IsKept (joined : ℕ) (names : BTreeMap (List ℕ) ℕ) (connections : List ConnectionState) : Type 0 where
  pub numbered : AreNumbered 0 connections joined
  pub few : joined ≤ 2 ^ 32
  pub apart : HaveOwnNames (roster_of connections)
  pub index : IsIndex names (roster_of connections)
