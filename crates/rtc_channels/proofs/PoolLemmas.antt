-- The streams that can be given, after what is kept of one stream changed.
use Rattle.std.proofs.Common.{◌≡◌, ◌≢◌, ◌+◌, ◌-◌, ◌%◌, ◌<◌, ◌==◌, ℕ, Bool, true, false, cond, not, ◌&&◌, eqb, List, inl, inr, refl, ap, sym, subst, ◌∙◌, arith, Option, Some, None}
use Rattle.std.specs.Prelude.{slice_get}
use Rattle.std.specs.List.{filter}
use Rattle.std.specs.BTreeMap.{BTreeMap}
use Rattle.std.proofs.lemmas.Bool.{cases_eq, eq-eqb, ne_eqb}
use Rattle.rtc_channels.specs.declared.grants.Grant.{Grant}
use Rattle.rtc_channels.specs.declared.pools.Pools.{Pools}
use Rattle.rtc_channels.specs.Ids.{IdPool, parity_of, all_ids, every_second, full_pool, ids_with, ids_without, pool_marked}
use Rattle.rtc_channels.specs.Granted.{owner_at, holds_at, is_granted}
use Rattle.rtc_channels.specs.Pools.{IsPool, ArePools}
use Rattle.rtc_channels.proofs.IdLemmas.{absent_id, filter_with, filter_without, without_absent}
use Rattle.rtc_channels.proofs.AllocationLemmas.{filter_alike, filter_all}
use Rattle.rtc_channels.proofs.HandledLemmas.{same_owner, same_times}

-- ---- which streams are granted

abbrev Grants : Type 0
Grants = BTreeMap ℕ Grant

pub granted_given : (old new : Grants) (s id : ℕ) → ((q : ℕ) → owner_at new q ≡ cond (q == s) (Some id) (owner_at old q)) → ((q : ℕ) → holds_at new q ≡ holds_at old q)
    → (q : ℕ) → q ≢ s → is_granted new q ≡ is_granted old q
granted_given old new s id owners times q apart = rw (owners q, times q, ne_eqb q s apart) refl

pub granted_released : (old new : Grants) (s : ℕ) (pending : Bool) → ((q : ℕ) → owner_at new q ≡ cond (q == s) None (owner_at old q))
    → ((q : ℕ) → holds_at new q ≡ cond (pending && (q == s)) (holds_at old q + 1) (holds_at old q)) → (q : ℕ) → q ≢ s → is_granted new q ≡ is_granted old q
granted_released old new s true owners times q apart = rw (owners q, times q, ne_eqb q s apart) refl
granted_released old new s false owners times q apart = rw (owners q, times q, ne_eqb q s apart) refl

pub granted_dropped : (old new : Grants) (s : ℕ) → ((q : ℕ) → owner_at new q ≡ owner_at old q) → ((q : ℕ) → holds_at new q ≡ cond (q == s) (holds_at old q - 1) (holds_at old q))
    → (q : ℕ) → q ≢ s → is_granted new q ≡ is_granted old q
granted_dropped old new s owners times q apart = rw (owners q, times q, ne_eqb q s apart) refl

pub granted_same : (old new : Grants) → new.entries ≡ old.entries → (q : ℕ) → is_granted new q ≡ is_granted old q
granted_same old new same q = rw (same_owner old new q same, same_times old new q same) refl

-- ---- one pool

and_true : (a : Bool) → (a && true) ≡ a
and_true true = refl
and_true false = refl

and_false : (a : Bool) → (a && false) ≡ false
and_false true = refl
and_false false = refl

module _ (old new : Grants) (parity s : ℕ) (two : parity < 2) (below : s < 65536) (others : (q : ℕ) → q ≢ s → is_granted new q ≡ is_granted old q) where
  put : s % 2 ≡ parity → not (is_granted new s) ≡ true
      → ids_with s (filter (λ id. not (is_granted old id)) (all_ids parity)) ≡ filter (λ id. not (is_granted new id)) (all_ids parity)
  unfolding all_ids
  put same free =
      sym (filter_with (λ id. not (is_granted old id)) (λ id. not (is_granted new id)) parity s same (λ q alike apart. ap not (others q apart)) parity 32768
      (omega arith) (omega arith) (omega arith) free)

  taken : not (is_granted new s) ≡ false
      → ids_without s (filter (λ id. not (is_granted old id)) (all_ids parity)) ≡ filter (λ id. not (is_granted new id)) (all_ids parity)
  unfolding all_ids
  taken granted =
      sym (filter_without (λ id. not (is_granted old id)) (λ id. not (is_granted new id)) parity s parity 32768 (omega arith) each)
    where
      each : (x : ℕ) → x % 2 ≡ parity → not (is_granted new x) ≡ (not (is_granted old x) && not (eqb x s))
      each x alike = elim (cases_eq x s) [
        | inl here ↦ rw (here, granted, eq-eqb s s refl) (sym (and_false (not (is_granted old s))))
        | inr apart ↦ rw (others x apart, ne_eqb x s apart) (sym (and_true (not (is_granted old x))))
      ]

  -- a stream of the other parity
  passed : s % 2 ≢ parity → filter (λ id. not (is_granted old id)) (all_ids parity) ≡ filter (λ id. not (is_granted new id)) (all_ids parity)
  unfolding all_ids
  passed differs =
      sym (without_absent s (filter (λ id. not (is_granted old id)) (every_second parity 32768))
      (absent_id (λ id. not (is_granted old id)) s parity 32768 (λ k e. differs (omega (arith, e, two)))))
      ∙ sym (filter_without (λ id. not (is_granted old id)) (λ id. not (is_granted new id)) parity s parity 32768 (omega arith) each)
    where
      each : (x : ℕ) → x % 2 ≡ parity → not (is_granted new x) ≡ (not (is_granted old x) && not (eqb x s))
      each x alike =
          let apart : x ≢ s = λ e. differs (ap (λ n. n % 2) (sym e) ∙ alike) in
          rw (others x apart, ne_eqb x s apart) (sym (and_true (not (is_granted old x))))

  pub pool_noted : (pool : IdPool) → IsPool old parity pool → IsPool new parity (pool_marked s (not (is_granted new s)) pool)
  pool_noted pool h = by (not (is_granted new s)) refl
    where
      by : (free : Bool) → not (is_granted new s) ≡ free → IsPool new parity (pool_marked s free pool)
      by true free = elim (cases_eq (s % 2) parity) [
        | inl same ↦ rw (h.parity_is, eq-eqb (s % 2) parity same) (record {
          parity_is = refl;
          free_is = ap (ids_with s) h.free_is ∙ put same free;
        })
        | inr differs ↦ rw (h.parity_is, ne_eqb (s % 2) parity differs) (record { parity_is = refl; free_is = h.free_is ∙ passed differs })
      ]
      by false granted = record { parity_is = h.parity_is; free_is = ap (ids_without s) h.free_is ∙ taken granted }

-- ---- both pools

pub pools_noted : (old new : Grants) (s : ℕ) (pools pools' : Pools) → s < 65536 → ((q : ℕ) → q ≢ s → is_granted new q ≡ is_granted old q) → ArePools old pools
    → pools'.client ≡ pool_marked s (not (is_granted new s)) pools.client → pools'.server ≡ pool_marked s (not (is_granted new s)) pools.server → ArePools new pools'
pools_noted old new s pools pools' below others h client server = record {
  even = subst (λ (pool : IdPool). IsPool new 0 pool) (sym client) (pool_noted old new 0 s (omega arith) below others pools.client h.even);
  odd = subst (λ (pool : IdPool). IsPool new 1 pool) (sym server) (pool_noted old new 1 s (omega arith) below others pools.server h.odd);
}

pool_same : (old new : Grants) (parity : ℕ) (pool : IdPool) → ((q : ℕ) → is_granted new q ≡ is_granted old q) → IsPool old parity pool → IsPool new parity pool
pool_same old new parity pool same h = record {
  parity_is = h.parity_is;
  free_is = h.free_is ∙ filter_alike (λ id. not (is_granted old id)) (λ id. not (is_granted new id)) (all_ids parity) (λ q. sym (ap not (same q)));
}

pub pools_same : (old new : Grants) (pools : Pools) → new.entries ≡ old.entries → ArePools old pools → ArePools new pools
pools_same old new pools same h = record {
  even = pool_same old new 0 pools.client (granted_same old new same) h.even;
  odd = pool_same old new 1 pools.server (granted_same old new same) h.odd;
}

pool_full : (grants : Grants) (client : Bool) (pool : IdPool) (parity : ℕ) → ((q : ℕ) → is_granted grants q ≡ false) → pool ≡ record { parity = parity; free = all_ids parity } → IsPool grants parity pool
pool_full grants client pool parity none full = record {
  parity_is = ap (λ (p : IdPool). p.parity) full;
  free_is =
      ap (λ (p : IdPool). p.free) full
      ∙ (sym (filter_all (all_ids parity)) ∙ filter_alike (λ x. true) (λ id. not (is_granted grants id)) (all_ids parity) (λ q. sym (ap not (none q))));
}

-- of a map without entries
pub pools_full : (grants : Grants) (pools : Pools) → ((q : ℕ) → is_granted grants q ≡ false) → pools.client ≡ full_pool true → pools.server ≡ full_pool false → ArePools grants pools
pools_full grants pools none client server = record {
  even = pool_full grants true pools.client 0 none client;
  odd = pool_full grants false pools.server 1 none server;
}

-- the least of a side that can be given
pub least_of : (grants : Grants) (pools : Pools) (client : Bool) (r : Option ℕ) → ArePools grants pools → (client ≡ true → r ≡ slice_get pools.client.free 0)
    → (client ≡ false → r ≡ slice_get pools.server.free 0) → r ≡ slice_get (filter (λ id. not (is_granted grants id)) (all_ids (parity_of client))) 0
least_of grants pools true r h own other = own refl ∙ ap (λ (ids : List ℕ). slice_get ids 0) h.even.free_is
least_of grants pools false r h own other = other refl ∙ ap (λ (ids : List ℕ). slice_get ids 0) h.odd.free_is
