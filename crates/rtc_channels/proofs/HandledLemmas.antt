-- What a handler keeps fits together after each of its calls.
use Rattle.std.proofs.Common.{◌≡◌, ◌+◌, ◌<◌, ◌≤◌, ◌==◌, ℕ, false, suc, zero, cond, List, [], ◌∷◌, ◌++◌, length, get_or, refl, ap, sym, ◌∙◌, arith, Option, Some, None}
use Rattle.std.specs.Prelude.{slice_set, remove, is_some, nat_lt, ◌||◌}
use Rattle.std.specs.BTreeMap.{BTreeMap, is_at}
use Rattle.std.specs.Map.{lookup}
use Rattle.std.specs.Ordering.{nat_cmp}
use Rattle.rtc_wire.specs.declared.channel_config.ChannelConfig.{ChannelConfig}
use Rattle.rtc_wire.proofs.ChannelConfigLemmas.{both_fit}
use Rattle.rtc_channels.specs.declared.kept.Kept.{Kept}
use Rattle.rtc_channels.specs.declared.grants.Grant.{Grant}
use Rattle.rtc_channels.specs.Channels.{channel_of_stream}
use Rattle.rtc_channels.specs.Kept.{place_of_channel, kept_config}
use Rattle.rtc_channels.specs.Granted.{grant_owner, grant_holds, owner_at, holds_at, holds_of, FitOpenMessages, AreHandled, is_granted}
use Rattle.rtc_channels.proofs.KeptLemmas.{paired_more, IsConfirmed}
use Rattle.rtc_channels.proofs.GrantLemmas.{holds_none, holds_same}
use Rattle.rtc_channels.proofs.RowLemmas.{owner_more, owner_pushed, unshared_more, unshared_pushed, owner_given, unshared_given, owner_gone, owner_released, unshared_fewer, short_more, short_set, short_fewer}
use Rattle.rtc_channels.proofs.GivenLemmas.{paired_given, paired_gone}

-- maps with the same entries
pub same_owner : (old new : BTreeMap ℕ Grant) (q : ℕ) → new.entries ≡ old.entries → owner_at new q ≡ owner_at old q
same_owner old new q same = ap (λ (es : List (ℕ × Grant)). grant_owner (lookup (is_at (nat_cmp q)) es)) same

pub same_times : (old new : BTreeMap ℕ Grant) (q : ℕ) → new.entries ≡ old.entries → holds_at new q ≡ holds_at old q
same_times old new q same = ap (λ (es : List (ℕ × Grant)). grant_holds (lookup (is_at (nat_cmp q)) es)) same

pub same_list : (old new : BTreeMap ℕ Grant) → new.entries ≡ old.entries → holds_of new ≡ holds_of old
same_list old new same = holds_same old new (λ q. same_times old new q same)

-- an empty map
empty_owner : (grants : BTreeMap ℕ Grant) (q : ℕ) → grants.entries ≡ [] → owner_at grants q ≡ None
empty_owner grants q empty = ap (λ (es : List (ℕ × Grant)). grant_owner (lookup (is_at (nat_cmp q)) es)) empty

pub empty_granted : (grants : BTreeMap ℕ Grant) (q : ℕ) → grants.entries ≡ [] → is_granted grants q ≡ false
empty_granted grants q empty = ap (λ (es : List (ℕ × Grant)). is_some (grant_owner (lookup (is_at (nat_cmp q)) es)) || nat_lt 0 (grant_holds (lookup (is_at (nat_cmp q)) es))) empty

pub empty_list : (grants : BTreeMap ℕ Grant) → grants.entries ≡ [] → holds_of grants ≡ []
empty_list grants empty = holds_none grants (λ q. ap (λ (es : List (ℕ × Grant)). grant_holds (lookup (is_at (nat_cmp q)) es)) empty)

pub handled_empty : (grants : BTreeMap ℕ Grant) → grants.entries ≡ [] → AreHandled 0 [] [] grants
handled_empty grants empty = record {
  paired = record { same = refl; rising = tt; below = tt };
  owners = λ q. empty_owner grants q empty;
  unshared = tt;
  count = rw (empty_list grants empty) (omega arith);
  short = tt;
}

length-push : {X : Type 0} (xs : List X) (x : X) → length (xs ++ x ∷ []) ≡ suc (length xs)
length-push [] x = refl
length-push (y ∷ xs) x = ap suc (length-push xs x)

length-put : {X : Type 0} (xs : List X) (i : ℕ) (x : X) → length (slice_set xs i x) ≡ length xs
length-put [] i x = refl
length-put (y ∷ xs) zero x = refl
length-put (y ∷ xs) (suc i) x = ap suc (length-put xs i x)

length-remove : {X : Type 0} (xs : List X) (i : ℕ) → i < length xs → length (remove xs i) + 1 ≡ length xs
length-remove [] i within = absurd (omega arith)
length-remove (x ∷ xs) zero within = omega arith
length-remove (x ∷ xs) (suc i) within = let rest = length-remove xs i (omega (arith, within)) in omega (arith, rest)

module _ (given : ℕ) (rows : List (ℕ × Option ℕ)) (kept : List Kept) (grants : BTreeMap ℕ Grant) (handled : AreHandled given rows kept grants) where
  -- one more channel without a stream
  pub handled_more : (id : ℕ) (own : Kept) → id ≡ given → own.config ≡ None → AreHandled (given + 1) (rows ++ (id, None) ∷ []) (kept ++ own ∷ []) grants
  handled_more id own is none = record {
    paired = paired_more given rows kept (id, None) own handled.paired is;
    owners = λ q. handled.owners q ∙ sym (owner_more q id rows);
    unshared = unshared_more rows id handled.unshared;
    count = omega (arith, length-push rows (id, None), handled.count);
    short = short_more kept own (rw none tt) handled.short;
  }

  -- a config is kept
  pub handled_confirmed : (id : ℕ) (config : ChannelConfig) (own : Kept) (place : ℕ) → length config.label ≤ 65535 → length config.protocol ≤ 65535
      → IsConfirmed given id config rows kept own place → AreHandled given rows (slice_set kept place (kept_config config own)) grants
  handled_confirmed id config own place label protocol set = record {
    paired = set.paired;
    owners = handled.owners;
    unshared = handled.unshared;
    count = handled.count;
    short = short_set kept place (kept_config config own) (both_fit config label protocol) handled.short;
  }

  -- a config is taken
  pub short_taken : (own : Kept) (place : ℕ) → own.config ≡ None → FitOpenMessages (slice_set kept place own)
  short_taken own place none = short_set kept place own (rw none tt) handled.short

  -- one more channel that has a stream
  pub handled_pushed : (grants' : BTreeMap ℕ Grant) (id s : ℕ) (own : Kept) → id ≡ given → own.config ≡ None → channel_of_stream s rows ≡ None
      → ((q : ℕ) → owner_at grants' q ≡ cond (q == s) (Some id) (owner_at grants q)) → ((q : ℕ) → holds_at grants' q ≡ holds_at grants q)
      → AreHandled (given + 1) (rows ++ (id, Some s) ∷ []) (kept ++ own ∷ []) grants'
  handled_pushed grants' id s own is none free owners times = record {
    paired = paired_more given rows kept (id, Some s) own handled.paired is;
    owners = λ q. owners q ∙ (ap (λ (found : Option ℕ). cond (q == s) (Some id) found) (handled.owners q) ∙ sym (owner_pushed q s id rows free));
    unshared = unshared_pushed rows id s free handled.unshared;
    count = omega (arith, length-push rows (id, Some s), handled.count, ap (λ (list : List ℕ). length list) (holds_same grants grants' times));
    short = short_more kept own (rw none tt) handled.short;
  }

  -- a channel is given a stream
  pub handled_given : (grants' : BTreeMap ℕ Grant) (id s i : ℕ) (d : ℕ × Option ℕ) → i < length rows → get_or rows i d ≡ (id, None) → place_of_channel 0 id rows ≡ Some i
      → channel_of_stream s rows ≡ None
      → ((q : ℕ) → owner_at grants' q ≡ cond (q == s) (Some id) (owner_at grants q)) → ((q : ℕ) → holds_at grants' q ≡ holds_at grants q)
      → AreHandled given (slice_set rows i (id, Some s)) kept grants'
  handled_given grants' id s i d within at found free owners times = record {
    paired = paired_given given id s rows kept i handled.paired found;
    owners = λ q. owners q ∙ (ap (λ (found : Option ℕ). cond (q == s) (Some id) found) (handled.owners q) ∙ sym (owner_given q s id rows i d within at free));
    unshared = unshared_given rows i id s d within at free handled.unshared;
    count = omega (arith, length-put rows i (id, Some s), handled.count, ap (λ (list : List ℕ). length list) (holds_same grants grants' times));
    short = handled.short;
  }

  -- a channel without a stream goes
  pub handled_gone : (id i : ℕ) (d : ℕ × Option ℕ) → i < length rows → place_of_channel 0 id rows ≡ Some i → (get_or rows i d).1 ≡ None
      → AreHandled given (remove rows i) (remove kept i) grants
  handled_gone id i d within found none = record {
    paired = paired_gone given id rows kept i handled.paired found within;
    owners = λ q. handled.owners q ∙ sym (owner_gone q rows i d within none);
    unshared = unshared_fewer rows i within handled.unshared;
    count = omega (arith, length-remove rows i within, handled.count);
    short = short_fewer kept i (omega (arith, within, handled.paired.same)) handled.short;
  }

  -- a channel with a stream goes
  pub handled_released : (grants' : BTreeMap ℕ Grant) (id i s : ℕ) (d : ℕ × Option ℕ) → i < length rows → place_of_channel 0 id rows ≡ Some i → (get_or rows i d).1 ≡ Some s
      → ((q : ℕ) → owner_at grants' q ≡ cond (q == s) None (owner_at grants q)) → length (holds_of grants') ≤ suc (length (holds_of grants))
      → AreHandled given (remove rows i) (remove kept i) grants'
  handled_released grants' id i s d within found is owners more = record {
    paired = paired_gone given id rows kept i handled.paired found within;
    owners = λ q. owners q ∙ (ap (λ (found : Option ℕ). cond (q == s) None found) (handled.owners q) ∙ sym (owner_released q s rows i d within is handled.unshared));
    unshared = unshared_fewer rows i within handled.unshared;
    count = omega (arith, length-remove rows i within, handled.count, more);
    short = short_fewer kept i (omega (arith, within, handled.paired.same)) handled.short;
  }

  -- the holds change, and nothing else
  pub handled_held : (grants' : BTreeMap ℕ Grant) → ((q : ℕ) → owner_at grants' q ≡ owner_at grants q) → length (holds_of grants') ≤ length (holds_of grants)
      → AreHandled given rows kept grants'
  handled_held grants' owners fewer = record {
    paired = handled.paired;
    owners = λ q. owners q ∙ handled.owners q;
    unshared = handled.unshared;
    count = omega (arith, handled.count, fewer);
    short = handled.short;
  }
