-- The closes of generations that an end of the plain association sent and got, by the rows of its streams.
use Rattle.std.proofs.Common.{◌≡◌, ◌∙◌, ◌⊎◌, inl, inr, ◌+◌, ◌<◌, ◌≤◌, ◌==◌, nat_lt, ℕ, not, Bool, true, false, true≢false, List, [], ◌∷◌, ◌++◌, append-nil, refl, sym, ap, subst, arith}
use Rattle.std.proofs.lemmas.Bool.{eqb-true, eqb-false}
use Rattle.std.proofs.lemmas.Bool.Decides.{leb_tells}
use Rattle.rtc_assoc_state.specs.declared.item.Item.{Item}
use Rattle.rtc_assoc_state.specs.declared.close_state.CloseState.{CloseState}
use Rattle.rtc_assoc_state.specs.declared.close_state.CloseState.TheVariants.{Unclosed, Queued, Acknowledged}
use Rattle.rtc_assoc_state.specs.declared.stream_row.StreamRow.{StreamRow}
use Rattle.rtc_assoc_state.specs.Streams.{LAST_GENERATION, is_closed_here, is_unclosed, put, reset_row, stream_of}
use Rattle.rtc_assoc_state.specs.Settling.{can_reset}
use Rattle.rtc_assoc_state.proofs.RaiseLemmas.{stream_of-put, stream_of-put_other}
use Rattle.rtc_assoc.proofs.MessageLemmas.{Closes, HasClose, close-append, close-left, close-right}
use Rattle.rtc_run_laws.proofs.SentOrder.{AllOf, Within, all_of_close, all_of_within, within_append, within_up}

-- What the row of a stream tells of closes: of each generation before its own one was sent, and of its own where this end closed it; one that
-- came is of an earlier generation, or of its own, which the row then tells; one that is not acknowledged stands among the items; a
-- generation that both ends closed is reset once this is acknowledged, unless it is the last; and a close is answered by one. No other close
-- was sent; of each generation before its own one came, and of its own where the row tells it; and items are of its generation or before.
pub record RowKeeps (s : ℕ) (row : StreamRow) (items w r : List Item) : Type 0 where
  pub below : (g : ℕ) → g < row.generation → HasClose s g w
  pub own : is_closed_here row ≡ true → HasClose s row.generation w
  pub known : (g : ℕ) → HasClose s g r → (g < row.generation) ⊎ ((g ≡ row.generation) × (row.finished ≡ true))
  pub queued : row.close ≡ Queued → HasClose s row.generation items
  pub rests : row.close ≡ Acknowledged → row.finished ≡ true → can_reset row ≡ false
  pub follows : row.finished ≡ true → is_closed_here row ≡ true
  pub bounded : row.generation ≤ LAST_GENERATION
  pub mine : (g : ℕ) → HasClose s g w → (g < row.generation) ⊎ ((g ≡ row.generation) × (is_closed_here row ≡ true))
  pub heard : (g : ℕ) → g < row.generation → HasClose s g r
  pub ended : row.finished ≡ true → HasClose s row.generation r
  pub within : Within s row.generation w

abbrev pub Keeps : List StreamRow → (items w r : List Item) → Type 0
Keeps streams items w r = (s : ℕ) → RowKeeps s (stream_of s streams) items w r

-- what came besides
came : (s g : ℕ) (r got : List Item) (A : Type 0) → (HasClose s g r → A) → (HasClose s g got → A) → HasClose s g (r ++ got) → A
came s g r got A f k h = by (close-append s g r got h)
  where
    by : HasClose s g r ⊎ HasClose s g got → A
    by (inl x) = f x
    by (inr x) = k x

-- a row in the same generation, as far closed
pub record RowSame (x y : StreamRow) : Type 0 where
  pub generation_is : y.generation ≡ x.generation
  pub close_is : y.close ≡ x.close
  pub finished_is : y.finished ≡ x.finished

closed_as : (x y : StreamRow) → y.close ≡ x.close → is_closed_here y ≡ is_closed_here x
closed_as x y h = ap (λ (c : CloseState). not (is_unclosed c)) h

-- more was sent, and what came is known
pub row_more : (s : ℕ) (x y : StreamRow) (items items' w more r got : List Item) → RowSame x y
    → ((g : ℕ) → HasClose s g items → HasClose s g items')
    → ((g : ℕ) → HasClose s g got → (g < x.generation) ⊎ ((g ≡ x.generation) × (x.finished ≡ true)))
    → ((g : ℕ) → HasClose s g more → ⊥) → Within s x.generation more
    → RowKeeps s x items w r → RowKeeps s y items' (w ++ more) (r ++ got)
row_more s x y items items' w more r got same stay news unclosed low h = record {
  below = λ g less. close-left s g w more (h.below g (subst (λ (n : ℕ). g < n) same.generation_is less));
  own = λ e.
      subst (λ (n : ℕ). HasClose s n (w ++ more)) (sym same.generation_is)
      (close-left s x.generation w more (h.own (sym (closed_as x y same.close_is) ∙ e)));
  known = λ g k. back g (came s g r got ((g < x.generation) ⊎ ((g ≡ x.generation) × (x.finished ≡ true))) (h.known g) (news g) k);
  queued = λ e.
      subst (λ (n : ℕ). HasClose s n items') (sym same.generation_is) (stay x.generation (h.queued (sym same.close_is ∙ e)));
  rests = λ e f. resets (h.rests (sym same.close_is ∙ e) (sym same.finished_is ∙ f));
  follows = λ e. closed_as x y same.close_is ∙ h.follows (sym same.finished_is ∙ e);
  bounded = subst (λ (n : ℕ). n ≤ LAST_GENERATION) (sym same.generation_is) h.bounded;
  mine = λ g k. own_back g (came s g w more ((g < x.generation) ⊎ ((g ≡ x.generation) × (is_closed_here x ≡ true))) (h.mine g) (λ c. absurd (unclosed g c)) k);
  heard = λ g less. close-left s g r got (h.heard g (subst (λ (n : ℕ). g < n) same.generation_is less));
  ended = λ e.
      subst (λ (n : ℕ). HasClose s n (r ++ got)) (sym same.generation_is)
      (close-left s x.generation r got (h.ended (sym same.finished_is ∙ e)));
  within = subst (λ (n : ℕ). Within s n (w ++ more)) (sym same.generation_is) (within_append s x.generation w more h.within low);
}
  where
    own_back : (g : ℕ) → (g < x.generation) ⊎ ((g ≡ x.generation) × (is_closed_here x ≡ true)) → (g < y.generation) ⊎ ((g ≡ y.generation) × (is_closed_here y ≡ true))
    own_back g (inl less) = inl (subst (λ (n : ℕ). g < n) (sym same.generation_is) less)
    own_back g (inr k) = inr (k.0 ∙ sym same.generation_is, closed_as x y same.close_is ∙ k.1)

    back : (g : ℕ) → (g < x.generation) ⊎ ((g ≡ x.generation) × (x.finished ≡ true)) → (g < y.generation) ⊎ ((g ≡ y.generation) × (y.finished ≡ true))
    back g (inl less) = inl (subst (λ (n : ℕ). g < n) (sym same.generation_is) less)
    back g (inr k) = inr (k.0 ∙ sym same.generation_is, same.finished_is ∙ k.1)

    resets : can_reset x ≡ false → can_reset y ≡ false
    resets e = ap (λ (n : ℕ). can_reset (record x { generation = n })) same.generation_is ∙ e

pub no_queue : Acknowledged ≡ Queued → ⊥
no_queue h = cc

pub no_rest : Queued ≡ Acknowledged → ⊥
no_rest h = cc

pub no_open : Unclosed ≡ Queued → ⊥
no_open h = cc

pub no_open_rest : Unclosed ≡ Acknowledged → ⊥
no_open_rest h = cc

one_close : (s g t h : ℕ) (c : Item) → Closes s g c → HasClose t h (c ∷ []) → (t ≡ s) × (h ≡ g)
one_close s g t h c k (inl x) = (sym x.stream_is ∙ k.stream_is, sym x.generation_is ∙ k.generation_is)
one_close s g t h c k (inr x) = absurd x

-- this end closes its generation
pub row_queued : (s : ℕ) (row : StreamRow) (c : Item) (items w r : List Item) → Closes s row.generation c → RowKeeps s row items w r
    → RowKeeps s (record row { close = Queued }) (items ++ c ∷ []) (w ++ c ∷ []) (r ++ [])
row_queued s row c items w r closes h = record {
  below = λ g less. close-left s g w (c ∷ []) (h.below g less);
  own = λ e. close-right s row.generation w (c ∷ []) (inl closes);
  known = λ g k. came s g r [] ((g < row.generation) ⊎ ((g ≡ row.generation) × (row.finished ≡ true))) (h.known g) (λ x. absurd x) k;
  queued = λ e. close-right s row.generation items (c ∷ []) (inl closes);
  rests = λ e f. absurd (no_rest e);
  follows = λ e. refl;
  bounded = h.bounded;
  mine = λ g k. came s g w (c ∷ []) ((g < row.generation) ⊎ ((g ≡ row.generation) × (true ≡ true))) (λ x. own_known g (h.mine g x)) (λ x. inr ((one_close s row.generation s g c closes x).1, refl)) k;
  heard = λ g less. close-left s g r [] (h.heard g less);
  ended = λ e. close-left s row.generation r [] (h.ended e);
  within = within_append s row.generation w (c ∷ []) h.within ((λ e. let same = closes.generation_is in omega (arith, same)), tt);
}
  where
    own_known : (g : ℕ) → (g < row.generation) ⊎ ((g ≡ row.generation) × (is_closed_here row ≡ true)) → (g < row.generation) ⊎ ((g ≡ row.generation) × (true ≡ true))
    own_known g (inl less) = inl less
    own_known g (inr k) = inr (k.0, refl)

-- the other end closed it, and this one answers
pub row_answered : (s : ℕ) (row : StreamRow) (c d : Item) (items w r : List Item) → Closes s row.generation c → Closes s row.generation d
    → RowKeeps s row items w r → RowKeeps s (record row { close = Queued; finished = true }) (items ++ c ∷ []) (w ++ c ∷ []) (r ++ d ∷ [])
row_answered s row c d items w r closes came_is h = record {
  below = λ g less. close-left s g w (c ∷ []) (h.below g less);
  own = λ e. close-right s row.generation w (c ∷ []) (inl closes);
  known = λ g k.
      came s g r (d ∷ []) ((g < row.generation) ⊎ ((g ≡ row.generation) × (true ≡ true))) (λ x. before g (h.known g x))
      (λ x. inr ((one_close s row.generation s g d came_is x).1, refl)) k;
  queued = λ e. close-right s row.generation items (c ∷ []) (inl closes);
  rests = λ e f. absurd (no_rest e);
  follows = λ e. refl;
  bounded = h.bounded;
  mine = λ g k. came s g w (c ∷ []) ((g < row.generation) ⊎ ((g ≡ row.generation) × (true ≡ true))) (λ x. own_known g (h.mine g x)) (λ x. inr ((one_close s row.generation s g c closes x).1, refl)) k;
  heard = λ g less. close-left s g r (d ∷ []) (h.heard g less);
  ended = λ e. close-right s row.generation r (d ∷ []) (inl came_is);
  within = within_append s row.generation w (c ∷ []) h.within ((λ e. let same = closes.generation_is in omega (arith, same)), tt);
}
  where
    own_known : (g : ℕ) → (g < row.generation) ⊎ ((g ≡ row.generation) × (is_closed_here row ≡ true)) → (g < row.generation) ⊎ ((g ≡ row.generation) × (true ≡ true))
    own_known g (inl less) = inl less
    own_known g (inr k) = inr (k.0, refl)

    before : (g : ℕ) → (g < row.generation) ⊎ ((g ≡ row.generation) × (row.finished ≡ true))
        → (g < row.generation) ⊎ ((g ≡ row.generation) × (true ≡ true))
    before g (inl less) = inl less
    before g (inr k) = inr (k.0, refl)

-- the other end closed it, and this one had
pub row_finished : (s : ℕ) (row : StreamRow) (d : Item) (items items' w r : List Item) → ((g : ℕ) → HasClose s g items → HasClose s g items')
    → is_closed_here row ≡ true → (row.close ≡ Acknowledged → can_reset row ≡ false) → Closes s row.generation d → RowKeeps s row items w r
    → RowKeeps s (record row { finished = true }) items' (w ++ []) (r ++ d ∷ [])
row_finished s row d items items' w r stay closed last came_is h = record {
  below = λ g less. close-left s g w [] (h.below g less);
  own = λ e. close-left s row.generation w [] (h.own e);
  known = λ g k.
      came s g r (d ∷ []) ((g < row.generation) ⊎ ((g ≡ row.generation) × (true ≡ true))) (λ x. before g (h.known g x))
      (λ x. inr ((one_close s row.generation s g d came_is x).1, refl)) k;
  queued = λ e. stay row.generation (h.queued e);
  rests = λ e f. last e;
  follows = λ e. closed;
  bounded = h.bounded;
  mine = λ g k. came s g w [] ((g < row.generation) ⊎ ((g ≡ row.generation) × (is_closed_here row ≡ true))) (h.mine g) (λ x. absurd x) k;
  heard = λ g less. close-left s g r (d ∷ []) (h.heard g less);
  ended = λ e. close-right s row.generation r (d ∷ []) (inl came_is);
  within = within_append s row.generation w [] h.within tt;
}
  where
    before : (g : ℕ) → (g < row.generation) ⊎ ((g ≡ row.generation) × (row.finished ≡ true))
        → (g < row.generation) ⊎ ((g ≡ row.generation) × (true ≡ true))
    before g (inl less) = inl less
    before g (inr k) = inr (k.0, refl)

next_within : (n l : ℕ) → nat_lt n l ≡ true → n + 1 ≤ l
next_within n l h = grind (arith, h)

-- both did, and the stream comes to its next generation
pub row_next : (s : ℕ) (row : StreamRow) (items items' w r got : List Item) → is_closed_here row ≡ true → can_reset row ≡ true
    → ((g : ℕ) → HasClose s g got → g ≡ row.generation) → HasClose s row.generation (r ++ got) → RowKeeps s row items w r → RowKeeps s (reset_row row) items' (w ++ []) (r ++ got)
row_next s row items items' w r got closed can news heard_now h = record {
  below = λ g less. close-left s g w [] (by g (order g row.generation less));
  own = λ e. absurd (true≢false (sym e));
  known = λ g k.
      came s g r got ((g < row.generation + 1) ⊎ ((g ≡ row.generation + 1) × (false ≡ true))) (λ x. before g (h.known g x))
      (λ x. let same = news g x in inl (omega (arith, same))) k;
  queued = λ e. absurd (no_open e);
  rests = λ e f. absurd (no_open_rest e);
  follows = λ e. absurd (true≢false (sym e));
  bounded = next_within row.generation LAST_GENERATION can;
  mine = λ g k.
      came s g w [] ((g < row.generation + 1) ⊎ ((g ≡ row.generation + 1) × (false ≡ true))) (λ x. own_known g (h.mine g x)) (λ x. absurd x) k;
  heard = λ g less. hears g (order g row.generation less);
  ended = λ e. absurd (true≢false (sym e));
  within = within_append s (row.generation + 1) w [] (within_up s row.generation (row.generation + 1) w (omega arith) h.within) tt;
}
  where
    own_known : (g : ℕ) → (g < row.generation) ⊎ ((g ≡ row.generation) × (is_closed_here row ≡ true)) → (g < row.generation + 1) ⊎ ((g ≡ row.generation + 1) × (false ≡ true))
    own_known g (inl less) = inl (omega (arith, less))
    own_known g (inr k) = let same = k.0 in inl (omega (arith, same))

    hears : (g : ℕ) → (g < row.generation) ⊎ (g ≡ row.generation) → HasClose s g (r ++ got)
    hears g (inl less) = close-left s g r got (h.heard g less)
    hears g (inr same) = subst (λ (n : ℕ). HasClose s n (r ++ got)) (sym same) heard_now

    order : (g n : ℕ) → g < n + 1 → (g < n) ⊎ (g ≡ n)
    order g n less =
        elim (leb_tells n g) [ inl e ↦ (let le = e.1 in inr (omega (arith, le, less))) | inr e ↦ inl e.1 ]

    by : (g : ℕ) → (g < row.generation) ⊎ (g ≡ row.generation) → HasClose s g w
    by g (inl less) = h.below g less
    by g (inr same) = subst (λ (n : ℕ). HasClose s n w) (sym same) (h.own closed)

    before : (g : ℕ) → (g < row.generation) ⊎ ((g ≡ row.generation) × (row.finished ≡ true))
        → (g < row.generation + 1) ⊎ ((g ≡ row.generation + 1) × (false ≡ true))
    before g (inl less) = inl (omega (arith, less))
    before g (inr k) = let same = k.0 in inl (omega (arith, same))

-- the close of this end is acknowledged
pub row_acknowledged : (s : ℕ) (row : StreamRow) (items items' w r : List Item) → row.close ≡ Queued → (row.finished ≡ true → can_reset row ≡ false)
    → RowKeeps s row items w r → RowKeeps s (record row { close = Acknowledged }) items' (w ++ []) (r ++ [])
row_acknowledged s row items items' w r was last h = record {
  below = λ g less. close-left s g w [] (h.below g less);
  own = λ e. close-left s row.generation w [] (h.own (ap (λ (c : CloseState). not (is_unclosed c)) was));
  known = λ g k. came s g r [] ((g < row.generation) ⊎ ((g ≡ row.generation) × (row.finished ≡ true))) (h.known g) (λ x. absurd x) k;
  queued = λ e. absurd (no_queue e);
  rests = λ e f. last f;
  follows = λ e. refl;
  bounded = h.bounded;
  mine = λ g k. came s g w [] ((g < row.generation) ⊎ ((g ≡ row.generation) × (true ≡ true))) (λ x. own_known g (h.mine g x)) (λ x. absurd x) k;
  heard = λ g less. close-left s g r [] (h.heard g less);
  ended = λ e. close-left s row.generation r [] (h.ended e);
  within = within_append s row.generation w [] h.within tt;
}
  where
    own_known : (g : ℕ) → (g < row.generation) ⊎ ((g ≡ row.generation) × (is_closed_here row ≡ true)) → (g < row.generation) ⊎ ((g ≡ row.generation) × (true ≡ true))
    own_known g (inl less) = inl less
    own_known g (inr k) = inr (k.0, refl)

-- ---- tables of rows

-- a row in place of that of its stream
pub keeps_put : (id : ℕ) (new : StreamRow) (streams : List StreamRow) (items items' w more r got : List Item) → new.stream ≡ id
    → RowKeeps id new items' (w ++ more) (r ++ got) → ((s g : ℕ) → (s ≡ id → ⊥) → HasClose s g items → HasClose s g items')
    → ((s g : ℕ) → HasClose s g got → s ≡ id) → AllOf id more → Keeps streams items w r → Keeps (put new streams) items' (w ++ more) (r ++ got)
keeps_put id new streams items items' w more r got same row stay news all h = λ s. by s (new.stream == s) refl
  where
    own : (s : ℕ) → id ≡ s → stream_of s (put new streams) ≡ new
    own s e = ap (λ (n : ℕ). stream_of n (put new streams)) (sym (same ∙ e)) ∙ stream_of-put new streams

    by : (s : ℕ) (b : Bool) → (new.stream == s) ≡ b → RowKeeps s (stream_of s (put new streams)) items' (w ++ more) (r ++ got)
    by s true e =
        let is : id ≡ s = sym same ∙ eqb-true new.stream s e in
        subst (λ (x : StreamRow). RowKeeps s x items' (w ++ more) (r ++ got)) (sym (own s is))
        (subst (λ (n : ℕ). RowKeeps n new items' (w ++ more) (r ++ got)) is row)
    by s false e =
        let ne : s ≡ id → ⊥ = λ f. eqb-false new.stream s e (same ∙ sym f) in
        subst (λ (x : StreamRow). RowKeeps s x items' (w ++ more) (r ++ got)) (sym (stream_of-put_other s new streams e))
        (row_more s (stream_of s streams) (stream_of s streams) items items' w more r got
        (record { generation_is = refl; close_is = refl; finished_is = refl }) (λ g k. stay s g ne k) (λ g k. absurd (ne (news s g k)))
        (λ g k. ne (all_of_close id s g more all k)) (all_of_within id s (stream_of s streams).generation more ne all) (h s))

-- the same with no ghost beside
pub keeps_nil : (streams : List StreamRow) (items w r : List Item) → Keeps streams items (w ++ []) (r ++ []) → Keeps streams items w r
keeps_nil streams items w r h =
    subst (λ (l : List Item). Keeps streams items l r) (append-nil w) (subst (λ (l : List Item). Keeps streams items (w ++ []) l) (append-nil r) h)
