-- A stream in a generation that the other end did not close, or whose close is to be reported: acts that report nothing leave it so, and a
-- report leaves it so unless it is that of the close.
use Rattle.std.proofs.Common.{◌≡◌, ◌∙◌, ◌⊎◌, inl, inr, ◌+◌, ◌==◌, ◌||◌, not, ℕ, Bool, true, false, true≢false, List, [], ◌∷◌, ◌++◌, Some, refl, sym, ap, subst, arith, zero-add}
use Rattle.std.specs.Prelude.{◌&&◌, if◌then◌else◌}
use Rattle.std.proofs.lemmas.Bool.{eqb-true}
use Rattle.rtc_parts.specs.declared.assoc_event.AssocEvent.{AssocEvent}
use Rattle.rtc_parts.specs.declared.assoc_event.AssocEvent.TheVariants.{Connected, Lost, Readable, Writable, Finished, ResetComplete, BufferedAmountLow}
use Rattle.rtc_parts.specs.Among.{Member}
use Rattle.rtc_parts.proofs.AmongLemmas.{member-left, member-right}
use Rattle.rtc_parts.specs.AssociationActs.{AssociationAct, Told, Moved}
use Rattle.rtc_parts.specs.AssociationEvents.{InOrder, AddsEvents}
use Rattle.rtc_parts.specs.AssociationLaws.{AssociationLaws}
use Rattle.rtc_parts.specs.AssociationMeaning.{AssociationMeaning}
use Rattle.rtc_parts.specs.AssociationWords.{completions, told}
use Rattle.rtc_parts.proofs.AssociationLemmas.{adds_all}
use Rattle.rtc_sctp_laws.specs.StreamActs.{AssociationDid}
use Rattle.rtc_sctp_laws.specs.StreamMessages.{StreamMessage}

-- events of a stream that was not closed: its close is among them, or they complete no reset of it and it is not closed behind them
abbrev IsClosedBy : ℕ → List AssocEvent → Bool → Type 0
IsClosedBy s events after = Member (Finished s) events ⊎ ((completions s events ≡ 0) × (after ≡ false))

behind : (s : ℕ) (e : AssocEvent) (events : List AssocEvent) (after : Bool) → completions s (e ∷ events) ≡ completions s events
    → IsClosedBy s events after → IsClosedBy s (e ∷ events) after
behind s e events after same (inl h) = inl (inr h)
behind s e events after same (inr h) = inr (same ∙ h.0, h.1)

closed_by : (s : ℕ) (events : List AssocEvent) (after : Bool) → InOrder s false events after → IsClosedBy s events after
closed_by s [] after h = inr (refl, h)
closed_by s (Finished t ∷ events) after h = by (t == s) refl h (closed_by s events after)
  where
    by : (b : Bool) → (t == s) ≡ b → InOrder s (b || false) events after → (InOrder s false events after → IsClosedBy s events after)
        → IsClosedBy s (Finished t ∷ events) after
    by true e k rest = inl (inl (ap (λ (n : ℕ). Finished n) (sym (eqb-true t s e))))
    by false e k rest = behind s (Finished t) events after refl (rest k)
closed_by s (ResetComplete t ∷ events) after h = by (t == s) refl h.1 (closed_by s events after)
  where
    by : (b : Bool) → (t == s) ≡ b → InOrder s (not b && false) events after → (InOrder s false events after → IsClosedBy s events after)
        → IsClosedBy s (ResetComplete t ∷ events) after
    by true e k rest = absurd (true≢false (sym (h.0 (eqb-true t s e))))
    by false e k rest = behind s (ResetComplete t) events after (ap (λ (b : Bool). (if b then 1 else 0) + completions s events) e ∙ zero-add (completions s events)) (rest k)
closed_by s (Connected ∷ events) after h = behind s Connected events after refl (closed_by s events after h)
closed_by s (Lost ∷ events) after h = behind s Lost events after refl (closed_by s events after h)
closed_by s (Readable t ∷ events) after h = behind s (Readable t) events after refl (closed_by s events after h)
closed_by s (Writable t ∷ events) after h = behind s (Writable t) events after refl (closed_by s events after h)
closed_by s (BufferedAmountLow t ∷ events) after h = behind s (BufferedAmountLow t) events after refl (closed_by s events after h)

module _ {S : Type 0} (m : AssociationMeaning S) where
  -- the close of the stream by the other end is to be reported; or the stream has the generation, and that did not close it
  abbrev pub IsUnended : (stream generation : ℕ) → S → Type 0
  IsUnended s g a = Member (Finished s) (m.due a) ⊎ ((m.generation a s ≡ g) × (m.finished a s ≡ false))

  module _ (w : AssociationLaws m) where
    -- acts that report nothing
    pub unended_acts : (s g : ℕ) (acts : List AssociationAct) (a b : S) → told acts ≡ [] → Moved m a acts b → IsUnended s g a → IsUnended s g b
    unended_acts s g acts a b none went h = by h
      where
        adds : AddsEvents m a acts b
        adds = adds_all m w a b acts went

        due : m.due b ≡ m.due a ++ adds.more
        due = ap (λ (l : List AssocEvent). l ++ m.due b) (sym none) ∙ adds.due_is

        closed : (m.generation a s ≡ g) → IsClosedBy s adds.more (m.finished b s) → IsUnended s g b
        closed own (inl k) = inl (subst (λ (l : List AssocEvent). Member (Finished s) l) (sym due) (member-right (Finished s) (m.due a) adds.more k))
        closed own (inr k) = inr (omega (arith, adds.rises s, own, k.0), k.1)

        by : IsUnended s g a → IsUnended s g b
        by (inl k) = inl (subst (λ (l : List AssocEvent). Member (Finished s) l) (sym due) (member-left (Finished s) (m.due a) adds.more k))
        by (inr k) =
            closed k.0 (closed_by s adds.more (m.finished b s) (subst (λ (c : Bool). InOrder s c adds.more (m.finished b s)) k.1 (adds.in_order s)))

    pub unended_did : (s g : ℕ) (ins outs : List (List ℕ)) (wrote heard : List StreamMessage) (a b : S)
        → AssociationDid m ins outs [] wrote heard a b → IsUnended s g a → IsUnended s g b
    unended_did s g ins outs wrote heard a b d h = unended_acts s g d.acts a b d.told_is d.went h

    -- a report
    tail_is : (e : AssocEvent) (xs ys : List AssocEvent) → e ∷ xs ≡ e ∷ ys → xs ≡ ys
    tail_is e xs ys h = cc

    none_more : (xs more : List AssocEvent) → xs ≡ xs ++ more → more ≡ []
    none_more [] more h = sym h
    none_more (x ∷ xs) more h = none_more xs more (tail_is x xs (xs ++ more) h)

    pub unended_told : (s g : ℕ) (e : AssocEvent) (a b : S) → m.polled a (Some e) b → IsUnended s g a → (e ≡ Finished s) ⊎ IsUnended s g b
    unended_told s g e a b h k = by k
      where
        adds : AddsEvents m a (Told e ∷ []) b
        adds = w.adds a b (Told e) h

        head : m.due a ≡ e ∷ m.due b
        head = w.poll_head a b e h

        none : adds.more ≡ []
        none =
            none_more (m.due a) adds.more (head ∙ adds.due_is)

        first : Member (Finished s) (e ∷ m.due b) → (e ≡ Finished s) ⊎ IsUnended s g b
        first (inl is) = inl (sym is)
        first (inr rest) = inr (inl rest)

        by : IsUnended s g a → (e ≡ Finished s) ⊎ IsUnended s g b
        by (inl x) = first (subst (λ (l : List AssocEvent). Member (Finished s) l) head x)
        by (inr x) =
            inr
            (inr (
              omega (arith, adds.rises s, ap (completions s) none, x.0),
              subst (λ (l : List AssocEvent). InOrder s (m.finished a s) l (m.finished b s)) none (adds.in_order s) ∙ x.1,
            ))
