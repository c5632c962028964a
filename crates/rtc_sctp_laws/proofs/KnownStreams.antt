-- Streams of which a message stands unread: each has an entry, or the event that tells of its message is due.
use Rattle.std.proofs.Common.{◌≡◌, ◌∙◌, ◌⊎◌, ◌<◌, ◌++◌, ◌∷◌, inl, inr, ℕ, Bool, true, false, true≢false, List, [], refl, sym, ap, subst, arith}
use Rattle.rtc_parts.specs.declared.assoc_event.AssocEvent.{AssocEvent}
use Rattle.rtc_parts.specs.declared.assoc_event.AssocEvent.TheVariants.{Readable}
use Rattle.rtc_parts.specs.AssociationActs.{AssociationAct, Given, Told, Acted, Moved}
use Rattle.rtc_parts.specs.AssociationEvents.{AddsEvents}
use Rattle.rtc_parts.specs.AssociationLaws.{AssociationLaws}
use Rattle.rtc_parts.specs.AssociationMeaning.{AssociationMeaning}
use Rattle.rtc_parts.specs.AssociationWords.{given, told}
use Rattle.rtc_parts.proofs.AmongLemmas.{member-left, member-right}
use Rattle.rtc_parts.proofs.AssociationLemmas.{adds_all, generation_rises}
use Rattle.rtc_parts.specs.Among.{Member}
use Rattle.rtc_sctp_entries.specs.declared.stream_entry.StreamEntry.{StreamEntry}
use Rattle.rtc_sctp_entries.specs.Entries.{is_closed_state}
use Rattle.rtc_sctp.specs.Streams.{SctpStreams, is_established}
use Rattle.rtc_sctp_laws.specs.GenerationLaws.{GenerationLaws, gives_packet}
use Rattle.rtc_sctp_laws.specs.StreamUses.{is_spent_stream}
use Rattle.rtc_sctp_laws.proofs.KeptUses.{acts_keep, spent_kept}

-- a stream has an entry that is not closed
abbrev pub HasEntry : ℕ → List StreamEntry → Type 0
HasEntry s [] = ⊥
HasEntry s (entry ∷ entries) = ((entry.id ≡ s) × (is_closed_state entry.state ≡ false)) ⊎ HasEntry s entries

-- no entry is closed
abbrev pub NoneClosed : List StreamEntry → Type 0
NoneClosed [] = Unit {0}
NoneClosed (entry ∷ entries) = (is_closed_state entry.state ≡ false) × NoneClosed entries

no_packet : (p : List ℕ) (l : List (List ℕ)) → p ∷ l ≡ [] → ⊥
no_packet p l h = cc

no_told : (e : AssocEvent) (l : List AssocEvent) → e ∷ l ≡ [] → ⊥
no_told e l h = cc

untold_parts : (act : AssociationAct) (acts : List AssociationAct) → told (act ∷ acts) ≡ [] → (told (act ∷ []) ≡ []) × (told acts ≡ [])
untold_parts (Told e) acts h = absurd (no_told e (told acts) h)
untold_parts act acts h = (refl, h)

module _ {S : Type 0} (m : AssociationMeaning S) (sound : S → Type 0) where
  -- a generation that the stream had, or that it has while it is there
  abbrev pub IsBackedBy : S → (stream generation : ℕ) → Type 0
  IsBackedBy a s g = (g < m.generation a s) ⊎ ((g ≡ m.generation a s) × (m.has_stream a s ≡ true))

  -- of such generations alone whole messages stand unread
  abbrev pub AreBacked : S → Type 0
  AreBacked a = sound a → (s g : ℕ) → m.has_unread a s g ≡ true → IsBackedBy a s g

  -- What holds of associations whose messages come with the items of their streams.
  pub record UnreadLaws : Type 0 where
    pub before : (a b : S) (act : AssociationAct) → Acted m a act b → sound b → sound a
    pub backed : (a b : S) (act : AssociationAct) → Acted m a act b → AreBacked a → AreBacked b
    pub fewer : (a b : S) (act : AssociationAct) → gives_packet act ≡ false → Acted m a act b → (s g : ℕ) → m.has_unread b s g ≡ true
        → m.has_unread a s g ≡ true

  -- A stream is known: where a whole message of its generation stands unread it has an entry, or is to be told of, or takes no message of
  -- the generation any more.
  abbrev pub IsKnown : ℕ → S → List StreamEntry → Type 0
  IsKnown s a entries =
      sound a → m.has_unread a s (m.generation a s) ≡ true
      → HasEntry s entries ⊎ (Member (Readable s) (m.due a) ⊎ (is_spent_stream m s a ≡ true))

  pub record AreKnown (p : SctpStreams S) : Type 0 where
    pub backed : AreBacked p.association
    pub known : (s : ℕ) → IsKnown s p.association p.entries
    pub begun : is_established p.state ≡ true → m.started p.association ≡ true

  -- nothing of the stream stands unread, or it takes no message of its generation any more
  abbrev pub IsSilent : ℕ → S → Type 0
  IsSilent s a = sound a → (m.has_unread a s (m.generation a s) ≡ false) ⊎ (is_spent_stream m s a ≡ true)

  module _ (w : AssociationLaws m) (v : GenerationLaws m) (u : UnreadLaws) where
    pub moved_backed : (acts : List AssociationAct) (a b : S) → Moved m a acts b → AreBacked a → AreBacked b
    moved_backed [] a b h k = subst (λ (x : S). AreBacked x) (sym h) k
    moved_backed (act ∷ acts) a b h k = moved_backed acts h.0 b h.1.1 (u.backed a h.0 act h.1.0 k)

    pub moved_before : (acts : List AssociationAct) (a b : S) → Moved m a acts b → sound b → sound a
    moved_before [] a b h k = subst sound h k
    moved_before (act ∷ acts) a b h k = u.before a h.0 act h.1.0 (moved_before acts h.0 b h.1.1 k)

    pub moved_fewer : (acts : List AssociationAct) (a b : S) → given acts ≡ [] → Moved m a acts b → (s g : ℕ) → m.has_unread b s g ≡ true
        → m.has_unread a s g ≡ true
    moved_fewer [] a b none h s g k = ap (λ (x : S). m.has_unread x s g) (sym h) ∙ k
    moved_fewer (Given packet ∷ acts) a b none h s g k = absurd (no_packet packet (given acts) none)
    moved_fewer (act ∷ acts) a b none h s g k = u.fewer a h.0 act refl h.1.0 s g (moved_fewer acts h.0 b none h.1.1 s g k)

    -- what stands unread of the generation of a stream behind acts that gave no packet stood so before
    pub unread_before : (acts : List AssociationAct) (a b : S) (s : ℕ) → given acts ≡ [] → Moved m a acts b
        → m.has_unread b s (m.generation b s) ≡ true → m.has_unread a s (m.generation a s) ≡ true
    unread_before acts a b s none h k =
        let same = (acts_keep m v s acts a b none h).generation_is in
        ap (λ (n : ℕ). m.has_unread a s n) (sym same) ∙ moved_fewer acts a b none h s (m.generation b s) k

    silent_so : (acts : List AssociationAct) (a b : S) (s : ℕ) → given acts ≡ [] → Moved m a acts b
        → (m.has_unread a s (m.generation a s) ≡ false) ⊎ (is_spent_stream m s a ≡ true) → (m.has_unread b s (m.generation b s) ≡ false) ⊎ (is_spent_stream m s b ≡ true)
    silent_so acts a b s none h (inr spent) = inr (spent_kept m s a b (acts_keep m v s acts a b none h) spent)
    silent_so acts a b s none h (inl quiet) = inl (by (m.has_unread b s (m.generation b s)) refl)
      where
        by : (c : Bool) → m.has_unread b s (m.generation b s) ≡ c → m.has_unread b s (m.generation b s) ≡ false
        by true e = absurd (true≢false (sym (unread_before acts a b s none h e) ∙ quiet))
        by false e = e

    pub silent_on : (acts : List AssociationAct) (a b : S) (s : ℕ) → given acts ≡ [] → Moved m a acts b → IsSilent s a → IsSilent s b
    silent_on acts a b s none h silent = λ ok. silent_so acts a b s none h (silent (moved_before acts a b h ok))

    -- what was due is still, where nothing was told
    due_on : (acts : List AssociationAct) (a b : S) (e : AssocEvent) → told acts ≡ [] → Moved m a acts b → Member e (m.due a) → Member e (m.due b)
    due_on acts a b e none h k =
        let adds = adds_all m w a b acts h in
        subst (λ (l : List AssocEvent). Member e l) (sym adds.due_is ∙ ap (λ (l : List AssocEvent). l ++ m.due b) none)
        (member-left e (m.due a) adds.more k)

    -- acts that gave no packet and told nothing, with what became of the entries
    pub known_quiet : (acts : List AssociationAct) (a b : S) (es es' : List StreamEntry) (s : ℕ) → given acts ≡ [] → told acts ≡ [] → Moved m a acts b
        → (HasEntry s es → HasEntry s es' ⊎ IsSilent s b) → IsKnown s a es → IsKnown s b es'
    known_quiet acts a b es es' s none untold h goes k = λ ok stands. by ok stands (k (moved_before acts a b h ok) (unread_before acts a b s none h stands))
      where
        of_entry : sound b → m.has_unread b s (m.generation b s) ≡ true → HasEntry s es' ⊎ IsSilent s b
            → HasEntry s es' ⊎ (Member (Readable s) (m.due b) ⊎ (is_spent_stream m s b ≡ true))
        of_entry ok stands (inl there) = inl there
        of_entry ok stands (inr silent) = elim (silent ok) [ inl quiet ↦ absurd (true≢false (sym stands ∙ quiet)) | inr spent ↦ inr (inr spent) ]

        by : sound b → m.has_unread b s (m.generation b s) ≡ true → HasEntry s es ⊎ (Member (Readable s) (m.due a) ⊎ (is_spent_stream m s a ≡ true))
            → HasEntry s es' ⊎ (Member (Readable s) (m.due b) ⊎ (is_spent_stream m s b ≡ true))
        by ok stands (inl there) = of_entry ok stands (goes there)
        by ok stands (inr (inl due)) = inr (inl (due_on acts a b (Readable s) untold h due))
        by ok stands (inr (inr spent)) = inr (inr (spent_kept m s a b (acts_keep m v s acts a b none h) spent))

    -- an act of any kind that told nothing, over the same entries
    known_act : (act : AssociationAct) (a b : S) (es : List StreamEntry) (s : ℕ) → told (act ∷ []) ≡ [] → Acted m a act b → AreBacked a
        → IsKnown s a es → IsKnown s b es
    known_act act a b es s untold h backed k = λ ok stands. by ok stands (adds.readable s (m.generation b s) stands)
      where
        adds : AddsEvents m a (act ∷ []) b
        adds = w.adds a b act h

        due_is : m.due b ≡ m.due a ++ adds.more
        due_is = ap (λ (l : List AssocEvent). l ++ m.due b) (sym untold) ∙ adds.due_is

        spent_by : (x : AssociationAct) → Acted m a x b → m.generation b s ≡ m.generation a s → is_spent_stream m s a ≡ true
            → is_spent_stream m s b ≡ true
        spent_by (Given bytes) did same is = spent_kept m s a b (v.packets_keep s did.0 bytes a b did.1.0 did.1.1 same) is
        spent_by x did same is = spent_kept m s a b (v.acts_keep s a b x refl did) is

        spent : is_spent_stream m s a ≡ true → m.generation b s ≡ m.generation a s → is_spent_stream m s b ≡ true
        spent is same = spent_by act h same is

        old : sound b → m.generation b s ≡ m.generation a s → m.has_unread a s (m.generation b s) ≡ true
            → HasEntry s es ⊎ (Member (Readable s) (m.due b) ⊎ (is_spent_stream m s b ≡ true))
        old ok same stands = from (k (u.before a b act h ok) (ap (λ (n : ℕ). m.has_unread a s n) (sym same) ∙ stands))
          where
            from : HasEntry s es ⊎ (Member (Readable s) (m.due a) ⊎ (is_spent_stream m s a ≡ true))
                → HasEntry s es ⊎ (Member (Readable s) (m.due b) ⊎ (is_spent_stream m s b ≡ true))
            from (inl there) = inl there
            from (inr (inl due)) =
                inr (inl (subst (λ (l : List AssocEvent). Member (Readable s) l) (sym due_is) (member-left (Readable s) (m.due a) adds.more due)))
            from (inr (inr is)) = inr (inr (spent is same))

        -- a generation to come has no message
        by_backed : sound b → m.has_unread a s (m.generation b s) ≡ true → IsBackedBy a s (m.generation b s)
            → HasEntry s es ⊎ (Member (Readable s) (m.due b) ⊎ (is_spent_stream m s b ≡ true))
        by_backed ok stands (inl lt) = let up = generation_rises m w a b act s h in absurd (omega (arith, up, lt))
        by_backed ok stands (inr here) = old ok here.0 stands

        by : sound b → m.has_unread b s (m.generation b s) ≡ true → (m.has_unread a s (m.generation b s) ≡ true) ⊎ Member (Readable s) adds.more
            → HasEntry s es ⊎ (Member (Readable s) (m.due b) ⊎ (is_spent_stream m s b ≡ true))
        by ok stands (inl before) = by_backed ok before (backed (u.before a b act h ok) s (m.generation b s) before)
        by ok stands (inr come) =
            inr (inl (subst (λ (l : List AssocEvent). Member (Readable s) l) (sym due_is) (member-right (Readable s) (m.due a) adds.more come)))

    -- acts of any kind that told nothing, over the same entries
    pub known_acts : (acts : List AssociationAct) (a b : S) (es : List StreamEntry) (s : ℕ) → told acts ≡ [] → Moved m a acts b → AreBacked a
        → IsKnown s a es → IsKnown s b es
    known_acts [] a b es s untold h backed k = subst (λ (x : S). IsKnown s x es) (sym h) k
    known_acts (act ∷ acts) a b es s untold h backed k =
        let none = untold_parts act acts untold in
        known_acts acts h.0 b es s none.1 h.1.1 (u.backed a h.0 act h.1.0 backed) (known_act act a h.0 es s none.0 h.1.0 backed k)
