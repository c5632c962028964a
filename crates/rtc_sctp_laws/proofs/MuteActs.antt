-- A generation to which polls write nothing stays so by acts of the association.
use Rattle.std.proofs.Common.{◌≡◌, ◌≢◌, inl, inr, ℕ, ◌≤◌, ◌==◌, Bool, true, false, List, [], ◌∷◌, ◌++◌, map, refl, sym, ap, subst, ◌∙◌, arith}
use Rattle.std.proofs.lemmas.Bool.{eqb-true, eqb-false}
use Rattle.rtc_parts.specs.declared.assoc_event.AssocEvent.{AssocEvent}
use Rattle.rtc_parts.specs.AssociationMeaning.{AssociationMeaning}
use Rattle.rtc_parts.specs.AssociationActs.{AssociationAct, Given, Acted, Moved}
use Rattle.rtc_parts.specs.AssociationWords.{AssociationMessage}
use Rattle.rtc_parts.specs.AssociationLaws.{AssociationLaws}
use Rattle.rtc_parts.proofs.AssociationLemmas.{generation_rises}
use Rattle.rtc_sctp_entries.specs.declared.stream_entry.StreamEntry.{StreamEntry}
use Rattle.rtc_sctp_laws.specs.StreamMessages.{StreamMessage}
use Rattle.rtc_sctp_laws.specs.StreamActs.{AssociationDid}
use Rattle.rtc_sctp_laws.specs.StreamUses.{messages_of}
use Rattle.rtc_sctp_laws.specs.Contents.{numbered_message}
use Rattle.rtc_sctp_laws.specs.GenerationLaws.{KeepsGeneration, GenerationLaws}
use Rattle.rtc_sctp_laws.specs.PastGenerations.{IsPast}
use Rattle.rtc_sctp_laws.specs.MuteGenerations.{HasOneOpen, IsOpenThere, IsMute, StaysMute}
use Rattle.rtc_sctp_laws.proofs.ContentLemmas.{written_are}
use Rattle.rtc_sctp_laws.proofs.GenerationMessages.{messages-append}
use Rattle.rtc_sctp_laws.proofs.KeptUses.{did_keeps}
use Rattle.rtc_sctp_laws.proofs.PastLemmas.{acts_past}

no_number : (x : AssociationMessage) (l : List AssociationMessage) → x ∷ l ≡ [] → ⊥
no_number x l h = cc

none_numbered : (l : List StreamMessage) → map numbered_message l ≡ [] → l ≡ []
none_numbered [] h = refl
none_numbered (x ∷ l) h = absurd (no_number (numbered_message x) (map numbered_message l) h)

pub none_more : (s g : ℕ) (xs ys : List StreamMessage) → messages_of s g xs ≡ [] → messages_of s g ys ≡ [] → messages_of s g (xs ++ ys) ≡ []
none_more s g xs ys h k = messages-append s g xs ys ∙ ap (λ (l : List StreamMessage). l ++ messages_of s g ys) h ∙ k

module _ {S : Type 0} (m : AssociationMeaning S) where
  -- within the generation
  pub kept_open : (s g : ℕ) (a b : S) (es es' : List StreamEntry) → KeepsGeneration m s a b → (HasOneOpen s es → HasOneOpen s es') → IsOpenThere m s g a es → IsOpenThere m s g b es'
  kept_open s g a b es es' k holds h = (k.generation_is ∙ h.0, k.there h.1, holds h.2)

  -- two steps
  pub mute_on : (s g : ℕ) (first more : List StreamMessage) (a b : S) (es es' : List StreamEntry) → StaysMute m s g first a es → (IsMute m s g a es → StaysMute m s g more b es') → StaysMute m s g (first ++ more) b es'
  mute_on s g first more a b es es' x rest = let y = rest x.left in record { none = none_more s g first more x.none y.none; left = y.left }

  module _ (w : AssociationLaws m) (v : GenerationLaws m) where
    -- what was done to a stream that is past it
    pub past_did : (s g : ℕ) (outs : List (List ℕ)) (tells : List AssocEvent) (wrote heard : List StreamMessage) (a b : S) → AssociationDid m [] outs tells wrote heard a b → IsPast m s g a → (messages_of s g wrote ≡ []) × IsPast m s g b
    past_did s g outs tells wrote heard a b d h =
        let k = acts_past m w v s g d.acts a b d.went h in
        (none_numbered (messages_of s g wrote) (sym (written_are s g d.acts wrote d.wrote_is) ∙ k.none), k.past)

    pub past_mute : (s g : ℕ) (outs : List (List ℕ)) (tells : List AssocEvent) (wrote heard : List StreamMessage) (a b : S) (es : List StreamEntry) → AssociationDid m [] outs tells wrote heard a b → IsPast m s g a → StaysMute m s g wrote b es
    past_mute s g outs tells wrote heard a b es d h = let k = past_did s g outs tells wrote heard a b d h in record { none = k.0; left = inl k.1 }

    -- nothing was written
    pub quiet_mute : (s g : ℕ) (outs : List (List ℕ)) (tells : List AssocEvent) (a b : S) (es es' : List StreamEntry) → AssociationDid m [] outs tells [] [] a b → (HasOneOpen s es → HasOneOpen s es') → IsMute m s g a es → StaysMute m s g [] b es'
    quiet_mute s g outs tells a b es es' d holds (inl h) = past_mute s g outs tells [] [] a b es' d h
    quiet_mute s g outs tells a b es es' d holds (inr h) = record { none = refl; left = inr (kept_open s g a b es es' (did_keeps m v s outs tells [] [] a b d) holds h) }

    -- any acts, over entries that are open as they were
    act_mute : (s g : ℕ) (a b : S) (es : List StreamEntry) (act : AssociationAct) → Acted m a act b → IsOpenThere m s g a es → IsMute m s g b es
    act_mute s g a b es (Given bytes) h k = by (m.generation b s == m.generation a s) refl
      where
        by : (c : Bool) → (m.generation b s == m.generation a s) ≡ c → IsMute m s g b es
        by true c = inr (kept_open s g a b es es (v.packets_keep s h.0 bytes a b h.1.0 h.1.1 (eqb-true (m.generation b s) (m.generation a s) c)) (λ x. x) k)
        by false c =
            let other : m.generation b s ≢ m.generation a s = eqb-false (m.generation b s) (m.generation a s) c in
            let up : m.generation a s ≤ m.generation b s = generation_rises m w a b (Given bytes) s h in
            let own : m.generation a s ≡ g = k.0 in
            inl (inl (omega (arith, up, other, own)))
    act_mute s g a b es act h k = inr (kept_open s g a b es es (v.acts_keep s a b act refl h) (λ x. x) k)

    pub acts_mute : (s g : ℕ) (acts : List AssociationAct) (a b : S) (es : List StreamEntry) → Moved m a acts b → IsMute m s g a es → IsMute m s g b es
    acts_mute s g acts a b es h (inl k) = inl (acts_past m w v s g acts a b h k).past
    acts_mute s g [] a b es h (inr k) = subst (λ (x : S). IsMute m s g x es) (sym h) (inr k)
    acts_mute s g (act ∷ acts) a b es h (inr k) = acts_mute s g acts h.0 b es h.1.1 (act_mute s g a h.0 es act h.1.0 k)
