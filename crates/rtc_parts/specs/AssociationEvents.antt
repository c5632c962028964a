-- How the events of an association follow each other.
use Rattle.std.specs.Prelude.{ℕ, ◌≡◌, ◌+◌, ◌==◌, ◌&&◌, ◌||◌, ◌⊎◌, not, Bool, true, List, [], ◌∷◌, ◌++◌}
use Rattle.rtc_parts.specs.declared.assoc_event.AssocEvent.{AssocEvent}
use Rattle.rtc_parts.specs.declared.assoc_event.AssocEvent.TheVariants.{Readable, Finished, ResetComplete}
use Rattle.rtc_parts.specs.Among.{Member}
use Rattle.rtc_parts.specs.AssociationMeaning.{AssociationMeaning}
use Rattle.rtc_parts.specs.AssociationActs.{AssociationAct}
use Rattle.rtc_parts.specs.AssociationWords.{told, completions}

-- events of a stream in order, by whether the other end closed it before them and behind them: a ResetComplete is behind a Finished alone,
-- and takes it up
abbrev pub InOrder : ℕ → Bool → List AssocEvent → Bool → Type 0
InOrder s closed [] after = after ≡ closed
InOrder s closed (Finished t ∷ events) after = InOrder s ((t == s) || closed) events after
InOrder s closed (ResetComplete t ∷ events) after =
    (t ≡ s → closed ≡ true) × InOrder s (not (t == s) && closed) events after
InOrder s closed (_ ∷ events) after = InOrder s closed events after

-- what acts add behind the events that are due: by as many completed resets a generation rises; if a message became unread, a Readable
-- of its stream is among them, and if a stream is gone, its ResetComplete
pub record AddsEvents {S : Type 0} (m : AssociationMeaning S) (p : S) (acts : List AssociationAct) (q : S) : Type 0 where
  pub more : List AssocEvent
  pub due_is : told acts ++ m.due q ≡ m.due p ++ more
  pub rises : (id : ℕ) → m.generation q id ≡ m.generation p id + completions id more
  pub in_order : (id : ℕ) → InOrder id (m.finished p id) more (m.finished q id)
  pub readable : (id g : ℕ) → m.has_unread q id g ≡ true → (m.has_unread p id g ≡ true) ⊎ Member (Readable id) more
  pub gone : (id : ℕ) → m.has_stream p id ≡ true → (m.has_stream q id ≡ true) ⊎ Member (ResetComplete id) more
