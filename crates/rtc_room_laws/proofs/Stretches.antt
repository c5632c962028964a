-- Contiguous stretches of lists of messages.
use Rattle.std.proofs.Common.{◌≡◌, ◌∙◌, ◌++◌, List, [], ◌∷◌, refl, sym, ap, append_assoc}
use Rattle.rtc_run_laws.proofs.GotStretches.{GotStretch}
use Rattle.rtc_room_laws.specs.ItemMessages.{LineMessage}
use Rattle.rtc_room_laws.specs.RoomHandsOn.{IsStretch}

-- a stretch of the end of a list that is a stretch of another one
pub stretch_through : (part all got sent before : List LineMessage) → IsStretch part all → got ≡ before ++ all → GotStretch got sent → IsStretch part sent
stretch_through part all got sent before h is k = record {
  before = k.before ++ (before ++ h.before);
  behind = h.behind ++ k.behind;
  is =
      k.is
      ∙ ap (λ (l : List LineMessage). k.before ++ (l ++ k.behind)) (is ∙ ap (λ (l : List LineMessage). before ++ l) h.is)
      ∙ ap (λ (l : List LineMessage). k.before ++ l)
      (append_assoc before (h.before ++ (part ++ h.behind)) k.behind
      ∙ ap (λ (l : List LineMessage). before ++ l)
      (append_assoc h.before (part ++ h.behind) k.behind ∙ ap (λ (l : List LineMessage). h.before ++ l) (append_assoc part h.behind k.behind))
      ∙ sym (append_assoc before h.before (part ++ (h.behind ++ k.behind))))
      ∙ sym (append_assoc k.before (before ++ h.before) (part ++ (h.behind ++ k.behind)));
}

first_none : (xs ys : List LineMessage) → xs ++ ys ≡ [] → xs ≡ []
first_none [] ys h = refl
first_none (x ∷ xs) ys h = absurd (let e : ◌≡◌ {A = List LineMessage} (x ∷ (xs ++ ys)) [] = h in cc)

pub last_none : (xs ys : List LineMessage) → xs ++ ys ≡ [] → ys ≡ []
last_none [] ys h = h
last_none (x ∷ xs) ys h = absurd (let e : ◌≡◌ {A = List LineMessage} (x ∷ (xs ++ ys)) [] = h in cc)

-- a stretch of nothing
pub stretch_none : (part whole : List LineMessage) → IsStretch part whole → whole ≡ [] → part ≡ []
stretch_none part whole h none = first_none part h.behind (last_none h.before (part ++ h.behind) (sym h.is ∙ none))
