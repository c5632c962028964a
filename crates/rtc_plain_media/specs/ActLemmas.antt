-- What each act leaves of lines, of what was prepared and of the datagrams.
use Rattle.std.proofs.Common.{◌≡◌, inl, inr, ℕ, Bool, true, false, List, [], ◌∷◌, Some, None, Result, Ok, Err, ◌++◌, refl, sym, ap, subst}
use Rattle.rtc_parts.specs.Why.{Timed, Shut, Other}
use Rattle.rtc_parts.specs.declared.media_update.MediaUpdate.{MediaUpdate}
use Rattle.rtc_parts.specs.MediaActs.{
  MediaAct,
  MediaGiven,
  MediaTaken,
  MediaStirred,
  MediaActed,
  KeepsLines,
  ByGiven,
  ByTaken,
  ByTime,
  ByShut,
  ByLoan,
  ByOther,
  is_commit,
  is_preparing,
  changes_pending,
  ChangesLines,
  LendsMedia,
  WriterLent,
  RxExpected,
  TxDeclared,
  RxLent,
  TxLent,
  RxNamedLent,
  TxNamedLent,
  TxReset,
  StirsMedia,
  Configured,
  Prepared,
  Keyed,
  EventTold,
  FallibleTold,
  FeedbackCleared,
  StatsVisited,
  RedSet,
  TwccEnabled,
  AppFed,
  PliFed,
  RxRemoved,
  TxRemoved,
}
use Rattle.rtc_plain_media.specs.declared.plain_media_event.PlainMediaEvent.{PlainMediaEvent}
use Rattle.rtc_plain_media.specs.Feedback.{goodbye, app_feedback, picture_asked, IsMarked, EachBegins}
use Rattle.rtc_plain_media.specs.MediaContents.{MediaContents, update_of}
use Rattle.rtc_plain_media.specs.MediaCalls.{said_goodbye}
use Rattle.rtc_plain_media.specs.PlainMediaMeaning.{MediaLeaves, MediaStays, TellsNext, GivesNext, plain_media_meaning}
use Rattle.rtc_plain_media.specs.UpdateLemmas.{update-writer_marked}

-- lines and what was prepared are unchanged, and datagrams still begin with 80
pub record KeepsMedia (p q : MediaContents) : Type 0 where
  pub lines : (mid : List ℕ) → update_of q mid ≡ update_of p mid
  pub pending : q.pending ≡ p.pending
  pub begins : EachBegins p.datagrams → EachBegins q.datagrams

-- one more datagram that begins with 80
pub begins_more : (ds : List (List ℕ)) (d : List ℕ) → EachBegins ds → IsMarked d → EachBegins (ds ++ d ∷ [])
begins_more [] d h k = (k, tt)
begins_more (x ∷ xs) d h k = (h.0, begins_more xs d h.1 k)

-- what a call leaves, if both of what it may leave have a property
pub leaves_with : {E : Type 0} (P : MediaContents → Type 0) (p t q : MediaContents) (r : Result (Unit {0}) E) → P p → P t
    → MediaLeaves p t r q → P q
leaves_with P p t q (Ok x) a b h = subst P (sym h) b
leaves_with P p t q (Err e) a b h = subst P (sym h) a

pub stays_same : {T E : Type 0} (x : T) (p q : MediaContents) (r : Result T E) → MediaStays x p r q → q ≡ p
stays_same x p q (Ok y) h = h.1
stays_same x p q (Err e) h = absurd h

-- the polls, by what is queued
pub record TookFirst {A : Type 0} (queue : List A) (x : A) : Type 0 where
  pub rest : List A
  pub is : queue ≡ x ∷ rest

pub tells_some : (queue : List PlainMediaEvent) (p q : MediaContents) (e : PlainMediaEvent) → TellsNext queue p (Some e) q
    → (w : TookFirst queue e) × (q ≡ record p { events = w.rest })
tells_some [] p q e h = absurd h
tells_some (x ∷ xs) p q e h = (record { rest = xs; is = ap (λ (y : PlainMediaEvent). y ∷ xs) (sym h.0) }, h.1)

pub tells_none : (queue : List PlainMediaEvent) (p q : MediaContents) → TellsNext queue p None q → (q ≡ p) × (queue ≡ [])
tells_none [] p q h = (h, refl)
tells_none (x ∷ xs) p q h = absurd h

pub gives_some : (queue : List (List ℕ)) (p q : MediaContents) (d : List ℕ) → GivesNext queue p (Some d) q
    → (w : TookFirst queue d) × (q ≡ record p { datagrams = w.rest })
gives_some [] p q d h = absurd h
gives_some (x ∷ xs) p q d h = (record { rest = xs; is = ap (λ (y : List ℕ). y ∷ xs) (sym h.0) }, h.1)

pub gives_none : (queue : List (List ℕ)) (p q : MediaContents) → GivesNext queue p None q → (q ≡ p) × (queue ≡ [])
gives_none [] p q h = (h, refl)
gives_none (x ∷ xs) p q h = absurd h

-- what is left if both the part and what a call makes of it keep what p has
keeps_self : (p : MediaContents) → KeepsMedia p p
keeps_self p = record { lines = λ mid. refl; pending = refl; begins = λ b. b }

keeps_left : {E : Type 0} (p t q : MediaContents) (r : Result (Unit {0}) E) → KeepsMedia p t → MediaLeaves p t r q → KeepsMedia p q
keeps_left p t q r k h = leaves_with (KeepsMedia p) p t q r (keeps_self p) k h

keeps_by : (p t q : MediaContents) → KeepsMedia p t → q ≡ t → KeepsMedia p q
keeps_by p t q k h = subst (KeepsMedia p) (sym h) k

keeps_goodbye : (p : MediaContents) → KeepsMedia p (said_goodbye p)
keeps_goodbye p = by p.is_shut refl
  where
    by : (b : Bool) → p.is_shut ≡ b → KeepsMedia p (said_goodbye p)
    by true is = keeps_by p p (said_goodbye p) (keeps_self p) (rw is refl)
    by false is = keeps_by p (record p {
      is_shut = true;
      datagrams = p.datagrams ++ goodbye
          ∷ [];
    }) (said_goodbye p) (record { lines = λ mid. refl; pending = refl; begins = λ b. begins_more p.datagrams goodbye b refl }) (rw is refl)

-- each call that keeps lines keeps both, or prepares
pub data MediaStay (p : MediaContents) (prepares : Bool) (q : MediaContents) : Type 0 where
  Keeping : KeepsMedia p q → MediaStay p prepares q
  Preparing : (updates : List MediaUpdate) → prepares ≡ true → q ≡ record p { pending = updates } → MediaStay p prepares q

-- each act is such a call, or changes lines
pub data MediaEffect (p : MediaContents) (changes : Bool) (q : MediaContents) : Type 0 where
  Staying : MediaStay p changes q → MediaEffect p changes q
  ChangingLines : (h : ChangesLines plain_media_meaning p q) → changes ≡ is_commit plain_media_meaning p q h → MediaEffect p changes q

lent_effect : (p q : MediaContents) → LendsMedia plain_media_meaning p q → KeepsMedia p q
lent_effect p q (WriterLent mid lent left h) =
    keeps_by p _ q (record { lines = λ m. update-writer_marked m mid left p.lines; pending = refl; begins = λ b. b }) h.1
lent_effect p q (RxExpected ssrc rtx mid rid lent left h) =
    keeps_by p _ q (record { lines = λ m. refl; pending = refl; begins = λ b. b }) h.1
lent_effect p q (TxDeclared ssrc rtx mid rid lent left h) =
    keeps_by p _ q (record { lines = λ m. refl; pending = refl; begins = λ b. b }) h.1
lent_effect p q (RxLent ssrc lent left h) = keeps_by p _ q (record { lines = λ m. refl; pending = refl; begins = λ b. b }) h.1
lent_effect p q (TxLent ssrc lent left h) = keeps_by p _ q (record { lines = λ m. refl; pending = refl; begins = λ b. b }) h.1
lent_effect p q (RxNamedLent mid rid lent left h) = keeps_by p _ q (record { lines = λ m. refl; pending = refl; begins = λ b. b }) h.1
lent_effect p q (TxNamedLent mid rid lent left h) = keeps_by p _ q (record { lines = λ m. refl; pending = refl; begins = λ b. b }) h.1
lent_effect p q (TxReset mid rid ssrc rtx lent left h) = keeps_by p _ q (record { lines = λ m. refl; pending = refl; begins = λ b. b }) h.1

stirred_effect : (p q : MediaContents) (h : StirsMedia plain_media_meaning p q) → MediaStay p (is_preparing plain_media_meaning p q h) q
stirred_effect p q (Configured settings h) = Keeping (keeps_by p _ q (record { lines = λ m. refl; pending = refl; begins = λ b. b }) h)
stirred_effect p q (Prepared updates (Ok x) h) = Preparing updates refl h
stirred_effect p q (Prepared updates (Err e) h) = Keeping (keeps_by p p q (keeps_self p) h)
stirred_effect p q (Keyed key profile active r h) =
    Keeping (keeps_left p _ q r (record { lines = λ m. refl; pending = refl; begins = λ b. b }) h)
stirred_effect p q (EventTold e h) =
    let t = tells_some p.events p q e h in
    Keeping (keeps_by p _ q (record { lines = λ m. refl; pending = refl; begins = λ b. b }) t.1)
stirred_effect p q (FallibleTold now r h) = Keeping (keeps_by p p q (keeps_self p) (stays_same None p q r h))
stirred_effect p q (FeedbackCleared h) = Keeping (keeps_by p _ q (record { lines = λ m. refl; pending = refl; begins = λ b. tt }) h)
stirred_effect p q (StatsVisited now s r t h) = Keeping (keeps_by p p q (keeps_self p) (stays_same tt p q r h.0))
stirred_effect p q (RedSet mid on b h) = Keeping (keeps_by p p q (keeps_self p) h.1)
stirred_effect p q (TwccEnabled h) = Keeping (keeps_by p p q (keeps_self p) h)
stirred_effect p q (AppFed sender media payload r h) =
    Keeping (keeps_left p _ q r (record {
      lines = λ m. refl;
      pending = refl;
      begins = λ b. begins_more p.datagrams (app_feedback payload) b refl;
    }) h)
stirred_effect p q (PliFed sender media r h) =
    Keeping (keeps_left p _ q r (record {
      lines = λ m. refl;
      pending = refl;
      begins = λ b. begins_more p.datagrams picture_asked b refl;
    }) h)
stirred_effect p q (RxRemoved ssrc b h) = Keeping (keeps_by p _ q (record { lines = λ m. refl; pending = refl; begins = λ b. b }) h.1)
stirred_effect p q (TxRemoved ssrc b h) = Keeping (keeps_by p _ q (record { lines = λ m. refl; pending = refl; begins = λ b. b }) h.1)

-- whether a call that keeps lines is an Ok of preparing
abbrev pub stay_prepares : (p q : MediaContents) → KeepsLines plain_media_meaning p q → Bool
stay_prepares p q (ByOther h) = is_preparing plain_media_meaning p q h
stay_prepares p q _ = false

pub stay : (p q : MediaContents) (h : KeepsLines plain_media_meaning p q) → MediaStay p (stay_prepares p q h) q
stay p q (ByGiven packet (now, (r, inl h))) =
    Keeping (keeps_left p _ q r (record { lines = λ m. refl; pending = refl; begins = λ b. b }) h)
stay p q (ByGiven packet (now, (r, inr h))) =
    Keeping (keeps_left p _ q r (record { lines = λ m. refl; pending = refl; begins = λ b. b }) h)
stay p q (ByTaken datagram (now, h)) =
    let t = gives_some p.datagrams p q datagram h in
    Keeping (keeps_by p _ q (record {
      lines = λ m. refl;
      pending = refl;
      begins = λ b. (subst EachBegins t.0.is b).1;
    }) t.1)
stay p q (ByTime now (r, h)) = Keeping (keeps_by p p q (keeps_self p) (stays_same tt p q r h))
stay p q (ByShut (r, h)) = Keeping (keeps_left p _ q r (keeps_goodbye p) h)
stay p q (ByLoan h) = Keeping (lent_effect p q h)
stay p q (ByOther h) = stirred_effect p q h

pub effect : (p q : MediaContents) (act : MediaAct) (h : MediaActed plain_media_meaning p act q)
    → MediaEffect p (changes_pending plain_media_meaning p q act h) q
effect p q (MediaGiven packet) h = Staying (stay p q (ByGiven packet h))
effect p q (MediaTaken datagram) h = Staying (stay p q (ByTaken datagram h))
effect p q (MediaStirred (Timed now)) h = Staying (stay p q (ByTime now h))
effect p q (MediaStirred Shut) h = Staying (stay p q (ByShut h))
effect p q (MediaStirred Other) (inl h) = ChangingLines h refl
effect p q (MediaStirred Other) (inr (inl h)) = Staying (stay p q (ByLoan h))
effect p q (MediaStirred Other) (inr (inr h)) = Staying (stay p q (ByOther h))
