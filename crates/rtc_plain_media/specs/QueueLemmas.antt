-- What polls take out of the queues of the plain media part, and what clearing and closing leave in them.
use Rattle.std.proofs.Common.{
  ◌≡◌,
  ℕ,
  ◌+◌,
  ◌<◌,
  ◌≤◌,
  Bool,
  true,
  false,
  List,
  ◌∷◌,
  length,
  Option,
  Some,
  None,
  Result,
  Ok,
  Err,
  refl,
  sym,
  ap,
  subst,
  ◌∙◌,
  arith,
  length-append,
  [],
}
use Rattle.std.specs.declared.alloc.AllocError.{AllocError}
use Rattle.rtc_parts.specs.declared.media_error.MediaError.{MediaError}
use Rattle.rtc_parts.specs.MediaMeaning.{held_media}
use Rattle.rtc_plain_media.specs.declared.plain_media_event.PlainMediaEvent.{PlainMediaEvent}
use Rattle.rtc_plain_media.specs.Feedback.{goodbye}
use Rattle.rtc_plain_media.specs.MediaContents.{MediaContents}
use Rattle.rtc_plain_media.specs.MediaCalls.{said_goodbye}
use Rattle.rtc_plain_media.specs.PlainMediaMeaning.{MediaLeaves, MediaStays, TellsNext, GivesNext, plain_media_meaning}
use Rattle.rtc_plain_media.specs.ActLemmas.{
  leaves_with,
  tells_some,
  gives_some,
}

pub event_fell : (p q : MediaContents) (e : PlainMediaEvent) → TellsNext p.events p (Some e) q
    → held_media plain_media_meaning q < held_media plain_media_meaning p
event_fell p q e h =
    let t = tells_some p.events p q e h in
    let a : length q.events ≡ length t.0.rest = ap (λ (c : MediaContents). length c.events) t.1 in
    let b : length q.datagrams ≡ length p.datagrams = ap (λ (c : MediaContents). length c.datagrams) t.1 in
    let d : length p.events ≡ length (e ∷ t.0.rest) = ap (λ (l : List PlainMediaEvent). length l) t.0.is in
    omega (arith, a, b, d)

pub datagram_fell : (p q : MediaContents) (d : List ℕ) → GivesNext p.datagrams p (Some d) q
    → held_media plain_media_meaning q < held_media plain_media_meaning p
datagram_fell p q x h =
    let t = gives_some p.datagrams p q x h in
    let a : length q.events ≡ length p.events = ap (λ (c : MediaContents). length c.events) t.1 in
    let b : length q.datagrams ≡ length t.0.rest = ap (λ (c : MediaContents). length c.datagrams) t.1 in
    let d : length p.datagrams ≡ length (x ∷ t.0.rest) = ap (λ (l : List (List ℕ)). length l) t.0.is in
    omega (arith, a, b, d)

pub no_length : {A : Type 0} (xs : List A) → length xs ≡ 0 → xs ≡ []
no_length [] h = refl
no_length (x ∷ xs) h = absurd (omega (arith, h))

-- polls of a queue with nothing in it: what they may return, and that returning none is possible
pub told_only : (queue : List PlainMediaEvent) (p q : MediaContents) (r : Option PlainMediaEvent) → queue ≡ []
    → TellsNext queue p r q → r ≡ None
told_only queue p q None e h = refl
told_only queue p q (Some x) e h = absurd (subst (λ (l : List PlainMediaEvent). TellsNext l p (Some x) q) e h)

pub gave_only : (queue : List (List ℕ)) (p q : MediaContents) (r : Option (List ℕ)) → queue ≡ [] → GivesNext queue p r q → r ≡ None
gave_only queue p q None e h = refl
gave_only queue p q (Some x) e h = absurd (subst (λ (l : List (List ℕ)). GivesNext l p (Some x) q) e h)

pub fallible_only : (p q : MediaContents) (r : Result (Option PlainMediaEvent) MediaError) → MediaStays None p r q → r ≡ Ok None
fallible_only p q (Ok x) h = ap (λ (o : Option PlainMediaEvent). Ok o) h.0
fallible_only p q (Err e) h = absurd h

pub quiet_told : (p : MediaContents) → length p.events ≡ 0 → TellsNext p.events p None p
quiet_told p none = subst (λ (l : List PlainMediaEvent). TellsNext l p None p) (sym (no_length p.events none)) refl

pub quiet_gave : (p : MediaContents) → length p.datagrams ≡ 0 → GivesNext p.datagrams p None p
quiet_gave p none = subst (λ (l : List (List ℕ)). GivesNext l p None p) (sym (no_length p.datagrams none)) refl

pub no_event : {P : Type 0} (e : PlainMediaEvent) → Some e ≡ None → P
no_event e h = cc h

-- clearing and closing
goodbye_held : (p : MediaContents) → held_media plain_media_meaning (said_goodbye p) ≤ held_media plain_media_meaning p + 32
goodbye_held p = by p.is_shut refl
  where
    by : (b : Bool) → p.is_shut ≡ b → held_media plain_media_meaning (said_goodbye p) ≤ held_media plain_media_meaning p + 32
    by true is = rw is (omega arith)
    by false is = rw is (omega (arith, length-append p.datagrams (goodbye ∷ [])))

pub cleared_quiet : (p q : MediaContents) → length p.events + length p.datagrams ≡ 0 → q ≡ record p { datagrams = [] } → q ≡ p
cleared_quiet p q none h =
    h ∙ ap (λ (l : List (List ℕ)). record p { datagrams = l }) (sym (no_length p.datagrams (omega (arith, none))))

pub quiet_cleared : (p : MediaContents) → length p.events + length p.datagrams ≡ 0 → p ≡ record p { datagrams = [] }
quiet_cleared p none = ap (λ (l : List (List ℕ)). record p { datagrams = l }) (no_length p.datagrams (omega (arith, none)))

pub shut_most : (p q : MediaContents) (r : Result (Unit {0}) AllocError) → MediaLeaves p (said_goodbye p) r q
    → held_media plain_media_meaning q ≤ held_media plain_media_meaning p + 32
shut_most p q r h =
    leaves_with (λ (c : MediaContents). held_media plain_media_meaning c ≤ held_media plain_media_meaning p + 32)
    p (said_goodbye p) q r (omega arith) (goodbye_held p) h

pub keyed_most : (p q : MediaContents) (r : Result (Unit {0}) AllocError) → MediaLeaves p (record p { is_keyed = true }) r q
    → held_media plain_media_meaning q ≤ held_media plain_media_meaning p + 32
keyed_most p q r h =
    leaves_with (λ (c : MediaContents). held_media plain_media_meaning c ≤ held_media plain_media_meaning p + 32)
    p (record p { is_keyed = true }) q r (omega arith) (omega arith) h
