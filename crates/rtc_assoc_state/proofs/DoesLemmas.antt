-- What the relations of the plain association say, by the answer.
use Rattle.std.proofs.Common.{ℕ, ◌≡◌, ◌≤◌, ◌⊎◌, inl, inr, List, [], ◌∷◌, length, Option, Some, None, Result, Ok, Err, refl, sym, ap, subst, ◌∙◌, arith}
use Rattle.std.specs.declared.alloc.AllocError.{AllocError}
use Rattle.rtc_parts.specs.declared.assoc_error.AssocError.{AssocError}
use Rattle.rtc_parts.specs.declared.assoc_error.AssocError.TheVariants.{StreamExists, ResetPending, NoStream, TooLong, Closing, Fault, Alloc}
use Rattle.rtc_parts.specs.declared.assoc_event.AssocEvent.{AssocEvent}
use Rattle.rtc_parts.specs.declared.ppi.Ppi.{Ppi}
use Rattle.rtc_parts.specs.AssociationNeeds.{Answered}
use Rattle.rtc_assoc_state.specs.Packets.{frame_in}
use Rattle.rtc_assoc_state.specs.declared.message.Message.{Message}
use Rattle.rtc_assoc_state.specs.Contents.{Contents}
use Rattle.rtc_assoc_state.specs.Calls.{taken_out, event_given, packet_given, half_taken, input_taken, timed}
use Rattle.rtc_assoc_state.specs.PlainMeaning.{Does, Leaves, Sends, Reads, message_shown, Gives, Times, Polls, Transmits}

-- an answer comes exactly for its cause
pub does_answered : {T : Type 0} (cause : Option AssocError) (p q : Contents) (done : T → Contents → Type 0) (r : Result T AssocError) → Does cause p done r q → Answered cause 0 0 r
does_answered cause p q done (Ok x) h = (h.0, omega arith)
does_answered cause p q done (Err StreamExists) h = (h.0, omega arith)
does_answered cause p q done (Err ResetPending) h = (h.0, omega arith)
does_answered cause p q done (Err NoStream) h = (h.0, omega arith)
does_answered cause p q done (Err TooLong) h = (h.0, omega arith)
does_answered cause p q done (Err Closing) h = (h.0, omega arith)
does_answered cause p q done (Err Fault) h = absurd h
does_answered cause p q done (Err Alloc) h = omega arith

-- a refusal changes nothing
pub refused_changes_nothing : {T : Type 0} (cause : Option AssocError) (p q : Contents) (done : T → Contents → Type 0) (e : AssocError) → Does cause p done (Err e) q → q ≡ p
refused_changes_nothing cause p q done StreamExists h = h.1
refused_changes_nothing cause p q done ResetPending h = h.1
refused_changes_nothing cause p q done NoStream h = h.1
refused_changes_nothing cause p q done TooLong h = h.1
refused_changes_nothing cause p q done Closing h = h.1
refused_changes_nothing cause p q done Fault h = absurd h
refused_changes_nothing cause p q done Alloc h = h

-- where the cause is known, the answer is that refusal, or want of memory
pub refused_again : {T : Type 0} (cause : Option AssocError) (p q : Contents) (done : T → Contents → Type 0) (e : AssocError) (r : Result T AssocError) → cause ≡ Some e → Does cause p done r q → (r ≡ Err e) ⊎ (r ≡ Err Alloc)
refused_again cause p q done e (Ok x) c h = absurd (let k : None ≡ Some e = sym h.0 ∙ c in cc)
refused_again cause p q done e (Err StreamExists) c h = inl (let k : Some StreamExists ≡ Some e = sym h.0 ∙ c in cc)
refused_again cause p q done e (Err ResetPending) c h = inl (let k : Some ResetPending ≡ Some e = sym h.0 ∙ c in cc)
refused_again cause p q done e (Err NoStream) c h = inl (let k : Some NoStream ≡ Some e = sym h.0 ∙ c in cc)
refused_again cause p q done e (Err TooLong) c h = inl (let k : Some TooLong ≡ Some e = sym h.0 ∙ c in cc)
refused_again cause p q done e (Err Closing) c h = inl (let k : Some Closing ≡ Some e = sym h.0 ∙ c in cc)
refused_again cause p q done e (Err Fault) c h = absurd h
refused_again cause p q done e (Err Alloc) c h = inr refl

-- without a cause, there is an Ok or want of memory
pub unrefused : {T : Type 0} (p q : Contents) (done : T → Contents → Type 0) (r : Result T AssocError) → Does None p done r q → ((x : T) × ((r ≡ Ok x) × done x q)) ⊎ (r ≡ Err Alloc)
unrefused p q done (Ok x) h = inl (x, (refl, h.1))
unrefused p q done (Err StreamExists) h = absurd (let k = h.0 in cc)
unrefused p q done (Err ResetPending) h = absurd (let k = h.0 in cc)
unrefused p q done (Err NoStream) h = absurd (let k = h.0 in cc)
unrefused p q done (Err TooLong) h = absurd (let k = h.0 in cc)
unrefused p q done (Err Closing) h = absurd (let k = h.0 in cc)
unrefused p q done (Err Fault) h = absurd h
unrefused p q done (Err Alloc) h = inr refl

-- what holds of an end as it was and as it is left holds whatever is answered
pub does_leaves : (P : Contents → Type 0) (cause : Option AssocError) (p t q : Contents) (r : Result (Unit {0}) AssocError) → P p → P t → Does cause p (Leaves t) r q → P q
does_leaves P cause p t q (Ok x) a b h = subst P (sym h.1) b
does_leaves P cause p t q (Err e) a b h = subst P (sym (refused_changes_nothing cause p q (Leaves t) e h)) a

pub does_sends : (P : Contents → Type 0) (cause : Option AssocError) (p t q : Contents) (r : Result (Unit {0}) AssocError) → P p → P t → Does cause p (λ _ o. Sends p t o) r q → P q
does_sends P cause p t q (Ok x) a b h = subst P (sym h.1.0) b
does_sends P cause p t q (Err e) a b h = subst P (sym (refused_changes_nothing {T = Unit {0}} cause p q (λ _ o. Sends p t o) e h)) a

pub does_writes : (P : Contents → Type 0) (cause : Option AssocError) (p t q : Contents) (count : ℕ) (r : Result ℕ AssocError) → P p → P t → Does cause p (λ n o. (n ≡ count) × Sends p t o) r q → P q
does_writes P cause p t q count (Ok x) a b h = subst P (sym h.1.1.0) b
does_writes P cause p t q count (Err e) a b h = subst P (sym (refused_changes_nothing cause p q (λ n o. (n ≡ count) × Sends p t o) e h)) a

pub gives : (P : Contents → Type 0) (p q : Contents) (now : ℕ) (bytes : List ℕ) (r : Result (Unit {0}) AllocError) → P p → P (half_taken (frame_in bytes) p) → P (input_taken now bytes p) → Gives p now bytes r q → P q
gives P p q now bytes (Ok x) a b c h = subst P (sym h.0) c
gives P p q now bytes (Err e) a b c (inl h) = subst P (sym h) a
gives P p q now bytes (Err e) a b c (inr h) = subst P (sym h) b

pub times : (P : Contents → Type 0) (p q : Contents) (now : ℕ) (r : Result (Unit {0}) AllocError) → P p → P (timed now p) → Times p now r q → P q
times P p q now (Ok x) a b h = subst P (sym h.0) b
times P p q now (Err e) a b h = subst P (sym h) a

-- an event, and a packet, that is given is the first
pub record Popped {A : Type 0} (queue : List A) (x : A) : Type 0 where
  pub rest : List A
  pub is : queue ≡ x ∷ rest

pub polls_some : (events : List AssocEvent) (p q : Contents) (e : AssocEvent) → Polls events p (Some e) q → (w : Popped events e) × (q ≡ event_given w.rest p)
polls_some [] p q e h = absurd h
polls_some (x ∷ events) p q e h = (record { rest = events; is = ap (λ y. y ∷ events) (sym h.0) }, h.1)

pub polls_none : (events : List AssocEvent) (p q : Contents) → Polls events p None q → (events ≡ []) × (q ≡ p)
polls_none [] p q h = (refl, h)
polls_none (x ∷ events) p q h = absurd h

pub transmits_some : (packets : List (List ℕ)) (p q : Contents) (b : List ℕ) → Transmits packets p (Some b) q → (w : Popped packets b) × ((length b ≤ 1900) × (q ≡ packet_given w.rest p))
transmits_some [] p q b h = absurd h
transmits_some (x ∷ packets) p q b h = (record { rest = packets; is = ap (λ y. y ∷ packets) (sym h.0) }, (h.1, h.2))

pub transmits_none : (packets : List (List ℕ)) (p q : Contents) → Transmits packets p None q → (packets ≡ []) × (q ≡ p)
transmits_none [] p q h = (refl, h)
transmits_none (x ∷ packets) p q h = absurd h

pub reads_some : (m : Option Message) (id : ℕ) (p q : Contents) (shown : Ppi × List ℕ) → Reads m id p (Some shown) q → (x : Message) × ((m ≡ Some x) × (shown ≡ message_shown x) × (q ≡ taken_out id p))
reads_some None id p q shown h = absurd h
reads_some (Some x) id p q shown h = (x, (refl, h.0, h.1))

pub reads_none : (m : Option Message) (id : ℕ) (p q : Contents) → Reads m id p None q → (m ≡ None) × (q ≡ p)
reads_none None id p q h = (refl, h)
reads_none (Some x) id p q h = absurd h
