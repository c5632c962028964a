-- What a threshold that is set keeps.
use Rattle.std.proofs.Common.{ℕ, ◌≡◌, true, Some, Result, refl}
use Rattle.rtc_parts.specs.declared.assoc_error.AssocError.{AssocError}
use Rattle.rtc_assoc_state.specs.Streams.{stream_of}
use Rattle.rtc_assoc_state.specs.Contents.{Contents, is_started, generation_of, is_finished, has_stream}
use Rattle.rtc_assoc_state.specs.Calls.{thresholded}
use Rattle.rtc_assoc_state.specs.PlainMeaning.{Does, Leaves, stream_cause}
use Rattle.rtc_assoc_state.proofs.DoesLemmas.{does_leaves}
use Rattle.rtc_assoc_state.proofs.RaiseLemmas.{generation-put, own_generation, finished-put, own_close, there-put, own_there}
use Rattle.rtc_assoc_state.proofs.SilentLemmas.{silent_put}
use Rattle.rtc_assoc_state.proofs.KeepLemmas.{Silent, own_closed}

-- a threshold that is set keeps the start and the course of generations
pub record Courses (p q : Contents) : Type 0 where
  pub started : is_started q ≡ is_started p
  pub max_send : q.limits.max_send ≡ p.limits.max_send
  pub generations : (id : ℕ) → generation_of q id ≡ generation_of p id
  pub finishes : (id : ℕ) → is_finished q id ≡ is_finished p id
  pub events : q.events ≡ p.events
  pub inbox : q.inbox ≡ p.inbox
  pub stays : (id : ℕ) → has_stream p id ≡ true → has_stream q id ≡ true
  pub silent : Silent p → Silent q

courses_none : (p : Contents) → Courses p p
courses_none p = record { started = refl; max_send = refl; generations = λ id. refl; finishes = λ id. refl; events = refl; inbox = refl; stays = λ id t. t; silent = λ h. h }

courses_thresholded : (id n : ℕ) (p : Contents) → Courses p (thresholded id n p)
unfolding thresholded
courses_thresholded id n p = record {
  started = refl;
  max_send = refl;
  generations = generation-put (record (stream_of id p.streams) { threshold = Some n }) p.streams (own_generation id p.streams);
  finishes = finished-put (record (stream_of id p.streams) { threshold = Some n }) p.streams (own_close id p.streams);
  events = refl;
  inbox = refl;
  stays = there-put (record (stream_of id p.streams) { threshold = Some n }) p.streams (own_there id p.streams);
  silent = silent_put (record (stream_of id p.streams) { threshold = Some n }) p.streams p.inbox.unread (own_generation id p.streams) (own_closed id p.streams);
}

pub courses_set : (p q : Contents) (id n : ℕ) (r : Result (Unit {0}) AssocError) → Does (stream_cause p id) p (Leaves (thresholded id n p)) r q → Courses p q
courses_set p q id n r h = does_leaves (Courses p) (stream_cause p id) p (thresholded id n p) q r (courses_none p) (courses_thresholded id n p) h
