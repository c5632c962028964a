-- An association that fails at listed calls.
use Rattle.std.specs.Prelude.{◌+◌, Bool, true, false, Option, None, Result, Ok, Err}
use Rattle.rtc_parts.specs.declared.assoc_error.AssocError.{AssocError}
use Rattle.rtc_parts.specs.declared.assoc_error.AssocError.TheVariants.{StreamExists, ResetPending, Fault}
use Rattle.rtc_parts.specs.AssociationMeaning.{AssociationMeaning}
use Rattle.rtc_faulty.specs.declared.faulty.Faulty.{Faulty}
use Rattle.rtc_faulty.specs.Numbering.{is_failing}
use Rattle.rtc_faulty.specs.FaultyCalls.{IsFreshOver, Reaches, CanFail}

-- a result of opening a stream uses a number, unless the stream is there or a reset of it is outstanding
abbrev pub opening_counts : {A : Type 0} → Result A AssocError → Bool
opening_counts (Err StreamExists) = false
opening_counts (Err ResetPending) = false
opening_counts _ = true

-- a result of reading uses a number, unless it gives no message
abbrev pub reading_counts : {A : Type 0} → Result (Option A) AssocError → Bool
reading_counts (Ok None) = false
reading_counts _ = true

abbrev pub faulty_association : {S : Type 0} → AssociationMeaning S → AssociationMeaning (Faulty S)
faulty_association m = record {
  fresh = λ p. IsFreshOver m.fresh p;
  limits_set = λ p n k q. Reaches (λ i j. m.limits_set i n k j) p q;
  connected = λ p now max r q. CanFail (is_failing p.numbers) Fault (λ _. true) (λ i a j. m.connected i now max a j) p r q;
  accepted = λ p now max r q. CanFail (is_failing p.numbers) Fault (λ _. true) (λ i a j. m.accepted i now max a j) p r q;
  connected_snap = λ p now max ours theirs r q.
      CanFail (is_failing p.numbers) Fault (λ _. true) (λ i a j. m.connected_snap i now max ours theirs a j) p r q;
  opened = λ p id r q. CanFail (is_failing p.numbers) Fault opening_counts (λ i a j. m.opened i id a j) p r q;
  wrote = λ p id ppi bytes r q. CanFail (is_failing p.numbers) Fault (λ _. true) (λ i a j. m.wrote i id ppi bytes a j) p r q;
  read = λ p id r q. CanFail (is_failing p.numbers) Fault reading_counts (λ i a j. m.read i id a j) p r q;
  ended = λ p id r q. CanFail (is_failing p.numbers) Fault (λ _. true) (λ i a j. m.ended i id a j) p r q;
  threshold_set = λ p id n r q. CanFail (is_failing p.numbers) Fault (λ _. true) (λ i a j. m.threshold_set i id n a j) p r q;
  reliability_set = λ p id unordered t n r q.
      CanFail (is_failing p.numbers) Fault (λ _. true) (λ i a j. m.reliability_set i id unordered t n a j) p r q;
  given = λ p now bytes r q. Reaches (λ i j. m.given i now bytes r j) p q;
  timed = λ p now r q. Reaches (λ i j. m.timed i now r j) p q;
  polled = λ p event q. Reaches (λ i j. m.polled i event j) p q;
  gave = λ p packet q. Reaches (λ i j. m.gave i packet j) p q;
  shut = λ p r q. CanFail (is_failing p.numbers) Fault (λ _. true) (λ i a j. m.shut i a j) p r q;
  started = λ p. m.started p.inner;
  closing = λ p. m.closing p.inner;
  closed = λ p. m.closed p.inner;
  has_stream = λ p id. m.has_stream p.inner id;
  stale = λ p id. m.stale p.inner id;
  generation = λ p id. m.generation p.inner id;
  buffered = λ p id. m.buffered p.inner id;
  wake = λ p. m.wake p.inner;
  max_send = λ p. m.max_send p.inner;
  resetting = λ p id. m.resetting p.inner id;
  closed_here = λ p id. m.closed_here p.inner id;
  held = λ p. m.held p.inner;
  units = λ p. m.units p.inner;
  faults = λ p. m.faults p.inner + p.numbers.faults;
  has_threshold = λ p. m.has_threshold p.inner;
  due = λ p. m.due p.inner;
  finished = λ p id. m.finished p.inner id;
  has_unread = λ p id generation. m.has_unread p.inner id generation;
  unacknowledged = λ p id. m.unacknowledged p.inner id;
}
