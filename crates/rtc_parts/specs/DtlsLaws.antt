-- What holds of every DTLS part.
use Rattle.std.specs.Prelude.{ℕ, ◌≡◌, ◌+◌, ◌-◌, ◌^◌, ◌<◌, ◌≤◌, ◌⊎◌, Bool, true, false, List, length, Result, Ok, Err}
use Rattle.rtc_io.specs.Faults.{Rose}
use Rattle.rtc_parts.specs.declared.dtls_error.DtlsError.{DtlsError}
use Rattle.rtc_parts.specs.declared.dtls_error.DtlsError.TheVariants.{WouldBlock, Fault, Alloc}
use Rattle.rtc_parts.specs.DtlsDrawn.{DtlsDrawn, DrewTimeout, drawn_bytes, drawn_units, drawn_packets, draws_output}
use Rattle.rtc_parts.specs.DtlsMeaning.{DtlsMeaning}
use Rattle.rtc_parts.specs.DtlsActs.{DtlsAct, DtlsActed, DtlsMoved}

-- a result of a call that never has to wait, if the count of faults went from one number to another: a fault is returned only if the count
-- rose, and running out of memory may be at any time
abbrev pub DtlsAnswered : (before after : ℕ) → Result (Unit {0}) DtlsError → Type 0
DtlsAnswered before after (Ok _) = before ≤ after
DtlsAnswered before after (Err WouldBlock) = ⊥
DtlsAnswered before after (Err Fault) = Rose before after
DtlsAnswered before after (Err Alloc) = before ≤ after

-- a result for application data, which may have to wait while the handshake is not finished
abbrev pub SendAnswered : (finished : Bool) → (before after : ℕ) → Result (Unit {0}) DtlsError → Type 0
SendAnswered finished before after (Ok _) = before ≤ after
SendAnswered finished before after (Err WouldBlock) = finished ≡ false
SendAnswered finished before after (Err Fault) = Rose before after
SendAnswered finished before after (Err Alloc) = before ≤ after

-- a moment is later than another, or that of what is not to happen
abbrev pub IsLater : ℕ → ℕ → Type 0
IsLater now moment = (now < moment) ⊎ (moment ≡ 2 ^ 64 - 1)

pub record DtlsLaws {D : Type 0} (m : DtlsMeaning D) : Type 0 where
  -- a fresh part is open, and its handshake is not finished
  pub fresh_open : (p : D) → m.fresh p → m.closed p ≡ false
  pub fresh_unfinished : (p : D) → m.fresh p → m.finished p ≡ false
  -- when each call refuses
  pub given_answer : (p q : D) (packet : List ℕ) (r : _) → m.given p packet r q → DtlsAnswered (m.faults p) (m.faults q) r
  pub timed_answer : (p q : D) (now : ℕ) (r : _) → m.timed p now r q → DtlsAnswered (m.faults p) (m.faults q) r
  pub shut_answer : (p q : D) (r : _) → m.shut p r q → DtlsAnswered (m.faults p) (m.faults q) r
  pub sent_answer : (p q : D) (bytes : List ℕ) (r : _) → m.sent p bytes r q → SendAnswered (m.finished p) (m.faults p) (m.faults q) r
  -- application data that has to wait changes nothing, and is refused again until another call changes the part
  pub blocked : (p q : D) (bytes : List ℕ) → m.sent p bytes (Err WouldBlock) q → q ≡ p
  pub blocked_again : (p q o : D) (bytes others : List ℕ) (r : _) → m.sent p bytes (Err WouldBlock) q → m.sent p others r o
      → (r ≡ Err WouldBlock) ⊎ (r ≡ Err Alloc)
  -- the count of faults never falls
  pub faults_rise : (p q : D) (act : DtlsAct) → DtlsActed m p act q → m.faults p ≤ m.faults q
  -- a timeout is returned exactly if nothing is held, changes nothing, and has the moment that the part asks for; what is given lowers what
  -- is held
  pub timeout_none : (p q : D) (moment : ℕ) → m.polled p (DrewTimeout moment) q → q ≡ p
  pub timeout_asks : (p q : D) (moment : ℕ) → m.polled p (DrewTimeout moment) q → moment ≡ m.asks p
  pub silent : (p q : D) (moment : ℕ) → m.polled p (DrewTimeout moment) q → m.held p ≡ 0
  pub quiet : (p : D) → m.held p ≡ 0 → m.polled p (DrewTimeout (m.asks p)) p
  -- the units of input are of outputs that are held
  pub quiet_input : (p : D) → m.held p ≡ 0 → m.units p ≡ 0
  pub drawn_falls : (p q : D) (drawn : DtlsDrawn) → draws_output drawn ≡ true → m.polled p drawn q → m.held q < m.held p
  -- what is drawn has at most 2000 bytes
  pub drawn_short : (p q : D) (drawn : DtlsDrawn) → m.polled p drawn q → length (drawn_bytes drawn) ≤ 2000
  -- the units of input and the packets: what takes some away, and how many a call of a poll adds at most
  pub drawn_input : (p q : D) (drawn : DtlsDrawn) → m.polled p drawn q → m.units q + drawn_units drawn ≤ m.units p
  pub drawn_output : (p q : D) (drawn : DtlsDrawn) → m.polled p drawn q → m.packets q + drawn_packets drawn ≤ m.packets p
  pub sent_input : (p q : D) (bytes : List ℕ) (r : _) → m.sent p bytes r q → m.units q ≤ m.units p
  pub sent_output : (p q : D) (bytes : List ℕ) (r : _) → m.sent p bytes r q → m.packets q ≤ m.packets p + 1
  pub timed_input : (p q : D) (now : ℕ) (r : _) → m.timed p now r q → m.units q ≤ m.units p
  pub timed_output : (p q : D) (now : ℕ) (r : _) → m.timed p now r q → m.packets q ≤ m.packets p + 32
  pub shut_input : (p q : D) (r : _) → m.shut p r q → m.units q ≤ m.units p
  pub shut_output : (p q : D) (r : _) → m.shut p r q → m.packets q ≤ m.packets p + 32
  -- no moment is asked for at or before one that an Ok timeout gave, whatever was given after
  pub asks_later : (p q r : D) (now : ℕ) (acts : List DtlsAct) → m.timed p now (Ok tt) q → DtlsMoved m q acts r → IsLater now (m.asks r)
  -- polls, application data and a close never bring the moment nearer
  pub drawn_asks : (p q : D) (drawn : DtlsDrawn) → m.polled p drawn q → m.asks p ≤ m.asks q
  pub sent_asks : (p q : D) (bytes : List ℕ) (r : _) → m.sent p bytes r q → m.asks p ≤ m.asks q
  pub shut_asks : (p q : D) (r : _) → m.shut p r q → m.asks p ≤ m.asks q
