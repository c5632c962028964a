-- A poll lowers what a peer weighs with each output that it answers.
use Rattle.std.proofs.Common.{◌≡◌, ◌+◌, ◌-◌, ◌^◌, ◌≤◌, Bool, true, false, Result, Ok, Err, sym, subst, arith}
use Rattle.rtc_peer_core.specs.declared.phase.Phase.{Phase}
use Rattle.rtc_peer_core.specs.declared.phase.Phase.TheVariants.{Alive, Closing, Closed}
use Rattle.rtc_peer_core.specs.Meanings.{Meanings, PartsLaws}
use Rattle.rtc_peer_core.specs.declared.rtc_error.RtcError.{RtcError}
use Rattle.rtc_peer_transport.specs.declared.met.Met.{Met}
use Rattle.rtc_peer_transport.specs.declared.met.Met.TheVariants.{Nothing, Again, Transmit as MetTransmit, Event as MetEvent, Error}
use Rattle.rtc_peer_transport.specs.declared.output.Output.{Output}
use Rattle.rtc_peer_transport.specs.declared.output.Output.TheVariants.{Timeout, Transmit, Event}
use Rattle.rtc_peer_transport.specs.declared.polled_peer.PolledPeer.{PolledPeer}
use Rattle.rtc_peer_transport.specs.Closing.{is_closing_complete}
use Rattle.rtc_peer_transport.specs.Connection.{closed_peer}
use Rattle.rtc_peer_transport.specs.Deadlines.{least_deadline}
use Rattle.rtc_parts.specs.declared.reason.Reason.TheVariants.{NotHappening}
use Rattle.rtc_peer_polling.specs.StreamStages.{TellsStreams}
use Rattle.rtc_peer_polling.specs.Walk.{TellsConnection, TellsArrivals, SendsDatagrams, StartsOverWhenDue, VisitsParts, WaitsIf, AnswersMet, Walks, PollsPeerFrom, PollsPeer, with_reason}
use Rattle.rtc_peer_laws.proofs.Measures.{whole, Fit, Lowered, Lowers, followed_lowers, repeats_lowers, arrivals_lower, datagrams_lower, start_lowers}
use Rattle.rtc_peer_laws.proofs.StreamsFall.{streams_lower}
use Rattle.rtc_peer_laws.proofs.DtlsFalls.{connection_lowers}

module _ {I D S M E X T W N : Type 0} (m : Meanings I D S M E X T W N) (laws : PartsLaws m) where
  -- what an answer leaves: less where something was put out, and no more where it is a timeout
  abbrev pub Answered : Result (Output E) RtcError → PolledPeer I D S M N → PolledPeer I D S M N → Type 0
  Answered (Ok (Timeout moment)) p q = Fit m laws q × (whole m laws q ≤ whole m laws p)
  Answered (Ok (Transmit transmit)) p q = Fit m laws q × (whole m laws q + 1 ≤ whole m laws p)
  Answered (Ok (Event event)) p q = Fit m laws q × (whole m laws q + 1 ≤ whole m laws p)
  Answered (Err error) p q = Fit m laws q

  answered_as : (r n : Result (Output E) RtcError) (p x q : PolledPeer I D S M N) → r ≡ n → q ≡ x → Answered n p x → Answered r p q
  answered_as r n p x q e f h = subst (λ (y : Result (Output E) RtcError). Answered y p q) (sym e) (subst (λ (y : PolledPeer I D S M N). Answered n p y) (sym f) h)

  visits_lower : Lowers m laws (VisitsParts m)
  unfolding VisitsParts
  visits_lower =
      followed_lowers m laws (TellsConnection m) _ (connection_lowers m laws)
      (followed_lowers m laws (TellsStreams m) _ (streams_lower m laws)
      (followed_lowers m laws (TellsArrivals m) _ (arrivals_lower m laws)
      (followed_lowers m laws (SendsDatagrams m) StartsOverWhenDue (datagrams_lower m laws) (start_lowers m laws))))

  waits_by : (complete : Bool) (p v : PolledPeer I D S M N) (answer : Result (Output E) RtcError) (q : PolledPeer I D S M N)
      → Fit m laws v × (whole m laws v ≤ whole m laws p) → WaitsIf m complete v answer q → Answered answer p q
  waits_by true p v answer q k h =
      answered_as answer (Ok (Timeout (2 ^ 64 - 1))) p (with_reason NotHappening (closed_peer v)) q h.0 h.1 ((k.0.0, k.0.1), omega (arith, k.1))
  waits_by false p v answer q k h =
      answered_as answer (Ok (Timeout _)) p (with_reason (least_deadline m v).1 v) q h.0 h.1 ((k.0.0, k.0.1), omega (arith, k.1))

  met_answered : (met : Met E) (p v : PolledPeer I D S M N) (answer : Result (Output E) RtcError) (q : PolledPeer I D S M N)
      → Lowered m laws met p v → AnswersMet m met v answer q → Answered answer p q
  met_answered Nothing p v answer q k h = waits_by (is_closing_complete m v) p v answer q k h
  met_answered Again p v answer q k h = absurd h
  met_answered (MetTransmit transmit) p v answer q k h = answered_as answer (Ok (Transmit transmit)) p v q h.0 h.1 k
  met_answered (MetEvent event) p v answer q k h = answered_as answer (Ok (Event event)) p v q h.0 h.1 k
  met_answered (Error error) p v answer q k h = answered_as answer (Err error) p v q h.0 h.1 k

  walk_answered : (p : PolledPeer I D S M N) (answer : Result (Output E) RtcError) (q : PolledPeer I D S M N) → Fit m laws p → Walks m p answer q → Answered answer p q
  walk_answered p answer q fit h =
      met_answered h.met p h.visited answer q (repeats_lowers m laws (VisitsParts m) visits_lower p h.met h.visited fit h.by_visits) h.by_answer

  polls_from : (phase : Phase) (p : PolledPeer I D S M N) (answer : Result (Output E) RtcError) (q : PolledPeer I D S M N) → Fit m laws p
      → PollsPeerFrom m phase p answer q → Answered answer p q
  polls_from Alive p answer q fit h = walk_answered p answer q fit h
  polls_from Closing p answer q fit h = walk_answered p answer q fit h
  polls_from Closed p answer q fit h =
      answered_as answer (Ok (Timeout (2 ^ 64 - 1))) p (with_reason NotHappening p) q h.0 h.1 ((fit.0, fit.1), omega arith)

  -- a poll
  pub polls_answered : (p : PolledPeer I D S M N) (answer : Result (Output E) RtcError) (q : PolledPeer I D S M N) → Fit m laws p → PollsPeer m p answer q → Answered answer p q
  polls_answered p answer q fit h = polls_from p.core.phase p answer q fit h
