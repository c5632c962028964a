-- What a poll returns: the first thing that the parts give, in one order, or the least deadline.
use Rattle.std.specs.Prelude.{if◌then◌else◌, ◌≡◌, ◌-◌, ◌^◌, Bool, true, false, Result, Ok, Err}
use Rattle.rtc_parts.specs.declared.reason.Reason.{Reason}
use Rattle.rtc_parts.specs.declared.reason.Reason.TheVariants.{NotHappening}
use Rattle.rtc_peer_core.specs.declared.phase.Phase.{Phase}
use Rattle.rtc_peer_core.specs.declared.phase.Phase.TheVariants.{Alive, Closing, Closed}
use Rattle.rtc_peer_core.specs.Meanings.{Meanings}
use Rattle.rtc_peer_transport.specs.declared.met.Met.{Met}
use Rattle.rtc_peer_transport.specs.declared.met.Met.TheVariants.{Nothing, Again, Transmit as MetTransmit, Event as MetEvent, Error}
use Rattle.rtc_peer_transport.specs.declared.output.Output.{Output}
use Rattle.rtc_peer_transport.specs.declared.output.Output.TheVariants.{Timeout, Transmit, Event}
use Rattle.rtc_peer_core.specs.declared.rtc_error.RtcError.{RtcError}
use Rattle.rtc_peer_transport.specs.declared.polled_peer.PolledPeer.{PolledPeer}
use Rattle.rtc_peer_transport.specs.Closing.{is_closing_complete}
use Rattle.rtc_peer_transport.specs.Connection.{closed_peer}
use Rattle.rtc_peer_transport.specs.Deadlines.{least_deadline, wake_moment}
use Rattle.rtc_peer_polling.specs.DtlsStages.{TimesDtls, PollsDtlsOutputs, TellsConnected, is_dtls_due}
use Rattle.rtc_peer_polling.specs.IceStages.{PollsIceEvents}
use Rattle.rtc_peer_polling.specs.MediaStages.{TellsMedia, TellsFallibleMedia}
use Rattle.rtc_peer_polling.specs.SendStages.{SendsChecks, SendsByPair}
use Rattle.rtc_peer_transport.specs.Statistics.{TellsStatistics}
use Rattle.rtc_peer_polling.specs.StreamStages.{TellsStreams}
use Rattle.rtc_peer_transport.specs.Stages.{Stage, FollowedBy, RepeatsStage}

-- the peer that returned a timeout for a reason
abbrev pub with_reason : {I D S M N : Type 0} → Reason → PolledPeer I D S M N → PolledPeer I D S M N
with_reason reason p = record p { transport = record p.transport { last_reason = reason } }

-- a closed peer waits for nothing
abbrev pub RestsClosed : {I D S M E N : Type 0} → PolledPeer I D S M N → Result (Output E) RtcError → PolledPeer I D S M N → Type 0
RestsClosed p answer q = (answer ≡ Ok (Timeout (2 ^ 64 - 1))) × (q ≡ with_reason NotHappening p)

-- a walk over the parts starts over if it ends with a moment of DTLS that is reached
abbrev pub StartsOverWhenDue : {I D S M E N : Type 0} → Stage (PolledPeer I D S M N) E
StartsOverWhenDue p r q = (r ≡ (if is_dtls_due p then Again else Nothing)) × (q ≡ p)

module _ {I D S M E X T W N : Type 0} (m : Meanings I D S M E X T W N) where
  -- the connection: events of ICE, a moment of DTLS that is reached, outputs of DTLS, the end of the handshake
  unfoldable pub TellsConnection : Stage (PolledPeer I D S M N) E
  TellsConnection = FollowedBy (PollsIceEvents m) (FollowedBy (TimesDtls m) (FollowedBy (PollsDtlsOutputs m) TellsConnected))

  -- what else is reported: events of media, those first that cannot fail, and statistics
  unfoldable pub TellsArrivals : Stage (PolledPeer I D S M N) E
  TellsArrivals = FollowedBy (TellsMedia m) (FollowedBy (TellsFallibleMedia m) TellsStatistics)

  -- datagrams to be sent: those of ICE, then those by the nominated pair
  unfoldable pub SendsDatagrams : Stage (PolledPeer I D S M N) E
  SendsDatagrams = FollowedBy (SendsChecks m) (SendsByPair m)

  -- one walk over the parts
  unfoldable pub VisitsParts : Stage (PolledPeer I D S M N) E
  VisitsParts =
      FollowedBy TellsConnection (FollowedBy (TellsStreams m) (FollowedBy TellsArrivals (FollowedBy SendsDatagrams StartsOverWhenDue)))

  abbrev pub WaitsIf : (complete : Bool) → PolledPeer I D S M N → Result (Output E) RtcError → PolledPeer I D S M N → Type 0
  WaitsIf true p answer q = RestsClosed (closed_peer p) answer q
  WaitsIf false p answer q = (answer ≡ Ok (Timeout (wake_moment m p))) × (q ≡ with_reason (least_deadline m p).1 p)

  -- If nothing was met, the least deadline is returned; a closing that is complete leaves the peer closed.
  abbrev pub Waits : PolledPeer I D S M N → Result (Output E) RtcError → PolledPeer I D S M N → Type 0
  Waits p answer q = WaitsIf (is_closing_complete m p) p answer q

  -- the result for what was met
  abbrev pub AnswersMet : Met E → PolledPeer I D S M N → Result (Output E) RtcError → PolledPeer I D S M N → Type 0
  AnswersMet Nothing p answer q = Waits p answer q
  AnswersMet Again p answer q = ⊥
  AnswersMet (MetTransmit transmit) p answer q = (answer ≡ Ok (Transmit transmit)) × (q ≡ p)
  AnswersMet (MetEvent event) p answer q = (answer ≡ Ok (Event event)) × (q ≡ p)
  AnswersMet (Error error) p answer q = (answer ≡ Err error) × (q ≡ p)

  -- The parts are visited up to the first thing that they give.
  pub record Walks (p : PolledPeer I D S M N) (answer : Result (Output E) RtcError) (q : PolledPeer I D S M N) : Type 0 where
    pub met : Met E
    pub visited : PolledPeer I D S M N
    pub by_visits : RepeatsStage VisitsParts p met visited
    pub by_answer : AnswersMet met visited answer q

  abbrev pub PollsPeerFrom : Phase → PolledPeer I D S M N → Result (Output E) RtcError → PolledPeer I D S M N → Type 0
  PollsPeerFrom Alive p answer q = Walks p answer q
  PollsPeerFrom Closing p answer q = Walks p answer q
  PollsPeerFrom Closed p answer q = RestsClosed p answer q

  -- A poll walks over the parts; a closed peer has nothing to give.
  abbrev pub PollsPeer : PolledPeer I D S M N → Result (Output E) RtcError → PolledPeer I D S M N → Type 0
  PollsPeer p answer q = PollsPeerFrom p.core.phase p answer q
