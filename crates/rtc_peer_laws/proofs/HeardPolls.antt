-- A peer that answered a timeout has heard its streams.
use Rattle.std.proofs.Common.{◌≡◌, ◌≢◌, ℕ, Option, Some, None, Result, Ok, Err, refl, sym, ap, subst, ◌∙◌}
use Rattle.std.specs.declared.alloc.AllocError.{AllocError}
use Rattle.rtc_sctp_entries.specs.declared.sctp_event.SctpEvent.{SctpEvent}
use Rattle.rtc_sctp.specs.Streams.{SctpStreams}
use Rattle.rtc_sctp.specs.Polls.{PollsStreams}
use Rattle.rtc_peer_core.specs.declared.phase.Phase.TheVariants.{Closed}
use Rattle.rtc_peer_core.specs.Meanings.{Meanings, PartsLaws}
use Rattle.rtc_peer_transport.specs.declared.met.Met.TheVariants.{Nothing}
use Rattle.rtc_peer_transport.specs.declared.output.Output.TheVariants.{Timeout}
use Rattle.rtc_peer_transport.specs.declared.polled_peer.PolledPeer.{PolledPeer}
use Rattle.rtc_peer_transport.specs.Connection.{with_sctp}
use Rattle.rtc_peer_transport.specs.Stages.{FollowedBy}
use Rattle.rtc_peer_polling.specs.StreamStages.{TakesStreamAnswer, PollsStreamEvents, SendsKeptPackets, TellsStreams}
use Rattle.rtc_peer_polling.specs.Walk.{StartsOverWhenDue, TellsConnection, TellsArrivals, SendsDatagrams, VisitsParts, PollsPeer}
use Rattle.rtc_peer_transport.proofs.StageLemmas.{went_through}
use Rattle.rtc_peer_polling.proofs.StreamTurns.{kept_stay}
use Rattle.rtc_peer_laws.specs.Drained.{AllHeard}
use Rattle.rtc_peer_laws.proofs.HeardStreams.{poll_hears}
use Rattle.rtc_peer_polling.proofs.DrainingStreams.{kept_packets}
use Rattle.rtc_peer_polling.proofs.Draining.{arrivals_drain, datagrams_drain}
use Rattle.rtc_peer_laws.proofs.DrainedPolls.{Ends, AtRest, Waiting, poll_ends}

module _ {I D S M E X T W N : Type 0} (m : Meanings I D S M E X T W N) (laws : PartsLaws m) where
  -- the last poll of the streams gave nothing, where no packet stands to be sent
  answer_heard : (answer : Result (Option SctpEvent) AllocError) (streams : SctpStreams S) (p n : PolledPeer I D S M N)
      → PollsStreams m.association p.core.sctp answer streams → TakesStreamAnswer m answer (with_sctp streams p) Nothing n → n.core.sctp.pushed ≡ None
      → AllHeard m.association n.core.sctp
  answer_heard (Ok None) streams p n polled taken none =
      subst (λ (x : PolledPeer I D S M N). AllHeard m.association x.core.sctp) (sym taken.1) (poll_hears m.association laws.association p.core.sctp streams polled)
  answer_heard (Ok (Some e)) streams p n polled taken none =
      let kept = kept_packets m laws e (with_sctp streams p) n taken in
      let clash : Some kept.0 ≡ None = sym (ap (λ (x : PolledPeer I D S M N). x.core.sctp.pushed) kept.1.1) ∙ none in
      cc
  answer_heard (Err error) streams p n polled taken none = cc (taken.0)

  streams_heard : (p q : PolledPeer I D S M N) → TellsStreams m p Nothing q → q.core.sctp.pushed ≡ None → AllHeard m.association q.core.sctp
  unfolding TellsStreams
  streams_heard p q h none =
      let met = went_through (PollsStreamEvents m) (SendsKeptPackets m) p q h in
      let same : q.core.sctp ≡ met.0.core.sctp = (kept_stay m met.0 q met.1.1).3 in
      let ends = met.1.0.ends in
      subst (λ (s : SctpStreams S). AllHeard m.association s) (sym same)
      (answer_heard ends.answer ends.streams met.1.0.last met.0 ends.by_poll ends.by_answer (ap (λ (s : SctpStreams S). s.pushed) (sym same) ∙ none))

  visit_heard : (p q : PolledPeer I D S M N) → VisitsParts m p Nothing q → q.core.sctp.pushed ≡ None → AllHeard m.association q.core.sctp
  unfolding VisitsParts
  visit_heard p q h none =
      let one = went_through (TellsConnection m) (FollowedBy (TellsStreams m) (FollowedBy (TellsArrivals m) (FollowedBy (SendsDatagrams m) StartsOverWhenDue))) p q h in
      let two = went_through (TellsStreams m) (FollowedBy (TellsArrivals m) (FollowedBy (SendsDatagrams m) StartsOverWhenDue)) one.0 q one.1.1 in
      let three = went_through (TellsArrivals m) (FollowedBy (SendsDatagrams m) StartsOverWhenDue) two.0 q two.1.1 in
      let four = went_through (SendsDatagrams m) StartsOverWhenDue three.0 q three.1.1 in
      let arrived = arrivals_drain m laws two.0 three.0 three.1.0 in
      let sent = datagrams_drain m laws three.0 four.0 arrived.events four.1.0 in
      let same : q.core.sctp ≡ two.0.core.sctp = ap (λ (x : PolledPeer I D S M N). x.core.sctp) four.1.1.1 ∙ sent.0.sctp ∙ arrived.sctp in
      subst (λ (s : SctpStreams S). AllHeard m.association s) (sym same)
      (streams_heard one.0 two.0 two.1.0 (ap (λ (s : SctpStreams S). s.pushed) (sym same) ∙ none))

  heard_by : (moment : ℕ) (q : PolledPeer I D S M N) → Ends m moment q → q.core.phase ≢ Closed → q.core.sctp.pushed ≡ None
      → AllHeard m.association q.core.sctp
  heard_by moment q (AtRest closed is reason) live none = absurd (live closed)
  heard_by moment q (Waiting last v visit alive unclosed is same) live none =
      let sctp : q.core.sctp ≡ v.core.sctp = ap (λ (x : PolledPeer I D S M N). x.core.sctp) same in
      subst (λ (s : SctpStreams S). AllHeard m.association s) (sym sctp)
      (visit_heard last v visit (ap (λ (s : SctpStreams S). s.pushed) (sym sctp) ∙ none))

  -- a peer that answered a timeout
  pub timeout_heard : (p q : PolledPeer I D S M N) (moment : ℕ) → PollsPeer m p (Ok (Timeout moment)) q → q.core.phase ≢ Closed
      → q.core.sctp.pushed ≡ None → AllHeard m.association q.core.sctp
  timeout_heard p q moment first live none = heard_by moment q (poll_ends m p.core.phase moment p q refl first) live none
