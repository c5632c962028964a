-- A poll that announces a channel, or tells a message of one, ends with a poll of the streams that does so.
use Rattle.std.proofs.Common.{◌≡◌, ◌∙◌, ◌≤◌, ◌++◌, ℕ, zero, suc, Bool, true, false, List, [], Option, Some, None, Result, Ok, Err, refl, sym, ap, subst}
use Rattle.std.specs.declared.alloc.AllocError.{AllocError}
use Rattle.rtc_parts.specs.AssociationActs.{AssociationAct, Moved, moved-append}
use Rattle.rtc_sctp_entries.specs.declared.sctp_event.SctpEvent.{SctpEvent}
use Rattle.rtc_sctp_entries.specs.declared.sctp_event.SctpEvent.TheVariants as event
use Rattle.rtc_sctp.specs.Streams.{SctpStreams}
use Rattle.rtc_sctp.specs.Polls.{PollsStreams}
use Rattle.rtc_sctp_laws.proofs.PollActs.{poll_did}
use Rattle.rtc_channels.specs.Allocation.{channel_ensured}
use Rattle.rtc_channels.specs.Holds.{reset_completed}
use Rattle.rtc_peer_core.specs.declared.phase.Phase.{Phase}
use Rattle.rtc_peer_core.specs.declared.phase.Phase.TheVariants.{Alive, Closing, Closed}
use Rattle.rtc_peer_core.specs.declared.rtc_error.RtcError.{RtcError}
use Rattle.rtc_peer_core.specs.Meanings.{Meanings, PartsLaws}
use Rattle.rtc_peer_transport.specs.declared.event.Event.{Event}
use Rattle.rtc_peer_transport.specs.declared.met.Met.{Met}
use Rattle.rtc_peer_transport.specs.declared.met.Met.TheVariants.{Nothing, Again, Transmit, Event as MetEvent, Error}
use Rattle.rtc_peer_transport.specs.declared.output.Output.{Output}
use Rattle.rtc_peer_transport.specs.declared.output.Output.TheVariants as outputs
use Rattle.rtc_peer_transport.specs.declared.polled_peer.PolledPeer.{PolledPeer}
use Rattle.rtc_peer_transport.specs.Closing.{is_closing_complete}
use Rattle.rtc_peer_transport.specs.Connection.{with_channels, with_sctp}
use Rattle.rtc_peer_transport.specs.Stages.{Stage, FollowedBy, Stopped, WentOn, StartsOver, RepeatsStage}
use Rattle.rtc_peer_polling.specs.DtlsStages.{is_dtls_due}
use Rattle.rtc_peer_polling.specs.StreamStages.{ClosesChannelOver, FallsChannelOver, HearsChannelOver, LosesAssociation, OpensChannelOver, PollsStreamEvent, PollsStreamEvents, SendsKeptPackets, TakesStreamAnswer, TakesStreamEvent, TellsStreams, channel_over}
use Rattle.rtc_peer_polling.specs.Walk.{AnswersMet, PollsPeer, PollsPeerFrom, SendsDatagrams, StartsOverWhenDue, TellsArrivals, TellsConnection, VisitsParts, WaitsIf}
use Rattle.rtc_peer_laws.specs.RowsChanged.{Polled, RowsAnswered, RowsPolled, SameRows}
use Rattle.rtc_peer_laws.proofs.ChangedRows.{closed_row}
use Rattle.rtc_peer_laws.proofs.EnsuredRows.{ensured_given, ensured_rows}
use Rattle.rtc_peer_laws.proofs.PolledRows.{one_polled, polled_on, polled_same}
use Rattle.rtc_peer_laws.proofs.StreamsJoin.{given_on, same_given}
use Rattle.rtc_peer_laws.proofs.ActedConnection.{connection_acts}
use Rattle.rtc_peer_laws.proofs.ActedVisits.{visits_act}
use Rattle.rtc_peer_laws.proofs.VisitActs.{QuietDid, quiet_again, quiet_nothing}
use Rattle.rtc_run_laws.proofs.SilentStages.{IsSilent, arrivals_silent, clash, connection_silent, datagrams_silent, else_silent, first_silent, is_channel_event, is_channel_met, over_silent}

module _ {I D S M E X T W N : Type 0} (m : Meanings I D S M E X T W N) where
  -- what a poll did first: acts of the association, and changes of channels and of the entries of their streams; the rows of channels are unchanged
  pub record Before (p b : PolledPeer I D S M N) : Type 0 where
    pub acts : List AssociationAct
    pub went : Moved m.association p.core.sctp.association acts b.core.sctp.association
    pub rows : RowsPolled m.association p.core.channels p.core.sctp b.core.channels b.core.sctp
    pub kept : b.core.channels.rows ≡ p.core.channels.rows
    pub given : p.core.channels.given ≤ b.core.channels.given

  -- that, and the poll of the streams that ends it
  pub record LastPoll (p : PolledPeer I D S M N) (r : Met E) (q : PolledPeer I D S M N) : Type 0 where
    pub between : PolledPeer I D S M N
    pub before : Before p between
    pub told : SctpEvent
    pub streams : SctpStreams S
    pub polled : PollsStreams m.association between.core.sctp (Ok (Some told)) streams
    pub taken : TakesStreamEvent m told (with_sctp streams between) r q

  before_quiet : (p b : PolledPeer I D S M N) → QuietDid m p b → Before p b
  before_quiet p b d = record {
    acts = d.did.acts.association;
    went = d.did.went.association;
    rows = d.streams.changed;
    kept = d.rows;
    given = d.streams.given;
  }

  before_none : (p b : PolledPeer I D S M N) → b ≡ p → Before p b
  before_none p b is =
      subst (λ (x : PolledPeer I D S M N). Before p x) (sym is)
      (record {
        acts = [];
        went = refl;
        rows = polled_same m.association p.core.channels p.core.sctp p.core.channels p.core.sctp refl refl;
        kept = refl;
        given = same_given p.core.channels.given p.core.channels.given refl;
      })

  before_on : (p b q : PolledPeer I D S M N) → Before p b → Before b q → Before p q
  before_on p b q h k = record {
    acts = h.acts ++ k.acts;
    went =
        moved-append m.association p.core.sctp.association b.core.sctp.association q.core.sctp.association h.acts k.acts h.went k.went;
    rows =
        polled_on m.association p.core.channels p.core.sctp b.core.channels b.core.sctp q.core.channels q.core.sctp h.rows k.rows;
    kept = k.kept ∙ h.kept;
    given = given_on p.core.channels.given b.core.channels.given q.core.channels.given h.given k.given;
  }

  -- a stage that meets such an event
  abbrev IsTraced : Stage (PolledPeer I D S M N) E → Type 0
  IsTraced stage = (p : PolledPeer I D S M N) (r : Met E) (q : PolledPeer I D S M N) → stage p r q → is_channel_met r ≡ true → LastPoll p r q

  module _ (laws : PartsLaws m) where
    -- ---- a turn of the streams that reports nothing

    -- the streams were polled, and this became of the channels
    polled_before : (answer : Result (Option SctpEvent) AllocError) (streams : SctpStreams S) (p n q : PolledPeer I D S M N)
        → PollsStreams m.association p.core.sctp answer streams → q ≡ n → n.core.sctp ≡ streams
        → RowsAnswered answer p.core.channels n.core.channels → n.core.channels.rows ≡ p.core.channels.rows
        → p.core.channels.given ≤ n.core.channels.given → Before p q
    polled_before answer streams p n q polled is same rows kept given =
        subst (λ (x : PolledPeer I D S M N). Before p x) (sym is)
        (let did = poll_did m.association laws.association p.core.sctp answer streams polled in
        record {
          acts = did.did.acts;
          went = subst (λ (a : S). Moved m.association p.core.sctp.association did.did.acts a) (sym (ap (λ (x : SctpStreams S). x.association) same)) did.did.went;
          rows =
              one_polled m.association p.core.channels p.core.sctp n.core.channels n.core.sctp
              (Polled answer streams polled rows (ap (λ (x : SctpStreams S). x.association) same) (ap (λ (x : SctpStreams S). x.entries) same)
              (ap (λ (x : SctpStreams S). x.state) same) (ap (λ (x : SctpStreams S). x.client) same)) tt;
          kept = kept;
          given = given;
        })

    -- and nothing became of them but that streams may be held no more
    idle_before : (answer : Result (Option SctpEvent) AllocError) (streams : SctpStreams S) (p n q : PolledPeer I D S M N)
        → PollsStreams m.association p.core.sctp answer streams → q ≡ n → n.core.sctp ≡ streams
        → RowsAnswered answer p.core.channels n.core.channels → SameRows p.core.channels n.core.channels → Before p q
    idle_before answer streams p n q polled is same rows kept =
        polled_before answer streams p n q polled is same rows kept.0 (same_given p.core.channels.given n.core.channels.given kept.1)

    no_nothing : {E : Type 0} → ◌≡◌ {A = Met E} Again Nothing → ⊥
    no_nothing h = cc

    no_event : {E : Type 0} (e : Event E) → ◌≡◌ {A = Met E} Again (MetEvent e) → ⊥
    no_event e h = cc

    no_error : {E : Type 0} (e : RtcError) → ◌≡◌ {A = Met E} Again (Error e) → ⊥
    no_error e h = cc

    opens_again : (stream : ℕ) (label : List ℕ) (streams : SctpStreams S) (p q : PolledPeer I D S M N)
        → PollsStreams m.association p.core.sctp (Ok (Some (event.Open stream label))) streams
        → OpensChannelOver {I = I} {D = D} {S = S} {M = M} {E = E} {N = N} stream label (with_sctp streams p) Again q → Before p q
    unfolding OpensChannelOver
    opens_again stream label streams p q polled h =
        polled_before (Ok (Some (event.Open stream label))) streams p
        (with_channels (channel_ensured stream p.core.channels) (with_sctp streams p)) q polled h.1 refl refl
        (ensured_rows stream p.core.channels h.0) (ensured_given stream p.core.channels)

    closes_again : (found : Option ℕ) (stream : ℕ) (pending : Bool) (streams : SctpStreams S) (p q : PolledPeer I D S M N)
        → channel_over stream p.core.channels ≡ found → PollsStreams m.association p.core.sctp (Ok (Some (event.Close stream pending))) streams
        → ClosesChannelOver {I = I} {D = D} {S = S} {M = M} {E = E} {N = N} found pending (with_sctp streams p) Again q → Before p q
    closes_again (Some id) stream pending streams p q is polled h = absurd (no_event _ h.0)
    closes_again None stream pending streams p q is polled h =
        idle_before (Ok (Some (event.Close stream pending))) streams p (with_sctp streams p) q polled h.1 refl
        (closed_row (channel_over stream p.core.channels) None pending p.core.channels p.core.channels is (refl, refl)) (refl, refl)

    hears_again : (found : Option ℕ) (stream : ℕ) (binary : Bool) (bytes : List ℕ) (streams : SctpStreams S) (p q : PolledPeer I D S M N)
        → PollsStreams m.association p.core.sctp (Ok (Some (event.Data stream binary bytes))) streams
        → HearsChannelOver {I = I} {D = D} {S = S} {M = M} {E = E} {N = N} found binary bytes (with_sctp streams p) Again q → Before p q
    hears_again (Some id) stream binary bytes streams p q polled h = absurd (no_event _ h.0)
    hears_again None stream binary bytes streams p q polled h =
        idle_before (Ok (Some (event.Data stream binary bytes))) streams p (with_sctp streams p) q polled h.1 refl (refl, refl) (refl, refl)

    falls_again : (found : Option ℕ) (stream : ℕ) (streams : SctpStreams S) (p q : PolledPeer I D S M N)
        → PollsStreams m.association p.core.sctp (Ok (Some (event.BufferedAmountLow stream))) streams
        → FallsChannelOver {I = I} {D = D} {S = S} {M = M} {E = E} {N = N} found (with_sctp streams p) Again q → Before p q
    falls_again (Some id) stream streams p q polled h = absurd (no_event _ h.0)
    falls_again None stream streams p q polled h =
        idle_before (Ok (Some (event.BufferedAmountLow stream))) streams p (with_sctp streams p) q polled h.1 refl (refl, refl) (refl, refl)

    lost_again : (p q : PolledPeer I D S M N) → LosesAssociation m p Again q → ⊥
    unfolding LosesAssociation
    lost_again p q h = h

    event_again : (e : SctpEvent) (streams : SctpStreams S) (p q : PolledPeer I D S M N) → PollsStreams m.association p.core.sctp (Ok (Some e)) streams
        → TakesStreamEvent m e (with_sctp streams p) Again q → Before p q
    event_again (event.Transmit packets) streams p q polled h = absurd (no_nothing h.0)
    event_again (event.Open stream label) streams p q polled h = opens_again stream label streams p q polled h
    event_again (event.Close stream pending) streams p q polled h =
        closes_again (channel_over stream p.core.channels) stream pending streams p q refl polled h
    event_again (event.StreamResetComplete stream) streams p q polled h =
        idle_before (Ok (Some (event.StreamResetComplete stream))) streams p
        (with_channels (reset_completed stream p.core.channels) (with_sctp streams p)) q polled h.1 refl (refl, refl) (refl, refl)
    event_again (event.Data stream binary bytes) streams p q polled h =
        hears_again (channel_over stream p.core.channels) stream binary bytes streams p q polled h
    event_again (event.BufferedAmountLow stream) streams p q polled h =
        falls_again (channel_over stream p.core.channels) stream streams p q polled h
    event_again event.AssociationLost streams p q polled h = absurd (lost_again (with_sctp streams p) q h)

    turn_again : (answer : Result (Option SctpEvent) AllocError) (streams : SctpStreams S) (p q : PolledPeer I D S M N)
        → PollsStreams m.association p.core.sctp answer streams → TakesStreamAnswer m answer (with_sctp streams p) Again q → Before p q
    turn_again (Ok None) streams p q polled h = absurd (no_nothing h.0)
    turn_again (Ok (Some e)) streams p q polled h = event_again e streams p q polled h
    turn_again (Err error) streams p q polled h = absurd (no_error _ h.0)

    -- ---- the streams

    put_before : (p b : PolledPeer I D S M N) (r : Met E) (q : PolledPeer I D S M N) → Before p b → LastPoll b r q → LastPoll p r q
    put_before p b r q first h = record {
      between = h.between;
      before = before_on p b h.between first h.before;
      told = h.told;
      streams = h.streams;
      polled = h.polled;
      taken = h.taken;
    }

    turns_before : (stage : Stage (PolledPeer I D S M N) E) → ((p q : PolledPeer I D S M N) → stage p Again q → Before p q) → (turns : ℕ)
        (p q : PolledPeer I D S M N) → StartsOver stage turns p q → Before p q
    turns_before stage again zero p q h = before_none p q h
    turns_before stage again (suc turns) p q h = before_on p h.0 q (turns_before stage again turns p h.0 h.1.0) (again h.0 q h.1.1)

    repeats_traced : (stage : Stage (PolledPeer I D S M N) E) → ((p q : PolledPeer I D S M N) → stage p Again q → Before p q) → IsTraced stage
        → IsTraced (RepeatsStage stage)
    repeats_traced stage again one p r q h e =
        put_before p h.last r q (turns_before stage again h.turns p h.last h.over) (one h.last r q h.ends e)

    traced_answer : (answer : Result (Option SctpEvent) AllocError) (streams : SctpStreams S) (p : PolledPeer I D S M N) (r : Met E) (q : PolledPeer I D S M N)
        → PollsStreams m.association p.core.sctp answer streams → TakesStreamAnswer m answer (with_sctp streams p) r q → is_channel_met r ≡ true
        → LastPoll p r q
    traced_answer (Ok None) streams p r q polled h e = absurd (clash (is_channel_met r) (ap is_channel_met h.0) e)
    traced_answer (Ok (Some told)) streams p r q polled h e =
        record { between = p; before = before_none p p refl; told = told; streams = streams; polled = polled; taken = h }
    traced_answer (Err error) streams p r q polled h e = absurd (clash (is_channel_met r) (ap is_channel_met h.0) e)

    events_traced : IsTraced (PollsStreamEvents m)
    events_traced =
        repeats_traced (PollsStreamEvent m) (λ p q h. turn_again h.answer h.streams p q h.by_poll h.by_answer)
        (λ p r q h e. traced_answer h.answer h.streams p r q h.by_poll h.by_answer e)

    -- a stage, behind which nothing reports such an event
    first_traced : (first rest : Stage (PolledPeer I D S M N) E) → IsTraced first → IsSilent m rest → IsTraced (FollowedBy first rest)
    first_traced first rest one other p r q (Stopped met stage) e = one p r q stage e
    first_traced first rest one other p r q (WentOn between stage after) e = absurd (clash (is_channel_met r) (other between r q after) e)

    -- a stage that reports none, and those behind it
    rest_traced : (first rest : Stage (PolledPeer I D S M N) E) → IsSilent m first → ((p q : PolledPeer I D S M N) → first p Nothing q → Before p q)
        → IsTraced rest → IsTraced (FollowedBy first rest)
    rest_traced first rest one went other p r q (Stopped met stage) e = absurd (clash (is_channel_met r) (one p r q stage) e)
    rest_traced first rest one went other p r q (WentOn between stage after) e =
        put_before p between r q (went p between stage) (other between r q after e)

    streams_traced : IsTraced (TellsStreams m)
    unfolding TellsStreams
    streams_traced = first_traced (PollsStreamEvents m) (SendsKeptPackets m) events_traced (λ p r q h. first_silent m p.core.sctp.pushed _ r q h)

    visits_traced : IsTraced (VisitsParts m)
    unfolding VisitsParts
    visits_traced =
        rest_traced (TellsConnection m) _ (connection_silent m)
        (λ p q h. before_quiet p q (quiet_nothing m p q (connection_acts m laws p Nothing q h)))
        (first_traced (TellsStreams m) _ streams_traced
        (else_silent m (TellsArrivals m) _ (arrivals_silent m)
        (else_silent m (SendsDatagrams m) StartsOverWhenDue (datagrams_silent m) (λ p r q h. over_silent m (is_dtls_due p) r h.0))))

    walks_traced : (p : PolledPeer I D S M N) (r : Met E) (q : PolledPeer I D S M N) → RepeatsStage (VisitsParts m) p r q → is_channel_met r ≡ true
        → LastPoll p r q
    walks_traced =
        repeats_traced (VisitsParts m) (λ p q h. before_quiet p q (quiet_again m p q (visits_act m laws p Again q h))) visits_traced

    -- ---- polls

    no_moment : (e : Event E) (moment : ℕ) → ◌≡◌ {A = Result (Output E) RtcError} (Ok (outputs.Event e)) (Ok (outputs.Timeout moment)) → ⊥
    no_moment e moment h = cc

    no_transmit : (e : Event E) (transmit : _) → ◌≡◌ {A = Result (Output E) RtcError} (Ok (outputs.Event e)) (Ok (outputs.Transmit transmit)) → ⊥
    no_transmit e transmit h = cc

    no_refusal : (e : Event E) (error : RtcError) → ◌≡◌ {A = Result (Output E) RtcError} (Ok (outputs.Event e)) (Err error) → ⊥
    no_refusal e error h = cc

    event_is : (e f : Event E) → ◌≡◌ {A = Result (Output E) RtcError} (Ok (outputs.Event e)) (Ok (outputs.Event f)) → f ≡ e
    event_is e f h = cc

    waits_not : (complete : Bool) (e : Event E) (p q : PolledPeer I D S M N) → WaitsIf m complete p (Ok (outputs.Event e)) q → ⊥
    waits_not true e p q h = no_moment e _ h.0
    waits_not false e p q h = no_moment e _ h.0

    met_traced : (met : Met E) (e : Event E) (p b q : PolledPeer I D S M N) → RepeatsStage (VisitsParts m) p met b
        → AnswersMet m met b (Ok (outputs.Event e)) q → is_channel_event e ≡ true → LastPoll p (MetEvent e) q
    met_traced Nothing e p b q h answers k = absurd (waits_not (is_closing_complete m b) e b q answers)
    met_traced Again e p b q h answers k = absurd answers
    met_traced (Transmit transmit) e p b q h answers k = absurd (no_transmit e transmit answers.0)
    met_traced (Error error) e p b q h answers k = absurd (no_refusal e error answers.0)
    met_traced (MetEvent f) e p b q h answers k =
        let same : f ≡ e = event_is e f answers.0 in
        subst (λ (x : PolledPeer I D S M N). LastPoll p (MetEvent e) x) (sym answers.1)
        (walks_traced p (MetEvent e) b (subst (λ (x : Event E). RepeatsStage (VisitsParts m) p (MetEvent x) b) same h) k)

    from_phase : (phase : Phase) (e : Event E) (p q : PolledPeer I D S M N) → PollsPeerFrom m phase p (Ok (outputs.Event e)) q → is_channel_event e ≡ true
        → LastPoll p (MetEvent e) q
    from_phase Alive e p q h k = met_traced h.met e p h.visited q h.by_visits h.by_answer k
    from_phase Closing e p q h k = met_traced h.met e p h.visited q h.by_visits h.by_answer k
    from_phase Closed e p q h k = absurd (no_moment e _ h.0)

    pub poll_traced : (e : Event E) (p q : PolledPeer I D S M N) → PollsPeer m p (Ok (outputs.Event e)) q → is_channel_event e ≡ true
        → LastPoll p (MetEvent e) q
    poll_traced e p q h k = from_phase p.core.phase e p q h k
