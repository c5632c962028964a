-- A walk that starts over has drained the input of DTLS, and from then on each visit that starts over leaves less to do: a packet of the
-- association was sent, or a moment of DTLS has come that is handed over next.
use Rattle.std.proofs.Common.{if◌then◌else◌, ◌≡◌, ◌<◌, ◌≤◌, ◌+◌, ◌*◌, ◌⊎◌, inl, inr, ℕ, Bool, true, false, List, []}
use Rattle.std.proofs.Common.{◌∷◌, Option, Some, None, Result, refl, sym, ap, subst, ◌∙◌, arith}
use Rattle.rtc_parts.specs.DtlsLaws.{DtlsLaws}
use Rattle.rtc_parts.specs.DtlsState.{DtlsState, GivesPacket}
use Rattle.rtc_parts.specs.declared.dtls_error.DtlsError.{DtlsError}
use Rattle.rtc_peer_transport.specs.declared.transport.Transport.{Transport}
use Rattle.rtc_peer_core.specs.Meanings.{Meanings}
use Rattle.rtc_peer_transport.specs.declared.met.Met.{Met}
use Rattle.rtc_peer_transport.specs.declared.met.Met.TheVariants.{Nothing, Again}
use Rattle.rtc_peer_transport.specs.declared.polled_peer.PolledPeer.{PolledPeer}
use Rattle.rtc_peer_transport.specs.declared.send_addr.SendAddr.{SendAddr}
use Rattle.rtc_peer_polling.specs.DtlsStages.{is_dtls_due}
use Rattle.rtc_peer_polling.specs.MediaStages.{TellsMedia, TellsFallibleMedia}
use Rattle.rtc_peer_polling.specs.SendStages.{SendsChecks, SendsDtlsPacket, SendsMediaDatagram, SendsBy, SendsByPair}
use Rattle.rtc_peer_transport.specs.Stages.{FollowedBy, Stopped, WentOn}
use Rattle.rtc_peer_transport.specs.Statistics.{TellsStatistics}
use Rattle.rtc_peer_transport.proofs.StatisticsTurns.{statistics_told, statistics_never}
use Rattle.rtc_peer_polling.specs.Walk.{StartsOverWhenDue, TellsConnection, TellsArrivals, SendsDatagrams, VisitsParts}
use Rattle.rtc_peer_transport.proofs.StageLemmas.{NeverAgain, repeats_never, went_through, else_again, else_never}
use Rattle.rtc_peer_polling.proofs.DueMoments.{KeepsMoments, due_kept, keeps_as, keeps_join, arrivals_keep, datagrams_keep}
use Rattle.rtc_parts.specs.AssociationLaws.{AssociationLaws}
use Rattle.rtc_sctp.specs.Streams.{SctpStreams}
use Rattle.rtc_peer_polling.specs.StreamStages.{PollsStreamEvent, PollsStreamEvents, SendsKeptPackets, TellsStreams}
use Rattle.rtc_peer_polling.proofs.SettledMoments.{connection_settles, connection_never}
use Rattle.rtc_peer_polling.proofs.DrainedInput.{input_of, input_left, SameParts, parts_by, parts_on, input_same, connection_drains, connection_quiet}
use Rattle.rtc_peer_polling.proofs.StreamWork.{sctp_work}
use Rattle.rtc_peer_polling.proofs.StreamTurns.{peer_work, SentData, streams_polled, kept_stay, kept_relayed}

abbrev pub left_if : Bool → ℕ
left_if true = 0
left_if false = 1

is_again : {E : Type 0} (b : Bool) → ◌≡◌ {A = Met E} Again (if b then Again else Nothing) → b ≡ true
is_again true e = refl
is_again false e = cc (e)

left_at_most : (b : Bool) → left_if b ≤ 1
left_at_most true = omega arith
left_at_most false = omega arith

module _ {I D S M E X T W N : Type 0} (m : Meanings I D S M E X T W N) where
  -- what a walk that started over still has to do
  abbrev pub visits_left : PolledPeer I D S M N → ℕ
  visits_left p = 2 * peer_work m p + left_if (is_dtls_due p)

  arrivals_same : (p q : PolledPeer I D S M N) → TellsArrivals m p Nothing q → SameParts m p q
  unfolding TellsArrivals TellsMedia TellsFallibleMedia
  arrivals_same p q h =
      let met = went_through (TellsMedia m) _ p q h in
      let more = went_through (TellsFallibleMedia m) TellsStatistics met.0 q met.1.1 in
      parts_on m p met.0 q (parts_by m p _ met.0 met.1.0.1 (refl, refl))
      (parts_on m met.0 more.0 q (parts_by m met.0 _ more.0 more.1.0.1 (refl, refl))
      (parts_by m more.0 _ q (statistics_told more.0 Nothing q more.1.1) (refl, refl)))

  no_packet : (packets : List (List ℕ)) (d e : DtlsState D) → GivesPacket m.dtls d packets None e → e ≡ d
  no_packet [] d e h = h
  no_packet (packet ∷ packets) d e h = absurd h

  pair_same : (send_addr : Option SendAddr) (p q : PolledPeer I D S M N) → SendsBy m send_addr p Nothing q → SameParts m p q
  unfolding SendsDtlsPacket SendsMediaDatagram
  pair_same None p q sends = parts_by m p _ q sends.2 (refl, refl)
  pair_same (Some addr) p q sends =
      let met = went_through (SendsDtlsPacket m addr) (SendsMediaDatagram m addr) p q sends in
      parts_on m p met.0 q
      (no_packet p.core.dtls.packets p.core.dtls met.0.core.dtls met.1.0.0, ap (λ (x : PolledPeer I D S M N). x.core.sctp) met.1.0.1)
      (parts_by m met.0 _ q met.1.1.1 (refl, refl))

  datagrams_same : (p q : PolledPeer I D S M N) → SendsDatagrams m p Nothing q → SameParts m p q
  unfolding SendsDatagrams SendsChecks
  datagrams_same p q h =
      let met = went_through (SendsChecks m) (SendsByPair m) p q h in
      parts_on m p met.0 q (parts_by m p _ met.0 met.1.0.1 (refl, refl)) (pair_same met.0.transport.send_addr met.0 q met.1.1)

  arrivals_never : NeverAgain (TellsArrivals m)
  unfolding TellsArrivals TellsMedia TellsFallibleMedia
  arrivals_never =
      else_never (TellsMedia m) _ (λ p q h. h) (else_never (TellsFallibleMedia m) TellsStatistics (λ p q h. h) (statistics_never E))

  pair_never : (send_addr : Option SendAddr) (p q : PolledPeer I D S M N) → SendsBy m send_addr p Again q → ⊥
  unfolding SendsDtlsPacket SendsMediaDatagram
  pair_never None p q sends = cc (sends.0)
  pair_never (Some addr) p q sends = else_never (SendsDtlsPacket m addr) (SendsMediaDatagram m addr) (λ a b h. h) (λ a b h. h) p q sends

  datagrams_never : NeverAgain (SendsDatagrams m)
  unfolding SendsDatagrams SendsChecks
  datagrams_never = else_never (SendsChecks m) (SendsByPair m) (λ p q h. h) (λ p q h. pair_never p.transport.send_addr p q h)

  -- why a visit starts over, once the connection met nothing: a packet was sent, or a moment has come
  pub data StartsAgain (p q : PolledPeer I D S M N) : Type 0 where
    ByPacket : (between : PolledPeer I D S M N) → PollsStreamEvents m p Nothing between → SendsKeptPackets m between Again q → StartsAgain p q
    ByMoment : (polled : PolledPeer I D S M N) → (sent : PolledPeer I D S M N) → PollsStreamEvents m p Nothing polled
        → SendsKeptPackets m polled Nothing sent → KeepsMoments sent q → SameParts m sent q → is_dtls_due q ≡ true → StartsAgain p q

  later_moment : (p q : PolledPeer I D S M N) → TellsStreams m p Nothing q → (last : PolledPeer I D S M N) → KeepsMoments q last → SameParts m q last
      → is_dtls_due last ≡ true → StartsAgain p last
  unfolding TellsStreams
  later_moment p q h last moments parts due =
      let met = went_through (PollsStreamEvents m) (SendsKeptPackets m) p q h in
      ByMoment met.0 q met.1.0 met.1.1 moments parts due

  streams_again : (p q : PolledPeer I D S M N) → TellsStreams m p Again q → StartsAgain p q
  unfolding TellsStreams
  streams_again p q h =
      let met = else_again (PollsStreamEvents m) (SendsKeptPackets m) (repeats_never (PollsStreamEvent m)) p q h in
      ByPacket met.0 met.1.0 met.1.1

  rest_again : (p q : PolledPeer I D S M N) → FollowedBy (TellsArrivals m) (FollowedBy (SendsDatagrams m) StartsOverWhenDue) p Again q
      → KeepsMoments p q × (SameParts m p q × (is_dtls_due q ≡ true))
  rest_again p q h =
      let second = else_again (TellsArrivals m) (FollowedBy (SendsDatagrams m) StartsOverWhenDue) arrivals_never p q h in
      let third = else_again (SendsDatagrams m) StartsOverWhenDue datagrams_never second.0 q second.1.1 in
      let due = is_again {E = E} (is_dtls_due third.0) third.1.1.0 in (
        keeps_as p third.0 q third.1.1.1
            (keeps_join p second.0 third.0 (arrivals_keep m p second.0 second.1.0) (datagrams_keep m second.0 third.0 third.1.0)),
        (
          parts_by m p third.0 q third.1.1.1
              (parts_on m p second.0 third.0 (arrivals_same p second.0 second.1.0) (datagrams_same second.0 third.0 third.1.0)),
          subst (λ (x : PolledPeer I D S M N). is_dtls_due x ≡ true) {x = third.0} (sym {b = third.0} third.1.1.1) due,
        ),
      )

  after_connection : (p q : PolledPeer I D S M N)
      → FollowedBy (TellsStreams m) (FollowedBy (TellsArrivals m) (FollowedBy (SendsDatagrams m) StartsOverWhenDue)) p Again q → StartsAgain p q
  after_connection p q (Stopped met stage) = streams_again p q stage
  after_connection p q (WentOn between stage after) =
      let rest = rest_again between q after in
      later_moment p between stage q rest.0 rest.1.0 rest.1.1

  -- what a visit that starts over is
  starts_over : (p q : PolledPeer I D S M N) → VisitsParts m p Again q
      → (between : PolledPeer I D S M N) × (TellsConnection m p Nothing between × StartsAgain between q)
  unfolding VisitsParts
  starts_over p q h =
      let first = else_again (TellsConnection m) _ (connection_never m) p q h in
      (first.0, (first.1.0, after_connection first.0 q first.1.1))

  module _ (dtls : DtlsLaws m.dtls) (association : AssociationLaws m.association) where
    sent_input_by : (active : Option Bool) (d e : DtlsState D)
        → (e ≡ d) ⊎ ((bytes : List ℕ) × (r : Result (Unit {0}) DtlsError) × m.dtls.sent d.instance bytes r e.instance)
        → input_of m.dtls active e.instance ≤ input_of m.dtls active d.instance
    sent_input_by None d e how = omega arith
    sent_input_by (Some active) d e (inl same) = omega (arith, ap (λ (x : DtlsState D). m.dtls.units x.instance) same)
    sent_input_by (Some active) d e (inr how) = dtls.sent_input d.instance e.instance how.0 how.1 how.2

    sent_input : (d e : DtlsState D) → SentData m d e → input_of m.dtls e.active e.instance ≤ input_of m.dtls d.active d.instance
    sent_input d e sent = omega (arith, ap (λ (a : Option Bool). input_of m.dtls a e.instance) sent.0, sent_input_by d.active d e sent.1)

    still_drained : (p q : PolledPeer I D S M N) → input_left m p ≡ 0 → StartsAgain p q → input_left m q ≡ 0
    still_drained p q none (ByPacket between polled sent) =
        let before = ap (λ (d : DtlsState D). input_of m.dtls d.active d.instance) (streams_polled m association p between polled).dtls in
        let after = sent_input between.core.dtls q.core.dtls (kept_relayed m between q sent).sent in
        omega (arith, none, before, after)
    still_drained p q none (ByMoment polled sent events packets moments parts due) =
        let before = ap (λ (d : DtlsState D). input_of m.dtls d.active d.instance) (streams_polled m association p polled events).dtls in
        let between = ap (λ (d : DtlsState D). input_of m.dtls d.active d.instance) (kept_stay m polled sent packets).2 in
        omega (arith, none, before, between, input_same m sent q parts)

    -- a visit that starts over has drained the input of DTLS
    pub again_drains : (p q : PolledPeer I D S M N) → VisitsParts m p Again q → input_left m q ≡ 0
    again_drains p q h =
        let over = starts_over p q h in
        still_drained over.0 q (connection_drains m dtls p over.0 over.1.0) over.1.1

    -- the moments stayed from the connection on
    due_as_before : (p polled sent q : PolledPeer I D S M N) → PollsStreamEvents m p Nothing polled → SendsKeptPackets m polled Nothing sent
        → KeepsMoments sent q → is_dtls_due q ≡ is_dtls_due p
    due_as_before p polled sent q events packets moments =
        let turns = streams_polled m association p polled events in
        let stay = kept_stay m polled sent packets in
        due_kept p q
        (keeps_join p polled q (ap (λ (t : Transport). t.dtls_wake) turns.transport, turns.greatest)
        (keeps_join polled sent q (ap (λ (t : Transport). t.dtls_wake) stay.0, stay.1) moments))

    falls_by : (due : Bool) (p between q : PolledPeer I D S M N) → is_dtls_due p ≡ due → TellsConnection m p Nothing between
        → between.core.sctp ≡ p.core.sctp → StartsAgain between q → visits_left q < visits_left p
    falls_by due p between q is met same (ByPacket polled events sent) =
        let work = ap (λ (x : SctpStreams S). sctp_work m.association x) same in
        let turns = streams_polled m association between polled events in
        let relayed = kept_relayed m polled q sent in
        omega (arith, work, turns.work, relayed.work, left_at_most (is_dtls_due q))
    falls_by true p between q is met same (ByMoment polled sent events packets moments parts due) =
        let settled = connection_settles m dtls p between is met in
        absurd (let no : true ≡ false = sym due ∙ due_as_before between polled sent q events packets moments ∙ settled in cc)
    falls_by false p between q is met same (ByMoment polled sent events packets moments parts due) =
        let work = ap (λ (x : SctpStreams S). sctp_work m.association x) same in
        let turns = streams_polled m association between polled events in
        let stay = ap (λ (x : SctpStreams S). sctp_work m.association x) (kept_stay m polled sent packets).3 in
        let rests = ap (λ (x : SctpStreams S). sctp_work m.association x) parts.1 in
        omega (arith, work, turns.work, stay, rests, ap left_if due, ap left_if is)

    -- each further visit that starts over leaves less to do
    pub visits_fall : (p q : PolledPeer I D S M N) → input_left m p ≡ 0 → VisitsParts m p Again q → visits_left q < visits_left p
    visits_fall p q none h =
        let over = starts_over p q h in
        falls_by (is_dtls_due p) p over.0 q refl over.1.0 (connection_quiet m dtls p over.0 none over.1.0) over.1.1
