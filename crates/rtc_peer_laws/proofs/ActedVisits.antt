-- What one visit of all parts does to them.
use Rattle.std.proofs.Common.{if◌then◌else◌, ◌≡◌, ◌∷◌, inr, ℕ, Bool, true, false, List, [], Option, Some, None, Ok, Err, refl, sym, ap, subst, ◌∙◌}
use Rattle.rtc_parts.specs.Why.{Other}
use Rattle.rtc_parts.specs.Among.{Among}
use Rattle.rtc_parts.proofs.AmongLemmas.{among_none, among_self}
use Rattle.rtc_parts.specs.DtlsState.{DtlsState, GivesPacket}
use Rattle.rtc_parts.specs.IceActs.{Taken as IceTaken, ice_moved-one}
use Rattle.rtc_parts.specs.declared.media_error.MediaError.TheVariants.{Alloc as MediaAlloc}
use Rattle.rtc_parts.specs.MediaActs.{MediaTaken, MediaStirred, EventTold, FallibleTold, FeedbackCleared, StirsMedia, media_moved-one}
use Rattle.rtc_sctp_laws.specs.StreamMessages.{pushed_packets}
use Rattle.rtc_peer_core.specs.declared.rtc_error.RtcError.TheVariants.{Media, Alloc}
use Rattle.rtc_peer_core.specs.Meanings.{Meanings, PartsLaws}
use Rattle.rtc_peer_transport.specs.declared.event.Event.TheVariants as told
use Rattle.rtc_peer_transport.specs.declared.met.Met.{Met}
use Rattle.rtc_peer_transport.specs.declared.met.Met.TheVariants.{Nothing, Again, Transmit, Event as MetEvent, Error}
use Rattle.rtc_peer_transport.specs.declared.polled_peer.PolledPeer.{PolledPeer}
use Rattle.rtc_peer_transport.specs.declared.send_addr.SendAddr.{SendAddr}
use Rattle.rtc_peer_polling.specs.DtlsStages.{is_dtls_due}
use Rattle.rtc_peer_polling.specs.MediaStages.{TellsMedia, TellsFallibleMedia}
use Rattle.rtc_peer_polling.specs.SendStages.{SendsChecks, SendsDtlsPacket, SendsMediaDatagram, SendsBy, SendsByPair}
use Rattle.rtc_parts.specs.declared.stats_event.StatsEvent.{StatsEvent}
use Rattle.rtc_parts.specs.declared.stats_event.StatsEvent.TheVariants as reports
use Rattle.rtc_config.specs.Stats.{Reporting}
use Rattle.rtc_peer_transport.specs.Statistics.{TellsReport, TellsReportOf, TellsStatistics}
use Rattle.rtc_peer_polling.specs.StreamStages.{TellsStreams}
use Rattle.rtc_peer_polling.specs.Walk.{StartsOverWhenDue, TellsConnection, TellsArrivals, SendsDatagrams, VisitsParts}
use Rattle.rtc_peer_laws.specs.PeerActs.{peer_acts, nothing_came, queue_and_role}
use Rattle.rtc_peer_laws.specs.Acts.{PeerDid}
use Rattle.rtc_peer_laws.proofs.ActJoins.{ice_did, media_did}
use Rattle.rtc_peer_laws.proofs.ActedClosing.{beside, BesideIce, BesideMedia}
use Rattle.rtc_peer_laws.proofs.ActedConnection.{connection_acts}
use Rattle.rtc_peer_laws.proofs.ActedStreams.{streams_act}
use Rattle.rtc_peer_laws.proofs.StreamsJoin.{ice_kept, media_kept, states_by}
use Rattle.rtc_peer_laws.proofs.VisitActs.{VisitDid, plain_visit, still_visit, visit_is, StageActs, else_acts}

module _ {I D S M E X T W N : Type 0} (m : Meanings I D S M E X T W N) (laws : PartsLaws m) where
  -- events of the media part
  stirred_did : (p q : PolledPeer I D S M N) → StirsMedia m.media p.core.media q.core.media → BesideMedia p q
      → PeerDid m nothing_came (p.core.greatest ∷ []) [] [] [] p q
  stirred_did p q h kept =
      media_did m nothing_came (p.core.greatest ∷ []) [] p q (MediaStirred Other ∷ [])
      (media_moved-one m.media p.core.media q.core.media (MediaStirred Other) (inr (inr h))) (among_none []) (among_none (p.core.greatest ∷ []))
      (among_none []) kept.0 (ap (λ d. d.instance) kept.1) (ap queue_and_role kept.1) kept.2

  media_still : (p n q : PolledPeer I D S M N) → q ≡ n → n.core.media ≡ p.core.media → BesideMedia p n → VisitDid m p Nothing q
  media_still p n q is media kept =
      still_visit m Nothing Nothing p n q refl is (refl, λ held. refl, tt)
      ((kept.0, ap (λ d. d.instance) kept.1, ap queue_and_role kept.1, kept.2, media), kept.3, kept.4)

  told_acts : StageActs m laws.association (TellsMedia m)
  unfolding TellsMedia
  told_acts p Nothing q h = media_still p _ q h.1 (laws.media.event_none p.core.media q.core.media h.0) (refl, refl, refl, refl, refl)
  told_acts p (MetEvent (told.Media event)) q h =
      let kept = beside BesideMedia p _ q h.1 (refl, refl, refl, refl, refl) in
      plain_visit m (MetEvent (told.Media event)) p q (stirred_did p q (EventTold event h.0) kept) refl kept.3 tt (media_kept m.association p q kept) tt
  told_acts p _ q h = absurd h

  fallible_acts : StageActs m laws.association (TellsFallibleMedia m)
  unfolding TellsFallibleMedia
  fallible_acts p Nothing q h =
      media_still p _ q h.1 (laws.media.fallible_none p.core.media q.core.media p.core.greatest h.0) (refl, refl, refl, refl, refl)
  fallible_acts p (MetEvent (told.Media event)) q h =
      let kept = beside BesideMedia p _ q h.1 (refl, refl, refl, refl, refl) in
      plain_visit m (MetEvent (told.Media event)) p q (stirred_did p q (FallibleTold p.core.greatest (Ok (Some event)) h.0) kept) refl kept.3 tt (media_kept m.association p q kept) tt
  fallible_acts p (Error (Media cause)) q h =
      let kept = beside BesideMedia p _ q h.2 (refl, refl, refl, refl, refl) in
      plain_visit m (Error (Media cause)) p q (stirred_did p q (FallibleTold p.core.greatest (Err cause) h.1) kept) refl kept.3 tt (media_kept m.association p q kept) tt
  fallible_acts p (Error Alloc) q h =
      let kept = beside BesideMedia p _ q h.1 (refl, refl, refl, refl, refl) in
      plain_visit m (Error Alloc) p q (stirred_did p q (FallibleTold p.core.greatest (Err MediaAlloc) h.0) kept) refl kept.3 tt (media_kept m.association p q kept) tt
  fallible_acts p _ q h = absurd h

  -- statistics
  report_acts : (events : List StatsEvent) (stats : Reporting) (p : PolledPeer I D S M N) (r : Met E) (q : PolledPeer I D S M N)
      → TellsReport events stats p r q → VisitDid m p r q
  report_acts [] stats p r q h =
      still_visit m Nothing r p p q h.0 h.1 (refl, λ held. refl, tt) ((refl, refl, refl, refl, refl), refl, refl)
  report_acts (reports.Peer report ∷ events) stats p r q h =
      still_visit m (MetEvent (told.PeerStats report)) r p _ q h.0 h.1 (refl, λ held. refl, tt) ((refl, refl, refl, refl, refl), refl, refl)
  report_acts (reports.MediaIngress report ∷ events) stats p r q h =
      still_visit m (MetEvent (told.MediaIngressStats report)) r p _ q h.0 h.1 (refl, λ held. refl, tt) ((refl, refl, refl, refl, refl), refl, refl)
  report_acts (reports.MediaEgress report ∷ events) stats p r q h =
      still_visit m (MetEvent (told.MediaEgressStats report)) r p _ q h.0 h.1 (refl, λ held. refl, tt) ((refl, refl, refl, refl, refl), refl, refl)

  report_acts_of : (stats : Option Reporting) (p : PolledPeer I D S M N) (r : Met E) (q : PolledPeer I D S M N)
      → TellsReportOf stats p r q → VisitDid m p r q
  report_acts_of None p r q h = still_visit m Nothing r p p q h.0 h.1 (refl, λ held. refl, tt) ((refl, refl, refl, refl, refl), refl, refl)
  report_acts_of (Some stats) p r q h = report_acts stats.events stats p r q h

  statistics_act : StageActs m laws.association (TellsStatistics {I = I} {D = D} {S = S} {M = M} {E = E} {N = N})
  unfolding TellsStatistics
  statistics_act p r q h = report_acts_of p.transport.stats p r q h

  pub arrivals_act : StageActs m laws.association (TellsArrivals m)
  unfolding TellsArrivals
  arrivals_act =
      else_acts m laws.association (TellsMedia m) _ told_acts
      (else_acts m laws.association (TellsFallibleMedia m) TellsStatistics fallible_acts statistics_act)

  -- datagrams
  checks_act : StageActs m laws.association (SendsChecks m)
  unfolding SendsChecks
  checks_act p Nothing q h =
      still_visit m Nothing Nothing p _ q refl h.1 (refl, λ held. refl, tt)
      ((laws.ice.transmit_none p.core.ice q.core.ice h.0, refl, refl, refl, refl), refl, refl)
  checks_act p (Transmit transmit) q h =
      let kept = beside BesideIce p _ q h.1 (refl, refl, refl, refl, refl) in
      plain_visit m (Transmit transmit) p q
      (ice_did m nothing_came (p.core.greatest ∷ []) (transmit.contents ∷ []) p q (IceTaken transmit ∷ [])
      (ice_moved-one m.ice p.core.ice q.core.ice (IceTaken transmit) h.0) (among_none []) (among_none (p.core.greatest ∷ []))
      (among_self (transmit.contents ∷ [])) (ap (λ d. d.instance) kept.0) (ap queue_and_role kept.0) kept.1 kept.2) refl kept.3 tt (ice_kept m.association p q kept) tt
  checks_act p _ q h = absurd h

  -- the oldest packet that stands to be shown is shown
  given_packet : (packets : List (List ℕ)) (packet : List ℕ) (d e : DtlsState D) → d.packets ≡ packets → GivesPacket m.dtls d packets (Some packet) e
      → (d.packets ≡ packet ∷ e.packets) × (e.instance ≡ d.instance) × (e.active ≡ d.active)
  given_packet [] packet d e is h = absurd h
  given_packet (b ∷ packets) packet d e is h =
      (is ∙ ap (λ x. x ∷ packets) (sym h.0) ∙ ap (λ l. packet ∷ l) (sym (ap (λ (x : DtlsState D). x.packets) h.1)), ap (λ (x : DtlsState D). x.instance) h.1, ap (λ (x : DtlsState D). x.active) h.1)

  no_packet : (packets : List (List ℕ)) (d e : DtlsState D) → GivesPacket m.dtls d packets None e → e ≡ d
  no_packet [] d e h = h
  no_packet (b ∷ packets) d e h = absurd h

  packets_act : (addr : SendAddr) → StageActs m laws.association (SendsDtlsPacket m addr)
  unfolding SendsDtlsPacket
  packets_act addr p Nothing q h =
      let same = no_packet p.core.dtls.packets p.core.dtls q.core.dtls h.0 in
      still_visit m Nothing Nothing p _ q refl h.1 (refl, λ held. refl, tt)
      ((refl, ap (λ (x : DtlsState D). x.instance) same, ap queue_and_role same, refl, refl), refl, refl)
  packets_act addr p (Transmit transmit) q h =
      let given = given_packet p.core.dtls.packets transmit.contents p.core.dtls q.core.dtls refl h.1 in
      plain_visit m (Transmit transmit) p q
      (record {
        acts = peer_acts [] [] [] [];
        went = record {
          ice = ap (λ (x : PolledPeer I D S M N). x.core.ice) h.2;
          dtls = given.1;
          association = ap (λ (x : PolledPeer I D S M N). x.core.sctp.association) h.2;
          media = ap (λ (x : PolledPeer I D S M N). x.core.media) h.2;
        };
        given_ice = among_none [];
        given_dtls = among_none [];
        given_media = among_none [];
        timed_ice = among_none (p.core.greatest ∷ []);
        timed_dtls = among_none (p.core.greatest ∷ []);
        timed_media = among_none (p.core.greatest ∷ []);
        role = given.2;
        sent =
            subst (λ (l : List (List ℕ)). Among (transmit.contents ∷ q.core.dtls.packets) l) (sym given.0) (among_self (transmit.contents ∷ q.core.dtls.packets));
        handed = among_none [];
        all_handed = λ started. refl;
        relayed =
            subst (λ (l : List (List ℕ)). Among l (pushed_packets p.core.sctp.pushed)) (sym (ap (λ (x : PolledPeer I D S M N). pushed_packets x.core.sctp.pushed) h.2))
            (among_self (pushed_packets p.core.sctp.pushed));
        wrote_is = refl;
        heard_is = refl;
        named = λ n. tt;
      }) refl (ap (λ (x : PolledPeer I D S M N). x.core.greatest) h.2) tt
      (ap (λ (x : PolledPeer I D S M N). x.core.sctp.entries) h.2, ap (λ (x : PolledPeer I D S M N). x.core.channels) h.2, states_by m.association p.core.sctp _ q.core.sctp (ap (λ (x : PolledPeer I D S M N). x.core.sctp) h.2) refl refl refl) tt
  packets_act addr p _ q h = absurd h

  media_sent : (addr : SendAddr) → StageActs m laws.association (SendsMediaDatagram m addr)
  unfolding SendsMediaDatagram
  media_sent addr p Nothing q h =
      media_still p _ q h.1 (laws.media.datagram_none p.core.media q.core.media p.core.greatest h.0) (refl, refl, refl, refl, refl)
  media_sent addr p (Transmit transmit) q h =
      let kept = beside BesideMedia p _ q h.2 (refl, refl, refl, refl, refl) in
      plain_visit m (Transmit transmit) p q
      (media_did m nothing_came (p.core.greatest ∷ []) (transmit.contents ∷ []) p q (MediaTaken transmit.contents ∷ [])
      (media_moved-one m.media p.core.media q.core.media (MediaTaken transmit.contents) (p.core.greatest, h.1)) (among_none [])
      (among_none (p.core.greatest ∷ [])) (among_self (transmit.contents ∷ [])) kept.0 (ap (λ d. d.instance) kept.1) (ap queue_and_role kept.1) kept.2)
      refl kept.3 tt (media_kept m.association p q kept) tt
  media_sent addr p _ q h = absurd h

  pair_acts : (addr : Option SendAddr) (p : PolledPeer I D S M N) (r : Met E) (q : PolledPeer I D S M N) → SendsBy m addr p r q → VisitDid m p r q
  pair_acts (Some addr) p r q h =
      else_acts m laws.association (SendsDtlsPacket m addr) (SendsMediaDatagram m addr) (packets_act addr) (media_sent addr) p r q h
  pair_acts None p r q h =
      let kept = beside BesideMedia p _ q h.2 (refl, refl, refl, refl, refl) in
      visit_is m Nothing r p q h.0
      (plain_visit m Nothing p q (stirred_did p q (FeedbackCleared h.1) kept) refl kept.3 (ap (λ held. held.rows) kept.4) (media_kept m.association p q kept) tt)

  pub datagrams_act : StageActs m laws.association (SendsDatagrams m)
  unfolding SendsDatagrams
  datagrams_act =
      else_acts m laws.association (SendsChecks m) (SendsByPair m) checks_act (λ p r q h. pair_acts p.transport.send_addr p r q h)

  over_acts : (b : Bool) (p : PolledPeer I D S M N) (r : Met E) (q : PolledPeer I D S M N) → r ≡ (if b then Again else Nothing) → q ≡ p → VisitDid m p r q
  over_acts true p r q met is = still_visit m Again r p p q met is (refl, λ held. refl, tt) ((refl, refl, refl, refl, refl), refl, refl)
  over_acts false p r q met is = still_visit m Nothing r p p q met is (refl, λ held. refl, tt) ((refl, refl, refl, refl, refl), refl, refl)

  -- a visit of all parts
  pub visits_act : StageActs m laws.association (VisitsParts m)
  unfolding VisitsParts
  visits_act =
      else_acts m laws.association (TellsConnection m) _ (connection_acts m laws)
      (else_acts m laws.association (TellsStreams m) _ (streams_act m laws)
      (else_acts m laws.association (TellsArrivals m) _ arrivals_act
      (else_acts m laws.association (SendsDatagrams m) StartsOverWhenDue datagrams_act (λ p r q h. over_acts (is_dtls_due p) p r q h.0 h.1))))
