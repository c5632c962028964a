-- A visit of the parts of a peer that met nothing leaves it drained.
use Rattle.std.proofs.Common.{if◌then◌else◌, ◌≡◌, ◌≢◌, ◌-◌, ◌^◌, ℕ, Bool, true, false, List, [], ◌∷◌, Option, Some, None, Result, Ok, Err}
use Rattle.std.proofs.Common.{refl, sym, ap, subst, ◌∙◌, arith}
use Rattle.std.specs.declared.alloc.AllocError.{AllocError}
use Rattle.rtc_parts.specs.declared.ice_event.IceEvent.{IceEvent}
use Rattle.rtc_parts.specs.declared.ice_event.IceEvent.TheVariants.{IceRestart, StateChange, DiscoveredRecv, NominatedSend}
use Rattle.rtc_parts.specs.declared.dtls_output.DtlsOutput.{DtlsOutput}
use Rattle.rtc_parts.specs.declared.dtls_output.DtlsOutput.TheVariants as outputs
use Rattle.rtc_parts.specs.DtlsState.{DtlsState, PollsOutput, GivesPacket}
use Rattle.rtc_parts.specs.MediaMeaning.{held_media}
use Rattle.rtc_sctp.specs.Streams.{SctpStreams}
use Rattle.rtc_peer_core.specs.declared.phase.Phase.{Phase}
use Rattle.rtc_peer_core.specs.Meanings.{Meanings, PartsLaws}
use Rattle.rtc_peer_transport.specs.declared.handshake.Handshake.{Handshake}
use Rattle.rtc_peer_transport.specs.declared.handshake.Handshake.TheVariants.{Pending, Finished, Told}
use Rattle.rtc_peer_transport.specs.declared.met.Met.{Met}
use Rattle.rtc_peer_transport.specs.declared.met.Met.TheVariants.{Nothing, Again}
use Rattle.rtc_peer_transport.specs.declared.polled_peer.PolledPeer.{PolledPeer}
use Rattle.rtc_peer_transport.specs.declared.send_addr.SendAddr.{SendAddr}
use Rattle.rtc_peer_transport.specs.declared.transport.Transport.{Transport}
use Rattle.rtc_peer_transport.specs.Connection.{with_ice, with_dtls}
use Rattle.rtc_peer_polling.specs.DtlsStages.{TimesDtls, TakesDtlsOutput, TakesDtlsAnswer, PollsDtlsOutputs, TakesKeys, TakesCloseNotify, HandsPacket, ChecksCert}
use Rattle.rtc_peer_polling.specs.DtlsStages.{TellsConnected, TellsConnectedFrom, is_dtls_due}
use Rattle.rtc_peer_polling.specs.IceStages.{PollsIceEvents, TakesIceEvent, met_of_ice_event}
use Rattle.rtc_peer_polling.specs.MediaStages.{TellsMedia, TellsFallibleMedia}
use Rattle.rtc_peer_polling.specs.SendStages.{SendsChecks, SendsDtlsPacket, SendsMediaDatagram, SendsBy, SendsByPair}
use Rattle.rtc_peer_transport.specs.Stages.{FollowedBy}
use Rattle.rtc_config.specs.Stats.{Reporting}
use Rattle.rtc_peer_transport.specs.Statistics.{TellsStatistics}
use Rattle.rtc_peer_transport.proofs.StatisticsTurns.{HasNoReport, no_report_left, no_statistics_told}
use Rattle.rtc_peer_polling.specs.StreamStages.{TellsStreams}
use Rattle.rtc_peer_polling.specs.Walk.{StartsOverWhenDue, TellsConnection, TellsArrivals, SendsDatagrams, VisitsParts}
use Rattle.rtc_peer_transport.proofs.StageLemmas.{went_through}
use Rattle.rtc_peer_polling.proofs.RestingConnection.{DtlsRests}
use Rattle.rtc_peer_polling.proofs.RestingStages.{AreSent, WaitsOver, Drained}
use Rattle.rtc_peer_polling.proofs.KeptTurns.{outputs_kept, streams_kept, arrivals_kept}
use Rattle.rtc_peer_polling.proofs.DrainingStreams.{Stays, streams_drain}

-- the agent alone
abbrev only_ice : {I : Type 0} → Phase → I → I
only_ice phase ice = ice

event_meets : {E : Type 0} (event : IceEvent) → ◌≡◌ {A = Met E} Nothing (met_of_ice_event event) → ⊥
event_meets IceRestart h = cc (h)
event_meets (StateChange state) h = cc (h)
event_meets (DiscoveredRecv proto source) h = cc (h)
event_meets (NominatedSend proto source destination) h = cc (h)

not_due : {E : Type 0} (b : Bool) → ◌≡◌ {A = Met E} Nothing (if b then Again else Nothing) → b ≡ false
not_due true h = cc (h)
not_due false h = refl

module _ {I D S M E X T W N : Type 0} (m : Meanings I D S M E X T W N) (laws : PartsLaws m) where
  -- the agent gave no event, and no datagram
  ice_none : (event : Option IceEvent) (ice : I) (p q : PolledPeer I D S M N) → m.ice.polled p.core.ice event ice
      → TakesIceEvent {E = E} event (with_ice ice p) Nothing q → m.ice.polled q.core.ice None q.core.ice
  ice_none None ice p q polled taken =
      let same = laws.ice.event_none p.core.ice ice polled in
      let is : q.core.ice ≡ ice = ap (λ (x : PolledPeer I D S M N). x.core.ice) taken.1 in
      subst (λ (i : I). m.ice.polled i None i) (sym is) (subst (λ (i : I). m.ice.polled i None ice) (sym same) polled)
  ice_none (Some event) ice p q polled taken = absurd (event_meets {E = E} event taken.0)

  ice_drains : (p q : PolledPeer I D S M N) → PollsIceEvents m p Nothing q → m.ice.polled q.core.ice None q.core.ice
  ice_drains p q h = ice_none h.ends.event h.ends.ice h.last q h.ends.by_poll h.ends.by_event

  -- the connection gave nothing more, and its moment is kept
  output_left : (output : DtlsOutput) (p q : PolledPeer I D S M N) → TakesDtlsOutput m output p Nothing q
      → (moment : ℕ) × ((output ≡ outputs.Timeout moment) × (q.core.dtls ≡ p.core.dtls) × (q.transport.dtls_wake ≡ moment))
  unfolding ChecksCert TakesKeys TakesCloseNotify HandsPacket
  output_left outputs.Connected p q taken = cc (taken.0)
  output_left (outputs.KeyingMaterial key profile) p q taken = absurd taken
  output_left (outputs.PeerCert cert) p q taken = absurd taken
  output_left (outputs.ApplicationData bytes) p q taken = absurd taken
  output_left (outputs.Timeout moment) p q taken =
      (moment, (refl, ap (λ (x : PolledPeer I D S M N). x.core.dtls) taken.1, ap (λ (x : PolledPeer I D S M N). x.transport.dtls_wake) taken.1))
  output_left outputs.CloseNotify p q taken = absurd taken

  rests_by : (active : Option Bool) (output : DtlsOutput) (moment : ℕ) (d e : DtlsState D) → output ≡ outputs.Timeout moment
      → PollsOutput m.dtls d active (Ok output) e → DtlsRests m.dtls laws.dtls active e.instance moment
  rests_by None output moment d e is polled =
      let given : output ≡ outputs.Timeout (2 ^ 64 - 1) = cc (polled.0) in
      let both : outputs.Timeout moment ≡ outputs.Timeout (2 ^ 64 - 1) = sym is ∙ given in
      cc (both)
  rests_by (Some active) output moment d e is polled =
      let drains = (subst (λ (o : DtlsOutput). PollsOutput m.dtls d (Some active) (Ok o) e) is polled).0 in
      let same = laws.dtls.timeout_none drains.1.0 e.instance moment drains.1.1.1 in
      let none = laws.dtls.silent drains.1.0 e.instance moment drains.1.1.1 in
      let asked = laws.dtls.timeout_asks drains.1.0 e.instance moment drains.1.1.1 in
      (ap m.dtls.held same ∙ none, asked ∙ ap m.dtls.asks (sym same))

  kept_active : (active : Option Bool) (answer : Result DtlsOutput AllocError) (d e : DtlsState D) → PollsOutput m.dtls d active answer e
      → e.active ≡ d.active
  kept_active None answer d e polled = ap (λ (x : DtlsState D). x.active) polled.1
  kept_active (Some active) answer d e polled = ap (λ (x : DtlsState D). x.active) polled.1

  answer_left : (answer : Result DtlsOutput AllocError) (dtls : DtlsState D) (p q : PolledPeer I D S M N)
      → PollsOutput m.dtls p.core.dtls p.core.dtls.active answer dtls → TakesDtlsAnswer m answer (with_dtls dtls p) Nothing q
      → DtlsRests m.dtls laws.dtls q.core.dtls.active q.core.dtls.instance q.transport.dtls_wake
  answer_left (Ok output) dtls p q polled taken =
      let left = output_left output (with_dtls dtls p) q taken in
      let rests = rests_by p.core.dtls.active output left.0 p.core.dtls dtls left.1.0 polled in
      let role = kept_active p.core.dtls.active (Ok output) p.core.dtls dtls polled in
      let own = subst (λ (a : Option Bool). DtlsRests m.dtls laws.dtls a dtls.instance left.0) (sym role) rests in
      let kept = subst (λ (d : DtlsState D). DtlsRests m.dtls laws.dtls d.active d.instance left.0) (sym left.1.1) own in
      subst (λ (n : ℕ). DtlsRests m.dtls laws.dtls q.core.dtls.active q.core.dtls.instance n) (sym left.1.2) kept
  answer_left (Err error) dtls p q polled taken = cc (taken.0)

  outputs_drain : (p q : PolledPeer I D S M N) → PollsDtlsOutputs m p Nothing q
      → DtlsRests m.dtls laws.dtls q.core.dtls.active q.core.dtls.instance q.transport.dtls_wake
  outputs_drain p q h = answer_left h.ends.answer h.ends.dtls h.last q h.ends.by_poll h.ends.by_answer

  told_from : (handshake : Handshake) (p q : PolledPeer I D S M N) → p.transport.handshake ≡ handshake → TellsConnectedFrom {E = E} handshake p Nothing q
      → (q ≡ p) × (p.transport.handshake ≢ Finished)
  told_from Pending p q is h = (h.1, λ e. let clash : Pending ≡ Finished = sym is ∙ e in cc)
  told_from Finished p q is h = cc (h.0)
  told_from Told p q is h = (h.1, λ e. let clash : Told ≡ Finished = sym is ∙ e in cc)

  -- what the media part is once it told nothing
  pub record Arrived (p q : PolledPeer I D S M N) : Type 0 where
    pub transport : q.transport ≡ p.transport
    pub dtls : q.core.dtls ≡ p.core.dtls
    pub sctp : q.core.sctp ≡ p.core.sctp
    pub events : m.media.held_events q.core.media ≡ 0
    pub reports : HasNoReport q.transport.stats

  pub arrivals_drain : (p q : PolledPeer I D S M N) → TellsArrivals m p Nothing q → Arrived p q
  unfolding TellsArrivals TellsMedia TellsFallibleMedia
  arrivals_drain p q h =
      let met = went_through (TellsMedia m) _ p q h in
      let more = went_through (TellsFallibleMedia m) TellsStatistics met.0 q met.1.1 in
      let last : q ≡ more.0 = no_statistics_told E more.0 q more.1.1 in
      let first = laws.media.event_none p.core.media met.0.core.media met.1.0.0 in
      let second = laws.media.fallible_none met.0.core.media more.0.core.media met.0.core.greatest more.1.0.0 in
      let told = subst (λ (a : M). m.media.told a None met.0.core.media) (sym first) met.1.0.0 in
      let none = laws.media.silent_events met.0.core.media met.0.core.media more.0.core.media met.0.core.greatest told more.1.0.0 in
      record {
        transport =
            ap (λ (x : PolledPeer I D S M N). x.transport) last
            ∙ ap (λ (x : PolledPeer I D S M N). x.transport) more.1.0.1
            ∙ ap (λ (x : PolledPeer I D S M N). x.transport) met.1.0.1;
        dtls =
            ap (λ (x : PolledPeer I D S M N). x.core.dtls) last
            ∙ ap (λ (x : PolledPeer I D S M N). x.core.dtls) more.1.0.1
            ∙ ap (λ (x : PolledPeer I D S M N). x.core.dtls) met.1.0.1;
        sctp =
            ap (λ (x : PolledPeer I D S M N). x.core.sctp) last
            ∙ ap (λ (x : PolledPeer I D S M N). x.core.sctp) more.1.0.1
            ∙ ap (λ (x : PolledPeer I D S M N). x.core.sctp) met.1.0.1;
        events = ap (λ (x : PolledPeer I D S M N). m.media.held_events x.core.media) last ∙ ap m.media.held_events second ∙ none;
        reports = no_report_left E more.0 q more.1.1;
      }

  -- what is left once no datagram was given
  pub record Sent (p q : PolledPeer I D S M N) : Type 0 where
    pub transport : q.transport ≡ p.transport
    pub ice : q.core.ice ≡ p.core.ice
    pub dtls : q.core.dtls ≡ p.core.dtls
    pub sctp : q.core.sctp ≡ p.core.sctp
    pub packets : AreSent m laws q.transport.send_addr q.core.dtls.packets
    pub media : held_media m.media q.core.media ≡ 0

  no_packet : (packets : List (List ℕ)) (d e : DtlsState D) → GivesPacket m.dtls d packets None e → (packets ≡ []) × (e ≡ d)
  no_packet [] d e h = (refl, h)
  no_packet (packet ∷ packets) d e h = absurd h

  pair_drains : (addr : Option SendAddr) (p q : PolledPeer I D S M N) → p.transport.send_addr ≡ addr → m.media.held_events p.core.media ≡ 0
      → SendsBy m addr p Nothing q → Sent p q
  unfolding SendsDtlsPacket SendsMediaDatagram
  pair_drains None p q is events h = record {
    transport = ap (λ (x : PolledPeer I D S M N). x.transport) h.2;
    ice = ap (λ (x : PolledPeer I D S M N). x.core.ice) h.2;
    dtls = ap (λ (x : PolledPeer I D S M N). x.core.dtls) h.2;
    sctp = ap (λ (x : PolledPeer I D S M N). x.core.sctp) h.2;
    packets =
        subst (λ (a : Option SendAddr). AreSent m laws a q.core.dtls.packets) (sym (ap (λ (x : PolledPeer I D S M N). x.transport.send_addr) h.2 ∙ is)) tt;
    media = laws.media.clear_quiets p.core.media q.core.media events h.1;
  }
  pair_drains (Some addr) p q is events h =
      let met = went_through (SendsDtlsPacket m addr) (SendsMediaDatagram m addr) p q h in
      let none = no_packet p.core.dtls.packets p.core.dtls met.0.core.dtls met.1.0.0 in
      let between : met.0.core.media ≡ p.core.media = ap (λ (x : PolledPeer I D S M N). x.core.media) met.1.0.1 in
      let same = laws.media.datagram_none met.0.core.media q.core.media met.0.core.greatest met.1.1.0 in
      let datagrams = laws.media.silent_datagrams met.0.core.media q.core.media met.0.core.greatest met.1.1.0 in
      let dtls : q.core.dtls ≡ p.core.dtls = ap (λ (x : PolledPeer I D S M N). x.core.dtls) met.1.1.1 ∙ none.1 in
      let transport : q.transport ≡ p.transport =
      ap (λ (x : PolledPeer I D S M N). x.transport) met.1.1.1 ∙ ap (λ (x : PolledPeer I D S M N). x.transport) met.1.0.1 in
      let sent : q.core.dtls.packets ≡ [] = ap (λ (d : DtlsState D). d.packets) dtls ∙ none.0 in
      let quiet : m.media.held_events q.core.media ≡ 0 = ap m.media.held_events (same ∙ between) ∙ events in
      let empty : m.media.held_datagrams q.core.media ≡ 0 = ap m.media.held_datagrams same ∙ datagrams in
      record {
        transport = transport;
        ice = ap (λ (x : PolledPeer I D S M N). x.core.ice) met.1.1.1 ∙ ap (λ (x : PolledPeer I D S M N). x.core.ice) met.1.0.1;
        dtls = dtls;
        sctp = ap (λ (x : PolledPeer I D S M N). x.core.sctp) met.1.1.1 ∙ ap (λ (x : PolledPeer I D S M N). x.core.sctp) met.1.0.1;
        packets =
            subst (λ (a : Option SendAddr). AreSent m laws a q.core.dtls.packets) (sym (ap (λ (t : Transport). t.send_addr) transport ∙ is)) sent;
        media = omega (arith, quiet, empty);
      }

  pub datagrams_drain : (p q : PolledPeer I D S M N) → m.media.held_events p.core.media ≡ 0 → SendsDatagrams m p Nothing q
      → Sent p q × m.ice.gave q.core.ice None q.core.ice
  unfolding SendsDatagrams SendsChecks
  datagrams_drain p q events h =
      let met = went_through (SendsChecks m) (SendsByPair m) p q h in
      let same = laws.ice.transmit_none p.core.ice met.0.core.ice met.1.0.0 in
      let media : met.0.core.media ≡ p.core.media = ap (λ (x : PolledPeer I D S M N). x.core.media) met.1.0.1 in
      let sent = pair_drains met.0.transport.send_addr met.0 q refl (ap m.media.held_events media ∙ events) met.1.1 in
      let gave = subst (λ (i : I). m.ice.gave i None met.0.core.ice) (sym same) met.1.0.0 in (
        record {
          transport = sent.transport ∙ ap (λ (x : PolledPeer I D S M N). x.transport) met.1.0.1;
          ice = sent.ice ∙ same;
          dtls = sent.dtls ∙ ap (λ (x : PolledPeer I D S M N). x.core.dtls) met.1.0.1;
          sctp = sent.sctp ∙ ap (λ (x : PolledPeer I D S M N). x.core.sctp) met.1.0.1;
          packets = sent.packets;
          media = sent.media;
        },
        subst (λ (i : I). m.ice.gave i None i) (sym sent.ice) gave,
      )

  -- what the connection is once it gave nothing
  record Connects (q : PolledPeer I D S M N) : Type 0 where
    ice : m.ice.polled q.core.ice None q.core.ice
    dtls : DtlsRests m.dtls laws.dtls q.core.dtls.active q.core.dtls.instance q.transport.dtls_wake
    told : q.transport.handshake ≢ Finished

  connection_drains : (p q : PolledPeer I D S M N) → TellsConnection m p Nothing q → Connects q
  unfolding TellsConnection
  connection_drains p q h =
      let first = went_through (PollsIceEvents m) (FollowedBy (TimesDtls m) (FollowedBy (PollsDtlsOutputs m) TellsConnected)) p q h in
      let second = went_through (TimesDtls m) (FollowedBy (PollsDtlsOutputs m) TellsConnected) first.0 q first.1.1 in
      let third = went_through (PollsDtlsOutputs m) TellsConnected second.0 q second.1.1 in
      let told = told_from third.0.transport.handshake third.0 q refl third.1.1 in
      let agent : q.core.ice ≡ first.0.core.ice = outputs_kept m only_ice first.0 Nothing q first.1.1 in
      record {
        ice = subst (λ (i : I). m.ice.polled i None i) (sym agent) (ice_drains p first.0 first.1.0);
        dtls =
            subst (λ (x : PolledPeer I D S M N). DtlsRests m.dtls laws.dtls x.core.dtls.active x.core.dtls.instance x.transport.dtls_wake) (sym told.0)
            (outputs_drain second.0 third.0 third.1.0);
        told = subst (λ (x : PolledPeer I D S M N). x.transport.handshake ≢ Finished) (sym told.0) told.1;
      }

  drained_by : (a b c d : PolledPeer I D S M N) → Connects a → Stays m laws a b → WaitsOver m laws b.core.sctp b.core.dtls → b.core.ice ≡ a.core.ice → Arrived b c
      → c.core.ice ≡ b.core.ice → Sent c d → m.ice.gave d.core.ice None d.core.ice → is_dtls_due d ≡ false → Drained m laws d
  drained_by a b c d connects stays waits agent arrived agent' sent gave due =
      let ice : d.core.ice ≡ a.core.ice = sent.ice ∙ agent' ∙ agent in
      let dtls : d.core.dtls ≡ b.core.dtls = sent.dtls ∙ arrived.dtls in
      let sctp : d.core.sctp ≡ b.core.sctp = sent.sctp ∙ arrived.sctp in
      let transport : d.transport ≡ a.transport = sent.transport ∙ arrived.transport ∙ stays.transport in
      let polled = subst (λ (i : I). m.ice.polled i None i) (sym ice) connects.ice in
      let wait = subst (λ (s : SctpStreams S). WaitsOver m laws s d.core.dtls) (sym sctp) (subst (λ (x : DtlsState D). WaitsOver m laws b.core.sctp x) (sym dtls) waits) in
      record {
        ice = laws.ice.silent d.core.ice d.core.ice d.core.ice polled gave;
        due = due;
        dtls =
            subst (λ (t : Transport). DtlsRests m.dtls laws.dtls d.core.dtls.active d.core.dtls.instance t.dtls_wake) (sym transport)
            (subst (λ (x : DtlsState D). DtlsRests m.dtls laws.dtls x.active x.instance a.transport.dtls_wake) (sym (dtls ∙ stays.dtls)) connects.dtls);
        told = subst (λ (t : Transport). t.handshake ≢ Finished) (sym transport) connects.told;
        streams = wait;
        media = sent.media;
        sent = sent.packets;
        reports = subst (λ (s : Option Reporting). HasNoReport s) (sym (ap (λ (t : Transport). t.stats) sent.transport)) arrived.reports;
      }

  -- a visit that met nothing drains the peer
  pub visit_drains : (p q : PolledPeer I D S M N) → VisitsParts m p Nothing q → Drained m laws q
  unfolding VisitsParts
  visit_drains p q h =
      let one = went_through (TellsConnection m) (FollowedBy (TellsStreams m) (FollowedBy (TellsArrivals m) (FollowedBy (SendsDatagrams m) StartsOverWhenDue))) p q h in
      let two = went_through (TellsStreams m) (FollowedBy (TellsArrivals m) (FollowedBy (SendsDatagrams m) StartsOverWhenDue)) one.0 q one.1.1 in
      let three = went_through (TellsArrivals m) (FollowedBy (SendsDatagrams m) StartsOverWhenDue) two.0 q two.1.1 in
      let four = went_through (SendsDatagrams m) StartsOverWhenDue three.0 q three.1.1 in
      let due = not_due {E = E} (is_dtls_due four.0) four.1.1.0 in
      let connects = connection_drains p one.0 one.1.0 in
      let arrived = arrivals_drain two.0 three.0 three.1.0 in
      let sent = datagrams_drain three.0 four.0 arrived.events four.1.0 in
      let streams = streams_drain m laws one.0 two.0 two.1.0 in
      let agent : two.0.core.ice ≡ one.0.core.ice = streams_kept m only_ice one.0 Nothing two.0 two.1.0 in
      let agent' : three.0.core.ice ≡ two.0.core.ice = arrivals_kept m only_ice two.0 Nothing three.0 three.1.0 in
      subst (λ (x : PolledPeer I D S M N). Drained m laws x) (sym four.1.1.1)
      (drained_by one.0 two.0 three.0 four.0 connects streams.0 streams.1 agent arrived agent' sent.0 sent.1 due)
