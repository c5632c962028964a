-- What DTLS holds of input once its outputs were polled: nothing, and until the next input nothing comes.
use Rattle.std.proofs.Common.{◌≡◌, ◌<◌, ◌≤◌, ◌-◌, ◌^◌, ℕ, zero, suc, Bool, true, false, List, [], ◌∷◌, Option, Some, None, Result, Ok, Err}
use Rattle.std.proofs.Common.{refl, sym, ap, subst, ◌∙◌, arith}
use Rattle.std.specs.declared.alloc.AllocError.{AllocError}
use Rattle.rtc_parts.specs.declared.dtls_output.DtlsOutput.{DtlsOutput}
use Rattle.rtc_parts.specs.declared.dtls_output.DtlsOutput.TheVariants as outputs
use Rattle.rtc_parts.specs.DtlsActs.{DtlsMoved}
use Rattle.rtc_parts.specs.DtlsDrawn.{DrewPacket, draws_output, drawn_units}
use Rattle.rtc_parts.specs.DtlsLaws.{DtlsLaws}
use Rattle.rtc_parts.specs.DtlsMeaning.{DtlsMeaning}
use Rattle.rtc_parts.specs.DtlsState.{DtlsState, HandsOn, PollsOutput, drawn_by}
use Rattle.rtc_parts.specs.DtlsWords.{takes}
use Rattle.rtc_parts.specs.declared.ice_event.IceEvent.{IceEvent}
use Rattle.rtc_peer_core.specs.Meanings.{Meanings}
use Rattle.rtc_peer_transport.specs.declared.handshake.Handshake.{Handshake}
use Rattle.rtc_peer_transport.specs.declared.handshake.Handshake.TheVariants.{Pending, Finished, Told}
use Rattle.rtc_peer_transport.specs.declared.met.Met.{Met}
use Rattle.rtc_peer_transport.specs.declared.met.Met.TheVariants.{Nothing, Again}
use Rattle.rtc_peer_transport.specs.declared.polled_peer.PolledPeer.{PolledPeer}
use Rattle.rtc_peer_transport.specs.Connection.{with_dtls, with_ice}
use Rattle.rtc_peer_polling.specs.DtlsStages.{GivesDtlsTime, TimesDtls, TimesDtlsIf, TakesDtlsOutput, TakesDtlsAnswer, PollsDtlsOutput}
use Rattle.rtc_peer_polling.specs.DtlsStages.{PollsDtlsOutputs, TakesKeys, TakesCloseNotify, HandsPacket, ChecksCert, TellsConnected, TellsConnectedFrom, is_dtls_due}
use Rattle.rtc_peer_polling.specs.IceStages.{PollsIceEvent, PollsIceEvents, TakesIceEvent}
use Rattle.rtc_peer_transport.specs.Stages.{FollowedBy, StartsOver}
use Rattle.rtc_peer_polling.specs.Walk.{TellsConnection}
use Rattle.rtc_peer_polling.proofs.DtlsTurns.{taken_output}
use Rattle.rtc_peer_transport.proofs.StageLemmas.{over_carries, went_through}

-- an output that draws is a unit of input at least
draws_unit : (output : DtlsOutput) → draws_output (drawn_by output) ≡ true → 1 ≤ drawn_units (drawn_by output)
draws_unit outputs.Connected draws = omega arith
draws_unit (outputs.KeyingMaterial key profile) draws = omega arith
draws_unit (outputs.PeerCert cert) draws = omega arith
draws_unit (outputs.ApplicationData bytes) draws = omega arith
draws_unit (outputs.Timeout moment) draws = cc (draws)
draws_unit outputs.CloseNotify draws = omega arith

module _ {D : Type 0} (m : DtlsMeaning D) where
  -- the units of input that polls can still give: none before a role is set
  abbrev pub input_of : Option Bool → D → ℕ
  input_of None i = 0
  input_of (Some active) i = m.units i

  module _ (laws : DtlsLaws m) where
    takes_units : (p q : D) (packets : List (List ℕ)) → DtlsMoved m p (takes packets) q → m.units q ≤ m.units p
    takes_units p q [] moved = subst (λ (x : D). m.units x ≤ m.units p) (sym moved) (omega arith)
    takes_units p q (packet ∷ packets) moved =
        let drawn = laws.drawn_input p moved.0 (DrewPacket packet) moved.1.0 in
        let rest = takes_units moved.0 q packets moved.1.1 in
        omega (arith, drawn, rest)

    -- an output that draws takes some away
    pub polled_input : (active : Option Bool) (output : DtlsOutput) (d e : DtlsState D) → draws_output (drawn_by output) ≡ true
        → PollsOutput m d active (Ok output) e → input_of active e.instance < input_of active d.instance
    polled_input None output d e draws polled =
        let is : output ≡ outputs.Timeout (2 ^ 64 - 1) = cc (polled.0) in
        absurd (let no : false ≡ true = ap (λ (o : DtlsOutput). draws_output (drawn_by o)) (sym is) ∙ draws in cc)
    polled_input (Some active) output d e draws polled =
        let drains = polled.0 in
        let taken = takes_units d.instance drains.1.0 drains.0 drains.1.1.0 in
        let drawn = laws.drawn_input drains.1.0 e.instance (drawn_by output) drains.1.1.1 in
        omega (arith, taken, drawn, draws_unit output draws)

    -- where a moment is answered, none is left
    pub polled_moment : (active : Option Bool) (moment : ℕ) (d e : DtlsState D) → PollsOutput m d active (Ok (outputs.Timeout moment)) e
        → input_of active e.instance ≡ 0
    polled_moment None moment d e polled = refl
    polled_moment (Some active) moment d e polled =
        let drains = polled.0 in
        let held = laws.silent drains.1.0 e.instance moment drains.1.1.1 in
        ap m.units (laws.timeout_none drains.1.0 e.instance moment drains.1.1.1) ∙ laws.quiet_input drains.1.0 held

    pub timed_input_of : (active : Option Bool) (now : ℕ) (d e : DtlsState D) → HandsOn m d active (λ i r j. m.timed i now r j) (Ok tt) e
        → input_of active e.instance ≤ input_of active d.instance
    timed_input_of None now d e handed = omega arith
    timed_input_of (Some active) now d e handed = laws.timed_input d.instance e.instance now (Ok tt) handed.0

  pub polled_active : (active : Option Bool) (answer : Result DtlsOutput AllocError) (d e : DtlsState D) → PollsOutput m d active answer e → e.active ≡ d.active
  polled_active None answer d e polled = ap (λ (x : DtlsState D). x.active) polled.1
  polled_active (Some active) answer d e polled = ap (λ (x : DtlsState D). x.active) polled.1

  pub handed_active : (active : Option Bool) (done : D → _ → D → Type 0) (r : _) (d e : DtlsState D) → HandsOn m d active done r e → e.active ≡ d.active
  handed_active None done r d e handed = ap (λ (x : DtlsState D). x.active) handed.1
  handed_active (Some active) done r d e handed = ap (λ (x : DtlsState D). x.active) handed.1

module _ {I D S M E X T W N : Type 0} (m : Meanings I D S M E X T W N) where
  abbrev pub input_left : PolledPeer I D S M N → ℕ
  input_left p = input_of m.dtls p.core.dtls.active p.core.dtls.instance

  -- the DTLS connection and the streams are as they were
  abbrev pub SameParts : PolledPeer I D S M N → PolledPeer I D S M N → Type 0
  SameParts p q = (q.core.dtls ≡ p.core.dtls) × (q.core.sctp ≡ p.core.sctp)

  pub parts_by : (p n q : PolledPeer I D S M N) → q ≡ n → SameParts p n → SameParts p q
  parts_by p n q e same = subst (λ (x : PolledPeer I D S M N). SameParts p x) (sym e) same

  pub parts_on : (p q r : PolledPeer I D S M N) → SameParts p q → SameParts q r → SameParts p r
  parts_on p q r a b = (b.0 ∙ a.0, b.1 ∙ a.1)

  pub input_same : (p q : PolledPeer I D S M N) → SameParts p q → input_left q ≡ input_left p
  input_same p q same = ap (λ (d : DtlsState D). input_of m.dtls d.active d.instance) same.0

  ice_turn_same : (event : Option IceEvent) (ice : I) (p : PolledPeer I D S M N) (r : Met E) (q : PolledPeer I D S M N)
      → TakesIceEvent event (with_ice ice p) r q → SameParts p q
  ice_turn_same None ice p r q taken = parts_by p _ q taken.1 (refl, refl)
  ice_turn_same (Some event) ice p r q taken = parts_by p _ q taken.1 (refl, refl)

  ice_same : (p q : PolledPeer I D S M N) → PollsIceEvents m p Nothing q → SameParts p q
  ice_same p q h =
      parts_on p h.last q
      (over_carries (PollsIceEvent m) SameParts (λ x. (refl, refl)) parts_on
      (λ a b turn. ice_turn_same turn.event turn.ice a Again b turn.by_event) h.turns p h.last h.over)
      (ice_turn_same h.ends.event h.ends.ice h.last Nothing q h.ends.by_event)

  connected_same : (handshake : Handshake) (p q : PolledPeer I D S M N) → TellsConnectedFrom {E = E} handshake p Nothing q → SameParts p q
  connected_same Pending p q told = parts_by p p q told.1 (refl, refl)
  connected_same Finished p q told = cc (told.0)
  connected_same Told p q told = parts_by p p q told.1 (refl, refl)

  module _ (laws : DtlsLaws m.dtls) where
    time_same : (due : Bool) (p q : PolledPeer I D S M N) → TimesDtlsIf m due p Nothing q
        → (input_left q ≤ input_left p) × (q.core.sctp ≡ p.core.sctp)
    unfolding GivesDtlsTime
    time_same false p q h = (omega (arith, ap (λ (x : PolledPeer I D S M N). input_left x) h.1), ap (λ (x : PolledPeer I D S M N). x.core.sctp) h.1)
    time_same true p q h =
        let role = handed_active m.dtls p.core.dtls.active (λ i r j. m.dtls.timed i p.core.greatest r j) (Ok tt) p.core.dtls q.core.dtls h.0 in
        let input = timed_input_of m.dtls laws p.core.dtls.active p.core.greatest p.core.dtls q.core.dtls h.0 in
        let same = ap (λ (a : Option Bool). input_of m.dtls a q.core.dtls.instance) role in
        (omega (arith, input, same), ap (λ (x : PolledPeer I D S M N). x.core.sctp) h.1)

    -- an output that is followed by the next takes input away
    turn_by : (answer : Result DtlsOutput AllocError) (state : DtlsState D) (p q : PolledPeer I D S M N)
        → PollsOutput m.dtls p.core.dtls p.core.dtls.active answer state → TakesDtlsAnswer m answer (with_dtls state p) Again q
        → input_left q < input_left p
    turn_by (Ok output) state p q polled taken =
        let kept = taken_output m output (with_dtls state p) q taken in
        let role = kept.1.1 ∙ polled_active m.dtls p.core.dtls.active (Ok output) p.core.dtls state polled in
        let falls = polled_input m.dtls laws p.core.dtls.active output p.core.dtls state kept.0 polled in
        let same = ap (λ (a : Option Bool). input_of m.dtls a q.core.dtls.instance) role in
        let instance = ap (λ (i : D). input_of m.dtls p.core.dtls.active i) kept.1.0 in
        omega (arith, falls, same, instance)
    turn_by (Err error) state p q polled taken = cc (taken.0)

    -- where nothing is left, none is followed by another
    no_turns : (turns : ℕ) (p q : PolledPeer I D S M N) → input_left p ≡ 0 → StartsOver (PollsDtlsOutput m) turns p q → q ≡ p
    no_turns zero p q none over = over
    no_turns (suc turns) p q none over =
        let same = no_turns turns p over.0 none over.1.0 in
        let turn = over.1.1 in
        let falls = turn_by turn.answer turn.dtls over.0 q turn.by_poll turn.by_answer in
        absurd (omega (arith, falls, ap (λ (x : PolledPeer I D S M N). input_left x) same, none))

    ends_with : (output : DtlsOutput) (state : DtlsState D) (p q : PolledPeer I D S M N) → PollsOutput m.dtls p.core.dtls p.core.dtls.active (Ok output) state
        → TakesDtlsOutput m output (with_dtls state p) Nothing q → (input_left q ≡ 0) × (q.core.sctp ≡ p.core.sctp)
    unfolding ChecksCert TakesKeys TakesCloseNotify HandsPacket
    ends_with outputs.Connected state p q polled taken = cc (taken.0)
    ends_with (outputs.KeyingMaterial key profile) state p q polled taken = absurd taken
    ends_with (outputs.PeerCert cert) state p q polled taken = absurd taken
    ends_with (outputs.ApplicationData bytes) state p q polled taken = absurd taken
    ends_with (outputs.Timeout moment) state p q polled taken =
        let role = polled_active m.dtls p.core.dtls.active (Ok (outputs.Timeout moment)) p.core.dtls state polled in (
          ap (λ (x : PolledPeer I D S M N). input_left x) taken.1
              ∙ ap (λ (a : Option Bool). input_of m.dtls a state.instance) role
              ∙ polled_moment m.dtls laws p.core.dtls.active moment p.core.dtls state polled,
          ap (λ (x : PolledPeer I D S M N). x.core.sctp) taken.1,
        )
    ends_with outputs.CloseNotify state p q polled taken = absurd taken

    ends_by : (answer : Result DtlsOutput AllocError) (state : DtlsState D) (p q : PolledPeer I D S M N)
        → PollsOutput m.dtls p.core.dtls p.core.dtls.active answer state → TakesDtlsAnswer m answer (with_dtls state p) Nothing q
        → (input_left q ≡ 0) × (q.core.sctp ≡ p.core.sctp)
    ends_by (Ok output) state p q polled taken = ends_with output state p q polled taken
    ends_by (Err error) state p q polled taken = cc (taken.0)

    -- outputs that were polled to their end leave no input
    pub connection_drains : (p q : PolledPeer I D S M N) → TellsConnection m p Nothing q → input_left q ≡ 0
    unfolding TellsConnection
    connection_drains p q h =
        let first = went_through (PollsIceEvents m) (FollowedBy (TimesDtls m) (FollowedBy (PollsDtlsOutputs m) TellsConnected)) p q h in
        let second = went_through (TimesDtls m) (FollowedBy (PollsDtlsOutputs m) TellsConnected) first.0 q first.1.1 in
        let third = went_through (PollsDtlsOutputs m) TellsConnected second.0 q second.1.1 in
        let ends = third.1.0.ends in
        input_same third.0 q (connected_same third.0.transport.handshake third.0 q third.1.1)
        ∙ (ends_by ends.answer ends.dtls third.1.0.last third.0 ends.by_poll ends.by_answer).0

    -- where there is none, the streams are left as they were
    pub connection_quiet : (p q : PolledPeer I D S M N) → input_left p ≡ 0 → TellsConnection m p Nothing q → q.core.sctp ≡ p.core.sctp
    unfolding TellsConnection
    connection_quiet p q none h =
        let first = went_through (PollsIceEvents m) (FollowedBy (TimesDtls m) (FollowedBy (PollsDtlsOutputs m) TellsConnected)) p q h in
        let second = went_through (TimesDtls m) (FollowedBy (PollsDtlsOutputs m) TellsConnected) first.0 q first.1.1 in
        let third = went_through (PollsDtlsOutputs m) TellsConnected second.0 q second.1.1 in
        let ice = ice_same p first.0 first.1.0 in
        let timed = time_same (is_dtls_due first.0) first.0 second.0 second.1.0 in
        let left : input_left second.0 ≡ 0 = omega (arith, timed.0, input_same p first.0 ice, none) in
        let still = no_turns third.1.0.turns second.0 third.1.0.last left third.1.0.over in
        let ends = third.1.0.ends in
        (connected_same third.0.transport.handshake third.0 q third.1.1).1
        ∙ (ends_by ends.answer ends.dtls third.1.0.last third.0 ends.by_poll ends.by_answer).1
        ∙ ap (λ (x : PolledPeer I D S M N). x.core.sctp) still ∙ timed.1 ∙ ice.1
