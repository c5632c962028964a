-- What a poll takes from the connection of a drained peer: nothing, and nothing changes.
use Rattle.std.proofs.Common.{◌≡◌, ◌≢◌, ◌-◌, ◌^◌, ◌++◌, ◌⊎◌, inl, inr, ℕ, zero, suc, Bool, true, false, List, [], ◌∷◌, Option, Some, None}
use Rattle.std.proofs.Common.{Result, Ok, Err, append-nil, refl, sym, ap, subst, ◌∙◌, arith}
use Rattle.std.specs.declared.alloc.AllocError.{AllocError}
use Rattle.rtc_parts.specs.declared.ice_event.IceEvent.{IceEvent}
use Rattle.rtc_parts.specs.declared.dtls_output.DtlsOutput.{DtlsOutput}
use Rattle.rtc_parts.specs.declared.dtls_output.DtlsOutput.TheVariants as outputs
use Rattle.rtc_parts.specs.DtlsActs.{DtlsMoved}
use Rattle.rtc_parts.specs.DtlsDrawn.{DtlsDrawn, DrewPacket, draws_output}
use Rattle.rtc_parts.specs.DtlsLaws.{DtlsLaws}
use Rattle.rtc_parts.specs.DtlsMeaning.{DtlsMeaning}
use Rattle.rtc_parts.specs.DtlsState.{DtlsState, PollsOutput, drawn_by}
use Rattle.rtc_parts.specs.DtlsWords.{takes}
use Rattle.rtc_peer_core.specs.declared.rtc_error.RtcError.TheVariants.{Alloc}
use Rattle.rtc_peer_core.specs.Meanings.{Meanings, PartsLaws}
use Rattle.rtc_peer_transport.specs.declared.handshake.Handshake.{Handshake}
use Rattle.rtc_peer_transport.specs.declared.handshake.Handshake.TheVariants.{Pending, Finished, Told}
use Rattle.rtc_peer_transport.specs.declared.met.Met.{Met}
use Rattle.rtc_peer_transport.specs.declared.met.Met.TheVariants.{Nothing, Again, Error}
use Rattle.rtc_peer_transport.specs.declared.polled_peer.PolledPeer.{PolledPeer}
use Rattle.rtc_peer_transport.specs.Connection.{with_ice, with_dtls}
use Rattle.rtc_peer_polling.specs.DtlsStages.{TimesDtls, TimesDtlsIf, TakesDtlsOutput, TakesDtlsAnswer, PollsDtlsOutput, PollsDtlsOutputs, TellsConnected, TellsConnectedFrom, is_dtls_due}
use Rattle.rtc_peer_polling.specs.IceStages.{PollsIceEvent, PollsIceEvents, TakesIceEvent}
use Rattle.rtc_peer_transport.specs.Stages.{Stage, FollowedBy, Stopped, WentOn, StartsOver, RepeatsStage}

module _ {P E : Type 0} where
  -- a stage met nothing and changed nothing, or memory is wanting
  abbrev pub Rests : P → Met E → P → Type 0
  Rests p r q = ((r ≡ Nothing) × (q ≡ p)) ⊎ (r ≡ Error Alloc)

  abbrev pub StageRests : Stage P E → P → Type 0
  StageRests stage p = (r : Met E) (q : P) → stage p r q → Rests p r q

  rest_again : (p q : P) → Rests p Again q → ⊥
  rest_again p q (inl h) = cc (h.0)
  rest_again p q (inr h) = cc (h)

  pub else_rests : (first rest : Stage P E) (p : P) → StageRests first p → StageRests rest p → StageRests (FollowedBy first rest) p
  else_rests first rest p one other r q (Stopped met stage) = one r q stage
  else_rests first rest p one other r q (WentOn between stage after) = by (one Nothing between stage)
    where
      by : Rests p Nothing between → Rests p r q
      by (inl h) = other r q (subst (λ (x : P). rest x r q) h.1 after)
      by (inr h) = cc (h)

  turns_rest : (stage : Stage P E) (p : P) → StageRests stage p → (turns : ℕ) (q : P) → StartsOver stage turns p q → q ≡ p
  turns_rest stage p one zero q h = h
  turns_rest stage p one (suc turns) q h =
      absurd (rest_again p q (one Again q (subst (λ (x : P). stage x Again q) (turns_rest stage p one turns h.0 h.1.0) h.1.1)))

  pub repeats_rest : (stage : Stage P E) (p : P) → StageRests stage p → StageRests (RepeatsStage stage) p
  repeats_rest stage p one r q h = one r q (subst (λ (x : P). stage x r q) (turns_rest stage p one h.turns h.last h.over) h.ends)

module _ {D : Type 0} (m : DtlsMeaning D) (laws : DtlsLaws m) where
  -- a part that holds nothing gives no packet
  takes_none : (i k : D) (packets : List (List ℕ)) → m.held i ≡ 0 → DtlsMoved m i (takes packets) k → (packets ≡ []) × (k ≡ i)
  takes_none i k [] held moved = (refl, moved)
  takes_none i k (packet ∷ packets) held moved =
      let falls = laws.drawn_falls i moved.0 (DrewPacket packet) refl moved.1.0 in
      absurd (omega (arith, held, falls))

  takes_not : (i j : D) (packets : List (List ℕ)) (lost : List ℕ) → m.held i ≡ 0 → DtlsMoved m i (takes (packets ++ lost ∷ [])) j → ⊥
  takes_not i j [] lost held moved =
      let falls = laws.drawn_falls i moved.0 (DrewPacket lost) refl moved.1.0 in
      absurd (omega (arith, held, falls))
  takes_not i j (packet ∷ packets) lost held moved =
      let falls = laws.drawn_falls i moved.0 (DrewPacket packet) refl moved.1.0 in
      absurd (omega (arith, held, falls))

  draws_nothing : (k j : D) (drawn : DtlsDrawn) → m.held k ≡ 0 → draws_output drawn ≡ true → m.polled k drawn j → ⊥
  draws_nothing k j drawn held draws polled =
      let falls = laws.drawn_falls k j drawn draws polled in
      absurd (omega (arith, held, falls))

  -- what a connection without a role, or one that holds nothing, waits for
  abbrev pub DtlsRests : Option Bool → D → ℕ → Type 0
  DtlsRests None i wake = wake ≡ 2 ^ 64 - 1
  DtlsRests (Some active) i wake = (m.held i ≡ 0) × (wake ≡ m.asks i)

module _ {I D S M E X T W N : Type 0} (m : Meanings I D S M E X T W N) where
  same_by : (p n q : PolledPeer I D S M N) → q ≡ n → n ≡ p → Rests {E = E} p Nothing q
  same_by p n q is same = inl (refl, is ∙ same)

  module _ (laws : PartsLaws m) where
    ice_event_rests : (event : Option IceEvent) (ice : I) (p : PolledPeer I D S M N) (r : Met E) (q : PolledPeer I D S M N)
        → m.ice.held p.core.ice ≡ 0 → m.ice.polled p.core.ice event ice → TakesIceEvent event (with_ice ice p) r q → Rests p r q
    ice_event_rests None ice p r q held polled taken =
        inl (taken.0, taken.1 ∙ ap (λ (i : I). with_ice i p) (laws.ice.event_none p.core.ice ice polled))
    ice_event_rests (Some event) ice p r q held polled taken =
        let falls = laws.ice.event_falls p.core.ice ice event polled in
        absurd (omega (arith, held, falls))

    pub ice_rests : (p : PolledPeer I D S M N) → m.ice.held p.core.ice ≡ 0 → StageRests (PollsIceEvents m) p
    ice_rests p held =
        repeats_rest (PollsIceEvent m) p (λ r q turn. ice_event_rests turn.event turn.ice p r q held turn.by_poll turn.by_event)

    pub times_rest : (p : PolledPeer I D S M N) → is_dtls_due p ≡ false → StageRests (TimesDtls m) p
    times_rest p due r q h = inl (subst (λ (b : Bool). TimesDtlsIf m b p r q) due h)

    -- the moment that is asked for is the one that was kept
    moment_rests : (moment : ℕ) (dtls : DtlsState D) (p : PolledPeer I D S M N) (r : Met E) (q : PolledPeer I D S M N) → dtls ≡ p.core.dtls
        → p.transport.dtls_wake ≡ moment → TakesDtlsOutput m (outputs.Timeout moment) (with_dtls dtls p) r q → Rests p r q
    moment_rests moment dtls p r q same wake taken =
        inl (
          taken.0,
          taken.1
              ∙ ap (λ (d : DtlsState D). record (with_dtls d p) { transport = record p.transport { dtls_wake = moment } }) same
              ∙ ap (λ (n : ℕ). record p { transport = record p.transport { dtls_wake = n } }) (sym wake),
        )

    drained_output : (output : DtlsOutput) (k j : D) (dtls : DtlsState D) (p : PolledPeer I D S M N) (r : Met E) (q : PolledPeer I D S M N)
        → k ≡ p.core.dtls.instance → m.dtls.held k ≡ 0 → p.transport.dtls_wake ≡ m.dtls.asks k → m.dtls.polled k (drawn_by output) j
        → (j ≡ k → dtls ≡ p.core.dtls) → TakesDtlsOutput m output (with_dtls dtls p) r q → Rests p r q
    drained_output outputs.Connected k j dtls p r q is held wake polled same taken = absurd (draws_nothing m.dtls laws.dtls k j _ held refl polled)
    drained_output (outputs.KeyingMaterial key profile) k j dtls p r q is held wake polled same taken =
        absurd (draws_nothing m.dtls laws.dtls k j _ held refl polled)
    drained_output (outputs.PeerCert cert) k j dtls p r q is held wake polled same taken = absurd (draws_nothing m.dtls laws.dtls k j _ held refl polled)
    drained_output (outputs.ApplicationData bytes) k j dtls p r q is held wake polled same taken =
        absurd (draws_nothing m.dtls laws.dtls k j _ held refl polled)
    drained_output outputs.CloseNotify k j dtls p r q is held wake polled same taken = absurd (draws_nothing m.dtls laws.dtls k j _ held refl polled)
    drained_output (outputs.Timeout moment) k j dtls p r q is held wake polled same taken =
        moment_rests moment dtls p r q (same (laws.dtls.timeout_none k j moment polled))
        (wake ∙ sym (laws.dtls.timeout_asks k j moment polled)) taken

    no_output : (active : Option Bool) (answer : Result DtlsOutput AllocError) (dtls : DtlsState D) (p : PolledPeer I D S M N) (r : Met E)
        (q : PolledPeer I D S M N) → DtlsRests m.dtls laws.dtls active p.core.dtls.instance p.transport.dtls_wake
        → PollsOutput m.dtls p.core.dtls active answer dtls → TakesDtlsAnswer m answer (with_dtls dtls p) r q → Rests p r q
    no_output None answer dtls p r q rests polled taken =
        moment_rests (2 ^ 64 - 1) dtls p r q polled.1 rests
        (subst (λ (a : Result DtlsOutput AllocError). TakesDtlsAnswer m a (with_dtls dtls p) r q) polled.0 taken)
    no_output (Some active) (Ok output) dtls p r q rests polled taken =
        let d = polled.0 in
        let none = takes_none m.dtls laws.dtls p.core.dtls.instance d.1.0 d.0 rests.0 d.1.1.0 in
        let asked = rests.1 ∙ ap m.dtls.asks (sym none.1) in
        let queue : dtls.packets ≡ p.core.dtls.packets = d.1.1.2 ∙ ap (λ l. p.core.dtls.packets ++ l) none.0 ∙ append-nil p.core.dtls.packets in
        drained_output output d.1.0 dtls.instance dtls p r q none.1 (ap m.dtls.held none.1 ∙ rests.0) asked d.1.1.1
        (λ still.
        polled.1
        ∙ ap (λ (i : D). record p.core.dtls { instance = i; packets = dtls.packets }) (still ∙ none.1)
        ∙ ap (λ (l : List (List ℕ)). record p.core.dtls { packets = l }) queue)
        taken
    no_output (Some active) (Err e) dtls p r q rests polled taken =
        let d = polled.0 in
        absurd (takes_not m.dtls laws.dtls p.core.dtls.instance dtls.instance d.0 d.1.0 rests.0 d.1.1.0)

    pub outputs_rest : (p : PolledPeer I D S M N) → DtlsRests m.dtls laws.dtls p.core.dtls.active p.core.dtls.instance p.transport.dtls_wake
        → StageRests (PollsDtlsOutputs m) p
    outputs_rest p rests =
        repeats_rest (PollsDtlsOutput m) p
        (λ r q turn. no_output p.core.dtls.active turn.answer turn.dtls p r q rests turn.by_poll turn.by_answer)

    connected_from : (handshake : Handshake) (p : PolledPeer I D S M N) (r : Met E) (q : PolledPeer I D S M N) → handshake ≢ Finished
        → TellsConnectedFrom handshake p r q → Rests p r q
    connected_from Pending p r q told h = inl h
    connected_from Finished p r q told h = absurd (told refl)
    connected_from Told p r q told h = inl h

    pub connected_rests : (p : PolledPeer I D S M N) → p.transport.handshake ≢ Finished → StageRests {E = E} TellsConnected p
    connected_rests p told r q h = connected_from p.transport.handshake p r q told h
