-- The connection lowers what a peer weighs: a moment that was due pays for the packets that it makes, and an output for what it adds.
use Rattle.std.proofs.Common.{◌≡◌, ◌≢◌, ◌⊎◌, inl, inr, ℕ, ◌+◌, ◌*◌, ◌-◌, ◌^◌, ◌≤◌, ◌||◌, Bool, true, false, List, [], ◌∷◌, length, length-append, Option, Some, None, Result, Ok, Err, refl, sym, ◌∙◌, ap, subst, arith}
use Rattle.std.specs.declared.alloc.AllocError.{AllocError}
use Rattle.rtc_parts.specs.declared.srtp_profile.SrtpProfile.{SrtpProfile}
use Rattle.rtc_parts.specs.declared.dtls_output.DtlsOutput.{DtlsOutput}
use Rattle.rtc_parts.specs.declared.dtls_output.DtlsOutput.TheVariants as outputs
use Rattle.rtc_parts.specs.DtlsActs.{DtlsMoved}
use Rattle.rtc_parts.specs.DtlsDrawn.{DrewPacket, drawn_units}
use Rattle.rtc_parts.specs.DtlsState.{DtlsState, PollsOutput, HandsOn, drawn_by}
use Rattle.rtc_parts.specs.DtlsWords.{takes}
use Rattle.rtc_sctp.specs.Streams.{SctpStreams}
use Rattle.rtc_sctp.specs.Calls.{InputIf}
use Rattle.rtc_peer_core.specs.Meanings.{Meanings, PartsLaws}
use Rattle.rtc_peer_core.specs.declared.rtc_error.RtcError.TheVariants.{RemoteSdp, Dtls, Alloc}
use Rattle.std.specs.Prelude.{alloc_error}
use Rattle.rtc_peer_transport.specs.declared.event.Event.TheVariants as told
use Rattle.rtc_peer_transport.specs.declared.handshake.Handshake.{Handshake}
use Rattle.rtc_peer_transport.specs.declared.handshake.Handshake.TheVariants.{Pending, Finished, Told}
use Rattle.rtc_peer_transport.specs.declared.met.Met.{Met}
use Rattle.rtc_peer_transport.specs.declared.met.Met.TheVariants.{Nothing, Again, Transmit as Sent, Event, Error}
use Rattle.rtc_peer_transport.specs.declared.polled_peer.PolledPeer.{PolledPeer}
use Rattle.rtc_peer_transport.specs.Connection.{closed_peer, with_dtls}
use Rattle.rtc_peer_transport.specs.Stages.{FollowedBy, Stopped, WentOn}
use Rattle.rtc_peer_transport.proofs.StageLemmas.{over_carries}
use Rattle.rtc_peer_polling.specs.DtlsStages.{GivesDtlsTime, TimesDtls, TimesDtlsIf, TakesDtlsOutput, TakesDtlsAnswer, PollsDtlsOutput, PollsDtlsOutputs, TakesKeys, TakesCloseNotify, HandsPacket, ChecksCert, TellsConnected, has_come, is_dtls_due, finished_handshake, silenced_handshake, with_handshake}
use Rattle.rtc_peer_polling.specs.IceStages.{PollsIceEvents}
use Rattle.rtc_peer_polling.specs.Walk.{TellsConnection}
use Rattle.rtc_peer_polling.proofs.DueMoments.{later_is_to_come}
use Rattle.rtc_peer_laws.specs.Weight.{handshake_weight, is_moment_due}
use Rattle.rtc_peer_laws.proofs.UnsetThresholds.{given_unset}
use Rattle.rtc_peer_laws.proofs.PassFalls.{streams_live}
use Rattle.rtc_peer_laws.proofs.PollsUnset.{AreUnset}
use Rattle.rtc_peer_laws.proofs.Measures.{moment_weight, base, whole, Fit, Lowered, Lowers, lowered_from, fit_as, followed_lowers, ice_lowers, connected_lowers}
use Rattle.rtc_peer_laws.proofs.ClosingFalls.{asked_falls, close_fits, closes_rest}

due_most : (b : Bool) → moment_weight b ≤ 64
due_most true = omega arith
due_most false = omega arith

due_either : (x z : Bool) → moment_weight x ≤ moment_weight (x || z)
due_either true z = omega arith
due_either false z = omega arith

due_both : (x z : Bool) → z ≡ true → moment_weight (x || z) ≡ 64
due_both true z is = refl
due_both false z is = ap moment_weight is

due_twice : (x z : Bool) → (z ≡ x) ⊎ (z ≡ false) → moment_weight (x || z) ≡ moment_weight x
due_twice true z h = refl
due_twice false z (inl is) = ap moment_weight is
due_twice false z (inr is) = ap moment_weight is

module _ {I D S M E X T W N : Type 0} (m : Meanings I D S M E X T W N) (laws : PartsLaws m) where
  -- what a peer weighs between a moment that was given and the next that is asked for
  abbrev pub middle : PolledPeer I D S M N → ℕ
  middle p = base m laws p + moment_weight (has_come (m.dtls.asks p.core.dtls.instance) p.core.greatest)

  abbrev Middle : Met E → PolledPeer I D S M N → PolledPeer I D S M N → Type 0
  Middle Nothing p q = Fit m laws q × (whole m laws q ≤ middle p)
  Middle Again p q = Fit m laws q × (middle q ≤ middle p)
  Middle (Sent transmit) p q = Fit m laws q × (whole m laws q + 1 ≤ middle p)
  Middle (Event event) p q = Fit m laws q × (whole m laws q + 1 ≤ middle p)
  Middle (Error error) p q = Fit m laws q

  middle_as : (r n : Met E) (p x q : PolledPeer I D S M N) → r ≡ n → q ≡ x → Middle n p x → Middle r p q
  middle_as r n p x q e f h = subst (λ (y : Met E). Middle y p q) (sym e) (subst (λ (y : PolledPeer I D S M N). Middle n p y) (sym f) h)

  -- ---- a moment that has come

  abbrev Timed : Met E → PolledPeer I D S M N → PolledPeer I D S M N → Type 0
  Timed Nothing p q = Fit m laws q × (middle q ≤ whole m laws p)
  Timed Again p q = ⊥
  Timed (Sent transmit) p q = ⊥
  Timed (Event event) p q = ⊥
  Timed (Error error) p q = Fit m laws q

  handed : (active : Option Bool) (p q : PolledPeer I D S M N) → is_dtls_due p ≡ true → Fit m laws p
      → HandsOn m.dtls p.core.dtls active (λ i r j. m.dtls.timed i p.core.greatest r j) (Ok tt) q.core.dtls → q ≡ with_dtls q.core.dtls p
      → Timed Nothing p q
  handed None p q due fit h is =
      let most = due_most (has_come (m.dtls.asks q.core.dtls.instance) q.core.greatest) in
      let was = due_both (has_come (m.dtls.asks p.core.dtls.instance) p.core.greatest) (is_dtls_due p) due in
      let same = ap (λ (d : DtlsState D). 65 * m.dtls.units d.instance + 2 * m.dtls.packets d.instance + length d.packets) h.1 in
      (fit_as m laws _ q is fit, omega (arith, most, was, same, ap (base m laws) is))
  handed (Some active) p q due fit h is =
      let input = laws.dtls.timed_input p.core.dtls.instance q.core.dtls.instance p.core.greatest (Ok tt) h.0 in
      let output = laws.dtls.timed_output p.core.dtls.instance q.core.dtls.instance p.core.greatest (Ok tt) h.0 in
      let queue = ap (λ (d : DtlsState D). length d.packets) h.1 in
      let later = laws.dtls.asks_later p.core.dtls.instance q.core.dtls.instance q.core.dtls.instance p.core.greatest [] h.0 refl in
      let none = ap moment_weight (later_is_to_come (m.dtls.asks q.core.dtls.instance) p.core.greatest later) in
      let great = ap (λ (x : PolledPeer I D S M N). moment_weight (has_come (m.dtls.asks q.core.dtls.instance) x.core.greatest)) is in
      let was = due_both (has_come (m.dtls.asks p.core.dtls.instance) p.core.greatest) (is_dtls_due p) due in
      (fit_as m laws _ q is fit, omega (arith, input, output, queue, none, great, was, ap (base m laws) is))

  times_by : (due : Bool) (p : PolledPeer I D S M N) (r : Met E) (q : PolledPeer I D S M N) → is_dtls_due p ≡ due → Fit m laws p → TimesDtlsIf m due p r q → Timed r p q
  unfolding GivesDtlsTime
  times_by false p r q is fit h =
      let less = due_either (has_come (m.dtls.asks p.core.dtls.instance) p.core.greatest) (is_dtls_due p) in
      subst (λ (y : Met E). Timed y p q) (sym h.0) (subst (λ (x : PolledPeer I D S M N). Timed Nothing p x) (sym h.1) (fit, omega (arith, less)))
  times_by true p Nothing q is fit h = handed p.core.dtls.active p q is fit h.0 h.1
  times_by true p (Error (Dtls cause)) q is fit h = fit_as m laws _ q h.2 (fit.0, fit.1)
  times_by true p (Error Alloc) q is fit h = fit_as m laws _ q h.1 (fit.0, fit.1)
  times_by true p _ q is fit h = absurd h

  -- ---- outputs

  -- packets that are taken
  takes_weigh : (i k : D) (packets : List (List ℕ)) → DtlsMoved m.dtls i (takes packets) k
      → (m.dtls.units k ≤ m.dtls.units i) × ((m.dtls.packets k + length packets ≤ m.dtls.packets i) × (m.dtls.asks i ≤ m.dtls.asks k))
  takes_weigh i k [] moved = (omega (arith, ap m.dtls.units moved), (omega (arith, ap m.dtls.packets moved), omega (arith, ap m.dtls.asks moved)))
  takes_weigh i k (packet ∷ packets) moved =
      let rest = takes_weigh moved.0 k packets moved.1.1 in
      let input = laws.dtls.drawn_input i moved.0 (DrewPacket packet) moved.1.0 in
      let output = laws.dtls.drawn_output i moved.0 (DrewPacket packet) moved.1.0 in
      let asks = laws.dtls.drawn_asks i moved.0 (DrewPacket packet) moved.1.0 in
      (omega (arith, rest.0, input), (omega (arith, rest.1.0, output), omega (arith, rest.1.1, asks)))

  -- the connection once an output was drawn
  abbrev Drew : DtlsOutput → DtlsState D → DtlsState D → Type 0
  Drew output d e =
      (65 * m.dtls.units e.instance + 2 * m.dtls.packets e.instance + length e.packets + 65 * drawn_units (drawn_by output)
      ≤ 65 * m.dtls.units d.instance + 2 * m.dtls.packets d.instance + length d.packets)
      × (m.dtls.asks d.instance ≤ m.dtls.asks e.instance)

  drew : (active : Option Bool) (output : DtlsOutput) (d e : DtlsState D) → PollsOutput m.dtls d active (Ok output) e → Drew output d e
  drew None output d e h =
      let is : output ≡ outputs.Timeout (2 ^ 64 - 1) = cc (h.0) in
      subst (λ (x : DtlsOutput). Drew x d e) (sym is) (subst (λ (x : DtlsState D). Drew (outputs.Timeout (2 ^ 64 - 1)) d x) (sym h.1) (omega arith, omega arith))
  drew (Some active) output d e h =
      let drains = h.0 in
      let taken = takes_weigh d.instance drains.1.0 drains.0 drains.1.1.0 in
      let input = laws.dtls.drawn_input drains.1.0 e.instance (drawn_by output) drains.1.1.1 in
      let packets = laws.dtls.drawn_output drains.1.0 e.instance (drawn_by output) drains.1.1.1 in
      let asks = laws.dtls.drawn_asks drains.1.0 e.instance (drawn_by output) drains.1.1.1 in
      let queue = ap (λ (l : List (List ℕ)). length l) drains.1.1.2 in
      let joined = length-append d.packets drains.0 in
      (omega (arith, taken.0, taken.1.0, input, packets, queue, joined), omega (arith, taken.1.1, asks))

  -- the moment that outputs end with
  asked : (active : Option Bool) (moment greatest : ℕ) (d e : DtlsState D) → PollsOutput m.dtls d active (Ok (outputs.Timeout moment)) e
      → (has_come moment greatest ≡ has_come (m.dtls.asks e.instance) greatest) ⊎ (has_come moment greatest ≡ false)
  asked None moment greatest d e h =
      let is : moment ≡ 2 ^ 64 - 1 = cc (h.0) in
      inr (rw is refl)
  asked (Some active) moment greatest d e h =
      let drains = h.0 in
      let is = laws.dtls.timeout_asks drains.1.0 e.instance moment drains.1.1.1 in
      let same = ap m.dtls.asks (laws.dtls.timeout_none drains.1.0 e.instance moment drains.1.1.1) in
      inl (ap (λ (n : ℕ). has_come n greatest) (is ∙ sym same))

  -- the peer once an output was drawn
  abbrev After : (units : ℕ) → (p s : PolledPeer I D S M N) → Type 0
  After units p s = Fit m laws s × ((middle s + 65 * units ≤ middle p) × (base m laws s + 65 * units ≤ base m laws p))

  finished_weight : (h : Handshake) → handshake_weight (finished_handshake h) ≤ handshake_weight h + 1
  finished_weight Pending = omega arith
  finished_weight Finished = omega arith
  finished_weight Told = omega arith

  silenced_weight : (h : Handshake) → handshake_weight (silenced_handshake h) ≡ 0
  silenced_weight Pending = refl
  silenced_weight Finished = refl
  silenced_weight Told = refl

  input_by : (b : Bool) (now : ℕ) (bytes : List ℕ) (p q : SctpStreams S) → AreUnset m.association laws.association p → InputIf m.association b now bytes p (Ok tt) q
      → (streams_live m.association laws.association q ≤ streams_live m.association laws.association p + 16 * (1 + length bytes))
      × AreUnset m.association laws.association q
  input_by false now bytes p q k h =
      (omega (arith, ap (streams_live m.association laws.association) h.1), subst (λ (x : SctpStreams S). AreUnset m.association laws.association x) (sym h.1) k)
  input_by true now bytes p q k h =
      let units = laws.association.given_units p.association q.association now bytes (Ok tt) k.0 h.0 in (
        omega (arith, units, ap (streams_live m.association laws.association) h.1),
        subst (λ (x : SctpStreams S). AreUnset m.association laws.association x) (sym h.1)
            (given_unset m.association laws.association p.association q.association now bytes (Ok tt) h.0 k.0, k.1),
      )

  input_unset : (b : Bool) (now : ℕ) (bytes : List ℕ) (p : SctpStreams S) (r : Result (Unit {0}) AllocError) (q : SctpStreams S) → AreUnset m.association laws.association p
      → InputIf m.association b now bytes p r q → AreUnset m.association laws.association q
  input_unset false now bytes p r q k h = subst (λ (x : SctpStreams S). AreUnset m.association laws.association x) (sym h.1) k
  input_unset true now bytes p r q k h =
      subst (λ (x : SctpStreams S). AreUnset m.association laws.association x) (sym h.1)
      (given_unset m.association laws.association p.association q.association now bytes r h.0 k.0, k.1)

  keys : (key : List ℕ) (profile : SrtpProfile) (active : Bool) (p s : PolledPeer I D S M N) (r : Met E) (q : PolledPeer I D S M N) → After 1 p s
      → TakesKeys m key profile active s r q → Middle r p q
  unfolding TakesKeys
  keys key profile active p s Again q k h =
      let held = laws.media.key_held s.core.media q.core.media key profile active (Ok tt) h.0 in
      (fit_as m laws _ q h.1 k.0, omega (arith, ap middle h.1, held, k.1.0))
  keys key profile active p s (Error Alloc) q k h = fit_as m laws _ q h.1 (k.0.0, k.0.1)
  keys key profile active p s _ q k h = absurd h

  cert : (bytes : List ℕ) (p s : PolledPeer I D S M N) (r : Met E) (q : PolledPeer I D S M N) → After 1 p s → ChecksCert bytes s r q → Middle r p q
  unfolding ChecksCert
  cert bytes p s Again q k h = (fit_as m laws _ q h.3 k.0, omega (arith, ap middle h.3, k.1.0))
  cert bytes p s (Error (RemoteSdp why)) q k h = fit_as m laws _ q h.3 (k.0.0, k.0.1)
  cert bytes p s (Error Alloc) q k h = fit_as m laws _ q h (k.0.0, k.0.1)
  cert bytes p s _ q k h = absurd h

  hands : (bytes : List ℕ) (p s : PolledPeer I D S M N) (r : Met E) (q : PolledPeer I D S M N) → After (1 + length bytes) p s → HandsPacket m bytes s r q → Middle r p q
  unfolding HandsPacket
  hands bytes p s Again q k h =
      let input = input_by (m.association.started s.core.sctp.association) s.core.greatest bytes s.core.sctp q.core.sctp k.0.0 h.0 in
      let great = ap (λ (x : PolledPeer I D S M N). x.core.greatest) h.1 in
      ((input.1, omega (arith, great, k.0.1)), omega (arith, ap middle h.1, input.0, k.1.0))
  hands bytes p s (Error Alloc) q k h =
      let great = ap (λ (x : PolledPeer I D S M N). x.core.greatest) h.1 in
      (input_unset (m.association.started s.core.sctp.association) s.core.greatest bytes s.core.sctp (Err alloc_error) q.core.sctp k.0.0 h.0, omega (arith, great, k.0.1))
  hands bytes p s _ q k h = absurd h

  notified : (p s : PolledPeer I D S M N) (r : Met E) (q : PolledPeer I D S M N) → After 1 p s → TakesCloseNotify m s r q → Middle r p q
  unfolding TakesCloseNotify
  notified p s (Event told.Closed) q k h =
      let rest = closes_rest m laws s h.0 h.1 in
      let most = due_most (is_moment_due m q) in
      let silent = silenced_weight h.0.transport.handshake in
      let same = ap (base m laws) h.2 in
      let fit = rest.fit k.0 in
      (fit_as m laws _ q h.2 (fit.0, fit.1), omega (arith, rest.less, most, silent, same, k.1.1))
  notified p s (Error error) q k h = close_fits m laws s (Err error) q h k.0
  notified p s _ q k h = absurd h

  takes_output : (output : DtlsOutput) (p s : PolledPeer I D S M N) (r : Met E) (q : PolledPeer I D S M N) → After (drawn_units (drawn_by output)) p s
      → ((moment : ℕ) → output ≡ outputs.Timeout moment → (has_come moment s.core.greatest ≡ has_come (m.dtls.asks s.core.dtls.instance) s.core.greatest) ⊎ (has_come moment s.core.greatest ≡ false))
      → TakesDtlsOutput m output s r q → Middle r p q
  takes_output outputs.Connected p s r q k asked h =
      middle_as r Again p (with_handshake (finished_handshake s.transport.handshake) s) q h.0 h.1 (k.0, omega (arith, k.1.0, finished_weight s.transport.handshake))
  takes_output (outputs.KeyingMaterial key profile) p s r q k asked h = keys key.now profile _ p s r q k h
  takes_output (outputs.PeerCert bytes) p s r q k asked h = cert bytes.now p s r q k h
  takes_output (outputs.ApplicationData bytes) p s r q k asked h = hands bytes.now p s r q k h
  takes_output (outputs.Timeout moment) p s r q k asked h =
      let twice = due_twice (has_come (m.dtls.asks s.core.dtls.instance) s.core.greatest) (has_come moment s.core.greatest) (asked moment refl) in
      middle_as r Nothing p (record s { transport = record s.transport { dtls_wake = moment } }) q h.0 h.1 (k.0, omega (arith, k.1.0, twice))
  takes_output outputs.CloseNotify p s r q k asked h = notified p s r q k h

  output_by : (answer : Result DtlsOutput AllocError) (dtls : DtlsState D) (p : PolledPeer I D S M N) (r : Met E) (q : PolledPeer I D S M N) → Fit m laws p
      → PollsOutput m.dtls p.core.dtls p.core.dtls.active answer dtls → TakesDtlsAnswer m answer (with_dtls dtls p) r q → Middle r p q
  output_by (Ok output) dtls p r q fit polled taken =
      let drawn = drew p.core.dtls.active output p.core.dtls dtls polled in
      let down = asked_falls (m.dtls.asks p.core.dtls.instance) (m.dtls.asks dtls.instance) p.core.greatest drawn.1 fit.1 in
      takes_output output p (with_dtls dtls p) r q (fit, (omega (arith, drawn.0, down), omega (arith, drawn.0)))
      (λ moment is. asked p.core.dtls.active moment p.core.greatest p.core.dtls dtls (subst (λ (x : DtlsOutput). PollsOutput m.dtls p.core.dtls p.core.dtls.active (Ok x) dtls) is polled)) taken
  output_by (Err error) dtls p r q fit polled taken = middle_as r (Error Alloc) p (closed_peer (with_dtls dtls p)) q taken.0 taken.1 (fit.0, fit.1)

  turn_falls : (p : PolledPeer I D S M N) (r : Met E) (q : PolledPeer I D S M N) → Fit m laws p → PollsDtlsOutput m p r q → Middle r p q
  turn_falls p r q fit turn = output_by turn.answer turn.dtls p r q fit turn.by_poll turn.by_answer

  middle_from : (r : Met E) (p b q : PolledPeer I D S M N) → middle b ≤ middle p → Middle r b q → Middle r p q
  middle_from Nothing p b q le h = (h.0, omega (arith, le, h.1))
  middle_from Again p b q le h = (h.0, omega (arith, le, h.1))
  middle_from (Sent transmit) p b q le h = (h.0, omega (arith, le, h.1))
  middle_from (Event event) p b q le h = (h.0, omega (arith, le, h.1))
  middle_from (Error error) p b q le h = h

  abbrev Goes : PolledPeer I D S M N → PolledPeer I D S M N → Type 0
  Goes p q = Fit m laws p → Fit m laws q × (middle q ≤ middle p)

  outputs_fall : (p : PolledPeer I D S M N) (r : Met E) (q : PolledPeer I D S M N) → Fit m laws p → PollsDtlsOutputs m p r q → Middle r p q
  outputs_fall p r q fit h =
      let over = over_carries (PollsDtlsOutput m) Goes (λ x k. (k, omega arith))
      (λ a b c one two k. let first = one k in let second = two first.0 in (second.0, omega (arith, first.1, second.1)))
      (λ a b turn k. turn_falls a Again b k turn) h.turns p h.last h.over fit in
      middle_from r p h.last q over.1 (turn_falls h.last r q over.0 h.ends)

  -- ---- the connection

  stopped : (r : Met E) (p b q : PolledPeer I D S M N) → r ≢ Again → middle b ≤ whole m laws p → Middle r b q → Lowered m laws r p q
  stopped Nothing p b q stops le h = (h.0, omega (arith, le, h.1))
  stopped Again p b q stops le h = absurd (stops refl)
  stopped (Sent transmit) p b q stops le h = (h.0, omega (arith, le, h.1))
  stopped (Event event) p b q stops le h = (h.0, omega (arith, le, h.1))
  stopped (Error error) p b q stops le h = h

  untimed : (r : Met E) (p q : PolledPeer I D S M N) → r ≢ Nothing → Timed r p q → Lowered m laws r p q
  untimed Nothing p q stops h = absurd (stops refl)
  untimed Again p q stops h = absurd h
  untimed (Sent transmit) p q stops h = absurd h
  untimed (Event event) p q stops h = absurd h
  untimed (Error error) p q stops h = h

  then_outputs : (p b : PolledPeer I D S M N) (r : Met E) (q : PolledPeer I D S M N) → Timed Nothing p b → FollowedBy (PollsDtlsOutputs m) TellsConnected b r q → Lowered m laws r p q
  then_outputs p b r q k (Stopped met stage) = stopped r p b q stage.stops k.1 (outputs_fall b r q k.0 stage)
  then_outputs p b r q k (WentOn c stage after) =
      let one = outputs_fall b Nothing c k.0 stage in
      lowered_from m laws r p c q (omega (arith, one.1, k.1)) (connected_lowers m laws c r q one.0 after)

  timed_lowers : Lowers m laws (FollowedBy (TimesDtls m) (FollowedBy (PollsDtlsOutputs m) TellsConnected))
  timed_lowers p r q fit (Stopped met stage) = untimed r p q met (times_by (is_dtls_due p) p r q refl fit stage)
  timed_lowers p r q fit (WentOn b stage after) = then_outputs p b r q (times_by (is_dtls_due p) p Nothing b refl fit stage) after

  pub connection_lowers : Lowers m laws (TellsConnection m)
  unfolding TellsConnection
  connection_lowers = followed_lowers m laws (PollsIceEvents m) _ (ice_lowers m laws) timed_lowers
