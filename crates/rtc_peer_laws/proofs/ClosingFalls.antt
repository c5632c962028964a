-- Closing lowers what a peer weighs, and sets no threshold.
use Rattle.std.proofs.Common.{◌≡◌, ℕ, ◌+◌, ◌-◌, ◌^◌, ◌≤◌, ◌||◌, Bool, true, false, Result, Ok, Err, refl, sym, ◌∙◌, ap, subst, arith}
use Rattle.rtc_parts.specs.DtlsState.{DtlsState}
use Rattle.rtc_parts.specs.declared.assoc_error.AssocError.{AssocError}
use Rattle.rtc_sctp_values.specs.declared.proto_error.ProtoError.TheVariants as proto
use Rattle.rtc_sctp_values.specs.declared.sctp_error.SctpError.{SctpError}
use Rattle.rtc_sctp_values.specs.declared.sctp_error.SctpError.TheVariants as sctp
use Rattle.rtc_peer_core.specs.declared.rtc_error.RtcError.{RtcError}
use Rattle.rtc_peer_core.specs.declared.rtc_error.RtcError.TheVariants.{Dtls, Sctp, Alloc}
use Rattle.rtc_sctp.specs.Streams.{SctpStreams}
use Rattle.rtc_sctp.specs.Calls.{ShutBy, Shuts, is_ended}
use Rattle.rtc_peer_core.specs.declared.phase.Phase.{Phase}
use Rattle.rtc_peer_core.specs.declared.phase.Phase.TheVariants.{Alive, Closing, Closed}
use Rattle.rtc_peer_core.specs.Meanings.{Meanings, PartsLaws}
use Rattle.rtc_peer_transport.specs.declared.polled_peer.PolledPeer.{PolledPeer}
use Rattle.rtc_peer_transport.specs.Closing.{ShutsMedia, ShutsStreams, ShutsDtls, BecomesClosing, BeginsClosing, ClosesPeer, ClosesPeerFrom}
use Rattle.rtc_peer_transport.specs.Stages.{Call, InTurn, Failed, Passed}
use Rattle.rtc_peer_polling.specs.DtlsStages.{has_come}
use Rattle.rtc_peer_laws.specs.Weight.{alive_weight}
use Rattle.rtc_peer_laws.proofs.UnsetThresholds.{shut_unset}
use Rattle.rtc_peer_laws.proofs.PassFalls.{streams_live}
use Rattle.rtc_peer_laws.proofs.PollsUnset.{AreUnset}
use Rattle.rtc_peer_laws.proofs.Measures.{moment_weight, base, whole, Fit, fit_as}

-- a moment that is not nearer is due only where the other is
earlier_come : (a b g : ℕ) → a ≤ b → g ≤ 2 ^ 64 - 1 → has_come b g ≡ true → has_come a g ≡ true
earlier_come a b g le fits come = grind (arith, le, fits, come)

due_by : (x y z : Bool) → (x ≡ true → y ≡ true) → moment_weight (x || z) ≤ moment_weight (y || z)
due_by true true z h = omega arith
due_by true false z h = cc (h refl)
due_by false true true h = omega arith
due_by false true false h = omega arith
due_by false false z h = omega arith

pub due_falls : (a b wake g : ℕ) → a ≤ b → g ≤ 2 ^ 64 - 1
    → moment_weight (has_come b g || has_come wake g) ≤ moment_weight (has_come a g || has_come wake g)
due_falls a b wake g le fits = due_by (has_come b g) (has_come a g) (has_come wake g) (earlier_come a b g le fits)

-- the same of the moment that the part asks for alone
pub asked_falls : (a b g : ℕ) → a ≤ b → g ≤ 2 ^ 64 - 1 → moment_weight (has_come b g) ≤ moment_weight (has_come a g)
asked_falls a b g le fits = by_asked (has_come b g) (has_come a g) (earlier_come a b g le fits)
  where
    by_asked : (x y : Bool) → (x ≡ true → y ≡ true) → moment_weight x ≤ moment_weight y
    by_asked true true h = omega arith
    by_asked true false h = cc (h refl)
    by_asked false true h = omega arith
    by_asked false false h = omega arith

module _ {I D S M E X T W N : Type 0} (m : Meanings I D S M E X T W N) (laws : PartsLaws m) where
  -- what all but a moment of DTLS leaves: less of the rest, and no nearer moment
  pub record Rested (p q : PolledPeer I D S M N) : Type 0 where
    pub fit : Fit m laws p → Fit m laws q
    pub less : base m laws q ≤ base m laws p
    pub asks : m.dtls.asks p.core.dtls.instance ≤ m.dtls.asks q.core.dtls.instance
    pub greatest : q.core.greatest ≡ p.core.greatest
    pub wake : q.transport.dtls_wake ≡ p.transport.dtls_wake

  -- where no moment is nearer, the whole falls with the rest
  pub rested_whole : (k : ℕ) (p q : PolledPeer I D S M N) → p.core.greatest ≤ 2 ^ 64 - 1 → base m laws q + k ≤ base m laws p
      → m.dtls.asks p.core.dtls.instance ≤ m.dtls.asks q.core.dtls.instance → q.core.greatest ≡ p.core.greatest
      → q.transport.dtls_wake ≡ p.transport.dtls_wake → whole m laws q + k ≤ whole m laws p
  rested_whole k p q fits less asks great wake =
      let falls = due_falls (m.dtls.asks p.core.dtls.instance) (m.dtls.asks q.core.dtls.instance) p.transport.dtls_wake p.core.greatest asks fits in
      let same : moment_weight (has_come (m.dtls.asks q.core.dtls.instance) q.core.greatest || has_come q.transport.dtls_wake q.core.greatest)
      ≡ moment_weight (has_come (m.dtls.asks q.core.dtls.instance) p.core.greatest || has_come p.transport.dtls_wake p.core.greatest) =
      rw (great, wake) refl in
      omega (arith, less, falls, same)

  rested_self : (p q : PolledPeer I D S M N) → q ≡ p → Rested p q
  rested_self p q is = subst (λ (x : PolledPeer I D S M N). Rested p x) (sym is)
      (record { fit = λ k. k; less = omega arith; asks = omega arith; greatest = refl; wake = refl })

  -- ---- closing

  media_shut : (p q : PolledPeer I D S M N) → ShutsMedia m p (Ok tt) q
      → (base m laws q ≤ base m laws p + 32) × ((q.core.dtls ≡ p.core.dtls) × ((q.core.sctp ≡ p.core.sctp) × ((q.core.phase ≡ p.core.phase) × ((q.core.greatest ≡ p.core.greatest) × (q.transport ≡ p.transport)))))
  unfolding ShutsMedia
  media_shut p q h =
      let held = laws.media.shut_held p.core.media q.core.media (Ok tt) h.0 in
      (omega (arith, ap (base m laws) h.1, held), (ap (λ (x : PolledPeer I D S M N). x.core.dtls) h.1, (ap (λ (x : PolledPeer I D S M N). x.core.sctp) h.1, (ap (λ (x : PolledPeer I D S M N). x.core.phase) h.1, (ap (λ (x : PolledPeer I D S M N). x.core.greatest) h.1, ap (λ (x : PolledPeer I D S M N). x.transport) h.1)))))

  units_shut : (p q : SctpStreams S) (r : Result (Unit {0}) AssocError) → m.association.shut p.association r q.association → q ≡ record p { association = q.association; rests = false }
      → (streams_live m.association laws.association q ≤ streams_live m.association laws.association p + 2)
      × (AreUnset m.association laws.association p → AreUnset m.association laws.association q)
  units_shut p q r h is =
      let units = laws.association.shut_units p.association q.association r h in (
        omega (arith, ap (streams_live m.association laws.association) is, units),
        λ k. subst (λ (x : SctpStreams S). AreUnset m.association laws.association x) (sym is)
            (shut_unset m.association laws.association p.association q.association r h k.0, k.1),
      )

  shut_by : (b : Bool) (p : SctpStreams S) (r : Result (Unit {0}) SctpError) (q : SctpStreams S) → ShutBy m.association b p r q
      → (streams_live m.association laws.association q ≤ streams_live m.association laws.association p + 2)
      × (AreUnset m.association laws.association p → AreUnset m.association laws.association q)
  shut_by true p r q h =
      (omega (arith, ap (streams_live m.association laws.association) h.1), λ k. subst (λ (x : SctpStreams S). AreUnset m.association laws.association x) (sym h.1) k)
  shut_by false p (Ok done) q h = units_shut p q h.0.result h.0.called h.1
  shut_by false p (Err (sctp.Proto proto.Fault)) q h = units_shut p q h.0.result h.0.called h.1
  shut_by false p (Err sctp.Alloc) q h = units_shut p q h.0.result h.0.called h.1
  shut_by false p (Err _) q h = absurd h

  streams_shut : (p q : PolledPeer I D S M N) → ShutsStreams m p (Ok tt) q
      → (base m laws q ≤ base m laws p + 8) × ((q.core.dtls ≡ p.core.dtls) × ((AreUnset m.association laws.association p.core.sctp → AreUnset m.association laws.association q.core.sctp) × ((q.core.phase ≡ p.core.phase) × ((q.core.greatest ≡ p.core.greatest) × (q.transport ≡ p.transport)))))
  unfolding ShutsStreams
  streams_shut p q h =
      let shut = shut_by (is_ended m.association p.core.sctp.association) p.core.sctp (Ok tt) q.core.sctp h.0 in
      (omega (arith, ap (base m laws) h.1, shut.0), (ap (λ (x : PolledPeer I D S M N). x.core.dtls) h.1, (shut.1, (ap (λ (x : PolledPeer I D S M N). x.core.phase) h.1, (ap (λ (x : PolledPeer I D S M N). x.core.greatest) h.1, ap (λ (x : PolledPeer I D S M N). x.transport) h.1)))))

  dtls_shut : (p q : PolledPeer I D S M N) → ShutsDtls m p (Ok tt) q
      → (base m laws q ≤ base m laws p + 64) × ((m.dtls.asks p.core.dtls.instance ≤ m.dtls.asks q.core.dtls.instance) × ((q.core.sctp ≡ p.core.sctp) × ((q.core.phase ≡ p.core.phase) × ((q.core.greatest ≡ p.core.greatest) × (q.transport ≡ p.transport)))))
  unfolding ShutsDtls
  dtls_shut p q h =
      let input = laws.dtls.shut_input p.core.dtls.instance q.core.dtls.instance (Ok tt) h.0 in
      let output = laws.dtls.shut_output p.core.dtls.instance q.core.dtls.instance (Ok tt) h.0 in
      let asks = laws.dtls.shut_asks p.core.dtls.instance q.core.dtls.instance (Ok tt) h.0 in
      (omega (arith, ap (base m laws) h.1, input, output), (asks, (ap (λ (x : PolledPeer I D S M N). x.core.sctp) h.1, (ap (λ (x : PolledPeer I D S M N). x.core.phase) h.1, (ap (λ (x : PolledPeer I D S M N). x.core.greatest) h.1, ap (λ (x : PolledPeer I D S M N). x.transport) h.1)))))

  all_shut : (p a b c q : PolledPeer I D S M N) → p.core.phase ≡ Alive → ShutsMedia m p (Ok tt) a → ShutsStreams m a (Ok tt) b → ShutsDtls m b (Ok tt) c
      → BecomesClosing c (Ok tt) q → Rested p q
  all_shut p a b c q alive one two three four =
      let first = media_shut p a one in
      let second = streams_shut a b two in
      let third = dtls_shut b c three in
      let still = ap alive_weight (third.1.1.1.0 ∙ second.1.1.1.0 ∙ first.1.1.1.0 ∙ alive) in
      let great : c.core.greatest ≡ p.core.greatest = third.1.1.1.1.0 ∙ second.1.1.1.1.0 ∙ first.1.1.1.1.0 in
      let moved = third.1.1.1.1.1 ∙ second.1.1.1.1.1 ∙ first.1.1.1.1.1 in
      record {
        fit = λ k. fit_as m laws _ q four.1 (
          subst (λ (x : SctpStreams S). AreUnset m.association laws.association x) (sym third.1.1.0)
              (second.1.1.0 (subst (λ (x : SctpStreams S). AreUnset m.association laws.association x) (sym first.1.1.0) k.0)),
          omega (arith, great, k.1),
        );
        less = omega (arith, first.0, second.0, third.0, ap (base m laws) four.1, still);
        asks = omega (arith, third.1.0, ap (λ (x : DtlsState D). m.dtls.asks x.instance) (second.1.0 ∙ first.1.0), ap (λ (x : PolledPeer I D S M N). m.dtls.asks x.core.dtls.instance) four.1);
        greatest = ap (λ (x : PolledPeer I D S M N). x.core.greatest) four.1 ∙ great;
        wake = ap (λ (x : PolledPeer I D S M N). x.transport.dtls_wake) four.1 ∙ ap (λ x. x.dtls_wake) moved;
      }

  begins_rest : (p q : PolledPeer I D S M N) → p.core.phase ≡ Alive → BeginsClosing m p (Ok tt) q → Rested p q
  begins_rest p q alive (Failed error is h) = cc (is)
  begins_rest p q alive (Passed a one (Failed error is h)) = cc (is)
  begins_rest p q alive (Passed a one (Passed b two (Failed error is h))) = cc (is)
  begins_rest p q alive (Passed a one (Passed b two (Passed c three four))) = all_shut p a b c q alive one two three four

  closes_from : (phase : Phase) (p q : PolledPeer I D S M N) → p.core.phase ≡ phase → ClosesPeerFrom m phase p (Ok tt) q → Rested p q
  closes_from Alive p q is h = begins_rest p q is h
  closes_from Closing p q is h = rested_self p q h.1
  closes_from Closed p q is h = rested_self p q h.1

  -- closing
  pub closes_rest : (p q : PolledPeer I D S M N) → ClosesPeer m p (Ok tt) q → Rested p q
  closes_rest p q h = closes_from p.core.phase p q refl h

  -- a close that fails sets no threshold
  abbrev pub CallFits : Call (PolledPeer I D S M N) → Type 0
  CallFits call = (p : PolledPeer I D S M N) (r : Result (Unit {0}) RtcError) (q : PolledPeer I D S M N) → call p r q → Fit m laws p → Fit m laws q

  pub turn_fits : (first rest : Call (PolledPeer I D S M N)) → CallFits first → CallFits rest → CallFits (InTurn first rest)
  turn_fits first rest f g p r q (Failed error is h) k = f p (Err error) q h k
  turn_fits first rest f g p r q (Passed between h h') k = g between r q h' (f p (Ok tt) between h k)

  media_fits : CallFits (ShutsMedia m)
  unfolding ShutsMedia
  media_fits p (Ok done) q h k = fit_as m laws _ q h.1 (k.0, k.1)
  media_fits p (Err Alloc) q h k = fit_as m laws _ q h.1 (k.0, k.1)
  media_fits p (Err _) q h k = absurd h

  shut_fits : (p q : PolledPeer I D S M N) (r : Result (Unit {0}) SctpError) → Shuts m.association p.core.sctp r q.core.sctp → q.core.greatest ≡ p.core.greatest → Fit m laws p → Fit m laws q
  shut_fits p q r h great k =
      ((shut_by (is_ended m.association p.core.sctp.association) p.core.sctp r q.core.sctp h).1 k.0, omega (arith, great, k.1))

  streams_fit : CallFits (ShutsStreams m)
  unfolding ShutsStreams
  streams_fit p (Ok done) q h k = shut_fits p q (Ok tt) h.0 (ap (λ (x : PolledPeer I D S M N). x.core.greatest) h.1) k
  streams_fit p (Err (Sctp cause)) q h k = shut_fits p q (Err (sctp.Proto proto.Fault)) h.1 (ap (λ (x : PolledPeer I D S M N). x.core.greatest) h.2) k
  streams_fit p (Err Alloc) q h k = shut_fits p q (Err sctp.Alloc) h.0 (ap (λ (x : PolledPeer I D S M N). x.core.greatest) h.1) k
  streams_fit p (Err _) q h k = absurd h

  dtls_fits : CallFits (ShutsDtls m)
  unfolding ShutsDtls
  dtls_fits p (Ok done) q h k = fit_as m laws _ q h.1 (k.0, k.1)
  dtls_fits p (Err (Dtls cause)) q h k = fit_as m laws _ q h.2 (k.0, k.1)
  dtls_fits p (Err Alloc) q h k = fit_as m laws _ q h.1 (k.0, k.1)
  dtls_fits p (Err _) q h k = absurd h

  begins_fit : CallFits (BeginsClosing m)
  begins_fit =
      turn_fits (ShutsMedia m) _ media_fits
      (turn_fits (ShutsStreams m) _ streams_fit
      (turn_fits (ShutsDtls m) BecomesClosing dtls_fits (λ p r q h k. fit_as m laws _ q h.1 (k.0, k.1))))

  close_fits_from : (phase : Phase) (p : PolledPeer I D S M N) (r : Result (Unit {0}) RtcError) (q : PolledPeer I D S M N) → ClosesPeerFrom m phase p r q → Fit m laws p → Fit m laws q
  close_fits_from Alive p r q h k = begins_fit p r q h k
  close_fits_from Closing p r q h k = fit_as m laws p q h.1 k
  close_fits_from Closed p r q h k = fit_as m laws p q h.1 k

  pub close_fits : CallFits (ClosesPeer m)
  close_fits p r q h k = close_fits_from p.core.phase p r q h k
