-- Changes of channels and of their entries by which no item comes: nothing comes before a start, and an association that is not
-- established stays so, unless it becomes connected.
use Rattle.std.proofs.Common.{◌≡◌, ◌∙◌, ◌⊎◌, ◌≤◌, inl, inr, ℕ, zero, suc, Bool, true, false, true≢false, List, [], ◌∷◌, Option, Some, None, Result, Ok, Err, refl, sym, ap, subst, arith}
use Rattle.std.specs.declared.alloc.AllocError.{AllocError}
use Rattle.rtc_ready.specs.Signals.{Signals}
use Rattle.rtc_wire.specs.declared.channel_config.ChannelConfig.{ChannelConfig}
use Rattle.rtc_parts.specs.declared.assoc_event.AssocEvent.{AssocEvent}
use Rattle.rtc_parts.specs.AssociationActs.{AssociationAct, Moved}
use Rattle.rtc_assoc_state.proofs.PlainLaws.{plain_laws}
use Rattle.rtc_assoc_state.specs.Contents.{Contents, is_started}
use Rattle.rtc_assoc_state.specs.PlainMeaning.{plain_meaning}
use Rattle.rtc_sctp.specs.declared.rtc_sctp_state.RtcSctpState.{RtcSctpState}
use Rattle.rtc_sctp.specs.declared.rtc_sctp_state.RtcSctpState.TheVariants.{Uninited, AwaitRemoteAssociation, AwaitAssociationEstablished, Established}
use Rattle.rtc_sctp.specs.Streams.{SctpStreams, is_established}
use Rattle.rtc_sctp.specs.Calls.{TakesTimeout, TimedBy}
use Rattle.rtc_sctp.specs.StreamCalls.{SetsThreshold}
use Rattle.rtc_sctp_laws.specs.StreamActs.{AssociationDid}
use Rattle.rtc_sctp_laws.specs.StreamMessages.{StreamMessage}
use Rattle.rtc_sctp_laws.proofs.CallActs.{closes_did, opens_did, timeout_did}
use Rattle.rtc_sctp_laws.proofs.ClosingPolls.{started_moved}
use Rattle.rtc_sctp_laws.proofs.PollActs.{poll_did}
use Rattle.rtc_channels.specs.Channels.{Channel, Channels}
use Rattle.rtc_channels.specs.Openings.{Following, OpensChannel, OpensAll, MeetsMoment}
use Rattle.rtc_peer_laws.specs.RowsChanged.{ChangeRows, MovedUngiven, OnlyActs, RowsChange, RowsChanged, Stayed, Polled, Timed, Progressed, ThresholdSet, StreamClosed, Confirmed, Made}
use Rattle.rtc_peer_laws.proofs.ChangedRows.{unstarted_before}
use Rattle.rtc_run_laws.proofs.CalmActs.{received_rises}
use Rattle.rtc_run_laws.proofs.ConnectedActs.{IsAsBefore, alike_between, between_same, connected_rises, others_moved}
use Rattle.rtc_run_laws.proofs.EndReports.{is_connected}
use Rattle.rtc_run_laws.proofs.QuietActs.{Unraised, quiet_moved}
use Rattle.rtc_run_laws.proofs.UnestablishedPolls.{IsUnestablished, poll_waits}

-- items are counted up; one that is not started had nothing come; and one that waits to be established does so
pub record Unestablishes (p q : SctpStreams Contents) : Type 0 where
  pub received : p.association.inbox.received ≤ q.association.inbox.received
  pub started : is_started p.association ≡ true → is_started q.association ≡ true
  pub fresh : is_started q.association ≡ false → Unraised p.association q.association
  pub connected : q.association.inbox.received ≡ p.association.inbox.received → is_connected p.association ≡ true
      → is_connected q.association ≡ true
  pub keeps : IsAsBefore p.association q.association → is_started p.association ≡ true → IsUnestablished p → IsUnestablished q

pub unestablishes_same : (p q : SctpStreams Contents) → q ≡ p → Unestablishes p q
unestablishes_same p q is =
    subst (λ (x : SctpStreams Contents). Unestablishes p x) (sym is)
    (record { received = omega arith; started = λ s. s; fresh = λ e s g u. u; connected = λ same e. e; keeps = λ same s k. k })

pub unstarted_first : (p n : SctpStreams Contents) → (is_started p.association ≡ true → is_started n.association ≡ true) → is_started n.association ≡ false
    → is_started p.association ≡ false
unstarted_first p n goes e = by (is_started p.association) refl
  where
    by : (b : Bool) → is_started p.association ≡ b → b ≡ false
    by true s = absurd (true≢false (sym (goes s) ∙ e))
    by false s = refl

up : (a b c : ℕ) → a ≤ b → b ≤ c → a ≤ c
up a b c h k = omega (arith, h, k)

between_alike : (p n q : SctpStreams Contents) → Unestablishes p n → Unestablishes n q → IsAsBefore p.association q.association
    → IsAsBefore p.association n.association × IsAsBefore n.association q.association
between_alike p n q h k same =
    let count =
    between_same p.association.inbox.received n.association.inbox.received q.association.inbox.received h.received k.received same.0 in
    let alike =
    alike_between (is_connected p.association) (is_connected n.association) (is_connected q.association) (h.connected count.0) (k.connected count.1)
    same.1 in
    ((count.0, alike.0), (count.1, alike.1))

unestablishes_join : (p n q : SctpStreams Contents) → Unestablishes p n → Unestablishes n q → Unestablishes p q
unestablishes_join p n q h k = record {
  received = up p.association.inbox.received n.association.inbox.received q.association.inbox.received h.received k.received;
  started = λ s. k.started (h.started s);
  fresh = λ e s g u. h.fresh (unstarted_first n q k.started e) s g (k.fresh e s g u);
  connected = λ same e.
      let count = between_same p.association.inbox.received n.association.inbox.received q.association.inbox.received h.received k.received same in
      k.connected count.1 (h.connected count.0 e);
  keeps = λ same s x. let alike = between_alike p n q h k same in k.keeps alike.1 (h.started s) (h.keeps alike.0 s x);
}

-- by the acts that were done
unestablishes_by : (acts : List AssociationAct) (p q : SctpStreams Contents) → Moved plain_meaning p.association acts q.association
    → (is_started q.association ≡ false → Unraised p.association q.association)
    → (is_started p.association ≡ true → IsUnestablished p → is_established q.state ≡ false) → Unestablishes p q
unestablishes_by acts p q went fresh waits = record {
  received = received_rises acts p.association q.association went;
  started = λ s. started_moved plain_meaning plain_laws acts p.association q.association s went;
  fresh = fresh;
  connected = λ same e. connected_rises acts p.association q.association went same e;
  keeps = λ same s k. (waits s k, others_moved acts p.association q.association went same k.1);
}

-- by acts that give no packet
unestablishes_did : (outs : List (List ℕ)) (tells : List AssocEvent) (wrote heard : List StreamMessage) (p q : SctpStreams Contents)
    → AssociationDid plain_meaning [] outs tells wrote heard p.association q.association → (IsUnestablished p → is_established q.state ≡ false)
    → Unestablishes p q
unestablishes_did outs tells wrote heard p q d waits =
    unestablishes_by d.acts p q d.went (λ e. (quiet_moved d.acts p.association q.association d.went d.given_is).unraised) (λ s k. waits k)

-- over the same association
over_same : (p q : SctpStreams Contents) → q.association ≡ p.association → q.state ≡ p.state → Unestablishes p q
over_same p q same state =
    unestablishes_by [] p q same (λ e. (quiet_moved [] p.association q.association same refl).unraised) (λ s k. ap is_established state ∙ k.0)

-- ---- moments

opens_one : (stream : Option ℕ) (config : Option ChannelConfig) (id : ℕ) (held : Channels) (p : SctpStreams Contents)
    (r : Result (Unit {0}) AllocError) (held' : Channels) (q : SctpStreams Contents) → OpensChannel plain_meaning stream config id held p r held' q
    → Unestablishes p q
opens_one (Some t) (Some config) id held p r held' q h =
    let d = opens_did plain_meaning t config p r q h.0 in
    unestablishes_did [] [] [] [] p q d.did (λ k. ap (λ (x : SctpStreams Contents). is_established x.state) h.0.1 ∙ k.0)
opens_one (Some t) None id held p r held' q h = unestablishes_same p q h.2
opens_one None config id held p r held' q h = unestablishes_same p q h.2

all_opened : (rows : List Channel) (held : Channels) (p : SctpStreams Contents) (r : Result (Unit {0}) AllocError) (held' : Channels)
    (q : SctpStreams Contents) → OpensAll plain_meaning rows held p r held' q → Unestablishes p q
all_opened [] held p r held' q h = unestablishes_same p q h.2
all_opened (row ∷ rows) held p r held' q h =
    unestablishes_join p h.2 q (opens_one row.stream row.config row.id held p h.0 h.1 h.2 h.3)
    (by h.0 (λ after. all_opened rows h.1 h.2 r held' q after) h.4)
  where
    by : (did : Result (Unit {0}) AllocError) → (OpensAll plain_meaning rows h.1 h.2 r held' q → Unestablishes h.2 q)
        → Following did (OpensAll plain_meaning rows h.1 h.2 r held' q) ((r ≡ did) × (held' ≡ h.1) × (q ≡ h.2)) → Unestablishes h.2 q
    by (Ok done) rest after = rest after
    by (Err error) rest after = unestablishes_same h.2 q after.2

progressed : (p : SctpStreams Contents) (r : Result (Unit {0}) AllocError) (held' : Channels) (q : SctpStreams Contents)
    (did : Result (Unit {0}) AllocError) (between : Channels)
    → Following did (OpensAll plain_meaning between.rows between p r held' q) ((r ≡ did) × (held' ≡ between) × (q ≡ p)) → Unestablishes p q
progressed p r held' q (Ok done) between h = all_opened between.rows between p r held' q h
progressed p r held' q (Err error) between h = unestablishes_same p q h.2

moment_met : (due : Bool) (held : Channels) (p : SctpStreams Contents) (wake : Signals) (r : Result (Unit {0}) AllocError) (held' : Channels)
    (q : SctpStreams Contents) (wake' : Signals) → MeetsMoment plain_meaning due held p wake r held' q wake' → Unestablishes p q
moment_met false held p wake r held' q wake' h = unestablishes_same p q h.2
moment_met true held p wake r held' q wake' h = progressed p r held' q h.0.0 h.0.1 h.0.3

-- ---- changes

only_acts : (a b : SctpStreams Contents) → OnlyActs plain_meaning a b → Unestablishes a b
only_acts a b h = unestablishes_by h.acts a b h.went (λ e. fresh e (h.ungiven (unstarted_before plain_meaning plain_laws h.acts a.association b.association h.went e)))
    (λ s k. waits s k (is_established b.state) refl)
  where
    fresh : is_started b.association ≡ false → (is_started b.association ≡ true) ⊎ MovedUngiven plain_meaning a.association b.association
        → Unraised a.association b.association
    fresh e (inl s) = absurd (true≢false (sym s ∙ e))
    fresh e (inr moved) = (quiet_moved moved.acts a.association b.association moved.went moved.none).unraised

    last : is_started a.association ≡ true → IsUnestablished a
        → (is_established a.state ≡ true) ⊎ ((is_started a.association ≡ false) × (is_started b.association ≡ true)) → ⊥
    last s k (inl e) = true≢false (sym e ∙ k.0)
    last s k (inr u) = true≢false (sym s ∙ u.0)

    waits : is_started a.association ≡ true → IsUnestablished a → (x : Bool) → is_established b.state ≡ x → x ≡ false
    waits s k true e = absurd (last s k (h.lasts e))
    waits s k false e = refl

timed_state : (state : RtcSctpState) (now : ℕ) (p : SctpStreams Contents) (wake : Signals) (r : Result (Unit {0}) AllocError)
    (q : SctpStreams Contents) (wake' : Signals) → TimedBy plain_meaning state now p wake r q wake' → q.state ≡ p.state
timed_state Uninited now p wake r q wake' h = ap (λ (x : SctpStreams Contents). x.state) h.1
timed_state AwaitRemoteAssociation now p wake r q wake' h = ap (λ (x : SctpStreams Contents). x.state) h.1
timed_state AwaitAssociationEstablished now p wake r q wake' h = ap (λ (x : SctpStreams Contents). x.state) h.1
timed_state Established now p wake r q wake' h = ap (λ (x : SctpStreams Contents). x.state) h.1

timed : (now : ℕ) (a : SctpStreams Contents) (wake : Signals) (r : Result (Unit {0}) AllocError) (b : SctpStreams Contents) (wake' : Signals)
    → TakesTimeout plain_meaning now a wake r b wake' → Unestablishes a b
timed now a wake r b wake' h =
    let d = timeout_did plain_meaning now a wake r b wake' h in
    unestablishes_did [] [] [] [] a b d.did (λ k. ap is_established (timed_state a.state now a wake r b wake' h) ∙ k.0)

threshold : (n : ℕ) (place : Option ℕ) (a b : SctpStreams Contents) → SetsThreshold Contents n place a b → Unestablishes a b
threshold n None a b h = unestablishes_same a b h
threshold n (Some place) a b h =
    over_same a b (ap (λ (x : SctpStreams Contents). x.association) h.2) (ap (λ (x : SctpStreams Contents). x.state) h.2)

change : (held : Channels) (a : SctpStreams Contents) (held' : Channels) (b : SctpStreams Contents) → RowsChange plain_meaning held a held' b
    → Unestablishes a b
change held a held' b (Stayed rows h) = only_acts a b h
change held a held' b (Polled answer streams h rows association entries state client) =
    let d = poll_did plain_meaning plain_laws a answer streams h in
    unestablishes_join a streams b
    (unestablishes_did d.outs d.tells d.wrote d.heard a streams d.did (λ k. (poll_waits a answer streams h k).0))
    (over_same streams b association state)
change held a held' b (Timed now wake wake' r h is) = timed now a wake r b wake' h
change held a held' b (Progressed now wake wake' between h due started signals signals' t) =
    unestablishes_join a between b (timed now a wake (Ok tt) between wake' h) (moment_met due held between signals (Ok tt) held' b signals' t)
change held a held' b (ThresholdSet n place h is) = threshold n place a b h
change held a held' b (StreamClosed stream r h is) =
    let d = closes_did plain_meaning stream a r b h in
    unestablishes_did [] [] [] [] a b d.did (λ k. ap (λ (x : SctpStreams Contents). is_established x.state) h.1 ∙ k.0)
change held a held' b (Confirmed channels is h) = only_acts a b h
change held a held' b (Made config is h) = only_acts a b h

changes : (n : ℕ) (held : Channels) (a : SctpStreams Contents) (held' : Channels) (b : SctpStreams Contents) → ChangeRows plain_meaning n held a held' b
    → Unestablishes a b
changes zero held a held' b h = unestablishes_same a b h.1
changes (suc n) held a held' b h =
    unestablishes_join a h.1.0 b (changes n held a h.0 h.1.0 h.1.1.0) (change h.0 h.1.0 held' b h.1.1.1)

pub rows_unestablish : (held : Channels) (a : SctpStreams Contents) (held' : Channels) (b : SctpStreams Contents)
    → RowsChanged plain_meaning held a held' b → Unestablishes a b
rows_unestablish held a held' b h = changes h.changes held a held' b h.changed
