-- What calls on the streams and polls of them leave of the start of the association: it stays started or not, and before it nothing is in
-- use.
use Rattle.std.proofs.Common.{◌≡◌, ◌∙◌, ℕ, zero, suc, Bool, true, false, true≢false, List, [], ◌∷◌, Option, Some, None, Result, Ok, Err, refl, sym, ap, subst}
use Rattle.std.specs.Prelude.{◌&&◌, ◌||◌, not}
use Rattle.std.specs.declared.alloc.AllocError.{AllocError}
use Rattle.rtc_ready.specs.Signals.{Signals}
use Rattle.rtc_parts.specs.AssociationActs.{Stirred}
use Rattle.rtc_parts.specs.AssociationLaws.{AssociationLaws}
use Rattle.rtc_parts.specs.AssociationMeaning.{AssociationMeaning}
use Rattle.rtc_parts.specs.Why.{Timed}
use Rattle.rtc_sctp_entries.specs.declared.met.Met.{Met}
use Rattle.rtc_sctp_entries.specs.declared.met.Met.TheVariants.{Nothing, Again, Output, OutOfMemory}
use Rattle.rtc_sctp_entries.specs.declared.sctp_event.SctpEvent.{SctpEvent}
use Rattle.rtc_sctp_entries.specs.Entries.{entry_place, has_open, unclosed}
use Rattle.rtc_sctp_values.specs.declared.sctp_error.SctpError.{SctpError}
use Rattle.rtc_sctp.specs.Calls.{ShutBy, Shuts, InputIf, TakesInput, TimedBy, is_ended}
use Rattle.rtc_sctp.specs.Polls.{Book, book_of, TakesEvent, NotStarted, NoRoom, NoEvent, Event, HandlesEvent}
use Rattle.rtc_sctp.specs.Polls.{ThenBy, Else, CompletionOf, GivesCompletion, TransmitIf, TransmitOf, GivesTransmit, VisitsIf, VisitsEntries, TakesSteps, RestsBy, PassIf, MakesPass, Over, PollsStreams, unclosed_streams}
use Rattle.rtc_sctp.specs.StreamCalls.{ClosesAt, EndsIf}
use Rattle.rtc_sctp.specs.Streams.{SctpStreams, is_established}
use Rattle.rtc_sctp.specs.declared.rtc_sctp_state.RtcSctpState.{RtcSctpState}
use Rattle.rtc_sctp.specs.declared.rtc_sctp_state.RtcSctpState.TheVariants.{Uninited, AwaitRemoteAssociation}
use Rattle.rtc_sctp.specs.declared.rtc_sctp_state.RtcSctpState.TheVariants.{AwaitAssociationEstablished, Established}
use Rattle.rtc_sctp_laws.proofs.CallActs.{shuts_did, input_did, opens_did, closes_did}
use Rattle.rtc_sctp_laws.proofs.ClosingPolls.{started_moved}
use Rattle.rtc_sctp_laws.proofs.PollActs.{poll_did}
use Rattle.rtc_wire.specs.declared.channel_config.ChannelConfig.{ChannelConfig}
use Rattle.rtc_channels.specs.Channels.{Channel, Channels}
use Rattle.rtc_peer_polling.specs.Kept.{KeepsStart}
use Rattle.rtc_channels.specs.Openings.{OpensChannel, OpensAll, Following, Progresses, MeetsMoment, ClosesChannel, can_progress, is_progress_due}

and_false : (a b : Bool) → b ≡ false → (a && b) ≡ false
and_false true b is = is
and_false false b is = refl

module _ {S : Type 0} (m : AssociationMeaning S) where
  -- before the association is started no stream is in use
  abbrev pub IsEmptyBefore : SctpStreams S → Type 0
  IsEmptyBefore p = m.started p.association ≡ false → p.entries ≡ []

  -- so no entry is open before it
  pub empty_shut : (p : SctpStreams S) → IsEmptyBefore p → m.started p.association ≡ false → (id : ℕ) → has_open id p.entries ≡ false
  empty_shut p empty fresh id = ap (has_open id) (empty fresh)

  pub start_self : (p : SctpStreams S) → KeepsStart m p p
  start_self p = record { started = λ s. s; unstarted = λ s. (s, λ none. none) }

  pub start_on : (p q r : SctpStreams S) → KeepsStart m p q → KeepsStart m q r → KeepsStart m p r
  start_on p q r a b = record {
    started = λ s. b.started (a.started s);
    unstarted = λ s. (
      (b.unstarted (a.unstarted s).0).0,
      λ none. (b.unstarted (a.unstarted s).0).1 ((a.unstarted s).1 none),
    );
  }

  pub start_by : (p n q : SctpStreams S) → q ≡ n → KeepsStart m p n → KeepsStart m p q
  start_by p n q is kept = subst (λ (x : SctpStreams S). KeepsStart m p x) (sym is) kept

  -- whether the association is started is the same
  pub started_same : (p q : SctpStreams S) → KeepsStart m p q → m.started q.association ≡ m.started p.association
  started_same p q h = by (m.started p.association) refl
    where
      by : (b : Bool) → m.started p.association ≡ b → m.started q.association ≡ m.started p.association
      by true is = h.started is ∙ sym is
      by false is = (h.unstarted is).0 ∙ sym is

  pub empty_stays : (p q : SctpStreams S) → KeepsStart m p q → IsEmptyBefore p → IsEmptyBefore q
  empty_stays p q h empty = λ fresh.
      let before : m.started p.association ≡ false = sym (started_same p q h) ∙ fresh in
      (h.unstarted before).1 (empty before)

  -- what changed nothing that this asks of
  pub start_alike : (p q : SctpStreams S) → q.association ≡ p.association → (p.entries ≡ [] → q.entries ≡ []) → KeepsStart m p q
  start_alike p q same none = record {
    started = λ s. ap (λ (a : S). m.started a) same ∙ s;
    unstarted = λ s. (ap (λ (a : S). m.started a) same ∙ s, none);
  }

module _ {S : Type 0} (m : AssociationMeaning S) (w : AssociationLaws m) where
  -- ---- calls

  pub shut_start : (p : SctpStreams S) (r : Result (Unit {0}) SctpError) (q : SctpStreams S) → Shuts m p r q → KeepsStart m p q
  shut_start p r q h =
      let d = shuts_did m p r q h in
      record {
        started = λ s. started_moved m w d.did.acts p.association q.association s d.did.went;
        unstarted = λ s.
            let ended : is_ended m p.association ≡ true = ap (λ (b : Bool). not b || (m.closing p.association || m.closed p.association)) s in
            let same : q ≡ p = (subst (λ (b : Bool). ShutBy m b p r q) ended h).1 in
            (ap (λ (x : SctpStreams S). m.started x.association) same ∙ s, λ none. ap (λ (x : SctpStreams S). x.entries) same ∙ none);
      }

  pub input_start : (now : ℕ) (bytes : List ℕ) (p : SctpStreams S) (r : Result (Unit {0}) AllocError) (q : SctpStreams S)
      → TakesInput m now bytes p r q → KeepsStart m p q
  input_start now bytes p r q h =
      let d = input_did m now bytes p r q h in
      record {
        started = λ s. started_moved m w d.did.acts p.association q.association s d.did.went;
        unstarted = λ s.
            let same : q ≡ p = (subst (λ (b : Bool). InputIf m b now bytes p r q) s h).1 in
            (ap (λ (x : SctpStreams S). m.started x.association) same ∙ s, λ none. ap (λ (x : SctpStreams S). x.entries) same ∙ none);
      }

  -- the entries that are left at a moment
  left_empty : (p q : SctpStreams S) → q.entries ≡ unclosed p.entries → p.entries ≡ [] → q.entries ≡ []
  left_empty p q left none = left ∙ ap unclosed none

  timed_act : (now : ℕ) (p q : SctpStreams S) (r : Result (Unit {0}) AllocError) → m.timed p.association now r q.association
      → q.entries ≡ unclosed p.entries → KeepsStart m p q
  timed_act now p q r h left =
      let same : m.started q.association ≡ m.started p.association =
      (w.same_start p.association q.association (Stirred (Timed now)) refl (r, h)).0 in
      record { started = λ s. same ∙ s; unstarted = λ s. (same ∙ s, left_empty p q left) }

  pub timed_start : (state : RtcSctpState) (now : ℕ) (p : SctpStreams S) (wake : Signals) (r : Result (Unit {0}) AllocError)
      (q : SctpStreams S) (wake' : Signals) → TimedBy m state now p wake r q wake' → KeepsStart m p q
  timed_start Uninited now p wake r q wake' h = start_by m p p q h.1 (start_self m p)
  timed_start AwaitRemoteAssociation now p wake r q wake' h =
      start_alike m p q (ap (λ (x : SctpStreams S). x.association) h.1) (left_empty p q (ap (λ (x : SctpStreams S). x.entries) h.1))
  timed_start AwaitAssociationEstablished now p wake r q wake' h = timed_act now p q r h.0 (ap (λ (x : SctpStreams S). x.entries) h.1)
  timed_start Established now p wake r q wake' h = timed_act now p q r h.0 (ap (λ (x : SctpStreams S). x.entries) h.1)

  closes_none : (id : ℕ) (p q : SctpStreams S) (r : Result (Unit {0}) AllocError) → p.entries ≡ []
      → ClosesAt m (entry_place id p.entries) id p.association p.entries p.resets r q.association q.entries q.resets → q.entries ≡ []
  closes_none id p q r none h =
      (subst (λ (place : Option ℕ). ClosesAt m place id p.association p.entries p.resets r q.association q.entries q.resets)
      (ap (entry_place id) none) h).2 ∙ none

  -- ---- channels that are opened, over an association that was started

  open_started : (stream : Option ℕ) (config : Option ChannelConfig) (id : ℕ) (held : Channels) (p : SctpStreams S)
      (r : Result (Unit {0}) AllocError) (held' : Channels) (q : SctpStreams S) → OpensChannel m stream config id held p r held' q
      → m.started p.association ≡ true → m.started q.association ≡ true
  open_started (Some stream) (Some config) id held p r held' q h s =
      let d = opens_did m stream config p r q h.0 in started_moved m w d.did.acts p.association q.association s d.did.went
  open_started (Some stream) None id held p r held' q h s = ap (λ (x : SctpStreams S). m.started x.association) h.2 ∙ s
  open_started None config id held p r held' q h s = ap (λ (x : SctpStreams S). m.started x.association) h.2 ∙ s

  all_started : (channels : List Channel) (held : Channels) (p : SctpStreams S) (r : Result (Unit {0}) AllocError) (held' : Channels)
      (q : SctpStreams S) → OpensAll m channels held p r held' q → m.started p.association ≡ true → m.started q.association ≡ true
  all_started [] held p r held' q h s = ap (λ (x : SctpStreams S). m.started x.association) h.2 ∙ s
  all_started (channel ∷ rest) held p r held' q h s =
      by h.0 (λ behind. all_started rest h.1 h.2 r held' q behind) h.4
      (open_started channel.stream channel.config channel.id held p h.0 h.1 h.2 h.3 s)
    where
      by : (did : Result (Unit {0}) AllocError)
          → (OpensAll m rest h.1 h.2 r held' q → m.started h.2.association ≡ true → m.started q.association ≡ true)
          → Following did (OpensAll m rest h.1 h.2 r held' q) ((r ≡ did) × (held' ≡ h.1) × (q ≡ h.2))
          → m.started h.2.association ≡ true → m.started q.association ≡ true
      by (Ok done) later behind now = later behind now
      by (Err error) later behind now = ap (λ (x : SctpStreams S). m.started x.association) behind.2 ∙ now

  moment_started : (held : Channels) (p : SctpStreams S) (r : Result (Unit {0}) AllocError) (held' : Channels) (q : SctpStreams S)
      → Progresses m held p r held' q → m.started p.association ≡ true → m.started q.association ≡ true
  moment_started held p r held' q h s = by h.0 h.3
    where
      by : (did : Result (Unit {0}) AllocError)
          → Following did (OpensAll m h.1.rows h.1 p r held' q) ((r ≡ did) × (held' ≡ h.1) × (q ≡ p)) → m.started q.association ≡ true
      by (Ok done) behind = all_started h.1.rows h.1 p r held' q behind s
      by (Err error) behind = ap (λ (x : SctpStreams S). m.started x.association) behind.2 ∙ s

  pub moment_start : (held : Channels) (p : SctpStreams S) (wake : Signals) (r : Result (Unit {0}) AllocError)
      (held' : Channels) (q : SctpStreams S) (wake' : Signals) → MeetsMoment m (is_progress_due m held p) held p wake r held' q wake'
      → KeepsStart m p q
  moment_start held p wake r held' q wake' h = by (m.started p.association) refl
    where
      by : (b : Bool) → m.started p.association ≡ b → KeepsStart m p q
      by false is =
          let same : q ≡ p =
          (subst (λ (b : Bool). MeetsMoment m (b && can_progress p.client held) held p wake r held' q wake') is h).2 in
          start_by m p p q same (start_self m p)
      by true is = due (can_progress p.client held) (subst (λ (b : Bool). MeetsMoment m (b && can_progress p.client held) held p wake r held' q wake') is h)
        where
          due : (can : Bool) → MeetsMoment m (true && can) held p wake r held' q wake' → KeepsStart m p q
          due true k = record {
            started = λ s. moment_started held p r held' q k.0 s;
            unstarted = λ s. absurd (true≢false (sym is ∙ s));
          }
          due false k = start_by m p p q k.2 (start_self m p)

  -- ---- polls, over an association that is not started

  -- nothing of it changes, and no stream comes into use
  abbrev Rests : SctpStreams S → SctpStreams S → Type 0
  Rests p q = (q.association ≡ p.association) × (p.entries ≡ [] → q.entries ≡ [])

  abbrev RestingStep : (SctpStreams S → Met → SctpStreams S → Type 0) → Type 0
  RestingStep step = (p : SctpStreams S) (met : Met) (q : SctpStreams S) → m.started p.association ≡ false → step p met q → Rests p q

  rests_same : (p q : SctpStreams S) → q ≡ p → Rests p q
  rests_same p q is = (ap (λ (x : SctpStreams S). x.association) is, λ none. ap (λ (x : SctpStreams S). x.entries) is ∙ none)

  rests_on : (p n q : SctpStreams S) → Rests p n → Rests n q → Rests p q
  rests_on p n q a b = (b.0 ∙ a.0, λ none. b.1 (a.1 none))

  still : (p n : SctpStreams S) → Rests p n → m.started p.association ≡ false → m.started n.association ≡ false
  still p n a s = ap (λ (x : S). m.started x) a.0 ∙ s

  then_rests : (next : SctpStreams S → Met → SctpStreams S → Type 0) → RestingStep next → (own : Met) (p : SctpStreams S) (met : Met)
      (q : SctpStreams S) → m.started p.association ≡ false → ThenBy next own p met q → Rests p q
  then_rests next one Nothing p met q s h = one p met q s h
  then_rests next one Again p met q s h = rests_same p q h.1
  then_rests next one (Output e) p met q s h = rests_same p q h.1
  then_rests next one OutOfMemory p met q s h = rests_same p q h.1

  else_rests : (first next : SctpStreams S → Met → SctpStreams S → Type 0) → RestingStep first → RestingStep next → RestingStep (Else first next)
  else_rests first next one other p met q s h =
      let before : Rests p h.1.0 = one p h.0 h.1.0 s h.1.1.0 in
      rests_on p h.1.0 q before (then_rests next other h.0 h.1.0 met q (still p h.1.0 before s) h.1.1.1)

  transmit_rests : (pushed : Option (List (List ℕ))) (p : SctpStreams S) (met : Met) (q : SctpStreams S) → m.started p.association ≡ false
      → TransmitOf m pushed p met q → Rests p q
  transmit_rests (Some packets) p met q s h =
      (ap (λ (x : SctpStreams S). x.association) h.1, λ none. ap (λ (x : SctpStreams S). x.entries) h.1 ∙ none)
  transmit_rests None p met q s h = rests_same p q (subst (λ (b : Bool). TransmitIf m b p met q) s h).1

  event_rests : (p : SctpStreams S) (met : Met) (q : SctpStreams S) → m.started p.association ≡ false
      → TakesEvent m p.association (book_of p) met q.association (book_of q) → Rests p q
  event_rests p met q s (NotStarted fresh is same book) = (same, λ none. ap (λ (b : Book). b.entries) book ∙ none)
  event_rests p met q s (NoRoom is same book) = (same, λ none. ap (λ (b : Book). b.entries) book ∙ none)
  event_rests p met q s (NoEvent started polled is book) = absurd (true≢false (sym started ∙ s))
  event_rests p met q s (Event e started polled is after) = absurd (true≢false (sym started ∙ s))

  visits_rest : (p : SctpStreams S) (met : Met) (q : SctpStreams S) → m.started p.association ≡ false → VisitsEntries m p met q → Rests p q
  visits_rest p met q s h =
      rests_same p q (subst (λ (b : Bool). VisitsIf m b p met q) (and_false (is_established p.state) (m.started p.association) s) h).1

  completion_rests : (completed : List ℕ) (p : SctpStreams S) (met : Met) (q : SctpStreams S) → CompletionOf completed p met q → Rests p q
  completion_rests [] p met q h =
      (ap (λ (x : SctpStreams S). x.association) h.1, λ none. ap (λ (x : SctpStreams S). x.entries) h.1 ∙ none)
  completion_rests (id ∷ rest) p met q h =
      (ap (λ (x : SctpStreams S). x.association) h.1, λ none. ap (λ (x : SctpStreams S). x.entries) h.1 ∙ none)

  pushed_rests : (pushed : Option (List (List ℕ))) (p : SctpStreams S) (met : Met) (q : SctpStreams S) → RestsBy pushed p met q → Rests p q
  pushed_rests (Some packets) p met q h =
      (ap (λ (x : SctpStreams S). x.association) h.1, λ none. ap (λ (x : SctpStreams S). x.entries) h.1 ∙ none)
  pushed_rests None p met q h = rests_same p q h.1

  pass_if_rests : (rests : Bool) (p : SctpStreams S) (met : Met) (q : SctpStreams S) → m.started p.association ≡ false → PassIf m rests p met q → Rests p q
  unfolding TakesSteps
  pass_if_rests true p met q s h = pushed_rests p.pushed p met q h.0
  pass_if_rests false p met q s h =
      rests_on p (unclosed_streams p) q (refl, λ none. ap unclosed none)
      (else_rests (GivesTransmit m) _ (λ p met q s h. transmit_rests p.pushed p met q s h)
      (else_rests (HandlesEvent m) _ (λ p met q s h. event_rests p met q s h.0)
      (else_rests (VisitsEntries m) GivesCompletion visits_rest (λ p met q s h. completion_rests p.completed p met q h)))
      (unclosed_streams p) met q s h)

  pass_rests : RestingStep (MakesPass m)
  unfolding MakesPass
  pass_rests p met q s h = pass_if_rests p.rests p met q s h

  over_rests : (n : ℕ) (p q : SctpStreams S) → m.started p.association ≡ false → Over m n p q → Rests p q
  over_rests zero p q s h = rests_same p q h
  over_rests (suc n) p q s h =
      let before : Rests p h.0 = over_rests n p h.0 s h.1 in rests_on p h.0 q before (pass_rests h.0 Again q (still p h.0 before s) h.2)

  pub polled_start : (p : SctpStreams S) (r : Result (Option SctpEvent) AllocError) (q : SctpStreams S) → PollsStreams m p r q → KeepsStart m p q
  polled_start p r q h =
      let d = poll_did m w p r q h in
      record {
        started = λ s. started_moved m w d.did.acts p.association q.association s d.did.went;
        unstarted = λ s.
            let before : Rests p h.between = over_rests h.passes p h.between s h.over in
            let all : Rests p q = rests_on p h.between q before (pass_rests h.between h.met q (still p h.between before s) h.last) in
            (still p q all s, all.1);
      }

  -- a stream is closed
  pub closed_start : (stream : Option ℕ) (p : SctpStreams S) (r : Result (Unit {0}) AllocError) (q : SctpStreams S)
      → ClosesChannel m stream p r q → KeepsStart m p q
  closed_start None p r q h = start_by m p p q h.1 (start_self m p)
  closed_start (Some stream) p r q h =
      let d = closes_did m stream p r q h in
      record {
        started = λ s. started_moved m w d.did.acts p.association q.association s d.did.went;
        unstarted = λ s. (unstarted_close (entry_place stream p.entries) p q r s h.0, λ none. closes_none stream p q r none h.0);
      }
    where
      unstarted_close : (place : Option ℕ) (p q : SctpStreams S) (r : Result (Unit {0}) AllocError) → m.started p.association ≡ false
          → ClosesAt m place stream p.association p.entries p.resets r q.association q.entries q.resets → m.started q.association ≡ false
      unstarted_close None p q r s k = ap (λ (a : S). m.started a) k.1 ∙ s
      unstarted_close (Some place) p q r s k = ends p q r s (m.started p.association) s k.1
        where
          ends : (p q : SctpStreams S) (r : Result (Unit {0}) AllocError) → m.started p.association ≡ false → (b : Bool) → b ≡ false
              → EndsIf m b stream p.association p.resets r q.association q.resets → m.started q.association ≡ false
          ends p q r s true is k = absurd (true≢false is)
          ends p q r s false is k = ap (λ (a : S). m.started a) k.1 ∙ s
