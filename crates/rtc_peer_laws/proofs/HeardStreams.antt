-- A poll of the streams that gave nothing has heard every stream in use.
use Rattle.std.proofs.Common.{◌≡◌, ◌⊎◌, inl, inr, ℕ, Bool, true, false, true≢false, List, [], ◌∷◌, Option, Some, None, Result, Ok, Err, refl, sym, ap, subst, ◌∙◌, arith}
use Rattle.std.specs.Prelude.{◌&&◌, ◌||◌, is_some, nat_le, nat_lt}
use Rattle.rtc_parts.specs.declared.assoc_error.AssocError.{AssocError}
use Rattle.rtc_parts.specs.declared.assoc_error.AssocError.TheVariants.{StreamExists, ResetPending, Closing}
use Rattle.rtc_parts.specs.AssociationNeeds.{need}
use Rattle.rtc_parts.specs.AssociationMeaning.{AssociationMeaning}
use Rattle.rtc_parts.specs.AssociationLaws.{AssociationLaws}
use Rattle.rtc_sctp_entries.specs.declared.opening.Opening.{Opening}
use Rattle.rtc_sctp_entries.specs.declared.opening.Opening.TheVariants as opened
use Rattle.rtc_sctp_entries.specs.declared.stream_entry.StreamEntry.{StreamEntry}
use Rattle.rtc_sctp_entries.specs.declared.stream_entry_state.StreamEntryState.{StreamEntryState}
use Rattle.rtc_sctp_entries.specs.declared.stream_entry_state.StreamEntryState.TheVariants.{AwaitOpen, AwaitConfig, AwaitDcepAck, Open, Closed}
use Rattle.rtc_sctp_entries.specs.declared.met.Met.{Met}
use Rattle.rtc_sctp_entries.specs.declared.met.Met.TheVariants.{Nothing, Again, Output, OutOfMemory}
use Rattle.rtc_sctp_entries.specs.Answers.{opening_of}
use Rattle.rtc_sctp_entries.specs.Entries.{is_closed_state, is_open_awaited}
use Rattle.rtc_sctp_entries.specs.Visits.{Turn, turn, is_opening_over, opening_ends, RetriedIf, RetriedAt, is_adopted, AdoptedIf, OpenedBy, VisitsIn, Visits}
use Rattle.rtc_sctp.specs.Streams.{SctpStreams, is_established}
use Rattle.rtc_sctp.specs.Polls.{Else, unclosed_streams, GivesTransmit, HandlesEvent, VisitedThen, VisitsAll, VisitsIf, VisitsEntries, TakesFirstSteps, AreResting, PollsStreams}
use Rattle.rtc_peer_laws.specs.Drained.{IsHeard, AreHeard, AllHeard, AreTriedAgain, IsTriedAgain, is_opening_refused}
use Rattle.rtc_sctp_entries.proofs.MeetingEntries.{closes_meet, begins_meet}
use Rattle.rtc_sctp_entries.proofs.AnswerLemmas.{exists_is, pending_is}
use Rattle.rtc_sctp_entries.proofs.StillVisits.{Idle, attends_still}
use Rattle.rtc_sctp.specs.Rest.{AreUnclosed}
use Rattle.rtc_sctp.proofs.CallsTended.{unclosed_left}
use Rattle.rtc_sctp.proofs.RestingLemmas.{else_nothing, poll_rests}
use Rattle.rtc_peer_polling.proofs.RestingStreams.{GaveNoEvent, transmit_nothing, event_nothing}

first_of_and : (x y : Bool) → (x && y) ≡ true → x ≡ true
first_of_and true y h = refl
first_of_and false y h = absurd (true≢false (sym h))

both_true : (x y : Bool) → x ≡ true → y ≡ true → (x && y) ≡ true
both_true true y h k = k
both_true false y h k = absurd (true≢false (sym h))

second_of_and : (x y : Bool) → (x && y) ≡ true → y ≡ true
second_of_and true y h = h
second_of_and false y h = absurd (true≢false (sym h))

module _ {S : Type 0} (m : AssociationMeaning S) (w : AssociationLaws m) where
  -- what a visit that gave nothing left
  record Heard (now : ℕ) (t t' : Turn S) : Type 0 where
    association : t'.association ≡ t.association
    heard : IsHeard m t.association t'.entry
    tried : t'.entry.state ≡ AwaitOpen → IsTriedAgain now t'.entry

  -- an opening that was refused is still waited for, and tried again
  record Retried (now : ℕ) (t t' : Turn S) : Type 0 where
    association : t'.association ≡ t.association
    state : t'.entry.state ≡ t.entry.state
    id : t'.entry.id ≡ t.entry.id
    first : ℕ
    refused : t'.entry.refused ≡ Some first
    young : is_opening_over first now ≡ false

  not_over : (now : ℕ) → is_opening_over now now ≡ false
  not_over now = by (nat_lt now now) refl
    where
      irreflexive : nat_lt now now ≡ true → ⊥
      irreflexive h = grind (arith, h)

      by : (b : Bool) → nat_lt now now ≡ b → (b && nat_le (opening_ends now) now) ≡ false
      by true e = absurd (irreflexive e)
      by false e = refl

  retried_waits : (now : ℕ) (refused : Option ℕ) (t t' : Turn S) → t.entry.refused ≡ refused → RetriedAt m now refused t Nothing t'
      → Retried now t t'
  retried_waits now None t t' is h = record {
    association = ap (λ (x : Turn S). x.association) h.1;
    state = ap (λ (x : Turn S). x.entry.state) h.1;
    id = ap (λ (x : Turn S). x.entry.id) h.1;
    first = now;
    refused = ap (λ (x : Turn S). x.entry.refused) h.1;
    young = not_over now;
  }
  retried_waits now (Some first) t t' is h = by (is_opening_over first now) refl h
    where
      by : (b : Bool) → is_opening_over first now ≡ b → RetriedIf m b t Nothing t' → Retried now t t'
      by true e k = absurd (closes_meet m t t' k)
      by false e k = record {
        association = ap (λ (x : Turn S). x.association) k.1;
        state = ap (λ (x : Turn S). x.entry.state) k.1;
        id = ap (λ (x : Turn S). x.entry.id) k.1;
        first = first;
        refused = ap (λ (x : Turn S). x.entry.refused) k.1 ∙ is;
        young = e;
      }

  adopted_waits : (b : Bool) (now : ℕ) (t t' : Turn S) → AdoptedIf m b now t Nothing t' → Retried now t t'
  adopted_waits true now t t' h = absurd (begins_meet m t t' h)
  adopted_waits false now t t' h = retried_waits now t.entry.refused t t' refl h

  -- a refusal that is no ending
  refused_by : (there resetting ending : Bool) (e : AssocError) → (e ≡ Closing → ⊥)
      → need there StreamExists (need resetting ResetPending (need ending Closing None)) ≡ Some e → (there || resetting) ≡ true
  refused_by true resetting ending e other h = refl
  refused_by false true ending e other h = refl
  refused_by false false true e other h = absurd (other (let same : Some Closing ≡ Some e = h in cc))
  refused_by false false false e other h = let clash : None ≡ Some e = h in cc

  waits_heard : (now : ℕ) (t t' : Turn S) (q : S) → t.entry.state ≡ AwaitOpen → q ≡ t.association
      → is_opening_refused m t.association t.entry.id ≡ true → Retried now (record t { association = q }) t' → Heard now t t'
  waits_heard now t t' q state same refused waits = record {
    association = waits.association ∙ same;
    heard =
        inl (
          waits.state ∙ state,
          both_true (is_open_awaited t'.entry.state) (is_some t'.entry.refused) (ap is_open_awaited (waits.state ∙ state)) (ap (λ (o : Option ℕ). is_some o) waits.refused),
          ap (λ (n : ℕ). is_opening_refused m t.association n) waits.id ∙ refused,
        );
    tried = λ opening. (opening, (waits.first, (waits.refused, waits.young)));
  }

  opened_waits : (o : Opening) (now : ℕ) (t t' : Turn S) (q : S) (r : Result (Unit {0}) AssocError) → t.entry.state ≡ AwaitOpen
      → m.opened t.association t.entry.id r q → opening_of r ≡ o → OpenedBy m o now (record t { association = q }) Nothing t' → Heard now t t'
  opened_waits opened.Done now t t' q r state was is h = absurd (begins_meet m (record t { association = q }) t' h)
  opened_waits opened.Refused now t t' q r state was is h = absurd (closes_meet m (record t { association = q }) t' h)
  opened_waits opened.OutOfMemory now t t' q r state was is h = cc (h.0)
  opened_waits opened.Exists now t t' q r state was is h =
      let called = subst (λ (x : Result (Unit {0}) AssocError). m.opened t.association t.entry.id x q) (exists_is r is) was in
      waits_heard now t t' q state (w.open_refused t.association q t.entry.id StreamExists (inl refl) called)
      (refused_by (m.has_stream t.association t.entry.id) (m.resetting t.association t.entry.id) (m.closing t.association || m.closed t.association)
      StreamExists (λ e. let clash : StreamExists ≡ Closing = e in cc) (w.open_answer t.association q t.entry.id (Err StreamExists) called).0)
      (adopted_waits (is_adopted m (record t { association = q })) now (record t { association = q }) t' h)
  opened_waits opened.Pending now t t' q r state was is h =
      let called = subst (λ (x : Result (Unit {0}) AssocError). m.opened t.association t.entry.id x q) (pending_is r is) was in
      waits_heard now t t' q state (w.open_refused t.association q t.entry.id ResetPending (inr refl) called)
      (refused_by (m.has_stream t.association t.entry.id) (m.resetting t.association t.entry.id) (m.closing t.association || m.closed t.association)
      ResetPending (λ e. let clash : ResetPending ≡ Closing = e in cc) (w.open_answer t.association q t.entry.id (Err ResetPending) called).0)
      (retried_waits now t.entry.refused (record t { association = q }) t' refl h)

  -- a stream that was attended
  attended : (now : ℕ) (t t' : Turn S) → is_open_awaited t.entry.state ≡ false → (t' ≡ t) × Idle m t → Heard now t t'
  attended now t t' past h = record {
    association = ap (λ (x : Turn S). x.association) h.0;
    heard =
        subst (λ (x : Turn S). IsHeard m t.association x.entry) (sym h.0)
        (inr (
          h.1.unmarked,
          first_of_and (m.has_stream t.association t.entry.id) _ h.1.there,
          h.1.unread,
          second_of_and (m.has_stream t.association t.entry.id) _ h.1.there,
          past,
        ));
    tried = λ opening.
        absurd
        (true≢false
        (sym (ap is_open_awaited opening) ∙ ap (λ (x : Turn S). is_open_awaited x.entry.state) h.0 ∙ past));
  }

  heard_in : (st : StreamEntryState) (now : ℕ) (t t' : Turn S) → t.entry.state ≡ st → is_closed_state st ≡ false → VisitsIn m st now t Nothing t' → Heard now t t'
  heard_in AwaitOpen now t t' state unclosed h = opened_waits h.answer now t t' h.between h.asks.result state h.asks.called h.asks.is h.then
  heard_in AwaitConfig now t t' state unclosed h = attended now t t' (ap is_open_awaited state) (attends_still m w t t' h)
  heard_in AwaitDcepAck now t t' state unclosed h = attended now t t' (ap is_open_awaited state) (attends_still m w t t' h)
  heard_in Open now t t' state unclosed h = attended now t t' (ap is_open_awaited state) (attends_still m w t t' h)
  heard_in Closed now t t' state unclosed h = cc (unclosed)

  -- a visit of all entries
  record AllOf (now : ℕ) (a a' : S) (es' : List StreamEntry) : Type 0 where
    association : a' ≡ a
    heard : AreHeard m a es'
    tried : AreTriedAgain now es'

  heard_then : (now : ℕ) (e : StreamEntry) (es : List StreamEntry) (a : S) (resets : List ℕ) → is_closed_state e.state ≡ false
      → ((b : S) (rs : List ℕ) (a' : S) (rs' : List ℕ) (es' : List StreamEntry) → VisitsAll m now es b rs Nothing a' rs' es' → AllOf now b a' es')
      → (own : Met) (t : Turn S) → Visits m now (turn a e resets) own t → (a' : S) (resets' : List ℕ) (es' : List StreamEntry)
      → VisitedThen m (VisitsAll m now es) own es t Nothing a' resets' es' → AllOf now a a' es'
  heard_then now e es a resets unclosed rest Nothing t visit a' resets' es' k =
      let one = heard_in e.state now (turn a e resets) t refl unclosed visit in
      let others = rest t.association t.resets a' resets' k.0 k.1 in
      record {
        association = others.association ∙ one.association;
        heard =
            subst (λ (l : List StreamEntry). AreHeard m a l) (sym k.2)
            (one.heard, subst (λ (x : S). AreHeard m x k.0) one.association others.heard);
        tried = subst (λ (l : List StreamEntry). AreTriedAgain now l) (sym k.2) (one.tried, others.tried);
      }
  heard_then now e es a resets unclosed rest Again t visit a' resets' es' k = cc (k.0)
  heard_then now e es a resets unclosed rest (Output o) t visit a' resets' es' k = cc (k.0)
  heard_then now e es a resets unclosed rest OutOfMemory t visit a' resets' es' k = cc (k.0)

  heard_all : (now : ℕ) (es : List StreamEntry) → AreUnclosed es → (a : S) (resets : List ℕ) (a' : S) (resets' : List ℕ) (es' : List StreamEntry)
      → VisitsAll m now es a resets Nothing a' resets' es' → AllOf now a a' es'
  heard_all now [] all a resets a' resets' es' h =
      record {
        association = h.1;
        heard = subst (λ (l : List StreamEntry). AreHeard m a l) (sym h.3) tt;
        tried = subst (λ (l : List StreamEntry). AreTriedAgain now l) (sym h.3) tt;
      }
  heard_all now (e ∷ es) all a resets a' resets' es' h = heard_then now e es a resets all.0 (heard_all now es all.1) h.0 h.1 h.2 a' resets' es' h.3

  -- what the visits of a pass left
  record Passed (p q : SctpStreams S) : Type 0 where
    association : q.association ≡ p.association
    state : q.state ≡ p.state
    last : q.last ≡ p.last
    heard : (is_established p.state && m.started p.association) ≡ true → AreHeard m p.association q.entries
    tried : (is_established p.state && m.started p.association) ≡ true → AreTriedAgain p.last q.entries

  visits_heard : (b : Bool) (p q : SctpStreams S) → (is_established p.state && m.started p.association) ≡ b → AreUnclosed p.entries
      → VisitsIf m b p Nothing q → Passed p q
  visits_heard false p q is all h = record {
    association = ap (λ (x : SctpStreams S). x.association) h.1;
    state = ap (λ (x : SctpStreams S). x.state) h.1;
    last = ap (λ (x : SctpStreams S). x.last) h.1;
    heard = λ due. let clash : false ≡ true = sym is ∙ due in cc;
    tried = λ due. let clash : false ≡ true = sym is ∙ due in cc;
  }
  visits_heard true p q is all h =
      let left = heard_all p.last p.entries all p.association p.resets q.association q.resets q.entries h.0 in
      record {
        association = left.association;
        state = ap (λ (x : SctpStreams S). x.state) h.1;
        last = ap (λ (x : SctpStreams S). x.last) h.1;
        heard = λ due. left.heard;
        tried = λ due. left.tried;
      }

  held_none : (a : S) → (m.started a ≡ false) ⊎ m.polled a None a → m.started a ≡ true → m.gave a None a → m.held a ≡ 0
  held_none a (inl fresh) started gave = let clash : true ≡ false = sym started ∙ fresh in cc
  held_none a (inr polled) started gave = w.silent a a a polled gave

  hears_by : (u y q : SctpStreams S) → y ≡ u → AreUnclosed u.entries → (m.started u.association ≡ true → m.gave u.association None u.association)
      → GaveNoEvent m w u → VisitsEntries m y Nothing q → AllHeard m q
  hears_by u y q is all sent told visits =
      let visits_u = subst (λ (x : SctpStreams S). VisitsEntries m x Nothing q) is visits in
      let left = visits_heard (is_established u.state && m.started u.association) u q refl all visits_u in
      record {
        quiet =
            subst (λ (a : S). m.started a ≡ true → m.held a ≡ 0) (sym left.association)
            (λ started. held_none u.association told started (sent started));
        streams =
            subst (λ (a : S). (is_established q.state && m.started a) ≡ true → AreHeard m a q.entries) (sym left.association)
            (subst (λ (st : _). (is_established st && m.started u.association) ≡ true → AreHeard m u.association q.entries) (sym left.state) left.heard);
        tried =
            subst (λ (n : ℕ). (is_established q.state && m.started q.association) ≡ true → AreTriedAgain n q.entries) (sym left.last)
            (subst (λ (a : S). (is_established q.state && m.started a) ≡ true → AreTriedAgain u.last q.entries) (sym left.association)
            (subst (λ (st : _). (is_established st && m.started u.association) ≡ true → AreTriedAgain u.last q.entries) (sym left.state) left.tried));
      }

  -- steps that met nothing
  steps_hear : (p q : SctpStreams S) → TakesFirstSteps m p Nothing q → AllHeard m q
  unfolding TakesFirstSteps
  steps_hear p q h =
      let one = else_nothing (GivesTransmit m) (Else (HandlesEvent m) (VisitsEntries m)) (unclosed_streams p) q h in
      let two = else_nothing (HandlesEvent m) (VisitsEntries m) one.0 q one.1.1 in
      let sent = transmit_nothing m w p.pushed (unclosed_streams p) one.0 refl one.1.0 in
      let told = event_nothing m w one.0 two.0 two.1.0 in
      hears_by (unclosed_streams p) two.0 q (told.0 ∙ sent.0) (unclosed_left p.entries) sent.2
      (subst (λ (x : SctpStreams S). GaveNoEvent m w x) sent.0 told.1) two.1.1

  heard_as : (p q : SctpStreams S) → q.association ≡ p.association → q.state ≡ p.state → q.last ≡ p.last → q.entries ≡ p.entries
      → AllHeard m p → AllHeard m q
  heard_as p q a st last es h = record {
    quiet = rw a h.quiet;
    streams = rw (st, a, es) h.streams;
    tried = rw (st, a, last, es) h.tried;
  }

  -- streams at rest
  resting_hear : (q : SctpStreams S) → AreResting m q.association q.state q.last q.entries → AllHeard m q
  resting_hear q h = heard_as h.after q h.association_left h.state_left h.last_left h.entries_left (steps_hear h.before h.after h.steps)

  -- a poll of the streams that gave nothing
  pub poll_hears : (p q : SctpStreams S) → PollsStreams m p (Ok None) q → AllHeard m q
  poll_hears p q h = resting_hear q (poll_rests m p q h).2
