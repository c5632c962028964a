-- Changes of channels and of their entries leave a stream shut that is there, where no item comes and its generation stays.
use Rattle.std.proofs.Common.{◌≡◌, ◌≤◌, ℕ, zero, suc, Bool, true, false, List, [], ◌∷◌, Option, Some, None, Result, Ok, Err, sym, ap, subst, arith}
use Rattle.std.specs.declared.alloc.AllocError.{AllocError}
use Rattle.rtc_ready.specs.Signals.{Signals}
use Rattle.rtc_wire.specs.declared.channel_config.ChannelConfig.{ChannelConfig}
use Rattle.rtc_parts.specs.AssociationActs.{AssociationAct, Moved}
use Rattle.rtc_assoc_state.proofs.PlainLaws.{plain_laws}
use Rattle.rtc_assoc_state.specs.Contents.{Contents, generation_of}
use Rattle.rtc_assoc_state.specs.PlainMeaning.{plain_meaning}
use Rattle.rtc_sctp.specs.Streams.{SctpStreams}
use Rattle.rtc_sctp.specs.Calls.{TakesTimeout}
use Rattle.rtc_sctp.specs.StreamCalls.{SetsThreshold}
use Rattle.rtc_sctp_laws.proofs.CallActs.{closes_did, opens_did, timeout_did}
use Rattle.rtc_sctp_laws.proofs.PlainGenerations.{plain_generations}
use Rattle.rtc_sctp_laws.proofs.PollActs.{poll_did}
use Rattle.rtc_channels.specs.Channels.{Channel, Channels}
use Rattle.rtc_channels.specs.Openings.{Following, OpensChannel, OpensAll, MeetsMoment}
use Rattle.rtc_peer_laws.specs.RowsChanged.{ChangeRows, OnlyActs, RowsChange, RowsChanged, Stayed, Polled, Timed, Progressed, ThresholdSet, StreamClosed, Confirmed, Made}
use Rattle.rtc_run_laws.proofs.CalmActs.{calm_moved, generations_rise, plain_shut, received_rises}
use Rattle.rtc_run_laws.proofs.SilentEnds.{IsSilentEnd}
use Rattle.rtc_run_laws.proofs.ShutEntries.{shut_is}
use Rattle.rtc_run_laws.proofs.ShutPolls.{IsShutStream, poll_shut}
use Rattle.rtc_run_laws.proofs.ShutCalls.{closes_shut, opens_shut, threshold_shut, timeout_shut}

module _ (s : ℕ) where
  -- the stream is there, and shut, and nothing that was received is to be reported
  abbrev pub IsShutOne : SctpStreams Contents → Type 0
  IsShutOne p = IsShutStream plain_meaning IsSilentEnd plain_laws plain_generations plain_shut s p

  -- no item came, and the stream has the generation that it had
  abbrev pub IsStill : Contents → Contents → Type 0
  IsStill a b = (b.inbox.received ≡ a.inbox.received) × (generation_of b s ≡ generation_of a s)

  -- items are counted up, and so are generations; a shut stream stays so if nothing came
  pub record ShutGoes (p q : SctpStreams Contents) : Type 0 where
    pub received : p.association.inbox.received ≤ q.association.inbox.received
    pub generation : generation_of p.association s ≤ generation_of q.association s
    pub keeps : IsStill p.association q.association → IsShutOne p → IsShutOne q

  pub shut_same : (p q : SctpStreams Contents) → q ≡ p → ShutGoes p q
  shut_same p q is =
      subst (λ (x : SctpStreams Contents). ShutGoes p x) (sym is)
      (record { received = omega arith; generation = omega arith; keeps = λ still k. k })

  shut_join : (p n q : SctpStreams Contents) → ShutGoes p n → ShutGoes n q → ShutGoes p q
  shut_join p n q h k = record {
    received = (let one = h.received in let two = k.received in omega (arith, one, two));
    generation = (let one = h.generation in let two = k.generation in omega (arith, one, two));
    keeps = λ still x. k.keeps (last still) (h.keeps (first still) x);
  }
    where
      first : IsStill p.association q.association → IsStill p.association n.association
      first still = (
        (let one = h.received in let two = k.received in let same = still.0 in omega (arith, one, two, same)),
        (let one = h.generation in let two = k.generation in let same = still.1 in omega (arith, one, two, same)),
      )

      last : IsStill p.association q.association → IsStill n.association q.association
      last still = (
        (let one = h.received in let two = k.received in let same = still.0 in omega (arith, one, two, same)),
        (let one = h.generation in let two = k.generation in let same = still.1 in omega (arith, one, two, same)),
      )

  -- by the acts that were done
  shut_by : (acts : List AssociationAct) (p q : SctpStreams Contents) → Moved plain_meaning p.association acts q.association
      → (IsStill p.association q.association → IsShutOne p → IsShutOne q) → ShutGoes p q
  shut_by acts p q went keeps = record {
    received = received_rises acts p.association q.association went;
    generation = generations_rise s acts p.association q.association went;
    keeps = keeps;
  }

  -- over the same entries
  shut_acts : (acts : List AssociationAct) (p q : SctpStreams Contents) → Moved plain_meaning p.association acts q.association → q.entries ≡ p.entries
      → ShutGoes p q
  shut_acts acts p q went entries =
      shut_by acts p q went
      (λ still k. (calm_moved s acts p.association q.association went still.0 still.1 k.0, shut_is s p.entries q.entries entries k.1))

  -- ---- moments

  opens_one : (stream : Option ℕ) (config : Option ChannelConfig) (id : ℕ) (held : Channels) (p : SctpStreams Contents)
      (r : Result (Unit {0}) AllocError) (held' : Channels) (q : SctpStreams Contents) → OpensChannel plain_meaning stream config id held p r held' q
      → ShutGoes p q
  opens_one (Some t) (Some config) id held p r held' q h =
      let d = opens_did plain_meaning t config p r q h.0 in
      shut_by d.did.acts p q d.did.went (λ still k. opens_shut plain_meaning IsSilentEnd plain_laws plain_generations plain_shut s t config p r q h.0 k)
  opens_one (Some t) None id held p r held' q h = shut_same p q h.2
  opens_one None config id held p r held' q h = shut_same p q h.2

  all_shut : (rows : List Channel) (held : Channels) (p : SctpStreams Contents) (r : Result (Unit {0}) AllocError) (held' : Channels)
      (q : SctpStreams Contents) → OpensAll plain_meaning rows held p r held' q → ShutGoes p q
  all_shut [] held p r held' q h = shut_same p q h.2
  all_shut (row ∷ rows) held p r held' q h =
      shut_join p h.2 q (opens_one row.stream row.config row.id held p h.0 h.1 h.2 h.3)
      (by h.0 (λ after. all_shut rows h.1 h.2 r held' q after) h.4)
    where
      by : (did : Result (Unit {0}) AllocError) → (OpensAll plain_meaning rows h.1 h.2 r held' q → ShutGoes h.2 q)
          → Following did (OpensAll plain_meaning rows h.1 h.2 r held' q) ((r ≡ did) × (held' ≡ h.1) × (q ≡ h.2)) → ShutGoes h.2 q
      by (Ok done) rest after = rest after
      by (Err error) rest after = shut_same h.2 q after.2

  progress_shut : (p : SctpStreams Contents) (r : Result (Unit {0}) AllocError) (held' : Channels) (q : SctpStreams Contents)
      (did : Result (Unit {0}) AllocError) (between : Channels)
      → Following did (OpensAll plain_meaning between.rows between p r held' q) ((r ≡ did) × (held' ≡ between) × (q ≡ p)) → ShutGoes p q
  progress_shut p r held' q (Ok done) between h = all_shut between.rows between p r held' q h
  progress_shut p r held' q (Err error) between h = shut_same p q h.2

  moment_shut : (due : Bool) (held : Channels) (p : SctpStreams Contents) (wake : Signals) (r : Result (Unit {0}) AllocError) (held' : Channels)
      (q : SctpStreams Contents) (wake' : Signals) → MeetsMoment plain_meaning due held p wake r held' q wake' → ShutGoes p q
  moment_shut false held p wake r held' q wake' h = shut_same p q h.2
  moment_shut true held p wake r held' q wake' h = progress_shut p r held' q h.0.0 h.0.1 h.0.3

  -- ---- changes

  only_shut : (a b : SctpStreams Contents) → OnlyActs plain_meaning a b → ShutGoes a b
  only_shut a b h = shut_acts h.acts a b h.went h.entries

  timed_shut : (now : ℕ) (a : SctpStreams Contents) (wake : Signals) (r : Result (Unit {0}) AllocError) (b : SctpStreams Contents) (wake' : Signals)
      → TakesTimeout plain_meaning now a wake r b wake' → ShutGoes a b
  timed_shut now a wake r b wake' h =
      let d = timeout_did plain_meaning now a wake r b wake' h in
      shut_by d.did.acts a b d.did.went
      (λ still k. timeout_shut plain_meaning IsSilentEnd plain_laws plain_generations plain_shut s now a wake r b wake' h k)

  change_shut : (held : Channels) (a : SctpStreams Contents) (held' : Channels) (b : SctpStreams Contents) → RowsChange plain_meaning held a held' b
      → ShutGoes a b
  change_shut held a held' b (Stayed rows h) = only_shut a b h
  change_shut held a held' b (Polled answer streams h rows association entries state client) =
      let d = poll_did plain_meaning plain_laws a answer streams h in
      shut_join a streams b
      (shut_by d.did.acts a streams d.did.went
      (λ still k. poll_shut plain_meaning IsSilentEnd plain_laws plain_generations plain_shut s a answer streams h k))
      (shut_acts [] streams b association entries)
  change_shut held a held' b (Timed now wake wake' r h is) = timed_shut now a wake r b wake' h
  change_shut held a held' b (Progressed now wake wake' between h due started signals signals' t) =
      shut_join a between b (timed_shut now a wake (Ok tt) between wake' h) (moment_shut due held between signals (Ok tt) held' b signals' t)
  change_shut held a held' b (ThresholdSet n place h is) =
      shut_by [] a b (same place h)
      (λ still k. threshold_shut plain_meaning IsSilentEnd plain_laws plain_generations plain_shut s n place a b h k)
    where
      same : (o : Option ℕ) → SetsThreshold Contents n o a b → b.association ≡ a.association
      same None h = ap (λ (y : SctpStreams Contents). y.association) h
      same (Some place) h = ap (λ (y : SctpStreams Contents). y.association) h.2
  change_shut held a held' b (StreamClosed stream r h is) =
      let d = closes_did plain_meaning stream a r b h in
      shut_by d.did.acts a b d.did.went
      (λ still k. closes_shut plain_meaning IsSilentEnd plain_laws plain_generations plain_shut s stream a r b h k)
  change_shut held a held' b (Confirmed channels is h) = only_shut a b h
  change_shut held a held' b (Made config is h) = only_shut a b h

  changes_shut : (n : ℕ) (held : Channels) (a : SctpStreams Contents) (held' : Channels) (b : SctpStreams Contents)
      → ChangeRows plain_meaning n held a held' b → ShutGoes a b
  changes_shut zero held a held' b h = shut_same a b h.1
  changes_shut (suc n) held a held' b h =
      shut_join a h.1.0 b (changes_shut n held a h.0 h.1.0 h.1.1.0) (change_shut h.0 h.1.0 held' b h.1.1.1)

  pub rows_shut : (held : Channels) (a : SctpStreams Contents) (held' : Channels) (b : SctpStreams Contents) → RowsChanged plain_meaning held a held' b
      → ShutGoes a b
  rows_shut held a held' b h = changes_shut h.changes held a held' b h.changed
