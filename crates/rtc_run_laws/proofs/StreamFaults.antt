-- What calls on streams and channels do to the count of faults of their association: it never falls, and writing and shutting down tell a
-- fault only where it rose.
use Rattle.std.proofs.Common.{◌≡◌, ◌∙◌, ◌≤◌, ◌||◌, ℕ, Bool, true, false, not, nat_lt, List, [], ◌∷◌, length, Option, Some, None, Result, Ok, Err, refl, sym, ap, arith}
use Rattle.std.proofs.lemmas.Bool.{or_parts}
use Rattle.std.specs.declared.alloc.AllocError.{AllocError}
use Rattle.rtc_io.specs.Faults.{Rose}
use Rattle.rtc_ready.specs.Signals.{Signals, both}
use Rattle.rtc_wire.specs.declared.channel_config.ChannelConfig.{ChannelConfig}
use Rattle.rtc_parts.specs.AssociationActs.{AssociationAct, Moved}
use Rattle.rtc_parts.specs.AssociationLaws.{AssociationLaws}
use Rattle.rtc_parts.specs.AssociationMeaning.{AssociationMeaning}
use Rattle.rtc_parts.specs.declared.assoc_error.AssocError.{AssocError}
use Rattle.rtc_parts.specs.declared.assoc_error.AssocError.TheVariants as assoc
use Rattle.rtc_parts.specs.AssociationNeeds.{Answered, closing_need, need}
use Rattle.rtc_sctp_entries.specs.declared.sctp_event.SctpEvent.{SctpEvent}
use Rattle.rtc_sctp_values.specs.declared.proto_error.ProtoError.TheVariants as proto
use Rattle.rtc_sctp_values.specs.declared.sctp_error.SctpError.{SctpError}
use Rattle.rtc_sctp_values.specs.declared.sctp_error.SctpError.TheVariants as sctp
use Rattle.rtc_sctp.specs.Calls.{Shuts, ShutBy, TakesInput, WritesStream, WrittenIf, can_write, is_current, is_ended, is_nil, write_answer, written_ppi}
use Rattle.rtc_sctp.specs.Polls.{PollsStreams}
use Rattle.rtc_sctp.specs.Streams.{SctpStreams}
use Rattle.rtc_sctp_laws.specs.StreamActs.{CallDid, given_packet}
use Rattle.rtc_sctp_laws.proofs.CallActs.{closes_did, input_did, opens_did, shuts_did, timeout_did, writes_did}
use Rattle.rtc_sctp_laws.proofs.PollActs.{poll_did}
use Rattle.rtc_channels.specs.Channels.{Channel, Channels}
use Rattle.rtc_channels.specs.Openings.{ClosesChannel, OpensChannel, OpensAll, Following, Progresses, MeetsMoment, is_progress_due}
use Rattle.rtc_peer_polling.specs.Inputs.{StreamsTimed, ChannelsTimed}
use Rattle.rtc_run_history.specs.Memory.{is_sctp_fault}
use Rattle.rtc_run_laws.proofs.CountedFaults.{equal_below, answered_fault}

-- whether the answer of a write tells that the association failed
abbrev does_write_fault : Result ℕ SctpError → Bool
does_write_fault (Ok count) = false
does_write_fault (Err cause) = is_sctp_fault cause

-- A write that tells a fault comes of a fault of the association, since the needs of a write are answered by other errors.
refused_write : (gone long ends : Bool) (before after id len max : ℕ) (r : Result ℕ AssocError) → Answered (need gone assoc.NoStream (need long assoc.TooLong (need ends assoc.Closing None))) before after r
    → does_write_fault (write_answer id len max r) ≡ true → Rose before after
refused_write gone long ends before after id len max (Ok n) h told = absurd (cc)
refused_write gone long ends before after id len max (Err assoc.NoStream) h told = absurd (cc)
refused_write gone long ends before after id len max (Err assoc.TooLong) h told = absurd (cc)
refused_write gone long ends before after id len max (Err assoc.Closing) h told = absurd (cc)
refused_write gone long ends before after id len max (Err assoc.Alloc) h told = absurd (cc)
refused_write gone long ends before after id len max (Err assoc.Fault) h told = h
refused_write true long ends before after id len max (Err assoc.StreamExists) h told = absurd (let e = h.0 in cc)
refused_write false true ends before after id len max (Err assoc.StreamExists) h told = absurd (let e = h.0 in cc)
refused_write false false true before after id len max (Err assoc.StreamExists) h told = absurd (let e = h.0 in cc)
refused_write false false false before after id len max (Err assoc.StreamExists) h told = absurd (let e = h.0 in cc)
refused_write true long ends before after id len max (Err assoc.ResetPending) h told = absurd (let e = h.0 in cc)
refused_write false true ends before after id len max (Err assoc.ResetPending) h told = absurd (let e = h.0 in cc)
refused_write false false true before after id len max (Err assoc.ResetPending) h told = absurd (let e = h.0 in cc)
refused_write false false false before after id len max (Err assoc.ResetPending) h told = absurd (let e = h.0 in cc)

module _ {S : Type 0} (m : AssociationMeaning S) (laws : AssociationLaws m) where
  -- acts in order
  moved_later : (a : S) (acts : List AssociationAct) (b : S) → Moved m a acts b → m.faults a ≤ m.faults b
  moved_later a [] b h = equal_below (m.faults a) (m.faults b) (ap (λ (x : S). m.faults x) h)
  moved_later a (act ∷ acts) b h =
      let first : m.faults a ≤ m.faults h.0 = laws.faults_rise a h.0 act h.1.0 in
      let rest : m.faults h.0 ≤ m.faults b = moved_later h.0 acts b h.1.1 in
      omega (arith, first, rest)

  -- no count of the association under these streams fell
  abbrev pub StreamsLater : SctpStreams S → SctpStreams S → Type 0
  StreamsLater p q = m.faults p.association ≤ m.faults q.association

  streams_self : (p q : SctpStreams S) → q ≡ p → StreamsLater p q
  streams_self p q same = equal_below (m.faults p.association) (m.faults q.association) (ap (λ (x : SctpStreams S). m.faults x.association) same)

  streams_on : (p q r : SctpStreams S) → StreamsLater p q → StreamsLater q r → StreamsLater p r
  streams_on p q r first rest = omega (arith, first, rest)

  call_later : (ins : List (List ℕ)) (p q : SctpStreams S) → CallDid m ins [] p q → StreamsLater p q
  call_later ins p q call = moved_later p.association call.did.acts q.association call.did.went

  -- a poll of streams
  pub stream_poll_later : (p : SctpStreams S) (r : Result (Option SctpEvent) AllocError) (q : SctpStreams S) → PollsStreams m p r q → StreamsLater p q
  stream_poll_later p r q h = let poll = poll_did m laws p r q h in moved_later p.association poll.did.acts q.association poll.did.went

  -- a moment that streams are handed
  pub streams_timed_later : (now : ℕ) (p : SctpStreams S) (r : Result (Unit {0}) AllocError) (q : SctpStreams S) → StreamsTimed m now p r q → StreamsLater p q
  streams_timed_later now p r q h = call_later [] p q (timeout_did m now p both r q h.0 h.1)

  -- a packet that streams are handed
  pub input_later : (now : ℕ) (bytes : List ℕ) (p : SctpStreams S) (r : Result (Unit {0}) AllocError) (q : SctpStreams S) → TakesInput m now bytes p r q → StreamsLater p q
  input_later now bytes p r q h = call_later (given_packet (m.started p.association) bytes) p q (input_did m now bytes p r q h)

  -- ---- channels

  open_later : (stream : Option ℕ) (config : Option ChannelConfig) (id : ℕ) (held : Channels) (p : SctpStreams S) (r : Result (Unit {0}) AllocError)
      (held' : Channels) (q : SctpStreams S) → OpensChannel m stream config id held p r held' q → StreamsLater p q
  open_later (Some stream) (Some config) id held p r held' q h = call_later [] p q (opens_did m stream config p r q h.0)
  open_later (Some stream) None id held p r held' q h = streams_self p q h.2
  open_later None config id held p r held' q h = streams_self p q h.2

  opens_all_later : (channels : List Channel) (held : Channels) (p : SctpStreams S) (r : Result (Unit {0}) AllocError) (held' : Channels)
      (q : SctpStreams S) → OpensAll m channels held p r held' q → StreamsLater p q
  opens_all_later [] held p r held' q h = streams_self p q h.2
  opens_all_later (channel ∷ rest) held p r held' q h =
      streams_on p h.2 q (open_later channel.stream channel.config channel.id held p h.0 h.1 h.2 h.3)
      (followed h.0 (λ k. opens_all_later rest h.1 h.2 r held' q k) h.4)
    where
      followed : (did : Result (Unit {0}) AllocError) → (OpensAll m rest h.1 h.2 r held' q → StreamsLater h.2 q)
          → Following did (OpensAll m rest h.1 h.2 r held' q) ((r ≡ did) × (held' ≡ h.1) × (q ≡ h.2)) → StreamsLater h.2 q
      followed (Ok done) next k = next k
      followed (Err error) next k = streams_self h.2 q k.2

  progress_later : (held : Channels) (p : SctpStreams S) (r : Result (Unit {0}) AllocError) (held' : Channels) (q : SctpStreams S)
      → Progresses m held p r held' q → StreamsLater p q
  progress_later held p r held' q h = followed h.0 h.3
    where
      followed : (did : Result (Unit {0}) AllocError) → Following did (OpensAll m h.1.rows h.1 p r held' q) ((r ≡ did) × (held' ≡ h.1) × (q ≡ p)) → StreamsLater p q
      followed (Ok done) k = opens_all_later h.1.rows h.1 p r held' q k
      followed (Err error) k = streams_self p q k.2

  meets_later : (due : Bool) (held : Channels) (p : SctpStreams S) (wake : Signals) (r : Result (Unit {0}) AllocError) (held' : Channels)
      (q : SctpStreams S) (wake' : Signals) → MeetsMoment m due held p wake r held' q wake' → StreamsLater p q
  meets_later true held p wake r held' q wake' h = progress_later held p r held' q h.0
  meets_later false held p wake r held' q wake' h = streams_self p q h.2

  -- a moment that channels are handed
  pub channels_timed_later : (held : Channels) (p : SctpStreams S) (r : Result (Unit {0}) AllocError) (held' : Channels) (q : SctpStreams S)
      → ChannelsTimed m held p r held' q → StreamsLater p q
  channels_timed_later held p r held' q h = meets_later (is_progress_due m held p) held p both r held' q h.0 h.1

  -- ---- writes and closes

  -- a write to a stream
  pub writes_later : (id : ℕ) (binary : Bool) (bytes : List ℕ) (p : SctpStreams S) (r : Result ℕ SctpError) (q : SctpStreams S) → WritesStream m id binary bytes p r q → StreamsLater p q
  writes_later id binary bytes p r q h =
      let call = writes_did m id binary bytes p r q h in moved_later p.association call.did.acts q.association call.did.went

  -- a close of the stream of a channel, if it has one
  pub closes_later : (stream : Option ℕ) (p : SctpStreams S) (r : Result (Unit {0}) AllocError) (q : SctpStreams S) → ClosesChannel m stream p r q → StreamsLater p q
  closes_later None p r q h = streams_self p q h.1
  closes_later (Some stream) p r q h = call_later [] p q (closes_did m stream p r q h)

  write_fault : (can current : Bool) (id : ℕ) (binary : Bool) (bytes : List ℕ) (p : SctpStreams S) (cause : SctpError) (q : SctpStreams S) → WrittenIf m can current id binary bytes p (Err cause) q
      → is_sctp_fault cause ≡ true → Rose (m.faults p.association) (m.faults q.association)
  write_fault false current id binary bytes p cause q h told = absurd (let e : is_sctp_fault cause ≡ false = ap does_write_fault h.0 in cc)
  write_fault true false id binary bytes p cause q h told = absurd (let e : is_sctp_fault cause ≡ false = ap does_write_fault h.0 in cc)
  write_fault true true id binary bytes p cause q h told =
      refused_write (not (m.has_stream p.association id) || m.closed_here p.association id) (nat_lt (m.max_send p.association) (length bytes)) (m.closing p.association || m.closed p.association)
      (m.faults p.association) (m.faults q.association) id (length bytes) p.remote_max h.0
      (laws.write_answer p.association q.association id (written_ppi binary (is_nil bytes)) bytes h.0 h.1) (ap does_write_fault (sym h.2) ∙ told)

  pub writes_fault : (id : ℕ) (binary : Bool) (bytes : List ℕ) (p : SctpStreams S) (cause : SctpError) (q : SctpStreams S) → WritesStream m id binary bytes p (Err cause) q
      → is_sctp_fault cause ≡ true → Rose (m.faults p.association) (m.faults q.association)
  writes_fault id binary bytes p cause q h told = write_fault (can_write m id p) (is_current m id p) id binary bytes p cause q h told

  -- ---- shutting down

  pub shuts_later : (p : SctpStreams S) (r : Result (Unit {0}) SctpError) (q : SctpStreams S) → Shuts m p r q → StreamsLater p q
  shuts_later p r q h = call_later [] p q (shuts_did m p r q h)

  open_still : (p : S) → is_ended m p ≡ false → closing_need m p ≡ None
  open_still p ended = rw ((or_parts (not (m.started p)) (m.closing p || m.closed p) ended).1) refl

  shut_fault : (ended : Bool) (p : SctpStreams S) (q : SctpStreams S) → is_ended m p.association ≡ ended → ShutBy m ended p (Err (sctp.Proto proto.Fault)) q
      → Rose (m.faults p.association) (m.faults q.association)
  shut_fault true p q is h = absurd (let e = h.0 in cc)
  shut_fault false p q is h =
      let answer : Answered (closing_need m p.association) (m.faults p.association) (m.faults q.association) h.0.result =
      laws.shut_answer p.association q.association h.0.result h.0.called in
      answered_fault (m.faults p.association) (m.faults q.association) h.0.result h.0.is (rw (open_still p.association is) at answer)

  pub shuts_fault : (p : SctpStreams S) (q : SctpStreams S) → Shuts m p (Err (sctp.Proto proto.Fault)) q → Rose (m.faults p.association) (m.faults q.association)
  shuts_fault p q h = shut_fault (is_ended m p.association) p q refl h
