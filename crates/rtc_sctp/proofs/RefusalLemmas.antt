-- The causes of refusals, by those of the association.
use Rattle.std.proofs.Common.{◌≡◌, ℕ, Bool, true, false, List, Option, Some, None, Result, Ok, Err, refl, sym, true≢false}
use Rattle.std.specs.Prelude.{not, nat_lt, length, ◌&&◌, ◌||◌}
use Rattle.rtc_io.specs.Faults.{Rose}
use Rattle.rtc_parts.specs.declared.assoc_error.AssocError.{AssocError}
use Rattle.rtc_parts.specs.declared.assoc_error.AssocError.TheVariants as assoc
use Rattle.rtc_parts.specs.AssociationMeaning.{AssociationMeaning}
use Rattle.rtc_parts.specs.AssociationLaws.{AssociationLaws}
use Rattle.rtc_parts.specs.AssociationNeeds.{Answered, need}
use Rattle.rtc_sctp_entries.specs.Answers.{asked_of}
use Rattle.rtc_sctp_entries.specs.declared.asked.Asked.{Asked}
use Rattle.rtc_sctp_entries.specs.declared.asked.Asked.TheVariants as did
use Rattle.rtc_sctp_entries.specs.Part.{AsksStart}
use Rattle.rtc_sctp_values.specs.declared.proto_error.ProtoError.TheVariants as proto
use Rattle.rtc_sctp_values.specs.declared.sctp_error.SctpError.{SctpError}
use Rattle.rtc_sctp_values.specs.declared.sctp_error.SctpError.TheVariants as sctp
use Rattle.rtc_sctp_values.specs.InitHalves.{InitHalves, half_bytes}
use Rattle.rtc_sctp.specs.Streams.{SctpStreams}
use Rattle.rtc_sctp.specs.Calls.{AsksSnap, AsksInit, are_whole, Inits, Shuts, ShutBy, WritesStream, WrittenIf, can_write, is_current, is_ended, is_open_stream, write_answer, written_ppi, is_nil}
use Rattle.rtc_sctp.specs.Refusals.{refusal_if, IsRefusedAs, refusal_of_start, refusal_of_message}

-- a message that its stream takes is refused as the association refuses it
written : (answer : Result ℕ AssocError) (gone long : Bool) (id len max b a : ℕ)
    → Answered (need gone assoc.NoStream (need long assoc.TooLong None)) b a answer
    → IsRefusedAs (refusal_if gone (sctp.Proto (proto.NoStream id)) (refusal_if long (sctp.Proto (proto.TooLong len max)) None)) b a
    (write_answer id len max answer)
written (Ok n) true long id len max b a h = let e = h.0 in absurd (cc)
written (Ok n) false true id len max b a h = let e = h.0 in absurd (cc)
written (Ok n) false false id len max b a h = refl
written (Err assoc.StreamExists) true long id len max b a h = let e = h.0 in absurd (cc)
written (Err assoc.StreamExists) false true id len max b a h = let e = h.0 in absurd (cc)
written (Err assoc.StreamExists) false false id len max b a h = let e = h.0 in absurd (cc)
written (Err assoc.ResetPending) true long id len max b a h = let e = h.0 in absurd (cc)
written (Err assoc.ResetPending) false true id len max b a h = let e = h.0 in absurd (cc)
written (Err assoc.ResetPending) false false id len max b a h = let e = h.0 in absurd (cc)
written (Err assoc.NoStream) true long id len max b a h = refl
written (Err assoc.NoStream) false true id len max b a h = let e = h.0 in absurd (cc)
written (Err assoc.NoStream) false false id len max b a h = let e = h.0 in absurd (cc)
written (Err assoc.TooLong) true long id len max b a h = let e = h.0 in absurd (cc)
written (Err assoc.TooLong) false true id len max b a h = refl
written (Err assoc.TooLong) false false id len max b a h = let e = h.0 in absurd (cc)
written (Err assoc.Closing) true long id len max b a h = let e = h.0 in absurd (cc)
written (Err assoc.Closing) false true id len max b a h = let e = h.0 in absurd (cc)
written (Err assoc.Closing) false false id len max b a h = let e = h.0 in absurd (cc)
written (Err assoc.Fault) gone long id len max b a h = h
written (Err assoc.Alloc) gone long id len max b a h = tt

written_before_its_end : (answer : Result ℕ AssocError) (gone long ended : Bool) (id len max b a : ℕ) → ended ≡ false
    → Answered (need gone assoc.NoStream (need long assoc.TooLong (need ended assoc.Closing None))) b a answer
    → IsRefusedAs (refusal_if gone (sctp.Proto (proto.NoStream id)) (refusal_if long (sctp.Proto (proto.TooLong len max)) None)) b a
    (write_answer id len max answer)
written_before_its_end answer gone long ended id len max b a is h = written answer gone long id len max b a (rw is at h)

refused_early : (taken : Bool) (next : Option SctpError) (b a : ℕ) (r : Result ℕ SctpError) → taken ≡ false → r ≡ Err sctp.WriteBeforeEstablished
    → IsRefusedAs (refusal_if (not taken) sctp.WriteBeforeEstablished next) b a r
refused_early taken next b a r is e = rw (is, e) refl

refused_late : (taken : Bool) (next : Option SctpError) (b a : ℕ) (r made : Result ℕ SctpError) → taken ≡ true → r ≡ made
    → IsRefusedAs next b a made → IsRefusedAs (refusal_if (not taken) sctp.WriteBeforeEstablished next) b a r
refused_late taken next b a r made is e h = rw (is, e) h

-- a stream that came to another generation since takes no message
refused_gone : (current : Bool) (next : Option SctpError) (id b a : ℕ) → current ≡ false
    → IsRefusedAs {T = ℕ} (refusal_if (not current) (sctp.Proto (proto.NoStream id)) next) b a (Err (sctp.Proto (proto.NoStream id)))
refused_gone current next id b a is = rw is refl

refused_current : (current : Bool) (next : Option SctpError) (id b a : ℕ) (r : Result ℕ SctpError) → current ≡ true
    → IsRefusedAs next b a r → IsRefusedAs (refusal_if (not current) (sctp.Proto (proto.NoStream id)) next) b a r
refused_current current next id b a r is h = rw is h

unended : (taken started ended : Bool) → (taken && not (not started || ended)) ≡ true → ended ≡ false
unended taken started false h = refl
unended false started true h = absurd (true≢false (sym h))
unended true false true h = absurd (true≢false (sym h))
unended true true true h = absurd (true≢false (sym h))

begun_unended : (started ended : Bool) → (not started || ended) ≡ false → ended ≡ false
begun_unended started false h = refl
begun_unended false true h = absurd (true≢false h)
begun_unended true true h = absurd (true≢false h)

-- an answer that is a refusal without a cause is a fault
rose : (answer : Result (Unit {0}) AssocError) (b a : ℕ) → asked_of answer ≡ did.Refused → Answered None b a answer → Rose b a
rose (Ok x) b a is h = absurd (cc)
rose (Err assoc.StreamExists) b a is h = let e = h.0 in absurd (cc)
rose (Err assoc.ResetPending) b a is h = let e = h.0 in absurd (cc)
rose (Err assoc.NoStream) b a is h = let e = h.0 in absurd (cc)
rose (Err assoc.TooLong) b a is h = let e = h.0 in absurd (cc)
rose (Err assoc.Closing) b a is h = let e = h.0 in absurd (cc)
rose (Err assoc.Fault) b a is h = h
rose (Err assoc.Alloc) b a is h = absurd (cc)

shut_rose : (answer : Result (Unit {0}) AssocError) (ended : Bool) (b a : ℕ) → ended ≡ false → asked_of answer ≡ did.Refused
    → Answered (need ended assoc.Closing None) b a answer → Rose b a
shut_rose answer ended b a is asked h = rose answer b a asked (rw is at h)

ended_already : (r : Result (Unit {0}) SctpError) (b a : ℕ) → r ≡ Ok tt → IsRefusedAs None b a r
ended_already r b a is = rw is refl

module _ {S : Type 0} (m : AssociationMeaning S) (w : AssociationLaws m) where
  -- how a message is refused that its stream takes
  abbrev pub refusal_in_use : (id : ℕ) → List ℕ → SctpStreams S → Option SctpError
  refusal_in_use id bytes p =
      refusal_if (not (m.has_stream p.association id) || m.closed_here p.association id) (sctp.Proto (proto.NoStream id))
      (refusal_if (nat_lt (m.max_send p.association) (length bytes)) (sctp.Proto (proto.TooLong (length bytes) p.remote_max)) None)

  -- and how one that its stream takes in some generation
  abbrev pub refusal_past_opening : (id : ℕ) → List ℕ → SctpStreams S → Option SctpError
  refusal_past_opening id bytes p = refusal_if (not (is_current m id p)) (sctp.Proto (proto.NoStream id)) (refusal_in_use id bytes p)

  pub writes_refused : (p q : SctpStreams S) (id : ℕ) (binary : Bool) (bytes : List ℕ) (r : Result ℕ SctpError) → WritesStream m id binary bytes p r q
      → IsRefusedAs (refusal_of_message m id bytes p) (m.faults p.association) (m.faults q.association) r
  writes_refused p q id binary bytes r h = by (can_write m id p) refl h
    where
      past : (c : Bool) → is_current m id p ≡ c → can_write m id p ≡ true → WrittenIf m true c id binary bytes p r q
          → IsRefusedAs (refusal_past_opening id bytes p) (m.faults p.association) (m.faults q.association) r
      past false own is k =
          rw k.0 (refused_gone (is_current m id p) (refusal_in_use id bytes p) id (m.faults p.association) (m.faults q.association) own)
      past true own is k =
          let gone = not (m.has_stream p.association id) || m.closed_here p.association id in
          let long = nat_lt (m.max_send p.association) (length bytes) in
          let ended = m.closing p.association || m.closed p.association in
          let free = unended (is_open_stream id p) (m.started p.association) ended is in
          let answered = w.write_answer p.association q.association id (written_ppi binary (is_nil bytes)) bytes k.0 k.1 in
          refused_current (is_current m id p) (refusal_in_use id bytes p) id (m.faults p.association) (m.faults q.association) r own
          (rw k.2 (written_before_its_end k.0 gone long ended id (length bytes) p.remote_max (m.faults p.association) (m.faults q.association) free answered))

      by : (b : Bool) → can_write m id p ≡ b → WrittenIf m b (is_current m id p) id binary bytes p r q
          → IsRefusedAs (refusal_of_message m id bytes p) (m.faults p.association) (m.faults q.association) r
      by false is k = refused_early (can_write m id p) (refusal_past_opening id bytes p) (m.faults p.association) (m.faults q.association) r is k.0
      by true is k =
          refused_late (can_write m id p) (refusal_past_opening id bytes p) (m.faults p.association) (m.faults q.association) r r is refl
          (past (is_current m id p) refl is k)

  snap_rose : (halves : InitHalves) (p q : S) (now max : ℕ) → AsksSnap m halves p now max did.Refused q → Rose (m.faults p) (m.faults q)
  snap_rose halves p q now max h =
      rose h.result (m.faults p) (m.faults q) h.is
      (w.snap_answer p q now max (half_bytes halves.local) (half_bytes halves.remote) h.result h.called)

  started_rose : (client : Bool) (p q : S) (now max : ℕ) → AsksStart m client p now max did.Refused q → Rose (m.faults p) (m.faults q)
  started_rose true p q now max h = rose h.result (m.faults p) (m.faults q) h.is (w.connect_answer p q now max h.result h.called)
  started_rose false p q now max h = rose h.result (m.faults p) (m.faults q) h.is (w.accept_answer p q now max h.result h.called)

  init_rose : (snap : Option InitHalves) (client : Bool) (p q : S) (now max : ℕ) → AsksInit m snap client p now max did.Refused q
      → Rose (m.faults p) (m.faults q)
  init_rose None client p q now max h = started_rose client p q now max h
  init_rose (Some halves) client p q now max h = snap_rose halves p q now max h.1

  -- a start that the association is asked for has both halves, or none
  asked_whole : (snap : Option InitHalves) (client : Bool) (p q : S) (now max : ℕ) (answer : Asked) → AsksInit m snap client p now max answer q
      → are_whole snap ≡ true
  asked_whole None client p q now max answer h = refl
  asked_whole (Some halves) client p q now max answer h = h.0

  pub inits_refused : (client : Bool) (now max : ℕ) (snap : Option InitHalves) (p q : SctpStreams S) (r : Result (Unit {0}) SctpError)
      → Inits m client now max snap p r q → IsRefusedAs (refusal_of_start m snap p) (m.faults p.association) (m.faults q.association) r
  inits_refused client now max snap p q (Ok x) h =
      let whole = asked_whole snap client p.association q.association now max did.Done h.1 in
      rw (h.0, whole) refl
  inits_refused client now max snap p q (Err (sctp.Proto proto.Started)) h = rw h.0 refl
  inits_refused client now max snap p q (Err (sctp.Proto proto.SnapHalf)) h = rw (h.0, h.1) refl
  inits_refused client now max snap p q (Err (sctp.Proto proto.Fault)) h =
      init_rose snap client p.association q.association now max h.1
  inits_refused client now max snap p q (Err (sctp.Proto (proto.TooLong len limit))) h = absurd h
  inits_refused client now max snap p q (Err (sctp.Proto (proto.NoStream id))) h = absurd h
  inits_refused client now max snap p q (Err sctp.WriteBeforeEstablished) h = absurd h
  inits_refused client now max snap p q (Err sctp.DcepOpenTooSmall) h = absurd h
  inits_refused client now max snap p q (Err sctp.DcepIncorrectMessageType) h = absurd h
  inits_refused client now max snap p q (Err sctp.DcepBadUtf8) h = absurd h
  inits_refused client now max snap p q (Err sctp.InvalidSnap) h = absurd h
  inits_refused client now max snap p q (Err sctp.Alloc) h = tt

  shut_by : (r : Result (Unit {0}) SctpError) (p q : SctpStreams S) → is_ended m p.association ≡ false → ShutBy m false p r q
      → IsRefusedAs None (m.faults p.association) (m.faults q.association) r
  shut_by (Ok x) p q is h = refl
  shut_by (Err (sctp.Proto proto.Started)) p q is h = absurd h
  shut_by (Err (sctp.Proto proto.SnapHalf)) p q is h = absurd h
  shut_by (Err (sctp.Proto proto.Fault)) p q is h =
      let ended = m.closing p.association || m.closed p.association in
      let free = begun_unended (m.started p.association) ended is in
      shut_rose h.0.result ended (m.faults p.association) (m.faults q.association) free h.0.is (w.shut_answer p.association q.association h.0.result h.0.called)
  shut_by (Err (sctp.Proto (proto.TooLong len limit))) p q is h = absurd h
  shut_by (Err (sctp.Proto (proto.NoStream id))) p q is h = absurd h
  shut_by (Err sctp.WriteBeforeEstablished) p q is h = absurd h
  shut_by (Err sctp.DcepOpenTooSmall) p q is h = absurd h
  shut_by (Err sctp.DcepIncorrectMessageType) p q is h = absurd h
  shut_by (Err sctp.DcepBadUtf8) p q is h = absurd h
  shut_by (Err sctp.InvalidSnap) p q is h = absurd h
  shut_by (Err sctp.Alloc) p q is h = tt

  pub shuts_refused : (p q : SctpStreams S) (r : Result (Unit {0}) SctpError) → Shuts m p r q
      → IsRefusedAs None (m.faults p.association) (m.faults q.association) r
  shuts_refused p q r h = by (is_ended m p.association) refl h
    where
      by : (b : Bool) → is_ended m p.association ≡ b → ShutBy m b p r q → IsRefusedAs None (m.faults p.association) (m.faults q.association) r
      by true is k = ended_already r (m.faults p.association) (m.faults q.association) k.0
      by false is k = shut_by r p q is k
