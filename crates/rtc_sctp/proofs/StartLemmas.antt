-- What a start leaves of the streams: their generations, and whether they are open.
use Rattle.std.proofs.Common.{◌≡◌, ◌∙◌, ℕ, Bool, true, false, List, Option, Some, None, Result, Ok, Err, refl, sym, ap}
use Rattle.std.specs.Prelude.{◌&&◌}
use Rattle.rtc_parts.specs.declared.assoc_error.AssocError.{AssocError}
use Rattle.rtc_parts.specs.AssociationMeaning.{AssociationMeaning}
use Rattle.rtc_parts.specs.AssociationLaws.{AssociationLaws, LeavesStarted}
use Rattle.rtc_sctp_entries.specs.Answers.{asked_of}
use Rattle.rtc_sctp_entries.specs.Entries.{has_open}
use Rattle.rtc_sctp_entries.specs.declared.asked.Asked.{Asked}
use Rattle.rtc_sctp_entries.specs.declared.asked.Asked.TheVariants as did
use Rattle.rtc_sctp_entries.specs.Part.{AsksStart}
use Rattle.rtc_sctp_entries.specs.declared.stream_entry.StreamEntry.{StreamEntry}
use Rattle.rtc_sctp_values.specs.InitHalves.{InitHalves, half_bytes}
use Rattle.rtc_sctp_values.specs.declared.proto_error.ProtoError.TheVariants as proto
use Rattle.rtc_sctp_values.specs.declared.sctp_error.SctpError.{SctpError}
use Rattle.rtc_sctp_values.specs.declared.sctp_error.SctpError.TheVariants as sctp
use Rattle.rtc_sctp.specs.Streams.{SctpStreams, is_established}
use Rattle.rtc_sctp.specs.Calls.{AsksInit, Inits, begun_state, is_open_stream, started_state}

and_false : (a b : Bool) → b ≡ false → (a && b) ≡ false
and_false true b is = is
and_false false b is = refl

-- a start leaves the association to be established
unestablished : (client : Bool) → is_established (started_state client) ≡ false
unestablished true = refl
unestablished false = refl

-- a start by both halves is established at once: no entry is open that it would show
abbrev pub ShowsNone : Option InitHalves → List StreamEntry → Type 0
ShowsNone None entries = Unit {0}
ShowsNone (Some halves) entries = (id : ℕ) → has_open id entries ≡ false

-- what a stream shows of itself is the same at both: its generation, and whether it is open over a started association
pub record AlikeStreams {S : Type 0} (m : AssociationMeaning S) (p q : SctpStreams S) : Type 0 where
  pub generation : (id : ℕ) → m.generation q.association id ≡ m.generation p.association id
  pub is_open : (id : ℕ) → (m.started q.association && is_open_stream id q) ≡ (m.started p.association && is_open_stream id p)

pub streams_same : {S : Type 0} (m : AssociationMeaning S) (p q : SctpStreams S) → q ≡ p → AlikeStreams m p q
streams_same m p q same = record {
  generation = λ id. ap (λ (s : SctpStreams _). m.generation s.association id) same;
  is_open = λ id. ap (λ (s : SctpStreams _). m.started s.association && is_open_stream id s) same;
}

module _ {S : Type 0} (m : AssociationMeaning S) (w : AssociationLaws m) where
  asked_generation : (client : Bool) (p q : S) (now max id : ℕ) (answer : Asked) → AsksStart m client p now max answer q
      → m.generation q id ≡ m.generation p id
  asked_generation true p q now max id answer h = w.connect_generation p q now max id h.result h.called
  asked_generation false p q now max id answer h = w.accept_generation p q now max id h.result h.called

  left_unstarted : (max : ℕ) (r : Result (Unit {0}) AssocError) (q : S) → (asked_of r ≡ did.Done → ⊥) → LeavesStarted m max r q
      → m.started q ≡ false
  left_unstarted max (Ok x) q refused h = absurd (refused refl)
  left_unstarted max (Err e) q refused h = h

  init_generation : (snap : Option InitHalves) (client : Bool) (p q : S) (now max id : ℕ) (answer : Asked)
      → AsksInit m snap client p now max answer q → m.generation q id ≡ m.generation p id
  init_generation None client p q now max id answer h = asked_generation client p q now max id answer h
  init_generation (Some halves) client p q now max id answer h =
      w.snap_generation p q now max id (half_bytes halves.local) (half_bytes halves.remote) h.1.result h.1.called

  -- an association whose start was refused is not started
  asked_unstarted : (client : Bool) (p q : S) (now max : ℕ) (answer : Asked) → (answer ≡ did.Done → ⊥) → m.started p ≡ false
      → AsksStart m client p now max answer q → m.started q ≡ false
  asked_unstarted true p q now max answer refused fresh h =
      left_unstarted max h.result q (λ done. refused (sym h.is ∙ done)) (w.connect_starts p q now max h.result fresh h.called)
  asked_unstarted false p q now max answer refused fresh h =
      left_unstarted max h.result q (λ done. refused (sym h.is ∙ done)) (w.accept_starts p q now max h.result fresh h.called)

  pub init_unstarted : (snap : Option InitHalves) (client : Bool) (p q : S) (now max : ℕ) (answer : Asked) → (answer ≡ did.Done → ⊥)
      → m.started p ≡ false → AsksInit m snap client p now max answer q → m.started q ≡ false
  init_unstarted None client p q now max answer refused fresh h = asked_unstarted client p q now max answer refused fresh h
  init_unstarted (Some halves) client p q now max answer refused fresh h =
      left_unstarted max h.1.result q (λ done. refused (sym h.1.is ∙ done))
      (w.snap_starts p q now max (half_bytes halves.local) (half_bytes halves.remote) h.1.result fresh h.1.called)

  -- no stream is open over an association that is not started
  shut_before : (p : SctpStreams S) (id : ℕ) → m.started p.association ≡ false → (m.started p.association && is_open_stream id p) ≡ false
  shut_before p id fresh = ap (λ b. b && is_open_stream id p) fresh

  -- what a start leaves is not established, or no entry is open
  begun_shut : (snap : Option InitHalves) (client : Bool) (id : ℕ) (entries : List StreamEntry) → ShowsNone snap entries
      → (is_established (begun_state snap client) && has_open id entries) ≡ false
  begun_shut None client id entries none = ap (λ b. b && has_open id entries) (unestablished client)
  begun_shut (Some halves) client id entries none = none id

  started_same : (client : Bool) (now max : ℕ) (snap : Option InitHalves) (p q : SctpStreams S) → ShowsNone snap p.entries
      → Inits m client now max snap p (Ok tt) q → AlikeStreams m p q
  started_same client now max snap p q none h = record {
    generation = λ id. init_generation snap client p.association q.association now max id did.Done h.1;
    is_open = λ id.
        and_false (m.started q.association) (is_open_stream id q)
        (ap (λ (s : SctpStreams S). is_open_stream id s) h.2 ∙ begun_shut snap client id p.entries none)
        ∙ sym (shut_before p id h.0);
  }

  refused_same : (client : Bool) (now max : ℕ) (snap : Option InitHalves) (p q : SctpStreams S) (answer : Asked) → (answer ≡ did.Done → ⊥)
      → m.started p.association ≡ false → AsksInit m snap client p.association now max answer q.association → AlikeStreams m p q
  refused_same client now max snap p q answer refused fresh asks = record {
    generation = λ id. init_generation snap client p.association q.association now max id answer asks;
    is_open = λ id.
        shut_before q id (init_unstarted snap client p.association q.association now max answer refused fresh asks)
        ∙ sym (shut_before p id fresh);
  }

  -- a start, Ok or refused, leaves what streams show, where no entry is open that a start by both halves would show
  pub inits_same : (client : Bool) (now max : ℕ) (snap : Option InitHalves) (p q : SctpStreams S) (r : Result (Unit {0}) SctpError)
      → ShowsNone snap p.entries → Inits m client now max snap p r q → AlikeStreams m p q
  inits_same client now max snap p q (Ok x) none h = started_same client now max snap p q none h
  inits_same client now max snap p q (Err (sctp.Proto proto.Started)) none h = streams_same m p q h.1
  inits_same client now max snap p q (Err (sctp.Proto proto.SnapHalf)) none h = streams_same m p q h.2
  inits_same client now max snap p q (Err (sctp.Proto proto.Fault)) none h =
      refused_same client now max snap p q did.Refused (λ e. absurd (cc)) h.0 h.1
  inits_same client now max snap p q (Err (sctp.Proto (proto.TooLong len limit))) none h = absurd h
  inits_same client now max snap p q (Err (sctp.Proto (proto.NoStream id))) none h = absurd h
  inits_same client now max snap p q (Err sctp.WriteBeforeEstablished) none h = absurd h
  inits_same client now max snap p q (Err sctp.DcepOpenTooSmall) none h = absurd h
  inits_same client now max snap p q (Err sctp.DcepIncorrectMessageType) none h = absurd h
  inits_same client now max snap p q (Err sctp.DcepBadUtf8) none h = absurd h
  inits_same client now max snap p q (Err sctp.InvalidSnap) none h = absurd h
  inits_same client now max snap p q (Err sctp.Alloc) none h =
      refused_same client now max snap p q did.OutOfMemory (λ e. absurd (cc)) h.0 h.1
