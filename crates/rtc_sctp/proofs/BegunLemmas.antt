-- Whether the association is started behind a start, Ok or refused, and what is then kept of starts by session descriptions.
use Rattle.std.proofs.Common.{◌≡◌, ◌∙◌, ℕ, Bool, true, false, Option, Some, None, Result, Ok, Err, sym, ap}
use Rattle.rtc_parts.specs.declared.assoc_error.AssocError.{AssocError}
use Rattle.rtc_parts.specs.declared.assoc_error.AssocError.TheVariants as assoc
use Rattle.rtc_parts.specs.AssociationMeaning.{AssociationMeaning}
use Rattle.rtc_parts.specs.AssociationLaws.{AssociationLaws, LeavesStarted}
use Rattle.rtc_sctp_entries.specs.Answers.{asked_of}
use Rattle.rtc_sctp_entries.specs.declared.asked.Asked.{Asked}
use Rattle.rtc_sctp_entries.specs.declared.asked.Asked.TheVariants as did
use Rattle.rtc_sctp_entries.specs.Part.{AsksStart}
use Rattle.rtc_sctp_values.specs.InitHalves.{InitHalves, half_bytes}
use Rattle.rtc_sctp_values.specs.SnapHalves.{begun_halves}
use Rattle.rtc_sctp_values.specs.declared.proto_error.ProtoError.TheVariants as proto
use Rattle.rtc_sctp_values.specs.declared.sctp_error.SctpError.{SctpError}
use Rattle.rtc_sctp_values.specs.declared.sctp_error.SctpError.TheVariants as sctp
use Rattle.rtc_sctp.specs.Streams.{SctpStreams}
use Rattle.rtc_sctp.specs.Calls.{AsksInit, Inits}
use Rattle.rtc_sctp.proofs.StartLemmas.{init_unstarted}

-- a call that refused did not do what it was asked
refused_call : (e : AssocError) → asked_of {T = Unit {0}} (Err e) ≡ did.Done → ⊥
refused_call assoc.StreamExists h = absurd (cc)
refused_call assoc.ResetPending h = absurd (cc)
refused_call assoc.NoStream h = absurd (cc)
refused_call assoc.TooLong h = absurd (cc)
refused_call assoc.Closing h = absurd (cc)
refused_call assoc.Fault h = absurd (cc)
refused_call assoc.Alloc h = absurd (cc)

-- what a refused start leaves: whether the association is started, and what is kept
pub record LeavesStart {S : Type 0} (m : AssociationMeaning S) (p q : SctpStreams S) : Type 0 where
  pub started : m.started q.association ≡ m.started p.association
  pub snap : q.snap ≡ p.snap

module _ {S : Type 0} (m : AssociationMeaning S) (w : AssociationLaws m) where
  left_started : (max : ℕ) (r : Result (Unit {0}) AssocError) (q : S) → asked_of r ≡ did.Done → LeavesStarted m max r q → m.started q ≡ true
  left_started max (Ok x) q done h = h.0
  left_started max (Err e) q done h = absurd (refused_call e done)

  asked_started : (client : Bool) (p q : S) (now max : ℕ) → m.started p ≡ false → AsksStart m client p now max did.Done q
      → m.started q ≡ true
  asked_started true p q now max fresh h = left_started max h.result q h.is (w.connect_starts p q now max h.result fresh h.called)
  asked_started false p q now max fresh h = left_started max h.result q h.is (w.accept_starts p q now max h.result fresh h.called)

  init_started : (snap : Option InitHalves) (client : Bool) (p q : S) (now max : ℕ) → m.started p ≡ false
      → AsksInit m snap client p now max did.Done q → m.started q ≡ true
  init_started None client p q now max fresh h = asked_started client p q now max fresh h
  init_started (Some halves) client p q now max fresh h =
      left_started max h.1.result q h.1.is
      (w.snap_starts p q now max (half_bytes halves.local) (half_bytes halves.remote) h.1.result fresh h.1.called)

  -- behind an Ok start the association is started
  pub inits_started : (client : Bool) (now max : ℕ) (snap : Option InitHalves) (p q : SctpStreams S) → Inits m client now max snap p (Ok tt) q
      → m.started q.association ≡ true
  inits_started client now max snap p q h = init_started snap client p.association q.association now max h.0 h.1

  -- with its halves, and nothing is pending
  pub inits_snap : (client : Bool) (now max : ℕ) (snap : Option InitHalves) (p q : SctpStreams S) → Inits m client now max snap p (Ok tt) q
      → q.snap ≡ begun_halves snap p.snap
  inits_snap client now max snap p q h = ap (λ (s : SctpStreams S). s.snap) h.2

  left_same : (p q : SctpStreams S) → q ≡ p → LeavesStart m p q
  left_same p q same = record {
    started = ap (λ (s : SctpStreams S). m.started s.association) same;
    snap = ap (λ (s : SctpStreams S). s.snap) same;
  }

  left_refused : (client : Bool) (now max : ℕ) (snap : Option InitHalves) (p q : SctpStreams S) (answer : Asked) → (answer ≡ did.Done → ⊥)
      → m.started p.association ≡ false → AsksInit m snap client p.association now max answer q.association
      → q ≡ record p { association = q.association; rests = false } → LeavesStart m p q
  left_refused client now max snap p q answer refused fresh asks rest = record {
    started = init_unstarted m w snap client p.association q.association now max answer refused fresh asks ∙ sym fresh;
    snap = ap (λ (s : SctpStreams S). s.snap) rest;
  }

  -- a refused start leaves both
  pub refused_start : (client : Bool) (now max : ℕ) (snap : Option InitHalves) (p q : SctpStreams S) (e : SctpError)
      → Inits m client now max snap p (Err e) q → LeavesStart m p q
  refused_start client now max snap p q (sctp.Proto proto.Started) h = left_same p q h.1
  refused_start client now max snap p q (sctp.Proto proto.SnapHalf) h = left_same p q h.2
  refused_start client now max snap p q (sctp.Proto proto.Fault) h =
      left_refused client now max snap p q did.Refused (λ e. absurd (cc)) h.0 h.1 h.2
  refused_start client now max snap p q (sctp.Proto (proto.TooLong len limit)) h = absurd h
  refused_start client now max snap p q (sctp.Proto (proto.NoStream id)) h = absurd h
  refused_start client now max snap p q sctp.WriteBeforeEstablished h = absurd h
  refused_start client now max snap p q sctp.DcepOpenTooSmall h = absurd h
  refused_start client now max snap p q sctp.DcepIncorrectMessageType h = absurd h
  refused_start client now max snap p q sctp.DcepBadUtf8 h = absurd h
  refused_start client now max snap p q sctp.InvalidSnap h = absurd h
  refused_start client now max snap p q sctp.Alloc h =
      left_refused client now max snap p q did.OutOfMemory (λ e. absurd (cc)) h.0 h.1 h.2
