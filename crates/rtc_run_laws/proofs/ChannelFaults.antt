-- What writes to channels and closes of them do to the counts of faults of the peer that acts: none falls, and a write tells a fault only
-- where that of the association rose.
use Rattle.std.proofs.Common.{◌≡◌, ℕ, Bool, true, false, nat_lt, List, length, Option, Some, None, Result, Ok, Err, alloc_error, refl, sym, ap, subst}
use Rattle.rtc_sctp_values.specs.declared.sctp_error.SctpError.{SctpError}
use Rattle.rtc_sctp_values.specs.declared.sctp_error.SctpError.TheVariants as sctp
use Rattle.rtc_sctp.specs.Calls.{WritesStream}
use Rattle.rtc_peer_core.specs.declared.rtc_error.RtcError.{RtcError}
use Rattle.rtc_peer_core.specs.declared.rtc_error.RtcError.TheVariants.{Sctp, Alloc as PeerAlloc}
use Rattle.rtc_peer_core.specs.Meanings.{Meanings, PartsLaws}
use Rattle.rtc_peer_transport.specs.declared.polled_peer.PolledPeer.{PolledPeer}
use Rattle.rtc_peer_transport.specs.ChannelCalls.{WritesChannel, WritesIf, bytes_available, stream_under, write_taken}
use Rattle.rtc_peer_transport.specs.Connection.{with_sctp}
use Rattle.rtc_run_history.specs.declared.outcome.Outcome.{Outcome}
use Rattle.rtc_run_history.specs.declared.outcome.Outcome.TheVariants.{Wrote, Refused, NoSuch, Alloc}
use Rattle.rtc_run_history.specs.declared.table.Table.{Table}
use Rattle.rtc_run_history.specs.CallReplies.{FindsNone, StepWritesOpen, StepWrites, ClosesOpenChannel, StepClosesChannel}
use Rattle.rtc_run_history.specs.Memory.{CountedPart, DtlsPart, AssociationPart, MediaPart, tells_fault_of}
use Rattle.rtc_run_laws.proofs.StreamFaults.{writes_later, writes_fault, closes_later}
use Rattle.rtc_run_laws.proofs.GrowingCounts.{grows_quiet, answer_tells, association_faults, Counts, counts_as, still_counts, association_counts}
use Rattle.rtc_run_laws.proofs.RestSides.{stays, calls_go}

module _ {I D S M E X T W N : Type 0} (m : Meanings I D S M E X T W N) (laws : PartsLaws m) where
  -- a write that the streams refuse
  refused_counts : (stream : ℕ) (binary : Bool) (bytes : List ℕ) (p : PolledPeer I D S M N) (cause : SctpError) (q : PolledPeer I D S M N)
      → WritesStream m.association stream binary bytes p.core.sctp (Err cause) q.core.sctp → q ≡ with_sctp q.core.sctp p → Counts m p (answer_tells {A = Bool} (Err (Sctp cause))) q
  refused_counts stream binary bytes p cause q h is =
      association_counts m p q (answer_tells {A = Bool} (Err (Sctp cause))) refl refl (ap (λ (x : PolledPeer I D S M N). x.core.dtls.instance) is) (ap (λ (x : PolledPeer I D S M N). x.core.media) is) (
        writes_later m.association laws.association stream binary bytes p.core.sctp (Err cause) q.core.sctp h,
        λ told. writes_fault m.association laws.association stream binary bytes p.core.sctp cause q.core.sctp h told,
      )

  -- a write that tells no fault
  quiet_write : (stream : ℕ) (binary : Bool) (bytes : List ℕ) (p : PolledPeer I D S M N) (answer : Result ℕ SctpError) (q : PolledPeer I D S M N) (told : CountedPart → Bool)
      → ((part : CountedPart) → told part ≡ false) → WritesStream m.association stream binary bytes p.core.sctp answer q.core.sctp → q ≡ with_sctp q.core.sctp p → Counts m p told q
  quiet_write stream binary bytes p answer q told quiet h is =
      association_counts m p q told (quiet DtlsPart) (quiet MediaPart) (ap (λ (x : PolledPeer I D S M N). x.core.dtls.instance) is) (ap (λ (x : PolledPeer I D S M N). x.core.media) is)
      (grows_quiet (association_faults m p) (association_faults m q) (told AssociationPart) (quiet AssociationPart) (writes_later m.association laws.association stream binary bytes p.core.sctp answer q.core.sctp h))

  taken_counts : (stream : ℕ) (binary : Bool) (bytes : List ℕ) (p : PolledPeer I D S M N) (answer : Result ℕ SctpError) (q : PolledPeer I D S M N)
      → WritesStream m.association stream binary bytes p.core.sctp answer q.core.sctp → q ≡ with_sctp q.core.sctp p → Counts m p (answer_tells (write_taken answer)) q
  taken_counts stream binary bytes p (Ok count) q h is = quiet_write stream binary bytes p (Ok count) q (answer_tells {A = Bool} (Ok true)) (λ part. refl) h is
  taken_counts stream binary bytes p (Err (sctp.Proto cause)) q h is = refused_counts stream binary bytes p (sctp.Proto cause) q h is
  taken_counts stream binary bytes p (Err sctp.WriteBeforeEstablished) q h is = refused_counts stream binary bytes p sctp.WriteBeforeEstablished q h is
  taken_counts stream binary bytes p (Err sctp.DcepOpenTooSmall) q h is = refused_counts stream binary bytes p sctp.DcepOpenTooSmall q h is
  taken_counts stream binary bytes p (Err sctp.DcepIncorrectMessageType) q h is = refused_counts stream binary bytes p sctp.DcepIncorrectMessageType q h is
  taken_counts stream binary bytes p (Err sctp.DcepBadUtf8) q h is = refused_counts stream binary bytes p sctp.DcepBadUtf8 q h is
  taken_counts stream binary bytes p (Err sctp.InvalidSnap) q h is = refused_counts stream binary bytes p sctp.InvalidSnap q h is
  taken_counts stream binary bytes p (Err sctp.Alloc) q h is = quiet_write stream binary bytes p (Err sctp.Alloc) q (answer_tells {A = Bool} (Err PeerAlloc)) (λ part. refl) h is

  written_counts : (full : Bool) (stream : ℕ) (binary : Bool) (bytes : List ℕ) (p : PolledPeer I D S M N) (r : Result Bool RtcError) (q : PolledPeer I D S M N)
      → WritesIf m full stream binary bytes p r q → Counts m p (answer_tells r) q
  written_counts true stream binary bytes p r q h =
      still_counts m p p q (answer_tells r) (λ part. ap (λ (x : Result Bool RtcError). answer_tells x part) h.0) h.1 (record { dtls = refl; media = refl; association = refl })
  written_counts false stream binary bytes p r q h =
      subst (λ (x : Result Bool RtcError). Counts m p (answer_tells x) q) (sym h.2) (taken_counts stream binary bytes p h.0 q h.1 h.3)

  write_counts : (stream : ℕ) (binary : Bool) (bytes : List ℕ) (p : PolledPeer I D S M N) (r : Result Bool RtcError) (q : PolledPeer I D S M N)
      → WritesChannel m stream binary bytes p r q → Counts m p (answer_tells r) q
  write_counts stream binary bytes p r q h = written_counts (nat_lt (bytes_available m p) (length bytes)) stream binary bytes p r q h

  closed_counts : (id : ℕ) (p : PolledPeer I D S M N) (r : Result (Unit {0}) RtcError) (q : PolledPeer I D S M N) → ClosesOpenChannel m id p r q → Counts m p (answer_tells r) q
  closed_counts id p (Ok done) q h =
      association_counts m p q (answer_tells {A = Unit {0}} (Ok tt)) refl refl (ap (λ (x : PolledPeer I D S M N). x.core.dtls.instance) h.1) (ap (λ (x : PolledPeer I D S M N). x.core.media) h.1)
      (grows_quiet (association_faults m p) (association_faults m q) false refl
      (closes_later m.association laws.association (stream_under id p.core.channels) p.core.sctp (Ok tt) q.core.sctp h.0))
  closed_counts id p (Err PeerAlloc) q h =
      association_counts m p q (answer_tells {A = Unit {0}} (Err PeerAlloc)) refl refl (ap (λ (x : PolledPeer I D S M N). x.core.dtls.instance) h.1) (ap (λ (x : PolledPeer I D S M N). x.core.media) h.1)
      (grows_quiet (association_faults m p) (association_faults m q) false refl
      (closes_later m.association laws.association (stream_under id p.core.channels) p.core.sctp (Err alloc_error) q.core.sctp h.0))
  closed_counts id p (Err error) q h = absurd h

  -- what names a channel that is not open
  none_goes : (old : PolledPeer I D S M N) (outcome : Outcome E) (table : Option Table) (new : PolledPeer I D S M N) → FindsNone m old outcome table new → Counts m old (tells_fault_of outcome) new
  none_goes old Alloc None new h = stays m laws old new (tells_fault_of {E = E} Alloc) (λ part. refl) h
  none_goes old NoSuch (Some table) new h = stays m laws old new (tells_fault_of {E = E} NoSuch) (λ part. refl) h.0
  none_goes old outcome table new h = absurd h

  open_write_goes : (stream : ℕ) (binary : Bool) (bytes : List ℕ) (old : PolledPeer I D S M N) (outcome : Outcome E) (table : Option Table) (new : PolledPeer I D S M N)
      → StepWritesOpen m stream binary bytes old outcome table new → Counts m old (tells_fault_of outcome) new
  open_write_goes stream binary bytes old Alloc None new h = stays m laws old new (tells_fault_of {E = E} Alloc) (λ part. refl) h
  open_write_goes stream binary bytes old (Wrote taken) (Some table) new h =
      counts_as m old new (answer_tells {A = Bool} (Ok taken)) (tells_fault_of {E = E} (Wrote taken)) (λ part. refl) (write_counts stream binary bytes old (Ok taken) new h.0)
  open_write_goes stream binary bytes old (Refused error) (Some table) new h =
      counts_as m old new (answer_tells {A = Bool} (Err error)) (tells_fault_of {E = E} (Refused error)) (λ part. refl) (write_counts stream binary bytes old (Err error) new h.0)
  open_write_goes stream binary bytes old outcome table new h = absurd h

  -- a write
  pub write_goes : (stream : Option ℕ) (binary : Bool) (bytes : List ℕ) (old : PolledPeer I D S M N) (outcome : Outcome E) (table : Option Table) (new : PolledPeer I D S M N)
      → StepWrites m stream binary bytes old outcome table new → Counts m old (tells_fault_of outcome) new
  write_goes None binary bytes old outcome table new h = none_goes old outcome table new h
  write_goes (Some stream) binary bytes old outcome table new h = open_write_goes stream binary bytes old outcome table new h

  -- a close of a channel
  pub close_channel_goes : (stream : Option ℕ) (id : ℕ) (old : PolledPeer I D S M N) (outcome : Outcome E) (table : Option Table) (new : PolledPeer I D S M N)
      → StepClosesChannel m stream id old outcome table new → Counts m old (tells_fault_of outcome) new
  close_channel_goes None id old outcome table new h = none_goes old outcome table new h
  close_channel_goes (Some stream) id old outcome table new h = calls_go m laws (ClosesOpenChannel m id) (λ p r q call. closed_counts id p r q call) old outcome table new h
