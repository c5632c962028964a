-- Writes to channels and closes of them leave what negotiation reads of a peer, but for the rows of its channels, and give no number.
use Rattle.std.proofs.Common.{◌≡◌, ◌∙◌, ℕ, Bool, true, false, not, ◌&&◌, ◌||◌, nat_lt, List, [], length, Option, Some, None, Result, Ok, Err, alloc_error, refl, sym, ap, subst}
use Rattle.std.specs.declared.alloc.AllocError.{AllocError}
use Rattle.rtc_sctp_values.specs.declared.sctp_error.SctpError.{SctpError}
use Rattle.rtc_sctp_values.specs.declared.sctp_error.SctpError.TheVariants as sctp
use Rattle.rtc_sctp.specs.Calls.{WritesStream, WrittenIf, can_write, is_current, is_ended, is_open_stream}
use Rattle.rtc_sctp.specs.Streams.{SctpStreams}
use Rattle.rtc_sctp_laws.proofs.CallActs.{writes_did}
use Rattle.rtc_sctp_laws.proofs.ClosingPolls.{started_moved}
use Rattle.rtc_peer_core.specs.declared.rtc_error.RtcError.{RtcError}
use Rattle.rtc_peer_core.specs.declared.rtc_error.RtcError.TheVariants.{Alloc as PeerAlloc}
use Rattle.rtc_peer_core.specs.Meanings.{Meanings, PartsLaws}
use Rattle.rtc_peer_core.specs.Stance.{Stance, stance_of}
use Rattle.rtc_peer_transport.specs.declared.polled_peer.PolledPeer.{PolledPeer}
use Rattle.rtc_peer_transport.specs.ChannelCalls.{ClosesDataChannel, WritesChannel, WritesIf, bytes_available, write_taken, stream_under}
use Rattle.rtc_peer_transport.specs.Connection.{with_sctp}
use Rattle.rtc_peer_polling.proofs.KeptCalls.{keeps_by}
use Rattle.rtc_peer_polling.proofs.StandingCalls.{stands_by}
use Rattle.rtc_peer_polling.proofs.StandingInputs.{stance_by}
use Rattle.rtc_peer_polling.specs.Kept.{KeepsStart}
use Rattle.rtc_peer_polling.specs.Numbers.{AreUnconfirmed}
use Rattle.rtc_peer_polling.proofs.StreamSizes.{SameSize, written_size, closed_size}
use Rattle.rtc_peer_polling.proofs.StreamStarts.{closed_start}
use Rattle.rtc_run_history.specs.declared.outcome.Outcome.{Outcome}
use Rattle.rtc_run_history.specs.declared.outcome.Outcome.TheVariants.{Done, Wrote, Refused, NoSuch, Alloc}
use Rattle.rtc_run_history.specs.declared.table.Table.{Table}
use Rattle.rtc_run_history.specs.declared.kept.Kept.{Kept}
use Rattle.rtc_run_history.specs.CallReplies.{FindsNone, StepWritesOpen, StepWrites, ClosesOpenChannel, StepClosesChannel}
use Rattle.rtc_run_history.specs.Memory.{error_lacks}
use Rattle.rtc_run_history.specs.Sound.{is_of_streams, is_written, is_channel_closed}
use Rattle.rtc_run_laws.proofs.NumberedChannels.{same_numbers}
use Rattle.rtc_run_laws.proofs.StanceSteps.{StanceShows, StanceRests}
use Rattle.rtc_run_laws.proofs.StandingPolls.{Moves, moves_none, rests_by, same_stance, shows_stands}

-- whether the answer of a write is of the streams, if it is an error
abbrev is_of_write : Result Bool RtcError → Bool
is_of_write (Ok taken) = true
is_of_write (Err error) = is_of_streams error

taken_of_write : (answer : Result ℕ SctpError) → is_of_write (write_taken answer) ≡ true
taken_of_write (Ok count) = refl
taken_of_write (Err (sctp.Proto cause)) = refl
taken_of_write (Err sctp.WriteBeforeEstablished) = refl
taken_of_write (Err sctp.DcepOpenTooSmall) = refl
taken_of_write (Err sctp.DcepIncorrectMessageType) = refl
taken_of_write (Err sctp.DcepBadUtf8) = refl
taken_of_write (Err sctp.InvalidSnap) = refl
taken_of_write (Err sctp.Alloc) = refl

and_false : (b : Bool) → (b && false) ≡ false
and_false true = refl
and_false false = refl

module _ {I D S M E X T W N : Type 0} (m : Meanings I D S M E X T W N) (laws : PartsLaws m) where
  -- only the streams change
  streams_move : (p q : PolledPeer I D S M N) → q ≡ with_sctp q.core.sctp p → SameSize p.core.sctp q.core.sctp
      → KeepsStart m.association p.core.sctp q.core.sctp → Moves m laws [] p q
  streams_move p q is size start = record {
    peer = stance_by m p q (keeps_by p (with_sctp q.core.sctp p) q is refl) (stands_by m p (with_sctp q.core.sctp p) q is (refl, refl, refl, size, refl, start));
    numbered = same_numbers p.core.channels q.core.channels (ap (λ (x : PolledPeer I D S M N). x.core.channels) is);
    unconfirmed = λ id none. subst (λ (x : PolledPeer I D S M N). AreUnconfirmed id x.core.channels.rows) (sym is) none;
    start = start;
  }

  -- a write needs an association that was started
  written_start : (stream : ℕ) (binary : Bool) (bytes : List ℕ) (p : SctpStreams S) (r : Result ℕ SctpError) (q : SctpStreams S)
      → WritesStream m.association stream binary bytes p r q → KeepsStart m.association p q
  written_start stream binary bytes p r q h =
      let d = writes_did m.association stream binary bytes p r q h in
      record {
        started = λ s. started_moved m.association laws.association d.did.acts p.association q.association s d.did.went;
        unstarted = λ s.
            let ended : is_ended m.association p.association ≡ true =
            ap (λ (b : Bool). not b || (m.association.closing p.association || m.association.closed p.association)) s in
            let closed : can_write m.association stream p ≡ false =
            ap (λ (b : Bool). is_open_stream stream p && not b) ended ∙ and_false (is_open_stream stream p) in
            let same : q ≡ p = (subst (λ (b : Bool). WrittenIf m.association b (is_current m.association stream p) stream binary bytes p r q) closed h).1 in
            (ap (λ (x : SctpStreams S). m.association.started x.association) same ∙ s, λ none. ap (λ (x : SctpStreams S). x.entries) same ∙ none);
      }

  written_moves : (full : Bool) (stream : ℕ) (binary : Bool) (bytes : List ℕ) (p : PolledPeer I D S M N) (r : Result Bool RtcError) (q : PolledPeer I D S M N)
      → WritesIf m full stream binary bytes p r q → Moves m laws [] p q
  written_moves true stream binary bytes p r q h = moves_none m laws p q h.1
  written_moves false stream binary bytes p r q h = streams_move p q h.3 (written_size m.association stream binary bytes p.core.sctp h.0 q.core.sctp h.1)
      (written_start stream binary bytes p.core.sctp h.0 q.core.sctp h.1)

  pub write_moves : (stream : ℕ) (binary : Bool) (bytes : List ℕ) (p : PolledPeer I D S M N) (r : Result Bool RtcError) (q : PolledPeer I D S M N)
      → WritesChannel m stream binary bytes p r q → Moves m laws [] p q
  write_moves stream binary bytes p r q h = written_moves (nat_lt (bytes_available m p) (length bytes)) stream binary bytes p r q h

  written_of_write : (full : Bool) (stream : ℕ) (binary : Bool) (bytes : List ℕ) (p : PolledPeer I D S M N) (r : Result Bool RtcError) (q : PolledPeer I D S M N)
      → WritesIf m full stream binary bytes p r q → is_of_write r ≡ true
  written_of_write true stream binary bytes p r q h = ap is_of_write h.0
  written_of_write false stream binary bytes p r q h = ap is_of_write h.2 ∙ taken_of_write h.0

  write_refused : (stream : ℕ) (binary : Bool) (bytes : List ℕ) (p : PolledPeer I D S M N) (error : RtcError) (q : PolledPeer I D S M N)
      → WritesChannel m stream binary bytes p (Err error) q → is_of_streams error ≡ true
  write_refused stream binary bytes p error q h = written_of_write (nat_lt (bytes_available m p) (length bytes)) stream binary bytes p (Err error) q h

  -- what names a channel that is not open
  none_rest : (may : Outcome E → Bool) → may NoSuch ≡ true → (old : PolledPeer I D S M N) (outcome : Outcome E) (table : Option Table) (new : PolledPeer I D S M N) (sdps sdps' : List Kept)
      → FindsNone m old outcome table new → sdps' ≡ sdps → StanceRests may (stance_of m old.core) sdps outcome table (stance_of m new.core) sdps'
  none_rest may is old Alloc None new sdps sdps' h kept = rests_by m laws may Alloc None old new sdps sdps' (moves_none m laws old new h) kept (refl, same_stance m laws old new h)
  none_rest may is old NoSuch (Some table) new sdps sdps' h kept =
      rests_by m laws may NoSuch (Some table) old new sdps sdps' (moves_none m laws old new h.0) kept
      (is, subst (λ (s : Stance). StanceShows table s) (sym (same_stance m laws old new h.0)) (shows_stands m laws table old.core h.1))
  none_rest may is old outcome table new sdps sdps' h kept = absurd h

  open_write_rest : (stream : ℕ) (binary : Bool) (bytes : List ℕ) (old : PolledPeer I D S M N) (outcome : Outcome E) (table : Option Table) (new : PolledPeer I D S M N) (sdps sdps' : List Kept)
      → StepWritesOpen m stream binary bytes old outcome table new → sdps' ≡ sdps → StanceRests is_written (stance_of m old.core) sdps outcome table (stance_of m new.core) sdps'
  open_write_rest stream binary bytes old Alloc None new sdps sdps' h kept =
      rests_by m laws is_written Alloc None old new sdps sdps' (moves_none m laws old new h) kept (refl, same_stance m laws old new h)
  open_write_rest stream binary bytes old (Wrote taken) (Some table) new sdps sdps' h kept =
      rests_by m laws is_written (Wrote taken) (Some table) old new sdps sdps' (write_moves stream binary bytes old (Ok taken) new h.0) kept (refl, shows_stands m laws table new.core h.1)
  open_write_rest stream binary bytes old (Refused error) (Some table) new sdps sdps' h kept =
      rests_by m laws is_written (Refused error) (Some table) old new sdps sdps' (write_moves stream binary bytes old (Err error) new h.0) kept
      (write_refused stream binary bytes old error new h.0, shows_stands m laws table new.core h.1)
  open_write_rest stream binary bytes old outcome table new sdps sdps' h kept = absurd h

  -- a write
  pub write_rest : (stream : Option ℕ) (binary : Bool) (bytes : List ℕ) (old : PolledPeer I D S M N) (outcome : Outcome E) (table : Option Table) (new : PolledPeer I D S M N) (sdps sdps' : List Kept)
      → StepWrites m stream binary bytes old outcome table new → sdps' ≡ sdps → StanceRests is_written (stance_of m old.core) sdps outcome table (stance_of m new.core) sdps'
  write_rest None binary bytes old outcome table new sdps sdps' h kept = none_rest is_written refl old outcome table new sdps sdps' h kept
  write_rest (Some stream) binary bytes old outcome table new sdps sdps' h kept = open_write_rest stream binary bytes old outcome table new sdps sdps' h kept

  pub shuts_move : (id : ℕ) (p : PolledPeer I D S M N) (r : Result (Unit {0}) AllocError) (q : PolledPeer I D S M N) → ClosesDataChannel m id p r q
      → Moves m laws [] p q
  shuts_move id p r q h =
      streams_move p q h.1 (closed_size m.association (stream_under id p.core.channels) p.core.sctp r q.core.sctp h.0)
      (closed_start m.association laws.association (stream_under id p.core.channels) p.core.sctp r q.core.sctp h.0)

  closes_move : (id : ℕ) (p : PolledPeer I D S M N) (r : Result (Unit {0}) RtcError) (q : PolledPeer I D S M N) → ClosesOpenChannel m id p r q → Moves m laws [] p q
  closes_move id p (Ok done) q h = shuts_move id p (Ok tt) q h
  closes_move id p (Err PeerAlloc) q h = shuts_move id p (Err alloc_error) q h
  closes_move id p (Err error) q h = absurd h

  close_refused : (id : ℕ) (p : PolledPeer I D S M N) (error : RtcError) (q : PolledPeer I D S M N) → ClosesOpenChannel m id p (Err error) q → error_lacks error ≡ true
  close_refused id p PeerAlloc q h = refl
  close_refused id p error q h = absurd h

  -- a close of a channel
  pub close_channel_rest : (stream : Option ℕ) (id : ℕ) (old : PolledPeer I D S M N) (outcome : Outcome E) (table : Option Table) (new : PolledPeer I D S M N) (sdps sdps' : List Kept)
      → StepClosesChannel m stream id old outcome table new → sdps' ≡ sdps → StanceRests is_channel_closed (stance_of m old.core) sdps outcome table (stance_of m new.core) sdps'
  close_channel_rest None id old outcome table new sdps sdps' h kept = none_rest is_channel_closed refl old outcome table new sdps sdps' h kept
  close_channel_rest (Some stream) id old Alloc None new sdps sdps' h kept =
      rests_by m laws is_channel_closed Alloc None old new sdps sdps' (moves_none m laws old new h) kept (refl, same_stance m laws old new h)
  close_channel_rest (Some stream) id old Done (Some table) new sdps sdps' h kept =
      rests_by m laws is_channel_closed Done (Some table) old new sdps sdps' (closes_move id old (Ok tt) new h.0) kept (refl, shows_stands m laws table new.core h.1)
  close_channel_rest (Some stream) id old (Refused error) (Some table) new sdps sdps' h kept =
      rests_by m laws is_channel_closed (Refused error) (Some table) old new sdps sdps' (closes_move id old (Err error) new h.0) kept
      (close_refused id old error new h.0, shows_stands m laws table new.core h.1)
  close_channel_rest (Some stream) id old outcome table new sdps sdps' h kept = absurd h
