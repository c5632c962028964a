-- What the calls of streams but polls do to the association.
use Rattle.std.proofs.Common.{◌≡◌, ℕ, Bool, true, false, List, [], ◌∷◌, length, Option, Some, None, Result, Ok, Err, refl, sym, ap, subst, ◌∙◌}
use Rattle.std.specs.declared.alloc.AllocError.{AllocError}
use Rattle.rtc_ready.specs.Signals.{Signals}
use Rattle.rtc_wire.specs.declared.channel_config.ChannelConfig.{ChannelConfig}
use Rattle.rtc_parts.specs.declared.assoc_error.AssocError.{AssocError}
use Rattle.rtc_parts.specs.AssociationMeaning.{AssociationMeaning}
use Rattle.rtc_sctp_entries.specs.declared.asked.Asked.{Asked}
use Rattle.rtc_sctp_entries.specs.declared.asked.Asked.TheVariants as did
use Rattle.rtc_sctp_entries.specs.declared.stream_entry_state.StreamEntryState.{StreamEntryState}
use Rattle.rtc_sctp_entries.specs.declared.stream_entry_state.StreamEntryState.TheVariants.{AwaitOpen, AwaitConfig, AwaitDcepAck, Open, Closed}
use Rattle.rtc_sctp_entries.specs.declared.stream_entry.StreamEntry.{StreamEntry}
use Rattle.rtc_sctp_entries.specs.Part.{AsksStart}
use Rattle.rtc_sctp_entries.specs.Entries.{entry_place}
use Rattle.rtc_sctp.specs.declared.rtc_sctp_state.RtcSctpState.{RtcSctpState}
use Rattle.rtc_sctp.specs.declared.rtc_sctp_state.RtcSctpState.TheVariants.{Uninited, AwaitRemoteAssociation, AwaitAssociationEstablished, Established}
use Rattle.rtc_sctp_values.specs.declared.proto_error.ProtoError.TheVariants as proto
use Rattle.rtc_sctp_values.specs.declared.sctp_error.SctpError.{SctpError}
use Rattle.rtc_sctp_values.specs.declared.sctp_error.SctpError.TheVariants as sctp
use Rattle.rtc_sctp.specs.Streams.{SctpStreams}
use Rattle.rtc_sctp_values.specs.InitHalves.{InitHalves, half_bytes}
use Rattle.rtc_sctp.specs.Calls.{AsksInit, Inits, ShutBy, Shuts, is_ended, WrittenIf, WritesStream, can_write, is_current, written_ppi, is_nil, write_answer, InputIf, TakesInput, TimedBy, TakesTimeout}
use Rattle.rtc_sctp.specs.StreamCalls.{TakesConfig, Declined, Answered, OpensAwaiting, OpensOver, OpensAt, OpensStream, EndsStream, NoRoom, Ended, EndsIf, ClosesAt, ClosesDataStream}
use Rattle.rtc_sctp_laws.specs.StreamMessages.{StreamMessage}
use Rattle.rtc_sctp_laws.specs.StreamActs.{AssociationDid, CallDid, written_message, given_packet}
use Rattle.rtc_sctp_laws.proofs.ActLemmas.{did_same, ended_did, reliability_did, wrote_did, shut_did, timed_did, given_did, started_did, snapped_did, message_taken}

module _ {S : Type 0} (m : AssociationMeaning S) where
  -- what a call did to the association, where what stood pushed back stands
  call : (ins : List (List ℕ)) (wrote : List StreamMessage) (p u q : SctpStreams S) → q ≡ u → u.pushed ≡ p.pushed → u.completed ≡ p.completed → AssociationDid m ins [] [] wrote [] p.association q.association → CallDid m ins wrote p q
  call ins wrote p u q e f k d = record { did = d; pushed_is = ap (λ (x : SctpStreams S). x.pushed) e ∙ f; completed_is = ap (λ (x : SctpStreams S). x.completed) e ∙ k }

  unchanged : (p q : SctpStreams S) → q ≡ p → CallDid m [] [] p q
  unchanged p q e = call [] [] p p q e refl refl (did_same m p.association q.association (ap (λ (x : SctpStreams S). x.association) e))

  starts : (client : Bool) (now max : ℕ) (a : Asked) (p q : S) → m.started p ≡ false → AsksStart m client p now max a q → AssociationDid m [] [] [] [] [] p q
  starts client now max a p q s k = started_did m client p q now max k.result s k.called

  begins : (snap : Option InitHalves) (client : Bool) (now max : ℕ) (a : Asked) (p q : S) → m.started p ≡ false
      → AsksInit m snap client p now max a q → AssociationDid m [] [] [] [] [] p q
  begins None client now max a p q s k = starts client now max a p q s k
  begins (Some halves) client now max a p q s k =
      snapped_did m p q now max (half_bytes halves.local) (half_bytes halves.remote) k.1.result s k.1.called

  pub inits_did : (client : Bool) (now max : ℕ) (snap : Option InitHalves) (p : SctpStreams S) (r : Result (Unit {0}) SctpError) (q : SctpStreams S)
      → Inits m client now max snap p r q → CallDid m [] [] p q
  inits_did client now max snap p (Ok x) q h = call [] [] p _ q h.2 refl refl (begins snap client now max did.Done p.association q.association h.0 h.1)
  inits_did client now max snap p (Err (sctp.Proto proto.Started)) q h = unchanged p q h.1
  inits_did client now max snap p (Err (sctp.Proto proto.SnapHalf)) q h = unchanged p q h.2
  inits_did client now max snap p (Err (sctp.Proto proto.Fault)) q h = call [] [] p _ q h.2 refl refl (begins snap client now max did.Refused p.association q.association h.0 h.1)
  inits_did client now max snap p (Err sctp.Alloc) q h = call [] [] p _ q h.2 refl refl (begins snap client now max did.OutOfMemory p.association q.association h.0 h.1)
  inits_did client now max snap p (Err e) q h = absurd h

  shut_by : (b : Bool) (p : SctpStreams S) (r : Result (Unit {0}) SctpError) (q : SctpStreams S) → ShutBy m b p r q → CallDid m [] [] p q
  shut_by true p r q h = unchanged p q h.1
  shut_by false p (Ok x) q h = call [] [] p _ q h.1 refl refl (shut_did m p.association q.association h.0.result h.0.called)
  shut_by false p (Err (sctp.Proto proto.Fault)) q h = call [] [] p _ q h.1 refl refl (shut_did m p.association q.association h.0.result h.0.called)
  shut_by false p (Err sctp.Alloc) q h = call [] [] p _ q h.1 refl refl (shut_did m p.association q.association h.0.result h.0.called)
  shut_by false p (Err e) q h = absurd h

  pub shuts_did : (p : SctpStreams S) (r : Result (Unit {0}) SctpError) (q : SctpStreams S) → Shuts m p r q → CallDid m [] [] p q
  shuts_did p r q h = shut_by (is_ended m p.association) p r q h

  -- a write that the association answered
  answered : (id g : ℕ) (binary : Bool) (bytes : List ℕ) (max : ℕ) (a : Result ℕ AssocError) → message_taken id g (written_ppi binary (is_nil bytes)) bytes a ≡ written_message id g binary bytes (write_answer id (length bytes) max a)
  answered id g binary bytes max (Ok n) = refl
  answered id g binary bytes max (Err e) = refl

  written_if : (b c : Bool) (id : ℕ) (binary : Bool) (bytes : List ℕ) (p : SctpStreams S) (r : Result ℕ SctpError) (q : SctpStreams S) → WrittenIf m b c id binary bytes p r q → CallDid m [] (written_message id (m.generation p.association id) binary bytes r) p q
  written_if false c id binary bytes p r q h = subst (λ (x : Result ℕ SctpError). CallDid m [] (written_message id (m.generation p.association id) binary bytes x) p q) (sym h.0) (unchanged p q h.1)
  written_if true false id binary bytes p r q h = subst (λ (x : Result ℕ SctpError). CallDid m [] (written_message id (m.generation p.association id) binary bytes x) p q) (sym h.0) (unchanged p q h.1)
  written_if true true id binary bytes p r q h =
      let g = m.generation p.association id in
      subst (λ (x : Result ℕ SctpError). CallDid m [] (written_message id g binary bytes x) p q) (sym h.2)
      (call [] _ p _ q h.3 refl refl
      (subst (λ (l : List StreamMessage). AssociationDid m [] [] [] l [] p.association q.association) (answered id g binary bytes p.remote_max h.0)
      (wrote_did m p.association q.association id (written_ppi binary (is_nil bytes)) bytes h.0 h.1)))

  pub writes_did : (id : ℕ) (binary : Bool) (bytes : List ℕ) (p : SctpStreams S) (r : Result ℕ SctpError) (q : SctpStreams S) → WritesStream m id binary bytes p r q → CallDid m [] (written_message id (m.generation p.association id) binary bytes r) p q
  writes_did id binary bytes p r q h = written_if (can_write m id p) (is_current m id p) id binary bytes p r q h

  input_if : (b : Bool) (now : ℕ) (bytes : List ℕ) (p : SctpStreams S) (r : Result (Unit {0}) AllocError) (q : SctpStreams S) → InputIf m b now bytes p r q → CallDid m (given_packet b bytes) [] p q
  input_if false now bytes p r q h = unchanged p q h.1
  input_if true now bytes p r q h = call (bytes ∷ []) [] p _ q h.1 refl refl (given_did m p.association q.association now bytes r h.0)

  pub input_did : (now : ℕ) (bytes : List ℕ) (p : SctpStreams S) (r : Result (Unit {0}) AllocError) (q : SctpStreams S) → TakesInput m now bytes p r q → CallDid m (given_packet (m.started p.association) bytes) [] p q
  input_did now bytes p r q h = input_if (m.started p.association) now bytes p r q h

  timed_by : (st : RtcSctpState) (now : ℕ) (p : SctpStreams S) (wake : Signals) (r : Result (Unit {0}) AllocError) (q : SctpStreams S) (wake' : Signals) → TimedBy m st now p wake r q wake' → CallDid m [] [] p q
  timed_by Uninited now p wake r q wake' h = unchanged p q h.1
  timed_by AwaitRemoteAssociation now p wake r q wake' h = call [] [] p _ q h.1 refl refl (did_same m p.association q.association (ap (λ (x : SctpStreams S). x.association) h.1))
  timed_by AwaitAssociationEstablished now p wake r q wake' h = call [] [] p _ q h.1 refl refl (timed_did m p.association q.association now r h.0)
  timed_by Established now p wake r q wake' h = call [] [] p _ q h.1 refl refl (timed_did m p.association q.association now r h.0)

  pub timeout_did : (now : ℕ) (p : SctpStreams S) (wake : Signals) (r : Result (Unit {0}) AllocError) (q : SctpStreams S) (wake' : Signals) → TakesTimeout m now p wake r q wake' → CallDid m [] [] p q
  timeout_did now p wake r q wake' h = timed_by p.state now p wake r q wake' h

  -- streams that are opened and closed
  config_did : (config : ChannelConfig) (a : S) (e : StreamEntry) (r : Result (Unit {0}) AllocError) (b : S) (e' : StreamEntry) → TakesConfig m config a e r b e' → AssociationDid m [] [] [] [] [] a b
  config_did config a e r b e' (Declined c k f g) = did_same m a b f
  config_did config a e r b e' (Answered answer c k f) = reliability_did m a b e.id _ _ _ k.result k.called

  awaiting_did : (set : Bool) (config : ChannelConfig) (a : S) (e : StreamEntry) (r : Result (Unit {0}) AllocError) (b : S) (e' : StreamEntry) → OpensAwaiting m set config a e r b e' → AssociationDid m [] [] [] [] [] a b
  awaiting_did true config a e r b e' h = did_same m a b h.1
  awaiting_did false config a e r b e' h = config_did config a e r b e' h

  open_over : (st : StreamEntryState) (config : ChannelConfig) (a : S) (e : StreamEntry) (r : Result (Unit {0}) AllocError) (b : S) (e' : StreamEntry) → OpensOver m st config a e r b e' → AssociationDid m [] [] [] [] [] a b
  open_over AwaitConfig config a e r b e' h = awaiting_did _ config a e r b e' h
  open_over AwaitOpen config a e r b e' h = did_same m a b h.1
  open_over AwaitDcepAck config a e r b e' h = did_same m a b h.1
  open_over Open config a e r b e' h = did_same m a b h.1
  open_over Closed config a e r b e' h = did_same m a b h.1

  open_at : (o : Option ℕ) (id : ℕ) (config : ChannelConfig) (a : S) (es : List StreamEntry) (r : Result (Unit {0}) AllocError) (b : S) (es' : List StreamEntry) → OpensAt m o id config a es r b es' → AssociationDid m [] [] [] [] [] a b
  open_at None id config a es (Ok x) b es' h = did_same m a b h.0
  open_at None id config a es (Err x) b es' h = did_same m a b h.0
  open_at (Some place) id config a es r b es' h = open_over h.0.state config a h.0 r b h.1 h.3

  pub opens_did : (id : ℕ) (config : ChannelConfig) (p : SctpStreams S) (r : Result (Unit {0}) AllocError) (q : SctpStreams S) → OpensStream m id config p r q → CallDid m [] [] p q
  opens_did id config p r q h = call [] [] p _ q h.1 refl refl (open_at (entry_place id p.entries) id config p.association p.entries r q.association q.entries h.0)

  ends_did : (id : ℕ) (a : S) (resets : List ℕ) (r : Result (Unit {0}) AllocError) (b : S) (resets' : List ℕ) → EndsStream m id a resets r b resets' → AssociationDid m [] [] [] [] [] a b
  ends_did id a resets r b resets' (NoRoom e f g) = did_same m a b f
  ends_did id a resets r b resets' (Ended answer k f) = ended_did m a b id k.result k.called

  ends_if : (started : Bool) (id : ℕ) (a : S) (resets : List ℕ) (r : Result (Unit {0}) AllocError) (b : S) (resets' : List ℕ) → EndsIf m started id a resets r b resets' → AssociationDid m [] [] [] [] [] a b
  ends_if false id a resets r b resets' h = did_same m a b h.1
  ends_if true id a resets r b resets' h = ends_did id a resets r b resets' h

  close_at : (o : Option ℕ) (id : ℕ) (a : S) (es : List StreamEntry) (resets : List ℕ) (r : Result (Unit {0}) AllocError) (b : S) (es' : List StreamEntry) (resets' : List ℕ) → ClosesAt m o id a es resets r b es' resets' → AssociationDid m [] [] [] [] [] a b
  close_at None id a es resets r b es' resets' h = did_same m a b h.1
  close_at (Some place) id a es resets r b es' resets' h = ends_if (m.started a) id a resets r b resets' h.1

  pub closes_did : (id : ℕ) (p : SctpStreams S) (r : Result (Unit {0}) AllocError) (q : SctpStreams S) → ClosesDataStream m id p r q → CallDid m [] [] p q
  closes_did id p r q h =
      call [] [] p _ q h.1 refl refl (close_at (entry_place id p.entries) id p.association p.entries p.resets r q.association q.entries q.resets h.0)
