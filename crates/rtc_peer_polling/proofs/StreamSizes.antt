-- What calls on the streams and polls of them leave of what session descriptions tell of them, the longest message that this side takes
-- and what is kept of their start: it stays.
use Rattle.std.proofs.Common.{◌≡◌, ◌∙◌, ℕ, zero, suc, Bool, true, false, List, [], ◌∷◌, Option, Some, None, Result, Ok, Err, refl, ap}
use Rattle.std.specs.declared.alloc.AllocError.{AllocError}
use Rattle.rtc_ready.specs.Signals.{Signals}
use Rattle.rtc_parts.specs.AssociationMeaning.{AssociationMeaning}
use Rattle.rtc_sctp_entries.specs.declared.met.Met.{Met}
use Rattle.rtc_sctp_entries.specs.declared.met.Met.TheVariants.{Nothing, Again, Output, OutOfMemory}
use Rattle.rtc_sctp_entries.specs.declared.sctp_event.SctpEvent.{SctpEvent}
use Rattle.rtc_sctp_values.specs.declared.proto_error.ProtoError.TheVariants as proto
use Rattle.rtc_sctp_values.specs.declared.sctp_error.SctpError.{SctpError}
use Rattle.rtc_sctp_values.specs.declared.sctp_error.SctpError.TheVariants as sctp
use Rattle.rtc_sctp.specs.Calls.{ShutBy, Shuts, WrittenIf, WritesStream, InputIf, TakesInput, TimedBy, is_ended, is_current, can_write}
use Rattle.rtc_sctp.specs.Polls.{ThenBy, Else, CompletionOf, GivesCompletion, TransmitIf, TransmitOf, GivesTransmit, HandlesEvent, VisitsIf, VisitsEntries, TakesSteps, RestsBy, PassIf, MakesPass, Over, PollsStreams, unclosed_streams}
use Rattle.rtc_sctp.specs.Streams.{SctpStreams}
use Rattle.rtc_sctp.specs.declared.rtc_sctp_state.RtcSctpState.{RtcSctpState}
use Rattle.rtc_sctp.specs.declared.rtc_sctp_state.RtcSctpState.TheVariants.{Uninited, AwaitRemoteAssociation}
use Rattle.rtc_sctp.specs.declared.rtc_sctp_state.RtcSctpState.TheVariants.{AwaitAssociationEstablished, Established}
use Rattle.rtc_wire.specs.declared.channel_config.ChannelConfig.{ChannelConfig}
use Rattle.rtc_channels.specs.Channels.{Channel, Channels}
use Rattle.rtc_peer_polling.specs.Kept.{told_of_streams}
use Rattle.rtc_channels.specs.Openings.{OpensChannel, OpensAll, Following, MeetsMoment, ClosesChannel}

-- what session descriptions tell of the streams is the same
abbrev pub SameSize : {S : Type 0} → SctpStreams S → SctpStreams S → Type 0
SameSize p q = told_of_streams q ≡ told_of_streams p

same_size : {S : Type 0} (p n q : SctpStreams S) → q ≡ n → SameSize p n → SameSize p q
same_size {S} p n q is same = ap (λ (s : SctpStreams S). told_of_streams s) is ∙ same

module _ {S : Type 0} (m : AssociationMeaning S) where
  -- ---- calls

  shut_by_size : (ended : Bool) (p : SctpStreams S) (r : Result (Unit {0}) SctpError) (q : SctpStreams S) → ShutBy m ended p r q → SameSize p q
  shut_by_size true p r q h = same_size p p q h.1 refl
  shut_by_size false p (Ok x) q h = same_size p _ q h.1 refl
  shut_by_size false p (Err (sctp.Proto proto.Fault)) q h = same_size p _ q h.1 refl
  shut_by_size false p (Err sctp.Alloc) q h = same_size p _ q h.1 refl
  shut_by_size false p (Err e) q h = absurd h

  pub shut_size : (p : SctpStreams S) (r : Result (Unit {0}) SctpError) (q : SctpStreams S) → Shuts m p r q → SameSize p q
  shut_size p r q h = shut_by_size (is_ended m p.association) p r q h

  input_if_size : (started : Bool) (now : ℕ) (bytes : List ℕ) (p : SctpStreams S) (r : Result (Unit {0}) AllocError) (q : SctpStreams S)
      → InputIf m started now bytes p r q → SameSize p q
  input_if_size false now bytes p r q h = same_size p p q h.1 refl
  input_if_size true now bytes p r q h = same_size p _ q h.1 refl

  pub input_size : (now : ℕ) (bytes : List ℕ) (p : SctpStreams S) (r : Result (Unit {0}) AllocError) (q : SctpStreams S)
      → TakesInput m now bytes p r q → SameSize p q
  input_size now bytes p r q h = input_if_size (m.started p.association) now bytes p r q h

  pub timed_size : (state : RtcSctpState) (now : ℕ) (p : SctpStreams S) (wake : Signals) (r : Result (Unit {0}) AllocError)
      (q : SctpStreams S) (wake' : Signals) → TimedBy m state now p wake r q wake' → SameSize p q
  timed_size Uninited now p wake r q wake' h = same_size p p q h.1 refl
  timed_size AwaitRemoteAssociation now p wake r q wake' h = same_size p _ q h.1 refl
  timed_size AwaitAssociationEstablished now p wake r q wake' h = same_size p _ q h.1 refl
  timed_size Established now p wake r q wake' h = same_size p _ q h.1 refl

  written_if_size : (can current : Bool) (id : ℕ) (binary : Bool) (bytes : List ℕ) (p : SctpStreams S) (r : Result ℕ SctpError)
      (q : SctpStreams S) → WrittenIf m can current id binary bytes p r q → SameSize p q
  written_if_size false current id binary bytes p r q h = same_size p p q h.1 refl
  written_if_size true false id binary bytes p r q h = same_size p p q h.1 refl
  written_if_size true true id binary bytes p r q h = same_size p _ q h.3 refl

  pub written_size : (id : ℕ) (binary : Bool) (bytes : List ℕ) (p : SctpStreams S) (r : Result ℕ SctpError) (q : SctpStreams S)
      → WritesStream m id binary bytes p r q → SameSize p q
  written_size id binary bytes p r q h = written_if_size (can_write m id p) (is_current m id p) id binary bytes p r q h

  pub closed_size : (stream : Option ℕ) (p : SctpStreams S) (r : Result (Unit {0}) AllocError) (q : SctpStreams S)
      → ClosesChannel m stream p r q → SameSize p q
  closed_size None p r q h = same_size p p q h.1 refl
  closed_size (Some stream) p r q h = same_size p _ q h.1 refl

  -- ---- channels that are opened

  opened_size : (stream : Option ℕ) (config : Option ChannelConfig) (id : ℕ) (held : Channels) (p : SctpStreams S)
      (r : Result (Unit {0}) AllocError) (held' : Channels) (q : SctpStreams S) → OpensChannel m stream config id held p r held' q → SameSize p q
  opened_size (Some stream) (Some config) id held p r held' q h = same_size p _ q h.0.1 refl
  opened_size (Some stream) None id held p r held' q h = same_size p p q h.2 refl
  opened_size None config id held p r held' q h = same_size p p q h.2 refl

  all_size : (channels : List Channel) (held : Channels) (p : SctpStreams S) (r : Result (Unit {0}) AllocError) (held' : Channels)
      (q : SctpStreams S) → OpensAll m channels held p r held' q → SameSize p q
  all_size [] held p r held' q h = same_size p p q h.2 refl
  all_size (channel ∷ rest) held p r held' q h =
      by h.0 (all_size rest h.1 h.2 r held' q) h.4 ∙ opened_size channel.stream channel.config channel.id held p h.0 h.1 h.2 h.3
    where
      by : (did : Result (Unit {0}) AllocError) → (OpensAll m rest h.1 h.2 r held' q → SameSize h.2 q)
          → Following did (OpensAll m rest h.1 h.2 r held' q) ((r ≡ did) × (held' ≡ h.1) × (q ≡ h.2)) → SameSize h.2 q
      by (Ok done) later behind = later behind
      by (Err error) later behind = same_size h.2 h.2 q behind.2 refl

  pub moment_size : (due : Bool) (held : Channels) (p : SctpStreams S) (wake : Signals) (r : Result (Unit {0}) AllocError)
      (held' : Channels) (q : SctpStreams S) (wake' : Signals) → MeetsMoment m due held p wake r held' q wake' → SameSize p q
  moment_size false held p wake r held' q wake' h = same_size p p q h.2 refl
  moment_size true held p wake r held' q wake' h = by h.0.0 h.0.3
    where
      by : (did : Result (Unit {0}) AllocError)
          → Following did (OpensAll m h.0.1.rows h.0.1 p r held' q) ((r ≡ did) × (held' ≡ h.0.1) × (q ≡ p)) → SameSize p q
      by (Ok done) behind = all_size h.0.1.rows h.0.1 p r held' q behind
      by (Err error) behind = same_size p p q behind.2 refl

  -- ---- polls

  -- a step of a poll, and what keeps it through two steps in turn
  abbrev SizedStep : (SctpStreams S → Met → SctpStreams S → Type 0) → Type 0
  SizedStep step = (p : SctpStreams S) (met : Met) (q : SctpStreams S) → step p met q → SameSize p q

  then_size : (next : SctpStreams S → Met → SctpStreams S → Type 0) → SizedStep next → (own : Met) (p : SctpStreams S) (met : Met)
      (q : SctpStreams S) → ThenBy next own p met q → SameSize p q
  then_size next one Nothing p met q h = one p met q h
  then_size next one Again p met q h = same_size p p q h.1 refl
  then_size next one (Output e) p met q h = same_size p p q h.1 refl
  then_size next one OutOfMemory p met q h = same_size p p q h.1 refl

  else_size : (first next : SctpStreams S → Met → SctpStreams S → Type 0) → SizedStep first → SizedStep next → SizedStep (Else first next)
  else_size first next one other p met q h = then_size next other h.0 h.1.0 met q h.1.1.1 ∙ one p h.0 h.1.0 h.1.1.0

  completion_size : (completed : List ℕ) (p : SctpStreams S) (met : Met) (q : SctpStreams S) → CompletionOf completed p met q → SameSize p q
  completion_size [] p met q h = same_size p _ q h.1 refl
  completion_size (id ∷ rest) p met q h = same_size p _ q h.1 refl

  transmit_if_size : (started : Bool) (p : SctpStreams S) (met : Met) (q : SctpStreams S) → TransmitIf m started p met q → SameSize p q
  transmit_if_size false p met q h = same_size p p q h.1 refl
  transmit_if_size true p met q h = same_size p _ q h.1 refl

  transmit_size : (pushed : Option (List (List ℕ))) (p : SctpStreams S) (met : Met) (q : SctpStreams S) → TransmitOf m pushed p met q → SameSize p q
  transmit_size (Some packets) p met q h = same_size p _ q h.1 refl
  transmit_size None p met q h = transmit_if_size (m.started p.association) p met q h

  visits_size : (visits : Bool) (p : SctpStreams S) (met : Met) (q : SctpStreams S) → VisitsIf m visits p met q → SameSize p q
  visits_size false p met q h = same_size p p q h.1 refl
  visits_size true p met q h = same_size p _ q h.1 refl

  rests_size : (pushed : Option (List (List ℕ))) (p : SctpStreams S) (met : Met) (q : SctpStreams S) → RestsBy pushed p met q → SameSize p q
  rests_size (Some packets) p met q h = same_size p _ q h.1 refl
  rests_size None p met q h = same_size p p q h.1 refl

  pass_if_size : (rests : Bool) (p : SctpStreams S) (met : Met) (q : SctpStreams S) → PassIf m rests p met q → SameSize p q
  unfolding TakesSteps
  pass_if_size true p met q h = rests_size p.pushed p met q h.0
  pass_if_size false p met q h =
      else_size (GivesTransmit m) _ (λ p met q h. transmit_size p.pushed p met q h)
      (else_size (HandlesEvent m) _ (λ p met q h. same_size p _ q h.1 refl)
      (else_size (VisitsEntries m) GivesCompletion (λ p met q h. visits_size _ p met q h) (λ p met q h. completion_size p.completed p met q h)))
      (unclosed_streams p) met q h

  pass_size : SizedStep (MakesPass m)
  unfolding MakesPass
  pass_size p met q h = pass_if_size p.rests p met q h

  over_size : (n : ℕ) (p q : SctpStreams S) → Over m n p q → SameSize p q
  over_size zero p q h = same_size p p q h refl
  over_size (suc n) p q h = pass_size h.0 Again q h.2 ∙ over_size n p h.0 h.1

  pub polled_size : (p : SctpStreams S) (r : Result (Option SctpEvent) AllocError) (q : SctpStreams S) → PollsStreams m p r q → SameSize p q
  polled_size p r q h = pass_size h.between h.met q h.last ∙ over_size h.passes p h.between h.over
