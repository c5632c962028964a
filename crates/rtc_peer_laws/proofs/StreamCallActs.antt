-- What moments, thresholds and closes do to the association under the streams of channels.
use Rattle.std.proofs.Common.{◌≡◌, ℕ, Bool, true, false, List, [], ◌∷◌, Option, Some, None, Result, Ok, Err, refl, sym, subst, ◌∙◌}
use Rattle.std.specs.declared.alloc.AllocError.{AllocError}
use Rattle.rtc_wire.specs.declared.channel_config.ChannelConfig.{ChannelConfig}
use Rattle.rtc_ready.specs.Signals.{Signals}
use Rattle.rtc_sctp_entries.specs.Entries.{entry_place}
use Rattle.rtc_sctp_values.specs.SnapHalves.{KeptHalves}
use Rattle.rtc_sctp.specs.Streams.{SctpStreams}
use Rattle.rtc_sctp.specs.StreamCalls.{SetsThreshold}
use Rattle.rtc_sctp_laws.specs.StreamActs.{CallDid}
use Rattle.rtc_sctp_laws.proofs.ActLemmas.{did_none, did_join}
use Rattle.rtc_sctp_laws.proofs.CallActs.{closes_did, opens_did}
use Rattle.rtc_channels.specs.Channels.{Channel, Channels}
use Rattle.rtc_channels.specs.Openings.{ClosesChannel, OpensChannel, OpensAll, Following, Progresses, MeetsMoment}
use Rattle.rtc_parts.specs.AssociationMeaning.{AssociationMeaning}
use Rattle.rtc_peer_transport.specs.ChannelCalls.{SetsThresholdIf}

module _ {S : Type 0} (m : AssociationMeaning S) where
  -- nothing was done to the streams, or something and then more
  pub call_none : (p q : SctpStreams S) → q ≡ p → CallDid m [] [] p q
  call_none p q is = subst (λ (x : SctpStreams S). CallDid m [] [] p x) (sym is)
      (record { did = did_none m p.association; pushed_is = refl; completed_is = refl })

  -- only what is kept of starts by session descriptions is another
  pub snap_did : (kept : KeptHalves) (p q : SctpStreams S) → q ≡ record p { snap = kept } → CallDid m [] [] p q
  snap_did kept p q is = subst (λ (x : SctpStreams S). CallDid m [] [] p x) (sym is)
      (record { did = did_none m p.association; pushed_is = refl; completed_is = refl })

  call_on : (p q r : SctpStreams S) → CallDid m [] [] p q → CallDid m [] [] q r → CallDid m [] [] p r
  call_on p q r a b = record {
    did = did_join m [] [] [] [] [] [] [] [] [] [] p.association q.association r.association a.did b.did;
    pushed_is = b.pushed_is ∙ a.pushed_is;
    completed_is = b.completed_is ∙ a.completed_is;
  }

  open_did : (stream : Option ℕ) (config : Option ChannelConfig) (id : ℕ) (held : Channels) (p : SctpStreams S) (r : Result (Unit {0}) AllocError)
      (held' : Channels) (q : SctpStreams S) → OpensChannel m stream config id held p r held' q → CallDid m [] [] p q
  open_did (Some stream) (Some config) id held p r held' q h = opens_did m stream config p r q h.0
  open_did (Some stream) None id held p r held' q h = call_none p q h.2
  open_did None config id held p r held' q h = call_none p q h.2

  opens_all_did : (channels : List Channel) (held : Channels) (p : SctpStreams S) (r : Result (Unit {0}) AllocError) (held' : Channels)
      (q : SctpStreams S) → OpensAll m channels held p r held' q → CallDid m [] [] p q
  opens_all_did [] held p r held' q h = call_none p q h.2
  opens_all_did (channel ∷ rest) held p r held' q h =
      call_on p h.2 q (open_did channel.stream channel.config channel.id held p h.0 h.1 h.2 h.3)
      (followed h.0 (λ k. opens_all_did rest h.1 h.2 r held' q k) h.4)
    where
      followed : (did : Result (Unit {0}) AllocError) → (OpensAll m rest h.1 h.2 r held' q → CallDid m [] [] h.2 q)
          → Following did (OpensAll m rest h.1 h.2 r held' q) ((r ≡ did) × (held' ≡ h.1) × (q ≡ h.2)) → CallDid m [] [] h.2 q
      followed (Ok done) next k = next k
      followed (Err error) next k = call_none h.2 q k.2

  progress_did : (held : Channels) (p : SctpStreams S) (r : Result (Unit {0}) AllocError) (held' : Channels) (q : SctpStreams S)
      → Progresses m held p r held' q → CallDid m [] [] p q
  progress_did held p r held' q h = followed h.0 h.3
    where
      followed : (did : Result (Unit {0}) AllocError) → Following did (OpensAll m h.1.rows h.1 p r held' q) ((r ≡ did) × (held' ≡ h.1) × (q ≡ p))
          → CallDid m [] [] p q
      followed (Ok done) k = opens_all_did h.1.rows h.1 p r held' q k
      followed (Err error) k = call_none p q k.2

  pub moment_did : (due : Bool) (held : Channels) (p : SctpStreams S) (wake : Signals) (r : Result (Unit {0}) AllocError) (held' : Channels)
      (q : SctpStreams S) (wake' : Signals) → MeetsMoment m due held p wake r held' q wake' → CallDid m [] [] p q
  moment_did true held p wake r held' q wake' h = progress_did held p r held' q h.0
  moment_did false held p wake r held' q wake' h = call_none p q h.2

  threshold_did : (place : Option ℕ) (n : ℕ) (p q : SctpStreams S) → SetsThreshold S n place p q → CallDid m [] [] p q
  threshold_did None n p q h = call_none p q h
  threshold_did (Some place) n p q h = subst (λ (x : SctpStreams S). CallDid m [] [] p x) (sym h.2)
      (record { did = did_none m p.association; pushed_is = refl; completed_is = refl })

  pub threshold_if : (is_open : Bool) (stream n : ℕ) (p q : SctpStreams S) → SetsThresholdIf S is_open stream n p q → CallDid m [] [] p q
  threshold_if true stream n p q h = threshold_did (entry_place stream p.entries) n p q h
  threshold_if false stream n p q h = call_none p q h

  -- the stream of a channel is closed, if it has one
  pub close_did : (stream : Option ℕ) (p : SctpStreams S) (r : Result (Unit {0}) AllocError) (q : SctpStreams S) → ClosesChannel m stream p r q
      → CallDid m [] [] p q
  close_did None p r q h = call_none p q h.1
  close_did (Some stream) p r q h = closes_did m stream p r q h
