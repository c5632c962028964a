-- What is done to streams beside polls sets no threshold: starts, moments, openings, closes and writes.
use Rattle.std.proofs.Common.{◌≡◌, ℕ, Bool, true, false, List, [], ◌∷◌, Option, Some, None, is_some, Result, Ok, Err, refl, ◌∙◌, ap, arith}
use Rattle.std.specs.Prelude.{slice_get, slice_set}
use Rattle.std.specs.declared.alloc.AllocError.{AllocError}
use Rattle.std.proofs.lemmas.List.Sums.{sum_by-insert, sum_by-set}
use Rattle.rtc_ready.specs.Signals.{Signals}
use Rattle.rtc_wire.specs.declared.channel_config.ChannelConfig.{ChannelConfig}
use Rattle.rtc_parts.specs.AssociationMeaning.{AssociationMeaning}
use Rattle.rtc_parts.specs.AssociationLaws.{AssociationLaws}
use Rattle.rtc_sctp_values.specs.InitHalves.{InitHalves}
use Rattle.rtc_sctp_values.specs.declared.sctp_error.SctpError.{SctpError}
use Rattle.rtc_sctp_values.specs.declared.sctp_error.SctpError.TheVariants as sctp
use Rattle.rtc_sctp_values.specs.declared.proto_error.ProtoError.TheVariants as proto
use Rattle.rtc_sctp_entries.specs.declared.asked.Asked.{Asked}
use Rattle.rtc_sctp_entries.specs.declared.asked.Asked.TheVariants as did
use Rattle.rtc_sctp_entries.specs.declared.stream_entry_state.StreamEntryState.{StreamEntryState}
use Rattle.rtc_sctp_entries.specs.declared.stream_entry_state.StreamEntryState.TheVariants.{AwaitOpen, AwaitConfig, AwaitDcepAck, Open, Closed}
use Rattle.rtc_sctp_entries.specs.declared.stream_entry.StreamEntry.{StreamEntry}
use Rattle.rtc_sctp_entries.specs.Entries.{entry_place, new_entry, new_place, marked_entry}
use Rattle.rtc_sctp.specs.declared.rtc_sctp_state.RtcSctpState.{RtcSctpState}
use Rattle.rtc_sctp.specs.declared.rtc_sctp_state.RtcSctpState.TheVariants.{Uninited, AwaitRemoteAssociation, AwaitAssociationEstablished, Established}
use Rattle.rtc_sctp.specs.Streams.{SctpStreams}
use Rattle.rtc_sctp.specs.Calls.{AsksInit, Inits, TimedBy, WrittenIf}
use Rattle.rtc_sctp.specs.StreamCalls.{ConfigBy, Declined, Answered, OpensAt, OpensAwaiting, OpensOver, OpensStream, TakesConfig, NoRoom, Ended, EndsStream, EndsIf, ClosesAt, ClosesDataStream}
use Rattle.rtc_channels.specs.Channels.{Channel, Channels}
use Rattle.rtc_channels.specs.Openings.{Following, MeetsMoment, OpensAll, OpensChannel}
use Rattle.rtc_peer_core.specs.PartMoves.{StartsWhere}
use Rattle.rtc_peer_laws.proofs.UnsetThresholds.{IsUnset, end_unset, write_unset, reliability_unset, timed_unset, connect_unset, accept_unset, snap_unset}
use Rattle.rtc_peer_laws.proofs.PollsUnset.{AreUnset, dropped_unset, entry_threshold, got, thresholds, unset_is}

module _ {S : Type 0} (m : AssociationMeaning S) (w : AssociationLaws m) where
  abbrev Unset : SctpStreams S → Type 0
  Unset p = AreUnset m w p

  -- the association alone is another
  moved : (p n q : SctpStreams S) → q ≡ n → n.entries ≡ p.entries → IsUnset m w n.association → Unset p → Unset q
  moved p n q is entries h k = unset_is m w n q is (h, ap thresholds entries ∙ k.1)

  -- ---- starts

  asks_init : (snap : Option InitHalves) (client : Bool) (a : S) (now max : ℕ) (answer : Asked) (b : S) → m.started a ≡ false
      → AsksInit m snap client a now max answer b → IsUnset m w a → IsUnset m w b
  asks_init None true a now max answer b before h k = connect_unset m w a b now max h.result before h.called k
  asks_init None false a now max answer b before h k = accept_unset m w a b now max h.result before h.called k
  asks_init (Some halves) client a now max answer b before h k = snap_unset m w a b now max _ _ h.1.result before h.1.called k

  inits : (client : Bool) (now max : ℕ) (snap : Option InitHalves) (p : SctpStreams S) (r : Result (Unit {0}) SctpError) (q : SctpStreams S)
      → Inits m client now max snap p r q → Unset p → Unset q
  inits client now max snap p (Ok done) q h k =
      moved p _ q h.2 refl (asks_init snap client p.association now max did.Done q.association h.0 h.1 k.0) k
  inits client now max snap p (Err (sctp.Proto proto.Started)) q h k = unset_is m w p q h.1 k
  inits client now max snap p (Err (sctp.Proto proto.SnapHalf)) q h k = unset_is m w p q h.2 k
  inits client now max snap p (Err (sctp.Proto proto.Fault)) q h k =
      moved p _ q h.2 refl (asks_init snap client p.association now max did.Refused q.association h.0 h.1 k.0) k
  inits client now max snap p (Err sctp.Alloc) q h k =
      moved p _ q h.2 refl (asks_init snap client p.association now max did.OutOfMemory q.association h.0 h.1 k.0) k
  inits client now max snap p (Err _) q h k = absurd h

  pub starts_unset : (needed client : Bool) (now max : ℕ) (halves : Option InitHalves) (drops : Bool) (p : SctpStreams S) (r : Result (Unit {0}) SctpError)
      (q : SctpStreams S) → StartsWhere m needed p client now max halves drops r q → Unset p → Unset q
  starts_unset false client now max halves drops p r q h k = moved p _ q h.1 refl k.0 k
  starts_unset true client now max halves drops p r q h k = inits client now max halves p r q h k

  -- ---- moments

  pub moment_unset : (st : RtcSctpState) (now : ℕ) (p : SctpStreams S) (wake : Signals) (r : Result (Unit {0}) AllocError) (q : SctpStreams S) (wake' : Signals)
      → TimedBy m st now p wake r q wake' → Unset p → Unset q
  moment_unset Uninited now p wake r q wake' h k = unset_is m w p q h.1 k
  moment_unset AwaitRemoteAssociation now p wake r q wake' h k = unset_is m w _ q h.1 (k.0, dropped_unset p.entries k.1)
  moment_unset AwaitAssociationEstablished now p wake r q wake' h k =
      unset_is m w _ q h.1 (timed_unset m w p.association q.association now r h.0 k.0, dropped_unset p.entries k.1)
  moment_unset Established now p wake r q wake' h k =
      unset_is m w _ q h.1 (timed_unset m w p.association q.association now r h.0 k.0, dropped_unset p.entries k.1)

  -- ---- openings

  abbrev Goes : S → StreamEntry → S → StreamEntry → Type 0
  Goes a e b e' = (IsUnset m w a → IsUnset m w b) × (entry_threshold e' ≡ entry_threshold e)

  goes_as : (a b : S) (e n e' : StreamEntry) → b ≡ a → e' ≡ n → entry_threshold n ≡ entry_threshold e → Goes a e b e'
  goes_as a b e n e' same is equal = (λ k. ap m.has_threshold same ∙ k, ap entry_threshold is ∙ equal)

  config_threshold : (answer : Asked) (config : ChannelConfig) (e : StreamEntry) (r : Result (Unit {0}) AllocError) (e' : StreamEntry) → ConfigBy answer config e r e'
      → entry_threshold e' ≡ entry_threshold e
  config_threshold did.Done config e (Ok done) e' h = ap entry_threshold h
  config_threshold did.Done config e (Err error) e' h = absurd h
  config_threshold did.Refused config e (Ok done) e' h = ap entry_threshold h
  config_threshold did.Refused config e (Err error) e' h = absurd h
  config_threshold did.OutOfMemory config e (Ok done) e' h = absurd h
  config_threshold did.OutOfMemory config e (Err error) e' h = ap entry_threshold h

  takes_config : (config : ChannelConfig) (a : S) (e : StreamEntry) (r : Result (Unit {0}) AllocError) (b : S) (e' : StreamEntry) → TakesConfig m config a e r b e'
      → Goes a e b e'
  takes_config config a e r b e' (Declined can is same marks) = goes_as a b e (marked_entry e) e' same marks refl
  takes_config config a e r b e' (Answered answer can asks by) =
      (λ k. reliability_unset m w a b e.id _ _ _ asks.result asks.called k, config_threshold answer config e r e' by)

  awaiting : (set : Bool) (config : ChannelConfig) (a : S) (e : StreamEntry) (r : Result (Unit {0}) AllocError) (b : S) (e' : StreamEntry)
      → OpensAwaiting m set config a e r b e' → Goes a e b e'
  awaiting true config a e r b e' h = goes_as a b e (marked_entry e) e' h.1 h.2 refl
  awaiting false config a e r b e' h = takes_config config a e r b e' h

  opens_over : (st : StreamEntryState) (config : ChannelConfig) (a : S) (e : StreamEntry) (r : Result (Unit {0}) AllocError) (b : S) (e' : StreamEntry)
      → OpensOver m st config a e r b e' → Goes a e b e'
  opens_over AwaitConfig config a e r b e' h = awaiting (is_some e.config) config a e r b e' h
  opens_over AwaitOpen config a e r b e' h = goes_as a b e (marked_entry e) e' h.1 h.2 refl
  opens_over AwaitDcepAck config a e r b e' h = goes_as a b e (marked_entry e) e' h.1 h.2 refl
  opens_over Open config a e r b e' h = goes_as a b e (marked_entry e) e' h.1 h.2 refl
  opens_over Closed config a e r b e' h = goes_as a b e (marked_entry e) e' h.1 h.2 refl

  -- an entry is set that asks for what the one at its place did
  set_unset : (es : List StreamEntry) (place : ℕ) (e e' : StreamEntry) → slice_get es place ≡ Some e → entry_threshold e' ≡ entry_threshold e
      → thresholds es ≡ 0 → thresholds (slice_set es place e') ≡ 0
  set_unset es place e e' at same k =
      let there = got es place e at in
      let is = sum_by-set entry_threshold es place e' e there.0 in
      omega (arith, is, ap entry_threshold there.1, same, k)

  opens_at : (place : Option ℕ) (id : ℕ) (config : ChannelConfig) (a : S) (es : List StreamEntry) (r : Result (Unit {0}) AllocError) (b : S) (es' : List StreamEntry)
      → OpensAt m place id config a es r b es' → IsUnset m w a × (thresholds es ≡ 0) → IsUnset m w b × (thresholds es' ≡ 0)
  opens_at None id config a es (Ok done) b es' h k =
      let more = sum_by-insert entry_threshold es (new_place id es) (new_entry id AwaitOpen (Some config)) in
      (ap m.has_threshold h.0 ∙ k.0, omega (arith, ap thresholds h.1, more, k.1))
  opens_at None id config a es (Err error) b es' h k = (ap m.has_threshold h.0 ∙ k.0, ap thresholds h.1 ∙ k.1)
  opens_at (Some place) id config a es r b es' h k =
      let goes = opens_over h.0.state config a h.0 r b h.1 h.3 in
      (goes.0 k.0, ap thresholds h.4 ∙ set_unset es place h.0 h.1 h.2 goes.1 k.1)

  opens_stream : (id : ℕ) (config : ChannelConfig) (p : SctpStreams S) (r : Result (Unit {0}) AllocError) (q : SctpStreams S) → OpensStream m id config p r q → Unset p → Unset q
  opens_stream id config p r q h k = opens_at (entry_place id p.entries) id config p.association p.entries r q.association q.entries h.0 k

  opens_channel : (stream : Option ℕ) (config : Option ChannelConfig) (id : ℕ) (held : Channels) (p : SctpStreams S) (r : Result (Unit {0}) AllocError) (held' : Channels)
      (q : SctpStreams S) → OpensChannel m stream config id held p r held' q → Unset p → Unset q
  opens_channel (Some stream) (Some config) id held p r held' q h k = opens_stream stream config p r q h.0 k
  opens_channel (Some stream) None id held p r held' q h k = unset_is m w p q h.2 k
  opens_channel None config id held p r held' q h k = unset_is m w p q h.2 k

  opens_all : (rows : List Channel) (held : Channels) (p : SctpStreams S) (r : Result (Unit {0}) AllocError) (held' : Channels) (q : SctpStreams S)
      → OpensAll m rows held p r held' q → Unset p → Unset q
  opens_all [] held p r held' q h k = unset_is m w p q h.2 k
  opens_all (row ∷ rows) held p r held' q h k =
      by h.0 (opens_channel row.stream row.config row.id held p h.0 h.1 h.2 h.3 k) (λ a x. opens_all rows h.1 h.2 r held' q a x) h.4
    where
      by : (did : Result (Unit {0}) AllocError) → Unset h.2 → (OpensAll m rows h.1 h.2 r held' q → Unset h.2 → Unset q)
          → Following did (OpensAll m rows h.1 h.2 r held' q) ((r ≡ did) × (held' ≡ h.1) × (q ≡ h.2)) → Unset q
      by (Ok done) one rest after = rest after one
      by (Err error) one rest after = unset_is m w h.2 q after.2 one

  progress : (p : SctpStreams S) (r : Result (Unit {0}) AllocError) (held' : Channels) (q : SctpStreams S) (did : Result (Unit {0}) AllocError) (between : Channels)
      → Following did (OpensAll m between.rows between p r held' q) ((r ≡ did) × (held' ≡ between) × (q ≡ p)) → Unset p → Unset q
  progress p r held' q (Ok done) between h k = opens_all between.rows between p r held' q h k
  progress p r held' q (Err error) between h k = unset_is m w p q h.2 k

  pub meets_unset : (due : Bool) (held : Channels) (p : SctpStreams S) (wake : Signals) (r : Result (Unit {0}) AllocError) (held' : Channels) (q : SctpStreams S)
      (wake' : Signals) → MeetsMoment m due held p wake r held' q wake' → Unset p → Unset q
  meets_unset false held p wake r held' q wake' h k = unset_is m w p q h.2 k
  meets_unset true held p wake r held' q wake' h k = progress p r held' q h.0.0 h.0.1 h.0.3 k

  -- ---- closes and writes

  ends : (id : ℕ) (a : S) (resets : List ℕ) (r : Result (Unit {0}) AllocError) (b : S) (resets' : List ℕ) → EndsStream m id a resets r b resets' → IsUnset m w a → IsUnset m w b
  ends id a resets r b resets' (NoRoom e same is) k = ap m.has_threshold same ∙ k
  ends id a resets r b resets' (Ended answer asks by) k = end_unset m w a b id asks.result asks.called k

  ends_if : (b : Bool) (id : ℕ) (a : S) (resets : List ℕ) (r : Result (Unit {0}) AllocError) (c : S) (resets' : List ℕ) → EndsIf m b id a resets r c resets'
      → IsUnset m w a → IsUnset m w c
  ends_if false id a resets r c resets' h k = ap m.has_threshold h.1 ∙ k
  ends_if true id a resets r c resets' h k = ends id a resets r c resets' h k

  closes_at : (place : Option ℕ) (id : ℕ) (a : S) (es : List StreamEntry) (resets : List ℕ) (r : Result (Unit {0}) AllocError) (b : S) (es' : List StreamEntry)
      (resets' : List ℕ) → ClosesAt m place id a es resets r b es' resets' → IsUnset m w a × (thresholds es ≡ 0) → IsUnset m w b × (thresholds es' ≡ 0)
  closes_at None id a es resets r b es' resets' h k = (ap m.has_threshold h.1 ∙ k.0, ap thresholds h.2 ∙ k.1)
  closes_at (Some place) id a es resets r b es' resets' h k =
      (ends_if (m.started a) id a resets r b resets' h.1 k.0, ap thresholds h.0.2 ∙ set_unset es place h.0.0 (marked_entry h.0.0) h.0.1 refl k.1)

  pub closes_unset : (id : ℕ) (p : SctpStreams S) (r : Result (Unit {0}) AllocError) (q : SctpStreams S) → ClosesDataStream m id p r q → Unset p → Unset q
  closes_unset id p r q h k = closes_at (entry_place id p.entries) id p.association p.entries p.resets r q.association q.entries q.resets h.0 k

  pub writes_unset : (can current : Bool) (id : ℕ) (binary : Bool) (bytes : List ℕ) (p : SctpStreams S) (r : Result ℕ SctpError) (q : SctpStreams S)
      → WrittenIf m can current id binary bytes p r q → Unset p → Unset q
  writes_unset false current id binary bytes p r q h k = unset_is m w p q h.1 k
  writes_unset true false id binary bytes p r q h k = unset_is m w p q h.1 k
  writes_unset true true id binary bytes p r q h k =
      moved p _ q h.3 refl (write_unset m w p.association q.association id _ bytes h.0 h.1 k.0) k
