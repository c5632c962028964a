-- Streams that are opened and closed from here, by what was found of them.
use Rattle.std.proofs.Common.{◌≡◌, ℕ, Bool, true, false, List, Option, Some, None, Result, Ok, Err, refl}
use Rattle.std.specs.Prelude.{OnOk, OnErr, is_some}
use Rattle.std.specs.declared.alloc.AllocError.{AllocError}
use Rattle.rtc_wire.specs.declared.channel_config.ChannelConfig.{ChannelConfig}
use Rattle.rtc_parts.specs.AssociationMeaning.{AssociationMeaning}
use Rattle.rtc_sctp_entries.specs.declared.stream_entry_state.StreamEntryState.{StreamEntryState}
use Rattle.rtc_sctp_entries.specs.declared.stream_entry_state.StreamEntryState.TheVariants.{AwaitOpen, AwaitConfig}
use Rattle.rtc_sctp_entries.specs.declared.stream_entry.StreamEntry.{StreamEntry}
use Rattle.rtc_sctp_entries.specs.Entries.{with_entry, new_entry}
use Rattle.rtc_sctp.specs.StreamCalls.{TakesConfig, OpensAwaiting, OpensOver, OpensAt, EndsStream, EndsIf}

module _ {S : Type 0} (m : AssociationMeaning S) where
  put_in : (id : ℕ) (config : ChannelConfig) (p : S) (es : List StreamEntry) (r : Result (Unit {0}) AllocError) (es' : List StreamEntry) → OnOk r (es' ≡ with_entry (new_entry id AwaitOpen (Some config)) es) → OnErr r (es' ≡ es) → OpensAt m None id config p es r p es'
  put_in id config p es (Ok x) es' h k = (refl, h)
  put_in id config p es (Err x) es' h k = (refl, k)

  pub opens_none : (o : Option ℕ) (id : ℕ) (config : ChannelConfig) (p : S) (es : List StreamEntry) (r : Result (Unit {0}) AllocError) (es' : List StreamEntry) → o ≡ None → OnOk r (es' ≡ with_entry (new_entry id AwaitOpen (Some config)) es) → OnErr r (es' ≡ es) → OpensAt m o id config p es r p es'
  opens_none o id config p es r es' e h k = rw e (put_in id config p es r es' h k)

  pub opens_config : (st : StreamEntryState) (config : ChannelConfig) (p : S) (e : StreamEntry) (r : Result (Unit {0}) AllocError) (q : S) (e' : StreamEntry) → st ≡ AwaitConfig → OpensAwaiting m (is_some e.config) config p e r q e' → OpensOver m st config p e r q e'
  opens_config st config p e r q e' is h = rw is h

  pub opens_unset : (b : Bool) (config : ChannelConfig) (p : S) (e : StreamEntry) (r : Result (Unit {0}) AllocError) (q : S) (e' : StreamEntry) → b ≡ false → TakesConfig m config p e r q e' → OpensAwaiting m b config p e r q e'
  opens_unset b config p e r q e' is h = rw is h

  pub ends_started : (b : Bool) (id : ℕ) (p : S) (resets : List ℕ) (r : Result (Unit {0}) AllocError) (q : S) (resets' : List ℕ) → b ≡ true → EndsStream m id p resets r q resets' → EndsIf m b id p resets r q resets'
  ends_started b id p resets r q resets' is h = rw is h
