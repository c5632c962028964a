-- An entry that stands, of a stream that was settled by other means than messages, stays so where streams are opened.
use Rattle.std.proofs.Common.{◌≡◌, ◌∙◌, ℕ, Bool, true, false, true≢false, List, Option, Some, None, Ok, refl, sym, subst}
use Rattle.std.specs.Prelude.{is_some}
use Rattle.rtc_wire.specs.declared.channel_config.ChannelConfig.{ChannelConfig}
use Rattle.rtc_parts.specs.AssociationMeaning.{AssociationMeaning}
use Rattle.rtc_sctp_entries.specs.declared.stream_entry_state.StreamEntryState.{StreamEntryState}
use Rattle.rtc_sctp_entries.specs.declared.stream_entry_state.StreamEntryState.TheVariants.{AwaitOpen, AwaitConfig, AwaitDcepAck, Open, Closed}
use Rattle.rtc_sctp_entries.specs.declared.stream_entry.StreamEntry.{StreamEntry}
use Rattle.rtc_sctp_entries.specs.Entries.{config_or_fresh, entry_place, marked_entry, new_entry, new_place}
use Rattle.rtc_sctp.specs.StreamCalls.{OpensAt, OpensAwaiting, OpensOver, OpensStream}
use Rattle.rtc_sctp.specs.Streams.{SctpStreams}
use Rattle.rtc_run_laws.proofs.StandingCalls.{over_id}
use Rattle.rtc_run_laws.proofs.StandingEntries.{HasOutStanding, IsOutStanding, has_insert, has_set}

-- what has no config was not settled so
unset_band : (o : Option ChannelConfig) → is_some o ≡ false → is_some (config_or_fresh o).negotiated ≡ false
unset_band None h = refl
unset_band (Some config) h = absurd (true≢false h)

marked_out : (e e' : StreamEntry) → e' ≡ marked_entry e → IsOutStanding e → IsOutStanding e'
marked_out e e' h k = subst (λ (x : StreamEntry). IsOutStanding x) (sym h) ((k.0.0, λ c. refl), k.1)

module _ {S : Type 0} (m : AssociationMeaning S) where
  awaiting_out : (set : Bool) (config : ChannelConfig) (p : S) (e : StreamEntry) (q : S) (e' : StreamEntry) → is_some e.config ≡ set
      → OpensAwaiting m set config p e (Ok tt) q e' → IsOutStanding e → IsOutStanding e'
  awaiting_out true config p e q e' is h k = marked_out e e' h.2 k
  awaiting_out false config p e q e' is h k = absurd (true≢false (sym k.1 ∙ unset_band e.config is))

  over_out : (st : StreamEntryState) (config : ChannelConfig) (p : S) (e : StreamEntry) (q : S) (e' : StreamEntry)
      → OpensOver m st config p e (Ok tt) q e' → IsOutStanding e → IsOutStanding e'
  over_out AwaitConfig config p e q e' h k = awaiting_out (is_some e.config) config p e q e' refl h k
  over_out AwaitOpen config p e q e' h k = marked_out e e' h.2 k
  over_out AwaitDcepAck config p e q e' h k = marked_out e e' h.2 k
  over_out Open config p e q e' h k = marked_out e e' h.2 k
  over_out Closed config p e q e' h k = marked_out e e' h.2 k

  opens_at : (place : Option ℕ) (id : ℕ) (config : ChannelConfig) (p : S) (es : List StreamEntry) (q : S) (es' : List StreamEntry)
      → OpensAt m place id config p es (Ok tt) q es' → (s : ℕ) → HasOutStanding s es → HasOutStanding s es'
  opens_at None id config p es q es' h s k =
      subst (λ (l : List StreamEntry). HasOutStanding s l) (sym h.1)
      (has_insert IsOutStanding s es (new_place id es) (new_entry id AwaitOpen (Some config)) k)
  opens_at (Some place) id config p es q es' h s k =
      subst (λ (l : List StreamEntry). HasOutStanding s l) (sym h.4)
      (has_set IsOutStanding s es place h.0 h.1 h.2 (over_id m h.0.state config p h.0 q h.1 h.3)
      (λ x. over_out h.0.state config p h.0 q h.1 h.3 x) k)

  pub opens_out : (id : ℕ) (config : ChannelConfig) (p q : SctpStreams S) → OpensStream m id config p (Ok tt) q → (s : ℕ)
      → HasOutStanding s p.entries → HasOutStanding s q.entries
  opens_out id config p q h s k =
      opens_at (entry_place id p.entries) id config p.association p.entries q.association q.entries h.0 s k
