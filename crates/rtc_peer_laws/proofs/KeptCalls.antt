-- What the calls of a peer beside polls leave of the use of each stream, and of live channels.
use Rattle.std.proofs.Common.{◌≡◌, ◌≤◌, ◌++◌, ◌∷◌, ℕ, Bool, true, false, List, [], append-nil, take, Option, Some, None, Result, Ok, Err, refl, sym, ap, subst, ◌∙◌}
use Rattle.std.specs.declared.alloc.AllocError.{AllocError}
use Rattle.rtc_ready.specs.Signals.{Signals}
use Rattle.rtc_wire.specs.declared.channel_config.ChannelConfig.{ChannelConfig}
use Rattle.rtc_parts.specs.AssociationActs.{AssociationAct, Moved}
use Rattle.rtc_parts.specs.AssociationLaws.{AssociationLaws}
use Rattle.rtc_parts.specs.AssociationMeaning.{AssociationMeaning}
use Rattle.rtc_sctp_entries.specs.Entries.{entry_place}
use Rattle.rtc_sctp_entries.specs.declared.stream_entry.StreamEntry.{StreamEntry}
use Rattle.rtc_sctp_values.specs.declared.sctp_error.SctpError.{SctpError}
use Rattle.rtc_sctp_values.specs.SnapHalves.{KeptHalves}
use Rattle.rtc_sctp.specs.Streams.{SctpStreams, is_established}
use Rattle.rtc_sctp.specs.Calls.{WritesStream, TakesTimeout, can_write, is_current}
use Rattle.rtc_sctp.specs.StreamCalls.{SetsThreshold}
use Rattle.rtc_sctp_laws.specs.StreamActs.{written_message}
use Rattle.rtc_sctp_laws.specs.StreamMessages.{StreamMessage}
use Rattle.rtc_sctp_laws.proofs.CallActs.{closes_did, opens_did, writes_did}
use Rattle.rtc_sctp_laws.proofs.ClosingPolls.{started_moved}
use Rattle.rtc_sctp_laws.specs.GenerationLaws.{GenerationLaws}
use Rattle.rtc_sctp_laws.specs.StreamUses.{HasOpenInBand, IsLive, IsUsed}
use Rattle.rtc_sctp_laws.specs.MuteGenerations.{HasOneOpen, IsOpenEntry}
use Rattle.rtc_sctp_laws.specs.UsedCalls.{IsUsedOver}
use Rattle.rtc_sctp_laws.proofs.CallUses.{acts_use, writes_use, timeout_use, opens_use, closes_use, threshold_use}
use Rattle.rtc_sctp_laws.proofs.LivingEntries.{live_is}
use Rattle.rtc_sctp_laws.specs.RunningStreams.{AreRunning}
use Rattle.rtc_sctp_laws.proofs.RunningPolls.{stay_same, timed_stays, written_stays}
use Rattle.rtc_sctp_laws.proofs.OpeningEntries.{open_is}
use Rattle.rtc_sctp_laws.proofs.OpenedCalls.{writes_opened, timeout_opened, opens_opened, closes_opened, threshold_opened}
use Rattle.rtc_sctp_laws.proofs.LiveCalls.{writes_live, timeout_live, opens_live, closes_live, threshold_live}
use Rattle.rtc_sctp_laws.proofs.OneOpen.{of_open, one_same}
use Rattle.rtc_sctp_laws.proofs.OneCalls.{writes_one, timeout_one, opens_one, closes_one, threshold_one}
use Rattle.rtc_channels.specs.Channels.{Channel, Channels}
use Rattle.rtc_channels.specs.Allocation.{Allocates}
use Rattle.rtc_channels.specs.Openings.{OpensChannel, OpensAll, MeetsMoment, Following, ClosesChannel}
use Rattle.rtc_peer_transport.specs.ChannelCalls.{SetsThresholdIf}
use Rattle.rtc_peer_polling.proofs.StreamStarts.{timed_start}
use Rattle.rtc_peer_polling.specs.StreamStages.{channel_over}
use Rattle.rtc_peer_laws.specs.ChannelStreams.{AreNumberedChannels, IsGone}
use Rattle.rtc_peer_laws.proofs.StreamsJoin.{given_on, same_given}
use Rattle.rtc_peer_laws.proofs.GoneChannels.{allocated_given, allocated_gone, handed_gone}
use Rattle.rtc_peer_laws.proofs.AllocatedChannels.{all_over, some_over, allocated_numbers, handed_over, handed_numbers}

module _ {S : Type 0} (m : AssociationMeaning S) where
  -- the use of each stream, and live streams, where these messages were written
  pub record StreamsKept (a : SctpStreams S) (wrote : List StreamMessage) (b : SctpStreams S) : Type 0 where
    pub uses : GenerationLaws m → (s : ℕ) (ws hs : List StreamMessage) → IsUsedOver m s ws hs a → IsUsedOver m s (ws ++ wrote) hs b
    pub lives : (s g : ℕ) → IsLive s g a.entries → IsLive s g b.entries
    pub holds : (s : ℕ) → HasOneOpen s a.entries → HasOneOpen s b.entries
    pub running : AreRunning m a → AreRunning m b
    pub fresh : (s : ℕ) (o : Option ℕ) → HasOpenInBand s o b.entries → HasOpenInBand s o a.entries

  kept_plainly : (a b : SctpStreams S) → (GenerationLaws m → (s : ℕ) (ws hs : List StreamMessage) → IsUsedOver m s ws hs a → IsUsedOver m s ws hs b)
      → ((s g : ℕ) → IsLive s g a.entries → IsLive s g b.entries) → ((s : ℕ) → HasOneOpen s a.entries → HasOneOpen s b.entries) → (AreRunning m a → AreRunning m b)
      → ((s : ℕ) (o : Option ℕ) → HasOpenInBand s o b.entries → HasOpenInBand s o a.entries) → StreamsKept a [] b
  kept_plainly a b uses lives holds running fresh = record {
    uses = λ v s ws hs h. subst (λ (l : List StreamMessage). IsUsedOver m s l hs b) (sym (append-nil ws)) (uses v s ws hs h);
    lives = lives;
    holds = holds;
    running = running;
    fresh = fresh;
  }

  pub kept_same : (a b : SctpStreams S) → b ≡ a → StreamsKept a [] b
  kept_same a b is = kept_plainly a b (λ v s ws hs h. subst (λ (x : SctpStreams S). IsUsedOver m s ws hs x) (sym is) h) (λ s g h. subst (λ (x : SctpStreams S). IsLive s g x.entries) (sym is) h)
      (λ s h. one_same IsOpenEntry of_open s a.entries b.entries (ap (λ (x : SctpStreams S). x.entries) is) h)
      (λ h. subst (λ (x : SctpStreams S). AreRunning m x) (sym is) h)
      (λ s o h. open_is s o a.entries b.entries (ap (λ (x : SctpStreams S). x.entries) is) h)

  -- where only what is kept of starts by session descriptions is another
  pub kept_snap : (kept : KeptHalves) (a b : SctpStreams S) → b ≡ record a { snap = kept } → StreamsKept a [] b
  kept_snap kept a b is =
      kept_plainly a b (λ v s ws hs h. subst (λ (x : SctpStreams S). IsUsedOver m s ws hs x) (sym is) h)
      (λ s g h. subst (λ (x : SctpStreams S). IsLive s g x.entries) (sym is) h)
      (λ s h. one_same IsOpenEntry of_open s a.entries b.entries (ap (λ (x : SctpStreams S). x.entries) is) h)
      (λ h. subst (λ (x : SctpStreams S). AreRunning m x) (sym is) h)
      (λ s o h. open_is s o a.entries b.entries (ap (λ (x : SctpStreams S). x.entries) is) h)

  pub kept_on : (a b c : SctpStreams S) → StreamsKept a [] b → StreamsKept b [] c → StreamsKept a [] c
  kept_on a b c x y = kept_plainly a c
      (λ v s ws hs h. subst (λ (l : List StreamMessage). IsUsedOver m s l hs c) (append-nil ws)
      (y.uses v s ws hs (subst (λ (l : List StreamMessage). IsUsedOver m s l hs b) (append-nil ws) (x.uses v s ws hs h)))) (λ s g h. y.lives s g (x.lives s g h)) (λ s h. y.holds s (x.holds s h)) (λ h. y.running (x.running h)) (λ s o h. x.fresh s o (y.fresh s o h))

  -- acts, over the same entries
  pub kept_acts : AssociationLaws m → (a b : SctpStreams S) (acts : List AssociationAct) → Moved m a.association acts b.association → b.entries ≡ a.entries
      → (AreRunning m a → is_established b.state ≡ true) → StreamsKept a [] b
  kept_acts w a b acts went same established = kept_plainly a b
      (λ v s ws hs h. subst (λ (l : List StreamEntry). IsUsed m s ws hs b.association l) (sym same) (acts_use m v w acts a.association b.association a.entries s ws hs went h))
      (λ s g h. live_is s g a.entries b.entries same h)
      (λ s h. one_same IsOpenEntry of_open s a.entries b.entries same h)
      (λ h. (started_moved m w acts a.association b.association h.0 went, established h)) (λ s o h. open_is s o a.entries b.entries same h)

  pub kept_write : AssociationLaws m → (id : ℕ) (binary : Bool) (bytes : List ℕ) (a : SctpStreams S) (r : Result ℕ SctpError) (b : SctpStreams S) → WritesStream m id binary bytes a r b
      → StreamsKept a (written_message id (m.generation a.association id) binary bytes r) b
  kept_write w id binary bytes a r b h = record {
    uses = λ v s ws hs k. writes_use m v w id binary bytes a r b s ws hs h k;
    lives = λ s g k. writes_live m id binary bytes a r b s g h k;
    holds = λ s k. writes_one m IsOpenEntry of_open s id binary bytes a r b h k;
    fresh = λ s o k. writes_opened m id binary bytes a r b s o h k;
    running = λ k.
        let d = writes_did m id binary bytes a r b h in
        (started_moved m w d.did.acts a.association b.association k.0 d.did.went, written_stays m (can_write m id a) (is_current m id a) id binary bytes a r b h k.1);
  }

  pub kept_timeout : AssociationLaws m → (now : ℕ) (a : SctpStreams S) (wake : Signals) (r : Result (Unit {0}) AllocError) (b : SctpStreams S) (wake' : Signals) → TakesTimeout m now a wake r b wake' → StreamsKept a [] b
  kept_timeout w now a wake r b wake' h = kept_plainly a b (λ v s ws hs k. timeout_use m v now a wake r b wake' s ws hs h k) (λ s g k. timeout_live m now a wake r b wake' s g h k)
      (λ s k. timeout_one m IsOpenEntry of_open s now a wake r b wake' h k)
      (λ k. ((timed_start m w a.state now a wake r b wake' h).started k.0, timed_stays m a.state now a wake r b wake' h k.1))
      (λ s o k. timeout_opened m now a wake r b wake' s o h k)

  threshold_runs : (n : ℕ) (place : Option ℕ) (a b : SctpStreams S) → SetsThreshold S n place a b → AreRunning m a → AreRunning m b
  threshold_runs n None a b h k = subst (λ (x : SctpStreams S). AreRunning m x) (sym h) k
  threshold_runs n (Some place) a b h k = subst (λ (x : SctpStreams S). AreRunning m x) (sym h.2) k

  kept_threshold : (n : ℕ) (place : Option ℕ) (a b : SctpStreams S) → SetsThreshold S n place a b → StreamsKept a [] b
  kept_threshold n place a b h = kept_plainly a b (λ v s ws hs k. threshold_use m v n place a b s ws hs h k) (λ s g k. threshold_live m n place a b s g h k)
      (λ s k. threshold_one m IsOpenEntry of_open s n place a b h k)
      (threshold_runs n place a b h) (λ s o k. threshold_opened m n place a b s o h k)

  pub kept_threshold_if : (is_open : Bool) (stream n : ℕ) (a b : SctpStreams S) → SetsThresholdIf S is_open stream n a b → StreamsKept a [] b
  kept_threshold_if true stream n a b h = kept_threshold n (entry_place stream a.entries) a b h
  kept_threshold_if false stream n a b h = kept_same a b h

  pub kept_close : AssociationLaws m → (stream : Option ℕ) (a : SctpStreams S) (r : Result (Unit {0}) AllocError) (b : SctpStreams S) → ClosesChannel m stream a r b → StreamsKept a [] b
  kept_close w None a r b h = kept_same a b h.1
  kept_close w (Some stream) a r b h = kept_plainly a b (λ v s ws hs k. closes_use m v stream a r b s ws hs h k) (λ s g k. closes_live m stream a r b s g h k)
      (λ s k. closes_one m IsOpenEntry of_open s stream a r b h k)
      (λ k.
      let d = closes_did m stream a r b h in
      (started_moved m w d.did.acts a.association b.association k.0 d.did.went, stay_same a b (ap (λ (x : SctpStreams S). x.state) h.1) k.1))
      (λ s o k. closes_opened m stream a r b s o h k)

  -- with the channels over the streams
  pub record ChannelsKept (held : Channels) (a : SctpStreams S) (held' : Channels) (b : SctpStreams S) : Type 0 where
    pub streams : StreamsKept a [] b
    pub over : (s c : ℕ) → AreNumberedChannels held → channel_over s held ≡ Some c → channel_over s held' ≡ Some c
    pub numbers : AreNumberedChannels held → AreNumberedChannels held'
    pub gone : (c : ℕ) → IsGone c held → IsGone c held'
    pub given : held.given ≤ held'.given

  pub same_channels : (held : Channels) (a : SctpStreams S) (held' : Channels) (b : SctpStreams S) → held' ≡ held → StreamsKept a [] b → ChannelsKept held a held' b
  same_channels held a held' b is streams = record {
    streams = streams;
    over = λ s c numbered h. subst (λ (x : Channels). channel_over s x ≡ Some c) (sym is) h;
    numbers = λ h. subst (λ (x : Channels). AreNumberedChannels x) (sym is) h;
    gone = λ c h. subst (λ (x : Channels). IsGone c x) (sym is) h;
    given = same_given held.given held'.given (ap (λ (x : Channels). x.given) is);
  }

  pub channels_on : (x : Channels) (a : SctpStreams S) (y : Channels) (b : SctpStreams S) (z : Channels) (c : SctpStreams S) → ChannelsKept x a y b → ChannelsKept y b z c → ChannelsKept x a z c
  channels_on x a y b z c h k = record {
    streams = kept_on a b c h.streams k.streams;
    over = λ s id numbered e. k.over s id (h.numbers numbered) (h.over s id numbered e);
    numbers = λ numbered. k.numbers (h.numbers numbered);
    gone = λ id x. k.gone id (h.gone id x);
    given = given_on x.given y.given z.given h.given k.given;
  }

  opens_kept : AssociationLaws m → (stream : Option ℕ) (config : Option ChannelConfig) (id : ℕ) (held : Channels) (a : SctpStreams S) (r : Result (Unit {0}) AllocError) (held' : Channels) (b : SctpStreams S)
      → OpensChannel m stream config id held a r held' b → ChannelsKept held a held' b
  opens_kept w (Some stream) (Some config) id held a r held' b h = record {
    streams =
        kept_plainly a b (λ v s ws hs k. opens_use m v stream config a r b s ws hs h.0 k) (λ s g k. opens_live m stream config a r b s g h.0 k)
        (λ s k. opens_one m IsOpenEntry of_open s stream config a r b h.0 k)
        (λ k.
        let d = opens_did m stream config a r b h.0 in
        (started_moved m w d.did.acts a.association b.association k.0 d.did.went, stay_same a b (ap (λ (x : SctpStreams S). x.state) h.0.1) k.1))
        (λ s o k. opens_opened m stream config a r b s o h.0 k);
    over = λ s c numbered e. subst (λ (x : Channels). channel_over s x ≡ Some c) (sym h.1) (handed_over s id c held e);
    numbers = λ numbered. subst (λ (x : Channels). AreNumberedChannels x) (sym h.1) (handed_numbers id held numbered);
    gone = λ c x. subst (λ (y : Channels). IsGone c y) (sym h.1) (handed_gone c id held x);
    given = same_given held.given held'.given (ap (λ (x : Channels). x.given) h.1);
  }
  opens_kept w (Some stream) None id held a r held' b h = same_channels held a held' b h.1 (kept_same a b h.2)
  opens_kept w None config id held a r held' b h = same_channels held a held' b h.1 (kept_same a b h.2)

  all_kept : AssociationLaws m → (channels : List Channel) (held : Channels) (a : SctpStreams S) (r : Result (Unit {0}) AllocError) (held' : Channels) (b : SctpStreams S) → OpensAll m channels held a r held' b → ChannelsKept held a held' b
  all_kept w [] held a r held' b h = same_channels held a held' b h.1 (kept_same a b h.2)
  all_kept w (channel ∷ rest) held a r held' b h =
      channels_on held a h.1 h.2 held' b (opens_kept w channel.stream channel.config channel.id held a h.0 h.1 h.2 h.3) (followed h.0 (λ k. all_kept w rest h.1 h.2 r held' b k) h.4)
    where
      followed : (did : Result (Unit {0}) AllocError) → (OpensAll m rest h.1 h.2 r held' b → ChannelsKept h.1 h.2 held' b)
          → Following did (OpensAll m rest h.1 h.2 r held' b) ((r ≡ did) × (held' ≡ h.1) × (b ≡ h.2)) → ChannelsKept h.1 h.2 held' b
      followed (Ok done) next k = next k
      followed (Err error) next k = same_channels h.1 h.2 held' b k.1 (kept_same h.2 b k.2)

  allocates_kept : (parity : ℕ) (held : Channels) (r : Result (Unit {0}) AllocError) (held' : Channels) (a : SctpStreams S) → Allocates parity held r held' → ChannelsKept held a held' a
  allocates_kept parity held (Ok done) held' a h = record {
    streams = kept_same a a refl;
    over = λ s c numbered e. subst (λ (x : Channels). channel_over s x ≡ Some c) (sym h) (all_over parity s c held numbered e);
    numbers = λ numbered. subst (λ (x : Channels). AreNumberedChannels x) (sym h) (allocated_numbers parity held.rows held numbered);
    gone = λ c x. subst (λ (y : Channels). IsGone c y) (sym h) (allocated_gone parity c held.rows held x);
    given = same_given held.given held'.given (ap (λ (x : Channels). x.given) h ∙ allocated_given parity held.rows held);
  }
  allocates_kept parity held (Err error) held' a h = record {
    streams = kept_same a a refl;
    over = λ s c numbered e. subst (λ (x : Channels). channel_over s x ≡ Some c) (sym h.1) (some_over parity h.0 s c held numbered e);
    numbers = λ numbered. subst (λ (x : Channels). AreNumberedChannels x) (sym h.1) (allocated_numbers parity (take h.0 held.rows) held numbered);
    gone = λ c x. subst (λ (y : Channels). IsGone c y) (sym h.1) (allocated_gone parity c (take h.0 held.rows) held x);
    given = same_given held.given held'.given (ap (λ (x : Channels). x.given) h.1 ∙ allocated_given parity (take h.0 held.rows) held);
  }

  progresses_kept : AssociationLaws m → (parity : ℕ) (held : Channels) (a : SctpStreams S) (r : Result (Unit {0}) AllocError) (held' : Channels) (b : SctpStreams S) (did : Result (Unit {0}) AllocError) (between : Channels)
      → Allocates parity held did between → Following did (OpensAll m between.rows between a r held' b) ((r ≡ did) × (held' ≡ between) × (b ≡ a)) → ChannelsKept held a held' b
  progresses_kept w parity held a r held' b (Ok done) between h k = channels_on held a between a held' b (allocates_kept parity held (Ok done) between a h) (all_kept w between.rows between a r held' b k)
  progresses_kept w parity held a r held' b (Err error) between h k =
      channels_on held a between a held' b (allocates_kept parity held (Err error) between a h) (same_channels between a held' b k.1 (kept_same a b k.2))

  pub moment_kept : AssociationLaws m → (due : Bool) (held : Channels) (a : SctpStreams S) (wake : Signals) (r : Result (Unit {0}) AllocError) (held' : Channels) (b : SctpStreams S) (wake' : Signals)
      → MeetsMoment m due held a wake r held' b wake' → ChannelsKept held a held' b
  moment_kept w false held a wake r held' b wake' h = same_channels held a held' b h.1 (kept_same a b h.2)
  moment_kept w true held a wake r held' b wake' h = progresses_kept w _ held a r held' b h.0.0 h.0.1 h.0.2 h.0.3
