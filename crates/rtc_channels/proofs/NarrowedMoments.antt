-- A moment whose wake lost a mark leaves what the mark stands for.
use Rattle.std.proofs.Common.{◌≡◌, ◌&&◌, Bool, true, false, true≢false, List, [], ◌∷◌, refl, sym, ap, subst, ◌∙◌, Option, Some, None}
use Rattle.std.specs.Prelude.{ℕ, ◌||◌, Result, Ok, Err, is_some}
use Rattle.std.specs.declared.alloc.AllocError.{AllocError}
use Rattle.rtc_wire.specs.declared.channel_config.ChannelConfig.{ChannelConfig}
use Rattle.rtc_parts.specs.AssociationMeaning.{AssociationMeaning}
use Rattle.rtc_ready.specs.Signals.{Signals}
use Rattle.rtc_sctp.specs.Streams.{SctpStreams}
use Rattle.rtc_sctp.specs.Calls.{streams_wake}
use Rattle.rtc_sctp.specs.Polls.{PollsStreams}
use Rattle.rtc_channels.specs.Channels.{Channel, Channels}
use Rattle.rtc_channels.specs.Openings.{can_be_opened, can_open, OpensChannel, OpensAll, Following, MeetsMoment, opens_streams, opening_wake, channels_wake}
use Rattle.rtc_channels.specs.Narrowing.{LeavesPolls, LeavesDeadlines}

or_left : (a b : Bool) → (a || b) ≡ false → a ≡ false
or_left true b h = h
or_left false b h = refl

or_right : (a b : Bool) → (a || b) ≡ false → b ≡ false
or_right true b h = absurd (true≢false h)
or_right false b h = h

-- a mark that was set stays so
kept_mark : (opens : Bool) (wake wake' : Signals) → wake' ≡ opening_wake opens wake → wake.events ≡ true → wake'.events ≡ false → opens ≡ false
kept_mark true wake wake' is set cleared = absurd (true≢false (sym set ∙ (sym (ap (λ (w : Signals). w.events) is) ∙ cleared)))
kept_mark false wake wake' is set cleared = refl

kept_timeout : (opens : Bool) (wake wake' : Signals) → wake' ≡ opening_wake opens wake → wake'.timeout ≡ wake.timeout
kept_timeout true wake wake' is = ap (λ (w : Signals). w.timeout) is
kept_timeout false wake wake' is = ap (λ (w : Signals). w.timeout) is

module _ {S : Type 0} (m : AssociationMeaning S) where
  unopened : (stream : Option ℕ) (config : Option ChannelConfig) (id : ℕ) (held : Channels) (p : SctpStreams S) (r : Result (Unit {0}) AllocError)
      (held' : Channels) (p' : SctpStreams S) → (is_some stream && is_some config) ≡ false → OpensChannel m stream config id held p r held' p'
      → (r ≡ Ok tt) × (p' ≡ p)
  unopened (Some stream) (Some config) id held p r held' p' none h = absurd (true≢false none)
  unopened (Some stream) None id held p r held' p' none h = (h.0, h.2)
  unopened None config id held p r held' p' none h = (h.0, h.2)

  -- if no channel can be opened, the streams are left
  all_unopened : (channels : List Channel) (held : Channels) (p : SctpStreams S) (r : Result (Unit {0}) AllocError) (held' : Channels)
      (p' : SctpStreams S) → can_open channels ≡ false → OpensAll m channels held p r held' p' → p' ≡ p
  all_unopened [] held p r held' p' none h = h.2
  all_unopened (channel ∷ rest) held p r held' p' none h =
      let first = unopened channel.stream channel.config channel.id held p h.0 h.1 h.2 (or_left (can_be_opened channel) (can_open rest) none) h.3 in
      by h.0 (λ later. all_unopened rest h.1 h.2 r held' p' (or_right (can_be_opened channel) (can_open rest) none) later) h.4 ∙ first.1
    where
      by : (did : Result (Unit {0}) AllocError) → (OpensAll m rest h.1 h.2 r held' p' → p' ≡ h.2)
          → Following did (OpensAll m rest h.1 h.2 r held' p') ((r ≡ did) × (held' ≡ h.1) × (p' ≡ h.2)) → p' ≡ h.2
      by (Ok done) later behind = later behind
      by (Err error) later behind = behind.2

  progress_unopened : (between : Channels) (p : SctpStreams S) (r : Result (Unit {0}) AllocError) (held' : Channels) (p' : SctpStreams S)
      (did : Result (Unit {0}) AllocError) → opens_streams did between ≡ false
      → Following did (OpensAll m between.rows between p r held' p') ((r ≡ did) × (held' ≡ between) × (p' ≡ p)) → p' ≡ p
  progress_unopened between p r held' p' (Ok done) none h = all_unopened between.rows between p r held' p' none h
  progress_unopened between p r held' p' (Err error) none h = h.2

  polls_left : (p p' : SctpStreams S) → p' ≡ p → LeavesPolls m p p'
  polls_left p p' is = record {
    after = λ r q h. subst (λ (x : SctpStreams S). PollsStreams m x r q) is h;
    before = λ r q h. subst (λ (x : SctpStreams S). PollsStreams m x r q) (sym is) h;
  }

  pub narrowed_events : (due : Bool) (held : Channels) (p : SctpStreams S) (wake : Signals) (r : Result (Unit {0}) AllocError) (held' : Channels)
      (p' : SctpStreams S) (wake' : Signals) → MeetsMoment m due held p wake r held' p' wake' → wake.events ≡ true → wake'.events ≡ false
      → LeavesPolls m p p'
  narrowed_events false held p wake r held' p' wake' h set cleared = polls_left p p' h.2
  narrowed_events true held p wake r held' p' wake' h set cleared =
      polls_left p p' (progress_unopened h.0.1 p r held' p' h.0.0 (kept_mark (opens_streams h.0.0 h.0.1) wake wake' h.1 set cleared) h.0.3)

  deadlines_left : (held : Channels) (p : SctpStreams S) (held' : Channels) (p' : SctpStreams S) → held' ≡ held → p' ≡ p
      → LeavesDeadlines m held p held' p'
  deadlines_left held p held' p' same is = record {
    streams = ap (λ (x : SctpStreams S). streams_wake m x) is;
    channels = ap (λ (x : Channels). channels_wake m x p') same ∙ ap (λ (x : SctpStreams S). channels_wake m held x) is;
  }

  pub narrowed_timeout : (due : Bool) (held : Channels) (p : SctpStreams S) (wake : Signals) (r : Result (Unit {0}) AllocError) (held' : Channels)
      (p' : SctpStreams S) (wake' : Signals) → MeetsMoment m due held p wake r held' p' wake' → wake.timeout ≡ true → wake'.timeout ≡ false
      → LeavesDeadlines m held p held' p'
  narrowed_timeout false held p wake r held' p' wake' h set cleared = deadlines_left held p held' p' h.1 h.2
  narrowed_timeout true held p wake r held' p' wake' h set cleared =
      absurd (true≢false (sym set ∙ (sym (kept_timeout (opens_streams h.0.0 h.0.1) wake wake' h.1) ∙ cleared)))
