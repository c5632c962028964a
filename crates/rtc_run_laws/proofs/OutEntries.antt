-- The config of a channel whose stream was settled by other means than messages; and such a channel is there where a poll announces it.
use Rattle.std.proofs.Common.{◌≡◌, ◌∙◌, ◌⊎◌, ◌==◌, ◌+◌, inl, inr, if◌then◌else◌, not, ℕ, Bool, true, false, true≢false, List, [], ◌∷◌, Option, Some, None, Ok, refl, sym, ap, subst, arith}
use Rattle.std.specs.Prelude.{is_some}
use Rattle.std.proofs.lemmas.Bool.{eqb-true}
use Rattle.rtc_wire.specs.declared.channel_config.ChannelConfig.{ChannelConfig}
use Rattle.rtc_sctp_entries.specs.declared.stream_entry.StreamEntry.{StreamEntry}
use Rattle.rtc_sctp_entries.specs.Entries.{Ascend, AscendFrom, config_or_fresh, stream_config}
use Rattle.rtc_sctp.specs.Streams.{SctpStreams}
use Rattle.rtc_channels.specs.Channels.{Channels}
use Rattle.rtc_peer_core.specs.Meanings.{Meanings, PartsLaws}
use Rattle.rtc_peer_transport.specs.ChannelCalls.{config_under, stream_under}
use Rattle.rtc_peer_transport.specs.declared.event.Event.TheVariants.{ChannelOpen}
use Rattle.rtc_peer_transport.specs.declared.met.Met.TheVariants.{Event as MetEvent}
use Rattle.rtc_peer_transport.specs.declared.output.Output.TheVariants as polled
use Rattle.rtc_peer_transport.specs.declared.polled_peer.PolledPeer.{PolledPeer}
use Rattle.rtc_peer_polling.specs.StreamStages.{channel_over}
use Rattle.rtc_peer_polling.specs.Walk.{PollsPeer}
use Rattle.rtc_peer_laws.specs.ChannelStreams.{AreNumberedChannels}
use Rattle.rtc_peer_laws.proofs.ChannelsOver.{none_under, under_over}
use Rattle.rtc_run_laws.specs.ChannelUses.{announced_use}
use Rattle.rtc_run_laws.specs.OwnOpenings.{HasEntryOf}
use Rattle.rtc_run_laws.proofs.OutRows.{IsOutChannel, OutGone, OutStands}
use Rattle.rtc_run_laws.proofs.StandingEntries.{HasOutStanding, HasStanding, IsOutStanding}
use Rattle.rtc_run_laws.proofs.StandingTours.{least_entry}
use Rattle.rtc_run_laws.proofs.StandingVisits.{IsStanding}
use Rattle.rtc_run_laws.proofs.StreamPolls.{poll_goes}
use Rattle.rtc_run_laws.proofs.ToldEvents.{TellsOpen, open_told}
use Rattle.rtc_run_laws.proofs.TracedPolls.{LastPoll, poll_traced}

-- a config of a stream that was settled by other means than messages
pub record IsOutConfig (of : Option ChannelConfig) : Type 0 where
  pub config : ChannelConfig
  pub config_is : of ≡ Some config
  pub out : is_some config.negotiated ≡ true

out_some : (o : Option ChannelConfig) → is_some (config_or_fresh o).negotiated ≡ true → IsOutConfig o
out_some None h = absurd (true≢false (sym h))
out_some (Some config) h = record { config = config; config_is = refl; out = h }

own_test : (n s : ℕ) → n ≡ s → (n == s) ≡ true
own_test n s h = grind (arith, h)

-- the first entry of a stream, and the others
not_first : (P : StreamEntry → Type 0) (s : ℕ) (e : StreamEntry) (es : List StreamEntry) → AscendFrom (e.id + 1) es → HasEntryOf P s es
    → (e.id == s) ≡ true → ⊥
not_first P s e es h k same =
    let up = least_entry P s (e.id + 1) es h k in
    let is = eqb-true e.id s same in
    omega (arith, up, is)

config_of : (s low : ℕ) (es : List StreamEntry) → AscendFrom low es → HasOutStanding s es → IsOutConfig (stream_config s es)
config_of s low [] h k = absurd k
config_of s low (e ∷ es) h (inl k) = by (e.id == s) (own_test e.id s k.0)
  where
    by : (b : Bool) → b ≡ true → IsOutConfig (if b then e.config else stream_config s es)
    by true is = out_some e.config k.1.1
    by false is = absurd (true≢false (sym is))
config_of s low (e ∷ es) h (inr k) =
    by (e.id == s) (λ same. not_first IsOutStanding s e es h.1 k same) (config_of s (e.id + 1) es h.1 k)
  where
    by : (b : Bool) → (b ≡ true → ⊥) → IsOutConfig (stream_config s es) → IsOutConfig (if b then e.config else stream_config s es)
    by true none rest = absurd (none refl)
    by false none rest = rest

-- a stream whose config is such a one
out_of : (s low : ℕ) (es : List StreamEntry) → AscendFrom low es → HasStanding s es → is_some (config_or_fresh (stream_config s es)).negotiated ≡ true
    → HasOutStanding s es
out_of s low [] h k out = absurd k
out_of s low (e ∷ es) h (inl k) out = by (e.id == s) (own_test e.id s k.0) out
  where
    by : (b : Bool) → b ≡ true → is_some (config_or_fresh (if b then e.config else stream_config s es)).negotiated ≡ true → HasOutStanding s (e ∷ es)
    by true is f = inl (k.0, (k.1, f))
    by false is f = absurd (true≢false (sym is))
out_of s low (e ∷ es) h (inr k) out =
    by (e.id == s) (λ same. not_first IsStanding s e es h.1 k same) out (λ f. out_of s (e.id + 1) es h.1 k f)
  where
    by : (b : Bool) → (b ≡ true → ⊥) → is_some (config_or_fresh (if b then e.config else stream_config s es)).negotiated ≡ true
        → (is_some (config_or_fresh (stream_config s es)).negotiated ≡ true → HasOutStanding s es) → HasOutStanding s (e ∷ es)
    by true none f rest = absurd (none refl)
    by false none f rest = inr (rest f)

-- such a channel has no config, or such a one
pub out_config : {S : Type 0} → (c : ℕ) (held : Channels) (p : SctpStreams S) → AreNumberedChannels held → Ascend p.entries → IsOutChannel c held p.entries
    → (config_under (stream_under c held) p ≡ None) ⊎ IsOutConfig (config_under (stream_under c held) p)
out_config c held p numbers order (OutGone h) =
    inl (ap (λ (o : Option ℕ). config_under o p) (let none : stream_under c held ≡ None = none_under c held.rows h.1 in none))
out_config c held p numbers order (OutStands s over h) =
    inr
    (subst (λ (o : Option ℕ). IsOutConfig (config_under o p))
    (sym (let there : stream_under c held ≡ Some s = under_over s c held numbers.0 over in there))
    (config_of s 0 p.entries order h))

not_false : (b : Bool) → not b ≡ false → b ≡ true
not_false true h = refl
not_false false h = absurd (true≢false h)

module _ {I D S M E X T W N : Type 0} (m : Meanings I D S M E X T W N) (laws : PartsLaws m) (p q : PolledPeer I D S M N) (id : ℕ) (label : List ℕ)
    (h : PollsPeer m p (Ok (polled.Event (ChannelOpen id label))) q) where
  last_open : LastPoll m p (MetEvent (ChannelOpen id label)) q
  last_open = poll_traced m laws (ChannelOpen id label) p q h refl

  opened : TellsOpen m id last_open.between last_open.streams q
  opened = open_told m last_open.told id label last_open.between last_open.streams q last_open.polled last_open.taken

  over_open : channel_over opened.stream q.core.channels ≡ Some id
  over_open =
      ap (λ (x : PolledPeer I D S M N). channel_over opened.stream x.core.channels) opened.left ∙ opened.over

  stands : HasStanding opened.stream q.core.sctp.entries
  stands =
      subst (λ (x : PolledPeer I D S M N). HasStanding opened.stream x.core.sctp.entries) (sym opened.left)
      ((poll_goes m.association laws.association last_open.between.core.sctp _ last_open.streams opened.polled).tells_open opened.stream refl)

  -- a channel that a poll announces and that was not opened in-band
  pub announced_out : AreNumberedChannels q.core.channels → Ascend q.core.sctp.entries → (announced_use m id q).in_band ≡ false
      → IsOutChannel id q.core.channels q.core.sctp.entries
  announced_out numbers order band =
      let under : stream_under id q.core.channels ≡ Some opened.stream = under_over opened.stream id q.core.channels numbers.0 over_open in
      let out : is_some (config_or_fresh (config_under (Some opened.stream) q.core.sctp)).negotiated ≡ true =
      not_false _ (sym (ap (λ (o : Option ℕ). not (is_some (config_or_fresh (config_under o q.core.sctp)).negotiated)) under) ∙ band) in
      OutStands opened.stream over_open (out_of opened.stream 0 q.core.sctp.entries order stands out)
