-- A channel that polls of a step announce, and whose config as the step ended was in-band, was opened in-band.
use Rattle.std.proofs.Common.{◌≡◌, ◌∙◌, ◌⊎◌, inl, inr, ◌∷◌, ℕ, Bool, true, false, true≢false, List, [], Option, Some, None, Ok, refl, sym, ap, subst}
use Rattle.std.specs.Prelude.{is_some}
use Rattle.rtc_wire.specs.declared.channel_config.ChannelConfig.{ChannelConfig}
use Rattle.rtc_peer_core.specs.declared.phase.Phase.TheVariants.{Closed}
use Rattle.rtc_peer_core.specs.Meanings.{Meanings, PartsLaws}
use Rattle.rtc_peer_transport.specs.ChannelCalls.{config_under, stream_under}
use Rattle.rtc_peer_transport.specs.declared.event.Event.{Event}
use Rattle.rtc_peer_transport.specs.declared.event.Event.TheVariants.{ChannelOpen, ChannelData}
use Rattle.rtc_peer_transport.specs.declared.output.Output.TheVariants as polled
use Rattle.rtc_peer_transport.specs.declared.polled_peer.PolledPeer.{PolledPeer}
use Rattle.rtc_run_history.specs.declared.outcome.Outcome.{Outcome}
use Rattle.rtc_run_history.specs.declared.outcome.Outcome.TheVariants.{Polled, Alloc}
use Rattle.rtc_run_history.specs.declared.poll_end.PollEnd.{PollEnd}
use Rattle.rtc_run_history.specs.declared.poll_end.PollEnd.TheVariants.{Ended}
use Rattle.rtc_run_history.specs.declared.sent_packet.SentPacket.{SentPacket}
use Rattle.rtc_run_history.specs.declared.shown.Shown.{Shown}
use Rattle.rtc_run_history.specs.declared.shown.Shown.TheVariants as shows
use Rattle.rtc_run_history.specs.declared.side.Side.{Side}
use Rattle.rtc_run_history.specs.declared.table.Table.{Table}
use Rattle.rtc_run_history.specs.Memory.{outcome_lacks}
use Rattle.rtc_run_history.specs.Performs.{DrainsOn, DrainsPeer, PollsOnce, StepPollsPeer}
use Rattle.rtc_run_laws.specs.ChannelUses.{ChannelUse, announced_use, uses_shown, uses_told}
use Rattle.rtc_run_laws.specs.PollsOfRuns.{by_drain_step, by_poll_step, by_polls}
use Rattle.rtc_run_laws.proofs.FirstBands.{HasUse, IsFirstBanded, first_banded, has_got, has_last, has_more}
use Rattle.rtc_run_laws.proofs.OutEntries.{IsOutConfig, out_config}
use Rattle.rtc_run_laws.proofs.OutUses.{IsOutUse, OutSound, SideOut, drain_step_on, poll_step_on}
use Rattle.rtc_run_laws.proofs.RowLemmas.{closed_stays}
use Rattle.rtc_run_laws.proofs.UseLists.{all_kept}
use Rattle.rtc_run_laws.proofs.UsesPolled.{no_timeout}

-- ---- outputs that announce a channel

abbrev pub OpensIn : {E : Type 0} → (channel : ℕ) → Event E → Type 0
OpensIn c (ChannelOpen id label) = id ≡ c
OpensIn c event = ⊥

abbrev pub ShowsOpen : {E : Type 0} → (channel : ℕ) → Shown E → Type 0
ShowsOpen c (shows.Event event) = OpensIn c event
ShowsOpen c (shows.Timeout moment reason) = ⊥
ShowsOpen c (shows.Packet number len) = ⊥

abbrev pub AnnouncesIn : {E : Type 0} → (channel : ℕ) → List (Shown E) → Type 0
AnnouncesIn c [] = ⊥
AnnouncesIn c (shown ∷ outputs) = ShowsOpen c shown ⊎ AnnouncesIn c outputs

abbrev pub OutcomeAnnounces : {E : Type 0} → (channel : ℕ) → Outcome E → Type 0
OutcomeAnnounces c (Polled outputs end) = AnnouncesIn c outputs
OutcomeAnnounces c outcome = ⊥

-- a config of a channel that is in-band
pub record IsBandConfig (of : Option ChannelConfig) : Type 0 where
  pub config : ChannelConfig
  pub config_is : of ≡ Some config
  pub band : is_some config.negotiated ≡ false

no_config : (config : ChannelConfig) → None ≡ Some config → ⊥
no_config config h = cc

config_same : (a b : ChannelConfig) → Some a ≡ Some b → a ≡ b
config_same a b h = cc

band_not : (of : Option ChannelConfig) → IsBandConfig of → (of ≡ None) ⊎ IsOutConfig of → ⊥
band_not of h (inl none) = no_config h.config (sym none ∙ h.config_is)
band_not of h (inr out) =
    true≢false
    (sym out.out ∙ ap (λ (x : ChannelConfig). is_some x.negotiated) (config_same out.config h.config (sym out.config_is ∙ h.config_is)) ∙ h.band)

module _ {I D S M E X T W N : Type 0} (m : Meanings I D S M E X T W N) (c : ℕ) where
  -- if the config of a channel is in-band, each was opened so that was announced by its number
  pub fits_banded : (p : PolledPeer I D S M N) (uses : List ChannelUse) → OutSound m p uses → HasUse c uses
      → IsBandConfig (config_under (stream_under c p.core.channels) p.core.sctp) → IsFirstBanded c uses
  fits_banded p uses out there fits =
      first_banded c uses
      (all_kept (IsOutUse m p) (λ x. x.channel ≡ c → x.in_band ≡ true) uses (λ x f same. by x f same x.in_band refl) out.each) there
    where
      by : (x : ChannelUse) → IsOutUse m p x → x.channel ≡ c → (b : Bool) → x.in_band ≡ b → b ≡ true
      by x f same true is = refl
      by x f same false is =
          absurd
          (band_not (config_under (stream_under c p.core.channels) p.core.sctp) fits
          (subst
          (λ (n : ℕ). (config_under (stream_under n p.core.channels) p.core.sctp ≡ None) ⊎ IsOutConfig (config_under (stream_under n p.core.channels) p.core.sctp))
          same
          (out_config x.channel p.core.channels p.core.sctp out.sound.numbers out.ordered (f is))))

  -- ---- what is announced is there

  told_has : (event : Event E) (q : PolledPeer I D S M N) (uses : List ChannelUse) → HasUse c uses → HasUse c (uses_told m event q uses)
  told_has (ChannelOpen id label) q uses h = has_more c uses (announced_use m id q ∷ []) h
  told_has (ChannelData message) q uses h = has_got c message.id (message.binary, message.bytes) uses h
  told_has event q uses h = h

  opened_has : (event : Event E) (q : PolledPeer I D S M N) (uses : List ChannelUse) → OpensIn c event → HasUse c (uses_told m event q uses)
  opened_has (ChannelOpen id label) q uses h = has_last c uses (announced_use m id q) h
  opened_has event q uses h = absurd h

  event_has : (event : Event E) (outputs : List (Shown E)) (q : PolledPeer I D S M N) (uses : List ChannelUse)
      → HasUse c uses ⊎ (OpensIn c event ⊎ AnnouncesIn c outputs) → HasUse c (uses_told m event q uses) ⊎ AnnouncesIn c outputs
  event_has event outputs q uses (inl h) = inl (told_has event q uses h)
  event_has event outputs q uses (inr (inl h)) = inl (opened_has event q uses h)
  event_has event outputs q uses (inr (inr h)) = inr h

  packet_has : (outputs : List (Shown E)) (uses : List ChannelUse) → HasUse c uses ⊎ (⊥ ⊎ AnnouncesIn c outputs) → HasUse c uses ⊎ AnnouncesIn c outputs
  packet_has outputs uses (inl h) = inl h
  packet_has outputs uses (inr (inl h)) = absurd h
  packet_has outputs uses (inr (inr h)) = inr h

  last_has : (uses : List ChannelUse) → HasUse c uses ⊎ (⊥ ⊎ ⊥) → HasUse c uses
  last_has uses (inl h) = h
  last_has uses (inr (inl h)) = absurd h
  last_has uses (inr (inr h)) = absurd h

  polls_has : (at : Side) (p : PolledPeer I D S M N) (packets : List SentPacket) (outputs : List (Shown E)) (end : PollEnd) (q : PolledPeer I D S M N)
      (packets' : List SentPacket) (d : DrainsOn m at p packets outputs end q packets') (uses : List ChannelUse)
      → HasUse c uses ⊎ AnnouncesIn c outputs → HasUse c (by_polls m (uses_shown m) at p packets outputs end q packets' d uses)
  polls_has at p packets [] end q packets' d uses (inl h) = h
  polls_has at p packets [] end q packets' d uses (inr h) = absurd h
  polls_has at p packets (shows.Timeout moment reason ∷ []) Ended q packets' d uses h = last_has uses h
  polls_has at p packets (shows.Timeout moment reason ∷ outputs) end q packets' d uses h = absurd d
  polls_has at p packets (shows.Packet number len ∷ outputs) end q packets' d uses h =
      polls_has at d.0 d.1 outputs end q packets' d.3 uses (packet_has outputs uses h)
  polls_has at p packets (shows.Event event ∷ outputs) end q packets' d uses h =
      polls_has at d.0 d.1 outputs end q packets' d.3 (uses_told m event d.0 uses) (event_has event outputs d.0 uses h)

  shown_has : (shown : Shown E) (q : PolledPeer I D S M N) (uses : List ChannelUse) → ShowsOpen c shown → HasUse c (uses_shown m shown q uses)
  shown_has (shows.Event event) q uses h = opened_has event q uses h
  shown_has (shows.Timeout moment reason) q uses h = absurd h
  shown_has (shows.Packet number len) q uses h = absurd h

  one_has : (shown : Shown E) (q : PolledPeer I D S M N) (uses : List ChannelUse) → ShowsOpen c shown ⊎ ⊥ → HasUse c (uses_shown m shown q uses)
  one_has shown q uses (inl h) = shown_has shown q uses h
  one_has shown q uses (inr h) = absurd h

  -- ---- a closed peer announces none

  event_not : (event : Event E) (p q : PolledPeer I D S M N) (packets packets' : List SentPacket) (at : Side)
      → PollsOnce m at p packets (shows.Event event ∷ []) Ended q packets' → p.core.phase ≡ Closed → ⊥
  event_not event p q packets packets' at d closed =
      no_timeout event _ (Ok (polled.Event event)) refl (closed_stays m p (Ok (polled.Event event)) q closed d.0).0

  polls_not : (at : Side) (p : PolledPeer I D S M N) (packets : List SentPacket) (outputs : List (Shown E)) (end : PollEnd) (q : PolledPeer I D S M N)
      (packets' : List SentPacket) → DrainsOn m at p packets outputs end q packets' → p.core.phase ≡ Closed → AnnouncesIn c outputs → ⊥
  polls_not at p packets [] end q packets' d closed h = h
  polls_not at p packets (shows.Timeout moment reason ∷ []) Ended q packets' d closed (inl h) = h
  polls_not at p packets (shows.Timeout moment reason ∷ []) Ended q packets' d closed (inr h) = h
  polls_not at p packets (shows.Timeout moment reason ∷ outputs) end q packets' d closed h = d
  polls_not at p packets (shows.Packet number len ∷ outputs) end q packets' d closed (inl h) = h
  polls_not at p packets (shows.Packet number len ∷ outputs) end q packets' d closed (inr h) =
      polls_not at d.0 d.1 outputs end q packets' d.3 (closed_stays m p (Ok (polled.Transmit d.2.0)) d.0 closed d.2.1).1 h
  polls_not at p packets (shows.Event event ∷ outputs) end q packets' d closed h = event_not event p d.0 packets d.1 at d.2 closed

  shown_not : (at : Side) (p : PolledPeer I D S M N) (packets : List SentPacket) (shown : Shown E) (end : PollEnd) (q : PolledPeer I D S M N)
      (packets' : List SentPacket) → PollsOnce m at p packets (shown ∷ []) end q packets' → p.core.phase ≡ Closed → ShowsOpen c shown ⊎ ⊥ → ⊥
  shown_not at p packets (shows.Timeout moment reason) end q packets' d closed (inl h) = h
  shown_not at p packets (shows.Packet number len) end q packets' d closed (inl h) = h
  shown_not at p packets (shows.Event event) Ended q packets' d closed (inl h) = event_not event p q packets packets' at d closed
  shown_not at p packets (shows.Event event) end q packets' d closed (inl h) = d
  shown_not at p packets shown end q packets' d closed (inr h) = h

  -- ---- a step that polls

  module _ (laws : PartsLaws m) where
    pub poll_first : (at : Side) (old : PolledPeer I D S M N) (packets : List SentPacket) (outcome : Outcome E) (table : Option Table)
        (new : PolledPeer I D S M N) (packets' : List SentPacket) (uses : List ChannelUse)
        → StepPollsPeer m (PollsOnce m at old) old packets outcome table new packets' → outcome_lacks outcome ≡ false → SideOut m old uses
        → OutcomeAnnounces c outcome → IsBandConfig (config_under (stream_under c new.core.channels) new.core.sctp)
        → IsFirstBanded c (by_poll_step m (uses_shown m) outcome new uses)
    poll_first at old packets Alloc None new packets' uses d lasts side h fits = absurd h
    poll_first at old packets (Polled [] end) (Some table) new packets' uses d lasts side h fits = absurd h
    poll_first at old packets (Polled (shown ∷ []) end) (Some table) new packets' uses d lasts (inl closed) h fits =
        absurd (shown_not at old packets shown end new packets' d.0 closed h)
    poll_first at old packets (Polled (shown ∷ []) end) (Some table) new packets' uses d lasts (inr out) h fits =
        fits_banded new (uses_shown m shown new uses)
        (poll_step_on m laws at old packets (Polled (shown ∷ []) end) (Some table) new packets' uses d lasts out) (one_has shown new uses h) fits
    poll_first at old packets (Polled (shown ∷ next ∷ outputs) end) (Some table) new packets' uses d lasts side h fits = absurd d.0
    poll_first at old packets outcome table new packets' uses d lasts side h fits = absurd d

    pub drain_first : (at : Side) (old : PolledPeer I D S M N) (packets : List SentPacket) (outcome : Outcome E) (table : Option Table)
        (new : PolledPeer I D S M N) (packets' : List SentPacket) (uses : List ChannelUse)
        (d : StepPollsPeer m (DrainsPeer m at old) old packets outcome table new packets') → outcome_lacks outcome ≡ false → SideOut m old uses
        → OutcomeAnnounces c outcome → IsBandConfig (config_under (stream_under c new.core.channels) new.core.sctp)
        → IsFirstBanded c (by_drain_step m (uses_shown m) at old packets outcome table new packets' d uses)
    drain_first at old packets Alloc None new packets' uses d lasts side h fits = absurd h
    drain_first at old packets (Polled [] end) (Some table) new packets' uses d lasts side h fits = absurd h
    drain_first at old packets (Polled (shown ∷ outputs) end) (Some table) new packets' uses d lasts (inl closed) h fits =
        absurd (polls_not at old packets (shown ∷ outputs) end new packets' d.0 closed h)
    drain_first at old packets (Polled (shown ∷ outputs) end) (Some table) new packets' uses d lasts (inr out) h fits =
        fits_banded new _
        (drain_step_on m laws at old packets (Polled (shown ∷ outputs) end) (Some table) new packets' uses d lasts out)
        (polls_has at old packets (shown ∷ outputs) end new packets' d.0 uses (inr h)) fits
    drain_first at old packets outcome table new packets' uses d lasts side h fits = absurd d
