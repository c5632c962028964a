-- The first of a side's channels that were announced by a number was opened in-band, and stays so as more happens.
use Rattle.std.proofs.Common.{◌≡◌, ◌∙◌, ◌⊎◌, inl, inr, ◌==◌, ◌∷◌, ◌++◌, if◌then◌else◌, ℕ, Bool, true, false, true≢false, List, [], Option, Some, refl, sym, arith}
use Rattle.std.proofs.lemmas.Bool.{eqb-true}
use Rattle.rtc_wire.specs.declared.addr.Addr.{Addr}
use Rattle.rtc_channels.specs.Channels.{Channel}
use Rattle.rtc_peer_core.specs.Meanings.{Meanings}
use Rattle.rtc_peer_transport.specs.declared.event.Event.{Event}
use Rattle.rtc_peer_transport.specs.declared.event.Event.TheVariants.{ChannelOpen, ChannelData}
use Rattle.rtc_peer_transport.specs.declared.polled_peer.PolledPeer.{PolledPeer}
use Rattle.rtc_run_history.specs.declared.kept.Kept.{Kept}
use Rattle.rtc_run_history.specs.declared.outcome.Outcome.{Outcome}
use Rattle.rtc_run_history.specs.declared.outcome.Outcome.TheVariants.{Polled, Wrote}
use Rattle.rtc_run_history.specs.declared.poll_end.PollEnd.{PollEnd}
use Rattle.rtc_run_history.specs.declared.sent_packet.SentPacket.{SentPacket}
use Rattle.rtc_run_history.specs.declared.shown.Shown.{Shown}
use Rattle.rtc_run_history.specs.declared.shown.Shown.TheVariants as shows
use Rattle.rtc_run_history.specs.declared.side.Side.{Side}
use Rattle.rtc_run_history.specs.declared.step.Step.{Step}
use Rattle.rtc_run_history.specs.declared.step.Step.TheVariants.{Poll, Drain, Write, Rollback}
use Rattle.rtc_run_history.specs.declared.table.Table.{Table}
use Rattle.rtc_run_history.specs.Performs.{Acts, DrainsOn, DrainsPeer, StepPollsPeer}
use Rattle.rtc_run_laws.specs.ChannelUses.{ChannelUse, loses_channel, uses_shown, uses_told, with_got_message, with_rolled_back, with_sent_message}
use Rattle.rtc_run_laws.specs.PollsOfRuns.{by_drain, by_drain_step, by_poll, by_poll_step, by_polls}
use Rattle.rtc_run_laws.specs.UsesOfRuns.{uses_acted, uses_written}
use Rattle.rtc_run_laws.proofs.UseLists.{AllUses}

-- the first channel of a number was opened in-band
abbrev pub IsFirstBanded : (channel : ℕ) → List ChannelUse → Type 0
IsFirstBanded c [] = ⊥
IsFirstBanded c (x ∷ uses) = ((x.channel ≡ c) × (x.in_band ≡ true)) ⊎ ((x.channel ≡ c → ⊥) × IsFirstBanded c uses)

-- a channel of a number was announced
abbrev pub HasUse : (channel : ℕ) → List ChannelUse → Type 0
HasUse c [] = ⊥
HasUse c (x ∷ uses) = (x.channel ≡ c) ⊎ HasUse c uses

-- the first of those that were all opened so
pub first_banded : (c : ℕ) (uses : List ChannelUse) → AllUses (λ x. x.channel ≡ c → x.in_band ≡ true) uses → HasUse c uses → IsFirstBanded c uses
first_banded c [] h k = k
first_banded c (x ∷ uses) h k = by (x.channel == c) refl k (λ there. first_banded c uses h.1 there)
  where
    not_same : (x.channel == c) ≡ false → x.channel ≡ c → ⊥
    not_same e same = true≢false (sym (let yes : (x.channel == c) ≡ true = grind (arith, same) in yes) ∙ e)

    by : (b : Bool) → (x.channel == c) ≡ b → (x.channel ≡ c) ⊎ HasUse c uses → (HasUse c uses → IsFirstBanded c uses) → IsFirstBanded c (x ∷ uses)
    by true e there rest = inl (eqb-true x.channel c e, h.0 (eqb-true x.channel c e))
    by false e (inl same) rest = absurd (not_same e same)
    by false e (inr there) rest = inr ((λ same. not_same e same), rest there)

first_more : (c : ℕ) (uses more : List ChannelUse) → IsFirstBanded c uses → IsFirstBanded c (uses ++ more)
first_more c [] more h = absurd h
first_more c (x ∷ uses) more (inl h) = inl h
first_more c (x ∷ uses) more (inr h) = inr (h.0, first_more c uses more h.1)

pub has_more : (c : ℕ) (uses more : List ChannelUse) → HasUse c uses → HasUse c (uses ++ more)
has_more c [] more h = absurd h
has_more c (x ∷ uses) more (inl h) = inl h
has_more c (x ∷ uses) more (inr h) = inr (has_more c uses more h)

pub has_last : (c : ℕ) (uses : List ChannelUse) (x : ChannelUse) → x.channel ≡ c → HasUse c (uses ++ x ∷ [])
has_last c [] x h = inl h
has_last c (y ∷ uses) x h = inr (has_last c uses x h)

-- ---- what is sent, got and rolled back

-- a channel that keeps its number and how it was opened
first_as : (c : ℕ) (x y : ChannelUse) (uses more : List ChannelUse) → y.channel ≡ x.channel → y.in_band ≡ x.in_band
    → (IsFirstBanded c uses → IsFirstBanded c more) → IsFirstBanded c (x ∷ uses) → IsFirstBanded c (y ∷ more)
first_as c x y uses more channel band rest (inl h) = inl (channel ∙ h.0, band ∙ h.1)
first_as c x y uses more channel band rest (inr h) = inr ((λ same. h.0 (sym channel ∙ same)), rest h.1)

has_as : (c : ℕ) (x y : ChannelUse) (uses more : List ChannelUse) → y.channel ≡ x.channel → (HasUse c uses → HasUse c more) → HasUse c (x ∷ uses)
    → HasUse c (y ∷ more)
has_as c x y uses more channel rest (inl h) = inl (channel ∙ h)
has_as c x y uses more channel rest (inr h) = inr (rest h)

first_sent : (c channel : ℕ) (message : Bool × List ℕ) (uses : List ChannelUse) → IsFirstBanded c uses
    → IsFirstBanded c (with_sent_message channel message uses)
first_sent c channel message [] h = h
first_sent c channel message (x ∷ uses) h = by (x.channel == channel) (λ k. first_sent c channel message uses k)
  where
    by : (b : Bool) → (IsFirstBanded c uses → IsFirstBanded c (with_sent_message channel message uses)) → IsFirstBanded c ((if b then record x { sent = x.sent ++ message ∷ [] } else x) ∷ with_sent_message channel message uses)
    by true rest = first_as c x (record x { sent = x.sent ++ message ∷ [] }) uses _ refl refl rest h
    by false rest = first_as c x x uses _ refl refl rest h

first_got : (c channel : ℕ) (message : Bool × List ℕ) (uses : List ChannelUse) → IsFirstBanded c uses
    → IsFirstBanded c (with_got_message channel message uses)
first_got c channel message [] h = h
first_got c channel message (x ∷ uses) h = by (x.channel == channel) (λ k. first_got c channel message uses k)
  where
    by : (b : Bool) → (IsFirstBanded c uses → IsFirstBanded c (with_got_message channel message uses)) → IsFirstBanded c ((if b then record x { got = x.got ++ message ∷ [] } else x) ∷ with_got_message channel message uses)
    by true rest = first_as c x (record x { got = x.got ++ message ∷ [] }) uses _ refl refl rest h
    by false rest = first_as c x x uses _ refl refl rest h

pub has_got : (c channel : ℕ) (message : Bool × List ℕ) (uses : List ChannelUse) → HasUse c uses → HasUse c (with_got_message channel message uses)
has_got c channel message [] h = h
has_got c channel message (x ∷ uses) h = by (x.channel == channel) (λ k. has_got c channel message uses k)
  where
    by : (b : Bool) → (HasUse c uses → HasUse c (with_got_message channel message uses)) → HasUse c ((if b then record x { got = x.got ++ message ∷ [] } else x) ∷ with_got_message channel message uses)
    by true rest = has_as c x (record x { got = x.got ++ message ∷ [] }) uses _ refl rest h
    by false rest = has_as c x x uses _ refl rest h

first_rolled : (c : ℕ) (before after : List Channel) (uses : List ChannelUse) → IsFirstBanded c uses
    → IsFirstBanded c (with_rolled_back before after uses)
first_rolled c before after [] h = h
first_rolled c before after (x ∷ uses) h = by (loses_channel x.channel before after) (λ k. first_rolled c before after uses k)
  where
    by : (b : Bool) → (IsFirstBanded c uses → IsFirstBanded c (with_rolled_back before after uses)) → IsFirstBanded c ((if b then record x { rolled_back = true } else x) ∷ with_rolled_back before after uses)
    by true rest = first_as c x (record x { rolled_back = true }) uses _ refl refl rest h
    by false rest = first_as c x x uses _ refl refl rest h

first_written : {E : Type 0} → (c channel : ℕ) (binary : Bool) (bytes : List ℕ) (outcome : Outcome E) (uses : List ChannelUse) → IsFirstBanded c uses
    → IsFirstBanded c (uses_written channel binary bytes outcome uses)
first_written c channel binary bytes (Wrote true) uses h = first_sent c channel (binary, bytes) uses h
first_written c channel binary bytes (Wrote false) uses h = h
first_written c channel binary bytes outcome uses h = h

-- ---- polls, and steps

module _ {I D S M E X T W N : Type 0} (m : Meanings I D S M E X T W N) (c : ℕ) where
  told_first : (event : Event E) (q : PolledPeer I D S M N) (uses : List ChannelUse) → IsFirstBanded c uses → IsFirstBanded c (uses_told m event q uses)
  told_first (ChannelOpen id label) q uses h = first_more c uses _ h
  told_first (ChannelData message) q uses h = first_got c message.id (message.binary, message.bytes) uses h
  told_first event q uses h = h

  shown_first : (shown : Shown E) (q : PolledPeer I D S M N) (uses : List ChannelUse) → IsFirstBanded c uses → IsFirstBanded c (uses_shown m shown q uses)
  shown_first (shows.Event event) q uses h = told_first event q uses h
  shown_first (shows.Timeout moment reason) q uses h = h
  shown_first (shows.Packet number len) q uses h = h

  poll_first : (outputs : List (Shown E)) (q : PolledPeer I D S M N) (uses : List ChannelUse) → IsFirstBanded c uses
      → IsFirstBanded c (by_poll m (uses_shown m) outputs q uses)
  poll_first [] q uses h = h
  poll_first (shown ∷ []) q uses h = shown_first shown q uses h
  poll_first (shown ∷ next ∷ outputs) q uses h = h

  polls_first : (at : Side) (p : PolledPeer I D S M N) (packets : List SentPacket) (outputs : List (Shown E)) (end : PollEnd) (q : PolledPeer I D S M N)
      (packets' : List SentPacket) (d : DrainsOn m at p packets outputs end q packets') (uses : List ChannelUse) → IsFirstBanded c uses
      → IsFirstBanded c (by_polls m (uses_shown m) at p packets outputs end q packets' d uses)
  polls_first at p packets [] end q packets' d uses h = h
  polls_first at p packets (shows.Timeout moment reason ∷ outputs) end q packets' d uses h = h
  polls_first at p packets (shows.Packet number len ∷ outputs) end q packets' d uses h =
      polls_first at d.0 d.1 outputs end q packets' d.3 uses h
  polls_first at p packets (shows.Event event ∷ outputs) end q packets' d uses h =
      polls_first at d.0 d.1 outputs end q packets' d.3 (uses_told m event d.0 uses) (told_first event d.0 uses h)

  drain_first : (at : Side) (p : PolledPeer I D S M N) (packets : List SentPacket) (outputs : List (Shown E)) (end : PollEnd) (q : PolledPeer I D S M N)
      (packets' : List SentPacket) (d : DrainsPeer m at p packets outputs end q packets') (uses : List ChannelUse) → IsFirstBanded c uses
      → IsFirstBanded c (by_drain m (uses_shown m) at p packets outputs end q packets' d uses)
  drain_first at p packets [] end q packets' d uses h = h
  drain_first at p packets (shown ∷ outputs) end q packets' d uses h = polls_first at p packets (shown ∷ outputs) end q packets' d uses h

  poll_step_first : (outcome : Outcome E) (q : PolledPeer I D S M N) (uses : List ChannelUse) → IsFirstBanded c uses
      → IsFirstBanded c (by_poll_step m (uses_shown m) outcome q uses)
  poll_step_first (Polled outputs end) q uses h = poll_first outputs q uses h
  poll_step_first outcome q uses h = h

  drain_step_first : (at : Side) (old : PolledPeer I D S M N) (packets : List SentPacket) (outcome : Outcome E) (table : Option Table)
      (new : PolledPeer I D S M N) (packets' : List SentPacket) (d : StepPollsPeer m (DrainsPeer m at old) old packets outcome table new packets')
      (uses : List ChannelUse) → IsFirstBanded c uses
      → IsFirstBanded c (by_drain_step m (uses_shown m) at old packets outcome table new packets' d uses)
  drain_step_first at old packets (Polled outputs end) (Some table) new packets' d uses h =
      drain_first at old packets outputs end new packets' d.0 uses h
  drain_step_first at old packets outcome table new packets' d uses h = h

  pub acted_first : (stun : List ℕ → Bool) (other own : Addr) (step : Step) (old : PolledPeer I D S M N) (sdps : List Kept) (packets : List SentPacket)
      (outcome : Outcome E) (table : Option Table) (new : PolledPeer I D S M N) (sdps' : List Kept) (packets' : List SentPacket)
      (h : Acts m stun other own step old sdps packets outcome table new sdps' packets') (uses : List ChannelUse) → IsFirstBanded c uses
      → IsFirstBanded c (uses_acted m stun other own step old sdps packets outcome table new sdps' packets' h uses)
  acted_first stun other own (Poll at) old sdps packets outcome table new sdps' packets' h uses k = poll_step_first outcome new uses k
  acted_first stun other own (Drain at) old sdps packets outcome table new sdps' packets' h uses k =
      drain_step_first at old packets outcome table new packets' h.0 uses k
  acted_first stun other own (Write at channel binary bytes) old sdps packets outcome table new sdps' packets' h uses k =
      first_written c channel binary bytes outcome uses k
  acted_first stun other own (Rollback at token) old sdps packets outcome table new sdps' packets' h uses k =
      first_rolled c old.core.channels.rows new.core.channels.rows uses k
  acted_first stun other own step old sdps packets outcome table new sdps' packets' h uses k = k
