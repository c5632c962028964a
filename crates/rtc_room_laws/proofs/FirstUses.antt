-- The first channel of a number among those that a peer announced, before a step and after it.
use Rattle.std.proofs.Common.{◌≡◌, ◌∙◌, ◌⊎◌, inl, inr, ◌==◌, ◌++◌, if◌then◌else◌, ℕ, Bool, true, false, true≢false, List, [], ◌∷◌, map, Option, Some, None, refl, sym, ap, subst}
use Rattle.rtc_wire.specs.declared.addr.Addr.{Addr}
use Rattle.rtc_parts.specs.Among.{Member}
use Rattle.rtc_plain_ice.specs.Messages.{is_ice_message}
use Rattle.rtc_plain_media.specs.declared.plain_media_event.PlainMediaEvent.{PlainMediaEvent}
use Rattle.rtc_channels.specs.Channels.{Channel}
use Rattle.rtc_peer_transport.specs.declared.event.Event.{Event}
use Rattle.rtc_peer_transport.specs.declared.event.Event.TheVariants as events
use Rattle.rtc_run_history.specs.Performs.{Acts, DrainsOn, DrainsPeer, StepPollsPeer}
use Rattle.rtc_run_history.specs.declared.kept.Kept.{Kept}
use Rattle.rtc_run_history.specs.declared.outcome.Outcome.{Outcome}
use Rattle.rtc_run_history.specs.declared.outcome.Outcome.TheVariants.{Wrote, Polled}
use Rattle.rtc_run_history.specs.declared.poll_end.PollEnd.{PollEnd}
use Rattle.rtc_run_history.specs.declared.sent_packet.SentPacket.{SentPacket}
use Rattle.rtc_run_history.specs.declared.shown.Shown.{Shown}
use Rattle.rtc_run_history.specs.declared.shown.Shown.TheVariants as shows
use Rattle.rtc_run_history.specs.declared.side.Side.{Side}
use Rattle.rtc_run_history.specs.declared.step.Step.{Step}
use Rattle.rtc_run_history.specs.declared.step.Step.TheVariants.{Negotiate, AcceptOffer, AcceptAnswer, Time, Datagram, Poll, Drain}
use Rattle.rtc_run_history.specs.declared.step.Step.TheVariants.{Write, CloseChannel, Close, Rollback, ForeignOffer, ForeignAnswer, Raw}
use Rattle.rtc_run_history.specs.declared.table.Table.{Table}
use Rattle.rtc_run_laws.specs.ChannelUses.{ChannelUse, announced_use, loses_channel, uses_shown, uses_told, with_got_message, with_rolled_back, with_sent_message}
use Rattle.rtc_run_laws.specs.PlainPairs.{PlainPolled}
use Rattle.rtc_run_laws.specs.PollsOfRuns.{by_drain_step, by_poll_step, by_polls}
use Rattle.rtc_run_laws.specs.UsesOfRuns.{uses_acted, uses_written}
use Rattle.rtc_run.specs.ProgramPair.{plain_parts}
use Rattle.rtc_room_laws.specs.RoomHandsOn.{first_use}
use Rattle.rtc_room_laws.specs.ItemMessages.{LineMessage}
use Rattle.rtc_room_laws.proofs.Talks.{blank, blanks}

-- ---- the first use of a channel, among those of the peers

none_some : {A : Type 0} (x : A) → None ≡ Some x → ⊥
none_some x h = cc

use_is : (x y : ChannelUse) → Some x ≡ Some y → x ≡ y
use_is x y h = cc

-- it is one of them
pub first_member : (c : ℕ) (uses : List ChannelUse) (x : ChannelUse) → first_use c uses ≡ Some x → Member x uses
first_member c [] x h = absurd (none_some x h)
first_member c (y ∷ uses) x h = by (y.channel == c) h (λ k. first_member c uses x k)
  where
    by : (b : Bool) → (if b then Some y else first_use c uses) ≡ Some x → (first_use c uses ≡ Some x → Member x uses) → Member x (y ∷ uses)
    by true k rest = inl (sym (use_is y x k))
    by false k rest = inr (rest k)

-- and the first of those without their marks
pub first_blank : (c : ℕ) (uses : List ChannelUse) (x : ChannelUse) → first_use c uses ≡ Some x → first_use c (blanks uses) ≡ Some (blank x)
first_blank c [] x h = absurd (none_some x h)
first_blank c (y ∷ uses) x h = by (y.channel == c) h (λ k. first_blank c uses x k)
  where
    by : (b : Bool) → (if b then Some y else first_use c uses) ≡ Some x → (first_use c uses ≡ Some x → first_use c (blanks uses) ≡ Some (blank x))
        → (if b then Some (blank y) else first_use c (blanks uses)) ≡ Some (blank x)
    by true k rest = ap (λ (z : ChannelUse). Some (blank z)) (use_is y x k)
    by false k rest = rest k

-- which there is only where it is there
pub first_found : (c : ℕ) (uses : List ChannelUse) (z : ChannelUse) → first_use c (blanks uses) ≡ Some z → (x : ChannelUse) × (first_use c uses ≡ Some x)
first_found c [] z h = absurd (none_some z h)
first_found c (y ∷ uses) z h = by (y.channel == c) h (λ k. first_found c uses z k)
  where
    by : (b : Bool) → (if b then Some (blank y) else first_use c (blanks uses)) ≡ Some z
        → (first_use c (blanks uses) ≡ Some z → (x : ChannelUse) × (first_use c uses ≡ Some x))
        → (x : ChannelUse) × ((if b then Some y else first_use c uses) ≡ Some x)
    by true k rest = (y, refl)
    by false k rest = rest k

-- ---- where the first use after a step is from

-- the same stream and generation
pub record SameEnd (x y : ChannelUse) : Type 0 where
  pub channel_is : y.channel ≡ x.channel
  pub band_is : y.in_band ≡ x.in_band
  pub stream_is : y.stream ≡ x.stream
  pub generation_is : y.generation ≡ x.generation

-- the first use was there before, or it was not rolled back
pub record WasFirst (rolls : Bool) (c : ℕ) (uses : List ChannelUse) (y : ChannelUse) : Type 0 where
  pub x : ChannelUse
  pub is_first : first_use c uses ≡ Some x
  pub same : SameEnd x y
  pub rolled : rolls ≡ false → y.rolled_back ≡ x.rolled_back

abbrev pub FirstFrom : (rolls : Bool) (c : ℕ) (uses : List ChannelUse) (y : ChannelUse) → Type 0
FirstFrom rolls c uses y = (y.rolled_back ≡ false) ⊎ WasFirst rolls c uses y

same_end : (x : ChannelUse) → SameEnd x x
same_end x = record { channel_is = refl; band_is = refl; stream_is = refl; generation_is = refl }

pub stays_first : (rolls : Bool) (c : ℕ) (uses : List ChannelUse) (y : ChannelUse) → first_use c uses ≡ Some y → FirstFrom rolls c uses y
stays_first rolls c uses y h = inr (record { x = y; is_first = h; same = same_end y; rolled = λ e. refl })

-- a change of each use that keeps its end
module _ (rolls : Bool) (f : ChannelUse → ChannelUse) (same : (x : ChannelUse) → SameEnd x (f x))
    (rolled : rolls ≡ false → (x : ChannelUse) → (f x).rolled_back ≡ x.rolled_back) where
  changed_first : (c : ℕ) (uses : List ChannelUse) (y : ChannelUse) → first_use c (map f uses) ≡ Some y → WasFirst rolls c uses y
  changed_first c [] y h = absurd (none_some y h)
  changed_first c (x ∷ uses) y h =
      by (x.channel == c) refl (sym (ap (λ (n : ℕ). if n == c then Some (f x) else first_use c (map f uses)) (same x).channel_is) ∙ h)
      (λ k. changed_first c uses y k)
    where
      by : (b : Bool) → (x.channel == c) ≡ b → (if b then Some (f x) else first_use c (map f uses)) ≡ Some y
          → (first_use c (map f uses) ≡ Some y → WasFirst rolls c uses y) → WasFirst rolls c (x ∷ uses) y
      by true e k rest =
          let is : f x ≡ y = use_is (f x) y k in
          record {
            x = x;
            is_first = ap (λ (b : Bool). if b then Some x else first_use c uses) e;
            same = subst (λ (z : ChannelUse). SameEnd x z) is (same x);
            rolled = λ none. sym (ap (λ (z : ChannelUse). z.rolled_back) is) ∙ rolled none x;
          }
      by false e k rest =
          let was = rest k in
          record {
            x = was.x;
            is_first = ap (λ (b : Bool). if b then Some x else first_use c uses) e ∙ was.is_first;
            same = was.same;
            rolled = was.rolled;
          }

-- one message more is sent or got, or a rollback removes channels
abbrev pub sending : ℕ → LineMessage → ChannelUse → ChannelUse
sending d message x = if x.channel == d then record x { sent = x.sent ++ message ∷ [] } else x

abbrev pub getting : ℕ → LineMessage → ChannelUse → ChannelUse
getting d message x = if x.channel == d then record x { got = x.got ++ message ∷ [] } else x

abbrev pub losing : (before after : List Channel) → ChannelUse → ChannelUse
losing before after x = if loses_channel x.channel before after then record x { rolled_back = true } else x

sent_map : (d : ℕ) (message : LineMessage) (uses : List ChannelUse) → with_sent_message d message uses ≡ map (sending d message) uses
sent_map d message [] = refl
sent_map d message (x ∷ uses) = ap (λ (l : List ChannelUse). sending d message x ∷ l) (sent_map d message uses)

got_map : (d : ℕ) (message : LineMessage) (uses : List ChannelUse) → with_got_message d message uses ≡ map (getting d message) uses
got_map d message [] = refl
got_map d message (x ∷ uses) = ap (λ (l : List ChannelUse). getting d message x ∷ l) (got_map d message uses)

lost_map : (before after : List Channel) (uses : List ChannelUse) → with_rolled_back before after uses ≡ map (losing before after) uses
lost_map before after [] = refl
lost_map before after (x ∷ uses) = ap (λ (l : List ChannelUse). losing before after x ∷ l) (lost_map before after uses)

end_if : (b : Bool) (x y : ChannelUse) → SameEnd x y → SameEnd x (if b then y else x)
end_if true x y h = h
end_if false x y h = same_end x

rolled_if : (b : Bool) (x y : ChannelUse) → y.rolled_back ≡ x.rolled_back → (if b then y else x).rolled_back ≡ x.rolled_back
rolled_if true x y h = h
rolled_if false x y h = refl

sent_first : (rolls : Bool) (c d : ℕ) (message : LineMessage) (uses : List ChannelUse) (y : ChannelUse) → first_use c (with_sent_message d message uses) ≡ Some y
    → FirstFrom rolls c uses y
sent_first rolls c d message uses y h =
    inr
    (changed_first rolls (sending d message)
    (λ x. end_if (x.channel == d) x (record x { sent = x.sent ++ message ∷ [] }) (record { channel_is = refl; band_is = refl; stream_is = refl; generation_is = refl }))
    (λ none x. rolled_if (x.channel == d) x (record x { sent = x.sent ++ message ∷ [] }) refl) c uses y
    (sym (ap (first_use c) (sent_map d message uses)) ∙ h))

got_first : (rolls : Bool) (c d : ℕ) (message : LineMessage) (uses : List ChannelUse) (y : ChannelUse) → first_use c (with_got_message d message uses) ≡ Some y
    → WasFirst rolls c uses y
got_first rolls c d message uses y h =
    changed_first rolls (getting d message)
    (λ x. end_if (x.channel == d) x (record x { got = x.got ++ message ∷ [] }) (record { channel_is = refl; band_is = refl; stream_is = refl; generation_is = refl }))
    (λ none x. rolled_if (x.channel == d) x (record x { got = x.got ++ message ∷ [] }) refl) c uses y
    (sym (ap (first_use c) (got_map d message uses)) ∙ h)

lost_first : (c : ℕ) (before after : List Channel) (uses : List ChannelUse) (y : ChannelUse) → first_use c (with_rolled_back before after uses) ≡ Some y
    → FirstFrom true c uses y
lost_first c before after uses y h =
    inr
    (changed_first true (losing before after)
    (λ x. end_if (loses_channel x.channel before after) x (record x { rolled_back = true }) (record { channel_is = refl; band_is = refl; stream_is = refl; generation_is = refl }))
    (λ none. absurd (true≢false none)) c uses y (sym (ap (first_use c) (lost_map before after uses)) ∙ h))

more_first : (rolls : Bool) (c : ℕ) (uses : List ChannelUse) (z y : ChannelUse) → z.rolled_back ≡ false → first_use c (uses ++ z ∷ []) ≡ Some y
    → FirstFrom rolls c uses y
more_first rolls c [] z y fresh h = by (z.channel == c) h
  where
    by : (b : Bool) → (if b then Some z else None) ≡ Some y → FirstFrom rolls c [] y
    by true k = inl (sym (ap (λ (x : ChannelUse). x.rolled_back) (use_is z y k)) ∙ fresh)
    by false k = absurd (none_some y k)
more_first rolls c (x ∷ uses) z y fresh h = by (x.channel == c) refl h (λ k. more_first rolls c uses z y fresh k)
  where
    later : (x.channel == c) ≡ false → FirstFrom rolls c uses y → FirstFrom rolls c (x ∷ uses) y
    later e (inl none) = inl none
    later e (inr was) = inr (record {
      x = was.x;
      is_first = ap (λ (b : Bool). if b then Some x else first_use c uses) e ∙ was.is_first;
      same = was.same;
      rolled = was.rolled;
    })

    by : (b : Bool) → (x.channel == c) ≡ b → (if b then Some x else first_use c (uses ++ z ∷ [])) ≡ Some y
        → (first_use c (uses ++ z ∷ []) ≡ Some y → FirstFrom rolls c uses y) → FirstFrom rolls c (x ∷ uses) y
    by true e k rest = stays_first rolls c (x ∷ uses) y (ap (λ (b : Bool). if b then Some x else first_use c uses) e ∙ k)
    by false e k rest = later e (rest k)

-- one step after another
through : (rolls : Bool) (c : ℕ) (uses between : List ChannelUse) (y : ChannelUse) → FirstFrom rolls c between y
    → ((x : ChannelUse) → first_use c between ≡ Some x → FirstFrom rolls c uses x) → rolls ≡ false → FirstFrom rolls c uses y
through rolls c uses between y (inl none) earlier quiet = inl none
through rolls c uses between y (inr was) earlier quiet = by (earlier was.x was.is_first)
  where
    by : FirstFrom rolls c uses was.x → FirstFrom rolls c uses y
    by (inl none) = inl (was.rolled quiet ∙ none)
    by (inr first) = inr (record {
      x = first.x;
      is_first = first.is_first;
      same = record {
        channel_is = was.same.channel_is ∙ first.same.channel_is;
        band_is = was.same.band_is ∙ first.same.band_is;
        stream_is = was.same.stream_is ∙ first.same.stream_is;
        generation_is = was.same.generation_is ∙ first.same.generation_is;
      };
      rolled = λ e. was.rolled e ∙ first.rolled e;
    })

-- ---- events and polls

told_first : (c : ℕ) (event : Event PlainMediaEvent) (q : PlainPolled ℕ) (uses : List ChannelUse) (y : ChannelUse)
    → first_use c (uses_told plain_parts event q uses) ≡ Some y → FirstFrom false c uses y
told_first c (events.ChannelOpen id label) q uses y h = more_first false c uses (announced_use plain_parts id q) y refl h
told_first c (events.ChannelData message) q uses y h = inr (got_first false c message.id (message.binary, message.bytes) uses y h)
told_first c event q uses y h = stays_first false c uses y h

shown_first : (c : ℕ) (shown : Shown PlainMediaEvent) (q : PlainPolled ℕ) (uses : List ChannelUse) (y : ChannelUse)
    → first_use c (uses_shown plain_parts shown q uses) ≡ Some y → FirstFrom false c uses y
shown_first c (shows.Event event) q uses y h = told_first c event q uses y h
shown_first c (shows.Timeout moment reason) q uses y h = stays_first false c uses y h
shown_first c (shows.Packet number len) q uses y h = stays_first false c uses y h

poll_first : (c : ℕ) (outcome : Outcome PlainMediaEvent) (q : PlainPolled ℕ) (uses : List ChannelUse) (y : ChannelUse)
    → first_use c (by_poll_step plain_parts (uses_shown plain_parts) outcome q uses) ≡ Some y → FirstFrom false c uses y
poll_first c (Polled [] end) q uses y h = stays_first false c uses y h
poll_first c (Polled (shown ∷ []) end) q uses y h = shown_first c shown q uses y h
poll_first c (Polled (shown ∷ more ∷ outputs) end) q uses y h = stays_first false c uses y h
poll_first c outcome q uses y h = stays_first false c uses y h

polls_first : (c : ℕ) (at : Side) (p : PlainPolled ℕ) (packets : List SentPacket) (outputs : List (Shown PlainMediaEvent)) (end : PollEnd) (q : PlainPolled ℕ)
    (packets' : List SentPacket) (d : DrainsOn plain_parts at p packets outputs end q packets') (uses : List ChannelUse) (y : ChannelUse)
    → first_use c (by_polls plain_parts (uses_shown plain_parts) at p packets outputs end q packets' d uses) ≡ Some y → FirstFrom false c uses y
polls_first c at p packets [] end q packets' d uses y h = stays_first false c uses y h
polls_first c at p packets (shows.Timeout moment reason ∷ outputs) end q packets' d uses y h = stays_first false c uses y h
polls_first c at p packets (shows.Packet number len ∷ outputs) end q packets' d uses y h =
    polls_first c at d.0 d.1 outputs end q packets' d.3 uses y h
polls_first c at p packets (shows.Event event ∷ outputs) end q packets' d uses y h =
    through false c uses (uses_told plain_parts event d.0 uses) y
    (polls_first c at d.0 d.1 outputs end q packets' d.3 (uses_told plain_parts event d.0 uses) y h)
    (λ x k. told_first c event d.0 uses x k) refl

drain_first : (c : ℕ) (at : Side) (old : PlainPolled ℕ) (packets : List SentPacket) (outcome : Outcome PlainMediaEvent) (table : Option Table) (new : PlainPolled ℕ)
    (packets' : List SentPacket) (d : StepPollsPeer plain_parts (DrainsPeer plain_parts at old) old packets outcome table new packets') (uses : List ChannelUse)
    (y : ChannelUse) → first_use c (by_drain_step plain_parts (uses_shown plain_parts) at old packets outcome table new packets' d uses) ≡ Some y
    → FirstFrom false c uses y
drain_first c at old packets (Polled [] end) (Some table) new packets' d uses y h = stays_first false c uses y h
drain_first c at old packets (Polled (shown ∷ outputs) end) (Some table) new packets' d uses y h =
    polls_first c at old packets (shown ∷ outputs) end new packets' d.0 uses y h
drain_first c at old packets (Polled outputs end) None new packets' d uses y h = stays_first false c uses y h
drain_first c at old packets outcome table new packets' d uses y h = stays_first false c uses y h

-- ---- steps

abbrev pub rolls_back : Step → Bool
rolls_back (Rollback at token) = true
rolls_back step = false

written_first : (c channel : ℕ) (binary : Bool) (bytes : List ℕ) (outcome : Outcome PlainMediaEvent) (uses : List ChannelUse) (y : ChannelUse)
    → first_use c (uses_written channel binary bytes outcome uses) ≡ Some y → FirstFrom false c uses y
written_first c channel binary bytes (Wrote true) uses y h = sent_first false c channel (binary, bytes) uses y h
written_first c channel binary bytes (Wrote false) uses y h = stays_first false c uses y h
written_first c channel binary bytes outcome uses y h = stays_first false c uses y h

pub acted_first : (c : ℕ) (other own : Addr) (step : Step) (old : PlainPolled ℕ) (sdps : List Kept) (packets : List SentPacket) (outcome : Outcome PlainMediaEvent)
    (table : Option Table) (new : PlainPolled ℕ) (sdps' : List Kept) (packets' : List SentPacket)
    (a : Acts plain_parts is_ice_message other own step old sdps packets outcome table new sdps' packets') (uses : List ChannelUse) (y : ChannelUse)
    → first_use c (uses_acted plain_parts is_ice_message other own step old sdps packets outcome table new sdps' packets' a uses) ≡ Some y
    → FirstFrom (rolls_back step) c uses y
acted_first c other own (Negotiate at ops apply) old sdps packets outcome table new sdps' packets' a uses y h = stays_first false c uses y h
acted_first c other own (AcceptOffer at offer) old sdps packets outcome table new sdps' packets' a uses y h = stays_first false c uses y h
acted_first c other own (AcceptAnswer at token answer) old sdps packets outcome table new sdps' packets' a uses y h = stays_first false c uses y h
acted_first c other own (Time at now) old sdps packets outcome table new sdps' packets' a uses y h = stays_first false c uses y h
acted_first c other own (Datagram at packet now) old sdps packets outcome table new sdps' packets' a uses y h = stays_first false c uses y h
acted_first c other own (Poll at) old sdps packets outcome table new sdps' packets' a uses y h = poll_first c outcome new uses y h
acted_first c other own (Drain at) old sdps packets outcome table new sdps' packets' a uses y h =
    drain_first c at old packets outcome table new packets' a.0 uses y h
acted_first c other own (Write at channel binary bytes) old sdps packets outcome table new sdps' packets' a uses y h =
    written_first c channel binary bytes outcome uses y h
acted_first c other own (CloseChannel at channel) old sdps packets outcome table new sdps' packets' a uses y h = stays_first false c uses y h
acted_first c other own (Close at) old sdps packets outcome table new sdps' packets' a uses y h = stays_first false c uses y h
acted_first c other own (Rollback at token) old sdps packets outcome table new sdps' packets' a uses y h =
    lost_first c old.core.channels.rows new.core.channels.rows uses y h
acted_first c other own (ForeignOffer at text) old sdps packets outcome table new sdps' packets' a uses y h = stays_first false c uses y h
acted_first c other own (ForeignAnswer at token text) old sdps packets outcome table new sdps' packets' a uses y h = stays_first false c uses y h
acted_first c other own (Raw at bytes now) old sdps packets outcome table new sdps' packets' a uses y h = stays_first false c uses y h
