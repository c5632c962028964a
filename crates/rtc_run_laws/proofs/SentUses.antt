-- A message is sent to a generation of a stream only over a channel that was announced.
use Rattle.std.proofs.Common.{◌≡◌, ◌∙◌, ◌⊎◌, ◌<◌, ◌-◌, ◌^◌, ◌==◌, ◌&&◌, ◌||◌, ◌++◌, ◌∷◌, if◌then◌else◌, ℕ, Bool, true, false, true≢false, List, [], Option, Some, None, Ok, inl, inr, refl, sym, ap, subst, arith}
use Rattle.std.proofs.lemmas.Bool.{eqb-true}
use Rattle.rtc_wire.specs.declared.addr.Addr.{Addr}
use Rattle.rtc_assoc_state.specs.Contents.{generation_of}
use Rattle.rtc_assoc_state.specs.PlainMeaning.{plain_meaning}
use Rattle.rtc_parts.specs.Draws.{Draws}
use Rattle.rtc_plain_media.specs.declared.plain_media_event.PlainMediaEvent.{PlainMediaEvent}
use Rattle.rtc_sctp_entries.specs.declared.stream_entry.StreamEntry.{StreamEntry}
use Rattle.rtc_sctp_entries.specs.declared.stream_entry_state.StreamEntryState.{StreamEntryState}
use Rattle.rtc_sctp_entries.specs.declared.stream_entry_state.StreamEntryState.TheVariants.{AwaitOpen, AwaitConfig, AwaitDcepAck, Open, Closed as EntryClosed}
use Rattle.rtc_sctp_entries.specs.Entries.{has_open, is_open_state}
use Rattle.rtc_sctp.specs.Streams.{is_established}
use Rattle.rtc_sctp_laws.specs.StreamMessages.{StreamMessage}
use Rattle.rtc_sctp_laws.specs.StreamUses.{EntryUsed, HasOpenInBand, IsLiveIn, NoneUsed, OneAtMost, entries_of}
use Rattle.rtc_peer_core.specs.declared.phase.Phase.TheVariants.{Closed}
use Rattle.rtc_peer_transport.specs.ChannelCalls.{WritesChannel, open_stream_under}
use Rattle.rtc_peer_transport.specs.declared.event.Event.{Event}
use Rattle.rtc_peer_transport.specs.declared.event.Event.TheVariants.{ChannelOpen, ChannelData}
use Rattle.rtc_peer_laws.specs.ChannelStreams.{AreNumbersGiven}
use Rattle.rtc_peer_laws.proofs.KeptPeers.{channel_writes_own}
use Rattle.rtc_run_history.specs.CallReplies.{StepWrites}
use Rattle.rtc_run_history.specs.Performs.{Acts, DrainsOn, DrainsPeer, StepPollsPeer}
use Rattle.rtc_run_history.specs.declared.kept.Kept.{Kept}
use Rattle.rtc_run_history.specs.declared.outcome.Outcome.{Outcome}
use Rattle.rtc_run_history.specs.declared.outcome.Outcome.TheVariants.{Polled, Wrote, Refused, NoSuch, Alloc}
use Rattle.rtc_run_history.specs.declared.poll_end.PollEnd.{PollEnd}
use Rattle.rtc_run_history.specs.declared.sent_packet.SentPacket.{SentPacket}
use Rattle.rtc_run_history.specs.declared.shown.Shown.{Shown}
use Rattle.rtc_run_history.specs.declared.shown.Shown.TheVariants as shows
use Rattle.rtc_run_history.specs.declared.side.Side.{Side}
use Rattle.rtc_run_history.specs.declared.step.Step.{Step}
use Rattle.rtc_run_history.specs.declared.step.Step.TheVariants.{Poll, Drain, Write, Rollback}
use Rattle.rtc_run_history.specs.declared.table.Table.{Table}
use Rattle.rtc_run_laws.specs.ChannelUses.{ChannelUse, announced_use, uses_shown, uses_told, with_rolled_back}
use Rattle.rtc_run_laws.specs.PlainPairs.{PlainPolled, plain_over}
use Rattle.rtc_run_laws.specs.PollsOfRuns.{by_drain_step, by_poll_step, by_polls}
use Rattle.rtc_run_laws.specs.SentMessages.{sent_acted, sent_by_write}
use Rattle.rtc_run_laws.specs.UsesOfRuns.{uses_acted, uses_written}
use Rattle.rtc_run_laws.proofs.AnnouncedStreams.{AnnouncedUnlessClosed, HasUseOver, found, open_one, over_got, over_rolled, over_sent}
use Rattle.rtc_run_laws.proofs.OpenStreams.{open_free, open_open}
use Rattle.rtc_run_laws.proofs.SidesTold.{SideTold}
use Rattle.rtc_run_laws.proofs.StandingEntries.{AreBanded}
use Rattle.rtc_run_laws.proofs.UsesTold.{UsedUnlessClosed}

-- ---- the entry of a stream that is open

record OpenEntry (s : ℕ) (es : List StreamEntry) : Type 0 where
  own : Option ℕ
  has : HasOpenInBand s own es

second_true : (a b : Bool) → (a && b) ≡ true → b ≡ true
second_true true b h = h
second_true false b h = absurd (true≢false (sym h))

is_open_entry : (st : StreamEntryState) → is_open_state st ≡ true → st ≡ Open
is_open_entry Open h = refl
is_open_entry AwaitOpen h = absurd (true≢false (sym h))
is_open_entry AwaitConfig h = absurd (true≢false (sym h))
is_open_entry AwaitDcepAck h = absurd (true≢false (sym h))
is_open_entry EntryClosed h = absurd (true≢false (sym h))

open_entry_of : (s : ℕ) (es : List StreamEntry) → AreBanded s es → has_open s es ≡ true → OpenEntry s es
open_entry_of s [] band h = absurd (true≢false (sym h))
open_entry_of s (e ∷ es) band h = by (e.id == s) refl (is_open_state e.state) refl h (λ k. open_entry_of s es band.1 k)
  where
    later : OpenEntry s es → OpenEntry s (e ∷ es)
    later k = record { own = k.own; has = inr k.has }

    by : (c : Bool) → (e.id == s) ≡ c → (d : Bool) → is_open_state e.state ≡ d → ((c && d) || has_open s es) ≡ true
        → (has_open s es ≡ true → OpenEntry s es) → OpenEntry s (e ∷ es)
    by true f true g k rest = record { own = e.generation; has = inl (eqb-true e.id s f, (is_open_entry e.state g, refl, band.0 (eqb-true e.id s f))) }
    by true f false g k rest = later (rest k)
    by false f d g k rest = later (rest k)

-- ---- announced channels stay announced

over_more : (s : ℕ) (own : Option ℕ) (x : ChannelUse) (uses : List ChannelUse) → HasUseOver s own uses → HasUseOver s own (uses ++ x ∷ [])
over_more s own x [] h = absurd h
over_more s own x (y ∷ uses) (inl h) = inl h
over_more s own x (y ∷ uses) (inr h) = inr (over_more s own x uses h)

module _ {N : Type 0} (draws : Draws N) (s : ℕ) (own : Option ℕ) where
  over_told : (event : Event PlainMediaEvent) (q : PlainPolled N) (uses : List ChannelUse) → HasUseOver s own uses
      → HasUseOver s own (uses_told (plain_over draws) event q uses)
  over_told (ChannelOpen id label) q uses h = over_more s own (announced_use (plain_over draws) id q) uses h
  over_told (ChannelData message) q uses h = over_got s own message.id (message.binary, message.bytes) uses h
  over_told event q uses h = h

  over_shown : (shown : Shown PlainMediaEvent) (q : PlainPolled N) (uses : List ChannelUse) → HasUseOver s own uses
      → HasUseOver s own (uses_shown (plain_over draws) shown q uses)
  over_shown (shows.Event event) q uses h = over_told event q uses h
  over_shown (shows.Timeout moment reason) q uses h = h
  over_shown (shows.Packet number len) q uses h = h

  over_poll : (outcome : Outcome PlainMediaEvent) (q : PlainPolled N) (uses : List ChannelUse) → HasUseOver s own uses
      → HasUseOver s own (by_poll_step (plain_over draws) (uses_shown (plain_over draws)) outcome q uses)
  over_poll (Polled [] end) q uses h = h
  over_poll (Polled (shown ∷ []) end) q uses h = over_shown shown q uses h
  over_poll (Polled (shown ∷ more ∷ outputs) end) q uses h = h
  over_poll outcome q uses h = h

  over_polls : (at : Side) (p : PlainPolled N) (packets : List SentPacket) (outputs : List (Shown PlainMediaEvent)) (end : PollEnd) (q : PlainPolled N)
      (packets' : List SentPacket) (d : DrainsOn (plain_over draws) at p packets outputs end q packets') (uses : List ChannelUse) → HasUseOver s own uses
      → HasUseOver s own (by_polls (plain_over draws) (uses_shown (plain_over draws)) at p packets outputs end q packets' d uses)
  over_polls at p packets [] end q packets' d uses h = h
  over_polls at p packets (shows.Timeout moment reason ∷ outputs) end q packets' d uses h = h
  over_polls at p packets (shows.Packet number len ∷ outputs) end q packets' d uses h =
      over_polls at d.0 d.1 outputs end q packets' d.3 uses h
  over_polls at p packets (shows.Event event ∷ outputs) end q packets' d uses h =
      over_polls at d.0 d.1 outputs end q packets' d.3 (uses_told (plain_over draws) event d.0 uses) (over_told event d.0 uses h)

  over_drain : (at : Side) (old : PlainPolled N) (packets : List SentPacket) (outcome : Outcome PlainMediaEvent) (table : Option Table) (new : PlainPolled N)
      (packets' : List SentPacket) (d : StepPollsPeer (plain_over draws) (DrainsPeer (plain_over draws) at old) old packets outcome table new packets')
      (uses : List ChannelUse) → HasUseOver s own uses
      → HasUseOver s own (by_drain_step (plain_over draws) (uses_shown (plain_over draws)) at old packets outcome table new packets' d uses)
  over_drain at old packets (Polled [] end) (Some table) new packets' d uses h = h
  over_drain at old packets (Polled (shown ∷ outputs) end) (Some table) new packets' d uses h =
      over_polls at old packets (shown ∷ outputs) end new packets' d.0 uses h
  over_drain at old packets (Polled outputs end) None new packets' d uses h = h
  over_drain at old packets outcome table new packets' d uses h = h

-- ---- writes

module _ {N : Type 0} (draws : Draws N) where
  -- the channel of a stream that is open was announced in the generation that the stream has, where a write to it is taken
  goes_over : (p next : PlainPolled N) (channel t : ℕ) (binary : Bool) (bytes : List ℕ) (uses : List ChannelUse) (written read : List StreamMessage)
      → SideTold (plain_over draws) uses written read p → AreBanded t p.core.sctp.entries → p.core.channels.given < 2 ^ 64 - 1
      → open_stream_under channel p ≡ Some t → WritesChannel (plain_over draws) t binary bytes p (Ok true) next
      → HasUseOver t (Some (generation_of p.core.sctp.association t)) uses
  goes_over p next channel t binary bytes uses written read told band left there writes = by_used told.used
    where
      opened : OpenEntry t p.core.sctp.entries
      opened =
          open_entry_of t p.core.sctp.entries band
          (second_true (is_established p.core.sctp.state) (has_open t p.core.sctp.entries) (open_open channel t p there))

      by_over : HasUseOver t opened.own uses → OneAtMost (NoneUsed plain_meaning t p.core.sctp.association written read) (EntryUsed plain_meaning t p.core.sctp.association written read) (entries_of t p.core.sctp.entries) → HasUseOver t (Some (generation_of p.core.sctp.association t)) uses
      by_over over used =
          let one =
          open_one t opened.own p.core.sctp.entries (NoneUsed plain_meaning t p.core.sctp.association written read)
          (EntryUsed plain_meaning t p.core.sctp.association written read) opened.has used in
          let use_found = found t opened.own uses over in
          let own : generation_of p.core.sctp.association t ≡ use_found.use_over.generation =
          channel_writes_own (plain_over draws) t binary bytes p next use_found.use_over.generation writes
          (subst (λ (l : List StreamEntry). OneAtMost ⊥ (IsLiveIn use_found.use_over.generation) l) (sym one.only)
          (one.opened.0, one.opened.1 ∙ use_found.is_over.2)) in
          subst (λ (o : Option ℕ). HasUseOver t o uses) (use_found.is_over.2 ∙ ap (λ (n : ℕ). Some n) (sym own)) over

      by_announced : OneAtMost (NoneUsed plain_meaning t p.core.sctp.association written read) (EntryUsed plain_meaning t p.core.sctp.association written read) (entries_of t p.core.sctp.entries)
          → HasUseOver t opened.own uses ⊎ AreNumbersGiven p.core.channels → HasUseOver t (Some (generation_of p.core.sctp.association t)) uses
      by_announced used (inl over) = by_over over used
      by_announced used (inr full) = absurd (omega (arith, left, full))

      by_told : OneAtMost (NoneUsed plain_meaning t p.core.sctp.association written read) (EntryUsed plain_meaning t p.core.sctp.association written read) (entries_of t p.core.sctp.entries)
          → AnnouncedUnlessClosed (plain_over draws) uses p → HasUseOver t (Some (generation_of p.core.sctp.association t)) uses
      by_told used (inl closed) = absurd (open_free channel t p there closed)
      by_told used (inr announced) = by_announced used (announced t opened.own opened.has)

      by_used : UsedUnlessClosed (plain_over draws) written read p → HasUseOver t (Some (generation_of p.core.sctp.association t)) uses
      by_used (inl closed) = absurd (open_free channel t p there closed)
      by_used (inr used) = by_told (used t).used told.announced

  -- ---- what was sent to a generation, over a channel that was announced

  abbrev pub IsSentOver : (s g : ℕ) → List (Bool × List ℕ) → List ChannelUse → Type 0
  IsSentOver s g sent uses = (sent ≡ []) ⊎ HasUseOver s (Some g) uses

  over_next : (s g : ℕ) (sent : List (Bool × List ℕ)) (uses uses' : List ChannelUse) → (HasUseOver s (Some g) uses → HasUseOver s (Some g) uses')
      → IsSentOver s g sent uses → IsSentOver s g sent uses'
  over_next s g sent uses uses' more (inl none) = inl none
  over_next s g sent uses uses' more (inr over) = inr (more over)

  -- a write that was taken
  taken : (s g t channel : ℕ) (binary : Bool) (bytes : List ℕ) (old : PlainPolled N) (sent : List (Bool × List ℕ)) (uses : List ChannelUse)
      → HasUseOver t (Some (generation_of old.core.sctp.association t)) uses → IsSentOver s g sent uses
      → IsSentOver s g (sent_by_write (plain_over draws) (Some t) binary bytes (Wrote true) old s g sent) (uses_written {E = PlainMediaEvent} channel binary bytes (Wrote true) uses)
  taken s g t channel binary bytes old sent uses over h = by (t == s) refl (generation_of old.core.sctp.association t == g) refl
    where
      by : (a : Bool) → (t == s) ≡ a → (b : Bool) → (generation_of old.core.sctp.association t == g) ≡ b
          → IsSentOver s g (if a && b then sent ++ (binary, bytes) ∷ [] else sent) (uses_written {E = PlainMediaEvent} channel binary bytes (Wrote true) uses)
      by true e true f =
          inr
          (over_sent s (Some g) channel (binary, bytes) uses
          (subst (λ (n : ℕ). HasUseOver s (Some n) uses) (eqb-true (generation_of old.core.sctp.association t) g f)
          (subst (λ (n : ℕ). HasUseOver n (Some (generation_of old.core.sctp.association t)) uses) (eqb-true t s e) over)))
      by true e false f =
          over_next s g sent uses (uses_written {E = PlainMediaEvent} channel binary bytes (Wrote true) uses)
          (λ k. over_sent s (Some g) channel (binary, bytes) uses k) h
      by false e b f =
          over_next s g sent uses (uses_written {E = PlainMediaEvent} channel binary bytes (Wrote true) uses)
          (λ k. over_sent s (Some g) channel (binary, bytes) uses k) h

  module _ (written read : List StreamMessage) (uses : List ChannelUse) (old : PlainPolled N) (told : SideTold (plain_over draws) uses written read old)
      (banded : (t : ℕ) → (old.core.phase ≡ Closed) ⊎ AreBanded t old.core.sctp.entries) (left : old.core.channels.given < 2 ^ 64 - 1) (s g : ℕ)
      (sent : List (Bool × List ℕ)) (h : IsSentOver s g sent uses) where
    entries_banded : (channel t : ℕ) → open_stream_under channel old ≡ Some t → (old.core.phase ≡ Closed) ⊎ AreBanded t old.core.sctp.entries
        → AreBanded t old.core.sctp.entries
    entries_banded channel t there (inl closed) = absurd (open_free channel t old there closed)
    entries_banded channel t there (inr band) = band

    after_write : (channel : ℕ) (stream : Option ℕ) (binary : Bool) (bytes : List ℕ) (outcome : Outcome PlainMediaEvent) (table : Option Table)
        (new : PlainPolled N) → open_stream_under channel old ≡ stream → StepWrites (plain_over draws) stream binary bytes old outcome table new
        → IsSentOver s g (sent_by_write (plain_over draws) stream binary bytes outcome old s g sent) (uses_written channel binary bytes outcome uses)
    after_write channel None binary bytes Alloc None new there w = h
    after_write channel None binary bytes NoSuch (Some table) new there w = h
    after_write channel None binary bytes outcome table new there w = absurd w
    after_write channel (Some t) binary bytes Alloc None new there w = h
    after_write channel (Some t) binary bytes (Wrote true) (Some table) new there w =
        taken s g t channel binary bytes old sent uses
        (goes_over old new channel t binary bytes uses written read told (entries_banded channel t there (banded t)) left there w.0) h
    after_write channel (Some t) binary bytes (Wrote false) (Some table) new there w = h
    after_write channel (Some t) binary bytes (Refused error) (Some table) new there w = h
    after_write channel (Some t) binary bytes outcome table new there w = absurd w

    -- each step
    pub after_step : (stun : List ℕ → Bool) (other own : Addr) (step : Step) (sdps : List Kept) (packets : List SentPacket)
        (outcome : Outcome PlainMediaEvent) (table : Option Table) (new : PlainPolled N) (sdps' : List Kept) (packets' : List SentPacket)
        (acts : Acts (plain_over draws) stun other own step old sdps packets outcome table new sdps' packets')
        → IsSentOver s g (sent_acted (plain_over draws) step outcome old s g sent)
        (uses_acted (plain_over draws) stun other own step old sdps packets outcome table new sdps' packets' acts uses)
    after_step stun other own (Poll at) sdps packets outcome table new sdps' packets' acts =
        over_next s g sent uses _ (over_poll draws s (Some g) outcome new uses) h
    after_step stun other own (Drain at) sdps packets outcome table new sdps' packets' acts =
        over_next s g sent uses _ (over_drain draws s (Some g) at old packets outcome table new packets' acts.0 uses) h
    after_step stun other own (Write at channel binary bytes) sdps packets outcome table new sdps' packets' acts =
        after_write channel (open_stream_under channel old) binary bytes outcome table new refl acts.0
    after_step stun other own (Rollback at token) sdps packets outcome table new sdps' packets' acts =
        over_next s g sent uses (with_rolled_back old.core.channels.rows new.core.channels.rows uses)
        (λ k. over_rolled s (Some g) old.core.channels.rows new.core.channels.rows uses k) h
    after_step stun other own step sdps packets outcome table new sdps' packets' acts = h
