-- What the entries of a past tell of the channels of the left peer, whatever the peers were: which were announced, and what was sent and got.
use Rattle.std.proofs.Common.{◌≡◌, ◌∙◌, ◌++◌, ◌==◌, if◌then◌else◌, ℕ, Bool, true, false, List, [], ◌∷◌, map, Option, Some, None, refl, sym, ap}
use Rattle.rtc_wire.specs.DatagramRecv.{kind_by}
use Rattle.rtc_wire.specs.declared.addr.Addr.{Addr}
use Rattle.rtc_channels.specs.Channels.{Channel}
use Rattle.rtc_plain_ice.specs.Messages.{is_ice_message}
use Rattle.rtc_plain_media.specs.declared.plain_media_event.PlainMediaEvent.{PlainMediaEvent}
use Rattle.rtc_peer_transport.specs.ChannelCalls.{open_stream_under}
use Rattle.rtc_peer_transport.specs.Closing.{ClosesPeer}
use Rattle.rtc_peer_transport.specs.declared.input.Input.TheVariants as given
use Rattle.rtc_peer_polling.specs.Inputs.{HandlesInput}
use Rattle.rtc_peer_transport.specs.declared.event.Event.{Event}
use Rattle.rtc_peer_transport.specs.declared.event.Event.TheVariants as events
use Rattle.rtc_run_history.specs.Past.{Entry}
use Rattle.rtc_run_history.specs.PairState.{addr_at, held_token, kept_remote_sdp, remote_packet, rtc_at}
use Rattle.rtc_run_history.specs.Performs.{Acts, DrainsOn, DrainsPeer, HandlesRead, PollsOnce, StepPollsPeer, raw_datagram}
use Rattle.rtc_run_history.specs.Runs.{Reached}
use Rattle.rtc_run_history.specs.Sides.{other_side, same_side, side_of}
use Rattle.rtc_run_history.specs.Signalled.{foreign}
use Rattle.rtc_run_history.specs.declared.kept.Kept.{Kept}
use Rattle.rtc_run_history.specs.declared.outcome.Outcome.{Outcome}
use Rattle.rtc_run_history.specs.declared.outcome.Outcome.TheVariants.{Wrote, Polled, Alloc}
use Rattle.rtc_run_history.specs.declared.poll_end.PollEnd.{PollEnd}
use Rattle.rtc_run_history.specs.declared.sent_packet.SentPacket.{SentPacket}
use Rattle.rtc_run_history.specs.declared.shown.Shown.{Shown}
use Rattle.rtc_run_history.specs.declared.shown.Shown.TheVariants as shows
use Rattle.rtc_run_history.specs.declared.side.Side.{Side}
use Rattle.rtc_run_history.specs.declared.side.Side.TheVariants.{Left}
use Rattle.rtc_run_history.specs.declared.step.Step.{Step}
use Rattle.rtc_run_history.specs.declared.step.Step.TheVariants.{Negotiate, AcceptOffer, AcceptAnswer, Time, Datagram, Poll, Drain}
use Rattle.rtc_run_history.specs.declared.step.Step.TheVariants.{Write, CloseChannel, Close, Rollback, ForeignOffer, ForeignAnswer, Raw}
use Rattle.rtc_run_history.specs.declared.table.Table.{Table}
use Rattle.rtc_run_laws.specs.ChannelUses.{ChannelUse, announced_use, loses_channel, uses_shown, uses_told, with_got_message, with_rolled_back, with_sent_message}
use Rattle.rtc_run_laws.specs.PlainPairs.{PlainPolled}
use Rattle.rtc_run_laws.specs.PollsOfRuns.{by_drain_step, by_poll_step, by_polls}
use Rattle.rtc_run_laws.specs.UsesOfRuns.{uses_acted, uses_of, uses_written}
use Rattle.rtc_run.specs.ProgramPair.{PlainPairState, plain_parts}
use Rattle.rtc_room_laws.specs.Hearing.{outcome_outputs}
use Rattle.rtc_room_laws.specs.ItemMessages.{LineMessage}
use Rattle.rtc_room_laws.proofs.UntoldOutcomes.{answer_untold, calls_untold, closes_untold, negotiates_untold, offer_untold, rollback_untold, takes_untold}

-- a use by its channel and its messages alone
abbrev pub blank : ChannelUse → ChannelUse
blank x = record { channel = x.channel; stream = None; generation = 0; in_band = false; negotiated = false; sent = x.sent; got = x.got; rolled_back = false }

abbrev pub blanks : List ChannelUse → List ChannelUse
blanks uses = map blank uses

-- a channel that was just announced
abbrev pub blank_new : ℕ → ChannelUse
blank_new id = record { channel = id; stream = None; generation = 0; in_band = false; negotiated = false; sent = []; got = []; rolled_back = false }

-- ---- by entries alone

abbrev pub talk_event : Event PlainMediaEvent → List ChannelUse → List ChannelUse
talk_event (events.ChannelOpen id label) talks = talks ++ blank_new id ∷ []
talk_event (events.ChannelData message) talks = with_got_message message.id (message.binary, message.bytes) talks
talk_event event talks = talks

abbrev pub talk_shown : Shown PlainMediaEvent → List ChannelUse → List ChannelUse
talk_shown (shows.Event event) talks = talk_event event talks
talk_shown (shows.Timeout moment reason) talks = talks
talk_shown (shows.Packet number len) talks = talks

abbrev pub talks_behind : List (Shown PlainMediaEvent) → List ChannelUse → List ChannelUse
talks_behind [] talks = talks
talks_behind (shown ∷ outputs) talks = talks_behind outputs (talk_shown shown talks)

abbrev pub talks_acted : Step → Outcome PlainMediaEvent → List ChannelUse → List ChannelUse
talks_acted (Write at channel binary bytes) outcome talks = uses_written channel binary bytes outcome talks
talks_acted step outcome talks = talks_behind (outcome_outputs outcome) talks

abbrev pub talks_entered : Entry PlainMediaEvent → List ChannelUse → List ChannelUse
talks_entered entry talks = if same_side (side_of entry.step) Left then talks_acted entry.step entry.outcome talks else talks

-- behind what was performed, newest first
abbrev pub talks_on : List (Entry PlainMediaEvent) → List ChannelUse → List ChannelUse
talks_on [] talks = talks
talks_on (entry ∷ performed) talks = talks_entered entry (talks_on performed talks)

-- ---- they are those of the peers

blank_if : (b : Bool) (x y : ChannelUse) → blank x ≡ blank y → blank (if b then x else y) ≡ blank y
blank_if true x y same = same
blank_if false x y same = refl

branch : (b : Bool) (x y : ChannelUse) → blank (if b then x else y) ≡ (if b then blank x else blank y)
branch true x y = refl
branch false x y = refl

blanks_sent : (c : ℕ) (message : LineMessage) (uses : List ChannelUse) → blanks (with_sent_message c message uses) ≡ with_sent_message c message (blanks uses)
blanks_sent c message [] = refl
blanks_sent c message (x ∷ uses) =
    ap (λ (y : ChannelUse). y ∷ blanks (with_sent_message c message uses)) (branch (x.channel == c) (record x { sent = x.sent ++ message ∷ [] }) x)
    ∙ ap (λ (l : List ChannelUse). (if x.channel == c then blank (record x { sent = x.sent ++ message ∷ [] }) else blank x) ∷ l) (blanks_sent c message uses)

blanks_got : (c : ℕ) (message : LineMessage) (uses : List ChannelUse) → blanks (with_got_message c message uses) ≡ with_got_message c message (blanks uses)
blanks_got c message [] = refl
blanks_got c message (x ∷ uses) =
    ap (λ (y : ChannelUse). y ∷ blanks (with_got_message c message uses)) (branch (x.channel == c) (record x { got = x.got ++ message ∷ [] }) x)
    ∙ ap (λ (l : List ChannelUse). (if x.channel == c then blank (record x { got = x.got ++ message ∷ [] }) else blank x) ∷ l) (blanks_got c message uses)

blanks_rolled : (before after : List Channel) (uses : List ChannelUse) → blanks (with_rolled_back before after uses) ≡ blanks uses
blanks_rolled before after [] = refl
blanks_rolled before after (x ∷ uses) =
    ap (λ (y : ChannelUse). y ∷ blanks (with_rolled_back before after uses)) (blank_if (loses_channel x.channel before after) (record x { rolled_back = true }) x refl)
    ∙ ap (λ (l : List ChannelUse). blank x ∷ l) (blanks_rolled before after uses)

blanks_more : (uses : List ChannelUse) (x : ChannelUse) → blanks (uses ++ x ∷ []) ≡ blanks uses ++ blank x ∷ []
blanks_more [] x = refl
blanks_more (y ∷ uses) x = ap (λ (l : List ChannelUse). blank y ∷ l) (blanks_more uses x)

blanks_told : (event : Event PlainMediaEvent) (q : PlainPolled ℕ) (uses : List ChannelUse)
    → blanks (uses_told plain_parts event q uses) ≡ talk_event event (blanks uses)
blanks_told (events.ChannelOpen id label) q uses = blanks_more uses (announced_use plain_parts id q)
blanks_told (events.ChannelData message) q uses = blanks_got message.id (message.binary, message.bytes) uses
blanks_told event q uses = refl

blanks_shown : (shown : Shown PlainMediaEvent) (q : PlainPolled ℕ) (uses : List ChannelUse)
    → blanks (uses_shown plain_parts shown q uses) ≡ talk_shown shown (blanks uses)
blanks_shown (shows.Event event) q uses = blanks_told event q uses
blanks_shown (shows.Timeout moment reason) q uses = refl
blanks_shown (shows.Packet number len) q uses = refl

blanks_poll : (at : Side) (old : PlainPolled ℕ) (packets : List SentPacket) (outcome : Outcome PlainMediaEvent) (table : Option Table) (new : PlainPolled ℕ)
    (packets' : List SentPacket) (uses : List ChannelUse) → StepPollsPeer plain_parts (PollsOnce plain_parts at old) old packets outcome table new packets'
    → blanks (by_poll_step plain_parts (uses_shown plain_parts) outcome new uses) ≡ talks_behind (outcome_outputs outcome) (blanks uses)
blanks_poll at old packets Alloc None new packets' uses h = refl
blanks_poll at old packets (Polled [] end) (Some table) new packets' uses h = refl
blanks_poll at old packets (Polled (shown ∷ []) end) (Some table) new packets' uses h = blanks_shown shown new uses
blanks_poll at old packets (Polled (shown ∷ more ∷ outputs) end) (Some table) new packets' uses h = absurd h.0
blanks_poll at old packets outcome table new packets' uses h = absurd h

blanks_polls : (at : Side) (p : PlainPolled ℕ) (packets : List SentPacket) (outputs : List (Shown PlainMediaEvent)) (end : PollEnd) (q : PlainPolled ℕ)
    (packets' : List SentPacket) (d : DrainsOn plain_parts at p packets outputs end q packets') (uses : List ChannelUse)
    → blanks (by_polls plain_parts (uses_shown plain_parts) at p packets outputs end q packets' d uses) ≡ talks_behind outputs (blanks uses)
blanks_polls at p packets [] end q packets' d uses = refl
blanks_polls at p packets (shows.Timeout moment reason ∷ []) end q packets' d uses = refl
blanks_polls at p packets (shows.Timeout moment reason ∷ shown ∷ outputs) end q packets' d uses = absurd d
blanks_polls at p packets (shows.Packet number len ∷ outputs) end q packets' d uses = blanks_polls at d.0 d.1 outputs end q packets' d.3 uses
blanks_polls at p packets (shows.Event event ∷ outputs) end q packets' d uses =
    blanks_polls at d.0 d.1 outputs end q packets' d.3 (uses_told plain_parts event d.0 uses)
    ∙ ap (talks_behind outputs) (blanks_told event d.0 uses)

blanks_drain : (at : Side) (old : PlainPolled ℕ) (packets : List SentPacket) (outcome : Outcome PlainMediaEvent) (table : Option Table) (new : PlainPolled ℕ)
    (packets' : List SentPacket) (uses : List ChannelUse) (h : StepPollsPeer plain_parts (DrainsPeer plain_parts at old) old packets outcome table new packets')
    → blanks (by_drain_step plain_parts (uses_shown plain_parts) at old packets outcome table new packets' h uses)
    ≡ talks_behind (outcome_outputs outcome) (blanks uses)
blanks_drain at old packets Alloc None new packets' uses h = refl
blanks_drain at old packets (Polled [] end) (Some table) new packets' uses h = refl
blanks_drain at old packets (Polled (shown ∷ outputs) end) (Some table) new packets' uses h =
    blanks_polls at old packets (shown ∷ outputs) end new packets' h.0 uses
blanks_drain at old packets outcome table new packets' uses h = absurd h

blanks_written : (channel : ℕ) (binary : Bool) (bytes : List ℕ) (outcome : Outcome PlainMediaEvent) (uses : List ChannelUse)
    → blanks (uses_written channel binary bytes outcome uses) ≡ uses_written channel binary bytes outcome (blanks uses)
blanks_written channel binary bytes (Wrote true) uses = blanks_sent channel (binary, bytes) uses
blanks_written channel binary bytes (Wrote false) uses = refl
blanks_written channel binary bytes outcome uses = refl

untold : (outcome : Outcome PlainMediaEvent) (talks : List ChannelUse) → outcome_outputs outcome ≡ [] → talks ≡ talks_behind (outcome_outputs outcome) talks
untold outcome talks none = ap (λ (l : List (Shown PlainMediaEvent)). talks_behind l talks) (sym none)

blanks_acted : (other own : Addr) (step : Step) (old : PlainPolled ℕ) (sdps : List Kept) (packets : List SentPacket) (outcome : Outcome PlainMediaEvent)
    (table : Option Table) (new : PlainPolled ℕ) (sdps' : List Kept) (packets' : List SentPacket) (uses : List ChannelUse)
    (h : Acts plain_parts is_ice_message other own step old sdps packets outcome table new sdps' packets')
    → blanks (uses_acted plain_parts is_ice_message other own step old sdps packets outcome table new sdps' packets' h uses)
    ≡ talks_acted step outcome (blanks uses)
blanks_acted other own (Negotiate at ops apply) old sdps packets outcome table new sdps' packets' uses h =
    untold outcome (blanks uses) (negotiates_untold at ops apply old.core sdps outcome table new.core sdps' h.0)
blanks_acted other own (AcceptOffer at offer) old sdps packets outcome table new sdps' packets' uses h =
    untold outcome (blanks uses) (offer_untold at (kept_remote_sdp true sdps at offer) old.core sdps outcome table new.core sdps' h.0)
blanks_acted other own (AcceptAnswer at token answer) old sdps packets outcome table new sdps' packets' uses h =
    untold outcome (blanks uses)
    (answer_untold token (held_token sdps at token) (kept_remote_sdp false sdps at answer) old.core sdps outcome table new.core sdps' h.0)
blanks_acted other own (Time at now) old sdps packets outcome table new sdps' packets' uses h =
    untold outcome (blanks uses) (calls_untold (HandlesInput plain_parts (given.Timeout now)) old outcome table new h.0)
blanks_acted other own (Datagram at packet now) old sdps packets outcome table new sdps' packets' uses h =
    untold outcome (blanks uses) (takes_untold (remote_packet packets at packet) now old outcome table new h.0)
blanks_acted other own (Poll at) old sdps packets outcome table new sdps' packets' uses h =
    blanks_poll at old packets outcome table new packets' uses h.0
blanks_acted other own (Drain at) old sdps packets outcome table new sdps' packets' uses h =
    blanks_drain at old packets outcome table new packets' uses h.0
blanks_acted other own (Write at channel binary bytes) old sdps packets outcome table new sdps' packets' uses h =
    blanks_written channel binary bytes outcome uses
blanks_acted other own (CloseChannel at channel) old sdps packets outcome table new sdps' packets' uses h =
    untold outcome (blanks uses) (closes_untold (open_stream_under channel old) channel old outcome table new h.0)
blanks_acted other own (Close at) old sdps packets outcome table new sdps' packets' uses h =
    untold outcome (blanks uses) (calls_untold (ClosesPeer plain_parts) old outcome table new h.0)
blanks_acted other own (Rollback at token) old sdps packets outcome table new sdps' packets' uses h =
    blanks_rolled old.core.channels.rows new.core.channels.rows uses
    ∙ untold outcome (blanks uses) (rollback_untold token (held_token sdps at token) old.core sdps outcome table new.core sdps' h.0)
blanks_acted other own (ForeignOffer at text) old sdps packets outcome table new sdps' packets' uses h =
    untold outcome (blanks uses) (offer_untold at (foreign text) old.core sdps outcome table new.core sdps' h.0)
blanks_acted other own (ForeignAnswer at token text) old sdps packets outcome table new sdps' packets' uses h =
    untold outcome (blanks uses) (answer_untold token (held_token sdps at token) (foreign text) old.core sdps outcome table new.core sdps' h.0)
blanks_acted other own (Raw at bytes now) old sdps packets outcome table new sdps' packets' uses h =
    untold outcome (blanks uses) (calls_untold (HandlesRead plain_parts (kind_by is_ice_message bytes) (raw_datagram other own bytes) now) old outcome table new h.0)

-- the uses of the left peer in a run are those of its entries
pub blanks_of : (start : PlainPairState) (past : List (Entry PlainMediaEvent)) (pair : PlainPairState) (ran : Reached plain_parts is_ice_message start past pair)
    → blanks (uses_of plain_parts is_ice_message start Left past pair ran) ≡ talks_on past []
blanks_of start [] pair ran = refl
blanks_of start (entry ∷ past) pair ran = by (same_side (side_of entry.step) Left) (blanks_of start past ran.0 ran.1)
  where
    before : List ChannelUse
    before = uses_of plain_parts is_ice_message start Left past ran.0 ran.1

    acted : List ChannelUse
    acted =
        uses_acted plain_parts is_ice_message (addr_at (other_side (side_of entry.step)) ran.0) (addr_at (side_of entry.step) ran.0) entry.step
        (rtc_at (side_of entry.step) ran.0) ran.0.sdps ran.0.packets entry.outcome entry.table
        (rtc_at (side_of entry.step) pair) pair.sdps pair.packets ran.2.performs.acts before

    by : (b : Bool) → blanks before ≡ talks_on past [] → blanks (if b then acted else before) ≡ (if b then talks_acted entry.step entry.outcome (talks_on past []) else talks_on past [])
    by true earlier =
        blanks_acted (addr_at (other_side (side_of entry.step)) ran.0) (addr_at (side_of entry.step) ran.0) entry.step (rtc_at (side_of entry.step) ran.0) ran.0.sdps ran.0.packets
        entry.outcome entry.table (rtc_at (side_of entry.step) pair) pair.sdps pair.packets before ran.2.performs.acts
        ∙ ap (talks_acted entry.step entry.outcome) earlier
    by false earlier = earlier
