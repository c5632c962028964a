-- The channel of a member's line was opened in-band.
use Rattle.std.proofs.Common.{◌≡◌, ◌∙◌, ◌⊎◌, inl, inr, ◌==◌, ◌&&◌, not, if◌then◌else◌, ℕ, Bool, true, false, true≢false, List, [], ◌∷◌, Option, Some, None, refl, sym, ap, subst}
use Rattle.std.specs.Prelude.{is_some}
use Rattle.std.proofs.lemmas.Bool.{eqb-true, eqb-false}
use Rattle.rtc_wire.specs.declared.addr.Addr.{Addr}
use Rattle.rtc_wire.specs.DatagramRecv.{kind_by}
use Rattle.rtc_wire.specs.declared.channel_config.ChannelConfig.{ChannelConfig}
use Rattle.rtc_plain_ice.specs.Messages.{is_ice_message}
use Rattle.rtc_plain_media.specs.declared.plain_media_event.PlainMediaEvent.{PlainMediaEvent}
use Rattle.rtc_peer_transport.specs.ChannelCalls.{config_under, open_stream_under, stream_under}
use Rattle.rtc_peer_transport.specs.Closing.{ClosesPeer}
use Rattle.rtc_peer_transport.specs.declared.event.Event.TheVariants.{ChannelOpen}
use Rattle.rtc_peer_transport.specs.declared.input.Input.TheVariants as given
use Rattle.rtc_peer_polling.specs.Inputs.{HandlesInput}
use Rattle.rtc_run_history.specs.Native.{are_native}
use Rattle.rtc_run_history.specs.PairState.{addr_at, held_token, kept_remote_sdp, remote_packet, rtc_at}
use Rattle.rtc_run_history.specs.Past.{Entry, steps_of}
use Rattle.rtc_run_history.specs.Performs.{Acts, HandlesRead, raw_datagram}
use Rattle.rtc_run_history.specs.Runs.{EntersSoundly, Went}
use Rattle.rtc_run_history.specs.Sides.{other_side, same_side, side_of}
use Rattle.rtc_run_history.specs.Signalled.{foreign}
use Rattle.rtc_run_history.specs.declared.kept.Kept.{Kept}
use Rattle.rtc_run_history.specs.declared.outcome.Outcome.{Outcome}
use Rattle.rtc_run_history.specs.declared.outcome.Outcome.TheVariants.{Polled}
use Rattle.rtc_run_history.specs.declared.sent_packet.SentPacket.{SentPacket}
use Rattle.rtc_run_history.specs.declared.shown.Shown.{Shown}
use Rattle.rtc_run_history.specs.declared.shown.Shown.TheVariants as shows
use Rattle.rtc_run_history.specs.declared.side.Side.TheVariants.{Left}
use Rattle.rtc_run_history.specs.declared.step.Step.{Step}
use Rattle.rtc_run_history.specs.declared.step.Step.TheVariants.{Negotiate, AcceptOffer, AcceptAnswer, Time, Datagram, Poll, Drain}
use Rattle.rtc_run_history.specs.declared.step.Step.TheVariants.{Write, CloseChannel, Close, Rollback, ForeignOffer, ForeignAnswer, Raw}
use Rattle.rtc_run_history.specs.declared.table.Table.{Table}
use Rattle.rtc_run_laws.specs.ChannelUses.{ChannelUse}
use Rattle.rtc_run_laws.specs.NewPairs.{IsNewPair}
use Rattle.rtc_run_laws.specs.PlainPairs.{PlainPolled}
use Rattle.rtc_run_laws.specs.UsesOfRuns.{reached_by, uses_of}
use Rattle.rtc_run_laws.proofs.AnnouncedBands.{AnnouncesIn, IsBandConfig, OutcomeAnnounces, ShowsOpen}
use Rattle.rtc_run_laws.proofs.FirstBands.{IsFirstBanded}
use Rattle.rtc_run_laws.proofs.NativeSteps.{native_entry}
use Rattle.rtc_run_laws.proofs.OutRuns.{AreLasting, IsPollStep, entry_first, entry_stays}
use Rattle.rtc_run.specs.ProgramPair.{PlainPairState, counting, plain_parts}
use Rattle.rtc_room_laws.specs.Hearing.{can_be_line, is_line_config, is_reliable, line_behind, line_opened, line_shown, outcome_outputs}
use Rattle.rtc_room_laws.specs.RoomHandsOn.{first_use}
use Rattle.rtc_room_laws.specs.RoomRuns.{line_along}
use Rattle.rtc_room_laws.proofs.UntoldOutcomes.{answer_untold, calls_untold, closes_untold, negotiates_untold, offer_untold, rollback_untold, takes_untold, writes_untold}

none_some : (c : ℕ) → None ≡ Some c → ⊥
none_some c h = cc

some_is : (a b : ℕ) → Some a ≡ Some b → a ≡ b
some_is a b h = cc

use_is : (x y : ChannelUse) → Some x ≡ Some y → x ≡ y
use_is x y h = cc

-- ---- a channel that can be a line

last_and : (a b c : Bool) → (a && (b && c)) ≡ true → c ≡ true
last_and true true c h = h
last_and true false c h = absurd (true≢false (sym h))
last_and false b c h = absurd (true≢false (sym h))

not_true : (b : Bool) → not b ≡ true → b ≡ false
not_true true h = absurd (true≢false (sym h))
not_true false h = refl

-- its config is in-band
fits_band : (o : Option ChannelConfig) → is_line_config o ≡ true → IsBandConfig o
fits_band None h = absurd (true≢false (sym h))
fits_band (Some config) h = record {
  config = config;
  config_is = refl;
  band = not_true (is_some config.negotiated) (last_and config.ordered (is_reliable config.reliability) (not (is_some config.negotiated)) h);
}

-- ---- outputs by which a line is found

abbrev Found : (c : ℕ) → PlainPolled ℕ → Option ℕ → Type 0 → Type 0
Found c p line announced = (line ≡ Some c) ⊎ (announced × (can_be_line p c ≡ true))

opened_found : (c id : ℕ) (p : PlainPolled ℕ) (line : Option ℕ) → line_opened (can_be_line p id) id line ≡ Some c → Found c p line (id ≡ c)
opened_found c id p (Some l) h = inl h
opened_found c id p None h = by (can_be_line p id) refl h
  where
    by : (b : Bool) → can_be_line p id ≡ b → (if b then Some id else None) ≡ Some c → Found c p None (id ≡ c)
    by true fits k = let same : id ≡ c = some_is id c k in inr (same, subst (λ (n : ℕ). can_be_line p n ≡ true) same fits)
    by false fits k = absurd (none_some c k)

shown_found : (c : ℕ) (shown : Shown PlainMediaEvent) (p : PlainPolled ℕ) (line : Option ℕ) → line_shown shown p line ≡ Some c
    → Found c p line (ShowsOpen c shown)
shown_found c (shows.Event (ChannelOpen id label)) p line h = opened_found c id p line h
shown_found c (shows.Event event) p line h = inl h
shown_found c (shows.Timeout moment reason) p line h = inl h
shown_found c (shows.Packet number len) p line h = inl h

outputs_found : (c : ℕ) (outputs : List (Shown PlainMediaEvent)) (p : PlainPolled ℕ) (line : Option ℕ) → line_behind p line outputs ≡ Some c
    → Found c p line (AnnouncesIn c outputs)
outputs_found c [] p line h = inl h
outputs_found c (shown ∷ outputs) p line h = by (outputs_found c outputs p (line_shown shown p line) h)
  where
    first : Found c p line (ShowsOpen c shown) → Found c p line (AnnouncesIn c (shown ∷ outputs))
    first (inl same) = inl same
    first (inr found) = inr (inl found.0, found.1)

    by : Found c p (line_shown shown p line) (AnnouncesIn c outputs) → Found c p line (AnnouncesIn c (shown ∷ outputs))
    by (inl same) = first (shown_found c shown p line same)
    by (inr found) = inr (inr found.0, found.1)

-- ---- only steps that poll announce

outcome_announces : (c : ℕ) (outcome : Outcome PlainMediaEvent) → AnnouncesIn c (outcome_outputs outcome) → OutcomeAnnounces c outcome
outcome_announces c (Polled outputs end) h = h
outcome_announces c outcome h = absurd h

none_told : (c : ℕ) (outputs : List (Shown PlainMediaEvent)) → outputs ≡ [] → AnnouncesIn c outputs → ⊥
none_told c outputs none h = subst (λ (l : List (Shown PlainMediaEvent)). AnnouncesIn c l) none h

announcing_polls : (c : ℕ) (other own : Addr) (step : Step) (old : PlainPolled ℕ) (sdps : List Kept) (packets : List SentPacket)
    (outcome : Outcome PlainMediaEvent) (table : Option Table) (new : PlainPolled ℕ) (sdps' : List Kept) (packets' : List SentPacket)
    → Acts plain_parts is_ice_message other own step old sdps packets outcome table new sdps' packets' → AnnouncesIn c (outcome_outputs outcome)
    → IsPollStep step
announcing_polls c other own (Poll at) old sdps packets outcome table new sdps' packets' h told = tt
announcing_polls c other own (Drain at) old sdps packets outcome table new sdps' packets' h told = tt
announcing_polls c other own (Negotiate at ops apply) old sdps packets outcome table new sdps' packets' h told =
    absurd (none_told c (outcome_outputs outcome) (negotiates_untold at ops apply old.core sdps outcome table new.core sdps' h.0) told)
announcing_polls c other own (AcceptOffer at offer) old sdps packets outcome table new sdps' packets' h told =
    absurd (none_told c (outcome_outputs outcome) (offer_untold at (kept_remote_sdp true sdps at offer) old.core sdps outcome table new.core sdps' h.0) told)
announcing_polls c other own (AcceptAnswer at token answer) old sdps packets outcome table new sdps' packets' h told =
    absurd
    (none_told c (outcome_outputs outcome)
    (answer_untold token (held_token sdps at token) (kept_remote_sdp false sdps at answer) old.core sdps outcome table new.core sdps' h.0) told)
announcing_polls c other own (Time at now) old sdps packets outcome table new sdps' packets' h told =
    absurd (none_told c (outcome_outputs outcome) (calls_untold (HandlesInput plain_parts (given.Timeout now)) old outcome table new h.0) told)
announcing_polls c other own (Datagram at packet now) old sdps packets outcome table new sdps' packets' h told =
    absurd (none_told c (outcome_outputs outcome) (takes_untold (remote_packet packets at packet) now old outcome table new h.0) told)
announcing_polls c other own (Write at channel binary bytes) old sdps packets outcome table new sdps' packets' h told =
    absurd (none_told c (outcome_outputs outcome) (writes_untold (open_stream_under channel old) binary bytes old outcome table new h.0) told)
announcing_polls c other own (CloseChannel at channel) old sdps packets outcome table new sdps' packets' h told =
    absurd (none_told c (outcome_outputs outcome) (closes_untold (open_stream_under channel old) channel old outcome table new h.0) told)
announcing_polls c other own (Close at) old sdps packets outcome table new sdps' packets' h told =
    absurd (none_told c (outcome_outputs outcome) (calls_untold (ClosesPeer plain_parts) old outcome table new h.0) told)
announcing_polls c other own (Rollback at token) old sdps packets outcome table new sdps' packets' h told =
    absurd (none_told c (outcome_outputs outcome) (rollback_untold token (held_token sdps at token) old.core sdps outcome table new.core sdps' h.0) told)
announcing_polls c other own (ForeignOffer at text) old sdps packets outcome table new sdps' packets' h told =
    absurd (none_told c (outcome_outputs outcome) (offer_untold at (foreign text) old.core sdps outcome table new.core sdps' h.0) told)
announcing_polls c other own (ForeignAnswer at token text) old sdps packets outcome table new sdps' packets' h told =
    absurd
    (none_told c (outcome_outputs outcome) (answer_untold token (held_token sdps at token) (foreign text) old.core sdps outcome table new.core sdps' h.0) told)
announcing_polls c other own (Raw at bytes now) old sdps packets outcome table new sdps' packets' h told =
    absurd
    (none_told c (outcome_outputs outcome)
    (calls_untold (HandlesRead plain_parts (kind_by is_ice_message bytes) (raw_datagram other own bytes) now) old outcome table new h.0) told)

-- ---- lines

-- the first channel of a number, if that was opened in-band
first_of : (c : ℕ) (uses : List ChannelUse) (x : ChannelUse) → IsFirstBanded c uses → first_use c uses ≡ Some x → x.in_band ≡ true
first_of c [] x h k = absurd h
first_of c (y ∷ uses) x h k = by (y.channel == c) refl h k (λ rest f. first_of c uses x rest f)
  where
    own : (y.channel == c) ≡ true → ((y.channel ≡ c) × (y.in_band ≡ true)) ⊎ ((y.channel ≡ c → ⊥) × IsFirstBanded c uses) → y.in_band ≡ true
    own e (inl same) = same.1
    own e (inr other) = absurd (other.0 (eqb-true y.channel c e))

    later : (y.channel == c) ≡ false → ((y.channel ≡ c) × (y.in_band ≡ true)) ⊎ ((y.channel ≡ c → ⊥) × IsFirstBanded c uses) → IsFirstBanded c uses
    later e (inl same) = absurd (eqb-false y.channel c e same.0)
    later e (inr other) = other.1

    by : (b : Bool) → (y.channel == c) ≡ b → ((y.channel ≡ c) × (y.in_band ≡ true)) ⊎ ((y.channel ≡ c → ⊥) × IsFirstBanded c uses)
        → (if b then Some y else first_use c uses) ≡ Some x → (IsFirstBanded c uses → first_use c uses ≡ Some x → x.in_band ≡ true) → x.in_band ≡ true
    by true e f g rest = ap (λ (z : ChannelUse). z.in_band) (sym (use_is y x g)) ∙ own e f
    by false e f g rest = rest (later e f) g

module _ (start : PlainPairState) (new : IsNewPair counting start) where
  -- the first channel of a number that the left peer announced was opened in-band
  abbrev Banded : ℕ → (past : List (Entry PlainMediaEvent)) (pair : PlainPairState)
      → Went (EntersSoundly plain_parts is_ice_message start) (λ fresh. fresh ≡ start) past pair → Type 0
  Banded c past pair went =
      IsFirstBanded c (uses_of plain_parts is_ice_message start Left past pair (reached_by plain_parts is_ice_message start past pair went))

  module _ (c : ℕ) (entry : Entry PlainMediaEvent) (past : List (Entry PlainMediaEvent)) (pair : PlainPairState)
      (go : are_native (steps_of (entry ∷ past)) ≡ true) (lasts : AreLasting (entry ∷ past))
      (went : Went (EntersSoundly plain_parts is_ice_message start) (λ fresh. fresh ≡ start) (entry ∷ past) pair) where
    stays : Banded c past went.0 went.1 → Banded c (entry ∷ past) pair went
    stays h =
        entry_stays counting is_ice_message start new c entry past pair (reached_by plain_parts is_ice_message start (entry ∷ past) pair went) Left h

    found : (line : Option ℕ) → same_side (side_of entry.step) Left ≡ true → (line ≡ Some c → Banded c past went.0 went.1)
        → Found c pair.left line (AnnouncesIn c (outcome_outputs entry.outcome)) → Banded c (entry ∷ past) pair went
    found line own rest (inl same) = stays (rest same)
    found line own rest (inr announced) =
        entry_first counting is_ice_message start new c entry past pair (reached_by plain_parts is_ice_message start (entry ∷ past) pair went) Left go lasts own
        (announcing_polls c (addr_at (other_side (side_of entry.step)) went.0) (addr_at (side_of entry.step) went.0) entry.step
        (rtc_at (side_of entry.step) went.0) went.0.sdps went.0.packets entry.outcome entry.table
        (rtc_at (side_of entry.step) pair) pair.sdps pair.packets went.2.0.performs.acts announced.0)
        (outcome_announces c entry.outcome announced.0)
        (fits_band (config_under (stream_under c pair.left.core.channels) pair.left.core.sctp) announced.1)

    entered : (line : Option ℕ) (b : Bool) → same_side (side_of entry.step) Left ≡ b
        → (if b then line_behind pair.left line (outcome_outputs entry.outcome) else line) ≡ Some c
        → (line ≡ Some c → Banded c past went.0 went.1) → Banded c (entry ∷ past) pair went
    entered line true own k rest = found line own rest (outputs_found c (outcome_outputs entry.outcome) pair.left line k)
    entered line false own k rest = stays (rest k)

  path_banded : (c : ℕ) (past : List (Entry PlainMediaEvent)) (pair : PlainPairState) → are_native (steps_of past) ≡ true → AreLasting past
      → (went : Went (EntersSoundly plain_parts is_ice_message start) (λ fresh. fresh ≡ start) past pair) → line_along start past pair went ≡ Some c
      → Banded c past pair went
  path_banded c [] pair go lasts went h = absurd (none_some c h)
  path_banded c (entry ∷ past) pair go lasts went h =
      entered c entry past pair go lasts went (line_along start past went.0 went.1) (same_side (side_of entry.step) Left) refl h
      (λ k. path_banded c past went.0 (native_entry entry past go).0 lasts.1 went.1 k)

  -- the first channel of the line's number
  pub line_banded : (c : ℕ) (past : List (Entry PlainMediaEvent)) (pair : PlainPairState) → are_native (steps_of past) ≡ true → AreLasting past
      → (went : Went (EntersSoundly plain_parts is_ice_message start) (λ fresh. fresh ≡ start) past pair) → line_along start past pair went ≡ Some c
      → (x : ChannelUse)
      → first_use c (uses_of plain_parts is_ice_message start Left past pair (reached_by plain_parts is_ice_message start past pair went)) ≡ Some x
      → x.in_band ≡ true
  line_banded c past pair go lasts went h x first =
      first_of c (uses_of plain_parts is_ice_message start Left past pair (reached_by plain_parts is_ice_message start past pair went)) x
      (path_banded c past pair go lasts went h) first
