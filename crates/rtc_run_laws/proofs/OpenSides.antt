-- A side of a settled pair: what its peer has heard, and that each channel which is open was announced.
use Rattle.std.proofs.Common.{◌≡◌, ◌∙◌, ◌⊎◌, ◌∷◌, ◌&&◌, ◌||◌, ◌==◌, if◌then◌else◌, ℕ, Bool, true, false, true≢false, List, [], Option, Some, None, inl, inr, refl, sym, ap, subst, arith}
use Rattle.std.specs.Prelude.{option_and_then}
use Rattle.std.proofs.lemmas.Bool.{eqb-true}
use Rattle.rtc_parts.specs.Among.{Member}
use Rattle.rtc_parts.specs.DtlsState.{can_send}
use Rattle.rtc_plain_dtls.specs.PlainMeaning.{plain_dtls}
use Rattle.rtc_assoc_state.proofs.PlainLaws.{plain_laws}
use Rattle.rtc_assoc_state.specs.Contents.{Contents, closed_here, generation_of, is_ending, is_started}
use Rattle.rtc_assoc_state.specs.PlainMeaning.{plain_meaning}
use Rattle.rtc_parts.specs.Draws.{Draws}
use Rattle.rtc_sctp_entries.specs.declared.stream_entry.StreamEntry.{StreamEntry}
use Rattle.rtc_sctp_entries.specs.Entries.{fits_generation, has_open, is_open_state}
use Rattle.rtc_sctp.specs.Calls.{is_open_stream}
use Rattle.rtc_sctp.specs.Streams.{SctpStreams, is_established}
use Rattle.rtc_sctp_laws.specs.StreamMessages.{StreamMessage}
use Rattle.rtc_sctp_laws.specs.StreamUses.{EntryUsed, HasOpenInBand, NoneUsed, is_spent_stream}
use Rattle.rtc_sctp_laws.proofs.PlainGenerations.{plain_generations}
use Rattle.rtc_peer_core.specs.declared.phase.Phase.{Phase}
use Rattle.rtc_peer_core.specs.declared.phase.Phase.TheVariants.{Alive, Closed}
use Rattle.rtc_peer_transport.specs.ChannelCalls.{if_open, is_phase_open, open_stream_under, stream_under}
use Rattle.rtc_peer_polling.proofs.StreamStarts.{IsEmptyBefore}
use Rattle.rtc_peer_laws.specs.ChannelStreams.{AreNumberedChannels, AreNumbersGiven}
use Rattle.rtc_peer_laws.specs.Drained.{AllHeard, AreHeard, IsHeard}
use Rattle.rtc_peer_laws.specs.PeerActs.{PeerActs}
use Rattle.rtc_peer_laws.proofs.ChannelsOver.{under_over}
use Rattle.rtc_peer_laws.proofs.DrainedPolls.{Ends, AtRest, Waiting, poll_ends}
use Rattle.rtc_peer_polling.proofs.Draining.{visit_drains}
use Rattle.rtc_peer_laws.proofs.HeardPolls.{timeout_heard}
use Rattle.rtc_run_laws.specs.PlainPairs.{PlainPolled, plain_over}
use Rattle.rtc_run_laws.proofs.StepsExchange.{plain_over_laws}
use Rattle.rtc_run_laws.specs.ChannelUses.{ChannelUse}
use Rattle.rtc_run_laws.specs.OpenUses.{StaysOpen}
use Rattle.rtc_run_laws.specs.SettledPairs.{IsInBandStream, IsSettledPeer, NoneRolledBack}
use Rattle.rtc_run_laws.proofs.AllHanded.{not_past}
use Rattle.rtc_run_laws.proofs.AnnouncedStreams.{AnnouncedUnlessClosed, HasUseOver, OpenOne, found, open_one}
use Rattle.rtc_run_laws.proofs.TimeoutSides.{live_open, waits_none}
use Rattle.rtc_run_laws.proofs.RestingSides.{PolledLast}
use Rattle.rtc_run_laws.proofs.StandingSides.{SideStood}
use Rattle.rtc_run_laws.proofs.UseLists.{all_member}
use Rattle.rtc_run_laws.proofs.UsesTold.{HasGone, InBandTold, IsOver, Lives, StandsSo, UsedUnlessClosed}
use Rattle.rtc_run_laws.proofs.HeardOpenings.{entry_among}
use Rattle.rtc_sctp_entries.specs.declared.stream_entry_state.StreamEntryState.{StreamEntryState}
use Rattle.rtc_sctp_entries.specs.declared.stream_entry_state.StreamEntryState.TheVariants.{AwaitOpen, AwaitConfig, AwaitDcepAck, Open, Closed as EntryClosed}
use Rattle.rtc_peer_polling.specs.StreamStages.{channel_over}
use Rattle.rtc_run_laws.proofs.RowLemmas.{one_over}
use Rattle.rtc_run_laws.proofs.OpenStreams.{open_placed}

some_is : (a b : ℕ) → Some a ≡ Some b → a ≡ b
some_is a b h = cc

pub both_true : (a b : Bool) → a ≡ true → b ≡ true → (a && b) ≡ true
both_true true b e k = k
both_true false b e k = absurd (true≢false (sym e))

second_true : (a b : Bool) → (a && b) ≡ true → b ≡ true
second_true true b h = h
second_true false b h = absurd (true≢false (sym h))

awaits_open : AwaitOpen ≡ Open → ⊥
awaits_open h = cc

none_some : (s : ℕ) → None ≡ Some s → ⊥
none_some s h = cc

-- a stream that is shown as open is open
shown_open : (b : Bool) (o : Option ℕ) (p : SctpStreams Contents) (s : ℕ) → (if b then option_and_then (if_open p) o else None) ≡ Some s
    → is_open_stream s p ≡ true
shown_open false o p s h = absurd (none_some s h)
shown_open true None p s h = absurd (none_some s h)
shown_open true (Some t) p s h = by (is_open_stream t p) refl h
  where
    by : (c : Bool) → is_open_stream t p ≡ c → (if c then Some t else None) ≡ Some s → is_open_stream s p ≡ true
    by true e k = ap (λ (n : ℕ). is_open_stream n p) (sym (some_is t s k)) ∙ e
    by false e k = absurd (none_some s k)

-- its entry is open in-band, where all are in-band
record OpenEntry (s : ℕ) (es : List StreamEntry) : Type 0 where
  own : Option ℕ
  has : HasOpenInBand s own es

is_open_entry : (st : StreamEntryState) → is_open_state st ≡ true → st ≡ Open
is_open_entry AwaitOpen h = absurd (true≢false (sym h))
is_open_entry AwaitConfig h = absurd (true≢false (sym h))
is_open_entry AwaitDcepAck h = absurd (true≢false (sym h))
is_open_entry Open h = refl
is_open_entry EntryClosed h = absurd (true≢false (sym h))

open_entry_of : (s : ℕ) (es : List StreamEntry) → IsInBandStream s es → has_open s es ≡ true → OpenEntry s es
open_entry_of s [] band h = absurd (true≢false (sym h))
open_entry_of s (e ∷ es) band h = by (e.id == s) refl (is_open_state e.state) refl h (λ k. open_entry_of s es band.1 k)
  where
    later : OpenEntry s es → OpenEntry s (e ∷ es)
    later k = record { own = k.own; has = inr k.has }

    by : (c : Bool) → (e.id == s) ≡ c → (d : Bool) → is_open_state e.state ≡ d → ((c && d) || has_open s es) ≡ true
        → (has_open s es ≡ true → OpenEntry s es) → OpenEntry s (e ∷ es)
    by true f true g k rest = record { own = e.generation; has = inl (eqb-true e.id s f, (is_open_entry e.state g, refl, band.0 (eqb-true e.id s f))) }
    by true f false g k rest = later (rest k)
    by false f d g k rest = later (rest k)

module _ {N : Type 0} (draws : Draws N) where
  -- ---- a peer as a poll left it that ended in a timeout

  pushed_none : (moment : ℕ) (q : PlainPolled N) → Ends (plain_over draws) moment q → (q.core.phase ≡ Closed → ⊥) → can_send plain_dtls q.core.dtls ≡ true
      → q.core.sctp.pushed ≡ None
  pushed_none moment q (AtRest closed is reason) live can = absurd (live closed)
  pushed_none moment q (Waiting last v visit alive unclosed is same) live can =
      ap (λ (x : PlainPolled N). x.core.sctp.pushed) same
      ∙ waits_none draws v.core.sctp v.core.dtls (visit_drains (plain_over draws) (plain_over_laws draws) last v visit).streams
      (subst (λ (x : PlainPolled N). can_send plain_dtls x.core.dtls ≡ true) same can)

  pub not_closed : (q : PlainPolled N) → q.core.phase ≡ Alive → q.core.phase ≡ Closed → ⊥
  not_closed q alive closed = let clash : Alive ≡ Closed = sym alive ∙ closed in cc

  pub last_all : (q : PlainPolled N) → PolledLast (plain_over draws) (λ n. Unit {0}) q → IsSettledPeer q → AllHeard plain_meaning q.core.sctp
  last_all q last settled =
      timeout_heard (plain_over draws) (plain_over_laws draws) last.before q last.moment last.polled live
      (pushed_none last.moment q (poll_ends (plain_over draws) last.before.core.phase last.moment last.before q refl last.polled) live settled.sends)
    where
      live : q.core.phase ≡ Closed → ⊥
      live = not_closed q settled.alive

  pub last_heard : (q : PlainPolled N) → PolledLast (plain_over draws) (λ n. Unit {0}) q → IsSettledPeer q → IsEmptyBefore plain_meaning q.core.sctp
      → AreHeard plain_meaning q.core.sctp.association q.core.sctp.entries
  last_heard q last settled empty = by (is_started q.core.sctp.association) refl
    where
      by : (b : Bool) → is_started q.core.sctp.association ≡ b → AreHeard plain_meaning q.core.sctp.association q.core.sctp.entries
      by true e =
          (last_all q last settled).streams
          (both_true (is_established q.core.sctp.state) (is_started q.core.sctp.association) settled.established e)
      by false e = subst (λ (l : List StreamEntry). AreHeard plain_meaning q.core.sctp.association l) (sym (empty e)) tt

  -- ---- the channel at the other end

  pub stays_under : (c s : ℕ) (q : PlainPolled N) → q.core.phase ≡ Alive → stream_under c q.core.channels ≡ Some s → is_open_stream s q.core.sctp ≡ true
      → open_stream_under c q ≡ Some s
  stays_under c s q alive placed opened =
      ap (λ (phase : Phase). if is_phase_open phase then option_and_then (if_open q.core.sctp) (stream_under c q.core.channels) else None) alive
      ∙ ap (λ (o : Option ℕ). option_and_then (if_open q.core.sctp) o) placed
      ∙ ap (λ (b : Bool). if b then Some s else None) opened

  -- the channel that was announced is open
  pub record StaysAt (l : ChannelUse) (s : ℕ) (q : PlainPolled N) : Type 0 where
    pub stays : StaysOpen (plain_over draws) l q
    pub over : channel_over s q.core.channels ≡ Some l.channel

  pub use_stays : (q : PlainPolled N) (l : ChannelUse) (rest : List StreamMessage) (s : ℕ) → l.stream ≡ Some s → IsSettledPeer q
      → AreNumberedChannels q.core.channels → generation_of q.core.sctp.association s ≡ l.generation
      → is_spent_stream plain_meaning s q.core.sctp.association ≡ false → StandsSo (plain_over draws) l.channel s l.generation l.got rest q
      → StaysAt l s q
  use_stays q l rest s of settled numbers own free (Lives live is) = record {
    stays = record {
      stream = s;
      of = of;
      there =
          stays_under l.channel s q settled.alive (under_over s l.channel q.core.channels numbers.0 live.0)
          (both_true (is_established q.core.sctp.state) (has_open s q.core.sctp.entries) settled.established
          (live_open s l.generation q.core.sctp.entries live.1));
      generation = own;
      free = free;
    };
    over = live.0;
  }
  use_stays q l rest s of settled numbers own free (HasGone gone past k) =
      absurd (not_past plain_meaning plain_laws plain_generations s l.generation q.core.sctp.association own free past)
  use_stays q l rest s of settled numbers own free (IsOver closed k) = absurd (not_closed q settled.alive closed)

  -- a channel that is open was announced
  pub record OwnUse (c s : ℕ) (vs : List ChannelUse) (q : PlainPolled N) : Type 0 where
    pub use_of : ChannelUse
    pub member : Member use_of vs
    pub in_band : use_of.in_band ≡ true
    pub channel_is : use_of.channel ≡ c
    pub stream_is : use_of.stream ≡ Some s
    pub generation_is : use_of.generation ≡ generation_of q.core.sctp.association s
    pub stays : StaysOpen (plain_over draws) use_of q

  module _ (b : PeerActs) (vs : List ChannelUse) (q : PlainPolled N) (y : SideStood draws b vs q) (there : IsSettledPeer q)
      (heard : AreHeard plain_meaning q.core.sctp.association q.core.sctp.entries) (c s : ℕ) (band : IsInBandStream s q.core.sctp.entries)
      (shown : open_stream_under c q ≡ Some s) (unclosed : closed_here q.core.sctp.association s ≡ false) (stand : NoneRolledBack s vs q) where
    opened : OpenEntry s q.core.sctp.entries
    opened =
        open_entry_of s q.core.sctp.entries band
        (second_true (is_established q.core.sctp.state) (has_open s q.core.sctp.entries)
        (shown_open (is_phase_open q.core.phase) (stream_under c q.core.channels) q.core.sctp s shown))

    by_found : (l : ChannelUse) → Member l vs → l.in_band ≡ true → l.stream ≡ Some s
        → l.generation ≡ generation_of q.core.sctp.association s → OwnUse c s vs q
    by_found l mine banded of own =
        let t = (all_member (InBandTold (plain_over draws) y.written y.read q) vs l y.told.each mine banded).kept (stand l mine of own) in
        let at =
        use_stays q l t.rest s of there y.told.numbers (sym own) (ap (λ (d : Bool). d || is_ending q.core.sctp.association) unclosed ∙ there.lasting)
        (subst (λ (n : ℕ). StandsSo (plain_over draws) l.channel n l.generation l.got t.rest q) (some_is t.stream s (sym t.stream_is ∙ of)) t.stands) in
        record {
          use_of = l;
          member = mine;
          in_band = banded;
          channel_is = one_over s c l.channel q.core.channels.rows y.told.numbers.2 (open_placed c s q shown) at.over;
          stream_is = of;
          generation_is = own;
          stays = at.stays;
        }

    by_one : (one : OpenOne s opened.own q.core.sctp.entries) → IsHeard plain_meaning q.core.sctp.association one.entry → one.entry.id ≡ s
        → AnnouncedUnlessClosed (plain_over draws) vs q → OwnUse c s vs q
    by_one one (inl waits) same told = absurd (awaits_open (sym waits.0 ∙ one.opened.0))
    by_one one (inr it) same (inl closed) = absurd (not_closed q there.alive closed)
    by_one one (inr it) same (inr announced) = by (announced s opened.own opened.has)
      where
        by : HasUseOver s opened.own vs ⊎ AreNumbersGiven q.core.channels → OwnUse c s vs q
        by (inr full) = let left = there.numbers in absurd (omega (arith, left, full))
        by (inl over) =
            let use_found = found s opened.own vs over in
            by_found use_found.use_over use_found.member use_found.is_over.0 use_found.is_over.1
            (eqb-true use_found.use_over.generation (generation_of q.core.sctp.association s)
            (ap (λ (o : Option ℕ). fits_generation o (generation_of q.core.sctp.association s)) (sym use_found.is_over.2 ∙ sym one.opened.1)
            ∙ ap (λ (n : ℕ). fits_generation one.entry.generation (generation_of q.core.sctp.association n)) (sym same)
            ∙ it.3))

    by_used : UsedUnlessClosed (plain_over draws) y.written y.read q → OwnUse c s vs q
    by_used (inl closed) = absurd (not_closed q there.alive closed)
    by_used (inr uses) =
        let one =
        open_one s opened.own q.core.sctp.entries (NoneUsed plain_meaning s q.core.sctp.association y.written y.read)
        (EntryUsed plain_meaning s q.core.sctp.association y.written y.read) opened.has (uses s).used in
        let among = entry_among plain_meaning q.core.sctp.association s q.core.sctp.entries one.entry [] one.only heard band in
        by_one one among.heard among.id_is y.told.announced

    pub own_use : OwnUse c s vs q
    own_use = by_used y.told.used
