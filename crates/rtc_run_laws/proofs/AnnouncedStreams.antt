-- That the channel over each stream that is open in-band was announced.
use Rattle.std.proofs.Common.{◌≡◌, ◌∙◌, ◌⊎◌, ◌≤◌, ◌++◌, ◌∷◌, ◌==◌, ◌-◌, ◌^◌, if◌then◌else◌, not, ℕ, Bool, true, false, true≢false, List, [], Option, Some, Result, Ok, Err, inl, inr, refl, sym, ap, subst, arith}
use Rattle.std.specs.Prelude.{is_some}
use Rattle.rtc_parts.specs.AssociationLaws.{AssociationLaws}
use Rattle.rtc_parts.specs.Among.{Member}
use Rattle.rtc_channels.specs.Channels.{Channel}
use Rattle.rtc_sctp_entries.specs.declared.stream_entry.StreamEntry.{StreamEntry}
use Rattle.rtc_sctp_entries.specs.Entries.{config_or_fresh, stream_config}
use Rattle.rtc_sctp_laws.specs.StreamMessages.{StreamMessage}
use Rattle.rtc_sctp_laws.specs.GenerationLaws.{GenerationLaws}
use Rattle.rtc_sctp_laws.specs.StreamUses.{EntryUsed, HasOpenInBand, IsOpenInBand, IsOpenedIn, NoneUsed, OneAtMost, WereOpened, entries_of, messages_of}
use Rattle.rtc_sctp_laws.proofs.EntriesOf.{entries_own}
use Rattle.rtc_peer_core.specs.declared.phase.Phase.TheVariants.{Closed}
use Rattle.rtc_peer_core.specs.declared.rtc_error.RtcError.{RtcError}
use Rattle.rtc_peer_core.specs.declared.rtc_error.RtcError.TheVariants.{Alloc}
use Rattle.rtc_peer_core.specs.Meanings.{Meanings}
use Rattle.rtc_peer_transport.specs.ChannelCalls.{config_under, stream_under}
use Rattle.rtc_peer_transport.specs.declared.event.Event.{Event}
use Rattle.rtc_peer_transport.specs.declared.event.Event.TheVariants.{ChannelOpen, ChannelData}
use Rattle.rtc_peer_transport.specs.declared.output.Output.{Output}
use Rattle.rtc_peer_transport.specs.declared.output.Output.TheVariants as outputs
use Rattle.rtc_peer_transport.specs.declared.polled_peer.PolledPeer.{PolledPeer}
use Rattle.rtc_peer_polling.specs.StreamStages.{channel_over}
use Rattle.rtc_peer_polling.specs.Walk.{PollsPeer}
use Rattle.rtc_peer_polling.proofs.Lacking.{poll_lacks}
use Rattle.rtc_peer_laws.specs.Acts.{PollActs}
use Rattle.rtc_peer_laws.specs.ChannelStreams.{AnnouncesOver, AreNumberedChannels, AreNumbersGiven, IsUsedStream, UnlessLacking, WasOpenInBand, Already, Announced, NoNumber}
use Rattle.rtc_peer_laws.proofs.ChannelsOver.{under_over}
use Rattle.rtc_peer_laws.proofs.StreamsJoin.{given_on}
use Rattle.rtc_peer_laws.specs.KeptChannels.{CallKeepsStreams, CallLeavesStreams}
use Rattle.rtc_run_laws.specs.ChannelUses.{ChannelUse, announced_use, generation_under, loses_channel, uses_told, with_got_message, with_rolled_back, with_sent_message}
use Rattle.rtc_run_laws.proofs.RowLemmas.{closed_stays}
use Rattle.rtc_run_laws.proofs.UsesTold.{UsedUnlessClosed}

-- ---- uses

-- a channel was announced in-band over this stream, in the generation that its entry keeps
abbrev pub IsUseOver : (s : ℕ) (own : Option ℕ) → ChannelUse → Type 0
IsUseOver s own x = (x.in_band ≡ true) × (x.stream ≡ Some s) × (own ≡ Some x.generation)

abbrev pub HasUseOver : (s : ℕ) (own : Option ℕ) → List ChannelUse → Type 0
HasUseOver s own [] = ⊥
HasUseOver s own (x ∷ uses) = IsUseOver s own x ⊎ HasUseOver s own uses

pub record UseFound (s : ℕ) (own : Option ℕ) (uses : List ChannelUse) : Type 0 where
  pub use_over : ChannelUse
  pub member : Member use_over uses
  pub is_over : IsUseOver s own use_over

pub found : (s : ℕ) (own : Option ℕ) (uses : List ChannelUse) → HasUseOver s own uses → UseFound s own uses
found s own [] h = absurd h
found s own (x ∷ uses) (inl h) = record { use_over = x; member = inl refl; is_over = h }
found s own (x ∷ uses) (inr h) =
    let rest = found s own uses h in
    record { use_over = rest.use_over; member = inr rest.member; is_over = rest.is_over }

pub over_sent : (s : ℕ) (own : Option ℕ) (c : ℕ) (message : Bool × List ℕ) (uses : List ChannelUse) → HasUseOver s own uses
    → HasUseOver s own (with_sent_message c message uses)
over_sent s own c message [] h = h
over_sent s own c message (x ∷ uses) (inr h) = inr (over_sent s own c message uses h)
over_sent s own c message (x ∷ uses) (inl h) = inl (by (x.channel == c))
  where
    by : (b : Bool) → IsUseOver s own (if b then record x { sent = x.sent ++ message ∷ [] } else x)
    by true = h
    by false = h

pub over_got : (s : ℕ) (own : Option ℕ) (c : ℕ) (message : Bool × List ℕ) (uses : List ChannelUse) → HasUseOver s own uses
    → HasUseOver s own (with_got_message c message uses)
over_got s own c message [] h = h
over_got s own c message (x ∷ uses) (inr h) = inr (over_got s own c message uses h)
over_got s own c message (x ∷ uses) (inl h) = inl (by (x.channel == c))
  where
    by : (b : Bool) → IsUseOver s own (if b then record x { got = x.got ++ message ∷ [] } else x)
    by true = h
    by false = h

pub over_rolled : (s : ℕ) (own : Option ℕ) (before after : List Channel) (uses : List ChannelUse) → HasUseOver s own uses
    → HasUseOver s own (with_rolled_back before after uses)
over_rolled s own before after [] h = h
over_rolled s own before after (x ∷ uses) (inr h) = inr (over_rolled s own before after uses h)
over_rolled s own before after (x ∷ uses) (inl h) = inl (by (loses_channel x.channel before after))
  where
    by : (b : Bool) → IsUseOver s own (if b then record x { rolled_back = true } else x)
    by true = h
    by false = h

over_more : (s : ℕ) (own : Option ℕ) (x : ChannelUse) (uses : List ChannelUse) → HasUseOver s own uses → HasUseOver s own (uses ++ x ∷ [])
over_more s own x [] h = absurd h
over_more s own x (y ∷ uses) (inl h) = inl h
over_more s own x (y ∷ uses) (inr h) = inr (over_more s own x uses h)

pub over_last : (s : ℕ) (own : Option ℕ) (x : ChannelUse) (uses : List ChannelUse) → IsUseOver s own x → HasUseOver s own (uses ++ x ∷ [])
over_last s own x [] h = inl h
over_last s own x (y ∷ uses) h = inr (over_last s own x uses h)

-- ---- entries

abbrev AnyOpen : Option ℕ → List StreamEntry → Type 0
AnyOpen own [] = ⊥
AnyOpen own (e ∷ l) = IsOpenInBand own e ⊎ AnyOpen own l

own_test : (n s : ℕ) → n ≡ s → (n == s) ≡ true
own_test n s h = grind (arith, h)

any_open : (s : ℕ) (own : Option ℕ) (es : List StreamEntry) → HasOpenInBand s own es → AnyOpen own (entries_of s es)
any_open s own [] h = absurd h
any_open s own (e ∷ es) (inl h) =
    subst (λ (l : List StreamEntry). AnyOpen own l) (sym (entries_own s e es (own_test e.id s h.0))) (inl h.1)
any_open s own (e ∷ es) (inr h) = by (e.id == s) (any_open s own es h)
  where
    by : (b : Bool) → AnyOpen own (entries_of s es) → AnyOpen own (if b then e ∷ entries_of s es else entries_of s es)
    by true k = inr k
    by false k = k

-- the one entry of a stream that is open in-band
pub record OpenOne (s : ℕ) (own : Option ℕ) (es : List StreamEntry) : Type 0 where
  pub entry : StreamEntry
  pub only : entries_of s es ≡ entry ∷ []
  pub opened : IsOpenInBand own entry

pub open_one : (s : ℕ) (own : Option ℕ) (es : List StreamEntry) (Q : Type 0) (P : StreamEntry → Type 0) → HasOpenInBand s own es
    → OneAtMost Q P (entries_of s es) → OpenOne s own es
open_one s own es Q P h one = by (entries_of s es) refl (any_open s own es h) one
  where
    by : (l : List StreamEntry) → entries_of s es ≡ l → AnyOpen own l → OneAtMost Q P l → OpenOne s own es
    by [] is any k = absurd any
    by (e ∷ []) is (inl opened) k = record { entry = e; only = is; opened = opened }
    by (e ∷ []) is (inr none) k = absurd none
    by (e ∷ f ∷ l) is any k = absurd k

-- the config of a stream is that of its first entry
pub first_config : (s : ℕ) (es : List StreamEntry) (e : StreamEntry) (l : List StreamEntry) → entries_of s es ≡ e ∷ l → stream_config s es ≡ e.config
first_config s [] e l h = absurd (none_some h)
  where
    none_some : [] ≡ e ∷ l → ⊥
    none_some k = cc
first_config s (x ∷ es) e l h = by (x.id == s) h (first_config s es e l)
  where
    first : (l' : List StreamEntry) → x ∷ l' ≡ e ∷ l → x ≡ e
    first l' k = cc

    by : (b : Bool) → (if b then x ∷ entries_of s es else entries_of s es) ≡ e ∷ l → (entries_of s es ≡ e ∷ l → stream_config s es ≡ e.config)
        → (if b then x.config else stream_config s es) ≡ e.config
    by true k rest = ap (λ (y : StreamEntry). y.config) (first (entries_of s es) k)
    by false k rest = rest k

some_is : (a b : ℕ) → Some a ≡ Some b → a ≡ b
some_is a b h = cc

-- ---- sides

module _ {I D S M E X T W N : Type 0} (m : Meanings I D S M E X T W N) where
  -- the channel over each stream that is open in-band was announced, unless no number was left for one
  abbrev pub AreAnnounced : List ChannelUse → PolledPeer I D S M N → Type 0
  AreAnnounced uses p =
      (s : ℕ) (own : Option ℕ) → HasOpenInBand s own p.core.sctp.entries → HasUseOver s own uses ⊎ AreNumbersGiven p.core.channels

  abbrev pub AnnouncedUnlessClosed : List ChannelUse → PolledPeer I D S M N → Type 0
  AnnouncedUnlessClosed uses p = (p.core.phase ≡ Closed) ⊎ AreAnnounced uses p

  given_more : (p q : PolledPeer I D S M N) (A B : Type 0) → p.core.channels.given ≤ q.core.channels.given → (A → B)
      → A ⊎ AreNumbersGiven p.core.channels → B ⊎ AreNumbersGiven q.core.channels
  given_more p q A B given f (inl h) = inl (f h)
  given_more p q A B given f (inr full) = inr (given_on (2 ^ 64 - 1) p.core.channels.given q.core.channels.given full given)

  -- a call
  pub announced_called : (p q : PolledPeer I D S M N) (wrote : List StreamMessage) (uses uses' : List ChannelUse) → CallKeepsStreams m p wrote q
      → ((s : ℕ) (own : Option ℕ) → HasUseOver s own uses → HasUseOver s own uses') → AnnouncedUnlessClosed uses p → AnnouncedUnlessClosed uses' q
  announced_called p q wrote uses uses' keeps more (inl closed) = inl (keeps.closed closed)
  announced_called p q wrote uses uses' keeps more (inr h) =
      inr
      (λ s own k.
      given_more p q (HasUseOver s own uses) (HasUseOver s own uses') keeps.given (more s own) (h s own (keeps.fresh s own k)))

  -- a rollback
  pub announced_left : (p q : PolledPeer I D S M N) (wrote : List StreamMessage) (uses uses' : List ChannelUse) → CallLeavesStreams m p wrote q
      → ((s : ℕ) (own : Option ℕ) → HasUseOver s own uses → HasUseOver s own uses') → AnnouncedUnlessClosed uses p → AnnouncedUnlessClosed uses' q
  announced_left p q wrote uses uses' leaves more (inl closed) = inl (leaves.closed closed)
  announced_left p q wrote uses uses' leaves more (inr h) =
      inr
      (λ s own k.
      given_more p q (HasUseOver s own uses) (HasUseOver s own uses') leaves.given (more s own) (h s own (leaves.fresh s own k)))

  -- a poll that tells a channel to be open
  module _ (w : AssociationLaws m.association) (v : GenerationLaws m.association) (p q : PolledPeer I D S M N) (id : ℕ) (label : List ℕ)
      (acts : PollActs m p (Ok (outputs.Event (ChannelOpen id label))) q) (numbers : AreNumberedChannels p.core.channels)
      (written read : List StreamMessage) where
    opened_over : (s : ℕ) (own : Option ℕ) → channel_over s q.core.channels ≡ Some id → HasOpenInBand s own q.core.sctp.entries
        → ((t : ℕ) → IsUsedStream m t written read p) → IsUseOver s own (announced_use m id q)
    opened_over s own over h used = (in_band, placed, own_is one.opened (opening (acts.streams.opens.opened w v written read (used acts.streams.opens.stream))))
      where
        placed : stream_under id q.core.channels ≡ Some s
        placed = under_over s id q.core.channels (acts.numbers numbers).0 over

        same : acts.streams.opens.stream ≡ s
        same =
            some_is acts.streams.opens.stream s
            (sym (under_over acts.streams.opens.stream id q.core.channels (acts.numbers numbers).0 acts.streams.opens.over) ∙ placed)

        one : OpenOne s own q.core.sctp.entries
        one =
            open_one s own q.core.sctp.entries (NoneUsed m.association s q.core.sctp.association (written ++ acts.wrote) (read ++ acts.heard))
            (EntryUsed m.association s q.core.sctp.association (written ++ acts.wrote) (read ++ acts.heard)) h (acts.streams.uses w v s written read (used s)).used

        in_band : (announced_use m id q).in_band ≡ true
        in_band =
            ap (λ (o : Option ℕ). not (is_some (config_or_fresh (config_under o q.core.sctp)).negotiated)) placed
            ∙ ap (λ c. not (is_some (config_or_fresh c).negotiated)) (first_config s q.core.sctp.entries one.entry [] one.only)
            ∙ ap not one.opened.2

        g : ℕ
        g = m.association.generation q.core.sctp.association s

        opening : WereOpened (entries_of acts.streams.opens.stream q.core.sctp.entries) (m.association.generation q.core.sctp.association acts.streams.opens.stream)
            (messages_of acts.streams.opens.stream (m.association.generation q.core.sctp.association acts.streams.opens.stream) (written ++ acts.wrote))
            (messages_of acts.streams.opens.stream (m.association.generation q.core.sctp.association acts.streams.opens.stream) (read ++ acts.heard))
            → IsOpenedIn one.entry g (messages_of s g (written ++ acts.wrote)) (messages_of s g (read ++ acts.heard))
        opening k =
            subst (λ (l : List StreamEntry). WereOpened l g (messages_of s g (written ++ acts.wrote)) (messages_of s g (read ++ acts.heard))) one.only
            (subst (λ (n : ℕ). WereOpened (entries_of n q.core.sctp.entries) (m.association.generation q.core.sctp.association n)
            (messages_of n (m.association.generation q.core.sctp.association n) (written ++ acts.wrote))
            (messages_of n (m.association.generation q.core.sctp.association n) (read ++ acts.heard))) same k)

        own_is : IsOpenInBand own one.entry → IsOpenedIn one.entry g (messages_of s g (written ++ acts.wrote)) (messages_of s g (read ++ acts.heard))
            → own ≡ Some (generation_under m (stream_under id q.core.channels) q)
        own_is opened (inl out) = absurd (true≢false (sym out ∙ opened.2))
        own_is opened (inr live) = sym opened.1 ∙ live.1.1 ∙ ap (λ (o : Option ℕ). Some (generation_under m o q)) (sym placed)

  -- the uses behind an answer of a poll
  abbrev pub uses_answered : Result (Output E) RtcError → PolledPeer I D S M N → List ChannelUse → List ChannelUse
  uses_answered (Ok (outputs.Event event)) q uses = uses_told m event q uses
  uses_answered (Ok (outputs.Transmit transmit)) q uses = uses
  uses_answered (Ok (outputs.Timeout moment)) q uses = uses
  uses_answered (Err error) q uses = uses

  over_told : (event : Event E) (q : PolledPeer I D S M N) (uses : List ChannelUse) (s : ℕ) (own : Option ℕ) → HasUseOver s own uses
      → HasUseOver s own (uses_told m event q uses)
  over_told (ChannelOpen id label) q uses s own h = over_more s own (announced_use m id q) uses h
  over_told (ChannelData message) q uses s own h = over_got s own message.id (message.binary, message.bytes) uses h
  over_told event q uses s own h = h

  pub over_answered : (answer : Result (Output E) RtcError) (q : PolledPeer I D S M N) (uses : List ChannelUse) (s : ℕ) (own : Option ℕ)
      → HasUseOver s own uses → HasUseOver s own (uses_answered answer q uses)
  over_answered (Ok (outputs.Event event)) q uses s own h = over_told event q uses s own h
  over_answered (Ok (outputs.Transmit transmit)) q uses s own h = h
  over_answered (Ok (outputs.Timeout moment)) q uses s own h = h
  over_answered (Err error) q uses s own h = h

  unless_closed : (p : PolledPeer I D S M N) (answer : Result (Output E) RtcError) (q : PolledPeer I D S M N) → PollsPeer m p answer q → (B : Type 0)
      (uses : List ChannelUse) → UnlessLacking answer B → (B → AreAnnounced uses q) → AnnouncedUnlessClosed uses q
  unless_closed p (Ok output) q h B uses left f = inr (f left)
  unless_closed p (Err Alloc) q h B uses left f = inl (poll_lacks m p q h)
  unless_closed p (Err error) q h B uses left f = inr (f left)

  -- polls
  module _ (w : AssociationLaws m.association) (v : GenerationLaws m.association) where
    announced_over : (p : PolledPeer I D S M N) (answer : Result (Output E) RtcError) (q : PolledPeer I D S M N) (acts : PollActs m p answer q)
        → AreNumberedChannels p.core.channels → (written read : List StreamMessage) → ((t : ℕ) → IsUsedStream m t written read p)
        → (uses : List ChannelUse) (s : ℕ) (own : Option ℕ) → AnnouncesOver answer s q → HasOpenInBand s own q.core.sctp.entries
        → HasUseOver s own (uses_answered answer q uses)
    announced_over p (Ok (outputs.Event (ChannelOpen id label))) q acts numbers written read used uses s own over h =
        over_last s own (announced_use m id q) uses (opened_over w v p q id label acts numbers written read s own over h used)
    announced_over p (Ok (outputs.Event event)) q acts numbers written read used uses s own over h = absurd over
    announced_over p (Ok (outputs.Transmit transmit)) q acts numbers written read used uses s own over h = absurd over
    announced_over p (Ok (outputs.Timeout moment)) q acts numbers written read used uses s own over h = absurd over
    announced_over p (Err error) q acts numbers written read used uses s own over h = absurd over

    pub announced_polled : (p : PolledPeer I D S M N) (answer : Result (Output E) RtcError) (q : PolledPeer I D S M N) → PollsPeer m p answer q
        → (acts : PollActs m p answer q) → AreNumberedChannels p.core.channels → (written read : List StreamMessage) → UsedUnlessClosed m written read p
        → (uses : List ChannelUse) → AnnouncedUnlessClosed uses p → AnnouncedUnlessClosed (uses_answered answer q uses) q
    announced_polled p answer q h acts numbers written read used uses (inl closed) = inl (closed_stays m p answer q closed h).1
    announced_polled p answer q h acts numbers written read (inl closed) uses told = inl (closed_stays m p answer q closed h).1
    announced_polled p answer q h acts numbers written read (inr used) uses (inr told) =
        unless_closed p answer q h ((s : ℕ) (own : Option ℕ) → HasOpenInBand s own q.core.sctp.entries → WasOpenInBand s own p answer q)
        (uses_answered answer q uses) acts.streams.fresh (λ fresh s own k. by s own k (fresh s own k))
      where
        by : (s : ℕ) (own : Option ℕ) → HasOpenInBand s own q.core.sctp.entries → WasOpenInBand s own p answer q
            → HasUseOver s own (uses_answered answer q uses) ⊎ AreNumbersGiven q.core.channels
        by s own k (Already before) =
            given_more p q (HasUseOver s own uses) (HasUseOver s own (uses_answered answer q uses)) acts.streams.given (over_answered answer q uses s own)
            (told s own before)
        by s own k (Announced over) = inl (announced_over p answer q acts numbers written read used uses s own over k)
        by s own k (NoNumber full) = inr full
