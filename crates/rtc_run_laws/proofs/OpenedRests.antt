-- A channel that a poll announces in-band is over no shut stream.
use Rattle.std.proofs.Common.{◌≡◌, ◌∙◌, ◌⊎◌, ◌++◌, ◌==◌, if◌then◌else◌, not, ℕ, Bool, true, false, true≢false, List, [], ◌∷◌, Option, Some, Ok, inl, inr, refl, sym, ap, subst}
use Rattle.std.specs.Prelude.{is_some}
use Rattle.std.proofs.lemmas.Bool.{eqb-true}
use Rattle.rtc_wire.specs.declared.channel_config.ChannelConfig.{ChannelConfig}
use Rattle.rtc_assoc_state.proofs.PlainLaws.{plain_laws}
use Rattle.rtc_assoc_state.specs.Contents.{generation_of, has_unread}
use Rattle.rtc_assoc_state.specs.PlainMeaning.{plain_meaning}
use Rattle.rtc_parts.specs.Draws.{Draws}
use Rattle.rtc_sctp_entries.specs.declared.stream_entry_state.StreamEntryState.TheVariants.{AwaitOpen, Open, Closed as EntryClosed}
use Rattle.rtc_sctp_entries.specs.declared.stream_entry.StreamEntry.{StreamEntry}
use Rattle.rtc_sctp_entries.specs.Entries.{config_or_fresh, is_out_of_band}
use Rattle.rtc_sctp_laws.specs.StreamMessages.{StreamMessage}
use Rattle.rtc_sctp_laws.specs.StreamUses.{IsOpenedIn, WereOpened, entries_of, messages_of}
use Rattle.rtc_sctp_laws.proofs.PlainGenerations.{plain_generations}
use Rattle.rtc_peer_transport.specs.ChannelCalls.{config_under, stream_under}
use Rattle.rtc_peer_transport.specs.declared.event.Event.TheVariants.{ChannelOpen}
use Rattle.rtc_peer_transport.specs.declared.output.Output.TheVariants as outputs
use Rattle.rtc_peer_polling.specs.Walk.{PollsPeer}
use Rattle.rtc_peer_laws.specs.ChannelStreams.{IsGone, IsUsedStream}
use Rattle.rtc_peer_laws.specs.Acts.{PollActs}
use Rattle.rtc_peer_laws.proofs.ActedPolls.{poll_acts}
use Rattle.rtc_peer_laws.proofs.ChannelsOver.{under_over}
use Rattle.rtc_run_laws.specs.ChannelUses.{ChannelUse, announced_use}
use Rattle.rtc_run_laws.specs.PlainPairs.{PlainPolled, plain_over}
use Rattle.rtc_run_laws.proofs.AnnouncedStreams.{first_config}
use Rattle.rtc_run_laws.proofs.RestedSides.{RestsStream, RestsUse, RestsUses}
use Rattle.rtc_run_laws.proofs.RowLemmas.{closed_stays}
use Rattle.rtc_run_laws.proofs.ShutEntries.{AreShut, IsShutEntry}
use Rattle.rtc_run_laws.proofs.ShutRows.{IsShutOne}
use Rattle.rtc_run_laws.proofs.SidesTold.{SideTold}
use Rattle.rtc_run_laws.proofs.StepsExchange.{plain_over_laws}
use Rattle.rtc_run_laws.proofs.UsesTold.{UsedUnlessClosed}

some_is : (a b : ℕ) → Some a ≡ Some b → a ≡ b
some_is a b h = cc

-- the first entry of a shut stream is shut
shut_first : (s : ℕ) (es : List StreamEntry) (e : StreamEntry) (l : List StreamEntry) → AreShut s es → entries_of s es ≡ e ∷ l → IsShutEntry e
shut_first s [] e l h is = absurd (none_some is)
  where
    none_some : [] ≡ e ∷ l → ⊥
    none_some k = cc
shut_first s (x ∷ es) e l h is = by (x.id == s) refl is (shut_first s es e l h.1)
  where
    first : (k : List StreamEntry) → x ∷ k ≡ e ∷ l → x ≡ e
    first k f = cc

    by : (b : Bool) → (x.id == s) ≡ b → (if b then x ∷ entries_of s es else entries_of s es) ≡ e ∷ l → (entries_of s es ≡ e ∷ l → IsShutEntry e)
        → IsShutEntry e
    by true f k rest = subst (λ (y : StreamEntry). IsShutEntry y) (first (entries_of s es) k) (h.0 (eqb-true x.id s f))
    by false f k rest = rest k

-- one that is open was negotiated out-of-band
shut_open : (e : StreamEntry) → IsShutEntry e → e.state ≡ Open → is_out_of_band e ≡ true
shut_open e (inl waits) is = absurd (let clash : AwaitOpen ≡ Open = sym waits ∙ is in cc)
shut_open e (inr (inl closed)) is = absurd (let clash : EntryClosed ≡ Open = sym closed ∙ is in cc)
shut_open e (inr (inr opened)) is = opened.1

not_both : (b : Bool) → not b ≡ true → b ≡ true → ⊥
not_both true h k = true≢false (sym h)
not_both false h k = true≢false (sym k)

module _ {N : Type 0} (draws : Draws N) (p next : PlainPolled N) (id : ℕ) (label : List ℕ) (uses : List ChannelUse) (written read : List StreamMessage)
    (h : PollsPeer (plain_over draws) p (Ok (outputs.Event (ChannelOpen id label))) next) (told : SideTold (plain_over draws) uses written read p) where
  -- over a stream that was in use
  module _ (acts : PollActs (plain_over draws) p (Ok (outputs.Event (ChannelOpen id label))) next)
      (used : (t : ℕ) → IsUsedStream (plain_over draws) t written read p) (s : ℕ) (of : (announced_use (plain_over draws) id next).stream ≡ Some s)
      (band : (announced_use (plain_over draws) id next).in_band ≡ true) (shut : AreShut s next.core.sctp.entries) where
    abbrev t : ℕ
    t = acts.streams.opens.stream

    placed : stream_under id next.core.channels ≡ Some t
    placed = under_over t id next.core.channels (acts.numbers told.numbers).0 acts.streams.opens.over

    same : t ≡ s
    same = some_is t s (sym placed ∙ of)

    in_band : (e : StreamEntry) (l : List StreamEntry) → entries_of t next.core.sctp.entries ≡ e ∷ l → not (is_out_of_band e) ≡ true
    in_band e l only =
        sym
        (ap (λ (o : Option ℕ). not (is_some (config_or_fresh (config_under o next.core.sctp)).negotiated)) placed
        ∙ ap (λ (c : Option ChannelConfig). not (is_some (config_or_fresh c).negotiated)) (first_config t next.core.sctp.entries e l only))
        ∙ band

    by_entry : (e : StreamEntry) (l : List StreamEntry) (g : ℕ) (ws hs : List StreamMessage) → entries_of t next.core.sctp.entries ≡ e ∷ l
        → IsOpenedIn e g ws hs → ⊥
    by_entry e l g ws hs only (inl out) = not_both (is_out_of_band e) (in_band e l only) out
    by_entry e l g ws hs only (inr live) =
        not_both (is_out_of_band e) (in_band e l only)
        (shut_open e
        (shut_first s next.core.sctp.entries e l shut (subst (λ (n : ℕ). entries_of n next.core.sctp.entries ≡ e ∷ l) same only))
        live.1.0)

    by_entries : (l : List StreamEntry) (g : ℕ) (ws hs : List StreamMessage) → entries_of t next.core.sctp.entries ≡ l → WereOpened l g ws hs → ⊥
    by_entries [] g ws hs only opened = opened
    by_entries (e ∷ l) g ws hs only opened = by_entry e l g ws hs only opened

    not_shut : ⊥
    not_shut =
        by_entries (entries_of t next.core.sctp.entries) (plain_meaning.generation next.core.sctp.association t)
        (messages_of t (plain_meaning.generation next.core.sctp.association t) (written ++ acts.wrote))
        (messages_of t (plain_meaning.generation next.core.sctp.association t) (read ++ acts.heard)) refl
        (acts.streams.opens.opened plain_laws plain_generations written read (used t))

  pub opened_rests : RestsUses uses next → RestsUse next (announced_use (plain_over draws) id next)
  opened_rests k = λ band s of. by band s of told.used (k.streams s)
    where
      never : (band : (announced_use (plain_over draws) id next).in_band ≡ true) (s : ℕ) → (announced_use (plain_over draws) id next).stream ≡ Some s
          → UsedUnlessClosed (plain_over draws) written read p → IsShutOne s next.core.sctp → ⊥
      never band s of (inl closed) shut =
          let clash = (closed_stays (plain_over draws) p (Ok (outputs.Event (ChannelOpen id label))) next closed h).0 in cc
      never band s of (inr used) shut =
          not_shut (poll_acts (plain_over draws) (plain_over_laws draws) p (Ok (outputs.Event (ChannelOpen id label))) next h) used s of band shut.1

      by : (band : (announced_use (plain_over draws) id next).in_band ≡ true) (s : ℕ) → (announced_use (plain_over draws) id next).stream ≡ Some s
          → UsedUnlessClosed (plain_over draws) written read p → RestsStream s next
          → IsGone id next.core.channels ⊎ (has_unread next.core.sctp.association s (generation_of next.core.sctp.association s) ≡ false)
      by band s of used (inl none) = inr none
      by band s of used (inr shut) = absurd (never band s of used shut)
