-- A channel that was confirmed is opened, or its row goes: by each change of channels and of the entries of their streams.
use Rattle.std.proofs.Common.{◌≡◌, ◌∙◌, ◌⊎◌, ◌==◌, inl, inr, ℕ, Bool, true, false, List, Option, Some, None, Result, Ok, Err, refl, sym, ap, subst}
use Rattle.std.specs.declared.alloc.AllocError.{AllocError}
use Rattle.std.proofs.lemmas.Bool.{eqb-true, eqb-false}
use Rattle.rtc_sctp_entries.specs.declared.met.Met.{Met}
use Rattle.rtc_sctp_entries.specs.declared.met.Met.TheVariants.{Output}
use Rattle.rtc_sctp_entries.specs.declared.stream_entry.StreamEntry.{StreamEntry}
use Rattle.rtc_sctp_entries.specs.declared.sctp_event.SctpEvent.{SctpEvent}
use Rattle.rtc_sctp_entries.specs.declared.sctp_event.SctpEvent.TheVariants as event
use Rattle.rtc_sctp.specs.Streams.{SctpStreams}
use Rattle.rtc_sctp_laws.specs.StreamMessages.{met_of}
use Rattle.rtc_channels.specs.Allocation.{channel_ensured}
use Rattle.rtc_channels.specs.Channels.{Channel, Channels}
use Rattle.rtc_channels.specs.Holds.{removed_channel}
use Rattle.rtc_peer_polling.specs.StreamStages.{channel_over}
use Rattle.rtc_peer_laws.specs.ChannelStreams.{AreNumberedChannels, IsGone}
use Rattle.rtc_peer_laws.specs.RowsChanged.{ClosesRow, RowsAnswered, RowsTold, SameRows}
use Rattle.rtc_peer_laws.proofs.ChannelsOver.{ensured_gone, ensured_over, none_left, removed_gone, without_over}
use Rattle.rtc_run_laws.specs.ConfirmedChannels.{HasConfig}
use Rattle.rtc_run_laws.proofs.ConfigRows.{config_ensured, config_without}
use Rattle.rtc_run_laws.proofs.EnsuredNumbers.{ensured_numbers, removed_numbers}
use Rattle.rtc_run_laws.proofs.RowLemmas.{over_below}
use Rattle.rtc_run_laws.proofs.StandingVisits.{TellsStreamClosed}
use Rattle.rtc_run_laws.proofs.StandingEntries.{HasStanding}
use Rattle.rtc_run_laws.proofs.StreamPolls.{IsShutBefore}

no_some : (c : ℕ) → None ≡ Some c → ⊥
no_some c h = cc

some_is : (a b : ℕ) → Some a ≡ Some b → a ≡ b
some_is a b h = cc

-- ---- channels

pub same_numbers : (held held' : Channels) → SameRows held held' → AreNumberedChannels held → AreNumberedChannels held'
same_numbers held held' is h =
    subst (λ (rows : List Channel). AreNumberedChannels (record held' { rows = rows })) (sym is.0)
    (subst (λ (n : ℕ). AreNumberedChannels (record held' { given = n; rows = held.rows })) (sym is.1) h)

-- the row of a channel that was found goes
pub gone_removed : (c id stream : ℕ) (pending : Bool) (held : Channels) → AreNumberedChannels held → channel_over stream held ≡ Some id → id ≡ c
    → IsGone c (removed_channel id pending held)
gone_removed c id stream pending held numbers over same =
    subst (λ (n : ℕ). IsGone n (removed_channel id pending held)) same
    (over_below held.given stream id held.rows numbers.1 over, none_left 0 id held.rows numbers.0)

-- by what is told
only : (s : ℕ) (es : List StreamEntry) → HasStanding s es ⊎ ⊥ → HasStanding s es
only s es (inl h) = h
only s es (inr k) = absurd k

closed_numbers : (found : Option ℕ) (pending : Bool) (held held' : Channels) → ClosesRow found pending held held' → AreNumberedChannels held
    → AreNumberedChannels held'
closed_numbers (Some id) pending held held' h k = subst (λ (x : Channels). AreNumberedChannels x) (sym h) (removed_numbers id pending held k)
closed_numbers None pending held held' h k = same_numbers held held' h k

event_numbers : (e : SctpEvent) (held held' : Channels) → RowsTold e held held' → AreNumberedChannels held → AreNumberedChannels held'
event_numbers (event.Open stream label) held held' h k = subst (λ (x : Channels). AreNumberedChannels x) (sym h) (ensured_numbers stream held k)
event_numbers (event.Close stream pending) held held' h k = closed_numbers (channel_over stream held) pending held held' h k
event_numbers (event.Transmit packets) held held' h k = same_numbers held held' h k
event_numbers (event.StreamResetComplete id) held held' h k = same_numbers held held' h k
event_numbers (event.Data id binary bytes) held held' h k = same_numbers held held' h k
event_numbers (event.BufferedAmountLow id) held held' h k = same_numbers held held' h k
event_numbers event.AssociationLost held held' h k = same_numbers held held' h k

pub answer_numbers : (answer : Result (Option SctpEvent) AllocError) (held held' : Channels) → RowsAnswered answer held held'
    → AreNumberedChannels held → AreNumberedChannels held'
answer_numbers (Ok (Some e)) held held' h k = event_numbers e held held' h k
answer_numbers (Ok None) held held' h k = same_numbers held held' h k
answer_numbers (Err error) held held' h k = absurd h

module _ {S : Type 0} where
  -- The numbers of channels rise, and no entry was closed before the association began.
  pub record AreSound (held : Channels) (a : SctpStreams S) : Type 0 where
    pub numbers : AreNumberedChannels held
    pub before : IsShutBefore a

  -- A channel that was confirmed has gone, or its row has a config still, or its stream has an entry whose opening is begun.
  pub data IsBegun (c : ℕ) (held : Channels) (a : SctpStreams S) : Type 0 where
    HasGone : IsGone c held → IsBegun c held a
    Awaits : HasConfig c held.rows → IsBegun c held a
    Stands : (s : ℕ) → channel_over s held ≡ Some c → HasStanding s a.entries → IsBegun c held a

  -- rows stay, and entries go on
  pub kept_begun : (c : ℕ) (held held' : Channels) (a b : SctpStreams S) → SameRows held held'
      → ((s : ℕ) → HasStanding s a.entries → HasStanding s b.entries) → IsBegun c held a → IsBegun c held' b
  kept_begun c held held' a b is stands (HasGone h) =
      HasGone
      (subst (λ (rows : List Channel). IsGone c (record held' { rows = rows })) (sym is.0)
      (subst (λ (n : ℕ). IsGone c (record held' { given = n; rows = held.rows })) (sym is.1) h))
  kept_begun c held held' a b is stands (Awaits h) = Awaits (subst (λ (rows : List Channel). HasConfig c rows) (sym is.0) h)
  kept_begun c held held' a b is stands (Stands s over h) =
      Stands s (subst (λ (rows : List Channel). channel_over s (record held' { rows = rows }) ≡ Some c) (sym is.0) over) (stands s h)

  -- ---- polls

  ensured_begun : (c stream : ℕ) (held : Channels) (a b : SctpStreams S) → ((s : ℕ) → HasStanding s a.entries → HasStanding s b.entries)
      → IsBegun c held a → IsBegun c (channel_ensured stream held) b
  ensured_begun c stream held a b stands (HasGone h) = HasGone (ensured_gone stream c held h)
  ensured_begun c stream held a b stands (Awaits h) = Awaits (config_ensured c stream held h)
  ensured_begun c stream held a b stands (Stands s over h) = Stands s (ensured_over stream s c held over) (stands s h)

  removed_begun : (c id stream : ℕ) (pending : Bool) (held : Channels) (a b : SctpStreams S) → AreNumberedChannels held
      → channel_over stream held ≡ Some id
      → ((s : ℕ) → HasStanding s a.entries → HasStanding s b.entries ⊎ (stream ≡ s)) → IsBegun c held a → IsBegun c (removed_channel id pending held) b
  removed_begun c id stream pending held a b numbers over stands h = by (id == c) refl h
    where
      kept : (s : ℕ) → channel_over s held ≡ Some c → (id ≡ c → ⊥) → HasStanding s b.entries ⊎ (stream ≡ s)
          → IsBegun c (removed_channel id pending held) b
      kept s o ne (inl k) = Stands s (without_over s c id held.rows ne o) k
      kept s o ne (inr same) = absurd (ne (some_is id c (sym over ∙ ap (λ (n : ℕ). channel_over n held) same ∙ o)))

      other : (id ≡ c → ⊥) → IsBegun c held a → IsBegun c (removed_channel id pending held) b
      other ne (HasGone k) = HasGone (removed_gone c id pending held k)
      other ne (Awaits k) = Awaits (config_without c id held.rows ne k)
      other ne (Stands s o k) = kept s o ne (stands s k)

      by : (e : Bool) → (id == c) ≡ e → IsBegun c held a → IsBegun c (removed_channel id pending held) b
      by true e k = HasGone (gone_removed c id stream pending held numbers over (eqb-true id c e))
      by false e k = other (eqb-false id c e) k

  -- what an event, and an answer, leave
  abbrev Left : Met → SctpStreams S → SctpStreams S → Type 0
  Left met a b = (s : ℕ) → HasStanding s a.entries → HasStanding s b.entries ⊎ TellsStreamClosed met s

  closed_begun : (c stream : ℕ) (pending : Bool) (found : Option ℕ) (held held' : Channels) (a b : SctpStreams S) → channel_over stream held ≡ found
      → AreNumberedChannels held → ((s : ℕ) → HasStanding s a.entries → HasStanding s b.entries ⊎ (stream ≡ s))
      → ClosesRow found pending held held' → IsBegun c held a → IsBegun c held' b
  closed_begun c stream pending (Some id) held held' a b is numbers left h begun =
      subst (λ (x : Channels). IsBegun c x b) (sym h) (removed_begun c id stream pending held a b numbers is left begun)
  closed_begun c stream pending None held held' a b is numbers left h (HasGone k) = kept_begun c held held' b b h (λ s x. x) (HasGone k)
  closed_begun c stream pending None held held' a b is numbers left h (Awaits k) = kept_begun c held held' b b h (λ s x. x) (Awaits k)
  closed_begun c stream pending None held held' a b is numbers left h (Stands s over k) = by (left s k)
    where
      by : HasStanding s b.entries ⊎ (stream ≡ s) → IsBegun c held' b
      by (inl x) = kept_begun c held held' b b h (λ t y. y) (Stands s over x)
      by (inr same) = absurd (no_some c (sym is ∙ ap (λ (n : ℕ). channel_over n held) same ∙ over))

  event_begun : (c : ℕ) (e : SctpEvent) (held held' : Channels) (a b : SctpStreams S) → AreNumberedChannels held → Left (Output e) a b
      → RowsTold e held held' → IsBegun c held a → IsBegun c held' b
  event_begun c (event.Open stream label) held held' a b numbers left h begun =
      subst (λ (x : Channels). IsBegun c x b) (sym h) (ensured_begun c stream held a b (λ s k. only s b.entries (left s k)) begun)
  event_begun c (event.Close stream pending) held held' a b numbers left h begun =
      closed_begun c stream pending (channel_over stream held) held held' a b refl numbers left h begun
  event_begun c (event.Transmit packets) held held' a b numbers left h begun =
      kept_begun c held held' a b h (λ s k. only s b.entries (left s k)) begun
  event_begun c (event.StreamResetComplete id) held held' a b numbers left h begun =
      kept_begun c held held' a b h (λ s k. only s b.entries (left s k)) begun
  event_begun c (event.Data id binary bytes) held held' a b numbers left h begun =
      kept_begun c held held' a b h (λ s k. only s b.entries (left s k)) begun
  event_begun c (event.BufferedAmountLow id) held held' a b numbers left h begun =
      kept_begun c held held' a b h (λ s k. only s b.entries (left s k)) begun
  event_begun c event.AssociationLost held held' a b numbers left h begun =
      kept_begun c held held' a b h (λ s k. only s b.entries (left s k)) begun

  pub answer_begun : (c : ℕ) (answer : Result (Option SctpEvent) AllocError) (held held' : Channels) (a b : SctpStreams S) → AreNumberedChannels held
      → Left (met_of answer) a b → RowsAnswered answer held held' → IsBegun c held a → IsBegun c held' b
  answer_begun c (Ok (Some e)) held held' a b numbers left h begun = event_begun c e held held' a b numbers left h begun
  answer_begun c (Ok None) held held' a b numbers left h begun = kept_begun c held held' a b h (λ s k. only s b.entries (left s k)) begun
  answer_begun c (Err error) held held' a b numbers left h begun = absurd h
