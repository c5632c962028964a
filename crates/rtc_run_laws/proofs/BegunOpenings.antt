-- A message that opens a channel was written to a generation, and no entry of the stream is open that keeps no generation: as channels and the entries of
-- their streams change.
use Rattle.std.proofs.Common.{◌≡◌, ◌∙◌, ◌⊎◌, ◌||◌, ◌++◌, ◌∷◌, ℕ, zero, suc, Bool, true, false, true≢false, List, [], Option, Some, None, Result, Ok, Err, inl, inr, refl, sym, ap, subst}
use Rattle.std.specs.declared.alloc.AllocError.{AllocError}
use Rattle.rtc_ready.specs.Signals.{Signals}
use Rattle.rtc_wire.specs.declared.channel_config.ChannelConfig.{ChannelConfig}
use Rattle.rtc_parts.specs.AssociationLaws.{AssociationLaws}
use Rattle.rtc_parts.specs.AssociationMeaning.{AssociationMeaning}
use Rattle.rtc_sctp.specs.Streams.{SctpStreams}
use Rattle.rtc_sctp.specs.Calls.{TakesTimeout}
use Rattle.rtc_sctp.specs.Polls.{PollsStreams}
use Rattle.rtc_sctp_entries.specs.declared.met.Met.{Met}
use Rattle.rtc_sctp_entries.specs.declared.met.Met.TheVariants.{Nothing, Output}
use Rattle.rtc_sctp_entries.specs.declared.sctp_event.SctpEvent.{SctpEvent}
use Rattle.rtc_sctp_entries.specs.declared.sctp_event.SctpEvent.TheVariants as event
use Rattle.rtc_sctp_entries.specs.declared.stream_entry.StreamEntry.{StreamEntry}
use Rattle.rtc_sctp_entries.specs.Entries.{is_out_of_band}
use Rattle.rtc_sctp_laws.specs.GenerationLaws.{GenerationLaws}
use Rattle.rtc_sctp_laws.specs.StreamMessages.{StreamMessage, is_dcep_message}
use Rattle.rtc_sctp_laws.specs.StreamUses.{EntryUsed, HasOpenInBand, IsUsed, LeavesUsed, NoneUsed, OneAtMost, OpensRightly, TellsStreamOpen, WereOpened, any_dcep, entries_of, messages_of}
use Rattle.rtc_sctp_laws.specs.UsedCalls.{IsUsedOver, PollUses}
use Rattle.rtc_sctp_laws.proofs.CallUses.{acts_use, closes_use, opens_use, over_same, threshold_use, timeout_use}
use Rattle.rtc_sctp_laws.proofs.GenerationMessages.{messages-append}
use Rattle.rtc_sctp_laws.proofs.OpenedCalls.{closes_opened, opens_opened, threshold_opened, timeout_opened}
use Rattle.rtc_sctp_laws.proofs.UsedPolls.{poll_uses}
use Rattle.rtc_channels.specs.Channels.{Channel, Channels}
use Rattle.rtc_channels.specs.Openings.{Following, MeetsMoment, OpensAll, OpensChannel}
use Rattle.rtc_peer_laws.specs.RowsChanged.{ChangeRows, OnlyActs, RowsAnswered, RowsChange, RowsChanged, Stayed, Polled, Timed, Progressed, ThresholdSet, StreamClosed, Confirmed, Made}
use Rattle.rtc_run_laws.proofs.AnnouncedStreams.{open_one}

no_some : (n : ℕ) → None ≡ Some n → ⊥
no_some n h = cc

any_more : (xs ys : List StreamMessage) → any_dcep xs ≡ true → any_dcep (xs ++ ys) ≡ true
any_more [] ys h = absurd (true≢false (sym h))
any_more (x ∷ xs) ys h = by (is_dcep_message x) h (any_more xs ys)
  where
    by : (b : Bool) → (b || any_dcep xs) ≡ true → (any_dcep xs ≡ true → any_dcep (xs ++ ys) ≡ true) → (b || any_dcep (xs ++ ys)) ≡ true
    by true k rest = refl
    by false k rest = rest k

-- a stream that was opened in-band has an entry with a generation
opened_some : (s g : ℕ) (es : List StreamEntry) (Q : Type 0) (P : StreamEntry → Type 0) (ws hs : List StreamMessage) → HasOpenInBand s None es
    → OneAtMost Q P (entries_of s es) → WereOpened (entries_of s es) g ws hs → ⊥
opened_some s g es Q P ws hs bare one opened =
    let o = open_one s None es Q P bare one in
    by o.entry o.opened.1 o.opened.2 (subst (λ (l : List StreamEntry). WereOpened l g ws hs) o.only opened)
  where
    by : (e : StreamEntry) → e.generation ≡ None → is_out_of_band e ≡ false → WereOpened (e ∷ []) g ws hs → ⊥
    by e none band (inl out) = true≢false (sym out ∙ band)
    by e none band (inr x) = no_some g (sym none ∙ x.1.1)

module _ {S : Type 0} (m : AssociationMeaning S) (w : AssociationLaws m) (v : GenerationLaws m) (s g : ℕ) where
  -- A message that opens a channel was written to the generation; what was written and read of the stream until now; and no entry of it is open that keeps no
  -- generation.
  pub record WroteOpening (a : SctpStreams S) : Type 0 where
    pub written : List StreamMessage
    pub read : List StreamMessage
    pub used : IsUsedOver m s written read a
    pub begun : any_dcep (messages_of s g written) ≡ true
    pub kept : HasOpenInBand s None a.entries → ⊥

  -- ---- changes of channels and of the entries of their streams

  begun_same : (a b : SctpStreams S) → b ≡ a → WroteOpening a → WroteOpening b
  begun_same a b is k = subst (λ (x : SctpStreams S). WroteOpening x) (sym is) k

  begun_on : (a b : SctpStreams S) → ((ws hs : List StreamMessage) → IsUsedOver m s ws hs a → IsUsedOver m s ws hs b)
      → (HasOpenInBand s None b.entries → HasOpenInBand s None a.entries) → WroteOpening a → WroteOpening b
  begun_on a b uses opens k = record {
    written = k.written;
    read = k.read;
    used = uses k.written k.read k.used;
    begun = k.begun;
    kept = λ h. k.kept (opens h);
  }

  opens_one : (stream : Option ℕ) (config : Option ChannelConfig) (id : ℕ) (held : Channels) (p : SctpStreams S) (r : Result (Unit {0}) AllocError)
      (held' : Channels) (q : SctpStreams S) → OpensChannel m stream config id held p r held' q → WroteOpening p → WroteOpening q
  opens_one (Some t) (Some config) id held p r held' q h k =
      begun_on p q (λ ws hs u. opens_use m v t config p r q s ws hs h.0 u) (λ x. opens_opened m t config p r q s None h.0 x) k
  opens_one (Some t) None id held p r held' q h k = begun_same p q h.2 k
  opens_one None config id held p r held' q h k = begun_same p q h.2 k

  all_begun : (rows : List Channel) (held : Channels) (p : SctpStreams S) (r : Result (Unit {0}) AllocError) (held' : Channels) (q : SctpStreams S)
      → OpensAll m rows held p r held' q → WroteOpening p → WroteOpening q
  all_begun [] held p r held' q h k = begun_same p q h.2 k
  all_begun (row ∷ rows) held p r held' q h k =
      by h.0 (opens_one row.stream row.config row.id held p h.0 h.1 h.2 h.3 k) (λ after x. all_begun rows h.1 h.2 r held' q after x) h.4
    where
      by : (did : Result (Unit {0}) AllocError) → WroteOpening h.2 → (OpensAll m rows h.1 h.2 r held' q → WroteOpening h.2 → WroteOpening q)
          → Following did (OpensAll m rows h.1 h.2 r held' q) ((r ≡ did) × (held' ≡ h.1) × (q ≡ h.2)) → WroteOpening q
      by (Ok done) x rest after = rest after x
      by (Err error) x rest after = begun_same h.2 q after.2 x

  progress_begun : (p : SctpStreams S) (r : Result (Unit {0}) AllocError) (held' : Channels) (q : SctpStreams S) (did : Result (Unit {0}) AllocError)
      (between : Channels) → Following did (OpensAll m between.rows between p r held' q) ((r ≡ did) × (held' ≡ between) × (q ≡ p)) → WroteOpening p → WroteOpening q
  progress_begun p r held' q (Ok done) between h k = all_begun between.rows between p r held' q h k
  progress_begun p r held' q (Err error) between h k = begun_same p q h.2 k

  moment_begun : (due : Bool) (held : Channels) (p : SctpStreams S) (wake : Signals) (r : Result (Unit {0}) AllocError) (held' : Channels)
      (q : SctpStreams S) (wake' : Signals) → MeetsMoment m due held p wake r held' q wake' → WroteOpening p → WroteOpening q
  moment_begun false held p wake r held' q wake' h k = begun_same p q h.2 k
  moment_begun true held p wake r held' q wake' h k = progress_begun p r held' q h.0.0 h.0.1 h.0.3 k

  -- a poll of the streams
  opens_by : (met : Met) (a : S) (es : List StreamEntry) (ws hs : List StreamMessage) → TellsStreamOpen met s → OpensRightly m met s a es ws hs
      → WereOpened (entries_of s es) (m.generation a s) (messages_of s (m.generation a s) ws) (messages_of s (m.generation a s) hs)
  opens_by (Output (event.Open id label)) a es ws hs told h = h told
  opens_by met a es ws hs told h = absurd told

  polled_by : (met : Met) (a b : SctpStreams S) (d : PollUses m a met b) (k : WroteOpening a)
      → LeavesUsed m met s (k.written ++ d.wrote) (k.read ++ d.heard) b.association b.entries → WroteOpening b
  polled_by met a b d k left = record {
    written = k.written ++ d.wrote;
    read = k.read ++ d.heard;
    used = left.left;
    begun =
        ap any_dcep (messages-append s g k.written d.wrote) ∙ any_more (messages_of s g k.written) (messages_of s g d.wrote) k.begun;
    kept = λ x. by x (d.fresh s None x);
  }
    where
      by : HasOpenInBand s None b.entries → HasOpenInBand s None a.entries ⊎ TellsStreamOpen met s → ⊥
      by x (inl before) = k.kept before
      by x (inr told) =
          opened_some s (m.generation b.association s) b.entries (NoneUsed m s b.association (k.written ++ d.wrote) (k.read ++ d.heard))
          (EntryUsed m s b.association (k.written ++ d.wrote) (k.read ++ d.heard))
          (messages_of s (m.generation b.association s) (k.written ++ d.wrote)) (messages_of s (m.generation b.association s) (k.read ++ d.heard)) x
          left.left.used
          (opens_by met b.association b.entries (k.written ++ d.wrote) (k.read ++ d.heard) told left.opens)

  polled_begun : (answer : Result (Option SctpEvent) AllocError) (held held' : Channels) (a b : SctpStreams S) → PollsStreams m a answer b
      → RowsAnswered answer held held' → WroteOpening a → WroteOpening b
  polled_begun (Ok None) held held' a b h rows k =
      let d = poll_uses m w a (Ok None) b h in polled_by Nothing a b d k (d.leaves v s k.written k.read k.used)
  polled_begun (Ok (Some told)) held held' a b h rows k =
      let d = poll_uses m w a (Ok (Some told)) b h in polled_by (Output told) a b d k (d.leaves v s k.written k.read k.used)
  polled_begun (Err error) held held' a b h rows k = absurd rows

  only_begun : (a b : SctpStreams S) → OnlyActs m a b → WroteOpening a → WroteOpening b
  only_begun a b h k =
      begun_on a b
      (λ ws hs u.
      subst (λ (l : List StreamEntry). IsUsed m s ws hs b.association l) (sym h.entries)
      (acts_use m v w h.acts a.association b.association a.entries s ws hs h.went u))
      (λ x. subst (λ (l : List StreamEntry). HasOpenInBand s None l) h.entries x) k

  timed_begun : (now : ℕ) (a : SctpStreams S) (wake : Signals) (r : Result (Unit {0}) AllocError) (b : SctpStreams S) (wake' : Signals)
      → TakesTimeout m now a wake r b wake' → WroteOpening a → WroteOpening b
  timed_begun now a wake r b wake' h k =
      begun_on a b (λ ws hs u. timeout_use m v now a wake r b wake' s ws hs h u) (λ x. timeout_opened m now a wake r b wake' s None h x) k

  change_begun : (held : Channels) (a : SctpStreams S) (held' : Channels) (b : SctpStreams S) → RowsChange m held a held' b → WroteOpening a
      → WroteOpening b
  change_begun held a held' b (Stayed rows h) k = only_begun a b h k
  change_begun held a held' b (Polled answer streams h rows association entries state client) k =
      begun_on streams b (λ ws hs u. over_same m v streams b s ws hs association entries u)
      (λ x. subst (λ (l : List StreamEntry). HasOpenInBand s None l) entries x) (polled_begun answer held held' a streams h rows k)
  change_begun held a held' b (Timed now wake wake' r h is) k = timed_begun now a wake r b wake' h k
  change_begun held a held' b (Progressed now wake wake' between h due started signals signals' t) k =
      moment_begun due held between signals (Ok tt) held' b signals' t (timed_begun now a wake (Ok tt) between wake' h k)
  change_begun held a held' b (ThresholdSet n place h is) k =
      begun_on a b (λ ws hs u. threshold_use m v n place a b s ws hs h u) (λ x. threshold_opened m n place a b s None h x) k
  change_begun held a held' b (StreamClosed stream r h is) k =
      begun_on a b (λ ws hs u. closes_use m v stream a r b s ws hs h u) (λ x. closes_opened m stream a r b s None h x) k
  change_begun held a held' b (Confirmed channels is h) k = only_begun a b h k
  change_begun held a held' b (Made config is h) k = only_begun a b h k

  changes_begun : (n : ℕ) (held : Channels) (a : SctpStreams S) (held' : Channels) (b : SctpStreams S) → ChangeRows m n held a held' b → WroteOpening a
      → WroteOpening b
  changes_begun zero held a held' b h k = begun_same a b h.1 k
  changes_begun (suc n) held a held' b h k = change_begun h.0 h.1.0 held' b h.1.1.1 (changes_begun n held a h.0 h.1.0 h.1.1.0 k)

  pub rows_begun : (held : Channels) (a : SctpStreams S) (held' : Channels) (b : SctpStreams S) → RowsChanged m held a held' b → WroteOpening a
      → WroteOpening b
  rows_begun held a held' b h k = changes_begun h.changes held a held' b h.changed k
