-- A channel over a stream that was settled by other means than messages stays so, or its row goes: by each change of channels and of the
-- entries of their streams.
use Rattle.std.proofs.Common.{◌≡◌, ◌∙◌, ◌⊎◌, ◌==◌, inl, inr, ℕ, zero, suc, Bool, true, false, List, [], ◌∷◌, Option, Some, None, Result, Ok, Err, refl, sym, ap, subst}
use Rattle.std.specs.declared.alloc.AllocError.{AllocError}
use Rattle.std.proofs.lemmas.Bool.{eqb-true, eqb-false}
use Rattle.rtc_ready.specs.Signals.{Signals}
use Rattle.rtc_wire.specs.declared.channel_config.ChannelConfig.{ChannelConfig}
use Rattle.rtc_parts.specs.AssociationLaws.{AssociationLaws}
use Rattle.rtc_parts.specs.AssociationMeaning.{AssociationMeaning}
use Rattle.rtc_sctp_entries.specs.declared.met.Met.{Met}
use Rattle.rtc_sctp_entries.specs.declared.met.Met.TheVariants.{Output}
use Rattle.rtc_sctp_entries.specs.declared.stream_entry.StreamEntry.{StreamEntry}
use Rattle.rtc_sctp_entries.specs.declared.sctp_event.SctpEvent.{SctpEvent}
use Rattle.rtc_sctp_entries.specs.declared.sctp_event.SctpEvent.TheVariants as event
use Rattle.rtc_sctp_entries.specs.Entries.{Ascend}
use Rattle.rtc_sctp.specs.Streams.{SctpStreams}
use Rattle.rtc_sctp_laws.specs.StreamMessages.{met_of}
use Rattle.rtc_channels.specs.Allocation.{Allocates, all_allocated, channel_ensured}
use Rattle.rtc_channels.specs.Channels.{Channel, Channels, all_confirmed, with_channel}
use Rattle.rtc_channels.specs.Holds.{all_cancelled, removed_channel}
use Rattle.rtc_channels.specs.Openings.{Following, MeetsMoment, OpensAll, OpensChannel, config_handed}
use Rattle.rtc_peer_polling.specs.StreamStages.{channel_over}
use Rattle.rtc_peer_laws.specs.ChannelStreams.{AreNumberedChannels, IsGone}
use Rattle.rtc_peer_laws.specs.RowsChanged.{ChangeRows, ClosesRow, RowsAnswered, RowsChange, RowsChanged, RowsTold, SameRows}
use Rattle.rtc_peer_laws.specs.RowsChanged.{Stayed, Polled, Timed, Progressed, ThresholdSet, StreamClosed, Confirmed, Made}
use Rattle.rtc_peer_laws.proofs.AllocatedChannels.{all_over, handed_over}
use Rattle.rtc_peer_laws.proofs.CancelledChannels.{cancelled_gone, cancelled_over}
use Rattle.rtc_peer_laws.proofs.ChangedRows.{same_rows}
use Rattle.rtc_peer_laws.proofs.ChannelsOver.{ensured_gone, ensured_over, removed_gone, without_over}
use Rattle.rtc_peer_laws.proofs.ConfirmedChannels.{all_confirmed_over, made_over}
use Rattle.rtc_peer_laws.proofs.GoneChannels.{all_confirmed_gone, allocated_gone, handed_gone, made_gone}
use Rattle.rtc_run_laws.proofs.BegunRows.{AreSound, gone_removed}
use Rattle.rtc_run_laws.proofs.OpenedRows.{change_sound}
use Rattle.rtc_run_laws.proofs.OutOpenings.{opens_out}
use Rattle.rtc_run_laws.proofs.StandingCalls.{closes_kept, opens_ordered, threshold_kept, timeout_kept}
use Rattle.rtc_run_laws.proofs.StandingEntries.{HasOutStanding, Kept, kept_is}
use Rattle.rtc_run_laws.proofs.StandingVisits.{TellsStreamClosed}
use Rattle.rtc_run_laws.proofs.StreamPolls.{poll_goes}

no_some : (c : ℕ) → None ≡ Some c → ⊥
no_some c h = cc

some_is : (a b : ℕ) → Some a ≡ Some b → a ≡ b
some_is a b h = cc

not_lacking : (error : AllocError) → ◌≡◌ {A = Result (Unit {0}) AllocError} (Ok tt) (Err error) → ⊥
not_lacking error h = cc

-- The row of a channel has gone, or its stream was settled by other means than messages, and has an entry that is not closed.
pub data IsOutChannel (c : ℕ) (held : Channels) (es : List StreamEntry) : Type 0 where
  OutGone : IsGone c held → IsOutChannel c held es
  OutStands : (s : ℕ) → channel_over s held ≡ Some c → HasOutStanding s es → IsOutChannel c held es

-- entries of which these stand still
abbrev OutsStand : List StreamEntry → List StreamEntry → Type 0
OutsStand es es' = (s : ℕ) → HasOutStanding s es → HasOutStanding s es'

-- rows stay
out_kept : (c : ℕ) (held held' : Channels) (es es' : List StreamEntry) → SameRows held held' → OutsStand es es' → IsOutChannel c held es
    → IsOutChannel c held' es'
out_kept c held held' es es' is outs (OutGone h) =
    OutGone
    (subst (λ (rows : List Channel). IsGone c (record held' { rows = rows })) (sym is.0)
    (subst (λ (n : ℕ). IsGone c (record held' { given = n; rows = held.rows })) (sym is.1) h))
out_kept c held held' es es' is outs (OutStands s over h) =
    OutStands s (subst (λ (rows : List Channel). channel_over s (record held' { rows = rows }) ≡ Some c) (sym is.0) over) (outs s h)

-- ---- polls

-- by what is told
only : (s : ℕ) (es : List StreamEntry) → HasOutStanding s es ⊎ ⊥ → HasOutStanding s es
only s es (inl h) = h
only s es (inr k) = absurd k

ensured_out : (c stream : ℕ) (held : Channels) (es es' : List StreamEntry) → OutsStand es es' → IsOutChannel c held es
    → IsOutChannel c (channel_ensured stream held) es'
ensured_out c stream held es es' outs (OutGone h) = OutGone (ensured_gone stream c held h)
ensured_out c stream held es es' outs (OutStands s over h) = OutStands s (ensured_over stream s c held over) (outs s h)

removed_out : (c id stream : ℕ) (pending : Bool) (held : Channels) (es es' : List StreamEntry) → AreNumberedChannels held
    → channel_over stream held ≡ Some id → ((s : ℕ) → HasOutStanding s es → HasOutStanding s es' ⊎ (stream ≡ s)) → IsOutChannel c held es
    → IsOutChannel c (removed_channel id pending held) es'
removed_out c id stream pending held es es' numbers over outs h = by (id == c) refl h
  where
    kept : (s : ℕ) → channel_over s held ≡ Some c → (id ≡ c → ⊥) → HasOutStanding s es' ⊎ (stream ≡ s)
        → IsOutChannel c (removed_channel id pending held) es'
    kept s o ne (inl k) = OutStands s (without_over s c id held.rows ne o) k
    kept s o ne (inr same) = absurd (ne (some_is id c (sym over ∙ ap (λ (n : ℕ). channel_over n held) same ∙ o)))

    other : (id ≡ c → ⊥) → IsOutChannel c held es → IsOutChannel c (removed_channel id pending held) es'
    other ne (OutGone k) = OutGone (removed_gone c id pending held k)
    other ne (OutStands s o k) = kept s o ne (outs s k)

    by : (e : Bool) → (id == c) ≡ e → IsOutChannel c held es → IsOutChannel c (removed_channel id pending held) es'
    by true e k = OutGone (gone_removed c id stream pending held numbers over (eqb-true id c e))
    by false e k = other (eqb-false id c e) k

-- what an event, and an answer, leave
abbrev Left : Met → List StreamEntry → List StreamEntry → Type 0
Left met es es' = (s : ℕ) → HasOutStanding s es → HasOutStanding s es' ⊎ TellsStreamClosed met s

closed_out : (c stream : ℕ) (pending : Bool) (found : Option ℕ) (held held' : Channels) (es es' : List StreamEntry) → channel_over stream held ≡ found
    → AreNumberedChannels held → ((s : ℕ) → HasOutStanding s es → HasOutStanding s es' ⊎ (stream ≡ s)) → ClosesRow found pending held held'
    → IsOutChannel c held es → IsOutChannel c held' es'
closed_out c stream pending (Some id) held held' es es' is numbers left h out =
    subst (λ (x : Channels). IsOutChannel c x es') (sym h) (removed_out c id stream pending held es es' numbers is left out)
closed_out c stream pending None held held' es es' is numbers left h (OutGone k) = out_kept c held held' es' es' h (λ s x. x) (OutGone k)
closed_out c stream pending None held held' es es' is numbers left h (OutStands s over k) = by (left s k)
  where
    by : HasOutStanding s es' ⊎ (stream ≡ s) → IsOutChannel c held' es'
    by (inl x) = out_kept c held held' es' es' h (λ t y. y) (OutStands s over x)
    by (inr same) = absurd (no_some c (sym is ∙ ap (λ (n : ℕ). channel_over n held) same ∙ over))

event_out : (c : ℕ) (e : SctpEvent) (held held' : Channels) (es es' : List StreamEntry) → AreNumberedChannels held → Left (Output e) es es'
    → RowsTold e held held' → IsOutChannel c held es → IsOutChannel c held' es'
event_out c (event.Open stream label) held held' es es' numbers left h out =
    subst (λ (x : Channels). IsOutChannel c x es') (sym h) (ensured_out c stream held es es' (λ s k. only s es' (left s k)) out)
event_out c (event.Close stream pending) held held' es es' numbers left h out =
    closed_out c stream pending (channel_over stream held) held held' es es' refl numbers left h out
event_out c (event.Transmit packets) held held' es es' numbers left h out = out_kept c held held' es es' h (λ s k. only s es' (left s k)) out
event_out c (event.StreamResetComplete id) held held' es es' numbers left h out = out_kept c held held' es es' h (λ s k. only s es' (left s k)) out
event_out c (event.Data id binary bytes) held held' es es' numbers left h out = out_kept c held held' es es' h (λ s k. only s es' (left s k)) out
event_out c (event.BufferedAmountLow id) held held' es es' numbers left h out = out_kept c held held' es es' h (λ s k. only s es' (left s k)) out
event_out c event.AssociationLost held held' es es' numbers left h out = out_kept c held held' es es' h (λ s k. only s es' (left s k)) out

answer_out : (c : ℕ) (answer : Result (Option SctpEvent) AllocError) (held held' : Channels) (es es' : List StreamEntry) → AreNumberedChannels held
    → Left (met_of answer) es es' → RowsAnswered answer held held' → IsOutChannel c held es → IsOutChannel c held' es'
answer_out c (Ok (Some e)) held held' es es' numbers left h out = event_out c e held held' es es' numbers left h out
answer_out c (Ok None) held held' es es' numbers left h out = out_kept c held held' es es' h (λ s k. only s es' (left s k)) out
answer_out c (Err error) held held' es es' numbers left h out = absurd h

-- ---- rows are cancelled, confirmed and added

pub out_cancelled : (c : ℕ) (channels : List (ℕ × ChannelConfig)) (held : Channels) (es : List StreamEntry) → AreNumberedChannels held
    → IsOutChannel c held es → IsOutChannel c (all_cancelled channels held) es
out_cancelled c channels held es numbers (OutGone k) = OutGone (cancelled_gone c channels held k)
out_cancelled c channels held es numbers (OutStands s over k) = by (cancelled_over s c channels held numbers over)
  where
    by : (channel_over s (all_cancelled channels held) ≡ Some c) ⊎ IsGone c (all_cancelled channels held)
        → IsOutChannel c (all_cancelled channels held) es
    by (inl still) = OutStands s still k
    by (inr gone) = OutGone gone

out_confirmed : (c : ℕ) (channels : List (ℕ × ChannelConfig)) (held : Channels) (es es' : List StreamEntry) → es' ≡ es → IsOutChannel c held es
    → IsOutChannel c (all_confirmed channels held) es'
out_confirmed c channels held es es' same (OutGone k) = OutGone (all_confirmed_gone c channels held k)
out_confirmed c channels held es es' same (OutStands s over k) =
    OutStands s (all_confirmed_over s channels held ∙ over) (subst (λ (l : List StreamEntry). HasOutStanding s l) (sym same) k)

out_made : (c : ℕ) (config : ChannelConfig) (held : Channels) (es es' : List StreamEntry) → es' ≡ es → IsOutChannel c held es
    → IsOutChannel c (with_channel held config) es'
out_made c config held es es' same (OutGone k) = OutGone (made_gone c held config k)
out_made c config held es es' same (OutStands s over k) =
    OutStands s (made_over s c held config over) (subst (λ (l : List StreamEntry). HasOutStanding s l) (sym same) k)

module _ {S : Type 0} (m : AssociationMeaning S) where
  -- what becomes of such channels, and of the order of the entries
  pub record OutGoes (held : Channels) (a : SctpStreams S) (held' : Channels) (b : SctpStreams S) : Type 0 where
    pub outs : (c : ℕ) → IsOutChannel c held a.entries → IsOutChannel c held' b.entries
    pub ordered : Ascend a.entries → Ascend b.entries

  out_same : (held : Channels) (a : SctpStreams S) (held' : Channels) (b : SctpStreams S) → held' ≡ held → b ≡ a → OutGoes held a held' b
  out_same held a held' b is same =
      subst (λ (x : Channels). OutGoes held a x b) (sym is)
      (subst (λ (y : SctpStreams S). OutGoes held a held y) (sym same) (record { outs = λ c k. k; ordered = λ k. k }))

  out_on : (held : Channels) (a : SctpStreams S) (x : Channels) (y : SctpStreams S) (held' : Channels) (b : SctpStreams S) → OutGoes held a x y
      → OutGoes x y held' b → OutGoes held a held' b
  out_on held a x y held' b h k = record { outs = λ c out. k.outs c (h.outs c out); ordered = λ o. k.ordered (h.ordered o) }

  -- entries alone
  out_entries : (held : Channels) (a : SctpStreams S) (held' : Channels) (b : SctpStreams S) → SameRows held held' → Kept a.entries b.entries
      → OutGoes held a held' b
  out_entries held a held' b is kept =
      record { outs = λ c k. out_kept c held held' a.entries b.entries is kept.outs k; ordered = λ k. kept.ordered k }

  -- the stream of a channel is opened
  handed_out : (c s id : ℕ) (config : ChannelConfig) (held : Channels) (p q : SctpStreams S)
      → ((t : ℕ) → HasOutStanding t p.entries → HasOutStanding t q.entries) → IsOutChannel c held p.entries
      → IsOutChannel c (config_handed id held) q.entries
  handed_out c s id config held p q outs (OutGone k) = OutGone (handed_gone c id held k)
  handed_out c s id config held p q outs (OutStands t over k) = OutStands t (handed_over t id c held over) (outs t k)

  opens_one : (stream : Option ℕ) (config : Option ChannelConfig) (id : ℕ) (held : Channels) (p : SctpStreams S) (held' : Channels) (q : SctpStreams S)
      → OpensChannel m stream config id held p (Ok tt) held' q → OutGoes held p held' q
  opens_one (Some s) (Some config) id held p held' q h =
      subst (λ (x : Channels). OutGoes held p x q) (sym h.1)
      (record {
        outs = λ c k. handed_out c s id config held p q (opens_out m s config p q h.0) k;
        ordered = λ k. opens_ordered m s config p q h.0 k;
      })
  opens_one (Some s) None id held p held' q h = out_same held p held' q h.1 h.2
  opens_one None config id held p held' q h = out_same held p held' q h.1 h.2

  all_out : (rows : List Channel) (held : Channels) (p : SctpStreams S) (held' : Channels) (q : SctpStreams S) → OpensAll m rows held p (Ok tt) held' q
      → OutGoes held p held' q
  all_out [] held p held' q h = out_same held p held' q h.1 h.2
  all_out (row ∷ rows) held p held' q h = by h.0 h.3 (λ k. all_out rows h.1 h.2 held' q k) h.4
    where
      by : (did : Result (Unit {0}) AllocError) → OpensChannel m row.stream row.config row.id held p did h.1 h.2
          → (OpensAll m rows h.1 h.2 (Ok tt) held' q → OutGoes h.1 h.2 held' q)
          → Following did (OpensAll m rows h.1 h.2 (Ok tt) held' q) ((Ok tt ≡ did) × (held' ≡ h.1) × (q ≡ h.2)) → OutGoes held p held' q
      by (Ok done) one rest k =
          out_on held p h.1 h.2 held' q (opens_one row.stream row.config row.id held p h.1 h.2 one) (rest k)
      by (Err error) one rest k = absurd (not_lacking error k.0)

  allocated_out : (c parity : ℕ) (held : Channels) (es : List StreamEntry) → AreNumberedChannels held → IsOutChannel c held es
      → IsOutChannel c (all_allocated parity held.rows held) es
  allocated_out c parity held es numbers (OutGone k) = OutGone (allocated_gone parity c held.rows held k)
  allocated_out c parity held es numbers (OutStands s over k) = OutStands s (all_over parity s c held numbers over) k

  progress_out : (parity : ℕ) (held : Channels) (p : SctpStreams S) (held' : Channels) (q : SctpStreams S) (did : Result (Unit {0}) AllocError)
      (between : Channels) → AreNumberedChannels held → Allocates parity held did between
      → Following did (OpensAll m between.rows between p (Ok tt) held' q) ((Ok tt ≡ did) × (held' ≡ between) × (q ≡ p)) → OutGoes held p held' q
  progress_out parity held p held' q (Ok done) between numbers h k =
      out_on held p between p held' q
      (subst (λ (x : Channels). OutGoes held p x p) (sym h)
      (record { outs = λ c out. allocated_out c parity held p.entries numbers out; ordered = λ o. o }))
      (all_out between.rows between p held' q k)
  progress_out parity held p held' q (Err error) between numbers h k = absurd (not_lacking error k.0)

  moment_out : (due : Bool) (held : Channels) (p : SctpStreams S) (wake : Signals) (held' : Channels) (q : SctpStreams S) (wake' : Signals)
      → AreNumberedChannels held → MeetsMoment m due held p wake (Ok tt) held' q wake' → OutGoes held p held' q
  moment_out false held p wake held' q wake' numbers h = out_same held p held' q h.1 h.2
  moment_out true held p wake held' q wake' numbers h = progress_out _ held p held' q h.0.0 h.0.1 numbers h.0.2 h.0.3

  -- ---- changes

  module _ (w : AssociationLaws m) where
    after_poll : (met : Met) (s : ℕ) (es fs : List StreamEntry) → fs ≡ es → HasOutStanding s es ⊎ TellsStreamClosed met s
        → HasOutStanding s fs ⊎ TellsStreamClosed met s
    after_poll met s es fs is h = subst (λ (l : List StreamEntry). HasOutStanding s l ⊎ TellsStreamClosed met s) (sym is) h

    change_out : (held : Channels) (a : SctpStreams S) (held' : Channels) (b : SctpStreams S) → RowsChange m held a held' b → AreSound held a
        → OutGoes held a held' b
    change_out held a held' b (Stayed rows h) sound = out_entries held a held' b rows (kept_is a.entries b.entries h.entries)
    change_out held a held' b (Polled answer streams h rows association entries state client) sound =
        let goes = poll_goes m w a answer streams h in
        record {
          outs = λ c k.
              answer_out c answer held held' a.entries b.entries sound.numbers
              (λ s x. after_poll (met_of answer) s streams.entries b.entries entries (goes.outs s x)) rows k;
          ordered = λ k. subst (λ (l : List StreamEntry). Ascend l) (sym entries) (goes.ordered k);
        }
    change_out held a held' b (Timed now wake wake' r h is) sound =
        out_entries held a held' b (same_rows held held' is) (timeout_kept m now a wake r b wake' h)
    change_out held a held' b (Progressed now wake wake' between h due started signals signals' k) sound =
        out_on held a held between held' b (out_entries held a held between (refl, refl) (timeout_kept m now a wake (Ok tt) between wake' h))
        (moment_out due held between signals held' b signals' sound.numbers k)
    change_out held a held' b (ThresholdSet n place h is) sound =
        out_entries held a held' b (same_rows held held' is) (threshold_kept m n place a b h)
    change_out held a held' b (StreamClosed stream r h is) sound =
        out_entries held a held' b (same_rows held held' is) (closes_kept m stream a r b h)
    change_out held a held' b (Confirmed channels is h) sound =
        subst (λ (x : Channels). OutGoes held a x b) (sym is)
        (record {
          outs = λ c k. out_confirmed c channels held a.entries b.entries h.entries k;
          ordered = λ k. subst (λ (l : List StreamEntry). Ascend l) (sym h.entries) k;
        })
    change_out held a held' b (Made config is h) sound =
        subst (λ (x : Channels). OutGoes held a x b) (sym is)
        (record {
          outs = λ c k. out_made c config held a.entries b.entries h.entries k;
          ordered = λ k. subst (λ (l : List StreamEntry). Ascend l) (sym h.entries) k;
        })

    -- one after the other
    record BothGo (held : Channels) (a : SctpStreams S) (held' : Channels) (b : SctpStreams S) : Type 0 where
      sound : AreSound held' b
      goes : OutGoes held a held' b

    changes_out : (n : ℕ) (held : Channels) (a : SctpStreams S) (held' : Channels) (b : SctpStreams S) → ChangeRows m n held a held' b → AreSound held a
        → BothGo held a held' b
    changes_out zero held a held' b h sound =
        subst (λ (x : Channels). BothGo held a x b) (sym h.0)
        (subst (λ (y : SctpStreams S). BothGo held a held y) (sym h.1) (record { sound = sound; goes = record { outs = λ c k. k; ordered = λ k. k } }))
    changes_out (suc n) held a held' b h sound =
        let first = changes_out n held a h.0 h.1.0 h.1.1.0 sound in
        record {
          sound = change_sound m w h.0 h.1.0 held' b h.1.1.1 first.sound;
          goes = out_on held a h.0 h.1.0 held' b first.goes (change_out h.0 h.1.0 held' b h.1.1.1 first.sound);
        }

    pub changed_out : (held : Channels) (a : SctpStreams S) (held' : Channels) (b : SctpStreams S) → RowsChanged m held a held' b → AreSound held a
        → OutGoes held a held' b
    changed_out held a held' b h sound = (changes_out h.changes held a held' b h.changed sound).goes
