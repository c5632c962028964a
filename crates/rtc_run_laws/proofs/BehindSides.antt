-- What a side sends to a generation behind a message that opens a channel, it sends over a channel that it announced.
use Rattle.std.proofs.Common.{◌≡◌, ◌∙◌, ◌⊎◌, ◌≤◌, ◌-◌, ◌^◌, ◌==◌, ◌&&◌, ◌||◌, ◌++◌, ◌∷◌, if◌then◌else◌, not, ℕ, Bool, true, false, true≢false, List, [], Option, Some, Result, Ok, Err, inl, inr, length, refl, sym, ap, subst}
use Rattle.std.specs.Prelude.{nat_lt}
use Rattle.std.proofs.lemmas.Bool.{eqb-true}
use Rattle.rtc_parts.specs.AssociationLaws.{AssociationLaws}
use Rattle.rtc_parts.specs.declared.assoc_error.AssocError.{AssocError}
use Rattle.rtc_sctp_entries.specs.declared.stream_entry.StreamEntry.{StreamEntry}
use Rattle.rtc_sctp_entries.specs.declared.stream_entry_state.StreamEntryState.{StreamEntryState}
use Rattle.rtc_sctp_entries.specs.declared.stream_entry_state.StreamEntryState.TheVariants.{AwaitOpen, AwaitConfig, AwaitDcepAck, Open, Closed as EntryClosed}
use Rattle.rtc_sctp_entries.specs.Entries.{has_open, is_open_state, is_out_of_band}
use Rattle.rtc_sctp.specs.Calls.{WritesStream, WrittenIf, can_write, is_current, is_ended, is_nil, write_answer, written_ppi}
use Rattle.rtc_sctp.specs.Streams.{is_established}
use Rattle.rtc_sctp_values.specs.declared.sctp_error.SctpError.{SctpError}
use Rattle.rtc_sctp_laws.specs.Contents.{contents_of}
use Rattle.rtc_sctp_laws.specs.GenerationLaws.{GenerationLaws}
use Rattle.rtc_sctp_laws.specs.StreamMessages.{StreamMessage, is_dcep, stream_message}
use Rattle.rtc_sctp_laws.specs.StreamUses.{EntryUsed, HasOpenInBand, IsDcepInBand, IsLiveIn, IsOpenInBand, IsWithoutDcep, NoneUsed, OneAtMost, any_dcep, entries_of, is_spent_stream, messages_of}
use Rattle.rtc_sctp_laws.proofs.GenerationMessages.{messages-append, messages_one}
use Rattle.rtc_sctp_laws.proofs.KnownUses.{write_facts}
use Rattle.rtc_peer_core.specs.declared.phase.Phase.TheVariants.{Closed}
use Rattle.rtc_peer_core.specs.Meanings.{Meanings}
use Rattle.rtc_peer_transport.specs.ChannelCalls.{WritesChannel, WritesIf, bytes_available, write_taken}
use Rattle.rtc_peer_transport.specs.declared.polled_peer.PolledPeer.{PolledPeer}
use Rattle.rtc_peer_laws.specs.ChannelStreams.{AreNumbersGiven}
use Rattle.rtc_peer_laws.proofs.KeptPeers.{channel_writes_own}
use Rattle.rtc_peer_laws.proofs.StreamsJoin.{given_on}
use Rattle.rtc_run_laws.specs.ChannelUses.{ChannelUse, with_sent_message}
use Rattle.rtc_run_laws.proofs.AnnouncedStreams.{AnnouncedUnlessClosed, HasUseOver, found, over_sent}
use Rattle.rtc_run_laws.proofs.BehindOpenings.{behind_data, behind_dcep, behind_more}
use Rattle.rtc_run_laws.proofs.UsesTold.{UsedUnlessClosed}

-- ---- the one entry of a stream that is open

record OpenOnly (s : ℕ) (es : List StreamEntry) (P : StreamEntry → Type 0) : Type 0 where
  entry : StreamEntry
  only : entries_of s es ≡ entry ∷ []
  is_open : entry.state ≡ Open
  used : P entry

is_open_entry : (st : StreamEntryState) → is_open_state st ≡ true → st ≡ Open
is_open_entry Open h = refl
is_open_entry AwaitOpen h = absurd (true≢false (sym h))
is_open_entry AwaitConfig h = absurd (true≢false (sym h))
is_open_entry AwaitDcepAck h = absurd (true≢false (sym h))
is_open_entry EntryClosed h = absurd (true≢false (sym h))

abbrev AnyOpened : List StreamEntry → Type 0
AnyOpened [] = ⊥
AnyOpened (e ∷ l) = (e.state ≡ Open) ⊎ AnyOpened l

any_opened : (s : ℕ) (es : List StreamEntry) → has_open s es ≡ true → AnyOpened (entries_of s es)
any_opened s [] h = absurd (true≢false (sym h))
any_opened s (e ∷ es) h = by (e.id == s) (is_open_state e.state) refl h (any_opened s es)
  where
    by : (c d : Bool) → is_open_state e.state ≡ d → ((c && d) || has_open s es) ≡ true → (has_open s es ≡ true → AnyOpened (entries_of s es))
        → AnyOpened (if c then e ∷ entries_of s es else entries_of s es)
    by true true g k rest = inl (is_open_entry e.state g)
    by true false g k rest = inr (rest k)
    by false d g k rest = rest k

open_only : (s : ℕ) (es : List StreamEntry) (Q : Type 0) (P : StreamEntry → Type 0) → has_open s es ≡ true → OneAtMost Q P (entries_of s es) → OpenOnly s es P
open_only s es Q P h one = by (entries_of s es) refl (any_opened s es h) one
  where
    by : (l : List StreamEntry) → entries_of s es ≡ l → AnyOpened l → OneAtMost Q P l → OpenOnly s es P
    by [] is any k = absurd any
    by (e ∷ []) is (inl opened) k = record { entry = e; only = is; is_open = opened; used = k }
    by (e ∷ []) is (inr none) k = absurd none
    by (e ∷ f ∷ l) is any k = absurd k

first_is : (x e : StreamEntry) (l l' : List StreamEntry) → x ∷ l ≡ e ∷ l' → x ≡ e
first_is x e l l' h = cc

pub in_band_has : (s : ℕ) (own : Option ℕ) (es : List StreamEntry) (e : StreamEntry) (l : List StreamEntry) → entries_of s es ≡ e ∷ l → IsOpenInBand own e
    → HasOpenInBand s own es
in_band_has s own [] e l h k = absurd (none_some h)
  where
    none_some : [] ≡ e ∷ l → ⊥
    none_some f = cc
in_band_has s own (x ∷ es) e l h k = by (x.id == s) refl h (λ f. in_band_has s own es e l f k)
  where
    by : (c : Bool) → (x.id == s) ≡ c → (if c then x ∷ entries_of s es else entries_of s es) ≡ e ∷ l → (entries_of s es ≡ e ∷ l → HasOpenInBand s own es)
        → ((x.id ≡ s) × IsOpenInBand own x) ⊎ HasOpenInBand s own es
    by true c f rest = inl (eqb-true x.id s c, subst (λ (y : StreamEntry). IsOpenInBand own y) (sym (first_is x e (entries_of s es) l f)) k)
    by false c f rest = inr (rest f)

-- ---- what is written

written_data : (binary empty : Bool) → is_dcep (written_ppi binary empty) ≡ false
written_data true true = refl
written_data true false = refl
written_data false true = refl
written_data false false = refl

open_and : (a b c : Bool) → ((a && b) && c) ≡ true → b ≡ true
open_and true true c h = refl
open_and true false c h = h
open_and false b c h = absurd (true≢false (sym h))

both_true : (a b : Bool) → (a && b) ≡ true → (a ≡ true) × (b ≡ true)
both_true true b h = (refl, h)
both_true false b h = absurd (true≢false (sym h))

module _ {I D S M E X T W N : Type 0} (m : Meanings I D S M E X T W N) where
  -- What was written to a generation behind a message that opens a channel carries nothing; or a channel was announced over it, unless no
  -- number was left for one.
  abbrev pub IsBehind : (s g : ℕ) (written : List StreamMessage) → List ChannelUse → PolledPeer I D S M N → Type 0
  IsBehind s g written uses p =
      (contents_of (behind_dcep (messages_of s g written)) ≡ []) ⊎ (HasUseOver s (Some g) uses ⊎ AreNumbersGiven p.core.channels)

  abbrev pub AreBehind : (written : List StreamMessage) → List ChannelUse → PolledPeer I D S M N → Type 0
  AreBehind written uses p = (s g : ℕ) → IsBehind s g written uses p

  -- nothing more is sent to it
  behind_at : (s g : ℕ) (p q : PolledPeer I D S M N) (uses uses' : List ChannelUse) (written wrote : List StreamMessage)
      → p.core.channels.given ≤ q.core.channels.given → (HasUseOver s (Some g) uses → HasUseOver s (Some g) uses')
      → contents_of (messages_of s g wrote) ≡ [] → IsBehind s g written uses p → IsBehind s g (written ++ wrote) uses' q
  behind_at s g p q uses uses' written wrote given more none (inl h) =
      inl
      (ap (λ (l : List StreamMessage). contents_of (behind_dcep l)) (messages-append s g written wrote)
      ∙ behind_more (messages_of s g written) (messages_of s g wrote) none h)
  behind_at s g p q uses uses' written wrote given more none (inr (inl over)) = inr (inl (more over))
  behind_at s g p q uses uses' written wrote given more none (inr (inr full)) =
      inr (inr (given_on (2 ^ 64 - 1) p.core.channels.given q.core.channels.given full given))

  pub behind_on : (p q : PolledPeer I D S M N) (uses uses' : List ChannelUse) (written wrote : List StreamMessage)
      → p.core.channels.given ≤ q.core.channels.given → ((s : ℕ) (own : Option ℕ) → HasUseOver s own uses → HasUseOver s own uses')
      → ((s g : ℕ) → contents_of (messages_of s g wrote) ≡ []) → AreBehind written uses p → AreBehind (written ++ wrote) uses' q
  behind_on p q uses uses' written wrote given more none h = λ s g. behind_at s g p q uses uses' written wrote given (more s (Some g)) (none s g) (h s g)

  module _ (w : AssociationLaws m.association) (v : GenerationLaws m.association) (stream : ℕ) (binary : Bool) (bytes : List ℕ)
      (p q : PolledPeer I D S M N) (writes : WritesChannel m stream binary bytes p (Ok true) q) where
    abbrev now : ℕ
    now = m.association.generation p.core.sctp.association stream

    -- the stream that takes the message is open, and not spent
    abbrev IsTaking : Type 0
    IsTaking = (has_open stream p.core.sctp.entries ≡ true) × (is_spent_stream m.association stream p.core.sctp.association ≡ false)

    taken : (b c : Bool) (n : ℕ) → (b ≡ true → has_open stream p.core.sctp.entries ≡ true)
        → WrittenIf m.association b c stream binary bytes p.core.sctp (Ok n) q.core.sctp → IsTaking
    taken false c n there h = absurd (let e = h.0 in cc)
    taken true false n there h = absurd (let e = h.0 in cc)
    taken true true n there h = (there refl, by h.0 h.1 h.2)
      where
        by : (answer : Result ℕ AssocError) → m.association.wrote p.core.sctp.association stream (written_ppi binary (is_nil bytes)) bytes answer q.core.sctp.association
            → Ok n ≡ write_answer stream (length bytes) p.core.sctp.remote_max answer → is_spent_stream m.association stream p.core.sctp.association ≡ false
        by (Ok count) wrote e =
            (write_facts m.association w v stream p.core.sctp.association q.core.sctp.association (written_ppi binary (is_nil bytes)) bytes count wrote).1
        by (Err error) wrote e = absurd (let f = e in cc)

    taking : (full : Bool) → WritesIf m full stream binary bytes p (Ok true) q → IsTaking
    taking true h = absurd (let e = h.0 in cc)
    taking false h = by h.0 h.1 h.2
      where
        by : (answer : Result ℕ SctpError) → WritesStream m.association stream binary bytes p.core.sctp answer q.core.sctp → Ok true ≡ write_taken answer → IsTaking
        by (Ok count) wrote e =
            taken (can_write m.association stream p.core.sctp) (is_current m.association stream p.core.sctp) count
            (λ f. open_and (is_established p.core.sctp.state) (has_open stream p.core.sctp.entries) (not (is_ended m.association p.core.sctp.association)) f) wrote
        by (Err error) wrote e = absurd (let f = e in cc)

    module _ (uses : List ChannelUse) (written read : List StreamMessage) where
      abbrev Goes : Type 0
      Goes = (any_dcep (messages_of stream now written) ≡ false) ⊎ (HasUseOver stream (Some now) uses ⊎ AreNumbersGiven p.core.channels)

      -- out-of-band none of the messages opens a channel; in-band the channel was announced
      goes : OpenOnly stream p.core.sctp.entries (EntryUsed m.association stream p.core.sctp.association written read)
          → is_spent_stream m.association stream p.core.sctp.association ≡ false
          → ((s : ℕ) (own : Option ℕ) → HasOpenInBand s own p.core.sctp.entries → HasUseOver s own uses ⊎ AreNumbersGiven p.core.channels) → Goes
      goes e free announced = by (is_out_of_band e.entry) refl
        where
          unspent : IsWithoutDcep m.association stream p.core.sctp.association (messages_of stream now written) → any_dcep (messages_of stream now written) ≡ false
          unspent (inl none) = none
          unspent (inr spent) = absurd (true≢false (sym spent ∙ free))

          over : HasUseOver stream e.entry.generation uses ⊎ AreNumbersGiven p.core.channels → Goes
          over (inr full) = inr (inr full)
          over (inl it) =
              let use_found = found stream e.entry.generation uses it in
              let own : now ≡ use_found.use_over.generation =
              channel_writes_own m stream binary bytes p q use_found.use_over.generation writes
              (subst (λ (l : List StreamEntry). OneAtMost ⊥ (IsLiveIn use_found.use_over.generation) l) (sym e.only) (e.is_open, use_found.is_over.2)) in
              inr (inl (subst (λ (o : Option ℕ). HasUseOver stream o uses) (use_found.is_over.2 ∙ ap (λ (n : ℕ). Some n) (sym own)) it))

          by : (b : Bool) → is_out_of_band e.entry ≡ b → Goes
          by true out =
              inl
              (unspent
              (subst (λ (b : Bool). IsDcepInBand m.association Open b stream p.core.sctp.association (messages_of stream now written)) out
              (subst (λ (st : StreamEntryState). IsDcepInBand m.association st (is_out_of_band e.entry) stream p.core.sctp.association (messages_of stream now written))
              e.is_open e.used.1)))
          by false band = over (announced stream e.entry.generation (in_band_has stream e.entry.generation p.core.sctp.entries e.entry [] e.only (e.is_open, refl, band)))

      goes_by : (p.core.phase ≡ Closed → ⊥) → UsedUnlessClosed m written read p → AnnouncedUnlessClosed m uses p → IsTaking → Goes
      goes_by free (inl closed) announced it = absurd (free closed)
      goes_by free (inr used) (inl closed) it = absurd (free closed)
      goes_by free (inr used) (inr announced) it =
          goes
          (open_only stream p.core.sctp.entries (NoneUsed m.association stream p.core.sctp.association written read)
          (EntryUsed m.association stream p.core.sctp.association written read) it.0 (used stream).used)
          it.1 announced

      -- a message of a user is written
      module _ (id : ℕ) (wrote : List StreamMessage) (is : wrote ≡ stream_message stream now (written_ppi binary (is_nil bytes)) bytes ∷ [])
          (given : p.core.channels.given ≤ q.core.channels.given) where
        own_behind : Goes → IsBehind stream now (written ++ wrote) (with_sent_message id (binary, bytes) uses) q
        own_behind (inl none) =
            inl
            (ap (λ (l : List StreamMessage). contents_of (behind_dcep l))
            (messages-append stream now written wrote
            ∙ ap (λ (l : List StreamMessage). messages_of stream now written ++ messages_of stream now l) is
            ∙ ap (λ (l : List StreamMessage). messages_of stream now written ++ l) (messages_one stream now (written_ppi binary (is_nil bytes)) bytes))
            ∙ ap contents_of
            (behind_data (messages_of stream now written) (stream_message stream now (written_ppi binary (is_nil bytes)) bytes) none (written_data binary (is_nil bytes))))
        own_behind (inr (inl over)) = inr (inl (over_sent stream (Some now) id (binary, bytes) uses over))
        own_behind (inr (inr full)) = inr (inr (given_on (2 ^ 64 - 1) p.core.channels.given q.core.channels.given full given))

        pub behind_wrote : (p.core.phase ≡ Closed → ⊥) → UsedUnlessClosed m written read p → AnnouncedUnlessClosed m uses p → AreBehind written uses p
            → AreBehind (written ++ wrote) (with_sent_message id (binary, bytes) uses) q
        behind_wrote free used announced h = λ s g. by s g ((stream == s) && (now == g)) refl
          where
            own : IsBehind stream now (written ++ wrote) (with_sent_message id (binary, bytes) uses) q
            own = own_behind (goes_by free used announced (taking (nat_lt (bytes_available m p) (length bytes)) writes))

            other : (s g : ℕ) → ((stream == s) && (now == g)) ≡ false → messages_of s g wrote ≡ []
            other s g e =
                ap (messages_of s g) is
                ∙ ap (λ (b : Bool). if b then stream_message stream now (written_ppi binary (is_nil bytes)) bytes ∷ [] else []) e

            by : (s g : ℕ) (b : Bool) → ((stream == s) && (now == g)) ≡ b → IsBehind s g (written ++ wrote) (with_sent_message id (binary, bytes) uses) q
            by s g true e =
                let same = both_true (stream == s) (now == g) e in
                subst (λ (n : ℕ). IsBehind n g (written ++ wrote) (with_sent_message id (binary, bytes) uses) q) (eqb-true stream s same.0)
                (subst (λ (n : ℕ). IsBehind stream n (written ++ wrote) (with_sent_message id (binary, bytes) uses) q) (eqb-true now g same.1) own)
            by s g false e =
                behind_at s g p q uses (with_sent_message id (binary, bytes) uses) written wrote given (over_sent s (Some g) id (binary, bytes) uses)
                (ap contents_of (other s g e)) (h s g)
