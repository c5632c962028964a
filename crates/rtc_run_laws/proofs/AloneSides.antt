-- In a settled pair a stream whose opening is refused for now was opened by the other side, which waits for its answer: the stream is not
-- there otherwise.
use Rattle.std.proofs.Common.{◌≡◌, ◌∙◌, ◌⊎◌, ◌++◌, ◌∷◌, ◌==◌, ◌&&◌, ◌||◌, if◌then◌else◌, ℕ, Bool, true, false, true≢false, List, [], map, Option, inl, inr, refl, sym, ap, subst, arith}
use Rattle.std.proofs.lemmas.Bool.{eqb-true}
use Rattle.rtc_parts.specs.AssociationWords.{AssociationMessage, ended, read, written}
use Rattle.rtc_assoc.specs.Unread.{unread}
use Rattle.rtc_assoc_state.proofs.PlainLaws.{plain_laws}
use Rattle.rtc_assoc_state.specs.declared.message.Message.{Message}
use Rattle.rtc_assoc_state.specs.Contents.{fresh_contents, generation_of}
use Rattle.rtc_assoc_state.specs.Inbox.{is_message_of}
use Rattle.rtc_assoc_state.specs.Outbox.{has_unacknowledged}
use Rattle.rtc_assoc_state.specs.PlainMeaning.{plain_meaning}
use Rattle.rtc_parts.specs.Draws.{Draws}
use Rattle.rtc_sctp_entries.specs.declared.stream_entry_state.StreamEntryState.{StreamEntryState}
use Rattle.rtc_sctp_entries.specs.declared.stream_entry_state.StreamEntryState.TheVariants.{AwaitOpen, AwaitConfig, AwaitDcepAck, Open, Closed as EntryClosed}
use Rattle.rtc_sctp_entries.specs.declared.stream_entry.StreamEntry.{StreamEntry}
use Rattle.rtc_sctp_entries.specs.Entries.{has_open, is_open_state}
use Rattle.rtc_sctp_laws.specs.StreamRuns.{is_past_opening}
use Rattle.rtc_sctp_laws.specs.StreamUses.{AreUsedIn, EntryUsed, IsUsedIn, NoneUsed, entries_of, is_spent_stream, messages_for, messages_of}
use Rattle.rtc_sctp_laws.proofs.ContentLemmas.{written_are}
use Rattle.rtc_sctp_laws.specs.Contents.{numbered_message}
use Rattle.rtc_sctp_laws.proofs.BackedRows.{plain_sound}
use Rattle.rtc_sctp_laws.proofs.HeldActs.{IsKeptIf}
use Rattle.rtc_sctp_laws.proofs.HeldRows.{IsKept}
use Rattle.rtc_sctp_laws.proofs.KeptLists.{HasMessage, HasPart}
use Rattle.rtc_sctp_laws.proofs.PlainGenerations.{plain_generations}
use Rattle.rtc_sctp_laws.proofs.ThereStreams.{AreBegunStreams, HasPast, IsBegunStream}
use Rattle.rtc_peer_laws.specs.Drained.{AreHeard, IsHeard}
use Rattle.rtc_peer_laws.specs.PeerActs.{PeerActs}
use Rattle.rtc_run_laws.specs.PlainPairs.{PlainPolled, plain_over}
use Rattle.rtc_run_laws.specs.ChannelUses.{ChannelUse}
use Rattle.rtc_run_laws.specs.OwnOpenings.{HasEntryOf}
use Rattle.rtc_run_laws.specs.SettledPairs.{IsRefusedAlone, IsSettledPeer, WaitsForAnswer}
use Rattle.rtc_run_laws.proofs.AllHanded.{not_ended}
use Rattle.rtc_run_laws.proofs.AnsweredOpenings.{free_of, one_of, unmarked}
use Rattle.rtc_run_laws.proofs.HeardOpenings.{EntryAmong, entry_among, none_has, not_idle}
use Rattle.rtc_run_laws.proofs.KeptStreams.{AreKeptStreams}
use Rattle.rtc_run_laws.proofs.KnownSides.{refused_opening}
use Rattle.rtc_run_laws.proofs.OpenSides.{not_closed}
use Rattle.rtc_run_laws.proofs.StandingSides.{SideStood}
use Rattle.rtc_run_laws.proofs.UsesTold.{UsedUnlessClosed}

-- ---- messages

no_message : (x : AssociationMessage) (xs : List AssociationMessage) → x ∷ xs ≡ [] → ⊥
no_message x xs h = cc

-- a message that stands unread is among those that do
unread_some : (s g : ℕ) (l : List Message) → HasMessage s g l → unread s g l ≡ [] → ⊥
unread_some s g [] h none = h
unread_some s g (x ∷ l) h none = by (is_message_of s g x) refl h none (λ k e. unread_some s g l k e)
  where
    test : (m n : ℕ) → m ≡ n → (m == n) ≡ true
    test m n e = grind (arith, e)

    both : (a b : Bool) → a ≡ true → b ≡ true → (a && b) ≡ true
    both a b e f = rw (e, f) refl

    empty : List AssociationMessage
    empty = []

    by : (b : Bool) → is_message_of s g x ≡ b → HasMessage s g (x ∷ l)
        → (if b then record { identifier = x.identifier; bytes = x.bytes } ∷ unread s g l else unread s g l) ≡ empty
        → (HasMessage s g l → unread s g l ≡ [] → ⊥) → ⊥
    by true e k is rest = no_message _ _ is
    by false e (inl k) is rest =
        true≢false (sym (both (x.stream == s) (x.generation == g) (test x.stream s k.0) (test x.generation g k.1)) ∙ e)
    by false e (inr k) is rest = rest k is

second_none : (xs ys : List AssociationMessage) → xs ++ ys ≡ [] → ys ≡ []
second_none [] ys h = h
second_none (x ∷ xs) ys h = absurd (no_message x (xs ++ ys) h)

-- ---- entries

past_entry : (s : ℕ) (es : List StreamEntry) → HasPast s es → HasEntryOf (λ entry. is_past_opening entry.state ≡ true) s es
past_entry s [] h = h
past_entry s (e ∷ es) (inl h) = inl h
past_entry s (e ∷ es) (inr h) = inr (past_entry s es h)

same_entry : (e f : StreamEntry) (l : List StreamEntry) → l ≡ e ∷ [] → l ≡ f ∷ [] → e ≡ f
same_entry e f l h k = cc

-- the one entry of a stream is among all
entry_has : (P : StreamEntry → Type 0) (s : ℕ) (es : List StreamEntry) (e : StreamEntry) → entries_of s es ≡ e ∷ [] → P e → HasEntryOf P s es
entry_has P s [] e h so = absurd (no_one h)
  where
    none : List StreamEntry
    none = []

    no_one : none ≡ e ∷ [] → ⊥
    no_one k = cc
entry_has P s (x ∷ es) e h so = by (x.id == s) refl h (λ k. entry_has P s es e k so)
  where
    first : (l : List StreamEntry) → x ∷ l ≡ e ∷ [] → x ≡ e
    first l k = cc

    by : (b : Bool) → (x.id == s) ≡ b → (if b then x ∷ entries_of s es else entries_of s es) ≡ e ∷ [] → (entries_of s es ≡ e ∷ [] → HasEntryOf P s es)
        → HasEntryOf P s (x ∷ es)
    by true f k rest = inl (eqb-true x.id s f, subst P (sym (first (entries_of s es) k)) so)
    by false f k rest = inr (rest k)

open_by : (s : ℕ) (es : List StreamEntry) → HasEntryOf (λ entry. entry.state ≡ Open) s es → has_open s es ≡ true
open_by s [] h = absurd h
open_by s (e ∷ es) (inl h) = by (e.id == s) (is_open_state e.state) (test e.id s h.0) (ap is_open_state h.1)
  where
    test : (m n : ℕ) → m ≡ n → (m == n) ≡ true
    test m n k = grind (arith, k)

    by : (a b : Bool) → a ≡ true → b ≡ true → ((a && b) || has_open s es) ≡ true
    by true true f g = refl
    by true false f g = absurd (true≢false (sym g))
    by false b f g = absurd (true≢false (sym f))
open_by s (e ∷ es) (inr h) = by (e.id == s && is_open_state e.state) (open_by s es h)
  where
    by : (a : Bool) → has_open s es ≡ true → (a || has_open s es) ≡ true
    by true k = refl
    by false k = k

module _ {N : Type 0} (draws : Draws N) where
  module _ (a b : PeerActs) (us vs : List ChannelUse) (p q : PlainPolled N) (x : SideStood draws a us p) (y : SideStood draws b vs q)
      (here : IsSettledPeer p) (there : IsSettledPeer q) (others : AreHeard plain_meaning q.core.sctp.association q.core.sctp.entries)
      (begun : AreBegunStreams plain_meaning IsKeptIf p.core.sctp) (ok : plain_sound p.core.sctp.association)
      (all : (s g : ℕ) → ended s g b.association ≡ false → ended s g a.association ≡ false
      → has_unacknowledged s q.core.sctp.association.outbox.items ≡ false
      → read s g a.association ++ unread s g p.core.sctp.association.inbox.unread ≡ written s g b.association)
      (parts : (s g : ℕ) → HasPart s g p.core.sctp.association.inbox.parts → written s g b.association ≡ [] → ⊥)
      (s : ℕ) (kept : AreKeptStreams s p q) (alone : IsRefusedAlone s p q) where
    abbrev g : ℕ
    g = generation_of p.core.sctp.association s

    free_here : is_spent_stream plain_meaning s p.core.sctp.association ≡ false
    free_here = free_of draws p s here kept.unclosed_here

    free_there : is_spent_stream plain_meaning s q.core.sctp.association ≡ false
    free_there = free_of draws q s there kept.unclosed_there

    -- the entry of the stream waits to be opened, so that none is past its opening
    none_past : UsedUnlessClosed (plain_over draws) x.written x.read p → HasPast s p.core.sctp.entries → ⊥
    none_past (inl closed) past = not_closed draws p here.alive closed
    none_past (inr uses) past =
        let e =
        one_of (λ entry. entry.state ≡ AwaitOpen) (NoneUsed plain_meaning s p.core.sctp.association x.written x.read)
        (EntryUsed plain_meaning s p.core.sctp.association x.written x.read) s p.core.sctp.entries (refused_opening s p alone.0) (uses s).used in
        let f =
        one_of (λ entry. is_past_opening entry.state ≡ true) (NoneUsed plain_meaning s p.core.sctp.association x.written x.read)
        (EntryUsed plain_meaning s p.core.sctp.association x.written x.read) s p.core.sctp.entries (past_entry s p.core.sctp.entries past) (uses s).used in
        true≢false
        (sym f.is_so
        ∙ ap (λ (z : StreamEntry). is_past_opening z.state) (sym (same_entry e.entry f.entry (entries_of s p.core.sctp.entries) e.only f.only))
        ∙ ap is_past_opening e.is_so)

    -- so the other side wrote to the stream
    message_written : HasMessage s g p.core.sctp.association.inbox.unread → written s g b.association ≡ [] → ⊥
    message_written stands none =
        unread_some s g p.core.sctp.association.inbox.unread stands
        (second_none (read s g a.association) (unread s g p.core.sctp.association.inbox.unread)
        (all s g
        (not_ended plain_meaning plain_laws plain_generations s g b.association fresh_contents q.core.sctp.association y.went kept.generation_is free_there)
        (not_ended plain_meaning plain_laws plain_generations s g a.association fresh_contents p.core.sctp.association x.went refl free_here)
        (none_has s q.core.sctp.association.outbox.items there.acknowledged)
        ∙ none))

    kept_written : IsKept p.core.sctp.association s → written s g b.association ≡ [] → ⊥
    kept_written (inl stands) none = message_written stands none
    kept_written (inr part) none = parts s g part none

    by_begun : IsBegunStream plain_meaning IsKeptIf s p.core.sctp.association p.core.sctp.entries → written s g b.association ≡ [] → ⊥
    by_begun (inl past) none = none_past x.told.used past
    by_begun (inr fine) none = by (fine alone.0.1)
      where
        by : IsKeptIf p.core.sctp.association s ⊎ (is_spent_stream plain_meaning s p.core.sctp.association ≡ true) → ⊥
        by (inl it) = kept_written (it ok) none
        by (inr spent) = true≢false (sym spent ∙ free_here)

    wrote_some : messages_of s (generation_of q.core.sctp.association s) y.written ≡ [] → ⊥
    wrote_some none =
        by_begun (begun s)
        (written_are s g b.association y.written y.wrote_is
        ∙ ap (map numbered_message) (ap (λ (n : ℕ). messages_of s n y.written) (sym kept.generation_is) ∙ none))

    -- by an opening that waits for its answer
    waits_in : (st : StreamEntryState) (own : Option ℕ) → (st ≡ Open → ⊥)
        → IsUsedIn plain_meaning st false own s q.core.sctp.association (messages_for plain_meaning st own s q.core.sctp.association y.written)
        (messages_for plain_meaning st own s q.core.sctp.association y.read)
        → st ≡ AwaitDcepAck
    waits_in AwaitOpen own shut h = absurd (not_idle plain_meaning s q.core.sctp.association y.written y.read wrote_some free_there _ h)
    waits_in AwaitConfig own shut (inl h) = absurd (wrote_some h.0)
    waits_in AwaitConfig own shut (inr spent) = absurd (true≢false (sym spent ∙ free_there))
    waits_in AwaitDcepAck own shut h = refl
    waits_in Open own shut h = absurd (shut refl)
    waits_in EntryClosed own shut h = absurd (not_idle plain_meaning s q.core.sctp.association y.written y.read wrote_some free_there _ h)

    shut_entry : (e : StreamEntry) → entries_of s q.core.sctp.entries ≡ e ∷ [] → e.state ≡ Open → ⊥
    shut_entry e is opened =
        true≢false
        (sym (open_by s q.core.sctp.entries (entry_has (λ entry. entry.state ≡ Open) s q.core.sctp.entries e is opened)) ∙ alone.1)

    waits_heard : (e : StreamEntry) → entries_of s q.core.sctp.entries ≡ e ∷ [] → EntryUsed plain_meaning s q.core.sctp.association y.written y.read e
        → IsHeard plain_meaning q.core.sctp.association e → e.state ≡ AwaitDcepAck
    waits_heard e is used (inl waits) =
        absurd
        (not_idle plain_meaning s q.core.sctp.association y.written y.read wrote_some free_there _
        (subst (λ (st : StreamEntryState). IsUsedIn plain_meaning st e.marked e.generation s q.core.sctp.association
        (messages_for plain_meaning st e.generation s q.core.sctp.association y.written)
        (messages_for plain_meaning st e.generation s q.core.sctp.association y.read)) waits.0 used.0))
    waits_heard e is used (inr it) =
        waits_in e.state e.generation (shut_entry e is) (unmarked s q.core.sctp.association y.written y.read e it.0 used)

    by_entries : (l : List StreamEntry) → entries_of s q.core.sctp.entries ≡ l → AreUsedIn plain_meaning l s q.core.sctp.association y.written y.read
        → WaitsForAnswer s q.core.sctp.entries
    by_entries [] is used = absurd (not_idle plain_meaning s q.core.sctp.association y.written y.read wrote_some free_there _ used)
    by_entries (e ∷ []) is used =
        let among : EntryAmong plain_meaning q.core.sctp.association s q.core.sctp.entries e =
        entry_among plain_meaning q.core.sctp.association s q.core.sctp.entries e [] is others kept.in_band_there in
        entry_has (λ entry. entry.state ≡ AwaitDcepAck) s q.core.sctp.entries e is (waits_heard e is used among.heard)
    by_entries (e ∷ f ∷ l) is used = absurd used

    by_side : UsedUnlessClosed (plain_over draws) y.written y.read q → WaitsForAnswer s q.core.sctp.entries
    by_side (inl closed) = absurd (not_closed draws q there.alive closed)
    by_side (inr uses) = by_entries (entries_of s q.core.sctp.entries) refl (uses s).used

    pub alone_waits : WaitsForAnswer s q.core.sctp.entries
    alone_waits = by_side y.told.used
