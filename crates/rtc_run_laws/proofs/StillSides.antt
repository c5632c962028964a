-- In a settled pair that wants no moment for its streams no stream waits to be opened, and none for the answer to its opening.
use Rattle.std.proofs.Common.{◌≡◌, ◌∙◌, ◌+◌, ◌-◌, ◌^◌, ◌++◌, ◌∷◌, ◌==◌, ◌||◌, if◌then◌else◌, ℕ, Bool, true, false, true≢false, List, [], min, Option, Some, None, inl, inr, refl, sym, ap, subst}
use Rattle.std.specs.List.{list_any}
use Rattle.std.proofs.lemmas.Bool.{eqb-true}
use Rattle.rtc_parts.specs.AssociationWords.{ended, read, written}
use Rattle.rtc_assoc.specs.Unread.{unread}
use Rattle.rtc_assoc_state.specs.Contents.{Contents, generation_of, has_unread}
use Rattle.rtc_assoc_state.specs.Outbox.{has_unacknowledged}
use Rattle.rtc_assoc_state.specs.PlainMeaning.{plain_meaning}
use Rattle.rtc_parts.specs.Draws.{Draws}
use Rattle.rtc_sctp_entries.specs.declared.stream_entry_state.StreamEntryState.{StreamEntryState}
use Rattle.rtc_sctp_entries.specs.declared.stream_entry_state.StreamEntryState.TheVariants.{AwaitOpen, AwaitDcepAck}
use Rattle.rtc_sctp_entries.specs.declared.stream_entry.StreamEntry.{StreamEntry}
use Rattle.rtc_sctp_entries.specs.Entries.{fits_generation, is_open_awaited, is_retrying}
use Rattle.rtc_sctp.specs.Calls.{attached_wake, earlier_of, retry_wake, streams_wake}
use Rattle.rtc_sctp.specs.Streams.{SctpStreams, is_attached}
use Rattle.rtc_sctp_laws.specs.StreamUses.{AreUsedIn, EntryUsed, IsIdleStream, IsUsedIn, NoneUsed, any_dcep, begins_with_dcep, entries_of, messages_for, messages_of}
use Rattle.rtc_peer_laws.specs.Drained.{AreHeard, IsHeard}
use Rattle.rtc_peer_laws.specs.PeerActs.{PeerActs}
use Rattle.rtc_run_laws.specs.PlainPairs.{PlainPolled, plain_over}
use Rattle.rtc_run_laws.specs.ChannelUses.{ChannelUse}
use Rattle.rtc_run_laws.specs.OwnOpenings.{HasEntryOf}
use Rattle.rtc_run_laws.specs.SettledPairs.{IsSettledPeer, IsTakenUp, WaitsForAnswer}
use Rattle.rtc_run_laws.proofs.KeptStreams.{AreKeptStreams}
use Rattle.rtc_run_laws.proofs.AnsweredOpenings.{free_of, one_of, opening_read, unended, unmarked, waiting_by}
use Rattle.rtc_run_laws.proofs.HeardOpenings.{entry_among, none_has}
use Rattle.rtc_run_laws.proofs.OpenSides.{not_closed}
use Rattle.rtc_run_laws.proofs.StandingSides.{SideStood}
use Rattle.rtc_run_laws.proofs.UsesTold.{UsedUnlessClosed}

-- ---- openings that are tried again

no_some : (n : ℕ) → Some n ≡ None → ⊥
no_some n h = cc

earlier_none : (a b : Option ℕ) → earlier_of a b ≡ None → b ≡ None
earlier_none None b h = h
earlier_none (Some n) None h = refl
earlier_none (Some n) (Some k) h = absurd (no_some (min n k) h)

none_retried : (entries : List StreamEntry) (last : ℕ) → retry_wake entries last ≡ None → list_any is_retrying entries ≡ false
none_retried entries last h = by (list_any is_retrying entries) refl h
  where
    by : (b : Bool) → list_any is_retrying entries ≡ b → (if b then Some (min (last + 500_000_000) (2 ^ 64 - 1)) else None) ≡ None
        → list_any is_retrying entries ≡ false
    by true e k = absurd (no_some (min (last + 500_000_000) (2 ^ 64 - 1)) k)
    by false e k = e

or_left : (a b : Bool) → a ≡ true → (a || b) ≡ true
or_left true b h = refl
or_left false b h = absurd (true≢false (sym h))

or_right : (a b : Bool) → b ≡ true → (a || b) ≡ true
or_right true b h = refl
or_right false b h = h

-- an entry that waits to be opened is tried again
retried_by : (a : Contents) (entry : StreamEntry) → entry.state ≡ AwaitOpen → IsHeard plain_meaning a entry → is_retrying entry ≡ true
retried_by a entry opening (inl waits) = waits.1
retried_by a entry opening (inr it) = absurd (true≢false (sym (ap is_open_awaited opening) ∙ it.4))

pub awaits_retried : (s : ℕ) (a : Contents) (entries : List StreamEntry) → AreHeard plain_meaning a entries
    → HasEntryOf (λ entry. entry.state ≡ AwaitOpen) s entries → list_any is_retrying entries ≡ true
awaits_retried s a [] heard h = absurd h
awaits_retried s a (entry ∷ entries) heard (inl own) =
    or_left (is_retrying entry) (list_any is_retrying entries) (retried_by a entry own.1 heard.0)
awaits_retried s a (entry ∷ entries) heard (inr rest) =
    or_right (is_retrying entry) (list_any is_retrying entries) (awaits_retried s a entries heard.1 rest)

-- none does where the streams want no moment
pub none_opening : (s : ℕ) (p : SctpStreams Contents) → AreHeard plain_meaning p.association p.entries → streams_wake plain_meaning p ≡ None
    → HasEntryOf (λ entry. entry.state ≡ AwaitOpen) s p.entries → ⊥
none_opening s p heard still waits =
    true≢false
    (sym (awaits_retried s p.association p.entries heard waits)
    ∙ none_retried p.entries p.last (earlier_none (attached_wake plain_meaning (is_attached p.state) p.association) (retry_wake p.entries p.last) still))

-- ---- the entry of a stream

-- the first entry of a stream is among all
entry_has : (P : StreamEntry → Type 0) (s : ℕ) (es : List StreamEntry) (e : StreamEntry) (l : List StreamEntry) → entries_of s es ≡ e ∷ l → P e
    → HasEntryOf P s es
entry_has P s [] e l is so = let clash : [] ≡ e ∷ l = is in cc
entry_has P s (x ∷ es) e l is so = by (x.id == s) refl is (λ k. entry_has P s es e l k so)
  where
    first : (l' : List StreamEntry) → x ∷ l' ≡ e ∷ l → x ≡ e
    first l' k = cc

    by : (b : Bool) → (x.id == s) ≡ b → (if b then x ∷ entries_of s es else entries_of s es) ≡ e ∷ l
        → (entries_of s es ≡ e ∷ l → HasEntryOf P s es) → HasEntryOf P s (x ∷ es)
    by true c k rest = inl (eqb-true x.id s c, subst P (sym (first (entries_of s es) k)) so)
    by false c k rest = inr (rest k)

module _ {N : Type 0} (draws : Draws N) where
  module _ (a b : PeerActs) (us vs : List ChannelUse) (p q : PlainPolled N) (x : SideStood draws a us p) (y : SideStood draws b vs q)
      (here : IsSettledPeer p) (there : IsSettledPeer q) (heard : AreHeard plain_meaning p.core.sctp.association p.core.sctp.entries)
      (forth : (s g : ℕ) → ended s g a.association ≡ false → ended s g b.association ≡ false
      → has_unacknowledged s p.core.sctp.association.outbox.items ≡ false
      → read s g b.association ++ unread s g q.core.sctp.association.inbox.unread ≡ written s g a.association)
      (s : ℕ) (kept : AreKeptStreams s p q)
      (none : has_unread q.core.sctp.association s (generation_of q.core.sctp.association s) ≡ false) where
    abbrev g : ℕ
    g = generation_of p.core.sctp.association s

    -- what the open message from here tells of the other side
    read_there : (e : StreamEntry) → e.state ≡ AwaitDcepAck → e.id ≡ s → EntryUsed plain_meaning s p.core.sctp.association x.written x.read e
        → IsHeard plain_meaning p.core.sctp.association e → any_dcep (messages_of s g y.read) ≡ true
    read_there e waits same used (inl opening) = absurd (true≢false (sym (ap is_open_awaited opening.0) ∙ ap is_open_awaited waits))
    read_there e waits same used (inr it) =
        opening_read draws a b us vs p q x y s g
        (forth s g (unended draws a us p s g x here kept.unclosed_here refl) (unended draws b vs q s g y there kept.unclosed_there kept.generation_is)
        (none_has s p.core.sctp.association.outbox.items here.acknowledged))
        (ap (λ (n : ℕ). has_unread q.core.sctp.association s n) (sym kept.generation_is) ∙ none) begun
      where
        fits : fits_generation e.generation (generation_of p.core.sctp.association s) ≡ true
        fits = ap (λ (n : ℕ). fits_generation e.generation (generation_of p.core.sctp.association n)) (sym same) ∙ it.3

        begun : begins_with_dcep (messages_of s g x.written) ≡ true
        begun =
            (waiting_by e.generation s p.core.sctp.association x.written x.read fits
            (subst (λ (st : StreamEntryState). IsUsedIn plain_meaning st false e.generation s p.core.sctp.association
            (messages_for plain_meaning st e.generation s p.core.sctp.association x.written)
            (messages_for plain_meaning st e.generation s p.core.sctp.association x.read)) waits
            (unmarked s p.core.sctp.association x.written x.read e it.0 used))).begins

    not_idle : any_dcep (messages_of s g y.read) ≡ true
        → IsIdleStream plain_meaning s q.core.sctp.association (messages_of s (generation_of q.core.sctp.association s) y.written)
        (messages_of s (generation_of q.core.sctp.association s) y.read) → ⊥
    not_idle any (inl idle) =
        true≢false (sym any ∙ ap (λ (n : ℕ). any_dcep (messages_of s n y.read)) (sym kept.generation_is) ∙ ap any_dcep idle.1)
    not_idle any (inr spent) = true≢false (sym spent ∙ free_of draws q s there kept.unclosed_there)

    past_opening : (f : StreamEntry) → any_dcep (messages_of s g y.read) ≡ true → EntryUsed plain_meaning s q.core.sctp.association y.written y.read f
        → f.state ≡ AwaitOpen → ⊥
    past_opening f any used opening =
        not_idle any
        (subst (λ (st : StreamEntryState). IsUsedIn plain_meaning st f.marked f.generation s q.core.sctp.association
        (messages_for plain_meaning st f.generation s q.core.sctp.association y.written)
        (messages_for plain_meaning st f.generation s q.core.sctp.association y.read)) opening used.0)

    taken_by : any_dcep (messages_of s g y.read) ≡ true → (l : List StreamEntry) → entries_of s q.core.sctp.entries ≡ l
        → AreUsedIn plain_meaning l s q.core.sctp.association y.written y.read → IsTakenUp s q.core.sctp.entries
    taken_by any [] is used = absurd (not_idle any used)
    taken_by any (f ∷ []) is used =
        entry_has (λ entry. entry.state ≡ AwaitOpen → ⊥) s q.core.sctp.entries f [] is (past_opening f any used)
    taken_by any (f ∷ e ∷ l) is used = absurd used

    by_sides : WaitsForAnswer s p.core.sctp.entries → UsedUnlessClosed (plain_over draws) x.written x.read p
        → UsedUnlessClosed (plain_over draws) y.written y.read q → IsTakenUp s q.core.sctp.entries
    by_sides waits (inl closed) uses = absurd (not_closed draws p here.alive closed)
    by_sides waits (inr uses) (inl closed) = absurd (not_closed draws q there.alive closed)
    by_sides waits (inr uses) (inr theirs) =
        let e =
        one_of (λ entry. entry.state ≡ AwaitDcepAck) (NoneUsed plain_meaning s p.core.sctp.association x.written x.read)
        (EntryUsed plain_meaning s p.core.sctp.association x.written x.read) s p.core.sctp.entries waits (uses s).used in
        let among = entry_among plain_meaning p.core.sctp.association s p.core.sctp.entries e.entry [] e.only heard kept.in_band_here in
        taken_by (read_there e.entry e.is_so among.id_is e.used among.heard) (entries_of s q.core.sctp.entries) refl (theirs s).used

    -- a stream whose open message waits for its answer is in use at the other side, where nothing of it stands unread
    pub taken_up : WaitsForAnswer s p.core.sctp.entries → IsTakenUp s q.core.sctp.entries
    taken_up waits = by_sides waits x.told.used y.told.used
