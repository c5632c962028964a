-- In a settled pair no opening waits for its answer over a stream that the other side took up.
use Rattle.std.proofs.Common.{◌≡◌, ◌∙◌, ◌⊎◌, ◌++◌, ◌∷◌, ◌==◌, ◌||◌, if◌then◌else◌, ℕ, Bool, true, false, true≢false, List, [], append-nil, Option, Some, None, inl, inr, refl, sym, ap, subst, arith}
use Rattle.std.proofs.lemmas.Bool.{eqb-true}
use Rattle.rtc_parts.specs.AssociationWords.{AssociationMessage, ended, read, written}
use Rattle.rtc_assoc.specs.Unread.{unread}
use Rattle.rtc_assoc_state.proofs.PlainLaws.{plain_laws}
use Rattle.rtc_assoc_state.specs.Contents.{Contents, closed_here, fresh_contents, generation_of, has_unread, is_ending}
use Rattle.rtc_assoc_state.specs.Outbox.{has_unacknowledged}
use Rattle.rtc_assoc_state.specs.PlainMeaning.{plain_meaning}
use Rattle.rtc_parts.specs.Draws.{Draws}
use Rattle.rtc_sctp_entries.specs.declared.stream_entry_state.StreamEntryState.{StreamEntryState}
use Rattle.rtc_sctp_entries.specs.declared.stream_entry_state.StreamEntryState.TheVariants.{AwaitOpen, AwaitConfig, AwaitDcepAck, Open, Closed as EntryClosed}
use Rattle.rtc_sctp_entries.specs.declared.stream_entry.StreamEntry.{StreamEntry}
use Rattle.rtc_sctp_entries.specs.Entries.{fits_generation}
use Rattle.rtc_sctp_laws.specs.StreamMessages.{StreamMessage}
use Rattle.rtc_sctp_laws.specs.StreamUses.{EntryUsed, IsUsedIn, NoneUsed, OneAtMost, any_dcep, begins_with_dcep, entries_of, is_spent_stream, messages_for, messages_of}
use Rattle.rtc_sctp_laws.proofs.EntriesOf.{entries_own}
use Rattle.rtc_sctp_laws.proofs.ContentLemmas.{read_are, written_are}
use Rattle.rtc_sctp_laws.proofs.PlainGenerations.{plain_generations}
use Rattle.rtc_peer_laws.specs.ChannelStreams.{AreNumbersGiven}
use Rattle.rtc_peer_laws.specs.Drained.{AreHeard, IsHeard}
use Rattle.rtc_peer_laws.specs.PeerActs.{PeerActs}
use Rattle.rtc_run_laws.specs.PlainPairs.{PlainPolled, plain_over}
use Rattle.rtc_run_laws.specs.ChannelUses.{ChannelUse}
use Rattle.rtc_run_laws.specs.OwnOpenings.{HasEntryOf}
use Rattle.rtc_run_laws.specs.SettledPairs.{IsInBandStream, IsSettledPeer, IsTakenUp, WaitsForAnswer}
use Rattle.rtc_run_laws.proofs.KeptStreams.{AreKeptStreams}
use Rattle.rtc_run_laws.proofs.AllHanded.{none_unread, not_ended}
use Rattle.rtc_run_laws.proofs.AnnouncedStreams.{AnnouncedUnlessClosed, HasUseOver, found}
use Rattle.rtc_run_laws.proofs.HeardOpenings.{entry_among, none_has, reads_dcep}
use Rattle.rtc_run_laws.proofs.OpenSides.{not_closed}
use Rattle.rtc_run_laws.proofs.StandingSides.{SideStood}
use Rattle.rtc_run_laws.proofs.UseLists.{all_member, named_kept}
use Rattle.rtc_run_laws.proofs.UsesTold.{use_opened, InBandTold, UsedUnlessClosed}

-- ---- the one entry of a stream

abbrev AnyOf : (StreamEntry → Type 0) → List StreamEntry → Type 0
AnyOf P [] = ⊥
AnyOf P (e ∷ l) = P e ⊎ AnyOf P l

own_test : (n s : ℕ) → n ≡ s → (n == s) ≡ true
own_test n s h = grind (arith, h)

any_of : (P : StreamEntry → Type 0) (s : ℕ) (es : List StreamEntry) → HasEntryOf P s es → AnyOf P (entries_of s es)
any_of P s [] h = absurd h
any_of P s (e ∷ es) (inl h) = subst (λ (l : List StreamEntry). AnyOf P l) (sym (entries_own s e es (own_test e.id s h.0))) (inl h.1)
any_of P s (e ∷ es) (inr h) = by (e.id == s) (any_of P s es h)
  where
    by : (b : Bool) → AnyOf P (entries_of s es) → AnyOf P (if b then e ∷ entries_of s es else entries_of s es)
    by true k = inr k
    by false k = k

pub record OneOf (P : StreamEntry → Type 0) (R : StreamEntry → Type 0) (s : ℕ) (es : List StreamEntry) : Type 0 where
  pub entry : StreamEntry
  pub only : entries_of s es ≡ entry ∷ []
  pub is_so : P entry
  pub used : R entry

pub one_of : (P : StreamEntry → Type 0) (Q : Type 0) (R : StreamEntry → Type 0) (s : ℕ) (es : List StreamEntry) → HasEntryOf P s es
    → OneAtMost Q R (entries_of s es) → OneOf P R s es
one_of P Q R s es h one = by (entries_of s es) refl (any_of P s es h) one
  where
    by : (l : List StreamEntry) → entries_of s es ≡ l → AnyOf P l → OneAtMost Q R l → OneOf P R s es
    by [] is any k = absurd any
    by (e ∷ []) is (inl so) k = record { entry = e; only = is; is_so = so; used = k }
    by (e ∷ []) is (inr none) k = absurd none
    by (e ∷ f ∷ l) is any k = absurd k

awaits_open : (st : StreamEntryState) → st ≡ AwaitDcepAck → st ≡ AwaitOpen → ⊥
awaits_open st h k = let clash : AwaitDcepAck ≡ AwaitOpen = sym h ∙ k in cc

-- what an entry that waits for its answer has behind it
pub record Waiting (s g : ℕ) (ws hs : List StreamMessage) : Type 0 where
  pub begins : begins_with_dcep (messages_of s g ws) ≡ true
  pub none : any_dcep (messages_of s g hs) ≡ false

pub waiting_by : (own : Option ℕ) (s : ℕ) (a : Contents) (ws hs : List StreamMessage) → fits_generation own (generation_of a s) ≡ true
    → IsUsedIn plain_meaning AwaitDcepAck false own s a (messages_for plain_meaning AwaitDcepAck own s a ws) (messages_for plain_meaning AwaitDcepAck own s a hs)
    → Waiting s (generation_of a s) ws hs
waiting_by None s a ws hs fits h = absurd (true≢false (sym h.0))
waiting_by (Some n) s a ws hs fits h =
    let same : n ≡ generation_of a s = eqb-true n (generation_of a s) fits in
    record {
      begins = ap (λ (k : ℕ). begins_with_dcep (messages_of s k ws)) (sym same) ∙ h.1.1;
      none = ap (λ (k : ℕ). any_dcep (messages_of s k hs)) (sym same) ∙ h.1.2;
    }

-- an entry past its opening, of whose stream a message that opens a channel was read, is open
taken_open : (st : StreamEntryState) (own : Option ℕ) (s : ℕ) (a : Contents) (ws hs : List StreamMessage) → is_spent_stream plain_meaning s a ≡ false
    → any_dcep (messages_of s (generation_of a s) hs) ≡ true → fits_generation own (generation_of a s) ≡ true
    → IsUsedIn plain_meaning st false own s a (messages_for plain_meaning st own s a ws) (messages_for plain_meaning st own s a hs) → st ≡ Open
taken_open AwaitOpen own s a ws hs free any fits (inl none) = absurd (true≢false (sym any ∙ ap any_dcep none.1))
taken_open AwaitOpen own s a ws hs free any fits (inr spent) = absurd (true≢false (sym spent ∙ free))
taken_open AwaitConfig own s a ws hs free any fits (inl none) = absurd (true≢false (sym any ∙ none.1))
taken_open AwaitConfig own s a ws hs free any fits (inr spent) = absurd (true≢false (sym spent ∙ free))
taken_open AwaitDcepAck own s a ws hs free any fits h = absurd (true≢false (sym any ∙ (waiting_by own s a ws hs fits h).none))
taken_open Open own s a ws hs free any fits h = refl
taken_open EntryClosed own s a ws hs free any fits (inl none) = absurd (true≢false (sym any ∙ ap any_dcep none.1))
taken_open EntryClosed own s a ws hs free any fits (inr spent) = absurd (true≢false (sym spent ∙ free))

pub unmarked : (s : ℕ) (a : Contents) (ws hs : List StreamMessage) (e : StreamEntry) → e.marked ≡ false → EntryUsed plain_meaning s a ws hs e
    → IsUsedIn plain_meaning e.state false e.generation s a (messages_for plain_meaning e.state e.generation s a ws)
    (messages_for plain_meaning e.state e.generation s a hs)
unmarked s a ws hs e none h =
    subst (λ (b : Bool). IsUsedIn plain_meaning e.state b e.generation s a (messages_for plain_meaning e.state e.generation s a ws)
    (messages_for plain_meaning e.state e.generation s a hs)) none h.0

some_is : (n k : ℕ) → Some n ≡ Some k → n ≡ k
some_is n k h = cc

module _ {N : Type 0} (draws : Draws N) where
  -- who read all that was written read the message that opens the channel
  pub opening_read : (a b : PeerActs) (us vs : List ChannelUse) (p q : PlainPolled N) (x : SideStood draws a us p) (y : SideStood draws b vs q) (s g : ℕ)
      → read s g b.association ++ unread s g q.core.sctp.association.inbox.unread ≡ written s g a.association
      → has_unread q.core.sctp.association s g ≡ false → begins_with_dcep (messages_of s g x.written) ≡ true
      → any_dcep (messages_of s g y.read) ≡ true
  opening_read a b us vs p q x y s g all none begun =
      reads_dcep (messages_of s g y.read) (messages_of s g x.written) (named_kept s g y.read y.told.named_read)
      (named_kept s g x.written x.told.named_written)
      (sym (read_are s g b.association y.read y.read_is)
      ∙ sym (append-nil (read s g b.association))
      ∙ ap (λ (r : List AssociationMessage). read s g b.association ++ r) (sym (none_unread s g q.core.sctp.association.inbox.unread none))
      ∙ all
      ∙ written_are s g a.association x.written x.wrote_is) begun

  pub free_of : (p : PlainPolled N) (s : ℕ) → IsSettledPeer p → closed_here p.core.sctp.association s ≡ false
      → is_spent_stream plain_meaning s p.core.sctp.association ≡ false
  free_of p s here unclosed = ap (λ (c : Bool). c || is_ending p.core.sctp.association) unclosed ∙ here.lasting

  pub unended : (a : PeerActs) (us : List ChannelUse) (p : PlainPolled N) (s g : ℕ) → SideStood draws a us p → IsSettledPeer p
      → closed_here p.core.sctp.association s ≡ false → generation_of p.core.sctp.association s ≡ g → ended s g a.association ≡ false
  unended a us p s g x here unclosed own =
      not_ended plain_meaning plain_laws plain_generations s g a.association fresh_contents p.core.sctp.association x.went own (free_of p s here unclosed)

  -- the channel over a stream that is open in-band was announced, so that its first message was one that opens it
  module _ (b : PeerActs) (vs : List ChannelUse) (q : PlainPolled N) (y : SideStood draws b vs q) (there : IsSettledPeer q) where
    begun_by : (s : ℕ) (own : Option ℕ) → fits_generation own (generation_of q.core.sctp.association s) ≡ true
        → HasUseOver s own vs ⊎ AreNumbersGiven q.core.channels
        → begins_with_dcep (messages_of s (generation_of q.core.sctp.association s) y.written) ≡ true
    begun_by s own fits (inr full) = let left = there.numbers in absurd (omega (arith, left, full))
    begun_by s own fits (inl over) =
        let it = found s own vs over in
        let t =
        use_opened (plain_over draws) y.written y.read q it.use_over
        (all_member (InBandTold (plain_over draws) y.written y.read q) vs it.use_over y.told.each it.member it.is_over.0) in
        let g : it.use_over.generation ≡ generation_of q.core.sctp.association s =
        eqb-true it.use_over.generation (generation_of q.core.sctp.association s)
        (ap (λ (o : Option ℕ). fits_generation o (generation_of q.core.sctp.association s)) (sym it.is_over.2) ∙ fits) in
        ap (λ (n : ℕ). begins_with_dcep (messages_of s n y.written)) (sym g)
        ∙ ap (λ (n : ℕ). begins_with_dcep (messages_of n it.use_over.generation y.written)) (some_is s t.stream (sym it.is_over.1 ∙ t.stream_is))
        ∙ t.begins

    opening_begun : (s : ℕ) (e : StreamEntry) → e.state ≡ Open → fits_generation e.generation (generation_of q.core.sctp.association s) ≡ true
        → AreHeard plain_meaning q.core.sctp.association q.core.sctp.entries → IsInBandStream s q.core.sctp.entries
        → entries_of s q.core.sctp.entries ≡ e ∷ [] → AnnouncedUnlessClosed (plain_over draws) vs q
        → begins_with_dcep (messages_of s (generation_of q.core.sctp.association s) y.written) ≡ true
    opening_begun s e opened fits heard band only (inl closed) = absurd (not_closed draws q there.alive closed)
    opening_begun s e opened fits heard band only (inr announced) =
        let among = entry_among plain_meaning q.core.sctp.association s q.core.sctp.entries e [] only heard band in
        begun_by s e.generation fits (announced s e.generation (among.in_band e.generation refl opened))

  module _ (a b : PeerActs) (us vs : List ChannelUse) (p q : PlainPolled N) (x : SideStood draws a us p) (y : SideStood draws b vs q)
      (here : IsSettledPeer p) (there : IsSettledPeer q) (heard : AreHeard plain_meaning p.core.sctp.association p.core.sctp.entries)
      (others : AreHeard plain_meaning q.core.sctp.association q.core.sctp.entries)
      (forth : (s g : ℕ) → ended s g a.association ≡ false → ended s g b.association ≡ false
      → has_unacknowledged s p.core.sctp.association.outbox.items ≡ false
      → read s g b.association ++ unread s g q.core.sctp.association.inbox.unread ≡ written s g a.association)
      (back : (s g : ℕ) → ended s g b.association ≡ false → ended s g a.association ≡ false
      → has_unacknowledged s q.core.sctp.association.outbox.items ≡ false
      → read s g a.association ++ unread s g p.core.sctp.association.inbox.unread ≡ written s g b.association)
      (s : ℕ) (kept : AreKeptStreams s p q) where
    abbrev g : ℕ
    g = generation_of p.core.sctp.association s

    ended_here : ended s g a.association ≡ false
    ended_here = unended a us p s g x here kept.unclosed_here refl

    ended_there : ended s g b.association ≡ false
    ended_there = unended b vs q s g y there kept.unclosed_there kept.generation_is

    -- the entry here waits, so that the one there is open, and its answer was read
    by_entries : (e : StreamEntry) → e.state ≡ AwaitDcepAck → e.id ≡ s → EntryUsed plain_meaning s p.core.sctp.association x.written x.read e
        → IsHeard plain_meaning p.core.sctp.association e → (f : StreamEntry) → (f.state ≡ AwaitOpen → ⊥) → f.id ≡ s
        → entries_of s q.core.sctp.entries ≡ f ∷ [] → EntryUsed plain_meaning s q.core.sctp.association y.written y.read f
        → IsHeard plain_meaning q.core.sctp.association f → ⊥
    by_entries e waits same used (inl opening) f past own only taken it = awaits_open e.state waits opening.0
    by_entries e waits same used (inr it) f past own only taken (inl opening) = past opening.0
    by_entries e waits same used (inr it) f past own only taken (inr at) = true≢false (sym answered ∙ here_is.none)
      where
        fits : fits_generation e.generation (generation_of p.core.sctp.association s) ≡ true
        fits = ap (λ (n : ℕ). fits_generation e.generation (generation_of p.core.sctp.association n)) (sym same) ∙ it.3

        here_is : Waiting s g x.written x.read
        here_is =
            waiting_by e.generation s p.core.sctp.association x.written x.read fits
            (subst (λ (st : StreamEntryState). IsUsedIn plain_meaning st false e.generation s p.core.sctp.association
            (messages_for plain_meaning st e.generation s p.core.sctp.association x.written)
            (messages_for plain_meaning st e.generation s p.core.sctp.association x.read)) waits
            (unmarked s p.core.sctp.association x.written x.read e it.0 used))

        none_there : has_unread q.core.sctp.association s g ≡ false
        none_there =
            ap (λ (n : ℕ). has_unread q.core.sctp.association s n) (sym kept.generation_is)
            ∙ ap (λ (n : ℕ). has_unread q.core.sctp.association n (generation_of q.core.sctp.association n)) (sym own)
            ∙ at.2

        came : any_dcep (messages_of s g y.read) ≡ true
        came =
            opening_read a b us vs p q x y s g
            (forth s g ended_here ended_there (none_has s p.core.sctp.association.outbox.items here.acknowledged)) none_there here_is.begins

        fits_there : fits_generation f.generation (generation_of q.core.sctp.association s) ≡ true
        fits_there = ap (λ (n : ℕ). fits_generation f.generation (generation_of q.core.sctp.association n)) (sym own) ∙ at.3

        opened : f.state ≡ Open
        opened =
            taken_open f.state f.generation s q.core.sctp.association y.written y.read (free_of q s there kept.unclosed_there)
            (ap (λ (n : ℕ). any_dcep (messages_of s n y.read)) kept.generation_is ∙ came) fits_there
            (unmarked s q.core.sctp.association y.written y.read f at.0 taken)

        begun : begins_with_dcep (messages_of s g y.written) ≡ true
        begun =
            ap (λ (n : ℕ). begins_with_dcep (messages_of s n y.written)) (sym kept.generation_is)
            ∙ opening_begun b vs q y there s f opened fits_there others kept.in_band_there only y.told.announced

        none_here : has_unread p.core.sctp.association s g ≡ false
        none_here = ap (λ (n : ℕ). has_unread p.core.sctp.association n (generation_of p.core.sctp.association n)) (sym same) ∙ it.2

        answered : any_dcep (messages_of s g x.read) ≡ true
        answered =
            opening_read b a vs us q p y x s g
            (back s g ended_there ended_here (none_has s q.core.sctp.association.outbox.items there.acknowledged)) none_here begun

    by_sides : WaitsForAnswer s p.core.sctp.entries → IsTakenUp s q.core.sctp.entries → UsedUnlessClosed (plain_over draws) x.written x.read p
        → UsedUnlessClosed (plain_over draws) y.written y.read q → ⊥
    by_sides waits taken (inl closed) uses = not_closed draws p here.alive closed
    by_sides waits taken (inr uses) (inl closed) = not_closed draws q there.alive closed
    by_sides waits taken (inr uses) (inr theirs) =
        let e =
        one_of (λ entry. entry.state ≡ AwaitDcepAck) (NoneUsed plain_meaning s p.core.sctp.association x.written x.read)
        (EntryUsed plain_meaning s p.core.sctp.association x.written x.read) s p.core.sctp.entries waits (uses s).used in
        let f =
        one_of (λ entry. entry.state ≡ AwaitOpen → ⊥) (NoneUsed plain_meaning s q.core.sctp.association y.written y.read)
        (EntryUsed plain_meaning s q.core.sctp.association y.written y.read) s q.core.sctp.entries taken (theirs s).used in
        let one = entry_among plain_meaning p.core.sctp.association s p.core.sctp.entries e.entry [] e.only heard kept.in_band_here in
        let two = entry_among plain_meaning q.core.sctp.association s q.core.sctp.entries f.entry [] f.only others kept.in_band_there in
        by_entries e.entry e.is_so one.id_is e.used one.heard f.entry f.is_so two.id_is f.only f.used two.heard

    pub none_waits : WaitsForAnswer s p.core.sctp.entries → IsTakenUp s q.core.sctp.entries → ⊥
    none_waits waits taken = by_sides waits taken x.told.used y.told.used
