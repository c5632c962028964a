-- In a settled pair a stream that still waits to be opened from here is not open at the other side.
use Rattle.std.proofs.Common.{◌≡◌, ◌∙◌, ◌⊎◌, ◌∷◌, ◌==◌, ◌&&◌, ◌||◌, ℕ, Bool, true, false, true≢false, List, [], map, Option, Some, inl, inr, refl, sym, ap, subst, arith}
use Rattle.std.proofs.lemmas.Bool.{eqb-true}
use Rattle.rtc_parts.specs.AssociationWords.{read, written}
use Rattle.rtc_assoc.specs.Unread.{IsPrefix}
use Rattle.rtc_assoc_state.specs.Contents.{generation_of}
use Rattle.rtc_assoc_state.specs.PlainMeaning.{plain_meaning}
use Rattle.rtc_parts.specs.Draws.{Draws}
use Rattle.rtc_sctp_entries.specs.declared.stream_entry_state.StreamEntryState.{StreamEntryState}
use Rattle.rtc_sctp_entries.specs.declared.stream_entry_state.StreamEntryState.TheVariants.{AwaitOpen, AwaitConfig, AwaitDcepAck, Open, Closed}
use Rattle.rtc_sctp_entries.specs.declared.stream_entry.StreamEntry.{StreamEntry}
use Rattle.rtc_sctp_entries.specs.Entries.{fits_generation, has_open, is_open_awaited, is_open_state}
use Rattle.rtc_sctp_laws.specs.StreamUses.{EntryUsed, IsIdleStream, IsUsedIn, NoneUsed, messages_for, messages_of}
use Rattle.rtc_sctp_laws.proofs.ContentLemmas.{read_are, written_are}
use Rattle.rtc_sctp_laws.specs.Contents.{numbered_message}
use Rattle.rtc_peer_laws.specs.ChannelStreams.{AreNumbersGiven}
use Rattle.rtc_peer_laws.specs.Drained.{AreHeard, IsHeard}
use Rattle.rtc_peer_laws.specs.PeerActs.{PeerActs}
use Rattle.rtc_run_laws.specs.PlainPairs.{PlainPolled, plain_over}
use Rattle.rtc_run_laws.specs.ChannelUses.{ChannelUse}
use Rattle.rtc_run_laws.specs.OwnOpenings.{HasEntryOf}
use Rattle.rtc_run_laws.specs.SettledPairs.{IsSettledPeer}
use Rattle.rtc_run_laws.proofs.KeptStreams.{AreKeptStreams}
use Rattle.rtc_run_laws.proofs.AnnouncedStreams.{AnnouncedUnlessClosed, HasUseOver, found}
use Rattle.rtc_run_laws.proofs.AnsweredOpenings.{OneOf, free_of, one_of}
use Rattle.rtc_run_laws.proofs.HeardOpenings.{EntryAmong, entry_among, no_messages, nothing_first}
use Rattle.rtc_run_laws.proofs.OpenSides.{not_closed}
use Rattle.rtc_run_laws.proofs.StandingSides.{SideStood}
use Rattle.rtc_run_laws.proofs.UseLists.{all_member, none_numbered}
use Rattle.rtc_run_laws.proofs.UsesTold.{use_opened, InBandTold, UsedUnlessClosed}

some_is : (a b : ℕ) → Some a ≡ Some b → a ≡ b
some_is a b h = cc

-- a stream that is open has an entry that is
open_is : (st : StreamEntryState) → is_open_state st ≡ true → st ≡ Open
open_is AwaitOpen h = absurd (true≢false (sym h))
open_is AwaitConfig h = absurd (true≢false (sym h))
open_is AwaitDcepAck h = absurd (true≢false (sym h))
open_is Open h = refl
open_is Closed h = absurd (true≢false (sym h))

open_has : (s : ℕ) (es : List StreamEntry) → has_open s es ≡ true → HasEntryOf (λ entry. entry.state ≡ Open) s es
open_has s [] h = absurd (true≢false (sym h))
open_has s (e ∷ es) h = by (e.id == s) refl (is_open_state e.state) refl h (λ k. open_has s es k)
  where
    by : (c : Bool) → (e.id == s) ≡ c → (d : Bool) → is_open_state e.state ≡ d → ((c && d) || has_open s es) ≡ true
        → (has_open s es ≡ true → HasEntryOf (λ entry. entry.state ≡ Open) s es) → HasEntryOf (λ entry. entry.state ≡ Open) s (e ∷ es)
    by true f true k g rest = inl (eqb-true e.id s f, open_is e.state k)
    by true f false k g rest = inr (rest g)
    by false f d k g rest = inr (rest g)

module _ {N : Type 0} (draws : Draws N) where
  module _ (a b : PeerActs) (us vs : List ChannelUse) (p q : PlainPolled N) (x : SideStood draws a us p) (y : SideStood draws b vs q)
      (here : IsSettledPeer p) (there : IsSettledPeer q) (others : AreHeard plain_meaning q.core.sctp.association q.core.sctp.entries)
      (reads : (s g : ℕ) → IsPrefix (read s g b.association) (written s g a.association)) (s : ℕ) (kept : AreKeptStreams s p q) where
    abbrev g : ℕ
    g = generation_of p.core.sctp.association s

    -- from here nothing was written over it
    idle_written : IsIdleStream plain_meaning s p.core.sctp.association (messages_of s g x.written) (messages_of s g x.read)
        → messages_of s g x.written ≡ []
    idle_written (inl idle) = idle.0
    idle_written (inr spent) = absurd (true≢false (sym spent ∙ free_of draws p s here kept.unclosed_here))

    unwritten : HasEntryOf (λ entry. entry.state ≡ AwaitOpen) s p.core.sctp.entries → UsedUnlessClosed (plain_over draws) x.written x.read p
        → messages_of s g x.written ≡ []
    unwritten opening (inl closed) = absurd (not_closed draws p here.alive closed)
    unwritten opening (inr uses) =
        let e =
        one_of (λ entry. entry.state ≡ AwaitOpen) (NoneUsed plain_meaning s p.core.sctp.association x.written x.read)
        (EntryUsed plain_meaning s p.core.sctp.association x.written x.read) s p.core.sctp.entries opening (uses s).used in
        idle_written
        (subst (λ (st : StreamEntryState). IsUsedIn plain_meaning st e.entry.marked e.entry.generation s p.core.sctp.association
        (messages_for plain_meaning st e.entry.generation s p.core.sctp.association x.written)
        (messages_for plain_meaning st e.entry.generation s p.core.sctp.association x.read)) e.is_so e.used.0)

    -- so nothing was read there
    unread_there : messages_of s g x.written ≡ [] → messages_of s g y.read ≡ []
    unread_there none =
        none_numbered (messages_of s g y.read)
        (sym (read_are s g b.association y.read y.read_is)
        ∙ nothing_first (read s g b.association) (reads s g).rest
        ((reads s g).is ∙ written_are s g a.association x.written x.wrote_is ∙ ap (map numbered_message) none))

    -- but a message was, by which the channel there was announced
    read_some : (own : Option ℕ) → fits_generation own (generation_of q.core.sctp.association s) ≡ true
        → HasUseOver s own vs ⊎ AreNumbersGiven q.core.channels → messages_of s (generation_of q.core.sctp.association s) y.read ≡ [] → ⊥
    read_some own fits (inr full) none = let left = there.numbers in absurd (omega (arith, left, full))
    read_some own fits (inl over) none =
        let it = found s own vs over in
        let t =
        use_opened (plain_over draws) y.written y.read q it.use_over
        (all_member (InBandTold (plain_over draws) y.written y.read q) vs it.use_over y.told.each it.member it.is_over.0) in
        let same : it.use_over.generation ≡ generation_of q.core.sctp.association s =
        eqb-true it.use_over.generation (generation_of q.core.sctp.association s)
        (ap (λ (o : Option ℕ). fits_generation o (generation_of q.core.sctp.association s)) (sym it.is_over.2) ∙ fits) in
        no_messages t.before t.last t.rest
        (sym t.read_is ∙ ap (λ (n : ℕ). messages_of t.stream n y.read) same
        ∙ ap (λ (n : ℕ). messages_of n (generation_of q.core.sctp.association s) y.read) (sym (some_is s t.stream (sym it.is_over.1 ∙ t.stream_is)))
        ∙ none)

    not_open : HasEntryOf (λ entry. entry.state ≡ AwaitOpen) s p.core.sctp.entries → HasEntryOf (λ entry. entry.state ≡ Open) s q.core.sctp.entries
        → UsedUnlessClosed (plain_over draws) y.written y.read q → ⊥
    not_open opening opened (inl closed) = not_closed draws q there.alive closed
    not_open opening opened (inr uses) = by among.heard
      where
        e : OneOf (λ entry. entry.state ≡ Open) (EntryUsed plain_meaning s q.core.sctp.association y.written y.read) s q.core.sctp.entries
        e =
            one_of (λ entry. entry.state ≡ Open) (NoneUsed plain_meaning s q.core.sctp.association y.written y.read)
            (EntryUsed plain_meaning s q.core.sctp.association y.written y.read) s q.core.sctp.entries opened (uses s).used

        among : EntryAmong plain_meaning q.core.sctp.association s q.core.sctp.entries e.entry
        among = entry_among plain_meaning q.core.sctp.association s q.core.sctp.entries e.entry [] e.only others kept.in_band_there

        none : messages_of s (generation_of q.core.sctp.association s) y.read ≡ []
        none = ap (λ (n : ℕ). messages_of s n y.read) kept.generation_is ∙ unread_there (unwritten opening x.told.used)

        over : AnnouncedUnlessClosed (plain_over draws) vs q → HasUseOver s e.entry.generation vs ⊎ AreNumbersGiven q.core.channels
        over (inl closed) = absurd (not_closed draws q there.alive closed)
        over (inr announced) = announced s e.entry.generation (among.in_band e.entry.generation refl e.is_so)

        by : IsHeard plain_meaning q.core.sctp.association e.entry → ⊥
        by (inl waits) = true≢false (sym (ap is_open_awaited waits.0) ∙ ap is_open_awaited e.is_so)
        by (inr it) =
            read_some e.entry.generation
            (ap (λ (n : ℕ). fits_generation e.entry.generation (generation_of q.core.sctp.association n)) (sym among.id_is) ∙ it.3)
            (over y.told.announced) none

    pub shut_there : HasEntryOf (λ entry. entry.state ≡ AwaitOpen) s p.core.sctp.entries → has_open s q.core.sctp.entries ≡ false
    shut_there opening = by (has_open s q.core.sctp.entries) refl
      where
        by : (c : Bool) → has_open s q.core.sctp.entries ≡ c → has_open s q.core.sctp.entries ≡ false
        by true f = absurd (not_open opening (open_has s q.core.sctp.entries f) y.told.used)
        by false f = f
