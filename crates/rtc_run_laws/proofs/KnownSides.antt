-- In a settled pair no message stands unread of a stream that its side did not close, or its opening from there is refused for now.
use Rattle.std.proofs.Common.{ap, ◌||◌, ◌≡◌, ◌∙◌, ◌⊎◌, ◌∷◌, inl, inr, ℕ, Bool, true, false, true≢false, List, [], refl, sym, subst}
use Rattle.rtc_parts.specs.declared.assoc_event.AssocEvent.{AssocEvent}
use Rattle.rtc_parts.specs.declared.assoc_event.AssocEvent.TheVariants.{Readable}
use Rattle.rtc_parts.specs.Among.{Member}
use Rattle.rtc_assoc_state.proofs.PlainLaws.{plain_laws}
use Rattle.rtc_assoc_state.specs.Contents.{Contents, closed_here, generation_of, has_stream, is_started, has_unread}
use Rattle.rtc_assoc_state.specs.PlainMeaning.{plain_meaning}
use Rattle.rtc_parts.specs.Draws.{Draws}
use Rattle.rtc_sctp_entries.specs.declared.stream_entry_state.StreamEntryState.TheVariants.{AwaitOpen}
use Rattle.rtc_sctp_entries.specs.declared.stream_entry.StreamEntry.{StreamEntry}
use Rattle.rtc_sctp_entries.specs.Entries.{is_open_awaited}
use Rattle.rtc_sctp.specs.Streams.{is_established}
use Rattle.rtc_sctp_laws.specs.StreamUses.{is_spent_stream}
use Rattle.rtc_sctp_laws.proofs.BackedRows.{plain_sound}
use Rattle.rtc_sctp_laws.proofs.KnownStreams.{AreKnown, HasEntry}
use Rattle.rtc_peer_laws.specs.Drained.{AllHeard, AreHeard, AreTriedAgain, IsHeard, IsTriedAgain, is_opening_refused}
use Rattle.rtc_run_laws.specs.PlainPairs.{PlainPolled}
use Rattle.rtc_run_laws.specs.OwnOpenings.{HasEntryOf}
use Rattle.rtc_run_laws.specs.SettledPairs.{IsOpeningRefused, IsSettledPeer}
use Rattle.rtc_run_laws.proofs.AnsweredOpenings.{free_of}
use Rattle.rtc_run_laws.proofs.OpenSides.{both_true}

module _ (a : Contents) (s : ℕ) where
  -- an entry of the stream waits to be opened, or was heard
  heard_quiet : (e : StreamEntry) → e.id ≡ s → IsHeard plain_meaning a e → (e.state ≡ AwaitOpen) ⊎ (has_unread a s (generation_of a s) ≡ false)
  heard_quiet e same (inl opening) = inl opening.0
  heard_quiet e same (inr it) = inr (subst (λ (n : ℕ). has_unread a n (generation_of a n) ≡ false) same it.2)

  entry_quiet : (es : List StreamEntry) → AreHeard plain_meaning a es → HasEntry s es
      → HasEntryOf (λ entry. entry.state ≡ AwaitOpen) s es ⊎ (has_unread a s (generation_of a s) ≡ false)
  entry_quiet [] heard h = absurd h
  entry_quiet (e ∷ es) heard (inl h) = first (heard_quiet e h.0 heard.0)
    where
      first : (e.state ≡ AwaitOpen) ⊎ (has_unread a s (generation_of a s) ≡ false)
          → HasEntryOf (λ entry. entry.state ≡ AwaitOpen) s (e ∷ es) ⊎ (has_unread a s (generation_of a s) ≡ false)
      first (inl opening) = inl (inl (h.0, opening))
      first (inr quiet) = inr quiet
  entry_quiet (e ∷ es) heard (inr h) = later (entry_quiet es heard.1 h)
    where
      later : HasEntryOf (λ entry. entry.state ≡ AwaitOpen) s es ⊎ (has_unread a s (generation_of a s) ≡ false)
          → HasEntryOf (λ entry. entry.state ≡ AwaitOpen) s (e ∷ es) ⊎ (has_unread a s (generation_of a s) ≡ false)
      later (inl opening) = inl (inr opening)
      later (inr quiet) = inr quiet

-- an entry that waits to be opened is tried again, as the association refuses that for now
opening_refused : (a : Contents) (last s : ℕ) (es : List StreamEntry) → AreHeard plain_meaning a es → AreTriedAgain last es
    → HasEntryOf (λ entry. entry.state ≡ AwaitOpen) s es → HasEntryOf (IsTriedAgain last) s es × (is_opening_refused plain_meaning a s ≡ true)
opening_refused a last s [] heard tried h = absurd h
opening_refused a last s (e ∷ es) heard tried (inl h) = by heard.0
  where
    by : IsHeard plain_meaning a e → HasEntryOf (IsTriedAgain last) s (e ∷ es) × (is_opening_refused plain_meaning a s ≡ true)
    by (inl it) = (inl (h.0, tried.0 h.1), subst (λ (n : ℕ). is_opening_refused plain_meaning a n ≡ true) h.0 it.2)
    by (inr it) = absurd (true≢false (sym (ap is_open_awaited h.1) ∙ it.4))
opening_refused a last s (e ∷ es) heard tried (inr h) =
    let later = opening_refused a last s es heard.1 tried.1 h in
    (inr later.0, later.1)

-- it is one that waits
pub refused_opening : {N : Type 0} (s : ℕ) (q : PlainPolled N) → IsOpeningRefused s q
    → HasEntryOf (λ entry. entry.state ≡ AwaitOpen) s q.core.sctp.entries
refused_opening s q h = by q.core.sctp.entries h.0
  where
    by : (es : List StreamEntry) → HasEntryOf (IsTriedAgain q.core.sctp.last) s es → HasEntryOf (λ entry. entry.state ≡ AwaitOpen) s es
    by [] k = absurd k
    by (e ∷ es) (inl k) = inl (k.0, k.1.0)
    by (e ∷ es) (inr k) = inr (by es k)

-- a peer that holds nothing has no event due
pub none_due : (a : Contents) → plain_meaning.held a ≡ 0 → plain_meaning.due a ≡ []
none_due a h = plain_laws.poll_none a a (plain_laws.quiet_event a h)

module _ {N : Type 0} (draws : Draws N) where
  -- an opening that waits is refused for now, of a stream that its side did not close
  pub refused_of : (q : PlainPolled N) (s : ℕ) → AreHeard plain_meaning q.core.sctp.association q.core.sctp.entries
      → AreTriedAgain q.core.sctp.last q.core.sctp.entries → closed_here q.core.sctp.association s ≡ false → HasEntryOf (λ entry. entry.state ≡ AwaitOpen) s q.core.sctp.entries → IsOpeningRefused s q
  refused_of q s heard tried unclosed opening =
      let it = opening_refused q.core.sctp.association q.core.sctp.last s q.core.sctp.entries heard tried opening in
      (it.0, there (has_stream q.core.sctp.association s) (closed_here q.core.sctp.association s) unclosed it.1)
    where
      there : (x y : Bool) → y ≡ false → (x || y) ≡ true → x ≡ true
      there true y e h = refl
      there false y e h = absurd (true≢false (sym h ∙ e))

  -- each is, as the association is established, and so it is started
  pub tried_in : (q : PlainPolled N) → IsSettledPeer q → AllHeard plain_meaning q.core.sctp → AreKnown plain_meaning plain_sound q.core.sctp
      → AreTriedAgain q.core.sctp.last q.core.sctp.entries
  tried_in q settled all known =
      all.tried
      (both_true (is_established q.core.sctp.state) (is_started q.core.sctp.association) settled.established (known.begun settled.established))

  pub none_unread : (q : PlainPolled N) (s : ℕ) → IsSettledPeer q → AllHeard plain_meaning q.core.sctp
      → AreHeard plain_meaning q.core.sctp.association q.core.sctp.entries → AreKnown plain_meaning plain_sound q.core.sctp
      → plain_sound q.core.sctp.association → closed_here q.core.sctp.association s ≡ false
      → IsOpeningRefused s q ⊎ (has_unread q.core.sctp.association s (generation_of q.core.sctp.association s) ≡ false)
  none_unread q s settled all heard known ok unclosed = by (has_unread a s (generation_of a s)) refl
    where
      a : Contents
      a = q.core.sctp.association

      due : plain_meaning.due a ≡ []
      due = none_due a (all.quiet (known.begun settled.established))

      no_due : Member (Readable s) (plain_meaning.due a) → ⊥
      no_due h = subst (λ (l : List AssocEvent). Member (Readable s) l) due h

      of_entry : HasEntryOf (λ entry. entry.state ≡ AwaitOpen) s q.core.sctp.entries ⊎ (has_unread a s (generation_of a s) ≡ false)
          → IsOpeningRefused s q ⊎ (has_unread a s (generation_of a s) ≡ false)
      of_entry (inl opening) = inl (refused_of q s heard (tried_in q settled all known) unclosed opening)
      of_entry (inr quiet) = inr quiet

      from : HasEntry s q.core.sctp.entries ⊎ (Member (Readable s) (plain_meaning.due a) ⊎ (is_spent_stream plain_meaning s a ≡ true))
          → IsOpeningRefused s q ⊎ (has_unread a s (generation_of a s) ≡ false)
      from (inl there) = of_entry (entry_quiet a s q.core.sctp.entries heard there)
      from (inr (inl told)) = absurd (no_due told)
      from (inr (inr spent)) = absurd (true≢false (sym spent ∙ free_of draws q s settled unclosed))

      by : (b : Bool) → has_unread a s (generation_of a s) ≡ b → IsOpeningRefused s q ⊎ (has_unread a s (generation_of a s) ≡ false)
      by true e = from (known.known s ok e)
      by false e = inr e
