-- What a pass of a poll leaves of a stream that is open in a generation, and of which generation a completed reset is that it reports.
use Rattle.std.proofs.Common.{◌≡◌, ◌⊎◌, inl, inr, ◌≤◌, ℕ, ◌&&◌, Bool, true, false, List, [], ◌∷◌, Option, Some, None, refl, sym, ap, subst, ◌∙◌}
use Rattle.rtc_parts.specs.declared.assoc_event.AssocEvent.{AssocEvent}
use Rattle.rtc_parts.specs.declared.assoc_event.AssocEvent.TheVariants as assoc
use Rattle.rtc_parts.specs.AssociationMeaning.{AssociationMeaning}
use Rattle.rtc_parts.specs.AssociationLaws.{AssociationLaws}
use Rattle.rtc_sctp_entries.specs.declared.sctp_event.SctpEvent.{SctpEvent}
use Rattle.rtc_sctp_entries.specs.declared.sctp_event.SctpEvent.TheVariants as event
use Rattle.rtc_sctp_entries.specs.declared.stream_entry.StreamEntry.{StreamEntry}
use Rattle.rtc_sctp_entries.specs.declared.met.Met.{Met}
use Rattle.rtc_sctp_entries.specs.declared.met.Met.TheVariants.{Nothing, Again, Output, OutOfMemory}
use Rattle.rtc_sctp.specs.Streams.{SctpStreams, is_established}
use Rattle.rtc_sctp.specs.Polls.{Book, book_of, AfterEvent, CompletionOf, Else, Event, GivesCompletion, GivesTransmit, HandlesEvent, MakesPass, NoEvent, NoRoom, NotStarted, PassIf, RestsBy, TakesEvent, TakesPacket, TakesSteps, ThenBy, TransmitIf, TransmitOf, VisitsEntries, VisitsIf, event_met, unclosed_streams}
use Rattle.rtc_sctp_laws.specs.StreamMessages.{resets_met}
use Rattle.rtc_sctp_laws.specs.StreamUses.{IsLive}
use Rattle.rtc_sctp_laws.proofs.LivingEntries.{live_after, live_is, live_unclosed}
use Rattle.rtc_sctp_laws.proofs.PollActs.{event_reset, tour_did}
use Rattle.rtc_run_laws.proofs.CompletingVisits.{TellsClose, TourLeaves, tour_leaves}

module _ {S : Type 0} (m : AssociationMeaning S) (w : AssociationLaws m) where
  no_met : (e : SctpEvent) → Nothing ≡ Output e → ⊥
  no_met e h = cc

  nothing_again : Nothing ≡ Again → ⊥
  nothing_again h = cc

  nothing_memory : Nothing ≡ OutOfMemory → ⊥
  nothing_memory h = cc

  -- ---- what a step leaves of a live stream

  pub data Left (s g : ℕ) (p : SctpStreams S) (met : Met) (q : SctpStreams S) : Type 0 where
    Told : TellsClose s met → Left s g p met q
    Quiet : resets_met met ≡ [] → is_established q.state ≡ true → IsLive s g q.entries → Left s g p met q
    Completed : (id : ℕ) → met ≡ Output (event.StreamResetComplete id) → is_established q.state ≡ true → IsLive s g q.entries
        → p.completed ≡ id ∷ q.completed → m.generation p.association s ≤ g → Left s g p met q

  -- a step that gave nothing left all as it was
  record Same (p q : SctpStreams S) : Type 0 where
    association_is : q.association ≡ p.association
    state_is : q.state ≡ p.state
    entries_is : q.entries ≡ p.entries
    completed_is : q.completed ≡ p.completed

  same : (p q : SctpStreams S) → q ≡ p → Same p q
  same p q h = record {
    association_is = ap (λ (x : SctpStreams S). x.association) h;
    state_is = ap (λ (x : SctpStreams S). x.state) h;
    entries_is = ap (λ (x : SctpStreams S). x.entries) h;
    completed_is = ap (λ (x : SctpStreams S). x.completed) h;
  }

  transmit_same : (o : Option (List (List ℕ))) (p q : SctpStreams S) → TransmitOf m o p Nothing q → Same p q
  transmit_same (Some packets) p q h = absurd (no_met _ h.0)
  transmit_same None p q h = by (m.started p.association) h
    where
      by : (b : Bool) → TransmitIf m b p Nothing q → Same p q
      by false k = same p q k.1
      by true k = record {
        association_is = w.packet_none p.association q.association k.0;
        state_is = ap (λ (x : SctpStreams S). x.state) k.1;
        entries_is = ap (λ (x : SctpStreams S). x.entries) k.1;
        completed_is = ap (λ (x : SctpStreams S). x.completed) k.1;
      }

  packet_reset : (a : S) (met : Met) (b : S) → TakesPacket m a met b → resets_met met ≡ []
  packet_reset a Nothing b h = refl
  packet_reset a Again b h = absurd h
  packet_reset a (Output (event.Transmit packets)) b h = refl
  packet_reset a (Output (event.Open id label)) b h = absurd h
  packet_reset a (Output (event.Close id pending)) b h = absurd h
  packet_reset a (Output (event.StreamResetComplete id)) b h = absurd h
  packet_reset a (Output (event.Data id binary bytes)) b h = absurd h
  packet_reset a (Output (event.BufferedAmountLow id)) b h = absurd h
  packet_reset a (Output event.AssociationLost) b h = absurd h
  packet_reset a OutOfMemory b h = refl

  transmit_left : (s g : ℕ) (p0 : SctpStreams S) (o : Option (List (List ℕ))) (p : SctpStreams S) (met : Met) (q : SctpStreams S) → is_established p.state ≡ true → IsLive s g p.entries
      → TransmitOf m o p met q → Left s g p0 met q
  transmit_left s g p0 (Some packets) p met q st live h =
      Quiet (ap resets_met h.0) (ap (λ (x : SctpStreams S). is_established x.state) h.1 ∙ st) (live_is s g p.entries q.entries (ap (λ (x : SctpStreams S). x.entries) h.1) live)
  transmit_left s g p0 None p met q st live h = by (m.started p.association) h
    where
      by : (b : Bool) → TransmitIf m b p met q → Left s g p0 met q
      by false k = Quiet (ap resets_met k.0) (ap (λ (x : SctpStreams S). is_established x.state) k.1 ∙ st) (live_is s g p.entries q.entries (ap (λ (x : SctpStreams S). x.entries) k.1) live)
      by true k =
          Quiet (packet_reset p.association met q.association k.0) (ap (λ (x : SctpStreams S). is_established x.state) k.1 ∙ st)
          (live_is s g p.entries q.entries (ap (λ (x : SctpStreams S). x.entries) k.1) live)

  event_nothing : (e : AssocEvent) → Nothing ≡ event_met e → ⊥
  event_nothing assoc.Connected h = nothing_again h
  event_nothing assoc.Lost h = no_met _ h
  event_nothing (assoc.Readable id) h = nothing_again h
  event_nothing (assoc.Writable id) h = nothing_again h
  event_nothing (assoc.Finished id) h = nothing_again h
  event_nothing (assoc.ResetComplete id) h = nothing_again h
  event_nothing (assoc.BufferedAmountLow id) h = no_met _ h

  book_same : (p q : SctpStreams S) → q.association ≡ p.association → book_of q ≡ book_of p → Same p q
  book_same p q a b = record {
    association_is = a;
    state_is = ap (λ (x : Book). x.state) b;
    entries_is = ap (λ (x : Book). x.entries) b;
    completed_is = ap (λ (x : Book). x.completed) b;
  }

  event_same : (p q : SctpStreams S) → TakesEvent m p.association (book_of p) Nothing q.association (book_of q) → Same p q
  event_same p q (NotStarted started e a b) = book_same p q a b
  event_same p q (NoRoom e a b) = absurd (nothing_memory e)
  event_same p q (NoEvent started polled e b) = book_same p q (w.event_none p.association q.association polled) b
  event_same p q (Event e started polled k after) = absurd (event_nothing e k)

  after_established : (e : AssocEvent) (b b' : Book) → AfterEvent e b b' → is_established b.state ≡ true → is_established b'.state ≡ true
  after_established assoc.Connected b b' h k = ap (λ (x : Book). is_established x.state) h
  after_established assoc.Lost b b' h k = ap (λ (x : Book). is_established x.state) h ∙ k
  after_established (assoc.Readable id) b b' h k = ap (λ (x : Book). is_established x.state) h ∙ k
  after_established (assoc.Writable id) b b' h k = ap (λ (x : Book). is_established x.state) h ∙ k
  after_established (assoc.Finished id) b b' h k = ap (λ (x : Book). is_established x.state) h.1 ∙ k
  after_established (assoc.ResetComplete id) b b' h k = ap (λ (x : Book). is_established x.state) h ∙ k
  after_established (assoc.BufferedAmountLow id) b b' h k = ap (λ (x : Book). is_established x.state) h ∙ k

  event_left : (s g : ℕ) (p0 p : SctpStreams S) (met : Met) (q : SctpStreams S) → is_established p.state ≡ true → IsLive s g p.entries
      → TakesEvent m p.association (book_of p) met q.association (book_of q) → Left s g p0 met q
  event_left s g p0 p met q st live (NotStarted started e a b) = Quiet (ap resets_met e) (ap (λ (x : Book). is_established x.state) b ∙ st) (live_is s g p.entries q.entries (ap (λ (x : Book). x.entries) b) live)
  event_left s g p0 p met q st live (NoRoom e a b) = Quiet (ap resets_met e) (ap (λ (x : Book). is_established x.state) b ∙ st) (live_is s g p.entries q.entries (ap (λ (x : Book). x.entries) b) live)
  event_left s g p0 p met q st live (NoEvent started polled e b) = Quiet (ap resets_met e) (ap (λ (x : Book). is_established x.state) b ∙ st) (live_is s g p.entries q.entries (ap (λ (x : Book). x.entries) b) live)
  event_left s g p0 p met q st live (Event e started polled k after) =
      Quiet (ap resets_met k ∙ event_reset m w e) (after_established e (book_of p) (book_of q) after st) (live_after e (book_of p) (book_of q) s g after live)

  -- ---- a pass

  module _ (s g : ℕ) (p : SctpStreams S) where
    -- the last step
    completion_left : (u : SctpStreams S) (met : Met) (q : SctpStreams S) → u.completed ≡ p.completed → is_established u.state ≡ true → IsLive s g u.entries → m.generation p.association s ≤ g
        → (l : List ℕ) → u.completed ≡ l → CompletionOf l u met q → Left s g p met q
    completion_left u met q c st live up [] is h =
        Quiet (ap resets_met h.0) (ap (λ (x : SctpStreams S). is_established x.state) h.1 ∙ st) (live_is s g u.entries q.entries (ap (λ (x : SctpStreams S). x.entries) h.1) live)
    completion_left u met q c st live up (id ∷ rest) is h =
        Completed id h.0 (ap (λ (x : SctpStreams S). is_established x.state) h.1 ∙ st) (live_is s g u.entries q.entries (ap (λ (x : SctpStreams S). x.entries) h.1) live)
        (sym c ∙ is ∙ ap (λ (l : List ℕ). id ∷ l) (sym (ap (λ (x : SctpStreams S). x.completed) h.1))) up

    stopped : (own : Met) (b : SctpStreams S) (met : Met) (q : SctpStreams S) → met ≡ own → q ≡ b → Left s g p own b → Left s g p met q
    stopped own b met q e f h = subst (λ (x : Met). Left s g p x q) (sym e) (subst (λ (x : SctpStreams S). Left s g p own x) (sym f) h)

    tour_left : (own : Met) (u b : SctpStreams S) → resets_met own ≡ [] → b.state ≡ u.state → is_established u.state ≡ true → TourLeaves m s g u.association own b.entries → Left s g p own b
    tour_left own u b r same st t = by t.left
      where
        by : TellsClose s own ⊎ IsLive s g b.entries → Left s g p own b
        by (inl h) = Told h
        by (inr h) = Quiet r (ap is_established same ∙ st) h

    live_of : (own : Met) (es : List StreamEntry) → own ≡ Nothing → TellsClose s own ⊎ IsLive s g es → IsLive s g es
    live_of own es e (inl h) = absurd (no_met _ (sym e ∙ h.1))
    live_of own es e (inr h) = h

    both : (a b : Bool) → a ≡ true → b ≡ true → (a && b) ≡ true
    both a b h k = rw (h, k) refl

    -- the last two
    visits_left : (u : SctpStreams S) (met : Met) (q : SctpStreams S) → Same p u → is_established p.state ≡ true → m.started p.association ≡ true → IsLive s g p.entries
        → Else (VisitsEntries m) GivesCompletion u met q → Left s g p met q
    visits_left u met q is st begun live h =
        let st_u : is_established u.state ≡ true = ap is_established is.state_is ∙ st in
        let begun_u : m.started u.association ≡ true = ap m.started is.association_is ∙ begun in
        let there = subst (λ (b : Bool). VisitsIf m b u h.0 h.1.0) (both _ _ st_u begun_u) h.1.1.0 in
        let tour = tour_leaves m w u.last u.entries s g u.association u.resets h.0 h.1.0.association h.1.0.resets h.1.0.entries (live_is s g p.entries u.entries is.entries_is live) there.0 in
        by h.0 h.1.0 (tour_did m w u.last u.entries u.association u.resets h.0 h.1.0.association h.1.0.resets h.1.0.entries there.0).reset_is there.1 st_u tour h.1.1.1
      where
        by : (own : Met) (b : SctpStreams S) → resets_met own ≡ [] → b ≡ record u { association = b.association; resets = b.resets; entries = b.entries } → is_established u.state ≡ true
            → TourLeaves m s g u.association own b.entries → ThenBy GivesCompletion own b met q → Left s g p met q
        by Nothing b r f st_u t v =
            let up : m.generation p.association s ≤ g = subst (λ (a : S). m.generation a s ≤ g) is.association_is (t.fits refl) in
            completion_left b met q (ap (λ (x : SctpStreams S). x.completed) f ∙ is.completed_is) (ap (λ (x : SctpStreams S). is_established x.state) f ∙ st_u)
            (live_of Nothing b.entries refl t.left) up b.completed refl v
        by Again b r f st_u t v = stopped Again b met q v.0 v.1 (tour_left Again u b r (ap (λ (x : SctpStreams S). x.state) f) st_u t)
        by (Output o) b r f st_u t v = stopped (Output o) b met q v.0 v.1 (tour_left (Output o) u b r (ap (λ (x : SctpStreams S). x.state) f) st_u t)
        by OutOfMemory b r f st_u t v = stopped OutOfMemory b met q v.0 v.1 (tour_left OutOfMemory u b r (ap (λ (x : SctpStreams S). x.state) f) st_u t)

    same_then : (u v : SctpStreams S) → Same p u → Same u v → Same p v
    same_then u v f k = record {
      association_is = k.association_is ∙ f.association_is;
      state_is = k.state_is ∙ f.state_is;
      entries_is = k.entries_is ∙ f.entries_is;
      completed_is = k.completed_is ∙ f.completed_is;
    }

    -- the last three
    events_left : (u : SctpStreams S) (met : Met) (q : SctpStreams S) → Same p u → is_established p.state ≡ true → m.started p.association ≡ true → IsLive s g p.entries
        → Else (HandlesEvent m) (Else (VisitsEntries m) GivesCompletion) u met q → Left s g p met q
    events_left u met q is st begun live h = by h.0 h.1.0 h.1.1.0.0 h.1.1.1
      where
        given : (own : Met) (b : SctpStreams S) → TakesEvent m u.association (book_of u) own b.association (book_of b) → Left s g p own b
        given own b t = event_left s g p u own b (ap is_established is.state_is ∙ st) (live_is s g p.entries u.entries is.entries_is live) t

        by : (own : Met) (b : SctpStreams S) → TakesEvent m u.association (book_of u) own b.association (book_of b) → ThenBy (Else (VisitsEntries m) GivesCompletion) own b met q
            → Left s g p met q
        by Nothing b t v = visits_left b met q (same_then u b is (event_same u b t)) st begun live v
        by Again b t v = stopped Again b met q v.0 v.1 (given Again b t)
        by (Output o) b t v = stopped (Output o) b met q v.0 v.1 (given (Output o) b t)
        by OutOfMemory b t v = stopped OutOfMemory b met q v.0 v.1 (given OutOfMemory b t)

    -- all four
    steps_left : (met : Met) (q : SctpStreams S) → is_established p.state ≡ true → m.started p.association ≡ true → IsLive s g p.entries
        → Else (GivesTransmit m) (Else (HandlesEvent m) (Else (VisitsEntries m) GivesCompletion)) p met q → Left s g p met q
    steps_left met q st begun live h = by h.0 h.1.0 h.1.1.0 h.1.1.1
      where
        by : (own : Met) (b : SctpStreams S) → GivesTransmit m p own b → ThenBy (Else (HandlesEvent m) (Else (VisitsEntries m) GivesCompletion)) own b met q → Left s g p met q
        by Nothing b t v = events_left b met q (transmit_same p.pushed p b t) st begun live v
        by Again b t v = stopped Again b met q v.0 v.1 (transmit_left s g p p.pushed p Again b st live t)
        by (Output o) b t v = stopped (Output o) b met q v.0 v.1 (transmit_left s g p p.pushed p (Output o) b st live t)
        by OutOfMemory b t v = stopped OutOfMemory b met q v.0 v.1 (transmit_left s g p p.pushed p OutOfMemory b st live t)

  -- closed entries are dropped before them
  unclosed_left : (s g : ℕ) (p : SctpStreams S) (met : Met) (q : SctpStreams S) → Left s g (unclosed_streams p) met q → Left s g p met q
  unclosed_left s g p met q (Told h) = Told h
  unclosed_left s g p met q (Quiet r st live) = Quiet r st live
  unclosed_left s g p met q (Completed id e st live c up) = Completed id e st live c up

  -- streams at rest
  rests_left : (s g : ℕ) (o : Option (List (List ℕ))) (p : SctpStreams S) (met : Met) (q : SctpStreams S) → is_established p.state ≡ true → IsLive s g p.entries
      → RestsBy o p met q → Left s g p met q
  rests_left s g None p met q st live h =
      Quiet (ap resets_met h.0) (ap (λ (x : SctpStreams S). is_established x.state) h.1 ∙ st) (live_is s g p.entries q.entries (ap (λ (x : SctpStreams S). x.entries) h.1) live)
  rests_left s g (Some packets) p met q st live h = transmit_left s g p (Some packets) p met q st live h

  pass_if : (b : Bool) (s g : ℕ) (p : SctpStreams S) (met : Met) (q : SctpStreams S) → is_established p.state ≡ true → m.started p.association ≡ true → IsLive s g p.entries
      → PassIf m b p met q → Left s g p met q
  unfolding TakesSteps
  pass_if true s g p met q st begun live h = rests_left s g p.pushed p met q st live h.0
  pass_if false s g p met q st begun live h =
      unclosed_left s g p met q (steps_left s g (unclosed_streams p) met q st begun (live_unclosed s g p.entries live) h)

  pub pass_left : (s g : ℕ) (p : SctpStreams S) (met : Met) (q : SctpStreams S) → is_established p.state ≡ true → m.started p.association ≡ true → IsLive s g p.entries
      → MakesPass m p met q → Left s g p met q
  unfolding MakesPass
  pass_left s g p met q st begun live h = pass_if p.rests s g p met q st begun live h
