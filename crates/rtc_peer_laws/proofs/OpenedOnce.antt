-- A channel is not told to be open in-band in a generation of its stream in which a message that opens a channel was read before.
use Rattle.std.proofs.Common.{◌≡◌, ◌⊎◌, inl, inr, ◌++◌, ◌∷◌, ◌==◌, ◌&&◌, ◌||◌, cond, ℕ, Bool, true, false, true≢false, List, [], append_assoc, Option, Some, refl, sym, ap, subst, ◌∙◌, arith}
use Rattle.std.proofs.lemmas.Bool.{eqb-true}
use Rattle.rtc_parts.specs.AssociationLaws.{AssociationLaws}
use Rattle.rtc_parts.specs.AssociationMeaning.{AssociationMeaning}
use Rattle.rtc_sctp_entries.specs.declared.stream_entry_state.StreamEntryState.{StreamEntryState}
use Rattle.rtc_sctp_entries.specs.declared.stream_entry_state.StreamEntryState.TheVariants.{AwaitOpen, AwaitConfig, AwaitDcepAck, Open, Closed}
use Rattle.rtc_sctp_entries.specs.declared.stream_entry.StreamEntry.{StreamEntry}
use Rattle.rtc_sctp_entries.specs.Entries.{is_out_of_band}
use Rattle.rtc_sctp_laws.specs.StreamMessages.{StreamMessage, is_dcep_message}
use Rattle.rtc_sctp_laws.specs.GenerationLaws.{GenerationLaws}
use Rattle.rtc_sctp_laws.specs.StreamUses.{is_of_generation, messages_of, any_dcep, entries_of, spoken_generation, IsOpened, WereOpened, IsDcepInBand, IsIdleStream, IsUsedIn, AreUsedIn, IsUsed, OneAtMost, IsLiveIn, IsLive, IsShutDown}
use Rattle.rtc_sctp_laws.proofs.GenerationMessages.{messages-append}
use Rattle.rtc_sctp_laws.proofs.KnownUses.{open_without}
use Rattle.rtc_peer_core.specs.Meanings.{Meanings}
use Rattle.rtc_peer_transport.specs.declared.polled_peer.PolledPeer.{PolledPeer}
use Rattle.rtc_peer_laws.specs.ChannelStreams.{AreNumberedChannels, IsLiveChannel, IsUsedStream, OpensStreamOf}
use Rattle.rtc_peer_laws.proofs.ChannelsOver.{same_stream}
use Rattle.rtc_peer_laws.specs.KeptChannels.{IsSettledStream}

-- ---- lists

abbrev front : {A : Type 0} → List A → List A
front [] = []
front (x ∷ []) = []
front (x ∷ y ∷ l) = x ∷ front (y ∷ l)

front-snoc : {A : Type 0} (xs : List A) (x : A) → front (xs ++ x ∷ []) ≡ xs
front-snoc [] x = refl
front-snoc (y ∷ []) x = refl
front-snoc (y ∷ z ∷ l) x = ap (λ r. y ∷ r) (front-snoc (z ∷ l) x)

any_front : (xs ys : List StreamMessage) → any_dcep xs ≡ true → any_dcep (xs ++ ys) ≡ true
any_front [] ys h = absurd (true≢false (sym h))
any_front (x ∷ xs) ys h = by (is_dcep_message x) h (any_front xs ys)
  where
    by : (b : Bool) → (b || any_dcep xs) ≡ true → (any_dcep xs ≡ true → any_dcep (xs ++ ys) ≡ true) → (b || any_dcep (xs ++ ys)) ≡ true
    by true k rest = refl
    by false k rest = rest k

any_last : (xs : List StreamMessage) (x : StreamMessage) → is_dcep_message x ≡ true → any_dcep (xs ++ x ∷ []) ≡ true
any_last [] x h = rw h refl
any_last (y ∷ xs) x h = by (is_dcep_message y) (any_last xs x h)
  where
    by : (b : Bool) → any_dcep (xs ++ x ∷ []) ≡ true → (b || any_dcep (xs ++ x ∷ [])) ≡ true
    by true k = refl
    by false k = k

-- ---- messages but those of a generation of a stream

abbrev without : (s g : ℕ) → List StreamMessage → List StreamMessage
without s g [] = []
without s g (x ∷ l) = cond (is_of_generation s g x) (without s g l) (x ∷ without s g l)

none_without : (s g : ℕ) (l : List StreamMessage) → messages_of s g (without s g l) ≡ []
none_without s g [] = refl
none_without s g (x ∷ l) = by (is_of_generation s g x) refl (none_without s g l)
  where
    kept : (c : Bool) → c ≡ false → messages_of s g (without s g l) ≡ [] → cond c (x ∷ messages_of s g (without s g l)) (messages_of s g (without s g l)) ≡ []
    kept true e k = absurd (true≢false e)
    kept false e k = k

    by : (b : Bool) → is_of_generation s g x ≡ b → messages_of s g (without s g l) ≡ [] → messages_of s g (cond b (without s g l) (x ∷ without s g l)) ≡ []
    by true e k = k
    by false e k = kept (is_of_generation s g x) e k

-- those of another generation are the same
same_without : (s g k : ℕ) (l : List StreamMessage) → (k == g) ≡ false → messages_of s k (without s g l) ≡ messages_of s k l
same_without s g k [] ne = refl
same_without s g k (x ∷ l) ne = by (is_of_generation s g x) refl (same_without s g k l ne)
  where
    other : (a b c : Bool) → a ≡ (x.stream == s) → b ≡ (x.generation == g) → c ≡ (x.generation == k) → (a && b) ≡ true → (a && c) ≡ false
    other true true true p q r e =
        let one = eqb-true x.generation g (sym q) in
        let two = eqb-true x.generation k (sym r) in
        absurd (true≢false (sym (let same : (k == g) ≡ true = grind (arith, one, two) in same) ∙ ne))
    other true true false p q r e = refl
    other true false c p q r e = absurd (true≢false (sym e))
    other false b c p q r e = refl

    gone : (c : Bool) → c ≡ false → messages_of s k (without s g l) ≡ messages_of s k l → messages_of s k (without s g l) ≡ cond c (x ∷ messages_of s k l) (messages_of s k l)
    gone true e rest = absurd (true≢false e)
    gone false e rest = rest

    by : (b : Bool) → is_of_generation s g x ≡ b → messages_of s k (without s g l) ≡ messages_of s k l
        → messages_of s k (cond b (without s g l) (x ∷ without s g l)) ≡ cond (is_of_generation s k x) (x ∷ messages_of s k l) (messages_of s k l)
    by true e rest = gone (is_of_generation s k x) (other (x.stream == s) (x.generation == g) (x.generation == k) refl refl refl e) rest
    by false e rest = ap (λ (r : List StreamMessage). cond (is_of_generation s k x) (x ∷ r) r) rest

-- none are left, or all
abbrev IsFewer : List StreamMessage → List StreamMessage → Type 0
IsFewer all fewer = (fewer ≡ []) ⊎ (fewer ≡ all)

fewer_without : (s g k : ℕ) (l : List StreamMessage) → IsFewer (messages_of s k l) (messages_of s k (without s g l))
fewer_without s g k l = by (k == g) refl
  where
    by : (b : Bool) → (k == g) ≡ b → IsFewer (messages_of s k l) (messages_of s k (without s g l))
    by true e = inl (ap (λ (n : ℕ). messages_of s n (without s g l)) (eqb-true k g e) ∙ none_without s g l)
    by false e = inr (same_without s g k l e)

none_fewer : (all fewer : List StreamMessage) → IsFewer all fewer → all ≡ [] → fewer ≡ []
none_fewer all fewer (inl e) h = e
none_fewer all fewer (inr e) h = e ∙ h

module _ {S : Type 0} (m : AssociationMeaning S) where
  idle_none : (s : ℕ) (a : S) (ws hs : List StreamMessage) → IsIdleStream m s a ws hs → IsIdleStream m s a ws []
  idle_none s a ws hs (inl k) = inl (k.0, refl)
  idle_none s a ws hs (inr k) = inr k

  used_none : (st : StreamEntryState) (marked : Bool) (own : Option ℕ) (s : ℕ) (a : S) (ws hs : List StreamMessage) → IsUsedIn m st marked own s a ws hs
      → IsUsedIn m st marked own s a ws []
  used_none AwaitOpen marked own s a ws hs h = idle_none s a ws hs h
  used_none AwaitConfig true own s a ws hs h = tt
  used_none AwaitConfig false own s a ws hs (inl k) = inl (k.0, refl)
  used_none AwaitConfig false own s a ws hs (inr k) = inr k
  used_none AwaitDcepAck true own s a ws hs h = tt
  used_none AwaitDcepAck false own s a ws hs h = (h.0, (h.1.0, h.1.1, refl))
  used_none Open marked own s a ws hs h = tt
  used_none Closed marked own s a ws hs h = idle_none s a ws hs h

  used_fewer : (st : StreamEntryState) (marked : Bool) (own : Option ℕ) (s : ℕ) (a : S) (ws hs fewer : List StreamMessage) → IsFewer hs fewer
      → IsUsedIn m st marked own s a ws hs → IsUsedIn m st marked own s a ws fewer
  used_fewer st marked own s a ws hs fewer (inl e) h =
      subst (λ (l : List StreamMessage). IsUsedIn m st marked own s a ws l) (sym e) (used_none st marked own s a ws hs h)
  used_fewer st marked own s a ws hs fewer (inr e) h = subst (λ (l : List StreamMessage). IsUsedIn m st marked own s a ws l) (sym e) h

  idle_fewer : (s : ℕ) (a : S) (ws hs fewer : List StreamMessage) → IsFewer hs fewer → IsIdleStream m s a ws hs → IsIdleStream m s a ws fewer
  idle_fewer s a ws hs fewer (inl e) h = subst (λ (l : List StreamMessage). IsIdleStream m s a ws l) (sym e) (idle_none s a ws hs h)
  idle_fewer s a ws hs fewer (inr e) h = subst (λ (l : List StreamMessage). IsIdleStream m s a ws l) (sym e) h

  are_used_without : (es : List StreamEntry) (s g : ℕ) (a : S) (ws hs : List StreamMessage) → AreUsedIn m es s a ws hs → AreUsedIn m es s a ws (without s g hs)
  are_used_without [] s g a ws hs h =
      idle_fewer s a (messages_of s (m.generation a s) ws) (messages_of s (m.generation a s) hs) (messages_of s (m.generation a s) (without s g hs))
      (fewer_without s g (m.generation a s) hs) h
  are_used_without (e ∷ []) s g a ws hs h =
      let k = spoken_generation e.state e.generation (m.generation a s) in (
        used_fewer e.state e.marked e.generation s a (messages_of s k ws) (messages_of s k hs) (messages_of s k (without s g hs)) (fewer_without s g k hs) h.0,
        h.1,
      )
  are_used_without (e ∷ f ∷ es) s g a ws hs h = absurd h

  used_without : (s g : ℕ) (ws hs : List StreamMessage) (a : S) (es : List StreamEntry) → IsUsed m s ws hs a es → IsUsed m s ws (without s g hs) a es
  used_without s g ws hs a es h = record {
    reached = record {
      ahead = λ k lt.
          let was = h.reached.ahead k lt in
          (was.0, none_fewer (messages_of s k hs) (messages_of s k (without s g hs)) (fewer_without s g k hs) was.1);
      absent = λ gone.
          let was = h.reached.absent gone in
          let k = m.generation a s in
          (was.0, none_fewer (messages_of s k hs) (messages_of s k (without s g hs)) (fewer_without s g k hs) was.1);
    };
    used = are_used_without (entries_of s es) s g a ws hs h.used;
  }

-- what was read last was read in this poll, so that all that was read before the poll is before it
both_opened : (ws hs more : List StreamMessage) → IsOpened ws (hs ++ more) → IsOpened ws more → any_dcep hs ≡ true → ⊥
both_opened ws hs more x y h =
    let split : (hs ++ y.before) ++ y.last ∷ [] ≡ x.before ++ x.last ∷ [] =
    append_assoc hs y.before (y.last ∷ []) ∙ ap (λ l. hs ++ l) (sym y.heard_is) ∙ x.heard_is in
    let same : hs ++ y.before ≡ x.before = sym (front-snoc (hs ++ y.before) y.last) ∙ ap front split ∙ front-snoc x.before x.last in
    true≢false (sym (any_front hs y.before h) ∙ ap any_dcep same ∙ x.none_before)

settled_or : (es : List StreamEntry) (g : ℕ) (ws hs more all fewer : List StreamMessage) → all ≡ hs ++ more → fewer ≡ more → any_dcep hs ≡ true
    → WereOpened es g ws all → WereOpened es g ws fewer → IsSettledStream es
settled_or [] g ws hs more all fewer is none h x y = absurd x
settled_or (e ∷ es) g ws hs more all fewer is none h (inl out) y = out
settled_or (e ∷ es) g ws hs more all fewer is none h (inr x) (inl out) = out
settled_or (e ∷ es) g ws hs more all fewer is none h (inr x) (inr y) =
    absurd (both_opened ws hs more (subst (λ (l : List StreamMessage). IsOpened ws l) is x.0) (subst (λ (l : List StreamMessage). IsOpened ws l) none y.0) h)

opened_any : (es : List StreamEntry) (g : ℕ) (ws hs : List StreamMessage) → WereOpened es g ws hs → IsSettledStream es ⊎ (any_dcep hs ≡ true)
opened_any [] g ws hs h = absurd h
opened_any (e ∷ es) g ws hs (inl out) = inl out
opened_any (e ∷ es) g ws hs (inr x) = inr (ap any_dcep x.0.heard_is ∙ any_last x.0.before x.0.last x.0.last_dcep)

module _ {S : Type 0} (m : AssociationMeaning S) where
  -- lists of messages may begin anew where the stream is live, or has no entry but a closed one
  used_anew : (es : List StreamEntry) (s g : ℕ) (a : S) → OneAtMost ⊥ (IsLiveIn g) es ⊎ OneAtMost (Unit {0}) (λ (e : StreamEntry). e.state ≡ Closed) es
      → AreUsedIn m es s a [] []
  used_anew [] s g a (inl h) = absurd h
  used_anew [] s g a (inr h) = inl (refl, refl)
  used_anew (e ∷ []) s g a (inl h) =
      subst (λ (st : StreamEntryState). IsUsedIn m st e.marked e.generation s a [] [] × IsDcepInBand m st (is_out_of_band e) s a []) (sym h.0)
      (tt, open_without m (is_out_of_band e) s a [] (inl refl))
  used_anew (e ∷ []) s g a (inr h) =
      subst (λ (st : StreamEntryState). IsUsedIn m st e.marked e.generation s a [] [] × IsDcepInBand m st (is_out_of_band e) s a []) (sym h)
      (inl (refl, refl), tt)
  used_anew (e ∷ f ∷ es) s g a (inl h) = absurd h
  used_anew (e ∷ f ∷ es) s g a (inr h) = absurd h

  pub restarted : (s g : ℕ) (a : S) (es : List StreamEntry) → IsLive s g es ⊎ IsShutDown s es → IsUsed m s [] [] a es
  restarted s g a es h = record {
    reached = record { ahead = λ k lt. (refl, refl); absent = λ gone. (refl, refl) };
    used = used_anew (entries_of s es) s g a h;
  }

  -- a stream that was opened in-band has one entry, which is open
  opened_live : (es : List StreamEntry) (s g : ℕ) (a : S) (ws hs us vs : List StreamMessage) → AreUsedIn m es s a us vs → WereOpened es g ws hs
      → IsSettledStream es ⊎ OneAtMost ⊥ (IsLiveIn g) es
  opened_live [] s g a ws hs us vs used h = absurd h
  opened_live (e ∷ []) s g a ws hs us vs used (inl out) = inl out
  opened_live (e ∷ []) s g a ws hs us vs used (inr x) = inr x.1
  opened_live (e ∷ f ∷ es) s g a ws hs us vs used h = absurd used

module _ {I D S M E X T W N : Type 0} (m : Meanings I D S M E X T W N) where
  -- where it was opened in-band, the channel is live
  pub opening_live : AssociationLaws m.association → GenerationLaws m.association → (id : ℕ) (p q : PolledPeer I D S M N)
      (wrote heard written read us vs : List StreamMessage) (opens : OpensStreamOf m id p wrote heard q) → IsUsedStream m opens.stream written read p
      → IsUsedStream m opens.stream us vs q
      → IsSettledStream (entries_of opens.stream q.core.sctp.entries)
      ⊎ IsLiveChannel id opens.stream (m.association.generation q.core.sctp.association opens.stream) q
  opening_live w v id p q wrote heard written read us vs opens used after = by (opened_live m.association (entries_of s q.core.sctp.entries) s g q.core.sctp.association _ _ us vs after.used (opens.opened w v written read used))
    where
      s : ℕ
      s = opens.stream

      g : ℕ
      g = m.association.generation q.core.sctp.association opens.stream

      by : IsSettledStream (entries_of s q.core.sctp.entries) ⊎ OneAtMost ⊥ (IsLiveIn g) (entries_of s q.core.sctp.entries)
          → IsSettledStream (entries_of s q.core.sctp.entries) ⊎ IsLiveChannel id s g q
      by (inl out) = inl out
      by (inr live) = inr (opens.over, live)

  -- a channel that is live is not told to be open again
  pub not_again : (id c s g : ℕ) (p q : PolledPeer I D S M N) (wrote heard : List StreamMessage) → OpensStreamOf m id p wrote heard q
      → AreNumberedChannels p.core.channels → AreNumberedChannels q.core.channels → IsLiveChannel c s g p → IsLiveChannel c s g q → id ≡ c → ⊥
  not_again id c s g p q wrote heard opens before after live stays e =
      let same : opens.stream ≡ s =
      same_stream opens.stream s c q.core.channels after.0 (opens.over ∙ ap (λ (n : ℕ). Some n) e) stays.0 in
      opens.anew c g before.0 (subst (λ (n : ℕ). IsLiveChannel c n g p) (sym same) live)

  -- in a generation in which a message that opens a channel was read, none is opened in-band
  pub opened_once : AssociationLaws m.association → GenerationLaws m.association → (id : ℕ) (p q : PolledPeer I D S M N)
      (wrote heard written read : List StreamMessage) (opens : OpensStreamOf m id p wrote heard q) → IsUsedStream m opens.stream written read p
      → any_dcep (messages_of opens.stream (m.association.generation q.core.sctp.association opens.stream) read) ≡ true
      → IsSettledStream (entries_of opens.stream q.core.sctp.entries)
  opened_once w v id p q wrote heard written read opens used h =
      let s = opens.stream in
      let g = m.association.generation q.core.sctp.association s in
      let fewer = used_without m.association s g written read p.core.sctp.association p.core.sctp.entries used in
      settled_or (entries_of s q.core.sctp.entries) g (messages_of s g (written ++ wrote)) (messages_of s g read) (messages_of s g heard) (messages_of s g (read ++ heard))
      (messages_of s g (without s g read ++ heard)) (messages-append s g read heard)
      (messages-append s g (without s g read) heard ∙ ap (λ l. l ++ messages_of s g heard) (none_without s g read)) h
      (opens.opened w v written read used) (opens.opened w v written (without s g read) fewer)

  -- and once one was, such a message was read in it
  pub opening_read : AssociationLaws m.association → GenerationLaws m.association → (id : ℕ) (p q : PolledPeer I D S M N)
      (wrote heard written read : List StreamMessage) (opens : OpensStreamOf m id p wrote heard q) → IsUsedStream m opens.stream written read p
      → IsSettledStream (entries_of opens.stream q.core.sctp.entries)
      ⊎ (any_dcep (messages_of opens.stream (m.association.generation q.core.sctp.association opens.stream) (read ++ heard)) ≡ true)
  opening_read w v id p q wrote heard written read opens used =
      let s = opens.stream in
      let g = m.association.generation q.core.sctp.association s in
      opened_any (entries_of s q.core.sctp.entries) g (messages_of s g (written ++ wrote)) (messages_of s g (read ++ heard)) (opens.opened w v written read used)
