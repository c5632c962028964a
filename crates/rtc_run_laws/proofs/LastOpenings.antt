-- A poll of the streams that tells that a stream is open in-band, where a message that opens a channel was written to the generation before: the entry of the
-- stream waited for its acknowledgement.
use Rattle.std.proofs.Common.{◌≡◌, ◌∙◌, ◌⊎◌, ◌<◌, ◌≤◌, ◌≢◌, ◌==◌, ◌∷◌, if◌then◌else◌, ℕ, Bool, true, false, true≢false, List, [], Option, Some, None, Ok, inl, inr, refl, sym, ap, subst, arith}
use Rattle.std.specs.Prelude.{nat_lt}
use Rattle.std.proofs.lemmas.Bool.{eqb-true, eqb-false}
use Rattle.rtc_parts.specs.AssociationLaws.{AssociationLaws}
use Rattle.rtc_parts.specs.AssociationMeaning.{AssociationMeaning}
use Rattle.rtc_sctp.specs.Streams.{SctpStreams}
use Rattle.rtc_sctp.specs.Polls.{PollsStreams}
use Rattle.rtc_sctp_entries.specs.declared.met.Met.TheVariants.{Output}
use Rattle.rtc_sctp_entries.specs.declared.sctp_event.SctpEvent.TheVariants as event
use Rattle.rtc_sctp_entries.specs.declared.stream_entry.StreamEntry.{StreamEntry}
use Rattle.rtc_sctp_entries.specs.declared.stream_entry_state.StreamEntryState.{StreamEntryState}
use Rattle.rtc_sctp_entries.specs.declared.stream_entry_state.StreamEntryState.TheVariants.{AwaitOpen, AwaitConfig, AwaitDcepAck, Open, Closed}
use Rattle.rtc_sctp_entries.specs.Entries.{is_out_of_band}
use Rattle.rtc_sctp_laws.specs.GenerationLaws.{GenerationLaws}
use Rattle.rtc_sctp_laws.specs.PastGenerations.{IsPast}
use Rattle.rtc_sctp_laws.specs.StreamMessages.{StreamMessage}
use Rattle.rtc_sctp_laws.specs.StreamUses.{AreUsedIn, IsDcepInBand, IsIdleStream, IsLiveIn, IsUsedIn, IsWithoutDcep, OneAtMost, WereOpened, any_dcep, begins_with_dcep, entries_of, messages_for, messages_of}
use Rattle.rtc_sctp_laws.specs.UsedCalls.{PollUses}
use Rattle.rtc_sctp_laws.proofs.ContentLemmas.{written_are}
use Rattle.rtc_sctp_laws.proofs.PastLemmas.{acts_past}
use Rattle.rtc_sctp_laws.proofs.UsedPolls.{poll_uses}
use Rattle.rtc_peer_laws.specs.KeptChannels.{IsSettledStream}
use Rattle.rtc_run_laws.specs.OwnOpenings.{HasEntryOf, HasOpening, IsOpeningState}
use Rattle.rtc_run_laws.proofs.BehindSides.{in_band_has}
use Rattle.rtc_run_laws.proofs.UseLists.{none_numbered}
use Rattle.rtc_run_laws.proofs.BegunOpenings.{WroteOpening}

first_is : (x e : StreamEntry) (l l' : List StreamEntry) → x ∷ l ≡ e ∷ l' → x ≡ e
first_is x e l l' h = cc

-- the one entry of a stream
pub has_entry : (P : StreamEntry → Type 0) (s : ℕ) (es : List StreamEntry) (e : StreamEntry) (l : List StreamEntry) → entries_of s es ≡ e ∷ l → P e
    → HasEntryOf P s es
has_entry P s [] e l h k = absurd (none_first h)
  where
    none_first : [] ≡ e ∷ l → ⊥
    none_first f = cc
has_entry P s (x ∷ es) e l h k = by (x.id == s) refl h (λ f. has_entry P s es e l f k)
  where
    by : (c : Bool) → (x.id == s) ≡ c → (if c then x ∷ entries_of s es else entries_of s es) ≡ e ∷ l → (entries_of s es ≡ e ∷ l → HasEntryOf P s es)
        → ((x.id ≡ s) × P x) ⊎ HasEntryOf P s es
    by true c f rest = inl (eqb-true x.id s c, subst P (sym (first_is x e (entries_of s es) l f)) k)
    by false c f rest = inr (rest f)

module _ {S : Type 0} (m : AssociationMeaning S) (w : AssociationLaws m) (v : GenerationLaws m) (s g : ℕ) where
  none_begins : (l : List StreamMessage) → l ≡ [] → begins_with_dcep l ≡ true → ⊥
  none_begins l e h = true≢false (sym h ∙ ap begins_with_dcep e)

  idle : (a : S) (ws hs : List StreamMessage) → IsIdleStream m s a ws hs → IsWithoutDcep m s a ws
  idle a ws hs (inl none) = inl (ap any_dcep none.0)
  idle a ws hs (inr spent) = inr spent

  open_anew : (a : S) (out : Bool) → IsDcepInBand m Open out s a []
  open_anew a true = inl refl
  open_anew a false = tt

  module _ (b streams : SctpStreams S) (label : List ℕ) (h : PollsStreams m b (Ok (Some (event.Open s label))) streams)
      (own : m.generation streams.association s ≡ g) (band : IsSettledStream (entries_of s streams.entries) → ⊥) where
    uses : PollUses m b (Output (event.Open s label)) streams
    uses = poll_uses m w b (Ok (Some (event.Open s label))) streams h

    begins : (ws hs : List StreamMessage) → WereOpened (entries_of s streams.entries) (m.generation streams.association s) ws hs
        → begins_with_dcep ws ≡ true
    begins ws hs opened = by (entries_of s streams.entries) band opened
      where
        by : (l : List StreamEntry) → (IsSettledStream l → ⊥) → WereOpened l (m.generation streams.association s) ws hs → begins_with_dcep ws ≡ true
        by [] in_band o = absurd o
        by (e ∷ l) in_band (inl out) = absurd (in_band out)
        by (e ∷ l) in_band (inr x) = x.0.begins

    abbrev IsAnew : List StreamEntry → Type 0
    IsAnew l = AreUsedIn m l s b.association [] []

    -- an opening was written by this poll, so the stream was not past the generation
    never_past : IsAnew (entries_of s b.entries) → IsPast m s g b.association → ⊥
    never_past anew past =
        none_begins (messages_of s (m.generation streams.association s) uses.wrote) (ap (λ (n : ℕ). messages_of s n uses.wrote) own ∙ none)
        (begins (messages_of s (m.generation streams.association s) uses.wrote) (messages_of s (m.generation streams.association s) uses.heard)
        ((uses.leaves v s [] []
        (record { reached = record { ahead = λ k lt. (refl, refl); absent = λ gone. (refl, refl) }; used = anew })).opens
        refl))
      where
        none : messages_of s g uses.wrote ≡ []
        none =
            none_numbered (messages_of s g uses.wrote)
            (sym (written_are s g uses.did.acts uses.wrote uses.did.wrote_is)
            ∙ (acts_past m w v s g uses.did.acts b.association streams.association uses.did.went past).none)

    module _ (k : WroteOpening m w v s g b) where
      abbrev now : ℕ
      now = m.generation b.association s

      nothing : IsAnew (entries_of s b.entries) → IsWithoutDcep m s b.association (messages_of s now k.written) → ⊥
      nothing anew known = by (now == g) refl known
        where
          later : (c : Bool) → nat_lt now g ≡ c → now ≢ g → ⊥
          later true e other =
              let lt : now < g = grind (arith, e) in
              true≢false (sym k.begun ∙ ap any_dcep (k.used.reached.ahead g lt).0)
          later false e other = let up : g ≤ now = grind (arith, e) in never_past anew (inl (omega (arith, up, other)))

          here : now ≡ g → IsWithoutDcep m s b.association (messages_of s now k.written) → ⊥
          here same (inl none) =
              true≢false (sym k.begun ∙ ap (λ (n : ℕ). any_dcep (messages_of s n k.written)) (sym same) ∙ none)
          here same (inr spent) = never_past anew (inr (same, spent))

          by : (c : Bool) → (now == g) ≡ c → IsWithoutDcep m s b.association (messages_of s now k.written) → ⊥
          by true e x = here (eqb-true now g e) x
          by false e x = later (nat_lt now g) refl (eqb-false now g e)

      -- an open stream is not told of again
      live : (e : StreamEntry) → entries_of s b.entries ≡ e ∷ [] → e.state ≡ Open → (o : Option ℕ) → e.generation ≡ o → is_out_of_band e ≡ false → ⊥
      live e is stands (Some n) kept out =
          (uses.lives s n (subst (λ (l : List StreamEntry). OneAtMost ⊥ (IsLiveIn n) l) (sym is) (stands, kept))).0 refl
      live e is stands None kept out = k.kept (in_band_has s None b.entries e [] is (stands, kept, out))

      abbrev AnewIn : StreamEntry → StreamEntryState → Type 0
      AnewIn e st =
          IsUsedIn m st e.marked e.generation s b.association [] [] × IsDcepInBand m st (is_out_of_band e) s b.association []

      anew_by : (e : StreamEntry) → entries_of s b.entries ≡ e ∷ [] → (st : StreamEntryState) → e.state ≡ st → AnewIn e st → IsAnew (entries_of s b.entries)
      anew_by e is st state x =
          subst (λ (l : List StreamEntry). IsAnew l) (sym is) (subst (λ (y : StreamEntryState). AnewIn e y) (sym state) x)

      abbrev UsedAs : StreamEntry → StreamEntryState → Type 0
      UsedAs e st =
          IsUsedIn m st e.marked e.generation s b.association (messages_for m st e.generation s b.association k.written)
          (messages_for m st e.generation s b.association k.read)
          × IsDcepInBand m st (is_out_of_band e) s b.association (messages_of s now k.written)

      by_state : (e : StreamEntry) → entries_of s b.entries ≡ e ∷ [] → (st : StreamEntryState) → e.state ≡ st → UsedAs e st → HasOpening s b.entries
      by_state e is AwaitOpen state u =
          absurd (nothing (anew_by e is AwaitOpen state (inl (refl, refl), tt)) (idle b.association (messages_of s now k.written) (messages_of s now k.read) u.0))
      by_state e is AwaitConfig state u =
          absurd (nothing (anew_by e is AwaitConfig state (fresh e.marked, (u.1.0, inl refl))) u.1.1)
        where
          fresh : (c : Bool) → IsUsedIn m AwaitConfig c e.generation s b.association [] []
          fresh true = tt
          fresh false = inl (refl, refl)
      by_state e is AwaitDcepAck state u =
          has_entry (λ (x : StreamEntry). IsOpeningState x.state) s b.entries e [] is (inr state)
      by_state e is Open state u = absurd (by (is_out_of_band e) refl u.1)
        where
          by : (c : Bool) → is_out_of_band e ≡ c → IsDcepInBand m Open c s b.association (messages_of s now k.written) → ⊥
          by true out x = nothing (anew_by e is Open state (tt, open_anew b.association (is_out_of_band e))) x
          by false out x = live e is state e.generation refl out
      by_state e is Closed state u =
          absurd (nothing (anew_by e is Closed state (inl (refl, refl), tt)) (idle b.association (messages_of s now k.written) (messages_of s now k.read) u.0))

      pub waited : HasOpening s b.entries
      waited = by (entries_of s b.entries) refl k.used.used
        where
          by : (l : List StreamEntry) → entries_of s b.entries ≡ l → AreUsedIn m l s b.association k.written k.read → HasOpening s b.entries
          by [] is u =
              absurd
              (nothing (subst (λ (l : List StreamEntry). IsAnew l) (sym is) (inl (refl, refl))) (idle b.association (messages_of s now k.written) (messages_of s now k.read) u))
          by (e ∷ []) is u = by_state e is e.state refl u
          by (e ∷ f ∷ l) is u = absurd u
