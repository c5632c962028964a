-- Streams that are there: each has an entry past its opening, or what came of it in its generation is kept.
use Rattle.std.proofs.Common.{◌≡◌, ◌∙◌, ◌⊎◌, ◌==◌, ◌≤◌, ℕ, Bool, true, false, true≢false, List, [], ◌∷◌, Some, None, Ok, Err, Option, Result, inl, inr, refl, sym, subst, arith}
use Rattle.std.proofs.lemmas.Bool.{ne_eqb}
use Rattle.rtc_wire.specs.declared.reliability_type.ReliabilityType.{ReliabilityType}
use Rattle.rtc_parts.specs.declared.assoc_error.AssocError.{AssocError}
use Rattle.rtc_parts.specs.declared.ppi.Ppi.{Ppi}
use Rattle.rtc_parts.specs.Ppi.{ppi_number}
use Rattle.rtc_parts.specs.AssociationActs.{AssociationAct, Opened, Wrote, Ended, Given, Read, Stirred, Acted, Moved}
use Rattle.rtc_parts.specs.AssociationActs.{OpenRefused, WriteRefused, ReadRefused, EndRefused, ThresholdSet, ReliabilitySet}
use Rattle.rtc_parts.specs.AssociationLaws.{AssociationLaws}
use Rattle.rtc_parts.specs.AssociationMeaning.{AssociationMeaning}
use Rattle.rtc_parts.proofs.AssociationLemmas.{generation_rises}
use Rattle.rtc_parts.specs.Why.{Other}
use Rattle.rtc_sctp_entries.specs.declared.stream_entry.StreamEntry.{StreamEntry}
use Rattle.rtc_sctp_laws.specs.StreamRuns.{is_past_opening}
use Rattle.rtc_sctp.specs.Streams.{SctpStreams}
use Rattle.rtc_sctp_laws.specs.GenerationLaws.{GenerationLaws, OpenAndReadNone, opens_or_reads}
use Rattle.rtc_sctp_laws.specs.StreamUses.{is_spent_stream}
use Rattle.rtc_sctp_laws.proofs.KeptUses.{spent_kept}

-- whether an act opens a stream, or reads of it
abbrev pub uses_stream : ℕ → AssociationAct → Bool
uses_stream s (Opened t g) = t == s
uses_stream s (Read t g i b) = t == s
uses_stream s act = false

-- a stream has an entry past its opening, which is not closed
abbrev pub HasPast : ℕ → List StreamEntry → Type 0
HasPast s [] = ⊥
HasPast s (entry ∷ entries) = ((entry.id ≡ s) × (is_past_opening entry.state ≡ true)) ⊎ HasPast s entries

module _ {S : Type 0} (m : AssociationMeaning S) (keeps : S → ℕ → Type 0) where
  -- what came of the stream is kept, or it takes no message of its generation any more
  abbrev pub IsHeld : ℕ → S → Type 0
  IsHeld s a = keeps a s ⊎ (is_spent_stream m s a ≡ true)

  -- a stream was there, in the generation that it has
  abbrev pub WasThere : ℕ → S → S → Type 0
  WasThere s a b = (m.has_stream a s ≡ true) × (m.generation b s ≡ m.generation a s)

  -- What holds of associations whose streams come to be there, in each generation, by items that are kept until they are read.
  pub record KeepingLaws : Type 0 where
    pub rises : (a b : S) (act : AssociationAct) (s : ℕ) → Acted m a act b → uses_stream s act ≡ false → m.has_stream b s ≡ true
        → WasThere s a b ⊎ IsHeld s b
    pub stays : (a b : S) (act : AssociationAct) (s : ℕ) → Acted m a act b → uses_stream s act ≡ false
        → m.generation b s ≡ m.generation a s → keeps a s → IsHeld s b

  -- a stream is not there, or it is held
  abbrev pub IsFine : ℕ → S → Type 0
  IsFine s a = m.has_stream a s ≡ true → IsHeld s a

  -- what becomes of a stream: it is there only as it was, or it is held; and within its generation it stays held
  pub record Goes (s : ℕ) (a b : S) : Type 0 where
    pub up : m.generation a s ≤ m.generation b s
    pub rises : m.has_stream b s ≡ true → WasThere s a b ⊎ IsHeld s b
    pub stays : m.generation b s ≡ m.generation a s → IsHeld s a → IsHeld s b

  -- streams of which each that is there has an entry past its opening, or is held
  abbrev pub IsBegunStream : ℕ → S → List StreamEntry → Type 0
  IsBegunStream s a entries = HasPast s entries ⊎ IsFine s a

  abbrev pub AreBegunStreams : SctpStreams S → Type 0
  AreBegunStreams p = (s : ℕ) → IsBegunStream s p.association p.entries

  pub fine_on : (s : ℕ) (a b : S) → Goes s a b → IsFine s a → IsFine s b
  fine_on s a b h fine = λ there. by (h.rises there)
    where
      by : WasThere s a b ⊎ IsHeld s b → IsHeld s b
      by (inl before) = h.stays before.1 (fine before.0)
      by (inr held) = held

  pub goes_none : (s : ℕ) (a : S) → Goes s a a
  goes_none s a = record { up = omega arith; rises = λ t. inl (t, refl); stays = λ e k. k }

  pub goes_same : (s : ℕ) (a b : S) → b ≡ a → Goes s a b
  goes_same s a b is = subst (λ (x : S). Goes s a x) (sym is) (goes_none s a)

  pub goes_join : (s : ℕ) (a b c : S) → Goes s a b → Goes s b c → Goes s a c
  goes_join s a b c h k = record {
    up = (let one = h.up in let two = k.up in omega (arith, one, two));
    rises = λ t. by (k.rises t);
    stays = λ e x. k.stays (last e) (h.stays (first e) x);
  }
    where
      first : m.generation c s ≡ m.generation a s → m.generation b s ≡ m.generation a s
      first e = let one = h.up in let two = k.up in omega (arith, one, two, e)

      last : m.generation c s ≡ m.generation a s → m.generation c s ≡ m.generation b s
      last e = let one = h.up in let two = k.up in omega (arith, one, two, e)

      at : m.generation c s ≡ m.generation b s → WasThere s a b ⊎ IsHeld s b → WasThere s a c ⊎ IsHeld s c
      at e (inl x) = inl (x.0, e ∙ x.1)
      at e (inr x) = inr (k.stays e x)

      by : WasThere s b c ⊎ IsHeld s c → WasThere s a c ⊎ IsHeld s c
      by (inl x) = at x.1 (h.rises x.0)
      by (inr x) = inr x

  module _ (w : AssociationLaws m) (v : GenerationLaws m) (u : KeepingLaws) where
    -- ---- acts

    pub goes_act : (s : ℕ) (a b : S) (act : AssociationAct) → Acted m a act b → uses_stream s act ≡ false → Goes s a b
    goes_act s a b act h none = record {
      up = generation_rises m w a b act s h;
      rises = λ t. u.rises a b act s h none t;
      stays = λ e k. held e k;
    }
      where
        spent_by : (x : AssociationAct) → Acted m a x b → m.generation b s ≡ m.generation a s → is_spent_stream m s a ≡ true
            → is_spent_stream m s b ≡ true
        spent_by (Given bytes) did same is = spent_kept m s a b (v.packets_keep s did.0 bytes a b did.1.0 did.1.1 same) is
        spent_by x did same is = spent_kept m s a b (v.acts_keep s a b x refl did) is

        held : m.generation b s ≡ m.generation a s → IsHeld s a → IsHeld s b
        held e (inl k) = u.stays a b act s h none e k
        held e (inr is) = inr (spent_by act h e is)

    unused : (s : ℕ) (act : AssociationAct) → opens_or_reads act ≡ false → uses_stream s act ≡ false
    unused s (Opened t g) h = absurd (true≢false h)
    unused s (Read t g i b) h = absurd (true≢false h)
    unused s act h = refl

    pub goes_acts : (s : ℕ) (acts : List AssociationAct) (a b : S) → Moved m a acts b → OpenAndReadNone acts → Goes s a b
    goes_acts s [] a b h none = goes_same s a b h
    goes_acts s (act ∷ acts) a b h none =
        goes_join s a h.0 b (goes_act s a h.0 act h.1.0 (unused s act none.0)) (goes_acts s acts h.0 b h.1.1 none.1)

    -- ---- calls

    pub opened_goes : (s id : ℕ) (a b : S) (r : Result (Unit {0}) AssocError) → (id ≡ s → ⊥) → m.opened a id r b → Goes s a b
    opened_goes s id a b (Ok x) other h = goes_act s a b (Opened id (m.generation a id)) (h, refl) (ne_eqb id s other)
    opened_goes s id a b (Err e) other h = goes_act s a b (Stirred Other) (OpenRefused id e h) refl

    pub refused_goes : (s id : ℕ) (a b : S) (e : AssocError) → m.opened a id (Err e) b → Goes s a b
    refused_goes s id a b e h = goes_act s a b (Stirred Other) (OpenRefused id e h) refl

    pub wrote_goes : (s id : ℕ) (i : Ppi) (bytes : List ℕ) (a b : S) (r : Result ℕ AssocError) → m.wrote a id i bytes r b → Goes s a b
    wrote_goes s id i bytes a b (Ok n) h =
        goes_act s a b (Wrote id (m.generation a id) (ppi_number i) bytes) (i, (n, (h, refl, refl))) refl
    wrote_goes s id i bytes a b (Err e) h = goes_act s a b (Stirred Other) (WriteRefused id i bytes e h) refl

    pub ended_goes : (s id : ℕ) (a b : S) (r : Result (Unit {0}) AssocError) → m.ended a id r b → Goes s a b
    ended_goes s id a b (Ok x) h = goes_act s a b (Ended id (m.generation a id)) (h, refl) refl
    ended_goes s id a b (Err e) h = goes_act s a b (Stirred Other) (EndRefused id e h) refl

    pub threshold_goes : (s id n : ℕ) (a b : S) (r : Result (Unit {0}) AssocError) → m.threshold_set a id n r b → Goes s a b
    threshold_goes s id n a b r h = goes_act s a b (Stirred Other) (ThresholdSet id n r h) refl

    pub reliability_goes : (s id : ℕ) (unordered : Bool) (t : ReliabilityType) (n : ℕ) (a b : S) (r : Result (Unit {0}) AssocError)
        → m.reliability_set a id unordered t n r b → Goes s a b
    reliability_goes s id unordered t n a b r h = goes_act s a b (Stirred Other) (ReliabilitySet id unordered t n r h) refl

    pub read_goes : (s id : ℕ) (a b : S) (r : Result (Option (Ppi × List ℕ)) AssocError) → (id ≡ s → ⊥) → m.read a id r b → Goes s a b
    read_goes s id a b (Ok None) other h = goes_same s a b (w.read_none a b id h)
    read_goes s id a b (Ok (Some x)) other h =
        goes_act s a b (Read id (m.generation a id) (ppi_number x.0) x.1) (x.0, (h, refl, refl)) (ne_eqb id s other)
    read_goes s id a b (Err e) other h = goes_act s a b (Stirred Other) (ReadRefused id e h) refl
