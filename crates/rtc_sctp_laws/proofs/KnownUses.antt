-- What answers of an association tell of a stream, and messages of the generation that it has.
use Rattle.std.proofs.Common.{◌≡◌, ◌⊎◌, inl, inr, ℕ, ◌||◌, not, Bool, true, false, true≢false, List, [], ◌∷◌, ◌++◌, Option, Some, None, Result, Ok, Err, refl, sym, ap, ◌∙◌}
use Rattle.std.specs.Prelude.{is_some}
use Rattle.std.proofs.lemmas.Bool.{eqb-true}
use Rattle.rtc_sctp_entries.specs.declared.stream_entry.StreamEntry.{StreamEntry}
use Rattle.rtc_wire.specs.declared.channel_config.ChannelConfig.{ChannelConfig}
use Rattle.rtc_sctp_entries.specs.Entries.{config_or_fresh, fits_generation, given_config, is_out_of_band}
use Rattle.rtc_parts.specs.declared.assoc_error.AssocError.{AssocError}
use Rattle.rtc_parts.specs.declared.assoc_error.AssocError.TheVariants.{StreamExists, ResetPending, NoStream, TooLong, Closing, Fault, Alloc}
use Rattle.rtc_parts.specs.declared.ppi.Ppi.{Ppi}
use Rattle.rtc_parts.specs.AssociationMeaning.{AssociationMeaning}
use Rattle.rtc_parts.specs.AssociationNeeds.{need, end_need}
use Rattle.rtc_parts.specs.AssociationLaws.{AssociationLaws}
use Rattle.rtc_sctp_entries.specs.declared.asked.Asked.{Asked}
use Rattle.rtc_sctp_entries.specs.declared.asked.Asked.TheVariants as did
use Rattle.rtc_sctp_entries.specs.declared.stream_entry_state.StreamEntryState.{StreamEntryState}
use Rattle.rtc_sctp_entries.specs.declared.stream_entry_state.StreamEntryState.TheVariants.{AwaitOpen, AwaitConfig, AwaitDcepAck, Open, Closed}
use Rattle.rtc_sctp_entries.specs.Answers.{asked_of}
use Rattle.rtc_sctp_laws.specs.StreamMessages.{StreamMessage, stream_message, is_dcep_message, are_dcep}
use Rattle.rtc_sctp_laws.specs.StreamRuns.{is_past_opening}
use Rattle.rtc_sctp_laws.proofs.MessageLemmas.{dcep_join}
use Rattle.rtc_sctp_laws.specs.GenerationLaws.{KeepsGeneration, GenerationLaws}
use Rattle.rtc_sctp_laws.specs.StreamUses.{messages_of, any_dcep, IsUnopened, IsAnnounced, IsOpened, IsOpenedIn, is_spent_stream, IsUnused, IsIdleStream, IsUsedIn, IsWithoutDcep, IsDcepInBand, spoken_generation, IsReached}
use Rattle.rtc_sctp_laws.proofs.GenerationMessages.{messages-append, messages_one, none_data, begins_dcep}

no_cause : (e : AssocError) → Some e ≡ None → ⊥
no_cause e h = cc

no_error : (e : AssocError) → None ≡ Some e → ⊥
no_error e h = cc

-- what a cause that is none tells
need_none : (b : Bool) (e : AssocError) (next : Option AssocError) → need b e next ≡ None → (b ≡ false) × (next ≡ None)
need_none true e next h = absurd (no_cause e h)
need_none false e next h = (refl, h)

not_or : (a b : Bool) → (not a || b) ≡ false → (a ≡ true) × (b ≡ false)
not_or true b h = (refl, h)
not_or false b h = absurd (true≢false h)

or_left : (a b : Bool) → a ≡ true → (a || b) ≡ true
or_left a b h = rw h refl

or_right : (a b : Bool) → b ≡ true → (a || b) ≡ true
or_right true b h = refl
or_right false b h = h

both_false : (a b : Bool) → a ≡ false → b ≡ false → (a || b) ≡ false
both_false a b h k = rw (h, k) refl

-- an ending that is refused for one of its needs
need_some : (there closed ending : Bool) (e : AssocError) → need (not there || closed) NoStream (need ending Closing None) ≡ Some e → ((closed || ending) ≡ true) ⊎ (there ≡ false)
need_some false closed ending e h = inr refl
need_some true true ending e h = inl refl
need_some true false true e h = inl refl
need_some true false false e h = absurd (no_error e h)

pub not_alloc : {T : Type 0} (r : Result T AssocError) (answer : Asked) → asked_of r ≡ answer → (did.OutOfMemory ≡ answer → ⊥) → r ≡ Err Alloc → ⊥
not_alloc {T} r answer is ne e = ne (sym (ap (λ (x : Result T AssocError). asked_of x) e) ∙ is)

pub done_alloc : did.OutOfMemory ≡ did.Done → ⊥
done_alloc h = cc

pub refused_alloc : did.OutOfMemory ≡ did.Refused → ⊥
refused_alloc h = cc

-- a message that is no message of DCEP changes nothing of what is asked of those that were read
pub used_data : {S : Type 0} (m : AssociationMeaning S) (st : StreamEntryState) (own : Option ℕ) (s : ℕ) (a : S) (ws hs : List StreamMessage) (x : StreamMessage) → is_past_opening st ≡ true → is_dcep_message x ≡ false → IsUsedIn m st false own s a ws hs → IsUsedIn m st false own s a ws (hs ++ x ∷ [])
used_data {S} m st own s a ws hs x past data_is h = by st past h
  where
    unused : IsUnused m s a ws hs → IsUnused m s a ws (hs ++ x ∷ [])
    unused (inl k) = inl (k.0, none_data hs x k.1 data_is)
    unused (inr k) = inr k

    by : (st : StreamEntryState) → is_past_opening st ≡ true → IsUsedIn m st false own s a ws hs → IsUsedIn m st false own s a ws (hs ++ x ∷ [])
    by AwaitOpen f k = absurd (true≢false (sym f))
    by AwaitConfig f k = unused k
    by AwaitDcepAck f k = (k.0, (k.1.0, k.1.1, none_data hs x k.1.2 data_is))
    by Open f k = tt
    by Closed f k = absurd (true≢false (sym f))

-- one that is to be closed
pub used_marked : {S : Type 0} (m : AssociationMeaning S) (st : StreamEntryState) (own : Option ℕ) (s : ℕ) (a : S) (ws hs : List StreamMessage) → is_past_opening st ≡ true → IsUsedIn m st true own s a ws hs
used_marked m AwaitOpen own s a ws hs h = absurd (true≢false (sym h))
used_marked m AwaitConfig own s a ws hs h = tt
used_marked m AwaitDcepAck own s a ws hs h = tt
used_marked m Open own s a ws hs h = tt
used_marked m Closed own s a ws hs h = absurd (true≢false (sym h))

pub used_announced : {S : Type 0} (m : AssociationMeaning S) (marked : Bool) (g s : ℕ) (a : S) (ws hs : List StreamMessage) → IsAnnounced ws hs → IsUsedIn m AwaitDcepAck marked (Some g) s a ws hs
used_announced m true g s a ws hs h = tt
used_announced m false g s a ws hs h = (refl, h)

-- an entry whose stream has the generation that it keeps, if it keeps one, speaks of this
pub fits_own : (own : Option ℕ) (g : ℕ) → fits_generation own g ≡ true → is_some own ≡ true → own ≡ Some g
fits_own None g h k = absurd (true≢false (sym k))
fits_own (Some n) g h k = ap (λ (x : ℕ). Some x) (eqb-true n g h)

pub spoken_now : (st : StreamEntryState) (own : Option ℕ) (g : ℕ) → (is_some own ≡ true → own ≡ Some g) → spoken_generation st own g ≡ g
spoken_now AwaitOpen own g h = refl
spoken_now AwaitConfig own g h = refl
spoken_now AwaitDcepAck None g h = refl
spoken_now AwaitDcepAck (Some n) g h = number_of (h refl)
  where
    number_of : Some n ≡ Some g → n ≡ g
    number_of e = cc
spoken_now Open own g h = refl
spoken_now Closed own g h = refl

-- an acknowledgement behind what was written, and an open message behind what was read
pub opened_by_ack : (ws hs before : List StreamMessage) (x y : StreamMessage) → IsUnopened ws before → is_dcep_message x ≡ true → is_dcep_message y ≡ true → hs ≡ before ++ y ∷ [] → IsOpened (ws ++ x ∷ []) hs
opened_by_ack ws hs before x y h k l e = record {
  dcep = dcep_join ws (x ∷ []) (ap are_dcep h.0) (rw k refl);
  begins = begins_dcep ws x (ap are_dcep h.0) k;
  before = before;
  last = y;
  last_dcep = l;
  heard_is = e;
  none_before = h.1;
}

pub opened_by_answer : (ws hs before : List StreamMessage) (y : StreamMessage) → IsAnnounced ws before → is_dcep_message y ≡ true → hs ≡ before ++ y ∷ [] → IsOpened ws hs
opened_by_answer ws hs before y h l e = record {
  dcep = h.0;
  begins = h.1;
  before = before;
  last = y;
  last_dcep = l;
  heard_is = e;
  none_before = h.2;
}

-- what is known of an entry that is about to be open
abbrev pub MayOpenIn : StreamEntry → (generation : ℕ) → (written heard : List StreamMessage) → Type 0
MayOpenIn e g ws hs = (is_out_of_band e ≡ true) ⊎ (IsOpened ws hs × (e.generation ≡ Some g))

pub open_now : (e : StreamEntry) (g : ℕ) (ws hs : List StreamMessage) → MayOpenIn e g ws hs → IsOpenedIn (record e { state = Open }) g ws hs
open_now e g ws hs (inl h) = inl h
open_now e g ws hs (inr h) = inr (h.0, (refl, h.1))

-- a config that the other end gave is in-band, and one that was in-band before is kept
pub given_in_band : (o : Option ChannelConfig) (config : ChannelConfig) → is_some config.negotiated ≡ false → is_some (config_or_fresh o).negotiated ≡ false
    → is_some (config_or_fresh (given_config o config)).negotiated ≡ false
given_in_band None config h k = h
given_in_band (Some own) config h k = k

module _ {S : Type 0} (m : AssociationMeaning S) where
  -- an entry that is open
  pub open_without : (out : Bool) (s : ℕ) (a : S) (ws : List StreamMessage) → IsWithoutDcep m s a ws → IsDcepInBand m Open out s a ws
  open_without true s a ws h = h
  open_without false s a ws h = tt

  pub open_in_band : (out : Bool) (s : ℕ) (a : S) (ws : List StreamMessage) → out ≡ false → IsDcepInBand m Open out s a ws
  open_in_band true s a ws h = absurd (true≢false h)
  open_in_band false s a ws h = tt

  pub idle_without : (s : ℕ) (a : S) (ws hs : List StreamMessage) → IsIdleStream m s a ws hs → IsWithoutDcep m s a ws
  idle_without s a ws hs (inl h) = inl (ap any_dcep h.0)
  idle_without s a ws hs (inr h) = inr h

  -- the messages of the generation that a stream has
  abbrev pub now_of : S → ℕ → List StreamMessage → List StreamMessage
  now_of a s messages = messages_of s (m.generation a s) messages

  pub now_kept : (s : ℕ) (a b : S) (l : List StreamMessage) → KeepsGeneration m s a b → now_of b s l ≡ now_of a s l
  now_kept s a b l k = ap (λ (g : ℕ). messages_of s g l) k.generation_is

  pub now_more : (s : ℕ) (a b : S) (l : List StreamMessage) (i : Ppi) (bytes : List ℕ) → KeepsGeneration m s a b
      → now_of b s (l ++ stream_message s (m.generation a s) i bytes ∷ []) ≡ now_of a s l ++ stream_message s (m.generation a s) i bytes ∷ []
  now_more s a b l i bytes k =
      now_kept s a b (l ++ stream_message s (m.generation a s) i bytes ∷ []) k
      ∙ messages-append s (m.generation a s) l (stream_message s (m.generation a s) i bytes ∷ [])
      ∙ ap (λ (x : List StreamMessage). now_of a s l ++ x) (messages_one s (m.generation a s) i bytes)

  -- nothing was written or read of it
  pub unused_blank : (s : ℕ) (a : S) (ws hs : List StreamMessage) → ws ≡ [] → hs ≡ [] → IsUnused m s a ws hs
  unused_blank s a ws hs h k = inl (h, ap any_dcep k)

  pub idle_unused : (s : ℕ) (a : S) (ws hs : List StreamMessage) → IsIdleStream m s a ws hs → IsUnused m s a ws hs
  idle_unused s a ws hs (inl h) = unused_blank s a ws hs h.0 h.1
  idle_unused s a ws hs (inr h) = inr h

  module _ (w : AssociationLaws m) (v : GenerationLaws m) where
    -- a write that is Ok
    pub write_facts : (s : ℕ) (a q : S) (i : Ppi) (bytes : List ℕ) (n : ℕ) → m.wrote a s i bytes (Ok n) q → (m.has_stream a s ≡ true) × (is_spent_stream m s a ≡ false)
    write_facts s a q i bytes n h =
        let needs = need_none _ NoStream _ (w.write_answer a q s i bytes (Ok n) h).0 in
        let there = not_or (m.has_stream a s) (m.closed_here a s) needs.0 in
        let long = need_none _ TooLong _ needs.1 in
        let ending = need_none _ Closing None long.1 in
        (there.0, both_false (m.closed_here a s) (m.closing a || m.closed a) there.1 ending.0)

    pub read_there : (s : ℕ) (a q : S) (r : Option (Ppi × List ℕ)) → m.read a s (Ok r) q → m.has_stream a s ≡ true
    read_there s a q r h =
        let needs = need_none _ NoStream None (w.read_answer a q s (Ok r) h).0 in
        by (m.has_stream a s) refl needs.0
      where
        by : (b : Bool) → m.has_stream a s ≡ b → not b ≡ false → m.has_stream a s ≡ true
        by true e k = e
        by false e k = absurd (true≢false k)

    pub open_absent : (s : ℕ) (a q : S) → m.opened a s (Ok tt) q → m.has_stream a s ≡ false
    open_absent s a q h = (need_none _ StreamExists _ (w.open_answer a q s (Ok tt) h).0).0

    refused_end : (s : ℕ) (a q : S) (e : AssocError) → KeepsGeneration m s a q → end_need m a s ≡ Some e → (is_spent_stream m s q ≡ true) ⊎ (m.has_stream a s ≡ false)
    refused_end s a q e k h = by (need_some (m.has_stream a s) (m.closed_here a s) (m.closing a || m.closed a) e h)
      where
        or_cases : (x y : Bool) → (x || y) ≡ true → (x ≡ true) ⊎ (y ≡ true)
        or_cases true y f = inl refl
        or_cases false y f = inr f

        spent : (m.closed_here a s ≡ true) ⊎ ((m.closing a || m.closed a) ≡ true) → is_spent_stream m s q ≡ true
        spent (inl f) = or_left _ _ (k.closed f)
        spent (inr f) = or_right _ _ (k.ending f)

        by : ((m.closed_here a s || (m.closing a || m.closed a)) ≡ true) ⊎ (m.has_stream a s ≡ false) → (is_spent_stream m s q ≡ true) ⊎ (m.has_stream a s ≡ false)
        by (inl f) = inl (spent (or_cases _ _ f))
        by (inr f) = inr f

    -- behind an ending that found memory the stream is spent, or it was not there
    pub end_facts : (s : ℕ) (a q : S) (r : Result (Unit {0}) AssocError) → KeepsGeneration m s a q → m.ended a s r q → (r ≡ Err Alloc → ⊥) → (is_spent_stream m s q ≡ true) ⊎ (m.has_stream a s ≡ false)
    end_facts s a q (Ok x) k h ne = inl (or_left _ _ (v.ends s a q h))
    end_facts s a q (Err StreamExists) k h ne = refused_end s a q StreamExists k (w.end_answer a q s (Err StreamExists) h).0
    end_facts s a q (Err ResetPending) k h ne = refused_end s a q ResetPending k (w.end_answer a q s (Err ResetPending) h).0
    end_facts s a q (Err NoStream) k h ne = refused_end s a q NoStream k (w.end_answer a q s (Err NoStream) h).0
    end_facts s a q (Err TooLong) k h ne = refused_end s a q TooLong k (w.end_answer a q s (Err TooLong) h).0
    end_facts s a q (Err Closing) k h ne = refused_end s a q Closing k (w.end_answer a q s (Err Closing) h).0
    end_facts s a q (Err Fault) k h ne = absurd (v.sound s a q h)
    end_facts s a q (Err Alloc) k h ne = absurd (ne refl)

    -- and so it is idle
    pub end_idle : (s : ℕ) (a q : S) (r : Result (Unit {0}) AssocError) (ws hs : List StreamMessage) → KeepsGeneration m s a q → m.ended a s r q → (r ≡ Err Alloc → ⊥) → IsReached m s ws hs a → IsIdleStream m s q (now_of q s ws) (now_of q s hs)
    end_idle s a q r ws hs k h ne reached = by (end_facts s a q r k h ne)
      where
        by : (is_spent_stream m s q ≡ true) ⊎ (m.has_stream a s ≡ false) → IsIdleStream m s q (now_of q s ws) (now_of q s hs)
        by (inl f) = inr f
        by (inr f) = let none = reached.absent f in inl (now_kept s a q ws k ∙ none.0, now_kept s a q hs k ∙ none.1)

    pub not_spent : (s : ℕ) (a : S) (ws hs : List StreamMessage) → is_spent_stream m s a ≡ false → IsUnused m s a ws hs → IsUnopened ws hs
    not_spent s a ws hs e (inl h) = h
    not_spent s a ws hs e (inr h) = absurd (true≢false (sym h ∙ e))
