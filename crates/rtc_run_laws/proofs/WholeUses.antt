-- What a side was told of its channels, by all that it read: of one that was announced in-band it is what the channel got since, where
-- nothing of the generation was read before.
use Rattle.std.proofs.Common.{◌≡◌, ◌∙◌, ◌++◌, ◌∷◌, ◌==◌, ◌&&◌, not, ◌||◌, if◌then◌else◌, ℕ, Bool, true, false, true≢false, List, [], append-nil, append_assoc, Option, Some, refl, sym, ap}
use Rattle.std.proofs.lemmas.Bool.{eqb-true}
use Rattle.rtc_sctp_laws.specs.StreamMessages.{StreamMessage, is_dcep_message}
use Rattle.rtc_sctp_laws.specs.StreamUses.{any_dcep, are_of_generation, messages_of}
use Rattle.rtc_sctp_laws.proofs.GenerationMessages.{messages-append}
use Rattle.rtc_sctp_laws.specs.Contents.{contents_of}
use Rattle.rtc_sctp_laws.proofs.ContentLemmas.{contents-append}
use Rattle.rtc_channels.specs.Channels.{Channel}
use Rattle.rtc_run_laws.specs.ChannelUses.{ChannelUse, with_rolled_back, with_sent_message}
use Rattle.rtc_run_laws.specs.ToldMessages.{MessagesTold}
use Rattle.rtc_run_laws.proofs.UseLists.{AllUses, all_kept, all_rolled, all_sent}

-- of the channel, the message that opened it with what was read before and behind, and what was told before it was announced: nothing,
-- where nothing was read before
pub record WholeTold (told : MessagesTold) (read : List StreamMessage) (c : ℕ) (of : Option ℕ) (g : ℕ) (got : List (Bool × List ℕ)) : Type 0 where
  pub stream : ℕ
  pub stream_is : of ≡ Some stream
  pub before : List StreamMessage
  pub last : StreamMessage
  pub rest : List StreamMessage
  pub read_is : messages_of stream g read ≡ (before ++ last ∷ []) ++ rest
  pub last_dcep : is_dcep_message last ≡ true
  pub none_before : any_dcep before ≡ false
  pub early : List (Bool × List ℕ)
  pub told_is : told c stream g ≡ early ++ got
  pub silent : contents_of before ≡ [] → early ≡ []

abbrev pub InBandWhole : MessagesTold → (read : List StreamMessage) → ChannelUse → Type 0
InBandWhole told read x = x.in_band ≡ true → WholeTold told read x.channel x.stream x.generation x.got

-- of a generation of which nothing was read nothing was told
abbrev pub AreSilent : MessagesTold → (read : List StreamMessage) → Type 0
AreSilent told read = (c s g : ℕ) → contents_of (messages_of s g read) ≡ [] → told c s g ≡ []

pub record SideWhole (told : MessagesTold) (read : List StreamMessage) (uses : List ChannelUse) : Type 0 where
  pub silent : AreSilent told read
  pub each : AllUses (InBandWhole told read) uses

-- ---- lists

no_cons : {A : Type 0} (x : A) (l : List A) → x ∷ l ≡ [] → ⊥
no_cons x l h = cc

none_first : {A : Type 0} (xs ys : List A) → xs ++ ys ≡ [] → xs ≡ []
none_first [] ys h = refl
none_first (x ∷ xs) ys h = absurd (no_cons x (xs ++ ys) h)

pub none_last : {A : Type 0} (xs ys : List A) → xs ++ ys ≡ [] → ys ≡ []
none_last [] ys h = h
none_last (x ∷ xs) ys h = absurd (no_cons x (xs ++ ys) h)

pub ends_none : {A : Type 0} (xs : List A) (x : A) → xs ++ x ∷ [] ≡ [] → ⊥
ends_none xs x h = no_cons x [] (none_last xs (x ∷ []) h)

pub contents_join : (s g : ℕ) (read heard : List StreamMessage)
    → contents_of (messages_of s g (read ++ heard)) ≡ contents_of (messages_of s g read) ++ contents_of (messages_of s g heard)
contents_join s g read heard = ap contents_of (messages-append s g read heard) ∙ contents-append (messages_of s g read) (messages_of s g heard)

-- messages that are of one generation are of no other
pub of_other : (s g h : ℕ) (l : List StreamMessage) → are_of_generation s g l ≡ true → (h ≡ g → ⊥) → messages_of s h l ≡ []
of_other s g h [] own ne = refl
of_other s g h (x ∷ l) own ne = by (x.stream == s) (x.generation == g) refl (x.generation == h) refl own (λ k. of_other s g h l k ne)
  where
    by : (a b : Bool) → (x.generation == g) ≡ b → (c : Bool) → (x.generation == h) ≡ c
        → ((not a || b) && are_of_generation s g l) ≡ true → (are_of_generation s g l ≡ true → messages_of s h l ≡ [])
        → (if a && c then x ∷ messages_of s h l else messages_of s h l) ≡ []
    by false b e c f k rest = rest k
    by true false e c f k rest = absurd (true≢false (sym k))
    by true true e true f k rest = absurd (ne (sym (eqb-true x.generation h f) ∙ eqb-true x.generation g e))
    by true true e false f k rest = rest k

pub both_true : (a b : Bool) → (a && b) ≡ true → (a ≡ true) × (b ≡ true)
both_true true b h = (refl, h)
both_true false b h = absurd (true≢false (sym h))

pub all_both : (P Q : ChannelUse → Type 0) (uses : List ChannelUse) → AllUses P uses → AllUses Q uses → AllUses (λ x. P x × Q x) uses
all_both P Q [] h k = tt
all_both P Q (x ∷ uses) h k = ((h.0, k.0), all_both P Q uses h.1 k.1)

pub some_is : (n k : ℕ) → Some n ≡ Some k → n ≡ k
some_is n k h = cc

-- ---- more is read

pub whole_on : (told told' : MessagesTold) (read heard : List StreamMessage) (c : ℕ) (of : Option ℕ) (g : ℕ) (got got' more : List (Bool × List ℕ))
    (t : WholeTold told read c of g got) → got' ≡ got ++ more → told' c t.stream g ≡ told c t.stream g ++ more
    → WholeTold told' (read ++ heard) c of g got'
whole_on told told' read heard c of g got got' more t is tells = record {
  stream = t.stream;
  stream_is = t.stream_is;
  before = t.before;
  last = t.last;
  rest = t.rest ++ messages_of t.stream g heard;
  read_is =
      messages-append t.stream g read heard
      ∙ ap (λ (l : List StreamMessage). l ++ messages_of t.stream g heard) t.read_is
      ∙ append_assoc (t.before ++ t.last ∷ []) t.rest (messages_of t.stream g heard);
  last_dcep = t.last_dcep;
  none_before = t.none_before;
  early = t.early;
  told_is =
      tells
      ∙ ap (λ (l : List (Bool × List ℕ)). l ++ more) t.told_is
      ∙ append_assoc t.early got more
      ∙ ap (λ (l : List (Bool × List ℕ)). t.early ++ l) (sym is);
  silent = t.silent;
}

-- and nothing is told of the channel
pub unmoved : (told told' : MessagesTold) (read heard : List StreamMessage) (x : ChannelUse) → ((s g : ℕ) → told' x.channel s g ≡ told x.channel s g)
    → InBandWhole told read x → InBandWhole told' (read ++ heard) x
unmoved told told' read heard x same h = λ band.
    let t = h band in
    whole_on told told' read heard x.channel x.stream x.generation x.got x.got [] t (sym (append-nil x.got))
    (same t.stream x.generation ∙ sym (append-nil (told x.channel t.stream x.generation)))

pub silent_on : (told : MessagesTold) (read heard : List StreamMessage) → AreSilent told read → AreSilent told (read ++ heard)
silent_on told read heard h = λ c s g none.
    h c s g (none_first (contents_of (messages_of s g read)) (contents_of (messages_of s g heard)) (sym (contents_join s g read heard) ∙ none))

pub whole_still : (told : MessagesTold) (read heard : List StreamMessage) (uses : List ChannelUse) → SideWhole told read uses
    → SideWhole told (read ++ heard) uses
whole_still told read heard uses h = record {
  silent = silent_on told read heard h.silent;
  each = all_kept (InBandWhole told read) (InBandWhole told (read ++ heard)) uses (λ x k. unmoved told told read heard x (λ s g. refl) k) h.each;
}

-- a message is written
pub whole_sent : (told : MessagesTold) (read heard : List StreamMessage) (c : ℕ) (message : Bool × List ℕ) (uses : List ChannelUse)
    → SideWhole told read uses → SideWhole told (read ++ heard) (with_sent_message c message uses)
whole_sent told read heard c message uses h = record {
  silent = silent_on told read heard h.silent;
  each =
      all_sent (InBandWhole told read) (InBandWhole told (read ++ heard)) c message uses
      (λ x e k. unmoved told told read heard x (λ s g. refl) k) (λ x e k. unmoved told told read heard x (λ s g. refl) k) h.each;
}

-- an offer is rolled back
pub whole_rolled : (told : MessagesTold) (read heard : List StreamMessage) (before after : List Channel) (uses : List ChannelUse)
    → SideWhole told read uses → SideWhole told (read ++ heard) (with_rolled_back before after uses)
whole_rolled told read heard before after uses h = record {
  silent = silent_on told read heard h.silent;
  each =
      all_rolled (InBandWhole told read) (InBandWhole told (read ++ heard)) before after uses
      (λ x e k. unmoved told told read heard x (λ s g. refl) k) (λ x e k. unmoved told told read heard x (λ s g. refl) k) h.each;
}

pub none_whole : SideWhole (λ c s g. []) [] []
none_whole = record { silent = λ c s g none. refl; each = tt }
