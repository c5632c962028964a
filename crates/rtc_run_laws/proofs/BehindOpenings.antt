-- The messages behind the first that opens a channel, or acknowledges that, and what they carry.
use Rattle.std.proofs.Common.{◌≡◌, ◌∙◌, ◌++◌, ◌∷◌, ◌||◌, if◌then◌else◌, Bool, true, false, true≢false, List, [], map, refl, ap, subst}
use Rattle.rtc_assoc.specs.Unread.{IsPrefix}
use Rattle.rtc_parts.specs.declared.ppi.Ppi.{Ppi}
use Rattle.rtc_parts.specs.AssociationWords.{AssociationMessage}
use Rattle.rtc_parts.specs.Ppi.{ppi_of}
use Rattle.rtc_sctp_laws.specs.Contents.{content_of, contents_by, contents_of, numbered_message}
use Rattle.rtc_sctp_laws.specs.StreamMessages.{StreamMessage, HaveNamedPpis, is_dcep, is_dcep_message}
use Rattle.rtc_sctp_laws.specs.StreamUses.{any_dcep}
use Rattle.rtc_sctp_laws.proofs.ContentLemmas.{contents-append, named_contents}
use Rattle.rtc_sctp_laws.proofs.GenerationMessages.{none_data}

abbrev pub behind_dcep : List StreamMessage → List StreamMessage
behind_dcep [] = []
behind_dcep (x ∷ l) = if is_dcep_message x then l else behind_dcep l

second_none : {A : Type 0} (xs ys : List A) → xs ++ ys ≡ [] → ys ≡ []
second_none [] ys h = h
second_none (x ∷ xs) ys h = absurd (let e : ◌≡◌ {A = List _} (x ∷ (xs ++ ys)) [] = h in cc)

-- where none opens a channel
behind_none : (l : List StreamMessage) → any_dcep l ≡ false → behind_dcep l ≡ []
behind_none [] h = refl
behind_none (x ∷ l) h = by (is_dcep_message x) h (behind_none l)
  where
    by : (b : Bool) → (b || any_dcep l) ≡ false → (any_dcep l ≡ false → behind_dcep l ≡ []) → (if b then l else behind_dcep l) ≡ []
    by true e rest = absurd (true≢false e)
    by false e rest = rest e

pub behind_data : (l : List StreamMessage) (y : StreamMessage) → any_dcep l ≡ false → is_dcep_message y ≡ false → behind_dcep (l ++ y ∷ []) ≡ []
behind_data l y h k = behind_none (l ++ y ∷ []) (none_data l y h k)

-- of messages that carry nothing
pub behind_silent : (l : List StreamMessage) → contents_of l ≡ [] → contents_of (behind_dcep l) ≡ []
behind_silent [] h = refl
behind_silent (x ∷ l) h = by (is_dcep_message x) (behind_silent l rest)
  where
    rest : contents_of l ≡ []
    rest = second_none (content_of x.ppi x.bytes) (contents_of l) h

    by : (b : Bool) → contents_of (behind_dcep l) ≡ [] → contents_of (if b then l else behind_dcep l) ≡ []
    by true k = rest
    by false k = k

-- more of these
pub behind_more : (xs ys : List StreamMessage) → contents_of ys ≡ [] → contents_of (behind_dcep xs) ≡ [] → contents_of (behind_dcep (xs ++ ys)) ≡ []
behind_more [] ys e h = behind_silent ys e
behind_more (x ∷ xs) ys e h = by (is_dcep_message x) h (behind_more xs ys e)
  where
    by : (b : Bool) → contents_of (if b then xs else behind_dcep xs) ≡ [] → (contents_of (behind_dcep xs) ≡ [] → contents_of (behind_dcep (xs ++ ys)) ≡ [])
        → contents_of (if b then xs ++ ys else behind_dcep (xs ++ ys)) ≡ []
    by true k rest = contents-append xs ys ∙ ap (λ l. l ++ contents_of ys) k ∙ e
    by false k rest = rest k

-- behind the one that opens the channel
pub behind_first : (before : List StreamMessage) (last : StreamMessage) (rest : List StreamMessage) → any_dcep before ≡ false → is_dcep_message last ≡ true
    → behind_dcep ((before ++ last ∷ []) ++ rest) ≡ rest
behind_first [] last rest h k = ap (λ (b : Bool). if b then rest else behind_dcep rest) k
behind_first (x ∷ before) last rest h k = by (is_dcep_message x) h (λ e. behind_first before last rest e k)
  where
    by : (b : Bool) → (b || any_dcep before) ≡ false → (any_dcep before ≡ false → behind_dcep ((before ++ last ∷ []) ++ rest) ≡ rest)
        → (if b then (before ++ last ∷ []) ++ rest else behind_dcep ((before ++ last ∷ []) ++ rest)) ≡ rest
    by true e later = absurd (true≢false e)
    by false e later = later e

-- ---- by the numbers of identifiers

abbrev pub behind_numbered : List AssociationMessage → List AssociationMessage
behind_numbered [] = []
behind_numbered (y ∷ l) = if is_dcep (ppi_of y.identifier) then l else behind_numbered l

pub numbered_behind : (l : List StreamMessage) → HaveNamedPpis l → contents_by (behind_numbered (map numbered_message l)) ≡ contents_of (behind_dcep l)
numbered_behind [] h = refl
numbered_behind (x ∷ l) h =
    ap (λ (i : Ppi). contents_by (if is_dcep i then map numbered_message l else behind_numbered (map numbered_message l))) h.0
    ∙ by (is_dcep x.ppi) (numbered_behind l h.1)
  where
    by : (b : Bool) → contents_by (behind_numbered (map numbered_message l)) ≡ contents_of (behind_dcep l)
        → contents_by (if b then map numbered_message l else behind_numbered (map numbered_message l)) ≡ contents_of (if b then l else behind_dcep l)
    by true rest = named_contents l h.1
    by false rest = rest

behind_joined : (xs more : List AssociationMessage) → IsPrefix (behind_numbered xs) (behind_numbered (xs ++ more))
behind_joined [] more = record { rest = behind_numbered more; is = refl }
behind_joined (x ∷ xs) more = by (is_dcep (ppi_of x.identifier)) (behind_joined xs more)
  where
    by : (b : Bool) → IsPrefix (behind_numbered xs) (behind_numbered (xs ++ more))
        → IsPrefix (if b then xs else behind_numbered xs) (if b then xs ++ more else behind_numbered (xs ++ more))
    by true rest = record { rest = more; is = refl }
    by false rest = rest

-- of messages that begin others
pub behind_prefix : (xs ys : List AssociationMessage) → IsPrefix xs ys → IsPrefix (behind_numbered xs) (behind_numbered ys)
behind_prefix xs ys h = subst (λ (l : List AssociationMessage). IsPrefix (behind_numbered xs) (behind_numbered l)) h.is (behind_joined xs h.rest)
