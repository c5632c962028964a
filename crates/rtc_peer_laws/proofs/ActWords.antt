-- What lists of acts gave, took and were handed, joined.
use Rattle.std.proofs.Common.{◌≡◌, ◌++◌, ◌∷◌, inl, inr, ℕ, Bool, List, [], append_assoc, map, Option, refl, sym, ap, subst, ◌∙◌}
use Rattle.std.proofs.lemmas.List.{map-append}
use Rattle.rtc_wire.specs.declared.transmit.Transmit.{Transmit}
use Rattle.rtc_parts.specs.Why.{Timed}
use Rattle.rtc_parts.specs.Among.{Member, Among}
use Rattle.rtc_parts.proofs.AmongLemmas.{member-append, member-left, member-right}
use Rattle.rtc_parts.specs.AssociationActs.{AssociationAct, Wrote, Read}
use Rattle.rtc_parts.specs.IceActs.{IceAct, Stirred as IceStirred, TimedAt as IceTimed}
use Rattle.rtc_parts.specs.IceWords.{ice_taken}
use Rattle.rtc_parts.proofs.IceLemmas.{ice_taken-append}
use Rattle.rtc_parts.specs.DtlsActs.{DtlsAct, Stirred as DtlsStirred, TimedAt as DtlsTimed}
use Rattle.rtc_parts.specs.DtlsWords.{dtls_taken}
use Rattle.rtc_parts.proofs.DtlsLemmas.{dtls_taken-append}
use Rattle.rtc_parts.specs.MediaActs.{MediaAct, MediaGiven, MediaTaken, MediaStirred}
use Rattle.rtc_sctp_laws.specs.StreamMessages.{writes_of, reads_of}
use Rattle.rtc_peer_laws.specs.PeerActs.{acts_with, PeerActs, media_given, media_taken, ice_moments, dtls_moments, media_moments, contents_taken}
use Rattle.rtc_peer_laws.specs.PeerActs.{dtls_roles, first_role, role_of_act, roles_after}

pub media_given-append : (xs ys : List MediaAct) → media_given (xs ++ ys) ≡ media_given xs ++ media_given ys
media_given-append [] ys = refl
media_given-append (MediaGiven b ∷ xs) ys = ap (λ l. b ∷ l) (media_given-append xs ys)
media_given-append (_ ∷ xs) ys = media_given-append xs ys

pub media_taken-append : (xs ys : List MediaAct) → media_taken (xs ++ ys) ≡ media_taken xs ++ media_taken ys
media_taken-append [] ys = refl
media_taken-append (MediaTaken b ∷ xs) ys = ap (λ l. b ∷ l) (media_taken-append xs ys)
media_taken-append (_ ∷ xs) ys = media_taken-append xs ys

pub ice_moments-append : (xs ys : List IceAct) → ice_moments (xs ++ ys) ≡ ice_moments xs ++ ice_moments ys
ice_moments-append [] ys = refl
ice_moments-append (IceStirred (IceTimed now answer) ∷ xs) ys = ap (λ l. now ∷ l) (ice_moments-append xs ys)
ice_moments-append (_ ∷ xs) ys = ice_moments-append xs ys

pub dtls_moments-append : (xs ys : List DtlsAct) → dtls_moments (xs ++ ys) ≡ dtls_moments xs ++ dtls_moments ys
dtls_moments-append [] ys = refl
dtls_moments-append (DtlsStirred (DtlsTimed now answer) ∷ xs) ys = ap (λ l. now ∷ l) (dtls_moments-append xs ys)
dtls_moments-append (_ ∷ xs) ys = dtls_moments-append xs ys

pub dtls_roles-append : (xs ys : List DtlsAct) → dtls_roles (xs ++ ys) ≡ dtls_roles xs ++ dtls_roles ys
dtls_roles-append [] ys = refl
dtls_roles-append (x ∷ xs) ys =
    ap (λ (l : List Bool). role_of_act x ++ l) (dtls_roles-append xs ys) ∙ sym (append_assoc (role_of_act x) (dtls_roles xs) (dtls_roles ys))

-- more roles behind others
pub roles_after-append : (role : Option Bool) (xs ys : List Bool) → roles_after role (xs ++ ys) ≡ roles_after (roles_after role xs) ys
roles_after-append role [] ys = refl
roles_after-append role (x ∷ xs) ys = roles_after-append (first_role role x) xs ys

pub media_moments-append : (xs ys : List MediaAct) → media_moments (xs ++ ys) ≡ media_moments xs ++ media_moments ys
media_moments-append [] ys = refl
media_moments-append (MediaStirred (Timed now) ∷ xs) ys = ap (λ l. now ∷ l) (media_moments-append xs ys)
media_moments-append (_ ∷ xs) ys = media_moments-append xs ys

pub writes_of-append : (xs ys : List AssociationAct) → writes_of (xs ++ ys) ≡ writes_of xs ++ writes_of ys
writes_of-append [] ys = refl
writes_of-append (Wrote s g i b ∷ xs) ys = ap (λ l. Wrote s g i b ∷ l) (writes_of-append xs ys)
writes_of-append (_ ∷ xs) ys = writes_of-append xs ys

pub reads_of-append : (xs ys : List AssociationAct) → reads_of (xs ++ ys) ≡ reads_of xs ++ reads_of ys
reads_of-append [] ys = refl
reads_of-append (Read s g i b ∷ xs) ys = ap (λ l. Read s g i b ∷ l) (reads_of-append xs ys)
reads_of-append (_ ∷ xs) ys = reads_of-append xs ys

-- lists that are each among one list join
pub among_with : {A : Type 0} (l xs ys zs : List A) → l ≡ xs ++ ys → Among xs zs → Among ys zs → Among l zs
among_with {A} l xs ys zs is a b =
    subst (λ (k : List A). Among k zs) (sym is)
    (record { each = λ x h. elim (member-append x xs ys h) [ inl k ↦ a.each x k | inr k ↦ b.each x k ] })

-- those that are each among one of two lists join
pub among_pair : {A : Type 0} (l k xs ys us vs : List A) → l ≡ xs ++ ys → k ≡ us ++ vs → Among xs us → Among ys vs → Among l k
among_pair {A} l k xs ys us vs e f a b =
    subst (λ (i : List A). Among i k) (sym e) (subst (λ (i : List A). Among (xs ++ ys) i) (sym f)
    (record { each = λ x h. elim (member-append x xs ys h) [ inl n ↦ member-left x us vs (a.each x n) | inr n ↦ member-right x us vs (b.each x n) ] }))

abbrev contents_of : List IceAct → List (List ℕ)
contents_of acts = map (λ (transmit : Transmit). transmit.contents) (ice_taken acts)

contents-append : (xs ys : List IceAct) → contents_of (xs ++ ys) ≡ contents_of xs ++ contents_of ys
contents-append xs ys =
    ap (λ l. map (λ (transmit : Transmit). transmit.contents) l) (ice_taken-append xs ys)
    ∙ map-append (λ (transmit : Transmit). transmit.contents) (ice_taken xs) (ice_taken ys)

member_is : {A : Type 0} (x : A) (l k : List A) → l ≡ k → Member x k → Member x l
member_is {A} x l k is h = subst (λ (i : List A). Member x i) (sym is) h

-- what was taken in the first of two lists of acts, or in the second, was taken in both
pub taken_first : (x : List ℕ) (a b : PeerActs) → Member x (contents_taken a) → Member x (contents_taken (acts_with a b))
taken_first x a b h = elim (member-append x (contents_of a.ice) (dtls_taken a.dtls ++ media_taken a.media) h) [
  | inl n ↦
      member-left x (contents_of (a.ice ++ b.ice)) (dtls_taken (a.dtls ++ b.dtls) ++ media_taken (a.media ++ b.media))
      (member_is x _ _ (contents-append a.ice b.ice) (member-left x (contents_of a.ice) (contents_of b.ice) n))
  | inr n ↦ member-right x (contents_of (a.ice ++ b.ice)) (dtls_taken (a.dtls ++ b.dtls) ++ media_taken (a.media ++ b.media))
      (elim (member-append x (dtls_taken a.dtls) (media_taken a.media) n) [
        | inl k ↦
            member-left x (dtls_taken (a.dtls ++ b.dtls)) (media_taken (a.media ++ b.media))
            (member_is x _ _ (dtls_taken-append a.dtls b.dtls) (member-left x (dtls_taken a.dtls) (dtls_taken b.dtls) k))
        | inr k ↦
            member-right x (dtls_taken (a.dtls ++ b.dtls)) (media_taken (a.media ++ b.media))
            (member_is x _ _ (media_taken-append a.media b.media) (member-left x (media_taken a.media) (media_taken b.media) k))
      ])
]

pub taken_second : (x : List ℕ) (a b : PeerActs) → Member x (contents_taken b) → Member x (contents_taken (acts_with a b))
taken_second x a b h = elim (member-append x (contents_of b.ice) (dtls_taken b.dtls ++ media_taken b.media) h) [
  | inl n ↦
      member-left x (contents_of (a.ice ++ b.ice)) (dtls_taken (a.dtls ++ b.dtls) ++ media_taken (a.media ++ b.media))
      (member_is x _ _ (contents-append a.ice b.ice) (member-right x (contents_of a.ice) (contents_of b.ice) n))
  | inr n ↦ member-right x (contents_of (a.ice ++ b.ice)) (dtls_taken (a.dtls ++ b.dtls) ++ media_taken (a.media ++ b.media))
      (elim (member-append x (dtls_taken b.dtls) (media_taken b.media) n) [
        | inl k ↦
            member-left x (dtls_taken (a.dtls ++ b.dtls)) (media_taken (a.media ++ b.media))
            (member_is x _ _ (dtls_taken-append a.dtls b.dtls) (member-right x (dtls_taken a.dtls) (dtls_taken b.dtls) k))
        | inr k ↦
            member-right x (dtls_taken (a.dtls ++ b.dtls)) (media_taken (a.media ++ b.media))
            (member_is x _ _ (media_taken-append a.media b.media) (member-right x (media_taken a.media) (media_taken b.media) k))
      ])
]

-- what was given out and stands, through two calls: a, b are given out, c stands between, d stands behind; t was taken in both, u in the
-- first, v in the second, and e stood before
pub through : {A : Type 0} (a b c d t u v e : List A) → ((x : A) → Member x u → Member x t) → ((x : A) → Member x v → Member x t)
    → Among (a ++ c) (u ++ e) → Among (b ++ d) (v ++ c) → Among ((a ++ b) ++ d) (t ++ e)
through {A} a b c d t u v e f g h k = record {
  each = λ x m. elim (member-append x (a ++ b) d m) [
    | inl n ↦ elim (member-append x a b n) [ inl s ↦ first x (member-left x a c s) | inr s ↦ second x (λ y. first x y) (member-left x b d s) ]
    | inr n ↦ second x (λ y. first x y) (member-right x b d n)
  ];
}
  where
    first : (x : A) → Member x (a ++ c) → Member x (t ++ e)
    first x m = elim (member-append x u e (h.each x m)) [ inl n ↦ member-left x t e (f x n) | inr n ↦ member-right x t e n ]

    second : (x : A) → (Member x (a ++ c) → Member x (t ++ e)) → Member x (b ++ d) → Member x (t ++ e)
    second x before m = elim (member-append x v c (k.each x m)) [
      | inl n ↦ member-left x t e (g x n)
      | inr n ↦ before (member-right x a c n)
    ]
