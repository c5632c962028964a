-- What the words of a channel determine.
use Rattle.std.proofs.Common.{◌≡◌, ◌≢◌, ◌<◌, ◌^◌, ◌∙◌, ℕ, Bool, true, false, List, [], ◌∷◌, ◌++◌, Option, Some, None, refl, ap, sym, subst, eqb, get_or, codes, IfNone, arith}
use Rattle.std.specs.Fmt.{decimal}
use Rattle.std.proofs.lemmas.Fmt.{decimal_injective}
use Rattle.std.proofs.lemmas.List.{append_cancel_left}
use Rattle.rtc_wire_text.specs.Numbers.{is_numeral}
use Rattle.rtc_wire_text.proofs.NumberLemmas.{is_numeral-decimal}
use Rattle.rtc_wire.specs.declared.channel_config.ChannelConfig.{ChannelConfig}
use Rattle.rtc_wire.specs.declared.reliability.Reliability.{Reliability}
use Rattle.rtc_wire.specs.declared.reliability.Reliability.TheVariants.{Reliable, MaxPacketLifetime, MaxRetransmits}
use Rattle.rtc_script.specs.ChannelParts.{order_text, reliability_text, settled_text, IsReliability, IsSettled, with_label}
use Rattle.rtc_script.specs.ChannelParts.{IsLabelWord, AreConfigWords, AreChannelParts}
use Rattle.rtc_script.proofs.LabelLemmas.{one_label}

abbrev letter : ℕ → List ℕ → ℕ
letter n word = get_or word n 0

-- ---- words

order_from : List ℕ → Bool
order_from word = eqb (letter 0 word) 111

order_again : (ordered : Bool) → order_from (order_text ordered) ≡ ordered
unfolding order_from
order_again true = refl
order_again false = refl

pub one_order : (a b : Bool) → order_text a ≡ order_text b → a ≡ b
one_order a b same = sym (order_again a) ∙ ap order_from same ∙ order_again b

one_number : (m n : ℕ) → m < 2 ^ 16 → n < 2 ^ 16 → decimal m ≡ decimal n → m ≡ n
one_number m n small small' same = decimal_injective m n (omega arith) (omega arith) same

pub one_reliability : (a b : Reliability) → IsReliability a → IsReliability b → reliability_text a ≡ reliability_text b → a ≡ b
one_reliability Reliable Reliable is is' same = refl
one_reliability Reliable (MaxRetransmits n) is is' same = let e : 108 ≡ 116 = ap (letter 2) same in absurd (omega (arith, e))
one_reliability Reliable (MaxPacketLifetime n) is is' same = let e : 114 ≡ 108 = ap (letter 0) same in absurd (omega (arith, e))
one_reliability (MaxRetransmits m) Reliable is is' same = let e : 116 ≡ 108 = ap (letter 2) same in absurd (omega (arith, e))
one_reliability (MaxRetransmits m) (MaxRetransmits n) is is' same =
    ap MaxRetransmits (one_number m n is is' (append_cancel_left (codes "retransmits=") (decimal m) (decimal n) same))
one_reliability (MaxRetransmits m) (MaxPacketLifetime n) is is' same = let e : 114 ≡ 108 = ap (letter 0) same in absurd (omega (arith, e))
one_reliability (MaxPacketLifetime m) Reliable is is' same = let e : 108 ≡ 114 = ap (letter 0) same in absurd (omega (arith, e))
one_reliability (MaxPacketLifetime m) (MaxRetransmits n) is is' same = let e : 108 ≡ 114 = ap (letter 0) same in absurd (omega (arith, e))
one_reliability (MaxPacketLifetime m) (MaxPacketLifetime n) is is' same =
    ap MaxPacketLifetime (one_number m n is is' (append_cancel_left (codes "lifetime=") (decimal m) (decimal n) same))

-- a word of letters is no number
pub no_number : (n : ℕ) → n < 2 ^ 16 → codes "inband" ≡ decimal n → ⊥
no_number n small same =
    let e : false ≡ true = ap is_numeral same ∙ is_numeral-decimal n (omega (arith, small)) in
    absurd (cc)

pub one_settled : (a b : Option ℕ) → IsSettled a → IsSettled b → settled_text a ≡ settled_text b → a ≡ b
one_settled None None is is' same = refl
one_settled None (Some n) is is' same = absurd (no_number n is' same)
one_settled (Some m) None is is' same = absurd (no_number m is (sym same))
one_settled (Some m) (Some n) is is' same = ap Some (one_number m n is is' same)

-- ---- words that are none

-- no number stands behind a prefix where what stands there is none
pub no_number_behind : (r : Option ℕ) (word prefix rest : List ℕ) → word ≡ prefix ++ rest → ((n : ℕ) → n < 2 ^ 16 → rest ≢ decimal n)
    → IfNone r ((n : ℕ) → n < 2 ^ 16 → word ≢ prefix ++ decimal n)
no_number_behind (Some x) word prefix rest is none = tt
no_number_behind None word prefix rest is none =
    λ n small same. none n small (append_cancel_left prefix rest (decimal n) (sym is ∙ same))

pub no_reliability : (r : Option Reliability) (word : List ℕ) → word ≢ codes "reliable"
    → ((n : ℕ) → n < 2 ^ 16 → word ≢ codes "retransmits=" ++ decimal n) → ((n : ℕ) → n < 2 ^ 16 → word ≢ codes "lifetime=" ++ decimal n)
    → IfNone r ((reliability : Reliability) → IsReliability reliability → word ≢ reliability_text reliability)
no_reliability (Some x) word other none none' = tt
no_reliability None word other none none' = by
  where
    by : (reliability : Reliability) → IsReliability reliability → word ≢ reliability_text reliability
    by Reliable is = other
    by (MaxRetransmits n) is = none n is
    by (MaxPacketLifetime n) is = none' n is

pub no_settled : (word : List ℕ) → word ≢ codes "inband" → ((n : ℕ) → n < 2 ^ 16 → word ≢ decimal n)
    → (stream : Option ℕ) → IsSettled stream → word ≢ settled_text stream
no_settled word other none None is = other
no_settled word other none (Some n) is = none n is

-- ---- configs

abbrev config_with : List ℕ → Bool → Reliability → Option ℕ → List ℕ → ChannelConfig
config_with l o r n p = record { label = l; ordered = o; reliability = r; negotiated = n; protocol = p }

same_config : (l l' : List ℕ) (o o' : Bool) (r r' : Reliability) (n n' : Option ℕ) (p p' : List ℕ) → l ≡ l' → o ≡ o' → r ≡ r' → n ≡ n' → p ≡ p'
    → config_with l o r n p ≡ config_with l' o' r' n' p'
same_config l l' o o' r r' n n' p p' a b c d e = rw (a, b, c, d, e) refl

one_config : (l o r s p : List ℕ) (a b : ChannelConfig) → AreConfigWords l o r s p a → AreConfigWords l o r s p b → a ≡ b
one_config l o r s p a b is is' =
    same_config a.label b.label a.ordered b.ordered a.reliability b.reliability a.negotiated b.negotiated a.protocol b.protocol
    (one_label a.label b.label is.5 is'.5 (sym is.0 ∙ is'.0))
    (one_order a.ordered b.ordered (sym is.1 ∙ is'.1))
    (one_reliability a.reliability b.reliability is.6 is'.6 (sym is.2 ∙ is'.2))
    (one_settled a.negotiated b.negotiated is.7 is'.7 (sym is.3 ∙ is'.3))
    (one_label a.protocol b.protocol is.8 is'.8 (sym is.4 ∙ is'.4))

one_labelled : (word : List ℕ) (a b : ChannelConfig) → IsLabelWord word a → IsLabelWord word b → a ≡ b
one_labelled word a b is is' = is.2 ∙ ap with_label (one_label a.label b.label is.1 is'.1 (sym is.0 ∙ is'.0)) ∙ sym is'.2

-- ---- parts

-- parts are those of one channel
pub one_channel : (found : List (List ℕ)) (a b : ChannelConfig) → AreChannelParts found a → AreChannelParts found b → a ≡ b
one_channel [] a b is is' = absurd is
one_channel (n ∷ []) a b is is' = absurd is
one_channel (n ∷ l ∷ []) a b is is' = one_labelled l a b is.1 is'.1
one_channel (n ∷ l ∷ o ∷ []) a b is is' = absurd is
one_channel (n ∷ l ∷ o ∷ r ∷ []) a b is is' = absurd is
one_channel (n ∷ l ∷ o ∷ r ∷ s ∷ []) a b is is' = absurd is
one_channel (n ∷ l ∷ o ∷ r ∷ s ∷ p ∷ []) a b is is' = one_config l o r s p a b is.1 is'.1
one_channel (n ∷ l ∷ o ∷ r ∷ s ∷ p ∷ q ∷ rest) a b is is' = absurd is

-- the first of them is the name of the op
named : (name : List ℕ) (more : List (List ℕ)) (config : ChannelConfig) → AreChannelParts (name ∷ more) config → name ≡ codes "channel"
named name [] config is = absurd is
named name (l ∷ []) config is = is.0
named name (l ∷ o ∷ []) config is = absurd is
named name (l ∷ o ∷ r ∷ []) config is = absurd is
named name (l ∷ o ∷ r ∷ s ∷ []) config is = absurd is
named name (l ∷ o ∷ r ∷ s ∷ p ∷ []) config is = is.0
named name (l ∷ o ∷ r ∷ s ∷ p ∷ q ∷ rest) config is = absurd is

pub first_part : (found : List (List ℕ)) (config : ChannelConfig) (name : List ℕ) (more : List (List ℕ)) → found ≡ name ∷ more
    → AreChannelParts found config → name ≡ codes "channel"
first_part found config name more is are = named name more config (subst (λ (parts : List (List ℕ)). AreChannelParts parts config) is are)

-- ---- ops
