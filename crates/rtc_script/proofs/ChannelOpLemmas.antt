-- Parts that are of no op that adds a channel.
use Rattle.std.proofs.Common.{◌≡◌, ◌≢◌, ℕ, List, [], ◌∷◌, ap, get_or, codes, arith}
use Rattle.rtc_wire.specs.declared.channel_config.ChannelConfig.{ChannelConfig}
use Rattle.rtc_sdp_values.specs.declared.media_kind.MediaKind.TheVariants.{Audio, Video}
use Rattle.rtc_run_history.specs.declared.op.Op.{Op}
use Rattle.rtc_run_history.specs.declared.op.Op.TheVariants.{AddMedia, SetDirection, StopMedia, AddChannel, IceRestart}
use Rattle.rtc_script.specs.ChannelParts.{IsLabelWord, AreConfigWords}
use Rattle.rtc_script.specs.Lines.{AreOpParts}

abbrev first_letter : List (List ℕ) → ℕ
first_letter found = get_or (get_or found 0 []) 0 0

-- two parts of which the second is no label are no op
pub no_labelled : (name word : List ℕ) → name ≡ codes "channel" → ((config : ChannelConfig) → IsLabelWord word config → ⊥)
    → (op : Op) → AreOpParts (name ∷ word ∷ []) op → ⊥
no_labelled name word is none op are = by op (rw is at are)
  where
    by : (op : Op) → AreOpParts (codes "channel" ∷ word ∷ []) op → ⊥
    by (AddMedia Audio dir) are = absurd (let e : 99 ≡ 97 = ap first_letter are in omega (arith, e))
    by (AddMedia Video dir) are = absurd (let e : 99 ≡ 118 = ap first_letter are in omega (arith, e))
    by (SetDirection place dir) are = absurd (let e : 99 ≡ 100 = ap first_letter are.0 in omega (arith, e))
    by (StopMedia place) are = absurd (let e : 99 ≡ 115 = ap first_letter are.0 in omega (arith, e))
    by (AddChannel config) are = none config are.1
    by (IceRestart keep) are = absurd (let e : 99 ≡ 114 = ap first_letter are in omega (arith, e))

-- six parts are no op but one that adds a channel
six_or_two : (a b c d e f g h : List ℕ) → c ∷ d ∷ e ∷ f ∷ g ∷ h ∷ [] ≡ a ∷ b ∷ [] → ⊥
six_or_two a b c d e f g h same = absurd (cc)

six_or_three : (x y z c d e f g h : List ℕ) → c ∷ d ∷ e ∷ f ∷ g ∷ h ∷ [] ≡ x ∷ y ∷ z ∷ [] → ⊥
six_or_three x y z c d e f g h same = absurd (cc)

pub no_whole : (c l o r s p : List ℕ) → ((config : ChannelConfig) → AreConfigWords l o r s p config → ⊥)
    → (op : Op) → AreOpParts (c ∷ l ∷ o ∷ r ∷ s ∷ p ∷ []) op → ⊥
no_whole c l o r s p none (AddMedia kind dir) are = six_or_two _ _ _ _ _ _ _ _ are
no_whole c l o r s p none (SetDirection place dir) are = six_or_three _ _ _ _ _ _ _ _ _ are.0
no_whole c l o r s p none (StopMedia place) are = six_or_two _ _ _ _ _ _ _ _ are.0
no_whole c l o r s p none (AddChannel config) are = none config are.1
no_whole c l o r s p none (IceRestart keep) are = six_or_two _ _ _ _ _ _ _ _ are

pub no_other : (c l o r s p : List ℕ) → c ≢ codes "channel" → (op : Op) → AreOpParts (c ∷ l ∷ o ∷ r ∷ s ∷ p ∷ []) op → ⊥
no_other c l o r s p other (AddMedia kind dir) are = six_or_two _ _ _ _ _ _ _ _ are
no_other c l o r s p other (SetDirection place dir) are = six_or_three _ _ _ _ _ _ _ _ _ are.0
no_other c l o r s p other (StopMedia place) are = six_or_two _ _ _ _ _ _ _ _ are.0
no_other c l o r s p other (AddChannel config) are = other are.0
no_other c l o r s p other (IceRestart keep) are = six_or_two _ _ _ _ _ _ _ _ are
