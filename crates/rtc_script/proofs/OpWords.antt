-- What the words of a side and of an op determine.
use Rattle.std.proofs.Common.{◌≡◌, ◌<◌, ◌^◌, ◌∙◌, ℕ, Bool, true, false, List, [], ◌∷◌, refl, ap, sym, cond, eqb, get_or, codes, arith}
use Rattle.std.specs.Fmt.{decimal}
use Rattle.std.proofs.lemmas.Fmt.{decimal_injective}
use Rattle.rtc_wire_text.specs.Words.{parts}
use Rattle.rtc_sdp_values.specs.declared.direction.Direction.{Direction}
use Rattle.rtc_sdp_values.specs.declared.direction.Direction.TheVariants.{SendRecv, SendOnly, RecvOnly, Inactive}
use Rattle.rtc_sdp_values.specs.declared.media_kind.MediaKind.{MediaKind}
use Rattle.rtc_sdp_values.specs.declared.media_kind.MediaKind.TheVariants.{Audio, Video}
use Rattle.rtc_script.specs.Lines.{IsOp}
use Rattle.rtc_script.specs.Words.{side_text, kind_text, direction_text, keep_text}
use Rattle.rtc_script.proofs.ChannelPartLemmas.{first_part, one_channel}
use Rattle.rtc_run_history.specs.declared.op.Op.{Op}
use Rattle.rtc_run_history.specs.declared.op.Op.TheVariants.{AddMedia, SetDirection, StopMedia, AddChannel, IceRestart}
use Rattle.rtc_run_history.specs.declared.side.Side.{Side}
use Rattle.rtc_run_history.specs.declared.side.Side.TheVariants.{Left, Right}

side_from : List ℕ → Side
side_from text = cond (eqb (get_or text 0 0) 76) Left Right

side_again : (side : Side) → side_from (side_text side) ≡ side
unfolding side_from
side_again Left = refl
side_again Right = refl

pub one_side : (a b : Side) → side_text a ≡ side_text b → a ≡ b
one_side a b same = sym (side_again a) ∙ ap side_from same ∙ side_again b

direction_from : List ℕ → Direction
direction_from text =
    cond (eqb (get_or text 0 0) 105) Inactive (cond (eqb (get_or text 0 0) 114) RecvOnly (cond (eqb (get_or text 4 0) 114) SendRecv SendOnly))

direction_again : (dir : Direction) → direction_from (direction_text dir) ≡ dir
unfolding direction_from
direction_again SendRecv = refl
direction_again SendOnly = refl
direction_again RecvOnly = refl
direction_again Inactive = refl

one_direction : (a b : Direction) → direction_text a ≡ direction_text b → a ≡ b
one_direction a b same = sym (direction_again a) ∙ ap direction_from same ∙ direction_again b

-- two verbs have the same letters
pub same_letter : (n : ℕ) (verb a b : List ℕ) → verb ≡ a → verb ≡ b → get_or a n 0 ≡ get_or b n 0
same_letter n verb a b is is' = ap (λ (text : List ℕ). get_or text n 0) (sym is ∙ is')

kind_from : List ℕ → MediaKind
kind_from text = cond (eqb (get_or text 0 0) 97) Audio Video

kind_again : (kind : MediaKind) → kind_from (kind_text kind) ≡ kind
unfolding kind_from
kind_again Audio = refl
kind_again Video = refl

one_kind : (a b : MediaKind) → kind_text a ≡ kind_text b → a ≡ b
one_kind a b same = sym (kind_again a) ∙ ap kind_from same ∙ kind_again b

one_number : (m n : ℕ) → m < 2 ^ 32 → n < 2 ^ 32 → decimal m ≡ decimal n → m ≡ n
one_number m n small small' same = decimal_injective m n (omega arith) (omega arith) same

first_same : (a b : List ℕ) (rest others : List (List ℕ)) → a ∷ rest ≡ b ∷ others → a ≡ b
first_same a b rest others same = cc

rest_same : (a b : List ℕ) (rest others : List (List ℕ)) → a ∷ rest ≡ b ∷ others → rest ≡ others
rest_same a b rest others same = cc

-- two parts are not three
two_or_three : (a b c d e : List ℕ) → a ∷ b ∷ [] ≡ c ∷ d ∷ e ∷ [] → ⊥
two_or_three a b c d e same = absurd (cc)

-- no kind of media is named stop
no_stop : (kind : MediaKind) → kind_text kind ≡ codes "stop" → ⊥
no_stop Audio same = absurd (omega (arith, same_letter 0 (codes "audio") (codes "audio") (codes "stop") refl same))
no_stop Video same = absurd (omega (arith, same_letter 0 (codes "video") (codes "video") (codes "stop") refl same))

-- and none is named channel
pub no_channel : (kind : MediaKind) → kind_text kind ≡ codes "channel" → ⊥
no_channel Audio same = absurd (omega (arith, same_letter 0 (codes "audio") (codes "audio") (codes "channel") refl same))
no_channel Video same = absurd (omega (arith, same_letter 0 (codes "video") (codes "video") (codes "channel") refl same))

-- a channel is not added where a line is stopped
pub no_stopped : codes "stop" ≡ codes "channel" → ⊥
no_stopped same = absurd (omega (arith, same_letter 0 (codes "stop") (codes "stop") (codes "channel") refl same))

-- nor is one named restart, nor are a stopped line and a channel
no_restart : (kind : MediaKind) → kind_text kind ≡ codes "restart" → ⊥
no_restart Audio same = absurd (omega (arith, same_letter 0 (codes "audio") (codes "audio") (codes "restart") refl same))
no_restart Video same = absurd (omega (arith, same_letter 0 (codes "video") (codes "video") (codes "restart") refl same))

stop_no_restart : codes "stop" ≡ codes "restart" → ⊥
stop_no_restart same = absurd (omega (arith, same_letter 0 (codes "stop") (codes "stop") (codes "restart") refl same))

restart_no_channel : codes "restart" ≡ codes "channel" → ⊥
restart_no_channel same = absurd (omega (arith, same_letter 0 (codes "restart") (codes "restart") (codes "channel") refl same))

-- nor is a direction set where a channel is added
no_direction : codes "dir" ≡ codes "channel" → ⊥
no_direction same = absurd (omega (arith, same_letter 0 (codes "dir") (codes "dir") (codes "channel") refl same))

keep_from : List ℕ → Bool
keep_from text = eqb (get_or text 0 0) 107

keep_again : (keep : Bool) → keep_from (keep_text keep) ≡ keep
unfolding keep_from
keep_again true = refl
keep_again false = refl

one_keep : (a b : Bool) → keep_text a ≡ keep_text b → a ≡ b
one_keep a b same = sym (keep_again a) ∙ ap keep_from same ∙ keep_again b

-- a word is that of one op
pub one_op : (word : List ℕ) (a b : Op) → IsOp word a → IsOp word b → a ≡ b
one_op word (AddMedia kind dir) (AddMedia kind' dir') is is' =
    let same = sym is ∙ is' in
    let kinds = one_kind kind kind' (first_same _ _ _ _ same) in
    let dirs = one_direction dir dir' (first_same _ _ _ _ (rest_same _ _ _ _ same)) in
    rw (kinds, dirs) refl
one_op word (AddMedia kind dir) (SetDirection place to) is is' = absurd (two_or_three _ _ _ _ _ (sym is ∙ is'.0))
one_op word (AddMedia kind dir) (StopMedia place) is is' = absurd (no_stop kind (first_same _ _ _ _ (sym is ∙ is'.0)))
one_op word (SetDirection place to) (AddMedia kind dir) is is' = absurd (two_or_three _ _ _ _ _ (sym is' ∙ is.0))
one_op word (SetDirection place to) (SetDirection place' to') is is' =
    let same = rest_same _ _ _ _ (sym is.0 ∙ is'.0) in
    let places = one_number place place' is.1 is'.1 (first_same _ _ _ _ same) in
    let dirs = one_direction to to' (first_same _ _ _ _ (rest_same _ _ _ _ same)) in
    rw (places, dirs) refl
one_op word (SetDirection place to) (StopMedia place') is is' = absurd (two_or_three _ _ _ _ _ (sym is'.0 ∙ is.0))
one_op word (StopMedia place) (AddMedia kind dir) is is' = absurd (no_stop kind (first_same _ _ _ _ (sym is' ∙ is.0)))
one_op word (StopMedia place) (SetDirection place' to) is is' = absurd (two_or_three _ _ _ _ _ (sym is.0 ∙ is'.0))
one_op word (StopMedia place) (StopMedia place') is is' =
    let places = one_number place place' is.1 is'.1 (first_same _ _ _ _ (rest_same _ _ _ _ (sym is.0 ∙ is'.0))) in
    rw places refl
one_op word (AddMedia kind dir) (AddChannel config) is is' = absurd (no_channel kind (first_part _ config (kind_text kind) _ is is'))
one_op word (AddChannel config) (AddMedia kind dir) is is' = absurd (no_channel kind (first_part _ config (kind_text kind) _ is' is))
one_op word (SetDirection place to) (AddChannel config) is is' = absurd (no_direction (first_part _ config (codes "dir") _ is.0 is'))
one_op word (AddChannel config) (SetDirection place to) is is' = absurd (no_direction (first_part _ config (codes "dir") _ is'.0 is))
one_op word (StopMedia place) (AddChannel config) is is' = absurd (no_stopped (first_part _ config (codes "stop") _ is.0 is'))
one_op word (AddChannel config) (StopMedia place) is is' = absurd (no_stopped (first_part _ config (codes "stop") _ is'.0 is))
one_op word (AddChannel config) (AddChannel config') is is' =
    ap AddChannel (one_channel (parts 58 word) config config' is is')
one_op word (AddMedia kind dir) (IceRestart keep) is is' = absurd (no_restart kind (first_same _ _ _ _ (sym is ∙ is')))
one_op word (IceRestart keep) (AddMedia kind dir) is is' = absurd (no_restart kind (first_same _ _ _ _ (sym is' ∙ is)))
one_op word (SetDirection place to) (IceRestart keep) is is' = absurd (two_or_three _ _ _ _ _ (sym is' ∙ is.0))
one_op word (IceRestart keep) (SetDirection place to) is is' = absurd (two_or_three _ _ _ _ _ (sym is ∙ is'.0))
one_op word (StopMedia place) (IceRestart keep) is is' = absurd (stop_no_restart (first_same _ _ _ _ (sym is.0 ∙ is')))
one_op word (IceRestart keep) (StopMedia place) is is' = absurd (stop_no_restart (first_same _ _ _ _ (sym is'.0 ∙ is)))
one_op word (AddChannel config) (IceRestart keep) is is' = absurd (restart_no_channel (first_part _ config (codes "restart") _ is' is))
one_op word (IceRestart keep) (AddChannel config) is is' = absurd (restart_no_channel (first_part _ config (codes "restart") _ is is'))
one_op word (IceRestart keep) (IceRestart keep') is is' = ap IceRestart (one_keep keep keep' (first_same _ _ _ _ (rest_same _ _ _ _ (sym is ∙ is'))))
