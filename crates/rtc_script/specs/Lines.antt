-- The lines of settings and of steps: words parted by single spaces.
use Rattle.std.specs.Prelude.{◌≡◌, ◌≢◌, ◌<◌, ◌≤◌, ◌^◌, ℕ, Bool, true, false, List, [], ◌∷◌, codes}
use Rattle.std.specs.Fmt.{decimal}
use Rattle.std.specs.List.{AllZip}
use Rattle.std.specs.Str.{IsUtf8}
use Rattle.hex.specs.Hex.{IsBytes}
use Rattle.rtc_wire_text.specs.Words.{parts, words}
use Rattle.rtc_run_history.specs.Sides.{side_of}
use Rattle.rtc_run_history.specs.declared.op.Op.{Op}
use Rattle.rtc_run_history.specs.declared.op.Op.TheVariants.{AddMedia, SetDirection, StopMedia, AddChannel, IceRestart}
use Rattle.rtc_run_history.specs.declared.side.Side.{Side}
use Rattle.rtc_run_history.specs.declared.step.Step.{Step}
use Rattle.rtc_run_history.specs.declared.step.Step.TheVariants.{Negotiate, AcceptOffer, AcceptAnswer, Time, Datagram, Poll, Drain}
use Rattle.rtc_run_history.specs.declared.step.Step.TheVariants.{Write, CloseChannel, Close, Rollback, ForeignOffer, ForeignAnswer, Raw}
use Rattle.rtc_script.specs.Numbers.{AreLongNumbers, AreNumbers}
use Rattle.rtc_script.specs.ChannelParts.{AreChannelParts}
use Rattle.rtc_script.specs.Words.{side_text, kind_text, direction_text, hex_word, keep_text, message_kind_text, role_text}
use Rattle.rtc_script.specs.declared.setting.Setting.{Setting}
use Rattle.rtc_script.specs.declared.setting.Setting.TheVariants.{Lite, Snap, Buffer, MaxMessage, Stats, Polite}

-- the parts of an op's word
abbrev pub AreOpParts : List (List ℕ) → Op → Type 0
AreOpParts found (AddMedia kind dir) = found ≡ kind_text kind ∷ direction_text dir ∷ []
AreOpParts found (SetDirection place dir) = (found ≡ codes "dir" ∷ decimal place ∷ direction_text dir ∷ []) × (place < 2 ^ 32)
AreOpParts found (StopMedia place) = (found ≡ codes "stop" ∷ decimal place ∷ []) × (place < 2 ^ 32)
AreOpParts found (AddChannel config) = AreChannelParts found config
AreOpParts found (IceRestart keep) = found ≡ codes "restart" ∷ keep_text keep ∷ []

-- the word of an op: parts with a colon between
abbrev pub IsOp : List ℕ → Op → Type 0
IsOp word op = AreOpParts (parts 58 word) op

-- a word for each op
abbrev pub AreOps : List (List ℕ) → List Op → Type 0
AreOps found ops = AllZip IsOp found ops

-- the number of a channel, below 2 ^ 64, and a message for it: its kind and its bytes
abbrev pub AreMessageWords : List (List ℕ) → (channel : ℕ) → (binary : Bool) → (bytes : List ℕ) → Type 0
AreMessageWords found channel binary bytes =
    (found ≡ decimal channel ∷ message_kind_text binary ∷ hex_word bytes ∷ []) × (channel < 2 ^ 64) × IsBytes bytes

-- a text that anybody wrote, which is UTF-8
abbrev pub AreTextWords : List (List ℕ) → (text : List ℕ) → Type 0
AreTextWords found text = (found ≡ hex_word text ∷ []) × IsUtf8 text

-- the number of a token, and such a text
abbrev pub AreTokenWords : List (List ℕ) → (token : ℕ) → (text : List ℕ) → Type 0
AreTokenWords found token text = (found ≡ decimal token ∷ hex_word text ∷ []) × (token < 2 ^ 32) × IsUtf8 text

-- a moment, and the bytes of a datagram
abbrev pub AreRawWords : List (List ℕ) → (now : ℕ) → (bytes : List ℕ) → Type 0
AreRawWords found now bytes = (found ≡ decimal now ∷ hex_word bytes ∷ []) × (now < 2 ^ 64) × IsBytes bytes

-- the verb of ops that are applied, and of those that are not
abbrev pub ops_verb : Bool → List ℕ
ops_verb true = codes "offer"
ops_verb false = codes "stage"

-- the verb, and the words behind it
abbrev pub IsAct : List ℕ → List (List ℕ) → Step → Type 0
IsAct verb rest (Negotiate at ops apply) = (verb ≡ ops_verb apply) × AreOps rest ops
IsAct verb rest (AcceptOffer at offer) = (verb ≡ codes "accept") × AreNumbers rest (offer ∷ [])
IsAct verb rest (AcceptAnswer at token answer) = (verb ≡ codes "answer") × AreNumbers rest (token ∷ answer ∷ [])
IsAct verb rest (Time at now) = (verb ≡ codes "time") × AreLongNumbers rest (now ∷ [])
IsAct verb rest (Datagram at packet now) = (verb ≡ codes "datagram") × AreLongNumbers rest (packet ∷ now ∷ [])
IsAct verb rest (Poll at) = (verb ≡ codes "poll") × (rest ≡ [])
IsAct verb rest (Drain at) = (verb ≡ codes "drain") × (rest ≡ [])
IsAct verb rest (Write at channel binary bytes) = (verb ≡ codes "write") × AreMessageWords rest channel binary bytes
IsAct verb rest (CloseChannel at channel) = (verb ≡ codes "closechannel") × AreLongNumbers rest (channel ∷ [])
IsAct verb rest (Close at) = (verb ≡ codes "close") × (rest ≡ [])
IsAct verb rest (Rollback at token) = (verb ≡ codes "rollback") × AreNumbers rest (token ∷ [])
IsAct verb rest (ForeignOffer at text) = (verb ≡ codes "foreignoffer") × AreTextWords rest text
IsAct verb rest (ForeignAnswer at token text) = (verb ≡ codes "foreignanswer") × AreTokenWords rest token text
IsAct verb rest (Raw at bytes now) = (verb ≡ codes "raw") × AreRawWords rest now bytes

-- a verb of no negotiation
abbrev pub IsNoVerbOfNegotiation : List ℕ → Type 0
IsNoVerbOfNegotiation verb =
    (verb ≢ codes "offer")
    × (verb ≢ codes "stage")
    × (verb ≢ codes "accept")
    × (verb ≢ codes "answer")
    × (verb ≢ codes "rollback")

-- a verb of no foreign text and no bytes of anybody
abbrev pub IsNoVerbOfForeign : List ℕ → Type 0
IsNoVerbOfForeign verb = (verb ≢ codes "foreignoffer") × (verb ≢ codes "foreignanswer") × (verb ≢ codes "raw")

-- a step that takes no words
abbrev pub IsSingle : Step → Type 0
IsSingle (Negotiate at ops apply) = ⊥
IsSingle (AcceptOffer at offer) = ⊥
IsSingle (AcceptAnswer at token answer) = ⊥
IsSingle (Time at now) = ⊥
IsSingle (Datagram at packet now) = ⊥
IsSingle (Poll at) = Unit {0}
IsSingle (Drain at) = Unit {0}
IsSingle (Write at channel binary bytes) = ⊥
IsSingle (CloseChannel at channel) = ⊥
IsSingle (Close at) = Unit {0}
IsSingle (Rollback at token) = ⊥
IsSingle (ForeignOffer at text) = ⊥
IsSingle (ForeignAnswer at token text) = ⊥
IsSingle (Raw at bytes now) = ⊥

-- the letter of the side that acts, and then its act
abbrev pub AreStepWords : List (List ℕ) → Step → Type 0
AreStepWords [] step = ⊥
AreStepWords (side ∷ []) step = ⊥
AreStepWords (side ∷ verb ∷ rest) step = (side ≡ side_text (side_of step)) × IsAct verb rest step

-- the line of a step
abbrev pub IsLine : List ℕ → Step → Type 0
IsLine line step = AreStepWords (words line) step

-- a setting may say this: a buffer has at most 1000000000 bytes, the length of a message has 32 bits, and 1 to 1000000000 milliseconds are
-- between rounds of statistics
abbrev pub IsAllowed : Setting → Type 0
IsAllowed Lite = Unit {0}
IsAllowed Snap = Unit {0}
IsAllowed (Buffer size) = size ≤ 1000000000
IsAllowed (MaxMessage size) = size < 2 ^ 32
IsAllowed (Stats millis) = (1 ≤ millis) × (millis ≤ 1000000000)
IsAllowed (Polite polite) = Unit {0}

-- the words of a setting
abbrev pub setting_words : Setting → List (List ℕ)
setting_words Lite = codes "lite" ∷ []
setting_words Snap = codes "snap" ∷ []
setting_words (Buffer size) = codes "buffer" ∷ decimal size ∷ []
setting_words (MaxMessage size) = codes "maxmsg" ∷ decimal size ∷ []
setting_words (Stats millis) = codes "stats" ∷ decimal millis ∷ []
setting_words (Polite polite) = role_text polite ∷ []

-- the words of a setting that is allowed
abbrev pub AreValueWords : List (List ℕ) → Setting → Type 0
AreValueWords found setting = (found ≡ setting_words setting) × IsAllowed setting

-- the verb of settings, the letter of a side, and what it is set to
abbrev pub AreSettingWords : List (List ℕ) → Side × Setting → Type 0
AreSettingWords [] setting = ⊥
AreSettingWords (verb ∷ []) setting = ⊥
AreSettingWords (verb ∷ side ∷ value) setting =
    (verb ≡ codes "set") × (side ≡ side_text setting.0) × AreValueWords value setting.1

-- the line of a setting
abbrev pub IsSetting : List ℕ → Side × Setting → Type 0
IsSetting line setting = AreSettingWords (words line) setting
