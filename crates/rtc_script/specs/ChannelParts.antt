-- The op that adds a channel: its label alone, or all that the channel is opened with.
use Rattle.std.specs.Prelude.{◌≡◌, ◌<◌, ◌^◌, ℕ, Bool, true, false, List, [], ◌∷◌, ◌++◌, Option, Some, None, codes}
use Rattle.std.specs.Fmt.{decimal}
use Rattle.std.specs.Str.{IsUtf8}
use Rattle.rtc_wire.specs.ChannelConfig.{fresh}
use Rattle.rtc_wire.specs.declared.channel_config.ChannelConfig.{ChannelConfig}
use Rattle.rtc_wire.specs.declared.reliability.Reliability.{Reliability}
use Rattle.rtc_wire.specs.declared.reliability.Reliability.TheVariants.{Reliable, MaxPacketLifetime, MaxRetransmits}
use Rattle.rtc_script.specs.Words.{hex_word}

-- whether messages arrive in order
abbrev pub order_text : Bool → List ℕ
order_text true = codes "ordered"
order_text false = codes "unordered"

-- how long messages are resent: a number of times, or of milliseconds
abbrev pub reliability_text : Reliability → List ℕ
reliability_text Reliable = codes "reliable"
reliability_text (MaxRetransmits retransmits) = codes "retransmits=" ++ decimal retransmits
reliability_text (MaxPacketLifetime lifetime) = codes "lifetime=" ++ decimal lifetime

-- the stream of a channel that is negotiated out-of-band; none if the open message determines it
abbrev pub settled_text : Option ℕ → List ℕ
settled_text None = codes "inband"
settled_text (Some stream) = decimal stream

-- numbers of a config have 16 bits
abbrev pub IsReliability : Reliability → Type 0
IsReliability Reliable = Unit {0}
IsReliability (MaxRetransmits retransmits) = retransmits < 2 ^ 16
IsReliability (MaxPacketLifetime lifetime) = lifetime < 2 ^ 16

abbrev pub IsSettled : Option ℕ → Type 0
IsSettled None = Unit {0}
IsSettled (Some stream) = stream < 2 ^ 16

-- what a channel is opened with that differs from the usual in its label alone
abbrev pub with_label : List ℕ → ChannelConfig
with_label label = record fresh { label = label }

-- the word of a label, which is UTF-8, and a config with that label alone
abbrev pub IsLabelWord : List ℕ → ChannelConfig → Type 0
IsLabelWord word config = (word ≡ hex_word config.label) × IsUtf8 config.label × (config ≡ with_label config.label)

-- the words of all of a config; its label and protocol are UTF-8
abbrev pub AreConfigWords : (label order reliability stream protocol : List ℕ) → ChannelConfig → Type 0
AreConfigWords label order reliability stream protocol config =
    (label ≡ hex_word config.label)
    × (order ≡ order_text config.ordered)
    × (reliability ≡ reliability_text config.reliability)
    × (stream ≡ settled_text config.negotiated)
    × (protocol ≡ hex_word config.protocol)
    × IsUtf8 config.label
    × IsReliability config.reliability
    × IsSettled config.negotiated
    × IsUtf8 config.protocol

-- the parts of the op: its name and a label, or its name and five words
abbrev pub AreChannelParts : List (List ℕ) → ChannelConfig → Type 0
AreChannelParts (name ∷ label ∷ []) config = (name ≡ codes "channel") × IsLabelWord label config
AreChannelParts (name ∷ label ∷ order ∷ reliability ∷ stream ∷ protocol ∷ []) config =
    (name ≡ codes "channel") × AreConfigWords label order reliability stream protocol config
AreChannelParts found config = ⊥
