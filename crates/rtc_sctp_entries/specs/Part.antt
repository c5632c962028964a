-- What the calls of an association do, by the results that streams distinguish.
use Rattle.std.specs.Prelude.{ℕ, ◌≡◌, ◌+◌, ◌≤◌, not, Bool, true, false, List, Option, Result}
use Rattle.rtc_wire.specs.declared.channel_config.ChannelConfig.{ChannelConfig}
use Rattle.rtc_wire.specs.Reliability.{parts_of}
use Rattle.rtc_parts.specs.declared.assoc_error.AssocError.{AssocError}
use Rattle.rtc_parts.specs.declared.ppi.Ppi.{Ppi}
use Rattle.rtc_parts.specs.AssociationMeaning.{AssociationMeaning}
use Rattle.rtc_sctp_entries.specs.declared.asked.Asked.{Asked}
use Rattle.rtc_sctp_entries.specs.declared.opening.Opening.{Opening}
use Rattle.rtc_sctp_entries.specs.declared.heard.Heard.{Heard}
use Rattle.rtc_sctp_entries.specs.declared.heard.Heard.TheVariants as heard
use Rattle.rtc_sctp_entries.specs.Answers.{asked_of, opening_of, heard_of}

-- a message that is read takes a unit of work away; no reading adds one
abbrev pub ReadUnits : Heard → ℕ → ℕ → Type 0
ReadUnits (heard.Message identifier bytes) old new = new + 1 ≤ old
ReadUnits heard.Nothing old new = new ≤ old
ReadUnits heard.Refused old new = new ≤ old
ReadUnits heard.OutOfMemory old new = new ≤ old

module _ {S : Type 0} (m : AssociationMeaning S) where
  pub record AsksOpen (p : S) (id : ℕ) (answer : Opening) (q : S) : Type 0 where
    pub result : Result (Unit {0}) AssocError
    pub called : m.opened p id result q
    pub is : opening_of result ≡ answer

  pub record AsksRead (p : S) (id : ℕ) (answer : Heard) (q : S) : Type 0 where
    pub result : Result (Option (Ppi × List ℕ)) AssocError
    pub called : m.read p id result q
    pub is : heard_of result ≡ answer

  pub record AsksWrite (p : S) (id : ℕ) (ppi : Ppi) (bytes : List ℕ) (answer : Asked) (q : S) : Type 0 where
    pub result : Result ℕ AssocError
    pub called : m.wrote p id ppi bytes result q
    pub is : asked_of result ≡ answer

  pub record AsksEnd (p : S) (id : ℕ) (answer : Asked) (q : S) : Type 0 where
    pub result : Result (Unit {0}) AssocError
    pub called : m.ended p id result q
    pub is : asked_of result ≡ answer

  pub record AsksThreshold (p : S) (id n : ℕ) (answer : Asked) (q : S) : Type 0 where
    pub result : Result (Unit {0}) AssocError
    pub called : m.threshold_set p id n result q
    pub is : asked_of result ≡ answer

  -- a stream gets the reliability of a config
  pub record AsksReliability (p : S) (id : ℕ) (config : ChannelConfig) (answer : Asked) (q : S) : Type 0 where
    pub result : Result (Unit {0}) AssocError
    pub called : m.reliability_set p id (not config.ordered) (parts_of config.reliability).0 (parts_of config.reliability).1 result q
    pub is : asked_of result ≡ answer

  -- a start as the client or as the server
  abbrev pub StartedAs : Bool → S → (now max_send : ℕ) → Result (Unit {0}) AssocError → S → Type 0
  StartedAs true = m.connected
  StartedAs false = m.accepted

  pub record AsksStart (client : Bool) (p : S) (now max_send : ℕ) (answer : Asked) (q : S) : Type 0 where
    pub result : Result (Unit {0}) AssocError
    pub called : StartedAs client p now max_send result q
    pub is : asked_of result ≡ answer

  pub record AsksShutdown (p : S) (answer : Asked) (q : S) : Type 0 where
    pub result : Result (Unit {0}) AssocError
    pub called : m.shut p result q
    pub is : asked_of result ≡ answer
