-- What steps and their replies say was written, read and reported.
use Rattle.std.specs.Prelude.{ℕ, ◌==◌, ◌&&◌, not, if◌then◌else◌, Bool, true, false, List, [], ◌∷◌, ◌++◌, Some}
use Rattle.rtc_parts.specs.Ppi.{ppi_number}
use Rattle.rtc_parts.specs.declared.assoc_event.AssocEvent.{AssocEvent}
use Rattle.rtc_parts.specs.AssociationWords.{AssociationMessage}
use Rattle.rtc_assoc_state.specs.Contents.{Contents}
use Rattle.rtc_assoc_state.specs.Streams.{stream_of, takes_messages}
use Rattle.rtc_assoc.specs.declared.assoc_step.AssocStep.{AssocStep}
use Rattle.rtc_assoc.specs.declared.assoc_step.AssocStep.TheVariants.{Write, Poll, Read}
use Rattle.rtc_assoc.specs.declared.assoc_reply.AssocReply.{AssocReply}
use Rattle.rtc_assoc.specs.declared.assoc_reply.AssocReply.TheVariants.{Wrote, Event, Message}

-- whether a step is one of an end
abbrev pub same_end : (left at : Bool) → Bool
same_end true at = at
same_end false at = not at

-- the message that a step wrote at an end, to a generation of a stream
abbrev pub wrote_by : AssocStep → AssocReply → (left : Bool) → (s g : ℕ) → List AssociationMessage
wrote_by (Write at id ppi bytes) (Wrote generation) left s g =
    if same_end left at && ((id == s) && (generation == g))
    then record { identifier = ppi_number ppi; bytes = bytes } ∷ [] else []
wrote_by _ _ left s g = []

abbrev pub read_by : AssocStep → AssocReply → (left : Bool) → (s g : ℕ) → List AssociationMessage
read_by (Read at id) (Message generation (Some message)) left s g =
    if same_end left at && ((id == s) && (generation == g))
    then record { identifier = ppi_number message.0; bytes = message.1 } ∷ [] else []
read_by _ _ left s g = []

-- the events that a step reported at an end
abbrev pub told_by : AssocStep → AssocReply → (left : Bool) → List AssocEvent
told_by (Poll at) (Event (Some event)) left = if same_end left at then event ∷ [] else []
told_by _ _ left = []

abbrev pub written_in : List AssocStep → List AssocReply → (left : Bool) → (s g : ℕ) → List AssociationMessage
written_in (step ∷ steps) (reply ∷ replies) left s g = wrote_by step reply left s g ++ written_in steps replies left s g
written_in _ _ left s g = []

abbrev pub read_in : List AssocStep → List AssocReply → (left : Bool) → (s g : ℕ) → List AssociationMessage
read_in (step ∷ steps) (reply ∷ replies) left s g = read_by step reply left s g ++ read_in steps replies left s g
read_in _ _ left s g = []

abbrev pub told_in : List AssocStep → List AssocReply → (left : Bool) → List AssocEvent
told_in (step ∷ steps) (reply ∷ replies) left = told_by step reply left ++ told_in steps replies left
told_in _ _ left = []

-- whether an end did not close a generation of a stream: a later one, or the stream's own if it is not closed here
abbrev pub is_open : Contents → ℕ → ℕ → Bool
is_open p s g = takes_messages (stream_of s p.streams) g
