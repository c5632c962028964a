-- The messages that an end holds unread, and lists that begin others.
use Rattle.std.specs.Prelude.{ℕ, ◌≡◌, if◌then◌else◌, List, [], ◌∷◌, ◌++◌}
use Rattle.rtc_parts.specs.AssociationWords.{AssociationMessage}
use Rattle.rtc_assoc_state.specs.declared.message.Message.{Message}
use Rattle.rtc_assoc_state.specs.Inbox.{is_message_of}

-- those of a generation of a stream, in order
abbrev pub unread : ℕ → ℕ → List Message → List AssociationMessage
unread s g [] = []
unread s g (m ∷ messages) =
    if is_message_of s g m then record { identifier = m.identifier; bytes = m.bytes } ∷ unread s g messages
    else unread s g messages

-- a list begins another
pub record IsPrefix {A : Type 0} (xs ys : List A) : Type 0 where
  pub rest : List A
  pub is : xs ++ rest ≡ ys
