-- What was received and is not read, as it is kept: a queue for each stream that has some.
use Rattle.std.specs.Prelude.{ℕ, ◌≡◌, ◌<◌, List, [], ◌∷◌, ◌++◌, Some}
use Rattle.std.specs.List.{AllByRecursion}
use Rattle.std.specs.Ordering.{nat_cmp}
use Rattle.std.specs.BTreeMap.{BTreeMap, IsOrdered, get}
use Rattle.rtc_assoc_state.specs.declared.message.Message.{Message}
use Rattle.rtc_assoc_state.specs.MessagePart.{MessagePart}

-- the streams of which messages are
abbrev pub stream_of_message : Message → ℕ
stream_of_message m = m.stream

abbrev pub stream_of_part : MessagePart → ℕ
stream_of_part p = p.stream

module _ {M Q : Type 0} (items : Q → List M) where
  -- what is in all queues, one queue after the other
  abbrev pub all_queued : List (ℕ × Q) → List M
  all_queued [] = []
  all_queued (e ∷ entries) = items e.1 ++ all_queued entries

  -- the queues are in order of their streams, and what is in each is of its stream alone
  pub record SoundQueues (stream : M → ℕ) (queues : BTreeMap ℕ Q) : Type 0 where
    pub ordered : IsOrdered nat_cmp queues
    pub own : AllByRecursion (λ e. AllByRecursion (λ m. stream m ≡ e.0) (items e.1)) queues.entries

-- the queue of a stream has room for one more message
pub record TakesOneMore {Q : Type 0} (len capacity : Q → ℕ) (stream : ℕ) (queues : BTreeMap ℕ Q) : Type 0 where
  pub queue : Q
  pub found : get nat_cmp queues stream ≡ Some queue
  pub room : len queue < capacity queue
