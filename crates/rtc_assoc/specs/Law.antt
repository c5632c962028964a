-- What holds of the replies to steps of two ends, and of the ends that the steps left.
use Rattle.std.specs.Prelude.{ℕ, ◌≡◌, ◌≤◌, not, Bool, true, false, List, ◌∷◌, ◌++◌, length, Some}
use Rattle.rtc_parts.specs.declared.ppi.Ppi.{Ppi}
use Rattle.rtc_assoc_state.specs.Outbox.{has_unacknowledged}
use Rattle.rtc_assoc_state.specs.Contents.{Contents, generation_of, is_finished, has_unread}
use Rattle.rtc_parts.specs.declared.assoc_event.AssocEvent.TheVariants.{Readable}
use Rattle.rtc_parts.specs.Among.{Member}
use Rattle.rtc_parts.specs.AssociationEvents.{InOrder}
use Rattle.rtc_parts.specs.AssociationWords.{completions}
use Rattle.rtc_assoc.specs.declared.assoc_step.AssocStep.{AssocStep}
use Rattle.rtc_assoc.specs.declared.assoc_step.AssocStep.TheVariants.{Read}
use Rattle.rtc_assoc.specs.declared.assoc_reply.AssocReply.{AssocReply}
use Rattle.rtc_assoc.specs.declared.assoc_reply.AssocReply.TheVariants.{Message}
use Rattle.rtc_assoc.specs.Unread.{unread, IsPrefix}
use Rattle.rtc_assoc.specs.Replies.{written_in, read_in, told_in, is_open}

-- of each generation of each stream, one end read a prefix of what the other one wrote; if the generation is open at the reader and the
-- writer holds no unacknowledged item of the stream, what is read and what is unread are together all of it
pub record OneWay (steps : List AssocStep) (replies : List AssocReply) (from_left : Bool) (writer reader : Contents) : Type 0 where
  pub begins : (s g : ℕ) → IsPrefix (read_in steps replies (not from_left) s g) (written_in steps replies from_left s g)
  pub all : (s g : ℕ) → is_open reader s g ≡ true → has_unacknowledged s writer.outbox.items ≡ false
      → read_in steps replies (not from_left) s g ++ unread s g reader.inbox.unread
      ≡ written_in steps replies from_left s g

-- what an end reported, with the events that are due: of each stream the completed resets behind their closes and no more than its
-- generation, and a Readable if a whole message is unread. Before a message of a generation was read at most that many completed resets
-- were reported: none is read after its own
pub record TellsEvents (steps : List AssocStep) (replies : List AssocReply) (left : Bool) (end : Contents) : Type 0 where
  pub most : (s : ℕ) → completions s (told_in steps replies left) ≤ generation_of end s
  pub in_order : (s : ℕ) → InOrder s false (told_in steps replies left ++ end.events) (is_finished end s)
  pub readable : (s g : ℕ) → has_unread end s g ≡ true → Member (Readable s) (told_in steps replies left ++ end.events)
  pub before : (s g : ℕ) (message : Ppi × List ℕ) (earlier later : List AssocStep) (said after : List AssocReply)
      → steps ≡ earlier ++ Read left s ∷ later → replies ≡ said ++ Message g (Some message) ∷ after
      → length said ≡ length earlier → completions s (told_in earlier said left) ≤ g
