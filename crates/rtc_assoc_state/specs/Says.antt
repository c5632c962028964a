-- What the packets say that an end queues.
use Rattle.std.specs.Prelude.{ℕ, ◌≡◌, ◌+◌, ◌⊎◌, List, ◌∷◌, ◌++◌, length, Option, Some, None}
use Rattle.rtc_parts.specs.Among.{Member}
use Rattle.rtc_assoc_state.specs.declared.item.Item.{Item}
use Rattle.rtc_assoc_state.specs.declared.frame.Frame.{Frame}
use Rattle.rtc_assoc_state.specs.declared.frame.Frame.TheVariants.{Data, Acknowledgement}
use Rattle.rtc_assoc_state.specs.Packets.{frame_in}
use Rattle.rtc_assoc_state.specs.Contents.{Contents}

-- an item of a list has a number, if the first has the one after base
pub record Numbered (base : ℕ) (items : List Item) (number : ℕ) (item : Item) : Type 0 where
  pub before : List Item
  pub after : List Item
  pub is : items ≡ before ++ item ∷ after
  pub number_is : number ≡ base + length before + 1

-- what a packet says that is made now: an unacknowledged item with its number, and the number up to which all were received
abbrev pub SaysPacket : Contents → Option Frame → Type 0
SaysPacket p None = Unit {0}
SaysPacket p (Some (Data acknowledged number item)) = (acknowledged ≡ p.inbox.received) × Numbered p.outbox.acked p.outbox.items number item
SaysPacket p (Some (Acknowledgement number)) = number ≡ p.inbox.received
SaysPacket p (Some _) = Unit {0}

-- each queued packet was queued before, or is made now
pub record Queues (p q : Contents) : Type 0 where
  pub each : (packet : List ℕ) → Member packet q.packets → Member packet p.packets ⊎ SaysPacket q (frame_in packet)
