-- Two joined ends: what each sent the other, and what of closes and generations that makes of their rows.
use Rattle.std.proofs.Common.{◌⊎◌, ◌<◌, ℕ, List, [], take, Option, Some, None}
use Rattle.rtc_parts.specs.Among.{Member}
use Rattle.rtc_parts.specs.AssociationActs.{AssociationAct}
use Rattle.rtc_parts.specs.AssociationWords.{taken}
use Rattle.rtc_assoc_state.specs.Packets.{frame_in}
use Rattle.rtc_assoc.proofs.MessageLemmas.{HasClose}
use Rattle.rtc_sctp_laws.proofs.BackedRows.{plain_sound}
use Rattle.rtc_run_laws.proofs.SentOrder.{OrderedFrom}
use Rattle.rtc_assoc_state.specs.declared.item.Item.{Item}
use Rattle.rtc_assoc_state.specs.declared.frame.Frame.{Frame}
use Rattle.rtc_assoc_state.specs.declared.frame.Frame.TheVariants.{Hello, Welcome, Data, Acknowledgement, Shutdown}
use Rattle.rtc_assoc_state.specs.Contents.{Contents}
use Rattle.rtc_assoc.proofs.DirectedLemmas.{Directed}
use Rattle.rtc_run_laws.proofs.ClosingRows.{Keeps}

-- a packet with an item names, as come, the closes of all generations before that of the item
abbrev pub Timely : List Item → Option Frame → Type 0
Timely back None = Unit {0}
Timely back (Some Hello) = Unit {0}
Timely back (Some Welcome) = Unit {0}
Timely back (Some (Data n number item)) = (g : ℕ) → g < item.generation → HasClose item.stream g (take n back)
Timely back (Some (Acknowledgement n)) = Unit {0}
Timely back (Some Shutdown) = Unit {0}

-- what each end sent the other in all, and what of closes that makes of their rows
pub record Level (a b : Contents) (v u : List AssociationAct) : Type 0 where
  pub there : List Item
  pub back : List Item
  pub forth_is : Directed there a b v u
  pub back_is : Directed back b a u v
  pub left : Keeps a.streams a.outbox.items there (take a.inbox.received back)
  pub right : Keeps b.streams b.outbox.items back (take b.inbox.received there)
  pub left_sound : plain_sound a
  pub right_sound : plain_sound b
  pub there_order : OrderedFrom [] there
  pub back_order : OrderedFrom [] back
  pub there_timely : (packet : List ℕ) → Member packet a.packets ⊎ Member packet (taken v) → Timely back (frame_in packet)
  pub back_timely : (packet : List ℕ) → Member packet b.packets ⊎ Member packet (taken u) → Timely there (frame_in packet)

pub level_swap : (a b : Contents) (v u : List AssociationAct) → Level a b v u → Level b a u v
level_swap a b v u h = record { there = h.back; back = h.there; forth_is = h.back_is; back_is = h.forth_is; left = h.right; right = h.left; left_sound = h.right_sound; right_sound = h.left_sound; there_order = h.back_order; back_order = h.there_order; there_timely = h.back_timely; back_timely = h.there_timely }
