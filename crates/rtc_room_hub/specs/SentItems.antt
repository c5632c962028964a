-- What became of items that were written to a line.
use Rattle.std.specs.Prelude.{◌≡◌, ℕ, Bool, true, false, List, Option}
use Rattle.rtc_plain_ice.specs.Messages.{is_ice_message}
use Rattle.rtc_plain_media.specs.declared.plain_media_event.PlainMediaEvent.{PlainMediaEvent}
use Rattle.rtc_run_history.specs.declared.outcome.Outcome.{Outcome}
use Rattle.rtc_run_history.specs.declared.outcome.Outcome.TheVariants.{Wrote, Refused}
use Rattle.rtc_run_history.specs.declared.table.Table.{Table}
use Rattle.rtc_run_history.specs.Memory.{outcome_lacks}
use Rattle.rtc_run_history.specs.Past.{Entry}
use Rattle.rtc_run_history.specs.Performs.{Performs}
use Rattle.rtc_run.specs.ProgramPair.{PlainPairState, plain_parts}
use Rattle.rtc_room_laws.specs.Forwarding.{SendsItems, WriteEnd, is_write_refused, write_of}
use Rattle.rtc_room_laws.specs.declared.item.Item.{Item}
use Rattle.rtc_room_hub.specs.declared.sent.Sent.{Sent}
use Rattle.rtc_room_hub.specs.declared.sent.Sent.TheVariants.{Taken, Waits, Refused as WasRefused}

abbrev pub sent_in_outcome : Outcome PlainMediaEvent → Sent
sent_in_outcome (Wrote true) = Taken
sent_in_outcome (Wrote false) = Waits
sent_in_outcome (Refused error) = WasRefused
sent_in_outcome outcome = Waits

-- An item was written to a line, and its write did not run out of memory.
pub record SendsItem (line : ℕ) (item : Item) (before : PlainPairState) (sent : Sent) (after : PlainPairState) : Type 0 where
  pub outcome : Outcome PlainMediaEvent
  pub table : Option Table
  pub performs : Performs plain_parts is_ice_message before (write_of line item) outcome table after
  pub lasts : outcome_lacks outcome ≡ false
  pub sent_is : sent ≡ sent_in_outcome outcome

-- So many items were written to a line and taken, and no more: the next one was refused, or not.
pub record SentUpTo (line : ℕ) (items : List Item) (taken : ℕ) (refused : Bool) (start now : PlainPairState) : Type 0 where
  pub end : Option WriteEnd
  pub performed : List (Entry PlainMediaEvent)
  pub refusal : is_write_refused end ≡ refused
  pub sends : SendsItems line items taken end start performed now
