-- An item that is taken is counted.
use Rattle.std.proofs.Common.{◌≡◌, ◌+◌, ◌==◌, cond, ℕ, Bool, true, false, refl}
use Rattle.rtc_assoc_state.specs.declared.item.Item.{Item}
use Rattle.rtc_assoc_state.specs.declared.item_part.ItemPart.{ItemPart}
use Rattle.rtc_assoc_state.specs.declared.item_part.ItemPart.TheVariants.{More, Last, Close}
use Rattle.rtc_assoc_state.specs.declared.close_state.CloseState.{CloseState}
use Rattle.rtc_assoc_state.specs.declared.close_state.CloseState.TheVariants.{Unclosed, Queued, Acknowledged}
use Rattle.rtc_assoc_state.specs.declared.stream_row.StreamRow.{StreamRow}
use Rattle.rtc_assoc_state.specs.Contents.{Contents}
use Rattle.rtc_assoc_state.specs.Streams.{reset_row, stream_of, takes_messages}
use Rattle.rtc_assoc_state.specs.Settling.{can_reset}
use Rattle.rtc_assoc_state.specs.Calls.{sent, item_counted, more_kept, last_kept, piece_kept, finished, reset_told, close_came_at, part_came, item_taken}

counted_row : (row : StreamRow) (p : Contents) → (item_counted row p).inbox.received ≡ p.inbox.received + 1
unfolding item_counted
counted_row row p = refl

counted_kept : (part : ItemPart) (item : Item) (row : StreamRow) (p : Contents)
    → (piece_kept part item (item_counted row p)).inbox.received ≡ p.inbox.received + 1
unfolding item_counted more_kept last_kept
counted_kept Last item row p = refl
counted_kept More item row p = refl
counted_kept Close item row p = refl

counted_piece : (b : Bool) (part : ItemPart) (item : Item) (row : StreamRow) (p : Contents)
    → (cond b (piece_kept part item (item_counted row p)) (item_counted row p)).inbox.received ≡ p.inbox.received + 1
counted_piece true part item row p = counted_kept part item row p
counted_piece false part item row p = counted_row row p

counted_reset : (b : Bool) (row : StreamRow) (p : Contents)
    → (cond b (reset_told row (item_counted (reset_row row) (finished row p))) (item_counted (record row { finished = true }) (finished row p))).inbox.received
    ≡ p.inbox.received + 1
unfolding item_counted finished reset_told
counted_reset true row p = refl
counted_reset false row p = refl

counted_close : (close : CloseState) (now : ℕ) (row : StreamRow) (p : Contents)
    → (close_came_at close now row (finished row p)).inbox.received ≡ p.inbox.received + 1
unfolding item_counted finished sent
counted_close Unclosed now row p = refl
counted_close Queued now row p = refl
counted_close Acknowledged now row p = counted_reset (can_reset row) row p

counted_came : (b : Bool) (now : ℕ) (row : StreamRow) (p : Contents)
    → (cond b (close_came_at row.close now row (finished row p)) (item_counted row p)).inbox.received ≡ p.inbox.received + 1
counted_came true now row p = counted_close row.close now row p
counted_came false now row p = counted_row row p

counted_part : (part : ItemPart) (now : ℕ) (item : Item) (row : StreamRow) (p : Contents)
    → (part_came part now item row p).inbox.received ≡ p.inbox.received + 1
counted_part Close now item row p = counted_came (item.generation == row.generation) now row p
counted_part More now item row p = counted_piece (takes_messages row item.generation) item.part item row p
counted_part Last now item row p = counted_piece (takes_messages row item.generation) item.part item row p

pub counted_item : (now : ℕ) (item : Item) (p : Contents) → (item_taken now item p).inbox.received ≡ p.inbox.received + 1
counted_item now item p = counted_part item.part now item (record (stream_of item.stream p.streams) { there = true }) p
