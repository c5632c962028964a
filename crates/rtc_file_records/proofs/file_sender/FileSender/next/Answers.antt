use Rattle.std.proofs.Common.{ℕ, arith, ◌∙◌, ◌+◌, ap, sym, length, List, Some, slice_get}
use Rattle.rtc_file_records.specs.declared.file_record.FileRecord.{FileRecord}
use Rattle.rtc_file_records.specs.declared.file_record.FileRecord.TheVariants.{End}
use Rattle.rtc_file_records.specs.Sending.{SentFile, rest_from}
use Rattle.rtc_file_records.proofs.PieceLemmas.{left_in_pieces, piece_left, end_left, sent_next}
use Rattle.rtc_file_records.proofs.file_sender.FileSender.next.Goals as goal

pub returns-in_ok-piece-in-Pieces-clause-next : goal.returns-in_ok-piece-in-Pieces-clause-next
returns-in_ok-piece-in-Pieces-clause-next c =
    let left = ap (λ (s : SentFile). s.left) (sym c.self.view_is) ∙ left_in_pieces c.self.inside.stage c.self.inside.name c.self.inside.file.now c.self.inside.offset c.in-Pieces.is
    ∙ piece_left c.self.inside.offset c.self.inside.file.now c.if-self.true in
    ap Some c.in_ok-piece-in-Pieces.ensures.piece ∙ sym (ap (λ (l : List FileRecord). slice_get l 0) left)

pub returns-in_ok-piece-in-Pieces-clause-after : goal.returns-in_ok-piece-in-Pieces-clause-after
returns-in_ok-piece-in-Pieces-clause-after c =
    let inside = c.self.inside in
    let left = left_in_pieces inside.stage inside.name inside.file.now inside.offset c.in-Pieces.is ∙ piece_left inside.offset inside.file.now c.if-self.true in
    let left' = left_in_pieces inside.stage inside.name inside.file.now (inside.offset + c.min.result) c.in-Pieces.is ∙ ap (λ count. rest_from (inside.offset + count) inside.file.now) c.min.ensures in
    ap (λ (l : List FileRecord). let s : SentFile = record { name = inside.name; file = inside.file.now; left = l } in s) left'
    ∙ sent_next _ _ _ _ _ _ c.self.view_is left

pub returns-in_ok-piece-in-Pieces-clause-sent : goal.returns-in_ok-piece-in-Pieces-clause-sent
returns-in_ok-piece-in-Pieces-clause-sent c = c.in_ok-piece-in-Pieces.ensures.sent

pub returns-in-Pieces-2-clause-next : goal.returns-in-Pieces-2-clause-next
returns-in-Pieces-2-clause-next c =
    let inside = c.self.inside in
    let left = ap (λ (s : SentFile). s.left) (sym c.self.view_is) ∙ left_in_pieces inside.stage inside.name inside.file.now inside.offset c.in-Pieces-2.is
    ∙ end_left inside.offset inside.file.now (omega (arith, c.if-self.false)) in
    ap (λ (digest : List ℕ). Some (End (length inside.file.now) digest)) c.digest.ensures ∙ sym (ap (λ (l : List FileRecord). slice_get l 0) left)

pub returns-in-Pieces-2-clause-after : goal.returns-in-Pieces-2-clause-after
returns-in-Pieces-2-clause-after c =
    let inside = c.self.inside in
    let left = left_in_pieces inside.stage inside.name inside.file.now inside.offset c.in-Pieces-2.is ∙ end_left inside.offset inside.file.now (omega (arith, c.if-self.false)) in
    sent_next _ _ _ _ _ _ c.self.view_is left
