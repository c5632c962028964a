use Rattle.std.proofs.Common.{rules, ◌≡◌, ◌∙◌, ◌+◌, ◌-◌, ap, sym, subst, take, drop}
use Rattle.rtc_file_records.specs.declared.file_record.FileRecord.{FileRecord}
use Rattle.rtc_file_records.specs.declared.file_record.FileRecord.TheVariants.{Piece}
use Rattle.rtc_file_records.specs.Records.{CanBeSent}
use Rattle.rtc_file_records.proofs.PieceLemmas.{piece_cut, piece_sent}
use Rattle.rtc_file_records.proofs.file_sender.piece_at.Goals as goal

pub returns-clause-piece : goal.returns-clause-piece
returns-clause-piece c =
    let offset = c.args.offset in
    let cut : c.new.result ≡ take (offset + c.min-count.result - offset) (drop offset c.args.file.now) = search rules in
    ap (Piece offset) (cut ∙ piece_cut c.args.file.now offset c.min-count.result c.min-count.ensures)

pub returns-clause-sent : goal.returns-clause-sent
returns-clause-sent c =
    let offset = c.args.offset in
    let cut : c.new.result ≡ take (offset + c.min-count.result - offset) (drop offset c.args.file.now) = search rules in
    subst (λ (made : FileRecord). CanBeSent made) (sym (ap (Piece offset) (cut ∙ piece_cut c.args.file.now offset c.min-count.result c.min-count.ensures))) (piece_sent c.args.file.now offset c.requires)
