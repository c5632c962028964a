use Rattle.std.proofs.Common.{rules, refl, ◌≡◌, ◌∙◌, length}
use Rattle.rtc_file_records.specs.declared.file_error.FileError.TheVariants.{Alloc}
use Rattle.rtc_files.proofs.SessionLemmas.{session_more, session_over, session_full, session_lacks}
use Rattle.rtc_files.proofs.sessions.hold_session.Goals as goal

pub returns-in_err-send_record-clause-lacking : goal.returns-in_err-send_record-clause-lacking
returns-in_err-send_record-clause-lacking c =
    let is : c.in_err-send_record.field-0.0 ≡ Alloc = session_lacks c.loop-sent.sender.name c.loop-sent.sender.file (length c.args.receiver.now.held) c.loop-sent._sent c.loop-sent.sender c.send_record.new.sender c.loop-sent.receiver c.send_record.new.receiver
    c.in_err-send_record.field-0.0 c.loop-sent.invariant.session c.in_err-send_record.ensures in
    search rules

pub returns-then-not-branch-clause-held : goal.returns-then-not-branch-clause-held
returns-then-not-branch-clause-held c =
    session_over (length c.args.receiver.now.held) c.loop-sent._sent c.args.size c.loop-sent.sender c.send_record.new.sender c.loop-sent.receiver c.send_record.new.receiver c.args.sender.now.file
    c.in_ok-send_record.field-0 (search rules) c.loop-sent.invariant.file (search rules) c.loop-sent.invariant.session c.in_ok-send_record.ensures

pub loop-sent-preserved : goal.loop-sent-preserved
loop-sent-preserved c =
    let more = session_more (length c.args.receiver.now.held) c.loop-sent._sent c.loop-sent.sender c.send_record.new.sender c.loop-sent.receiver c.send_record.new.receiver c.args.receiver.now.held c.args.sender.now.file
    c.in_ok-send_record.field-0 (search rules) c.loop-sent.invariant.file c.requires.start.held refl c.loop-sent.invariant.session c.in_ok-send_record.ensures in
    record { name = more.0 ∙ c.loop-sent.invariant.name; file = more.1 ∙ c.loop-sent.invariant.file; session = more.2 }

pub returns-clause-held : goal.returns-clause-held
returns-clause-held c = session_full (length c.args.receiver.now.held) c.loop-sent._sent c.args.size c.loop-sent.sender c.loop-sent.receiver c.args.sender.now.file c.loop-sent.invariant.file (search rules) c.loop-sent.invariant.session
