use Rattle.std.proofs.Common.{◌≡◌, length}
use Rattle.rtc_files.proofs.SessionLemmas.{InSession}
use Rattle.rtc_files.proofs.sessions.hold_session.Given as goal

-- so many records of this session were sent
abbrev pub invariant-loop-sent : goal.invariant-loop-sent
invariant-loop-sent l = record {
  name : l.sender.name ≡ l.fn.sender.name;
  file : l.sender.file ≡ l.fn.sender.file;
  session : InSession l.sender.name l.sender.file (length l.fn.receiver.held) l._sent l.sender l.receiver;
}
