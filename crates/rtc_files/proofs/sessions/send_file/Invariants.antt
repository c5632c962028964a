use Rattle.std.proofs.Common.{◌≡◌}
use Rattle.rtc_files.specs.Sessions.{CanGoOn}
use Rattle.rtc_files.proofs.FileLemmas.{SentIn}
use Rattle.rtc_files.proofs.sessions.send_file.Given as goal

-- what came over in the sessions so far
abbrev pub invariant-loop-size : goal.invariant-loop-size
invariant-loop-size l = record {
  file : l.sender.file ≡ l.file;
  on : CanGoOn l.sender l.receiver;
  sent : SentIn l.file l.sizes l.size-index l.receiver;
}
