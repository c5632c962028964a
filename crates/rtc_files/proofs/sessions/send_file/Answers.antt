use Rattle.std.proofs.Common.{ℕ, List, rules, refl, true, false, ◌≡◌, ◌<◌, ◌∙◌, length, get_or, subst}
use Rattle.rtc_files.specs.Sessions.{HoldsSession}
use Rattle.rtc_files.proofs.FileLemmas.{sent_more, sent_all}
use Rattle.rtc_files.proofs.sessions.send_file.Goals as goal
use Rattle.rtc_files.proofs.sessions.send_file.Goals.{then-not-is_whole+in_ok-hold_session, else-not-is_whole}

pub loop-size-preserved : goal.loop-size-preserved
loop-size-preserved c =
    let before = c.loop-size.receiver in
    let place : c.loop-size.size-index < length c.args.sizes.now = search rules in
    elim c.if-not-is_whole.branch [
      | then-not-is_whole+in_ok-hold_session w ↦
          let unended : before.whole ≡ false = search rules in
          let holds = subst (λ (f : List ℕ). HoldsSession f (length before.held) (get_or c.args.sizes.now c.loop-size.size-index 0) w.hold_session.new.receiver) c.loop-size.invariant.file w.in_ok-hold_session.ensures.held in
          record {
            file = rw w.sender-is (w.in_ok-hold_session.ensures.stays.1 ∙ c.loop-size.invariant.file);
            on = rw (w.sender-is, w.receiver-is) w.in_ok-hold_session.ensures.stays.2;
            sent = rw w.receiver-is (sent_more c.args.file.now c.args.sizes.now c.loop-size.size-index (length before.held) (get_or c.args.sizes.now c.loop-size.size-index 0) before w.hold_session.new.receiver place refl refl unended c.loop-size.invariant.sent holds);
          }
      | else-not-is_whole w ↦
          let whole : before.whole ≡ true = search rules in
          record {
            file = rw w.sender-is c.loop-size.invariant.file;
            on = rw (w.sender-is, w.receiver-is) c.loop-size.invariant.on;
            sent = rw w.receiver-is (sent_all c.args.file.now c.args.sizes.now c.loop-size.size-index before place whole c.loop-size.invariant.sent);
          }
    ]
