-- What the replies of a run print of hash functions is in one line.
use Rattle.std.proofs.Common.{◌≡◌, ℕ, false, List, [], ◌∷◌, refl}
use Rattle.rtc_wire_text.specs.Cuts.{Lacks}
use Rattle.rtc_peer_rows.specs.declared.why.Why.{Why}
use Rattle.rtc_peer_rows.specs.declared.why.Why.TheVariants.{UnknownHash}
use Rattle.rtc_peer_core.specs.declared.rtc_error.RtcError.{RtcError}
use Rattle.rtc_peer_core.specs.declared.rtc_error.RtcError.TheVariants.{RemoteSdp}
use Rattle.rtc_plain_ice.specs.Messages.{is_ice_message}
use Rattle.rtc_plain_media.specs.declared.plain_media_event.PlainMediaEvent.{PlainMediaEvent}
use Rattle.rtc_run_history.specs.declared.outcome.Outcome.{Outcome}
use Rattle.rtc_run_history.specs.declared.outcome.Outcome.TheVariants.{Polled, Refused}
use Rattle.rtc_run_history.specs.declared.poll_end.PollEnd.{PollEnd}
use Rattle.rtc_run_history.specs.declared.poll_end.PollEnd.TheVariants.{Refused as EndRefused}
use Rattle.rtc_run_history.specs.declared.reply.Reply.{Reply}
use Rattle.rtc_run_history.specs.declared.step.Step.{Step}
use Rattle.rtc_run_history.specs.Fresh.{IsFresh}
use Rattle.rtc_run_history.specs.Runs.{Runs}
use Rattle.rtc_run_laws.proofs.HashCauses.{WhyNames}
use Rattle.rtc_run_laws.proofs.HashRuns.{EndNames, ErrorNames, OutcomeNames, RepliesName, runs_name}
use Rattle.rtc_run_laws.proofs.StepsExchange.{plain_over_laws}
use Rattle.rtc_run.specs.ProgramPair.{PlainPairState, counting, plain_parts}
use Rattle.rtc_script_reports.specs.Fits.{AreInLine, IsEndInLine, IsErrorInLine, IsHashInLine, IsOutcomeInLine, breaks}

unbroken : (text : List ℕ) → Lacks 10 text → breaks text ≡ false
unbroken [] h = refl
unbroken (byte ∷ bytes) h = rw (h.0, unbroken bytes h.1) refl

why_in_line : (why : Why) → WhyNames why → IsHashInLine why
why_in_line (UnknownHash name) h = unbroken name h
why_in_line _ h = tt

error_in_line : (error : RtcError) → ErrorNames error → IsErrorInLine error
error_in_line (RemoteSdp why) h = why_in_line why h
error_in_line _ h = tt

end_in_line : (end : PollEnd) → EndNames end → IsEndInLine end
end_in_line (EndRefused error) h = error_in_line error h
end_in_line _ h = tt

outcome_in_line : {E : Type 0} (outcome : Outcome E) → OutcomeNames outcome → IsOutcomeInLine outcome
outcome_in_line (Polled outputs end) h = end_in_line end h
outcome_in_line (Refused error) h = error_in_line error h
outcome_in_line _ h = tt

replies_in_line : {E : Type 0} (replies : List (Reply E)) → RepliesName replies → AreInLine replies
replies_in_line [] h = tt
replies_in_line (reply ∷ replies) h = (outcome_in_line reply.outcome h.0, replies_in_line replies h.1)

-- so it is of a run from a fresh pair
pub run_in_line : (start pair : PlainPairState) (steps : List Step) (replies : List (Reply PlainMediaEvent)) → IsFresh plain_parts start
    → Runs plain_parts is_ice_message start steps replies pair → AreInLine replies
run_in_line start pair steps replies fresh run =
    replies_in_line replies (runs_name plain_parts is_ice_message (plain_over_laws counting) start pair steps replies fresh run)
