-- The words of outcomes.
use Rattle.std.specs.Prelude.{ℕ, Bool, true, false, List, [], ◌∷◌, ◌++◌, flat_map, length, codes}
use Rattle.std.specs.Fmt.{decimal}
use Rattle.rtc_peer_core.specs.RtcErrorText.{rtc_error_text}
use Rattle.rtc_peer_core.specs.declared.rtc_error.RtcError.{RtcError}
use Rattle.rtc_peer_core.specs.declared.rtc_error.RtcError.TheVariants.{RemoteSdp, Sdp, Net, Dtls, Sctp, Media}
use Rattle.rtc_peer_core.specs.declared.rtc_error.RtcError.TheVariants.{ChangesOutOfOrder, BadChannel, Alloc as PeerAlloc, Glare}
use Rattle.rtc_run_history.specs.declared.made.Made.{Made}
use Rattle.rtc_run_history.specs.declared.made.Made.TheVariants.{NotAsked, Nothing, Offer, Alloc as MadeAlloc}
use Rattle.rtc_run_history.specs.declared.op_answer.OpAnswer.{OpAnswer}
use Rattle.rtc_run_history.specs.declared.op_answer.OpAnswer.TheVariants.{Mid, Changed, NoLine, Channel, Creds}
use Rattle.rtc_run_history.specs.declared.op_answer.OpAnswer.TheVariants.{BadChannel as NoChannel, Alloc as OpAlloc}
use Rattle.rtc_run_history.specs.declared.outcome.Outcome.{Outcome}
use Rattle.rtc_run_history.specs.declared.outcome.Outcome.TheVariants.{Negotiated, Answered, Finished, Done, Wrote, Polled}
use Rattle.rtc_run_history.specs.declared.outcome.Outcome.TheVariants.{Refused, NoSuch, Alloc}

-- the word for running out of memory
abbrev pub no_memory : List ℕ
no_memory = codes "nomemory"

-- whether a line was changed, or a message taken
abbrev pub truth_text : Bool → List ℕ
truth_text true = codes "true"
truth_text false = codes "false"

-- the result of an operation
abbrev pub op_answer_text : OpAnswer → List ℕ
op_answer_text (Mid mid) = mid
op_answer_text (Changed changed) = truth_text changed
op_answer_text NoLine = codes "none"
op_answer_text (Channel id) = codes "c" ++ decimal id
op_answer_text NoChannel = codes "bad"
op_answer_text (Creds creds) = creds.ufrag
op_answer_text OpAlloc = no_memory

-- results behind the first, each behind a comma
abbrev pub more_answers : List OpAnswer → List ℕ
more_answers answers = flat_map (λ answer. codes "," ++ op_answer_text answer) answers

-- results parted by commas; a dash for none
abbrev pub answers_text : List OpAnswer → List ℕ
answers_text [] = codes "-"
answers_text (first ∷ answers) = op_answer_text first ++ more_answers answers

-- the number of the offer that was made; a dash if none was
abbrev pub made_text : Made → List ℕ
made_text NotAsked = codes "-"
made_text Nothing = codes "-"
made_text (Offer number) = decimal number
made_text MadeAlloc = no_memory

-- a refusal: its number, and what the error prints
abbrev pub refusal_text : RtcError → List ℕ
refusal_text (RemoteSdp why) = codes "refused 1 " ++ rtc_error_text (RemoteSdp why)
refusal_text (Sdp error) = codes "refused 2 " ++ rtc_error_text (Sdp error)
refusal_text (Net error) = codes "refused 3 " ++ rtc_error_text (Net error)
refusal_text (Dtls error) = codes "refused 4 " ++ rtc_error_text (Dtls error)
refusal_text (Sctp error) = codes "refused 5 " ++ rtc_error_text (Sctp error)
refusal_text (Media error) = codes "refused 6 " ++ rtc_error_text (Media error)
refusal_text ChangesOutOfOrder = codes "refused 7 " ++ rtc_error_text ChangesOutOfOrder
refusal_text BadChannel = codes "refused 8 " ++ rtc_error_text BadChannel
refusal_text PeerAlloc = no_memory
refusal_text Glare = codes "refused 10 " ++ rtc_error_text Glare

-- the words of an outcome
abbrev pub outcome_text : {E : Type 0} → Outcome E → List ℕ
outcome_text (Negotiated answers made) = codes "ops " ++ answers_text answers ++ codes " text " ++ made_text made
outcome_text (Answered text) = codes "answered " ++ decimal text
outcome_text Finished = codes "finished"
outcome_text Done = codes "done"
outcome_text (Wrote taken) = codes "wrote " ++ truth_text taken
outcome_text (Polled outputs end) = codes "polled " ++ decimal (length outputs)
outcome_text (Refused error) = refusal_text error
outcome_text NoSuch = codes "nosuch"
outcome_text Alloc = no_memory
