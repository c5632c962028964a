-- Steps that set and stop lines, computed: which replies they may have after worked rounds.
use Rattle.std.proofs.Common.{ℕ, true, false, List, [], ◌∷◌, Some, refl}
use Rattle.std.specs.Prelude.{codes}
use Rattle.rtc_sdp_values.specs.declared.direction.Direction.TheVariants.{SendRecv, SendOnly, RecvOnly, Inactive}
use Rattle.rtc_sdp_values.specs.declared.media_kind.MediaKind.TheVariants.{Audio, Video}
use Rattle.rtc_sdp_values.specs.declared.line_row.LineRow.{LineRow}
use Rattle.rtc_sdp_values.specs.declared.line_row.LineRow.TheVariants.{Media}
use Rattle.rtc_run_history.specs.declared.side.Side.TheVariants.{Left, Right}
use Rattle.rtc_run_history.specs.declared.op.Op.TheVariants.{AddMedia, SetDirection, StopMedia}
use Rattle.rtc_run_history.specs.declared.op_answer.OpAnswer.TheVariants.{Mid, Changed, NoLine}
use Rattle.rtc_run_history.specs.declared.made.Made.TheVariants.{NotAsked, Offer}
use Rattle.rtc_run_history.specs.declared.step.Step.TheVariants.{Negotiate, AcceptOffer, AcceptAnswer}
use Rattle.rtc_run_history.specs.declared.outcome.Outcome.TheVariants.{Negotiated, Answered, Finished}
use Rattle.rtc_run_history.specs.Past.{Entry}
use Rattle.rtc_run_history.specs.Sound.{IsSound}
use Rattle.rtc_run_history.proofs.WorkedEntries.{says, entry, plain}

abbrev pub audio_mid : List ℕ
audio_mid = codes "m3"

abbrev pub video_mid : List ℕ
video_mid = codes "m7"

abbrev pub here : LineRow
here = Media 0 audio_mid Audio SendRecv false false

abbrev pub there : LineRow
there = Media 0 audio_mid Audio SendRecv false true

-- a round of one audio line, offered by the left side
abbrev pub one_round : List (Entry (Unit {0}))
one_round =
    entry (AcceptAnswer Left 0 1) Finished (here ∷ []) [] []
    ∷ entry (AcceptOffer Right 0) (Answered 1) (there ∷ []) [] (says Right false (there ∷ []))
    ∷ entry (Negotiate Left (AddMedia Audio SendRecv ∷ []) true) (Negotiated (Mid audio_mid ∷ []) (Offer 0)) [] [] (says Left true (here ∷ []))
    ∷ []

-- where no line stands, none is set and none is stopped
no_lines_there : IsSound {E = Unit {0}} plain one_round plain (Negotiate Left (SetDirection 3 Inactive ∷ StopMedia 3 ∷ []) false) (Negotiated (NoLine ∷ NoLine ∷ []) NotAsked) (Some (record { lines = here ∷ []; channels = [] })) []
no_lines_there = ((refl, (refl, refl)), tt, refl)

-- ---- the only line is stopped

abbrev pub halted : LineRow
halted = Media 0 audio_mid Audio Inactive true false

only_line_stopped : IsSound {E = Unit {0}} plain one_round plain (Negotiate Left (StopMedia 0 ∷ []) true) (Negotiated (Changed true ∷ []) (Offer 2)) (Some (record { lines = halted ∷ []; channels = [] })) (says Left true (halted ∷ []))
only_line_stopped = (((refl, refl), refl), refl, refl)

abbrev pub with_halted : List (Entry (Unit {0}))
with_halted = entry (Negotiate Left (StopMedia 0 ∷ []) true) (Negotiated (Changed true ∷ []) (Offer 2)) (halted ∷ []) [] (says Left true (halted ∷ [])) ∷ one_round

-- ---- a line of a superseded offer

abbrev pub video_here : LineRow
video_here = Media 1 video_mid Video SendRecv false false

abbrev pub video_there : LineRow
video_there = Media 1 video_mid Video SendRecv false true

abbrev pub sending : LineRow
sending = Media 0 audio_mid Audio SendOnly false false

abbrev pub receiving : LineRow
receiving = Media 0 audio_mid Audio RecvOnly false true

-- the right side accepts a video line, whose offer the left side then supersedes
abbrev pub with_lost_offer : List (Entry (Unit {0}))
with_lost_offer =
    entry (AcceptOffer Right 4) (Answered 5) (receiving ∷ video_there ∷ []) [] (says Right false (receiving ∷ video_there ∷ []))
    ∷ entry (Negotiate Left (SetDirection 0 SendOnly ∷ []) true) (Negotiated (Changed true ∷ []) (Offer 4)) (sending ∷ []) [] (says Left true (sending ∷ []))
    ∷ entry (AcceptOffer Right 2) (Answered 3) (there ∷ video_there ∷ []) [] (says Right false (there ∷ video_there ∷ []))
    ∷ entry (Negotiate Left (AddMedia Video SendRecv ∷ []) true) (Negotiated (Mid video_mid ∷ []) (Offer 2)) (here ∷ []) [] (says Left true (here ∷ video_here ∷ []))
    ∷ one_round
