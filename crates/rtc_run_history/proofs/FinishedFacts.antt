-- Rounds worked by hand, computed: what a finished round leaves and what it may not.
use Rattle.std.proofs.Common.{ℕ, true, false, List, [], ◌∷◌, refl, inl, inr}
use Rattle.std.specs.Prelude.{codes}
use Rattle.rtc_sdp_values.specs.declared.direction.Direction.TheVariants.{SendRecv, SendOnly, RecvOnly, Inactive}
use Rattle.rtc_sdp_values.specs.declared.line_row.LineRow.{LineRow}
use Rattle.rtc_sdp_values.specs.declared.line_row.LineRow.TheVariants.{Media, App}
use Rattle.rtc_sdp_values.specs.declared.media_kind.MediaKind.TheVariants.{Audio, Video}
use Rattle.rtc_run_history.specs.Finished.{FinishedRound}

abbrev first : List ℕ
first = codes "m3"

abbrev second : List ℕ
second = codes "m7"

-- an audio line is offered in both directions and answered
audio_both_ways : FinishedRound [] (Media 0 first Audio SendRecv false false ∷ []) [] (Media 0 first Audio SendRecv false true ∷ []) (Media 0 first Audio SendRecv false false ∷ [])
audio_both_ways = record { agreed = (refl, tt); equal = ((refl, refl), tt); mirrored = (inr (refl, refl, refl), tt) }

-- a line that is offered to send alone is received at the answerer
sent_one_way : FinishedRound [] (Media 0 first Audio SendOnly false false ∷ []) [] (Media 0 first Audio RecvOnly false true ∷ []) (Media 0 first Audio SendOnly false false ∷ [])
sent_one_way = record { agreed = (refl, tt); equal = ((refl, refl), tt); mirrored = (inr (refl, refl, refl), tt) }

-- the answerer stopped the second line before it answered: it is stopped at both ends
stopped_by_answerer : FinishedRound
    []
    (Media 0 first Audio SendRecv false false ∷ Media 1 second Video SendRecv false false ∷ [])
    (Media 0 first Audio SendRecv false true ∷ Media 1 second Video Inactive true true ∷ [])
    (Media 0 first Audio SendRecv false true ∷ Media 1 second Video Inactive true true ∷ [])
    (Media 0 first Audio SendRecv false false ∷ Media 1 second Video Inactive true false ∷ [])
stopped_by_answerer = record { agreed = (refl, (refl, tt)); equal = ((refl, refl), ((refl, refl), tt)); mirrored = (inr (refl, refl, refl), (inl (refl, refl), tt)) }

-- the answerer created the line and made it inactive: an offer to receive alone does not make it send
silent_answerer : FinishedRound
    (Media 0 first Audio RecvOnly false true ∷ [])
    []
    (Media 0 first Audio Inactive false false ∷ [])
    (Media 0 first Audio Inactive false false ∷ [])
    (Media 0 first Audio Inactive false true ∷ [])
silent_answerer = record { agreed = (refl, tt); equal = ((refl, refl), tt); mirrored = (inr (refl, refl, refl), tt) }

-- a line of data channels that is added has the mid of the answerer's
channels_at_both_ends : FinishedRound
    (Media 0 first Audio SendRecv false false ∷ [])
    (App 1 second ∷ [])
    (Media 0 first Audio SendRecv false true ∷ [])
    (Media 0 first Audio SendRecv false true ∷ App 1 second ∷ [])
    (Media 0 first Audio SendRecv false false ∷ App 1 second ∷ [])
channels_at_both_ends = record { agreed = (refl, (refl, tt)); equal = ((refl, refl), (tt, tt)); mirrored = (inr (refl, refl, refl), (tt, tt)) }

-- the added rows are not left out
added_row_missing : (answerer : List LineRow) → FinishedRound [] (Media 0 first Audio SendRecv false false ∷ []) [] answerer [] → ⊥
added_row_missing answerer finished = finished.agreed

-- the offerer does not have the answerer's direction
answerers_direction : (answerer : List LineRow) → FinishedRound [] (Media 0 first Audio SendOnly false false ∷ []) [] answerer (Media 0 first Audio RecvOnly false false ∷ []) → ⊥
answerers_direction answerer finished = absurd (cc)

-- a line that the answerer stopped is not live at the offerer
live_at_offerer : (answerer : List LineRow)
    → FinishedRound [] (Media 0 first Audio SendRecv false false ∷ []) (Media 0 first Audio Inactive true true ∷ []) answerer (Media 0 first Audio SendRecv false false ∷ []) → ⊥
live_at_offerer answerer finished = absurd (cc)
