-- Offers that cross and offers that are rolled back, computed after worked rounds.
use Rattle.std.proofs.Common.{◌≡◌, true, false, List, [], ◌∷◌, Some, refl}
use Rattle.rtc_sdp_values.specs.declared.direction.Direction.TheVariants.{SendRecv, Inactive}
use Rattle.rtc_sdp_values.specs.declared.line_row.LineRow.{LineRow}
use Rattle.rtc_sdp_values.specs.declared.line_row.LineRow.TheVariants.{Media}
use Rattle.rtc_sdp_values.specs.declared.media_kind.MediaKind.TheVariants.{Audio, Video}
use Rattle.rtc_peer_rows.specs.declared.why.Why.TheVariants.{NoLines}
use Rattle.rtc_peer_core.specs.declared.rtc_error.RtcError.TheVariants.{RemoteSdp, Glare}
use Rattle.rtc_run_history.specs.declared.side.Side.TheVariants.{Left, Right}
use Rattle.rtc_run_history.specs.declared.op.Op.TheVariants.{AddMedia, SetDirection}
use Rattle.rtc_run_history.specs.declared.op_answer.OpAnswer.TheVariants.{Mid, Changed}
use Rattle.rtc_run_history.specs.declared.made.Made.TheVariants.{Offer}
use Rattle.rtc_run_history.specs.declared.step.Step.TheVariants.{Negotiate, AcceptOffer, Rollback}
use Rattle.rtc_run_history.specs.declared.outcome.Outcome.TheVariants.{Negotiated, Done, Refused}
use Rattle.rtc_run_history.specs.Past.{Entry, holds_token, is_right}
use Rattle.rtc_run_history.specs.Outstanding.{has_outstanding}
use Rattle.rtc_run_history.specs.Sound.{IsSound, is_glare_at}
use Rattle.rtc_run_history.specs.Undone.{table_undone}
use Rattle.rtc_run_history.specs.Views.{Stances}
use Rattle.rtc_run_history.proofs.LineFacts.{audio_mid, video_mid, here, one_round}
use Rattle.rtc_run_history.proofs.WorkedEntries.{says, entry, plain}

-- the left side is polite, and the right one is not
abbrev roles : Stances
roles Left = record (plain Left) { polite = Some true }
roles Right = record (plain Right) { polite = Some false }

abbrev video_there : LineRow
video_there = Media 0 video_mid Video SendRecv false false

-- each side offers a line
abbrev crossed : List (Entry (Unit {0}))
crossed =
    entry (Negotiate Right (AddMedia Video SendRecv ∷ []) true) (Negotiated (Mid video_mid ∷ []) (Offer 1)) [] [] (says Right true (video_there ∷ []))
    ∷ entry (Negotiate Left (AddMedia Audio SendRecv ∷ []) true) (Negotiated (Mid audio_mid ∷ []) (Offer 0)) [] [] (says Left true (here ∷ []))
    ∷ []

-- both offers await their answers, and the impolite side refuses the other one, where there are roles
left_awaits : has_outstanding Left crossed ≡ true
left_awaits = refl

impolite_refuses : is_glare_at roles Right crossed ≡ true
impolite_refuses = refl

polite_does_not : is_glare_at roles Left crossed ≡ false
polite_does_not = refl

none_without_roles : is_glare_at plain Right crossed ≡ false
none_without_roles = refl

-- a refusal as glare supersedes nothing, and any other supersedes the own offer
abbrev refused_as_glare : List (Entry (Unit {0}))
refused_as_glare = entry (AcceptOffer Right 0) (Refused Glare) [] [] [] ∷ crossed

still_right : is_right Right 1 refused_as_glare ≡ true
still_right = refl

superseded : is_right {E = Unit {0}} Right 1 (entry (AcceptOffer Right 0) (Refused (RemoteSdp NoLines)) [] [] [] ∷ crossed) ≡ false
superseded = refl

-- an offer that was rolled back awaits nothing, and its token is spent
abbrev rolled_back : List (Entry (Unit {0}))
rolled_back = entry (Rollback Left 0) Done [] [] [] ∷ refused_as_glare

left_awaits_nothing : has_outstanding Left rolled_back ≡ false
left_awaits_nothing = refl

left_holds_nothing : holds_token Left 0 rolled_back ≡ false
left_holds_nothing = refl

-- ---- a direction that is taken back

abbrev silent : LineRow
silent = Media 0 audio_mid Audio Inactive false false

abbrev with_direction : List (Entry (Unit {0}))
with_direction = entry (Negotiate Left (SetDirection 0 Inactive ∷ []) true) (Negotiated (Changed true ∷ []) (Offer 2)) (silent ∷ []) [] (says Left true (silent ∷ [])) ∷ one_round

direction_undone : table_undone Left 2 with_direction ≡ record { lines = here ∷ []; channels = [] }
direction_undone = refl

direction_taken_back : IsSound {E = Unit {0}} plain with_direction plain (Rollback Left 2) Done (Some (record { lines = here ∷ []; channels = [] })) []
direction_taken_back = refl
