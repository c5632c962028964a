-- Steps that restart ICE, and what sides know of each other, computed.
use Rattle.std.proofs.Common.{◌≡◌, true, false, List, [], ◌∷◌, Some, refl}
use Rattle.rtc_sdp_values.specs.declared.direction.Direction.TheVariants.{SendOnly}
use Rattle.rtc_sdp_values.specs.declared.line_row.LineRow.{LineRow}
use Rattle.rtc_sdp_values.specs.declared.media_kind.MediaKind.TheVariants.{Audio}
use Rattle.rtc_sdp_values.specs.declared.direction.Direction.TheVariants.{SendRecv}
use Rattle.rtc_parts.specs.declared.dtls_error.DtlsError.TheVariants.{Fault}
use Rattle.rtc_sctp_values.specs.declared.proto_error.ProtoError.TheVariants.{Fault as AssociationFault}
use Rattle.rtc_sctp_values.specs.declared.sctp_error.SctpError.TheVariants.{Proto}
use Rattle.rtc_peer_core.specs.declared.rtc_error.RtcError.TheVariants.{Dtls, Sctp}
use Rattle.rtc_run_history.specs.declared.side.Side.TheVariants.{Left, Right}
use Rattle.rtc_run_history.specs.declared.op.Op.TheVariants.{AddMedia, SetDirection, IceRestart}
use Rattle.rtc_run_history.specs.declared.op_answer.OpAnswer.TheVariants.{Mid, Changed, Creds}
use Rattle.rtc_run_history.specs.declared.made.Made.TheVariants.{Nothing, Offer}
use Rattle.rtc_run_history.specs.declared.step.Step.TheVariants.{Negotiate, AcceptOffer}
use Rattle.rtc_run_history.specs.declared.outcome.Outcome.TheVariants.{Negotiated, Answered, Refused}
use Rattle.rtc_run_history.specs.declared.table.Table.{Table}
use Rattle.rtc_run_history.specs.Past.{Entry, MadeSdp, restarts_by}
use Rattle.rtc_run_history.specs.Sound.{IsSound}
use Rattle.rtc_run_history.specs.Views.{Stances, is_firm}
use Rattle.rtc_run_history.proofs.LineFacts.{here, there, one_round, sending, receiving}
use Rattle.rtc_run_history.proofs.WorkedEntries.{says, says_with, entry, plain, worked_creds, other_creds}

abbrev pub shows : List LineRow → Table
shows rows = record { lines = rows; channels = [] }

-- ---- a restart is offered

restart_offered : (made : List MadeSdp) → IsSound {E = Unit {0}} plain one_round plain (Negotiate Left (IceRestart true ∷ []) true) (Negotiated (Creds other_creds ∷ []) (Offer 2)) (Some (shows (here ∷ []))) made
restart_offered made = (refl, refl, refl)

restart_not_offered : (made : List MadeSdp) (table : Table) → IsSound {E = Unit {0}} plain one_round plain (Negotiate Left (IceRestart true ∷ []) true) (Negotiated (Creds other_creds ∷ []) Nothing) (Some table) made → ⊥
restart_not_offered made table sound = sound.1

abbrev pub restarted : List (Entry (Unit {0}))
restarted =
    entry (Negotiate Left (IceRestart true ∷ []) true) (Negotiated (Creds other_creds ∷ []) (Offer 2)) (here ∷ []) [] (says_with other_creds false Left true (here ∷ []))
    ∷ one_round

restart_told : restarts_by 2 restarted ≡ true
restart_told = refl

no_restart_told : restarts_by 0 restarted ≡ false
no_restart_told = refl

abbrev pub answered : List (Entry (Unit {0}))
answered = entry (AcceptOffer Right 2) (Answered 3) (there ∷ []) [] (says_with other_creds false Right false (there ∷ [])) ∷ restarted

-- ---- an answer restarts ICE, and its offer did not

abbrev pub unasked : List (Entry (Unit {0}))
unasked =
    entry (AcceptOffer Right 2) (Answered 3) (receiving ∷ []) [] (says_with other_creds false Right false (receiving ∷ []))
    ∷ entry (Negotiate Left (SetDirection 0 SendOnly ∷ []) true) (Negotiated (Changed true ∷ []) (Offer 2)) (sending ∷ []) [] (says Left true (sending ∷ []))
    ∷ one_round

-- ---- a part fails

abbrev pub broken : List (Entry (Unit {0}))
broken = entry (AcceptOffer Right 2) (Refused (Dtls Fault)) (there ∷ []) [] [] ∷ restarted

-- from then on the past does not tell what the side knows
broken_side : is_firm Right broken ≡ false
broken_side = refl

other_side_firm : is_firm Left broken ≡ true
other_side_firm = refl

unstarted_side : is_firm Right (entry (AcceptOffer Right 2) (Refused (Sctp (Proto AssociationFault))) (there ∷ []) [] [] ∷ restarted) ≡ false
unstarted_side = refl

-- ---- both sides are lite

abbrev pub lite_sides : Stances
lite_sides at = record (plain at) { ice = record (plain at).ice { lite = true } }

abbrev pub lite_offer : List (Entry (Unit {0}))
lite_offer =
    entry (Negotiate Left (AddMedia Audio SendRecv ∷ []) true) (Negotiated (Mid (109 ∷ 51 ∷ []) ∷ []) (Offer 0)) [] [] (says_with worked_creds true Left true (here ∷ []))
    ∷ []
